-- The number, the place and the buffers after each call.
use mathlib.Core.Path.{◌≡◌, refl, sym, ap, subst, subst₂}
use mathlib.Core.Bool.{Bool, true, false, not}
use mathlib.Core.Option.{some}
use mathlib.Core.List.{List, [], ◌∷◌}
use Prim.Native.Nat.{ℕ, zero, suc, ◌-◌, ◌*◌, ◌<◌, ◌≤◌}
use native.Mathlib.Omega.{arith}
use lib.Dec.{T, leb, leb→le, ltb→lt}
use lib.ListN.{length, get_or, replicate}
use Rattle.definitions.specs.Limits.{Limits}
use Rattle.definitions.specs.Lists.{◌then◌, choose, between}
use Rattle.definitions.specs.Monomial.{Vector, Level, vector_of}
use Rattle.definitions.specs.Result.{Result}
use Rattle.definitions.specs.Stage.{highest}
use Rattle.definitions.specs.Lifting.{Lifting}
use Rattle.definitions.specs.Problem.{Bytes, Parameters}
use Rattle.definitions.specs.State.{State, has_level?, up_to, vector_sound?, levels_sound?, sound?}
use Rattle.definitions.specs.Calls.{Reply, refuse, settled, lift, fetch, eleven?, pick_code?, lifts?, fetches?, read_reply, lift_reply, fetch_reply}
use Rattle.definitions.specs.Layout.{Words, zeros, padded, rows_of, state_words, encode, meant, Way, division, lifting_by, work_words, out_words, long_enough?}
use Rattle.definitions.specs.Layout.{read_left, read_call, Lift, lift_left, lift_call, Fetch, fetch_left, fetch_call}
use Rattle.laws.proofs.Tests.{and_left, and_right, between_low, between_high, every_at}
use Rattle.laws.proofs.Sound.{SoundVector, vector_says, level_says}
use Rattle.laws.proofs.Refusals.{encode_empty}
use Rattle.laws.proofs.Rows.{length_rows_of}
use Rattle.definitions.specs.Places.{row_length}
use Rattle.demands.specs.Demands
use Rattle.demands.specs.Demands.{sensible?, out_long_enough?, no_basis, limit_met, RefusedReading, ill_formed, not_accepted}
use Rattle.demands.specs.Demands.{ReadForm, accepted_as, LiftForm, lifted_as, FetchForm, fetched_as}
use Rattle.demands.proofs.Results.{Holds, holds, nothing}
use Rattle.demands.proofs.Lifts
use Rattle.demands.proofs.Lifts.{LiftedTo, one_more, still_lifting, lifted_to, levels_stay, height_up_to, with_level, not_eleven}
use Rattle.demands.proofs.Sheets.{Reading, taken, refused_reading, still_reading, reading}

-- an empty vector, followed by zeros
all_zeros : (words : Words) → padded (length words) [] ≡ zeros words
all_zeros words = let e : length words - 0 ≡ length words = omega arith in ap (λ n. replicate n 0) e

module _ (lim : Limits) (o : T (sensible? lim)) where
  -- ## Rows have room

  rows_room : (most : ℕ) (v : Vector) → length v ≤ most → (words : Words) → most * row_length ≤ length words → length (rows_of v) ≤ length words
  rows_room most v l words r = omega (arith, length_rows_of v)

  -- ## Reading

  pub long_state : (way : Way) (state work : Words) → T (long_enough? lim way state work) → state_words lim ≤ length state
  long_state way state work t = leb→le (state_words lim) (length state)
      (and_left (leb (state_words lim) (length state)) (leb (work_words lim way) (length work)) t)

  long_work : (way : Way) (state work : Words) → T (long_enough? lim way state work) → work_words lim way ≤ length work
  long_work way state work t = leb→le (work_words lim way) (length work)
      (and_right (leb (state_words lim) (length state)) (leb (work_words lim way) (length work)) t)

  value_room : (file : Bytes) (state work : Words) → T (long_enough? lim division state work) → {number place : ℕ} {value : Vector}
      → RefusedReading lim file number place value
      → length (rows_of value) ≤ length work
  value_room file state work t (ill_formed b) = omega arith
  value_room file state work t (not_accepted (limit_met b w d l)) = omega arith
  value_room file state work t (not_accepted {q} (no_basis {value = value} b w d i s)) =
      let r : lim.working * row_length ≤ length work = long_work division state work t in
      rows_room lim.working value s.short work (omega arith)

  pub read_form : (n : ℕ) (file : Bytes) (state work : Words) → Holds (ReadForm lim file state work) (read_call lim n file state work)
  read_form n file state work = go (long_enough? lim division state work) (λ t. t) (λ t. t)
    where
      settles : T (long_enough? lim division state work) → {x : Result State} → Reading lim file x
          → Holds (ReadForm lim file state work) (settled x then λ a. some (read_left lim state work a))
      settles t (taken {q} {f} e s) =
          holds (subst (λ z. ReadForm lim file state work (0, 0, encode lim (length state) (record { parameters = q; levels = f ∷ [] }), z))
          (sym (all_zeros work)) (accepted_as t e))
      settles t (refused_reading {number} {place} {value} r) =
          holds (subst (λ z. ReadForm lim file state work (number, place, z, padded (length work) (rows_of value)))
          (sym (encode_empty lim (length state) (long_state division state work t)))
          (Demands.ReadForm.refused_as t r (value_room file state work t r)))
      settles t still_reading = nothing

      go : (b : Bool) → (T b → T (long_enough? lim division state work)) → (T (not b) → T (not (long_enough? lim division state work)))
          → Holds (ReadForm lim file state work) (read_reply lim n (meant lim state) b file then λ a. some (read_left lim state work a))
      go true y z = settles (y tt) (reading lim o n file)
      go false y z = holds (Demands.ReadForm.too_short (z tt))

  -- ## Lifting

  pub lift_form : (n k : ℕ) (way : Way) (state work cache : Words) → Holds (LiftForm lim k way state work cache)
      (lift_call lim n k way state work cache)
  lift_form n k way state work cache = go (long_enough? lim way state work) (λ t. t) (λ t. t)
    where
      X : State
      X = meant lim state

      by : Lifting
      by = lifting_by lim way work cache

      left : Reply → Lift
      left a = lift_left lim state work cache a

      Form : Lift → Type 0
      Form = LiftForm lim k way state work cache

      settles : T (long_enough? lim way state work) → T (not (eleven? lim X k (k - 1))) → T (lifts? lim k by) → T (sound? lim X)
          → T (between 1 k lim.levels)
          → T (has_level? X (k - 1)) → {x : Result State}
          → lift lim n X k by ≡ x → LiftedTo lim X k x
          → Holds Form (settled x then λ a. some (left a))
      settles t u y s r c e (one_more g w) =
          let l : k - 1 < length X.levels = ltb→lt (k - 1) (length X.levels) c in
          holds (subst (λ z. Form (
            0,
            0,
            encode lim (length state) (record { parameters = X.parameters; levels = g ∷ up_to X (k - 1) }),
            z,
            zeros cache,
          ))
          (sym (all_zeros work)) (lifted_as X g w.bound t refl u y w.reckons (with_level lim X s k r l g w.sound)))
      settles t u y s r c e (Lifts.limit_met {number} l) =
          holds (subst₂ (λ y z. Form (number, k, y, z, zeros cache)) (sym (encode_empty lim (length state) (long_state way state work t)))
          (sym (all_zeros work)) (Demands.LiftForm.refused_as n t u y e l))
      settles t u y s r c e still_lifting = nothing

      twelve : T (long_enough? lim way state work) → T (not (eleven? lim X k (k - 1))) → T (sound? lim X)
          × (T (between 1 k lim.levels) → T (has_level? X (k - 1)))
          → (b : Bool) → (T b → T (lifts? lim k by)) → (T (not b) → T (not (lifts? lim k by)))
          → Holds Form (choose (not b) (some (refuse 12 X)) (settled (lift lim n X k by)) then λ a. some (left a))
      twelve t u s true r z =
          let d : T (between 1 k lim.levels) = and_left (between 1 k lim.levels) (pick_code? by) (r tt) in
          settles t u (r tt) s.0 d (s.1 d) refl (lifted_to lim o X s.0 k by n)
      twelve t u s false r z = holds (Demands.LiftForm.no_number t u (z tt))

      eleven : T (long_enough? lim way state work) → (b : Bool) → (T b → T (eleven? lim X k (k - 1))) → (T (not b) → T (not (eleven? lim X k (k - 1))))
          → ((T b → ⊥) → T (sound? lim X) × (T (between 1 k lim.levels) → T (has_level? X (k - 1))))
          → Holds Form (choose b (some (refuse 11 X)) (choose (not (lifts? lim k by)) (some (refuse 12 X)) (settled (lift lim n X k by)))
          then λ a. some (left a))
      eleven t true y z s = holds (Demands.LiftForm.no_level t (y tt))
      eleven t false y z s = twelve t (z tt) (s (λ x. x)) (lifts? lim k by) (λ x. x) (λ x. x)

      go : (b : Bool) → (T b → T (long_enough? lim way state work)) → (T (not b) → T (not (long_enough? lim way state work)))
          → Holds Form (lift_reply lim n X b k by then λ a. some (left a))
      go true y z = eleven (y tt) (eleven? lim X k (k - 1)) (λ t. t) (λ t. t) (not_eleven lim X k (k - 1))
      go false y z = holds (Demands.LiftForm.too_short (z tt))

  -- ## Fetching

  -- a vector above level 0 has room
  vector_in : (q : Parameters) (levels : List Level) (v : ℕ) → T (levels_sound? lim q levels) → 2 ≤ length levels
      → T (between 1 v (length (highest levels)))
      → (out : Words) → out_words lim ≤ length out → length (rows_of (vector_of (highest levels) v)) ≤ length out
  vector_in q [] v s l r out m = absurd (omega arith)
  vector_in q (f ∷ []) v s l r out m = absurd (omega arith)
  vector_in q (f ∷ g ∷ below) zero s l r out m = omega arith
  vector_in q (f ∷ g ∷ below) (suc i) s l r out m =
      let k : suc i ≤ length f = between_high 1 (suc i) (length f) r in
      let h : SoundVector lim q (length g) lim.vector (g ∷ below) (get_or f i []) =
      vector_says lim q (length g) lim.vector (g ∷ below) (get_or f i [])
      (every_at (vector_sound? lim q (length g) lim.vector (g ∷ below)) f i [] (level_says lim q f g below s).vectors k) in
      rows_room lim.vector (get_or f i []) h.short out m

  pub fetch_form : (k v : ℕ) (state out : Words) → FetchForm lim k v state out (fetch_call lim k v state out)
  fetch_form k v state out = go (out_long_enough? lim state out) (λ t. t) (λ t. t)
    where
      X : State
      X = meant lim state

      Form : Fetch → Type 0
      Form = FetchForm lim k v state out

      fetched : T (out_long_enough? lim state out) → T (not (eleven? lim X k k)) → T (sound? lim X)
          → (T (between 1 k lim.levels) → T (has_level? X k))
          → T (fetches? lim X k v)
          → Form (fetch_left out (fetch X k v))
      fetched t u s c r = fetched_as t u s r refl (vector_in X.parameters (up_to X k) v (levels_stay lim X s k) (omega (arith, height, low))
          (and_right (between 1 k lim.levels) (between 1 v (length (highest (up_to X k)))) r) out
          (leb→le (out_words lim) (length out) (and_right (leb (state_words lim) (length state)) (leb (out_words lim) (length out)) t)))
        where
          ranged : T (between 1 k lim.levels)
          ranged = and_left (between 1 k lim.levels) (between 1 v (length (highest (up_to X k)))) r

          low : 1 ≤ k
          low = between_low 1 k lim.levels ranged

          height : length (up_to X k) ≡ suc k
          height = height_up_to lim X s k (ltb→lt k (length X.levels) (c ranged))

      twelve : T (out_long_enough? lim state out) → T (not (eleven? lim X k k)) → T (sound? lim X)
          × (T (between 1 k lim.levels) → T (has_level? X k))
          → (b : Bool) → (T b → T (fetches? lim X k v)) → (T (not b) → T (not (fetches? lim X k v)))
          → Form (fetch_left out (choose (not b) (refuse 12 X) (fetch X k v)))
      twelve t u s true y z = fetched t u s.0 s.1 (y tt)
      twelve t u s false y z = Demands.FetchForm.no_number t u (z tt)

      eleven : T (out_long_enough? lim state out) → (b : Bool) → (T b → T (eleven? lim X k k)) → (T (not b) → T (not (eleven? lim X k k)))
          → ((T b → ⊥) → T (sound? lim X) × (T (between 1 k lim.levels) → T (has_level? X k)))
          → Form (fetch_left out (choose b (refuse 11 X) (choose (not (fetches? lim X k v)) (refuse 12 X) (fetch X k v))))
      eleven t true y z s = Demands.FetchForm.no_level t (y tt)
      eleven t false y z s = twelve t (z tt) (s (λ x. x)) (fetches? lim X k v) (λ x. x) (λ x. x)

      go : (b : Bool) → (T b → T (out_long_enough? lim state out)) → (T (not b) → T (not (out_long_enough? lim state out)))
          → Form (fetch_left out (fetch_reply lim X b k v))
      go true y z = eleven (y tt) (eleven? lim X k k) (λ t. t) (λ t. t) (not_eleven lim X k k)
      go false y z = Demands.FetchForm.too_short (z tt)
