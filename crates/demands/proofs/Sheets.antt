-- What reading gives, and what the sheet prints.
use mathlib.Core.Path.{◌≡◌, refl, sym, ap, subst}
use mathlib.Core.Logic.{inl, inr}
use mathlib.Core.Bool.{Bool, not}
use mathlib.Core.List.{List, [], ◌∷◌, ◌++◌, append-nil, append_assoc}
use Prim.Native.Nat.{ℕ, zero, suc, ◌+◌, ◌-◌, ◌<◌}
use native.Mathlib.Omega.{arith}
use lib.Dec.{T}
use lib.ListN.{length, drop}
use Rattle.definitions.specs.Limits.{Limits}
use Rattle.definitions.specs.Lists.{every, empty?}
use Rattle.definitions.specs.Monomial.{Vector, Level}
use Rattle.definitions.specs.Result.{Result, done, refused, unfinished, ◌>>=◌}
use Rattle.definitions.specs.Lifting.{by_hybrid}
use Rattle.definitions.specs.Problem.{Bytes, Parameters, problem}
use Rattle.definitions.specs.State.{State, up_to, sound?}
use Rattle.definitions.specs.Calls.{accepted, read, lift}
use Rattle.definitions.specs.Sheet.{sheet, sheet_of, levels_from, level_then, if_more, level_lines, printed, letter_X, x_lines, variables_of}
use Rattle.laws.proofs.Tests.{and_left, and_right, between_shown}
use Rattle.laws.proofs.Sound.{sound_says}
use Rattle.laws.proofs.Reading.{basis_state}
use Rattle.files.specs.Files.{WellFormedFile}
use Rattle.files.specs.Answers.{Answered}
use Rattle.demands.specs.Demands
use Rattle.demands.specs.Demands.{sensible?, ReadRight, accepts, limited, stopped, no_basis, limit_met, RefusedReading, ill_formed, not_accepted}
use Rattle.demands.specs.Demands.{printed_levels, Listed, SheetForm, listing, cut_off, not_read, not_taken}
use Rattle.demands.proofs.Results.{Holds, holds, nothing, holds_then}
use Rattle.demands.proofs.Over.{vector_room, sound_prime, sound_eight, LiftRight, accepted_right}
use Rattle.demands.proofs.Reckonings.{tower_reckons}
use Rattle.demands.proofs.Reader.{files}
use Rattle.demands.proofs.Demand2.{well_formed}
use Rattle.demands.proofs.Lifts
use Rattle.demands.proofs.Lifts.{LiftedTo, one_more, still_lifting, lifted_to}
use Rattle.demands.proofs.Held.{Standing, level_stands}

-- ## Reading

pub data Reading (lim : Limits) (bytes : Bytes) : Result State → Type 0 where
  taken : {q : Parameters} {f : Level} → WellFormedFile lim bytes q f → Standing lim q f 0 (f ∷ [])
      → Reading lim bytes (done (record { parameters = q; levels = f ∷ [] }))
  refused_reading : {number place : ℕ} {value : Vector} → RefusedReading lim bytes number place value → Reading lim bytes (refused number place value)
  still_reading : Reading lim bytes unfinished

module _ (lim : Limits) (o : T (sensible? lim)) where
  -- what reading gives, of what the reader gave
  read_from : (n : ℕ) (bytes : Bytes) (x : Result (Parameters × Level)) → problem lim bytes ≡ x → Answered lim bytes x
      → Reading lim bytes (x >>= accepted lim n)
  read_from n bytes unfinished e r = still_reading
  read_from n bytes (refused number place value) e r =
      subst (λ v. Reading lim bytes (refused number place v)) (sym r.1) (refused_reading (ill_formed r.0))
  read_from n bytes (done (q, f)) e w =
      at (ap (λ z. z >>= accepted lim n) e)
      (accepted_right lim q (sound_prime lim o X h) (sound_eight lim o X h) (vector_room lim o) f (sound_says lim X h).levels n)
    where
      X : State
      X = basis_state (q, f)

      h : T (sound? lim X)
      h = well_formed lim o bytes q f w

      at : {y : Result State} → read lim n bytes ≡ y → ReadRight lim q f y → Reading lim bytes y
      at d (accepts gb) = taken w (record { height = refl; tower = refl; sound = h; exact = gb })
      at d (limited t) = refused_reading (not_accepted (limit_met n w d t))
      at d (stopped t s) = refused_reading (not_accepted (no_basis n w d t s))
      at d Demands.open_yet = still_reading

  pub reading : (n : ℕ) (bytes : Bytes) → Reading lim bytes (read lim n bytes)
  reading n bytes = read_from n bytes (problem lim bytes) refl ((files lim o).answered bytes)

  -- ## The levels

  abbrev filled? : Level → Bool
  filled? f = not (empty? f)

  module _ (bytes : Bytes) (q : Parameters) (f : Level) (w : WellFormedFile lim bytes q f) (bound : ℕ) where
    listed : (g : Level) (below : List Level) → Standing lim q f (length below) (g ∷ below) → T (every filled? below) → Listed lim bytes q g below
    listed g below s t =
        record {
          basis = f;
          well_formed = w;
          reckoned = tower_reckons lim q f (g ∷ below) (length below) s.height s.tower;
          exact =
              s.exact;
          filled = t;
        }

    -- the bytes after those of the levels so far
    abbrev After : Level → List Level → Bytes → Type 0
    After g below out = SheetForm lim bytes (printed_levels q.n (g ∷ below) ++ out)

    -- the next level stands over all that are there
    abbrev so_far : Level → List Level → State
    so_far g below = record { parameters = q; levels = g ∷ below }

    all_stay : (g : Level) (below : List Level) → up_to (so_far g below) (suc (length below) - 1) ≡ g ∷ below
    all_stay g below = let z : suc (length below) - suc (suc (length below) - 1) ≡ 0 = omega arith in ap (λ i. drop i (g ∷ below)) z

    next : (g : Level) (below : List Level) → Standing lim q f (length below) (g ∷ below) → length below < lim.levels → (h : Level)
        → LiftRight lim q (up_to (so_far g below) (suc (length below) - 1)) h → Standing lim q f (suc (length below)) (h ∷ g ∷ below)
    next g below s l h w =
        subst (λ z. Standing lim q f (suc (length below)) (h ∷ z)) (all_stay g below)
        (level_stands lim o q f (g ∷ below) (length below) (suc (length below)) s (between_shown 1 (suc (length below)) lim.levels (omega arith) l)
        (let z : suc (length below) - 1 < suc (length below) = omega arith in z) h w)

    is_filled : (g : Level) → T (filled? g) → ¬ (g ≡ [])
    is_filled g t z = subst (λ h. T (filled? h)) z t

    levels_form : (left : ℕ) (g : Level) (below : List Level) → Standing lim q f (length below) (g ∷ below) → T (every filled? (g ∷ below))
        → left + length below ≡ lim.levels
        → Holds (After g below) (levels_from lim bound left (suc (length below)) (so_far g below))
    levels_form zero g below s t l =
        holds (subst (SheetForm lim bytes) (sym (append-nil (printed_levels q.n (g ∷ below))))
        (listing (listed g below s (and_right (filled? g) (every filled? below) t)) (inr (omega arith))))
    levels_form (suc left) g below s t l =
        go refl (lifted_to lim o (so_far g below) s.sound k (by_hybrid 2 lim.working) bound) (λ h st u. levels_form left h (g ∷ below) st u (omega arith))
      where
        k : ℕ
        k = suc (length below)

        room : length below < lim.levels
        room = omega (arith, l)

        Further : Type 0
        Further = (h : Level) → Standing lim q f k (h ∷ g ∷ below) → T (every filled? (h ∷ g ∷ below))
            → Holds (After h (g ∷ below)) (levels_from lim bound left (suc k) (so_far h (g ∷ below)))

        grown : (h : Level) → Standing lim q f k (h ∷ g ∷ below) → Further
            → Holds (After g below) (if_more (empty? h) q.n k h (λ u. levels_from lim bound left (suc k) (so_far h (g ∷ below))))
        grown [] st more = holds (listing (listed [] (g ∷ below) st t) (inl refl))
        grown (v ∷ h) st more = holds_then (more (v ∷ h) st t) (λ out p.
            holds (subst (SheetForm lim bytes) (append_assoc (printed_levels q.n (g ∷ below)) (level_lines q.n k (v ∷ h)) out) p))

        go : {x : Result State} → lift lim bound (so_far g below) k (by_hybrid 2 lim.working) ≡ x → LiftedTo lim (so_far g below) k x → Further
            → Holds (After g below) (level_then q.n k (λ Y. levels_from lim bound left (suc k) Y) x)
        go d (one_more h w) more =
            subst (λ z. Holds (After g below) (if_more (empty? h) q.n k h
            (λ u. levels_from lim bound left (suc k) (record { parameters = q; levels = h ∷ z })))) (sym (all_stay g below))
            (grown h (next g below s room h w) more)
        go d (Lifts.limit_met {number} u) more =
            holds (cut_off number bound (listed g below s (and_right (filled? g) (every filled? below) t))
            (is_filled g (and_left (filled? g) (every filled? below) t)) room d u)
        go d still_lifting more = nothing

  -- ## The sheet

  basis_filled : (q : Parameters) (f : Level) → T (sound? lim (basis_state (q, f))) → T (every filled? (f ∷ []))
  basis_filled q [] h = absurd (sound_says lim (basis_state (q, [])) h).levels
  basis_filled q (v ∷ f) h = tt

  pub sheet_form : (n : ℕ) (bytes : Bytes) → Holds (SheetForm lim bytes) (sheet lim n bytes)
  sheet_form n bytes = go (reading n bytes)
    where
      variables : {q : Parameters} {f : Level} → WellFormedFile lim bytes q f → variables_of (problem lim bytes) ≡ q.n
      variables {q} {f} w = ap variables_of ((files lim o).taken bytes q f w)

      refusal : {number place : ℕ} {value : Vector} → RefusedReading lim bytes number place value
          → SheetForm lim bytes (x_lines (variables_of (problem lim bytes)) number place value)
      refusal (ill_formed {number} {place} r) = subst (SheetForm lim bytes) (sym (append-nil (printed letter_X (number ∷ place ∷ [])))) (not_read r)
      refusal (not_accepted (no_basis {place = place} {value = value} b w d t s)) =
          subst (λ n. SheetForm lim bytes (x_lines n 9 place value)) (sym (variables w)) (not_taken (no_basis b w d t s))
      refusal (not_accepted (limit_met {number = number} b w d l)) =
          subst (λ n. SheetForm lim bytes (x_lines n number 0 [])) (sym (variables w)) (not_taken (limit_met b w d l))

      go : {x : Result State} → Reading lim bytes x → Holds (SheetForm lim bytes) (sheet_of lim n (variables_of (problem lim bytes)) x)
      go (taken {q} {f} w s) = levels_form bytes q f w n lim.levels f [] s (basis_filled q f s.sound) (omega arith)
      go (refused_reading r) = holds (refusal r)
      go still_reading = nothing
