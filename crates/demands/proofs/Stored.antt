-- The words of the state hold what the reckoning says, after each call on buffers.
use mathlib.Core.Path.{◌≡◌, refl, sym, ap, ◌∙◌, subst}
use mathlib.Core.Logic.{◌⊎◌, inl, inr}
use mathlib.Core.Bool.{Bool, true, false, not, ◌||◌}
use mathlib.Core.Option.{some}
use mathlib.Core.List.{[]}
use Prim.Native.Nat.{ℕ, zero, suc, ◌-◌, ◌≤◌}
use native.Mathlib.Omega.{arith}
use lib.Dec.{T, leb, eqb, leb→le, eqb→eq}
use lib.ListN.{length, get_or, replicate, length-replicate}
use Rattle.definitions.specs.Limits.{Limits}
use Rattle.definitions.specs.Lists.{◌and◌, ◌then◌, choose, between}
use Rattle.definitions.specs.Result.{Result}
use Rattle.definitions.specs.Lifting.{Lifting}
use Rattle.definitions.specs.Problem.{Bytes}
use Rattle.definitions.specs.State.{State, empty, has_level?, up_to, levels_sound?, sound?}
use Rattle.definitions.specs.Stage.{highest}
use Rattle.definitions.specs.Calls.{Call, reading, lifting, Reply, refuse, settled, lift, fetch, eleven?, pick_code?, lifts?, fetches?, read_reply, lift_reply}
use Rattle.definitions.specs.Calls.{fetch_reply}
use Rattle.definitions.specs.Reckoning.{Reckoning, nothing, succeeds, fails, reckon}
use Rattle.definitions.specs.Degrees.{carried}
use Rattle.definitions.specs.Layout.{Words, zeros, state_words, encode, meant, degrees_at, decode, all_words_sound?, carries?, holds_state?, state_after}
use Rattle.definitions.specs.Layout.{rows_after, levels_at}
use Rattle.definitions.specs.Layout.{Way, division, lifting_by, long_enough?, work_words, out_words, Read, read_left, Lift}
use Rattle.definitions.specs.Layout.{Lent, read_with, lift_with, fetch_with, Left, lent_call}
use Rattle.laws.proofs.Tests.{false_is, and_left, and_right, and_both}
use Rattle.laws.proofs.Sound.{sound_says}
use Rattle.laws.proofs.Numbers.{read_number?}
use Rattle.laws.proofs.Refusals.{keeps?, encode_empty}
use Rattle.laws.proofs.RoundTrip.{meant_encode, length_encode}
use Rattle.demands.specs.Demands.{sensible?, as_call, Reads, FetchRight}
use Rattle.demands.proofs.Results.{Ends, gives, refuses, open_yet, Holds, holds, holds_then}
use Rattle.demands.proofs.Results
use Rattle.demands.proofs.Over.{small_exponents}
use Rattle.demands.proofs.Lifts.{not_eleven}
use Rattle.demands.proofs.Held.{Held, none_held, held, held_agrees, read_held, lift_held}

-- ## The reckoning of refused calls

-- 11, 12 and 16 are no numbers of a settled call
no_keep : (number : ℕ) → T (read_number? number) → (eqb number 0 ≡ false) × (keeps? number ≡ false)
no_keep number t = (
  false_is (eqb number 0) (λ e. other 0 (eqb→eq number 0 e) (λ x. x)),
  kept (eqb number 11) (eqb number 12) (eqb number 16)
      (eqb→eq number 11) (eqb→eq number 12) (eqb→eq number 16),
)
  where
    other : (m : ℕ) → number ≡ m → (T (read_number? m) → ⊥) → ⊥
    other m e f = f (subst (λ j. T (read_number? j)) e t)

    kept : (a b c : Bool) → (T a → number ≡ 11) → (T b → number ≡ 12) → (T c → number ≡ 16) → (a || b || c) ≡ false
    kept true b c f g h = absurd (other 11 (f tt) (λ x. x))
    kept false true c f g h = absurd (other 12 (g tt) (λ x. x))
    kept false false true f g h = absurd (other 16 (h tt) (λ x. x))
    kept false false false f g h = refl

-- "any other refusal leaves no basis"
reckon_fails : (lim : Limits) (R : Reckoning) (c : Call) (number : ℕ) → T (read_number? number) → reckon lim R c number ≡ nothing
reckon_fails lim R c number t =
    ap (λ b. elim b [ true ↦ succeeds lim R c | false ↦ fails R number ]) (no_keep number t).0
    ∙ ap (λ b. elim b [ true ↦ R | false ↦ nothing ]) (no_keep number t).1

-- ## Words

pub record Stored (lim : Limits) (R : Reckoning) (words : Words) : Type 0 where
  pub holds : Held lim R (meant lim words)
  pub spelled : state_words lim ≤ length words → words ≡ encode lim (length words) (meant lim words)

-- all zeros mean the empty state
pub at_zeros : (size i : ℕ) → ◌≡◌ {A = ℕ} (get_or (replicate size 0) i 0) 0
at_zeros zero i = refl
at_zeros (suc size) zero = refl
at_zeros (suc size) (suc i) = at_zeros size i

meant_zeros : (lim : Limits) (size : ℕ) → meant lim (replicate size 0) ≡ empty
meant_zeros lim size =
    let a = leb (get_or s 4 0) (suc lim.levels) in
    let b = all_words_sound? lim s (get_or s 4 0) in
    let c = sound? lim (decode lim s) in
    let e = carries? lim s (carried (degrees_at lim s) (levels_at lim s (get_or s 4 0))) in
    go (holds_state? lim s) (λ t. no_level (and_left c e (and_right b (c and e) (and_right a (b and c and e) t))))
  where
    s : Words
    s = replicate size 0

    no_level : T (sound? lim (decode lim s)) → ⊥
    no_level t = let h = (sound_says lim (decode lim s) t).levels in
        subst (λ k. T (levels_sound? lim (decode lim s).parameters (levels_at lim s k))) (at_zeros size 4) h

    go : (b : Bool) → (T b → ⊥) → elim b [ true ↦ decode lim s | false ↦ empty ] ≡ empty
    go true f = absurd (f tt)
    go false f = refl

pub zeros_stored : (lim : Limits) (words : Words) → words ≡ zeros words → Stored lim nothing words
zeros_stored lim words e = record {
  holds = subst (Held lim nothing) (sym is_empty) none_held;
  spelled = λ l. e ∙ sym (encode_empty lim (length words) l) ∙ ap (encode lim (length words)) (sym is_empty);
}
  where
    is_empty : meant lim words ≡ empty
    is_empty = ap (meant lim) e ∙ meant_zeros lim (length words)

module _ (lim : Limits) (o : T (sensible? lim)) where
  -- what is written holds what was to be held
  encode_stored : (R : Reckoning) (X : State) (size : ℕ) → state_words lim ≤ size → Held lim R X → Stored lim R (encode lim size X)
  encode_stored R X size l none_held =
      subst (Stored lim nothing) (sym (encode_empty lim size l)) (zeros_stored lim (replicate size 0)
      (ap (λ n. replicate n 0) (sym (length-replicate size 0))))
  encode_stored R X size l (held s) = record {
    holds = subst (Held lim R) (sym back) (held s);
    spelled = λ i. ap (λ n. encode lim n X) (sym long) ∙ ap (encode lim (length (encode lim size X))) (sym back);
  }
    where
      back : meant lim (encode lim size X) ≡ X
      back = meant_encode lim (small_exponents lim o) size X s.sound

      long : length (encode lim size X) ≡ size
      long = length_encode lim (small_exponents lim o) size X s.sound l

  -- a settled call
  settled_stored : (R : Reckoning) (c : Call) (words : Words) → state_words lim ≤ length words → {x : Result State}
      → Ends (Held lim (succeeds lim R c)) (λ number value. T (read_number? number)) x
      → Holds (λ a. Stored lim (reckon lim R c a.number) (state_after lim words a.state a.work)) (settled x)
  settled_stored R c words l (gives {a} h) = holds (encode_stored (succeeds lim R c) a (length words) l h)
  settled_stored R c words l (refuses {number} t) =
      holds (subst (λ Q. Stored lim Q (encode lim (length words) empty)) (sym (reckon_fails lim R c number t))
      (encode_stored nothing empty (length words) l none_held))
  settled_stored R c words l open_yet = Results.nothing

  -- ## The calls

  -- a call leaves what the reckoning holds after it
  abbrev pub Called : Reckoning → Lent → Left → Type 0
  Called R c a = Stored lim (reckon lim R (as_call lim c) a.number) a.state

  module _ (n : ℕ) (state : Words) where
    -- what a reply to a call leaves in the state's words
    abbrev Replied : Reckoning → Call → Reply → Type 0
    Replied R c a = Stored lim (reckon lim R c a.number) (state_after lim state a.state a.work)

    long_state : (way : Way) (work : Words) → T (long_enough? lim way state work) → state_words lim ≤ length state
    long_state way work t = leb→le (state_words lim) (length state) (and_left (leb (state_words lim) (length state))
        (leb (work_words lim way) (length work)) t)

    -- reading: from words that agree with the reckoning, or, not refused with 16, from any words
    pub read_stored : (R : Reckoning) (file : Bytes) (work : Words)
        → Holds (λ a. Stored lim R state ⊎ Reads (read_with file work) a → Called R (read_with file work) a)
        (lent_call lim n state (read_with file work))
    read_stored R file work = go (long_enough? lim division state work) (long_state division work)
      where
        kept : Stored lim R state ⊎ ¬ (◌≡◌ {A = ℕ} 16 16) → Stored lim R state
        kept (inl h) = h
        kept (inr r) = absurd (r refl)

        go : (b : Bool) → (T b → state_words lim ≤ length state)
            → Holds (λ a. Stored lim R state ⊎ Reads (read_with file work) a → Called R (read_with file work) a)
            (read_reply lim n (meant lim state) b file then (λ a. some (read_left lim state work a)) then λ a. some
            (record { number = a.0; place = a.1; state = a.2; out = [] }))
        go false l = holds kept
        go true l =
            holds_then {P = λ (z : Read). Stored lim (reckon lim R (reading true file) z.0) z.2}
            (holds_then (settled_stored R (reading true file) state (l tt) (read_held lim o n file)) (λ a k. holds k)) (λ a k. holds (λ r. k))

    module _ (R : Reckoning) (h : Stored lim R state) where
      lift_replied : (b : Bool) → (T b → state_words lim ≤ length state) → (k : ℕ) (way : Lifting)
          → Holds (Replied R (lifting true k way)) (lift_reply lim n (meant lim state) b k way)
      lift_replied false l k way = holds h
      lift_replied true l k way = eleven (eleven? lim X k (k - 1)) (not_eleven lim X k (k - 1))
        where
          X : State
          X = meant lim state

          twelve : T (sound? lim X) × (T (between 1 k lim.levels) → T (has_level? X (k - 1))) → (b : Bool) → (T b → T (between 1 k lim.levels))
              → Holds (Replied R (lifting true k way)) (choose (not b) (some (refuse 12 X)) (settled (lift lim n X k way)))
          twelve s false r = holds h
          twelve s true r = settled_stored R (lifting true k way) state (l tt) (lift_held lim o R X h.holds k way n s.0 (r tt) (s.1 (r tt)))

          eleven : (b : Bool) → ((T b → ⊥) → T (sound? lim X) × (T (between 1 k lim.levels) → T (has_level? X (k - 1))))
              → Holds (Replied R (lifting true k way)) (choose b (some (refuse 11 X))
              (choose (not (lifts? lim k way)) (some (refuse 12 X)) (settled (lift lim n X k way))))
          eleven true f = holds h
          eleven false f = twelve (f (λ x. x)) (lifts? lim k way) (and_left (between 1 k lim.levels) (pick_code? way))

      pub lift_stored : (k : ℕ) (way : Way) (work cache : Words) → Holds (Called R (lift_with k way work cache))
          (lent_call lim n state (lift_with k way work cache))
      lift_stored k way work cache =
          holds_then {P = λ (z : Lift). Stored lim (reckon lim R (lifting true k (lifting_by lim way work cache)) z.0) z.2}
          (holds_then (lift_replied (long_enough? lim way state work) (long_state way work) k (lifting_by lim way work cache)) (λ a m. holds m)) (λ a m. holds m)

      -- fetching changes nothing, and gives the reckoning's vector
      module _ (k v : ℕ) (out : Words) where
        abbrev X : State
        X = meant lim state

        abbrev left : Reply → Left
        left a = record { number = a.number; place = a.place; state = state; out = rows_after out a.fetched }

        abbrev Fetched : Left → Type 0
        Fetched a = Called R (fetch_with k v out) a × FetchRight lim R (fetch_with k v out) a

        fetch_twelve : (T (between 1 k lim.levels) → T (has_level? X k)) → (b : Bool) → (T b → T (fetches? lim X k v))
            → Fetched (left (choose (not b) (refuse 12 X) (fetch X k v)))
        fetch_twelve s false y = (h, λ e. absurd (omega arith))
        fetch_twelve s true y =
            let d : T (between 1 k lim.levels) = and_left (between 1 k lim.levels) (between 1 v (length (highest (up_to X k)))) (y tt) in
            let c : T (between 1 v (length (highest (up_to X k)))) =
            and_right (between 1 k lim.levels) (between 1 v (length (highest (up_to X k)))) (y tt) in (
              h,
              λ e. (
                X.levels,
                (held_agrees lim R X h.holds).levels,
                and_both (has_level? X k) (between 1 v (length (highest (up_to X k)))) (s d) c,
                refl,
              ),
            )

        fetch_eleven : (b : Bool) → ((T b → ⊥) → T (sound? lim X) × (T (between 1 k lim.levels) → T (has_level? X k)))
            → Fetched (left (choose b (refuse 11 X) (choose (not (fetches? lim X k v)) (refuse 12 X) (fetch X k v))))
        fetch_eleven true f = (h, λ e. absurd (omega arith))
        fetch_eleven false f = fetch_twelve (f (λ x. x)).1 (fetches? lim X k v) (λ x. x)

        fetch_long : (b : Bool) → Fetched (left (fetch_reply lim X b k v))
        fetch_long false = (h, λ e. absurd (omega arith))
        fetch_long true = fetch_eleven (eleven? lim X k k) (not_eleven lim X k k)

        pub fetch_stored : Holds (λ a. Called R (fetch_with k v out) a × FetchRight lim R (fetch_with k v out) a)
            (lent_call lim n state (fetch_with k v out))
        fetch_stored = holds (fetch_long (leb (state_words lim) (length state) and leb (out_words lim) (length out)))
