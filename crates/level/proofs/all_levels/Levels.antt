-- The levels one after the other: what a lifting leaves, and how the next one goes on from there.
use mathlib.Core.Path.{◌≡◌, refl, sym, ap, ◌∙◌, subst}
use mathlib.Core.Bool.{Bool, true, false}
use mathlib.Core.Option.{Option, none, some}
use mathlib.Core.List.{[], ◌∷◌}
use Prim.Native.Nat.{ℕ, zero, suc, ◌+◌, ◌-◌, ◌<◌, ◌≤◌}
use native.Mathlib.Nat.{not-suc-le-zero}
use native.Mathlib.Omega.{arith}
use lib.Dec.{T}
use lib.ListN.{length, get_or}
use Rattle.definitions.specs.Limits.{Limits, document_01}
use Rattle.definitions.specs.Lists.{empty?}
use Rattle.definitions.specs.Monomial.{Vector, Level}
use Rattle.definitions.specs.Result.{Result, done, refused, unfinished, finished?, ◌>>=◌}
use Rattle.definitions.specs.Lifting.{by_hybrid}
use Rattle.definitions.specs.State.{State, sound?, up_to}
use Rattle.definitions.specs.Stage.{highest}
use Rattle.definitions.specs.Calls.{lift}
use Rattle.definitions.specs.Layout.{Words, decode, level_at, levels_at}
use Rattle.laws.proofs.Numbers as numbers
use Rattle.laws.proofs.Numbers.{limit_number?, Numbered, lift_number}
use Rattle.laws.proofs.Steady.{steady_from}
use Rattle.laws.proofs.Bound.{lift_steady}
use Rattle.definitions.specs.Places.{most_levels, all_levels}
use Rattle.demands.proofs.Lifts.{LiftedTo, one_more, limit_met, still_lifting, lifted_to, height_up_to}
use Rattle.state.proofs.preparing.Complete.{length_levels, holds_sound}
use Rattle.std.specs.Prelude.{Ok, Err}
use Rattle.words.specs.declared.refusals.Refusal.{Refusal}
use Rattle.words.specs.refusals.Numbers.{number_of}
use Rattle.words.proofs.Numbered.{number_positive}
use Rattle.level.specs.by_runs.Stages.{Base}
use Rattle.definitions.specs.Program.{unless_empty, lifted_from}
use Rattle.level.specs.all_levels.Levels.{Levels, unless_last, then_levels, reached_from, reached}
use Rattle.level.specs.all_levels.Level.{Liftable, kept, told_of, usual_way, LiftedNext}

-- ## What a lifting leaves

module _ (s : Words) (k : ℕ) (h : Liftable s k) where
  abbrev X : State
  X = decode document_01 s

  sound_is : T (sound? document_01 X)
  sound_is = holds_sound s h.base.holds

  -- the level is complete, and the state with it is in the words
  pub record Next (n : ℕ) (t : Words) : Type 0 where
    pub next : State
    pub lifts : lift document_01 n X k usual_way ≡ done next
    pub decoded : decode document_01 t ≡ next
    pub height : get_or t 4 0 ≡ suc k
    pub base : Base t k

  tall : k - 1 < length X.levels
  tall = omega (arith, length_levels s (get_or s 4 0), h.base.has)

  pub next_of : (t : Words) (L : LiftedNext s k (Ok tt) t) → Next L.bound t
  next_of t L = go (lifted_to document_01 tt X sound_is k usual_way L.bound) refl L.gives L.finishes
    where
      go : {x : Result State} → LiftedTo document_01 X k x → lift document_01 L.bound X k usual_way ≡ x → told_of (Ok tt) t ≡ kept X x
          → T (finished? x) → Next L.bound t
      go (one_more g r) p q f =
          let d : decode document_01 t ≡ record { parameters = X.parameters; levels = g ∷ up_to X (k - 1) } = ap (λ o. o.1) q in
          let l = height_up_to document_01 X sound_is (k - 1) tall in
          let tops : get_or t 4 0 ≡ suc k = sym (length_levels t (get_or t 4 0)) ∙ ap (λ Z. length Z.levels) d ∙ ap suc (l ∙ (omega (arith, h.low))) in
          record {
            next = record { parameters = X.parameters; levels = g ∷ up_to X (k - 1) };
            lifts = p;
            decoded = d;
            height = tops;
            base = record { long = L.base.long; holds = L.base.holds; has = omega (arith, tops); low = omega (arith, h.high) };
          }
      go (limit_met u) p q f = absurd (subst (λ i. T (limit_number? i)) (sym (ap (λ o. o.0) q)) u)
      go still_lifting p q f = absurd f

  none_at : (n : ℕ) → 1 ≤ n → n ≡ 0 → ⊥
  none_at n l z = absurd (omega (arith, l, z))

  pub record Stays (n number : ℕ) (t : Words) : Type 0 where
    pub refuses : lift document_01 n X k usual_way ≡ refused number k []
    pub same : decode document_01 t ≡ X

  pub stays_of : (e : Refusal) (t : Words) (L : LiftedNext s k (Err e) t) → Stays L.bound (number_of e) t
  stays_of e t L = go (lifted_to document_01 tt X sound_is k usual_way L.bound) refl L.gives L.finishes
    where
      go : {x : Result State} → LiftedTo document_01 X k x → lift document_01 L.bound X k usual_way ≡ x → told_of (Err e) t ≡ kept X x
          → T (finished? x) → Stays L.bound (number_of e) t
      go (one_more g r) p q f = absurd (none_at (number_of e) (number_positive e) (ap (λ o. o.0) q))
      go (limit_met u) p q f = record { refuses = p ∙ sym (ap (λ o. refused o.0 k []) q); same = ap (λ o. o.1) q }
      go still_lifting p q f = absurd f

-- ## The loop

-- so far: whatever the bound, if it is large enough, the rest from level k on is the whole
abbrev pub Going : Words → Words → ℕ → Type 0
Going s t k = (n : ℕ) × ((m : ℕ) → reached document_01 (n + m) (decode document_01 s)
    ≡ reached_from document_01 (n + m) (all_levels - k) k (decode document_01 t))

pub going_first : (s : Words) → Going s s 1
going_first s = (0, λ m. refl)

-- what all levels gave
abbrev EndedAs : Words → ℕ → ℕ → Words → Type 0
EndedAs s number place t = (n : ℕ) × (◌≡◌ {A = Option Levels} (some (number, place, decode document_01 t))
    (reached document_01 n (decode document_01 s)))

none_in : (f : Level) → length f ≡ 0 → empty? f ≡ true
none_in [] e = refl
none_in (v ∷ f) e = absurd (omega (arith, e))

some_in : (f : Level) → 0 < length f → empty? f ≡ false
some_in [] e = absurd (not-suc-le-zero e)
some_in (v ∷ f) e = refl

module _ (s₀ s : Words) (k : ℕ) (h : Liftable s k) (g : Going s₀ s k) where
  abbrev S : State
  S = decode document_01 s

  one_left : all_levels - k ≡ suc (most_levels - k)
  one_left = omega (arith, h.high)

  abbrev on : ℕ → Result State → Option Levels
  on n x = then_levels S (λ Y. reached_from document_01 n (most_levels - k) (suc k) Y) x

  -- the step at a bound that suffices for the levels before and for this one
  here : (n m : ℕ) → T (finished? (lift document_01 n S k usual_way)) → reached document_01 (g.0 + (n + m)) (decode document_01 s₀)
      ≡ on (g.0 + (n + m)) (lift document_01 n S k usual_way)
  here n m t =
      let e : g.0 + (n + m) ≡ n + (g.0 + m) = omega arith in
      g.1 (n + m)
      ∙ ap (λ l. reached_from document_01 (g.0 + (n + m)) l k S) one_left
      ∙ ap (on (g.0 + (n + m))) (ap (λ i. lift document_01 i S k usual_way) e
      ∙ steady_from finished? (λ i. lift document_01 i S k usual_way) (lift_steady document_01 S k usual_way) n (g.0 + m) t)

  pub going_refused : (n number : ℕ) (t : Words) → Stays s k h n number t → T (finished? (lift document_01 n S k usual_way))
      → EndedAs s₀ number k t
  going_refused n number t r f = (
    g.0 + (n + 0),
    (λ i. some (number, k, r.same i))
        ∙ sym (ap (on (g.0 + (n + 0))) r.refuses)
        ∙ sym (here n 0 f),
  )

  -- the level that was lifted, as the words have it
  top : (n : ℕ) (t : Words) (N : Next s k h n t) → level_at document_01 t k ≡ highest N.next.levels
  top n t N = sym (ap (λ i. highest (levels_at document_01 t i)) N.height) ∙ ap (λ Z. highest Z.levels) N.decoded

  abbrev after : ℕ → State → Bool → Option Levels
  after n Y b = unless_last b Y (λ Z. reached_from document_01 n (most_levels - k) (suc k) Z)

  lifted_here : (n m : ℕ) (t : Words) (N : Next s k h n t) (b : Bool) → empty? (highest N.next.levels) ≡ b
      → reached document_01 (g.0 + (n + m)) (decode document_01 s₀) ≡ after (g.0 + (n + m)) N.next b
  lifted_here n m t N b e =
      here n m (subst (λ x. T (finished? x)) (sym N.lifts) tt)
      ∙ ap (on (g.0 + (n + m))) N.lifts
      ∙ ap (after (g.0 + (n + m)) N.next) e

  pub going_last : (n : ℕ) (t : Words) (N : Next s k h n t) → length (level_at document_01 t k) ≡ 0 → EndedAs s₀ 0 0 t
  going_last n t N e = (
    g.0 + (n + 0),
    (λ i. some (0, 0, N.decoded i))
        ∙ sym (lifted_here n 0 t N true (none_in (highest N.next.levels) (sym (ap length (top n t N)) ∙ e))),
  )

  pub going_on : (n : ℕ) (t : Words) (N : Next s k h n t) → 0 < length (level_at document_01 t k) → Going s₀ t (k + 1)
  going_on n t N e = (
    g.0 + n,
    λ m.
        let a : most_levels - k ≡ all_levels - (k + 1) = omega arith in
        let b : suc k ≡ k + 1 = omega arith in
        let c : g.0 + n + m ≡ g.0 + (n + m) = omega arith in
        ap (λ i. reached document_01 i (decode document_01 s₀)) c
        ∙ lifted_here n m t N false (some_in (highest N.next.levels) (subst (λ f. 0 < length f) (top n t N) e))
        ∙ (λ i. reached_from document_01 (sym c i) (a i) (b i) (sym N.decoded i)),
  )

pub going_nine : (s t : Words) (k : ℕ) → all_levels ≤ k → Going s t k → EndedAs s 0 0 t
going_nine s t k h g =
    let e : 0 ≡ all_levels - k = omega (arith, h) in
    (g.0 + 0, ap (λ l. reached_from document_01 (g.0 + 0) l k (decode document_01 t)) e ∙ sym (g.1 0))

-- ## All levels or a refusal

-- what programs go on with, of what was reached
abbrev pub result_of : Option Levels → Result State
result_of none = unfinished
result_of (some (zero, place, X)) = done X
result_of (some (suc number, place, X)) = refused (suc number) place []

limited : (Y : State) (number place : ℕ) (value : Vector) → Numbered {A = State} limit_number? (refused number place value)
    → ◌≡◌ {A = Result State} (refused number place value) (result_of (some (number, place, Y)))
limited Y zero place value (numbers.refuses t) = absurd t
limited Y (suc number) place value (numbers.refuses t) = refl
limited Y (suc number) place value (numbers.stops t) = absurd t

pub lifted_reached : (lim : Limits) (n left k : ℕ) (X : State) → lifted_from lim n left k X ≡ result_of (reached_from lim n left k X)
lifted_reached lim n zero k X = refl
lifted_reached lim n (suc left) k X =
    let way = by_hybrid 2 lim.working in
    go (lift lim n X k way) (lift_number lim n X k way) (λ Y. lifted_reached lim n left (suc k) Y)
  where
    more : (b : Bool) (Y : State) → lifted_from lim n left (suc k) Y ≡ result_of (reached_from lim n left (suc k) Y)
        → unless_empty b Y (λ Z. lifted_from lim n left (suc k) Z) ≡ result_of (unless_last b Y (λ Z. reached_from lim n left (suc k) Z))
    more true Y e = refl
    more false Y e = e

    go : (x : Result State) → Numbered limit_number? x → ((Y : State) → lifted_from lim n left (suc k) Y
        ≡ result_of (reached_from lim n left (suc k) Y))
        → (x >>= λ Y. unless_empty (empty? (highest Y.levels)) Y (λ Z. lifted_from lim n left (suc k) Z))
        ≡ result_of (then_levels X (λ Z. reached_from lim n left (suc k) Z) x)
    go (done Y) t e = more (empty? (highest Y.levels)) Y (e Y)
    go (refused number place value) t e = limited X number place value t
    go unfinished t e = refl
