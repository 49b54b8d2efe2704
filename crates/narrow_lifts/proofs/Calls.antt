-- Whole calls on words: with no less room lent to hybrid the answer is the same but where it was 14, and 16 comes exactly for a buffer that is too short.
use mathlib.Core.Path.{◌≡◌, refl, sym, ap, ◌∙◌, subst}
use mathlib.Core.Logic.{◌⊎◌, inl, inr, ◌↔◌}
use mathlib.Core.Bool.{Bool, true, false, not}
use mathlib.Core.Option.{Option, none, some, some-injective, none-ne-some}
use Prim.Native.Nat.{ℕ, ◌*◌, ◌-◌, ◌/◌, ◌<◌, ◌≤◌, min}
use native.Mathlib.Omega.{arith}
use lib.Dec.{T, leb, leb→le, le→leb}
use lib.ListN.{length}
use Rattle.definitions.specs.Limits.{Limits}
use Rattle.definitions.specs.Lists.{◌and◌, ◌then◌, choose}
use Rattle.definitions.specs.Result.{Result}
use Rattle.definitions.specs.Lifting.{by_hybrid}
use Rattle.definitions.specs.State.{State}
use Rattle.definitions.specs.Calls.{Reply, refuse, settled, lift, eleven?, lifts?, lift_reply}
use Rattle.definitions.specs.Places.{row_length, least_terms}
use Rattle.definitions.specs.Layout.{Words, state_words, work_words, hybrid, long_enough?, meant, Lift, lift_left, lift_call}
use Rattle.laws.proofs.Tests.{and_left, and_right}
use Rattle.demands.specs.Demands
use Rattle.demands.specs.Demands.{sensible?, limit?, LiftForm}
use Rattle.demands.proofs.Demand1.{demand_1}
use Rattle.narrow_lifts.specs.Rooms.{Until14, same, fourteen, room, Lends, SameAnswer}
use Rattle.narrow_lifts.proofs.Levels.{lift_until}

-- ## Replies

module _ (lim : Limits) (n : ℕ) (X : State) (k pick w w' : ℕ) (a : Reply) where
  -- what lifting gave, settled
  settled_same : {x y : Result State} → Until14 k x y → settled x ≡ some a → (a.number ≡ 14 → x ≡ y) → settled y ≡ some a
  settled_same same e h = e
  settled_same {y = y} fourteen e h =
      let z : 14 ≡ a.number = ap (λ (r : Reply). r.number) (some-injective _ _ e) in
      subst (λ r. settled r ≡ some a) (h (sym z)) e

  pub reply_same : w ≤ w' → (a.number ≡ 14 → w ≡ w') → (long : Bool) → lift_reply lim n X long k (by_hybrid pick w) ≡ some a
      → lift_reply lim n X long k (by_hybrid pick w') ≡ some a
  reply_same l h false e = e
  reply_same l h true e = eleven (eleven? lim X k (k - 1)) e
    where
      twelve : (b : Bool) → choose (not b) (some (refuse 12 X)) (settled (lift lim n X k (by_hybrid pick w))) ≡ some a
          → choose (not b) (some (refuse 12 X)) (settled (lift lim n X k (by_hybrid pick w'))) ≡ some a
      twelve false e = e
      twelve true e = settled_same (lift_until pick w w' l n lim X k) e (λ z. ap (λ j. lift lim n X k (by_hybrid pick j)) (h z))

      eleven : (b : Bool)
          → choose b (some (refuse 11 X)) (choose (not (lifts? lim k (by_hybrid pick w))) (some (refuse 12 X))
          (settled (lift lim n X k (by_hybrid pick w)))) ≡ some a
          → choose b (some (refuse 11 X)) (choose (not (lifts? lim k (by_hybrid pick w'))) (some (refuse 12 X))
          (settled (lift lim n X k (by_hybrid pick w')))) ≡ some a
      eleven true e = e
      eleven false e = twelve (lifts? lim k (by_hybrid pick w)) e

-- ## Calls

-- the reply that a call's buffers come from
replied : {A : Type 0} (f : Reply → A) (o : Option Reply) (a : A) → (o then λ r. some (f r)) ≡ some a → (r : Reply) × (o ≡ some r) × (f r ≡ a)
replied f none a e = absurd (none-ne-some a e)
replied f (some r) a e = (r, refl, some-injective _ _ e)

module _ (lim : Limits) (n k pick : ℕ) (state : Words) where
  -- long enough, if there is room for the fewest terms
  lends_long : (work : Words) → Lends lim work → long_enough? lim (hybrid pick) state work ≡ leb (state_words lim) (length state)
  lends_long work h = go (leb (state_words lim) (length state)) (leb (work_words lim (hybrid pick)) (length work))
      (le→leb (work_words lim (hybrid pick)) (length work) (omega (arith, h)))
    where
      go : (b c : Bool) → T c → (b and c) ≡ b
      go true true t = refl
      go true false t = absurd t
      go false c t = refl

  pub called : (work work' cache cache' : Words) (a : Lift) → Lends lim work → room lim work ≤ room lim work'
      → lift_call lim n k (hybrid pick) state work cache ≡ some a → (a.0 ≡ 14 → room lim work ≡ room lim work')
      → (b : Lift) × (lift_call lim n k (hybrid pick) state work' cache' ≡ some b) × SameAnswer a b
  called work work' cache cache' a h l e z =
      let X = meant lim state in
      let r = replied (lift_left lim state work cache) (lift_reply lim n X (long_enough? lim (hybrid pick) state work) k (by_hybrid pick (room lim work))) a e in
      let i = ap (λ (b : Lift). b.0) r.2 in
      let x : lift_reply lim n X (leb (state_words lim) (length state)) k (by_hybrid pick (room lim work)) ≡ some r.0 =
      subst (λ b. lift_reply lim n X b k (by_hybrid pick (room lim work)) ≡ some r.0) (lends_long work h) r.1 in
      let y : lift_reply lim n X (leb (state_words lim) (length state)) k (by_hybrid pick (room lim work')) ≡ some r.0 =
      reply_same lim n X k pick (room lim work) (room lim work') r.0 l (λ s. z (sym i ∙ s)) (leb (state_words lim) (length state)) x in
      let u : Lends lim work' = omega (arith, h, l) in (
        lift_left lim state work' cache' r.0,
        ap (λ (o : Option Reply). o then λ s. some (lift_left lim state work' cache' s))
            (subst (λ b. lift_reply lim n X b k (by_hybrid pick (room lim work')) ≡ some r.0) (sym (lends_long work' u)) y),
        record { number = i; place = ap (λ (b : Lift). b.1) r.2; state = ap (λ (b : Lift). b.2) r.2 },
      )

  -- ## 16

  module _ (o : T (sensible? lim)) (work cache : Words) where
    abbrev Short : Type 0
    Short = (length state < state_words lim) ⊎ (length work / row_length < min least_terms lim.working)

    too_short : T (not (long_enough? lim (hybrid pick) state work)) → Short
    too_short t = go (leb (state_words lim) (length state)) (leb (work_words lim (hybrid pick)) (length work)) (le→leb (state_words lim) (length state))
        (le→leb (work_words lim (hybrid pick)) (length work)) t
      where
        go : (b c : Bool) → (state_words lim ≤ length state → T b) → (work_words lim (hybrid pick) ≤ length work → T c) → T (not (b and c)) → Short
        go false c f g t = inl (omega (arith, f))
        go true false f g t = inr (omega (arith, g))
        go true true f g t = absurd t

    not_short : T (long_enough? lim (hybrid pick) state work) → Short → ⊥
    not_short t (inl l) =
        let m : state_words lim ≤ length state = leb→le (state_words lim) (length state)
        (and_left (leb (state_words lim) (length state)) (leb (work_words lim (hybrid pick)) (length work)) t) in
        omega (arith, m, l)
    not_short t (inr l) =
        let m : min least_terms lim.working * row_length ≤ length work = leb→le (work_words lim (hybrid pick)) (length work)
        (and_right (leb (state_words lim) (length state)) (leb (work_words lim (hybrid pick)) (length work)) t) in
        omega (arith, m, l)

    by_form : (a : Lift) → LiftForm lim k (hybrid pick) state work cache a → (a.0 ≡ 16) ↔ Short
    by_form a (Demands.LiftForm.lifted_as X g bound t e u l d s) = (λ z. absurd (let y : 0 ≡ 16 = z in omega arith), λ s. absurd (not_short t s))
    by_form a (Demands.LiftForm.refused_as bound t u l e m) = (λ z. absurd (subst (λ j. T (limit? j)) z m), λ s. absurd (not_short t s))
    by_form a (Demands.LiftForm.no_level t u) = (λ z. absurd (let y : 11 ≡ 16 = z in omega arith), λ s. absurd (not_short t s))
    by_form a (Demands.LiftForm.no_number t u l) = (λ z. absurd (let y : 12 ≡ 16 = z in omega arith), λ s. absurd (not_short t s))
    by_form a (Demands.LiftForm.too_short t) = (λ z. too_short t, λ s. refl)

    pub sixteen : (a : Lift) → lift_call lim n k (hybrid pick) state work cache ≡ some a
        → (a.0 ≡ 16) ↔ ((length state < state_words lim) ⊎ (length work / row_length < min least_terms lim.working))
    sixteen a e = by_form a ((demand_1 lim o).lifts n k (hybrid pick) state work cache a e)
