-- The pass over the nodes from a frame term: the theory's vector, and the remainder of division.
use mathlib.Core.Path.{◌≡◌, sym, ap, ◌∙◌, subst}
use mathlib.Core.Bool.{Bool, false}
use mathlib.Core.List.{List, [], ◌∷◌, ◌++◌}
use Prim.Native.Nat.{ℕ, ◌<◌}
use native.Mathlib.Omega.{arith}
use lib.Dec.{T}
use lib.ListN.{length, get_or}
use Rattle.theory.specs.Laws.{Scalars}
use Rattle.theory.specs.Vec.{Vec, ev, Same, scale, lin, All, times, ψ}
use Rattle.theory.specs.Induced
use Rattle.theory.specs.Syzygy.{In, Ahead}
use Rattle.theory.specs.Stage.{Real}
use Rattle.theory.specs.Reckon.{reckon}
use Rattle.theory.proofs.Levels.{Up}
use Rattle.theory.proofs.Vec
use Rattle.theory.proofs.Runs.{drop_lower}
use Rattle.theory.proofs.Canon.{canon_all, canonical_is, canonical_unique}
use Rattle.theory.proofs.Reckoning.{reckon_ahead}
use Rattle.definitions.specs.Limits.{Limits}
use Rattle.definitions.specs.Stage.{Stage}
use Rattle.demands.proofs.Exponents.{out}
use Rattle.demands.proofs.Levels.{Mono, TVec, mono, vec, monos, flat_at, vec_empty}
use Rattle.demands.proofs.Coefficients.{good_one}
use Rattle.demands.proofs.Setting.{Setting, S, L, A, F, red, up}
use Rattle.demands.proofs.Steps.{stage}
use Rattle.demands.proofs.Reckoned.{vector}
use Rattle.sweeps.specs.Table.{all_held?, begun?}
use Rattle.sweeps.specs.Sweep.{edges, spread, zeros, sweep, left, first_sums, swept, remainder, forward?}
use Rattle.sweeps.proofs.Spreading.{held, Spread, spread_edges, zeros_held, zeros_length}
use Rattle.sweeps.proofs.Passing.{Falling, Swept, sweeps}

-- an equal first term may go
cons_cancel : (S : Scalars) {B : Type 0} (c : S.K) (b : B) (v w : Vec S B) → Same S ((c, b) ∷ v) ((c, b) ∷ w) → Same S v w
cons_cancel S {B = B} c b v w e = record { at = λ φ. sym (back φ v) ∙ ap (S.add (S.mul (S.neg c) (φ b))) (e.at φ) ∙ back φ w }
  where
    back : (φ : B → S.K) (v : Vec S B) → S.add (S.mul (S.neg c) (φ b)) (ev S φ ((c, b) ∷ v)) ≡ ev S φ v
    back φ v = sym (S.add_assoc _ _ _) ∙ ap (λ z. S.add z (ev S φ v)) (S.neg_add c (φ b)) ∙ Vec.ev_red S φ v

module _ (Z : Setting) (lim : Limits) (d : Bool) (xs : List (Mono Z.n)) (k : Falling Z lim d xs) (fw : T (forward? (stage Z lim) d (monos Z.n xs)))
    (x : Mono Z.n) (real : Real (S Z) (L Z) (A Z) x) (begins : T (begun? (stage Z lim) d (monos Z.n xs) (mono Z.n x))) where
  abbrev K : Stage
  K = stage Z lim

  abbrev f : TVec Z.n
  f = get_or Z.f x.1 []

  -- the frame term's own products
  abbrev products : TVec Z.n
  products = times (S Z) (L Z) (F Z).f x

  sums : List ℕ
  sums = first_sums K (monos Z.n xs) (mono Z.n x)

  first : Spread Z lim d xs (zeros (monos Z.n xs)) 1 (scale (S Z) 1 products) sums
  unfolding sums
  first =
      subst (λ v. Spread Z lim d xs (zeros (monos Z.n xs)) 1 (scale (S Z) 1 products) (spread 1 (edges Z.p 1 (out Z.n x.0) v) (monos Z.n xs)
      (zeros (monos Z.n xs)))) (sym (flat_at Z.n Z.f x.1))
      (spread_edges Z lim d 1 1 x.0 f xs (zeros (monos Z.n xs)) (zeros_length Z lim xs)
      (subst (λ v. T (all_held? K.reduction d (monos Z.n xs) (out Z.n x.0) v)) (flat_at Z.n Z.f x.1) begins))

  abbrev g : TVec Z.n
  g = held Z lim xs sums

  begin : Same (S Z) (g ++ first.low) products
  begin =
      Vec.same_trans (S Z) first.split
      (Vec.same_append (S Z) (zeros_held Z lim xs) (Vec.same_trans (S Z) (Vec.scale_one (S Z) (scale (S Z) 1 products)) (Vec.scale_one (S Z) products)))

  pass : Swept Z lim d xs g (sweep K (monos Z.n xs) sums) (left K (monos Z.n xs) sums)
  pass = sweeps Z lim d xs k fw sums first.long

  lifts : Same (S Z) pass.form (lin (S Z) (up Z) products)
  lifts = Vec.same_trans (S Z) pass.like (drop_lower (S Z) (L Z) (F Z) (red Z) g first.low products first.lower begin)

  -- ## The vector

  ahead : Ahead (S Z) (L Z) (F Z) x (reckon (S Z) (L Z) (F Z) (red Z) x)
  ahead =
      let z : Mono Z.n = real.1.0 in
      let h : z.1 < length Z.f = omega (arith, real.0, real.1.1) in
      reckon_ahead (S Z) (L Z) (F Z) (red Z) x z real.0 h real.1.1 real.1.2

  abbrev Before : Mono Z.n → Type 0
  Before y = Induced.IndLt (L Z) (F Z).lm y x

  in_front : All (S Z) Before pass.form
  in_front =
      subst (All (S Z) Before) (sym (canonical_is (S Z) (Up (S Z) (L Z) (F Z)) pass.form ahead.rest pass.canonical
      (Vec.same_trans (S Z) lifts (cons_cancel (S Z) 1 x (lin (S Z) (up Z) products) ahead.rest ahead.split))))
      (canon_all (S Z) (Up (S Z) (L Z) (F Z)) Before ahead.rest
      (Vec.all_map (S Z) (λ y. In (S Z) (L Z) (F Z) y × Before y) Before (λ y h. h.1) ahead.rest ahead.small))

  form_is : (1, x) ∷ pass.form ≡ vector Z x
  form_is =
      canonical_is (S Z) (Up (S Z) (L Z) (F Z)) ((1, x) ∷ pass.form) (reckon (S Z) (L Z) (F Z) (red Z) x)
      ((good_one Z.p Z.P).0, (good_one Z.p Z.P).1, in_front, pass.canonical) (Vec.same_cons (S Z) (1, x) lifts)

  pub swept_is : swept K (monos Z.n xs) (mono Z.n x) ≡ vec Z.n (vector Z x)
  unfolding sums
  swept_is = ap (λ y. (1, mono Z.n x) ∷ y) pass.is ∙ ap (vec Z.n) form_is

  -- ## The remainder

  abbrev pub put_in : TVec Z.n
  put_in = ψ (S Z) (L Z) (F Z).f (reckon (S Z) (L Z) (F Z) (red Z) x)

  -- zero exactly if nothing is left
  pub remainder_empty : d ≡ false → (Same (S Z) put_in [] → remainder K (monos Z.n xs) (mono Z.n x) ≡ [])
      × (remainder K (monos Z.n xs) (mono Z.n x) ≡ [] → Same (S Z) put_in [])
  unfolding sums
  remainder_empty e = (
    (λ z. pass.rests_is ∙ ap (vec Z.n) (canonical_unique (S Z) (L Z) pass.rests [] pass.rests_canonical tt (Vec.same_trans (S Z) (Vec.same_sym (S Z)
        same) z))),
    (λ z. subst (Same (S Z) put_in) (vec_empty Z.n pass.rests (sym pass.rests_is ∙ z)) same),
  )
    where
      form : TVec Z.n
      form = ψ (S Z) (L Z) (F Z).f pass.form

      whole : Same (S Z) g products
      whole = Vec.same_trans (S Z) (Vec.same_nil (S Z) g) (subst (λ z. Same (S Z) (g ++ z) products) (first.whole e) begin)

      same : Same (S Z) put_in pass.rests
      same =
          Vec.same_trans (S Z) (Vec.same_lin (S Z) (times (S Z) (L Z) (F Z).f) (Vec.same_cons (S Z) (1, x) (Vec.same_sym (S Z) lifts)))
          (Vec.same_trans (S Z) (Vec.same_append (S Z) (Vec.same_trans (S Z) (Vec.scale_one (S Z) products) (Vec.same_sym (S Z) whole)) (Vec.same_refl (S Z)
          {v = form}))
          (pass.even e))
