-- A step keeps a good value good and makes the number of what it can cost fall, whichever place is picked, whether lower order terms are dropped or
-- not, while lifting and while accepting.
use mathlib.Core.Path.{◌≡◌, refl, sym, ap, ◌∙◌, subst, subst₃}
use mathlib.Core.Bool.{Bool, true, false}
use mathlib.Core.Option.{Option, none, some}
use mathlib.Core.List.{[], ◌∷◌}
use Prim.Native.Nat.{ℕ, ◌+◌, ◌≤◌, ◌<◌}
use native.Mathlib.Omega.{arith}
use lib.Dec.{T}
use lib.ListN.{length, get_or}
use Rattle.definitions.specs.Lists.{rest, without}
use Rattle.definitions.specs.Field.{minus}
use Rattle.definitions.specs.Monomial.{Exponents, Monomial, Term, Vector, Level, no_term, vector_of}
use Rattle.definitions.specs.Order.{Comparison}
use Rattle.definitions.specs.Reducer.{Answer, reducer, lower_order, lower_order?, heads, answer}
use Rattle.definitions.specs.Result.{Result, done, ◌>>=◌}
use Rattle.definitions.specs.Vectors.{store}
use Rattle.definitions.specs.Stage.{Reduction, Stage}
use Rattle.definitions.specs.Run.{Run, Strategy, Step, on, end, multiple, add_term, add_products, start, reduced, without_reducer, by_answer, by_pick, step}
use Rattle.laws.proofs.Members.{All, all_map}
use Rattle.laws.proofs.Modular.{Prime}
use Rattle.laws.proofs.Induced.{Shaped}
use Rattle.laws.proofs.Reducers.{Reducing, answer_reducing, Leading, reducing_some, reducing_leads}
use Rattle.laws.proofs.Results.{IfDone, if_done_says, if_done_map, if_done_always, if_done_both, if_done_bind}
use Rattle.ending.specs.Good.{good?}
use Rattle.ending.specs.Spent.{total, total_products, cost, many, spent}
use Rattle.ending.specs.Well.{Proper, Descending, Well, Picks}
use Rattle.ending.proofs.Values.{Good, good_says, good_shows, good_at, good_eight, good_fits, good_component, thinned_good, without_thinned}
use Rattle.ending.proofs.Values.{without_total}
use Rattle.ending.proofs.Adding.{add_products_good, add_products_total}
use Rattle.ending.proofs.Costs.{descending_of, cost_falls, cost_lower}
use Rattle.ending.proofs.Leaving.{first_leaves}

-- the terms of a family's vector are shaped
shaped_terms : (p : ℕ) (v : Vector) → All (Proper p) v → All (λ t. Shaped 8 t.1) v
shaped_terms p v h = all_map (Proper p) (λ t. Shaped 8 t.1) (λ t s. s.shaped) v h

-- ## A reducer's products

-- a good value on which h is below n
abbrev Below : ℕ → (Monomial → ℕ) → Vector → Type 0
Below n h w = Good w × (total h w < n)

module _ (R : Reduction) (P : Prime R.p) (small : R.limits.exponent ≤ 255) (drops : Bool) (h : Monomial → ℕ)
    (v : Vector) (i : ℕ) (g : Good v) (l : i < length v) where
  abbrev picked : Term
  picked = get_or v i no_term

  -- the products after the first, which cost less than the picked term that has left
  others_fall : (c : ℕ) (q : Exponents) → length q ≡ 8 → (f : Vector) → All (Proper R.p) f → total_products h q f < h picked.1
      → (u : Vector) → u ≡ without i v → IfDone (Below (total h v) h) (add_products R drops c q f u)
  others_fall c q n f s k u e =
      if_done_map (λ w. Good w × (total h w ≤ total_products h q f + total h u)) (Below (total h v) h)
      (λ w b. (b.0, omega (arith, b.1, ap (total h) e, without_total h v i l))) sum
      (if_done_both Good (λ w. total h w ≤ total_products h q f + total h u) sum
      (add_products_good R small drops c q n f (shaped_terms R.p f s) u (subst Good (sym e) (thinned_good (without_thinned v i) g)))
      (add_products_total h R drops c q f u))
    where
      sum : Result Vector
      sum = add_products R drops c q f u

  -- all products: the first one cancels the picked term
  products_fall : (c : ℕ) (q : Exponents) → lower_order? (answer R.p R.heads picked) ≡ false → (order : Monomial → Monomial → Comparison)
      → (f : Vector) → Descending R.p order f → Reducing R.p f picked c q → total_products h q (rest f) < h picked.1
      → IfDone (Below (total h v) h) (add_products R drops (minus R.p c) q f v)
  products_fall c q a order [] d r k = absurd (reducing_some R.p picked c q r (good_component picked.1 (good_at v g i l)))
  products_fall c q a order (t ∷ f) d r k =
      if_done_bind (λ u. u ≡ without i v) (Below (total h v) h) (add_term R drops (multiple R.p (minus R.p c) q t) v)
      (λ u. add_products R drops (minus R.p c) q f u) (first_leaves R P drops v i g l a c q t f d.proper.0 r)
      (others_fall (minus R.p c) q led.long f d.proper.1 k)
    where
      led : Leading 8 q t.1 picked.1
      led = reducing_leads R.p picked c q t f r 8 d.proper.0.shaped.long (good_eight picked.1 (good_at v g i l))

-- ## A step

-- where the step goes on
abbrev IfOn : (Vector → Type 0) → Step → Type 0
IfOn D (on r) = D r.value
IfOn D (end v) = Unit {0}

module _ (S : Stage) (X : Well S) (W : Strategy) where
  abbrev R : Reduction
  R = S.reduction

  abbrev h : Monomial → ℕ
  h m = cost (many S.family) R.p (heads R.p S.family) S.family m

  -- the term at place i is picked
  module _ (r : Run) (g : Good r.value) (i : ℕ) (l : i < length r.value) where
    abbrev t : Term
    t = get_or r.value i no_term

    abbrev Next : Step → Type 0
    Next = IfOn (Below (total h r.value) h)

    by_family : (a : Answer) → answer R.p R.heads t ≡ a → answer R.p (heads R.p S.family) t ≡ a
    by_family a e = ap (λ hs. answer R.p hs t) (sym X.heads_are) ∙ e

    reduced_falls : (j c : ℕ) (q : Exponents) → answer R.p R.heads t ≡ reducer j c q → IfDone Next (reduced S W r j (minus R.p c) q)
    reduced_falls j c q e =
        if_done_bind (λ v. Unit {0}) Next stored (λ v. added >>= λ w. done (on (record { value = w; vector = v })))
        (if_done_always (λ v. Unit {0}) (λ v. tt) stored) λ v u.
        if_done_bind (Below (total h r.value) h) Next added (λ w. done (on (record { value = w; vector = v }))) fall (λ w k. k)
      where
        stored : Result Vector
        stored = store R.limits.vector R.p (minus R.p c, (q, j)) r.vector

        added : Result Vector
        added = add_products R W.drops (minus R.p c) q (vector_of S.family j) r.value

        cheaper : total_products h q (rest (vector_of S.family j)) < h t.1
        cheaper =
            let k = good_at r.value g i l in
            cost_falls R.p S.below X.order S.family X.family t j c q (good_eight t.1 k) (good_fits t.1 k)
            (by_family (reducer j c q) e)

        fall : IfDone (Below (total h r.value) h) added
        fall =
            products_fall R X.prime X.small W.drops h r.value i g l c q (ap lower_order? e) S.below (vector_of S.family j)
            (descending_of R.p S.below S.family X.family j)
            (answer_reducing R.p S.family t j c q (by_family (reducer j c q) e)) cheaper

    dropped_falls : answer R.p R.heads t ≡ lower_order → (stops : Bool) → IfDone Next (without_reducer stops S r i)
    dropped_falls e true = tt
    dropped_falls e false =
        let one = cost_lower R.p S.below X.order S.family X.family t (good_fits t.1 (good_at r.value g i l))
        (by_family lower_order e) in
        (thinned_good (without_thinned r.value i) g, omega (arith, without_total h r.value i l, one))

    answer_falls : (a : Answer) → answer R.p R.heads t ≡ a → IfDone Next (by_answer S W r i a)
    answer_falls (reducer j c q) e = reduced_falls j c q e
    answer_falls lower_order e = dropped_falls e W.stops

  next_falls : Picks W.pick → (r : Run) → Good r.value → IfDone (IfOn (Below (total h r.value) h)) (step S W r)
  next_falls k r g = go (W.pick r.value) (k r.value)
    where
      go : (o : Option ℕ) → ((i : ℕ) → o ≡ some i → i < length r.value) → IfDone (IfOn (Below (total h r.value) h)) (by_pick S W r o)
      go none l = tt
      go (some i) l = answer_falls r g i (l i refl) (answer R.p R.heads (get_or r.value i no_term)) refl

  next_below : Picks W.pick → (r r' : Run) → T (good? r.value) → step S W r ≡ done (on r') → Below (total h r.value) h r'.value
  next_below k r r' g e = if_done_says (IfOn (Below (total h r.value) h)) (step S W r) (next_falls k r (good_says r.value g)) (on r') e

  -- a step keeps a good value good
  pub step_keeps : Picks W.pick → (r r' : Run) → T (good? r.value) → step S W r ≡ done (on r') → T (good? r'.value)
  step_keeps k r r' g e = good_shows r'.value (next_below k r r' g e).0

  -- .. and what the value can cost falls
  pub step_falls : Picks W.pick → (r r' : Run) → T (good? r.value) → step S W r ≡ done (on r')
      → spent R.p R.heads S.family r'.value < spent R.p R.heads S.family r.value
  unfolding spent
  step_falls k r r' g e =
      subst (λ hs. by hs r'.value < by hs r.value) (sym X.heads_are) (next_below k r r' g e).1
    where
      by : Vector → Vector → ℕ
      by hs v = total (cost (many S.family) R.p hs S.family) v

  -- the same over a prime, heads and a family that are known to be the stage's, as a loop has them
  pub step_falls_as : {p : ℕ} {hs : Vector} {f : Level} → R.p ≡ p → R.heads ≡ hs → S.family ≡ f → Picks W.pick → (r r' : Run)
      → T (good? r.value)
      → step S W r ≡ done (on r') → spent p hs f r'.value < spent p hs f r.value
  step_falls_as a b c k r r' g e = subst₃ (λ p hs f. spent p hs f r'.value < spent p hs f r.value) a b c (step_falls k r r' g e)

-- ## The start

-- the products of a frame term with eight exponents
pub start_good : (S : Stage) → Well S → (W : Strategy) (m : Monomial) → length m.0 ≡ 8 → (r : Run) → start S W m ≡ done r → T (good? r.value)
start_good S X W m l r e = good_shows r.value (if_done_says (λ r'. Good r'.value) (start S W m) started r e)
  where
    f : Vector
    f = vector_of S.family m.1

    added : IfDone Good (add_products S.reduction W.drops 1 m.0 f [])
    added =
        add_products_good S.reduction X.small W.drops 1 m.0 l f
        (shaped_terms S.reduction.p f (descending_of S.reduction.p S.below S.family X.family m.1).proper) [] tt

    started : IfDone (λ r'. Good r'.value) (start S W m)
    started =
        if_done_bind Good (λ r'. Good r'.value) (add_products S.reduction W.drops 1 m.0 f [])
        (λ v. done (record { value = v; vector = (1, m) ∷ [] })) added (λ v k. k)
