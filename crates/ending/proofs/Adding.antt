-- Sums of products: what storing a term, adding a product and adding all products of a multiple do to a good value, and to a sum over its terms.
use mathlib.Core.Path.{◌≡◌, refl, sym, subst}
use mathlib.Core.Logic.{◌≢◌}
use mathlib.Core.Bool.{Bool, true, false, not}
use mathlib.Core.Option.{Option, none, some}
use mathlib.Core.List.{[], ◌∷◌, ◌++◌}
use Prim.Native.Nat.{ℕ, ◌+◌, ◌≤◌}
use native.Mathlib.Omega.{arith}
use lib.Dec.{T, T_not, eqb, leb, ltb, leb→le, le→leb}
use lib.ListN.{length}
use Rattle.definitions.specs.Lists.{◌and◌}
use Rattle.definitions.specs.Field.{plus}
use Rattle.definitions.specs.Monomial.{Exponents, Monomial, Term, Vector, fits?, same_monomial?, product}
use Rattle.definitions.specs.Vectors.{unless_zero, behind, combined, appended, or_last, store}
use Rattle.definitions.specs.Stage.{Reduction}
use Rattle.definitions.specs.Run.{multiple, dropped?, unless_dropped, if_fits, add_term, add_products}
use Rattle.laws.proofs.Tests.{and_both}
use Rattle.laws.proofs.Members.{All, every_all, all_every, all_map, all_append}
use Rattle.laws.proofs.Products.{length_product, same_monomial_shows}
use Rattle.laws.proofs.Induced.{Shaped}
use Rattle.laws.proofs.Results.{IfDone, if_done_map, if_done_bind}
use Rattle.ending.specs.Good.{good_monomial?}
use Rattle.ending.specs.Spent.{total, total_products}
use Rattle.ending.proofs.Values.{Fresh, Good, Thinned, kept, left, thinned_same, thinned_good, thinned_total}

-- ## A term stored

-- where a stored term goes: into an equal one, or last
pub data Stored (t : Term) (v : Vector) : Vector → Type 0 where
  inside : {w : Vector} → Thinned w v → Stored t v w
  behind_all : Fresh t.1 v → Stored t v (v ++ t ∷ [])

-- what a combination says: there is no equal monomial, or one combined
abbrev Combines : Term → Vector → Option Vector → Type 0
Combines t v none = Fresh t.1 v
Combines t v (some w) = Thinned w v

unless_zero_thinned : (x : ℕ) (u : Term) (v : Vector) → Thinned (unless_zero (x, u.1) v) (u ∷ v)
unless_zero_thinned x u v = go (eqb x 0)
  where
    go : (b : Bool) → Thinned (elim b [ true ↦ v | false ↦ (x, u.1) ∷ v ]) (u ∷ v)
    go true = left (thinned_same v)
    go false = kept refl (thinned_same v)

combined_is : (p : ℕ) (t : Term) (v : Vector) → Combines t v (combined p t v)
combined_is p t [] = tt
combined_is p t (u ∷ v) =
    go (same_monomial? t.1 u.1) (λ n e. T_not (same_monomial? t.1 u.1) n (same_monomial_shows t.1 u.1 e)) (combined p t v)
    (combined_is p t v)
  where
    go : (b : Bool) → (T (not b) → t.1 ≢ u.1) → (o : Option Vector) → Combines t v o
        → Combines t (u ∷ v) (elim b [ true ↦ some (unless_zero (plus p u.0 t.0, u.1) v) | false ↦ behind u o ])
    go true n o k = unless_zero_thinned (plus p u.0 t.0) u v
    go false n none k = (n tt, k)
    go false n (some w) k = kept refl k

pub store_is : (limit p : ℕ) (t : Term) (v : Vector) → IfDone (Stored t v) (store limit p t v)
store_is limit p t v = go (combined p t v) (combined_is p t v)
  where
    last : Fresh t.1 v → (b : Bool) → IfDone (Stored t v) (appended b t v)
    last k true = behind_all k
    last k false = tt

    go : (o : Option Vector) → Combines t v o → IfDone (Stored t v) (or_last limit t v o)
    go (some w) k = inside k
    go none k = last k (ltb (length v) limit)

good_last : (t : Term) → T (good_monomial? t.1) → (v : Vector) → Fresh t.1 v → Good v → Good (v ++ t ∷ [])
good_last t m [] f g = (m, tt, tt)
good_last t m (u ∷ v) f g = (g.0, all_append (λ x. u.1 ≢ x.1) v (t ∷ []) g.1 ((λ e. f.0 (sym e)), tt), good_last t m v f.1 g.2)

pub stored_good : (t : Term) (v : Vector) → T (good_monomial? t.1) → Good v → (w : Vector) → Stored t v w → Good w
stored_good t v m g w (inside k) = thinned_good k g
stored_good t v m g w (behind_all f) = good_last t m v f g

total_last : (h : Monomial → ℕ) (t : Term) (v : Vector) → total h (v ++ t ∷ []) ≡ h t.1 + total h v
total_last h t [] = refl
total_last h t (u ∷ v) = omega (arith, total_last h t v)

pub stored_total : (h : Monomial → ℕ) (t : Term) (v w : Vector) → Stored t v w → total h w ≤ h t.1 + total h v
stored_total h t v w (inside k) = omega (arith, thinned_total h k)
stored_total h t v w (behind_all f) = omega (arith, total_last h t v)

-- ## A product added

pub record Added (limit : ℕ) (t : Term) (v w : Vector) : Type 0 where
  pub fits : T (fits? limit t.1.0)
  pub stored : Stored t v w

pub add_term_is : (R : Reduction) (drops : Bool) (t : Term) (v : Vector) → IfDone (Added R.limits.exponent t v) (add_term R drops t v)
add_term_is R drops t v = go (fits? R.limits.exponent t.1.0) (λ f. f)
  where
    stays : T (fits? R.limits.exponent t.1.0) → (b : Bool) → IfDone (Added R.limits.exponent t v) (unless_dropped b R t v)
    stays f true = record { fits = f; stored = inside (thinned_same v) }
    stays f false =
        if_done_map (Stored t v) (Added R.limits.exponent t v) (λ w k. record { fits = f; stored = k }) (store R.limits.working R.p t v)
        (store_is R.limits.working R.p t v)

    go : (b : Bool) → (T b → T (fits? R.limits.exponent t.1.0)) → IfDone (Added R.limits.exponent t v) (if_fits b R drops t v)
    go false f = tt
    go true f = stays (f tt) (dropped? R drops t.1)

fits_more : (a b : ℕ) → a ≤ b → (e : Exponents) → T (fits? a e) → T (fits? b e)
fits_more a b l e t =
    all_every (λ x. leb x b) e
    (all_map (λ x. T (leb x a)) (λ x. T (leb x b)) (λ x h. le→leb x b (omega (arith, leb→le x a h))) e (every_all (λ x. leb x a) e t))

pub shaped_good : (limit : ℕ) → limit ≤ 255 → (m : Monomial) → Shaped 8 m → T (fits? limit m.0) → T (good_monomial? m)
shaped_good limit l m s f =
    and_both (eqb (length m.0) 8) (fits? 255 m.0 and leb 1 m.1) (subst (λ n. T (eqb n 8)) (sym s.long) tt)
    (and_both (fits? 255 m.0) (leb 1 m.1) (fits_more limit 255 l m.0 f) (le→leb 1 m.1 s.component))

pub add_term_good : (R : Reduction) → R.limits.exponent ≤ 255 → (drops : Bool) (t : Term) → Shaped 8 t.1 → (v : Vector) → Good v
    → IfDone Good (add_term R drops t v)
add_term_good R l drops t s v g =
    if_done_map (Added R.limits.exponent t v) Good (λ w a. stored_good t v (shaped_good R.limits.exponent l t.1 s a.fits) g w a.stored)
    (add_term R drops t v) (add_term_is R drops t v)

pub add_term_total : (h : Monomial → ℕ) (R : Reduction) (drops : Bool) (t : Term) (v : Vector)
    → IfDone (λ w. total h w ≤ h t.1 + total h v) (add_term R drops t v)
add_term_total h R drops t v =
    if_done_map (Added R.limits.exponent t v) (λ w. total h w ≤ h t.1 + total h v) (λ w a. stored_total h t v w a.stored)
    (add_term R drops t v) (add_term_is R drops t v)

-- ## All products of a multiple

pub product_shaped : (q : Exponents) → length q ≡ 8 → (m : Monomial) → Shaped 8 m → Shaped 8 (product q m.0, m.1)
product_shaped q l m s = record { long = length_product 8 q m.0 l s.long; component = s.component }

pub add_products_good : (R : Reduction) → R.limits.exponent ≤ 255 → (drops : Bool) (c : ℕ) (q : Exponents) → length q ≡ 8 → (f : Vector)
    → All (λ t. Shaped 8 t.1) f
    → (v : Vector) → Good v → IfDone Good (add_products R drops c q f v)
add_products_good R l drops c q k [] s v g = g
add_products_good R l drops c q k (t ∷ f) s v g =
    if_done_bind Good Good (add_term R drops (multiple R.p c q t) v) (λ w. add_products R drops c q f w)
    (add_term_good R l drops (multiple R.p c q t) (product_shaped q k t.1 s.0) v g)
    (λ w h. add_products_good R l drops c q k f s.1 w h)

pub add_products_total : (h : Monomial → ℕ) (R : Reduction) (drops : Bool) (c : ℕ) (q : Exponents) (f v : Vector)
    → IfDone (λ w. total h w ≤ total_products h q f + total h v) (add_products R drops c q f v)
add_products_total h R drops c q [] v = omega arith
add_products_total h R drops c q (t ∷ f) v =
    if_done_bind (λ w. total h w ≤ h (product q t.1.0, t.1.1) + total h v) (λ w. total h w ≤ total_products h q (t ∷ f) + total h v)
    (add_term R drops (multiple R.p c q t) v) (λ w. add_products R drops c q f w) (add_term_total h R drops (multiple R.p c q t) v) λ u k.
    if_done_map (λ w. total h w ≤ total_products h q f + total h u) (λ w. total h w ≤ total_products h q (t ∷ f) + total h v) (λ w i. omega arith)
    (add_products R drops c q f u) (add_products_total h R drops c q f u)
