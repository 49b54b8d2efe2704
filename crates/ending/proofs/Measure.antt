-- The single sums of a step, for loops that go through them: what they do to a good value and to what it can cost.
use mathlib.Core.Path.{◌≡◌}
use mathlib.Core.Bool.{Bool}
use mathlib.Core.List.{[]}
use Prim.Native.Nat.{ℕ, ◌+◌, ◌≤◌, ◌<◌}
use lib.Dec.{T}
use lib.ListN.{length, get_or}
use Rattle.definitions.specs.Lists.{without}
use Rattle.definitions.specs.Monomial.{Exponents, Monomial, Term, Vector, Level, no_term}
use Rattle.definitions.specs.Result.{done}
use Rattle.definitions.specs.Vectors.{store}
use Rattle.definitions.specs.Stage.{Reduction}
use Rattle.definitions.specs.Run.{add_term, add_products}
use Rattle.laws.proofs.Members.{All}
use Rattle.laws.proofs.Induced.{Shaped}
use Rattle.laws.proofs.Results.{if_done_says}
use Rattle.ending.specs.Good.{good_monomial?, good?}
use Rattle.ending.specs.Spent.{total, total_products, cost, many, spent}
use Rattle.ending.proofs.Values.{Good, good_says, good_shows, thinned_good, without_thinned, without_total}
use Rattle.ending.proofs.Adding.{Stored, store_is, stored_good, stored_total, add_term_good, add_term_total, add_products_good, add_products_total}

-- ## Good values

pub empty_good : T (good? [])
empty_good = good_shows [] tt

pub store_keeps : (limit p : ℕ) (t : Term) → T (good_monomial? t.1) → (v w : Vector) → T (good? v) → store limit p t v ≡ done w → T (good? w)
store_keeps limit p t m v w g e =
    good_shows w (stored_good t v m (good_says v g) w (if_done_says (Stored t v) (store limit p t v) (store_is limit p t v) w e))

pub add_term_keeps : (R : Reduction) → R.limits.exponent ≤ 255 → (drops : Bool) (t : Term) → Shaped 8 t.1 → (v w : Vector) → T (good? v)
    → add_term R drops t v ≡ done w → T (good? w)
add_term_keeps R l drops t s v w g e = good_shows w (if_done_says Good (add_term R drops t v) (add_term_good R l drops t s v (good_says v g)) w e)

pub add_products_keeps : (R : Reduction) → R.limits.exponent ≤ 255 → (drops : Bool) (c : ℕ) (q : Exponents) → length q ≡ 8 → (f : Vector)
    → All (λ t. Shaped 8 t.1) f
    → (v w : Vector) → T (good? v) → add_products R drops c q f v ≡ done w → T (good? w)
add_products_keeps R l drops c q k f s v w g e =
    good_shows w (if_done_says Good (add_products R drops c q f v) (add_products_good R l drops c q k f s v (good_says v g)) w e)

pub without_keeps : (v : Vector) (i : ℕ) → T (good? v) → T (good? (without i v))
without_keeps v i g = good_shows (without i v) (thinned_good (without_thinned v i) (good_says v g))

-- ## What they can cost

module _ (p : ℕ) (heads : Vector) (f : Level) where
  abbrev pub costs : Monomial → ℕ
  costs m = cost (many f) p heads f m

  pub store_spends : (limit p' : ℕ) (t : Term) (v w : Vector) → store limit p' t v ≡ done w → spent p heads f w ≤ costs t.1 + spent p heads f v
  unfolding spent
  store_spends limit p' t v w e = stored_total costs t v w (if_done_says (Stored t v) (store limit p' t v) (store_is limit p' t v) w e)

  pub add_term_spends : (R : Reduction) (drops : Bool) (t : Term) (v w : Vector) → add_term R drops t v ≡ done w
      → spent p heads f w ≤ costs t.1 + spent p heads f v
  unfolding spent
  add_term_spends R drops t v w e =
      if_done_says (λ w. total costs w ≤ costs t.1 + total costs v) (add_term R drops t v) (add_term_total costs R drops t v) w e

  pub add_products_spends : (R : Reduction) (drops : Bool) (c : ℕ) (q : Exponents) (g v w : Vector) → add_products R drops c q g v ≡ done w
      → spent p heads f w ≤ total_products costs q g + spent p heads f v
  unfolding spent
  add_products_spends R drops c q g v w e =
      if_done_says (λ w. total costs w ≤ total_products costs q g + total costs v) (add_products R drops c q g v)
      (add_products_total costs R drops c q g v) w e

  pub without_spends : (v : Vector) (i : ℕ) → i < length v → costs (get_or v i no_term).1 + spent p heads f (without i v) ≡ spent p heads f v
  unfolding spent
  without_spends v i l = without_total costs v i l
