-- Products added to a working value: what the parts of the code give, joined to the definition.
use mathlib.Core.Path.{◌≡◌, refl, sym, ap, ◌∙◌, subst}
use mathlib.Core.Bool.{Bool, true, false}
use mathlib.Core.Option.{Option, none, some}
use mathlib.Core.List.{[], ◌∷◌}
use Prim.Native.Nat.{ℕ, suc, ◌+◌, ◌-◌, ◌<◌, ◌≤◌}
use native.Mathlib.Omega.{arith}
use lib.Dec.{T, ltb, eqb}
use lib.ListN.{length, length-append}
use borrow.Author.Tests.{ltb-true}
use Rattle.definitions.specs.Lists.{choose}
use Rattle.definitions.specs.Field.{plus}
use Rattle.definitions.specs.Monomial.{Exponents, Monomial, Term, Vector, same_monomial?}
use Rattle.definitions.specs.Reducer.{lower_order?}
use Rattle.definitions.specs.Result.{Result, done, refused, unfinished, refusal, ◌>>=◌}
use Rattle.definitions.specs.Vectors.{combined, behind, or_last, appended, store}
use Rattle.definitions.specs.Stage.{Reduction}
use Rattle.definitions.specs.Run.{dropped?, add_term, add_products, multiple}
use Rattle.definitions.specs.Layout.{Words, row_at, rows}
use Rattle.laws.proofs.Rows.{length_rows, rows_first}
use Rattle.std.specs.Prelude.{Option as CodeOption, Some, None, is_some, ok_or, not}
use Rattle.reducers.specs.search.Search.{searched}
use Rattle.reducers.proofs.search.Answers.{searched_lower, searched_reducer}
use Rattle.vectors.specs.sums.Places.{stored_as}
use Rattle.words.specs.declared.refusals.Refusal.TheVariants.{Terms}
use Rattle.runs.specs.reduction.Grounds.{added_of, Within}

-- ## Dropped or not

pub is_dropped : (R : Reduction) (m : Monomial) → None ≡ searched R.heads m → dropped? R true m ≡ true
is_dropped R m e = sym (ap lower_order? (searched_lower R.p R.heads (1, m) e))

pub not_dropped : (R : Reduction) (m : Monomial) (j h : ℕ) → Some (j, h) ≡ searched R.heads m → dropped? R true m ≡ false
not_dropped R m j h e = sym (ap lower_order? (searched_reducer R.p R.heads (1, m) j h e).answers)

-- dropped where nothing is found
pub found_none : (R : Reduction) (m : Monomial) (x : CodeOption (ℕ × ℕ)) (b : Bool) → is_some x ≡ not b → x ≡ searched R.heads m → b ≡ dropped? R true m
found_none R m None true q e = sym (is_dropped R m e)
found_none R m None false q e = absurd (subst T (sym q) tt)
found_none R m (Some (j, h)) true q e = absurd (subst T q tt)
found_none R m (Some (j, h)) false q e = sym (not_dropped R m j h e)

pub drops_none : (R : Reduction) (drops : Bool) (m : Monomial) → drops ≡ false → dropped? R drops m ≡ false
drops_none R drops m e = ap (λ b. dropped? R b m) e

-- ## Stored

abbrev Short : ℕ → Option Vector → Type 0
Short n none = Unit {0}
Short n (some w) = length w ≤ n

combined_short : (p : ℕ) (t : Term) (v : Vector) → Short (length v) (combined p t v)
combined_short p t [] = tt
combined_short p t (u ∷ v) = go (same_monomial? t.1 u.1) (eqb (plus p u.0 t.0) 0) (combined p t v) (combined_short p t v)
  where
    go : (b d : Bool) (x : Option Vector) → Short (length v) x → Short (suc (length v))
        (elim b [ true ↦ some (elim d [ true ↦ v | false ↦ (plus p u.0 t.0, u.1) ∷ v ]) | false ↦ behind u x ])
    go true true x h = omega arith
    go true false x h = omega arith
    go false d none h = tt
    go false d (some w) h = omega arith

-- a sum that is given has so many terms at the most
abbrev pub AtMost : ℕ → Result Vector → Type 0
AtMost limit (done v) = length v ≤ limit
AtMost limit (refused number place value) = Unit {0}
AtMost limit unfinished = Unit {0}

store_at_most : (limit p : ℕ) (t : Term) (v : Vector) → length v ≤ limit → AtMost limit (store limit p t v)
store_at_most limit p t v h = go (combined p t v) (combined_short p t v)
  where
    last : (b : Bool) → ltb (length v) limit ≡ b → AtMost limit (appended b t v)
    last true q = let n : length v < limit = ltb-true (length v) limit q in omega (arith, length-append v (t ∷ []))
    last false q = tt

    go : (x : Option Vector) → Short (length v) x → AtMost limit (or_last limit t v x)
    go (some w) k = omega arith
    go none k = last (ltb (length v) limit) refl

pub stored_added : (x : CodeOption ℕ) (s : Words) → added_of (ok_or x Terms) s ≡ stored_as x s
stored_added None s = refl
stored_added (Some k) s = refl

pub store_within : (limit p : ℕ) (t : Term) (v : Vector) (x : CodeOption ℕ) (s : Words) → length v ≤ limit → stored_as x s ≡ store limit p t v
    → Within limit (ok_or x Terms)
store_within limit p t v None s h e = tt
store_within limit p t v (Some k) s h e =
    let n : length (rows s 0 k) ≤ limit = subst (AtMost limit) (sym e) (store_at_most limit p t v h) in omega (arith, length_rows s 0 k)

-- ## Formed

abbrev some? : Option Term → Bool
some? none = false
some? (some t) = true

abbrev given : Option Term → Term → Term
given none d = d
given (some t) d = t

pub fits_as : (b : Bool) (u t : Term) → some u ≡ choose b (some t) none → b ≡ true
fits_as true u t e = refl
fits_as false u t e = absurd (subst (λ x. T (some? x)) e tt)

pub formed_as : (b : Bool) (u t : Term) → some u ≡ choose b (some t) none → u ≡ t
formed_as true u t e = ap (λ x. given x u) e
formed_as false u t e = absurd (subst (λ x. T (some? x)) e tt)

pub unformed : (b : Bool) (t : Term) → none ≡ choose b (some t) none → b ≡ false
unformed true t e = absurd (subst (λ x. T (some? x)) (sym e) tt)
unformed false t e = refl

-- ## One product after the other

pub rows_none : (s : Words) (a : ℕ) → rows s a 0 ≡ []
unfolding rows
rows_none s a = refl

module _ (R : Reduction) (drops : Bool) (c : ℕ) (q : Exponents) (level : Words) where
  adding_first : (i to : ℕ) (v : Vector) → i < to → add_products R drops c q (rows level i (to - i)) v
      ≡ (add_term R drops (multiple R.p c q (row_at level i)) v >>= λ w. add_products R drops c q (rows level (i + 1) (to - (i + 1))) w)
  adding_first i to v h =
      let z : to - i ≡ suc (to - (i + 1)) = omega arith in
      let y : suc i ≡ i + 1 = omega arith in
      ap (λ n. add_products R drops c q (rows level i n) v) z ∙ ap (λ f. add_products R drops c q f v) (rows_first level i (to - (i + 1)))
      ∙ ap (λ k. add_term R drops (multiple R.p c q (row_at level i)) v >>= λ w. add_products R drops c q (rows level k (to - (i + 1))) w) y

  pub adding_on : (i to : ℕ) (v w : Vector) → i < to → done w ≡ add_term R drops (multiple R.p c q (row_at level i)) v
      → add_products R drops c q (rows level i (to - i)) v ≡ add_products R drops c q (rows level (i + 1) (to - (i + 1))) w
  adding_on i to v w h e =
      adding_first i to v h ∙ ap (λ y. y >>= λ u. add_products R drops c q (rows level (i + 1) (to - (i + 1))) u) (sym e)

  pub adding_stops : (i to : ℕ) (v : Vector) (number : ℕ) → i < to → refusal number ≡ add_term R drops (multiple R.p c q (row_at level i)) v
      → add_products R drops c q (rows level i (to - i)) v ≡ refusal number
  adding_stops i to v number h e =
      adding_first i to v h ∙ ap (λ y. y >>= λ u. add_products R drops c q (rows level (i + 1) (to - (i + 1))) u) (sym e)

  pub adding_ends : (i to : ℕ) (v : Vector) → to ≤ i → add_products R drops c q (rows level i (to - i)) v ≡ done v
  adding_ends i to v h =
      let z : to - i ≡ 0 = omega arith in
      ap (λ n. add_products R drops c q (rows level i n) v) z ∙ ap (λ f. add_products R drops c q f v) (rows_none level i)
