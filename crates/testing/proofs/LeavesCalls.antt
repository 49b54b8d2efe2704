-- One row more; and what the test of a state says.
use mathlib.Core.Path.{◌≡◌, refl, sym, ap, ◌∙◌, subst}
use mathlib.Core.Bool.{Bool, true, false}
use mathlib.Core.Option.{Option}
use mathlib.Core.List.{[]}
use Prim.Native.Nat.{ℕ, suc, ◌+◌, ◌<◌, ◌≤◌, ◌/◌}
use native.Mathlib.Omega.{arith}
use lib.Dec.{T, leb, ltb}
use lib.ListN.{length, get_or}
use borrow.Author.Tests.{ltb-false, leb-false, lt-ltb, le-ltb, le-leb, lt-leb}
use Rattle.definitions.specs.Limits.{document_01}
use Rattle.definitions.specs.Lists.{choose}
use Rattle.definitions.specs.Monomial.{Exponents, Monomial, Term}
use Rattle.definitions.specs.Order.{Comparison, greater, equal, smaller, compare_over}
use Rattle.definitions.specs.Layout.{Words, row_at, rows, holds_state?}
use Rattle.definitions.specs.Places.{all_levels, row_length, state_length}
use Rattle.monomial.specs.Values.{formed}
use Rattle.vectors.specs.terms.Rows.{written}
use Rattle.orders.specs.Images.{Tabled}
use Rattle.reducers.specs.search.Search.{Spanned}
use Rattle.state.specs.soundness.Places.{count_at}
use Rattle.state.specs.soundness.Tabled.{Ready}
use Rattle.state.proofs.soundness.TablesGrow.{ready_tabled}
use Rattle.state.specs.preparing.Prepared.{components_at, ReadyPair, Led}
use Rattle.state.proofs.preparing.TablesReady.{pair_above}
use Rattle.testing.specs.Leaves.{counted, filled, ready?, greater_mark, descent, product_row, product_at}

pub counted_none : (f : ℕ → ℕ) → 0 ≡ counted f 0
unfolding counted
counted_none f = refl

pub counted_more : (f : ℕ → ℕ) (n : ℕ) → counted f n + f n ≡ counted f (n + 1)
unfolding counted
counted_more f n = let z : n + 1 ≡ suc n = omega arith in ap (counted f) (sym z)

pub filled_none : (f : ℕ → Term) (d : Words) → d ≡ filled f d 0
unfolding filled
filled_none f d = refl

pub filled_more : (f : ℕ → Term) (d : Words) (n : ℕ) → written (filled f d n) n (f n) ≡ filled f d (n + 1)
unfolding filled
filled_more f d n = let z : n + 1 ≡ suc n = omega arith in ap (filled f d) (sym z)

pub counted_step : (f : ℕ → ℕ) (n k r : ℕ) → k ≡ counted f n → r ≡ f n → k + r ≡ counted f (n + 1)
counted_step f n k r e h = (λ i. e i + h i) ∙ counted_more f n

pub filled_step : (f : ℕ → Term) (d₀ d : Words) (n : ℕ) (t : Term) → d ≡ filled f d₀ n → t ≡ f n → written d n t ≡ filled f d₀ (n + 1)
filled_step f d₀ d n t e h = (λ i. written (e i) n (h i)) ∙ filled_more f d₀ n

pub rows_none : (s : Words) → rows s 0 0 ≡ []
unfolding rows
rows_none s = refl

-- ## One row

mark_few : (c : Comparison) → greater_mark c ≤ 1
mark_few greater = omega arith
mark_few equal = omega arith
mark_few smaller = omega arith

pub descent_is : (code : ℕ) (s : Words) (i r : ℕ) (c : Comparison) (m m' : Monomial) → r ≡ greater_mark c → c ≡ compare_over code [] m m' → m
    ≡ (row_at s i).1 → m' ≡ (row_at s (i + 1)).1 → (r ≡ descent code s i) × (r ≤ 1)
descent_is code s i r c m m' e h x y = (e ∙ ap greater_mark h ∙ (λ j. greater_mark (compare_over code [] (x j) (y j))), omega (arith, e, mark_few c))

pub product_is : (s : Words) (i : ℕ) (t : Term) (o : Option Monomial) (q : Exponents) (m : Monomial) → t ≡ product_row o → o ≡ formed q m → q
    ≡ (row_at s (i + 1)).1.0 → m ≡ (row_at s i).1 → t ≡ product_at s i
product_is s i t o q m e h x y = e ∙ ap product_row h ∙ (λ j. product_row (formed (x j) (y j)))

-- ## A state's test

module _ (state : Words) (k : ℕ) (s : Words) (n : ℕ) where
  abbrev by : Bool → Bool → Bool → Bool
  by a b c = choose a false (choose b false (choose c false (holds_state? document_01 state)))

  pub short_state : length state < state_length → false ≡ ready? state k s n
  short_state h = sym (λ i. by (lt-ltb (length state) state_length h i) (ltb (length s / row_length) n) (leb (get_or state 4 0) k))

  pub few_rows : state_length ≤ length state → length s / row_length < n → false ≡ ready? state k s n
  few_rows h g = sym (λ i. by (le-ltb (length state) state_length h i) (lt-ltb (length s / row_length) n g i) (leb (get_or state 4 0) k))

  pub no_level : state_length ≤ length state → n ≤ length s / row_length → get_or state 4 0 ≤ k → false ≡ ready? state k s n
  no_level h g f = sym (λ i. by (le-ltb (length state) state_length h i) (le-ltb (length s / row_length) n g i) (le-leb (get_or state 4 0) k f i))

  pub has_level : state_length ≤ length state → n ≤ length s / row_length → k < get_or state 4 0 → holds_state? document_01 state ≡ ready? state k s n
  has_level h g f = sym (λ i. by (le-ltb (length state) state_length h i) (le-ltb (length s / row_length) n g i) (lt-leb (get_or state 4 0) k f i))

-- ## A test that was passed

pub record IsReady (state : Words) (k : ℕ) (s : Words) (n : ℕ) : Type 0 where
  pub long : state_length ≤ length state
  pub enough : n ≤ length s / row_length
  pub level : k < get_or state 4 0
  pub sound : T (holds_state? document_01 state)

passed : (a b : Bool) → choose a false b ≡ true → (a ≡ false) × (b ≡ true)
passed true b e = absurd (subst T (sym e) tt)
passed false b e = (refl, e)

pub ready_said : (state : Words) (k : ℕ) (s : Words) (n : ℕ) → ready? state k s n ≡ true → IsReady state k s n
ready_said state k s n e =
    let a = passed (ltb (length state) state_length) (choose (ltb (length s / row_length) n) false
    (choose (leb (get_or state 4 0) k) false (holds_state? document_01 state))) e in
    let b = passed (ltb (length s / row_length) n) (choose (leb (get_or state 4 0) k) false (holds_state? document_01 state)) a.1 in
    let c = passed (leb (get_or state 4 0) k) (holds_state? document_01 state) b.1 in
    record {
      long = ltb-false (length state) state_length a.0;
      enough = ltb-false (length s / row_length) n b.0;
      level = leb-false (get_or state 4 0) k c.0;
      sound = subst T (sym c.1) tt;
    }

-- ## What a state's tables are for

pub led_spans : (state : Words) (k r c : ℕ) (leads spans : Words) → r ≡ count_at state k → c ≡ components_at state k → Led state k leads spans
    → Spanned (c + 1) r spans leads
led_spans state k r c leads spans er ec l = subst (λ m. Spanned (m + 1) r spans leads) (sym ec)
    (subst (λ m. Spanned (components_at state k + 1) m spans leads) (sym er) l.spanned)

-- the table over levels 0 to k
pub table_ready : (state : Words) (k : ℕ) (below above : Words) → ReadyPair state (k + 1) below above → Ready state (suc k) above
table_ready state k below above e = let z : k + 1 ≡ suc k = omega arith in subst (λ m. Ready state m above) z (pair_above state (k + 1) below above e)

pub table_bounded : (state : Words) (k r : ℕ) (above : Words) → k < all_levels → r ≡ count_at state k → Ready state (suc k) above → Tabled r above
table_bounded state k r above h e l = subst (λ m. Tabled m above) (sym e) (ready_tabled state (suc k) above h l)
