-- The rows tested one by one are the definitions' terms tested one by one.
use mathlib.Core.Path.{◌≡◌, refl, sym, ap, ◌∙◌}
use mathlib.Core.Bool.{Bool, true, false}
use mathlib.Core.Option.{Option, none, some}
use mathlib.Core.List.{List, [], ◌∷◌, ◌++◌}
use Prim.Native.Nat.{ℕ, zero, suc, ◌+◌, ◌-◌, ◌<◌, ◌≤◌}
use native.Mathlib.Omega.{arith}
use borrow.Author.Tests.{lt-ltb, le-ltb}
use lib.Dec.{ltb}
use Rattle.std.specs.Ordering.{is_gt}
use Rattle.std.specs.declared.cmp.Ordering.{Ordering}
use Rattle.std.specs.declared.cmp.Ordering.TheVariants.{Less, Equal, Greater}
use Rattle.orders.specs.Images.{comparison_of}
use Rattle.definitions.specs.Limits.{document_01}
use Rattle.definitions.specs.Lists.{◌and◌, last}
use Rattle.definitions.specs.Order.{Comparison, compare_over, greater?}
use Rattle.definitions.specs.Result.{done, unless_refused, ◌>>=◌}
use Rattle.definitions.specs.Problem.{Parameters, below?}
use Rattle.definitions.specs.State.{term_sound?}
use Rattle.definitions.specs.Membership.{lent_term?, lent_terms}
use Rattle.definitions.specs.Layout.{Words, row_at, rows}
use Rattle.definitions.specs.Places.{most_terms}
use Rattle.laws.proofs.Rows.{length_rows, rows_last, rows_first}
use Rattle.state.specs.declared.soundness.Bounds.{Bounds}
use Rattle.state.specs.soundness.Holding.{bounds_of, row_holds?}
use Rattle.state.proofs.soundness.Pointwise.{same_test, and_false}
use Rattle.state.proofs.soundness.RowTests.{row_said, row_shown}
use Rattle.runs.proofs.reduction.Adding.{rows_none}
use Rattle.divide_call.specs.Rows.{row_below?, row_fits?, bad_by, first_bad, taken_by}

-- ## The search

module _ (b : Bounds) (code : ℕ) (s : Words) where
  pub bad_on : (i n : ℕ) → i < n → row_fits? b code s i ≡ true → first_bad b code s i (n - i) ≡ first_bad b code s (i + 1) (n - (i + 1))
  bad_on i n h e =
      let d : n - i ≡ suc (n - (i + 1)) = omega arith in
      let z : suc i ≡ i + 1 = omega arith in
      ap (first_bad b code s i) d ∙ ap (λ t. bad_by t i (first_bad b code s (suc i) (n - (i + 1)))) e
      ∙ ap (λ k. first_bad b code s k (n - (i + 1))) z

  pub bad_here : (i n : ℕ) → i < n → row_fits? b code s i ≡ false → first_bad b code s i (n - i) ≡ some (i + 1)
  bad_here i n h e =
      let d : n - i ≡ suc (n - (i + 1)) = omega arith in
      let z : suc i ≡ i + 1 = omega arith in
      ap (first_bad b code s i) d ∙ ap (λ t. bad_by t i (first_bad b code s (suc i) (n - (i + 1)))) e ∙ ap some z

  pub bad_end : (i n : ℕ) → n ≤ i → first_bad b code s i (n - i) ≡ none
  bad_end i n h = let d : n - i ≡ 0 = omega arith in ap (first_bad b code s i) d

-- ## One row

pub first_below : (code : ℕ) (s : Words) (i : ℕ) → i ≡ 0 → true ≡ row_below? code s i
first_below code s i e = ap (row_below? code s) (sym e)

pub greater_same : (x : Ordering) → is_gt x ≡ greater? (comparison_of x)
greater_same Less = refl
greater_same Equal = refl
greater_same Greater = refl

-- by what comparing said
pub below_by : (code : ℕ) (s : Words) (i : ℕ) (x : Comparison) → 1 ≤ i → x ≡ compare_over code [] (row_at s (i - 1)).1 (row_at s i).1
    → greater? x ≡ row_below? code s i
below_by code s i x h e =
    let z : suc (i - 1) ≡ i = omega arith in
    ap greater? e ∙ ap (λ k. greater? (compare_over code [] (row_at s (i - 1)).1 (row_at s k).1)) (sym z) ∙ ap (row_below? code s) z

and_true : (b : Bool) → (b and true) ≡ b
and_true true = refl
and_true false = refl

module _ (b : Bounds) (code : ℕ) (s : Words) (i : ℕ) where
  pub fits_late : most_terms ≤ i → false ≡ row_fits? b code s i
  fits_late h =
      sym (and_false (row_holds? b s i) (row_below? code s i and ltb i most_terms)
      (and_false (row_below? code s i) (ltb i most_terms) (le-ltb i most_terms h)))

  pub fits_by : row_holds? b s i ≡ true → i < most_terms → row_below? code s i ≡ row_fits? b code s i
  fits_by h l = sym ((λ j. h j and row_below? code s i and lt-ltb i most_terms l j) ∙ and_true (row_below? code s i))

  pub fits_not : row_holds? b s i ≡ false → false ≡ row_fits? b code s i
  fits_not h = sym (ap (λ t. t and row_below? code s i and ltb i most_terms) h)

-- ## A row as a term

last_added : {A : Type 0} (l : List A) (a : A) → last (l ++ a ∷ []) ≡ some a
last_added [] a = refl
last_added {A} (b ∷ l) a = ap (λ (o : Option A). elim o [ none ↦ some b | some c ↦ some c ]) (last_added l a)

last_row : (s : Words) (i : ℕ) → last (rows s 0 (suc i)) ≡ some (row_at s i)
unfolding rows
last_row s i = let z : 0 + i ≡ i = omega arith in last_added (rows s 0 i) (row_at s (0 + i)) ∙ ap (λ k. some (row_at s k)) z

module _ (q : Parameters) (s : Words) where
  abbrev B : Bounds
  B = bounds_of q.p q.n q.s

  below_is : (i : ℕ) → row_below? q.code s i ≡ below? q.code (last (rows s 0 i)) (row_at s i)
  below_is zero = ap (λ v. below? q.code (last v) (row_at s 0)) (sym (rows_none s 0))
  below_is (suc i) = ap (λ o. below? q.code o (row_at s (suc i))) (sym (last_row s i))

  holds_is : (i : ℕ) → row_holds? (bounds_of q.p q.n q.s) s i ≡ term_sound? document_01 q q.s (row_at s i)
  holds_is i = same_test (row_holds? B s i) (term_sound? document_01 q q.s (row_at s i)) (row_said q q.s s i) (row_shown q q.s s i)

  fits_is : (i : ℕ) → row_fits? (bounds_of q.p q.n q.s) q.code s i ≡ lent_term? document_01 q (rows s 0 i) (row_at s i)
  fits_is i =
      let k = sym (length_rows s 0 i) in
      λ x. holds_is i x and below_is i x and ltb (k x) most_terms

  -- ## All rows

  from_row : (i n : ℕ) → lent_terms document_01 q (suc i) (rows s 0 i) (rows s i n)
      ≡ taken_by (first_bad (bounds_of q.p q.n q.s) q.code s i n) (rows s 0 (i + n))
  from_row i zero =
      let z : i ≡ i + 0 = omega arith in
      ap (lent_terms document_01 q (suc i) (rows s 0 i)) (rows_none s i) ∙ ap (λ k. done (rows s 0 k)) z
  from_row i (suc n) =
      ap (lent_terms document_01 q (suc i) (rows s 0 i)) (rows_first s i n)
      ∙ ap (λ t. unless_refused t 23 (suc i) >>= λ u. lent_terms document_01 q (suc (suc i)) (rows s 0 i ++ row_at s i ∷ []) (rows s (suc i) n))
      (sym (fits_is i))
      ∙ go (row_fits? B q.code s i) (from_row (suc i) n)
      ∙ ap (λ k. taken_by (first_bad B q.code s i (suc n)) (rows s 0 k)) on
    where
      on : suc i + n ≡ i + suc n
      on = omega arith

      more : rows s 0 i ++ row_at s i ∷ [] ≡ rows s 0 (suc i)
      more =
          let z : 0 + i ≡ i = omega arith in
          let y : i + 1 ≡ suc i = omega arith in
          sym (ap (λ k. rows s 0 i ++ row_at s k ∷ []) z) ∙ sym (rows_last s 0 i) ∙ ap (rows s 0) y

      go : (t : Bool)
          → lent_terms document_01 q (suc (suc i)) (rows s 0 (suc i)) (rows s (suc i) n) ≡ taken_by (first_bad B q.code s (suc i) n) (rows s 0 (suc i + n))
          → (unless_refused t 23 (suc i) >>= λ u. lent_terms document_01 q (suc (suc i)) (rows s 0 i ++ row_at s i ∷ []) (rows s (suc i) n))
          ≡ taken_by (bad_by t i (first_bad B q.code s (suc i) n)) (rows s 0 (suc i + n))
      go true ih = ap (λ v. lent_terms document_01 q (suc (suc i)) v (rows s (suc i) n)) more ∙ ih
      go false ih = refl

  pub rows_lent : (n : ℕ) → lent_terms document_01 q 1 [] (rows s 0 n)
      ≡ taken_by (first_bad (bounds_of q.p q.n q.s) q.code s 0 n) (rows s 0 n)
  rows_lent n =
      let z : 0 + n ≡ n = omega arith in
      ap (λ v. lent_terms document_01 q 1 v (rows s 0 n)) (sym (rows_none s 0)) ∙ from_row 0 n
      ∙ ap (λ k. taken_by (first_bad B q.code s 0 n) (rows s 0 k)) z
