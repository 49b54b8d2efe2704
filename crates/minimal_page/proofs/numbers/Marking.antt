-- Marks counted one after the other, those of a column, and the minimal number by them.
use mathlib.Core.Path.{◌≡◌, refl, sym, ap, ◌∙◌}
use mathlib.Core.Bool.{Bool, true, false}
use mathlib.Core.List.{List, [], ◌∷◌}
use Prim.Native.Nat.{ℕ, zero, suc, ◌+◌, ◌-◌, ◌*◌, ◌<◌, ◌≤◌}
use native.Mathlib.Nat.{not-suc-le-zero}
use native.Mathlib.Omega.{arith}
use lib.Dec.{T, eqb}
use lib.ListN.{length, get_or, take, drop, get_or-eq_default}
use Rattle.definitions.specs.Limits.{document_01}
use Rattle.definitions.specs.Lists.{sum}
use Rattle.definitions.specs.Layout.{Words, decode, holds_state?}
use Rattle.definitions.specs.Betti.{betti_count}
use Rattle.definitions.specs.Minimal.{of_degree, minimal_number}
use Rattle.definitions.specs.Places.{most_vectors, row_shift, page_columns}
use Rattle.state.proofs.preparing.Complete.{holds_sound}
use Rattle.ranks.specs.Blocks.{column_marks, marked}
use Rattle.minimal_numbers.proofs.Marked.{sound_marked}
use Rattle.columns.specs.counting.Columns.{columns_of, column_of}
use Rattle.columns.proofs.counting.Standing.{few_columns}
use Rattle.minimal_page.specs.numbers.Marks.{Marks, with_mark}

pub with_one : (b : Bool) (mark k : ℕ) → b ≡ true → k + mark ≡ with_mark b mark k
with_one b mark k e = sym (ap (λ x. with_mark x mark k) e)

pub with_none : (b : Bool) (mark k : ℕ) → b ≡ false → k ≡ with_mark b mark k
with_none b mark k e = sym (ap (λ x. with_mark x mark k) e)

with_before : (b : Bool) (mark a k : ℕ) → with_mark b mark (a + k) ≡ a + with_mark b mark k
with_before true mark a k = omega arith
with_before false mark a k = refl

marks_suc : (x : ℕ) (ds ms : List ℕ) (i : ℕ) → i < length ds → i < length ms
    → with_mark (eqb (get_or ds i 0 + row_shift) x) (get_or ms i 0) (sum (of_degree x (take i ds) (take i ms)))
    ≡ sum (of_degree x (take (suc i) ds) (take (suc i) ms))
marks_suc x [] ms i h l = absurd (not-suc-le-zero h)
marks_suc x (d ∷ ds) [] i h l = absurd (not-suc-le-zero l)
marks_suc x (d ∷ ds) (m ∷ ms) zero h l = go (eqb (d + row_shift) x)
  where
    go : (b : Bool) → with_mark b m 0 ≡ sum (elim b [ true ↦ m ∷ [] | false ↦ [] ])
    go true = omega arith
    go false = refl
marks_suc x (d ∷ ds) (m ∷ ms) (suc i) h l = go (eqb (d + row_shift) x) (marks_suc x ds ms i (omega arith) (omega arith))
  where
    so_far : List ℕ
    so_far = of_degree x (take i ds) (take i ms)

    one_more : List ℕ
    one_more = of_degree x (take (suc i) ds) (take (suc i) ms)

    go : (b : Bool) → with_mark (eqb (get_or ds i 0 + row_shift) x) (get_or ms i 0) (sum so_far) ≡ sum one_more
        → with_mark (eqb (get_or ds i 0 + row_shift) x) (get_or ms i 0) (sum (elim b [ true ↦ m ∷ so_far | false ↦ so_far ]))
        ≡ sum (elim b [ true ↦ m ∷ one_more | false ↦ one_more ])
    go true e = with_before (eqb (get_or ds i 0 + row_shift) x) (get_or ms i 0) m (sum so_far) ∙ ap (λ y. m + y) e
    go false e = e

pub marks_more : (x : ℕ) (ds ms : List ℕ) (i : ℕ) → i < length ds → i < length ms
    → with_mark (eqb (get_or ds i 0 + row_shift) x) (get_or ms i 0) (sum (of_degree x (take i ds) (take i ms)))
    ≡ sum (of_degree x (take (i + 1) ds) (take (i + 1) ms))
marks_more x ds ms i h l =
    let e : suc i ≡ i + 1 = omega arith in
    marks_suc x ds ms i h l ∙ ap (λ j. sum (of_degree x (take j ds) (take j ms))) e

module _ (s m : Words) (M : Marks s m) (t c : ℕ) where
  pub column_marked : c < page_columns → sum (of_degree t (column_of s c) (take (length (column_of s c)) (drop (c * most_vectors) m)))
      ≡ marked (decode document_01 s) (columns_of s) t c
  column_marked h = ap (λ l. sum (of_degree t (column_of s c) l)) (M.marked c h)

  pub none_marked : c ≡ page_columns → 0 ≡ marked (decode document_01 s) (columns_of s) t c
  none_marked e =
      let past : length (columns_of s) ≤ c = omega (arith, few_columns s M.long M.holds, e) in
      sym (ap (λ ds. sum (of_degree t ds (column_marks (decode document_01 s) (columns_of s) c))) (get_or-eq_default (columns_of s) [] past))

pub number_is : (s : Words) → T (holds_state? document_01 s) → (r c : ℕ) {count leaving entering : ℕ} → count ≡ betti_count (columns_of s) r c
    → leaving ≡ marked (decode document_01 s) (columns_of s) (r + c) c
    → entering ≡ marked (decode document_01 s) (columns_of s) (r + c) (suc c)
    → count - (leaving + entering) ≡ minimal_number (decode document_01 s) (columns_of s) r c
number_is s holds r c k l e =
    (λ i. k i - (l i + e i)) ∙ sym (sound_marked (decode document_01 s) document_01 (holds_sound s holds) r c)
