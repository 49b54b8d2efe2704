-- A row's turn: its mark, and what follows from the rows behind it.
use mathlib.Core.Path.{◌≡◌, refl, sym, ap, ◌∙◌, subst}
use mathlib.Core.Option.{Option, none, some}
use mathlib.Core.List.{List, [], ◌∷◌}
use Prim.Native.Nat.{ℕ, zero, suc, ◌+◌, ◌*◌, ◌-◌, ◌<◌}
use native.Mathlib.Omega.{arith}
use lib.ListN.{length, get_or, drop, set}
use lib.Seq.{drop-drop, get_or-drop, paste, paste-suc}
use Rattle.definitions.specs.Lists.{map}
use Rattle.definitions.specs.Rank.{Row, Matrix}
use Rattle.definitions.specs.Places.{most_vectors}
use Rattle.ranks.specs.Elimination.{pivot, cleared, rows_left, mark, marks_of, marks}
use Rattle.constants.specs.elimination.Rows.{row_words, rows_at}
use Rattle.constants.proofs.elimination.Rowwise.{length_rows}

module _ (p n i rows : ℕ) (s : List ℕ) (h : i < rows) where
  abbrev left : ℕ
  left = rows - (i + 1)

  abbrev row : Row
  row = row_words s (i * most_vectors) n

  abbrev others : Matrix
  others = rows_at n left (drop ((i + 1) * most_vectors) s)

  turn : marks_of p (rows - i) (rows_at n (rows - i) (drop (i * most_vectors) s)) ≡ marks_of p (suc left) (row ∷ others)
  turn =
      let e : rows - i ≡ suc left = omega (arith, h) in
      let z : i * most_vectors + most_vectors ≡ (i + 1) * most_vectors = omega arith in
      ap (λ k. marks_of p k (rows_at n k (drop (i * most_vectors) s))) e
      ∙ ap (λ x. marks_of p (suc left) (row ∷ rows_at n left x)) (drop-drop most_vectors (i * most_vectors) s ∙ ap (λ k. drop k s) z)

  abbrev marked_by : Option ℕ → List ℕ
  marked_by o = mark o ∷ marks_of p left (rows_left p row others o)

  pub turn_zero : pivot p (row_words s (i * most_vectors) n) ≡ none
      → 0 ∷ marks_of p (rows - (i + 1)) (rows_at n (rows - (i + 1)) (drop ((i + 1) * most_vectors) s))
      ≡ marks_of p (rows - i) (rows_at n (rows - i) (drop (i * most_vectors) s))
  turn_zero e = sym (turn ∙ ap marked_by e)

  pub turn_one : (c : ℕ) (z : List ℕ) → pivot p (row_words s (i * most_vectors) n) ≡ some c
      → rows_at n (rows - (i + 1)) (drop (i * most_vectors + most_vectors) z)
      ≡ map (cleared p c (row_words s (i * most_vectors) n)) (rows_at n (rows - (i + 1)) (drop (i * most_vectors + most_vectors) s))
      → 1 ∷ marks_of p (rows - (i + 1)) (rows_at n (rows - (i + 1)) (drop ((i + 1) * most_vectors) z))
      ≡ marks_of p (rows - i) (rows_at n (rows - i) (drop (i * most_vectors) s))
  turn_one c z e k =
      let w : i * most_vectors + most_vectors ≡ (i + 1) * most_vectors = omega arith in
      ap (λ x. 1 ∷ marks_of p left x) (subst (λ a. rows_at n left (drop a z) ≡ map (cleared p c row) (rows_at n left (drop a s))) w k)
      ∙ sym (turn ∙ ap marked_by e)

-- ## All rows

length_map : (f : Row → Row) (M : Matrix) → length (map f M) ≡ length M
length_map f [] = refl
length_map f (v ∷ M) = ap suc (length_map f M)

length_left : (p : ℕ) (v : Row) (M : Matrix) (o : Option ℕ) → length (rows_left p v M o) ≡ length M
length_left p v M none = refl
length_left p v M (some c) = length_map (cleared p c v) M

pub length_of : (p k : ℕ) (M : Matrix) → length M ≡ k → length (marks_of p k M) ≡ k
length_of p zero M h = refl
length_of p (suc k) [] h = absurd (omega arith)
length_of p (suc k) (v ∷ M) h =
    ap suc (length_of p k (rows_left p v M (pivot p v)) (length_left p v M (pivot p v) ∙ (let e : length M ≡ k = omega (arith, h) in e)))

pub length_marks : (p n rows : ℕ) (s : List ℕ) → length (marks p (rows_at n rows s)) ≡ rows
length_marks p n rows s = length_of p (length (rows_at n rows s)) (rows_at n rows s) refl ∙ length_rows n rows s

pub marks_start : (p n rows : ℕ) (s : List ℕ) → marks p (rows_at n rows s) ≡ marks_of p (rows - 0) (rows_at n (rows - 0) s)
marks_start p n rows s =
    let e : rows ≡ rows - 0 = omega arith in
    ap (λ k. marks_of p k (rows_at n rows s)) (length_rows n rows s) ∙ ap (λ k. marks_of p k (rows_at n k s)) e

-- one mark more, where it begins those that are left
pub marks_more : (d l : List ℕ) (at i r : ℕ) (others : List ℕ) → at + i < length d → i < length l → drop i l ≡ r ∷ others
    → (set (paste d at l i) (at + i) r ≡ paste d at l (i + 1)) × (drop (i + 1) l ≡ others)
marks_more d l at i r others h k e =
    let z : suc i ≡ i + 1 = omega arith in
    let y : i ≡ i + 0 = omega arith in
    let x : r ≡ get_or l i 0 = sym (ap (λ (w : List ℕ). get_or w 0 0) e) ∙ get_or-drop i l 0 0 ∙ ap (λ j. get_or l j 0) (sym y) in
    (ap (set (paste d at l i) (at + i)) x ∙ paste-suc d at l i 0 h k ∙ ap (paste d at l) z, sym (drop-drop 1 i l) ∙ ap (drop 1) e)
