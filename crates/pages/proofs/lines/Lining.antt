-- The numbers of a line one after the other; texts of a cell's length.
use mathlib.Core.Bool.{true, false}
use mathlib.Core.Path.{◌≡◌, refl, sym, ap, ◌∙◌}
use mathlib.Core.List.{List, [], ◌∷◌, ◌++◌, append_assoc, append-nil}
use Prim.Native.Nat.{ℕ, suc, ◌+◌, ◌-◌, ◌<◌, ◌≤◌}
use native.Mathlib.Omega.{arith}
use borrow.Author.Tests.{ne_eqb, lt-ltb, le-ltb}
use lib.ListN.{length, get_or, take, replicate}
use lib.Seq.{take-suc}
use Rattle.definitions.specs.Problem.{Bytes, newline}
use Rattle.definitions.specs.Sheet.{decimal}
use Rattle.definitions.specs.Pages.{right_aligned, cell, cells, row_label}
use Rattle.definitions.specs.Places.{cell_length, row_shift}

-- ## Cells

pub cell_zero : (v : ℕ) → v ≡ 0 → replicate 5 32 ++ 45 ∷ [] ≡ cell v
cell_zero v e = sym (ap cell e)

pub cell_some : (v : ℕ) → (v ≡ 0 → ⊥) → right_aligned (decimal v) ≡ cell v
cell_some v n = sym (ap (λ b. elim b [ true ↦ right_aligned (45 ∷ []) | false ↦ right_aligned (decimal v) ]) (ne_eqb v 0 n))

-- the numbers without the line's end
abbrev pub celled : List ℕ → Bytes
celled [] = []
celled (v ∷ vs) = cell v ++ celled vs

pub cells_celled : (vs : List ℕ) → celled vs ++ newline ∷ [] ≡ cells vs
cells_celled [] = refl
cells_celled (v ∷ vs) = append_assoc (cell v) (celled vs) (newline ∷ []) ∙ ap (λ z. cell v ++ z) (cells_celled vs)

celled_last : (vs : List ℕ) (v : ℕ) → celled (vs ++ v ∷ []) ≡ celled vs ++ cell v
celled_last [] v = append-nil (cell v)
celled_last (u ∷ vs) v = ap (λ z. cell u ++ z) (celled_last vs v) ∙ sym (append_assoc (cell u) (celled vs) (cell v))

pub celled_more : (e : List ℕ) (c : ℕ) → c < length e → celled (take c e) ++ cell (get_or e c 0) ≡ celled (take (c + 1) e)
celled_more e c h =
    let s : suc c ≡ c + 1 = omega arith in
    sym (celled_last (take c e) (get_or e c 0)) ∙ ap celled (sym (take-suc e c 0 h)) ∙ ap (λ i. celled (take i e)) s

-- ## Labels

pub label_below : (r : ℕ) → r < row_shift → right_aligned (45 ∷ decimal (row_shift - r) ++ 58 ∷ []) ≡ row_label r
label_below r h =
    sym (ap (λ b. right_aligned ((elim b [ true ↦ 45 ∷ decimal (row_shift - r) | false ↦ decimal (r - row_shift) ]) ++ 58 ∷ [])) (lt-ltb r row_shift h))

pub label_above : (r : ℕ) → row_shift ≤ r → right_aligned (decimal (r - row_shift) ++ 58 ∷ []) ≡ row_label r
label_above r h =
    sym (ap (λ b. right_aligned ((elim b [ true ↦ 45 ∷ decimal (row_shift - r) | false ↦ decimal (r - row_shift) ]) ++ 58 ∷ [])) (le-ltb r row_shift h))

-- so many spaces before a text of such a length
pub aligned_is : (n : ℕ) (t : Bytes) → n + length t ≡ cell_length → replicate n 32 ++ t ≡ right_aligned t
aligned_is n t e = let d : n ≡ cell_length - length t = omega (arith, e) in ap (λ i. replicate i 32 ++ t) d

-- ## Bytes of an array

pub taken_more : (t : Bytes) (i : ℕ) → i < length t → take i t ++ get_or t i 0 ∷ [] ≡ take (i + 1) t
taken_more t i h = let s : suc i ≡ i + 1 = omega arith in sym (take-suc t i 0 h) ∙ ap (λ j. take j t) s
