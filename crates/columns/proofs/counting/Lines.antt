-- The lines of a page one row after the other, whatever its numbers.
use mathlib.Core.Path.{◌≡◌, refl, sym, ap, ◌∙◌}
use mathlib.Core.List.{List, [], ◌∷◌, ◌++◌, append_assoc, append-nil}
use Prim.Native.Nat.{ℕ, zero, suc, ◌+◌, ◌-◌, ◌≤◌}
use native.Mathlib.Omega.{arith}
use Rattle.definitions.specs.Lists.{map, from}
use Rattle.definitions.specs.Pages.{cells, row_label, all_columns, row_line, row_lines}

lines_append : (f : ℕ → ℕ → ℕ) (rs ss : List ℕ) → row_lines f (rs ++ ss) ≡ row_lines f rs ++ row_lines f ss
lines_append f [] ss = refl
lines_append f (r ∷ rs) ss = ap (λ z. row_line f r ++ z) (lines_append f rs ss) ∙ sym (append_assoc (row_line f r) (row_lines f rs) (row_lines f ss))

from_last : (a n : ℕ) → from a (suc n) ≡ from a n ++ (a + n) ∷ []
from_last a zero = let e : a ≡ a + 0 = omega arith in ap (λ i. i ∷ []) e
from_last a (suc n) = let e : suc a + n ≡ a + suc n = omega arith in ap (λ l. a ∷ l) (from_last (suc a) n) ∙ ap (λ i. a ∷ (from (suc a) n ++ i ∷ [])) e

pub lines_more : (f : ℕ → ℕ → ℕ) (low r : ℕ) (numbers : List ℕ) → low ≤ r → numbers ≡ map (f r) all_columns
    → row_lines f (from low (r - low)) ++ (row_label r ++ cells numbers) ≡ row_lines f (from low (r + 1 - low))
lines_more f low r numbers h e =
    let n : low + (r - low) ≡ r = omega (arith, h) in
    let m : suc (r - low) ≡ r + 1 - low = omega (arith, h) in
    ap (λ v. row_lines f (from low (r - low)) ++ (row_label r ++ cells v)) e
    ∙ ap (λ z. row_lines f (from low (r - low)) ++ z) (sym (append-nil (row_line f r)))
    ∙ sym (lines_append f (from low (r - low)) (r ∷ []))
    ∙ sym (ap (λ i. row_lines f (from low (r - low) ++ i ∷ [])) n)
    ∙ sym (ap (row_lines f) (from_last low (r - low)))
    ∙ ap (λ i. row_lines f (from low i)) m
