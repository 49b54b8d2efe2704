-- The lines one degree after the other.
use mathlib.Core.Path.{◌≡◌, refl, sym, ap, ap₂, ◌∙◌}
use mathlib.Core.List.{[], ◌∷◌, ◌++◌, append_assoc, append-nil}
use Prim.Native.Nat.{ℕ, zero, suc, ◌+◌}
use native.Mathlib.Omega.{arith}
use Rattle.definitions.specs.Limits.{document_01}
use Rattle.definitions.specs.Lists.{from}
use Rattle.definitions.specs.Problem.{Bytes}
use Rattle.definitions.specs.Layout.{Words, decode}
use Rattle.definitions.specs.Sheet.{printed}
use Rattle.definitions.specs.Hilbert.{letter_H, h_lines, hilbert_lines}
use Rattle.definitions.specs.Places.{hilbert_degrees}
use Rattle.hilbert_page.specs.page.Lines.{value_of, line_of, lines_below}

abbrev line : (ℕ → ℕ) → ℕ → Bytes
line value d = printed letter_H (d ∷ value d ∷ [])

lines_last : (value : ℕ → ℕ) (a n : ℕ) → h_lines value (from a (suc n)) ≡ h_lines value (from a n) ++ line value (a + n)
lines_last value a zero = let e : a ≡ a + 0 = omega arith in append-nil (line value a) ∙ ap (line value) e
lines_last value a (suc n) =
    let e : suc a + n ≡ a + suc n = omega arith in
    ap (λ z. line value a ++ z) (lines_last value (suc a) n ∙ ap (λ i. h_lines value (from (suc a) n) ++ line value i) e)
    ∙ sym (append_assoc (line value a) (h_lines value (from (suc a) n)) (line value (a + suc n)))

pub line_is : (s : Words) (d v w : ℕ) → d ≡ w → v ≡ value_of s w → printed letter_H (d ∷ v ∷ []) ≡ line_of s w
unfolding line_of
line_is s d v w e f = ap₂ (λ x y. printed letter_H (x ∷ y ∷ [])) e f

pub no_lines : (s : Words) → [] ≡ lines_below s 0
unfolding lines_below
no_lines s = refl

pub lines_more : (s : Words) (d : ℕ) → lines_below s d ++ line_of s d ≡ lines_below s (d + 1)
unfolding lines_below line_of
lines_more s d =
    let n : 0 + d ≡ d = omega arith in
    let m : suc d ≡ d + 1 = omega arith in
    sym (lines_last (value_of s) 0 d ∙ ap (λ i. h_lines (value_of s) (from 0 d) ++ line (value_of s) i) n) ∙ ap (λ i. h_lines (value_of s) (from 0 i)) m

pub all_lines : (s : Words) (d : ℕ) → d ≡ hilbert_degrees → lines_below s d ≡ hilbert_lines (decode document_01 s)
unfolding lines_below
all_lines s d e = ap (λ i. h_lines (value_of s) (from 0 i)) e
