-- The lines of quotients, and the M line.
use mathlib.Core.Path.{◌≡◌, refl, sym, ap, ◌∙◌}
use mathlib.Core.Bool.{Bool, true, false}
use mathlib.Core.List.{[], ◌∷◌, ◌++◌}
use Prim.Native.Nat.{ℕ}
use lib.Dec.{eqb, eqb-suc-zero}
use lib.ListN.{length}
use Rattle.definitions.specs.Lists.{empty?}
use Rattle.definitions.specs.Monomial.{Vector}
use Rattle.definitions.specs.Sheet.{printed, term_fields}
use Rattle.definitions.specs.Membership.{letter_C, letter_M, c_lines, m_line}
use Rattle.definitions.specs.Layout.{Words, rows}
use Rattle.laws.proofs.Rows.{length_rows}
use Rattle.listing.specs.printing.Lines.{term_lines}
use Rattle.std.specs.Int.{from_bool}
use Rattle.member_page.specs.page.Lines.{one_by}

pub c_lines_are : (n : ℕ) (v : Vector) → term_lines letter_C n v ≡ c_lines n v
c_lines_are n [] = refl
c_lines_are n (t ∷ v) = ap (λ z. printed letter_C (term_fields n t) ++ z) (c_lines_are n v)

pub one_of : (b : Bool) → from_bool b ≡ one_by b
one_of true = refl
one_of false = refl

one_line : (b : Bool) → printed letter_M (one_by b ∷ []) ≡ m_line b
one_line true = refl
one_line false = refl

empty_is : (v : Vector) → eqb (length v) 0 ≡ empty? v
empty_is [] = refl
empty_is (t ∷ v) = eqb-suc-zero (length v)

-- by how many rows the remainder has
pub m_line_is : (s : Words) (r : ℕ) → printed letter_M (one_by (eqb r 0) ∷ []) ≡ m_line (empty? (rows s 0 r))
m_line_is s r = one_line (eqb r 0) ∙ ap m_line (ap (λ n. eqb n 0) (sym (length_rows s 0 r)) ∙ empty_is (rows s 0 r))
