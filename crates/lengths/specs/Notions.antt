-- Request A10: frame terms without the first variables, leading monomials as it wants them, and the frame terms of each level.
use Rattle.std.specs.Prelude.{◌≡◌, Bool, List, [], ℕ, zero, suc, ◌<◌, T, eqb, length, get_or, take, drop}
use Rattle.definitions.specs.Lists.{◌and◌, every}
use Rattle.definitions.specs.Monomial.{Exponents, Monomial, divides_monomial?}
use Rattle.definitions.specs.Order.{smaller, lexicographic}
use Rattle.definitions.specs.Frame.{frame}

abbrev pub zero? : Exponents → Bool
zero? e = every (λ x. eqb x 0) e

-- it contains none of x1 to xk
abbrev pub free_of_first? : ℕ → Monomial → Bool
free_of_first? k m = zero? (take k m.0)

-- eight exponents, those past n zero
abbrev pub in_variables? : ℕ → Monomial → Bool
in_variables? n m = eqb (length m.0) 8 and zero? (drop n m.0)

-- the member at a place, counted from 0
abbrev pub at : List Monomial → ℕ → Monomial
at ms i = get_or ms i ([], 0)

-- of LM f_1 .. LM f_r: "elements with leading monomials in one component stand in ascending lexicographic order of these ..
abbrev pub Sorted : List Monomial → Type 0
Sorted ms = (i j : ℕ) → i < j → j < length ms → (at ms i).1 ≡ (at ms j).1 → lexicographic (at ms i).0 (at ms j).0 ≡ smaller

-- .. and none of these divides another"
abbrev pub Apart : List Monomial → Type 0
Apart ms = (i j : ℕ) → i < length ms → j < length ms → T (divides_monomial? (at ms i) (at ms j)) → i ≡ j

pub record Prepared (ms : List Monomial) : Type 0 where
  pub sorted : Sorted ms
  pub apart : Apart ms

-- The frame terms of level k over LM f_1 .. LM f_r, "with the same component .. numbered by ascending lexicographic monomial, whatever the file's order
-- code".
-- A level's vectors have its frame terms in front, so that these are the leading monomials over which the next frame is formed.
abbrev pub frame_terms : ℕ → List Monomial → List Monomial
frame_terms zero ms = ms
frame_terms (suc k) ms = frame 1 (frame_terms k ms)
