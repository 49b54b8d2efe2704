-- What is printed of a vector, and of the lines after a file, over a state.
use Rattle.std.specs.Prelude.{ℕ}
use Rattle.definitions.specs.Limits.{document_01}
use Rattle.definitions.specs.Monomial.{Vector}
use Rattle.definitions.specs.Problem.{Bytes}
use Rattle.definitions.specs.Program.{printed_or_refused}
use Rattle.definitions.specs.Membership.{membership_by}
use Rattle.definitions.specs.Layout.{Words, decode}
use Rattle.listing.specs.whole.Listed.{Prints}

-- the lines of its division by the elements of the state that the words hold; v is the number of exponents in W lines after X,9, of which there are none
abbrev pub VectorPrints : Words → Vector → Bytes → Bytes → ℕ → Type 0
VectorPrints s vector out out' r =
    (v : ℕ) → Prints (λ n. printed_or_refused v (membership_by document_01 n (decode document_01 s) vector)) out out' 0 r
