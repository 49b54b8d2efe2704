-- The lines of a division from its parts.
use Rattle.std.specs.Prelude.{Bool, true, false, ◌++◌, ℕ}
use Rattle.definitions.specs.Lists.{empty?}
use Rattle.definitions.specs.Monomial.{Vector}
use Rattle.definitions.specs.Problem.{Bytes}
use Rattle.definitions.specs.Sheet.{w_lines}
use Rattle.definitions.specs.Membership.{c_lines, m_line}

abbrev pub one_by : Bool → ℕ
one_by true = 1
one_by false = 0

-- of the quotients descending, and of the remainder
abbrev pub lines_of : ℕ → Vector → Vector → Bytes
lines_of n quotients remainder = c_lines n quotients ++ (w_lines n remainder ++ m_line (empty? remainder))
