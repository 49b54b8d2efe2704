-- Request A13, "Hilbert function": what the values are, and what is printed for each file.
use Rattle.std.specs.Prelude.{◌≡◌, ◌⊎◌, List, [], ◌∷◌, ◌++◌, ℕ, suc, ◌+◌, ◌*◌, ◌<◌, ◌≤◌, T, length}
use Rattle.std.proofs.Math.Option.{some}
use Rattle.definitions.specs.Limits.{Limits}
use Rattle.definitions.specs.Lists.{between, from}
use Rattle.definitions.specs.Monomial.{Vector, Level, leading_monomials}
use Rattle.definitions.specs.Result.{done, refused}
use Rattle.definitions.specs.Stage.{highest}
use Rattle.definitions.specs.Problem.{Bytes, Parameters}
use Rattle.definitions.specs.State.{State, sound?}
use Rattle.definitions.specs.Calls.{read}
use Rattle.definitions.specs.Sheet.{sheet, printed, letter_X, x_lines}
use Rattle.definitions.specs.Program.{lifted}
use Rattle.definitions.specs.Betti.{column_degrees}
use Rattle.definitions.specs.Hilbert.{both_sums, hilbert_value, letter_H, h_lines, hilbert_lines, hilbert}
use Rattle.definitions.specs.Standard.{standard}
use Rattle.definitions.specs.Places.{hilbert_degrees, h_line_length, hilbert_length}
use Rattle.files.specs.Answers.{RefusedRight}
use Rattle.demands.specs.Demands.{limit?, NotAccepted, printed_levels, Listed}
use Rattle.standard_monomials.specs.Notions.{Undivided, ListsEach, added, taken_away}
use Rattle.standard_monomials.specs.Table.{most_monomials}

-- ## The values

-- of levels held highest first over the basis f
pub record ValuesRight (q : Parameters) (f : Level) (levels : List Level) (out : Bytes) : Type 0 where
  pub value : ℕ → ℕ
  -- "For degrees 0 to 32 a program prints `H,degree,value`": a line for each, in order
  pub text : out ≡ h_lines value (from 0 hilbert_degrees)
  -- "the value equals the number of monomials of that degree, components' degrees included, that no leading monomial of the basis divides": whether
  -- the elements are homogeneous or not
  pub counts : (d : ℕ) → d < hilbert_degrees → value d ≡ length (standard q f d)
  -- .. each of which is listed once, and nothing else
  pub listed : (d : ℕ) → ListsEach (Undivided q f d) (standard q f d)
  -- "The value is the alternating sum over the columns, column 0 positive, of the number of monomials of the degree left after the generator's own":
  -- no more is taken away than is added
  pub sums : (d : ℕ) → d < hilbert_degrees → value d + taken_away q levels d ≡ added q levels d
  -- nine digits at the most with document 01's components
  pub few : (d : ℕ) → d < hilbert_degrees → value d ≤ q.s * most_monomials
  -- each line, and all lines
  pub narrow : (d : ℕ) → d < hilbert_degrees → length (printed letter_H (d ∷ value d ∷ [])) ≤ h_line_length
  pub short : length out ≤ hilbert_degrees * h_line_length

-- ## What is printed

pub data LinesForm (lim : Limits) (bytes : Bytes) : Bytes → Type 0 where
  -- the values of the levels that the sheet lists, the highest of which is empty
  listed_values : {q : Parameters} {below : List Level} {out : Bytes} (bound : ℕ) (l : Listed lim bytes q [] below)
      → sheet lim bound bytes ≡ some (printed_levels q.n ([] ∷ below)) → ValuesRight q l.basis ([] ∷ below) out → LinesForm lim bytes out
  -- 13 to 15 while lifting: the sheet's X line, alone
  cut_off : {q : Parameters} {g : Level} {below : List Level} (number bound : ℕ) → Listed lim bytes q g below
      → sheet lim bound bytes ≡ some (printed_levels q.n (g ∷ below) ++ x_lines q.n number (suc (length below)) [])
      → T (limit? number) → LinesForm lim bytes (x_lines q.n number (suc (length below)) [])
  -- the refusals of reading and of acceptance are the sheet's
  not_read : {number place : ℕ} → RefusedRight lim bytes number place → LinesForm lim bytes (printed letter_X (number ∷ place ∷ []))
  not_taken : {q : Parameters} {number place : ℕ} {value : Vector} → NotAccepted lim bytes q number place value
      → LinesForm lim bytes (x_lines q.n number place value)

-- 1 to 9, 13 to 15, 18 and 24, with which the sheet is refused: no refusal of a request's program is among them
abbrev pub OfTheSheet : ℕ → Type 0
OfTheSheet number = T (between 1 number 9) ⊎ (T (limit? number) ⊎ ((number ≡ 18) ⊎ (number ≡ 24)))

-- more than any of the sums, of whatever sound state
abbrev pub sum_bound : ℕ
sum_bound = 100_000_000_000

pub record HilbertRight (lim : Limits) : Type 0 where
  -- for every file some bound on the steps suffices, and no two bounds give two answers
  pub lines_end : (bytes : Bytes) → (n : ℕ) × ((out : Bytes) × (hilbert lim n bytes ≡ some out))
  pub one_answer : (n m : ℕ) (bytes a b : Bytes) → hilbert lim n bytes ≡ some a → hilbert lim m bytes ≡ some b → a ≡ b
  pub forms : (n : ℕ) (bytes out : Bytes) → hilbert lim n bytes ≡ some out → LinesForm lim bytes out
  -- what refuses a file, malformed or not accepted, is printed as by the sheet
  pub as_the_sheet : (n : ℕ) (bytes : Bytes) (number place : ℕ) (value : Vector) → read lim n bytes ≡ refused number place value
      → hilbert lim n bytes ≡ sheet lim n bytes
  -- "17 is not tested, nor 20"
  pub no_other : (n : ℕ) (bytes : Bytes) (number place : ℕ) → hilbert lim n bytes ≡ some (printed letter_X (number ∷ place ∷ [])) → OfTheSheet number
  -- a file that is accepted and lifted prints values, homogeneous or not; level 0 is the basis
  pub values : (n : ℕ) (bytes : Bytes) (X Y : State) → read lim n bytes ≡ done X → lifted lim n X ≡ done Y
      → (hilbert lim n bytes ≡ some (hilbert_lines Y)) × ValuesRight X.parameters (highest X.levels) Y.levels (hilbert_lines Y)
  -- the theorem holds of the reckoning's levels, which no limit binds, where the highest is empty
  pub reckoned : (bytes : Bytes) (q : Parameters) (below : List Level) (l : Listed lim bytes q [] below) (d : ℕ) → d < hilbert_degrees
      → hilbert_value q.n (column_degrees (record { parameters = q; levels = [] ∷ below })) d ≡ length (standard q l.basis d)
  -- the values are those of the leading monomials: two such files with the same variables, components, degrees and leading monomials print the same
  pub by_leading : (n n' : ℕ) (bytes bytes' : Bytes) (X X' Y Y' : State)
      → read lim n bytes ≡ done X → lifted lim n X ≡ done Y → read lim n' bytes' ≡ done X' → lifted lim n' X' ≡ done Y'
      → X.parameters.n ≡ X'.parameters.n → X.parameters.s ≡ X'.parameters.s → X.parameters.degrees ≡ X'.parameters.degrees
      → leading_monomials (highest X.levels) ≡ leading_monomials (highest X'.levels) → hilbert lim n bytes ≡ hilbert lim n' bytes'
  -- in any sound state the sums have eleven digits at the most, so that a line has 17 bytes at the most and all lines fit
  pub sums_fit : (X : State) → T (sound? lim X) → (d : ℕ) → d < hilbert_degrees
      → ((both_sums X.parameters.n d (column_degrees X)).0 < sum_bound) × ((both_sums X.parameters.n d (column_degrees X)).1 < sum_bound)
  pub lines_fit : (X : State) → T (sound? lim X) → (length (hilbert_lines X) ≤ hilbert_degrees * h_line_length) × (length (hilbert_lines X) ≤ hilbert_length)
