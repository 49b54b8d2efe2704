-- "A14. Two degrees side by side."
use Rattle.std.specs.Prelude.{Bool, List, [], ◌∷◌, ◌++◌, ℕ, suc, ◌+◌, ◌*◌, eqb}
use Rattle.std.proofs.Math.Option.{Option}
use Rattle.definitions.specs.Limits.{Limits}
use Rattle.definitions.specs.Lists.{◌and◌, count, map}
use Rattle.definitions.specs.Monomial.{Exponents, Monomial}
use Rattle.definitions.specs.Order.{Comparison, greater, equal, smaller, or_at_tie, numbers}
use Rattle.definitions.specs.Result.{Result, done, ◌>>=◌}
use Rattle.definitions.specs.Problem.{Bytes, head}
use Rattle.definitions.specs.State.{State}
use Rattle.definitions.specs.Stage.{highest}
use Rattle.definitions.specs.Sheet.{printed}
use Rattle.definitions.specs.Degrees.{component_degree}
use Rattle.definitions.specs.Columns.{columns}
use Rattle.definitions.specs.Program.{lifted, program}
use Rattle.definitions.specs.Betti.{first_mixed, unless_mixed}

-- ## The bidegree of a term

-- a weighted sum: one weight for each variable
abbrev pub weighted : List ℕ → Exponents → ℕ
weighted [] e = 0
weighted (w ∷ ws) [] = 0
weighted (w ∷ ws) (x ∷ e) = w * x + weighted ws e

-- the degree that A1 would give with weights, the component's included
abbrev pub degree_weighted : List ℕ → List ℕ → Monomial → ℕ
degree_weighted ws d m = weighted ws m.0 + component_degree d m.1

-- a, b
abbrev pub Bidegree : Type 0
Bidegree = ℕ × ℕ

-- a1, .., an
abbrev pub firsts : List (ℕ × ℕ) → List ℕ
firsts ws = map (λ w. w.0) ws

-- b1, .., bn
abbrev pub seconds : List (ℕ × ℕ) → List ℕ
seconds ws = map (λ w. w.1) ws

-- "the bidegree of a term is the weighted sums, with D added to the first"
abbrev pub bidegree : List (ℕ × ℕ) → List ℕ → Monomial → Bidegree
bidegree ws d m = (degree_weighted (firsts ws) d m, weighted (seconds ws) m.0)

abbrev pub same_bidegree? : Bidegree → Bidegree → Bool
same_bidegree? x y = eqb x.0 y.0 and eqb x.1 y.1

-- 25: "here instead of 17, its place the first such element, when some element has terms of two bidegrees, after acceptance"
abbrev pub bihomogeneous : List (ℕ × ℕ) → State → Result (Unit {0})
bihomogeneous ws X =
    let d = X.parameters.degrees in
    unless_mixed (first_mixed (λ m m'. same_bidegree? (bidegree ws d m) (bidegree ws d m')) 1 (highest X.levels)) 25

-- ## The lines

-- by a, then b
abbrev pub compare_bidegrees : Bidegree → Bidegree → Comparison
compare_bidegrees x y = or_at_tie (numbers x.0 y.0) (numbers x.1 y.1)

-- into an ascending list, unless it is there
abbrev pub into_bidegrees : Bidegree → List Bidegree → List Bidegree
into_bidegrees x [] = x ∷ []
into_bidegrees x (y ∷ l) = elim (compare_bidegrees x y) [
  | smaller ↦ x ∷ y ∷ l
  | equal ↦ y ∷ l
  | greater ↦ y ∷ into_bidegrees x l
]

-- those that occur, each once: "then a, then b, ascending"
abbrev pub occurring : List Bidegree → List Bidegree
occurring [] = []
occurring (x ∷ l) = into_bidegrees x (occurring l)

abbrev pub letter_B : ℕ
letter_B = 66

-- `B,column,a,b,count`: the count is "the number of generators of that column of A1 whose image has that bidegree"
abbrev pub b_line : ℕ → List Bidegree → Bidegree → Bytes
b_line c all x = printed letter_B (c ∷ x.0 ∷ x.1 ∷ count (same_bidegree? x) all ∷ [])

abbrev pub b_lines : ℕ → List Bidegree → List Bidegree → Bytes
b_lines c all [] = []
b_lines c all (x ∷ xs) = b_line c all x ++ b_lines c all xs

-- "for all non-zero counts, by column": the columns from column c on
abbrev pub column_lines : ℕ → List (List Bidegree) → Bytes
column_lines c [] = []
column_lines c (all ∷ later) = b_lines c all (occurring all) ++ column_lines (suc c) later

abbrev pub bidegree_lines : List (ℕ × ℕ) → State → Bytes
bidegree_lines ws X = column_lines 0 (map (map (bidegree ws X.parameters.degrees)) (columns X))

-- ## The program

-- 25 after acceptance, before lifting
abbrev pub bidegrees_of : Limits → ℕ → List (ℕ × ℕ) → State → Result Bytes
bidegrees_of lim n ws X = bihomogeneous ws X >>= λ u. lifted lim n X >>= λ Y. done (bidegree_lines ws Y)

-- the lines printed for a file's bytes: no state holds weights, they are the file's
abbrev pub bidegrees : Limits → ℕ → Bytes → Option Bytes
bidegrees lim n bytes = program (λ X. head lim bytes >>= λ h. bidegrees_of lim n h.weights X) lim n bytes
