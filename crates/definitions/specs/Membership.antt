-- "A12. Is this vector in the module?"
use Rattle.std.specs.Prelude.{Bool, true, false, List, [], ◌∷◌, ◌++◌, ℕ, zero, suc, ◌+◌, ltb, length, get_or}
use Rattle.std.proofs.Math.Option.{Option, none, some}
use Rattle.definitions.specs.Limits.{Limits}
use Rattle.definitions.specs.Lists.{◌and◌, without, empty?, last}
use Rattle.definitions.specs.Field.{minus}
use Rattle.definitions.specs.Monomial.{Exponents, Monomial, Term, Vector, no_term, vector_of}
use Rattle.definitions.specs.Order.{Comparison}
use Rattle.definitions.specs.Reducer.{Answer, reducer, lower_order, answer}
use Rattle.definitions.specs.Result.{Result, done, refused, unfinished, unless_refused, ◌>>=◌}
use Rattle.definitions.specs.Vectors.{store, appended, descending}
use Rattle.definitions.specs.Stage.{Stage, stage_over}
use Rattle.definitions.specs.Run.{greatest, add_products}
use Rattle.definitions.specs.Problem.{Bytes, Line, Parameters, shaped, term_of, term_in_range?, below?}
use Rattle.definitions.specs.State.{State, up_to, term_sound?}
use Rattle.definitions.specs.Sheet.{printed, term_fields, w_lines}
use Rattle.definitions.specs.After.{file_of, lines_after, first_after}
use Rattle.definitions.specs.Program.{program}

-- ## The V lines

abbrev pub letter_V : ℕ
letter_V = 86

-- not 23: a term in range, below the one before it, not the 513th
abbrev pub v_term? : Limits → Parameters → Vector → Term → Bool
v_term? lim q v t = term_in_range? lim q t and below? q.code (last v) t and ltb (length v) lim.working

-- the terms so far, and this one: the numbers of its line, which has the shape
abbrev pub v_line : Limits → Parameters → ℕ → Vector → Option (List ℕ) → Result Vector
v_line lim q place v none = refused 23 place []
v_line lim q place v (some w) = let t = term_of q.n (0 ∷ w) in unless_refused (v_term? lim q v t) 23 place >>= λ u. done (v ++ t ∷ [])

-- "`V,coefficient,component,e1,..,en`, a line for each term after E, strictly descending, up to 512"; 23: "when a line after E is malformed as a V line
-- or out of range, not descending, or the 513th". The lines from the place on, after these terms
abbrev pub v_lines : Limits → Parameters → ℕ → Vector → List Line → Result Vector
v_lines lim q place v [] = done v
v_lines lim q place v (line ∷ later) =
    v_line lim q place v (shaped lim.field letter_V (2 + q.n) line) >>= λ w. v_lines lim q (suc place) w later

-- ## The division

pub record Division : Type 0 where
  -- what is still to be divided
  pub value : Vector
  -- c·q·e_j for each multiple c·q·f_j taken away
  pub quotients : Vector
  -- it arrives descending
  pub remainder : Vector

-- of a vector, before the first step
abbrev pub undivided : Vector → Division
undivided v = record { value = v; quotients = []; remainder = [] }

-- "Limits 13 and 14 count working value, quotients and remainder each, place 0.": the multiple c·q·f_j is recorded, then taken away
abbrev pub divided : Stage → Division → ℕ → ℕ → Exponents → Result Division
divided S d j c q =
    store S.reduction.limits.vector S.reduction.p (c, (q, j)) d.quotients >>= λ w.
    add_products S.reduction false (minus S.reduction.p c) q (vector_of S.family j) d.value >>= λ v.
    done (record { value = v; quotients = w; remainder = d.remainder })

-- "moving a leading term that has no reducer to the remainder": the term t at place i
abbrev pub moved : Stage → Division → ℕ → Term → Result Division
moved S d i t =
    appended (ltb (length d.remainder) S.reduction.limits.working) t d.remainder >>= λ r.
    done (record { value = without i d.value; quotients = d.quotients; remainder = r })

abbrev pub by_reducer : Stage → Division → ℕ → Term → Answer → Result Division
by_reducer S d i t (reducer j c q) = divided S d j c q
by_reducer S d i t lower_order = moved S d i t

abbrev pub division_step : Stage → Division → ℕ → Term → Result Division
division_step S d i t = by_reducer S d i t (answer S.reduction.p S.reduction.heads t)

-- the place of the leading term given, none for zero
abbrev pub divide_by : Stage → (Division → Result Division) → Division → Option ℕ → Result Division
divide_by S go d none = done d
divide_by S go d (some i) = division_step S d i (get_or d.value i no_term) >>= go

-- "The program divides by the lowest-index rule": at most n steps
abbrev pub divide : Stage → ℕ → Division → Result Division
divide S zero d = unfinished
divide S (suc n) d = divide_by S (divide S n) d (greatest S.below d.value)

-- ## What is left of it

-- the quotients, the remainder
abbrev pub Parts : Type 0
Parts = Vector × Vector

-- the quotients "descending in the induced order"
abbrev pub parts_by : (Monomial → Monomial → Comparison) → ℕ → Division → Parts
parts_by order p d = (descending order p d.quotients, d.remainder)

-- the vector divided by the elements of a state; n bounds the steps
abbrev pub divided_by : Limits → ℕ → State → Vector → Result Parts
divided_by lim n X v =
    let S = stage_over lim X.parameters.p X.parameters.code (up_to X 0) in
    divide S n (undivided v) >>= λ d. done (parts_by S.above S.reduction.p d)

-- ## A vector that a caller lends, term by term

-- not 23: a term of the module, below the one before it, not the 513th
abbrev pub lent_term? : Limits → Parameters → Vector → Term → Bool
lent_term? lim q v t = term_sound? lim q q.s t and below? q.code (last v) t and ltb (length v) lim.working

-- the terms from the place on, after these
abbrev pub lent_terms : Limits → Parameters → ℕ → Vector → Vector → Result Vector
lent_terms lim q place v [] = done v
lent_terms lim q place v (t ∷ later) = unless_refused (lent_term? lim q v t) 23 place >>= λ u. lent_terms lim q (suc place) (v ++ t ∷ []) later

-- 23 at its first bad term, "before dividing"
abbrev pub lent_divided : Limits → ℕ → State → Vector → Result Parts
lent_divided lim n X v = lent_terms lim X.parameters 1 [] v >>= divided_by lim n X

-- ## The lines

abbrev pub letter_C : ℕ
letter_C = 67

abbrev pub letter_M : ℕ
letter_M = 77

-- "`C,coefficient,element,e1,..,en` for each quotient term"
abbrev pub c_lines : ℕ → Vector → Bytes
c_lines n [] = []
c_lines n (t ∷ v) = printed letter_C (term_fields n t) ++ c_lines n v

-- "`M,1` or `M,0`"
abbrev pub m_line : Bool → Bytes
m_line true = printed letter_M (1 ∷ [])
m_line false = printed letter_M (0 ∷ [])

-- "descending in the induced order, then the remainder as W lines, then `M,1` or `M,0`"
abbrev pub division_lines : ℕ → Stage → Division → Bytes
division_lines n S d =
    c_lines n (descending S.above S.reduction.p d.quotients) ++ (w_lines n d.remainder ++ m_line (empty? d.remainder))

-- ## The program

-- the vector divided by the elements; n bounds the steps
abbrev pub membership_by : Limits → ℕ → State → Vector → Result Bytes
membership_by lim n X v =
    let S = stage_over lim X.parameters.p X.parameters.code X.levels in
    divide S n (undivided v) >>= λ d. done (division_lines X.parameters.n S d)

-- 23: "tested after acceptance and before dividing"
abbrev pub membership_of : Limits → ℕ → Bytes → State → Result Bytes
membership_of lim n bytes X = v_lines lim X.parameters (first_after bytes) [] (lines_after bytes) >>= membership_by lim n X

-- the lines printed for an input's bytes: a problem file and V lines
abbrev pub membership : Limits → ℕ → Bytes → Option Bytes
membership lim n bytes = program (membership_of lim n bytes) lim n (file_of bytes)
