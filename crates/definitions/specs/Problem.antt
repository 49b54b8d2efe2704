-- "Problem file": the reader, with "Refusals from the input" 1 to 8, 18 of request A5 and 24 of request A14.
use Rattle.std.specs.Prelude.{Bool, true, false, not, ◌||◌, List, [], ◌∷◌, ◌++◌, ℕ, suc, ◌+◌, ◌-◌, ◌*◌, leb, ltb, eqb, length, get_or, drop, replicate}
use Rattle.std.proofs.Math.Option.{Option, none, some}
use Rattle.definitions.specs.Limits.{Limits}
use Rattle.definitions.specs.Lists.{◌and◌, ◌then◌, every, empty?, last, between}
use Rattle.definitions.specs.Places.{most_degree, most_weight}
use Rattle.definitions.specs.Field.{prime?}
use Rattle.definitions.specs.Monomial.{Term, Vector, Level, fits?}
use Rattle.definitions.specs.Order.{compare_over, greater?}
use Rattle.definitions.specs.Result.{Result, done, refused, unless_refused, ◌>>=◌}

abbrev pub Bytes : Type 0
Bytes = List ℕ

-- "Each line ends in byte 10."
abbrev pub newline : ℕ
newline = 10

-- "Fields are parted by commas"
abbrev pub comma : ℕ
comma = 44

abbrev pub letter_R : ℕ
letter_R = 82

abbrev pub letter_T : ℕ
letter_T = 84

abbrev pub letter_E : ℕ
letter_E = 69

abbrev pub letter_D : ℕ
letter_D = 68

abbrev pub letter_G : ℕ
letter_G = 71

abbrev pub onto : ℕ → List Bytes → List Bytes
onto b [] = (b ∷ []) ∷ []
onto b (piece ∷ pieces) = (b ∷ piece) ∷ pieces

-- the pieces between the bytes that are s
abbrev pub split : ℕ → Bytes → List Bytes
split s [] = [] ∷ []
split s (b ∷ bytes) = elim (eqb b s) [ true ↦ [] ∷ split s bytes | false ↦ onto b (split s bytes) ]

-- the bytes of a line, and whether byte 10 ends it
abbrev pub Line : Type 0
Line = Bytes × Bool

-- only the last piece is not ended; where it is empty there is no such line
abbrev pub ended : List Bytes → List Line
ended [] = []
ended (piece ∷ []) = elim (empty? piece) [ true ↦ [] | false ↦ (piece, false) ∷ [] ]
ended (piece ∷ next ∷ pieces) = (piece, true) ∷ ended (next ∷ pieces)

abbrev pub lines : Bytes → List Line
lines bytes = ended (split newline bytes)

abbrev pub digit? : ℕ → Bool
digit? b = between 48 b 57

abbrev pub value_from : ℕ → Bytes → ℕ
value_from v [] = v
value_from v (b ∷ field) = value_from (v * 10 + (b - 48)) field

-- "without sign or leading zero"
abbrev pub written? : Bytes → Bool
written? [] = false
written? (b ∷ field) = every digit? (b ∷ field) and (not (eqb b 48) || empty? field)

-- "A field after the letter is a number from 0 to 65,535 without sign or leading zero."
abbrev pub number : ℕ → Bytes → Option ℕ
number limit field = elim (written? field and leb (value_from 0 field) limit) [ true ↦ some (value_from 0 field) | false ↦ none ]

-- the numbers of all fields
abbrev pub all_numbers : ℕ → List Bytes → Option (List ℕ)
all_numbers limit [] = some []
all_numbers limit (field ∷ fields) = number limit field then λ v. all_numbers limit fields then λ vs. some (v ∷ vs)

-- the field is this letter and nothing else
abbrev pub letter? : ℕ → Bytes → Bool
letter? letter [] = false
letter? letter (b ∷ field) = eqb b letter and empty? field

abbrev pub shaped_fields : ℕ → ℕ → ℕ → List Bytes → Option (List ℕ)
shaped_fields limit letter count [] = none
shaped_fields limit letter count (head ∷ fields) = elim (letter? letter head
    and eqb (length fields) count) [ true ↦ all_numbers limit fields | false ↦ none ]

-- "Fields are parted by commas, without quoting or blanks.": the letter and so many numbers in an ended line; none for a wrong shape
abbrev pub shaped : ℕ → ℕ → ℕ → Line → Option (List ℕ)
shaped limit letter count line = elim line.1 [ true ↦ shaped_fields limit letter count (split comma line.0) | false ↦ none ]

pub record Parameters : Type 0 where
  pub p : ℕ
  pub n : ℕ
  pub code : ℕ
  pub s : ℕ
  -- d1, .., ds: "A line `D,d1,..,ds`, each 0 to 255, may follow R" (A5)
  pub degrees : List ℕ

-- not 2: "p not prime or out of range"
abbrev pub prime_in_range? : Limits → ℕ → Bool
prime_in_range? lim p = leb p lim.prime_bound and prime? p

-- not 3: "n, order or s out of range"
abbrev pub in_ranges? : Limits → Parameters → Bool
in_ranges? lim q = between 1 q.n lim.variables and between 1 q.code 3 and between 1 q.s lim.components

-- of an R line: "files without D keep zeros" (A5)
abbrev pub parameters_of : List ℕ → Parameters
parameters_of v = record { p = get_or v 0 0; n = get_or v 1 0; code = get_or v 2 0; s = get_or v 3 0; degrees = replicate (get_or v 3 0) 0 }

-- `R,p,n,order,s`: "1, then 2, 3 for R"
abbrev pub r_line : Limits → List ℕ → Result Parameters
r_line lim v =
    unless_refused (prime_in_range? lim (parameters_of v).p) 2 1 >>= λ u.
    unless_refused (in_ranges? lim (parameters_of v)) 3 1 >>= λ u'.
    done (parameters_of v)

-- the term of a T line with n exponents: "exponents past n are zero"
abbrev pub term_of : ℕ → List ℕ → Term
term_of n v = (get_or v 1 0, (drop 3 v ++ replicate (8 - n) 0, get_or v 2 0))

-- "Elements run from 1 without gaps": the line begins the next element
abbrev pub next? : Level → ℕ → Bool
next? elements element = eqb element (suc (length elements))

-- .. or goes on with the last one
abbrev pub same? : Level → ℕ → Bool
same? elements element = eqb element (length elements) and not (empty? elements)

-- not 5: "element number out of sequence or above 64"
abbrev pub in_sequence? : Limits → Level → ℕ → Bool
in_sequence? lim elements element = (next? elements element || same? elements element) and leb element lim.elements

-- not 4: "coefficient 0 or ≥ p, component outside 1..s, exponent above 255"
abbrev pub term_in_range? : Limits → Parameters → Term → Bool
term_in_range? lim q t = between 1 t.0 (q.p - 1) and between 1 t.1.1 q.s and fits? lim.exponent t.1.0

abbrev pub below? : ℕ → Option Term → Term → Bool
below? code none t = true
below? code (some u) t = greater? (compare_over code [] u.1 t.1)

abbrev pub last_term : Option Vector → Option Term
last_term none = none
last_term (some f) = last f

-- not 6: "term not below the one before it in its element"
abbrev pub descends? : ℕ → Level → ℕ → Term → Bool
descends? code elements element t = next? elements element || below? code (last_term (last elements)) t

-- a term more in the last element
abbrev pub extend : Level → Term → Level
extend [] t = []
extend (f ∷ []) t = (f ++ t ∷ []) ∷ []
extend (f ∷ g ∷ fs) t = f ∷ extend (g ∷ fs) t

-- the term begins the next element, or goes on with the last one
abbrev pub with_term : Bool → Level → Term → Level
with_term true elements t = elements ++ (t ∷ []) ∷ []
with_term false elements t = extend elements t

-- `T,element,coefficient,component,e1,..,en`, the shape tested: "1, 8, 5, 4, 6 for T". 8: "a 2,049th T line"
abbrev pub t_line : Limits → Parameters → ℕ → ℕ → Level → List ℕ → Result Level
t_line lim q place count elements v =
    unless_refused (ltb count lim.t_lines) 8 place >>= λ u₁.
    unless_refused (in_sequence? lim elements (get_or v 0 0)) 5 place >>= λ u₂.
    unless_refused (term_in_range? lim q (term_of q.n v)) 4 place >>= λ u₃.
    unless_refused (descends? q.code elements (get_or v 0 0) (term_of q.n v)) 6 place >>= λ u₄.
    done (with_term (next? elements (get_or v 0 0)) elements (term_of q.n v))

-- `E,count of T lines`, last: "1, 7 for E". 7: "E's count is 0 or not the number of T lines"; 1: "line .. after E"
abbrev pub e_line : ℕ → ℕ → List Line → Level → Option (List ℕ) → Result Level
e_line place count later elements none = refused 1 place []
e_line place count later elements (some v) =
    unless_refused (not (eqb (get_or v 0 0) 0) and eqb (get_or v 0 0) count) 7 place >>= λ u₁.
    unless_refused (empty? later) 1 (suc place) >>= λ u₂.
    done elements

-- a T line, after which the lines go on; no T line must be E
abbrev pub by_shape : Option (List ℕ) → Limits → Parameters → ℕ → ℕ → Level → Line → List Line → (Level → Result Level) → Result Level
by_shape (some v) lim q place count elements line later go = t_line lim q place count elements v >>= go
by_shape none lim q place count elements line later go = e_line place count later elements (shaped lim.field letter_E 1 line)

-- the lines from the place on, after so many T lines with these elements; "an absent line has the next number"
abbrev pub body : Limits → Parameters → ℕ → ℕ → Level → List Line → Result Level
body lim q place count elements [] = refused 1 place []
body lim q place count elements (line ∷ later) =
    by_shape (shaped lim.field letter_T (3 + q.n) line) lim q place count elements line later
    (λ grown. body lim q (suc place) (suc count) grown later)

-- ## The lines before the first T line

-- what they say, the number of the next line, the lines from it on
pub record Head : Type 0 where
  pub parameters : Parameters
  -- the weights a and b of each variable (A14)
  pub weights : List (ℕ × ℕ)
  pub place : ℕ
  pub later : List Line

-- after R: "Without G the weights are 1 and 0"
abbrev pub head_of : Parameters → List Line → Head
head_of q later = record { parameters = q; weights = replicate q.n (1, 0); place = 2; later = later }

-- a line more, with these degrees
abbrev pub with_degrees : Head → List ℕ → List Line → Head
with_degrees h v later = record {
  parameters = record { p = h.parameters.p; n = h.parameters.n; code = h.parameters.code; s = h.parameters.s; degrees = v };
  weights = h.weights;
  place = suc h.place;
  later = later;
}

-- `D,d1,..,ds`: 18 "when a component's degree is above 255, tested after the line's shape" (A5). A line without that shape is left to T and E
abbrev pub d_line : Head → List Line → Option (List ℕ) → Result Head
d_line h later none = done h
d_line h later (some v) = unless_refused (fits? most_degree v) 18 h.place >>= λ u. done (with_degrees h v later)

abbrev pub d_first : Limits → Head → List Line → Result Head
d_first lim h [] = done h
d_first lim h (line ∷ later) = d_line h later (shaped lim.field letter_D h.parameters.s line)

-- a1,b1,..,an,bn: two by two
abbrev pub pairs : List ℕ → List (ℕ × ℕ)
pairs [] = []
pairs (a ∷ []) = []
pairs (a ∷ b ∷ v) = (a, b) ∷ pairs v

-- a line more, with these weights
abbrev pub with_weights : Head → List ℕ → List Line → Head
with_weights h v later = record { parameters = h.parameters; weights = pairs v; place = suc h.place; later = later }

-- `G,a1,b1,..,an,bn`: 24 "when a weight is above 15, after its line's shape" (A14). A line without that shape is left to T and E
abbrev pub g_line : Head → List Line → Option (List ℕ) → Result Head
g_line h later none = done h
g_line h later (some v) = unless_refused (fits? most_weight v) 24 h.place >>= λ u. done (with_weights h v later)

-- "may stand after R or, where there is one, D"
abbrev pub g_next : Limits → Head → List Line → Result Head
g_next lim h [] = done h
g_next lim h (line ∷ later) = g_line h later (shaped lim.field letter_G (2 * h.parameters.n) line)

abbrev pub after_r : Limits → List Line → Option (List ℕ) → Result Head
after_r lim later none = refused 1 1 []
after_r lim later (some v) = r_line lim v >>= λ q. d_first lim (head_of q later) later >>= λ h. g_next lim h h.later

-- "`R,p,n,order,s`, first"
abbrev pub first_line : Limits → List Line → Result Head
first_line lim [] = refused 1 1 []
first_line lim (line ∷ later) = after_r lim later (shaped lim.field letter_R 4 line)

-- 1: "file too long (line 0, tested first)"
abbrev pub head : Limits → Bytes → Result Head
head lim bytes = unless_refused (leb (length bytes) lim.file) 1 0 >>= λ u. first_line lim (lines bytes)

-- the parameters and the elements. "The first bad line counts."
abbrev pub problem : Limits → Bytes → Result (Parameters × Level)
problem lim bytes = head lim bytes >>= λ h. body lim h.parameters h.place 0 [] h.later >>= λ f. done (h.parameters, f)
