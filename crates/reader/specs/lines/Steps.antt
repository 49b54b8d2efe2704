-- One line of the file, from the bytes that are left: what it says, or its refusal.
use Rattle.std.specs.Prelude.{Bool, true, false, not, List, [], ◌∷◌, ℕ, zero, suc, ◌+◌, ◌*◌, Result as CodeResult, Ok, Err, leb, eqb, length, get_or}
use Rattle.std.specs.Prelude.{drop, replicate}
use Rattle.std.proofs.Math.Option.{Option, none, some}
use Rattle.definitions.specs.Lists.{◌and◌, empty?}
use Rattle.definitions.specs.Monomial.{fits?}
use Rattle.definitions.specs.Result.{Result, done, refused, unless_refused, ◌>>=◌}
use Rattle.definitions.specs.Problem as definition
use Rattle.definitions.specs.Problem.{Bytes, letter_R, letter_D, letter_G, letter_T, letter_E}
use Rattle.definitions.specs.Layout.{Words, padded}
use Rattle.definitions.specs.Places.{most_degree, most_weight, most_components, weights_length, file_length}
use Rattle.words.specs.parameters.Values.{parameters_of}
use Rattle.reader.specs.fields.Scanning.{shaped_first, in_sixteen}
use Rattle.words.specs.declared.refusals.Refusal.{Refusal}
use Rattle.words.specs.declared.refusals.Refused.{Refused}
use Rattle.words.specs.refusals.Numbers.{number_of}
use Rattle.reader.specs.declared.lines.First.{First}
use Rattle.reader.specs.declared.lines.Optional.{Optional}
use Rattle.reader.specs.declared.lines.Head.{Head}
use Rattle.reader.specs.declared.lines.Taken.{Taken}
use Rattle.reader.specs.declared.lines.Taken.TheVariants.{Term, End}
use Rattle.reader.specs.lines.Tests.{t_number, r_number}

-- a value, unless a test failed
abbrev pub judged : {A : Type 0} → ℕ → ℕ → A → Result A
judged zero place a = done a
judged (suc number) place a = refused (suc number) place []

-- the fields of a line and what stands behind it, for its tests; 1 where it has not the shape
abbrev pub with_shape : {A : Type 0} → Option (Words × Bytes) → ℕ → (Words × Bytes → Result A) → Result A
with_shape none place tests = refused 1 place []
with_shape (some line) place tests = tests line

abbrev pub r_judged : Words × Bytes → Result (definition.Parameters × Bytes)
r_judged line = judged (r_number (definition.parameters_of line.0)) 1 (definition.parameters_of line.0, line.1)

-- `R,p,n,order,s`: the parameters, and what stands behind the line
abbrev pub r_first : Bytes → Result (definition.Parameters × Bytes)
r_first bytes = with_shape (in_sixteen (shaped_first 65535 letter_R 4 bytes)) 1 r_judged

-- ## D and G

-- what is said, the number of the next line, what stands from it on
abbrev pub Opened : Type 0 → Type 0
Opened A = A × ℕ × Bytes

-- the numbers of a line that has the shape, each at most so much or a refusal; where it has not the shape it is left to T and E
abbrev pub or_without : ℕ → ℕ → Words → ℕ → Bytes → Option (Words × Bytes) → Result (Opened Words)
or_without most number without place bytes none = done (without, place, bytes)
or_without most number without place bytes (some line) = unless_refused (fits? most line.0) number place >>= λ u. done (line.0, place + 1, line.1)

-- a line that may be left out: the letter, how many numbers, the most that each is, the refusal, the numbers without it, the line's number
abbrev pub optional : ℕ → ℕ → ℕ → ℕ → Words → ℕ → Bytes → Result (Opened Words)
optional letter count most number without place bytes = or_without most number without place bytes (in_sixteen (shaped_first 65535 letter count bytes))

-- `D,d1,..,ds`, which may follow R: 18 "when a component's degree is above 255, tested after the line's shape", "files without D keep zeros" (A5)
abbrev pub d_first : ℕ → Bytes → Result (Opened Words)
d_first s bytes = optional letter_D s most_degree 18 (replicate most_components 0) 2 bytes

-- a1,b1,..,an,bn
abbrev pub in_a_row : List (ℕ × ℕ) → Words
in_a_row [] = []
in_a_row (w ∷ ws) = w.0 ∷ w.1 ∷ in_a_row ws

-- .. in sixteen words
abbrev pub weights_words : List (ℕ × ℕ) → Words
weights_words ws = padded weights_length (in_a_row ws)

-- `G,a1,b1,..,an,bn`, behind R or D: 24 "when a weight is above 15, after its line's shape", "Without G the weights are 1 and 0" (A14)
abbrev pub g_next : ℕ → ℕ → Bytes → Result (Opened Words)
g_next n place bytes = optional letter_G (2 * n) most_weight 24 (weights_words (replicate n (1, 0))) place bytes

-- ## The head

-- the parameters, the components' degrees, the variables' weights
abbrev pub HeadSaid : Type 0
HeadSaid = definition.Parameters × Words × Words

-- behind R: D's line and then G's
abbrev pub behind_r : definition.Parameters → Bytes → Result (Opened HeadSaid)
behind_r q bytes = d_first q.s bytes >>= λ d. g_next q.n d.1 d.2 >>= λ g. done ((q, d.0, g.0), g.1, g.2)

-- 1: "file too long (line 0, tested first)"
abbrev pub head_first : Bytes → Result (Opened HeadSaid)
head_first file = unless_refused (leb (length file) file_length) 1 0 >>= λ u. r_first file >>= λ a. behind_r a.0 a.1

-- ## T and E

-- what a line behind the head says: a term, with what stands behind the line, or the end
abbrev pub Said : Type 0
Said = Option (Words × Bytes)

abbrev pub t_judged : definition.Parameters → ℕ → ℕ → ℕ → Words → Words × Bytes → Result Said
t_judged q place count r before line = judged (t_number q count r before line.0) place (some line)

-- `T,element,coefficient,component,e1,..,en`, the line with this number, after so many T lines with r elements
abbrev pub t_first : definition.Parameters → ℕ → ℕ → ℕ → Words → Bytes → Result Said
t_first q place count r before bytes = with_shape (in_sixteen (shaped_first 65535 letter_T (3 + q.n) bytes)) place (t_judged q place count r before)

abbrev pub e_judged : ℕ → ℕ → Words × Bytes → Result Said
e_judged place count line =
    unless_refused (not (eqb (get_or line.0 0 0) 0) and eqb (get_or line.0 0 0) count) 7 place >>= λ u₁.
    unless_refused (empty? line.1) 1 (place + 1) >>= λ u₂.
    done none

-- `E,count of T lines`, and nothing behind it
abbrev pub e_first : ℕ → ℕ → Bytes → Result Said
e_first place count bytes = with_shape (in_sixteen (shaped_first 65535 letter_E 1 bytes)) place (e_judged place count)

-- the letter decides
abbrev pub by_letter : Bool → Bool → Result Said → Result Said → Result Said → Result Said
by_letter true e t_line e_line other = t_line
by_letter false true t_line e_line other = e_line
by_letter false false t_line e_line other = other

abbrev pub line_first : definition.Parameters → ℕ → ℕ → ℕ → Words → Bytes → Result Said
line_first q place count r before [] = refused 1 place []
line_first q place count r before (b ∷ bytes) =
    by_letter (eqb b letter_T) (eqb b letter_E) (t_first q place count r before (b ∷ bytes)) (e_first place count (b ∷ bytes)) (refused 1 place [])

-- ## What the code says

abbrev pub first_as : CodeResult First Refusal → Bytes → Result (definition.Parameters × Bytes)
first_as (Ok r) file = done (parameters_of r.parameters, drop r.next file)
first_as (Err e) file = refused (number_of e) 1 []

abbrev pub optional_as : CodeResult Optional Refused → Bytes → Result (Opened Words)
optional_as (Ok r) file = done (r.numbers, r.place, drop r.next file)
optional_as (Err e) file = refused (number_of e.refusal) e.place []

abbrev pub head_as : CodeResult Head Refused → Bytes → Result (Opened HeadSaid)
head_as (Ok r) file = done ((parameters_of r.parameters, r.degrees, r.weights), r.place, drop r.next file)
head_as (Err e) file = refused (number_of e.refusal) e.place []

abbrev pub taken_as : CodeResult Taken Refused → Bytes → Result Said
taken_as (Ok (Term line)) file = done (some (line.numbers, drop line.next file))
taken_as (Ok End) file = done none
taken_as (Err e) file = refused (number_of e.refusal) e.place []
