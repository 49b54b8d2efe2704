-- One line read from the bytes that are left of a file: what crate definitions says of it, and the same field by field, as the code goes.
use Rattle.std.specs.Prelude.{Bool, true, false, not, List, [], ◌∷◌, ℕ, zero, suc, ◌-◌, leb, eqb, drop, Option as CodeOption, Some, None}
use Rattle.std.proofs.Math.Option.{Option, none, some}
use Rattle.definitions.specs.Lists.{◌then◌}
use Rattle.definitions.specs.Problem.{Bytes, Line as LineDefinition, newline, comma, lines, digit?, value_from, number, shaped}
use Rattle.definitions.specs.Layout.{Words, padded}
use Rattle.reader.specs.declared.fields.Line.{Line}

-- ## The definitions' words

-- the bytes behind the first byte 10; none where there is none
abbrev pub behind : Bytes → Bytes
behind [] = []
behind (b ∷ bytes) = elim (eqb b newline) [ true ↦ bytes | false ↦ behind bytes ]

-- the numbers of the first of these lines, if it has the shape
abbrev pub shaped_of : ℕ → ℕ → ℕ → List LineDefinition → Option (List ℕ)
shaped_of limit letter count [] = none
shaped_of limit letter count (line ∷ later) = shaped limit letter count line

-- .. and the bytes behind it
abbrev pub shaped_first : ℕ → ℕ → ℕ → Bytes → Option (List ℕ × Bytes)
shaped_first limit letter count bytes = shaped_of limit letter count (lines bytes) then λ v. some (v, behind bytes)

-- ## Field by field

-- the digits in front
abbrev pub digits : Bytes → Bytes
digits [] = []
digits (b ∷ bytes) = elim (digit? b) [ true ↦ b ∷ digits bytes | false ↦ [] ]

-- what stands behind them
abbrev pub past_digits : Bytes → Bytes
past_digits [] = []
past_digits (b ∷ bytes) = elim (digit? b) [ true ↦ past_digits bytes | false ↦ b ∷ bytes ]

-- nothing unless the test holds
abbrev pub kept : {A : Type 0} → Bool → Option A → Option A
kept true o = o
kept false o = none

-- a digit's value
abbrev pub digit_value : ℕ → Option ℕ
digit_value b = kept (digit? b) (some (b - 48))

-- a number and what stands behind it
abbrev pub number_first : ℕ → Bytes → Option (ℕ × Bytes)
number_first limit bytes = number limit (digits bytes) then λ v. some (v, past_digits bytes)

-- the same after the digits so far gave v
abbrev pub number_on : ℕ → ℕ → Bytes → Option (ℕ × Bytes)
number_on limit v bytes = kept (leb (value_from v (digits bytes)) limit) (some (value_from v (digits bytes), past_digits bytes))

-- the same after the digit 0: "without .. leading zero"
abbrev pub number_zero : Bytes → Option (ℕ × Bytes)
number_zero [] = some (0, [])
number_zero (b ∷ bytes) = kept (not (digit? b)) (some (0, b ∷ bytes))

-- a comma, a number, and what stands behind it
abbrev pub field_first : ℕ → Bytes → Option (ℕ × Bytes)
field_first limit [] = none
field_first limit (b ∷ bytes) = kept (eqb b comma) (number_first limit bytes)

-- byte 10, and what stands behind it
abbrev pub line_end : Bytes → Option (List ℕ × Bytes)
line_end [] = none
line_end (b ∷ bytes) = kept (eqb b newline) (some ([], bytes))

-- so many numbers, a comma before each, then byte 10; and what stands behind it
abbrev pub numbers_first : ℕ → ℕ → Bytes → Option (List ℕ × Bytes)
numbers_first limit zero bytes = line_end bytes
numbers_first limit (suc count) bytes = field_first limit bytes then λ f. numbers_first limit count f.1 then λ r. some (f.0 ∷ r.0, r.1)

-- ## What the code says

abbrev pub digit_as : CodeOption ℕ → Option ℕ
digit_as (Some d) = some d
digit_as None = none

abbrev pub field_as : CodeOption (ℕ × ℕ) → Bytes → Option (ℕ × Bytes)
field_as (Some f) file = some (f.0, drop f.1 file)
field_as None file = none

abbrev pub line_as : CodeOption Line → Bytes → Option (Words × Bytes)
line_as (Some r) file = some (r.numbers, drop r.next file)
line_as None file = none

-- a line has sixteen numbers at the most: zeros stand for those that it does not have
abbrev pub in_sixteen : Option (List ℕ × Bytes) → Option (Words × Bytes)
in_sixteen none = none
in_sixteen (some r) = some (padded 16 r.0, r.1)
