-- "Lines that a request allows after E are no part of the file's length, which then ends with the first line beginning with E.": the input of a program
-- as a problem file and the lines after it. Where no line begins with E all of the input is the file.
use Rattle.std.specs.Prelude.{Bool, true, false, List, [], ◌∷◌, ℕ, suc, ◌+◌, eqb, length, take, drop}
use Rattle.definitions.specs.Lists.{◌and◌}
use Rattle.definitions.specs.Problem.{Bytes, Line, newline, letter_E, lines}

-- how many bytes stand before the first line beginning with E, all of them where there is none; whether a line begins here
abbrev pub before_e : Bool → Bytes → ℕ
before_e begins [] = 0
before_e begins (b ∷ bytes) = elim (begins and eqb b letter_E) [ true ↦ 0 | false ↦ suc (before_e (eqb b newline) bytes) ]

-- the bytes of the first line, its byte 10 included
abbrev pub line_length : Bytes → ℕ
line_length [] = 0
line_length (b ∷ bytes) = elim (eqb b newline) [ true ↦ 1 | false ↦ suc (line_length bytes) ]

-- where the problem file ends
abbrev pub file_end : Bytes → ℕ
file_end bytes = before_e true bytes + line_length (drop (before_e true bytes) bytes)

-- the lines before E
abbrev pub lines_before : Bytes → Bytes
lines_before bytes = take (before_e true bytes) bytes

-- the problem file
abbrev pub file_of : Bytes → Bytes
file_of bytes = take (file_end bytes) bytes

-- what stands after it
abbrev pub after : Bytes → Bytes
after bytes = drop (file_end bytes) bytes

-- .. line by line
abbrev pub lines_after : Bytes → List Line
lines_after bytes = lines (after bytes)

-- the number of the first line after it
abbrev pub first_after : Bytes → ℕ
first_after bytes = suc (length (lines (file_of bytes)))
