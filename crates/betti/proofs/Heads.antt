-- A page does not begin as an X line does, and printed lines with the same bytes have the same numbers.
use mathlib.Core.Path.{◌≡◌, refl, sym, ap, ◌∙◌, subst}
use mathlib.Core.Bool.{Bool, true, false}
use mathlib.Core.Option.{some-injective}
use mathlib.Core.List.{List, [], ◌∷◌, ◌++◌, append_assoc}
use Prim.Native.Nat.{ℕ, zero, suc, ◌+◌, ◌-◌, ◌<◌, ◌≤◌}
use native.Mathlib.Omega.{arith}
use lib.Dec.{T, ltb}
use lib.ListN.{length, replicate, length-append}
use Rattle.definitions.specs.Lists.{map}
use Rattle.definitions.specs.Problem.{Bytes, Line, newline, comma, digit?, lines, shaped}
use Rattle.definitions.specs.Sheet.{decimal, printed, letter_X}
use Rattle.definitions.specs.Pages.{cells, row_number, row_label, all_columns, row_lines, total_line, page}
use Rattle.definitions.specs.Places.{cell_length, row_shift}
use Rattle.laws.proofs.Tests.{between_high}
use Rattle.laws.proofs.Members.{All, every_all, all_map, all_append}
use Rattle.files.proofs.Lines.{listed, lines_printed, shaped_listed}
use Rattle.files.proofs.Decimals.{decimal_digits}

-- ## The first byte of a page

-- a first byte that is no letter
abbrev Begins : Bytes → Type 0
Begins [] = ⊥
Begins (b ∷ bytes) = b < letter_X

abbrev Low : Bytes → Type 0
Low t = All (λ b. b < letter_X) t

blanks_low : (n : ℕ) → Low (replicate n 32)
blanks_low zero = tt
blanks_low (suc n) = (omega arith, blanks_low n)

digits_low : (v : ℕ) → Low (decimal v)
digits_low v =
    all_map (λ b. T (digit? b)) (λ b. b < letter_X) (λ b t. let h = between_high 48 b 57 t in omega (arith, h)) (decimal v)
    (every_all digit? (decimal v) (decimal_digits v))

number_low : (r : ℕ) → Low (row_number r)
number_low r = go (ltb r row_shift)
  where
    go : (b : Bool) → Low (elim b [ true ↦ 45 ∷ decimal (row_shift - r) | false ↦ decimal (r - row_shift) ])
    go true = (omega arith, digits_low (row_shift - r))
    go false = digits_low (r - row_shift)

begins : (t rest : Bytes) → Low t → 1 ≤ length t → Begins (t ++ rest)
begins [] rest h l = absurd (omega arith)
begins (b ∷ t) rest h l = h.0

label_begins : (r : ℕ) (rest : Bytes) → Begins (row_label r ++ rest)
label_begins r rest =
    let t = row_number r ++ 58 ∷ [] in
    let blank = replicate {A = ℕ} (cell_length - length t) 32 in
    begins (blank ++ t) rest
    (all_append (λ b. b < letter_X) blank t (blanks_low (cell_length - length t))
    (all_append (λ b. b < letter_X) (row_number r) (58 ∷ []) (number_low r) (omega arith, tt)))
    (let a = length-append blank t in let b = length-append (row_number r) (58 ∷ []) in omega (arith, a, b))

page_begins : (at : ℕ → ℕ → ℕ) (rs : List ℕ) → Begins (page at rs)
page_begins at [] = let z : 32 < letter_X = omega arith in z
page_begins at (r ∷ rs) =
    subst Begins (sym (append_assoc (row_label r ++ cells (map (at r) all_columns)) (row_lines at rs) (total_line at (r ∷ rs))
    ∙ append_assoc (row_label r) (cells (map (at r) all_columns)) (row_lines at rs ++ total_line at (r ∷ rs))))
    (label_begins r (cells (map (at r) all_columns) ++ (row_lines at rs ++ total_line at (r ∷ rs))))

pub page_no_X : (at : ℕ → ℕ → ℕ) (rs vs : List ℕ) → page at rs ≡ printed letter_X vs → ⊥
page_no_X at rs vs e = let z : letter_X < letter_X = subst Begins e (page_begins at rs) in omega (arith, z)

-- ## Lines with two numbers

first_of : Line → List Line → Line
first_of d [] = d
first_of d (l ∷ ls) = l

pub record SameNumbers (a b c d : ℕ) : Type 0 where
  pub first : a ≡ c
  pub second : b ≡ d

-- what stands at the first two places
first_number : List ℕ → ℕ
first_number [] = 0
first_number (a ∷ l) = a

second_number : List ℕ → ℕ
second_number [] = 0
second_number (a ∷ l) = first_number l

pub printed_once : (a b c d : ℕ) (x y : Bytes) → printed letter_X (a ∷ b ∷ []) ++ x ≡ printed letter_X (c ∷ d ∷ []) ++ y → SameNumbers a b c d
unfolding first_of first_number second_number
printed_once a b c d x y e =
    let no : ¬ (letter_X ≡ newline) = λ z. omega (arith, z) in
    let not_comma : ¬ (letter_X ≡ comma) = λ z. omega (arith, z) in
    let limit = a + b + c + d in
    let one : ◌≡◌ {A = Line} (letter_X ∷ listed (a ∷ b ∷ []), true) (letter_X ∷ listed (c ∷ d ∷ []), true) =
    ap (first_of ([], true)) (sym (lines_printed letter_X no (a ∷ b ∷ []) x) ∙ ap lines e ∙ lines_printed letter_X no (c ∷ d ∷ []) y) in
    let s = shaped_listed limit letter_X 2 not_comma (a ∷ b ∷ []) (omega arith, (omega arith, tt)) refl in
    let t = shaped_listed limit letter_X 2 not_comma (c ∷ d ∷ []) (omega arith, (omega arith, tt)) refl in
    let same : ◌≡◌ {A = List ℕ} (a ∷ b ∷ []) (c ∷ d ∷ []) = some-injective _ _ (sym s ∙ ap (shaped limit letter_X 2) one ∙ t) in
    record { first = ap first_number same; second = ap second_number same }
