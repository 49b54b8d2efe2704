-- The first line of what is left of a file, as crate definitions cuts it out and parts it, and the same field by field.
use mathlib.Core.Path.{◌≡◌, refl, sym, ap, ◌∙◌, subst}
use mathlib.Core.Bool.{Bool, true, false, not, ◌||◌}
use mathlib.Core.Option.{Option, none, some}
use mathlib.Core.List.{List, [], ◌∷◌}
use Prim.Native.Nat.{ℕ, zero, suc, ◌<◌, ◌≤◌}
use native.Mathlib.Omega.{arith}
use native.Mathlib.Decide.{ℕ_discrete}
use lib.Dec.{eqb, eqb-zero-suc, eqb-suc-zero, eqb-suc-suc}
use lib.ListN.{length}
use borrow.Author.Tests.{eq-eqb, ne_eqb}
use Rattle.definitions.specs.Lists.{◌and◌, ◌then◌, every, empty?}
use Rattle.definitions.specs.Problem.{Bytes, Line, newline, comma, onto, split, ended, lines, digit?, number, all_numbers, letter?, shaped_fields, shaped}
use Rattle.laws.proofs.Tests.{is_true, between_low}
use Rattle.laws.proofs.Results.{IfSome, if_some_then, if_some_always}
use Rattle.reader.specs.fields.Scanning.{behind, shaped_of, shaped_first, digits, past_digits, number_first, kept, field_first, numbers_first}
use Rattle.reader.proofs.fields.Digits.{digits_on, digits_none, past_on, past_none, number_unwritten}

-- ## The first line

-- the bytes before the first byte 10
abbrev before : Bytes → Bytes
before [] = []
before (b ∷ bytes) = elim (eqb b newline) [ true ↦ [] | false ↦ b ∷ before bytes ]

-- whether there is one
abbrev ended? : Bytes → Bool
ended? [] = false
ended? (b ∷ bytes) = elim (eqb b newline) [ true ↦ true | false ↦ ended? bytes ]

-- the pieces behind it
abbrev more : Bool → Bytes → List Bytes
more true bytes = split newline bytes
more false bytes = []

module _ (b : ℕ) (bytes : Bytes) where
  before_on : eqb b newline ≡ false → before (b ∷ bytes) ≡ b ∷ before bytes
  before_on e = rw (e, before)

  before_end : eqb b newline ≡ true → before (b ∷ bytes) ≡ []
  before_end e = rw (e, before)

  ended_on : eqb b newline ≡ false → ended? (b ∷ bytes) ≡ ended? bytes
  ended_on e = rw (e, ended?)

  ended_end : eqb b newline ≡ true → ended? (b ∷ bytes) ≡ true
  ended_end e = rw (e, ended?)

  behind_on : eqb b newline ≡ false → behind (b ∷ bytes) ≡ behind bytes
  behind_on e = rw (e, behind)

  behind_end : eqb b newline ≡ true → behind (b ∷ bytes) ≡ bytes
  behind_end e = rw (e, behind)

  split_on : (s : ℕ) → eqb b s ≡ false → split s (b ∷ bytes) ≡ onto b (split s bytes)
  split_on s e = rw (e, split)

  split_here : (s : ℕ) → eqb b s ≡ true → split s (b ∷ bytes) ≡ [] ∷ split s bytes
  split_here s e = rw (e, split)

split_first : (bytes : Bytes) → split newline bytes ≡ before bytes ∷ more (ended? bytes) (behind bytes)
split_first [] = refl
split_first (b ∷ bytes) = go (eqb b newline) refl (split_first bytes)
  where
    go : (t : Bool) → eqb b newline ≡ t → split newline bytes ≡ before bytes ∷ more (ended? bytes) (behind bytes)
        → split newline (b ∷ bytes) ≡ before (b ∷ bytes) ∷ more (ended? (b ∷ bytes)) (behind (b ∷ bytes))
    go true e h = split_here b bytes newline e ∙ sym (λ i. before_end b bytes e i ∷ more (ended_end b bytes e i) (behind_end b bytes e i))
    go false e h = split_on b bytes newline e ∙ ap (onto b) h ∙ sym (λ i. before_on b bytes e i ∷ more (ended_on b bytes e i) (behind_on b bytes e i))

behind_none : (bytes : Bytes) → ended? bytes ≡ false → behind bytes ≡ []
behind_none [] e = refl
behind_none (b ∷ bytes) e = go (eqb b newline) refl (behind_none bytes)
  where
    go : (t : Bool) → eqb b newline ≡ t → (ended? bytes ≡ false → behind bytes ≡ []) → behind (b ∷ bytes) ≡ []
    go true q h = let z : ◌≡◌ {A = Bool} true false = sym (ended_end b bytes q) ∙ e in let y : ◌≡◌ {A = ℕ} 0 1 = cc in absurd (omega arith)
    go false q h = behind_on b bytes q ∙ h (sym (ended_on b bytes q) ∙ e)

lines_split : (bytes : Bytes) (piece : Bytes) → ended (piece ∷ split newline bytes) ≡ (piece, true) ∷ lines bytes
lines_split bytes piece = ap (λ l. ended (piece ∷ l)) (split_first bytes) ∙ ap (λ l. (piece, true) ∷ ended l) (sym (split_first bytes))

pub lines_first : (b : ℕ) (bytes : Bytes) → lines (b ∷ bytes) ≡ (before (b ∷ bytes), ended? (b ∷ bytes)) ∷ lines (behind (b ∷ bytes))
lines_first b bytes = ap ended (split_first (b ∷ bytes)) ∙ go (ended? (b ∷ bytes)) refl
  where
    all : Bytes
    all = b ∷ bytes

    -- a line that is not ended is not empty
    last_piece : (t : Bool) → eqb b newline ≡ t → ended? all ≡ false → ended (before all ∷ []) ≡ (before all, false) ∷ []
    last_piece true q e = let z : ◌≡◌ {A = Bool} true false = sym (ended_end b bytes q) ∙ e in let y : ◌≡◌ {A = ℕ} 0 1 = cc in absurd (omega arith)
    last_piece false q e = ap (λ l. ended (l ∷ [])) (before_on b bytes q) ∙ ap (λ (l : Bytes). (l, false) ∷ []) (sym (before_on b bytes q))

    go : (t : Bool) → ended? all ≡ t → ended (before all ∷ more t (behind all)) ≡ (before all, t) ∷ lines (behind all)
    go true e = lines_split (behind all) (before all)
    go false e = last_piece (eqb b newline) refl e ∙ ap (λ l. (before all, false) ∷ lines l) (sym (behind_none all e))

-- no line is left only where no byte is
pub lines_none : (bytes : Bytes) → empty? (lines bytes) ≡ empty? bytes
lines_none [] = refl
lines_none (b ∷ bytes) = ap empty? (lines_first b bytes)

-- ## A first field of any kind, then numbers

-- what a first field gives: how the numbers behind it go on
abbrev Head : Type 0
Head = Bytes → Option (List ℕ → List ℕ)

-- the numbers of all fields but the first, handed to what that gives
abbrev with_head : Option (List ℕ → List ℕ) → Option (List ℕ) → Option (List ℕ)
with_head o vs = o then λ k. vs then λ v. some (k v)

abbrev fields_by : Head → ℕ → ℕ → List Bytes → Option (List ℕ)
fields_by g limit count [] = none
fields_by g limit count (f ∷ fs) = kept (eqb (length fs) count) (with_head (g f) (all_numbers limit fs))

abbrev paired : Bytes → Option (List ℕ) → Option (List ℕ × Bytes)
paired rest o = o then λ v. some (v, rest)

-- the line in front, parted by commas, with what stands behind it
abbrev line_by : Head → ℕ → ℕ → Bytes → Option (List ℕ × Bytes)
line_by g limit count bytes = kept (ended? bytes) (paired (behind bytes) (fields_by g limit count (split comma (before bytes))))

-- the same where the digits of the first field have been read
abbrev joined : Option (List ℕ → List ℕ) → Option (List ℕ × Bytes) → Option (List ℕ × Bytes)
joined o rest = o then λ k. rest then λ r. some (k r.0, r.1)

abbrev a_number : ℕ → Head
a_number limit f = number limit f then λ v. some (λ vs. v ∷ vs)

joined_none : (o : Option (List ℕ → List ℕ)) → joined o none ≡ none
joined_none none = refl
joined_none (some k) = refl

kept_none : {A : Type 0} (t : Bool) → ◌≡◌ {A = Option A} (kept t none) none
kept_none true = refl
kept_none false = refl

split_some : (s : ℕ) (bytes : Bytes) → (f : Bytes) × (fs : List Bytes) × (split s bytes ≡ f ∷ fs)
split_some s [] = ([], [], refl)
split_some s (b ∷ bytes) = go (eqb b s) refl (split_some s bytes)
  where
    go : (t : Bool) → eqb b s ≡ t → (f : Bytes) × (fs : List Bytes) × (split s bytes ≡ f ∷ fs) → (f : Bytes) × (fs : List Bytes)
        × (split s (b ∷ bytes) ≡ f ∷ fs)
    go true e h = ([], split s bytes, split_here b bytes s e)
    go false e (f, fs, h) = (b ∷ f, fs, split_on b bytes s e ∙ ap (onto b) h)

module _ (g : Head) (limit : ℕ) where
  -- byte 10 ends the first field and the line
  line_ends : (count : ℕ) (bytes : Bytes) → line_by g limit count (10 ∷ bytes) ≡ joined (g []) (numbers_first limit count (10 ∷ bytes))
  line_ends zero bytes = go (g [])
    where
      go : (o : Option (List ℕ → List ℕ)) → paired bytes (with_head o (some [])) ≡ joined o (some ([], bytes))
      go none = refl
      go (some k) = refl
  line_ends (suc count) bytes =
      ap (λ t. paired bytes (kept t (with_head (g []) (some [])))) (eqb-zero-suc count) ∙ sym (joined_none (g []))

  -- a comma ends the first field
  field_ends : (count : ℕ) (bytes : Bytes) → line_by g limit (suc count) (44 ∷ bytes) ≡ joined (g []) (line_by (a_number limit) limit count bytes)
  field_ends count bytes = parted (split_some comma (before bytes))
    where
      e : Bool
      e = ended? bytes

      rest : Bytes
      rest = behind bytes

      go : (e t : Bool) (o : Option (List ℕ → List ℕ)) (n : Option ℕ) (a : Option (List ℕ))
          → kept e (paired rest (kept t (with_head o (n then λ v. a then λ vs. some (v ∷ vs)))))
          ≡ joined o (kept e (paired rest (kept t (with_head (n then λ v. some (λ vs. v ∷ vs)) a))))
      go false t o n a = sym (joined_none o)
      go true false o n a = sym (joined_none o)
      go true true none n a = refl
      go true true (some k) none a = refl
      go true true (some k) (some v) none = refl
      go true true (some k) (some v) (some vs) = refl

      parted : (f : Bytes) × (fs : List Bytes) × (split comma (before bytes) ≡ f ∷ fs)
          → line_by g limit (suc count) (44 ∷ bytes) ≡ joined (g []) (line_by (a_number limit) limit count bytes)
      parted (f, fs, s) =
          ap (λ l. kept e (paired rest (fields_by g limit (suc count) ([] ∷ l)))) s
          ∙ ap (λ t. kept e (paired rest (kept t (with_head (g []) (all_numbers limit (f ∷ fs)))))) (eqb-suc-suc (length fs) count)
          ∙ go e (eqb (length fs) count) (g []) (number limit f) (all_numbers limit fs)
          ∙ ap (λ l. joined (g []) (kept e (paired rest (fields_by (a_number limit) limit count l)))) (sym s)

  field_too_many : (bytes : Bytes) → line_by g limit 0 (44 ∷ bytes) ≡ none
  field_too_many bytes = parted (split_some comma (before bytes))
    where
      parted : (f : Bytes) × (fs : List Bytes) × (split comma (before bytes) ≡ f ∷ fs) → line_by g limit 0 (44 ∷ bytes) ≡ none
      parted (f, fs, s) =
          ap (λ l. kept (ended? bytes) (paired (behind bytes) (fields_by g limit 0 ([] ∷ l)))) s
          ∙ ap (λ t. kept (ended? bytes) (paired (behind bytes) (kept t (with_head (g []) (all_numbers limit (f ∷ fs)))))) (eqb-suc-zero (length fs))
          ∙ kept_none (ended? bytes)

  -- any other byte belongs to the first field
  field_goes_on : (count b : ℕ) (bytes : Bytes) → eqb b newline ≡ false → eqb b comma ≡ false
      → line_by g limit count (b ∷ bytes) ≡ line_by (λ f. g (b ∷ f)) limit count bytes
  field_goes_on count b bytes e c = parted (split_some comma (before bytes))
    where
      parted : (f : Bytes) × (fs : List Bytes) × (split comma (before bytes) ≡ f ∷ fs)
          → line_by g limit count (b ∷ bytes) ≡ line_by (λ f. g (b ∷ f)) limit count bytes
      parted (f, fs, s) =
          (λ i. kept (ended_on b bytes e i) (paired (behind_on b bytes e i) (fields_by g limit count (split comma (before_on b bytes e i)))))
          ∙ ap (λ l. kept (ended? bytes) (paired (behind bytes) (fields_by g limit count l))) (split_on b (before bytes) comma c ∙ ap (onto b) s)
          ∙ ap (λ l. kept (ended? bytes) (paired (behind bytes) (fields_by (λ f. g (b ∷ f)) limit count l))) (sym s)

  -- no first field is good
  never : (count : ℕ) (bytes : Bytes) → ((f : Bytes) → g f ≡ none) → line_by g limit count bytes ≡ none
  never count bytes n = parted (split_some comma (before bytes))
    where
      parted : (f : Bytes) × (fs : List Bytes) × (split comma (before bytes) ≡ f ∷ fs) → line_by g limit count bytes ≡ none
      parted (f, fs, s) =
          ap (λ l. kept (ended? bytes) (paired (behind bytes) (fields_by g limit count l))) s
          ∙ ap (λ o. kept (ended? bytes) (paired (behind bytes) (kept (eqb (length fs) count) (with_head o (all_numbers limit fs))))) (n f)
          ∙ ap (λ o. kept (ended? bytes) (paired (behind bytes) o)) (kept_none (eqb (length fs) count))
          ∙ kept_none (ended? bytes)

-- neither a comma nor byte 10
numbers_neither : (limit count b : ℕ) (bytes : Bytes) → eqb b newline ≡ false → eqb b comma ≡ false → numbers_first limit count (b ∷ bytes) ≡ none
numbers_neither limit zero b bytes e c = λ i. kept (e i) (some ([], bytes))
numbers_neither limit (suc count) b bytes e c = λ i. kept (c i) (number_first limit bytes) then λ f. numbers_first limit count f.1
    then λ r. some (f.0 ∷ r.0, r.1)

-- ## A first field of digits

abbrev with_rest : Bytes → Option ℕ → Option (ℕ × Bytes)
with_rest rest o = o then λ v. some (v, rest)

number_of_digits : (limit : ℕ) (f : Bytes) → every digit? f ≡ false → a_number limit f ≡ none
number_of_digits limit [] e = refl
number_of_digits limit (b ∷ f) e = ap (λ n. n then λ v. some (λ (vs : List ℕ). v ∷ vs))
    (number_unwritten limit (b ∷ f) (λ i. e i and (not (eqb b 48) || empty? f)))

-- only a field of digits is good
abbrev OfDigits : Head → Type 0
OfDigits g = (f : Bytes) → every digit? f ≡ false → g f ≡ none

digit_parts_nothing : (b : ℕ) → digit? b ≡ true → (eqb b newline ≡ false) × (eqb b comma ≡ false)
digit_parts_nothing b e = let l : 48 ≤ b = between_low 48 b 57 (is_true e) in (ne_eqb b newline (λ q. omega arith), ne_eqb b comma (λ q. omega arith))

-- the first field's digits, then the other fields
pub line_digits : (limit count : ℕ) (g : Head) → OfDigits g → (bytes : Bytes)
    → line_by g limit count bytes ≡ joined (g (digits bytes)) (numbers_first limit count (past_digits bytes))
line_digits limit count g o [] = none_left count
  where
    none_left : (count : ℕ) → none ≡ joined (g []) (numbers_first limit count [])
    none_left zero = sym (joined_none (g []))
    none_left (suc count) = sym (joined_none (g []))
line_digits limit count g o (b ∷ bytes) =
    go (ℕ_discrete b 10) (ℕ_discrete b 44) (digit? b) refl (λ c h k. line_digits limit c h k bytes)
  where
    Whole : ℕ → ℕ → Type 0
    Whole count b = line_by g limit count (b ∷ bytes) ≡ joined (g (digits (b ∷ bytes))) (numbers_first limit count (past_digits (b ∷ bytes)))

    Later : Type 0
    Later = (c : ℕ) (h : Head) → OfDigits h → line_by h limit c bytes ≡ joined (h (digits bytes)) (numbers_first limit c (past_digits bytes))

    number_then : (c : ℕ) → joined (a_number limit (digits bytes)) (numbers_first limit c (past_digits bytes))
        ≡ numbers_first limit (suc c) (44 ∷ bytes)
    number_then c = each (number limit (digits bytes))
      where
        each : (n : Option ℕ) → joined (n then λ v. some (λ vs. v ∷ vs)) (numbers_first limit c (past_digits bytes))
            ≡ (with_rest (past_digits bytes) n then λ f. numbers_first limit c f.1 then λ r. some (f.0 ∷ r.0, r.1))
        each none = refl
        each (some v) = refl

    comma_case : (count : ℕ) → Later → Whole count 44
    comma_case zero later = field_too_many g limit bytes ∙ sym (joined_none (g []))
    comma_case (suc c) later = field_ends g limit c bytes ∙ ap (joined (g [])) (later c (a_number limit) (number_of_digits limit) ∙ number_then c)

    go : Dec (b ≡ 10) → Dec (b ≡ 44) → (t : Bool) → digit? b ≡ t → Later → Whole count b
    go (yes e) d t q later = subst (Whole count) (sym e) (line_ends g limit count bytes)
    go (no e) (yes d) t q later = subst (Whole count) (sym d) (comma_case count later)
    go (no e) (no d) true q later =
        field_goes_on g limit count b bytes (ne_eqb b 10 e) (ne_eqb b 44 d)
        ∙ later count (λ f. g (b ∷ f)) (λ f n. o (b ∷ f) (λ i. q i and n i))
        ∙ sym (λ i. joined (g (digits_on b bytes q i)) (numbers_first limit count (past_on b bytes q i)))
    go (no e) (no d) false q later =
        field_goes_on g limit count b bytes (ne_eqb b 10 e) (ne_eqb b 44 d)
        ∙ never (λ f. g (b ∷ f)) limit count bytes (λ f. o (b ∷ f) (λ i. q i and every digit? f))
        ∙ sym (joined_none (g []))
        ∙ sym (λ i. joined (g (digits_none b bytes q i)) ((ap (numbers_first limit count) (past_none b bytes q)
        ∙ numbers_neither limit count b bytes (ne_eqb b 10 e) (ne_eqb b 44 d)) i))

-- ## A letter, then numbers

abbrev a_letter : ℕ → Head
a_letter letter f = kept (letter? letter f) (some (λ vs. vs))

then_some : (o : Option (List ℕ)) → (o then λ v. some v) ≡ o
then_some none = refl
then_some (some v) = refl

letter_fields : (limit letter count : ℕ) (pieces : List Bytes) → shaped_fields limit letter count pieces
    ≡ fields_by (a_letter letter) limit count pieces
letter_fields limit letter count [] = refl
letter_fields limit letter count (head ∷ fields) = go (letter? letter head) refl (eqb (length fields) count) refl
  where
    go : (l : Bool) → letter? letter head ≡ l → (t : Bool) → eqb (length fields) count ≡ t
        → shaped_fields limit letter count (head ∷ fields) ≡ kept t (with_head (kept l (some (λ vs. vs))) (all_numbers limit fields))
    go true e true q = let a : (letter? letter head and eqb (length fields) count)
        ≡ true = (λ i. e i and q i) in rw (a, shaped_fields) (sym (then_some (all_numbers limit fields)))
    go true e false q = let a : (letter? letter head and eqb (length fields) count) ≡ false = (λ i. e i and q i) in rw (a, shaped_fields)
    go false e true q = let a : (letter? letter head and eqb (length fields) count)
        ≡ false = (λ i. e i and eqb (length fields) count) in rw (a, shaped_fields)
    go false e false q = let a : (letter? letter head and eqb (length fields) count)
        ≡ false = (λ i. e i and eqb (length fields) count) in rw (a, shaped_fields)

-- the letter alone: nothing may stand behind it in its field
abbrev alone : Head
alone f = kept (empty? f) (some (λ vs. vs))

alone_of_digits : OfDigits alone
alone_of_digits [] e = let y : ◌≡◌ {A = ℕ} 0 1 = cc in absurd (omega arith)
alone_of_digits (b ∷ f) e = refl

module _ (limit letter count : ℕ) (after-digits : 57 < letter) where
  shaped_line : (b : ℕ) (bytes : Bytes) → shaped_first limit letter count (b ∷ bytes) ≡ line_by (a_letter letter) limit count (b ∷ bytes)
  shaped_line b bytes =
      ap (λ ls. paired (behind all) (shaped_of limit letter count ls)) (lines_first b bytes) ∙ go (ended? all) refl
    where
      all : Bytes
      all = b ∷ bytes

      go : (t : Bool) → ended? all ≡ t → paired (behind all) (shaped limit letter count (before all, ended? all))
          ≡ kept t (paired (behind all) (fields_by (a_letter letter) limit count (split comma (before all))))
      go true e = let a : shaped limit letter count (before all, ended? all)
          ≡ shaped_fields limit letter count (split comma (before all)) = rw (e, shaped) in
          ap (paired (behind all)) (a ∙ letter_fields limit letter count (split comma (before all)))
      go false e = let a : shaped limit letter count (before all, ended? all) ≡ none = rw (e, shaped) in ap (paired (behind all)) a

  -- another byte in front
  pub letter_differs : (b : ℕ) (bytes : Bytes) → (b ≡ letter → ⊥) → shaped_first limit letter count (b ∷ bytes) ≡ none
  letter_differs b bytes n = shaped_line b bytes ∙ go (ℕ_discrete b 10) (ℕ_discrete b 44)
    where
      go : Dec (b ≡ 10) → Dec (b ≡ 44) → line_by (a_letter letter) limit count (b ∷ bytes) ≡ none
      go (yes e) d = ap (λ x. line_by (a_letter letter) limit count (x ∷ bytes)) e ∙ line_ends (a_letter letter) limit count bytes
      go (no e) (yes d) = ap (λ x. line_by (a_letter letter) limit count (x ∷ bytes)) d ∙ by_count count
        where
          by_count : (c : ℕ) → line_by (a_letter letter) limit c (44 ∷ bytes) ≡ none
          by_count zero = field_too_many (a_letter letter) limit bytes
          by_count (suc c) = field_ends (a_letter letter) limit c bytes
      go (no e) (no d) =
          field_goes_on (a_letter letter) limit count b bytes (ne_eqb b 10 e) (ne_eqb b 44 d)
          ∙ never (λ f. a_letter letter (b ∷ f)) limit count bytes (λ f i. kept (ne_eqb b letter n i and empty? f) (some (λ vs. vs)))

  digits_alone : (bytes : Bytes) → joined (alone (digits bytes)) (numbers_first limit count (past_digits bytes)) ≡ numbers_first limit count bytes
  digits_alone [] = go (numbers_first limit count [])
    where
      go : (o : Option (List ℕ × Bytes)) → joined (some (λ vs. vs)) o ≡ o
      go none = refl
      go (some r) = refl
  digits_alone (b ∷ bytes) = go (digit? b) refl
    where
      same : (o : Option (List ℕ × Bytes)) → joined (some (λ vs. vs)) o ≡ o
      same none = refl
      same (some r) = refl

      go : (t : Bool) → digit? b ≡ t → joined (alone (digits (b ∷ bytes))) (numbers_first limit count (past_digits (b ∷ bytes)))
          ≡ numbers_first limit count (b ∷ bytes)
      go true e =
          (λ i. joined (alone (digits_on b bytes e i)) (numbers_first limit count (past_on b bytes e i)))
          ∙ sym (numbers_neither limit count b bytes (digit_parts_nothing b e).0 (digit_parts_nothing b e).1)
      go false e = (λ i. joined (alone (digits_none b bytes e i)) (numbers_first limit count (past_none b bytes e i)))
          ∙ same (numbers_first limit count (b ∷ bytes))

  -- the letter in front
  pub letter_stands : (b : ℕ) (bytes : Bytes) → b ≡ letter → shaped_first limit letter count (b ∷ bytes) ≡ numbers_first limit count bytes
  letter_stands b bytes e =
      shaped_line b bytes
      ∙ field_goes_on (a_letter letter) limit count b bytes (ne_eqb b 10 (λ q. omega arith)) (ne_eqb b 44 (λ q. omega arith))
      ∙ (λ i. line_by (λ f. kept (eq-eqb b letter e i and empty? f) (some (λ vs. vs))) limit count bytes)
      ∙ line_digits limit count alone alone_of_digits bytes
      ∙ digits_alone bytes

-- ## For callers

-- the first line, and the lines behind it
pub first_of : (b : ℕ) (bytes : Bytes) → (line : Line) × (lines (b ∷ bytes) ≡ line ∷ lines (behind (b ∷ bytes)))
first_of b bytes = ((before (b ∷ bytes), ended? (b ∷ bytes)), lines_first b bytes)

abbrev Counts : ℕ → List ℕ × Bytes → Type 0
Counts count r = length r.0 ≡ count

numbers_count : (limit count : ℕ) (bytes : Bytes) → IfSome (Counts count) (numbers_first limit count bytes)
numbers_count limit zero [] = tt
numbers_count limit zero (b ∷ bytes) = go (eqb b newline)
  where
    go : (t : Bool) → IfSome (Counts 0) (kept t (some ([], bytes)))
    go true = refl
    go false = tt
numbers_count limit (suc count) bytes =
    if_some_then (λ f. Unit {0}) (Counts (suc count)) (field_first limit bytes)
    (λ f. numbers_first limit count f.1 then λ r. some (f.0 ∷ r.0, r.1))
    (if_some_always (λ f. Unit {0}) (λ f. tt) (field_first limit bytes)) λ f u.
    if_some_then (Counts count) (Counts (suc count)) (numbers_first limit count f.1) (λ r. some (f.0 ∷ r.0, r.1))
    (numbers_count limit count f.1) (λ r e. ap suc e)

-- a line has as many numbers as its shape asks for
pub shaped_count : (limit letter count : ℕ) → 57 < letter → (bytes : Bytes)
    → IfSome (λ (r : List ℕ × Bytes). length r.0 ≡ count) (shaped_first limit letter count bytes)
shaped_count limit letter count h [] = tt
shaped_count limit letter count h (b ∷ bytes) = go (ℕ_discrete b letter)
  where
    go : Dec (b ≡ letter) → IfSome (Counts count) (shaped_first limit letter count (b ∷ bytes))
    go (yes e) = subst (IfSome (Counts count)) (sym (letter_stands limit letter count h b bytes e)) (numbers_count limit count bytes)
    go (no n) = subst (IfSome (Counts count)) (sym (letter_differs limit letter count h b bytes n)) tt
