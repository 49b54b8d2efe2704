-- Laws of one number, digit by digit.
use mathlib.Core.Path.{◌≡◌, refl, ap, ◌∙◌}
use mathlib.Core.Bool.{Bool, true, false, not, ◌||◌}
use mathlib.Core.Option.{Option, none, some}
use mathlib.Core.List.{[], ◌∷◌}
use Prim.Native.Nat.{ℕ, ◌+◌, ◌-◌, ◌*◌, ◌<◌, ◌≤◌}
use native.Mathlib.Omega.{arith}
use lib.Dec.{leb}
use borrow.Author.Tests.{lt-leb, ne_eqb}
use Rattle.definitions.specs.Lists.{◌and◌, ◌then◌, every, empty?}
use Rattle.definitions.specs.Problem.{Bytes, digit?, value_from, written?, number}
use Rattle.reader.specs.fields.Scanning.{digits, past_digits, digit_value, number_first, kept, number_on}

-- ## One byte

-- what a digit's value says of the byte
pub digit_is : (b d : ℕ) → some d ≡ digit_value b → (digit? b ≡ true) × (d ≡ b - 48)
digit_is b d e = go (digit? b) e
  where
    go : (t : Bool) → some d ≡ kept t (some (b - 48)) → (t ≡ true) × (d ≡ b - 48)
    go true e = let v : d ≡ b - 48 = cc in (refl, v)
    go false e = let y : ◌≡◌ {A = ℕ} 0 1 = cc in absurd (omega arith)

-- ## The digits in front

module _ (b : ℕ) (bytes : Bytes) where
  pub digits_on : digit? b ≡ true → digits (b ∷ bytes) ≡ b ∷ digits bytes
  digits_on e = rw (e, digits)

  pub digits_none : digit? b ≡ false → digits (b ∷ bytes) ≡ []
  digits_none e = rw (e, digits)

  pub past_on : digit? b ≡ true → past_digits (b ∷ bytes) ≡ past_digits bytes
  past_on e = rw (e, past_digits)

  pub past_none : digit? b ≡ false → past_digits (b ∷ bytes) ≡ b ∷ bytes
  past_none e = rw (e, past_digits)

pub all_digits : (bytes : Bytes) → every digit? (digits bytes) ≡ true
all_digits [] = refl
all_digits (b ∷ bytes) = go (digit? b) refl (all_digits bytes)
  where
    go : (t : Bool) → digit? b ≡ t → every digit? (digits bytes) ≡ true → every digit? (digits (b ∷ bytes)) ≡ true
    go true e h = ap (every digit?) (digits_on b bytes e) ∙ (λ i. e i and h i)
    go false e h = ap (every digit?) (digits_none b bytes e)

-- ## The value so far

pub value_grows : (v : ℕ) (field : Bytes) → v ≤ value_from v field
value_grows v [] = omega arith
value_grows v (b ∷ field) = let h : v * 10 + (b - 48) ≤ value_from (v * 10 + (b - 48)) field = value_grows (v * 10 + (b - 48)) field in omega arith

abbrev handed : Option ℕ → Bytes → Option (ℕ × Bytes)
handed o bytes = o then λ x. some (x, bytes)

-- the value of the digits is taken if the test says so
abbrev taken : Bool → ℕ → Bytes → Option (ℕ × Bytes)
taken t v bytes = kept t (some (v, bytes))

module _ (limit v b : ℕ) (bytes : Bytes) where
  -- a digit more
  pub number_more : digit? b ≡ true → number_on limit v (b ∷ bytes) ≡ number_on limit (v * 10 + (b - 48)) bytes
  number_more e = λ i. taken (leb (value_from v (digits_on b bytes e i)) limit) (value_from v (digits_on b bytes e i)) (past_on b bytes e i)

-- too large already
pub number_over : (limit v : ℕ) (bytes : Bytes) → limit < v → number_on limit v bytes ≡ none
number_over limit v bytes h =
    let k : v ≤ value_from v (digits bytes) = value_grows v (digits bytes) in
    λ i. taken (lt-leb (value_from v (digits bytes)) limit (omega arith) i) (value_from v (digits bytes)) (past_digits bytes)

-- ## From the first digit on

number_said : (limit : ℕ) (field : Bytes) → written? field ≡ true → number limit field
    ≡ kept (leb (value_from 0 field) limit) (some (value_from 0 field))
number_said limit field e = go (leb (value_from 0 field) limit) refl
  where
    go : (t : Bool) → leb (value_from 0 field) limit ≡ t → number limit field ≡ kept t (some (value_from 0 field))
    go true l = let a : (written? field and leb (value_from 0 field) limit) ≡ true = λ i. e i and l i in rw (a, number)
    go false l = let a : (written? field and leb (value_from 0 field) limit) ≡ false = λ i. e i and l i in rw (a, number)

pub number_unwritten : (limit : ℕ) (field : Bytes) → written? field ≡ false → number limit field ≡ none
number_unwritten limit field e = let a : (written? field and leb (value_from 0 field) limit) ≡ false = λ i. e i
    and leb (value_from 0 field) limit in rw (a, number)

handed_if : (t : Bool) (v : ℕ) (bytes : Bytes) → handed (kept t (some v)) bytes ≡ taken t v bytes
handed_if true v bytes = refl
handed_if false v bytes = refl

pub number_begins : (limit b : ℕ) (bytes : Bytes) → digit? b ≡ true → (b ≡ 48 → ⊥) → number_first limit (b ∷ bytes) ≡ number_on limit (b - 48) bytes
number_begins limit b bytes e n =
    (λ i. handed (number limit (digits_on b bytes e i)) (past_on b bytes e i))
    ∙ ap (λ o. handed o (past_digits bytes)) (number_said limit (b ∷ digits bytes)
    (λ i. (e i and all_digits bytes i) and (not (ne_eqb b 48 n i) || empty? (digits bytes))))
    ∙ handed_if (leb v limit) v (past_digits bytes)
    ∙ (λ i. taken (leb (value_from (first i) (digits bytes)) limit) (value_from (first i) (digits bytes)) (past_digits bytes))
  where
    v : ℕ
    v = value_from 0 (b ∷ digits bytes)

    first : 0 * 10 + (b - 48) ≡ b - 48
    first = omega arith
