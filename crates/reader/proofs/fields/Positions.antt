-- The laws of numbers and lines at a position in a file, from what the code's tests say there.
use mathlib.Core.Path.{◌≡◌, sym, ap, ◌∙◌}
use mathlib.Core.Bool.{true}
use mathlib.Core.Option.{none, some}
use mathlib.Core.List.{[], ◌∷◌}
use Prim.Native.Nat.{ℕ, ◌+◌, ◌-◌, ◌*◌, ◌<◌, ◌≤◌}
use native.Mathlib.Numerals.{add-one}
use lib.ListN.{length, drop, get_or, drop_of_length-le}
use lib.Seq.{drop-cons}
use borrow.Author.Tests.{eq-eqb, ne_eqb}
use Rattle.definitions.specs.Problem.{Bytes, digit?}
use Rattle.reader.specs.fields.Scanning.{digit_value, number_first, kept, number_on, field_first, line_end, numbers_first, shaped_first}
use Rattle.reader.proofs.fields.Digits.{digit_is, number_more, number_begins}
use Rattle.reader.proofs.fields.Lines.{letter_stands}

-- nothing is left
pub nothing_left : (file : Bytes) (at : ℕ) → length file ≤ at → drop at file ≡ []
nothing_left file at h = drop_of_length-le file h

-- a byte, and what stands behind it
pub byte_left : (file : Bytes) (at : ℕ) → at < length file → drop at file ≡ get_or file at 0 ∷ drop (at + 1) file
byte_left file at h = drop-cons file at 0 h ∙ ap (λ n. get_or file at 0 ∷ drop n file) (sym (add-one at))

module _ (file : Bytes) (at : ℕ) where
  module _ (h : at < length file) where
    module _ (d : ℕ) (here : some d ≡ digit_value (get_or file at 0)) where
      a_digit : digit? (get_or file at 0) ≡ true
      a_digit = (digit_is (get_or file at 0) d here).0

      its_value : d ≡ get_or file at 0 - 48
      its_value = (digit_is (get_or file at 0) d here).1

      pub on_more : (v : ℕ) → number_on 65535 v (drop at file) ≡ number_on 65535 (v * 10 + d) (drop (at + 1) file)
      on_more v =
          ap (number_on 65535 v) (byte_left file at h) ∙ number_more 65535 v (get_or file at 0) (drop (at + 1) file) a_digit
          ∙ ap (λ x. number_on 65535 (v * 10 + x) (drop (at + 1) file)) (sym its_value)

      pub first_on : (d ≡ 0 → ⊥) → number_first 65535 (drop at file) ≡ number_on 65535 d (drop (at + 1) file)
      first_on n =
          ap (number_first 65535) (byte_left file at h)
          ∙ number_begins 65535 (get_or file at 0) (drop (at + 1) file) a_digit (λ q. n (its_value ∙ ap (λ x. x - 48) q))
          ∙ ap (λ x. number_on 65535 x (drop (at + 1) file)) (sym its_value)

  -- ## A comma before a number, byte 10 behind the last

  pub field_end : length file ≤ at → field_first 65535 (drop at file) ≡ none
  field_end h = ap (field_first 65535) (nothing_left file at h)

  pub field_comma : at < length file → get_or file at 0 ≡ 44 → field_first 65535 (drop at file) ≡ number_first 65535 (drop (at + 1) file)
  field_comma h e = ap (field_first 65535) (byte_left file at h) ∙ (λ i. kept (eq-eqb (get_or file at 0) 44 e i)
      (number_first 65535 (drop (at + 1) file)))

  pub field_other : at < length file → (get_or file at 0 ≡ 44 → ⊥) → field_first 65535 (drop at file) ≡ none
  field_other h n = ap (field_first 65535) (byte_left file at h) ∙ (λ i. kept (ne_eqb (get_or file at 0) 44 n i)
      (number_first 65535 (drop (at + 1) file)))

  pub end_here : at < length file → get_or file at 0 ≡ 10 → line_end (drop at file) ≡ some ([], drop (at + 1) file)
  end_here h e = ap line_end (byte_left file at h) ∙ (λ i. kept (eq-eqb (get_or file at 0) 10 e i) (some ([], drop (at + 1) file)))

  -- ## The letter

  module _ (letter count : ℕ) (after-digits : 57 < letter) where
    pub line_letter : at < length file → get_or file at 0 ≡ letter → shaped_first 65535 letter count (drop at file)
        ≡ numbers_first 65535 count (drop (at + 1) file)
    line_letter h e = ap (shaped_first 65535 letter count) (byte_left file at h)
        ∙ letter_stands 65535 letter count after-digits (get_or file at 0) (drop (at + 1) file) e
