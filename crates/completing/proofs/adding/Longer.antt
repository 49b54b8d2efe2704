-- The longer file stands in front of the buffer, and the tests are those of the definitions.
use mathlib.Core.Path.{◌≡◌, refl, sym, ap, ◌∙◌}
use mathlib.Core.List.{[], ◌∷◌, ◌++◌}
use Prim.Native.Nat.{ℕ, zero, suc, ◌+◌, ◌-◌, ◌<◌, ◌≤◌}
use native.Mathlib.Omega.{arith}
use borrow.Author.Tests.{le-leb, lt-leb}
use lib.Dec.{T, leb, eqb}
use lib.ListN.{length, take, length-append}
use lib.Seq.{length-take-le, take-take, take_at}
use Rattle.definitions.specs.Limits.{document_01}
use Rattle.definitions.specs.Lists.{count}
use Rattle.definitions.specs.Field.{inverse}
use Rattle.definitions.specs.Monomial.{Vector, Level, leading_term}
use Rattle.definitions.specs.Result.{Result, done, refused, unless_refused, ◌>>=◌}
use Rattle.definitions.specs.Problem.{Bytes, Parameters, newline, letter_E}
use Rattle.definitions.specs.State.{terms_of}
use Rattle.definitions.specs.Reckoning.{scaled}
use Rattle.definitions.specs.Sheet.{decimal, printed}
use Rattle.definitions.specs.Written.{element_lines}
use Rattle.definitions.specs.Completing.{monic, before_end, head_lines, with_element, with_value}
use Rattle.definitions.specs.Layout.{Words, row_at, rows}
use Rattle.definitions.specs.Places.{most_elements, most_rows, file_length}
use Rattle.laws.proofs.Rows.{rows_first}
use Rattle.completions.proofs.Growing.{scaled_length}
use Rattle.completions.proofs.Texts.{terms_more, length_more}
use Rattle.pages.specs.bytes.Printing.{Printed}
use Rattle.completing.specs.adding.Additions.{heads_in, tests_at}

-- ## Parts

pub end_length : (k : ℕ) → length (printed letter_E (k ∷ [])) ≡ length (decimal k) + 3
end_length k = let l = length-append (decimal k) (newline ∷ []) in omega (arith, l)

-- the first row's coefficient makes the rows monic
pub monic_rows : (p c m : ℕ) (s : Words) → c ≡ inverse p (row_at s 0).0 → scaled p c (rows s 0 m) ≡ monic p (rows s 0 m)
unfolding rows
monic_rows p c zero s e = refl
monic_rows p c (suc m) s e =
    ap (λ k. scaled p k (rows s 0 (suc m))) (e ∙ ap (λ (v : Vector). inverse p (leading_term v).0) (sym (rows_first s 0 m)))

-- ## The tests

-- no room for the element
pub no_room : (bytes : Bytes) (q : Parameters) (f : Level) (v : Vector) (k : ℕ) → k ≡ suc (length f) → most_elements ≤ length f
    → refused 19 k [] ≡ with_value document_01 bytes (q, f) v
no_room bytes q f v k e h =
    let w = monic q.p v in
    let l = length_more f w in
    let d : k ≡ length (f ++ w ∷ []) = omega (arith, e, l) in
    ap (λ i. refused 19 i []) d
    ∙ sym (ap (λ b. unless_refused b 19 (length (f ++ w ∷ [])) >>= λ u₁.
    tests_at (head_lines bytes f) (terms_of (f ++ w ∷ [])) (with_element q.n bytes f w))
    (lt-leb (length (f ++ w ∷ [])) most_elements (omega (arith, h, l))))

-- the tests behind 19
pub with_room : (bytes : Bytes) (q : Parameters) (f : Level) (v : Vector) → length f < most_elements
    → with_value document_01 bytes (q, f) v
    ≡ tests_at (head_lines bytes f) (terms_of (f ++ monic q.p v ∷ [])) (with_element q.n bytes f (monic q.p v))
with_room bytes q f v h =
    let w = monic q.p v in
    let l = length_more f w in
    ap (λ b. unless_refused b 19 (length (f ++ w ∷ [])) >>= λ u₁.
    tests_at (head_lines bytes f) (terms_of (f ++ w ∷ [])) (with_element q.n bytes f w))
    (le-leb (length (f ++ w ∷ [])) most_elements (omega (arith, h, l)))

-- ## The buffer

module _ (out out' : Bytes) (size at end r terms total : ℕ) (q : Parameters) (f : Level) (v : Vector)
    (inside : size ≤ length out) (few : length f ≡ r) (counted : terms_of f ≡ terms) (summed : total ≡ terms + length v)
    (front : at ≡ size - length (printed letter_E (terms ∷ [])))
    (lines : Printed out out' at end (element_lines q.n (r + 1) (monic q.p v) ++ printed letter_E (total ∷ []))) where
  abbrev bytes : Bytes
  bytes = take size out

  abbrev w : Vector
  w = monic q.p v

  whole : length bytes ≡ size
  whole = length-take-le size out inside

  at_within : at ≤ size
  at_within = omega (arith, front)

  before_is : before_end bytes f ≡ take at out
  before_is =
      (λ i. take (whole i - length (printed letter_E (counted i ∷ []))) bytes) ∙ ap (λ k. take k bytes) (sym front)
      ∙ take-take at size out at_within

  number_is : r + 1 ≡ suc (length f)
  number_is = omega (arith, few)

  pub total_is : total ≡ terms_of (f ++ w ∷ [])
  total_is =
      let t = terms_more f w in
      let l = scaled_length q.p (inverse q.p (leading_term v).0) v in
      omega (arith, t, l, counted, summed)

  pub longer_is : take end out' ≡ with_element q.n bytes f w
  longer_is =
      lines.front
      ∙ (λ i. sym before_is i ++ (element_lines q.n (number_is i) w ++ printed letter_E (total_is i ∷ [])))

  pub at_end : at ≤ end
  at_end = let e = lines.ends in omega (arith, e)

  -- what stood before stands there
  kept : take at out' ≡ take at out
  kept =
      sym (take-take at end out' at_end) ∙ ap (take at) lines.front
      ∙ take_at (take at out) (element_lines q.n (r + 1) w ++ printed letter_E (total ∷ [])) at
      (length-take-le at out (omega (arith, at_within, inside)))

  pub heads_are : heads_in out' at terms ≡ head_lines bytes f
  heads_are = (λ i. count (λ b. eqb b newline) (kept i) - terms) ∙ (λ i. count (λ b. eqb b newline) (sym before_is i) - sym counted i)

  pub added_is : r < most_elements → (x : Result Bytes) → x ≡ tests_at (heads_in out' at terms) total (take end out')
      → x ≡ with_value document_01 bytes (q, f) v
  added_is h x e =
      e ∙ (λ i. tests_at (heads_are i) (total_is i) (longer_is i)) ∙ sym (with_room bytes q f v (omega (arith, h, few)))

-- ## The tests of what stands in the buffer

module _ (out : Bytes) (heads total end : ℕ) (inside : end ≤ length out) where
  size_is : length (take end out) ≡ end
  size_is = length-take-le end out inside

  pub too_long_at : file_length < end → refused 1 0 [] ≡ tests_at heads total (take end out)
  too_long_at h = sym (ap (λ b. unless_refused b 1 0 >>= λ u₂.
      unless_refused (leb total most_rows) 8 (suc (heads + most_rows)) >>= λ u₃. done (take end out))
      (lt-leb (length (take end out)) file_length (omega (arith, h, size_is))))

  short_enough : end ≤ file_length → tests_at heads total (take end out)
      ≡ (unless_refused (leb total most_rows) 8 (suc (heads + most_rows)) >>= λ u₃. done (take end out))
  short_enough h = ap (λ b. unless_refused b 1 0 >>= λ u₂.
      unless_refused (leb total most_rows) 8 (suc (heads + most_rows)) >>= λ u₃. done (take end out))
      (le-leb (length (take end out)) file_length (omega (arith, h, size_is)))

  pub too_many_at : end ≤ file_length → most_rows < total → (place : ℕ) → place ≡ suc (heads + most_rows)
      → refused 8 place [] ≡ tests_at heads total (take end out)
  too_many_at h k place e =
      ap (λ i. refused 8 i []) e
      ∙ sym (ap (λ b. unless_refused b 8 (suc (heads + most_rows)) >>= λ u₃. done (take end out)) (lt-leb total most_rows k))
      ∙ sym (short_enough h)

  pub fits_at : end ≤ file_length → total ≤ most_rows → done (take end out) ≡ tests_at heads total (take end out)
  fits_at h k =
      sym (ap (λ b. unless_refused b 8 (suc (heads + most_rows)) >>= λ u₃. done (take end out)) (le-leb total most_rows k))
      ∙ sym (short_enough h)
