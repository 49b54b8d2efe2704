-- With document 01's limits whatever is printed for a file fits a buffer of 32,384 bytes.
use mathlib.Core.Path.{◌≡◌, sym, ap, ◌∙◌}
use mathlib.Core.Logic.{inl, inr}
use mathlib.Core.Bool.{Bool, true, false}
use mathlib.Core.List.{List, [], ◌∷◌}
use Prim.Native.Nat.{ℕ, zero, suc, ◌-◌, ◌*◌, ◌<◌, ◌≤◌}
use native.Mathlib.Omega.{arith}
use lib.Dec.{T, leb, eqb, leb→le}
use lib.ListN.{length, take, length-append}
use Rattle.definitions.specs.Limits.{document_01}
use Rattle.definitions.specs.Lists.{◌and◌, every, empty?}
use Rattle.definitions.specs.Monomial.{Term, Vector, Level, leading_monomials}
use Rattle.definitions.specs.Frame.{frame}
use Rattle.definitions.specs.Result.{Result, done, refused, unfinished, ◌>>=◌}
use Rattle.definitions.specs.Stage.{stage_over}
use Rattle.definitions.specs.Lifting.{if_few, accept_from}
use Rattle.definitions.specs.Problem.{Bytes, Parameters, newline, onto, split, Line, ended, lines}
use Rattle.definitions.specs.State.{term_sound?}
use Rattle.definitions.specs.Calls.{accepted, read}
use Rattle.definitions.specs.Sheet.{fields, printed, letter_X, letter_W, term_fields, w_lines, x_lines}
use Rattle.definitions.specs.Places.{most_exponent, most_components, w_line_length, pair_line_length, bidegrees_length}
use Rattle.laws.proofs.Tests.{and_left, and_right, between_high}
use Rattle.laws.proofs.Members.{All, every_all, all_map}
use Rattle.laws.proofs.Sound.{term_says}
use Rattle.laws.proofs.Reading.{basis_state}
use Rattle.files.specs.Files.{WellFormedFile}
use Rattle.files.specs.Answers.{RefusedRight, too_long, at_line, LineNumber}
use Rattle.demands.specs.Demands.{NotAccepted, no_basis, limit_met}
use Rattle.demands.proofs.Reader.{files}
use Rattle.bigraded.specs.Bidegrees.{LinesForm, listed_lines, mixed_element, cut_off, not_read, not_taken, AlwaysShort}
use Rattle.laws.proofs.Digits.{ten_to, field_few}
use Rattle.bigraded.proofs.Bidegrees.{document_bidegrees_right}

-- ## Lines with few digits

-- X, a number of two digits, a place of six
x_few : (number place : ℕ) → number < ten_to 2 → place < ten_to 6 → length (printed letter_X (number ∷ place ∷ [])) ≤ pair_line_length
x_few number place h k =
    let a = field_few 1 number h (place ∷ []) in
    let b = field_few 5 place k [] in
    omega (arith, a, b)

-- numbers of three digits
fields_few : (vs : List ℕ) → All (λ v. v ≤ most_exponent) vs → length (fields vs) ≤ suc (4 * length vs)
fields_few [] h = omega arith
fields_few (v ∷ vs) h =
    let a = field_few 2 v (let l = h.0 in omega (arith, l)) vs in
    let b = fields_few vs h.1 in
    omega (arith, a, b)

take_all : (P : ℕ → Type 0) (n : ℕ) (l : List ℕ) → All P l → All P (take n l)
take_all P zero l h = tt
take_all P (suc n) [] h = tt
take_all P (suc n) (x ∷ l) h = (h.0, take_all P n l h.1)

take_few : (n : ℕ) (l : List ℕ) → length (take n l) ≤ length l
take_few zero l = omega arith
take_few (suc n) [] = omega arith
take_few (suc n) (x ∷ l) = let h = take_few n l in omega (arith, h)

-- ## W lines

module _ (q : Parameters) (prime : q.p ≤ document_01.prime_bound) (few : q.s ≤ most_components) where
  w_few : (n : ℕ) (t : Term) → T (term_sound? document_01 q q.s t) → length (printed letter_W (term_fields n t)) ≤ w_line_length
  w_few n t h =
      let s = term_says document_01 q q.s t h in
      let e = t.1.0 in
      let c = between_high 1 t.0 (q.p - 1) s.coefficient in
      let k = between_high 1 t.1.1 q.s s.component in
      let small = take_all (λ x. x ≤ most_exponent) n e
      (all_map (λ x. T (leb x most_exponent)) (λ x. x ≤ most_exponent) (λ x. leb→le x most_exponent) e (every_all (λ x. leb x most_exponent) e s.fits)) in
      let a = field_few 4 t.0 (omega (arith, c, prime)) (t.1.1 ∷ take n e) in
      let b = field_few 1 t.1.1 (omega (arith, k, few)) (take n e) in
      let d = fields_few (take n e) small in
      let l = take_few n e in
      let m = s.eight in
      omega (arith, a, b, d, l, m)

  w_lines_few : (n : ℕ) (value : Vector) → T (every (term_sound? document_01 q q.s) value) → length (w_lines n value) ≤ length value * w_line_length
  w_lines_few n [] h = omega arith
  w_lines_few n (t ∷ v) h =
      let a = length-append (printed letter_W (term_fields n t)) (w_lines n v) in
      let b = w_few n t (and_left (term_sound? document_01 q q.s t) (every (term_sound? document_01 q q.s) v) h) in
      let r = w_lines_few n v (and_right (term_sound? document_01 q q.s t) (every (term_sound? document_01 q q.s) v) h) in
      omega (arith, a, b, r)

-- ## Places

-- no more lines than bytes, but for one
split_few : (s : ℕ) (bytes : Bytes) → length (split s bytes) ≤ suc (length bytes)
split_few s [] = omega arith
split_few s (b ∷ bytes) = go (eqb b s) (split s bytes) (split_few s bytes)
  where
    onto_few : (pieces : List Bytes) → length (onto b pieces) ≤ suc (length pieces)
    onto_few [] = omega arith
    onto_few (p ∷ pieces) = omega arith

    go : (c : Bool) (pieces : List Bytes) → length pieces ≤ suc (length bytes)
        → length {A = Bytes} (elim c [ true ↦ [] ∷ pieces | false ↦ onto b pieces ]) ≤ suc (suc (length bytes))
    go true pieces h = omega (arith, h)
    go false pieces h = let a = onto_few pieces in omega (arith, a, h)

ended_few : (pieces : List Bytes) → length (ended pieces) ≤ length pieces
ended_few [] = omega arith
ended_few (p ∷ []) = go (empty? p)
  where
    go : (b : Bool) → length {A = Line} (elim b [ true ↦ [] | false ↦ (p, false) ∷ [] ]) ≤ 1
    go true = omega arith
    go false = omega arith
ended_few (p ∷ r ∷ pieces) = let h = ended_few (r ∷ pieces) in omega (arith, h)

lines_few : (bytes : Bytes) → length (lines bytes) ≤ suc (length bytes)
lines_few bytes = let a = split_few newline bytes in let b = ended_few (split newline bytes) in omega (arith, a, b)

-- 9 comes behind 15: the frame has at most 128 terms
number_of : {A : Type 0} → Result A → ℕ
number_of (done a) = 0
number_of (refused number place value) = number
number_of unfinished = 0

frame_few : (bytes : Bytes) (q : Parameters) (f : Level) (bound place : ℕ) (value : Vector) → WellFormedFile document_01 bytes q f
    → read document_01 bound bytes ≡ refused 9 place value → length (frame 1 (leading_monomials f)) ≤ document_01.vectors
unfolding number_of
frame_few bytes q f bound place value w e =
    let many = length (frame 1 (leading_monomials f)) in
    leb→le many document_01.vectors (go (leb many document_01.vectors)
    (sym (ap (λ x. x >>= accepted document_01 bound) ((files document_01 tt).taken bytes q f w)) ∙ e))
  where
    go : (b : Bool)
        → ((if_few b (frame 1 (leading_monomials f)) >>= λ ms. accept_from (stage_over document_01 q.p q.code (f ∷ [])) bound 1 ms)
        >>= λ u. done (basis_state (q, f))) ≡ refused 9 place value → T b
    go true e = tt
    go false e = let z : ◌≡◌ {A = ℕ} 15 9 = ap number_of e in omega (arith, z)

-- ## Every file

refused_few : (bytes : Bytes) (number place : ℕ) → RefusedRight document_01 bytes number place
    → length (printed letter_X (number ∷ place ∷ [])) ≤ bidegrees_length
refused_few bytes number place (too_long n p l) = let a = x_few number place (omega (arith, n)) (omega (arith, p)) in omega (arith, a)
refused_few bytes number place (at_line n l b r) =
    let i = b.inside in
    let k = b.next in
    let m = lines_few bytes in
    let a = x_few number place (small n) (omega (arith, i, k, m, l)) in
    omega (arith, a)
  where
    small : {number : ℕ} → LineNumber number → number < ten_to 2
    small (inl (a, b)) = omega (arith, b)
    small (inr (inl e)) = omega (arith, e)
    small (inr (inr e)) = omega (arith, e)

not_taken_few : (bytes : Bytes) (q : Parameters) (number place : ℕ) (value : Vector) → NotAccepted document_01 bytes q number place value
    → length (x_lines q.n number place value) ≤ bidegrees_length
not_taken_few bytes q number place value (no_basis {f = f} bound w r t why) =
    let few = frame_few bytes q f bound place value w r in
    let k = between_high 1 place (length (frame 1 (leading_monomials f))) t in
    let a = x_few 9 place (omega arith) (omega (arith, k, few)) in
    let b = length-append (printed letter_X (9 ∷ place ∷ [])) (w_lines q.n value) in
    let c = w_lines_few q w.well.parameters.p_to w.well.parameters.s_to q.n value why.sound in
    let d : length value ≤ document_01.working = why.short in
    omega (arith, a, b, c, d)
not_taken_few bytes q number place value (limit_met bound w r t) =
    let k = between_high 13 number 15 t in
    let a = x_few number 0 (omega (arith, k)) (omega arith) in
    let b = length-append (printed letter_X (number ∷ 0 ∷ [])) [] in
    omega (arith, a, b)

form_few : (bytes out : Bytes) → LinesForm document_01 bytes out → length out ≤ bidegrees_length
form_few bytes out (listed_lines n l s e h r b) = let a = ap length r.text in let c = b.short in omega (arith, a, c)
form_few bytes out (mixed_element {f = f} {i = i} w g m) =
    let h = m.high in
    let k : length f ≤ document_01.elements = w.well.few in
    let a = x_few 25 i (omega arith) (omega (arith, h, k)) in
    omega (arith, a)
form_few bytes out (cut_off {below = below} number n l s t k h) =
    let i = between_high 13 number 15 t in
    let j : length below ≤ document_01.levels = k in
    let a = x_few number (suc (length below)) (omega (arith, i)) (omega (arith, j)) in
    let b = length-append (printed letter_X (number ∷ suc (length below) ∷ [])) [] in
    omega (arith, a, b)
form_few bytes out (not_read {number} {place} r) = refused_few bytes number place r
form_few bytes out (not_taken {q} {number} {place} {value} a) = not_taken_few bytes q number place value a

pub always_short : AlwaysShort
always_short n bytes out e = form_few bytes out (document_bidegrees_right.forms n bytes out e)
