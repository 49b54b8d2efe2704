-- A V line: its tests, the numbers as those of a T line, and the lines one by one.
use mathlib.Core.Path.{◌≡◌, refl, sym, ap, ◌∙◌, subst}
use mathlib.Core.Bool.{Bool, true, false}
use mathlib.Core.Option.{Option, none, some}
use mathlib.Core.List.{List, [], ◌∷◌, ◌++◌}
use Prim.Native.Nat.{ℕ, zero, suc, ◌+◌, ◌-◌, ◌<◌, ◌≤◌}
use native.Mathlib.Omega.{arith}
use lib.Dec.{ltb}
use lib.ListN.{length, get_or, take, drop, replicate, length-append, length-drop}
use lib.Seq.{drop-cons, get_or-take, drop-append-le, take-append-add}
use borrow.Author.Tests.{lt-ltb, le-ltb, ltb-true}
use Rattle.std.specs.Prelude.{Option as CodeOption, Some, None, Ok, Err}
use Rattle.std.specs.Option.{ok_or}
use Rattle.definitions.specs.Limits.{document_01}
use Rattle.definitions.specs.Lists.{◌and◌, ◌then◌, last, between}
use Rattle.definitions.specs.Monomial as definition
use Rattle.definitions.specs.Monomial.{Term, Vector}
use Rattle.definitions.specs.Result.{Result, done, refused, unless_refused, ◌>>=◌}
use Rattle.definitions.specs.Problem.{Bytes, Line, Parameters, lines, shaped, term_of, term_in_range?, below?}
use Rattle.definitions.specs.Membership.{letter_V, v_line, v_lines}
use Rattle.definitions.specs.Layout.{Words, padded}
use Rattle.definitions.specs.Places.{most_exponent, most_terms}
use Rattle.laws.proofs.Tests.{true_is, is_true, and_right}
use Rattle.laws.proofs.Results.{IfSome}
use Rattle.laws.proofs.Reading.{Counts, shaped_length}
use Rattle.reader.specs.fields.Scanning.{behind, kept, shaped_of, in_sixteen}
use Rattle.reader.specs.lines.Tests.{term_in, above?}
use Rattle.reader.proofs.fields.Lines.{first_of}
use Rattle.reader.proofs.problem.LineByLine.{getD_padded, take_zeros}
use Rattle.after.proofs.Cutting.{here}
use Rattle.member_page.specs.brought.Lines.{follows?, fits?, tested, v_first}

-- ## What `ok_or` hands on

pub ok_or_ok : {A E : Type 0} (o : CodeOption A) (e : E) (x : A) → ok_or o e ≡ Ok x → o ≡ Some x
ok_or_ok None e x h = cc
ok_or_ok (Some y) e x h = cc

pub ok_or_err : {A E : Type 0} (o : CodeOption A) (e d : E) → ok_or o e ≡ Err d → (o ≡ None) × (d ≡ e)
ok_or_err None e d h = (refl, cc)
ok_or_err (Some y) e d h = (cc, cc)

-- ## Numbers

pub first_fifteen : (v : Words) → length v ≡ 16
    → get_or v 0 0 ∷ get_or v 1 0 ∷ get_or v 2 0 ∷ get_or v 3 0 ∷ get_or v 4 0 ∷ get_or v 5 0 ∷ get_or v 6 0 ∷ get_or v 7 0 ∷ get_or v 8 0 ∷ get_or v 9 0 ∷ get_or v 10 0 ∷ get_or v
    11 0 ∷ get_or v 12 0 ∷ get_or v 13 0 ∷ get_or v 14 0 ∷ [] ≡ take 15 v
first_fifteen v l = sym (ap (take 15) (drop-cons v 0 0 (omega arith)
    ∙ ap (λ z. get_or v 0 0 ∷ z) (drop-cons v 1 0 (omega arith)
    ∙ ap (λ z. get_or v 1 0 ∷ z) (drop-cons v 2 0 (omega arith)
    ∙ ap (λ z. get_or v 2 0 ∷ z) (drop-cons v 3 0 (omega arith)
    ∙ ap (λ z. get_or v 3 0 ∷ z) (drop-cons v 4 0 (omega arith)
    ∙ ap (λ z. get_or v 4 0 ∷ z) (drop-cons v 5 0 (omega arith)
    ∙ ap (λ z. get_or v 5 0 ∷ z) (drop-cons v 6 0 (omega arith)
    ∙ ap (λ z. get_or v 6 0 ∷ z) (drop-cons v 7 0 (omega arith)
    ∙ ap (λ z. get_or v 7 0 ∷ z) (drop-cons v 8 0 (omega arith)
    ∙ ap (λ z. get_or v 8 0 ∷ z) (drop-cons v 9 0 (omega arith)
    ∙ ap (λ z. get_or v 9 0 ∷ z) (drop-cons v 10 0 (omega arith)
    ∙ ap (λ z. get_or v 10 0 ∷ z) (drop-cons v 11 0 (omega arith)
    ∙ ap (λ z. get_or v 11 0 ∷ z) (drop-cons v 12 0 (omega arith)
    ∙ ap (λ z. get_or v 12 0 ∷ z) (drop-cons v 13 0 (omega arith) ∙ ap (λ z. get_or v 13 0 ∷ z) (drop-cons v 14 0 (omega arith)))))))))))))))))

-- "exponents past n are zero"
term_padded : (n : ℕ) (w : Words) → n ≤ 8 → length w ≡ 2 + n → term_of n (0 ∷ w) ≡ term_in (0 ∷ take 15 (padded 16 w))
term_padded n w h l = λ i. (number 0 (omega arith) i, (exponents i, number 1 (omega arith) i))
  where
    number : (k : ℕ) → k < 15 → get_or w k 0 ≡ get_or (take 15 (padded 16 w)) k 0
    number k b = sym (get_or-take 15 (padded 16 w) k 0 b ∙ getD_padded w k)

    front : take 15 (padded 16 w) ≡ w ++ replicate (13 - n) 0
    front =
        let e : 15 ≡ length w + (13 - n) = omega (arith, l) in
        ap (λ k. take k (padded 16 w)) e ∙ take-append-add w (replicate (16 - length w) 0) (13 - n)
        ∙ ap (λ z. w ++ z) (take_zeros (13 - n) (16 - length w) (omega (arith, l)))

    exponents : drop 2 w ++ replicate (8 - n) 0 ≡ take 8 (drop 2 (take 15 (padded 16 w)))
    exponents =
        let e : 8 ≡ length (drop 2 w) + (8 - n) = omega (arith, length-drop 2 w, l) in
        sym (ap (λ z. take 8 (drop 2 z)) front ∙ ap (take 8) (drop-append-le 2 w (replicate (13 - n) 0) (omega (arith, l)))
        ∙ ap (λ k. take k (drop 2 w ++ replicate (13 - n) 0)) e ∙ take-append-add (drop 2 w) (replicate (13 - n) 0) (8 - n)
        ∙ ap (λ z. drop 2 w ++ z) (take_zeros (8 - n) (13 - n) (omega arith)))

-- ## The tests

both_true : (b : Bool) → (b and true) ≡ b
both_true true = refl
both_true false = refl

none_true : (a b : Bool) → (a and b and false) ≡ false
none_true true true = refl
none_true true false = refl
none_true false b = refl

module _ (q : Parameters) (count : ℕ) (before w : Words) where
  abbrev range : Bool
  range = term_in_range? document_01 q (term_in w)

  pub fits_full : most_terms ≤ count → fits? q count before w ≡ false
  fits_full h =
      ap (λ t. range and follows? q.code count before w and t) (le-ltb count most_terms h) ∙ none_true range (follows? q.code count before w)

  pub fits_out : term_in_range? document_01 q (term_in w) ≡ false → fits? q count before w ≡ false
  fits_out e = ap (λ t. t and follows? q.code count before w and ltb count most_terms) e

  pub fits_first : term_in_range? document_01 q (term_in w) ≡ true → count ≡ 0 → fits? q count before w ≡ true
  fits_first e z = (λ i. e i and follows? q.code (z i) before w and ltb (z i) most_terms)

  pub fits_next : term_in_range? document_01 q (term_in w) ≡ true → (count ≡ 0 → ⊥) → count < most_terms
      → fits? q count before w ≡ above? q.code before w
  fits_next e n h = (λ i. e i and follows? q.code count before w and lt-ltb count most_terms h i)
      ∙ both_true (follows? q.code count before w) ∙ go count n
    where
      go : (k : ℕ) → (k ≡ 0 → ⊥) → follows? q.code k before w ≡ above? q.code before w
      go zero n = absurd (n refl)
      go (suc k) n = refl

-- ## What a line that is taken has passed

fits_in_range : (q : Parameters) (t : Term) → term_in_range? document_01 q t ≡ true → definition.fits? most_exponent t.1.0 ≡ true
fits_in_range q t e =
    true_is (definition.fits? most_exponent t.1.0) (and_right (between 1 t.1.1 q.s) (definition.fits? most_exponent t.1.0)
    (and_right (between 1 t.0 (q.p - 1)) (between 1 t.1.1 q.s and definition.fits? most_exponent t.1.0) (is_true e)))

abbrev pub Passed : ℕ → Bytes → Words × Bytes → Type 0
Passed count bytes line = (definition.fits? most_exponent (term_in line.0).1.0 ≡ true) × (count < most_terms) × (line.1 ≡ behind bytes)

module _ (q : Parameters) (count : ℕ) (before : Words) (bytes : Bytes) where
  abbrev paired : Option Words → Option (Words × Bytes)
  paired o = o then λ v. some (v, behind bytes)

  kept_passed : (w : Words) → IfSome (Passed count bytes) (kept (fits? q count before w) (some (w, behind bytes)))
  kept_passed w = go (term_in_range? document_01 q (term_in w)) refl (follows? q.code count before w) (ltb count most_terms) refl
    where
      go : (a : Bool) → term_in_range? document_01 q (term_in w) ≡ a → (b c : Bool) → ltb count most_terms ≡ c
          → IfSome (Passed count bytes) (kept (a and b and c) (some (w, behind bytes)))
      go false e b c k = tt
      go true e false c k = tt
      go true e true false k = tt
      go true e true true k = (fits_in_range q (term_in w) e, ltb-true count most_terms k, refl)

  pub v_passed : IfSome (Passed count bytes) (v_first q count before bytes)
  v_passed = go (shaped_of 65535 letter_V (2 + q.n) (lines bytes))
    where
      go : (o : Option Words) → IfSome (Passed count bytes) (tested q count before (in_sixteen (paired o)))
      go none = tt
      go (some v) = kept_passed (0 ∷ take 15 (padded 16 v))

-- ## The lines one by one

-- what the code knows of the terms so far
pub record Held (v : Vector) (count : ℕ) (before : Words) : Type 0 where
  pub terms : length v ≡ count
  pub last_one : (count ≡ 0 → ⊥) → last v ≡ some (term_in before)

last_of : {A : Type 0} (l : List A) (a : A) → last (l ++ a ∷ []) ≡ some a
last_of [] a = refl
last_of {A} (b ∷ l) a = ap or_first (last_of l a)
  where
    or_first : Option A → Option A
    or_first o = elim o [ none ↦ some b | some c ↦ some c ]

pub held_more : (v : Vector) (count : ℕ) (before w : Words) → Held v count before → Held (v ++ term_in w ∷ []) (count + 1) w
held_more v count before w h = record {
  terms = omega (arith, length-append v (term_in w ∷ []), h.terms);
  last_one = λ n. last_of v (term_in w);
}

module _ (q : Parameters) (few : q.n ≤ 8) (place : ℕ) (v : Vector) (count : ℕ) (before : Words) (held : Held v count before) where
  below_is : (w : Words) → below? q.code (last v) (term_in w) ≡ follows? q.code count before w
  below_is w = go count refl v held.terms
    where
      first : (u : Vector) → length u ≡ 0 → below? q.code (last u) (term_in w) ≡ true
      first [] e = refl
      first (t ∷ u) e = absurd (omega arith)

      go : (k : ℕ) → count ≡ k → (u : Vector) → length v ≡ count → below? q.code (last v) (term_in w) ≡ follows? q.code k before w
      go zero e u l = first v (l ∙ e)
      go (suc k) e u l = ap (λ o. below? q.code o (term_in w)) (held.last_one (λ z. omega arith))

  -- how the definitions go on behind a line
  abbrev pub goes_on : Option (Words × Bytes) → Result Vector
  goes_on none = refused 23 place []
  goes_on (some line) = v_lines document_01 q (place + 1) (v ++ term_in line.0 ∷ []) (lines line.1)

  module _ (rest : Bytes) where
    abbrev given : Bool → Term → Result Vector
    given b t = (unless_refused b 23 place >>= λ u. done (v ++ t ∷ [])) >>= λ w. v_lines document_01 q (suc place) w (lines rest)

    taken : (w : Words) (b : Bool) → given b (term_in w) ≡ goes_on (kept b (some (w, rest)))
    taken w false = refl
    taken w true = let e : suc place ≡ place + 1 = omega arith in ap (λ p. v_lines document_01 q p (v ++ term_in w ∷ []) (lines rest)) e

    one_line : (o : Option Words) → IfSome (Counts (2 + q.n)) o
        → (v_line document_01 q place v o >>= λ w. v_lines document_01 q (suc place) w (lines rest))
        ≡ goes_on (tested q count before (in_sixteen (o then λ w. some (w, rest))))
    one_line none l = refl
    one_line (some u) l =
        (λ i. given (term_in_range? document_01 q (term i) and below? q.code (last v) (term i) and ltb (held.terms i) most_terms) (term i))
        ∙ ap (λ b. given (term_in_range? document_01 q (term_in w) and b and ltb count most_terms) (term_in w)) (below_is w)
        ∙ taken w (fits? q count before w)
      where
        w : Words
        w = 0 ∷ take 15 (padded 16 u)

        term : term_of q.n (0 ∷ u) ≡ term_in (0 ∷ take 15 (padded 16 u))
        term = term_padded q.n u few l

  v_step : (b : ℕ) (bytes : Bytes) → v_lines document_01 q place v (lines (b ∷ bytes)) ≡ goes_on (v_first q count before (b ∷ bytes))
  v_step b bytes = parted (first_of b bytes)
    where
      parted : (line : Line) × (lines (b ∷ bytes) ≡ line ∷ lines (behind (b ∷ bytes)))
          → v_lines document_01 q place v (lines (b ∷ bytes)) ≡ goes_on (v_first q count before (b ∷ bytes))
      parted (line, e) =
          ap (v_lines document_01 q place v) e
          ∙ one_line (behind (b ∷ bytes)) (shaped 65535 letter_V (2 + q.n) line) (shaped_length 65535 letter_V (2 + q.n) line)
          ∙ sym (ap (λ ls. goes_on (tested q count before (in_sixteen (shaped_of 65535 letter_V (2 + q.n) ls then λ u. some (u, behind (b ∷ bytes)))))) e)

  -- at a position
  pub v_step_at : (s : Bytes) (at : ℕ) → at < length s
      → v_lines document_01 q place v (lines (drop at s)) ≡ goes_on (v_first q count before (drop at s))
  v_step_at s at h = subst (λ z. v_lines document_01 q place v (lines z) ≡ goes_on (v_first q count before z)) (sym (here true s at h))
      (v_step (get_or s at 0) (drop (at + 1) s))
