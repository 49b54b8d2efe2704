-- The definitions' sequence of lines behind the head, one line at a time, as the code goes.
use mathlib.Core.Path.{◌≡◌, refl, sym, ap, ◌∙◌, subst}
use mathlib.Core.Bool.{Bool, true, false, not, ◌||◌}
use mathlib.Core.Option.{Option, none, some}
use mathlib.Core.List.{[], ◌∷◌, ◌++◌}
use Prim.Native.Nat.{ℕ, zero, suc, ◌+◌, ◌-◌, ◌<◌, ◌≤◌}
use native.Mathlib.Omega.{arith}
use native.Mathlib.Decide.{ℕ_discrete}
use lib.Dec.{leb, ltb, eqb, eqb-suc-zero}
use lib.ListN.{length, get_or, take, drop, replicate, length-drop, length-replicate, replicate-append-replicate}
use lib.Seq.{drop-append-le, take-append-add}
use borrow.Author.Tests.{le-leb, eq-eqb, ne_eqb}
use Rattle.definitions.specs.Limits.{document_01}
use Rattle.definitions.specs.Lists.{◌and◌, ◌then◌, last, empty?, between}
use Rattle.definitions.specs.Monomial.{Term, Level, fits?}
use Rattle.definitions.specs.Result.{Result, done, refused, unless_refused, ◌>>=◌}
use Rattle.definitions.specs.Problem.{Bytes, Line, Parameters, lines, shaped, parameters_of, term_of, term_in_range?, below?, last_term, with_term}
use Rattle.definitions.specs.Problem.{t_line, e_line, by_shape, body}
use Rattle.definitions.specs.Layout.{Words, padded}
use Rattle.laws.proofs.Tests.{true_is, is_true, and_right}
use Rattle.laws.proofs.Results.{IfDone, IfSome}
use Rattle.definitions.specs.Places.{most_exponent, most_elements, most_rows}
use Rattle.reader.specs.fields.Scanning.{behind, shaped_of, shaped_first, in_sixteen}
use Rattle.reader.proofs.fields.Lines.{first_of, lines_none, letter_differs, shaped_count}
use Rattle.reader.specs.lines.Tests.{term_in, unless, begins?, follows?, above?, descends?, t_number}
use Rattle.reader.specs.lines.Steps.{Said, judged, with_shape, t_judged, t_first, e_judged, e_first, by_letter, line_first}
use Rattle.reader.proofs.problem.OneTermMore.{follows_says}

-- ## Fields with zeros behind them

getD_zeros : (k i : ℕ) → get_or (replicate {A = ℕ} k 0) i 0 ≡ 0
getD_zeros zero i = refl
getD_zeros (suc k) zero = refl
getD_zeros (suc k) (suc i) = getD_zeros k i

getD_behind : (v : Words) (k i : ℕ) → get_or (v ++ replicate k 0) i 0 ≡ get_or v i 0
getD_behind [] k i = getD_zeros k i
getD_behind (x ∷ v) k zero = refl
getD_behind (x ∷ v) k (suc i) = getD_behind v k i

pub getD_padded : (v : Words) (i : ℕ) → get_or (padded 16 v) i 0 ≡ get_or v i 0
getD_padded v i = getD_behind v (16 - length v) i

pub take_zeros : (k m : ℕ) → k ≤ m → take k (replicate {A = ℕ} m 0) ≡ replicate k 0
take_zeros zero m h = refl
take_zeros (suc k) zero h = absurd (omega arith)
take_zeros (suc k) (suc m) h = ap (λ l. 0 ∷ l) (take_zeros k m (omega arith))

-- "exponents past n are zero"
term_padded : (n : ℕ) (v : Words) → n ≤ 8 → length v ≡ 3 + n → term_of n v ≡ term_in (padded 16 v)
term_padded n v h l = λ i. (sym (getD_padded v 1) i, (exponents i, sym (getD_padded v 2) i))
  where
    exponents : drop 3 v ++ replicate (8 - n) 0 ≡ take 8 (drop 3 (padded 16 v))
    exponents =
        let e : 8 ≡ length (drop 3 v) + (8 - n) = omega (arith, length-drop 3 v) in
        sym (ap (take 8) (drop-append-le 3 v (replicate (16 - length v) 0) (omega arith)) ∙ ap (λ k. take k (drop 3 v ++ replicate (16 - length v) 0)) e
        ∙ take-append-add (drop 3 v) (replicate (16 - length v) 0) (8 - n) ∙ ap (λ z. drop 3 v ++ z) (take_zeros (8 - n) (16 - length v) (omega arith)))

pub parameters_padded : (v : Words) → parameters_of (padded 16 v) ≡ parameters_of v
parameters_padded v = λ i. record {
  p = getD_padded v 0 i;
  n = getD_padded v 1 i;
  code = getD_padded v 2 i;
  s = getD_padded v 3 i;
  degrees = replicate (getD_padded v 3 i) 0;
}

fits_zeros : (limit k : ℕ) → fits? limit (replicate k 0) ≡ true
fits_zeros limit zero = refl
fits_zeros limit (suc k) = λ i. le-leb 0 limit (omega arith) i and fits_zeros limit k i

-- zeros fit
pub fits_padded : (limit n : ℕ) (v : Words) → fits? limit (padded n v) ≡ fits? limit v
fits_padded limit n v = go (n - length v) v
  where
    go : (k : ℕ) (v : Words) → fits? limit (v ++ replicate k 0) ≡ fits? limit v
    go k [] = fits_zeros limit k
    go k (x ∷ v) = ap (λ t. leb x limit and t) (go k v)

-- zeros behind zeros
pub zeros_padded : (n k : ℕ) → k ≤ n → padded n (replicate k 0) ≡ replicate n 0
zeros_padded n k h =
    let l : k + (n - length (replicate {A = ℕ} k 0)) ≡ n = omega (arith, length-replicate {A = ℕ} k 0) in
    replicate-append-replicate k (n - length (replicate {A = ℕ} k 0)) 0 ∙ ap (λ m. replicate m 0) l

-- ## Tests in a row, and the number of the first that fails

guarded : {A : Type 0} → Bool → Bool → Bool → Bool → ℕ → A → Result A
guarded a b c d place x =
    unless_refused a 8 place >>= λ u₁. unless_refused b 5 place >>= λ u₂. unless_refused c 4 place >>= λ u₃. unless_refused d 6 place >>= λ u₄. done x

guarded_number : {A : Type 0} (a b c d : Bool) (place : ℕ) (x : A) → guarded a b c d place x
    ≡ judged (unless a 8 (unless b 5 (unless c 4 (unless d 6 0)))) place x
unfolding guarded
guarded_number false b c d place x = refl
guarded_number true false c d place x = refl
guarded_number true true false d place x = refl
guarded_number true true true false place x = refl
guarded_number true true true true place x = refl

-- the last test counts only where the second holds
guarded_same : {A : Type 0} (a b c d d' : Bool) (place : ℕ) (x : A) → (b ≡ true → d ≡ d') → guarded a b c d place x ≡ guarded a b c d' place x
unfolding guarded
guarded_same false b c d d' place x e = refl
guarded_same true false c d d' place x e = refl
guarded_same true true c d d' place x e = ap (λ t. guarded true true c t place x) (e refl)

-- ## A T line

-- what the code knows of the elements so far
pub record Held (f : Level) (r : ℕ) (before : Words) : Type 0 where
  pub elements : length f ≡ r
  pub last_one : (r ≡ 0 → ⊥) → last_term (last f) ≡ some (term_in before)

empty_is : (f : Level) → empty? f ≡ eqb (length f) 0
empty_is [] = refl
empty_is (v ∷ f) = sym (eqb-suc-zero (length f))

module _ (q : Parameters) (few : q.n ≤ 8) (count : ℕ) (f : Level) (r : ℕ) (before : Words) (held : Held f r before) (place : ℕ) where
  -- the level with the term of a line
  abbrev more : Words → Level
  more w = with_term (begins? r (get_or w 0 0)) f (term_in w)

  descends_same : (w : Words) → follows? r (get_or w 0 0) ≡ true → (begins? r (get_or w 0 0) || below? q.code (last_term (last f)) (term_in w))
      ≡ descends? q.code r before w
  descends_same w s = go (begins? r (get_or w 0 0)) (follows_says r (get_or w 0 0) (begins? r (get_or w 0 0)) refl s)
    where
      go : (b : Bool) → (b ≡ true → get_or w 0 0 ≡ suc r) × (b ≡ false → (get_or w 0 0 ≡ r) × (r ≡ 0 → ⊥)) × (get_or w 0 0 ≤ most_elements)
          → (b || below? q.code (last_term (last f)) (term_in w)) ≡ (b || above? q.code before w)
      go true h = refl
      go false h = ap (λ o. below? q.code o (term_in w)) (held.last_one (h.1 refl).1)

  t_line_judged : (v : Words) → length v ≡ 3 + q.n
      → t_line document_01 q place count f v ≡ judged (t_number q count r before (padded 16 v)) place (more (padded 16 v))
  unfolding guarded
  t_line_judged v l =
      (λ i. guarded (ltb count most_rows) ((eqb (first i) (suc (held.elements i)) || (eqb (first i) (held.elements i) and not (none_yet i)))
      and leb (first i) most_elements)
      (term_in_range? document_01 q (term i)) (eqb (first i) (suc (held.elements i)) || below? q.code (last_term (last f)) (term i)) place
      (with_term (eqb (first i) (suc (held.elements i))) f (term i)))
      ∙ guarded_same (ltb count most_rows) (follows? r (get_or w 0 0)) (term_in_range? document_01 q (term_in w))
      (begins? r (get_or w 0 0) || below? q.code (last_term (last f)) (term_in w)) (descends? q.code r before w) place (more w)
      (descends_same w)
      ∙ guarded_number (ltb count most_rows) (follows? r (get_or w 0 0)) (term_in_range? document_01 q (term_in w)) (descends? q.code r before w) place
      (more w)
    where
      w : Words
      w = padded 16 v

      first : get_or v 0 0 ≡ get_or (padded 16 v) 0 0
      first = sym (getD_padded v 0)

      term : term_of q.n v ≡ term_in (padded 16 v)
      term = term_padded q.n v few l

      none_yet : empty? f ≡ eqb r 0
      none_yet = empty_is f ∙ ap (λ n. eqb n 0) held.elements

  -- ## The lines behind the head

  -- how the definitions go on behind a line
  abbrev pub goes_on : Said → Result Level
  goes_on none = done f
  goes_on (some line) = body document_01 q (place + 1) (suc count) (with_term (begins? r (get_or line.0 0 0)) f (term_in line.0)) (lines line.1)

  abbrev paired : Bytes → Option Words → Option (Words × Bytes)
  paired rest o = o then λ v. some (v, rest)

  unpaired : (rest : Bytes) (o : Option Words) → paired rest o ≡ none → o ≡ none
  unpaired rest none e = refl
  unpaired rest (some v) e = let z : ◌≡◌ {A = ℕ} 0 1 = cc in absurd (omega arith)

  -- a T line that has the shape
  term_step : (v : Words) (rest : Bytes) → length v ≡ 3 + q.n
      → (t_line document_01 q place count f v >>= λ grown. body document_01 q (suc place) (suc count) grown (lines rest))
      ≡ (t_judged q place count r before (padded 16 v, rest) >>= goes_on)
  term_step v rest l = ap (λ x. x >>= λ grown. body document_01 q (suc place) (suc count) grown (lines rest)) (t_line_judged v l)
      ∙ go (t_number q count r before (padded 16 v))
    where
      next : suc place ≡ place + 1
      next = omega arith

      go : (number : ℕ) → (judged number place (more (padded 16 v))
          >>= λ grown. body document_01 q (suc place) (suc count) grown (lines rest))
          ≡ (judged {A = Said} number place (some (padded 16 v, rest)) >>= goes_on)
      go zero = ap (λ place. body document_01 q place (suc count) (more (padded 16 v)) (lines rest)) next
      go (suc number) = refl

  -- an E line that has the shape
  end_step : (v : Words) (rest : Bytes) → e_line place count (lines rest) f (some v) ≡ (e_judged place count (padded 16 v, rest) >>= goes_on)
  end_step v rest =
      (λ i. ends (not (eqb (sym (getD_padded v 0) i) 0) and eqb (sym (getD_padded v 0) i) count) (lines_none rest i) (next i))
      ∙ go (not (eqb (get_or (padded 16 v) 0 0) 0) and eqb (get_or (padded 16 v) 0 0) count) (empty? rest)
    where
      next : suc place ≡ place + 1
      next = omega arith

      ends : Bool → Bool → ℕ → Result Level
      ends t u after = unless_refused t 7 place >>= λ u₁. unless_refused u 1 after >>= λ u₂. done f

      said : Bool → Bool → Result Said
      said t u = unless_refused t 7 place >>= λ u₁. unless_refused u 1 (place + 1) >>= λ u₂. done none

      go : (t u : Bool) → ends t u (place + 1) ≡ (said t u >>= goes_on)
      go false u = refl
      go true false = refl
      go true true = refl

  -- the line in front decides how the lines go on
  module _ (b : ℕ) (bytes : Bytes) (line : Line) (e : lines (b ∷ bytes) ≡ line ∷ lines (behind (b ∷ bytes))) where
    first : (letter n : ℕ) → shaped_first 65535 letter n (b ∷ bytes) ≡ paired (behind (b ∷ bytes)) (shaped 65535 letter n line)
    first letter n = ap (λ ls. paired (behind (b ∷ bytes)) (shaped_of 65535 letter n ls)) e

    other : (letter n : ℕ) → 57 < letter → (b ≡ letter → ⊥) → shaped 65535 letter n line ≡ none
    other letter n h d = unpaired (behind (b ∷ bytes)) (shaped 65535 letter n line) (sym (first letter n) ∙ letter_differs 65535 letter n h b bytes d)

    abbrev stepped : Option Words → Result Level
    stepped o = by_shape o document_01 q place count f line (lines (behind (b ∷ bytes)))
        (λ grown. body document_01 q (suc place) (suc count) grown (lines (behind (b ∷ bytes))))

    abbrev decided : Bool → Bool → Result Level
    decided t u = by_letter t u (t_first q place count r before (b ∷ bytes)) (e_first place count (b ∷ bytes)) (refused 1 place []) >>= goes_on

    refused_here : shaped 65535 69 1 line ≡ none → stepped none ≡ refused 1 place []
    refused_here d = ap (e_line place count (lines (behind (b ∷ bytes))) f) d

    on_T : b ≡ 84 → stepped (shaped 65535 84 (3 + q.n) line) ≡ (t_first q place count r before (b ∷ bytes) >>= goes_on)
    on_T t =
        go (shaped 65535 84 (3 + q.n) line) (subst (IfSome (λ (p : Words × Bytes). length p.0 ≡ 3 + q.n)) (first 84 (3 + q.n))
        (shaped_count 65535 84 (3 + q.n) (omega arith) (b ∷ bytes)))
        ∙ ap (λ o. with_shape (in_sixteen o) place (t_judged q place count r before) >>= goes_on) (sym (first 84 (3 + q.n)))
      where
        go : (o : Option Words) → IfSome (λ (p : Words × Bytes). length p.0 ≡ 3 + q.n) (paired (behind (b ∷ bytes)) o)
            → stepped o ≡ (with_shape (in_sixteen (paired (behind (b ∷ bytes)) o)) place (t_judged q place count r before) >>= goes_on)
        go none l = refused_here (other 69 1 (omega arith) (λ d. omega arith))
        go (some v) l = term_step v (behind (b ∷ bytes)) l

    on_E : (b ≡ 84 → ⊥) → stepped (shaped 65535 84 (3 + q.n) line) ≡ (e_first place count (b ∷ bytes) >>= goes_on)
    on_E t =
        ap stepped (other 84 (3 + q.n) (omega arith) t) ∙ go (shaped 65535 69 1 line)
        ∙ ap (λ o. with_shape (in_sixteen o) place (e_judged place count) >>= goes_on) (sym (first 69 1))
      where
        go : (o : Option Words) → e_line place count (lines (behind (b ∷ bytes))) f o
            ≡ (with_shape (in_sixteen (paired (behind (b ∷ bytes)) o)) place (e_judged place count) >>= goes_on)
        go none = refl
        go (some v) = end_step v (behind (b ∷ bytes))

    on_none : (b ≡ 84 → ⊥) → (b ≡ 69 → ⊥) → stepped (shaped 65535 84 (3 + q.n) line) ≡ refused 1 place []
    on_none t d = ap stepped (other 84 (3 + q.n) (omega arith) t) ∙ refused_here (other 69 1 (omega arith) d)

    by_byte : Dec (b ≡ 84) → Dec (b ≡ 69) → stepped (shaped 65535 84 (3 + q.n) line) ≡ (line_first q place count r before (b ∷ bytes) >>= goes_on)
    by_byte (yes t) d = on_T t ∙ sym (λ i. decided (eq-eqb b 84 t i) (eqb b 69))
    by_byte (no t) (yes d) = on_E t ∙ sym (λ i. decided (ne_eqb b 84 t i) (eq-eqb b 69 d i))
    by_byte (no t) (no d) = on_none t d ∙ sym (λ i. decided (ne_eqb b 84 t i) (ne_eqb b 69 d i))

  pub body_step : (bytes : Bytes) → body document_01 q place count f (lines bytes) ≡ (line_first q place count r before bytes >>= goes_on)
  body_step [] = refl
  body_step (b ∷ bytes) = parted (first_of b bytes)
    where
      parted : (line : Line) × (lines (b ∷ bytes) ≡ line ∷ lines (behind (b ∷ bytes))) → body document_01 q place count f (lines (b ∷ bytes))
          ≡ (line_first q place count r before (b ∷ bytes) >>= goes_on)
      parted (line, e) = ap (body document_01 q place count f) e ∙ by_byte b bytes line e (ℕ_discrete b 84) (ℕ_discrete b 69)

-- ## What a term that is taken has passed

abbrev pub Passed : ℕ → ℕ → Said → Type 0
Passed count r none = Unit {0}
Passed count r (some line) = (ltb count most_rows ≡ true) × (follows? r (get_or line.0 0 0) ≡ true)
    × (fits? most_exponent (term_in line.0).1.0 ≡ true)

fits_in_range : (q : Parameters) (t : Term) → term_in_range? document_01 q t ≡ true → fits? most_exponent t.1.0 ≡ true
fits_in_range q t e =
    true_is (fits? most_exponent t.1.0) (and_right (between 1 t.1.1 q.s) (fits? most_exponent t.1.0)
    (and_right (between 1 t.0 (q.p - 1)) (between 1 t.1.1 q.s and fits? most_exponent t.1.0) (is_true e)))

module _ (q : Parameters) (place count r : ℕ) (before : Words) where
  judged_passed : (line : Words × Bytes) → IfDone (Passed count r) (t_judged q place count r before line)
  judged_passed line =
      go (ltb count most_rows) refl (follows? r (get_or line.0 0 0)) refl (term_in_range? document_01 q (term_in line.0)) refl
      (unless (descends? q.code r before line.0) 6 0)
    where
      go : (a : Bool) → ltb count most_rows ≡ a → (b : Bool) → follows? r (get_or line.0 0 0) ≡ b → (c : Bool)
          → term_in_range? document_01 q (term_in line.0) ≡ c → (n : ℕ)
          → IfDone (Passed count r) (judged (unless a 8 (unless b 5 (unless c 4 n))) place (some line))
      go false e b k c t n = tt
      go true e false k c t n = tt
      go true e true k false t n = tt
      go true e true k true t zero = (e, k, fits_in_range q (term_in line.0) t)
      go true e true k true t (suc n) = tt

  shape_passed : (o : Option (Words × Bytes)) → IfDone (Passed count r) (with_shape o place (t_judged q place count r before))
  shape_passed none = tt
  shape_passed (some line) = judged_passed line

  end_passed : (o : Option (Words × Bytes)) → IfDone (Passed count r) (with_shape o place (e_judged place count))
  end_passed none = tt
  end_passed (some line) = go (not (eqb (get_or line.0 0 0) 0) and eqb (get_or line.0 0 0) count) (empty? line.1)
    where
      go : (t u : Bool) → IfDone (Passed count r) (unless_refused t 7 place >>= λ u₁. unless_refused u 1 (place + 1) >>= λ u₂. done none)
      go false u = tt
      go true false = tt
      go true true = tt

  pub line_passed : (bytes : Bytes) → IfDone (Passed count r) (line_first q place count r before bytes)
  line_passed [] = tt
  line_passed (b ∷ bytes) = go (eqb b 84) (eqb b 69)
    where
      go : (t e : Bool) → IfDone (Passed count r) (by_letter t e (t_first q place count r before (b ∷ bytes)) (e_first place count (b ∷ bytes))
          (refused 1 place []))
      go true e = shape_passed (in_sixteen (shaped_first 65535 84 (3 + q.n) (b ∷ bytes)))
      go false true = end_passed (in_sixteen (shaped_first 65535 69 1 (b ∷ bytes)))
      go false false = tt
