-- Where there is a reason, there is the refusal.
use mathlib.Core.Path.{◌≡◌, refl, sym, ap, ◌∙◌, subst}
use mathlib.Core.Logic.{◌⊎◌, inl, inr}
use mathlib.Core.Bool.{Bool, true, false, not}
use mathlib.Core.Option.{Option, none, some}
use mathlib.Core.List.{List, [], ◌∷◌, ◌++◌, append-nil}
use Prim.Native.Nat.{ℕ, suc, ◌+◌, ◌*◌, ◌<◌, ◌≤◌}
use native.Mathlib.Omega.{arith}
use lib.Dec.{T, leb, ltb, eqb, le→leb, lt→ltb, ltb→lt, leb→le, eqb→eq, eqb_refl, not_T, T_not}
use lib.ListN.{length, get_or, replicate}
use Rattle.definitions.specs.Limits.{Limits}
use Rattle.definitions.specs.Lists.{◌and◌, empty?, last}
use Rattle.definitions.specs.Monomial.{Term, Level, fits?}
use Rattle.definitions.specs.Order.{compare_over}
use Rattle.definitions.specs.Result.{Result, done, refused, unless_refused, ◌>>=◌}
use Rattle.definitions.specs.Problem.{Bytes, Line, Parameters, comma, newline, lines, letter_R, letter_T, letter_E, shaped, prime_in_range?, in_ranges?}
use Rattle.definitions.specs.Problem.{letter_D, head_of, with_degrees, d_line, d_first, letter_G, with_weights, g_line, g_next}
use Rattle.definitions.specs.Places.{most_degree, most_weight}
use Rattle.definitions.specs.Problem.{term_of, next?, in_sequence?, term_in_range?, below?, last_term, descends?, with_term, t_line, e_line, by_shape, body}
use Rattle.definitions.specs.Problem.{problem}
use Rattle.definitions.specs.State.{terms_of}
use Rattle.definitions.specs.Sheet.{printed, term_fields}
use Rattle.laws.proofs.Tests.{and_left, and_right, and_both}
use Rattle.laws.proofs.Results.{IfSome}
use Rattle.definitions.specs.Written.{end_line}
use Rattle.files.specs.Files.{Given, elements_lines, first_line_of, given_lines, behind_degrees, first_term_line, WellFormedParameters, Wide}
use Rattle.files.specs.Reasons.{SoFar, Says, InSequence, InRange, Below, BadTerm, too_many, out_of_sequence, out_of_range, not_below, BadLater}
use Rattle.files.specs.Reasons.{absent, no_shape, bad_term, bad_count, HeadSoFar, Second}
use Rattle.files.specs.Reasons.{Reason, no_first, first_shape, first_prime, first_range, second_degree, head_weight, later_line, after_end}
use Rattle.files.proofs.Lines.{listed, lines_printed, shaped_listed, other_letter, Shape, shaped_only}
use Rattle.files.proofs.Forms.{greater_is, parameters_well, term_back}
use Rattle.files.proofs.Heads.{passed, read_on, read_behind, lines_read, lines_head, behind_r, problem_sized, NoD, NoG, terms_none}
use Rattle.files.proofs.Heads.{fits_says, plain, first_taken, degrees_read, degrees_taken, head_taken}
use Rattle.files.proofs.Taken.{elements_taken}
use Rattle.files.proofs.Why.{shape_says, or_says, same, sequence_says, sequence_tested, range_says, range_tested, prime_told, prime_shown}

guard_not : {B : Type 0} (b : Bool) (number place : ℕ) (f : Unit {0} → Result B) → ¬ (T b) → (unless_refused b number place >>= f)
    ≡ refused number place []
guard_not true number place f n = absurd (n tt)
guard_not false number place f n = refl

-- ## What a line says, it is read as

module _ (lim : Limits) where
  says_line : (letter count : ℕ) (line : Line) (v : List ℕ) → ¬ (letter ≡ newline) → Says lim letter count line v → line ≡ (letter ∷ listed v, true)
  says_line letter count line v l s =
      ap (λ (z : List Line). get_or z 0 line) (sym s.text ∙ ap lines (sym (append-nil (printed letter v))) ∙ lines_printed letter l v [])

  says_shaped : (letter count : ℕ) (line : Line) (v : List ℕ) → ¬ (letter ≡ newline) → ¬ (letter ≡ comma) → Says lim letter count line v
      → shaped lim.field letter count line ≡ some v
  says_shaped letter count line v l m s =
      ap (shaped lim.field letter count) (says_line letter count line v l s) ∙ shaped_listed lim.field letter count m v s.within s.counted

  shaped_none : (letter count : ℕ) (line : Line) → ¬ (letter ≡ newline) → ((v : List ℕ) → ¬ (Says lim letter count line v))
      → shaped lim.field letter count line ≡ none
  shaped_none letter count line l n = go (shaped lim.field letter count line) (shaped_only lim.field letter count line)
    where
      go : (o : Option (List ℕ)) → IfSome (Shape lim.field letter count line) o → o ≡ none
      go none s = refl
      go (some v) s = absurd (n v (shape_says lim letter count line v l s))

module _ (lim : Limits) (wide : Wide lim) (q : Parameters) (wq : WellFormedParameters lim q) where
  below_says : (f : Level) (i : ℕ) (t : Term) → T (descends? q.code f i t) → Below q.code f i t
  below_says f i t d = go (or_says (next? f i) (below? q.code (last_term (last f)) t) d)
    where
      go : T (next? f i) ⊎ T (below? q.code (last_term (last f)) t) → Below q.code f i t
      go (inl e) = inl (eqb→eq i (suc (length f)) e)
      go (inr b) = inr (λ u e. greater_is (compare_over q.code [] u.1 t.1) (subst (λ o. T (below? q.code o t)) e b))

  term_refused : (place : ℕ) (f : Level) (i : ℕ) (t : Term) (number : ℕ) → term_of q.n (i ∷ term_fields q.n t) ≡ t → BadTerm lim q f i t number
      → t_line lim q place (terms_of f) f (i ∷ term_fields q.n t) ≡ refused number place []
  term_refused place f i t number back b = go b
    where
      v : List ℕ
      v = i ∷ term_fields q.n t

      after_4 : Result Level
      after_4 = unless_refused (descends? q.code f i (term_of q.n v)) 6 place >>= λ u₄. done (with_term (next? f i) f (term_of q.n v))

      after_5 : Result Level
      after_5 = unless_refused (term_in_range? lim q (term_of q.n v)) 4 place >>= λ u₃. after_4

      after_8 : Result Level
      after_8 = unless_refused (in_sequence? lim f i) 5 place >>= λ u₂. after_5

      pass_8 : terms_of f < lim.t_lines → t_line lim q place (terms_of f) f v ≡ after_8
      pass_8 few = passed (ltb (terms_of f) lim.t_lines) 8 place (λ u₁. after_8) (lt→ltb (terms_of f) lim.t_lines few)

      pass_5 : InSequence lim f i → after_8 ≡ after_5
      pass_5 s = passed (in_sequence? lim f i) 5 place (λ u₂. after_5) (sequence_tested lim q f i s)

      pass_4 : InRange lim q t → after_5 ≡ after_4
      pass_4 r = passed (term_in_range? lim q (term_of q.n v)) 4 place (λ u₃. after_4)
          (subst (λ x. T (term_in_range? lim q x)) (sym back) (range_tested lim q t r))

      go : {number : ℕ} → BadTerm lim q f i t number → t_line lim q place (terms_of f) f v ≡ refused number place []
      go (too_many l) = guard_not (ltb (terms_of f) lim.t_lines) 8 place (λ u₁. after_8)
          (λ x. let y = ltb→lt (terms_of f) lim.t_lines x in omega (arith, l, y))
      go (out_of_sequence few n) = pass_8 few ∙ guard_not (in_sequence? lim f i) 5 place (λ u₂. after_5) (λ x. n (sequence_says lim q f i x))
      go (out_of_range few s n) =
          pass_8 few ∙ pass_5 s
          ∙ guard_not (term_in_range? lim q (term_of q.n v)) 4 place (λ u₃. after_4)
          (λ x. n (range_says lim q t (subst (λ y. T (term_in_range? lim q y)) back x)))
      go (not_below few s r n) =
          pass_8 few ∙ pass_5 s ∙ pass_4 r
          ∙ guard_not (descends? q.code f i (term_of q.n v)) 6 place (λ u₄. done (with_term (next? f i) f (term_of q.n v)))
          (λ x. n (below_says f i t (subst (λ y. T (descends? q.code f i y)) back x)))

  later_refused : (given : Given) (here : ℕ) (f : Level) {ls : List Line} {number : ℕ} → BadLater lim given q f ls number
      → body lim q here (terms_of f) f ls ≡ refused number here []
  later_refused given here f absent = refl
  later_refused given here f (no_shape {line} {later} nd ng nt ne) =
      ap (λ o. by_shape o lim q here (terms_of f) f line later (λ g. body lim q (suc here) (suc (terms_of f)) g later))
      (shaped_none lim letter_T (3 + q.n) line (λ e. omega (arith, e)) nt)
      ∙ ap (e_line here (terms_of f) later f) (shaped_none lim letter_E 1 line (λ e. omega (arith, e)) ne)
  later_refused given here f (bad_term {line} {later} {number} i t eight past says why) =
      ap (λ o. by_shape o lim q here (terms_of f) f line later (λ g. body lim q (suc here) (suc (terms_of f)) g later))
      (says_shaped lim letter_T (3 + q.n) line (i ∷ term_fields q.n t) (λ e. omega (arith, e)) (λ e. omega (arith, e)) says)
      ∙ ap (λ r. r >>= λ g. body lim q (suc here) (suc (terms_of f)) g later)
      (term_refused here f i t number (term_back lim wide q wq i t eight past) why)
  later_refused given here f (bad_count {line} {later} c says n) =
      ap (λ o. by_shape o lim q here (terms_of f) f line later (λ g. body lim q (suc here) (suc (terms_of f)) g later))
      (ap (shaped lim.field letter_T (3 + q.n)) (says_line lim letter_E 1 line (c ∷ []) (λ e. omega (arith, e)) says)
      ∙ other_letter lim.field letter_E letter_T (3 + q.n) (λ e. omega (arith, e)) (λ e. omega (arith, e)) (c ∷ []))
      ∙ ap (e_line here (terms_of f) later f) (says_shaped lim letter_E 1 line (c ∷ []) (λ e. omega (arith, e)) (λ e. omega (arith, e)) says)
      ∙ guard_not (not (eqb c 0) and eqb c (terms_of f)) 7 here (λ u₁. unless_refused (empty? later) 1 (suc here) >>= λ u₂. done f)
      (λ t. let z : ¬ (c ≡ 0) = λ z. T_not (eqb c 0) (and_left (not (eqb c 0)) (eqb c (terms_of f)) t) (same c 0 z) in
      n (omega (arith, z), eqb→eq c (terms_of f) (and_right (not (eqb c 0)) (eqb c (terms_of f)) t)))

  end_refused : (here : ℕ) (f : Level) (tail : Bytes) (line : Line) (later : List Line) → 1 ≤ terms_of f → terms_of f ≤ lim.t_lines → lines tail ≡ line
      ∷ later
      → body lim q here (terms_of f) f (lines (end_line f ++ tail)) ≡ refused 1 (suc here) []
  end_refused here f tail line later some-term short e =
      ap (body lim q here c f) (lines_printed letter_E (λ e. omega (arith, e)) (c ∷ []) tail)
      ∙ ap (λ o. by_shape o lim q here c f last_one (lines tail) (λ g. body lim q (suc here) (suc c) g (lines tail)))
      (other_letter lim.field letter_E letter_T (3 + q.n) (λ e. omega (arith, e)) (λ e. omega (arith, e)) (c ∷ []))
      ∙ ap (e_line here c (lines tail) f)
      (shaped_listed lim.field letter_E 1 (λ e. omega (arith, e)) (c ∷ []) (omega (arith, short, wide.t_lines_in_field), tt) refl)
      ∙ passed (not (eqb c 0) and eqb c c) 7 here (λ u₁. unless_refused (empty? (lines tail)) 1 (suc here) >>= λ u₂. done f)
      (and_both (not (eqb c 0)) (eqb c c) (not_T (eqb c 0) (λ t. let z = eqb→eq c 0 t in omega (arith, z, some-term))) (eqb_refl c))
      ∙ ap (λ l. unless_refused (empty? l) 1 (suc here) >>= λ u₂. done f) e
    where
      c : ℕ
      c = terms_of f

      last_one : Line
      last_one = (letter_E ∷ listed (c ∷ []), true)

  -- a bad line behind R is no D line, one behind R and D no G line
  later_no_d : (given : Given) (f : Level) {ls : List Line} {number : ℕ} → BadLater lim given q f ls number → Second given f → NoD lim q.s ls
  later_no_d given f absent z = tt
  later_no_d given f (no_shape {line} {later} nd ng nt ne) z = shaped_none lim letter_D q.s line (λ e. omega (arith, e)) (nd z)
  later_no_d given f (bad_term {line} {later} {number} i t eight past says why) z =
      ap (shaped lim.field letter_D q.s) (says_line lim letter_T (3 + q.n) line (i ∷ term_fields q.n t) (λ e. omega (arith, e)) says)
      ∙ other_letter lim.field letter_T letter_D q.s (λ e. omega (arith, e)) (λ e. omega (arith, e)) (i ∷ term_fields q.n t)
  later_no_d given f (bad_count {line} {later} c says n) z =
      ap (shaped lim.field letter_D q.s) (says_line lim letter_E 1 line (c ∷ []) (λ e. omega (arith, e)) says)
      ∙ other_letter lim.field letter_E letter_D q.s (λ e. omega (arith, e)) (λ e. omega (arith, e)) (c ∷ [])

  later_no_g : (given : Given) (f : Level) {ls : List Line} {number : ℕ} → BadLater lim given q f ls number → HeadSoFar given f → NoG lim q.n ls
  later_no_g given f absent z = tt
  later_no_g given f (no_shape {line} {later} nd ng nt ne) z = shaped_none lim letter_G (2 * q.n) line (λ e. omega (arith, e)) (ng z)
  later_no_g given f (bad_term {line} {later} {number} i t eight past says why) z =
      ap (shaped lim.field letter_G (2 * q.n)) (says_line lim letter_T (3 + q.n) line (i ∷ term_fields q.n t) (λ e. omega (arith, e)) says)
      ∙ other_letter lim.field letter_T letter_G (2 * q.n) (λ e. omega (arith, e)) (λ e. omega (arith, e)) (i ∷ term_fields q.n t)
  later_no_g given f (bad_count {line} {later} c says n) z =
      ap (shaped lim.field letter_G (2 * q.n)) (says_line lim letter_E 1 line (c ∷ []) (λ e. omega (arith, e)) says)
      ∙ other_letter lim.field letter_E letter_G (2 * q.n) (λ e. omega (arith, e)) (λ e. omega (arith, e)) (c ∷ [])

  -- after R, D and G where they are given, and the T lines of f
  after_lines : (given : Given) (f : Level) → SoFar lim given q f → (tail : Bytes) (number place : ℕ)
      → (Second given f → NoD lim q.s (lines tail)) → (HeadSoFar given f → NoG lim q.n (lines tail))
      → ((here : ℕ) → here ≡ terms_of f + first_term_line given → body lim q here (terms_of f) f (lines tail) ≡ refused number place [])
      → lines_read lim (lines (first_line_of q ++ (given_lines given q ++ (elements_lines q.n 1 f ++ tail)))) ≡ refused number place []
  after_lines given f so tail number place nd ng k =
      lines_head lim (lines (first_line_of q ++ (given_lines given q ++ (elements_lines q.n 1 f ++ tail))))
      ∙ ap (λ r. r >>= read_on lim) (head_taken lim wide given q wq so.degrees so.weights (elements_lines q.n 1 f ++ tail)
      (record {
        no_d = λ d g. terms_none lim letter_D q.s (λ x. omega (arith, x)) q f tail so.elements (λ z. nd (d, (g, z)));
        no_g = λ g. terms_none lim letter_G (2 * q.n) (λ x. omega (arith, x)) q f tail so.elements (λ z. ng (g, z));
      }))
      ∙ ap (λ r. r >>= λ g. done (q, g))
      (elements_taken lim wide q wq (refused number place []) (first_term_line given) f [] (first_term_line given) 0 (terms_of f) tail so.elements
      (omega (arith, so.few)) (omega arith) so.short (omega arith) k)

-- ## The file

lines_refused : (lim : Limits) → Wide lim → (bytes : Bytes) (number place : ℕ) → Reason lim bytes number place
    → lines_read lim (lines bytes) ≡ refused number place []
lines_refused lim wide bytes number place (no_first n p e) = ap (lines_read lim) e ∙ (λ i. refused (sym n i) (sym p i) [])
lines_refused lim wide bytes number place (first_shape n p line later e s) =
    ap (lines_read lim) e ∙ ap (λ o. behind_r lim later o >>= read_behind lim) (shaped_none lim letter_R 4 line (λ e. omega (arith, e)) s)
    ∙ (λ i. refused (sym n i) (sym p i) [])
lines_refused lim wide bytes number place (first_prime n p line later e x₁ x₂ x₃ x₄ s h) =
    let q : Parameters = record { p = x₁; n = x₂; code = x₃; s = x₄; degrees = replicate x₄ 0 } in
    ap (lines_read lim) e ∙ ap (λ o. behind_r lim later o >>= read_behind lim)
    (says_shaped lim letter_R 4 line (x₁ ∷ x₂ ∷ x₃ ∷ x₄ ∷ []) (λ e. omega (arith, e)) (λ e. omega (arith, e)) s)
    ∙ ap (λ r. (r >>= λ q'. d_first lim (head_of q' later) later) >>= read_behind lim)
    (guard_not (prime_in_range? lim x₁) 2 1 (λ u. unless_refused (in_ranges? lim q) 3 1 >>= λ u'. done q) (λ t. h (prime_told lim wide bytes x₁ t)))
    ∙ (λ i. refused (sym n i) (sym p i) [])
lines_refused lim wide bytes number place (first_range n p line later e x₁ x₂ x₃ x₄ s h w) =
    let q : Parameters = record { p = x₁; n = x₂; code = x₃; s = x₄; degrees = replicate x₄ 0 } in
    ap (lines_read lim) e ∙ ap (λ o. behind_r lim later o >>= read_behind lim)
    (says_shaped lim letter_R 4 line (x₁ ∷ x₂ ∷ x₃ ∷ x₄ ∷ []) (λ e. omega (arith, e)) (λ e. omega (arith, e)) s)
    ∙ ap (λ r. (r >>= λ q'. d_first lim (head_of q' later) later) >>= read_behind lim)
    (passed (prime_in_range? lim x₁) 2 1 (λ u. unless_refused (in_ranges? lim q) 3 1 >>= λ u'. done q) (prime_shown lim wide bytes x₁ h)
    ∙ guard_not (in_ranges? lim q) 3 1 (λ u'. done q) (λ t. w (parameters_well lim q (prime_shown lim wide bytes x₁ h) t)))
    ∙ (λ i. refused (sym n i) (sym p i) [])
lines_refused lim wide bytes number place (second_degree n p q w tail t line later e v says h) =
    let b = fits? most_degree v in
    ap (λ z. lines_read lim (lines z)) t ∙ ap (λ r. r >>= read_behind lim) (first_taken lim wide q w tail)
    ∙ ap (λ l. d_first lim (head_of (plain q) l) l >>= read_behind lim) e
    ∙ ap (λ o. d_line (head_of (plain q) (line ∷ later)) later o >>= read_behind lim)
    (says_shaped lim letter_D q.s line v (λ e. omega (arith, e)) (λ e. omega (arith, e)) says)
    ∙ ap (λ r. r >>= read_behind lim)
    (guard_not b 18 2 (λ u. done (with_degrees (head_of (plain q) (line ∷ later)) v later)) (λ x. h (fits_says most_degree v x)))
    ∙ (λ i. refused (sym n i) (sym p i) [])
lines_refused lim wide bytes number place (head_weight n degrees p q w d tail t line later e v says h) =
    let b = fits? most_weight v in
    ap (λ z. lines_read lim (lines z)) t
    ∙ ap (λ r. r >>= read_behind lim) (degrees_taken lim wide degrees q w d tail no_d)
    ∙ ap (λ l. g_next lim (degrees_read degrees q l) l >>= read_on lim) e
    ∙ ap (λ o. g_line (degrees_read degrees q (line ∷ later)) later o >>= read_on lim)
    (says_shaped lim letter_G (2 * q.n) line v (λ e. omega (arith, e)) (λ e. omega (arith, e)) says)
    ∙ ap (λ r. r >>= read_on lim)
    (guard_not b 24 (behind_degrees degrees) (λ u. done (with_weights (degrees_read degrees q (line ∷ later)) v later)) (λ x. h (fits_says most_weight v x)))
    ∙ (λ i. refused (sym n i) (sym p i) [])
  where
    -- G is no D
    no_d : degrees ≡ false → NoD lim q.s (lines tail)
    no_d g =
        subst (NoD lim q.s) (sym e)
        (ap (shaped lim.field letter_D q.s) (says_line lim letter_G (2 * q.n) line v (λ e. omega (arith, e)) says)
        ∙ other_letter lim.field letter_G letter_D q.s (λ e. omega (arith, e)) (λ e. omega (arith, e)) v)
lines_refused lim wide bytes number place (later_line given q f so tail t p b) =
    ap (λ z. lines_read lim (lines z)) t
    ∙ after_lines lim wide q so.parameters given f so tail number place (later_no_d lim wide q so.parameters given f b)
    (later_no_g lim wide q so.parameters given f b)
    (λ here h. later_refused lim wide q so.parameters given here f b ∙ (let e : here ≡ place = omega (arith, h, p) in ap (λ x. refused number x []) e))
lines_refused lim wide bytes number place (after_end n given q f so m tail line later e t p) =
    ap (λ z. lines_read lim (lines z)) t
    ∙ after_lines lim wide q so.parameters given f so (end_line f ++ tail) number place
    (λ z. absurd (let k : terms_of f ≡ 0 = ap terms_of z.1.1 in omega (arith, m, k)))
    (λ z. absurd (let k : terms_of f ≡ 0 = ap terms_of z.1 in omega (arith, m, k)))
    (λ here h. end_refused lim wide q so.parameters here f tail line later m so.short e
    ∙ (let k : suc here ≡ place = omega (arith, h, p) in λ i. refused (sym n i) (k i) []))

-- the refusal comes for each reason that there is
pub reason_refused : (lim : Limits) → Wide lim → (bytes : Bytes) (number place : ℕ) → length bytes ≤ lim.file → Reason lim bytes number place
    → problem lim bytes ≡ refused number place []
reason_refused lim wide bytes number place l r =
    problem_sized lim bytes ∙ passed (leb (length bytes) lim.file) 1 0 (λ u. lines_read lim (lines bytes)) (le→leb (length bytes) lim.file l)
    ∙ lines_refused lim wide bytes number place r

pub too_long_refused : (lim : Limits) (bytes : Bytes) → lim.file < length bytes → problem lim bytes ≡ refused 1 0 []
too_long_refused lim bytes l =
    problem_sized lim bytes ∙ guard_not (leb (length bytes) lim.file) 1 0 (λ u. lines_read lim (lines bytes))
    (λ t. let k = leb→le (length bytes) lim.file t in omega (arith, l, k))
