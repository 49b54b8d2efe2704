-- The lines before the first T line: R, and D and G where they are given.
use mathlib.Core.Path.{◌≡◌, refl, sym, ap, ◌∙◌, subst}
use mathlib.Core.Bool.{Bool, true, false}
use mathlib.Core.Option.{Option, none, some}
use mathlib.Core.List.{List, [], ◌∷◌, ◌++◌, append_assoc, append-nil}
use Prim.Native.Nat.{ℕ, suc, ◌*◌, ◌≤◌}
use native.Mathlib.Omega.{arith}
use lib.Dec.{T, leb, leb→le, le→leb}
use lib.ListN.{length, get_or, replicate}
use Rattle.definitions.specs.Limits.{Limits}
use Rattle.definitions.specs.Monomial.{Level, fits?}
use Rattle.definitions.specs.Result.{Result, done, refused, unfinished, unless_refused, ◌>>=◌}
use Rattle.definitions.specs.Problem.{Bytes, Line, Parameters, newline, comma, lines, letter_R, letter_D, letter_G, letter_T, shaped, prime_in_range?}
use Rattle.definitions.specs.Problem.{in_ranges?, parameters_of, r_line, body, Head, head_of, with_degrees, d_line, d_first, with_weights, g_line, g_next}
use Rattle.definitions.specs.Problem.{after_r, first_line, problem}
use Rattle.definitions.specs.Places.{most_degree, most_weight}
use Rattle.definitions.specs.Sheet.{printed, term_fields}
use Rattle.laws.proofs.Members.{All, every_all, all_every, all_map}
use Rattle.laws.proofs.Results.{IfDone, if_done_bind, guard_done, IfSome}
use Rattle.definitions.specs.Written.{element_lines}
use Rattle.files.specs.Files.{Given, elements_lines, first_line_of, degrees_line, weights_line, given_lines, behind_degrees}
use Rattle.files.specs.Files.{first_term_line, WellFormedParameters, DegreesSaid, WeightsSaid, weights_of, WellFormedElement, Wide}
use Rattle.files.proofs.Lines.{text_of, Clean, listed, lines_printed, text_printed, shaped_listed, other_letter, Shape, shaped_only}
use Rattle.files.proofs.Forms.{prime_tested, ranges_tested, parameters_well, parameter_numbers}

-- a test that holds refuses nothing
pub passed : {B : Type 0} (b : Bool) (number place : ℕ) (f : Unit {0} → Result B) → T b → (unless_refused b number place >>= f) ≡ f tt
passed true number place f t = refl
passed false number place f t = absurd t

-- ## Head and body

-- what follows the head
abbrev pub read_on : Limits → Head → Result (Parameters × Level)
read_on lim h = body lim h.parameters h.place 0 [] h.later >>= λ f. done (h.parameters, f)

-- the head behind R, and D where it is given
abbrev pub behind_r : Limits → List Line → Option (List ℕ) → Result Head
behind_r lim later none = refused 1 1 []
behind_r lim later (some v) = r_line lim v >>= λ q. d_first lim (head_of q later) later

abbrev pub degrees_head : Limits → List Line → Result Head
degrees_head lim [] = refused 1 1 []
degrees_head lim (line ∷ later) = behind_r lim later (shaped lim.field letter_R 4 line)

-- then G
abbrev pub weights_next : Limits → Head → Result Head
weights_next lim h = g_next lim h h.later

bind_twice : {A B C : Type 0} (x : Result A) (f : A → Result B) (g : B → Result C)
    → ◌≡◌ {A = Result C} (x >>= λ a. f a >>= g) (◌>>=◌ {A = B} {B = C} (x >>= f) g)
bind_twice (done a) f g = refl
bind_twice (refused number place value) f g = refl
bind_twice unfinished f g = refl

pub head_twice : (lim : Limits) (ls : List Line) → first_line lim ls ≡ (degrees_head lim ls >>= weights_next lim)
head_twice lim [] = refl
head_twice lim (line ∷ later) = go (shaped lim.field letter_R 4 line)
  where
    go : (o : Option (List ℕ)) → after_r lim later o ≡ (behind_r lim later o >>= weights_next lim)
    go none = refl
    go (some v) = bind_twice (r_line lim v) (λ q. d_first lim (head_of q later) later) (weights_next lim)

-- what follows R and D
abbrev pub read_behind : Limits → Head → Result (Parameters × Level)
read_behind lim h = weights_next lim h >>= read_on lim

abbrev pub lines_read : Limits → List Line → Result (Parameters × Level)
lines_read lim ls = degrees_head lim ls >>= read_behind lim

pub lines_head : (lim : Limits) (ls : List Line) → lines_read lim ls ≡ (first_line lim ls >>= read_on lim)
lines_head lim ls = bind_twice (degrees_head lim ls) (weights_next lim) (read_on lim) ∙ ap (λ r. r >>= read_on lim) (sym (head_twice lim ls))

-- a file that is not too long is read by its lines
pub problem_sized : (lim : Limits) (bytes : Bytes)
    → problem lim bytes ≡ (unless_refused (leb (length bytes) lim.file) 1 0 >>= λ u. lines_read lim (lines bytes))
problem_sized lim bytes =
    go (leb (length bytes) lim.file)
    ∙ ap (λ r. unless_refused (leb (length bytes) lim.file) 1 0 >>= λ u. r) (sym (lines_head lim (lines bytes)))
  where
    go : (b : Bool) → ◌≡◌ {A = Result (Parameters × Level)} ((unless_refused b 1 0 >>= λ u. first_line lim (lines bytes)) >>= read_on lim)
        (unless_refused b 1 0 >>= λ u. first_line lim (lines bytes) >>= read_on lim)
    go true = refl
    go false = refl

-- ## D and G

-- the first of these lines has not this shape
abbrev pub NoLine : Limits → ℕ → ℕ → List Line → Type 0
NoLine lim letter count [] = Unit {0}
NoLine lim letter count (line ∷ later) = shaped lim.field letter count line ≡ none

abbrev pub NoD : Limits → ℕ → List Line → Type 0
NoD lim s = NoLine lim letter_D s

abbrev pub NoG : Limits → ℕ → List Line → Type 0
NoG lim n = NoLine lim letter_G (2 * n)

pub d_skipped : (lim : Limits) (q : Parameters) (ls : List Line) → NoD lim q.s ls → d_first lim (head_of q ls) ls ≡ done (head_of q ls)
d_skipped lim q [] n = refl
d_skipped lim q (line ∷ later) n = ap (d_line (head_of q (line ∷ later)) later) n

pub g_skipped : (lim : Limits) (h : Head) (ls : List Line) → NoG lim h.parameters.n ls → g_next lim h ls ≡ done h
g_skipped lim h [] n = refl
g_skipped lim h (line ∷ later) n = ap (g_line h later) n

-- a printed line with another letter is none
pub printed_none : (lim : Limits) (letter other count : ℕ) → ¬ (letter ≡ newline) → ¬ (letter ≡ comma) → ¬ (letter ≡ other)
    → (v : List ℕ) (tail : Bytes) → NoLine lim other count (lines (printed letter v ++ tail))
printed_none lim letter other count l m n v tail =
    subst (NoLine lim other count) (sym (lines_printed letter l v tail)) (other_letter lim.field letter other count m n v)

-- nor is a T line
pub terms_none : (lim : Limits) (letter count : ℕ) → ¬ (letter_T ≡ letter) → (q : Parameters) (f : Level) (tail : Bytes)
    → All (WellFormedElement lim q) f → (f ≡ [] → NoLine lim letter count (lines tail))
    → NoLine lim letter count (lines (elements_lines q.n 1 f ++ tail))
terms_none lim letter count o q [] tail h k = k refl
terms_none lim letter count o q ([] ∷ f) tail h k = absurd (let l = h.0.filled in omega (arith, l))
terms_none lim letter count o q ((t ∷ v) ∷ f) tail h k =
    let line = printed letter_T (1 ∷ term_fields q.n t) in
    let others = element_lines q.n 1 v in
    let more = elements_lines q.n 2 f in
    let e : ((line ++ others) ++ more) ++ tail ≡ line ++ (others ++ (more ++ tail)) =
    append_assoc (line ++ others) more tail ∙ append_assoc line others (more ++ tail) in
    subst (λ z. NoLine lim letter count (lines z)) (sym e)
    (printed_none lim letter_T letter count (λ x. omega (arith, x)) (λ x. omega (arith, x)) o (1 ∷ term_fields q.n t) (others ++ (more ++ tail)))

pub fits_says : (most : ℕ) (v : List ℕ) → T (fits? most v) → All (λ x. x ≤ most) v
fits_says most v t = all_map (λ x. T (leb x most)) (λ x. x ≤ most) (λ x. leb→le x most) v (every_all (λ x. leb x most) v t)

pub fits_shown : (most : ℕ) (v : List ℕ) → All (λ x. x ≤ most) v → T (fits? most v)
fits_shown most v h = all_every (λ x. leb x most) v (all_map (λ x. x ≤ most) (λ x. T (leb x most)) (λ x. le→leb x most) v h)

-- ## A head that is printed is read

-- the parameters of an R line alone
abbrev pub plain : Parameters → Parameters
plain q = record { p = q.p; n = q.n; code = q.code; s = q.s; degrees = replicate q.s 0 }

abbrev pub r_numbers : Parameters → List ℕ
r_numbers q = q.p ∷ q.n ∷ q.code ∷ q.s ∷ []

pub r_line_taken : (lim : Limits) (q : Parameters) → WellFormedParameters lim q → r_line lim (r_numbers q) ≡ done (plain q)
r_line_taken lim q w =
    passed (prime_in_range? lim q.p) 2 1 (λ u. unless_refused (in_ranges? lim (plain q)) 3 1 >>= λ u'. done (plain q)) (prime_tested lim q w)
    ∙ passed (in_ranges? lim (plain q)) 3 1 (λ u'. done (plain q)) (ranges_tested lim q w)

-- the head behind R, or R and D, as it is read so far
abbrev pub degrees_read : Bool → Parameters → List Line → Head
degrees_read degrees q later = record { parameters = q; weights = replicate q.n (1, 0); place = behind_degrees degrees; later = later }

-- the head behind all of them
abbrev pub head_read : Given → Parameters → List Line → Head
head_read given q later = record { parameters = q; weights = weights_of given q; place = first_term_line given; later = later }

-- R alone, whatever follows
pub first_taken : (lim : Limits) → Wide lim → (q : Parameters) → WellFormedParameters lim q → (tail : Bytes)
    → degrees_head lim (lines (first_line_of q ++ tail)) ≡ d_first lim (head_of (plain q) (lines tail)) (lines tail)
first_taken lim wide q w tail =
    ap (degrees_head lim) (lines_printed letter_R (λ e. omega (arith, e)) (r_numbers q) tail)
    ∙ ap (behind_r lim (lines tail)) (shaped_listed lim.field letter_R 4 (λ e. omega (arith, e)) (r_numbers q) (parameter_numbers lim wide q w) refl)
    ∙ ap (λ r. r >>= λ q'. d_first lim (head_of q' (lines tail)) (lines tail)) (r_line_taken lim q w)

pub degrees_taken : (lim : Limits) → Wide lim → (degrees : Bool) (q : Parameters) → WellFormedParameters lim q → DegreesSaid degrees q
    → (tail : Bytes) → (degrees ≡ false → NoD lim q.s (lines tail))
    → degrees_head lim (lines (first_line_of q ++ (degrees_line degrees q ++ tail))) ≡ done (degrees_read degrees q (lines tail))
degrees_taken lim wide false q w d tail k =
    first_taken lim wide q w tail ∙ d_skipped lim (plain q) (lines tail) (k refl)
    ∙ ap (λ z. done (degrees_read false (record { p = q.p; n = q.n; code = q.code; s = q.s; degrees = z }) (lines tail))) (sym d)
degrees_taken lim wide true q w d tail k =
    first_taken lim wide q w (printed letter_D q.degrees ++ tail)
    ∙ ap (λ l. d_first lim (head_of (plain q) l) l) (lines_printed letter_D (λ e. omega (arith, e)) q.degrees tail)
    ∙ ap (d_line h (lines tail)) (shaped_listed lim.field letter_D q.s (λ e. omega (arith, e)) q.degrees within d.counted)
    ∙ passed (fits? most_degree q.degrees) 18 2 (λ u. done (with_degrees h q.degrees (lines tail)))
    (fits_shown most_degree q.degrees d.each_to)
  where
    h : Head
    h = head_of (plain q) ((letter_D ∷ listed q.degrees, true) ∷ lines tail)

    within : All (λ x. x ≤ lim.field) q.degrees
    within = all_map (λ x. x ≤ most_degree) (λ x. x ≤ lim.field) (λ x l. omega (arith, l, wide.degree_in_field)) q.degrees d.each_to

weights_taken : (lim : Limits) → Wide lim → (degrees : Bool) (weights : Option (List ℕ)) (q : Parameters) → WeightsSaid weights q
    → (tail : Bytes) → (weights ≡ none → NoG lim q.n (lines tail))
    → weights_next lim (degrees_read degrees q (lines (weights_line weights ++ tail)))
    ≡ done (head_read (record { degrees = degrees; weights = weights }) q (lines tail))
weights_taken lim wide degrees none q w tail k = g_skipped lim (degrees_read degrees q (lines tail)) (lines tail) (k refl)
weights_taken lim wide degrees (some v) q w tail k =
    ap (λ l. g_next lim (degrees_read degrees q l) l) (lines_printed letter_G (λ e. omega (arith, e)) v tail)
    ∙ ap (g_line h (lines tail)) (shaped_listed lim.field letter_G (2 * q.n) (λ e. omega (arith, e)) v within w.counted)
    ∙ passed (fits? most_weight v) 24 (behind_degrees degrees) (λ u. done (with_weights h v (lines tail))) (fits_shown most_weight v w.each_to)
  where
    h : Head
    h = degrees_read degrees q ((letter_G ∷ listed v, true) ∷ lines tail)

    within : All (λ x. x ≤ lim.field) v
    within = all_map (λ x. x ≤ most_weight) (λ x. x ≤ lim.field) (λ x l. omega (arith, l, wide.weight_in_field)) v w.each_to

-- the next line is none of the head's
pub record NoHead (lim : Limits) (given : Given) (q : Parameters) (later : List Line) : Type 0 where
  pub no_d : given.degrees ≡ false → given.weights ≡ none → NoD lim q.s later
  pub no_g : given.weights ≡ none → NoG lim q.n later

-- G is no D
weights_no_d : (lim : Limits) (weights : Option (List ℕ)) (s : ℕ) (tail : Bytes) → (weights ≡ none → NoD lim s (lines tail))
    → NoD lim s (lines (weights_line weights ++ tail))
weights_no_d lim none s tail k = k refl
weights_no_d lim (some v) s tail k =
    printed_none lim letter_G letter_D s (λ x. omega (arith, x)) (λ x. omega (arith, x)) (λ x. omega (arith, x)) v tail

pub head_taken : (lim : Limits) → Wide lim → (given : Given) (q : Parameters) → WellFormedParameters lim q → DegreesSaid given.degrees q
    → WeightsSaid given.weights q → (tail : Bytes) → NoHead lim given q (lines tail)
    → first_line lim (lines (first_line_of q ++ (given_lines given q ++ tail))) ≡ done (head_read given q (lines tail))
head_taken lim wide given q w d g tail k =
    let lines-d = degrees_line given.degrees q in
    let lines-g = weights_line given.weights in
    head_twice lim (lines (first_line_of q ++ (given_lines given q ++ tail)))
    ∙ ap (λ z. degrees_head lim (lines (first_line_of q ++ z)) >>= weights_next lim) (append_assoc lines-d lines-g tail)
    ∙ ap (λ r. r >>= weights_next lim)
    (degrees_taken lim wide given.degrees q w d (lines-g ++ tail)
    (λ e. weights_no_d lim given.weights q.s tail (k.no_d e)))
    ∙ weights_taken lim wide given.degrees given.weights q g tail k.no_g

-- ## A head that is read was printed

four : (v : List ℕ) → length v ≡ 4 → v ≡ get_or v 0 0 ∷ get_or v 1 0 ∷ get_or v 2 0 ∷ get_or v 3 0 ∷ []
four [] e = absurd (omega (arith, e))
four (a ∷ []) e = absurd (omega (arith, e))
four (a ∷ b ∷ []) e = absurd (omega (arith, e))
four (a ∷ b ∷ c ∷ []) e = absurd (omega (arith, e))
four (a ∷ b ∷ c ∷ d ∷ []) e = refl
four (a ∷ b ∷ c ∷ d ∷ g ∷ v) e = absurd (omega (arith, e))

-- the parameters of an R line
pub record First (lim : Limits) (v : List ℕ) (q : Parameters) : Type 0 where
  pub tested : WellFormedParameters lim q
  pub numbers : v ≡ r_numbers q
  pub zeros : q.degrees ≡ replicate q.s 0

pub r_line_first : (lim : Limits) (v : List ℕ) → length v ≡ 4 → IfDone (First lim v) (r_line lim v)
r_line_first lim v e =
    let q = parameters_of v in
    guard_done (First lim v) (prime_in_range? lim q.p) 2 1 (λ u. unless_refused (in_ranges? lim q) 3 1 >>= λ u'. done q) λ t.
    guard_done (First lim v) (in_ranges? lim q) 3 1 (λ u'. done q)
    (λ t'. record { tested = parameters_well lim q t t'; numbers = four v e; zeros = refl })

-- the parameters with the degrees of a D line
abbrev pub with_line : Parameters → List ℕ → Parameters
with_line q v = record { p = q.p; n = q.n; code = q.code; s = q.s; degrees = v }

pub with_line_well : (lim : Limits) (q : Parameters) (v : List ℕ) → WellFormedParameters lim q → WellFormedParameters lim (with_line q v)
with_line_well lim q v w = record {
  prime = w.prime;
  p_to = w.p_to;
  n_from = w.n_from;
  n_to = w.n_to;
  code_from = w.code_from;
  code_to = w.code_to;
  s_from = w.s_from;
  s_to = w.s_to;
}

-- R, and D where it is given
pub record DegreesTold (lim : Limits) (ls : List Line) (h : Head) : Type 0 where
  pub degrees : Bool
  pub tested : WellFormedParameters lim h.parameters
  pub said : DegreesSaid degrees h.parameters
  pub place : h.place ≡ behind_degrees degrees
  pub weights : h.weights ≡ replicate h.parameters.n (1, 0)
  pub text : text_of ls ≡ first_line_of h.parameters ++ (degrees_line degrees h.parameters ++ text_of h.later)
  pub clean : Clean ls → Clean h.later
  pub no_d : degrees ≡ false → NoD lim h.parameters.s h.later

module _ (lim : Limits) (line : Line) (v : List ℕ) (s : Shape lim.field letter_R 4 line v) (q : Parameters) (f : First lim v q) where
  first_text : (later : List Line) → text_of (line ∷ later) ≡ first_line_of q ++ text_of later
  first_text later = ap (λ z. text_of (z ∷ later)) s.text ∙ text_printed letter_R v later ∙ ap (λ z. printed letter_R z ++ text_of later) f.numbers

  told_plain : (later : List Line) → NoD lim q.s later → DegreesTold lim (line ∷ later) (head_of q later)
  told_plain later n = record {
    degrees = false;
    tested = f.tested;
    said = f.zeros;
    place = refl;
    weights = refl;
    text = first_text later;
    clean = λ c. c.1.1;
    no_d = λ e. n;
  }

  second_told : (later : List Line) → IfDone (DegreesTold lim (line ∷ later)) (d_first lim (head_of q later) later)
  second_told [] = told_plain [] tt
  second_told (line₂ ∷ later) = go (shaped lim.field letter_D q.s line₂) refl (shaped_only lim.field letter_D q.s line₂)
    where
      go : (o : Option (List ℕ)) → shaped lim.field letter_D q.s line₂ ≡ o → IfSome (Shape lim.field letter_D q.s line₂) o
          → IfDone (DegreesTold lim (line ∷ line₂ ∷ later)) (d_line (head_of q (line₂ ∷ later)) later o)
      go none e d = told_plain (line₂ ∷ later) e
      go (some w) e d =
          guard_done (DegreesTold lim (line ∷ line₂ ∷ later)) (fits? most_degree w) 18 2 (λ u. done (with_degrees (head_of q (line₂ ∷ later)) w later)) λ t.
          record {
            degrees = true;
            tested = with_line_well lim q w f.tested;
            said = record { counted = d.counted; each_to = fits_says most_degree w t };
            place = refl;
            weights = refl;
            text = first_text (line₂ ∷ later)
                ∙ ap (λ z. first_line_of q ++ z) (ap (λ z. text_of (z ∷ later)) d.text ∙ text_printed letter_D w later);
            clean = λ c. c.1.1.1.1;
            no_d = λ e. absurd (subst T e tt);
          }

pub degrees_told : (lim : Limits) (ls : List Line) → IfDone (DegreesTold lim ls) (degrees_head lim ls)
degrees_told lim [] = tt
degrees_told lim (line ∷ later) = go (shaped lim.field letter_R 4 line) (shaped_only lim.field letter_R 4 line)
  where
    go : (o : Option (List ℕ)) → IfSome (Shape lim.field letter_R 4 line) o → IfDone (DegreesTold lim (line ∷ later)) (behind_r lim later o)
    go none s = tt
    go (some v) s =
        if_done_bind (First lim v) (DegreesTold lim (line ∷ later)) (r_line lim v) (λ q. d_first lim (head_of q later) later)
        (r_line_first lim v s.counted) (λ q f. second_told lim line v s q f later)

-- R, and D and G where they are given
pub record Told (lim : Limits) (ls : List Line) (h : Head) : Type 0 where
  pub given : Given
  pub tested : WellFormedParameters lim h.parameters
  pub said : DegreesSaid given.degrees h.parameters
  pub weighed : WeightsSaid given.weights h.parameters
  pub place : h.place ≡ first_term_line given
  pub weights : h.weights ≡ weights_of given h.parameters
  pub text : text_of ls ≡ first_line_of h.parameters ++ (given_lines given h.parameters ++ text_of h.later)
  pub clean : Clean ls → Clean h.later
  pub next : NoHead lim given h.parameters h.later

module _ (lim : Limits) (ls : List Line) (h : Head) (t : DegreesTold lim ls h) where
  told_weightless : NoG lim h.parameters.n h.later → Told lim ls h
  told_weightless n = record {
    given = record { degrees = t.degrees; weights = none };
    tested = t.tested;
    said = t.said;
    weighed = tt;
    place = t.place;
    weights = t.weights;
    text = t.text
        ∙ ap (λ z. first_line_of h.parameters ++ (z ++ text_of h.later)) (sym (append-nil (degrees_line t.degrees h.parameters)));
    clean = t.clean;
    next = record { no_d = λ d g. t.no_d d; no_g = λ g. n };
  }

  next_told : (later : List Line) → h.later ≡ later → IfDone (Told lim ls) (g_next lim h later)
  next_told [] z = told_weightless (subst (NoG lim h.parameters.n) (sym z) tt)
  next_told (line ∷ later) z =
      go (shaped lim.field letter_G (2 * h.parameters.n) line) refl (shaped_only lim.field letter_G (2 * h.parameters.n) line)
    where
      q : Parameters
      q = h.parameters

      go : (o : Option (List ℕ)) → shaped lim.field letter_G (2 * h.parameters.n) line ≡ o
          → IfSome (Shape lim.field letter_G (2 * h.parameters.n) line) o → IfDone (Told lim ls) (g_line h later o)
      go none e d = told_weightless (subst (NoG lim h.parameters.n) (sym z) e)
      go (some v) e d =
          guard_done (Told lim ls) (fits? most_weight v) 24 h.place (λ u. done (with_weights h v later)) λ f.
          record {
            given = record { degrees = t.degrees; weights = some v };
            tested = t.tested;
            said = t.said;
            weighed = record { counted = d.counted; each_to = fits_says most_weight v f };
            place = ap suc t.place;
            weights = refl;
            text = t.text
                ∙ ap (λ z. first_line_of q ++ (degrees_line t.degrees q ++ z))
                (ap text_of z ∙ ap (λ z. text_of (z ∷ later)) d.text ∙ text_printed letter_G v later)
                ∙ ap (λ z. first_line_of q ++ z) (sym (append_assoc (degrees_line t.degrees q) (printed letter_G v) (text_of later)));
            clean = λ c. (subst Clean z (t.clean c)).1.1;
            next = record { no_d = λ a g. absurd (taken g); no_g = λ g. absurd (taken g) };
          }
        where
          taken : some v ≡ none → ⊥
          taken e = subst Taken e tt
            where
              Taken : Option (List ℕ) → Type 0
              Taken none = ⊥
              Taken (some v) = Unit {0}

pub heads_told : (lim : Limits) (ls : List Line) → IfDone (Told lim ls) (first_line lim ls)
heads_told lim ls =
    subst (IfDone (Told lim ls)) (sym (head_twice lim ls))
    (if_done_bind (DegreesTold lim ls) (Told lim ls) (degrees_head lim ls) (weights_next lim) (degrees_told lim ls)
    (λ h t. next_told lim ls h t h.later refl))
