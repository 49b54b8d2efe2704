-- The lines of a well-formed file without its D line: those of the same parameters and elements with zeros for degrees.
use mathlib.Core.Path.{◌≡◌, refl, sym, ap, ◌∙◌, subst}
use mathlib.Core.Bool.{Bool, true, false}
use mathlib.Core.Option.{Option, none, some}
use mathlib.Core.List.{List, [], ◌∷◌, ◌++◌, append_assoc}
use Prim.Native.Nat.{ℕ, suc}
use native.Mathlib.Omega.{arith}
use lib.Dec.{T}
use lib.ListN.{length, replicate}
use Rattle.definitions.specs.Limits.{Limits}
use Rattle.definitions.specs.Monomial.{Term, Vector, Level}
use Rattle.definitions.specs.Problem.{Bytes, Line, Parameters, letter_R, letter_D, letter_G, letter_T, lines}
use Rattle.definitions.specs.Sheet.{printed, term_fields}
use Rattle.laws.proofs.Members.{all_map}
use Rattle.definitions.specs.Written.{element_lines, end_line}
use Rattle.files.specs.Files.{Given, elements_lines, first_line_of, degrees_line, weights_line, file_of, DegreesSaid, WeightsSaid}
use Rattle.files.specs.Files.{WellFormedTerm, WellFormedElement, WellFormed, WellFormedFile}
use Rattle.files.proofs.Lines.{listed, lines_printed, text_of, lines_text}
use Rattle.files.proofs.Heads.{plain, r_numbers, with_line_well}
use Rattle.demands.specs.Demands.{sensible?}
use Rattle.demands.proofs.Reader.{files}
use Rattle.degrees.specs.Notions.{behind_D, without_D, AlikeFiles, without_degrees}

-- the lines but for D
abbrev without_line : Given → Given
without_line given = record { degrees = false; weights = given.weights }

-- ## Zeros for degrees

module _ (lim : Limits) (q : Parameters) where
  term_plain : (t : Term) → WellFormedTerm lim q t → WellFormedTerm lim (plain q) t
  term_plain t h = record {
    coefficient_from = h.coefficient_from;
    coefficient_below = h.coefficient_below;
    component_from = h.component_from;
    component_to = h.component_to;
    eight = h.eight;
    exponents_to = h.exponents_to;
    past = h.past;
  }

  element_plain : (v : Vector) → WellFormedElement lim q v → WellFormedElement lim (plain q) v
  element_plain v h = record {
    filled = h.filled;
    terms = all_map (WellFormedTerm lim q) (WellFormedTerm lim (plain q)) term_plain v h.terms;
    descends = h.descends;
  }

  weights_plain : (weights : Option (List ℕ)) → WeightsSaid weights q → WeightsSaid weights (plain q)
  weights_plain none h = tt
  weights_plain (some v) h = record { counted = h.counted; each_to = h.each_to }

  well_plain : (given : Given) (f : Level) → WellFormed lim given q f → WellFormed lim (without_line given) (plain q) f
  well_plain given f h = record {
    parameters = with_line_well lim q (replicate q.s 0) h.parameters;
    degrees = refl;
    weights = weights_plain given.weights h.weights;
    some_element = h.some_element;
    few = h.few;
    short = h.short;
    elements = all_map (WellFormedElement lim q) (WellFormedElement lim (plain q)) element_plain f h.elements;
  }

-- ## The lines

-- the T lines and E
abbrev terms_of_file : Parameters → Level → Bytes
terms_of_file q f = elements_lines q.n 1 f ++ end_line f

-- .. behind G
abbrev tail_of : Option (List ℕ) → Parameters → Level → Bytes
tail_of weights q f = weights_line weights ++ terms_of_file q f

first_of : Parameters → Line
first_of q = (letter_R ∷ listed (r_numbers q), true)

lines_first : (given : Given) (q : Parameters) (f : Level)
    → lines (file_of given q f) ≡ first_of q ∷ lines (degrees_line given.degrees q ++ tail_of given.weights q f)
unfolding first_of
lines_first given q f =
    ap (λ z. lines (first_line_of q ++ z)) (append_assoc (degrees_line given.degrees q) (weights_line given.weights) (terms_of_file q f))
    ∙ lines_printed letter_R (λ e. omega (arith, e)) (r_numbers q) (degrees_line given.degrees q ++ tail_of given.weights q f)

-- G or a T line comes first among them
behind_terms : (lim : Limits) (given : Given) (weights : Option (List ℕ)) (q : Parameters) (f : Level) → WellFormed lim given q f
    → behind_D (lines (tail_of weights q f)) ≡ lines (tail_of weights q f)
behind_terms lim given (some v) q f h =
    let l = lines_printed letter_G (λ x. omega (arith, x)) v (terms_of_file q f) in
    ap behind_D l ∙ sym l
behind_terms lim given none q [] h = absurd (let l = h.some_element in omega (arith, l))
behind_terms lim given none q ([] ∷ f) h = absurd (let l = h.elements.0.filled in omega (arith, l))
behind_terms lim given none q ((t ∷ v) ∷ f) h =
    let line = printed letter_T (1 ∷ term_fields q.n t) in
    let others = element_lines q.n 1 v in
    let more = elements_lines q.n 2 f in
    let end = end_line ((t ∷ v) ∷ f) in
    let e : ((line ++ others) ++ more) ++ end ≡ line ++ (others ++ (more ++ end)) =
    append_assoc (line ++ others) more end ∙ append_assoc line others (more ++ end) in
    let l = ap lines e ∙ lines_printed letter_T (λ x. omega (arith, x)) (1 ∷ term_fields q.n t) (others ++ (more ++ end)) in
    ap behind_D l ∙ sym l

lines_behind : (lim : Limits) (given : Given) (degrees : Bool) (q : Parameters) (f : Level) → WellFormed lim given q f
    → behind_D (lines (degrees_line degrees q ++ tail_of given.weights q f)) ≡ lines (tail_of given.weights q f)
lines_behind lim given false q f h = behind_terms lim given given.weights q f h
lines_behind lim given true q f h = ap behind_D (lines_printed letter_D (λ e. omega (arith, e)) q.degrees (tail_of given.weights q f))

without_is : (lim : Limits) (given : Given) (q : Parameters) (f : Level) → WellFormed lim given q f
    → without_D (lines (file_of given q f)) ≡ lines (file_of (without_line given) (plain q) f)
unfolding first_of
without_is lim given q f h =
    ap without_D (lines_first given q f) ∙ ap (λ l. first_of q ∷ l) (lines_behind lim given given.degrees q f h)
    ∙ sym (lines_first (without_line given) (plain q) f)

-- ## Files

module _ (lim : Limits) (o : T (sensible? lim)) where
  -- the same elements, and the same parameters but for the degrees
  pub basis : (bytes bytes' : Bytes) (q q' : Parameters) (f f' : Level) → AlikeFiles bytes bytes'
      → WellFormedFile lim bytes q f → WellFormedFile lim bytes' q' f' → (without_degrees q ≡ without_degrees q') × (f ≡ f')
  basis bytes bytes' q q' f f' a w w' =
      let plainly : ◌≡◌ {A = Parameters × Level} (plain q, f) (plain q', f') =
      ((files lim o).once (without_line w.given) (without_line w'.given) (plain q) (plain q') f f' (well_plain lim q w.given f w.well)
      (well_plain lim q' w'.given f' w'.well) text).0 in
      (ap (λ (x : Parameters × Level). without_degrees x.0) plainly, ap (λ (x : Parameters × Level). x.1) plainly)
    where
      text : file_of (without_line w.given) (plain q) f ≡ file_of (without_line w'.given) (plain q') f'
      text =
          sym (lines_text (file_of (without_line w.given) (plain q) f))
          ∙ ap text_of (sym (without_is lim w.given q f w.well) ∙ ap (λ b. without_D (lines b)) (sym w.text) ∙ a
          ∙ ap (λ b. without_D (lines b)) w'.text ∙ without_is lim w'.given q' f' w'.well)
          ∙ lines_text (file_of (without_line w'.given) (plain q') f')

-- "files without D keep zeros"
pub zeros : (lim : Limits) (bytes : Bytes) (q : Parameters) (f : Level) → WellFormedFile lim bytes q f → without_D (lines bytes) ≡ lines bytes
    → q.degrees ≡ replicate q.s 0
zeros lim bytes q f w e =
    go w.given w.given.degrees refl w.well (subst (λ b. without_D (lines b) ≡ lines b) w.text e)
  where
    go : (given : Given) (degrees : Bool) → given.degrees ≡ degrees → WellFormed lim given q f
        → without_D (lines (file_of given q f)) ≡ lines (file_of given q f) → q.degrees ≡ replicate q.s 0
    go given false d h e = subst (λ b. DegreesSaid b q) d h.degrees
    go given true d h e =
        let tail = tail_of given.weights q f in
        let l : lines (file_of given q f) ≡ first_of q ∷ lines (printed letter_D q.degrees ++ tail) =
        lines_first given q f ∙ ap (λ b. first_of q ∷ lines (degrees_line b q ++ tail)) d in
        let a : length (first_of q ∷ lines tail) ≡ length (lines (file_of given q f)) =
        ap length (sym (ap without_D (lines_first given q f) ∙ ap (λ l. first_of q ∷ l) (lines_behind lim given given.degrees q f h)) ∙ e) in
        let b : length (lines (file_of given q f)) ≡ suc (length (lines (printed letter_D q.degrees ++ tail))) = ap length l in
        let c : length (lines (printed letter_D q.degrees ++ tail)) ≡ suc (length (lines tail)) =
        ap length (lines_printed letter_D (λ e. omega (arith, e)) q.degrees tail) in
        absurd (omega (arith, a, b, c))
