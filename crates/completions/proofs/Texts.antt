-- A well-formed file with an element more is the well-formed file of the elements so far and this one.
use mathlib.Core.Path.{◌≡◌, refl, sym, ap, ap₂, ◌∙◌}
use mathlib.Core.Bool.{Bool, true, false}
use mathlib.Core.Option.{Option, none, some}
use mathlib.Core.List.{List, [], ◌∷◌, ◌++◌, append_assoc, append-nil}
use Prim.Native.Nat.{ℕ, suc, ◌+◌, ◌-◌, ◌≤◌}
use native.Mathlib.Omega.{arith}
use lib.Dec.{T, eqb, eqb→eq}
use lib.ListN.{length, take, length-append}
use lib.Seq.{take_at}
use Rattle.definitions.specs.Limits.{Limits}
use Rattle.definitions.specs.Lists.{◌and◌, every, between, count}
use Rattle.definitions.specs.Monomial.{Vector, Level}
use Rattle.definitions.specs.Order.{compare_over}
use Rattle.definitions.specs.Vectors.{strictly_descending?}
use Rattle.definitions.specs.Problem.{Bytes, Parameters, newline, comma, letter_R, letter_D, letter_G, letter_T, digit?}
use Rattle.definitions.specs.State.{terms_of, term_sound?, vector_sound?, levels_sound?}
use Rattle.definitions.specs.Sheet.{decimal, fields, printed, term_fields}
use Rattle.definitions.specs.Written.{element_lines, end_line}
use Rattle.definitions.specs.Completing.{before_end, head_lines, with_element}
use Rattle.laws.proofs.Tests.{false_is, and_left, and_right, and_both, between_low, every_append}
use Rattle.laws.proofs.Sound.{basis_says, basis_shown, vector_shown}
use Rattle.files.specs.Files.{Given, elements_lines, first_line_of, degrees_line, weights_line, given_lines, file_of, behind_degrees, behind_weights}
use Rattle.files.specs.Files.{first_term_line}
use Rattle.files.specs.Files.{WellFormed, WellFormedFile}
use Rattle.files.proofs.Decimals.{decimal_digits}
use Rattle.files.proofs.Forms.{basis_well}

-- ## Counts

-- how many lines end in these bytes
abbrev ends : Bytes → ℕ
ends bytes = count (λ b. eqb b newline) bytes

pub terms_more : (f : Level) (v : Vector) → terms_of (f ++ v ∷ []) ≡ terms_of f + length v
terms_more [] v = omega arith
terms_more (u ∷ f) v = let e = terms_more f v in omega (arith, e)

pub length_more : (f : Level) (v : Vector) → length (f ++ v ∷ []) ≡ suc (length f)
length_more f v = let e = length-append f (v ∷ []) in omega (arith, e)

pub counts : (l m : Bytes) → ends (l ++ m) ≡ ends l + ends m
counts [] m = omega arith
counts (b ∷ l) m = go (eqb b newline) (counts l m)
  where
    go : (t : Bool) → ends (l ++ m) ≡ ends l + ends m
        → elim t [ true ↦ suc (ends (l ++ m)) | false ↦ ends (l ++ m) ]
        ≡ elim t [ true ↦ suc (ends l) | false ↦ ends l ] + ends m
    go true e = omega (arith, e)
    go false e = e

-- a byte that does not end a line
pub other_byte : (b : ℕ) (l : Bytes) → ¬ (b ≡ newline) → ends (b ∷ l) ≡ ends l
other_byte b l n = ap (λ t. elim t [ true ↦ suc (ends l) | false ↦ ends l ])
    (false_is (eqb b newline) (λ t. n (eqb→eq b newline t)))

no_newline : (l : Bytes) → T (every digit? l) → ends l ≡ 0
no_newline [] h = refl
no_newline (b ∷ l) h =
    let d = between_low 48 b 57 (and_left (digit? b) (every digit? l) h) in
    other_byte b l (λ e. omega (arith, d, e)) ∙ no_newline l (and_right (digit? b) (every digit? l) h)

fields_end : (vs : List ℕ) → ends (fields vs) ≡ 1
fields_end [] = refl
fields_end (v ∷ vs) =
    other_byte comma (decimal v ++ fields vs) (λ e. omega (arith, e)) ∙ counts (decimal v) (fields vs)
    ∙ ap₂ ◌+◌ (no_newline (decimal v) (decimal_digits v)) (fields_end vs)

-- a printed line is one line
printed_end : (letter : ℕ) → ¬ (letter ≡ newline) → (vs : List ℕ) → ends (printed letter vs) ≡ 1
printed_end letter n vs = other_byte letter (fields vs) n ∙ fields_end vs

element_ends : (n i : ℕ) (v : Vector) → ends (element_lines n i v) ≡ length v
element_ends n i [] = refl
element_ends n i (t ∷ v) =
    let c = counts (printed letter_T (i ∷ term_fields n t)) (element_lines n i v) in
    let e = printed_end letter_T (λ e. omega (arith, e)) (i ∷ term_fields n t) in
    let l = element_ends n i v in
    omega (arith, c, e, l)

elements_end : (n i : ℕ) (f : Level) → ends (elements_lines n i f) ≡ terms_of f
elements_end n i [] = refl
elements_end n i (v ∷ f) = counts (element_lines n i v) (elements_lines n (suc i) f) ∙ ap₂ ◌+◌ (element_ends n i v) (elements_end n (suc i) f)

degrees_end : (given : Bool) (q : Parameters) → 2 + ends (degrees_line given q) ≡ behind_degrees given
degrees_end true q = ap (λ k. 2 + k) (printed_end letter_D (λ e. omega (arith, e)) q.degrees)
degrees_end false q = refl

-- the first T line stands behind R, D and G
heads_end : (given : Given) (q : Parameters)
    → suc (ends (first_line_of q ++ given_lines given q)) ≡ first_term_line given
heads_end given q =
    let c = counts (first_line_of q) (given_lines given q) in
    let e = printed_end letter_R (λ e. omega (arith, e)) (q.p ∷ q.n ∷ q.code ∷ q.s ∷ []) in
    let d = counts (degrees_line given.degrees q) (weights_line given.weights) in
    let w : 2 + (ends (degrees_line given.degrees q) + ends (weights_line given.weights)) ≡ first_term_line given = weights given.weights in
    omega (arith, c, e, d, w)
  where
    weights : (w : Option (List ℕ))
        → 2 + (ends (degrees_line given.degrees q) + ends (weights_line w))
        ≡ behind_weights w (behind_degrees given.degrees)
    weights (some v) =
        let d = degrees_end given.degrees q in
        let e = printed_end letter_G (λ e. omega (arith, e)) v in
        omega (arith, d, e)
    weights none = let d = degrees_end given.degrees q in omega (arith, d)

-- ## The elements' lines

elements_more : (n i : ℕ) (f : Level) (v : Vector) → elements_lines n i (f ++ v ∷ []) ≡ elements_lines n i f ++ element_lines n (i + length f) v
elements_more n i [] v = append-nil (element_lines n i v) ∙ ap (λ k. element_lines n k v) (let e : i ≡ i + 0 = omega arith in e)
elements_more n i (u ∷ f) v =
    ap (λ z. element_lines n i u ++ z) (elements_more n (suc i) f v)
    ∙ sym (append_assoc (element_lines n i u) (elements_lines n (suc i) f) (element_lines n (suc i + length f) v))
    ∙ ap (λ k. (element_lines n i u ++ elements_lines n (suc i) f) ++ element_lines n k v) (let e : suc i + length f ≡ i + suc (length f) = omega arith in e)

-- ## The file

-- what stands before the E line
pub front_is : (bytes front : Bytes) (f : Level) → bytes ≡ front ++ end_line f → before_end bytes f ≡ front
front_is bytes front f e =
    ap (λ b. take (length b - length (end_line f)) b) e
    ∙ take_at front (end_line f) (length (front ++ end_line f) - length (end_line f)) (let l = length-append front (end_line f) in omega (arith, l))

module _ (given : Given) (q : Parameters) (f : Level) where
  -- the lines before E
  abbrev pub before : Bytes
  before = (first_line_of q ++ given_lines given q) ++ elements_lines q.n 1 f

  pub file_is : file_of given q f ≡ before ++ end_line f
  file_is =
      sym (append_assoc (first_line_of q) (given_lines given q) (elements_lines q.n 1 f ++ end_line f))
      ∙ sym (append_assoc (first_line_of q ++ given_lines given q) (elements_lines q.n 1 f) (end_line f))

  module _ (bytes : Bytes) (text : bytes ≡ file_of given q f) where
    pub before_is : before_end bytes f ≡ before
    before_is = front_is bytes before f (text ∙ file_is)

    pub heads_are : suc (head_lines bytes f) ≡ first_term_line given
    heads_are =
        let c = counts (first_line_of q ++ given_lines given q) (elements_lines q.n 1 f) in
        let e = elements_end q.n 1 f in
        let h = heads_end given q in
        let b = ap (ends) before_is in
        omega (arith, c, e, h, b)

    pub with_element_is : (v : Vector) → with_element q.n bytes f v ≡ file_of given q (f ++ v ∷ [])
    with_element_is v =
        ap (λ z. z ++ (element_lines q.n (suc (length f)) v ++ end_line (f ++ v ∷ []))) before_is
        ∙ append_assoc (first_line_of q ++ given_lines given q) (elements_lines q.n 1 f)
        (element_lines q.n (suc (length f)) v ++ end_line (f ++ v ∷ []))
        ∙ append_assoc (first_line_of q) (given_lines given q)
        (elements_lines q.n 1 f ++ (element_lines q.n (suc (length f)) v ++ end_line (f ++ v ∷ [])))
        ∙ ap (λ z. first_line_of q ++ (given_lines given q ++ z))
        (sym (append_assoc (elements_lines q.n 1 f) (element_lines q.n (suc (length f)) v) (end_line (f ++ v ∷ [])))
        ∙ ap (λ z. z ++ end_line (f ++ v ∷ [])) (sym (elements_more q.n 1 f v ∙ ap (λ k. elements_lines q.n 1 f ++ element_lines q.n k v)
        (let e : 1 + length f ≡ suc (length f) = omega arith in e))))

-- ## It is well-formed

module _ (lim : Limits) (q : Parameters) (f : Level) (h : T (levels_sound? lim q (f ∷ []))) (v : Vector) (filled : 1 ≤ length v)
    (sound : T (every (term_sound? lim q q.s) v)) (descends : T (strictly_descending? (compare_over q.code []) v))
    (room : suc (length f) ≤ lim.elements) (short : terms_of f + length v ≤ lim.t_lines) where
  new_sound : T (vector_sound? lim q q.s lim.t_lines [] v)
  new_sound = vector_shown lim q q.s lim.t_lines [] v (record { filled = filled; short = omega (arith, short); terms = sound; descends = descends })

  pub more_sound : T (levels_sound? lim q ((f ++ v ∷ []) ∷ []))
  more_sound =
      let b = basis_says lim q f h in
      basis_shown lim q (f ++ v ∷ []) (record {
        some_element = let e = length_more f v in omega (arith, e);
        few = let e = length_more f v in omega (arith, e, room);
        short = let e = terms_more f v in omega (arith, e, short);
        vectors = every_append (vector_sound? lim q q.s lim.t_lines []) f (v ∷ []) b.vectors
            (and_both (vector_sound? lim q q.s lim.t_lines [] v) true new_sound tt);
      })

  pub longer_file : (bytes : Bytes) (w : WellFormedFile lim bytes q f) → length (with_element q.n bytes f v) ≤ lim.file
      → WellFormedFile lim (with_element q.n bytes f v) q (f ++ v ∷ [])
  longer_file bytes w l = record {
    given = w.given;
    text = with_element_is w.given q f bytes w.text v;
    well = basis_well lim q w.given (f ++ v ∷ []) w.well.parameters w.well.degrees w.well.weights more_sound;
    fits = l;
  }

  pub longer_given : (bytes : Bytes) (w : WellFormedFile lim bytes q f) (l : length (with_element q.n bytes f v) ≤ lim.file)
      → (longer_file bytes w l).given ≡ w.given
  unfolding longer_file
  longer_given bytes w l = refl
