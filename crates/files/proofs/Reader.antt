-- The reader is right: what it takes, what it refuses and where.
use mathlib.Core.Path.{◌≡◌, refl, sym, ap, ◌∙◌, subst}
use mathlib.Core.Bool.{Bool, true, false}
use mathlib.Core.List.{List, [], ◌∷◌, ◌++◌}
use Prim.Native.Nat.{ℕ, zero, suc, ◌<◌, ◌≤◌}
use native.Mathlib.Omega.{arith}
use borrow.Author.Tests.{leb-true, leb-false}
use lib.Dec.{T, leb, lit≤}
use lib.ListN.{length, take}
use Rattle.definitions.specs.Limits.{Limits, document_01}
use Rattle.definitions.specs.Monomial.{Vector, Level}
use Rattle.definitions.specs.Result.{Result, done, refused, unfinished, unless_refused, ◌>>=◌}
use Rattle.definitions.specs.Problem.{Bytes, Parameters, Head, lines, first_line, head, problem}
use Rattle.definitions.specs.Written.{end_line}
use Rattle.files.specs.Files.{Given, elements_lines, file_of, weights_of, WellFormed, WellFormedFile, Wide, Roomy, FirstBadLine}
use Rattle.files.specs.Answers.{RefusedRight, too_long, at_line, Answered, Head-read, ReaderRight}
use Rattle.files.proofs.Heads.{lines_read, problem_sized, head_read}
use Rattle.files.proofs.Taken.{lines_taken, file_taken, head_of_file, file_head}
use Rattle.files.proofs.Only.{taken_only}
use Rattle.files.proofs.First.{IfRefused, BadLines, lines_bad}
use Rattle.files.proofs.Why.{refusal_why}
use Rattle.files.proofs.Because.{reason_refused, too_long_refused}

done? : {A : Type 0} → Result A → Bool
done? (done a) = true
done? (refused number place value) = false
done? unfinished = false

not_both : {A : Type 0} {a : A} {number place : ℕ} {value : Vector} (r : Result A) → r ≡ done a → r ≡ refused number place value → ⊥
unfolding done?
not_both r e k = subst (λ x. T (done? x)) (sym e ∙ k) tt

done_only : {A : Type 0} (x y : A) → ◌≡◌ {A = Result A} (done x) (done y) → x ≡ y
done_only {A} x y e = ap value e
  where
    value : Result A → A
    value (done a) = a
    value (refused number place v) = x
    value unfinished = x

module _ (lim : Limits) (wide : Wide lim) (room : Roomy lim) where
  answered : (bytes : Bytes) → Answered lim bytes (problem lim bytes)
  answered bytes = subst (Answered lim bytes) (sym (problem_sized lim bytes)) (sized (leb (length bytes) lim.file) refl)
    where
      bad_line : length bytes ≤ lim.file → (number place : ℕ) (value : Vector) → problem lim bytes ≡ refused number place value
          → BadLines lim wide room (lines bytes) number place value → Answered lim bytes (refused number place value)
      bad_line l number place value p b = (
        at_line b.is.right l (record {
          before = b.good;
          next = b.is.at;
          inside = b.inside;
          given = b.given;
          parameters = b.parameters;
          elements = b.elements;
          well = b.well;
          alike = b.alike;
          bad = λ g q f w e. not_both (lines_read lim (lines (file_of g q f))) (lines_taken lim wide g q f w)
              (b.local (lines (file_of g q f)) (subst (λ k. take k (lines (file_of g q f)) ≡ take k (lines bytes)) b.is.at e));
        }) (refusal_why lim wide bytes number place value l p),
        b.is.no_value,
      )

      by_lines : length bytes ≤ lim.file → (r : Result (Parameters × Level)) → problem lim bytes ≡ r
          → IfRefused (BadLines lim wide room (lines bytes)) r
          → Answered lim bytes r
      by_lines l (done x) e b =
          let t = taken_only lim wide.variables_in_eight bytes x.0 x.1 e in
          record { given = t.0; text = t.1; well = t.2; fits = l }
      by_lines l (refused number place value) e b = bad_line l number place value e b
      by_lines l unfinished e b = b

      sized : (c : Bool) → leb (length bytes) lim.file ≡ c → Answered lim bytes (unless_refused c 1 0 >>= λ u. lines_read lim (lines bytes))
      sized true e = by_lines (leb-true (length bytes) lim.file e) (lines_read lim (lines bytes))
          (problem_sized lim bytes ∙ ap (λ c. unless_refused c 1 0 >>= λ u. lines_read lim (lines bytes)) e) (lines_bad lim wide room (lines bytes))
      sized false e = (too_long refl refl (leb-false (length bytes) lim.file e), refl)

  refuses : (bytes : Bytes) (number place : ℕ) → RefusedRight lim bytes number place → problem lim bytes ≡ refused number place []
  refuses bytes number place (too_long n p l) = too_long_refused lim bytes l ∙ (λ i. refused (sym n i) (sym p i) [])
  refuses bytes number place (at_line m l b r) = reason_refused lim wide bytes number place l r

  -- what stands behind the head of a file
  abbrev behind : Parameters → Level → Bytes
  behind q f = elements_lines q.n 1 f ++ end_line f

  weighed : (bytes : Bytes) (q : Parameters) (f : Level) (w : WellFormedFile lim bytes q f) → Head-read lim bytes q (weights_of w.given q)
  weighed bytes q f w = record {
    said = head_read w.given q (lines (behind q f));
    read = subst (λ b. head lim b ≡ done (head_read w.given q (lines (behind q f)))) (sym w.text)
        (file_head lim wide w.given q f w.well (subst (λ b. length b ≤ lim.file) w.text w.fits));
    parameters = refl;
    weighed = refl;
  }

  same_weights : (given given' : Given) (q r : Parameters) (f g : Level) → WellFormed lim given q f → WellFormed lim given' r g
      → file_of given q f ≡ file_of given' r g → weights_of given q ≡ weights_of given' r
  same_weights given given' q r f g w u e =
      let x = head_read given q (lines (behind q f)) in
      let y = head_read given' r (lines (behind r g)) in
      ap (λ (h : Head). h.weights)
      (done_only x y (sym (head_of_file lim wide given q f w) ∙ ap (λ b. first_line lim (lines b)) e ∙ head_of_file lim wide given' r g u))

  pub reader_right : ReaderRight lim
  reader_right = record {
    taken = λ bytes q f w. subst (λ b. problem lim b ≡ done (q, f)) (sym w.text)
        (file_taken lim wide w.given q f w.well (subst (λ b. length b ≤ lim.file) w.text w.fits));
    weighed = weighed;
    refuses = refuses;
    answered = answered;
    once = λ given given' q r f g w u e. (
      done_only (q, f) (r, g) (sym (lines_taken lim wide given q f w) ∙ ap (λ b. lines_read lim (lines b)) e ∙ lines_taken lim wide given' r g u),
      same_weights given given' q r f g w u e,
    );
  }

-- there is one first bad line
take_less : {A : Type 0} (p k : ℕ) (l : List A) → p ≤ k → take p (take k l) ≡ take p l
take_less zero k l h = refl
take_less (suc p) zero l h = absurd (omega (arith, h))
take_less (suc p) (suc k) [] h = refl
take_less (suc p) (suc k) (a ∷ l) h = ap (λ z. a ∷ z) (take_less p k l (omega (arith, h)))

not_later : (lim : Limits) (bytes : Bytes) (p r : ℕ) → FirstBadLine lim bytes p → FirstBadLine lim bytes r → ¬ (p < r)
not_later lim bytes p r a b l =
    let n = b.next in
    let h : p ≤ b.before = omega (arith, l, n) in
    let x = lines (file_of b.given b.parameters b.elements) in
    a.bad b.given b.parameters b.elements b.well
    (sym (take_less p b.before x h) ∙ ap (take p) b.alike ∙ take_less p b.before (lines bytes) h)

pub one_place : (lim : Limits) (bytes : Bytes) (p r : ℕ) → FirstBadLine lim bytes p → FirstBadLine lim bytes r → p ≡ r
one_place lim bytes p r a b =
    let x = not_later lim bytes p r a b in
    let y = not_later lim bytes r p b a in
    omega (arith, x, y)

-- ## Document 01

pub document_wide : Wide document_01
document_wide = record {
  variables_in_eight = lit≤ tt;
  code_in_field = lit≤ tt;
  prime_in_field = lit≤ tt;
  variables_in_field = lit≤ tt;
  components_in_field = lit≤ tt;
  elements_in_field = lit≤ tt;
  exponent_in_field = lit≤ tt;
  t_lines_in_field = lit≤ tt;
  degree_in_field = lit≤ tt;
  weight_in_field = lit≤ tt;
}

pub document_roomy : Roomy document_01
document_roomy = record { a_prime = lit≤ tt; a_variable = lit≤ tt; a_component = lit≤ tt; an_element = lit≤ tt; a_term = lit≤ tt }

pub document_reader : ReaderRight document_01
document_reader = reader_right document_01 document_wide document_roomy
