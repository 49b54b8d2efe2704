-- What is printed for each file.
use mathlib.Core.Path.{◌≡◌, refl, sym, ap, ◌∙◌, subst}
use mathlib.Core.Logic.{◌⊎◌, inl, inr}
use mathlib.Core.Option.{Option, none, some}
use mathlib.Core.List.{List, [], ◌∷◌, append-nil}
use Prim.Native.Nat.{ℕ, suc, ◌<◌}
use native.Mathlib.Omega.{arith}
use lib.Dec.{T}
use lib.ListN.{length}
use Rattle.definitions.specs.Limits.{Limits, document_01}
use Rattle.definitions.specs.Lists.{every, from}
use Rattle.definitions.specs.Monomial.{Vector, Level, leading_monomials}
use Rattle.definitions.specs.Result.{Result, done, refused, unfinished, ◌>>=◌}
use Rattle.definitions.specs.Stage.{highest}
use Rattle.definitions.specs.Problem.{Bytes, Parameters, problem}
use Rattle.definitions.specs.State.{State, sound?}
use Rattle.definitions.specs.Calls.{read}
use Rattle.definitions.specs.Sheet.{printed, letter_X, w_lines, x_lines, levels_from, variables_of, sheet_of, sheet}
use Rattle.definitions.specs.Program.{lifted, printed_or_refused}
use Rattle.definitions.specs.Hilbert.{letter_H, h_lines, hilbert_lines, hilbert_of, hilbert}
use Rattle.definitions.specs.Places.{hilbert_degrees}
use Rattle.laws.proofs.Tests.{between_shown}
use Rattle.laws.proofs.Sound.{sound_says}
use Rattle.laws.proofs.Steady.{answered?, steady_once}
use Rattle.laws.proofs.Reading.{basis_state}
use Rattle.files.specs.Files.{WellFormedFile}
use Rattle.files.specs.Answers.{too_long, at_line, LineNumber}
use Rattle.demands.specs.Notions.{GröbnerBasis}
use Rattle.demands.specs.Demands.{sensible?, no_basis, limit_met, RefusedReading, ill_formed, not_accepted, printed_levels}
use Rattle.demands.proofs.Results.{Holds, holds, nothing, holds_at, some_is}
use Rattle.demands.proofs.Reader.{files}
use Rattle.demands.proofs.Held.{Standing}
use Rattle.demands.proofs.Sheets.{Reading, taken, refused_reading, still_reading, reading}
use Rattle.demands.proofs.Demand1.{demand_1}
use Rattle.lengths.proofs.Lengths.{levels_end}
use Rattle.betti.specs.Notions.{paged?}
use Rattle.betti.proofs.Levels
use Rattle.betti.proofs.Levels.{filled?, listed, Goes_on, all_lifted, open_yet, goes_on}
use Rattle.betti.proofs.Heads.{printed_once}
use Rattle.standard_monomials.specs.Hilbert.{ValuesRight, LinesForm, listed_values, cut_off, not_read, not_taken, OfTheSheet, HilbertRight}
use Rattle.standard_monomials.proofs.Standard.{standard_right}
use Rattle.standard_monomials.proofs.Bounds.{sums_fit, lines_fit}
use Rattle.standard_monomials.proofs.Values.{value_is, values_right, last_empty, lines_same}
use Rattle.standard_monomials.proofs.Ends.{hilbert_steady}

-- ## Bounds

is_answered : {A : Type 0} (x : Option A) (a : A) → x ≡ some a → T (answered? x)
is_answered x a e = subst (λ z. T (answered? z)) (sym e) tt

one_answer : (lim : Limits) (n m : ℕ) (bytes a b : Bytes) → hilbert lim n bytes ≡ some a → hilbert lim m bytes ≡ some b → a ≡ b
one_answer lim n m bytes a b x y =
    some_is (sym x ∙ steady_once answered? (λ n. hilbert lim n bytes) (hilbert_steady lim bytes) n m (is_answered (hilbert lim n bytes) a x)
    (is_answered (hilbert lim m bytes) b y) ∙ y)

-- ## Results

module _ (X : State) where
  state_of : Result State → State
  state_of (done Z) = Z
  state_of (refused number place value) = X
  state_of unfinished = X

  same_state : (Z : State) → ◌≡◌ {A = Result State} (done Z) (done X) → Z ≡ X
  unfolding state_of
  same_state Z e = ap state_of e

  refused_not : {number place : ℕ} {value : Vector} → ◌≡◌ {A = Result State} (refused number place value) (done X) → ⊥
  refused_not e = let z : ◌≡◌ {A = ℕ} 0 1 = cc in omega arith

  open_not : ◌≡◌ {A = Result State} unfinished (done X) → ⊥
  open_not e = let z : ◌≡◌ {A = ℕ} 0 1 = cc in omega arith

-- frame terms are numbered lexicographically, and there are more levels than variables
module _ (lim : Limits) (o : T (sensible? lim)) (p : T (paged? lim)) (one : (code : ℕ) → lim.numbering code ≡ 1) (room : lim.variables < lim.levels) where
  variables : (bytes : Bytes) {q : Parameters} {f : Level} → WellFormedFile lim bytes q f → variables_of (problem lim bytes) ≡ q.n
  variables bytes {q} {f} w = ap variables_of ((files lim o).taken bytes q f w)

  basis_filled : (q : Parameters) (f : Level) → T (sound? lim (basis_state (q, f))) → T (every filled? (f ∷ []))
  basis_filled q [] h = absurd (sound_says lim (basis_state (q, [])) h).levels
  basis_filled q (v ∷ f) h = tt

  -- an accepted file, lifted on
  lifted_on : (q : Parameters) (f : Level) (n : ℕ) → Standing lim q f 0 (f ∷ [])
      → Goes_on lim q f f [] (lifted lim n (basis_state (q, f))) (levels_from lim n lim.levels 1 (basis_state (q, f)))
  lifted_on q f n s = goes_on lim o q f n lim.levels f [] s (basis_filled q f s.sound) (omega arith)

  -- ## The answer comes

  module _ (n : ℕ) (bytes : Bytes) where
    lines_come : (v : ℕ) (q : Parameters) (f : Level) {x : Result State} {y : Option Bytes} → Goes_on lim q f f [] x y → T (answered? y)
        → T (answered? (printed_or_refused v (x >>= λ Y. done (hilbert_lines Y))))
    lines_come v q f (all_lifted s t e k) a = tt
    lines_come v q f (Levels.limit_met top under number s t u k) a = tt
    lines_come v q f open_yet a = a

    comes : T (answered? (sheet lim n bytes)) → T (answered? (hilbert lim n bytes))
    comes t = go (read lim n bytes) (reading lim o n bytes) t
      where
        go : (x : Result State) → Reading lim bytes x → T (answered? (sheet_of lim n (variables_of (problem lim bytes)) x))
            → T (answered? (printed_or_refused (variables_of (problem lim bytes)) (x >>= hilbert_of lim n)))
        go x (taken {q} {f} w s) t = lines_come (variables_of (problem lim bytes)) q f (lifted_on q f n s) t
        go x (refused_reading r) t = tt
        go x still_reading t = t

  lines_end : (bytes : Bytes) → (n : ℕ) × ((out : Bytes) × (hilbert lim n bytes ≡ some out))
  lines_end bytes =
      let e = (demand_1 lim o).sheet_ends bytes in
      (e.0, answer_of (hilbert lim e.0 bytes) (comes e.0 bytes (is_answered (sheet lim e.0 bytes) e.1.0 e.1.1)))
    where
      answer_of : (x : Option Bytes) → T (answered? x) → (out : Bytes) × (x ≡ some out)
      answer_of none t = absurd t
      answer_of (some out) t = (out, refl)

  as_the_sheet : (n : ℕ) (bytes : Bytes) (number place : ℕ) (value : Vector) → read lim n bytes ≡ refused number place value
      → hilbert lim n bytes ≡ sheet lim n bytes
  as_the_sheet n bytes number place value e =
      let m = variables_of (problem lim bytes) in
      ap (λ x. printed_or_refused m (x >>= hilbert_of lim n)) e ∙ sym (ap (sheet_of lim n m) e)

  -- ## The forms

  -- the highest of the levels that are lifted is empty
  highest_empty : (bytes : Bytes) (q : Parameters) (f : Level) (w : WellFormedFile lim bytes q f) → GröbnerBasis q [] f
      → (top : Level) (under : List Level) (s : Standing lim q f (length under) (top ∷ under)) → (t : T (every filled? under))
      → (top ≡ []) ⊎ (length under ≡ lim.levels) → top ≡ []
  highest_empty bytes q f w b top under s t e =
      last_empty lim o (levels_end lim o one room) one room bytes q top under (listed lim bytes q f w top under s t) b e

  module _ (n : ℕ) (bytes : Bytes) where
    abbrev Form : Option Bytes → Type 0
    Form x = Holds (LinesForm lim bytes) x

    all_listed : (q : Parameters) (f : Level) (w : WellFormedFile lim bytes q f) (top : Level) (under : List Level)
        → Standing lim q f (length under) (top ∷ under) → T (every filled? under) → top ≡ []
        → sheet lim n bytes ≡ some (printed_levels q.n (top ∷ under))
        → LinesForm lim bytes (hilbert_lines (record { parameters = q; levels = top ∷ under }))
    all_listed q f w [] under s t e k =
        let L = listed lim bytes q f w [] under s t in listed_values n L k (values_right lim o bytes q under L p s.sound)
    all_listed q f w (v ∷ top) under s t e k = absurd (let z : suc (length top) ≡ 0 = ap length e in omega (arith, z))

    -- an accepted file
    goes : (q : Parameters) (f : Level) (w : WellFormedFile lim bytes q f) → GröbnerBasis q [] f → read lim n bytes ≡ done (basis_state (q, f))
        → {x : Result State} {y : Option Bytes} → Goes_on lim q f f [] x y → levels_from lim n lim.levels 1 (basis_state (q, f)) ≡ y
        → Form (printed_or_refused (variables_of (problem lim bytes)) (x >>= λ Y. done (hilbert_lines Y)))
    goes q f w b r (all_lifted {h = top} {under = under} s t e k) z =
        holds (all_listed q f w top under s t (highest_empty bytes q f w b top under s t e)
        (ap (sheet_of lim n (variables_of (problem lim bytes))) r ∙ z ∙ ap some (sym k)))
    goes q f w b r (Levels.limit_met top under number s t u k) z =
        holds (subst (λ m. LinesForm lim bytes (x_lines m number (suc (length under)) [])) (sym (variables bytes w))
        (cut_off number n (listed lim bytes q f w top under s t)
        (ap (sheet_of lim n (variables_of (problem lim bytes))) r ∙ z ∙ ap some (sym k)) u))
    goes q f w b r open_yet z = nothing

    refusal : {number place : ℕ} {value : Vector} → RefusedReading lim bytes number place value
        → LinesForm lim bytes (x_lines (variables_of (problem lim bytes)) number place value)
    refusal (ill_formed {number} {place} r) = subst (LinesForm lim bytes) (sym (append-nil (printed letter_X (number ∷ place ∷ [])))) (not_read r)
    refusal (not_accepted (no_basis {place = place} {value = value} b w d t s)) =
        subst (λ n. LinesForm lim bytes (x_lines n 9 place value)) (sym (variables bytes w)) (not_taken (no_basis b w d t s))
    refusal (not_accepted (limit_met {number = number} b w d l)) =
        subst (λ n. LinesForm lim bytes (x_lines n number 0 [])) (sym (variables bytes w)) (not_taken (limit_met b w d l))

    lines_form : Form (hilbert lim n bytes)
    lines_form = go (read lim n bytes) refl (reading lim o n bytes)
      where
        go : (x : Result State) → read lim n bytes ≡ x → Reading lim bytes x
            → Form (printed_or_refused (variables_of (problem lim bytes)) (x >>= hilbert_of lim n))
        go x e (taken {q} {f} w s) = goes q f w s.exact e (lifted_on q f n s) refl
        go x e (refused_reading r) = holds (refusal r)
        go x e still_reading = nothing

  -- ## Values

  module _ (n : ℕ) (bytes : Bytes) (X Y : State) (r : read lim n bytes ≡ done X) (l : lifted lim n X ≡ done Y) where
    lifted_printed : hilbert lim n bytes ≡ some (hilbert_lines Y)
    lifted_printed =
        let m = variables_of (problem lim bytes) in
        ap (λ x. printed_or_refused m (x >>= hilbert_of lim n)) r ∙ ap (λ x. printed_or_refused m (x >>= λ Y. done (hilbert_lines Y))) l

    abbrev Right : State → State → Type 0
    Right X Y = ValuesRight X.parameters (highest X.levels) Y.levels (hilbert_lines Y)

    lifted_values : Right X Y
    lifted_values = go (read lim n bytes) r (reading lim o n bytes)
      where
        all : (q : Parameters) (f : Level) (w : WellFormedFile lim bytes q f) (top : Level) (under : List Level)
            → Standing lim q f (length under) (top ∷ under) → T (every filled? under) → top ≡ []
            → Right (basis_state (q, f)) (record { parameters = q; levels = top ∷ under })
        all q f w [] under s t e = values_right lim o bytes q under (listed lim bytes q f w [] under s t) p s.sound
        all q f w (v ∷ top) under s t e = absurd (let z : suc (length top) ≡ 0 = ap length e in omega (arith, z))

        ends : (q : Parameters) (f : Level) (w : WellFormedFile lim bytes q f) → GröbnerBasis q [] f → {x : Result State} {y : Option Bytes}
            → Goes_on lim q f f [] x y → x ≡ done Y → Right (basis_state (q, f)) Y
        ends q f w b (all_lifted {h = top} {under = under} s t e k) z =
            subst (Right (basis_state (q, f))) (same_state Y (record { parameters = q; levels = top ∷ under }) z)
            (all q f w top under s t (highest_empty bytes q f w b top under s t e))
        ends q f w b (Levels.limit_met top under number s t u k) z = absurd (refused_not Y z)
        ends q f w b open_yet z = absurd (open_not Y z)

        go : (x : Result State) → x ≡ done X → Reading lim bytes x → Right X Y
        go x e (taken {q} {f} w s) =
            let same = same_state X (basis_state (q, f)) e in
            subst (λ Z. Right Z Y) same (ends q f w s.exact (lifted_on q f n s) (ap (lifted lim n) same ∙ l))
        go x e (refused_reading w) = absurd (refused_not X e)
        go x e still_reading = absurd (open_not X e)

  by_leading : (n n' : ℕ) (bytes bytes' : Bytes) (X X' Y Y' : State)
      → read lim n bytes ≡ done X → lifted lim n X ≡ done Y → read lim n' bytes' ≡ done X' → lifted lim n' X' ≡ done Y'
      → X.parameters.n ≡ X'.parameters.n → X.parameters.s ≡ X'.parameters.s → X.parameters.degrees ≡ X'.parameters.degrees
      → leading_monomials (highest X.levels) ≡ leading_monomials (highest X'.levels) → hilbert lim n bytes ≡ hilbert lim n' bytes'
  by_leading n n' bytes bytes' X X' Y Y' r l r' l' v s d e =
      let R = lifted_values n bytes X Y r l in
      let R' = lifted_values n' bytes' X' Y' r' l' in
      lifted_printed n bytes X Y r l
      ∙ ap some (R.text ∙ lines_same R.value R'.value hilbert_degrees 0 (λ x a b.
      R.counts x (omega (arith, b))
      ∙ ap length (standard_right.by_leading X.parameters X'.parameters (highest X.levels) (highest X'.levels) x v s d e)
      ∙ sym (R'.counts x (omega (arith, b)))) ∙ sym R'.text)
      ∙ sym (lifted_printed n' bytes' X' Y' r' l')

  -- ## Numbers of refusals

  first_byte : Bytes → ℕ
  first_byte [] = 0
  first_byte (b ∷ bytes) = b

  -- the lines do not begin as an X line does
  values_no_X : (value : ℕ → ℕ) (ds vs : List ℕ) → h_lines value ds ≡ printed letter_X vs → ⊥
  unfolding first_byte
  values_no_X value [] vs e = let z : 0 ≡ letter_X = ap first_byte e in omega (arith, z)
  values_no_X value (d ∷ ds) vs e = let z : letter_H ≡ letter_X = ap first_byte e in omega (arith, z)

  module _ (bytes : Bytes) (number place : ℕ) where
    -- an X line with its value
    number_is : (m k at : ℕ) (value : Vector) → OfTheSheet k → x_lines m k at value ≡ printed letter_X (number ∷ place ∷ []) → OfTheSheet number
    number_is m k at value s e =
        subst OfTheSheet (printed_once k at number place (w_lines m value) [] (e ∙ sym (append-nil (printed letter_X (number ∷ place ∷ []))))).first s

    line_of : (k : ℕ) → LineNumber k → OfTheSheet k
    line_of k (inl (a, b)) = inl (between_shown 1 k 9 a (omega (arith, b)))
    line_of k (inr e) = inr (inr e)

    form_number : {out : Bytes} → LinesForm lim bytes out → out ≡ printed letter_X (number ∷ place ∷ []) → OfTheSheet number
    form_number (listed_values bound L k R) e = absurd (values_no_X R.value (from 0 hilbert_degrees) (number ∷ place ∷ []) (sym R.text ∙ e))
    form_number (cut_off {q} {g} {below} k bound L s t) e =
        number_is q.n k (suc (length below)) [] (inr (inl t)) e
    form_number (not_read {number = k} {place = at} (too_long a b c)) e =
        number_is 0 k at [] (inl (between_shown 1 k 9 (omega (arith, a)) (omega (arith, a)))) (append-nil (printed letter_X (k ∷ at ∷ [])) ∙ e)
    form_number (not_read {number = k} {place = at} (at_line a b c d)) e =
        number_is 0 k at [] (line_of k a) (append-nil (printed letter_X (k ∷ at ∷ [])) ∙ e)
    form_number (not_taken {q} {number = k} {place = at} {value = value} (no_basis b w d t s)) e = number_is q.n 9 at value (inl tt) e
    form_number (not_taken {q} {number = k} {place = at} {value = value} (limit_met b w d l)) e = number_is q.n k 0 [] (inr (inl l)) e

  pub hilbert_right : HilbertRight lim
  hilbert_right = record {
    lines_end = lines_end;
    one_answer = one_answer lim;
    forms = λ n bytes out e. holds_at e (lines_form n bytes);
    as_the_sheet = as_the_sheet;
    no_other = λ n bytes number place e. form_number bytes number place (holds_at e (lines_form n bytes)) refl;
    values = λ n bytes X Y r l. (lifted_printed n bytes X Y r l, lifted_values n bytes X Y r l);
    reckoned = λ bytes q below L d h. value_is lim o bytes q below L d h;
    by_leading = by_leading;
    sums_fit = λ X s d h. sums_fit lim o p X s d h;
    lines_fit = λ X s. lines_fit lim o p X s;
  }

pub document_hilbert_right : HilbertRight document_01
document_hilbert_right = hilbert_right document_01 tt tt (λ code. refl) (omega arith)
