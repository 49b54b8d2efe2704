-- What is printed for each file.
use mathlib.Core.Path.{◌≡◌, refl, sym, ap, ◌∙◌, subst}
use mathlib.Core.Logic.{inl, inr}
use mathlib.Core.Option.{Option, none, some, some-injective, none-ne-some}
use mathlib.Core.List.{[], ◌∷◌, append-nil}
use Prim.Native.Nat.{ℕ, suc, ◌+◌, ◌*◌, ◌≤◌}
use native.Mathlib.Omega.{arith}
use lib.Dec.{T}
use lib.ListN.{length}
use Rattle.definitions.specs.Limits.{Limits, document_01}
use Rattle.definitions.specs.Lists.{every}
use Rattle.definitions.specs.Monomial.{Vector, Level}
use Rattle.definitions.specs.Result.{Result, done, refused, unfinished, ◌>>=◌}
use Rattle.definitions.specs.Problem.{Bytes, Parameters, problem}
use Rattle.definitions.specs.State.{State, sound?}
use Rattle.definitions.specs.Calls.{read}
use Rattle.definitions.specs.Sheet.{printed, letter_X, w_lines, x_lines, levels_from, variables_of, sheet_of, sheet}
use Rattle.definitions.specs.Program.{lifted, printed_or_refused}
use Rattle.definitions.specs.Degrees.{degree_by}
use Rattle.definitions.specs.Betti.{first_mixed, unless_mixed, same_degree?, column_degrees, rows_in_use, all_rows, betti_count, betti_page}
use Rattle.definitions.specs.Betti.{betti_of, betti}
use Rattle.definitions.specs.Places.{row_shift, page_line_length}
use Rattle.laws.proofs.Tests.{between_high}
use Rattle.laws.proofs.Sound.{sound_says}
use Rattle.laws.proofs.Steady.{answered?, steady_once}
use Rattle.laws.proofs.Reading.{basis_state}
use Rattle.files.specs.Files.{WellFormedFile}
use Rattle.files.specs.Answers.{too_long, at_line, LineNumber}
use Rattle.demands.specs.Demands.{sensible?, no_basis, limit_met, RefusedReading, ill_formed, not_accepted}
use Rattle.demands.proofs.Results.{Holds, holds, nothing, holds_at, some_is}
use Rattle.demands.proofs.Reader.{files}
use Rattle.demands.proofs.Held.{Standing}
use Rattle.demands.proofs.Sheets.{Reading, taken, refused_reading, still_reading, reading}
use Rattle.demands.proofs.Demand1.{demand_1}
use Rattle.betti.specs.Notions.{paged?, FirstMixed, Homogeneous}
use Rattle.betti.specs.Betti.{PageForm, paged, mixed_element, cut_off, not_read, not_taken, BettiRight}
use Rattle.betti.proofs.Mixed.{FirstOf, first_by_degree, first_once}
use Rattle.betti.proofs.Pages.{page_right}
use Rattle.betti.proofs.Ends.{betti_steady, betti_ends}
use Rattle.betti.proofs.Levels
use Rattle.betti.proofs.Levels.{filled?, listed, Goes_on, all_lifted, open_yet, goes_on}
use Rattle.betti.proofs.Heads.{page_no_X, printed_once}
use Rattle.betti.proofs.Images.{most_listed}
use Rattle.betti.proofs.Short.{page_short}
use Rattle.betti.proofs.FrameTerms.{by_frame_terms, plain}

-- ## Bounds

answer_of : {A : Type 0} (x : Option A) → T (answered? x) → (a : A) × (x ≡ some a)
answer_of none t = absurd t
answer_of (some a) t = (a, refl)

is_answered : {A : Type 0} (x : Option A) (a : A) → x ≡ some a → T (answered? x)
is_answered x a e = subst (λ z. T (answered? z)) (sym e) tt

one_page : (lim : Limits) (n m : ℕ) (bytes a b : Bytes) → betti lim n bytes ≡ some a → betti lim m bytes ≡ some b → a ≡ b
one_page lim n m bytes a b x y =
    some_is (sym x ∙ steady_once answered? (λ n. betti lim n bytes) (betti_steady lim bytes) n m (is_answered (betti lim n bytes) a x)
    (is_answered (betti lim m bytes) b y) ∙ y)

module _ (lim : Limits) (o : T (sensible? lim)) where
  page_ends : (bytes : Bytes) → (n : ℕ) × ((out : Bytes) × (betti lim n bytes ≡ some out))
  page_ends bytes =
      let e = (demand_1 lim o).sheet_ends bytes in
      (e.0, answer_of (betti lim e.0 bytes) (betti_ends lim e.0 bytes (is_answered (sheet lim e.0 bytes) e.1.0 e.1.1)))

  variables : (bytes : Bytes) {q : Parameters} {f : Level} → WellFormedFile lim bytes q f → variables_of (problem lim bytes) ≡ q.n
  variables bytes {q} {f} w = ap variables_of ((files lim o).taken bytes q f w)

  basis_filled : (q : Parameters) (f : Level) → T (sound? lim (basis_state (q, f))) → T (every filled? (f ∷ []))
  basis_filled q [] h = absurd (sound_says lim (basis_state (q, [])) h).levels
  basis_filled q (v ∷ f) h = tt

  -- ## The forms

  module _ (p : T (paged? lim)) (n : ℕ) (bytes : Bytes) where
    v : ℕ
    v = variables_of (problem lim bytes)

    abbrev Form : Option Bytes → Type 0
    Form x = Holds (PageForm lim bytes) x

    -- an accepted file with homogeneous elements
    goes : (q : Parameters) (f : Level) → WellFormedFile lim bytes q f → read lim n bytes ≡ done (basis_state (q, f)) → Homogeneous (degree_by q.degrees) f
        → {x : Result State} {y : Option Bytes} → Goes_on lim q f f [] x y → levels_from lim n lim.levels 1 (basis_state (q, f)) ≡ y
        → Form (printed_or_refused v (x >>= λ Y. done (betti_page Y)))
    unfolding v
    goes q f w r h (all_lifted {h = top} {under = under} s t e k) z =
        holds (paged n (listed lim bytes q f w top under s t)
        (ap (sheet_of lim n (variables_of (problem lim bytes))) r ∙ z ∙ ap some (sym k)) e h
        (page_right lim p (record { parameters = q; levels = top ∷ under }) s.sound))
    goes q f w r h (Levels.limit_met top under number s t u k) z =
        holds (subst (λ m. PageForm lim bytes (x_lines m number (suc (length under)) [])) (sym (variables bytes w))
        (cut_off number n (listed lim bytes q f w top under s t)
        (ap (sheet_of lim n (variables_of (problem lim bytes))) r ∙ z ∙ ap some (sym k)) u h))
    goes q f w r h open_yet z = nothing

    -- an accepted file
    accepted_form : (q : Parameters) (f : Level) → WellFormedFile lim bytes q f → Standing lim q f 0 (f ∷ []) → read lim n bytes ≡ done (basis_state (q, f))
        → Form (printed_or_refused v (betti_of lim n (basis_state (q, f))))
    accepted_form q f w s r = go (first_mixed (same_degree? q.degrees) 1 f) (first_by_degree q.degrees f)
      where
        go : (i : Option ℕ) → FirstOf (degree_by q.degrees) f i
            → Form (printed_or_refused v (unless_mixed i 17 >>= λ u. lifted lim n (basis_state (q, f)) >>= λ Y. done (betti_page Y)))
        go none h = goes q f w r h (goes_on lim o q f n lim.levels f [] s (basis_filled q f s.sound) (omega arith)) refl
        go (some i) h =
            holds (subst (PageForm lim bytes) (sym (append-nil (printed letter_X (17 ∷ i ∷ [])))) (mixed_element w s.exact h))

    refusal : {number place : ℕ} {value : Vector} → RefusedReading lim bytes number place value → PageForm lim bytes (x_lines v number place value)
    unfolding v
    refusal (ill_formed {number} {place} r) = subst (PageForm lim bytes) (sym (append-nil (printed letter_X (number ∷ place ∷ [])))) (not_read r)
    refusal (not_accepted (no_basis {place = place} {value = value} b w d t s)) =
        subst (λ n. PageForm lim bytes (x_lines n 9 place value)) (sym (variables bytes w)) (not_taken (no_basis b w d t s))
    refusal (not_accepted (limit_met {number = number} b w d l)) =
        subst (λ n. PageForm lim bytes (x_lines n number 0 [])) (sym (variables bytes w)) (not_taken (limit_met b w d l))

    page_form : Form (betti lim n bytes)
    unfolding v
    page_form = go (read lim n bytes) refl (reading lim o n bytes)
      where
        go : (x : Result State) → read lim n bytes ≡ x → Reading lim bytes x
            → Form (printed_or_refused (variables_of (problem lim bytes)) (x >>= betti_of lim n))
        go x e (taken {q} {f} w s) = accepted_form q f w s e
        go x e (refused_reading r) = holds (refusal r)
        go x e still_reading = nothing

  as_the_sheet : (n : ℕ) (bytes : Bytes) (number place : ℕ) (value : Vector) → read lim n bytes ≡ refused number place value
      → betti lim n bytes ≡ sheet lim n bytes
  as_the_sheet n bytes number place value e =
      let m = variables_of (problem lim bytes) in
      ap (λ x. printed_or_refused m (x >>= betti_of lim n)) e ∙ sym (ap (sheet_of lim n m) e)

  -- ## How long

  few_lines : T (paged? lim) → (n : ℕ) (bytes : Bytes) (X Y : State) → read lim n bytes ≡ done X → lifted lim n X ≡ done Y
      → length (betti_page Y) ≤ suc (suc (most_listed + row_shift)) * page_line_length
  few_lines p n bytes X Y r l = go (read lim n bytes) r (reading lim o n bytes)
    where
      state_of : Result State → State
      state_of (done Z) = Z
      state_of (refused number place value) = Y
      state_of unfinished = Y

      same : (Z W : State) → ◌≡◌ {A = Result State} (done Z) (done W) → Z ≡ W
      same Z W e = ap state_of e

      other : {number place : ℕ} {value : Vector} {Z : State} → ◌≡◌ {A = Result State} (refused number place value) (done Z) → ⊥
      other e = let z : ◌≡◌ {A = ℕ} 0 1 = cc in omega arith

      open_no : {Z : State} → ◌≡◌ {A = Result State} unfinished (done Z) → ⊥
      open_no e = let z : ◌≡◌ {A = ℕ} 0 1 = cc in omega arith

      Short : State → Type 0
      Short Z = length (betti_page Z) ≤ suc (suc (most_listed + row_shift)) * page_line_length

      ends : (q : Parameters) (f : Level) {x : Result State} {y : Option Bytes} → Goes_on lim q f f [] x y → x ≡ done Y → Short Y
      ends q f (all_lifted {h = top} {under = under} s t e k) z =
          subst Short (same (record { parameters = q; levels = top ∷ under }) Y z)
          (page_short lim p (record { parameters = q; levels = top ∷ under }) s.sound s.exact)
      ends q f (Levels.limit_met top under number s t u k) z = absurd (other z)
      ends q f open_yet z = absurd (open_no z)

      go : (x : Result State) → x ≡ done X → Reading lim bytes x → Short Y
      go x e (taken {q} {f} w s) =
          ends q f (goes_on lim o q f n lim.levels f [] s (basis_filled q f s.sound) (omega arith))
          (ap (lifted lim n) (same (basis_state (q, f)) X e) ∙ l)
      go x e (refused_reading w) = absurd (other e)
      go x e still_reading = absurd (open_no e)

  -- ## 17

  module _ (n : ℕ) (bytes : Bytes) (i : ℕ) where
    abbrev Is17 : Option Bytes → Type 0
    Is17 x = x ≡ some (printed letter_X (17 ∷ i ∷ []))

    abbrev AcceptedMixed : Type 0
    AcceptedMixed =
        (q : Parameters) × ((f : Level) × ((read lim n bytes ≡ done (record { parameters = q; levels = f ∷ [] })) × FirstMixed (degree_by q.degrees) f i))

    -- an X line with its value, of another number
    no_17 : (m number place : ℕ) (value : Vector) → ¬ (number ≡ 17) → ¬ (Is17 (some (x_lines m number place value)))
    no_17 m number place value other e =
        other (printed_once number place 17 i (w_lines m value) [] (some-injective _ _ e ∙ sym (append-nil (printed letter_X (17 ∷ i ∷ []))))).first

    refused_other : {number place : ℕ} {value : Vector} → RefusedReading lim bytes number place value → ¬ (number ≡ 17)
    refused_other (ill_formed {number} {place} (too_long e z l)) k = omega (arith, e, k)
    refused_other (ill_formed {number} {place} (at_line l a b c)) k = line l k
      where
        line : {number : ℕ} → LineNumber number → ¬ (number ≡ 17)
        line (inl (a, b)) k = omega (arith, b, k)
        line (inr (inl e)) k = omega (arith, e, k)
        line (inr (inr e)) k = omega (arith, e, k)
    refused_other (not_accepted (no_basis b w d t s)) k = omega (arith, k)
    refused_other (not_accepted (limit_met {number = number} b w d l)) k = let h = between_high 13 number 15 l in omega (arith, h, k)

    -- from the bytes to the element
    from_17 : Is17 (betti lim n bytes) → AcceptedMixed
    from_17 = go (read lim n bytes) refl (reading lim o n bytes)
      where
        lifted_no : (q : Parameters) (f : Level) {x : Result State} {y : Option Bytes} → Goes_on lim q f f [] x y
            → ¬ (Is17 (printed_or_refused (variables_of (problem lim bytes)) (x >>= λ Y. done (betti_page Y))))
        lifted_no q f (all_lifted {h = top} {under = under} s t e k) z =
            let X : State = record { parameters = q; levels = top ∷ under } in
            page_no_X (betti_count (column_degrees X)) (all_rows (rows_in_use 0 (column_degrees X))) (17 ∷ i ∷ []) (some-injective _ _ z)
        lifted_no q f (Levels.limit_met top under number s t u k) z =
            no_17 (variables_of (problem lim bytes)) number (suc (length under)) [] (λ e. let h = between_high 13 number 15 u in omega (arith, h, e)) z
        lifted_no q f open_yet z = none-ne-some _ z

        mixed : (q : Parameters) (f : Level) → Standing lim q f 0 (f ∷ []) → read lim n bytes ≡ done (basis_state (q, f)) → (j : Option ℕ)
            → FirstOf (degree_by q.degrees) f j
            → Is17 (printed_or_refused (variables_of (problem lim bytes))
            (unless_mixed j 17 >>= λ u. lifted lim n (basis_state (q, f)) >>= λ Y. done (betti_page Y)))
            → AcceptedMixed
        mixed q f s r none h z =
            absurd (lifted_no q f (goes_on lim o q f n lim.levels f [] s (basis_filled q f s.sound) (omega arith)) z)
        mixed q f s r (some j) h z =
            let e = (printed_once 17 j 17 i [] [] (some-injective _ _ z ∙ sym (append-nil (printed letter_X (17 ∷ i ∷ []))))).second in
            (q, (f, (r, subst (FirstMixed (degree_by q.degrees) f) e h)))

        go : (x : Result State) → read lim n bytes ≡ x → Reading lim bytes x
            → Is17 (printed_or_refused (variables_of (problem lim bytes)) (x >>= betti_of lim n)) → AcceptedMixed
        go x e (taken {q} {f} w s) z = mixed q f s e (first_mixed (same_degree? q.degrees) 1 f) (first_by_degree q.degrees f) z
        go x e (refused_reading {number} {place} {value} r) z =
            absurd (no_17 (variables_of (problem lim bytes)) number place value (refused_other r) z)
        go x e still_reading z = absurd (none-ne-some _ z)

    -- and back
    to_17 : AcceptedMixed → Is17 (betti lim n bytes)
    to_17 (q, (f, (r, m))) =
        ap (λ x. printed_or_refused (variables_of (problem lim bytes)) (x >>= betti_of lim n)) r
        ∙ go (first_mixed (same_degree? q.degrees) 1 f) (first_by_degree q.degrees f)
      where
        go : (j : Option ℕ) → FirstOf (degree_by q.degrees) f j
            → Is17 (printed_or_refused (variables_of (problem lim bytes))
            (unless_mixed j 17 >>= λ u. lifted lim n (basis_state (q, f)) >>= λ Y. done (betti_page Y)))
        go none h = absurd (h i m.low m.high m.mixed)
        go (some j) h =
            ap some (append-nil (printed letter_X (17 ∷ j ∷ [])))
            ∙ ap (λ k. some (printed letter_X (17 ∷ k ∷ []))) (first_once (degree_by q.degrees) f j i h m)

  pub betti_right : T (paged? lim) → BettiRight lim
  betti_right p = record {
    page_ends = page_ends;
    one_page = one_page lim;
    pages = λ n bytes out e. holds_at e (page_form p n bytes);
    as_the_sheet = λ n bytes number place value e. as_the_sheet n bytes number place value e;
    seventeen = λ n bytes i. (from_17 n bytes i, to_17 n bytes i);
    few_lines = λ n bytes X Y r l. few_lines p n bytes X Y r l;
    by_frame_terms = by_frame_terms lim;
    plain = plain;
  }

pub document_betti_right : BettiRight document_01
document_betti_right = betti_right document_01 tt tt
