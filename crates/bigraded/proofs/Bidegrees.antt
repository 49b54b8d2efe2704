-- What is printed for each file.
use mathlib.Core.Path.{◌≡◌, refl, sym, ap, ◌∙◌, subst}
use mathlib.Core.Logic.{◌⊎◌, inl, inr}
use mathlib.Core.Option.{Option, none, some, some-injective, none-ne-some}
use mathlib.Core.List.{List, [], ◌∷◌, append-nil}
use Prim.Native.Nat.{ℕ, suc, ◌<◌, ◌≤◌}
use native.Mathlib.Omega.{arith}
use lib.Dec.{T}
use lib.ListN.{length}
use Rattle.definitions.specs.Limits.{Limits, document_01}
use Rattle.definitions.specs.Lists.{every}
use Rattle.definitions.specs.Monomial.{Vector, Level}
use Rattle.definitions.specs.Result.{Result, done, refused, unfinished, ◌>>=◌}
use Rattle.definitions.specs.Problem.{Bytes, Parameters, Head, head, problem}
use Rattle.definitions.specs.State.{State, sound?}
use Rattle.definitions.specs.Calls.{read}
use Rattle.definitions.specs.Sheet.{printed, letter_X, w_lines, x_lines, levels_from, variables_of, sheet_of, sheet}
use Rattle.definitions.specs.Program.{lifted, printed_or_refused}
use Rattle.definitions.specs.Betti.{first_mixed, unless_mixed}
use Rattle.definitions.specs.Bidegrees.{letter_B, bidegree, bidegree_lines, bidegrees_of, bidegrees}
use Rattle.definitions.specs.Places.{bidegrees_length}
use Rattle.laws.proofs.Tests.{between_high}
use Rattle.laws.proofs.Sound.{sound_says}
use Rattle.laws.proofs.Steady.{answered?, steady_once}
use Rattle.laws.proofs.Reading.{basis_state}
use Rattle.files.specs.Files.{Given, WeightsSaid, weights_of, WellFormedFile}
use Rattle.files.specs.Answers.{too_long, at_line, LineNumber}
use Rattle.demands.specs.Demands.{sensible?, no_basis, limit_met, RefusedReading, ill_formed, not_accepted}
use Rattle.demands.proofs.Results.{Holds, holds, nothing, holds_at, some_is}
use Rattle.demands.proofs.Reader.{files}
use Rattle.demands.proofs.Held.{Standing}
use Rattle.demands.proofs.Sheets.{Reading, taken, refused_reading, still_reading, reading}
use Rattle.demands.proofs.Demand1.{demand_1}
use Rattle.betti.specs.Notions.{paged?, FirstMixed, Homogeneous}
use Rattle.betti.proofs.Columns.{paged_says}
use Rattle.betti.proofs.Levels
use Rattle.betti.proofs.Levels.{filled?, listed, Goes_on, all_lifted, open_yet, goes_on}
use Rattle.betti.proofs.Heads.{printed_once}
use Rattle.betti.proofs.Mixed.{FirstOf, first_once}
use Rattle.bigraded.specs.Notions.{file_weights, entry_lines, Entry}
use Rattle.bigraded.specs.Bidegrees.{LinesBounded, LinesForm, listed_lines, mixed_element, cut_off, not_read, not_taken, BidegreesRight}
use Rattle.bigraded.proofs.Weighted.{Small, small_pairs, small_plain}
use Rattle.bigraded.proofs.Lines.{lines_right, entries_are}
use Rattle.bigraded.proofs.Bounds.{lines_bounded}
use Rattle.bigraded.proofs.Ones.{ones}
use Rattle.bigraded.proofs.Mixed.{same?, first_by_bidegree}
use Rattle.bigraded.proofs.Ends.{bidegrees_steady}

-- ## Bounds

is_answered : {A : Type 0} (x : Option A) (a : A) → x ≡ some a → T (answered? x)
is_answered x a e = subst (λ z. T (answered? z)) (sym e) tt

one_answer : (lim : Limits) (n m : ℕ) (bytes a b : Bytes) → bidegrees lim n bytes ≡ some a → bidegrees lim m bytes ≡ some b → a ≡ b
one_answer lim n m bytes a b x y =
    some_is (sym x ∙ steady_once answered? (λ n. bidegrees lim n bytes) (bidegrees_steady lim bytes) n m (is_answered (bidegrees lim n bytes) a x)
    (is_answered (bidegrees lim m bytes) b y) ∙ y)

-- ## Weights

-- a file's weights are 0 to 15
weights_small : (given : Given) (q : Parameters) → WeightsSaid given.weights q → Small (weights_of given q)
weights_small given q = go given.weights
  where
    go : (o : Option (List ℕ)) → WeightsSaid o q → Small (weights_of (record { degrees = given.degrees; weights = o }) q)
    go none h = small_plain q.n
    go (some v) h = small_pairs v h.each_to

pub file_small : {lim : Limits} {bytes : Bytes} {q : Parameters} {f : Level} (w : WellFormedFile lim bytes q f) → Small (file_weights w)
file_small {q = q} w = weights_small w.given q w.well.weights

-- the lines do not begin as an X line does
first_byte : Bytes → ℕ
first_byte [] = 0
first_byte (b ∷ bytes) = b

lines_no_X : (es : List Entry) (vs : List ℕ) → entry_lines es ≡ printed letter_X vs → ⊥
unfolding first_byte
lines_no_X [] vs e = let z : 0 ≡ letter_X = ap first_byte e in omega (arith, z)
lines_no_X (x ∷ es) vs e = let z : letter_B ≡ letter_X = ap first_byte e in omega (arith, z)

module _ (lim : Limits) (o : T (sensible? lim)) where
  -- with the weights of the file
  weighed : (n : ℕ) (bytes : Bytes) {q : Parameters} {f : Level} (w : WellFormedFile lim bytes q f) (X : State)
      → (head lim bytes >>= λ h. bidegrees_of lim n h.weights X) ≡ bidegrees_of lim n (file_weights w) X
  weighed n bytes {q} {f} w X =
      let h = (files lim o).weighed bytes q f w in
      ap (λ r. r >>= λ h. bidegrees_of lim n h.weights X) h.read ∙ ap (λ ws. bidegrees_of lim n ws X) h.weighed

  variables : (bytes : Bytes) {q : Parameters} {f : Level} → WellFormedFile lim bytes q f → variables_of (problem lim bytes) ≡ q.n
  variables bytes {q} {f} w = ap variables_of ((files lim o).taken bytes q f w)

  basis_filled : (q : Parameters) (f : Level) → T (sound? lim (basis_state (q, f))) → T (every filled? (f ∷ []))
  basis_filled q [] h = absurd (sound_says lim (basis_state (q, [])) h).levels
  basis_filled q (v ∷ f) h = tt

  -- an accepted file, lifted on
  lifted_on : (q : Parameters) (f : Level) (n : ℕ) → Standing lim q f 0 (f ∷ [])
      → Goes_on lim q f f [] (lifted lim n (basis_state (q, f))) (levels_from lim n lim.levels 1 (basis_state (q, f)))
  lifted_on q f n s = goes_on lim o q f n lim.levels f [] s (basis_filled q f s.sound) (omega arith)

  -- ## The answer comes

  module _ (n : ℕ) (bytes : Bytes) where
    v : ℕ
    v = variables_of (problem lim bytes)

    lines_come : (q : Parameters) (f : Level) (ws : List (ℕ × ℕ)) {x : Result State} {y : Option Bytes} → Goes_on lim q f f [] x y
        → T (answered? y) → (j : Option ℕ) → T (answered? (printed_or_refused v (unless_mixed j 25 >>= λ u. x >>= λ Y. done (bidegree_lines ws Y))))
    lines_come q f ws g t (some i) = tt
    lines_come q f ws (all_lifted s t e k) a none = tt
    lines_come q f ws (Levels.limit_met top under number s t u k) a none = tt
    lines_come q f ws open_yet a none = a

    comes : T (answered? (sheet lim n bytes)) → T (answered? (bidegrees lim n bytes))
    unfolding v
    comes t = go (read lim n bytes) (reading lim o n bytes) t
      where
        go : (x : Result State) → Reading lim bytes x → T (answered? (sheet_of lim n (variables_of (problem lim bytes)) x))
            → T (answered? (printed_or_refused (variables_of (problem lim bytes)) (x >>= λ X. head lim bytes >>= λ h. bidegrees_of lim n h.weights X)))
        go x (taken {q} {f} w s) t =
            subst (λ r. T (answered? (printed_or_refused (variables_of (problem lim bytes)) r))) (sym (weighed n bytes w (basis_state (q, f))))
            (lines_come q f (file_weights w) (lifted_on q f n s) t (first_mixed (same? (file_weights w) q.degrees) 1 f))
        go x (refused_reading r) t = tt
        go x still_reading t = t

  lines_end : (bytes : Bytes) → (n : ℕ) × ((out : Bytes) × (bidegrees lim n bytes ≡ some out))
  lines_end bytes =
      let e = (demand_1 lim o).sheet_ends bytes in
      (e.0, answer_of (bidegrees lim e.0 bytes) (comes e.0 bytes (is_answered (sheet lim e.0 bytes) e.1.0 e.1.1)))
    where
      answer_of : (x : Option Bytes) → T (answered? x) → (out : Bytes) × (x ≡ some out)
      answer_of none t = absurd t
      answer_of (some out) t = (out, refl)

  as_the_sheet : (n : ℕ) (bytes : Bytes) (number place : ℕ) (value : Vector) → read lim n bytes ≡ refused number place value
      → bidegrees lim n bytes ≡ sheet lim n bytes
  as_the_sheet n bytes number place value e =
      let m = variables_of (problem lim bytes) in
      ap (λ x. printed_or_refused m (x >>= λ X. head lim bytes >>= λ h. bidegrees_of lim n h.weights X)) e ∙ sym (ap (sheet_of lim n m) e)

  -- ## The forms

  module _ (p : T (paged? lim)) (n : ℕ) (bytes : Bytes) where
    abbrev Form : Option Bytes → Type 0
    Form x = Holds (LinesForm lim bytes) x

    -- an accepted file with bihomogeneous elements
    goes : (q : Parameters) (f : Level) (w : WellFormedFile lim bytes q f) → read lim n bytes ≡ done (basis_state (q, f))
        → Homogeneous (bidegree (file_weights w) q.degrees) f
        → {x : Result State} {y : Option Bytes} → Goes_on lim q f f [] x y → levels_from lim n lim.levels 1 (basis_state (q, f)) ≡ y
        → Form (printed_or_refused (variables_of (problem lim bytes)) (x >>= λ Y. done (bidegree_lines (file_weights w) Y)))
    goes q f w r h (all_lifted {h = top} {under = under} s t e k) z =
        let X : State = record { parameters = q; levels = top ∷ under } in
        holds (listed_lines n (listed lim bytes q f w top under s t)
        (ap (sheet_of lim n (variables_of (problem lim bytes))) r ∙ z ∙ ap some (sym k)) e h (lines_right (file_weights w) X)
        (subst LinesBounded (sym (entries_are (file_weights w) X)) (lines_bounded lim (paged_says lim p) (file_weights w) (file_small w) X s.sound)))
    goes q f w r h (Levels.limit_met top under number s t u k) z =
        let height = (sound_says lim (record { parameters = q; levels = top ∷ under }) s.sound).height in
        let low : length under ≤ lim.levels = omega (arith, height) in
        holds (subst (λ m. LinesForm lim bytes (x_lines m number (suc (length under)) [])) (sym (variables bytes w))
        (cut_off number n (listed lim bytes q f w top under s t)
        (ap (sheet_of lim n (variables_of (problem lim bytes))) r ∙ z ∙ ap some (sym k)) u low h))
    goes q f w r h open_yet z = nothing

    -- an accepted file
    accepted_form : (q : Parameters) (f : Level) (w : WellFormedFile lim bytes q f) → Standing lim q f 0 (f ∷ [])
        → read lim n bytes ≡ done (basis_state (q, f))
        → Form (printed_or_refused (variables_of (problem lim bytes)) (bidegrees_of lim n (file_weights w) (basis_state (q, f))))
    accepted_form q f w s r = go (first_mixed (same? (file_weights w) q.degrees) 1 f) (first_by_bidegree (file_weights w) q.degrees f)
      where
        go : (i : Option ℕ) → FirstOf (bidegree (file_weights w) q.degrees) f i
            → Form (printed_or_refused (variables_of (problem lim bytes))
            (unless_mixed i 25 >>= λ u. lifted lim n (basis_state (q, f)) >>= λ Y. done (bidegree_lines (file_weights w) Y)))
        go none h = goes q f w r h (lifted_on q f n s) refl
        go (some i) h =
            holds (subst (LinesForm lim bytes) (sym (append-nil (printed letter_X (25 ∷ i ∷ [])))) (mixed_element w s.exact h))

    refusal : {number place : ℕ} {value : Vector} → RefusedReading lim bytes number place value
        → LinesForm lim bytes (x_lines (variables_of (problem lim bytes)) number place value)
    refusal (ill_formed {number} {place} r) = subst (LinesForm lim bytes) (sym (append-nil (printed letter_X (number ∷ place ∷ [])))) (not_read r)
    refusal (not_accepted (no_basis {place = place} {value = value} b w d t s)) =
        subst (λ n. LinesForm lim bytes (x_lines n 9 place value)) (sym (variables bytes w)) (not_taken (no_basis b w d t s))
    refusal (not_accepted (limit_met {number = number} b w d l)) =
        subst (λ n. LinesForm lim bytes (x_lines n number 0 [])) (sym (variables bytes w)) (not_taken (limit_met b w d l))

    lines_form : Form (bidegrees lim n bytes)
    lines_form = go (read lim n bytes) refl (reading lim o n bytes)
      where
        go : (x : Result State) → read lim n bytes ≡ x → Reading lim bytes x
            → Form (printed_or_refused (variables_of (problem lim bytes)) (x >>= λ X. head lim bytes >>= λ h. bidegrees_of lim n h.weights X))
        go x e (taken {q} {f} w s) =
            subst (λ r. Form (printed_or_refused (variables_of (problem lim bytes)) r)) (sym (weighed n bytes w (basis_state (q, f)))) (accepted_form q f w s e)
        go x e (refused_reading r) = holds (refusal r)
        go x e still_reading = nothing

  -- ## How long

  short : T (paged? lim) → (n : ℕ) (bytes : Bytes) (h : Head) (X Y : State) → head lim bytes ≡ done h → read lim n bytes ≡ done X
      → lifted lim n X ≡ done Y → length (bidegree_lines h.weights Y) ≤ bidegrees_length
  short p n bytes h X Y e r l = go (read lim n bytes) r (reading lim o n bytes)
    where
      state_of : Result State → State
      state_of (done Z) = Z
      state_of (refused number place value) = Y
      state_of unfinished = Y

      same : (Z W : State) → ◌≡◌ {A = Result State} (done Z) (done W) → Z ≡ W
      same Z W e = ap state_of e

      other : {number place : ℕ} {value : Vector} {Z : State} → ◌≡◌ {A = Result State} (refused number place value) (done Z) → ⊥
      other e = let z : ◌≡◌ {A = ℕ} 0 1 = cc in omega arith

      open_no : {Z : State} → ◌≡◌ {A = Result State} unfinished (done Z) → ⊥
      open_no e = let z : ◌≡◌ {A = ℕ} 0 1 = cc in omega arith

      head_of : Result Head → Head
      head_of (done g) = g
      head_of (refused number place value) = h
      head_of unfinished = h

      Short : List (ℕ × ℕ) → State → Type 0
      Short ws Z = length (bidegree_lines ws Z) ≤ bidegrees_length

      sound_short : (ws : List (ℕ × ℕ)) → Small ws → (Z : State) → T (sound? lim Z) → Short ws Z
      sound_short ws w Z s =
          let b = (lines_bounded lim (paged_says lim p) ws w Z s).short in
          let t = ap length (lines_right ws Z).text in
          let u = ap (λ es. length (entry_lines es)) (entries_are ws Z) in
          omega (arith, b, t, u)

      ends : (q : Parameters) (f : Level) (ws : List (ℕ × ℕ)) → Small ws → {x : Result State} {y : Option Bytes} → Goes_on lim q f f [] x y → x ≡ done Y
          → Short ws Y
      ends q f ws w (all_lifted {h = top} {under = under} s t e k) z =
          subst (Short ws) (same (record { parameters = q; levels = top ∷ under }) Y z)
          (sound_short ws w (record { parameters = q; levels = top ∷ under }) s.sound)
      ends q f ws w (Levels.limit_met top under number s t u k) z = absurd (other z)
      ends q f ws w open_yet z = absurd (open_no z)

      go : (x : Result State) → x ≡ done X → Reading lim bytes x → Short h.weights Y
      go x d (taken {q} {f} w s) =
          let g = (files lim o).weighed bytes q f w in
          let same_head : g.said ≡ h = ap head_of (sym g.read ∙ e) in
          subst (λ ws. Short ws Y) (sym g.weighed ∙ ap (λ (k : Head). k.weights) same_head)
          (ends q f (file_weights w) (file_small w) (lifted_on q f n s) (ap (lifted lim n) (same (basis_state (q, f)) X d) ∙ l))
      go x d (refused_reading w) = absurd (other d)
      go x d still_reading = absurd (open_no d)

  -- ## 25, and no other number of an element

  module _ (n : ℕ) (bytes : Bytes) (i : ℕ) where
    abbrev Is : ℕ → Option Bytes → Type 0
    Is number x = x ≡ some (printed letter_X (number ∷ i ∷ []))

    -- the numbers of other refusals
    abbrev OfARefusal : ℕ → Type 0
    OfARefusal number = (number ≤ 15) ⊎ ((number ≡ 18) ⊎ (number ≡ 24))

    -- an X line with its value, of another number
    no_other : (m number place : ℕ) (value : Vector) (wanted : ℕ) → ¬ (number ≡ wanted) → ¬ (Is wanted (some (x_lines m number place value)))
    no_other m number place value wanted other e =
        other (printed_once number place wanted i (w_lines m value) []
        (some-injective _ _ e ∙ sym (append-nil (printed letter_X (wanted ∷ i ∷ []))))).first

    refused_number : {number place : ℕ} {value : Vector} → RefusedReading lim bytes number place value → OfARefusal number
    refused_number (ill_formed {number} {place} (too_long e z l)) = inl (omega (arith, e))
    refused_number (ill_formed {number} {place} (at_line l a b c)) = line l
      where
        line : {number : ℕ} → LineNumber number → OfARefusal number
        line (inl (a, b)) = inl (omega (arith, b))
        line (inr e) = inr e
    refused_number (not_accepted (no_basis b w d t s)) = inl (omega arith)
    refused_number (not_accepted (limit_met {number = number} b w d l)) = inl (between_high 13 number 15 l)

    abbrev AcceptedMixed : Type 0
    AcceptedMixed =
        (q : Parameters) × ((f : Level) × ((w : WellFormedFile lim bytes q f)
        × ((read lim n bytes ≡ done (record { parameters = q; levels = f ∷ [] })) × FirstMixed (bidegree (file_weights w) q.degrees) f i)))

    -- an X line with a number of an element is that of 25
    from_X : (wanted : ℕ) → ¬ (OfARefusal wanted) → Is wanted (bidegrees lim n bytes) → (wanted ≡ 25) × AcceptedMixed
    from_X wanted none-such = go (read lim n bytes) refl (reading lim o n bytes)
      where
        lifted_no : (q : Parameters) (f : Level) (ws : List (ℕ × ℕ)) {x : Result State} {y : Option Bytes} → Goes_on lim q f f [] x y
            → ¬ (Is wanted (printed_or_refused (variables_of (problem lim bytes)) (x >>= λ Y. done (bidegree_lines ws Y))))
        lifted_no q f ws (all_lifted {h = top} {under = under} s t e k) z =
            let r = lines_right ws (record { parameters = q; levels = top ∷ under }) in
            lines_no_X r.entries (wanted ∷ i ∷ []) (sym r.text ∙ some-injective _ _ z)
        lifted_no q f ws (Levels.limit_met top under number s t u k) z =
            no_other (variables_of (problem lim bytes)) number (suc (length under)) [] wanted
            (λ e. none-such (inl (let h = between_high 13 number 15 u in omega (arith, h, e)))) z
        lifted_no q f ws open_yet z = none-ne-some _ z

        mixed : (q : Parameters) (f : Level) (w : WellFormedFile lim bytes q f) → Standing lim q f 0 (f ∷ [])
            → read lim n bytes ≡ done (basis_state (q, f)) → (j : Option ℕ) → FirstOf (bidegree (file_weights w) q.degrees) f j
            → Is wanted (printed_or_refused (variables_of (problem lim bytes))
            (unless_mixed j 25 >>= λ u. lifted lim n (basis_state (q, f)) >>= λ Y. done (bidegree_lines (file_weights w) Y)))
            → (wanted ≡ 25) × AcceptedMixed
        mixed q f w s r none h z = absurd (lifted_no q f (file_weights w) (lifted_on q f n s) z)
        mixed q f w s r (some j) h z =
            let e = printed_once 25 j wanted i [] [] (some-injective _ _ z ∙ sym (append-nil (printed letter_X (wanted ∷ i ∷ [])))) in
            (sym e.first, (q, (f, (w, (r, subst (FirstMixed (bidegree (file_weights w) q.degrees) f) e.second h)))))

        go : (x : Result State) → read lim n bytes ≡ x → Reading lim bytes x
            → Is wanted (printed_or_refused (variables_of (problem lim bytes)) (x >>= λ X. head lim bytes >>= λ h. bidegrees_of lim n h.weights X))
            → (wanted ≡ 25) × AcceptedMixed
        go x e (taken {q} {f} w s) z =
            mixed q f w s e (first_mixed (same? (file_weights w) q.degrees) 1 f) (first_by_bidegree (file_weights w) q.degrees f)
            (subst (λ r. Is wanted (printed_or_refused (variables_of (problem lim bytes)) r)) (weighed n bytes w (basis_state (q, f))) z)
        go x e (refused_reading {number} {place} {value} r) z =
            absurd (no_other (variables_of (problem lim bytes)) number place value wanted
            (λ k. none-such (subst OfARefusal k (refused_number r))) z)
        go x e still_reading z = absurd (none-ne-some _ z)

    apart : (number : ℕ) → 15 < number → ¬ (number ≡ 18) → ¬ (number ≡ 24) → ¬ (OfARefusal number)
    apart number h k l (inl a) = omega (arith, h, a)
    apart number h k l (inr (inl e)) = k e
    apart number h k l (inr (inr e)) = l e

    from_25 : Is 25 (bidegrees lim n bytes) → AcceptedMixed
    from_25 e = (from_X 25 (apart 25 (omega arith) (λ z. omega (arith, z)) (λ z. omega (arith, z))) e).1

    no_seventeen : ¬ (Is 17 (bidegrees lim n bytes))
    no_seventeen e =
        let z = (from_X 17 (apart 17 (omega arith) (λ z. omega (arith, z)) (λ z. omega (arith, z))) e).0 in omega (arith, z)

    -- and back
    to_25 : AcceptedMixed → Is 25 (bidegrees lim n bytes)
    to_25 (q, (f, (w, (r, m)))) =
        ap (λ x. printed_or_refused (variables_of (problem lim bytes)) (x >>= λ X. head lim bytes >>= λ h. bidegrees_of lim n h.weights X)) r
        ∙ ap (printed_or_refused (variables_of (problem lim bytes))) (weighed n bytes w (basis_state (q, f)))
        ∙ go (first_mixed (same? (file_weights w) q.degrees) 1 f) (first_by_bidegree (file_weights w) q.degrees f)
      where
        go : (j : Option ℕ) → FirstOf (bidegree (file_weights w) q.degrees) f j
            → Is 25 (printed_or_refused (variables_of (problem lim bytes))
            (unless_mixed j 25 >>= λ u. lifted lim n (basis_state (q, f)) >>= λ Y. done (bidegree_lines (file_weights w) Y)))
        go none h = absurd (h i m.low m.high m.mixed)
        go (some j) h =
            ap some (append-nil (printed letter_X (25 ∷ j ∷ [])))
            ∙ ap (λ k. some (printed letter_X (25 ∷ k ∷ []))) (first_once (bidegree (file_weights w) q.degrees) f j i h m)

  pub bidegrees_right : T (paged? lim) → BidegreesRight lim
  bidegrees_right p = record {
    lines_end = lines_end;
    one_answer = one_answer lim;
    forms = λ n bytes out e. holds_at e (lines_form p n bytes);
    as_the_sheet = as_the_sheet;
    twenty_five = λ n bytes i. (from_25 n bytes i, to_25 n bytes i);
    no_seventeen = no_seventeen;
    any_weights = lines_right;
    ones = λ ws X s l a c x. ones lim X s ws l a c x;
    as_the_page = λ ws X out page s l a L P r c x i e. P.counts r c x i e ∙ sym (ones lim X s ws l a c x) ∙ sym (L.sums c x);
    bounded = λ ws X s w. subst LinesBounded (sym (entries_are ws X)) (lines_bounded lim (paged_says lim p) ws w X s);
    short = short p;
  }

pub document_bidegrees_right : BidegreesRight document_01
document_bidegrees_right = bidegrees_right document_01 tt tt
