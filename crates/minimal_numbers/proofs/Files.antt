-- What is printed for each file, from what is right of ranks.
use mathlib.Core.Path.{◌≡◌, refl, sym, ap, ◌∙◌, subst}
use mathlib.Core.Logic.{inl, inr}
use mathlib.Core.Option.{Option, none, some, some-injective}
use mathlib.Core.List.{List, [], ◌∷◌, append-nil}
use Prim.Native.Nat.{ℕ, suc, ◌-◌, ◌<◌}
use native.Mathlib.Omega.{arith}
use lib.Dec.{T}
use lib.ListN.{length}
use Rattle.definitions.specs.Limits.{Limits}
use Rattle.definitions.specs.Lists.{from}
use Rattle.definitions.specs.Monomial.{Vector}
use Rattle.definitions.specs.Result.{Result, done, refused, unfinished, ◌>>=◌}
use Rattle.definitions.specs.Problem.{Bytes, problem}
use Rattle.definitions.specs.State.{State}
use Rattle.definitions.specs.Calls.{read}
use Rattle.definitions.specs.Sheet.{printed, letter_X, w_lines, x_lines, variables_of}
use Rattle.definitions.specs.Program.{printed_or_refused}
use Rattle.definitions.specs.Betti.{column_degrees, rows_in_use, all_rows, betti_count, betti_of}
use Rattle.definitions.specs.Minimal.{minimal_number, minimal_of, minimal}
use Rattle.laws.proofs.Tests.{between_high}
use Rattle.laws.proofs.Steady.{answered?, steady_once}
use Rattle.files.specs.Answers.{too_long, at_line, LineNumber}
use Rattle.demands.specs.Demands.{sensible?, no_basis, limit_met}
use Rattle.demands.proofs.Results.{Holds, holds, nothing, holds_at, some_is}
use Rattle.lengths.proofs.Lengths.{levels_end}
use Rattle.ranks.specs.Ranks.{RanksRight}
use Rattle.betti.specs.Notions.{paged?}
use Rattle.betti.proofs.Levels.{listed}
use Rattle.betti.proofs.Heads.{page_no_X, printed_once}
use Rattle.betti.proofs.Betti.{betti_right}
use Rattle.minimal_numbers.specs.Minimal.{MinimalForm, paged, mixed_element, cut_off, not_read, not_taken, MinimalPageRight}
use Rattle.minimal_numbers.proofs.Pages.{minimal_right}
use Rattle.minimal_numbers.proofs.Ends.{minimal_steady}
use Rattle.minimal_numbers.proofs.FileLevels.{file_levels, file_annihilates}
use Rattle.minimal_numbers.proofs.Beside.{Beside, both_paged, both_refused, both_open, beside}

is_answered : {A : Type 0} (x : Option A) (a : A) → x ≡ some a → T (answered? x)
is_answered x a e = subst (λ z. T (answered? z)) (sym e) tt

answer_of : {A : Type 0} (x : Option A) → T (answered? x) → (a : A) × (x ≡ some a)
answer_of none t = absurd t
answer_of (some a) t = (a, refl)

one_page : (lim : Limits) (n m : ℕ) (bytes a b : Bytes) → minimal lim n bytes ≡ some a → minimal lim m bytes ≡ some b → a ≡ b
one_page lim n m bytes a b x y =
    some_is (sym x ∙ steady_once answered? (λ n. minimal lim n bytes) (minimal_steady lim bytes) n m (is_answered (minimal lim n bytes) a x)
    (is_answered (minimal lim m bytes) b y) ∙ y)

done_not : {a : Bytes} {number place : ℕ} {value : Vector} → ◌≡◌ {A = Result Bytes} (done a) (refused number place value) → ⊥
done_not e = let z : ◌≡◌ {A = ℕ} 0 1 = cc in omega arith

open_not : {number place : ℕ} {value : Vector} → ◌≡◌ {A = Result Bytes} unfinished (refused number place value) → ⊥
open_not e = let z : ◌≡◌ {A = ℕ} 0 1 = cc in omega arith

-- ## Beside the Betti page

module _ (lim : Limits) (bytes : Bytes) (n v : ℕ) where
  answers : {x y : Result Bytes} → Beside lim bytes n x y → T (answered? (printed_or_refused v x)) → T (answered? (printed_or_refused v y))
  answers (both_paged w s t h k) a = tt
  answers (both_refused r) a = tt
  answers both_open a = a

  module _ (number place : ℕ) (value : Vector) where
    from_page : {x y : Result Bytes} → Beside lim bytes n x y → x ≡ refused number place value → y ≡ refused number place value
    from_page (both_paged w s t h k) e = absurd (done_not e)
    from_page (both_refused r) e = e
    from_page both_open e = e

    to_page : {x y : Result Bytes} → Beside lim bytes n x y → y ≡ refused number place value → x ≡ refused number place value
    to_page (both_paged w s t h k) e = absurd (done_not e)
    to_page (both_refused r) e = e
    to_page both_open e = e

    same_bytes : {x y : Result Bytes} → Beside lim bytes n x y → x ≡ refused number place value → printed_or_refused v y ≡ printed_or_refused v x
    same_bytes (both_paged w s t h k) e = absurd (done_not e)
    same_bytes (both_refused r) e = refl
    same_bytes both_open e = refl

  -- no page is an X line
  module _ (vs : List ℕ) where
    abbrev IsX : Result Bytes → Type 0
    IsX x = printed_or_refused v x ≡ some (printed letter_X vs)

    XFrom : {x y : Result Bytes} → Beside lim bytes n x y → IsX x → IsX y
    XFrom (both_paged {q} {under = under} w s t h k) e =
        let X : State = record { parameters = q; levels = [] ∷ under } in
        absurd (page_no_X (betti_count (column_degrees X)) (all_rows (rows_in_use 0 (column_degrees X))) vs (some-injective _ _ e))
    XFrom (both_refused r) e = e
    XFrom both_open e = e

    XTo : {x y : Result Bytes} → Beside lim bytes n x y → IsX y → IsX x
    XTo (both_paged {q} {under = under} w s t h k) e =
        let X : State = record { parameters = q; levels = [] ∷ under } in
        absurd (page_no_X (minimal_number X (column_degrees X)) (all_rows (rows_in_use 0 (column_degrees X))) vs (some-injective _ _ e))
    XTo (both_refused r) e = e
    XTo both_open e = e

-- ## Never 20

module _ (lim : Limits) (bytes : Bytes) (place : ℕ) where
  no_20 : (m k at : ℕ) (value : Vector) → ¬ (k ≡ 20) → ¬ (x_lines m k at value ≡ printed letter_X (20 ∷ place ∷ []))
  no_20 m k at value other e =
      other (printed_once k at 20 place (w_lines m value) [] (e ∙ sym (append-nil (printed letter_X (20 ∷ place ∷ []))))).first

  line_not : (k : ℕ) → LineNumber k → ¬ (k ≡ 20)
  line_not k (inl (a, b)) e = omega (arith, b, e)
  line_not k (inr (inl a)) e = omega (arith, a, e)
  line_not k (inr (inr a)) e = omega (arith, a, e)

  form_not : {out : Bytes} → MinimalForm lim bytes out → ¬ (out ≡ printed letter_X (20 ∷ place ∷ []))
  form_not (paged bound l k b h R) e =
      page_no_X R.at (from R.counts.first (suc R.counts.last - R.counts.first)) (20 ∷ place ∷ []) (sym R.text ∙ e)
  form_not (mixed_element {i = i} w g m) e = no_20 0 17 i [] (λ z. omega (arith, z)) (append-nil (printed letter_X (17 ∷ i ∷ [])) ∙ e)
  form_not (cut_off {q} {below = below} k bound l s t h) e =
      no_20 q.n k (suc (length below)) [] (λ z. let a = between_high 13 k 15 t in omega (arith, a, z)) e
  form_not (not_read {number = k} {place = at} (too_long a b c)) e =
      no_20 0 k at [] (λ z. omega (arith, a, z)) (append-nil (printed letter_X (k ∷ at ∷ [])) ∙ e)
  form_not (not_read {number = k} {place = at} (at_line a b c d)) e = no_20 0 k at [] (line_not k a) (append-nil (printed letter_X (k ∷ at ∷ [])) ∙ e)
  form_not (not_taken {q} {place = at} {value = value} (no_basis b w d t s)) e = no_20 q.n 9 at value (λ z. omega (arith, z)) e
  form_not (not_taken {q} {number = k} (limit_met b w d l)) e = no_20 q.n k 0 [] (λ z. let a = between_high 13 k 15 l in omega (arith, a, z)) e

-- ## The theorem

-- frame terms are numbered lexicographically, and there are more levels than variables
module _
    (R : RanksRight) (lim : Limits) (o : T (sensible? lim)) (p : T (paged? lim)) (one : (code : ℕ) → lim.numbering code ≡ 1)
    (room : lim.variables < lim.levels) where
  along : (bytes : Bytes) (n : ℕ) → Beside lim bytes n (read lim n bytes >>= betti_of lim n) (read lim n bytes >>= minimal_of lim n)
  along bytes n = beside lim o (levels_end lim o one room) room bytes n

  page_form : (n : ℕ) (bytes : Bytes) → Holds (MinimalForm lim bytes) (minimal lim n bytes)
  page_form n bytes = go (along bytes n) refl
    where
      go : {x y : Result Bytes} → Beside lim bytes n x y → (read lim n bytes >>= betti_of lim n) ≡ x
          → Holds (MinimalForm lim bytes) (printed_or_refused (variables_of (problem lim bytes)) y)
      go (both_paged {q} {f} {under} w s t h k) e =
          let L = listed lim bytes q f w [] under s t in
          let G = file_levels lim o bytes q [] under L h in
          holds (paged n L k (ap (printed_or_refused (variables_of (problem lim bytes))) e) h
          (minimal_right lim p (record { parameters = q; levels = [] ∷ under }) s.sound R s.exact G.0 G.1))
      go (both_refused r) e = holds r
      go both_open e = nothing

  page_ends : (bytes : Bytes) → (n : ℕ) × ((out : Bytes) × (minimal lim n bytes ≡ some out))
  page_ends bytes =
      let e = (betti_right lim o p).page_ends bytes in
      let n = e.0 in
      let v = variables_of (problem lim bytes) in (
        n,
        answer_of (minimal lim n bytes) (answers lim bytes n v (along bytes n)
            (is_answered (printed_or_refused v (read lim n bytes >>= betti_of lim n)) e.1.0 e.1.1)),
      )

  pub from_ranks : MinimalPageRight lim
  from_ranks = record {
    page_ends = page_ends;
    one_page = one_page lim;
    pages = λ n bytes out e. holds_at e (page_form n bytes);
    refusals = λ n bytes number place value.
        (to_page lim bytes n 0 number place value (along bytes n), from_page lim bytes n 0 number place value (along bytes n));
    as_the_page = λ n bytes number place value e. same_bytes lim bytes n (variables_of (problem lim bytes)) number place value (along bytes n) e;
    seventeen = λ n bytes i.
        let S = (betti_right lim o p).seventeen n bytes i in
        let v = variables_of (problem lim bytes) in
        (λ e. S.0 (XTo lim bytes n v (17 ∷ i ∷ []) (along bytes n) e), λ e. XFrom lim bytes n v (17 ∷ i ∷ []) (along bytes n) (S.1 e));
    never_twenty = λ n bytes place e. form_not lim bytes place (holds_at e (page_form n bytes)) refl;
    annihilate = λ bytes q g below l h. file_annihilates lim o bytes q g below l h;
  }
