-- The program beside that of the Betti page: both print a page of the same levels, or are refused alike.
use mathlib.Core.Path.{◌≡◌, refl, sym, ap, ◌∙◌, subst}
use mathlib.Core.Option.{Option, none, some}
use mathlib.Core.List.{List, [], ◌∷◌, append-nil}
use Prim.Native.Nat.{ℕ, suc, ◌<◌}
use native.Mathlib.Omega.{arith}
use lib.Dec.{T}
use lib.ListN.{length}
use Rattle.definitions.specs.Limits.{Limits}
use Rattle.definitions.specs.Lists.{every}
use Rattle.definitions.specs.Monomial.{Vector, Level}
use Rattle.definitions.specs.Result.{Result, done, refused, unfinished, ◌>>=◌}
use Rattle.definitions.specs.Problem.{Bytes, Parameters, problem}
use Rattle.definitions.specs.State.{State, sound?}
use Rattle.definitions.specs.Calls.{read}
use Rattle.definitions.specs.Sheet.{printed, letter_X, x_lines, levels_from, variables_of, sheet_of, sheet}
use Rattle.definitions.specs.Program.{lifted}
use Rattle.definitions.specs.Degrees.{degree_by}
use Rattle.definitions.specs.Betti.{first_mixed, unless_mixed, same_degree?, betti_page, betti_of}
use Rattle.definitions.specs.Minimal.{minimal_page, last_empty, minimal_of}
use Rattle.laws.proofs.Sound.{sound_says}
use Rattle.laws.proofs.Reading.{basis_state}
use Rattle.files.specs.Files.{WellFormedFile}
use Rattle.demands.specs.Demands.{sensible?, no_basis, limit_met, RefusedReading, ill_formed, not_accepted, printed_levels}
use Rattle.demands.proofs.Reader.{files}
use Rattle.demands.proofs.Held.{Standing}
use Rattle.demands.proofs.Sheets.{Reading, taken, refused_reading, still_reading, reading}
use Rattle.lengths.specs.Lengths.{LevelsEnd}
use Rattle.betti.specs.Notions.{Homogeneous}
use Rattle.betti.proofs.Mixed.{FirstOf, first_by_degree}
use Rattle.betti.proofs.Levels
use Rattle.betti.proofs.Levels.{filled?, listed, Goes_on, all_lifted, open_yet, goes_on}
use Rattle.minimal_numbers.specs.Minimal.{MinimalForm, mixed_element, cut_off, not_read, not_taken}
use Rattle.minimal_numbers.proofs.FileLevels.{highest_empty, not_twenty}

-- what the Betti page gives, and what this one does
pub data Beside (lim : Limits) (bytes : Bytes) (n : ℕ) : Result Bytes → Result Bytes → Type 0 where
  both_paged : {q : Parameters} {f : Level} {under : List Level} → WellFormedFile lim bytes q f → Standing lim q f (length under) ([] ∷ under)
      → T (every filled? under) → Homogeneous (degree_by q.degrees) f → sheet lim n bytes ≡ some (printed_levels q.n ([] ∷ under))
      → Beside lim bytes n (done (betti_page (record { parameters = q; levels = [] ∷ under })))
      (done (minimal_page (record { parameters = q; levels = [] ∷ under })))
  both_refused : {number place : ℕ} {value : Vector} → MinimalForm lim bytes (x_lines (variables_of (problem lim bytes)) number place value)
      → Beside lim bytes n (refused number place value) (refused number place value)
  both_open : Beside lim bytes n unfinished unfinished

module _
    (lim : Limits) (o : T (sensible? lim)) (ends : LevelsEnd lim) (room : lim.variables < lim.levels) (bytes : Bytes) (n : ℕ) where
  variables : {q : Parameters} {f : Level} → WellFormedFile lim bytes q f → variables_of (problem lim bytes) ≡ q.n
  variables {q} {f} w = ap variables_of ((files lim o).taken bytes q f w)

  basis_filled : (q : Parameters) (f : Level) → T (sound? lim (basis_state (q, f))) → T (every filled? (f ∷ []))
  basis_filled q [] h = absurd (sound_says lim (basis_state (q, [])) h).levels
  basis_filled q (v ∷ f) h = tt

  -- 20 is not met
  all_paged : (q : Parameters) (f : Level) → WellFormedFile lim bytes q f → Homogeneous (degree_by q.degrees) f → (top : Level) (under : List Level)
      → Standing lim q f (length under) (top ∷ under) → T (every filled? under) → top ≡ [] → sheet lim n bytes ≡ some (printed_levels q.n (top ∷ under))
      → Beside lim bytes n (done (betti_page (record { parameters = q; levels = top ∷ under })))
      (last_empty lim (record { parameters = q; levels = top ∷ under }) >>= λ u.
      done (minimal_page (record { parameters = q; levels = top ∷ under })))
  all_paged q f w h [] under s t e k =
      let X : State = record { parameters = q; levels = [] ∷ under } in
      subst (λ r. Beside lim bytes n (done (betti_page X)) (r >>= λ u. done (minimal_page X)))
      (sym (not_twenty lim q under (let a = (sound_says lim X s.sound).height in omega (arith, a)))) (both_paged w s t h k)
  all_paged q f w h (v ∷ top) under s t e k = absurd (let z : suc (length top) ≡ 0 = ap length e in omega (arith, z))

  -- an accepted file with homogeneous elements
  goes : (q : Parameters) (f : Level) → WellFormedFile lim bytes q f → Standing lim q f 0 (f ∷ []) → read lim n bytes ≡ done (basis_state (q, f))
      → Homogeneous (degree_by q.degrees) f → {x : Result State} {y : Option Bytes} → Goes_on lim q f f [] x y
      → levels_from lim n lim.levels 1 (basis_state (q, f)) ≡ y
      → Beside lim bytes n (x >>= λ Y. done (betti_page Y)) (x >>= λ Y. last_empty lim Y >>= λ u. done (minimal_page Y))
  goes q f w b r h (all_lifted {h = top} {under = under} s t e k) z =
      all_paged q f w h top under s t (highest_empty lim o bytes q top under (listed lim bytes q f w top under s t) ends room b.exact e)
      (ap (sheet_of lim n (variables_of (problem lim bytes))) r ∙ z ∙ ap some (sym k))
  goes q f w b r h (Levels.limit_met top under number s t u k) z =
      both_refused (subst (λ m. MinimalForm lim bytes (x_lines m number (suc (length under)) [])) (sym (variables w))
      (cut_off number n (listed lim bytes q f w top under s t)
      (ap (sheet_of lim n (variables_of (problem lim bytes))) r ∙ z ∙ ap some (sym k)) u h))
  goes q f w b r h open_yet z = both_open

  accepted : (q : Parameters) (f : Level) → WellFormedFile lim bytes q f → Standing lim q f 0 (f ∷ []) → read lim n bytes ≡ done (basis_state (q, f))
      → Beside lim bytes n (betti_of lim n (basis_state (q, f))) (minimal_of lim n (basis_state (q, f)))
  accepted q f w s r = go (first_mixed (same_degree? q.degrees) 1 f) (first_by_degree q.degrees f)
    where
      go : (i : Option ℕ) → FirstOf (degree_by q.degrees) f i
          → Beside lim bytes n (unless_mixed i 17 >>= λ u. lifted lim n (basis_state (q, f)) >>= λ Y. done (betti_page Y))
          (unless_mixed i 17 >>= λ u. lifted lim n (basis_state (q, f)) >>= λ Y. last_empty lim Y >>= λ u'. done (minimal_page Y))
      go none h = goes q f w s r h (goes_on lim o q f n lim.levels f [] s (basis_filled q f s.sound) (omega arith)) refl
      go (some i) h =
          both_refused (subst (MinimalForm lim bytes) (sym (append-nil (printed letter_X (17 ∷ i ∷ [])))) (mixed_element w s.exact h))

  refusal : {number place : ℕ} {value : Vector} → RefusedReading lim bytes number place value
      → MinimalForm lim bytes (x_lines (variables_of (problem lim bytes)) number place value)
  refusal (ill_formed {number} {place} r) = subst (MinimalForm lim bytes) (sym (append-nil (printed letter_X (number ∷ place ∷ [])))) (not_read r)
  refusal (not_accepted (no_basis {place = place} {value = value} b w d t s)) =
      subst (λ m. MinimalForm lim bytes (x_lines m 9 place value)) (sym (variables w)) (not_taken (no_basis b w d t s))
  refusal (not_accepted (limit_met {number = number} b w d l)) =
      subst (λ m. MinimalForm lim bytes (x_lines m number 0 [])) (sym (variables w)) (not_taken (limit_met b w d l))

  pub beside : Beside lim bytes n (read lim n bytes >>= betti_of lim n) (read lim n bytes >>= minimal_of lim n)
  beside = go (read lim n bytes) refl (reading lim o n bytes)
    where
      go : (x : Result State) → read lim n bytes ≡ x → Reading lim bytes x → Beside lim bytes n (x >>= betti_of lim n) (x >>= minimal_of lim n)
      go x e (taken {q} {f} w s) = accepted q f w s e
      go x e (refused_reading r) = both_refused (refusal r)
      go x e still_reading = both_open
