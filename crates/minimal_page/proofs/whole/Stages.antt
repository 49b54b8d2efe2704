-- What is printed of an accepted state from its parts: the test of 17, the levels, the test of 20, the page.
use mathlib.Core.Path.{◌≡◌, refl, sym, ap, ◌∙◌}
use mathlib.Core.Bool.{true, false}
use mathlib.Core.Option.{Option, some}
use mathlib.Core.List.{[], ◌∷◌}
use Prim.Native.Nat.{ℕ, zero, suc, ◌≤◌}
use native.Mathlib.Omega.{arith}
use lib.ListN.{length}
use Rattle.definitions.specs.Limits.{document_01}
use Rattle.definitions.specs.Lists.{empty?}
use Rattle.definitions.specs.Monomial.{Level}
use Rattle.definitions.specs.Result.{Result, done, refused, unless_refused, ◌>>=◌}
use Rattle.definitions.specs.Problem.{Bytes}
use Rattle.definitions.specs.State.{State}
use Rattle.definitions.specs.Layout.{Words, decode}
use Rattle.definitions.specs.Sheet.{printed, letter_X, x_lines}
use Rattle.definitions.specs.Program.{lifted, printed_or_refused}
use Rattle.definitions.specs.Betti.{homogeneous}
use Rattle.definitions.specs.Minimal.{vectors_at, minimal_page, minimal_of}
use Rattle.definitions.specs.Places.{most_levels}
use Rattle.minimal_numbers.proofs.Columns.{column_lengths}
use Rattle.pages.specs.bytes.Printing.{Printed}
use Rattle.pages.proofs.bytes.Spelling.{spelled}
use Rattle.std.specs.Prelude.{Result as CodeResult, Ok, Err}
use Rattle.words.specs.declared.refusals.Refused.{Refused}
use Rattle.words.specs.refusals.Numbers.{number_of}
use Rattle.words.proofs.Numbered.{number_positive}
use Rattle.level.specs.all_levels.Level.{levels_of}
use Rattle.level.specs.all_levels.Levels.{Levels, reached}
use Rattle.level.proofs.all_levels.Levels.{result_of, lifted_reached}
use Rattle.listing.specs.whole.Paged.{AcceptedPrints}
use Rattle.listing.proofs.reading.Refusals.{x_alone}
use Rattle.columns.specs.counting.Columns.{Stands}
use Rattle.minimal_page.specs.whole.Tested.{page_of, lifted_page}

-- the line of a refusal is all that is printed
refused_alone : (of : ℕ → State → Result Bytes) (s : Words) (n number place : ℕ) {out out' : Bytes} {long : ℕ}
    → of n (decode document_01 s) ≡ refused number place []
    → Printed out out' 0 long (printed letter_X (number ∷ place ∷ [])) → AcceptedPrints of s out out' long
refused_alone of s n number place e p v = record {
  bound = n;
  bytes = x_lines v number place [];
  gives = sym (ap (printed_or_refused v) e);
  printed = spelled (x_alone v number place) p;
}

-- ## 20

module _ (s : Words) (count : ℕ) (S : Stands s (suc most_levels) count) where
  last_long : count ≡ length (vectors_at (decode document_01 s) most_levels)
  last_long = S.long ∙ column_lengths (decode document_01 s) most_levels

  none_there : (f : Level) → 0 ≡ length f → empty? f ≡ true
  none_there [] e = refl
  none_there (v ∷ f) e = absurd (omega (arith, e))

  some_there : (f : Level) → (0 ≡ length f → ⊥) → empty? f ≡ false
  some_there [] h = absurd (h refl)
  some_there (v ∷ f) h = refl

  pub last_none : {out out' : Bytes} {long : ℕ} → count ≡ 0 → Printed out out' 0 long (minimal_page (decode document_01 s))
      → AcceptedPrints (λ n. page_of) s out out' long
  last_none e p v = record {
    bound = 0;
    bytes = minimal_page (decode document_01 s);
    gives =
        let X = decode document_01 s in
        sym (ap (λ b. printed_or_refused v (unless_refused b 20 most_levels >>= λ u. done (minimal_page X)))
        (none_there (vectors_at X most_levels) (sym e ∙ last_long)));
    printed = p;
  }

  pub last_some : {out out' : Bytes} {long : ℕ} → (count ≡ 0 → ⊥) → Printed out out' 0 long (printed letter_X (20 ∷ most_levels ∷ []))
      → AcceptedPrints (λ n. page_of) s out out' long
  last_some h =
      let X = decode document_01 s in
      refused_alone (λ n. page_of) s 0 20 most_levels
      (ap (λ b. unless_refused b 20 most_levels >>= λ u. done (minimal_page X))
      (some_there (vectors_at X most_levels) (λ z. h (last_long ∙ sym z))))

-- ## Levels

module _ (s t : Words) (n : ℕ) (x : CodeResult (Unit {0}) Refused)
    (r : ◌≡◌ {A = Option Levels} (some (levels_of x (decode document_01 t))) (reached document_01 n (decode document_01 s))) where
  lifted_is : (y : CodeResult (Unit {0}) Refused) → x ≡ y → lifted document_01 n (decode document_01 s)
      ≡ result_of (some (levels_of y (decode document_01 t)))
  lifted_is y h = lifted_reached document_01 n most_levels 1 (decode document_01 s)
      ∙ ap result_of (sym r ∙ ap (λ y. some (levels_of y (decode document_01 t))) h)

  some_refused : (m place : ℕ) → 1 ≤ m → result_of (some (m, place, decode document_01 t)) ≡ refused m place []
  some_refused zero place h = absurd (omega arith)
  some_refused (suc m) place h = refl

  pub levels_done : {out out' : Bytes} {long : ℕ} → x ≡ Ok tt → AcceptedPrints (λ m. page_of) t out out' long
      → AcceptedPrints lifted_page s out out' long
  levels_done h R v =
      let p = R v in
      record {
        bound = n;
        bytes = p.bytes;
        gives = p.gives ∙ sym (ap (λ x. printed_or_refused v (x >>= page_of)) (lifted_is (Ok tt) h));
        printed = p.printed;
      }

  pub level_refused : {out out' : Bytes} {long : ℕ} (e : Refused) → x ≡ Err e
      → Printed out out' 0 long (printed letter_X (number_of e.refusal ∷ e.place ∷ [])) → AcceptedPrints lifted_page s out out' long
  level_refused e h =
      refused_alone lifted_page s n (number_of e.refusal) e.place
      (ap (λ x. x >>= page_of) (lifted_is (Err e) h ∙ some_refused (number_of e.refusal) e.place (number_positive e.refusal)))

-- ## 17

module _ (s : Words) where
  pub unmixed_printed : {out out' : Bytes} {long : ℕ} → homogeneous (decode document_01 s) ≡ done tt → AcceptedPrints lifted_page s out out' long
      → AcceptedPrints (minimal_of document_01) s out out' long
  unmixed_printed e R v =
      let p = R v in
      let X = decode document_01 s in
      record {
        bound = p.bound;
        bytes = p.bytes;
        gives = p.gives ∙ sym (ap (λ x. printed_or_refused v (x >>= λ u. lifted_page p.bound X)) e);
        printed = p.printed;
      }

  pub mixed_refused : {out out' : Bytes} {long : ℕ} (place : ℕ) → homogeneous (decode document_01 s) ≡ refused 17 place []
      → Printed out out' 0 long (printed letter_X (17 ∷ place ∷ [])) → AcceptedPrints (minimal_of document_01) s out out' long
  mixed_refused place e = refused_alone (minimal_of document_01) s 0 17 place (ap (λ x. x >>= λ u. lifted_page 0 (decode document_01 s)) e)
