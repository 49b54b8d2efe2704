-- A basis refused, a file refused: the lines of the refusal.
use mathlib.Core.Path.{◌≡◌, refl, sym, ap, ◌∙◌}
use mathlib.Core.List.{[], ◌∷◌, ◌++◌, append-nil}
use Prim.Native.Nat.{ℕ, ◌+◌, ◌*◌, ◌≤◌}
use native.Mathlib.Omega.{arith}
use lib.ListN.{length, get_or}
use Rattle.definitions.specs.Limits.{document_01}
use Rattle.definitions.specs.Monomial.{Vector, Level}
use Rattle.definitions.specs.Result.{Result, done, refused, unfinished, ◌>>=◌}
use Rattle.definitions.specs.Problem.{Bytes, Parameters, problem}
use Rattle.definitions.specs.State.{State}
use Rattle.definitions.specs.Calls.{accepted, read}
use Rattle.definitions.specs.Layout.{Words, decode}
use Rattle.definitions.specs.Sheet.{printed, letter_X, x_lines, w_lines, variables_of}
use Rattle.definitions.specs.Places.{most_terms, state_length, w_line_length, pair_line_length}
use Rattle.files.specs.Answers.{Answered}
use Rattle.files.proofs.Reader.{document_reader}
use Rattle.pages.specs.bytes.Printing.{Printed}
use Rattle.pages.proofs.bytes.Spelling.{spelled}
use Rattle.reader.specs.problem.Reading.{read_as, words_read}
use Rattle.level.specs.by_runs.Stages.{accepted_over}
use Rattle.level.proofs.all_levels.Basis.{decoded, based, accepted_is}
use Rattle.state.proofs.preparing.Complete.{length_levels}
use Rattle.std.specs.Prelude.{Result as CodeResult, Ok, Err}
use Rattle.words.specs.declared.refusals.Refused.{Refused}
use Rattle.words.specs.refusals.Numbers.{number_of}
use Rattle.words.proofs.Numbered.{number_positive}
use Rattle.listing.specs.reading.Beginning.{Stops, AcceptedAs, Basis, BegunAs}

-- a refusal without a value: its X line alone
pub x_alone : (v number place : ℕ) → printed letter_X (number ∷ place ∷ []) ≡ x_lines v number place []
x_alone v number place = sym (append-nil (printed letter_X (number ∷ place ∷ [])))

pub stops_alone : {A : Type 0} (x : ℕ → Result A) (v : ℕ) (out out' : Bytes) (r n number place : ℕ) → x n ≡ refused number place []
    → Printed out out' 0 r (printed letter_X (number ∷ place ∷ [])) → r ≤ pair_line_length → Stops x v out out' r
stops_alone x v out out' r n number place e p h = record {
  bound = n;
  number = number;
  place = place;
  value = [];
  refuses = e;
  printed = spelled (x_alone v number place) p;
  fits = omega (arith, h);
}

-- ## A file that was read

module _ (size : ℕ) (big : state_length ≤ size) (file : Bytes) (f : Parameters × Level) (e : problem document_01 file ≡ done f) (s : Words)
    (w : s ≡ words_read size f) where
  pub one_level : get_or s 4 0 ≡ 1
  one_level = sym (length_levels s (get_or s 4 0)) ∙ ap (λ X. length X.levels) (decoded size big file f e s w)

  variables_are : get_or s 1 0 ≡ variables_of (problem document_01 file)
  variables_are = ap (λ X. X.parameters.n) (decoded size big file f e s w) ∙ sym (ap variables_of e)

  abbrev on : Result (Unit {0}) → Result State
  on x = x >>= λ u. done (decode document_01 s)

  pub basis_accepted : (n : ℕ) → accepted_over s n ≡ done tt → Basis file s
  basis_accepted n a = record {
    base = based size big file f e s w;
    alone = one_level;
    bound = n;
    reads = sym (accepted_is size big file f e s w n) ∙ ap on a;
    said = f;
    says = e;
    parameters = ap (λ X. X.parameters) (decoded size big file f e s w);
  }

  pub basis_refused : (out out' : Bytes) (r : ℕ) → Stops (accepted_over s) (get_or s 1 0) out out' r
      → Stops (λ n. read document_01 n file) (variables_of (problem document_01 file)) out out' r
  basis_refused out out' r S = record {
    bound = S.bound;
    number = S.number;
    place = S.place;
    value = S.value;
    refuses = sym (accepted_is size big file f e s w S.bound) ∙ ap on S.refuses;
    printed = spelled (ap (λ v. x_lines v S.number S.place S.value) variables_are) S.printed;
    fits = S.fits;
  }

  pub begun_by : (b : CodeResult (Unit {0}) ℕ) (out out' : Bytes) → AcceptedAs b s out out' → BegunAs b file s out out'
  begun_by (Ok u) out out' a = basis_accepted a.0 a.1
  begun_by (Err r) out out' S = basis_refused out out' r S

-- ## A file that was not

module _ (size : ℕ) (file : Bytes) (e : Refused) (s : Words) where
  some_number : number_of e.refusal ≡ 0 → ⊥
  some_number z = absurd (omega (arith, z, number_positive e.refusal))

  pub read_refused : ◌≡◌ {A = ℕ × ℕ × Words} (number_of e.refusal, e.place, s) (read_as size (problem document_01 file)) → read document_01 0 file
      ≡ refused (number_of e.refusal) e.place []
  read_refused h = go (problem document_01 file) refl (document_reader.answered file) h
    where
      go : (x : Result (Parameters × Level)) → problem document_01 file ≡ x → Answered document_01 file x
          → ◌≡◌ {A = ℕ × ℕ × Words} (number_of e.refusal, e.place, s) (read_as size x)
          → read document_01 0 file ≡ refused (number_of e.refusal) e.place []
      go (done f) p b q = absurd (some_number (ap (λ t. t.0) q))
      go (refused m o value) p b q =
          ap (λ x. x >>= accepted document_01 0) p ∙ ap (λ v. refused m o v) b.1 ∙ sym (λ i. refused (q i).0 (q i).1 [])
      go unfinished p b q = absurd (some_number (ap (λ t. t.0) q))
