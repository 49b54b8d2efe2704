-- One try after the other, and what is printed at the end.
use mathlib.Core.Path.{◌≡◌, refl, sym, ap, ◌∙◌, subst}
use mathlib.Core.List.{[], ◌∷◌}
use Prim.Native.Nat.{ℕ, suc, ◌+◌, ◌-◌, ◌<◌, ◌≤◌}
use native.Mathlib.Omega.{arith}
use lib.ListN.{length, take}
use lib.Seq.{paste, length-take-le, take-paste, take-length}
use Rattle.definitions.specs.Limits.{document_01}
use Rattle.definitions.specs.Result.{Result, done, refused}
use Rattle.definitions.specs.Problem.{Bytes, problem}
use Rattle.definitions.specs.Sheet.{printed, letter_X, x_lines, variables_of}
use Rattle.definitions.specs.Program.{printed_or_refused}
use Rattle.definitions.specs.Completing.{completed, completing}
use Rattle.definitions.specs.Places.{most_elements, file_length, pair_line_length}
use Rattle.completions.specs.Resuming.{Same, Passed}
use Rattle.completions.proofs.Trying.{same_at_once, same_then, none_passed, tried_unread, never_open}
use Rattle.files.proofs.Reader.{document_reader}
use Rattle.files.specs.Answers.{too_long}
use Rattle.pages.specs.bytes.Printing.{Printed}
use Rattle.pages.proofs.bytes.Spelling.{spelled}
use Rattle.listing.specs.whole.Listed.{Prints}
use Rattle.listing.proofs.reading.Refusals.{x_alone}
use Rattle.completing.specs.whole.Tries.{Refuses}

-- all tries
abbrev pub all_tries : Bytes → ℕ → Result Bytes
all_tries file n = completed document_01 n (suc most_elements) file

-- ## The loop

-- so many tries are left for this file
pub record Going (given so_far : Bytes) (left from : ℕ) : Type 0 where
  pub same : Same (all_tries given) (λ n. completed document_01 n left so_far)
  pub passed : Passed document_01 so_far from

pub going_start : (given : Bytes) (left : ℕ) → left ≡ suc most_elements → Going given given left 0
going_start given left e = record {
  same = same_at_once (λ n. ap (λ k. completed document_01 n k given) (sym e));
  passed = none_passed document_01 given;
}

one_less : (left : ℕ) → 0 < left → suc (left - 1) ≡ left
one_less left h = omega (arith, h)

pub going_on : (given so_far longer : Bytes) (left from from' : ℕ) → Going given so_far left from → 0 < left
    → ((k : ℕ) → Same (λ n. completed document_01 n (suc k) so_far) (λ n. completed document_01 n k longer)) → Passed document_01 longer from'
    → Going given longer (left - 1) from'
going_on given so_far longer left from from' g h a p = record {
  same = same_then g.same
      (subst (λ k. Same (λ n. completed document_01 n k so_far) (λ n. completed document_01 n (left - 1) longer)) (one_less left h) (a (left - 1)));
  passed = p;
}

-- no try is left: that does not come
pub going_end : (given so_far : Bytes) (left from : ℕ) → Going given so_far left from → left ≡ 0 → ⊥
going_end given so_far left from g e = never_open document_01 tt given
    (subst (λ k. Same (all_tries given) (λ n. completed document_01 n k so_far)) e g.same)

-- ## What is printed

pub going_accepted : (given so_far : Bytes) (left from : ℕ) → Going given so_far left from → 0 < left
    → ((k : ℕ) → Same (λ n. completed document_01 n (suc k) so_far) (λ n. done so_far)) → Same (all_tries given) (λ n. done so_far)
going_accepted given so_far left from g h a =
    same_then g.same (subst (λ k. Same (λ n. completed document_01 n k so_far) (λ n. done so_far)) (one_less left h) (a (left - 1)))

pub prints_file : (given out out' : Bytes) (size : ℕ) → size ≤ length out' → Same (all_tries given) (λ n. done (take size out'))
    → Prints (λ n. completing document_01 n given) out out' 0 size
prints_file given out out' size h a = record {
  bound = a.0;
  bytes = take size out';
  gives = sym (ap (printed_or_refused (variables_of (problem document_01 given))) (a.1 a.0 (omega arith)));
  printed = record { front = refl; ends = let l = length-take-le size out' h in omega (arith, l) };
}

prints_refusal : (given out out' : Bytes) (r number place : ℕ) → Same (all_tries given) (λ n. refused number place [])
    → Printed out out' 0 r (printed letter_X (number ∷ place ∷ [])) → Prints (λ n. completing document_01 n given) out out' 0 r
prints_refusal given out out' r number place a p = record {
  bound = a.0;
  bytes = x_lines (variables_of (problem document_01 given)) number place [];
  gives = sym (ap (printed_or_refused (variables_of (problem document_01 given))) (a.1 a.0 (omega arith)));
  printed = spelled (x_alone (variables_of (problem document_01 given)) number place) p;
}

-- what was printed into the buffer as the tries left it is printed into the buffer given
pub going_refused : (given so_far out before out' : Bytes) (left from r : ℕ) → Going given so_far left from → 0 < left
    → ((k : ℕ) → Refuses (λ n. completed document_01 n (suc k) so_far) before out' r)
    → Prints (λ n. completing document_01 n given) out out' 0 r × (r ≤ pair_line_length)
going_refused given so_far out before out' left from r g h a =
    let R = a (left - 1) in (
      prints_refusal given out out' r R.number R.place (same_then g.same
          (subst (λ k. Same (λ n. completed document_01 n k so_far) (λ n. refused R.number R.place [])) (one_less left h) R.same))
          (record { front = R.line.front; ends = R.line.ends }),
      R.fits,
    )

-- a file that is too long
pub too_long_printed : (given out out' : Bytes) (r : ℕ) → file_length < length given → Printed out out' 0 r (printed letter_X (1 ∷ 0 ∷ []))
    → Prints (λ n. completing document_01 n given) out out' 0 r
too_long_printed given out out' r h p = prints_refusal given out out' r 1 0
    (tried_unread document_01 given most_elements 1 0 (document_reader.refuses given 1 0 (too_long refl refl h))) p

-- ## The file in the buffer

pub copied : (out file : Bytes) → length file ≤ length out → take (length file) (paste out 0 file (length file)) ≡ file
copied out file h =
    let z : length file ≡ 0 + length file = omega arith in
    ap (λ k. take k (paste out 0 file (length file))) z ∙ take-paste out 0 file (length file) (omega arith) (omega arith) ∙ take-length file

-- a file's bytes, wherever they stand
pub prints_alike : (given given' out before out' : Bytes) (r : ℕ) → given ≡ given'
    → Prints (λ n. completing document_01 n given) before out' 0 r → Prints (λ n. completing document_01 n given') out out' 0 r
prints_alike given given' out before out' r e P = record {
  bound = P.bound;
  bytes = P.bytes;
  gives = P.gives ∙ ap (completing document_01 P.bound) e;
  printed = record { front = P.printed.front; ends = P.printed.ends };
}
