-- What is printed of a file from its parts: a file refused, or accepted and then the test, the levels, the page.
use mathlib.Core.Path.{◌≡◌, refl, sym, ap, ◌∙◌, subst}
use mathlib.Core.Bool.{Bool, true, false}
use mathlib.Core.Option.{Option, none, some}
use mathlib.Core.List.{[], ◌∷◌}
use Prim.Native.Nat.{ℕ, zero, suc, ◌+◌, ◌-◌, ◌≤◌}
use native.Mathlib.Omega.{arith}
use native.Mathlib.Nat.{add_comm}
use lib.Dec.{T}
use Rattle.definitions.specs.Limits.{document_01}
use Rattle.definitions.specs.Lists.{empty?}
use Rattle.definitions.specs.Monomial.{Level}
use Rattle.definitions.specs.Result.{Result, done, refused, unfinished, finished?, at_level, ◌>>=◌}
use Rattle.definitions.specs.Lifting.{by_hybrid, lift_level}
use Rattle.definitions.specs.Problem.{Bytes, problem}
use Rattle.definitions.specs.State.{State, up_to}
use Rattle.definitions.specs.Stage.{highest}
use Rattle.definitions.specs.Calls.{read, lift}
use Rattle.definitions.specs.Layout.{Words, decode}
use Rattle.definitions.specs.Sheet.{printed, letter_X, x_lines, levels_from, variables_of, sheet_of, sheet}
use Rattle.definitions.specs.Program.{lifted, printed_or_refused, program}
use Rattle.definitions.specs.Places.{most_levels}
use Rattle.laws.proofs.Results.{IfDone}
use Rattle.laws.proofs.Steady.{answered?, Steady, steady_from, result_steady}
use Rattle.laws.proofs.Bound.{read_steady, levels_from_steady}
use Rattle.pages.specs.bytes.Printing.{Printed}
use Rattle.pages.proofs.bytes.Spelling.{spelled}
use Rattle.level.specs.all_levels.Levels.{Levels, unless_last, then_levels, reached_from, reached}
use Rattle.level.proofs.all_levels.Levels.{result_of, lifted_reached}
use Rattle.std.specs.Prelude.{Result as CodeResult, Ok, Err}
use Rattle.words.specs.declared.refusals.Refused.{Refused}
use Rattle.words.specs.refusals.Numbers.{number_of}
use Rattle.words.proofs.Numbered.{number_positive}
use Rattle.level.specs.all_levels.Level.{levels_of}
use Rattle.listing.specs.reading.Beginning.{Stops, Basis, BegunAs}
use Rattle.listing.specs.whole.Listed.{Prints}
use Rattle.listing.specs.whole.Paged.{paged, tested, AcceptedPrints, LiftedPrints, then_printed}
use Rattle.listing.proofs.reading.Refusals.{x_alone}

-- ## Levels

abbrev Keeps : State → Option Levels → Type 0
Keeps X none = Unit {0}
Keeps X (some (number, place, Y)) = Y.parameters ≡ X.parameters

lift_keeps : (n k : ℕ) (X : State) → IfDone (λ (Y : State). Y.parameters ≡ X.parameters) (lift document_01 n X k (by_hybrid 2 document_01.working))
lift_keeps n k X = go (at_level k (lift_level document_01 X.parameters.p X.parameters.code (up_to X (k - 1)) (by_hybrid 2 document_01.working) n))
  where
    go : (x : Result Level) → IfDone (λ (Y : State). Y.parameters ≡ X.parameters)
        (x >>= λ f. done (record { parameters = X.parameters; levels = f ∷ up_to X (k - 1) }))
    go (done f) = refl
    go (refused number place value) = tt
    go unfinished = tt

-- whatever levels are reached, the parameters stay
reached_keeps : (n left k : ℕ) (X : State) → Keeps X (reached_from document_01 n left k X)
reached_keeps n zero k X = refl
reached_keeps n (suc left) k X = go (lift document_01 n X k (by_hybrid 2 document_01.working)) (lift_keeps n k X) (λ Y. reached_keeps n left (suc k) Y)
  where
    over : (Y : State) (o : Option Levels) → Y.parameters ≡ X.parameters → Keeps Y o → Keeps X o
    over Y none e h = tt
    over Y (some (number, place, Z)) e h = h ∙ e

    next : (b : Bool) (Y : State) → Y.parameters ≡ X.parameters → Keeps Y (reached_from document_01 n left (suc k) Y)
        → Keeps X (unless_last b Y (λ Z. reached_from document_01 n left (suc k) Z))
    next true Y e h = e
    next false Y e h = over Y (reached_from document_01 n left (suc k) Y) e h

    go : (x : Result State) → IfDone (λ (Y : State). Y.parameters ≡ X.parameters) x → ((Y : State) → Keeps Y (reached_from document_01 n left (suc k) Y))
        → Keeps X (then_levels X (λ Y. reached_from document_01 n left (suc k) Y) x)
    go (done Y) e h = next (empty? (highest Y.levels)) Y e (h Y)
    go (refused number place value) e h = refl
    go unfinished e h = tt

pub parameters_stay : (s t : Words) (n : ℕ) (x : CodeResult (Unit {0}) Refused)
    → ◌≡◌ {A = Option Levels} (some (levels_of x (decode document_01 t))) (reached document_01 n (decode document_01 s))
    → (decode document_01 t).parameters ≡ (decode document_01 s).parameters
parameters_stay s t n x r = go x (subst (Keeps (decode document_01 s)) (sym r) (reached_keeps n most_levels 1 (decode document_01 s)))
  where
    go : (x : CodeResult (Unit {0}) Refused) → Keeps (decode document_01 s) (some (levels_of x (decode document_01 t)))
        → (decode document_01 t).parameters ≡ (decode document_01 s).parameters
    go (Ok u) h = h
    go (Err e) h = h

module _ (page : State → Bytes) (s t : Words) (n : ℕ) (x : CodeResult (Unit {0}) Refused)
    (r : ◌≡◌ {A = Option Levels} (some (levels_of x (decode document_01 t))) (reached document_01 n (decode document_01 s))) where
  lifted_is : (y : CodeResult (Unit {0}) Refused) → x ≡ y → lifted document_01 n (decode document_01 s)
      ≡ result_of (some (levels_of y (decode document_01 t)))
  lifted_is y h = lifted_reached document_01 n most_levels 1 (decode document_01 s)
      ∙ ap result_of (sym r ∙ ap (λ y. some (levels_of y (decode document_01 t))) h)

  some_refused : (m place : ℕ) → 1 ≤ m → result_of (some (m, place, decode document_01 t)) ≡ refused m place []
  some_refused zero place h = absurd (omega arith)
  some_refused (suc m) place h = refl

  abbrev shown : ℕ → Result State → Option Bytes
  shown v x = printed_or_refused v (x >>= λ Y. done (page Y))

  pub page_printed : {out out' : Bytes} {long : ℕ} → x ≡ Ok tt → Printed out out' 0 long (page (decode document_01 t))
      → LiftedPrints page s out out' long
  page_printed h p v = record {
    bound = n;
    bytes = page (decode document_01 t);
    gives = sym (ap (shown v) (lifted_is (Ok tt) h));
    printed = p;
  }

  pub level_refused : {out out' : Bytes} {long : ℕ} (e : Refused) → x ≡ Err e
      → Printed out out' 0 long (printed letter_X (number_of e.refusal ∷ e.place ∷ [])) → LiftedPrints page s out out' long
  level_refused e h p v = record {
    bound = n;
    bytes = x_lines v (number_of e.refusal) e.place [];
    gives = sym (ap (shown v) (lifted_is (Err e) h ∙ some_refused (number_of e.refusal) e.place (number_positive e.refusal)));
    printed = spelled (x_alone v (number_of e.refusal) e.place) p;
  }

-- ## The test

module _ (test : State → Result (Unit {0})) (page : State → Bytes) (s : Words) where
  abbrev then_paged : ℕ → ℕ → Result (Unit {0}) → Option Bytes
  then_paged v n x = printed_or_refused v (x >>= λ u. paged page n (decode document_01 s))

  pub test_passed : {out out' : Bytes} {long : ℕ} → test (decode document_01 s) ≡ done tt → LiftedPrints page s out out' long
      → AcceptedPrints (tested test page) s out out' long
  test_passed e R v =
      let p = R v in
      record { bound = p.bound; bytes = p.bytes; gives = p.gives ∙ sym (ap (then_paged v p.bound) e); printed = p.printed }

  pub test_refused : {out out' : Bytes} {long : ℕ} (number place : ℕ) → test (decode document_01 s) ≡ refused number place []
      → Printed out out' 0 long (printed letter_X (number ∷ place ∷ [])) → AcceptedPrints (tested test page) s out out' long
  test_refused number place e p v = record {
    bound = 0;
    bytes = x_lines v number place [];
    gives = sym (ap (then_paged v 0) e);
    printed = spelled (x_alone v number place) p;
  }

-- ## A file

module _ (file : Bytes) where
  abbrev v : ℕ
  v = variables_of (problem document_01 file)

  -- what was begun was accepted, or refused in r bytes
  module _ (s : Words) (out out' : Bytes) (b : CodeResult (Unit {0}) ℕ) (begun : BegunAs b file s out out') where
    pub begun_basis : b ≡ Ok tt → Basis file s
    begun_basis e = subst (λ y. BegunAs y file s out out') e begun

    pub begun_stops : (r : ℕ) → b ≡ Err r → Stops (λ n. read document_01 n file) (variables_of (problem document_01 file)) out out' r
    begun_stops r e = subst (λ y. BegunAs y file s out out') e begun

  module _ (of : ℕ → State → Option Bytes) (whole : ℕ → Option Bytes)
      (is : (n : ℕ) → whole n ≡ then_printed (variables_of (problem document_01 file)) (of n) (read document_01 n file)) (s : Words)
      (out out' : Bytes) where
    over_accepted : {after : Bytes} {r : ℕ} → ((X : State) → Steady answered? (λ n. of n X)) → Basis file s
        → Prints (λ n. of n (decode document_01 s)) out' after 0 r → Prints whole out after 0 r
    over_accepted steady B p =
        let X = decode document_01 s in
        let n = B.bound in
        let m = p.bound in
        let over : read document_01 (n + m) file ≡ done X =
        steady_from finished? (λ i. read document_01 i file) (read_steady document_01 file) n m (subst (λ x. T (finished? x)) (sym B.reads) tt)
        ∙ B.reads in
        record {
          bound = n + m;
          bytes = p.bytes;
          gives =
              p.gives
              ∙ sym (steady_from answered? (λ i. of i X) (steady X) m n (subst (λ o. T (answered? o)) p.gives tt))
              ∙ ap (λ i. of i X) (add_comm m n)
              ∙ sym (is (n + m) ∙ ap (then_printed v (of (n + m))) over);
          printed = record { front = p.printed.front; ends = p.printed.ends };
        }

    over_refused : {r : ℕ} → Stops (λ n. read document_01 n file) v out out' r → Prints whole out out' 0 r
    over_refused S = record {
      bound = S.bound;
      bytes = x_lines v S.number S.place S.value;
      gives = sym (is S.bound ∙ ap (then_printed v (of S.bound)) S.refuses);
      printed = S.printed;
    }

  -- ## .. whose sheet is printed

  sheet_then : (n : ℕ) (x : Result State) → sheet_of document_01 n v x ≡ then_printed v (levels_from document_01 n most_levels 1) x
  sheet_then n (done X) = refl
  sheet_then n (refused number place value) = refl
  sheet_then n unfinished = refl

  module _ (s : Words) (out out' : Bytes) (b : CodeResult (Unit {0}) ℕ) (begun : BegunAs b file s out out') where
    abbrev the_sheet : ℕ → Option Bytes
    the_sheet n = sheet document_01 n file

    sheet_is : (n : ℕ) → sheet document_01 n file ≡ then_printed v (levels_from document_01 n most_levels 1) (read document_01 n file)
    sheet_is n = sheet_then n (read document_01 n file)

    pub accepted_sheet : {after : Bytes} {r : ℕ} → b ≡ Ok tt → Prints (λ n. levels_from document_01 n most_levels 1 (decode document_01 s)) out' after 0 r
        → Prints (λ n. sheet document_01 n file) out after 0 r
    accepted_sheet e =
        over_accepted (λ n. levels_from document_01 n most_levels 1) the_sheet sheet_is s out out' (levels_from_steady document_01 most_levels 1)
        (begun_basis s out out' b begun e)

    pub refused_sheet : (r : ℕ) → b ≡ Err r → Prints (λ n. sheet document_01 n file) out out' 0 r
    refused_sheet r e =
        over_refused (λ n. levels_from document_01 n most_levels 1) the_sheet sheet_is s out out' (begun_stops s out out' b begun r e)

  -- ## .. whose page is printed

  module _ (page : ℕ → State → Result Bytes) where
    abbrev of : ℕ → State → Option Bytes
    of n X = printed_or_refused v (page n X)

    program_then : (n : ℕ) (x : Result State) → printed_or_refused v (x >>= page n) ≡ then_printed v (of n) x
    program_then n (done X) = refl
    program_then n (refused number place value) = refl
    program_then n unfinished = refl

    module _ (s : Words) (out out' : Bytes) (b : CodeResult (Unit {0}) ℕ) (begun : BegunAs b file s out out') where
      abbrev the_page : ℕ → Option Bytes
      the_page n = program (page n) document_01 n file

      page_is : (n : ℕ) → program (page n) document_01 n file ≡ then_printed v (of n) (read document_01 n file)
      page_is n = program_then n (read document_01 n file)

      pub accepted_page : {after : Bytes} {r : ℕ} → ((X : State) → Steady finished? (λ n. page n X)) → b ≡ Ok tt
          → AcceptedPrints page s out' after r → Prints (λ n. program (page n) document_01 n file) out after 0 r
      accepted_page steady e p =
          over_accepted of the_page page_is s out out'
          (λ X. result_steady answered? (printed_or_refused v) (λ t. t) (λ n. page n X) (steady X)) (begun_basis s out out' b begun e) (p v)

      pub refused_page : (r : ℕ) → b ≡ Err r → Prints (λ n. program (page n) document_01 n file) out out' 0 r
      refused_page r e = over_refused of the_page page_is s out out' (begun_stops s out out' b begun r e)
