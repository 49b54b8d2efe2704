-- Dividing a lent vector, test by test.
use mathlib.Core.Path.{◌≡◌, refl, sym, ap, ◌∙◌}
use mathlib.Core.Bool.{Bool, true, false, not}
use mathlib.Core.Option.{Option, none, some}
use mathlib.Core.List.{[], ◌∷◌, ◌++◌}
use Prim.Native.Nat.{ℕ, ◌-◌, ◌*◌, ◌/◌, ◌≤◌, ◌<◌}
use native.Mathlib.Omega.{arith}
use borrow.Author.Tests.{le-leb, lt-leb}
use lib.Dec.{T, leb}
use lib.ListN.{length, get_or, take, replicate}
use lib.Seq.{length-take-le}
use Rattle.definitions.specs.Limits.{document_01}
use Rattle.definitions.specs.Lists.{◌and◌, choose}
use Rattle.definitions.specs.Monomial.{Vector, Level}
use Rattle.definitions.specs.Result.{Result, done, refused, unfinished, ◌>>=◌}
use Rattle.definitions.specs.Stage.{stage_over}
use Rattle.definitions.specs.Problem.{Parameters}
use Rattle.definitions.specs.State.{State, empty, sound?, up_to}
use Rattle.definitions.specs.Membership.{Parts, undivided, divide, parts_by, divided_by, lent_terms, lent_divided}
use Rattle.definitions.specs.Layout.{Words, Divide, rows, rows_of, padded, zeros, level_at, decode, holds_state?, meant, divide_left, divide_call}
use Rattle.definitions.specs.Places.{most_terms, row_length, state_length, value_length, vector_length}
use Rattle.laws.proofs.Tests.{true_is}
use Rattle.laws.proofs.Rows.{length_rows}
use Rattle.words.specs.Slices.{SixteenBits}
use Rattle.vectors.specs.terms.Rows.{cleared}
use Rattle.ending.specs.Good.{good?}
use Rattle.members.proofs.Lent.{lent_brings, basis_sound}
use Rattle.members.proofs.Right.{vector_good}
use Rattle.state.specs.soundness.Places.{parameters_at}
use Rattle.state.specs.soundness.Holding.{bounds_of}
use Rattle.state.proofs.preparing.Complete.{up_to_is, meant_is, holds_sound}
use Rattle.state.proofs.writing.Spelled.{rows_back}
use Rattle.level.specs.by_runs.Stages.{Base}
use Rattle.dividing.specs.over.Parts.{divided_over}
use Rattle.divide_call.specs.Rows.{first_bad, taken_by}
use Rattle.divide_call.proofs.RowByRow.{rows_lent}

-- ## What is left in the buffers

-- n rows are kept, zeros stand behind them
pub kept_rows : (s : Words) (n : ℕ) → n * row_length ≤ length s → SixteenBits s → cleared s (n * row_length) ≡ padded (length s) (rows_of (rows s 0 n))
kept_rows s n h f =
    let e : rows_of (rows s 0 n) ≡ take (n * row_length) s = rows_back s 0 n (omega arith) f in
    let m : length s - n * row_length ≡ length s - length (rows_of (rows s 0 n)) = omega (arith, ap length e, length-take-le (n * row_length) s h) in
    λ i. sym e i ++ replicate (m i) 0

-- nothing is kept
pub none_kept : (s : Words) → cleared s 0 ≡ zeros s
none_kept s = let z : length s - 0 ≡ length s = omega arith in ap (λ k. replicate k 0) z

-- only the buffers' lengths count
pub left_same : (q r q' r' : Words) → length q' ≡ length q → length r' ≡ length r → (x : Result Parts) → divide_left q' r' x ≡ divide_left q r x
left_same q r q' r' a b (done d) = λ i. some (0, 0, padded (a i) (rows_of d.0), padded (b i) (rows_of d.1))
left_same q r q' r' a b (refused number place value) = λ i. some (number, place, replicate (a i) 0, replicate (b i) 0)
left_same q r q' r' a b unfinished = refl

-- ## The tests

module _ (s vector quotients remainder : Words) where
  -- by the tests' values
  abbrev by_tests : ℕ → Bool → Bool → Bool → State → Bool → Option Divide
  by_tests n long wide wide' X sound =
      choose (not (long and wide and wide')) (some (16, 0, quotients, remainder)) (choose (not sound) (some (11, 0, quotients, remainder))
      (divide_left quotients remainder (lent_divided document_01 n X (rows vector 0 (length vector / row_length)))))

  abbrev at_tests : ℕ → Bool → Bool → Bool → State → Option Divide
  at_tests n long wide wide' X = by_tests n long wide wide' X (sound? document_01 X)

  pub short_state : length s < state_length → ◌≡◌ {A = Option Divide} (some (16, 0, quotients, remainder))
      (divide_call document_01 0 s vector quotients remainder)
  short_state h = sym (ap (λ b. at_tests 0 b (leb vector_length (length quotients)) (leb value_length (length remainder)) (meant document_01 s))
      (lt-leb state_length (length s) h))

  module _ (long : state_length ≤ length s) where
    pub short_quotients : length quotients < vector_length
        → ◌≡◌ {A = Option Divide} (some (16, 0, quotients, remainder)) (divide_call document_01 0 s vector quotients remainder)
    short_quotients h = sym (λ i. at_tests 0 (le-leb state_length (length s) long i) (lt-leb vector_length (length quotients) h i)
        (leb value_length (length remainder)) (meant document_01 s))

    module _ (wide : vector_length ≤ length quotients) where
      pub short_remainder : length remainder < value_length
          → ◌≡◌ {A = Option Divide} (some (16, 0, quotients, remainder)) (divide_call document_01 0 s vector quotients remainder)
      short_remainder h = sym (λ i. at_tests 0 (le-leb state_length (length s) long i) (le-leb vector_length (length quotients) wide i)
          (lt-leb value_length (length remainder) h i) (meant document_01 s))

      module _ (wide' : value_length ≤ length remainder) where
        after_lengths : (n : ℕ) (X : State) (b : Bool) → meant document_01 s ≡ X → sound? document_01 X ≡ b
            → by_tests n true true true X b ≡ divide_call document_01 n s vector quotients remainder
        after_lengths n X b e k =
            sym (ap (by_tests n true true true X) k)
            ∙ sym (λ i. at_tests n (le-leb state_length (length s) long i) (le-leb vector_length (length quotients) wide i)
            (le-leb value_length (length remainder) wide' i) (e i))

        pub no_state : false ≡ holds_state? document_01 s
            → ◌≡◌ {A = Option Divide} (some (11, 0, quotients, remainder)) (divide_call document_01 0 s vector quotients remainder)
        no_state e =
            after_lengths 0 empty false (sym (ap (λ b. elim b [ true ↦ decode document_01 s | false ↦ empty ]) e)) refl

-- ## Over a state

module _ (s : Words) (b : Base s 0) where
  abbrev X : State
  X = decode document_01 s

  abbrev f : Level
  f = level_at document_01 s 0

  sound : T (sound? document_01 (decode document_01 s))
  sound = holds_sound s b.holds

  elements : up_to (decode document_01 s) 0 ≡ level_at document_01 s 0 ∷ []
  elements = up_to_is s 0 b.has

  -- the division over the words is that over the state
  divided_is : (k : ℕ) (v : Vector) → divided_over s k v ≡ divided_by document_01 k (decode document_01 s) v
  divided_is k v = sym (ap (λ ls. divide (stage_over document_01 (get_or s 0 0) (get_or s 2 0) ls) k (undivided v) >>= λ d.
      done (parts_by (stage_over document_01 (get_or s 0 0) (get_or s 2 0) ls).above (get_or s 0 0) d)) elements)

  module _ (vector : Words) where
    abbrev n : ℕ
    n = length vector / row_length

    abbrev q : Parameters
    q = parameters_at s

    -- the number of its first bad row
    abbrev found : Option ℕ
    found = first_bad (bounds_of (get_or s 0 0) (get_or s 1 0) (get_or s 3 0)) (get_or s 2 0) vector 0 (length vector / row_length)

    lent_by : (o : Option ℕ) → found ≡ o → lent_terms document_01 (parameters_at s) 1 [] (rows vector 0 n) ≡ taken_by o (rows vector 0 n)
    lent_by o e = rows_lent (parameters_at s) vector n ∙ ap (λ o. taken_by o (rows vector 0 n)) e

    pub lent_good : first_bad (bounds_of (get_or s 0 0) (get_or s 1 0) (get_or s 3 0)) (get_or s 2 0) vector 0 (length vector / row_length) ≡ none
        → (length vector / row_length ≤ most_terms) × T (good? (rows vector 0 (length vector / row_length)))
    lent_good e =
        let h = (lent_brings document_01 q (rows vector 0 n) (rows vector 0 n) (lent_by none e)).1 in (
          omega (arith, length_rows vector 0 n, h.1),
          vector_good document_01 tt q f (basis_sound document_01 X f sound elements) (rows vector 0 n) h.0,
        )

    module _ (quotients remainder : Words) (wide : vector_length ≤ length quotients) (wide' : value_length ≤ length remainder) where
      in_state : (k : ℕ) → divide_left quotients remainder (lent_divided document_01 k (decode document_01 s) (rows vector 0 n))
          ≡ divide_call document_01 k s vector quotients remainder
      in_state k = after_lengths s vector quotients remainder b.long wide wide' k X true (meant_is s b.holds) (true_is (sound? document_01 X) sound)

      pub bad_row : (place : ℕ) → some place ≡ first_bad (bounds_of (get_or s 0 0) (get_or s 1 0) (get_or s 3 0)) (get_or s 2 0) vector 0 (length vector / row_length)
          → ◌≡◌ {A = Option Divide} (some (23, place, cleared quotients 0, cleared remainder 0)) (divide_call document_01 0 s vector quotients remainder)
      bad_row place e =
          (λ i. some (23, place, none_kept quotients i, none_kept remainder i))
          ∙ sym (ap (λ x. divide_left quotients remainder (x >>= divided_by document_01 0 X)) (lent_by (some place) (sym e))) ∙ in_state 0

      pub rows_divided : first_bad (bounds_of (get_or s 0 0) (get_or s 1 0) (get_or s 3 0)) (get_or s 2 0) vector 0 (length vector / row_length) ≡ none
          → (k : ℕ) (x : Result Parts) → x ≡ divided_over s k (rows vector 0 (length vector / row_length))
          → divide_left quotients remainder x ≡ divide_call document_01 k s vector quotients remainder
      rows_divided e k x h =
          ap (divide_left quotients remainder) (h ∙ divided_is k (rows vector 0 n))
          ∙ sym (ap (λ y. divide_left quotients remainder (y >>= divided_by document_01 k X)) (lent_by none e)) ∙ in_state k
