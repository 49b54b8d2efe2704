-- Fetching, test by test.
use mathlib.Core.Path.{◌≡◌, refl, sym, ap, ◌∙◌}
use mathlib.Core.Bool.{Bool, true, false, not, ◌||◌}
use Prim.Native.Nat.{ℕ, ◌≤◌, ◌<◌}
use native.Mathlib.Omega.{arith}
use borrow.Author.Tests.{le-leb, lt-leb, lt-ltb, le-ltb}
use lib.Dec.{T, leb}
use lib.ListN.{length, get_or}
use Rattle.definitions.specs.Limits.{document_01}
use Rattle.definitions.specs.Lists.{◌and◌, choose, between}
use Rattle.definitions.specs.Monomial.{vector_of}
use Rattle.definitions.specs.Stage.{highest}
use Rattle.definitions.specs.State.{State, empty, sound?, has_level?, up_to}
use Rattle.definitions.specs.Calls.{refuse, fetch as fetch_definition}
use Rattle.definitions.specs.Layout.{Words, Fetch, rows_of, padded, level_at, levels_at, decode, holds_state?, meant, fetch_left, fetch_call}
use Rattle.laws.proofs.Tests.{true_is}
use Rattle.definitions.specs.Places.{most_levels, state_length, vector_length}
use Rattle.state.specs.soundness.Places.{count_at}
use Rattle.state.proofs.preparing.Complete.{highest_is, meant_is, complete_count, length_levels, holds_sound}

module _ (s out : Words) (k v : ℕ) where
  -- by the tests' values
  abbrev by_tests : Bool → Bool → State → Bool → Bool → Bool → Bool → Fetch
  by_tests long long' X sound inside has own =
      fetch_left out (choose (not (long and long')) (refuse 16 X) (choose (not sound || (inside and not has)) (refuse 11 X)
      (choose (not (inside and own)) (refuse 12 X) (fetch_definition X k v))))

  abbrev at_tests : Bool → Bool → State → Fetch
  at_tests long long' X = by_tests long long' X (sound? document_01 X) (between 1 k most_levels) (has_level? X k)
      (between 1 v (length (highest (up_to X k))))

  pub short_state : length s < state_length → ◌≡◌ {A = Fetch} (16, 0, out) (fetch_call document_01 k v s out)
  short_state h = sym (ap (λ b. at_tests b (leb vector_length (length out)) (meant document_01 s)) (lt-leb state_length (length s) h))

  module _ (long : state_length ≤ length s) where
    pub short_out : length out < vector_length → ◌≡◌ {A = Fetch} (16, 0, out) (fetch_call document_01 k v s out)
    short_out h =
        sym (ap (λ b. at_tests true b (meant document_01 s)) (lt-leb vector_length (length out) h))
        ∙ sym (ap (λ b. at_tests b (leb vector_length (length out)) (meant document_01 s)) (le-leb state_length (length s) long))

    module _ (wide : vector_length ≤ length out) where
      after_lengths : (X : State) → X ≡ meant document_01 s → at_tests true true X ≡ fetch_call document_01 k v s out
      after_lengths X e =
          ap (at_tests true true) e
          ∙ sym (ap (λ b. at_tests true b (meant document_01 s)) (le-leb vector_length (length out) wide))
          ∙ sym (ap (λ b. at_tests b (leb vector_length (length out)) (meant document_01 s)) (le-leb state_length (length s) long))

      nothing_meant : false ≡ holds_state? document_01 s → empty ≡ meant document_01 s
      nothing_meant e = ap (λ b. elim b [ true ↦ decode document_01 s | false ↦ empty ]) e

      pub no_state : false ≡ holds_state? document_01 s → ◌≡◌ {A = Fetch} (11, 0, out) (fetch_call document_01 k v s out)
      no_state e = after_lengths empty (nothing_meant e)

      module _ (holds : T (holds_state? document_01 s)) where
        abbrev X : State
        X = decode document_01 s

        sound_is : sound? document_01 X ≡ true
        sound_is = true_is (sound? document_01 X) (holds_sound s holds)

        in_state : (inside has own : Bool) → between 1 k most_levels ≡ inside → has_level? X k ≡ has → between 1 v (length (highest (up_to X k))) ≡ own
            → by_tests true true X true inside has own ≡ fetch_call document_01 k v s out
        in_state inside has own a b c =
            sym (λ i. by_tests true true X (sound_is i) (a i) (b i) (c i)) ∙ after_lengths X (sym (meant_is s holds))

        pub no_such_level : false ≡ between 1 k most_levels → ◌≡◌ {A = Fetch} (12, 0, out) (fetch_call document_01 k v s out)
        no_such_level e = in_state false (has_level? X k) (between 1 v (length (highest (up_to X k)))) (sym e) refl refl

        pub not_complete : true ≡ between 1 k most_levels → get_or s 4 0 ≤ k → ◌≡◌ {A = Fetch} (11, 0, out) (fetch_call document_01 k v s out)
        not_complete e h =
            in_state true false (between 1 v (length (highest (up_to X k)))) (sym e)
            (le-ltb k (length (levels_at document_01 s (get_or s 4 0))) (omega (arith, length_levels s (get_or s 4 0), h))) refl

        module _ (inside : between 1 k most_levels ≡ true) (has : k < get_or s 4 0) where
          has_it : has_level? X k ≡ true
          has_it = lt-ltb k (length (levels_at document_01 s (get_or s 4 0))) (omega (arith, length_levels s (get_or s 4 0), has))

          count_is : between 1 v (length (highest (up_to X k))) ≡ between 1 v (count_at s k)
          count_is = ap (λ f. between 1 v (length f)) (highest_is s k has) ∙ ap (between 1 v) (complete_count s long holds k has)

          pub no_such_vector : false ≡ between 1 v (count_at s k) → ◌≡◌ {A = Fetch} (12, 0, out) (fetch_call document_01 k v s out)
          no_such_vector e = in_state true true false inside has_it (count_is ∙ sym e)

          pub fetched : true ≡ between 1 v (count_at s k) → (z : Words) → z ≡ padded (length out) (rows_of (vector_of (level_at document_01 s k) v))
              → ◌≡◌ {A = Fetch} (0, 0, z) (fetch_call document_01 k v s out)
          fetched e z w =
              (λ i. (0, 0, (w ∙ ap (λ f. padded (length out) (rows_of (vector_of f v))) (sym (highest_is s k has))) i))
              ∙ in_state true true true inside has_it (count_is ∙ sym e)
