-- What the functions that settle a state leave in it, word by word.
use mathlib.Core.Path.{◌≡◌, refl, sym, ◌∙◌, subst}
use Prim.Native.Nat.{ℕ, ◌+◌, ◌-◌, ◌<◌, ◌≤◌}
use native.Mathlib.Omega.{arith}
use native.Mathlib.Decide.{ℕ_discrete}
use lib.Dec.{T}
use lib.ListN.{length, get_or}
use Rattle.definitions.specs.Limits.{document_01}
use Rattle.definitions.specs.Layout.{Words, all_words_sound?}
use Rattle.definitions.specs.Places.{most_components, most_vectors, all_levels, rows_start, degrees_start, carried_start, state_length, count_offset}
use Rattle.definitions.specs.Places.{rows_offset, carried_offset}
use Rattle.vectors.specs.terms.Rows.{cleared}
use Rattle.state.specs.soundness.Places.{count_at}
use Rattle.state.specs.writing.LevelSoFar.{block_cleared}
use Rattle.state.specs.writing.Zeroed.{Few, Tidy, TidiedTo, TidyDegrees, CarriedTo, LevelsSettled, DegreesSettled}
use Rattle.state.proofs.writing.Blocks.{length_cleared, cleared_under, cleared_over, length_block, block_under, block_zero, block_over}
use Rattle.state.proofs.writing.Spelled.{sound_sized, all_sound_at}

-- ## The degrees of one level more

pub carried_none : (s : Words) → CarriedTo s s 0
carried_none s = record { long = refl; front = λ i h l. refl; made = λ j h. absurd (omega arith); left = λ i h l. refl }

module _ (s z : Words) (k : ℕ) (long : state_length ≤ length s) (inside : k < all_levels) (few : Few s (k + 1)) (t : CarriedTo s z k) where
  same_count : count_at z k ≡ count_at s k
  same_count = t.front (count_offset k) (omega arith) (omega arith)

  fit : carried_offset k + most_vectors ≤ length z
  fit = omega (arith, t.long)

  pub room : count_at z k ≤ most_vectors
  room = omega (arith, same_count, few k (omega arith))

  abbrev out : Words
  out = block_cleared (carried_offset k) most_vectors (count_at z k) z

  under : (i : ℕ) → i < carried_offset k + count_at z k → get_or (block_cleared (carried_offset k) most_vectors (count_at z k) z) i 0 ≡ get_or z i 0
  under = block_under (carried_offset k) most_vectors (count_at z k) z fit room

  here : TidyDegrees s (block_cleared (carried_offset k) most_vectors (count_at z k) z) k
  here = record {
    carried = λ i h l. under i (omega (arith, same_count)) ∙ t.left i h (omega (arith, room, same_count));
    no_carried = λ i h l. block_zero (carried_offset k) most_vectors (count_at z k) z fit room i (omega (arith, same_count)) (omega arith);
  }

  older : (j : ℕ) → j < k → TidyDegrees s (block_cleared (carried_offset k) most_vectors (count_at z k) z) j
  older j h =
      let o = t.made j h in
      let c = few j (omega arith) in
      record {
        carried = λ i l m. under i (omega arith) ∙ o.carried i l m;
        no_carried = λ i l m. under i (omega arith) ∙ o.no_carried i l m;
      }

  pub carried_one : CarriedTo s (block_cleared (carried_offset k) most_vectors (count_at z k) z) (k + 1)
  carried_one = record {
    long = length_block (carried_offset k) most_vectors (count_at z k) z fit room ∙ t.long;
    front = λ i h l. under i (omega arith) ∙ t.front i h l;
    made = λ j h. go j h (ℕ_discrete j k);
    left = λ i h l. block_over (carried_offset k) most_vectors (count_at z k) z fit room i (omega arith) ∙ t.left i (omega arith) l;
  }
    where
      go : (j : ℕ) → j < k + 1 → Dec (j ≡ k) → TidyDegrees s (block_cleared (carried_offset k) most_vectors (count_at z k) z) j
      go j h (yes e) = subst (TidyDegrees s out) (sym e) here
      go j h (no e) = older j (omega arith)

-- ## Levels

-- the words behind the counts and behind the rows of tidied levels cleared
module _ (s z : Words) (h : ℕ) (long : state_length ≤ length s) (l : h ≤ all_levels) (t : T (all_words_sound? document_01 s h)) (d : TidiedTo s z h) where
  abbrev mid : Words
  mid = block_cleared (count_offset h) (rows_start - (count_offset h)) 0 z

  abbrev end : Words
  end = block_cleared (rows_offset h) (degrees_start - (rows_offset h)) 0 mid

  fit₁ : count_offset h + (rows_start - (count_offset h)) ≤ length z
  fit₁ = omega (arith, d.long)

  mid_long : length (block_cleared (count_offset h) (rows_start - (count_offset h)) 0 z) ≡ length z
  mid_long = length_block (count_offset h) (rows_start - (count_offset h)) 0 z fit₁ (omega arith)

  fit₂ : rows_offset h + (degrees_start - (rows_offset h)) ≤ length (block_cleared (count_offset h) (rows_start - (count_offset h)) 0 z)
  fit₂ = omega (arith, mid_long, d.long)

  below : (i : ℕ) → i < rows_offset h
      → get_or (block_cleared (rows_offset h) (degrees_start - (rows_offset h)) 0 (block_cleared (count_offset h) (rows_start - (count_offset h)) 0 z)) i 0
      ≡ get_or (block_cleared (count_offset h) (rows_start - (count_offset h)) 0 z) i 0
  below i a = block_under (rows_offset h) (degrees_start - (rows_offset h)) 0 mid fit₂ (omega arith) i (omega arith)

  mid_under : (i : ℕ) → i < count_offset h → get_or (block_cleared (count_offset h) (rows_start - (count_offset h)) 0 z) i 0 ≡ get_or z i 0
  mid_under i a = block_under (count_offset h) (rows_start - (count_offset h)) 0 z fit₁ (omega arith) i (omega arith)

  mid_over : (i : ℕ) → rows_start ≤ i → get_or (block_cleared (count_offset h) (rows_start - (count_offset h)) 0 z) i 0 ≡ get_or z i 0
  mid_over i a = block_over (count_offset h) (rows_start - (count_offset h)) 0 z fit₁ (omega arith) i (omega arith)

  level : (j : ℕ) → j < h
      → Tidy s (block_cleared (rows_offset h) (degrees_start - (rows_offset h)) 0 (block_cleared (count_offset h) (rows_start - (count_offset h)) 0 z)) j
  level j m =
      let o = d.made j m in
      let c = sound_sized s long j (omega arith) (all_sound_at s h t j m) in
      record {
        counts = λ i a b. below i (omega arith) ∙ mid_under i (omega arith) ∙ o.counts i a b;
        no_counts = λ i a b. below i (omega arith) ∙ mid_under i (omega arith) ∙ o.no_counts i a b;
        terms = λ i a b. below i (omega arith) ∙ mid_over i (omega arith) ∙ o.terms i a b;
        no_terms = λ i a b. below i (omega arith) ∙ mid_over i (omega arith) ∙ o.no_terms i a b;
      }

  pub levels_settled : LevelsSettled s
      (block_cleared (rows_offset h) (degrees_start - (rows_offset h)) 0 (block_cleared (count_offset h) (rows_start - (count_offset h)) 0 z)) h
  levels_settled = record {
    long = length_block (rows_offset h) (degrees_start - (rows_offset h)) 0 mid fit₂ (omega arith) ∙ mid_long ∙ d.long;
    levels = record {
      front = λ i a b. below i (omega arith) ∙ mid_under i (omega arith) ∙ d.front i a b;
      made = level;
      no_counts = λ i a b. below i (omega arith)
          ∙ block_zero (count_offset h) (rows_start - (count_offset h)) 0 z fit₁ (omega arith) i (omega arith) (omega arith);
      no_terms = λ i a b. block_zero (rows_offset h) (degrees_start - (rows_offset h)) 0 mid fit₂ (omega arith) i (omega arith) (omega arith);
    };
    left = λ i a b. block_over (rows_offset h) (degrees_start - (rows_offset h)) 0 mid fit₂ (omega arith) i (omega arith) ∙ mid_over i (omega arith)
        ∙ d.terms_left i (omega arith) b;
  }

-- ## Degrees

-- the words behind the components' degrees and behind those of the levels cleared
module _ (s z : Words) (h n : ℕ) (long : state_length ≤ length s) (l : h ≤ all_levels) (few : Few s h) (c : get_or s 3 0 ≤ most_components)
    (e : n ≡ get_or s 3 0)
    (t : CarriedTo s z h) where
  abbrev mid' : Words
  mid' = block_cleared (degrees_start + n) (carried_start - (degrees_start + n)) 0 z

  fit' : degrees_start + n + (carried_start - (degrees_start + n)) ≤ length z
  fit' = omega (arith, t.long)

  mid_long' : length (block_cleared (degrees_start + n) (carried_start - (degrees_start + n)) 0 z) ≡ length z
  mid_long' = length_block (degrees_start + n) (carried_start - (degrees_start + n)) 0 z fit' (omega arith)

  wide : carried_offset h ≤ length (block_cleared (degrees_start + n) (carried_start - (degrees_start + n)) 0 z)
  wide = omega (arith, mid_long', t.long)

  below' : (i : ℕ) → i < carried_offset h
      → get_or (cleared (block_cleared (degrees_start + n) (carried_start - (degrees_start + n)) 0 z) (carried_offset h)) i 0
      ≡ get_or (block_cleared (degrees_start + n) (carried_start - (degrees_start + n)) 0 z) i 0
  below' i a = cleared_under mid' (carried_offset h) wide i a

  first : (i : ℕ) → i < degrees_start + n
      → get_or (cleared (block_cleared (degrees_start + n) (carried_start - (degrees_start + n)) 0 z) (carried_offset h)) i 0 ≡ get_or s i 0
  first i a = below' i (omega arith) ∙ block_under (degrees_start + n) (carried_start - (degrees_start + n)) 0 z fit' (omega arith) i (omega arith)
      ∙ t.front i (omega arith) (omega arith)

  level' : (j : ℕ) → j < h
      → TidyDegrees s (cleared (block_cleared (degrees_start + n) (carried_start - (degrees_start + n)) 0 z) (carried_offset h)) j
  level' j m =
      let o = t.made j m in
      let f = few j m in
      record {
        carried = λ i a b. below' i (omega arith)
            ∙ block_over (degrees_start + n) (carried_start - (degrees_start + n)) 0 z fit' (omega arith) i (omega arith) ∙ o.carried i a b;
        no_carried = λ i a b. below' i (omega arith)
            ∙ block_over (degrees_start + n) (carried_start - (degrees_start + n)) 0 z fit' (omega arith) i (omega arith) ∙ o.no_carried i a b;
      }

  pub degrees_settled : DegreesSettled s (cleared (block_cleared (degrees_start + n) (carried_start - (degrees_start + n)) 0 z) (carried_offset h)) h
  degrees_settled = record {
    long = length_cleared mid' (carried_offset h) wide ∙ mid_long' ∙ t.long;
    front = λ i a b. first i (omega arith);
    degrees = record {
      components = λ i a b. first i (omega arith);
      no_components = λ i a b. below' i (omega arith)
          ∙ block_zero (degrees_start + n) (carried_start - (degrees_start + n)) 0 z fit' (omega arith) i (omega arith) (omega arith);
      made = level';
      no_carried = λ i a b. cleared_over mid' (carried_offset h) wide i a;
    };
  }
