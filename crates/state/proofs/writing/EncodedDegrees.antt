-- The degrees of a settled state are those that its encoding has.
use mathlib.Core.Path.{◌≡◌, refl, sym, ap, ◌∙◌}
use mathlib.Core.List.{◌++◌, append_assoc, reverse, reverse-cons}
use Prim.Native.Nat.{ℕ, zero, suc, ◌+◌, ◌-◌, ◌*◌, ◌<◌, ◌≤◌}
use native.Mathlib.Omega.{arith}
use lib.Dec.{T}
use lib.ListN.{length, take, drop, get_or, replicate, length-append, length-drop, take-append-drop}
use lib.Seq.{take-add, drop-drop, length-take-le}
use Rattle.definitions.specs.Limits.{document_01}
use Rattle.definitions.specs.Degrees.{degrees_of, carried}
use Rattle.definitions.specs.Layout.{Words, padded, all_carried, degrees_at, level_at, levels_at}
use Rattle.definitions.specs.Places.{most_components, most_vectors, all_levels, degrees_start, carried_start, state_length, carried_offset}
use Rattle.laws.proofs.RoundTrip.{length_padded, carried_last}
use Rattle.laws.proofs.Degrees.{carries_below}
use Rattle.state.specs.soundness.Places.{count_at}
use Rattle.state.specs.degrees.Carrying.{carried_right?}
use Rattle.state.specs.writing.Zeroed.{Few, TidyDegrees, DegreesTidy}
use Rattle.state.proofs.degrees.Carried.{under_right, s_degrees}
use Rattle.state.proofs.writing.Wordwise.{padded_part, zeros_rest}

module _ (s z : Words) (long : state_length ≤ length s) (same_long : length z ≡ length s) where
  abbrev d : Words
  d = degrees_at document_01 s

  carried_block : (j : ℕ) → j < all_levels → count_at s j ≤ most_vectors → T (carried_right? s (suc j)) → TidyDegrees s z j
      → take most_vectors (drop (carried_offset j) z)
      ≡ padded most_vectors (degrees_of (degrees_at document_01 s) (levels_at document_01 s j) (level_at document_01 s j))
  carried_block j h few right t =
      padded_part s z (carried_offset j) (count_at s j) most_vectors (omega arith) (omega arith) few t.carried
      (λ i a b. t.no_carried i a (omega arith))
      ∙ ap (padded most_vectors) (under_right s long j h few right)

  carried_blocks : (h : ℕ) → h ≤ all_levels → Few s h → T (carried_right? s h) → ((j : ℕ) → j < h → TidyDegrees s z j)
      → take (h * most_vectors) (drop carried_start z)
      ≡ all_carried document_01 (reverse (carried (degrees_at document_01 s) (levels_at document_01 s h)))
  carried_blocks zero l few right f = refl
  carried_blocks (suc h) l few right f =
      let y : suc h * most_vectors ≡ h * most_vectors + most_vectors = omega arith in
      let ds = degrees_of d (levels_at document_01 s h) (level_at document_01 s h) in
      ap (λ n. take n (drop carried_start z)) y ∙ take-add (h * most_vectors) most_vectors (drop carried_start z)
      ∙ (λ i. carried_blocks h (omega arith) (λ j m. few j (omega arith))
      (carries_below document_01 s d (level_at document_01 s h) (levels_at document_01 s h) right) (λ j m. f j (omega arith)) i
      ++ (ap (take most_vectors) (drop-drop (h * most_vectors) carried_start z)
      ∙ carried_block h l (few h (omega arith)) right (f h (omega arith))) i)
      ∙ sym (ap (all_carried document_01) (reverse-cons ds (carried d (levels_at document_01 s h)))
      ∙ carried_last document_01 (reverse (carried d (levels_at document_01 s h))) ds)

-- the components' degrees, those that the levels carry, zeros; how long the first two are
pub degrees_are : (s z : Words) (h : ℕ) → state_length ≤ length s → length z ≡ length s → h ≤ all_levels → get_or s 3 0 ≤ most_components → Few s h
    → T (carried_right? s h) → DegreesTidy s z h
    → (drop degrees_start z
    ≡ (padded most_components (degrees_at document_01 s)
    ++ all_carried document_01 (reverse (carried (degrees_at document_01 s) (levels_at document_01 s h)))) ++ replicate (length s - (carried_offset h)) 0)
    × (length (padded most_components (degrees_at document_01 s)
    ++ all_carried document_01 (reverse (carried (degrees_at document_01 s) (levels_at document_01 s h)))) ≡ most_components + h * most_vectors)
degrees_are s z h long same_long l components few right t = (
  sym (take-append-drop most_components (drop degrees_start z)) ∙ (λ i. first i ++ (drop-drop most_components degrees_start z ∙ rest) i)
      ∙ sym (append_assoc (padded most_components (degrees_at document_01 s)) levels (replicate (length s - (carried_offset h)) 0)),
  length-append (padded most_components (degrees_at document_01 s)) levels
      ∙ (λ i. length_padded most_components (degrees_at document_01 s) (omega (arith, s_degrees s long components)) i + size i),
)
  where
    levels : Words
    levels = all_carried document_01 (reverse (carried (degrees_at document_01 s) (levels_at document_01 s h)))

    blocks : take (h * most_vectors) (drop carried_start z)
        ≡ all_carried document_01 (reverse (carried (degrees_at document_01 s) (levels_at document_01 s h)))
    blocks = carried_blocks s z long same_long h l few right t.made

    size : length (all_carried document_01 (reverse (carried (degrees_at document_01 s) (levels_at document_01 s h)))) ≡ h * most_vectors
    size = sym (ap length blocks) ∙ length-take-le (h * most_vectors) (drop carried_start z) (omega (arith, length-drop carried_start z))

    first : take most_components (drop degrees_start z) ≡ padded most_components (degrees_at document_01 s)
    first = padded_part s z degrees_start (get_or s 3 0) most_components (omega arith) (omega arith) components t.components
        (λ i a b. t.no_components i a (omega arith))

    rest : drop carried_start z
        ≡ all_carried document_01 (reverse (carried (degrees_at document_01 s) (levels_at document_01 s h))) ++ replicate (length s - (carried_offset h)) 0
    rest =
        sym (take-append-drop (h * most_vectors) (drop carried_start z))
        ∙ (λ i. blocks i ++ (drop-drop (h * most_vectors) carried_start z
        ∙ zeros_rest z (carried_offset h) (omega arith) (λ j a b. t.no_carried j a (omega arith)) ∙ ap
        (λ k. replicate (k - (carried_offset h)) 0) same_long) i)
