-- The levels and the orders that a sound state means, as the calls of the definitions take them.
use mathlib.Core.Path.{◌≡◌, refl, sym, ap, ◌∙◌, subst}
use mathlib.Core.Bool.{Bool, true, false}
use Prim.Native.Nat.{ℕ, zero, suc, ◌-◌, ◌<◌, ◌≤◌}
use native.Mathlib.Omega.{arith}
use native.Mathlib.Decide.{ℕ_discrete}
use lib.Dec.{T}
use lib.ListN.{length, get_or, drop}
use lib.Seq.{drop-nil}
use Rattle.definitions.specs.Limits.{document_01}
use Rattle.definitions.specs.Order.{compare_over}
use Rattle.definitions.specs.Stage.{highest}
use Rattle.definitions.specs.State.{State, empty, sound?, up_to}
use Rattle.definitions.specs.Layout.{Words, level_at, levels_at, decode, words_sound?, all_words_sound?, holds_state?, meant}
use Rattle.laws.proofs.Tests.{and_right}
use Rattle.definitions.specs.Places.{state_length}
use Rattle.laws.proofs.Degrees.{holds_says}
use Rattle.orders.specs.Images.{table_of, table_order}
use Rattle.orders.proofs.Induced.{AllLed, no_levels, table_order_is, sound_led}
use Rattle.state.specs.soundness.Places.{parameters_at, count_at, count_below}
use Rattle.state.specs.soundness.Tabled.{Ready}
use Rattle.state.proofs.soundness.LevelByLevel.{climbed_to}
use Rattle.state.proofs.soundness.StateTests.{holds_said, level_count, up_levels}
use Rattle.state.proofs.soundness.SoundLevels.{height, complete_cut}

-- ## Levels

-- the highest ones left out
drop_levels : (s : Words) (h k : ℕ) → k ≤ h → drop (h - k) (levels_at document_01 s h) ≡ levels_at document_01 s k
drop_levels s zero k l = let z : 0 ≡ k = omega arith in drop-nil (0 - k) ∙ ap (levels_at document_01 s) z
drop_levels s (suc h) k l = go (ℕ_discrete k (suc h)) (drop_levels s h k)
  where
    go : Dec (k ≡ suc h) → (k ≤ h → drop (h - k) (levels_at document_01 s h) ≡ levels_at document_01 s k)
        → drop (suc h - k) (levels_at document_01 s (suc h)) ≡ levels_at document_01 s k
    go (yes e) r = let z : suc h - k ≡ 0 = omega arith in ap (λ n. drop n (levels_at document_01 s (suc h))) z ∙ ap (levels_at document_01 s) (sym e)
    go (no e) r = let z : suc h - k ≡ suc (h - k) = omega arith in ap (λ n. drop n (levels_at document_01 s (suc h))) z ∙ r (omega arith)

pub length_levels : (s : Words) (k : ℕ) → length (levels_at document_01 s k) ≡ k
length_levels s zero = refl
length_levels s (suc k) = ap suc (length_levels s k)

-- "levels 0 to k, of a state that has level k"
pub up_to_is : (s : Words) (k : ℕ) → k < get_or s 4 0 → up_to (decode document_01 s) k ≡ levels_at document_01 s (suc k)
up_to_is s k h = ap (λ n. drop (n - suc k) (levels_at document_01 s (get_or s 4 0))) (length_levels s (get_or s 4 0)) ∙ drop_levels s (get_or s 4 0) (suc k) h

pub highest_is : (s : Words) (k : ℕ) → k < get_or s 4 0 → highest (up_to (decode document_01 s) k) ≡ level_at document_01 s k
highest_is s k h = ap highest (up_to_is s k h)

pub meant_is : (s : Words) → T (holds_state? document_01 s) → meant document_01 s ≡ decode document_01 s
meant_is s t = go (holds_state? document_01 s) t
  where
    go : (b : Bool) → T b → ◌≡◌ {A = State} (elim b [ true ↦ decode document_01 s | false ↦ empty ]) (decode document_01 s)
    go true t = refl
    go false t = absurd t

pub holds_sound : (s : Words) → T (holds_state? document_01 s) → T (sound? document_01 (decode document_01 s))
holds_sound s t = (holds_says document_01 s t).sound

module _ (s : Words) (long : state_length ≤ length s) (t : T (holds_state? document_01 s)) where
  -- how many vectors a complete level has
  pub complete_count : (k : ℕ) → k < get_or s 4 0 → length (level_at document_01 s k) ≡ count_at s k
  complete_count k h = level_count s long k (omega (arith, height s long t)) (complete_cut s long t k h).0

  -- the words of the levels below level k
  pub words_below : (k : ℕ) → k ≤ get_or s 4 0 → T (all_words_sound? document_01 s k)
  words_below k h =
      go (get_or s 4 0) k h (holds_says document_01 s t).words
    where
      go : (h k : ℕ) → k ≤ h → T (all_words_sound? document_01 s h) → T (all_words_sound? document_01 s k)
      go zero k l u = let z : 0 ≡ k = omega arith in subst (λ n. T (all_words_sound? document_01 s n)) z u
      go (suc h) k l u = again (ℕ_discrete k (suc h)) (λ m. go h k m (and_right (words_sound? document_01 s h) (all_words_sound? document_01 s h) u))
        where
          again : Dec (k ≡ suc h) → (k ≤ h → T (all_words_sound? document_01 s k)) → T (all_words_sound? document_01 s k)
          again (yes e) r = subst (λ n. T (all_words_sound? document_01 s n)) (sym e) u
          again (no e) r = r (omega arith)

  -- ## Orders

  pub complete_led : (k : ℕ) → k ≤ get_or s 4 0 → AllLed (levels_at document_01 s k)
  complete_led zero h = no_levels
  complete_led (suc k) h = sound_led document_01 (parameters_at s) (levels_at document_01 s (suc k))
      (up_levels s long k (omega (arith, height s long t)) (climbed_to s (get_or s 4 0) (holds_said s long t).4 (suc k) h))

  -- the order through a table that is ready is the definitions' order of the module over levels 0 to k − 1
  pub ready_order : (k : ℕ) (table : Words) → k ≤ get_or s 4 0 → Ready s k table → table_order (get_or s 2 0) (table_of (count_below s k) table)
      ≡ compare_over (get_or s 2 0) (levels_at document_01 s k)
  ready_order k table h r = ap (table_order (get_or s 2 0)) r.made ∙ (λ i m m'. table_order_is (get_or s 2 0) (levels_at document_01 s k)
      (complete_led k h) m m' i)
