-- A level made complete: its degrees can be written, and then the state can be settled.
use mathlib.Core.Path.{◌≡◌, sym, ap, ◌∙◌, subst}
use Prim.Native.Nat.{ℕ, suc, ◌+◌, ◌<◌, ◌≤◌}
use native.Mathlib.Omega.{arith}
use lib.Dec.{T}
use lib.ListN.{length, get_or, set, length-set}
use Rattle.definitions.specs.Limits.{document_01}
use Rattle.definitions.specs.State.{sound?}
use Rattle.definitions.specs.Layout.{Words, decode, levels_at, all_words_sound?}
use Rattle.definitions.specs.Places.{most_components, all_levels, state_length, count_offset}
use Rattle.state.specs.soundness.Places.{parameters_at}
use Rattle.state.specs.writing.LevelSoFar.{words_so_far?, finished}
use Rattle.state.specs.degrees.Carrying.{carried_right?, Weighable, with_carried}
use Rattle.state.proofs.writing.Local.{new_height, new_words, new_state, new_carried}
use Rattle.state.proofs.degrees.Written.{CompleteWith, few_here, weighable, carried_complete}

-- what settle asks for, of a state whose highest level is k
abbrev pub Settles : ℕ → Words → Type 0
Settles k y = (state_length ≤ length y) × (k + 1 ≤ all_levels) × (get_or y 4 0 ≡ k + 1) × (get_or y 3 0 ≤ most_components)
    × T (all_words_sound? document_01 y (k + 1)) × T (carried_right? y (k + 1))

-- a state with level k complete and its degrees written
pub record Finish (s y : Words) (k count : ℕ) : Type 0 where
  pub long : length y ≡ length s
  pub means : decode document_01 y ≡ finished s k count
  pub settles : Settles k y

module _ (s : Words) (k count : ℕ) (long : state_length ≤ length s) (inside : k < all_levels) (below : T (all_words_sound? document_01 s k))
    (so_far : T (words_so_far? s k count)) (sound : T (sound? document_01 (finished s k count))) (right : T (carried_right? s k)) where
  abbrev z : Words
  z = set (set s (count_offset k) count) 4 (k + 1)

  z_long : length (set (set s (count_offset k) count) 4 (k + 1)) ≡ length s
  z_long = length-set (set s (count_offset k) count) 4 (k + 1) ∙ length-set s (count_offset k) count

  next : k + 1 ≡ suc k
  next = omega arith

  height : get_or (set (set s (count_offset k) count) 4 (k + 1)) 4 0 ≡ k + 1
  height = new_height s k count long inside below so_far

  z_words : T (all_words_sound? document_01 (set (set s (count_offset k) count) 4 (k + 1)) (suc k))
  z_words = subst (λ n. T (all_words_sound? document_01 z n)) next (new_words s k count long inside below so_far)

  z_sound : T (sound? document_01 (record {
    parameters = parameters_at (set (set s (count_offset k) count) 4 (k + 1));
    levels = levels_at document_01 (set (set s (count_offset k) count) 4 (k + 1)) (suc k);
  }))
  z_sound =
      subst (λ n. T (sound? document_01 (record { parameters = parameters_at z; levels = levels_at document_01 z n }))) (height ∙ next)
      (subst (λ X. T (sound? document_01 X)) (sym (new_state s k count long inside below so_far)) sound)

  z_right : T (carried_right? (set (set s (count_offset k) count) 4 (k + 1)) k)
  z_right = new_carried s k count long inside below so_far right

  z_fits : state_length ≤ length (set (set s (count_offset k) count) 4 (k + 1))
  z_fits = omega (arith, z_long)

  pub finish_weighable : Weighable (set (set s (count_offset k) count) 4 (k + 1)) k
  finish_weighable = weighable z z_fits k inside z_words z_sound z_right

  abbrev y : Words
  y = with_carried (set (set s (count_offset k) count) 4 (k + 1)) k

  c : CompleteWith (set (set s (count_offset k) count) 4 (k + 1)) (with_carried (set (set s (count_offset k) count) 4 (k + 1)) k) k
  c = carried_complete z z_fits k inside z_words z_sound z_right

  top : get_or (with_carried (set (set s (count_offset k) count) 4 (k + 1)) k) 4 0 ≡ k + 1
  top = c.front 4 (omega arith) (omega arith) ∙ height

  same_means : decode document_01 (with_carried (set (set s (count_offset k) count) 4 (k + 1)) k)
      ≡ decode document_01 (set (set s (count_offset k) count) 4 (k + 1))
  same_means = λ i. record {
    parameters = record {
      p = c.front 0 (omega arith) (omega arith) i;
      n = c.front 1 (omega arith) (omega arith) i;
      code = c.front 2 (omega arith) (omega arith) i;
      s = c.front 3 (omega arith) (omega arith) i;
      degrees = c.components i;
    };
    levels = (ap (levels_at document_01 y) (top ∙ next) ∙ c.levels ∙ sym (ap (levels_at document_01 z) (height ∙ next))) i;
  }

  pub finish_carried : Finish s (with_carried (set (set s (count_offset k) count) 4 (k + 1)) k) k count
  finish_carried = record {
    long = c.long ∙ z_long;
    means = same_means ∙ new_state s k count long inside below so_far;
    settles = (
      omega (arith, c.long, z_long),
      omega arith,
      top,
      omega (arith, c.front 3 (omega arith) (omega arith), few_here z z_fits k inside z_words z_sound z_right),
      subst (λ n. T (all_words_sound? document_01 y n)) (sym next) c.words,
      subst (λ n. T (carried_right? y n)) (sym next) c.carries,
    );
  }
