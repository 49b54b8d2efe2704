-- Where a column's degrees stand among a state's words.
use mathlib.Core.Path.{◌≡◌, refl, sym, ap, ◌∙◌, subst}
use mathlib.Core.List.{List, [], ◌∷◌, ◌++◌, reverse, reverse-cons}
use Prim.Native.Nat.{ℕ, zero, suc, ◌+◌, ◌-◌, ◌<◌, ◌≤◌}
use native.Mathlib.Nat.{not-suc-le-zero}
use native.Mathlib.Omega.{arith}
use native.Mathlib.Decide.{ℕ_discrete}
use lib.Dec.{T}
use lib.ListN.{length, get_or, take, drop, length-drop, length-reverse, get_or-append, get_or-eq_default}
use lib.Seq.{length-take-le, drop-cons, get_or_at}
use Rattle.definitions.specs.Limits.{document_01}
use Rattle.definitions.specs.Lists.{◌and◌, between}
use Rattle.definitions.specs.Monomial.{Level}
use Rattle.definitions.specs.Degrees.{degrees_of, carried}
use Rattle.definitions.specs.Layout.{Words, decode, degrees_at, level_at, levels_at, holds_state?}
use Rattle.definitions.specs.Places.{most_components, most_vectors, all_levels, page_columns, degrees_start, state_length}
use Rattle.laws.proofs.Tests.{and_right, between_low, between_high}
use Rattle.laws.proofs.Sound.{sound_says}
use Rattle.laws.proofs.Degrees.{carries_below, holds_says}
use Rattle.laws.proofs.RoundTrip.{length_carried}
use Rattle.state.specs.soundness.Places.{count_at}
use Rattle.state.specs.preparing.Prepared.{components_at}
use Rattle.state.specs.degrees.Carrying.{under_place, carried_from, carried_right?}
use Rattle.state.proofs.preparing.Complete.{length_levels}
use Rattle.state.proofs.soundness.SoundLevels.{height, complete_cut}
use Rattle.state.proofs.degrees.Carried.{under_right}
use Rattle.columns.specs.counting.Columns.{columns_of, column_of, Stands}

module _ (s : Words) (long : state_length ≤ length s) (holds : T (holds_state? document_01 s)) where
  abbrev d : List ℕ
  d = degrees_at document_01 s

  -- level k's among those of levels 0 to h − 1
  level_column : (h : ℕ) → h ≤ all_levels → ((j : ℕ) → j < h → count_at s j ≤ most_vectors) → T (carried_right? s h) → (k : ℕ) → k < h
      → take (count_at s k) (carried_from s k) ≡ get_or (reverse (carried (degrees_at document_01 s) (levels_at document_01 s h))) k []
  level_column zero l few t k m = absurd (not-suc-le-zero m)
  level_column (suc h) l few t k m =
      go (ℕ_discrete k h) (level_column h (omega arith) (λ j i. few j (omega arith)) (carries_below document_01 s d (level_at document_01 s h) fs t) k)
      ∙ sym (ap (λ (l : List (List ℕ)). get_or l k []) (reverse-cons ds (carried d fs)))
    where
      fs : List Level
      fs = levels_at document_01 s h

      ds : List ℕ
      ds = degrees_of (degrees_at document_01 s) (levels_at document_01 s h) (level_at document_01 s h)

      so_many : length (reverse (carried (degrees_at document_01 s) (levels_at document_01 s h))) ≡ h
      so_many = length-reverse (carried d (levels_at document_01 s h)) ∙ length_carried d (levels_at document_01 s h) ∙ length_levels s h

      go : Dec (k ≡ h)
          → (k < h → take (count_at s k) (carried_from s k) ≡ get_or (reverse (carried (degrees_at document_01 s) (levels_at document_01 s h))) k [])
          → take (count_at s k) (carried_from s k)
          ≡ get_or (reverse (carried (degrees_at document_01 s) (levels_at document_01 s h)) ++ ds ∷ []) k []
      go (yes e) r =
          subst (λ i. take (count_at s i) (carried_from s i) ≡ get_or (reverse (carried d (levels_at document_01 s h)) ++ ds ∷ []) i []) (sym e)
          (under_right s long h (omega arith) (few h (omega arith)) t
          ∙ sym (get_or_at (reverse (carried d (levels_at document_01 s h))) ds [] [] h so_many))
      go (no n) r =
          r (omega arith)
          ∙ sym (get_or-append (reverse (carried d (levels_at document_01 s h))) (ds ∷ []) [] k (omega (arith, so_many)))

  few_level : (j : ℕ) → j < get_or s 4 0 → count_at s j ≤ most_vectors
  few_level j m = (complete_cut s long holds j m).0

  how_many : length (columns_of s) ≡ suc (get_or s 4 0)
  how_many = ap suc (length-reverse (carried d (levels_at document_01 s (get_or s 4 0))) ∙ length_carried d (levels_at document_01 s (get_or s 4 0))
      ∙ length_levels s (get_or s 4 0))

  pub few_columns : length (columns_of s) ≤ page_columns
  few_columns = omega (arith, how_many, height s long holds)

  ranges : T (between 1 (get_or s 3 0) most_components)
  ranges =
      let t = (sound_says document_01 (decode document_01 s) (holds_says document_01 s holds).sound).ranges in
      let r = and_right (between 1 (get_or s 1 0) 8) (between 1 (get_or s 2 0) 3 and between 1 (get_or s 3 0) 16) t in
      and_right (between 1 (get_or s 2 0) 3) (between 1 (get_or s 3 0) 16) r

  some_component : 1 ≤ get_or s 3 0
  some_component = between_low 1 (get_or s 3 0) 16 ranges

  pub few_components : get_or s 3 0 ≤ most_components
  few_components = between_high 1 (get_or s 3 0) 16 ranges

  counted_words : (c r : ℕ) → r ≤ most_vectors → under_place c + most_vectors ≤ state_length → take r (drop (under_place c) s) ≡ column_of s c
      → Stands s c r
  counted_words c r few inside e = record {
    words = e;
    long = sym (length-take-le r (drop (under_place c) s) (omega (arith, length-drop (under_place c) s))) ∙ ap length e;
    few = few;
  }

  pub first_column : (c : ℕ) → c ≡ 0 → Stands s c (get_or s 3 0)
  first_column c e =
      subst (λ i. Stands s i (get_or s 3 0)) (sym e) (counted_words 0 (get_or s 3 0) (omega (arith, few_components)) (omega arith) refl)

  pub level_stands : (k : ℕ) → k < get_or s 4 0 → Stands s (suc k) (count_at s k)
  level_stands k h =
      counted_words (suc k) (count_at s k) (few_level k h) (omega (arith, h, height s long holds))
      (level_column (get_or s 4 0) (height s long holds) few_level (holds_says document_01 s holds).carries k h)

  pub no_column : (c : ℕ) → get_or s 4 0 < c → Stands s c 0
  no_column c h =
      let past : length (columns_of s) ≤ c = omega (arith, how_many, h) in
      let e : column_of s c ≡ [] = get_or-eq_default (columns_of s) [] past in
      record { words = sym e; long = sym (ap length e); few = omega arith }

  -- the first row in use is that of component 1
  pub first_degree : degrees_at document_01 s ≡ get_or s degrees_start 0 ∷ take (get_or s 3 0 - 1) (drop (suc degrees_start) s)
  first_degree =
      let e : get_or s 3 0 ≡ suc (get_or s 3 0 - 1) = omega (arith, some_component) in
      (λ i. take (e i) (drop degrees_start s)) ∙ ap (λ l. take (suc (get_or s 3 0 - 1)) l) (drop-cons s degrees_start 0 (omega arith))

  pub any_column : (c : ℕ) → c ≤ get_or s 4 0 → Stands s c (components_at s c)
  any_column zero h = first_column 0 refl
  any_column (suc k) h = level_stands k h
