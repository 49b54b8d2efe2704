-- The tables of a sound state's level are what lifting over it asks for, and its stage is the definitions'.
use mathlib.Core.Path.{◌≡◌, refl, sym, ap, ◌∙◌, subst}
use mathlib.Core.List.{List, ◌∷◌}
use Prim.Native.Nat.{ℕ, zero, suc, ◌-◌, ◌<◌, ◌≤◌}
use native.Mathlib.Nat.{not-suc-le-zero}
use native.Mathlib.Omega.{arith}
use native.Mathlib.Decide.{ℕ_discrete}
use lib.Dec.{T, leb}
use lib.ListN.{length, get_or, take, drop}
use lib.Seq.{get_or-take}
use Rattle.definitions.specs.Limits.{document_01}
use Rattle.definitions.specs.Field.{prime?}
use Rattle.definitions.specs.Monomial.{Monomial, Level}
use Rattle.definitions.specs.Order.{Comparison, compare_over}
use Rattle.definitions.specs.State.{levels_sound?}
use Rattle.definitions.specs.Layout.{Words, vectors_at, level_at, levels_at, decode}
use Rattle.laws.proofs.Tests.{and_right}
use Rattle.laws.proofs.Sound.{sound_says, level_says}
use Rattle.definitions.specs.Places.{most_vectors, count_offset, ends_offset, tables_spans, tables_ends, tables_below, tables_above}
use Rattle.ending.specs.Well.{Well}
use Rattle.ending.proofs.Soundness.{sound_well}
use Rattle.orders.specs.Images.{table_of, table_order}
use Rattle.orders.proofs.Induced.{AllLed, one_level, table_order_is, sound_led}
use Rattle.state.specs.soundness.Places.{parameters_at, count_at, count_below, rows_from, ends_from}
use Rattle.state.proofs.preparing.TablesReady.{components_few}
use Rattle.state.specs.soundness.Tabled.{Ready}
use Rattle.state.proofs.soundness.TablesGrow.{ready_tabled}
use Rattle.state.proofs.soundness.VectorByVector.{whole_part, length_part}
use Rattle.state.proofs.soundness.SoundLevels.{prime_above, complete_cut}
use Rattle.state.proofs.soundness.StateTests.{holds_said}
use Rattle.runs.specs.reduction.Grounds.{ends_in, below_in, above_in, Tables, Family}
use Rattle.runs.specs.run.Stages.{Images, order_of, stage_of}
use Rattle.level.specs.by_runs.Stages.{Base, limits_with, ground_at, stage_at, TablesAt}
use Rattle.level.specs.declared.by_runs.Bounds.{Bounds}
use Rattle.state.proofs.preparing.Complete.{holds_sound}

-- the ends of a level's vectors, to the state's end
pub ends_part : (s : Words) (j : ℕ) → take (length s - (ends_offset j)) (drop (ends_offset j) s) ≡ ends_from s j
ends_part s j = let e : ends_offset j ≡ suc (count_offset j) = omega arith in whole_part (ends_offset j) s ∙ ap (λ n. drop n s) e

module _ (s : Words) (j : ℕ) (b : Base s j) where
  -- ## Sound levels

  lower : (h : ℕ) → j < h → T (levels_sound? document_01 (parameters_at s) (levels_at document_01 s h))
      → T (levels_sound? document_01 (parameters_at s) (levels_at document_01 s (suc j)))
  lower zero l t = absurd (not-suc-le-zero l)
  lower (suc zero) l t = let e : 1 ≡ suc j = omega arith in subst (λ n. T (levels_sound? document_01 (parameters_at s) (levels_at document_01 s n))) e t
  lower (suc (suc h)) l t = go (ℕ_discrete (suc h) j) (lower (suc h))
    where
      go : Dec (suc h ≡ j) → (j < suc h → T (levels_sound? document_01 (parameters_at s) (levels_at document_01 s (suc h)))
          → T (levels_sound? document_01 (parameters_at s) (levels_at document_01 s (suc j))))
          → T (levels_sound? document_01 (parameters_at s) (levels_at document_01 s (suc j)))
      go (yes e) ih = subst (λ n. T (levels_sound? document_01 (parameters_at s) (levels_at document_01 s (suc n)))) e t
      go (no ne) ih =
          ih (omega arith)
          (level_says document_01 (parameters_at s) (level_at document_01 s (suc h)) (level_at document_01 s h) (levels_at document_01 s h) t).under

  pub sound_levels : T (levels_sound? document_01 (parameters_at s) (levels_at document_01 s (suc j)))
  sound_levels = lower (get_or s 4 0) b.has (sound_says document_01 (decode document_01 s) (holds_sound s b.holds)).levels

  pub prime_at : T (prime? (get_or s 0 0))
  prime_at = and_right (leb (get_or s 0 0) 65535) (prime? (get_or s 0 0)) (holds_said s b.long b.holds).2

  led_levels : AllLed (levels_at document_01 s (suc j))
  led_levels = sound_led document_01 (parameters_at s) (levels_at document_01 s (suc j)) sound_levels

  led_below : (ls : List Level) (f : Level) → AllLed (f ∷ ls) → AllLed ls
  led_below ls f (one_level l m) = m

  -- ## Tables

  pub few_vectors : count_at s j ≤ most_vectors
  few_vectors = (complete_cut s b.long b.holds j b.has).0

  module _ (tables : Words) (t : TablesAt s j tables) where
    pub images_below : Images (count_below s j) (below_in tables)
    images_below = record {
      fits = omega (arith, t.below.few, length_part tables_below tables, t.long);
      tabled =
          ready_tabled s j (below_in tables) (omega (arith, b.low)) t.below;
    }

    pub images_above : Images (count_at s j) (above_in tables)
    images_above = record {
      fits = omega (arith, few_vectors, length_part tables_above tables, t.long);
      tabled =
          ready_tabled s (suc j) (above_in tables) (omega (arith, b.low)) t.above;
    }

  pub above_is : (above : Words) → Ready s (suc j) above → table_order (get_or s 2 0) (table_of (count_at s j) above)
      ≡ compare_over (get_or s 2 0) (levels_at document_01 s (suc j))
  above_is above r =
      ap (table_order (get_or s 2 0)) r.made ∙ (λ i m m'. table_order_is (get_or s 2 0) (levels_at document_01 s (suc j)) led_levels m m' i)

module _ (s : Words) (j : ℕ) (b : Base s j) (lim : Bounds) where
  pub family_at : Family (ground_at lim s j) (rows_from s j) (ends_from s j)
  family_at = let c = (complete_cut s b.long b.holds j b.has).1 in record { ends_fit = c.ends_fit; rows_fit = c.rows_fit }

  module _ (tables : Words) (t : TablesAt s j tables) where
    pub tables_at : Tables (ground_at lim s j) tables
    tables_at = record {
      prime = omega (arith, prime_above s b.long b.holds);
      few = omega (arith, few_vectors s j b);
      long = t.long;
      heads_fit = omega (arith, few_vectors s j b, t.long);
      spans_fit = omega (arith, components_few s b.long b.holds j b.has, length_part tables_spans tables, t.long);
      spanned = t.led.spanned;
    }

    same_end : (i : ℕ) → i < count_at s j → get_or (ends_in tables) i 0 ≡ get_or (ends_from s j) i 0
    same_end i h = sym (get_or-take (count_at s j) (ends_in tables) i 0 h) ∙ ap (λ l. get_or l i 0) t.ends
        ∙ get_or-take (count_at s j) (ends_from s j) i 0 h

    pub family_in : Family (ground_at lim s j) (rows_from s j) (ends_in tables)
    family_in = record {
      ends_fit = omega (arith, few_vectors s j b, length_part tables_ends tables, t.long);
      rows_fit =
          λ i h. omega (arith, same_end i h, family_at.rows_fit i h);
    }

    -- ## The stage

    pub below_is : order_of (ground_at lim s j) tables ≡ compare_over (get_or s 2 0) (levels_at document_01 s j)
    below_is =
        ap (table_order (get_or s 2 0)) t.below.made
        ∙ (λ i m m'. table_order_is (get_or s 2 0) (levels_at document_01 s j)
        (led_below s j b (levels_at document_01 s j) (level_at document_01 s j) (led_levels s j b)) m m' i)

    stage_by : (order : Monomial → Monomial → Comparison) → order ≡ compare_over (get_or s 2 0) (levels_at document_01 s (suc j))
        → stage_of (ground_at lim s j) (rows_from s j) tables order ≡ stage_at lim s j
    stage_by order e = λ i. record {
      reduction = record { limits = limits_with lim; p = get_or s 0 0; heads = t.led.made i };
      family = vectors_at (rows_from s j) 0 (t.ends i);
      below = below_is i;
      above = e i;
    }

    pub stage_is : stage_of (ground_at lim s j) (rows_from s j) tables (table_order (get_or s 2 0) (table_of (count_at s j) (above_in tables)))
        ≡ stage_at lim s j
    stage_is = stage_by (table_order (get_or s 2 0) (table_of (count_at s j) (above_in tables))) (above_is s j b (above_in tables) t.above)

    well_over : Well (stage_of (ground_at lim s j) (rows_from s j) tables (compare_over (get_or s 2 0) (levels_at document_01 s (suc j))))
    well_over =
        let w = sound_well document_01 (parameters_at s) (levels_at document_01 s (suc j)) (prime_at s j b) (omega arith) (sound_levels s j b) in
        subst Well (sym (stage_by (compare_over (get_or s 2 0) (levels_at document_01 s (suc j))) refl))
        (record { prime = w.prime; small = w.small; heads_are = w.heads_are; order = w.order; family = w.family })

    pub well_at : Well (stage_of (ground_at lim s j) (rows_from s j) tables (order_of (ground_at lim s j) tables))
    well_at = let w = well_over in record { prime = w.prime; small = w.small; heads_are = w.heads_are; order = w.order; family = w.family }
