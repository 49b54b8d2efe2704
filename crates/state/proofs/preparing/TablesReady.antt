-- What a sound state gives to a lifting.
use mathlib.Core.Path.{◌≡◌, refl, sym, ap, ◌∙◌, subst}
use Prim.Native.Nat.{ℕ, zero, suc, ◌+◌, ◌-◌, ◌<◌, ◌≤◌}
use native.Mathlib.Omega.{arith}
use lib.Dec.{T}
use lib.ListN.{length, get_or, take, drop}
use Rattle.definitions.specs.Limits.{document_01}
use Rattle.definitions.specs.Lists.{◌and◌, between}
use Rattle.definitions.specs.Reducer.{heads}
use Rattle.definitions.specs.Layout.{Words, rows, holds_state?}
use Rattle.laws.proofs.Tests.{and_right, between_high}
use Rattle.definitions.specs.Places.{most_vectors, state_length, count_offset, ends_offset, rows_offset}
use Rattle.reducers.specs.search.Search.{Spanned}
use Rattle.reducers.specs.tables.Cuts.{cut_level}
use Rattle.state.specs.soundness.Places.{count_at}
use Rattle.state.specs.soundness.Tabled.{Ready, Advanced}
use Rattle.state.specs.preparing.Prepared.{components_at, ReadyPair, Led}
use Rattle.state.proofs.soundness.SoundLevels.{complete_cut}
use Rattle.state.proofs.soundness.VectorByVector.{whole_part}
use Rattle.state.proofs.soundness.TablesGrow.{ready_more, ready_below}
use Rattle.state.proofs.soundness.StateTests.{holds_said}

module _ (s : Words) (long : state_length ≤ length s) (t : T (holds_state? document_01 s)) where
  pub components_few : (k : ℕ) → k < get_or s 4 0 → components_at s k ≤ most_vectors
  components_few zero h =
      let r = and_right (between 1 (get_or s 2 0) 3) (between 1 (get_or s 3 0) 16)
      (and_right (between 1 (get_or s 1 0) 8) (between 1 (get_or s 2 0) 3 and between 1 (get_or s 3 0) 16) (holds_said s long t).3) in
      omega (arith, between_high 1 (get_or s 3 0) 16 r)
  components_few (suc k) h = (complete_cut s long t k (omega arith)).0

-- ## Tables, one level more

pub pair_above : (s : Words) (k : ℕ) (below above : Words) → ReadyPair s k below above → Ready s k above
pair_above s zero below above r = r
pair_above s (suc k) below above r = r.0

pub pair_more : (s : Words) (k : ℕ) (old below above : Words) → count_at s k ≤ most_vectors → Ready s k old → Advanced s k old below above
    → ReadyPair s (k + 1) below above
pair_more s k old below above h r a =
    let z : k + 1 ≡ suc k = omega arith in
    subst (λ n. ReadyPair s n below above) (sym z) (
      subst (λ n. Ready s n above) z (ready_more s k old below above h r a),
      ready_below s k old below above r a,
    )

-- ## Components

pub components_basis : (s : Words) (k : ℕ) → k ≡ 0 → get_or s 3 0 ≡ components_at s k
components_basis s k e = ap (components_at s) (sym e)

pub components_above : (s : Words) (k : ℕ) → (k ≡ 0 → ⊥) → count_at s (k - 1) ≡ components_at s k
components_above s zero n = absurd (n refl)
components_above s (suc k) n = let z : suc k - 1 ≡ k = omega arith in ap (count_at s) z

-- ## Leading rows

pub led : (s : Words) (k r c : ℕ) (leads spans : Words) → r ≡ count_at s k → c ≡ components_at s k
    → rows leads 0 r ≡ heads (get_or s 0 0) (cut_level r (take (length s - (rows_offset k)) (drop (rows_offset k) s))
    (take (length s - (ends_offset k)) (drop (ends_offset k) s)))
    → Spanned (c + 1) r spans leads → Led s k leads spans
led s k r c leads spans er ec made spanned =
    let z : ends_offset k ≡ suc (count_offset k) = omega arith in
    record {
      made = ap (rows leads 0) (sym er) ∙ made ∙ (λ i. heads (get_or s 0 0)
          (cut_level (er i) (whole_part (rows_offset k) s i) ((whole_part (ends_offset k) s ∙ ap (λ m. drop m s) z) i)));
      spanned = subst (λ n. Spanned (n + 1) (count_at s k) spans leads) ec (subst (λ n. Spanned (c + 1) n spans leads) er spanned);
    }
