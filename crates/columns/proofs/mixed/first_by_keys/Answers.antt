use native.Mathlib.Omega.{arith}
use mathlib.Core.Path.{sym, ◌∙◌, subst₃}
use Prim.Native.Nat.{◌≤◌}
use Rattle.definitions.specs.Betti.{first_mixed}
use Rattle.definitions.specs.Places.{most_vectors, ends_start, rows_start}
use Rattle.reducers.specs.tables.Cuts.{Cut, cut_level}
use Rattle.state.proofs.soundness.SoundLevels.{complete_cut}
use Rattle.state.proofs.soundness.StateTests.{holds_said}
use Rattle.state.proofs.soundness.VectorByVector.{whole_part}
use Rattle.columns.specs.mixed.Placed.{same_key?}
use Rattle.columns.proofs.mixed.first_by_keys.Goals as goal

pub first_among-requires : goal.first_among-requires
first_among-requires c =
    let s = c.args.state.now in
    let P = c.requires in
    let C = c.component_keys-n.ensures in
    let cut = complete_cut s P.0 P.1 0 (holds_said s P.0 P.1).0 in
    let r = c.count_of-r.ensures in
    let t = subst₃ (λ c l f. (c ≤ most_vectors) × Cut c l f) (sym r) (sym (whole_part rows_start s)) (sym (whole_part ends_start s)) cut in
    (t.0, t.1, omega (arith, C.few), P.2, λ i. omega (arith, C.low i))

pub returns : goal.returns
returns c =
    let a = c.args in
    let s = a.state.now in
    let r = c.count_of-r.ensures in
    let d = c.component_keys-n.ensures.held in
    c.first_among.ensures
    ∙ (λ i. first_mixed (same_key? a.kw (d i)) 1 (cut_level (r i) (whole_part rows_start s i) (whole_part ends_start s i)))
