use native.Mathlib.Omega.{arith}
use mathlib.Core.Path.{◌≡◌, sym, subst}
use Prim.Native.Nat.{suc, ◌+◌, ◌-◌}
use lib.ListN.{length, take, drop}
use Rattle.state.proofs.soundness.VectorByVector.{length_part}
use Rattle.state.specs.preparing.Prepared.{ReadyPair}
use Rattle.state.proofs.preparing.TablesReady.{components_few}
use Rattle.level.specs.by_runs.Stages.{TablesAt}
use Rattle.level.proofs.by_runs.GroundOfLevel.{few_vectors, ends_part}
use Rattle.level.proofs.by_runs.Joining.{tables_joined}
use Rattle.definitions.specs.Places.{ends_offset}
use Rattle.level.proofs.by_runs.make_tables.Goals as goal

pub returns : goal.returns
returns c =
    let a =
    c.args in
    let P =
    c.requires in
    let L =
    c.fill_leads in
    let T =
    c.fill_tables in
    let s = a.state.now in
    let e : a.j + 1 ≡ suc a.j = omega arith in
    let r = subst (λ k. ReadyPair s k T.new.below T.new.above) e T.ensures in
    subst (TablesAt s a.j) (sym c.join_tables.ensures)
    (tables_joined L.new.heads L.new.spans (take (length s - (ends_offset a.j)) (drop (ends_offset a.j) s)) T.new.below T.new.above
    (omega (arith, L.auto.heads, P.1)) (omega (arith, L.auto.spans)) (omega (arith, length_part (ends_offset a.j) s, P.0.long, P.0.low))
    (omega (arith, T.auto.below)) (omega (arith, T.auto.above))
    s a.j (few_vectors s a.j P.0) (components_few s P.0.long P.0.holds a.j P.0.has) L.ensures (ends_part s a.j) r.1
    r.0)
