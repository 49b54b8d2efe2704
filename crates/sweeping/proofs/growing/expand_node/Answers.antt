use Rattle.sweeping.proofs.Growth.{same_refl, node_lower, node_reduced, rest_of_vector, noded_none, spanned_noded}
use Rattle.sweeping.specs.Nodes.{ground_stage, node_at, record_at}
use Rattle.sweeps.specs.Sweep.{edges}
use Rattle.runs.specs.reduction.Grounds.{ends_in, first_row}
use Rattle.vectors.specs.terms.Rows.{term_of}
use Rattle.laws.proofs.Rows.{length_rows}
use Rattle.definitions.specs.Places.{row_length}
use Rattle.definitions.specs.Layout.{rows}
use Rattle.definitions.specs.Monomial.{Term, vector_of}
use Rattle.definitions.specs.Lists.{rest}
use native.Mathlib.Omega.{arith}
use mathlib.Core.Path.{◌≡◌, sym, ap, ◌∙◌}
use Prim.Native.Nat.{◌+◌, ◌-◌, ◌*◌, ◌≤◌}
use lib.ListN.{length, get_or}
use Rattle.sweeping.proofs.growing.expand_node.Goals as goal

pub returns-then-j-eq0 : goal.returns-then-j-eq0
returns-then-j-eq0 c =
    let a = c.args in
    let S = ground_stage a.g a.level.now a.tables.now in
    let E = c.row-t.ensures in
    let v = node_at a.nodes.now a.x in
    let rec = record_at a.nodes.now a.x in
    let said = c.requires.4.answered a.x c.requires.3 in
    let comp : (term_of c.row-t.result).1.1 ≡ rec.1.1 = ap (λ (t : Term). t.1.1) E in
    let r = c.requires.2 in (
      same_refl a.n a.e a.nodes.now a.edges.now,
      noded_none S a.drops (a.g.components - 1) a.n a.e v a.nodes.now a.edges.now (node_lower S a.drops v rec said (sym comp ∙ sym c.from-j.ensures
          ∙ c.if-j-eq0.true)) c.requires.4,
      (omega arith, r.few_nodes, omega arith, r.few_edges),
    )

pub rows_of-part-requires : goal.rows_of-part-requires
rows_of-part-requires c =
    let a = c.args in
    let S = ground_stage a.g a.level.now a.tables.now in
    let E = c.row-t.ensures in
    let v = node_at a.nodes.now a.x in
    let rec = record_at a.nodes.now a.x in
    let said = c.requires.4.answered a.x c.requires.3 in
    let comp : (term_of c.row-t.result).1.1 ≡ rec.1.1 = ap (λ (t : Term). t.1.1) E in
    let R = node_reduced S a.drops v rec said (λ q. c.if-j-eq0.false (c.from-j.ensures ∙ comp ∙ q)) in
    let few = length_rows a.tables.now 0 a.g.r in
    (omega (arith, R.low, comp, c.from-j.ensures), omega (arith, c.requires.0.long), omega (arith, R.high, comp, few, c.requires.1.ends_fit, c.from-j.ensures))

pub expand-requires : goal.expand-requires
expand-requires c =
    let s = c
    in let a = s.args in
    let S = ground_stage a.g a.level.now a.tables.now in
    let E = c.row-t.ensures in
    let v = node_at a.nodes.now a.x in
    let rec = record_at a.nodes.now a.x in
    let said = s.requires.4.answered a.x s.requires.3 in
    let comp : (term_of c.row-t.result).1.1 ≡ rec.1.1 = ap (λ (t : Term). t.1.1) E in
    let R = node_reduced S a.drops v rec said (λ q. c.if-j-eq0.false (c.from-j.ensures ∙ comp ∙ q)) in
    let few = length_rows a.tables.now 0 a.g.r in
    let j = (term_of c.row-t.result).1.1 in
    let h : get_or (ends_in a.tables.now) (j - 1) 0 * row_length ≤ length a.level.now = s.requires.1.rows_fit (j - 1) (omega (
      arith,
      R.low,
      R.high,
      comp,
      few,
    )) in
    (s.requires.0, s.requires.2, omega (arith, h, c.rows_of-part.ensures.1, ap (λ j. get_or (ends_in a.tables.now) (j - 1) 0) c.from-j.ensures))

pub returns : goal.returns
returns c =
    let a = c.args in
    let S = ground_stage a.g a.level.now a.tables.now in
    let E = c.row-t.ensures in
    let v = node_at a.nodes.now a.x in
    let rec = record_at a.nodes.now a.x in
    let said = c.requires.4.answered a.x c.requires.3 in
    let comp : (term_of c.row-t.result).1.1 ≡ rec.1.1 = ap (λ (t : Term). t.1.1) E in
    let R = node_reduced S a.drops v rec said (λ q. c.if-j-eq0.false (c.from-j.ensures ∙ comp ∙ q)) in
    let few = length_rows a.tables.now 0 a.g.r in
    let t = term_of c.row-t.result in
    let ends = ends_in a.tables.now in
    let w = c.expand in
    let b = c.rows_of-part in (
      w.ensures.0,
      spanned_noded S a.drops (a.g.components - 1) a.most a.n a.e t.0 t.1.0
          (rows a.level.now (b.result.from + 1) (b.result.to - (b.result.from + 1))) v w.result w.new.nodes w.new.edges
          (ap (edges a.g.p t.0 t.1.0) (sym (rest_of_vector a.level.now ends a.g.r t.1.1 b.result.from b.result.to c.requires.1.ends_fit
          (omega (arith, R.low, comp)) (omega (arith, R.high, comp, few)) (b.ensures.0 ∙ ap (first_row ends) c.from-j.ensures)
          (b.ensures.1 ∙ ap (λ j. get_or ends (j - 1) 0) c.from-j.ensures)))
          ∙ ap (λ (u : Term). edges a.g.p u.0 u.1.0 (rest (vector_of S.family u.1.1))) E ∙ sym R.products_are)
          (w.ensures.1 a.level.now c.requires.4),
      w.ensures.2,
    )
