use Rattle.sweeping.proofs.Growth.{spanned_alike}
use Rattle.sweeping.specs.Nodes.{ground_stage}
use Rattle.runs.proofs.reduction.Families.{vector_at}
use Rattle.runs.specs.reduction.Grounds.{ends_in, family_of, first_row}
use Rattle.monomial.specs.Values.{monomial_of}
use Rattle.definitions.specs.Places.{row_length}
use Rattle.definitions.specs.Layout.{rows}
use Rattle.definitions.specs.Monomial.{vector_of}
use native.Mathlib.Omega.{arith}
use mathlib.Core.Path.{sym, ap, ◌∙◌}
use Prim.Native.Nat.{◌-◌, ◌*◌, ◌≤◌}
use lib.ListN.{length, get_or}
use Rattle.sweeping.proofs.growing.begin.Goals as goal

pub expand-requires : goal.expand-requires
expand-requires c =
    let a = c.args
    in let i = (monomial_of a.m).1 in
    let h : get_or (ends_in a.tables.now) (i - 1) 0 * row_length ≤ length a.level.now = c.requires.1.rows_fit (i - 1) (omega (
      arith,
      c.requires.3,
      c.requires.4,
    )) in
    (c.requires.0, c.requires.2, omega (arith, h, c.rows_of-part.ensures.1, ap (λ j. get_or (ends_in a.tables.now) (j - 1) 0) c.from-i.ensures))

pub returns : goal.returns
returns c =
    let a = c.args in let i = (monomial_of a.m).1 in
    let w = c.expand in let b = c.rows_of-part in
    let ends = ends_in a.tables.now in (
      w.ensures.0,
      spanned_alike (ground_stage a.g a.level.now a.tables.now) a.drops (a.g.components - 1) a.most a.n a.e 1 (monomial_of a.m).0
          (rows a.level.now b.result.from (b.result.to - b.result.from))
          (vector_of (family_of a.g a.level.now ends) i) w.result w.new.nodes w.new.edges
          ((λ k. rows a.level.now (b.ensures.0 k) (b.ensures.1 k - b.ensures.0 k))
          ∙ ap (λ j. rows a.level.now (first_row ends j) (get_or ends (j - 1) 0 - first_row ends j)) c.from-i.ensures
          ∙ sym (vector_at a.level.now ends a.g.r i c.requires.1.ends_fit c.requires.3 c.requires.4))
          (w.ensures.1 a.level.now c.requires.5),
      w.ensures.2,
    )
