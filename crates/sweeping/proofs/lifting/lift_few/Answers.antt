use borrow.Author.Rules.{rules}
use native.Mathlib.Omega.{arith}
use Rattle.runs.specs.run.Stages.{strategy_of}
use Rattle.sweeping.specs.Nodes.{ground_stage}
use Rattle.sweeping.proofs.Ones.{gone_allowed}
use Rattle.sweeping.proofs.lifting.lift_few.Goals as goal

pub lift_on-requires : goal.lift_on-requires
lift_on-requires c =
    let P = c.requires in (
      P.0,
      P.1,
      P.2,
      P.3,
      P.4,
      P.5,
      P.6,
      P.7,
      P.8,
      P.9,
      P.10,
      P.11,
      record {
        small = omega arith;
        nodes_long = search rules;
        edges_long = search rules;
        spans_long = P.16;
        order_long = search rules;
        keys_long = search rules;
        other_long = search rules;
      },
      search rules,
      P.12,
      P.13,
      P.14,
      P.15,
    )

pub returns : goal.returns
returns c =
    let a = c.args in
    let x = c.lift_on in
    gone_allowed a.g (ground_stage a.g a.level.now a.tables.now) (strategy_of a.g a.tables.now a.w) a.frame.now a.count _
    x.result x.new.out x.new.vector x.ensures
