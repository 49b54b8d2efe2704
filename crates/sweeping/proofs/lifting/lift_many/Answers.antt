use borrow.Author.Rules.{rules}
use native.Mathlib.Omega.{arith}
use Rattle.sweeping.proofs.lifting.lift_many.Goals as goal

pub lift_on-requires : goal.lift_on-requires
lift_on-requires c =
    let P = c.requires in (
      P.0,
      P.1,
      P.2,
      P.3,
      P.4,
      P.5,
      P.6,
      P.7,
      P.8,
      P.9,
      P.10,
      P.11,
      record {
        small = omega arith;
        nodes_long = search rules;
        edges_long = search rules;
        spans_long = P.16;
        order_long = search rules;
        keys_long = search rules;
        other_long = search rules;
      },
      search rules,
      P.12,
      P.13,
      P.14,
      P.15,
    )
