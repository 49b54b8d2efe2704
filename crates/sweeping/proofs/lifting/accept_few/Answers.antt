use borrow.Author.Rules.{rules}
use native.Mathlib.Omega.{arith}
use Rattle.sweeping.proofs.lifting.accept_few.Goals as goal

pub accept_on-requires : goal.accept_on-requires
accept_on-requires c =
    let P = c.requires in (
      P.0,
      P.1,
      P.2,
      P.3,
      P.4,
      P.5,
      P.6,
      P.7,
      P.8,
      record {
        small = omega arith;
        nodes_long = search rules;
        edges_long = search rules;
        spans_long = search rules;
        order_long = search rules;
        keys_long = search rules;
        other_long = search rules;
      },
      search rules,
    )
