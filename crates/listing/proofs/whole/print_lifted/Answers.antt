use borrow.Author.Rules.{rules}
use native.Mathlib.Omega.{arith}
use mathlib.Core.List.{[], ◌∷◌, ◌++◌}
use Prim.Native.Nat.{◌-◌}
use Rattle.words.specs.refusals.Numbers.{number_of}
use Rattle.definitions.specs.Sheet.{printed}
use Rattle.pages.proofs.bytes.Spelling.{after}
use Rattle.listing.specs.whole.Listed.{all_lines_of}
use Rattle.listing.proofs.whole.Levels.{whole_lines, refused_lines}
use Rattle.listing.proofs.whole.print_lifted.Goals as goal

pub lift_levels-lifted-requires : goal.lift_levels-lifted-requires
lift_levels-lifted-requires c = let P = c.requires in (P.0, omega (arith, P.2))

pub print_levels-at-requires : goal.print_levels-at-requires
print_levels-at-requires c = (c.lift_levels-lifted.ensures.1, omega (arith, c.requires.3))

pub returns-in-Ok : goal.returns-in-Ok
returns-in-Ok c =
    let s = c.args.state.now in
    let P = c.requires in
    let L = c.lift_levels-lifted in
    let t = L.new.state in
    let R = L.ensures.0 in
    let Q = c.print_levels-at.ensures in (
      record {
        bound = R.0;
        bytes = all_lines_of t;
        gives = whole_lines s t R.0 L.result P.1 L.ensures.1.has R.1 c.in-Ok.is;
        printed = Q.0;
      },
      omega (arith, Q.1),
    )

pub x_line-requires : goal.x_line-requires
x_line-requires c = omega (arith, c.print_levels-at.ensures.1, c.requires.3)

pub returns-in-Err : goal.returns-in-Err
returns-in-Err c =
    let s = c.args.state.now in
    let P = c.requires in
    let L = c.lift_levels-lifted in
    let t = L.new.state in
    let R = L.ensures.0 in
    let Q = c.print_levels-at.ensures in
    let v = c.x_line.ensures in
    let e = c.in-Err.refused in (
      record {
        bound = R.0;
        bytes = all_lines_of t ++ printed 88 (number_of e.refusal ∷ e.place ∷ []);
        gives = refused_lines s t R.0 L.result P.1 L.ensures.1.has R.1 e c.in-Err.is;
        printed = after Q.0 v.0;
      },
      omega (arith, Q.1, v.1),
    )
