use Rattle.sweeping.proofs.Sums.{holds_zeros}
use Rattle.sweeping.specs.Nodes.{edges_in}
use Rattle.sweeps.specs.Places.{spread_at}
use native.Mathlib.Omega.{arith}
use mathlib.Core.Path.{◌∙◌}
use Prim.Native.Nat.{◌+◌, ◌-◌}
use lib.ListN.{length}
use Rattle.sweeping.proofs.passes.start.Goals as goal

pub spread-requires : goal.spread-requires
spread-requires c =
    let s = c
    in let a = c.place-a.ensures in let b = c.place-b.ensures in
    let x = c.clear in
    let o = s.requires.1 in (
      record {
        ordered = omega (arith, a.0, b.0, o.ordered);
        inside = omega (arith, b.0, o.inside);
        targets = λ k h l. let t = (o.targets k (omega (arith, a.0, h)) (omega (arith, b.0, l))).1 in (omega arith, omega (arith, t, x.auto.sums));
      },
      omega arith,
      holds_zeros (c.place-b.result - c.place-a.result)
          (length s.args.sums.now) x.new.sums x.ensures (omega (arith, b.1)),
    )

pub returns : goal.returns
returns c =
    let s = c
    in let a = c.place-a.ensures.0
    in let b = c.place-b.ensures in
    let x = c.clear in
    let e = c.spread.ensures in record {
      zeros = x.new.sums;
      all_zero = x.ensures;
      sums_is = e.0 ∙ (λ i. spread_at 1 (edges_in s.args.words.now (a i) (b.0 i - a i)) x.new.sums);
      room = e.1 33488896 (holds_zeros ((c.place-b.result - c.place-a.result) + 33488896) (length s.args.sums.now) x.new.sums x.ensures (omega
          (arith, b.1)));
    }
