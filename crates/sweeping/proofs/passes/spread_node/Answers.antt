use Rattle.sweeping.proofs.Sums.{holds_less}
use Rattle.sweeping.specs.Nodes.{edges_in}
use Rattle.sweeps.specs.Places.{spread_at}
use native.Mathlib.Omega.{arith}
use mathlib.Core.Path.{◌∙◌}
use Prim.Native.Nat.{◌+◌, ◌-◌, ◌≤◌}
use Rattle.sweeping.proofs.passes.spread_node.Goals as goal

pub spread-requires : goal.spread-requires
spread-requires c =
    let s = c
    in let a = c.place-a.ensures in let b = c.place-b.ensures in
    let w : c.from.result ≤ 65535 = omega (arith, c.from.ensures, c.ranges.c) in
    let o = s.requires.1 in (
      record {
        ordered = omega (arith, a.0, b.0, o.ordered);
        inside = omega (arith, b.0, o.inside);
        targets = λ k h l. o.targets k (omega (arith, a.0, h)) (omega (arith, b.0, l));
      },
      w,
      holds_less (c.place-b.result - c.place-a.result) 65536 s.args.sums.now (omega (arith, b.1))
          s.requires.2,
    )

pub returns : goal.returns
returns c =
    let s = c
    in let a = c.place-a.ensures.0
    in let b = c.place-b.ensures.0 in
    let w = c.from.ensures in
    let e = c.spread.ensures in (
      e.0 ∙ (λ i. spread_at (w i) (edges_in s.args.words.now (a i) (b i - a i)) s.args.sums.now),
      λ r h. e.1 r (holds_less ((c.place-b.result - c.place-a.result) + r) (65536 + r) s.args.sums.now (omega (arith, c.place-b.ensures.1)) h),
    )
