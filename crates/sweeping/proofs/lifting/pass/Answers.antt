use mathlib.Core.Bool.{Bool, true, false, not}
use borrow.Author.Rules.{rules}
use native.Mathlib.Omega.{arith}
use mathlib.Core.Path.{◌≡◌, refl, sym}
use Prim.Native.Nat.{ℕ}
use Rattle.std.specs.Prelude.{Option, Some, None, IfSome}
use Rattle.definitions.specs.Monomial.{Monomial}
use Rattle.definitions.specs.Layout.{Words}
use Rattle.sweeping.specs.declared.making.Batch.{Batch}
use Rattle.sweeping.specs.Sweeps.{SweptAs, PassedBy}
use Rattle.monomial.specs.Values.{monomial_of}
use Rattle.sweeping.proofs.lifting.pass.Goals as goal

-- what a pass gives with a table that serves
passed : (p : ℕ) (b : Batch) (nodes spans words order : Words) (v : ℕ) (m : Monomial) (vector : Words) (x : Option ℕ) → b.serves ≡ true
    → SweptAs p b.nodes nodes spans words order v m x vector → IfSome x (λ k. PassedBy p b nodes spans words order v m k vector)
passed p b nodes spans words order v m vector (Some k) e s = record { serves = e; passes = s.0; few = s.1 }
passed p b nodes spans words order v m vector None e s = tt

served : (b : Bool) → not b ≡ false → b ≡ true
served true e = refl
served false e = sym e

pub slice_bounds-sweep-end : goal.slice_bounds-sweep-end
slice_bounds-sweep-end c =
    omega (
      arith,
      (c.requires.0 (served c.args.b.serves c.if-not-b.false)).order_there,
      c.requires.2,
    )

pub sweep-requires : goal.sweep-requires
sweep-requires c =
    let r = c.requires.0 (served c.args.b.serves c.if-not-b.false) in (
      r.passable,
      r.roots,
      c.requires.1,
      r.most,
      search rules,
      r.order_there,
      r.nodes_there,
      r.vector_there,
      c.requires.3,
      c.requires.4,
    )

pub returns : goal.returns
returns c =
    let a = c.args in
    passed a.p a.b a.nodes.now a.spans.now a.edges.now a.order.now a.v (monomial_of a.m) c.sweep.new.vector c.sweep.result
    (served a.b.serves c.if-not-b.false) c.sweep.ensures
