use native.Mathlib.Omega.{arith}
use mathlib.Core.Path.{refl, ap}
use Prim.Native.Nat.{◌-◌}
use Rattle.definitions.specs.Result.{done}
use Rattle.monomial.specs.Values.{monomial_of}
use Rattle.cache.proofs.Entries.{entered_words, waits}
use Rattle.cache.proofs.Parts.{moved_rows, kept_rows}
use Rattle.cache.proofs.keep.Goals as goal

pub returns-then-used-n : goal.returns-then-used-n
returns-then-used-n c =
    let a = c.args in
    let P = c.requires in
    let cp = c.copy in
    let pt = c.put in (
      ap done (entered_words a.used a.n a.a a.room (monomial_of a.m) a.cache.now a.work.now cp.new.d pt.new.s
          cp.ensures pt.ensures.0 pt.ensures.1 P.1 (omega (arith, P.2, P.3)) cp.auto.d c.if-used-n.true),
      (omega arith, omega (arith, c.if-used-n.true)),
      λ k h. refl,
    )

pub returns : goal.returns
returns c =
    let a = c.args in
    let P = c.requires in
    let mv = c.copy_within in (
      ap done (waits a.used a.n a.a (a.limit - a.n) a.room (monomial_of a.m) a.cache.now a.work.now mv.new.self
          (moved_rows a.work.now mv.new.self a.a a.n (a.limit - a.n) mv.ensures.by_index.0) c.if-used-n.false),
      (P.2, P.0),
      kept_rows a.work.now mv.new.self a.a (a.limit - a.n) (omega (arith, P.2)) mv.ensures.by_index.1,
    )
