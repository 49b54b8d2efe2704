use native.Mathlib.Omega.{arith}
use mathlib.Core.Path.{subst}
use Rattle.std.specs.Prelude.{Ok}
use Rattle.state.proofs.preparing.Complete.{words_below}
use Rattle.level.specs.all_levels.Level.{Settles}
use Rattle.level.proofs.all_levels.Lifting.{liftable_carried, stored_words}
use Rattle.level.proofs.all_levels.store_lifted.Goals as goal

pub store_level-requires : goal.store_level-requires
store_level-requires c =
    let a = c.args in
    let P = c.requires in
    let b = P.0.base in
    let st = subst (λ y. Settles a.state.now a.k (Ok y) a.out.now) c.in-Vectors.is P.1 in (
      b.long,
      omega (arith, P.0.high),
      words_below a.state.now b.long b.holds a.k (omega (arith, b.has)),
      st.0,
      st.1,
      liftable_carried a.state.now a.k P.0,
    )

pub returns : goal.returns
returns c =
    let a = c.args in
    let t = c.store_level in
    stored_words a.state.now a.k c.requires.0 a.x c.in-Vectors.n c.in-Vectors._used a.out.now t.new.state c.in-Vectors.is t.ensures

pub returns-in_default : goal.returns-in_default
returns-in_default c =
    let a = c.args in
    absurd (subst (λ y. Settles a.state.now a.k (Ok y) a.out.now) c.in_default.is c.requires.1)
