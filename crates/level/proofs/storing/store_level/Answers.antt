use native.Mathlib.Omega.{arith}
use mathlib.Core.Path.{◌∙◌}
use Rattle.level.proofs.storing.Storing.{grown_sound, grown_right, stored_whole}
use Rattle.level.proofs.storing.store_level.Goals as goal

pub append_all-requires : goal.append_all-requires
append_all-requires c = let P = c.requires in (P.0, P.1, P.2, P.3)

pub finish-requires : goal.finish-requires
finish-requires c =
    let P = c.requires in
    let g = c.append_all.ensures.1 in
    let a = c.args in
    let A = c.append_all in (
      omega (arith, P.0, g.long),
      P.1,
      g.words_below,
      g.words,
      grown_sound a.state.now A.new.state a.out.now a.k a.count A.ensures P.4,
      grown_right a.state.now A.new.state a.out.now a.k a.count A.ensures P.5,
    )

pub returns : goal.returns
returns c =
    let a = c.args in
    let A = c.append_all in
    c.finish.ensures ∙ stored_whole a.state.now A.new.state a.out.now a.k a.count A.ensures
