use native.Mathlib.Omega.{arith}
use Rattle.reader.proofs.problem.Carrying.{parts_cut, parts_fit, parts_light, weighed_words}
use Rattle.reader.proofs.problem.weigh.Goals as goal

pub fill_degrees-requires : goal.fill_degrees-requires
fill_degrees-requires c =
    let a = c.args in let s = a.state.now in let k = c.requires.1 in
    let r = c.place-r in let n = c.place-n in (
      omega (arith, r.ensures.0, k.few, c.requires.0),
      parts_cut s k r.result n.result r.ensures.0 n.ensures.0,
      parts_fit s k r.result n.result r.ensures.0 n.ensures.0,
      parts_light s k r.result n.result r.ensures.0 n.ensures.0,
    )

pub returns : goal.returns
returns c =
    let a = c.args in let s = a.state.now in let k = c.requires.1 in
    let r = c.place-r in let n = c.place-n in let f = c.fill_degrees in
    weighed_words s k r.result n.result r.ensures.0 n.ensures.0 f.new.d
    (omega (arith, r.ensures.0, k.few, c.requires.0, f.auto.d)) f.ensures
