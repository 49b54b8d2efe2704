use Rattle.reader.proofs.problem.Carrying.{carried_words}
use Rattle.reader.proofs.problem.carry.Goals as goal

pub returns : goal.returns
returns c =
    let a = c.args in let w = c.weigh in let r = c.place-r in
    carried_words a.state.now c.copy.new.d w.new.d r.result c.copy.ensures r.ensures.0 w.ensures
