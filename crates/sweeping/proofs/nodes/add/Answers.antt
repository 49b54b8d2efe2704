use Rattle.sweeping.proofs.Made.{added_rows}
use Rattle.vectors.specs.terms.Rows.{term_of}
use Rattle.monomial.specs.Values.{monomial_of}
use Rattle.sweeping.proofs.nodes.add.Goals as goal

pub returns : goal.returns
returns c =
    let a = c.args
    in let p = c.put in let q = c.put-2 in
    added_rows a.n (0, monomial_of a.m) (term_of a.t) a.nodes.now p.new.s q.new.s c.requires p.ensures.1 q.ensures.1 p.ensures.0 q.ensures.0
