use Rattle.std.proofs.Common.{◌<◌, sym, ap, ◌∙◌, subst, arith}
use Rattle.laws.proofs.Packing.{bytes_of}
use Rattle.monomial.specs.Values.{lane_sum}
use Rattle.monomial.proofs.Bytewise.{degree_packed, degree_room}
use Rattle.monomial.proofs.degree_exponents.Goals as goal

pub added_lanes-requires : goal.added_lanes-requires
added_lanes-requires c =
    let x = c.args.x in
    let b = bytes_of x (omega arith) in
    subst (λ n. n < 65536) (sym (ap lane_sum c.paired.ensures ∙ degree_packed x b)) (degree_room x b)

pub returns : goal.returns
returns c =
    let x = c.args.x in
    c.added_lanes.ensures ∙ ap lane_sum c.paired.ensures ∙ degree_packed x (bytes_of x (omega arith))
