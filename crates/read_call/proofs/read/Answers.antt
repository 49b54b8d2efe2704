use native.Mathlib.Omega.{arith}
use mathlib.Core.Path.{◌∙◌}
use Rattle.read_call.proofs.ReadCall.{read_replied, read_long}
use Rattle.read_call.specs.Replies.{read_reply}
use Rattle.read_call.proofs.read.Goals as goal

pub returns : goal.returns
returns c =
    let a = c.args in let x = c.read_file in let y = c.of-2 in
    read_long a.file.now a.state.now a.work.now (omega arith) (omega arith) x.ensures.0
    (read_reply y.result x.new.state x.new.work)
    (read_replied x.result y.result x.new.state x.new.work y.ensures ∙ x.ensures.1) x.ensures.2
