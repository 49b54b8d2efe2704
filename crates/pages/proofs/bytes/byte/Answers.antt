use Rattle.pages.proofs.bytes.Spelling.{one_byte}
use Rattle.pages.proofs.bytes.byte.Goals as goal

pub returns : goal.returns
returns c = one_byte c.args.out.now c.args.at c.args.x c.requires
