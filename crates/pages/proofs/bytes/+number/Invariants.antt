use Rattle.pages.proofs.bytes.+number.Given as goal

abbrev pub decreases-number : goal.decreases-number
decreases-number l = l.v
