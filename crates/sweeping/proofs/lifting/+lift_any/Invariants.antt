use Rattle.sweeping.proofs.lifting.+lift_any.Given as goal

abbrev pub decreases-lift_any : goal.decreases-lift_any
decreases-lift_any l = l.sizes
