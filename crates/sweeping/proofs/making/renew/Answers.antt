use Rattle.sweeping.proofs.making.renew.Goals as goal

pub make-requires : goal.make-requires
make-requires c =
    let P = c.requires in
    (P.0, P.1, P.2, P.3, P.4, P.5, P.6)
