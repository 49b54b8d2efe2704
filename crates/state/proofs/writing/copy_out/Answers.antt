use native.Mathlib.Omega.{arith}
use mathlib.Core.Path.{refl, ap, ◌∙◌}
use lib.ListN.{take, drop}
use lib.ListN.{length-drop}
use lib.Seq.{paste}
use Rattle.vectors.specs.terms.Rows.{cleared}
use Rattle.state.proofs.soundness.VectorByVector.{whole_part, length_part}
use Rattle.state.proofs.writing.Fetching.{padded_out}
use Rattle.state.proofs.writing.copy_out.Goals as goal

pub copy-requires : goal.copy-requires
copy-requires c = (omega arith, omega (arith, length_part c.args.start c.args.state.now))

pub returns : goal.returns
returns c =
    let a = c.args in
    let s = a.state.now in
    c.clear.ensures ∙ ap (λ l. cleared l a.n) (c.copy.ensures
    ∙ ap (λ p. paste a.out.now 0 p a.n) (whole_part a.start s))
    ∙ padded_out a.out.now (take a.n (drop a.start s)) (drop a.start s) a.n (omega (arith, c.requires.1))
    (omega (arith, length-drop a.start s, c.requires.0)) refl
