use mathlib.Core.Path.{◌≡◌, sym, ap, ◌∙◌}
use lib.ListN.{length}
use Rattle.state.specs.soundness.Places.{count_at}
use Rattle.state.proofs.soundness.SoundLevels.{complete_cut}
use Rattle.state.proofs.soundness.TablesGrow.{cut_parts}
use Rattle.columns.proofs.counting.Standing.{level_stands}
use Rattle.ranks.specs.Blocks.{whole}
use Rattle.constants.proofs.filling.Vectorwise.{level_cut}
use Rattle.constants.proofs.filling.fill_level.Goals as goal

pub fill-requires : goal.fill-requires
fill-requires c =
    let a = c.args in
    let P = c.requires in
    let s = a.state.now in
    let as_many : length a.own.now ≡ count_at s a.k = ap length P.5 ∙ sym (level_stands s P.0 P.1 a.k P.2).long in
    (P.4, P.6, cut_parts s a.k (length a.own.now) as_many (complete_cut s P.0 P.1 a.k P.2).1, P.7)

pub returns : goal.returns
returns c =
    let a = c.args in
    let P = c.requires in
    let s = a.state.now in
    let as_many : length a.own.now ≡ count_at s a.k = ap length P.5 ∙ sym (level_stands s P.0 P.1 a.k P.2).long in
    c.fill.ensures ∙ ap (whole a.below.now a.own.now) (level_cut s P.0 P.1 a.k (length a.own.now) as_many)
