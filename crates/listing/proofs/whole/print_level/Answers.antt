use borrow.Author.Rules.{rules}
use native.Mathlib.Omega.{arith}
use mathlib.Core.Path.{◌≡◌, sym}
use Prim.Native.Nat.{◌+◌, ◌-◌, ◌*◌, ◌≤◌}
use lib.ListN.{get_or}
use Rattle.definitions.specs.Sheet.{level_lines}
use Rattle.definitions.specs.Places.{most_vectors, rows_offset}
use Rattle.pages.proofs.bytes.Spelling.{spelled}
use Rattle.listing.specs.printing.Lines.{Short}
use Rattle.reducers.specs.tables.Cuts.{Cut, cut_level}
use Rattle.level.proofs.by_runs.GroundOfLevel.{ends_part}
use Rattle.state.proofs.soundness.SoundLevels.{complete_cut}
use Rattle.state.proofs.soundness.VectorByVector.{whole_part}
use Rattle.state.specs.soundness.Places.{count_at}
use Rattle.listing.proofs.whole.Levels.{short_level}
use mathlib.Core.Path.{subst₃}
use Rattle.level.proofs.all_levels.Lifting.{few_variables}
use Rattle.listing.proofs.whole.print_level.Goals as goal

pub level_lines-requires : goal.level_lines-requires
level_lines-requires c =
    let a = c.args in
    let s = a.state.now in
    let b = c.requires.0 in
    let h = complete_cut s b.long b.holds a.k b.has in
    let e : c.count_of-count.result
    ≡ count_at s a.k = c.count_of-count.ensures in
    let t = subst₃ (λ c l f. (c ≤ most_vectors) × Cut c l f × Short c f) (sym e) (sym (whole_part (rows_offset a.k) s)) (sym (ends_part s a.k))
    (h.0, h.1, short_level s b.long b.holds a.k b.has h.1.ends_fit) in (
      omega (arith, c.place-n.ensures.0, few_variables s b.long b.holds),
      t.0,
      t.1,
      t.2,
      c.requires.1,
    )

pub returns : goal.returns
returns c =
    let a = c.args in
    let s = a.state.now in
    let e : c.count_of-count.result
    ≡ count_at s a.k = c.count_of-count.ensures in
    let n : c.place-n.result
    ≡ get_or s 1 0 = c.place-n.ensures.0 in (
      spelled (λ i. level_lines (n i) a.k (cut_level (e i) (whole_part (rows_offset a.k) s i) (ends_part s a.k i)))
          c.level_lines.ensures.0,
      c.level_lines.ensures.1,
    )
