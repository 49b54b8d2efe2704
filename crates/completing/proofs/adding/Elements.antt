-- How many elements and terms the words of a file have.
use mathlib.Core.Path.{◌≡◌}
use mathlib.Core.Bool.{true}
use Prim.Native.Nat.{◌≤◌}
use native.Mathlib.Omega.{arith}
use lib.ListN.{length, length-drop}
use Rattle.definitions.specs.Limits.{document_01}
use Rattle.definitions.specs.State.{terms_of}
use Rattle.definitions.specs.Layout.{Words, level_at, ends_at, words_sound?}
use Rattle.definitions.specs.Places.{most_elements, most_rows, ends_start}
use Rattle.laws.proofs.Sound.{SoundBasis, basis_says}
use Rattle.laws.proofs.Tests.{and_left}
use Rattle.reducers.specs.tables.Cuts.{start_of}
use Rattle.state.specs.soundness.Places.{parameters_at, count_at, rows_from, ends_from}
use Rattle.state.proofs.soundness.VectorTests.{terms_cut}
use Rattle.state.proofs.soundness.StateTests.{words_parts}
use Rattle.state.proofs.preparing.Complete.{complete_count, words_below}
use Rattle.state.proofs.writing.Spelled.{end_is_start}
use Rattle.level.specs.by_runs.Stages.{Base}
use Rattle.level.proofs.by_runs.GroundOfLevel.{sound_levels}

module _ (s : Words) (b : Base s 0) where
  said : SoundBasis document_01 (parameters_at s) (level_at document_01 s 0)
  said = basis_says document_01 (parameters_at s) (level_at document_01 s 0) (sound_levels s 0 b)

  pub elements_are : length (level_at document_01 s 0) ≡ count_at s 0
  elements_are = complete_count s b.long b.holds 0 b.has

  pub few_elements : count_at s 0 ≤ most_elements
  few_elements = let e = elements_are in let h = said.few in omega (arith, e, h)

  pub terms_are : terms_of (level_at document_01 s 0) ≡ start_of (ends_from s 0) (count_at s 0)
  terms_are =
      let c = words_parts s b.long 0 (and_left (words_sound? document_01 s 0) true (words_below s b.long b.holds 1 b.has)) in
      let t = terms_cut most_rows (rows_from s 0) 0 (ends_at document_01 s 0) c.1 in
      let l = length-drop ends_start s in
      let f = few_elements in
      let n = b.long in
      let e = end_is_start (ends_from s 0) (count_at s 0) (omega (arith, l, f, n)) in
      omega (arith, t, e)

  pub few_terms : terms_of (level_at document_01 s 0) ≤ most_rows
  few_terms = said.short
