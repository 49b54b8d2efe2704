-- by the law: counting so many zeros out would take the checker minutes
use Rattle.std.proofs.Common.{ℕ}
use Rattle.std.proofs.Math.Path.{sym}
use Rattle.std.proofs.lemmas.List.{length-replicate}
use Rattle.definitions.specs.Places.{replay_length}
use Rattle.replay.proofs.out_bytes.Goals as goal

pub returns : goal.returns
returns c = sym (length-replicate {A = ℕ} replay_length 0)
