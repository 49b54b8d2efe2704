-- by the law: counting so many zeros out would take the checker minutes
use Rattle.std.proofs.Common.{ℕ}
use Rattle.std.proofs.Math.Path.{sym}
use Rattle.std.proofs.lemmas.List.{length-replicate}
use Rattle.definitions.specs.Places.{page_length}
use Rattle.programs.proofs.page_bytes.Goals as goal

pub returns : goal.returns
returns c = sym (length-replicate {A = ℕ} page_length 0)
