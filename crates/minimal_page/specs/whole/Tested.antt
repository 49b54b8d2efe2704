-- What is printed of a state with all its levels, and of one that was accepted.
use Rattle.std.specs.Prelude.{ℕ}
use Rattle.definitions.specs.Limits.{document_01}
use Rattle.definitions.specs.Result.{Result, done, ◌>>=◌}
use Rattle.definitions.specs.Problem.{Bytes}
use Rattle.definitions.specs.State.{State}
use Rattle.definitions.specs.Program.{lifted}
use Rattle.definitions.specs.Minimal.{minimal_page, last_empty}

-- 20 "tested after all lifting", then the page
abbrev pub page_of : State → Result Bytes
page_of X = last_empty document_01 X >>= λ u. done (minimal_page X)

-- .. all levels lifted
abbrev pub lifted_page : ℕ → State → Result Bytes
lifted_page n X = lifted document_01 n X >>= page_of
