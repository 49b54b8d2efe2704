-- Bytes in front of a buffer.
use Rattle.std.specs.Prelude.{◌≡◌, ◌++◌, ℕ, ◌+◌, length, take}
use Rattle.definitions.specs.Problem.{Bytes}

-- the first r bytes after are the first `at` ones before, then these
pub record Printed (before after : Bytes) (at r : ℕ) (bytes : Bytes) : Type 0 where
  pub front : take r after ≡ take at before ++ bytes
  pub ends : r ≡ at + length bytes
