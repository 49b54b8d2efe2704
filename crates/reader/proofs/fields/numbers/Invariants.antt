use mathlib.Core.Path.{◌≡◌}
use Prim.Native.Nat.{◌-◌, ◌≤◌}
use lib.ListN.{length, drop}
use Rattle.reader.specs.fields.Scanning.{numbers_first}
use Rattle.reader.proofs.fields.Collected.{so_far, ZerosFrom}
use Rattle.reader.proofs.fields.numbers.Given as goal

abbrev pub invariant-loop-i : goal.invariant-loop-i
invariant-loop-i l =
    (l.i ≤ l.count) × (length l.numbers ≡ 16) × ZerosFrom l.i l.numbers × (numbers_first 65535 l.count (drop l.from l.file)
    ≡ so_far l.numbers l.i (numbers_first 65535 (l.count - l.i) (drop l.at l.file)))
