use borrow.Author.Rules.{rules}
use native.Mathlib.Omega.{arith}
use mathlib.Core.Path.{◌≡◌, refl, sym, subst}
use Prim.Native.Nat.{suc, ◌-◌, ◌≤◌}
use lib.ListN.{length, take}
use Rattle.definitions.specs.Places.{most_elements, file_length}
use Rattle.completing.specs.whole.Tries.{TriedAs}
use Rattle.definitions.specs.Result.{done}
use Rattle.completions.specs.Resuming.{Same}
use Rattle.completing.proofs.whole.Tries.{all_tries, Going, going_start, going_on, going_end, going_accepted, prints_file, going_refused}
use Rattle.completing.proofs.whole.complete.Given as goal

abbrev pub invariant-loop : goal.invariant-loop
invariant-loop l =
    (l.size ≤ file_length) × (length l.out ≡ length l.initial.out) × (length l.state ≡ length l.initial.state) × (length l.work ≡ length l.initial.work)
    × Going (take l.given l.initial.out) (take l.size l.out) (suc most_elements - l.counter) l.from
