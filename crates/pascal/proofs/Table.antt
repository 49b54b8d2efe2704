-- Where an entry stands in a table that is the triangle.
use mathlib.Core.Path.{◌≡◌, ap, ◌∙◌}
use mathlib.Core.List.{List}
use Prim.Native.Nat.{ℕ, suc, ◌+◌, ◌*◌, ◌/◌, ◌<◌, ◌≤◌}
use native.Mathlib.Nat.{mul-le-mul}
use native.Mathlib.Omega.{arith}
use lib.ListN.{get_or}
use Rattle.definitions.specs.Pascal.{triangle, entry}
use Rattle.definitions.specs.Places.{triangle_rows}

pub few_before : (m : ℕ) → m < triangle_rows → m * (m + 1) ≤ 1560
few_before m h = let a : m ≤ 39 = omega arith in let b : m + 1 ≤ 40 = omega arith in mul-le-mul a b

pub looked_up : (t : List ℕ) (m k : ℕ) → t ≡ triangle → get_or t (m * (m + 1) / 2 + k) 0 ≡ entry m k
looked_up t m k e =
    let s : m + 1 ≡ suc m = omega arith in
    ap (λ l. get_or l (m * (m + 1) / 2 + k) 0) e ∙ ap (λ i. get_or triangle (m * i / 2 + k) 0) s
