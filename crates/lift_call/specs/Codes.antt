-- A way by its code, as other languages name it.
use Rattle.std.specs.Prelude.{ℕ, eqb}
use Rattle.definitions.specs.Lists.{choose}
use Rattle.definitions.specs.Layout.{Way, division, hybrid, tree}

-- 0 division, 1 hybrid, 2 the tree; any other code is hybrid with a pick code that there is not
abbrev pub coded_way : ℕ → ℕ → Way
coded_way way pick = choose (eqb way 0) division (choose (eqb way 1) (hybrid pick) (choose (eqb way 2) tree (hybrid 0)))
