-- The three ways, as the definitions have them.
use Rattle.definitions.specs.Layout as layout
use Rattle.definitions.specs.Layout.{division, hybrid, tree}
use Rattle.ways.specs.declared.any_way.Way.{Way}
use Rattle.ways.specs.declared.any_way.Way.TheVariants.{Division, Hybrid, Tree}

abbrev pub way_of : Way → layout.Way
way_of Division = division
way_of (Hybrid pick) = hybrid pick
way_of Tree = tree
