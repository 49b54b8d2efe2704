-- A node found or made, and an edge.
use Rattle.std.specs.Prelude.{◌≡◌, Bool, false, ℕ, ◌*◌, ◌<◌}
use Rattle.definitions.specs.Monomial.{Monomial, Term}
use Rattle.definitions.specs.Reducer.{answer}
use Rattle.definitions.specs.Run.{dropped?}
use Rattle.definitions.specs.Layout.{Words, row_at, rows}
use Rattle.definitions.specs.Places.{slots_length}
use Rattle.runs.specs.reduction.Grounds.{reduction_of}
use Rattle.runs.specs.declared.reduction.Ground.{Ground}
use Rattle.sweeping.specs.Nodes.{node_at, record_at, edge_at, Says}
use Rattle.sweeping.specs.declared.nodes.Spot.{Spot}
use Rattle.sweeping.specs.declared.nodes.Spot.TheVariants.{Node, Free}

abbrev pub FoundAs : ℕ → Words → Monomial → Spot → Type 0
FoundAs n nodes m (Node x) = (x < n) × (node_at nodes x ≡ m)
FoundAs n nodes m (Free h) = h < slots_length

-- the record of a node m that is not dropped
abbrev pub ToldOf : Ground → Words → Monomial → Term → Type 0
ToldOf g tables m t = (d : Bool) → dropped? (reduction_of g tables) d m ≡ false → Says g.p d (answer g.p (rows tables 0 g.r) (1, m)) t

-- node n is m, with the record t; those before it stay
pub record Added (n : ℕ) (m : Monomial) (t : Term) (nodes nodes' : Words) : Type 0 where
  pub rows_same : (k : ℕ) → k < n * 2 → row_at nodes' k ≡ row_at nodes k
  pub node_is : node_at nodes' n ≡ m
  pub record_is : record_at nodes' n ≡ t

-- edge e leads to node x; those before it stay
pub record Edged (e x c : ℕ) (words words' : Words) : Type 0 where
  pub edges_same : (k : ℕ) → k < e → edge_at words' k ≡ edge_at words k
  pub edge_is : edge_at words' e ≡ (x, c)
