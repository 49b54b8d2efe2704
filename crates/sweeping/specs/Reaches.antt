-- A frame term taken into a table, or left.
use Rattle.std.specs.Prelude.{Option, Some, None, Bool, ℕ, suc, ◌-◌, ◌≤◌}
use Rattle.definitions.specs.Monomial.{Monomial}
use Rattle.definitions.specs.Stage.{Stage}
use Rattle.definitions.specs.Layout.{Words}
use Rattle.runs.specs.declared.reduction.Ground.{Ground}
use Rattle.sweeping.specs.Nodes.{ground_stage, Growing, Rooted, Gathered}
use Rattle.sweeping.specs.Growth.{most_edges}
use Rattle.sweeping.specs.declared.making.Taken.{Taken}

abbrev pub ReachedAs : Stage → Bool → ℕ → ℕ → ℕ → ℕ → ℕ → Monomial → Option (ℕ × ℕ) → Words → Words → Words → Type 0
ReachedAs S d count most n e v m (Some (n', e')) nodes spans words =
    Growing S d count n' n' e' nodes spans words × Rooted S d n' e' nodes spans words m v × (n ≤ n') × (n' ≤ most) × (e ≤ e') × (e' ≤ most_edges most)
ReachedAs S d count most n e v m None nodes spans words = Unit {0}

-- no more nodes than the slices have room for and the limits allow
pub record ServingNodes (g : Ground) (size most : ℕ) : Type 0 where
  pub most_few : most ≤ size
  pub few : most ≤ g.working
  pub short : suc most ≤ g.vector

-- the frame terms from i up to the end are in the table
pub record TakenAs (g : Ground) (level tables frame : Words) (d : Bool) (count most i : ℕ) (t : Taken) (nodes spans words : Words) : Type 0 where
  pub low : i ≤ t.to
  pub high : t.to ≤ count
  pub gathered : Gathered (ground_stage g level tables) d (g.components - 1) frame i t.to t.nodes t.edges nodes spans words
  pub few_nodes : t.nodes ≤ most
  pub few_edges : t.edges ≤ most_edges most
