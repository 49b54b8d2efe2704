-- A batch of frame terms with a table that serves them, over the tables of a lifting that a sound state gives.
use Rattle.std.specs.Prelude.{◌≡◌, ◌⊎◌, Bool, true, false, List, ◌∷◌, ℕ, suc, ◌-◌, ◌*◌, ◌<◌, ◌≤◌, length}
use Rattle.definitions.specs.Limits.{Limits}
use Rattle.definitions.specs.Monomial.{Level, leading_monomials}
use Rattle.definitions.specs.Frame.{frame}
use Rattle.definitions.specs.Problem.{Parameters}
use Rattle.definitions.specs.Stage.{stage_over}
use Rattle.definitions.specs.Layout.{Words}
use Rattle.definitions.specs.Places.{row_length, most_nodes}
use Rattle.demands.specs.Notions.{Member}
use Rattle.runs.specs.run.Stages.{order_of}
use Rattle.runs.specs.declared.reduction.Ground.{Ground}
use Rattle.runs.specs.declared.run.Strategy.{Strategy}
use Rattle.sweeps.specs.Sizes.{eight_variables}
use Rattle.sweeps.specs.Sweep.{components}
use Rattle.sweeps.proofs.Footing.{Footing}
use Rattle.sweeping.specs.Nodes.{ground_stage, frame_term, Gathered}
use Rattle.sweeping.specs.Orders.{Arranged}

-- the tables are those over levels of which soundness holds, and the rows are their frame's
pub record Grounded (g : Ground) (level tables rows-framed : Words) (count : ℕ) : Type 0 where
  pub lim : Limits
  pub q : Parameters
  pub f : Level
  pub below : List Level
  pub footing : Footing lim (eight_variables q) (f ∷ below)
  pub stage : ground_stage g level tables ≡ stage_over lim q.p q.code (f ∷ below)
  pub ranged : g.components - 1 ≡ components (eight_variables q) below
  pub members : (v : ℕ) → v < count → Member (frame_term rows-framed v) (frame (lim.numbering q.code) (leading_monomials f))

-- a table of n nodes and `used` edges for the frame terms from row i up to row e; its edges lead to places
pub record Serving (g : Ground) (level tables rows-framed : Words) (d : Bool) (i e n used : ℕ) (nodes spans words order : Words) : Type 0 where
  -- the edges before they were renumbered
  pub found : Words
  pub gathered : Gathered (ground_stage g level tables) d (g.components - 1) rows-framed i e n used nodes spans found
  pub arranged : Arranged (order_of g tables) n used nodes found order words
  pub most : n ≤ most_nodes
  pub few : n ≤ g.working
  pub short : suc n ≤ g.vector
  pub edges_there : used * 2 ≤ length words
  pub order_there : n ≤ length order
  pub nodes_there : n * 2 * row_length ≤ length nodes

-- how a table may be used: any way of lifting; or acceptance
abbrev pub Allowed : Strategy → Type 0
Allowed w = (w.stops ≡ false) ⊎ ((w.stops ≡ true) × (w.drops ≡ false) × (w.pick ≡ 1))
