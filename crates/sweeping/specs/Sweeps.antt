-- The code's answers as the definitions' ones.
use Rattle.sweeping.specs.Growth.{most_edges}
use Rattle.std.specs.Prelude.{◌≡◌, Option, Some, None, Result as CodeResult, Bool, true, ℕ, ◌+◌, ◌*◌, ◌≤◌, length, []}
use Rattle.definitions.specs.Monomial.{Monomial}
use Rattle.definitions.specs.Result.{Result, ◌>>=◌}
use Rattle.definitions.specs.Stage.{Stage}
use Rattle.definitions.specs.Lifting.{Lifted, with_vector}
use Rattle.definitions.specs.Layout.{Words, rows}
use Rattle.runs.specs.run.Stages.{outcome_of}
use Rattle.runs.specs.declared.run.Outcome.{Outcome}
use Rattle.runs.specs.declared.reduction.Ground.{Ground}
use Rattle.definitions.specs.Places.{row_length, most_nodes, table_spans_length}
use Rattle.sweeping.specs.Nodes.{first_root, roots_end}
use Rattle.sweeping.specs.Passes.{Onward, Passable, Passes}
use Rattle.sweeping.specs.Serving.{Serving}
use Rattle.sweeping.specs.declared.making.Batch.{Batch}
use Rattle.words.specs.declared.refusals.Refusal.{Refusal}

-- each sum of lower order is zero; else nothing is said
abbrev pub SweptAs : ℕ → ℕ → Words → Words → Words → Words → ℕ → Monomial → Option ℕ → Words → Type 0
SweptAs p n nodes spans words order v m (Some k) vector = Passes p n nodes spans words order v m (rows vector 0 k) true × (k ≤ n + 1)
SweptAs p n nodes spans words order v m None vector = Unit {0}

-- the slices of a table have room for so many nodes, and for their edges
pub record Areas (size : ℕ) (nodes words spans order keys other : Words) : Type 0 where
  pub small : size ≤ most_nodes
  pub nodes_long : size * 2 * row_length ≤ length nodes
  pub edges_long : most_edges size * 2 ≤ length words
  pub spans_long : table_spans_length ≤ length spans
  pub order_long : size ≤ length order
  pub keys_long : size * 3 ≤ length keys
  pub other_long : size * 3 ≤ length other

-- frame terms from i up to the batch's end have the table, if it serves
pub record Batched (g : Ground) (level tables frame : Words) (d : Bool) (count i : ℕ) (b : Batch) (nodes spans words order : Words) : Type 0 where
  pub high : b.to ≤ count
  pub serves : b.serves ≡ true → Serving g level tables frame d i b.to b.nodes b.edges nodes spans words order

-- a pass for frame term v can be made with the batch's table
pub record Ready (b : Batch) (v : ℕ) (nodes spans words order vector : Words) : Type 0 where
  pub passable : Passable b.nodes spans words order
  pub roots : Onward 0 b.nodes (first_root spans v) (roots_end spans v) words
  pub most : b.nodes ≤ most_nodes
  pub order_there : b.nodes ≤ length order
  pub nodes_there : b.nodes * 2 * row_length ≤ length nodes
  pub vector_there : b.nodes * row_length + row_length ≤ length vector

-- r rows by a pass
pub record PassedBy (p : ℕ) (b : Batch) (nodes spans words order : Words) (v : ℕ) (m : Monomial) (r : ℕ) (vector : Words) : Type 0 where
  pub serves : b.serves ≡ true
  pub passes : Passes p b.nodes nodes spans words order v m (rows vector 0 r) true
  pub few : r ≤ b.nodes + 1

-- what an outcome gives beside the vectors before it
abbrev pub kept_one : Stage → Lifted → CodeResult Outcome Refusal → Words → Result Lifted
kept_one S l x vector = outcome_of x vector >>= λ v. with_vector S l (v, [])
