-- A table of nodes in words, and what must hold of it while it grows.
use Rattle.std.specs.Prelude.{◌≡◌, Bool, false, not, List, [], ◌∷◌, ℕ, zero, suc, ◌+◌, ◌-◌, ◌*◌, ◌<◌, ◌≤◌, T, eqb, get_or}
use Rattle.definitions.specs.Field.{minus}
use Rattle.definitions.specs.Monomial.{Exponents, Monomial, Term, Vector, fits?, vector_of}
use Rattle.definitions.specs.Reducer.{Answer, reducer, lower_order}
use Rattle.definitions.specs.Stage.{Reduction, Stage}
use Rattle.definitions.specs.Run.{dropped?}
use Rattle.definitions.specs.Layout.{Words, row_at}
use Rattle.definitions.specs.Places.{roots_start}
use Rattle.orders.specs.Images.{table_of, table_order}
use Rattle.runs.specs.reduction.Grounds.{above_in}
use Rattle.runs.specs.run.Stages.{stage_of}
use Rattle.runs.specs.declared.reduction.Ground.{Ground}
use Rattle.sweeps.specs.Sweep.{edges, answer_at}
use Rattle.sweeps.specs.Places.{Row, products_of}

-- what the ground and the lent tables mean: as for a run
abbrev pub ground_stage : Ground → Words → Words → Stage
ground_stage g level tables = stage_of g level tables (table_order g.code (table_of g.r (above_in tables)))

-- ## The words of a table

-- two rows for each node: its monomial; and what is recorded where its sum is not zero
abbrev pub node_at : Words → ℕ → Monomial
node_at nodes x = (row_at nodes (x * 2)).1

-- −1 over the reducer's leading coefficient, the quotient, the reducer's number; number 0 for lower order
abbrev pub record_at : Words → ℕ → Term
record_at nodes x = row_at nodes (x * 2 + 1)

-- two words for each edge: where it leads to, its coefficient
abbrev pub edge_at : Words → ℕ → ℕ × ℕ
edge_at words k = (get_or words (k * 2) 0, get_or words (k * 2 + 1) 0)

-- so many edges from edge a on
unfoldable pub edges_in : Words → ℕ → ℕ → List (ℕ × ℕ)
edges_in words a zero = []
edges_in words a (suc n) = edge_at words a ∷ edges_in words (suc a) n

-- two words for each node: its first edge, the end of its edges
abbrev pub first_edge : Words → ℕ → ℕ
first_edge spans x = get_or spans (x * 2) 0

abbrev pub edges_end : Words → ℕ → ℕ
edges_end spans x = get_or spans (x * 2 + 1) 0

abbrev pub edges_of : Words → Words → ℕ → List (ℕ × ℕ)
edges_of spans words x = edges_in words (first_edge spans x) (edges_end spans x - first_edge spans x)

abbrev pub first_root : Words → ℕ → ℕ
first_root spans v = get_or spans (roots_start + v * 2) 0

abbrev pub roots_end : Words → ℕ → ℕ
roots_end spans v = get_or spans (roots_start + v * 2 + 1) 0

abbrev pub roots_of : Words → Words → ℕ → List (ℕ × ℕ)
roots_of spans words v = edges_in words (first_root spans v) (roots_end spans v - first_root spans v)

-- what a pass reads of node x
abbrev pub row_of_node : Words → Words → Words → ℕ → Row
row_of_node nodes spans words x = record {
  reduced = not (eqb (record_at nodes x).1.1 0);
  turned = (record_at nodes x).0;
  multiple = (record_at nodes x).1;
  edges = edges_of spans words x;
}

-- so many nodes from node a on, and their rows
unfoldable pub nodes_in : Words → ℕ → ℕ → List Monomial
nodes_in nodes a zero = []
nodes_in nodes a (suc n) = node_at nodes a ∷ nodes_in nodes (suc a) n

unfoldable pub rows_in : Words → Words → Words → ℕ → ℕ → List Row
rows_in nodes spans words a zero = []
rows_in nodes spans words a (suc n) = row_of_node nodes spans words a ∷ rows_in nodes spans words (suc a) n

-- ## While it grows

-- the edges are the products ps: each within the limit on exponents, and a node's, or left out where what is of lower order is
pub data LeadsAt (R : Reduction) (d : Bool) (node : ℕ → Monomial) (n : ℕ) : List (ℕ × ℕ) → Vector → Type 0 where
  at_end : LeadsAt R d node n [] []
  skips_at : {t : Term} {es : List (ℕ × ℕ)} {ps : Vector} → T (fits? R.limits.exponent t.1.0) → T (dropped? R d t.1) → LeadsAt R d node n es ps
      → LeadsAt R d node n es (t ∷ ps)
  leads_at : {t : Term} {es : List (ℕ × ℕ)} {ps : Vector} (k : ℕ) → k < n → node k ≡ t.1 → T (fits? R.limits.exponent t.1.0)
      → LeadsAt R d node n es ps → LeadsAt R d node n ((k, t.0) ∷ es) (t ∷ ps)

-- the record says the node's answer; nodes of lower order only where such are kept
abbrev pub Says : ℕ → Bool → Answer → Term → Type 0
Says p d lower_order t = (t.1.1 ≡ 0) × (d ≡ false)
Says p d (reducer j c q) t = t ≡ (minus p c, (q, j))

-- n nodes, of components 1 to count, with what is recorded
pub record Told (S : Stage) (d : Bool) (count n : ℕ) (nodes : Words) : Type 0 where
  pub components : (x : ℕ) → x < n → (1 ≤ (node_at nodes x).1) × ((node_at nodes x).1 ≤ count)
  pub answered : (x : ℕ) → x < n → Says S.reduction.p d (answer_at S (node_at nodes x)) (record_at nodes x)

-- edges a to b - 1 lead to the products of c·q and the terms of f, among n nodes
pub record ProductsAt (S : Stage) (d : Bool) (n a b : ℕ) (nodes words : Words) (c : ℕ) (q : Exponents) (f : Vector) : Type 0 where
  pub ordered : a ≤ b
  pub leads : LeadsAt S.reduction d (node_at nodes) n (edges_in words a (b - a)) (edges S.reduction.p c q f)

-- node x's edges are among the first `used` ones and lead to the other products of its reducer's multiple
pub record Expanded (S : Stage) (d : Bool) (n used : ℕ) (nodes spans words : Words) (x : ℕ) : Type 0 where
  pub ordered : first_edge spans x ≤ edges_end spans x
  pub inside : edges_end spans x ≤ used
  pub leads : LeadsAt S.reduction d (node_at nodes) n (edges_of spans words x) (products_of S (answer_at S (node_at nodes x)))

-- n nodes, of which the first `made` are expanded; `used` edges
pub record Growing (S : Stage) (d : Bool) (count n made used : ℕ) (nodes spans words : Words) : Type 0 where
  pub told : Told S d count n nodes
  pub expanded : (x : ℕ) → x < made → Expanded S d n used nodes spans words x

-- the frame term m, number v from 0
pub record Rooted (S : Stage) (d : Bool) (n used : ℕ) (nodes spans words : Words) (m : Monomial) (v : ℕ) : Type 0 where
  pub ordered : first_root spans v ≤ roots_end spans v
  pub inside : roots_end spans v ≤ used
  pub leads : LeadsAt S.reduction d (node_at nodes) n (roots_of spans words v) (edges S.reduction.p 1 m.0 (vector_of S.family m.1))

-- the frame term in row v
abbrev pub frame_term : Words → ℕ → Monomial
frame_term frame v = (row_at frame v).1

-- all nodes are expanded, and the frame terms from row i up to row e are in the table
pub record Gathered (S : Stage) (d : Bool) (count : ℕ) (frame : Words) (i e n used : ℕ) (nodes spans words : Words) : Type 0 where
  pub grown : Growing S d count n n used nodes spans words
  pub rooted : (v : ℕ) → i ≤ v → v < e → Rooted S d n used nodes spans words (frame_term frame v) v

-- ## What stays as it was

-- n nodes and `used` edges
pub record Same (n used : ℕ) (nodes words nodes' words' : Words) : Type 0 where
  pub nodes_same : (k : ℕ) → k < n * 2 → row_at nodes' k ≡ row_at nodes k
  pub edges_same : (k : ℕ) → k < used → edge_at words' k ≡ edge_at words k

-- the spans of n nodes and of the frame terms below v
pub record SameSpans (n v : ℕ) (spans spans' : Words) : Type 0 where
  pub firsts_same : (x : ℕ) → x < n → first_edge spans' x ≡ first_edge spans x
  pub ends_same : (x : ℕ) → x < n → edges_end spans' x ≡ edges_end spans x
  pub first_roots_same : (u : ℕ) → u < v → first_root spans' u ≡ first_root spans u
  pub roots_ends_same : (u : ℕ) → u < v → roots_end spans' u ≡ roots_end spans u
