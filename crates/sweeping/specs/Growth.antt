-- A table that grows: by an edge, by a row's product, by the rows of a multiple.
use Rattle.std.specs.Prelude.{◌≡◌, Option, Some, None, Bool, [], ◌∷◌, ◌++◌, ℕ, ◌+◌, ◌-◌, ◌*◌, ◌<◌, ◌≤◌, ◌≢◌, length, get_or}
use Rattle.definitions.specs.Monomial.{Exponents, Monomial, Term, Vector}
use Rattle.definitions.specs.Stage.{Stage}
use Rattle.definitions.specs.Layout.{Words}
use Rattle.definitions.specs.Places.{row_length, most_nodes, node_edges, slots_length}
use Rattle.sweeps.specs.Sweep.{answer_at}
use Rattle.sweeps.specs.Places.{products_of}
use Rattle.sweeping.specs.Nodes.{node_at, edge_at, edges_in, LeadsAt, Told, ProductsAt, Growing}

-- so many edges, where a table has room for so many nodes
abbrev pub most_edges : ℕ → ℕ
most_edges most = most * node_edges

-- n nodes and e edges, within the room of the slices
pub record Roomy (most n e : ℕ) (nodes words slots : Words) : Type 0 where
  pub few_nodes : n ≤ most
  pub most_few : most ≤ most_nodes
  pub few_edges : e ≤ most_edges most
  pub nodes_fit : most * 2 * row_length ≤ length nodes
  pub edges_fit : most_edges most * 2 ≤ length words
  pub slots_fit : slots_length ≤ length slots

-- how many there are now
abbrev pub Sized : ℕ → ℕ → ℕ → Option (ℕ × ℕ) → Type 0
Sized most n e (Some (n', e')) = (n ≤ n') × (n' ≤ most) × (e ≤ e') × (e' ≤ most_edges most)
Sized most n e None = Unit {0}

-- one edge more, with coefficient c, to the node m
pub record Led (S : Stage) (d : Bool) (count most n n' e e' : ℕ) (m : Monomial) (c : ℕ) (nodes words nodes' words' : Words) : Type 0 where
  pub told : Told S d count n' nodes'
  pub more : n ≤ n'
  pub few : n' ≤ most
  pub one : e' ≡ e + 1
  pub edges_few : e' ≤ most_edges most
  pub target : (edge_at words' e).0 < n'
  pub node_is : node_at nodes' (edge_at words' e).0 ≡ m
  pub coefficient_is : (edge_at words' e).1 ≡ c

abbrev pub LedAs : Stage → Bool → ℕ → ℕ → ℕ → ℕ → Monomial → ℕ → Option (ℕ × ℕ) → Words → Words → Words → Words → Type 0
LedAs S d count most n e m c (Some (n', e')) nodes words nodes' words' = Led S d count most n n' e e' m c nodes words nodes' words'
LedAs S d count most n e m c None nodes words nodes' words' = Unit {0}

-- the products of c·q and the terms f, which edges from a on lead to, and those of r
pub record Rowed (S : Stage) (d : Bool) (count most n n' e e' c : ℕ) (q : Exponents) (r : Term) (nodes words nodes' words' : Words) : Type 0 where
  pub told : Told S d count n' nodes'
  pub more : n ≤ n'
  pub few : n' ≤ most
  pub edges_more : e ≤ e'
  pub edges_few : e' ≤ most_edges most
  pub products : (a : ℕ) (f : Vector) → a ≤ e → ProductsAt S d n a e nodes words c q f → ProductsAt S d n' a e' nodes' words' c q (f ++ r ∷ [])

abbrev pub RowedAs : Stage → Bool → ℕ → ℕ → ℕ → ℕ → ℕ → Exponents → Term → Option (ℕ × ℕ) → Words → Words → Words → Words → Type 0
RowedAs S d count most n e c q r (Some (n', e')) nodes words nodes' words' = Rowed S d count most n n' e e' c q r nodes words nodes' words'
RowedAs S d count most n e c q r None nodes words nodes' words' = Unit {0}

-- the products of c·q and the terms f, by edges from e up to e'
pub record SpannedBy (S : Stage) (d : Bool) (count most n n' e e' c : ℕ) (q : Exponents) (f : Vector) (nodes' words' : Words) : Type 0 where
  pub told : Told S d count n' nodes'
  pub more : n ≤ n'
  pub few : n' ≤ most
  pub edges_more : e ≤ e'
  pub edges_few : e' ≤ most_edges most
  pub products : ProductsAt S d n' e e' nodes' words' c q f

abbrev pub SpannedAs : Stage → Bool → ℕ → ℕ → ℕ → ℕ → ℕ → Exponents → Vector → Option (ℕ × ℕ) → Words → Words → Type 0
SpannedAs S d count most n e c q f (Some (n', e')) nodes' words' = SpannedBy S d count most n n' e e' c q f nodes' words'
SpannedAs S d count most n e c q f None nodes' words' = Unit {0}

-- the node m is expanded: edges from e up to e' lead to the other products of its reducer's multiple
pub record Noded (S : Stage) (d : Bool) (count n' e e' : ℕ) (m : Monomial) (nodes' words' : Words) : Type 0 where
  pub told : Told S d count n' nodes'
  pub leads : LeadsAt S.reduction d (node_at nodes') n' (edges_in words' e (e' - e)) (products_of S (answer_at S m))

abbrev pub NodedAs : Stage → Bool → ℕ → ℕ → Monomial → Option (ℕ × ℕ) → Words → Words → Type 0
NodedAs S d count e m (Some (n', e')) nodes' words' = Noded S d count n' e e' m nodes' words'
NodedAs S d count e m None nodes' words' = Unit {0}

-- two words of a span
pub record SpanPut (at a b : ℕ) (spans spans' : Words) : Type 0 where
  pub first_is : get_or spans' at 0 ≡ a
  pub end_is : get_or spans' (at + 1) 0 ≡ b
  pub others : (k : ℕ) → k ≢ at → k ≢ at + 1 → get_or spans' k 0 ≡ get_or spans k 0

-- all nodes are expanded
abbrev pub AllGrownAs : Stage → Bool → ℕ → Option (ℕ × ℕ) → Words → Words → Words → Type 0
AllGrownAs S d count (Some (n, e)) nodes spans words = Growing S d count n n e nodes spans words
AllGrownAs S d count None nodes spans words = Unit {0}
