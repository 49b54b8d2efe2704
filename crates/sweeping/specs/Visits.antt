-- A pass place by place: what the slices must be, and what one place does.
use Rattle.std.specs.Prelude.{◌≡◌, Bool, not, ◌||◌, [], ◌∷◌, ◌++◌, ℕ, ◌+◌, ◌*◌, ◌<◌, ◌≤◌, eqb, length, get_or}
use Rattle.definitions.specs.Monomial.{Term, Vector}
use Rattle.definitions.specs.Lists.{choose}
use Rattle.definitions.specs.Layout.{Words, rows}
use Rattle.definitions.specs.Places.{row_length, most_nodes}
use Rattle.sweeps.specs.Places.{Row, spread_at, moved, noted}
use Rattle.sweeping.specs.Nodes.{roots_of}
use Rattle.sweeping.specs.Passes.{Zeros, Passable}
use Rattle.sweeping.specs.Sums.{Holds, Spends}

-- the edges of one node are fewer
abbrev pub most_degree : ℕ
most_degree = 65_536

-- n nodes are there, in order, and a sum for each
pub record Ready (n : ℕ) (sums nodes spans words order : Words) : Type 0 where
  pub sums_fit : n ≤ length sums
  pub order_fits : n ≤ length order
  pub nodes_fit : n * 2 * row_length ≤ length nodes
  pub spans_fit : n * 2 ≤ length spans
  pub passable : Passable n spans words order

-- a term at the end of k rows, where it has a component
abbrev pub Noted : ℕ → Term → ℕ → Bool → Words → Words → Type 0
Noted k t k' settled vector vector' =
    (rows vector' 0 k' ≡ choose (eqb t.1.1 0) (rows vector 0 k) (rows vector 0 k ++ t ∷ [])) × (settled ≡ not (eqb t.1.1 0)) × (k' ≤ k + 1)

-- a place with row r and the sum c modulo p: the vector has k rows before and k' after
pub record Visited (p : ℕ) (r : Row) (c k k' : ℕ) (settled : Bool) (vector vector' sums sums' : Words) : Type 0 where
  pub noted_is : (v : Vector) → rows vector 0 k ++ noted p r c v ≡ rows vector' 0 k' ++ v
  pub moved_is : sums' ≡ moved r c sums
  pub settled_is : settled ≡ (r.reduced || eqb c 0)
  pub few : k' ≤ k + 1
  pub spends : Spends most_degree sums sums'

-- the places from a up to b have the sum zero
pub record Skips (a b : ℕ) (sums : Words) : Type 0 where
  pub onward : a ≤ b
  pub zeros : (i : ℕ) → a ≤ i → i < b → get_or sums i 0 ≡ 0

-- the sums that the frame term's own edges give: from zeros
pub record Started (spans words : Words) (v : ℕ) (sums sums' : Words) : Type 0 where
  pub zeros : Words
  pub all_zero : Zeros (length sums) zeros
  pub sums_is : sums' ≡ spread_at 1 (roots_of spans words v) zeros
  pub room : Holds (most_nodes * most_degree) sums'
