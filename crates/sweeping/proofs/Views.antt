-- Laws of the views: lists of nodes, rows and edges by their members.
use mathlib.Core.Path.{◌≡◌, refl, ap, ◌∙◌}
use mathlib.Core.List.{[], ◌∷◌, ◌++◌}
use Prim.Native.Nat.{ℕ, zero, suc, ◌+◌, ◌<◌, ◌≤◌}
use native.Mathlib.Omega.{arith}
use lib.ListN.{length, get_or}
use Rattle.definitions.specs.Monomial.{no_term}
use Rattle.definitions.specs.Layout.{Words}
use Rattle.sweeps.specs.Places.{no_row}
use Rattle.sweeping.specs.Nodes.{node_at, edge_at, edges_in, row_of_node, nodes_in, rows_in}
use Rattle.sweeping.specs.Orders.{rows_by}

-- ## Nodes

pub nodes_length : (nodes : Words) (a n : ℕ) → length (nodes_in nodes a n) ≡ n
unfolding nodes_in
nodes_length nodes a zero = refl
nodes_length nodes a (suc n) = ap suc (nodes_length nodes (suc a) n)

pub nodes_get : (nodes : Words) (a n k : ℕ) → k < n → get_or (nodes_in nodes a n) k no_term.1 ≡ node_at nodes (a + k)
unfolding nodes_in
nodes_get nodes a zero k h = absurd (omega arith)
nodes_get nodes a (suc n) zero h = let e : a ≡ a + 0 = omega arith in ap (node_at nodes) e
nodes_get nodes a (suc n) (suc k) h =
    let e : suc a + k ≡ a + suc k = omega arith in nodes_get nodes (suc a) n k (omega arith) ∙ ap (node_at nodes) e

-- ## Rows

pub rows_length : (nodes spans words : Words) (a n : ℕ) → length (rows_in nodes spans words a n) ≡ n
unfolding rows_in
rows_length nodes spans words a zero = refl
rows_length nodes spans words a (suc n) = ap suc (rows_length nodes spans words (suc a) n)

pub rows_get : (nodes spans words : Words) (a n k : ℕ) → k < n → get_or (rows_in nodes spans words a n) k no_row ≡ row_of_node nodes spans words (a + k)
unfolding rows_in
rows_get nodes spans words a zero k h = absurd (omega arith)
rows_get nodes spans words a (suc n) zero h = let e : a ≡ a + 0 = omega arith in ap (row_of_node nodes spans words) e
rows_get nodes spans words a (suc n) (suc k) h =
    let e : suc a + k ≡ a + suc k = omega arith in rows_get nodes spans words (suc a) n k (omega arith) ∙ ap (row_of_node nodes spans words) e

-- those that a pass reads: the first, and the others
pub by_none : (nodes spans words order : Words) (a : ℕ) → rows_by nodes spans words order a 0 ≡ []
unfolding rows_by
by_none nodes spans words order a = refl

pub by_first : (nodes spans words order : Words) (a n : ℕ)
    → rows_by nodes spans words order a (suc n) ≡ row_of_node nodes spans words (get_or order a 0) ∷ rows_by nodes spans words order (suc a) n
unfolding rows_by
by_first nodes spans words order a n = refl

-- ## Edges

pub edges_none : (words : Words) (a : ℕ) → edges_in words a 0 ≡ []
unfolding edges_in
edges_none words a = refl

pub edges_first : (words : Words) (a n : ℕ) → edges_in words a (suc n) ≡ edge_at words a ∷ edges_in words (suc a) n
unfolding edges_in
edges_first words a n = refl

pub edges_last : (words : Words) (a n : ℕ) → edges_in words a (suc n) ≡ edges_in words a n ++ edge_at words (a + n) ∷ []
unfolding edges_in
edges_last words a zero = let e : a ≡ a + 0 = omega arith in ap (λ k. edge_at words k ∷ []) e
edges_last words a (suc n) =
    let e : suc a + n ≡ a + suc n = omega arith in
    ap (λ es. edge_at words a ∷ es) (edges_last words (suc a) n ∙ ap (λ k. edges_in words (suc a) n ++ edge_at words k ∷ []) e)

-- other words with the same edges
pub edges_alike : (words words' : Words) (a n : ℕ) → ((k : ℕ) → a ≤ k → k < a + n → edge_at words' k ≡ edge_at words k) → edges_in words' a n
    ≡ edges_in words a n
unfolding edges_in
edges_alike words words' a zero h = refl
edges_alike words words' a (suc n) h =
    let first : edge_at words' a ≡ edge_at words a = h a (omega arith) (omega arith) in
    let later = edges_alike words words' (suc a) n (λ k l u. h k (omega arith) (omega arith)) in
    λ i. first i ∷ later i
