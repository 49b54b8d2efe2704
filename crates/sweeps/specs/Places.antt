-- The pass as a program makes it: nodes by their places, an edge a place and a coefficient, one list of sums that are not reduced.
use Rattle.std.specs.Prelude.{◌≡◌, Bool, true, false, ◌||◌, List, [], ◌∷◌, ℕ, suc, ◌+◌, ◌*◌, ◌%◌, ◌<◌, T, eqb, ltb, length, get_or, set}
use Rattle.definitions.specs.Lists.{◌and◌, every, rest, choose}
use Rattle.definitions.specs.Field.{times, minus}
use Rattle.definitions.specs.Monomial.{Monomial, Term, Vector, fits?, no_term, vector_of}
use Rattle.definitions.specs.Reducer.{Answer, reducer, lower_order}
use Rattle.definitions.specs.Stage.{Reduction, Stage}
use Rattle.definitions.specs.Run.{dropped?}
use Rattle.sweeps.specs.Sweep.{edges, answer_at}

-- what is kept of a node
pub record Row : Type 0 where
  -- it has a reducer f_j
  pub reduced : Bool
  -- −1/LC f_j
  pub turned : ℕ
  -- q·e_j, q·f_j leading with the node
  pub multiple : Monomial
  -- the places of later nodes, and coefficients
  pub edges : List (ℕ × ℕ)

-- ## One pass

abbrev pub add_at : ℕ → ℕ → List ℕ → List ℕ
add_at i c ss = set ss i (get_or ss i 0 + c)

abbrev pub spread_at : ℕ → List (ℕ × ℕ) → List ℕ → List ℕ
spread_at c [] ss = ss
spread_at c (e ∷ es) ss = spread_at c es (add_at e.0 (c * e.1) ss)

-- c is the node's sum modulo p
abbrev pub moved : Row → ℕ → List ℕ → List ℕ
moved r c ss = choose (eqb c 0) ss (spread_at c r.edges ss)

abbrev pub noted : ℕ → Row → ℕ → Vector → Vector
noted p r c v = choose r.reduced (choose (eqb c 0) v ((times p c r.turned, r.multiple) ∷ v)) v

-- the rows from place x on
abbrev pub places : ℕ → ℕ → List Row → List ℕ → Vector
places p x [] ss = []
places p x (r ∷ rs) ss = noted p r (get_or ss x 0 % p) (places p (suc x) rs (moved r (get_or ss x 0 % p) ss))

-- each sum of lower order is zero
abbrev pub settled? : ℕ → ℕ → List Row → List ℕ → Bool
settled? p x [] ss = true
settled? p x (r ∷ rs) ss = (r.reduced || eqb (get_or ss x 0 % p) 0) and settled? p (suc x) rs (moved r (get_or ss x 0 % p) ss)

-- ## What the table must say

-- the edges are the products ps, each within the limit, those apart that are dropped; M are the nodes from place o on
pub data Leads (R : Reduction) (d : Bool) (o : ℕ) (M : List Monomial) : List (ℕ × ℕ) → Vector → Type 0 where
  no_more : Leads R d o M [] []
  skips : {t : Term} {es : List (ℕ × ℕ)} {ps : Vector} → T (fits? R.limits.exponent t.1.0) → T (dropped? R d t.1) → Leads R d o M es ps
      → Leads R d o M es (t ∷ ps)
  leads : {t : Term} {es : List (ℕ × ℕ)} {ps : Vector} (i : ℕ) → i < length M → get_or M i no_term.1 ≡ t.1 → T (fits? R.limits.exponent t.1.0)
      → Leads R d o M es ps → Leads R d o M ((i + o, t.0) ∷ es) (t ∷ ps)

-- a node with this answer, later nodes from place o on; nodes of lower order only where such are kept
abbrev pub RowRight : Stage → Bool → ℕ → List Monomial → Answer → Row → Type 0
RowRight S d o M lower_order r = (r.reduced ≡ false) × (r.edges ≡ []) × (d ≡ false)
RowRight S d o M (reducer j i q) r =
    (r.reduced ≡ true) × (r.turned ≡ minus S.reduction.p i) × (r.multiple ≡ (q, j)) ×
    Leads S.reduction d o M r.edges (edges S.reduction.p (minus S.reduction.p i) q (rest (vector_of S.family j)))

-- a row for each node, the first at place o
abbrev pub RowsRight : Stage → Bool → ℕ → List Monomial → List Row → Type 0
RowsRight S d o [] [] = Unit {0}
RowsRight S d o [] (r ∷ rs) = ⊥
RowsRight S d o (x ∷ M) [] = ⊥
RowsRight S d o (x ∷ M) (r ∷ rs) = RowRight S d (suc o) M (answer_at S x) r × RowsRight S d (suc o) M rs

-- the frame term's own products
abbrev pub RootsRight : Stage → Bool → List Monomial → Monomial → List (ℕ × ℕ) → Type 0
RootsRight S d N m es = Leads S.reduction d 0 N es (edges S.reduction.p 1 m.0 (vector_of S.family m.1))

-- ## Before the order is known

-- .. the edges lead to nodes at any places
pub data LeadsIn (R : Reduction) (d : Bool) (N : List Monomial) : List (ℕ × ℕ) → Vector → Type 0 where
  no_more_in : LeadsIn R d N [] []
  skips_in : {t : Term} {es : List (ℕ × ℕ)} {ps : Vector} → T (fits? R.limits.exponent t.1.0) → T (dropped? R d t.1) → LeadsIn R d N es ps
      → LeadsIn R d N es (t ∷ ps)
  leads_in : {t : Term} {es : List (ℕ × ℕ)} {ps : Vector} (k : ℕ) → k < length N → get_or N k no_term.1 ≡ t.1 → T (fits? R.limits.exponent t.1.0)
      → LeadsIn R d N es ps → LeadsIn R d N ((k, t.0) ∷ es) (t ∷ ps)

-- the other products of the reducer's multiple, sign turned
abbrev pub products_of : Stage → Answer → Vector
products_of S lower_order = []
products_of S (reducer j i q) = edges S.reduction.p (minus S.reduction.p i) q (rest (vector_of S.family j))

abbrev pub RowIn : Stage → Bool → List Monomial → Answer → Row → Type 0
RowIn S d N lower_order r = (r.reduced ≡ false) × (r.edges ≡ []) × (d ≡ false)
RowIn S d N (reducer j i q) r =
    (r.reduced ≡ true) × (r.turned ≡ minus S.reduction.p i) × (r.multiple ≡ (q, j)) × LeadsIn S.reduction d N r.edges (products_of S (reducer j
    i q))

-- a row for each of the nodes M, edges to the nodes N
abbrev pub RowsIn : Stage → Bool → List Monomial → List Monomial → List Row → Type 0
RowsIn S d N [] [] = Unit {0}
RowsIn S d N [] (r ∷ rs) = ⊥
RowsIn S d N (x ∷ M) [] = ⊥
RowsIn S d N (x ∷ M) (r ∷ rs) = RowIn S d N (answer_at S x) r × RowsIn S d N M rs

abbrev pub RootsIn : Stage → Bool → List Monomial → Monomial → List (ℕ × ℕ) → Type 0
RootsIn S d N m es = LeadsIn S.reduction d N es (edges S.reduction.p 1 m.0 (vector_of S.family m.1))

-- ## The nodes in order

-- the members of l at the places ks
abbrev pub picked : {A : Type 0} → A → List ℕ → List A → List A
picked e [] l = []
picked e (k ∷ ks) l = get_or l k e ∷ picked e ks l

-- edges to the nodes' new places
abbrev pub renumbered : List ℕ → List (ℕ × ℕ) → List (ℕ × ℕ)
renumbered place [] = []
renumbered place (e ∷ es) = (get_or place e.0 0, e.1) ∷ renumbered place es

abbrev pub renumbered_row : List ℕ → Row → Row
renumbered_row place r = record { reduced = r.reduced; turned = r.turned; multiple = r.multiple; edges = renumbered place r.edges }

abbrev pub renumbered_rows : List ℕ → List Row → List Row
renumbered_rows place [] = []
renumbered_rows place (r ∷ rs) = renumbered_row place r ∷ renumbered_rows place rs

abbrev pub no_row : Row
no_row = record { reduced = false; turned = 0; multiple = no_term.1; edges = [] }

abbrev pub ordered_nodes : List ℕ → List Monomial → List Monomial
ordered_nodes order U = picked no_term.1 order U

abbrev pub ordered_rows : List ℕ → List ℕ → List Row → List Row
ordered_rows order place rs = renumbered_rows place (picked no_row order rs)

-- node i, i + 1, .. stands in order at the place that is said
abbrev pub finds? : List ℕ → ℕ → List ℕ → Bool
finds? order i [] = true
finds? order i (k ∷ place) = (ltb k (length order) and eqb (get_or order k 0) i) and finds? order (suc i) place

-- order has the numbers of all n nodes, and place says where
abbrev pub inverse? : ℕ → List ℕ → List ℕ → Bool
inverse? n order place = eqb (length order) n and eqb (length place) n and every (λ k. ltb k n) order and finds? order 0 place
