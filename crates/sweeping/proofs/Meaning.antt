-- What the words of a table mean to the theorem: over sound levels every frame term of a batch is served.
use mathlib.Core.Path.{◌≡◌, refl, sym, ap, ◌∙◌, subst}
use mathlib.Core.Bool.{Bool, true, false, not}
use mathlib.Core.List.{List, [], ◌∷◌}
use Prim.Native.Nat.{ℕ, zero, suc, ◌+◌, ◌-◌, ◌*◌, ◌<◌, ◌≤◌}
use native.Mathlib.Omega.{arith}
use borrow.Author.Tests.{ne_eqb}
use lib.Dec.{T, leb, ltb, eqb, le→leb, ltb→lt, eqb_refl}
use lib.ListN.{length, get_or, take, drop}
use lib.Seq.{get_or-take, length-take-le}
use Rattle.definitions.specs.Places.{most_exponent}
use Rattle.definitions.specs.Limits.{Limits}
use Rattle.definitions.specs.Lists.{◌and◌, every, between}
use Rattle.definitions.specs.Field.{times}
use Rattle.definitions.specs.Monomial.{Monomial, Term, Vector, Level, fits?, no_term, leading_monomials, quotient, divides_monomial?}
use Rattle.definitions.specs.Frame.{frame}
use Rattle.definitions.specs.Reducer.{Answer, reducer, lower_order, answer_from}
use Rattle.definitions.specs.Problem.{Parameters}
use Rattle.definitions.specs.Result.{Result, done, refused, unfinished, finished?}
use Rattle.definitions.specs.Stage.{Reduction, Stage, stage_over}
use Rattle.definitions.specs.Run.{run, accepting_strategy}
use Rattle.definitions.specs.Layout.{Words}
use Rattle.laws.proofs.Tests.{and_left, and_right, and_both, every_at}
use Rattle.laws.proofs.Rows.{row_is}
use Rattle.laws.proofs.Packing.{Eight, unpack_eight}
use Rattle.demands.specs.Notions.{Member}
use Rattle.sweeps.specs.Sizes.{eight_variables}
use Rattle.sweeps.specs.Sweep.{answer_at, placed?, components}
use Rattle.sweeps.specs.Places.{Row, spread_at, places, settled?, LeadsIn, no_more_in, skips_in, leads_in, products_of, RowIn, RowsIn, RootsIn}
use Rattle.sweeps.specs.Places.{no_row, picked, renumbered, renumbered_row, renumbered_rows, ordered_nodes, ordered_rows, inverse?}
use Rattle.sweeps.specs.Claims.{Discovered, Built, passed_vector, passed_settled?, Flagged, Passed}
use Rattle.sweeps.proofs.Footing.{Footing}
use Rattle.sweeps.proofs.Renumbered.{Inverse, inverse_says, built, rooted, discovered_passed}
use Rattle.sweeps.proofs.Clearing.{Targets, AllTargets, rows_targets, leads_targets, Agree, spread_agree, places_agree, zeros_get, zeros_length}
use Rattle.sweeps.specs.Sweep.{zeros}
use Rattle.sweeping.specs.Nodes.{
  node_at,
  record_at,
  edge_at,
  edges_in,
  first_edge,
  edges_end,
  edges_of,
  first_root,
  roots_end,
  roots_of,
  row_of_node,
  nodes_in,
}
use Rattle.sweeping.specs.Nodes.{rows_in, LeadsAt, at_end, skips_at, leads_at, Says, Growing, Rooted}
use Rattle.sweeping.specs.Orders.{Renumbered, Arranged, rows_by}
use Rattle.sweeping.specs.Passes.{Onward, Passable, Passes}
use Rattle.sweeping.specs.Served.{Served}
use Rattle.sweeping.proofs.Views.{nodes_length, nodes_get, rows_get, edges_first, by_first, by_none}

-- ## Every node has eight exponents of a byte

node_eight : (nodes : Words) (x : ℕ) → Eight (node_at nodes x).0
node_eight nodes x = subst Eight (sym (ap (λ (t : Term). t.1.0) (row_is nodes (x * 2)))) (unpack_eight _)

-- ## A reducer's number is 1 or more

abbrev From : ℕ → Answer → Type 0
From j lower_order = Unit {0}
From j (reducer i c q) = j ≤ i

from_later : (j : ℕ) (a : Answer) → From (suc j) a → From j a
from_later j lower_order h = tt
from_later j (reducer i c q) h = omega (arith, h)

answer_later : (p j : ℕ) (hs : Vector) (t : Term) → From j (answer_from p j hs t)
answer_later p j [] t = tt
answer_later p j (h ∷ hs) t = go (divides_monomial? h.1 t.1) (answer_later p (suc j) hs t)
  where
    go : (b : Bool) → From (suc j) (answer_from p (suc j) hs t)
        → From j (elim b [ true ↦ reducer j (times p t.0 h.0) (quotient t.1.0 h.1.0) | false ↦ answer_from p (suc j) hs t ])
    go true k = omega arith
    go false k = from_later j (answer_from p (suc j) hs t) k

-- ## Rows

leads_list : {R : Reduction} {d : Bool} (nodes : Words) (n : ℕ) {es : List (ℕ × ℕ)} {ps : Vector} → LeadsAt R d (node_at nodes) n es ps
    → LeadsIn R d (nodes_in nodes 0 n) es ps
leads_list nodes n at_end = no_more_in
leads_list nodes n (skips_at f k r) = skips_in f k (leads_list nodes n r)
leads_list nodes n (leads_at {t} k b e f r) =
    let z : 0 + k ≡ k = omega arith in
    leads_in k (omega (arith, b, nodes_length nodes 0 n)) (nodes_get nodes 0 n k b ∙ ap (node_at nodes) z ∙ e) f (leads_list nodes n r)

module _ (S : Stage) (d : Bool) (count n used : ℕ) (nodes spans words : Words) (g : Growing S d count n n used nodes spans words) where
  no_edges : {R : Reduction} {N : List Monomial} {es : List (ℕ × ℕ)} → LeadsIn R d N es [] → es ≡ []
  no_edges no_more_in = refl

  said : (x : ℕ) (a : Answer) → From 1 a → Says S.reduction.p d a (record_at nodes x)
      → LeadsIn S.reduction d (nodes_in nodes 0 n) (edges_of spans words x) (products_of S a)
      → RowIn S d (nodes_in nodes 0 n) a (row_of_node nodes spans words x)
  said x lower_order k h l = (ap (λ j. not (eqb j 0)) h.0, no_edges l, h.1)
  said x (reducer j c q) k h l =
      let e : (record_at nodes x).1.1 ≡ j = ap (λ (t : Term). t.1.1) h in
      (ap (λ i. not (eqb i 0)) e ∙ positive j k, ap (λ (t : Term). t.0) h, ap (λ (t : Term). t.1) h, l)
    where
      positive : (j : ℕ) → 1 ≤ j → not (eqb j 0) ≡ true
      positive zero b = absurd (omega (arith, b))
      positive (suc j) b = ap not (ne_eqb (suc j) 0 (λ e. omega (arith, e)))

  row_right : (x : ℕ) → x < n → RowIn S d (nodes_in nodes 0 n) (answer_at S (node_at nodes x)) (row_of_node nodes spans words x)
  row_right x l =
      said x (answer_at S (node_at nodes x)) (answer_later S.reduction.p 1 S.reduction.heads (1, node_at nodes x)) (g.told.answered x l)
      (leads_list nodes n (g.expanded x l).leads)

  rows_from : (a c : ℕ) → a + c ≤ n → RowsIn S d (nodes_in nodes 0 n) (nodes_in nodes a c) (rows_in nodes spans words a c)
  unfolding nodes_in rows_in
  rows_from a zero l = tt
  rows_from a (suc c) l = (row_right a (omega arith), rows_from (suc a) c (omega arith))

  -- a node's edges lead to nodes
  node_targets : (x : ℕ) → x < n → Targets n (edges_of spans words x)
  node_targets x l = subst (λ k. Targets k (edges_of spans words x)) (nodes_length nodes 0 n) (leads_targets (leads_list nodes n (g.expanded x l).leads))

-- ## Every member of a list

every_in : (f : Monomial → Bool) (nodes : Words) (a c : ℕ) → ((x : ℕ) → a ≤ x → x < a + c → T (f (node_at nodes x))) → T (every f (nodes_in nodes a c))
unfolding nodes_in
every_in f nodes a zero h = tt
every_in f nodes a (suc c) h =
    and_both (f (node_at nodes a)) (every f (nodes_in nodes (suc a) c)) (h a (omega arith) (omega arith))
    (every_in f nodes (suc a) c (λ x l u. h x (omega arith) (omega arith)))

targets_at : (n : ℕ) (words : Words) (a c : ℕ) → Targets n (edges_in words a c) → (k : ℕ) → a ≤ k → k < a + c → (edge_at words k).0 < n
targets_at n words a zero t k l u = absurd (omega arith)
targets_at n words a (suc c) t k l u = go (k - a) refl (subst (Targets n) (edges_first words a c) t) (λ s h. targets_at n words (suc a) c s k h (omega arith))
  where
    go : (i : ℕ) → k - a ≡ i → Targets n (edge_at words a ∷ edges_in words (suc a) c)
        → (Targets n (edges_in words (suc a) c) → suc a ≤ k → (edge_at words k).0 < n) → (edge_at words k).0 < n
    go zero e s later = let z : a ≡ k = omega (arith, e, l) in subst (λ j. (edge_at words j).0 < n) z s.0
    go (suc i) e s later = later s.1 (omega (arith, e))

-- ## In order

module _ (nodes spans words words' order : Words) (n used : ℕ) (place : List ℕ) (R : Renumbered place used words words') where
  edges_renumbered : (a c : ℕ) → a + c ≤ used → edges_in words' a c ≡ renumbered place (edges_in words a c)
  unfolding edges_in
  edges_renumbered a zero l = refl
  edges_renumbered a (suc c) l =
      let t = R.targets a (omega arith) in
      let k = R.coefficients a (omega arith) in
      let later = edges_renumbered (suc a) c (omega arith) in
      λ i. (t i, k i) ∷ later i

  span_renumbered : (a b : ℕ) → a ≤ b → b ≤ used → edges_in words' a (b - a) ≡ renumbered place (edges_in words a (b - a))
  span_renumbered a b l h = edges_renumbered a (b - a) (omega (arith, l, h))

  row_renumbered : (x : ℕ) → first_edge spans x ≤ edges_end spans x → edges_end spans x ≤ used
      → row_of_node nodes spans words' x ≡ renumbered_row place (row_of_node nodes spans words x)
  row_renumbered x l h =
      let e = span_renumbered (first_edge spans x) (edges_end spans x) l h in
      λ i. record { reduced = not (eqb (record_at nodes x).1.1 0); turned = (record_at nodes x).0; multiple = (record_at nodes x).1; edges = e i }

  module _ (inside : (x : ℕ) → x < n → (first_edge spans x ≤ edges_end spans x) × (edges_end spans x ≤ used)) where
    -- the rows at the places from a on, ks being the nodes there
    by_places : (a : ℕ) (ks : List ℕ) → ((i : ℕ) → i < length ks → get_or ks i 0 ≡ get_or order (a + i) 0) → T (every (λ k. ltb k n) ks)
        → rows_by nodes spans words' order a (length ks) ≡ renumbered_rows place (picked no_row ks (rows_in nodes spans words 0 n))
    by_places a [] h t = by_none nodes spans words' order a
    by_places a (k ∷ ks) h t =
        let l : k < n = ltb→lt k n (and_left (ltb k n) (every (λ k. ltb k n) ks) t) in
        let z : a + 0 ≡ a = omega arith in
        let y : 0 + k ≡ k = omega arith in
        let e : get_or order a 0 ≡ k = sym (h 0 (omega arith) ∙ ap (λ i. get_or order i 0) z) in
        let first : row_of_node nodes spans words' (get_or order a 0) ≡ renumbered_row place (get_or (rows_in nodes spans words 0 n) k no_row) =
        ap (row_of_node nodes spans words') e ∙ row_renumbered k (inside k l).0 (inside k l).1
        ∙ ap (renumbered_row place) (sym (rows_get nodes spans words 0 n k l ∙ ap (row_of_node nodes spans words) y)) in
        let later = by_places (suc a) ks (λ i u. let y : a + suc i ≡ suc a + i = omega arith in h (suc i) (omega arith) ∙ ap (λ j. get_or order j 0) y)
        (and_right (ltb k n) (every (λ k. ltb k n) ks) t) in
        by_first nodes spans words' order a (length ks) ∙ (λ i. first i ∷ later i)

-- ## Over sound levels

eq_test : (a b : ℕ) → a ≡ b → T (eqb a b)
eq_test a b e = subst (λ z. T (eqb a z)) e (eqb_refl a)

none_past : (f : ℕ → Bool) (n : ℕ) (e : List ℕ) → length e ≡ n → T (every f (drop n e))
none_past f zero [] h = tt
none_past f zero (x ∷ e) h = absurd (omega arith)
none_past f (suc n) [] h = tt
none_past f (suc n) (x ∷ e) h = none_past f n e (omega arith)

module _ (lim : Limits) (q₀ : Parameters) (f : Level) (below : List Level) (s : Footing lim (eight_variables q₀) (f ∷ below)) (bytes : lim.exponent
    ≡ most_exponent)
    (d : Bool) (n used : ℕ) (few : n ≤ lim.working) (short : suc n ≤ lim.vector) (nodes spans words order words' : Words) where
  abbrev q : Parameters
  q = eight_variables q₀

  abbrev K : Stage
  K = stage_over lim q₀.p q₀.code (f ∷ below)

  abbrev U : List Monomial
  U = nodes_in nodes 0 n

  abbrev rs : List Row
  rs = rows_in nodes spans words 0 n

  module _ (g : Growing K d (components q below) n n used nodes spans words) (A : Arranged K.below n used nodes words order words') (long : n ≤ length
      order) where
    placed : (x : ℕ) → x < n → T (placed? q (components q below) (node_at nodes x))
    placed x l =
        let m = node_at nodes x in
        let e = node_eight nodes x in
        let c = components q below in
        let past = every (λ x. eqb x 0) (drop 8 m.0) in
        and_both (eqb (length m.0) 8) (past and between 1 m.1 c) (eq_test (length m.0) 8 e.eight)
        (and_both past (between 1 m.1 c) (none_past (λ x. eqb x 0) 8 m.0 e.eight)
        (and_both (leb 1 m.1) (leb m.1 c) (le→leb 1 m.1 (g.told.components x l).0) (le→leb m.1 c (g.told.components x l).1)))

    found : Discovered lim q (f ∷ below) d U rs
    found = record {
      few = subst (λ k. T (leb k lim.working and leb (suc k) lim.vector)) (sym (nodes_length nodes 0 n))
          (and_both (leb n lim.working) (leb (suc n) lim.vector) (le→leb n lim.working few) (le→leb (suc n) lim.vector short));
      fit = every_in (λ x. fits? lim.exponent x.0) nodes 0 n (λ x l u. subst (λ b. T (fits? b (node_at nodes x).0)) (sym bytes) (node_eight nodes x
          ).small);
      placed = every_in (placed? q (components q below)) nodes 0 n (λ x l u. placed x (omega (arith, u)));
      rows = rows_from K d (components q below) n used nodes spans words g 0 n (omega arith);
    }

    abbrev ks : List ℕ
    ks = take n order

    ks_long : length ks ≡ n
    ks_long = length-take-le n order long

    inverse : T (inverse? (length U) ks A.place)
    inverse = subst (λ k. T (inverse? k ks A.place)) (sym (nodes_length nodes 0 n)) A.inverse

    I : Inverse n ks A.place
    I = inverse_says n ks A.place A.inverse

    spans_inside : (x : ℕ) → x < n → (first_edge spans x ≤ edges_end spans x) × (edges_end spans x ≤ used)
    spans_inside x l = ((g.expanded x l).ordered, (g.expanded x l).inside)

    -- what a pass reads is the theorem's rows in order
    rows_are : rows_by nodes spans words' order 0 n ≡ ordered_rows ks A.place rs
    rows_are =
        ap (rows_by nodes spans words' order 0) (sym ks_long)
        ∙ by_places nodes spans words words' order n used A.place A.renumbers spans_inside 0 ks
        (λ i l. let z : i ≡ 0 + i = omega arith in get_or-take n order i 0 (omega (arith, l, ks_long)) ∙ ap (λ j. get_or order j 0) z) I.ranged

    roots_are : (v : ℕ) → first_root spans v ≤ roots_end spans v → roots_end spans v ≤ used → roots_of spans words' v
        ≡ renumbered A.place (roots_of spans words v)
    roots_are v l h = span_renumbered nodes spans words words' order n used A.place A.renumbers (first_root spans v) (roots_end spans v) l h

    -- ## What a pass asks for

    moved_target : (k : ℕ) → k < used → (edge_at words k).0 < n → (edge_at words' k).0 < n
    moved_target k l h =
        let z = (I.stands (edge_at words k).0 h).inside in
        omega (arith, A.renumbers.targets k l, z, ks_long)

    leading : (a b : ℕ) → a ≤ b → b ≤ used → used * 2 ≤ length words' → Targets n (edges_in words a (b - a)) → Onward 0 n a b words'
    leading a b l h room t = record {
      ordered = l;
      inside = omega (arith, h, room);
      targets = λ k i j. (omega arith, moved_target k (omega (arith, j, h)) (targets_at n words a (b - a) t k i (omega (arith, l, i, j))));
    }

    pub passable : used * 2 ≤ length words' → Passable n spans words' order
    passable room = record {
      nodes_there = λ x l.
          let e = get_or-take n order x 0 l in
          let h = ltb→lt (get_or ks x 0) n (every_at (λ k. ltb k n) ks x 0 I.ranged (omega (arith, l, ks_long))) in
          omega (arith, e, h);
      onward = λ x l.
          leading (first_edge spans x) (edges_end spans x) (spans_inside x l).0 (spans_inside x l).1 room
          (node_targets K d (components q below) n used nodes spans words g x l);
    }

    module _ (v : ℕ) (m : Monomial) (i : Member m (frame (lim.numbering q₀.code) (leading_monomials f))) (r : Rooted K d n used nodes spans words m v) where
      roots_in : RootsIn K d U m (roots_of spans words v)
      roots_in = leads_list nodes n r.leads

      pub roots_leading : used * 2 ≤ length words' → Onward 0 n (first_root spans v) (roots_end spans v) words'
      roots_leading room =
          leading (first_root spans v) (roots_end spans v) r.ordered r.inside room
          (subst (λ k. Targets k (roots_of spans words v)) (nodes_length nodes 0 n) (leads_targets roots_in))

      P : Passed lim q (f ∷ below) d (ordered_nodes ks U) (ordered_rows ks A.place rs) (renumbered A.place (roots_of spans words v)) m
      P = discovered_passed lim q f below s d U rs found ks A.place inverse A.falling m i (roots_of spans words v) roots_in

      -- ## What it gives

      abbrev N : List Monomial
      N = ordered_nodes ks U

      NLong : length N ≡ n
      NLong = picked_long ks ∙ ks_long
        where
          picked_long : (ks : List ℕ) → length (picked no_term.1 ks U) ≡ length ks
          picked_long [] = refl
          picked_long (k ∷ ks) = ap suc (picked_long ks)

      abbrev es : List (ℕ × ℕ)
      es = renumbered A.place (roots_of spans words v)

      abbrev ordered : List Row
      ordered = ordered_rows ks A.place rs

      B : Built lim q (f ∷ below) d N ordered
      B = built lim q (f ∷ below) d U rs found ks A.place inverse A.falling

      root_targets : Targets n es
      root_targets = subst (λ k. Targets k es) NLong (leads_targets (rooted lim q (f ∷ below) d U rs found ks A.place inverse A.falling m (roots_of
          spans words v) roots_in))

      all_targets : AllTargets n ordered
      all_targets = subst (λ k. AllTargets k ordered) NLong (rows_targets K d N N ordered B.rows)

      ordered_long : length ordered ≡ n
      ordered_long = ap length (sym rows_are) ∙ by_long 0 n
        where
          by_long : (a c : ℕ) → length (rows_by nodes spans words' order a c) ≡ c
          by_long a zero = ap length (by_none nodes spans words' order a)
          by_long a (suc c) = ap length (by_first nodes spans words' order a c) ∙ ap suc (by_long (suc a) c)

      module _ (vector : Vector) (settled : Bool) (p : Passes q₀.p n nodes spans words' order v m vector settled) where
        sums_agree : Agree 0 n p.sums (zeros N)
        sums_agree = record {
          long = p.enough;
          long' = omega (arith, zeros_length N, NLong);
          same = λ i l h. p.zero_all i h ∙ sym (zeros_get N i);
        }

        same : (places q₀.p 0 ordered (spread_at 1 es p.sums) ≡ places q₀.p 0 ordered (spread_at 1 es (zeros N)))
            × (settled? q₀.p 0 ordered (spread_at 1 es p.sums) ≡ settled? q₀.p 0 ordered (spread_at 1 es (zeros N)))
        same =
            places_agree q₀.p 0 n ordered (omega (arith, ordered_long)) all_targets (spread_at 1 es p.sums) (spread_at 1 es (zeros N))
            (spread_agree 0 n 1 es root_targets p.sums (zeros N) sums_agree)

        roots : roots_of spans words' v ≡ es
        roots = roots_are v r.ordered r.inside

        vector_same : vector ≡ passed_vector q₀.p N ordered es m
        vector_same =
            p.vector_is ∙ (λ i. (1, m) ∷ places q₀.p 0 (rows_are i) (spread_at 1 (roots i) p.sums)) ∙ ap (λ v. (1, m) ∷ v) same.0

        settled_same : settled ≡ passed_settled? q₀.p N ordered es
        settled_same = p.settled_is ∙ (λ i. settled? q₀.p 0 (rows_are i) (spread_at 1 (roots i) p.sums)) ∙ same.1

        accepted : (x : ℕ) → T (finished? (run K (accepting_strategy K) x m)) → (y : Result Vector) → run K (accepting_strategy K) x m ≡ y
            → Flagged (passed_vector q₀.p N ordered es m) (passed_settled? q₀.p N ordered es) y → settled ≡ true
            → (n : ℕ) × (run K (accepting_strategy K) n m ≡ done vector)
        accepted x t (done w) e h k = (x, e ∙ ap done (h.0 ∙ sym vector_same))
        accepted x t (refused number place value) e h k = absurd (subst T (sym k ∙ settled_same ∙ h.1) tt)
        accepted x t unfinished e h k = absurd (subst (λ y. T (finished? y)) e t)

        pub served : Served K d m vector settled
        served = record {
          lifts = λ W k h z. ((P.ends W k h z).0, (P.ends W k h z).1 ∙ ap done (sym vector_same));
          accepts = λ e k.
              let a = P.accepts e in
              accepted a.0 a.1 (run K (accepting_strategy K) a.0 m) refl a.2 k;
        }
