-- A table while it grows: what is right stays right when nodes and edges come.
use mathlib.Core.Path.{◌≡◌, refl, sym, ap, ◌∙◌, subst}
use mathlib.Core.Logic.{◌⊎◌, inl, inr, ⊎_elim}
use mathlib.Core.Bool.{Bool}
use mathlib.Core.List.{List, [], ◌∷◌, ◌++◌}
use Prim.Native.Nat.{ℕ, zero, suc, ◌+◌, ◌-◌, ◌*◌, ◌<◌, ◌≤◌}
use native.Mathlib.Omega.{arith}
use lib.Dec.{T}
use Rattle.definitions.specs.Monomial.{Exponents, Monomial, Term, Vector, fits?, vector_of}
use Rattle.definitions.specs.Stage.{Reduction, Stage}
use Rattle.definitions.specs.Run.{dropped?, multiple}
use Rattle.definitions.specs.Layout.{Words}
use Rattle.sweeps.specs.Sweep.{edges, answer_at}
use Rattle.sweeps.specs.Places.{products_of}
use Rattle.sweeping.specs.Nodes.{node_at, record_at, edges_in, first_edge, edges_end, edges_of, first_root, roots_end, roots_of, LeadsAt, at_end}
use Rattle.sweeping.specs.Nodes.{skips_at, leads_at, Says, Told, ProductsAt, Expanded, Growing, Rooted, Gathered, Same, SameSpans, frame_term}
use Rattle.sweeping.proofs.Views.{edges_alike}

pub below_or : (i n : ℕ) → (i < n) ⊎ (n ≤ i)
below_or i zero = inr (omega arith)
below_or zero (suc n) = inl (omega arith)
below_or (suc i) (suc n) = ⊎_elim (λ h. inl (omega arith)) (λ h. inr (omega arith)) (below_or i n)

-- ## Edges

-- the first n nodes are the same, and there may be more
pub leads_same : {R : Reduction} {d : Bool} (node node' : ℕ → Monomial) (n n' : ℕ) → ((k : ℕ) → k < n → node' k ≡ node k) → n ≤ n'
    → {es : List (ℕ × ℕ)} {ps : Vector} → LeadsAt R d node n es ps → LeadsAt R d node' n' es ps
leads_same node node' n n' h l at_end = at_end
leads_same node node' n n' h l (skips_at f k r) = skips_at f k (leads_same node node' n n' h l r)
leads_same node node' n n' h l (leads_at k b e f r) = leads_at k (omega (arith, b, l)) (h k b ∙ e) f (leads_same node node' n n' h l r)

-- one product more, with an edge
pub leads_last : {R : Reduction} {d : Bool} {node : ℕ → Monomial} {n : ℕ} {es : List (ℕ × ℕ)} {ps : Vector} → LeadsAt R d node n es ps
    → (t : Term) (k : ℕ) → k < n → node k ≡ t.1 → T (fits? R.limits.exponent t.1.0) → LeadsAt R d node n (es ++ (k, t.0) ∷ []) (ps ++ t ∷ [])
leads_last at_end t k b e f = leads_at k b e f at_end
leads_last (skips_at g h r) t k b e f = skips_at g h (leads_last r t k b e f)
leads_last (leads_at i j h g r) t k b e f = leads_at i j h g (leads_last r t k b e f)

-- .. or left out
pub skips_last : {R : Reduction} {d : Bool} {node : ℕ → Monomial} {n : ℕ} {es : List (ℕ × ℕ)} {ps : Vector} → LeadsAt R d node n es ps
    → (t : Term) → T (fits? R.limits.exponent t.1.0) → T (dropped? R d t.1) → LeadsAt R d node n es (ps ++ t ∷ [])
skips_last at_end t f k = skips_at f k at_end
skips_last (skips_at g h r) t f k = skips_at g h (skips_last r t f k)
skips_last (leads_at i j h g r) t f k = leads_at i j h g (skips_last r t f k)

-- the products of one term more
pub edges_more : (p c : ℕ) (q : Exponents) (f : Vector) (t : Term) → edges p c q (f ++ t ∷ []) ≡ edges p c q f ++ multiple p c q t ∷ []
edges_more p c q [] t = refl
edges_more p c q (u ∷ f) t = ap (λ es. multiple p c q u ∷ es) (edges_more p c q f t)

-- ## Nodes and edges that stay

module _ (n used : ℕ) (nodes words nodes' words' : Words) (s : Same n used nodes words nodes' words') where
  pub node_same : (x : ℕ) → x < n → node_at nodes' x ≡ node_at nodes x
  node_same x l = ap (λ (t : Term). t.1) (s.nodes_same (x * 2) (omega arith))

  pub record_same : (x : ℕ) → x < n → record_at nodes' x ≡ record_at nodes x
  record_same x l = s.nodes_same (x * 2 + 1) (omega arith)

  pub edges_stay : (a b : ℕ) → a ≤ b → b ≤ used → edges_in words' a (b - a) ≡ edges_in words a (b - a)
  edges_stay a b l h = edges_alike words words' a (b - a) (λ k i j. s.edges_same k (omega (arith, i, j, l, h)))

  says_same : (S : Stage) (d : Bool) (x : ℕ) → x < n → Says S.reduction.p d (answer_at S (node_at nodes x)) (record_at nodes x)
      → Says S.reduction.p d (answer_at S (node_at nodes' x)) (record_at nodes' x)
  says_same S d x l h =
      subst (λ m. Says S.reduction.p d (answer_at S m) (record_at nodes' x)) (sym (node_same x l))
      (subst (Says S.reduction.p d (answer_at S (node_at nodes x))) (sym (record_same x l)) h)

  pub told_same : (S : Stage) (d : Bool) (count : ℕ) → Told S d count n nodes → Told S d count n nodes'
  told_same S d count t = record {
    components = λ x l. let e = ap (λ (m : Monomial). m.1) (node_same x l) in let k = t.components x l in (omega (arith, e, k.0), omega (arith, e, k.1));
    answered = λ x l. says_same S d x l (t.answered x l);
  }

  -- one node more, or some
  pub told_more : (S : Stage) (d : Bool) (count n' : ℕ) → n ≤ n' → Told S d count n nodes
      → ((x : ℕ) → n ≤ x → x < n' → (1 ≤ (node_at nodes' x).1) × ((node_at nodes' x).1 ≤ count))
      → ((x : ℕ) → n ≤ x → x < n' → Says S.reduction.p d (answer_at S (node_at nodes' x)) (record_at nodes' x)) → Told S d count n' nodes'
  told_more S d count n' l t c a =
      let o = told_same S d count t in
      record {
        components = λ x h. ⊎_elim (λ k. o.components x k) (λ k. c x k h) (below_or x n);
        answered = λ x h. ⊎_elim (λ k. o.answered x k) (λ k. a x k h) (below_or x n);
      }

  pub products_same : (S : Stage) (d : Bool) (n' a b c : ℕ) (q : Exponents) (f : Vector) → n ≤ n' → b ≤ used → ProductsAt S d n a b nodes words c q f
      → ProductsAt S d n' a b nodes' words' c q f
  products_same S d n' a b c q f l h p = record {
    ordered = p.ordered;
    leads =
        subst (λ es. LeadsAt S.reduction d (node_at nodes') n' es (edges S.reduction.p c q f)) (sym (edges_stay a b p.ordered h))
        (leads_same (node_at nodes) (node_at nodes') n n' node_same l p.leads);
  }

  module _ (v : ℕ) (spans spans' : Words) (r : SameSpans n v spans spans') where
    pub expanded_same : (S : Stage) (d : Bool) (n' used' : ℕ) → n ≤ n' → used ≤ used' → (x : ℕ) → x < n → Expanded S d n used nodes spans words x
        → Expanded S d n' used' nodes' spans' words' x
    expanded_same S d n' used' a b x l h =
        let f = r.firsts_same x l in
        let e = r.ends_same x l in
        let same : edges_of spans' words' x ≡ edges_of spans words x =
        (λ k. edges_in words' (f k) (e k - f k)) ∙ edges_stay (first_edge spans x) (edges_end spans x) h.ordered h.inside in
        record {
          ordered = omega (arith, f, e, h.ordered);
          inside = omega (arith, e, h.inside, b);
          leads =
              subst (λ m. LeadsAt S.reduction d (node_at nodes') n' (edges_of spans' words' x) (products_of S (answer_at S m))) (sym (node_same x l))
              (subst (λ es. LeadsAt S.reduction d (node_at nodes') n' es (products_of S (answer_at S (node_at nodes x)))) (sym same)
              (leads_same (node_at nodes) (node_at nodes') n n' node_same a h.leads));
        }

    pub rooted_same : (S : Stage) (d : Bool) (n' used' : ℕ) → n ≤ n' → used ≤ used' → (m : Monomial) (u : ℕ) → u < v → Rooted S d n used nodes spans words m u
        → Rooted S d n' used' nodes' spans' words' m u
    rooted_same S d n' used' a b m u l h =
        let f = r.first_roots_same u l in
        let e = r.roots_ends_same u l in
        let same : roots_of spans' words' u ≡ roots_of spans words u =
        (λ k. edges_in words' (f k) (e k - f k)) ∙ edges_stay (first_root spans u) (roots_end spans u) h.ordered h.inside in
        record {
          ordered = omega (arith, f, e, h.ordered);
          inside = omega (arith, e, h.inside, b);
          leads =
              subst (λ es. LeadsAt S.reduction d (node_at nodes') n' es (edges S.reduction.p 1 m.0 (vector_of S.family m.1))) (sym same)
              (leads_same (node_at nodes) (node_at nodes') n n' node_same a h.leads);
        }

    -- a frame term that was not taken leaves the table as it was
    pub growing_same : (S : Stage) (d : Bool) (count made : ℕ) → made ≤ n → Growing S d count n made used nodes spans words
        → Growing S d count n made used nodes' spans' words'
    growing_same S d count made l g = record {
      told = told_same S d count g.told;
      expanded = λ x h. expanded_same S d n used (omega arith) (omega arith) x (omega (arith, h, l)) (g.expanded x h);
    }

    pub gathered_same : (S : Stage) (d : Bool) (count : ℕ) (frame : Words) (i : ℕ) → Gathered S d count frame i v n used nodes spans words
        → Gathered S d count frame i v n used nodes' spans' words'
    gathered_same S d count frame i g = record {
      grown = growing_same S d count n (omega arith) g.grown;
      rooted = λ u a b. rooted_same S d n used (omega arith) (omega arith) (frame_term frame u) u b (g.rooted u a b);
    }

    -- one that was taken joins those before it
    pub gathered_more : (S : Stage) (d : Bool) (count : ℕ) (frame : Words) (i n' used' : ℕ) → n ≤ n' → used ≤ used'
        → Gathered S d count frame i v n used nodes spans words → Growing S d count n' n' used' nodes' spans' words'
        → Rooted S d n' used' nodes' spans' words' (frame_term frame v) v → Gathered S d count frame i (v + 1) n' used' nodes' spans' words'
    gathered_more S d count frame i n' used' a b g w t = record {
      grown = w;
      rooted = λ u l h. ⊎_elim (λ k. rooted_same S d n' used' a b (frame_term frame u) u k (g.rooted u l k))
          (λ k. let e : v ≡ u = omega (arith, h, k) in subst (λ z. Rooted S d n' used' nodes' spans' words' (frame_term frame z) z) e t) (below_or u v);
    }

-- ## At first

pub gathered_none : (S : Stage) (d : Bool) (count : ℕ) (frame : Words) (i : ℕ) (nodes spans words : Words) → Gathered S d count frame i i 0 0 nodes spans words
gathered_none S d count frame i nodes spans words = record {
  grown = record {
    told = record { components = λ x l. absurd (omega (arith, l)); answered = λ x l. absurd (omega (arith, l)) };
    expanded = λ x l. absurd (omega (arith, l));
  };
  rooted = λ v l h. absurd (omega (arith, l, h));
}
