-- A table that grows: by an edge, by a row's product, by the rows of a multiple, by a node that is expanded, by a frame term.
use mathlib.Core.Path.{◌≡◌, refl, sym, ap, ◌∙◌, subst}
use mathlib.Core.Bool.{Bool, true, false}
use mathlib.Core.List.{[], ◌∷◌, ◌++◌}
use mathlib.Core.Logic.{◌≢◌, ⊎_elim}
use Prim.Native.Nat.{ℕ, zero, suc, ◌+◌, ◌-◌, ◌*◌, ◌<◌, ◌≤◌}
use native.Mathlib.Omega.{arith}
use mathlib.Core.Option.{Option, none, some}
use Rattle.std.specs.Prelude.{Option as CodeOption, Some, None}
use lib.Dec.{T}
use lib.ListN.{length, get_or, take, set, length-set}
use lib.Seq.{get_or-set_same, get_or-set_other}
use Rattle.definitions.specs.Lists.{choose, rest}
use Rattle.definitions.specs.Field.{times}
use Rattle.definitions.specs.Monomial.{Exponents, Monomial, Term, Vector, product, fits?, vector_of}
use Rattle.definitions.specs.Reducer.{Answer, reducer, lower_order}
use Rattle.definitions.specs.Stage.{Stage}
use Rattle.definitions.specs.Run.{dropped?, multiple}
use Rattle.definitions.specs.Layout.{Words, rows, vectors_at}
use Rattle.laws.proofs.Rows.{rows_first}
use Rattle.runs.specs.reduction.Grounds.{first_row}
use Rattle.runs.proofs.reduction.Adding.{rows_none}
use Rattle.runs.proofs.reduction.Families.{vector_at}
use Rattle.runs.proofs.run.Stepping.{reducer_number}
use Rattle.sweeps.specs.Sweep.{edges, answer_at}
use Rattle.sweeps.specs.Places.{products_of}
use Rattle.definitions.specs.Places.{roots_start, most_nodes}
use Rattle.sweeping.specs.Nodes.{
  node_at,
  record_at,
  edge_at,
  edges_in,
  first_edge,
  edges_end,
  edges_of,
  LeadsAt,
  at_end,
  Says,
  Told,
  ProductsAt,
  Expanded,
}
use Rattle.sweeping.specs.Nodes.{first_root, roots_end, roots_of, Growing, Rooted, Same, SameSpans}
use Rattle.sweeping.specs.Made.{Added, Edged}
use Rattle.sweeping.specs.Growth.{most_edges, Led, Rowed, LedAs, RowedAs, SpannedBy, SpannedAs, Noded, NodedAs, SpanPut, AllGrownAs, Sized}
use Rattle.sweeping.specs.Reaches.{ReachedAs}
use Rattle.sweeping.proofs.Views.{edges_last, edges_none}
use Rattle.sweeping.proofs.Tables.{below_or, expanded_same, leads_last, skips_last, edges_more, node_same, told_more, products_same}

-- ## What stays

pub same_refl : (n used : ℕ) (nodes words : Words) → Same n used nodes words nodes words
same_refl n used nodes words = record { nodes_same = λ k h. refl; edges_same = λ k h. refl }

pub same_again : (n n' used used' : ℕ) (a b a' b' a'' b'' : Words) → n ≤ n' → used ≤ used' → Same n used a b a' b' → Same n' used' a' b' a'' b''
    → Same n used a b a'' b''
same_again n n' used used' a b a' b' a'' b'' h k s r = record {
  nodes_same = λ i u. r.nodes_same i (omega arith) ∙ s.nodes_same i u;
  edges_same = λ i u. r.edges_same i (omega arith) ∙ s.edges_same i u;
}

pub same_edged : (n e x c : ℕ) (nodes words words' : Words) → Edged e x c words words' → Same n e nodes words nodes words'
same_edged n e x c nodes words words' h = record { nodes_same = λ k u. refl; edges_same = h.edges_same }

pub same_added : (n e x c : ℕ) (m : Monomial) (t : Term) (nodes words nodes' words' : Words) → Added n m t nodes nodes' → Edged e x c words words'
    → Same n e nodes words nodes' words'
same_added n e x c m t nodes words nodes' words' a h = record { nodes_same = a.rows_same; edges_same = h.edges_same }

-- ## An edge

pub lead_old : (S : Stage) (d : Bool) (count most n e x c : ℕ) (m : Monomial) (nodes words words' : Words) → n ≤ most → e < most_edges most → x < n
    → node_at nodes x ≡ m → Edged e x c words words' → Told S d count n nodes → Led S d count most n n e (e + 1) m c nodes words nodes words'
lead_old S d count most n e x c m nodes words words' l o h q r t =
    let i : (edge_at words' e).0 ≡ x = ap (λ (y : ℕ × ℕ). y.0) r.edge_is in
    record {
      told = t;
      more = omega arith;
      few = l;
      one = refl;
      edges_few = omega arith;
      target = omega (arith, i, h);
      node_is = ap (node_at nodes) i ∙ q;
      coefficient_is = ap (λ (y : ℕ × ℕ). y.1) r.edge_is;
    }

pub lead_made : (S : Stage) (d : Bool) (count most n e c : ℕ) (m : Monomial) (u : Term) (nodes words nodes' words' : Words) → n < most → e < most_edges most
    → 1 ≤ m.1 → m.1 ≤ count → Says S.reduction.p d (answer_at S m) u → Added n m u nodes nodes' → Edged e n c words words' → Told S d count n nodes
    → Led S d count most n (n + 1) e (e + 1) m c nodes words nodes' words'
lead_made S d count most n e c m u nodes words nodes' words' l o low high s a r t =
    let i : (edge_at words' e).0 ≡ n = ap (λ (y : ℕ × ℕ). y.0) r.edge_is in
    record {
      told = told_more n e nodes words nodes' words' (same_added n e n c m u nodes words nodes' words' a r) S d count (n + 1) (omega arith) t
          (λ x h k. let b = component x h k in (omega (arith, b, low), omega (arith, b, high))) said;
      more = omega arith;
      few = omega arith;
      one = refl;
      edges_few = omega arith;
      target = omega (arith, i);
      node_is = ap (node_at nodes') i ∙ a.node_is;
      coefficient_is = ap (λ (y : ℕ × ℕ). y.1) r.edge_is;
    }
  where
    component : (x : ℕ) → n ≤ x → x < n + 1 → (node_at nodes' x).1 ≡ m.1
    component x h k = let b : x ≡ n = omega arith in ap (λ y. (node_at nodes' y).1) b ∙ ap (λ (y : Monomial). y.1) a.node_is

    said : (x : ℕ) → n ≤ x → x < n + 1 → Says S.reduction.p d (answer_at S (node_at nodes' x)) (record_at nodes' x)
    said x h k =
        let b : n ≡ x = omega arith in
        subst (λ y. Says S.reduction.p d (answer_at S (node_at nodes' y)) (record_at nodes' y)) b
        (subst (λ y. Says S.reduction.p d (answer_at S y) (record_at nodes' n)) (sym a.node_is)
        (subst (Says S.reduction.p d (answer_at S m)) (sym a.record_is) s))

-- ## A row's product

-- it is left out
pub rowed_skip : (S : Stage) (d : Bool) (count most n e c : ℕ) (q : Exponents) (r : Term) (nodes words : Words) → n ≤ most → e ≤ most_edges most
    → T (fits? S.reduction.limits.exponent (product q r.1.0)) → T (dropped? S.reduction d (product q r.1.0, r.1.1)) → Told S d count n nodes
    → Rowed S d count most n n e e c q r nodes words nodes words
rowed_skip S d count most n e c q r nodes words l o f k t = record {
  told = t;
  more = omega arith;
  few = l;
  edges_more = omega arith;
  edges_few = o;
  products = λ a v h p. record {
    ordered = p.ordered;
    leads = subst (LeadsAt S.reduction d (node_at nodes) n (edges_in words a (e - a))) (sym (edges_more S.reduction.p c q v r))
        (skips_last p.leads (multiple S.reduction.p c q r) f k);
  };
}

-- an edge leads to its node
pub rowed_led : (S : Stage) (d : Bool) (count most n n' e e' c : ℕ) (q : Exponents) (r : Term) (nodes words nodes' words' : Words)
    → T (fits? S.reduction.limits.exponent (product q r.1.0)) → Same n e nodes words nodes' words'
    → Led S d count most n n' e e' (product q r.1.0, r.1.1) (times S.reduction.p c r.0) nodes words nodes' words'
    → Rowed S d count most n n' e e' c q r nodes words nodes' words'
rowed_led S d count most n n' e e' c q r nodes words nodes' words' f s l = record {
  told = l.told;
  more = l.more;
  few = l.few;
  edges_more = omega (arith, l.one);
  edges_few = l.edges_few;
  products = λ a v h p.
      let o = products_same n e nodes words nodes' words' s S d n' a e c q v l.more (omega arith) p in
      let i : e' - a ≡ suc (e - a) = omega (arith, l.one, h) in
      let j : a + (e - a) ≡ e = omega arith in
      let es : edges_in words' a (e' - a) ≡ edges_in words' a (e - a) ++ ((edge_at words' e).0, times S.reduction.p c r.0) ∷ [] =
      ap (edges_in words' a) i ∙ edges_last words' a (e - a) ∙ ap (λ y. edges_in words' a (e - a) ++ edge_at words' y ∷ []) j
      ∙ ap (λ y. edges_in words' a (e - a) ++ ((edge_at words' e).0, y) ∷ []) l.coefficient_is in
      record {
        ordered = omega (arith, l.one, h);
        leads = subst (λ ys. LeadsAt S.reduction d (node_at nodes') n' ys (edges S.reduction.p c q (v ++ r ∷ []))) (sym es)
            (subst (LeadsAt S.reduction d (node_at nodes') n' (edges_in words' a (e - a) ++ ((edge_at words' e).0, times S.reduction.p c r.0) ∷ []))
            (sym (edges_more S.reduction.p c q v r))
            (leads_last o.leads (multiple S.reduction.p c q r) (edge_at words' e).0 l.target l.node_is f));
      };
}

-- ## Answers

pub formed_some : {A : Type 0} (d : Bool) (x y : A) → some x ≡ choose d (some y) none → (d ≡ true) × (x ≡ y)
formed_some true x y e = (refl, ap (from x) e)
  where
    from : {A : Type 0} → A → Option A → A
    from z (some w) = w
    from z none = z
formed_some false x y e = absurd (subst is_some e tt)
  where
    is_some : {A : Type 0} → Option A → Type 0
    is_some (some w) = Unit {0}
    is_some none = ⊥

pub led_rowed : (S : Stage) (d : Bool) (count most n e c : ℕ) (q : Exponents) (r : Term) (nodes words nodes' words' : Words) (m : Monomial) (k : ℕ) (x : CodeOption (ℕ × ℕ))
    → m ≡ (product q r.1.0, r.1.1) → k ≡ times S.reduction.p c r.0 → T (fits? S.reduction.limits.exponent (product q r.1.0))
    → Same n e nodes words nodes' words' → LedAs S d count most n e m k x nodes words nodes' words'
    → RowedAs S d count most n e c q r x nodes words nodes' words'
led_rowed S d count most n e c q r nodes words nodes' words' m k (Some (n', e')) a b f s l =
    rowed_led S d count most n n' e e' c q r nodes words nodes' words' f s
    (subst (λ y. Led S d count most n n' e e' (product q r.1.0, r.1.1) y nodes words nodes' words') b
    (subst (λ y. Led S d count most n n' e e' y k nodes words nodes' words') a l))
led_rowed S d count most n e c q r nodes words nodes' words' m k None a b f s l = tt

-- ## Row after row

pub spanned_none : (S : Stage) (d : Bool) (count most n e c : ℕ) (q : Exponents) (nodes words : Words) → n ≤ most → e ≤ most_edges most → Told S d count n nodes
    → SpannedBy S d count most n n e e c q [] nodes words
spanned_none S d count most n e c q nodes words l o t = record {
  told = t;
  more = omega arith;
  few = l;
  edges_more = omega arith;
  edges_few = o;
  products = record {
    ordered = omega arith;
    leads = let z : e - e ≡ 0 = omega arith in
        subst (λ k. LeadsAt S.reduction d (node_at nodes) n (edges_in words e k) []) (sym z)
        (subst (λ es. LeadsAt S.reduction d (node_at nodes) n es []) (sym (edges_none words e)) at_end);
  };
}

pub spanned_next : (S : Stage) (d : Bool) (count most n k n' e o e' c : ℕ) (q : Exponents) (f : Vector) (r : Term) (nodes words nodes' words' : Words)
    → SpannedBy S d count most n k e o c q f nodes words → Rowed S d count most k n' o e' c q r nodes words nodes' words'
    → SpannedBy S d count most n n' e e' c q (f ++ r ∷ []) nodes' words'
spanned_next S d count most n k n' e o e' c q f r nodes words nodes' words' s w = record {
  told = w.told;
  more = omega (arith, s.more, w.more);
  few = w.few;
  edges_more = omega (arith, s.edges_more, w.edges_more);
  edges_few = w.edges_few;
  products = w.products e f s.edges_more s.products;
}

-- ## A node

-- what its record says: without a component there are no products
pub node_lower : (S : Stage) (d : Bool) (m : Monomial) (t : Term) → Says S.reduction.p d (answer_at S m) t → t.1.1 ≡ 0 → products_of S (answer_at S m)
    ≡ []
node_lower S d m t s z = go (answer_at S m) refl s
  where
    go : (a : Answer) → a ≡ answer_at S m → Says S.reduction.p d a t → products_of S a ≡ []
    go lower_order e h = refl
    go (reducer j i q) e h =
        let b = reducer_number S.reduction.p S.reduction.heads (1, m) j i q e in
        let c : t.1.1 ≡ j = ap (λ (u : Term). u.1.1) h in absurd (omega (arith, b.0, c, z))

-- with one they are those of its multiple
pub record Reduced (S : Stage) (m : Monomial) (t : Term) : Type 0 where
  pub low : 1 ≤ t.1.1
  pub high : t.1.1 ≤ length S.reduction.heads
  pub products_are : products_of S (answer_at S m) ≡ edges S.reduction.p t.0 t.1.0 (rest (vector_of S.family t.1.1))

pub node_reduced : (S : Stage) (d : Bool) (m : Monomial) (t : Term) → Says S.reduction.p d (answer_at S m) t → t.1.1 ≢ 0 → Reduced S m t
node_reduced S d m t s z = go (answer_at S m) refl s
  where
    go : (a : Answer) → a ≡ answer_at S m → Says S.reduction.p d a t → Reduced S m t
    go lower_order e h = absurd (z h.0)
    go (reducer j i q) e h =
        let b = reducer_number S.reduction.p S.reduction.heads (1, m) j i q e in
        let c : t.1.1 ≡ j = ap (λ (u : Term). u.1.1) h in
        record {
          low = omega (arith, b.0, c);
          high = omega (arith, b.1, c);
          products_are = ap (products_of S) (sym e)
              ∙ sym (ap (λ (u : Term). edges S.reduction.p u.0 u.1.0 (rest (vector_of S.family u.1.1))) h);
        }

rest_rows : (s : Words) (a k : ℕ) → rest (rows s a k) ≡ rows s (a + 1) (k - 1)
rest_rows s a zero = ap rest (rows_none s a) ∙ sym (rows_none s (a + 1))
rest_rows s a (suc k) =
    let e : suc a ≡ a + 1 = omega arith in
    let f : k ≡ suc k - 1 = omega arith in
    ap rest (rows_first s a k) ∙ (λ i. rows s (e i) (f i))

pub rest_of_vector : (s ends : Words) (r j a b : ℕ) → r ≤ length ends → 1 ≤ j → j ≤ r → a ≡ first_row ends j → b ≡ get_or ends (j - 1) 0
    → rest (vector_of (vectors_at s 0 (take r ends)) j) ≡ rows s (a + 1) (b - (a + 1))
rest_of_vector s ends r j a b h l u e f =
    let k : (b - a) - 1 ≡ b - (a + 1) = omega arith in
    ap rest (vector_at s ends r j h l u ∙ (λ i. rows s (sym e i) (sym f i - sym e i))) ∙ rest_rows s a (b - a) ∙ ap (rows s (a + 1)) k

pub noded_none : (S : Stage) (d : Bool) (count n e : ℕ) (m : Monomial) (nodes words : Words) → products_of S (answer_at S m) ≡ [] → Told S d count n nodes
    → Noded S d count n e e m nodes words
noded_none S d count n e m nodes words p t = record {
  told = t;
  leads = let z : e - e ≡ 0 = omega arith in
      subst (LeadsAt S.reduction d (node_at nodes) n (edges_in words e (e - e))) (sym p)
      (subst (λ k. LeadsAt S.reduction d (node_at nodes) n (edges_in words e k) []) (sym z)
      (subst (λ es. LeadsAt S.reduction d (node_at nodes) n es []) (sym (edges_none words e)) at_end));
}

pub spanned_noded : (S : Stage) (d : Bool) (count most n e c : ℕ) (q : Exponents) (f : Vector) (m : Monomial) (x : CodeOption (ℕ × ℕ)) (nodes' words' : Words)
    → edges S.reduction.p c q f ≡ products_of S (answer_at S m) → SpannedAs S d count most n e c q f x nodes' words'
    → NodedAs S d count e m x nodes' words'
spanned_noded S d count most n e c q f m (Some (n', e')) nodes' words' p s = record {
  told = s.told;
  leads = subst (LeadsAt S.reduction d (node_at nodes') n' (edges_in words' e (e' - e))) p s.products.leads;
}
spanned_noded S d count most n e c q f m None nodes' words' p s = tt

-- ## Spans

pub span_put : (at a b : ℕ) (s : Words) → at + 2 ≤ length s → SpanPut at a b s (set (set s at a) (at + 1) b)
span_put at a b s h = record {
  first_is = get_or-set_other (set s at a) (at + 1) at b 0 (λ q. omega arith) ∙ get_or-set_same s at a 0 (omega arith);
  end_is = get_or-set_same (set s at a) (at + 1) b 0 (omega (arith, length-set s at a));
  others = λ k m n. get_or-set_other (set s at a) (at + 1) k b 0 n ∙ get_or-set_other s at k a 0 m;
}

pub spans_refl : (n v : ℕ) (spans : Words) → SameSpans n v spans spans
spans_refl n v spans = record { firsts_same = λ x h. refl; ends_same = λ x h. refl; first_roots_same = λ u h. refl; roots_ends_same = λ u h. refl }

pub spans_next : (n v x a b : ℕ) (s t t' : Words) → n ≤ x → x ≤ most_nodes → SameSpans n v s t → SpanPut (x * 2) a b t t' → SameSpans n v s t'
spans_next n v x a b s t t' h k r p = record {
  firsts_same = λ y u. p.others (y * 2) (λ q. omega arith) (λ q. omega arith) ∙ r.firsts_same y u;
  ends_same = λ y u. p.others (y * 2 + 1) (λ q. omega arith) (λ q. omega arith) ∙ r.ends_same y u;
  first_roots_same = λ y u. p.others (roots_start + y * 2) (λ q. omega arith) (λ q. omega arith) ∙ r.first_roots_same y u;
  roots_ends_same = λ y u. p.others (roots_start + y * 2 + 1) (λ q. omega arith) (λ q. omega arith) ∙ r.roots_ends_same y u;
}

-- other spans with the same span of node x
expanded_spans : (S : Stage) (d : Bool) (n used : ℕ) (nodes spans spans' words : Words) (x : ℕ) → first_edge spans' x ≡ first_edge spans x
    → edges_end spans' x ≡ edges_end spans x → Expanded S d n used nodes spans words x → Expanded S d n used nodes spans' words x
expanded_spans S d n used nodes spans spans' words x f e h =
    let same : edges_of spans' words x ≡ edges_of spans words x = λ k. edges_in words (f k) (e k - f k) in
    record {
      ordered = omega (arith, f, e, h.ordered);
      inside = omega (arith, e, h.inside);
      leads = subst (λ es. LeadsAt S.reduction d (node_at nodes) n es (products_of S (answer_at S (node_at nodes x)))) (sym same) h.leads;
    }

-- node x is expanded, too
pub growing_next : (S : Stage) (d : Bool) (count n n' x e e' : ℕ) (nodes spans words nodes' spans' words' : Words) → x < n → n ≤ n' → e ≤ e' → x ≤ most_nodes
    → Same n e nodes words nodes' words' → SpanPut (x * 2) e e' spans spans' → Noded S d count n' e e' (node_at nodes x) nodes' words'
    → Growing S d count n x e nodes spans words → Growing S d count n' (x + 1) e' nodes' spans' words'
growing_next S d count n n' x e e' nodes spans words nodes' spans' words' h l o b s p w g = record {
  told = w.told;
  expanded = λ y u. ⊎_elim (λ k. before y k) (λ k. here y u k) (below_or y x);
}
  where
    before : (y : ℕ) → y < x → Expanded S d n' e' nodes' spans' words' y
    before y k =
        expanded_spans S d n' e' nodes' spans spans' words' y (p.others (y * 2) (λ q. omega arith) (λ q. omega arith))
        (p.others (y * 2 + 1) (λ q. omega arith) (λ q. omega arith))
        (expanded_same n e nodes words nodes' words' s 0 spans spans (spans_refl n 0 spans) S d n' e' l o y (omega arith) (g.expanded y k))

    there : Expanded S d n' e' nodes' spans' words' x
    there =
        let f = p.first_is in
        let i = p.end_is in
        let same : edges_of spans' words' x ≡ edges_in words' e (e' - e) = λ k. edges_in words' (f k) (i k - f k) in
        record {
          ordered = omega (arith, f, i, o);
          inside = omega (arith, i);
          leads = subst (λ m. LeadsAt S.reduction d (node_at nodes') n' (edges_of spans' words' x) (products_of S (answer_at S m)))
              (sym (node_same n e nodes words nodes' words' s x h))
              (subst (λ es. LeadsAt S.reduction d (node_at nodes') n' es (products_of S (answer_at S (node_at nodes x)))) (sym same) w.leads);
        }

    here : (y : ℕ) → y < x + 1 → x ≤ y → Expanded S d n' e' nodes' spans' words' y
    here y u k = let z : x ≡ y = omega arith in subst (Expanded S d n' e' nodes' spans' words') z there

pub growing_all : (S : Stage) (d : Bool) (count n x e : ℕ) (nodes spans words : Words) → x ≡ n → Growing S d count n x e nodes spans words
    → Growing S d count n n e nodes spans words
growing_all S d count n x e nodes spans words z g = subst (λ y. Growing S d count n y e nodes spans words) z g

-- ## A frame term

pub spanned_alike : (S : Stage) (d : Bool) (count most n e c : ℕ) (q : Exponents) (f f' : Vector) (x : CodeOption (ℕ × ℕ)) (nodes' words' : Words) → f ≡ f'
    → SpannedAs S d count most n e c q f x nodes' words' → SpannedAs S d count most n e c q f' x nodes' words'
spanned_alike S d count most n e c q f f' x nodes' words' p s = subst (λ g. SpannedAs S d count most n e c q g x nodes' words') p s

-- its own edges are there, and x nodes, of which those before it are expanded
pub growing_begun : (S : Stage) (d : Bool) (count n x e y v : ℕ) (nodes spans words nodes' spans' words' : Words) → n ≤ x → e ≤ y → n ≤ most_nodes
    → Same n e nodes words nodes' words' → SpanPut (roots_start + v * 2) e y spans spans' → Told S d count x nodes'
    → Growing S d count n n e nodes spans words → Growing S d count x n y nodes' spans' words'
growing_begun S d count n x e y v nodes spans words nodes' spans' words' l o b s p t g = record {
  told = t;
  expanded = λ z k.
      expanded_spans S d x y nodes' spans spans' words' z (p.others (z * 2) (λ q. omega arith) (λ q. omega arith))
      (p.others (z * 2 + 1) (λ q. omega arith) (λ q. omega arith))
      (expanded_same n e nodes words nodes' words' s 0 spans spans (spans_refl n 0 spans) S d x y l o z k (g.expanded z k));
}

pub spans_begun : (n v e y : ℕ) (spans spans' spans'' : Words) → n ≤ most_nodes → SpanPut (roots_start + v * 2) e y spans spans' → SameSpans n v spans' spans''
    → SameSpans n v spans spans''
spans_begun n v e y spans spans' spans'' b p r = record {
  firsts_same = λ z k. r.firsts_same z k ∙ p.others (z * 2) (λ q. omega arith) (λ q. omega arith);
  ends_same = λ z k. r.ends_same z k ∙ p.others (z * 2 + 1) (λ q. omega arith) (λ q. omega arith);
  first_roots_same = λ u k. r.first_roots_same u k ∙ p.others (roots_start + u * 2) (λ q. omega arith) (λ q. omega arith);
  roots_ends_same = λ u k. r.roots_ends_same u k ∙ p.others (roots_start + u * 2 + 1) (λ q. omega arith) (λ q. omega arith);
}

-- what its edges lead to stays when the table grows further
pub rooted_begun : (S : Stage) (d : Bool) (n x x' e y y' v : ℕ) (m : Monomial) (nodes words nodes' spans spans' spans'' words' : Words) → x ≤ x' → y ≤ y'
    → SpanPut (roots_start + v * 2) e y spans spans' → SameSpans n (v + 1) spans' spans'' → Same x y nodes words nodes' words'
    → ProductsAt S d x e y nodes words 1 m.0 (vector_of S.family m.1) → Rooted S d x' y' nodes' spans'' words' m v
rooted_begun S d n x x' e y y' v m nodes words nodes' spans spans' spans'' words' l o p r s w =
    let f : first_root spans'' v ≡ e = r.first_roots_same v (omega arith) ∙ p.first_is in
    let i : roots_end spans'' v ≡ y = r.roots_ends_same v (omega arith) ∙ p.end_is in
    let t = products_same x y nodes words nodes' words' s S d x' e y 1 m.0 (vector_of S.family m.1) l (omega arith) w in
    let same : roots_of spans'' words' v ≡ edges_in words' e (y - e) = λ k. edges_in words' (f k) (i k - f k) in
    record {
      ordered = omega (arith, f, i, w.ordered);
      inside = omega (arith, i, o);
      leads = subst (λ es. LeadsAt S.reduction d (node_at nodes') x' es (edges S.reduction.p 1 m.0 (vector_of S.family m.1))) (sym same) t.leads;
    }

pub reached : (S : Stage) (d : Bool) (count most n x e y v : ℕ) (m : Monomial) (r : CodeOption (ℕ × ℕ)) (nodes words nodes' spans spans' spans'' words' : Words)
    → n ≤ x → e ≤ y → SpanPut (roots_start + v * 2) e y spans spans' → SameSpans n (v + 1) spans' spans'' → Same x y nodes words nodes' words'
    → ProductsAt S d x e y nodes words 1 m.0 (vector_of S.family m.1) → AllGrownAs S d count r nodes' spans'' words' → Sized most x y r
    → ReachedAs S d count most n e v m r nodes' spans'' words'
reached S d count most n x e y v m (Some (x', y')) nodes words nodes' spans spans' spans'' words' a b p r s w g z = (
  g,
  rooted_begun S d n x x' e y y' v m nodes words nodes' spans spans' spans'' words' z.0 z.2 p r s w,
  omega (arith, a, z.0),
  z.1,
  omega (arith, b, z.2),
  z.3,
)
reached S d count most n x e y v m None nodes words nodes' spans spans' spans'' words' a b p r s w g z = tt
