-- Nodes whose edges lead to later nodes are closed: the leading product of a node's reducer is the node itself.
use mathlib.Core.Path.{◌≡◌, refl, sym, ap, ◌∙◌, subst}
use mathlib.Core.Logic.{◌⊎◌, inl, inr}
use mathlib.Core.Bool.{Bool, true, false, ◌||◌}
use mathlib.Core.List.{List, [], ◌∷◌}
use Prim.Native.Nat.{ℕ, ◌≤◌}
use lib.Dec.{T, eqb, eqb→eq}
use lib.ListN.{length, drop}
use Rattle.definitions.specs.Lists.{◌and◌, every, between, rest}
use Rattle.definitions.specs.Monomial.{Exponents, Monomial, Vector, Level, product, fits?, same_monomial?, vector_of}
use Rattle.definitions.specs.Reducer.{Answer, reducer, lower_order, answer}
use Rattle.definitions.specs.Problem.{Parameters}
use Rattle.definitions.specs.Stage.{Reduction, Stage}
use Rattle.definitions.specs.Run.{dropped?}
use Rattle.laws.proofs.Tests.{and_left, and_right, and_both, between_low}
use Rattle.laws.proofs.Products.{same_monomial_shows}
use Rattle.laws.proofs.Reducers.{Reducing, answer_reducing, reducing_leads}
use Rattle.ending.specs.Well.{Descending, Well}
use Rattle.ending.proofs.Costs.{descending_of}
use Rattle.sweeps.specs.Table.{node?, held?, all_held?, expanded?, closed?, begun?, few?, table?}
use Rattle.sweeps.specs.Sweep.{placed?, falling?, ahead?, forward?, components, nodes?, sweeps?, nodes_fit?, certified?, answer_at}
use Rattle.sweeps.proofs.Unrefused.{or_says}

pub or_left : (a b : Bool) → T a → T (a || b)
or_left true b t = tt
or_left false b t = absurd t

pub or_right : (a b : Bool) → T b → T (a || b)
or_right true b t = tt
or_right false b t = t

-- M's nodes are among N's
abbrev Among : List Monomial → List Monomial → Type 0
Among M N = (m : Monomial) → T (node? m M) → T (node? m N)

pub node_later : (x : Monomial) (N : List Monomial) (m : Monomial) → T (node? m N) → T (node? m (x ∷ N))
node_later x N m t = go (same_monomial? m x)
  where
    go : (b : Bool) → T (elim b [ true ↦ true | false ↦ node? m N ])
    go true = tt
    go false = t

pub node_here : (x : Monomial) (N : List Monomial) → T (node? x (x ∷ N))
node_here x N = go (same_monomial? x x) (same_monomial_shows x x refl)
  where
    go : (b : Bool) → T b → T (elim b [ true ↦ true | false ↦ node? x N ])
    go true t = tt
    go false t = absurd t

module _ (S : Stage) (X : Well S) (d : Bool) where
  abbrev R : Reduction
  R = S.reduction

  held_more : (M N : List Monomial) → Among M N → (m : Monomial) → T (held? R d M m) → T (held? R d N m)
  held_more M N h m t =
      let fits = fits? R.limits.exponent m.0 in
      and_both fits (dropped? R d m || node? m N) (and_left fits (dropped? R d m || node? m M) t)
      (go (dropped? R d m) (or_says (dropped? R d m) (node? m M) (and_right fits (dropped? R d m || node? m M) t)))
    where
      go : (b : Bool) → T b ⊎ T (node? m M) → T (b || node? m N)
      go b (inl k) = or_left b (node? m N) k
      go b (inr k) = or_right b (node? m N) (h m k)

  all_held_more : (M N : List Monomial) → Among M N → (q : Exponents) (f : Vector) → T (all_held? R d M q f) → T (all_held? R d N q f)
  all_held_more M N h q [] t = tt
  all_held_more M N h q (u ∷ f) t =
      let m : Monomial = (product q u.1.0, u.1.1) in
      and_both (held? R d N m) (all_held? R d N q f) (held_more M N h m (and_left (held? R d M m) (all_held? R d M q f) t))
      (all_held_more M N h q f (and_right (held? R d M m) (all_held? R d M q f) t))

  -- a node's reducer: its leading product is the node, the others are held
  whole_held : (N : List Monomial) (x : Monomial) → length x.0 ≡ 8 → 1 ≤ x.1 → T (fits? R.limits.exponent x.0) → T (node? x N)
      → (c : ℕ) (q : Exponents) (v : Vector) → Descending R.p S.below v → Reducing R.p v (1, x) c q → T (all_held? R d N q (rest v))
      → T (all_held? R d N q v)
  whole_held N x l o t i c q [] D r h = tt
  whole_held N x l o t i c q (u ∷ v) D r h =
      and_both (held? R d N (product q u.1.0, u.1.1)) (all_held? R d N q v)
      (subst (λ m. T (held? R d N m)) (sym (reducing_leads R.p (1, x) c q u v r 8 D.proper.0.shaped.long l).product_is)
      (and_both (fits? R.limits.exponent x.0) (dropped? R d x || node? x N) t (or_right (dropped? R d x) (node? x N) i))) h

  module _ (q : Parameters) (below : List Level) where
    abbrev count : ℕ
    count = components q below

    expanded : (N : List Monomial) (x : Monomial) → T (placed? q count x) → T (fits? R.limits.exponent x.0) → T (node? x N)
        → (a : Answer) → answer_at S x ≡ a → T (ahead? S d N a) → T (expanded? S d N a)
    expanded N x k t i lower_order e h = tt
    expanded N x k t i (reducer j c r) e h =
        whole_held N x long low t i c r (vector_of S.family j) (descending_of R.p S.below S.family X.family j)
        (answer_reducing R.p S.family (1, x) j c r (ap (λ hs. answer R.p hs (1, x)) (sym X.heads_are) ∙ e)) h
      where
        past? : Bool
        past? = every (λ y. eqb y 0) (drop q.n x.0)

        long : length x.0 ≡ 8
        long = eqb→eq (length x.0) 8 (and_left (eqb (length x.0) 8) (past? and between 1 x.1 count) k)

        low : 1 ≤ x.1
        low =
            between_low 1 x.1 count (and_right past? (between 1 x.1 count)
            (and_right (eqb (length x.0) 8) (past? and between 1 x.1 count) k))

    ahead_more : (M N : List Monomial) → Among M N → (a : Answer) → T (ahead? S d M a) → T (ahead? S d N a)
    ahead_more M N h lower_order t = tt
    ahead_more M N h (reducer j c r) t = all_held_more M N h r (rest (vector_of S.family j)) t

    -- the nodes M stand at the end of N
    all_expanded : (N M : List Monomial) → Among M N → T (every (placed? q count) M) → T (nodes_fit? S M) → T (forward? S d M)
        → T (every (λ m. expanded? S d N (answer_at S m)) M)
    all_expanded N [] h k t f = tt
    all_expanded N (x ∷ M) h k t f =
        and_both (expanded? S d N (answer_at S x)) (every (λ m. expanded? S d N (answer_at S m)) M)
        (expanded N x (and_left (placed? q count x) (every (placed? q count) M) k) (and_left (fits? R.limits.exponent x.0) (nodes_fit? S M) t)
        (h x (node_here x M)) (answer_at S x) refl (ahead_more M N later (answer_at S x) (and_left (ahead? S d M (answer_at S x)) (forward? S d M) f)))
        (all_expanded N M later (and_right (placed? q count x) (every (placed? q count) M) k) (and_right (fits? R.limits.exponent x.0) (nodes_fit? S M)
        t)
        (and_right (ahead? S d M (answer_at S x)) (forward? S d M) f))
      where
        later : Among M N
        later m i = h m (node_later x M m i)

    pub certified_table : (N : List Monomial) (m : Monomial) → T (certified? q below S d N m) → T (table? S d N m)
    certified_table N m t =
        and_both (few? S N) (begun? S d N m and closed? S d N) (and_left (few? S N) (nodes_fit? S N and sweeps? q below S d N m) t)
        (and_both (begun? S d N m) (closed? S d N) (and_right (nodes? q below S d N) (begun? S d N m) sweeps)
        (all_expanded N N (λ m i. i) placed fit (and_right (falling? S.below N) (forward? S d N) later)))
      where
        fit_sweeps : T (nodes_fit? S N and sweeps? q below S d N m)
        fit_sweeps = and_right (few? S N) (nodes_fit? S N and sweeps? q below S d N m) t

        fit : T (nodes_fit? S N)
        fit = and_left (nodes_fit? S N) (sweeps? q below S d N m) fit_sweeps

        sweeps : T (sweeps? q below S d N m)
        sweeps = and_right (nodes_fit? S N) (sweeps? q below S d N m) fit_sweeps

        tested : T (nodes? q below S d N)
        tested = and_left (nodes? q below S d N) (begun? S d N m) sweeps

        placed : T (every (placed? q (components q below)) N)
        placed = and_left (every (placed? q (components q below)) N) (falling? S.below N and forward? S d N) tested

        later : T (falling? S.below N and forward? S d N)
        later = and_right (every (placed? q (components q below)) N) (falling? S.below N and forward? S d N) tested
