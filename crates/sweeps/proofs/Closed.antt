-- A closed set of nodes, in descending order: its edges lead forward, so it has a certificate.
use mathlib.Core.Path.{◌≡◌, refl, sym, ◌∙◌, subst}
use mathlib.Core.Logic.{◌⊎◌, inl, inr}
use mathlib.Core.Bool.{Bool, ◌||◌}
use mathlib.Core.List.{List, [], ◌∷◌}
use Prim.Native.Nat.{ℕ, suc, ◌+◌, ◌-◌, ◌<◌}
use native.Mathlib.Omega.{arith}
use lib.Dec.{T}
use lib.ListN.{length, get_or, drop}
use Rattle.definitions.specs.Limits.{Limits}
use Rattle.definitions.specs.Lists.{◌and◌, every, rest}
use Rattle.definitions.specs.Monomial
use Rattle.definitions.specs.Monomial.{Exponents, Monomial, Vector, product, fits?, no_term, vector_of, leading_monomials}
use Rattle.definitions.specs.Frame.{frame}
use Rattle.definitions.specs.Reducer.{Answer, reducer, lower_order}
use Rattle.definitions.specs.Problem.{Parameters}
use Rattle.definitions.specs.Stage.{Reduction, Stage, stage_over}
use Rattle.definitions.specs.Run.{dropped?}
use Rattle.laws.proofs.Tests.{and_left, and_right, and_both}
use Rattle.laws.proofs.Members.{All}
use Rattle.demands.specs.Notions.{Member}
use Rattle.sweeps.specs.Table.{node?, held?, all_held?, expanded?, closed?, begun?, few?, table?}
use Rattle.sweeps.specs.Sweep.{
  edges,
  answer_at,
  placed?,
  falling?,
  ahead?,
  forward?,
  components,
  nodes?,
  sweeps?,
  nodes_fit?,
  certified?,
  closed_in_order?,
}
use Rattle.sweeps.specs.Places.{products_of}
use Rattle.sweeps.specs.Claims.{Certified}
use Rattle.sweeps.proofs.Footing.{Footing}
use Rattle.sweeps.proofs.Unrefused.{or_says, node_says}
use Rattle.sweeps.proofs.Forward.{or_left, or_right}
use Rattle.sweeps.proofs.Places.{node_at}
use Rattle.sweeps.proofs.Ordered.{Later, get_d_drop, drop_length, ProductsLater, drop_split}
use Rattle.sweeps.proofs.Kernel.{nodes_later}
use Rattle.sweeps.proofs.Certified.{certified}

-- where a node stands
record Place (m : Monomial) (N : List Monomial) : Type 0 where
  at : ℕ
  inside : at < length N
  is : get_or N at no_term.1 ≡ m

place : (m : Monomial) (N : List Monomial) → Member m N → Place m N
place m [] i = absurd i
place m (x ∷ N) (inl e) = record { at = 0; inside = omega arith; is = sym e }
place m (x ∷ N) (inr i) = let p = place m N i in record { at = suc p.at; inside = omega (arith, p.inside); is = p.is }

node_after : (m : Monomial) (N : List Monomial) (o : ℕ) → o < length N → Later N o m → T (node? m N) → T (node? m (drop (suc o) N))
node_after m N o l h t =
    let p : Place m N = place m N (node_says m N t) in
    let j : p.at < length N = p.inside in
    let after : o < p.at = h p.at p.inside p.is in
    let i : ℕ = p.at - suc o in
    let e : p.at ≡ i + suc o = omega arith in
    let few : length (drop (suc o) N) ≡ length N - suc o = drop_length (suc o) (length N - suc o) N (omega arith) in
    subst (λ z. T (node? z (drop (suc o) N))) (get_d_drop (suc o) i p.at N e ∙ p.is) (node_at (drop (suc o) N) i (omega arith))

module _ (S : Stage) (d : Bool) (N : List Monomial) where
  abbrev R : Reduction
  R = S.reduction

  held_after : (o : ℕ) → o < length N → (m : Monomial) → Later N o m → T (held? R d N m) → T (held? R d (drop (suc o) N) m)
  held_after o l m h t =
      let fits = fits? R.limits.exponent m.0 in
      and_both fits (dropped? R d m || node? m (drop (suc o) N)) (and_left fits (dropped? R d m || node? m N) t)
      (go (dropped? R d m) (or_says (dropped? R d m) (node? m N) (and_right fits (dropped? R d m || node? m N) t)))
    where
      go : (b : Bool) → T b ⊎ T (node? m N) → T (b || node? m (drop (suc o) N))
      go b (inl k) = or_left b (node? m (drop (suc o) N)) k
      go b (inr k) = or_right b (node? m (drop (suc o) N)) (node_after m N o l h k)

  all_after : (o : ℕ) → o < length N → (p c : ℕ) (q : Exponents) (f : Vector) → All (λ t. Later N o t.1) (edges p c q f) → T (all_held? R d N q f)
      → T (all_held? R d (drop (suc o) N) q f)
  all_after o l p c q [] h t = tt
  all_after o l p c q (u ∷ f) h t =
      let m : Monomial = (product q u.1.0, u.1.1) in
      and_both (held? R d (drop (suc o) N) m) (all_held? R d (drop (suc o) N) q f)
      (held_after o l m h.0 (and_left (held? R d N m) (all_held? R d N q f) t))
      (all_after o l p c q f h.1 (and_right (held? R d N m) (all_held? R d N q f) t))

  ahead_after : (o : ℕ) → o < length N → (a : Answer) → All (λ t. Later N o t.1) (products_of S a) → T (expanded? S d N a)
      → T (ahead? S d (drop (suc o) N) a)
  ahead_after o l lower_order h t = tt
  ahead_after o l (reducer j i q) h t = all_after o l R.p _ q (rest (vector_of S.family j)) h (others (vector_of S.family j) t)
    where
      others : (v : Vector) → T (all_held? R d N q v) → T (all_held? R d N q (rest v))
      others [] t = tt
      others (u ∷ v) t = and_right (held? R d N (product q u.1.0, u.1.1)) (all_held? R d N q v) t

  forward_from : ProductsLater S N → (o : ℕ) (M : List Monomial) → M ≡ drop o N → T (every (λ x. expanded? S d N (answer_at S x)) M) → T (forward? S d M)
  forward_from w o [] e t = tt
  forward_from w o (x ∷ M) e t =
      let s = drop_split o N x M e in
      let later = every (λ x. expanded? S d N (answer_at S x)) M in
      and_both (ahead? S d M (answer_at S x)) (forward? S d M)
      (subst (λ m. T (ahead? S d m (answer_at S x))) (sym s.2) (ahead_after o s.0 (answer_at S x)
      (subst (λ m. All (λ t. Later N o t.1) (products_of S (answer_at S m))) s.1 (w o s.0)) (and_left (expanded? S d N (answer_at S x)) later t)))
      (forward_from w (suc o) M s.2 (and_right (expanded? S d N (answer_at S x)) later t))

-- the same as with a certificate, from closure and order
module _ (lim : Limits) (q : Parameters) (f : Monomial.Level) (below : List Monomial.Level)
    (s : Footing lim q (f ∷ below)) (m : Monomial) (i : Member m (frame (lim.numbering q.code) (leading_monomials f)))
    (d : Bool) (N : List Monomial) (t : T (closed_in_order? q below (stage_over lim q.p q.code (f ∷ below)) d N m)) where
  abbrev K : Stage
  K = stage_over lim q.p q.code (f ∷ below)

  abbrev placed : Bool
  placed = every (placed? q (components q below)) N

  abbrev falls : Bool
  falls = falling? K.below N

  table : T (table? K d N m)
  table = and_left (table? K d N m) (nodes_fit? K N and placed and falls) t

  rests : T (begun? K d N m and closed? K d N)
  rests = and_right (few? K N) (begun? K d N m and closed? K d N) table

  others : T (nodes_fit? K N and placed and falls)
  others = and_right (table? K d N m) (nodes_fit? K N and placed and falls) t

  ordered : T (placed and falls)
  ordered = and_right (nodes_fit? K N) (placed and falls) others

  forward : T (forward? K d N)
  forward =
      forward_from K d N (nodes_later lim q f below s N (and_left placed falls ordered) (and_right placed falls ordered)) 0 N refl
      (and_right (begun? K d N m) (closed? K d N) rests)

  certificate : T (certified? q below K d N m)
  certificate =
      and_both (few? K N) (nodes_fit? K N and sweeps? q below K d N m) (and_left (few? K N) (begun? K d N m and closed? K d N) table)
      (and_both (nodes_fit? K N) (sweeps? q below K d N m) (and_left (nodes_fit? K N) (placed and falls) others)
      (and_both (nodes? q below K d N) (begun? K d N m)
      (and_both placed (falls and forward? K d N) (and_left placed falls ordered) (and_both falls (forward? K d N) (and_right placed falls ordered) forward))
      (and_left (begun? K d N m) (closed? K d N) rests)))

  pub closed_certified : Certified lim q (f ∷ below) d N m
  closed_certified = certified lim q f below s m i d N certificate
