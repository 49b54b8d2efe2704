-- The nodes of a table over sound levels are descending monomials of the theory, and the pass over them gives the reckoning's vector.
use mathlib.Core.Path.{◌≡◌, refl, sym, ap, ap₂, ◌∙◌, subst, subst₂}
use mathlib.Core.Bool.{Bool}
use mathlib.Core.Option.{some}
use mathlib.Core.List.{List, [], ◌∷◌}
use Prim.Native.Nat.{ℕ, suc, ◌-◌, ◌<◌, ◌≤◌}
use native.Mathlib.Omega.{arith}
use lib.Dec.{T, eqb, eqb→eq}
use lib.ListN.{length, drop}
use Rattle.theory.specs.Stage.{Real}
use Rattle.definitions.specs.Limits.{Limits}
use Rattle.definitions.specs.Lists.{◌and◌, every, between, rest}
use Rattle.definitions.specs.Monomial
use Rattle.definitions.specs.Monomial.{Monomial, leading_monomials}
use Rattle.definitions.specs.Order.{Comparison, greater?, compare_over}
use Rattle.definitions.specs.Frame.{frame}
use Rattle.definitions.specs.Stage.{highest, stage_over}
use Rattle.definitions.specs.Problem.{Parameters}
use Rattle.definitions.specs.Reckoning.{reckoned_vector}
use Rattle.laws.proofs.Modular.{Prime}
use Rattle.laws.proofs.Tests.{and_left, and_right, between_low, between_high}
use Rattle.demands.specs.Notions.{Member}
use Rattle.demands.proofs.Exponents.{out_into}
use Rattle.demands.proofs.Comparisons.{Says, less, level, more}
use Rattle.demands.proofs.Levels.{Mono, TLevel, mono, monos, flat, flats, flat_length, Has, over_says}
use Rattle.demands.proofs.Setting.{Setting, S, L, A}
use Rattle.demands.proofs.Soundness.{tmono, tlevel, tlevels, Deep, deep_grounded, LevelsRight}
use Rattle.demands.proofs.Steps.{stage}
use Rattle.demands.proofs.Bases.{here}
use Rattle.demands.proofs.Stages.{Written, written, term_real}
use Rattle.demands.proofs.Reckoned.{vector_bound}
use Rattle.sweeps.specs.Table.{begun?}
use Rattle.sweeps.specs.Sweep.{swept, placed?, falling?, forward?, components, nodes?, sweeps?}
use Rattle.sweeps.proofs.Footing.{Footing}
use Rattle.sweeps.proofs.Passing.{Below, Falling}
use Rattle.sweeps.proofs.Vectors.{swept_is}

module _ (lim : Limits) (q : Parameters) (P : Prime q.p) (eight : q.n ≤ 8) (f : TLevel q.n) (b : List (TLevel q.n))
    (D : Deep q.n q.p P q.code (f ∷ b)) (d : Bool) where
  abbrev pub Z : Setting
  Z = here q P eight f b D

  ranged : (b : List (TLevel q.n)) → Deep q.n q.p P q.code b → (x : Mono q.n) → x.1 < components q (flats q.n b) → Has q.n b x
  ranged [] D x l = tt
  ranged (g ∷ b) D x l = (D.0 x.1 (let e : length (flat q.n g) ≡ length g = flat_length q.n g in omega arith)).has_one

  abbrev count : ℕ
  count = components q (flats q.n b)

  -- ## One node

  record NodeRight (m : Monomial) : Type 0 where
    back : mono q.n (tmono q.n m) ≡ m
    has : Has q.n b (tmono q.n m)

  node_right : (m : Monomial) → T (placed? q count m) → NodeRight m
  node_right m t = record {
    back = λ i. (out_into q.n eight m.0 long past i, component i);
    has = ranged b D.1 (tmono q.n m) (omega (arith, low, high));
  }
    where
      past? : Bool
      past? = every (λ x. eqb x 0) (drop q.n m.0)

      later : T (past? and between 1 m.1 count)
      later = and_right (eqb (length m.0) 8) (past? and between 1 m.1 count) t

      long : length m.0 ≡ 8
      long = eqb→eq (length m.0) 8 (and_left (eqb (length m.0) 8) (past? and between 1 m.1 count) t)

      past : T (every (λ x. eqb x 0) (drop q.n m.0))
      past = and_left past? (between 1 m.1 count) later

      low : 1 ≤ m.1
      low = between_low 1 m.1 count (and_right past? (between 1 m.1 count) later)

      high : m.1 ≤ count
      high = between_high 1 m.1 count (and_right past? (between 1 m.1 count) later)

      component : suc (m.1 - 1) ≡ m.1
      component = omega (arith, low)

  -- ## All nodes

  abbrev pub tnodes : List Monomial → List (Mono q.n)
  tnodes [] = []
  tnodes (m ∷ N) = tmono q.n m ∷ tnodes N

  pub nodes_back : (N : List Monomial) → T (every (placed? q count) N) → monos q.n (tnodes N) ≡ N
  nodes_back [] t = refl
  nodes_back (m ∷ N) t =
      ap₂ (λ x y. x ∷ y) (node_right m (and_left (placed? q count m) (every (placed? q count) N) t)).back
      (nodes_back N (and_right (placed? q count m) (every (placed? q count) N) t))

  above : (x y : Mono q.n) → Has q.n b x → Has q.n b y → T (greater? (compare_over q.code (flats q.n b) (mono q.n x) (mono q.n y)))
      → (L Z).Lt y x
  above x y hx hy = go (over_says q.n q.code b (deep_grounded q.n q.p P q.code b D.1) x y hx hy)
    where
      go : {c : Comparison} → Says ((L Z).Lt x y) (x ≡ y) ((L Z).Lt y x) c → T (greater? c) → (L Z).Lt y x
      go (more s) t = s
      go (level s) t = absurd t
      go (less s) t = absurd t

  below_under : (xs : List (Mono q.n)) (y x : Mono q.n) → (L Z).Lt y x → Below Z lim d xs y → Below Z lim d xs x
  below_under [] y x l h = tt
  below_under (z ∷ xs) y x l h = ((L Z).trans z y x h.0 l, below_under xs y x l h.1)

  pub nodes_fall : (N : List Monomial) → T (every (placed? q count) N) → T (falling? (compare_over q.code (flats q.n b)) N) → Falling Z lim d (tnodes N)
  nodes_fall [] t k = tt
  nodes_fall (m ∷ []) t k = (tt, tt)
  nodes_fall (m ∷ n ∷ N) t k =
      go (nodes_fall (n ∷ N) u (and_right (greater? (compare_over q.code (flats q.n b) m n)) (falling? (compare_over q.code (flats q.n b)) (n ∷
      N)) k))
    where
      u : T (every (placed? q count) (n ∷ N))
      u = and_right (placed? q count m) (every (placed? q count) (n ∷ N)) t

      first : NodeRight m
      first = node_right m (and_left (placed? q count m) (every (placed? q count) (n ∷ N)) t)

      second : NodeRight n
      second = node_right n (and_left (placed? q count n) (every (placed? q count) N) u)

      l : (L Z).Lt (tmono q.n n) (tmono q.n m)
      l = above (tmono q.n m) (tmono q.n n) first.has second.has
          (subst₂ (λ x y. T (greater? (compare_over q.code (flats q.n b) x y))) (sym first.back) (sym second.back)
          (and_left (greater? (compare_over q.code (flats q.n b) m n)) (falling? (compare_over q.code (flats q.n b)) (n ∷ N)) k))

      go : Falling Z lim d (tnodes (n ∷ N)) → Falling Z lim d (tnodes (m ∷ n ∷ N))
      go ih = ((l, below_under (tnodes N) (tmono q.n n) (tmono q.n m) l ih.0), ih)

  -- ## The vector of a frame term

  abbrev pub ls : List Monomial.Level
  ls = flats q.n (f ∷ b)

  -- what the tests say, over monomials of the theory
  pub record TableRight (N : List Monomial) (m : Monomial) : Type 0 where
    pub xs : List (Mono q.n)
    pub xs_are : monos q.n xs ≡ N
    pub x : Mono q.n
    pub x_is : mono q.n x ≡ m
    pub member : Member (mono q.n x) (frame (lim.numbering q.code) (leading_monomials (flat q.n f)))
    pub real : Real (S Z) (L Z) (A Z) x
    pub falls : Falling Z lim d xs
    pub forward : T (forward? (stage Z lim) d (monos q.n xs))
    pub begins : T (begun? (stage Z lim) d (monos q.n xs) (mono q.n x))

  pub table_right : (N : List Monomial) (m : Monomial) → Member m (frame (lim.numbering q.code) (leading_monomials (flat q.n f)))
      → T (sweeps? q (flats q.n b) (stage Z lim) d N m) → TableRight N m
  table_right N m i t = record {
    xs = tnodes N;
    xs_are = back;
    x = w.x;
    x_is = sym w.is;
    member = j;
    real = term_real Z eight (lim.numbering q.code) w.x j;
    falls = nodes_fall N placed (and_left (falling? (stage Z lim).below N) (forward? (stage Z lim) d N) later);
    forward = subst (λ y. T (forward? (stage Z lim) d y)) (sym back) (and_right (falling? (stage Z lim).below N) (forward? (stage Z lim) d N) later);
    begins = subst₂ (λ y z. T (begun? (stage Z lim) d y z)) (sym back) w.is (and_right (nodes? q (flats q.n b) (stage Z lim) d N) (begun? (stage Z lim)
        d N m) t);
  }
    where
      w : Written Z eight (lim.numbering q.code) m
      w = written Z eight (lim.numbering q.code) m i

      j : Member (mono q.n w.x) (frame (lim.numbering q.code) (leading_monomials (flat q.n f)))
      j = subst (λ z. Member z (frame (lim.numbering q.code) (leading_monomials (flat q.n f)))) w.is i

      tested : T (nodes? q (flats q.n b) (stage Z lim) d N)
      tested = and_left (nodes? q (flats q.n b) (stage Z lim) d N) (begun? (stage Z lim) d N m) t

      placed : T (every (placed? q count) N)
      placed = and_left (every (placed? q count) N) (falling? (stage Z lim).below N and forward? (stage Z lim) d N) tested

      later : T (falling? (stage Z lim).below N and forward? (stage Z lim) d N)
      later = and_right (every (placed? q count) N) (falling? (stage Z lim).below N and forward? (stage Z lim) d N) tested

      back : monos q.n (tnodes N) ≡ N
      back = nodes_back N placed

  reckons : (N : List Monomial) (m : Monomial) → Member m (frame (lim.numbering q.code) (leading_monomials (flat q.n f)))
      → T (sweeps? q (flats q.n b) (stage Z lim) d N m)
      → (bound : ℕ) × (reckoned_vector bound q.p q.code ls m ≡ some (swept (stage Z lim) N m))
  reckons N m i t =
      subst₂ (λ y z. (bound : ℕ) × (reckoned_vector bound q.p q.code ls z ≡ some (swept (stage Z lim) y z))) r.xs_are r.x_is (
        (vector_bound Z r.x r.real.0).0,
        (vector_bound Z r.x r.real.0).1 ∙ ap some (sym (swept_is Z lim d r.xs r.falls r.forward r.x r.real r.begins)),
      )
    where
      r : TableRight N m
      r = table_right N m i t

-- ## Over sound levels

-- the sweep gives the reckoning's vector
pub sweep_reckons : (lim : Limits) (q : Parameters) (f : Monomial.Level) (below : List Monomial.Level) → Footing lim q (f ∷ below)
    → (m : Monomial) → Member m (frame (lim.numbering q.code) (leading_monomials f)) → (d : Bool) (N : List Monomial)
    → T (sweeps? q below (stage_over lim q.p q.code (f ∷ below)) d N m)
    → (bound : ℕ) × (reckoned_vector bound q.p q.code (f ∷ below) m ≡ some (swept (stage_over lim q.p q.code (f ∷ below)) N m))
sweep_reckons lim q f below s m i d N =
    subst (λ ls. Member m (frame (lim.numbering q.code) (leading_monomials (highest ls)))
    → T (sweeps? q (rest ls) (stage_over lim q.p q.code ls) d N m)
    → (bound : ℕ) × (reckoned_vector bound q.p q.code ls m ≡ some (swept (stage_over lim q.p q.code ls) N m))) r.back
    (reckons lim q P eight (tlevel q.n f) (tlevels q.n below) r.deep d N m) i
  where
    P : Prime q.p
    P = s.prime

    eight : q.n ≤ 8
    eight = s.eight

    r : LevelsRight lim q P eight (f ∷ below)
    r = s.right
