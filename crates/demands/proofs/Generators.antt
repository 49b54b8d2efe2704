-- The minimal generators of one number: ascending, real, covering, none dividing another.
use mathlib.Core.Path.{◌≡◌, refl, sym, ap, ◌∙◌, subst}
use mathlib.Core.Logic.{◌⊎◌, inl, inr}
use mathlib.Core.Bool.{Bool, true, false, not}
use mathlib.Core.List.{List, [], ◌∷◌}
use mathlib.Core.WellFounded.{Acc}
use Prim.Native.Nat.{ℕ, suc, ◌+◌, ◌-◌, ◌<◌, ◌≤◌, max}
use native.Mathlib.Omega.{arith}
use lib.Dec.{T, leb, eqb, leb→le, le→leb, eqb→eq, eqb_refl, T_not}
use lib.ListN.{length}
use lib.WfN.{lt-wf_rel}
use Rattle.definitions.specs.Lists.{any, those, sum}
use Rattle.definitions.specs.Monomial.{Exponents, Monomial, product, quotient, lcm, divides?, same_exponents?, divides_monomial?}
use Rattle.definitions.specs.Order.{Comparison, greater, equal, smaller, exponents_by}
use Rattle.definitions.specs.Frame.{into_ascending, generators, properly_divides?, minimal}
use Rattle.laws.proofs.Tests.{and_left, and_right, and_both}
use Rattle.demands.specs.Notions.{Member}
use Rattle.demands.proofs.Exponents.{same_is, same_refl, divides_refl}
use Rattle.demands.proofs.Comparisons.{Says, less, level, more, order}
use Rattle.demands.proofs.Members.{any_says, any_shown, those_says, those_shown, divides_trans, divides_degree, divides_monomial, monomial_divides}
use Rattle.demands.proofs.Members.{Under, eight_says}

-- ## One generator: lcm(a, b) / b

colon_length : (a b : Exponents) → length a ≡ length b → length (quotient (lcm a b) b) ≡ length b
colon_length [] [] l = refl
colon_length [] (y ∷ b) l = absurd (omega arith)
colon_length (x ∷ a) [] l = absurd (omega arith)
colon_length (x ∷ a) (y ∷ b) l = ap suc (colon_length a b (omega arith))

-- a divides lcm(a, b) / b times b
colon_real : (a b : Exponents) → T (divides? a (product (quotient (lcm a b) b) b))
colon_real [] b = tt
colon_real (x ∷ a) [] = tt
colon_real (x ∷ a) (y ∷ b) =
    and_both (leb x (max x y - y + y)) (divides? a (product (quotient (lcm a b) b) b))
    (le→leb x (max x y - y + y) (omega arith)) (colon_real a b)

-- .. and lcm(a, b) / b divides whatever m has a dividing m · b
colon_least : (a b m : Exponents) → length a ≡ length b → length m ≡ length b → T (divides? a (product m b)) → T (divides? (quotient (lcm a b) b) m)
colon_least [] b m l k t = tt
colon_least (x ∷ a) [] m l k t = tt
colon_least (x ∷ a) (y ∷ b) [] l k t = tt
colon_least (x ∷ a) (y ∷ b) (z ∷ m) l k t =
    let h : x ≤ z + y = leb→le x (z + y) (and_left (leb x (z + y)) (divides? a (product m b)) t) in
    and_both (leb (max x y - y) z) (divides? (quotient (lcm a b) b) m) (le→leb (max x y - y) z (omega arith))
    (colon_least a b m (omega arith) (omega arith) (and_right (leb x (z + y)) (divides? a (product m b)) t))

module _ (code : ℕ) where
  -- ## Ascending lists

  -- each below all that follow it, all with eight exponents
  abbrev pub BelowAll : Exponents → List Exponents → Type 0
  BelowAll g [] = Unit {0}
  BelowAll g (h ∷ l) = Under code g h × BelowAll g l

  abbrev pub Sorted : List Exponents → Type 0
  Sorted [] = Unit {0}
  Sorted (g ∷ l) = (length g ≡ 8) × BelowAll g l × Sorted l

  below_trans : (g h : Exponents) → Under code g h → (l : List Exponents) → BelowAll h l → BelowAll g l
  below_trans g h u [] b = tt
  below_trans g h u (k ∷ l) b = ((order code 8).trans _ _ _ u b.0, below_trans g h u l b.1)

  into_below : (k g : Exponents) → Under code k g → (l : List Exponents) → BelowAll k l → BelowAll k (into_ascending code g l)
  into_below k g u [] b = (u, tt)
  into_below k g u (h ∷ l) b = go (exponents_by code g h) (into_below k g u l b.1)
    where
      go : (c : Comparison) → BelowAll k (into_ascending code g l)
          → BelowAll k (elim c [ smaller ↦ g ∷ h ∷ l | equal ↦ h ∷ l | greater ↦ h ∷ into_ascending code g l ])
      go smaller r = (u, b)
      go equal r = b
      go greater r = (b.0, r)

  into_sorted : (g : Exponents) → length g ≡ 8 → (l : List Exponents) → Sorted l → Sorted (into_ascending code g l)
  into_sorted g e [] s = (e, tt, tt)
  into_sorted g e (h ∷ l) s = go (eight_says code g h e s.0) (into_sorted g e l s.2)
    where
      go : {c : Comparison} → Says (Under code g h) (g ≡ h) (Under code h g) c → Sorted (into_ascending code g l)
          → Sorted (elim c [ smaller ↦ g ∷ h ∷ l | equal ↦ h ∷ l | greater ↦ h ∷ into_ascending code g l ])
      go (less u) r = (e, (u, below_trans g h u l s.1), s)
      go (level u) r = s
      go (more u) r = (s.0, into_below h g u l s.1, r)

  -- what is there afterwards was there, or is g; and the other way round
  pub into_either : (g : Exponents) (l : List Exponents) (x : Exponents) → Member x (into_ascending code g l) → (x ≡ g) ⊎ Member x l
  into_either g [] x m = m
  into_either g (h ∷ l) x m = go (exponents_by code g h) m (into_either g l x)
    where
      go : (c : Comparison) → Member x (elim c [ smaller ↦ g ∷ h ∷ l | equal ↦ h ∷ l | greater ↦ h ∷ into_ascending code g l ])
          → (Member x (into_ascending code g l) → (x ≡ g) ⊎ Member x l) → (x ≡ g) ⊎ ((x ≡ h) ⊎ Member x l)
      go smaller m k = m
      go equal m k = inr m
      go greater (inl e) k = inr (inl e)
      go greater (inr m) k = turn (k m)
        where
          turn : (x ≡ g) ⊎ Member x l → (x ≡ g) ⊎ ((x ≡ h) ⊎ Member x l)
          turn (inl e) = inl e
          turn (inr i) = inr (inr i)

  into_member : (g : Exponents) → length g ≡ 8 → (l : List Exponents) → Sorted l → (x : Exponents) → (x ≡ g) ⊎ Member x l
      → Member x (into_ascending code g l)
  into_member g e [] s x m = m
  into_member g e (h ∷ l) s x m = go (eight_says code g h e s.0) m (into_member g e l s.2 x)
    where
      go : {c : Comparison} → Says (Under code g h) (g ≡ h) (Under code h g) c → (x ≡ g) ⊎ ((x ≡ h) ⊎ Member x l)
          → ((x ≡ g) ⊎ Member x l → Member x (into_ascending code g l))
          → Member x (elim c [ smaller ↦ g ∷ h ∷ l | equal ↦ h ∷ l | greater ↦ h ∷ into_ascending code g l ])
      go (less u) m k = m
      go (level u) (inl i) k = inl (i ∙ u)
      go (level u) (inr i) k = i
      go (more u) (inl i) k = inr (k (inl i))
      go (more u) (inr (inl i)) k = inl i
      go (more u) (inr (inr i)) k = inr (k (inr i))

  -- ## All generators

  -- the leading monomials have eight exponents
  abbrev pub Eights : List Monomial → Type 0
  Eights [] = Unit {0}
  Eights (l ∷ ls) = (length l.0 ≡ 8) × Eights ls

  -- ## Minimal ones

  abbrev minimal? : List Exponents → Exponents → Bool
  minimal? gs g = not (any (λ h. properly_divides? h g) gs)

  those_below : (f : Exponents → Bool) (g : Exponents) (l : List Exponents) → BelowAll g l → BelowAll g (those f l)
  those_below f g [] b = tt
  those_below f g (h ∷ l) b = go (f h) (those_below f g l b.1)
    where
      go : (s : Bool) → BelowAll g (those f l) → BelowAll g (elim s [ true ↦ h ∷ those f l | false ↦ those f l ])
      go true r = (b.0, r)
      go false r = r

  those_sorted : (f : Exponents → Bool) (l : List Exponents) → Sorted l → Sorted (those f l)
  those_sorted f [] s = tt
  those_sorted f (g ∷ l) s = go (f g) (those_sorted f l s.2)
    where
      go : (t : Bool) → Sorted (those f l) → Sorted (elim t [ true ↦ g ∷ those f l | false ↦ those f l ])
      go true r = (s.0, those_below f g l s.1, r)
      go false r = r

  sorted_length : (l : List Exponents) → Sorted l → (g : Exponents) → Member g l → length g ≡ 8
  sorted_length [] s g x'' = elim x'' [ ]
  sorted_length (h ∷ l) s g (inl e) = ap length e ∙ s.0
  sorted_length (h ∷ l) s g (inr i) = sorted_length l s.2 g i

  -- every generator is divided by a minimal one: go down along the degree
  minimal_under : (gs : List Exponents) → Sorted gs → (d : ℕ) → Acc ◌<◌ d → (g : Exponents) → Member g gs → sum g ≡ d
      → (h : Exponents) × Member h (minimal gs) × T (divides? h g)
  minimal_under gs s d (Acc.intro d' ih) g i e =
      go (any (λ h. properly_divides? h g) gs) (any_says (λ h. properly_divides? h g) gs) (λ t. t)
      (λ h l j. minimal_under gs s (sum h) (ih (sum h) (subst (λ z. sum h < z) e l)) h j refl)
    where
      go : (b : Bool) → (T b → (h : Exponents) × Member h gs × T (properly_divides? h g)) → (T (not b) → T (minimal? gs g))
          → ((h : Exponents) → sum h < sum g → Member h gs → (k : Exponents) × Member k (minimal gs) × T (divides? k h))
          → (h : Exponents) × Member h (minimal gs) × T (divides? h g)
      go false f k r = (g, those_shown (minimal? gs) gs g i (k tt), divides_refl g)
      go true f k r = under (f tt)
        where
          under : (h : Exponents) × Member h gs × T (properly_divides? h g) → (k : Exponents) × Member k (minimal gs) × T (divides? k g)
          under (h, j, t) = step (divides_degree h g (sorted_length gs s h j ∙ sym (sorted_length gs s g i)) w)
            where
              w : T (divides? h g)
              w = and_left (divides? h g) (not (same_exponents? h g)) t

              step : (sum h < sum g) ⊎ (h ≡ g) → (k : Exponents) × Member k (minimal gs) × T (divides? k g)
              step (inl l) =
                  let (k, n, u) = r h l j in
                  let lk : length k ≡ 8 = sorted_length gs s k (those_says (minimal? gs) gs k n).0 in
                  (k, n, divides_trans k h g (lk ∙ sym (sorted_length gs s h j)) u w)
              step (inr q) =
                  absurd (T_not (same_exponents? h g) (and_right (divides? h g) (not (same_exponents? h g)) t)
                  (subst (λ z. T (same_exponents? h z)) q (same_refl h)))

  -- no minimal one divides another
  minimal_apart : (gs : List Exponents) (g h : Exponents) → Member g (minimal gs) → Member h (minimal gs) → T (divides? h g) → h ≡ g
  minimal_apart gs g h i j t = go (same_exponents? h g) (same_is h g) (λ n. absurd
      (T_not (any (λ k. properly_divides? k g) gs) (those_says (minimal? gs) gs g i).1
      (any_shown (λ k. properly_divides? k g) gs h (those_says (minimal? gs) gs h j).0 (and_both (divides? h g) (not (same_exponents? h g)) t n))))
    where
      go : (b : Bool) → (T b → h ≡ g) → (T (not b) → h ≡ g) → h ≡ g
      go true f k = f tt
      go false f k = k tt

  -- ## The minimal generators of m

  module _ (m : Monomial) where
    -- a generator has eight exponents, and an earlier leading monomial divides its multiple of m
    pub record Generates (earlier : List Monomial) (gs : List Exponents) : Type 0 where
      pub sorted : Sorted gs
      pub real : (g : Exponents) → Member g gs → (length g ≡ 8) × ((l : Monomial) × Member l earlier × T (divides_monomial? l (product g m.0, m.1)))
      pub covers : (x : Exponents) → length x ≡ 8 → (l : Monomial) → Member l earlier → T (divides_monomial? l (product x m.0, m.1))
          → (g : Exponents) × Member g gs × T (divides? g x)

    -- .. and none divides another
    pub record MinimalGenerators (earlier : List Monomial) (gs : List Exponents) : Type 0 where
      pub sorted : Sorted gs
      pub real : (g : Exponents) → Member g gs → (length g ≡ 8) × ((l : Monomial) × Member l earlier × T (divides_monomial? l (product g m.0, m.1)))
      pub covers : (x : Exponents) → length x ≡ 8 → (l : Monomial) → Member l earlier → T (divides_monomial? l (product x m.0, m.1))
          → (g : Exponents) × Member g gs × T (divides? g x)
      pub apart : (g h : Exponents) → Member g gs → Member h gs → T (divides? h g) → h ≡ g

  module _ (m : Monomial) (em : length m.0 ≡ 8) where
    -- x · m
    abbrev onto : Exponents → Monomial
    onto x = (product x m.0, m.1)

    generated : (earlier : List Monomial) → Eights earlier → Generates m earlier (generators code earlier m)
    generated [] es = record { sorted = tt; real = λ g i. absurd i; covers = λ x e l i t. absurd i }
    generated (l ∷ earlier) es = go (eqb l.1 m.1) (eqb→eq l.1 m.1) (λ e. subst (λ z. T (eqb l.1 z)) e (eqb_refl l.1))
        (generated earlier es.1)
      where
        gs : List Exponents
        gs = generators code earlier m

        c : Exponents
        c = quotient (lcm l.0 m.0) m.0

        ec : length c ≡ 8
        ec = colon_length l.0 m.0 (es.0 ∙ sym em) ∙ em

        -- another component gives nothing
        other : (l.1 ≡ m.1 → ⊥) → Generates m earlier gs → Generates m (l ∷ earlier) gs
        other n r = record {
          sorted = r.sorted;
          real = λ g i. let (e, (k, j, t)) = r.real g i in (e, (k, inr j, t));
          covers = λ x e k i t. at x e k i t;
        }
          where
            at : (x : Exponents) → length x ≡ 8 → (k : Monomial) → Member k (l ∷ earlier) → T (divides_monomial? k (onto x))
                → (g : Exponents) × Member g gs × T (divides? g x)
            at x e k (inl i) t = absurd (n (subst (λ (z : Monomial). z.1 ≡ m.1) i (monomial_divides k (onto x) t).0))
            at x e k (inr i) t = r.covers x e k i t

        same : l.1 ≡ m.1 → Generates m earlier gs → Generates m (l ∷ earlier) (into_ascending code c gs)
        same n r = record { sorted = into_sorted c ec gs r.sorted; real = λ g i. from g (into_either c gs g i); covers = at }
          where
            from : (g : Exponents) → (g ≡ c) ⊎ Member g gs → (length g ≡ 8)
                × ((k : Monomial) × Member k (l ∷ earlier) × T (divides_monomial? k (onto g)))
            from g (inl e) = (
              ap length e ∙ ec,
              (
                l,
                inl refl,
                divides_monomial l (onto g) n
                    (subst (λ z. T (divides? l.0 (product z m.0))) (sym e) (colon_real l.0 m.0)),
              ),
            )
            from g (inr i) = let (e, (k, j, t)) = r.real g i in (e, (k, inr j, t))

            at : (x : Exponents) → length x ≡ 8 → (k : Monomial) → Member k (l ∷ earlier) → T (divides_monomial? k (onto x))
                → (g : Exponents) × Member g (into_ascending code c gs) × T (divides? g x)
            at x e k (inl i) t = (
              c,
              into_member c ec gs r.sorted c (inl refl),
              colon_least l.0 m.0 x (es.0 ∙ sym em) (e ∙ sym em)
                  (subst (λ (z : Monomial). T (divides? z.0 (product x m.0))) i (monomial_divides k (onto x) t).1),
            )
            at x e k (inr i) t = let (g, j, d) = r.covers x e k i t in (g, into_member c ec gs r.sorted g (inr j), d)

        go : (s : Bool) → (T s → l.1 ≡ m.1) → (l.1 ≡ m.1 → T s) → Generates m earlier gs
            → Generates m (l ∷ earlier) (elim s [ true ↦ into_ascending code c gs | false ↦ gs ])
        go true h k r = same (h tt) r
        go false h k r = other k r

    pub minimal_generators : (earlier : List Monomial) → Eights earlier → MinimalGenerators m earlier (minimal (generators code earlier m))
    minimal_generators earlier es = record {
      sorted = those_sorted (minimal? gs) gs r.sorted;
      real = λ g i. r.real g (those_says (minimal? gs) gs g i).0;
      covers = at;
      apart = minimal_apart gs;
    }
      where
        gs : List Exponents
        gs = generators code earlier m

        r : Generates m earlier gs
        r = generated earlier es

        at : (x : Exponents) → length x ≡ 8 → (l : Monomial) → Member l earlier → T (divides_monomial? l (onto x))
            → (g : Exponents) × Member g (minimal gs) × T (divides? g x)
        at x e l i t =
            let (g, j, d) = r.covers x e l i t in
            let (h, k, u) = minimal_under gs r.sorted (sum g) (lt-wf_rel.wf.apply (sum g)) g j refl in
            let lh : length h ≡ 8 = sorted_length gs r.sorted h (those_says (minimal? gs) gs h k).0 in
            (h, k, divides_trans h g x (lh ∙ sym (r.real g j).0) u d)
