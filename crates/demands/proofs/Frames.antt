-- The definitions' frame is the frame, and the only one.
use mathlib.Core.Path.{◌≡◌, refl, sym, ap, ap₂, ◌∙◌, subst, subst₂}
use mathlib.Core.Logic.{◌⊎◌, inl, inr}
use mathlib.Core.List.{List, [], ◌∷◌, ◌++◌}
use Prim.Native.Nat.{ℕ, zero, suc, ◌+◌, ◌-◌, ◌<◌, ◌≤◌}
use native.Mathlib.Omega.{arith}
use lib.Dec.{T}
use lib.ListN.{length, get_or}
use Rattle.theory.specs.Laws.{Tri, below, same, above}
use Rattle.theory.specs.Induced.{nat_tri}
use Rattle.definitions.specs.Monomial.{Exponents, Monomial, Level, product, divides?, divides_monomial?, leading, leading_monomials, vector_of}
use Rattle.definitions.specs.Frame.{generators, minimal, with_component, frame_from, frame}
use Rattle.laws.proofs.Tests.{between_low, between_high, between_shown}
use Rattle.demands.specs.Notions.{Member}
use Rattle.demands.specs.Frames.{LeadingSyzygy, Before, BeforeAll, Ascending, IsFrame}
use Rattle.demands.proofs.Comparisons.{order}
use Rattle.demands.proofs.Members.{member_left, member_right, member_either, divides_trans, divides_both, divides_monomial, monomial_divides, says_under}
use Rattle.demands.proofs.Members.{under_says}
use Rattle.demands.proofs.Generators.{BelowAll, Sorted, Eights, MinimalGenerators, minimal_generators}

-- ## Terms of one number

pub tagged_either : (i : ℕ) (gs : List Exponents) (t : Monomial) → Member t (with_component i gs) → (t.1 ≡ i) × Member t.0 gs
tagged_either i [] t x' = elim x' [ ]
tagged_either i (g ∷ gs) t (inl e) = (ap (λ z. z.1) e, inl (ap (λ z. z.0) e))
tagged_either i (g ∷ gs) t (inr m) = let (a, b) = tagged_either i gs t m in (a, inr b)

tagged_member : (i : ℕ) (gs : List Exponents) (g : Exponents) → Member g gs → Member (g, i) (with_component i gs)
tagged_member i [] g x' = elim x' [ ]
tagged_member i (h ∷ gs) g (inl e) = inl (λ k. (e k, i))
tagged_member i (h ∷ gs) g (inr m) = inr (tagged_member i gs g m)

module _ (code : ℕ) where
  tagged_before : (i : ℕ) (g : Exponents) → length g ≡ 8 → (gs : List Exponents) → Sorted code gs → BelowAll code g gs
      → BeforeAll code (g, i) (with_component i gs)
  tagged_before i g e [] s b = tt
  tagged_before i g e (h ∷ gs) s b = (inr (refl, under_says code g h e s.0 b.0), tagged_before i g e gs s.2 b.1)

  tagged_ascending : (i : ℕ) (gs : List Exponents) → Sorted code gs → Ascending code (with_component i gs)
  tagged_ascending i [] s = tt
  tagged_ascending i (g ∷ gs) s = (tagged_before i g s.0 gs s.2 s.1, tagged_ascending i gs s.2)

  -- ## Lists one after the other

  before_append : (t : Monomial) (ts us : List Monomial) → BeforeAll code t ts → ((u : Monomial) → Member u us → Before code t u)
      → BeforeAll code t (ts ++ us)
  before_append t [] [] b h = tt
  before_append t [] (u ∷ us) b h = (h u (inl refl), before_append t [] us tt (λ v i. h v (inr i)))
  before_append t (s ∷ ts) us b h = (b.0, before_append t ts us b.1 h)

  ascending_append : (ts us : List Monomial) → Ascending code ts → Ascending code us → ((t u : Monomial) → Member t ts → Member u us → Before code t u)
      → Ascending code (ts ++ us)
  ascending_append [] us a b h = b
  ascending_append (t ∷ ts) us a b h = (
    before_append t ts us a.0 (λ u i. h t u (inl refl) i),
    ascending_append ts us a.1 b (λ s u i j. h s u (inr i) j),
  )

  -- ## The numbers from i on

  -- LM f_j for each j
  module _ (at : ℕ → Monomial) where
    -- m · LM f_i is a multiple of an earlier leading monomial
    pub record Earlier (t : Monomial) : Type 0 where
      pub j : ℕ
      pub low : 1 ≤ j
      pub high : j < t.1
      pub divides : T (divides_monomial? (at j) (product t.0 (at t.1).0, (at t.1).1))

    pub record Part (i many : ℕ) (ts : List Monomial) : Type 0 where
      pub covers : (t : Monomial) → length t.0 ≡ 8 → i ≤ t.1 → t.1 < i + many → Earlier t → (u : Monomial) × Member u ts
          × T (divides_monomial? u t)
      pub only : (t : Monomial) → Member t ts → (length t.0 ≡ 8) × (i ≤ t.1) × (t.1 < i + many) × Earlier t
      pub least : (t u : Monomial) → Member t ts → Member u ts → T (divides_monomial? t u) → t ≡ u
      pub numbered : Ascending code ts

    -- the lists of earlier and of remaining leading monomials are what `at` says
    pub record Splits (i : ℕ) (earlier ms : List Monomial) : Type 0 where
      pub before : (l : Monomial) → Member l earlier → (j : ℕ) × (1 ≤ j) × (j < i) × (l ≡ at j)
      pub listed : (j : ℕ) → 1 ≤ j → j < i → Member (at j) earlier
      pub behind : (k : ℕ) → k < length ms → at (i + k) ≡ get_or ms k ([], 0)

    splits_next : (i : ℕ) → 1 ≤ i → (earlier : List Monomial) (m : Monomial) (ms : List Monomial) → Splits i earlier (m ∷ ms)
        → Splits (suc i) (m ∷ earlier) ms
    splits_next i o earlier m ms s = record { before = from; listed = into; behind = next }
      where
        here : at i ≡ m
        here = let e : i ≡ i + 0 = omega arith in ap at e ∙ s.behind 0 (omega arith)

        from : (l : Monomial) → Member l (m ∷ earlier) → (j : ℕ) × (1 ≤ j) × (j < suc i) × (l ≡ at j)
        from l (inl e) = (i, o, omega arith, e ∙ sym here)
        from l (inr n) = let (j, a, b, e) = s.before l n in (j, a, omega arith, e)

        into : (j : ℕ) → 1 ≤ j → j < suc i → Member (at j) (m ∷ earlier)
        into j a b = go (nat_tri j i)
          where
            go : Tri (j < i) (j ≡ i) (i < j) → Member (at j) (m ∷ earlier)
            go (below l) = inr (s.listed j a l)
            go (same e) = inl (ap at e ∙ here)
            go (above l) = absurd (omega arith)

        next : (k : ℕ) → k < length ms → at (suc i + k) ≡ get_or ms k ([], 0)
        next k l = let e : suc i + k ≡ i + suc k = omega arith in ap at e ∙ s.behind (suc k) (omega arith)

    -- the minimal generators of number i, then the numbers after it
    module _ (i many : ℕ) (earlier ms : List Monomial) (s : Splits i earlier ms) (gs : List Exponents)
        (g : MinimalGenerators code (at i) earlier gs) (ts : List Monomial) (r : Part (suc i) many ts) where
      abbrev new : List Monomial
      new = with_component i gs

      next_covers : (t : Monomial) → length t.0 ≡ 8 → i ≤ t.1 → t.1 < i + suc many → Earlier t → (u : Monomial) × Member u (new ++ ts)
          × T (divides_monomial? u t)
      next_covers t e a b h = go (nat_tri i t.1)
        where
          go : Tri (i < t.1) (i ≡ t.1) (t.1 < i) → (u : Monomial) × Member u (new ++ ts) × T (divides_monomial? u t)
          go (below l) = let (u, m, d) = r.covers t e l (omega arith) h in (u, member_right u new ts m, d)
          go (above l) = absurd (omega arith)
          go (same k) =
              let z : h.j < i = subst (λ x. h.j < x) (sym k) h.high in
              let d : T (divides_monomial? (at h.j) (product t.0 (at i).0, (at i).1)) = subst
              (λ x. T (divides_monomial? (at h.j) (product t.0 (at x).0, (at x).1))) (sym k) h.divides in
              let (x, m, u) = g.covers t.0 e (at h.j) (s.listed h.j h.low z) d in
              ((x, i), member_left (x, i) new ts (tagged_member i gs x m), divides_monomial (x, i) t k u)

      next_only : (t : Monomial) → Member t (new ++ ts) → (length t.0 ≡ 8) × (i ≤ t.1) × (t.1 < i + suc many) × Earlier t
      next_only t m = go (member_either t new ts m)
        where
          at_i : (t.1 ≡ i) × Member t.0 gs → (length t.0 ≡ 8) × (i ≤ t.1) × (t.1 < i + suc many) × Earlier t
          at_i (e, k) =
              let (l, (x, n, d)) = g.real t.0 k in
              let (j, a, b, q) = s.before x n in (
                l,
                omega arith,
                omega arith,
                record {
                  j = j;
                  low = a;
                  high = omega arith;
                  divides = subst₂ (λ (y : Monomial) (z : ℕ). T (divides_monomial? y (product t.0 (at z).0, (at z).1))) q (sym e) d;
                },
              )

          go : Member t new ⊎ Member t ts → (length t.0 ≡ 8) × (i ≤ t.1) × (t.1 < i + suc many) × Earlier t
          go (inl k) = at_i (tagged_either i gs t k)
          go (inr k) = let (l, a, b, h) = r.only t k in (l, omega arith, omega arith, h)

      next_least : (t u : Monomial) → Member t (new ++ ts) → Member u (new ++ ts) → T (divides_monomial? t u) → t ≡ u
      next_least t u m k d = go (member_either t new ts m) (member_either u new ts k) (monomial_divides t u d)
        where
          go : Member t new ⊎ Member t ts → Member u new ⊎ Member u ts → (t.1 ≡ u.1) × T (divides? t.0 u.0) → t ≡ u
          go (inl a) (inl b) (e, v) = let x : t.0 ≡ u.0 = g.apart u.0 t.0 (tagged_either i gs u b).1 (tagged_either i gs t a).1 v in
              λ z. (x z, e z)
          go (inl a) (inr b) (e, v) = let x : t.1 ≡ i = (tagged_either i gs t a).0 in let y : suc i ≤ u.1 = (r.only u b).1 in absurd (omega arith)
          go (inr a) (inl b) (e, v) = let x : u.1 ≡ i = (tagged_either i gs u b).0 in let y : suc i ≤ t.1 = (r.only t a).1 in absurd (omega arith)
          go (inr a) (inr b) (e, v) = r.least t u a b d

      pub part_next : Part i (suc many) (with_component i gs ++ ts)
      part_next = record {
        covers = next_covers;
        only = next_only;
        least = next_least;
        numbered = ascending_append new ts (tagged_ascending i gs g.sorted) r.numbered
            (λ t u m k. let x : t.1 ≡ i = (tagged_either i gs t m).0 in let y : suc i ≤ u.1 = (r.only u k).1 in inl (omega arith));
      }

    frame_part : (ms : List Monomial) → Eights code ms → (i : ℕ) → 1 ≤ i → (earlier : List Monomial) → Eights code earlier → Splits i earlier ms
        → Part i (length ms) (frame_from code i earlier ms)
    frame_part [] es i o earlier ee s = record {
      covers = λ t e a b h. absurd (omega arith);
      only = λ t m. absurd m;
      least =
          λ t u m k d. absurd m;
      numbered = tt;
    }
    frame_part (m ∷ ms) es i o earlier ee s =
        part_next i (length ms) earlier (m ∷ ms) s (minimal (generators code earlier m))
        (subst (λ z. MinimalGenerators code z earlier (minimal (generators code earlier m))) (sym here) (minimal_generators code m es.0 earlier ee))
        (frame_from code (suc i) (m ∷ earlier) ms) (frame_part ms es.1 (suc i) (omega arith) (m ∷ earlier) (es.0, ee)
        (splits_next i o earlier m ms s))
      where
        here : at i ≡ m
        here = let e : i ≡ i + 0 = omega arith in ap at e ∙ s.behind 0 (omega arith)

-- ## The frame of a level

-- each leading monomial has eight exponents
abbrev pub EightEach : Level → Type 0
EightEach f = (j : ℕ) → j < length f → length (leading (get_or f j [])).0 ≡ 8

module _ (code : ℕ) (f : Level) (e : EightEach f) where
  abbrev at : ℕ → Monomial
  at j = leading (vector_of f j)

  eights : (g : Level) → EightEach g → Eights code (leading_monomials g)
  eights [] h = tt
  eights (v ∷ g) h = (h 0 (omega arith), eights g (λ j l. h (suc j) (omega arith)))

  monomials_length : (g : Level) → length (leading_monomials g) ≡ length g
  monomials_length [] = refl
  monomials_length (v ∷ g) = ap suc (monomials_length g)

  monomials_at : (g : Level) (k : ℕ) → k < length g → leading (get_or g k []) ≡ get_or (leading_monomials g) k ([], 0)
  monomials_at [] k l = absurd (omega arith)
  monomials_at (v ∷ g) zero l = refl
  monomials_at (v ∷ g) (suc k) l = monomials_at g k (omega arith)

  part : Part code at 1 (length f) (frame code (leading_monomials f))
  part = subst (λ z. Part code at 1 z (frame code (leading_monomials f))) (monomials_length f)
      (frame_part code at (leading_monomials f) (eights f e) 1 (omega arith) [] tt start)
    where
      start : Splits code at 1 [] (leading_monomials f)
      start = record {
        before = λ l m. absurd m;
        listed = λ j a b. absurd (omega arith);
        behind = λ k l. let z : 1 + k ≡ suc k = omega arith in ap at z ∙ monomials_at f k (omega (arith, monomials_length f));
      }

  pub is_frame : IsFrame code f (frame code (leading_monomials f))
  is_frame = record {
    covers = λ t l h. part.covers t l (between_low 1 t.1 (length f) h.in_range)
        (let k : t.1 ≤ length f = between_high 1 t.1 (length f) h.in_range in omega arith) (earlier t h);
    only = λ t m. let (l, a, b, h) = part.only t m in (l, syzygy t a (omega arith) h);
    minimal = part.least;
    numbered = part.numbered;
  }
    where
      earlier : (t : Monomial) → LeadingSyzygy f t → Earlier code at t
      earlier t h =
          let a : 1 ≤ h.j = between_low 1 h.j (t.1 - 1) h.earlier in
          let b : h.j ≤ t.1 - 1 = between_high 1 h.j (t.1 - 1) h.earlier in
          record { j = h.j; low = a; high = omega arith; divides = h.divides }

      syzygy : (t : Monomial) → 1 ≤ t.1 → t.1 ≤ length f → Earlier code at t → LeadingSyzygy f t
      syzygy t a b h = record {
        in_range = between_shown 1 t.1 (length f) a b;
        j = h.j;
        earlier = between_shown 1 h.j (t.1 - 1) h.low (let l : h.j < t.1 = h.high in omega arith);
        divides = h.divides;
      }

-- ## It is the only one

module _ (code : ℕ) (f : Level) where
  -- two frames have the same members
  same_members : (ts us : List Monomial) → IsFrame code f ts → IsFrame code f us → (t : Monomial) → Member t ts → Member t us
  same_members ts us a b t m =
      let (lt, ht) = a.only t m in
      let (u, mu, du) = b.covers t lt ht in
      let (lu, hu) = b.only u mu in
      let (s, ms, ds) = a.covers u lu hu in
      let (ls, hs) = a.only s ms in
      let (cu, eu) = monomial_divides u t du in
      let (cs, es) = monomial_divides s u ds in
      let e : s ≡ t = a.minimal s t ms m (divides_monomial s t (cs ∙ cu) (divides_trans s.0 u.0 t.0 (ls ∙ sym lu) es eu)) in
      let back : T (divides? t.0 u.0) = subst (λ (z : Monomial). T (divides? z.0 u.0)) e es in
      let x : u.0 ≡ t.0 = divides_both u.0 t.0 (lu ∙ sym lt) eu back in
      subst (λ z. Member z us) (λ i. (x i, cu i)) mu

  abbrev Eighted : List Monomial → Type 0
  Eighted ts = (t : Monomial) → Member t ts → length t.0 ≡ 8

  before_irreflexive : (t : Monomial) → length t.0 ≡ 8 → Before code t t → ⊥
  before_irreflexive t e (inl l) = omega arith
  before_irreflexive t e (inr (k, h)) = (order code 8).irrefl _ (says_under code t.0 t.0 e e h)

  before_both : (t u : Monomial) → length t.0 ≡ 8 → length u.0 ≡ 8 → Before code t u → Before code u t → ⊥
  before_both t u a b (inl l) (inl k) = omega arith
  before_both t u a b (inl l) (inr (k, h)) = omega arith
  before_both t u a b (inr (k, h)) (inl l) = omega arith
  before_both t u a b (inr (k, h)) (inr (l, i)) =
      (order code 8).irrefl _ ((order code 8).trans _ _ _ (says_under code t.0 u.0 a b h) (says_under code u.0 t.0 b a i))

  before_member : (t : Monomial) (ts : List Monomial) → BeforeAll code t ts → (u : Monomial) → Member u ts → Before code t u
  before_member t [] b u x'' = elim x'' [ ]
  before_member t (s ∷ ts) b u (inl e) = subst (Before code t) (sym e) b.0
  before_member t (s ∷ ts) b u (inr m) = before_member t ts b.1 u m

  -- ascending lists with the same members are one list
  one_list : (ts us : List Monomial) → Ascending code ts → Ascending code us → Eighted ts → Eighted us
      → ((t : Monomial) → Member t ts → Member t us) → ((t : Monomial) → Member t us → Member t ts) → ts ≡ us
  one_list [] [] a b et eu h k = refl
  one_list [] (u ∷ us) a b et eu h k = absurd (k u (inl refl))
  one_list (t ∷ ts) [] a b et eu h k = absurd (h t (inl refl))
  one_list (t ∷ ts) (u ∷ us) a b et eu h k = ap₂ (λ x y. x ∷ y) first (one_list ts us a.1 b.1 (λ s m. et s (inr m)) (λ s m. eu s (inr m)) down up)
    where
      first : t ≡ u
      first = go (h t (inl refl)) (k u (inl refl))
        where
          go : (t ≡ u) ⊎ Member t us → (u ≡ t) ⊎ Member u ts → t ≡ u
          go (inl e) _ = e
          go (inr m) (inl e) = sym e
          go (inr m) (inr n) = absurd (before_both t u (et t (inl refl)) (eu u (inl refl)) (before_member t ts a.0 u n)
              (before_member u us b.0 t m))

      down : (s : Monomial) → Member s ts → Member s us
      down s m = go (h s (inr m))
        where
          go : (s ≡ u) ⊎ Member s us → Member s us
          go (inl e) = absurd (before_irreflexive t (et t (inl refl)) (subst (Before code t) (e ∙ sym first) (before_member t ts a.0 s m)))
          go (inr n) = n

      up : (s : Monomial) → Member s us → Member s ts
      up s m = go (k s (inr m))
        where
          go : (s ≡ t) ⊎ Member s ts → Member s ts
          go (inl e) = absurd (before_irreflexive u (eu u (inl refl)) (subst (Before code u) (e ∙ first) (before_member u us b.0 s m)))
          go (inr n) = n

  pub only_frame : (ts us : List Monomial) → IsFrame code f ts → IsFrame code f us → ts ≡ us
  only_frame ts us a b =
      one_list ts us a.numbered b.numbered (λ t m. (a.only t m).0) (λ t m. (b.only t m).0) (same_members ts us a b) (same_members us ts b a)
