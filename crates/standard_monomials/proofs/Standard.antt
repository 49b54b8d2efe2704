-- The monomials that are counted: exactly those of the degree that no leading monomial divides, each once.
use mathlib.Core.Path.{◌≡◌, refl, sym, ap, ap₂, ◌∙◌, subst}
use mathlib.Core.Logic.{◌⊎◌, inl, inr}
use mathlib.Core.Bool.{Bool, true, false, not}
use mathlib.Core.List.{List, [], ◌∷◌, ◌++◌}
use Prim.Native.Nat.{ℕ, zero, suc, ◌+◌, ◌-◌, ◌<◌, ◌≤◌}
use native.Mathlib.Omega.{arith}
use lib.Dec.{T, leb, eqb, leb→le, nleb→lt, eqb→eq, eqb_refl, T_not}
use lib.ListN.{length, get_or, drop, replicate}
use Rattle.definitions.specs.Lists.{every, those, map, from, between}
use Rattle.definitions.specs.Monomial.{Exponents, Monomial, Level, degree, divides_monomial?, leading, leading_monomials, vector_of}
use Rattle.definitions.specs.Problem.{Parameters}
use Rattle.definitions.specs.Degrees.{component_degree, degree_by}
use Rattle.definitions.specs.Standard.{of_degree_in, in_component, in_components, standard}
use Rattle.definitions.specs.Places.{exponents_length}
use Rattle.laws.proofs.Tests.{and_both, between_low, between_high, between_shown}
use Rattle.demands.specs.Notions.{Member, Divided}
use Rattle.demands.proofs.Members.{member_left, member_right, member_either, any_says, any_shown, those_says, those_shown}
use Rattle.standard_monomials.specs.Notions.{Undivided, ListsEach}
use Rattle.standard_monomials.specs.Standard.{StandardRight}
use Rattle.standard_monomials.proofs.Counts.{length_those}
use Rattle.standard_monomials.proofs.Each.{map_shown, map_says, distinct_append, distinct_those, distinct_map, one_number}
use Rattle.standard_monomials.proofs.Ways.{Long, ways_right}
use Rattle.standard_monomials.proofs.Shift.{ways_left, left_passed, left_long}
use Rattle.standard_monomials.proofs.Components.{padded, component_left}
use Rattle.standard_monomials.proofs.Padding.{degree_padded, padded_apart, Padded, padded_eight, padded_of}
use Rattle.standard_monomials.proofs.Partition.{divided_by?, undivided}

-- ## Of the degree left

-- the same lists for what means the same
lists_same : {A : Type 0} {P Q : A → Type 0} {l : List A} → ((a : A) → P a → Q a) → ((a : A) → Q a → P a) → ListsEach P l → ListsEach Q l
lists_same f g L = record { all = λ a q. L.all a (g a q); only = λ a m. f a (L.only a m); once = L.once }

left_right : (n g d : ℕ) → ListsEach (λ e. Long n e × (degree e + g ≡ d)) (ways_left n g d)
left_right n zero d =
    lists_same (λ e h. (h.0, let z = h.1 in omega (arith, z))) (λ e h. (h.0, let z = h.1 in omega (arith, z))) (ways_right n d)
left_right n (suc g) zero = record { all = λ e h. absurd (let z = h.1 in omega (arith, z)); only = λ e m. absurd m; once = tt }
left_right n (suc g) (suc d) =
    lists_same (λ e h. (h.0, let z = h.1 in omega (arith, z))) (λ e h. (h.0, let z = h.1 in omega (arith, z))) (left_right n g d)

-- ## Of one component

module _ (n : ℕ) (gs : List ℕ) (d : ℕ) where
  abbrev OfDegree : Monomial → Type 0
  OfDegree m = Padded n m.0 × (degree_by gs m ≡ d)

  component_right : (i : ℕ) → ListsEach (λ m. (m.1 ≡ i) × OfDegree m) (in_component n gs d i)
  component_right i = subst (ListsEach (λ m. (m.1 ≡ i) × OfDegree m)) (sym (component_left n gs d i)) (record {
    all = λ m h. all m h;
    only = λ m k. only m k;
    once = distinct_map (Long n) (λ e. (padded n e, i)) apart own (left_long n (component_degree gs i) d) (left_right n (component_degree gs i) d).once;
  })
    where
      own : List Exponents
      own = ways_left n (component_degree gs i) d

      apart : (a b : Exponents) → Long n a → Long n b → ◌≡◌ {A = Monomial} (padded n a, i) (padded n b, i) → a ≡ b
      apart a b h k e = padded_apart n a b (h ∙ sym k) (ap (λ (m : Monomial). m.0) e)

      all : (m : Monomial) → (m.1 ≡ i) × OfDegree m → Member m (map (λ e. (padded n e, i)) (ways_left n (component_degree gs i) d))
      all m (c, (p, e)) =
          let a = p.own in
          let z : degree a + component_degree gs i ≡ d =
          ap₂ (λ x j. x + component_degree gs j) (sym (degree_padded n a) ∙ sym (ap degree p.is)) (sym c) ∙ e in
          subst (λ (u : Monomial). Member u (map (λ e. (padded n e, i)) (ways_left n (component_degree gs i) d))) (λ k. (sym p.is k, sym c k))
          (map_shown (λ e. (padded n e, i)) (ways_left n (component_degree gs i) d) a ((left_right n (component_degree gs i) d).all a (p.long, z)))

      only : (m : Monomial) → Member m (map (λ e. (padded n e, i)) (ways_left n (component_degree gs i) d)) → (m.1 ≡ i) × OfDegree m
      only m k =
          let (a, j, e) = map_says (λ e. (padded n e, i)) (ways_left n (component_degree gs i) d) m k in
          let (long, z) = (left_right n (component_degree gs i) d).only a j in
          subst (λ (u : Monomial). (u.1 ≡ i) × OfDegree u) (sym e)
          (refl, (record { own = a; long = long; is = refl }, ap (λ x. x + component_degree gs i) (degree_padded n a) ∙ z))

  -- ## Of components i, i + 1, .., so many of them

  abbrev Between : ℕ → ℕ → Monomial → Type 0
  Between i k m = (i ≤ m.1) × (m.1 < i + k) × OfDegree m

  one_more : (k i : ℕ) → ListsEach (Between (suc i) k) (in_components n gs d (from (suc i) k))
      → ListsEach (Between i (suc k)) (in_component n gs d i ++ in_components n gs d (from (suc i) k))
  one_more k i L = record {
    all = λ m h. all m h (eqb m.1 i) (eqb→eq m.1 i) (other m);
    only = λ m j. only m (member_either m here later j);
    once = distinct_append here later (component_right i).once L.once
        (λ m j l. let a = ((component_right i).only m j).0 in let b = (L.only m l).0 in omega (arith, a, b));
  }
    where
      here : List Monomial
      here = in_component n gs d i

      later : List Monomial
      later = in_components n gs d (from (suc i) k)

      other : (m : Monomial) → T (not (eqb m.1 i)) → ¬ (m.1 ≡ i)
      other m t e = T_not (eqb m.1 i) t (subst (λ j. T (eqb m.1 j)) e (eqb_refl m.1))

      all : (m : Monomial) → Between i (suc k) m → (b : Bool) → (T b → m.1 ≡ i) → (T (not b) → ¬ (m.1 ≡ i)) → Member m (here ++ later)
      all m h true e o = member_left m here later ((component_right i).all m (e tt, h.2))
      all m h false e o =
          let a = h.0 in let b = h.1 in let c = o tt in
          member_right m here later (L.all m (omega (arith, a, c), omega (arith, b), h.2))

      only : (m : Monomial) → Member m here ⊎ Member m later → Between i (suc k) m
      only m (inl j) = let h = (component_right i).only m j in let e = h.0 in (omega (arith, e), omega (arith, e), h.1)
      only m (inr j) = let h = L.only m j in let a = h.0 in let b = h.1 in (omega (arith, a), omega (arith, b), h.2)

  components_right : (k i : ℕ) → ListsEach (Between i k) (in_components n gs d (from i k))
  components_right zero i = record { all = λ m h. absurd (let a = h.0 in let b = h.1 in omega (arith, a, b)); only = λ m j. absurd j; once = tt }
  components_right (suc k) i = one_more k i (components_right k (suc i))

-- ## Divided

leading_shown : (f : Level) (i : ℕ) → i < length f → Member (leading (get_or f i [])) (leading_monomials f)
leading_shown [] i l = absurd (omega (arith, l))
leading_shown (v ∷ f) zero l = inl refl
leading_shown (v ∷ f) (suc i) l = inr (leading_shown f i (omega (arith, l)))

leading_says : (f : Level) (m : Monomial) → Member m (leading_monomials f) → (i : ℕ) × (i < length f) × (m ≡ leading (get_or f i []))
leading_says [] m x' = elim x' [ ]
leading_says (v ∷ f) m (inl e) = (0, omega arith, e)
leading_says (v ∷ f) m (inr j) = let (i, l, e) = leading_says f m j in (suc i, omega (arith, l), e)

divided_shown : (f : Level) (m : Monomial) → Divided f m → T (divided_by? (leading_monomials f) m)
divided_shown f m h = go h.i h.in_range h.divides
  where
    go : (i : ℕ) → T (between 1 i (length f)) → T (divides_monomial? (leading (vector_of f i)) m) → T (divided_by? (leading_monomials f) m)
    go zero r t = absurd (let z : 1 ≤ 0 = between_low 1 0 (length f) r in omega (arith, z))
    go (suc i) r t =
        any_shown (λ l. divides_monomial? l m) (leading_monomials f) (leading (get_or f i []))
        (leading_shown f i (let z = between_high 1 (suc i) (length f) r in omega (arith, z))) t

divided_says : (f : Level) (m : Monomial) → T (divided_by? (leading_monomials f) m) → Divided f m
divided_says f m t =
    let (l, j, s) = any_says (λ l. divides_monomial? l m) (leading_monomials f) t in
    let (i, k, e) = leading_says f l j in
    record {
      i = suc i;
      in_range = between_shown 1 (suc i) (length f) (omega arith) (omega (arith, k));
      divides = subst (λ x. T (divides_monomial? x m)) e s;
    }

-- ## In the module

past_shown : (n : ℕ) (e : Exponents) → ((i : ℕ) → n ≤ i → get_or e i 0 ≡ 0) → T (every (λ x. eqb x 0) (drop n e))
past_shown zero [] h = tt
past_shown zero (x ∷ e) h =
    and_both (eqb x 0) (every (λ x. eqb x 0) e) (subst (λ z. T (eqb z 0)) (sym (h 0 (omega arith))) tt) (past_shown zero e (λ i l. h (suc i) (omega arith)))
past_shown (suc n) [] h = tt
past_shown (suc n) (x ∷ e) h = past_shown n e (λ i l. h (suc i) (omega (arith, l)))

past_says : (n k : ℕ) (a : Exponents) → Long n a → (i : ℕ) → n ≤ i → get_or (a ++ replicate k 0) i 0 ≡ 0
past_says zero k [] h i l = zeros k i
  where
    zeros : (k i : ℕ) → ◌≡◌ {A = ℕ} (get_or (replicate k 0) i 0) 0
    zeros zero i = refl
    zeros (suc k) zero = refl
    zeros (suc k) (suc i) = zeros k i
past_says zero k (x ∷ a) h i l = absurd (omega (arith, h))
past_says (suc n) k [] h i l = absurd (omega (arith, h))
past_says (suc n) k (x ∷ a) h zero l = absurd (omega (arith, l))
past_says (suc n) k (x ∷ a) h (suc i) l = past_says n k a (omega (arith, h)) i (omega (arith, l))

module _ (q : Parameters) (eight : q.n ≤ exponents_length) (f : Level) (d : ℕ) where
  abbrev free? : Monomial → Bool
  free? m = not (divided_by? (leading_monomials f) m)

  abbrev all_of : List Monomial
  all_of = in_components q.n q.degrees d (from 1 q.s)

  undivided_shown : (m : Monomial) → Undivided q f d m → Member m (standard q f d)
  undivided_shown m h =
      let a = h.inside.low in
      let b = h.inside.high in
      those_shown free? all_of m
      ((components_right q.n q.degrees d q.s 1).all m
      (a, omega (arith, b), (padded_of q.n eight m.0 h.inside.eight (past_shown q.n m.0 h.inside.past), h.degree)))
      (free (divided_by? (leading_monomials f) m) (λ t. h.no_divisor (divided_says f m t)))
    where
      free : (b : Bool) → ¬ (T b) → T (not b)
      free true n = absurd (n tt)
      free false n = tt

  undivided_says : (m : Monomial) → Member m (standard q f d) → Undivided q f d m
  undivided_says m j =
      let (i, t) = those_says free? all_of m j in
      let h = (components_right q.n q.degrees d q.s 1).only m i in
      let a = h.0 in
      let b = h.1 in
      let p = h.2.0 in
      record {
        inside = record {
          eight = padded_eight q.n eight m.0 p;
          past = λ i l. subst (λ e. get_or e i 0 ≡ 0) (sym p.is) (past_says q.n (exponents_length - q.n) p.own p.long i l);
          low = a;
          high = omega (arith, b);
        };
        degree = h.2.1;
        no_divisor = λ v. T_not (divided_by? (leading_monomials f) m) t (divided_shown f m v);
      }

  standard_listed : ListsEach (Undivided q f d) (standard q f d)
  standard_listed = record {
    all = undivided_shown;
    only = undivided_says;
    once = distinct_those free? all_of (components_right q.n q.degrees d q.s 1).once;
  }

  -- where each component has its degree
  pub standard_number : length q.degrees ≡ q.s → length (standard q f d) ≡ undivided q.n q.degrees (leading_monomials f) d
  standard_number e =
      ap (λ k. length (those free? (in_components q.n q.degrees d (from 1 k)))) (sym e)
      ∙ length_those free? (in_components q.n q.degrees d (from 1 (length q.degrees)))

by_leading : (q q' : Parameters) (f f' : Level) (d : ℕ) → q.n ≡ q'.n → q.s ≡ q'.s → q.degrees ≡ q'.degrees
    → leading_monomials f ≡ leading_monomials f' → standard q f d ≡ standard q' f' d
by_leading q q' f f' d n s ds l =
    λ i. those (λ m. not (divided_by? (l i) m)) (in_components (n i) (ds i) d (from 1 (s i)))

-- ## Degrees of components

leb_plus : (g d a : ℕ) → leb (g + a) (d + a) ≡ leb g d
leb_plus g d a = go (leb (g + a) (d + a)) (leb g d) (leb→le (g + a) (d + a)) (nleb→lt (g + a) (d + a)) (leb→le g d) (nleb→lt g d)
  where
    go : (b c : Bool) → (T b → g + a ≤ d + a) → (T (not b) → d + a < g + a) → (T c → g ≤ d) → (T (not c) → d < g) → b ≡ c
    go true true h k l m = refl
    go false false h k l m = refl
    go true false h k l m = absurd (let x = h tt in let y = m tt in omega (arith, x, y))
    go false true h k l m = absurd (let x = k tt in let y = l tt in omega (arith, x, y))

module _ (n : ℕ) (gs : List ℕ) where
  -- in component i, by its degree g
  abbrev component_by : ℕ → ℕ → ℕ → List Monomial
  component_by i g d = elim (leb g d) [ true ↦ map (λ e. (padded n e, i)) (of_degree_in n (d - g)) | false ↦ [] ]

  component_raised : (hs : List ℕ) (a d i : ℕ) → component_degree hs i ≡ component_degree gs i + a → in_component n hs (d + a) i ≡ in_component n gs d i
  component_raised hs a d i e =
      let g = component_degree gs i in
      let z : d + a - (g + a) ≡ d - g = omega arith in
      ap (λ x. component_by i x (d + a)) e
      ∙ ap₂ {C = List Monomial} (λ b x. elim b [ true ↦ map (λ e. (padded n e, i)) (of_degree_in n x) | false ↦ [] ]) (leb_plus g d a) z

  components_raised : (hs : List ℕ) (a d k i : ℕ) → ((j : ℕ) → i ≤ j → j < i + k → component_degree hs j ≡ component_degree gs j + a)
      → in_components n hs (d + a) (from i k) ≡ in_components n gs d (from i k)
  components_raised hs a d zero i h = refl
  components_raised hs a d (suc k) i h =
      ap₂ (λ x y. x ++ y) (component_raised hs a d i (h i (omega arith) (omega arith)))
      (components_raised hs a d k (suc i) (λ j l m. h j (omega (arith, l)) (omega (arith, m))))

  component_none : (d i : ℕ) → d < component_degree gs i → in_component n gs d i ≡ []
  component_none d i l =
      component_left n gs d i ∙ ap (map (λ e. (padded n e, i))) (left_passed n (component_degree gs i) d l)

  components_none : (d k i : ℕ) → ((j : ℕ) → i ≤ j → j < i + k → d < component_degree gs j) → in_components n gs d (from i k) ≡ []
  components_none d zero i h = refl
  components_none d (suc k) i h =
      ap₂ (λ x y. x ++ y) (component_none d i (h i (omega arith) (omega arith)))
      (components_none d k (suc i) (λ j l m. h j (omega (arith, l)) (omega (arith, m))))

raised : (q q' : Parameters) (f : Level) (a d : ℕ) → q.n ≡ q'.n → q.s ≡ q'.s
    → ((i : ℕ) → 1 ≤ i → i ≤ q.s → component_degree q'.degrees i ≡ component_degree q.degrees i + a) → standard q' f (d + a) ≡ standard q f d
raised q q' f a d n s h =
    ap (those (λ m. not (divided_by? (leading_monomials f) m)))
    ((λ i. in_components (sym n i) q'.degrees (d + a) (from 1 (sym s i)))
    ∙ components_raised q.n q.degrees q'.degrees a d q.s 1 (λ j l m. h j l (omega (arith, m))))

none_below : (q : Parameters) (f : Level) (d : ℕ) → ((i : ℕ) → 1 ≤ i → i ≤ q.s → d < component_degree q.degrees i) → standard q f d ≡ []
none_below q f d h =
    ap (those (λ m. not (divided_by? (leading_monomials f) m))) (components_none q.n q.degrees d q.s 1 (λ j l m. h j l (omega (arith, m))))

pub standard_right : StandardRight
standard_right = record {
  listed = standard_listed;
  number = λ q l f d k h. one_number (Undivided q f d) (standard q f d) k (standard_listed q l f d) h;
  by_leading = by_leading;
  raised = raised;
  none_below = none_below;
}
