-- Of the monomials over a column of generators, those that some leading monomial divides are, by the lowest number that divides, the monomials over the
-- next column that no frame term divides.
use mathlib.Core.Path.{◌≡◌, refl, sym, ap, ap₂, ◌∙◌, subst}
use mathlib.Core.Logic.{inl, inr}
use mathlib.Core.Bool.{Bool, true, false, not}
use mathlib.Core.List.{List, [], ◌∷◌, ◌++◌}
use Prim.Native.Nat.{ℕ, suc, ◌+◌, ◌-◌, ◌<◌, ◌≤◌}
use native.Mathlib.Omega.{arith}
use lib.Dec.{T, leb, eqb, eqb→eq, eqb_refl, leb→le, le→leb}
use lib.ListN.{length, get_or}
use Rattle.definitions.specs.Lists.{◌and◌, any, count, map, from}
use Rattle.definitions.specs.Monomial.{Exponents, Monomial, product, quotient, divides?, divides_monomial?, degree}
use Rattle.definitions.specs.Frame.{generators, minimal, with_component, frame_of, frame_from, frame}
use Rattle.definitions.specs.Degrees.{component_degree, degree_by}
use Rattle.definitions.specs.Hilbert.{column_value}
use Rattle.definitions.specs.Standard.{in_component, in_components}
use Rattle.definitions.specs.Places.{exponents_length, hilbert_degrees}
use Rattle.laws.proofs.Tests.{true_is, false_is, and_left, and_right, and_both}
use Rattle.laws.proofs.Members.{All, all_map}
use Rattle.laws.proofs.Products.{length_product, product_quotient}
use Rattle.demands.specs.Notions.{Member}
use Rattle.demands.proofs.Members.{any_says, any_shown, divides_trans, divides_monomial, monomial_divides}
use Rattle.demands.proofs.Generators.{Eights, MinimalGenerators, minimal_generators}
use Rattle.standard_monomials.proofs.Counts.{one, count_append, count_agree, count_same, count_none, count_parted, count_not, length_map}
use Rattle.standard_monomials.proofs.Ways.{Long}
use Rattle.standard_monomials.proofs.Shift.{ways_left, left_long, quotient_passes?, shift_left}
use Rattle.standard_monomials.proofs.Components.{padded, count_component, count_from, count_picked, all_number}
use Rattle.standard_monomials.proofs.Padding.{divides_padded, quotient_padded, degree_padded, length_padded, Over, padded_eight}

-- some l of these divides m
abbrev pub divided_by? : List Monomial → Monomial → Bool
divided_by? ls m = any (λ l. divides_monomial? l m) ls

-- how many monomials of degree d over generators of these degrees no l of these divides
abbrev pub undivided : ℕ → List ℕ → List Monomial → ℕ → ℕ
undivided n gs ls d = count (λ m. not (divided_by? ls m)) (in_components n gs d (from 1 (length gs)))

-- ## Tests

same_tests : (a b : Bool) → (T a → T b) → (T b → T a) → a ≡ b
same_tests true b f g = sym (true_is b (f tt))
same_tests false b f g = sym (false_is b g)

and_false : (b : Bool) → b and false ≡ false
and_false true = refl
and_false false = refl

and_true : (b : Bool) → b and true ≡ b
and_true true = refl
and_true false = refl

same_number : (i : ℕ) → eqb i i ≡ true
same_number i = true_is (eqb i i) (eqb_refl i)

other_number : (i j : ℕ) → ¬ (i ≡ j) → eqb i j ≡ false
other_number i j n = false_is (eqb i j) (λ t. n (eqb→eq i j t))

any_left : {A : Type 0} (f : A → Bool) (l k : List A) → any f k ≡ false → any f (l ++ k) ≡ any f l
any_left f [] k e = e
any_left f (a ∷ l) k e = ap (λ x. elim (f a) [ true ↦ true | false ↦ x ]) (any_left f l k e)

any_right : {A : Type 0} (f : A → Bool) (l k : List A) → any f l ≡ false → any f (l ++ k) ≡ any f k
any_right f [] k e = refl
any_right f (a ∷ l) k e = go (f a) e (any_right f l k)
  where
    go : (b : Bool) → elim b [ true ↦ true | false ↦ any f l ] ≡ false → (any f l ≡ false → any f (l ++ k) ≡ any f k)
        → elim b [ true ↦ true | false ↦ any f (l ++ k) ] ≡ any f k
    go true z r = absurd (subst T z tt)
    go false z r = r z

-- ## Frame terms of one number

-- what divides, times the same
product_divides : (g q a : Exponents) → T (divides? g q) → T (divides? (product g a) (product q a))
product_divides [] q a t = tt
product_divides (x ∷ g) q [] t = tt
product_divides (x ∷ g) [] (z ∷ a) t = tt
product_divides (x ∷ g) (y ∷ q) (z ∷ a) t =
    let h : x ≤ y = leb→le x y (and_left (leb x y) (divides? g q) t) in
    and_both (leb (x + z) (y + z)) (divides? (product g a) (product q a)) (le→leb (x + z) (y + z) (omega (arith, h)))
    (product_divides g q a (and_right (leb x y) (divides? g q) t))

module _ (code : ℕ) where
  member_eight : (ls : List Monomial) → Eights code ls → (l : Monomial) → Member l ls → length l.0 ≡ 8
  member_eight [] e l x'' = elim x'' [ ]
  member_eight (k ∷ ls) e l (inl i) = ap (λ (m : Monomial). length m.0) i ∙ e.0
  member_eight (k ∷ ls) e l (inr i) = member_eight ls e.1 l i

  -- an earlier leading monomial divides q·l exactly if a minimal generator divides q
  generators_test : (earlier : List Monomial) → Eights code earlier → (l : Monomial) → length l.0 ≡ 8 → (q : Exponents) → length q ≡ 8
      → divided_by? earlier (product q l.0, l.1) ≡ any (λ g. divides? g q) (minimal (generators code earlier l))
  generators_test earlier es l el q eq = same_tests (divided_by? earlier onto) (any (λ g. divides? g q) gs) down up
    where
      gs : List Exponents
      gs = minimal (generators code earlier l)

      onto : Monomial
      onto = (product q l.0, l.1)

      r : MinimalGenerators code l earlier gs
      r = minimal_generators code l el earlier es

      down : T (divided_by? earlier onto) → T (any (λ g. divides? g q) gs)
      down t =
          let (k, i, s) = any_says (λ k. divides_monomial? k onto) earlier t in
          let (g, j, u) = r.covers q eq k i s in
          any_shown (λ g. divides? g q) gs g j u

      up : T (any (λ g. divides? g q) gs) → T (divided_by? earlier onto)
      up t =
          let (g, i, s) = any_says (λ g. divides? g q) gs t in
          let (e, (k, j, u)) = r.real g i in
          let (c, v) = monomial_divides k (product g l.0, l.1) u in
          let lk : length k.0 ≡ 8 = member_eight earlier es k j in
          let lg : length (product g l.0) ≡ 8 = length_product 8 g l.0 e el in
          any_shown (λ k. divides_monomial? k onto) earlier k j
          (divides_monomial k onto c (divides_trans k.0 (product g l.0) (product q l.0) (lk ∙ sym lg) v (product_divides g q l.0 s)))

  -- the frame terms of number i at a monomial of component i, and at others
  tagged_here : (i : ℕ) (gs : List Exponents) (q : Exponents) → divided_by? (with_component i gs) (q, i) ≡ any (λ g. divides? g q) gs
  tagged_here i [] q = refl
  tagged_here i (g ∷ gs) q = ap₂ {C = Bool} (λ b x. elim (b and divides? g q) [ true ↦ true | false ↦ x ]) (same_number i) (tagged_here i gs q)

  tagged_other : (i : ℕ) (gs : List Exponents) (q : Exponents) (c : ℕ) → ¬ (i ≡ c) → divided_by? (with_component i gs) (q, c) ≡ false
  tagged_other i [] q c n = refl
  tagged_other i (g ∷ gs) q c n =
      ap₂ {C = Bool} (λ b x. elim (b and divides? g q) [ true ↦ true | false ↦ x ]) (other_number i c n) (tagged_other i gs q c n)

  -- later numbers
  later_other : (ms earlier : List Monomial) (i : ℕ) (q : Exponents) (c : ℕ) → c < i → divided_by? (frame_from code i earlier ms) (q, c) ≡ false
  later_other [] earlier i q c l = refl
  later_other (m ∷ ms) earlier i q c l =
      any_right (λ u. divides_monomial? u (q, c)) (frame_of code i earlier m) (frame_from code (suc i) (m ∷ earlier) ms)
      (tagged_other i (minimal (generators code earlier m)) q c (λ e. omega (arith, e, l))) ∙ later_other ms (m ∷ earlier) (suc i) q c (omega (arith, l))

  -- ## The partition

  module _ (n : ℕ) (eight : n ≤ exponents_length) (gs : List ℕ) (d : ℕ) where
    over_eights : (ls : List Monomial) → All (Over n (length gs)) ls → Eights code ls
    over_eights [] h = tt
    over_eights (l ∷ ls) h = (padded_eight n eight l.0 h.0.exponents, over_eights ls h.1)

    -- no earlier one divides q·l
    abbrev first? : List Monomial → Monomial → Exponents → Bool
    first? earlier l q = not (divided_by? earlier (product (padded n q) l.0, l.1))

    -- those that l divides and none of the earlier does
    part_divided : (earlier : List Monomial) (l : Monomial) → Over n (length gs) l
        → count (λ m. not (divided_by? earlier m) and divides_monomial? l m) (in_components n gs d (from 1 (length gs)))
        ≡ count (first? earlier l) (ways_left n (degree_by gs l) d)
    part_divided earlier l h =
        count_picked n gs d f (l.1 - 1) (length gs) 1 (let x = h.low in let y = h.high in omega (arith, x, y)) other
        ∙ ap (λ j. count (λ e. f (padded n e, j)) (ways_left n (component_degree gs j) d)) place
        ∙ count_agree (λ e. f (padded n e, l.1)) (quotient_passes? (first? earlier l) a) ml
        (all_map (Long n) (λ e. f (padded n e, l.1) ≡ quotient_passes? (first? earlier l) a e) at ml (left_long n (component_degree gs l.1) d))
        ∙ shift_left n a h.exponents.long (first? earlier l) (component_degree gs l.1) d
        ∙ ap (λ x. count (first? earlier l) (ways_left n (x + component_degree gs l.1) d)) (sym (ap degree h.exponents.is ∙ degree_padded n a))
      where
        a : Exponents
        a = h.exponents.own

        ml : List Exponents
        ml = ways_left n (component_degree gs l.1) d

        place : 1 + (l.1 - 1) ≡ l.1
        place = let x = h.low in omega (arith, x)

        f : Monomial → Bool
        f m = not (divided_by? earlier m) and divides_monomial? l m

        other : (e : Exponents) (c : ℕ) → ¬ (c ≡ 1 + (l.1 - 1)) → f (e, c) ≡ false
        other e c o =
            ap (λ b. not (divided_by? earlier (e, c)) and (b and divides? l.0 e)) (other_number l.1 c (λ z. o (sym z ∙ sym place)))
            ∙ and_false (not (divided_by? earlier (e, c)))

        at : (e : Exponents) → Long n e → f (padded n e, l.1) ≡ quotient_passes? (first? earlier l) a e
        at e s =
            ap₂ (λ b c. not (divided_by? earlier (padded n e, l.1)) and (b and c)) (same_number l.1)
            (ap (λ x. divides? x (padded n e)) h.exponents.is ∙ divides_padded n a e (h.exponents.long ∙ sym s))
            ∙ go (divides? a e) whole
          where
            same : length a ≡ length e
            same = h.exponents.long ∙ sym s

            whole : T (divides? a e) → product (padded n (quotient e a)) l.0 ≡ padded n e
            whole t =
                ap₂ product (sym (quotient_padded n e a same)) h.exponents.is
                ∙ product_quotient (padded n e) (padded n a) (length_padded n eight a h.exponents.long ∙ sym (length_padded n eight e s))
                (subst T (sym (divides_padded n a e same)) t)

            go : (b : Bool) → (T b → product (padded n (quotient e a)) l.0 ≡ padded n e)
                → (not (divided_by? earlier (padded n e, l.1)) and b) ≡ (b and first? earlier l (quotient e a))
            go true z = and_true (not (divided_by? earlier (padded n e, l.1))) ∙ ap (λ x. not (divided_by? earlier (x, l.1))) (sym (z tt))
            go false z = and_false (not (divided_by? earlier (padded n e, l.1)))

    -- .. are as many as those of the next column's generator i that no frame term divides
    part_framed : (earlier ms : List Monomial) → All (Over n (length gs)) earlier → (l : Monomial) → Over n (length gs) l → (hs : List ℕ) (i : ℕ)
        → component_degree hs i ≡ degree_by gs l
        → count (first? earlier l) (ways_left n (degree_by gs l) d)
        ≡ count (λ m. not (divided_by? (frame_from code i earlier (l ∷ ms)) m)) (in_component n hs d i)
    part_framed earlier ms he l hl hs i z =
        count_agree (first? earlier l) (λ q. f (padded n q, i)) ml
        (all_map (Long n) (λ q. first? earlier l q ≡ f (padded n q, i)) at ml (left_long n (degree_by gs l) d))
        ∙ ap (λ x. count (λ q. f (padded n q, i)) (ways_left n x d)) (sym z)
        ∙ sym (count_component n hs d f i)
      where
        ml : List Exponents
        ml = ways_left n (degree_by gs l) d

        mg : List Exponents
        mg = minimal (generators code earlier l)

        f : Monomial → Bool
        f m = not (divided_by? (frame_from code i earlier (l ∷ ms)) m)

        at : (q : Exponents) → Long n q → first? earlier l q ≡ f (padded n q, i)
        at q s = ap not (generators_test earlier (over_eights earlier he) l (padded_eight n eight l.0 hl.exponents) (padded n q)
            (length_padded n eight q s)
            ∙ sym (any_left (λ u. divides_monomial? u (padded n q, i)) (with_component i mg) (frame_from code (suc i) (l ∷ earlier) ms)
            (later_other ms (l ∷ earlier) (suc i) (padded n q) i (omega arith)) ∙ tagged_here i mg (padded n q)))

    -- hs are the degrees of the next column, those of ms from number i on
    parts : (ms earlier : List Monomial) → All (Over n (length gs)) earlier → All (Over n (length gs)) ms → (hs : List ℕ) (i : ℕ)
        → ((j : ℕ) → j < length ms → component_degree hs (i + j) ≡ get_or (map (degree_by gs) ms) j 0)
        → count (λ m. not (divided_by? earlier m) and divided_by? ms m) (in_components n gs d (from 1 (length gs)))
        ≡ count (λ m. not (divided_by? (frame_from code i earlier ms) m)) (in_components n hs d (from i (length ms)))
    parts [] earlier he hm hs i z =
        let l = in_components n gs d (from 1 (length gs)) in
        count_same (λ m. not (divided_by? earlier m) and false) (λ m. false) l (λ m. and_false (not (divided_by? earlier m))) ∙ count_none l
    parts (l ∷ ms) earlier he hm hs i z =
        let y : i ≡ i + 0 = omega arith in
        let here : component_degree hs i ≡ degree_by gs l = ap (component_degree hs) y ∙ z 0 (omega arith) in
        count_parted (λ m. not (divided_by? earlier m) and divided_by? (l ∷ ms) m) (λ m. not (divided_by? earlier m) and divides_monomial? l m)
        (λ m. not (divided_by? (l ∷ earlier) m) and divided_by? ms m) (in_components n gs d (from 1 (length gs)))
        (λ m. split (divided_by? earlier m) (divides_monomial? l m) (divided_by? ms m))
        ∙ ap₂ (λ x y. x + y) (part_divided earlier l hm.0 ∙ part_framed earlier ms he l hm.0 hs i here)
        (parts ms (l ∷ earlier) (hm.0, he) hm.1 hs (suc i) later
        ∙ count_from n hs d (λ m. not (divided_by? (frame_from code (suc i) (l ∷ earlier) ms) m))
        (λ m. not (divided_by? (frame_from code i earlier (l ∷ ms)) m)) (length ms) (suc i)
        (λ m c k. ap not (sym (any_right (λ u. divides_monomial? u (m, c)) (frame_of code i earlier l)
        (frame_from code (suc i) (l ∷ earlier) ms) (tagged_other i (minimal (generators code earlier l)) m c (λ e. omega (arith, e, k)))))))
        ∙ sym (count_append (λ m. not (divided_by? (frame_from code i earlier (l ∷ ms)) m)) (in_component n hs d i)
        (in_components n hs d (from (suc i) (length ms))))
      where
        later : (j : ℕ) → j < length ms → component_degree hs (suc i + j) ≡ get_or (map (degree_by gs) ms) j 0
        later j k = let y : suc i + j ≡ i + suc j = omega arith in ap (component_degree hs) y ∙ z (suc j) (omega (arith, k))

        split : (e k r : Bool) → one (not e and elim k [ true ↦ true | false ↦ r ]) ≡ one (not e and k) + one (not (elim k [ true ↦ true | false ↦ e ]) and r)
        split true true r = refl
        split true false true = refl
        split true false false = refl
        split false true r = refl
        split false false true = refl
        split false false false = refl

    -- those that some l divides are as many as those of the next column that no frame term divides
    pub divided_count : (ls : List Monomial) → All (Over n (length gs)) ls
        → count (divided_by? ls) (in_components n gs d (from 1 (length gs))) ≡ undivided n (map (degree_by gs) ls) (frame code ls) d
    divided_count ls h =
        let hs = map (degree_by gs) ls in
        parts ls [] tt h hs 1 (λ j l. let y : 1 + j ≡ suc j = omega arith in ap (component_degree hs) y)
        ∙ ap (λ k. count (λ m. not (divided_by? (frame code ls) m)) (in_components n hs d (from 1 k))) (sym (length_map (degree_by gs) ls))

    -- the undivided ones of a column and of the next are together all monomials over the column
    pub one_step : 1 ≤ n → d < hilbert_degrees → (ls : List Monomial) → All (Over n (length gs)) ls
        → undivided n gs ls d + undivided n (map (degree_by gs) ls) (frame code ls) d ≡ column_value n d gs
    one_step o l ls h =
        ap (λ x. undivided n gs ls d + x) (sym (divided_count ls h)) ∙ count_not (divided_by? ls) (in_components n gs d (from 1 (length gs)))
        ∙ all_number n d o eight l gs
