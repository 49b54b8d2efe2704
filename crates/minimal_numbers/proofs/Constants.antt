-- A vector that maps to zero, with terms of one degree: its constant coefficients at the generators of that degree combine the rows of theirs to zero.
use mathlib.Core.Path.{◌≡◌, refl, sym, ap, ap₂, ◌∙◌, subst}
use mathlib.Core.Logic.{◌⊎◌, inl, inr}
use mathlib.Core.Bool.{Bool, true, false}
use mathlib.Core.List.{List, [], ◌∷◌, ◌++◌}
use Prim.Native.Nat.{ℕ, zero, suc, ◌+◌, ◌*◌, ◌%◌, ◌≤◌, ◌<◌}
use native.Mathlib.Nat.{mod-add-mod}
use native.Mathlib.Omega.{arith}
use lib.Dec.{T, eqb, eqb→eq, eqb_refl}
use lib.ListN.{length, get_or, drop}
use Rattle.definitions.specs.Lists.{◌and◌, every, between, map}
use Rattle.definitions.specs.Field.{plus, times}
use Rattle.definitions.specs.Monomial.{Exponents, Monomial, Term, Vector, Level, unit, product, same_exponents?, same_monomial?, leading, vector_of}
use Rattle.definitions.specs.Problem.{Parameters}
use Rattle.definitions.specs.Degrees.{degrees_of}
use Rattle.laws.proofs.Tests.{and_left, and_right, between_low, between_high, true_is, false_is}
use Rattle.laws.proofs.Modular.{Prime}
use Rattle.laws.proofs.Degrees.{getD_degrees}
use Rattle.laws.proofs.RoundTrip.{length_degrees}
use Rattle.laws.proofs.Members.{All, all_map, all_map₂, every_all}
use Rattle.laws.proofs.Products.{product_comm, same_exponents_says}
use Rattle.laws.proofs.Induced.{Has, shifted}
use Rattle.theory.specs.Laws.{Scalars}
use Rattle.theory.specs.Vec.{ev, scale, mapB, lin}
use Rattle.theory.specs.Modular.{ModP}
use Rattle.theory.proofs.Vec.{zero_mul, ev_red, one_ev, ev_lin, ev_map}
use Rattle.demands.specs.Notions.{proper_term?, proper?, multiples, put_for, coefficient, Zero}
use Rattle.definitions.specs.Rank.{Matrix, combined}
use Rattle.minimal_numbers.proofs.Sums.{over, over_none, over_cong, over_ev, ev_alike, ev_none}
use Rattle.minimal_numbers.proofs.OfDegree.{numbers_from}
use Rattle.minimal_numbers.proofs.Degrees.{degree_over, Eight, eight_of, times_unit, image_leads, leading_has}

-- a row for each i, in it the coefficient at 1·e_k of vector i for each k
abbrev pub constants_at : ℕ → Level → List ℕ → List ℕ → Matrix
constants_at p f is ks = map (λ i. map (λ k. coefficient p (unit, k) (vector_of f i)) ks) is

-- ## Numbers of one degree

-- 1 at n, 0 elsewhere
abbrev at_number : ℕ → ℕ → ℕ
at_number n j = elim (eqb n j) [ true ↦ 1 | false ↦ 0 ]

at_same : (n : ℕ) → at_number n n ≡ 1
at_same n = ap (λ b. elim b [ true ↦ 1 | false ↦ 0 ]) (true_is (eqb n n) (eqb_refl n))

at_other : (n j : ℕ) → ¬ (n ≡ j) → at_number n j ≡ 0
at_other n j h = ap (λ b. elim b [ true ↦ 1 | false ↦ 0 ]) (false_is (eqb n j) (λ t. h (eqb→eq n j t)))

module _ (p : ℕ) (P : Prime p) where
  abbrev S : Scalars
  S = ModP p P

  -- a number that is not in the list
  over_absent : (b : ℕ → ℕ) (n i d : ℕ) (xs : List ℕ) → n < i → over S (λ j. times p (at_number n j) (b j)) (numbers_from i d xs) ≡ 0
  over_absent b n i d [] h = refl
  over_absent b n i d (x ∷ xs) h = go (eqb x d) (over_absent b n (suc i) d xs (omega arith))
    where
      other : times p (at_number n i) (b i) ≡ 0
      other = ap (λ z. times p z (b i)) (at_other n i (λ e. omega arith)) ∙ zero_mul S (b i)

      go : (t : Bool) → over S (λ j. times p (at_number n j) (b j)) (numbers_from (suc i) d xs) ≡ 0
          → over S (λ j. times p (at_number n j) (b j)) (elim t [ true ↦ i ∷ numbers_from (suc i) d xs | false ↦ numbers_from (suc i) d xs ]) ≡ 0
      go true k = ap₂ (plus p) other k ∙ S.zero_add_zero
      go false k = k

  -- a number of degree d is there once
  over_once : (b : ℕ → ℕ) (k i d : ℕ) (xs : List ℕ) → k < length xs → get_or xs k 0 ≡ d
      → over S (λ j. times p (at_number (i + k) j) (b j)) (numbers_from i d xs) ≡ times p 1 (b (i + k))
  over_once b k i d [] h e = absurd (omega arith)
  over_once b zero i d (x ∷ xs) h e = go (eqb x d) (subst (λ z. T (eqb x z)) e (eqb_refl x))
    where
      here : i + 0 ≡ i
      here = omega arith

      go : (t : Bool) → T t
          → over S (λ j. times p (at_number (i + 0) j) (b j)) (elim t [ true ↦ i ∷ numbers_from (suc i) d xs | false ↦ numbers_from (suc i) d xs ])
          ≡ times p 1 (b (i + 0))
      go true t =
          ap₂ (plus p) (ap (λ z. times p (at_number z i) (b i)) here ∙ ap (λ z. times p z (b i)) (at_same i)) (over_absent b (i + 0) (suc i) d xs (omega arith))
          ∙ S.add_comm _ _ ∙ S.zero_add_mul 1 (b i) ∙ ap (λ z. times p 1 (b z)) (sym here)
      go false t = absurd t
  over_once b (suc k) i d (x ∷ xs) h e =
      go (eqb x d) (subst (λ z. over S (λ j. times p (at_number z j) (b j)) (numbers_from (suc i) d xs) ≡ times p 1 (b z))
      step (over_once b k (suc i) d xs (omega arith) e))
    where
      step : suc i + k ≡ i + suc k
      step = omega arith

      other : times p (at_number (i + suc k) i) (b i) ≡ 0
      other = ap (λ z. times p z (b i)) (at_other (i + suc k) i (λ e. omega arith)) ∙ zero_mul S (b i)

      go : (t : Bool) → over S (λ j. times p (at_number (i + suc k) j) (b j)) (numbers_from (suc i) d xs) ≡ times p 1 (b (i + suc k))
          → over S (λ j. times p (at_number (i + suc k) j) (b j)) (elim t [ true ↦ i ∷ numbers_from (suc i) d xs | false ↦ numbers_from (suc i) d xs ])
          ≡ times p 1 (b (i + suc k))
      go true r = ap₂ (plus p) other r ∙ S.zero_add_mul 1 (b (i + suc k))
      go false r = r

  -- ## Coefficients

  -- 1 at the monomial m, 0 elsewhere
  abbrev at_monomial : Monomial → Monomial → ℕ
  at_monomial m x = elim (same_monomial? x m) [ true ↦ 1 | false ↦ 0 ]

  times_one : (a : ℕ) → a * 1 ≡ a
  times_one a = omega arith

  coefficient_is : (m : Monomial) (v : Vector) → coefficient p m v ≡ ev S (at_monomial m) v
  coefficient_is m [] = refl
  coefficient_is m (t ∷ v) = go (same_monomial? t.1 m) (coefficient_is m v)
    where
      go : (s : Bool) → coefficient p m v ≡ ev S (at_monomial m) v
          → elim s [ true ↦ plus p t.0 (coefficient p m v) | false ↦ coefficient p m v ]
          ≡ plus p (times p t.0 (elim s [ true ↦ 1 | false ↦ 0 ])) (ev S (at_monomial m) v)
      go true e =
          ap (λ z. (t.0 + z) % p) e
          ∙ sym (mod-add-mod (t.0 * 1) p (ev S (at_monomial m) v) ∙ ap (λ z. (z + ev S (at_monomial m) v) % p) (times_one t.0))
      go false e = e ∙ sym (ap (λ z. plus p z (ev S (at_monomial m) v)) (S.mul_zero t.0) ∙ ev_red S (at_monomial m) v)

  one_coefficient : (m : Monomial) (v : Vector) → times p 1 (coefficient p m v) ≡ coefficient p m v
  one_coefficient m v = ap (times p 1) (coefficient_is m v) ∙ one_ev S (at_monomial m) v ∙ sym (coefficient_is m v)

  multiples_are : (c : ℕ) (e : Exponents) (f : Vector) → multiples p c e f ≡ scale S c (mapB S (shifted e) f)
  multiples_are c e [] = refl
  multiples_are c e (t ∷ f) = ap {B = Vector} (λ w. (times p c t.0, shifted e t.1) ∷ w) (multiples_are c e f)

  -- what stands for a monomial x over g
  abbrev put : Level → Monomial → Vector
  put g x = mapB S (shifted x.0) (vector_of g x.1)

  put_for_is : (g : Level) (v : Vector) → put_for p g v ≡ lin S (put g) v
  put_for_is g [] = refl
  put_for_is g (t ∷ v) = ap₂ {C = Vector} (λ x y. x ++ y) (multiples_are t.0 t.1.0 (vector_of g t.1.1)) (put_for_is g v)

  -- ## Constants of a multiple: none but for the unit

  abbrev zeros : ℕ → Exponents
  zeros zero = []
  zeros (suc n) = 0 ∷ zeros n

  product_unit : (n : ℕ) (a b : Exponents) → length a ≡ n → length b ≡ n → T (same_exponents? (product a b) (zeros n)) → T (same_exponents? a (zeros n))
  product_unit zero [] b h k t = tt
  product_unit zero (x ∷ a) b h k t = absurd (omega arith)
  product_unit (suc n) [] b h k t = absurd (omega arith)
  product_unit (suc n) (x ∷ a) [] h k t = absurd (omega arith)
  product_unit (suc n) (x ∷ a) (y ∷ b) h k t =
      let e : x + y ≡ 0 = eqb→eq (x + y) 0 (and_left (eqb (x + y) 0) (same_exponents? (product a b) (zeros n)) t) in
      let z : x ≡ 0 = omega arith in
      subst (λ w. T (eqb w 0 and same_exponents? a (zeros n))) (sym z)
      (product_unit n a b (omega arith) (omega arith) (and_right (eqb (x + y) 0) (same_exponents? (product a b) (zeros n)) t))

  module _ (k : ℕ) (g : Level) (E : All Eight g) where
    -- the constant coefficient of e_k in what stands for x
    abbrev worth : Monomial → ℕ
    worth x = elim (same_exponents? x.0 unit) [ true ↦ coefficient p (unit, k) (vector_of g x.1) | false ↦ 0 ]

    put_worth : (x : Monomial) → Has 8 x → ev S (at_monomial (unit, k)) (put g x) ≡ worth x
    put_worth x h = ev_map S (at_monomial (unit, k)) (shifted x.0) (vector_of g x.1) ∙ go (same_exponents? x.0 unit) (λ t. t) (λ t. t)
      where
        go : (b : Bool) → (T b → T (same_exponents? x.0 unit)) → (T (same_exponents? x.0 unit) → T b)
            → ev S (λ y. at_monomial (unit, k) (shifted x.0 y)) (vector_of g x.1)
            ≡ elim b [ true ↦ coefficient p (unit, k) (vector_of g x.1) | false ↦ 0 ]
        go true s r =
            ev_alike S (λ y. at_monomial (unit, k) (shifted x.0 y)) (at_monomial (unit, k)) (vector_of g x.1)
            (all_map (λ t. Has 8 t.1) (λ t. at_monomial (unit, k) (shifted x.0 t.1) ≡ at_monomial (unit, k) t.1)
            (λ t l. ap (at_monomial (unit, k)) (stays t.1 l)) (vector_of g x.1) (eight_of g E x.1))
            ∙ sym (coefficient_is (unit, k) (vector_of g x.1))
          where
            one : x.0 ≡ unit
            one = same_exponents_says x.0 unit (s tt)

            stays : (y : Monomial) → Has 8 y → shifted x.0 y ≡ y
            stays y l = λ i. ((ap (λ z. product z y.0) one ∙ product_comm unit y.0 ∙ times_unit y.0 l) i, y.1)
        go false s r =
            ev_none S (λ y. at_monomial (unit, k) (shifted x.0 y)) (vector_of g x.1)
            (all_map (λ t. Has 8 t.1) (λ t. at_monomial (unit, k) (shifted x.0 t.1) ≡ 0)
            (λ t l. ap (λ b. elim b [ true ↦ 1 | false ↦ 0 ]) (false_is (same_monomial? (shifted x.0 t.1) (unit, k)) (apart t.1 l)))
            (vector_of g x.1) (eight_of g E x.1))
          where
            apart : (y : Monomial) → Has 8 y → T (same_monomial? (shifted x.0 y) (unit, k)) → ⊥
            apart y l t = r (product_unit 8 x.0 y.0 h l (and_right (eqb y.1 k) (same_exponents? (product x.0 y.0) unit) t))

    -- ## The combination

    module _ (ds : List ℕ) (below : List Level) (d : ℕ) where
      -- what is asked of a term: eight exponents, a component of g, and the degree
      record Fit (x : Monomial) : Type 0 where
        eight : Has 8 x
        place : ℕ
        component : x.1 ≡ suc place
        inside : place < length g
        degree_is : degree_over ds (g ∷ below) x ≡ d

      abbrev js : List ℕ
      js = numbers_from 1 d (degrees_of ds below g)

      abbrev b : ℕ → ℕ
      b j = coefficient p (unit, k) (vector_of g j)

      number_degree : (x : Monomial) (F : Fit x) → x.0 ≡ unit → get_or (degrees_of ds below g) F.place 0 ≡ d
      number_degree x F e =
          getD_degrees ds below g F.place F.inside ∙ ap (λ z. degree_over ds below (leading (vector_of g z))) (sym F.component)
          ∙ ap (degree_over ds below) (sym (image_leads g x F.eight ∙ first)) ∙ F.degree_is
        where
          l : Monomial
          l = leading (vector_of g x.1)

          first : shifted x.0 l ≡ l
          first =
              λ i. (
                (ap (λ z. product z l.0) e ∙ product_comm unit l.0
                    ∙ times_unit l.0 (leading_has (vector_of g x.1) (eight_of g E x.1))) i,
                l.1,
              )

      over_worth : (x : Monomial) → Fit x → over S (λ j. times p (at_monomial (unit, j) x) (b j)) js ≡ worth x
      over_worth x F = go (same_exponents? x.0 unit) (same_exponents_says x.0 unit)
        where
          go : (s : Bool) → (T s → x.0 ≡ unit)
              → over S (λ j. times p (elim (eqb x.1 j and s) [ true ↦ 1 | false ↦ 0 ]) (b j)) js
              ≡ elim s [ true ↦ coefficient p (unit, k) (vector_of g x.1) | false ↦ 0 ]
          go true e =
              over_cong S (λ j. times p (elim (eqb x.1 j and true) [ true ↦ 1 | false ↦ 0 ]) (b j))
              (λ j. times p (at_number (1 + F.place) j) (b j)) (λ j. alike j) js
              ∙ over_once b F.place 1 d (degrees_of ds below g) within (number_degree x F (e tt))
              ∙ ap (λ z. times p 1 (b z)) (sym number) ∙ one_coefficient (unit, k) (vector_of g x.1)
            where
              within : F.place < length (degrees_of ds below g)
              within = subst (λ z. F.place < z) (sym (length_degrees ds below g)) F.inside

              number : x.1 ≡ 1 + F.place
              number = omega (arith, F.component)

              and_true : (a : Bool) → (a and true) ≡ a
              and_true true = refl
              and_true false = refl

              alike : (j : ℕ) → times p (elim (eqb x.1 j and true) [ true ↦ 1 | false ↦ 0 ]) (b j) ≡ times p (at_number (1 + F.place) j) (b j)
              alike j = ap (λ a. times p (elim a [ true ↦ 1 | false ↦ 0 ]) (b j)) (and_true (eqb x.1 j) ∙ ap (λ z. eqb z j) number)
          go false e = over_none S (λ j. times p (elim (eqb x.1 j and false) [ true ↦ 1 | false ↦ 0 ]) (b j)) (λ j. gone j) js
            where
              and_false : (a : Bool) → (a and false) ≡ false
              and_false true = refl
              and_false false = refl

              gone : (j : ℕ) → times p (elim (eqb x.1 j and false) [ true ↦ 1 | false ↦ 0 ]) (b j) ≡ 0
              gone j = ap (λ a. times p (elim a [ true ↦ 1 | false ↦ 0 ]) (b j)) (and_false (eqb x.1 j)) ∙ zero_mul S (b j)

      vanishes : (v : Vector) → All (λ t. Fit t.1) v → Zero p (put_for p g v) → over S (λ j. times p (coefficient p (unit, j) v) (b j)) js ≡ 0
      vanishes v F z =
          over_cong S (λ j. times p (coefficient p (unit, j) v) (b j)) (λ j. times p (ev S (at_monomial (unit, j)) v) (b j))
          (λ j. ap (λ y. times p y (b j)) (coefficient_is (unit, j) v)) js
          ∙ over_ev S (λ j. at_monomial (unit, j)) b v js
          ∙ ev_alike S (λ x. over S (λ j. times p (at_monomial (unit, j) x) (b j)) js) worth v
          (all_map (λ t. Fit t.1) (λ t. over S (λ j. times p (at_monomial (unit, j) t.1) (b j)) js ≡ worth t.1) (λ t f. over_worth t.1 f) v F)
          ∙ sym (ev_alike S (λ x. ev S (at_monomial (unit, k)) (put g x)) worth v
          (all_map (λ t. Fit t.1) (λ t. ev S (at_monomial (unit, k)) (put g t.1) ≡ worth t.1) (λ t f. put_worth t.1 f.eight) v F))
          ∙ sym (ev_lin S (at_monomial (unit, k)) (put g) v) ∙ ap (ev S (at_monomial (unit, k))) (sym (put_for_is g v))
          ∙ sym (coefficient_is (unit, k) (put_for p g v)) ∙ z (unit, k)

  -- ## The rows

  combined_over : (l : ℕ) (a : ℕ → ℕ) (r : ℕ → List ℕ) (js : List ℕ) → combined p l (map a js) (map r js) ≡ over S (λ j. times p (a j) (get_or (r j) l 0)) js
  combined_over l a r [] = refl
  combined_over l a r (j ∷ js) = ap (plus p (times p (a j) (get_or (r j) l 0))) (combined_over l a r js)

  -- a column is that of one number, or past the end
  column : (ks : List ℕ) (l : ℕ) → ((k : ℕ) × ((f : ℕ → ℕ) → get_or (map f ks) l 0 ≡ f k)) ⊎ ((f : ℕ → ℕ) → get_or (map f ks) l 0 ≡ 0)
  column [] l = inr (λ f. refl)
  column (k ∷ ks) zero = inl (k, λ f. refl)
  column (k ∷ ks) (suc l) = column ks l

  module _ (q : Parameters) (g : Level) (E : All Eight g) (ds : List ℕ) (below : List Level) (d : ℕ) where
    fit : (k : ℕ) (v : Vector) → T (proper? q (length g) v) → All (λ t. degree_over ds (g ∷ below) t.1 ≡ d) v → All (λ t. Fit k g E ds below d t.1) v
    fit k v h e =
        all_map₂ (λ t. T (proper_term? q (length g) t)) (λ t. degree_over ds (g ∷ below) t.1 ≡ d) (λ t. Fit k g E ds below d t.1) (λ t a c. one t a c) v
        (every_all (proper_term? q (length g)) v h) e
      where
        one : (t : Term) → T (proper_term? q (length g) t) → degree_over ds (g ∷ below) t.1 ≡ d → Fit k g E ds below d t.1
        one t a c = placed t.1.1 refl (between_low 1 t.1.1 (length g) r) (between_high 1 t.1.1 (length g) r)
          where
            tail : Bool
            tail = every (λ x. eqb x 0) (drop q.n t.1.0) and between 1 t.1.1 (length g)

            r : T (between 1 t.1.1 (length g))
            r = and_right (every (λ x. eqb x 0) (drop q.n t.1.0)) (between 1 t.1.1 (length g)) (and_right (eqb (length t.1.0) 8) tail a)

            placed : (i : ℕ) → t.1.1 ≡ i → 1 ≤ t.1.1 → t.1.1 ≤ length g → Fit k g E ds below d t.1
            placed zero i h l = absurd (omega arith)
            placed (suc i) n h l = record {
              eight = eqb→eq (length t.1.0) 8 (and_left (eqb (length t.1.0) 8) tail a);
              place = i;
              component = n;
              inside = omega arith;
              degree_is = c;
            }

    -- the row of a vector that maps to zero combines the rows of g's vectors of its degree to zero
    pub row_annihilates : (v : Vector) → T (proper? q (length g) v) → Zero p (put_for p g v) → All (λ t. degree_over ds (g ∷ below) t.1 ≡ d) v
        → (ks : List ℕ) (l : ℕ)
        → combined p l (map (λ j. coefficient p (unit, j) v) (numbers_from 1 d (degrees_of ds below g)))
        (constants_at p g (numbers_from 1 d (degrees_of ds below g)) ks) ≡ 0
    row_annihilates v h z e ks l =
        combined_over l (λ j. coefficient p (unit, j) v) (λ j. map (λ k. coefficient p (unit, k) (vector_of g j)) ks) js' ∙ go (column ks l)
      where
        js' : List ℕ
        js' = numbers_from 1 d (degrees_of ds below g)

        go : ((k : ℕ) × ((f : ℕ → ℕ) → get_or (map f ks) l 0 ≡ f k)) ⊎ ((f : ℕ → ℕ) → get_or (map f ks) l 0 ≡ 0)
            → over S (λ j. times p (coefficient p (unit, j) v) (get_or (map (λ k. coefficient p (unit, k) (vector_of g j)) ks) l 0)) js' ≡ 0
        go (inr n) =
            over_none S (λ j. times p (coefficient p (unit, j) v) (get_or (map (λ k. coefficient p (unit, k) (vector_of g j)) ks) l 0))
            (λ j. ap (times p (coefficient p (unit, j) v)) (n (λ k. coefficient p (unit, k) (vector_of g j))) ∙ S.mul_zero (coefficient p (unit, j) v)) js'
        go (inl (k, c)) =
            over_cong S (λ j. times p (coefficient p (unit, j) v) (get_or (map (λ k. coefficient p (unit, k) (vector_of g j)) ks) l 0))
            (λ j. times p (coefficient p (unit, j) v) (coefficient p (unit, k) (vector_of g j)))
            (λ j. ap (times p (coefficient p (unit, j) v)) (c (λ k. coefficient p (unit, k) (vector_of g j)))) js'
            ∙ vanishes k g E ds below d v (fit k v h e) z
