-- A3 for the definitions' search.
use mathlib.Core.Path.{◌≡◌, refl, sym, ap, ◌∙◌, subst}
use mathlib.Core.Logic.{◌⊎◌, inl, inr, ⊎_elim}
use mathlib.Core.Option.{some, some-injective}
use mathlib.Core.List.{List, [], ◌∷◌, ◌++◌}
use Prim.Native.Nat.{ℕ, suc}
use native.Mathlib.Omega.{arith}
use lib.Dec.{T, eqb, eqb→eq}
use lib.ListN.{length, get_or}
use Rattle.definitions.specs.Limits.{Limits, document_01}
use Rattle.definitions.specs.Lists.{every}
use Rattle.definitions.specs.Monomial.{Monomial, Term, Vector, Level, no_term}
use Rattle.definitions.specs.Order.{Comparison, greater, equal, smaller, or_at_tie, numbers, image, compare_over}
use Rattle.definitions.specs.Run.{Best, better, greatest_from, greatest}
use Rattle.definitions.specs.State.{up_to}
use Rattle.laws.proofs.Members.{All, every_all, all_map}
use Rattle.comparing.specs.Above.{Above, Member, GreatestOf}
use Rattle.comparing.specs.Comparing.{Eight, AnswersExactly}
use Rattle.picking.specs.Running.{Running, running_at, against, if_greater, running_from, greatest_beside, monomials, A3}
use Rattle.comparing.proofs.Comparing.{a2}

-- ## The image is kept, and the place is the same

module _ (code : ℕ) (f : Level) (below : List Level) where
  kept : (c : Comparison) (x y : Running) → x.beside ≡ image f x.monomial → y.beside ≡ image f y.monomial → (if_greater c x y).beside
      ≡ image f (if_greater c x y).monomial
  kept greater x y h k = h
  kept equal x y h k = k
  kept smaller x y h k = k

  image_kept : (i : ℕ) (x : Running) (v : Vector) → x.beside ≡ image f x.monomial → (running_from code f below i x v).beside
      ≡ image f (running_from code f below i x v).monomial
  image_kept i x [] h = h
  image_kept i x (t ∷ v) h =
      let y = running_at f i t.1 in
      image_kept (suc i) (if_greater (against code below y x) y x) v (kept (against code below y x) y x refl h)

  -- the place and the monomial of the best so far
  abbrev best_of : Running → Best
  best_of x = (x.place, x.monomial)

  chosen : (c : Comparison) (i : ℕ) (m : Monomial) (x : Running) → best_of (if_greater c (running_at f i m) x) ≡ better c i m (best_of x)
  chosen greater i m x = refl
  chosen equal i m x = refl
  chosen smaller i m x = refl

  place_found : (i : ℕ) (x : Running) (v : Vector) → x.beside ≡ image f x.monomial
      → (running_from code f below i x v).place ≡ greatest_from (compare_over code (f ∷ below)) i (best_of x) v
  place_found i x [] h = refl
  place_found i x (t ∷ v) h =
      let y = running_at f i t.1 in
      let c = against code below y x in
      let e : c ≡ compare_over code (f ∷ below) t.1 x.monomial =
      λ j. or_at_tie (compare_over code below (image f t.1) (h j)) (numbers t.1.1 x.monomial.1) in
      place_found (suc i) (if_greater c y x) v (kept c y x refl h)
      ∙ ap (λ b. greatest_from (compare_over code (f ∷ below)) (suc i) b v) (chosen c i t.1 x ∙ ap (λ d. better d i t.1 (best_of x)) e)

  same_place : (v : Vector) → greatest_beside code f below v ≡ greatest (compare_over code (f ∷ below)) v
  same_place [] = refl
  same_place (t ∷ v) = ap some (place_found 1 (running_at f 0 t.1) v refl)

-- ## The term found is the greatest

module _ (code : ℕ) (below : List Level) (A : AnswersExactly code below) where
  order : Monomial → Monomial → Comparison
  order = compare_over code below

  -- x is y or above it
  abbrev Tops : Monomial → Monomial → Type 0
  Tops x y = (y ≡ x) ⊎ Above code below x y

  tops_on : (x y z : Monomial) → Eight x → Eight y → Eight z → Tops x y → Tops y z → Tops x z
  tops_on x y z h h' h'' (inl e) t = subst (λ w. Tops w z) e t
  tops_on x y z h h' h'' (inr a) (inl e) = inr (subst (Above code below x) (sym e) a)
  tops_on x y z h h' h'' (inr a) (inr b) = inr (A.transitive x y z h h' h'' a b)

  -- the best of the first, which counts from i, and those behind it
  abbrev best_from : ℕ → Best → Vector → Best
  best_from i b [] = b
  best_from i b (t ∷ v) = best_from (suc i) (better (compare_over code below t.1 b.1) i t.1 b) v

  place_of_best : (i : ℕ) (b : Best) (v : Vector) → greatest_from (compare_over code below) i b v ≡ (best_from i b v).0
  place_of_best i b [] = refl
  place_of_best i b (t ∷ v) = place_of_best (suc i) (better (compare_over code below t.1 b.1) i t.1 b) v

  -- what is known of the best of a monomial m, the terms behind it, and the whole value w
  pub record BestOf (w : Vector) (m : Monomial) (v : Vector) (b : Best) : Type 0 where
    pub placed : (get_or w b.0 no_term).1 ≡ b.1
    pub eight : Eight b.1
    pub tops_first : Tops b.1 m
    pub tops : (y : Monomial) → Member y (monomials v) → Tops b.1 y
    pub one : (b.1 ≡ m) ⊎ Member b.1 (monomials v)

  one_better : (c : Comparison) (i : ℕ) (t : Monomial) (b : Best) → compare_over code below t b.1 ≡ c → Eight t → Eight b.1
      → Tops (better c i t b).1 b.1 × Tops (better c i t b).1 t × Eight (better c i t b).1
  one_better greater i t b e h k = (inr ((A.greater_exactly t b.1 h k).0 e), inl refl, h)
  one_better equal i t b e h k = (inl refl, inl ((A.equal_exactly t b.1 h k).0 e), k)
  one_better smaller i t b e h k = (inl refl, inr ((A.smaller_exactly t b.1 h k).0 e), k)

  which : (c : Comparison) (i : ℕ) (t : Monomial) (b : Best) → (better c i t b ≡ b) ⊎ (better c i t b ≡ (i, t))
  which greater i t b = inr refl
  which equal i t b = inl refl
  which smaller i t b = inl refl

  behind : (u v : Vector) (t : Term) → get_or (u ++ t ∷ v) (length u) no_term ≡ t
  behind [] v t = refl
  behind (s ∷ u) v t = behind u v t

  append_one : (u v : Vector) (t : Term) → u ++ t ∷ v ≡ (u ++ t ∷ []) ++ v
  append_one [] v t = refl
  append_one (s ∷ u) v t = ap (λ w. s ∷ w) (append_one u v t)

  length_one : (u : Vector) (t : Term) → suc (length u) ≡ length (u ++ t ∷ [])
  length_one [] t = refl
  length_one (s ∷ u) t = ap suc (length_one u t)

  -- u has been passed
  best_is : (u : Vector) (b : Best) (v : Vector) → (get_or (u ++ v) b.0 no_term).1 ≡ b.1 → Eight b.1 → All (λ t. Eight t.1) v
      → BestOf (u ++ v) b.1 v (best_from (length u) b v)
  best_is u b [] p h k = record { placed = p; eight = h; tops_first = inl refl; tops = λ y i. absurd i; one = inl refl }
  best_is u b (t ∷ v) p h k =
      let c = compare_over code below t.1 b.1 in
      let b' = better c (length u) t.1 b in
      let s = one_better c (length u) t.1 b refl k.0 h in
      let q : (get_or (u ++ t ∷ v) b'.0 no_term).1 ≡ b'.1 =
      ⊎_elim (λ e. subst (λ z. (get_or (u ++ t ∷ v) z.0 no_term).1 ≡ z.1) (sym e) p)
      (λ e. subst (λ z. (get_or (u ++ t ∷ v) z.0 no_term).1 ≡ z.1) (sym e) (ap (λ z. z.1) (behind u v t))) (which c (length u) t.1 b) in
      go b' s (which c (length u) t.1 b)
      (subst (λ w. BestOf w b'.1 v (best_from (suc (length u)) b' v)) (sym (append_one u v t))
      (subst (λ n. BestOf ((u ++ t ∷ []) ++ v) b'.1 v (best_from n b' v)) (sym (length_one u t))
      (best_is (u ++ t ∷ []) b' v (subst (λ w. (get_or w b'.0 no_term).1 ≡ b'.1) (append_one u v t) q) s.2 k.1)))
    where
      go : (b' : Best) → Tops b'.1 b.1 × Tops b'.1 t.1 × Eight b'.1 → (b' ≡ b) ⊎ (b' ≡ (length u, t.1))
          → BestOf (u ++ t ∷ v) b'.1 v (best_from (suc (length u)) b' v) → BestOf (u ++ t ∷ v) b.1 (t ∷ v) (best_from (suc (length u)) b' v)
      go b' s w r = record {
        placed = r.placed;
        eight = r.eight;
        tops_first = tops_on (best_from (suc (length u)) b' v).1 b'.1 b.1 r.eight s.2 h r.tops_first s.0;
        tops = λ y. ⊎_elim (λ e. subst (Tops (best_from (suc (length u)) b' v).1) (sym e)
            (tops_on (best_from (suc (length u)) b' v).1 b'.1 t.1 r.eight s.2 k.0 r.tops_first s.1)) (r.tops y);
        one = ⊎_elim (λ e. ⊎_elim (λ g. inl (e ∙ ap (λ z. z.1) g)) (λ g. inr (inl (e ∙ ap (λ z. z.1) g))) w) (λ i. inr (inr i)) r.one;
      }

  pub greatest_is : (v : Vector) → All (λ t. Eight t.1) v → (i : ℕ) → greatest (compare_over code below) v ≡ some i
      → GreatestOf code below (monomials v) (get_or v i no_term).1
  greatest_is [] k i e = absurd (let z : ◌≡◌ {A = ℕ} 0 1 = cc in omega arith)
  greatest_is (t ∷ v) k i e =
      let b = best_from 1 (0, t.1) v in
      let r : BestOf (t ∷ v) t.1 v b = best_is (t ∷ []) (0, t.1) v refl k.0 k.1 in
      let q : b.0 ≡ i = sym (place_of_best 1 (0, t.1) v) ∙ some-injective _ _ e in
      subst (GreatestOf code below (t.1 ∷ monomials v)) (sym r.placed ∙ ap (λ j. (get_or (t ∷ v) j no_term).1) q) (record {
        one = ⊎_elim (λ z. inl z) (λ z. inr z) r.one;
        above = λ y. ⊎_elim (λ z. subst (Tops b.1) (sym z) r.tops_first) (r.tops y);
      })

module _ (lim : Limits) where
  eights : (v : Vector) → T (every (λ t. eqb (length t.1.0) 8) v) → All (λ t. Eight t.1) v
  eights v h = all_map (λ t. T (eqb (length t.1.0) 8)) (λ t. Eight t.1) (λ t e. eqb→eq (length t.1.0) 8 e) v
      (every_all (λ t. eqb (length t.1.0) 8) v h)

  pub a3 : A3 lim
  a3 = record {
    image_kept = image_kept;
    same_place = same_place;
    is_greatest = λ X s k v h. greatest_is X.parameters.code (up_to X k) ((a2 lim).induced X s k) v (eights v h);
  }

pub a3_of_document_01 : A3 document_01
a3_of_document_01 = a3 document_01
