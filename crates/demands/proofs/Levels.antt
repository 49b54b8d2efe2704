-- Monomials, vectors and levels of the theory written as those of the definitions, and the order over a list of levels.
-- All is done in this direction; back goes only Soundness, once, for the levels of a sound state.
use mathlib.Core.Path.{◌≡◌, refl, sym, ap, ◌∙◌, subst, subst₂}
use mathlib.Core.Bool.{Bool, true, false}
use mathlib.Core.List.{List, [], ◌∷◌, ◌++◌}
use Prim.Native.Nat.{ℕ, zero, suc, ◌<◌}
use native.Mathlib.Omega.{arith}
use lib.Dec.{T, eqb, eqb→eq, eqb_refl}
use lib.ListN.{length, get_or}
use Rattle.theory.specs.Laws.{Level}
use Rattle.theory.specs.Induced.{ind_eq}
use Rattle.theory.specs.Induced
use Rattle.theory.specs.Orders.{ExpM, MonoL}
use Rattle.theory.proofs.Induced.{Ind}
use Rattle.theory.proofs.Orders.{free_lt_is}
use Rattle.definitions.specs.Monomial
use Rattle.definitions.specs.Monomial.{Monomial, Term, Vector, same_exponents?, same_monomial?, leading}
use Rattle.definitions.specs.Order.{numbers, image, image_by, compare_over}
use Rattle.laws.proofs.Tests.{and_left, and_right, and_both}
use Rattle.demands.proofs.Exponents.{E, out, into, product_out, out_injective, same_is, same_refl}
use Rattle.demands.proofs.Comparisons.{Says, says_map, says_tie, numbers_says, order, exponents_says}

-- ## Monomials, vectors and levels

-- m · e_i, components counted from 0
abbrev pub Mono : ℕ → Type 0
Mono n = E n × ℕ

-- the theory's vectors over the integers modulo p, whatever p
abbrev pub TVec : ℕ → Type 0
TVec n = List (ℕ × Mono n)

abbrev pub TLevel : ℕ → Type 0
TLevel n = List (TVec n)

module _ (n : ℕ) where
  -- components count from 1 in the definitions
  abbrev pub mono : Mono n → Monomial
  mono x = (out n x.0, suc x.1)

  abbrev pub term : ℕ × Mono n → Term
  term t = (t.0, mono t.1)

  abbrev pub vec : TVec n → Vector
  vec [] = []
  vec (t ∷ v) = term t ∷ vec v

  abbrev pub monos : List (Mono n) → List Monomial
  monos [] = []
  monos (x ∷ xs) = mono x ∷ monos xs

  abbrev pub flat : TLevel n → Monomial.Level
  flat [] = []
  flat (v ∷ f) = vec v ∷ flat f

  abbrev pub flats : List (TLevel n) → List Monomial.Level
  flats [] = []
  flats (f ∷ b) = flat f ∷ flats b

  abbrev pub cons? : TVec n → Bool
  cons? [] = false
  cons? (t ∷ v) = true

  -- the leading monomial
  abbrev pub head : TVec n → Mono n
  head [] = (into n [], 0)
  head (t ∷ v) = t.1

  abbrev pub lm : TLevel n → ℕ → Mono n
  lm f j = head (get_or f j [])

  pub mono_injective : (x y : Mono n) → mono x ≡ mono y → x ≡ y
  mono_injective x y e =
      let a : x.0 ≡ y.0 = out_injective n x.0 y.0 (ap (λ z. z.0) e) in
      let s : suc x.1 ≡ suc y.1 = ap (λ z. z.1) e in
      let b : x.1 ≡ y.1 = omega arith in
      λ i. (a i, b i)

  pub same_mono : (x y : Mono n) → T (same_monomial? (mono x) (mono y)) → x ≡ y
  same_mono x y t =
      let s : T (same_exponents? (out n x.0) (out n y.0)) = and_right (eqb (suc x.1) (suc y.1))
      (same_exponents? (out n x.0) (out n y.0)) t in
      let c : suc x.1 ≡ suc y.1 = eqb→eq (suc x.1) (suc y.1)
      (and_left (eqb (suc x.1) (suc y.1)) (same_exponents? (out n x.0) (out n y.0)) t) in
      mono_injective x y (λ i. (same_is (out n x.0) (out n y.0) s i, c i))

  pub mono_same : (x y : Mono n) → x ≡ y → T (same_monomial? (mono x) (mono y))
  mono_same x y e = subst (λ z. T (same_monomial? (mono x) (mono z))) e
      (and_both (eqb (suc x.1) (suc x.1)) (same_exponents? (out n x.0) (out n x.0)) (eqb_refl (suc x.1)) (same_refl (out n x.0)))

  pub vec_append : (v w : TVec n) → vec (v ++ w) ≡ vec v ++ vec w
  vec_append [] w = refl
  vec_append (t ∷ v) w = ap (λ z. term t ∷ z) (vec_append v w)

  pub vec_empty : (v : TVec n) → vec v ≡ [] → v ≡ []
  vec_empty [] e = refl
  vec_empty (t ∷ v) e = let z : ◌≡◌ {A = ℕ} 0 1 = cc in absurd (omega arith)

  pub vec_length : (v : TVec n) → length (vec v) ≡ length v
  vec_length [] = refl
  vec_length (t ∷ v) = ap suc (vec_length v)

  pub monos_length : (xs : List (Mono n)) → length (monos xs) ≡ length xs
  monos_length [] = refl
  monos_length (x ∷ xs) = ap suc (monos_length xs)

  pub flat_at : (f : TLevel n) (j : ℕ) → get_or (flat f) j [] ≡ vec (get_or f j [])
  flat_at [] j = refl
  flat_at (v ∷ f) zero = refl
  flat_at (v ∷ f) (suc j) = flat_at f j

  pub flat_length : (f : TLevel n) → length (flat f) ≡ length f
  flat_length [] = refl
  flat_length (v ∷ f) = ap suc (flat_length f)

  pub leading_vec : (v : TVec n) → T (cons? v) → leading (vec v) ≡ mono (head v)
  leading_vec [] t = absurd t
  leading_vec (u ∷ v) t = refl

  -- ## Components in range

  -- the component is in range, and its vector has a leading term
  abbrev pub Has : List (TLevel n) → Mono n → Type 0
  Has [] x = Unit {0}
  Has (f ∷ b) x = T (cons? (get_or f x.1 []))

  -- the leading monomials' components are in range, all the way down
  abbrev pub Grounded : List (TLevel n) → Type 0
  Grounded [] = Unit {0}
  Grounded (f ∷ b) = ((j : ℕ) → T (cons? (get_or f j [])) → Has b (lm f j)) × Grounded b

  -- multiples of a monomial in range are in range
  pub has_act : (b : List (TLevel n)) (q : E n) (x : Mono n) → Has b x → Has b ((ExpM n).mulE q x.0, x.1)
  has_act [] q x h = tt
  has_act (f ∷ b) q x h = h

-- ## The order over a list of levels

-- a level, and the leading monomials that induce the order above it
pub record Ground (n : ℕ) : Type 1 where
  pub L : Level (ExpM n)
  pub tops : ℕ → L.B

module _ (n code : ℕ) where
  abbrev pub ground : List (TLevel n) → Ground n
  ground [] = record { L = MonoL (order code n); tops = λ j. (ExpM n).ε }
  ground (f ∷ b) = record { L = Ind (ground b).L (ground b).tops; tops = lm n f }

  -- The module over the levels b: level 0's free module for none, else the module that the highest level induces.
  -- Its monomials are Mono n for an open list b too.
  abbrev pub module_over : List (TLevel n) → Level (ExpM n)
  module_over b = Ind (ground b).L (ground b).tops

  pub image_vec : (v : TVec n) (e : E n) → T (cons? n v) → image_by (out n e) (vec n v) ≡ mono n ((ExpM n).mulE e (head n v).0, (head n v).1)
  image_vec [] e t = absurd t
  image_vec (u ∷ v) e t = λ i. (product_out n e u.1.0 i, suc u.1.1)

  pub image_out : (f : TLevel n) (b : List (TLevel n)) (x : Mono n) → Has n (f ∷ b) x → image (flat n f) (mono n x)
      ≡ mono n (Induced.image (module_over b) (lm n f) x)
  image_out f b x t = ap (image_by (out n x.0)) (flat_at n f x.1) ∙ image_vec (get_or f x.1 []) x.0 t

  numbers_after : (a b : ℕ) → Says (a < b) (a ≡ b) (b < a) (numbers (suc a) (suc b))
  numbers_after a b = says_map (λ h. omega arith) (λ h. omega arith) (λ h. omega arith) (numbers_says (suc a) (suc b))

  pub over_says : (b : List (TLevel n)) → Grounded n b → (x y : Mono n) → Has n b x → Has n b y
      → Says ((module_over b).Lt x y) (x ≡ y) ((module_over b).Lt y x) (compare_over code (flats n b) (mono n x) (mono n y))
  over_says [] g x y hx hy =
      says_map (free_lt_is (order code n) x y).1 (λ e. e) (free_lt_is (order code n) y x).1
      (says_tie (λ h k. λ i. (h i, k i)) (exponents_says code n x.0 y.0) (numbers_after x.1 y.1))
  over_says (f ∷ b) g x y hx hy =
      says_tie (ind_eq (module_over b) (lm n f) x y)
      (images (over_says b g.1 (im x) (im y) (has_act n b x.0 (lm n f x.1) (g.0 x.1 hx))
      (has_act n b y.0 (lm n f y.1) (g.0 y.1 hy))))
      (numbers_after x.1 y.1)
    where
      im : Mono n → Mono n
      im z = Induced.image (module_over b) (lm n f) z

      Right : Monomial → Monomial → Type 0
      Right u v = Says ((module_over b).Lt (im x) (im y)) (im x ≡ im y) ((module_over b).Lt (im y) (im x)) (compare_over code (flats n b) u v)

      images : Right (mono n (im x)) (mono n (im y)) → Right (image (flat n f) (mono n x)) (image (flat n f) (mono n y))
      images h = subst₂ Right (sym (image_out f b x hx)) (sym (image_out f b y hy)) h
