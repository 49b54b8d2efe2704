-- Quotients of monomials, and the colon of one by another, as functions that compute.
use Rattle.std.specs.Prelude.{◌≡◌, refl, Bool, true, false, not, ℕ, zero, suc, ◌+◌, ◌-◌, ◌<◌, ◌≤◌, T, leb, eqb}
use Rattle.std.proofs.Common.{subst, arith, leb→le, eqb→eq}
use Rattle.std.proofs.Math.Option.{Option, none, some}
use Rattle.std.proofs.Math.Dec.{nleb→lt, eqb_refl}
use Rattle.theory.specs.Laws.{Monoid, Level}
use Rattle.theory.specs.Orders.{NatM, UnitM, ProdM, ExpM}

-- what a quotient says: m · a = b, or no m has m · a = b
abbrev pub Quotient : {E B : Type 0} → (E → B) → B → Option E → Type 0
Quotient {E} by b (some m) = by m ≡ b
Quotient {E} by b none = (m : E) → by m ≡ b → ⊥

-- ## Exponents that can be divided

-- colon a b = a / gcd(a, b), the least m with a | m · b
pub record Division (M : Monoid) : Type 0 where
  pub quot : M.E → M.E → Option M.E
  pub quot_is : (a b : M.E) → Quotient (λ m. M.mulE m a) b (quot a b)
  pub colon : M.E → M.E → M.E
  pub colon_up : M.E → M.E → M.E
  pub colon_is : (a b : M.E) → M.mulE (colon_up a b) a ≡ M.mulE (colon a b) b
  pub colon_least : (a b m n : M.E) → M.mulE n a ≡ M.mulE m b → (u : M.E) × (M.mulE u (colon a b) ≡ m)

abbrev pub when_so : {A : Type 0} → Bool → A → Option A
when_so true a = some a
when_so false a = none

abbrev pub nat_quot : ℕ → ℕ → Option ℕ
nat_quot a b = when_so (leb a b) (b - a)

pub nat_quot_is : (a b : ℕ) → Quotient (λ m. m + a) b (nat_quot a b)
nat_quot_is a b = go (leb a b) (λ t. leb→le a b t) (λ t. nleb→lt a b t)
  where
    go : (t : Bool) → (T t → a ≤ b) → (T (not t) → b < a) → Quotient (λ m. m + a) b (when_so t (b - a))
    go true h k = let l : a ≤ b = h tt in omega arith
    go false h k = λ m e. let l : b < a = k tt in omega arith

abbrev pub NatD : Division NatM
NatD = record {
  quot = nat_quot;
  quot_is = nat_quot_is;
  colon = λ a b. a - b;
  colon_up = λ a b. b - a;
  colon_is = λ a b. omega arith;
  colon_least = λ a b m n e. (m - (a - b), omega arith);
}

abbrev pub UnitD : Division UnitM
UnitD = record {
  quot = λ a b. some tt;
  quot_is = λ a b. refl;
  colon = λ a b. tt;
  colon_up = λ a b. tt;
  colon_is = λ a b. refl;
  colon_least = λ a b m n e. (tt, refl);
}

abbrev pub pair : {A B : Type 0} → Option A → Option B → Option (A × B)
pair none y = none
pair (some a) none = none
pair (some a) (some b) = some (a, b)

module _ {M N : Monoid} (D : Division M) (P : Division N) where
  abbrev MN : Monoid
  MN = ProdM M N

  abbrev pub prod_quot : M.E × N.E → M.E × N.E → Option (M.E × N.E)
  prod_quot a b = pair (D.quot a.0 b.0) (P.quot a.1 b.1)

  abbrev pub prod_colon : M.E × N.E → M.E × N.E → M.E × N.E
  prod_colon a b = (D.colon a.0 b.0, P.colon a.1 b.1)

  pub prod_quot_is : (a b : M.E × N.E) → Quotient (λ m. (ProdM M N).mulE m a) b (prod_quot a b)
  prod_quot_is a b = go (D.quot a.0 b.0) (P.quot a.1 b.1) (D.quot_is a.0 b.0) (P.quot_is a.1 b.1)
    where
      go : (x : Option M.E) (y : Option N.E) → Quotient (λ m. M.mulE m a.0) b.0 x → Quotient (λ m. N.mulE m a.1) b.1 y
          → Quotient (λ m. MN.mulE m a) b (pair x y)
      go none y h k = λ m e. h m.0 (λ i. (e i).0)
      go (some x) none h k = λ m e. k m.1 (λ i. (e i).1)
      go (some x) (some y) h k = λ i. (h i, k i)

  pub prod_least : (a b m n : M.E × N.E) → (ProdM M N).mulE n a ≡ (ProdM M N).mulE m b
      → (u : M.E × N.E) × ((ProdM M N).mulE u (prod_colon a b) ≡ m)
  prod_least a b m n e =
      let (u, h) = D.colon_least a.0 b.0 m.0 n.0 (λ i. (e i).0) in
      let (w, k) = P.colon_least a.1 b.1 m.1 n.1 (λ i. (e i).1) in
      ((u, w), λ i. (h i, k i))

  abbrev pub ProdD : Division (ProdM M N)
  ProdD = record {
    quot = prod_quot;
    quot_is = prod_quot_is;
    colon = prod_colon;
    colon_up = λ a b. (D.colon_up a.0 b.0, P.colon_up a.1 b.1);
    colon_is = λ a b. λ i. (D.colon_is a.0 b.0 i, P.colon_is a.1 b.1 i);
    colon_least = prod_least;
  }

abbrev pub ExpD : (n : ℕ) → Division (ExpM n)
ExpD zero = UnitD
ExpD (suc n) = ProdD NatD (ExpD n)

-- ## Module monomials

module _ {M : Monoid} (D : Division M) where
  open M use {E, mulE}

  abbrev pub quotB : E × ℕ → E × ℕ → Option E
  quotB x y = elim (eqb x.1 y.1) [ true ↦ D.quot x.0 y.0 | false ↦ none ]

  pub quotB_is : (x y : E × ℕ) → Quotient (λ m. (mulE m x.0, x.1)) y (quotB x y)
  quotB_is x y =
      go (eqb x.1 y.1) (λ t. eqb→eq x.1 y.1 t) (λ e. subst (λ z. T (eqb x.1 z)) e (eqb_refl x.1))
      (D.quot x.0 y.0) (D.quot_is x.0 y.0)
    where
      go : (t : Bool) → (T t → x.1 ≡ y.1) → (x.1 ≡ y.1 → T t) → (o : Option E) → Quotient (λ m. mulE m x.0) y.0 o
          → Quotient (λ m. (mulE m x.0, x.1)) y (elim t [ true ↦ o | false ↦ none ])
      go true h k (some m) q = λ i. (q i, h tt i)
      go true h k none q = λ m e. q m (λ i. (e i).0)
      go false h k o q = λ m e. k (λ i. (e i).1)

  abbrev pub colonB : E × ℕ → E × ℕ → Option E
  colonB x y = elim (eqb x.1 y.1) [ true ↦ some (D.colon x.0 y.0) | false ↦ none ]

-- what a colon says: c is the least of all m for which x divides m · y, or there is none
abbrev pub Colon : {M : Monoid} (L : Level M) → L.B → L.B → Option M.E → Type 0
Colon {M} L x y none = (m n : M.E) → L.act n x ≡ L.act m y → ⊥
Colon {M} L x y (some c) =
    ((n : M.E) × (L.act n x ≡ L.act c y)) × ((m n : M.E) → L.act n x ≡ L.act m y → (u : M.E) × (M.mulE u c ≡ m))

-- a level whose monomials can be divided
pub record Divided {M : Monoid} (L : Level M) : Type 0 where
  pub quotL : L.B → L.B → Option M.E
  pub quotL_is : (x y : L.B) → Quotient (λ m. L.act m x) y (quotL x y)
  pub colonL : L.B → L.B → Option M.E
  pub colonL_is : (x y : L.B) → Colon L x y (colonL x y)
