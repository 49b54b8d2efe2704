-- The laws over which everything in this crate is proved: scalars, exponents, and the monomials of a module with their order.
use Rattle.std.specs.Prelude.{◌≡◌, ◌≢◌}
use mathlib.Core.WellFounded.{WellFounded}

-- Scalars of a field. The laws hold as paths for the natural numbers with sum and product taken modulo a prime, unreduced numbers among them:
-- such a number acts as its remainder, so 𝟘 + a is a only where a is a sum or a product. Of a field proper they hold too.
-- "c is zero" reads mul 𝟙 c ≡ 𝟘.
pub record Scalars : Type 1 where
  pub K : Type 0
  pub add : K → K → K
  pub mul : K → K → K
  pub 𝟘 : K
  pub 𝟙 : K
  pub neg : K → K
  pub inv : K → K
  pub add_comm : (a b : K) → add a b ≡ add b a
  pub add_assoc : (a b c : K) → add (add a b) c ≡ add a (add b c)
  pub mul_comm : (a b : K) → mul a b ≡ mul b a
  pub mul_assoc : (a b c : K) → mul (mul a b) c ≡ mul a (mul b c)
  pub mul_add : (a b c : K) → mul a (add b c) ≡ add (mul a b) (mul a c)
  pub mul_zero : (a : K) → mul a 𝟘 ≡ 𝟘
  pub zero_add_zero : add 𝟘 𝟘 ≡ 𝟘
  pub zero_add_mul : (a b : K) → add 𝟘 (mul a b) ≡ mul a b
  pub zero_add_add : (a b : K) → add 𝟘 (add a b) ≡ add a b
  pub one_mul_mul : (a b : K) → mul 𝟙 (mul a b) ≡ mul a b
  pub neg_add : (a b : K) → add (mul (neg a) b) (mul a b) ≡ 𝟘
  pub inv_mul : (a : K) → mul 𝟙 a ≢ 𝟘 → mul (inv a) a ≡ 𝟙
  pub one_one : mul 𝟙 𝟙 ≡ 𝟙
  pub one≢zero : 𝟙 ≢ 𝟘
  pub zero? : (a : K) → Dec (mul 𝟙 a ≡ 𝟘)

-- Exponents: a commutative monoid with cancellation.
pub record Monoid : Type 1 where
  pub E : Type 0
  pub mulE : E → E → E
  pub ε : E
  pub mulE_comm : (a b : E) → mulE a b ≡ mulE b a
  pub mulE_assoc : (a b c : E) → mulE (mulE a b) c ≡ mulE a (mulE b c)
  pub mulE_unit : (a : E) → mulE ε a ≡ a
  pub mulE_cancel : (a b c : E) → mulE a c ≡ mulE b c → a ≡ b

-- the three outcomes of a comparison
pub data Tri (A B C : Type 0) : Type 0 where
  below : A → Tri A B C
  same : B → Tri A B C
  above : C → Tri A B C

-- A level: the monomials of a module, multiplied by exponents, with a monomial order.
pub record Level (M : Monoid) : Type 1 where
  pub B : Type 0
  pub act : M.E → B → B
  pub act_act : (a b : M.E) (x : B) → act (M.mulE a b) x ≡ act a (act b x)
  pub act_unit : (x : B) → act M.ε x ≡ x
  pub act_cancel : (a b : M.E) (x : B) → act a x ≡ act b x → a ≡ b
  pub Lt : B → B → Type 0
  pub irrefl : (x : B) → Lt x x → ⊥
  pub trans : (x y z : B) → Lt x y → Lt y z → Lt x z
  pub tri : (x y : B) → Tri (Lt x y) (x ≡ y) (Lt y x)
  pub compat : (a : M.E) (x y : B) → Lt x y → Lt (act a x) (act a y)
  pub wf : WellFounded Lt
