-- The order that leading monomials induce one level up (Doc 000, 3.1). That it has the laws of a level again is in proofs/Induced.antt.
use Rattle.std.specs.Prelude.{◌≡◌, ◌⊎◌, Bool, true, false, not, ℕ, ◌<◌, ◌≤◌, T, ltb}
use Rattle.std.proofs.Common.{sym, ap, ◌∙◌, inl, inr, ⊎_elim, arith, le_antisymm, ltb→lt, nltb→le}
use Rattle.theory.specs.Laws.{Monoid, Level, Tri, below, same, above}

-- ## Numbers are compared by tests, so that comparisons compute at numerals

abbrev pub nat_tri_by : (a b : ℕ) (s t : Bool) → (T s → a < b) → (T (not s) → b ≤ a) → (T t → b < a) → (T (not t) → a ≤ b)
    → Tri (a < b) (a ≡ b) (b < a)
nat_tri_by a b true t h _ _ _ = below (h tt)
nat_tri_by a b false true _ _ k _ = above (k tt)
nat_tri_by a b false false _ i _ j = same (le_antisymm (j tt) (i tt))

abbrev pub nat_tri : (a b : ℕ) → Tri (a < b) (a ≡ b) (b < a)
nat_tri a b = nat_tri_by a b (ltb a b) (ltb b a) (ltb→lt a b) (nltb→le a b) (ltb→lt b a) (nltb→le b a)

-- ## The induced order

module _ {M : Monoid} (L : Level M) (lm : ℕ → L.B) where
  open M use {E, mulE}
  open L use {B, act, Lt}

  -- the leading monomial of m · f_i
  abbrev pub image : E × ℕ → B
  image x = act x.0 (lm x.1)

  -- m · e_i is below m' · e_j: its image is, or the images are equal and i < j
  abbrev pub IndLt : E × ℕ → E × ℕ → Type 0
  IndLt x y = Lt (image x) (image y) ⊎ ((image x ≡ image y) × (x.1 < y.1))

  abbrev pub indAct : E → E × ℕ → E × ℕ
  indAct a x = (mulE a x.0, x.1)

  pub image_act : (a : E) (x : E × ℕ) → image (indAct a x) ≡ act a (image x)
  image_act a x = L.act_act a x.0 (lm x.1)

  -- ## Its laws

  pub ind_irrefl : (x : E × ℕ) → IndLt x x → ⊥
  ind_irrefl x = ⊎_elim (λ l. L.irrefl (image x) l) (λ p. let h : x.1 < x.1 = p.1 in omega arith)

  pub ind_trans : (x y z : E × ℕ) → IndLt x y → IndLt y z → IndLt x z
  ind_trans x y z (inl a) (inl b) = inl (L.trans _ _ _ a b)
  ind_trans x y z (inl a) (inr p) = inl (rw p.0 at a)
  ind_trans x y z (inr p) (inl b) = inl (rw p.0 b)
  ind_trans x y z (inr p) (inr q) = inr (p.0 ∙ q.0, omega arith)

  -- a module monomial is known by its image and its number
  pub ind_eq : (x y : E × ℕ) → image x ≡ image y → x.1 ≡ y.1 → x ≡ y
  ind_eq x y e i = let m : x.0 ≡ y.0 = L.act_cancel x.0 y.0 (lm y.1) (rw i at e) in λ k. (m k, i k)

  pub ind_compat : (a : E) (x y : E × ℕ) → IndLt x y → IndLt (indAct a x) (indAct a y)
  ind_compat a x y (inl l) = inl (rw (image_act a x, image_act a y) (L.compat a _ _ l))
  ind_compat a x y (inr p) = inr (image_act a x ∙ ap (act a) p.0 ∙ sym (image_act a y), p.1)
