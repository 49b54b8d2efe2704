-- Exponents of n variables, and the three orders: each is the lexicographic order of an additive image.
use Rattle.std.specs.Prelude.{◌≡◌, refl, ◌⊎◌, ℕ, zero, suc, ◌+◌, ◌<◌}
use Rattle.std.proofs.Common.{sym, ap, ◌∙◌, inl, inr, ⊎_elim, add_comm, add_assoc, arith}
use mathlib.Core.WellFounded.InvImage
use mathlib.Core.WellFounded.{Acc, WellFounded}
use lib.WfN.{lt-wf_rel}
use Rattle.theory.specs.Laws.{Monoid, Level, Tri, below, same, above}
use Rattle.theory.specs.Induced.{nat_tri}

-- ## Exponents

abbrev pub NatM : Monoid
NatM = record {
  E = ℕ;
  mulE = ◌+◌;
  ε = 0;
  mulE_comm = add_comm;
  mulE_assoc = add_assoc;
  mulE_unit = λ a. omega arith;
  mulE_cancel = λ a b c e. omega arith;
}

abbrev pub UnitM : Monoid
UnitM = record {
  E = Unit {0};
  mulE = λ a b. tt;
  ε = tt;
  mulE_comm = λ a b. refl;
  mulE_assoc = λ a b c. refl;
  mulE_unit = λ a. refl;
  mulE_cancel = λ a b c e. refl;
}

abbrev pub ProdM : Monoid → Monoid → Monoid
ProdM M N = record {
  E = M.E × N.E;
  mulE = λ a b. (M.mulE a.0 b.0, N.mulE a.1 b.1);
  ε = (M.ε, N.ε);
  mulE_comm = λ a b. λ i. (M.mulE_comm a.0 b.0 i, N.mulE_comm a.1 b.1 i);
  mulE_assoc = λ a b c. λ i. (M.mulE_assoc a.0 b.0 c.0 i, N.mulE_assoc a.1 b.1 c.1 i);
  mulE_unit = λ a. λ i. (M.mulE_unit a.0 i, N.mulE_unit a.1 i);
  mulE_cancel = λ a b c e. λ i.
      (M.mulE_cancel a.0 b.0 c.0 (λ j. (e j).0) i, N.mulE_cancel a.1 b.1 c.1 (λ j. (e j).1) i);
}

-- the exponents of n variables: (a₁, (a₂, … (aₙ, tt)))
abbrev pub ExpM : ℕ → Monoid
ExpM zero = UnitM
ExpM (suc n) = ProdM NatM (ExpM n)

-- ## Orders of a monoid

pub record Order (M : Monoid) : Type 1 where
  pub Lt : M.E → M.E → Type 0
  pub irrefl : (x : M.E) → Lt x x → ⊥
  pub trans : (x y z : M.E) → Lt x y → Lt y z → Lt x z
  pub tri : (x y : M.E) → Tri (Lt x y) (x ≡ y) (Lt y x)
  pub compat : (a x y : M.E) → Lt x y → Lt (M.mulE a x) (M.mulE a y)
  pub wf : WellFounded Lt

abbrev pub NatO : Order NatM
NatO = record {
  Lt = ◌<◌;
  irrefl = λ x h. omega arith;
  trans = λ x y z h k. omega arith;
  tri = nat_tri;
  compat = λ a x y h. omega arith;
  wf = lt-wf_rel.wf;
}

abbrev pub UnitO : Order UnitM
UnitO = record {
  Lt = λ x y. ⊥;
  irrefl = λ x h. h;
  trans = λ x y z h k. h;
  tri = λ x y. same refl;
  compat = λ a x y h. h;
  wf = record { apply = λ x. Acc.intro x (λ y h. absurd h) };
}

-- the lexicographic product: the first parts are compared first
module _ {M N : Monoid} (O : Order M) (P : Order N) where
  abbrev pub ProdLt : M.E × N.E → M.E × N.E → Type 0
  ProdLt x y = O.Lt x.0 y.0 ⊎ ((x.0 ≡ y.0) × P.Lt x.1 y.1)

  pub prod_irrefl : (x : M.E × N.E) → ProdLt x x → ⊥
  prod_irrefl x (inl h) = O.irrefl _ h
  prod_irrefl x (inr h) = P.irrefl _ h.1

  pub prod_trans : (x y z : M.E × N.E) → ProdLt x y → ProdLt y z → ProdLt x z
  prod_trans x y z (inl a) (inl b) = inl (O.trans _ _ _ a b)
  prod_trans x y z (inl a) (inr b) = inl (rw b.0 at a)
  prod_trans x y z (inr a) (inl b) = inl (rw a.0 b)
  prod_trans x y z (inr a) (inr b) = inr (a.0 ∙ b.0, P.trans _ _ _ a.1 b.1)

  abbrev pub prod_tri_by : (x y : M.E × N.E)
      → Tri (O.Lt x.0 y.0) (x.0 ≡ y.0) (O.Lt y.0 x.0) → Tri (P.Lt x.1 y.1) (x.1 ≡ y.1) (P.Lt y.1 x.1)
      → Tri (ProdLt x y) (x ≡ y) (ProdLt y x)
  prod_tri_by x y (below l) t = below (inl l)
  prod_tri_by x y (above l) t = above (inl l)
  prod_tri_by x y (same e) (below l) = below (inr (e, l))
  prod_tri_by x y (same e) (same k) = same (λ i. (e i, k i))
  prod_tri_by x y (same e) (above l) = above (inr (sym e, l))

  abbrev pub prod_tri : (x y : M.E × N.E) → Tri (ProdLt x y) (x ≡ y) (ProdLt y x)
  prod_tri x y = prod_tri_by x y (O.tri x.0 y.0) (P.tri x.1 y.1)

  pub prod_compat : (a x y : M.E × N.E) → ProdLt x y → ProdLt ((ProdM M N).mulE a x) ((ProdM M N).mulE a y)
  prod_compat a x y (inl h) = inl (O.compat _ _ _ h)
  prod_compat a x y (inr h) = inr (ap (M.mulE a.0) h.0, P.compat _ _ _ h.1)

  pub prod_acc_at : (b : M.E) → ((y : M.E) → O.Lt y b → (z : M.E × N.E) → z.0 ≡ y → Acc ProdLt z)
      → (n : N.E) → Acc P.Lt n → (x : M.E × N.E) → x.0 ≡ b → x.1 ≡ n → Acc ProdLt x
  prod_acc_at b hb n (Acc.intro n' hn) x e i =
      Acc.intro x (λ z lt. ⊎_elim
      (λ l. hb z.0 (rw e at l) z refl)
      (λ p. prod_acc_at b hb z.1 (hn z.1 (rw i at p.1)) z (p.0 ∙ e) refl) lt)

  pub prod_acc : (b : M.E) → Acc O.Lt b → (x : M.E × N.E) → x.0 ≡ b → Acc ProdLt x
  prod_acc b (Acc.intro b' h) x e = prod_acc_at b' (λ y l z k. prod_acc y (h y l) z k) x.1 (P.wf.apply x.1) x e refl

  abbrev pub ProdO : Order (ProdM M N)
  ProdO = record {
    Lt = ProdLt;
    irrefl = prod_irrefl;
    trans = prod_trans;
    tri = prod_tri;
    compat = prod_compat;
    wf = record { apply = λ x. prod_acc x.0 (O.wf.apply x.0) x refl };
  }

-- the order of an additive, injective image
module _ (M N : Monoid) (t : M.E → N.E) (additive : (a b : M.E) → t (M.mulE a b) ≡ N.mulE (t a) (t b))
    (injective : (a b : M.E) → t a ≡ t b → a ≡ b) (O : Order N) where
  abbrev pub by_tri_by : (x y : M.E) → Tri (O.Lt (t x) (t y)) (t x ≡ t y) (O.Lt (t y) (t x)) → Tri (O.Lt (t x) (t y)) (x ≡ y) (O.Lt (t y) (t x))
  by_tri_by x y (below l) = below l
  by_tri_by x y (same e) = same (injective x y e)
  by_tri_by x y (above l) = above l

  abbrev pub by_tri : (x y : M.E) → Tri (O.Lt (t x) (t y)) (x ≡ y) (O.Lt (t y) (t x))
  by_tri x y = by_tri_by x y (O.tri (t x) (t y))

  abbrev pub ByO : Order M
  ByO = record {
    Lt = λ x y. O.Lt (t x) (t y);
    irrefl = λ x h. O.irrefl (t x) h;
    trans = λ x y z h k. O.trans _ _ _ h k;
    tri = by_tri;
    compat = λ a x y h. rw (additive a x, additive a y) (O.compat (t a) (t x) (t y) h);
    wf = InvImage.wf t O.wf;
  }

-- ## The three orders

-- code 1: lexicographic
abbrev pub LexO : (n : ℕ) → Order (ExpM n)
LexO zero = UnitO
LexO (suc n) = ProdO NatO (LexO n)

-- the total degree
abbrev pub deg : (n : ℕ) → (ExpM n).E → ℕ
deg zero m = 0
deg (suc n) m = m.0 + deg n m.1

pub deg_add : (n : ℕ) (a b : (ExpM n).E) → deg n ((ExpM n).mulE a b) ≡ deg n a + deg n b
deg_add zero a b = refl
deg_add (suc n) a b = rw (deg_add n a.1 b.1) (omega arith)

-- code 2: degree, then lexicographic
abbrev pub DegLexO : (n : ℕ) → Order (ExpM n)
DegLexO n =
    ByO (ExpM n) (ExpM (suc n)) (λ (m : (ExpM n).E). (deg n m, m)) (λ a b. λ i. (deg_add n a b i, (ExpM n).mulE a b)) (λ a b e. λ i. (e i).1)
    (ProdO NatO (LexO n))

-- the sums c + a₁, c + a₁ + a₂, …
abbrev pub sums : (n : ℕ) → ℕ → (ExpM n).E → (ExpM n).E
sums zero c m = tt
sums (suc n) c m = (c + m.0, sums n (c + m.0) m.1)

pub sums_add : (n c d : ℕ) (a b : (ExpM n).E) → sums n (c + d) ((ExpM n).mulE a b) ≡ (ExpM n).mulE (sums n c a) (sums n d b)
sums_add zero c d a b = refl
sums_add (suc n) c d a b =
    let e : (c + d) + (a.0 + b.0) ≡ (c + a.0) + (d + b.0) = omega arith in
    λ i. (e i, (ap (λ z. sums n z ((ExpM n).mulE a.1 b.1)) e ∙ sums_add n (c + a.0) (d + b.0) a.1 b.1) i)

pub sums_inj : (n c : ℕ) (a b : (ExpM n).E) → sums n c a ≡ sums n c b → a ≡ b
sums_inj zero c a b e = refl
sums_inj (suc n) c a b e =
    let h : c + a.0 ≡ c + b.0 = ap (λ x. x.0) e in
    let k : a.0 ≡ b.0 = omega arith in
    λ i. (k i, sums_inj n (c + a.0) a.1 b.1 (ap (λ x. x.1) e ∙ ap (λ z. sums n (c + z) b.1) (sym k)) i)

-- the last parts are compared first
abbrev pub ColexO : (n : ℕ) → Order (ExpM n)
ColexO zero = UnitO
ColexO (suc n) =
    ByO (ExpM (suc n)) (ProdM (ExpM n) NatM) (λ (m : (ExpM (suc n)).E). (m.1, m.0)) (λ a b. refl) (λ a b e. λ i. ((e i).1, (e i).0))
    (ProdO (ColexO n) NatO)

-- code 3: degree reverse lexicographic, that is the sums a₁ + … + aₖ, the longest first (proofs/Orders has it in document 01's words)
abbrev pub DegRevLexO : (n : ℕ) → Order (ExpM n)
DegRevLexO n = ByO (ExpM n) (ExpM n) (sums n 0) (λ a b. sums_add n 0 0 a b) (λ a b e. sums_inj n 0 a b e) (ColexO n)

-- ## Levels

-- the monomials themselves
abbrev pub MonoL : {M : Monoid} → Order M → Level M
MonoL {M} O = record {
  B = M.E;
  act = M.mulE;
  act_act = M.mulE_assoc;
  act_unit = M.mulE_unit;
  act_cancel = M.mulE_cancel;
  Lt = O.Lt;
  irrefl = O.irrefl;
  trans = O.trans;
  tri = O.tri;
  compat = O.compat;
  wf = O.wf;
}
