-- Order 3 in document 01's words: higher degree is greater; at equal degree the last differing exponent decides, and the smaller one there is greater.
-- And the order of level 0: monomials first, then the larger component.
use mathlib.Core.Path.{◌≡◌, refl, sym, ap, ◌∙◌, subst, subst₂}
use mathlib.Core.Logic.{◌⊎◌, inl, inr, ◌↔◌}
use Prim.Native.Nat.{ℕ, zero, suc, ◌+◌, ◌<◌}
use native.Mathlib.Omega.{arith}
use Rattle.theory.specs.Laws.{Monoid, Tri, below, same, above}
use Rattle.theory.specs.Induced.{nat_tri}
use Rattle.theory.specs.Orders.{ExpM, Order, deg, sums, ColexO, DegRevLexO}
use Rattle.theory.proofs.Levels.{FreeL}

-- ## Order 3

-- at the last place where they differ a has more: a is below b
abbrev pub LastMore : (n : ℕ) → (ExpM n).E → (ExpM n).E → Type 0
LastMore zero a b = ⊥
LastMore (suc n) a b = LastMore n a.1 b.1 ⊎ ((a.1 ≡ b.1) × (b.0 < a.0))

abbrev pub RevLex : (n : ℕ) → (ExpM n).E → (ExpM n).E → Type 0
RevLex n a b = (deg n a < deg n b) ⊎ ((deg n a ≡ deg n b) × LastMore n a b)

-- the sums from c on: c counts as one more exponent in front
sums_less : (n c d : ℕ) (a b : (ExpM n).E) → RevLex (suc n) (c, a) (d, b) → (ColexO (suc n)).Lt (c, sums n c a) (d, sums n d b)
sums_less zero c d a b (inl h) = inr (refl, omega arith)
sums_less zero c d a b (inr (e, inl h)) = absurd h
sums_less zero c d a b (inr (e, inr h)) = absurd (omega arith)
sums_less (suc n) c d a b (inl h) = inl (sums_less n (c + a.0) (d + b.0) a.1 b.1 (inl (omega arith)))
sums_less (suc n) c d a b (inr (e, inl (inl h))) = inl (sums_less n (c + a.0) (d + b.0) a.1 b.1 (inr (omega arith, inl h)))
sums_less (suc n) c d a b (inr (e, inl (inr h))) =
    let g : deg n a.1 ≡ deg n b.1 = ap (deg n) h.0 in
    let t : c + a.0 ≡ d + b.0 = omega arith in
    inr ((λ i. (t i, sums n (t i) (h.0 i))), omega arith)
sums_less (suc n) c d a b (inr (e, inr h)) =
    let g : deg (suc n) a ≡ deg (suc n) b = ap (deg (suc n)) h.0 in
    absurd (omega arith)

pub last_tri : (n : ℕ) (a b : (ExpM n).E) → Tri (LastMore n a b) (a ≡ b) (LastMore n b a)
last_tri zero a b = same refl
last_tri (suc n) a b = go (last_tri n a.1 b.1) (nat_tri a.0 b.0)
  where
    go : Tri (LastMore n a.1 b.1) (a.1 ≡ b.1) (LastMore n b.1 a.1) → Tri (a.0 < b.0) (a.0 ≡ b.0) (b.0 < a.0)
        → Tri (LastMore (suc n) a b) (a ≡ b) (LastMore (suc n) b a)
    go (below h) t = below (inl h)
    go (above h) t = above (inl h)
    go (same e) (below k) = above (inr (sym e, k))
    go (same e) (same k) = same (λ i. (k i, e i))
    go (same e) (above k) = below (inr (e, k))

pub rev_tri : (n : ℕ) (a b : (ExpM n).E) → Tri (RevLex n a b) (a ≡ b) (RevLex n b a)
rev_tri n a b = go (nat_tri (deg n a) (deg n b)) (last_tri n a b)
  where
    go : Tri (deg n a < deg n b) (deg n a ≡ deg n b) (deg n b < deg n a) → Tri (LastMore n a b) (a ≡ b) (LastMore n b a)
        → Tri (RevLex n a b) (a ≡ b) (RevLex n b a)
    go (below h) t = below (inl h)
    go (above h) t = above (inl h)
    go (same e) (below k) = below (inr (e, k))
    go (same e) (same k) = same k
    go (same e) (above k) = above (inr (sym e, k))

pub rev_lex : (n : ℕ) (a b : (ExpM n).E) → RevLex n a b → (DegRevLexO n).Lt a b
rev_lex n a b h = front (sums_less n 0 0 a b (lead h))
  where
    lead : RevLex n a b → RevLex (suc n) (0, a) (0, b)
    lead (inl k) = inl (omega arith)
    lead (inr k) = inr (ap (λ z. 0 + z) k.0, inl k.1)

    front : (ColexO (suc n)).Lt (0, sums n 0 a) (0, sums n 0 b) → (DegRevLexO n).Lt a b
    front (inl k) = k
    front (inr k) = let z : 0 < 0 = k.1 in absurd (omega arith)

-- the two orders are one
pub rev_lex_is : (n : ℕ) (a b : (ExpM n).E) → (DegRevLexO n).Lt a b ↔ RevLex n a b
rev_lex_is n a b = (λ h. back h (rev_tri n a b), rev_lex n a b)
  where
    back : (DegRevLexO n).Lt a b → Tri (RevLex n a b) (a ≡ b) (RevLex n b a) → RevLex n a b
    back h (below k) = k
    back h (same e) = absurd ((DegRevLexO n).irrefl b (subst (λ z. (DegRevLexO n).Lt z b) e h))
    back h (above k) = absurd ((DegRevLexO n).irrefl a ((DegRevLexO n).trans a b a h (rev_lex n b a k)))

-- ## Level 0

module _ {M : Monoid} (O : Order M) where
  open M use {E, mulE, ε}

  unit_right : (m : E) → mulE m ε ≡ m
  unit_right m = M.mulE_comm m ε ∙ M.mulE_unit m

  pub free_lt_is : (x y : E × ℕ) → (FreeL O).Lt x y ↔ (O.Lt x.0 y.0 ⊎ ((x.0 ≡ y.0) × (x.1 < y.1)))
  free_lt_is x y = (down, up)
    where
      down : (FreeL O).Lt x y → O.Lt x.0 y.0 ⊎ ((x.0 ≡ y.0) × (x.1 < y.1))
      down (inl h) = inl (subst₂ O.Lt (unit_right x.0) (unit_right y.0) h)
      down (inr h) = inr (sym (unit_right x.0) ∙ h.0 ∙ unit_right y.0, h.1)

      up : O.Lt x.0 y.0 ⊎ ((x.0 ≡ y.0) × (x.1 < y.1)) → (FreeL O).Lt x y
      up (inl h) = inl (subst₂ O.Lt (sym (unit_right x.0)) (sym (unit_right y.0)) h)
      up (inr h) = inr (unit_right x.0 ∙ h.0 ∙ sym (unit_right y.0), h.1)
