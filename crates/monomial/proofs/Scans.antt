-- Tests on eight exponents, by what holds at each place.
use Rattle.std.proofs.Common.{◌≡◌, ℕ, zero, suc, ◌<◌, Bool, true, false, eqb, ltb, leb, [], ◌∷◌, length, get_or, sym, refl, ◌∙◌, le_of_suc-le-suc, not-suc-le-zero, arith, ltb-false, ltb-true, le-leb}
use lib.Dec.{eqb-suc-zero}
use borrow.Author.Tests.{lt-leb}
use Rattle.definitions.specs.Lists.{◌and◌}
use Rattle.definitions.specs.Monomial.{Exponents, fits?}
use Rattle.lists.specs.Marking.{Marked, unmarked, marked_at}

-- ## Above

not_above : (x y : ℕ) → ltb y x ≡ false → leb x y ≡ true
not_above x y e = le-leb x y (ltb-false y x e)

above : (x y : ℕ) → ltb y x ≡ true → leb x y ≡ false
above x y e = lt-leb x y (ltb-true y x e)

-- ## Fitting

pub fits_all : (limit : ℕ) (e : Exponents) → ((k : ℕ) → k < length e → ltb limit (get_or e k 0) ≡ false) → fits? limit e ≡ true
fits_all limit [] h = refl
fits_all limit (x ∷ e) h = (λ i. not_above x limit (h 0 (omega arith)) i and fits? limit e) ∙ fits_all limit e (λ k l. h (suc k) (omega arith))

pub fits_not : (limit : ℕ) (e : Exponents) (k : ℕ) → k < length e → ltb limit (get_or e k 0) ≡ true → fits? limit e ≡ false
fits_not limit [] k h t = absurd (not-suc-le-zero h)
fits_not limit (x ∷ e) zero h t = λ i. above x limit t i and fits? limit e
fits_not limit (x ∷ e) (suc k) h t = go (leb x limit) (fits_not limit e k (le_of_suc-le-suc h) t)
  where
    go : (c : Bool) → fits? limit e ≡ false → (c and fits? limit e) ≡ false
    go true f = f
    go false f = refl

pub fits_marked : (limit : ℕ) (e : Exponents) (mark : ℕ) → length e ≡ 8 → Marked (λ k. ltb limit (get_or e k 0)) 8 mark → eqb mark 0 ≡ fits? limit e
fits_marked limit e mark l m = go mark m
  where
    f : ℕ → Bool
    f k = ltb limit (get_or e k 0)

    go : (mark : ℕ) → Marked f 8 mark → eqb mark 0 ≡ fits? limit e
    go zero m = sym (fits_all limit e (λ k h. unmarked f 8 0 m refl k (omega arith)))
    go (suc n) m = let s = marked_at f 8 (suc n) m (λ e. omega arith) in eqb-suc-zero n ∙ sym (fits_not limit e s.0 (omega (arith, s.1)) s.2)

-- ## Degrees

-- ## Components before exponents
