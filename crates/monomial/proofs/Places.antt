-- What stands at each place of a product.
use Rattle.std.proofs.Common.{◌≡◌, ℕ, zero, suc, ◌+◌, ◌<◌, [], ◌∷◌, length, get_or, refl, ap, le_of_suc-le-suc, not-suc-le-zero, arith}
use Rattle.definitions.specs.Monomial.{Exponents, product}

-- two lists joined place by place
abbrev Joined : (ℕ → ℕ → ℕ) → (Exponents → Exponents → Exponents) → Type 0
Joined f g = (a b : Exponents) (k : ℕ) → length b ≡ length a → k < length a → get_or (g a b) k 0 ≡ f (get_or a k 0) (get_or b k 0)

pub getD_product : Joined ◌+◌ product
getD_product [] b k e h = absurd (not-suc-le-zero h)
getD_product (x ∷ a) [] k e h = absurd (omega arith)
getD_product (x ∷ a) (y ∷ b) zero e h = refl
getD_product (x ∷ a) (y ∷ b) (suc k) e h = getD_product a b k (omega arith) (le_of_suc-le-suc h)

abbrev Long : (Exponents → Exponents → Exponents) → Type 0
Long g = (a b : Exponents) → length b ≡ length a → length (g a b) ≡ length a

pub length_product : Long product
length_product [] b e = refl
length_product (x ∷ a) [] e = absurd (omega arith)
length_product (x ∷ a) (y ∷ b) e = ap suc (length_product a b (omega arith))
