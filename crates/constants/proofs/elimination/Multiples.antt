-- A row with a multiple of another added, word by word; a row cleared.
use mathlib.Core.Path.{◌≡◌, refl, sym, ap, ◌∙◌}
use mathlib.Core.Bool.{Bool, true, false}
use mathlib.Core.List.{List, [], ◌∷◌}
use Prim.Native.Nat.{ℕ, zero, suc, ◌+◌, ◌*◌, ◌%◌, ◌<◌}
use native.Mathlib.Nat.{add-mod-mod}
use native.Mathlib.Omega.{arith}
use borrow.Author.Tests.{eq-eqb, ne_eqb}
use lib.Dec.{eqb}
use lib.ListN.{length, get_or}
use lib.Seq.{paste}
use Rattle.definitions.specs.Lists.{choose}
use Rattle.definitions.specs.Field.{plus, times, minus, inverse}
use Rattle.definitions.specs.Rank.{Row}
use Rattle.ranks.specs.Elimination.{add_multiple, cleared}
use Rattle.constants.specs.elimination.Rows.{row_words}
use Rattle.constants.proofs.elimination.Words.{row_word, paste_own}

-- a sum with a product, reduced once
pub reduced_once : (p y t x : ℕ) → (y + t * x) % p ≡ plus p y (times p t x)
reduced_once p y t x = sym (add-mod-mod y (t * x) p)

pub length_multiple : (p t n : ℕ) (v w : Row) → length v ≡ n → length w ≡ n → length (add_multiple p t v w) ≡ n
length_multiple p t n [] w h k = k
length_multiple p t zero (x ∷ v) w h k = absurd (omega arith)
length_multiple p t (suc n) (x ∷ v) [] h k = absurd (omega arith)
length_multiple p t (suc n) (x ∷ v) (y ∷ w) h k = ap suc (length_multiple p t n v w (omega arith) (omega arith))

pub multiple_word : (p t n : ℕ) (v w : Row) (j : ℕ) → length v ≡ n → length w ≡ n → j < n
    → get_or (add_multiple p t v w) j 0 ≡ plus p (get_or w j 0) (times p t (get_or v j 0))
multiple_word p t n [] w j h k l = absurd (omega arith)
multiple_word p t zero (x ∷ v) w j h k l = absurd (omega arith)
multiple_word p t (suc n) (x ∷ v) [] j h k l = absurd (omega arith)
multiple_word p t (suc n) (x ∷ v) (y ∷ w) zero h k l = refl
multiple_word p t (suc n) (x ∷ v) (y ∷ w) (suc j) h k l = multiple_word p t n v w j (omega arith) (omega arith) (omega arith)

-- ## Cleared

module _ (p c : ℕ) (v w : Row) where
  abbrev taken : Row
  taken = add_multiple p (minus p (times p (get_or w c 0) (inverse p (get_or v c 0)))) v w

  pub length_cleared : (n : ℕ) → length v ≡ n → length w ≡ n → length (cleared p c v w) ≡ n
  length_cleared n h k = go (eqb (get_or w c 0 % p) 0)
    where
      go : (b : Bool) → length (choose b w taken) ≡ n
      go true = k
      go false = length_multiple p (minus p (times p (get_or w c 0) (inverse p (get_or v c 0)))) n v w h k

-- in words: rows at word a and at word b
module _ (p c : ℕ) (s : List ℕ) (a b n : ℕ) (h : c < n) where
  abbrev u : Row
  u = row_words s a n

  abbrev w : Row
  w = row_words s b n

  -- its word in column c is zero already
  pub clear_already : get_or s (b + c) 0 % p ≡ 0 → s ≡ paste s b (cleared p c (row_words s a n) (row_words s b n)) n
  clear_already e =
      paste_own s b n
      ∙ ap (λ x. paste s b x n) (sym (ap (λ t. choose t w (taken p c u w)) (eq-eqb (get_or w c 0 % p) 0 (ap (λ y. y % p) (row_word s b n c h) ∙ e))))

  -- .. is not
  pub clear_taken : (x y t : ℕ) (z : List ℕ) → (get_or s (b + c) 0 % p ≡ 0 → ⊥) → x ≡ inverse p (get_or (row_words s a n) c 0)
      → y ≡ times p (get_or s (b + c) 0) x → t ≡ minus p y → z ≡ paste s b (add_multiple p t (row_words s a n) (row_words s b n)) n
      → z ≡ paste s b (cleared p c (row_words s a n) (row_words s b n)) n
  clear_taken x y t z ne ex ey et ez =
      ez ∙ ap (λ i. paste s b (add_multiple p i u w) n) (et ∙ ap (minus p) (ey ∙ (λ i. times p (sym (row_word s b n c h) i) (ex i))))
      ∙ ap (λ r. paste s b r n) (sym (ap (λ i. choose i w (taken p c u w)) (ne_eqb (get_or w c 0 % p) 0 not_zero)))
    where
      not_zero : get_or (row_words s b n) c 0 % p ≡ 0 → ⊥
      not_zero e = ne (ap (λ i. i % p) (sym (row_word s b n c h)) ∙ e)
