-- A list given by its values at each place, and the facts by which a loop that fills an array from its front comes to it.
use Rattle.std.specs.Prelude.{◌≡◌, List, ℕ, ◌+◌, ◌<◌, length, get_or, set}
use Rattle.std.proofs.Common.{sym, ◌∙◌, subst, arith, ext_get_or, get_or-set_same, get_or-set_other}
use Rattle.std.proofs.Math.Decide.{ℕ_discrete}

-- the first i places of l hold what g says
abbrev pub Filled : (ℕ → ℕ) → ℕ → List ℕ → Type 0
Filled g i l = (k : ℕ) → k < i → get_or l k 0 ≡ g k

filled_at : (g : ℕ → ℕ) (i : ℕ) (l : List ℕ) (k : ℕ) → i < length l → k < i + 1 → Filled g i l → Dec (k ≡ i) → get_or (set l i (g i)) k 0 ≡ g k
filled_at g i l k room h f (yes e) = rw e (get_or-set_same l i (g i) 0 room)
filled_at g i l k room h f (no ne) = get_or-set_other l i k (g i) 0 ne ∙ f k (omega arith)

-- one place more
pub filled_more : (g : ℕ → ℕ) (i x : ℕ) (l : List ℕ) → i < length l → x ≡ g i → Filled g i l → Filled g (i + 1) (set l i x)
filled_more g i x l room e f k h = subst (λ y. get_or (set l i y) k 0 ≡ g k) (sym e) (filled_at g i l k room h f (ℕ_discrete k i))

-- all places: the list is the one that g's values make
pub filled_list : (m l : List ℕ) → length l ≡ length m → Filled (λ k. get_or m k 0) (length m) l → l ≡ m
filled_list m l e f = ext_get_or 0 l m e (λ k h. f k (rw e at h))
