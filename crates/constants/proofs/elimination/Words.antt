-- Words of a list: a part of it, what is pasted and what stands before it.
use mathlib.Core.Path.{◌≡◌, sym, ap, ◌∙◌}
use mathlib.Core.List.{List, [], ◌∷◌, ◌++◌, append_assoc}
use Prim.Native.Nat.{ℕ, zero, suc, ◌+◌, ◌≤◌, ◌<◌}
use native.Mathlib.Omega.{arith}
use lib.ListN.{length, get_or, take, drop, length-drop, take-append-drop}
use lib.Seq.{length-take-le, take_all, take-take, take-nil, drop-drop, get_or-take, get_or-drop, take_at, drop_at, paste, drop-paste}
use Rattle.constants.specs.elimination.Rows.{row_words}

pub length_row : (s : List ℕ) (a n : ℕ) → a + n ≤ length s → length (row_words s a n) ≡ n
length_row s a n h = length-take-le n (drop a s) (omega (arith, length-drop a s))

pub row_word : (s : List ℕ) (a n j : ℕ) → j < n → get_or (row_words s a n) j 0 ≡ get_or s (a + j) 0
row_word s a n j h = get_or-take n (drop a s) j 0 h ∙ get_or-drop a s j 0

-- a part, taken before it is cut off
pub take_drop : (a k : ℕ) (s : List ℕ) → take k (drop a s) ≡ drop a (take (a + k) s)
take_drop zero k s = let e : k ≡ 0 + k = omega arith in ap (λ z. take z s) e
take_drop (suc a) k [] = take-nil k ∙ sym (ap (drop (suc a)) (take-nil (suc a + k)))
take_drop (suc a) k (x ∷ s) =
    let e : suc a + k ≡ suc (a + k) = omega arith in
    take_drop a k s ∙ sym (ap (λ z. drop (suc a) (take z (x ∷ s))) e)

-- a row that ends before word b
pub row_same : (s z : List ℕ) (a n b : ℕ) → a + n ≤ b → take b s ≡ take b z → row_words s a n ≡ row_words z a n
row_same s z a n b h e =
    take_drop a n s ∙ ap (drop a) (sym (take-take (a + n) b s h) ∙ ap (take (a + n)) e ∙ take-take (a + n) b z h) ∙ sym (take_drop a n z)

-- ## Pasted

pub take_first : (s l : List ℕ) (b j : ℕ) → b ≤ length s → take b (paste s b l j) ≡ take b s
take_first s l b j h =
    ap (take b) (append_assoc (take b s) (take j l) (drop (b + j) s)) ∙ take_at (take b s) (take j l ++ drop (b + j) s) b (length-take-le b s h)

-- the row that was pasted
pub row_pasted : (s w : List ℕ) (a n : ℕ) → a ≤ length s → length w ≡ n → row_words (paste s a w n) a n ≡ w
row_pasted s w a n h e =
    ap (λ x. take n (drop a x)) (append_assoc (take a s) (take n w) (drop (a + n) s))
    ∙ ap (take n) (drop_at (take a s) (take n w ++ drop (a + n) s) a (length-take-le a s h))
    ∙ take_at (take n w) (drop (a + n) s) n (length-take-le n w (omega (arith, e))) ∙ take_all n w (omega (arith, e))

-- a row pasted where it stands
pub paste_own : (s : List ℕ) (a n : ℕ) → s ≡ paste s a (row_words s a n) n
paste_own s a n =
    sym (append_assoc (take a s) (take n (row_words s a n)) (drop (a + n) s)
    ∙ ap (λ x. take a s ++ (x ++ drop (a + n) s)) (take-take n n (drop a s) (omega arith))
    ∙ ap (λ x. take a s ++ (take n (drop a s) ++ x)) (sym (drop-drop n a s))
    ∙ ap (λ x. take a s ++ x) (take-append-drop n (drop a s)) ∙ take-append-drop a s)

-- pasted twice
pub paste_again : (s w u : List ℕ) (a n : ℕ) → a + n ≤ length s → length w ≡ n → paste (paste s a w n) a u n ≡ paste s a u n
paste_again s w u a n h e = λ i. (take_first s w a n (omega (arith, h)) i ++ take n u) ++ behind i
  where
    behind : drop (a + n) (paste s a w n) ≡ drop (a + n) s
    behind = drop-paste s a w n (omega (arith, h)) (omega (arith, e))
