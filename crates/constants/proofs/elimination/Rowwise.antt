-- Rows in words: one row more, and rows that a loop changes one after the other.
use mathlib.Core.Path.{◌≡◌, refl, sym, ap, ap₂, ◌∙◌}
use mathlib.Core.List.{List, [], ◌∷◌, ◌++◌}
use Prim.Native.Nat.{ℕ, zero, suc, ◌+◌, ◌*◌, ◌-◌, ◌≤◌}
use native.Mathlib.Omega.{arith}
use lib.ListN.{length, take, drop}
use lib.Seq.{take-take, drop-drop, paste, drop-paste}
use Rattle.definitions.specs.Lists.{map}
use Rattle.definitions.specs.Rank.{Row, Matrix}
use Rattle.definitions.specs.Places.{most_vectors}
use Rattle.constants.specs.elimination.Rows.{row_words, rows_at}
use Rattle.constants.proofs.elimination.Words.{take_drop, row_same, take_first, row_pasted}

pub length_rows : (n k : ℕ) (s : List ℕ) → length (rows_at n k s) ≡ k
length_rows n zero s = refl
length_rows n (suc k) s = ap suc (length_rows n k (drop most_vectors s))

pub rows_same : (n k : ℕ) → n ≤ most_vectors → (s z : List ℕ) → take (k * most_vectors) s ≡ take (k * most_vectors) z → rows_at n k s ≡ rows_at n k z
rows_same n zero h s z e = refl
rows_same n (suc k) h s z e =
    ap₂ {C = Matrix} (λ x y. x ∷ y) (row_same s z 0 n (suc k * most_vectors) (omega arith) e)
    (rows_same n k h (drop most_vectors s) (drop most_vectors z) (behind s ∙ ap (drop most_vectors) e ∙ sym (behind z)))
  where
    behind : (x : List ℕ) → take (k * most_vectors) (drop most_vectors x) ≡ drop most_vectors (take (suc k * most_vectors) x)
    behind x =
        let one : most_vectors + k * most_vectors ≡ suc k * most_vectors = omega arith in
        take_drop most_vectors (k * most_vectors) x ∙ ap (λ i. drop most_vectors (take i x)) one

pub rows_more : (n k : ℕ) (s : List ℕ) → rows_at n (k + 1) s ≡ rows_at n k s ++ row_words s (k * most_vectors) n ∷ []
rows_more n zero s = refl
rows_more n (suc k) s =
    let e : suc k + 1 ≡ suc (k + 1) = omega arith in
    let one : most_vectors + k * most_vectors ≡ suc k * most_vectors = omega arith in
    ap (λ i. rows_at n i s) e
    ∙ ap {B = Matrix} (λ x. take n s ∷ x) (rows_more n k (drop most_vectors s)
    ∙ ap {B = Matrix} (λ x. rows_at n k (drop most_vectors s) ++ take n x ∷ []) (drop-drop (k * most_vectors) most_vectors s ∙ ap (λ i. drop i s) one))

-- a row pasted behind k others
pub rows_put : (n k : ℕ) (s : List ℕ) (w : Row) → n ≤ most_vectors → k * most_vectors + n ≤ length s → length w ≡ n
    → rows_at n (k + 1) (paste s (k * most_vectors) w n) ≡ rows_at n k s ++ w ∷ []
rows_put n k s w h room lw =
    rows_more n k (paste s (k * most_vectors) w n)
    ∙ ap₂ {C = Matrix} (λ x y. x ++ y ∷ [])
    (rows_same n k h (paste s (k * most_vectors) w n) s (take_first s w (k * most_vectors) n (omega (arith, room))))
    (row_pasted s w (k * most_vectors) n (omega (arith, room)) lw)

-- what stands behind the row that was pasted
pub behind_put : (s w : List ℕ) (b k n : ℕ) → n ≤ most_vectors → b + k * most_vectors + n ≤ length s → length w ≡ n
    → drop (b + (k + 1) * most_vectors) (paste s (b + k * most_vectors) w n) ≡ drop (b + (k + 1) * most_vectors) s
behind_put s w b k n h room lw =
    behind (paste s (b + k * most_vectors) w n)
    ∙ ap (drop (most_vectors - n)) (drop-paste s (b + k * most_vectors) w n (omega (arith, room)) (omega (arith, lw))) ∙ sym (behind s)
  where
    behind : (x : List ℕ) → drop (b + (k + 1) * most_vectors) x ≡ drop (most_vectors - n) (drop (b + k * most_vectors + n) x)
    behind x =
        let q : b + k * most_vectors + n + (most_vectors - n) ≡ b + (k + 1) * most_vectors = omega (arith, h) in
        sym (drop-drop (most_vectors - n) (b + k * most_vectors + n) x ∙ ap (λ i. drop i x) q)

map_append : (f : Row → Row) (x y : Matrix) → map f (x ++ y) ≡ map f x ++ map f y
map_append f [] y = refl
map_append f (r ∷ x) y = ap {B = Matrix} (λ z. f r ∷ z) (map_append f x y)

-- the first k rows from word b on are changed by f, and nothing else
abbrev pub Kept : ℕ → ℕ → (Row → Row) → List ℕ → ℕ → List ℕ → Type 0
Kept n b f s₀ k s = (take b s ≡ take b s₀) × (rows_at n k (drop b s) ≡ map f (rows_at n k (drop b s₀)))
    × (drop (b + k * most_vectors) s ≡ drop (b + k * most_vectors) s₀)

pub kept_none : (n b : ℕ) (f : Row → Row) (s : List ℕ) → Kept n b f s 0 s
kept_none n b f s = (refl, refl, refl)

pub kept_more : (n b : ℕ) (f : Row → Row) (s₀ s : List ℕ) (k : ℕ) (w : Row) → n ≤ most_vectors → b + k * most_vectors + most_vectors ≤ length s
    → length w ≡ n → w ≡ f (row_words s₀ (b + k * most_vectors) n) → Kept n b f s₀ k s → Kept n b f s₀ (k + 1) (paste s (b + k * most_vectors) w n)
kept_more n b f s₀ s k w h room lw e K = (front, rows, back)
  where
    z : List ℕ
    z = paste s (b + k * most_vectors) w n

    firsts : take (b + k * most_vectors) z ≡ take (b + k * most_vectors) s
    firsts = take_first s w (b + k * most_vectors) n (omega (arith, room))

    front : take b z ≡ take b s₀
    front = sym (take-take b (b + k * most_vectors) z (omega arith)) ∙ ap (take b) firsts ∙ take-take b (b + k * most_vectors) s (omega arith) ∙ K.0

    old : rows_at n k (drop b z) ≡ rows_at n k (drop b s)
    old = rows_same n k h (drop b z) (drop b s) (take_drop b (k * most_vectors) z ∙ ap (drop b) firsts ∙ sym (take_drop b (k * most_vectors) s))

    own : row_words (drop b z) (k * most_vectors) n ≡ f (row_words (drop b s₀) (k * most_vectors) n)
    own =
        ap (take n) (drop-drop (k * most_vectors) b z) ∙ row_pasted s w (b + k * most_vectors) n (omega (arith, room)) lw ∙ e
        ∙ ap (λ x. f (take n x)) (sym (drop-drop (k * most_vectors) b s₀))

    rows : rows_at n (k + 1) (drop b z) ≡ map f (rows_at n (k + 1) (drop b s₀))
    rows =
        rows_more n k (drop b z) ∙ ap₂ {C = Matrix} (λ x y. x ++ y ∷ []) (old ∙ K.1) own
        ∙ sym (ap (map f) (rows_more n k (drop b s₀)) ∙ map_append f (rows_at n k (drop b s₀)) (row_words (drop b s₀) (k * most_vectors) n ∷ []))

    later : (x : List ℕ) → drop (b + (k + 1) * most_vectors) x ≡ drop most_vectors (drop (b + k * most_vectors) x)
    later x =
        let q : b + k * most_vectors + most_vectors ≡ b + (k + 1) * most_vectors = omega arith in
        sym (drop-drop most_vectors (b + k * most_vectors) x ∙ ap (λ i. drop i x) q)

    back : drop (b + (k + 1) * most_vectors) z ≡ drop (b + (k + 1) * most_vectors) s₀
    back = behind_put s w b k n h (omega (arith, room, h)) lw ∙ later s ∙ ap (drop most_vectors) K.2 ∙ sym (later s₀)
