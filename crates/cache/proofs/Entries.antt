-- Entries of the cache: what looking one up finds, and what a finished subtree makes of them.
use mathlib.Core.Path.{◌≡◌, refl, sym, ap, ◌∙◌}
use mathlib.Core.Bool.{Bool, true, false}
use mathlib.Core.Option.{none, some}
use mathlib.Core.List.{◌∷◌}
use Prim.Native.Nat.{ℕ, zero, suc, ◌+◌, ◌-◌, ◌*◌, ◌<◌, ◌≤◌}
use native.Mathlib.Omega.{arith}
use lib.Dec.{T, leb}
use lib.ListN.{length, get_or, take, drop}
use lib.Seq.{paste}
use borrow.Author.Tests.{le-leb, lt-leb}
use Rattle.definitions.specs.Monomial.{Monomial, Term, Vector, same_monomial?}
use Rattle.definitions.specs.Tree.{Cache, Subtree, cached, used, finish, finish_by}
use Rattle.definitions.specs.Layout.{Words, row_at, rows}
use Rattle.laws.proofs.Packing.{Eight}
use Rattle.laws.proofs.Rows.{length_rows, rows_same}
use Rattle.laws.proofs.Products.{same_monomial_says, same_monomial_shows}
use Rattle.definitions.specs.Places.{row_length}
use Rattle.vectors.specs.terms.Rows.{written}
use Rattle.laws.proofs.Rows.{row_is}
use Rattle.vectors.proofs.terms.Stored.{written_here, written_other}
use Rattle.cache.specs.Area.{Keeps, Copied}
use Rattle.cache.specs.Entries.{cache_skip, cache_of}
use Rattle.cache.proofs.Parts.{part_row, length_part, pasted_inside, pasted_below}

-- ## Entries passed over

skip_is : (k u : ℕ) (s : Words) → cache_skip k u s ≡ cache_of (u - k) s
unfolding cache_skip
skip_is zero u s = let e : u ≡ u - 0 = omega arith in ap (λ j. cache_skip 0 j s) e
skip_is (suc k) zero s = let e : 0 ≡ 0 - suc k = omega arith in ap (λ j. cache_skip 0 j s) e
skip_is (suc k) (suc u) s = let e : u - k ≡ suc u - suc k = omega arith in skip_is k u s ∙ ap (λ j. cache_skip 0 j s) e

used_skip : (k u : ℕ) (s : Words) → used (cache_skip k u s) ≡ u - k
unfolding cache_skip
used_skip zero zero s = omega arith
used_skip (suc k) zero s = omega arith
used_skip (suc k) (suc u) s = let e : u - k ≡ suc u - suc k = omega arith in used_skip k u s ∙ e
used_skip zero (suc u) s = omega (arith, length_rows s (u - (row_at s u).0) (u - (u - (row_at s u).0)), used_skip (row_at s u).0 u s)

-- the entries in the first u rows take u rows, whatever stands there
pub used_cache : (u : ℕ) (s : Words) → used (cache_of u s) ≡ u
used_cache u s = let e : u - 0 ≡ u = omega arith in used_skip 0 u s ∙ e

cache_same : (k u : ℕ) (s z : Words) → Keeps u s z → cache_skip k u z ≡ cache_skip k u s
unfolding cache_skip
cache_same k zero s z h = go k
  where
    go : (k : ℕ) → cache_skip k zero z ≡ cache_skip k zero s
    go zero = refl
    go (suc k) = refl
cache_same (suc k) (suc u) s z h = cache_same k u s z (λ j l. h j (omega arith))
cache_same zero (suc u) s z h =
    let r : rows z (u - (row_at s u).0) (u - (u - (row_at s u).0)) ≡ rows s (u - (row_at s u).0) (u - (u - (row_at s u).0)) =
    rows_same s z (u - (row_at s u).0) (u - (row_at s u).0) (u - (u - (row_at s u).0)) (λ j l. h (u - (row_at s u).0 + j) (omega arith)) in
    let q : cache_skip (row_at s u).0 u z ≡ cache_skip (row_at s u).0 u s = cache_same (row_at s u).0 u s z (λ j l. h j (omega arith)) in
    ap (λ (t : Term). (t.1, rows z (u - t.0) (u - (u - t.0))) ∷ cache_skip t.0 u z) (h u (omega arith)) ∙ (λ i. ((row_at s u).1, r i) ∷ q i)

-- a subtree's rows behind the first u rows, and its key
cache_more : (u n : ℕ) (m : Monomial) (v : Vector) (s z : Words) → Keeps u s z → row_at z (u + n) ≡ (n, m) → rows z u n ≡ v → cache_of (u + n + 1) z
    ≡ (m, v) ∷ cache_of u s
unfolding cache_skip
cache_more u n m v s z h e g =
    let a : u + n + 1 ≡ suc (u + n) = omega arith in
    let b : u + n - n ≡ u = omega arith in
    let d : u + n - (u + n - n) ≡ n = omega arith in
    ap (λ j. cache_skip 0 j z) a
    ∙ ap (λ (t : Term). (t.1, rows z (u + n - t.0) (u + n - (u + n - t.0))) ∷ cache_skip t.0 (u + n) z) e
    ∙ (λ i. (m, rows z (b i) (d i)) ∷ skip_is n (u + n) z i)
    ∙ (λ i. (m, g i) ∷ cache_of (b i) z)
    ∙ ap (λ (k : Cache). (m, v) ∷ k) (cache_same 0 u s z h)

-- ## Looking up

look_here : (m : Monomial) (j : ℕ) (s : Words) → same_monomial? (row_at s j).1 m ≡ true → cached m (cache_of (suc j) s)
    ≡ some (rows s (j - (row_at s j).0) (j - (j - (row_at s j).0)))
unfolding cache_skip
look_here m j s e = rw (e, cached)

look_on : (m : Monomial) (j : ℕ) (s : Words) → same_monomial? (row_at s j).1 m ≡ false → cached m (cache_of (suc j) s)
    ≡ cached m (cache_of (j - (row_at s j).0) s)
unfolding cache_skip
look_on m j s e = rw (e, cached) (ap (cached m) (skip_is (row_at s j).0 j s))

pub look_none : (m : Monomial) (s : Words) → cached m (cache_of 0 s) ≡ none
unfolding cache_skip
look_none m s = refl

same_turned : (m n : Monomial) → same_monomial? m n ≡ same_monomial? n m
same_turned m n = go (same_monomial? m n) (same_monomial? n m) (λ t. same_monomial_shows n m (sym (same_monomial_says m n t)))
    (λ t. same_monomial_shows m n (sym (same_monomial_says n m t)))
  where
    go : (a b : Bool) → (T a → T b) → (T b → T a) → a ≡ b
    go true true f g = refl
    go true false f g = absurd (f tt)
    go false true f g = absurd (g tt)
    go false false f g = refl

module _ (m : Monomial) (k : ℕ) (s : Words) (n from : ℕ) (some_left : 0 < k) (count : n ≡ get_or s ((k - 1) * row_length) 0)
    (start : from ≡ k - 1 - n) where
  number : n ≡ (row_at s (k - 1)).0
  number = count ∙ sym (ap (λ t. t.0) (row_is s (k - 1)))

  pub found : same_monomial? m (row_at s (k - 1)).1 ≡ true → cached m (cache_of k s) ≡ some (rows s from (k - 1 - from))
  found q =
      let a : k ≡ suc (k - 1) = omega arith in
      ap (λ i. cached m (cache_of i s)) a ∙ look_here m (k - 1) s (same_turned (row_at s (k - 1)).1 m ∙ q)
      ∙ ap (λ x. some (rows s (k - 1 - x) (k - 1 - (k - 1 - x)))) (sym number) ∙ ap (λ j. some (rows s j (k - 1 - j))) (sym start)

  pub not_found : same_monomial? m (row_at s (k - 1)).1 ≡ false → cached m (cache_of k s) ≡ cached m (cache_of from s)
  not_found q =
      let a : k ≡ suc (k - 1) = omega arith in
      ap (λ i. cached m (cache_of i s)) a ∙ look_on m (k - 1) s (same_turned (row_at s (k - 1)).1 m ∙ q)
      ∙ ap (λ x. cached m (cache_of (k - 1 - x) s)) (sym number) ∙ ap (λ j. cached m (cache_of j s)) (sym start)

-- ## A finished subtree

finish_is : (room u n : ℕ) (m : Monomial) (v : Vector) (k : Cache) → used k ≡ u → length v ≡ n → finish room m (v, k)
    ≡ finish_by (leb (u + suc n) room) m (v, k)
finish_is room u n m v k e f = λ i. finish_by (leb (e i + suc (f i)) room) m (v, k)

-- put in
pub entered : (u n a room : ℕ) (m : Monomial) (c z w : Words) → Keeps u c z → Copied a w n u z → row_at z (u + n) ≡ (n, m) → u + n < room
    → ◌≡◌ {A = Subtree} (rows z u n, 0, cache_of (u + n + 1) z) (finish room m (rows w a n, cache_of u c))
entered u n a room m c z w k cp e h =
    let g : rows z u n ≡ rows w a n = rows_same w z a u n cp in
    (λ i. (g i, 0, cache_more u n m (rows w a n) c z k e g i))
    ∙ sym (finish_is room u n m (rows w a n) (cache_of u c) (used_cache u c) (length_rows w a n)
    ∙ ap (λ b. finish_by b m (rows w a n, cache_of u c)) (le-leb (u + suc n) room (omega arith)))

-- not put in
pub waits : (u n a b room : ℕ) (m : Monomial) (c w z : Words) → Copied a w n b z → room ≤ u + n
    → ◌≡◌ {A = Subtree} (rows z b n, n, cache_of u c) (finish room m (rows w a n, cache_of u c))
waits u n a b room m c w z cp h =
    ap (λ (v : Vector). (v, n, cache_of u c)) (rows_same w z a b n cp)
    ∙ ap (λ k. (rows w a n, k, cache_of u c)) (sym (length_rows w a n))
    ∙ sym (finish_is room u n m (rows w a n) (cache_of u c) (used_cache u c) (length_rows w a n)
    ∙ ap (λ b. finish_by b m (rows w a n, cache_of u c)) (lt-leb (u + suc n) room (omega arith)))

-- the words of a sum copied behind the entries, then the row of its key
pub entered_words : (u n a room : ℕ) (m : Monomial) (c w d z : Words) → d
    ≡ paste c (u * row_length) (take ((a + n) * row_length - a * row_length) (drop (a * row_length) w)) (n * row_length) → z ≡ written d (u + n) (n, m)
    → Eight m.0
    → room * row_length ≤ length c → (a + n) * row_length ≤ length w → length d ≡ length c → u + n < room
    → ◌≡◌ {A = Subtree} (rows z u n, 0, cache_of (u + n + 1) z) (finish room m (rows w a n, cache_of u c))
entered_words u n a room m c w d z e₁ e₂ eight hc hw hd h = entered u n a room m c z w keeps copied key h
  where
    fits : (u + n) * row_length + row_length ≤ length d
    fits = omega (arith, hd)

    long : n * row_length ≤ length (take ((a + n) * row_length - a * row_length) (drop (a * row_length) w))
    long = omega (arith, length_part w (a * row_length) ((a + n) * row_length - a * row_length) (omega arith))

    other : (k : ℕ) → k < u + n → row_at z k ≡ row_at (paste c (u * row_length) (take ((a + n) * row_length - a * row_length) (drop (a * row_length) w))
        (n * row_length)) k
    other k l = ap (λ x. row_at x k) e₂ ∙ written_other d (u + n) (n, m) k fits eight (λ q. omega arith) ∙ ap (λ x. row_at x k) e₁

    keeps : Keeps u c z
    keeps k l = other k (omega arith) ∙ pasted_below c (take ((a + n) * row_length - a * row_length) (drop (a * row_length) w)) u n (omega arith) k l

    copied : Copied a w n u z
    copied k l = other (u + k) (omega arith) ∙ pasted_inside c (take ((a + n) * row_length - a * row_length) (drop (a * row_length) w)) u n k
        (omega arith) long l ∙ part_row w a ((a + n) * row_length - a * row_length) k (omega arith)

    key : row_at z (u + n) ≡ (n, m)
    key = ap (λ x. row_at x (u + n)) e₂ ∙ written_here d (u + n) (n, m) fits eight
