-- Rows after a row was stored, changed, taken out or let in: word lists carried to lists of terms, once for all.
use mathlib.Core.Path.{◌≡◌, sym, ap, ◌∙◌}
use mathlib.Core.Bool.{Bool, true, false, not}
use mathlib.Core.List.{[], ◌∷◌, ◌++◌, append-nil}
use Prim.Native.Nat.{ℕ, suc, ◌+◌, ◌-◌, ◌*◌, ◌<◌, ◌≤◌}
use native.Mathlib.Omega.{arith}
use native.Mathlib.Decide.{ℕ_discrete}
use lib.Dec.{T, ltb, ltb→lt, nltb→le}
use lib.ListN.{length, take, drop, get_or, set, length-set, length-append, length-drop, get_or-append}
use lib.Seq.{ext_get_or, get_or-set_same, get_or-set_other, get_or-append-add, get_or-take, get_or-drop, length-take-le, length-paste}
use Rattle.definitions.specs.Lists.{without}
use Rattle.definitions.specs.Monomial.{Term, Vector}
use Rattle.definitions.specs.Packed.{four, unpack}
use Rattle.definitions.specs.Layout.{Words, row_at, rows, row_of}
use Rattle.laws.proofs.Packing.{Eight}
use Rattle.laws.proofs.Rows.{row_spelled, length_row, length_rows, get_d_rows, rows_same, rows_last}
use Rattle.definitions.specs.Places.{row_length, component_offset, exponents_offset}
use Rattle.vectors.specs.terms.Rows.{written, closed, opened, let_in}
use Rattle.vectors.proofs.terms.Moving.{getD_paste_in, getD_paste_below, getD_paste_above, length_opened}

-- ## One row

-- rows whose words are the same
pub same_row : (s z : Words) (i k : ℕ) → ((j : ℕ) → j < row_length → get_or z (k * row_length + j) 0 ≡ get_or s (i * row_length + j) 0) → row_at z k
    ≡ row_at s i
unfolding row_at
same_row s z i k w = λ x. (
  at (k * row_length) (i * row_length) 0 (omega arith) (omega arith) (omega arith) x,
  (
    unpack (four (at (k * row_length + exponents_offset + 3) (i * row_length + exponents_offset + 3) 5 (omega arith) (omega arith) (omega arith) x)
        (at (k * row_length + exponents_offset + 2) (i * row_length + exponents_offset + 2) 4 (omega arith) (omega arith) (omega arith) x)
        (at (k * row_length + exponents_offset + 1) (i * row_length + exponents_offset + 1) 3 (omega arith) (omega arith) (omega arith) x)
        (at (k * row_length + exponents_offset) (i * row_length + exponents_offset) 2 (omega arith) (omega arith) (omega arith) x)),
    at (k * row_length + component_offset) (i * row_length + component_offset) 1 (omega arith) (omega arith) (omega arith) x,
  ),
)
  where
    at : (n m j : ℕ) → n ≡ k * row_length + j → i * row_length + j ≡ m → j < row_length → get_or z n 0 ≡ get_or s m 0
    at n m j e f l = ap (λ x. get_or z x 0) e ∙ w j l ∙ ap (λ x. get_or s x 0) f

pub written_here : (s : Words) (i : ℕ) (t : Term) → i * row_length + row_length ≤ length s → Eight t.1.0 → row_at (written s i t) i ≡ t
written_here s i t h e = same_row (row_of t) (written s i t) 0 i word ∙ row_spelled (row_of t) 0 t [] e (sym (append-nil (row_of t)))
  where
    word : (j : ℕ) → j < row_length → get_or (written s i t) (i * row_length + j) 0 ≡ get_or (row_of t) (0 * row_length + j) 0
    word j l = let q : j ≡ 0 * row_length + j = omega arith in getD_paste_in s (i * row_length) (row_of t) row_length j 0 h
        (omega (arith, length_row t)) l ∙ ap (λ n. get_or (row_of t) n 0) q

pub written_other : (s : Words) (i : ℕ) (t : Term) (k : ℕ) → i * row_length + row_length ≤ length s → Eight t.1.0 → (k ≡ i → ⊥)
    → row_at (written s i t) k ≡ row_at s k
written_other s i t k h e d = same_row s (written s i t) k k (λ j l. go j l (ltb k i) (ltb→lt k i) (nltb→le k i))
  where
    go : (j : ℕ) → j < row_length → (b : Bool) → (T b → k < i) → (T (not b) → i ≤ k) → get_or (written s i t) (k * row_length + j) 0
        ≡ get_or s (k * row_length + j) 0
    go j l true f g = let u : k < i = f tt in getD_paste_below s (i * row_length) (row_of t) row_length (k * row_length + j) 0 (omega arith)
        (omega arith)
    go j l false f g = let u : i ≤ k = g tt in let n : k ≡ i → ⊥ = d in
        getD_paste_above s (i * row_length) (row_of t) row_length (k * row_length + j) 0 h (omega (arith, length_row t)) (omega arith)

pub length_written : (s : Words) (i : ℕ) (t : Term) → i * row_length + row_length ≤ length s → Eight t.1.0 → length (written s i t) ≡ length s
length_written s i t h e = length-paste s (i * row_length) (row_of t) row_length h (omega (arith, length_row t))

-- ## The first n rows

-- one of them stored anew
pub rows_written : (s : Words) (n i : ℕ) (t : Term) → i * row_length + row_length ≤ length s → Eight t.1.0 → rows (written s i t) 0 n
    ≡ set (rows s 0 n) i t
rows_written s n i t h e = ext_get_or t (rows (written s i t) 0 n) (set (rows s 0 n) i t)
    (length_rows (written s i t) 0 n ∙ sym (length-set (rows s 0 n) i t ∙ length_rows s 0 n)) at
  where
    at : (k : ℕ) → k < length (rows (written s i t) 0 n) → get_or (rows (written s i t) 0 n) k t ≡ get_or (set (rows s 0 n) i t) k t
    at k l = let m : k < n = omega (arith, length_rows (written s i t) 0 n) in get_d_rows (written s i t) 0 n k t m ∙ go (ℕ_discrete k i) m
      where
        go : Dec (k ≡ i) → k < n → row_at (written s i t) (0 + k) ≡ get_or (set (rows s 0 n) i t) k t
        go (yes q) m =
            let z : 0 + k ≡ i = omega arith in
            ap (row_at (written s i t)) z ∙ written_here s i t h e ∙ sym
            (ap (λ j. get_or (set (rows s 0 n) i t) j t) q ∙ get_or-set_same (rows s 0 n) i t t (omega (arith, length_rows s 0 n)))
        go (no ne) m =
            let d : 0 + k ≡ i → ⊥ = λ q. ne (omega arith) in
            written_other s i t (0 + k) h e d ∙ sym (get_or-set_other (rows s 0 n) i k t t ne ∙ get_d_rows s 0 n k t m)

-- one stored behind them
pub rows_appended : (s : Words) (n : ℕ) (t : Term) → n * row_length + row_length ≤ length s → Eight t.1.0 → rows (written s n t) 0 (n + 1)
    ≡ rows s 0 n ++ t ∷ []
rows_appended s n t h e =
    let z : 0 + n ≡ n = omega arith in
    rows_last (written s n t) 0 n
    ∙ (λ i. rows_same s (written s n t) 0 0 n (λ k l. written_other s n t (0 + k) h e (λ q. omega arith)) i
    ++ (ap (row_at (written s n t)) z ∙ written_here s n t h e) i ∷ [])

-- one taken out, those above it moved down
closed_row : (s : Words) (n i k : ℕ) → i < n → n * row_length ≤ length s → i ≤ k → k + 1 < n
    → row_at (closed s (i * row_length) (n * row_length - row_length)) k ≡ row_at s (k + 1)
closed_row s n i k h l m o = same_row s (closed s (i * row_length) (n * row_length - row_length)) (k + 1) k word
  where
    word : (j : ℕ) → j < row_length → get_or (closed s (i * row_length) (n * row_length - row_length)) (k * row_length + j) 0
        ≡ get_or s ((k + 1) * row_length + j) 0
    word j q =
        let e : k * row_length + j ≡ i * row_length + ((k - i) * row_length + j) = omega arith in
        let f : i * row_length + row_length + ((k - i) * row_length + j) ≡ (k + 1) * row_length + j = omega arith in
        ap (λ x. get_or (closed s (i * row_length) (n * row_length - row_length)) x 0) e
        ∙ getD_paste_in s (i * row_length) (drop (i * row_length + row_length) s) (n * row_length - row_length - i * row_length)
        ((k - i) * row_length + j) 0 (omega arith) (omega (arith, length-drop (i * row_length + row_length) s)) (omega arith)
        ∙ get_or-drop (i * row_length + row_length) s ((k - i) * row_length + j) 0 ∙ ap (λ x. get_or s x 0) f

closed_under : (s : Words) (n i k : ℕ) → i < n → n * row_length ≤ length s → k < i → row_at (closed s (i * row_length) (n * row_length - row_length)) k
    ≡ row_at s k
closed_under s n i k h l m = same_row s (closed s (i * row_length) (n * row_length - row_length)) k k
    (λ j q. getD_paste_below s (i * row_length) (drop (i * row_length + row_length) s) (n * row_length - row_length - i * row_length)
    (k * row_length + j) 0 (omega arith) (omega arith))

-- what stands where without member i
getD_without_under : (v : Vector) (i k : ℕ) (d : Term) → i < length v → k < i → get_or (without i v) k d ≡ get_or v k d
getD_without_under v i k d h l = get_or-append (take i v) (drop (suc i) v) d k (omega (arith, length-take-le i v (omega arith)))
    ∙ get_or-take i v k d l

getD_without_over : (v : Vector) (i k : ℕ) (d : Term) → i < length v → i ≤ k → get_or (without i v) k d ≡ get_or v (k + 1) d
getD_without_over v i k d h l =
    let p : length (take i v) ≡ i = length-take-le i v (omega arith) in
    let e : k ≡ length (take i v) + (k - i) = omega arith in
    let f : suc i + (k - i) ≡ k + 1 = omega arith in
    ap (λ j. get_or (without i v) j d) e ∙ get_or-append-add (take i v) (drop (suc i) v) (k - i) d ∙ get_or-drop (suc i) v (k - i) d ∙ ap (λ j. get_or v j d) f

pub length_without : (v : Vector) (i : ℕ) → i < length v → length (without i v) ≡ length v - 1
length_without v i h = length-append (take i v) (drop (suc i) v) ∙ omega (arith, length-take-le i v (omega arith), length-drop (suc i) v)

pub rows_closed : (s : Words) (n i : ℕ) → i < n → n * row_length ≤ length s → rows (closed s (i * row_length) (n * row_length - row_length)) 0 (n - 1)
    ≡ without i (rows s 0 n)
rows_closed s n i h l = ext_get_or (row_at s 0) left (without i (rows s 0 n)) same at
  where
    left : Vector
    left = rows (closed s (i * row_length) (n * row_length - row_length)) 0 (n - 1)

    inside : i < length (rows s 0 n)
    inside = omega (arith, length_rows s 0 n)

    same : length left ≡ length (without i (rows s 0 n))
    same = length_rows (closed s (i * row_length) (n * row_length - row_length)) 0 (n - 1)
        ∙ sym (length_without (rows s 0 n) i inside ∙ ap (λ x. x - 1) (length_rows s 0 n))

    at : (k : ℕ) → k < length left → get_or left k (row_at s 0) ≡ get_or (without i (rows s 0 n)) k (row_at s 0)
    at k m = let o : k < n - 1 = omega (arith, length_rows (closed s (i * row_length) (n * row_length - row_length)) 0 (n - 1)) in
        get_d_rows (closed s (i * row_length) (n * row_length - row_length)) 0 (n - 1) k (row_at s 0) o ∙ go o (ltb k i) (ltb→lt k i) (nltb→le k i)
      where
        z : 0 + k ≡ k
        z = omega arith

        go : k < n - 1 → (b : Bool) → (T b → k < i) → (T (not b) → i ≤ k) → row_at (closed s (i * row_length) (n * row_length - row_length)) (0 + k)
            ≡ get_or (without i (rows s 0 n)) k (row_at s 0)
        go o true f g =
            ap (row_at (closed s (i * row_length) (n * row_length - row_length))) z ∙ closed_under s n i k h l (f tt)
            ∙ sym (getD_without_under (rows s 0 n) i k (row_at s 0) inside (f tt) ∙ get_d_rows s 0 n k (row_at s 0) (omega arith) ∙ ap (row_at s) z)
        go o false f g =
            let y : 0 + (k + 1) ≡ k + 1 = omega arith in
            ap (row_at (closed s (i * row_length) (n * row_length - row_length))) z ∙ closed_row s n i k h l (g tt) (omega arith)
            ∙ sym (getD_without_over (rows s 0 n) i k (row_at s 0) inside (g tt) ∙ get_d_rows s 0 n (k + 1) (row_at s 0) (omega arith) ∙ ap (row_at s) y)

-- a coefficient changed in place
pub rows_coefficient : (s : Words) (n i c : ℕ) → i < n → n * row_length ≤ length s → rows (set s (i * row_length) c) 0 n
    ≡ set (rows s 0 n) i (c, (row_at s i).1)
unfolding row_at
rows_coefficient s n i c h l = ext_get_or (row_at s 0) (rows (set s (i * row_length) c) 0 n) (set (rows s 0 n) i new)
    (length_rows (set s (i * row_length) c) 0 n ∙ sym (length-set (rows s 0 n) i new ∙ length_rows s 0 n)) at
  where
    new : Term
    new = (c, (row_at s i).1)

    here : row_at (set s (i * row_length) c) i ≡ (c, (row_at s i).1)
    here = λ x. (
      get_or-set_same s (i * row_length) c 0 (omega arith) x,
      (
        unpack (four (kept (i * row_length + exponents_offset + 3) (λ e. omega arith) x) (kept (i * row_length + exponents_offset + 2) (λ e. omega arith) x)
            (kept (i * row_length + exponents_offset + 1) (λ e. omega arith) x) (kept (i * row_length + exponents_offset) (λ e. omega arith) x)),
        kept (i * row_length + component_offset) (λ e. omega arith) x,
      ),
    )
      where
        kept : (n : ℕ) → (n ≡ i * row_length → ⊥) → get_or (set s (i * row_length) c) n 0 ≡ get_or s n 0
        kept n d = get_or-set_other s (i * row_length) n c 0 d

    other : (k : ℕ) → (k ≡ i → ⊥) → row_at (set s (i * row_length) c) k ≡ row_at s k
    other k d = same_row s (set s (i * row_length) c) k k (λ j q. get_or-set_other s (i * row_length) (k * row_length + j) c 0 (λ e. d (omega arith)))

    at : (k : ℕ) → k < length (rows (set s (i * row_length) c) 0 n) → get_or (rows (set s (i * row_length) c) 0 n) k (row_at s 0)
        ≡ get_or (set (rows s 0 n) i new) k (row_at s 0)
    at k m = let o : k < n = omega (arith, length_rows (set s (i * row_length) c) 0 n) in get_d_rows (set s (i * row_length) c) 0 n k (row_at s 0) o
        ∙ go o (ℕ_discrete k i)
      where
        go : k < n → Dec (k ≡ i) → row_at (set s (i * row_length) c) (0 + k) ≡ get_or (set (rows s 0 n) i new) k (row_at s 0)
        go o (yes q) =
            let z : 0 + k ≡ i = omega arith in
            ap (row_at (set s (i * row_length) c)) z ∙ here ∙ sym (ap (λ j. get_or (set (rows s 0 n) i new) j (row_at s 0)) q
            ∙ get_or-set_same (rows s 0 n) i new (row_at s 0) (omega (arith, length_rows s 0 n)))
        go o (no ne) = other (0 + k) (λ q. ne (omega arith)) ∙ sym (get_or-set_other (rows s 0 n) i k new (row_at s 0) ne
            ∙ get_d_rows s 0 n k (row_at s 0) o)

-- ## One let in, those from it on moved up

opened_under : (s : Words) (n i k : ℕ) → i ≤ n → n * row_length + row_length ≤ length s → k < i → row_at (opened s (i * row_length) (n * row_length)) k
    ≡ row_at s k
opened_under s n i k h l m = same_row s (opened s (i * row_length) (n * row_length)) k k
    (λ j q. getD_paste_below s (i * row_length + row_length) (drop (i * row_length) s) (n * row_length - i * row_length) (k * row_length + j) 0
    (omega arith) (omega arith))

opened_row : (s : Words) (n i k : ℕ) → i ≤ n → n * row_length + row_length ≤ length s → i ≤ k → k < n
    → row_at (opened s (i * row_length) (n * row_length)) (k + 1) ≡ row_at s k
opened_row s n i k h l m o = same_row s (opened s (i * row_length) (n * row_length)) k (k + 1) word
  where
    word : (j : ℕ) → j < row_length → get_or (opened s (i * row_length) (n * row_length)) ((k + 1) * row_length + j) 0 ≡ get_or s (k * row_length + j) 0
    word j q =
        let e : (k + 1) * row_length + j ≡ i * row_length + row_length + ((k - i) * row_length + j) = omega arith in
        let f : i * row_length + ((k - i) * row_length + j) ≡ k * row_length + j = omega arith in
        ap (λ x. get_or (opened s (i * row_length) (n * row_length)) x 0) e
        ∙ getD_paste_in s (i * row_length + row_length) (drop (i * row_length) s) (n * row_length - i * row_length) ((k - i) * row_length + j) 0
        (omega arith) (omega (arith, length-drop (i * row_length) s)) (omega arith)
        ∙ get_or-drop (i * row_length) s ((k - i) * row_length + j) 0 ∙ ap (λ x. get_or s x 0) f

-- what stands where with a term let in at i
getD_let_in_under : (v : Vector) (i : ℕ) (t : Term) (k : ℕ) (d : Term) → i ≤ length v → k < i → get_or (let_in i t v) k d ≡ get_or v k d
getD_let_in_under v i t k d h l = get_or-append (take i v) (t ∷ drop i v) d k (omega (arith, length-take-le i v h)) ∙ get_or-take i v k d l

getD_let_in_at : (v : Vector) (i : ℕ) (t : Term) (d : Term) → i ≤ length v → get_or (let_in i t v) i d ≡ t
getD_let_in_at v i t d h = let p : i ≡ length (take i v) + 0 = omega (arith, length-take-le i v h) in ap (λ j. get_or (let_in i t v) j d) p
    ∙ get_or-append-add (take i v) (t ∷ drop i v) 0 d

getD_let_in_over : (v : Vector) (i : ℕ) (t : Term) (k : ℕ) (d : Term) → i ≤ length v → i ≤ k → get_or (let_in i t v) (k + 1) d ≡ get_or v k d
getD_let_in_over v i t k d h l =
    let p : k + 1 ≡ length (take i v) + suc (k - i) = omega (arith, length-take-le i v h) in
    let q : i + (k - i) ≡ k = omega arith in
    ap (λ j. get_or (let_in i t v) j d) p ∙ get_or-append-add (take i v) (t ∷ drop i v) (suc (k - i)) d ∙ get_or-drop i v (k - i) d ∙ ap (λ j. get_or v j d) q

pub length_let_in : (v : Vector) (i : ℕ) (t : Term) → i ≤ length v → length (let_in i t v) ≡ length v + 1
length_let_in v i t h = length-append (take i v) (t ∷ drop i v) ∙ omega (arith, length-take-le i v h, length-drop i v)

pub rows_let_in : (s : Words) (n i : ℕ) (t : Term) → i ≤ n → n * row_length + row_length ≤ length s → Eight t.1.0
    → rows (written (opened s (i * row_length) (n * row_length)) i t) 0 (n + 1) ≡ let_in i t (rows s 0 n)
rows_let_in s n i t h l e = ext_get_or t (rows (written o i t) 0 (n + 1)) (let_in i t (rows s 0 n))
    (length_rows (written o i t) 0 (n + 1) ∙ sym (length_let_in (rows s 0 n) i t inside ∙ ap (λ x. x + 1) (length_rows s 0 n))) at
  where
    o : Words
    o = opened s (i * row_length) (n * row_length)

    room : i * row_length + row_length ≤ length o
    room = omega (arith, length_opened s (i * row_length) (n * row_length) (omega arith) l)

    inside : i ≤ length (rows s 0 n)
    inside = omega (arith, length_rows s 0 n)

    at : (k : ℕ) → k < length (rows (written o i t) 0 (n + 1)) → get_or (rows (written o i t) 0 (n + 1)) k t ≡ get_or (let_in i t (rows s 0 n)) k t
    at k m = let q : k < n + 1 = omega (arith, length_rows (written o i t) 0 (n + 1)) in get_d_rows (written o i t) 0 (n + 1) k t q
        ∙ go q (ℕ_discrete k i) (ltb k i) (ltb→lt k i) (nltb→le k i)
      where
        z : 0 + k ≡ k
        z = omega arith

        go : k < n + 1 → Dec (k ≡ i) → (b : Bool) → (T b → k < i) → (T (not b) → i ≤ k) → row_at (written o i t) (0 + k)
            ≡ get_or (let_in i t (rows s 0 n)) k t
        go q (yes x) b f g = ap (row_at (written o i t)) (z ∙ x) ∙ written_here o i t room e
            ∙ sym (ap (λ j. get_or (let_in i t (rows s 0 n)) j t) x ∙ getD_let_in_at (rows s 0 n) i t t inside)
        go q (no x) true f g =
            let u : k < i = f tt in
            ap (row_at (written o i t)) z ∙ written_other o i t k room e x ∙ opened_under s n i k h l (f tt)
            ∙ sym (getD_let_in_under (rows s 0 n) i t k t inside (f tt) ∙ get_d_rows s 0 n k t (omega arith) ∙ ap (row_at s) z)
        go q (no x) false f g =
            let u : i ≤ k = g tt in
            let y : i < k = omega arith in
            let w : k ≡ k - 1 + 1 = omega arith in
            let v : 0 + (k - 1) ≡ k - 1 = omega arith in
            ap (row_at (written o i t)) z ∙ written_other o i t k room e x ∙ ap (row_at o) w ∙ opened_row s n i (k - 1) h l (omega arith) (omega arith)
            ∙ sym (ap (λ j. get_or (let_in i t (rows s 0 n)) j t) w ∙ getD_let_in_over (rows s 0 n) i t (k - 1) t inside (omega arith)
            ∙ get_d_rows s 0 n (k - 1) t (omega arith) ∙ ap (row_at s) v)
