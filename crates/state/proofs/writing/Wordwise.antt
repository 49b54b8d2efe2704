-- Parts of a list by their words: all given, zeros, some words and zeros behind them.
use mathlib.Core.Path.{◌≡◌, sym, ap, ◌∙◌}
use mathlib.Core.Bool.{Bool, true, false, not}
use Prim.Native.Nat.{ℕ, ◌+◌, ◌-◌, ◌<◌, ◌≤◌}
use native.Mathlib.Omega.{arith}
use lib.Dec.{T, ltb, ltb→lt, nltb→le}
use lib.ListN.{length, take, drop, get_or, replicate, length-drop, length-replicate, get_or-append, get_or-eq_default}
use lib.Seq.{ext_get_or, get_or-take, get_or-drop, get_or-append-add, length-take-le}
use Rattle.definitions.specs.Layout.{Words, padded}
use Rattle.laws.proofs.RoundTrip.{length_padded}
use Rattle.reducers.proofs.tables.Spanning.{zero_everywhere}
use Rattle.state.specs.writing.Zeroed.{Same, Zero}

pub part_is : (z w : Words) (a n : ℕ) → a + n ≤ length z → length w ≡ n → ((i : ℕ) → i < n → get_or z (a + i) 0 ≡ get_or w i 0) → take n (drop a z) ≡ w
part_is z w a n h e f =
    let l : length (take n (drop a z)) ≡ n = length-take-le n (drop a z) (omega (arith, length-drop a z)) in
    ext_get_or 0 (take n (drop a z)) w (l ∙ sym e) (λ i m. get_or-take n (drop a z) i 0 (omega arith) ∙ get_or-drop a z i 0 ∙ f i (omega arith))

-- zeros behind a list do not show
pub getD_padded : (n : ℕ) (l : Words) (i : ℕ) → get_or (padded n l) i 0 ≡ get_or l i 0
getD_padded n l i = go (ltb i (length l)) (ltb→lt i (length l)) (nltb→le i (length l))
  where
    go : (b : Bool) → (T b → i < length l) → (T (not b) → length l ≤ i) → get_or (padded n l) i 0 ≡ get_or l i 0
    go true f g = get_or-append l (replicate (n - length l) 0) 0 i (f tt)
    go false f g =
        let h : length l ≤ i = g tt in
        let z : i ≡ length l + (i - length l) = omega arith in
        ap (λ j. get_or (padded n l) j 0) z ∙ get_or-append-add l (replicate (n - length l) 0) (i - length l) 0
        ∙ zero_everywhere (n - length l) (i - length l) ∙ sym (get_or-eq_default l 0 h)

-- the first r words, zeros behind them
pub getD_taken : (r : ℕ) (l : Words) (i : ℕ) → r ≤ length l → (i < r → ⊥) → get_or (take r l) i 0 ≡ 0
getD_taken r l i h n = let m : length (take r l) ≤ i = omega (arith, length-take-le r l h, n) in get_or-eq_default (take r l) 0 m

pub zeros_are : (z : Words) (a n : ℕ) → a + n ≤ length z → Zero z a (a + n) → take n (drop a z) ≡ replicate n 0
zeros_are z a n h f = part_is z (replicate n 0) a n h (length-replicate {A = ℕ} n 0)
    (λ i l. f (a + i) (omega arith) (omega arith) ∙ sym (zero_everywhere n i))

pub zeros_rest : (z : Words) (a : ℕ) → a ≤ length z → Zero z a (length z) → drop a z ≡ replicate (length z - a) 0
zeros_rest z a h f =
    let l : length (drop a z) ≡ length z - a = length-drop a z in
    ext_get_or 0 (drop a z) (replicate (length z - a) 0) (l ∙ sym (length-replicate {A = ℕ} (length z - a) 0))
    (λ i m. get_or-drop a z i 0 ∙ f (a + i) (omega arith) (omega arith) ∙ sym (zero_everywhere (length z - a) i))

-- n words from a on as in s, zeros behind them up to size many
pub padded_part : (s z : Words) (a n size : ℕ) → a + size ≤ length z → a + size ≤ length s → n ≤ size → Same z s a (a + n) → Zero z (a + n) (a + size)
    → take size (drop a z) ≡ padded size (take n (drop a s))
padded_part s z a n size h k l same zero =
    part_is z (padded size (take n (drop a s))) a size h (length_padded size (take n (drop a s)) (omega (arith, long)))
    (λ i m. word i m (ltb i n) (ltb→lt i n) (nltb→le i n) ∙ sym (getD_padded size (take n (drop a s)) i))
  where
    room : n ≤ length (drop a s)
    room = omega (arith, length-drop a s)

    long : length (take n (drop a s)) ≡ n
    long = length-take-le n (drop a s) room

    word : (i : ℕ) → i < size → (b : Bool) → (T b → i < n) → (T (not b) → n ≤ i) → get_or z (a + i) 0 ≡ get_or (take n (drop a s)) i 0
    word i m true f g = let q : i < n = f tt in
        same (a + i) (omega arith) (omega arith) ∙ sym (get_or-take n (drop a s) i 0 q ∙ get_or-drop a s i 0)
    word i m false f g = let q : n ≤ i = g tt in
        zero (a + i) (omega arith) (omega arith) ∙ sym (getD_taken n (drop a s) i room (λ x. omega arith))
