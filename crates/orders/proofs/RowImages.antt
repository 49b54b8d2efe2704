-- The image of a row, place by place: its exponents move up or down in one number, by a byte at each step. Its degree in lanes.
use mathlib.Core.Path.{◌≡◌, refl, sym, ap, ◌∙◌, subst}
use mathlib.Core.List.{[], ◌∷◌}
use Prim.Native.Nat.{ℕ, zero, suc, ◌+◌, ◌-◌, ◌*◌, ◌/◌, ◌%◌, ◌<◌, ◌≤◌}
use native.Mathlib.Omega.{arith}
use lib.ListN.{length, get_or}
use Rattle.definitions.specs.Monomial.{product, degree}
use Rattle.definitions.specs.Layout.{Words, long_at, row_at}
use Rattle.definitions.specs.Packed.{unpack, four, long_bound}
use Rattle.definitions.specs.Places.{most_image, row_length, image_length, component_offset, exponents_offset}
use Rattle.laws.proofs.Packing.{Bytes, bytes_of, unpack_is, unpack_long}
use Rattle.laws.proofs.Rows.{row_is}
use Rattle.monomial.specs.Values.{pair_lanes, lane_sum}
use Rattle.monomial.proofs.Places.{getD_product, length_product}
use Rattle.monomial.proofs.Lanes.{sums}
use Rattle.monomial.proofs.Bytewise.{lane_sum_four, e1, e8}
use Rattle.orders.specs.Images.{Key, Bounded, exponents_raw, row_image, table_of, key}
use Rattle.orders.proofs.Comparing.{getD_raw}
use Rattle.orders.proofs.Tables.{key_at_0, key_beyond, key_inside}

pub getD_image : (e : ℕ) (t : Words) (b k : ℕ) → k < 8 → get_or (row_image e t b) k 0 ≡ get_or (unpack e) k 0 + get_or t (b + k) 0
getD_image e t b k h =
    getD_product (unpack e) (exponents_raw t b) k (sym (unpack_long e)) (omega (arith, unpack_long e))
    ∙ ap (λ n. get_or (unpack e) k 0 + n) (getD_raw t b k h)

pub length_image : (e : ℕ) (t : Words) (b : ℕ) → length (row_image e t b) ≡ 8
length_image e t b = length_product (unpack e) (exponents_raw t b) (sym (unpack_long e)) ∙ unpack_long e

-- ## Up by a byte

-- f's exponents are e's from place j on
abbrev pub Ahead : ℕ → ℕ → ℕ → Type 0
Ahead e j f = (k : ℕ) → get_or (unpack f) k 0 ≡ get_or (unpack e) (j + k) 0

ahead_here : (e j f : ℕ) → f < long_bound → Ahead e j f → f / 72057594037927936 ≡ get_or (unpack e) j 0
ahead_here e j f h a =
    let b = bytes_of f h in
    let z : j + 0 ≡ j = omega arith in
    e1 f b ∙ sym (ap (λ l. get_or l 0 0) b.spelled) ∙ a 0 ∙ ap (λ n. get_or (unpack e) n 0) z

up : (f : ℕ) → Bytes f → (k : ℕ) → get_or (unpack (f % 72057594037927936 * 256)) k 0 ≡ get_or (unpack f) (suc k) 0
up f b k =
    ap (λ l. get_or l k 0) (unpack_is _ b.d2 b.d3 b.d4 b.d5 b.d6 b.d7 b.d8 0 (omega arith)
    b.s2 b.s3 b.s4 b.s5 b.s6 b.s7 b.s8 (omega arith))
    ∙ go k ∙ sym (ap (λ l. get_or l (suc k) 0) b.spelled)
  where
    go : (k : ℕ) → get_or (b.d2 ∷ b.d3 ∷ b.d4 ∷ b.d5 ∷ b.d6 ∷ b.d7 ∷ b.d8 ∷ 0 ∷ []) k 0
        ≡ get_or (b.d2 ∷ b.d3 ∷ b.d4 ∷ b.d5 ∷ b.d6 ∷ b.d7 ∷ b.d8 ∷ []) k 0
    go zero = refl
    go (suc zero) = refl
    go (suc (suc zero)) = refl
    go (suc (suc (suc zero))) = refl
    go (suc (suc (suc (suc zero)))) = refl
    go (suc (suc (suc (suc (suc zero))))) = refl
    go (suc (suc (suc (suc (suc (suc zero)))))) = refl
    go (suc (suc (suc (suc (suc (suc (suc zero))))))) = refl
    go (suc (suc (suc (suc (suc (suc (suc (suc k)))))))) = refl

pub ahead_on : (e j f : ℕ) → f < long_bound → Ahead e j f → Ahead e (j + 1) (f % 72057594037927936 * 256)
ahead_on e j f h a k =
    let z : j + suc k ≡ j + 1 + k = omega arith in
    up f (bytes_of f h) k ∙ a (suc k) ∙ ap (λ n. get_or (unpack e) n 0) z

pub ahead_image : (e : ℕ) (t : Words) (b j f : ℕ) → f < long_bound → j < 8 → Ahead e j f
    → f / 72057594037927936 + get_or t (b + j) 0 ≡ get_or (row_image e t b) j 0
ahead_image e t b j f h l a = ap (λ n. n + get_or t (b + j) 0) (ahead_here e j f h a) ∙ sym (getD_image e t b j l)

-- ## Down by a byte

-- f's last exponents are e's before place j
abbrev pub Behind : ℕ → ℕ → ℕ → Type 0
Behind e j f = (k m : ℕ) → j + m ≡ 8 → k < j → get_or (unpack f) (m + k) 0 ≡ get_or (unpack e) k 0

behind_here : (e j f : ℕ) → f < long_bound → j < 8 → Behind e (j + 1) f → f % 256 ≡ get_or (unpack e) j 0
behind_here e j f h l a =
    let b = bytes_of f h in
    let z : 7 ≡ 7 - j + j = omega arith in
    e8 f b ∙ sym (ap (λ l. get_or l 7 0) b.spelled) ∙ ap (λ n. get_or (unpack f) n 0) z ∙ a j (7 - j) (omega arith) (omega arith)

down : (f : ℕ) → Bytes f → (k : ℕ) → k < 7 → get_or (unpack (f / 256)) (suc k) 0 ≡ get_or (unpack f) k 0
down f b k h =
    ap (λ l. get_or l (suc k) 0) (unpack_is _ 0 b.d1 b.d2 b.d3 b.d4 b.d5 b.d6 b.d7 (omega arith)
    (omega arith) b.s1 b.s2 b.s3 b.s4 b.s5 b.s6 b.s7)
    ∙ go k h ∙ sym (ap (λ l. get_or l k 0) b.spelled)
  where
    go : (k : ℕ) → k < 7 → get_or (b.d1 ∷ b.d2 ∷ b.d3 ∷ b.d4 ∷ b.d5 ∷ b.d6 ∷ b.d7 ∷ []) k 0
        ≡ get_or (b.d1 ∷ b.d2 ∷ b.d3 ∷ b.d4 ∷ b.d5 ∷ b.d6 ∷ b.d7 ∷ b.d8 ∷ []) k 0
    go zero h = refl
    go (suc zero) h = refl
    go (suc (suc zero)) h = refl
    go (suc (suc (suc zero))) h = refl
    go (suc (suc (suc (suc zero)))) h = refl
    go (suc (suc (suc (suc (suc zero))))) h = refl
    go (suc (suc (suc (suc (suc (suc zero)))))) h = refl
    go (suc (suc (suc (suc (suc (suc (suc k))))))) h = absurd (omega arith)

pub behind_image : (e : ℕ) (t : Words) (b i j f : ℕ) → f < long_bound → j + 1 ≡ i → i ≤ 8 → Behind e i f
    → f % 256 + get_or t (b + j) 0 ≡ get_or (row_image e t b) j 0
behind_image e t b i j f h q l a =
    ap (λ n. n + get_or t (b + j) 0) (behind_here e j f h (omega arith) (subst (λ n. Behind e n f) (sym q) a)) ∙ sym (getD_image e t b j (omega arith))

pub behind_on : (e i j f : ℕ) → f < long_bound → j + 1 ≡ i → i ≤ 8 → Behind e i f → Behind e j (f / 256)
behind_on e i j f h p l a k m q r =
    let z : m + k ≡ suc (m - 1 + k) = omega arith in
    let s : m - 1 + k < 7 = omega arith in
    ap (λ n. get_or (unpack (f / 256)) n 0) z ∙ down f (bytes_of f h) (m - 1 + k) s ∙ a k (m - 1) (omega arith) (omega arith)

-- ## The degree, in lanes

-- the words of a table's entry, from word b on
entry_words : (t : Words) (b : ℕ) → long_at t (b + 4) ≡ four (get_or t (b + 7) 0) (get_or t (b + 6) 0) (get_or t (b + 5) 0) (get_or t (b + 4) 0)
entry_words t b =
    let x : b + 4 + 3 ≡ b + 7 = omega arith in
    let y : b + 4 + 2 ≡ b + 6 = omega arith in
    let z : b + 4 + 1 ≡ b + 5 = omega arith in
    λ i. four (get_or t (x i) 0) (get_or t (y i) 0) (get_or t (z i) 0) (get_or t (b + 4) 0)

module _ (e : ℕ) (a : Bytes e) (t : Words) (b : ℕ) (k : Bounded t b) where
  first : get_or t b 0 ≤ most_image
  first = let q : b + 0 ≡ b = omega arith in subst (λ n. get_or t n 0 ≤ most_image) q (k 0 (omega arith))

  abbrev s1 : ℕ
  s1 = a.d1 + a.d2 + get_or t (b + 3) 0 + get_or t (b + 7) 0

  abbrev s2 : ℕ
  s2 = a.d3 + a.d4 + get_or t (b + 2) 0 + get_or t (b + 6) 0

  abbrev s3 : ℕ
  s3 = a.d5 + a.d6 + get_or t (b + 1) 0 + get_or t (b + 5) 0

  abbrev s4 : ℕ
  s4 = a.d7 + a.d8 + get_or t b 0 + get_or t (b + 4) 0

  row_lanes : pair_lanes (unpack e) + long_at t b + long_at t (b + 4) ≡ four s1 s2 s3 s4
  row_lanes =
      (λ i. pair_lanes (a.spelled i) + long_at t b + entry_words t b i)
      ∙ ap (λ n. n + four (get_or t (b + 7) 0) (get_or t (b + 6) 0) (get_or t (b + 5) 0) (get_or t (b + 4) 0))
      (sums (a.d1 + a.d2) (a.d3 + a.d4) (a.d5 + a.d6) (a.d7 + a.d8) (get_or t (b + 3) 0) (get_or t (b + 2) 0) (get_or t (b + 1) 0) (get_or t b 0))
      ∙ sums (a.d1 + a.d2 + get_or t (b + 3) 0) (a.d3 + a.d4 + get_or t (b + 2) 0) (a.d5 + a.d6 + get_or t (b + 1) 0) (a.d7 + a.d8 + get_or t b 0)
      (get_or t (b + 7) 0) (get_or t (b + 6) 0) (get_or t (b + 5) 0) (get_or t (b + 4) 0)

  r1 : s1 < 16384
  r1 = omega (arith, k 3 (omega arith), k 7 (omega arith), a.s1, a.s2)

  r2 : s2 < 16384
  r2 = omega (arith, k 2 (omega arith), k 6 (omega arith), a.s3, a.s4)

  r3 : s3 < 16384
  r3 = omega (arith, k 1 (omega arith), k 5 (omega arith), a.s5, a.s6)

  r4 : s4 < 16384
  r4 = omega (arith, first, k 4 (omega arith), a.s7, a.s8)

  lanes_sum : lane_sum (pair_lanes (unpack e) + long_at t b + long_at t (b + 4)) ≡ s1 + s2 + s3 + s4
  lanes_sum = ap lane_sum row_lanes ∙ lane_sum_four s1 s2 s3 s4 (wider s1 r1) (wider s2 r2) (wider s3 r3) (wider s4 r4)
    where
      wider : (n : ℕ) → n < 16384 → n < 65536
      wider n h = omega arith

  below : pair_lanes (unpack e) + long_at t b + long_at t (b + 4) < long_bound
  below = subst (λ n. n < long_bound) (sym row_lanes) (room s1 s2 s3 s4 r1 r2 r3 r4)
    where
      room : (p q r s : ℕ) → p < 16384 → q < 16384 → r < 16384 → s < 16384 → four p q r s < long_bound
      room p q r s hp hq hr hs = omega arith

  roomy : lane_sum (pair_lanes (unpack e) + long_at t b + long_at t (b + 4)) < 65536
  roomy = subst (λ n. n < 65536) (sym lanes_sum) (room s1 s2 s3 s4 r1 r2 r3 r4)
    where
      room : (p q r s : ℕ) → p < 16384 → q < 16384 → r < 16384 → s < 16384 → p + q + r + s < 65536
      room p q r s hp hq hr hs = omega arith

  totals : lane_sum (pair_lanes (unpack e) + long_at t b + long_at t (b + 4)) ≡ degree (row_image e t b)
  totals = lanes_sum ∙ omega arith ∙ sym (ap (λ x. degree (product x (exponents_raw t b))) a.spelled)

-- .. from what the code has: x the row's exponents two by two, l and h the table's
module _ (e : ℕ) (a : Bytes e) (t : Words) (b : ℕ) (k : Bounded t b) (x l h : ℕ) (ex : x ≡ pair_lanes (unpack e)) (el : l ≡ long_at t b)
    (eh : h ≡ long_at t (b + 4)) where
  sum_is : x + l + h ≡ pair_lanes (unpack e) + long_at t b + long_at t (b + 4)
  sum_is = λ i. ex i + el i + eh i

  pub row_fits : x + l + h < long_bound
  row_fits = subst (λ n. n < long_bound) (sym sum_is) (below e a t b k)

  pub row_room : lane_sum (x + l + h) < 65536
  row_room = subst (λ n. lane_sum n < 65536) (sym sum_is) (roomy e a t b k)

  pub row_degree : lane_sum (x + l + h) ≡ degree (row_image e t b)
  row_degree = ap lane_sum sum_is ∙ totals e a t b k

-- ## The key of a row

pub row_key_at_0 : (r : ℕ) (t s : Words) (i e : ℕ) → get_or s (i * row_length + component_offset) 0 ≡ 0
    → e ≡ long_at s (i * row_length + exponents_offset)
    → ◌≡◌ {A = Key} (unpack e, (0, get_or s (i * row_length + component_offset) 0)) (key (table_of r t) (row_at s i).1)
row_key_at_0 r t s i e z f =
    key_at_0 r t (unpack (long_at s (i * row_length + exponents_offset)), get_or s (i * row_length + component_offset) 0) (unpack e) z (ap unpack f)
    ∙ ap (λ u. key (table_of r t) u.1) (sym (row_is s i))

pub row_key_beyond : (r : ℕ) (t s : Words) (i e : ℕ) → r < get_or s (i * row_length + component_offset) 0
    → e ≡ long_at s (i * row_length + exponents_offset)
    → ◌≡◌ {A = Key} (unpack e, (0, get_or s (i * row_length + component_offset) 0)) (key (table_of r t) (row_at s i).1)
row_key_beyond r t s i e h f =
    key_beyond r t (unpack (long_at s (i * row_length + exponents_offset)), get_or s (i * row_length + component_offset) 0) (unpack e) h (ap unpack f)
    ∙ ap (λ u. key (table_of r t) u.1) (sym (row_is s i))

pub row_key_inside : (r : ℕ) (t s : Words) (i to e : ℕ) → (get_or s (i * row_length + component_offset) 0 ≡ 0 → ⊥)
    → get_or s (i * row_length + component_offset) 0 ≤ r → to ≡ get_or s (i * row_length + component_offset) 0 * image_length - image_length
    → e ≡ long_at s (i * row_length + exponents_offset)
    → ◌≡◌ {A = Key} (row_image e t (to + 2), (get_or t (to + 1) 0, get_or s (i * row_length + component_offset) 0)) (key (table_of r t) (row_at s i).1)
row_key_inside r t s i to e n h q f =
    (λ j. (row_image (f j) t (q j + 2), (get_or t (q j + 1) 0, get_or s (i * row_length + component_offset) 0)))
    ∙ key_inside r t (unpack (long_at s (i * row_length + exponents_offset)), get_or s (i * row_length + component_offset) 0) _ n h refl
    ∙ ap (λ u. key (table_of r t) u.1) (sym (row_is s i))
