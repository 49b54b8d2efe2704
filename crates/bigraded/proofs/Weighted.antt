-- Weighted sums of exponents, and bidegrees of images: found from those of the level below, and how large they can be.
use mathlib.Core.Path.{◌≡◌, refl, sym, ap, ◌∙◌}
use mathlib.Core.List.{List, [], ◌∷◌, ◌++◌}
use Prim.Native.Nat.{ℕ, zero, suc, ◌+◌, ◌-◌, ◌*◌, ◌<◌, ◌≤◌}
use native.Mathlib.Nat.{mul-le-mul_right}
use native.Mathlib.Omega.{arith}
use lib.Dec.{T, leb, leb→le}
use lib.ListN.{length, get_or, drop, replicate}
use Rattle.definitions.specs.Lists.{between, map}
use Rattle.definitions.specs.Monomial.{Exponents, Monomial, Vector, Level, product, degree, fits?, leading, vector_of}
use Rattle.definitions.specs.Order.{image, image_by}
use Rattle.definitions.specs.Problem.{pairs}
use Rattle.definitions.specs.Degrees.{component_degree, image_over}
use Rattle.definitions.specs.Bidegrees.{weighted, Bidegree, firsts, seconds, bidegree}
use Rattle.definitions.specs.Places.{exponents_length, most_degree, most_weight, most_weighted, most_levels}
use Rattle.laws.proofs.Tests.{between_low, between_high}
use Rattle.laws.proofs.Members.{All, every_all, all_map, all_at, all_inside}
use Rattle.laws.proofs.Induced.{shifted, image_shifted}
use Rattle.laws.proofs.Degrees.{Headed, AllHeaded, headed_leads, over_has}
use Rattle.laws.proofs.Heights.{eight_most, Low, low_of}

-- ## Sums

pub weighted_product : (ws : List ℕ) (a b : Exponents) → length a ≡ length b → weighted ws (product a b) ≡ weighted ws a + weighted ws b
weighted_product [] a b h = refl
weighted_product (w ∷ ws) [] [] h = refl
weighted_product (w ∷ ws) [] (y ∷ b) h = absurd (omega arith)
weighted_product (w ∷ ws) (x ∷ a) [] h = absurd (omega arith)
weighted_product (w ∷ ws) (x ∷ a) (y ∷ b) h =
    let e = weighted_product ws a b (omega arith) in
    let p : w * (x + y) ≡ w * x + w * y = omega arith in
    omega (arith, e, p)

pub weighted_zeros : (ws : List ℕ) (e : Exponents) → All (λ x. x ≡ 0) e → weighted ws e ≡ 0
weighted_zeros [] e h = refl
weighted_zeros (w ∷ ws) [] h = refl
weighted_zeros (w ∷ ws) (x ∷ e) h =
    let r = weighted_zeros ws e h.1 in
    let z : w * x ≡ 0 = ap (λ y. w * y) h.0 ∙ omega arith in
    omega (arith, r, z)

pub all_zero : (n : ℕ) → All (λ (x : ℕ). x ≡ 0) (replicate n 0)
all_zero zero = tt
all_zero (suc n) = (refl, all_zero n)

-- the unit monomial's
pub weighted_unit : (ws : List ℕ) (n : ℕ) → weighted ws (replicate n 0) ≡ 0
weighted_unit ws n = weighted_zeros ws (replicate n 0) (all_zero n)

-- zero weights more
pub weighted_padded : (ws : List ℕ) (n : ℕ) (e : Exponents) → weighted (ws ++ replicate n 0) e ≡ weighted ws e
weighted_padded [] zero e = refl
weighted_padded [] (suc n) [] = refl
weighted_padded [] (suc n) (x ∷ e) = let r = weighted_padded [] n e in omega (arith, r)
weighted_padded (w ∷ ws) n [] = refl
weighted_padded (w ∷ ws) n (x ∷ e) = ap (λ s. w * x + s) (weighted_padded ws n e)

-- weights past n do not matter where exponents past n are zero
pub weighted_past : (n : ℕ) (ws ws' : List ℕ) (e : Exponents) → ((i : ℕ) → i < n → get_or ws i 0 ≡ get_or ws' i 0) → All (λ x. x ≡ 0) (drop n e)
    → weighted ws e ≡ weighted ws' e
weighted_past zero ws ws' e h z = weighted_zeros ws e z ∙ sym (weighted_zeros ws' e z)
weighted_past (suc n) [] [] e h z = refl
weighted_past (suc n) [] (w ∷ ws) [] h z = refl
weighted_past (suc n) [] (w ∷ ws) (x ∷ e) h z =
    let r = weighted_past n [] ws e (λ i l. h (suc i) (omega arith)) z in
    let k : w * x ≡ 0 = ap (λ y. y * x) (sym (h 0 (omega arith))) ∙ omega arith in
    omega (arith, r, k)
weighted_past (suc n) (w ∷ ws) [] [] h z = refl
weighted_past (suc n) (w ∷ ws) [] (x ∷ e) h z =
    let r = weighted_past n ws [] e (λ i l. h (suc i) (omega arith)) z in
    let k : w * x ≡ 0 = ap (λ y. y * x) (h 0 (omega arith)) ∙ omega arith in
    omega (arith, r, k)
weighted_past (suc n) (w ∷ ws) (v ∷ vs) [] h z = refl
weighted_past (suc n) (w ∷ ws) (v ∷ vs) (x ∷ e) h z =
    let r = weighted_past n ws vs e (λ i l. h (suc i) (omega arith)) z in
    let k : w * x ≡ v * x = ap (λ y. y * x) (h 0 (omega arith)) in
    omega (arith, r, k)

-- weights 1 for all variables that occur
pub weighted_ones : (ws : List ℕ) → All (λ w. w ≡ 1) ws → (e : Exponents) → All (λ x. x ≡ 0) (drop (length ws) e) → weighted ws e ≡ degree e
weighted_ones [] h [] z = refl
weighted_ones [] h (x ∷ e) z = let a = z.0 in let r = weighted_ones [] tt e z.1 in omega (arith, a, r)
weighted_ones (w ∷ ws) h [] z = refl
weighted_ones (w ∷ ws) h (x ∷ e) z =
    let r = weighted_ones ws h.1 e z in
    let k : w * x ≡ x = ap (λ y. y * x) h.0 ∙ omega arith in
    omega (arith, r, k)

-- ## From the level below

-- the weighted sums of a monomial
abbrev pub weights_by : List (ℕ × ℕ) → Exponents → Bidegree
weights_by ws e = (weighted (firsts ws) e, weighted (seconds ws) e)

abbrev pub added : Bidegree → Bidegree → Bidegree
added x y = (x.0 + y.0, x.1 + y.1)

-- of a monomial times q
pub bidegree_shifted : (ws : List (ℕ × ℕ)) (d : List ℕ) (q : Exponents) (m : Monomial) → length q ≡ length m.0
    → bidegree ws d (shifted q m) ≡ added (weights_by ws q) (bidegree ws d m)
bidegree_shifted ws d q m h =
    let a = weighted_product (firsts ws) q m.0 h in
    let b = weighted_product (seconds ws) q m.0 h in
    let c : weighted (firsts ws) (product q m.0) + component_degree d m.1
    ≡ weighted (firsts ws) q + (weighted (firsts ws) m.0 + component_degree d m.1) = omega (arith, a) in
    λ i. (c i, b i)

over_shifted : (below : List Level) (q : Exponents) (m : Monomial) → image_over below (shifted q m) ≡ shifted q (image_over below m)
over_shifted [] q m = refl
over_shifted (f ∷ below) q m = ap (image_over below) (image_shifted q f m) ∙ over_shifted below q (image f m)

image_headed : (e : Exponents) (v : Vector) → Headed v → image_by e v ≡ shifted e (leading v)
image_headed e [] h = absurd (let l = h.filled in omega arith)
image_headed e (t ∷ v) h = refl

headed_of : (f : Level) → All Headed f → (i : ℕ) → T (between 1 i (length f)) → Headed (vector_of f i)
headed_of f h zero r = absurd (let l : 1 ≤ 0 = between_low 1 0 (length f) r in omega arith)
headed_of f h (suc j) r = all_inside Headed [] f j (let l : suc j ≤ length f = between_high 1 (suc j) (length f) r in omega arith) h

-- a monomial's bidegree over levels is its own weighted sums and the bidegree of the vector below that its component names
pub bidegree_recursion : (ws : List (ℕ × ℕ)) (d : List ℕ) (f : Level) (below : List Level) (m : Monomial) → AllHeaded (f ∷ below)
    → length m.0 ≡ exponents_length → T (between 1 m.1 (length f))
    → bidegree ws d (image_over (f ∷ below) m) ≡ added (weights_by ws m.0) (bidegree ws d (image_over below (leading (vector_of f m.1))))
bidegree_recursion ws d f below m s h r =
    let v = vector_of f m.1 in
    let led = headed_of f s.0 m.1 r in
    ap (λ x. bidegree ws d (image_over below x)) (image_headed m.0 v led) ∙ ap (bidegree ws d) (over_shifted below m.0 (leading v))
    ∙ bidegree_shifted ws d m.0 (image_over below (leading v)) (h ∙ sym (over_has below (headed_leads below s.1) (leading v) led.eight))

get_d_map : {A B : Type 0} (g : A → B) (l : List A) (i : ℕ) (d : A) (d' : B) → i < length l → get_or (map g l) i d' ≡ g (get_or l i d)
get_d_map g [] i d d' h = absurd (omega arith)
get_d_map g (a ∷ l) zero d d' h = refl
get_d_map g (a ∷ l) (suc i) d d' h = get_d_map g l i d d' (omega arith)

-- the bidegrees of a level's vectors
abbrev pub level_bidegrees : List (ℕ × ℕ) → List ℕ → List Level → Level → List Bidegree
level_bidegrees ws d below f = map (λ v. bidegree ws d (image_over below (leading v))) f

-- .. from a table of those of the level below
pub bidegree_from_table : (ws : List (ℕ × ℕ)) (d : List ℕ) (f : Level) (below : List Level) (m : Monomial) → AllHeaded (f ∷ below)
    → length m.0 ≡ exponents_length → T (between 1 m.1 (length f))
    → bidegree ws d (image_over (f ∷ below) m) ≡ added (weights_by ws m.0) (get_or (level_bidegrees ws d below f) (m.1 - 1) (0, 0))
bidegree_from_table ws d f below m s h r =
    bidegree_recursion ws d f below m s h r ∙ ap (added (weights_by ws m.0)) (go m.1 r)
  where
    go : (i : ℕ) → T (between 1 i (length f)) → bidegree ws d (image_over below (leading (vector_of f i))) ≡ get_or (level_bidegrees ws d below f) (i - 1) (0, 0)
    go zero r = absurd (let l : 1 ≤ 0 = between_low 1 0 (length f) r in omega arith)
    go (suc j) r =
        let l : j < length f = let k : suc j ≤ length f = between_high 1 (suc j) (length f) r in omega arith in
        let e : j ≡ suc j - 1 = omega arith in
        sym (get_d_map (λ v. bidegree ws d (image_over below (leading v))) f j [] (0, 0) l) ∙ ap (λ k. get_or (level_bidegrees ws d below f) k (0, 0)) e

-- ## How large

-- a monomial's weighted sum at the most
abbrev pub eight_weighted : ℕ
eight_weighted = most_weight * eight_most

pub weighted_most : (ws : List ℕ) → All (λ w. w ≤ most_weight) ws → (e : Exponents) → weighted ws e ≤ most_weight * degree e
weighted_most [] h e = omega arith
weighted_most (w ∷ ws) h [] = omega arith
weighted_most (w ∷ ws) h (x ∷ e) =
    let a : w ≤ most_weight = h.0 in
    let p : w * x ≤ most_weight * x = mul-le-mul_right x a in
    let r = weighted_most ws h.1 e in
    omega (arith, p, r)

weighted_product_most : (ws : List ℕ) (a b : Exponents) → weighted ws (product a b) ≤ weighted ws a + weighted ws b
weighted_product_most [] a b = omega arith
weighted_product_most (w ∷ ws) [] b = omega arith
weighted_product_most (w ∷ ws) (x ∷ a) [] = omega arith
weighted_product_most (w ∷ ws) (x ∷ a) (y ∷ b) =
    let r = weighted_product_most ws a b in
    let p : w * (x + y) ≡ w * x + w * y = omega arith in
    omega (arith, r, p)

module _ (ws : List ℕ) (small : All (λ w. w ≤ most_weight) ws) where
  -- a leading monomial of eight exponents
  low_weighted : (v : Vector) → Low v → weighted ws (leading v).0 ≤ eight_weighted
  low_weighted v h = let a = weighted_most ws small (leading v).0 in omega (arith, a, h)

  image_weighted : (e : Exponents) (v : Vector) → Low v → weighted ws (image_by e v).0 ≤ weighted ws e + eight_weighted
  image_weighted e [] h = omega arith
  image_weighted e (t ∷ v) h =
      let a = weighted_product_most ws e t.1.0 in
      let b : weighted ws t.1.0 ≤ eight_weighted = low_weighted (t ∷ v) h in
      omega (arith, a, b)

  over_weighted : (below : List Level) → All (All Low) below → (m : Monomial)
      → weighted ws (image_over below m).0 ≤ weighted ws m.0 + length below * eight_weighted
  over_weighted [] h m = omega arith
  over_weighted (f ∷ below) h m =
      let a = over_weighted below h.1 (image f m) in
      let b = image_weighted m.0 (vector_of f m.1) (low_of f h.0 m.1) in
      omega (arith, a, b)

  -- of a vector over so many levels
  pub vector_weighted : (below : List Level) → All (All Low) below → length below ≤ most_levels → (v : Vector) → Low v
      → weighted ws (image_over below (leading v)).0 ≤ most_weighted
  vector_weighted below h l v k =
      let a = over_weighted below h (leading v) in
      let b = low_weighted v k in
      omega (arith, a, b, l)

-- a component's degree
pub component_most : (d : List ℕ) → T (fits? most_degree d) → (i : ℕ) → component_degree d i ≤ most_degree
component_most d t zero = omega arith
component_most d t (suc i) =
    all_at (λ x. x ≤ most_degree) 0 (omega arith) d i
    (all_map (λ x. T (leb x most_degree)) (λ x. x ≤ most_degree) (λ x. leb→le x most_degree) d (every_all (λ x. leb x most_degree) d t))

-- weights of 0 to 15 of each variable
abbrev pub Small : List (ℕ × ℕ) → Type 0
Small ws = All (λ w. (w.0 ≤ most_weight) × (w.1 ≤ most_weight)) ws

pub small_firsts : (ws : List (ℕ × ℕ)) → Small ws → All (λ w. w ≤ most_weight) (firsts ws)
small_firsts [] h = tt
small_firsts (w ∷ ws) h = (h.0.0, small_firsts ws h.1)

pub small_seconds : (ws : List (ℕ × ℕ)) → Small ws → All (λ w. w ≤ most_weight) (seconds ws)
small_seconds [] h = tt
small_seconds (w ∷ ws) h = (h.0.1, small_seconds ws h.1)

-- both numbers of a bidegree are small: 306,255 and 306,000 at the most
abbrev pub LowBidegree : Bidegree → Type 0
LowBidegree x = (x.0 ≤ most_weighted + most_degree) × (x.1 ≤ most_weighted)

pub bidegree_low : (ws : List (ℕ × ℕ)) → Small ws → (d : List ℕ) → T (fits? most_degree d) → (below : List Level) → All (All Low) below
    → length below ≤ most_levels → (v : Vector) → Low v → LowBidegree (bidegree ws d (image_over below (leading v)))
bidegree_low ws s d t below h l v k =
    let a = vector_weighted (firsts ws) (small_firsts ws s) below h l v k in
    let b = component_most d t (image_over below (leading v)).1 in
    (omega (arith, a, b), vector_weighted (seconds ws) (small_seconds ws s) below h l v k)

-- ## Weights

-- those of a file without G
pub firsts_plain : (n : ℕ) → firsts (replicate n (1, 0)) ≡ replicate n 1
firsts_plain zero = refl
firsts_plain (suc n) = ap (λ l. 1 ∷ l) (firsts_plain n)

pub seconds_plain : (n : ℕ) → seconds (replicate n (1, 0)) ≡ replicate n 0
seconds_plain zero = refl
seconds_plain (suc n) = ap (λ l. 0 ∷ l) (seconds_plain n)

-- those of a G line: a_i and b_i stand beside each other
pub firsts_pairs : (v : List ℕ) (i : ℕ) → suc (2 * i) < length v → get_or (firsts (pairs v)) i 0 ≡ get_or v (2 * i) 0
firsts_pairs [] i h = absurd (omega arith)
firsts_pairs (a ∷ []) i h = absurd (omega arith)
firsts_pairs (a ∷ b ∷ v) zero h = refl
firsts_pairs (a ∷ b ∷ v) (suc i) h =
    let e : suc (suc (2 * i)) ≡ 2 * suc i = omega arith in
    firsts_pairs v i (omega arith) ∙ ap (λ k. get_or (a ∷ b ∷ v) k 0) e

pub seconds_pairs : (v : List ℕ) (i : ℕ) → suc (2 * i) < length v → get_or (seconds (pairs v)) i 0 ≡ get_or v (suc (2 * i)) 0
seconds_pairs [] i h = absurd (omega arith)
seconds_pairs (a ∷ []) i h = absurd (omega arith)
seconds_pairs (a ∷ b ∷ v) zero h = refl
seconds_pairs (a ∷ b ∷ v) (suc i) h =
    let e : suc (suc (suc (2 * i))) ≡ suc (2 * suc i) = omega arith in
    seconds_pairs v i (omega arith) ∙ ap (λ k. get_or (a ∷ b ∷ v) k 0) e

-- n of them where there are 2 n numbers, small ones where these are small
pub length_pairs : (n : ℕ) (v : List ℕ) → length v ≡ 2 * n → length (pairs v) ≡ n
length_pairs zero [] h = refl
length_pairs zero (a ∷ v) h = absurd (omega arith)
length_pairs (suc n) [] h = absurd (omega arith)
length_pairs (suc n) (a ∷ []) h = absurd (omega arith)
length_pairs (suc n) (a ∷ b ∷ v) h = ap suc (length_pairs n v (omega arith))

pub small_pairs : (v : List ℕ) → All (λ x. x ≤ most_weight) v → Small (pairs v)
small_pairs [] h = tt
small_pairs (a ∷ []) h = tt
small_pairs (a ∷ b ∷ v) h = ((h.0, h.1.0), small_pairs v h.1.1)

pub small_plain : (n : ℕ) → Small (replicate n (1, 0))
small_plain zero = tt
small_plain (suc n) = ((omega arith, omega arith), small_plain n)
