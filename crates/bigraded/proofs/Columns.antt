-- The generators of each column: components, and vectors level by level.
use mathlib.Core.Path.{◌≡◌, refl, sym, ap, ◌∙◌}
use mathlib.Core.Bool.{Bool, true, false, not}
use mathlib.Core.List.{List, [], ◌∷◌, ◌++◌, reverse, reverse-cons}
use Prim.Native.Nat.{ℕ, zero, suc, ◌+◌, ◌-◌, ◌<◌, ◌≤◌}
use native.Mathlib.Omega.{arith}
use lib.Dec.{T, leb, ltb, eqb, leb→le, nleb→lt, ltb→lt, nltb→le}
use lib.ListN.{length, get_or, drop, replicate, length-reverse}
use Rattle.definitions.specs.Lists.{choose, count, map, from}
use Rattle.definitions.specs.Monomial.{Monomial, Level, leading}
use Rattle.definitions.specs.Stage.{highest}
use Rattle.definitions.specs.Problem.{Parameters}
use Rattle.definitions.specs.State.{State}
use Rattle.definitions.specs.Degrees.{component_degree, image_over}
use Rattle.definitions.specs.Columns.{images, columns}
use Rattle.definitions.specs.Bidegrees.{degree_weighted, Bidegree, firsts, seconds, bidegree, same_bidegree?}
use Rattle.definitions.specs.Places.{exponents_length}
use Rattle.demands.specs.Demands.{level_of}
use Rattle.degrees.specs.Notions.{levels_below}
use Rattle.betti.specs.Notions.{listed_level, all_generators}
use Rattle.bigraded.specs.Notions.{bidegree_of, generators_at, generators_weighted}
use Rattle.bigraded.proofs.Weighted.{weighted_unit}

-- ## Lists

pub count_same : {A : Type 0} (P Q : A → Bool) → ((a : A) → P a ≡ Q a) → (l : List A) → count P l ≡ count Q l
count_same P Q h [] = refl
count_same P Q h (a ∷ l) = λ i. elim (h a i) [ true ↦ suc (count_same P Q h l i) | false ↦ count_same P Q h l i ]

pub count_map : {A B : Type 0} (P : B → Bool) (g : A → B) (l : List A) → count P (map g l) ≡ count (λ a. P (g a)) l
count_map P g [] = refl
count_map P g (a ∷ l) = ap (λ n. elim (P (g a)) [ true ↦ suc n | false ↦ n ]) (count_map P g l)

pub count_all : {A : Type 0} (l : List A) → count (λ a. true) l ≡ length l
count_all [] = refl
count_all (a ∷ l) = ap suc (count_all l)

pub length_map : {A B : Type 0} (g : A → B) (l : List A) → length (map g l) ≡ length l
length_map g [] = refl
length_map g (a ∷ l) = ap suc (length_map g l)

pub length_from : (a n : ℕ) → length (from a n) ≡ n
length_from a zero = refl
length_from a (suc n) = ap suc (length_from (suc a) n)

module _ {A : Type 0} where
  getD_left : (l r : List A) (k : ℕ) (d : A) → k < length l → get_or (l ++ r) k d ≡ get_or l k d
  getD_left [] r k d h = absurd (omega arith)
  getD_left (a ∷ l) r zero d h = refl
  getD_left (a ∷ l) r (suc k) d h = getD_left l r k d (omega arith)

  get_d_at : (l : List A) (a d : A) → get_or (l ++ a ∷ []) (length l) d ≡ a
  get_d_at [] a d = refl
  get_d_at (b ∷ l) a d = get_d_at l a d

  get_d_past : (l : List A) (k : ℕ) (d : A) → length l ≤ k → get_or l k d ≡ d
  get_d_past [] k d h = refl
  get_d_past (a ∷ l) zero d h = absurd (omega arith)
  get_d_past (a ∷ l) (suc k) d h = get_d_past l k d (omega arith)

get_d_map : {A B : Type 0} (g : A → B) (l : List A) (i : ℕ) (d : A) → get_or (map g l) i (g d) ≡ g (get_or l i d)
get_d_map g [] i d = refl
get_d_map g (a ∷ l) zero d = refl
get_d_map g (a ∷ l) (suc i) d = get_d_map g l i d

-- ## Level k is column k + 1

length_images : (ls : List Level) → length (images ls) ≡ length ls
length_images [] = refl
length_images (f ∷ ls) = ap suc (length_images ls)

-- the images of a level's vectors
abbrev over : List Level → Level → List Monomial
over below f = map (λ v. image_over below (leading v)) f

abbrev level_images : List Level → ℕ → List Monomial
level_images ls k = over (levels_below ls k) (level_of ls k)

long : (ls : List Level) → length (reverse (images ls)) ≡ length ls
long ls = length-reverse (images ls) ∙ length_images ls

complete : (ls : List Level) (k : ℕ) → k < length ls → get_or (reverse (images ls)) k [] ≡ level_images ls k
complete [] k h = absurd (omega arith)
complete (f ∷ ls) k h = go (leb (suc k) (length ls)) (leb→le (suc k) (length ls)) (nleb→lt (suc k) (length ls)) (λ l. complete ls k l)
  where
    top : List Monomial
    top = over ls f

    turned : get_or (reverse (images (f ∷ ls))) k [] ≡ get_or (reverse (images ls) ++ top ∷ []) k []
    turned = ap (λ l. get_or l k []) (reverse-cons top (images ls))

    lower : k < length ls → get_or (reverse (images ls)) k [] ≡ level_images ls k → get_or (reverse (images (f ∷ ls))) k [] ≡ level_images (f ∷ ls) k
    lower l ih =
        let e : suc (length ls) - suc k ≡ suc (length ls - suc k) = omega arith in
        turned ∙ getD_left (reverse (images ls)) (top ∷ []) k [] (omega (arith, long ls, l)) ∙ ih
        ∙ ap (λ j. over (drop (suc j) (f ∷ ls)) (highest (drop j (f ∷ ls)))) (sym e)

    upper : k ≡ length ls → get_or (reverse (images (f ∷ ls))) k [] ≡ level_images (f ∷ ls) k
    upper q =
        let e : suc (length ls) - suc k ≡ 0 = omega (arith, q) in
        turned ∙ ap (λ j. get_or (reverse (images ls) ++ top ∷ []) j []) (q ∙ sym (long ls)) ∙ get_d_at (reverse (images ls)) top []
        ∙ ap (λ j. over (drop (suc j) (f ∷ ls)) (highest (drop j (f ∷ ls)))) (sym e)

    go : (b : Bool) → (T b → suc k ≤ length ls) → (T (not b) → length ls < suc k)
        → (k < length ls → get_or (reverse (images ls)) k [] ≡ level_images ls k)
        → get_or (reverse (images (f ∷ ls))) k [] ≡ level_images (f ∷ ls) k
    go true s n ih = let l : k < length ls = s tt in lower l (ih l)
    go false s n ih = let l : length ls < suc k = n tt in upper (omega (arith, l, h))

-- .. where it is there, else nothing
pub column_is : (ls : List Level) (k : ℕ) → get_or (reverse (images ls)) k [] ≡ over (levels_below ls k) (listed_level ls k)
column_is ls k = go (ltb k (length ls)) (ltb→lt k (length ls)) (nltb→le k (length ls))
  where
    go : (b : Bool) → (T b → k < length ls) → (T (not b) → length ls ≤ k)
        → get_or (reverse (images ls)) k [] ≡ over (levels_below ls k) (choose b (level_of ls k) [])
    go true s n = complete ls k (s tt)
    go false s n = let l = n tt in get_d_past (reverse (images ls)) k [] (omega (arith, long ls, l))

pub length_columns : (X : State) → length (columns X) ≡ suc (length X.levels)
length_columns X = ap suc (long X.levels)

-- ## Bidegrees

-- of each column's generators
abbrev pub column_bidegrees : List (ℕ × ℕ) → State → List (List Bidegree)
column_bidegrees ws X = map (map (bidegree ws X.parameters.degrees)) (columns X)

-- a component's is its own degree and 0
pub component_bidegree : (ws : List (ℕ × ℕ)) (d : List ℕ) (i : ℕ) → bidegree ws d (replicate exponents_length 0, i) ≡ (component_degree d i, 0)
component_bidegree ws d i =
    let a : degree_weighted (firsts ws) d (replicate exponents_length 0, i) ≡ component_degree d i =
    let z = weighted_unit (firsts ws) exponents_length in omega (arith, z) in
    let b = weighted_unit (seconds ws) exponents_length in
    λ j. (a j, b j)

module _ (ws : List (ℕ × ℕ)) (X : State) where
  abbrev q : Parameters
  q = X.parameters

  abbrev d : List ℕ
  d = X.parameters.degrees

  -- what a test counts in a column
  pub counted : (P : Bidegree → Bool) (k : ℕ) → count P (get_or (column_bidegrees ws X) (suc k) [])
      ≡ count (λ v. P (bidegree_of ws d (levels_below X.levels k) v)) (listed_level X.levels k)
  counted P k =
      ap (count P) (get_d_map (map (bidegree ws d)) (columns X) (suc k) [] ∙ ap (map (bidegree ws d)) (column_is X.levels k))
      ∙ count_map P (bidegree ws d) (over (levels_below X.levels k) (listed_level X.levels k))
      ∙ count_map (λ m. P (bidegree ws d m)) (λ v. image_over (levels_below X.levels k) (leading v)) (listed_level X.levels k)

  pub counted_components : (P : Bidegree → Bool) → count P (get_or (column_bidegrees ws X) 0 []) ≡ count (λ i. P (component_degree d i, 0)) (from 1 q.s)
  counted_components P =
      count_map P (bidegree ws d) (map (λ i. (replicate exponents_length 0, i)) (from 1 q.s))
      ∙ count_map (λ m. P (bidegree ws d m)) (λ i. (replicate exponents_length 0, i)) (from 1 q.s)
      ∙ count_same (λ i. P (bidegree ws d (replicate exponents_length 0, i))) (λ i. P (component_degree d i, 0))
      (λ i. ap P (component_bidegree ws d i)) (from 1 q.s)

  -- how many have a bidegree
  pub counts_are : (c : ℕ) (x : Bidegree) → count (same_bidegree? x) (get_or (column_bidegrees ws X) c []) ≡ generators_at ws q X.levels c x
  counts_are zero x = counted_components (same_bidegree? x)
  counts_are (suc k) x = counted (same_bidegree? x) k

  -- how many have a first degree
  pub firsts_are : (c a : ℕ) → count (λ x. eqb x.0 a) (get_or (column_bidegrees ws X) c []) ≡ generators_weighted (firsts ws) q X.levels c a
  firsts_are zero a = counted_components (λ x. eqb x.0 a)
  firsts_are (suc k) a = counted (λ x. eqb x.0 a) k

  -- how many there are
  pub all_are : (c : ℕ) → count (λ x. true) (get_or (column_bidegrees ws X) c []) ≡ all_generators q X.levels c
  all_are zero = counted_components (λ x. true) ∙ count_all (from 1 q.s) ∙ length_from 1 q.s
  all_are (suc k) = counted (λ x. true) k ∙ count_all (listed_level X.levels k)
