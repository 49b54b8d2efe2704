-- The rows of a page: from the smallest to the largest in use, each once, and how many there can be.
use mathlib.Core.Path.{◌≡◌, refl, sym, ap, subst}
use mathlib.Core.Bool.{Bool, true, false, not}
use mathlib.Core.List.{List, [], ◌∷◌, ◌++◌}
use Prim.Native.Nat.{ℕ, zero, suc, ◌+◌, ◌-◌, ◌<◌, ◌≤◌, max, min}
use native.Mathlib.Omega.{arith}
use lib.Dec.{T, eqb, leb, eqb→eq, eqb_refl, leb→le, nleb→lt}
use lib.ListN.{length, get_or}
use Rattle.definitions.specs.Lists.{count, map, from, sum}
use Rattle.definitions.specs.Places.{most_vectors, most_carried, row_shift}
use Rattle.definitions.specs.Betti.{rows_in_use, smallest, largest, all_rows, betti_count}
use Rattle.laws.proofs.Members.{All, all_map, all_map₂, all_append, all_at}
use Rattle.betti.proofs.Columns.{Column}

pub length_from : (a n : ℕ) → length (from a n) ≡ n
length_from a zero = refl
length_from a (suc n) = ap suc (length_from (suc a) n)

-- ## How many

-- no degree above most
module _ (most : ℕ) where
  -- a row's number, counted from −10
  abbrev pub Row : ℕ → Type 0
  Row r = r ≤ most + row_shift

  column_rows : (c : ℕ) (ds : List ℕ) → All (λ x. x ≤ most) ds → All Row (map (λ d. d + row_shift - c) ds)
  column_rows c [] h = tt
  column_rows c (d ∷ ds) h = (let a = h.0 in omega (arith, a), column_rows c ds h.1)

  pub rows_low : (c : ℕ) (cs : List (List ℕ)) → All (All (λ x. x ≤ most)) cs → All Row (rows_in_use c cs)
  rows_low c [] h = tt
  rows_low c (ds ∷ cs) h =
      all_append Row (map (λ d. d + row_shift - c) ds) (rows_in_use (suc c) cs) (column_rows c ds h.0) (rows_low (suc c) cs h.1)

  smallest_most : (a : ℕ) (l : List ℕ) → smallest a l ≤ a
  smallest_most a [] = omega arith
  smallest_most a (b ∷ l) = let h = smallest_most (min a b) l in omega (arith, h)

  pub largest_low : (a : ℕ) (l : List ℕ) → Row a → All Row l → Row (largest a l)
  largest_low a [] h k = h
  largest_low a (b ∷ l) h k = largest_low (max a b) l (let g = k.0 in omega (arith, h, g)) k.1

  from_low : (a n : ℕ) → a + n ≤ suc (most + row_shift) → All Row (from a n)
  from_low a zero h = tt
  from_low a (suc n) h = (omega (arith, h), from_low (suc a) n (omega (arith, h)))

  -- of all rows between
  pub record FewRows (rs : List ℕ) : Type 0 where
    pub each : All Row rs
    pub few : length rs ≤ suc (most + row_shift)

  all_rows_few : (l : List ℕ) → All Row l → FewRows (all_rows l)
  all_rows_few [] h = record { each = tt; few = omega arith }
  all_rows_few (r ∷ rs) h =
      let a = smallest_most r rs in
      let b : largest r rs ≤ most + row_shift = largest_low r rs h.0 h.1 in
      let c : r ≤ most + row_shift = h.0 in
      record {
        each = from_low (smallest r rs) (suc (largest r rs) - smallest r rs) (omega (arith, a, b, c));
        few = let e = length_from (smallest r rs) (suc (largest r rs) - smallest r rs) in omega (arith, e, b);
      }

  pub rows_few : (cs : List (List ℕ)) → All (All (λ x. x ≤ most)) cs → FewRows (all_rows (rows_in_use 0 cs))
  rows_few cs h = all_rows_few (rows_in_use 0 cs) (rows_low 0 cs h)

-- the degrees that are carried
pub columns_low : (cs : List (List ℕ)) → All Column cs → All (All (λ x. x ≤ most_carried)) cs
columns_low cs h = all_map Column (All (λ x. x ≤ most_carried)) (λ ds c. c.low) cs h

-- ## Counts

pub count_most : {A : Type 0} (P : A → Bool) (l : List A) → count P l ≤ length l
count_most P [] = omega arith
count_most P (a ∷ l) = go (P a) (count_most P l)
  where
    go : (b : Bool) → count P l ≤ length l → elim b [ true ↦ suc (count P l) | false ↦ count P l ] ≤ suc (length l)
    go true h = omega (arith, h)
    go false h = omega (arith, h)

module _ (c : ℕ) where
  -- how many of the rows have the generator of degree d
  abbrev hits : ℕ → List ℕ → ℕ
  hits d rs = count (λ r. eqb (d + row_shift) (r + c)) rs

  -- the generators of row r
  abbrev in_row : ℕ → List ℕ → ℕ
  in_row r ds = count (λ d. eqb (d + row_shift) (r + c)) ds

  total_none : (rs : List ℕ) → sum (map (λ r. in_row r []) rs) ≡ 0
  total_none [] = refl
  total_none (r ∷ rs) = let h = total_none rs in omega (arith, h)

  total_cons : (d : ℕ) (ds rs : List ℕ) → sum (map (λ r. in_row r (d ∷ ds)) rs) ≡ hits d rs + sum (map (λ r. in_row r ds) rs)
  total_cons d ds [] = refl
  total_cons d ds (r ∷ rs) = go (eqb (d + row_shift) (r + c)) (total_cons d ds rs)
    where
      go : (b : Bool) → sum (map (λ r. in_row r (d ∷ ds)) rs) ≡ hits d rs + sum (map (λ r. in_row r ds) rs)
          → elim b [ true ↦ suc (in_row r ds) | false ↦ in_row r ds ] + sum (map (λ r. in_row r (d ∷ ds)) rs)
          ≡ elim b [ true ↦ suc (hits d rs) | false ↦ hits d rs ] + (in_row r ds + sum (map (λ r. in_row r ds) rs))
      go true i = omega (arith, i)
      go false i = omega (arith, i)

  no_hits : (d a n : ℕ) → d + row_shift < a + c → hits d (from a n) ≡ 0
  no_hits d a zero h = refl
  no_hits d a (suc n) h = go (eqb (d + row_shift) (a + c)) (eqb→eq (d + row_shift) (a + c)) (no_hits d (suc a) n (omega arith))
    where
      go : (b : Bool) → (T b → d + row_shift ≡ a + c) → hits d (from (suc a) n) ≡ 0
          → ◌≡◌ {A = ℕ} (elim b [ true ↦ suc (hits d (from (suc a) n)) | false ↦ hits d (from (suc a) n) ]) 0
      go true e i = absurd (let z = e tt in omega (arith, z, h))
      go false e i = i

  -- a generator whose row is printed is counted once
  hit : (d a n : ℕ) → a + c ≤ d + row_shift → d + row_shift < a + n + c → hits d (from a n) ≡ 1
  hit d a zero h k = absurd (omega (arith, h, k))
  hit d a (suc n) h k =
      go (eqb (d + row_shift) (a + c)) (eqb→eq (d + row_shift) (a + c)) (λ e. subst (λ x. T (eqb (d + row_shift) x)) e (eqb_refl (d + row_shift)))
      (no_hits d (suc a) n) (hit d (suc a) n)
    where
      go : (b : Bool) → (T b → d + row_shift ≡ a + c) → (d + row_shift ≡ a + c → T b) → (d + row_shift < suc a + c → hits d (from (suc a) n) ≡ 0)
          → (suc a + c ≤ d + row_shift → d + row_shift < suc a + n + c → hits d (from (suc a) n) ≡ 1)
          → ◌≡◌ {A = ℕ} (elim b [ true ↦ suc (hits d (from (suc a) n)) | false ↦ hits d (from (suc a) n) ]) 1
      go true e f z ih = let i : d + row_shift ≡ a + c = e tt in ap suc (z (omega (arith, i)))
      go false e f z ih =
          ih (apart (leb (suc a + c) (d + row_shift)) (leb→le (suc a + c) (d + row_shift)) (nleb→lt (suc a + c) (d + row_shift))) (omega (arith, k))
        where
          apart : (t : Bool) → (T t → suc a + c ≤ d + row_shift) → (T (not t) → d + row_shift < suc a + c) → suc a + c ≤ d + row_shift
          apart true p q = p tt
          apart false p q = absurd (f (let l = q tt in omega (arith, l, h)))

  total_all : (a n : ℕ) (ds : List ℕ) → All (λ d. (a + c ≤ d + row_shift) × (d + row_shift < a + n + c)) ds
      → sum (map (λ r. in_row r ds) (from a n)) ≡ length ds
  total_all a n [] h = total_none (from a n)
  total_all a n (d ∷ ds) h =
      let i = total_cons d ds (from a n) in
      let j = hit d a n h.0.0 h.0.1 in
      let k = total_all a n ds h.1 in
      omega (arith, i, j, k)

-- ## From the smallest to the largest

pub smallest_least : (a : ℕ) (l : List ℕ) → (smallest a l ≤ a) × All (λ x. smallest a l ≤ x) l
smallest_least a [] = (omega arith, tt)
smallest_least a (b ∷ l) = let r = smallest_least (min a b) l in let h = r.0 in (omega (arith, h), (omega (arith, h), r.1))

pub largest_greatest : (a : ℕ) (l : List ℕ) → (a ≤ largest a l) × All (λ x. x ≤ largest a l) l
largest_greatest a [] = (omega arith, tt)
largest_greatest a (b ∷ l) = let r = largest_greatest (max a b) l in let h = r.0 in (omega (arith, h), (omega (arith, h), r.1))

all_left : (P : ℕ → Type 0) (l m : List ℕ) → All P (l ++ m) → All P l
all_left P [] m h = tt
all_left P (x ∷ l) m h = (h.0, all_left P l m h.1)

all_right : (P : ℕ → Type 0) (l m : List ℕ) → All P (l ++ m) → All P m
all_right P [] m h = h
all_right P (x ∷ l) m h = all_right P l m h.1

all_from_map : (P : ℕ → Type 0) (f : ℕ → ℕ) (l : List ℕ) → All P (map f l) → All (λ x. P (f x)) l
all_from_map P f [] h = tt
all_from_map P f (x ∷ l) h = (h.0, all_from_map P f l h.1)

-- what holds of all rows in use holds of the rows of a column's generators
pub rows_column : (P : ℕ → Type 0) (first : ℕ) (cs : List (List ℕ)) → All P (rows_in_use first cs) → (c k : ℕ) → k ≡ first + c
    → All (λ d. P (d + row_shift - k)) (get_or cs c [])
rows_column P first [] h c k e = tt
rows_column P first (ds ∷ cs) h zero k e =
    let z : first ≡ k = omega (arith, e) in
    subst (λ j. All (λ d. P (d + row_shift - j)) ds) z
    (all_from_map P (λ d. d + row_shift - first) ds (all_left P (map (λ d. d + row_shift - first) ds) (rows_in_use (suc first) cs) h))
rows_column P first (ds ∷ cs) h (suc c) k e =
    rows_column P (suc first) cs (all_right P (map (λ d. d + row_shift - first) ds) (rows_in_use (suc first) cs) h) c k (omega (arith, e))

no_members : (l : List ℕ) → All (λ d. ⊥) l → 0 ≡ length l
no_members [] h = refl
no_members (x ∷ l) h = absurd h.0

-- the generators of a column have their rows among those printed
module _ (cs : List (List ℕ)) (c : ℕ) (l : c ≤ row_shift) (r : ℕ) (rs : List ℕ) (e : rows_in_use 0 cs ≡ r ∷ rs) where
  pub column_inside : All (λ d. (smallest r rs + c ≤ d + row_shift) × (d + row_shift < smallest r rs + (suc (largest r rs) - smallest r rs) + c)) (get_or cs c [])
  column_inside =
      let lo = smallest_least r rs in
      let hi = largest_greatest r rs in
      all_map (λ d. (smallest r rs ≤ d + row_shift - c) × (d + row_shift - c ≤ largest r rs))
      (λ d. (smallest r rs + c ≤ d + row_shift) × (d + row_shift < smallest r rs + (suc (largest r rs) - smallest r rs) + c))
      (λ d h. let a = h.0 in let b = h.1 in (omega (arith, a, l), omega (arith, a, b, l))) (get_or cs c [])
      (rows_column (λ x. (smallest r rs ≤ x) × (x ≤ largest r rs)) 0 cs (subst (All (λ x. (smallest r rs ≤ x) × (x ≤ largest r rs))) (sym e) (
        (lo.0, hi.0),
        all_map₂ (λ x. smallest r rs ≤ x) (λ x. x ≤ largest r rs) (λ x. (smallest r rs ≤ x) × (x ≤ largest r rs)) (λ x a b. (a, b)) rs
            lo.1 hi.1,
      )) c c (omega arith))

total_is : (cs : List (List ℕ)) (c : ℕ) → c ≤ row_shift → (rows : List ℕ) → rows_in_use 0 cs ≡ rows
    → sum (map (λ r. betti_count cs r c) (all_rows rows)) ≡ length (get_or cs c [])
total_is cs c l [] e = no_members (get_or cs c []) (rows_column (λ x. ⊥) 0 cs (subst (All (λ (x : ℕ). ⊥)) (sym e) tt) c c (omega arith))
total_is cs c l (r ∷ rs) e =
    total_all c (smallest r rs) (suc (largest r rs) - smallest r rs) (get_or cs c []) (column_inside cs c l r rs e)

pub totals_are : (cs : List (List ℕ)) (c : ℕ) → c ≤ row_shift → sum (map (λ r. betti_count cs r c) (all_rows (rows_in_use 0 cs))) ≡ length (get_or cs c [])
totals_are cs c l = total_is cs c l (rows_in_use 0 cs) refl

-- ## Numbers in a cell

module _ (cs : List (List ℕ)) (h : All Column cs) where
  pub column_few : (c : ℕ) → length (get_or cs c []) ≤ most_vectors
  column_few c = (all_at Column [] (record { few = omega arith; low = tt }) cs c h).few

  pub count_few : (r c : ℕ) → betti_count cs r c ≤ most_vectors
  count_few r c =
      let a = count_most (λ d. eqb (d + row_shift) (r + c)) (get_or cs c []) in let b = column_few c in omega (arith, a, b)

  pub total_few : (c : ℕ) → c ≤ row_shift → sum (map (λ r. betti_count cs r c) (all_rows (rows_in_use 0 cs))) ≤ most_vectors
  total_few c l = let a = totals_are cs c l in let b = column_few c in omega (arith, a, b)
