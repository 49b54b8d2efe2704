-- "Each count must equal the number of listed vectors of that degree."
use mathlib.Core.Path.{◌≡◌, refl, sym, ap, ◌∙◌, subst}
use mathlib.Core.Bool.{Bool, true, false, not}
use mathlib.Core.List.{List, [], ◌∷◌, ◌++◌, reverse, reverse-cons}
use Prim.Native.Nat.{ℕ, zero, suc, ◌+◌, ◌-◌, ◌<◌, ◌≤◌}
use native.Mathlib.Omega.{arith}
use lib.Dec.{T, eqb, leb, ltb, leb→le, nleb→lt, ltb→lt, nltb→le, eqb→eq, eqb_refl}
use lib.ListN.{length, get_or, drop, length-reverse}
use Rattle.definitions.specs.Lists.{choose, count, from}
use Rattle.definitions.specs.Monomial.{Level}
use Rattle.definitions.specs.Stage.{highest}
use Rattle.definitions.specs.Problem.{Parameters}
use Rattle.definitions.specs.State.{State}
use Rattle.definitions.specs.Degrees.{component_degree, degree_of, degrees_of, carried}
use Rattle.definitions.specs.Betti.{column_degrees, betti_count}
use Rattle.definitions.specs.Places.{row_shift}
use Rattle.demands.specs.Demands.{level_of}
use Rattle.degrees.specs.Notions.{levels_below}
use Rattle.laws.proofs.RoundTrip.{length_degrees, length_carried}
use Rattle.betti.specs.Notions.{listed_level, generators, all_generators}

-- ## Lists

count_same : {A : Type 0} (P Q : A → Bool) → ((a : A) → P a ≡ Q a) → (l : List A) → count P l ≡ count Q l
count_same P Q h [] = refl
count_same P Q h (a ∷ l) = λ i. elim (h a i) [ true ↦ suc (count_same P Q h l i) | false ↦ count_same P Q h l i ]

module _ {A : Type 0} where
  getD_left : (l r : List A) (k : ℕ) (d : A) → k < length l → get_or (l ++ r) k d ≡ get_or l k d
  getD_left [] r k d h = absurd (omega arith)
  getD_left (a ∷ l) r zero d h = refl
  getD_left (a ∷ l) r (suc k) d h = getD_left l r k d (omega arith)

  get_d_at : (l : List A) (a d : A) → get_or (l ++ a ∷ []) (length l) d ≡ a
  get_d_at [] a d = refl
  get_d_at (b ∷ l) a d = get_d_at l a d

  get_d_past : (l : List A) (k : ℕ) (d : A) → length l ≤ k → get_or l k d ≡ d
  get_d_past [] k d h = refl
  get_d_past (a ∷ l) zero d h = absurd (omega arith)
  get_d_past (a ∷ l) (suc k) d h = get_d_past l k d (omega arith)

-- ## Level k is column k + 1

module _ (d : List ℕ) where
  abbrev level_degrees : List Level → ℕ → List ℕ
  level_degrees ls k = degrees_of d (levels_below ls k) (level_of ls k)

  long : (ls : List Level) → length (reverse (carried d ls)) ≡ length ls
  long ls = length-reverse (carried d ls) ∙ length_carried d ls

  complete : (ls : List Level) (k : ℕ) → k < length ls → get_or (reverse (carried d ls)) k [] ≡ level_degrees ls k
  complete [] k h = absurd (omega arith)
  complete (f ∷ ls) k h = go (leb (suc k) (length ls)) (leb→le (suc k) (length ls)) (nleb→lt (suc k) (length ls)) (λ l. complete ls k l)
    where
      top : List ℕ
      top = degrees_of d ls f

      turned : get_or (reverse (carried d (f ∷ ls))) k [] ≡ get_or (reverse (carried d ls) ++ top ∷ []) k []
      turned = ap (λ l. get_or l k []) (reverse-cons top (carried d ls))

      lower : k < length ls → get_or (reverse (carried d ls)) k [] ≡ level_degrees ls k → get_or (reverse (carried d (f ∷ ls))) k [] ≡ level_degrees (f ∷ ls) k
      lower l ih =
          let e : suc (length ls) - suc k ≡ suc (length ls - suc k) = omega arith in
          turned ∙ getD_left (reverse (carried d ls)) (top ∷ []) k [] (omega (arith, long ls, l)) ∙ ih
          ∙ ap (λ j. degrees_of d (drop (suc j) (f ∷ ls)) (highest (drop j (f ∷ ls)))) (sym e)

      upper : k ≡ length ls → get_or (reverse (carried d (f ∷ ls))) k [] ≡ level_degrees (f ∷ ls) k
      upper q =
          let e : suc (length ls) - suc k ≡ 0 = omega (arith, q) in
          turned ∙ ap (λ j. get_or (reverse (carried d ls) ++ top ∷ []) j []) (q ∙ sym (long ls)) ∙ get_d_at (reverse (carried d ls)) top []
          ∙ ap (λ j. degrees_of d (drop (suc j) (f ∷ ls)) (highest (drop j (f ∷ ls)))) (sym e)

      go : (b : Bool) → (T b → suc k ≤ length ls) → (T (not b) → length ls < suc k)
          → (k < length ls → get_or (reverse (carried d ls)) k [] ≡ level_degrees ls k)
          → get_or (reverse (carried d (f ∷ ls))) k [] ≡ level_degrees (f ∷ ls) k
      go true s n ih = let l : k < length ls = s tt in lower l (ih l)
      go false s n ih = let l : length ls < suc k = n tt in upper (omega (arith, l, h))

  -- .. where it is there, else nothing
  pub column_is : (ls : List Level) (k : ℕ) → get_or (reverse (carried d ls)) k [] ≡ degrees_of d (levels_below ls k) (listed_level ls k)
  column_is ls k = go (ltb k (length ls)) (ltb→lt k (length ls)) (nltb→le k (length ls))
    where
      go : (b : Bool) → (T b → k < length ls) → (T (not b) → length ls ≤ k)
          → get_or (reverse (carried d ls)) k [] ≡ degrees_of d (levels_below ls k) (choose b (level_of ls k) [])
      go true s n = complete ls k (s tt)
      go false s n = let l = n tt in get_d_past (reverse (carried d ls)) k [] (omega (arith, long ls, l))

  count_degrees : (P : ℕ → Bool) (below : List Level) (f : Level) → count P (degrees_of d below f) ≡ count (λ v. P (degree_of d below v)) f
  count_degrees P below [] = refl
  count_degrees P below (v ∷ f) = ap (λ n. elim (P (degree_of d below v)) [ true ↦ suc n | false ↦ n ]) (count_degrees P below f)

-- ## Components are column 0

count_from : (P : ℕ → Bool) (a n : ℕ) → count P (from (suc a) n) ≡ count (λ i. P (suc i)) (from a n)
count_from P a zero = refl
count_from P a (suc n) = ap (λ k. elim (P (suc a)) [ true ↦ suc k | false ↦ k ]) (count_from P (suc a) n)

count_places : (P : ℕ → Bool) (d : List ℕ) → count P d ≡ count (λ i. P (get_or d i 0)) (from 0 (length d))
count_places P [] = refl
count_places P (x ∷ d) =
    ap (λ k. elim (P x) [ true ↦ suc k | false ↦ k ]) (count_places P d ∙ sym (count_from (λ i. P (get_or (x ∷ d) i 0)) 0 (length d)))

count_components : (P : ℕ → Bool) (d : List ℕ) → count P d ≡ count (λ i. P (component_degree d i)) (from 1 (length d))
count_components P d = count_places P d ∙ sym (count_from (λ i. P (component_degree d i)) 0 (length d))

-- ## The counts

eqb_plus : (x d c e : ℕ) → d + c ≡ e → eqb (x + c) e ≡ eqb x d
eqb_plus x d c e h = go (eqb (x + c) e) (eqb x d) (eqb→eq (x + c) e) (eqb→eq x d) (λ i. subst (λ y. T (eqb (x + c) y)) i (eqb_refl (x + c)))
    (λ i. subst (λ y. T (eqb x y)) i (eqb_refl x))
  where
    go : (a b : Bool) → (T a → x + c ≡ e) → (T b → x ≡ d) → (x + c ≡ e → T a) → (x ≡ d → T b) → a ≡ b
    go true true p q r s = refl
    go false false p q r s = refl
    go true false p q r s = absurd (s (let i : x + c ≡ e = p tt in omega (arith, i, h)))
    go false true p q r s = absurd (r (let i : x ≡ d = q tt in omega (arith, i, h)))

-- where no degree is as low as that
none_low : (e : ℕ) → e < row_shift → (l : List ℕ) → count (λ x. eqb (x + row_shift) e) l ≡ 0
none_low e h [] = refl
none_low e h (x ∷ l) = go (eqb (x + row_shift) e) (eqb→eq (x + row_shift) e) (none_low e h l)
  where
    go : (b : Bool) → (T b → x + row_shift ≡ e) → count (λ x. eqb (x + row_shift) e) l ≡ 0
        → ◌≡◌ {A = ℕ} (elim b [ true ↦ suc (count (λ x. eqb (x + row_shift) e) l) | false ↦ count (λ x. eqb (x + row_shift) e) l ]) 0
    go true p i = absurd (let z = p tt in omega (arith, z, h))
    go false p i = i

module _ (X : State) (s : length X.parameters.degrees ≡ X.parameters.s) where
  abbrev q : Parameters
  q = X.parameters

  abbrev cs : List (List ℕ)
  cs = column_degrees X

  -- how many generators of column c have degree x
  pub generators_are : (c x : ℕ) → count (λ y. eqb y x) (get_or cs c []) ≡ generators q X.levels c x
  generators_are zero x =
      count_components (λ y. eqb y x) q.degrees ∙ ap (λ n. count (λ i. eqb (component_degree q.degrees i) x) (from 1 n)) s
  generators_are (suc k) x =
      ap (count (λ y. eqb y x)) (column_is q.degrees X.levels k)
      ∙ count_degrees q.degrees (λ y. eqb y x) (levels_below X.levels k) (listed_level X.levels k)

  pub counts_are : (r c x : ℕ) → x + row_shift ≡ r + c → betti_count cs r c ≡ generators q X.levels c x
  counts_are r c x e =
      count_same (λ y. eqb (y + row_shift) (r + c)) (λ y. eqb y x) (λ y. eqb_plus y x row_shift (r + c) e) (get_or cs c []) ∙ generators_are c x

  pub counts_below : (r c : ℕ) → r + c < row_shift → betti_count cs r c ≡ 0
  counts_below r c h = none_low (r + c) h (get_or cs c [])

  pub all_are : (c : ℕ) → length (get_or cs c []) ≡ all_generators q X.levels c
  all_are zero = s
  all_are (suc k) =
      ap length (column_is q.degrees X.levels k) ∙ length_degrees q.degrees (levels_below X.levels k) (listed_level X.levels k)
