-- The columns of a state by level: level k of levels held highest first, and what is below it.
use mathlib.Core.Path.{◌≡◌, refl, sym, ap, ◌∙◌, subst}
use mathlib.Core.Bool.{Bool, true, false, not}
use mathlib.Core.List.{List, [], ◌∷◌, ◌++◌, reverse, reverse-cons}
use Prim.Native.Nat.{ℕ, zero, suc, ◌+◌, ◌-◌, ◌<◌, ◌≤◌}
use native.Mathlib.Omega.{arith}
use lib.Dec.{T, eqb, leb, ltb, leb→le, nleb→lt, ltb→lt, nltb→le}
use lib.ListN.{length, get_or, drop, length-reverse, get_or-append, get_or-eq_default}
use Rattle.definitions.specs.Lists.{those, choose, from}
use Rattle.definitions.specs.Monomial.{Level, vector_of}
use Rattle.definitions.specs.Stage.{highest}
use Rattle.definitions.specs.Problem.{Parameters}
use Rattle.definitions.specs.State.{State}
use Rattle.definitions.specs.Degrees.{component_degree, degree_of, degrees_of}
use Rattle.definitions.specs.Betti.{column_degrees}
use Rattle.definitions.specs.Minimal.{vectors_at}
use Rattle.laws.proofs.Degrees.{getD_degrees}
use Rattle.laws.proofs.RoundTrip.{length_degrees}
use Rattle.demands.specs.Demands.{level_of}
use Rattle.degrees.specs.Notions.{levels_below}
use Rattle.betti.specs.Notions.{listed_level, generators}
use Rattle.betti.proofs.Counting.{column_is, generators_are}
use Rattle.minimal_numbers.specs.Notions.{numbers_of}
use Rattle.minimal_numbers.proofs.OfDegree.{numbers_from, length_numbers, those_are}

-- ## Each level

-- P holds of each level over those below it
abbrev pub Each : (Level → List Level → Type 0) → List Level → Type 0
Each P [] = Unit {0}
Each P (f ∷ below) = P f below × Each P below

module _ (P : Level → List Level → Type 0) where
  each_drop : (i : ℕ) (levels : List Level) → i < length levels → Each P levels → P (highest (drop i levels)) (drop (suc i) levels)
  each_drop i [] h e = absurd (omega arith)
  each_drop zero (f ∷ below) h e = e.0
  each_drop (suc i) (f ∷ below) h e = each_drop i below (omega arith) e.1

  pub each_at : (levels : List Level) (k : ℕ) → k < length levels → Each P levels → P (level_of levels k) (levels_below levels k)
  each_at levels k h e = each_drop (length levels - suc k) levels (omega arith) e

  -- .. and of none, where there is no such level
  pub each_listed : (levels : List Level) (k : ℕ) → Each P levels → P [] (levels_below levels k) → P (listed_level levels k) (levels_below levels k)
  each_listed levels k e n = go (ltb k (length levels)) (ltb→lt k (length levels))
    where
      go : (b : Bool) → (T b → k < length levels) → P (choose b (level_of levels k) []) (levels_below levels k)
      go true h = each_at levels k (h tt) e
      go false h = n

drop_next : (i : ℕ) (levels : List Level) → i < length levels → drop i levels ≡ highest (drop i levels) ∷ drop (suc i) levels
drop_next i [] h = absurd (omega arith)
drop_next zero (f ∷ below) h = refl
drop_next (suc i) (f ∷ below) h = drop_next i below (omega arith)

-- below level k + 1 stands level k first
pub below_next : (levels : List Level) (k : ℕ) → suc k < length levels → levels_below levels (suc k) ≡ level_of levels k ∷ levels_below levels k
below_next levels k h =
    let e : suc (length levels - suc (suc k)) ≡ length levels - suc k = omega arith in
    ap (λ i. drop i levels) e ∙ drop_next (length levels - suc k) levels (omega arith)

pub listed_there : (levels : List Level) (k : ℕ) → k < length levels → listed_level levels k ≡ level_of levels k
listed_there levels k h = go (ltb k (length levels)) (nltb→le k (length levels))
  where
    go : (b : Bool) → (T (not b) → length levels ≤ k) → choose b (level_of levels k) [] ≡ level_of levels k
    go true n = refl
    go false n = absurd (let l = n tt in omega (arith, l, h))

pub listed_past : (levels : List Level) (k : ℕ) → length levels ≤ k → listed_level levels k ≡ []
listed_past levels k h = go (ltb k (length levels)) (ltb→lt k (length levels))
  where
    go : (b : Bool) → (T b → k < length levels) → choose b (level_of levels k) [] ≡ []
    go true n = absurd (let l = n tt in omega (arith, l, h))
    go false n = refl

-- ## Levels by number

getD_last : (l : List Level) (a : Level) → get_or (l ++ a ∷ []) (length l) [] ≡ a
getD_last [] a = refl
getD_last (b ∷ l) a = getD_last l a

turned : (levels : List Level) (k : ℕ) → k < length levels → get_or (reverse levels) k [] ≡ level_of levels k
turned [] k h = absurd (omega arith)
turned (f ∷ ls) k h = go (leb (suc k) (length ls)) (leb→le (suc k) (length ls)) (nleb→lt (suc k) (length ls)) (turned ls k)
  where
    split : get_or (reverse (f ∷ ls)) k [] ≡ get_or (reverse ls ++ f ∷ []) k []
    split = ap (λ l. get_or l k []) (reverse-cons f ls)

    go : (b : Bool) → (T b → suc k ≤ length ls) → (T (not b) → length ls < suc k) → (k < length ls → get_or (reverse ls) k [] ≡ level_of ls k)
        → get_or (reverse (f ∷ ls)) k [] ≡ level_of (f ∷ ls) k
    go true s n ih =
        let l : k < length ls = s tt in
        let e : suc (length ls) - suc k ≡ suc (length ls - suc k) = omega (arith, l) in
        split ∙ get_or-append (reverse ls) (f ∷ []) [] k (let z = length-reverse ls in omega (arith, z, l)) ∙ ih l
        ∙ ap (λ j. highest (drop j (f ∷ ls))) (sym e)
    go false s n ih =
        let l : length ls < suc k = n tt in
        let q : k ≡ length ls = omega (arith, l, h) in
        let e : suc (length ls) - suc k ≡ 0 = omega (arith, q) in
        split ∙ ap (λ j. get_or (reverse ls ++ f ∷ []) j []) (q ∙ sym (length-reverse ls)) ∙ getD_last (reverse ls) f
        ∙ ap (λ j. highest (drop j (f ∷ ls))) (sym e)

pub vectors_listed : (X : State) (k : ℕ) → vectors_at X k ≡ listed_level X.levels k
vectors_listed X k = go (ltb k (length X.levels)) (ltb→lt k (length X.levels)) (nltb→le k (length X.levels))
  where
    go : (b : Bool) → (T b → k < length X.levels) → (T (not b) → length X.levels ≤ k) → vectors_at X k ≡ choose b (level_of X.levels k) []
    go true s n = turned X.levels k (s tt)
    go false s n =
        let h : length (reverse X.levels) ≤ k = let l = n tt in let z = length-reverse X.levels in omega (arith, l, z) in
        get_or-eq_default (reverse X.levels) [] h

-- ## Degrees by number

-- a vector has a degree, in every state
pub column_lengths : (X : State) (c : ℕ) → length (get_or (column_degrees X) (suc c) []) ≡ length (vectors_at X c)
column_lengths X c =
    let d = X.parameters.degrees in
    ap length (column_is d X.levels c) ∙ length_degrees d (levels_below X.levels c) (listed_level X.levels c)
    ∙ ap length (sym (vectors_listed X c))

-- the generators of degree x of a level
pub level_numbers : (d : List ℕ) (below : List Level) (f : Level) (x : ℕ)
    → those (λ i. eqb (degree_of d below (vector_of f i)) x) (from 1 (length f)) ≡ numbers_from 1 x (degrees_of d below f)
level_numbers d below f x =
    ap (λ n. those (λ i. eqb (degree_of d below (vector_of f i)) x) (from 1 n)) (sym (length_degrees d below f))
    ∙ those_are (λ i. degree_of d below (vector_of f i)) x 1 (degrees_of d below f) (λ k l.
    let z : 1 + k ≡ suc k = omega arith in
    ap (λ i. degree_of d below (vector_of f i)) z
    ∙ sym (getD_degrees d below f k (subst (λ n. k < n) (length_degrees d below f) l)))

module _ (X : State) (s : length X.parameters.degrees ≡ X.parameters.s) where
  abbrev q : Parameters
  q = X.parameters

  -- .. of a column
  pub column_numbers : (c x : ℕ) → numbers_of q X.levels c x ≡ numbers_from 1 x (get_or (column_degrees X) c [])
  column_numbers zero x =
      ap (λ n. those (λ i. eqb (component_degree q.degrees i) x) (from 1 n)) (sym s)
      ∙ those_are (component_degree q.degrees) x 1 q.degrees (λ k l. let z : 1 + k ≡ suc k = omega arith in ap (component_degree q.degrees) z)
  column_numbers (suc k) x =
      level_numbers q.degrees (levels_below X.levels k) (listed_level X.levels k) x
      ∙ ap (numbers_from 1 x) (sym (column_is q.degrees X.levels k))

  -- they are as many as A1's page counts
  pub numbers_counted : (c x : ℕ) → length (numbers_of q X.levels c x) ≡ generators q X.levels c x
  numbers_counted c x =
      ap length (column_numbers c x) ∙ length_numbers 1 x (get_or (column_degrees X) c []) ∙ generators_are X s c x
