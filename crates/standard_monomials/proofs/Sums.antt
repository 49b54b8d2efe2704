-- The sums over the columns, by column and degree.
use mathlib.Core.Path.{◌≡◌, refl, sym, ap, ap₂, ◌∙◌}
use mathlib.Core.Bool.{Bool, true, false, not}
use mathlib.Core.List.{List, [], ◌∷◌}
use Prim.Native.Nat.{ℕ, zero, suc, ◌+◌, ◌-◌, ◌*◌, ◌<◌, ◌≤◌}
use native.Mathlib.Omega.{arith}
use native.Mathlib.Decide.{ℕ_discrete}
use native.Mathlib.Nat.{add-mul}
use lib.Dec.{T, leb, eqb, leb→le, nleb→lt, eqb→eq, eqb_refl}
use lib.ListN.{length, get_or}
use Rattle.definitions.specs.Lists.{count, map, from, sum}
use Rattle.definitions.specs.Problem.{Parameters}
use Rattle.definitions.specs.State.{State}
use Rattle.definitions.specs.Betti.{column_degrees}
use Rattle.definitions.specs.Pascal.{monomials}
use Rattle.definitions.specs.Hilbert.{left_over, column_value, both_sums}
use Rattle.definitions.specs.Standard.{of_degree_in}
use Rattle.definitions.specs.Places.{exponents_length, hilbert_degrees, page_columns}
use Rattle.laws.proofs.Tests.{true_is, false_is}
use Rattle.betti.specs.Notions.{generators}
use Rattle.betti.proofs.Counting.{generators_are}
use Rattle.standard_monomials.specs.Notions.{over_column, added, taken_away}
use Rattle.standard_monomials.proofs.Counts.{one, count_more}
use Rattle.standard_monomials.proofs.Triangle.{table_right}

-- ## Every other column

-- c, c + 2, .., so many of them
abbrev every_other : ℕ → ℕ → List ℕ
every_other c zero = []
every_other c (suc k) = c ∷ every_other (suc (suc c)) k

module _ (n d : ℕ) where
  abbrev at_columns : List (List ℕ) → List ℕ → ℕ
  at_columns cs is = sum (map (λ c. column_value n d (get_or cs c [])) is)

  at_none : (is : List ℕ) → at_columns [] is ≡ 0
  at_none [] = refl
  at_none (i ∷ is) = let e = at_none is in omega (arith, e)

  -- behind the first column
  at_next : (ds : List ℕ) (cs : List (List ℕ)) (k c : ℕ) → at_columns (ds ∷ cs) (every_other (suc c) k) ≡ at_columns cs (every_other c k)
  at_next ds cs zero c = refl
  at_next ds cs (suc k) c = ap (λ x. column_value n d (get_or cs c []) + x) (at_next ds cs k (suc (suc c)))

  record By-columns (k : ℕ) (cs : List (List ℕ)) : Type 0 where
    even : length cs ≤ k + k → (both_sums n d cs).0 ≡ at_columns cs (every_other 0 k)
    odd : length cs ≤ suc (k + k) → (both_sums n d cs).1 ≡ at_columns cs (every_other 1 k)

  by_columns : (cs : List (List ℕ)) (k : ℕ) → By-columns k cs
  by_columns [] k = record { even = λ l. sym (at_none (every_other 0 k)); odd = λ l. sym (at_none (every_other 1 k)) }
  by_columns (ds ∷ cs) zero = record {
    even = λ l. absurd (omega (arith, l));
    odd = λ l. (by_columns cs zero).even (omega (arith, l));
  }
  by_columns (ds ∷ cs) (suc k) = record {
    even = λ l. ap (λ x. column_value n d ds + x) ((by_columns cs k).odd (omega (arith, l)) ∙ sym (at_next ds cs k 1));
    odd = λ l. (by_columns cs (suc k)).even (omega (arith, l)) ∙ sym (at_next ds cs (suc k) 0);
  }

-- ## By degrees

sum_plus : (a b : ℕ → ℕ) (l : List ℕ) → sum (map (λ x. a x + b x) l) ≡ sum (map a l) + sum (map b l)
sum_plus a b [] = refl
sum_plus a b (x ∷ l) = let e = sum_plus a b l in omega (arith, e)

sum_same : (a b : ℕ → ℕ) → ((x : ℕ) → a x ≡ b x) → (l : List ℕ) → sum (map a l) ≡ sum (map b l)
sum_same a b h [] = refl
sum_same a b h (x ∷ l) = ap₂ (λ u v. u + v) (h x) (sum_same a b h l)

sum_zeros : (l : List ℕ) → sum (map (λ x. 0) l) ≡ 0
sum_zeros [] = refl
sum_zeros (x ∷ l) = let e = sum_zeros l in omega (arith, e)

module _ (h : ℕ → ℕ) (g : ℕ) where
  abbrev pick : ℕ → ℕ
  pick x = one (eqb g x) * h x

  pick_other : (x : ℕ) → ¬ (g ≡ x) → pick x ≡ 0
  pick_other x n = ap (λ b. one b * h x) (false_is (eqb g x) (λ t. n (eqb→eq g x t))) ∙ omega arith

  pick_here : pick g ≡ h g
  pick_here = ap (λ b. one b * h g) (true_is (eqb g g) (eqb_refl g)) ∙ omega arith

  pick_before : (k i : ℕ) → g < i → sum (map pick (from i k)) ≡ 0
  pick_before zero i l = refl
  pick_before (suc k) i l =
      let a = pick_other i (λ e. omega (arith, e, l)) in let b = pick_before k (suc i) (omega (arith, l)) in omega (arith, a, b)

  pick_past : (k i : ℕ) → i + k ≤ g → sum (map pick (from i k)) ≡ 0
  pick_past zero i l = refl
  pick_past (suc k) i l =
      let a = pick_other i (λ e. omega (arith, e, l)) in let b = pick_past k (suc i) (omega (arith, l)) in omega (arith, a, b)

  pick_in : (k i : ℕ) → i ≤ g → g < i + k → sum (map pick (from i k)) ≡ h g
  pick_in zero i l m = absurd (omega (arith, l, m))
  pick_in (suc k) i l m = go (ℕ_discrete g i) (pick_in k (suc i))
    where
      go : Dec (g ≡ i) → (suc i ≤ g → g < suc i + k → sum (map pick (from (suc i) k)) ≡ h g) → pick i + sum (map pick (from (suc i) k)) ≡ h g
      go (yes e) r =
          let a : pick i ≡ h g = ap pick (sym e) ∙ pick_here in
          let b = pick_before k (suc i) (omega (arith, e)) in
          omega (arith, a, b)
      go (no n) r =
          let a = pick_other i n in
          let b = r (omega (arith, l, n)) (omega (arith, m)) in
          omega (arith, a, b)

module _ (n d : ℕ) (some : 1 ≤ n) (eight : n ≤ exponents_length) (within : d < hilbert_degrees) where
  abbrev ways : ℕ → ℕ
  ways x = length (of_degree_in n (d - x))

  -- one generator
  left_by_degree : (g : ℕ) → left_over n d g ≡ sum (map (λ x. one (eqb g x) * ways x) (from 0 (suc d)))
  left_by_degree g = go (leb g d) (leb→le g d) (nleb→lt g d)
    where
      go : (b : Bool) → (T b → g ≤ d) → (T (not b) → d < g)
          → ◌≡◌ {A = ℕ} (elim b [ true ↦ monomials n (d - g) | false ↦ 0 ]) (sum (map (λ x. one (eqb g x) * ways x) (from 0 (suc d))))
      go true l k =
          let m = l tt in
          table_right.number n (d - g) some eight (omega (arith, within)) ∙ sym (pick_in ways g (suc d) 0 (omega arith) (omega (arith, m)))
      go false l k = let m = k tt in sym (pick_past ways g (suc d) 0 (omega (arith, m)))

  -- a column
  column_by_degree : (gs : List ℕ) → column_value n d gs ≡ sum (map (λ x. count (λ y. eqb y x) gs * ways x) (from 0 (suc d)))
  column_by_degree [] =
      sym (sum_same (λ x. 0 * ways x) (λ x. 0) (λ x. omega arith) (from 0 (suc d)) ∙ sum_zeros (from 0 (suc d)))
  column_by_degree (g ∷ gs) =
      ap₂ (λ u v. u + v) (left_by_degree g) (column_by_degree gs)
      ∙ sym (sum_plus (λ x. one (eqb g x) * ways x) (λ x. count (λ y. eqb y x) gs * ways x) (from 0 (suc d)))
      ∙ sum_same (λ x. one (eqb g x) * ways x + count (λ y. eqb y x) gs * ways x) (λ x. count (λ y. eqb y x) (g ∷ gs) * ways x)
      (λ x. sym (add-mul (one (eqb g x)) (count (λ y. eqb y x) gs) (ways x)) ∙ ap (λ c. c * ways x) (sym (count_more (λ y. eqb y x) g gs)))
      (from 0 (suc d))

module _ (X : State) (some : 1 ≤ X.parameters.n) (eight : X.parameters.n ≤ exponents_length) (each : length X.parameters.degrees ≡ X.parameters.s)
    (d : ℕ) (within : d < hilbert_degrees) where
  abbrev q : Parameters
  q = X.parameters

  abbrev cs : List (List ℕ)
  cs = column_degrees X

  column_is : (c : ℕ) → column_value q.n d (get_or cs c []) ≡ over_column q X.levels d c
  column_is c =
      column_by_degree q.n d some eight within (get_or cs c [])
      ∙ sum_same (λ x. count (λ y. eqb y x) (get_or cs c []) * length (of_degree_in q.n (d - x)))
      (λ x. generators q X.levels c x * length (of_degree_in q.n (d - x)))
      (λ x. ap (λ k. k * length (of_degree_in q.n (d - x))) (generators_are X each c x)) (from 0 (suc d))

  columns_are : (is : List ℕ) → at_columns q.n d cs is ≡ sum (map (over_column q X.levels d) is)
  columns_are is = sum_same (λ c. column_value q.n d (get_or cs c [])) (over_column q X.levels d) column_is is

  -- "column 0 positive"
  pub added_is : length cs ≤ page_columns → (both_sums q.n d cs).0 ≡ added q X.levels d
  added_is l = (by_columns q.n d cs 6).even (omega (arith, l)) ∙ columns_are (0 ∷ 2 ∷ 4 ∷ 6 ∷ 8 ∷ 10 ∷ [])

  pub taken_is : length cs ≤ page_columns → (both_sums q.n d cs).1 ≡ taken_away q X.levels d
  taken_is l = (by_columns q.n d cs 5).odd (omega (arith, l)) ∙ columns_are (1 ∷ 3 ∷ 5 ∷ 7 ∷ 9 ∷ [])
