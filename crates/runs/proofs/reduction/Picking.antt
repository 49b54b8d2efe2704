-- The places that the pick codes say.
use mathlib.Core.Path.{◌≡◌, refl, sym, ap, ◌∙◌, subst}
use mathlib.Core.Bool.{Bool, true, false}
use mathlib.Core.Option.{some, some-injective}
use Prim.Native.Nat.{ℕ, zero, suc, ◌+◌, ◌-◌, ◌<◌, ◌≤◌}
use native.Mathlib.Omega.{arith}
use lib.Dec.{eqb}
use borrow.Author.Tests.{eq-eqb, ne_eqb}
use Rattle.definitions.specs.Lists.{choose}
use Rattle.definitions.specs.Monomial.{Monomial, Vector}
use Rattle.definitions.specs.Order.{Comparison, greater, equal, smaller, greater?}
use Rattle.definitions.specs.Run.{Best, better, greatest_from, greatest, newest, oldest, by_code}
use Rattle.definitions.specs.Layout.{Words, row_at, rows}
use Rattle.laws.proofs.Rows.{rows_first, length_rows}
use Rattle.laws.proofs.Comparisons.{turned}
use Rattle.orders.specs.Images.{Key, Table, key, compare_keys, table_order}
use Rattle.orders.proofs.Answers.{keys_swap}
use Rattle.vectors.specs.sums.Places.{renewed_from}
use Rattle.vectors.proofs.sums.Walking.{renewed_at_row, renewed_at_end}
use Rattle.runs.proofs.reduction.Adding.{rows_none}

better_is : (c : Comparison) (i : ℕ) (m : Monomial) (best : Best) → better c i m best ≡ choose (greater? c) (i, m) best
better_is greater i m best = refl
better_is equal i m best = refl
better_is smaller i m best = refl

module _ (code : ℕ) (T : Table) (s : Words) where
  -- the term at place x is the greatest of the first i
  abbrev pub GreatestOfFirst : ℕ → ℕ → Type 0
  GreatestOfFirst i x = greatest (table_order code T) (rows s 0 i) ≡ some x

  pub first_alone : GreatestOfFirst 1 0
  first_alone = ap (greatest (table_order code T)) (rows_first s 0 0) ∙ ap (λ v. some (greatest_from (table_order code T) 1 (0, (row_at s 0).1) v))
      (rows_none s 1)

  -- the better of the term at place j and the best so far
  abbrev pub next : ℕ → ℕ → ℕ
  next j x = choose (greater? (table_order code T (row_at s j).1 (row_at s x).1)) j x

  chosen : (b : Bool) (j x : ℕ) → ◌≡◌ {A = Best} (choose b (j, (row_at s j).1) (x, (row_at s x).1)) (choose b j x, (row_at s (choose b j x)).1)
  chosen true j x = refl
  chosen false j x = refl

  stepped : (j x m : ℕ) → greatest_from (table_order code T) j (x, (row_at s x).1) (rows s j (suc m))
      ≡ greatest_from (table_order code T) (suc j) (next j x, (row_at s (next j x)).1) (rows s (suc j) m)
  stepped j x m =
      let c = table_order code T (row_at s j).1 (row_at s x).1 in
      ap (greatest_from (table_order code T) j (x, (row_at s x).1)) (rows_first s j m)
      ∙ ap (λ u. greatest_from (table_order code T) (suc j) u (rows s (suc j) m))
      (better_is c j (row_at s j).1 (x, (row_at s x).1) ∙ chosen (greater? c) j x)

  -- one term more
  passed : (m j x y : ℕ) → greatest_from (table_order code T) j (x, (row_at s x).1) (rows s j m) ≡ y
      → greatest_from (table_order code T) j (x, (row_at s x).1) (rows s j (suc m)) ≡ next (j + m) y
  passed zero j x y e =
      let z : j ≡ j + 0 = omega arith in
      let q : x ≡ y = sym (ap (greatest_from (table_order code T) j (x, (row_at s x).1)) (rows_none s j)) ∙ e in
      stepped j x 0 ∙ ap (greatest_from (table_order code T) (suc j) (next j x, (row_at s (next j x)).1)) (rows_none s (suc j)) ∙ (λ i. next (z i) (q i))
  passed (suc m) j x y e =
      let z : suc j + m ≡ j + suc m = omega arith in
      stepped j x (suc m) ∙ passed m (suc j) (next j x) y (sym (stepped j x m) ∙ e) ∙ ap (λ k. next k y) z

  pub one_more : (i x : ℕ) → 1 ≤ i → GreatestOfFirst i x → GreatestOfFirst (i + 1) (next i x)
  one_more i x h g =
      let z : i ≡ suc (i - 1) = omega arith in
      let y : i + 1 ≡ suc (suc (i - 1)) = omega arith in
      let w : 1 + (i - 1) ≡ i = omega arith in
      let e : greatest_from (table_order code T) 1 (0, (row_at s 0).1) (rows s 1 (i - 1)) ≡ x =
      some-injective _ _ (sym (ap (λ m. greatest (table_order code T) (rows s 0 m)) z
      ∙ ap (greatest (table_order code T)) (rows_first s 0 (i - 1))) ∙ g) in
      ap (λ m. greatest (table_order code T) (rows s 0 m)) y ∙ ap (greatest (table_order code T)) (rows_first s 0 (suc (i - 1)))
      ∙ ap some (passed (i - 1) 1 0 x e ∙ ap (λ k. next k x) w)

  -- a walk from the best so far, at place x: behind the last term it is the greatest of all; else the term at which the walk stops is the greatest so
  -- far, and the image is its own
  abbrev Walked : ℕ → ℕ → ℕ → ℕ → Key → Type 0
  Walked n i x j k = (i ≤ j) × (n ≤ j → GreatestOfFirst n x) × (j < n → GreatestOfFirst (j + 1) j × (k ≡ key T (row_at s j).1))

  pub walked : (n x m i j : ℕ) (k : Key) → n - i ≡ m → 1 ≤ i → i ≤ n → GreatestOfFirst i x
      → ◌≡◌ {A = ℕ × Key} (j, k) (renewed_from (compare_keys code) (key T) (key T (row_at s x).1) (rows s i (n - i)) i) → Walked n i x j k
  walked n x zero i j k z h l g e =
      let q : j ≡ i = ap (λ (w : ℕ × Key). w.0) (e ∙ renewed_at_end (compare_keys code) (key T) (key T (row_at s x).1) s n i (omega arith)) in
      let p : i ≡ n = omega arith in
      (omega arith, λ t. subst (λ o. GreatestOfFirst o x) p g, λ t. absurd (omega arith))
  walked n x (suc m) i j k z h l g e = go (walked n x m (i + 1) j k (omega arith) (omega arith) (omega arith))
      (table_order code T (row_at s x).1 (row_at s i).1) refl
    where
      at : (c : Comparison) → table_order code T (row_at s x).1 (row_at s i).1 ≡ c → GreatestOfFirst (i + 1) (choose (greater? (turned c)) i x)
      at c q = subst (λ d. GreatestOfFirst (i + 1) (choose (greater? d) i x))
          (keys_swap code (key T (row_at s x).1) (key T (row_at s i).1) ∙ ap turned q) (one_more i x h g)

      further : Walked n (i + 1) x j k → Walked n i x j k
      further w = (omega (arith, w.0), w.1, w.2)

      go : (GreatestOfFirst (i + 1) x → ◌≡◌ {A = ℕ × Key} (j, k) (renewed_from (compare_keys code) (key T) (key T (row_at s x).1)
          (rows s (i + 1) (n - (i + 1))) (i + 1)) → Walked n (i + 1) x j k) → (c : Comparison) → table_order code T (row_at s x).1 (row_at s i).1 ≡ c
          → Walked n i x j k
      go on greater q = further (on (at greater q) (e ∙ renewed_at_row (compare_keys code) (key T) (key T (row_at s x).1) s n i greater (omega arith)
          (sym q)))
      go on equal q = further (on (at equal q) (e ∙ renewed_at_row (compare_keys code) (key T) (key T (row_at s x).1) s n i equal (omega arith)
          (sym q)))
      go on smaller q =
          let d : ◌≡◌ {A = ℕ × Key} (j, k) (i, key T (row_at s i).1) = e
          ∙ renewed_at_row (compare_keys code) (key T) (key T (row_at s x).1) s n i smaller (omega arith) (sym q) in
          let p : i ≡ j = sym (ap (λ (w : ℕ × Key). w.0) d) in (
            omega arith,
            λ t. absurd (omega arith),
            λ t. (
              subst (λ o. GreatestOfFirst (o + 1) o) p (at smaller q),
              ap (λ (w : ℕ × Key). w.1) d
                  ∙ ap (λ o. key T (row_at s o).1) p,
            ),
          )

-- ## By code

module _ (order : Monomial → Monomial → Comparison) where
  pub picks_greatest : (pick : ℕ) (v : Vector) → pick ≡ 1 → by_code order pick v ≡ greatest order v
  picks_greatest pick v e = ap (λ b. elim b [ true ↦ greatest order v | false ↦ elim (eqb pick 2) [ true ↦ newest v | false ↦ oldest v ] ])
      (eq-eqb pick 1 e)

  not_one : (pick : ℕ) (v : Vector) → (pick ≡ 1 → ⊥) → by_code order pick v ≡ elim (eqb pick 2) [ true ↦ newest v | false ↦ oldest v ]
  not_one pick v e = ap (λ b. elim b [ true ↦ greatest order v | false ↦ elim (eqb pick 2) [ true ↦ newest v | false ↦ oldest v ] ]) (ne_eqb pick 1 e)

  pub picks_newest : (pick : ℕ) (s : Words) (n : ℕ) → 0 < n → pick ≡ 2 → some (n - 1) ≡ by_code order pick (rows s 0 n)
  picks_newest pick s n h e =
      let z : n ≡ suc (n - 1) = omega arith in
      sym (not_one pick (rows s 0 n) (λ q. omega arith) ∙ ap (λ b. elim b [ true ↦ newest (rows s 0 n) | false ↦ oldest (rows s 0 n) ])
      (eq-eqb pick 2 e)
      ∙ ap (λ m. newest (rows s 0 m)) z ∙ ap newest (rows_first s 0 (n - 1)) ∙ ap some (length_rows s 1 (n - 1)))

  pub picks_oldest : (pick : ℕ) (s : Words) (n : ℕ) → 0 < n → (pick ≡ 1 → ⊥) → (pick ≡ 2 → ⊥) → some 0 ≡ by_code order pick (rows s 0 n)
  picks_oldest pick s n h e f =
      let z : n ≡ suc (n - 1) = omega arith in
      sym (not_one pick (rows s 0 n) e ∙ ap (λ b. elim b [ true ↦ newest (rows s 0 n) | false ↦ oldest (rows s 0 n) ]) (ne_eqb pick 2 f)
      ∙ ap (λ m. oldest (rows s 0 m)) z ∙ ap oldest (rows_first s 0 (n - 1)))
