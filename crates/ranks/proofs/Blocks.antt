-- Elimination of rows that are zero in the columns of other degrees: in each degree it is the elimination of that degree's rows and columns.
use mathlib.Core.Path.{◌≡◌, refl, sym, ap, ap₂, ◌∙◌, subst}
use mathlib.Core.Bool.{Bool, true, false, not}
use mathlib.Core.Option.{Option, none, some}
use mathlib.Core.List.{List, [], ◌∷◌}
use Prim.Native.Nat.{ℕ, zero, suc, ◌+◌, ◌%◌, ◌<◌}
use native.Mathlib.Omega.{arith}
use native.Mathlib.Decide.{ℕ_discrete}
use lib.Dec.{T, eqb, eqb→eq, eqb_refl}
use lib.ListN.{length, get_or}
use Rattle.definitions.specs.Lists.{map, choose}
use Rattle.definitions.specs.Field.{times, minus, inverse}
use Rattle.definitions.specs.Places.{row_shift}
use Rattle.definitions.specs.Rank.{Row, Matrix}
use Rattle.definitions.specs.Minimal.{of_degree}
use Rattle.laws.proofs.Tests.{true_is}
use Rattle.ranks.specs.Elimination.{pivot, add_multiple, cleared, rows_left, mark, marks_of, marks}
use Rattle.ranks.proofs.Choices.{length_map}
use Rattle.ranks.proofs.Apart.{of_degree_map, Apart, Aparts, apart_length, apart_zero, apart_multiple, part, SameColumn, cleared_part}
use Rattle.ranks.proofs.Pivots.{nonequal, Columns, Pivots, pivot_part}

module _ (p : ℕ) where
  cleared_zero : (c : ℕ) (v w : Row) → get_or w c 0 % p ≡ 0 → cleared p c v w ≡ w
  cleared_zero c v w h = ap (λ b. choose b w (add_multiple p (minus p (times p (get_or w c 0) (inverse p (get_or v c 0)))) v w))
      (true_is (eqb (get_or w c 0 % p) 0) (subst (λ z. T (eqb z 0)) (sym h) (eqb_refl 0)))

  -- ## A column of degree d cleared by a row of degree d

  module _ (es : List ℕ) (d c : ℕ) (inside : c < length es) (degree : get_or es c 0 ≡ d) (v : Row) where
    -- rows of other degrees stay as they are
    cleared_other : (d' : ℕ) (w : Row) → Apart p es d' w → ¬ (d ≡ d') → cleared p c v w ≡ w
    cleared_other d' w a n = cleared_zero c v w (apart_zero p es d' w a c inside (λ e. n (sym degree ∙ e)))

    module _ (av : Apart p es d v) where
      apart_cleared : (d' : ℕ) (w : Row) → Apart p es d' w → Apart p es d' (cleared p c v w)
      apart_cleared d' w a = go (ℕ_discrete d d')
        where
          s : ℕ
          s = minus p (times p (get_or w c 0) (inverse p (get_or v c 0)))

          either : (b : Bool) → Apart p es d v → Apart p es d w → Apart p es d (choose b w (add_multiple p s v w))
          either true x y = y
          either false x y = apart_multiple p s es d v w x y

          go : Dec (d ≡ d') → Apart p es d' (cleared p c v w)
          go (yes e) = subst (λ z. Apart p es z (cleared p c v w)) e (either (eqb (get_or w c 0 % p) 0) av (subst (λ z. Apart p es z w) (sym e) a))
          go (no n) = subst (Apart p es d') (sym (cleared_other d' w a n)) a

      aparts_cleared : (ds : List ℕ) (M : Matrix) → Aparts p es ds M → Aparts p es ds (map (cleared p c v) M)
      aparts_cleared [] [] a = tt
      aparts_cleared [] (w ∷ M) a = absurd a
      aparts_cleared (d' ∷ ds) [] a = absurd a
      aparts_cleared (d' ∷ ds) (w ∷ M) a = (apart_cleared d' w a.0, aparts_cleared ds M a.1)

    others_cleared : (t : ℕ) → ¬ (d + row_shift ≡ t) → (ds : List ℕ) (M : Matrix) → Aparts p es ds M → of_degree t ds (map (cleared p c v) M) ≡ of_degree t ds M
    others_cleared t n [] M a = refl
    others_cleared t n (d' ∷ ds) [] a = refl
    others_cleared t n (d' ∷ ds) (w ∷ M) a = go (eqb (d' + row_shift) t) (eqb→eq (d' + row_shift) t) (others_cleared t n ds M a.1)
      where
        go : (b : Bool) → (T b → d' + row_shift ≡ t) → of_degree t ds (map (cleared p c v) M) ≡ of_degree t ds M
            → ◌≡◌ {A = Matrix} (elim b [ true ↦ cleared p c v w ∷ of_degree t ds (map (cleared p c v) M) | false ↦ of_degree t ds (map (cleared p c v) M) ])
            (elim b [ true ↦ w ∷ of_degree t ds M | false ↦ of_degree t ds M ])
        go true e r = ap₂ {C = Matrix} (λ x l. x ∷ l) (cleared_other d' w a.0 (λ q. n (ap (λ z. z + row_shift) q ∙ e tt))) r
        go false e r = r

  parts_cleared : (t : ℕ) (es : List ℕ) (c c' : ℕ) → SameColumn t es c c' → (v : Row) → length v ≡ length es → (ds : List ℕ) (M : Matrix) → Aparts p es ds M
      → map (part t es) (map (cleared p c v) M) ≡ map (cleared p c' (part t es v)) (map (part t es) M)
  parts_cleared t es c c' same v h [] [] a = refl
  parts_cleared t es c c' same v h [] (w ∷ M) a = absurd a
  parts_cleared t es c c' same v h (d ∷ ds) [] a = absurd a
  parts_cleared t es c c' same v h (d ∷ ds) (w ∷ M) a = ap₂ {C = Matrix} (λ x l. x ∷ l)
      (cleared_part p t es c c' same v w h (apart_length p es d w a.0)) (parts_cleared t es c c' same v h ds M a.1)

  -- ## A step

  module _ (t : ℕ) (es : List ℕ) (d : ℕ) (v : Row) (av : Apart p es d v) (ds : List ℕ) (M : Matrix) (aM : Aparts p es ds M) where
    -- the first columns being those with number 0
    columns_inside : (z c c' : ℕ) → Columns z es d 0 0 c c' → c < length es
    columns_inside z c c' q = let a = q.here in let b = q.inside in omega arith

    columns_degree : (z c c' : ℕ) → Columns z es d 0 0 c c' → get_or es c 0 ≡ d
    columns_degree z c c' q = let e : q.k ≡ c = omega (arith, q.here) in subst (λ i. get_or es i 0 ≡ d) e q.degree

    columns_same : (c c' : ℕ) → Columns t es d 0 0 c c' → SameColumn t es c c'
    columns_same c c' q =
        let e : q.k ≡ c = omega (arith, q.here) in
        let e' : q.k' ≡ c' = omega (arith, q.there) in
        subst (λ i. SameColumn t es i c') e (subst (λ i. SameColumn t es q.k i) e' q.same)

    left_aparts : (z : ℕ) (o o' : Option ℕ) → Pivots z es d 0 0 o o' → Aparts p es ds (rows_left p v M o)
    left_aparts z none o' q = aM
    left_aparts z (some c) none q = absurd q
    left_aparts z (some c) (some c') q = aparts_cleared es d c (columns_inside z c c' q) (columns_degree z c c' q) v av ds M aM

    left_other : (z : ℕ) (o o' : Option ℕ) → Pivots z es d 0 0 o o' → ¬ (d + row_shift ≡ t) → of_degree t ds (rows_left p v M o) ≡ of_degree t ds M
    left_other z none o' q n = refl
    left_other z (some c) none q n = absurd q
    left_other z (some c) (some c') q n = others_cleared es d c (columns_inside z c c' q) (columns_degree z c c' q) v t n ds M aM

    -- the rows of the degree, and of them its columns
    abbrev block : Matrix → Matrix
    block N = map (part t es) (of_degree t ds N)

    block_cleared : (c c' : ℕ) → SameColumn t es c c' → block (map (cleared p c v) M) ≡ map (cleared p c' (part t es v)) (block M)
    block_cleared c c' same =
        sym (of_degree_map (part t es) t ds (map (cleared p c v) M))
        ∙ ap (of_degree t ds) (parts_cleared t es c c' same v (apart_length p es d v av) ds M aM)
        ∙ of_degree_map (cleared p c' (part t es v)) t ds (map (part t es) M)
        ∙ ap (map (cleared p c' (part t es v))) (of_degree_map (part t es) t ds M)

    block_left : (o o' : Option ℕ) → Pivots t es d 0 0 o o'
        → mark o ∷ marks p (block (rows_left p v M o)) ≡ mark o' ∷ marks_of p (length (block M)) (rows_left p (part t es v) (block M) o')
    block_left none none q = refl
    block_left none (some c') q = absurd q
    block_left (some c) none q = absurd q
    block_left (some c) (some c') q = ap {B = List ℕ} (λ l. 1 ∷ l) (ap (marks p) (block_cleared c c' (columns_same c c' q))
        ∙ ap (λ n. marks_of p n (map (cleared p c' (part t es v)) (block M))) (length_map (cleared p c' (part t es v)) (block M)))

  length_left : (v : Row) (M : Matrix) (o : Option ℕ) → length (rows_left p v M o) ≡ length M
  length_left v M none = refl
  length_left v M (some c) = length_map (cleared p c v) M

  -- ## All steps

  marks_block : (t : ℕ) (es : List ℕ) (n : ℕ) (ds : List ℕ) (M : Matrix) → length M ≡ n → Aparts p es ds M
      → of_degree t ds (marks_of p n M) ≡ marks p (map (part t es) (of_degree t ds M))
  marks_block t es n [] M e a = refl
  marks_block t es n (d ∷ ds) [] e a = absurd a
  marks_block t es zero (d ∷ ds) (v ∷ M) e a = absurd (omega arith)
  marks_block t es (suc n) (d ∷ ds) (v ∷ M) e a = go (eqb (d + row_shift) t) (eqb→eq (d + row_shift) t) (nonequal (d + row_shift) t)
      (marks_block t es n ds (rows_left p v M (pivot p v)) (length_left v M (pivot p v) ∙ (let h : length M ≡ n = omega arith in h))
      (left_aparts t es d v a.0 ds M a.1 (d + row_shift) (pivot p v) (pivot p (part (d + row_shift) es v)) (pivot_part p d es v a.0 0 0)))
    where
      go : (b : Bool) → (T b → d + row_shift ≡ t) → (T (not b) → ¬ (d + row_shift ≡ t))
          → of_degree t ds (marks_of p n (rows_left p v M (pivot p v))) ≡ marks p (map (part t es) (of_degree t ds (rows_left p v M (pivot p v))))
          → ◌≡◌ {A = List ℕ} (elim b [
            | true ↦ mark (pivot p v) ∷ of_degree t ds (marks_of p n (rows_left p v M (pivot p v)))
            | false ↦ of_degree t ds (marks_of p n (rows_left p v M (pivot p v)))
          ])
          (marks p (map (part t es) (elim b [ true ↦ v ∷ of_degree t ds M | false ↦ of_degree t ds M ])))
      go true q n r = ap {B = List ℕ} (λ l. mark (pivot p v) ∷ l) r ∙ block_left t es d v a.0 ds M a.1 (pivot p v) (pivot p (part t es v))
          (subst (λ z. Pivots z es d 0 0 (pivot p v) (pivot p (part z es v))) (q tt) (pivot_part p d es v a.0 0 0))
      go false q n r = r ∙ ap (λ (N : Matrix). marks p (map (part t es) N)) (left_other t es d v a.0 ds M a.1 (d + row_shift) (pivot p v)
          (pivot p (part (d + row_shift) es v)) (pivot_part p d es v a.0 0 0) (n tt))

  pub marks_degree : (t : ℕ) (es ds : List ℕ) (M : Matrix) → Aparts p es ds M
      → of_degree t ds (marks p M) ≡ marks p (map (of_degree t es) (of_degree t ds M))
  marks_degree t es ds M a = marks_block t es (length M) ds M refl a
