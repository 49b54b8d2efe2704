-- Modulo a prime elimination finds the rank: so many independent rows can be chosen, and as many rows span all.
use mathlib.Core.Path.{◌≡◌, refl, sym, ap, ◌∙◌, subst}
use mathlib.Core.Bool.{Bool, true, false, not}
use mathlib.Core.Option.{Option, none, some}
use mathlib.Core.List.{List, [], ◌∷◌}
use Prim.Native.Nat.{ℕ, zero, suc, ◌+◌, ◌%◌, ◌≤◌}
use native.Mathlib.Omega.{arith}
use native.Mathlib.Nat.{le_antisymm}
use lib.Dec.{T, eqb, eqb→eq}
use lib.ListN.{length, get_or}
use Rattle.definitions.specs.Lists.{map, choose, sum}
use Rattle.definitions.specs.Field.{plus, times, minus, inverse}
use Rattle.definitions.specs.Rank.{Row, Matrix, combined}
use Rattle.laws.proofs.Modular.{Prime}
use Rattle.theory.specs.Laws.{Scalars}
use Rattle.theory.specs.Modular.{ModP, one_times, nonzero_by}
use Rattle.theory.proofs.Vec.{zero_mul}
use Rattle.theory.proofs.Lists.{Every}
use Rattle.ranks.specs.Notions.{AllZero, Independent, chosen, IsRank, ProductZero}
use Rattle.ranks.specs.Elimination.{pivot_from, pivot, add_multiple, cleared, rows_left, mark, marks_of, marks}
use Rattle.ranks.proofs.Choices.{length_map, chosen_map, chosen_fewer, every_chosen}
use Rattle.ranks.proofs.Linear.{Z, mul_plus_zero, comb, col, Indep, plus_times, Clearing, indep_clear}
use Rattle.ranks.proofs.Linear.{share, less_share, less_share_parts, less_share_gone}
use Rattle.ranks.proofs.Spans.{In-span, span_first, span_zero, spans_clear, bounded}
use Rattle.ranks.proofs.Annihilation.{Kills, room}

-- ## One rank

pub rank_unique : (p : ℕ) (M : Matrix) (r s : ℕ) → IsRank p M r → IsRank p M s → r ≡ s
rank_unique p M r s R Q = le_antisymm
    (subst (λ z. z ≤ s) R.size (Q.largest R.choice R.independent))
    (subst (λ z. z ≤ r) Q.size (R.largest Q.choice Q.independent))

-- it is at most the number of rows
pub rank_rows : (p : ℕ) (M : Matrix) (r : ℕ) → IsRank p M r → r ≤ length M
rank_rows p M r R = subst (λ z. z ≤ length M) R.size (chosen_fewer R.choice M)

module _ (p : ℕ) (P : Prime p) where
  abbrev pub S : Scalars
  S = ModP p P

  -- ## The plain notions in the theory

  pub zero_mod : (c : ℕ) → c % p ≡ 0 → Z S c
  zero_mod c e = ap (λ z. z % p) (one_times c) ∙ e

  pub mod_zero : (c : ℕ) → Z S c → c % p ≡ 0
  mod_zero c e = sym (ap (λ z. z % p) (one_times c)) ∙ e

  combined_is : (j : ℕ) (cs : List ℕ) (M : Matrix) → combined p j cs M ≡ comb S (col S j) cs M
  combined_is j cs [] = refl
  combined_is j [] (row ∷ M) = refl
  combined_is j (c ∷ cs) (row ∷ M) = ap (plus p (times p c (get_or row j 0))) (combined_is j cs M)

  all_every : (cs : List ℕ) → AllZero p cs → Every (Z S) cs
  all_every [] z = tt
  all_every (c ∷ cs) z = (zero_mod c z.0, all_every cs z.1)

  every_all : (cs : List ℕ) → Every (Z S) cs → AllZero p cs
  every_all [] z = tt
  every_all (c ∷ cs) z = (mod_zero c z.0, every_all cs z.1)

  indep_independent : (M : Matrix) → Indep S M → Independent p M
  indep_independent M I cs e h = every_all cs (I cs e (λ j. sym (combined_is j cs M) ∙ h j))

  independent_indep : (M : Matrix) → Independent p M → Indep S M
  independent_indep M I cs e h = all_every cs (I cs e (λ j. combined_is j cs M ∙ h j))

  -- ## A step

  add_multiple_is : (t : ℕ) (v w : Row) → add_multiple p t v w ≡ plus_times S t v w
  add_multiple_is t [] w = refl
  add_multiple_is t (x ∷ v) [] = ap {B = List ℕ} (λ r. times p t x ∷ r) (add_multiple_is t v [])
  add_multiple_is t (x ∷ v) (y ∷ w) = ap {B = List ℕ} (λ r. plus p y (times p t x) ∷ r) (add_multiple_is t v w)

  module _ (c : ℕ) (v : Row) (there : ¬ (Z S (col S c v))) where
    -- a row that is zero in column c stays as it is
    taken : Row → ℕ
    taken w = choose (eqb (get_or w c 0 % p) 0) 0 (share S c v w)

    less : Row → Row
    less w = add_multiple p (minus p (times p (get_or w c 0) (inverse p (get_or v c 0)))) v w

    less_is : (w : Row) → less w ≡ less_share S c v w
    unfolding less
    less_is w = add_multiple_is (minus p (times p (get_or w c 0) (inverse p (get_or v c 0)))) v w

    cleared_parts : (w : Row) (j : ℕ) → times p 1 (get_or w j 0) ≡ plus p (times p 1 (get_or (cleared p c v w) j 0)) (times p (taken w) (get_or v j 0))
    unfolding taken less
    cleared_parts w j = go (eqb (get_or w c 0 % p) 0)
      where
        go : (b : Bool) → times p 1 (get_or w j 0) ≡ plus p (times p 1 (get_or (choose b w (less w)) j 0)) (times p (choose b 0 (share S c v w)) (get_or v j 0))
        go true = sym (ap (plus p (times p 1 (get_or w j 0))) (zero_mul S (get_or v j 0)) ∙ mul_plus_zero S 1 (get_or w j 0))
        go false = less_share_parts S c v w j ∙ ap (λ (r : Row). plus p (times p 1 (get_or r j 0)) (times p (share S c v w) (get_or v j 0))) (sym (less_is w))

    cleared_gone : (w : Row) → Z S (get_or (cleared p c v w) c 0)
    unfolding less
    cleared_gone w = go (eqb (get_or w c 0 % p) 0) (eqb→eq (get_or w c 0 % p) 0)
      where
        go : (b : Bool) → (T b → get_or w c 0 % p ≡ 0) → Z S (get_or (choose b w (less w)) c 0)
        go true e = zero_mod (get_or w c 0) (e tt)
        go false e = ap (λ (r : Row). times p 1 (get_or r c 0)) (less_is w) ∙ less_share_gone S c v there w

    abbrev elimination : Clearing S c v
    elimination = record { clear = cleared p c v; factor = taken; parts = cleared_parts; gone = cleared_gone }

  -- what a pivot says, the row's first column being i
  abbrev Says : ℕ → Row → Option ℕ → Type 0
  Says i v none = (j : ℕ) → Z S (col S j v)
  Says i v (some c) = (d : ℕ) × (c ≡ i + d) × ¬ (Z S (col S d v))

  pivot_from_says : (i : ℕ) (v : Row) → Says i v (pivot_from p i v)
  pivot_from_says i [] = λ j. S.mul_zero 1
  pivot_from_says i (x ∷ v) = go (eqb (x % p) 0) (eqb→eq (x % p) 0) (nonzero_by (x % p)) (pivot_from p (suc i) v) (pivot_from_says (suc i) v)
    where
      go : (b : Bool) → (T b → x % p ≡ 0) → (T (not b) → ¬ (x % p ≡ 0)) → (o : Option ℕ) → Says (suc i) v o
          → Says i (x ∷ v) (elim b [ true ↦ o | false ↦ some i ])
      go true h k none s = at
        where
          at : (j : ℕ) → Z S (col S j (x ∷ v))
          at zero = zero_mod x (h tt)
          at (suc j) = s j
      go true h k (some c) s = let e : c ≡ suc i + s.0 = s.1 in (suc s.0, omega arith, s.2)
      go false h k o s = (0, omega arith, λ z. k tt (mod_zero x z))

  -- ## All steps

  -- the rank's two sides: independent rows, and as many whose span holds all rows
  record Found (M : Matrix) (r : ℕ) : Type 0 where
    choice : List Bool
    size : length (chosen choice M) ≡ r
    independent : Indep S (chosen choice M)
    basis : Matrix
    count : length basis ≡ r
    spans : Every (In-span S basis) M

  found_none : Found [] 0
  found_none = record { choice = []; size = refl; independent = λ cs e h. nothing cs e; basis = []; count = refl; spans = tt }
    where
      nothing : (cs : List ℕ) → length cs ≡ 0 → Every (Z S) cs
      nothing [] e = tt
      nothing (c ∷ cs) e = absurd (omega arith)

  found_zero : (v : Row) (M : Matrix) (r : ℕ) → ((j : ℕ) → Z S (col S j v)) → Found M r → Found (v ∷ M) r
  found_zero v M r z F = record {
    choice = false ∷ F.choice;
    size = F.size;
    independent = F.independent;
    basis = F.basis;
    count = F.count;
    spans = (span_zero S v F.basis z, F.spans);
  }

  found_pivot : (c : ℕ) (v : Row) (M : Matrix) (r : ℕ) → ¬ (Z S (col S c v)) → Found (map (cleared p c v) M) r → Found (v ∷ M) (suc r)
  found_pivot c v M r h F = record {
    choice = true ∷ F.choice;
    size = ap suc (sym (length_map (cleared p c v) (chosen F.choice M)) ∙ ap length (sym (chosen_map (cleared p c v) F.choice M)) ∙ F.size);
    independent = indep_clear S (elimination c v h) h (chosen F.choice M) (subst (Indep S) (chosen_map (cleared p c v) F.choice M) F.independent);
    basis = v ∷ F.basis;
    count = ap suc F.count;
    spans = (span_first S v F.basis, spans_clear S (elimination c v h) F.basis M F.spans);
  }

  found : (n : ℕ) (M : Matrix) → length M ≡ n → Found M (sum (marks_of p n M))
  found zero [] e = found_none
  found zero (v ∷ M) e = absurd (omega arith)
  found (suc n) [] e = absurd (omega arith)
  found (suc n) (v ∷ M) e = go (pivot p v) (pivot_from_says 0 v) (λ M' h. found n M' h)
    where
      go : (o : Option ℕ) → Says 0 v o → ((M' : Matrix) → length M' ≡ n → Found M' (sum (marks_of p n M')))
          → Found (v ∷ M) (mark o + sum (marks_of p n (rows_left p v M o)))
      go none s ih = subst (Found (v ∷ M)) (omega arith) (found_zero v M (sum (marks_of p n M)) s (ih M (omega arith)))
      go (some c) s ih = subst (Found (v ∷ M)) (omega arith) (found_pivot c v M (sum (marks_of p n (map (cleared p c v) M))) there
          (ih (map (cleared p c v) M) (let l : length (map (cleared p c v) M) ≡ length M = length_map (cleared p c v) M in omega arith)))
        where
          there : ¬ (Z S (col S c v))
          there = let e : s.0 ≡ c = omega (arith, s.1) in subst (λ d. ¬ (Z S (col S d v))) e s.2

  found_rank : (M : Matrix) (r : ℕ) → Found M r → IsRank p M r
  found_rank M r F = record {
    choice = F.choice;
    size = F.size;
    independent = indep_independent (chosen F.choice M) F.independent;
    largest = λ other I. subst (λ z. length (chosen other M) ≤ z) F.count
        (bounded S F.basis (chosen other M) (every_chosen (In-span S F.basis) other M F.spans) (independent_indep (chosen other M) I));
  }

  -- the rank exists, and elimination finds it
  pub marks_rank : (M : Matrix) → IsRank p M (sum (marks p M))
  marks_rank M = found_rank M (sum (marks p M)) (found (length M) M refl)

  -- ## The product

  kills : (A B : Matrix) → ProductZero p A B → Every (Kills S B) A
  kills [] B z = tt
  kills (u ∷ A) B z =
      (record { short = let e : length u ≡ length B = z.0.0 in omega arith; zero_at = λ j. sym (combined_is j u B) ∙ z.0.1 j }, kills A B z.1)

  pub ranks_of_product : (A B : Matrix) (r s : ℕ) → ProductZero p A B → IsRank p A r → IsRank p B s → r + s ≤ length B
  ranks_of_product A B r s z R Q =
      let h : length (chosen R.choice A) + length (chosen Q.choice B) ≤ length B =
      room S B Q.choice (independent_indep (chosen Q.choice B) Q.independent) (chosen R.choice A)
      (every_chosen (Kills S B) R.choice A (kills A B z)) (independent_indep (chosen R.choice A) R.independent) in
      let a : length (chosen R.choice A) ≡ r = R.size in
      let b : length (chosen Q.choice B) ≡ s = Q.size in omega arith
