-- The marks of a state's columns, one column after the other.
use mathlib.Core.Path.{◌≡◌, refl, sym, ap, ◌∙◌, subst}
use mathlib.Core.Bool.{Bool, true, false, not}
use mathlib.Core.List.{List, [], ◌∷◌, ◌++◌, reverse, reverse-cons}
use Prim.Native.Nat.{ℕ, zero, suc, ◌+◌, ◌*◌, ◌<◌, ◌≤◌}
use native.Mathlib.Nat.{not-suc-le-zero}
use native.Mathlib.Omega.{arith}
use native.Mathlib.Decide.{ℕ_discrete}
use lib.Dec.{T, ltb, ltb→lt, nltb→le}
use lib.ListN.{length, get_or, take, drop, replicate, length-reverse, get_or-append}
use lib.Seq.{get_or_at, length-take-le, paste}
use Rattle.definitions.specs.Limits.{document_01}
use Rattle.definitions.specs.Monomial.{Level}
use Rattle.definitions.specs.Layout.{Words, decode, level_at, levels_at, holds_state?}
use Rattle.definitions.specs.Minimal.{vectors_at}
use Rattle.definitions.specs.Places.{most_vectors, page_columns, state_length, marks_length}
use Rattle.state.specs.soundness.Places.{count_at, ends_from, rows_from}
use Rattle.state.proofs.preparing.Complete.{length_levels}
use Rattle.state.proofs.soundness.SoundLevels.{complete_cut}
use Rattle.state.proofs.soundness.VectorTests.{length_vectors}
use Rattle.columns.specs.counting.Columns.{columns_of, column_of}
use Rattle.columns.proofs.counting.Standing.{first_column, level_stands, no_column}
use Rattle.ranks.specs.Elimination.{marks}
use Rattle.ranks.specs.Blocks.{whole, column_marks}
use Rattle.constants.specs.marking.Marked.{Marked}
use Rattle.constants.proofs.elimination.Words.{row_same, take_first, row_pasted}
use Rattle.constants.proofs.elimination.Turns.{length_of}
use Rattle.constants.proofs.filling.Vectorwise.{zero_part, length_whole}

-- level k among levels 0 to h − 1
level_of : (s : Words) (h k : ℕ) → k < h → get_or (reverse (levels_at document_01 s h)) k [] ≡ level_at document_01 s k
level_of s zero k l = absurd (not-suc-le-zero l)
level_of s (suc h) k l =
    ap (λ (z : List Level). get_or z k []) (reverse-cons (level_at document_01 s h) (levels_at document_01 s h)) ∙ go (ℕ_discrete k h) (level_of s h k)
  where
    before : List Level
    before = reverse (levels_at document_01 s h)

    many : length before ≡ h
    many = length-reverse (levels_at document_01 s h) ∙ length_levels s h

    go : Dec (k ≡ h) → (k < h → get_or before k [] ≡ level_at document_01 s k) →
        get_or (before ++ level_at document_01 s h ∷ []) k [] ≡ level_at document_01 s k
    go (yes e) r =
        subst (λ i. get_or (before ++ level_at document_01 s h ∷ []) i [] ≡ level_at document_01 s i) (sym e)
        (get_or_at before (level_at document_01 s h) [] [] h many)
    go (no n) r = get_or-append before (level_at document_01 s h ∷ []) [] k (omega (arith, many, l, n)) ∙ r (omega (arith, l, n))

-- the marks of column k + 1 are those of level k's rows
pub marks_level : (s : Words) (k : ℕ) → k < get_or s 4 0
    → marks (get_or s 0 0) (whole (column_of s k) (column_of s (suc k)) (level_at document_01 s k)) ≡ column_marks (decode document_01 s) (columns_of s) (suc k)
marks_level s k h = sym (ap (λ f. marks (get_or s 0 0) (whole (column_of s k) (column_of s (suc k)) f)) (level_of s (get_or s 4 0) k h))

-- ## Column by column

-- those of columns 0 to k
abbrev pub MarkedTo : Words → ℕ → Words → Type 0
MarkedTo s k m = (c : ℕ) → c ≤ k → take (length (column_of s c)) (drop (c * most_vectors) m) ≡ column_marks (decode document_01 s) (columns_of s) c

module _ (s : Words) (long : state_length ≤ length s) (holds : T (holds_state? document_01 s)) where
  -- column 0, over zeros
  pub marked_none : (m : Words) → m ≡ replicate marks_length 0 → MarkedTo s 0 m
  marked_none m e c h =
      let z : c ≡ 0 = omega (arith, h) in
      let S = first_column s long holds 0 refl in
      let few = S.few in
      let so = S.long in
      subst (λ c. take (length (column_of s c)) (drop (c * most_vectors) m) ≡ column_marks (decode document_01 s) (columns_of s) c) (sym z)
      (ap (take (length (column_of s 0))) e ∙ zero_part marks_length 0 (length (column_of s 0)) (omega (arith, few, so)))

  long_marks : (k : ℕ) → k < get_or s 4 0 → length (column_marks (decode document_01 s) (columns_of s) (suc k)) ≡ length (column_of s (suc k))
  long_marks k h = ap length (sym (marks_level s k h)) ∙ length_of (get_or s 0 0) (length M) M refl ∙ length_whole es ds f as_many
    where
      es : List ℕ
      es = column_of s k

      ds : List ℕ
      ds = column_of s (suc k)

      f : Level
      f = level_at document_01 s k

      M : List (List ℕ)
      M = whole (column_of s k) (column_of s (suc k)) (level_at document_01 s k)

      as_many : length (column_of s (suc k)) ≡ length (level_at document_01 s k)
      as_many =
          sym (level_stands s long holds k h).long
          ∙ sym (length_vectors (rows_from s k) 0 (take (count_at s k) (ends_from s k))
          ∙ length-take-le (count_at s k) (ends_from s k) (complete_cut s long holds k h).1.ends_fit)

  few_of : (k : ℕ) → k < get_or s 4 0 → length (column_of s (suc k)) ≤ most_vectors
  few_of k h = let S = level_stands s long holds k h in let l = S.long in let f = S.few in omega (arith, l, f)

  few_at : (c : ℕ) → c ≤ get_or s 4 0 → length (column_of s c) ≤ most_vectors
  few_at zero h = let S = first_column s long holds 0 refl in let l = S.long in let f = S.few in omega (arith, l, f)
  few_at (suc k) h = few_of k h

  pub marked_more : (k : ℕ) (m z : Words) → k < get_or s 4 0 → k + 2 ≤ page_columns → length m ≡ marks_length → MarkedTo s k m
      → z ≡ paste m (suc k * most_vectors) (column_marks (decode document_01 s) (columns_of s) (suc k)) (length (column_of s (suc k)))
      → MarkedTo s (k + 1) z
  marked_more k m z h inside lm M e c l = go (ℕ_discrete c (suc k))
    where
      at : ℕ
      at = suc k * most_vectors

      w : List ℕ
      w = column_marks (decode document_01 s) (columns_of s) (suc k)

      go : Dec (c ≡ suc k) → take (length (column_of s c)) (drop (c * most_vectors) z) ≡ column_marks (decode document_01 s) (columns_of s) c
      go (yes q) =
          subst (λ c. take (length (column_of s c)) (drop (c * most_vectors) z) ≡ column_marks (decode document_01 s) (columns_of s) c) (sym q)
          (ap (λ x. take (length (column_of s (suc k))) (drop (suc k * most_vectors) x)) e
          ∙ row_pasted m (column_marks (decode document_01 s) (columns_of s) (suc k)) (suc k * most_vectors) (length (column_of s (suc k)))
          (omega (arith, lm, inside)) (long_marks k h))
      go (no q) =
          let few = few_at c (omega (arith, l, h)) in
          row_same z m (c * most_vectors) (length (column_of s c)) (suc k * most_vectors) (omega (arith, few, l, q))
          (ap (take (suc k * most_vectors)) e
          ∙ take_first m (column_marks (decode document_01 s) (columns_of s) (suc k)) (suc k * most_vectors) (length (column_of s (suc k)))
          (omega (arith, lm, inside)))
          ∙ M c (omega (arith, l, q))

  -- columns that are not there have no generators
  no_marks : (c : ℕ) → get_or s 4 0 < c → (m : Words)
      → take (length (column_of s c)) (drop (c * most_vectors) m) ≡ column_marks (decode document_01 s) (columns_of s) c
  no_marks zero h m = absurd (not-suc-le-zero h)
  no_marks (suc c) h m =
      let e : [] ≡ column_of s (suc c) = (no_column s long holds (suc c) h).words in
      let X = decode document_01 s in
      (λ i. take (length (sym e i)) (drop (suc c * most_vectors) m)) ∙ ap (λ ds. marks (get_or s 0 0) (whole (column_of s c) ds (vectors_at X c))) e

  pub marked_all : (k : ℕ) (m : Words) → get_or s 4 0 ≤ k → MarkedTo s k m → Marked s m
  marked_all k m h M c l = go (ltb k c) (ltb→lt k c) (nltb→le k c)
    where
      go : (b : Bool) → (T b → k < c) → (T (not b) → c ≤ k)
          → take (length (column_of s c)) (drop (c * most_vectors) m) ≡ column_marks (decode document_01 s) (columns_of s) c
      go true f g = no_marks c (let x = f tt in omega (arith, x, h)) m
      go false f g = M c (g tt)
