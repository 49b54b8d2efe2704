-- Rows of constants term by term and vector by vector.
use mathlib.Core.Path.{◌≡◌, refl, sym, ap, ap₂, ◌∙◌}
use mathlib.Core.List.{List, [], ◌∷◌, ◌++◌}
use Prim.Native.Nat.{ℕ, zero, suc, ◌+◌, ◌-◌, ◌*◌, ◌<◌, ◌≤◌}
use native.Mathlib.Omega.{arith}
use lib.Dec.{T}
use lib.ListN.{length, get_or, take, drop, replicate}
use lib.Seq.{take-suc, length-take-le, drop-drop, paste}
use Rattle.definitions.specs.Limits.{document_01}
use Rattle.definitions.specs.Monomial.{Vector, Level}
use Rattle.definitions.specs.Layout.{Words, row_at, rows, level_at, holds_state?}
use Rattle.definitions.specs.Rank.{Row, Matrix}
use Rattle.definitions.specs.Places.{most_vectors, state_length, rows_offset, ends_offset, count_offset}
use Rattle.laws.proofs.Rows.{rows_first}
use Rattle.reducers.specs.tables.Cuts.{start_of, cut_level}
use Rattle.reducers.proofs.tables.Cutting.{cut_more}
use Rattle.state.specs.soundness.Places.{count_at}
use Rattle.state.proofs.soundness.VectorByVector.{whole_part}
use Rattle.state.proofs.soundness.VectorTests.{length_vectors}
use Rattle.ranks.specs.Blocks.{row_from, whole}
use Rattle.constants.specs.elimination.Rows.{row_words, rows_at}
use Rattle.constants.specs.filling.Entries.{Entered}
use Rattle.constants.proofs.elimination.Words.{row_pasted, paste_own, paste_again}
use Rattle.constants.proofs.elimination.Rowwise.{rows_put, behind_put}
use Rattle.constants.proofs.filling.Entering.{length_row_from, row_none}

-- ## A vector

rows_none : (s : Words) (a n : ℕ) → n ≡ 0 → rows s a n ≡ []
unfolding rows
rows_none s a n e = ap (rows s a) e

module _ (m₀ : Words) (at : ℕ) (level : Words) (to : ℕ) (es : List ℕ) (d b : ℕ) (many : length es ≡ b) where
  -- no terms yet, over zeros
  pub terms_none : row_words m₀ at b ≡ replicate b 0 → m₀ ≡ paste m₀ at (row_from 1 es d (rows level to (to - to))) b
  terms_none e =
      let z : to - to ≡ 0 = omega arith in
      paste_own m₀ at b
      ∙ ap (λ w. paste m₀ at w b) (e ∙ sym (ap (row_from 1 es d) (rows_none level to (to - to) z) ∙ row_none 1 es d ∙ ap (λ n. replicate n 0) many))

  -- a term more, in front
  pub terms_more : (m z : Words) (i : ℕ) → at + b ≤ length m₀ → 0 < i → i ≤ to → m ≡ paste m₀ at (row_from 1 es d (rows level i (to - i))) b
      → Entered m at es d (row_at level (i - 1)) z → z ≡ paste m₀ at (row_from 1 es d (rows level (i - 1) (to - (i - 1)))) b
  terms_more m z i room pos inside e enters =
      enters v (ap (λ n. row_words m at n) many ∙ ap (λ x. row_words x at b) e ∙ row_pasted m₀ (row_from 1 es d v) at b (omega (arith, room)) long)
      ∙ (λ j. paste (e j) at (row_from 1 es d (row_at level (i - 1) ∷ v)) (many j))
      ∙ paste_again m₀ (row_from 1 es d v) (row_from 1 es d (row_at level (i - 1) ∷ v)) at b room long
      ∙ ap (λ w. paste m₀ at (row_from 1 es d w) b) (sym terms)
    where
      v : Vector
      v = rows level i (to - i)

      long : length (row_from 1 es d (rows level i (to - i))) ≡ b
      long = length_row_from 1 es d (rows level i (to - i)) ∙ many

      terms : rows level (i - 1) (to - (i - 1)) ≡ row_at level (i - 1) ∷ rows level i (to - i)
      terms =
          let k : to - (i - 1) ≡ suc (to - i) = omega (arith, pos, inside) in
          let s : suc (i - 1) ≡ i = omega (arith, pos) in
          ap (rows level (i - 1)) k ∙ rows_first level (i - 1) (to - i) ∙ ap (λ j. row_at level (i - 1) ∷ rows level j (to - i)) s

-- ## A level

-- a part of zeros
pub zero_part : (n a k : ℕ) → a + k ≤ n → take {A = ℕ} k (drop a (replicate n 0)) ≡ replicate k 0
zero_part n zero zero h = refl
zero_part zero zero (suc k) h = absurd (omega arith)
zero_part (suc n) zero (suc k) h = ap (λ l. 0 ∷ l) (zero_part n zero k (omega (arith, h)))
zero_part zero (suc a) k h = absurd (omega (arith, h))
zero_part (suc n) (suc a) k h = zero_part n a k (omega (arith, h))

whole_append : (es ds : List ℕ) (f : Level) (d : ℕ) (v : Vector) → length ds ≡ length f
    → whole es (ds ++ d ∷ []) (f ++ v ∷ []) ≡ whole es ds f ++ row_from 1 es d v ∷ []
whole_append es [] [] d v e = refl
whole_append es [] (u ∷ f) d v e = absurd (omega (arith, e))
whole_append es (x ∷ ds) [] d v e = absurd (omega (arith, e))
whole_append es (x ∷ ds) (u ∷ f) d v e = ap {B = Matrix} (λ M. row_from 1 es x u ∷ M) (whole_append es ds f d v (omega (arith, e)))

pub length_whole : (es ds : List ℕ) (f : Level) → length ds ≡ length f → length (whole es ds f) ≡ length ds
length_whole es [] f e = refl
length_whole es (d ∷ ds) [] e = absurd (omega (arith, e))
length_whole es (d ∷ ds) (v ∷ f) e = ap suc (length_whole es ds f (omega (arith, e)))

module _ (level ends own es : List ℕ) (b j : ℕ) (many : length es ≡ b) where
  abbrev v : Vector
  v = rows level (start_of ends j) (get_or ends j 0 - start_of ends j)

  -- a vector more
  pub vectors_more : (m z : Words) (from to : ℕ) → b ≤ most_vectors → j * most_vectors + b ≤ length m → j < length ends → j < length own
      → from ≡ start_of ends j → to ≡ get_or ends j 0 → rows_at b j m ≡ whole es (take j own) (cut_level j level ends)
      → z ≡ paste m (j * most_vectors) (row_from 1 es (get_or own j 0) (rows level from (to - from))) b
      → rows_at b (j + 1) z ≡ whole es (take (j + 1) own) (cut_level (j + 1) level ends)
  vectors_more m z from to small room le lo ef et e ez =
      ap (rows_at b (j + 1)) (ez ∙ (λ i. paste m (j * most_vectors) (row_from 1 es (get_or own j 0) (rows level (ef i) (et i - ef i))) b))
      ∙ rows_put b j m (row_from 1 es (get_or own j 0) v) small room (length_row_from 1 es (get_or own j 0) v ∙ many)
      ∙ ap {B = Matrix} (λ M. M ++ row_from 1 es (get_or own j 0) v ∷ []) e
      ∙ sym (ap₂ (whole es) degrees (cut_more j level ends le) ∙ whole_append es (take j own) (cut_level j level ends) (get_or own j 0) v as_many)
    where
      degrees : take (j + 1) own ≡ take j own ++ get_or own j 0 ∷ []
      degrees = let s : j + 1 ≡ suc j = omega arith in ap (λ i. take i own) s ∙ take-suc own j 0 lo

      as_many : length (take j own) ≡ length (cut_level j level ends)
      as_many =
          length-take-le j own (omega (arith, lo)) ∙ sym (length_vectors level 0 (take j ends) ∙ length-take-le j ends (omega (arith, le)))

  -- what is behind it stays
  pub vectors_behind : (m₀ m z : Words) (w : Row) → b ≤ most_vectors → j * most_vectors + b ≤ length m → length w ≡ b
      → drop (j * most_vectors) m ≡ drop (j * most_vectors) m₀ → z ≡ paste m (j * most_vectors) w b
      → drop ((j + 1) * most_vectors) z ≡ drop ((j + 1) * most_vectors) m₀
  vectors_behind m₀ m z w small room lw e ez =
      ap (drop ((j + 1) * most_vectors)) ez
      ∙ (λ i. drop (nought (j + 1) i) (paste m (nought j i) w b)) ∙ behind_put m w 0 j b small (omega (arith, room)) lw
      ∙ ap (λ i. drop i m) (sym (nought (j + 1))) ∙ later m ∙ ap (drop most_vectors) e ∙ sym (later m₀)
    where
      nought : (i : ℕ) → i * most_vectors ≡ 0 + i * most_vectors
      nought i = omega arith

      later : (x : Words) → drop ((j + 1) * most_vectors) x ≡ drop most_vectors (drop (j * most_vectors) x)
      later x =
          let q : j * most_vectors + most_vectors ≡ (j + 1) * most_vectors = omega arith in
          sym (drop-drop most_vectors (j * most_vectors) x ∙ ap (λ i. drop i x) q)

-- ## In the state's words

module _ (s : Words) (long : state_length ≤ length s) (holds : T (holds_state? document_01 s)) where
  pub level_cut : (k a : ℕ) → a ≡ count_at s k
      → cut_level a (take (length s - rows_offset k) (drop (rows_offset k) s)) (take (length s - ends_offset k) (drop (ends_offset k) s))
      ≡ level_at document_01 s k
  level_cut k a e =
      let z : ends_offset k ≡ suc (count_offset k) = omega arith in
      λ i. cut_level (e i) (whole_part (rows_offset k) s i) ((whole_part (ends_offset k) s ∙ ap (λ n. drop n s) z) i)
