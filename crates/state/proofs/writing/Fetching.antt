-- A vector's rows in the state's words, and the buffer that they are copied to.
use mathlib.Core.Path.{◌≡◌, refl, sym, ap, ◌∙◌, subst}
use mathlib.Core.List.{[], ◌∷◌, ◌++◌}
use Prim.Native.Nat.{ℕ, zero, suc, ◌+◌, ◌-◌, ◌*◌, ◌<◌, ◌≤◌}
use native.Mathlib.Nat.{not-suc-le-zero, le_of_suc-le-suc}
use native.Mathlib.Omega.{arith}
use lib.Dec.{T, leb, ltb, leb→le}
use lib.ListN.{length, take, drop, get_or, replicate, length-drop}
use lib.Seq.{paste, take-paste, length-paste, drop-drop, get_or-take, length-take-le}
use Rattle.definitions.specs.Limits.{document_01}
use Rattle.definitions.specs.Lists.{◌and◌, between}
use Rattle.definitions.specs.Monomial.{Monomial, vector_of}
use Rattle.definitions.specs.Order.{Comparison}
use Rattle.definitions.specs.Layout.{Words, rows, rows_of, padded, vectors_at, ascending?, ends_at, level_at, levels_at, words_sound?}
use Rattle.definitions.specs.Layout.{holds_state?}
use Rattle.laws.proofs.Tests.{and_left, and_right}
use Rattle.definitions.specs.Places.{most_vectors, most_rows, most_terms, all_levels, row_length, state_length, rows_offset}
use Rattle.orders.specs.Images.{table_order}
use Rattle.orders.specs.Levels.{images}
use Rattle.laws.proofs.Degrees.{holds_says}
use Rattle.words.specs.Slices.{SixteenBits}
use Rattle.vectors.specs.terms.Rows.{cleared}
use Rattle.reducers.specs.tables.Cuts.{start_of, Cut}
use Rattle.reducers.proofs.tables.Cutting.{begin_from}
use Rattle.state.specs.declared.soundness.Bounds.{Bounds}
use Rattle.state.specs.soundness.Places.{count_at, rows_from, ends_from}
use Rattle.state.specs.soundness.Holding.{bounds_of, vector_holds?, vectors_hold?}
use Rattle.state.proofs.soundness.TablesGrow.{vector_ends}
use Rattle.state.proofs.soundness.LevelByLevel.{own_test?}
use Rattle.state.proofs.soundness.SoundLevels.{height, complete_test, complete_cut}
use Rattle.state.proofs.soundness.StateTests.{words_parts}
use Rattle.state.proofs.soundness.VectorTests.{end_of, ascends_past}
use Rattle.state.proofs.writing.Spelled.{sixteen_from, rows_back, all_sound_at}

pub vector_from : (s : Words) (a : ℕ) (es : Words) (i : ℕ) → i < length es → get_or (vectors_at s a es) i []
    ≡ rows s (begin_from a es i) (get_or es i 0 - begin_from a es i)
vector_from s a [] i h = absurd (not-suc-le-zero h)
vector_from s a (e ∷ es) zero h = refl
vector_from s a (e ∷ es) (suc zero) h = vector_from s e es zero (le_of_suc-le-suc h)
vector_from s a (e ∷ es) (suc (suc i)) h = vector_from s e es (suc i) (le_of_suc-le-suc h)

vectors_short : (b : Bounds) (most : ℕ) (order : Monomial → Monomial → Comparison) (s : Words) (a : ℕ) (es : Words)
    → T (vectors_hold? b most order s a es) → (i : ℕ) → i < length es → get_or es i 0 - begin_from a es i ≤ most
vectors_short b most order s a [] t i h = absurd (not-suc-le-zero h)
vectors_short b most order s a (e ∷ es) t zero h = (vector_ends b most order s a e
    (and_left (vector_holds? b most order s a e) (vectors_hold? b most order s e es) t)).2
vectors_short b most order s a (e ∷ es) t (suc zero) h = vectors_short b most order s e es
    (and_right (vector_holds? b most order s a e) (vectors_hold? b most order s e es) t) zero (le_of_suc-le-suc h)
vectors_short b most order s a (e ∷ es) t (suc (suc i)) h = vectors_short b most order s e es
    (and_right (vector_holds? b most order s a e) (vectors_hold? b most order s e es) t) (suc i) (le_of_suc-le-suc h)

pub begin_taken : (ends : Words) (r j : ℕ) → j < r → begin_from 0 (take r ends) j ≡ start_of ends j
begin_taken ends r zero h = refl
begin_taken ends r (suc j) h = get_or-take r ends j 0 (omega arith)

-- each end is within the limit, and at most the last one
each_end : (limit a : ℕ) (es : Words) → T (ascending? limit a es) → (i : ℕ) → i < length es → (get_or es i 0 ≤ limit) × (get_or es i 0 ≤ end_of a es)
each_end limit a [] t i h = absurd (not-suc-le-zero h)
each_end limit a (e ∷ es) t zero h =
    let u = and_right (ltb a e) (leb e limit and ascending? limit e es) t in
    (leb→le e limit (and_left (leb e limit) (ascending? limit e es) u), ascends_past limit e es (and_right (leb e limit) (ascending? limit e es) u))
each_end limit a (e ∷ es) t (suc i) h = each_end limit e es (and_right (leb e limit) (ascending? limit e es)
    (and_right (ltb a e) (leb e limit and ascending? limit e es) t)) i (le_of_suc-le-suc h)

module _ (s : Words) (long : state_length ≤ length s) (t : T (holds_state? document_01 s)) where
  pub complete_words : (k : ℕ) → k < get_or s 4 0 → T (words_sound? document_01 s k)
  complete_words k h =
      all_sound_at s (get_or s 4 0) (holds_says document_01 s t).words k h

  module _ (k : ℕ) (high : k < get_or s 4 0) (j : ℕ) (inside : j < count_at s k) where
    abbrev ends : Words
    ends = ends_from s k

    low : k < all_levels
    low = omega (arith, height s long t, high)

    cut : Cut (count_at s k) (rows_from s k) (ends_from s k)
    cut = (complete_cut s long t k high).1

    vector_short : 1 ≤ k → get_or (ends_from s k) j 0 - start_of (ends_from s k) j ≤ most_terms
    vector_short l = go k l (complete_test s long t k high) (complete_cut s long t k high).1.ends_fit inside
      where
        go : (k : ℕ) → 1 ≤ k → T (own_test? s k) → count_at s k ≤ length (ends_from s k) → j < count_at s k
            → get_or (ends_from s k) j 0 - start_of (ends_from s k) j ≤ most_terms
        go zero l u f i = absurd (omega arith)
        go (suc k) l u f i =
            let es = ends_at document_01 s (suc k) in
            let O = table_order (get_or s 2 0) (images (levels_at document_01 s (suc k))) in
            let b = bounds_of (get_or s 0 0) (get_or s 1 0) (count_at s k) in
            let n : length es ≡ count_at s (suc k) = length-take-le (count_at s (suc k)) (ends_from s (suc k)) f in
            let x = vectors_short b most_terms O (rows_from s (suc k)) 0 es
            (and_right (between 0 (count_at s (suc k)) most_vectors) (vectors_hold? b most_terms O (rows_from s (suc k)) 0 es) u) j (omega arith) in
            subst (λ c. c ≤ most_terms) (λ i'. get_or-take (count_at s (suc k)) (ends_from s (suc k)) j 0 i i' - begin_taken (ends_from s (suc k))
            (count_at s (suc k)) j i i') x

    parts : (count_at s k ≤ most_vectors) × T (ascending? most_rows 0 (ends_at document_01 s k))
    parts = words_parts s long k (complete_words k high)

    many : length (ends_at document_01 s k) ≡ count_at s k
    many = length-take-le (count_at s k) (ends_from s k) cut.ends_fit

    taken : get_or (ends_at document_01 s k) j 0 ≡ get_or (ends_from s k) j 0
    taken = get_or-take (count_at s k) (ends_from s k) j 0 inside

    pub vector_bounds : 1 ≤ k → (start_of (ends_from s k) j < get_or (ends_from s k) j 0) × (get_or (ends_from s k) j 0 ≤ most_rows)
        × (get_or (ends_from s k) j 0 - start_of (ends_from s k) j ≤ most_terms)
    vector_bounds l = (
      cut.filled j inside,
      omega (
        arith,
        taken,
        (each_end most_rows 0 (ends_at document_01 s k) parts.1 j
            (omega (arith, many, inside))).0,
      ),
      vector_short l,
    )

    pub vector_words : SixteenBits s → rows_of (vector_of (level_at document_01 s k) (suc j))
        ≡ take ((get_or (ends_from s k) j 0 - start_of (ends_from s k) j) * row_length) (drop (rows_offset k + start_of (ends_from s k) j * row_length) s)
    vector_words known =
        ap rows_of (vector_from R 0 es j (omega (arith, many, inside))
        ∙ (λ i. rows R (begin_taken ends (count_at s k) j inside i) (taken i - begin_taken ends (count_at s k) j inside i)))
        ∙ rows_back R from (to - from) (omega (arith, e.0, room)) (sixteen_from s (rows_offset k) known)
        ∙ ap (take ((to - from) * row_length)) (drop-drop (from * row_length) (rows_offset k) s)
      where
        R : Words
        R = rows_from s k

        es : Words
        es = ends_at document_01 s k

        from : ℕ
        from = start_of (ends_from s k) j

        to : ℕ
        to = get_or (ends_from s k) j 0

        f : start_of (ends_from s k) j < get_or (ends_from s k) j 0
        f = cut.filled j inside

        e : (get_or (ends_at document_01 s k) j 0 ≤ most_rows) × (get_or (ends_at document_01 s k) j 0 ≤ end_of 0 (ends_at document_01 s k))
        e = each_end most_rows 0 (ends_at document_01 s k) parts.1 j (omega (arith, many, inside))

        room : (start_of (ends_from s k) j + (get_or (ends_from s k) j 0 - start_of (ends_from s k) j)) * row_length ≤ length (rows_from s k)
        room = omega (arith, f, e.0, taken, low, length-drop (rows_offset k) s)

-- ## The buffer

-- n words copied to its beginning, zeros behind them
pub padded_out : (out w p : Words) (n : ℕ) → n ≤ length out → n ≤ length p → w ≡ take n p → cleared (paste out 0 p n) n ≡ padded (length out) w
padded_out out w p n h l e =
    let z : 0 + n ≡ n = omega arith in
    let m : length (paste out 0 p n) - n ≡ length out - length w = omega
    (arith, length-paste out 0 p n (omega arith) l, ap length e, length-take-le n p l) in
    (λ i. (ap (λ k. take k (paste out 0 p n)) (sym z) ∙ take-paste out 0 p n (omega arith) l ∙ sym e) i ++ replicate (m i) 0)

-- ## Vector v, counted from 1

pub record Fetchable (s : Words) (k v : ℕ) : Type 0 where
  pub inside : k < all_levels
  pub few : v ≤ most_vectors
  pub filled : start_of (ends_from s k) (v - 1) < start_of (ends_from s k) v
  pub within : start_of (ends_from s k) v ≤ most_rows
  pub short : start_of (ends_from s k) v - start_of (ends_from s k) (v - 1) ≤ most_terms
  pub words : SixteenBits s → rows_of (vector_of (level_at document_01 s k) v)
      ≡ take ((start_of (ends_from s k) v - start_of (ends_from s k) (v - 1)) * row_length)
      (drop (rows_offset k + start_of (ends_from s k) (v - 1) * row_length) s)

pub fetchable : (s : Words) (long : state_length ≤ length s) (t : T (holds_state? document_01 s)) (k v : ℕ) → 1 ≤ k → k < get_or s 4 0 → 1 ≤ v
    → v ≤ count_at s k → Fetchable s k v
fetchable s long t k zero a b c d = absurd (omega arith)
fetchable s long t k (suc j) a b c d =
    let z : j ≡ suc j - 1 = omega arith in
    let x = vector_bounds s long t k b j d a in
    record {
      inside = omega (arith, height s long t);
      few = omega (arith, (complete_cut s long t k b).0);
      filled = subst (λ n. start_of (ends_from s k) n < get_or (ends_from s k) j 0) z x.0;
      within = x.1;
      short = subst (λ n. get_or (ends_from s k) j 0 - start_of (ends_from s k) n ≤ most_terms) z x.2;
      words = subst (λ n. SixteenBits s → rows_of (vector_of (level_at document_01 s k) (suc j))
          ≡ take ((get_or (ends_from s k) j 0 - start_of (ends_from s k) n) * row_length)
          (drop (rows_offset k + start_of (ends_from s k) n * row_length) s)) z (vector_words s long t k b j d);
    }
