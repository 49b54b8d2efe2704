-- A level depends on its own words only.
use mathlib.Core.Path.{◌≡◌, refl, sym, ap, ◌∙◌, subst}
use mathlib.Core.List.{List, [], ◌∷◌}
use Prim.Native.Nat.{ℕ, zero, suc, ◌+◌, ◌-◌, ◌*◌, ◌<◌, ◌≤◌}
use native.Mathlib.Omega.{arith}
use lib.Dec.{T, leb, ltb, leb→le, le→leb, ltb→lt}
use lib.ListN.{length, take, drop, get_or, set, length-drop, length-set}
use lib.Seq.{ext_get_or, get_or-take, get_or-drop, get_or-set_same, get_or-set_other, drop-set-lt, drop-drop, length-take-le}
use Rattle.definitions.specs.Limits.{document_01}
use Rattle.definitions.specs.Lists.{◌and◌}
use Rattle.definitions.specs.Layout.{Words, row_at, vectors_at, ascending?, ends_at, level_at, levels_at, decode, words_sound?}
use Rattle.definitions.specs.Layout.{all_words_sound?, degrees_at, carries?}
use Rattle.definitions.specs.Degrees.{carried}
use Rattle.definitions.specs.Monomial.{same_exponents?}
use Rattle.laws.proofs.Tests.{and_left, and_right, and_both}
use Rattle.laws.proofs.Rows.{rows_same}
use Rattle.definitions.specs.Places.{most_vectors, most_rows, all_levels, row_length, header_length, rows_start, level_length}
use Rattle.definitions.specs.Places.{most_components, degrees_start, state_length, count_offset, rows_offset, carried_offset}
use Rattle.vectors.proofs.terms.Stored.{same_row}
use Rattle.state.specs.soundness.Places.{count_at, rows_from, ends_from}
use Rattle.state.proofs.soundness.VectorTests.{end_of, ascends_past, ascends_within}
use Rattle.state.proofs.soundness.StateTests.{words_parts}
use Rattle.state.specs.writing.LevelSoFar.{words_so_far?, finished}
use Rattle.state.specs.writing.Zeroed.{Same}
use Rattle.state.specs.degrees.Carrying.{carried_right?}

-- ## Rows that stay

pub row_stays : (s z : Words) (i : ℕ) → Same z s (i * row_length) (i * row_length + row_length) → row_at z i ≡ row_at s i
row_stays s z i f = same_row s z i i (λ j h. f (i * row_length + j) (omega arith) (omega arith))

pub vectors_stay : (s z : Words) (a : ℕ) (es : Words) → T (ascending? most_rows a es) → ((i : ℕ) → i < end_of a es → row_at z i ≡ row_at s i)
    → vectors_at z a es ≡ vectors_at s a es
vectors_stay s z a [] t f = refl
vectors_stay s z a (e ∷ es) t f =
    let u = and_right (leb e most_rows) (ascending? most_rows e es) (and_right (ltb a e) (leb e most_rows and ascending? most_rows e es) t) in
    let l : a < e = ltb→lt a e (and_left (ltb a e) (leb e most_rows and ascending? most_rows e es) t) in
    let m : e ≤ end_of e es = ascends_past most_rows e es u in
    λ i. rows_same s z a a (e - a) (λ j h. f (a + j) (omega arith)) i ∷ vectors_stay s z e es u f i

-- ## A level

pub level_stays : (s z : Words) (es : Words) → T (ascending? most_rows 0 es) → Same z s 0 (end_of 0 es * row_length) → vectors_at z 0 es
    ≡ vectors_at s 0 es
level_stays s z es t same = vectors_stay s z 0 es t (λ i h. row_stays s z i (λ j a b. same j (omega arith) (omega arith)))

module _ (s z : Words) (long : state_length ≤ length s) (same_long : length z ≡ length s) where
  module _ (j : ℕ) (inside : j < all_levels) (t : T (words_sound? document_01 s j)) (counts : Same z s (count_offset j) (count_offset (suc j)))
      (terms : Same z s (rows_offset j) (rows_offset (suc j))) where
    p : (count_at s j ≤ most_vectors) × T (ascending? most_rows 0 (ends_at document_01 s j))
    p = words_parts s long j t

    count_same : count_at z j ≡ count_at s j
    count_same = counts (count_offset j) (omega arith) (omega arith)

    ends_same : ends_at document_01 z j ≡ ends_at document_01 s j
    ends_same = ap (λ n. take n (ends_from z j)) count_same ∙ ext_get_or 0 (take (count_at s j) (ends_from z j)) (take (count_at s j) (ends_from s j))
        (n z (omega arith) ∙ sym (n s (omega arith)))
        (λ i h. word z i (omega (arith, n z (omega arith))) ∙ counts (suc (count_offset j) + i) (omega arith) (omega (arith, n z (omega arith), p.0))
        ∙ sym (word s i (omega (arith, n z (omega arith)))))
      where
        n : (w : Words) → state_length ≤ length w → length (take (count_at s j) (ends_from w j)) ≡ count_at s j
        n w l = length-take-le (count_at s j) (ends_from w j) (omega (arith, p.0, length-drop (suc (count_offset j)) w))

        word : (w : Words) (i : ℕ) → i < count_at s j → get_or (take (count_at s j) (ends_from w j)) i 0 ≡ get_or w (suc (count_offset j) + i) 0
        word w i l = get_or-take (count_at s j) (ends_from w j) i 0 l ∙ get_or-drop (suc (count_offset j)) w i 0

    rows_same_from : Same (rows_from z j) (rows_from s j) 0 level_length
    rows_same_from i a b = get_or-drop (rows_offset j) z i 0 ∙ terms (rows_offset j + i) (omega arith) (omega arith)
        ∙ sym (get_or-drop (rows_offset j) s i 0)

    abbrev es : Words
    es = ends_at document_01 s j

    used : Same (rows_from z j) (rows_from s j) 0 (end_of 0 (ends_at document_01 s j) * row_length)
    used i a b = rows_same_from i a (omega (arith, ascends_within most_rows 0 es (omega arith) p.1))

    pub level_local : level_at document_01 z j ≡ level_at document_01 s j
    level_local = ap (vectors_at (rows_from z j) 0) ends_same ∙ level_stays (rows_from s j) (rows_from z j) es p.1 used

    pub words_local : T (words_sound? document_01 z j)
    words_local =
        subst (λ e. T (leb (count_at z j) most_vectors and ascending? most_rows 0 e)) (sym ends_same)
        (and_both (leb (count_at z j) most_vectors) (ascending? most_rows 0 es) (le→leb (count_at z j) most_vectors (omega (arith, count_same, p.0)))
        p.1)

  -- levels 0 to h − 1
  pub levels_local : (h : ℕ) → h ≤ all_levels → T (all_words_sound? document_01 s h) → Same z s header_length (count_offset h)
      → Same z s rows_start (rows_offset h) → (levels_at document_01 z h ≡ levels_at document_01 s h) × T (all_words_sound? document_01 z h)
  levels_local zero l t c r = (refl, tt)
  levels_local (suc h) l t c r =
      let w = and_left (words_sound? document_01 s h) (all_words_sound? document_01 s h) t in
      let q = levels_local h (omega arith) (and_right (words_sound? document_01 s h) (all_words_sound? document_01 s h) t)
      (λ i a b. c i a (omega arith)) (λ i a b. r i a (omega arith)) in
      let C : Same z s (count_offset h) (count_offset (suc h)) = λ i a b. c i (omega arith) b in
      let R : Same z s (rows_offset h) (rows_offset (suc h)) = λ i a b. r i (omega arith) b in (
        (λ i. level_local h l w C R i ∷ q.0 i),
        and_both (words_sound? document_01 z h) (all_words_sound? document_01 z h) (words_local h l w C R)
            q.1,
      )

-- ## Degrees

-- all words from the degrees on stay
carries_tail : (s z : Words) (dss : List Words) → drop degrees_start z ≡ drop degrees_start s → T (carries? document_01 s dss) → T (carries? document_01 z dss)
carries_tail s z [] e t = tt
carries_tail s z (ds ∷ dss) e t =
    and_both (same_exponents? (take (length ds) (drop (carried_offset (length dss)) z)) ds) (carries? document_01 z dss)
    (subst (λ w. T (same_exponents? (take (length ds) w) ds)) (sym words)
    (and_left (same_exponents? (take (length ds) (drop (carried_offset (length dss)) s)) ds) (carries? document_01 s dss) t))
    (carries_tail s z dss e (and_right (same_exponents? (take (length ds) (drop (carried_offset (length dss)) s)) ds) (carries? document_01 s dss) t))
  where
    words : drop (carried_offset (length dss)) z ≡ drop (carried_offset (length dss)) s
    words =
        let a : carried_offset (length dss) ≡ degrees_start + (most_components + length dss * most_vectors) = omega arith in
        ap (λ n. drop n z) a ∙ sym (drop-drop (most_components + length dss * most_vectors) degrees_start z)
        ∙ ap (drop (most_components + length dss * most_vectors)) e
        ∙ drop-drop (most_components + length dss * most_vectors) degrees_start s ∙ sym (ap (λ n. drop n s) a)

pub carried_tail : (s z : Words) (k : ℕ) → drop degrees_start z ≡ drop degrees_start s → degrees_at document_01 z ≡ degrees_at document_01 s
    → levels_at document_01 z k ≡ levels_at document_01 s k → T (carried_right? s k) → T (carried_right? z k)
carried_tail s z k e d ls t =
    subst T (sym (λ i. carries? document_01 z (carried (d i) (ls i))))
    (carries_tail s z (carried (degrees_at document_01 s) (levels_at document_01 s k)) e t)

-- ## The count and the number of complete levels written

module _ (s : Words) (k count : ℕ) (long : state_length ≤ length s) (inside : k < all_levels) (below : T (all_words_sound? document_01 s k))
    (so_far : T (words_so_far? s k count)) where
  abbrev z : Words
  z = set (set s (count_offset k) count) 4 (k + 1)

  z_long : length (set (set s (count_offset k) count) 4 (k + 1)) ≡ length s
  z_long = length-set (set s (count_offset k) count) 4 (k + 1) ∙ length-set s (count_offset k) count

  other : (i : ℕ) → (i ≡ 4 → ⊥) → (i ≡ count_offset k → ⊥) → get_or (set (set s (count_offset k) count) 4 (k + 1)) i 0 ≡ get_or s i 0
  other i a b = get_or-set_other (set s (count_offset k) count) 4 i (k + 1) 0 a ∙ get_or-set_other s (count_offset k) i count 0 b

  beyond : (n : ℕ) → count_offset k < n → drop n (set (set s (count_offset k) count) 4 (k + 1)) ≡ drop n s
  beyond n h = drop-set-lt n (set s (count_offset k) count) 4 (k + 1) (omega arith) ∙ drop-set-lt n s (count_offset k) count h

  new_count : count_at (set (set s (count_offset k) count) 4 (k + 1)) k ≡ count
  new_count = get_or-set_other (set s (count_offset k) count) 4 (count_offset k) (k + 1) 0 (λ e. omega arith)
      ∙ get_or-set_same s (count_offset k) count 0 (omega arith)

  pub new_height : get_or (set (set s (count_offset k) count) 4 (k + 1)) 4 0 ≡ k + 1
  new_height = get_or-set_same (set s (count_offset k) count) 4 (k + 1) 0 (omega (arith, length-set s (count_offset k) count))

  rows_kept : rows_from (set (set s (count_offset k) count) 4 (k + 1)) k ≡ rows_from s k
  rows_kept = beyond (rows_offset k) (omega arith)

  ends_kept : ends_from (set (set s (count_offset k) count) 4 (k + 1)) k ≡ ends_from s k
  ends_kept = beyond (suc (count_offset k)) (omega arith)

  under : (levels_at document_01 (set (set s (count_offset k) count) 4 (k + 1)) k ≡ levels_at document_01 s k)
      × T (all_words_sound? document_01 (set (set s (count_offset k) count) 4 (k + 1)) k)
  under = levels_local s z long z_long k (omega arith) below (λ i a b. other i (λ e. omega arith) (λ e. omega arith))
      (λ i a b. other i (λ e. omega arith) (λ e. omega arith))

  pub new_words : T (all_words_sound? document_01 (set (set s (count_offset k) count) 4 (k + 1)) (k + 1))
  new_words =
      let y : suc k ≡ k + 1 = omega arith in
      subst (λ n. T (all_words_sound? document_01 z n)) y (and_both (words_sound? document_01 z k) (all_words_sound? document_01 z k) here under.1)
    where
      here : T (words_sound? document_01 (set (set s (count_offset k) count) 4 (k + 1)) k)
      here = subst T (sym (λ i. leb (new_count i) most_vectors and ascending? most_rows 0 (take (new_count i) (ends_kept i)))) so_far

  pub new_tail : drop degrees_start (set (set s (count_offset k) count) 4 (k + 1)) ≡ drop degrees_start s
  new_tail = beyond degrees_start (omega arith)

  new_degrees : degrees_at document_01 (set (set s (count_offset k) count) 4 (k + 1)) ≡ degrees_at document_01 s
  new_degrees = λ i. take (other 3 (λ e. omega arith) (λ e. omega arith) i) (new_tail i)

  pub new_below : levels_at document_01 (set (set s (count_offset k) count) 4 (k + 1)) k ≡ levels_at document_01 s k
  new_below = under.0

  -- the levels below carry their degrees still
  pub new_carried : T (carried_right? s k) → T (carried_right? (set (set s (count_offset k) count) 4 (k + 1)) k)
  new_carried = carried_tail s z k new_tail new_degrees new_below

  pub new_state : decode document_01 (set (set s (count_offset k) count) 4 (k + 1)) ≡ finished s k count
  new_state =
      let y : k + 1 ≡ suc k = omega arith in
      (λ i. record {
        parameters = record {
          p = other 0 (λ e. omega arith) (λ e. omega arith) i;
          n = other 1 (λ e. omega arith) (λ e. omega arith) i;
          code =
              other 2 (λ e. omega arith) (λ e. omega arith) i;
          s = other 3 (λ e. omega arith) (λ e. omega arith) i;
          degrees = new_degrees i;
        };
        levels = (ap (levels_at document_01 z) (new_height ∙ y) ∙ (λ j. vectors_at (rows_kept j) 0 (take (new_count j) (ends_kept j)) ∷ under.0 j)) i;
      })

pub so_far_few : (s : Words) (k count : ℕ) → T (words_so_far? s k count) → count ≤ most_vectors
so_far_few s k count t = leb→le count most_vectors (and_left (leb count most_vectors) (ascending? most_rows 0 (take count (ends_from s k))) t)
