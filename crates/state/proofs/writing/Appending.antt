-- A vector appended: the level so far has one vector more, everything else stays.
use mathlib.Core.Path.{◌≡◌, refl, sym, ap, ◌∙◌, subst}
use mathlib.Core.List.{[], ◌∷◌, ◌++◌, append_assoc}
use Prim.Native.Nat.{ℕ, suc, ◌+◌, ◌-◌, ◌*◌, ◌<◌, ◌≤◌}
use native.Mathlib.Omega.{arith}
use lib.Dec.{T, leb, ltb, le→leb, lt→ltb}
use lib.ListN.{length, take, drop, get_or, length-drop, length-set}
use lib.Seq.{paste, length-paste, take_all, take-suc, drop_at, drop-drop, drop-set-lt, ext_get_or, get_or-take, get_or-drop, get_or-set_same}
use lib.Seq.{get_or-set_other, length-take-le}
use Rattle.definitions.specs.Limits.{document_01}
use Rattle.definitions.specs.Lists.{◌and◌}
use Rattle.definitions.specs.Monomial.{Vector}
use Rattle.definitions.specs.Layout.{Words, rows, rows_of, vectors_at, ascending?, levels_at, all_words_sound?}
use Rattle.laws.proofs.Tests.{and_left, and_right, and_both}
use Rattle.laws.proofs.Rows.{Eights, length_rows_of, rows_spelled}
use Rattle.definitions.specs.Places.{most_vectors, most_rows, all_levels, row_length, header_length}
use Rattle.definitions.specs.Places.{degrees_start, state_length, count_offset, rows_offset}
use Rattle.vectors.proofs.terms.Moving.{getD_paste_in, getD_paste_below, getD_paste_above}
use Rattle.reducers.specs.tables.Cuts.{start_of}
use Rattle.state.specs.soundness.Places.{rows_from, ends_from}
use Rattle.state.proofs.soundness.VectorTests.{end_of}
use Rattle.state.specs.writing.LevelSoFar.{level_so_far, words_so_far?, appended}
use Rattle.state.specs.writing.Zeroed.{Same}
use Rattle.state.proofs.writing.Spelled.{end_is_start}
use Rattle.state.proofs.writing.Local.{vectors_stay, row_stays, levels_local}

-- ## One end more

vectors_last : (s : Words) (a : ℕ) (es : Words) (e : ℕ) → vectors_at s a (es ++ e ∷ []) ≡ vectors_at s a es ++ rows s (end_of a es) (e - end_of a es)
    ∷ []
vectors_last s a [] e = refl
vectors_last s a (d ∷ es) e = ap (λ f. rows s a (d - a) ∷ f) (vectors_last s d es e)

ascends_last : (a : ℕ) (es : Words) (e : ℕ) → T (ascending? most_rows a es) → end_of a es < e → e ≤ most_rows
    → T (ascending? most_rows a (es ++ e ∷ []))
ascends_last a [] e t h l = and_both (ltb a e) (leb e most_rows and ascending? most_rows e []) (lt→ltb a e h)
    (and_both (leb e most_rows) (ascending? most_rows e []) (le→leb e most_rows l) tt)
ascends_last a (d ∷ es) e t h l =
    let u = and_right (ltb a d) (leb d most_rows and ascending? most_rows d es) t in
    and_both (ltb a d) (leb d most_rows and ascending? most_rows d (es ++ e ∷ []))
    (and_left (ltb a d) (leb d most_rows and ascending? most_rows d es) t)
    (and_both (leb d most_rows) (ascending? most_rows d (es ++ e ∷ [])) (and_left (leb d most_rows) (ascending? most_rows d es) u)
    (ascends_last d es e (and_right (leb d most_rows) (ascending? most_rows d es) u) h l))

-- ## The state with one vector more

module _ (s : Words) (k count used : ℕ) (v : Vector) (n : ℕ) (long : state_length ≤ length s) (inside : k < all_levels) (few : count < most_vectors)
    (room : used + n ≤ most_rows)
    (eights : Eights v) (size : length v ≡ n) (filled : 1 ≤ n) (so_far : T (words_so_far? s k count))
    (used_is : start_of (ends_from s k) count ≡ used) where
  abbrev a : ℕ
  a = rows_offset k + used * row_length

  abbrev m : ℕ
  m = n * row_length

  abbrev p : Words
  p = paste s (rows_offset k + used * row_length) (rows_of v) (n * row_length)

  abbrev z : Words
  z = appended s k count used v n

  abbrev at : ℕ
  at = count_offset k + 1 + count

  spelled : length (rows_of v) ≡ n * row_length
  spelled = length_rows_of v ∙ ap (λ j. j * row_length) size

  p_long : length (paste s (rows_offset k + used * row_length) (rows_of v) (n * row_length)) ≡ length s
  p_long = length-paste s a (rows_of v) m (omega arith) (omega (arith, spelled))

  pub appended_long : length (appended s k count used v n) ≡ length s
  appended_long = length-set p at (used + n) ∙ p_long

  set_other : (i : ℕ) → (i ≡ count_offset k + 1 + count → ⊥) → get_or (appended s k count used v n) i 0
      ≡ get_or (paste s (rows_offset k + used * row_length) (rows_of v) (n * row_length)) i 0
  set_other i d = get_or-set_other p at i (used + n) 0 d

  -- all words but the rows and the end
  under : (i : ℕ) → i < rows_offset k + used * row_length → (i ≡ count_offset k + 1 + count → ⊥) → get_or (appended s k count used v n) i 0 ≡ get_or s i 0
  under i h d = set_other i d ∙ getD_paste_below s a (rows_of v) m i 0 (omega arith) h

  row_word : (j : ℕ) → j < n * row_length → get_or (appended s k count used v n) (rows_offset k + used * row_length + j) 0 ≡ get_or (rows_of v) j 0
  row_word j h = set_other (a + j) (λ e. omega arith) ∙ getD_paste_in s a (rows_of v) m j 0 (omega arith) (omega (arith, spelled)) h

  pub appended_front : Same (appended s k count used v n) s 0 header_length
  appended_front i x y = under i (omega arith) (λ e. omega arith)

  -- the degrees
  pub appended_degrees : Same (appended s k count used v n) s degrees_start (length s)
  appended_degrees i x y = set_other i (λ e. omega arith) ∙ getD_paste_above s a (rows_of v) m i 0 (omega arith) (omega (arith, spelled)) (omega arith)

  pub appended_below : T (all_words_sound? document_01 s k) → (levels_at document_01 (appended s k count used v n) k ≡ levels_at document_01 s k)
      × T (all_words_sound? document_01 (appended s k count used v n) k)
  appended_below t = levels_local s z long appended_long k (omega arith) t (λ i x y. under i (omega arith) (λ e. omega arith))
      (λ i x y. under i (omega arith) (λ e. omega arith))

  -- ## Ends

  abbrev es : Words
  es = take count (ends_from s k)

  ends_room : (w : Words) → state_length ≤ length w → count < length (ends_from w k)
  ends_room w l = omega (arith, length-drop (suc (count_offset k)) w)

  same_ends : take count (ends_from (appended s k count used v n) k) ≡ take count (ends_from s k)
  same_ends = ext_get_or 0 (take count (ends_from z k)) es (cut z (omega (arith, appended_long)) ∙ sym (cut s long))
      (λ i h. word z i (omega (arith, cut z (omega (arith, appended_long))))
      ∙ under (suc (count_offset k) + i) (omega (arith, cut z (omega (arith, appended_long))))
      (λ e. omega (arith, cut z (omega (arith, appended_long)))) ∙ sym (word s i (omega (arith, cut z (omega (arith, appended_long))))))
    where
      cut : (w : Words) → state_length ≤ length w → length (take count (ends_from w k)) ≡ count
      cut w l = length-take-le count (ends_from w k) (omega (arith, ends_room w l))

      word : (w : Words) (i : ℕ) → i < count → get_or (take count (ends_from w k)) i 0 ≡ get_or w (suc (count_offset k) + i) 0
      word w i l = get_or-take count (ends_from w k) i 0 l ∙ get_or-drop (suc (count_offset k)) w i 0

  last_word : get_or (ends_from (appended s k count used v n) k) count 0 ≡ used + n
  last_word =
      let y : suc (count_offset k) + count ≡ at = omega arith in
      get_or-drop (suc (count_offset k)) z count 0 ∙ ap (λ i. get_or z i 0) y ∙ get_or-set_same p at (used + n) 0 (omega (arith, p_long))

  new_ends : take (count + 1) (ends_from (appended s k count used v n) k) ≡ take count (ends_from s k) ++ (used + n) ∷ []
  new_ends =
      let y : count + 1 ≡ suc count = omega arith in
      ap (λ j. take j (ends_from z k)) y ∙ take-suc (ends_from z k) count 0 (ends_room z (omega (arith, appended_long)))
      ∙ (λ i. same_ends i ++ last_word i ∷ [])

  pub appended_used : start_of (ends_from (appended s k count used v n) k) (count + 1) ≡ used + n
  appended_used = let y : count + 1 ≡ suc count = omega arith in ap (start_of (ends_from z k)) y ∙ last_word

  -- ## Rows

  abbrev R : Words
  R = rows_from s k

  abbrev Q : Words
  Q = rows_from z k

  low_rows : Same (rows_from (appended s k count used v n) k) (rows_from s k) 0 (used * row_length)
  low_rows i x y = get_or-drop (rows_offset k) z i 0 ∙ under (rows_offset k + i) (omega arith) (λ e. omega arith) ∙ sym (get_or-drop (rows_offset k) s i 0)

  end_used : end_of 0 (take count (ends_from s k)) ≡ used
  end_used = end_is_start (ends_from s k) count (omega (arith, ends_room s long)) ∙ used_is

  ascends : T (ascending? most_rows 0 (take count (ends_from s k)))
  ascends = and_right (leb count most_vectors) (ascending? most_rows 0 es) so_far

  new_rows : rows (rows_from (appended s k count used v n) k) used n ≡ v
  new_rows = ap (rows Q used) (sym size) ∙ rows_spelled Q used v (drop (a + m) s) eights behind
    where
      behind : drop (used * row_length) (rows_from (appended s k count used v n) k) ≡ rows_of v
          ++ drop (rows_offset k + used * row_length + n * row_length) s
      behind =
          drop-drop (used * row_length) (rows_offset k) z ∙ drop-set-lt a p at (used + n) (omega arith)
          ∙ ap (drop a) (append_assoc (take a s) (take m (rows_of v)) (drop (a + m) s))
          ∙ drop_at (take a s) (take m (rows_of v) ++ drop (a + m) s) a (length-take-le a s (omega arith))
          ∙ ap (λ w. w ++ drop (a + m) s) (take_all m (rows_of v) (omega (arith, spelled)))

  -- one vector more
  pub appended_level : level_so_far (appended s k count used v n) k (count + 1) ≡ level_so_far s k count ++ v ∷ []
  appended_level =
      let y : used + n - used ≡ n = omega arith in
      ap (vectors_at Q 0) new_ends ∙ vectors_last Q 0 es (used + n)
      ∙ (λ i. vectors_stay R Q 0 es ascends (λ j h. row_stays R Q j (λ u x w. low_rows u (omega arith) (omega (arith, end_used)))) i
      ++ (ap (λ j. rows Q j (used + n - j)) end_used ∙ ap (rows Q used) y ∙ new_rows) i ∷ [])

  pub appended_words : T (words_so_far? (appended s k count used v n) k (count + 1))
  appended_words =
      subst (λ w. T (leb (count + 1) most_vectors and ascending? most_rows 0 w)) (sym new_ends)
      (and_both (leb (count + 1) most_vectors) (ascending? most_rows 0 (es ++ (used + n) ∷ [])) (le→leb (count + 1) most_vectors (omega arith))
      (ascends_last 0 es (used + n) ascends (omega (arith, end_used)) room))
