-- A level's degrees written: what a state must be for it, and that it then carries those of this level too.
use mathlib.Core.Path.{◌≡◌, refl, sym, ap, ◌∙◌, subst}
use mathlib.Core.List.{List, [], ◌∷◌}
use Prim.Native.Nat.{ℕ, zero, suc, ◌+◌, ◌<◌, ◌≤◌}
use native.Mathlib.Nat.{not-suc-le-zero, le_of_suc-le-suc}
use native.Mathlib.Omega.{arith}
use lib.Dec.{T, leb, ltb, eqb, leb→le, ltb→lt}
use lib.ListN.{length, get_or, take, drop, length-drop}
use lib.Seq.{length-paste, length-take-le, get_or-take, get_or-drop, ext_get_or}
use Rattle.definitions.specs.Limits.{document_01}
use Rattle.definitions.specs.Lists.{◌and◌}
use Rattle.definitions.specs.Monomial.{Level, fits?, same_exponents?}
use Rattle.definitions.specs.State.{State, sound?, levels_sound?}
use Rattle.definitions.specs.Degrees.{degrees_of, carried}
use Rattle.definitions.specs.Layout.{Words, carried_place, degrees_at, ends_at, level_at, levels_at, ascending?, words_sound?, all_words_sound?, carries?}
use Rattle.definitions.specs.Places.{most_degree, most_carried, most_components, most_vectors, most_rows, all_levels, header_length}
use Rattle.definitions.specs.Places.{degrees_start, carried_start, state_length, count_offset, rows_offset, carried_offset}
use Rattle.laws.proofs.Tests.{and_left, and_right, and_both}
use Rattle.laws.proofs.Sound.{level_says, sound_says}
use Rattle.laws.proofs.RoundTrip.{length_degrees, length_carried}
use Rattle.vectors.proofs.terms.Moving.{getD_paste_in, getD_paste_below}
use Rattle.reducers.specs.tables.Cuts.{Cut}
use Rattle.reducers.proofs.tables.Cutting.{begin_from}
use Rattle.state.specs.soundness.Places.{parameters_at, count_at, rows_from, ends_from}
use Rattle.state.specs.preparing.Prepared.{components_at}
use Rattle.state.specs.writing.Zeroed.{Same}
use Rattle.state.specs.degrees.Carrying.{under_from, under_at, carried_from, weighed_at, carried_right?, Weighable, with_carried}
use Rattle.state.proofs.soundness.StateTests.{level_count, length_levels, words_parts}
use Rattle.state.proofs.writing.Fetching.{begin_taken}
use Rattle.state.proofs.writing.Spelled.{all_sound_at}
use Rattle.state.proofs.writing.Local.{levels_local}
use Rattle.state.proofs.degrees.Carried.{weighed_right, under_right, carried_more, few_components}
use Rattle.state.proofs.degrees.Lent.{length_weighed}
use Rattle.state.proofs.degrees.Bounded.{Bounded, fits_bounded, carried_bounded}

-- ## Vectors that can be cut out

ascends_at : (limit a : ℕ) (es : Words) → T (ascending? limit a es) → (i : ℕ) → i < length es → (begin_from a es i < get_or es i 0) × (get_or es i 0 ≤ limit)
ascends_at limit a [] t i h = absurd (not-suc-le-zero h)
ascends_at limit a (e ∷ es) t zero h =
    let u = and_right (ltb a e) (leb e limit and ascending? limit e es) t in
    (ltb→lt a e (and_left (ltb a e) (leb e limit and ascending? limit e es) t), leb→le e limit (and_left (leb e limit) (ascending? limit e es) u))
ascends_at limit a (e ∷ es) t (suc zero) h =
    let u = and_right (ltb a e) (leb e limit and ascending? limit e es) t in
    ascends_at limit e es (and_right (leb e limit) (ascending? limit e es) u) zero (le_of_suc-le-suc h)
ascends_at limit a (e ∷ es) t (suc (suc i)) h =
    let u = and_right (ltb a e) (leb e limit and ascending? limit e es) t in
    ascends_at limit e es (and_right (leb e limit) (ascending? limit e es) u) (suc i) (le_of_suc-le-suc h)

pub words_cut : (s : Words) → state_length ≤ length s → (k : ℕ) → k < all_levels → T (words_sound? document_01 s k)
    → Cut (count_at s k) (rows_from s k) (ends_from s k)
words_cut s long k h t = record {
  ends_fit = fit;
  rows_fit = λ j m. omega (arith, (each j m).1, get_or-take (count_at s k) (ends_from s k) j 0 m, length-drop (rows_offset k) s);
  filled = λ j m. omega (arith, (each j m).0, begin_taken (ends_from s k) (count_at s k) j m, get_or-take (count_at s k) (ends_from s k) j 0 m);
}
  where
    p : (count_at s k ≤ most_vectors) × T (ascending? most_rows 0 (ends_at document_01 s k))
    p = words_parts s long k t

    fit : count_at s k ≤ length (ends_from s k)
    fit = omega (arith, p.0, length-drop (suc (count_offset k)) s)

    each : (j : ℕ) → j < count_at s k → (begin_from 0 (ends_at document_01 s k) j < get_or (ends_at document_01 s k) j 0)
        × (get_or (ends_at document_01 s k) j 0 ≤ most_rows)
    each j m = ascends_at most_rows 0 (ends_at document_01 s k) p.1 j (omega (arith, length-take-le (count_at s k) (ends_from s k) fit))

pub words_few : (s : Words) → state_length ≤ length s → (h : ℕ) → T (all_words_sound? document_01 s h) → (j : ℕ) → j < h → count_at s j ≤ most_vectors
words_few s long h t j l = (words_parts s long j (all_sound_at s h t j l)).0

-- ## A level that can be weighed

module _ (s : Words) (long : state_length ≤ length s) (k : ℕ) (inside : k < all_levels) (words : T (all_words_sound? document_01 s (suc k)))
    (sound : T (sound? document_01 (record { parameters = parameters_at s; levels = levels_at document_01 s (suc k) })))
    (right : T (carried_right? s k)) where
  abbrev X : State
  X = record { parameters = parameters_at s; levels = levels_at document_01 s (suc k) }

  few : (j : ℕ) → j < suc k → count_at s j ≤ most_vectors
  few = words_few s long (suc k) words

  pub few_here : get_or s 3 0 ≤ most_components
  few_here = few_components s long (sound_says document_01 X sound).ranges

  levels : T (levels_sound? document_01 (parameters_at s) (levels_at document_01 s (suc k)))
  levels = (sound_says document_01 X sound).levels

  in_range : T (fits? most_degree (degrees_at document_01 s))
  in_range =
      let q = parameters_at s in
      and_right (eqb (length q.degrees) q.s) (fits? most_degree q.degrees) (sound_says document_01 X sound).degrees

  pub weighed_here : weighed_at s k ≡ degrees_of (degrees_at document_01 s) (levels_at document_01 s k) (level_at document_01 s k)
  weighed_here = weighed_right s long k inside (λ j m. few j (omega arith)) levels right

  under_bounded : (j : ℕ) → j ≡ k → Bounded most_carried (under_at s j)
  under_bounded zero e i = let b = fits_bounded most_degree (degrees_at document_01 s) in_range i in omega (arith, b)
  under_bounded (suc j) e i =
      let t = and_left_levels j e in
      let c : T (carried_right? s (suc j)) = subst (λ n. T (carried_right? s n)) (sym e) right in
      let b = carried_bounded (parameters_at s) (degrees_at document_01 s) (level_at document_01 s j) (levels_at document_01 s j) in_range t i in
      subst (λ (l : Words). get_or l i 0 ≤ most_carried) (sym (under_right s long j (omega arith) (few j (omega arith)) c))
      (omega (arith, b, length_levels s long j))
    where
      and_left_levels : (j : ℕ) → suc j ≡ k → T (levels_sound? document_01 (parameters_at s) (levels_at document_01 s (suc j)))
      and_left_levels j e =
          (level_says document_01 (parameters_at s) (level_at document_01 s (suc j)) (level_at document_01 s j) (levels_at document_01 s j)
          (subst (λ n. T (levels_sound? document_01 (parameters_at s) (levels_at document_01 s (suc n)))) (sym e) levels)).under

  components : (j : ℕ) → j ≡ k → components_at s j ≤ most_vectors
  components zero e = omega (arith, few_here)
  components (suc j) e = few j (omega arith)

  pub weighable : Weighable s k
  weighable = record {
    long = long;
    level = inside;
    few = few k (omega arith);
    components = components k refl;
    cut = words_cut s long k inside (all_sound_at s (suc k) words k (omega arith));
    light = λ i m. subst (λ x. x ≤ most_carried) (get_or-take (components_at s k) (under_from s k) i 0 m) (under_bounded k refl i);
  }

-- ## Degrees that stay

abbrev top_of : List Level → Level
top_of [] = []
top_of (f ∷ fs) = f

abbrev below_of : List Level → List Level
below_of [] = []
below_of (f ∷ fs) = fs

pub degrees_local : (s z : Words) → state_length ≤ length s → length z ≡ length s → get_or s 3 0 ≤ most_components → get_or z 3 0 ≡ get_or s 3 0
    → Same z s degrees_start carried_start → degrees_at document_01 z ≡ degrees_at document_01 s
degrees_local s z long e few n same =
    ap (λ m. take m (drop degrees_start z)) n
    ∙ ext_get_or 0 (take (get_or s 3 0) (drop degrees_start z)) (take (get_or s 3 0) (drop degrees_start s)) (size z (omega arith) ∙ sym (size s long))
    (λ i h. word z i (omega (arith, size z (omega arith))) ∙ same (degrees_start + i) (omega arith) (omega (arith, size z (omega arith)))
    ∙ sym (word s i (omega (arith, size z (omega arith)))))
  where
    size : (w : Words) → state_length ≤ length w → length (take (get_or s 3 0) (drop degrees_start w)) ≡ get_or s 3 0
    size w l = length-take-le (get_or s 3 0) (drop degrees_start w) (omega (arith, length-drop degrees_start w))

    word : (w : Words) (i : ℕ) → i < get_or s 3 0 → get_or (take (get_or s 3 0) (drop degrees_start w)) i 0 ≡ get_or w (degrees_start + i) 0
    word w i l = get_or-take (get_or s 3 0) (drop degrees_start w) i 0 l ∙ get_or-drop degrees_start w i 0

module _ (s z : Words) (long : state_length ≤ length s) (same_long : length z ≡ length s) (d : List ℕ) where
  -- the words of level j
  carried_words : (j n : ℕ) → j < all_levels → n ≤ most_vectors → Same z s (carried_offset j) (carried_offset (suc j))
      → take n (carried_from z j) ≡ take n (carried_from s j)
  carried_words j n h m same =
      ext_get_or 0 (take n (carried_from z j)) (take n (carried_from s j)) (size z (omega arith) ∙ sym (size s long))
      (λ i l. word z i (omega (arith, size z (omega arith))) ∙ same (carried_offset j + i) (omega arith) (omega (arith, size z (omega arith)))
      ∙ sym (word s i (omega (arith, size z (omega arith)))))
    where
      size : (w : Words) → state_length ≤ length w → length (take n (carried_from w j)) ≡ n
      size w l = length-take-le n (carried_from w j) (omega (arith, length-drop (carried_offset j) w))

      word : (w : Words) (i : ℕ) → i < n → get_or (take n (carried_from w j)) i 0 ≡ get_or w (carried_offset j + i) 0
      word w i l = get_or-take n (carried_from w j) i 0 l ∙ get_or-drop (carried_offset j) w i 0

  carries_stay : (k : ℕ) → k ≤ all_levels → ((j : ℕ) → j < k → count_at s j ≤ most_vectors) → Same z s carried_start (carried_offset k)
      → T (carries? document_01 s (carried d (levels_at document_01 s k))) → T (carries? document_01 z (carried d (levels_at document_01 s k)))
  carries_stay zero l few same t = tt
  carries_stay (suc k) l few same t =
      and_both (same_exponents? (take (length ds) (drop (carried_place document_01 (length (carried d (levels_at document_01 s k)))) z)) ds)
      (carries? document_01 z (carried d (levels_at document_01 s k)))
      (subst (λ x. T (same_exponents? x ds)) (sym words)
      (and_left (same_exponents? (take (length ds) (drop (carried_place document_01 (length (carried d (levels_at document_01 s k)))) s)) ds)
      (carries? document_01 s (carried d (levels_at document_01 s k))) t))
      (carries_stay k (omega arith) (λ j m. few j (omega arith)) (λ i a b. same i a (omega arith))
      (and_right (same_exponents? (take (length ds) (drop (carried_place document_01 (length (carried d (levels_at document_01 s k)))) s)) ds)
      (carries? document_01 s (carried d (levels_at document_01 s k))) t))
    where
      ds : Words
      ds = degrees_of d (levels_at document_01 s k) (level_at document_01 s k)

      place : length (carried d (levels_at document_01 s k)) ≡ k
      place = length_carried d (levels_at document_01 s k) ∙ length_levels s long k

      n : length ds ≡ count_at s k
      n = length_degrees d (levels_at document_01 s k) (level_at document_01 s k) ∙ level_count s long k l (few k (omega arith))

      words : take (length ds) (drop (carried_place document_01 (length (carried d (levels_at document_01 s k)))) z)
          ≡ take (length ds) (drop (carried_place document_01 (length (carried d (levels_at document_01 s k)))) s)
      words =
          (λ i. take (length ds) (drop (carried_place document_01 (place i)) z))
          ∙ carried_words k (length ds) l (omega (arith, n, few k (omega arith))) (λ i a b. same i (omega arith) b)
          ∙ sym (λ i. take (length ds) (drop (carried_place document_01 (place i)) s))

-- levels, their degrees and those of the components stay: so the levels carry them still
pub carried_stays : (s z : Words) → state_length ≤ length s → length z ≡ length s → (k : ℕ) → k ≤ all_levels
    → ((j : ℕ) → j < k → count_at s j ≤ most_vectors) → levels_at document_01 z k ≡ levels_at document_01 s k
    → degrees_at document_01 z ≡ degrees_at document_01 s → Same z s carried_start (carried_offset k) → T (carried_right? s k) → T (carried_right? z k)
carried_stays s z long e k l few levels degrees same t =
    subst T (sym (λ i. carries? document_01 z (carried (degrees i) (levels i)))) (carries_stay s z long e (degrees_at document_01 s) k l few same t)

-- ## With the degrees of level k

module _ (s : Words) (k : ℕ) (w : Weighable s k) where
  n : length (weighed_at s k) ≡ count_at s k
  n = length_weighed s k w.long w.level w.few

  fits : carried_offset k + count_at s k ≤ length s
  fits = let a = w.long in let b = w.level in let c = w.few in omega arith

  pub carried_long : length (with_carried s k) ≡ length s
  carried_long = length-paste s (carried_offset k) (weighed_at s k) (count_at s k) fits (omega (arith, n))

  -- all words before them
  pub carried_front : Same (with_carried s k) s 0 (carried_offset k)
  carried_front i a b = getD_paste_below s (carried_offset k) (weighed_at s k) (count_at s k) i 0 (omega (arith, fits)) b

  pub carried_here : take (count_at s k) (carried_from (with_carried s k) k) ≡ weighed_at s k
  carried_here =
      let y = with_carried s k in
      let l : length (take (count_at s k) (carried_from y k)) ≡ count_at s k =
      length-take-le (count_at s k) (carried_from y k) (omega (arith, length-drop (carried_offset k) y, carried_long, fits)) in
      ext_get_or 0 (take (count_at s k) (carried_from y k)) (weighed_at s k) (l ∙ sym n)
      (λ i h. get_or-take (count_at s k) (carried_from y k) i 0 (omega (arith, l)) ∙ get_or-drop (carried_offset k) y i 0
      ∙ getD_paste_in s (carried_offset k) (weighed_at s k) (count_at s k) i 0 (omega (arith, fits)) (omega (arith, n)) (omega (arith, l)))

-- what stands in a state when level k's degrees have been written
pub record CompleteWith (s y : Words) (k : ℕ) : Type 0 where
  pub long : length y ≡ length s
  pub front : Same y s 0 header_length
  pub components : degrees_at document_01 y ≡ degrees_at document_01 s
  pub levels : levels_at document_01 y (suc k) ≡ levels_at document_01 s (suc k)
  pub words : T (all_words_sound? document_01 y (suc k))
  pub carries : T (carried_right? y (suc k))

module _ (s : Words) (long : state_length ≤ length s) (k : ℕ) (inside : k < all_levels) (words : T (all_words_sound? document_01 s (suc k)))
    (sound : T (sound? document_01 (record { parameters = parameters_at s; levels = levels_at document_01 s (suc k) })))
    (right : T (carried_right? s k)) where
  abbrev y : Words
  y = with_carried s k

  w : Weighable s k
  w = weighable s long k inside words sound right

  same_long : length (with_carried s k) ≡ length s
  same_long = carried_long s k w

  front : Same (with_carried s k) s 0 (carried_offset k)
  front = carried_front s k w

  kept : (levels_at document_01 (with_carried s k) (suc k) ≡ levels_at document_01 s (suc k)) × T (all_words_sound? document_01 (with_carried s k) (suc k))
  kept = levels_local s y long same_long (suc k) inside words (λ i a b. front i (omega arith) (omega arith)) (λ i a b. front i (omega arith) (omega arith))

  degrees_kept : degrees_at document_01 (with_carried s k) ≡ degrees_at document_01 s
  degrees_kept = degrees_local s y long same_long (few_here s long k inside words sound right) (front 3 (omega arith) (omega arith))
      (λ i a b. front i (omega arith) (omega arith))

  few_all : (j : ℕ) → j < suc k → count_at s j ≤ most_vectors
  few_all = words_few s long (suc k) words

  same_count : count_at (with_carried s k) k ≡ count_at s k
  same_count = front (count_offset k) (omega arith) (omega arith)

  below : T (carried_right? (with_carried s k) k)
  below = carried_stays s y long same_long k (omega arith) (λ j m. few_all j (omega arith)) (ap below_of kept.0) degrees_kept
      (λ i a b. front i (omega arith) b) right

  pub carried_complete : CompleteWith s (with_carried s k) k
  carried_complete = record {
    long = same_long;
    front = λ i a b. front i a (omega arith);
    components = degrees_kept;
    levels = kept.0;
    words = kept.1;
    carries = carried_more y (omega (arith, same_long)) k inside (omega (arith, same_count, few_all k (omega arith))) below
        (ap (λ m. take m (carried_from y k)) same_count ∙ carried_here s k w ∙ weighed_here s long k inside words sound right
        ∙ sym (λ i. degrees_of (degrees_kept i) (below_of (kept.0 i)) (top_of (kept.0 i))));
  }
