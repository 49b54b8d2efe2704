-- All levels of a state, as the code tests them and as the definitions do: the two tests are one.
use mathlib.Core.Path.{◌≡◌, refl, sym, ap, ◌∙◌, subst}
use mathlib.Core.Bool.{Bool}
use mathlib.Core.List.{List, []}
use Prim.Native.Nat.{ℕ, zero, suc, ◌<◌, ◌≤◌}
use native.Mathlib.Omega.{arith}
use lib.Dec.{T, leb, leb→le, le→leb}
use lib.ListN.{length, get_or, length-drop}
use lib.Seq.{length-take-le}
use Rattle.definitions.specs.Limits.{document_01}
use Rattle.definitions.specs.Lists.{◌and◌, every, between}
use Rattle.definitions.specs.Monomial.{Monomial, Level}
use Rattle.definitions.specs.Order.{Comparison, compare_over}
use Rattle.definitions.specs.Problem.{Parameters, prime_in_range?, in_ranges?}
use Rattle.definitions.specs.State.{vector_sound?, levels_sound?, degrees_sound?, terms_of, sound?}
use Rattle.definitions.specs.Layout.{Words, ends_at, level_at, levels_at, ascending?, words_sound?, all_words_sound?}
use Rattle.definitions.specs.Layout.{holds_state?}
use Rattle.laws.proofs.Tests.{and_left, and_right, and_both, between_low, between_high, between_shown}
use Rattle.laws.proofs.Sound.{basis_says, basis_shown, level_says, level_shown, sound_says, sound_shown}
use Rattle.laws.proofs.Degrees.{holds_says}
use Rattle.definitions.specs.Places.{most_elements, most_vectors, most_rows, most_terms, all_levels, state_length, count_offset}
use Rattle.orders.specs.Images.{table_order}
use Rattle.orders.specs.Levels.{images}
use Rattle.orders.proofs.Induced.{AllLed, no_levels, table_order_is, sound_led}
use Rattle.state.specs.declared.soundness.Bounds.{Bounds}
use Rattle.state.specs.soundness.Places.{parameters_at, count_at, rows_from, ends_from}
use Rattle.state.specs.soundness.Holding.{bounds_of, vectors_hold?, level_holds?, levels_hold?}
use Rattle.state.specs.degrees.Carrying.{carried_right?}
use Rattle.state.proofs.soundness.VectorTests.{ascends_within, terms_cut, length_vectors}
use Rattle.state.proofs.soundness.VectorTests.{vectors_ascend, vectors_said, vectors_shown}
use Rattle.state.proofs.soundness.LevelByLevel.{own_test?}

module _ (s : Words) (long : state_length ≤ length s) where
  abbrev q : Parameters
  q = parameters_at s

  abbrev es : ℕ → Words
  es k = ends_at document_01 s k

  -- a level has as many vectors as its count says
  pub level_count : (k : ℕ) → k < all_levels → count_at s k ≤ most_vectors → length (level_at document_01 s k) ≡ count_at s k
  level_count k h c = length_vectors (rows_from s k) 0 (es k) ∙ length-take-le (count_at s k) (ends_from s k)
      (omega (arith, length-drop (suc (count_offset k)) s))

  -- ## Words

  module _ (low high most components : ℕ) (order : Monomial → Monomial → Comparison) (k : ℕ)
      (t : T (level_holds? low high most (bounds_of (get_or s 0 0) (get_or s 1 0) components) order s k)) where
    abbrev B : Bounds
    B = bounds_of (get_or s 0 0) (get_or s 1 0) components

    pub level_counted : (low ≤ count_at s k) × (count_at s k ≤ high)
    level_counted =
        let c = and_left (between low (count_at s k) high) (vectors_hold? B most order (rows_from s k) 0 (es k)) t in
        (between_low low (count_at s k) high c, between_high low (count_at s k) high c)

    level_walked : T (vectors_hold? (bounds_of (get_or s 0 0) (get_or s 1 0) components) most order (rows_from s k) 0 (ends_at document_01 s k))
    level_walked = and_right (between low (count_at s k) high) (vectors_hold? B most order (rows_from s k) 0 (es k)) t

    pub level_words : high ≤ most_vectors → T (words_sound? document_01 s k)
    level_words l =
        and_both (leb (count_at s k) most_vectors) (ascending? most_rows 0 (es k)) (le→leb (count_at s k) most_vectors (omega (arith, level_counted.1)))
        (vectors_ascend B most order (rows_from s k) 0 (es k) level_walked)

    pub level_short : terms_of (level_at document_01 s k) ≤ most_rows
    level_short =
        let a = vectors_ascend B most order (rows_from s k) 0 (es k) level_walked in
        omega (arith, terms_cut most_rows (rows_from s k) 0 (es k) a, ascends_within most_rows 0 (es k) (omega arith) a)

    pub level_vectors : (below : List Level) → ((m m' : Monomial) → order m m' ≡ compare_over (get_or s 2 0) below m m')
        → T (every (vector_sound? document_01 q components most below) (level_at document_01 s k))
    level_vectors below agree = vectors_said q components most (rows_from s k) order below agree 0 (es k) level_walked

  -- the parts of the words' test
  pub words_parts : (k : ℕ) → T (words_sound? document_01 s k) → (count_at s k ≤ most_vectors) × T (ascending? most_rows 0 (ends_at document_01 s k))
  words_parts k t = (
    leb→le (count_at s k) most_vectors (and_left (leb (count_at s k) most_vectors) (ascending? most_rows 0 (es k)) t),
    and_right (leb (count_at s k) most_vectors) (ascending? most_rows 0 (es k)) t,
  )

  level_back : (low high most components : ℕ) (order : Monomial → Monomial → Comparison) (k : ℕ) (below : List Level)
      → T (words_sound? document_01 s k) → low ≤ count_at s k → count_at s k ≤ high
      → ((m m' : Monomial) → order m m' ≡ compare_over (get_or s 2 0) below m m')
      → T (every (vector_sound? document_01 (parameters_at s) components most below) (level_at document_01 s k))
      → T (level_holds? low high most (bounds_of (get_or s 0 0) (get_or s 1 0) components) order s k)
  level_back low high most components order k below w l m agree v =
      let p = words_parts k w in
      and_both (between low (count_at s k) high) (vectors_hold? (bounds_of (get_or s 0 0) (get_or s 1 0) components) most order (rows_from s k) 0 (es k))
      (between_shown low (count_at s k) high l m)
      (vectors_shown q components most (rows_from s k) order below agree 0 (es k) p.1 v)

  -- ## Upwards

  -- the order through the table of images, and the definitions' order
  agrees : (k : ℕ) → AllLed (levels_at document_01 s k) → (m m' : Monomial) → table_order (get_or s 2 0) (images (levels_at document_01 s k)) m m'
      ≡ compare_over (get_or s 2 0) (levels_at document_01 s k) m m'
  agrees k led m m' = table_order_is (get_or s 2 0) (levels_at document_01 s k) led m m'

  abbrev O : ℕ → Monomial → Monomial → Comparison
  O k = table_order (get_or s 2 0) (images (levels_at document_01 s k))

  own_words : (k : ℕ) → T (own_test? s k) → T (words_sound? document_01 s k)
  own_words zero t = level_words 1 most_elements most_rows (get_or s 3 0) (O 0) 0 t (omega arith)
  own_words (suc k) t = level_words 0 most_vectors most_terms (count_at s k) (O (suc k)) (suc k) t (omega arith)

  pub own_few : (k : ℕ) → T (own_test? s k) → count_at s k ≤ most_vectors
  own_few k t = (words_parts k (own_words k t)).0

  pub up_words : (k : ℕ) → T (levels_hold? s k) → T (all_words_sound? document_01 s k)
  up_words zero t = tt
  up_words (suc k) t =
      and_both (words_sound? document_01 s k) (all_words_sound? document_01 s k) (own_words k (and_right (levels_hold? s k) (own_test? s k) t))
      (up_words k (and_left (levels_hold? s k) (own_test? s k) t))

  pub up_levels : (k : ℕ) → k < all_levels → T (levels_hold? s (suc k))
      → T (levels_sound? document_01 (parameters_at s) (levels_at document_01 s (suc k)))
  up_levels zero h t =
      let u = and_right (levels_hold? s 0) (own_test? s 0) t in
      let c = level_counted 1 most_elements most_rows (get_or s 3 0) (O 0) 0 u in
      let n = level_count 0 h (omega arith) in
      basis_shown document_01 q (level_at document_01 s 0) (record {
        some_element = omega arith;
        few = omega arith;
        short = level_short 1 most_elements most_rows (get_or s 3 0) (O 0) 0 u;
        vectors = level_vectors 1 most_elements most_rows (get_or s 3 0) (O 0) 0 u [] (agrees 0 no_levels);
      })
  up_levels (suc k) h t =
      let w = and_left (levels_hold? s (suc k)) (own_test? s (suc k)) t in
      let u = and_right (levels_hold? s (suc k)) (own_test? s (suc k)) t in
      let r = up_levels k (omega arith) w in
      let c = level_counted 0 most_vectors most_terms (count_at s k) (O (suc k)) (suc k) u in
      let n = level_count (suc k) h (omega arith) in
      let g = level_count k (omega arith) (own_few k (and_right (levels_hold? s k) (own_test? s k) w)) in
      level_shown document_01 q (level_at document_01 s (suc k)) (level_at document_01 s k) (levels_at document_01 s k) (record {
        few = omega arith;
        short = level_short 0 most_vectors most_terms (count_at s k) (O (suc k)) (suc k) u;
        vectors = subst (λ m. T (every (vector_sound? document_01 q m most_terms (levels_at document_01 s (suc k))) (level_at document_01 s (suc k))))
            (sym g) (level_vectors 0 most_vectors most_terms (count_at s k) (O (suc k)) (suc k) u (levels_at document_01 s (suc k))
            (agrees (suc k) (sound_led document_01 q (levels_at document_01 s (suc k)) r)));
        under = r;
      })

  -- ## Downwards

  pub down_levels : (k : ℕ) → k < all_levels → T (all_words_sound? document_01 s (suc k))
      → T (levels_sound? document_01 (parameters_at s) (levels_at document_01 s (suc k))) → T (levels_hold? s (suc k))
  down_levels zero h w t =
      let b = basis_says document_01 q (level_at document_01 s 0) t in
      let u = and_left (words_sound? document_01 s 0) (all_words_sound? document_01 s 0) w in
      let n = level_count 0 h (words_parts 0 u).0 in
      and_both (levels_hold? s 0) (own_test? s 0) tt (level_back 1 most_elements most_rows (get_or s 3 0) (O 0) 0 [] u (omega (arith, b.some_element))
      (omega (arith, b.few)) (agrees 0 no_levels) b.vectors)
  down_levels (suc k) h w t =
      let b = level_says document_01 q (level_at document_01 s (suc k)) (level_at document_01 s k) (levels_at document_01 s k) t in
      let u = and_left (words_sound? document_01 s (suc k)) (all_words_sound? document_01 s (suc k)) w in
      let v = and_right (words_sound? document_01 s (suc k)) (all_words_sound? document_01 s (suc k)) w in
      let n = level_count (suc k) h (words_parts (suc k) u).0 in
      let g = level_count k (omega arith) (words_parts k (and_left (words_sound? document_01 s k) (all_words_sound? document_01 s k) v)).0 in
      and_both (levels_hold? s (suc k)) (own_test? s (suc k)) (down_levels k (omega arith) v b.under)
      (level_back 0 most_vectors most_terms (count_at s k) (O (suc k)) (suc k) (levels_at document_01 s (suc k)) u (omega arith)
      (omega (arith, b.few)) (agrees (suc k) (sound_led document_01 q (levels_at document_01 s (suc k)) b.under))
      (subst (λ m. T (every (vector_sound? document_01 q m most_terms (levels_at document_01 s (suc k))) (level_at document_01 s (suc k)))) g
      b.vectors))

  -- ## The state

  pub length_levels : (k : ℕ) → length (levels_at document_01 s k) ≡ k
  length_levels zero = refl
  length_levels (suc k) = ap suc (length_levels k)

  -- what soundness asks of the parameters and of levels 0 to n − 1, and what their degrees must be
  abbrev Rest : ℕ → Bool
  Rest n = sound? document_01 (record { parameters = q; levels = levels_at document_01 s n }) and carried_right? s n

  pub holds_shown : (h : ℕ) → get_or s 4 0 ≡ h → 1 ≤ h → h ≤ all_levels → T (prime_in_range? document_01 (get_or s 0 0))
      → T (in_ranges? document_01 (parameters_at s)) → T (levels_hold? s h) → T (degrees_sound? (parameters_at s)) → T (carried_right? s h)
      → T (holds_state? document_01 s)
  holds_shown zero e l m p r t d x = absurd (omega arith)
  holds_shown (suc k) e l m p r t d x = subst (λ n. T (leb n all_levels and all_words_sound? document_01 s n and Rest n)) (sym e)
      (and_both (leb (suc k) all_levels) (all_words_sound? document_01 s (suc k) and Rest (suc k)) (le→leb (suc k) all_levels m)
      (and_both (all_words_sound? document_01 s (suc k)) (Rest (suc k)) (up_words (suc k) t)
      (and_both (sound? document_01 (record { parameters = q; levels = levels_at document_01 s (suc k) })) (carried_right? s (suc k))
      (sound_shown document_01 (record { parameters = q; levels = levels_at document_01 s (suc k) })
      (record { prime = p; ranges = r; degrees = d; height = omega (arith, length_levels (suc k)); levels = up_levels k m t })) x)))

  pub holds_said : T (holds_state? document_01 s) → (1 ≤ get_or s 4 0) × (get_or s 4 0 ≤ all_levels) × T (prime_in_range? document_01 (get_or s 0 0))
      × T (in_ranges? document_01 (parameters_at s)) × T (levels_hold? s (get_or s 4 0)) × T (degrees_sound? (parameters_at s))
      × T (carried_right? s (get_or s 4 0))
  holds_said t = let u = holds_says document_01 s t in
      go (get_or s 4 0) (leb→le (get_or s 4 0) all_levels u.complete) u.words u.sound u.carries
    where
      go : (n : ℕ) → n ≤ all_levels → T (all_words_sound? document_01 s n)
          → T (sound? document_01 (record { parameters = parameters_at s; levels = levels_at document_01 s n })) → T (carried_right? s n)
          → (1 ≤ n) × (n ≤ all_levels) × T (prime_in_range? document_01 (get_or s 0 0)) × T (in_ranges? document_01 (parameters_at s))
          × T (levels_hold? s n) × T (degrees_sound? (parameters_at s)) × T (carried_right? s n)
      go zero h w x r = absurd (sound_says document_01 (record { parameters = parameters_at s; levels = [] }) x).levels
      go (suc n) h w x r = let y = sound_says document_01 (record { parameters = parameters_at s; levels = levels_at document_01 s (suc n) }) x in
          (omega arith, h, y.prime, y.ranges, down_levels n h w y.levels, y.degrees, r)
