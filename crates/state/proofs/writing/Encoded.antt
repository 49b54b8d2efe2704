-- A settled state is the encoding of what it says.
use mathlib.Core.Path.{◌≡◌, refl, sym, ap, ◌∙◌}
use mathlib.Core.Bool.{Bool, true, false, not}
use mathlib.Core.List.{List, [], ◌∷◌, ◌++◌, append_assoc, append-nil, reverse, reverse-cons}
use Prim.Native.Nat.{ℕ, zero, suc, ◌+◌, ◌-◌, ◌*◌, ◌<◌, ◌≤◌}
use native.Mathlib.Omega.{arith}
use lib.Dec.{T, ltb, ltb→lt, nltb→le}
use lib.ListN.{length, take, drop, get_or, replicate, length-append, length-drop, take-append-drop}
use lib.Seq.{take-add, drop-drop, get_or-take, get_or-drop, length-take-le}
use Rattle.definitions.specs.Limits.{document_01}
use Rattle.definitions.specs.Monomial.{Level}
use Rattle.definitions.specs.Layout.{Words, rows_of, padded, joined, counts_of, all_counts, all_rows, all_carried, encode, decode, ends_at, level_at, levels_at}
use Rattle.definitions.specs.Layout.{words_sound?, all_words_sound?, degrees_at}
use Rattle.definitions.specs.Degrees.{carried}
use Rattle.laws.proofs.RoundTrip.{length_padded}
use Rattle.definitions.specs.Places.{most_vectors, all_levels, row_length, header_length, counts_length, rows_start, level_length, state_length, count_offset}
use Rattle.definitions.specs.Places.{most_components, degrees_start, rows_offset, carried_offset}
use Rattle.words.specs.Slices.{SixteenBits}
use Rattle.state.specs.soundness.Places.{parameters_at, count_at, rows_from, ends_from}
use Rattle.state.specs.degrees.Carrying.{carried_right?}
use Rattle.state.proofs.soundness.StateTests.{level_count, words_parts}
use Rattle.state.specs.writing.Zeroed.{used_at, Few, Tidy, TidyDegrees, LevelsTidy, DegreesTidy, LevelsSettled, DegreesSettled}
use Rattle.state.proofs.writing.Blocks.{Sized}
use Rattle.state.proofs.writing.Wordwise.{part_is, getD_padded, getD_taken, zeros_are}
use Rattle.state.proofs.writing.EncodedDegrees.{degrees_are}
use Rattle.state.proofs.writing.Spelled.{sound_sized, level_ends, level_rows_back, all_sound_at}

-- ## The words of one level

module _ (s z : Words) (long : state_length ≤ length s) (same_long : length z ≡ length s) (known : SixteenBits s) (j : ℕ)
    (inside : j < all_levels) (w : T (words_sound? document_01 s j)) (t : Tidy s z j) where
  sized : Sized s j
  sized = sound_sized s long j inside w

  counts_block : take counts_length (drop (count_offset j) z) ≡ counts_of document_01 (level_at document_01 s j)
  counts_block =
      part_is z (count_at s j ∷ padded most_vectors (ends_at document_01 s j)) (count_offset j) counts_length (omega arith)
      (ap suc (length_padded most_vectors (ends_at document_01 s j) (omega (arith, n, sized.0)))) word
      ∙ sym (λ i. level_count s long j inside sized.0 i ∷ padded most_vectors (level_ends s long j inside w i))
    where
      n : length (ends_at document_01 s j) ≡ count_at s j
      n = length-take-le (count_at s j) (ends_from s j) (omega (arith, sized.0, length-drop (suc (count_offset j)) s))

      end : (i : ℕ) → i < most_vectors → (b : Bool) → (T b → i < count_at s j) → (T (not b) → count_at s j ≤ i) → get_or z (count_offset j + suc i) 0
          ≡ get_or (ends_at document_01 s j) i 0
      end i l true f g =
          let m : i < count_at s j = f tt in
          let y : count_offset j + suc i ≡ suc (count_offset j) + i = omega arith in
          t.counts (count_offset j + suc i) (omega arith) (omega arith) ∙ ap (λ k. get_or s k 0) y
          ∙ sym (get_or-take (count_at s j) (ends_from s j) i 0 m ∙ get_or-drop (suc (count_offset j)) s i 0)
      end i l false f g =
          let m : count_at s j ≤ i = g tt in
          t.no_counts (count_offset j + suc i) (omega arith) (omega arith)
          ∙ sym (getD_taken (count_at s j) (ends_from s j) i (omega (arith, sized.0, length-drop (suc (count_offset j)) s)) (λ q. omega arith))

      word : (i : ℕ) → i < counts_length → get_or z (count_offset j + i) 0 ≡ get_or (count_at s j ∷ padded most_vectors (ends_at document_01 s j)) i 0
      word zero l = let y : count_offset j + 0 ≡ count_offset j = omega arith in t.counts (count_offset j + 0) (omega arith) (omega arith)
          ∙ ap (λ k. get_or s k 0) y
      word (suc i) l = end i (omega arith) (ltb i (count_at s j)) (ltb→lt i (count_at s j)) (nltb→le i (count_at s j))
          ∙ sym (getD_padded most_vectors (ends_at document_01 s j) i)

  rows_block : take level_length (drop (rows_offset j) z) ≡ padded level_length (rows_of (joined (level_at document_01 s j)))
  rows_block =
      part_is z (padded level_length (take (used_at s j * row_length) (rows_from s j))) (rows_offset j) level_length (omega arith)
      (length_padded level_length (take (used_at s j * row_length) (rows_from s j)) (omega (arith, n, sized.1))) word
      ∙ sym (ap (padded level_length) (level_rows_back s long j inside w known))
    where
      room : used_at s j * row_length ≤ length (rows_from s j)
      room = omega (arith, sized.1, length-drop (rows_offset j) s)

      n : length (take (used_at s j * row_length) (rows_from s j)) ≡ used_at s j * row_length
      n = length-take-le (used_at s j * row_length) (rows_from s j) room

      term : (i : ℕ) → i < level_length → (b : Bool) → (T b → i < used_at s j * row_length) → (T (not b) → used_at s j * row_length ≤ i)
          → get_or z (rows_offset j + i) 0 ≡ get_or (take (used_at s j * row_length) (rows_from s j)) i 0
      term i l true f g =
          let m : i < used_at s j * row_length = f tt in
          t.terms (rows_offset j + i) (omega arith) (omega arith) ∙ sym
          (get_or-take (used_at s j * row_length) (rows_from s j) i 0 m ∙ get_or-drop (rows_offset j) s i 0)
      term i l false f g =
          let m : used_at s j * row_length ≤ i = g tt in
          t.no_terms (rows_offset j + i) (omega arith) (omega arith) ∙ sym
          (getD_taken (used_at s j * row_length) (rows_from s j) i room (λ q. omega arith))

      word : (i : ℕ) → i < level_length → get_or z (rows_offset j + i) 0
          ≡ get_or (padded level_length (take (used_at s j * row_length) (rows_from s j))) i 0
      word i l = term i l (ltb i (used_at s j * row_length)) (ltb→lt i (used_at s j * row_length)) (nltb→le i (used_at s j * row_length))
          ∙ sym (getD_padded level_length (take (used_at s j * row_length) (rows_from s j)) i)

-- ## All levels, one behind the other

counts_last : (ls : List Level) (f : Level) → all_counts document_01 (ls ++ f ∷ []) ≡ all_counts document_01 ls ++ counts_of document_01 f
counts_last [] f = append-nil (counts_of document_01 f)
counts_last (g ∷ ls) f = ap (λ l. counts_of document_01 g ++ l) (counts_last ls f)
    ∙ sym (append_assoc (counts_of document_01 g) (all_counts document_01 ls) (counts_of document_01 f))

rows_last : (ls : List Level) (f : Level) → all_rows document_01 (ls ++ f ∷ []) ≡ all_rows document_01 ls ++ padded level_length (rows_of (joined f))
rows_last [] f = append-nil (padded level_length (rows_of (joined f)))
rows_last (g ∷ ls) f =
    ap (λ l. padded level_length (rows_of (joined g)) ++ l) (rows_last ls f)
    ∙ sym (append_assoc (padded level_length (rows_of (joined g))) (all_rows document_01 ls) (padded level_length (rows_of (joined f))))

module _ (s z : Words) (long : state_length ≤ length s) (same_long : length z ≡ length s) (known : SixteenBits s) where
  counts_blocks : (h : ℕ) → h ≤ all_levels → T (all_words_sound? document_01 s h) → ((j : ℕ) → j < h → Tidy s z j)
      → take (h * counts_length) (drop header_length z) ≡ all_counts document_01 (reverse (levels_at document_01 s h))
  counts_blocks zero l t f = refl
  counts_blocks (suc h) l t f =
      let y : suc h * counts_length ≡ h * counts_length + counts_length = omega arith in
      ap (λ n. take n (drop header_length z)) y ∙ take-add (h * counts_length) counts_length (drop header_length z)
      ∙ (λ i. counts_blocks h (omega arith) (Rattle.laws.proofs.Tests.and_right (words_sound? document_01 s h)
      (all_words_sound? document_01 s h) t) (λ j m. f j (omega arith)) i
      ++ (ap (take counts_length) (drop-drop (h * counts_length) header_length z)
      ∙ counts_block s z long same_long known h l (all_sound_at s (suc h) t h (omega arith)) (f h (omega arith))) i)
      ∙ sym (ap (all_counts document_01) (reverse-cons (level_at document_01 s h) (levels_at document_01 s h))
      ∙ counts_last (reverse (levels_at document_01 s h)) (level_at document_01 s h))

  rows_blocks : (h : ℕ) → h ≤ all_levels → T (all_words_sound? document_01 s h) → ((j : ℕ) → j < h → Tidy s z j)
      → take (h * level_length) (drop rows_start z) ≡ all_rows document_01 (reverse (levels_at document_01 s h))
  rows_blocks zero l t f = refl
  rows_blocks (suc h) l t f =
      let y : suc h * level_length ≡ h * level_length + level_length = omega arith in
      ap (λ n. take n (drop rows_start z)) y ∙ take-add (h * level_length) level_length (drop rows_start z)
      ∙ (λ i. rows_blocks h (omega arith) (Rattle.laws.proofs.Tests.and_right (words_sound? document_01 s h)
      (all_words_sound? document_01 s h) t) (λ j m. f j (omega arith)) i
      ++ (ap (take level_length) (drop-drop (h * level_length) rows_start z)
      ∙ rows_block s z long same_long known h l (all_sound_at s (suc h) t h (omega arith)) (f h (omega arith))) i)
      ∙ sym (ap (all_rows document_01) (reverse-cons (level_at document_01 s h) (levels_at document_01 s h))
      ∙ rows_last (reverse (levels_at document_01 s h)) (level_at document_01 s h))

all_few : (s : Words) → state_length ≤ length s → (h : ℕ) → T (all_words_sound? document_01 s h) → Few s h
all_few s long h t j l = (words_parts s long j (all_sound_at s h t j l)).0

length_levels : (s : Words) (k : ℕ) → length (levels_at document_01 s k) ≡ k
length_levels s zero = refl
length_levels s (suc k) = ap suc (length_levels s k)

-- ## The whole

module _ (s z : Words) (h : ℕ) (long : state_length ≤ length s) (same_long : length z ≡ length s) (known : SixteenBits s)
    (l : h ≤ all_levels) (e : get_or s 4 0 ≡ h) (components : get_or s 3 0 ≤ most_components) (t : T (all_words_sound? document_01 s h))
    (right : T (carried_right? s h)) (low : LevelsTidy s z h) (high : DegreesTidy s z h) where
  abbrev ls : List Level
  ls = levels_at document_01 s h

  abbrev five : Words
  five = get_or s 0 0 ∷ get_or s 1 0 ∷ get_or s 2 0 ∷ get_or s 3 0 ∷ length (levels_at document_01 s h) ∷ []

  first_five : take header_length z ≡ five
  first_five = part_is z five 0 header_length (omega arith) refl word
    where
      word : (i : ℕ) → i < header_length → get_or z (0 + i) 0 ≡ get_or (get_or s 0 0 ∷ get_or s 1 0 ∷ get_or s 2 0 ∷ get_or s 3 0
          ∷ length (levels_at document_01 s h) ∷ []) i 0
      word zero m = low.front 0 (omega arith) (omega arith)
      word (suc zero) m = low.front 1 (omega arith) (omega arith)
      word (suc (suc zero)) m = low.front 2 (omega arith) (omega arith)
      word (suc (suc (suc zero))) m = low.front 3 (omega arith) (omega arith)
      word (suc (suc (suc (suc zero)))) m = low.front 4 (omega arith) (omega arith) ∙ e ∙ sym (length_levels s h)
      word (suc (suc (suc (suc (suc i))))) m = absurd (omega arith)

  abbrev header : Words
  header = five ++ all_counts document_01 (reverse ls)

  head_is : take (count_offset h) z ≡ header
  head_is = take-add header_length (h * counts_length) z ∙ (λ i. first_five i ++ counts_blocks s z long same_long known h l t low.made i)

  head_long : length header ≡ count_offset h
  head_long = sym (ap length head_is) ∙ length-take-le (count_offset h) z (omega arith)

  low_is : take rows_start z ≡ padded rows_start header
  low_is =
      let y : rows_start ≡ count_offset h + (rows_start - (count_offset h)) = omega arith in
      let n : rows_start - (count_offset h) ≡ rows_start - length header = omega (arith, head_long) in
      ap (λ k. take k z) y ∙ take-add (count_offset h) (rows_start - (count_offset h)) z
      ∙ (λ i. head_is i ++ zeros_are z (count_offset h) (rows_start - (count_offset h)) (omega arith) (λ j a b. low.no_counts j a (omega arith)) i)
      ∙ ap (λ k. header ++ replicate k 0) n

  abbrev tail : Words
  tail = all_rows document_01 (reverse ls)

  tail_long : length tail ≡ h * level_length
  tail_long = sym (ap length (rows_blocks s z long same_long known h l t low.made))
      ∙ length-take-le (h * level_length) (drop rows_start z) (omega (arith, length-drop rows_start z))

  -- all words up to the degrees
  rows_are : take (degrees_start - rows_start) (drop rows_start z) ≡ tail ++ replicate (degrees_start - (rows_offset h)) 0
  rows_are =
      let y : degrees_start - rows_start ≡ h * level_length + (degrees_start - (rows_offset h)) = omega arith in
      ap (λ n. take n (drop rows_start z)) y ∙ take-add (h * level_length) (degrees_start - (rows_offset h)) (drop rows_start z)
      ∙ (λ i. rows_blocks s z long same_long known h l t low.made i ++ (ap (take (degrees_start - (rows_offset h)))
      (drop-drop (h * level_length) rows_start z)
      ∙ zeros_are z (rows_offset h) (degrees_start - (rows_offset h)) (omega arith) (λ j a b. low.no_terms j a (omega arith))) i)

  abbrev levels : Words
  levels = padded rows_start header ++ tail

  levels_long : length (padded rows_start header ++ tail) ≡ rows_offset h
  levels_long =
      length-append (padded rows_start header) tail ∙ omega (arith, length_padded rows_start header (omega (arith, head_long)), tail_long)

  low_all : take degrees_start z ≡ padded degrees_start levels
  low_all =
      let y : degrees_start ≡ rows_start + (degrees_start - rows_start) = omega arith in
      let n : degrees_start - (rows_offset h) ≡ degrees_start - length levels = omega (arith, levels_long) in
      ap (λ k. take k z) y ∙ take-add rows_start (degrees_start - rows_start) z ∙ (λ i. low_is i ++ rows_are i)
      ∙ sym (append_assoc (padded rows_start header) tail (replicate (degrees_start - (rows_offset h)) 0)) ∙ ap (λ k. levels ++ replicate k 0) n

  abbrev degrees : Words
  degrees = padded most_components (degrees_at document_01 s) ++ all_carried document_01 (reverse (carried (degrees_at document_01 s) ls))

  pub settled_encodes : z ≡ encode document_01 (length s) (record { parameters = parameters_at s; levels = levels_at document_01 s h })
  settled_encodes =
      let y = degrees_are s z h long same_long l components (all_few s long h t) right high in
      let n : length s - (carried_offset h) ≡ length s - length (padded degrees_start levels ++ degrees) = omega (
        arith,
        length-append (padded degrees_start levels) degrees,
        length_padded degrees_start levels (omega (arith, levels_long)),
        y.1,
      ) in
      sym (take-append-drop degrees_start z) ∙ (λ i. low_all i ++ y.0 i)
      ∙ sym (append_assoc (padded degrees_start levels) degrees (replicate (length s - (carried_offset h)) 0))
      ∙ ap (λ k. (padded degrees_start levels ++ degrees) ++ replicate k 0) n

-- the counts stay when the levels are settled
pub few_settled : (s m : Words) (h : ℕ) → state_length ≤ length s → h ≤ all_levels → T (all_words_sound? document_01 s h) → LevelsSettled s m h → Few m h
few_settled s m h long l t low j a =
    omega (arith, (low.levels.made j a).counts (count_offset j) (omega arith) (omega arith), all_few s long h t j a)

-- levels settled first, then the degrees
pub settled_by : (s m z : Words) (h : ℕ) → state_length ≤ length s → SixteenBits s → h ≤ all_levels → get_or s 4 0 ≡ h → get_or s 3 0 ≤ most_components
    → T (all_words_sound? document_01 s h) → T (carried_right? s h) → LevelsSettled s m h → DegreesSettled m z h
    → z ≡ encode document_01 (length s) (decode document_01 s)
settled_by s m z h long known l e components t right low high =
    settled_encodes s z h long (high.long ∙ low.long) known l e components t right low_here high_here
    ∙ (λ i. encode document_01 (length s) (record { parameters = parameters_at s; levels = levels_at document_01 s (sym e i) }))
  where
    same_s : get_or m 3 0 ≡ get_or s 3 0
    same_s = low.levels.front 3 (omega arith) (omega arith)

    sized : (j : ℕ) → j < h → Sized s j
    sized j a = sound_sized s long j (omega arith) (all_sound_at s h t j a)

    same_count : (j : ℕ) → j < h → count_at m j ≡ count_at s j
    same_count j a = (low.levels.made j a).counts (count_offset j) (omega arith) (omega arith)

    low_here : LevelsTidy s z h
    low_here = record {
      front = λ i a b. high.front i a (omega arith) ∙ low.levels.front i a b;
      made = λ j n. level j n;
      no_counts = λ i a b. high.front i (omega arith) (omega arith) ∙ low.levels.no_counts i a b;
      no_terms = λ i a b. high.front i (omega arith) b ∙ low.levels.no_terms i a b;
    }
      where
        level : (j : ℕ) → j < h → Tidy s z j
        level j n =
            let o = low.levels.made j n in
            let c = sized j n in
            record {
              counts = λ i a b. high.front i (omega arith) (omega arith) ∙ o.counts i a b;
              no_counts = λ i a b. high.front i (omega arith) (omega arith) ∙ o.no_counts i a b;
              terms = λ i a b. high.front i (omega arith) (omega arith) ∙ o.terms i a b;
              no_terms = λ i a b. high.front i (omega arith) (omega arith) ∙ o.no_terms i a b;
            }

    high_here : DegreesTidy s z h
    high_here = record {
      components = λ i a b. high.degrees.components i a (omega (arith, same_s)) ∙ low.left i a (omega arith);
      no_components = λ i a b. high.degrees.no_components i (omega (arith, same_s)) b;
      made = λ j n. level j n;
      no_carried = λ i a b. high.degrees.no_carried i a (omega (arith, low.long));
    }
      where
        level : (j : ℕ) → j < h → TidyDegrees s z j
        level j n =
            let o = high.degrees.made j n in
            let c = sized j n in
            let d = same_count j n in
            record {
              carried = λ i a b. o.carried i a (omega arith) ∙ low.left i (omega arith) (omega arith);
              no_carried = λ i a b. o.no_carried i (omega arith) b;
            }
