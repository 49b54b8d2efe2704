-- The words of a state whose level 0 is being read: parameters, count, ends and rows in a row, zeros behind the ends and behind the rows.
use mathlib.Core.Path.{◌≡◌, refl, sym, ap, ◌∙◌}
use mathlib.Core.List.{[], ◌∷◌, ◌++◌, append_assoc, append-nil}
use Prim.Native.Nat.{ℕ, suc, ◌+◌, ◌-◌, ◌*◌, ◌<◌, ◌≤◌}
use native.Mathlib.Omega.{arith}
use lib.ListN.{length, take, drop, get_or, set, replicate, length-append, length-drop, length-set, length-replicate, replicate-append-replicate}
use lib.ListN.{take-append-drop}
use lib.Seq.{
  paste,
  take-add,
  take_at,
  take_all,
  take-append-le,
  take-take,
  drop_at,
  drop-drop,
  drop-append-add,
  drop-append-le,
  set-append_left,
  set_split,
  length-take-le,
}
use Rattle.definitions.specs.Limits.{document_01}
use Rattle.definitions.specs.Monomial.{Level}
use Rattle.definitions.specs.Problem.{Parameters}
use Rattle.definitions.specs.Degrees.{degrees_of}
use Rattle.definitions.specs.Layout.{Words, row_of, rows_of, padded, ends_from, joined, header_of, levels_of, all_rows, degree_words}
use Rattle.laws.proofs.RoundTrip.{length_padded}
use Rattle.laws.proofs.Rows.{length_row}
use Rattle.definitions.specs.Places.{most_components, most_vectors, most_rows, row_length, header_length, counts_length, ends_start, rows_start, level_length}
use Rattle.definitions.specs.Places.{degrees_start, carried_start, state_length}
use Rattle.reader.specs.lines.Tests.{term_in}
use Rattle.reader.specs.problem.Reading.{laid, laid_level, degrees_alone, words_read, state_read, stored, begun}

-- ## Zeros

zeros_drop : (k m : ℕ) → drop k (replicate {A = ℕ} (k + m) 0) ≡ replicate m 0
zeros_drop k m = ap (drop k) (sym (replicate-append-replicate k m 0)) ∙ drop_at (replicate k 0) (replicate m 0) k (length-replicate {A = ℕ} k 0)

zeros_meet : (a b c : ℕ) → a + b ≡ c → replicate {A = ℕ} a 0 ++ replicate b 0 ≡ replicate c 0
zeros_meet a b c e = replicate-append-replicate a b 0 ∙ ap (λ n. replicate n 0) e

-- words pasted over as many others
pub paste_over : (s u t w : Words) (n at : ℕ) → length s ≡ at → length u ≡ n → n ≤ length w → paste (s ++ (u ++ t)) at w n ≡ s ++ (take n w ++ t)
paste_over s u t w n at ls lu lw =
    let c : at + n ≡ length s + n = omega arith in
    (λ i. (take_at s (u ++ t) at ls i ++ take n w) ++ (ap (λ k. drop k (s ++ (u ++ t))) c ∙ drop-append-add s (u ++ t) n ∙ drop_at u t n lu) i)
    ∙ append_assoc s (take n w) t

-- .. over the first of the zeros behind a list
pub paste_zeros : (s t w : Words) (m n at : ℕ) → length s ≡ at → n ≤ length w → n ≤ m
    → paste (s ++ (replicate m 0 ++ t)) at w n ≡ s ++ (take n w ++ (replicate (m - n) 0 ++ t))
paste_zeros s t w m n at ls lw h =
    ap (λ l. paste (s ++ l) at w n) (ap (λ l. l ++ t) (sym (zeros_meet n (m - n) m (omega arith))) ∙ append_assoc (replicate n 0) (replicate (m - n) 0) t)
    ∙ paste_over s (replicate n 0) (replicate (m - n) 0 ++ t) w n at ls (length-replicate {A = ℕ} n 0) lw

-- ## A part that is lent

-- the n words from b on, into which m others were pasted
pub paste_part : (s w : Words) (b n a m : ℕ) → b + n ≤ length s → a + m ≤ n → take b s ++ (paste (take n (drop b s)) a w m ++ drop n (drop b s))
    ≡ paste s (b + a) w m
paste_part s w b n a m h l =
    let part : Words = drop b s in
    let z : b + (a + m) ≡ b + a + m = omega arith in
    let t : length (take n part) ≡ n = length-take-le n part (omega (arith, length-drop b s)) in
    let e : drop (a + m) (take n part) ++ drop n part ≡ drop (b + a + m) s =
    sym (drop-append-le (a + m) (take n part) (drop n part) (omega arith)) ∙ ap (drop (a + m)) (take-append-drop n part) ∙ drop-drop (a + m) b s
    ∙ ap (λ j. drop j s) z in
    ap (λ x. take b s ++ x) (append_assoc (take a (take n part) ++ take m w) (drop (a + m) (take n part)) (drop n part)
    ∙ (λ i. (take-take a n part (omega arith) i ++ take m w) ++ e i))
    ∙ sym (append_assoc (take b s) (take a part ++ take m w) (drop (b + a + m) s))
    ∙ ap (λ x. x ++ drop (b + a + m) s) (sym (append_assoc (take b s) (take a part) (take m w)) ∙ ap (λ x. x ++ take m w) (sym (take-add b a s)))

-- ## What stands where

module _ (q : Parameters) (r : ℕ) (ends rows : Words) (room : ℕ) (behind : Words) (most : length ends ≤ most_vectors) (fit : length rows ≤ room) where
  -- what stands in front of the rows
  abbrev front : Words
  front = q.p ∷ q.n ∷ q.code ∷ q.s ∷ 1 ∷ r ∷ (ends ++ replicate (1289 - length ends) 0)

  pub length_front : length front ≡ rows_start
  length_front = omega (arith, length-append ends (replicate (1289 - length ends) 0), length-replicate {A = ℕ} (1289 - length ends) 0)

  front_rows : laid q r ends rows room behind ≡ front ++ (rows ++ (replicate (room - length rows) 0 ++ behind))
  unfolding laid
  front_rows = refl

  pub rows_laid : drop rows_start (laid q r ends rows room behind) ≡ rows ++ (replicate (room - length rows) 0 ++ behind)
  rows_laid = ap (drop rows_start) front_rows ∙ drop_at front (rows ++ (replicate (room - length rows) 0 ++ behind)) rows_start length_front

  pub ends_laid : drop ends_start (laid q r ends rows room behind)
      ≡ (ends ++ replicate (1289 - length ends) 0) ++ (rows ++ (replicate (room - length rows) 0 ++ behind))
  unfolding laid
  ends_laid = refl

  pub count_laid : get_or (laid q r ends rows room behind) header_length 0 ≡ r
  unfolding laid
  count_laid = refl

  pub components_laid : get_or (laid q r ends rows room behind) 3 0 ≡ q.s
  unfolding laid
  components_laid = refl

  -- all that stands in front of what is behind
  abbrev pub whole : Words
  whole = front ++ (rows ++ replicate (room - length rows) 0)

  pub length_whole : length whole ≡ rows_start + room
  length_whole =
      length-append front (rows ++ replicate (room - length rows) 0)
      ∙ omega (arith, length_front, length-append rows (replicate (room - length rows) 0), length-replicate {A = ℕ} (room - length rows) 0)

  pub whole_laid : laid q r ends rows room behind ≡ whole ++ behind
  whole_laid =
      front_rows ∙ ap (λ l. front ++ l) (sym (append_assoc rows (replicate (room - length rows) 0) behind))
      ∙ sym (append_assoc front (rows ++ replicate (room - length rows) 0) behind)

  pub behind_laid : drop (rows_start + room) (laid q r ends rows room behind) ≡ behind
  behind_laid = ap (drop (rows_start + room)) whole_laid ∙ drop_at whole behind (rows_start + room) length_whole

  pub length_laid : length (laid q r ends rows room behind) ≡ rows_start + room + length behind
  length_laid = ap length whole_laid ∙ length-append whole behind ∙ omega (arith, length_whole)

-- ## Changed words

-- the header alone
abbrev headed : Words → Parameters → Words
headed s q = set (set (set (set (set s 0 q.p) 1 q.n) 2 q.code) 3 q.s) 4 1

pub length_headed : (s : Words) (q : Parameters) → length (headed s q) ≡ length s
length_headed s q = simp length-set

begun_room : (q : Parameters) (size room : ℕ) (d : Words) → length d ≡ most_components → rows_start + room + most_components ≤ size
    → paste (headed (replicate size 0) q) (rows_start + room) d most_components
    ≡ laid q 0 [] [] room (d ++ replicate (size - (rows_start + room) - most_components) 0)
unfolding laid
begun_room q size room d l h =
    let m : ℕ = size - (rows_start + room) - most_components in
    let e : size ≡ suc (suc (suc (suc (suc (suc (size - ends_start)))))) = omega arith in
    let a : 1289 + room ≡ rows_start - ends_start + room = omega arith in
    let z : rows_start - ends_start + room + (most_components + m) ≡ size - ends_start = omega arith in
    let all_room : room ≡ room - 0 = omega arith in
    let zeros : Words = replicate (rows_start - ends_start + room) 0 in
    let k : length (q.p ∷ q.n ∷ q.code ∷ q.s ∷ 1 ∷ 0 ∷ zeros)
    ≡ rows_start + room = omega (arith, length-replicate {A = ℕ} (rows_start - ends_start + room) 0) in
    ap (λ n. paste (headed (replicate n 0) q) (rows_start + room) d most_components) e
    ∙ ap (λ l. paste (q.p ∷ q.n ∷ q.code ∷ q.s ∷ 1 ∷ 0 ∷ l) (rows_start + room) d most_components)
    (sym (zeros_meet (rows_start - ends_start + room) (most_components + m) (size - ends_start) z)
    ∙ ap (λ l. zeros ++ l) (sym (replicate-append-replicate most_components m 0)))
    ∙ paste_over (q.p ∷ q.n ∷ q.code ∷ q.s ∷ 1 ∷ 0 ∷ zeros) (replicate most_components 0) (replicate m 0) d most_components (rows_start + room) k
    (length-replicate {A = ℕ} most_components 0) (omega arith)
    ∙ ap (λ l. q.p ∷ q.n ∷ q.code ∷ q.s ∷ 1 ∷ 0 ∷ (zeros ++ (l ++ replicate m 0))) (take_all most_components d (omega arith))
    ∙ ap (λ l. q.p ∷ q.n ∷ q.code ∷ q.s ∷ 1 ∷ 0 ∷ (l ++ (d ++ replicate m 0))) (sym (zeros_meet 1289 room (rows_start - ends_start + room) a))
    ∙ ap (λ l. q.p ∷ q.n ∷ q.code ∷ q.s ∷ 1 ∷ 0 ∷ l) (append_assoc (replicate 1289 0) (replicate room 0) (d ++ replicate m 0)
    ∙ ap (λ n. replicate 1289 0 ++ (replicate n 0 ++ (d ++ replicate m 0))) all_room)

-- no element yet
pub laid_begun : (q : Parameters) (size : ℕ) (d : Words) → state_length ≤ size → length d ≡ most_components
    → begun (replicate size 0) q d ≡ laid_level q [] (degrees_alone size d)
laid_begun q size d h l =
    let e : size - degrees_start - most_components ≡ size - carried_start = omega arith in
    begun_room q size (degrees_start - rows_start) d l (omega arith)
    ∙ ap (λ n. laid q 0 [] [] (degrees_start - rows_start) (d ++ replicate n 0)) e

module _ (q : Parameters) (behind : Words) (room r : ℕ) (ends rows : Words) (most : length ends ≤ most_vectors) where
  -- a row more
  pub laid_row : (w : Words) (at : ℕ) → length w ≡ row_length → at ≡ rows_start + length rows → length rows + row_length ≤ room
      → paste (laid q r ends rows room behind) at w row_length ≡ laid q r ends (rows ++ w) room behind
  unfolding laid
  laid_row w at lw e h =
      let f : length rows ≤ room = omega arith in
      let n : room - length rows - row_length ≡ room - length (rows ++ w) = omega (arith, length-append rows w) in
      let ls : length (front q r ends rows room behind most f ++ rows) ≡ at = length-append (front q r ends rows room behind most f) rows
      ∙ omega (arith, length_front q r ends rows room behind most f) in
      ap (λ s. paste s at w row_length)
      (sym (append_assoc (front q r ends rows room behind most f) rows (replicate (room - length rows) 0 ++ behind)))
      ∙ paste_zeros (front q r ends rows room behind most f ++ rows) behind w (room - length rows) row_length at ls (omega arith) (omega arith)
      ∙ append_assoc (front q r ends rows room behind most f) rows (take row_length w ++ (replicate (room - length rows - row_length) 0 ++ behind))
      ∙ ap (λ l. front q r ends rows room behind most f ++ l)
      (ap (λ l. rows ++ (l ++ (replicate (room - length rows - row_length) 0 ++ behind))) (take_all row_length w (omega arith))
      ∙ sym (append_assoc rows w (replicate (room - length rows - row_length) 0 ++ behind))
      ∙ ap (λ k. (rows ++ w) ++ (replicate k 0 ++ behind)) n)

  -- the end of the last element, or of a new one
  pub laid_end : (e x : ℕ) → 1 ≤ e → e - 1 ≤ length ends → length ends ≤ e → e ≤ most_vectors
      → set (laid q r ends rows room behind) (header_length + e) x ≡ laid q r (take (e - 1) ends ++ x ∷ []) rows room behind
  unfolding laid
  laid_end e x one low high few =
      let c : header_length + e ≡ suc (suc (suc (suc (suc (suc (e - 1)))))) = omega arith in
      ap (λ k. set (laid q r ends rows room behind) k x) c
      ∙ ap (λ l. q.p ∷ q.n ∷ q.code ∷ q.s ∷ 1 ∷ r ∷ l)
      (set-append_left (ends ++ zeros) later (e - 1) x (omega (arith, length-append ends zeros, length-replicate {A = ℕ} (1289 - length ends) 0))
      ∙ ap (λ l. l ++ later) (split ∙ (λ i. take (e - 1) ends ++ x ∷ zeros_left i)
      ∙ sym (append_assoc (take (e - 1) ends) (x ∷ []) (replicate (1289 - length (take (e - 1) ends ++ x ∷ [])) 0))))
    where
      zeros : Words
      zeros = replicate (1289 - length ends) 0

      later : Words
      later = rows ++ (replicate (room - length rows) 0 ++ behind)

      kept : length (take (e - 1) ends) ≡ e - 1
      kept = length-take-le (e - 1) ends low

      count : length (take (e - 1) ends ++ x ∷ []) ≡ e
      count = length-append (take (e - 1) ends) (x ∷ []) ∙ omega (arith, kept)

      -- what stands behind place e − 1
      split : set (ends ++ zeros) (e - 1) x ≡ take (e - 1) ends ++ x ∷ drop (suc (e - 1)) (ends ++ zeros)
      split =
          set_split (ends ++ zeros) (e - 1) x (omega (arith, length-append ends zeros, length-replicate {A = ℕ} (1289 - length ends) 0))
          ∙ ap (λ l. l ++ x ∷ drop (suc (e - 1)) (ends ++ zeros)) (take-append-le (e - 1) ends zeros low)

      zeros_left : drop (suc (e - 1)) (ends ++ zeros) ≡ replicate (1289 - length (take (e - 1) ends ++ x ∷ [])) 0
      zeros_left =
          let d : suc (e - 1) ≡ length ends + (e - length ends) = omega arith in
          let s : 1289 - length ends ≡ (e - length ends) + (1289 - e) = omega arith in
          ap (λ k. drop k (ends ++ zeros)) d ∙ drop-append-add ends zeros (e - length ends) ∙ ap (λ k. drop (e - length ends) (replicate k 0)) s
          ∙ zeros_drop (e - length ends) (1289 - e) ∙ ap (λ k. replicate (1289 - k) 0) (sym count)

  -- how many elements
  pub laid_count : (e : ℕ) → set (laid q r ends rows room behind) header_length e ≡ laid q e ends rows room behind
  unfolding laid
  laid_count e = refl

-- a term stored: a row more, the end of its element, the count of elements
pub laid_stored : (q : Parameters) (behind : Words) (room r : ℕ) (ends rows : Words) (count : ℕ) (w : Words) → level_length ≤ room
    → length ends ≤ most_vectors → length rows ≡ count * row_length → count < most_rows
    → 1 ≤ get_or w 0 0 → get_or w 0 0 - 1 ≤ length ends → length ends ≤ get_or w 0 0 → get_or w 0 0 ≤ most_vectors
    → stored (laid q r ends rows room behind) count w
    ≡ laid q (get_or w 0 0) (take (get_or w 0 0 - 1) ends ++ (count + 1) ∷ []) (rows ++ row_of (term_in w)) room behind
laid_stored q behind room r ends rows count w h most lr few one low high up =
    let kept : length (take (get_or w 0 0 - 1) ends) ≡ get_or w 0 0 - 1 = length-take-le (get_or w 0 0 - 1) ends low in
    let l : length (take (get_or w 0 0 - 1) ends ++ (count + 1) ∷ []) ≤ most_vectors =
    omega (arith, length-append (take (get_or w 0 0 - 1) ends) ((count + 1) ∷ [])) in
    ap (λ s. set (set s (header_length + get_or w 0 0) (count + 1)) header_length (get_or w 0 0))
    (laid_row q behind room r ends rows most (row_of (term_in w)) (rows_start + count * row_length) (length_row (term_in w)) (omega arith) (omega arith))
    ∙ ap (λ s. set s header_length (get_or w 0 0))
    (laid_end q behind room r ends (rows ++ row_of (term_in w)) most (get_or w 0 0) (count + 1) one low high up)
    ∙ laid_count q behind room r (take (get_or w 0 0 - 1) ends ++ (count + 1) ∷ []) (rows ++ row_of (term_in w)) l (get_or w 0 0)

-- ## The definitions' words

-- zeros that meet are one list of zeros
flat : (ends rows w ds : Words) (a b c d e g m n k : ℕ) → a + b ≡ m → c + d ≡ n → e + g ≡ k
    → ((((((ends ++ replicate a 0) ++ []) ++ replicate b 0) ++ ((rows ++ replicate c 0) ++ [])) ++ replicate d 0) ++ (w ++ ((ds ++ replicate e 0) ++ [])))
    ++ replicate g 0
    ≡ (ends ++ replicate m 0) ++ (rows ++ (replicate n 0 ++ (w ++ (ds ++ replicate k 0))))
flat ends rows w ds a b c d e g m n k x y z =
    (λ i. ((((append-nil (ends ++ replicate a 0) i ++ replicate b 0) ++ append-nil (rows ++ replicate c 0) i) ++ replicate d 0)
    ++ (w ++ append-nil (ds ++ replicate e 0) i)) ++ replicate g 0)
    ∙ append_assoc ((((ends ++ replicate a 0) ++ replicate b 0) ++ (rows ++ replicate c 0)) ++ replicate d 0) (w ++ (ds ++ replicate e 0)) (replicate g 0)
    ∙ (λ i. (append_assoc ((ends ++ replicate a 0) ++ replicate b 0) (rows ++ replicate c 0) (replicate d 0)
    ∙ (λ j. (append_assoc ends (replicate a 0) (replicate b 0) ∙ ap (λ l. ends ++ l) (zeros_meet a b m x)) j
    ++ (append_assoc rows (replicate c 0) (replicate d 0) ∙ ap (λ l. rows ++ l) (zeros_meet c d n y)) j)) i
    ++ (append_assoc w (ds ++ replicate e 0) (replicate g 0)
    ∙ ap (λ l. w ++ l) (append_assoc ds (replicate e 0) (replicate g 0) ∙ ap (λ l. ds ++ l) (zeros_meet e g k z))) i)
    ∙ append_assoc (ends ++ replicate m 0) (rows ++ replicate n 0) (w ++ (ds ++ replicate k 0))
    ∙ ap (λ l. (ends ++ replicate m 0) ++ l) (append_assoc rows (replicate n 0) (w ++ (ds ++ replicate k 0)))

-- what a read file leaves, with the degrees that its elements carry behind those of the components
pub read_laid : (q : Parameters) (f : Level) (size : ℕ) → state_length ≤ size → length (ends_from 0 f) ≤ most_vectors
    → length (rows_of (joined f)) ≤ level_length → length q.degrees ≤ most_components → length (degrees_of q.degrees [] f) ≤ most_vectors
    → words_read size (q, f)
    ≡ laid_level q f (padded most_components q.degrees
    ++ (degrees_of q.degrees [] f ++ replicate (size - carried_start - length (degrees_of q.degrees [] f)) 0))
unfolding laid
read_laid q f size h le lr lq lc =
    ap (λ l. q.p ∷ q.n ∷ q.code ∷ q.s ∷ 1 ∷ length f ∷ l)
    (flat ends rows (padded most_components q.degrees) ds (most_vectors - length ends) (rows_start - length header) (level_length - length rows)
    (degrees_start - length levels) (most_vectors - length ds) (size - length all) (1289 - length ends) (degrees_start - rows_start - length rows)
    (size - carried_start - length ds) (omega (arith, header_long)) (omega (arith, levels_long)) (omega (arith, all_long)))
  where
    ends : Words
    ends = ends_from 0 f

    rows : Words
    rows = rows_of (joined f)

    ds : Words
    ds = degrees_of q.degrees [] f

    header : Words
    header = header_of document_01 (state_read (q, f))

    levels : Words
    levels = levels_of document_01 (state_read (q, f))

    all : Words
    all = padded degrees_start levels ++ degree_words document_01 (state_read (q, f))

    header_long : length header ≡ header_length + counts_length
    header_long =
        let n : length ((ends ++ replicate (most_vectors - length ends) 0) ++ [])
        ≡ most_vectors = ap length (append-nil (ends ++ replicate (most_vectors - length ends) 0)) ∙ length_padded most_vectors ends le in
        omega arith

    levels_long : length levels ≡ rows_start + level_length
    levels_long =
        let n : length ((rows ++ replicate (level_length - length rows) 0) ++ [])
        ≡ level_length = ap length (append-nil (rows ++ replicate (level_length - length rows) 0)) ∙ length_padded level_length rows lr in
        length-append (padded rows_start header) (all_rows document_01 (f ∷ []))
        ∙ omega (arith, length_padded rows_start header (omega (arith, header_long)))

    all_long : length all ≡ carried_start + most_vectors
    all_long =
        let n : length ((ds ++ replicate (most_vectors - length ds) 0) ++ [])
        ≡ most_vectors = ap length (append-nil (ds ++ replicate (most_vectors - length ds) 0)) ∙ length_padded most_vectors ds lc in
        length-append (padded degrees_start levels) (degree_words document_01 (state_read (q, f)))
        ∙ omega (
          arith,
          length_padded degrees_start levels (omega (arith, levels_long)),
          length-append (padded most_components q.degrees) ((ds ++ replicate (most_vectors - length ds) 0) ++ []),
          length_padded most_components q.degrees lq,
        )
