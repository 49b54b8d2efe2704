-- A level's vectors as its words spell them: rows, ends.
use mathlib.Core.Path.{◌≡◌, refl, sym, ap, ◌∙◌, subst}
use mathlib.Core.List.{[], ◌∷◌, ◌++◌, append-nil}
use Prim.Native.Nat.{ℕ, zero, suc, ◌+◌, ◌-◌, ◌*◌, ◌<◌, ◌≤◌}
use native.Mathlib.Nat.{le_of_suc-le-suc}
use native.Mathlib.Omega.{arith}
use lib.Dec.{T, leb, ltb, ltb→lt, leb→le}
use lib.ListN.{length, take, drop, get_or, length-drop}
use lib.Seq.{take-add, drop-drop, ext_get_or, get_or-take, get_or-drop, length-take-le}
use Rattle.definitions.specs.Limits.{document_01}
use Rattle.definitions.specs.Lists.{◌and◌}
use Rattle.definitions.specs.Packed.{unpack, pack}
use Rattle.definitions.specs.Layout as layout
use Rattle.definitions.specs.Layout.{Words, words_of, long_at, row_at, rows, row_of, rows_of, joined, vectors_at, ends_at, level_at, ascending?}
use Rattle.definitions.specs.Layout.{words_sound?, all_words_sound?}
use Rattle.laws.proofs.Tests.{and_left, and_right}
use Rattle.laws.proofs.Packing.{pack_unpack, words_of_four, four_below}
use Rattle.laws.proofs.Rows.{row_is, length_rows, rows_of_append}
use Rattle.definitions.specs.Places.{most_vectors, most_rows, all_levels, row_length, component_offset, exponents_offset, level_length, state_length}
use Rattle.definitions.specs.Places.{count_offset, rows_offset}
use Rattle.words.specs.Slices.{SixteenBits}
use Rattle.reducers.specs.tables.Cuts.{start_of}
use Rattle.reducers.proofs.tables.Cutting.{begin_from}
use Rattle.state.specs.soundness.Places.{count_at, rows_from, ends_from}
use Rattle.state.proofs.soundness.VectorTests.{end_of, ascends_past, ascends_within}
use Rattle.state.proofs.soundness.StateTests.{words_parts}
use Rattle.state.specs.writing.Zeroed.{used_at, TidiedTo}
use Rattle.state.proofs.writing.Blocks.{Sized, used_same}

-- ## Rows

module _ (s : Words) (i : ℕ) where
  abbrev at : ℕ
  at = i * row_length + exponents_offset

  -- the row's own words
  abbrev own : Words
  own = get_or s (i * row_length) 0 ∷ get_or s (i * row_length + component_offset) 0 ∷ get_or s at 0 ∷ get_or s (at + 1) 0 ∷ get_or s (at + 2) 0
      ∷ get_or s (at + 3) 0 ∷ []

  own_words : i * row_length + row_length ≤ length s → own ≡ take row_length (drop (i * row_length) s)
  own_words h = ext_get_or 0 own (take row_length (drop (i * row_length) s)) (sym long) same
    where
      long : length (take row_length (drop (i * row_length) s)) ≡ row_length
      long = length-take-le row_length (drop (i * row_length) s) (omega (arith, length-drop (i * row_length) s))

      word : (n j : ℕ) → n ≡ i * row_length + j → j < row_length → get_or s n 0 ≡ get_or (take row_length (drop (i * row_length) s)) j 0
      word n j e l = ap (λ k. get_or s k 0) e ∙ sym (get_or-take row_length (drop (i * row_length) s) j 0 l ∙ get_or-drop (i * row_length) s j 0)

      same : (j : ℕ) → j < row_length → get_or own j 0 ≡ get_or (take row_length (drop (i * row_length) s)) j 0
      same zero l = word (i * row_length) 0 (omega arith) l
      same (suc zero) l = word (i * row_length + component_offset) 1 (omega arith) l
      same (suc (suc zero)) l = word at 2 (omega arith) l
      same (suc (suc (suc zero))) l = word (at + 1) 3 (omega arith) l
      same (suc (suc (suc (suc zero)))) l = word (at + 2) 4 (omega arith) l
      same (suc (suc (suc (suc (suc zero))))) l = word (at + 3) 5 (omega arith) l
      same (suc (suc (suc (suc (suc (suc j)))))) l = absurd (omega arith)

  -- its exponents' number, unpacked and packed again, has the four words that it had
  number : SixteenBits s → words_of (pack (unpack (long_at s at))) ≡ get_or s at 0 ∷ get_or s (at + 1) 0 ∷ get_or s (at + 2) 0 ∷ get_or s (at + 3) 0 ∷ []
  number f =
      let a = get_or s (at + 3) 0 in
      let b = get_or s (at + 2) 0 in
      let c = get_or s (at + 1) 0 in
      let d = get_or s at 0 in
      ap words_of (pack_unpack (long_at s at) (four_below a b c d (f (at + 3)) (f (at + 2)) (f (at + 1)) (f at)))
      ∙ words_of_four a b c d (f (at + 3)) (f (at + 2)) (f (at + 1)) (f at)

  -- so the row spells its own words
  row_spelled_back : i * row_length + row_length ≤ length s → SixteenBits s → row_of (row_at s i) ≡ take row_length (drop (i * row_length) s)
  row_spelled_back h f = ap row_of (row_is s i)
      ∙ (λ x. get_or s (i * row_length) 0 ∷ get_or s (i * row_length + component_offset) 0 ∷ number f x) ∙ own_words h

pub rows_back : (s : Words) (a n : ℕ) → (a + n) * row_length ≤ length s → SixteenBits s → rows_of (rows s a n)
    ≡ take (n * row_length) (drop (a * row_length) s)
unfolding rows
rows_back s a zero h f = refl
rows_back s a (suc n) h f =
    let z : n * row_length + row_length ≡ suc n * row_length = omega arith in
    let y : a * row_length + n * row_length ≡ (a + n) * row_length = omega arith in
    rows_of_append (rows s a n) (row_at s (a + n) ∷ [])
    ∙ (λ i. rows_back s a n (omega arith) f i
    ++ (append-nil (row_of (row_at s (a + n))) ∙ row_spelled_back s (a + n) (omega arith) f
    ∙ ap (λ j. take row_length (drop j s)) (sym y) ∙ ap (take row_length) (sym (drop-drop (n * row_length) (a * row_length) s))) i)
    ∙ sym (take-add (n * row_length) row_length (drop (a * row_length) s)) ∙ ap (λ j. take j (drop (a * row_length) s)) z

-- a part of a slice
pub sixteen_from : (s : Words) (a : ℕ) → SixteenBits s → SixteenBits (drop a s)
sixteen_from s a f i = subst (λ n. n < 65536) (sym (get_or-drop a s i 0)) (f (a + i))

-- ## Vectors

module _ (s : Words) (long : level_length ≤ length s) (f : SixteenBits s) where
  pub vectors_back : (a : ℕ) (es : Words) → T (ascending? most_rows a es) → a ≤ most_rows → rows_of (joined (vectors_at s a es))
      ≡ take ((end_of a es - a) * row_length) (drop (a * row_length) s)
  vectors_back a [] t h = let z : 0 ≡ (a - a) * row_length = omega arith in ap (λ j. take j (drop (a * row_length) s)) z
  vectors_back a (e ∷ es) t h =
      let u = and_right (ltb a e) (leb e most_rows and ascending? most_rows e es) t in
      let w = and_right (leb e most_rows) (ascending? most_rows e es) u in
      let l : a < e = ltb→lt a e (and_left (ltb a e) (leb e most_rows and ascending? most_rows e es) t) in
      let m : e ≤ most_rows = leb→le e most_rows (and_left (leb e most_rows) (ascending? most_rows e es) u) in
      let p : e ≤ end_of e es = ascends_past most_rows e es w in
      let z : (e - a) * row_length + (end_of e es - e) * row_length ≡ (end_of e es - a) * row_length = omega arith in
      let y : a * row_length + (e - a) * row_length ≡ e * row_length = omega arith in
      rows_of_append (rows s a (e - a)) (joined (vectors_at s e es))
      ∙ (λ i. rows_back s a (e - a) (omega arith) f i
      ++ (vectors_back e es w m ∙ ap (λ j. take ((end_of e es - e) * row_length) (drop j s)) (sym y)
      ∙ ap (take ((end_of e es - e) * row_length)) (sym (drop-drop ((e - a) * row_length) (a * row_length) s))) i)
      ∙ sym (take-add ((e - a) * row_length) ((end_of e es - e) * row_length) (drop (a * row_length) s)) ∙ ap (λ j. take j (drop (a * row_length) s)) z

-- the ends are read back
pub ends_back : (s : Words) (a : ℕ) (es : Words) → T (ascending? most_rows a es) → layout.ends_from a (vectors_at s a es) ≡ es
ends_back s a [] t = refl
ends_back s a (e ∷ es) t =
    let l : a < e = ltb→lt a e (and_left (ltb a e) (leb e most_rows and ascending? most_rows e es) t) in
    let z : a + length (rows s a (e - a)) ≡ e = omega (arith, length_rows s a (e - a)) in
    (λ i. z i ∷ layout.ends_from (z i) (vectors_at s e es)) ∙ ap (λ l. e ∷ l)
    (ends_back s e es (and_right (leb e most_rows) (ascending? most_rows e es)
    (and_right (ltb a e) (leb e most_rows and ascending? most_rows e es) t)))

-- ## The last end

end_begin : (a : ℕ) (es : Words) (r : ℕ) → r ≤ length es → end_of a (take r es) ≡ begin_from a es r
end_begin a es zero h = refl
end_begin a [] (suc r) h = absurd (omega arith)
end_begin a (e ∷ es) (suc zero) h = refl
end_begin a (e ∷ es) (suc (suc r)) h = end_begin e es (suc r) (le_of_suc-le-suc h)

pub end_is_start : (ends : Words) (r : ℕ) → r ≤ length ends → end_of 0 (take r ends) ≡ start_of ends r
end_is_start ends zero h = refl
end_is_start ends (suc r) h = end_begin 0 ends (suc r) h

-- ## A level of sound words

module _ (s : Words) (long : state_length ≤ length s) (k : ℕ) (inside : k < all_levels) (t : T (words_sound? document_01 s k)) where
  p : (count_at s k ≤ most_vectors) × T (ascending? most_rows 0 (ends_at document_01 s k))
  p = words_parts s long k t

  pub used_is : end_of 0 (ends_at document_01 s k) ≡ used_at s k
  used_is = end_is_start (ends_from s k) (count_at s k) (omega (arith, p.0, length-drop (suc (count_offset k)) s))

  pub sound_sized : Sized s k
  sound_sized = (p.0, omega (arith, used_is, ascends_within most_rows 0 (ends_at document_01 s k) (omega arith) p.1))

  pub level_ends : layout.ends_from 0 (level_at document_01 s k) ≡ ends_at document_01 s k
  level_ends = ends_back (rows_from s k) 0 (ends_at document_01 s k) p.1

  pub level_rows_back : SixteenBits s → rows_of (joined (level_at document_01 s k)) ≡ take (used_at s k * row_length) (rows_from s k)
  level_rows_back f =
      let z : (end_of 0 (ends_at document_01 s k) - 0) * row_length ≡ used_at s k * row_length = omega (arith, used_is) in
      vectors_back (rows_from s k) (omega (arith, length-drop (rows_offset k) s)) (sixteen_from s (rows_offset k) f) 0 (ends_at document_01 s k) p.1
      (omega arith)
      ∙ ap (λ j. take j (rows_from s k)) z

-- each of the levels below
pub all_sound_at : (s : Words) (h : ℕ) → T (all_words_sound? document_01 s h) → (k : ℕ) → k < h → T (words_sound? document_01 s k)
all_sound_at s zero t k l = absurd (omega arith)
all_sound_at s (suc h) t k l = go (native.Mathlib.Decide.ℕ_discrete k h)
    (all_sound_at s h (and_right (words_sound? document_01 s h) (all_words_sound? document_01 s h) t) k)
  where
    go : Dec (k ≡ h) → (k < h → T (words_sound? document_01 s k)) → T (words_sound? document_01 s k)
    go (yes e) r = subst (λ j. T (words_sound? document_01 s j)) (sym e) (and_left (words_sound? document_01 s h) (all_words_sound? document_01 s h) t)
    go (no e) r = r (omega arith)

pub all_sized : (s : Words) → state_length ≤ length s → (h : ℕ) → h ≤ all_levels → T (all_words_sound? document_01 s h) → (k : ℕ) → k < h → Sized s k
all_sized s long h l t k m = sound_sized s long k (omega arith) (all_sound_at s h t k m)

-- .. also where the levels below it have been tidied
pub sized_at : (s z : Words) → state_length ≤ length s → (h : ℕ) → h ≤ all_levels → T (all_words_sound? document_01 s h) → (k : ℕ) → k < h
    → TidiedTo s z k → Sized z k
sized_at s z long h l t k m d =
    let c = all_sized s long h l t k m in
    let e : count_at z k ≡ count_at s k = d.counts_left (count_offset k) (omega arith) (omega arith) in
    (omega arith, omega (arith, used_same s z k e (λ i a b. d.counts_left i a (omega arith))))
