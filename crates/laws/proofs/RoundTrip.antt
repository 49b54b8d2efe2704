-- What a call writes into the state's buffer is what the next call reads: `meant (encode X)` is X for every sound X.
use mathlib.Core.Path.{◌≡◌, refl, sym, ap, ◌∙◌, subst}
use mathlib.Core.Bool.{Bool, true, false}
use mathlib.Core.List.{List, [], ◌∷◌, ◌++◌, append_assoc, append-nil, reverse, reverse-cons}
use Prim.Native.Nat.{ℕ, suc, ◌+◌, ◌-◌, ◌*◌, ◌≤◌}
use native.Mathlib.Omega.{arith}
use native.Mathlib.Nat.{mul-le-mul_right}
use lib.Dec.{T, leb, ltb, eqb, leb→le, le→leb, lt→ltb, eqb→eq, eqb_refl}
use lib.ListN.{length, take, drop, get_or, replicate, length-append, length-replicate}
use lib.Seq.{take_at, drop-drop, get_or-drop, drop-append_seam}
use Rattle.definitions.specs.Limits.{Limits}
use Rattle.definitions.specs.Lists.{◌and◌, every, between}
use Rattle.definitions.specs.Monomial.{Exponents, Vector, Level, fits?, same_exponents?}
use Rattle.definitions.specs.Problem.{Parameters}
use Rattle.definitions.specs.State.{State, empty, sound?, levels_sound?, vector_sound?, term_sound?, terms_of}
use Rattle.definitions.specs.Degrees.{degrees_of, carried}
use Rattle.definitions.specs.Layout.{
  Words,
  rows,
  rows_of,
  padded,
  level_vectors,
  level_rows,
  count_place,
  rows_place,
  degrees_place,
  carried_place,
  state_words,
  ends_from,
  counts_of,
  joined,
  all_counts,
  all_rows,
  header_of,
  levels_of,
  all_carried,
  degree_words,
  encode,
  vectors_at,
  ends_at,
  level_at,
  levels_at,
  decode,
  ascending?,
  words_sound?,
  all_words_sound?,
  carries?,
  holds_state?,
  meant,
}
use Rattle.laws.proofs.Tests.{and_left, and_right, and_both, between_high}
use Rattle.laws.proofs.Rows.{Eights, no_terms, one_more, length_rows_of, rows_of_append, drop_behind, rows_spelled}
use Rattle.laws.proofs.Sound.{term_says, vector_says, basis_says, level_says, sound_says}
use Rattle.definitions.specs.Places.{most_exponent, most_degree, row_length, header_length}

-- ## What soundness says of a level's size and exponents

-- vectors that are not empty, with eight exponents in range in each term
pub data Filled : Level → Type 0 where
  no_vectors : Filled []
  one_vector : {v : Vector} {f : Level} → 1 ≤ length v → Eights v → Filled f → Filled (v ∷ f)

-- a level that its places can hold
pub record Housed (lim : Limits) (f : Level) : Type 0 where
  pub few : length f ≤ level_vectors lim
  pub short : terms_of f ≤ level_rows lim
  pub filled : Filled f

pub data AllHoused (lim : Limits) : List Level → Type 0 where
  no_level : AllHoused lim []
  one_level : (f : Level) (below : List Level) → Housed lim f → AllHoused lim below → AllHoused lim (f ∷ below)

fits_more : (n : ℕ) (e : Exponents) → n ≤ 255 → T (fits? n e) → T (fits? most_exponent e)
fits_more n [] h t = tt
fits_more n (x ∷ e) h t =
    and_both (leb x most_exponent) (fits? most_exponent e)
    (le→leb x most_exponent (let l : x ≤ n = leb→le x n (and_left (leb x n) (fits? n e) t) in omega arith))
    (fits_more n e h (and_right (leb x n) (fits? n e) t))

module _ (lim : Limits) (q : Parameters) (small : lim.exponent ≤ most_exponent) where
  pub eights : (c : ℕ) (v : Vector) → T (every (term_sound? lim q c) v) → Eights v
  eights c [] h = no_terms
  eights c (t ∷ v) h =
      let s = term_says lim q c t (and_left (term_sound? lim q c t) (every (term_sound? lim q c) v) h) in
      one_more (record { eight = s.eight; small = fits_more lim.exponent t.1.0 small s.fits })
      (eights c v (and_right (term_sound? lim q c t) (every (term_sound? lim q c) v) h))

  filled : (c most : ℕ) (below : List Level) (f : Level) → T (every (vector_sound? lim q c most below) f) → Filled f
  filled c most below [] h = no_vectors
  filled c most below (v ∷ f) h =
      let s = vector_says lim q c most below v (and_left (vector_sound? lim q c most below v) (every (vector_sound? lim q c most below) f) h) in
      one_vector s.filled (eights c v s.terms) (filled c most below f
      (and_right (vector_sound? lim q c most below v) (every (vector_sound? lim q c most below) f) h))

  pub all_housed : (ls : List Level) → T (levels_sound? lim q ls) → AllHoused lim ls
  all_housed [] h = no_level
  all_housed (f ∷ []) h =
      let s = basis_says lim q f h in
      one_level f [] (record { few = omega arith; short = omega arith; filled = filled q.s lim.t_lines [] f s.vectors }) no_level
  all_housed (f ∷ g ∷ below) h =
      let s = level_says lim q f g below h in
      one_level f (g ∷ below) (record { few = omega arith; short = omega arith; filled = filled (length g) lim.vector (g ∷ below) f s.vectors })
      (all_housed (g ∷ below) s.under)

-- ## Lengths

pub length_padded : (n : ℕ) (s : Words) → length s ≤ n → length (padded n s) ≡ n
length_padded n s h = length-append s (replicate (n - length s) 0) ∙ omega (arith, length-replicate {A = ℕ} (n - length s) 0)

length_ends : (a : ℕ) (f : Level) → length (ends_from a f) ≡ length f
length_ends a [] = refl
length_ends a (v ∷ f) = ap suc (length_ends (a + length v) f)

pub length_joined : (f : Level) → length (joined f) ≡ terms_of f
length_joined [] = refl
length_joined (v ∷ f) = length-append v (joined f) ∙ ap (λ n. length v + n) (length_joined f)

length_counts : (lim : Limits) (f : Level) → length f ≤ level_vectors lim → length (counts_of lim f) ≡ suc (level_vectors lim)
length_counts lim f h = ap suc (length_padded (level_vectors lim) (ends_from 0 f) (omega (arith, length_ends 0 f)))

length_level_rows : (lim : Limits) (f : Level) → Housed lim f → length (padded (level_rows lim * row_length) (rows_of (joined f)))
    ≡ level_rows lim * row_length
length_level_rows lim f h =
    length_padded (level_rows lim * row_length) (rows_of (joined f)) (omega
    (arith, length_rows_of (joined f), length_joined f, h.short))

-- ## A level among others

-- the levels below come first, then this one
counts_last : (lim : Limits) (ls : List Level) (f : Level) → all_counts lim (ls ++ f ∷ []) ≡ all_counts lim ls ++ counts_of lim f
counts_last lim [] f = append-nil (counts_of lim f)
counts_last lim (g ∷ ls) f = ap (λ l. counts_of lim g ++ l) (counts_last lim ls f)
    ∙ sym (append_assoc (counts_of lim g) (all_counts lim ls) (counts_of lim f))

rows_last : (lim : Limits) (ls : List Level) (f : Level) → all_rows lim (ls ++ f ∷ []) ≡ all_rows lim ls
    ++ padded (level_rows lim * row_length) (rows_of (joined f))
rows_last lim [] f = append-nil (padded (level_rows lim * row_length) (rows_of (joined f)))
rows_last lim (g ∷ ls) f =
    ap (λ l. padded (level_rows lim * row_length) (rows_of (joined g)) ++ l) (rows_last lim ls f)
    ∙ sym (append_assoc (padded (level_rows lim * row_length) (rows_of (joined g))) (all_rows lim ls)
    (padded (level_rows lim * row_length) (rows_of (joined f))))

length_all_counts : (lim : Limits) (ls : List Level) → AllHoused lim ls → length (all_counts lim (reverse ls)) ≡ length ls * suc (level_vectors lim)
length_all_counts lim ls no_level = omega arith
length_all_counts lim ls (one_level f below h hs) =
    ap (λ l. length (all_counts lim l)) (reverse-cons f below) ∙ ap length (counts_last lim (reverse below) f)
    ∙ length-append (all_counts lim (reverse below)) (counts_of lim f) ∙ omega (arith, length_all_counts lim below hs, length_counts lim f h.few)

length_all_rows : (lim : Limits) (ls : List Level) → AllHoused lim ls → length (all_rows lim (reverse ls)) ≡ length ls * (level_rows lim * row_length)
length_all_rows lim ls no_level = omega arith
length_all_rows lim ls (one_level f below h hs) =
    ap (λ l. length (all_rows lim l)) (reverse-cons f below) ∙ ap length (rows_last lim (reverse below) f)
    ∙ length-append (all_rows lim (reverse below)) (padded (level_rows lim * row_length) (rows_of (joined f)))
    ∙ omega (arith, length_all_rows lim below hs, length_level_rows lim f h)

-- ## A level read from its words

pub vectors_spelled : (s : Words) (a : ℕ) (f : Level) (z : Words) → Filled f → drop (a * row_length) s ≡ rows_of (joined f) ++ z
    → vectors_at s a (ends_from a f) ≡ f
vectors_spelled s a f z no_vectors d = refl
vectors_spelled s a f z (one_vector {v} {f = g} l h hs) d =
    let e : a + length v - a ≡ length v = omega arith in
    λ i. (ap (rows s a) e ∙ rows_spelled s a v (rows_of (joined g) ++ z) h here) i ∷ vectors_spelled s (a + length v) g z hs behind i
  where
    here : drop (a * row_length) s ≡ rows_of v ++ (rows_of (joined g) ++ z)
    here = d ∙ ap (λ w. w ++ z) (rows_of_append v (joined g)) ∙ append_assoc (rows_of v) (rows_of (joined g)) z

    behind : drop ((a + length v) * row_length) s ≡ rows_of (joined g) ++ z
    behind = drop_behind s (rows_of v) (rows_of (joined g) ++ z) (a * row_length) (length v * row_length) ((a + length v) * row_length) here
        (length_rows_of v) (omega arith)

ends_ascend : (limit a : ℕ) (f : Level) → Filled f → a + terms_of f ≤ limit → T (ascending? limit a (ends_from a f))
ends_ascend limit a f no_vectors h = tt
ends_ascend limit a f (one_vector {v} {f = g} l e hs) h =
    and_both (ltb a (a + length v)) (leb (a + length v) limit and ascending? limit (a + length v) (ends_from (a + length v) g))
    (lt→ltb a (a + length v) (omega arith))
    (and_both (leb (a + length v) limit) (ascending? limit (a + length v) (ends_from (a + length v) g)) (le→leb (a + length v) limit (omega arith))
    (ends_ascend limit (a + length v) g hs (omega arith)))

-- level k's words
record Written (lim : Limits) (s : Words) (k : ℕ) (f : Level) : Type 0 where
  counts_behind : Words
  counts : drop (count_place lim k) s ≡ counts_of lim f ++ counts_behind
  rows_behind : Words
  terms : drop (rows_place lim k) s ≡ padded (level_rows lim * row_length) (rows_of (joined f)) ++ rows_behind

module _ (lim : Limits) (s : Words) (k : ℕ) (f : Level) (w : Written lim s k f) (h : Housed lim f) where
  count_read : get_or s (count_place lim k) 0 ≡ length f
  count_read =
      let e : count_place lim k ≡ count_place lim k + 0 = omega arith in
      ap (λ j. get_or s j 0) e ∙ sym (get_or-drop (count_place lim k) s 0 0) ∙ ap (λ (l : Words). get_or l 0 0) w.counts

  ends_read : ends_at lim s k ≡ ends_from 0 f
  ends_read =
      (λ i. take (count_read i) (behind i))
      ∙ take_at (ends_from 0 f) (replicate (level_vectors lim - length (ends_from 0 f)) 0 ++ w.counts_behind) (length f) (length_ends 0 f)
    where
      behind : drop (suc (count_place lim k)) s ≡ ends_from 0 f ++ (replicate (level_vectors lim - length (ends_from 0 f)) 0 ++ w.counts_behind)
      behind =
          let e : suc (count_place lim k) ≡ count_place lim k + 1 = omega arith in
          ap (λ j. drop j s) e ∙ sym (drop-drop 1 (count_place lim k) s) ∙ ap (drop 1) w.counts
          ∙ append_assoc (ends_from 0 f) (replicate (level_vectors lim - length (ends_from 0 f)) 0) w.counts_behind

  terms_read : drop (rows_place lim k) s ≡ rows_of (joined f) ++ (replicate (level_rows lim * row_length - length (rows_of (joined f))) 0
      ++ w.rows_behind)
  terms_read = w.terms ∙ append_assoc (rows_of (joined f)) (replicate (level_rows lim * row_length - length (rows_of (joined f))) 0) w.rows_behind

  level_read : level_at lim s k ≡ f
  level_read =
      ap (vectors_at (drop (rows_place lim k) s) 0) ends_read
      ∙ vectors_spelled (drop (rows_place lim k) s) 0 f (replicate (level_rows lim * row_length - length (rows_of (joined f))) 0 ++ w.rows_behind)
      h.filled terms_read

  words_read : T (words_sound? lim s k)
  words_read =
      and_both (leb (get_or s (count_place lim k) 0) (level_vectors lim)) (ascending? (level_rows lim) 0 (ends_at lim s k))
      (le→leb (get_or s (count_place lim k) 0) (level_vectors lim) (omega (arith, count_read, h.few)))
      (subst (λ e. T (ascending? (level_rows lim) 0 e)) (sym ends_read) (ends_ascend (level_rows lim) 0 f h.filled (omega (arith, h.short))))

-- ## All levels

-- the words of level 0, of level 1, .. one after the other
record AllWritten (lim : Limits) (s : Words) (ls : List Level) : Type 0 where
  counts_behind : Words
  counts : drop (count_place lim 0) s ≡ all_counts lim (reverse ls) ++ counts_behind
  rows_behind : Words
  terms : drop (rows_place lim 0) s ≡ all_rows lim (reverse ls) ++ rows_behind

module _ (lim : Limits) (s : Words) (f : Level) (below : List Level) (w : AllWritten lim s (f ∷ below)) where
  counts_split : drop (count_place lim 0) s ≡ all_counts lim (reverse below) ++ (counts_of lim f ++ w.counts_behind)
  counts_split =
      w.counts ∙ ap (λ l. all_counts lim l ++ w.counts_behind) (reverse-cons f below)
      ∙ ap (λ l. l ++ w.counts_behind) (counts_last lim (reverse below) f)
      ∙ append_assoc (all_counts lim (reverse below)) (counts_of lim f) w.counts_behind

  terms_split : drop (rows_place lim 0) s ≡ all_rows lim (reverse below)
      ++ (padded (level_rows lim * row_length) (rows_of (joined f)) ++ w.rows_behind)
  terms_split =
      w.terms ∙ ap (λ l. all_rows lim l ++ w.rows_behind) (reverse-cons f below) ∙ ap (λ l. l ++ w.rows_behind) (rows_last lim (reverse below) f)
      ∙ append_assoc (all_rows lim (reverse below)) (padded (level_rows lim * row_length) (rows_of (joined f))) w.rows_behind

  written_below : AllWritten lim s below
  written_below = record {
    counts_behind = counts_of lim f ++ w.counts_behind;
    counts = counts_split;
    rows_behind =
        padded (level_rows lim * row_length) (rows_of (joined f)) ++ w.rows_behind;
    terms = terms_split;
  }

  written_here : AllHoused lim below → Written lim s (length below) f
  written_here h = record {
    counts_behind = w.counts_behind;
    counts = drop_behind s (all_counts lim (reverse below)) (counts_of lim f ++ w.counts_behind) (count_place lim 0)
        (length below * suc (level_vectors lim)) (count_place lim (length below)) counts_split (length_all_counts lim below h) (omega arith);
    rows_behind = w.rows_behind;
    terms = drop_behind s (all_rows lim (reverse below)) (padded (level_rows lim * row_length) (rows_of (joined f)) ++ w.rows_behind)
        (rows_place lim 0) (length below * (level_rows lim * row_length)) (rows_place lim (length below)) terms_split (length_all_rows lim below h)
        (omega arith);
  }

levels_read : (lim : Limits) (s : Words) (ls : List Level) → AllHoused lim ls → AllWritten lim s ls → levels_at lim s (length ls) ≡ ls
levels_read lim s ls no_level w = refl
levels_read lim s ls (one_level f below h hs) w =
    λ i. level_read lim s (length below) f (written_here lim s f below w hs) h i ∷ levels_read lim s below hs (written_below lim s f below w) i

all_words_read : (lim : Limits) (s : Words) (ls : List Level) → AllHoused lim ls → AllWritten lim s ls → T (all_words_sound? lim s (length ls))
all_words_read lim s ls no_level w = tt
all_words_read lim s ls (one_level f below h hs) w =
    and_both (words_sound? lim s (length below)) (all_words_sound? lim s (length below))
    (words_read lim s (length below) f (written_here lim s f below w hs) h) (all_words_read lim s below hs (written_below lim s f below w))

-- ## Degrees

same_self : (e : Words) → T (same_exponents? e e)
same_self [] = tt
same_self (x ∷ e) = and_both (eqb x x) (same_exponents? e e) (eqb_refl x) (same_self e)

pub length_degrees : (d : List ℕ) (below : List Level) (f : Level) → length (degrees_of d below f) ≡ length f
length_degrees d below [] = refl
length_degrees d below (v ∷ f) = ap suc (length_degrees d below f)

pub length_carried : (d : List ℕ) (ls : List Level) → length (carried d ls) ≡ length ls
length_carried d [] = refl
length_carried d (f ∷ below) = ap suc (length_carried d below)

-- the levels below come first, then this one
pub carried_last : (lim : Limits) (dss : List Words) (ds : Words) → all_carried lim (dss ++ ds ∷ []) ≡ all_carried lim dss ++ padded (level_vectors lim) ds
carried_last lim [] ds = append-nil (padded (level_vectors lim) ds)
carried_last lim (es ∷ dss) ds =
    ap (λ l. padded (level_vectors lim) es ++ l) (carried_last lim dss ds)
    ∙ sym (append_assoc (padded (level_vectors lim) es) (all_carried lim dss) (padded (level_vectors lim) ds))

length_level_degrees : (lim : Limits) (d : List ℕ) (f : Level) (below : List Level) → Housed lim f
    → length (padded (level_vectors lim) (degrees_of d below f)) ≡ level_vectors lim
length_level_degrees lim d f below h = length_padded (level_vectors lim) (degrees_of d below f) (omega (arith, length_degrees d below f, h.few))

length_all_carried : (lim : Limits) (d : List ℕ) (ls : List Level) → AllHoused lim ls
    → length (all_carried lim (reverse (carried d ls))) ≡ length (carried d ls) * level_vectors lim
length_all_carried lim d ls no_level = omega arith
length_all_carried lim d ls (one_level f below h hs) =
    ap (λ l. length (all_carried lim l)) (reverse-cons (degrees_of d below f) (carried d below))
    ∙ ap length (carried_last lim (reverse (carried d below)) (degrees_of d below f))
    ∙ length-append (all_carried lim (reverse (carried d below))) (padded (level_vectors lim) (degrees_of d below f))
    ∙ omega (arith, length_all_carried lim d below hs, length_level_degrees lim d f below h)

-- the words of the degrees are those that the levels carry
pub carries_read : (lim : Limits) (s : Words) (d : List ℕ) (ls : List Level) → AllHoused lim ls → (z : Words)
    → drop (carried_place lim 0) s ≡ all_carried lim (reverse (carried d ls)) ++ z → T (carries? lim s (carried d ls))
carries_read lim s d ls no_level z e = tt
carries_read lim s d ls (one_level f below h hs) z e =
    and_both (same_exponents? (take (length ds) (drop (carried_place lim (length (carried d below))) s)) ds) (carries? lim s (carried d below))
    (subst (λ x. T (same_exponents? x ds)) (sym taken) (same_self ds))
    (carries_read lim s d below hs (padded (level_vectors lim) ds ++ z) split)
  where
    ds : Words
    ds = degrees_of d below f

    split : drop (carried_place lim 0) s ≡ all_carried lim (reverse (carried d below)) ++ (padded (level_vectors lim) ds ++ z)
    split =
        e ∙ ap (λ l. all_carried lim l ++ z) (reverse-cons ds (carried d below)) ∙ ap (λ l. l ++ z) (carried_last lim (reverse (carried d below)) ds)
        ∙ append_assoc (all_carried lim (reverse (carried d below))) (padded (level_vectors lim) ds) z

    here : drop (carried_place lim (length (carried d below))) s ≡ padded (level_vectors lim) ds ++ z
    here =
        drop_behind s (all_carried lim (reverse (carried d below))) (padded (level_vectors lim) ds ++ z) (carried_place lim 0)
        (length (carried d below) * level_vectors lim) (carried_place lim (length (carried d below))) split (length_all_carried lim d below hs) (omega arith)

    taken : take (length ds) (drop (carried_place lim (length (carried d below))) s) ≡ ds
    taken =
        ap (take (length ds)) (here ∙ append_assoc ds (replicate (level_vectors lim - length ds) 0) z)
        ∙ take_at ds (replicate (level_vectors lim - length ds) 0 ++ z) (length ds) refl

-- ## The state

module _ (lim : Limits) (small : lim.exponent ≤ most_exponent) (size : ℕ) (X : State) (h : T (sound? lim X)) where
  housed : AllHoused lim X.levels
  housed = all_housed lim X.parameters small X.levels (sound_says lim X h).levels

  header_fits : length (header_of lim X) ≤ rows_place lim 0
  header_fits =
      let l : length X.levels ≤ suc lim.levels = (sound_says lim X h).height in
      omega (arith, length_all_counts lim X.levels housed, mul-le-mul_right (suc (level_vectors lim)) l)

  abbrev counts' : Words
  counts' = all_counts lim (reverse X.levels)

  abbrev terms' : Words
  terms' = all_rows lim (reverse X.levels)

  abbrev carried' : Words
  carried' = all_carried lim (reverse (carried X.parameters.degrees X.levels))

  abbrev zeros₁ : Words
  zeros₁ = replicate (rows_place lim 0 - length (header_of lim X)) 0

  abbrev zeros₂ : Words
  zeros₂ = replicate (degrees_place lim - length (levels_of lim X)) 0

  abbrev zeros₃ : Words
  zeros₃ = replicate (size - length (padded (degrees_place lim) (levels_of lim X) ++ degree_words lim X)) 0

  -- what follows the rows
  abbrev tail : Words
  tail = zeros₂ ++ (degree_words lim X ++ zeros₃)

  regrouped : (a : Words) → ((a ++ zeros₂) ++ degree_words lim X) ++ zeros₃ ≡ a ++ tail
  regrouped a = append_assoc (a ++ zeros₂) (degree_words lim X) zeros₃ ∙ append_assoc a zeros₂ (degree_words lim X ++ zeros₃)

  written : AllWritten lim (encode lim size X) X.levels
  unfolding header_fits
  written = record {
    counts_behind = zeros₁ ++ (terms' ++ tail);
    counts =
        ap (λ j. drop j (encode lim size X)) five ∙ regrouped ((counts' ++ zeros₁) ++ terms') ∙ append_assoc (counts' ++ zeros₁) terms' tail
        ∙ append_assoc counts' zeros₁ (terms' ++ tail);
    rows_behind = tail;
    terms =
        ap (drop (rows_place lim 0)) (regrouped (levels_of lim X) ∙ append_assoc (padded (rows_place lim 0) (header_of lim X)) terms' tail)
        ∙ ap (λ j. drop j (padded (rows_place lim 0) (header_of lim X) ++ (terms' ++ tail)))
        (sym (length_padded (rows_place lim 0) (header_of lim X) header_fits))
        ∙ drop-append_seam (padded (rows_place lim 0) (header_of lim X)) (terms' ++ tail);
  }
    where
      five : count_place lim 0 ≡ header_length
      five = omega arith

  pub levels_fit : length (levels_of lim X) ≤ degrees_place lim
  unfolding header_fits
  levels_fit =
      let k : length X.levels ≤ suc lim.levels = (sound_says lim X h).height in
      subst (λ n. n ≤ degrees_place lim) (sym (length-append (padded (rows_place lim 0) (header_of lim X)) terms'))
      (omega (
        arith,
        length_padded (rows_place lim 0) (header_of lim X) header_fits,
        length_all_rows lim X.levels housed,
        mul-le-mul_right (level_rows lim * row_length) k,
      ))

  -- a degree for each component
  pub s_degrees : length X.parameters.degrees ≡ X.parameters.s
  s_degrees =
      let q = X.parameters in
      eqb→eq (length q.degrees) q.s (and_left (eqb (length q.degrees) q.s) (fits? most_degree q.degrees) (sound_says lim X h).degrees)

  pub few_components : length X.parameters.degrees ≤ lim.components
  few_components =
      let q = X.parameters in
      let r = and_right (between 1 q.n lim.variables) (between 1 q.code 3 and between 1 q.s lim.components) (sound_says lim X h).ranges in
      let b : q.s ≤ lim.components =
      between_high 1 q.s lim.components (and_right (between 1 q.code 3) (between 1 q.s lim.components) r) in
      omega (arith, s_degrees, b)

  degrees_behind : drop (degrees_place lim) (encode lim size X) ≡ padded lim.components X.parameters.degrees ++ (carried' ++ zeros₃)
  degrees_behind =
      ap (drop (degrees_place lim)) (append_assoc (padded (degrees_place lim) (levels_of lim X)) (degree_words lim X) zeros₃)
      ∙ ap (λ j. drop j (padded (degrees_place lim) (levels_of lim X) ++ (degree_words lim X ++ zeros₃)))
      (sym (length_padded (degrees_place lim) (levels_of lim X) levels_fit))
      ∙ drop-append_seam (padded (degrees_place lim) (levels_of lim X)) (degree_words lim X ++ zeros₃)
      ∙ append_assoc (padded lim.components X.parameters.degrees) carried' zeros₃

  degrees_read : take X.parameters.s (drop (degrees_place lim) (encode lim size X)) ≡ X.parameters.degrees
  degrees_read =
      let d = X.parameters.degrees in
      ap (take X.parameters.s) (degrees_behind ∙ append_assoc d (replicate (lim.components - length d) 0) (carried' ++ zeros₃))
      ∙ take_at d (replicate (lim.components - length d) 0 ++ (carried' ++ zeros₃)) X.parameters.s s_degrees

  pub carries_encode : T (carries? lim (encode lim size X) (carried X.parameters.degrees X.levels))
  carries_encode =
      let d = X.parameters.degrees in
      carries_read lim (encode lim size X) d X.levels housed zeros₃
      (drop_behind (encode lim size X) (padded lim.components d) (carried' ++ zeros₃) (degrees_place lim) lim.components (carried_place lim 0)
      degrees_behind (length_padded lim.components d few_components) (omega arith))

  pub decode_encode : decode lim (encode lim size X) ≡ X
  decode_encode = λ i. record {
    parameters = record { p = X.parameters.p; n = X.parameters.n; code = X.parameters.code; s = X.parameters.s; degrees = degrees_read i };
    levels = levels_read lim (encode lim size X) X.levels housed written i;
  }

  pub holds_encode : T (holds_state? lim (encode lim size X))
  holds_encode =
      let s = encode lim size X in
      let Rest : State → Bool = λ Y. sound? lim Y and carries? lim s (carried Y.parameters.degrees Y.levels) in
      and_both (leb (length X.levels) (suc lim.levels)) (all_words_sound? lim s (length X.levels) and Rest (decode lim s))
      (le→leb (length X.levels) (suc lim.levels) (sound_says lim X h).height)
      (and_both (all_words_sound? lim s (length X.levels)) (Rest (decode lim s)) (all_words_read lim s X.levels housed written)
      (subst (λ Y. T (Rest Y)) (sym decode_encode) (and_both (sound? lim X) (carries? lim s (carried X.parameters.degrees X.levels)) h carries_encode)))

  -- what is written is what is read
  pub meant_encode : meant lim (encode lim size X) ≡ X
  meant_encode = go (holds_state? lim (encode lim size X)) holds_encode
    where
      go : (b : Bool) → T b → ◌≡◌ {A = State} (elim b [ true ↦ decode lim (encode lim size X) | false ↦ empty ]) X
      go true t = decode_encode
      go false t = absurd t

  pub length_degree_words : length (degree_words lim X) ≡ lim.components + length X.levels * level_vectors lim
  length_degree_words =
      let d = X.parameters.degrees in
      length-append (padded lim.components d) carried'
      ∙ (λ i. length_padded lim.components d few_components i
      + (length_all_carried lim d X.levels housed ∙ ap (λ n. n * level_vectors lim) (length_carried d X.levels)) i)

  pub length_encode : state_words lim ≤ size → length (encode lim size X) ≡ size
  unfolding levels_fit few_components
  length_encode l = length_padded size (padded (degrees_place lim) (levels_of lim X) ++ degree_words lim X) whole
    where
      whole : length (padded (degrees_place lim) (levels_of lim X) ++ degree_words lim X) ≤ size
      whole =
          let k : length X.levels ≤ suc lim.levels = (sound_says lim X h).height in
          subst (λ n. n ≤ size) (sym (length-append (padded (degrees_place lim) (levels_of lim X)) (degree_words lim X)))
          (omega (arith, length_padded (degrees_place lim) (levels_of lim X) levels_fit, length_degree_words, mul-le-mul_right (level_vectors lim) k))
