-- What stands where after a block was cleared; a level's unused places.
use mathlib.Core.Path.{◌≡◌, refl, sym, ap, ◌∙◌, subst}
use mathlib.Core.Bool.{Bool, true, false, not}
use mathlib.Core.List.{◌++◌}
use Prim.Native.Nat.{ℕ, ◌+◌, ◌-◌, ◌*◌, ◌<◌, ◌≤◌}
use native.Mathlib.Omega.{arith}
use native.Mathlib.Decide.{ℕ_discrete}
use lib.Dec.{T, ltb, ltb→lt, nltb→le}
use lib.ListN.{length, take, drop, get_or, replicate, length-append, length-drop, length-replicate, get_or-append}
use lib.Seq.{get_or-append-add, get_or-take, get_or-drop, length-take-le}
use Rattle.definitions.specs.Layout.{Words}
use Rattle.definitions.specs.Places.{most_vectors, most_rows, all_levels, row_length, counts_length, level_length, state_length, count_offset, ends_offset}
use Rattle.definitions.specs.Places.{rows_offset}
use Rattle.vectors.specs.terms.Rows.{cleared}
use Rattle.reducers.specs.tables.Cuts.{start_of}
use Rattle.reducers.proofs.tables.Spanning.{zero_everywhere}
use Rattle.state.specs.soundness.Places.{count_at, ends_from}
use Rattle.state.specs.writing.LevelSoFar.{block_cleared, tidied}
use Rattle.state.specs.writing.Zeroed.{Same, used_at, Tidy, TidiedTo}
use Rattle.state.proofs.writing.Copying.{end_at, end_none}

-- ## Cleared from a word on

module _ (s : Words) (u : ℕ) (h : u ≤ length s) where
  pub length_cleared : length (cleared s u) ≡ length s
  length_cleared = length-append (take u s) (replicate (length s - u) 0)
      ∙ omega (arith, length-take-le u s h, length-replicate {A = ℕ} (length s - u) 0)

  pub cleared_under : (i : ℕ) → i < u → get_or (cleared s u) i 0 ≡ get_or s i 0
  cleared_under i l = get_or-append (take u s) (replicate (length s - u) 0) 0 i (omega (arith, length-take-le u s h)) ∙ get_or-take u s i 0 l

  pub cleared_over : (i : ℕ) → u ≤ i → get_or (cleared s u) i 0 ≡ 0
  cleared_over i l =
      let z : i ≡ length (take u s) + (i - u) = omega (arith, length-take-le u s h) in
      ap (λ j. get_or (cleared s u) j 0) z ∙ get_or-append-add (take u s) (replicate (length s - u) 0) (i - u) 0 ∙ zero_everywhere (length s - u) (i - u)

-- ## A block

module _ (a n u : ℕ) (s : Words) (fit : a + n ≤ length s) (low : u ≤ n) where
  abbrev l : Words
  l = take n (drop a s)

  n_long : length (take n (drop a s)) ≡ n
  n_long = length-take-le n (drop a s) (omega (arith, length-drop a s))

  a_long : length (take a s) ≡ a
  a_long = length-take-le a s (omega arith)

  abbrev back : Words
  back = cleared l u ++ drop n (drop a s)

  c_long : length (cleared (take n (drop a s)) u) ≡ n
  c_long = length_cleared l u (omega (arith, n_long)) ∙ n_long

  pub length_block : length (block_cleared a n u s) ≡ length s
  length_block = length-append (take a s) back ∙ omega (
    arith,
    a_long,
    length-append (cleared l u) (drop n (drop a s)),
    c_long,
    length-drop n (drop a s),
    length-drop a s,
  )

  block_front : (i : ℕ) → i < a → get_or (block_cleared a n u s) i 0 ≡ get_or s i 0
  block_front i h = get_or-append (take a s) back 0 i (omega (arith, a_long)) ∙ get_or-take a s i 0 h

  block_in : (j : ℕ) → j < n → get_or (block_cleared a n u s) (a + j) 0 ≡ get_or (cleared (take n (drop a s)) u) j 0
  block_in j h =
      let z : a + j ≡ length (take a s) + j = omega (arith, a_long) in
      ap (λ k. get_or (block_cleared a n u s) k 0) z ∙ get_or-append-add (take a s) back j 0
      ∙ get_or-append (cleared l u) (drop n (drop a s)) 0 j (omega (arith, c_long))

  pub block_over : (i : ℕ) → a + n ≤ i → get_or (block_cleared a n u s) i 0 ≡ get_or s i 0
  block_over i h =
      let j : ℕ = i - (a + n) in
      let z : i ≡ length (take a s) + (length (cleared l u) + j) = omega (arith, a_long, c_long) in
      let y : a + (n + j) ≡ i = omega arith in
      ap (λ k. get_or (block_cleared a n u s) k 0) z ∙ get_or-append-add (take a s) back (length (cleared l u) + j) 0
      ∙ get_or-append-add (cleared l u) (drop n (drop a s)) j 0
      ∙ get_or-drop n (drop a s) j 0 ∙ get_or-drop a s (n + j) 0 ∙ ap (λ k. get_or s k 0) y

  pub block_zero : (i : ℕ) → a + u ≤ i → i < a + n → get_or (block_cleared a n u s) i 0 ≡ 0
  block_zero i h k =
      let z : i ≡ a + (i - a) = omega arith in
      ap (λ j. get_or (block_cleared a n u s) j 0) z ∙ block_in (i - a) (omega arith) ∙ cleared_over l u (omega (arith, n_long)) (i - a) (omega arith)

  pub block_under : (i : ℕ) → i < a + u → get_or (block_cleared a n u s) i 0 ≡ get_or s i 0
  block_under i h = go (ltb i a) (ltb→lt i a) (nltb→le i a)
    where
      go : (b : Bool) → (T b → i < a) → (T (not b) → a ≤ i) → get_or (block_cleared a n u s) i 0 ≡ get_or s i 0
      go true f g = block_front i (f tt)
      go false f g =
          let k : a ≤ i = g tt in
          let z : i ≡ a + (i - a) = omega arith in
          ap (λ j. get_or (block_cleared a n u s) j 0) z ∙ block_in (i - a) (omega arith)
          ∙ cleared_under (take n (drop a s)) u (omega (arith, n_long)) (i - a) (omega arith)
          ∙ get_or-take n (drop a s) (i - a) 0 (omega arith) ∙ get_or-drop a s (i - a) 0 ∙ ap (λ j. get_or s j 0) (sym z)

-- ## One level more

-- the last end is read from the level's own words
pub used_same : (s z : Words) (k : ℕ) → count_at z k ≡ count_at s k → Same z s (count_offset k) (ends_offset k + count_at s k) → used_at z k
    ≡ used_at s k
used_same s z k e f = ap (start_of (ends_from z k)) e ∙ go (ℕ_discrete (count_at s k) 0)
  where
    go : Dec (count_at s k ≡ 0) → start_of (ends_from z k) (count_at s k) ≡ start_of (ends_from s k) (count_at s k)
    go (yes q) = sym (end_none z k (count_at s k) q) ∙ end_none s k (count_at s k) q
    go (no q) = sym (end_at z k (count_at s k) q) ∙ f (count_offset k + count_at s k) (omega arith) (omega arith) ∙ end_at s k (count_at s k) q

-- a level that its places can hold
abbrev pub Sized : Words → ℕ → Type 0
Sized s j = (count_at s j ≤ most_vectors) × (used_at s j ≤ most_rows)

module _ (s z : Words) (k : ℕ) (long : state_length ≤ length s) (inside : k < all_levels) (sized : (j : ℕ) → j ≤ k → Sized s j)
    (t : TidiedTo s z k) where
  few : count_at s k ≤ most_vectors
  few = (sized k (omega arith)).0

  short : used_at s k ≤ most_rows
  short = (sized k (omega arith)).1

  same_count : count_at z k ≡ count_at s k
  same_count = t.counts_left (count_offset k) (omega arith) (omega arith)

  same_used : used_at z k ≡ used_at s k
  same_used = used_same s z k same_count (λ i h l. t.counts_left i h (omega (arith, few)))

  abbrev mid : Words
  mid = block_cleared (count_offset k) counts_length (1 + count_at z k) z

  abbrev out : Words
  out = tidied z k

  fit₁ : count_offset k + counts_length ≤ length z
  fit₁ = omega (arith, t.long)

  low₁ : 1 + count_at z k ≤ counts_length
  low₁ = omega (arith, same_count, few)

  mid_long : length (block_cleared (count_offset k) counts_length (1 + count_at z k) z) ≡ length z
  mid_long = length_block (count_offset k) counts_length (1 + count_at z k) z fit₁ low₁

  fit₂ : rows_offset k + level_length ≤ length (block_cleared (count_offset k) counts_length (1 + count_at z k) z)
  fit₂ = omega (arith, t.long, mid_long)

  low₂ : used_at z k * row_length ≤ level_length
  low₂ = omega (arith, same_used, short)

  -- words outside both blocks
  kept : (i : ℕ) → i < count_offset k → get_or (tidied z k) i 0 ≡ get_or z i 0
  kept i h = block_under (rows_offset k) level_length (used_at z k * row_length) mid fit₂ low₂ i (omega arith)
      ∙ block_under (count_offset k) counts_length (1 + count_at z k) z fit₁ low₁ i (omega arith)

  kept_between : (i : ℕ) → count_offset k + counts_length ≤ i → i < rows_offset k + used_at z k * row_length → get_or (tidied z k) i 0 ≡ get_or z i 0
  kept_between i h m = block_under (rows_offset k) level_length (used_at z k * row_length) mid fit₂ low₂ i m
      ∙ block_over (count_offset k) counts_length (1 + count_at z k) z fit₁ low₁ i h

  kept_over : (i : ℕ) → rows_offset k + level_length ≤ i → get_or (tidied z k) i 0 ≡ get_or z i 0
  kept_over i h = block_over (rows_offset k) level_length (used_at z k * row_length) mid fit₂ low₂ i h
      ∙ block_over (count_offset k) counts_length (1 + count_at z k) z fit₁ low₁ i (omega arith)

  here : Tidy s (tidied z k) k
  here = record {
    counts = λ i h m. block_under (rows_offset k) level_length (used_at z k * row_length) mid fit₂ low₂ i (omega (arith, few))
        ∙ block_under (count_offset k) counts_length (1 + count_at z k) z fit₁ low₁ i (omega (arith, same_count))
        ∙ t.counts_left i h (omega (arith, few));
    no_counts = λ i h m. block_under (rows_offset k) level_length (used_at z k * row_length) mid fit₂ low₂ i (omega (arith, few))
        ∙ block_zero (count_offset k) counts_length (1 + count_at z k) z fit₁ low₁ i (omega (arith, same_count)) (omega arith);
    terms = λ i h m. kept_between i (omega arith) (omega (arith, same_used)) ∙ t.terms_left i h (omega (arith, short));
    no_terms = λ i h m. block_zero (rows_offset k) level_length (used_at z k * row_length) mid fit₂ low₂ i (omega (arith, same_used)) (omega arith);
  }

  older : (j : ℕ) → j < k → Tidy s (tidied z k) j
  older j h =
      let o = t.made j h in
      let c = sized j (omega arith) in
      record {
        counts = λ i l m. kept i (omega arith) ∙ o.counts i l m;
        no_counts = λ i l m. kept i (omega arith) ∙ o.no_counts i l m;
        terms = λ i l m. kept_between i (omega arith) (omega arith) ∙ o.terms i l m;
        no_terms = λ i l m. kept_between i (omega arith) (omega arith) ∙ o.no_terms i l m;
      }

  pub tidied_more : TidiedTo s (tidied z k) (k + 1)
  tidied_more = record {
    long = length_block (rows_offset k) level_length (used_at z k * row_length) mid fit₂ low₂ ∙ mid_long ∙ t.long;
    front = λ i h l. kept i (omega arith) ∙ t.front i h l;
    made = λ j h. go j h (ℕ_discrete j k);
    counts_left = λ i h l. kept_between i (omega arith) (omega arith) ∙ t.counts_left i (omega arith) l;
    terms_left = λ i h l. kept_over i (omega arith) ∙ t.terms_left i (omega arith) l;
  }
    where
      go : (j : ℕ) → j < k + 1 → Dec (j ≡ k) → Tidy s (tidied z k) j
      go j h (yes e) = subst (Tidy s (tidied z k)) (sym e) here
      go j h (no e) = older j (omega arith)

pub tidied_none : (s : Words) → TidiedTo s s 0
tidied_none s = record {
  long = refl;
  front = λ i h l. refl;
  made = λ j h. absurd (omega arith);
  counts_left = λ i h l. refl;
  terms_left =
      λ i h l. refl;
}
