-- The tables joined in one slice are, each in its part, the tables that were made.
use mathlib.Core.Path.{◌≡◌, refl, sym, ap, ◌∙◌}
use mathlib.Core.List.{[], ◌∷◌, ◌++◌}
use Prim.Native.Nat.{ℕ, zero, suc, ◌+◌, ◌*◌, ◌<◌, ◌≤◌}
use native.Mathlib.Omega.{arith}
use lib.ListN.{length, get_or, take}
use lib.Seq.{paste, length-paste, get_or-take, get_or-drop, length-take-le, ext_get_or}
use Rattle.definitions.specs.Layout.{Words}
use Rattle.laws.proofs.Rows.{rows_same}
use Rattle.definitions.specs.Places.{most_vectors, row_length, image_length, component_offset, rank_offset, exponents_offset, heads_length, images_length}
use Rattle.definitions.specs.Places.{spans_length, tables_spans, tables_ends}
use Rattle.definitions.specs.Places.{tables_below, tables_above, tables_length, ends_length}
use Rattle.orders.specs.Images.{entry_at, table_of}
use Rattle.vectors.proofs.terms.Moving.{getD_paste_in, getD_paste_below}
use Rattle.vectors.proofs.terms.Stored.{same_row}
use Rattle.reducers.proofs.tables.Keying.{raw_same}
use Rattle.state.specs.soundness.Places.{count_at, count_below, ends_from}
use Rattle.state.specs.soundness.Tabled.{Ready}
use Rattle.state.proofs.soundness.VectorByVector.{whole_part, length_part}
use Rattle.state.specs.preparing.Prepared.{components_at, Led}
use Rattle.runs.specs.reduction.Grounds.{part, spans_in, ends_in, below_in, above_in}
use Rattle.level.specs.by_runs.Stages.{joined, TablesAt}

-- ## A table with the same words

part_word : (a : ℕ) (z : Words) (k : ℕ) → get_or (part a z) k 0 ≡ get_or z (a + k) 0
part_word a z k = ap (λ l. get_or l k 0) (whole_part a z) ∙ get_or-drop a z k 0

table_same : (n : ℕ) (s z : Words) → ((i : ℕ) → i < n → entry_at z i ≡ entry_at s i) → table_of n z ≡ table_of n s
unfolding table_of
table_same zero s z h = refl
table_same (suc n) s z h = λ i. table_same n s z (λ j l. h j (omega arith)) i ++ h n (omega arith) i ∷ []

ready_same : (s : Words) (k : ℕ) (t z : Words) → ((i : ℕ) → i < images_length → get_or z i 0 ≡ get_or t i 0) → Ready s k t → Ready s k z
ready_same s k t z w r = record {
  few = r.few;
  made = table_same (count_below s k) t z (λ i h x. (
    raw_same t z (i * image_length + exponents_offset)
        (λ j l. w (i * image_length + exponents_offset + j) (omega (arith, r.few))) x,
    w (i * image_length + rank_offset) (omega (arith, r.few)) x,
  ))
      ∙ r.made;
  capped = λ i h j l. omega (arith, w (i * image_length + exponents_offset + j) (omega (arith, r.few)), r.capped i h j l);
}

led_same : (s : Words) (k : ℕ) (t z spans spans' : Words) → count_at s k ≤ most_vectors → components_at s k ≤ most_vectors
    → ((i : ℕ) → i < heads_length → get_or z i 0 ≡ get_or t i 0) → ((i : ℕ) → i < spans_length → get_or spans' i 0 ≡ get_or spans i 0) → Led s k t spans
    → Led s k z spans'
led_same s k t z spans spans' few kinds w v l = record {
  made = rows_same t z 0 0 (count_at s k) (λ i h. same_row t z (0 + i) (0 + i) (λ j m. w ((0 + i) * row_length + j) (omega arith))) ∙ l.made;
  spanned = λ i h. (
    omega (arith, v (i * 2 + 1) (omega arith), (l.spanned i h).0),
    λ j m e.
        let x = (l.spanned i h).1 j m (sym (w (j * row_length + component_offset) (omega arith)) ∙ e) in
        (omega (arith, x.0, v (i * 2) (omega arith)), omega (arith, x.1, v (i * 2 + 1) (omega arith))),
  );
}

-- ## The parts

module _ (t spans ends below above : Words) (long : tables_length ≤ length t) (hs : spans_length ≤ length spans) (he : ends_length ≤ length ends)
    (hb : images_length ≤ length below) (ha : images_length ≤ length above) where
  abbrev t₁ : Words
  t₁ = paste t tables_spans spans spans_length

  abbrev t₂ : Words
  t₂ = paste t₁ tables_ends ends ends_length

  abbrev t₃ : Words
  t₃ = paste t₂ tables_below below images_length

  l₁ : length t₁ ≡ length t
  l₁ = length-paste t tables_spans spans spans_length (omega arith) hs

  l₂ : length t₂ ≡ length t
  l₂ = length-paste t₁ tables_ends ends ends_length (omega (arith, l₁)) he ∙ l₁

  l₃ : length t₃ ≡ length t
  l₃ = length-paste t₂ tables_below below images_length (omega (arith, l₂)) hb ∙ l₂

  pub length_joined : length (joined t spans ends below above) ≡ length t
  length_joined = length-paste t₃ tables_above above images_length (omega (arith, l₃)) ha ∙ l₃

  off₁ : (k : ℕ) → k < heads_length → get_or t₁ k 0 ≡ get_or t k 0
  off₁ k h = getD_paste_below t tables_spans spans spans_length k 0 (omega arith) h

  off₂ : (k : ℕ) → k < tables_ends → get_or t₂ k 0 ≡ get_or t₁ k 0
  off₂ k h = getD_paste_below t₁ tables_ends ends ends_length k 0 (omega (arith, l₁)) h

  off₃ : (k : ℕ) → k < tables_below → get_or t₃ k 0 ≡ get_or t₂ k 0
  off₃ k h = getD_paste_below t₂ tables_below below images_length k 0 (omega (arith, l₂)) h

  off₄ : (k : ℕ) → k < tables_above → get_or (joined t spans ends below above) k 0 ≡ get_or t₃ k 0
  off₄ k h = getD_paste_below t₃ tables_above above images_length k 0 (omega (arith, l₃)) h

  pub heads_word : (k : ℕ) → k < heads_length → get_or (joined t spans ends below above) k 0 ≡ get_or t k 0
  heads_word k h = off₄ k (omega arith) ∙ off₃ k (omega arith) ∙ off₂ k (omega arith) ∙ off₁ k h

  pub spans_word : (k : ℕ) → k < spans_length → get_or (spans_in (joined t spans ends below above)) k 0 ≡ get_or spans k 0
  spans_word k h =
      part_word tables_spans (joined t spans ends below above) k
      ∙ off₄ (tables_spans + k) (omega arith) ∙ off₃ (tables_spans + k) (omega arith) ∙ off₂ (tables_spans + k) (omega arith)
      ∙ getD_paste_in t tables_spans spans spans_length k 0 (omega arith) hs h

  pub ends_word : (k : ℕ) → k < most_vectors → get_or (ends_in (joined t spans ends below above)) k 0 ≡ get_or ends k 0
  ends_word k h =
      part_word tables_ends (joined t spans ends below above) k
      ∙ off₄ (tables_ends + k) (omega arith) ∙ off₃ (tables_ends + k) (omega arith)
      ∙ getD_paste_in t₁ tables_ends ends ends_length k 0 (omega (arith, l₁)) he h

  pub below_word : (k : ℕ) → k < images_length → get_or (below_in (joined t spans ends below above)) k 0 ≡ get_or below k 0
  below_word k h =
      part_word tables_below (joined t spans ends below above) k
      ∙ off₄ (tables_below + k) (omega arith) ∙ getD_paste_in t₂ tables_below below images_length k 0 (omega (arith, l₂)) hb h

  pub above_word : (k : ℕ) → k < images_length → get_or (above_in (joined t spans ends below above)) k 0 ≡ get_or above k 0
  above_word k h = part_word tables_above (joined t spans ends below above) k
      ∙ getD_paste_in t₃ tables_above above images_length k 0 (omega (arith, l₃)) ha h

  pub tables_joined : (s : Words) (j : ℕ) → count_at s j ≤ most_vectors → components_at s j ≤ most_vectors → Led s j t spans → ends ≡ ends_from s j
      → Ready s j below → Ready s (suc j) above
      → TablesAt s j (joined t spans ends below above)
  tables_joined s j few kinds l e rb ra =
      let z = joined t spans ends below above in
      let n : length (take (count_at s j) (ends_in z)) ≡ count_at s j =
      length-take-le (count_at s j) (ends_in z) (omega (arith, length_part tables_ends z, length_joined)) in
      let m : length (take (count_at s j) ends) ≡ count_at s j = length-take-le (count_at s j) ends (omega arith) in
      record {
        long = omega (arith, length_joined);
        led = led_same s j t z spans (spans_in z) few kinds heads_word spans_word l;
        ends =
            ext_get_or 0 (take (count_at s j) (ends_in z)) (take (count_at s j) ends) (n ∙ sym m)
            (λ k h. get_or-take (count_at s j) (ends_in z) k 0 (omega (arith, n)) ∙ ends_word k (omega (arith, n))
            ∙ sym (get_or-take (count_at s j) ends k 0 (omega (arith, n))))
            ∙ ap (take (count_at s j)) e;
        below = ready_same s j below (below_in z) below_word rb;
        above = ready_same s (suc j) above (above_in z) above_word ra;
      }
