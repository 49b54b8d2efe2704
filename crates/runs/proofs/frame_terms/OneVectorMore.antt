-- A vector more behind those that are kept.
use mathlib.Core.Path.{◌≡◌, refl, sym, ap, ◌∙◌}
use mathlib.Core.List.{[], ◌∷◌, ◌++◌}
use Prim.Native.Nat.{ℕ, zero, suc, ◌+◌, ◌-◌, ◌*◌, ◌<◌, ◌≤◌}
use native.Mathlib.Nat.{not-suc-le-zero}
use native.Mathlib.Omega.{arith}
use native.Mathlib.Decide.{ℕ_discrete}
use lib.ListN.{length, get_or, set, take, drop, length-set}
use lib.Seq.{paste, length-paste, take-suc, take-set-le, get_or-take, get_or-drop, get_or-set_same, get_or-set_other, length-take-le, ext_get_or}
use Rattle.definitions.specs.Monomial.{Term, Vector}
use Rattle.definitions.specs.Result.{done, refusal}
use Rattle.definitions.specs.Stage.{Stage}
use Rattle.definitions.specs.Lifting.{Lifted, with_vector, add_vector}
use Rattle.definitions.specs.Layout.{Words, rows, row_at, vectors_at}
use Rattle.laws.proofs.Rows.{rows_same}
use Rattle.definitions.specs.Places.{most_vectors, row_length, component_offset, ends_length}
use borrow.Author.Tests.{le-leb, lt-leb}
use Rattle.laws.proofs.Rows.{row_is}
use Rattle.vectors.proofs.terms.Stored.{same_row}
use Rattle.vectors.proofs.terms.Moving.{getD_paste_in, getD_paste_below}
use Rattle.runs.specs.declared.reduction.Ground.{Ground}
use Rattle.runs.specs.frame_terms.Vectors.{lifted_vectors, end_of, Kept, Framed}

-- ## Vectors by their ends

-- the end of the last vector, after so many rows
abbrev final : ℕ → Words → ℕ
final a [] = a
final a (e ∷ es) = final e es

vectors_more : (s : Words) (a : ℕ) (es : Words) (e : ℕ) → vectors_at s a (es ++ e ∷ []) ≡ vectors_at s a es ++ rows s (final a es) (e - final a es) ∷ []
vectors_more s a [] e = refl
vectors_more s a (d ∷ es) e = ap (λ f. rows s a (d - a) ∷ f) (vectors_more s d es e)

pub vectors_same : (s z : Words) (bound : ℕ) → ((k : ℕ) → k < bound → row_at z k ≡ row_at s k) → (a : ℕ) (es : Words)
    → ((j : ℕ) → j < length es → get_or es j 0 ≤ bound) → vectors_at z a es ≡ vectors_at s a es
vectors_same s z bound same a [] l = refl
vectors_same s z bound same a (e ∷ es) l =
    let first : rows z a (e - a) ≡ rows s a (e - a) = rows_same s z a a (e - a) (λ k h. same (a + k) (omega (arith, l 0 (omega arith)))) in
    let later = vectors_same s z bound same e es (λ j h. l (suc j) (omega arith)) in
    λ i. first i ∷ later i

abbrev end_from : ℕ → ℕ → Words → ℕ
end_from a zero es = a
end_from a (suc n) es = get_or es n 0

final_at : (a : ℕ) (es : Words) (n : ℕ) → length es ≡ n → final a es ≡ end_from a n es
final_at a [] zero e = refl
final_at a [] (suc n) e = absurd (omega arith)
final_at a (d ∷ es) zero e = absurd (omega arith)
final_at a (d ∷ es) (suc zero) e = final_at d es zero (omega arith)
final_at a (d ∷ es) (suc (suc n)) e = final_at d es (suc n) (omega arith)

final_of : (n : ℕ) (out : Words) → n ≤ length out → final 0 (take n out) ≡ end_of n out
final_of zero out h = refl
final_of (suc n) out h = final_at 0 (take (suc n) out) (suc n) (length-take-le (suc n) out h) ∙ get_or-take (suc n) out n 0 (omega arith)

-- ## One vector more

module _ (out value : Words) (i used v : ℕ) (small : i < most_vectors) (room : (used + v) * row_length + ends_length ≤ length out)
    (has : v * row_length ≤ length value) (kept : Kept i used out) where
  abbrev pasted : Words
  pasted = paste out (used * row_length + ends_length) value (v * row_length)

  abbrev pub grown : Words
  grown = set pasted i (used + v)

  long : length pasted ≡ length out
  long = length-paste out (used * row_length + ends_length) value (v * row_length) (omega arith) has

  first_words : take i grown ≡ take i out
  first_words =
      take-set-le i pasted i (used + v) (omega arith)
      ∙ ext_get_or 0 (take i pasted) (take i out)
      (length-take-le i pasted (omega (arith, long)) ∙ sym (length-take-le i out (omega arith)))
      (λ k h.
      let l : k < i = omega (arith, length-take-le i pasted (omega (arith, long))) in
      get_or-take i pasted k 0 l ∙ getD_paste_below out (used * row_length + ends_length) value (v * row_length) k 0 (omega arith) (omega arith)
      ∙ sym (get_or-take i out k 0 l))

  own_end : get_or grown i 0 ≡ used + v
  own_end = get_or-set_same pasted i (used + v) 0 (omega (arith, long))

  all_ends : take (i + 1) grown ≡ take i out ++ (used + v) ∷ []
  all_ends =
      let e : i + 1 ≡ suc i = omega arith in
      ap (λ k. take k grown) e ∙ take-suc grown i 0 (omega (arith, long, length-set pasted i (used + v))) ∙ (λ k. first_words k ++ own_end k ∷ [])

  word : (x : ℕ) → get_or (drop ends_length grown) x 0 ≡ get_or pasted (ends_length + x) 0
  word x = get_or-drop ends_length grown x 0 ∙ get_or-set_other pasted i (ends_length + x) (used + v) 0 (λ e. omega (arith, e))

  word_before : (x : ℕ) → x < used * row_length → get_or (drop ends_length grown) x 0 ≡ get_or (drop ends_length out) x 0
  word_before x h = word x ∙ getD_paste_below out (used * row_length + ends_length) value (v * row_length) (ends_length + x) 0 (omega arith)
      (omega arith) ∙ sym (get_or-drop ends_length out x 0)

  word_inside : (x : ℕ) → x < v * row_length → get_or (drop ends_length grown) (used * row_length + x) 0 ≡ get_or value x 0
  word_inside x h =
      let e : ends_length + (used * row_length + x) ≡ used * row_length + ends_length + x = omega arith in
      word (used * row_length + x) ∙ ap (λ k. get_or pasted k 0) e ∙ getD_paste_in out (used * row_length + ends_length) value (v * row_length) x 0
      (omega arith) has h

  row_before : (k : ℕ) → k < used → row_at (drop ends_length grown) k ≡ row_at (drop ends_length out) k
  row_before k h = same_row (drop ends_length out) (drop ends_length grown) k k (λ j l. word_before (k * row_length + j) (omega arith))

  row_inside : (k : ℕ) → k < v → row_at (drop ends_length grown) (used + k) ≡ row_at value (0 + k)
  row_inside k h =
      same_row value (drop ends_length grown) (0 + k) (used + k) λ j l.
      let e : (used + k) * row_length + j ≡ used * row_length + (k * row_length + j) = omega arith in
      let d : (0 + k) * row_length + j ≡ k * row_length + j = omega arith in
      ap (λ x. get_or (drop ends_length grown) x 0) e ∙ word_inside (k * row_length + j) (omega arith) ∙ ap (λ x. get_or value x 0) (sym d)

  end_used : final 0 (take i out) ≡ used
  end_used = final_of i out (omega arith) ∙ kept.last

  pub vectors_grown : lifted_vectors grown (i + 1) ≡ lifted_vectors out i ++ rows value 0 v ∷ []
  vectors_grown =
      let d : used + v - used ≡ v = omega arith in
      ap (vectors_at (drop ends_length grown) 0) all_ends
      ∙ vectors_more (drop ends_length grown) 0 (take i out) (used + v)
      ∙ (λ k. vectors_same (drop ends_length out) (drop ends_length grown) used row_before 0 (take i out)
      (λ j h. omega (
        arith,
        kept.inside j (omega (arith, length-take-le i out (omega arith))),
        get_or-take i out j 0 (omega (arith, length-take-le i out (omega arith))),
      )) k
      ++ rows (drop ends_length grown) (end_used k) (used + v - end_used k) ∷ [])
      ∙ ap (λ n. lifted_vectors out i ++ rows (drop ends_length grown) used n ∷ []) d
      ∙ ap (λ w. lifted_vectors out i ++ w ∷ []) (rows_same value (drop ends_length grown) 0 used v row_inside)

  pub kept_grown : Kept (i + 1) (used + v) grown
  kept_grown = record { few = omega arith; last = last_grown (i + 1) (omega arith); inside = inside_grown }
    where
      last_grown : (n : ℕ) → n ≡ i + 1 → end_of n grown ≡ used + v
      last_grown zero e = absurd (omega arith)
      last_grown (suc n) e = let d : n ≡ i = omega arith in ap (λ k. get_or grown k 0) d ∙ own_end

      before : (j : ℕ) → j < i → get_or grown j 0 ≤ used + v
      before j h =
          omega (
            arith,
            kept.inside j h,
            get_or-set_other pasted i j (used + v) 0 (λ e. omega (arith, e))
                ∙ getD_paste_below out (used * row_length + ends_length) value (v * row_length) j 0 (omega arith) (omega arith),
          )

      at : (j : ℕ) → j < i + 1 → Dec (j ≡ i) → get_or grown j 0 ≤ used + v
      at j h (yes e) = omega (arith, ap (λ k. get_or grown k 0) e, own_end)
      at j h (no ne) = before j (omega arith)

      inside_grown : (j : ℕ) → j < i + 1 → get_or grown j 0 ≤ used + v
      inside_grown j h = at j h (ℕ_discrete j i)

pub none_kept : (out : Words) → Kept 0 0 out
none_kept out = record { few = omega arith; last = refl; inside = λ j h. absurd (not-suc-le-zero h) }

-- ## 15

module _ (S : Stage) (l : Lifted) (w : Vector) (v : ℕ) (n : length w ≡ v) where
  pub with_room : l.1 + v ≤ S.reduction.limits.level_terms → done (l.0 ++ w ∷ [], l.1 + v) ≡ with_vector S l (w, [])
  with_room h =
      ap (λ k. done (l.0 ++ w ∷ [], l.1 + k)) (sym n)
      ∙ sym (ap (λ b. add_vector b l w) (le-leb (l.1 + length w) S.reduction.limits.level_terms (omega (arith, n))))

  pub without_room : S.reduction.limits.level_terms < l.1 + v → refusal 15 ≡ with_vector S l (w, [])
  without_room h = sym (ap (λ b. add_vector b l w) (lt-leb (l.1 + length w) S.reduction.limits.level_terms (omega (arith, n))))

-- ## A frame term's component

pub frame_component : (g : Ground) (count : ℕ) (frame : Words) (i : ℕ) (t : Term) → Framed g count frame → i < count → t ≡ row_at frame i
    → (1 ≤ t.1.1) × (t.1.1 ≤ g.r)
frame_component g count frame i t f h e =
    let d : t.1.1 ≡ get_or frame (i * row_length + component_offset) 0 = ap (λ x. x.1.1) (e ∙ row_is frame i) in
    (omega (arith, d, (f.components i h).0), omega (arith, d, (f.components i h).1))
