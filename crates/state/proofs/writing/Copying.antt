-- Rows copied one behind the other; where a level's last end stands.
use mathlib.Core.Path.{◌≡◌, refl, sym, ap, ◌∙◌, subst}
use mathlib.Core.List.{[], ◌∷◌, ◌++◌, append_assoc, append-nil}
use Prim.Native.Nat.{ℕ, zero, suc, ◌+◌, ◌*◌, ◌≤◌}
use native.Mathlib.Omega.{arith}
use lib.ListN.{length, take, drop, get_or, length-append}
use lib.Seq.{paste, take-paste, drop-paste, drop-drop, take_all, get_or-drop}
use Rattle.definitions.specs.Monomial.{Term, Vector}
use Rattle.definitions.specs.Layout.{Words, long_at, row_at, rows, row_of, rows_of}
use Rattle.laws.proofs.Packing.{Eight, unpack_eight}
use Rattle.laws.proofs.Rows.{Eights, row_is, no_terms, one_more, length_rows, length_rows_of, rows_of_append, rows_last, length_row}
use Rattle.definitions.specs.Places.{row_length, exponents_offset, count_offset}
use Rattle.vectors.specs.terms.Rows.{written}
use Rattle.reducers.specs.tables.Cuts.{start_of}
use Rattle.state.specs.soundness.Places.{ends_from}

-- ## One list pasted behind another

pub paste_joined : (d u w : Words) (a n m : ℕ) → length u ≡ n → length w ≡ m → a + (n + m) ≤ length d → paste (paste d a u n) (a + n) w m
    ≡ paste d a (u ++ w) (n + m)
paste_joined d u w a n m p q h =
    let z : a + n + m ≡ a + (n + m) = omega arith in
    let t : take (a + n) (paste d a u n) ≡ take a d ++ take n u = take-paste d a u n (omega arith) (omega arith) in
    let e : drop (a + n + m) (paste d a u n) ≡ drop (a + (n + m)) d = sym (drop-drop m (a + n) (paste d a u n))
    ∙ ap (drop m) (drop-paste d a u n (omega arith) (omega arith)) ∙ drop-drop m (a + n) d ∙ ap (λ k. drop k d) z in
    let f : take n u ++ take m w ≡ take (n + m) (u ++ w) = (λ i. take_all n u (omega arith) i ++ take_all m w (omega arith) i)
    ∙ sym (take_all (n + m) (u ++ w) (omega (arith, length-append u w))) in
    (λ i. (t i ++ take m w) ++ e i) ∙ ap (λ x. x ++ drop (a + (n + m)) d) (append_assoc (take a d) (take n u) (take m w) ∙ ap (λ x. take a d ++ x) f)

-- ## Rows as they are read have eight exponents in range

pub eight_row : (s : Words) (i : ℕ) → Eight (row_at s i).1.0
eight_row s i = subst (λ t. Eight t.1.0) (sym (row_is s i)) (unpack_eight (long_at s (i * row_length + exponents_offset)))

pub eights_rows : (s : Words) (a n : ℕ) → Eights (rows s a n)
unfolding rows
eights_rows s a zero = no_terms
eights_rows s a (suc n) = more (rows s a n) (eights_rows s a n)
  where
    more : (v : Vector) → Eights v → Eights (v ++ row_at s (a + n) ∷ [])
    more v no_terms = one_more (eight_row s (a + n)) no_terms
    more v (one_more {t} {v = w} h hs) = one_more h (more w hs)

pub length_spelled : (s : Words) (a n : ℕ) → length (rows_of (rows s a n)) ≡ n * row_length
length_spelled s a n = length_rows_of (rows s a n) ∙ ap (λ k. k * row_length) (length_rows s a n)

pub copied_none : (d value : Words) (used : ℕ) → d ≡ paste d (used * row_length) (rows_of (rows value 0 0)) (0 * row_length)
copied_none d value used = lib.Seq.paste-zero d (used * row_length) (rows_of (rows value 0 0))

-- one row more
pub copied_more : (d value : Words) (used j : ℕ) (t : Term) → used * row_length + (j * row_length + row_length) ≤ length d → t ≡ row_at value j
    → written (paste d (used * row_length) (rows_of (rows value 0 j)) (j * row_length)) (used + j) t
    ≡ paste d (used * row_length) (rows_of (rows value 0 (j + 1))) ((j + 1) * row_length)
copied_more d value used j t h e =
    let y : (used + j) * row_length ≡ used * row_length + j * row_length = omega arith in
    let z : j * row_length + row_length ≡ (j + 1) * row_length = omega arith in
    let x : 0 + j ≡ j = omega arith in
    let old : Words = paste d (used * row_length) (rows_of (rows value 0 j)) (j * row_length) in
    let r : rows_of (rows value 0 (j + 1)) ≡ rows_of (rows value 0 j) ++ row_of (row_at value j) =
    ap rows_of (rows_last value 0 j ∙ ap (λ i. rows value 0 j ++ row_at value i ∷ []) x) ∙ rows_of_append (rows value 0 j) (row_at value j ∷ [])
    ∙ ap (λ w. rows_of (rows value 0 j) ++ w) (append-nil (row_of (row_at value j))) in
    (λ i. paste old (y i) (row_of (e i)) row_length)
    ∙ paste_joined d (rows_of (rows value 0 j)) (row_of (row_at value j)) (used * row_length) (j * row_length) row_length (length_spelled value 0 j)
    (length_row (row_at value j)) h
    ∙ (λ i. paste d (used * row_length) (sym r i) (z i))

-- ## The last end

pub end_at : (s : Words) (k r : ℕ) → (r ≡ 0 → ⊥) → get_or s (count_offset k + r) 0 ≡ start_of (ends_from s k) r
end_at s k zero n = absurd (n refl)
end_at s k (suc r) n = let z : count_offset k + suc r ≡ suc (count_offset k) + r = omega arith in ap (λ i. get_or s i 0) z
    ∙ sym (get_or-drop (suc (count_offset k)) s r 0)

pub end_none : (s : Words) (k r : ℕ) → r ≡ 0 → 0 ≡ start_of (ends_from s k) r
end_none s k r e = ap (start_of (ends_from s k)) (sym e)
