-- Lines after lines: one row more, one vector more.
use mathlib.Core.Path.{◌≡◌, refl, sym, ap, ◌∙◌}
use mathlib.Core.List.{[], ◌∷◌, ◌++◌, append_assoc, append-nil}
use Prim.Native.Nat.{ℕ, suc, ◌+◌, ◌-◌, ◌<◌, ◌≤◌}
use native.Mathlib.Omega.{arith}
use lib.ListN.{length, get_or, take}
use lib.Seq.{length-take-le}
use Rattle.definitions.specs.Monomial.{Term, Vector, Level}
use Rattle.definitions.specs.Layout.{Words, rows, vectors_at}
use Rattle.definitions.specs.Sheet.{printed, term_fields, letter_S, letter_W, s_lines, vector_lines, w_lines}
use Rattle.listing.specs.printing.Lines.{term_lines}
use Rattle.reducers.specs.tables.Cuts.{start_of, cut_level}
use Rattle.reducers.proofs.tables.Cutting.{cut_more}

pub no_rows : (s : Words) (a : ℕ) → [] ≡ rows s a 0
unfolding rows
no_rows s a = refl

pub s_lines_last : (n k v : ℕ) (w : Vector) (t : Term) → s_lines n k v (w ++ t ∷ []) ≡ s_lines n k v w ++ printed letter_S (k ∷ v ∷ term_fields n t)
s_lines_last n k v [] t = append-nil (printed letter_S (k ∷ v ∷ term_fields n t))
s_lines_last n k v (u ∷ w) t =
    ap (λ z. printed letter_S (k ∷ v ∷ term_fields n u) ++ z) (s_lines_last n k v w t)
    ∙ sym (append_assoc (printed letter_S (k ∷ v ∷ term_fields n u)) (s_lines n k v w) (printed letter_S (k ∷ v ∷ term_fields n t)))

pub term_lines_last : (letter n : ℕ) (w : Vector) (t : Term)
    → term_lines letter n (w ++ t ∷ []) ≡ term_lines letter n w ++ printed letter (term_fields n t)
term_lines_last letter n [] t = append-nil (printed letter (term_fields n t))
term_lines_last letter n (u ∷ w) t =
    ap (λ z. printed letter (term_fields n u) ++ z) (term_lines_last letter n w t)
    ∙ sym (append_assoc (printed letter (term_fields n u)) (term_lines letter n w) (printed letter (term_fields n t)))

pub w_lines_are : (n : ℕ) (v : Vector) → term_lines letter_W n v ≡ w_lines n v
w_lines_are n [] = refl
w_lines_are n (t ∷ v) = ap (λ z. printed letter_W (term_fields n t) ++ z) (w_lines_are n v)

vector_lines_last : (n k v : ℕ) (fs : Level) (f : Vector) → vector_lines n k v (fs ++ f ∷ []) ≡ vector_lines n k v fs ++ s_lines n k (v + length fs) f
vector_lines_last n k v [] f = let e : v ≡ v + 0 = omega arith in append-nil (s_lines n k v f) ∙ ap (λ i. s_lines n k i f) e
vector_lines_last n k v (g ∷ fs) f =
    let e : suc v + length fs ≡ v + suc (length fs) = omega arith in
    ap (λ z. s_lines n k v g ++ z) (vector_lines_last n k (suc v) fs f ∙ ap (λ i. vector_lines n k (suc v) fs ++ s_lines n k i f) e)
    ∙ sym (append_assoc (s_lines n k v g) (vector_lines n k (suc v) fs) (s_lines n k (v + suc (length fs)) f))

-- ## Vectors by their ends

length_vectors : (s : Words) (a : ℕ) (es : Words) → length (vectors_at s a es) ≡ length es
length_vectors s a [] = refl
length_vectors s a (e ∷ es) = ap suc (length_vectors s e es)

pub length_cut : (j : ℕ) (level ends : Words) → j ≤ length ends → length (cut_level j level ends) ≡ j
length_cut j level ends h = length_vectors level 0 (take j ends) ∙ length-take-le j ends h

pub vector_more : (n k j : ℕ) (level ends : Words) → j < length ends
    → vector_lines n k 1 (cut_level j level ends) ++ s_lines n k (j + 1) (rows level (start_of ends j) (get_or ends j 0 - start_of ends j))
    ≡ vector_lines n k 1 (cut_level (j + 1) level ends)
vector_more n k j level ends h =
    let f = rows level (start_of ends j) (get_or ends j 0 - start_of ends j) in
    let e : j + 1 ≡ 1 + length (cut_level j level ends) = omega (arith, length_cut j level ends (omega arith)) in
    ap (λ i. vector_lines n k 1 (cut_level j level ends) ++ s_lines n k i f) e
    ∙ sym (vector_lines_last n k 1 (cut_level j level ends) f)
    ∙ sym (ap (vector_lines n k 1) (cut_more j level ends h))
