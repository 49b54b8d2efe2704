-- One row more, one byte more.
use mathlib.Core.Path.{◌≡◌, refl, sym, ap, ◌∙◌}
use mathlib.Core.Bool.{Bool, true, false}
use mathlib.Core.List.{[], ◌∷◌, ◌++◌, append_assoc, append-nil}
use Prim.Native.Nat.{ℕ, suc, ◌+◌, ◌<◌, ◌≤◌}
use Rattle.std.specs.Int.{from_bool}
use native.Mathlib.Omega.{arith}
use lib.Dec.{eqb}
use lib.ListN.{length, get_or, take}
use lib.Seq.{take-suc}
use Rattle.definitions.specs.Lists.{count, choose}
use Rattle.definitions.specs.Field.{times}
use Rattle.definitions.specs.Monomial.{Term, Vector}
use Rattle.definitions.specs.Problem.{Bytes, newline, letter_T}
use Rattle.definitions.specs.Reckoning.{scaled}
use Rattle.definitions.specs.Sheet.{printed, term_fields}
use Rattle.definitions.specs.Written.{element_lines}
use Rattle.completions.proofs.Texts.{counts}

pub element_last : (n i p c : ℕ) (v : Vector) (t : Term)
    → element_lines n i (scaled p c (v ++ t ∷ [])) ≡ element_lines n i (scaled p c v) ++ printed letter_T (i ∷ term_fields n (times p c t.0, t.1))
element_last n i p c [] t = append-nil (printed letter_T (i ∷ term_fields n (times p c t.0, t.1)))
element_last n i p c (u ∷ v) t =
    ap (λ z. printed letter_T (i ∷ term_fields n (times p c u.0, u.1)) ++ z) (element_last n i p c v t)
    ∙ sym (append_assoc (printed letter_T (i ∷ term_fields n (times p c u.0, u.1))) (element_lines n i (scaled p c v))
    (printed letter_T (i ∷ term_fields n (times p c t.0, t.1))))

abbrev ends : Bytes → ℕ
ends bytes = count (λ b. eqb b newline) bytes

count_one : (b : ℕ) → ends (b ∷ []) ≡ choose (eqb b newline) 1 0
count_one b = go (eqb b newline)
  where
    go : (t : Bool) → ◌≡◌ {A = ℕ} (elim t [ true ↦ suc (ends []) | false ↦ ends [] ]) (choose t 1 0)
    go true = refl
    go false = refl

-- 1 for the byte that ends a line, 0 for any other
pub one_ended : (b : ℕ) → from_bool (eqb b newline) ≡ choose (eqb b newline) 1 0
one_ended b = go (eqb b newline)
  where
    go : (t : Bool) → from_bool t ≡ choose {A = ℕ} t 1 0
    go true = refl
    go false = refl

pub ends_one : (b : ℕ) → choose (eqb b newline) 1 0 ≤ 1
ends_one b = go (eqb b newline)
  where
    go : (t : Bool) → choose t 1 0 ≤ 1
    go true = omega arith
    go false = omega arith

pub ends_more : (file : Bytes) (i : ℕ) → i < length file → ends (take i file) + choose (eqb (get_or file i 0) newline) 1 0 ≡ ends (take (i + 1) file)
ends_more file i h =
    let s : suc i ≡ i + 1 = omega arith in
    ap (λ k. ends (take i file) + k) (sym (count_one (get_or file i 0)))
    ∙ sym (counts (take i file) (get_or file i 0 ∷ []))
    ∙ ap ends (sym (take-suc file i 0 h))
    ∙ ap (λ k. ends (take k file)) s
