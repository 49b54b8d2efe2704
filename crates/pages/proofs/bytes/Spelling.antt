-- Bytes after bytes, and numbers digit by digit.
use mathlib.Core.Path.{◌≡◌, refl, sym, ap, ◌∙◌, subst}
use mathlib.Core.Bool.{Bool, true, false}
use mathlib.Core.List.{[], ◌∷◌, ◌++◌, append_assoc, append-nil}
use Prim.Native.Nat.{ℕ, zero, suc, ◌+◌, ◌*◌, ◌/◌, ◌%◌, ◌<◌, ◌≤◌}
use native.Mathlib.Omega.{arith}
use borrow.Author.Tests.{lt-ltb, le-ltb, ltb-true, ltb-false}
use lib.Dec.{ltb}
use lib.ListN.{length, take, set, replicate, length-append, length-replicate}
use lib.Seq.{take-suc-set}
use Rattle.definitions.specs.Problem.{Bytes}
use Rattle.definitions.specs.Sheet.{digits, decimal}
use Rattle.pages.specs.bytes.Printing.{Printed}

-- ## Bytes

pub nothing : (s : Bytes) (at : ℕ) → Printed s s at at []
nothing s at = record { front = sym (append-nil (take at s)); ends = omega arith }

pub one_byte : (s : Bytes) (at x : ℕ) → at < length s → Printed s (set s at x) at (at + 1) (x ∷ [])
one_byte s at x h = let e : at + 1 ≡ suc at = omega arith in record { front = ap (λ n. take n (set s at x)) e ∙ take-suc-set s at x h; ends = refl }

pub after : {a b c : Bytes} {at m r : ℕ} {xs ys : Bytes} → Printed a b at m xs → Printed b c m r ys → Printed a c at r (xs ++ ys)
after {a} {b} {c} {at} {m} {r} {xs} {ys} p q = record {
  front = q.front ∙ ap (λ z. z ++ ys) p.front ∙ append_assoc (take at a) xs ys;
  ends = let l = length-append xs ys in omega (arith, p.ends, q.ends, l);
}

pub spelled : {a b : Bytes} {at r : ℕ} {xs ys : Bytes} → xs ≡ ys → Printed a b at r xs → Printed a b at r ys
spelled {a} {b} {at} {r} e p = subst (Printed a b at r) e p

-- ## Numbers

digits_enough : (n m v : ℕ) → v < n → v < m → digits n v ≡ digits m v
digits_enough zero m v h k = absurd (omega arith)
digits_enough (suc n) zero v h k = absurd (omega arith)
digits_enough (suc n) (suc m) v h k = go (ltb v 10) refl (digits_enough n m (v / 10))
  where
    go : (b : Bool) → ltb v 10 ≡ b → (v / 10 < n → v / 10 < m → digits n (v / 10) ≡ digits m (v / 10))
        → ◌≡◌ {A = Bytes} (elim b [ true ↦ (48 + v) ∷ [] | false ↦ digits n (v / 10) ++ (48 + v % 10) ∷ [] ])
        (elim b [ true ↦ (48 + v) ∷ [] | false ↦ digits m (v / 10) ++ (48 + v % 10) ∷ [] ])
    go true e ih = refl
    go false e ih = let l = ltb-false v 10 e in ap (λ d. d ++ (48 + v % 10) ∷ []) (ih (omega (arith, l, h)) (omega (arith, l, k)))

pub one_digit : (v : ℕ) → v < 10 → (48 + v) ∷ [] ≡ decimal v
one_digit v h = sym (ap (λ b. elim b [ true ↦ (48 + v) ∷ [] | false ↦ digits v (v / 10) ++ (48 + v % 10) ∷ [] ]) (lt-ltb v 10 h))

pub more_digits : (v : ℕ) → 10 ≤ v → decimal (v / 10) ++ (48 + v % 10) ∷ [] ≡ decimal v
more_digits v h =
    ap (λ d. d ++ (48 + v % 10) ∷ []) (digits_enough (suc (v / 10)) v (v / 10) (omega arith) (omega (arith, h)))
    ∙ sym (ap (λ b. elim b [ true ↦ (48 + v) ∷ [] | false ↦ digits v (v / 10) ++ (48 + v % 10) ∷ [] ]) (le-ltb v 10 h))

-- ten times itself, n times
abbrev ten_to : ℕ → ℕ
ten_to zero = 1
ten_to (suc n) = 10 * ten_to n

short_one : (n v : ℕ) → ltb v 10 ≡ true → length (decimal v) ≤ suc n
short_one n v e = let l = ap length (sym (one_digit v (ltb-true v 10 e))) in omega (arith, l)

short_more : (n v : ℕ) → 10 ≤ v → length (decimal (v / 10)) ≤ n → length (decimal v) ≤ suc n
short_more n v h i = let l = ap length (sym (more_digits v h)) ∙ length-append (decimal (v / 10)) ((48 + v % 10) ∷ []) in omega (arith, l, i)

pub few_digits : (n v : ℕ) → v < ten_to (suc n) → length (decimal v) ≤ suc n
few_digits zero v h = short_one zero v (lt-ltb v 10 h)
few_digits (suc n) v h = go (ltb v 10) refl (few_digits n (v / 10))
  where
    go : (b : Bool) → ltb v 10 ≡ b → (v / 10 < ten_to (suc n) → length (decimal (v / 10)) ≤ suc n) → length (decimal v) ≤ suc (suc n)
    go true e ih = short_one (suc n) v e
    go false e ih = short_more (suc n) v (ltb-false v 10 e) (ih (omega (arith, h)))

pub digits_grow : (v : ℕ) → 10 ≤ v → length (decimal (v / 10)) + 1 ≡ length (decimal v)
digits_grow v h = sym (length-append (decimal (v / 10)) ((48 + v % 10) ∷ [])) ∙ ap length (more_digits v h)

-- ## Spaces

spaces_last : (n x : ℕ) → replicate n x ++ x ∷ [] ≡ replicate (suc n) x
spaces_last zero x = refl
spaces_last (suc n) x = ap (λ z. x ∷ z) (spaces_last n x)

pub spaces_more : (n x : ℕ) → replicate n x ++ x ∷ [] ≡ replicate (n + 1) x
spaces_more n x = let e : suc n ≡ n + 1 = omega arith in spaces_last n x ∙ ap (λ i. replicate i x) e

pub ends_spaces : {a b : Bytes} {at r : ℕ} (n x : ℕ) → Printed a b at r (replicate n x) → r ≡ at + n
ends_spaces {a} {b} {at} {r} n x p = p.ends ∙ ap (λ i. at + i) (length-replicate {A = ℕ} n x)
