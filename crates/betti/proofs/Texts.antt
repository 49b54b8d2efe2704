-- Cells and labels of a page: texts of six bytes without a line's end.
use mathlib.Core.Path.{◌≡◌}
use mathlib.Core.Bool.{Bool, true, false, not}
use mathlib.Core.List.{[], ◌∷◌, ◌++◌}
use Prim.Native.Nat.{ℕ, zero, suc, ◌+◌, ◌-◌, ◌*◌, ◌/◌, ◌%◌, ◌<◌, ◌≤◌}
use native.Mathlib.Omega.{arith}
use lib.Dec.{T, ltb, eqb, eqb→eq, ltb→lt, nltb→le}
use lib.ListN.{length, replicate, length-append, length-replicate}
use Rattle.definitions.specs.Lists.{every}
use Rattle.definitions.specs.Problem.{Bytes, newline}
use Rattle.definitions.specs.Sheet.{digits, decimal}
use Rattle.definitions.specs.Pages.{right_aligned, cell, row_number, row_label, total_label}
use Rattle.definitions.specs.Places.{most_vectors, most_carried, cell_length, row_shift}
use Rattle.laws.proofs.Tests.{and_both, every_append}

-- ## Texts in a line

abbrev pub in_line? : ℕ → Bool
in_line? b = not (eqb b newline)

in_line : (b : ℕ) → newline < b → T (in_line? b)
in_line b h = go (eqb b newline) (eqb→eq b newline)
  where
    go : (c : Bool) → (T c → b ≡ newline) → T (not c)
    go true e = absurd (let z : b ≡ newline = e tt in omega (arith, z, h))
    go false e = tt

-- a text within a line, of at most so many bytes
pub record Short (most : ℕ) (t : Bytes) : Type 0 where
  pub few : length t ≤ most
  pub within : T (every in_line? t)

-- a text of a cell's length
pub record Filling (t : Bytes) : Type 0 where
  pub long : length t ≡ cell_length
  pub within : T (every in_line? t)

blanks : (n : ℕ) → T (every in_line? (replicate n 32))
blanks zero = tt
blanks (suc n) = blanks n

aligned : (t : Bytes) → Short cell_length t → Filling (right_aligned t)
aligned t s = record {
  long = let a = length-append (replicate (cell_length - length t) 32) t in let b = length-replicate {A = ℕ} (cell_length - length t) 32 in
      let c = s.few in omega (arith, a, b, c);
  within = every_append in_line? (replicate (cell_length - length t) 32) t (blanks (cell_length - length t)) s.within;
}

-- ## Numbers

abbrev power : ℕ → ℕ
power zero = 1
power (suc k) = 10 * power k

digits_short : (n k v : ℕ) → v < power (suc k) → Short (suc k) (digits n v)
digits_short zero k v h = record { few = omega arith; within = tt }
digits_short (suc n) k v h = go (ltb v 10) (ltb→lt v 10) (nltb→le v 10) k h (λ j i. digits_short n j (v / 10) i)
  where
    go : (b : Bool) → (T b → v < 10) → (T (not b) → 10 ≤ v) → (k : ℕ) → v < power (suc k)
        → ((j : ℕ) → v / 10 < power (suc j) → Short (suc j) (digits n (v / 10)))
        → Short (suc k) (elim b [ true ↦ (48 + v) ∷ [] | false ↦ digits n (v / 10) ++ (48 + v % 10) ∷ [] ])
    go true s g k h ih = record { few = omega arith; within = and_both (in_line? (48 + v)) true (in_line (48 + v) (omega arith)) tt }
    go false s g zero h ih = absurd (let l = g tt in omega (arith, l, h))
    go false s g (suc k) h ih =
        let r = ih k (let l = g tt in omega (arith, l, h)) in
        record {
          few = let a = length-append (digits n (v / 10)) ((48 + v % 10) ∷ []) in let b = r.few in omega (arith, a, b);
          within = every_append in_line? (digits n (v / 10)) ((48 + v % 10) ∷ []) r.within
              (and_both (in_line? (48 + v % 10)) true (in_line (48 + v % 10) (omega arith)) tt);
        }

wider : (k : ℕ) (t : Bytes) → k ≤ cell_length → Short k t → Short cell_length t
wider k t l s = record { few = let f = s.few in omega (arith, f, l); within = s.within }

-- a count: as many generators as a column can have
pub cell_fills : (v : ℕ) → v ≤ most_vectors → Filling (cell v)
cell_fills v h = go (eqb v 0)
  where
    go : (b : Bool) → Filling (elim b [ true ↦ right_aligned (45 ∷ []) | false ↦ right_aligned (decimal v) ])
    go true = aligned (45 ∷ []) (record { few = omega arith; within = tt })
    go false = aligned (decimal v) (wider 3 (decimal v) (omega arith) (digits_short (suc v) 2 v (omega (arith, h))))

-- a row's number is from −10 on, and has five digits at the most
pub label_fills : (r : ℕ) → r ≤ most_carried + row_shift → Filling (row_label r)
label_fills r h = aligned (row_number r ++ 58 ∷ []) (go (ltb r row_shift) (ltb→lt r row_shift) (nltb→le r row_shift))
  where
    go : (b : Bool) → (T b → r < row_shift) → (T (not b) → row_shift ≤ r)
        → Short cell_length ((elim b [ true ↦ 45 ∷ decimal (row_shift - r) | false ↦ decimal (r - row_shift) ]) ++ 58 ∷ [])
    go true s g =
        let d = digits_short (suc (row_shift - r)) 1 (row_shift - r) (omega arith) in
        record {
          few = let a = length-append (decimal (row_shift - r)) (58 ∷ []) in let b = d.few in omega (arith, a, b);
          within = every_append in_line? (decimal (row_shift - r)) (58 ∷ []) d.within tt;
        }
    go false s g =
        let d = digits_short (suc (r - row_shift)) 4 (r - row_shift) (let l = g tt in omega (arith, l, h)) in
        record {
          few = let a = length-append (decimal (r - row_shift)) (58 ∷ []) in let b = d.few in omega (arith, a, b);
          within = every_append in_line? (decimal (r - row_shift)) (58 ∷ []) d.within tt;
        }

pub total_fills : Filling total_label
total_fills = aligned (116 ∷ 111 ∷ 116 ∷ 97 ∷ 108 ∷ []) (record { few = omega arith; within = tt })
