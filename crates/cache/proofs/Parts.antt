-- Rows of a part of a slice, and of a slice after a part of it was written.
use mathlib.Core.Path.{◌≡◌, ap, ◌∙◌}
use mathlib.Core.List.{◌++◌}
use Prim.Native.Nat.{ℕ, ◌+◌, ◌-◌, ◌*◌, ◌<◌, ◌≤◌}
use native.Mathlib.Omega.{arith}
use lib.ListN.{length, take, drop, get_or, length-drop, get_or-append}
use lib.Seq.{paste, get_or-append-add, get_or-take, get_or-drop, length-take-le}
use Rattle.definitions.specs.Layout.{Words, row_at, rows}
use Rattle.laws.proofs.Rows.{rows_same}
use Rattle.definitions.specs.Places.{row_length}
use Rattle.vectors.proofs.terms.Moving.{getD_paste_in, getD_paste_below}
use Rattle.vectors.proofs.terms.Stored.{same_row}
use Rattle.cache.specs.Area.{Keeps, Leaves, Copied}
use Rattle.std.specs.List.{CopiedTo, SameBelow}

-- ## A part that is read

pub part_row : (s : Words) (a n k : ℕ) → k * row_length + row_length ≤ n → row_at (take n (drop (a * row_length) s)) k ≡ row_at s (a + k)
part_row s a n k h =
    same_row s (take n (drop (a * row_length) s)) (a + k) k λ j l.
    let e : a * row_length + (k * row_length + j) ≡ (a + k) * row_length + j = omega arith in
    get_or-take n (drop (a * row_length) s) (k * row_length + j) 0 (omega arith) ∙ get_or-drop (a * row_length) s (k * row_length + j) 0
    ∙ ap (λ x. get_or s x 0) e

pub part_rows : (s : Words) (a n m : ℕ) → m * row_length ≤ n → rows (take n (drop (a * row_length) s)) 0 m ≡ rows s a m
part_rows s a n m h =
    rows_same s (take n (drop (a * row_length) s)) a 0 m λ k l.
    let z : 0 + k ≡ k = omega arith in
    ap (row_at (take n (drop (a * row_length) s))) z ∙ part_row s a n k (omega arith)

pub length_part : (s : Words) (a n : ℕ) → a + n ≤ length s → length (take n (drop a s)) ≡ n
length_part s a n h = length-take-le n (drop a s) (omega (arith, length-drop a s))

-- ## A part that was written

module _ (s p : Words) (a top : ℕ) (fits : top * row_length ≤ length s) (order : a ≤ top) (long : length p ≡ top * row_length - a * row_length) where
  abbrev pub back : Words
  back = take (a * row_length) s ++ (p ++ drop (top * row_length - a * row_length) (drop (a * row_length) s))

  before : length (take (a * row_length) s) ≡ a * row_length
  before = length-take-le (a * row_length) s (omega arith)

  pub back_inside : (k : ℕ) → k < top - a → row_at back (a + k) ≡ row_at p k
  back_inside k h =
      same_row p back k (a + k) λ j l.
      let e : (a + k) * row_length + j ≡ length (take (a * row_length) s) + (k * row_length + j) = omega (arith, before) in
      ap (λ x. get_or back x 0) e
      ∙ get_or-append-add (take (a * row_length) s) (p ++ drop (top * row_length - a * row_length) (drop (a * row_length) s)) (k * row_length + j) 0
      ∙ get_or-append p (drop (top * row_length - a * row_length) (drop (a * row_length) s)) 0 (k * row_length + j) (omega arith)

  pub back_keeps : Keeps a s back
  back_keeps k h =
      same_row s back k k λ j l.
      get_or-append (take (a * row_length) s) (p ++ drop (top * row_length - a * row_length) (drop (a * row_length) s)) 0 (k * row_length + j)
      (omega (arith, before))
      ∙ get_or-take (a * row_length) s (k * row_length + j) 0 (omega arith)

  pub back_leaves : Leaves top s back
  back_leaves k h =
      same_row s back k k λ j l.
      let x : ℕ = k * row_length + j - top * row_length in
      let e : k * row_length + j ≡ length (take (a * row_length) s) + (length p + (k * row_length + j - top * row_length)) = omega (arith, before) in
      let f : a * row_length + (top * row_length - a * row_length + (k * row_length + j - top * row_length)) ≡ k * row_length + j = omega arith in
      ap (λ x. get_or back x 0) e
      ∙ get_or-append-add (take (a * row_length) s) (p ++ drop (top * row_length - a * row_length) (drop (a * row_length) s))
      (length p + (k * row_length + j - top * row_length)) 0
      ∙ get_or-append-add p (drop (top * row_length - a * row_length) (drop (a * row_length) s)) (k * row_length + j - top * row_length) 0
      ∙ get_or-drop (top * row_length - a * row_length) (drop (a * row_length) s) (k * row_length + j - top * row_length) 0
      ∙ get_or-drop (a * row_length) s (top * row_length - a * row_length + (k * row_length + j - top * row_length)) 0
      ∙ ap (λ x. get_or s x 0) f

-- ## Rows copied in

pub pasted_inside : (d s : Words) (u n k : ℕ) → (u + n) * row_length ≤ length d → n * row_length ≤ length s → k < n
    → row_at (paste d (u * row_length) s (n * row_length)) (u + k) ≡ row_at s k
pasted_inside d s u n k h l m =
    same_row s (paste d (u * row_length) s (n * row_length)) k (u + k) λ j q.
    let e : (u + k) * row_length + j ≡ u * row_length + (k * row_length + j) = omega arith in
    ap (λ x. get_or (paste d (u * row_length) s (n * row_length)) x 0) e
    ∙ getD_paste_in d (u * row_length) s (n * row_length) (k * row_length + j) 0 (omega arith) l (omega arith)

pub pasted_below : (d s : Words) (u n : ℕ) → u * row_length ≤ length d → Keeps u d (paste d (u * row_length) s (n * row_length))
pasted_below d s u n h k m = same_row d (paste d (u * row_length) s (n * row_length)) k k
    (λ j q. getD_paste_below d (u * row_length) s (n * row_length) (k * row_length + j) 0 h (omega arith))

-- ## Rows moved within a slice

pub moved_rows : (s z : Words) (a n b : ℕ) → CopiedTo s z (a * row_length) (b * row_length) ((a + n) * row_length - a * row_length) → Copied a s n b z
moved_rows s z a n b w k h =
    same_row s z (a + k) (b + k) λ j l.
    let f : a * row_length + ((b + k) * row_length + j - b * row_length) ≡ (a + k) * row_length + j = omega arith in
    w ((b + k) * row_length + j) 0 (omega arith) (omega arith) ∙ ap (λ x. get_or s x 0) f

pub kept_rows : (s z : Words) (a b : ℕ) → a ≤ b → SameBelow s z (b * row_length) → Keeps a s z
kept_rows s z a b h w k l = same_row s z k k (λ j m. w (k * row_length + j) 0 (omega arith))

-- the rows of a sum that is kept
pub rows_kept : (s z : Words) (a n b : ℕ) → a + n ≤ b → Keeps b s z → rows z a n ≡ rows s a n
rows_kept s z a n b h w = rows_same s z a a n (λ k l. w (a + k) (omega arith))
