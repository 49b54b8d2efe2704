-- "in lines of exactly 72 columns: a label of 6, then columns 0 to 10 of 6 each"; how long a page can be.
use mathlib.Core.Path.{◌≡◌, refl, sym, ap, ◌∙◌, subst}
use mathlib.Core.Bool.{Bool, true, false, not}
use mathlib.Core.List.{List, [], ◌∷◌, ◌++◌, append_assoc, append-nil}
use Prim.Native.Nat.{ℕ, zero, suc, ◌+◌, ◌-◌, ◌*◌, ◌<◌, ◌≤◌}
use native.Mathlib.Omega.{arith}
use lib.Dec.{T, eqb}
use lib.ListN.{length, length-append}
use Rattle.definitions.specs.Limits.{Limits, document_01}
use Rattle.definitions.specs.Lists.{every, empty?, map, from, sum}
use Rattle.definitions.specs.Problem.{Bytes, newline, onto, split, ended, lines}
use Rattle.definitions.specs.State.{State, sound?}
use Rattle.definitions.specs.Pages.{cell, cells, row_label, total_label, all_columns, row_line, row_lines, total_line, page}
use Rattle.definitions.specs.Betti.{column_degrees, rows_in_use, all_rows, betti_count, betti_page}
use Rattle.definitions.specs.Places.{most_vectors, most_carried, cell_length, page_columns, row_shift, page_line_length, page_length}
use Rattle.laws.proofs.Tests.{and_left, and_right, and_both, every_append}
use Rattle.laws.proofs.Members.{All}
use Rattle.betti.specs.Notions.{paged?, line_wide?}
use Rattle.betti.proofs.Texts.{in_line?, Filling, cell_fills, label_fills, total_fills}
use Rattle.betti.proofs.Columns.{Column, paged_says, sound_columns}
use Rattle.betti.proofs.Rows.{Row, rows_few, columns_low, count_few, total_few}

-- ## One line

split_line : (l rest : Bytes) → T (every in_line? l) → split newline (l ++ newline ∷ rest) ≡ l ∷ split newline rest
split_line [] rest t = refl
split_line (b ∷ l) rest t =
    go (eqb b newline) (and_left (in_line? b) (every in_line? l) t) (split_line l rest (and_right (in_line? b) (every in_line? l) t))
  where
    go : (c : Bool) → T (not c) → split newline (l ++ newline ∷ rest) ≡ l ∷ split newline rest
        → ◌≡◌ {A = List Bytes} (elim c [ true ↦ [] ∷ split newline (l ++ newline ∷ rest) | false ↦ onto b (split newline (l ++ newline ∷ rest)) ])
        ((b ∷ l) ∷ split newline rest)
    go true h e = absurd h
    go false h e = ap (onto b) e

split_some : (bytes : Bytes) → T (not (empty? (split newline bytes)))
split_some [] = tt
split_some (b ∷ bytes) = go (eqb b newline) (split newline bytes)
  where
    go : (c : Bool) (pieces : List Bytes) → T (not (empty? {A = Bytes} (elim c [ true ↦ [] ∷ pieces | false ↦ onto b pieces ])))
    go true pieces = tt
    go false [] = tt
    go false (piece ∷ pieces) = tt

ended_more : (piece : Bytes) (pieces : List Bytes) → T (not (empty? pieces)) → ended (piece ∷ pieces) ≡ (piece, true) ∷ ended pieces
ended_more piece [] t = absurd t
ended_more piece (next ∷ pieces) t = refl

lines_line : (l rest : Bytes) → T (every in_line? l) → lines (l ++ newline ∷ rest) ≡ (l, true) ∷ lines rest
lines_line l rest t = ap ended (split_line l rest t) ∙ ended_more l (split newline rest) (split_some rest)

-- the first line of bytes, and what is behind it
pub record FirstLine (bytes rest : Bytes) (long : ℕ) : Type 0 where
  pub first : Bytes
  pub is : lines bytes ≡ (first, true) ∷ lines rest
  pub so_long : length first ≡ long

abbrev Cell : ℕ → Type 0
Cell v = v ≤ most_vectors

cells_line : (before : Bytes) → T (every in_line? before) → (vs : List ℕ) → All Cell vs → (rest : Bytes)
    → FirstLine (before ++ (cells vs ++ rest)) rest (length before + length vs * cell_length)
cells_line before t [] h rest = record { first = before; is = lines_line before rest t; so_long = omega arith }
cells_line before t (v ∷ vs) h rest =
    let c = cell_fills v h.0 in
    let r = cells_line (before ++ cell v) (every_append in_line? before (cell v) t c.within) vs h.1 rest in
    let e : before ++ ((cell v ++ cells vs) ++ rest) ≡ (before ++ cell v) ++ (cells vs ++ rest) =
    ap (λ (z : Bytes). before ++ z) (append_assoc (cell v) (cells vs) rest) ∙ sym (append_assoc before (cell v) (cells vs ++ rest)) in
    record {
      first = r.first;
      is = ap lines e ∙ r.is;
      so_long = let a = r.so_long in let b = length-append before (cell v) in let s = c.long in omega (arith, a, b, s);
    }

length_cells : (vs : List ℕ) → All Cell vs → length (cells vs) ≡ suc (length vs * cell_length)
length_cells [] h = refl
length_cells (v ∷ vs) h =
    let a = length-append (cell v) (cells vs) in
    let b = length_cells vs h.1 in
    let c = (cell_fills v h.0).long in
    omega (arith, a, b, c)

-- ## A label and eleven numbers

-- bytes that are a line of 72 bytes and its end
pub record Wide (line : Bytes) : Type 0 where
  pub behind : (rest : Bytes) → FirstLine (line ++ rest) rest (page_line_length - 1)
  pub long : length line ≡ page_line_length

labelled : (label : Bytes) → Filling label → (vs : List ℕ) → length vs ≡ page_columns → All Cell vs → Wide (label ++ cells vs)
labelled label s vs l h = record {
  behind = λ rest.
      let r = cells_line label s.within vs h rest in
      record {
        first = r.first;
        is = ap lines (append_assoc label (cells vs) rest) ∙ r.is;
        so_long = let a = r.so_long in let b = s.long in omega (arith, a, b, l);
      };
  long = let a = length-append label (cells vs) in let b = length_cells vs h in let c = s.long in omega (arith, a, b, c, l);
}

one_more : (line rest : Bytes) → Wide line → T (every line_wide? (lines rest)) → T (every line_wide? (lines (line ++ rest)))
one_more line rest w h =
    let f = w.behind rest in
    subst (λ ls. T (every line_wide? ls)) (sym f.is)
    (and_both (eqb (suc (length f.first)) page_line_length) (every line_wide? (lines rest))
    (subst (λ n. T (eqb (suc n) page_line_length)) (sym f.so_long) tt) h)

-- ## All lines

-- columns 0 to 10
all_mapped : (f : ℕ → ℕ) (a n : ℕ) → ((c : ℕ) → c < a + n → Cell (f c)) → All Cell (map f (from a n))
all_mapped f a zero h = tt
all_mapped f a (suc n) h = (h a (omega arith), all_mapped f (suc a) n (λ c l. h c (omega arith)))

module _ (at : ℕ → ℕ → ℕ) (counts : (r c : ℕ) → Cell (at r c)) where
  row_wide : (r : ℕ) → Row most_carried r → Wide (row_line at r)
  row_wide r h =
      labelled (row_label r) (label_fills r h) (map (at r) all_columns) refl (all_mapped (at r) 0 page_columns (λ c l. counts r c))

  -- the lines of so many rows and what follows them
  pub record RowsThen (rs : List ℕ) (rest : Bytes) : Type 0 where
    pub wide : T (every line_wide? (lines (row_lines at rs ++ rest)))
    pub many : length (lines (row_lines at rs ++ rest)) ≡ length rs + length (lines rest)
    pub long : length (row_lines at rs ++ rest) ≡ length rs * page_line_length + length rest

  rows_then : (rs : List ℕ) → All (Row most_carried) rs → (rest : Bytes) → T (every line_wide? (lines rest)) → RowsThen rs rest
  rows_then [] h rest t = record { wide = t; many = omega arith; long = omega arith }
  rows_then (r ∷ rs) h rest t =
      let w = row_wide r h.0 in
      let more = rows_then rs h.1 rest t in
      let e : (row_line at r ++ row_lines at rs) ++ rest ≡ row_line at r ++ (row_lines at rs ++ rest) =
      append_assoc (row_line at r) (row_lines at rs) rest in
      record {
        wide = subst (λ (z : Bytes). T (every line_wide? (lines z))) (sym e) (one_more (row_line at r) (row_lines at rs ++ rest) w more.wide);
        many = let a = ap (λ (z : Bytes). length (lines z)) e in let b = ap length (w.behind (row_lines at rs ++ rest)).is in let c = more.many in
            omega (arith, a, b, c);
        long = let a = length-append (row_line at r) (row_lines at rs ++ rest) in let b = w.long in let c = more.long in let d = ap length e in
            omega (arith, a, b, c, d);
      }

  pub record PageWide (rs : List ℕ) : Type 0 where
    pub wide : T (every line_wide? (lines (page at rs)))
    pub many : length (lines (page at rs)) ≡ suc (length rs)
    pub long : length (page at rs) ≡ suc (length rs) * page_line_length

  pub page_wide : (rs : List ℕ) → All (Row most_carried) rs → ((c : ℕ) → c ≤ row_shift → Cell (sum (map (λ r. at r c) rs))) → PageWide rs
  page_wide rs h totals =
      let w : Wide (total_line at rs) =
      labelled total_label total_fills (map (λ c. sum (map (λ r. at r c) rs)) all_columns) refl
      (all_mapped (λ c. sum (map (λ r. at r c) rs)) 0 page_columns (λ c l. totals c (omega (arith, l)))) in
      let last : lines (total_line at rs) ≡ ((w.behind []).first, true) ∷ [] = sym (ap lines (append-nil (total_line at rs))) ∙ (w.behind []).is in
      let more = rows_then rs h (total_line at rs)
      (subst (λ (z : Bytes). T (every line_wide? (lines z))) (append-nil (total_line at rs)) (one_more (total_line at rs) [] w tt)) in
      record {
        wide = more.wide;
        many = let a = more.many in let b = ap length last in omega (arith, a, b);
        long = let a = more.long in let b = w.long in omega (arith, a, b);
      }

-- ## The page of a sound state

module _ (lim : Limits) (p : T (paged? lim)) (X : State) (s : T (sound? lim X)) where
  abbrev cs : List (List ℕ)
  cs = column_degrees X

  pub columns_are : All Column cs
  columns_are = sound_columns lim (paged_says lim p) X s

  pub sound_wide : PageWide (betti_count cs) (count_few cs columns_are) (all_rows (rows_in_use 0 cs))
  sound_wide =
      page_wide (betti_count cs) (count_few cs columns_are) (all_rows (rows_in_use 0 cs))
      (rows_few most_carried cs (columns_low cs columns_are)).each (total_few cs columns_are)

  -- how long it can be
  pub page_fits : length (betti_page X) ≤ page_length
  page_fits = let a = sound_wide.long in let b = (rows_few most_carried cs (columns_low cs columns_are)).few in omega (arith, a, b)

pub document_page_fits : (X : State) → T (sound? document_01 X) → length (betti_page X) ≤ page_length
document_page_fits X s = page_fits document_01 tt X s
