-- The page of a sound state, in the rows of its Betti page.
use mathlib.Core.Path.{◌≡◌, refl, sym, ap, ap₂, ◌∙◌, subst}
use mathlib.Core.Bool.{Bool, true, false, not}
use mathlib.Core.List.{List, [], ◌∷◌}
use Prim.Native.Nat.{ℕ, suc, ◌+◌, ◌-◌, ◌<◌, ◌≤◌}
use native.Mathlib.Omega.{arith}
use lib.Dec.{T, ltb, ltb→lt, nltb→le}
use lib.ListN.{length, get_or, length-reverse}
use Rattle.definitions.specs.Limits.{Limits}
use Rattle.definitions.specs.Lists.{map, from, sum}
use Rattle.definitions.specs.Problem.{Parameters}
use Rattle.definitions.specs.State.{State, sound?}
use Rattle.definitions.specs.Degrees.{carried}
use Rattle.definitions.specs.Pages.{page}
use Rattle.definitions.specs.Betti.{column_degrees, rows_in_use, smallest, largest, all_rows, betti_count, betti_page}
use Rattle.definitions.specs.Minimal.{minimal_number, minimal_page}
use Rattle.definitions.specs.Places.{most_vectors, most_carried, page_columns, row_shift, page_length}
use Rattle.laws.proofs.Sound.{sound_says}
use Rattle.laws.proofs.RoundTrip.{length_carried}
use Rattle.demands.specs.Notions.{Member}
use Rattle.demands.specs.Exact.{Exact}
use Rattle.ranks.specs.Ranks.{RanksRight}
use Rattle.betti.specs.Notions.{paged?, InUse}
use Rattle.betti.specs.Betti.{PageRight}
use Rattle.betti.proofs.Columns.{paged_says}
use Rattle.betti.proofs.Rows.{rows_few, columns_low, length_from, smallest_least, largest_greatest, count_few, total_few, totals_are}
use Rattle.betti.proofs.Lines.{PageWide, page_wide, columns_are, sound_wide, page_fits}
use Rattle.betti.proofs.Counting.{generators_are, counts_are, counts_below, all_are}
use Rattle.betti.proofs.InUse.{member_counted, smallest_member, largest_member, row_used}
use Rattle.betti.proofs.Pages.{page_right}
use Rattle.minimal_numbers.specs.Minimal.{MinimalRight}
use Rattle.minimal_numbers.proofs.Degrees.{Eights, HomogeneousLevels}
use Rattle.minimal_numbers.proofs.Matrices.{each_component}
use Rattle.minimal_numbers.proofs.Numbers.{numbers_right}

sum_less : (f g : ℕ → ℕ) → ((r : ℕ) → f r ≤ g r) → (l : List ℕ) → sum (map f l) ≤ sum (map g l)
sum_less f g h [] = omega arith
sum_less f g h (r ∷ l) = let a = h r in let b = sum_less f g h l in omega (arith, a, b)

module _ (lim : Limits) (p : T (paged? lim)) (X : State) (s : T (sound? lim X)) where
  abbrev q : Parameters
  q = X.parameters

  abbrev cs : List (List ℕ)
  cs = column_degrees X

  abbrev rows : List ℕ
  rows = all_rows (rows_in_use 0 cs)

  -- ## Its lines

  number_most : (r c : ℕ) → minimal_number X cs r c ≤ betti_count cs r c
  number_most r c = omega arith

  pub number_few : (r c : ℕ) → minimal_number X cs r c ≤ most_vectors
  number_few r c = let a = count_few cs (columns_are lim p X s) r c in let b = number_most r c in omega (arith, a, b)

  pub numbers_few : (c : ℕ) → c ≤ row_shift → sum (map (λ r. minimal_number X cs r c) rows) ≤ most_vectors
  numbers_few c l =
      let a = sum_less (λ r. minimal_number X cs r c) (λ r. betti_count cs r c) (λ r. number_most r c) rows in
      let b = total_few cs (columns_are lim p X s) c l in
      omega (arith, a, b)

  pub minimal_wide : PageWide (minimal_number X cs) number_few rows
  minimal_wide =
      page_wide (minimal_number X cs) number_few rows (rows_few most_carried cs (columns_low cs (columns_are lim p X s))).each numbers_few

  -- as long as the Betti page
  pub minimal_long : length (minimal_page X) ≡ length (betti_page X)
  minimal_long = let a = minimal_wide.long in let b = (sound_wide lim p X s).long in omega (arith, a, b)

  pub minimal_fits : length (minimal_page X) ≤ page_length
  minimal_fits = let a = page_fits lim p X s in let b = minimal_long in omega (arith, a, b)

  -- ## Its rows

  few_columns : length cs ≤ page_columns
  few_columns =
      let a = length-reverse (carried q.degrees X.levels) in
      let b = length_carried q.degrees X.levels in
      let c = (sound_says lim X s).height in
      let e = (paged_says lim p).levels in
      omega (arith, a, b, c, e)

  row_in_use : (r : ℕ) → Member r (rows_in_use 0 cs) → InUse q X.levels r
  row_in_use r m =
      let u = row_used 0 cs r m in
      let l = u.inside in
      let e = u.row in
      record {
        column = u.column;
        inside = omega (arith, l, few_columns);
        degree = u.degree;
        row = omega (arith, e, l, few_columns);
        some_there = subst (λ n. 0 < n) (generators_are X (each_component lim X s) u.column u.degree)
            (member_counted u.degree (get_or cs u.column []) u.member);
      }

  -- a page of these levels has the rows from the smallest to the largest
  same_rows : (P : PageRight q X.levels (betti_page X)) → rows ≡ from P.first (suc P.last - P.first)
  same_rows P = go (rows_in_use 0 cs) refl
    where
      many : length rows ≡ suc P.last - P.first
      many = let a = P.many in let b = (sound_wide lim p X s).many in omega (arith, a, b)

      go : (l : List ℕ) → rows_in_use 0 cs ≡ l → rows ≡ from P.first (suc P.last - P.first)
      go [] e =
          let z : suc P.last - P.first ≡ 0 = let a = ap (λ l. length (all_rows l)) e in omega (arith, a, many) in
          ap all_rows e ∙ ap (from P.first) (sym z)
      go (r ∷ rs) e =
          let lo = (P.all (smallest r rs) (row_in_use (smallest r rs) (subst (Member (smallest r rs)) (sym e) (smallest_member r rs)))).0 in
          let hi = (P.all (largest r rs) (row_in_use (largest r rs) (subst (Member (largest r rs)) (sym e) (largest_member r rs)))).1 in
          let a = (smallest_least r rs).0 in
          let b = (largest_greatest r rs).0 in
          let k = ap (λ l. length (all_rows l)) e in
          let n = length_from (smallest r rs) (suc (largest r rs) - smallest r rs) in
          let first : smallest r rs ≡ P.first = omega (arith, lo, hi, a, b, k, n, many) in
          let last : suc (largest r rs) - smallest r rs ≡ suc P.last - P.first = omega (arith, k, n, many) in
          ap all_rows e ∙ ap₂ from first last

  -- A1's numbers are the counts
  at_most : (P : PageRight q X.levels (betti_page X)) (r c : ℕ) → c < page_columns → minimal_number X cs r c ≤ P.at r c
  at_most P r c i = go (ltb (r + c) row_shift) (ltb→lt (r + c) row_shift) (nltb→le (r + c) row_shift)
    where
      go : (b : Bool) → (T b → r + c < row_shift) → (T (not b) → row_shift ≤ r + c) → minimal_number X cs r c ≤ P.at r c
      go true l n = let a = counts_below X (each_component lim X s) r c (l tt) in omega (arith, a)
      go false l n =
          let h = n tt in
          let e : (r + c - row_shift) + row_shift ≡ r + c = omega (arith, h) in
          let a = P.counts r c (r + c - row_shift) i e in
          let b = counts_are X (each_component lim X s) r c (r + c - row_shift) e in
          let m = number_most r c in
          omega (arith, a, b, m)

  -- ## The page

  module _ (R : RanksRight) (x : Exact lim q X.levels) (E : Eights X.levels) (H : HomogeneousLevels q.degrees X.levels) where
    pub minimal_right : MinimalRight q X.levels (betti_page X) (minimal_page X)
    minimal_right =
        let P = page_right lim p X s in
        let same = same_rows P in
        record {
          counts = P;
          at = minimal_number X cs;
          numbers = numbers_right R lim X s x E H;
          text = ap (page (minimal_number X cs)) same;
          at_most = λ r c i. at_most P r c i;
          totals = λ c i.
              let a = sum_less (λ r. minimal_number X cs r c) (λ r. betti_count cs r c) (λ r. number_most r c) rows in
              let b = totals_are cs c (omega (arith, i)) in
              let e = all_are X (each_component lim X s) c in
              let f = ap (λ l. sum (map (λ r. minimal_number X cs r c) l)) same in
              omega (arith, a, b, e, f);
          wide = minimal_wide.wide;
          many = let a = minimal_wide.many in let b = (sound_wide lim p X s).many in omega (arith, a, b);
          long = minimal_long;
          short = minimal_fits;
        }
