-- The page of a sound state.
use mathlib.Core.Path.{◌≡◌, refl, sym, ap, ◌∙◌, subst}
use mathlib.Core.List.{List, [], ◌∷◌, reverse}
use Prim.Native.Nat.{ℕ, suc, ◌+◌, ◌-◌, ◌<◌, ◌≤◌}
use native.Mathlib.Omega.{arith}
use lib.Dec.{T, eqb, eqb→eq}
use lib.ListN.{length, get_or, length-append, length-reverse}
use Rattle.definitions.specs.Limits.{Limits}
use Rattle.definitions.specs.Lists.{◌and◌, between, map, from, sum}
use Rattle.definitions.specs.Monomial.{fits?}
use Rattle.definitions.specs.Problem.{Parameters}
use Rattle.definitions.specs.State.{State, sound?}
use Rattle.definitions.specs.Degrees.{carried}
use Rattle.definitions.specs.Pages.{page}
use Rattle.definitions.specs.Betti.{column_degrees, rows_in_use, smallest, largest, all_rows, betti_count, betti_page}
use Rattle.definitions.specs.Places.{most_degree, most_carried, page_columns, row_shift}
use Rattle.demands.specs.Notions.{Member}
use Rattle.laws.proofs.Tests.{and_left, and_right, between_low}
use Rattle.laws.proofs.Members.{All}
use Rattle.laws.proofs.Sound.{Sound, sound_says}
use Rattle.laws.proofs.RoundTrip.{length_carried}
use Rattle.betti.specs.Notions.{paged?, InUse}
use Rattle.betti.specs.Betti.{PageRight}
use Rattle.betti.proofs.Columns.{paged_says}
use Rattle.betti.proofs.Rows.{Row, rows_low, largest_low, length_from, columns_low, column_inside, column_few, totals_are, count_few}
use Rattle.betti.proofs.Lines.{columns_are, sound_wide, page_fits}
use Rattle.betti.proofs.Counting.{generators_are, counts_are, counts_below, all_are}
use Rattle.betti.proofs.InUse.{member_counted, counted_all, smallest_member, largest_member, Used, row_used}

module _ (lim : Limits) (p : T (paged? lim)) (X : State) (s : T (sound? lim X)) where
  abbrev q : Parameters
  q = X.parameters

  abbrev cs : List (List ℕ)
  cs = column_degrees X

  S : Sound lim X
  S = sound_says lim X s

  each_component : length q.degrees ≡ q.s
  each_component = eqb→eq (length q.degrees) q.s (and_left (eqb (length q.degrees) q.s) (fits? most_degree q.degrees) S.degrees)

  some_component : 1 ≤ q.s
  some_component = between_low 1 q.s lim.components (and_right (between 1 q.code 3) (between 1 q.s lim.components)
      (and_right (between 1 q.n lim.variables) (between 1 q.code 3 and between 1 q.s lim.components) S.ranges))

  -- components, and the levels: eleven columns at the most
  few_columns : length cs ≤ page_columns
  few_columns =
      let a = length-reverse (carried q.degrees X.levels) in
      let b = length_carried q.degrees X.levels in
      let c = S.height in
      let e = (paged_says lim p).levels in
      omega (arith, a, b, c, e)

  length_map : (f : ℕ → ℕ) (l : List ℕ) → length (map f l) ≡ length l
  length_map f [] = refl
  length_map f (a ∷ l) = ap suc (length_map f l)

  some_row : 1 ≤ length (rows_in_use 0 cs)
  some_row =
      let first = map (λ d. d + row_shift - 0) q.degrees in
      let a = length-append first (rows_in_use 1 (reverse (carried q.degrees X.levels))) in
      let b = length_map (λ d. d + row_shift - 0) q.degrees in
      omega (arith, a, b, each_component, some_component)

  used_is : (r : ℕ) → Used 0 cs r → InUse q X.levels r
  used_is r u =
      let l = u.inside in
      let e = u.row in
      record {
        column = u.column;
        inside = omega (arith, l, few_columns);
        degree = u.degree;
        row = omega (arith, e, l, few_columns);
        some_there = subst (λ n. 0 < n) (generators_are X each_component u.column u.degree)
            (member_counted u.degree (get_or cs u.column []) u.member);
      }

  pub page_right : PageRight q X.levels (betti_page X)
  page_right = go (rows_in_use 0 cs) refl some_row
    where
      go : (rows : List ℕ) → rows_in_use 0 cs ≡ rows → 1 ≤ length rows → PageRight q X.levels (betti_page X)
      go [] e l = absurd (omega (arith, l))
      go (r ∷ rs) e l =
          let all : all_rows (rows_in_use 0 cs) ≡ from (smallest r rs) (suc (largest r rs) - smallest r rs) = ap all_rows e in
          let C = columns_are lim p X s in
          let W = sound_wide lim p X s in
          record {
            first = smallest r rs;
            last = largest r rs;
            at = betti_count cs;
            text = ap (page (betti_count cs)) all;
            smallest = used_is (smallest r rs) (row_used 0 cs (smallest r rs) (subst (Member (smallest r rs)) (sym e) (smallest_member r rs)));
            largest = used_is (largest r rs) (row_used 0 cs (largest r rs) (subst (Member (largest r rs)) (sym e) (largest_member r rs)));
            all = λ row u. inside r rs e row u;
            counts = λ row c x i k. counts_are X each_component row c x k;
            below = λ row c k. counts_below X each_component row c k;
            totals = λ c i.
                ap (λ l. sum (map (λ r. betti_count cs r c) l)) (sym all)
                ∙ totals_are cs c (omega (arith, i)) ∙ all_are X each_component c;
            few = count_few cs C;
            few_in_all = λ c i. let a = all_are X each_component c in let b = column_few cs C c in omega (arith, a, b);
            low = let k : All (Row most_carried) (r ∷ rs) = subst (All (Row most_carried)) e (rows_low most_carried 0 cs (columns_low cs C)) in
                largest_low most_carried r rs k.0 k.1;
            wide = W.wide;
            many = let a = W.many in let b = ap length all in let c = length_from (smallest r rs) (suc (largest r rs) - smallest r rs) in
                omega (arith, a, b, c);
            short = page_fits lim p X s;
          }
        where
          inside : (r : ℕ) (rs : List ℕ) → rows_in_use 0 cs ≡ r ∷ rs → (row : ℕ) → InUse q X.levels row → (smallest r rs ≤ row) × (row ≤ largest r rs)
          inside r rs e row u =
              let i = u.inside in
              let z = u.row in
              let k = counted_all (λ d. (smallest r rs + u.column ≤ d + row_shift)
              × (d + row_shift < smallest r rs + (suc (largest r rs) - smallest r rs) + u.column)) u.degree (get_or cs u.column [])
              (subst (λ n. 0 < n) (sym (generators_are X each_component u.column u.degree)) u.some_there)
              (column_inside cs u.column (omega (arith, i)) r rs e) in
              let a = k.0 in
              let b = k.1 in
              (omega (arith, a, z), omega (arith, a, b, z))
