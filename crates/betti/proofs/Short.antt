-- How long the page of a file can be: no degree is above eight exponents' and a component's.
use mathlib.Core.Path.{◌≡◌, sym, subst}
use mathlib.Core.List.{List, [], ◌∷◌, reverse, reverse-cons}
use Prim.Native.Nat.{ℕ, suc, ◌+◌, ◌*◌, ◌≤◌}
use native.Mathlib.Omega.{arith}
use lib.Dec.{T, eqb, leb, leb→le}
use lib.ListN.{length}
use Rattle.definitions.specs.Limits.{Limits}
use Rattle.definitions.specs.Monomial.{Level, fits?, leading, leading_monomials}
use Rattle.definitions.specs.Problem.{Parameters}
use Rattle.definitions.specs.State.{State, sound?}
use Rattle.definitions.specs.Degrees.{degrees_of, carried}
use Rattle.definitions.specs.Betti.{column_degrees, betti_page}
use Rattle.definitions.specs.Places.{exponents_length, most_exponent, most_degree, row_shift, page_line_length}
use Rattle.demands.specs.Exact.{Exact}
use Rattle.laws.proofs.Tests.{and_right}
use Rattle.laws.proofs.Members.{All, every_all, all_map, all_append}
use Rattle.laws.proofs.Sound.{sound_says}
use Rattle.laws.proofs.Degrees.{Headed, AllHeaded, sound_headed}
use Rattle.betti.specs.Notions.{paged?}
use Rattle.betti.proofs.Columns.{paged_says}
use Rattle.betti.proofs.Rows.{rows_few}
use Rattle.betti.proofs.Lines.{sound_wide}
use Rattle.betti.proofs.Images.{Small, AllSmall, levels_small, most_listed, degree_listed}

abbrev Low : List ℕ → Type 0
Low ds = All (λ x. x ≤ most_listed) ds

all_reverse : (l : List (List ℕ)) → All Low l → All Low (reverse l)
all_reverse [] h = tt
all_reverse (a ∷ l) h = subst (All Low) (sym (reverse-cons a l)) (all_append Low (reverse l) (a ∷ []) (all_reverse l h.1) (h.0, tt))

module _ (d : List ℕ) (t : T (fits? most_degree d)) where
  degrees_low : (below : List Level) (f : Level) → All Headed f → All (Small below) (leading_monomials f) → Low (degrees_of d below f)
  degrees_low below [] h s = tt
  degrees_low below (v ∷ f) h s =
      (degree_listed d t below v (let e : length (leading v).0 ≡ exponents_length = h.0.eight in omega (arith, e)) s.0, degrees_low below f h.1 s.1)

  carried_low : (lim : Limits) (small : lim.exponent ≤ most_exponent) (q : Parameters) (ls : List Level) → AllHeaded ls → AllSmall lim small q ls
      → All Low (carried d ls)
  carried_low lim small q [] h s = tt
  carried_low lim small q (f ∷ below) h s = (degrees_low below f h.0 s.0, carried_low lim small q below h.1 s.1)

module _ (lim : Limits) (p : T (paged? lim)) (X : State) (s : T (sound? lim X)) (e : Exact lim X.parameters X.levels) where
  columns_listed : All Low (column_degrees X)
  columns_listed =
      let S = sound_says lim X s in
      let q = X.parameters in
      let small = (paged_says lim p).exponent in
      let fit = and_right (eqb (length q.degrees) q.s) (fits? most_degree q.degrees) S.degrees in (
        all_map (λ x. T (leb x most_degree)) (λ x. x ≤ most_listed) (λ x h. let a = leb→le x most_degree h in omega (arith, a)) q.degrees
            (every_all (λ x. leb x most_degree) q.degrees fit),
        all_reverse (carried q.degrees X.levels)
            (carried_low q.degrees fit lim small q X.levels (sound_headed lim q X.levels S.levels)
            (levels_small lim small q X.levels S.levels e)),
      )

  -- a line for each row, and one for the totals
  pub page_short : length (betti_page X) ≤ suc (suc (most_listed + row_shift)) * page_line_length
  page_short =
      let a = (sound_wide lim p X s).long in
      let b = (rows_few most_listed (column_degrees X) columns_listed).few in
      omega (arith, a, b)
