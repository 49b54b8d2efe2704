-- The lines of any state, by any weights.
use mathlib.Core.Path.{◌≡◌, refl, sym, ap, ◌∙◌, subst}
use mathlib.Core.Bool.{Bool, true, false}
use mathlib.Core.List.{List, []}
use Prim.Native.Nat.{ℕ, ◌≤◌}
use native.Mathlib.Omega.{arith}
use lib.Dec.{eqb}
use lib.ListN.{length, get_or}
use Rattle.definitions.specs.Lists.{◌and◌, count, map}
use Rattle.definitions.specs.State.{State}
use Rattle.definitions.specs.Columns.{columns}
use Rattle.definitions.specs.Bidegrees.{Bidegree, bidegree, same_bidegree?, bidegree_lines}
use Rattle.laws.proofs.Members.{all_map}
use Rattle.demands.specs.Notions.{Member}
use Rattle.bigraded.specs.Notions.{generators_at, Entry, entry, amount}
use Rattle.bigraded.specs.Bidegrees.{Lines-right}
use Rattle.bigraded.proofs.Columns.{column_bidegrees, length_map, length_columns, counts_are, firsts_are, all_are}
use Rattle.bigraded.proofs.Entries.{all_entries, text, Right, all_right, ascending, complete, those_same, tally_is}

and_true : (b : Bool) → b ≡ (b and true)
and_true true = refl
and_true false = refl

module _ (ws : List (ℕ × ℕ)) (X : State) where
  abbrev cs : List (List Bidegree)
  cs = column_bidegrees ws X

  abbrev es : List Entry
  es = all_entries 0 cs

  -- an entry's place among the columns is its column's number
  counted : (e : Entry) (r : Right 0 cs e) → e.many ≡ generators_at ws X.parameters X.levels e.column (e.first, e.second)
  counted e r =
      let i : r.past ≡ e.column = let k = r.is in omega (arith, k) in
      r.counts ∙ ap (λ j. count (same_bidegree? (e.first, e.second)) (get_or cs j [])) i ∙ counts_are ws X e.column (e.first, e.second)

  pub lines_right : Lines-right ws X.parameters X.levels (bidegree_lines ws X)
  lines_right = record {
    entries = es;
    text = text 0 cs;
    ascending = ascending 0 cs;
    inside = all_map (Right 0 cs) (λ e. e.column ≤ length X.levels) (λ e r.
        let a = r.is in
        let b = r.inside in
        let c = length_map (map (bidegree ws X.parameters.degrees)) (columns X) in
        let d = length_columns X in
        omega (arith, a, b, c, d)) es (all_right 0 cs);
    counts = all_map (Right 0 cs) (λ e. e.many ≡ generators_at ws X.parameters X.levels e.column (e.first, e.second)) counted es (all_right 0 cs);
    non_zero = all_map (Right 0 cs) (λ e. 1 ≤ e.many) (λ e r. r.non_zero) es (all_right 0 cs);
    complete = λ c a b h.
        let e = counts_are ws X c (a, b) in
        subst (λ n. Member (entry c (a, b) n) es) e (complete 0 cs c c (omega arith) (a, b) (subst (λ n. 1 ≤ n) (sym e) h));
    sums = λ c a. tally_is (λ x. eqb x.0 a) 0 cs c c (omega arith) ∙ firsts_are ws X c a;
    totals = λ c.
        ap amount (those_same (λ e. eqb e.column c) (λ e. eqb e.column c and true) (λ e. and_true (eqb e.column c)) es)
        ∙ tally_is (λ x. true) 0 cs c c (omega arith) ∙ all_are ws X c;
  }

  pub entries_are : lines_right.entries ≡ all_entries 0 (column_bidegrees ws X)
  unfolding lines_right
  entries_are = refl
