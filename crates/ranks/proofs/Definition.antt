-- The definition's number is a rank: its choices of rows are all there are.
use mathlib.Core.Path.{◌≡◌, refl, sym, ap, ◌∙◌, subst}
use mathlib.Core.Logic.{◌⊎◌, inl, inr}
use mathlib.Core.Bool.{Bool, true, false}
use mathlib.Core.List.{List, [], ◌∷◌}
use Prim.Native.Nat.{ℕ, ◌≤◌, ◌<◌}
use native.Mathlib.Omega.{arith}
use native.Mathlib.Decide.{dec_lt}
use lib.ListN.{length}
use Rattle.definitions.specs.Lists.{map, those}
use Rattle.definitions.specs.Rank.{Matrix, independent?, choices, longest, rank}
use Rattle.theory.proofs.Lists.{some_left, some_right}
use Rattle.ranks.specs.Notions.{Independent, chosen, IsRank}
use Rattle.ranks.proofs.Choices.{Among, chosen_none}
use Rattle.ranks.proofs.Members.{among_either, among_map, map_among, those_says, those_shown}
use Rattle.ranks.proofs.Independence.{independent_says, independent_shows}

-- ## Choices

none_among : (M : Matrix) → Among [] (choices M)
none_among [] = inl refl
none_among (r ∷ M) = some_left (λ N. [] ≡ N) (choices M) (map (λ l. r ∷ l) (choices M)) (none_among M)

chosen_among : (choice : List Bool) (M : Matrix) → Among (chosen choice M) (choices M)
chosen_among choice [] = inl refl
chosen_among [] (r ∷ M) = none_among (r ∷ M)
chosen_among (true ∷ choice) (r ∷ M) = some_right (λ N. r ∷ chosen choice M ≡ N) (choices M) (map (λ l. r ∷ l) (choices M))
    (among_map (λ l. r ∷ l) (chosen choice M) (choices M) (chosen_among choice M))
chosen_among (false ∷ choice) (r ∷ M) = some_left (λ N. chosen choice M ≡ N) (choices M) (map (λ l. r ∷ l) (choices M)) (chosen_among choice M)

among_chosen : (M N : Matrix) → Among N (choices M) → (choice : List Bool) × (N ≡ chosen choice M)
among_chosen [] N (inr x'') = elim x'' [ ]
among_chosen [] N (inl e) = ([], e)
among_chosen (r ∷ M) N m = go (among_either N (choices M) (map (λ l. r ∷ l) (choices M)) m) (among_chosen M)
  where
    go : Among N (choices M) ⊎ Among N (map (λ l. r ∷ l) (choices M)) → ((L : Matrix) → Among L (choices M) → (choice : List Bool) × (L ≡ chosen choice M))
        → (choice : List Bool) × (N ≡ chosen choice (r ∷ M))
    go (inl i) f = let (choice, e) = f N i in (false ∷ choice, e)
    go (inr i) f =
        let (l, e, k) = map_among (λ l. r ∷ l) N (choices M) i in
        let (choice, h) = f l k in (true ∷ choice, e ∙ ap {B = Matrix} (λ z. r ∷ z) h)

-- ## The longest

longest_above : (N : Matrix) (l : List Matrix) → Among N l → length N ≤ longest l
longest_above N [] x' = elim x' [ ]
longest_above N (L ∷ l) (inl e) = subst (λ z. length z ≤ longest (L ∷ l)) (sym e) (omega arith)
longest_above N (L ∷ l) (inr m) = let h : length N ≤ longest l = longest_above N l m in omega arith

-- the longest is one of them; of none it is as long as no rows
longest_among : (l : List Matrix) → (longest l ≡ 0) ⊎ ((N : Matrix) × (length N ≡ longest l) × Among N l)
longest_among [] = inl refl
longest_among (L ∷ l) = go (dec_lt (length L) (longest l)) (longest_among l)
  where
    go : Dec (length L < longest l) → (longest l ≡ 0) ⊎ ((N : Matrix) × (length N ≡ longest l) × Among N l)
        → (longest (L ∷ l) ≡ 0) ⊎ ((N : Matrix) × (length N ≡ longest (L ∷ l)) × Among N (L ∷ l))
    go (no n) r = inr (L, omega arith, inl refl)
    go (yes h) (inl e) = absurd (omega arith)
    go (yes h) (inr r) = let e : length r.0 ≡ longest l = r.1 in inr (r.0, omega arith, inr r.2)

-- ## The rank

module _ (p : ℕ) (h : 0 < p) (M : Matrix) where
  record Chosen : Type 0 where
    choice : List Bool
    size : length (chosen choice M) ≡ rank p M
    independent : Independent p (chosen choice M)

  none_independent : Independent p []
  none_independent [] e z = tt
  none_independent (c ∷ cs) e z = absurd (omega arith)

  chosen_none_independent : (N : Matrix) → Independent p (chosen [] N)
  chosen_none_independent [] = none_independent
  chosen_none_independent (r ∷ N) = none_independent

  largest_chosen : Chosen
  largest_chosen = go (longest_among (those (independent? p) (choices M)))
    where
      go : (rank p M ≡ 0) ⊎ ((N : Matrix) × (length N ≡ rank p M) × Among N (those (independent? p) (choices M))) → Chosen
      go (inl e) = record { choice = []; size = chosen_none M ∙ sym e; independent = chosen_none_independent M }
      go (inr r) =
          let (i, t) = those_says (independent? p) (choices M) r.0 r.2 in
          let (choice, e) = among_chosen M r.0 i in
          record { choice = choice; size = ap length (sym e) ∙ r.1; independent = subst (Independent p) e (independent_says p h r.0 t) }

  pub rank_right : IsRank p M (rank p M)
  rank_right = record {
    choice = largest_chosen.choice;
    size = largest_chosen.size;
    independent = largest_chosen.independent;
    largest = λ other I. longest_above (chosen other M) (those (independent? p) (choices M))
        (those_shown (independent? p) (choices M) (chosen other M) (chosen_among other M) (independent_shows p (chosen other M) I));
  }
