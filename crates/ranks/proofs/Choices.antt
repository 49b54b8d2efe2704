-- Members chosen from a list, and the places of those left out.
use mathlib.Core.Path.{◌≡◌, refl, ap}
use mathlib.Core.Logic.{inl, inr}
use mathlib.Core.Bool.{Bool, true, false}
use mathlib.Core.List.{List, [], ◌∷◌}
use Prim.Native.Nat.{ℕ, zero, suc, ◌+◌, ◌≤◌, ◌<◌}
use native.Mathlib.Omega.{arith}
use lib.ListN.{length}
use Rattle.definitions.specs.Lists.{map}
use Rattle.theory.proofs.Lists.{Some, Every}
use Rattle.ranks.specs.Notions.{chosen}

-- a is one of them
abbrev pub Among : {A : Type 0} → A → List A → Type 0
Among a l = Some (λ b. a ≡ b) l

pub among_suc : (j : ℕ) (l : List ℕ) → Among j l → Among (suc j) (map suc l)
among_suc j [] x' = elim x' [ ]
among_suc j (k ∷ l) (inl e) = inl (ap suc e)
among_suc j (k ∷ l) (inr s) = inr (among_suc j l s)

module _ {A B : Type 0} (f : A → B) where
  pub length_map : (l : List A) → length (map f l) ≡ length l
  length_map [] = refl
  length_map (a ∷ l) = ap suc (length_map l)

  pub chosen_map : (choice : List Bool) (l : List A) → chosen choice (map f l) ≡ map f (chosen choice l)
  chosen_map choice [] = refl
  chosen_map [] (a ∷ l) = refl
  chosen_map (true ∷ choice) (a ∷ l) = ap {B = List B} (λ r. f a ∷ r) (chosen_map choice l)
  chosen_map (false ∷ choice) (a ∷ l) = chosen_map choice l

module _ {A : Type 0} where
  pub chosen_fewer : (choice : List Bool) (l : List A) → length (chosen choice l) ≤ length l
  chosen_fewer choice [] = omega arith
  chosen_fewer [] (a ∷ l) = omega arith
  chosen_fewer (true ∷ choice) (a ∷ l) = let h : length (chosen choice l) ≤ length l = chosen_fewer choice l in omega arith
  chosen_fewer (false ∷ choice) (a ∷ l) = let h : length (chosen choice l) ≤ length l = chosen_fewer choice l in omega arith

  pub every_chosen : (P : A → Type 0) (choice : List Bool) (l : List A) → Every P l → Every P (chosen choice l)
  every_chosen P choice [] h = tt
  every_chosen P [] (a ∷ l) h = tt
  every_chosen P (true ∷ choice) (a ∷ l) h = (h.0, every_chosen P choice l h.1)
  every_chosen P (false ∷ choice) (a ∷ l) h = every_chosen P choice l h.1

  -- the places of those that are not chosen
  abbrev pub left_out : List Bool → List A → List ℕ
  left_out choice [] = []
  left_out [] (a ∷ l) = 0 ∷ map suc (left_out [] l)
  left_out (true ∷ choice) (a ∷ l) = map suc (left_out choice l)
  left_out (false ∷ choice) (a ∷ l) = 0 ∷ map suc (left_out choice l)

  pub chosen_none : (l : List A) → length (chosen [] l) ≡ 0
  chosen_none [] = refl
  chosen_none (a ∷ l) = refl

  pub left_out_count : (choice : List Bool) (l : List A) → length (left_out choice l) + length (chosen choice l) ≡ length l
  left_out_count choice [] = refl
  left_out_count [] (a ∷ l) =
      let e : length (left_out [] l) + length (chosen [] l) ≡ length l = left_out_count [] l in
      let k : length (map suc (left_out [] l)) ≡ length (left_out [] l) = length_map suc (left_out [] l) in
      let z : length (chosen [] l) ≡ 0 = chosen_none l in omega arith
  left_out_count (true ∷ choice) (a ∷ l) =
      let e : length (left_out choice l) + length (chosen choice l) ≡ length l = left_out_count choice l in
      let k : length (map suc (left_out choice l)) ≡ length (left_out choice l) = length_map suc (left_out choice l) in omega arith
  left_out_count (false ∷ choice) (a ∷ l) =
      let e : length (left_out choice l) + length (chosen choice l) ≡ length l = left_out_count choice l in
      let k : length (map suc (left_out choice l)) ≡ length (left_out choice l) = length_map suc (left_out choice l) in omega arith

  pub all_left_out : (l : List A) (j : ℕ) → j < length l → Among j (left_out [] l)
  all_left_out [] j h = absurd (omega arith)
  all_left_out (a ∷ l) zero h = inl refl
  all_left_out (a ∷ l) (suc j) h = inr (among_suc j (left_out [] l) (all_left_out l j (omega arith)))
