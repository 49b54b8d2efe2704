-- No term of the frame's list divides another with the same number.
use mathlib.Core.Option.{Option, none, some}
use mathlib.Core.Bool.{Bool, true, false, not, ◌||◌}
use mathlib.Core.List.{List, [], ◌∷◌}
use lib.Dec.{T}
use Rattle.theory.specs.Laws.{Monoid}
use Rattle.theory.specs.Division.{Division, Quotient}
use Rattle.theory.specs.Frames.{is_some, divides?, any_divides?, drop_multiples, add_by, minimal, insert, sort}
use Rattle.theory.proofs.Lists.{Every, every_both}
use Rattle.theory.proofs.Frames.{Divides, drop_every, insert_every, sort_every}

module _ {M : Monoid} (D : Division M) (ltb : M.E → M.E → Bool) where
  open M use {E, mulE}

  abbrev pub Apart : E → E → Type 0
  Apart a b = (Divides D ltb a b → ⊥) × (Divides D ltb b a → ⊥)

  abbrev pub Antichain : List E → Type 0
  Antichain [] = Unit {0}
  Antichain (c ∷ l) = Every (Apart c) l × Antichain l

  -- ## What the tests say where they fail

  not_divides : (g c : E) → T (not (divides? D ltb g c)) → Divides D ltb g c → ⊥
  not_divides g c = go (D.quot g c) (D.quot_is g c)
    where
      go : (o : Option E) → Quotient (λ m. mulE m g) c o → T (not (is_some o)) → Divides D ltb g c → ⊥
      go none q t d = q d.0 d.1
      go (some u) q t d = t

  abbrev NoneOver : E → List E → Type 0
  NoneOver c l = Every (λ g. Divides D ltb g c → ⊥) l

  none_divides : (l : List E) (c : E) → T (not (any_divides? D ltb l c)) → NoneOver c l
  none_divides [] c t = tt
  none_divides (g ∷ l) c t = go (divides? D ltb g c) (not_divides g c) (none_divides l c) t
    where
      go : (b : Bool) → (T (not b) → Divides D ltb g c → ⊥) → (T (not (any_divides? D ltb l c)) → NoneOver c l) → T (not (b || any_divides? D ltb l c))
          → NoneOver c (g ∷ l)
      go true h k t = absurd t
      go false h k t = (h tt, k t)

  -- ## Minimal generators

  drop_apart : (c : E) (l : List E) → Every (λ g. Divides D ltb c g → ⊥) (drop_multiples D ltb c l)
  drop_apart c [] = tt
  drop_apart c (g ∷ l) = go (divides? D ltb c g) (not_divides c g) (drop_apart c l)
    where
      P : E → Type 0
      P g = Divides D ltb c g → ⊥

      go : (b : Bool) → (T (not b) → P g) → Every P (drop_multiples D ltb c l)
          → Every P (elim b [ true ↦ drop_multiples D ltb c l | false ↦ g ∷ drop_multiples D ltb c l ])
      go true h k = k
      go false h k = (h tt, k)

  drop_antichain : (c : E) (l : List E) → Antichain l → Antichain (drop_multiples D ltb c l)
  drop_antichain c [] a = tt
  drop_antichain c (g ∷ l) a = go (divides? D ltb c g) (drop_antichain c l a.1)
    where
      go : (b : Bool) → Antichain (drop_multiples D ltb c l)
          → Antichain (elim b [ true ↦ drop_multiples D ltb c l | false ↦ g ∷ drop_multiples D ltb c l ])
      go true k = k
      go false k = (drop_every D ltb (Apart g) c l a.0, k)

  pub minimal_antichain : (l : List E) → Antichain (minimal D ltb l)
  minimal_antichain [] = tt
  minimal_antichain (c ∷ l) = go (any_divides? D ltb m c) (none_divides m c) (minimal_antichain l)
    where
      m : List E
      m = minimal D ltb l

      apart : NoneOver c m → Every (Apart c) (drop_multiples D ltb c m)
      apart h = every_both (λ g. Divides D ltb c g → ⊥) (λ g. Divides D ltb g c → ⊥) (drop_multiples D ltb c m) (drop_apart c m)
          (drop_every D ltb (λ g. Divides D ltb g c → ⊥) c m h)

      go : (b : Bool) → (T (not b) → NoneOver c m) → Antichain m → Antichain (add_by D ltb b c m)
      go true h k = k
      go false h k = (apart (h tt), drop_antichain c m k)

  -- ## Sorted

  insert_antichain : (c : E) (l : List E) → Every (Apart c) l → Antichain l → Antichain (insert D ltb c l)
  insert_antichain c [] h a = (tt, tt)
  insert_antichain c (g ∷ l) h a = go (ltb c g) (insert_antichain c l h.1 a.1)
    where
      go : (b : Bool) → Antichain (insert D ltb c l) → Antichain (elim b [ true ↦ c ∷ g ∷ l | false ↦ g ∷ insert D ltb c l ])
      go true k = (h, a)
      go false k = (insert_every D ltb (Apart g) c l (h.0.1, h.0.0) a.0, k)

  pub sort_antichain : (l : List E) → Antichain l → Antichain (sort D ltb l)
  sort_antichain [] a = tt
  sort_antichain (c ∷ l) a = insert_antichain c (sort D ltb l) (sort_every D ltb (Apart c) l a.0) (sort_antichain l a.1)
