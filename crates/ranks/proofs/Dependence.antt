-- More rows than columns are dependent.
use mathlib.Core.Path.{◌≡◌, refl, sym, ap, ap₂, ◌∙◌, subst}
use mathlib.Core.Logic.{◌⊎◌, inl, inr}
use mathlib.Core.List.{List, [], ◌∷◌}
use Prim.Native.Nat.{ℕ, zero, suc, ◌<◌}
use native.Mathlib.Omega.{arith}
use lib.ListN.{length}
use Rattle.definitions.specs.Lists.{map}
use Rattle.theory.specs.Laws.{Scalars}
use Rattle.theory.proofs.Lists.{Some, Every}
use Rattle.ranks.proofs.Choices.{Among, length_map}
use Rattle.ranks.proofs.Linear.{Z, comb, comb_zeros, comb_vanish, Row, col, zeros, length_zeros, zeros_Z, Clearing, clearing, every_gone, comb_clear}

module _ (S : Scalars) where
  open S use {K, add, mul, 𝟘, 𝟙, neg, zero_add_zero, zero_add_mul, neg_add, one_one, one≢zero, zero?}

  -- a column of the list where the row is not zero, and the others
  record Pivot (v : Row S) (cols : List ℕ) : Type 0 where
    c : ℕ
    there : ¬ (Z S (col S c v))
    others : List ℕ
    shorter : suc (length others) ≡ length cols
    parts : (j : ℕ) → Among j cols → (j ≡ c) ⊎ Among j others

  abbrev ZeroAt : Row S → List ℕ → Type 0
  ZeroAt v cols = (j : ℕ) → Among j cols → Z S (col S j v)

  find : (v : Row S) (cols : List ℕ) → ZeroAt v cols ⊎ Pivot v cols
  find v [] = inl (λ j a. absurd a)
  find v (k ∷ cols) = go (zero? (col S k v)) (find v cols)
    where
      go : Dec (mul 𝟙 (col S k v) ≡ 𝟘) → ZeroAt v cols ⊎ Pivot v cols → ZeroAt v (k ∷ cols) ⊎ Pivot v (k ∷ cols)
      go (no n) r = inr (record { c = k; there = n; others = cols; shorter = refl; parts = λ j a. a })
      go (yes z) (inl h) = inl (λ j a. both j a)
        where
          both : (j : ℕ) → Among j (k ∷ cols) → Z S (col S j v)
          both j (inl e) = subst (λ i. Z S (col S i v)) (sym e) z
          both j (inr a) = h j a
      go (yes z) (inr r) = inr (record { c = r.c; there = r.there; others = k ∷ r.others; shorter = ap suc r.shorter; parts = part })
        where
          right : {j : ℕ} → (j ≡ r.c) ⊎ Among j r.others → (j ≡ r.c) ⊎ Among j (k ∷ r.others)
          right (inl e) = inl e
          right (inr a) = inr (inr a)

          part : (j : ℕ) → Among j (k ∷ cols) → (j ≡ r.c) ⊎ Among j (k ∷ r.others)
          part j (inl e) = inr (inl e)
          part j (inr a) = right (r.parts j a)

  -- coefficients, not all zero, of a combination that is zero in these columns
  pub record Dependence (cols : List ℕ) (C : List (Row S)) : Type 0 where
    pub coefs : List K
    pub size : length coefs ≡ length C
    pub nonzero : Some (λ c. ¬ (Z S c)) coefs
    pub zero_at : (j : ℕ) → Among j cols → comb S (col S j) coefs C ≡ 𝟘

  zero_row_dependent : (v : Row S) (C : List (Row S)) (cols : List ℕ) → ZeroAt v cols → Dependence cols (v ∷ C)
  zero_row_dependent v C cols z = record {
    coefs = 𝟙 ∷ zeros S (length C);
    size = ap suc (length_zeros S (length C));
    nonzero = inl (λ o. one≢zero (sym one_one ∙ o));
    zero_at = λ j a. ap₂ add (z j a) (comb_zeros S (col S j) (zeros S (length C)) C (zeros_Z S (length C))) ∙ zero_add_zero;
  }

  module _ (v : Row S) (C : List (Row S)) (cols : List ℕ) (r : Pivot v cols) where
    abbrev way : Clearing S r.c v
    way = clearing S r.c v r.there

    cleared_dependent : Dependence r.others (map way.clear C) → Dependence cols (v ∷ C)
    cleared_dependent D = record {
      coefs = neg t ∷ x;
      size = ap suc (D.size ∙ length_map way.clear C);
      nonzero = inr D.nonzero;
      zero_at = λ j a. ap (add (mul (neg t) (col S j v))) (rest j a) ∙ neg_add t (col S j v);
    }
      where
        x : List K
        x = D.coefs

        t : K
        t = comb S way.factor x C

        under : (j : ℕ) → (j ≡ r.c) ⊎ Among j r.others → comb S (col S j) x (map way.clear C) ≡ 𝟘
        under j (inl i) =
            subst (λ k. comb S (col S k) x (map way.clear C) ≡ 𝟘) (sym i)
            (comb_vanish S (col S r.c) x (map way.clear C) (every_gone S way C))
        under j (inr a) = D.zero_at j a

        rest : (j : ℕ) → Among j cols → comb S (col S j) x C ≡ mul t (col S j v)
        rest j a = comb_clear S way j x C ∙ ap (λ z. add z (mul t (col S j v))) (under j (r.parts j a)) ∙ zero_add_mul t (col S j v)

  pub dependent : (n : ℕ) (C : List (Row S)) (cols : List ℕ) → length C ≡ n → length cols < n → Dependence cols C
  dependent zero C cols e h = absurd (omega arith)
  dependent (suc n) [] cols e h = absurd (omega arith)
  dependent (suc n) (v ∷ C) cols e h = go (find v cols) (λ C' cols'. dependent n C' cols')
    where
      go : ZeroAt v cols ⊎ Pivot v cols → ((C' : List (Row S)) (cols' : List ℕ) → length C' ≡ n → length cols' < n → Dependence cols' C')
          → Dependence cols (v ∷ C)
      go (inl z) ih = zero_row_dependent v C cols z
      go (inr r) ih = cleared_dependent v C cols r (ih (map (way v C cols r).clear C) r.others
          (let l : length (map (way v C cols r).clear C) ≡ length C = length_map (way v C cols r).clear C in omega arith)
          (let s : suc (length r.others) ≡ length cols = r.shorter in omega arith))

  pub some_nonzero : (x : List K) → Some (λ c. ¬ (Z S c)) x → Every (Z S) x → ⊥
  some_nonzero [] x3 z = elim x3 [ ]
  some_nonzero (c ∷ x) (inl n) z = n z.0
  some_nonzero (c ∷ x) (inr s) z = some_nonzero x s z.1
