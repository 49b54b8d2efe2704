-- The definition's test of independence says that the rows are independent: coefficients count modulo p, and columns past the longest row are zero.
use mathlib.Core.Path.{◌≡◌, refl, sym, ap, ap₂, ◌∙◌, subst}
use mathlib.Core.Logic.{inl, inr}
use mathlib.Core.Bool.{Bool, true, false, not, ◌||◌}
use mathlib.Core.List.{List, [], ◌∷◌, ◌++◌}
use Prim.Native.Nat.{ℕ, zero, suc, ◌%◌, ◌≤◌, ◌<◌}
use native.Mathlib.Nat.{mod-lt, mod-eq_of_lt, zero-mod}
use native.Mathlib.Omega.{arith}
use native.Mathlib.Decide.{dec_lt}
use lib.Dec.{T, eqb, eqb→eq, eqb_refl}
use lib.ListN.{length, get_or, get_or-eq_default}
use Rattle.definitions.specs.Lists.{map, from, every}
use Rattle.definitions.specs.Field.{plus, times}
use Rattle.definitions.specs.Rank.{Matrix, width, combined, zero_combination?, in_front, coefficients, independent?}
use Rattle.laws.proofs.Modular.{times_left}
use Rattle.laws.proofs.Tests.{and_left, and_right, and_both, every_append}
use Rattle.theory.specs.Modular.{times_zero}
use Rattle.theory.proofs.Lists.{Every}
use Rattle.ranks.specs.Notions.{AllZero, Independent}
use Rattle.ranks.proofs.Choices.{Among, length_map}
use Rattle.ranks.proofs.Members.{every_says, every_shows, among_from, from_among}

-- ## All lists of coefficients

module _ {A B : Type 0} (f : B → Bool) (g : A → B) where
  every_map_says : (l : List A) → T (every f (map g l)) → T (every (λ a. f (g a)) l)
  every_map_says [] t = tt
  every_map_says (a ∷ l) t =
      and_both (f (g a)) (every (λ b. f (g b)) l) (and_left (f (g a)) (every f (map g l)) t) (every_map_says l (and_right (f (g a)) (every f (map g l)) t))

  every_map_shows : (l : List A) → T (every (λ a. f (g a)) l) → T (every f (map g l))
  every_map_shows [] t = tt
  every_map_shows (a ∷ l) t =
      and_both (f (g a)) (every f (map g l)) (and_left (f (g a)) (every (λ b. f (g b)) l) t)
      (every_map_shows l (and_right (f (g a)) (every (λ b. f (g b)) l) t))

module _ {A : Type 0} (f : A → Bool) where
  every_first : (l m : List A) → T (every f (l ++ m)) → T (every f l)
  every_first [] m t = tt
  every_first (a ∷ l) m t = and_both (f a) (every f l) (and_left (f a) (every f (l ++ m)) t) (every_first l m (and_right (f a) (every f (l ++ m)) t))

  every_second : (l m : List A) → T (every f (l ++ m)) → T (every f m)
  every_second [] m t = t
  every_second (a ∷ l) m t = every_second l m (and_right (f a) (every f (l ++ m)) t)

in_front_says : (f : List ℕ → Bool) (ks : List ℕ) (ls : List (List ℕ)) → T (every f (in_front ks ls)) → (c : ℕ) → Among c ks → T (every (λ l. f (c ∷ l)) ls)
in_front_says f [] ls t c x'' = elim x'' [ ]
in_front_says f (k ∷ ks) ls t c (inl e) =
    subst (λ z. T (every (λ l. f (z ∷ l)) ls)) (sym e) (every_map_says f (λ l. k ∷ l) ls (every_first f (map (λ l. k ∷ l) ls) (in_front ks ls) t))
in_front_says f (k ∷ ks) ls t c (inr m) = in_front_says f ks ls (every_second f (map (λ l. k ∷ l) ls) (in_front ks ls) t) c m

in_front_shows : (f : List ℕ → Bool) (ks : List ℕ) (ls : List (List ℕ)) → ((c : ℕ) → Among c ks → T (every (λ l. f (c ∷ l)) ls)) → T (every f (in_front ks ls))
in_front_shows f [] ls h = tt
in_front_shows f (k ∷ ks) ls h =
    every_append f (map (λ l. k ∷ l) ls) (in_front ks ls) (every_map_shows f (λ l. k ∷ l) ls (h k (inl refl))) (in_front_shows f ks ls (λ c m. h c (inr m)))

module _ (p : ℕ) where
  abbrev Reduced : List ℕ → Type 0
  Reduced cs = Every (λ c. c < p) cs

  coefficients_say : (n : ℕ) (f : List ℕ → Bool) → T (every f (coefficients p n)) → (cs : List ℕ) → length cs ≡ n → Reduced cs → T (f cs)
  coefficients_say zero f t [] e r = and_left (f []) true t
  coefficients_say zero f t (c ∷ cs) e r = absurd (omega arith)
  coefficients_say (suc n) f t [] e r = absurd (omega arith)
  coefficients_say (suc n) f t (c ∷ cs) e r =
      coefficients_say n (λ l. f (c ∷ l)) (in_front_says f (from 0 p) (coefficients p n) t c (among_from 0 p c (omega arith) (let h = r.0 in omega arith))) cs
      (omega arith) r.1

  coefficients_show : (n : ℕ) (f : List ℕ → Bool) → ((cs : List ℕ) → length cs ≡ n → Reduced cs → T (f cs)) → T (every f (coefficients p n))
  coefficients_show zero f h = and_both (f []) true (h [] refl tt) tt
  coefficients_show (suc n) f h = in_front_shows f (from 0 p) (coefficients p n) (λ c m. coefficients_show n (λ l. f (c ∷ l)) (λ cs e r.
      h (c ∷ cs) (ap suc e) (let k = (from_among 0 p c m).1 in omega arith, r)))

  -- ## Combinations

  -- coefficients count modulo p
  combined_reduced : (j : ℕ) (cs : List ℕ) (M : Matrix) → combined p j (map (λ c. c % p) cs) M ≡ combined p j cs M
  combined_reduced j cs [] = refl
  combined_reduced j [] (r ∷ M) = refl
  combined_reduced j (c ∷ cs) (r ∷ M) = ap₂ (plus p) (times_left p c (get_or r j 0)) (combined_reduced j cs M)

  -- past the longest row
  combined_past : (j : ℕ) (cs : List ℕ) (M : Matrix) → width M ≤ j → combined p j cs M ≡ 0
  combined_past j cs [] h = refl
  combined_past j [] (r ∷ M) h = refl
  combined_past j (c ∷ cs) (r ∷ M) h = ap₂ (plus p) first (combined_past j cs M (omega arith)) ∙ zero-mod p
    where
      short : length r ≤ j
      short = omega arith

      first : times p c (get_or r j 0) ≡ 0
      first = ap (times p c) (get_or-eq_default r 0 short) ∙ times_zero p c

  zero_says : (cs : List ℕ) (M : Matrix) → T (zero_combination? p cs M) → (j : ℕ) → combined p j cs M ≡ 0
  zero_says cs M t j = go (dec_lt j (width M))
    where
      go : Dec (j < width M) → combined p j cs M ≡ 0
      go (yes h) = eqb→eq (combined p j cs M) 0
          (every_says (λ i. eqb (combined p i cs M) 0) (from 0 (width M)) t j (among_from 0 (width M) j (omega arith) (omega arith)))
      go (no n) = combined_past j cs M (omega arith)

  zero_shows : (cs : List ℕ) (M : Matrix) → ((j : ℕ) → combined p j cs M ≡ 0) → T (zero_combination? p cs M)
  zero_shows cs M h = every_shows (λ i. eqb (combined p i cs M) 0) (from 0 (width M)) (λ j m. subst (λ z. T (eqb z 0)) (sym (h j)) (eqb_refl 0))

  -- ## The test

  or_says : (a b : Bool) → T (a || not b) → T b → T a
  or_says true b t u = tt
  or_says false true t u = t
  or_says false false t u = u

  or_shows : (a b : Bool) → (T b → T a) → T (a || not b)
  or_shows true b h = tt
  or_shows false true h = h tt
  or_shows false false h = tt

  zeros_say : (cs : List ℕ) → T (every (λ c. eqb c 0) (map (λ c. c % p) cs)) → AllZero p cs
  zeros_say [] t = tt
  zeros_say (c ∷ cs) t = (
    eqb→eq (c % p) 0 (and_left (eqb (c % p) 0) (every (λ b. eqb b 0) (map (λ b. b % p) cs)) t),
    zeros_say cs (and_right (eqb (c % p) 0) (every (λ b. eqb b 0) (map (λ b. b % p) cs)) t),
  )

  zeros_show : (cs : List ℕ) → Reduced cs → AllZero p cs → T (every (λ c. eqb c 0) cs)
  zeros_show [] r z = tt
  zeros_show (c ∷ cs) r z = and_both (eqb c 0) (every (λ b. eqb b 0) cs)
      (subst (λ a. T (eqb a 0)) (sym (sym (mod-eq_of_lt r.0) ∙ z.0)) (eqb_refl 0)) (zeros_show cs r.1 z.1)

  reduced_below : 0 < p → (cs : List ℕ) → Reduced (map (λ c. c % p) cs)
  reduced_below h [] = tt
  reduced_below h (c ∷ cs) = (mod-lt c h, reduced_below h cs)

  abbrev only_zero? : Matrix → List ℕ → Bool
  only_zero? M cs = every (λ c. eqb c 0) cs || not (zero_combination? p cs M)

  pub independent_says : 0 < p → (M : Matrix) → T (independent? p M) → Independent p M
  independent_says h M t cs e z = zeros_say cs (or_says (every (λ c. eqb c 0) ds) (zero_combination? p ds M)
      (coefficients_say (length M) (only_zero? M) t ds (length_map (λ c. c % p) cs ∙ e) (reduced_below h cs))
      (zero_shows ds M (λ j. combined_reduced j cs M ∙ z j)))
    where
      ds : List ℕ
      ds = map (λ c. c % p) cs

  pub independent_shows : (M : Matrix) → Independent p M → T (independent? p M)
  independent_shows M I = coefficients_show (length M) (only_zero? M) (λ cs e r.
      or_shows (every (λ c. eqb c 0) cs) (zero_combination? p cs M) (λ t. zeros_show cs r (I cs e (zero_says cs M t))))
