-- The cost of a monomial: its depth does not matter from the rank on, and a monomial with a reducer costs more than the reducer's other products.
use mathlib.Core.Path.{◌≡◌, refl, sym, ap, ◌∙◌}
use mathlib.Core.Bool.{Bool, true, false}
use mathlib.Core.List.{[], ◌∷◌}
use Prim.Native.Nat.{ℕ, zero, suc, ◌≤◌, ◌<◌}
use native.Mathlib.Omega.{arith}
use lib.Dec.{T}
use lib.ListN.{length}
use Rattle.definitions.specs.Lists.{rest}
use Rattle.definitions.specs.Monomial.{Exponents, Monomial, Term, Vector, Level, product, fits?, vector_of}
use Rattle.definitions.specs.Order.{Comparison, greater}
use Rattle.definitions.specs.Reducer.{Answer, reducer, lower_order, heads, answer}
use Rattle.laws.proofs.Tests.{true_is, false_is}
use Rattle.laws.proofs.Members.{All, all_map, all_map₂, all_at}
use Rattle.laws.proofs.Products.{length_product}
use Rattle.laws.proofs.Induced.{Has, shifted, ModuleOrder}
use Rattle.laws.proofs.Reducers.{Alike, answer_alike, Reducing, answer_reducing, Leading, reducing_leads}
use Rattle.laws.proofs.Sums.{descending_above}
use Rattle.ending.specs.Spent.{all_monomials, total_products, worth, cost, many}
use Rattle.ending.specs.Well.{Proper, Descending}
use Rattle.ending.proofs.Ranks.{Listed, all_monomials_listed, rank, rank_bound, rank_below}

-- ## The products of a reducer

-- the vector of a number, or the empty one, which is descending too
pub descending_of : (p : ℕ) (order : Monomial → Monomial → Comparison) (f : Level) → All (Descending p order) f → (j : ℕ)
    → Descending p order (vector_of f j)
descending_of p order f d zero = record { proper = tt; strictly = tt }
descending_of p order f d (suc j) = all_at (Descending p order) [] (record { proper = tt; strictly = tt }) f j d

listed_of : (f : Level) (j : ℕ) → All (λ t. Listed (all_monomials f) t.1.1) (vector_of f j)
listed_of f zero = tt
listed_of f (suc j) = all_at (All (λ t. Listed (all_monomials f) t.1.1)) [] tt f j (all_monomials_listed f)

-- a product with eight exponents that, if it fits, has a rank below n
pub record Lower (order : Monomial → Monomial → Comparison) (f : Level) (q : Exponents) (n : ℕ) (u : Term) : Type 0 where
  pub eight : Has 8 (shifted q u.1)
  pub ranked : T (fits? 255 (product q u.1.0)) → rank order f (shifted q u.1) < n

module _ (p : ℕ) (order : Monomial → Monomial → Comparison) (O : ModuleOrder 8 order) (f : Level) (D : All (Descending p order) f) where
  others_lower : (t : Term) (c : ℕ) (q : Exponents) → Has 8 t.1 → (v : Vector) → Descending p order v
      → All (λ u. Listed (all_monomials f) u.1.1) v → Reducing p v t c q
      → All (Lower order f q (rank order f t.1)) (rest v)
  others_lower t c q h [] d k r = tt
  others_lower t c q h (l ∷ v) d k r = all_map₂ Below (λ u. Listed (all_monomials f) u.1.1) (Lower order f q (rank order f t.1)) one v belows
      k.1
    where
      led : Leading 8 q l.1 t.1
      led = reducing_leads p t c q l v r 8 d.proper.0.shaped.long h

      Below : Term → Type 0
      Below u = Has 8 u.1 × (order l.1 u.1 ≡ greater)

      eights : All (λ u. Has 8 u.1) v
      eights = all_map (Proper p) (λ u. Has 8 u.1) (λ u s. s.shaped.long) v d.proper.1

      belows : All Below v
      belows =
          all_map₂ (λ u. Has 8 u.1) (λ u. order l.1 u.1 ≡ greater) Below (λ u a b. (a, b)) v eights
          (descending_above (Has 8) order O.orders l v d.proper.0.shaped.long eights d.strictly)

      one : (u : Term) → Below u → Listed (all_monomials f) u.1.1 → Lower order f q (rank order f t.1) u
      one u b listed = record {
        eight = e;
        ranked = λ fits. rank_below order O f t.1 (shifted q u.1) h e above
            (listed (product q u.1.0) e fits);
      }
        where
          e : length (product q u.1.0) ≡ 8
          e = length_product 8 q u.1.0 led.long b.0

          above : order t.1 (shifted q u.1) ≡ greater
          above =
              ap (λ m. order m (shifted q u.1)) (sym led.product_is) ∙
              O.multiplied q led.long l.1 u.1 d.proper.0.shaped.long b.0 ∙ b.1

  -- the other products of a term's reducer are lower than the term
  pub products_lower : (t : Term) (j c : ℕ) (q : Exponents) → Has 8 t.1 → answer p (heads p f) t ≡ reducer j c q
      → All (Lower order f q (rank order f t.1)) (rest (vector_of f j))
  products_lower t j c q h e = others_lower t c q h (vector_of f j) (descending_of p order f D j) (listed_of f j) (answer_reducing p f t j c q e)

  -- ## The depth does not matter

  abbrev at : ℕ → Monomial → ℕ
  at k m = cost k p (heads p f) f m

  -- of what does not fit, no depth is asked
  abbrev Deep : ℕ → Monomial → Type 0
  Deep k m = T (fits? 255 m.0) → rank order f m < k

  abbrev Same : ℕ → ℕ → Type 0
  Same k k' = (m : Monomial) → Has 8 m → Deep k m → Deep k' m → at k m ≡ at k' m

  products_same : (k k' : ℕ) → Same k k' → (n : ℕ) → n ≤ k → n ≤ k' → (q : Exponents) (v : Vector) → All (Lower order f q n) v
      → total_products (at k) q v ≡ total_products (at k') q v
  products_same k k' same n h h' q [] w = refl
  products_same k k' same n h h' q (u ∷ v) w =
      omega (
        arith,
        same (shifted q u.1) w.0.eight (λ t. omega (arith, w.0.ranked t)) (λ t. omega (arith, w.0.ranked t)),
        products_same k k' same n h h' q v w.1,
      )

  unfitting_free : (k : ℕ) (m : Monomial) → (T (fits? 255 m.0) → ⊥) → at k m ≡ 0
  unfolding cost
  unfitting_free zero m n = refl
  unfitting_free (suc k) m n = ap (λ b. worth (at k) f b (answer p (heads p f) (1, m))) (false_is (fits? 255 m.0) n)

  cost_same : (k k' : ℕ) → Same k k'
  unfolding cost
  cost_same zero zero m h d d' = refl
  cost_same zero (suc k') m h d d' = sym (unfitting_free (suc k') m (λ t. omega (arith, d t)))
  cost_same (suc k) zero m h d d' = unfitting_free (suc k) m (λ t. omega (arith, d' t))
  cost_same (suc k) (suc k') m h d d' = go (fits? 255 m.0) d d' (answer p (heads p f) (1, m)) refl (cost_same k k')
    where
      go : (b : Bool) → (T b → rank order f m < suc k) → (T b → rank order f m < suc k') → (a : Answer) → answer p (heads p f) (1, m) ≡ a → Same k k'
          → worth (at k) f b a ≡ worth (at k') f b a
      go false l l' a e same = refl
      go true l l' lower_order e same = refl
      go true l l' (reducer j c q) e same =
          let i = l tt in
          let i' = l' tt in
          ap suc (products_same k k' same (rank order f m) (omega arith) (omega arith) q (rest (vector_of f j)) (products_lower (1, m) j c q h e))

  -- ## It falls

  -- the term's coefficient is not read
  worth_alike : (g : Monomial → ℕ) (b : Bool) (a a' : Answer) → Alike a a' → worth g f b a ≡ worth g f b a'
  worth_alike g false a a' k = refl
  worth_alike g true (reducer j c q) (reducer j' c' q') k = λ i. suc (total_products g (k.1 i) (rest (vector_of f (k.0 i))))
  worth_alike g true (reducer j c q) lower_order k = absurd k
  worth_alike g true lower_order (reducer j c q) k = absurd k
  worth_alike g true lower_order lower_order k = refl

  cost_by : (k : ℕ) (t : Term) → T (fits? 255 t.1.0) → (a : Answer) → answer p (heads p f) t ≡ a → at (suc k) t.1 ≡ worth (at k) f true a
  unfolding cost
  cost_by k t h a e =
      worth_alike (at k) (fits? 255 t.1.0) (answer p (heads p f) (1, t.1)) (answer p (heads p f) t) (answer_alike p 1 (heads p f) t.1 1 t.0)
      ∙
      (λ i. worth (at k) f (true_is (fits? 255 t.1.0) h i) (e i))

  falls_at : (k : ℕ) (t : Term) (j c : ℕ) (q : Exponents) → rank order f t.1 < suc k → Has 8 t.1 → T (fits? 255 t.1.0)
      → answer p (heads p f) t ≡ reducer j c q
      → total_products (at (suc k)) q (rest (vector_of f j)) < at (suc k) t.1
  falls_at k t j c q l h fits e =
      omega (
        arith,
        cost_by k t fits (reducer j c q) e,
        products_same (suc k) k (cost_same (suc k) k) (rank order f t.1) (omega arith) (omega arith) q (rest (vector_of f j))
            (products_lower t j c q h e),
      )

  -- a term with a reducer costs more than the reducer's other products
  pub cost_falls : (t : Term) (j c : ℕ) (q : Exponents) → Has 8 t.1 → T (fits? 255 t.1.0) → answer p (heads p f) t ≡ reducer j c q
      → total_products (cost (many f) p (heads p f) f) q (rest (vector_of f j)) < cost (many f) p (heads p f) f t.1
  unfolding many
  cost_falls t j c q h fits e = falls_at (length (all_monomials f)) t j c q (rank_bound order f t.1) h fits e

  -- a term without one costs 1
  pub cost_lower : (t : Term) → T (fits? 255 t.1.0) → answer p (heads p f) t ≡ lower_order → cost (many f) p (heads p f) f t.1 ≡ 1
  unfolding many
  cost_lower t fits e = cost_by (length (all_monomials f)) t fits lower_order e
