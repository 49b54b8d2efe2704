-- Sums at nodes as a vector of the theory: what adding products to them does.
use mathlib.Core.Path.{◌≡◌, refl, sym, ap, ◌∙◌, subst}
use mathlib.Core.Logic.{◌⊎◌, inl, inr}
use mathlib.Core.Bool.{Bool, true, false, ◌||◌}
use mathlib.Core.List.{List, [], ◌∷◌, ◌++◌}
use Prim.Native.Nat.{ℕ, suc, ◌+◌, ◌*◌, ◌%◌}
use native.Mathlib.Omega.{arith}
use lib.Dec.{T}
use lib.ListN.{length}
use Rattle.theory.specs.Vec.{ev, Same, scale, mapB, All}
use Rattle.theory.specs.Reckon.{Lower}
use Rattle.theory.proofs.Vec
use Rattle.definitions.specs.Limits.{Limits}
use Rattle.definitions.specs.Lists.{◌and◌, every}
use Rattle.definitions.specs.Field.{plus, times}
use Rattle.definitions.specs.Monomial.{Exponents, Monomial, Vector, product, fits?, same_monomial?}
use Rattle.definitions.specs.Stage.{Reduction}
use Rattle.definitions.specs.Run.{dropped?}
use Rattle.laws.proofs.Tests.{and_left, and_right, and_both}
use Rattle.laws.proofs.Modular.{times_left}
use Rattle.demands.proofs.Exponents.{E, out, product_out}
use Rattle.demands.proofs.Levels.{Mono, TVec, mono, vec, monos, same_mono}
use Rattle.demands.proofs.Setting.{Setting, S, L, F, is_lower}
use Rattle.demands.proofs.Sums.{merged}
use Rattle.demands.proofs.Steps.{stage}
use Rattle.sweeps.specs.Table.{node?, held?, all_held?}
use Rattle.sweeps.specs.Sweep.{edges, added, spread, zeros}
use Rattle.sweeps.proofs.Unrefused.{or_says}

-- ## Lengths, and what is no node

pub added_length : (c : ℕ) (m : Monomial) (N : List Monomial) (ss : List ℕ) → length (added c m N ss) ≡ length ss
added_length c m [] ss = refl
added_length c m (x ∷ N) [] = refl
added_length c m (x ∷ N) (s ∷ ss) = go (same_monomial? m x) (added_length c m N ss)
  where
    go : (b : Bool) → length (added c m N ss) ≡ length ss → length {A = ℕ} (elim b [ true ↦ (s + c) ∷ ss | false ↦ s ∷ added c m N ss ]) ≡ suc (length ss)
    go true e = refl
    go false e = ap suc e

pub added_nowhere : (c : ℕ) (m : Monomial) (N : List Monomial) (ss : List ℕ) → (T (node? m N) → ⊥) → added c m N ss ≡ ss
added_nowhere c m [] ss n = refl
added_nowhere c m (x ∷ N) [] n = refl
added_nowhere c m (x ∷ N) (s ∷ ss) n = go (same_monomial? m x) n (added_nowhere c m N ss)
  where
    go : (b : Bool) → (T (elim b [ true ↦ true | false ↦ node? m N ]) → ⊥) → ((T (node? m N) → ⊥) → added c m N ss ≡ ss)
        → elim b [ true ↦ (s + c) ∷ ss | false ↦ s ∷ added c m N ss ] ≡ s ∷ ss
    go true k ih = absurd (k tt)
    go false k ih = ap (λ z. s ∷ z) (ih k)

module _ (Z : Setting) (lim : Limits) where
  -- the sums at the nodes, as a working value
  abbrev pub held : List (Mono Z.n) → List ℕ → TVec Z.n
  held [] ss = []
  held (x ∷ xs) [] = []
  held (x ∷ xs) (s ∷ ss) = (s, x) ∷ held xs ss

  -- a number acts as its remainder
  pub as_remainder : (c : ℕ) (x : Mono Z.n) (v : TVec Z.n) → Same (S Z) ((c, x) ∷ v) ((c % Z.p, x) ∷ v)
  as_remainder c x v = record { at = λ φ. ap (λ z. plus Z.p z (ev (S Z) φ v)) (sym (times_left Z.p c (φ x))) }

  pub zeros_held : (xs : List (Mono Z.n)) → Same (S Z) (held xs (zeros (monos Z.n xs))) []
  zeros_held [] = Vec.same_refl (S Z)
  zeros_held (x ∷ xs) =
      Vec.same_trans (S Z) (Vec.same_drop (S Z) 0 x (held xs (zeros (monos Z.n xs))) ((S Z).mul_zero 1) (Vec.same_refl (S Z))) (zeros_held xs)

  pub zeros_length : (xs : List (Mono Z.n)) → length (zeros (monos Z.n xs)) ≡ length xs
  zeros_length [] = refl
  zeros_length (x ∷ xs) = ap suc (zeros_length xs)

  added_held : (c : ℕ) (y : Mono Z.n) (xs : List (Mono Z.n)) (ss : List ℕ) → length ss ≡ length xs → T (node? (mono Z.n y) (monos Z.n xs))
      → Same (S Z) (held xs (added c (mono Z.n y) (monos Z.n xs) ss)) ((c, y) ∷ held xs ss)
  added_held c y [] ss l t = absurd t
  added_held c y (x ∷ xs) [] l t = absurd (omega (arith, l))
  added_held c y (x ∷ xs) (s ∷ ss) l t =
      go (same_monomial? (mono Z.n y) (mono Z.n x)) (same_mono Z.n y x) t (added_held c y xs ss (omega (arith, l)))
    where
      later : List ℕ
      later = added c (mono Z.n y) (monos Z.n xs) ss

      go : (b : Bool) → (T b → y ≡ x) → T (elim b [ true ↦ true | false ↦ node? (mono Z.n y) (monos Z.n xs) ])
          → (T (node? (mono Z.n y) (monos Z.n xs)) → Same (S Z) (held xs later) ((c, y) ∷ held xs ss))
          → Same (S Z) (held (x ∷ xs) (elim b [ true ↦ (s + c) ∷ ss | false ↦ s ∷ later ])) ((c, y) ∷ (s, x) ∷ held xs ss)
      go true e k ih = Vec.same_trans (S Z) (as_remainder (s + c) x (held xs ss)) (merged Z.n Z.p Z.P (c, y) (s, x) (held xs ss) (e tt))
      go false e k ih = Vec.same_trans (S Z) (Vec.same_cons (S Z) (s, x) (ih k)) (Vec.same_swap (S Z) (s, x) (c, y) (held xs ss))

  -- ## Products

  module _ (d : Bool) where
    abbrev R : Reduction
    R = (stage Z lim).reduction

    -- what is dropped is of lower order
    dropped_lower : (y : Mono Z.n) → (b : Bool) → T (dropped? R b (mono Z.n y)) → Lower (S Z) (L Z) (F Z) y
    dropped_lower y true t = is_lower Z y t
    dropped_lower y false t = absurd t

    dropped_some : (y : Mono Z.n) → (b : Bool) → T (dropped? R b (mono Z.n y)) → b ≡ false → ⊥
    dropped_some y true t e = subst T e tt
    dropped_some y false t e = t

    -- c · g onto the sums ss: the sums ss', and what is left out, of lower order
    pub record Spread (xs : List (Mono Z.n)) (ss : List ℕ) (c : ℕ) (g : TVec Z.n) (ss' : List ℕ) : Type 0 where
      pub low : TVec Z.n
      pub lower : All (S Z) (Lower (S Z) (L Z) (F Z)) low
      pub split : Same (S Z) (held xs ss' ++ low) (held xs ss ++ scale (S Z) c g)
      pub long : length ss' ≡ length xs
      pub whole : d ≡ false → low ≡ []

    abbrev AllHeld : List (Mono Z.n) → Vector → Type 0
    AllHeld xs es = T (every (λ t. held? R d (monos Z.n xs) t.1) es)

    pub spread_held : (c : ℕ) (g : TVec Z.n) (xs : List (Mono Z.n)) (ss : List ℕ) → length ss ≡ length xs → AllHeld xs (vec Z.n g)
        → Spread xs ss c g (spread c (vec Z.n g) (monos Z.n xs) ss)
    spread_held c [] xs ss l h = record { low = []; lower = tt; split = Vec.same_refl (S Z); long = l; whole = λ e. refl }
    spread_held c (t ∷ g) xs ss l h =
        go (node? m (monos Z.n xs)) (λ k. k) (λ k. k)
        (or_says (dropped? R d m) (node? m (monos Z.n xs)) (and_right (fits? R.limits.exponent m.0) (dropped? R d m || node? m (monos Z.n xs))
        (and_left (held? R d (monos Z.n xs) m) later h)))
        (spread_held c g xs next (added_length (c * t.0) m (monos Z.n xs) ss ∙ l) (and_right (held? R d (monos Z.n xs) m) later h))
      where
        m : Monomial
        m = mono Z.n t.1

        later : Bool
        later = every (λ u. held? R d (monos Z.n xs) u.1) (vec Z.n g)

        next : List ℕ
        next = added (c * t.0) m (monos Z.n xs) ss

        scaled : TVec Z.n
        scaled = scale (S Z) c g

        -- c · t in front
        front : Same (S Z) ((c * t.0, t.1) ∷ (held xs ss ++ scaled)) (held xs ss ++ (times Z.p c t.0, t.1) ∷ scaled)
        front =
            Vec.same_trans (S Z) (as_remainder (c * t.0) t.1 (held xs ss ++ scaled))
            (Vec.same_middle (S Z) (times Z.p c t.0, t.1) (held xs ss) scaled)

        go : (b : Bool) → (T b → T (node? m (monos Z.n xs))) → (T (node? m (monos Z.n xs)) → T b) → T (dropped? R d m) ⊎ T (node? m (monos Z.n xs))
            → Spread xs next c g (spread c (vec Z.n g) (monos Z.n xs) next)
            → Spread xs ss c (t ∷ g) (spread c (vec Z.n g) (monos Z.n xs) next)
        go true to from o r = record {
          low = r.low;
          lower = r.lower;
          split =
              Vec.same_trans (S Z) r.split
              (Vec.same_trans (S Z) (Vec.same_append (S Z) (added_held (c * t.0) t.1 xs ss l (to tt)) (Vec.same_refl (S Z) {v = scaled})) front);
          long = r.long;
          whole = r.whole;
        }
        go false to from (inr k) r = absurd (from k)
        go false to from (inl k) r = record {
          low = (c * t.0, t.1) ∷ r.low;
          lower = (dropped_lower t.1 d k, r.lower);
          split =
              Vec.same_trans (S Z) (Vec.same_sym (S Z) (Vec.same_middle (S Z) (c * t.0, t.1) (held xs ss') r.low))
              (Vec.same_trans (S Z) (Vec.same_cons (S Z) (c * t.0, t.1) (subst (λ z. Same (S Z) (held xs ss' ++ r.low) (held xs z ++ scaled)) unchanged r.split))
              front);
          long = r.long;
          whole = λ e. absurd (dropped_some t.1 d k e);
        }
          where
            ss' : List ℕ
            ss' = spread c (vec Z.n g) (monos Z.n xs) next

            unchanged : next ≡ ss
            unchanged = added_nowhere (c * t.0) m (monos Z.n xs) ss from

    -- ## The edges of a multiple

    pub edges_out : (c : ℕ) (q : E Z.n) (g : TVec Z.n) → edges Z.p c (out Z.n q) (vec Z.n g)
        ≡ vec Z.n (scale (S Z) c (mapB (S Z) ((L Z).act q) g))
    edges_out c q [] = refl
    edges_out c q (t ∷ g) = λ i. (times Z.p c t.0, (product_out Z.n q t.1.0 i, suc t.1.1)) ∷ edges_out c q g i

    edges_held : (N : List Monomial) (p c : ℕ) (q : Exponents) (f : Vector) → T (all_held? R d N q f) → T (every (λ t. held? R d N t.1) (edges p c q f))
    edges_held N p c q [] h = tt
    edges_held N p c q (t ∷ f) h =
        let m : Monomial = (product q t.1.0, t.1.1) in
        and_both (held? R d N m) (every (λ u. held? R d N u.1) (edges p c q f)) (and_left (held? R d N m) (all_held? R d N q f) h)
        (edges_held N p c q f (and_right (held? R d N m) (all_held? R d N q f) h))

    pub spread_edges : (c a : ℕ) (q : E Z.n) (g : TVec Z.n) (xs : List (Mono Z.n)) (ss : List ℕ) → length ss ≡ length xs
        → T (all_held? R d (monos Z.n xs) (out Z.n q) (vec Z.n g))
        → Spread xs ss c (scale (S Z) a (mapB (S Z) ((L Z).act q) g)) (spread c (edges Z.p a (out Z.n q) (vec Z.n g)) (monos Z.n xs) ss)
    spread_edges c a q g xs ss l h =
        subst (λ es. Spread xs ss c (scale (S Z) a (mapB (S Z) ((L Z).act q) g)) (spread c es (monos Z.n xs) ss)) (sym (edges_out a q g))
        (spread_held c (scale (S Z) a (mapB (S Z) ((L Z).act q) g)) xs ss l
        (subst (AllHeld xs) (edges_out a q g) (edges_held (monos Z.n xs) Z.p a (out Z.n q) (vec Z.n g) h)))
