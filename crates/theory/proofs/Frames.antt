-- The frame's list generates exactly what it should, so every finite family over monomials that can be divided has a frame.
use mathlib.Core.Path.{◌≡◌, refl, ap, ◌∙◌, subst}
use mathlib.Core.Logic.{◌⊎◌, inl, inr}
use mathlib.Core.Option.{Option, none, some}
use mathlib.Core.Bool.{Bool, true, false, ◌||◌}
use mathlib.Core.List.{List, [], ◌∷◌, ◌++◌}
use Prim.Native.Nat.{ℕ, zero, suc, ◌<◌}
use native.Mathlib.Omega.{arith}
use lib.Dec.{T}
use lib.ListN.{length}
use Rattle.theory.specs.Laws.{Scalars, Monoid, Level, Tri, below, same, above}
use Rattle.theory.specs.Division.{Division, Quotient, quotB, quotB_is, Divided, Colon}
use Rattle.theory.specs.Induced.{indAct, nat_tri}
use Rattle.theory.specs.Syzygy.{Free, Covered}
use Rattle.theory.specs.Stage.{Finite, family, term_at, Framed}
use Rattle.theory.specs.Frames.{is_some, maybe, gens, divides?, any_divides?, drop_multiples, add_by, minimal, insert, sort, tagged, frame_at, frame_list}
use Rattle.theory.proofs.Lists.{Some, Every, some_map, some_left, some_right, some_at, every_map, every_append, every_at, seek}

module _ {M : Monoid} (D : Division M) (ltb : M.E → M.E → Bool) where
  open M use {E, mulE}

  abbrev pub Divides : E → E → Type 0
  Divides g c = (u : E) × (mulE u g ≡ c)

  -- ## The tests say what they should

  divides_trans : {a b c : E} → Divides a b → Divides b c → Divides a c
  divides_trans {a} (u, e) (w, h) = (mulE w u, M.mulE_assoc w u a ∙ ap (mulE w) e ∙ h)

  divides_is : (g c : E) → T (divides? D ltb g c) → Divides g c
  divides_is g c = go (D.quot g c) (D.quot_is g c)
    where
      go : (o : Option E) → Quotient (λ m. mulE m g) c o → T (is_some o) → Divides g c
      go (some u) q t = (u, q)
      go none q t = absurd t

  covered? : (l : List E) (c : E) → T (any_divides? D ltb l c) → Some (λ g. Divides g c) l
  covered? [] c t = t
  covered? (g ∷ l) c t = go (divides? D ltb g c) (divides_is g c) (covered? l c) t
    where
      go : (b : Bool) → (T b → Divides g c) → (T (any_divides? D ltb l c) → Some (λ g. Divides g c) l) → T (b || any_divides? D ltb l c)
          → Divides g c ⊎ Some (λ g. Divides g c) l
      go true h k t = inl (h t)
      go false h k t = inr (k t)

  -- ## Whatever a generator divides, a minimal one divides

  abbrev Over : E → List E → Type 0
  Over d l = Some (λ g. Divides g d) l

  drop_keeps : (c d : E) (l : List E) → Over d l → Divides c d ⊎ Over d (drop_multiples D ltb c l)
  drop_keeps c d [] s = elim s [ ]
  drop_keeps c d (g ∷ l) s = go (divides? D ltb c g) (divides_is c g) s (drop_keeps c d l)
    where
      next : Divides c d ⊎ Over d (drop_multiples D ltb c l) → Divides c d ⊎ Over d (g ∷ drop_multiples D ltb c l)
      next (inl h) = inl h
      next (inr h) = inr (inr h)

      go : (b : Bool) → (T b → Divides c g) → Divides g d ⊎ Over d l → (Over d l → Divides c d ⊎ Over d (drop_multiples D ltb c l))
          → Divides c d ⊎ Over d (elim b [ true ↦ drop_multiples D ltb c l | false ↦ g ∷ drop_multiples D ltb c l ])
      go true h (inl p) ih = inl (divides_trans (h tt) p)
      go true h (inr p) ih = ih p
      go false h (inl p) ih = inr (inl p)
      go false h (inr p) ih = next (ih p)

  pub minimal_covers : (l : List E) (d : E) → Some (λ g. Divides g d) l → Some (λ g. Divides g d) (minimal D ltb l)
  minimal_covers [] d s = elim s [ ]
  minimal_covers (c ∷ l) d s = go (any_divides? D ltb m c) (covered? m c) s (minimal_covers l d)
    where
      m : List E
      m = minimal D ltb l

      turn : Divides c d ⊎ Over d (drop_multiples D ltb c m) → Over d (c ∷ drop_multiples D ltb c m)
      turn (inl h) = inl h
      turn (inr h) = inr h

      go : (b : Bool) → (T b → Over c m) → Divides c d ⊎ Over d l → (Over d l → Over d m)
          → Over d (add_by D ltb b c m)
      go true h (inl p) ih = some_map (λ g. Divides g c) (λ g. Divides g d) (λ g q. divides_trans q p) m (h tt)
      go true h (inr p) ih = ih p
      go false h (inl p) ih = inl p
      go false h (inr p) ih = turn (drop_keeps c d m (ih p))

  -- ## Sorting, dropping and tagging keep what is there

  insert_some : (P : E → Type 0) (c : E) (l : List E) → P c ⊎ Some P l → Some P (insert D ltb c l)
  insert_some P c [] s = s
  insert_some P c (g ∷ l) s = go (ltb c g) s (insert_some P c l)
    where
      go : (b : Bool) → P c ⊎ (P g ⊎ Some P l) → (P c ⊎ Some P l → Some P (insert D ltb c l))
          → Some P (elim b [ true ↦ c ∷ g ∷ l | false ↦ g ∷ insert D ltb c l ])
      go true s ih = s
      go false (inl p) ih = inr (ih (inl p))
      go false (inr (inl p)) ih = inl p
      go false (inr (inr p)) ih = inr (ih (inr p))

  pub sort_some : (P : E → Type 0) (l : List E) → Some P l → Some P (sort D ltb l)
  sort_some P [] x' = elim x' [ ]
  sort_some P (c ∷ l) (inl p) = insert_some P c (sort D ltb l) (inl p)
  sort_some P (c ∷ l) (inr p) = insert_some P c (sort D ltb l) (inr (sort_some P l p))

  pub drop_every : (P : E → Type 0) (c : E) (l : List E) → Every P l → Every P (drop_multiples D ltb c l)
  drop_every P c [] h = tt
  drop_every P c (g ∷ l) h = go (divides? D ltb c g) (drop_every P c l h.1)
    where
      go : (b : Bool) → Every P (drop_multiples D ltb c l)
          → Every P (elim b [ true ↦ drop_multiples D ltb c l | false ↦ g ∷ drop_multiples D ltb c l ])
      go true k = k
      go false k = (h.0, k)

  pub minimal_every : (P : E → Type 0) (l : List E) → Every P l → Every P (minimal D ltb l)
  minimal_every P [] h = tt
  minimal_every P (c ∷ l) h = go (any_divides? D ltb m c) (minimal_every P l h.1)
    where
      m : List E
      m = minimal D ltb l

      go : (b : Bool) → Every P m → Every P (add_by D ltb b c m)
      go true k = k
      go false k = (h.0, drop_every P c m k)

  pub insert_every : (P : E → Type 0) (c : E) (l : List E) → P c → Every P l → Every P (insert D ltb c l)
  insert_every P c [] p h = (p, tt)
  insert_every P c (g ∷ l) p h = go (ltb c g) (insert_every P c l p h.1)
    where
      go : (b : Bool) → Every P (insert D ltb c l) → Every P (elim b [ true ↦ c ∷ g ∷ l | false ↦ g ∷ insert D ltb c l ])
      go true k = (p, h)
      go false k = (h.0, k)

  pub sort_every : (P : E → Type 0) (l : List E) → Every P l → Every P (sort D ltb l)
  sort_every P [] h = tt
  sort_every P (c ∷ l) h = insert_every P c (sort D ltb l) h.0 (sort_every P l h.1)

  tagged_some : (P : E → Type 0) (i : ℕ) (l : List E) → Some P l → Some (λ (t : E × ℕ). (t.1 ≡ i) × P t.0) (tagged D ltb i l)
  tagged_some P i [] x' = elim x' [ ]
  tagged_some P i (c ∷ l) (inl p) = inl (refl, p)
  tagged_some P i (c ∷ l) (inr s) = inr (tagged_some P i l s)

  tagged_every : (P : E → Type 0) (R : E × ℕ → Type 0) (i : ℕ) → ((c : E) → P c → R (c, i)) → (l : List E) → Every P l → Every R (tagged D ltb i l)
  tagged_every P R i h [] s = tt
  tagged_every P R i h (c ∷ l) s = (h c s.0, tagged_every P R i h l s.1)

  -- ## The generators of one number, and the list of all

  module _ (L : Level M) (Q : Divided L) (lm : ℕ → L.B) where
    -- c · LM f_i is a multiple of LM f_j for some j < r
    abbrev pub Gen : ℕ → ℕ → E → Type 0
    Gen i r c = (j : ℕ) × (j < r) × ((n : E) × (L.act n (lm j) ≡ L.act c (lm i)))

    gens_every : (i r : ℕ) → Every (Gen i r) (gens L Q lm i r)
    gens_every i zero = tt
    gens_every i (suc r) = go (Q.colonL (lm r) (lm i)) (Q.colonL_is (lm r) (lm i))
        (every_map (Gen i r) (Gen i (suc r)) (λ c g. (g.0, omega arith, g.2)) (gens L Q lm i r) (gens_every i r))
      where
        go : (o : Option E) → Colon L (lm r) (lm i) o → Every (Gen i (suc r)) (gens L Q lm i r) → Every (Gen i (suc r)) (maybe o (gens L Q lm i r))
        go none q h = h
        go (some c) q h = ((r, omega arith, q.0), h)

    gens_some : (i r j : ℕ) → j < r → (m n : E) → L.act n (lm j) ≡ L.act m (lm i) → Over m (gens L Q lm i r)
    gens_some i zero j h m n e = absurd (omega arith)
    gens_some i (suc r) j h m n e = go (Q.colonL (lm r) (lm i)) (Q.colonL_is (lm r) (lm i)) (nat_tri j r) (λ k. gens_some i r j k m n e)
      where
        at_r : j ≡ r → L.act n (lm r) ≡ L.act m (lm i)
        at_r k = subst (λ z. L.act n (lm z) ≡ L.act m (lm i)) k e

        go : (o : Option E) → Colon L (lm r) (lm i) o → Tri (j < r) (j ≡ r) (r < j) → (j < r → Over m (gens L Q lm i r))
            → Over m (maybe o (gens L Q lm i r))
        go none q (below k) ih = ih k
        go none q (same k) ih = absurd (q m n (at_r k))
        go none q (above k) ih = absurd (omega arith)
        go (some c) q (below k) ih = inr (ih k)
        go (some c) q (same k) ih = inl (q.1 m n (at_r k))
        go (some c) q (above k) ih = absurd (omega arith)

    at_some : (i j : ℕ) → j < i → (m n : E) → L.act n (lm j) ≡ L.act m (lm i) → Over m (frame_at D ltb L Q lm i)
    at_some i j h m n e =
        sort_some (λ g. Divides g m) (minimal D ltb (gens L Q lm i i)) (minimal_covers (gens L Q lm i i) m (gens_some i i j h m n e))

    list_some : (m : E) (r i : ℕ) → i < r → Over m (frame_at D ltb L Q lm i)
        → Some (λ (t : E × ℕ). (t.1 ≡ i) × Divides t.0 m) (frame_list D ltb L Q lm r)
    list_some m zero i h s = absurd (omega arith)
    list_some m (suc r) i h s = go (nat_tri i r) (λ k. list_some m r i k s)
      where
        P : E × ℕ → Type 0
        P t = (t.1 ≡ i) × Divides t.0 m

        last : List (E × ℕ)
        last = tagged D ltb r (frame_at D ltb L Q lm r)

        go : Tri (i < r) (i ≡ r) (r < i) → (i < r → Some P (frame_list D ltb L Q lm r)) → Some P (frame_list D ltb L Q lm r ++ last)
        go (below k) ih = some_left P (frame_list D ltb L Q lm r) last (ih k)
        go (same k) ih = some_right P (frame_list D ltb L Q lm r) last
            (subst (λ z. Some P (tagged D ltb z (frame_at D ltb L Q lm z))) k (tagged_some (λ g. Divides g m) i (frame_at D ltb L Q lm i) s))
        go (above k) ih = absurd (omega arith)

    abbrev pub Listed : ℕ → E × ℕ → Type 0
    Listed r t = (t.1 < r) × Gen t.1 t.1 t.0

    pub list_every : (r : ℕ) → Every (Listed r) (frame_list D ltb L Q lm r)
    list_every zero = tt
    list_every (suc r) = every_append (Listed (suc r)) (frame_list D ltb L Q lm r) (tagged D ltb r (frame_at D ltb L Q lm r))
        (every_map (Listed r) (Listed (suc r)) (λ t h. (omega arith, h.1)) (frame_list D ltb L Q lm r) (list_every r))
        (tagged_every (Gen r r) (Listed (suc r)) r (λ c g. (omega arith, g)) (frame_at D ltb L Q lm r) new)
      where
        new : Every (Gen r r) (frame_at D ltb L Q lm r)
        new = sort_every (Gen r r) (minimal D ltb (gens L Q lm r r)) (minimal_every (Gen r r) (gens L Q lm r r) (gens_every r r))

  -- ## The frame

  module _ (S : Scalars) (L : Level M) (Q : Divided L) (A : Finite S L) where
    abbrev pub frames : List (E × ℕ)
    frames = frame_list D ltb L Q A.lm A.count

    -- divided by a frame term, or no j < i has the same image
    pub frame_covers : (b : E × ℕ) → b.1 < A.count
        → Covered S L (family S L A) (term_at M frames) (λ (k : ℕ). k < length frames) b ⊎ Free S L (family S L A) b
    frame_covers b d = go (seek P decide frames)
      where
        P : E × ℕ → Type 0
        P t = (u : E) × (indAct L A.lm u t ≡ b)

        decide : (t : E × ℕ) → P t ⊎ (P t → ⊥)
        decide t = at (quotB D t b) (quotB_is D t b)
          where
            at : (o : Option E) → Quotient (λ m. (mulE m t.0, t.1)) b o → P t ⊎ (P t → ⊥)
            at (some u) q = inl (u, q)
            at none q = inr (λ p. q p.0 p.1)

        found : Some P frames → Covered S L (family S L A) (term_at M frames) (λ (k : ℕ). k < length frames) b
        found s = let (k, h, p) = some_at (M.ε, 0) P frames s in record { number = k; dom = h; factor = p.0; divides = p.1 }

        free : (Some P frames → ⊥) → Free S L (family S L A) b
        free nope x h l e = nope (some_map (λ t. (t.1 ≡ b.1) × Divides t.0 b.0) P (λ t p. (p.1.0, λ i. (p.1.1 i, p.0 i))) frames
            (list_some L Q A.lm b.0 A.count b.1 d (at_some L Q A.lm b.1 x.1 l b.0 x.0 e)))

        go : Some P frames ⊎ (Some P frames → ⊥)
            → Covered S L (family S L A) (term_at M frames) (λ (k : ℕ). k < length frames) b ⊎ Free S L (family S L A) b
        go (inl s) = inl (found s)
        go (inr s) = inr (free s)

    abbrev pub framed : Framed S L A
    framed = record {
      terms = frames;
      covers = frame_covers;
      real = λ k h.
          let R : Listed L Q A.lm A.count (term_at M frames k) =
          every_at (M.ε, 0) (Listed L Q A.lm A.count) frames (list_every L Q A.lm A.count) k h in
          (R.0, ((R.1.2.0, R.1.0), R.1.1, R.1.2.1));
    }
