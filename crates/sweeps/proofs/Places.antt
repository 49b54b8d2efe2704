-- The pass over places is the sweep; edges to later places make the certificate's tests.
use mathlib.Core.Path.{◌≡◌, refl, sym, ap, ap₂, ◌∙◌, subst}
use mathlib.Core.Logic.{inl, inr}
use mathlib.Core.Bool.{Bool, true, false, ◌||◌}
use mathlib.Core.List.{List, [], ◌∷◌}
use Prim.Native.Nat.{ℕ, zero, suc, ◌+◌, ◌-◌, ◌*◌, ◌%◌, ◌<◌}
use native.Mathlib.Omega.{arith}
use lib.Dec.{T, eqb}
use lib.ListN.{length, get_or, drop, length-drop, length-set}
use Rattle.definitions.specs.Lists.{◌and◌, every, empty?, rest, choose}
use Rattle.definitions.specs.Field.{times, minus}
use Rattle.definitions.specs.Monomial.{Exponents, Monomial, Vector, product, fits?, same_monomial?, no_term, vector_of}
use Rattle.definitions.specs.Reducer.{Answer, reducer, lower_order, lower_order?}
use Rattle.definitions.specs.Stage.{Reduction, Stage}
use Rattle.definitions.specs.Run.{multiple, dropped?}
use Rattle.laws.proofs.Tests.{true_is, false_is, and_left, and_right, and_both}
use Rattle.laws.proofs.Products.{same_monomial_says, same_monomial_shows}
use Rattle.demands.specs.Notions.{Member}
use Rattle.sweeps.specs.Table.{node?, held?, all_held?, begun?}
use Rattle.sweeps.specs.Sweep.{
  edges,
  added,
  spread,
  zeros,
  passed,
  recorded,
  remaining,
  answer_at,
  sweep,
  left,
  first_sums,
  swept,
  remainder,
  ahead?,
  forward?,
}
use Rattle.sweeps.specs.Places.{Row, add_at, spread_at, moved, noted, places, settled?, Leads, no_more, skips, leads, RowRight, RowsRight, RootsRight}
use Rattle.sweeps.proofs.Unrefused.{node_says}
use Rattle.sweeps.proofs.Spreading.{added_length, added_nowhere}
use Rattle.sweeps.proofs.Forward.{or_left, or_right, node_here, node_later}

-- no node stands twice
abbrev pub Apart : List Monomial → Type 0
Apart [] = Unit {0}
Apart (x ∷ N) = (T (node? x N) → ⊥) × Apart N

-- ## The certificate's tests

pub node_at : (M : List Monomial) (i : ℕ) → i < length M → T (node? (get_or M i no_term.1) M)
node_at [] i l = absurd (omega arith)
node_at (x ∷ M) zero l = node_here x M
node_at (x ∷ M) (suc i) l = node_later x M (get_or M i no_term.1) (node_at M i (omega arith))

leads_held : {R : Reduction} {d : Bool} {o : ℕ} {M : List Monomial} {es : List (ℕ × ℕ)} {ps : Vector} → Leads R d o M es ps
    → T (every (λ t. held? R d M t.1) ps)
leads_held no_more = tt
leads_held {R} {d} {o} {M} (skips {t} {es} {ps} f k h) =
    and_both (held? R d M t.1) (every (λ t. held? R d M t.1) ps)
    (and_both (fits? R.limits.exponent t.1.0) (dropped? R d t.1 || node? t.1 M) f (or_left (dropped? R d t.1) (node? t.1 M) k))
    (leads_held h)
leads_held {R} {d} {o} {M} (leads {t} {es} {ps} i l e f h) =
    and_both (held? R d M t.1) (every (λ t. held? R d M t.1) ps)
    (and_both (fits? R.limits.exponent t.1.0) (dropped? R d t.1 || node? t.1 M) f
    (or_right (dropped? R d t.1) (node? t.1 M) (subst (λ m. T (node? m M)) e (node_at M i l)))) (leads_held h)

held_edges : (R : Reduction) (d : Bool) (N : List Monomial) (p c : ℕ) (q : Exponents) (f : Vector) → T (every (λ t. held? R d N t.1) (edges p c q f))
    → T (all_held? R d N q f)
held_edges R d N p c q [] h = tt
held_edges R d N p c q (t ∷ f) h =
    let m : Monomial = (product q t.1.0, t.1.1) in
    let l = every (λ u. held? R d N u.1) (edges p c q f) in
    and_both (held? R d N m) (all_held? R d N q f) (and_left (held? R d N m) l h) (held_edges R d N p c q f (and_right (held? R d N m) l h))

module _ (S : Stage) (d : Bool) where
  abbrev p : ℕ
  p = S.reduction.p

  pub rows_forward : (o : ℕ) (M : List Monomial) (rs : List Row) → RowsRight S d o M rs → T (forward? S d M)
  rows_forward o [] rs h = tt
  rows_forward o (x ∷ M) [] h = absurd h
  rows_forward o (x ∷ M) (r ∷ rs) h =
      and_both (ahead? S d M (answer_at S x)) (forward? S d M) (go (answer_at S x) h.0) (rows_forward (suc o) M rs h.1)
    where
      go : (a : Answer) → RowRight S d (suc o) M a r → T (ahead? S d M a)
      go lower_order k = tt
      go (reducer j i q) k = held_edges S.reduction d M p (minus p i) q (rest (vector_of S.family j)) (leads_held k.3)

  pub roots_begun : (N : List Monomial) (m : Monomial) (es : List (ℕ × ℕ)) → RootsRight S d N m es → T (begun? S d N m)
  roots_begun N m es h = held_edges S.reduction d N p 1 m.0 (vector_of S.family m.1) (leads_held h)

-- ## Sums by place

drop_add : (o i k c : ℕ) (ss : List ℕ) → k ≡ i + o → drop o (add_at k c ss) ≡ add_at i c (drop o ss)
drop_add zero i k c ss e = let h : k ≡ i = omega (arith, e) in ap (λ z. add_at z c ss) h
drop_add (suc o) i k c [] e = refl
drop_add (suc o) i zero c (s ∷ ss) e = absurd (omega (arith, e))
drop_add (suc o) i (suc k) c (s ∷ ss) e = drop_add o i k c ss (omega (arith, e))

drop_here : (o : ℕ) (ss : List ℕ) → o < length ss → drop o ss ≡ get_or ss o 0 ∷ drop (suc o) ss
drop_here o [] l = absurd (omega arith)
drop_here zero (s ∷ ss) l = refl
drop_here (suc o) (s ∷ ss) l = drop_here o ss (omega arith)

added_at : (c : ℕ) (m : Monomial) (M : List Monomial) (i : ℕ) (ss : List ℕ) → i < length M → get_or M i no_term.1 ≡ m → Apart M → length ss ≡ length M
    → added c m M ss ≡ add_at i c ss
added_at c m [] i ss l e a k = absurd (omega arith)
added_at c m (x ∷ M) i [] l e a k = absurd (omega (arith, k))
added_at c m (x ∷ M) zero (s ∷ ss) l e a k =
    ap (λ b. elim b [ true ↦ (s + c) ∷ ss | false ↦ s ∷ added c m M ss ]) (true_is (same_monomial? m x) (same_monomial_shows m x (sym e)))
added_at c m (x ∷ M) (suc i) (s ∷ ss) l e a k =
    ap (λ b. elim b [ true ↦ (s + c) ∷ ss | false ↦ s ∷ added c m M ss ]) (false_is (same_monomial? m x) (λ t. a.0 (subst (λ z. T (node? z M))
    (same_monomial_says m x t) here)))
    ∙ ap (λ z. s ∷ z) (added_at c m M i ss (omega arith) e a.1 (omega (arith, k)))
  where
    here : T (node? m M)
    here = subst (λ z. T (node? z M)) e (node_at M i (omega arith))

leads_spread : {R : Reduction} {d : Bool} {o : ℕ} {M : List Monomial} {es : List (ℕ × ℕ)} {ps : Vector} → Leads R d o M es ps → Apart M
    → ((m : Monomial) → T (dropped? R d m) → T (node? m M) → ⊥) → (c : ℕ) (ss : List ℕ) → length (drop o ss) ≡ length M
    → drop o (spread_at c es ss) ≡ spread c ps M (drop o ss)
leads_spread no_more a n c ss l = refl
leads_spread {R} {d} {o} {M} (skips {t} {es} {ps} f k h) a n c ss l =
    leads_spread h a n c ss l ∙ ap (spread c ps M) (sym (added_nowhere (c * t.0) t.1 M (drop o ss) (n t.1 k)))
leads_spread {R} {d} {o} {M} (leads {t} {es} {ps} i j e f h) a n c ss l =
    leads_spread h a n c (add_at (i + o) (c * t.0) ss) (ap length (drop_add o i (i + o) (c * t.0) ss refl)
    ∙ length-set (drop o ss) i (get_or (drop o ss) i 0 + c * t.0) ∙ l)
    ∙ ap (spread c ps M) (drop_add o i (i + o) (c * t.0) ss refl ∙ sym (added_at (c * t.0) t.1 M i (drop o ss) j e a l))

spread_length : (c : ℕ) (es : List (ℕ × ℕ)) (ss : List ℕ) → length (spread_at c es ss) ≡ length ss
spread_length c [] ss = refl
spread_length c (e ∷ es) ss = spread_length c es (add_at e.0 (c * e.1) ss) ∙ length-set ss e.0 (get_or ss e.0 0 + c * e.1)

-- ## The pass

module _ (S : Stage) (d : Bool) where
  -- what is dropped is no node
  no_lower : (o : ℕ) (M : List Monomial) (rs : List Row) → RowsRight S d o M rs → (m : Monomial) → T (dropped? S.reduction d m) → T (node? m M) → ⊥
  no_lower o M rs h m k i = find o M rs h (node_says m M i)
    where
      lower : (b : Bool) → T (dropped? S.reduction b m) → b ≡ false → ⊥
      lower true t e = subst T e tt
      lower false t e = t

      test : (b : Bool) → T (dropped? S.reduction b m) → T (lower_order? (answer_at S m))
      test true t = t
      test false t = absurd t

      at : (o : ℕ) (M : List Monomial) (r : Row) (a : Answer) → RowRight S d o M a r → T (lower_order? a) → ⊥
      at o M r lower_order w t = lower d k w.2
      at o M r (reducer j c q) w t = t

      find : (o : ℕ) (M : List Monomial) (rs : List Row) → RowsRight S d o M rs → Member m M → ⊥
      find o [] rs h i = i
      find o (x ∷ M) [] h i = h
      find o (x ∷ M) (r ∷ rs) h (inl e) = at (suc o) M r (answer_at S x) h.0 (subst (λ z. T (lower_order? (answer_at S z))) e (test d k))
      find o (x ∷ M) (r ∷ rs) h (inr i) = find (suc o) M rs h.1 i

  -- a row does what its node does
  row_moves : (o : ℕ) (M : List Monomial) (r : Row) (a : Answer) → RowRight S d o M a r → Apart M
      → ((m : Monomial) → T (dropped? S.reduction d m) → T (node? m M) → ⊥) → (c : ℕ) (ss : List ℕ) → length (drop o ss) ≡ length M
      → drop o (moved r c ss) ≡ passed S c a M (drop o ss)
  row_moves o M r lower_order w a n c ss l = go (eqb c 0)
    where
      go : (b : Bool) → drop o (choose b ss (spread_at c r.edges ss)) ≡ drop o ss
      go true = refl
      go false = ap (λ es. drop o (spread_at c es ss)) w.1
  row_moves o M r (reducer j i q) w a n c ss l = go (eqb c 0)
    where
      ps : Vector
      ps = edges S.reduction.p (minus S.reduction.p i) q (rest (vector_of S.family j))

      go : (b : Bool) → drop o (choose b ss (spread_at c r.edges ss)) ≡ choose b (drop o ss) (spread c ps M (drop o ss))
      go true = refl
      go false = leads_spread w.3 a n c ss l

  row_notes : (o : ℕ) (M : List Monomial) (r : Row) (a : Answer) → RowRight S d o M a r → (c : ℕ) (v : Vector) → noted S.reduction.p r c v
      ≡ recorded S c a v
  row_notes o M r lower_order w c v =
      ap (λ b. choose b (choose (eqb c 0) v ((times S.reduction.p c r.turned, r.multiple) ∷ v)) v) w.0
  row_notes o M r (reducer j i q) w c v =
      ap (λ b. choose b (choose (eqb c 0) v ((times S.reduction.p c r.turned, r.multiple) ∷ v)) v) w.0
      ∙ ap₂ (λ x y. choose (eqb c 0) v ((times S.reduction.p c x, y) ∷ v)) w.1 w.2

  row_settles : (o : ℕ) (M : List Monomial) (r : Row) (a : Answer) → RowRight S d o M a r → (c : ℕ) (x : Monomial) (v : Vector)
      → ((r.reduced || eqb c 0) and empty? v) ≡ empty? (remaining c x a v)
  row_settles o M r lower_order w c x v = ap (λ b. (b || eqb c 0) and empty? v) w.0 ∙ go (eqb c 0)
    where
      go : (b : Bool) → ((false || b) and empty? v) ≡ empty? (choose b v ((c, x) ∷ v))
      go true = refl
      go false = refl
  row_settles o M r (reducer j i q) w c x v = ap (λ b. (b || eqb c 0) and empty? v) w.0

  record Passed (o : ℕ) (M : List Monomial) (rs : List Row) (ss : List ℕ) : Type 0 where
    vector : places S.reduction.p o rs ss ≡ sweep S M (drop o ss)
    rests : settled? S.reduction.p o rs ss ≡ empty? (left S M (drop o ss))

  pass : (o : ℕ) (M : List Monomial) (rs : List Row) → RowsRight S d o M rs → Apart M → (ss : List ℕ) → length (drop o ss) ≡ length M → Passed o M rs ss
  pass o [] [] h a ss l = record { vector = refl; rests = refl }
  pass o [] (r ∷ rs) h a ss l = absurd h
  pass o (x ∷ M) [] h a ss l = absurd h
  pass o (x ∷ M) (r ∷ rs) h a ss l = go (pass (suc o) M rs h.1 a.1 next (ap length moves ∙ passed_length (answer_at S x)))
    where
      c : ℕ
      c = get_or ss o 0 % S.reduction.p

      next : List ℕ
      next = moved r c ss

      split : drop o ss ≡ get_or ss o 0 ∷ drop (suc o) ss
      split = drop_here o ss (let e : length (drop o ss) ≡ length ss - o = length-drop o ss in omega (arith, l))

      short : length (drop (suc o) ss) ≡ length M
      short = let e : suc (length (drop (suc o) ss)) ≡ suc (length M) = sym (ap length split) ∙ l in omega arith

      moves : drop (suc o) next ≡ passed S c (answer_at S x) M (drop (suc o) ss)
      moves = row_moves (suc o) M r (answer_at S x) h.0 a.1 (no_lower (suc o) M rs h.1) c ss short

      passed_length : (y : Answer) → length (passed S c y M (drop (suc o) ss)) ≡ length M
      passed_length lower_order = short
      passed_length (reducer j i q) = many (eqb c 0)
        where
          ps : Vector
          ps = edges S.reduction.p (minus S.reduction.p i) q (rest (vector_of S.family j))

          each : (ps : Vector) (us : List ℕ) → length (spread c ps M us) ≡ length us
          each [] us = refl
          each (t ∷ ps) us = each ps (added (c * t.0) t.1 M us) ∙ added_length (c * t.0) t.1 M us

          many : (b : Bool) → length (choose b (drop (suc o) ss) (spread c ps M (drop (suc o) ss))) ≡ length M
          many true = short
          many false = each ps (drop (suc o) ss) ∙ short

      go : Passed (suc o) M rs next → Passed o (x ∷ M) (r ∷ rs) ss
      go k = record {
        vector =
            row_notes (suc o) M r (answer_at S x) h.0 c (places S.reduction.p (suc o) rs next)
            ∙ ap (recorded S c (answer_at S x)) (k.vector ∙ ap (sweep S M) moves) ∙ ap (sweep S (x ∷ M)) (sym split);
        rests =
            ap (λ b. (r.reduced || eqb c 0) and b) (k.rests ∙ ap (λ us. empty? (left S M us)) moves)
            ∙ row_settles (suc o) M r (answer_at S x) h.0 c x (left S M (passed S c (answer_at S x) M (drop (suc o) ss)))
            ∙ ap (λ us. empty? (left S (x ∷ M) us)) (sym split);
      }

  -- ## From a frame term

  zeros_long : (N : List Monomial) → length (zeros N) ≡ length N
  zeros_long [] = refl
  zeros_long (x ∷ N) = ap suc (zeros_long N)

  module _ (N : List Monomial) (rs : List Row) (h : RowsRight S d 0 N rs) (a : Apart N) (m : Monomial) (es : List (ℕ × ℕ)) (w : RootsRight S d N m es) where
    sums_are : spread_at 1 es (zeros N) ≡ first_sums S N m
    sums_are = leads_spread w a (no_lower 0 N rs h) 1 (zeros N) (zeros_long N)

    passes : Passed 0 N rs (spread_at 1 es (zeros N))
    passes = pass 0 N rs h a (spread_at 1 es (zeros N)) (spread_length 1 es (zeros N) ∙ zeros_long N)

    pub places_swept : (1, m) ∷ places S.reduction.p 0 rs (spread_at 1 es (zeros N)) ≡ swept S N m
    places_swept = ap (λ v. (1, m) ∷ v) (passes.vector ∙ ap (sweep S N) sums_are)

    pub places_settled : settled? S.reduction.p 0 rs (spread_at 1 es (zeros N)) ≡ empty? (remainder S N m)
    places_settled = passes.rests ∙ ap (λ us. empty? (left S N us)) sums_are

-- ## For a loop

-- a node whose sum is zero modulo p may be passed over
pub places_skip : (p x : ℕ) (r : Row) (rs : List Row) (ss : List ℕ) → get_or ss x 0 % p ≡ 0 → places p x (r ∷ rs) ss ≡ places p (suc x) rs ss
places_skip p x r rs ss e =
    ap (λ c. noted p r c (places p (suc x) rs (moved r c ss))) e ∙ go r.reduced
  where
    go : (b : Bool) → choose b (places p (suc x) rs ss) (places p (suc x) rs ss) ≡ places p (suc x) rs ss
    go true = refl
    go false = refl

pub settled_skip : (p x : ℕ) (r : Row) (rs : List Row) (ss : List ℕ) → get_or ss x 0 % p ≡ 0 → settled? p x (r ∷ rs) ss ≡ settled? p (suc x) rs ss
settled_skip p x r rs ss e =
    ap (λ c. (r.reduced || eqb c 0) and settled? p (suc x) rs (moved r c ss)) e ∙ go r.reduced
  where
    go : (b : Bool) → ((b || true) and settled? p (suc x) rs ss) ≡ settled? p (suc x) rs ss
    go true = refl
    go false = refl
