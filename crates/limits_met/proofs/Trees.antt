-- Lifting by the tree is that work, and comes to what the work comes to.
use mathlib.Core.Path.{◌≡◌, refl, sym, ap, ◌∙◌, subst}
use mathlib.Core.Bool.{Bool, true, false}
use mathlib.Core.Option.{Option, none, some}
use mathlib.Core.List.{List, [], ◌∷◌, ◌++◌}
use Prim.Native.Nat.{ℕ, zero, suc, ◌+◌, ◌-◌, ◌<◌, ◌≤◌}
use native.Mathlib.Omega.{arith}
use lib.Dec.{T, leb, ltb, leb→le, le→leb, ltb→lt, lt→ltb}
use lib.ListN.{length}
use Rattle.definitions.specs.Lists.{rest, ◌then◌}
use Rattle.definitions.specs.Field.{times, minus}
use Rattle.definitions.specs.Limits.{Limits}
use Rattle.definitions.specs.Monomial.{Exponents, Monomial, Term, Vector, Level, fits?, vector_of, leading_monomials}
use Rattle.definitions.specs.Reducer.{Answer, reducer, lower_order, heads, answer}
use Rattle.definitions.specs.Result.{Result, done, refused, unfinished, refusal, ◌>>=◌}
use Rattle.definitions.specs.Order.{compare_over}
use Rattle.definitions.specs.Vectors.{insert, descending}
use Rattle.definitions.specs.Stage.{Stage, highest, stage_over}
use Rattle.definitions.specs.Run.{multiple}
use Rattle.definitions.specs.Tree.{Cache, cached, used, Subtree, Sum, finish_by, finish, held_to, add_result, add_subtree, LiftTerm}
use Rattle.definitions.specs.Tree.{if_product_fits, lift_list, open_subtree, or_open, lift_by, lift_term, if_vector_product_fits, lift_vector}
use Rattle.definitions.specs.Frame.{frame}
use Rattle.definitions.specs.Reckoning.{scaled, liftings, lifted_by, lifted_to, reckoned_vector, each, reckoned_level}
use Rattle.limits_met.specs.Limits.{All, Fits}
use Rattle.limits_met.specs.Trees.{Open, Handed, Work, unfinished_terms, own, Within, work, hand, with_sum, with_left, subtree}
use Rattle.limits_met.specs.Trees.{found_or_opened, take_product, finish_subtree, product_of, next_product, next_by, next, taken_by, taken}
use Rattle.limits_met.specs.Trees.{Fitting, ComesTo, ends, thirteen, fourteen, goes_on, frame_work, TreeComes, ShallowBy, NeverOpened, Shallow}
use Rattle.limits_met.specs.Trees.{ShallowFrame, tree_by}
use Rattle.limits_met.proofs.Runs.{fits_says, fits_shows}

bind_bind : {A B C : Type 0} (x : Result A) (f : A → Result B) (g : B → Result C) → ((x >>= f) >>= g) ≡ (x >>= λ a. f a >>= g)
bind_bind (done a) f g = refl
bind_bind (refused number place value) f g = refl
bind_bind unfinished f g = refl

bind_thrice : {A B C D : Type 0} (x : Result A) (f : A → Result B) (g : B → Result C) (h : C → Result D)
    → (((x >>= f) >>= g) >>= h) ≡ (x >>= λ a. (f a >>= g) >>= h)
bind_thrice (done a) f g h = refl
bind_thrice (refused number place value) f g h = refl
bind_thrice unfinished f g h = refl

-- ## Optional values

none_some : {A : Type 0} {a : A} → ◌≡◌ {A = Option A} none (some a) → ⊥
none_some e = subst (λ o. No o) e tt
  where
    No : {A : Type 0} → Option A → Type 0
    No none = Unit {0}
    No (some a) = ⊥

some_none : {A : Type 0} {a : A} → ◌≡◌ {A = Option A} (some a) none → ⊥
some_none e = none_some (sym e)

same_some : {a b : Work} → ◌≡◌ {A = Option Work} (some a) (some b) → a ≡ b
same_some {a} e = ap (λ o. get o) e
  where
    get : Option Work → Work
    get none = a
    get (some b) = b

module _ (S : Stage) (room : ℕ) where
  abbrev p : ℕ
  p = S.reduction.p

  abbrev limit : ℕ
  limit = S.reduction.limits.exponent

  abbrev area : ℕ
  area = S.reduction.limits.tree

  -- the product of a sum and a term of its reducer
  abbrev product_at : Open → Term → Term
  product_at o t = multiple p o.c o.q t

  -- room beside k terms that wait, where the innermost sum is v
  abbrev Room : List Open → ℕ → Vector → Type 0
  Room outer k v = (unfinished_terms v outer + k ≤ area) × (length (own v outer) ≤ S.reduction.limits.vector)

  waited : (outer : List Open) (k : ℕ) (v : Vector) → Room outer k v → Room outer 0 v
  waited outer k v h = let l : unfinished_terms v outer + k ≤ area = h.0 in (omega (arith, l), h.1)

  -- ## A result is added

  -- where the definition's test, others and the sum against the top, says whether there is room
  add_comes : (o : Open) (outer : List Open) (c k : ℕ) (cache : Cache) (top others : ℕ)
      → ((v : Vector) → others + length v ≤ top → Room outer k v) → ((v : Vector) → Room outer k v → others + length v ≤ top)
      → (v total : Vector) (g : Vector → Result Sum) → Room outer k total
      → ((grown : Vector) → Room outer 0 grown → ComesTo S room (work (with_sum grown o) outer none cache) (g grown))
      → ComesTo S room (work (with_sum total o) outer (hand c v k) cache) (add_result S.above p top others c v total >>= g)
  add_comes o outer c k cache top others to from [] total g h then-on =
      goes_on tt refl (waited outer k total h) (then-on total (waited outer k total h))
  add_comes o outer c k cache top others to from (t ∷ v) total g h then-on =
      go (leb (others + length w) top) (leb→le (others + length w) top) (le→leb (others + length w) top)
      (λ r. add_comes o outer c k cache top others to from v w g r then-on)
    where
      w : Vector
      w = insert S.above p (times p c t.0, t.1) total

      go : (b : Bool) → (T b → others + length w ≤ top) → (others + length w ≤ top → T b)
          → (Room outer k w → ComesTo S room (work (with_sum w o) outer (hand c v k) cache) (add_result S.above p top others c v w >>= g))
          → ComesTo S room (work (with_sum total o) outer (hand c (t ∷ v) k) cache)
          ((held_to b w >>= λ grown. add_result S.above p top others c v grown) >>= g)
      go true l m more = goes_on tt refl (to w (l tt)) (more (to w (l tt)))
      go false l m more = fourteen tt refl (λ r. m (from w r))

  -- ## A product is lifted

  -- from where it is taken to where its result is handed on
  abbrev LiftsProduct : (Monomial → Type 0) → LiftTerm → Type 0
  LiftsProduct P lift =
      (o : Open) (outer : List Open) (cache : Cache) (t : Term) (f : Vector) (g : Subtree → Result Sum) → P (product_at o t).1
      → Fits limit (product_at o t).1.0 → Room outer 0 o.sum
      → ((r : Subtree) → Room outer r.1 o.sum
      → ComesTo S room (work (with_left f o) outer (hand (product_at o t).0 r.0 r.1) r.2) (g r))
      → ComesTo S room (work (with_left (t ∷ f) o) outer none cache) (lift (unfinished_terms o.sum outer) cache (product_at o t).1 >>= g)

  -- a sum with these terms, and with these products to take
  abbrev with_both : Open → Vector → Vector → Open
  with_both o v f = with_left f (with_sum v o)

  -- the products of a subtree
  list_comes : (P : Monomial → Type 0) (lift : LiftTerm) → LiftsProduct P lift → (o parent : Open) (outer : List Open) (f : Vector) (s : Sum)
      (g : Sum → Result Sum) → All (λ t. P (product_at o t).1) f → Room (parent ∷ outer) 0 s.0
      → ((r : Sum) → Room (parent ∷ outer) 0 r.0 → ComesTo S room (work (with_both o r.0 []) (parent ∷ outer) none r.1) (g r))
      → ComesTo S room (work (with_both o s.0 f) (parent ∷ outer) none s.1)
      (lift_list S lift (unfinished_terms parent.sum outer) o.c o.q f s >>= g)
  list_comes P lift l o parent outer [] s g a h then-on = then-on s h
  list_comes P lift l o parent outer (t ∷ f) s g a h then-on =
      go (fits? limit u.1.0) (fits_says limit u.1.0) (fits_shows limit u.1.0)
      (λ r k. list_comes P lift l o parent outer f r g a.1 k then-on)
    where
      u : Term
      u = product_at o t

      others : ℕ
      others = unfinished_terms parent.sum outer

      go : (b : Bool) → (T b → Fits limit u.1.0) → (Fits limit u.1.0 → T b)
          → ((r : Sum) → Room (parent ∷ outer) 0 r.0
          → ComesTo S room (work (with_both o r.0 f) (parent ∷ outer) none r.1) (lift_list S lift others o.c o.q f r >>= g))
          → ComesTo S room (work (with_both o s.0 (t ∷ f)) (parent ∷ outer) none s.1)
          ((if_product_fits b S lift others u s >>= λ r. lift_list S lift others o.c o.q f r) >>= g)
      go false y z more = thirteen {u = u} refl z
      go true y z more =
          subst (ComesTo S room (work (with_both o s.0 (t ∷ f)) (parent ∷ outer) none s.1))
          (sym (bind_thrice (lift (others + length s.0) s.1 u.1) (λ r. add_subtree S others u.0 s.0 r)
          (λ r. lift_list S lift others o.c o.q f r) g))
          (l (with_sum s.0 o) (parent ∷ outer) s.1 t f
          (λ r. (add_subtree S others u.0 s.0 r >>= λ r'. lift_list S lift others o.c o.q f r') >>= g) a.0 (y tt) h handed)
        where
          handed : (r : Subtree) → Room (parent ∷ outer) r.1 s.0
              → ComesTo S room (work (with_both o s.0 f) (parent ∷ outer) (hand u.0 r.0 r.1) r.2)
              ((add_subtree S others u.0 s.0 r >>= λ r'. lift_list S lift others o.c o.q f r') >>= g)
          handed r k =
              subst (ComesTo S room (work (with_both o s.0 f) (parent ∷ outer) (hand u.0 r.0 r.1) r.2))
              (sym (bind_thrice (add_result S.above p (area - r.1) others u.0 r.0 s.0) (λ grown. done (grown, r.2))
              (λ r'. lift_list S lift others o.c o.q f r') g))
              (add_comes (with_left f o) (parent ∷ outer) u.0 r.1 r.2 (area - r.1) others
              (λ v m. let n : (others + length s.0) + r.1 ≤ area = k.0 in (omega (arith, n, m), k.1))
              (λ v m. let n : (others + length v) + r.1 ≤ area = m.0 in omega (arith, n))
              r.0 s.0 (λ grown. lift_list S lift others o.c o.q f (grown, r.2) >>= g) k
              (λ grown m. more (grown, r.2) m))

  -- ## A subtree

  module _ (o : Open) (outer : List Open) (cache : Cache) (t : Term) (f : Vector) (g : Subtree → Result Sum)
      (fits : Fits limit (product_at o t).1.0) (h : Room outer 0 o.sum)
      (then-on : (r : Subtree) → Room outer r.1 o.sum
      → ComesTo S room (work (with_left f o) outer (hand (product_at o t).0 r.0 r.1) r.2) (g r)) where
    abbrev u : Term
    u = product_at o t

    abbrev others : ℕ
    others = unfinished_terms o.sum outer

    abbrev here : Work
    here = work (with_left (t ∷ f) o) outer none cache

    abbrev asked : Answer
    asked = answer p S.reduction.heads (1, u.1)

    -- a part of the cache, or nothing, counts nothing
    handed : (v : Vector) → next S room here ≡ some (work (with_left f o) outer (hand u.0 v 0) cache) → ComesTo S room here (g (v, 0, cache))
    handed v e = goes_on fits e h (then-on (v, 0, cache) h)

    -- the subtree is finished
    close : (s : Sum) → Room (with_left f o ∷ outer) 0 s.0 → (j c : ℕ) (q : Exponents)
        → ComesTo S room (work (with_both (subtree S u j c q) s.0 []) (with_left f o ∷ outer) none s.1) (g (finish room u.1 s))
    close s k j c q = go (leb (used s.1 + suc (length s.0)) room) refl
      where
        l : (others + length s.0) + 0 ≤ area
        l = k.0

        fewer : Room outer 0 o.sum
        fewer = (omega (arith, l), k.1)

        same_many : Room outer (length s.0) o.sum
        same_many = (omega (arith, l), k.1)

        go : (b : Bool) → leb (used s.1 + suc (length s.0)) room ≡ b
            → ComesTo S room (work (with_both (subtree S u j c q) s.0 []) (with_left f o ∷ outer) none s.1) (g (finish_by b u.1 s))
        go true e =
            goes_on tt (ap (λ b. some (finish_subtree b (with_both (subtree S u j c q) s.0 []) (with_left f o) outer s.1)) e) fewer
            (then-on (s.0, 0, (u.1, s.0) ∷ s.1) fewer)
        go false e =
            goes_on tt (ap (λ b. some (finish_subtree b (with_both (subtree S u j c q) s.0 []) (with_left f o) outer s.1)) e) same_many
            (then-on (s.0, length s.0, s.1) same_many)

    -- one is opened, where there is room for its first term
    opens : (P : Monomial → Type 0) (lift : LiftTerm) → LiftsProduct P lift → (j c : ℕ) (q : Exponents)
        → All (λ t. P (multiple p c q t).1) (rest (vector_of S.family j))
        → next S room here ≡ some (work (subtree S u j c q) (with_left f o ∷ outer) none cache)
        → ComesTo S room here (open_subtree (ltb others area) S room (lift_list S lift) others cache u.1 j c q >>= g)
    opens P lift l j c q a e = go (ltb others area) (ltb→lt others area) (lt→ltb others area)
      where
        go : (b : Bool) → (T b → others < area) → (others < area → T b)
            → ComesTo S room here (open_subtree b S room (lift_list S lift) others cache u.1 j c q >>= g)
        go false y z = fourteen fits e (λ w. z (let l : (others + 1) + 0 ≤ area = w.0 in omega (arith, l)))
        go true y z =
            goes_on fits e first
            (subst (ComesTo S room (work (subtree S u j c q) (with_left f o ∷ outer) none cache))
            (sym (bind_bind (lift_list S lift others c q (rest (vector_of S.family j)) ((c, (q, j)) ∷ [], cache)) (λ s. done (finish room u.1 s)) g))
            (list_comes P lift l (subtree S u j c q) (with_left f o) outer (rest (vector_of S.family j)) ((c, (q, j)) ∷ [], cache)
            (λ s. g (finish room u.1 s)) a first (λ s k. close s k j c q)))
          where
            first : Room (with_left f o ∷ outer) 0 ((c, (q, j)) ∷ [])
            first = let l : others < area = y tt in (omega (arith, l), h.1)

    -- .. or found in the cache
    by_reducer : (P : Monomial → Type 0) (lift : LiftTerm) → LiftsProduct P lift → (j c : ℕ) (q : Exponents)
        → All (λ t. P (multiple p c q t).1) (rest (vector_of S.family j)) → asked ≡ reducer j c q
        → ComesTo S room here (or_open (cached u.1 cache) S room (lift_list S lift) others cache u.1 j (minus p c) q >>= g)
    by_reducer P lift l j c q a e = go (cached u.1 cache) refl
      where
        answered : (x : Option Vector) → cached u.1 cache ≡ x
            → next S room here ≡ some (found_or_opened S (with_left f o) outer cache u j (minus p c) q x)
        answered x d =
            ap (λ a. some (take_product S (with_left f o) outer cache u a)) e
            ∙ ap (λ x. some (found_or_opened S (with_left f o) outer cache u j (minus p c) q x)) d

        go : (x : Option Vector) → cached u.1 cache ≡ x
            → ComesTo S room here (or_open x S room (lift_list S lift) others cache u.1 j (minus p c) q >>= g)
        go (some v) d = handed v (answered (some v) d)
        go none d = opens P lift l j (minus p c) q a (answered none d)

    lower : asked ≡ lower_order → ComesTo S room here (g ([], 0, cache))
    lower e = handed [] (ap (λ a. some (take_product S (with_left f o) outer cache u a)) e)

    at_depth : (n : ℕ) → LiftsProduct (Shallow S n) (lift_term S room n) → (a : Answer) → asked ≡ a → ShallowBy S (Shallow S n) a
        → ComesTo S room here (lift_by a S room (lift_list S (lift_term S room n)) others cache u.1 >>= g)
    at_depth n l lower_order e s = lower e
    at_depth n l (reducer j c q) e s = by_reducer (Shallow S n) (lift_term S room n) l j c q s e

    at_none : (a : Answer) → asked ≡ a → NeverOpened a
        → ComesTo S room here (lift_by a S room (λ o c q f s. refusal 14) others cache u.1 >>= g)
    at_none lower_order e s = lower e
    at_none (reducer j c q) e s = absurd s

  term_comes : (n : ℕ) → LiftsProduct (Shallow S n) (lift_term S room n)
  term_comes zero o outer cache t f g s fits h then-on =
      at_none o outer cache t f g fits h then-on (answer p S.reduction.heads (1, (product_at o t).1)) refl s
  term_comes (suc n) o outer cache t f g s fits h then-on =
      at_depth o outer cache t f g fits h then-on n (term_comes n) (answer p S.reduction.heads (1, (product_at o t).1)) refl s

  -- ## The vector

  vector_comes : (n : ℕ) (o : Open) (f : Vector) (s : Sum) → All (λ t. Shallow S n (product_at o t).1) f → Room [] 0 s.0
      → ComesTo S room (work (with_both o s.0 f) [] none s.1) (lift_vector S (lift_term S room n) o.c o.q f s)
  vector_comes n o [] s a h = ends refl
  vector_comes n o (t ∷ f) s a h =
      go (fits? limit u.1.0) (fits_says limit u.1.0) (fits_shows limit u.1.0) (λ r k. vector_comes n o f r a.1 k)
    where
      u : Term
      u = product_at o t

      lift : LiftTerm
      lift = lift_term S room n

      go : (b : Bool) → (T b → Fits limit u.1.0) → (Fits limit u.1.0 → T b)
          → ((r : Sum) → Room [] 0 r.0
          → ComesTo S room (work (with_both o r.0 f) [] none r.1) (lift_vector S (lift_term S room n) o.c o.q f r))
          → ComesTo S room (work (with_both o s.0 (t ∷ f)) [] none s.1)
          (if_vector_product_fits b S (lift_term S room n) u s >>= λ r. lift_vector S (lift_term S room n) o.c o.q f r)
      go false y z more = thirteen {u = u} refl z
      go true y z more =
          subst (ComesTo S room (work (with_both o s.0 (t ∷ f)) [] none s.1))
          (sym (bind_bind (lift_term S room n 0 s.1 u.1)
          (λ r. add_result S.above p S.reduction.limits.vector 0 u.0 r.0 s.0 >>= λ grown. done (grown, r.2))
          (λ r. lift_vector S (lift_term S room n) o.c o.q f r)))
          (term_comes n (with_sum s.0 o) [] s.1 t f
          (λ r. (add_result S.above p S.reduction.limits.vector 0 u.0 r.0 s.0 >>= λ grown. done (grown, r.2))
          >>= λ r'. lift_vector S (lift_term S room n) o.c o.q f r')
          a.0 (y tt) h handed)
        where
          handed : (r : Subtree) → Room [] r.1 s.0
              → ComesTo S room (work (with_both o s.0 f) [] (hand u.0 r.0 r.1) r.2)
              ((add_result S.above p S.reduction.limits.vector 0 u.0 r.0 s.0 >>= λ grown. done (grown, r.2))
              >>= λ r'. lift_vector S (lift_term S room n) o.c o.q f r')
          handed r k =
              subst (ComesTo S room (work (with_both o s.0 f) [] (hand u.0 r.0 r.1) r.2))
              (sym (bind_bind (add_result S.above p S.reduction.limits.vector 0 u.0 r.0 s.0) (λ grown. done (grown, r.2))
              (λ r'. lift_vector S (lift_term S room n) o.c o.q f r')))
              (add_comes (with_left f o) [] u.0 r.1 r.2 S.reduction.limits.vector 0
              (λ v m. (k.0, omega (arith, m))) (λ v m. let n : length v ≤ S.reduction.limits.vector = m.1 in omega (arith, n))
              r.0 s.0 (λ grown. lift_vector S (lift_term S room n) o.c o.q f (grown, r.2)) k
              (λ grown m. more (grown, r.2) m))

  pub tree_comes : (left : ℕ) (cache : Cache) (m : Monomial) → 1 ≤ S.reduction.limits.vector → ShallowFrame S left m
      → TreeComes S room cache m (tree_by left S room cache m)
  tree_comes left cache m l a =
      vector_comes left (frame_work S cache m).inner (vector_of S.family m.1) ((1, m) ∷ [], cache) a (omega arith, omega (arith, l))

  -- ## It comes to one thing

  taken_follows : (W : Work) (u : Term) → taken S W ≡ some u → next S room W ≡ none → ⊥
  taken_follows W u e d = by_hand W.handed e d
    where
      by_left : (f : Vector) → product_of S W.inner f ≡ some u → next_product S room W f ≡ none → ⊥
      by_left [] e d = none_some e
      by_left (t ∷ f) e d = some_none d

      by_hand : (h : Option Handed) → taken_by S W h ≡ some u → next_by S room W h ≡ none → ⊥
      by_hand (some h) e d = none_some e
      by_hand none e d = by_left W.inner.left e d

  pub one_end : (W : Work) (r r' : Result Sum) → ComesTo S room W r → ComesTo S room W r' → r ≡ r'
  one_end W r r' (ends e) (ends d) = refl
  one_end W r r' (ends e) (thirteen {u = u} d n) = absurd (taken_follows W u d e)
  one_end W r r' (ends e) (fourteen f d n) = absurd (none_some (sym e ∙ d))
  one_end W r r' (ends e) (goes_on f d w c) = absurd (none_some (sym e ∙ d))
  one_end W r r' (thirteen {u = u} e n) (ends d) = absurd (taken_follows W u e d)
  one_end W r r' (thirteen e n) (thirteen d n') = refl
  one_end W r r' (thirteen e n) (fourteen f d n') = absurd (n (subst (Fitting S) e f))
  one_end W r r' (thirteen e n) (goes_on f d w c) = absurd (n (subst (Fitting S) e f))
  one_end W r r' (fourteen f e n) (ends d) = absurd (none_some (sym d ∙ e))
  one_end W r r' (fourteen f e n) (thirteen d n') = absurd (n' (subst (Fitting S) d f))
  one_end W r r' (fourteen f e n) (fourteen g d n') = refl
  one_end W r r' (fourteen f e n) (goes_on g d w c) = absurd (n (subst (Within S) (same_some (sym d ∙ e)) w))
  one_end W r r' (goes_on f e w c) (ends d) = absurd (none_some (sym d ∙ e))
  one_end W r r' (goes_on f e w c) (thirteen d n) = absurd (n (subst (Fitting S) d f))
  one_end W r r' (goes_on f e w c) (fourteen g d n) = absurd (n (subst (Within S) (same_some (sym e ∙ d)) w))
  one_end W r r' (goes_on {W' = V₁} f e w c) (goes_on {W' = V₂} g d w' c') =
      one_end V₁ r r' c (subst (λ v. ComesTo S room v r') (same_some (sym d ∙ e)) c')

-- ## How deep it goes

module _ (S : Stage) where
  all_more : (P Q : Term → Type 0) → ((t : Term) → P t → Q t) → (v : Vector) → All P v → All Q v
  all_more P Q f [] a = tt
  all_more P Q f (t ∷ v) a = (f t a.0, all_more P Q f v a.1)

  -- one more does no harm
  shallow_more : (n : ℕ) (m : Monomial) → Shallow S n m → Shallow S (suc n) m
  shallow_more zero m h = go (answer S.reduction.p S.reduction.heads (1, m)) h
    where
      go : (a : Answer) → NeverOpened a → ShallowBy S (Shallow S zero) a
      go lower_order k = tt
      go (reducer j c q) k = absurd k
  shallow_more (suc n) m h = go (λ x. shallow_more n x) (answer S.reduction.p S.reduction.heads (1, m)) h
    where
      go : ((x : Monomial) → Shallow S n x → Shallow S (suc n) x) → (a : Answer) → ShallowBy S (Shallow S n) a → ShallowBy S (Shallow S (suc n)) a
      go ih lower_order k = tt
      go ih (reducer j c q) k =
          all_more (λ t. Shallow S n (multiple S.reduction.p 1 q t).1) (λ t. Shallow S (suc n) (multiple S.reduction.p 1 q t).1)
          (λ t. ih (multiple S.reduction.p 1 q t).1) (rest (vector_of S.family j)) k

  pub frame_more : (d n : ℕ) (m : Monomial) → ShallowFrame S n m → ShallowFrame S (d + n) m
  frame_more zero n m h = subst (λ k. ShallowFrame S k m) (let e : n ≡ 0 + n = omega arith in e) h
  frame_more (suc d) n m h =
      subst (λ k. ShallowFrame S k m) (let e : suc (d + n) ≡ suc d + n = omega arith in e)
      (all_more (λ t. Shallow S (d + n) (multiple S.reduction.p 1 m.0 t).1) (λ t. Shallow S (suc (d + n)) (multiple S.reduction.p 1 m.0 t).1)
      (λ t. shallow_more (d + n) (multiple S.reduction.p 1 m.0 t).1) (vector_of S.family m.1) (frame_more d n m h))

-- as the reckoning does
module _ (lim : Limits) (p code : ℕ) (below : List Level) where
  abbrev stage : Stage
  stage = stage_over lim p code below

  abbrev f : Level
  f = highest below

  each_shallow : (P : Monomial → Type 0) (lifted : Monomial → Option Vector) → ((m : Monomial) (v : Vector) → lifted m ≡ some v → P m)
      → (c : ℕ) (q : Exponents) (g v : Vector) → liftings p lifted c q g ≡ some v → All (λ t. P (multiple p 1 q t).1) g
  each_shallow P lifted h c q [] v e = tt
  each_shallow P lifted h c q (t ∷ g) v e =
      go (lifted (multiple p c q t).1) (h (multiple p c q t).1) (liftings p lifted c q g) (each_shallow P lifted h c q g) e
    where
      go : (x : Option Vector) → ((w : Vector) → x ≡ some w → P (multiple p 1 q t).1) → (y : Option Vector)
          → ((w : Vector) → y ≡ some w → All (λ t. P (multiple p 1 q t).1) g)
          → (x then λ a. y then λ b. some (scaled p (multiple p c q t).0 a ++ b)) ≡ some v
          → P (multiple p 1 q t).1 × All (λ t. P (multiple p 1 q t).1) g
      go none k y l e = absurd (none_some e)
      go (some a) k none l e = absurd (none_some e)
      go (some a) k (some b) l e = (k a refl, l b refl)

  lifted_shallow : (n : ℕ) (m : Monomial) (v : Vector) → lifted_to n p f m ≡ some v → Shallow stage n m
  lifted_shallow zero m v e = absurd (none_some e)
  lifted_shallow (suc n) m v e = go (λ m' u k. lifted_shallow n m' u k) (answer p (heads p f) (1, m)) e
    where
      go : ((m' : Monomial) (u : Vector) → lifted_to n p f m' ≡ some u → Shallow stage n m') → (a : Answer)
          → lifted_by a p f (λ m'. lifted_to n p f m') ≡ some v → ShallowBy stage (Shallow stage n) a
      go ih lower_order e = tt
      go ih (reducer j c q) e = inside (liftings p (λ m'. lifted_to n p f m') (minus p c) q (rest (vector_of f j)))
          (λ w d. each_shallow (Shallow stage n) (λ m'. lifted_to n p f m') ih (minus p c) q (rest (vector_of f j)) w d) e
        where
          inside : (x : Option Vector) → ((w : Vector) → x ≡ some w → All (λ t. Shallow stage n (multiple p 1 q t).1) (rest (vector_of f j)))
              → (x then λ w. some ((minus p c, (q, j)) ∷ w)) ≡ some v → All (λ t. Shallow stage n (multiple p 1 q t).1) (rest (vector_of f j))
          inside none k e = absurd (none_some e)
          inside (some w) k e = k w refl

pub reckoned_shallow : (lim : Limits) (n p code : ℕ) (below : List Level) (m : Monomial) (v : Vector) → reckoned_vector n p code below m ≡ some v
    → ShallowFrame (stage_over lim p code below) n m
reckoned_shallow lim n p code below m v e =
    go (liftings p (lifted_to n p (highest below)) 1 m.0 (vector_of (highest below) m.1))
    (λ w d. each_shallow lim p code below (Shallow (stage_over lim p code below) n) (lifted_to n p (highest below))
    (λ x u k. lifted_shallow lim p code below n x u k) 1 m.0 (vector_of (highest below) m.1) w d) e
  where
    go : (x : Option Vector) → ((w : Vector) → x ≡ some w → ShallowFrame (stage_over lim p code below) n m)
        → (x then λ w. some (descending (compare_over code below) p ((1, m) ∷ w))) ≡ some v → ShallowFrame (stage_over lim p code below) n m
    go none k e = absurd (none_some e)
    go (some w) k e = k w refl

-- .. and so for all frame terms of a level that it has
pub level_shallow : (lim : Limits) (n p code : ℕ) (below : List Level) (g : Level) → reckoned_level lim n p code below ≡ some g
    → All (ShallowFrame (stage_over lim p code below) n) (frame (lim.numbering code) (leading_monomials (highest below)))
level_shallow lim n p code below g e = all_terms (frame (lim.numbering code) (leading_monomials (highest below))) g e
  where
    all_terms : (ms : List Monomial) (g : Level) → each (reckoned_vector n p code below) ms ≡ some g → All (ShallowFrame (stage_over lim p code below) n) ms
    all_terms [] g e = tt
    all_terms (m ∷ ms) g e =
        go (reckoned_vector n p code below m) (λ v d. reckoned_shallow lim n p code below m v d) (each (reckoned_vector n p code below) ms) (all_terms ms) e
      where
        go : (x : Option Vector) → ((v : Vector) → x ≡ some v → ShallowFrame (stage_over lim p code below) n m) → (y : Option Level)
            → ((h : Level) → y ≡ some h → All (ShallowFrame (stage_over lim p code below) n) ms) → (x then λ v. y then λ vs. some (v ∷ vs)) ≡ some g
            → ShallowFrame (stage_over lim p code below) n m × All (ShallowFrame (stage_over lim p code below) n) ms
        go none k y l e = absurd (none_some e)
        go (some v) k none l e = absurd (none_some e)
        go (some v) k (some vs) l e = (k v refl, l vs refl)

pub level_more : (S : Stage) (d n : ℕ) (ms : List Monomial) → All (ShallowFrame S n) ms → All (ShallowFrame S (d + n)) ms
level_more S d n [] a = tt
level_more S d n (m ∷ ms) a = (frame_more S d n m a.0, level_more S d n ms a.1)
