-- A finished vector has at most as many terms as its limit says, and so has the value that a refusal leaves.
use mathlib.Core.Bool.{Bool, true, false}
use mathlib.Core.Option.{Option, none, some}
use mathlib.Core.List.{List, [], ◌∷◌, ◌++◌}
use Prim.Native.Nat.{ℕ, zero, suc, ◌+◌, ◌<◌, ◌≤◌}
use native.Mathlib.Omega.{arith}
use lib.Dec.{T, leb, ltb, eqb, leb→le, ltb→lt}
use lib.ListN.{length, get_or, length-append}
use Rattle.definitions.specs.Field.{plus, times}
use Rattle.definitions.specs.Monomial.{Exponents, Monomial, Term, Vector, Level, fits?, same_monomial?, no_term, vector_of}
use Rattle.definitions.specs.Order.{Comparison, greater, equal, smaller}
use Rattle.definitions.specs.Reducer.{Answer, reducer, lower_order, answer}
use Rattle.definitions.specs.Result.{Result, done, refused, unfinished, ◌>>=◌}
use Rattle.definitions.specs.Vectors.{unless_zero, insert, inserted, descending, behind, combined, appended, or_last, store}
use Rattle.definitions.specs.Stage.{Stage, narrowed}
use Rattle.definitions.specs.Run
use Rattle.definitions.specs.Lists.{without}
use Rattle.definitions.specs.Run.{Strategy, on, end, multiple, dropped?, unless_dropped, if_fits, add_products, start, reduced, without_reducer, by_answer}
use Rattle.definitions.specs.Run.{by_pick, step, continued, runs, run, hybrid_strategy, division_strategy}
use Rattle.definitions.specs.Tree
use Rattle.definitions.specs.Tree.{Cache, held_to, add_result, LiftTerm, lift_term, if_vector_product_fits, lift_vector, tree}
use Rattle.definitions.specs.Lifting.{Lifting, by_division, by_hybrid, by_tree, lift_one, Lifted, add_vector, lift_all}
use Rattle.demands.proofs.Results.{Ends, Gives, gives, refuses, open_yet, ends_then, ends_turn, Holds, holds, nothing}

-- nothing is claimed of a value
abbrev Anything : {A : Type 0} → A → Type 0
Anything a = Unit {0}

anything : {A : Type 0} (r : Result A) → Gives Anything r
anything (done a) = gives tt
anything (refused number place value) = refuses tt
anything unfinished = open_yet

-- ## Sums

unless_zero_length : (t : Term) (v : Vector) → length (unless_zero t v) ≤ suc (length v)
unless_zero_length t v = go (eqb t.0 0)
  where
    go : (b : Bool) → length {A = Term} (elim b [ true ↦ v | false ↦ t ∷ v ]) ≤ suc (length v)
    go true = omega arith
    go false = omega arith

combined_length : (p : ℕ) (t : Term) (v : Vector) → Holds (λ w. length w ≤ length v) (combined p t v)
combined_length p t [] = nothing
combined_length p t (u ∷ v) = go (same_monomial? t.1 u.1) (combined_length p t v)
  where
    later : {o : Option Vector} → Holds (λ w. length w ≤ length v) o → Holds (λ w. length w ≤ suc (length v)) (behind u o)
    later nothing = nothing
    later (holds {a = w} l) = let k : suc (length w) ≤ suc (length v) = omega arith in holds k

    go : (b : Bool) → Holds (λ w. length w ≤ length v) (combined p t v)
        → Holds (λ (w : Vector). length w ≤ suc (length v)) (elim b [
          | true ↦ some (unless_zero (plus p u.0 t.0, u.1) v)
          | false ↦ behind u
              (combined p t v)
        ])
    go true h = holds (unless_zero_length (plus p u.0 t.0, u.1) v)
    go false h = later h

pub store_short : {R : ℕ → Vector → Type 0} → R 14 [] → (limit p : ℕ) (t : Term) (v : Vector) → length v ≤ limit
    → Ends (λ w. length w ≤ limit) R (store limit p t v)
store_short {R} r limit p t v l = go (combined_length p t v)
  where
    last : (b : Bool) → (T b → length v < limit) → Ends (λ w. length w ≤ limit) R (appended b t v)
    last true h =
        let k : length v < limit = h tt in
        let l : length (v ++ t ∷ []) ≤ limit = omega (arith, length-append v (t ∷ [])) in
        gives l
    last false h = refuses r

    go : {o : Option Vector} → Holds (λ w. length w ≤ length v) o → Ends (λ w. length w ≤ limit) R (or_last limit t v o)
    go (holds {a = w} k) = let m : length w ≤ limit = omega arith in gives m
    go nothing = last (ltb (length v) limit) (ltb→lt (length v) limit)

module _ (order : Monomial → Monomial → Comparison) (p : ℕ) where
  insert_length : (t : Term) (v : Vector) → length (insert order p t v) ≤ suc (length v)
  insert_length t [] = omega arith
  insert_length t (u ∷ v) = go (order t.1 u.1) (insert_length t v)
    where
      go : (c : Comparison) → length (insert order p t v) ≤ suc (length v)
          → length {A = Term} (elim c [ greater ↦ t ∷ u ∷ v | equal ↦ unless_zero (plus p t.0 u.0, u.1) v | smaller ↦ u ∷ insert order p t v ]) ≤
          suc
          (suc (length v))
      go greater h = omega arith
      go equal h = let k : length (unless_zero (plus p t.0 u.0, u.1) v) ≤ suc (length v) = unless_zero_length (plus p t.0 u.0, u.1) v in
          omega arith
      go smaller h = omega arith

  inserted_length : (w v : Vector) → length (inserted order p w v) ≤ length w + length v
  inserted_length w [] = omega arith
  inserted_length w (t ∷ v) = omega (arith, insert_length t w, inserted_length (insert order p t w) v)

  pub descending_length : (v : Vector) → length (descending order p v) ≤ length v
  descending_length v = omega (arith, inserted_length [] v)

-- ## Runs

module _ (S : Stage) where
  abbrev most : ℕ
  most = S.reduction.limits.vector

  -- what a refusal leaves has no more terms than a working value
  abbrev pub Small : ℕ → Vector → Type 0
  Small number value = length value ≤ S.reduction.limits.working

  none_small : Small 0 []
  none_small = omega arith

  abbrev ShortRun : Run.Run → Type 0
  ShortRun r = (length r.vector ≤ most) × (length r.value ≤ S.reduction.limits.working)

  abbrev ShortStep : Run.Step → Type 0
  ShortStep (on r) = ShortRun r
  ShortStep (end v) = length v ≤ most

  products_short : (drops : Bool) (c : ℕ) (q : Exponents) (f v : Vector) → length v ≤ S.reduction.limits.working
      → Ends (λ w. length w ≤ S.reduction.limits.working) Small (add_products S.reduction drops c q f v)
  products_short drops c q [] v l = gives l
  products_short drops c q (t ∷ f) v l = ends_then (fitting (fits? S.reduction.limits.exponent u.1.0)) (λ w k. products_short drops c q f w k)
    where
      u : Term
      u = multiple S.reduction.p c q t

      kept : (b : Bool) → Ends (λ w. length w ≤ S.reduction.limits.working) Small (unless_dropped b S.reduction u v)
      kept true = gives l
      kept false = store_short none_small S.reduction.limits.working S.reduction.p u v l

      fitting : (b : Bool) → Ends (λ w. length w ≤ S.reduction.limits.working) Small (if_fits b S.reduction drops u v)
      fitting false = refuses none_small
      fitting true = kept (dropped? S.reduction drops u.1)

  without_short : (i : ℕ) (v : Vector) → length (without i v) ≤ length v
  without_short zero [] = omega arith
  without_short zero (t ∷ v) = omega arith
  without_short (suc i) [] = omega arith
  without_short (suc i) (t ∷ v) = let l : length (without i v) ≤ length v = without_short i v in omega arith

  step_short : (W : Strategy) (r : Run.Run) → ShortRun r → Ends ShortStep Small (step S W r)
  step_short W r l = by_pick_short (W.pick r.value)
    where
      reduced_short : (j c : ℕ) (q : Exponents) → Ends ShortStep Small (reduced S W r j c q)
      reduced_short j c q =
          ends_then (store_short none_small most S.reduction.p (c, (q, j)) r.vector l.0) (λ v k.
          ends_then (products_short W.drops c q (vector_of S.family j) r.value l.1) (λ w m. gives (k, m)))

      without_reducer_short : (b : Bool) (i : ℕ) → Ends ShortStep Small (without_reducer b S r i)
      without_reducer_short true i =
          let m : length (descending S.below S.reduction.p r.value) ≤ S.reduction.limits.working = omega
          (arith, descending_length S.below S.reduction.p r.value, l.1) in
          refuses m
      without_reducer_short false i =
          let m : length (without i r.value) ≤ S.reduction.limits.working = omega (arith, without_short i r.value, l.1) in
          let k : ShortRun (record { value = without i r.value; vector = r.vector }) = (l.0, m) in
          gives k

      by_answer_short : (i : ℕ) (a : Answer) → Ends ShortStep Small (by_answer S W r i a)
      by_answer_short i (reducer j c q) = reduced_short j _ q
      by_answer_short i lower_order = without_reducer_short W.stops i

      by_pick_short : (o : Option ℕ) → Ends ShortStep Small (by_pick S W r o)
      by_pick_short none = gives l.0
      by_pick_short (some i) = by_answer_short i (answer S.reduction.p S.reduction.heads (get_or r.value i no_term))

  runs_short : (W : Strategy) (N : ℕ) (r : Run.Run) → ShortRun r → Ends (λ w. length w ≤ most) Small (runs S W N r)
  runs_short W zero r l = open_yet
  runs_short W (suc N) r l = go (step_short W r l) (runs_short W N)
    where
      shorter : (v : Vector) → length v ≤ most → Ends (λ w. length w ≤ most) Small (done (descending S.above S.reduction.p v))
      shorter v k =
          let m : length (descending S.above S.reduction.p v) ≤ most = omega (arith, descending_length S.above S.reduction.p v) in
          gives m

      go : {x : Result Run.Step} → Ends ShortStep Small x → ((r' : Run.Run) → ShortRun r' → Ends (λ w. length w ≤ most) Small (runs S W N r'))
          → Ends (λ w. length w ≤ most) Small (continued S (λ r'. runs S W N r') x)
      go (gives {a = on r'} k) ih = ih r' k
      go (gives {a = end v} k) ih = shorter v k
      go (refuses u) ih = refuses u
      go open_yet ih = open_yet

  pub run_short : 1 ≤ S.reduction.limits.vector → (W : Strategy) (N : ℕ) (m : Monomial)
      → Ends (λ w. length w ≤ S.reduction.limits.vector) Small (run S W N m)
  run_short o W N m = ends_then started (λ r l. runs_short W N r l)
    where
      started : Ends ShortRun Small (start S W m)
      started = ends_then (products_short W.drops 1 m.0 (vector_of S.family m.1) [] (omega arith)) (λ v l. gives (o, l))

  -- ## The tree

  abbrev ShortSum : Tree.Sum → Type 0
  ShortSum s = length s.0 ≤ most

  held_short : (b : Bool) (w : Vector) → (T b → 0 + length w ≤ most) → Gives (λ v. length v ≤ most) (held_to b w)
  held_short true w h = let l : 0 + length w ≤ most = h tt in let m : length w ≤ most = omega arith in gives m
  held_short false w h = refuses tt

  result_short : (c : ℕ) (v total : Vector) → length total ≤ most → Gives (λ w. length w ≤ most)
      (add_result S.above S.reduction.p most 0 c v total)
  result_short c [] total l = gives l
  result_short c (t ∷ v) total l =
      let grown = insert S.above S.reduction.p (times S.reduction.p c t.0, t.1) total in
      ends_then (held_short (leb (0 + length grown) most) grown (leb→le (0 + length grown) most)) (λ w k. result_short c v w k)

  lift_vector_short : (lift : LiftTerm) (c : ℕ) (q : Exponents) (f : Vector) (s : Tree.Sum) → ShortSum s → Gives ShortSum (lift_vector S lift c q f s)
  lift_vector_short lift c q [] s l = gives l
  lift_vector_short lift c q (t ∷ f) s l =
      ends_then (product (fits? S.reduction.limits.exponent (multiple S.reduction.p c q t).1.0)) (λ r k. lift_vector_short lift c q f r k)
    where
      product : (b : Bool) → Gives ShortSum (if_vector_product_fits b S lift (multiple S.reduction.p c q t) s)
      product false = refuses tt
      product true =
          ends_then (anything (lift 0 s.1 (multiple S.reduction.p c q t).1)) (λ r u.
          ends_then (result_short (multiple S.reduction.p c q t).0 r.0 s.0 l) (λ grown k. gives k))

  -- ## Levels

  run_gives : 1 ≤ most → (W : Strategy) (N : ℕ) (cache : Cache) (m : Monomial) → Gives ShortSum (run S W N m >>= λ v. done (v, cache))
  run_gives o W N cache m = ends_then (ends_turn (λ v l. l) (λ number value l. tt) (run_short o W N m)) (λ v l. gives l)

module _ (S : Stage) where
  one_short : 1 ≤ most S → (way : Lifting) (N : ℕ) (cache : Cache) (m : Monomial) → Gives (ShortSum S) (lift_one S way N cache m)
  one_short o by_division N cache m = run_gives S o (division_strategy S) N cache m
  one_short o (by_hybrid pick w) N cache m = run_gives (narrowed w S) o (hybrid_strategy (narrowed w S) pick) N cache m
  one_short o (by_tree room) N cache m =
      lift_vector_short S (lift_term S room S.reduction.limits.tree) 1 m.0 (vector_of S.family m.1) ((1, m) ∷ [], cache) o

  abbrev pub AllShort : ℕ → Level → Type 0
  AllShort k [] = Unit {0}
  AllShort k (v ∷ f) = (length v ≤ k) × AllShort k f

  short_append : (k : ℕ) (f : Level) (v : Vector) → AllShort k f → length v ≤ k → AllShort k (f ++ v ∷ [])
  short_append k [] v h l = (l, tt)
  short_append k (u ∷ f) v h l = (h.0, short_append k f v h.1 l)

  pub all_short : 1 ≤ S.reduction.limits.vector → (way : Lifting) (N : ℕ) (l : Lifted) (cache : Cache) (ms : List Monomial)
      → AllShort S.reduction.limits.vector l.0
      → Gives (AllShort S.reduction.limits.vector) (lift_all S (lift_one S way N) l cache ms)
  all_short o way N l cache [] h = gives h
  all_short o way N l cache (m ∷ ms) h =
      ends_then (one_short o way N cache m) (λ s k. added s k (leb (l.1 + length s.0) S.reduction.limits.level_terms)
      (λ l' h'. all_short o way N l' s.1 ms h'))
    where
      added : (s : Tree.Sum) → ShortSum S s → (b : Bool) → ((l' : Lifted) → AllShort (most S) l'.0
          → Gives (AllShort (most S)) (lift_all S (lift_one S way N) l' s.1 ms))
          → Gives (AllShort (most S)) (add_vector b l s.0 >>= λ l'. lift_all S (lift_one S way N) l' s.1 ms)
      added s k false ih = refuses tt
      added s k true ih = ih (l.0 ++ s.0 ∷ [], l.1 + length s.0) (short_append (most S) l.0 s.0 h k)
