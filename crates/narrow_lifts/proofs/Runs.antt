-- A run with room for w terms of its working value is the run with room for more, until 14 comes: whatever its steps pick.
use mathlib.Core.Bool.{Bool, true, false}
use mathlib.Core.Option.{Option, none, some}
use mathlib.Core.List.{[], ◌∷◌}
use Prim.Native.Nat.{ℕ, zero, suc, ◌<◌, ◌≤◌}
use native.Mathlib.Omega.{arith}
use lib.Dec.{T, ltb, ltb→lt, lt→ltb}
use lib.ListN.{length, get_or}
use Rattle.definitions.specs.Field.{minus}
use Rattle.definitions.specs.Monomial.{Exponents, Monomial, Term, Vector, no_term, fits?, vector_of}
use Rattle.definitions.specs.Reducer.{Answer, reducer, lower_order, answer}
use Rattle.definitions.specs.Result.{Result, done, refused, unfinished, ◌>>=◌}
use Rattle.definitions.specs.Vectors.{combined, appended, or_last, store}
use Rattle.definitions.specs.Stage.{Stage, narrowed}
use Rattle.definitions.specs.Run.{Run, Strategy, Step, on, end, dropped?, unless_dropped, if_fits, multiple, add_term, add_products, start, reduced}
use Rattle.definitions.specs.Run.{without_reducer, by_answer, by_pick, step, continued, runs, run}
use Rattle.narrow_lifts.specs.Rooms.{Until14, same, fourteen}
use Rattle.narrow_lifts.proofs.Until.{until_then, until_map}

module _ (S : Stage) (W : Strategy) (w w' : ℕ) (l : w ≤ w') where
  abbrev p : ℕ
  p = S.reduction.p

  abbrev N : Stage
  N = narrowed w S

  abbrev N' : Stage
  N' = narrowed w' S

  -- ## A term into the working value

  appended_until : (b c : Bool) → (T b → T c) → (t : Term) (v : Vector) → Until14 0 (appended b t v) (appended c t v)
  appended_until false c h t v = fourteen
  appended_until true true h t v = same
  appended_until true false h t v = absurd (h tt)

  store_until : (t : Term) (v : Vector) → Until14 0 (store w p t v) (store w' p t v)
  store_until t v = go (combined p t v)
    where
      longer : T (ltb (length v) w) → T (ltb (length v) w')
      longer h = lt→ltb (length v) w' (let k : length v < w = ltb→lt (length v) w h in omega (arith, l))

      go : (o : Option Vector) → Until14 0 (or_last w t v o) (or_last w' t v o)
      go (some u) = same
      go none = appended_until (ltb (length v) w) (ltb (length v) w') longer t v

  term_until : (t : Term) (v : Vector) → Until14 0 (add_term N.reduction W.drops t v) (add_term N'.reduction W.drops t v)
  term_until t v = fitting (fits? S.reduction.limits.exponent t.1.0)
    where
      kept : (b : Bool) → Until14 0 (unless_dropped b N.reduction t v) (unless_dropped b N'.reduction t v)
      kept true = same
      kept false = store_until t v

      dropping : (d : Bool)
          → Until14 0 (unless_dropped (dropped? N.reduction d t.1) N.reduction t v)
          (unless_dropped (dropped? N'.reduction d t.1) N'.reduction t v)
      dropping true = kept (dropped? S.reduction true t.1)
      dropping false = kept false

      fitting : (b : Bool) → Until14 0 (if_fits b N.reduction W.drops t v) (if_fits b N'.reduction W.drops t v)
      fitting false = same
      fitting true = dropping W.drops

  products_until : (c : ℕ) (q : Exponents) (f v : Vector)
      → Until14 0 (add_products N.reduction W.drops c q f v) (add_products N'.reduction W.drops c q f v)
  products_until c q [] v = same
  products_until c q (t ∷ f) v =
      until_then (term_until (multiple p c q t) v) (λ u. add_products N.reduction W.drops c q f u)
      (λ u. add_products N'.reduction W.drops c q f u) (λ u. products_until c q f u)

  -- ## A run

  start_until : (m : Monomial) → Until14 0 (start N W m) (start N' W m)
  start_until m = until_map (products_until 1 m.0 (vector_of S.family m.1) []) (λ v. done (record { value = v; vector = (1, m) ∷ [] }))

  reduced_until : (r : Run) (j c : ℕ) (q : Exponents) → Until14 0 (reduced N W r j c q) (reduced N' W r j c q)
  reduced_until r j c q =
      until_then {x = store S.reduction.limits.vector p (c, (q, j)) r.vector} same
      (λ v. add_products N.reduction W.drops c q (vector_of S.family j) r.value >>= λ u. done (on (record { value = u; vector = v })))
      (λ v. add_products N'.reduction W.drops c q (vector_of S.family j) r.value >>= λ u. done (on (record { value = u; vector = v })))
      (λ v. until_map (products_until c q (vector_of S.family j) r.value) (λ u. done (on (record { value = u; vector = v }))))

  step_until : (r : Run) → Until14 0 (step N W r) (step N' W r)
  step_until r = picked (W.pick r.value)
    where
      stopped : (i : ℕ) (b : Bool) → Until14 0 (without_reducer b N r i) (without_reducer b N' r i)
      stopped i true = same
      stopped i false = same

      answered : (i : ℕ) (a : Answer) → Until14 0 (by_answer N W r i a) (by_answer N' W r i a)
      answered i (reducer j c q) = reduced_until r j (minus p c) q
      answered i lower_order = stopped i W.stops

      picked : (o : Option ℕ) → Until14 0 (by_pick N W r o) (by_pick N' W r o)
      picked none = same
      picked (some i) = answered i (answer p S.reduction.heads (get_or r.value i no_term))

  -- what follows a step
  continued_until : (go go' : Run → Result Vector) → ((r : Run) → Until14 0 (go r) (go' r)) → {x y : Result Step} → Until14 0 x y
      → Until14 0 (continued N go x) (continued N' go' y)
  continued_until go go' h (same {x}) = on_or_end x
    where
      on_or_end : (x : Result Step) → Until14 0 (continued N go x) (continued N' go' x)
      on_or_end (done (on r)) = h r
      on_or_end (done (end v)) = same
      on_or_end (refused number place value) = same
      on_or_end unfinished = same
  continued_until go go' h fourteen = fourteen

  runs_until : (n : ℕ) (r : Run) → Until14 0 (runs N W n r) (runs N' W n r)
  runs_until zero r = same
  runs_until (suc n) r = continued_until (λ r'. runs N W n r') (λ r'. runs N' W n r') (runs_until n) (step_until r)

  pub run_until : (n : ℕ) (m : Monomial) → Until14 0 (run (narrowed w S) W n m) (run (narrowed w' S) W n m)
  run_until n m = until_then (start_until m) (λ r. runs N W n r) (λ r. runs N' W n r) (runs_until n)
