-- Only runs have a bound: a sum, a step, the tree, the frame and the reader are always finished.
use mathlib.Core.Bool.{Bool, true, false, not}
use mathlib.Core.Option.{Option, none, some}
use mathlib.Core.List.{List, [], ◌∷◌}
use Prim.Native.Nat.{ℕ, zero, suc, ◌+◌, ◌-◌, ◌*◌}
use lib.Dec.{T, leb, ltb, eqb}
use lib.ListN.{length, get_or}
use Rattle.definitions.specs.Limits.{Limits}
use Rattle.definitions.specs.Lists.{◌and◌, empty?, rest}
use Rattle.definitions.specs.Field.{times, minus}
use Rattle.definitions.specs.Monomial.{Exponents, Monomial, Term, Vector, Level, no_term, fits?, leading_monomials, vector_of}
use Rattle.definitions.specs.Order.{Comparison}
use Rattle.definitions.specs.Reducer.{Answer, reducer, lower_order, answer}
use Rattle.definitions.specs.Frame.{frame}
use Rattle.definitions.specs.Result.{Result, done, unless_refused, refusal, finished?, ◌>>=◌}
use Rattle.definitions.specs.Vectors.{insert, combined, appended, or_last, store}
use Rattle.definitions.specs.Stage.{Reduction, Stage}
use Rattle.definitions.specs.Run.{Run, Strategy, on, dropped?, unless_dropped, if_fits, multiple, add_term, add_products, start}
use Rattle.definitions.specs.Run.{without_reducer, by_answer, by_pick, step}
use Rattle.definitions.specs.Tree.{Cache, Subtree, Sum, LiftTerm, LiftList, cached, finish, held_to, grow, add_result, add_subtree}
use Rattle.definitions.specs.Tree.{if_product_fits, lift_product, lift_list}
use Rattle.definitions.specs.Tree.{open_subtree, or_open, lift_by, lift_term, if_vector_product_fits, lift_vector_product, lift_vector, tree}
use Rattle.definitions.specs.Lifting.{Lifted, add_vector, with_vector, if_few, limited_frame}
use Rattle.definitions.specs.Problem.{Bytes, Line, Parameters, lines, shaped, letter_R, letter_T, letter_E, prime_in_range?, in_ranges?}
use Rattle.definitions.specs.Problem.{parameters_of, r_line, term_of, next?, in_sequence?, term_in_range?, descends?, with_term, t_line, e_line}
use Rattle.definitions.specs.Problem.{by_shape, body, Head, head_of, letter_D, with_degrees, d_line, d_first, letter_G, with_weights, g_line, g_next}
use Rattle.definitions.specs.Problem.{after_r, first_line, head, problem}
use Rattle.definitions.specs.Places.{most_degree, most_weight}
use Rattle.laws.proofs.Results.{bind_finished, unless_refused_finished}

-- ## A step

pub store_finished : (limit p : ℕ) (t : Term) (v : Vector) → T (finished? (store limit p t v))
store_finished limit p t v = go (combined p t v)
  where
    last : (b : Bool) → T (finished? (appended b t v))
    last true = tt
    last false = tt

    go : (o : Option Vector) → T (finished? (or_last limit t v o))
    go none = last (ltb (length v) limit)
    go (some w) = tt

add_term_finished : (R : Reduction) (drops : Bool) (t : Term) (v : Vector) → T (finished? (add_term R drops t v))
add_term_finished R drops t v = go (fits? R.limits.exponent t.1.0)
  where
    stays : (b : Bool) → T (finished? (unless_dropped b R t v))
    stays true = tt
    stays false = store_finished R.limits.working R.p t v

    go : (b : Bool) → T (finished? (if_fits b R drops t v))
    go false = tt
    go true = stays (dropped? R drops t.1)

pub add_products_finished : (R : Reduction) (drops : Bool) (c : ℕ) (q : Exponents) (f v : Vector) → T (finished? (add_products R drops c q f v))
add_products_finished R drops c q [] v = tt
add_products_finished R drops c q (t ∷ f) v =
    bind_finished (add_term R drops (multiple R.p c q t) v) (λ w. add_products R drops c q f w)
    (add_term_finished R drops (multiple R.p c q t) v) (add_products_finished R drops c q f)

pub start_finished : (S : Stage) (W : Strategy) (m : Monomial) → T (finished? (start S W m))
start_finished S W m =
    bind_finished (add_products S.reduction W.drops 1 m.0 (vector_of S.family m.1) [])
    (λ v. done (record { value = v; vector = (1, m) ∷ [] }))
    (add_products_finished S.reduction W.drops 1 m.0 (vector_of S.family m.1) []) (λ v. tt)

pub step_finished : (S : Stage) (W : Strategy) (r : Run) → T (finished? (step S W r))
step_finished S W r = go (W.pick r.value)
  where
    dropped : (stops : Bool) (i : ℕ) → T (finished? (without_reducer stops S r i))
    dropped true i = tt
    dropped false i = tt

    answered : (i : ℕ) (a : Answer) → T (finished? (by_answer S W r i a))
    answered i lower_order = dropped W.stops i
    answered i (reducer j c q) =
        let p = S.reduction.p in
        let added = add_products S.reduction W.drops (minus p c) q (vector_of S.family j) r.value in
        bind_finished (store S.reduction.limits.vector p (minus p c, (q, j)) r.vector)
        (λ v. added >>= λ w. done (on (record { value = w; vector = v })))
        (store_finished S.reduction.limits.vector p (minus p c, (q, j)) r.vector) λ v.
        bind_finished added (λ w. done (on (record { value = w; vector = v })))
        (add_products_finished S.reduction W.drops (minus p c) q (vector_of S.family j) r.value) (λ w. tt)

    go : (o : Option ℕ) → T (finished? (by_pick S W r o))
    go none = tt
    go (some i) = answered i (answer S.reduction.p S.reduction.heads (get_or r.value i no_term))

-- ## The tree

add_result_finished : (order : Monomial → Monomial → Comparison) (p top others c : ℕ) (v total : Vector)
    → T (finished? (add_result order p top others c v total))
add_result_finished order p top others c [] total = tt
add_result_finished order p top others c (t ∷ v) total =
    bind_finished (grow order p top others (times p c t.0, t.1) total) (λ grown. add_result order p top others c v grown)
    (held (leb (others + length grown) top) grown) (add_result_finished order p top others c v)
  where
    grown : Vector
    grown = insert order p (times p c t.0, t.1) total

    held : (b : Bool) (w : Vector) → T (finished? (held_to b w))
    held true w = tt
    held false w = tt

-- a lifting of terms that is always finished
abbrev Finishes : LiftTerm → Type 0
Finishes lift = (others : ℕ) (cache : Cache) (m : Monomial) → T (finished? (lift others cache m))

module _ (S : Stage) where
  abbrev p : ℕ
  p = S.reduction.p

  lift_list_finished : (lift : LiftTerm) → Finishes lift → (others c : ℕ) (q : Exponents) (f : Vector) (s : Sum)
      → T (finished? (lift_list S lift others c q f s))
  lift_list_finished lift k others c q [] s = tt
  lift_list_finished lift k others c q (t ∷ f) s =
      bind_finished (lift_product S lift others (multiple p c q t) s) (λ r. lift_list S lift others c q f r)
      (go (fits? S.reduction.limits.exponent (multiple p c q t).1.0))
      (lift_list_finished lift k others c q f)
    where
      add : (r : Subtree) → T (finished? (add_subtree S others (multiple p c q t).0 s.0 r))
      add r =
          bind_finished (add_result S.above p (S.reduction.limits.tree - r.1) others (multiple p c q t).0 r.0 s.0)
          (λ grown. done (grown, r.2))
          (add_result_finished S.above p (S.reduction.limits.tree - r.1) others (multiple p c q t).0 r.0 s.0) (λ grown. tt)

      go : (b : Bool) → T (finished? (if_product_fits b S lift others (multiple p c q t) s))
      go false = tt
      go true = bind_finished (lift (others + length s.0) s.1 (multiple p c q t).1) (λ r. add_subtree S others (multiple p c q t).0 s.0 r)
          (k (others + length s.0) s.1 (multiple p c q t).1) add

  lift_by_finished : (room : ℕ) (lift : LiftList) → ((others c : ℕ) (q : Exponents) (f : Vector) (s : Sum) → T (finished? (lift others c q f s)))
      → (a : Answer) (others : ℕ) (cache : Cache) (m : Monomial) → T (finished? (lift_by a S room lift others cache m))
  lift_by_finished room lift k lower_order others cache m = tt
  lift_by_finished room lift k (reducer j c q) others cache m = go (cached m cache)
    where
      first : Sum
      first = ((minus p c, (q, j)) ∷ [], cache)

      opened : (b : Bool) → T (finished? (open_subtree b S room lift others cache m j (minus p c) q))
      opened false = tt
      opened true =
          bind_finished (lift others (minus p c) q (rest (vector_of S.family j)) first) (λ s. done (finish room m s))
          (k others (minus p c) q (rest (vector_of S.family j)) first) (λ s. tt)

      go : (o : Option Vector) → T (finished? (or_open o S room lift others cache m j (minus p c) q))
      go (some v) = tt
      go none = opened (ltb others S.reduction.limits.tree)

  lift_term_finished : (room left : ℕ) → Finishes (lift_term S room left)
  lift_term_finished room zero others cache m =
      lift_by_finished room (λ o c q f s. refusal 14) (λ o c q f s. tt) (answer p S.reduction.heads (1, m)) others cache m
  lift_term_finished room (suc left) others cache m =
      lift_by_finished room (lift_list S (lift_term S room left)) (lift_list_finished (lift_term S room left) (lift_term_finished room left))
      (answer p S.reduction.heads (1, m)) others cache m

  lift_vector_finished : (lift : LiftTerm) → Finishes lift → (c : ℕ) (q : Exponents) (f : Vector) (s : Sum)
      → T (finished? (lift_vector S lift c q f s))
  lift_vector_finished lift k c q [] s = tt
  lift_vector_finished lift k c q (t ∷ f) s =
      bind_finished (lift_vector_product S lift (multiple p c q t) s) (λ r. lift_vector S lift c q f r)
      (go (fits? S.reduction.limits.exponent (multiple p c q t).1.0)) (lift_vector_finished lift k c q f)
    where
      x : ℕ
      x = (multiple p c q t).0

      added : Subtree → Result Vector
      added r = add_result S.above p S.reduction.limits.vector 0 x r.0 s.0

      go : (b : Bool) → T (finished? (if_vector_product_fits b S lift (multiple p c q t) s))
      go false = tt
      go true =
          bind_finished (lift 0 s.1 (multiple p c q t).1) (λ r. added r >>= λ grown. done (grown, r.2)) (k 0 s.1 (multiple p c q t).1) λ r.
          bind_finished (added r) (λ grown. done (grown, r.2)) (add_result_finished S.above p S.reduction.limits.vector 0 x r.0 s.0)
          (λ grown. tt)

  pub tree_finished : (room : ℕ) (cache : Cache) (m : Monomial) → T (finished? (tree S room cache m))
  tree_finished room cache m =
      lift_vector_finished (lift_term S room S.reduction.limits.tree) (lift_term_finished room S.reduction.limits.tree) 1 m.0
      (vector_of S.family m.1) ((1, m) ∷ [], cache)

-- ## The frame, and a vector added to a level

pub limited_frame_finished : (lim : Limits) (code : ℕ) (f : Level) → T (finished? (limited_frame lim code f))
limited_frame_finished lim code f = let ms = frame (lim.numbering code) (leading_monomials f) in go (leb (length ms) lim.vectors) ms
  where
    go : (b : Bool) (ms : List Monomial) → T (finished? (if_few b ms))
    go true ms = tt
    go false ms = tt

pub with_vector_finished : (S : Stage) (l : Lifted) (s : Sum) → T (finished? (with_vector S l s))
with_vector_finished S l s = go (leb (l.1 + length s.0) S.reduction.limits.level_terms)
  where
    go : (b : Bool) → T (finished? (add_vector b l s.0))
    go true = tt
    go false = tt

-- ## The reader

-- a test, then the rest
guard_finished : {B : Type 0} (b : Bool) (number place : ℕ) (f : Unit {0} → Result B) → ((u : Unit {0}) → T (finished? (f u)))
    → T (finished? (unless_refused b number place >>= f))
guard_finished b number place f k = bind_finished (unless_refused b number place) f (unless_refused_finished b number place) k

r_line_finished : (lim : Limits) (v : List ℕ) → T (finished? (r_line lim v))
r_line_finished lim v =
    guard_finished (prime_in_range? lim (parameters_of v).p) 2 1
    (λ u. unless_refused (in_ranges? lim (parameters_of v)) 3 1 >>= λ u'. done (parameters_of v)) λ u.
    guard_finished (in_ranges? lim (parameters_of v)) 3 1 (λ u'. done (parameters_of v)) (λ u'. tt)

t_line_finished : (lim : Limits) (q : Parameters) (place count : ℕ) (elements : Level) (v : List ℕ)
    → T (finished? (t_line lim q place count elements v))
t_line_finished lim q place count elements v = guard_finished (ltb count lim.t_lines) 8 place (λ u₁. after_8) (λ u₁.
    guard_finished (in_sequence? lim elements (get_or v 0 0)) 5 place (λ u₂. after_5) (λ u₂.
    guard_finished (term_in_range? lim q t) 4 place (λ u₃. after_4) (λ u₃.
    guard_finished (descends? q.code elements (get_or v 0 0) t) 6 place (λ u₄. done grown) (λ u₄. tt))))
  where
    t : Term
    t = term_of q.n v

    grown : Level
    grown = with_term (next? elements (get_or v 0 0)) elements t

    after_4 : Result Level
    after_4 = unless_refused (descends? q.code elements (get_or v 0 0) t) 6 place >>= λ u₄. done grown

    after_5 : Result Level
    after_5 = unless_refused (term_in_range? lim q t) 4 place >>= λ u₃. after_4

    after_8 : Result Level
    after_8 = unless_refused (in_sequence? lim elements (get_or v 0 0)) 5 place >>= λ u₂. after_5

e_line_finished : (place count : ℕ) (later : List Line) (elements : Level) (o : Option (List ℕ)) → T (finished? (e_line place count later elements o))
e_line_finished place count later elements none = tt
e_line_finished place count later elements (some v) =
    guard_finished (not (eqb (get_or v 0 0) 0) and eqb (get_or v 0 0) count) 7 place
    (λ u₁. unless_refused (empty? later) 1 (suc place) >>= λ u₂. done elements) λ u₁.
    guard_finished (empty? later) 1 (suc place) (λ u₂. done elements) (λ u₂. tt)

body_finished : (lim : Limits) (q : Parameters) (place count : ℕ) (elements : Level) (later : List Line)
    → T (finished? (body lim q place count elements later))
body_finished lim q place count elements [] = tt
body_finished lim q place count elements (line ∷ later) =
    go (shaped lim.field letter_T (3 + q.n) line) (λ grown. body_finished lim q (suc place) (suc count) grown later)
  where
    more : Level → Result Level
    more grown = body lim q (suc place) (suc count) grown later

    go : (o : Option (List ℕ)) → ((grown : Level) → T (finished? (more grown))) → T (finished? (by_shape o lim q place count elements line later more))
    go (some v) k = bind_finished (t_line lim q place count elements v) more (t_line_finished lim q place count elements v) k
    go none k = e_line_finished place count later elements (shaped lim.field letter_E 1 line)

d_line_finished : (h : Head) (later : List Line) (o : Option (List ℕ)) → T (finished? (d_line h later o))
d_line_finished h later none = tt
d_line_finished h later (some v) = guard_finished (fits? most_degree v) 18 h.place (λ u. done (with_degrees h v later)) (λ u. tt)

d_first_finished : (lim : Limits) (h : Head) (ls : List Line) → T (finished? (d_first lim h ls))
d_first_finished lim h [] = tt
d_first_finished lim h (line ∷ later) = d_line_finished h later (shaped lim.field letter_D h.parameters.s line)

g_line_finished : (h : Head) (later : List Line) (o : Option (List ℕ)) → T (finished? (g_line h later o))
g_line_finished h later none = tt
g_line_finished h later (some v) = guard_finished (fits? most_weight v) 24 h.place (λ u. done (with_weights h v later)) (λ u. tt)

g_next_finished : (lim : Limits) (h : Head) (ls : List Line) → T (finished? (g_next lim h ls))
g_next_finished lim h [] = tt
g_next_finished lim h (line ∷ later) = g_line_finished h later (shaped lim.field letter_G (2 * h.parameters.n) line)

pub head_finished : (lim : Limits) (bytes : Bytes) → T (finished? (head lim bytes))
head_finished lim bytes = guard_finished (leb (length bytes) lim.file) 1 0 (λ u. first_line lim (lines bytes)) (λ u. first (lines bytes))
  where
    after : (later : List Line) (o : Option (List ℕ)) → T (finished? (after_r lim later o))
    after later none = tt
    after later (some v) =
        bind_finished (r_line lim v) (λ q. d_first lim (head_of q later) later >>= λ h. g_next lim h h.later) (r_line_finished lim v) λ q.
        bind_finished (d_first lim (head_of q later) later) (λ h. g_next lim h h.later) (d_first_finished lim (head_of q later) later)
        (λ h. g_next_finished lim h h.later)

    first : (ls : List Line) → T (finished? (first_line lim ls))
    first [] = tt
    first (line ∷ later) = after later (shaped lim.field letter_R 4 line)

pub problem_finished : (lim : Limits) (bytes : Bytes) → T (finished? (problem lim bytes))
problem_finished lim bytes =
    bind_finished (head lim bytes) (λ h. body lim h.parameters h.place 0 [] h.later >>= λ f. done (h.parameters, f)) (head_finished lim bytes) λ h.
    bind_finished (body lim h.parameters h.place 0 [] h.later) (λ f. done (h.parameters, f))
    (body_finished lim h.parameters h.place 0 [] h.later) (λ f. tt)
