-- By which numbers each part refuses: a run by 13, 14 or, where it stops, 9; the lifting of a level by 13 to 15; reading by 1 to 9, 13 to 15, 18 and 24.
use mathlib.Core.Path.{◌≡◌, sym, subst}
use mathlib.Core.Bool.{Bool, true, false, not, ◌||◌}
use mathlib.Core.Option.{Option, none, some}
use mathlib.Core.List.{List, [], ◌∷◌}
use Prim.Native.Nat.{ℕ, zero, suc, ◌+◌, ◌-◌, ◌*◌, ◌≤◌}
use native.Mathlib.Omega.{arith}
use lib.Dec.{T, leb, ltb, eqb, eqb→eq}
use lib.ListN.{length, get_or}
use Rattle.definitions.specs.Limits.{Limits}
use Rattle.definitions.specs.Lists.{◌and◌, rest, empty?, between}
use Rattle.definitions.specs.Field.{times, minus}
use Rattle.definitions.specs.Monomial.{Exponents, Monomial, Term, Vector, Level, fits?, no_term, vector_of, leading_monomials}
use Rattle.definitions.specs.Order.{Comparison}
use Rattle.definitions.specs.Reducer.{Answer, reducer, lower_order, answer}
use Rattle.definitions.specs.Frame.{frame}
use Rattle.definitions.specs.Result.{Result, done, refused, unfinished, ◌>>=◌, refusal, at_level, unless_refused}
use Rattle.definitions.specs.Vectors.{insert, combined, appended, or_last, store}
use Rattle.definitions.specs.Stage.{Reduction, Stage, highest, stage_over, narrowed}
use Rattle.definitions.specs.Run
use Rattle.definitions.specs.Run.{Strategy, Step, on, end, dropped?, unless_dropped, if_fits, multiple, add_products, start, reduced, without_reducer}
use Rattle.definitions.specs.Run.{by_answer, by_pick, continued, runs, run, hybrid_strategy, division_strategy, accepting_strategy}
use Rattle.definitions.specs.Tree.{Cache, Sum, cached, held_to, add_result, LiftTerm, LiftList, if_product_fits, lift_list, open_subtree, or_open}
use Rattle.definitions.specs.Tree.{lift_by, lift_term, if_vector_product_fits, lift_vector}
use Rattle.definitions.specs.Lifting.{Lifting, by_division, by_hybrid, by_tree, lift_one, Lifted, add_vector, lift_all, if_few, limited_frame, lift_level}
use Rattle.definitions.specs.Lifting.{at_frame_term, accept_from, accept}
use Rattle.definitions.specs.Problem.{Bytes, Line, Parameters, shaped, letter_R, letter_T, letter_E, prime_in_range?, in_ranges?, parameters_of, r_line}
use Rattle.definitions.specs.Problem.{term_of, in_sequence?, term_in_range?, descends?, t_line, e_line, by_shape, body, after_r, first_line, lines}
use Rattle.definitions.specs.Problem.{letter_D, letter_G, Head, head_of, d_line, d_first, g_line, g_next, head, problem}
use Rattle.definitions.specs.Places.{most_degree, most_weight}
use Rattle.definitions.specs.State.{State, up_to}
use Rattle.definitions.specs.Calls.{read, lift}
use Rattle.laws.proofs.Tests.{between_low, between_high, between_shown}

-- a refusal's number passes the test; only 9 leaves a value
pub data Numbered {A : Type 0} (ok : ℕ → Bool) : Result A → Type 0 where
  gives : {a : A} → Numbered ok (done a)
  refuses : {number place : ℕ} → T (ok number) → Numbered ok (refused number place [])
  stops : {place : ℕ} {value : Vector} → T (ok 9) → Numbered ok (refused 9 place value)
  open_yet : Numbered ok unfinished

-- one after the other
pub numbered_then : {A B : Type 0} {ok : ℕ → Bool} {x : Result A} {f : A → Result B} → Numbered ok x → ((a : A) → Numbered ok (f a))
    → Numbered ok (x >>= f)
numbered_then (gives {a}) k = k a
numbered_then (refuses h) k = refuses h
numbered_then (stops h) k = stops h
numbered_then open_yet k = open_yet

-- a wider test
pub numbered_more : {A : Type 0} {ok more : ℕ → Bool} {x : Result A} → ((n : ℕ) → T (ok n) → T (more n)) → Numbered ok x → Numbered more x
numbered_more w gives = gives
numbered_more w (refuses {number} h) = refuses (w number h)
numbered_more w (stops h) = stops (w 9 h)
numbered_more w open_yet = open_yet

-- "13 to 15 where the run meets them"
abbrev pub limit_number? : ℕ → Bool
limit_number? n = between 13 n 15

-- .. and 9
abbrev pub run_number? : ℕ → Bool
run_number? n = eqb n 9 || between 13 n 15

-- the refusals of a line that requests add: 18 (A5), 24 (A14)
abbrev pub added_number? : ℕ → Bool
added_number? n = eqb n 18 || eqb n 24

-- "After 1 to 9 and 13 to 15", and "A refusal that a request adds leaves what 1 leaves"
abbrev pub read_number? : ℕ → Bool
read_number? n = between 1 n 9 || (between 13 n 15 || added_number? n)

-- ## Runs

appended_number : (b : Bool) (t : Term) (v : Vector) → Numbered limit_number? (appended b t v)
appended_number true t v = gives
appended_number false t v = refuses tt

store_number : (limit p : ℕ) (t : Term) (v : Vector) → Numbered limit_number? (store limit p t v)
store_number limit p t v = go (combined p t v)
  where
    go : (o : Option Vector) → Numbered limit_number? (or_last limit t v o)
    go none = appended_number (ltb (length v) limit) t v
    go (some w) = gives

unless_dropped_number : (b : Bool) (R : Reduction) (t : Term) (v : Vector) → Numbered limit_number? (unless_dropped b R t v)
unless_dropped_number true R t v = gives
unless_dropped_number false R t v = store_number R.limits.working R.p t v

if_fits_number : (b : Bool) (R : Reduction) (drops : Bool) (t : Term) (v : Vector) → Numbered limit_number? (if_fits b R drops t v)
if_fits_number true R drops t v = unless_dropped_number (dropped? R drops t.1) R t v
if_fits_number false R drops t v = refuses tt

add_products_number : (R : Reduction) (drops : Bool) (c : ℕ) (q : Exponents) (f v : Vector) → Numbered limit_number? (add_products R drops c q f v)
add_products_number R drops c q [] v = gives
add_products_number R drops c q (t ∷ f) v =
    let u = multiple R.p c q t in
    numbered_then (if_fits_number (fits? R.limits.exponent u.1.0) R drops u v) (λ w. add_products_number R drops c q f w)

pub start_number : (S : Stage) (W : Strategy) (m : Monomial) → Numbered limit_number? (start S W m)
start_number S W m = numbered_then (add_products_number S.reduction W.drops 1 m.0 (vector_of S.family m.1) []) (λ v. gives)

-- the numbers of a run that stops, or not
abbrev stop_number? : Bool → ℕ → Bool
stop_number? true = run_number?
stop_number? false = limit_number?

or_left : (a b : Bool) → T a → T (a || b)
or_left true b h = tt
or_left false b h = absurd h

or_right : (a b : Bool) → T b → T (a || b)
or_right true b h = tt
or_right false b h = h

limit_stop : (b : Bool) (n : ℕ) → T (limit_number? n) → T (stop_number? b n)
limit_stop false n h = h
limit_stop true n h = or_right (eqb n 9) (between 13 n 15) h

reduced_number : (S : Stage) (W : Strategy) (r : Run.Run) (j c : ℕ) (q : Exponents) → Numbered limit_number? (reduced S W r j c q)
reduced_number S W r j c q =
    numbered_then (store_number S.reduction.limits.vector S.reduction.p (c, (q, j)) r.vector)
    (λ v. numbered_then (add_products_number S.reduction W.drops c q (vector_of S.family j) r.value) (λ w. gives))

without_reducer_number : (b : Bool) (S : Stage) (r : Run.Run) (i : ℕ) → Numbered (stop_number? b) (without_reducer b S r i)
without_reducer_number true S r i = stops tt
without_reducer_number false S r i = gives

by_answer_number : (S : Stage) (W : Strategy) (r : Run.Run) (i : ℕ) (a : Answer) → Numbered (stop_number? W.stops) (by_answer S W r i a)
by_answer_number S W r i (reducer j c q) = numbered_more (limit_stop W.stops) (reduced_number S W r j (minus S.reduction.p c) q)
by_answer_number S W r i lower_order = without_reducer_number W.stops S r i

pub by_pick_number : (S : Stage) (W : Strategy) (r : Run.Run) (o : Option ℕ) → Numbered (stop_number? W.stops) (by_pick S W r o)
by_pick_number S W r none = gives
by_pick_number S W r (some i) = by_answer_number S W r i (answer S.reduction.p S.reduction.heads (get_or r.value i no_term))

continued_number : (S : Stage) (ok : ℕ → Bool) (go : Run.Run → Result Vector) → ((r : Run.Run) → Numbered ok (go r)) → {s : Result Step} → Numbered ok s
    → Numbered ok (continued S go s)
continued_number S ok go h (gives {a = on r}) = h r
continued_number S ok go h (gives {a = end v}) = gives
continued_number S ok go h (refuses k) = refuses k
continued_number S ok go h (stops k) = stops k
continued_number S ok go h open_yet = open_yet

runs_number : (S : Stage) (W : Strategy) (n : ℕ) (r : Run.Run) → Numbered (stop_number? W.stops) (runs S W n r)
runs_number S W zero r = open_yet
runs_number S W (suc n) r = continued_number S (stop_number? W.stops) (λ r'. runs S W n r') (λ r'. runs_number S W n r')
    (by_pick_number S W r (W.pick r.value))

pub run_number : (S : Stage) (W : Strategy) (n : ℕ) (m : Monomial) → Numbered (stop_number? W.stops) (run S W n m)
run_number S W n m = numbered_then (numbered_more (limit_stop W.stops) (start_number S W m)) (λ r. runs_number S W n r)

-- ## The tree

held_to_number : (b : Bool) (v : Vector) → Numbered limit_number? (held_to b v)
held_to_number true v = gives
held_to_number false v = refuses tt

add_result_number : (order : Monomial → Monomial → Comparison) (p top others c : ℕ) (v total : Vector)
    → Numbered limit_number? (add_result order p top others c v total)
add_result_number order p top others c [] total = gives
add_result_number order p top others c (t ∷ v) total =
    let grown = insert order p (times p c t.0, t.1) total in
    numbered_then (held_to_number (leb (others + length grown) top) grown) (λ w. add_result_number order p top others c v w)

abbrev LiftNumber : LiftTerm → Type 0
LiftNumber lift = (others : ℕ) (cache : Cache) (m : Monomial) → Numbered limit_number? (lift others cache m)

if_product_fits_number : (b : Bool) (S : Stage) (lift : LiftTerm) → LiftNumber lift → (others : ℕ) (t : Term) (s : Sum)
    → Numbered limit_number? (if_product_fits b S lift others t s)
if_product_fits_number true S lift h others t s =
    numbered_then (h (others + length s.0) s.1 t.1)
    (λ r. numbered_then (add_result_number S.above S.reduction.p (S.reduction.limits.tree - r.1) others t.0 r.0 s.0)
    (λ grown. gives))
if_product_fits_number false S lift h others t s = refuses tt

lift_list_number : (S : Stage) (lift : LiftTerm) → LiftNumber lift → (others c : ℕ) (q : Exponents) (f : Vector) (s : Sum)
    → Numbered limit_number? (lift_list S lift others c q f s)
lift_list_number S lift h others c q [] s = gives
lift_list_number S lift h others c q (t ∷ f) s =
    let u = multiple S.reduction.p c q t in
    numbered_then (if_product_fits_number (fits? S.reduction.limits.exponent u.1.0) S lift h others u s)
    (λ r. lift_list_number S lift h others c q f r)

abbrev ListNumber : LiftList → Type 0
ListNumber lift = (others c : ℕ) (q : Exponents) (f : Vector) (s : Sum) → Numbered limit_number? (lift others c q f s)

open_subtree_number : (b : Bool) (S : Stage) (room : ℕ) (lift : LiftList) → ListNumber lift
    → (others : ℕ) (cache : Cache) (m : Monomial) (j c : ℕ) (q : Exponents) → Numbered limit_number? (open_subtree b S room lift others cache m j c q)
open_subtree_number true S room lift h others cache m j c q = numbered_then (h others c q (rest (vector_of S.family j)) ((c, (q, j)) ∷ [], cache))
    (λ s. gives)
open_subtree_number false S room lift h others cache m j c q = refuses tt

lift_by_number : (a : Answer) (S : Stage) (room : ℕ) (lift : LiftList) → ListNumber lift → LiftNumber (lift_by a S room lift)
lift_by_number lower_order S room lift h others cache m = gives
lift_by_number (reducer j c q) S room lift h others cache m = go (cached m cache)
  where
    go : (o : Option Vector) → Numbered limit_number? (or_open o S room lift others cache m j (minus S.reduction.p c) q)
    go (some v) = gives
    go none = open_subtree_number (ltb others S.reduction.limits.tree) S room lift h others cache m j (minus S.reduction.p c) q

lift_term_number : (S : Stage) (room left : ℕ) → LiftNumber (lift_term S room left)
lift_term_number S room zero others cache m = lift_by_number (answer S.reduction.p S.reduction.heads (1, m)) S room (λ o c q f s. refusal 14)
    (λ o c q f s. refuses tt) others cache m
lift_term_number S room (suc left) others cache m =
    lift_by_number (answer S.reduction.p S.reduction.heads (1, m)) S room (lift_list S (lift_term S room left))
    (lift_list_number S (lift_term S room left) (lift_term_number S room left)) others cache m

if_vector_product_fits_number : (b : Bool) (S : Stage) (lift : LiftTerm) → LiftNumber lift → (t : Term) (s : Sum)
    → Numbered limit_number? (if_vector_product_fits b S lift t s)
if_vector_product_fits_number true S lift h t s =
    numbered_then (h 0 s.1 t.1) (λ r. numbered_then (add_result_number S.above S.reduction.p S.reduction.limits.vector 0 t.0 r.0
    s.0) (λ grown. gives))
if_vector_product_fits_number false S lift h t s = refuses tt

lift_vector_number : (S : Stage) (lift : LiftTerm) → LiftNumber lift → (c : ℕ) (q : Exponents) (f : Vector) (s : Sum)
    → Numbered limit_number? (lift_vector S lift c q f s)
lift_vector_number S lift h c q [] s = gives
lift_vector_number S lift h c q (t ∷ f) s =
    let u = multiple S.reduction.p c q t in
    numbered_then (if_vector_product_fits_number (fits? S.reduction.limits.exponent u.1.0) S lift h u s)
    (λ r. lift_vector_number S lift h c q f r)

-- ## Levels and acceptance

lift_one_number : (S : Stage) (way : Lifting) (n : ℕ) (cache : Cache) (m : Monomial) → Numbered limit_number? (lift_one S way n cache m)
lift_one_number S by_division n cache m = numbered_then (run_number S (division_strategy S) n m) (λ v. gives)
lift_one_number S (by_hybrid pick w) n cache m = numbered_then (run_number (narrowed w S) (hybrid_strategy (narrowed w S) pick) n m) (λ v. gives)
lift_one_number S (by_tree room) n cache m =
    let left = S.reduction.limits.tree in
    lift_vector_number S (lift_term S room left) (lift_term_number S room left) 1 m.0 (vector_of S.family m.1) ((1, m) ∷ [], cache)

add_vector_number : (b : Bool) (l : Lifted) (v : Vector) → Numbered limit_number? (add_vector b l v)
add_vector_number true l v = gives
add_vector_number false l v = refuses tt

lift_all_number : (S : Stage) (lift : Cache → Monomial → Result Sum) → ((cache : Cache) (m : Monomial) → Numbered limit_number? (lift cache m))
    → (l : Lifted) (cache : Cache) (ms : List Monomial) → Numbered limit_number? (lift_all S lift l cache ms)
lift_all_number S lift h l cache [] = gives
lift_all_number S lift h l cache (m ∷ ms) =
    numbered_then (h cache m)
    (λ s. numbered_then (add_vector_number (leb (l.1 + length s.0) S.reduction.limits.level_terms) l s.0)
    (λ l'. lift_all_number S lift h l' s.1 ms))

if_few_number : (b : Bool) (ms : List Monomial) → Numbered limit_number? (if_few b ms)
if_few_number true ms = gives
if_few_number false ms = refuses tt

limited_frame_number : (lim : Limits) (code : ℕ) (f : Level) → Numbered limit_number? (limited_frame lim code f)
limited_frame_number lim code f =
    let ms = frame (lim.numbering code) (leading_monomials f) in
    if_few_number (leb (length ms) lim.vectors) ms

pub lift_level_number : (lim : Limits) (p code : ℕ) (below : List Level) (way : Lifting) (n : ℕ)
    → Numbered limit_number? (lift_level lim p code below way n)
lift_level_number lim p code below way n =
    let S = stage_over lim p code below in
    numbered_then (limited_frame_number lim code (highest below)) (λ ms. lift_all_number S (lift_one S way n) (lift_one_number S way n) ([], 0) [] ms)

at_frame_term_number : {ok : ℕ → Bool} (i : ℕ) {r : Result Vector} → Numbered ok r → Numbered ok (at_frame_term i r)
at_frame_term_number i gives = gives
at_frame_term_number i (refuses h) = refuses h
at_frame_term_number i (stops h) = stops h
at_frame_term_number i open_yet = open_yet

accept_from_number : (S : Stage) (n i : ℕ) (ms : List Monomial) → Numbered run_number? (accept_from S n i ms)
accept_from_number S n i [] = gives
accept_from_number S n i (m ∷ ms) = numbered_then (at_frame_term_number i (run_number S (accepting_strategy S) n m))
    (λ v. accept_from_number S n (suc i) ms)

pub accept_number : (lim : Limits) (p code : ℕ) (f : Level) (n : ℕ) → Numbered run_number? (accept lim p code f n)
accept_number lim p code f n =
    numbered_then (numbered_more (limit_stop true) (limited_frame_number lim code f)) (λ ms. accept_from_number (stage_over lim p code (f ∷ [])) n 1 ms)

-- ## Reading

abbrev pub line_number? : ℕ → Bool
line_number? n = between 1 n 8 || added_number? n

unless_number : (b : Bool) (number place : ℕ) → T (line_number? number) → Numbered line_number? (unless_refused b number place)
unless_number true number place h = gives
unless_number false number place h = refuses h

r_line_number : (lim : Limits) (v : List ℕ) → Numbered line_number? (r_line lim v)
r_line_number lim v =
    numbered_then (unless_number (prime_in_range? lim (parameters_of v).p) 2 1 tt) (λ u.
    numbered_then (unless_number (in_ranges? lim (parameters_of v)) 3 1 tt) (λ u'. gives))

t_line_number : (lim : Limits) (q : Parameters) (place count : ℕ) (f : Level) (v : List ℕ) → Numbered line_number? (t_line lim q place count f v)
t_line_number lim q place count f v =
    numbered_then (unless_number (ltb count lim.t_lines) 8 place tt) (λ u₁.
    numbered_then (unless_number (in_sequence? lim f (get_or v 0 0)) 5 place tt) (λ u₂.
    numbered_then (unless_number (term_in_range? lim q (term_of q.n v)) 4 place tt) (λ u₃.
    numbered_then (unless_number (descends? q.code f (get_or v 0 0) (term_of q.n v)) 6 place tt) (λ u₄. gives))))

e_line_number : (place count : ℕ) (later : List Line) (f : Level) (o : Option (List ℕ)) → Numbered line_number? (e_line place count later f o)
e_line_number place count later f none = refuses tt
e_line_number place count later f (some v) =
    numbered_then (unless_number (not (eqb (get_or v 0 0) 0) and eqb (get_or v 0 0) count) 7 place tt)
    (λ u₁. numbered_then (unless_number (empty? later) 1 (suc place) tt) (λ u₂. gives))

by_shape_number : (o : Option (List ℕ)) (lim : Limits) (q : Parameters) (place count : ℕ) (f : Level) (line : Line) (later : List Line)
    (go : Level → Result Level)
    → ((g : Level) → Numbered line_number? (go g)) → Numbered line_number? (by_shape o lim q place count f line later go)
by_shape_number (some v) lim q place count f line later go h = numbered_then (t_line_number lim q place count f v) h
by_shape_number none lim q place count f line later go h = e_line_number place count later f (shaped lim.field letter_E 1 line)

body_number : (lim : Limits) (q : Parameters) (place count : ℕ) (f : Level) (ls : List Line) → Numbered line_number? (body lim q place count f ls)
body_number lim q place count f [] = refuses tt
body_number lim q place count f (line ∷ later) =
    by_shape_number (shaped lim.field letter_T (3 + q.n) line) lim q place count f line later (λ g. body lim q (suc place) (suc count) g later)
    (λ g. body_number lim q (suc place) (suc count) g later)

d_line_number : (h : Head) (later : List Line) (o : Option (List ℕ)) → Numbered line_number? (d_line h later o)
d_line_number h later none = gives
d_line_number h later (some v) = numbered_then (unless_number (fits? most_degree v) 18 h.place tt) (λ u. gives)

d_first_number : (lim : Limits) (h : Head) (ls : List Line) → Numbered line_number? (d_first lim h ls)
d_first_number lim h [] = gives
d_first_number lim h (line ∷ later) = d_line_number h later (shaped lim.field letter_D h.parameters.s line)

g_line_number : (h : Head) (later : List Line) (o : Option (List ℕ)) → Numbered line_number? (g_line h later o)
g_line_number h later none = gives
g_line_number h later (some v) = numbered_then (unless_number (fits? most_weight v) 24 h.place tt) (λ u. gives)

g_next_number : (lim : Limits) (h : Head) (ls : List Line) → Numbered line_number? (g_next lim h ls)
g_next_number lim h [] = gives
g_next_number lim h (line ∷ later) = g_line_number h later (shaped lim.field letter_G (2 * h.parameters.n) line)

after_r_number : (lim : Limits) (later : List Line) (o : Option (List ℕ)) → Numbered line_number? (after_r lim later o)
after_r_number lim later none = refuses tt
after_r_number lim later (some v) =
    numbered_then (r_line_number lim v) (λ q. numbered_then (d_first_number lim (head_of q later) later) (λ h. g_next_number lim h h.later))

first_line_number : (lim : Limits) (ls : List Line) → Numbered line_number? (first_line lim ls)
first_line_number lim [] = refuses tt
first_line_number lim (line ∷ later) = after_r_number lim later (shaped lim.field letter_R 4 line)

pub head_number : (lim : Limits) (bytes : Bytes) → Numbered line_number? (head lim bytes)
head_number lim bytes = numbered_then (unless_number (leb (length bytes) lim.file) 1 0 tt) (λ u. first_line_number lim (lines bytes))

pub problem_number : (lim : Limits) (bytes : Bytes) → Numbered line_number? (problem lim bytes)
problem_number lim bytes =
    numbered_then (head_number lim bytes) (λ h. numbered_then (body_number lim h.parameters h.place 0 [] h.later) (λ f. gives))

-- ## The calls

line_read : (n : ℕ) → T (line_number? n) → T (read_number? n)
line_read n h = go (between 1 n 8) (λ t. between_shown 1 n 9 (between_low 1 n 8 t) (let k : n ≤ 8 = between_high 1 n 8 t in omega arith)) h
  where
    go : (b : Bool) → (T b → T (between 1 n 9)) → T (b || added_number? n) → T (read_number? n)
    go true f t = or_left (between 1 n 9) (between 13 n 15 || added_number? n) (f tt)
    go false f t = or_right (between 1 n 9) (between 13 n 15 || added_number? n) (or_right (between 13 n 15) (added_number? n) t)

run_read : (n : ℕ) → T (run_number? n) → T (read_number? n)
run_read n h = go (eqb n 9) (eqb→eq n 9) h
  where
    go : (b : Bool) → (T b → n ≡ 9) → T (b || between 13 n 15) → T (read_number? n)
    go true e h = subst (λ k. T (read_number? k)) (sym (e tt)) tt
    go false e h = or_right (between 1 n 9) (between 13 n 15 || added_number? n) (or_left (between 13 n 15) (added_number? n) h)

pub read_number : (lim : Limits) (n : ℕ) (bytes : Bytes) → Numbered read_number? (read lim n bytes)
read_number lim n bytes =
    numbered_then (numbered_more line_read (problem_number lim bytes))
    (λ f. numbered_then (numbered_more run_read (accept_number lim f.0.p f.0.code f.1 n)) (λ u. gives))

at_level_number : {A : Type 0} {ok : ℕ → Bool} (k : ℕ) {r : Result A} → Numbered ok r → Numbered ok (at_level k r)
at_level_number k gives = gives
at_level_number k (refuses h) = refuses h
at_level_number k (stops h) = stops h
at_level_number k open_yet = open_yet

pub lift_number : (lim : Limits) (n : ℕ) (X : State) (k : ℕ) (way : Lifting) → Numbered limit_number? (lift lim n X k way)
lift_number lim n X k way = numbered_then (at_level_number k (lift_level_number lim X.parameters.p X.parameters.code (up_to X (k - 1)) way n))
    (λ f. gives)
