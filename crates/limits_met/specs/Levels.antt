-- 13 to 15 of a whole level by each of the three ways; and all that is proved of when limits are met.
use Rattle.std.specs.Prelude.{◌≡◌, ◌⊎◌, List, [], ◌∷◌, ◌++◌, ℕ, ◌+◌, ◌<◌, ◌≤◌, length}
use Rattle.std.proofs.Math.Option.{none, some}
use Rattle.definitions.specs.Limits.{Limits}
use Rattle.definitions.specs.Monomial.{Exponents, Monomial, Term, Vector, Level, leading_monomials}
use Rattle.definitions.specs.Order.{Comparison}
use Rattle.definitions.specs.Frame.{frame}
use Rattle.definitions.specs.Reducer.{reducer, answer}
use Rattle.definitions.specs.Result.{Result, done, refused, unfinished, ◌>>=◌}
use Rattle.definitions.specs.Vectors.{insert}
use Rattle.definitions.specs.Stage.{Stage, highest, stage_over, narrowed}
use Rattle.definitions.specs.Run.{Run, Strategy, run, hybrid_strategy, division_strategy}
use Rattle.definitions.specs.Tree.{Cache, cached, Sum, grow, LiftTerm, lift_product, lift_vector_product, lift_term}
use Rattle.definitions.specs.Lifting.{Lifting, by_division, by_hybrid, by_tree, Lifted, with_vector, limited_frame, lift_all, lift_level, accept}
use Rattle.definitions.specs.Reckoning.{reckoned_vector}
use Rattle.limits_met.specs.Limits.{All, Fits, Comes, RefusedRun, RunComes, RefusedAccepting}
use Rattle.limits_met.specs.Trees.{Work, ComesTo, TreeComes, ShallowFrame, tree_by}

-- ## A level

-- a frame term by a run: the cache stays
abbrev pub RunLifts : Stage → Strategy → Cache → Monomial → Result Sum → Type 0
RunLifts S W cache m (done s) = RunComes S W m (done s.0) × (s.1 ≡ cache)
RunLifts S W cache m (refused number place value) = RunComes S W m (refused number place value)
RunLifts S W cache m unfinished = ⊥

-- "by one of three ways"
abbrev pub LiftsBy : Stage → Lifting → Cache → Monomial → Result Sum → Type 0
LiftsBy S by_division cache m r = RunLifts S (division_strategy S) cache m r
LiftsBy S (by_hybrid pick w) cache m r = RunLifts (narrowed w S) (hybrid_strategy (narrowed w S) pick) cache m r
LiftsBy S (by_tree room) cache m r = TreeComes S room cache m r

-- "lift all its terms, in number order", from so many terms in the level on: the first that is refused, or whose vector is too much for the level
pub data RefusedTerms (most : ℕ) (Lifts : Cache → Monomial → Result Sum → Type 0) : ℕ → Cache → List Monomial → ℕ → Type 0 where
  this_term : {terms : ℕ} {cache : Cache} {m : Monomial} {ms : List Monomial} {number place : ℕ} {value : Vector}
      → Lifts cache m (refused number place value) → RefusedTerms most Lifts terms cache (m ∷ ms) number
  too_many : {terms : ℕ} {cache : Cache} {m : Monomial} {ms : List Monomial} {s : Sum} → Lifts cache m (done s) → most < terms + length s.0
      → RefusedTerms most Lifts terms cache (m ∷ ms) 15
  later_term : {terms : ℕ} {cache : Cache} {m : Monomial} {ms : List Monomial} {s : Sum} {number : ℕ} → Lifts cache m (done s)
      → terms + length s.0 ≤ most → RefusedTerms most Lifts (terms + length s.0) s.1 ms number
      → RefusedTerms most Lifts terms cache (m ∷ ms) number

-- a level over these, the highest first: 15 "before any division or lifting", or one of its terms; "The cache starts empty at each lifting call"
pub data RefusedLevel (lim : Limits) (p code : ℕ) (below : List Level) (way : Lifting) : ℕ → Type 0 where
  frame_full : lim.vectors < length (frame (lim.numbering code) (leading_monomials (highest below))) → RefusedLevel lim p code below way 15
  at_term : {number : ℕ} → length (frame (lim.numbering code) (leading_monomials (highest below))) ≤ lim.vectors
      → RefusedTerms lim.level_terms (LiftsBy (stage_over lim p code below) way) 0 [] (frame (lim.numbering code) (leading_monomials (highest below)))
      number → RefusedLevel lim p code below way number

-- by the definition's tree, with this bound on how many subtrees stand in each other
abbrev pub lift_level_by : ℕ → Limits → ℕ → ℕ → List Level → ℕ → Result Level
lift_level_by left lim p code below room =
    let S = stage_over lim p code below in limited_frame lim code (highest below) >>= λ ms. lift_all S (tree_by left S room) ([], 0) [] ms

-- not by the tree
abbrev pub ByRuns : Lifting → Type 0
ByRuns by_division = Unit {0}
ByRuns (by_hybrid pick w) = Unit {0}
ByRuns (by_tree room) = ⊥

-- ## All of it

pub record LimitsMet : Type 0 where
  -- 9 and 13 to 15 while accepting
  pub accepting : (lim : Limits) (p code : ℕ) (f : Level) (n number place : ℕ) (value : Vector) → accept lim p code f n ≡ refused number place value
      → RefusedAccepting lim p code f number place value
  -- 13 to 15 while lifting by division or hybrid; and by the tree, where no more subtrees stand in each other than its bound allows
  pub lifting : (lim : Limits) (p code : ℕ) (below : List Level) (way : Lifting) → ByRuns way → (n number place : ℕ) (value : Vector)
      → lift_level lim p code below way n ≡ refused number place value → RefusedLevel lim p code below way number
  pub lifting_by_tree : (lim : Limits) (p code : ℕ) (below : List Level) (room left : ℕ) → 1 ≤ lim.vector
      → All (ShallowFrame (stage_over lim p code below) left) (frame (lim.numbering code) (leading_monomials (highest below)))
      → (number place : ℕ) (value : Vector) → lift_level_by left lim p code below room ≡ refused number place value
      → RefusedLevel lim p code below (by_tree room) number
  -- no refusal of a run but where a limit is met, or, for 9, a value without a reducer
  pub only_then : (S : Stage) (W : Strategy) (n : ℕ) (m : Monomial) (number place : ℕ) (value : Vector) → run S W n m ≡ refused number place value
      → RefusedRun S W m number value × (place ≡ 0)
  -- a run that is not refused came to zero
  pub to_the_end : (S : Stage) (W : Strategy) (n : ℕ) (m : Monomial) (v : Vector) → run S W n m ≡ done v → RunComes S W m (done v)
  -- and no limit is passed: what a run comes to has its terms within the limits
  pub within : (S : Stage) (W : Strategy) (m : Monomial) (r : Run) → 1 ≤ S.reduction.limits.vector → Comes S W m r
      → (length r.value ≤ S.reduction.limits.working) × (length r.vector ≤ S.reduction.limits.vector)
      × All (λ t. Fits S.reduction.limits.exponent t.1.0) r.value
  -- 15: "a 129th frame term", exactly
  pub frame_15 : (lim : Limits) (code : ℕ) (f : Level)
      → ((limited_frame lim code f ≡ refused 15 0 []) × (lim.vectors < length (frame (lim.numbering code) (leading_monomials f))))
      ⊎ ((limited_frame lim code f ≡ done (frame (lim.numbering code) (leading_monomials f)))
      × (length (frame (lim.numbering code) (leading_monomials f)) ≤ lim.vectors))
  -- 15: "a 2,049th term of a level above 0, when a finished vector is added", exactly
  pub terms_15 : (S : Stage) (l : Lifted) (s : Sum)
      → ((with_vector S l s ≡ refused 15 0 []) × (S.reduction.limits.level_terms < l.1 + length s.0))
      ⊎ ((with_vector S l s ≡ done (l.0 ++ s.0 ∷ [], l.1 + length s.0))
      × (l.1 + length s.0 ≤ S.reduction.limits.level_terms))
  -- ## The tree

  -- a frame term by the definition's tree comes to what the work comes to, which is one thing
  pub tree : (S : Stage) (room left : ℕ) (cache : Cache) (m : Monomial) → 1 ≤ S.reduction.limits.vector → ShallowFrame S left m
      → TreeComes S room cache m (tree_by left S room cache m)
  pub one_end : (S : Stage) (room : ℕ) (W : Work) (r r' : Result Sum) → ComesTo S room W r → ComesTo S room W r' → r ≡ r'
  -- where the reckoning with this bound has the frame term's vector, no more subtrees stand in each other
  pub as_deep_as_the_reckoning : (lim : Limits) (n p code : ℕ) (below : List Level) (m : Monomial) (v : Vector)
      → reckoned_vector n p code below m ≡ some v → ShallowFrame (stage_over lim p code below) n m
  -- 13: a product with an exponent above the limit is refused before anything else is done with it
  pub tree_13 : (S : Stage) (lift : LiftTerm) (others : ℕ) (t : Term) (s : Sum) → ¬ (Fits S.reduction.limits.exponent t.1.0)
      → (lift_product S lift others t s ≡ refused 13 0 []) × (lift_vector_product S lift t s ≡ refused 13 0 [])
  -- 14: "a 4,097th in the unfinished subtrees together": a subtree's first term finds no place ..
  pub open_14 : (S : Stage) (room left others : ℕ) (cache : Cache) (m : Monomial) {j c : ℕ} {q : Exponents}
      → answer S.reduction.p S.reduction.heads (1, m) ≡ reducer j c q → cached m cache ≡ none → S.reduction.limits.tree ≤ others
      → lift_term S room left others cache m ≡ refused 14 0 []
  -- .. or a sum that has grown, with all that counts beside it, ends behind the top; exactly then
  pub grow_14 : (order : Monomial → Monomial → Comparison) (p top others : ℕ) (t : Term) (total : Vector)
      → ((grow order p top others t total ≡ refused 14 0 []) × (top < others + length (insert order p t total)))
      ⊎ ((grow order p top others t total ≡ done (insert order p t total)) × (others + length (insert order p t total) ≤ top))
