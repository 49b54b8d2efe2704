-- What a table gives for a frame term.
use Rattle.std.specs.Prelude.{◌≡◌, Bool, true, false, ◌≢◌, List, [], ◌∷◌, ℕ, T}
use Rattle.std.proofs.Math.Option.{some}
use Rattle.definitions.specs.Limits.{Limits}
use Rattle.definitions.specs.Lists.{every, any, rest}
use Rattle.definitions.specs.Monomial.{Monomial, Vector, Level}
use Rattle.definitions.specs.Result.{Result, done, refused, unfinished, finished?}
use Rattle.definitions.specs.Stage.{Stage, stage_over}
use Rattle.definitions.specs.Run.{Strategy, run, hybrid_strategy, division_strategy, accepting_strategy}
use Rattle.definitions.specs.Lifting.{lift_all}
use Rattle.definitions.specs.Problem.{Parameters}
use Rattle.definitions.specs.Reckoning.{reckoned_vector}
use Rattle.laws.proofs.Members.{All}
use Rattle.demands.specs.Picks.{Picks, run_by}
use Rattle.sweeps.specs.Safe.{Safe}
use Rattle.sweeps.specs.Table.{few?}
use Rattle.sweeps.specs.Sweep.{zeros, swept, remainder, placed?, falling?, components, nodes_fit?}
use Rattle.sweeps.specs.Places.{Row, spread_at, places, settled?, RowsIn}

-- strategies for steps within a table: each picks inside the value, and drops what the table leaves out
abbrev pub AllServe : Bool → List Strategy → Type 0
AllServe d Ws = All (λ W. Picks W × (T d → T W.drops)) Ws

abbrev pub any_stops? : List Strategy → Bool
any_stops? Ws = any (λ (W : Strategy). W.stops) Ws

-- one vector, the reckoning's; no strategy that drops what the table leaves out is refused by a limit, and each that does not stop at 9 comes to it
pub record OneVector (lim : Limits) (q : Parameters) (below : List Level) (d : Bool) (m : Monomial) : Type 0 where
  pub vector : Vector
  pub bound : ℕ
  pub reckons : reckoned_vector bound q.p q.code below m ≡ some vector
  -- within any number of steps
  pub safe : (W : Strategy) → Picks W → (T d → T W.drops) → (n : ℕ)
      → Safe (W.stops ≡ true) (λ v. v ≡ vector) (run (stage_over lim q.p q.code below) W n m)
  -- .. each step with a strategy of its own, so that a pick may depend on all that went before
  pub safe_by : (W : Strategy) → (T d → T W.drops) → (Ws : List Strategy) → AllServe d Ws
      → Safe (any_stops? Ws ≡ true) (λ v. v ≡ vector) (run_by (stage_over lim q.p q.code below) W Ws m)
  -- within some number of steps
  pub ends : (W : Strategy) → Picks W → (T d → T W.drops) → W.stops ≡ false
      → (n : ℕ) × (run (stage_over lim q.p q.code below) W n m ≡ done vector)
  -- hybrid by any pick code
  pub by_hybrid : (code : ℕ) → (n : ℕ) × (run (stage_over lim q.p q.code below) (hybrid_strategy (stage_over lim q.p q.code below) code) n m
      ≡ done vector)
  -- division, where the table keeps what is of lower order
  pub by_division : d ≡ false → (n : ℕ) × (run (stage_over lim q.p q.code below) (division_strategy (stage_over lim q.p q.code below)) n m
      ≡ done vector)

-- ## With a certificate

-- acceptance of a frame term, where the nodes of lower order are kept: zero if the pass leaves nothing, else 9
abbrev pub Decides : Stage → List Monomial → Monomial → Result Vector → Type 0
Decides S N m (done v) = (v ≡ swept S N m) × (remainder S N m ≡ [])
Decides S N m (refused number place value) = (number ≡ 9) × (remainder S N m ≢ [])
Decides S N m unfinished = Unit {0}

-- the sweep's vector is the reckoning's and every run's
pub record Certified (lim : Limits) (q : Parameters) (below : List Level) (d : Bool) (N : List Monomial) (m : Monomial) : Type 0 where
  pub bound : ℕ
  pub reckons : reckoned_vector bound q.p q.code below m ≡ some (swept (stage_over lim q.p q.code below) N m)
  pub safe : (W : Strategy) → Picks W → (T d → T W.drops) → (n : ℕ)
      → Safe (W.stops ≡ true) (λ v. v ≡ swept (stage_over lim q.p q.code below) N m) (run (stage_over lim q.p q.code below) W n m)
  pub safe_by : (W : Strategy) → (T d → T W.drops) → (Ws : List Strategy) → AllServe d Ws
      → Safe (any_stops? Ws ≡ true) (λ v. v ≡ swept (stage_over lim q.p q.code below) N m) (run_by (stage_over lim q.p q.code below) W Ws m)
  pub ends : (W : Strategy) → Picks W → (T d → T W.drops) → W.stops ≡ false
      → (n : ℕ) × (run (stage_over lim q.p q.code below) W n m ≡ done (swept (stage_over lim q.p q.code below) N m))
  pub by_hybrid : (code : ℕ) → (n : ℕ) × (run (stage_over lim q.p q.code below) (hybrid_strategy (stage_over lim q.p q.code below) code) n m
      ≡ done (swept (stage_over lim q.p q.code below) N m))
  pub by_division : d ≡ false → (n : ℕ) × (run (stage_over lim q.p q.code below) (division_strategy (stage_over lim q.p q.code below)) n m
      ≡ done (swept (stage_over lim q.p q.code below) N m))
  pub decides : d ≡ false → (n : ℕ)
      → Decides (stage_over lim q.p q.code below) N m (run (stage_over lim q.p q.code below) (accepting_strategy (stage_over lim q.p q.code
      below)) n m)
  pub decided : (n : ℕ) × T (finished? (run (stage_over lim q.p q.code below) (accepting_strategy (stage_over lim q.p q.code below)) n m))

-- ## With a table

-- the nodes, greatest first, and their rows, for all frame terms of a batch
pub record Built (lim : Limits) (q : Parameters) (below : List Level) (d : Bool) (N : List Monomial) (rs : List Row) : Type 0 where
  pub few : T (few? (stage_over lim q.p q.code below) N)
  pub fit : T (nodes_fit? (stage_over lim q.p q.code below) N)
  pub placed : T (every (placed? q (components q (rest below))) N)
  -- tested when the table is made; all else is proved of the builder
  pub falling : T (falling? (stage_over lim q.p q.code below).below N)
  pub rows : RowsIn (stage_over lim q.p q.code below) d N N rs

-- .. in the order of their discovery
pub record Discovered (lim : Limits) (q : Parameters) (below : List Level) (d : Bool) (U : List Monomial) (rs : List Row) : Type 0 where
  pub few : T (few? (stage_over lim q.p q.code below) U)
  pub fit : T (nodes_fit? (stage_over lim q.p q.code below) U)
  pub placed : T (every (placed? q (components q (rest below))) U)
  pub rows : RowsIn (stage_over lim q.p q.code below) d U U rs

-- the pass for a frame term with these edges
abbrev pub passed_vector : ℕ → List Monomial → List Row → List (ℕ × ℕ) → Monomial → Vector
passed_vector p N rs es m = (1, m) ∷ places p 0 rs (spread_at 1 es (zeros N))

abbrev pub passed_settled? : ℕ → List Monomial → List Row → List (ℕ × ℕ) → Bool
passed_settled? p N rs es = settled? p 0 rs (spread_at 1 es (zeros N))

-- what acceptance says of the flag
abbrev pub Flagged : Vector → Bool → Result Vector → Type 0
Flagged v b (done w) = (w ≡ v) × (b ≡ true)
Flagged v b (refused number place value) = (number ≡ 9) × (b ≡ false)
Flagged v b unfinished = Unit {0}

pub record Passed (lim : Limits) (q : Parameters) (below : List Level) (d : Bool) (N : List Monomial) (rs : List Row) (es : List (ℕ
    × ℕ)) (m : Monomial) : Type 0 where
  pub bound : ℕ
  pub reckons : reckoned_vector bound q.p q.code below m ≡ some (passed_vector q.p N rs es m)
  -- each step by any strategy that drops what the table leaves out
  pub safe_by : (W : Strategy) → (T d → T W.drops) → (Ws : List Strategy) → AllServe d Ws
      → Safe (any_stops? Ws ≡ true) (λ v. v ≡ passed_vector q.p N rs es m) (run_by (stage_over lim q.p q.code below) W Ws m)
  -- any strategy that drops what the table leaves out and does not stop at 9
  pub ends : (W : Strategy) → Picks W → (T d → T W.drops) → W.stops ≡ false
      → (n : ℕ) × (run (stage_over lim q.p q.code below) W n m ≡ done (passed_vector q.p N rs es m))
  -- hybrid by any pick code
  pub by_hybrid : (code : ℕ) → (n : ℕ) × (run (stage_over lim q.p q.code below) (hybrid_strategy (stage_over lim q.p q.code below) code) n m
      ≡ done (passed_vector q.p N rs es m))
  -- division and acceptance, where the table keeps what is of lower order
  pub by_division : d ≡ false → (n : ℕ) × (run (stage_over lim q.p q.code below) (division_strategy (stage_over lim q.p q.code below)) n m
      ≡ done (passed_vector q.p N rs es m))
  pub accepts : d ≡ false → (n : ℕ) × T (finished? (run (stage_over lim q.p q.code below) (accepting_strategy (stage_over lim q.p q.code below)) n
      m))
      × Flagged (passed_vector q.p N rs es m) (passed_settled? q.p N rs es)
      (run (stage_over lim q.p q.code below) (accepting_strategy (stage_over lim q.p q.code below)) n m)

-- ## A level

-- the vectors vector m of the frame terms, in number order: 15 where one has no room
abbrev pub level_by : Stage → (Monomial → Vector) → List Monomial → Result Level
level_by S vector ms = lift_all S (λ cache m. done (vector m, cache)) ([], 0) [] ms
