-- One frame term by a pass or by its run, and what it gives kept beside the vectors before it.
use mathlib.Core.Path.{◌≡◌, refl, sym, ap, ◌∙◌, subst}
use mathlib.Core.Bool.{Bool, true, false}
use mathlib.Core.List.{[]}
use Prim.Native.Nat.{ℕ, ◌+◌, ◌*◌, ◌<◌, ◌≤◌}
use native.Mathlib.Omega.{arith}
use lib.Dec.{T}
use Rattle.std.specs.Prelude.{Result, Ok, Err}
use Rattle.words.specs.declared.refusals.Refusal.{Refusal}
use Rattle.words.specs.declared.refusals.Refusal.TheVariants.{Level}
use lib.ListN.{length, set}
use lib.Seq.{paste}
use Rattle.definitions.specs.Monomial.{Monomial}
use Rattle.definitions.specs.Result.{done, refusal, ◌>>=◌}
use Rattle.definitions.specs.Stage.{Stage}
use Rattle.definitions.specs.Run as definition
use Rattle.definitions.specs.Run.{run}
use Rattle.definitions.specs.Lifting.{Lifted, with_vector}
use Rattle.definitions.specs.Layout.{Words, rows}
use Rattle.definitions.specs.Places.{most_vectors, row_length, ends_length, most_nodes}
use Rattle.laws.proofs.Rows.{length_rows}
use Rattle.runs.specs.run.Stages.{order_of, strategy_of, Rooms, outcome_of, Ended}
use Rattle.runs.specs.frame_terms.Vectors.{lifted_vectors, Kept, lifted_one, one_of, After}
use Rattle.runs.specs.declared.reduction.Ground.{Ground}
use Rattle.runs.specs.declared.run.Strategy.{Strategy}
use Rattle.runs.specs.declared.run.Outcome.{Outcome}
use Rattle.runs.specs.declared.run.Outcome.TheVariants.{Finished, Stopped}
use Rattle.runs.specs.declared.frame_terms.One.TheVariants.{Used, Stopped as OneStopped}
use Rattle.runs.specs.declared.frame_terms.Lifted.TheVariants.{Rows}
use Rattle.runs.proofs.frame_terms.LoopsOverFrame.{Going, going_start, going_end}
use Rattle.runs.proofs.frame_terms.OneVectorMore.{none_kept, vectors_grown, kept_grown, with_room, without_room}
use Rattle.sweeping.specs.Nodes.{ground_stage, frame_term}
use Rattle.sweeping.specs.Passes.{Passes}
use Rattle.sweeping.specs.Serving.{Grounded, Allowed}
use Rattle.sweeping.specs.Sweeps.{Batched, Ready, PassedBy, kept_one}
use Rattle.sweeping.specs.Gone.{LiftedAs, LiftedTo, GoneAs}
use Rattle.sweeping.specs.declared.lifting.Gone.{Gone}
use Rattle.sweeping.specs.declared.lifting.Gone.TheVariants.{At, Stopped as GoneStopped}
use Rattle.sweeping.specs.Orders.{Arranged}
use Rattle.sweeping.specs.Growth.{most_edges}
use Rattle.sweeping.specs.Reaches.{ServingNodes, TakenAs}
use Rattle.sweeping.specs.declared.making.Batch.{Batch}
use Rattle.sweeping.specs.declared.making.Taken.{Taken}
use Rattle.sweeping.proofs.Serving.{serving_passable, serving_roots, serving_run}

module _ (g : Ground) (level tables frame : Words) (count : ℕ) (G : Grounded g level tables frame count) (w : Strategy) (b : Batch) (v : ℕ)
    (nodes spans words order : Words) (B : Batched g level tables frame w.drops count v b nodes spans words order) (inside : v < b.to) (there : v < count)
  where
    pub ready_for : (value vector : Words) → Rooms g value vector → b.serves ≡ true → Ready b v nodes spans words order vector
    ready_for value vector r e =
        let s = B.serves e in
        let low : v ≤ v = omega arith in
        record {
          passable = serving_passable g level tables frame count G w.drops v b.to b.nodes b.edges nodes spans words order s;
          roots = serving_roots g level tables frame count G w.drops v b.to b.nodes b.edges nodes spans words order s v low inside there;
          most = s.most;
          order_there = s.order_there;
          nodes_there = s.nodes_there;
          vector_there = omega (arith, s.short, r.vector_fits);
        }

    -- the run comes to the vector of the pass
    pub one_passed : Allowed w → (m : Monomial) → m ≡ frame_term frame v → (r : ℕ) (vector : Words) → PassedBy g.p b nodes spans words order v m r vector
        → ((k : ℕ) × (outcome_of (Ok (Finished r)) vector ≡ run (ground_stage g level tables) (strategy_of g tables w) k (frame_term frame v)))
        × Ended g (Ok (Finished r))
    one_passed a m e r vector p =
        let s = B.serves p.serves in
        let low : v ≤ v = omega arith in (
          serving_run g level tables frame count G w.drops v b.to b.nodes b.edges nodes spans words order s v low inside there w a refl (rows vector
              0 r) true
              (subst (λ z. Passes g.p b.nodes nodes spans words order v z (rows vector 0 r) true) e p.passes) (λ h. refl),
          omega (arith, p.few, s.short),
        )

-- ## Kept

module _ (g : Ground) (S : Stage) (room : S.reduction.limits.level_terms ≡ g.room) (out vector : Words) (i used : ℕ) where
  abbrev l : Lifted
  l = (lifted_vectors out i, used)

  -- there is no room
  pub keep_full : (v : ℕ) → g.room < used + v → (x : Outcome) → x ≡ Finished v → one_of (Err Level) i out vector ≡ kept_one S l (Ok x) vector
  keep_full v h x e =
      without_room S l (rows vector 0 v) v (length_rows vector 0 v) (omega (arith, h, room)) ∙ ap (λ y. kept_one S l (Ok y) vector) (sym e)

  pub keep_grown : (v : ℕ) → used + v ≤ g.room → i < most_vectors → (used + v) * row_length + ends_length ≤ length out → v * row_length ≤ length vector
      → Kept i used out
      → (out' : Words) → out' ≡ set (paste out (used * row_length + ends_length) vector (v * row_length)) i (used + v) → (x : Outcome) → x ≡ Finished v
      → one_of (Ok (Used (used + v))) i out' vector ≡ kept_one S l (Ok x) vector
  keep_grown v h few there has kept out' z x e =
      ap (λ o. done (lifted_vectors o (i + 1), used + v)) z ∙ ap (λ f. done (f, used + v)) (vectors_grown out vector i used v few there has kept)
      ∙ with_room S l (rows vector 0 v) v (length_rows vector 0 v) (omega (arith, h, room)) ∙ ap (λ y. kept_one S l (Ok y) vector) (sym e)

  pub keep_stopped : (n : ℕ) (x : Outcome) → x ≡ Stopped n → one_of (Ok (OneStopped n)) i out vector ≡ kept_one S l (Ok x) vector
  keep_stopped n x e = ap (λ y. kept_one S l (Ok y) vector) (sym e)

pub after_grown : (g : Ground) (out vector : Words) (i used v : ℕ) → used + v ≤ g.room → i < most_vectors → (used + v) * row_length + ends_length ≤ length out
    → v * row_length ≤ length vector → Kept i used out → (out' : Words)
    → out' ≡ set (paste out (used * row_length + ends_length) vector (v * row_length)) i (used + v) → After g i (Ok (Used (used + v))) out'
after_grown g out vector i used v h few there has kept out' z = (h, subst (Kept (i + 1) (used + v)) (sym z) (kept_grown out vector i used v few there has kept))

-- an outcome that is the run's gives, beside the vectors before it, what the definitions give
pub kept_run : (S : Stage) (W : definition.Strategy) (k : ℕ) (l : Lifted) (m : Monomial) (x : Result Outcome Refusal) (vector : Words) → outcome_of x vector ≡ run S W k m
    → kept_one S l x vector ≡ lifted_one S W k l m
kept_run S W k l m x vector e = ap (λ y. y >>= λ v. with_vector S l (v, [])) e

-- ## Batches

pub batched_none : (g : Ground) (level tables frame : Words) (d : Bool) (count i : ℕ) (b : Batch) (nodes spans words order : Words) → b.to ≡ 0 → b.serves
    ≡ false
    → Batched g level tables frame d count i b nodes spans words order
batched_none g level tables frame d count i b nodes spans words order z n = record {
  high = omega (arith, z);
  serves = λ e. absurd (subst T (sym e ∙ n) tt);
}

pub batched_next : (g : Ground) (level tables frame : Words) (d : Bool) (count i : ℕ) (b : Batch) (nodes spans words order : Words) → i < b.to
    → Batched g level tables frame d count i b nodes spans words order → Batched g level tables frame d count (i + 1) b nodes spans words order
batched_next g level tables frame d count i b nodes spans words order h B = record {
  high = B.high;
  serves = λ e.
      let s = B.serves e in
      record {
        found = s.found;
        gathered = record { grown = s.gathered.grown; rooted = λ v l u. s.gathered.rooted v (omega (arith, l)) u };
        arranged = s.arranged;
        most = s.most;
        few = s.few;
        short = s.short;
        edges_there = s.edges_there;
        order_there = s.order_there;
        nodes_there = s.nodes_there;
      };
}

-- ## A batch made

pub batched_alone : (g : Ground) (level tables frame : Words) (d : Bool) (count i : ℕ) (b : Batch) (nodes spans words order : Words) → i < count → b.to ≡ i + 1
    → b.serves ≡ false → Batched g level tables frame d count i b nodes spans words order
batched_alone g level tables frame d count i b nodes spans words order h z n = record {
  high = omega (arith, h, z);
  serves = λ e. absurd (subst T (sym e ∙ n) tt);
}

pub batched_made : (g : Ground) (level tables frame : Words) (d : Bool) (count size most i : ℕ) (t : Taken) (nodes spans found words order : Words)
    → size ≤ most_nodes → ServingNodes g size most
    → TakenAs g level tables frame d count most i t nodes spans found → most * 2 * row_length ≤ length nodes → most_edges most * 2 ≤ length words
    → most ≤ length order
    → (r : Bool) → (r ≡ true → Arranged (order_of g tables) t.nodes t.edges nodes found order words)
    → Batched g level tables frame d count i (record { to = t.to; nodes = t.nodes; edges = t.edges; serves = r }) nodes spans words order
batched_made g level tables frame d count size most i t nodes spans found words order s m k a b c r h = record {
  high = k.high;
  serves = λ e. record {
    found = found;
    gathered = k.gathered;
    arranged = h e;
    most = omega (arith, k.few_nodes, m.most_few, s);
    few = omega (arith, k.few_nodes, m.few);
    short = omega (arith, k.few_nodes, m.short);
    edges_there = omega (arith, k.few_edges, b);
    order_there = omega (arith, k.few_nodes, c);
    nodes_there = omega (arith, k.few_nodes, a);
  };
}

-- ## How far the frame terms are lifted

module _ (g : Ground) (S : Stage) (W : definition.Strategy) (frame : Words) (count : ℕ) where
  -- nothing is lifted yet
  pub gone_none : (out : Words) → Going S W frame count (lifted_vectors out 0, 0) 0
  gone_none out = going_start S W frame count

  -- all frame terms are
  pub gone_whole : (i used : ℕ) (out vector : Words) → LiftedTo g S W frame count false i used out → LiftedAs g S W frame count (Ok (Rows used)) out vector
  gone_whole i used out vector r =
      let e : i ≡ count = omega (arith, r.inside, r.all refl) in
      let z = going_end S W frame count (lifted_vectors out i, used) i r.going (r.all refl) in
      ((z.0, ap (λ n. done (lifted_vectors out n)) (sym e) ∙ z.1), (r.room, subst (λ n. Kept n used out) e r.kept))

  -- there is none
  pub gone_empty : count ≡ 0 → (out vector : Words) → LiftedAs g S W frame count (Ok (Rows 0)) out vector
  gone_empty e out vector =
      let z = going_end S W frame count (lifted_vectors out 0, 0) 0 (gone_none out) (omega (arith, e)) in
      ((z.0, ap (λ n. done (lifted_vectors out n)) e ∙ z.1), (omega arith, subst (λ n. Kept n 0 out) (sym e) (none_kept out)))

  -- what holds whether leaving is allowed or not holds where it is allowed
  pub gone_allowed : (leaves : Bool) (x : Result Gone Refusal) (out vector : Words) → GoneAs g S W frame count leaves x out vector
      → GoneAs g S W frame count true x out vector
  gone_allowed leaves (Ok (At i used)) out vector r = record {
    going = r.going;
    inside = r.inside;
    room = r.room;
    kept = r.kept;
    all = λ e. absurd (subst T e tt);
  }
  gone_allowed leaves (Err refusal) out vector r = r
  gone_allowed leaves (Ok (GoneStopped n)) out vector r = r
