-- A table that serves, used: what a pass asks for, and that its vector is the run's.
use mathlib.Core.Path.{◌≡◌, sym, ap, ◌∙◌, subst}
use mathlib.Core.Logic.{inl, inr}
use mathlib.Core.Bool.{Bool, true}
use mathlib.Core.List.{◌∷◌}
use Prim.Native.Nat.{ℕ, suc, ◌-◌, ◌<◌, ◌≤◌}
use native.Mathlib.Omega.{arith}
use lib.Dec.{T}
use Rattle.definitions.specs.Places.{most_exponent}
use Rattle.definitions.specs.Monomial.{Vector}
use Rattle.definitions.specs.Result.{done}
use Rattle.definitions.specs.Stage.{Stage, stage_over}
use Rattle.definitions.specs.Run.{by_code, run, accepting_strategy}
use Rattle.definitions.specs.Layout.{Words}
use Rattle.demands.specs.Picks.{Picks}
use Rattle.demands.proofs.Picking.{hybrid_picks}
use Rattle.runs.specs.run.Stages.{order_of, strategy_of}
use Rattle.runs.specs.declared.reduction.Ground.{Ground}
use Rattle.runs.specs.declared.run.Strategy.{Strategy}
use Rattle.sweeps.specs.Sizes.{eight_variables}
use Rattle.sweeps.specs.Sweep.{components}
use Rattle.sweeping.specs.Nodes.{ground_stage, frame_term, first_root, roots_end, Growing, Rooted}
use Rattle.sweeping.specs.Orders.{Arranged}
use Rattle.sweeping.specs.Passes.{Onward, Passable, Passes}
use Rattle.sweeping.specs.Served.{Served}
use Rattle.sweeping.specs.Serving.{Grounded, Serving, Allowed}
use Rattle.sweeping.proofs.Meaning

module _ (g : Ground) (level tables rows-framed : Words) (count : ℕ) (G : Grounded g level tables rows-framed count) (d : Bool) (i e n used : ℕ)
    (nodes spans words order : Words) (s : Serving g level tables rows-framed d i e n used nodes spans words order) where
  abbrev S : Stage
  S = ground_stage g level tables

  abbrev K : Stage
  K = stage_over G.lim G.q.p G.q.code (G.f ∷ G.below)

  same : S ≡ K
  same = G.stage

  bytes : G.lim.exponent ≡ most_exponent
  bytes = sym (ap (λ (z : Stage). z.reduction.limits.exponent) same)

  room : g.working ≡ G.lim.working
  room = ap (λ (z : Stage). z.reduction.limits.working) same

  longest : g.vector ≡ G.lim.vector
  longest = ap (λ (z : Stage). z.reduction.limits.vector) same

  prime : g.p ≡ G.q.p
  prime = ap (λ (z : Stage). z.reduction.p) same

  few : n ≤ G.lim.working
  few = omega (arith, s.few, room)

  short : suc n ≤ G.lim.vector
  short = omega (arith, s.short, longest)

  grown : Growing K d (components (eight_variables G.q) G.below) n n used nodes spans s.found
  grown =
      subst (λ c. Growing K d c n n used nodes spans s.found) G.ranged
      (subst (λ z. Growing z d (g.components - 1) n n used nodes spans s.found) same s.gathered.grown)

  arranged : Arranged K.below n used nodes s.found order words
  arranged = subst (λ (z : Stage). Arranged z.below n used nodes s.found order words) same s.arranged

  pub serving_passable : Passable n spans words order
  serving_passable =
      Meaning.passable G.lim G.q G.f G.below G.footing bytes d n used few short nodes spans s.found order words grown arranged s.order_there s.edges_there

  module _ (v : ℕ) (low : i ≤ v) (high : v < e) (there : v < count) where
    rooted : Rooted K d n used nodes spans s.found (frame_term rows-framed v) v
    rooted = subst (λ z. Rooted z d n used nodes spans s.found (frame_term rows-framed v) v) same (s.gathered.rooted v low high)

    pub serving_roots : Onward 0 n (first_root spans v) (roots_end spans v) words
    serving_roots =
        Meaning.roots_leading G.lim G.q G.f G.below G.footing bytes d n used few short nodes spans s.found order words grown arranged s.order_there v
        (frame_term rows-framed v) (G.members v there) rooted s.edges_there

    serving : (vector : Vector) (settled : Bool) → Passes g.p n nodes spans words order v (frame_term rows-framed v) vector settled
        → Served S d (frame_term rows-framed v) vector settled
    serving vector settled p =
        subst (λ z. Served z d (frame_term rows-framed v) vector settled) (sym same)
        (Meaning.served G.lim G.q G.f G.below G.footing bytes d n used few short nodes spans s.found order words grown arranged s.order_there v
        (frame_term rows-framed v) (G.members v there) rooted vector settled
        (subst (λ z. Passes z n nodes spans words order v (frame_term rows-framed v) vector settled) prime p))

    -- whatever is picked
    picks : (w : Strategy) → Picks (strategy_of g tables w)
    picks w = let k = hybrid_picks S w.pick in record { inside = k.inside; to_zero = k.to_zero }

    -- the run comes to the pass's vector
    pub serving_run : (w : Strategy) → Allowed w → d ≡ w.drops → (vector : Vector) (settled : Bool)
        → Passes g.p n nodes spans words order v (frame_term rows-framed v) vector settled → (w.stops ≡ true → settled ≡ true)
        → (k : ℕ) × (done vector ≡ run S (strategy_of g tables w) k (frame_term rows-framed v))
    serving_run w (inl l) c vector settled p h =
        let r = (serving vector settled p).lifts (strategy_of g tables w) (picks w) (λ t. subst T c t) l in
        (r.0, sym r.1)
    serving_run w (inr (stops, drops, pick)) c vector settled p h =
        let r = (serving vector settled p).accepts (c ∙ drops) (h stops) in
        let e : accepting_strategy S ≡ strategy_of g tables w =
        λ k. record { drops = sym drops k; pick = by_code (order_of g tables) (sym pick k); stops = sym stops k } in
        (r.0, sym r.1 ∙ ap (λ W. run S W r.0 (frame_term rows-framed v)) e)
