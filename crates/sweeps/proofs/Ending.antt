-- Over the levels of a sound state: a frame term with a table has one vector, that of the reckoning, by every strategy.
use mathlib.Core.Path.{◌≡◌, refl, sym, ap, ◌∙◌, subst}
use mathlib.Core.Logic.{inl, inr}
use mathlib.Core.Bool.{Bool, true, false}
use mathlib.Core.Option.{some}
use mathlib.Core.List.{List, [], ◌∷◌}
use Prim.Native.Nat.{ℕ, zero, suc}
use lib.Dec.{T}
use lib.ListN.{length}
use Rattle.definitions.specs.Limits.{Limits}
use Rattle.definitions.specs.Monomial.{Monomial, Vector, Level, leading_monomials}
use Rattle.definitions.specs.Frame.{frame}
use Rattle.definitions.specs.Result.{Result, done, refused, unfinished, finished?}
use Rattle.definitions.specs.Stage.{Stage, stage_over}
use Rattle.definitions.specs.Run.{Strategy, run, hybrid_strategy, division_strategy, accepting_strategy}
use Rattle.definitions.specs.Problem.{Parameters}
use Rattle.definitions.specs.Reckoning.{reckoned_vector}
use Rattle.laws.proofs.Tests.{true_is}
use Rattle.laws.proofs.Members.{All}
use Rattle.laws.proofs.Induced.{Shaped}
use Rattle.laws.proofs.Frames.{frame_shaped, leading_monomials_eight}
use Rattle.ending.specs.Well.{DescendingLevels, Well}
use Rattle.ending.proofs.Soundness.{descending_well, levels_lead}
use Rattle.ending.proofs.Runs.{run_ends}
use Rattle.demands.specs.Notions.{Member}
use Rattle.demands.specs.Picks.{Picks, AllPick, run_by}
use Rattle.demands.proofs.Members.{any_shown}
use Rattle.demands.proofs.Results.{Gives, gives, refuses, open_yet, upto_one}
use Rattle.demands.proofs.Reckoned.{vector_more}
use Rattle.demands.proofs.Picking.{hybrid_picks, division_picks, accepting_picks}
use Rattle.demands.proofs.Ways.{copies, run_as}
use Rattle.sweeps.specs.Table.{table?}
use Rattle.sweeps.specs.Safe.{Safe}
use Rattle.sweeps.specs.Claims.{AllServe, any_stops?, OneVector}
use Rattle.sweeps.proofs.Footing.{Footing}
use Rattle.sweeps.proofs.Picked.{picks_reckon}
use Rattle.sweeps.proofs.Unrefused.{safe_map, Drops, Kind, Kinds, run_safe}

all_member : (P : Monomial → Type 0) (ms : List Monomial) → All P ms → (m : Monomial) → Member m ms → P m
all_member P [] h m i = absurd i
all_member P (x ∷ ms) h m (inl e) = subst P (sym e) h.0
all_member P (x ∷ ms) h m (inr i) = all_member P ms h.1 m i

-- a claim of the value joins that there is no refusal
safe_gives : (nine : Type 0) (P : Vector → Type 0) (x : Result Vector) → Safe nine (λ v. Unit {0}) x → Gives P x → Safe nine P x
safe_gives nine P x s (gives h) = h
safe_gives nine P x s (refuses r) = s
safe_gives nine P x s open_yet = tt

module _ (lim : Limits) (q : Parameters) (f : Level) (below : List Level)
    (s : Footing lim q (f ∷ below)) (m : Monomial) (i : Member m (frame (lim.numbering q.code) (leading_monomials f)))
    (d : Bool) (N : List Monomial) (K : T (table? (stage_over lim q.p q.code (f ∷ below)) d N m)) where
  abbrev S : Stage
  S = stage_over lim q.p q.code (f ∷ below)

  abbrev Reckons : Vector → Type 0
  Reckons v = (bound : ℕ) × (reckoned_vector bound q.p q.code (f ∷ below) m ≡ some v)

  one_vector : (v w : Vector) → Reckons v → Reckons w → v ≡ w
  one_vector v w a b =
      upto_one (λ N. reckoned_vector N q.p q.code (f ∷ below) m) (λ N. vector_more N q.p q.code (f ∷ below) m) a.0 b.0 v w a.1 b.1

  all_picks : (Ws : List Strategy) → AllServe d Ws → AllPick Ws
  all_picks [] k = tt
  all_picks (W ∷ Ws) k = (k.0.0, all_picks Ws k.1)

  all_kinds : (nine : Type 0) (Ws : List Strategy) → AllServe d Ws → ((W : Strategy) → Member W Ws → W.stops ≡ true → nine) → Kinds S d N m nine K Ws
  all_kinds nine [] k h = tt
  all_kinds nine (W ∷ Ws) k h = (record { picks = k.0.0; drops = k.0.1; stops = h W (inl refl) }, all_kinds nine Ws k.1 (λ U i. h U (inr i)))

  -- each step with its own strategy
  by_reckons : (W : Strategy) → Drops d W.drops → (Ws : List Strategy) → AllServe d Ws → Safe (any_stops? Ws ≡ true) Reckons (run_by S W Ws m)
  by_reckons W D Ws k =
      safe_gives (any_stops? Ws ≡ true) Reckons (run_by S W Ws m)
      (run_safe S d N m (any_stops? Ws ≡ true) K W D Ws (all_kinds (any_stops? Ws ≡ true) Ws k
      (λ U i e. true_is (any_stops? Ws) (any_shown (λ (X : Strategy). X.stops) Ws U i (subst T (sym e) tt)))))
      (picks_reckon lim q f below s W Ws m i (all_picks Ws k))

  all_pick : (W : Strategy) → Picks W → (n : ℕ) → AllPick (copies n W)
  all_pick W P zero = tt
  all_pick W P (suc n) = (P, all_pick W P n)

  all_kind : (W : Strategy) → Kind S d N m (W.stops ≡ true) K W → (n : ℕ) → Kinds S d N m (W.stops ≡ true) K (copies n W)
  all_kind W k zero = tt
  all_kind W k (suc n) = (k, all_kind W k n)

  run_reckons : (W : Strategy) → Picks W → Drops d W.drops → (n : ℕ) → Safe (W.stops ≡ true) Reckons (run S W n m)
  run_reckons W P D n =
      subst (Safe (W.stops ≡ true) Reckons) (sym (run_as S W n m)) (safe_gives (W.stops ≡ true) Reckons (run_by S W (copies n W) m)
      (run_safe S d N m (W.stops ≡ true) K W D (copies n W) (all_kind W (record { picks = P; drops = D; stops = λ e. e }) n))
      (picks_reckon lim q f below s W (copies n W) m i (all_pick W P n)))

  pub descend : DescendingLevels q.p q.code (f ∷ below)
  descend = s.descend

  pub well : Well S
  well = descending_well lim q.p q.code (f ∷ below) s.prime s.small descend

  eight : length m.0 ≡ 8
  eight =
      (all_member (Shaped 8) (frame (lim.numbering q.code) (leading_monomials f))
      (frame_shaped 8 (lim.numbering q.code) (leading_monomials f) (leading_monomials_eight f (levels_lead q.p q.code (f ∷ below) descend).0)) m i
      ).long

  -- some number of steps is enough
  record RunTo (W : Strategy) : Type 0 where
    steps : ℕ
    vector : Vector
    is : run S W steps m ≡ done vector
    reckons : Reckons vector

  run_to : (W : Strategy) → Picks W → Drops d W.drops → W.stops ≡ false → RunTo W
  run_to W P D e =
      let n = run_ends S well W P.inside m eight in
      go n.0 (run S W n.0 m) refl n.1 (run_reckons W P D n.0)
    where
      go : (n : ℕ) (x : Result Vector) → run S W n m ≡ x → T (finished? x) → Safe (W.stops ≡ true) Reckons x → RunTo W
      go n (done v) h t k = record { steps = n; vector = v; is = h; reckons = k }
      go n (refused number place value) h t k = absurd (subst T (sym k.0 ∙ e) tt)
      go n unfinished h t k = absurd t

  first : RunTo (hybrid_strategy S 2)
  first = run_to (hybrid_strategy S 2) (hybrid_picks S 2) (λ t. tt) refl

  comes_to : (W : Strategy) → Picks W → Drops d W.drops → W.stops ≡ false → (n : ℕ) × (run S W n m ≡ done first.vector)
  comes_to W P D e = let r = run_to W P D e in (r.steps, r.is ∙ ap done (one_vector r.vector first.vector r.reckons first.reckons))

  is_first : (v : Vector) → Reckons v → v ≡ first.vector
  is_first v h = one_vector v first.vector h first.reckons

  safe_to : (W : Strategy) → Picks W → Drops d W.drops → (n : ℕ) → Safe (W.stops ≡ true) (λ v. v ≡ first.vector) (run S W n m)
  safe_to W P D n = safe_map (W.stops ≡ true) Reckons (λ v. v ≡ first.vector) is_first (run S W n m) (run_reckons W P D n)

  safe_by : (W : Strategy) → Drops d W.drops → (Ws : List Strategy) → AllServe d Ws
      → Safe (any_stops? Ws ≡ true) (λ v. v ≡ first.vector) (run_by S W Ws m)
  safe_by W D Ws k = safe_map (any_stops? Ws ≡ true) Reckons (λ v. v ≡ first.vector) is_first (run_by S W Ws m) (by_reckons W D Ws k)

  pub accepting_ends : (n : ℕ) × T (finished? (run S (accepting_strategy S) n m))
  accepting_ends = run_ends S well (accepting_strategy S) (accepting_picks S).inside m eight

  -- within a closed table no limit refuses a run, and each that does not stop at 9 comes to the reckoning's vector
  pub within_table : OneVector lim q (f ∷ below) d m
  within_table = record {
    vector = first.vector;
    bound = first.reckons.0;
    reckons = first.reckons.1;
    safe = safe_to;
    safe_by = safe_by;
    ends = comes_to;
    by_hybrid = λ code. comes_to (hybrid_strategy S code) (hybrid_picks S code) (λ t. tt) refl;
    by_division = λ e. comes_to (division_strategy S) (division_picks S) (λ t. subst T e t) refl;
  }
