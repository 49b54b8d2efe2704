-- Division, hybrid with any pick code, and the tree with any cache: a level lifted by any way holds the theory's vectors of the frame terms.
use mathlib.Core.Path.{◌≡◌, refl, sym, ap, ◌∙◌, subst}
use mathlib.Core.Bool.{Bool, true, false}
use mathlib.Core.List.{List, [], ◌∷◌, ◌++◌, append_assoc, append-nil}
use Prim.Native.Nat.{ℕ, zero, suc, ◌+◌, ◌<◌, ◌≤◌}
use native.Mathlib.Omega.{arith}
use lib.Dec.{T, leb, leb→le}
use lib.ListN.{length}
use Rattle.theory.specs.Vec.{All, times}
use Rattle.theory.specs.Reckon.{reckon}
use Rattle.theory.proofs.Vec
use Rattle.theory.proofs.Canon.{canonical_is}
use Rattle.theory.proofs.Runs.{run_reckons}
use Rattle.definitions.specs.Limits.{Limits, with_working}
use Rattle.definitions.specs.Monomial
use Rattle.definitions.specs.Monomial.{Monomial, Vector}
use Rattle.definitions.specs.Result.{Result, done, refused, unfinished, ◌>>=◌}
use Rattle.definitions.specs.Stage
use Rattle.definitions.specs.Run
use Rattle.definitions.specs.Run.{Strategy, step, start, continued, runs, run, hybrid_strategy, division_strategy}
use Rattle.definitions.specs.Tree
use Rattle.definitions.specs.Tree.{Cache}
use Rattle.definitions.specs.Lifting.{Lifting, by_division, by_hybrid, by_tree, lift_one, Lifted, add_vector, lift_all}
use Rattle.demands.specs.Picks.{Picks, runs_by, run_by}
use Rattle.demands.proofs.Results.{Gives, gives, refuses, ends_then, ends_map, ends_turn}
use Rattle.demands.proofs.Levels.{Mono, TLevel, mono, monos, vec, vec_length, flat, module_over}
use Rattle.demands.proofs.Setting.{Setting, S, L, F, red}
use Rattle.demands.proofs.Steps.{stage, Fits, InVector, Exact}
use Rattle.demands.proofs.Runs.{AllIn, Finished, run_ends}
use Rattle.demands.proofs.Picking.{hybrid_picks, division_picks}
use Rattle.demands.proofs.Reckoned.{vector}
use Rattle.demands.proofs.Trees.{CacheOk, Grown, tree_ok}

-- ## One strategy for each step

abbrev pub copies : ℕ → Strategy → List Strategy
copies zero W = []
copies (suc N) W = W ∷ copies N W

runs_as : (K : Stage.Stage) (W : Strategy) (N : ℕ) (r : Run.Run) → runs K W N r ≡ runs_by K (copies N W) r
runs_as K W zero r = refl
runs_as K W (suc N) r = go (step K W r) (runs_as K W N)
  where
    go : (s : Result Run.Step) → ((r' : Run.Run) → runs K W N r' ≡ runs_by K (copies N W) r')
        → continued K (λ r'. runs K W N r') s ≡ continued K (λ r'. runs_by K (copies N W) r') s
    go (done (Run.on r')) h = h r'
    go (done (Run.end v)) h = refl
    go (refused number place value) h = refl
    go unfinished h = refl

pub run_as : (K : Stage.Stage) (W : Strategy) (N : ℕ) (m : Monomial) → run K W N m ≡ run_by K W (copies N W) m
run_as K W N m = go (start K W m)
  where
    go : (s : Result Run.Run) → (s >>= λ r. runs K W N r) ≡ (s >>= λ r. runs_by K (copies N W) r)
    go (done r) = runs_as K W N r
    go (refused number place value) = refl
    go unfinished = refl

module _ (Z : Setting) (lim : Limits) where
  pub copies_in : (I : Strategy → Type 0) (exact : Type 0) (exactly : (W : Strategy) → I W → exact → Exact Z lim W) (W : Strategy) → Picks W → I W
      → (N : ℕ)
      → AllIn Z lim I exact exactly (copies N W)
  copies_in I exact exactly W K i zero = tt
  copies_in I exact exactly W K i (suc N) = (K, i, copies_in I exact exactly W K i N)

  -- ## One frame term

  -- nothing need be known of the strategies, and nothing is claimed of what they drop
  abbrev pub Free : Strategy → Type 0
  Free W = Unit {0}

  pub never : (W : Strategy) → Free W → ⊥ → Exact Z lim W
  never W i x = absurd x

  pub record Lifts (x : Mono Z.n) (w : Vector) : Type 0 where
    pub is : w ≡ vec Z.n (vector Z x)
    pub ok : All (S Z) (InVector Z lim) (vector Z x)

  -- a run that comes to zero gives the vector, whatever its steps pick
  pub picks_lift : (W : Strategy) (Ws : List Strategy) → AllIn Z lim Free ⊥ never Ws → (x : Mono Z.n) → x.1 < length Z.f → Fits Z lim x
      → Gives (Lifts x) (run_by (stage Z lim) W Ws (mono Z.n x))
  picks_lift W Ws k x l fx = ends_turn lifts (λ number value r. tt) (run_ends Z lim Free ⊥ never W (λ e. absurd e) Ws k x l fx)
    where
      lifts : (w : Vector) → Finished Z lim Free ⊥ never ((1, x) ∷ []) (times (S Z) (L Z) (F Z).f x) w → Lifts x w
      lifts w h = record { is = h.is ∙ ap (vec Z.n) e; ok = subst (All (S Z) (InVector Z lim)) e h.ok }
        where
          e : h.form ≡ vector Z x
          e = canonical_is (S Z) (module_over Z.n Z.code (Z.f ∷ Z.b)) h.form (reckon (S Z) (L Z) (F Z) (red Z) x) h.canonical
              (Vec.same_trans (S Z) h.like (run_reckons (S Z) (L Z) (F Z) (red Z) x h.end h.run))

  run_lifts : (W : Strategy) → Picks W → (N : ℕ) (x : Mono Z.n) → x.1 < length Z.f → Fits Z lim x
      → Gives (Lifts x) (run (stage Z lim) W N (mono Z.n x))
  run_lifts W K N x l fx =
      subst (Gives (Lifts x)) (sym (run_as (stage Z lim) W N (mono Z.n x))) (picks_lift W (copies N W) (copies_in Free ⊥ never W K tt N) x l fx)

module _ (Z : Setting) (lim : Limits) where
  one_lifted : (way : Lifting) (N : ℕ) (cache : Cache) → CacheOk Z lim cache → (x : Mono Z.n) → x.1 < length Z.f → Fits Z lim x
      → Gives (Grown Z lim x) (lift_one (stage Z lim) way N cache (mono Z.n x))
  one_lifted by_division N cache k x l fx =
      ends_then (run_lifts Z lim (division_strategy (stage Z lim)) (division_picks (stage Z lim)) N x l fx)
      (λ v h. gives (record { is = h.is; ok = h.ok; cache = k }))
  one_lifted (by_hybrid pick w) N cache k x l fx =
      let own = with_working w lim in
      ends_then (run_lifts Z own (hybrid_strategy (stage Z own) pick) (hybrid_picks (stage Z own) pick) N x l fx)
      (λ v h. gives (record { is = h.is; ok = h.ok; cache = k }))
  one_lifted (by_tree room) N cache k x l fx = tree_ok Z lim room cache x l fx k

  -- ## All frame terms

  abbrev pub vectors : List (Mono Z.n) → TLevel Z.n
  vectors [] = []
  vectors (x ∷ xs) = vector Z x ∷ vectors xs

  -- each within the limit
  abbrev pub AllOk : List (Mono Z.n) → Type 0
  AllOk [] = Unit {0}
  AllOk (x ∷ xs) = All (S Z) (InVector Z lim) (vector Z x) × AllOk xs

  -- how many terms
  abbrev pub total : List (Mono Z.n) → ℕ
  total [] = 0
  total (x ∷ xs) = length (vector Z x) + total xs

  pub record Level-lifted (l : Lifted) (xs : List (Mono Z.n)) (g : Monomial.Level) : Type 0 where
    pub is : g ≡ l.0 ++ flat Z.n (vectors xs)
    pub ok : AllOk xs
    pub few : l.1 ≤ lim.level_terms → l.1 + total xs ≤ lim.level_terms

  abbrev pub GoodTerms : List (Mono Z.n) → Type 0
  GoodTerms [] = Unit {0}
  GoodTerms (x ∷ xs) = (x.1 < length Z.f) × Fits Z lim x × GoodTerms xs

  pub all_lifted : (way : Lifting) (N : ℕ) (xs : List (Mono Z.n)) → GoodTerms xs → (l : Lifted) (cache : Cache) → CacheOk Z lim cache
      → Gives (Level-lifted l xs) (lift_all (stage Z lim) (lift_one (stage Z lim) way N) l cache (monos Z.n xs))
  all_lifted way N [] h l cache k = gives (record { is = sym (append-nil l.0); ok = tt; few = λ e. omega arith })
  all_lifted way N (x ∷ xs) h l cache k =
      ends_then (one_lifted way N cache k x h.0 h.1) (λ s g. added s g (leb (l.1 + length s.0) lim.level_terms)
      (leb→le (l.1 + length s.0) lim.level_terms)
      (λ l'. all_lifted way N xs h.2 l' s.1 g.cache))
    where
      added : (s : Tree.Sum) → Grown Z lim x s → (b : Bool) → (T b → l.1 + length s.0 ≤ lim.level_terms)
          → ((l' : Lifted) → Gives (Level-lifted l' xs) (lift_all (stage Z lim) (lift_one (stage Z lim) way N) l' s.1 (monos Z.n xs)))
          → Gives (Level-lifted l (x ∷ xs)) (add_vector b l s.0 >>= λ l'. lift_all (stage Z lim) (lift_one (stage Z lim) way N) l' s.1
          (monos Z.n xs))
      added s g false f ih = refuses tt
      added s g true f ih = ends_map (λ w r. record {
        is = r.is ∙ append_assoc l.0 (s.0 ∷ []) (flat Z.n (vectors xs)) ∙ ap (λ z. l.0 ++ z ∷ flat Z.n (vectors xs)) g.is;
        ok = (g.ok, r.ok);
        few = λ e. let m : (l.1 + length s.0) + total xs ≤ lim.level_terms = r.few (f tt) in
            omega (arith, ap length g.is, vec_length Z.n (vector Z x));
      }) (ih (l.0 ++ s.0 ∷ [], l.1 + length s.0))
