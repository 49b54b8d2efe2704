-- A frame term with a certificate: the sweep gives what every run gives, and decides acceptance.
use mathlib.Core.Path.{◌≡◌, refl, ap, ◌∙◌, subst, subst₂}
use mathlib.Core.Logic.{◌≢◌}
use mathlib.Core.Bool.{Bool, true, false}
use mathlib.Core.Option.{some}
use mathlib.Core.List.{List, [], ◌∷◌}
use Prim.Native.Nat.{ℕ, ◌<◌, ◌≤◌}
use native.Mathlib.Omega.{arith}
use lib.Dec.{T}
use lib.ListN.{length}
use Rattle.definitions.specs.Limits.{Limits}
use Rattle.definitions.specs.Lists.{◌and◌, rest}
use Rattle.definitions.specs.Monomial
use Rattle.definitions.specs.Monomial.{Monomial, Vector, leading_monomials}
use Rattle.definitions.specs.Frame.{frame}
use Rattle.definitions.specs.Result.{Result, done}
use Rattle.definitions.specs.Stage.{Stage, highest, stage_over}
use Rattle.definitions.specs.Run.{Strategy, run, hybrid_strategy, division_strategy, accepting_strategy}
use Rattle.definitions.specs.Problem.{Parameters}
use Rattle.definitions.specs.Reckoning.{reckoned_vector}
use Rattle.laws.proofs.Modular.{Prime}
use Rattle.laws.proofs.Tests.{and_right, between_low}
use Rattle.ending.proofs.Soundness.{descending_well}
use Rattle.demands.specs.Notions.{Member}
use Rattle.demands.specs.Picks.{Picks, run_by}
use Rattle.demands.proofs.Results.{Ends, gives, refuses, open_yet, ends_turn, Refusal, limit, nine, refusal_map, upto_one}
use Rattle.demands.proofs.Levels.{TLevel, mono, monos, flat, flats, lm}
use Rattle.demands.proofs.Reckoned.{vector_more}
use Rattle.demands.proofs.Picking.{accepting_picks}
use Rattle.demands.proofs.Bases.{here}
use Rattle.demands.proofs.Setting.{Setting}
use Rattle.demands.proofs.Soundness.{tlevel, tlevels, components, Deep, Within, AllSound, leading_within, LevelsRight}
use Rattle.demands.proofs.Steps.{Fits}
use Rattle.demands.proofs.Lifted.{term_fits}
use Rattle.sweeps.specs.Table.{few?, table?}
use Rattle.sweeps.specs.Safe.{Safe}
use Rattle.sweeps.specs.Sweep.{swept, remainder, nodes_fit?, sweeps?, certified?}
use Rattle.sweeps.specs.Claims.{AllServe, any_stops?, OneVector, Decides, Certified}
use Rattle.sweeps.proofs.Footing.{Footing}
use Rattle.sweeps.proofs.Unrefused.{safe_map}
use Rattle.sweeps.proofs.Ending.{within_table, accepting_ends}
use Rattle.sweeps.proofs.Vectors.{remainder_empty}
use Rattle.sweeps.proofs.Nodes.{TableRight, table_right, sweep_reckons}
use Rattle.sweeps.proofs.Forward.{certified_table}
use Rattle.sweeps.proofs.Dividing.{Zero, division_decides}

-- ## Acceptance

-- what acceptance says of what is left
abbrev LeftDecides : Stage → List Monomial → Monomial → Result Vector → Type 0
LeftDecides S N m x = Ends (λ v. remainder S N m ≡ []) (Refusal (λ value. remainder S N m ≢ [])) x

module _ (lim : Limits) (q : Parameters) (P : Prime q.p) (eight : q.n ≤ 8) (f : TLevel q.n) (b : List (TLevel q.n))
    (D : Deep q.n q.p P q.code (f ∷ b)) (count : ℕ) (w : AllSound lim q.n q.p P count f) where
  abbrev S : Stage
  S = stage_over lim q.p q.code (flats q.n (f ∷ b))

  left_decides : (N : List Monomial) (m : Monomial) → Member m (frame (lim.numbering q.code) (leading_monomials (flat q.n f)))
      → T (sweeps? q (flats q.n b) S false N m) → (n : ℕ) → LeftDecides S N m (run S (accepting_strategy S) n m)
  left_decides N m i t n =
      subst₂ (λ y z. LeftDecides S y z (run S (accepting_strategy S) n z)) r.xs_are r.x_is
      (ends_turn (λ v z. e.0 z) (refusal_map (λ value k z. k (e.1 z))) (division_decides Z' lim r.x r.real.0 fits_x n))
    where
      r : TableRight lim q P eight f b D false N m
      r = table_right lim q P eight f b D false N m i t

      Z' : Setting
      Z' = here q P eight f b D

      fits : (j : ℕ) → j < length f → Within lim q.n (lm q.n f j)
      fits = leading_within lim q.n q.p P count f Z'.somes w

      fits_x : Fits Z' lim r.x
      fits_x = term_fits Z' lim eight fits r.x r.member

      Zero' : Type 0
      Zero' = Zero Z' lim r.x r.real.0 fits_x

      e : (Zero' → remainder S (monos q.n r.xs) (mono q.n r.x) ≡ []) × (remainder S (monos q.n r.xs) (mono q.n r.x) ≡ [] → Zero')
      e = remainder_empty Z' lim false r.xs r.falls r.forward r.x r.real r.begins refl

-- ## Over sound levels

module _ (lim : Limits) (q : Parameters) (f : Monomial.Level) (below : List Monomial.Level)
    (s : Footing lim q (f ∷ below)) (m : Monomial) (i : Member m (frame (lim.numbering q.code) (leading_monomials f)))
  where
    abbrev K : Stage
    K = stage_over lim q.p q.code (f ∷ below)

    left_decides_sound : (N : List Monomial) → T (sweeps? q below K false N m) → (n : ℕ) → LeftDecides K N m (run K (accepting_strategy K) n m)
    left_decides_sound N =
        subst (λ ls. Member m (frame (lim.numbering q.code) (leading_monomials (highest ls)))
        → T (sweeps? q (rest ls) (stage_over lim q.p q.code ls) false N m) → (n : ℕ)
        → LeftDecides (stage_over lim q.p q.code ls) N m (run (stage_over lim q.p q.code ls) (accepting_strategy (stage_over lim q.p q.code
        ls)) n m))
        r.back (left_decides lim q P eight (tlevel q.n f) (tlevels q.n below) r.deep (components lim q P eight (f ∷ below)) r.fits N m) i
      where
        P : Prime q.p
        P = s.prime

        eight : q.n ≤ 8
        eight = s.eight

        r : LevelsRight lim q P eight (f ∷ below)
        r = s.right

    module _ (d : Bool) (N : List Monomial) (c : T (certified? q below K d N m)) where
      table : T (table? K d N m)
      table =
          certified_table K (descending_well lim q.p q.code (f ∷ below) s.prime s.small s.descend) d
          q below N m c

      tested : T (sweeps? q below K d N m)
      tested = and_right (nodes_fit? K N) (sweeps? q below K d N m) (and_right (few? K N) (nodes_fit? K N and sweeps? q below K d N m) c)

      one : OneVector lim q (f ∷ below) d m
      one = within_table lim q f below s m i d N table

      reckons : (bound : ℕ) × (reckoned_vector bound q.p q.code (f ∷ below) m ≡ some (swept K N m))
      reckons = sweep_reckons lim q f below s m i d N tested

      same : one.vector ≡ swept K N m
      same =
          upto_one (λ n. reckoned_vector n q.p q.code (f ∷ below) m) (λ n. vector_more n q.p q.code (f ∷ below) m) one.bound reckons.0
          one.vector (swept K N m) one.reckons reckons.1

      comes : (W : Strategy) → (n : ℕ) × (run K W n m ≡ done one.vector) → (n : ℕ) × (run K W n m ≡ done (swept K N m))
      comes W (n, e) = (n, e ∙ ap done same)

      safe : (W : Strategy) → Picks W → (T d → T W.drops) → (n : ℕ) → Safe (W.stops ≡ true) (λ v. v ≡ swept K N m) (run K W n m)
      safe W k h n =
          safe_map (W.stops ≡ true) (λ v. v ≡ one.vector) (λ v. v ≡ swept K N m) (λ v e. e ∙ same) (run K W n m) (one.safe W k h n)

      safe_by : (W : Strategy) → (T d → T W.drops) → (Ws : List Strategy) → AllServe d Ws
          → Safe (any_stops? Ws ≡ true) (λ v. v ≡ swept K N m) (run_by K W Ws m)
      safe_by W h Ws k =
          safe_map (any_stops? Ws ≡ true) (λ v. v ≡ one.vector) (λ v. v ≡ swept K N m) (λ v e. e ∙ same) (run_by K W Ws m) (one.safe_by W h Ws k)

      -- 9 is no limit's number
      decided_by : (x : Result Vector) → Safe (true ≡ true) (λ v. v ≡ swept K N m) x → LeftDecides K N m x → Decides K N m x
      decided_by x a (gives e) = (a, e)
      decided_by x a (refuses (limit {number} t)) =
          let l : 13 ≤ number = between_low 13 number 15 t in let k : number ≡ 9 = a.1 in absurd (omega arith)
      decided_by x a (refuses (nine n)) = (refl, n)
      decided_by x a open_yet = tt

      decides : d ≡ false → (n : ℕ) → Decides K N m (run K (accepting_strategy K) n m)
      decides e n =
          decided_by (run K (accepting_strategy K) n m) (safe (accepting_strategy K) (accepting_picks K) (λ t. absurd (subst T e t)) n)
          (left_decides_sound N (subst (λ b. T (sweeps? q below K b N m)) e tested) n)

      -- a frame term with a certificate: no limit refuses a run, each that does not stop at 9 comes to the sweep's vector, the reckoning's; acceptance stops at
      -- 9 exactly where the sweep leaves something
      pub certified : Certified lim q (f ∷ below) d N m
      certified = record {
        bound = reckons.0;
        reckons = reckons.1;
        safe = safe;
        safe_by = safe_by;
        ends = λ W k h e. comes W (one.ends W k h e);
        by_hybrid = λ code. comes (hybrid_strategy K code) (one.by_hybrid code);
        by_division = λ e. comes (division_strategy K) (one.by_division e);
        decides = decides;
        decided = accepting_ends lim q f below s m i d N table;
      }
