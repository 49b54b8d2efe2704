-- Request A11: lifting in less work space.
use mathlib.Core.Path.{◌≡◌, refl, sym, ap, ◌∙◌, subst}
use mathlib.Core.Logic.{inr}
use mathlib.Core.Option.{some}
use mathlib.Core.List.{List, [], ◌∷◌}
use Prim.Native.Nat.{ℕ, suc, ◌*◌, ◌/◌, ◌<◌, ◌≤◌, min}
use native.Mathlib.Omega.{arith}
use lib.Dec.{T, leb}
use lib.ListN.{length}
use Rattle.definitions.specs.Limits.{Limits, document_01, with_working}
use Rattle.definitions.specs.Lists.{◌and◌, every}
use Rattle.definitions.specs.Monomial.{Level}
use Rattle.definitions.specs.Problem.{Parameters, prime_in_range?, in_ranges?}
use Rattle.definitions.specs.State.{State, degrees_sound?, terms_of, vector_sound?, levels_sound?, sound?}
use Rattle.definitions.specs.Places.{row_length, least_terms}
use Rattle.definitions.specs.Layout.{Words, hybrid, Lift, lift_call}
use Rattle.demands.specs.Demands.{sensible?}
use Rattle.demands.proofs.Demand3.{demand_3}
use Rattle.narrow_lifts.specs.Rooms.{room, Lends, SameAnswer}
use Rattle.narrow_lifts.specs.Space.{SpaceRight}
use Rattle.narrow_lifts.proofs.Until.{until_done, until_refused}
use Rattle.narrow_lifts.proofs.Terms.{term_14}
use Rattle.narrow_lifts.proofs.Runs.{run_until}
use Rattle.narrow_lifts.proofs.Levels.{lift_until}
use Rattle.narrow_lifts.proofs.Calls.{called, sixteen}
use Rattle.narrow_lifts.proofs.Lists.{lists}

-- ## Soundness does not read the limit on a working value

levels_own : (lim : Limits) (w : ℕ) (q : Parameters) (ls : List Level) → levels_sound? (with_working w lim) q ls ≡ levels_sound? lim q ls
levels_own lim w q [] = refl
levels_own lim w q (f ∷ []) = refl
levels_own lim w q (f ∷ g ∷ below) =
    ap (λ b. b and leb (length f) lim.vectors and leb (terms_of f) lim.level_terms and
    every (vector_sound? lim q (length g) lim.vector (g ∷ below)) f)
    (levels_own lim w q (g ∷ below))

sound_own : (lim : Limits) (w : ℕ) (X : State) → sound? (with_working w lim) X ≡ sound? lim X
sound_own lim w X =
    let q = X.parameters in
    ap (λ b. prime_in_range? lim q.p and in_ranges? lim q and degrees_sound? q and leb (length X.levels) (suc lim.levels) and b)
    (levels_own lim w q X.levels)

module _ (lim : Limits) (o : T (sensible? lim)) (n k pick : ℕ) (state work work' cache cache' : Words) (a : Lift)
    (e : lift_call lim n k (hybrid pick) state work cache ≡ some a) where
  abbrev Again : Type 0
  Again = (b : Lift) × (lift_call lim n k (hybrid pick) state work' cache' ≡ some b) × SameAnswer a b

  finished : length work ≤ length work' → a.0 ≡ 0 → Again
  finished l z = called lim n k pick state work work' cache cache' a lends wider e (λ s. absurd (let i : 0 ≡ 14 = sym z ∙ s in omega arith))
    where
      wider : room lim work ≤ room lim work'
      wider = let d : length work / row_length ≤ length work' / row_length = omega (arith, l) in omega (arith, d)

      not_16 : length work / row_length < min least_terms lim.working → ⊥
      not_16 s = let i : ◌≡◌ {A = ℕ} 0 16 = sym z ∙ (sixteen lim n k pick state o work cache a e).1 (inr s) in omega arith

      lends : Lends lim work
      lends = omega (arith, not_16)

  used : lim.working * row_length ≤ length work → lim.working * row_length ≤ length work' → Again
  used l l' =
      let x : room lim work ≡ lim.working = omega (arith, l) in
      let y : room lim work' ≡ lim.working = omega (arith, l') in
      called lim n k pick state work work' cache cache' a (omega (arith, x)) (omega (arith, x, y)) e (λ s. x ∙ sym y)

-- ## Request A11

pub space_right : (lim : Limits) → T (sensible? lim) → SpaceRight lim
space_right lim o = record {
  at_term = term_14;
  others_stay = λ w S. refl;
  terms = λ S W n w w' m l. run_until S W w w' l n m;
  levels = λ n X k pick w w' l. lift_until pick w w' l n lim X k;
  larger = λ n X Y k pick w w' l e. until_done (lift_until pick w w' l n lim X k) e;
  only_fourteen = λ n X k pick w w' number place value l h e. until_refused (lift_until pick w w' l n lim X k) h e;
  any_picks = λ w q f below W Ws m v s i K e.
      (demand_3 (with_working w lim) o).any_picks q f below W Ws m v
      (subst T (sym (sound_own lim w (record { parameters = q; levels = f ∷ below }))) s) i K e;
  called = λ n k pick state work work' cache cache' a h l e z. called lim n k pick state work work' cache cache' a h l e z;
  finished = λ n k pick state work work' cache cache' a l e z. finished lim o n k pick state work work' cache cache' a e l z;
  used = λ n k pick state work work' cache cache' a l l' e. used lim o n k pick state work work' cache cache' a e l l';
  sixteen = λ n k pick state work cache a e. sixteen lim n k pick state o work cache a e;
  lists = λ n state cs cs' ls e r. lists lim n state cs cs' ls e r;
  reckoned = demand_3 lim o;
}

pub document_space_right : SpaceRight document_01
document_space_right = space_right document_01 tt
