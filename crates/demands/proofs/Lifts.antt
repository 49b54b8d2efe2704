-- Lifting a level in a sound state: it puts the reckoning's level on the levels that stay, or meets a limit.
use mathlib.Core.Path.{◌≡◌}
use mathlib.Core.Bool.{Bool, true, false, not, ◌||◌}
use mathlib.Core.List.{List, [], ◌∷◌}
use Prim.Native.Nat.{ℕ, suc, ◌-◌, ◌<◌, ◌≤◌}
use native.Mathlib.Omega.{arith}
use lib.Dec.{T}
use lib.ListN.{length, length-drop}
use Rattle.definitions.specs.Limits.{Limits}
use Rattle.definitions.specs.Lists.{◌and◌, between}
use Rattle.definitions.specs.Monomial.{Level}
use Rattle.definitions.specs.Result.{Result, done, refused, unfinished, at_level, ◌>>=◌}
use Rattle.definitions.specs.Lifting.{Lifting}
use Rattle.definitions.specs.Problem.{Parameters}
use Rattle.definitions.specs.State.{State, has_level?, up_to, levels_sound?, sound?}
use Rattle.definitions.specs.Calls.{lift, eleven?}
use Rattle.laws.proofs.Tests.{between_low, between_high}
use Rattle.laws.proofs.Sound.{sound_says, sound_shown, level_says}
use Rattle.laws.proofs.Numbers
use Rattle.laws.proofs.Numbers.{Numbered, limit_number?, added_number?, read_number?, lift_level_number}
use Rattle.demands.specs.Demands.{sensible?}
use Rattle.demands.proofs.Results.{Gives, gives, refuses, open_yet}
use Rattle.demands.proofs.Over.{vector_room, sound_prime, sound_eight, LiftRight, over}
use Rattle.demands.proofs.Reckonings.{drop_keeps}

pub data LiftedTo (lim : Limits) (X : State) (k : ℕ) : Result State → Type 0 where
  one_more : (g : Level) → LiftRight lim X.parameters (up_to X (k - 1)) g
      → LiftedTo lim X k (done (record { parameters = X.parameters; levels = g ∷ up_to X (k - 1) }))
  limit_met : {number : ℕ} → T (limit_number? number) → LiftedTo lim X k (refused number k [])
  still_lifting : LiftedTo lim X k unfinished

-- ## The levels that stay

pub sound_down : (lim : Limits) (q : Parameters) (g b : Level) (below : List Level) → T (levels_sound? lim q (g ∷ b ∷ below))
    → T (levels_sound? lim q (b ∷ below))
sound_down lim q g b below t = (level_says lim q g b below t).under

module _ (lim : Limits) (X : State) (s : T (sound? lim X)) where
  pub some_level : 1 ≤ length X.levels
  some_level = go X.levels (sound_says lim X s).levels
    where
      go : (levels : List Level) → T (levels_sound? lim X.parameters levels) → 1 ≤ length levels
      go [] t = absurd t
      go (f ∷ levels) t = omega arith

  -- what passes to the levels below passes to levels 0 to k
  pub stays : (k : ℕ) (Y : List Level → Type 0) → ((g b : Level) (below : List Level) → Y (g ∷ b ∷ below) → Y (b ∷ below)) → Y X.levels
      → Y (up_to X k)
  stays k Y down y = drop_keeps Y down (length X.levels - suc k) X.levels (let l = some_level in omega arith) y

  pub levels_stay : (k : ℕ) → T (levels_sound? lim X.parameters (up_to X k))
  levels_stay k = stays k (λ ls. T (levels_sound? lim X.parameters ls)) (sound_down lim X.parameters) (sound_says lim X s).levels

  pub height_up_to : (k : ℕ) → k < length X.levels → length (up_to X k) ≡ suc k
  height_up_to k l = let d = length-drop (length X.levels - suc k) X.levels in omega (arith, d, l)

  -- one level more, of so many as the limit allows, is sound again
  pub with_level : (k : ℕ) → T (between 1 k lim.levels) → k - 1 < length X.levels → (g : Level)
      → T (levels_sound? lim X.parameters (g ∷ up_to X (k - 1)))
      → T (sound? lim (record { parameters = X.parameters; levels = g ∷ up_to X (k - 1) }))
  with_level k r l g t = sound_shown lim (record { parameters = X.parameters; levels = g ∷ up_to X (k - 1) }) (record {
    prime = (sound_says lim X s).prime;
    ranges = (sound_says lim X s).ranges;
    degrees = (sound_says lim X s).degrees;
    height = omega (arith, between_low 1 k lim.levels r, between_high 1 k lim.levels r, height_up_to (k - 1) l);
    levels = t;
  })

-- ## Lifting

module _ (lim : Limits) (o : T (sensible? lim)) where
  pub lifted_to : (X : State) → T (sound? lim X) → (k : ℕ) (way : Lifting) (n : ℕ) → LiftedTo lim X k (lift lim n X k way)
  lifted_to X s k way n =
      go ((over lim q (sound_prime lim o X s) (sound_eight lim o X s) (vector_room lim o) (up_to X (k - 1)) (levels_stay lim X s (k - 1))).lifts way n)
      (lift_level_number lim q.p q.code (up_to X (k - 1)) way n)
    where
      q : Parameters
      q = X.parameters

      go : {x : Result Level} → Gives (LiftRight lim X.parameters (up_to X (k - 1))) x → Numbered limit_number? x
          → LiftedTo lim X k (at_level k x >>= λ g. done (record { parameters = X.parameters; levels = g ∷ up_to X (k - 1) }))
      go (gives {a} w) h = one_more a w
      go (refuses u) (Numbers.refuses t) = limit_met t
      go (refuses u) (Numbers.stops t) = absurd t
      go open_yet h = still_lifting

pub limit_read : (number : ℕ) → T (limit_number? number) → T (read_number? number)
limit_read number t = go (between 1 number 9) (between 13 number 15) t
  where
    go : (b c : Bool) → T c → T (b || (c || added_number? number))
    go true c t = tt
    go false true t = tt
    go false false t = absurd t

-- not 11: a sound state, and the level is there
pub not_eleven : (lim : Limits) (X : State) (k needed : ℕ) → (T (eleven? lim X k needed) → ⊥)
    → T (sound? lim X) × (T (between 1 k lim.levels) → T (has_level? X needed))
not_eleven lim X k needed = go (sound? lim X) (between 1 k lim.levels) (has_level? X needed)
  where
    go : (s t u : Bool) → (T (not s || (t and not u)) → ⊥) → T s × (T t → T u)
    go false t u f = absurd (f tt)
    go true false u f = (tt, λ x. absurd x)
    go true true false f = absurd (f tt)
    go true true true f = (tt, λ x. tt)
