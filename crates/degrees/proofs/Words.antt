-- The words that hold degrees: of any contents that mean a state, and 11 where one of them is wrong.
use mathlib.Core.Path.{◌≡◌, refl, ap, ◌∙◌, subst, sym}
use mathlib.Core.Bool.{Bool, true, false, not, ◌||◌}
use mathlib.Core.Option.{some}
use mathlib.Core.List.{List, [], ◌∷◌}
use Prim.Native.Nat.{ℕ, zero, suc, ◌+◌, ◌-◌, ◌<◌, ◌≤◌}
use native.Mathlib.Omega.{arith}
use lib.Dec.{T, leb, leb→le, nleb→lt}
use lib.ListN.{length, get_or, drop}
use Rattle.definitions.specs.Limits.{Limits}
use Rattle.definitions.specs.Lists.{◌and◌, ◌then◌, between, choose}
use Rattle.definitions.specs.Monomial.{Level}
use Rattle.definitions.specs.Stage.{highest}
use Rattle.definitions.specs.State.{State, empty, has_level?, sound?}
use Rattle.definitions.specs.Degrees.{degree_of, carried}
use Rattle.definitions.specs.Calls.{refuse, settled, lift, fetch, eleven?, lifts?, fetches?, lift_reply, fetch_reply}
use Rattle.definitions.specs.Layout.{Words, Way, carried_place, carries?, holds_state?, decode, meant, long_enough?, lifting_by, lift_left, lift_call}
use Rattle.definitions.specs.Layout.{fetch_left, fetch_call}
use Rattle.laws.proofs.Tests.{and_right, true_is, false_is}
use Rattle.laws.proofs.Sound.{sound_says}
use Rattle.laws.proofs.Degrees.{carries_here, carries_below, holds_says}
use Rattle.demands.specs.Demands.{level_of, out_long_enough?}
use Rattle.degrees.specs.Notions.{levels_below, degree_at, HasVector, carried_word}

module _ (lim : Limits) (s : Words) (d : List ℕ) where
  abbrev At : List Level → ℕ → ℕ → Type 0
  At ls k v = get_or s (carried_place lim k + v) 0 ≡ degree_of d (levels_below ls k) (get_or (level_of ls k) v [])

  carried_at : (ls : List Level) → T (carries? lim s (carried d ls)) → (k v : ℕ) → k < length ls → v < length (level_of ls k) → At ls k v
  carried_at [] t k v h g = absurd (omega arith)
  carried_at (f ∷ ls) t k v h g =
      go (leb (suc k) (length ls)) (leb→le (suc k) (length ls)) (nleb→lt (suc k) (length ls))
      (λ l m. carried_at ls (carries_below lim s d f ls t) k v l m)
    where
      go : (b : Bool) → (T b → suc k ≤ length ls) → (T (not b) → length ls < suc k) → (k < length ls → v < length (level_of ls k) → At ls k v)
          → At (f ∷ ls) k v
      go true p q ih =
          let l : k < length ls = p tt in
          let e : suc (length ls) - suc k ≡ suc (length ls - suc k) = omega (arith, l) in
          subst (λ j. get_or s (carried_place lim k + v) 0 ≡ degree_of d (drop (suc j) (f ∷ ls)) (get_or (highest (drop j (f ∷ ls))) v [])) (sym e)
          (ih l (subst (λ j. v < length (highest (drop j (f ∷ ls)))) e g))
      go false p q ih =
          let l : length ls < suc k = q tt in
          let z : k ≡ length ls = omega (arith, l, h) in
          let e : suc (length ls) - suc k ≡ 0 = omega (arith, z) in
          subst (λ j. get_or s (carried_place lim k + v) 0 ≡ degree_of d (drop (suc j) (f ∷ ls)) (get_or (highest (drop j (f ∷ ls))) v [])) (sym e)
          (ap (λ n. get_or s (carried_place lim n + v) 0) z
          ∙ carries_here lim s d f ls t v (subst (λ j. v < length (highest (drop j (f ∷ ls)))) e g))

  at_vector : (ls : List Level) → T (carries? lim s (carried d ls)) → (k v : ℕ) → HasVector ls k v → carried_word lim s k v ≡ degree_at d ls k v
  at_vector ls t k zero h = absurd (let l = h.from in omega arith)
  at_vector ls t k (suc v) h =
      let e : suc v - 1 ≡ v = omega arith in
      let l : v < length (level_of ls k) = let m = h.to in omega (arith, m) in
      ap (λ j. get_or s (carried_place lim k + j) 0) e ∙ carried_at ls t k v h.level l

module _ (lim : Limits) (s : Words) where
  -- of contents that pass the test
  pub held_words : T (holds_state? lim s) → (k v : ℕ) → HasVector (decode lim s).levels k v
      → carried_word lim s k v ≡ degree_at (decode lim s).parameters.degrees (decode lim s).levels k v
  held_words t = at_vector lim s (decode lim s).parameters.degrees (decode lim s).levels (holds_says lim s t).carries

  abbrev Right : ℕ → ℕ → State → Type 0
  Right k v X = HasVector X.levels k v → carried_word lim s k v ≡ degree_at X.parameters.degrees X.levels k v

  pub words : (k v : ℕ) → HasVector (meant lim s).levels k v
      → carried_word lim s k v ≡ degree_at (meant lim s).parameters.degrees (meant lim s).levels k v
  words k v = go (holds_state? lim s) (λ t. held_words t k v)
    where
      go : (b : Bool) → (T b → Right k v (decode lim s)) → Right k v (elim b [ true ↦ decode lim s | false ↦ empty ])
      go true r = r tt
      go false r = λ h. absurd (let l = h.level in omega arith)

-- ## 11

empty_unsound : (lim : Limits) → sound? lim empty ≡ false
empty_unsound lim = false_is (sound? lim empty) (λ t. and_right (leb 0 lim.prime_bound) false (sound_says lim empty t).prime)

empty_eleven : (lim : Limits) (k needed : ℕ) → eleven? lim empty k needed ≡ true
empty_eleven lim k needed = ap (λ b. not b || (between 1 k lim.levels and not (has_level? empty needed))) (empty_unsound lim)

module _ (lim : Limits) (s : Words) (k v : ℕ) (h : HasVector (decode lim s).levels k v)
    (w : ¬ (carried_word lim s k v ≡ degree_at (decode lim s).parameters.degrees (decode lim s).levels k v)) where
  wrong_empty : meant lim s ≡ empty
  wrong_empty = means (holds_state? lim s) (false_is (holds_state? lim s) (λ t. w (held_words lim s t k v h)))
    where
      means : (b : Bool) → b ≡ false → ◌≡◌ {A = State} (elim b [ true ↦ decode lim s | false ↦ empty ]) empty
      means true e = absurd (subst T e tt)
      means false e = refl

  pub wrong_lifting : (n level : ℕ) (way : Way) (work cache : Words) → T (long_enough? lim way s work)
      → lift_call lim n level way s work cache ≡ some (11, 0, s, work, cache)
  wrong_lifting n level way work cache t =
      let by = lifting_by lim way work cache in
      let eleven : lift_call lim n level way s work cache ≡ some (11, 0, s, work, cache) =
      ap (λ X. lift_reply lim n X (long_enough? lim way s work) level by then λ a. some (lift_left lim s work cache a)) wrong_empty
      ∙ ap (λ b. lift_reply lim n empty b level by then λ a. some (lift_left lim s work cache a)) (true_is (long_enough? lim way s work) t)
      ∙ ap (λ b. choose b (some (refuse 11 empty)) (choose (not (lifts? lim level by)) (some (refuse 12 empty)) (settled (lift lim n empty level by)))
      then λ a. some (lift_left lim s work cache a)) (empty_eleven lim level (level - 1)) in eleven

  pub wrong_fetching : (level vector : ℕ) (out : Words) → T (out_long_enough? lim s out) → fetch_call lim level vector s out ≡ (11, 0, out)
  wrong_fetching level vector out t =
      ap (λ X. fetch_left out (fetch_reply lim X (out_long_enough? lim s out) level vector)) wrong_empty
      ∙ ap (λ b. fetch_left out (fetch_reply lim empty b level vector)) (true_is (out_long_enough? lim s out) t)
      ∙ ap (λ b. fetch_left out (choose b (refuse 11 empty)
      (choose (not (fetches? lim empty level vector)) (refuse 12 empty) (fetch empty level vector)))) (empty_eleven lim level level)
