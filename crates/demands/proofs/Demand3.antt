-- Demand 3.
use mathlib.Core.Path.{◌≡◌, ap, subst}
use mathlib.Core.Logic.{inl, inr}
use mathlib.Core.Option.{some}
use mathlib.Core.List.{List, [], ◌∷◌}
use Prim.Native.Nat.{ℕ, ◌-◌}
use lib.Dec.{T}
use Rattle.definitions.specs.Limits.{Limits, document_01}
use Rattle.definitions.specs.Result.{done}
use Rattle.definitions.specs.Lifting.{Lifting}
use Rattle.definitions.specs.State.{State, up_to, sound?}
use Rattle.definitions.specs.Calls.{lift}
use Rattle.definitions.specs.Reckoning.{Reckoning, nothing, reckon, reckon_all}
use Rattle.definitions.specs.Layout.{Words, meant, Lent, read_with, lift_with, fetch_with, Left, lent_call, lent_calls}
use Rattle.demands.specs.Demands.{sensible?, as_call, numbered, left_by, Reads, FirstReads, Starts, FetchRight, FetchesRight, Leaves, Demand3}
use Rattle.demands.proofs.Results.{ends_at, Holds, holds, holds_then, holds_map, holds_given, holds_at}
use Rattle.demands.proofs.Reckonings.{one_level, one_reckoning}
use Rattle.demands.proofs.Demand2.{over_sound}
use Rattle.demands.proofs.Lifts.{LiftedTo, one_more, lifted_to}
use Rattle.demands.proofs.Held.{Agrees, held_agrees}
use Rattle.demands.proofs.Stored.{Stored, zeros_stored, Called, read_stored, lift_stored, fetch_stored}

module _ (lim : Limits) (o : T (sensible? lim)) where
  -- ## Lists of calls

  stored_leaves : (R : Reckoning) (words : Words) → Stored lim R words → Leaves lim R words
  stored_leaves R words s =
      let a : Agrees lim R (meant lim words) = held_agrees lim R (meant lim words) s.holds in
      record { levels = a.levels; parameters = a.parameters; sound = a.sound; spelled = s.spelled; exact = a.exact }

  -- a call from words that agree with the reckoning
  call_right : (n : ℕ) (state : Words) (R : Reckoning) → Stored lim R state → (c : Lent)
      → Holds (λ a. Called lim o R c a × FetchRight lim R c a) (lent_call lim n state c)
  call_right n state R s (read_with file work) = holds_map (λ a h. (h (inl s), tt)) (read_stored lim o n state R file work)
  call_right n state R s (lift_with k way work cache) = holds_map (λ a h. (h, tt)) (lift_stored lim o n state R s k way work cache)
  call_right n state R s (fetch_with k v out) = fetch_stored lim o n state R s k v out

  abbrev AllRight : Words → Reckoning → List Lent → List Left → Type 0
  AllRight state R cs ls = Leaves lim (reckon_all lim R (numbered lim cs ls)) (left_by state ls) × FetchesRight lim R cs ls

  calls_right : (n : ℕ) (cs : List Lent) (state : Words) (R : Reckoning) → Stored lim R state → Holds (AllRight state R cs) (lent_calls lim n state cs)
  calls_right n [] state R s = holds (stored_leaves R state s, tt)
  calls_right n (c ∷ cs) state R s = holds_then (call_right n state R s c) (λ a h.
      holds_then (calls_right n cs a.state (reckon lim R (as_call lim c) a.number) h.0) (λ ls k. holds (k.0, (h.1, k.1))))

  -- the first call reads, and is not refused with 16
  first_call : (n : ℕ) (state : Words) (c : Lent) → Holds (λ a. Reads c a → Called lim o nothing c a × FetchRight lim nothing c a)
      (lent_call lim n state c)
  first_call n state (read_with file work) = holds_map (λ a h r. (h (inr r), tt)) (read_stored lim o n state nothing file work)
  first_call n state (lift_with k way work cache) = holds_given (lent_call lim n state (lift_with k way work cache)) (λ r. absurd r)
  first_call n state (fetch_with k v out) = holds_given (lent_call lim n state (fetch_with k v out)) (λ r. absurd r)

  first_right : (n : ℕ) (state : Words) (cs : List Lent) → Holds (λ ls. FirstReads cs ls → AllRight state nothing cs ls) (lent_calls lim n state cs)
  first_right n state [] = holds (λ r. absurd r)
  first_right n state (c ∷ cs) = holds_then (first_call n state c) (λ a h.
      holds_then (holds_given (lent_calls lim n a.state cs) (λ r. calls_right n cs a.state (reckon lim nothing (as_call lim c) a.number) (h r).0))
      (λ ls k. holds (λ r. ((k r).0, ((h r).1, (k r).1)))))

  calls : (n : ℕ) (state : Words) (cs : List Lent) (ls : List Left) → lent_calls lim n state cs ≡ some ls → Starts state cs ls
      → AllRight state nothing cs ls
  calls n state cs ls e (inl z) = holds_at e (calls_right n cs state nothing (zeros_stored lim state z))
  calls n state cs ls e (inr r) = holds_at e (first_right n state cs) r

  -- ## Ways

  -- two liftings of one level leave one state
  one_lifted : (X : State) (k : ℕ) (Y Y' : State) → LiftedTo lim X k (done Y) → LiftedTo lim X k (done Y') → Y ≡ Y'
  one_lifted X k Y Y' (one_more g h) (one_more g' h') =
      ap (λ z. record { parameters = X.parameters; levels = z ∷ up_to X (k - 1) })
      (one_level lim X.parameters.p X.parameters.code (up_to X (k - 1)) h.bound h'.bound g g' h.reckons h'.reckons)

  ways_agree : (n m : ℕ) (X : State) (k : ℕ) (way way' : Lifting) (Y Y' : State) → T (sound? lim X) → lift lim n X k way ≡ done Y
      → lift lim m X k way' ≡ done Y' → Y ≡ Y'
  ways_agree n m X k way way' Y Y' s e e' =
      one_lifted X k Y Y' (subst (LiftedTo lim X k) e (lifted_to lim o X s k way n)) (subst (LiftedTo lim X k) e' (lifted_to lim o X s k way' m))

  -- ## Demand 3

  pub demand_3 : Demand3 lim
  demand_3 = record {
    calls = calls;
    one_reckoning = one_reckoning lim;
    any_picks = λ q f below W Ws m v s i k e. ends_at e ((over_sound lim o q (f ∷ below) s).picks W Ws m i k);
    ways_agree = ways_agree;
  }

pub demand_3_of_document_01 : Demand3 document_01
demand_3_of_document_01 = demand_3 document_01 tt
