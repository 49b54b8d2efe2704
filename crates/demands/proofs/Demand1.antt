-- Demand 1.
use mathlib.Core.Path.{◌≡◌, refl, sym, ◌∙◌, subst}
use mathlib.Core.List.{◌∷◌}
use mathlib.Core.Option.{Option, none, some}
use Prim.Native.Nat.{ℕ, ◌-◌}
use lib.Dec.{T}
use lib.ListN.{length, length-replicate}
use Rattle.definitions.specs.Limits.{Limits, document_01}
use Rattle.definitions.specs.Problem.{Bytes}
use Rattle.definitions.specs.State.{up_to}
use Rattle.definitions.specs.Sheet.{sheet}
use Rattle.definitions.specs.Layout.{Words, Way, division, Read, Lift, Lent, read_with, lift_with, fetch_with, lent_call, lent_calls}
use Rattle.laws.proofs.Steady.{answered?, Steady, steady_once}
use Rattle.laws.proofs.Bound.{sheet_steady, lent_calls_steady}
use Rattle.laws.proofs.Reading.{basis_state}
use Rattle.laws.proofs.RoundTrip.{length_encode}
use Rattle.ending.specs.Well.{Bytewise}
use Rattle.ending.proofs.Calls.{lent_calls_end}
use Rattle.ending.proofs.Sheets.{sheet_ends}
use Rattle.demands.specs.Demands
use Rattle.demands.specs.Demands.{sensible?, ReadForm, accepted_as, LiftForm, lifted_as, Demand1}
use Rattle.demands.proofs.Results.{Holds, holds, holds_then, holds_at, some_is}
use Rattle.demands.proofs.Over.{few_variables, small_exponents}
use Rattle.demands.proofs.Demand2.{well_formed}
use Rattle.demands.proofs.Sheets.{sheet_form}
use Rattle.demands.proofs.Forms.{long_state, read_form, lift_form, fetch_form}

-- ## Bounds

-- an answer within some bound
answer_of : {A : Type 0} (x : Option A) → T (answered? x) → (a : A) × (x ≡ some a)
answer_of none t = absurd t
answer_of (some a) t = (a, refl)

-- two bounds give one answer
one_answer : {A : Type 0} (g : ℕ → Option A) → Steady answered? g → (n m : ℕ) (a b : A) → g n ≡ some a → g m ≡ some b → a ≡ b
one_answer g s n m a b x y =
    some_is (sym x ∙ steady_once answered? g s n m (subst (λ z. T (answered? z)) (sym x) tt) (subst (λ z. T (answered? z)) (sym y) tt) ∙ y)

module _ (lim : Limits) (o : T (sensible? lim)) where
  bytewise : Bytewise lim
  bytewise = record { exponents = small_exponents lim o; variables = few_variables lim o }

  -- ## Lengths

  read_length : (file : Bytes) (state work : Words) (r : Read) → ReadForm lim file state work r → length r.2 ≡ length state
  read_length file state work r (accepted_as {q} {f} t e) =
      length_encode lim (small_exponents lim o) (length state) (basis_state (q, f)) (well_formed lim o file q f e)
      (long_state lim o division state work t)
  read_length file state work r (Demands.ReadForm.refused_as t b l) = length-replicate (length state) 0
  read_length file state work r (Demands.ReadForm.too_short t) = refl

  lift_length : (k : ℕ) (way : Way) (state work cache : Words) (r : Lift) → LiftForm lim k way state work cache r → length r.2 ≡ length state
  lift_length k way state work cache r (lifted_as X g bound t e u y d s) =
      length_encode lim (small_exponents lim o) (length state) (record { parameters = X.parameters; levels = g ∷ up_to X (k - 1) }) s
      (long_state lim o way state work t)
  lift_length k way state work cache r (Demands.LiftForm.refused_as b t u y e l) = length-replicate (length state) 0
  lift_length k way state work cache r (Demands.LiftForm.no_level t u) = refl
  lift_length k way state work cache r (Demands.LiftForm.no_number t u x) = refl
  lift_length k way state work cache r (Demands.LiftForm.too_short t) = refl

  lengths : (n : ℕ) (state : Words) (c : Lent) → Holds (λ a. length a.state ≡ length state) (lent_call lim n state c)
  lengths n state (read_with file work) = holds_then (read_form lim o n file state work) (λ r h. holds (read_length file state work r h))
  lengths n state (lift_with k way work cache) = holds_then (lift_form lim o n k way state work cache)
      (λ r h. holds (lift_length k way state work cache r h))
  lengths n state (fetch_with k v out) = holds refl

  -- ## Demand 1

  pub demand_1 : Demand1 lim
  demand_1 = record {
    sheet_ends = λ bytes. let e = sheet_ends lim bytewise bytes in (e.0, answer_of (sheet lim e.0 bytes) e.1);
    one_sheet = λ n m bytes. one_answer (λ n. sheet lim n bytes) (sheet_steady lim bytes) n m;
    sheets = λ n bytes a e. holds_at e (sheet_form lim o n bytes);
    calls_end = λ state cs. let e = lent_calls_end lim bytewise state cs in (e.0, answer_of (lent_calls lim e.0 state cs) e.1);
    one_answer = λ n m state cs. one_answer (λ n. lent_calls lim n state cs) (lent_calls_steady lim state cs) n m;
    reads = λ n file state work r e. holds_at e (read_form lim o n file state work);
    lifts = λ n k way state work cache r e. holds_at e (lift_form lim o n k way state work cache);
    fetches = fetch_form lim o;
    lengths = λ n state c a e. holds_at e (lengths n state c);
  }

pub demand_1_of_document_01 : Demand1 document_01
demand_1_of_document_01 = demand_1 document_01 tt
