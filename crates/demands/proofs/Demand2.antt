-- Demand 2.
use mathlib.Core.Path.{◌≡◌, sym, ap, ◌∙◌, subst}
use mathlib.Core.Logic.{◌↔◌}
use mathlib.Core.List.{List, [], ◌∷◌}
use Prim.Native.Nat.{ℕ}
use lib.Dec.{T, eqb, eqb→eq}
use Rattle.definitions.specs.Limits.{Limits, document_01}
use Rattle.definitions.specs.Monomial.{Monomial, Vector, Level, leading, leading_monomials}
use Rattle.definitions.specs.Order.{compare_over}
use Rattle.definitions.specs.Frame.{frame}
use Rattle.definitions.specs.Result.{Result, refused, ◌>>=◌}
use Rattle.definitions.specs.Problem.{Bytes, Parameters, problem}
use Rattle.definitions.specs.State.{State, sound?}
use Rattle.definitions.specs.Calls.{accepted, read}
use Rattle.laws.proofs.Results.{if_done_says}
use Rattle.laws.proofs.Sound.{sound_says}
use Rattle.laws.proofs.Reading.{basis_state, problem_sound}
use Rattle.files.specs.Files.{WellFormedFile}
use Rattle.files.specs.Answers.{RefusedRight}
use Rattle.demands.specs.Notions.{put_for, Leads, GröbnerBasis}
use Rattle.demands.specs.Frames.{IsFrame}
use Rattle.demands.specs.Exact.{ShowsWhy}
use Rattle.demands.specs.Demands.{sensible?, limit?, ReadRight, accepts, limited, stopped, open_yet, accepted?, decided?, Demand2}
use Rattle.demands.proofs.Frames.{is_frame, only_frame}
use Rattle.demands.proofs.Over.{few_variables, vector_room, sound_prime, sound_eight, Over, over, accepted_right}
use Rattle.demands.proofs.Reader.{files}

-- what 9 shows is no Gröbner basis: its leading monomial is that of a combination, and not divided
pub shows : (lim : Limits) (q : Parameters) (f : Level) (value : Vector) → ShowsWhy lim q f value → GröbnerBasis q [] f → ⊥
shows lim q f value w gb = w.undivided (gb (leading value) (record { by = w.combination.by; proper = w.combination.proper; leads = leads }))
  where
    leads : Leads (compare_over q.code []) q.p (leading value) (put_for q.p f w.combination.by)
    leads = record {
      there = λ e. w.leads.there (w.combination.is (leading value) ∙ e);
      others = λ m h. w.leads.others m (λ e. h (sym (w.combination.is m) ∙ e));
    }

module _ (lim : Limits) (o : T (sensible? lim)) where
  -- ## Sound states

  -- what holds over the levels of a sound state
  pub over_sound : (q : Parameters) (levels : List Level) → T (sound? lim (record { parameters = q; levels = levels })) → Over lim q levels
  over_sound q levels h =
      let X : State = record { parameters = q; levels = levels } in
      over lim q (sound_prime lim o X h) (sound_eight lim o X h) (vector_room lim o) levels (sound_says lim X h).levels

  pub well_formed : (bytes : Bytes) (q : Parameters) (f : Level) → WellFormedFile lim bytes q f → T (sound? lim (basis_state (q, f)))
  well_formed bytes q f w =
      if_done_says (λ f. T (sound? lim (basis_state f))) (problem lim bytes) (problem_sound lim (few_variables lim o) bytes) (q, f)
      ((files lim o).taken bytes q f w)

  -- ## Reading

  pub reading : (n : ℕ) (bytes : Bytes) (q : Parameters) (f : Level) → WellFormedFile lim bytes q f → ReadRight lim q f (read lim n bytes)
  reading n bytes q f w = subst (λ x. ReadRight lim q f (x >>= accepted lim n)) (sym ((files lim o).taken bytes q f w))
      (accepted_right lim q (sound_prime lim o X h) (sound_eight lim o X h) (vector_room lim o) f (sound_says lim X h).levels n)
    where
      X : State
      X = basis_state (q, f)

      h : T (sound? lim X)
      h = well_formed bytes q f w

  -- a limit's number is not 9
  not_nine : (number : ℕ) → T (limit? number) → T (eqb number 9) → ⊥
  not_nine number t e = subst (λ z. T (limit? z)) (eqb→eq number 9 e) t

  exactly : (q : Parameters) (f : Level) (x : Result State) → ReadRight lim q f x → T (decided? x) → T (accepted? x) ↔ GröbnerBasis q [] f
  exactly q f x (accepts gb) t = ((λ a. gb), (λ a. tt))
  exactly q f x (limited {number} l) t = absurd (not_nine number l t)
  exactly q f x (stopped {value = value} i w) t = ((λ a. absurd a), (λ gb. absurd (shows lim q f value w gb)))
  exactly q f x open_yet t = absurd t

  ill_formed : (n : ℕ) (bytes : Bytes) (number place : ℕ) → RefusedRight lim bytes number place → read lim n bytes ≡ refused number place []
  ill_formed n bytes number place r = ap (λ x. x >>= accepted lim n) ((files lim o).refuses bytes number place r)

  -- ## The frame

  framed : (q : Parameters) (f : Level) (below : List Level) → T (sound? lim (record { parameters = q; levels = f ∷ below })) → (code : ℕ)
      → IsFrame code f (frame code (leading_monomials f)) × ((ts : List Monomial) → IsFrame code f ts → ts ≡ frame code (leading_monomials f))
  framed q f below h code =
      let i : IsFrame code f (frame code (leading_monomials f)) = is_frame code f (over_sound q (f ∷ below) h).eights in
      (i, λ ts t. only_frame code f ts (frame code (leading_monomials f)) t i)

  -- ## Demand 2

  pub demand_2 : Demand2 lim
  demand_2 = record {
    files = files lim o;
    reading = reading;
    exactly = λ n bytes q f w. exactly q f (read lim n bytes) (reading n bytes q f w);
    shows = shows lim;
    well_formed = well_formed;
    generated = λ q f below h. (over_sound q (f ∷ below) h).generates;
    ill_formed = ill_formed;
    framed = framed;
  }

pub demand_2_of_document_01 : Demand2 document_01
demand_2_of_document_01 = demand_2 document_01 tt
