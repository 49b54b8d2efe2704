-- What is printed for each input.
use mathlib.Core.Path.{◌≡◌, refl, sym, ap, ◌∙◌, subst}
use mathlib.Core.Option.{Option, none, some}
use mathlib.Core.List.{[], ◌∷◌}
use Prim.Native.Nat.{ℕ, ◌≤◌}
use lib.Dec.{T}
use lib.ListN.{length}
use Rattle.definitions.specs.Limits.{Limits, document_01}
use Rattle.definitions.specs.Monomial.{Vector, Level}
use Rattle.definitions.specs.Result.{Result, done, refused, unfinished, finished?, ◌>>=◌}
use Rattle.definitions.specs.Stage.{Stage, stage_over}
use Rattle.definitions.specs.Problem.{Bytes, Parameters, problem}
use Rattle.definitions.specs.State.{State, sound?}
use Rattle.definitions.specs.Calls.{read}
use Rattle.definitions.specs.Sheet.{variables_of}
use Rattle.laws.proofs.Results.{IfDone}
use Rattle.laws.proofs.Steady.{Steady, Ends, steady_fixed, steady_once, answered?, bind_steady, bind_fixed, bind_ends, bind_fixed_ends, result_steady}
use Rattle.laws.proofs.Bound.{read_steady}
use Rattle.ending.specs.Well.{Bytewise}
use Rattle.ending.proofs.Calls.{read_ends}
use Rattle.files.specs.Files.{WellFormedFile}
use Rattle.demands.specs.Notions.{GröbnerBasis}
use Rattle.demands.specs.Demands.{sensible?}
use Rattle.demands.proofs.Results.{Holds, holds, nothing, holds_at, some_is}
use Rattle.demands.proofs.Over.{few_variables, small_exponents, sound_eight}
use Rattle.demands.proofs.Reader.{wide, files}
use Rattle.demands.proofs.Demand2.{well_formed}
use Rattle.demands.proofs.Sheets.{Reading, taken, refused_reading, still_reading, reading}
use Rattle.definitions.specs.After.{file_of, after, lines_after, first_after}
use Rattle.definitions.specs.Program.{printed_or_refused}
use Rattle.definitions.specs.Membership.{Division, divide, v_lines, division_lines, membership_of, membership}
use Rattle.members.specs.Members
use Rattle.members.specs.Members.{division_of, Page, MembershipRight}
use Rattle.members.proofs.Ending.{divide_steady}
use Rattle.members.proofs.Brought.{brought_shown, Lines, brings, bad, lines_brought, nothing_brought}
use Rattle.members.proofs.Exactly.{v_lines_right}
use Rattle.members.proofs.Right.{division_right}
use Rattle.members.proofs.Lent.{lent_right}

module _ (lim : Limits) (o : T (sensible? lim)) where
  -- ## What is printed

  module _ (bound : ℕ) (bytes : Bytes) (q : Parameters) (f : Level) (e : WellFormedFile lim (file_of bytes) q f) (gb : GröbnerBasis q [] f) where
    X : T (sound? lim (record { parameters = q; levels = f ∷ [] }))
    X = well_formed lim o (file_of bytes) q f e

    S : Stage
    S = stage_over lim q.p q.code (f ∷ [])

    abbrev brought : Result Vector
    brought = v_lines lim q (first_after bytes) [] (lines_after bytes)

    lines_are : Lines lim q (sound_eight lim o (record { parameters = q; levels = f ∷ [] }) X) (first_after bytes) (length (lines_after bytes)) brought
    lines_are = lines_brought lim q (sound_eight lim o (record { parameters = q; levels = f ∷ [] }) X) (first_after bytes) [] (nothing_brought lim q
        (sound_eight lim o (record { parameters = q; levels = f ∷ [] }) X)) (lines_after bytes)

    page_of : (v : Vector) → brought ≡ done v → T (Members.brought? lim q v) → length v ≤ lim.working → (x : Result Division) → division_of lim q f v bound ≡ x
        → Holds (Page lim bytes) (printed_or_refused q.n (x >>= λ d. done (division_lines q.n (stage_over lim q.p q.code (f ∷ [])) d)))
    page_of v b t l (done d) k = holds (Members.divided e gb b t l ((division_right lim o q f X v t).divides bound d k))
    page_of v b t l (refused number place value) k =
        let (i, z, w) = (division_right lim o q f X v t).refused_by bound number place value k in
        subst (λ place. Holds (Page lim bytes) (printed_or_refused q.n (refused number place value))) (sym z)
        (subst (λ value. Holds (Page lim bytes) (printed_or_refused q.n (refused number 0 value))) (sym w)
        (holds (Members.limited number bound e gb b (k ∙ ap (λ place. refused number place value) z ∙ ap (refused number 0) w) i)))
    page_of v b t l unfinished k = nothing

    lines_page : (x : Result Vector) → brought ≡ x
        → Lines lim q (sound_eight lim o (record { parameters = q; levels = f ∷ [] }) X) (first_after bytes) (length (lines_after bytes)) x
        → Holds (Page lim bytes) (printed_or_refused q.n (x >>= λ v. division_of lim q f v bound >>= λ d.
        done (division_lines q.n (stage_over lim q.p q.code (f ∷ [])) d)))
    lines_page unfinished b x3 = elim x3 [ ]
    lines_page (done v) b (brings h) =
        page_of v b (brought_shown lim q (sound_eight lim o (record { parameters = q; levels = f ∷ [] }) X) v h) h.short (division_of lim q f v bound) refl
    lines_page (refused number place value) b (bad l k) =
        holds (Members.bad_line place e gb b l k)

    accepted_page : Holds (Page lim bytes) (printed_or_refused q.n (membership_of lim bound bytes (record { parameters = q; levels = f ∷ [] })))
    accepted_page = lines_page brought refl lines_are

  page_at : (bound : ℕ) (bytes : Bytes) → Holds (Page lim bytes) (membership lim bound bytes)
  page_at bound bytes = go (reading lim o bound (file_of bytes))
    where
      go : {x : Result State} → Reading lim (file_of bytes) x
          → Holds (Page lim bytes) (printed_or_refused (variables_of (problem lim (file_of bytes))) (x >>= membership_of lim bound bytes))
      go (taken {q} {f} e s) = subst (λ y. Holds (Page lim bytes) (printed_or_refused (variables_of y) (membership_of lim bound bytes
          (record { parameters = q; levels = f ∷ [] })))) (sym ((files lim o).taken (file_of bytes) q f e)) (accepted_page bound bytes q f e s.exact)
      go (refused_reading r) = holds (Members.not_read r)
      go still_reading = nothing

  -- ## It ends

  bytewise : Bytewise lim
  bytewise = record { exponents = small_exponents lim o; variables = few_variables lim o }

  printed_steady : (n : ℕ) (g : ℕ → Result Bytes) → Steady finished? g → Steady answered? (λ k. printed_or_refused n (g k))
  printed_steady n g s = result_steady answered? (printed_or_refused n) (λ t. t) g s

  printed_answered : (n : ℕ) (x : Result Bytes) → T (finished? x) → T (answered? (printed_or_refused n x))
  printed_answered n (done bytes) t = tt
  printed_answered n (refused number place value) t = tt
  printed_answered n unfinished t = t

  -- after the lines
  divided_steady : (S : Stage) (n : ℕ) (v : Vector)
      → Steady finished? (λ k. divide S k (record { value = v; quotients = []; remainder = [] }) >>= λ d. done (division_lines n S d))
  divided_steady S n v = bind_fixed (λ d. done (division_lines n S d)) (λ k. divide S k (record { value = v; quotients = []; remainder = [] }))
      (divide_steady S (record { value = v; quotients = []; remainder = [] }))

  pub of_steady : (bytes : Bytes) (X : State) → Steady finished? (λ k. membership_of lim k bytes X)
  of_steady bytes X =
      let S = stage_over lim X.parameters.p X.parameters.code X.levels in
      bind_steady (λ k. v_lines lim X.parameters (first_after bytes) [] (lines_after bytes))
      (λ k v. divide S k (record { value = v; quotients = []; remainder = [] }) >>= λ d. done (division_lines X.parameters.n S d))
      (steady_fixed finished? (v_lines lim X.parameters (first_after bytes) [] (lines_after bytes))) (divided_steady S X.parameters.n)

  whole_steady : (bytes : Bytes) → Steady finished? (λ k. read lim k (file_of bytes) >>= membership_of lim k bytes)
  whole_steady bytes = bind_steady (λ k. read lim k (file_of bytes)) (λ k. membership_of lim k bytes) (read_steady lim (file_of bytes)) (of_steady bytes)

  membership_steady : (bytes : Bytes) → Steady answered? (λ k. membership lim k bytes)
  membership_steady bytes = printed_steady (variables_of (problem lim (file_of bytes))) (λ k. read lim k (file_of bytes) >>= membership_of lim k bytes)
      (whole_steady bytes)

  -- a state that was read
  abbrev ReadState : Bytes → State → Type 0
  ReadState bytes X = (q : Parameters) × ((f : Level) × (WellFormedFile lim bytes q f) × (X ≡ record { parameters = q; levels = f ∷ [] }))

  read_state : (bytes : Bytes) (n : ℕ) → IfDone (ReadState bytes) (read lim n bytes)
  read_state bytes n = go (reading lim o n bytes)
    where
      go : {x : Result State} → Reading lim bytes x → IfDone (ReadState bytes) x
      go (taken {q} {f} e s) = (q, (f, e, refl))
      go (refused_reading r) = tt
      go still_reading = tt

  of_ends : (bytes : Bytes) (X : State) → ReadState (file_of bytes) X → Ends finished? (λ k. membership_of lim k bytes X)
  of_ends bytes X (q, (f, e, z)) = subst (λ Y. Ends finished? (λ k. membership_of lim k bytes Y)) (sym z) (go brought lines)
    where
      Y : T (sound? lim (record { parameters = q; levels = f ∷ [] }))
      Y = well_formed lim o (file_of bytes) q f e

      few : q.n ≤ 8
      few = sound_eight lim o (record { parameters = q; levels = f ∷ [] }) Y

      brought : Result Vector
      brought = v_lines lim q (first_after bytes) [] (lines_after bytes)

      lines : Lines lim q few (first_after bytes) (length (lines_after bytes)) brought
      lines = lines_brought lim q few (first_after bytes) [] (nothing_brought lim q few) (lines_after bytes)

      go : (x : Result Vector) → Lines lim q few (first_after bytes) (length (lines_after bytes)) x
          → Ends finished? (λ k. x >>= λ v. division_of lim q f v k >>= λ d. done (division_lines q.n (stage_over lim q.p q.code (f ∷ [])) d))
      go unfinished x4 = elim x4 [ ]
      go (done v) (brings h) =
          bind_fixed_ends (λ d. done (division_lines q.n (stage_over lim q.p q.code (f ∷ [])) d)) (division_of lim q f v)
          (division_right lim o q f Y v (brought_shown lim q few v h)).ends (λ d. tt)
      go (refused number place value) (bad l k) = (0, tt)

  whole_ends : (bytes : Bytes) → Ends finished? (λ k. read lim k (file_of bytes) >>= membership_of lim k bytes)
  whole_ends bytes =
      bind_ends (ReadState (file_of bytes)) (λ k. read lim k (file_of bytes)) (λ k. membership_of lim k bytes) (read_steady lim (file_of bytes))
      (of_steady bytes)
      (read_state (file_of bytes)) (read_ends lim bytewise (file_of bytes)) (of_ends bytes)

  answer_of : (x : Option Bytes) → T (answered? x) → (out : Bytes) × (x ≡ some out)
  answer_of none t = absurd t
  answer_of (some out) t = (out, refl)

  one : (bytes : Bytes) (n m : ℕ) (a b : Bytes) → membership lim n bytes ≡ some a → membership lim m bytes ≡ some b → a ≡ b
  one bytes n m a b h k = some_is (sym h ∙ steady_once answered? (λ i. membership lim i bytes) (membership_steady bytes) n m (shown a h) (shown b k) ∙ k)
    where
      shown : {x : Option Bytes} (a : Bytes) → x ≡ some a → T (answered? x)
      shown a e = subst (λ y. T (answered? y)) (sym e) tt

  pub membership_right : MembershipRight lim
  membership_right = record {
    divisions = λ q f h v b. division_right lim o q f h v b;
    none_brought = λ q f n. refl;
    lines_right = λ bytes q f e. v_lines_right lim (wide lim o) q e.well.parameters (first_after bytes) (after bytes);
    pages = λ n bytes out e. holds_at e (page_at n bytes);
    ends = λ bytes. let (n, t) = whole_ends bytes in (
      n,
      answer_of (membership lim n bytes) (printed_answered (variables_of (problem lim (file_of bytes)))
          (read lim n (file_of bytes) >>= membership_of lim n bytes) t),
    );
    one_page = λ n m bytes a b h k. one bytes n m a b h k;
    lent = λ X f s e v. lent_right lim o X f s e v;
  }

pub membership_of_document_01 : MembershipRight document_01
membership_of_document_01 = membership_right document_01 tt
