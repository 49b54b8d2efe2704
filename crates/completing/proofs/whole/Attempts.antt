-- One try over a state's words.
use mathlib.Core.Path.{◌≡◌, sym, ap, ◌∙◌, subst}
use mathlib.Core.List.{[], ◌∷◌}
use Prim.Native.Nat.{ℕ, suc, ◌+◌, ◌-◌, ◌≤◌}
use native.Mathlib.Omega.{arith}
use lib.Dec.{T}
use lib.ListN.{length, take, drop}
use Rattle.definitions.specs.Limits.{document_01}
use Rattle.definitions.specs.Monomial.{Vector, Level}
use Rattle.definitions.specs.Result.{Result, done, refused, unfinished, ◌>>=◌}
use Rattle.definitions.specs.Stage.{highest, stage_over}
use Rattle.definitions.specs.Lifting.{limited_frame, accept_from}
use Rattle.definitions.specs.Problem.{Bytes, Parameters, problem}
use Rattle.definitions.specs.State.{State, up_to}
use Rattle.definitions.specs.Sheet.{printed, letter_X}
use Rattle.definitions.specs.Completing.{with_value, completed}
use Rattle.definitions.specs.Layout.{Words, decode, level_at}
use Rattle.definitions.specs.Places.{state_length, pair_line_length}
use Rattle.files.specs.Answers.{Answered}
use Rattle.files.proofs.Reader.{document_reader}
use Rattle.completions.specs.Resuming as definition
use Rattle.completions.specs.Resuming.{Same, Passed}
use Rattle.completions.proofs.Trying.{behind_decides, tried_accepted, tried_refused, tried_full, tried_grown, grown_passes, tried_unread}
use Rattle.pages.specs.bytes.Printing.{Printed}
use Rattle.reader.specs.problem.Reading.{read_as, words_read}
use Rattle.state.specs.soundness.Places.{parameters_at}
use Rattle.state.proofs.preparing.Complete.{highest_is}
use Rattle.level.specs.by_runs.Stages.{Base, accepted_behind}
use Rattle.level.proofs.all_levels.Basis.{length_is, decoded, based}
use Rattle.completing.specs.adding.Additions.{added_over}
use Rattle.completing.specs.whole.Tries.{Read_in, GrownAs, TriedAs}
use Rattle.completing.specs.declared.whole.Tried.{Tried}
use Rattle.completing.specs.declared.whole.Tried.TheVariants.{Accepted, Grown}
use Rattle.std.specs.Prelude.{Result as CodeResult, Ok, Err}
use Rattle.words.specs.declared.refusals.Refused.{Refused}
use Rattle.words.specs.refusals.Numbers.{number_of}
use Rattle.words.proofs.Numbered.{number_positive}

-- ## A file that was read

module _ (file : Bytes) (s : Words) (long : state_length ≤ length s) (R : Read_in file s) where
  pub base : Base s 0
  base = based (length s) long file R.said R.says s R.words

  state_is : decode document_01 s ≡ record { parameters = R.said.0; levels = R.said.1 ∷ [] }
  state_is = decoded (length s) long file R.said R.says s R.words

  level_is : level_at document_01 s 0 ≡ R.said.1
  level_is = sym (highest_is s 0 base.has) ∙ ap (λ Y. highest (up_to Y 0)) state_is

  parameters_are : parameters_at s ≡ R.said.0
  parameters_are = ap (λ (Y : State). Y.parameters) state_is

  behind_is : (from n : ℕ) → (accepted_behind s from n >>= λ u. done (record { parameters = R.said.0; levels = R.said.1 ∷ [] }))
      ≡ definition.accepted_behind document_01 from n R.said
  behind_is from n = λ i.
      (limited_frame document_01 (parameters_are i).code (level_is i) >>= λ ms.
      accept_from (stage_over document_01 (parameters_are i).p (parameters_are i).code (level_is i ∷ [])) n (from + 1) (drop from ms))
      >>= λ u. done (record { parameters = R.said.0; levels = R.said.1 ∷ [] })

  abbrev X : State
  X = record { parameters = R.said.0; levels = R.said.1 ∷ [] }

  module _ (from : ℕ) (passed : Passed document_01 file from) (n : ℕ) where
    pub accept_yes : done tt ≡ accepted_behind s from n → (left : ℕ) → Same (λ n. completed document_01 n (suc left) file) (λ n. done file)
    accept_yes e left = tried_accepted document_01 tt file R.said R.says left
        (behind_decides document_01 file from passed R.said R.says n (done X) tt (ap (λ x. x >>= λ u. done X) e ∙ behind_is from n))

    pub accept_no : (number place : ℕ) → refused number place [] ≡ accepted_behind s from n → (left : ℕ)
        → Same (λ n. completed document_01 n (suc left) file) (λ n. refused number place [])
    accept_no number place e left = tried_refused document_01 tt file R.said R.says left number place
        (behind_decides document_01 file from passed R.said R.says n (refused number place []) tt
        (ap (λ x. x >>= λ u. done X) e ∙ behind_is from n))

    module _ (t : ℕ) (v : Vector) (e : refused 9 t v ≡ accepted_behind s from n) where
      added_is : added_over s file v ≡ with_value document_01 file R.said v
      added_is = λ i. with_value document_01 file (parameters_are i, level_is i) v

      pub accept_grown : (x : CodeResult Tried ℕ) (out out' : Bytes) → GrownAs x s file v t out out' → TriedAs x file out out'
      accept_grown (Ok Accepted) out out' g = absurd g
      accept_grown (Ok (Grown r from')) out out' g =
          let a = behind_decides document_01 file from passed R.said R.says n (refused 9 t v) tt
          (ap (λ x. x >>= λ u. done X) e ∙ behind_is from n) in
          let h = sym added_is ∙ g.0 in (
            (λ left. tried_grown document_01 tt file R.said R.says left t v a (take r out') h),
            subst (Passed document_01 (take r out')) (sym g.2) (grown_passes document_01 tt file R.said R.says 0 t v a (take r out') h),
            g.1,
          )
      accept_grown (Err r) out out' g = λ left.
          let a = behind_decides document_01 file from passed R.said R.says n (refused 9 t v) tt
          (ap (λ x. x >>= λ u. done X) e ∙ behind_is from n) in
          record {
            number = g.number;
            place = g.place;
            same = tried_full document_01 tt file R.said R.says left t v a g.number g.place
                (sym added_is ∙ g.same.1 g.same.0 (omega arith));
            line = g.line;
            fits = g.fits;
          }

-- ## What reading says

-- read: the words hold what the file says
pub read_in : (size : ℕ) (big : state_length ≤ size) (file : Bytes) (f : Parameters × Level) → problem document_01 file ≡ done f → (s : Words)
    → s ≡ words_read size f → Read_in file s
read_in size big file f e s w = record {
  said = f;
  says = e;
  words = w ∙ ap (λ k. words_read k f) (sym (length_is size big file f e s w));
}

-- refused
pub not_read : (size : ℕ) (e : Refused) (file : Bytes) (s : Words)
    → ◌≡◌ {A = ℕ × ℕ × Words} (number_of e.refusal, e.place, s) (read_as size (problem document_01 file))
    → problem document_01 file ≡ refused (number_of e.refusal) e.place []
not_read size e file s h = go (problem document_01 file) (document_reader.answered file) h
  where
    some_number : number_of e.refusal ≡ 0 → ⊥
    some_number z = absurd (omega (arith, z, number_positive e.refusal))

    go : (x : Result (Parameters × Level)) → Answered document_01 file x
        → ◌≡◌ {A = ℕ × ℕ × Words} (number_of e.refusal, e.place, s) (read_as size x) → x ≡ refused (number_of e.refusal) e.place []
    go (done f) b q = absurd (some_number (ap (λ t. t.0) q))
    go (refused m o value) b q = ap (λ v. refused m o v) b.1 ∙ sym (λ i. refused (q i).0 (q i).1 [])
    go unfinished b q = absurd (some_number (ap (λ t. t.0) q))

pub attempt_refused : (file : Bytes) (number place : ℕ) → problem document_01 file ≡ refused number place [] → (out out' : Bytes) (r : ℕ)
    → Printed out out' 0 r (printed letter_X (number ∷ place ∷ [])) → r ≤ pair_line_length → TriedAs (Err r) file out out'
attempt_refused file number place e out out' r p h left = record {
  number = number;
  place = place;
  same = tried_unread document_01 file left number place e;
  line = p;
  fits = h;
}
