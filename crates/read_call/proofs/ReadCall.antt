-- Reading with acceptance: what is returned and left.
use mathlib.Core.Path.{◌≡◌, refl, sym, ap, ◌∙◌, subst}
use mathlib.Core.Bool.{Bool, true, not}
use mathlib.Core.Option.{Option, some}
use mathlib.Core.List.{[]}
use Prim.Native.Nat.{ℕ, ◌≤◌, ◌<◌}
use borrow.Author.Tests.{le-leb, lt-leb}
use lib.Dec.{T, leb}
use lib.ListN.{length}
use Rattle.definitions.specs.Limits.{document_01}
use Rattle.definitions.specs.Lists.{◌and◌, ◌then◌, choose}
use Rattle.definitions.specs.Monomial.{Vector, Level}
use Rattle.definitions.specs.Result.{Result, done, refused, unfinished, finished?, ◌>>=◌}
use Rattle.definitions.specs.Problem.{Bytes, Parameters, problem}
use Rattle.definitions.specs.State.{State}
use Rattle.definitions.specs.Calls.{refuse, settled, accepted, read}
use Rattle.definitions.specs.Layout.{Words, Read, rows_of, padded, encode, decode, meant, read_left, read_call}
use Rattle.laws.proofs.Refusals.{encode_empty}
use Rattle.definitions.specs.Places.{state_length, value_length}
use Rattle.files.specs.Answers.{Answered}
use Rattle.files.proofs.Reader.{document_reader}
use Rattle.vectors.specs.terms.Rows.{cleared}
use Rattle.state.proofs.writing.AppendLoop.{cleared_empties}
use Rattle.reader.specs.problem.Reading.{read_as, words_read}
use Rattle.std.proofs.Common.{Result as CodeResult, Ok, Err}
use Rattle.runs.specs.declared.frame_terms.Accepted.{Accepted}
use Rattle.runs.specs.declared.frame_terms.Accepted.TheVariants.{Yes, Stopped}
use Rattle.words.specs.declared.refusals.Refused.{Refused}
use Rattle.fetch_call.specs.declared.Reply.{Reply}
use Rattle.fetch_call.specs.Replies.{settled_of}
use Rattle.level.specs.by_runs.Stages.{accepted_over, accepted_with}
use Rattle.level.proofs.all_levels.Basis.{length_is, accepted_is}
use Rattle.read_call.specs.Replies.{read_reply, read_said, settled_words, accepted_words}

-- ## Acceptance

pub zeroed : (area : ℕ) (w : Words) → length w ≡ area → cleared w 0 ≡ padded area (rows_of [])
zeroed area w e = ap (λ a. padded a []) e

accepted_finished : (x : CodeResult Accepted Refused) (v : Vector) → T (finished? (accepted_with x v))
accepted_finished (Ok Yes) v = tt
accepted_finished (Ok (Stopped i n)) v = tt
accepted_finished (Err e) v = tt

module _ (s : Words) (long : state_length ≤ length s) (whole : s ≡ encode document_01 (length s) (decode document_01 s)) (area : ℕ) (n : ℕ)
    (v : Vector) where
  abbrev goes_on : Result (Unit {0}) → Read
  goes_on r = settled_words (length s) area (r >>= λ u. done (decode document_01 s))

  pub accept_over : (x : CodeResult Accepted Refused) → accepted_with x v ≡ accepted_over s n → T (finished? (accepted_over s n))
  accept_over x e = subst (λ r. T (finished? r)) e (accepted_finished x v)

  pub accept_yes : (w : Words) → length w ≡ area → done tt ≡ accepted_over s n → ◌≡◌ {A = Read} (0, 0, s, cleared w 0) (accepted_words n s area)
  accept_yes w l e = (λ i. (0, 0, whole i, zeroed area w l i)) ∙ ap goes_on e

  pub accept_refused : (number place : ℕ) (w : Words) → length w ≡ area → refused number place [] ≡ accepted_over s n
      → ◌≡◌ {A = Read} (number, place, cleared s 0, cleared w 0) (accepted_words n s area)
  accept_refused number place w l e = (λ i. (number, place, cleared_empties s long i, zeroed area w l i)) ∙ ap goes_on e

  pub accept_stopped : (i : ℕ) (w : Words) → length w ≡ area → w ≡ padded (length w) (rows_of v) → refused 9 i v ≡ accepted_over s n
      → ◌≡◌ {A = Read} (9, i, cleared s 0, w) (accepted_words n s area)
  accept_stopped i w l p e = (λ j. (9, i, cleared_empties s long j, (p ∙ ap (λ a. padded a (rows_of v)) l) j)) ∙ ap goes_on e

-- ## A file that was read

module _ (size : ℕ) (big : state_length ≤ size) (file : Bytes) (f : Parameters × Level) (e : problem document_01 file ≡ done f) (s : Words)
    (w : s ≡ words_read size f) where
  pub read_accepted : (area n : ℕ) (r : Read) → r ≡ accepted_words n s area → r ≡ settled_words size area (read document_01 n file)
  read_accepted area n r h = h ∙ (λ i. settled_words (length_is size big file f e s w i) area (accepted_is size big file f e s w n i))

  over_bind : (x : Result (Unit {0})) → T (finished? x) → T (finished? (x >>= λ u. done (decode document_01 s)))
  over_bind (done u) t = tt
  over_bind (refused number place value) t = tt
  over_bind unfinished t = t

  pub read_over : (n : ℕ) → T (finished? (accepted_over s n)) → T (finished? (read document_01 n file))
  read_over n t = subst (λ x. T (finished? x)) (accepted_is size big file f e s w n) (over_bind (accepted_over s n) t)

-- ## A file that was refused

pub record RefusedFile (size area : ℕ) (file : Bytes) (r : Read) : Type 0 where
  pub words : r ≡ settled_words size area (read document_01 0 file)
  pub over : T (finished? (read document_01 0 file))

module _ (size area : ℕ) (big : state_length ≤ size) (file : Bytes) (number place : ℕ) (s : Words) (Some-number : number ≡ 0 → ⊥) where
  pub file_refused : ◌≡◌ {A = ℕ × ℕ × Words} (number, place, s) (read_as size (problem document_01 file)) → (w : Words) → length w ≡ area
      → RefusedFile size area file (number, place, s, cleared w 0)
  file_refused e w l = go (problem document_01 file) refl (document_reader.answered file) e
    where
      go : (x : Result (Parameters × Level)) → problem document_01 file ≡ x → Answered document_01 file x
          → ◌≡◌ {A = ℕ × ℕ × Words} (number, place, s) (read_as size x) → RefusedFile size area file (number, place, s, cleared w 0)
      go (done f) p b q = absurd (Some-number (ap (λ t. t.0) q))
      go (refused m o value) p b q = record {
        words =
            (λ i. (
              (q i).0,
              (q i).1,
              (ap (λ t. t.2) q ∙ sym (encode_empty document_01 size big)) i,
              (ap (λ a. padded a []) l ∙ ap (λ x. padded area (rows_of x)) (sym b.1)) i,
            ))
            ∙ sym (ap (λ x. settled_words size area (x >>= accepted document_01 0)) p);
        over = subst (λ x. T (finished? (x >>= accepted document_01 0))) (sym p) tt;
      }
      go unfinished p b q = absurd (Some-number (ap (λ t. t.0) q))

-- ## The call

pub read_replied : (r : CodeResult (Unit {0}) Refused) (p : Reply) (s w : Words) → ◌≡◌ {A = ℕ × ℕ} (p.number, p.place) (settled_of r)
    → read_reply p s w ≡ read_said r s w
read_replied (Ok u) p s w e = λ i. ((e i).0, (e i).1, s, w)
read_replied (Err x) p s w e = λ i. ((e i).0, (e i).1, s, w)

module _ (file : Bytes) (s w : Words) where
  abbrev by_length : ℕ → Bool → Bool → Option Read
  by_length n long long' =
      choose (not (long and long')) (some (refuse 16 (meant document_01 s))) (settled (read document_01 n file))
      then λ a. some (read_left document_01 s w a)

  pub read_short_state : length s < state_length → (n : ℕ) × (◌≡◌ {A = Option Read} (some (16, 0, s, w)) (read_call document_01 n file s w))
  read_short_state h = (0, sym (ap (λ b. by_length 0 b (leb value_length (length w))) (lt-leb state_length (length s) h)))

  pub read_short_work : state_length ≤ length s → length w < value_length → (n : ℕ)
      × (◌≡◌ {A = Option Read} (some (16, 0, s, w)) (read_call document_01 n file s w))
  read_short_work l h = (
    0,
    sym (ap (by_length 0 true) (lt-leb value_length (length w) h)) ∙ sym
        (ap (λ b. by_length 0 b (leb value_length (length w))) (le-leb state_length (length s) l)),
  )

  settled_then : (x : Result State) → T (finished? x) → ◌≡◌ {A = Option Read} (some (settled_words (length s) (length w) x))
      (settled x then λ a. some (read_left document_01 s w a))
  settled_then (done X) t = refl
  settled_then (refused number place value) t = refl
  settled_then unfinished t = absurd t

  pub read_long : state_length ≤ length s → value_length ≤ length w → (n : ℕ) (r : Read) → r
      ≡ settled_words (length s) (length w) (read document_01 n file)
      → T (finished? (read document_01 n file)) → (m : ℕ) × (some r ≡ read_call document_01 m file s w)
  read_long l h n r e t = (
    n,
    ap some e ∙ settled_then (read document_01 n file) t
        ∙ sym (ap (by_length n true) (le-leb value_length (length w) h))
        ∙ sym (ap (λ b. by_length n b (leb value_length (length w))) (le-leb state_length (length s) l)),
  )
