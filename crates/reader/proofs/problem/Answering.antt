-- From the file to the answer: what reading says and leaves. A refused file leaves nothing of itself.
use mathlib.Core.Path.{◌≡◌, refl, sym, ap, ◌∙◌, subst}
use mathlib.Core.List.{[]}
use Prim.Native.Nat.{ℕ, ◌-◌, ◌≤◌}
use native.Mathlib.Omega.{arith}
use lib.Dec.{T}
use lib.ListN.{length, drop, replicate, length-replicate}
use Rattle.definitions.specs.Limits.{document_01}
use Rattle.definitions.specs.Monomial.{Vector, Level}
use Rattle.definitions.specs.Result.{Result, done, refused, unfinished, finished?, ◌>>=◌}
use Rattle.definitions.specs.Problem.{Bytes, Parameters, problem}
use Rattle.definitions.specs.State.{sound?}
use Rattle.definitions.specs.Layout.{Words}
use Rattle.laws.proofs.Results.{if_done_says}
use Rattle.laws.proofs.Reading.{basis_state, problem_sound}
use Rattle.laws.proofs.Numbers.{Numbered, gives, refuses, stops, open_yet, line_number?, problem_number}
use Rattle.laws.proofs.Finished.{problem_finished}
use Rattle.definitions.specs.Places.{most_components, rows_start, degrees_start, state_length}
use Rattle.vectors.specs.terms.Rows.{cleared}
use Rattle.reader.specs.lines.Steps.{Opened, HeadSaid, head_first}
use Rattle.reader.specs.problem.Reading.{laid_level, degrees_alone, state_read, words_laid, read_as, body_words, problem_words, begun}
use Rattle.reader.specs.problem.Reading.{Weighable, carrying}
use Rattle.reader.proofs.problem.LevelWords.{laid_begun, behind_laid}
use Rattle.reader.proofs.problem.HeadLines.{words_step}
use Rattle.reader.proofs.problem.Carrying.{read_weighable, carrying_is}

-- ## Zeros, and what is begun over them

module _ (s z : Words) (q : Parameters) (d : Words) (e : s ≡ replicate (length s) 0) (h : state_length ≤ length s) (l : length d ≡ most_components)
    (b : z ≡ begun s q d) where
  begun_laid : z ≡ laid_level q [] (degrees_alone (length s) d)
  begun_laid = b ∙ ap (λ x. begun x q d) e ∙ laid_begun q (length s) d h l

  pub begun_behind : drop degrees_start z ≡ degrees_alone (length s) d
  begun_behind = ap (drop degrees_start) begun_laid
      ∙ behind_laid q 0 [] [] (degrees_start - rows_start) (degrees_alone (length s) d) (omega arith) (omega arith)

  pub begun_words : z ≡ laid_level q [] (drop degrees_start z)
  begun_words = begun_laid ∙ ap (laid_level q []) (sym begun_behind)

pub cleared_zeros : (s z : Words) → z ≡ cleared s 0 → z ≡ replicate (length s) 0
cleared_zeros s z e = let n : length s - 0 ≡ length s = omega arith in e ∙ ap (λ k. replicate k 0) n

pub cleared_length : (s z : Words) → z ≡ cleared s 0 → length z ≡ length s
cleared_length s z e = ap length (cleared_zeros s z e) ∙ length-replicate {A = ℕ} (length s) 0

-- ## The head

module _ (size : ℕ) (file : Bytes) where
  abbrev behind_head : Result (Opened HeadSaid) → Result Words
  behind_head x = x >>= λ a. body_words (degrees_alone size a.0.1) a.0.0 a.1 a.2

  pub read_barred : (number place : ℕ) → head_first file ≡ refused number place [] → refused number place [] ≡ problem_words size file
  read_barred number place e = sym (words_step size file ∙ ap behind_head e)

  pub read_on : (a : Opened HeadSaid) → head_first file ≡ done a
      → body_words (degrees_alone size a.0.1) a.0.0 a.1 a.2 ≡ problem_words size file
  read_on a e = sym (words_step size file ∙ ap behind_head e)

-- ## The answer

module _ (size : ℕ) where
  -- the file that was read
  pub read_done : (x : Result (Parameters × Level)) (z : Words) → done z ≡ (x >>= λ f. done (words_laid size f))
      → (f : Parameters × Level) × (x ≡ done f) × (z ≡ words_laid size f)
  read_done (done f) z e = let w : z ≡ words_laid size f = cc in (f, refl, w)
  read_done (refused number place value) z e = let y : ◌≡◌ {A = ℕ} 0 1 = cc in absurd (omega arith)
  read_done unfinished z e = let y : ◌≡◌ {A = ℕ} 0 1 = cc in absurd (omega arith)

  module _ (h : state_length ≤ size) (file : Bytes) (z : Words) (e : done z ≡ problem_words size file) where
    got : (f : Parameters × Level) × (problem document_01 file ≡ done f) × (z ≡ words_laid size f)
    got = read_done (problem document_01 file) z e

    sound : T (sound? document_01 (state_read got.0))
    sound = if_done_says (λ (f : Parameters × Level). T (sound? document_01 (basis_state f))) (problem document_01 file)
        (problem_sound document_01 (omega arith) file) got.0 got.1

    pub answer_weighable : Weighable z
    answer_weighable = subst Weighable (sym got.2) (read_weighable size got.0.0 got.0.1 h sound)

    pub answer_done : (s : Words) → s ≡ carrying z → ◌≡◌ {A = ℕ × ℕ × Words} (0, 0, s) (read_as size (problem document_01 file))
    answer_done s c =
        (λ i. (0, 0, (c ∙ ap carrying got.2 ∙ carrying_is size got.0.0 got.0.1 h sound) i)) ∙ sym (ap (read_as size) got.1)

  pub answer_refused : (x : Result (Parameters × Level)) (number place : ℕ) (s : Words) → s ≡ replicate size 0 → refused number place []
      ≡ (x >>= λ f. done (words_laid size f))
      → ◌≡◌ {A = ℕ × ℕ × Words} (number, place, s) (read_as size x)
  answer_refused (done f) number place s z e = let y : ◌≡◌ {A = ℕ} 0 1 = cc in absurd (omega arith)
  answer_refused (refused number' place' value) number place s z e = let a : number ≡ number' = cc in let b : place
      ≡ place' = cc in λ i. (a i, b i, z i)
  answer_refused unfinished number place s z e = let y : ◌≡◌ {A = ℕ} 0 1 = cc in absurd (omega arith)

  -- ## A refused file leaves nothing of itself behind

  pub refused_leaves_zeros : (file : Bytes) (number place : ℕ) (value : Vector) → problem document_01 file ≡ refused number place value
      → (read_as size (problem document_01 file)).2 ≡ replicate size 0
  refused_leaves_zeros file number place value e = ap (λ x. (read_as size x).2) e

  -- the same by the answer alone: where the number is not 0
  pub a_number_leaves_zeros : (file : Bytes) → ((read_as size (problem document_01 file)).0 ≡ 0 → ⊥) → (read_as size (problem document_01 file)).2
      ≡ replicate size 0
  a_number_leaves_zeros file n = go (problem document_01 file) n
    where
      go : (x : Result (Parameters × Level)) → ((read_as size x).0 ≡ 0 → ⊥) → (read_as size x).2 ≡ replicate size 0
      go (done f) n = absurd (n refl)
      go (refused number place value) n = refl
      go unfinished n = refl

  -- ## What the number says: 0 that the file is read, any other that it is refused

  pub zero_is_read : (file : Bytes) → (read_as size (problem document_01 file)).0 ≡ 0 → (f : Parameters × Level) × (problem document_01 file ≡ done f)
  zero_is_read file z = go (problem_number document_01 file) (problem_finished document_01 file) z
    where
      none_zero : T (line_number? 0) → ⊥
      none_zero t = t

      go : {x : Result (Parameters × Level)} → Numbered line_number? x → T (finished? x) → (read_as size x).0 ≡ 0 → (f : Parameters × Level)
          × (x ≡ done f)
      go (gives {a}) t e = (a, refl)
      go (refuses {number} h) t e = absurd (none_zero (subst (λ n. T (line_number? n)) e h))
      go (stops h) t e = absurd h
      go open_yet t e = absurd t
