-- Request A6: what is claimed of a completed basis.
use Rattle.std.specs.Prelude.{◌≡◌, ◌↔◌, [], ◌∷◌, ◌++◌, ℕ, suc, ◌+◌, ◌-◌, ◌<◌, ◌≤◌, T, length, take}
use Rattle.std.proofs.Math.Option.{some}
use Rattle.definitions.specs.Limits.{Limits}
use Rattle.definitions.specs.Monomial.{Vector, Level, leading_term, leading, vector_of}
use Rattle.definitions.specs.Result.{done, refused}
use Rattle.definitions.specs.Problem.{Bytes, Parameters}
use Rattle.definitions.specs.State.{State, levels_sound?, terms_of}
use Rattle.definitions.specs.Calls.{accepted, read}
use Rattle.definitions.specs.Sheet.{x_lines}
use Rattle.definitions.specs.Written.{end_line}
use Rattle.definitions.specs.Completing.{monic, with_element, completing}
use Rattle.files.specs.Files.{Given, first_term_line, WellFormedFile}
use Rattle.files.specs.Answers.{RefusedRight}
use Rattle.demands.specs.Notions.{Combination, Divided, GröbnerBasis}
use Rattle.demands.specs.Exact.{ShowsWhy}
use Rattle.demands.specs.Demands.{limit?}

-- ## The elements

-- "the value shown": the file would end in 9 with it, and it shows why
pub record Shown (lim : Limits) (n : ℕ) (q : Parameters) (f : Level) (value : Vector) : Type 0 where
  pub frame_term : ℕ
  pub by_nine : accepted lim n (q, f) ≡ refused 9 frame_term value
  pub why : ShowsWhy lim q f value

-- "adds the value shown, made monic, as the last element, and tries again"
pub data Grows (lim : Limits) (n : ℕ) (q : Parameters) : Level → Level → Type 0 where
  stays : {f : Level} → Grows lim n q f f
  grows : {f g : Level} → T (levels_sound? lim q (f ∷ [])) → (value : Vector) → Shown lim n q f value
      → Grows lim n q (f ++ monic q.p value ∷ []) g → Grows lim n q f g

-- the elements f of the file and those of the completed one
pub record Grown (q : Parameters) (f g : Level) : Type 0 where
  pub extends : (added : Level) × (g ≡ f ++ added)
  -- "old and new elements generate the same module": combinations both ways
  pub same_module : (v : Vector) → Combination q f v ↔ Combination q g v
  -- "Each added leading monomial is divisible by no earlier one."
  pub undivided : (i : ℕ) → length f < i → i ≤ length g → ¬ (Divided (take (i - 1) g) (leading (vector_of g i)))
  -- "made monic"
  pub monics : (i : ℕ) → length f < i → i ≤ length g → (leading_term (vector_of g i)).0 ≡ 1

-- ## The file

-- "no line given before E is changed": what stood before E stands there, D and G included, and what is added stands between it and the new E line
pub record Kept (f g : Level) (bytes longer : Bytes) : Type 0 where
  pub before : Bytes
  pub added : Bytes
  pub given : bytes ≡ before ++ end_line f
  pub longer_is : longer ≡ before ++ (added ++ end_line g)

-- "where no refusal comes": a file whose elements are f, and the completed one
pub record Completes (lim : Limits) (n : ℕ) (q : Parameters) (f : Level) (bytes longer : Bytes) : Type 0 where
  pub new : Level
  -- "in the problem format", "The completed file is read like any other."
  pub well_formed : WellFormedFile lim longer q new
  pub kept : Kept f new bytes longer
  -- each value that was added, and what follows from it
  pub steps : Grows lim n q f new
  pub grown : Grown q f new
  -- "and the result is accepted"
  pub accepted : read lim n longer ≡ done (record { parameters = q; levels = new ∷ [] })
  pub basis : GröbnerBasis q [] new

-- how the work ends otherwise, after some additions; the file given has these lines before its first T line
pub data Stops (lim : Limits) (n : ℕ) (given : Given) (q : Parameters) (f : Level) : ℕ → ℕ → Type 0 where
  -- "Limits 13 to 15 end the work as in acceptance."
  limited : {g : Level} (number : ℕ) → Grows lim n q f g → accepted lim n (q, g) ≡ refused number 0 [] → T (limit? number)
      → Stops lim n given q f number 0
  -- "19 when a 65th element would be added (place 65)"
  too_many : {g : Level} (value : Vector) → Grows lim n q f g → Shown lim n q g value → length g ≡ lim.elements
      → Stops lim n given q f 19 (suc lim.elements)
  -- "1 at line 0 for a result too long for a problem file": the file so far, and the longer one
  too_long : {g : Level} (value : Vector) (so_far : Bytes) → Grows lim n q f g → Shown lim n q g value → length g < lim.elements
      → WellFormedFile lim so_far q g → lim.file < length (with_element q.n so_far g (monic q.p value))
      → Stops lim n given q f 1 0
  -- "8 for a 2,049th T line": the number that this line would have
  too_many_lines : {g : Level} (value : Vector) (so_far : Bytes) → Grows lim n q f g → Shown lim n q g value → length g < lim.elements
      → WellFormedFile lim so_far q g → length (with_element q.n so_far g (monic q.p value)) ≤ lim.file → lim.t_lines < terms_of g + length value
      → Stops lim n given q f 8 (first_term_line given + lim.t_lines)

-- ## The program

pub data Printed (lim : Limits) (n : ℕ) (bytes : Bytes) : Bytes → Type 0 where
  -- "It prints the file so obtained, in the problem format"
  printed_file : {q : Parameters} {f : Level} {out : Bytes} → WellFormedFile lim bytes q f → Completes lim n q f bytes out → Printed lim n bytes out
  printed_refusal : {q : Parameters} {f : Level} {number place : ℕ} (w : WellFormedFile lim bytes q f) → Stops lim n w.given q f number place
      → Printed lim n bytes (x_lines q.n number place [])
  -- a file that is not read is refused as the reader refuses it
  not_read : {number place : ℕ} → RefusedRight lim bytes number place → Printed lim n bytes (x_lines 0 number place [])

pub record CompletingRight (lim : Limits) : Type 0 where
  pub prints : (n : ℕ) (bytes out : Bytes) → completing lim n bytes ≡ some out → Printed lim n bytes out
  -- "one accepted at once is printed unchanged"
  pub unchanged : (n : ℕ) (bytes : Bytes) (X : State) → read lim n bytes ≡ done X → completing lim n bytes ≡ some bytes
  -- for every file some bound suffices, and no two bounds give two answers
  pub ends : (bytes : Bytes) → (n : ℕ) × ((out : Bytes) × (completing lim n bytes ≡ some out))
  pub one_answer : (n m : ℕ) (bytes a b : Bytes) → completing lim n bytes ≡ some a → completing lim m bytes ≡ some b → a ≡ b
