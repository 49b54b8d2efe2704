-- Request A10, "Resolutions that end in n levels": of frames, of the reckoning's levels, of what a list of calls leaves, and of the printed sheet.
use Rattle.std.specs.Prelude.{◌≡◌, List, [], ◌∷◌, ◌++◌, ℕ, suc, ◌<◌, ◌≤◌, T, length}
use Rattle.std.proofs.Math.Option.{some}
use Rattle.definitions.specs.Limits.{Limits}
use Rattle.definitions.specs.Lists.{every}
use Rattle.definitions.specs.Monomial.{Monomial, Vector, Level, leading, leading_monomials}
use Rattle.definitions.specs.Problem.{Bytes, Parameters}
use Rattle.definitions.specs.Sheet.{sheet, printed, letter_X, x_lines}
use Rattle.definitions.specs.Layout.{Words, meant, Lent, Left, lent_calls}
use Rattle.files.specs.Files.{WellFormedFile}
use Rattle.files.specs.Answers.{RefusedRight}
use Rattle.demands.specs.Notions.{Member, GröbnerBasis}
use Rattle.demands.specs.Exact.{Reckons}
use Rattle.demands.specs.Demands.{limit?, level_of, NotAccepted, printed_levels, Listed, left_by, Starts}
use Rattle.lengths.specs.Notions.{free_of_first?, in_variables?, Prepared, frame_terms}

-- ## Frames

pub record FramesEnd : Type 0 where
  -- "no frame term of level k, k up to n, contains any of x1 to xk ..
  pub free : (n : ℕ) (ms : List Monomial) → 1 ≤ n → T (every (in_variables? n) ms) → Prepared ms → (k : ℕ) → k ≤ n → (t : Monomial)
      → Member t (frame_terms k ms) → T (free_of_first? k t)
  -- .. and level n is empty", and so are those above it
  pub short : (n : ℕ) (ms : List Monomial) → 1 ≤ n → T (every (in_variables? n) ms) → Prepared ms → (k : ℕ) → n ≤ k → frame_terms k ms ≡ []
  -- "level n + 1 is empty", whatever the leading monomials are, and so are those above it
  pub ends : (n : ℕ) (ms : List Monomial) → 1 ≤ n → T (every (in_variables? n) ms) → (k : ℕ) → n < k → frame_terms k ms ≡ []

-- ## Levels

-- of levels held highest first, level 0 being f
pub record EndsIn (n : ℕ) (f : Level) (levels : List Level) : Type 0 where
  -- a level's vectors have its frame terms in front
  pub framed : (k : ℕ) → k < length levels → leading_monomials (level_of levels k) ≡ frame_terms k (leading_monomials f)
  -- "if the file's elements with leading monomials in one component stand in ascending lexicographic order of these, and none of these divides
  -- another, then no frame term of level k, k up to n, contains any of x1 to xk ..
  pub free : Prepared (leading_monomials f) → (k : ℕ) → k < length levels → k ≤ n → (v : Vector) → Member v (level_of levels k)
      → T (free_of_first? k (leading v))
  -- .. and level n is empty."
  pub short : Prepared (leading_monomials f) → (k : ℕ) → k < length levels → n ≤ k → level_of levels k ≡ []
  -- "For any accepted file level n + 1 is empty"
  pub ends : (k : ℕ) → k < length levels → n < k → level_of levels k ≡ []

-- What is printed: demand 1's forms of a sheet, with how many levels. It ends with an empty level, whose number is at most n + 1 (n where the
-- elements stand as wanted), or with a limit's X line after at most n levels (fewer than n), or the file was not read or not accepted.
pub data EndedSheet (lim : Limits) (bytes : Bytes) : Bytes → Type 0 where
  listing : {q : Parameters} {below : List Level} (l : Listed lim bytes q [] below) → length below ≤ suc q.n
      → (Prepared (leading_monomials l.basis) → length below ≤ q.n)
      → EndedSheet lim bytes (printed_levels q.n ([] ∷ below))
  cut_off : {q : Parameters} {g : Level} {below : List Level} (number : ℕ) (l : Listed lim bytes q g below) → ¬ (g ≡ []) → T (limit? number)
      → length below ≤ q.n → (Prepared (leading_monomials l.basis) → length below < q.n)
      → EndedSheet lim bytes (printed_levels q.n (g ∷ below) ++ x_lines q.n number (suc (length below)) [])
  not_read : {number place : ℕ} → RefusedRight lim bytes number place → EndedSheet lim bytes (printed letter_X (number ∷ place ∷ []))
  not_taken : {q : Parameters} {number place : ℕ} {value : Vector} → NotAccepted lim bytes q number place value
      → EndedSheet lim bytes (x_lines q.n number place value)

pub record LevelsEnd (lim : Limits) : Type 0 where
  -- "For any accepted file level n + 1 is empty": it is there in the reckoning, which no limit binds. A file is accepted if its elements are a Gröbner
  -- basis
  pub empty : (bytes : Bytes) (q : Parameters) (f : Level) → WellFormedFile lim bytes q f → GröbnerBasis q [] f
      → (below : List Level) × Reckons lim (record { basis = some (q, f); h = suc q.n }) ([] ∷ below)
  -- the reckoning of such a file has levels up to any number h, and they end so
  pub reckoned : (bytes : Bytes) (q : Parameters) (f : Level) → WellFormedFile lim bytes q f → GröbnerBasis q [] f
      → (h : ℕ) → (levels : List Level) × Reckons lim (record { basis = some (q, f); h = h }) levels
  pub files : (bytes : Bytes) (q : Parameters) (f : Level) → WellFormedFile lim bytes q f → GröbnerBasis q [] f
      → (h : ℕ) (levels : List Level) → Reckons lim (record { basis = some (q, f); h = h }) levels → (length levels ≡ suc h) × EndsIn q.n f levels
  -- the levels of the state that any list of calls leaves
  pub calls : (n : ℕ) (state : Words) (cs : List Lent) (ls : List Left) → lent_calls lim n state cs ≡ some ls → Starts state cs ls
      → EndsIn (meant lim (left_by state ls)).parameters.n (level_of (meant lim (left_by state ls)).levels 0) (meant lim (left_by state ls)).levels
  -- "so 20 comes no more": wherever the last level, 9, is complete it is empty
  pub no_20 : (n : ℕ) (state : Words) (cs : List Lent) (ls : List Left) → lent_calls lim n state cs ≡ some ls → Starts state cs ls
      → lim.levels < length (meant lim (left_by state ls)).levels → level_of (meant lim (left_by state ls)).levels lim.levels ≡ []
  pub sheets : (n : ℕ) (bytes out : Bytes) → sheet lim n bytes ≡ some out → EndedSheet lim bytes out
