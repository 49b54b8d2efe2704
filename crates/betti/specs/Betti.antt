-- Request A1, "Betti page": what is printed for each file, and what a page says of the levels that the sheet lists.
use Rattle.std.specs.Prelude.{◌≡◌, ◌⊎◌, ◌↔◌, List, [], ◌∷◌, ◌++◌, ℕ, suc, ◌+◌, ◌-◌, ◌*◌, ◌<◌, ◌≤◌, T, eqb, length, replicate}
use Rattle.std.proofs.Math.Option.{some}
use Rattle.definitions.specs.Limits.{Limits}
use Rattle.definitions.specs.Lists.{every, count, map, from, sum}
use Rattle.definitions.specs.Monomial.{Vector, Level, degree, leading, leading_monomials}
use Rattle.definitions.specs.Frame.{frame}
use Rattle.definitions.specs.Result.{done, refused}
use Rattle.definitions.specs.Problem.{Bytes, Parameters, lines}
use Rattle.definitions.specs.Degrees.{degree_by, image_over, degree_of}
use Rattle.definitions.specs.State.{State}
use Rattle.definitions.specs.Calls.{read}
use Rattle.definitions.specs.Sheet.{sheet, printed, letter_X, x_lines}
use Rattle.definitions.specs.Program.{lifted}
use Rattle.definitions.specs.Pages.{page}
use Rattle.definitions.specs.Betti.{betti_page, betti}
use Rattle.definitions.specs.Places.{exponents_length, most_exponent, most_degree, most_carried, most_vectors}
use Rattle.definitions.specs.Places.{page_columns, row_shift, page_line_length, page_length}
use Rattle.files.specs.Files.{WellFormedFile}
use Rattle.files.specs.Answers.{RefusedRight}
use Rattle.demands.specs.Notions.{GröbnerBasis}
use Rattle.demands.specs.Demands.{limit?, level_of, NotAccepted, printed_levels, Listed}
use Rattle.degrees.specs.Notions.{levels_below}
use Rattle.betti.specs.Notions.{FirstMixed, Homogeneous, generators, all_generators, InUse, line_wide?}

-- ## A page

-- of levels held highest first
pub record PageRight (q : Parameters) (levels : List Level) (out : Bytes) : Type 0 where
  -- the smallest and the largest row in use, counted from −10, and the numbers by row and column
  pub first : ℕ
  pub last : ℕ
  pub at : ℕ → ℕ → ℕ
  -- "Every row from the smallest to the largest in use is printed", in order and none twice, and a last row with the sums
  pub text : out ≡ page at (from first (suc last - first))
  pub smallest : InUse q levels first
  pub largest : InUse q levels last
  pub all : (r : ℕ) → InUse q levels r → (first ≤ r) × (r ≤ last)
  -- "Each count must equal the number of listed vectors of that degree."
  pub counts : (r c x : ℕ) → c < page_columns → x + row_shift ≡ r + c → at r c ≡ generators q levels c x
  -- no degree is negative
  pub below : (r c : ℕ) → r + c < row_shift → at r c ≡ 0
  -- the last row has all generators of each column: each is counted in one row
  pub totals : (c : ℕ) → c < page_columns → sum (map (λ r. at r c) (from first (suc last - first))) ≡ all_generators q levels c
  -- no number has more than three digits, no row's more than five
  pub few : (r c : ℕ) → at r c ≤ most_vectors
  pub few_in_all : (c : ℕ) → c < page_columns → all_generators q levels c ≤ most_vectors
  pub low : last ≤ most_carried + row_shift
  -- "in lines of exactly 72 columns", one for each row and one for the totals
  pub wide : T (every line_wide? (lines out))
  pub many : length (lines out) ≡ suc (suc last - first)
  pub short : length out ≤ page_length

-- ## What is printed

pub data PageForm (lim : Limits) (bytes : Bytes) : Bytes → Type 0 where
  -- "Levels are lifted as for the sheet": the page of the levels that the sheet lists
  paged : {q : Parameters} {g : Level} {below : List Level} {out : Bytes} (bound : ℕ) (l : Listed lim bytes q g below)
      → sheet lim bound bytes ≡ some (printed_levels q.n (g ∷ below)) → (g ≡ []) ⊎ (length below ≡ lim.levels)
      → Homogeneous (degree_by q.degrees) l.basis → PageRight q (g ∷ below) out → PageForm lim bytes out
  -- "17, with the first such element as place, when some element has terms of two degrees, tested after acceptance"
  mixed_element : {q : Parameters} {f : Level} {i : ℕ} → WellFormedFile lim bytes q f → GröbnerBasis q [] f → FirstMixed (degree_by q.degrees) f i
      → PageForm lim bytes (printed letter_X (17 ∷ i ∷ []))
  -- 13 to 15 while lifting: the sheet's X line, alone
  cut_off : {q : Parameters} {g : Level} {below : List Level} (number bound : ℕ) (l : Listed lim bytes q g below)
      → sheet lim bound bytes ≡ some (printed_levels q.n (g ∷ below) ++ x_lines q.n number (suc (length below)) [])
      → T (limit? number) → Homogeneous (degree_by q.degrees) l.basis
      → PageForm lim bytes (x_lines q.n number (suc (length below)) [])
  -- the refusals of reading and of acceptance are the sheet's
  not_read : {number place : ℕ} → RefusedRight lim bytes number place → PageForm lim bytes (printed letter_X (number ∷ place ∷ []))
  not_taken : {q : Parameters} {number place : ℕ} {value : Vector} → NotAccepted lim bytes q number place value
      → PageForm lim bytes (x_lines q.n number place value)

pub record BettiRight (lim : Limits) : Type 0 where
  -- for every file some bound on the steps suffices, and no two bounds give two pages
  pub page_ends : (bytes : Bytes) → (n : ℕ) × ((out : Bytes) × (betti lim n bytes ≡ some out))
  pub one_page : (n m : ℕ) (bytes a b : Bytes) → betti lim n bytes ≡ some a → betti lim m bytes ≡ some b → a ≡ b
  pub pages : (n : ℕ) (bytes out : Bytes) → betti lim n bytes ≡ some out → PageForm lim bytes out
  -- what refuses a file, malformed or not accepted, is printed as by the sheet
  pub as_the_sheet : (n : ℕ) (bytes : Bytes) (number place : ℕ) (value : Vector) → read lim n bytes ≡ refused number place value
      → betti lim n bytes ≡ sheet lim n bytes
  -- 17 exactly where the file is accepted and element i is the first with terms of two degrees, whatever lifting would give: the bound that
  -- suffices for reading suffices
  pub seventeen : (n : ℕ) (bytes : Bytes) (i : ℕ) → (betti lim n bytes ≡ some (printed letter_X (17 ∷ i ∷ [])))
      ↔ ((q : Parameters) × ((f : Level) × ((read lim n bytes ≡ done (record { parameters = q; levels = f ∷ [] })) × FirstMixed (degree_by q.degrees) f i)))
  -- the image of a frame term is the least common multiple of two leading monomials' images, so that no degree is above 2,295: a file's page has
  -- at most 2,307 lines, 168,411 bytes
  pub few_lines : (n : ℕ) (bytes : Bytes) (X Y : State) → read lim n bytes ≡ done X → lifted lim n X ≡ done Y
      → length (betti_page Y) ≤ suc (suc (exponents_length * most_exponent + most_degree + row_shift)) * page_line_length
  -- "A vector's degree is the total degree of its frame term's image monomial in level 0's free module": the vectors of level k + 1 that are counted
  -- are as many as its frame terms of that degree
  pub by_frame_terms : (bytes : Bytes) (q : Parameters) (g : Level) (below : List Level) → Listed lim bytes q g below → (k x : ℕ)
      → suc k < length (g ∷ below)
      → generators q (g ∷ below) (suc (suc k)) x
      ≡ count (λ m. eqb (degree_by q.degrees (image_over (levels_below (g ∷ below) (suc k)) m)) x)
      (frame (lim.numbering q.code) (leading_monomials (level_of (g ∷ below) k)))
  -- "a component has degree 0": without D a vector's degree is the total degree of its leading monomial's image
  pub plain : (s : ℕ) (below : List Level) (v : Vector) → degree_of (replicate s 0) below v ≡ degree (image_over below (leading v)).0
