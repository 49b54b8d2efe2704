-- Request A7, "Minimal Betti numbers": what the numbers are, and what is printed for each file.
use Rattle.std.specs.Prelude.{◌≡◌, ◌↔◌, List, [], ◌∷◌, ◌++◌, ℕ, suc, ◌+◌, ◌-◌, ◌<◌, ◌≤◌, T, length}
use Rattle.std.proofs.Math.Option.{some}
use Rattle.definitions.specs.Limits.{Limits}
use Rattle.definitions.specs.Lists.{every, map, from, sum}
use Rattle.definitions.specs.Monomial.{Vector, Level}
use Rattle.definitions.specs.Result.{done, refused, ◌>>=◌}
use Rattle.definitions.specs.Problem.{Bytes, Parameters, lines}
use Rattle.definitions.specs.Degrees.{degree_by}
use Rattle.definitions.specs.Calls.{read}
use Rattle.definitions.specs.Sheet.{sheet, printed, letter_X, x_lines}
use Rattle.definitions.specs.Pages.{page}
use Rattle.definitions.specs.Betti.{betti_of, betti}
use Rattle.definitions.specs.Rank.{rank}
use Rattle.definitions.specs.Minimal.{minimal_of, minimal}
use Rattle.definitions.specs.Places.{page_columns, row_shift, page_length}
use Rattle.files.specs.Files.{WellFormedFile}
use Rattle.files.specs.Answers.{RefusedRight}
use Rattle.demands.specs.Notions.{GröbnerBasis}
use Rattle.demands.specs.Demands.{limit?, NotAccepted, printed_levels, Listed}
use Rattle.ranks.specs.Notions.{ProductZero}
use Rattle.betti.specs.Notions.{FirstMixed, Homogeneous, generators, all_generators, line_wide?}
use Rattle.betti.specs.Betti.{PageRight}
use Rattle.minimal_numbers.specs.Notions.{entering, leaving}

-- ## The numbers

-- by row, counted from −10, and column; of levels held highest first
pub record NumbersRight (q : Parameters) (levels : List Level) (at : ℕ → ℕ → ℕ) : Type 0 where
  -- "The minimal number is the count less the rank of the matrix leaving that column and less the rank of the one entering it.", "every one must be proved
  -- zero or more": number and ranks together are the count
  pub differences : (r c x : ℕ) → c < page_columns → x + row_shift ≡ r + c
      → at r c + (rank q.p (leaving q levels c x) + rank q.p (entering q levels c x)) ≡ generators q levels c x
  -- no degree is negative
  pub below : (r c : ℕ) → r + c < row_shift → at r c ≡ 0

-- ## A page

-- beside A1's page of the same levels
pub record MinimalRight (q : Parameters) (levels : List Level) (counted out : Bytes) : Type 0 where
  pub counts : PageRight q levels counted
  pub at : ℕ → ℕ → ℕ
  pub numbers : NumbersRight q levels at
  -- "as a page in the same layout and rows"
  pub text : out ≡ page at (from counts.first (suc counts.last - counts.first))
  -- each number, and each of the last row's sums, is at most A1's
  pub at_most : (r c : ℕ) → c < page_columns → at r c ≤ counts.at r c
  pub totals : (c : ℕ) → c < page_columns
      → sum (map (λ r. at r c) (from counts.first (suc counts.last - counts.first))) ≤ all_generators q levels c
  -- lines of exactly 72 columns, as many as A1's page has
  pub wide : T (every line_wide? (lines out))
  pub many : length (lines out) ≡ length (lines counted)
  pub long : length out ≡ length counted
  pub short : length out ≤ page_length

-- ## What is printed

-- there is no form with 20
pub data MinimalForm (lim : Limits) (bytes : Bytes) : Bytes → Type 0 where
  -- the numbers of the levels that the sheet lists, the highest of which is empty, in the rows of the file's Betti page
  paged : {q : Parameters} {below : List Level} {counted out : Bytes} (bound : ℕ) (l : Listed lim bytes q [] below)
      → sheet lim bound bytes ≡ some (printed_levels q.n ([] ∷ below)) → betti lim bound bytes ≡ some counted
      → Homogeneous (degree_by q.degrees) l.basis → MinimalRight q ([] ∷ below) counted out → MinimalForm lim bytes out
  -- "17 applies as before."
  mixed_element : {q : Parameters} {f : Level} {i : ℕ} → WellFormedFile lim bytes q f → GröbnerBasis q [] f → FirstMixed (degree_by q.degrees) f i
      → MinimalForm lim bytes (printed letter_X (17 ∷ i ∷ []))
  -- 13 to 15 while lifting: the sheet's X line, alone
  cut_off : {q : Parameters} {g : Level} {below : List Level} (number bound : ℕ) (l : Listed lim bytes q g below)
      → sheet lim bound bytes ≡ some (printed_levels q.n (g ∷ below) ++ x_lines q.n number (suc (length below)) [])
      → T (limit? number) → Homogeneous (degree_by q.degrees) l.basis
      → MinimalForm lim bytes (x_lines q.n number (suc (length below)) [])
  -- the refusals of reading and of acceptance are the sheet's
  not_read : {number place : ℕ} → RefusedRight lim bytes number place → MinimalForm lim bytes (printed letter_X (number ∷ place ∷ []))
  not_taken : {q : Parameters} {number place : ℕ} {value : Vector} → NotAccepted lim bytes q number place value
      → MinimalForm lim bytes (x_lines q.n number place value)

pub record MinimalPageRight (lim : Limits) : Type 0 where
  -- for every file some bound on the steps suffices, and no two bounds give two pages
  pub page_ends : (bytes : Bytes) → (n : ℕ) × ((out : Bytes) × (minimal lim n bytes ≡ some out))
  pub one_page : (n m : ℕ) (bytes a b : Bytes) → minimal lim n bytes ≡ some a → minimal lim m bytes ≡ some b → a ≡ b
  pub pages : (n : ℕ) (bytes out : Bytes) → minimal lim n bytes ≡ some out → MinimalForm lim bytes out
  -- refused exactly where A1's page is, with the same number, place and value, and so with the same bytes
  pub refusals : (n : ℕ) (bytes : Bytes) (number place : ℕ) (value : Vector)
      → ((read lim n bytes >>= minimal_of lim n) ≡ refused number place value) ↔ ((read lim n bytes >>= betti_of lim n) ≡ refused number place value)
  pub as_the_page : (n : ℕ) (bytes : Bytes) (number place : ℕ) (value : Vector) → (read lim n bytes >>= betti_of lim n) ≡ refused number place value
      → minimal lim n bytes ≡ betti lim n bytes
  -- 17 exactly where A1's page has it
  pub seventeen : (n : ℕ) (bytes : Bytes) (i : ℕ) → (minimal lim n bytes ≡ some (printed letter_X (17 ∷ i ∷ [])))
      ↔ ((q : Parameters) × ((f : Level) × ((read lim n bytes ≡ done (record { parameters = q; levels = f ∷ [] })) × FirstMixed (degree_by q.degrees) f i)))
  -- "20 (place 9) when level 9 is not empty, tested after all lifting": it is empty for every accepted file (A10)
  pub never_twenty : (n : ℕ) (bytes : Bytes) (place : ℕ) → ¬ (minimal lim n bytes ≡ some (printed letter_X (20 ∷ place ∷ [])))
  -- in every degree the matrices of neighbouring columns multiply to zero
  pub annihilate : (bytes : Bytes) (q : Parameters) (g : Level) (below : List Level) (l : Listed lim bytes q g below)
      → Homogeneous (degree_by q.degrees) l.basis → (c x : ℕ)
      → ProductZero q.p (entering q (g ∷ below) (suc c) x) (entering q (g ∷ below) c x)
