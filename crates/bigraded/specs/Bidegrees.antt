-- Request A14, "Two degrees side by side": what the lines say, what is printed for each file, and files with and without G.
use Rattle.std.specs.Prelude.{◌≡◌, ◌⊎◌, ◌↔◌, List, [], ◌∷◌, ◌++◌, ℕ, suc, ◌+◌, ◌<◌, ◌≤◌, T, length}
use Rattle.std.proofs.Math.Option.{some}
use Rattle.definitions.specs.Limits.{Limits, document_01}
use Rattle.definitions.specs.Monomial.{Vector, Level}
use Rattle.definitions.specs.Result.{done, refused}
use Rattle.definitions.specs.Problem.{Bytes, Parameters, Head, head, lines, problem}
use Rattle.definitions.specs.State.{State, sound?}
use Rattle.definitions.specs.Calls.{Call, read, calls}
use Rattle.definitions.specs.Layout.{Words, Lent, lent_calls}
use Rattle.definitions.specs.Betti.{betti}
use Rattle.definitions.specs.Sheet.{sheet, printed, letter_X, x_lines}
use Rattle.definitions.specs.Program.{lifted}
use Rattle.definitions.specs.Bidegrees.{firsts, bidegree, bidegree_lines, bidegrees}
use Rattle.definitions.specs.Places.{most_degree, most_weight, most_weighted, page_columns, row_shift, b_line_length, bidegrees_length}
use Rattle.laws.proofs.Members.{All}
use Rattle.files.specs.Files.{WellFormedFile}
use Rattle.files.specs.Answers.{RefusedRight}
use Rattle.demands.specs.Notions.{GröbnerBasis, Member}
use Rattle.demands.specs.Demands.{limit?, NotAccepted, printed_levels, Listed}
use Rattle.degrees.specs.Notions.{AllAlike}
use Rattle.betti.specs.Notions.{FirstMixed, Homogeneous, generators, all_generators}
use Rattle.betti.specs.Betti.{PageRight}
use Rattle.bigraded.specs.Notions.{file_weights, generators_at, generators_weighted, Entry, entry, entry_line, entry_lines, Ascending, summed}
use Rattle.bigraded.specs.Notions.{summed_all, without_G, AlikeFiles, BothRead, AlikeCalls, AlikeLent}
use Rattle.bigraded.specs.Notions.{WeightTooLarge, DBehindG}

-- ## The lines

-- of levels held highest first, with the weights a and b of each variable
pub record Lines-right (ws : List (ℕ × ℕ)) (q : Parameters) (levels : List Level) (out : Bytes) : Type 0 where
  -- "`B,column,a,b,count`"
  pub entries : List Entry
  pub text : out ≡ entry_lines entries
  -- "by column, then a, then b, ascending": columns 0 to that of the highest level
  pub ascending : Ascending entries
  pub inside : All (λ e. e.column ≤ length levels) entries
  -- "Each count is proved to be the number of generators of that column of A1 whose image has that bidegree."
  pub counts : All (λ e. e.many ≡ generators_at ws q levels e.column (e.first, e.second)) entries
  -- "for all non_zero counts": none is zero, and each bidegree that a generator of the column has is there
  pub non_zero : All (λ e. 1 ≤ e.many) entries
  pub complete : (c a b : ℕ) → 1 ≤ generators_at ws q levels c (a, b) → Member (entry c (a, b) (generators_at ws q levels c (a, b))) entries
  -- "Summed over b, the counts of a column are those that A1 would give with weights a."
  pub sums : (c a : ℕ) → summed entries c a ≡ generators_weighted (firsts ws) q levels c a
  -- each generator is counted in one line
  pub totals : (c : ℕ) → summed_all entries c ≡ all_generators q levels c

-- both numbers have six digits at the most, a count has three, a column's number two; with document 01's limits there are at most 1,408 lines
pub record LinesBounded (entries : List Entry) : Type 0 where
  pub low : All (λ e. (e.first ≤ most_weighted + most_degree) × (e.second ≤ most_weighted)) entries
  pub each : All (λ e. length (entry_line e) ≤ b_line_length) entries
  pub short : length (entry_lines entries) ≤ bidegrees_length

-- ## What is printed

pub data LinesForm (lim : Limits) (bytes : Bytes) : Bytes → Type 0 where
  -- the lines of the levels that the sheet lists, with the file's own weights
  listed_lines : {q : Parameters} {g : Level} {below : List Level} {out : Bytes} (bound : ℕ) (l : Listed lim bytes q g below)
      → sheet lim bound bytes ≡ some (printed_levels q.n (g ∷ below)) → (g ≡ []) ⊎ (length below ≡ lim.levels)
      → Homogeneous (bidegree (file_weights l.well_formed) q.degrees) l.basis
      → (r : Lines-right (file_weights l.well_formed) q (g ∷ below) out) → LinesBounded r.entries → LinesForm lim bytes out
  -- "25 here instead of 17, its place the first such element, when some element has terms of two bidegrees, after acceptance"
  mixed_element : {q : Parameters} {f : Level} {i : ℕ} (w : WellFormedFile lim bytes q f) → GröbnerBasis q [] f
      → FirstMixed (bidegree (file_weights w) q.degrees) f i → LinesForm lim bytes (printed letter_X (25 ∷ i ∷ []))
  -- 13 to 15 while lifting: the sheet's X line, alone
  cut_off : {q : Parameters} {g : Level} {below : List Level} (number bound : ℕ) (l : Listed lim bytes q g below)
      → sheet lim bound bytes ≡ some (printed_levels q.n (g ∷ below) ++ x_lines q.n number (suc (length below)) [])
      → T (limit? number) → length below ≤ lim.levels → Homogeneous (bidegree (file_weights l.well_formed) q.degrees) l.basis
      → LinesForm lim bytes (x_lines q.n number (suc (length below)) [])
  -- the refusals of reading and of acceptance are the sheet's
  not_read : {number place : ℕ} → RefusedRight lim bytes number place → LinesForm lim bytes (printed letter_X (number ∷ place ∷ []))
  not_taken : {q : Parameters} {number place : ℕ} {value : Vector} → NotAccepted lim bytes q number place value
      → LinesForm lim bytes (x_lines q.n number place value)

pub record BidegreesRight (lim : Limits) : Type 0 where
  -- for every file some bound on the steps suffices, and no two bounds give two answers
  pub lines_end : (bytes : Bytes) → (n : ℕ) × ((out : Bytes) × (bidegrees lim n bytes ≡ some out))
  pub one_answer : (n m : ℕ) (bytes a b : Bytes) → bidegrees lim n bytes ≡ some a → bidegrees lim m bytes ≡ some b → a ≡ b
  pub forms : (n : ℕ) (bytes out : Bytes) → bidegrees lim n bytes ≡ some out → LinesForm lim bytes out
  -- what refuses a file, malformed or not accepted, is printed as by the sheet
  pub as_the_sheet : (n : ℕ) (bytes : Bytes) (number place : ℕ) (value : Vector) → read lim n bytes ≡ refused number place value
      → bidegrees lim n bytes ≡ sheet lim n bytes
  -- 25 exactly where the file is accepted and element i is the first with terms of two bidegrees, whatever lifting would give: the bound that
  -- suffices for reading suffices
  pub twenty_five : (n : ℕ) (bytes : Bytes) (i : ℕ) → (bidegrees lim n bytes ≡ some (printed letter_X (25 ∷ i ∷ [])))
      ↔ ((q : Parameters) × ((f : Level) × ((w : WellFormedFile lim bytes q f)
      × ((read lim n bytes ≡ done (record { parameters = q; levels = f ∷ [] })) × FirstMixed (bidegree (file_weights w) q.degrees) f i))))
  -- .. "instead of 17", which does not come
  pub no_seventeen : (n : ℕ) (bytes : Bytes) (i : ℕ) → ¬ (bidegrees lim n bytes ≡ some (printed letter_X (17 ∷ i ∷ [])))
  -- "That sum is proved for any weights": so is all that the lines say, of any state
  pub any_weights : (ws : List (ℕ × ℕ)) (X : State) → Lines-right ws X.parameters X.levels (bidegree_lines ws X)
  -- "with every a at 1 it is A1's page": the sums are A1's counts ..
  pub ones : (ws : List (ℕ × ℕ)) (X : State) → T (sound? lim X) → length ws ≡ X.parameters.n → All (λ w. w.0 ≡ 1) ws → (c x : ℕ)
      → generators_weighted (firsts ws) X.parameters X.levels c x ≡ generators X.parameters X.levels c x
  -- .. and stand on its page, at row and column
  pub as_the_page : (ws : List (ℕ × ℕ)) (X : State) (out page : Bytes) → T (sound? lim X) → length ws ≡ X.parameters.n → All (λ w. w.0 ≡ 1) ws
      → (l : Lines-right ws X.parameters X.levels out) (p : PageRight X.parameters X.levels page)
      → (r c x : ℕ) → c < page_columns → x + row_shift ≡ r + c → p.at r c ≡ summed l.entries c x
  -- of a sound state, with weights of 0 to 15: numbers and lines are short ..
  pub bounded : (ws : List (ℕ × ℕ)) (X : State) → T (sound? lim X) → All (λ w. (w.0 ≤ most_weight) × (w.1 ≤ most_weight)) ws
      → LinesBounded (any_weights ws X).entries
  -- .. and all lines of a file are at most 32,384 bytes
  pub short : (n : ℕ) (bytes : Bytes) (h : Head) (X Y : State) → head lim bytes ≡ done h → read lim n bytes ≡ done X → lifted lim n X ≡ done Y
      → length (bidegree_lines h.weights Y) ≤ bidegrees_length

-- with document 01's limits so is whatever is printed, a refusal with its W lines too
abbrev pub AlwaysShort : Type 0
AlwaysShort = (n : ℕ) (bytes out : Bytes) → bidegrees document_01 n bytes ≡ some out → length out ≤ bidegrees_length

-- ## With G as without it

pub record SameWithG (lim : Limits) : Type 0 where
  -- "A1's page is unaffected by G": the same parameters and elements, which is all that other programs take of a file ..
  pub basis : (bytes bytes' : Bytes) → AlikeFiles bytes bytes' → BothRead lim bytes bytes' → problem lim bytes ≡ problem lim bytes'
  -- .. and where a file with G is read, so is the file that lacks this line ..
  pub left_out : (bytes bytes' : Bytes) (q : Parameters) (f : Level) → WellFormedFile lim bytes q f → lines bytes' ≡ without_G (lines bytes)
      → problem lim bytes' ≡ done (q, f)
  -- .. the same state, or the same refusal ..
  pub reading : (n : ℕ) (bytes bytes' : Bytes) → AlikeFiles bytes bytes' → BothRead lim bytes bytes' → read lim n bytes ≡ read lim n bytes'
  -- .. the same sheet and the same page ..
  pub sheets : (n : ℕ) (bytes bytes' : Bytes) → AlikeFiles bytes bytes' → BothRead lim bytes bytes' → sheet lim n bytes ≡ sheet lim n bytes'
  pub pages : (n : ℕ) (bytes bytes' : Bytes) → AlikeFiles bytes bytes' → BothRead lim bytes bytes' → betti lim n bytes ≡ betti lim n bytes'
  -- .. and in every list of calls, on buffers too, the same replies, states and words
  pub all_calls : (n : ℕ) (X : State) (cs cs' : List Call) → AllAlike (AlikeCalls lim) cs cs' → calls lim n X cs ≡ calls lim n X cs'
  pub buffers : (n : ℕ) (state : Words) (cs cs' : List Lent) → AllAlike (AlikeLent lim) cs cs' → lent_calls lim n state cs ≡ lent_calls lim n state cs'
  -- "24 when a weight is above 15, after its line's shape": exactly then, at line 2 or 3
  pub twenty_four : (bytes : Bytes) (place : ℕ) → length bytes ≤ lim.file → WeightTooLarge lim bytes place ↔ (problem lim bytes ≡ refused 24 place [])
  -- D stands before G: behind it, it is 1 at its line
  pub d_behind_g : (bytes : Bytes) (place : ℕ) → length bytes ≤ lim.file → DBehindG lim bytes place → problem lim bytes ≡ refused 1 place []
