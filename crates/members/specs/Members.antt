-- Request A12: what is claimed of a division by the elements of a file, and of the program.
use Rattle.std.specs.Prelude.{◌≡◌, ◌↔◌, ◌⊎◌, Bool, [], ◌∷◌, ◌++◌, ℕ, suc, ◌+◌, ◌<◌, ◌≤◌, T, length}
use Rattle.std.proofs.Math.Option.{some}
use Rattle.definitions.specs.Limits.{Limits}
use Rattle.definitions.specs.Lists.{◌and◌, every, empty?, between}
use Rattle.definitions.specs.Monomial.{Term, Vector, Level}
use Rattle.definitions.specs.Order.{compare_over}
use Rattle.definitions.specs.Reducer.{lower_order?, heads, answer}
use Rattle.definitions.specs.Result.{Result, done, refused, finished?}
use Rattle.definitions.specs.Vectors.{strictly_descending?, descending}
use Rattle.definitions.specs.Stage.{stage_over}
use Rattle.definitions.specs.Problem.{Bytes, Parameters, lines, problem}
use Rattle.definitions.specs.State.{State, up_to, term_sound?, sound?}
use Rattle.definitions.specs.Sheet.{printed, term_fields, w_lines, x_lines, variables_of}
use Rattle.files.specs.Files.{WellFormedFile}
use Rattle.demands.specs.Notions.{put_for, proper?, Equal, Combination, Divided, GröbnerBasis, Member}
use Rattle.demands.specs.Demands.{RefusedReading}
use Rattle.definitions.specs.After.{file_of, after, lines_after, first_after}
use Rattle.definitions.specs.Membership.{letter_V, Division, divide, v_lines, Parts, lent_terms, lent_divided, c_lines, m_line, membership}

-- what V lines bring: terms in range, "strictly descending"
abbrev pub brought? : Limits → Parameters → Vector → Bool
brought? lim q v = every (term_sound? lim q q.s) v and strictly_descending? (compare_over q.code []) v

-- the division of v by f, within n steps
abbrev pub division_of : Limits → Parameters → Level → Vector → ℕ → Result Division
division_of lim q f v n = divide (stage_over lim q.p q.code (f ∷ [])) n (record { value = v; quotients = []; remainder = [] })

-- the quotients as they are printed
abbrev pub quotients_of : Parameters → Level → Division → Vector
quotients_of q f d = descending (compare_over q.code (f ∷ [])) q.p d.quotients

-- what a division of v by f that came to its end has
pub record Divides (lim : Limits) (q : Parameters) (f : Level) (v : Vector) (d : Division) : Type 0 where
  -- nothing is left to be divided
  pub over : d.value ≡ []
  -- "quotients applied to the elements plus the remainder give the vector back"
  pub back : Equal q.p v (put_for q.p f (quotients_of q f d) ++ d.remainder)
  -- .. and so do the quotients in the order in which they came
  pub back_unsorted : Equal q.p v (put_for q.p f d.quotients ++ d.remainder)
  -- the quotients are a combination of the elements, with terms in range, "descending in the induced order"
  pub proper : T (proper? q (length f) (quotients_of q f d))
  pub sound : T (every (term_sound? lim q (length f)) (quotients_of q f d))
  pub descends : T (strictly_descending? (compare_over q.code (f ∷ [])) (quotients_of q f d))
  -- "No remainder term has a reducer.": in the words of demand 2, and by the rule
  pub undivided : (t : Term) → Member t d.remainder → ¬ (Divided f t.1)
  pub lower : T (every (λ t. lower_order? (answer q.p (heads q.p f) t)) d.remainder)
  -- the remainder's terms are in range and descend
  pub rest_sound : T (every (term_sound? lim q q.s) d.remainder)
  pub rest_descends : T (strictly_descending? (compare_over q.code []) d.remainder)
  -- "M is 1 exactly if some combination of the elements equals the vector": M is 1 where the remainder is zero
  pub exactly : GröbnerBasis q [] f → (T (empty? d.remainder) ↔ Combination q f v)
  -- one direction needs no Gröbner basis
  pub member : T (empty? d.remainder) → Combination q f v

-- for the elements of a sound basis, and a vector in range
pub record DivisionRight (lim : Limits) (q : Parameters) (f : Level) (v : Vector) : Type 0 where
  pub divides : (n : ℕ) (d : Division) → division_of lim q f v n ≡ done d → Divides lim q f v d
  -- the quotients fit a vector, the remainder a working value
  pub short : (n : ℕ) (d : Division) → division_of lim q f v n ≡ done d → (length (quotients_of q f d) ≤ lim.vector) × (length d.remainder ≤ lim.working)
  -- "Limits 13 and 14 .., place 0"; no other refusal
  pub refused_by : (n number place : ℕ) (value : Vector) → division_of lim q f v n ≡ refused number place value
      → T (between 13 number 14) × (place ≡ 0) × (value ≡ [])
  -- some bound suffices, and which does not matter
  pub ends : (n : ℕ) × T (finished? (division_of lim q f v n))
  pub once : (n m : ℕ) → T (finished? (division_of lim q f v n)) → T (finished? (division_of lim q f v m)) → division_of lim q f v n ≡ division_of lim q f v m

-- ## The V lines

-- "`V,coefficient,component,e1,..,en`, a line for each term"
abbrev pub v_text : ℕ → Vector → Bytes
v_text n [] = []
v_text n (t ∷ v) = printed letter_V (term_fields n t) ++ v_text n v

-- in range, "strictly descending, up to 512"
abbrev pub Bringable : Limits → Parameters → Vector → Type 0
Bringable lim q v = T (brought? lim q v) × (length v ≤ lim.working)

-- the first bad line: those before it are the V lines of some terms, and it is the line of no term that may follow them
pub record FirstBad (lim : Limits) (q : Parameters) (first : ℕ) (rest : Bytes) (place : ℕ) : Type 0 where
  pub good : Vector
  pub later : Bytes
  pub whole : rest ≡ v_text q.n good ++ later
  pub brings : Bringable lim q good
  pub some_line : 1 ≤ length later
  pub numbered : place ≡ first + length good
  pub bad : (t : Term) (behind : Bytes) → Bringable lim q (good ++ t ∷ []) → ¬ (later ≡ printed letter_V (term_fields q.n t) ++ behind)

-- what stands after E, the first line with this number
pub record VLinesRight (lim : Limits) (q : Parameters) (first : ℕ) (rest : Bytes) : Type 0 where
  -- exactly the V lines of a vector in range are read, as this
  pub taken : (v : Vector) → (v_lines lim q first [] (lines rest) ≡ done v) ↔ ((rest ≡ v_text q.n v) × Bringable lim q v)
  -- 23 exactly at the first bad line, and no other refusal
  pub twenty_three : (place : ℕ) → (v_lines lim q first [] (lines rest) ≡ refused 23 place []) ↔ FirstBad lim q first rest place
  pub no_other : (number place : ℕ) (value : Vector) → v_lines lim q first [] (lines rest) ≡ refused number place value → (number ≡ 23) × (value ≡ [])

-- ## The program

-- what is printed for a file and the lines after it
pub data Page (lim : Limits) (bytes : Bytes) : Bytes → Type 0 where
  -- "`C,coefficient,element,e1,..,en` for each quotient term, descending in the induced order, then the remainder as W lines, then `M,1` or `M,0`"
  divided : {q : Parameters} {f : Level} {v : Vector} {d : Division} → WellFormedFile lim (file_of bytes) q f → GröbnerBasis q [] f
      → v_lines lim q (first_after bytes) [] (lines_after bytes) ≡ done v → T (brought? lim q v) → length v ≤ lim.working → Divides lim q f v d
      → Page lim bytes (c_lines q.n (quotients_of q f d) ++ (w_lines q.n d.remainder ++ m_line (empty? d.remainder)))
  -- a file that is not read or not accepted
  not_read : {number place : ℕ} {value : Vector} → RefusedReading lim (file_of bytes) number place value
      → Page lim bytes (x_lines (variables_of (problem lim (file_of bytes))) number place value)
  -- 23: "tested after acceptance and before dividing", at a line after E
  bad_line : {q : Parameters} {f : Level} (place : ℕ) → WellFormedFile lim (file_of bytes) q f → GröbnerBasis q [] f
      → v_lines lim q (first_after bytes) [] (lines_after bytes) ≡ refused 23 place [] → first_after bytes ≤ place
      → place < first_after bytes + length (lines_after bytes)
      → Page lim bytes (x_lines q.n 23 place [])
  -- "Limits 13 and 14 .., place 0"
  limited : {q : Parameters} {f : Level} {v : Vector} (number n : ℕ) → WellFormedFile lim (file_of bytes) q f → GröbnerBasis q [] f
      → v_lines lim q (first_after bytes) [] (lines_after bytes) ≡ done v → division_of lim q f v n ≡ refused number 0 [] → T (between 13 number 14)
      → Page lim bytes (x_lines q.n number 0 [])

-- ## A vector that a caller lends

-- the first bad term: those before it may be brought, and not this one with them
pub record FirstBadTerm (lim : Limits) (q : Parameters) (v : Vector) (place : ℕ) : Type 0 where
  pub good : Vector
  pub term : Term
  pub later : Vector
  pub whole : v ≡ good ++ term ∷ later
  pub brings : Bringable lim q good
  pub numbered : place ≡ 1 + length good
  pub bad : ¬ (Bringable lim q (good ++ term ∷ []))

-- over a sound state, with these elements: the levels above them play no part
pub record LentRight (lim : Limits) (X : State) (f : Level) (v : Vector) : Type 0 where
  -- exactly the vectors in range are taken, as they are
  pub taken : (w : Vector) → (lent_terms lim X.parameters 1 [] v ≡ done w) ↔ ((w ≡ v) × Bringable lim X.parameters v)
  -- 23 exactly at the first bad term
  pub twenty_three : (place : ℕ) → (lent_terms lim X.parameters 1 [] v ≡ refused 23 place []) ↔ FirstBadTerm lim X.parameters v place
  -- what is left of a division that came to its end
  pub divides : (n : ℕ) (a : Parts) → lent_divided lim n X v ≡ done a
      → (d : Division) × (a ≡ (quotients_of X.parameters f d, d.remainder)) × Divides lim X.parameters f v d
  -- 23 at the first bad term; else 13 or 14, place 0
  pub refused_by : (n number place : ℕ) (value : Vector) → lent_divided lim n X v ≡ refused number place value
      → ((number ≡ 23) × FirstBadTerm lim X.parameters v place) ⊎ (T (between 13 number 14) × (place ≡ 0) × Bringable lim X.parameters v)
  -- some bound suffices, and which does not matter
  pub ends : (n : ℕ) × T (finished? (lent_divided lim n X v))
  pub once : (n m : ℕ) → T (finished? (lent_divided lim n X v)) → T (finished? (lent_divided lim m X v)) → lent_divided lim n X v ≡ lent_divided lim m X v

pub record MembershipRight (lim : Limits) : Type 0 where
  -- for any elements that are read, a Gröbner basis or not, and any vector in range
  pub divisions : (q : Parameters) (f : Level) → T (sound? lim (record { parameters = q; levels = f ∷ [] })) → (v : Vector) → T (brought? lim q v)
      → DivisionRight lim q f v
  -- "No V lines means the zero vector, which is a member."
  pub none_brought : (q : Parameters) (f : Level) (n : ℕ) → division_of lim q f [] (suc n) ≡ done (record { value = []; quotients = []; remainder = [] })
  -- 23: "when a line after E is malformed as a V line or out of range, not descending, or the 513th"
  pub lines_right : (bytes : Bytes) (q : Parameters) (f : Level) → WellFormedFile lim (file_of bytes) q f
      → VLinesRight lim q (first_after bytes) (after bytes)
  pub pages : (n : ℕ) (bytes out : Bytes) → membership lim n bytes ≡ some out → Page lim bytes out
  -- for every input some bound suffices, and no two bounds give two pages
  pub ends : (bytes : Bytes) → (n : ℕ) × ((out : Bytes) × (membership lim n bytes ≡ some out))
  pub one_page : (n m : ℕ) (bytes a b : Bytes) → membership lim n bytes ≡ some a → membership lim m bytes ≡ some b → a ≡ b
  -- the call that divides a lent vector, over any sound state
  pub lent : (X : State) (f : Level) → T (sound? lim X) → up_to X 0 ≡ f ∷ [] → (v : Vector) → LentRight lim X f v
