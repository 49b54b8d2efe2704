-- What the forms of demand 1 force: calls made too early, a wrong pick code, and a limit that is not met.
use mathlib.Core.Path.{◌≡◌, refl, sym, ap, ◌∙◌, subst}
use mathlib.Core.Bool.{Bool, true, false, not}
use mathlib.Core.Option.{some}
use mathlib.Core.List.{[], ◌∷◌}
use Prim.Native.Nat.{ℕ}
use native.Mathlib.Omega.{arith}
use lib.Dec.{T, ltb}
use lib.ListN.{length, replicate}
use Rattle.definitions.specs.Limits.{Limits, document_01}
use Rattle.definitions.specs.Lists.{◌and◌, between}
use Rattle.definitions.specs.Monomial.{Vector}
use Rattle.definitions.specs.Result.{Result, done, refused, unfinished, finished?}
use Rattle.definitions.specs.Problem.{Bytes}
use Rattle.definitions.specs.State.{State}
use Rattle.definitions.specs.Calls
use Rattle.definitions.specs.Calls.{read}
use Rattle.definitions.specs.Reckoning.{Reckoning}
use Rattle.definitions.specs.Packed.{low_bytes}
use Rattle.definitions.specs.Layout.{row_at, rows, Words, state_words, encode, division, hybrid, long_enough?, Read, Lift, Fetch, fetch_with, Left}
use Rattle.definitions.proofs.Text.{text}
use Rattle.definitions.proofs.Instances.{xy, f₁, g₁}
use Rattle.laws.proofs.Steady.{steady_once}
use Rattle.laws.proofs.Bound.{read_steady}
use Rattle.demands.specs.Demands
use Rattle.demands.specs.Demands.{sensible?, level_of, FetchRight, ReadForm, accepted_as, LiftForm, lifted_as}
use Rattle.demands.specs.Demands.{FetchForm, fetched_as}
use Rattle.demands.proofs.Demand3.{demand_3}
use Rattle.demands.proofs.SomeRun.{run_of}
use Rattle.demands.proofs.PrintedFile.{printed_file, q₁, X₁, is_read}

-- limits so small that the checker can spell a state
abbrev tiny : Limits
tiny = record {
  prime_bound = 32_767;
  variables = 8;
  components = 16;
  elements = 2;
  exponent = 255;
  t_lines = 4;
  file = 999;
  field = 65_535;
  vectors = 2;
  level_terms = 4;
  levels = 9;
  working = 4;
  vector = 4;
  tree = 4;
  numbering = λ code. code;
}

are_sensible : T (sensible? tiny)
are_sensible = tt

-- levels 0 and 1 are complete
abbrev two_levels : Words
two_levels = encode tiny (state_words tiny) (record { parameters = record { p = 7; n = 2; code = 1; s = 1; degrees = 0 ∷ [] }; levels = g₁ ∷ f₁ ∷ [] })

-- the reckoning then
abbrev over_printed : Reckoning
over_printed = record { basis = some (q₁, f₁); h = 1 }

abbrev area : Words
area = replicate 40 0

done_not_refused : {A : Type 0} {a : A} {number place : ℕ} {value : Vector} → ◌≡◌ {A = Result A} (done a) (refused number place value) → ⊥
done_not_refused {A} e = subst accepts e tt
  where
    accepts : Result A → Type 0
    accepts (done a) = Unit {0}
    accepts (refused number place value) = ⊥
    accepts unfinished = ⊥

-- ## Calls made too early

-- vector 1 of level 5, which is not there
pub early_fetch : (r : Fetch) → FetchForm tiny 5 1 two_levels area r → r ≡ (11, 0, area)
unfolding low_bytes row_at rows
early_fetch r (fetched_as t u s f e l) = absurd u
early_fetch r (Demands.FetchForm.no_level t u) = refl
early_fetch r (Demands.FetchForm.no_number t u f) = absurd u
early_fetch r (Demands.FetchForm.too_short t) = absurd t

-- .. and where the reckoning's highest level is 1, no answer 0 to it is right
pub early_fetched : (a : Left) → FetchRight tiny over_printed (fetch_with 5 1 area) a → ¬ (a.number ≡ 0)
early_fetched a r e =
    let w = r e in
    let same : w.0 ≡ g₁ ∷ f₁ ∷ [] = (demand_3 tiny are_sensible).one_reckoning over_printed w.0 (g₁ ∷ f₁ ∷ []) w.1 (9, refl) in
    subst (λ levels. T (ltb 5 (length levels) and between 1 1 (length (level_of levels 5)))) same w.2

-- level 5 over level 1
pub early_lift : (r : Lift) → LiftForm tiny 5 division two_levels area [] r → r ≡ (11, 0, two_levels, area, [])
unfolding low_bytes row_at rows
early_lift r (lifted_as X g bound t e u l d s) = absurd (subst (λ Y. T (not (Calls.eleven? tiny Y 5 4))) (sym e) u)
early_lift r (Demands.LiftForm.refused_as bound t u l e n) = absurd u
early_lift r (Demands.LiftForm.no_level t u) = refl
early_lift r (Demands.LiftForm.no_number t u l) = absurd u
early_lift r (Demands.LiftForm.too_short t) = absurd t

-- ## A number out of range

-- level 2 with pick code 9
pub wrong_pick : (r : Lift) → LiftForm tiny 2 (hybrid 9) two_levels area [] r → r ≡ (12, 0, two_levels, area, [])
unfolding low_bytes row_at rows
wrong_pick r (lifted_as X g bound t e u l d s) = absurd l
wrong_pick r (Demands.LiftForm.refused_as bound t u l e n) = absurd l
wrong_pick r (Demands.LiftForm.no_level t u) = absurd u
wrong_pick r (Demands.LiftForm.no_number t u l) = refl
wrong_pick r (Demands.LiftForm.too_short t) = absurd t

-- ## A limit that is not met

-- level 2, whose frame is empty
pub no_limit_met : (r : Lift) → LiftForm tiny 2 division two_levels area [] r → r.0 ≡ 0
unfolding low_bytes row_at rows
no_limit_met r (lifted_as X g bound t e u l d s) = refl
no_limit_met r (Demands.LiftForm.refused_as bound t u l e n) = absurd (done_not_refused e)
no_limit_met r (Demands.LiftForm.no_level t u) = absurd u
no_limit_met r (Demands.LiftForm.no_number t u l) = absurd l
no_limit_met r (Demands.LiftForm.too_short t) = absurd t

-- what reading gives within one bound, it gives within any that gives an answer
same_reading : (file : Bytes) (n : ℕ) (x : Result State) → read document_01 n file ≡ x → T (finished? x)
    → (bound number place : ℕ) (value : Vector) → read document_01 bound file ≡ refused number place value → x ≡ refused number place value
same_reading file n x d t bound number place value e =
    sym d
    ∙ steady_once finished? (λ n. read document_01 n file) (read_steady document_01 file) n bound (subst (λ y. T (finished? y)) (sym d) t)
    (subst (λ y. T (finished? y)) (sym e) tt)
    ∙ e

never_short : (b : Bool) → T b → T (not b) → ⊥
never_short true l t = t
never_short false l t = l

-- reading the printed file, which no limit stops, no reason refuses, and whose elements are a Gröbner basis
pub not_refused : (state work : Words) (r : Read) → T (long_enough? document_01 division state work) → ReadForm document_01 printed_file state work r
    → r.0 ≡ 0
not_refused state work r l (accepted_as t w) = refl
not_refused state work r l (Demands.ReadForm.refused_as {number} {place} {value} t b k) =
    let d = run_of printed_file number place value b in
    absurd (done_not_refused (same_reading printed_file 99 (done X₁) is_read tt d.0 number place value d.1))
not_refused state work r l (Demands.ReadForm.too_short t) = absurd (never_short (long_enough? document_01 division state work) l t)

-- ## The place of 9

-- x², x², xy + y²: the division of frame term 2 stops
abbrev second_stops : Bytes
second_stops = text ("R,7,2,1,1" ∷ "T,1,1,1,2,0" ∷ "T,2,1,1,2,0" ∷ "T,3,1,1,1,1" ∷ "T,3,1,1,0,2" ∷ "E,4" ∷ [])

place_of : Result State → ℕ
place_of (done X) = 0
place_of (refused number place value) = place
place_of unfinished = 0

pub nine_at_two : (state work : Words) (r : Read) → ReadForm document_01 second_stops state work r → r.0 ≡ 9 → r.1 ≡ 2
unfolding place_of
nine_at_two state work r (accepted_as t w) e = absurd (omega (arith, e))
nine_at_two state work r (Demands.ReadForm.refused_as {number} {place} {value} t b k) e =
    let d = run_of second_stops number place value b in
    ap place_of (sym (same_reading second_stops 99 (refused 9 2 ((6, xy 0 3 1) ∷ [])) refl tt d.0 number place value d.1))
nine_at_two state work r (Demands.ReadForm.too_short t) e = absurd (omega (arith, e))
