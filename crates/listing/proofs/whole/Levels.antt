-- The lines of all levels: those of the levels that were reached, one after the other, and the refusal's.
use mathlib.Core.Path.{◌≡◌, refl, sym, ap, ◌∙◌, subst}
use mathlib.Core.Bool.{Bool, true, false}
use mathlib.Core.Option.{Option, none, some}
use mathlib.Core.List.{List, [], ◌∷◌, ◌++◌, append-nil, append_assoc}
use Prim.Native.Nat.{ℕ, zero, suc, ◌+◌, ◌-◌, ◌<◌, ◌≤◌}
use native.Mathlib.Nat.{not-suc-le-zero}
use native.Mathlib.Omega.{arith}
use borrow.Author.Tests.{ne_eqb}
use lib.Dec.{T, leb, ltb, leb→le}
use lib.ListN.{length, get_or, drop}
use lib.Seq.{get_or-take, length-take-le}
use Rattle.definitions.specs.Limits.{Limits, document_01}
use Rattle.definitions.specs.Lists.{◌and◌, ◌then◌, choose, empty?}
use Rattle.definitions.specs.Monomial.{Vector, Level}
use Rattle.definitions.specs.Result.{Result, done, refused, unfinished, at_level, ◌>>=◌}
use Rattle.definitions.specs.Lifting.{by_hybrid, lift_level}
use Rattle.definitions.specs.Problem.{Bytes}
use Rattle.definitions.specs.State.{State, up_to}
use Rattle.definitions.specs.Layout.{Words, decode, level_at, levels_at, ends_at, holds_state?, words_sound?, all_words_sound?, ascending?}
use Rattle.definitions.specs.Sheet.{printed, letter_X, x_lines, level_lines, if_more, level_then, levels_from}
use Rattle.laws.proofs.Tests.{and_left, and_right}
use Rattle.laws.proofs.Numbers as numbers
use Rattle.laws.proofs.Numbers.{limit_number?, Numbered, lift_level_number}
use Rattle.definitions.specs.Places.{most_vectors, most_rows, most_levels, state_length}
use Rattle.state.specs.soundness.Places.{count_at, ends_from}
use Rattle.state.proofs.preparing.Complete.{words_below, length_levels}
use Rattle.std.specs.Prelude.{Result as CodeResult, Ok, Err}
use Rattle.words.specs.declared.refusals.Refused.{Refused}
use Rattle.words.specs.refusals.Numbers.{number_of}
use Rattle.words.proofs.Numbered.{number_positive}
use Rattle.level.specs.all_levels.Levels.{Levels, unless_last, then_levels, reached_from, reached}
use Rattle.level.specs.all_levels.Level.{levels_of}
use Rattle.listing.specs.printing.Lines.{Short}
use Rattle.listing.specs.whole.Listed.{lines_of, lines_to, all_lines_of, refusal_line}

-- ## Ends within a level's room

ascends_each : (limit a : ℕ) (es : Words) → T (ascending? limit a es) → (j : ℕ) → j < length es → get_or es j 0 ≤ limit
ascends_each limit a [] t j h = absurd (not-suc-le-zero h)
ascends_each limit a (e ∷ es) t zero h = leb→le e limit (and_left (leb e limit) (ascending? limit e es)
    (and_right (ltb a e) (leb e limit and ascending? limit e es) t))
ascends_each limit a (e ∷ es) t (suc j) h =
    ascends_each limit e es (and_right (leb e limit) (ascending? limit e es) (and_right (ltb a e) (leb e limit and ascending? limit e es) t)) j
    (omega arith)

pub short_level : (s : Words) → state_length ≤ length s → T (holds_state? document_01 s) → (k : ℕ) → k < get_or s 4 0
    → count_at s k ≤ length (ends_from s k) → Short (count_at s k) (ends_from s k)
short_level s long holds k h f j l =
    let w = words_below s long holds (suc k) h in
    let t = and_left (words_sound? document_01 s k) (all_words_sound? document_01 s k) w in
    let u = and_right (leb (count_at s k) most_vectors) (ascending? most_rows 0 (ends_at document_01 s k)) t in
    let v = ascends_each most_rows 0 (ends_at document_01 s k) u j
    (omega (arith, length-take-le (count_at s k) (ends_from s k) f)) in
    subst (λ e. e ≤ most_rows) (get_or-take (count_at s k) (ends_from s k) j 0 l) v

-- ## The lines of all levels

-- those of the levels above level 0
abbrev lines_over : ℕ → List Level → Bytes
lines_over n [] = []
lines_over n (f ∷ []) = []
lines_over n (f ∷ g ∷ fs) = lines_over n (g ∷ fs) ++ level_lines n (suc (length fs)) f

abbrev all_lines : Option Levels → Option Bytes
all_lines none = none
all_lines (some (number, place, X)) = some (lines_over X.parameters.n X.levels ++ refusal_line number place)

one_over : (n k : ℕ) (f : Level) (ls : List Level) → 1 ≤ k → length ls ≡ k → lines_over n (f ∷ ls) ≡ lines_over n ls ++ level_lines n k f
one_over n k f [] h e = absurd (not-suc-le-zero {n = 0} (omega (arith, h, e)))
one_over n k f (g ∷ fs) h e = ap (λ i. lines_over n (g ∷ fs) ++ level_lines n i f) e

behind : (o : Option Bytes) (a b : Bytes) → ((o then λ bytes. some (b ++ bytes)) then λ bytes. some (a ++ bytes))
    ≡ (o then λ bytes. some ((a ++ b) ++ bytes))
behind none a b = refl
behind (some bytes) a b = ap some (sym (append_assoc a b bytes))

x_line : (v k number place : ℕ) (value : Vector) → Numbered {A = Level} limit_number? (refused number place value) → x_lines v number k value
    ≡ refusal_line number k
x_line v k number place value (numbers.refuses u) =
    append-nil (printed letter_X (number ∷ k ∷ []))
    ∙ sym (ap (λ b. choose b [] (printed letter_X (number ∷ k ∷ []))) (ne_eqb number 0 (λ z. subst (λ i. T (limit_number? i)) z u)))
x_line v k number place value (numbers.stops u) = absurd u

-- one level more
module _ (lim : Limits) (n left k : ℕ) (X : State) (h : 1 ≤ k) (e : length X.levels ≡ k) where
  abbrev v : ℕ
  v = X.parameters.n

  abbrev with_next : Level → State
  with_next f = record { parameters = X.parameters; levels = f ∷ up_to X (k - 1) }

  none_above : length X.levels - suc (k - 1) ≡ 0
  none_above = omega (arith, h, e)

  same : up_to X (k - 1) ≡ X.levels
  same = ap (λ i. drop i X.levels) none_above

  stay : length (up_to X (k - 1)) ≡ k
  stay = ap length same ∙ e

  over : (f : Level) → lines_over v (f ∷ up_to X (k - 1)) ≡ lines_over v X.levels ++ level_lines v k f
  over f = one_over v k f (up_to X (k - 1)) h stay ∙ ap (λ ls. lines_over v ls ++ level_lines v k f) same

  abbrev printed_then : Result State → Option Bytes
  printed_then x = level_then v k (λ Y. levels_from lim n left (suc k) Y) x then λ bytes. some (lines_over v X.levels ++ bytes)

  abbrev reached_then : Result State → Option Bytes
  reached_then x = all_lines (then_levels X (λ Y. reached_from lim n left (suc k) Y) x)

  abbrev NextIs : Level → Type 0
  NextIs f =
      ◌≡◌ {A = Option Bytes} (levels_from lim n left (suc k) (with_next f) then λ bytes. some (lines_over v (f ∷ up_to X (k - 1)) ++ bytes))
      (all_lines (reached_from lim n left (suc k) (with_next f)))

  more : (b : Bool) (f : Level) → NextIs f
      → ◌≡◌ {A = Option Bytes} (if_more b v k f (λ u. levels_from lim n left (suc k) (with_next f))
      then λ bytes. some (lines_over v X.levels ++ bytes))
      (all_lines (unless_last b (with_next f) (λ Y. reached_from lim n left (suc k) Y)))
  more true f i = ap some (sym (over f) ∙ sym (append-nil (lines_over v (f ∷ up_to X (k - 1)))))
  more false f i =
      behind (levels_from lim n left (suc k) (with_next f)) (lines_over v X.levels) (level_lines v k f)
      ∙ ap (λ l. levels_from lim n left (suc k) (with_next f) then λ bytes. some (l ++ bytes)) (sym (over f))
      ∙ i

  next_listed : (x : Result Level) → Numbered limit_number? x → ((f : Level) → NextIs f)
      → printed_then (at_level k x >>= λ f. done (with_next f)) ≡ reached_then (at_level k x >>= λ f. done (with_next f))
  next_listed (done f) t i = more (empty? f) f (i f)
  next_listed (refused number place value) t i = ap (λ l. some (lines_over v X.levels ++ l)) (x_line v k number place value t)
  next_listed unfinished t i = refl

-- the levels printed one after the other are the lines of those that are reached, and the refusal's
pub listed : (lim : Limits) (n left k : ℕ) (X : State) → 1 ≤ k → length X.levels ≡ k
    → ◌≡◌ {A = Option Bytes} (levels_from lim n left k X then λ bytes. some (lines_over X.parameters.n X.levels ++ bytes))
    (all_lines (reached_from lim n left k X))
listed lim n zero k X h e = refl
listed lim n (suc left) k X h e =
    next_listed lim n left k X h e (lift_level lim X.parameters.p X.parameters.code (up_to X (k - 1)) (by_hybrid 2 lim.working) n)
    (lift_level_number lim X.parameters.p X.parameters.code (up_to X (k - 1)) (by_hybrid 2 lim.working) n)
    λ f. listed lim n left (suc k) (record { parameters = X.parameters; levels = f ∷ up_to X (k - 1) }) (omega arith)
    (ap suc (stay lim n left k X h e))

-- ## In the words

words_over : (s : Words) (j : ℕ) → lines_over (get_or s 1 0) (levels_at document_01 s (suc j)) ≡ lines_to s j
words_over s zero = refl
words_over s (suc j) = λ i. words_over s j i ++ level_lines (get_or s 1 0) (suc (length_levels s j i)) (level_at document_01 s (suc j))

-- level k printed behind those below it
pub next_lines : (s : Words) (k : ℕ) → 1 ≤ k → lines_to s (k - 1) ++ lines_of s k ≡ lines_to s (k + 1 - 1)
next_lines s k h =
    let e : k ≡ suc (k - 1) = omega (arith, h) in
    let f : suc (k - 1) ≡ k + 1 - 1 = omega (arith, h) in
    ap (λ j. lines_to s (k - 1) ++ lines_of s j) e ∙ ap (lines_to s) f

as_it_is : (o : Option Bytes) → (o then λ bytes. some bytes) ≡ o
as_it_is none = refl
as_it_is (some bytes) = refl

module _ (s t : Words) (n number place : ℕ) (one : get_or s 4 0 ≡ 1) (tall : 0 < get_or t 4 0)
    (r : some (number, place, decode document_01 t) ≡ reached document_01 n (decode document_01 s)) where
  lifted_lines : some (all_lines_of t ++ refusal_line number place) ≡ levels_from document_01 n most_levels 1 (decode document_01 s)
  lifted_lines =
      let X = decode document_01 s in
      let up : suc (get_or t 4 0 - 1) ≡ get_or t 4 0 = omega (arith, tall) in
      let none_yet : lines_over (get_or s 1 0) (levels_at document_01 s (get_or s 4 0))
      ≡ [] = ap (λ h. lines_over (get_or s 1 0) (levels_at document_01 s h)) one in
      ap (λ l. some (l ++ refusal_line number place)) (sym (words_over t (get_or t 4 0 - 1))
      ∙ ap (λ h. lines_over (get_or t 1 0) (levels_at document_01 t h)) up)
      ∙ ap all_lines r
      ∙ sym (listed document_01 n 9 1 X (omega arith) (length_levels s (get_or s 4 0) ∙ one))
      ∙ ap (λ l. levels_from document_01 n most_levels 1 X then λ bytes. some (l ++ bytes)) none_yet
      ∙ as_it_is (levels_from document_01 n most_levels 1 X)

module _ (s t : Words) (n : ℕ) (x : CodeResult (Unit {0}) Refused) (one : get_or s 4 0 ≡ 1) (tall : 0 < get_or t 4 0)
    (r : some (levels_of x (decode document_01 t)) ≡ reached document_01 n (decode document_01 s)) where
  abbrev ReachedAs : CodeResult (Unit {0}) Refused → Type 0
  ReachedAs y = some (levels_of y (decode document_01 t)) ≡ reached document_01 n (decode document_01 s)

  pub whole_lines : x ≡ Ok tt → some (all_lines_of t) ≡ levels_from document_01 n most_levels 1 (decode document_01 s)
  whole_lines h = ap some (sym (append-nil (all_lines_of t))) ∙ lifted_lines s t n 0 0 one tall (subst ReachedAs h r)

  pub refused_lines : (e : Refused) → x ≡ Err e → some (all_lines_of t ++ printed letter_X (number_of e.refusal ∷ e.place ∷ []))
      ≡ levels_from document_01 n most_levels 1 (decode document_01 s)
  refused_lines e h =
      let m : number_of e.refusal ≡ 0 → ⊥ = λ z. absurd (omega (arith, z, number_positive e.refusal)) in
      sym (ap (λ b. some (all_lines_of t ++ choose b [] (printed letter_X (number_of e.refusal ∷ e.place ∷ [])))) (ne_eqb (number_of e.refusal) 0 m))
      ∙ lifted_lines s t n (number_of e.refusal) e.place one tall (subst ReachedAs h r)
