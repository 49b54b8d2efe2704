-- 24 comes exactly where the line behind R, or behind R and D, is G with 2 n numbers, of which one is above 15; D behind G is 1.
use mathlib.Core.Path.{◌≡◌, refl, sym, ap, ◌∙◌, subst}
use mathlib.Core.Logic.{◌↔◌}
use mathlib.Core.Bool.{true}
use mathlib.Core.Option.{some, none-ne-some}
use mathlib.Core.List.{List, [], ◌∷◌, ◌++◌, append_assoc, append-nil, head-eq_of_cons-eq}
use Prim.Native.Nat.{ℕ, ◌+◌, ◌≤◌}
use native.Mathlib.Omega.{arith}
use lib.Dec.{T}
use lib.ListN.{length}
use Rattle.definitions.specs.Limits.{Limits}
use Rattle.definitions.specs.Result.{refused}
use Rattle.definitions.specs.Problem.{Bytes, Line, newline, letter_G, letter_T, letter_E, lines, problem}
use Rattle.definitions.specs.Sheet.{printed}
use Rattle.definitions.specs.Places.{most_weight}
use Rattle.files.specs.Files.{Given, first_line_of, degrees_line}
use Rattle.files.specs.Reasons.{Says, BadLater, no_shape, Reason, no_first, first_shape, first_prime, first_range}
use Rattle.files.specs.Reasons.{second_degree, head_weight, later_line, after_end}
use Rattle.files.specs.Answers.{RefusedRight, too_long, at_line, Answered}
use Rattle.files.proofs.Lines.{listed, lines_printed}
use Rattle.files.proofs.Because.{reason_refused}
use Rattle.demands.specs.Demands.{sensible?}
use Rattle.demands.proofs.Reader.{wide, files}
use Rattle.degrees.specs.Notions.{begins_with_D?}
use Rattle.degrees.proofs.Eighteen.{some_above, none_above, later_number}
use Rattle.bigraded.specs.Notions.{WeightTooLarge, DBehindG}

-- ## 24

module _ (lim : Limits) (o : T (sensible? lim)) (bytes : Bytes) where
  by_reason : {number place : ℕ} → number ≡ 24 → Reason lim bytes number place → WeightTooLarge lim bytes place
  by_reason e (no_first n p l) = absurd (omega (arith, e, n))
  by_reason e (first_shape n p line later l s) = absurd (omega (arith, e, n))
  by_reason e (first_prime n p line later l x₁ x₂ x₃ x₄ s h) = absurd (omega (arith, e, n))
  by_reason e (first_range n p line later l x₁ x₂ x₃ x₄ s h w) = absurd (omega (arith, e, n))
  by_reason e (second_degree n p q w tail t line later l v says h) = absurd (omega (arith, e, n))
  by_reason e (head_weight n degrees p q w d tail t line later l v says h) =
      let m = some_above most_weight v h in
      record {
        degrees = degrees;
        at = p;
        parameters = q;
        well = w;
        said = d;
        tail = tail;
        text = t;
        line = line;
        later = later;
        follow = l;
        numbers = v;
        says = says;
        large = m.0;
        one_of = m.1;
        above = m.2;
      }
  by_reason e (later_line given q f so tail t p b) = absurd (let l = later_number lim given q f b in omega (arith, e, l))
  by_reason e (after_end n given q f so m tail line later l t p) = absurd (omega (arith, e, n))

  by_right : {number place : ℕ} → number ≡ 24 → RefusedRight lim bytes number place → WeightTooLarge lim bytes place
  by_right e (too_long n p l) = absurd (omega (arith, e, n))
  by_right e (at_line m l b r) = by_reason e r

  pub twenty_four : (place : ℕ) → length bytes ≤ lim.file → WeightTooLarge lim bytes place ↔ (problem lim bytes ≡ refused 24 place [])
  twenty_four place l = (
    λ d. reason_refused lim (wide lim o) bytes 24 place l (head_weight refl d.degrees d.at d.parameters d.well d.said d.tail d.text
        d.line d.later d.follow d.numbers d.says (none_above most_weight d.numbers d.large d.one_of d.above)),
    λ e. by_right refl (subst (Answered lim bytes) e ((files lim o).answered bytes)).0,
  )

-- ## D behind G

-- a line that begins with D has no other letter
no_letter : (lim : Limits) (letter count : ℕ) → ¬ (letter ≡ newline) → ¬ (T (begins_with_D? (letter ∷ []))) → (line : Line) → T (begins_with_D? line.0)
    → (v : List ℕ) → ¬ (Says lim letter count line v)
no_letter lim letter count n d line t v s =
    let e : (letter ∷ listed v, true) ≡ line = head-eq_of_cons-eq (sym (lines_printed letter n v []) ∙ ap lines (append-nil (printed letter v)) ∙ s.text) in
    d (subst (λ (l : Line). T (begins_with_D? l.0)) (sym e) t)

module _ (lim : Limits) (o : T (sensible? lim)) (bytes : Bytes) where
  pub d_behind_g : (place : ℕ) → length bytes ≤ lim.file → DBehindG lim bytes place → problem lim bytes ≡ refused 1 place []
  d_behind_g place l d =
      let given : Given = record { degrees = d.degrees; weights = some d.weights } in
      let q = d.parameters in
      reason_refused lim (wide lim o) bytes 1 place l (later_line given q []
      (record { parameters = d.well; degrees = d.said; weights = d.weighed; few = omega arith; short = omega arith; elements = tt })
      d.tail
      (d.text ∙ ap (λ z. first_line_of q ++ z) (sym (append_assoc (degrees_line d.degrees q) (printed letter_G d.weights) d.tail)))
      (let p = d.at in omega (arith, p))
      (subst (λ ls. BadLater lim given q [] ls 1) (sym d.follow) (no_shape
      (λ s. absurd (none-ne-some _ (sym s.1.0)))
      (λ s. absurd (none-ne-some _ (sym s.0)))
      (no_letter lim letter_T (3 + q.n) (λ e. omega (arith, e)) (λ t. t) d.line d.begins)
      (no_letter lim letter_E 1 (λ e. omega (arith, e)) (λ t. t) d.line d.begins))))
