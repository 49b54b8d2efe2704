-- 18 comes exactly where line 2 is D with s numbers, of which one is above 255.
use mathlib.Core.Path.{◌≡◌, refl, subst}
use mathlib.Core.Logic.{inl, inr, ◌↔◌}
use mathlib.Core.Bool.{Bool, true, false, not}
use mathlib.Core.List.{List, [], ◌∷◌}
use Prim.Native.Nat.{ℕ, ◌<◌, ◌≤◌}
use native.Mathlib.Omega.{arith}
use lib.Dec.{T, leb, leb→le, nleb→lt}
use lib.ListN.{length}
use Rattle.definitions.specs.Limits.{Limits}
use Rattle.definitions.specs.Monomial.{Term, Level}
use Rattle.definitions.specs.Result.{refused}
use Rattle.definitions.specs.Problem.{Bytes, Line, Parameters, problem}
use Rattle.definitions.specs.Places.{most_degree}
use Rattle.laws.proofs.Members.{All}
use Rattle.files.specs.Files.{Given}
use Rattle.files.specs.Reasons.{BadTerm, too_many, out_of_sequence, out_of_range, not_below, BadLater, absent, no_shape, bad_term, bad_count}
use Rattle.files.specs.Reasons.{Reason, no_first, first_shape, first_prime, first_range, second_degree, head_weight, later_line, after_end}
use Rattle.files.specs.Answers.{RefusedRight, too_long, at_line, Answered}
use Rattle.files.proofs.Because.{reason_refused}
use Rattle.demands.specs.Notions.{Member}
use Rattle.demands.specs.Demands.{sensible?}
use Rattle.demands.proofs.Reader.{wide, files}
use Rattle.degrees.specs.Notions.{DegreeTooLarge}

-- one that is too large, where not all are small
pub some_above : (most : ℕ) (v : List ℕ) → ¬ (All (λ x. x ≤ most) v) → (x : ℕ) × Member x v × (most < x)
some_above most [] n = absurd (n tt)
some_above most (x ∷ v) n = go (leb x most) (leb→le x most) (nleb→lt x most) (λ m. some_above most v m)
  where
    go : (b : Bool) → (T b → x ≤ most) → (T (not b) → most < x) → (¬ (All (λ x. x ≤ most) v) → (y : ℕ) × Member y v × (most < y))
        → (y : ℕ) × Member y (x ∷ v) × (most < y)
    go false h k r = (x, inl refl, k tt)
    go true h k r = let m = r (λ a. n (h tt, a)) in (m.0, inr m.1, m.2)

pub none_above : (most : ℕ) (v : List ℕ) (x : ℕ) → Member x v → most < x → ¬ (All (λ x. x ≤ most) v)
none_above most [] x m l a = m
none_above most (y ∷ v) x (inl e) l a = let h = a.0 in omega (arith, h, l, e)
none_above most (y ∷ v) x (inr m) l a = none_above most v x m l a.1

-- the other lines have other numbers
term_number : (lim : Limits) (q : Parameters) (f : Level) (i : ℕ) (t : Term) {number : ℕ} → BadTerm lim q f i t number → number ≤ 8
term_number lim q f i t (too_many l) = omega arith
term_number lim q f i t (out_of_sequence l n) = omega arith
term_number lim q f i t (out_of_range l s n) = omega arith
term_number lim q f i t (not_below l s r n) = omega arith

pub later_number : (lim : Limits) (given : Given) (q : Parameters) (f : Level) {ls : List Line} {number : ℕ} → BadLater lim given q f ls number → number ≤ 8
later_number lim given q f absent = omega arith
later_number lim given q f (no_shape d g t e) = omega arith
later_number lim given q f (bad_term i t l p s b) = term_number lim q f i t b
later_number lim given q f (bad_count c s n) = omega arith

module _ (lim : Limits) (o : T (sensible? lim)) (bytes : Bytes) where
  by_reason : {number place : ℕ} → number ≡ 18 → Reason lim bytes number place → DegreeTooLarge lim bytes
  by_reason e (no_first n p l) = absurd (omega (arith, e, n))
  by_reason e (first_shape n p line later l s) = absurd (omega (arith, e, n))
  by_reason e (first_prime n p line later l x₁ x₂ x₃ x₄ s h) = absurd (omega (arith, e, n))
  by_reason e (first_range n p line later l x₁ x₂ x₃ x₄ s h w) = absurd (omega (arith, e, n))
  by_reason e (second_degree n p q w tail t line later l v says h) =
      let m = some_above most_degree v h in
      record {
        parameters = q;
        well = w;
        tail = tail;
        text = t;
        second = line;
        later = later;
        follow = l;
        numbers = v;
        says = says;
        large = m.0;
        one_of = m.1;
        above = m.2;
      }
  by_reason e (head_weight n degrees p q w d tail t line later l v says h) = absurd (omega (arith, e, n))
  by_reason e (later_line given q f so tail t p b) = absurd (let l = later_number lim given q f b in omega (arith, e, l))
  by_reason e (after_end n given q f so m tail line later l t p) = absurd (omega (arith, e, n))

  by_right : {number place : ℕ} → number ≡ 18 → RefusedRight lim bytes number place → DegreeTooLarge lim bytes
  by_right e (too_long n p l) = absurd (omega (arith, e, n))
  by_right e (at_line m l b r) = by_reason e r

  pub eighteen : length bytes ≤ lim.file → DegreeTooLarge lim bytes ↔ (problem lim bytes ≡ refused 18 2 [])
  eighteen l = (
    λ d. reason_refused lim (wide lim o) bytes 18 2 l (second_degree refl refl d.parameters d.well d.tail d.text d.second d.later
        d.follow d.numbers d.says (none_above most_degree d.numbers d.large d.one_of d.above)),
    λ e. by_right refl (subst (Answered lim bytes) e ((files lim o).answered bytes)).0,
  )
