-- A mark that a loop sets where a test holds at some place passed: written so, and not as an early end, the loop becomes one instruction on eight
-- numbers.
use Rattle.std.specs.Prelude.{◌≡◌, refl, ◌⊎◌, Bool, true, false, ℕ, ◌+◌, ◌<◌}
use Rattle.std.proofs.Common.{sym, subst, inl, inr, not-suc-le-zero, arith}
use Rattle.std.proofs.Math.Decide.{ℕ_discrete}

-- the mark is 0 and the test held at none of the first i places, or it is 1 and the test held at one of them
abbrev pub Marked : (ℕ → Bool) → ℕ → ℕ → Type 0
Marked f i mark = ((mark ≡ 0) × ((k : ℕ) → k < i → f k ≡ false)) ⊎ ((mark ≡ 1) × ((k : ℕ) × (k < i) × (f k ≡ true)))

-- what the code's `if test { 1 } else { mark }` gives
abbrev pub mark_by : Bool → ℕ → ℕ
mark_by true mark = 1
mark_by false mark = mark

pub marked_none : (f : ℕ → Bool) → Marked f 0 0
marked_none f = inl (refl, λ k h. absurd (not-suc-le-zero h))

pub marked_more : (f : ℕ → Bool) (i mark : ℕ) (b : Bool) → b ≡ f i → Marked f i mark → Marked f (i + 1) (mark_by b mark)
marked_more f i mark true e m = inr (refl, (i, omega arith, sym e))
marked_more f i mark false e (inr (m, (k, h, t))) = inr (m, (k, omega arith, t))
marked_more f i mark false e (inl (m, none)) = inl (m, λ k h. go k h (ℕ_discrete k i))
  where
    go : (k : ℕ) → k < i + 1 → Dec (k ≡ i) → f k ≡ false
    go k h (yes q) = subst (λ j. f j ≡ false) (sym q) (sym e)
    go k h (no ne) = none k (omega arith)

-- no mark: the test held nowhere
pub unmarked : (f : ℕ → Bool) (i mark : ℕ) → Marked f i mark → mark ≡ 0 → (k : ℕ) → k < i → f k ≡ false
unmarked f i mark (inl (m, none)) e = none
unmarked f i mark (inr (m, some)) e = absurd (omega arith)

-- a mark: the test held somewhere
pub marked_at : (f : ℕ → Bool) (i mark : ℕ) → Marked f i mark → (mark ≡ 0 → ⊥) → (k : ℕ) × (k < i) × (f k ≡ true)
marked_at f i mark (inl (m, none)) e = absurd (e m)
marked_at f i mark (inr (m, some)) e = some
