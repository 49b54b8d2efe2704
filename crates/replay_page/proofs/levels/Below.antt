-- The levels below one after the other.
use mathlib.Core.Path.{◌≡◌, refl, sym, ap, ◌∙◌, subst}
use mathlib.Core.List.{[]}
use Prim.Native.Nat.{ℕ, zero, suc, ◌+◌, ◌-◌, ◌<◌}
use native.Mathlib.Omega.{arith}
use lib.Dec.{T}
use Rattle.definitions.specs.Limits.{document_01}
use Rattle.definitions.specs.Result.{Result, done, refused, finished?, ◌>>=◌}
use Rattle.definitions.specs.State.{State}
use Rattle.definitions.specs.Calls.{lift}
use Rattle.definitions.specs.Replay.{lifted_below}
use Rattle.definitions.specs.Layout.{Words, decode}
use Rattle.laws.proofs.Steady.{steady_from}
use Rattle.laws.proofs.Bound.{lift_steady}
use Rattle.level.specs.all_levels.Level.{Liftable, usual_way}
use Rattle.level.proofs.all_levels.Levels.{Next, Stays}

-- so far: whatever the bound, if it is large enough, the rest from level i on is the whole
abbrev pub Going : ℕ → Words → Words → ℕ → Type 0
Going k s t i = (n : ℕ) × ((m : ℕ) → lifted_below document_01 (n + m) (k - 1) 1 (decode document_01 s)
    ≡ lifted_below document_01 (n + m) (k - i) i (decode document_01 t))

pub going_first : (k : ℕ) (s : Words) → Going k s s 1
going_first k s = (0, λ m. refl)

module _ (k : ℕ) (s₀ s : Words) (i : ℕ) (h : Liftable s i) (g : Going k s₀ s i) (l : i < k) where
  abbrev X : State
  X = decode document_01 s

  abbrev on : ℕ → Result State → Result State
  on n x = x >>= λ Y. lifted_below document_01 n (k - (i + 1)) (suc i) Y

  -- the step at a bound that suffices for the levels before and for this one
  here : (n m : ℕ) → T (finished? (lift document_01 n X i usual_way)) → lifted_below document_01 (g.0 + (n + m)) (k - 1) 1 (decode document_01 s₀)
      ≡ on (g.0 + (n + m)) (lift document_01 n X i usual_way)
  here n m t =
      let e : g.0 + (n + m) ≡ n + (g.0 + m) = omega arith in
      let one : k - i ≡ suc (k - (i + 1)) = omega (arith, l) in
      g.1 (n + m)
      ∙ ap (λ left. lifted_below document_01 (g.0 + (n + m)) left i X) one
      ∙ ap (on (g.0 + (n + m))) (ap (λ b. lift document_01 b X i usual_way) e
      ∙ steady_from finished? (λ b. lift document_01 b X i usual_way) (lift_steady document_01 X i usual_way) n (g.0 + m) t)

  pub going_on : (n : ℕ) (t : Words) → Next s i h n t → Going k s₀ t (i + 1)
  going_on n t N = (
    g.0 + n,
    λ m.
        let c : g.0 + n + m ≡ g.0 + (n + m) = omega arith in
        let b : suc i ≡ i + 1 = omega arith in
        ap (λ i. lifted_below document_01 i (k - 1) 1 (decode document_01 s₀)) c
        ∙ here n m (subst (λ x. T (finished? x)) (sym N.lifts) tt)
        ∙ ap (on (g.0 + (n + m))) N.lifts
        ∙ (λ j. lifted_below document_01 (sym c j) (k - (i + 1)) (b j) (sym N.decoded j)),
  )

  pub going_refused : (n number : ℕ) (t : Words) → Stays s i h n number t → T (finished? (lift document_01 n X i usual_way))
      → refused number i [] ≡ lifted_below document_01 (g.0 + (n + 0)) (k - 1) 1 (decode document_01 s₀)
  going_refused n number t r f = sym (here n 0 f ∙ ap (on (g.0 + (n + 0))) r.refuses)

pub going_over : (k : ℕ) (s t : Words) → (g : Going k s t k) → done (decode document_01 t) ≡ lifted_below document_01 (g.0 + 0) (k - 1) 1
    (decode document_01 s)
going_over k s t g =
    let e : 0 ≡ k - k = omega arith in
    ap (λ l. lifted_below document_01 (g.0 + 0) l k (decode document_01 t)) e ∙ sym (g.1 0)
