-- The call: 16, or what is printed, with zeros after it and in the other buffers.
use mathlib.Core.Path.{◌≡◌, sym, ap, ◌∙◌, subst}
use mathlib.Core.Bool.{Bool, true, false}
use mathlib.Core.Option.{Option, some}
use mathlib.Core.List.{◌++◌}
use Prim.Native.Nat.{ℕ, ◌-◌, ◌≤◌}
use native.Mathlib.Omega.{arith}
use lib.Dec.{T, leb, leb→le}
use lib.ListN.{length, replicate}
use Rattle.definitions.specs.Lists.{◌and◌, ◌then◌, choose}
use Rattle.definitions.specs.Problem.{Bytes}
use Rattle.definitions.specs.Layout.{Words, padded, zeros}
use Rattle.definitions.specs.Places.{state_length, value_length}
use Rattle.laws.proofs.Tests.{and_left, and_right}
use Rattle.vectors.specs.terms.Rows.{cleared}
use Rattle.pages.specs.bytes.Printing.{Printed}
use Rattle.lending.specs.Called.{Told, told_of, long_enough?, called}

-- what the test says of the lengths
pub long_enough_says : (size state work out : ℕ) {b : Bool} → b ≡ long_enough? size state work out → b ≡ true
    → (state_length ≤ state) × (value_length ≤ work) × (size ≤ out)
long_enough_says size state work out e h =
    let t : T (long_enough? size state work out) = subst T (sym (sym e ∙ h)) tt in
    let u = and_right (leb state_length state) (leb value_length work and leb size out) t in (
      leb→le state_length state (and_left (leb state_length state) (leb value_length work and leb size out) t),
      leb→le value_length work (and_left (leb value_length work) (leb size out) u),
      leb→le size out (and_right (leb value_length work) (leb size out) u),
    )

-- a page in front of a buffer, and zeros behind it
behind : (out after : Bytes) (r : ℕ) (bytes : Bytes) → Printed out after 0 r bytes → length after ≡ length out → cleared after r
    ≡ padded (length out) bytes
behind out after r bytes p e =
    let d : length after - r ≡ length out - length bytes = omega (arith, e, p.ends) in
    (λ i. p.front i ++ replicate (d i) 0)

module _ (size : ℕ) (prints : ℕ → Bytes → Option Bytes) (file : Bytes) (state work : Words) (out : Bytes) where
  abbrev by_test : ℕ → Bool → Option Told
  by_test n b =
      choose b (prints n file then λ bytes. told_of 0 (length bytes) (zeros state) (zeros work) (padded (length out) bytes)) (told_of 16 0 state work out)

  abbrev pub Called : Option Told → Type 0
  Called t = (n : ℕ) × (t ≡ called size prints n file state work out)

  -- the test answered b, and what `lending::too_short` gives was returned
  pub short_call : {b : Bool} → b ≡ long_enough? size (length state) (length work) (length out) → b ≡ false → {number long : ℕ}
      → (number ≡ 16) × (long ≡ 0) → Called (told_of number long state work out)
  short_call e h a = (0, (λ i. told_of (a.0 i) (a.1 i) state work out) ∙ sym (ap (by_test 0) (sym e ∙ h)))

  -- r bytes were printed into out, which is after then; `lending::finish` left zeros behind them and in the other buffers, which are as long as they were
  pub whole_call : {b : Bool} → b ≡ long_enough? size (length state) (length work) (length out) → b ≡ true → (n : ℕ) {bytes after : Bytes} {r : ℕ}
      → some bytes ≡ prints n file → Printed out after 0 r bytes → {m k : ℕ} → m ≡ length state → k ≡ length work → length after ≡ length out
      → {t : Option Told} → t ≡ told_of 0 r (replicate m 0) (replicate k 0) (cleared after r) → Called t
  whole_call e h n {bytes} {after} {r} g p ls lw lo f =
      let long : r ≡ length bytes = omega (arith, p.ends) in (
        n,
        f
            ∙ (λ i. told_of 0 (long i) (replicate (ls i) 0) (replicate (lw i) 0) (behind out after r bytes p lo i))
            ∙ ap (λ x. x then λ bs. told_of 0 (length bs) (zeros state) (zeros work) (padded (length out) bs)) g
            ∙ sym (ap (by_test n) (sym e ∙ h)),
      )
