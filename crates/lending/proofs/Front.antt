-- What the call leaves in buffers that are long enough: what is printed, in front.
use mathlib.Core.Path.{◌≡◌, sym, ap, ◌∙◌, subst}
use mathlib.Core.Option.{Option, none, some, some-injective}
use Prim.Native.Nat.{ℕ, ◌-◌, ◌≤◌}
use native.Mathlib.Omega.{arith}
use borrow.Author.Tests.{le-leb}
use lib.Dec.{T}
use lib.ListN.{length, take, replicate, length-append}
use lib.Seq.{take-append_seam, length-take-le}
use Rattle.definitions.specs.Lists.{◌and◌, ◌then◌, choose}
use Rattle.definitions.specs.Problem.{Bytes}
use Rattle.definitions.specs.Layout.{Words, padded, zeros}
use Rattle.definitions.specs.Places.{state_length, value_length}
use Rattle.laws.proofs.Steady.{answered?}
use Rattle.lending.specs.Called.{Told, told_of, called}

-- so many bytes stand in front
abbrev InFront : ℕ → Bytes → Type 0
InFront n out = (n ≤ length out) × (n ≡ length (take n out))

module _ (state work : Words) (out : Bytes) (number size : ℕ) (s w : Words) (o : Bytes) where
  abbrev left : Option Bytes → Option Told
  left x = x then λ bytes. told_of 0 (length bytes) (zeros state) (zeros work) (padded (length out) bytes)

  from_bytes : (x : Option Bytes) → told_of number size s w o ≡ left x → InFront size o × (some (take size o) ≡ x)
  from_bytes none e = absurd (subst (λ t. T (answered? t)) e tt)
  from_bytes (some bytes) e =
      let t : ◌≡◌ {A = Told} (number, size, s, w, o) (0, length bytes, zeros state, zeros work, padded (length out) bytes) =
      some-injective _ _ e in
      let l : size ≡ length bytes = ap (λ (u : Told). u.1) t in
      let p : o ≡ padded (length out) bytes = ap (λ (u : Told). u.4) t in
      let fits : size ≤ length o = omega (arith, l, ap length p, length-append bytes (replicate (length out - length bytes) 0)) in
      ((fits, sym (length-take-le size o fits)), ap some ((λ i. take (l i) (p i)) ∙ take-append_seam bytes (replicate (length out - length bytes) 0)))

  module _ (most : ℕ) (prints : ℕ → Bytes → Option Bytes) (file : Bytes) (a : state_length ≤ length state) (b : value_length ≤ length work)
      (c : most ≤ length out) where
    pub printed_in_front : ((n : ℕ) × (told_of number size s w o ≡ called most prints n file state work out))
        → InFront size o × ((n : ℕ) × (some (take size o) ≡ prints n file))
    printed_in_front (n, e) =
        let f =
        from_bytes (prints n file)
        (e ∙ (λ i. choose (le-leb state_length (length state) a i and le-leb value_length (length work) b i and le-leb most (length out) c i)
        (left (prints n file)) (told_of 16 0 state work out))) in
        (f.0, (n, f.1))
