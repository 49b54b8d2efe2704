-- Two results of which the first is 14, or both are the same: one after the other, and what a value or another refusal of the first says of the second.
use mathlib.Core.Path.{◌≡◌, sym, ap, subst}
use Prim.Native.Nat.{ℕ}
use Rattle.definitions.specs.Monomial.{Vector}
use Rattle.definitions.specs.Result.{Result, done, refused, unfinished, at_level, ◌>>=◌}
use Rattle.narrow_lifts.specs.Rooms.{Until14, same, fourteen}

module _ {A B : Type 0} where
  after : (x : Result A) (f g : A → Result B) → ((a : A) → Until14 0 (f a) (g a)) → Until14 0 (x >>= f) (x >>= g)
  after (done a) f g h = h a
  after (refused number place value) f g h = same
  after unfinished f g h = same

  pub until_then : {x y : Result A} → Until14 0 x y → (f g : A → Result B) → ((a : A) → Until14 0 (f a) (g a)) → Until14 0 (x >>= f) (y >>= g)
  until_then (same {x}) f g h = after x f g h
  until_then fourteen f g h = fourteen

  pub until_map : {x y : Result A} {place : ℕ} → Until14 place x y → (f : A → Result B) → Until14 place (x >>= f) (y >>= f)
  until_map same f = same
  until_map fourteen f = fourteen

pub until_level : {A : Type 0} (k : ℕ) {x y : Result A} → Until14 0 x y → Until14 k (at_level k x) (at_level k y)
until_level k same = same
until_level k fourteen = fourteen

-- ## What the first says of the second

abbrev done? : {A : Type 0} → Result A → Type 0
done? (done a) = Unit {0}
done? (refused number place value) = ⊥
done? unfinished = ⊥

-- its number
abbrev numbered : {A : Type 0} → Result A → ℕ
numbered (done a) = 0
numbered (refused number place value) = number
numbered unfinished = 0

pub until_done : {A : Type 0} {place : ℕ} {x y : Result A} {a : A} → Until14 place x y → x ≡ done a → y ≡ done a
until_done same e = e
until_done {A} {place} fourteen e = absurd (subst done? (sym e) tt)

pub until_refused : {A : Type 0} {at number place : ℕ} {value : Vector} {x y : Result A} → Until14 at x y → ¬ (number ≡ 14)
    → x ≡ refused number place value → y ≡ refused number place value
until_refused same h e = e
until_refused fourteen h e = absurd (h (ap numbered (sym e)))
