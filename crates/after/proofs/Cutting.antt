-- The bytes before E, the bytes of a line, and lines counted, one byte or line at a time.
use mathlib.Core.Path.{◌≡◌, refl, sym, ap, ◌∙◌}
use mathlib.Core.Bool.{Bool, true, false}
use mathlib.Core.List.{[], ◌∷◌}
use Prim.Native.Nat.{ℕ, suc, ◌+◌, ◌<◌, ◌≤◌}
use native.Mathlib.Omega.{arith}
use lib.Dec.{eqb}
use lib.ListN.{length, get_or, drop, drop_of_length-le, length-drop}
use lib.Seq.{drop-cons, drop-drop}
use Rattle.definitions.specs.Lists.{◌and◌}
use Rattle.definitions.specs.Problem.{Bytes, Line, newline, letter_E, lines}
use Rattle.definitions.specs.After.{before_e, line_length}
use Rattle.reader.specs.fields.Scanning.{behind}
use Rattle.reader.proofs.fields.Lines.{first_of}

-- ## Before E

module _ (begins : Bool) (s : Bytes) (i : ℕ) (h : i < length s) where
  pub here : drop i s ≡ get_or s i 0 ∷ drop (i + 1) s
  here = let e : suc i ≡ i + 1 = omega arith in drop-cons s i 0 h ∙ ap (λ j. get_or s i 0 ∷ drop j s) e

  pub before_here : (begins and eqb (get_or s i 0) letter_E) ≡ true → before_e begins (drop i s) ≡ 0
  before_here e = ap (before_e begins) here ∙ rw (e, before_e)

  pub before_on : (begins and eqb (get_or s i 0) letter_E) ≡ false
      → before_e begins (drop i s) ≡ suc (before_e (eqb (get_or s i 0) newline) (drop (i + 1) s))
  before_on e = ap (before_e begins) here ∙ rw (e, before_e)

pub before_end : (begins : Bool) (s : Bytes) (i : ℕ) → length s ≤ i → before_e begins (drop i s) ≡ 0
before_end begins s i h = ap (before_e begins) (drop_of_length-le s h)

-- ## A line

module _ (s : Bytes) (i : ℕ) (h : i < length s) where
  pub line_here : eqb (get_or s i 0) newline ≡ true → line_length (drop i s) ≡ 1
  line_here e = ap line_length (here true s i h) ∙ rw (e, line_length)

  pub line_on : eqb (get_or s i 0) newline ≡ false → line_length (drop i s) ≡ suc (line_length (drop (i + 1) s))
  line_on e = ap line_length (here true s i h) ∙ rw (e, line_length)

pub line_end : (s : Bytes) (i : ℕ) → length s ≤ i → line_length (drop i s) ≡ 0
line_end s i h = ap line_length (drop_of_length-le s h)

-- ## Lines counted

module _ (b : ℕ) (s : Bytes) where
  behind_here : eqb b newline ≡ true → behind (b ∷ s) ≡ drop (line_length (b ∷ s)) (b ∷ s)
  behind_here e = let k : line_length (b ∷ s) ≡ 1 = rw (e, line_length) in let l : behind (b ∷ s) ≡ s = rw (e, behind) in
      l ∙ sym (ap (λ n. drop n (b ∷ s)) k)

  behind_there : eqb b newline ≡ false → behind s ≡ drop (line_length s) s → behind (b ∷ s) ≡ drop (line_length (b ∷ s)) (b ∷ s)
  behind_there e h = let k : line_length (b ∷ s) ≡ suc (line_length s) = rw (e, line_length) in let l : behind (b ∷ s) ≡ behind s = rw (e, behind) in
      l ∙ h ∙ sym (ap (λ n. drop n (b ∷ s)) k)

-- what stands behind a line
pub behind_is : (s : Bytes) → behind s ≡ drop (line_length s) s
behind_is [] = refl
behind_is (b ∷ s) = go (eqb b newline) refl (behind_is s)
  where
    go : (t : Bool) → eqb b newline ≡ t → behind s ≡ drop (line_length s) s → behind (b ∷ s) ≡ drop (line_length (b ∷ s)) (b ∷ s)
    go true e h = behind_here b s e
    go false e h = behind_there b s e h

-- a line is not empty
pub line_some : (b : ℕ) (s : Bytes) → 0 < line_length (b ∷ s)
line_some b s = go (eqb b newline) refl
  where
    go : (t : Bool) → eqb b newline ≡ t → 0 < line_length (b ∷ s)
    go true e = let k : line_length (b ∷ s) ≡ 1 = rw (e, line_length) in omega arith
    go false e = let k : line_length (b ∷ s) ≡ suc (line_length s) = rw (e, line_length) in omega arith

-- less is left behind a line
pub behind_less : (s : Bytes) (i : ℕ) → i < length s → length (behind (drop i s)) < length (drop i s)
behind_less s i h =
    let e = ap length (behind_is (drop i s)) ∙ length-drop (line_length (drop i s)) (drop i s) in
    let l = ap line_length (here true s i h) in
    let m = line_some (get_or s i 0) (drop (i + 1) s) in
    omega (arith, e, l, m, length-drop i s)

module _ (s : Bytes) (i : ℕ) (h : i < length s) where
  pub line_passes : i < i + line_length (drop i s)
  line_passes = let k : line_length (drop i s) ≡ line_length (get_or s i 0 ∷ drop (i + 1) s) = ap line_length (here true s i h) in
      let l = line_some (get_or s i 0) (drop (i + 1) s) in omega arith

  -- one line more
  pub lines_more : length (lines (drop i s)) ≡ suc (length (lines (drop (i + line_length (drop i s)) s)))
  lines_more = ap (λ z. length (lines z)) (here true s i h) ∙ go (get_or s i 0 ∷ drop (i + 1) s) (first_of (get_or s i 0) (drop (i + 1) s))
      ∙ ap (λ z. suc (length (lines z))) (sym (ap behind (here true s i h)) ∙ behind_is (drop i s) ∙ drop-drop (line_length (drop i s)) i s)
    where
      go : (z : Bytes) → (line : Line) × (lines z ≡ line ∷ lines (behind z)) → length (lines z) ≡ suc (length (lines (behind z)))
      go z (line, e) = ap length e

pub lines_end : (s : Bytes) (i : ℕ) → length s ≤ i → length (lines (drop i s)) ≡ 0
lines_end s i h = ap (λ z. length (lines z)) (drop_of_length-le s h)
