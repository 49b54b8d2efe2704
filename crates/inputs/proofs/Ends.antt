-- Where the file of an input ends: within the input, and in its first bytes as in all of it. A file that was read is short.
use mathlib.Core.Path.{◌≡◌, refl, sym, ap, ◌∙◌, subst}
use mathlib.Core.Bool.{Bool, true, false}
use mathlib.Core.List.{[], ◌∷◌}
use Prim.Native.Nat.{ℕ, zero, suc, ◌+◌, ◌-◌, ◌<◌, ◌≤◌}
use native.Mathlib.Omega.{arith}
use lib.Dec.{leb, eqb}
use lib.ListN.{length, take, drop, length-drop}
use lib.Seq.{drop-nil, take-nil}
use borrow.Author.Tests.{leb-true, leb-false, lt-leb}
use Rattle.definitions.specs.Limits.{document_01}
use Rattle.definitions.specs.Lists.{◌and◌}
use Rattle.definitions.specs.Monomial.{Level}
use Rattle.definitions.specs.Result.{Result, done, refused, unless_refused, ◌>>=◌}
use Rattle.definitions.specs.Problem.{Bytes, Parameters, newline, letter_E, lines, first_line, body, problem}
use Rattle.definitions.specs.After.{before_e, line_length, file_end}
use Rattle.definitions.specs.Places.{file_length}

-- ## In the first bytes

-- the bytes before E, of the first m bytes
before_cut : (begins : Bool) (m : ℕ) (s : Bytes) → before_e begins s < m → before_e begins (take m s) ≡ before_e begins s
before_cut begins zero s h = absurd (omega arith)
before_cut begins (suc m) [] h = refl
before_cut begins (suc m) (b ∷ s) h = go (begins and eqb b letter_E) refl (before_cut (eqb b newline) m s)
  where
    go : (t : Bool) → (begins and eqb b letter_E) ≡ t
        → (before_e (eqb b newline) s < m → before_e (eqb b newline) (take m s) ≡ before_e (eqb b newline) s)
        → before_e begins (take (suc m) (b ∷ s)) ≡ before_e begins (b ∷ s)
    go true e ih =
        let x : before_e begins (b ∷ take m s) ≡ 0 = rw (e, before_e) in
        let y : before_e begins (b ∷ s) ≡ 0 = rw (e, before_e) in x ∙ sym y
    go false e ih =
        let x : before_e begins (b ∷ take m s) ≡ suc (before_e (eqb b newline) (take m s)) = rw (e, before_e) in
        let y : before_e begins (b ∷ s) ≡ suc (before_e (eqb b newline) s) = rw (e, before_e) in
        x ∙ ap suc (ih (omega arith)) ∙ sym y

-- .. no fewer than m where E stands behind them
before_long : (begins : Bool) (m : ℕ) (s : Bytes) → m ≤ before_e begins s → m ≤ before_e begins (take m s)
before_long begins zero s h = omega arith
before_long begins (suc m) [] h = h
before_long begins (suc m) (b ∷ s) h = go (begins and eqb b letter_E) refl (before_long (eqb b newline) m s)
  where
    go : (t : Bool) → (begins and eqb b letter_E) ≡ t → (m ≤ before_e (eqb b newline) s → m ≤ before_e (eqb b newline) (take m s))
        → suc m ≤ before_e begins (take (suc m) (b ∷ s))
    go true e ih = let y : before_e begins (b ∷ s) ≡ 0 = rw (e, before_e) in absurd (omega arith)
    go false e ih =
        let x : before_e begins (b ∷ take m s) ≡ suc (before_e (eqb b newline) (take m s)) = rw (e, before_e) in
        let y : before_e begins (b ∷ s) ≡ suc (before_e (eqb b newline) s) = rw (e, before_e) in
        let z = ih (omega arith) in omega arith

-- a line, of the first m bytes
line_cut : (m : ℕ) (s : Bytes) → line_length s ≤ m → line_length (take m s) ≡ line_length s
line_cut m [] h = ap line_length (take-nil m)
line_cut zero (b ∷ s) h = go (eqb b newline) refl
  where
    go : (t : Bool) → eqb b newline ≡ t → line_length [] ≡ line_length (b ∷ s)
    go true e = let y : line_length (b ∷ s) ≡ 1 = rw (e, line_length) in absurd (omega arith)
    go false e = let y : line_length (b ∷ s) ≡ suc (line_length s) = rw (e, line_length) in absurd (omega arith)
line_cut (suc m) (b ∷ s) h = go (eqb b newline) refl (line_cut m s)
  where
    go : (t : Bool) → eqb b newline ≡ t → (line_length s ≤ m → line_length (take m s) ≡ line_length s)
        → line_length (take (suc m) (b ∷ s)) ≡ line_length (b ∷ s)
    go true e ih =
        let x : line_length (b ∷ take m s) ≡ 1 = rw (e, line_length) in
        let y : line_length (b ∷ s) ≡ 1 = rw (e, line_length) in x ∙ sym y
    go false e ih =
        let x : line_length (b ∷ take m s) ≡ suc (line_length (take m s)) = rw (e, line_length) in
        let y : line_length (b ∷ s) ≡ suc (line_length s) = rw (e, line_length) in
        x ∙ ap suc (ih (omega arith)) ∙ sym y

line_long : (m : ℕ) (s : Bytes) → m ≤ line_length s → m ≤ line_length (take m s)
line_long zero s h = omega arith
line_long (suc m) [] h = h
line_long (suc m) (b ∷ s) h = go (eqb b newline) refl (line_long m s)
  where
    go : (t : Bool) → eqb b newline ≡ t → (m ≤ line_length s → m ≤ line_length (take m s)) → suc m ≤ line_length (take (suc m) (b ∷ s))
    go true e ih =
        let x : line_length (b ∷ take m s) ≡ 1 = rw (e, line_length) in
        let y : line_length (b ∷ s) ≡ 1 = rw (e, line_length) in omega arith
    go false e ih =
        let x : line_length (b ∷ take m s) ≡ suc (line_length (take m s)) = rw (e, line_length) in
        let y : line_length (b ∷ s) ≡ suc (line_length s) = rw (e, line_length) in
        let z = ih (omega arith) in omega arith

pub drop_take : (e m : ℕ) (s : Bytes) → drop e (take m s) ≡ take (m - e) (drop e s)
drop_take zero m s = let z : m ≡ m - 0 = omega arith in ap (λ k. take k s) z
drop_take (suc e) zero s = let z : 0 - suc e ≡ 0 = omega arith in drop-nil (suc e) ∙ sym (ap (λ k. take k (drop (suc e) s)) z)
drop_take (suc e) (suc m) [] = sym (ap (take (suc m - suc e)) (drop-nil {A = ℕ} (suc e)) ∙ take-nil (suc m - suc e))
drop_take (suc e) (suc m) (b ∷ s) = let z : m - e ≡ suc m - suc e = omega arith in drop_take e m s ∙ ap (λ k. take k (drop e s)) z

-- a file that ends within the first m bytes ends there in these, too
pub end_cut : (m : ℕ) (s : Bytes) → file_end s < m → file_end (take m s) ≡ file_end s
end_cut m s h =
    let e = before_e true s in
    let a : before_e true (take m s) ≡ e = before_cut true m s (omega arith) in
    let b : line_length (drop e (take m s)) ≡ line_length (drop e s) =
    ap line_length (drop_take e m s) ∙ line_cut (m - e) (drop e s) (omega arith) in
    (λ i. a i + line_length (drop (a i) (take m s))) ∙ ap (λ k. e + k) b

-- .. and one that does not is as long
pub end_long : (m : ℕ) (s : Bytes) → m ≤ file_end s → m ≤ file_end (take m s)
end_long m s h = go (leb m (before_e true s)) refl
  where
    e : ℕ
    e = before_e true s

    go : (t : Bool) → leb m (before_e true s) ≡ t → m ≤ file_end (take m s)
    go true k = let l = before_long true m s (leb-true m (before_e true s) k) in omega (arith, l)
    go false k =
        let l : e < m = leb-false m (before_e true s) k in
        let a : before_e true (take m s) ≡ e = before_cut true m s l in
        let b : m - e ≤ line_length (drop e (take m s)) =
        subst (λ z. m - e ≤ line_length z) (sym (drop_take e m s)) (line_long (m - e) (drop e s) (omega (arith, h))) in
        let c : file_end (take m s) ≡ e + line_length (drop e (take m s)) = λ i. a i + line_length (drop (a i) (take m s)) in
        omega (arith, b, c, l)

-- ## Within the input

before_inside : (begins : Bool) (s : Bytes) → before_e begins s ≤ length s
before_inside begins [] = omega arith
before_inside begins (b ∷ s) = go (begins and eqb b letter_E) refl (before_inside (eqb b newline) s)
  where
    go : (t : Bool) → (begins and eqb b letter_E) ≡ t → before_e (eqb b newline) s ≤ length s → before_e begins (b ∷ s) ≤ length (b ∷ s)
    go true e ih = let y : before_e begins (b ∷ s) ≡ 0 = rw (e, before_e) in omega arith
    go false e ih = let y : before_e begins (b ∷ s) ≡ suc (before_e (eqb b newline) s) = rw (e, before_e) in omega arith

line_inside : (s : Bytes) → line_length s ≤ length s
line_inside [] = omega arith
line_inside (b ∷ s) = go (eqb b newline) refl (line_inside s)
  where
    go : (t : Bool) → eqb b newline ≡ t → line_length s ≤ length s → line_length (b ∷ s) ≤ length (b ∷ s)
    go true e ih = let y : line_length (b ∷ s) ≡ 1 = rw (e, line_length) in omega arith
    go false e ih = let y : line_length (b ∷ s) ≡ suc (line_length s) = rw (e, line_length) in omega arith

pub end_inside : (s : Bytes) → file_end s ≤ length s
end_inside s = let e = before_e true s in
    omega (arith, before_inside true s, line_inside (drop e s), length-drop e s)

-- ## A file's length is tested first

module _ (bytes : Bytes) where
  then_read : Bool → Result (Parameters × Level)
  then_read b = (unless_refused b 1 0 >>= λ u. first_line document_01 (lines bytes)) >>= λ h.
      body document_01 h.parameters h.place 0 [] h.later >>= λ f. done (h.parameters, f)

  pub problem_long : file_length < length bytes → problem document_01 bytes ≡ refused 1 0 []
  unfolding then_read
  problem_long l = ap then_read (lt-leb (length bytes) file_length l)

  -- so one that was read is short
  pub problem_short : (f : Parameters × Level) → problem document_01 bytes ≡ done f → length bytes ≤ file_length
  problem_short f e = go (leb (length bytes) file_length) refl
    where
      never : ◌≡◌ {A = Result (Parameters × Level)} (refused 1 0 []) (done f) → ⊥
      never z = let y : ◌≡◌ {A = ℕ} 0 1 = cc in omega arith

      go : (b : Bool) → leb (length bytes) file_length ≡ b → length bytes ≤ file_length
      go true k = leb-true (length bytes) file_length k
      go false k = absurd (never (sym (problem_long (leb-false (length bytes) file_length k)) ∙ e))
