-- Lines of a text, the first one and what stands behind it; lines of a shape are short.
use mathlib.Core.Path.{◌≡◌, refl, sym, ap, ◌∙◌, subst}
use mathlib.Core.Bool.{Bool, true, false, not}
use mathlib.Core.Option.{Option, none, some}
use mathlib.Core.List.{List, [], ◌∷◌, ◌++◌}
use Prim.Native.Nat.{ℕ, zero, suc, ◌+◌, ◌*◌, ◌-◌, ◌≤◌}
use native.Mathlib.Omega.{arith}
use lib.Dec.{T, eqb, eqb→eq}
use lib.ListN.{length, take, length-append}
use lib.Seq.{take-append-add}
use Rattle.definitions.specs.Lists.{every, empty?}
use Rattle.definitions.specs.Problem.{Bytes, Line, newline, onto, split, ended, lines, shaped}
use Rattle.definitions.specs.Sheet.{decimal}
use Rattle.laws.proofs.Tests.{and_left, and_right, and_both}
use Rattle.laws.proofs.Digits.{digits_few}
use Rattle.laws.proofs.Results.{IfSome}
use Rattle.laws.proofs.Members.{All}
use Rattle.files.proofs.Lines.{listed, Shape, shaped_only}

-- ## Lines of a text

abbrev pub Without : Bytes → Type 0
Without x = T (every (λ b. not (eqb b newline)) x)

not_is : (b : Bool) → T (not b) → b ≡ false
not_is true t = absurd t
not_is false t = refl

first_not : (b : ℕ) (x : Bytes) → Without (b ∷ x) → eqb b newline ≡ false
first_not b x h = not_is (eqb b newline) (and_left (not (eqb b newline)) (every (λ b. not (eqb b newline)) x) h)

rest_not : (b : ℕ) (x : Bytes) → Without (b ∷ x) → Without x
rest_not b x h = and_right (not (eqb b newline)) (every (λ b. not (eqb b newline)) x) h

split_at : (x rest : Bytes) → Without x → split newline (x ++ newline ∷ rest) ≡ x ∷ split newline rest
split_at [] rest h = refl
split_at (b ∷ x) rest h =
    ap (λ c. elim c [ true ↦ [] ∷ split newline (x ++ newline ∷ rest) | false ↦ onto b (split newline (x ++ newline ∷ rest)) ]) (first_not b x h)
    ∙ ap (onto b) (split_at x rest (rest_not b x h))

pub split_none : (x : Bytes) → Without x → split newline x ≡ x ∷ []
split_none [] h = refl
split_none (b ∷ x) h =
    ap (λ c. elim c [ true ↦ [] ∷ split newline x | false ↦ onto b (split newline x) ]) (first_not b x h)
    ∙ ap (onto b) (split_none x (rest_not b x h))

split_filled : (x : Bytes) → T (not (empty? (split newline x)))
split_filled [] = tt
split_filled (b ∷ x) = go (eqb b newline) (split newline x)
  where
    go : (c : Bool) (ps : List Bytes) → T (not (empty? {A = Bytes} (elim c [ true ↦ [] ∷ ps | false ↦ onto b ps ])))
    go true ps = tt
    go false [] = tt
    go false (p ∷ ps) = tt

pub line_first : (x rest : Bytes) → Without x → lines (x ++ newline ∷ rest) ≡ (x, true) ∷ lines rest
line_first x rest h = ap ended (split_at x rest h) ∙ go (split newline rest) (split_filled rest)
  where
    go : (ps : List Bytes) → T (not (empty? ps)) → ended (x ∷ ps) ≡ (x, true) ∷ ended ps
    go [] t = absurd t
    go (p ∷ ps) t = refl

-- the first line, or what has no end
pub data Front : Bytes → Type 0 where
  open_end : {x : Bytes} → Without x → Front x
  one_line : (x rest : Bytes) → Without x → Front (x ++ newline ∷ rest)

pub front : (bytes : Bytes) → Front bytes
front [] = open_end tt
front (b ∷ bytes) = go (eqb b newline) (eqb→eq b newline) (λ n. n) (front bytes)
  where
    longer : {z : Bytes} → T (not (eqb b newline)) → Front z → Front (b ∷ z)
    longer n (open_end {x} w) = open_end (and_both (not (eqb b newline)) (every (λ b. not (eqb b newline)) x) n w)
    longer n (one_line x rest w) = one_line (b ∷ x) rest (and_both (not (eqb b newline)) (every (λ b. not (eqb b newline)) x) n w)

    go : (c : Bool) → (T c → b ≡ newline) → (T (not c) → T (not (eqb b newline))) → Front bytes → Front (b ∷ bytes)
    go true e n f = subst (λ z. Front (z ∷ bytes)) (sym (e tt)) (one_line [] bytes tt)
    go false e n f = longer (n tt) f

pub take_without : (m : ℕ) (x : Bytes) → Without x → Without (take m x)
take_without zero x w = tt
take_without (suc m) [] w = tt
take_without (suc m) (b ∷ x) w =
    and_both (not (eqb b newline)) (every (λ b. not (eqb b newline)) (take m x)) (and_left (not (eqb b newline)) (every (λ b. not (eqb b newline)) x) w)
    (take_without m x (rest_not b x w))

-- a line with its end, within the first m bytes
pub taken_line : (m : ℕ) (x rest : Bytes) → suc (length x) ≤ m → take m (x ++ newline ∷ rest) ≡ x ++ newline ∷ take (m - suc (length x)) rest
taken_line m x rest k =
    let z : m ≡ length x + suc (m - suc (length x)) = omega arith in
    ap (λ i. take i (x ++ newline ∷ rest)) z ∙ take-append-add x (newline ∷ rest) (suc (m - suc (length x)))

-- ## A line of a shape is short

listed_short : (vs : List ℕ) → All (λ v. v ≤ 65535) vs → length (listed vs) ≤ length vs * 6
listed_short [] h = omega arith
listed_short (v ∷ vs) h =
    let l : v ≤ 65535 = h.0 in
    omega (arith, length-append (decimal v) (listed vs), digits_few (suc v) 4 v (omega arith), listed_short vs h.1)

pub shaped_short : (letter count : ℕ) (line : Line) → IfSome (λ v. length line.0 ≤ 1 + count * 6) (shaped 65535 letter count line)
shaped_short letter count line = go (shaped 65535 letter count line) (shaped_only 65535 letter count line)
  where
    go : (o : Option (List ℕ)) → IfSome (Shape 65535 letter count line) o → IfSome (λ v. length line.0 ≤ 1 + count * 6) o
    go none s = tt
    go (some vs) s =
        let k = listed_short vs s.within in
        let e : length line.0 ≡ suc (length (listed vs)) = ap (λ (l : Line). length l.0) s.text in
        let c = s.counted in omega (arith, k, e, c)
