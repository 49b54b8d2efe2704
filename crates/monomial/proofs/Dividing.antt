-- Divisibility by the marks of four lanes at a time.
use Rattle.std.proofs.Common.{◌≡◌, ℕ, ◌+◌, ◌-◌, ◌*◌, ◌/◌, ◌%◌, ◌<◌, ◌≤◌, Bool, true, false, eqb, leb, sym, refl, ap, ◌∙◌, ap₂, arith, leb-false, leb-true}
use lib.Bits.{bit_and, and_high, and_le_r}
use Rattle.monomial.specs.Values.{lane_bytes, lane_marks}
use Rattle.definitions.specs.Lists.{◌and◌}
use Rattle.definitions.specs.Monomial.{divides?}
use Rattle.definitions.specs.Packed.{four, unpack}
use Rattle.laws.proofs.Packing.{Bytes}
use Rattle.monomial.proofs.Lanes.{and4, lows, highs}

-- a lane's mark
abbrev pub mark : Bool → ℕ
mark true = 256
mark false = 0

-- what is left of the mark in front of y when x is taken off
pub gap_mark : (x y : ℕ) → x < 256 → y < 256 → bit_and (y + 256 - x) 256 ≡ mark (leb x y)
gap_mark x y hx hy = and_high (y + 256 - x) 1 8 ∙ go (leb x y) refl
  where
    go : (b : Bool) → leb x y ≡ b → (y + 256 - x) / 256 % 2 * 256 ≡ mark b
    go true e = let l : x ≤ y = leb-true x y e in omega arith
    go false e = let l : y < x = leb-false x y e in omega arith

pub gaps : (a b c d p q r s : ℕ) → a < 256 → b < 256 → c < 256 → d < 256
    → four p q r s + lane_marks - four a b c d ≡ four (p + 256 - a) (q + 256 - b) (r + 256 - c) (s + 256 - d)
gaps a b c d p q r s ha hb hc hd = omega arith

-- four lanes compared
pub gap_marks : (a b c d p q r s : ℕ) → a < 256 → b < 256 → c < 256 → d < 256 → p < 256 → q < 256 → r < 256 → s < 256
    → bit_and (four p q r s + lane_marks - four a b c d) lane_marks ≡ four (mark (leb a p)) (mark (leb b q)) (mark (leb c r)) (mark (leb d s))
gap_marks a b c d p q r s ha hb hc hd hp hq hr hs =
    ap (λ n. bit_and n lane_marks) (gaps a b c d p q r s ha hb hc hd)
    ∙ and4 (p + 256 - a) (q + 256 - b) (r + 256 - c) (s + 256 - d) 256 256 256 256 (omega arith) (omega arith) (omega arith) (omega arith) (omega arith)
    (omega arith)
    ∙ (λ i. four (gap_mark a p ha hp i) (gap_mark b q hb hq i) (gap_mark c r hc hr i) (gap_mark d s hd hs i))

both : (p q : Bool) → bit_and (mark p) (mark q) ≡ mark (p and q)
both true true = refl
both true false = refl
both false q = refl

small : (p : Bool) → mark p < 65536
small true = omega arith
small false = omega arith

all_marked : (p q r s : Bool) → eqb (four (mark p) (mark q) (mark r) (mark s)) lane_marks ≡ (p and (q and (r and s)))
all_marked true true true true = refl
all_marked true true true false = refl
all_marked true true false true = refl
all_marked true true false false = refl
all_marked true false true true = refl
all_marked true false true false = refl
all_marked true false false true = refl
all_marked true false false false = refl
all_marked false true true true = refl
all_marked false true true false = refl
all_marked false true false true = refl
all_marked false true false false = refl
all_marked false false true true = refl
all_marked false false true false = refl
all_marked false false false true = refl
all_marked false false false false = refl

pub regrouped : (p q r : Bool) → ((p and q) and r) ≡ (p and (q and r))
regrouped true q r = refl
regrouped false q r = refl

pub ended : (p : Bool) → p ≡ (p and true)
ended true = refl
ended false = refl

pub marks_and : (p q r s t u v w : Bool)
    → eqb (bit_and (four (mark p) (mark r) (mark t) (mark v)) (four (mark q) (mark s) (mark u) (mark w))) lane_marks
    ≡ (p and (q and (r and (s and (t and (u and (v and (w and true))))))))
marks_and p q r s t u v w =
    ap (λ n. eqb n lane_marks)
    (and4 (mark p) (mark r) (mark t) (mark v) (mark q) (mark s) (mark u) (mark w) (small r) (small t) (small v) (small s) (small u) (small w)
    ∙ (λ i. four (both p q i) (both r s i) (both t u i) (both v w i)))
    ∙ all_marked (p and q) (r and s) (t and u) (v and w)
    ∙ regrouped p q ((r and s) and ((t and u) and (v and w)))
    ∙ (λ i. p and (q and regrouped r s ((t and u) and (v and w)) i))
    ∙ (λ i. p and (q and (r and (s and regrouped t u (v and w) i))))
    ∙ (λ i. p and (q and (r and (s and (t and (u and (v and ended w i)))))))

pub divides_lanes : (x y : ℕ) → Bytes x → Bytes y
    → eqb (bit_and
    (bit_and (bit_and (y / 256) lane_bytes + lane_marks - bit_and (x / 256) lane_bytes) lane_marks)
    (bit_and (bit_and y lane_bytes + lane_marks - bit_and x lane_bytes) lane_marks))
    lane_marks
    ≡ divides? (unpack x) (unpack y)
divides_lanes x y a b =
    ap₂ (λ m n. eqb (bit_and m n) lane_marks)
    ((λ i. bit_and (highs y b i + lane_marks - highs x a i) lane_marks)
    ∙ gap_marks a.d1 a.d3 a.d5 a.d7 b.d1 b.d3 b.d5 b.d7 a.s1 a.s3 a.s5 a.s7 b.s1 b.s3 b.s5 b.s7)
    ((λ i. bit_and (lows y b i + lane_marks - lows x a i) lane_marks)
    ∙ gap_marks a.d2 a.d4 a.d6 a.d8 b.d2 b.d4 b.d6 b.d8 a.s2 a.s4 a.s6 a.s8 b.s2 b.s4 b.s6 b.s8)
    ∙ marks_and (leb a.d1 b.d1) (leb a.d2 b.d2) (leb a.d3 b.d3) (leb a.d4 b.d4) (leb a.d5 b.d5) (leb a.d6 b.d6)
    (leb a.d7 b.d7) (leb a.d8 b.d8)
    ∙ sym (λ i. divides? (a.spelled i) (b.spelled i))

-- no difference goes below zero
pub enough : (x y : ℕ) → bit_and x lane_bytes ≤ bit_and y lane_bytes + lane_marks
enough x y = omega (arith, and_le_r x lane_bytes)
