-- A part of a list that is lent, changed and put back.
use mathlib.Core.Path.{◌≡◌, sym, ap, ◌∙◌}
use mathlib.Core.List.{◌++◌, append_assoc}
use Prim.Native.Nat.{ℕ, ◌+◌, ◌≤◌}
use native.Mathlib.Omega.{arith}
use lib.ListN.{length, take, drop, length-drop, take-append-drop}
use lib.Seq.{paste, take-take, take-add, drop-drop, drop-append-le, length-take-le}
use Rattle.definitions.specs.Layout.{Words}
use Rattle.vectors.specs.terms.Rows.{cleared}
use Rattle.state.specs.writing.LevelSoFar.{block_cleared}

-- n words from b on, into which m others were pasted
pub paste_part : (s w : Words) (b n a m : ℕ) → b + n ≤ length s → a + m ≤ n → m ≤ length w → take b s
    ++ (paste (take n (drop b s)) a w m ++ drop n (drop b s)) ≡ paste s (b + a) w m
paste_part s w b n a m h l k =
    let D : Words = drop b s in
    let z : b + (a + m) ≡ b + a + m = omega arith in
    let t : length (take n D) ≡ n = length-take-le n D (omega (arith, length-drop b s)) in
    let e : drop (a + m) (take n D) ++ drop n D ≡ drop (b + a + m) s =
    sym (drop-append-le (a + m) (take n D) (drop n D) (omega arith)) ∙ ap (drop (a + m)) (take-append-drop n D) ∙ drop-drop (a + m) b s
    ∙ ap (λ j. drop j s) z in
    ap (λ x. take b s ++ x) (append_assoc (take a (take n D) ++ take m w) (drop (a + m) (take n D)) (drop n D)
    ∙ (λ i. (take-take a n D (omega arith) i ++ take m w) ++ e i))
    ∙ sym (append_assoc (take b s) (take a D ++ take m w) (drop (b + a + m) s))
    ∙ ap (λ x. x ++ drop (b + a + m) s) (sym (append_assoc (take b s) (take a D) (take m w)) ∙ ap (λ x. x ++ take m w) (sym (take-add b a s)))

-- .. all but the first u of which were zeroed
pub block_by : (s s' w : Words) (a n n' u u' : ℕ) → s ≡ s' → n' ≡ n → u' ≡ u → w ≡ cleared (take n' (drop a s)) u' → take a s
    ++ (w ++ drop n' (drop a s)) ≡ block_cleared a n u s'
block_by s s' w a n n' u u' es en eu e = λ i. take a (es i) ++ ((e ∙ (λ j. cleared (take (en j) (drop a (es j))) (eu j))) i
    ++ drop (en i) (drop a (es i)))
