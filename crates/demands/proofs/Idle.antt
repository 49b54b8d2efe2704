-- The idle engines of document 01's list are shut out, by computation.
use mathlib.Core.Path.{◌≡◌, refl, sym, ap, ◌∙◌, subst}
use mathlib.Core.Bool.{not}
use mathlib.Core.Option.{Option, none, some}
use mathlib.Core.List.{List, [], ◌∷◌, ◌++◌}
use Prim.Native.Nat.{ℕ, ◌≤◌}
use native.Mathlib.Omega.{arith}
use native.Mathlib.Nat.{le_refl}
use lib.Dec.{T, leb, eqb, eqb_refl, le→leb, T_not}
use lib.ListN.{length, get_or, replicate, length-replicate}
use Rattle.definitions.specs.Limits.{Limits, document_01}
use Rattle.definitions.specs.Monomial.{Level, leading_term, leading_monomials}
use Rattle.definitions.specs.Stage.{highest}
use Rattle.definitions.specs.Frame.{frame}
use Rattle.definitions.specs.Lifting.{by_tree}
use Rattle.definitions.specs.Problem.{Bytes, Parameters}
use Rattle.definitions.specs.State.{State}
use Rattle.definitions.specs.Calls.{Reply, refuse, settled, lift}
use Rattle.definitions.specs.Sheet.{decimal, printed, letter_Z, x_lines}
use Rattle.definitions.specs.Layout.{Words, padded, state_words, work_words, division, long_enough?, encode, Read}
use Rattle.laws.proofs.Tests.{and_both}
use Rattle.definitions.proofs.Text.{text}
use Rattle.definitions.proofs.Instances.{xyz, xy, f₁, g₁}
use Rattle.definitions.proofs.Views.{limited}
use Rattle.demands.specs.Exact.{LevelRight}
use Rattle.demands.specs.Idle.{Engine, Right, EmptyAlways, Level2Empty, RefusesAll, CountInvented, Early14, Early14Vector, TreeEngine}
use Rattle.demands.specs.Idle.{LiftsRight, Early14Tree}
use Rattle.demands.specs.Idle.{ReadsRight, Untouched, ZeroVector, IdleShutOut}
use Rattle.demands.proofs.Stored.{at_zeros}
use Rattle.demands.proofs.PrintedFile.{printed_file, q₁, X₁, reads}

-- two lists that differ at a place
differ : (i : ℕ) (a b : Bytes) → T (not (eqb (get_or a i 0) (get_or b i 0))) → a ≡ b → ⊥
differ i a b t e = T_not (eqb (get_or b i 0) (get_or b i 0)) (subst (λ z. T (not (eqb (get_or z i 0) (get_or b i 0)))) e t) (eqb_refl (get_or b i 0))

-- ## Sheets

abbrev printed_lines : Bytes
printed_lines = text ("S,1,1,1,2,1,0" ∷ "S,1,1,6,1,0,2" ∷ "S,1,1,6,1,0,0" ∷ "S,1,1,1,2,0,1" ∷ "Z,1,1" ∷ "Z,2,0" ∷ [])

prints : (E : Engine) → Right document_01 E → E printed_file ≡ printed_lines
prints E r = r 99 printed_file printed_lines refl

empty_always : (E : Engine) → Right document_01 E → EmptyAlways document_01 E → ⊥
empty_always E r i = differ 0 printed_lines (printed letter_Z (1 ∷ 0 ∷ [])) tt (sym (prints E r) ∙ i printed_file (q₁, f₁) refl)

refuses_all : (E : Engine) → Right document_01 E → RefusesAll E → ⊥
refuses_all E r i = let (n, number, place, (value, e)) = i printed_file in
    differ 0 printed_lines (x_lines n number place value) tt (sym (prints E r) ∙ e)

-- x, y, z: three vectors over them, and one over these
abbrev three_file : Bytes
three_file = text ("R,7,3,1,1" ∷ "T,1,1,1,1,0,0" ∷ "T,2,1,1,0,1,0" ∷ "T,3,1,1,0,0,1" ∷ "E,3" ∷ [])

abbrev level_1_lines : Bytes
level_1_lines = text ("S,1,1,1,2,1,0,0" ∷ "S,1,1,6,1,0,1,0" ∷ "S,1,2,1,3,0,1,0" ∷ "S,1,2,6,2,0,0,1" ∷ "S,1,3,1,3,1,0,0" ∷ "S,1,3,6,1,0,0,1" ∷ "Z,1,3"
    ∷ [])

abbrev level_2_lines : Bytes
level_2_lines = text ("S,2,1,1,3,0,1,0" ∷ "S,2,1,6,2,1,0,0" ∷ "S,2,1,6,1,0,0,1" ∷ "Z,2,1" ∷ "Z,3,0" ∷ [])

abbrev q₃ : Parameters
q₃ = record { p = 7; n = 3; code = 1; s = 1; degrees = 0 ∷ [] }

abbrev f₃ : Level
f₃ = ((1, (xyz 1 0 0, 1)) ∷ []) ∷ ((1, (xyz 0 1 0, 1)) ∷ []) ∷ ((1, (xyz 0 0 1, 1)) ∷ []) ∷ []

abbrev g₃ : Level
g₃ =
    ((1, (xyz 1 0 0, 2)) ∷ (6, (xyz 0 1 0, 1)) ∷ []) ∷ ((1, (xyz 0 1 0, 3)) ∷ (6, (xyz 0 0 1, 2)) ∷ [])
    ∷ ((1, (xyz 1 0 0, 3)) ∷ (6, (xyz 0 0 1, 1)) ∷ []) ∷ []

level_2_empty : (E : Engine) → Right document_01 E → Level2Empty document_01 E → ⊥
level_2_empty E r i =
    differ 102 (level_1_lines ++ level_2_lines) (level_1_lines ++ printed letter_Z (2 ∷ 0 ∷ [])) tt
    (sym (r 99 three_file (level_1_lines ++ level_2_lines) refl)
    ∙ i 99 three_file (record { parameters = q₃; levels = f₃ ∷ [] }) (record { parameters = q₃; levels = g₃ ∷ f₃ ∷ [] }) refl refl)

-- the first byte after `Z,1,` does not depend on what follows the line
first_byte : (d later : Bytes) → get_or ((d ++ 10 ∷ []) ++ later) 0 0 ≡ get_or (d ++ 10 ∷ []) 0 0
first_byte [] later = refl
first_byte (b ∷ d) later = refl

abbrev one_file : Bytes
one_file = text ("R,7,2,1,1" ∷ "T,1,1,1,1,0" ∷ "E,1" ∷ [])

abbrev X₀ : State
X₀ = record { parameters = q₁; levels = (((1, xy 1 0 1) ∷ []) ∷ []) ∷ [] }

abbrev Y₀ : State
Y₀ = record { parameters = q₁; levels = [] ∷ (((1, xy 1 0 1) ∷ []) ∷ []) ∷ [] }

abbrev Y₁ : State
Y₁ = record { parameters = q₁; levels = g₁ ∷ f₁ ∷ [] }

count_invented : (E : Engine) (count : ℕ) → Right document_01 E → CountInvented document_01 count E → ⊥
count_invented E count r i =
    let (later, e) = i 99 printed_file X₁ Y₁ refl refl in
    let (nothing, d) = i 99 one_file X₀ Y₀ refl refl in
    let one : 49 ≡ get_or (decimal count ++ 10 ∷ []) 0 0 = ap (λ l. get_or l 60 0) (sym (prints E r) ∙ e) ∙ first_byte (decimal count) later in
    let zero : 48 ≡ get_or (decimal count ++ 10 ∷ []) 0 0 =
    ap (λ l. get_or l 4 0) (sym (r 99 one_file (text ("Z,1,0" ∷ [])) refl) ∙ d) ∙ first_byte (decimal count) nothing in
    omega (arith, one, zero)

-- two terms are enough for the printed file, and one is not
early_14 : (E : Engine) → Right (limited 255 128 2048 2 512 4096) E → Early14 (limited 255 128 2048 2 512 4096) E → ⊥
early_14 E r i = differ 0 printed_lines (text ("X,14,0" ∷ [])) tt (sym (r 99 printed_file printed_lines refl)
    ∙ i 99 printed_file (text ("X,14,0" ∷ [])) refl)

-- four terms are enough for its vector, and three are not
early_14_vector : (E : Engine) → Right (limited 255 128 2048 512 4 4096) E → Early14Vector (limited 255 128 2048 512 4 4096) E → ⊥
early_14_vector E r i =
    differ 0 printed_lines (text ("X,14,0" ∷ [])) tt (sym (r 99 printed_file printed_lines refl) ∙ i 99 printed_file (text ("X,14,0" ∷ [])) refl)

-- what lifting level 1 over the printed file by the tree answers, without a cache
abbrev by_the_tree : Limits → Option Reply
by_the_tree lim = settled (lift lim 99 X₁ 1 (by_tree 0))

abbrev reply_in : Option Reply → Reply
reply_in none = refuse 16 X₁
reply_in (some a) = a

-- three terms in the unfinished subtrees are enough for it, and two are not
early_14_tree : (E : TreeEngine) → LiftsRight (limited 255 128 2048 512 512 3) E → Early14Tree (limited 255 128 2048 512 512 3) E → ⊥
early_14_tree E r i =
    let e : E X₁ 1 0 ≡ reply_in (by_the_tree (limited 255 128 2048 512 512 3)) =
    r 99 X₁ 1 0 (reply_in (by_the_tree (limited 255 128 2048 512 512 3))) refl in
    let d : E X₁ 1 0 ≡ reply_in (by_the_tree (limited 255 128 2048 512 512 2)) =
    i 99 X₁ 1 0 (reply_in (by_the_tree (limited 255 128 2048 512 512 2))) refl in
    let z : ◌≡◌ {A = ℕ} 0 14 = ap (λ (a : Reply). a.number) (sym e ∙ d) in
    omega arith

-- ## Buffers

-- reading the printed file writes p into the first word
untouched_at : (R : Bytes → Words → Words → Read) → ReadsRight document_01 R → Untouched R → (state work : Words)
    → T (long_enough? document_01 division state work) → get_or state 0 0 ≡ 0 → ⊥
untouched_at R r u state work t z =
    let e : R printed_file state work ≡ (0, 0, encode document_01 (length state) X₁, padded (length work) []) =
    r 99 printed_file state work _ (reads state work t) in
    let d : encode document_01 (length state) X₁ ≡ state = sym (ap (λ (x : Read). x.2) e) ∙ u printed_file state work in
    let p : ◌≡◌ {A = ℕ} 7 0 = ap (λ l. get_or l 0 0) d ∙ z in
    omega arith

-- words that are all zero, of any size that is long enough
long_zeros : (size width : ℕ) → state_words document_01 ≤ size → work_words document_01 division ≤ width
    → T (long_enough? document_01 division (replicate size 0) (replicate width 0))
long_zeros size width l m = and_both (leb (state_words document_01) (length state)) (leb (work_words document_01 division) (length work))
    (le→leb (state_words document_01) (length state) (subst (λ n. state_words document_01 ≤ n) (sym (length-replicate size 0)) l))
    (le→leb (work_words document_01 division) (length work) (subst (λ n. work_words document_01 division ≤ n) (sym (length-replicate width 0)) m))
  where
    state : Words
    state = replicate size 0

    work : Words
    work = replicate width 0

untouched : (R : Bytes → Words → Words → Read) → ReadsRight document_01 R → Untouched R → ⊥
untouched R r u = go (state_words document_01) (work_words document_01 division) (le_refl (state_words document_01))
    (le_refl (work_words document_01 division))
  where
    go : (size width : ℕ) → state_words document_01 ≤ size → work_words document_01 division ≤ width → ⊥
    go size width l m = untouched_at R r u (replicate size 0) (replicate width 0) (long_zeros size width l m) (at_zeros size 0)

-- ## Levels

zero_vectors : (q : Parameters) (code : ℕ) (below : List Level) (f : Level) → LevelRight q code below f → ZeroVector f → ⊥
zero_vectors q code below f l z =
    let m = get_or (frame code (leading_monomials (highest below))) z.k ([], 0) in
    let e : leading_term [] ≡ (1, m) = ap leading_term (sym z.zero) ∙ (l.vectors z.k z.inside).in_front in
    let d : ◌≡◌ {A = ℕ} 0 1 = ap (λ t. t.0) e in
    omega arith

pub idle_shut_out : IdleShutOut document_01 (limited 255 128 2048 2 512 4096) (limited 255 128 2048 512 4 4096) (limited 255 128 2048 512 512 3)
idle_shut_out = record {
  empty_always = empty_always;
  level_2_empty = level_2_empty;
  refuses_all = refuses_all;
  count_invented = count_invented;
  untouched = untouched;
  early_14 = early_14;
  early_14_vector = early_14_vector;
  early_14_tree = early_14_tree;
  zero_vectors = zero_vectors;
}
