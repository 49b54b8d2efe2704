-- A2 of the code's routines: what their answers say, each exactly when, in document 01's relations (crate comparing).
-- One corollary for each contract; what it asks for beside the contract is eight exponents and a code from 1 to 3, which every sound state has.
use mathlib.Core.Path.{◌≡◌, refl, sym, ap, ◌∙◌}
use mathlib.Core.Logic.{◌↔◌}
use mathlib.Core.Bool.{Bool, true, false}
use mathlib.Core.List.{List, [], ◌∷◌}
use Prim.Native.Nat.{ℕ, zero, suc, ◌-◌}
use lib.Dec.{T, eqb}
use lib.ListN.{length, drop}
use Rattle.definitions.specs.Limits.{Limits}
use Rattle.definitions.specs.Lists.{between}
use Rattle.definitions.specs.Monomial as definition
use Rattle.definitions.specs.Monomial.{Exponents, Level, degree}
use Rattle.definitions.specs.Order as definition_order
use Rattle.definitions.specs.Order.{greater, equal, smaller, or_at_tie, numbers, lexicographic, last_differing, degrees, exponents_by, compare_over}
use Rattle.definitions.specs.State.{State, sound?, up_to}
use Rattle.laws.proofs.Comparisons.{turned, tie_turns, numbers_turn}
use Rattle.laws.proofs.Sound.{sound_says}
use Rattle.comparing.specs.Above.{ExponentsAbove, Above}
use Rattle.laws.proofs.Packing.{unpack_long}
use Rattle.comparing.specs.Comparing.{Eight}
use Rattle.comparing.proofs.Exactly.{Exactly}
use Rattle.comparing.proofs.Exponents.{exponents_exactly}
use Rattle.comparing.proofs.Comparing.{compare_exactly}
use Rattle.comparing.proofs.Sound.{leads, levels_descending, code_in_range}
use Rattle.monomial.specs.Values.{monomial_of}
use Rattle.monomial.specs.declared.Monomial.{Monomial}
use Rattle.orders.specs.Images.{comparison_of, Key, compare_keys, key}
use Rattle.orders.specs.Levels.{images}
use Rattle.std.specs.declared.cmp.Ordering.{Ordering}
use Rattle.std.specs.declared.cmp.Ordering.TheVariants.{Less, Equal, Greater}
use Rattle.std.specs.Ordering.{ordering_reverse}
use Rattle.orders.proofs.Induced.{AllLed, no_levels, one_level, table_order_is, sound_led}

-- Greater exactly where A holds, Equal exactly where B does, Less exactly where C does
pub record Tells (A B C : Type 0) (r : Ordering) : Type 0 where
  pub when_greater : (r ≡ Greater) ↔ A
  pub when_equal : (r ≡ Equal) ↔ B
  pub when_smaller : (r ≡ Less) ↔ C

answer_of : definition_order.Comparison → Ordering
answer_of greater = Greater
answer_of equal = Equal
answer_of smaller = Less

answered : (r : Ordering) → answer_of (comparison_of r) ≡ r
unfolding answer_of
answered Greater = refl
answered Equal = refl
answered Less = refl

-- an answer is told by the definition's
told_by : (r : Ordering) (c : definition_order.Comparison) → comparison_of r ≡ c → r ≡ answer_of c
told_by r c e = sym (answered r) ∙ ap answer_of e

module _ {A B C : Type 0} where
  tells : (r : Ordering) (c : definition_order.Comparison) → comparison_of r ≡ c → Exactly A B C c → Tells A B C r
  unfolding answer_of
  tells r c e x = record {
    when_greater = (λ q. x.when_greater.0 (sym e ∙ ap comparison_of q), λ a. told_by r greater (e ∙ x.when_greater.1 a));
    when_equal = (λ q. x.when_equal.0 (sym e ∙ ap comparison_of q), λ b. told_by r equal (e ∙ x.when_equal.1 b));
    when_smaller = (λ q. x.when_smaller.0 (sym e ∙ ap comparison_of q), λ s. told_by r smaller (e ∙ x.when_smaller.1 s));
  }

-- ## compare, on level 0

pub compare_tells : (code : ℕ) → T (between 1 code 3) → (a b : Monomial) → (r : Ordering) → comparison_of r
    ≡ compare_over code [] (monomial_of a) (monomial_of b)
    → Tells (Above code [] (monomial_of a) (monomial_of b)) (monomial_of a ≡ monomial_of b) (Above code [] (monomial_of b) (monomial_of a)) r
compare_tells code t a b r e =
    tells r (compare_over code [] (monomial_of a) (monomial_of b)) e
    (compare_exactly code t [] tt (monomial_of a) (monomial_of b) (unpack_long a.exponents) (unpack_long b.exponents))

-- ## by_code and compare_exponents

pub exponents_tell : (code : ℕ) → T (between 1 code 3) → (x y : Exponents) → length x ≡ length y → (r : Ordering) → comparison_of r
    ≡ exponents_by code x y
    → Tells (ExponentsAbove code x y) (x ≡ y) (ExponentsAbove code y x) r
exponents_tell code t x y l r e = tells r (exponents_by code x y) e (exponents_exactly code t x y l)

-- ## compare_images and against_row: images through the table of the levels below, one of them that of a row

led_dropped : (n : ℕ) (ls : List Level) → AllLed ls → AllLed (drop n ls)
led_dropped zero ls h = h
led_dropped (suc n) ls no_levels = no_levels
led_dropped (suc n) ls (one_level {f} {below} h hs) = led_dropped n below hs

module _ (lim : Limits) (X : State) (s : T (sound? lim X)) (k : ℕ) where
  pub images_tell : (m m' : definition.Monomial) → Eight m → Eight m' → (r : Ordering)
      → comparison_of r ≡ compare_keys X.parameters.code (key (images (up_to X k)) m) (key (images (up_to X k)) m')
      → Tells (Above X.parameters.code (up_to X k) m m') (m ≡ m') (Above X.parameters.code (up_to X k) m' m) r
  images_tell m m' h h' r e =
      let q = X.parameters in
      let led = led_dropped (length X.levels - suc k) X.levels (sound_led lim q X.levels (sound_says lim X s).levels) in
      tells r (compare_over q.code (up_to X k) m m') (e ∙ table_order_is q.code (up_to X k) led m m')
      (compare_exactly q.code (code_in_range lim X s) (up_to X k) (leads lim q (up_to X k) (levels_descending lim X s k)) m m' h h')

-- ## "Two monomials swapped swap greater and smaller": for any two, of any lengths

lexicographic_swaps : (a b : Exponents) → lexicographic b a ≡ turned (lexicographic a b)
lexicographic_swaps [] [] = refl
lexicographic_swaps [] (y ∷ b) = refl
lexicographic_swaps (x ∷ a) [] = refl
lexicographic_swaps (x ∷ a) (y ∷ b) = tie_turns (numbers x y) (lexicographic a b) (numbers_turn x y) (lexicographic_swaps a b)

last_differing_swaps : (a b : Exponents) → last_differing b a ≡ turned (last_differing a b)
last_differing_swaps [] [] = refl
last_differing_swaps [] (y ∷ b) = refl
last_differing_swaps (x ∷ a) [] = refl
last_differing_swaps (x ∷ a) (y ∷ b) = tie_turns (last_differing a b) (numbers y x) (last_differing_swaps a b) (numbers_turn y x)

pub exponents_swap : (code : ℕ) (a b : Exponents) → exponents_by code b a ≡ turned (exponents_by code a b)
exponents_swap code a b = go (eqb code 1) (eqb code 2)
  where
    by : Bool → Bool → Exponents → Exponents → definition_order.Comparison
    by x y a b = elim x [
      | true ↦ lexicographic a b
      | false ↦ elim y [ true ↦ or_at_tie (degrees a b) (lexicographic a b) | false ↦ or_at_tie (degrees a b) (last_differing a b) ]
    ]

    go : (x y : Bool) → by x y b a ≡ turned (by x y a b)
    go true y = lexicographic_swaps a b
    go false true = tie_turns (degrees a b) (lexicographic a b) (numbers_turn (degree a) (degree b)) (lexicographic_swaps a b)
    go false false = tie_turns (degrees a b) (last_differing a b) (numbers_turn (degree a) (degree b)) (last_differing_swaps a b)

-- images, and so the order through a table
pub keys_swap : (code : ℕ) (a b : Key) → compare_keys code b a ≡ turned (compare_keys code a b)
keys_swap code a b =
    tie_turns (exponents_by code a.0 b.0) (or_at_tie (numbers a.1.0 b.1.0) (numbers a.1.1 b.1.1))
    (exponents_swap code a.0 b.0)
    (tie_turns (numbers a.1.0 b.1.0) (numbers a.1.1 b.1.1) (numbers_turn a.1.0 b.1.0) (numbers_turn a.1.1 b.1.1))

answers_swap : (r r' : Ordering) (c c' : definition_order.Comparison) → comparison_of r ≡ c → comparison_of r' ≡ c' → c' ≡ turned c → r'
    ≡ ordering_reverse r
unfolding answer_of
answers_swap r r' c c' e e' t = told_by r' (turned c) (e' ∙ t) ∙ ap (λ d. answer_of (turned d)) (sym e) ∙ go r
  where
    go : (r : Ordering) → answer_of (turned (comparison_of r)) ≡ ordering_reverse r
    go Greater = refl
    go Equal = refl
    go Less = refl

-- compare, of any two monomials
pub compare_swaps : (code : ℕ) (a b : definition.Monomial) (r r' : Ordering)
    → comparison_of r ≡ compare_over code [] a b → comparison_of r' ≡ compare_over code [] b a → r' ≡ ordering_reverse r
compare_swaps code a b r r' e e' =
    answers_swap r r' (compare_over code [] a b) (compare_over code [] b a) e e'
    (tie_turns (exponents_by code a.0 b.0) (numbers a.1 b.1) (exponents_swap code a.0 b.0) (numbers_turn a.1 b.1))

-- compare_images and against_row, of any two images
pub images_swap : (code : ℕ) (a b : Key) (r r' : Ordering)
    → comparison_of r ≡ compare_keys code a b → comparison_of r' ≡ compare_keys code b a → r' ≡ ordering_reverse r
images_swap code a b r r' e e' = answers_swap r r' (compare_keys code a b) (compare_keys code b a) e e' (keys_swap code a b)
