-- The definitions' comparisons say what the theory's orders are.
use mathlib.Core.Path.{◌≡◌, refl, sym, ap, subst}
use mathlib.Core.Logic.{◌⊎◌, inl, inr}
use mathlib.Core.Bool.{Bool, true, false, not}
use Prim.Native.Nat.{ℕ, zero, suc, ◌-◌, ◌<◌, ◌≤◌, compare, Ordering}
use native.Mathlib.Omega.{arith}
use lib.Dec.{T, is_le, compare_is_eq, eqb, leb→le, nleb→lt, eqb→eq, eqb_refl}
use lib.Arith.{lt_of_le-ne}
use Rattle.theory.specs.Orders.{Order, ExpM, deg, LexO, DegLexO, DegRevLexO}
use Rattle.theory.proofs.Orders.{LastMore, rev_lex_is}
use Rattle.definitions.specs.Monomial.{Exponents}
use Rattle.definitions.specs.Order.{Comparison, greater, equal, smaller, or_at_tie, by_ordering, numbers, lexicographic, last_differing, degrees, exponents_by}
use Rattle.demands.proofs.Exponents.{E, zeros, onto, out, degree_out}

-- ## What a comparison says: A where it is smaller, B where it is equal, C where it is greater

pub data Says (A B C : Type 0) : Comparison → Type 0 where
  less : A → Says A B C smaller
  level : B → Says A B C equal
  more : C → Says A B C greater

pub says_map : {A B C A' B' C' : Type 0} {c : Comparison} → (A → A') → (B → B') → (C → C') → Says A B C c → Says A' B' C' c
says_map f g h (less s) = less (f s)
says_map f g h (level s) = level (g s)
says_map f g h (more s) = more (h s)

pub says_less : {A B C : Type 0} {c : Comparison} → Says A B C c → c ≡ smaller → A
says_less (less s) e = s
says_less (level s) e = let z : ◌≡◌ {A = ℕ} 0 1 = cc in absurd (omega arith)
says_less (more s) e = let z : ◌≡◌ {A = ℕ} 0 1 = cc in absurd (omega arith)

-- the first decides, at a tie the second; a tie in both is P
pub says_tie : {A C A' B' C' P X : Type 0} {x y : X} {c d : Comparison} → (x ≡ y → B' → P) → Says A (x ≡ y) C c → Says A' B' C' d
    → Says (A ⊎ ((x ≡ y) × A')) P (C ⊎ ((y ≡ x) × C')) (or_at_tie c d)
says_tie f (less s) t = less (inl s)
says_tie f (more s) t = more (inl s)
says_tie f (level s) (less t) = less (inr (s, t))
says_tie f (level s) (level t) = level (f s t)
says_tie f (level s) (more t) = more (inr (sym s, t))

-- ## Numbers

abbrev Ordered : Ordering → ℕ → ℕ → Type 0
Ordered Ordering.lt a b = a < b
Ordered Ordering.eq a b = a ≡ b
Ordered Ordering.gt a b = b < a

ordered : (a b : ℕ) → Ordered (compare a b) a b
ordered a b = go (compare a b) (leb→le a b) (nleb→lt a b) (eqb→eq a b) (λ (e : a ≡ b). subst (λ (x : ℕ). T (eqb a x)) e (eqb_refl a))
  where
    go : (o : Ordering) → (T (is_le o) → a ≤ b) → (T (not (is_le o)) → b < a) → (T (compare_is_eq o) → a ≡ b) → (a ≡ b → T (compare_is_eq o)) → Ordered o a b
    go Ordering.lt h k e n = lt_of_le-ne (h tt) n
    go Ordering.eq h k e n = e tt
    go Ordering.gt h k e n = k tt

pub numbers_says : (a b : ℕ) → Says (a < b) (a ≡ b) (b < a) (numbers a b)
numbers_says a b = go (compare a b) (ordered a b)
  where
    go : (o : Ordering) → Ordered o a b → Says (a < b) (a ≡ b) (b < a) (by_ordering o)
    go Ordering.lt h = less h
    go Ordering.eq h = level h
    go Ordering.gt h = more h

-- ## The orders of exponents

zeros_lexicographic : (k : ℕ) → lexicographic (zeros k) (zeros k) ≡ equal
zeros_lexicographic zero = refl
zeros_lexicographic (suc k) = zeros_lexicographic k

onto_lexicographic : (z : Exponents) → lexicographic z z ≡ equal → (n : ℕ) (a b : E n)
    → Says ((LexO n).Lt a b) (a ≡ b) ((LexO n).Lt b a) (lexicographic (onto n a z) (onto n b z))
onto_lexicographic z e zero a b = rw e (level refl)
onto_lexicographic z e (suc n) a b = says_tie (λ h k. λ i. (h i, k i)) (numbers_says a.0 b.0) (onto_lexicographic z e n a.1 b.1)

zeros_last : (k : ℕ) → last_differing (zeros k) (zeros k) ≡ equal
zeros_last zero = refl
zeros_last (suc k) = ap (λ c. or_at_tie c (numbers 0 0)) (zeros_last k)

onto_last : (z : Exponents) → last_differing z z ≡ equal → (n : ℕ) (a b : E n)
    → Says (LastMore n a b) (a ≡ b) (LastMore n b a) (last_differing (onto n a z) (onto n b z))
onto_last z e zero a b = rw e (level refl)
onto_last z e (suc n) a b =
    says_tie (λ h k. let u : a.0 ≡ b.0 = sym k in λ i. (u i, h i)) (onto_last z e n a.1 b.1) (numbers_says b.0 a.0)

-- the degree first
module _ (n : ℕ) (Less : E n → E n → Type 0) (a b : E n) where
  abbrev First : E n → E n → Type 0
  First x y = (deg n x < deg n y) ⊎ ((deg n x ≡ deg n y) × Less x y)

  degree_first : {d : Comparison} → Says (Less a b) (a ≡ b) (Less b a) d
      → Says (First a b) (a ≡ b) (First b a) (or_at_tie (degrees (out n a) (out n b)) d)
  degree_first s = says_tie (λ h k. k) first s
    where
      first : Says (deg n a < deg n b) (deg n a ≡ deg n b) (deg n b < deg n a) (degrees (out n a) (out n b))
      first = rw (degree_out n a, degree_out n b) (numbers_says (deg n a) (deg n b))

-- "The order code is 1 for lexicographic, 2 for degree then lexicographic, 3 for degree reverse lexicographic."
abbrev pub order_by : Bool → Bool → (n : ℕ) → Order (ExpM n)
order_by true t n = LexO n
order_by false true n = DegLexO n
order_by false false n = DegRevLexO n

abbrev pub order : ℕ → (n : ℕ) → Order (ExpM n)
order code n = order_by (eqb code 1) (eqb code 2) n

pub exponents_says : (code n : ℕ) (a b : E n) → Says ((order code n).Lt a b) (a ≡ b) ((order code n).Lt b a) (exponents_by code (out n a) (out n b))
exponents_says code n a b = go (eqb code 1) (eqb code 2)
  where
    lex : Says ((LexO n).Lt a b) (a ≡ b) ((LexO n).Lt b a) (lexicographic (out n a) (out n b))
    lex = onto_lexicographic (zeros (8 - n)) (zeros_lexicographic (8 - n)) n a b

    last : Says (LastMore n a b) (a ≡ b) (LastMore n b a) (last_differing (out n a) (out n b))
    last = onto_last (zeros (8 - n)) (zeros_last (8 - n)) n a b

    by : Bool → Bool → Comparison
    by s t = elim s [
      | true ↦ lexicographic (out n a) (out n b)
      | false ↦ elim t [
        | true ↦ or_at_tie (degrees (out n a) (out n b)) (lexicographic (out n a) (out n b))
        | false ↦ or_at_tie (degrees (out n a) (out n b)) (last_differing (out n a) (out n b))
      ]
    ]

    go : (s t : Bool) → Says ((order_by s t n).Lt a b) (a ≡ b) ((order_by s t n).Lt b a) (by s t)
    go true t = lex
    go false true = degree_first n (LexO n).Lt a b lex
    go false false = says_map (rev_lex_is n a b).1 (λ e. e) (rev_lex_is n b a).1 (degree_first n (LastMore n) a b last)
