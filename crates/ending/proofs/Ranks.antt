-- A rank of monomials: how many of the finitely many that matter are smaller. A smaller monomial has a smaller rank. It is never computed.
use mathlib.Core.Path.{◌≡◌, refl, sym, ap, ◌∙◌, subst}
use mathlib.Core.Bool.{Bool, true, false}
use mathlib.Core.List.Memᴰ
use mathlib.Core.List.{List, [], ◌∷◌, ◌++◌, map, Memᴰ}
use Prim.Native.Nat.{ℕ, zero, suc, ◌≤◌, ◌<◌}
use native.Mathlib.Omega.{arith}
use native.Mathlib.Decide.{ℕ_discrete}
use lib.Dec.{T, leb, leb→le}
use lib.ListN.{length}
use Rattle.definitions.specs.Monomial.{Exponents, Monomial, Vector, Level, fits?}
use Rattle.definitions.specs.Order.{Comparison, greater, greater?}
use Rattle.laws.proofs.Tests.{and_left, and_right}
use Rattle.laws.proofs.Members.{All, all_map, all_append}
use Rattle.laws.proofs.Comparisons.{order_same, order_greater, greater_says, greater_shows, greater≢equal}
use Rattle.laws.proofs.Orders.{Long}
use Rattle.laws.proofs.Induced.{Has, ModuleOrder}
use Rattle.ending.specs.Spent.{with_first, exponents_to, all_exponents, all_of, all_monomials, many}

-- ## Counting

-- one more if the test holds
abbrev tally : Bool → ℕ → ℕ
tally true n = suc n
tally false n = n

tally_most : (b : Bool) (m n : ℕ) → m ≤ n → tally b m ≤ suc n
tally_most true m n h = omega arith
tally_most false m n h = omega arith

tally_more : (a b : Bool) → (T a → T b) → (m n : ℕ) → m ≤ n → tally a m ≤ tally b n
tally_more true true i m n h = omega arith
tally_more true false i m n h = absurd (i tt)
tally_more false true i m n h = omega arith
tally_more false false i m n h = h

tally_more_strictly : (a b : Bool) → (T a → T b) → (m n : ℕ) → m < n → tally a m < tally b n
tally_more_strictly true true i m n h = omega arith
tally_more_strictly true false i m n h = absurd (i tt)
tally_more_strictly false true i m n h = omega arith
tally_more_strictly false false i m n h = h

tally_less : (a b : Bool) → (T a → ⊥) → T b → (m n : ℕ) → m ≤ n → tally a m < tally b n
tally_less true b i t m n h = absurd (i tt)
tally_less false true i t m n h = omega arith
tally_less false false i t m n h = absurd t

module _ {A : Type 0} where
  -- how many members pass the test
  pub count : (A → Bool) → List A → ℕ
  count f [] = 0
  count f (a ∷ l) = tally (f a) (count f l)

  count_length : (f : A → Bool) (l : List A) → count f l ≤ length l
  unfolding count
  count_length f [] = omega arith
  count_length f (a ∷ l) = tally_most (f a) (count f l) (length l) (count_length f l)

  module _ (f g : A → Bool) where
    -- what passes f passes g
    count_more : (l : List A) → All (λ a. T (f a) → T (g a)) l → count f l ≤ count g l
    unfolding count
    count_more [] h = omega arith
    count_more (a ∷ l) h = tally_more (f a) (g a) h.0 (count f l) (count g l) (count_more l h.1)

    -- .. and a member passes g only
    count_less : {a : A} {l : List A} → Memᴰ a l → T (g a) → (T (f a) → ⊥) → All (λ x. T (f x) → T (g x)) l → count f l < count g l
    unfolding count
    count_less (Memᴰ.head {x} {xs} e) t n h =
        tally_less (f x) (g x) (λ s. n (subst (λ y. T (f y)) (sym e) s)) (subst (λ y. T (g y)) e t) (count f xs) (count g xs) (count_more xs h.1)
    count_less (Memᴰ.tail {x} {xs} m) t n h = tally_more_strictly (f x) (g x) h.0 (count f xs) (count g xs) (count_less m t n h.1)

-- ## The monomials that matter

all_mapped : {A B : Type 0} (f : A → B) (P : A → Type 0) (Q : B → Type 0) → ((a : A) → P a → Q (f a)) → (l : List A) → All P l → All Q (map f l)
all_mapped f P Q i [] h = tt
all_mapped f P Q i (a ∷ l) h = (i a h.0, all_mapped f P Q i l h.1)

with_first_long : (n b : ℕ) (l : List Exponents) → All (Long n) l → All (Long (suc n)) (with_first b l)
unfolding with_first
with_first_long n zero l h = tt
with_first_long n (suc b) l h =
    all_append (Long (suc n)) (map (λ e. b ∷ e) l) (with_first b l) (all_mapped (λ e. b ∷ e) (Long n) (Long (suc n)) (λ e k. ap suc k) l h)
    (with_first_long n b l h)

exponents_to_long : (b n : ℕ) → All (Long n) (exponents_to b n)
unfolding exponents_to
exponents_to_long b zero = (refl, tt)
exponents_to_long b (suc n) = with_first_long n (suc b) (exponents_to b n) (exponents_to_long b n)

with_first_has : (x b : ℕ) → x < b → {e : Exponents} {l : List Exponents} → Memᴰ e l → Memᴰ (x ∷ e) (with_first b l)
unfolding with_first
with_first_has x zero h m = absurd (omega arith)
with_first_has x (suc b) h {e} {l} m = go (ℕ_discrete x b) (λ k. with_first_has x b k m)
  where
    go : Dec (x ≡ b) → (x < b → Memᴰ (x ∷ e) (with_first b l)) → Memᴰ (x ∷ e) (map (λ e. b ∷ e) l ++ with_first b l)
    go (yes z) later = Memᴰ.append_left (with_first b l) (Memᴰ.cast (ap (λ y. y ∷ e) z) (Memᴰ.map (λ e. b ∷ e) m))
    go (no z) later = Memᴰ.append_right (map (λ e. b ∷ e) l) (later (omega arith))

exponents_to_has : (b n : ℕ) (e : Exponents) → Long n e → T (fits? b e) → Memᴰ e (exponents_to b n)
unfolding exponents_to
exponents_to_has b zero [] h t = Memᴰ.head refl
exponents_to_has b zero (x ∷ e) h t = absurd (omega arith)
exponents_to_has b (suc n) [] h t = absurd (omega arith)
exponents_to_has b (suc n) (x ∷ e) h t =
    let k : x ≤ b = leb→le x b (and_left (leb x b) (fits? b e) t) in
    with_first_has x (suc b) (omega arith) (exponents_to_has b n e (omega arith) (and_right (leb x b) (fits? b e) t))

all_exponents_long : All (Long 8) all_exponents
unfolding all_exponents
all_exponents_long = exponents_to_long 255 8

all_exponents_has : (e : Exponents) → Long 8 e → T (fits? 255 e) → Memᴰ e all_exponents
unfolding all_exponents
all_exponents_has = exponents_to_has 255 8

all_of_eight : (v : Vector) → All (Has 8) (all_of v)
unfolding all_of
all_of_eight [] = tt
all_of_eight (t ∷ v) =
    all_append (Has 8) (map (λ e. (e, t.1.1)) all_exponents) (all_of v)
    (all_mapped (λ e. (e, t.1.1)) (Long 8) (Has 8) (λ e k. k) all_exponents all_exponents_long) (all_of_eight v)

-- with this component all eight exponents that fit are listed
abbrev pub Listed : List Monomial → ℕ → Type 0
Listed l c = (e : Exponents) → length e ≡ 8 → T (fits? 255 e) → Memᴰ (e, c) l

all_of_listed : (v : Vector) → All (λ t. Listed (all_of v) t.1.1) v
unfolding all_of
all_of_listed [] = tt
all_of_listed (t ∷ v) = (
  (λ e h k. Memᴰ.append_left (all_of v) (Memᴰ.map (λ e. (e, t.1.1)) (all_exponents_has e h k))),
  all_map (λ u. Listed (all_of v) u.1.1) (λ u. Listed (all_of (t ∷ v)) u.1.1)
      (λ u l e h k. Memᴰ.append_right (map (λ e. (e, t.1.1)) all_exponents) (l e h k)) v
      (all_of_listed v),
)

all_monomials_eight : (f : Level) → All (Has 8) (all_monomials f)
unfolding all_monomials
all_monomials_eight [] = tt
all_monomials_eight (v ∷ f) = all_append (Has 8) (all_of v) (all_monomials f) (all_of_eight v) (all_monomials_eight f)

-- .. for the component of any term of the level
pub all_monomials_listed : (f : Level) → All (All (λ t. Listed (all_monomials f) t.1.1)) f
unfolding all_monomials
all_monomials_listed [] = tt
all_monomials_listed (v ∷ f) = (
  first v (all_of_listed v),
  all_map (All (λ t. Listed (all_monomials f) t.1.1)) (All (λ t. Listed (all_monomials (v ∷ f)) t.1.1)) later f
      (all_monomials_listed f),
)
  where
    first : (u : Vector) → All (λ t. Listed (all_of v) t.1.1) u → All (λ t. Listed (all_monomials (v ∷ f)) t.1.1) u
    first =
        all_map (λ t. Listed (all_of v) t.1.1) (λ t. Listed (all_monomials (v ∷ f)) t.1.1)
        (λ t l e h k. Memᴰ.append_left (all_monomials f) (l e h k))

    later : (u : Vector) → All (λ t. Listed (all_monomials f) t.1.1) u → All (λ t. Listed (all_monomials (v ∷ f)) t.1.1) u
    later =
        all_map (λ t. Listed (all_monomials f) t.1.1) (λ t. Listed (all_monomials (v ∷ f)) t.1.1)
        (λ t l e h k. Memᴰ.append_right (all_of v) (l e h k))

-- ## The rank

unfoldable pub rank : (Monomial → Monomial → Comparison) → Level → Monomial → ℕ
rank order f m = count (λ x. greater? (order m x)) (all_monomials f)

pub rank_bound : (order : Monomial → Monomial → Comparison) (f : Level) (m : Monomial) → rank order f m < many f
unfolding rank many
rank_bound order f m = omega (arith, count_length (λ x. greater? (order m x)) (all_monomials f))

module _ (order : Monomial → Monomial → Comparison) (O : ModuleOrder 8 order) (f : Level) where
  pub rank_below : (m m' : Monomial) → Has 8 m → Has 8 m' → order m m' ≡ greater → Memᴰ m' (all_monomials f) → rank order f m' < rank order f m
  unfolding rank
  rank_below m m' h h' e i = count_less (λ x. greater? (order m' x)) (λ x. greater? (order m x)) i (greater_shows (order m m') e) own
      (all_map (Has 8) (λ x. T (greater? (order m' x)) → T (greater? (order m x))) through (all_monomials f) (all_monomials_eight f))
    where
      own : T (greater? (order m' m')) → ⊥
      own t = greater≢equal (sym (greater_says (order m' m') t) ∙ order_same (Has 8) order O.orders m' h')

      through : (x : Monomial) → Has 8 x → T (greater? (order m' x)) → T (greater? (order m x))
      through x k t = greater_shows (order m x) (order_greater (Has 8) order O.orders m m' x h h' k e (greater_says (order m' x) t))
