-- The definitions' orders of exponents answer exactly by the relations.
use mathlib.Core.Path.{◌≡◌, refl, sym, ap}
use mathlib.Core.Logic.{◌⊎◌, inl, inr, ⊎_elim, ◌↔◌}
use mathlib.Core.List.{[], ◌∷◌}
use Prim.Native.Nat.{ℕ, zero, suc, ◌<◌, ◌≤◌}
use native.Mathlib.Omega.{arith}
use native.Mathlib.Nat.{not-suc-le-zero}
use lib.Dec.{T}
use lib.ListN.{length, get_or, drop}
use Rattle.definitions.specs.Lists.{between}
use Rattle.definitions.specs.Monomial.{Exponents, degree}
use Rattle.definitions.specs.Order.{Comparison, or_at_tie, numbers, lexicographic, last_differing, degrees, exponents_by}
use Rattle.laws.proofs.Tests.{between_low, between_high}
use Rattle.comparing.specs.Above.{exponent, FirstLarger, LastSmaller, ByDegree, ExponentsAbove}
use Rattle.comparing.proofs.Exactly.{Exactly, exactly_map, exactly_tie, exactly_of, numbers_exactly}

-- ## Lists of exponents

cons_same : (x y : ℕ) (a b : Exponents) → ((x ≡ y) × (a ≡ b)) ↔ (x ∷ a ≡ y ∷ b)
cons_same x y a b = (λ e. λ i. e.0 i ∷ e.1 i, λ e. (ap (λ l. get_or l 0 0) e, ap (drop 1) e))

-- exponents of one length that are equal place by place
pub same_places : (a b : Exponents) → length a ≡ length b → ((j : ℕ) → exponent a j ≡ exponent b j) → a ≡ b
same_places [] [] l h = refl
same_places [] (y ∷ b) l h = absurd (omega arith)
same_places (x ∷ a) [] l h = absurd (omega arith)
same_places (x ∷ a) (y ∷ b) l h = let e = h 0 in let k = same_places a b (omega arith) (λ j. h (suc j)) in λ i. e i ∷ k i

-- ## The first differing exponent

first_none : FirstLarger [] [] → ⊥
first_none f = not-suc-le-zero f.larger

first_cons : (x y : ℕ) (a b : Exponents) → ((y < x) ⊎ ((x ≡ y) × FirstLarger a b)) ↔ FirstLarger (x ∷ a) (y ∷ b)
first_cons x y a b = (⊎_elim now later, λ f. back f.place f.before f.larger)
  where
    now : y < x → FirstLarger (x ∷ a) (y ∷ b)
    now h = record { place = 0; before = λ j k. absurd (not-suc-le-zero k); larger = h }

    before_later : x ≡ y → (f : FirstLarger a b) → (j : ℕ) → j < suc f.place → exponent (x ∷ a) j ≡ exponent (y ∷ b) j
    before_later e f zero k = e
    before_later e f (suc j) k = f.before j (omega arith)

    later : (x ≡ y) × FirstLarger a b → FirstLarger (x ∷ a) (y ∷ b)
    later (e, f) = record { place = suc f.place; before = before_later e f; larger = f.larger }

    back : (p : ℕ) → ((j : ℕ) → j < p → exponent (x ∷ a) j ≡ exponent (y ∷ b) j) → exponent (y ∷ b) p < exponent (x ∷ a) p
        → (y < x) ⊎ ((x ≡ y) × FirstLarger a b)
    back zero h l = inl l
    back (suc p) h l = inr (h 0 (omega arith), record { place = p; before = λ j k. h (suc j) (omega arith); larger = l })

other_first : (x y : ℕ) (a b : Exponents) → ((x < y) ⊎ ((x ≡ y) × FirstLarger b a)) ↔ FirstLarger (y ∷ b) (x ∷ a)
other_first x y a b =
    let f = first_cons y x b a in
    (λ s. f.0 (⊎_elim (λ h. inl h) (λ h. inr (sym h.0, h.1)) s), λ s. ⊎_elim (λ h. inl h) (λ h. inr (sym h.0, h.1)) (f.1 s))

pub lexicographic_exactly : (a b : Exponents) → length a ≡ length b → Exactly (FirstLarger a b) (a ≡ b) (FirstLarger b a) (lexicographic a b)
lexicographic_exactly [] [] l = record {
  when_greater = (λ e. absurd (let z : ◌≡◌ {A = ℕ} 0 1 = cc in omega arith), λ f. absurd (first_none f));
  when_equal = (λ e. refl, λ e. refl);
  when_smaller = (λ e. absurd (let z : ◌≡◌ {A = ℕ} 0 1 = cc in omega arith), λ f. absurd (first_none f));
}
lexicographic_exactly [] (y ∷ b) l = absurd (omega arith)
lexicographic_exactly (x ∷ a) [] l = absurd (omega arith)
lexicographic_exactly (x ∷ a) (y ∷ b) l =
    exactly_map (first_cons x y a b) (cons_same x y a b) (other_first x y a b)
    (exactly_tie (numbers x y) (lexicographic a b) (numbers_exactly x y) (lexicographic_exactly a b (omega arith)))

-- ## The last differing exponent

last_none : LastSmaller [] [] → ⊥
last_none f = not-suc-le-zero f.less

last_cons : (x y : ℕ) (a b : Exponents) → length a ≡ length b → (LastSmaller a b ⊎ ((a ≡ b) × (x < y))) ↔ LastSmaller (x ∷ a) (y ∷ b)
last_cons x y a b l = (⊎_elim behind now, λ f. back f.place f.behind f.less)
  where
    behind_behind : (f : LastSmaller a b) → (j : ℕ) → suc f.place < j → exponent (x ∷ a) j ≡ exponent (y ∷ b) j
    behind_behind f zero k = absurd (not-suc-le-zero k)
    behind_behind f (suc j) k = f.behind j (omega arith)

    behind : LastSmaller a b → LastSmaller (x ∷ a) (y ∷ b)
    behind f = record { place = suc f.place; behind = behind_behind f; less = f.less }

    behind_now : a ≡ b → (j : ℕ) → 0 < j → exponent (x ∷ a) j ≡ exponent (y ∷ b) j
    behind_now e zero k = absurd (not-suc-le-zero k)
    behind_now e (suc j) k = ap (λ c. exponent c j) e

    now : (a ≡ b) × (x < y) → LastSmaller (x ∷ a) (y ∷ b)
    now (e, h) = record { place = 0; behind = behind_now e; less = h }

    back : (p : ℕ) → ((j : ℕ) → p < j → exponent (x ∷ a) j ≡ exponent (y ∷ b) j) → exponent (x ∷ a) p < exponent (y ∷ b) p
        → LastSmaller a b ⊎ ((a ≡ b) × (x < y))
    back zero h s = inr (same_places a b l (λ j. h (suc j) (omega arith)), s)
    back (suc p) h s = inl (record { place = p; behind = λ j k. h (suc j) (omega arith); less = s })

other_last : (x y : ℕ) (a b : Exponents) → length a ≡ length b → (LastSmaller b a ⊎ ((a ≡ b) × (y < x))) ↔ LastSmaller (y ∷ b) (x ∷ a)
other_last x y a b l =
    let f = last_cons y x b a (sym l) in
    (λ s. f.0 (⊎_elim (λ h. inl h) (λ h. inr (sym h.0, h.1)) s), λ s. ⊎_elim (λ h. inl h) (λ h. inr (sym h.0, h.1)) (f.1 s))

last_same : (x y : ℕ) (a b : Exponents) → ((a ≡ b) × (y ≡ x)) ↔ (x ∷ a ≡ y ∷ b)
last_same x y a b = (λ e. (cons_same x y a b).0 (sym e.1, e.0), λ e. let s = (cons_same x y a b).1 e in (s.1, sym s.0))

pub last_differing_exactly : (a b : Exponents) → length a ≡ length b → Exactly (LastSmaller a b) (a ≡ b) (LastSmaller b a) (last_differing a b)
last_differing_exactly [] [] l = record {
  when_greater = (λ e. absurd (let z : ◌≡◌ {A = ℕ} 0 1 = cc in omega arith), λ f. absurd (last_none f));
  when_equal = (λ e. refl, λ e. refl);
  when_smaller = (λ e. absurd (let z : ◌≡◌ {A = ℕ} 0 1 = cc in omega arith), λ f. absurd (last_none f));
}
last_differing_exactly [] (y ∷ b) l = absurd (omega arith)
last_differing_exactly (x ∷ a) [] l = absurd (omega arith)
last_differing_exactly (x ∷ a) (y ∷ b) l =
    let k : length a ≡ length b = omega arith in
    exactly_map (last_cons x y a b k) (last_same x y a b) (other_last x y a b k)
    (exactly_tie (last_differing a b) (numbers y x) (last_differing_exactly a b k) (numbers_exactly y x))

-- ## The order of a code

by_degree_exactly : (Over : Exponents → Exponents → Type 0) (order : Exponents → Exponents → Comparison) (a b : Exponents)
    → Exactly (Over a b) (a ≡ b) (Over b a) (order a b) → Exactly (ByDegree Over a b) (a ≡ b) (ByDegree Over b a)
    (or_at_tie (degrees a b) (order a b))
by_degree_exactly Over order a b x =
    exactly_map (λ s. s, λ s. s) (λ e. e.1, λ e. (ap degree e, e))
    (⊎_elim (λ h. inl h) (λ h. inr (sym h.0, h.1)), ⊎_elim (λ h. inl h) (λ h. inr (sym h.0, h.1)))
    (exactly_tie (degrees a b) (order a b) (numbers_exactly (degree a) (degree b)) x)

one_of_three : (code : ℕ) → 1 ≤ code → code ≤ 3 → (code ≡ 1) ⊎ ((code ≡ 2) ⊎ (code ≡ 3))
one_of_three zero l h = absurd (omega arith)
one_of_three (suc zero) l h = inl refl
one_of_three (suc (suc zero)) l h = inr (inl refl)
one_of_three (suc (suc (suc zero))) l h = inr (inr refl)
one_of_three (suc (suc (suc (suc c)))) l h = absurd (omega arith)

pub exponents_exactly : (code : ℕ) → T (between 1 code 3) → (a b : Exponents) → length a ≡ length b
    → Exactly (ExponentsAbove code a b) (a ≡ b) (ExponentsAbove code b a) (exponents_by code a b)
exponents_exactly code t a b l = go (one_of_three code (between_low 1 code 3 t) (between_high 1 code 3 t))
  where
    one : (a b : Exponents) → code ≡ 1 → FirstLarger a b ↔ ExponentsAbove code a b
    one a b e = (λ h. inl (e, h), ⊎_elim (λ h. h.1) (⊎_elim (λ h. absurd (let z = h.0 in omega arith)) (λ h. absurd (let z = h.0 in omega arith))))

    two : (a b : Exponents) → code ≡ 2 → ByDegree FirstLarger a b ↔ ExponentsAbove code a b
    two a b e = (
      λ h. inr (inl (e, h)),
      ⊎_elim (λ h. absurd (let z = h.0 in omega arith))
          (⊎_elim (λ h. h.1) (λ h. absurd (let z = h.0 in omega arith))),
    )

    three : (a b : Exponents) → code ≡ 3 → ByDegree LastSmaller a b ↔ ExponentsAbove code a b
    three a b e = (
      λ h. inr (inr (e, h)),
      ⊎_elim (λ h. absurd (let z = h.0 in omega arith))
          (⊎_elim (λ h. absurd (let z = h.0 in omega arith)) (λ h. h.1)),
    )

    same : (a ≡ b) ↔ (a ≡ b)
    same = (λ e. e, λ e. e)

    go : (code ≡ 1) ⊎ ((code ≡ 2) ⊎ (code ≡ 3)) → Exactly (ExponentsAbove code a b) (a ≡ b) (ExponentsAbove code b a) (exponents_by code a b)
    go (inl e) = exactly_of (ap (λ n. exponents_by n a b) e) (exactly_map (one a b e) same (one b a e) (lexicographic_exactly a b l))
    go (inr (inl e)) = exactly_of (ap (λ n. exponents_by n a b) e)
        (exactly_map (two a b e) same (two b a e) (by_degree_exactly FirstLarger lexicographic a b (lexicographic_exactly a b l)))
    go (inr (inr e)) = exactly_of (ap (λ n. exponents_by n a b) e)
        (exactly_map (three a b e) same (three b a e) (by_degree_exactly LastSmaller last_differing a b (last_differing_exactly a b l)))
