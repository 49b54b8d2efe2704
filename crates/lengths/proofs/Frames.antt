-- The frame over ascending leading monomials, and frames of frames.
use mathlib.Core.Path.{◌≡◌, refl, sym, ap, subst}
use mathlib.Core.Logic.{◌⊎◌, inl, inr}
use mathlib.Core.Bool.{Bool, true, false, not}
use mathlib.Core.List.{List, [], ◌∷◌}
use Prim.Native.Nat.{ℕ, zero, suc, ◌<◌, ◌≤◌}
use native.Mathlib.Omega.{arith}
use lib.Dec.{T, eqb, eqb→eq}
use lib.ListN.{length, take, drop}
use Rattle.definitions.specs.Lists.{any, every}
use Rattle.definitions.specs.Monomial.{Exponents, Monomial, Level, quotient, lcm, divides?, divides_monomial?, leading_monomials}
use Rattle.definitions.specs.Order.{smaller, lexicographic}
use Rattle.definitions.specs.Frame.{into_ascending, generators, properly_divides?, minimal, frame_of, frame_from, frame}
use Rattle.laws.proofs.Tests.{and_left, and_right}
use Rattle.laws.proofs.Members.{All, every_all, all_map, all_map₂}
use Rattle.laws.proofs.Products.{length_quotient, length_lcm}
use Rattle.demands.specs.Notions.{Member}
use Rattle.demands.specs.Frames.{Before, BeforeAll, Ascending, IsFrame}
use Rattle.demands.proofs.Members.{member_either, those_says, divides_monomial}
use Rattle.demands.proofs.Generators.{into_either}
use Rattle.demands.proofs.Frames.{EightEach, is_frame, tagged_either}
use Rattle.lengths.specs.Notions.{zero?, in_variables?, at, Prepared, frame_terms}
use Rattle.lengths.specs.Lengths.{FramesEnd}
use Rattle.lengths.proofs.Colons.{not_below_itself, colon_free, colon_past, one_variable}

-- ## Members, and pairs of members

module _ (P : Monomial → Type 0) where
  all_members : (ms : List Monomial) → ((m : Monomial) → Member m ms → P m) → All P ms
  all_members [] h = tt
  all_members (m ∷ ms) h = (h m (inl refl), all_members ms (λ x i. h x (inr i)))

  member_of : (ms : List Monomial) → All P ms → (m : Monomial) → Member m ms → P m
  member_of [] h m x'' = elim x'' [ ]
  member_of (x ∷ ms) h m (inl e) = subst P (sym e) h.0
  member_of (x ∷ ms) h m (inr i) = member_of ms h.1 m i

  all_places : (ms : List Monomial) → ((j : ℕ) → j < length ms → P (at ms j)) → All P ms
  all_places [] h = tt
  all_places (m ∷ ms) h = (h 0 (omega arith), all_places ms (λ j l. h (suc j) (omega arith)))

-- a list without members
none_there : (ms : List Monomial) → ((m : Monomial) → Member m ms → ⊥) → ms ≡ []
none_there [] h = refl
none_there (m ∷ ms) h = absurd (h m (inl refl))

-- each with all that follow it
abbrev pub Pairs : (Monomial → Monomial → Type 0) → List Monomial → Type 0
Pairs R [] = Unit {0}
Pairs R (m ∷ ms) = All (R m) ms × Pairs R ms

pairs_places : (R : Monomial → Monomial → Type 0) (ms : List Monomial) → ((i j : ℕ) → i < j → j < length ms → R (at ms i) (at ms j)) → Pairs R ms
pairs_places R [] h = tt
pairs_places R (m ∷ ms) h =
    (all_places (R m) ms (λ j l. h 0 (suc j) (omega arith) (omega arith)), pairs_places R ms (λ i j a b. h (suc i) (suc j) (omega arith) (omega arith)))

-- .. with what holds of each
pairs_with : (Q : Monomial → Type 0) (R : Monomial → Monomial → Type 0) (ms : List Monomial) → All Q ms → Pairs R ms
    → Pairs (λ l m. Q l × Q m × R l m) ms
pairs_with Q R [] h k = tt
pairs_with Q R (m ∷ ms) h k =
    (all_map₂ Q (R m) (λ x. Q m × Q x × R m x) (λ x a b. (h.0, a, b)) ms h.1 k.0, pairs_with Q R ms h.1 k.1)

-- ## What holds of lcm(l, m) / m for each l before m holds of the frame terms

module _ (code : ℕ) (P : Exponents → Type 0) (R : Monomial → Monomial → Type 0)
    (colon : (l m : Monomial) → R l m → l.1 ≡ m.1 → P (quotient (lcm l.0 m.0) m.0)) where
  generators_have : (earlier : List Monomial) (m : Monomial) → All (λ l. R l m) earlier → (g : Exponents) → Member g (generators code earlier m) → P g
  generators_have [] m h g i = absurd i
  generators_have (l ∷ earlier) m h g i = go (eqb l.1 m.1) (eqb→eq l.1 m.1) i (generators_have earlier m h.1 g)
    where
      c : Exponents
      c = quotient (lcm l.0 m.0) m.0

      turn : l.1 ≡ m.1 → (g ≡ c) ⊎ Member g (generators code earlier m) → (Member g (generators code earlier m) → P g) → P g
      turn s (inl e) r = subst P (sym e) (colon l m h.0 s)
      turn s (inr j) r = r j

      go : (b : Bool) → (T b → l.1 ≡ m.1)
          → Member g (elim b [ true ↦ into_ascending code c (generators code earlier m) | false ↦ generators code earlier m ])
          → (Member g (generators code earlier m) → P g) → P g
      go true s i r = turn (s tt) (into_either code c (generators code earlier m) g i) r
      go false s i r = r i

  frame_from_has : (ms : List Monomial) → Pairs R ms → (i : ℕ) (earlier : List Monomial) → All (λ l. All (R l) ms) earlier → (t : Monomial)
      → Member t (frame_from code i earlier ms) → P t.0
  frame_from_has [] h i earlier k t j = absurd j
  frame_from_has (m ∷ ms) h i earlier k t j =
      go (member_either t (frame_of code i earlier m) (frame_from code (suc i) (m ∷ earlier) ms) j)
      (frame_from_has ms h.1 (suc i) (m ∷ earlier) (h.0, all_map (λ l. All (R l) (m ∷ ms)) (λ l. All (R l) ms) (λ l x. x.1) earlier k) t)
    where
      gs : List Exponents
      gs = generators code earlier m

      go : Member t (frame_of code i earlier m) ⊎ Member t (frame_from code (suc i) (m ∷ earlier) ms)
          → (Member t (frame_from code (suc i) (m ∷ earlier) ms) → P t.0) → P t.0
      go (inl x) r = generators_have earlier m (all_map (λ l. All (R l) (m ∷ ms)) (λ l. R l m) (λ l x. x.0) earlier k) t.0
          (those_says (λ g. not (any (λ h. properly_divides? h g) gs)) gs t.0 (tagged_either i (minimal gs) t x).1).0
      go (inr x) r = r x

  pub frame_has : (ms : List Monomial) → Pairs R ms → (t : Monomial) → Member t (frame code ms) → P t.0
  frame_has ms h t i = frame_from_has ms h 1 [] tt t i

-- ## One level

-- in one component: the first is below the second and does not divide it
abbrev pub Parted : Monomial → Monomial → Type 0
Parted l m = l.1 ≡ m.1 → (lexicographic l.0 m.0 ≡ smaller) × (T (divides? l.0 m.0) → ⊥)

-- eight exponents, zero past n, and none of x1 to xk
pub record Shape (n k : ℕ) (m : Monomial) : Type 0 where
  pub eight : length m.0 ≡ 8
  pub past : T (zero? (drop n m.0))
  pub free : T (zero? (take k m.0))

pub record Good (n k : ℕ) (ms : List Monomial) : Type 0 where
  pub shapes : All (Shape n k) ms
  pub pairs : Pairs Parted ms

-- a list of monomials as leading monomials of a level
abbrev singles : List Monomial → Level
singles [] = []
singles (m ∷ ms) = ((1, m) ∷ []) ∷ singles ms

singles_lead : (ms : List Monomial) → leading_monomials (singles ms) ≡ ms
singles_lead [] = refl
singles_lead (m ∷ ms) = ap (λ z. m ∷ z) (singles_lead ms)

singles_eight : (ms : List Monomial) → All (λ (m : Monomial). length m.0 ≡ 8) ms → EightEach (singles ms)
singles_eight [] h j l = absurd (omega arith)
singles_eight (m ∷ ms) h zero l = h.0
singles_eight (m ∷ ms) h (suc j) l = singles_eight ms h.1 j (omega arith)

-- ascending and none divides another: in pairs
before_apart : (t u : Monomial) → Before 1 t u → (T (divides_monomial? t u) → t ≡ u) → Parted t u
before_apart t u (inl l) h e = absurd (omega arith)
before_apart t u (inr (k, l)) h e =
    (l, λ d. not_below_itself u.0 (subst (λ (z : Monomial). lexicographic z.0 u.0 ≡ smaller) (h (divides_monomial t u e d)) l))

before_all_apart : (t : Monomial) (us : List Monomial) → BeforeAll 1 t us → ((u : Monomial) → Member u us → T (divides_monomial? t u) → t ≡ u)
    → All (Parted t) us
before_all_apart t [] b h = tt
before_all_apart t (u ∷ us) b h = (before_apart t u b.0 (h u (inl refl)), before_all_apart t us b.1 (λ v i. h v (inr i)))

ascending_pairs : (ts : List Monomial) → Ascending 1 ts → ((t u : Monomial) → Member t ts → Member u ts → T (divides_monomial? t u) → t ≡ u)
    → Pairs Parted ts
ascending_pairs [] a h = tt
ascending_pairs (t ∷ ts) a h = (
  before_all_apart t ts a.0 (λ u i. h t u (inl refl) (inr i)),
  ascending_pairs ts a.1 (λ u v i j. h u v (inr i) (inr j)),
)

-- frame terms with the same component stand ascending, and none divides another
frame_pairs : (ms : List Monomial) → All (λ (m : Monomial). length m.0 ≡ 8) ms → Pairs Parted (frame 1 ms)
frame_pairs ms h = ascending_pairs (frame 1 ms) r.numbered r.minimal
  where
    r : IsFrame 1 (singles ms) (frame 1 ms)
    r = subst (λ z. IsFrame 1 (singles ms) (frame 1 z)) (singles_lead ms) (is_frame 1 (singles ms) (singles_eight ms h))

-- .. and one variable fewer than the leading monomials before them
module _ (n k : ℕ) where
  colon_shape : (l m : Monomial) → Shape n k l × Shape n k m × Parted l m → l.1 ≡ m.1 → Shape n (suc k) (quotient (lcm l.0 m.0) m.0, 0)
  colon_shape l m (a, b, h) e = record {
    eight = length_quotient 8 (lcm l.0 m.0) m.0 (length_lcm 8 l.0 m.0 a.eight b.eight) b.eight;
    past = colon_past n l.0 m.0 a.past b.past;
    free = colon_free k l.0 m.0 (h e).0 a.free b.free;
  }

  -- nothing is known of the order of l and m
  colon_start : (l m : Monomial) → Shape n k l × Shape n k m × Unit {0} → l.1 ≡ m.1 → Shape n 0 (quotient (lcm l.0 m.0) m.0, 0)
  colon_start l m (a, b, h) e = record {
    eight = length_quotient 8 (lcm l.0 m.0) m.0 (length_lcm 8 l.0 m.0 a.eight b.eight) b.eight;
    past = colon_past n l.0 m.0 a.past b.past;
    free = tt;
  }

  -- one variable is left: none
  colon_none : n ≤ suc k → (l m : Monomial) → Shape n k l × Shape n k m × Parted l m → l.1 ≡ m.1 → ⊥
  colon_none o l m (a, b, h) e = (h e).1 (one_variable n k o l.0 m.0 (h e).0 a.free b.free a.past)

  shape_eights : (ms : List Monomial) → All (Shape n k) ms → All (λ (m : Monomial). length m.0 ≡ 8) ms
  shape_eights ms h = all_map (Shape n k) (λ (m : Monomial). length m.0 ≡ 8) (λ m s. s.eight) ms h

  pub frame_good : (ms : List Monomial) → Good n k ms → Good n (suc k) (frame 1 ms)
  frame_good ms g = record {
    shapes = all_members (Shape n (suc k)) (frame 1 ms) (λ t i. again t
        (frame_has 1 (λ e. Shape n (suc k) (e, 0)) (λ l m. Shape n k l × Shape n k m × Parted l m) colon_shape ms
        (pairs_with (Shape n k) Parted ms g.shapes g.pairs) t i));
    pairs = frame_pairs ms (shape_eights ms g.shapes);
  }
    where
      again : (t : Monomial) → Shape n (suc k) (t.0, 0) → Shape n (suc k) t
      again t s = record { eight = s.eight; past = s.past; free = s.free }

  pub frame_none : n ≤ suc k → (ms : List Monomial) → Good n k ms → frame 1 ms ≡ []
  frame_none o ms g = none_there (frame 1 ms) (λ t i.
      frame_has 1 (λ e. ⊥) (λ l m. Shape n k l × Shape n k m × Parted l m) (colon_none o) ms
      (pairs_with (Shape n k) Parted ms g.shapes g.pairs) t i)

  pairs_any : (ms : List Monomial) → Pairs (λ l m. Unit {0}) ms
  pairs_any [] = tt
  pairs_any (m ∷ ms) = (all_members (λ x. Unit {0}) ms (λ x i. tt), pairs_any ms)

  -- over any leading monomials
  pub frame_start : (ms : List Monomial) → All (Shape n k) ms → Good n 0 (frame 1 ms)
  frame_start ms h = record {
    shapes = all_members (Shape n 0) (frame 1 ms) (λ t i. again t
        (frame_has 1 (λ e. Shape n 0 (e, 0)) (λ l m. Shape n k l × Shape n k m × Unit {0}) colon_start ms
        (pairs_with (Shape n k) (λ l m. Unit {0}) ms h (pairs_any ms)) t i));
    pairs = frame_pairs ms (shape_eights ms h);
  }
    where
      again : (t : Monomial) → Shape n 0 (t.0, 0) → Shape n 0 t
      again t s = record { eight = s.eight; past = s.past; free = s.free }

-- ## All levels

variables_shape : (n : ℕ) (m : Monomial) → T (in_variables? n m) → Shape n 0 m
variables_shape n m t = record {
  eight = eqb→eq (length m.0) 8 (and_left (eqb (length m.0) 8) (zero? (drop n m.0)) t);
  past = and_right (eqb (length m.0) 8) (zero? (drop n m.0)) t;
  free = tt;
}

all_shapes : (n : ℕ) (ms : List Monomial) → T (every (in_variables? n) ms) → All (Shape n 0) ms
all_shapes n ms t = all_map (λ m. T (in_variables? n m)) (Shape n 0) (variables_shape n) ms (every_all (in_variables? n) ms t)

prepared_good : (n : ℕ) (ms : List Monomial) → T (every (in_variables? n) ms) → Prepared ms → Good n 0 ms
prepared_good n ms t p = record { shapes = all_shapes n ms t; pairs = pairs_places Parted ms apart }
  where
    apart : (i j : ℕ) → i < j → j < length ms → Parted (at ms i) (at ms j)
    apart i j l k e = (
      p.sorted i j l k e,
      λ d. let s : i ≡ j = p.apart i j (omega arith) k (divides_monomial (at ms i) (at ms j) e d) in omega arith,
    )

-- level k over prepared leading monomials, and level k + 1 over any
prepared_levels : (n : ℕ) (ms : List Monomial) → Good n 0 ms → (k : ℕ) → Good n k (frame_terms k ms)
prepared_levels n ms g zero = g
prepared_levels n ms g (suc k) = frame_good n k (frame_terms k ms) (prepared_levels n ms g k)

any_levels : (n : ℕ) (ms : List Monomial) → All (Shape n 0) ms → (k : ℕ) → Good n k (frame_terms (suc k) ms)
any_levels n ms h zero = frame_start n 0 ms h
any_levels n ms h (suc k) = frame_good n k (frame_terms (suc k) ms) (any_levels n ms h k)

short : (n : ℕ) (ms : List Monomial) → 1 ≤ n → Good n 0 ms → (k : ℕ) → n ≤ k → frame_terms k ms ≡ []
short n ms o g zero l = absurd (omega arith)
short n ms o g (suc k) l = frame_none n k l (frame_terms k ms) (prepared_levels n ms g k)

ends : (n : ℕ) (ms : List Monomial) → 1 ≤ n → All (Shape n 0) ms → (k : ℕ) → n < k → frame_terms k ms ≡ []
ends n ms o h zero l = absurd (omega arith)
ends n ms o h (suc zero) l = absurd (omega arith)
ends n ms o h (suc (suc k)) l = frame_none n k (omega arith) (frame_terms (suc k) ms) (any_levels n ms h k)

pub frames_end : FramesEnd
frames_end = record {
  free = λ n ms o t p k l u i. (member_of (Shape n k) (frame_terms k ms) (prepared_levels n ms (prepared_good n ms t p) k).shapes u i).free;
  short = λ n ms o t p k l. short n ms o (prepared_good n ms t p) k l;
  ends = λ n ms o t k l. ends n ms o (all_shapes n ms t) k l;
}
