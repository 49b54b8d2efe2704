-- The pivot of a row that is zero in the columns of other degrees, and the pivot of its part.
use mathlib.Core.Path.{◌≡◌, refl, sym, ap, subst}
use mathlib.Core.Bool.{Bool, true, false, not}
use mathlib.Core.Option.{Option, none, some}
use mathlib.Core.List.{List, [], ◌∷◌}
use Prim.Native.Nat.{ℕ, suc, ◌+◌, ◌%◌, ◌<◌}
use native.Mathlib.Omega.{arith}
use lib.Dec.{T, eqb, eqb→eq, eqb_refl, T_not}
use lib.ListN.{length, get_or}
use Rattle.definitions.specs.Places.{row_shift}
use Rattle.definitions.specs.Rank.{Row}
use Rattle.definitions.specs.Minimal.{of_degree}
use Rattle.ranks.specs.Elimination.{pivot_from}
use Rattle.ranks.proofs.Apart.{Apart, SameColumn}

pub nonequal : (a b : ℕ) → T (not (eqb a b)) → ¬ (a ≡ b)
nonequal a b t e = T_not (eqb a b) t (subst (λ z. T (eqb a z)) e (eqb_refl a))

module _ (t : ℕ) (es : List ℕ) where
  -- c and c' are columns of the degree d, i and i' being the first ones
  pub record Columns (d i i' c c' : ℕ) : Type 0 where
    pub k : ℕ
    pub k' : ℕ
    pub here : c ≡ i + k
    pub there : c' ≡ i' + k'
    pub inside : k < length es
    pub degree : get_or es k 0 ≡ d
    pub same : SameColumn t es k k'

  abbrev pub Pivots : ℕ → ℕ → ℕ → Option ℕ → Option ℕ → Type 0
  Pivots d i i' none none = Unit {0}
  Pivots d i i' none (some c') = ⊥
  Pivots d i i' (some c) none = ⊥
  Pivots d i i' (some c) (some c') = Columns d i i' c c'

module _ (t e : ℕ) (es : List ℕ) where
  same_here : T (eqb (e + row_shift) t) → SameColumn t (e ∷ es) 0 0
  same_here h [] l = refl
  same_here h (x ∷ w) l = go (eqb (e + row_shift) t) h
    where
      go : (b : Bool) → T b → get_or {A = ℕ} (elim b [ true ↦ x ∷ of_degree t es w | false ↦ of_degree t es w ]) 0 0 ≡ x
      go true h = refl
      go false h = absurd h

  same_on : T (eqb (e + row_shift) t) → (k k' : ℕ) → SameColumn t es k k' → SameColumn t (e ∷ es) (suc k) (suc k')
  same_on h k k' f [] l = absurd (omega arith)
  same_on h k k' f (x ∷ w) l = go (eqb (e + row_shift) t) h
    where
      go : (b : Bool) → T b → get_or {A = ℕ} (elim b [ true ↦ x ∷ of_degree t es w | false ↦ of_degree t es w ]) (suc k') 0 ≡ get_or w k 0
      go true h = f w (omega arith)
      go false h = absurd h

  same_past : T (not (eqb (e + row_shift) t)) → (k k' : ℕ) → SameColumn t es k k' → SameColumn t (e ∷ es) (suc k) k'
  same_past h k k' f [] l = absurd (omega arith)
  same_past h k k' f (x ∷ w) l = go (eqb (e + row_shift) t) h
    where
      go : (b : Bool) → T (not b) → get_or {A = ℕ} (elim b [ true ↦ x ∷ of_degree t es w | false ↦ of_degree t es w ]) k' 0 ≡ get_or w k 0
      go true h = absurd h
      go false h = f w (omega arith)

  module _ (d i i' : ℕ) where
    pivots_here : e ≡ d → T (eqb (e + row_shift) t) → Pivots t (e ∷ es) d i i' (some i) (some i')
    pivots_here q h = record { k = 0; k' = 0; here = omega arith; there = omega arith; inside = omega arith; degree = q; same = same_here h }

    pivots_on : T (eqb (e + row_shift) t) → (o o' : Option ℕ) → Pivots t es d (suc i) (suc i') o o' → Pivots t (e ∷ es) d i i' o o'
    pivots_on h none none q = tt
    pivots_on h none (some c') q = absurd q
    pivots_on h (some c) none q = absurd q
    pivots_on h (some c) (some c') q = record {
      k = suc q.k;
      k' = suc q.k';
      here = let a = q.here in omega arith;
      there = let a = q.there in omega arith;
      inside = let a = q.inside in omega arith;
      degree = q.degree;
      same = same_on h q.k q.k' q.same;
    }

    pivots_past : T (not (eqb (e + row_shift) t)) → (o o' : Option ℕ) → Pivots t es d (suc i) i' o o' → Pivots t (e ∷ es) d i i' o o'
    pivots_past h none none q = tt
    pivots_past h none (some c') q = absurd q
    pivots_past h (some c) none q = absurd q
    pivots_past h (some c) (some c') q = record {
      k = suc q.k;
      k' = q.k';
      here = let a = q.here in omega arith;
      there = q.there;
      inside = let a = q.inside in omega arith;
      degree = q.degree;
      same = same_past h q.k q.k' q.same;
    }

    -- a column of the degree
    pivots_kept : e ≡ d → T (eqb (e + row_shift) t) → (b : Bool) (o o' : Option ℕ) → Pivots t es d (suc i) (suc i') o o'
        → Pivots t (e ∷ es) d i i' (elim b [ true ↦ o | false ↦ some i ]) (elim b [ true ↦ o' | false ↦ some i' ])
    pivots_kept q h true o o' r = pivots_on h o o' r
    pivots_kept q h false o o' r = pivots_here q h

    -- any other: the row is zero there
    pivots_skipped : T (not (eqb (e + row_shift) t)) → (b : Bool) → T b → (o o' : Option ℕ) → Pivots t es d (suc i) i' o o'
        → Pivots t (e ∷ es) d i i' (elim b [ true ↦ o | false ↦ some i ]) o'
    pivots_skipped h true u o o' r = pivots_past h o o' r
    pivots_skipped h false u o o' r = absurd u

module _ (p : ℕ) where
  pub pivot_part : (d : ℕ) (es : List ℕ) (v : Row) → Apart p es d v → (i i' : ℕ)
      → Pivots (d + row_shift) es d i i' (pivot_from p i v) (pivot_from p i' (of_degree (d + row_shift) es v))
  pivot_part d [] [] a i i' = tt
  pivot_part d [] (x ∷ v) a i i' = absurd a
  pivot_part d (e ∷ es) [] a i i' = absurd a
  pivot_part d (e ∷ es) (x ∷ v) a i i' =
      go (eqb (e + row_shift) (d + row_shift)) (λ u. u) (λ u. u) (λ i i'. pivot_part d es v a.1 i i')
    where
      go : (b : Bool) → (T b → T (eqb (e + row_shift) (d + row_shift))) → (T (not b) → T (not (eqb (e + row_shift) (d + row_shift))))
          → ((i i' : ℕ) → Pivots (d + row_shift) es d i i' (pivot_from p i v) (pivot_from p i' (of_degree (d + row_shift) es v)))
          → Pivots (d + row_shift) (e ∷ es) d i i' (pivot_from p i (x ∷ v))
          (pivot_from p i' (elim b [ true ↦ x ∷ of_degree (d + row_shift) es v | false ↦ of_degree (d + row_shift) es v ]))
      go true h n r = let q : e + row_shift ≡ d + row_shift = eqb→eq (e + row_shift) (d + row_shift) (h tt) in
          pivots_kept (d + row_shift) e es d i i' (omega arith) (h tt) (eqb (x % p) 0)
          (pivot_from p (suc i) v) (pivot_from p (suc i') (of_degree (d + row_shift) es v)) (r (suc i) (suc i'))
      go false h n r =
          pivots_skipped (d + row_shift) e es d i i' (n tt) (eqb (x % p) 0) (subst (λ z. T (eqb z 0)) (sym (a.0 other)) (eqb_refl 0))
          (pivot_from p (suc i) v) (pivot_from p i' (of_degree (d + row_shift) es v)) (r (suc i) i')
        where
          other : ¬ (e ≡ d)
          other q = nonequal (e + row_shift) (d + row_shift) (n tt) (ap (λ z. z + row_shift) q)
