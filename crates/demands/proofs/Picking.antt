-- The codes pick a place of the working value; code 1 picks the leading term.
use mathlib.Core.Path.{◌≡◌, refl, sym, ap, ◌∙◌, subst}
use mathlib.Core.Logic.{inl, inr}
use mathlib.Core.Bool.{Bool, true, false}
use mathlib.Core.Option.{Option, none, some, none-ne-some}
use mathlib.Core.List.{[], ◌∷◌}
use Prim.Native.Nat.{ℕ, zero, suc, ◌+◌, ◌<◌}
use native.Mathlib.Omega.{arith}
use lib.Dec.{eqb}
use lib.ListN.{length, get_or}
use Rattle.theory.specs.Vec.{All, Lead}
use Rattle.theory.proofs.Vec
use Rattle.theory.proofs.Top.{Le}
use Rattle.definitions.specs.Limits.{Limits}
use Rattle.definitions.specs.Monomial.{Monomial, Term, Vector, no_term}
use Rattle.definitions.specs.Order.{Comparison, greater, equal, smaller}
use Rattle.definitions.specs.Stage.{Stage}
use Rattle.definitions.specs.Run.{Strategy, Best, better, greatest_from, greatest, by_code, hybrid_strategy, division_strategy, accepting_strategy}
use Rattle.demands.specs.Picks.{Picks}
use Rattle.demands.proofs.Results.{some_is}
use Rattle.demands.proofs.Comparisons.{Says, less, level, more}
use Rattle.demands.proofs.Levels.{Mono, TVec, mono, mono_injective, term, vec, vec_length, Has, over_says}
use Rattle.demands.proofs.Setting.{Setting, S, L}
use Rattle.demands.proofs.Steps.{stage, InValue, Sum, Taken, taken}

-- ## A place of the value, none only of an empty one

pub data Picked (v : Vector) : Option ℕ → Type 0 where
  place : {i : ℕ} → i < length v → Picked v (some i)
  no_place : v ≡ [] → Picked v none

pub picked_picks : (W : Strategy) → ((v : Vector) → Picked v (W.pick v)) → Picks W
picked_picks W h = record { inside = λ v i e. inside (h v) i e; to_zero = λ v e. zero_of (h v) e }
  where
    inside : {v : Vector} {o : Option ℕ} → Picked v o → (i : ℕ) → o ≡ some i → i < length v
    inside (place {i = j} l) i e = let k : j ≡ i = some_is e in omega arith
    inside (no_place z) i e = absurd (none-ne-some i e)

    zero_of : {v : Vector} {o : Option ℕ} → Picked v o → o ≡ none → v ≡ []
    zero_of (place {i = j} l) e = absurd (none-ne-some j (sym e))
    zero_of (no_place z) e = z

greatest_inside : (order : Monomial → Monomial → Comparison) (i : ℕ) (best : Best) (v : Vector) → best.0 < i
    → greatest_from order i best v < i + length v
greatest_inside order i best [] l = omega arith
greatest_inside order i best (t ∷ v) l =
    let h : greatest_from order (suc i) next v < suc i + length v = greatest_inside order (suc i) next v (fits (order t.1 best.1)) in omega arith
  where
    next : Best
    next = better (order t.1 best.1) i t.1 best

    fits : (c : Comparison) → (better c i t.1 best).0 < suc i
    fits greater = omega arith
    fits equal = omega arith
    fits smaller = omega arith

code_picked : (order : Monomial → Monomial → Comparison) (code : ℕ) (v : Vector) → Picked v (by_code order code v)
code_picked order code [] = go (eqb code 1) (eqb code 2)
  where
    go : (s t : Bool) → Picked [] (elim s [ true ↦ none | false ↦ elim t [ true ↦ none | false ↦ none ] ])
    go true t = no_place refl
    go false true = no_place refl
    go false false = no_place refl
code_picked order code (t ∷ v) = go (eqb code 1) (eqb code 2)
  where
    go : (s u : Bool) → Picked (t ∷ v)
        (elim s [ true ↦ some (greatest_from order 1 (0, t.1) v) | false ↦ elim u [ true ↦ some (length v) | false ↦ some 0 ] ])
    go true u = place {i = greatest_from order 1 (0, t.1) v} (let h : greatest_from order 1 (0, t.1) v < 1 + length v =
        greatest_inside order 1 (0, t.1) v
        (omega arith) in omega arith)
    go false true = place {i = length v} (omega arith)
    go false false = place {i = 0} (omega arith)

pub hybrid_picks : (S : Stage) (code : ℕ) → Picks (hybrid_strategy S code)
hybrid_picks S code = picked_picks (hybrid_strategy S code) (code_picked S.below code)

pub division_picks : (S : Stage) → Picks (division_strategy S)
division_picks S = picked_picks (division_strategy S) (code_picked S.below 1)

pub accepting_picks : (S : Stage) → Picks (accepting_strategy S)
accepting_picks S = picked_picks (accepting_strategy S) (code_picked S.below 1)

-- ## Code 1 picks the greatest

module _ (Z : Setting) (lim : Limits) where
  abbrev order : Monomial → Monomial → Comparison
  order = (stage Z lim).below

  -- at most
  abbrev AtMost : Mono Z.n → Mono Z.n → Type 0
  AtMost y x = Le (S Z) (L Z) x y

  at_most_trans : (x y z : Mono Z.n) → AtMost y x → AtMost z y → AtMost z x
  at_most_trans x y z (inl a) (inl b) = inl ((L Z).trans x y z a b)
  at_most_trans x y z (inl a) (inr e) = inl (subst (λ w. (L Z).Lt x w) e a)
  at_most_trans x y z (inr e) b = subst (AtMost z) (sym e) b

  -- the term of w at place k is at least y, and at least each of g
  record TopAt (w : Vector) (k : ℕ) (y : Mono Z.n) (g : TVec Z.n) : Type 0 where
    c : ℕ
    x : Mono Z.n
    is : get_or w k no_term ≡ term Z.n (c, x)
    over : AtMost x y
    top : All (S Z) (AtMost x) g

  top_from : (w : Vector) (i b c : ℕ) (y : Mono Z.n) → get_or w b no_term ≡ term Z.n (c, y) → Has Z.n Z.b y → (g : TVec Z.n)
      → All (S Z) (Has Z.n Z.b) g
      → ((k : ℕ) → k < length g → get_or w (i + k) no_term ≡ term Z.n (get_or g k (0, y)))
      → TopAt w (greatest_from order i (b, mono Z.n y) (vec Z.n g)) y g
  top_from w i b c y e hy [] hs at = record { c = c; x = y; is = e; over = inr refl; top = tt }
  top_from w i b c y e hy (t ∷ g) hs at = go (over_says Z.n Z.code Z.b Z.grounded.1 t.1 y hs.0 hy)
      (top_from w (suc i) b c y e hy g hs.1 (λ k l. later k l y)) (top_from w (suc i) i t.0 t.1 here hs.0 g hs.1
      (λ k l. later k l t.1))
    where
      here : get_or w i no_term ≡ term Z.n t
      here = let z : i ≡ i + 0 = omega arith in ap (λ k. get_or w k no_term) z ∙ at 0 (omega arith)

      default : (g : TVec Z.n) (k : ℕ) → k < length g → (d d' : ℕ × Mono Z.n) → get_or g k d ≡ get_or g k d'
      default [] k l d d' = absurd (omega arith)
      default (u ∷ g) zero l d d' = refl
      default (u ∷ g) (suc k) l d d' = default g k (omega arith) d d'

      later : (k : ℕ) → k < length g → (z : Mono Z.n) → get_or w (suc i + k) no_term ≡ term Z.n (get_or g k (0, z))
      later k l z =
          let q : suc i + k ≡ i + suc k = omega arith in ap (λ j. get_or w j no_term) q ∙ at (suc k) (omega arith)
          ∙ ap (term Z.n) (default g k l (0, y) (0, z))

      go : {o : Comparison} → Says ((L Z).Lt t.1 y) (t.1 ≡ y) ((L Z).Lt y t.1) o
          → TopAt w (greatest_from order (suc i) (b, mono Z.n y) (vec Z.n g)) y g
          → TopAt w (greatest_from order (suc i) (i, mono Z.n t.1) (vec Z.n g)) t.1 g
          → TopAt w (greatest_from order (suc i) (better o i (mono Z.n t.1) (b, mono Z.n y)) (vec Z.n g)) y (t ∷ g)
      go (more s) r q = record { c = q.c; x = q.x; is = q.is; over = at_most_trans y t.1 q.x (inl s) q.over; top = (q.over, q.top) }
      go (level s) r q = record { c = r.c; x = r.x; is = r.is; over = r.over; top = (at_most_trans t.1 y r.x (inr s) r.over, r.top) }
      go (less s) r q = record { c = r.c; x = r.x; is = r.is; over = r.over; top = (at_most_trans t.1 y r.x (inl s) r.over, r.top) }

  vec_at : (g : TVec Z.n) (k : ℕ) → k < length g → (d : ℕ × Mono Z.n) → get_or (vec Z.n g) k no_term ≡ term Z.n (get_or g k d)
  vec_at [] k l d = absurd (omega arith)
  vec_at (t ∷ g) zero l d = refl
  vec_at (t ∷ g) (suc k) l d = vec_at g k (omega arith) d

  strictly : (y : Mono Z.n) (v : TVec Z.n) → All (S Z) (AtMost y) v → All (S Z) (λ (x : Mono Z.n). y ≡ x → ⊥) v
      → All (S Z) (λ (x : Mono Z.n). (L Z).Lt x y) v
  strictly y [] a n = tt
  strictly y (t ∷ v) a n = (go a.0, strictly y v a.1 n.1)
    where
      go : AtMost y t.1 → (L Z).Lt t.1 y
      go (inl l) = l
      go (inr e) = absurd (n.0 (sym e))

  -- the picked term stands over all others of the value
  pub greatest_over : (g : TVec Z.n) → Sum Z lim (InValue Z lim) g → (i : ℕ) → greatest order (vec Z.n g) ≡ some i → (k : Taken Z lim g i)
      → All (S Z) (λ (y : Mono Z.n). (L Z).Lt y k.x) k.kept
  greatest_over [] s i e k = absurd (none-ne-some i e)
  greatest_over (t ∷ g) s i e k =
      strictly k.x k.kept (subst (λ y. All (S Z) (AtMost y) k.kept) top_is (k.sub (AtMost r.x) (r.over, r.top)).1) k.alone
    where
      w : Vector
      w = vec Z.n (t ∷ g)

      j : ℕ
      j = greatest_from order 1 (0, mono Z.n t.1) (vec Z.n g)

      number : j ≡ i
      number = some_is e

      r : TopAt w j t.1 g
      r = top_from w 1 0 t.0 t.1 refl s.ok.0.0 g (Vec.all_map (S Z) (InValue Z lim) (Has Z.n Z.b) (λ y h. h.0) g s.ok.1)
          (λ m l. let q : 1 + m ≡ suc m = omega arith in ap (λ z. get_or w z no_term) q ∙ vec_at g m l (0, t.1))

      top_is : r.x ≡ k.x
      top_is = mono_injective Z.n r.x k.x (ap (λ (z : Term). z.1) (sym (ap (λ z. get_or w z no_term) (sym number) ∙ r.is) ∙ k.is))

  -- .. and leads it
  pub greatest_leads : (g : TVec Z.n) → Sum Z lim (InValue Z lim) g → (i : ℕ) → greatest order (vec Z.n g) ≡ some i
      → (c : ℕ) (x : Mono Z.n) → get_or (vec Z.n g) i no_term ≡ term Z.n (c, x) → Lead (S Z) (L Z) g x
  greatest_leads [] s i e c x is = absurd (none-ne-some i e)
  greatest_leads (t ∷ g) s i e c x is = subst (Lead (S Z) (L Z) (t ∷ g)) (sym same_x) (record {
    coef = k.c;
    rest = k.kept;
    nonzero = k.good.0;
    smaller = greatest_over (t ∷ g) s i e k;
    split = k.split;
  })
    where
      inside : i < length (t ∷ g)
      inside =
          let j : greatest_from order 1 (0, mono Z.n t.1) (vec Z.n g) ≡ i = some_is e in
          let h : greatest_from order 1 (0, mono Z.n t.1) (vec Z.n g) < 1 + length (vec Z.n g) = greatest_inside order 1 (0, mono Z.n t.1)
          (vec Z.n g) (omega arith) in
          omega (arith, j, vec_length Z.n g)

      k : Taken Z lim (t ∷ g) i
      k = taken Z lim (t ∷ g) i inside s

      -- whatever stands at place i stands there
      same_x : x ≡ k.x
      same_x = mono_injective Z.n x k.x (ap (λ (z : Term). z.1) (sym is ∙ k.is))
