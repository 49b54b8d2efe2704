-- Working values: what the test of good values says, and what happens to it and to a sum over the terms when terms leave or combine.
use mathlib.Core.Path.{◌≡◌, refl, sym, ap, subst}
use mathlib.Core.Logic.{◌≢◌}
use mathlib.Core.Bool.{not}
use mathlib.Core.List.{[], ◌∷◌}
use Prim.Native.Nat.{ℕ, zero, suc, ◌+◌, ◌≤◌, ◌<◌}
use native.Mathlib.Omega.{arith}
use lib.Dec.{T, T_not, not_T, eqb, leb, eqb→eq, leb→le}
use lib.ListN.{length, get_or}
use Rattle.definitions.specs.Lists.{◌and◌, without}
use Rattle.definitions.specs.Monomial.{Monomial, Term, Vector, fits?, same_monomial?, no_term}
use Rattle.laws.proofs.Tests.{and_left, and_right, and_both}
use Rattle.laws.proofs.Members.{All, every_all, all_every, all_map, all_inside}
use Rattle.laws.proofs.Products.{same_monomial_says, same_monomial_shows}
use Rattle.ending.specs.Good.{good_monomial?, fresh?, good?}
use Rattle.ending.specs.Spent.{total}

-- ## Good values

-- no term of v has the monomial
abbrev pub Fresh : Monomial → Vector → Type 0
Fresh m v = All (λ u. m ≢ u.1) v

abbrev pub Good : Vector → Type 0
Good [] = Unit {0}
Good (t ∷ v) = T (good_monomial? t.1) × Fresh t.1 v × Good v

fresh_says : (m : Monomial) (v : Vector) → T (fresh? m v) → Fresh m v
fresh_says m v t =
    all_map (λ u. T (not (same_monomial? m u.1))) (λ u. m ≢ u.1) (λ u n e. T_not (same_monomial? m u.1) n (same_monomial_shows m u.1 e)) v
    (every_all (λ u. not (same_monomial? m u.1)) v t)

fresh_shows : (m : Monomial) (v : Vector) → Fresh m v → T (fresh? m v)
fresh_shows m v h =
    all_every (λ u. not (same_monomial? m u.1)) v
    (all_map (λ u. m ≢ u.1) (λ u. T (not (same_monomial? m u.1))) (λ u n. not_T (same_monomial? m u.1) (λ t. n (same_monomial_says m u.1 t)))
    v h)

pub good_says : (v : Vector) → T (good? v) → Good v
unfolding good?
good_says [] t = tt
good_says (u ∷ v) t =
    let m = good_monomial? u.1 in
    let f = fresh? u.1 v in
    let l = and_right m (f and good? v) t in
    (and_left m (f and good? v) t, fresh_says u.1 v (and_left f (good? v) l), good_says v (and_right f (good? v) l))

pub good_shows : (v : Vector) → Good v → T (good? v)
unfolding good?
good_shows [] h = tt
good_shows (u ∷ v) h =
    and_both (good_monomial? u.1) (fresh? u.1 v and good? v) h.0
    (and_both (fresh? u.1 v) (good? v) (fresh_shows u.1 v h.1) (good_shows v h.2))

good_all : (v : Vector) → Good v → All (λ u. T (good_monomial? u.1)) v
good_all [] g = tt
good_all (u ∷ v) g = (g.0, good_all v g.2)

pub good_at : (v : Vector) → Good v → (i : ℕ) → i < length v → T (good_monomial? (get_or v i no_term).1)
good_at v g i l = all_inside (λ u. T (good_monomial? u.1)) no_term v i l (good_all v g)

pub good_eight : (m : Monomial) → T (good_monomial? m) → length m.0 ≡ 8
good_eight m t = eqb→eq (length m.0) 8 (and_left (eqb (length m.0) 8) (fits? 255 m.0 and leb 1 m.1) t)

pub good_fits : (m : Monomial) → T (good_monomial? m) → T (fits? 255 m.0)
good_fits m t = and_left (fits? 255 m.0) (leb 1 m.1) (and_right (eqb (length m.0) 8) (fits? 255 m.0 and leb 1 m.1) t)

pub good_component : (m : Monomial) → T (good_monomial? m) → 1 ≤ m.1
good_component m t = leb→le 1 m.1 (and_right (fits? 255 m.0) (leb 1 m.1)
    (and_right (eqb (length m.0) 8) (fits? 255 m.0 and leb 1 m.1) t))

-- ## Terms leave, coefficients change

-- the terms of w stand in v in the same order, perhaps with other coefficients
pub data Thinned : Vector → Vector → Type 0 where
  nothing : Thinned [] []
  kept : {t u : Term} {w v : Vector} → t.1 ≡ u.1 → Thinned w v → Thinned (t ∷ w) (u ∷ v)
  left : {u : Term} {w v : Vector} → Thinned w v → Thinned w (u ∷ v)

pub thinned_same : (v : Vector) → Thinned v v
thinned_same [] = nothing
thinned_same (t ∷ v) = kept refl (thinned_same v)

pub thinned_all : (P : Monomial → Type 0) {w v : Vector} → Thinned w v → All (λ u. P u.1) v → All (λ u. P u.1) w
thinned_all P nothing h = h
thinned_all P (kept e k) h = (subst P (sym e) h.0, thinned_all P k h.1)
thinned_all P (left k) h = thinned_all P k h.1

pub thinned_good : {w v : Vector} → Thinned w v → Good v → Good w
thinned_good nothing g = g
thinned_good (kept {t} {u} {w} e k) g =
    (subst (λ m. T (good_monomial? m)) (sym e) g.0, subst (λ m. Fresh m w) (sym e) (thinned_all (λ m. u.1 ≢ m) k g.1), thinned_good k g.2)
thinned_good (left k) g = thinned_good k g.2

pub thinned_total : (h : Monomial → ℕ) {w v : Vector} → Thinned w v → total h w ≤ total h v
thinned_total h nothing = omega arith
thinned_total h (kept e k) = omega (arith, thinned_total h k, ap h e)
thinned_total h (left k) = omega (arith, thinned_total h k)

-- ## A term leaves by its place

pub without_thinned : (v : Vector) (i : ℕ) → Thinned (without i v) v
without_thinned [] zero = nothing
without_thinned [] (suc i) = nothing
without_thinned (u ∷ v) zero = left (thinned_same v)
without_thinned (u ∷ v) (suc i) = kept refl (without_thinned v i)

pub without_total : (h : Monomial → ℕ) (v : Vector) (i : ℕ) → i < length v → h (get_or v i no_term).1 + total h (without i v) ≡ total h v
without_total h [] i l = absurd (omega arith)
without_total h (u ∷ v) zero l = refl
without_total h (u ∷ v) (suc i) l = omega (arith, without_total h v i (omega arith))
