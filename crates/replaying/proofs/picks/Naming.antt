-- The monomial that a P line names: its numbers, its place in the working value, and the step there.
use mathlib.Core.Path.{◌≡◌, refl, sym, ap, ◌∙◌, subst}
use mathlib.Core.Bool.{Bool, true, false}
use mathlib.Core.Option.{some}
use mathlib.Core.List.{[], ◌∷◌, ◌++◌}
use Prim.Native.Nat.{ℕ, zero, suc, ◌+◌, ◌-◌, ◌<◌, ◌≤◌}
use native.Mathlib.Omega.{arith}
use lib.Dec.{T}
use lib.ListN.{length, get_or, set, take, replicate, length-set}
use lib.Seq.{drop-cons, take-append-add, length-take-le}
use Rattle.definitions.specs.Monomial.{Monomial, Vector, fits?, same_monomial?}
use Rattle.definitions.specs.Result.{Result, done, refused, unfinished, at_level, ◌>>=◌}
use Rattle.definitions.specs.Stage.{Stage}
use Rattle.definitions.specs.Run.{Run, Step, on, hybrid_strategy, by_pick}
use Rattle.definitions.specs.Replay.{pick_of, place_from, run_after, replayed}
use Rattle.definitions.specs.Layout.{Words, rows, padded}
use Rattle.definitions.specs.Places.{most_exponent}
use Rattle.laws.proofs.Tests.{true_is}
use Rattle.laws.proofs.Products.{same_monomial_says}
use Rattle.laws.proofs.Rows.{Eights, no_terms, one_more}
use Rattle.laws.proofs.Numbers
use Rattle.laws.proofs.Numbers.{Numbered, limit_number?}
use Rattle.laws.proofs.Numbers.{by_pick_number}
use Rattle.reader.proofs.problem.LineByLine.{take_zeros}
use Rattle.state.proofs.writing.Copying.{eights_rows}
use Rattle.vectors.specs.sums.Places.{seek}
use Rattle.std.specs.Prelude.{Option as CodeOption, Some, None}
use Rattle.replaying.specs.picks.Named.{named, place_as}

-- ## Numbers

abbrev eight_of : Words → Words
eight_of e = get_or e 0 0 ∷ get_or e 1 0 ∷ get_or e 2 0 ∷ get_or e 3 0 ∷ get_or e 4 0 ∷ get_or e 5 0 ∷ get_or e 6 0 ∷ get_or e 7 0 ∷ []

first_eight : (w : Words) → 8 ≤ length w → eight_of w ≡ take 8 w
first_eight w l =
    sym (ap (take 8) (drop-cons w 0 0 (omega arith) ∙ ap (λ z. get_or w 0 0 ∷ z) (drop-cons w 1 0 (omega arith) ∙ ap (λ z. get_or w 1 0 ∷ z)
    (drop-cons w 2 0 (omega arith) ∙ ap (λ z. get_or w 2 0 ∷ z) (drop-cons w 3 0 (omega arith) ∙ ap (λ z. get_or w 3 0 ∷ z)
    (drop-cons w 4 0 (omega arith) ∙ ap (λ z. get_or w 4 0 ∷ z) (drop-cons w 5 0 (omega arith) ∙ ap (λ z. get_or w 5 0 ∷ z)
    (drop-cons w 6 0 (omega arith) ∙ ap (λ z. get_or w 6 0 ∷ z) (drop-cons w 7 0 (omega arith))))))))))

-- the eight of the words are the named monomial's
pub eight_named : (n : ℕ) (v : Words) → length v ≡ 16
    → get_or (set v n 0) 0 0 ∷ get_or (set v n 0) 1 0 ∷ get_or (set v n 0) 2 0 ∷ get_or (set v n 0) 3 0 ∷ get_or (set v n 0) 4 0 ∷ get_or (set v n 0) 5 0
    ∷ get_or (set v n 0) 6 0 ∷ get_or (set v n 0) 7 0 ∷ [] ≡ take 8 (set v n 0)
eight_named n v l = first_eight (set v n 0) (let e : length (set v n 0) ≡ length v = simp length-set in omega (arith, e, l))

set_last : (u : Words) (n : ℕ) (z : Words) → length u ≡ suc n → set (u ++ z) n 0 ≡ take n u ++ 0 ∷ z
set_last [] n z l = absurd (omega arith)
set_last (x ∷ u) zero z l = go u (let e : length u ≡ 0 = omega arith in e)
  where
    go : (u : Words) → length u ≡ 0 → 0 ∷ (u ++ z) ≡ 0 ∷ z
    go [] e = refl
    go (y ∷ u) e = absurd (omega arith)
set_last (x ∷ u) (suc n) z l = ap (λ w. x ∷ w) (set_last u n z (omega arith))

get_d_front : (u z : Words) (n : ℕ) → n < length u → get_or (u ++ z) n 0 ≡ get_or u n 0
get_d_front [] z n l = absurd (omega arith)
get_d_front (x ∷ u) z zero l = refl
get_d_front (x ∷ u) z (suc n) l = get_d_front u z n (omega arith)

-- "`P,e1,..,en,component`": "exponents past n are zero"
pub named_is : (n : ℕ) (u : Words) → n ≤ 8 → length u ≡ suc n → named n (padded 16 u) ≡ pick_of n u
named_is n u h l = λ i. (exponents i, get_d_front u (replicate (16 - length u) 0) n (omega (arith, l)) i)
  where
    zeros : Words
    zeros = replicate (16 - length u) 0

    exponents : take 8 (set (padded 16 u) n 0) ≡ take n u ++ replicate (8 - n) 0
    exponents =
        let a : length (take n u) ≡ n = length-take-le n u (omega (arith, l)) in
        let e : 8 ≡ length (take n u) + (8 - n) = omega (arith, a) in
        let s : suc (16 - length u) ≡ 16 - n = omega (arith, l) in
        ap (take 8) (set_last u n zeros l)
        ∙ ap (λ m. take 8 (take n u ++ replicate {A = ℕ} m 0)) s
        ∙ ap (λ k. take k (take n u ++ replicate (16 - n) 0)) e
        ∙ take-append-add (take n u) (replicate (16 - n) 0) (8 - n)
        ∙ ap (λ z. take n u ++ z) (take_zeros (8 - n) (16 - n) (omega arith))

-- ## Its place

-- a monomial with an exponent above 255 is none of these
nowhere_of : (m : Monomial) → fits? most_exponent m.0 ≡ false → (v : Vector) → Eights v → (i : ℕ) → ◌≡◌ {A = CodeOption ℕ} None (seek m v i)
nowhere_of m e [] no_terms i = refl
nowhere_of m e (t ∷ v) (one_more h hs) i = go (same_monomial? m t.1) refl (nowhere_of m e v hs (suc i))
  where
    never : false ≡ true → ⊥
    never e = let z : ◌≡◌ {A = ℕ} 0 1 = cc in omega arith

    go : (b : Bool) → same_monomial? m t.1 ≡ b → ◌≡◌ {A = CodeOption ℕ} None (seek m v (suc i)) → ◌≡◌ {A = CodeOption ℕ} None (elim b [ true ↦ Some i | false ↦ seek m v (suc i) ])
    go false s r = r
    go true s r =
        let k = same_monomial_says m t.1 (subst T (sym s) tt) in
        absurd (never (sym e ∙ ap (λ x. fits? most_exponent x.0) k ∙ true_is (fits? most_exponent t.1.0) h.small))

pub nowhere : (m : Monomial) (s : Words) (n : ℕ) → fits? most_exponent m.0 ≡ false → ◌≡◌ {A = CodeOption ℕ} None (seek m (rows s 0 n) 0)
nowhere m s n e = nowhere_of m e (rows s 0 n) (eights_rows s 0 n) 0

pub place_is : (m : Monomial) (v : Vector) (i : ℕ) → place_as (seek m v i) ≡ place_from m i v
place_is m [] i = refl
place_is m (t ∷ v) i = go (same_monomial? m t.1) (place_is m v (suc i))
  where
    go : (b : Bool) → place_as (seek m v (suc i)) ≡ place_from m (suc i) v
        → place_as (elim b [ true ↦ Some i | false ↦ seek m v (suc i) ]) ≡ elim b [ true ↦ some i | false ↦ place_from m (suc i) v ]
    go true e = refl
    go false e = e

-- ## The step there

module _ (S : Stage) (k place : ℕ) (r : Run) (m : Monomial) where
  abbrev asked : Result Run
  asked = replayed S k place r (place_from m 0 r.value)

  abbrev after : Result Step → Result Run
  after x = at_level k x >>= λ s. done (run_after s)

  pub pick_nowhere : ◌≡◌ {A = CodeOption ℕ} None (seek m r.value 0) → refused 22 place [] ≡ asked
  pick_nowhere e = ap (λ p. replayed S k place r (place_as p)) e ∙ ap (replayed S k place r) (place_is m r.value 0)

  module _ (i : ℕ) (e : ◌≡◌ {A = CodeOption ℕ} (Some i) (seek m r.value 0)) where
    at_place : after (by_pick S (hybrid_strategy S 2) r (some i)) ≡ asked
    at_place = ap (λ p. replayed S k place r (place_as p)) e ∙ ap (replayed S k place r) (place_is m r.value 0)

    pub pick_on : (r' : Run) → done (on r') ≡ by_pick S (hybrid_strategy S 2) r (some i) → done r' ≡ asked
    pick_on r' h = ap after h ∙ at_place

    pub pick_refused : (number : ℕ) → refused number 0 [] ≡ by_pick S (hybrid_strategy S 2) r (some i) → refused number k [] ≡ asked
    pick_refused number h = ap after h ∙ at_place

    pub never_stopped : (value : Vector) → refused 9 0 value ≡ by_pick S (hybrid_strategy S 2) r (some i) → ⊥
    never_stopped value h = go (subst (Numbered limit_number?) (sym h) (by_pick_number S (hybrid_strategy S 2) r (some i))) refl
      where
        go : {x : Result Step} → Numbered limit_number? x → x ≡ refused 9 0 value → ⊥
        go Numbers.gives e = let z : ◌≡◌ {A = ℕ} 0 1 = cc in omega arith
        go (Numbers.refuses {number} t) e = subst (λ n. T (limit_number? n)) (ap number_of e) t
          where
            number_of : Result Step → ℕ
            number_of (refused n at value) = n
            number_of (done s) = 0
            number_of unfinished = 0
        go (Numbers.stops t) e = t
        go Numbers.open_yet e = let z : ◌≡◌ {A = ℕ} 0 1 = cc in omega arith
