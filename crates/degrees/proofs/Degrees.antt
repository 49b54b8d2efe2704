-- What vectors carry: found from the level below, held in the words of any state and of what a list of calls leaves.
use mathlib.Core.Path.{◌≡◌, refl, sym, ap, ◌∙◌, subst}
use mathlib.Core.Option.{some}
use mathlib.Core.List.{List, [], ◌∷◌}
use Prim.Native.Nat.{ℕ, zero, suc, ◌+◌, ◌-◌, ◌<◌, ◌≤◌}
use native.Mathlib.Omega.{arith}
use lib.Dec.{T}
use lib.ListN.{length, get_or, drop}
use Rattle.definitions.specs.Limits.{Limits, document_01}
use Rattle.definitions.specs.Lists.{every, between}
use Rattle.definitions.specs.Monomial.{Monomial, Vector, Level, degree, leading, vector_of}
use Rattle.definitions.specs.Stage.{highest}
use Rattle.definitions.specs.Problem.{Parameters}
use Rattle.definitions.specs.State.{State, sound?, term_sound?, vector_sound?, levels_sound?}
use Rattle.definitions.specs.Places.{most_carried}
use Rattle.definitions.specs.Degrees.{component_degree, degree_by, image_over, degree_of, degrees_of}
use Rattle.definitions.specs.Reckoning.{nothing, reckon_all}
use Rattle.definitions.specs.Layout.{Words, meant, Lent, Left, lent_calls}
use Rattle.laws.proofs.Tests.{and_left, between_low, between_high}
use Rattle.laws.proofs.Members.{every_all, all_inside}
use Rattle.laws.proofs.Sound.{level_says, vector_says, term_says}
use Rattle.laws.proofs.Degrees.{sound_headed, degree_recursion, getD_degrees}
use Rattle.demands.specs.Exact.{Reckons}
use Rattle.demands.specs.Demands.{sensible?, level_of, numbered, left_by, Starts, OfBasis}
use Rattle.demands.proofs.Over.{small_exponents}
use Rattle.demands.proofs.Lifts.{levels_stay}
use Rattle.demands.proofs.Demand3.{demand_3}
use Rattle.degrees.specs.Notions.{levels_below, degree_at, HasVector, carried_word}
use Rattle.degrees.specs.Degrees.{Carries}
use Rattle.degrees.proofs.Words.{words, wrong_lifting, wrong_fetching}
use Rattle.degrees.proofs.Bounds.{carried_most}

-- ## From the level below

drop_past : {A : Type 0} (n : ℕ) (l : List A) → length l ≤ n → drop n l ≡ []
drop_past zero [] h = refl
drop_past zero (a ∷ l) h = absurd (omega arith)
drop_past (suc n) [] h = refl
drop_past (suc n) (a ∷ l) h = drop_past n l (omega arith)

drop_one : (j : ℕ) (ls : List Level) → j < length ls → drop j ls ≡ highest (drop j ls) ∷ drop (suc j) ls
drop_one j [] h = absurd (omega arith)
drop_one zero (f ∷ ls) h = refl
drop_one (suc j) (f ∷ ls) h = drop_one j ls (omega arith)

-- a sound vector's leading term
leading_sound : (lim : Limits) (q : Parameters) (c most : ℕ) (below : List Level) (v : Vector) → T (vector_sound? lim q c most below v)
    → (length (leading v).0 ≡ 8) × T (between 1 (leading v).1 c)
leading_sound lim q c most below [] h = absurd (let l = (vector_says lim q c most below [] h).filled in omega arith)
leading_sound lim q c most below (t ∷ v) h =
    let s = term_says lim q c t (and_left (term_sound? lim q c t) (every (term_sound? lim q c) v) (vector_says lim q c most below (t ∷ v) h).terms) in
    (s.eight, s.component)

vector_inside : (lim : Limits) (q : Parameters) (c most : ℕ) (below : List Level) (f : Level) (v : ℕ) → T (every (vector_sound? lim q c most below) f)
    → 1 ≤ v → v ≤ length f → T (vector_sound? lim q c most below (vector_of f v))
vector_inside lim q c most below f zero h l m = absurd (omega arith)
vector_inside lim q c most below f (suc v) h l m =
    all_inside (λ v. T (vector_sound? lim q c most below v)) [] f v (omega arith) (every_all (vector_sound? lim q c most below) f h)

-- a monomial over g and the levels below g
over_one : (lim : Limits) (q : Parameters) (d : List ℕ) (g : Level) (below : List Level) → T (levels_sound? lim q (g ∷ below)) → (m : Monomial)
    → length m.0 ≡ 8 → T (between 1 m.1 (length g))
    → degree_by d (image_over (g ∷ below) m) ≡ degree m.0 + degree_of d below (vector_of g m.1)
over_one lim q d g below s m h r =
    degree_recursion d g below m (sound_headed lim q (g ∷ below) s) h r ∙ ap (λ n. degree m.0 + n) (at m.1 r)
  where
    at : (c : ℕ) → T (between 1 c (length g)) → get_or (degrees_of d below g) (c - 1) 0 ≡ degree_of d below (vector_of g c)
    at zero r = absurd (let l = between_low 1 0 (length g) r in omega arith)
    at (suc j) r =
        let e : suc j - 1 ≡ j = omega arith in
        let l = between_high 1 (suc j) (length g) r in
        ap (λ i. get_or (degrees_of d below g) i 0) e ∙ getD_degrees d below g j (omega (arith, l))

module _ (lim : Limits) (X : State) (s : T (sound? lim X)) where
  abbrev d : List ℕ
  d = X.parameters.degrees

  abbrev ls : List Level
  ls = X.levels

  lowest : (v : ℕ) → HasVector ls 0 v
      → degree_at d ls 0 v ≡ degree (leading (vector_of (level_of ls 0) v)).0 + component_degree d (leading (vector_of (level_of ls 0) v)).1
  lowest v h =
      let l = h.level in
      ap (λ below. degree_of d below (vector_of (level_of ls 0) v)) (drop_past (suc (length ls - 1)) ls (omega (arith, l)))

  -- a level, that below it, and those below that
  module _ (k : ℕ) (l : suc k < length ls) where
    one_down : levels_below ls (suc k) ≡ level_of ls k ∷ levels_below ls k
    one_down =
        let e : suc (length ls - suc (suc k)) ≡ length ls - suc k = omega (arith, l) in
        ap (λ j. drop j ls) e ∙ drop_one (length ls - suc k) ls (omega (arith, l))

    under : T (levels_sound? lim X.parameters (level_of ls k ∷ levels_below ls k))
    under = subst (λ ls. T (levels_sound? lim X.parameters ls)) (drop_one (length ls - suc k) ls (omega (arith, l))) (levels_stay lim X s k)

    vectors : T (every (vector_sound? lim X.parameters (length (level_of ls k)) lim.vector (level_of ls k ∷ levels_below ls k)) (level_of ls (suc k)))
    vectors =
        (level_says lim X.parameters (level_of ls (suc k)) (level_of ls k) (levels_below ls k)
        (subst (λ ls. T (levels_sound? lim X.parameters ls))
        (drop_one (length ls - suc (suc k)) ls (omega (arith, l)) ∙ ap (λ below. level_of ls (suc k) ∷ below) one_down) (levels_stay lim X s (suc k)))).vectors

    above_at : (v : ℕ) → HasVector ls (suc k) v → degree_at d ls (suc k) v
        ≡ degree (leading (vector_of (level_of ls (suc k)) v)).0 + degree_at d ls k (leading (vector_of (level_of ls (suc k)) v)).1
    above_at v h =
        let u = vector_of (level_of ls (suc k)) v in
        let w = leading_sound lim X.parameters (length (level_of ls k)) lim.vector (level_of ls k ∷ levels_below ls k) u
        (vector_inside lim X.parameters (length (level_of ls k)) lim.vector (level_of ls k ∷ levels_below ls k) (level_of ls (suc k)) v vectors
        h.from h.to) in
        ap (λ below. degree_of d below u) one_down ∙ over_one lim X.parameters d (level_of ls k) (levels_below ls k) under (leading u) w.0 w.1

-- ## After a list of calls

module _ (lim : Limits) (o : T (sensible? lim)) where
  left : (n : ℕ) (state : Words) (cs : List Lent) (ls : List Left) → lent_calls lim n state cs ≡ some ls → Starts state cs ls
      → (q : Parameters) (f : Level) (levels : List Level) → (reckon_all lim nothing (numbered lim cs ls)).basis ≡ some (q, f)
      → Reckons lim (reckon_all lim nothing (numbered lim cs ls)) levels
      → (k v : ℕ) → HasVector levels k v → carried_word lim (left_by state ls) k v ≡ degree_at q.degrees levels k v
  left n state cs ls e t q f levels b r k v h =
      let W = left_by state ls in
      let R = reckon_all lim nothing (numbered lim cs ls) in
      let L = ((demand_3 lim o).calls n state cs ls e t).0 in
      let same : levels ≡ (meant lim W).levels = (demand_3 lim o).one_reckoning R levels (meant lim W).levels r L.levels in
      let p : (meant lim W).parameters ≡ q = subst (OfBasis (meant lim W)) b L.parameters in
      words lim W k v (subst (λ l. HasVector l k v) same h) ∙ (λ i. degree_at (p i).degrees (sym same i) k v)

  pub carries : Carries lim
  carries = record {
    lowest = λ X v s h. lowest lim X s v h;
    above = λ X k v s h. above_at lim X s k h.level v h;
    at_most = λ X k v s h. carried_most lim (small_exponents lim o) X s k v;
    words = λ s k v h. words lim s k v h;
    left = left;
    wrong_lifting = λ s k v h w n level way work cache t. wrong_lifting lim s k v h w n level way work cache t;
    wrong_fetching = λ s k v h w level vector out t. wrong_fetching lim s k v h w level vector out t;
  }

pub document_carries : Carries document_01
document_carries = carries document_01 tt

-- with document 01's levels
pub document_at_most : (X : State) (k v : ℕ) → T (sound? document_01 X) → HasVector X.levels k v
    → degree_at X.parameters.degrees X.levels k v ≤ most_carried
document_at_most X k v s h = document_carries.at_most X k v s h
