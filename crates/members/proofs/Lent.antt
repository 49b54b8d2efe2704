-- A vector that a caller lends: which one is taken, where 23 comes, and what its division by the elements of a state leaves.
use mathlib.Core.Path.{◌≡◌, refl, sym, ap, ◌∙◌, subst}
use mathlib.Core.Logic.{◌⊎◌, inl, inr}
use mathlib.Core.Bool.{Bool, true, false}
use mathlib.Core.List.{List, [], ◌∷◌, ◌++◌, append_assoc, append-nil}
use Prim.Native.Nat.{ℕ, zero, suc, ◌+◌, ◌-◌, ◌<◌, ◌≤◌}
use native.Mathlib.Omega.{arith}
use lib.Dec.{T, ltb, ltb→lt, lt→ltb}
use lib.ListN.{length, drop, length-append}
use lib.Seq.{drop-nil}
use Rattle.definitions.specs.Limits.{Limits}
use Rattle.definitions.specs.Lists.{◌and◌, every, last, between}
use Rattle.definitions.specs.Monomial.{Term, Vector, Level}
use Rattle.definitions.specs.Order.{compare_over}
use Rattle.definitions.specs.Result.{Result, done, refused, unfinished, finished?, unless_refused, ◌>>=◌}
use Rattle.definitions.specs.Vectors.{strictly_descending?}
use Rattle.definitions.specs.Stage.{Stage, stage_over}
use Rattle.definitions.specs.Problem.{Parameters, below?}
use Rattle.definitions.specs.State.{State, up_to, term_sound?, levels_sound?, sound?}
use Rattle.definitions.specs.Membership.{Division, Parts, undivided, divide, parts_by, divided_by, lent_term?, lent_terms, lent_divided}
use Rattle.laws.proofs.Tests.{true_is, and_left, and_right, and_both, every_append}
use Rattle.laws.proofs.Sound.{level_says, sound_says, sound_shown}
use Rattle.laws.proofs.Elements.{descends_last}
use Rattle.laws.proofs.Reading.{basis_state}
use Rattle.laws.proofs.Steady.{Steady, Ends, steady_fixed, steady_once, bind_steady, bind_fixed, bind_fixed_ends}
use Rattle.demands.specs.Demands.{sensible?}
use Rattle.members.specs.Members.{brought?, Bringable, division_of, quotients_of, Divides, DivisionRight, FirstBadTerm, LentRight}
use Rattle.members.proofs.Exactly.{done_is, number_is, place_is, value_is, done_not, refused_not, every_front, every_last}
use Rattle.members.proofs.Exactly.{front_descends, last_below}
use Rattle.members.proofs.Ending.{divide_steady}
use Rattle.members.proofs.Right.{division_right}

-- ## Term by term

module _ (lim : Limits) (q : Parameters) where
  abbrev terms_test : Vector → Bool
  terms_test v = every (term_sound? lim q q.s) v

  abbrev order_test : Vector → Bool
  order_test v = strictly_descending? (compare_over q.code []) v

  pub term_more : (u : Vector) (t : Term) → Bringable lim q u → T (lent_term? lim q u t) → Bringable lim q (u ++ t ∷ [])
  term_more u t h k =
      let sound = term_sound? lim q q.s t in
      let below = below? q.code (last u) t in
      let short = ltb (length u) lim.working in
      let later = and_right sound (below and short) k in
      let room : length u < lim.working = ltb→lt (length u) lim.working (and_right below short later) in
      let own = and_both sound true (and_left sound (below and short) k) tt in
      let terms = every_append (term_sound? lim q q.s) u (t ∷ []) (and_left (terms_test u) (order_test u) h.0) own in (
        and_both (terms_test (u ++ t ∷ [])) (order_test (u ++ t ∷ [])) terms
            (descends_last q.code u t (and_right (terms_test u) (order_test u) h.0) (and_left below short later)),
        omega (arith, length-append u (t ∷ []), room),
      )

  pub term_tested : (u : Vector) (t : Term) → Bringable lim q (u ++ t ∷ []) → T (lent_term? lim q u t)
  term_tested u t h =
      let below = below? q.code (last u) t in
      let short = ltb (length u) lim.working in
      let room : length u < lim.working = omega (arith, length-append u (t ∷ []), h.1) in
      and_both (term_sound? lim q q.s t) (below and short)
      (every_last (term_sound? lim q q.s) u t (and_left (terms_test (u ++ t ∷ [])) (order_test (u ++ t ∷ [])) h.0))
      (and_both below short (last_below q.code u t (and_right (terms_test (u ++ t ∷ [])) (order_test (u ++ t ∷ [])) h.0))
      (lt→ltb (length u) lim.working room))

  pub front : (a b : Vector) → Bringable lim q (a ++ b) → Bringable lim q a
  front a b h = (
    and_both (terms_test a) (order_test a)
        (every_front (term_sound? lim q q.s) a b (and_left (terms_test (a ++ b)) (order_test (a ++ b)) h.0))
        (front_descends q.code a b (and_right (terms_test (a ++ b)) (order_test (a ++ b)) h.0)),
    omega (arith, length-append a b, h.1),
  )

  front_one : (a : Vector) (t : Term) (b : Vector) → Bringable lim q (a ++ t ∷ b) → Bringable lim q (a ++ t ∷ [])
  front_one a t b h = front (a ++ t ∷ []) b (subst (Bringable lim q) (sym (append_assoc a (t ∷ []) b)) h)

  -- after the terms u, from the place on: all of v, or 23 at its first bad term
  pub data Lending (place : ℕ) (u v : Vector) (x : Result Vector) : Type 0 where
    takes : x ≡ done (u ++ v) → Bringable lim q (u ++ v) → Lending place u v x
    stops : (good : Vector) (t : Term) (later : Vector) → x ≡ refused 23 (place + length good) [] → v ≡ good ++ t ∷ later
        → Bringable lim q (u ++ good) → ¬ (Bringable lim q ((u ++ good) ++ t ∷ [])) → Lending place u v x

  pub lending : (place : ℕ) (u : Vector) → Bringable lim q u → (v : Vector) → Lending place u v (lent_terms lim q place u v)
  lending place u h [] = takes (ap done (sym (append-nil u))) (subst (Bringable lim q) (sym (append-nil u)) h)
  lending place u h (t ∷ later) = go (lent_term? lim q u t) refl (λ b. lending (suc place) (u ++ t ∷ []) b later)
    where
      over : (w : Vector) → (u ++ t ∷ []) ++ w ≡ u ++ t ∷ w
      over w = append_assoc u (t ∷ []) w

      on : (x : Result Vector) → Lending (suc place) (u ++ t ∷ []) later x → Lending place u (t ∷ later) x
      on x (takes e b) = takes (e ∙ ap done (over later)) (subst (Bringable lim q) (over later) b)
      on x (stops good y rest e w b n) =
          let z : suc place + length good ≡ place + length (t ∷ good) = omega arith in
          stops (t ∷ good) y rest (e ∙ ap (λ k. refused 23 k []) z) (ap (λ l. t ∷ l) w) (subst (Bringable lim q) (over good) b)
          (λ k. n (subst (λ l. Bringable lim q (l ++ y ∷ [])) (sym (over good)) k))

      go : (b : Bool) → lent_term? lim q u t ≡ b
          → (Bringable lim q (u ++ t ∷ []) → Lending (suc place) (u ++ t ∷ []) later (lent_terms lim q (suc place) (u ++ t ∷ []) later))
          → Lending place u (t ∷ later) (unless_refused b 23 place >>= λ x. lent_terms lim q (suc place) (u ++ t ∷ []) later)
      go true e ih =
          on (lent_terms lim q (suc place) (u ++ t ∷ []) later) (ih (term_more u t h (subst T (sym e) tt)))
      go false e ih =
          let z : place ≡ place + 0 = omega arith in
          stops [] t later (ap (λ k. refused 23 k []) z) refl (subst (Bringable lim q) (sym (append-nil u)) h)
          (λ k. subst T e (term_tested u t (subst (λ l. Bringable lim q (l ++ t ∷ [])) (append-nil u) k)))

  pub nothing_lent : Bringable lim q []
  nothing_lent = (tt, omega arith)

  -- what is taken may be brought
  pub lent_brings : (v w : Vector) → lent_terms lim q 1 [] v ≡ done w → (w ≡ v) × Bringable lim q v
  lent_brings v w e = go (lending 1 [] nothing_lent v)
    where
      go : Lending 1 [] v (lent_terms lim q 1 [] v) → (w ≡ v) × Bringable lim q v
      go (takes x b) = (done_is (sym e ∙ x), b)
      go (stops good t later x s b n) = absurd (done_not (sym e ∙ x))

  brings_lent : (v w : Vector) → (w ≡ v) × Bringable lim q v → lent_terms lim q 1 [] v ≡ done w
  brings_lent v w h = go (lending 1 [] nothing_lent v)
    where
      go : Lending 1 [] v (lent_terms lim q 1 [] v) → lent_terms lim q 1 [] v ≡ done w
      go (takes x b) = x ∙ ap done (sym h.0)
      go (stops good t later x s b n) = absurd (n (front_one good t later (subst (Bringable lim q) s h.1)))

  -- terms that may be brought are passed
  passed : (place : ℕ) (u good : Vector) → Bringable lim q (u ++ good) → (later : Vector)
      → lent_terms lim q place u (good ++ later) ≡ lent_terms lim q (place + length good) (u ++ good) later
  passed place u [] h later =
      let z : place ≡ place + 0 = omega arith in let y = sym (append-nil u) in λ i. lent_terms lim q (z i) (y i) later
  passed place u (t ∷ good) h later =
      let z : suc place + length good ≡ place + length (t ∷ good) = omega arith in
      let over = append_assoc u (t ∷ []) good in
      ap (λ b. unless_refused b 23 place >>= λ x. lent_terms lim q (suc place) (u ++ t ∷ []) (good ++ later))
      (true_is (lent_term? lim q u t) (term_tested u t (front_one u t good h)))
      ∙ passed (suc place) (u ++ t ∷ []) good (subst (Bringable lim q) (sym over) h) later ∙ (λ i. lent_terms lim q (z i) (over i) later)

  first_stops : (v : Vector) (place : ℕ) → FirstBadTerm lim q v place → lent_terms lim q 1 [] v ≡ refused 23 place []
  first_stops v place h =
      ap (lent_terms lim q 1 []) h.whole ∙ passed 1 [] h.good h.brings (h.term ∷ h.later)
      ∙ stopped (lent_term? lim q h.good h.term) (λ t. h.bad (term_more h.good h.term h.brings t))
      ∙ ap (λ k. refused 23 k []) (sym h.numbered)
    where
      stopped : (b : Bool) → (T b → ⊥)
          → (unless_refused b 23 (1 + length h.good) >>= λ x. lent_terms lim q (suc (1 + length h.good)) (h.good ++ h.term ∷ []) h.later)
          ≡ refused 23 (1 + length h.good) []
      stopped true n = absurd (n tt)
      stopped false n = refl

  stops_first : (v : Vector) (place : ℕ) → lent_terms lim q 1 [] v ≡ refused 23 place [] → FirstBadTerm lim q v place
  stops_first v place e = go (lending 1 [] nothing_lent v)
    where
      go : Lending 1 [] v (lent_terms lim q 1 [] v) → FirstBadTerm lim q v place
      go (takes x b) = absurd (done_not (sym x ∙ e))
      go (stops good t later x s b n) = record {
        good = good;
        term = t;
        later = later;
        whole = s;
        brings = b;
        numbered = place_is (sym e ∙ x);
        bad = n;
      }

-- ## Over a sound state

-- the elements of a sound state are a sound basis
pub basis_sound : (lim : Limits) (X : State) (f : Level) → T (sound? lim X) → up_to X 0 ≡ f ∷ [] → T (sound? lim (basis_state (X.parameters, f)))
basis_sound lim X f h e =
    let r = sound_says lim X h in
    sound_shown lim (basis_state (X.parameters, f)) (record {
      prime = r.prime;
      ranges = r.ranges;
      degrees = r.degrees;
      height = omega arith;
      levels = under X.levels (length X.levels - 1) e r.levels;
    })
  where
    under : (ls : List Level) (k : ℕ) → drop k ls ≡ f ∷ [] → T (levels_sound? lim X.parameters ls) → T (levels_sound? lim X.parameters (f ∷ []))
    under [] k d t = absurd t
    under (g ∷ ls) zero d t = subst (λ l. T (levels_sound? lim X.parameters l)) d t
    under (g ∷ []) (suc k) d t = absurd (let z : ◌≡◌ {A = ℕ} 0 1 = ap length (sym (drop-nil k) ∙ d) in omega arith)
    under (g ∷ l ∷ ls) (suc k) d t = under (l ∷ ls) k d (level_says lim X.parameters g l ls t).under

of_parts : Parts → Result Parts → Parts
of_parts a (done b) = b
of_parts a (refused number place value) = a
of_parts a unfinished = a

parts_are : {a b : Parts} → ◌≡◌ {A = Result Parts} (done a) (done b) → a ≡ b
unfolding of_parts
parts_are {a} e = ap (of_parts a) e

of_refusal : (ℕ → ℕ → ℕ) → Result Parts → ℕ
of_refusal f (done a) = 0
of_refusal f (refused number place value) = f number place
of_refusal f unfinished = 0

module _ {a i b j : ℕ} {v x : Vector} where
  parts_number : ◌≡◌ {A = Result Parts} (refused a i v) (refused b j x) → a ≡ b
  unfolding of_refusal
  parts_number e = ap (of_refusal (λ number place. number)) e

  parts_place : ◌≡◌ {A = Result Parts} (refused a i v) (refused b j x) → i ≡ j
  unfolding of_refusal
  parts_place e = ap (of_refusal (λ number place. place)) e

module _ (lim : Limits) (o : T (sensible? lim)) (X : State) (f : Level) (s : T (sound? lim X)) (e : up_to X 0 ≡ f ∷ []) (v : Vector) where
  abbrev q : Parameters
  q = X.parameters

  abbrev finish : Division → Result Parts
  finish d = done (quotients_of q f d, d.remainder)

  divided_is : (n : ℕ) → divided_by lim n X v ≡ (division_of lim q f v n >>= λ d. done (quotients_of q f d, d.remainder))
  divided_is n = ap (λ ls. divide (stage_over lim q.p q.code ls) n (undivided v) >>= λ d. done (parts_by (compare_over q.code ls) q.p d)) e

  taken_is : (n : ℕ) → lent_terms lim q 1 [] v ≡ done v → lent_divided lim n X v ≡ (division_of lim q f v n >>= finish)
  taken_is n x = ap (λ y. y >>= divided_by lim n X) x ∙ divided_is n

  stopped_is : (n place : ℕ) → lent_terms lim q 1 [] v ≡ refused 23 place [] → lent_divided lim n X v ≡ refused 23 place []
  stopped_is n place x = ap (λ y. y >>= divided_by lim n X) x

  abbrev DividedAs : Parts → Type 0
  DividedAs a = (d : Division) × (a ≡ (quotients_of q f d, d.remainder)) × Divides lim q f v d

  right : Bringable lim q v → DivisionRight lim q f v
  right b = division_right lim o q f (basis_sound lim X f s e) v b.0

  divides_at : (n : ℕ) (a : Parts) → lent_divided lim n X v ≡ done a → DividedAs a
  divides_at n a h = go (lending lim q 1 [] (nothing_lent lim q) v)
    where
      at : Bringable lim q v → (x : Result Division) → division_of lim q f v n ≡ x → (x >>= finish) ≡ done a → DividedAs a
      at b (done d) k z = (d, sym (parts_are z), (right b).divides n d k)
      at b (refused number place value) k z = absurd (let y : ◌≡◌ {A = ℕ} 0 1 = cc in omega arith)
      at b unfinished k z = absurd (let y : ◌≡◌ {A = ℕ} 0 1 = cc in omega arith)

      go : Lending lim q 1 [] v (lent_terms lim q 1 [] v) → DividedAs a
      go (takes x b) = at b (division_of lim q f v n) refl (sym (taken_is n x) ∙ h)
      go (stops good t later x w b m) =
          let z : ◌≡◌ {A = Result Parts} (refused 23 (1 + length good) []) (done a) = sym (stopped_is n (1 + length good) x) ∙ h in
          absurd (let y : ◌≡◌ {A = ℕ} 0 1 = cc in omega arith)

  abbrev RefusedBy : ℕ → ℕ → Type 0
  RefusedBy number place = ((number ≡ 23) × FirstBadTerm lim q v place) ⊎ (T (between 13 number 14) × (place ≡ 0) × Bringable lim q v)

  refused_at : (n number place : ℕ) (value : Vector) → lent_divided lim n X v ≡ refused number place value → RefusedBy number place
  refused_at n number place value h = go (lending lim q 1 [] (nothing_lent lim q) v)
    where
      at : Bringable lim q v → (x : Result Division) → division_of lim q f v n ≡ x → (x >>= finish) ≡ refused number place value → RefusedBy number place
      at b (done d) k z = absurd (let y : ◌≡◌ {A = ℕ} 0 1 = cc in omega arith)
      at b (refused i j w) k z =
          let (a, c, g) = (right b).refused_by n i j w k in
          inr (subst (λ m. T (between 13 m 14)) (parts_number z) a, sym (parts_place z) ∙ c, b)
      at b unfinished k z = absurd (let y : ◌≡◌ {A = ℕ} 0 1 = cc in omega arith)

      go : Lending lim q 1 [] v (lent_terms lim q 1 [] v) → RefusedBy number place
      go (takes x b) = at b (division_of lim q f v n) refl (sym (taken_is n x) ∙ h)
      go (stops good t later x w b m) =
          let z : ◌≡◌ {A = Result Parts} (refused 23 (1 + length good) []) (refused number place value) = sym (stopped_is n (1 + length good) x) ∙ h in
          inl (sym (parts_number z), stops_first lim q v place (x ∙ ap (λ k. refused 23 k []) (parts_place z)))

  lent_steady : Steady finished? (λ n. lent_divided lim n X v)
  lent_steady =
      let S = stage_over lim q.p q.code (up_to X 0) in
      bind_steady (λ k. lent_terms lim q 1 [] v) (λ k w. divide S k (undivided w) >>= λ d. done (parts_by S.above S.reduction.p d))
      (steady_fixed finished? (lent_terms lim q 1 [] v)) λ w.
      bind_fixed (λ d. done (parts_by S.above S.reduction.p d)) (λ k. divide S k (undivided w)) (divide_steady S (undivided w))

  lent_ends : Ends finished? (λ n. lent_divided lim n X v)
  lent_ends = go (lending lim q 1 [] (nothing_lent lim q) v)
    where
      go : Lending lim q 1 [] v (lent_terms lim q 1 [] v) → Ends finished? (λ n. lent_divided lim n X v)
      go (takes x b) =
          let (n, t) = bind_fixed_ends finish (division_of lim q f v) (right b).ends (λ d. tt) in
          (n, subst (λ y. T (finished? y)) (sym (taken_is n x)) t)
      go (stops good t later x w b m) = (0, subst (λ y. T (finished? y)) (sym (stopped_is 0 (1 + length good) x)) tt)

  pub lent_right : LentRight lim X f v
  lent_right = record {
    taken = λ w. (lent_brings lim q v w, brings_lent lim q v w);
    twenty_three = λ place. (stops_first lim q v place, first_stops lim q v place);
    divides = divides_at;
    refused_by = refused_at;
    ends = lent_ends;
    once = λ n m s t. steady_once finished? (λ k. lent_divided lim k X v) lent_steady n m s t;
  }
