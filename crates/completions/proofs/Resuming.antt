-- With an element more at the end, what was divided to zero is divided to zero: by the lowest-index rule each step is the same.
use mathlib.Core.Path.{◌≡◌, refl, sym, ap, ◌∙◌, subst}
use mathlib.Core.Bool.{Bool, true, false}
use mathlib.Core.Option.{Option, none, some}
use mathlib.Core.List.{List, [], ◌∷◌, ◌++◌, append_assoc}
use Prim.Native.Nat.{ℕ, zero, suc, ◌+◌, ◌-◌, ◌<◌, ◌≤◌}
use native.Mathlib.Omega.{arith}
use lib.Dec.{T, leb}
use lib.ListN.{length, get_or, drop, get_or-append}
use Rattle.definitions.specs.Limits.{Limits}
use Rattle.definitions.specs.Lists.{◌and◌}
use Rattle.definitions.specs.Field.{times, inverse, minus}
use Rattle.definitions.specs.Monomial.{Exponents, Monomial, Term, Vector, Level, quotient, fits?, no_term, divides_monomial?, leading_term, leading}
use Rattle.definitions.specs.Monomial.{leading_monomials, vector_of}
use Rattle.definitions.specs.Order.{compare_over}
use Rattle.definitions.specs.Reducer.{Answer, reducer, lower_order, heads, answer_from, answer}
use Rattle.definitions.specs.Frame.{minimal, generators, with_component, frame_of, frame_from, frame}
use Rattle.definitions.specs.Result.{Result, done, refused, unfinished, finished?, ◌>>=◌}
use Rattle.definitions.specs.Vectors.{store}
use Rattle.definitions.specs.Stage.{Stage, stage_over}
use Rattle.definitions.specs.Run.{Run, Step, on, end, greatest, accepting_strategy, if_fits, multiple, add_products, start}
use Rattle.definitions.specs.Run.{reduced}
use Rattle.definitions.specs.Run.{by_answer, by_pick, step, continued, runs, run}
use Rattle.definitions.specs.Lifting.{if_few, accepting_place, at_frame_term, accept_from, accept}
use Rattle.definitions.specs.Problem.{Parameters}
use Rattle.definitions.specs.State.{State}
use Rattle.definitions.specs.Calls.{accepted}
use Rattle.laws.proofs.Steady.{steady_from}
use Rattle.laws.proofs.Bound.{accepted_steady}
use Rattle.completions.specs.Resuming.{accept_behind, Resumes}

-- ## Results

abbrev number_of : {A : Type 0} → Result A → ℕ
number_of (done a) = 0
number_of (refused number place value) = number
number_of unfinished = 0

abbrev place_of : {A : Type 0} → Result A → ℕ
place_of (done a) = 0
place_of (refused number place value) = place
place_of unfinished = 0

abbrev Done : {A : Type 0} → Result A → Type 0
Done (done a) = Unit {0}
Done (refused number place value) = ⊥
Done unfinished = ⊥

-- ## The reducer

heads_more : (p : ℕ) (f g : Level) → heads p (f ++ g) ≡ heads p f ++ heads p g
heads_more p [] g = refl
heads_more p (u ∷ f) g = ap (λ z. (inverse p (leading_term u).0, (leading_term u).1) ∷ z) (heads_more p f g)

length_heads : (p : ℕ) (f : Level) → length (heads p f) ≡ length f
length_heads p [] = refl
length_heads p (u ∷ f) = ap suc (length_heads p f)

abbrev index : Answer → ℕ
index (reducer i c q) = i
index lower_order = 0

abbrev Reducing : Answer → Type 0
Reducing (reducer i c q) = Unit {0}
Reducing lower_order = ⊥

-- a reducer among the first heads is the reducer, and one of these
record Found (p j : ℕ) (hs more : Vector) (t : Term) (i c : ℕ) (q : Exponents) : Type 0 where
  same : answer_from p j (hs ++ more) t ≡ reducer i c q
  from : j ≤ i
  to : i < j + length hs

found : (p j : ℕ) (hs more : Vector) (t : Term) (i c : ℕ) (q : Exponents) → answer_from p j hs t ≡ reducer i c q → Found p j hs more t i c q
found p j [] more t i c q e = absurd (subst Reducing (sym e) tt)
found p j (h ∷ hs) more t i c q e =
    let x = go (divides_monomial? h.1 t.1) e (λ x. found p (suc j) hs more t i c q x) in
    record { same = x.0; from = x.1.0; to = x.1.1 }
  where
    go : (b : Bool)
        → elim b [ true ↦ reducer j (times p t.0 h.0) (quotient t.1.0 h.1.0) | false ↦ answer_from p (suc j) hs t ] ≡ reducer i c q
        → (answer_from p (suc j) hs t ≡ reducer i c q → Found p (suc j) hs more t i c q)
        → (◌≡◌ {A = Answer} (elim b [
          | true ↦ reducer j (times p t.0 h.0) (quotient t.1.0 h.1.0)
          | false ↦ answer_from p (suc j) (hs ++ more) t
        ]) (reducer i c q)) × ((j ≤ i) × (i < j + suc (length hs)))
    go true e later = let k = ap index e in (e, (omega (arith, k), omega (arith, k)))
    go false e later =
        let x = later e in
        let a = x.from in
        let b = x.to in
        (x.same, (omega (arith, a), omega (arith, b)))

-- ## One run

-- frame terms of f_1 to f_r
Within : ℕ → List Monomial → Type 0
Within r [] = Unit {0}
Within r (m ∷ ms) = ((1 ≤ m.1) × (m.1 ≤ r)) × Within r ms

module _ (lim : Limits) (p code : ℕ) (f : Level) (v : Vector) where
  abbrev S : Stage
  S = stage_over lim p code (f ∷ [])

  abbrev S' : Stage
  S' = stage_over lim p code ((f ++ v ∷ []) ∷ [])

  -- products do not look at the heads where none is dropped
  products_same : (c : ℕ) (q : Exponents) (u w : Vector) → add_products S.reduction false c q u w ≡ add_products S'.reduction false c q u w
  products_same c q [] w = refl
  products_same c q (t ∷ u) w = go (fits? lim.exponent (multiple p c q t).1.0) (λ w. products_same c q u w)
    where
      go : (b : Bool) → ((w : Vector) → add_products S.reduction false c q u w ≡ add_products S'.reduction false c q u w)
          → (if_fits b S.reduction false (multiple p c q t) w >>= λ w. add_products S.reduction false c q u w)
          ≡ (if_fits b S'.reduction false (multiple p c q t) w >>= λ w. add_products S'.reduction false c q u w)
      go false ih = refl
      go true ih = stored (store lim.working p (multiple p c q t) w) ih
        where
          stored : (x : Result Vector) → ((w : Vector) → add_products S.reduction false c q u w ≡ add_products S'.reduction false c q u w)
              → (x >>= λ w. add_products S.reduction false c q u w) ≡ (x >>= λ w. add_products S'.reduction false c q u w)
          stored (done w) ih = ih w
          stored (refused number place value) ih = refl
          stored unfinished ih = refl

  vector_same : (i : ℕ) → 1 ≤ i → i ≤ length f → vector_of (f ++ v ∷ []) i ≡ vector_of f i
  vector_same zero l h = absurd (omega (arith, l))
  vector_same (suc i) l h = get_or-append f (v ∷ []) [] i (omega (arith, h))

  -- a multiple of an old element
  reduced_same : (r : Run) (j c : ℕ) (q : Exponents) → 1 ≤ j → j ≤ length f
      → reduced S (accepting_strategy S) r j c q ≡ reduced S' (accepting_strategy S') r j c q
  reduced_same r j c q l h = stored (store lim.vector p (c, (q, j)) r.vector)
    where
      stored : (x : Result Vector)
          → (x >>= λ w. add_products S.reduction false c q (vector_of f j) r.value >>= λ u. done (on (record { value = u; vector = w })))
          ≡ (x >>= λ w. add_products S'.reduction false c q (vector_of (f ++ v ∷ []) j) r.value >>= λ u. done (on (record { value = u; vector = w })))
      stored (done w) = ap (λ x. x >>= λ u. done (on (record { value = u; vector = w })))
          (products_same c q (vector_of f j) r.value ∙ ap (λ z. add_products S'.reduction false c q z r.value) (sym (vector_same j l h)))
      stored (refused number place value) = refl
      stored unfinished = refl

  -- a step that is not refused is the same
  step_same : (r : Run) → Done (step S (accepting_strategy S) r) → step S (accepting_strategy S) r ≡ step S' (accepting_strategy S') r
  step_same r = picked (greatest (compare_over code []) r.value)
    where
      answered : (i : ℕ) (a : Answer) → answer p (heads p f) (get_or r.value i no_term) ≡ a → Done (by_answer S (accepting_strategy S) r i a)
          → by_answer S (accepting_strategy S) r i a
          ≡ by_answer S' (accepting_strategy S') r i (answer p (heads p (f ++ v ∷ [])) (get_or r.value i no_term))
      answered i (reducer j c q) e d =
          let x = found p 1 (heads p f) (heads p (v ∷ [])) (get_or r.value i no_term) j c q e in
          let a = x.from in
          let b = x.to in
          let l = length_heads p f in
          reduced_same r j (minus p c) q a (omega (arith, b, l))
          ∙ ap (by_answer S' (accepting_strategy S') r i)
          (sym (ap (λ z. answer p z (get_or r.value i no_term)) (heads_more p f (v ∷ [])) ∙ x.same))
      answered i lower_order e d = absurd d

      picked : (o : Option ℕ) → Done (by_pick S (accepting_strategy S) r o) → by_pick S (accepting_strategy S) r o ≡ by_pick S' (accepting_strategy S') r o
      picked none d = refl
      picked (some i) d = answered i (answer p (heads p f) (get_or r.value i no_term)) refl d

  -- what comes to zero comes to zero
  runs_kept : (n : ℕ) (r : Run) → Done (runs S (accepting_strategy S) n r) → Done (runs S' (accepting_strategy S') n r)
  runs_kept zero r d = d
  runs_kept (suc n) r d =
      subst (λ x. Done (continued S' (λ r'. runs S' (accepting_strategy S') n r') x))
      (step_same r (gone (step S (accepting_strategy S) r) d))
      (go (step S (accepting_strategy S) r) d (λ r'. runs_kept n r'))
    where
      gone : (x : Result Step) → Done (continued S (λ r'. runs S (accepting_strategy S) n r') x) → Done x
      gone (done s) d = tt
      gone (refused number place value) d = d
      gone unfinished d = d

      go : (x : Result Step) → Done (continued S (λ r'. runs S (accepting_strategy S) n r') x)
          → ((r' : Run) → Done (runs S (accepting_strategy S) n r') → Done (runs S' (accepting_strategy S') n r'))
          → Done (continued S' (λ r'. runs S' (accepting_strategy S') n r') x)
      go (done (on r')) d ih = ih r' d
      go (done (end u)) d ih = tt
      go (refused number place value) d ih = d
      go unfinished d ih = d

  run_kept : (n : ℕ) (m : Monomial) → 1 ≤ m.1 → m.1 ≤ length f → Done (run S (accepting_strategy S) n m) → Done (run S' (accepting_strategy S') n m)
  run_kept n m l h d =
      subst (λ x. Done (x >>= λ r. runs S' (accepting_strategy S') n r)) begun (go (start S (accepting_strategy S) m) d)
    where
      begun : start S (accepting_strategy S) m ≡ start S' (accepting_strategy S') m
      begun = ap (λ x. x >>= λ w. done (record { value = w; vector = (1, m) ∷ [] }))
          (products_same 1 m.0 (vector_of f m.1) [] ∙ ap (λ z. add_products S'.reduction false 1 m.0 z []) (sym (vector_same m.1 l h)))

      go : (x : Result Run) → Done (x >>= λ r. runs S (accepting_strategy S) n r) → Done (x >>= λ r. runs S' (accepting_strategy S') n r)
      go (done r) d = runs_kept n r d
      go (refused number place value) d = d
      go unfinished d = d

  -- ## The frame terms before the one where 9 came

  kept : (n i t : ℕ) (value : Vector) (ms more : List Monomial) → Within (length f) ms → accept_from S n i ms ≡ refused 9 t value
      → (i ≤ t) × (accept_from S' n i (ms ++ more) ≡ accept_from S' n t (drop (t - i) (ms ++ more)))
  unfolding Within
  kept n i t value [] more w e = absurd (subst Done e tt)
  kept n i t value (m ∷ ms) more w e =
      go (run S (accepting_strategy S) n m) e (run S' (accepting_strategy S') n m) (run_kept n m w.0.0 w.0.1) refl
      (λ x. kept n (suc i) t value ms more w.1 x)
    where
      go : (x : Result Vector) → (at_frame_term i x >>= λ u. accept_from S n (suc i) ms) ≡ refused 9 t value
          → (y : Result Vector) → (Done x → Done y) → run S' (accepting_strategy S') n m ≡ y
          → (accept_from S n (suc i) ms ≡ refused 9 t value
          → (suc i ≤ t) × (accept_from S' n (suc i) (ms ++ more) ≡ accept_from S' n t (drop (t - suc i) (ms ++ more))))
          → (i ≤ t) × (accept_from S' n i (m ∷ (ms ++ more)) ≡ accept_from S' n t (drop (t - i) (m ∷ (ms ++ more))))
      go (done u) e (done w) d z ih =
          let x = ih e in
          let l = x.0 in
          let k : t - i ≡ suc (t - suc i) = omega (arith, l) in (
            omega (arith, l),
            ap (λ y. at_frame_term i y >>= λ u. accept_from S' n (suc i) (ms ++ more)) z ∙ x.1
                ∙ ap (λ k. accept_from S' n t (drop k (m ∷ (ms ++ more)))) (sym k),
          )
      go (done u) e (refused number place w) d z ih = absurd (d tt)
      go (done u) e unfinished d z ih = absurd (d tt)
      go (refused number place u) e y d z ih =
          let at : i ≡ t = ap (λ k. accepting_place i k) (sym (ap number_of e)) ∙ ap place_of e in
          let none_left : 0 ≡ t - i = omega (arith, at) in (
            omega (arith, at),
            ap (λ k. accept_from S' n k (m ∷ (ms ++ more))) at ∙ ap (λ k. accept_from S' n t (drop k (m ∷ (ms ++ more)))) none_left,
          )
      go unfinished e y d z ih = absurd (subst (λ x. T (finished? x)) (sym e) tt)

-- ## The frame

within_component : (f : ℕ) (i : ℕ) (gs : List Exponents) → 1 ≤ i → i ≤ f → Within f (with_component i gs)
unfolding Within
within_component f i [] a b = tt
within_component f i (g ∷ gs) a b = ((a, b), within_component f i gs a b)

within_append : (f : ℕ) (l m : List Monomial) → Within f l → Within f m → Within f (l ++ m)
unfolding Within
within_append f [] m a b = b
within_append f (x ∷ l) m a b = (a.0, within_append f l m a.1 b)

within_from : (code f i : ℕ) (earlier ms : List Monomial) → 1 ≤ i → i + length ms ≤ suc f → Within f (frame_from code i earlier ms)
unfolding Within
within_from code f i earlier [] a b = tt
within_from code f i earlier (m ∷ ms) a b =
    within_append f (frame_of code i earlier m) (frame_from code (suc i) (m ∷ earlier) ms)
    (within_component f i (minimal (generators code earlier m)) a (omega (arith, b)))
    (within_from code f (suc i) (m ∷ earlier) ms (omega (arith, a)) (omega (arith, b)))

-- the frame terms of a last element come last
frame_more : (code i : ℕ) (earlier ms : List Monomial) (m : Monomial)
    → (more : List Monomial) × (frame_from code i earlier (ms ++ m ∷ []) ≡ frame_from code i earlier ms ++ more)
frame_more code i earlier [] m = (frame_of code i earlier m ++ [], refl)
frame_more code i earlier (l ∷ ms) m =
    let (more, e) = frame_more code (suc i) (l ∷ earlier) ms m in (
      more,
      ap (λ z. frame_of code i earlier l ++ z) e
          ∙ sym (append_assoc (frame_of code i earlier l) (frame_from code (suc i) (l ∷ earlier) ms) more),
    )

leading_more : (f : Level) (v : Vector) → leading_monomials (f ++ v ∷ []) ≡ leading_monomials f ++ leading v ∷ []
leading_more [] v = refl
leading_more (u ∷ f) v = ap (λ z. leading u ∷ z) (leading_more f v)

length_leading : (f : Level) → length (leading_monomials f) ≡ length f
length_leading [] = refl
length_leading (u ∷ f) = ap suc (length_leading f)

-- ## Acceptance

module _ (lim : Limits) (p code : ℕ) (f : Level) (v value : Vector) (t n : ℕ) where
  abbrev terms : List Monomial
  terms = frame (lim.numbering code) (leading_monomials f)

  abbrev terms' : List Monomial
  terms' = frame (lim.numbering code) (leading_monomials (f ++ v ∷ []))

  accept_resumes : accept lim p code f n ≡ refused 9 t value → accept lim p code (f ++ v ∷ []) n ≡ accept_behind lim p code (f ++ v ∷ []) (t - 1) n
  accept_resumes e = counted (leb (length terms) lim.vectors) e (leb (length terms') lim.vectors)
    where
      counted : (a : Bool) → (if_few a terms >>= λ ms. accept_from (S lim p code f v) n 1 ms) ≡ refused 9 t value → (b : Bool)
          → (if_few b terms' >>= λ ms. accept_from (S' lim p code f v) n 1 ms) ≡
          (if_few b terms' >>= λ ms. accept_from (S' lim p code f v) n (t - 1 + 1) (drop (t - 1) ms))
      counted a e false = refl
      counted false e true = let k = ap number_of e in absurd (omega (arith, k))
      counted true e true =
          let (more, g) = frame_more (lim.numbering code) 1 [] (leading_monomials f) (leading v) in
          let h : terms' ≡ terms ++ more = ap (frame (lim.numbering code)) (leading_more f v) ∙ g in
          let l = length_leading f in
          let w = within_from (lim.numbering code) (length f) 1 [] (leading_monomials f) (omega arith) (omega (arith, l)) in
          let k = kept lim p code f v n 1 t value terms more w e in
          let l = k.0 in
          let i : t ≡ t - 1 + 1 = omega (arith, l) in
          ap (accept_from (S' lim p code f v) n 1) h ∙ k.1
          ∙ ap (λ j. accept_from (S' lim p code f v) n j (drop (t - 1) (terms ++ more))) i
          ∙ ap (λ z. accept_from (S' lim p code f v) n (t - 1 + 1) (drop (t - 1) z)) (sym h)

-- ## Calls

-- what refuses after acceptance is acceptance
refused_before : (X : State) (number place : ℕ) (value : Vector) (x : Result (Unit {0})) → (x >>= λ u. done X) ≡ refused number place value
    → x ≡ refused number place value
refused_before X number place value (done u) e = absurd (subst Done e tt)
refused_before X number place value (refused number' place' value') e = ap turned e
  where
    turned : Result State → Result (Unit {0})
    turned (done Y) = unfinished
    turned (refused number place value) = refused number place value
    turned unfinished = unfinished
refused_before X number place value unfinished e = absurd (subst (λ x. T (finished? x)) (sym e) tt)

pub resumes : (lim : Limits) → Resumes lim
resumes lim = record {
  resumes = λ q f v value t n k e l.
      let same : accepted lim k (q, f) ≡ accepted lim n (q, f) = later q f n k l (subst (λ x. T (finished? x)) (sym e) tt) in
      ap (λ x. x >>= λ u. done (record { parameters = q; levels = (f ++ v ∷ []) ∷ [] }))
      (accept_resumes lim q.p q.code f v value t k
      (refused_before (record { parameters = q; levels = f ∷ [] }) 9 t value (accept lim q.p q.code f k) (same ∙ e)));
  begins = λ q f n. refl;
}
  where
    later : (q : Parameters) (f : Level) (n k : ℕ) → n ≤ k → T (finished? (accepted lim n (q, f))) → accepted lim k (q, f) ≡ accepted lim n (q, f)
    later q f n k l t =
        let d : k ≡ n + (k - n) = omega (arith, l) in
        ap (λ i. accepted lim i (q, f)) d ∙ steady_from finished? (λ i. accepted lim i (q, f)) (accepted_steady lim (q, f)) n (k - n) t
