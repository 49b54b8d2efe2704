-- A level over sound levels, as the theory sees it: its family, and the reducer of each monomial, which is the definitions' own answer.
use mathlib.Core.Path.{◌≡◌, refl, sym, ap, ◌∙◌, subst}
use mathlib.Core.Logic.{◌⊎◌, inl, inr}
use mathlib.Core.Bool.{Bool, true, false}
use mathlib.Core.List.{List, [], ◌∷◌}
use Prim.Native.Nat.{ℕ, zero, suc, ◌+◌, ◌<◌, ◌≤◌}
use native.Mathlib.Omega.{arith}
use lib.Dec.{T, eqb, eqb→eq, eqb_refl}
use lib.ListN.{length, get_or}
use Rattle.theory.specs.Laws.{Scalars, Level}
use Rattle.theory.specs.Vec.{All, Lead}
use Rattle.theory.specs.Syzygy.{Family}
use Rattle.theory.specs.Orders.{ExpM}
use Rattle.theory.specs.Reckon.{Reducer, Lower, Reducers, lift}
use Rattle.theory.specs.Stage.{Finite, family}
use Rattle.theory.specs.Modular.{ModP}
use Rattle.theory.specs.Canon.{Canonical}
use Rattle.theory.proofs.Vec
use Rattle.definitions.specs.Field.{times, inverse}
use Rattle.definitions.specs.Monomial.{Monomial, Vector, quotient, divides?, divides_monomial?, leading_term}
use Rattle.definitions.specs.Reducer.{Answer, reducer, lower_order, lower_order?, heads, answer, answer_from}
use Rattle.laws.proofs.Modular.{Prime}
use Rattle.laws.proofs.Tests.{and_left, and_right, and_both}
use Rattle.demands.proofs.Exponents.{E, out, over, quotient_out, divides_out, multiple_out}
use Rattle.demands.proofs.Levels.{Mono, TVec, TLevel, mono, vec, flat, cons?, head, lm, module_over, Has, Grounded}
use Rattle.demands.proofs.Coefficients.{times_one_right}

-- ## A monomial divides another

-- q · l = x, or there is no such q
pub data Quotient (n : ℕ) (l x : Mono n) : Bool → Type 0 where
  divides : (q : E n) → quotient (out n x.0) (out n l.0) ≡ out n q → ((ExpM n).mulE q l.0, l.1) ≡ x → Quotient n l x true
  parts : ((q : E n) → ((ExpM n).mulE q l.0, l.1) ≡ x → ⊥) → Quotient n l x false

-- a monomial that divides
pub divided_by : (n : ℕ) (l x : Mono n) → T (divides_monomial? (mono n l) (mono n x)) → ((ExpM n).mulE (over n x.0 l.0) l.0, l.1) ≡ x
divided_by n l x t =
    let c : suc l.1 ≡ suc x.1 = eqb→eq (suc l.1) (suc x.1)
    (and_left (eqb (suc l.1) (suc x.1)) (divides? (out n l.0) (out n x.0)) t) in
    let e : l.1 ≡ x.1 = omega arith in
    λ i. (divides_out n l.0 x.0 (and_right (eqb (suc l.1) (suc x.1)) (divides? (out n l.0) (out n x.0)) t) i, e i)

-- its multiples are divided
pub divides_multiple : (n : ℕ) (l x : Mono n) (q : E n) → ((ExpM n).mulE q l.0, l.1) ≡ x → T (divides_monomial? (mono n l) (mono n x))
divides_multiple n l x q e =
    and_both (eqb (suc l.1) (suc x.1)) (divides? (out n l.0) (out n x.0))
    (subst (λ z. T (eqb (suc l.1) (suc z))) (ap (λ z. z.1) e) (eqb_refl (suc l.1))) (multiple_out n q l.0 x.0 (ap (λ z. z.0) e))

pub divides_says : (n : ℕ) (l x : Mono n) → Quotient n l x (divides_monomial? (mono n l) (mono n x))
divides_says n l x = go (divides_monomial? (mono n l) (mono n x)) (divided_by n l x) (divides_multiple n l x)
  where
    go : (s : Bool) → (T s → ((ExpM n).mulE (over n x.0 l.0) l.0, l.1) ≡ x) → ((q : E n) → ((ExpM n).mulE q l.0, l.1) ≡ x → T s)
        → Quotient n l x s
    go true h k = divides (over n x.0 l.0) (quotient_out n x.0 l.0) (h tt)
    go false h k = parts (λ q e. k q e)

-- ## What an answer says

module _ (n p : ℕ) where
  abbrev pub head_coef : TVec n → ℕ
  head_coef [] = 0
  head_coef (t ∷ v) = t.0

  -- each vector has a leading term
  abbrev pub Somes : TLevel n → Type 0
  Somes f = (j : ℕ) → j < length f → T (cons? n (get_or f j []))

  -- m · f_i leads with x
  abbrev pub Hits : TLevel n → Mono n → Mono n → Type 0
  Hits f x y = ((ExpM n).mulE y.0 (lm n f y.1).0, (lm n f y.1).1) ≡ x

  -- the answer to c · x, the first vector of f being number k + 1
  pub data Searched (f : TLevel n) (x : Mono n) (c k : ℕ) : Answer → Type 0 where
    search_hit : (y : Mono n) → y.1 < length f → Hits f x y → ((z : Mono n) → z.1 < length f → Hits f x z → y.1 ≤ z.1) → {j d : ℕ} {q : List ℕ}
        → j ≡ suc (k + y.1) → d ≡ times p c (inverse p (head_coef (get_or f y.1 []))) → q ≡ out n y.0 → Searched f x c k (reducer j d q)
    search_miss : ((y : Mono n) → y.1 < length f → Hits f x y → ⊥) → Searched f x c k lower_order

  leading_is : (v : TVec n) → T (cons? n v) → leading_term (vec n v) ≡ (head_coef v, mono n (head n v))
  leading_is [] t = absurd t
  leading_is (u ∷ v) t = refl

  pub searched : (k : ℕ) (f : TLevel n) → Somes f → (c : ℕ) (x : Mono n) → Searched f x c k (answer_from p (suc k) (heads p (flat n f)) (c, mono n x))
  searched k [] h c x = search_miss (λ y l e. omega arith)
  searched k (v ∷ f) h c x =
      subst (λ t. Searched (v ∷ f) x c k (elim (divides_monomial? t.1 (mono n x)) [
        | true ↦ reducer (suc k) (times p c (inverse p t.0)) (quotient (out n x.0) t.1.0)
        | false ↦ answer_from p (suc (suc k)) (heads p (flat n f)) (c, mono n x)
      ])) (sym (leading_is v (h 0 (omega arith))))
      (go (divides_monomial? (mono n (head n v)) (mono n x)) (divides_says n (head n v) x) (searched (suc k) f (λ j l. h (suc j) (omega arith)) c x))
    where
      -- number 0, or a later one
      place : (y : Mono n) → Hits (v ∷ f) x y
          → ((((ExpM n).mulE y.0 (head n v).0, (head n v).1) ≡ x) × (y.1 ≡ 0)) ⊎ ((i : ℕ) × (y.1 ≡ suc i) × Hits f x (y.0, i))
      place (q, zero) e = inl (e, refl)
      place (q, suc i) e = inr (i, refl, e)

      go : (s : Bool) → Quotient n (head n v) x s → {a : Answer} → Searched f x c (suc k) a
          → Searched (v ∷ f) x c k (elim s [
            | true ↦ reducer (suc k) (times p c (inverse p (head_coef v)))
                (quotient (out n x.0) (out n (head n v).0))
            | false ↦ a
          ])
      go true (divides q i e) s = let j : suc k ≡ suc (k + 0) = omega arith in search_hit (q, 0) (omega arith) e (λ z l h. omega arith) j refl i
      go false (parts m) (search_hit y l e low {j = i} j d q) =
          let j' : i ≡ suc (k + suc y.1) = omega arith in
          search_hit (y.0, suc y.1) (omega arith) e (λ z i h. later z i (place z h)) j' d q
        where
          later : (z : Mono n) → z.1 < suc (length f)
              → ((((ExpM n).mulE z.0 (head n v).0, (head n v).1) ≡ x) × (z.1 ≡ 0)) ⊎ ((i : ℕ) × (z.1 ≡ suc i) × Hits f x (z.0, i))
              → suc y.1 ≤ z.1
          later z i (inl w) = absurd (m z.0 w.0)
          later z i (inr (j, w, u)) = let g : y.1 ≤ j = low (z.0, j) (omega arith) u in omega arith
      go false (parts m) (search_miss o) = search_miss (λ z i h. never z i (place z h))
        where
          never : (z : Mono n) → z.1 < suc (length f)
              → ((((ExpM n).mulE z.0 (head n v).0, (head n v).1) ≡ x) × (z.1 ≡ 0)) ⊎ ((i : ℕ) × (z.1 ≡ suc i) × Hits f x (z.0, i)) → ⊥
          never z i (inl w) = m z.0 w.0
          never z i (inr (j, w, u)) = o (z.0, j) (omega arith) u

-- the answer to c · x is c times that to x
abbrev pub rescaled : ℕ → ℕ → Answer → Answer
rescaled p c (reducer j d q) = reducer j (times p c d) q
rescaled p c lower_order = lower_order

pub answer_rescaled : (p c j : ℕ) (hs : Vector) (m : Monomial) → answer_from p j hs (c, m) ≡ rescaled p c (answer_from p j hs (1, m))
answer_rescaled p c j [] m = refl
answer_rescaled p c j (h ∷ hs) m = go (divides_monomial? h.1 m) (answer_rescaled p c (suc j) hs m)
  where
    go : (s : Bool) → answer_from p (suc j) hs (c, m) ≡ rescaled p c (answer_from p (suc j) hs (1, m))
        → elim s [ true ↦ reducer j (times p c h.0) (quotient m.0 h.1.0) | false ↦ answer_from p (suc j) hs (c, m) ]
        ≡ rescaled p c (elim s [ true ↦ reducer j (times p 1 h.0) (quotient m.0 h.1.0) | false ↦ answer_from p (suc j) hs (1, m) ])
    go true e = ap (λ d. reducer j d (quotient m.0 h.1.0)) (sym (times_one_right p c h.0))
    go false e = e

-- ## The setting

-- a level f over the levels b: each vector of f has a leading term, is descending with coefficients 1 .. p − 1, and has its components in range
pub record Setting : Type 0 where
  pub n : ℕ
  pub p : ℕ
  pub P : Prime p
  pub code : ℕ
  pub f : TLevel n
  pub b : List (TLevel n)
  pub somes : Somes n p f
  pub canons : (j : ℕ) → j < length f → Canonical (ModP p P) (module_over n code b) (get_or f j [])
  pub inside : (j : ℕ) → j < length f → All (ModP p P) (Has n b) (get_or f j [])
  pub grounded : Grounded n (f ∷ b)

module _ (Z : Setting) where
  abbrev pub S : Scalars
  S = ModP Z.p Z.P

  -- the module in which f lies
  abbrev pub L : Level (ExpM Z.n)
  L = module_over Z.n Z.code Z.b

  abbrev pub lead_at : (v : TVec Z.n) → Canonical S L v → T (cons? Z.n v) → Lead S L v (head Z.n v)
  lead_at [] k t = absurd t
  lead_at (u ∷ v) k t = record { coef = u.0; rest = v; nonzero = k.0; smaller = k.2; split = Vec.same_refl S }

  abbrev pub A : Finite S L
  A = record {
    f = λ j. get_or Z.f j [];
    lm = lm Z.n Z.f;
    count = length Z.f;
    lead = λ j l. lead_at (get_or Z.f j []) (Z.canons j l) (Z.somes j l);
  }

  abbrev pub F : Family S L
  F = family S L A

  -- the definitions' heads, and their answer to a monomial
  abbrev pub hs : Vector
  hs = heads Z.p (flat Z.n Z.f)

  abbrev pub answer_to : Mono Z.n → Answer
  answer_to x = answer Z.p hs (1, mono Z.n x)

  -- ## The reducer of a monomial is what the definitions answer

  pub data Answered (x : Mono Z.n) : Answer → Type 0 where
    hit : (r : Reducer S L F x) → Answered x (reducer (suc r.at.1) (times Z.p 1 (inverse Z.p (F.lead r.at.1 r.dom).coef))
        (out Z.n r.at.0))
    miss : Lower S L F x → Answered x lower_order

  lead_coef : (v : TVec Z.n) (k : Canonical S L v) (t : T (cons? Z.n v)) → head_coef Z.n Z.p v ≡ (lead_at v k t).coef
  lead_coef [] k t = absurd t
  lead_coef (u ∷ v) k t = refl

  pub answered : (x : Mono Z.n) → Answered x (answer_to x)
  answered x = go (searched Z.n Z.p 0 Z.f Z.somes 1 x)
    where
      go : {a : Answer} → Searched Z.n Z.p Z.f x 1 0 a → Answered x a
      go (search_hit y l e low {j} {d} {q} ej ed eq) = subst (Answered x) (λ i. reducer (number i) (coefficient i) (sym eq i)) (hit r)
        where
          r : Reducer S L F x
          r = record { at = y; dom = l; hits = e; lowest = low }

          number : suc y.1 ≡ j
          number = omega arith

          coefficient : times Z.p 1 (inverse Z.p (F.lead y.1 l).coef) ≡ d
          coefficient = sym (ed ∙ ap (λ z. times Z.p 1 (inverse Z.p z))
              (lead_coef (get_or Z.f y.1 []) (Z.canons y.1 l) (Z.somes y.1 l)))
      go (search_miss o) = miss o

  abbrev pub red_by : (x : Mono Z.n) {a : Answer} → Answered x a → Reducer S L F x ⊎ Lower S L F x
  red_by x (hit r) = inl r
  red_by x (miss o) = inr o

  abbrev pub red : Reducers S L F
  red x = red_by x (answered x)

  -- the lifting of a monomial
  abbrev pub up : Mono Z.n → TVec Z.n
  up x = lift S L F red x

  -- what is of lower order has no reducer
  pub is_lower : (x : Mono Z.n) → T (lower_order? (answer_to x)) → Lower S L F x
  is_lower x = go (answered x)
    where
      go : {a : Answer} → Answered x a → T (lower_order? a) → Lower S L F x
      go (hit r) t = absurd t
      go (miss o) t = o
