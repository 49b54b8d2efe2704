-- A level's vectors, as the code tests them and as the definitions do.
use mathlib.Core.Path.{◌≡◌, refl, sym, ap, ◌∙◌, subst}
use mathlib.Core.Bool.{Bool}
use mathlib.Core.List.{List, [], ◌∷◌}
use Prim.Native.Nat.{ℕ, suc, ◌+◌, ◌-◌, ◌<◌, ◌≤◌}
use native.Mathlib.Omega.{arith}
use native.Mathlib.Decide.{ℕ_discrete}
use lib.Dec.{T, leb, ltb, leb→le, le→leb, lt→ltb, ltb→lt}
use lib.ListN.{length, get_or}
use Rattle.definitions.specs.Limits.{document_01}
use Rattle.definitions.specs.Lists.{◌and◌, every}
use Rattle.definitions.specs.Monomial.{Monomial, Vector, Level, no_term}
use Rattle.definitions.specs.Order.{Comparison, greater?, compare_over}
use Rattle.definitions.specs.Problem.{Parameters}
use Rattle.definitions.specs.State.{term_sound?, vector_sound?, terms_of}
use Rattle.definitions.specs.Layout.{Words, row_at, rows, vectors_at, ascending?}
use Rattle.laws.proofs.Tests.{and_left, and_right, and_both, every_at}
use Rattle.laws.proofs.Sound.{SoundVector, vector_says, vector_shown}
use Rattle.laws.proofs.Rows.{length_rows, get_d_rows}
use Rattle.definitions.specs.Places.{most_rows}
use Rattle.state.specs.declared.soundness.Bounds.{Bounds}
use Rattle.state.specs.soundness.Holding.{bounds_of, row_holds?, follows?, all_hold?, vector_holds?, vectors_hold?}
use Rattle.state.proofs.soundness.Pointwise.{every_all, holds_at, holds_all, descends_at, descends_all}
use Rattle.state.proofs.soundness.RowTests.{row_said, row_shown}
use Rattle.state.proofs.soundness.TablesGrow.{vector_ends}

-- ## One vector

module _ (b : Bounds) (most : ℕ) (order : Monomial → Monomial → Comparison) (s : Words) (a e : ℕ) where
  abbrev walk : Bool
  walk = all_hold? (follows? b order s) (suc a) (e - suc a)

  -- the rows of a vector that passes the test
  walked : T (vector_holds? b most order s a e) → T (row_holds? b s a) × T (all_hold? (follows? b order s) (suc a) (e - suc a))
  walked t =
      let v = and_right (leb (e - a) most) (row_holds? b s a and walk)
      (and_right (leb e most_rows) (leb (e - a) most and row_holds? b s a and walk)
      (and_right (ltb a e) (leb e most_rows and leb (e - a) most and row_holds? b s a and walk) t)) in
      (and_left (row_holds? b s a) walk v, and_right (row_holds? b s a) walk v)

  follows_said : T (vector_holds? b most order s a e) → (i : ℕ) → a < i → i < e → T (row_holds? b s i)
      × T (greater? (order (row_at s (i - 1)).1 (row_at s i).1))
  follows_said t i h l =
      let f = holds_at (follows? b order s) (suc a) (e - suc a) (walked t).1 i h (omega arith) in (
        and_left (row_holds? b s i) (greater? (order (row_at s (i - 1)).1 (row_at s i).1)) f,
        and_right (row_holds? b s i) (greater? (order (row_at s (i - 1)).1 (row_at s i).1)) f,
      )

  rows_said : T (vector_holds? b most order s a e) → (i : ℕ) → a ≤ i → i < e → T (row_holds? b s i)
  rows_said t i h l = go (ℕ_discrete i a)
    where
      go : Dec (i ≡ a) → T (row_holds? b s i)
      go (yes q) = subst (λ j. T (row_holds? b s j)) (sym q) (walked t).0
      go (no q) = (follows_said t i (omega arith) l).0

  rows_shown : a < e → e ≤ most_rows → e - a ≤ most → ((i : ℕ) → a ≤ i → i < e → T (row_holds? b s i))
      → ((i : ℕ) → a < i → i < e → T (greater? (order (row_at s (i - 1)).1 (row_at s i).1))) → T (vector_holds? b most order s a e)
  rows_shown h l m f g =
      and_both (ltb a e) (leb e most_rows and leb (e - a) most and row_holds? b s a and walk) (lt→ltb a e h)
      (and_both (leb e most_rows) (leb (e - a) most and row_holds? b s a and walk) (le→leb e most_rows l)
      (and_both (leb (e - a) most) (row_holds? b s a and walk) (le→leb (e - a) most m)
      (and_both (row_holds? b s a) walk (f a (omega arith) h)
      (holds_all (follows? b order s) (suc a) (e - suc a) (λ i u v. and_both (row_holds? b s i) (greater? (order (row_at s (i - 1)).1 (row_at s i).1))
      (f i (omega arith) (omega arith)) (g i u (omega arith)))))))

module _ (q : Parameters) (components most : ℕ) (s : Words) where
  abbrev B : Bounds
  B = bounds_of q.p q.n components

  module _ (order : Monomial → Monomial → Comparison) (below : List Level)
      (agree : (m m' : Monomial) → order m m' ≡ compare_over q.code below m m') where
    pub vector_said : (a e : ℕ) → T (vector_holds? (bounds_of q.p q.n components) most order s a e)
        → T (vector_sound? document_01 q components most below (rows s a (e - a)))
    vector_said a e t = vector_shown document_01 q components most below (rows s a (e - a)) (record {
      filled = omega (arith, vs.0, length_rows s a (e - a));
      short = omega (arith, vs.2, length_rows s a (e - a));
      terms = every_all (term_sound? document_01 q components) (rows s a (e - a)) no_term
          (λ i h. subst (λ u. T (term_sound? document_01 q components u))
          (sym (get_d_rows s a (e - a) i no_term (omega (arith, length_rows s a (e - a)))))
          (term (a + i) (omega arith) (omega (arith, length_rows s a (e - a)))));
      descends = descends_all (compare_over q.code below) (rows s a (e - a)) no_term falls;
    })
      where
        vs : (a < e) × (e ≤ most_rows) × (e - a ≤ most)
        vs = vector_ends B most order s a e t

        term : (i : ℕ) → a ≤ i → i < e → T (term_sound? document_01 q components (row_at s i))
        term i h l = row_said q components s i (rows_said B most order s a e t i h l)

        falls : (i : ℕ) → suc i < length (rows s a (e - a)) → T (greater?
            (compare_over q.code below (get_or (rows s a (e - a)) i no_term).1 (get_or (rows s a (e - a)) (suc i) no_term).1))
        falls i h =
            let l : suc i < e - a = omega (arith, length_rows s a (e - a)) in
            let x : a + suc i - 1 ≡ a + i = omega arith in
            let u = (follows_said B most order s a e t (a + suc i) (omega arith) (omega arith)).1 in
            subst (λ c. T (greater? c)) (agree (row_at s (a + suc i - 1)).1 (row_at s (a + suc i)).1
            ∙ (λ j. compare_over q.code below ((ap (row_at s) x ∙ sym (get_d_rows s a (e - a) i no_term (omega arith))) j).1
            (sym (get_d_rows s a (e - a) (suc i) no_term l) j).1)) u

    pub vector_kept : (a e : ℕ) → a < e → e ≤ most_rows → T (vector_sound? document_01 q components most below (rows s a (e - a)))
        → T (vector_holds? (bounds_of q.p q.n components) most order s a e)
    vector_kept a e h l t = rows_shown B most order s a e h l (omega (arith, v.short, length_rows s a (e - a)))
        (λ i m n. row_shown q components s i (term i m n)) falls
      where
        v : SoundVector document_01 q components most below (rows s a (e - a))
        v = vector_says document_01 q components most below (rows s a (e - a)) t

        term : (i : ℕ) → a ≤ i → i < e → T (term_sound? document_01 q components (row_at s i))
        term i m n =
            let z : a + (i - a) ≡ i = omega arith in
            subst (λ u. T (term_sound? document_01 q components u)) (get_d_rows s a (e - a) (i - a) no_term (omega arith) ∙ ap (row_at s) z)
            (every_at (term_sound? document_01 q components) (rows s a (e - a)) (i - a) no_term v.terms (omega (arith, length_rows s a (e - a))))

        falls : (i : ℕ) → a < i → i < e → T (greater? (order (row_at s (i - 1)).1 (row_at s i).1))
        falls i m n =
            let x : a + (i - 1 - a) ≡ i - 1 = omega arith in
            let y : a + suc (i - 1 - a) ≡ i = omega arith in
            subst (λ c. T (greater? c)) ((λ j. compare_over q.code below
            ((get_d_rows s a (e - a) (i - 1 - a) no_term (omega arith) ∙ ap (row_at s) x) j).1
            ((get_d_rows s a (e - a) (suc (i - 1 - a)) no_term (omega arith) ∙ ap (row_at s) y) j).1)
            ∙ sym (agree (row_at s (i - 1)).1 (row_at s i).1))
            (descends_at (compare_over q.code below) (rows s a (e - a)) no_term v.descends (i - 1 - a) (omega (arith, length_rows s a (e - a))))

-- ## All vectors of a level

-- the last of the ends, or where the first vector begins
abbrev pub end_of : ℕ → Words → ℕ
end_of a [] = a
end_of a (e ∷ es) = end_of e es

pub ascends_past : (limit a : ℕ) (es : Words) → T (ascending? limit a es) → a ≤ end_of a es
ascends_past limit a [] t = omega arith
ascends_past limit a (e ∷ es) t =
    let l : a < e = ltb→lt a e (and_left (ltb a e) (leb e limit and ascending? limit e es) t) in
    omega (
      arith,
      ascends_past limit e es (and_right (leb e limit) (ascending? limit e es)
          (and_right (ltb a e) (leb e limit and ascending? limit e es) t)),
    )

pub ascends_within : (limit a : ℕ) (es : Words) → a ≤ limit → T (ascending? limit a es) → end_of a es ≤ limit
ascends_within limit a [] h t = h
ascends_within limit a (e ∷ es) h t =
    let u = and_right (ltb a e) (leb e limit and ascending? limit e es) t in
    ascends_within limit e es (leb→le e limit (and_left (leb e limit) (ascending? limit e es) u)) (and_right (leb e limit) (ascending? limit e es) u)

pub terms_cut : (limit : ℕ) (s : Words) (a : ℕ) (es : Words) → T (ascending? limit a es) → a + terms_of (vectors_at s a es) ≡ end_of a es
terms_cut limit s a [] t = omega arith
terms_cut limit s a (e ∷ es) t =
    let l : a < e = ltb→lt a e (and_left (ltb a e) (leb e limit and ascending? limit e es) t) in
    omega (
      arith,
      length_rows s a (e - a),
      terms_cut limit s e es (and_right (leb e limit) (ascending? limit e es)
          (and_right (ltb a e) (leb e limit and ascending? limit e es) t)),
    )

pub length_vectors : (s : Words) (a : ℕ) (es : Words) → length (vectors_at s a es) ≡ length es
length_vectors s a [] = refl
length_vectors s a (e ∷ es) = ap suc (length_vectors s e es)

module _ (b : Bounds) (most : ℕ) (order : Monomial → Monomial → Comparison) (s : Words) where
  pub vectors_ascend : (a : ℕ) (es : Words) → T (vectors_hold? b most order s a es) → T (ascending? most_rows a es)
  vectors_ascend a [] t = tt
  vectors_ascend a (e ∷ es) t =
      let v = vector_ends b most order s a e (and_left (vector_holds? b most order s a e) (vectors_hold? b most order s e es) t) in
      and_both (ltb a e) (leb e most_rows and ascending? most_rows e es) (lt→ltb a e v.0)
      (and_both (leb e most_rows) (ascending? most_rows e es) (le→leb e most_rows v.1)
      (vectors_ascend e es (and_right (vector_holds? b most order s a e) (vectors_hold? b most order s e es) t)))

module _ (q : Parameters) (components most : ℕ) (s : Words) (order : Monomial → Monomial → Comparison) where
  module _ (below : List Level) (agree : (m m' : Monomial) → order m m' ≡ compare_over q.code below m m') where
    abbrev good? : Vector → Bool
    good? = vector_sound? document_01 q components most below

    abbrev kept? : ℕ → ℕ → Bool
    kept? = vector_holds? (bounds_of q.p q.n components) most order s

    pub vectors_said : (a : ℕ) (es : Words) → T (vectors_hold? (bounds_of q.p q.n components) most order s a es)
        → T (every (vector_sound? document_01 q components most below) (vectors_at s a es))
    vectors_said a [] t = tt
    vectors_said a (e ∷ es) t =
        and_both (good? (rows s a (e - a))) (every good? (vectors_at s e es))
        (vector_said q components most s order below agree a e
        (and_left (kept? a e) (vectors_hold? (bounds_of q.p q.n components) most order s e es) t))
        (vectors_said e es (and_right (kept? a e) (vectors_hold? (bounds_of q.p q.n components) most order s e es) t))

    pub vectors_shown : (a : ℕ) (es : Words) → T (ascending? most_rows a es) → T (every (vector_sound? document_01 q components most below) (vectors_at s a es))
        → T (vectors_hold? (bounds_of q.p q.n components) most order s a es)
    vectors_shown a [] t v = tt
    vectors_shown a (e ∷ es) t v =
        let h : a < e = ltb→lt a e (and_left (ltb a e) (leb e most_rows and ascending? most_rows e es) t) in
        let u = and_right (ltb a e) (leb e most_rows and ascending? most_rows e es) t in
        let w = and_right (leb e most_rows) (ascending? most_rows e es) u in
        and_both (kept? a e) (vectors_hold? (bounds_of q.p q.n components) most order s e es)
        (vector_kept q components most s order below agree a e h (leb→le e most_rows (and_left (leb e most_rows) (ascending? most_rows e es) u))
        (and_left (good? (rows s a (e - a))) (every good? (vectors_at s e es)) v))
        (vectors_shown e es w (and_right (good? (rows s a (e - a))) (every good? (vectors_at s e es)) v))
