-- A level with a term more: how many elements it has, its last term, its ends and its rows.
use mathlib.Core.Path.{◌≡◌, refl, sym, ap, ◌∙◌, subst}
use mathlib.Core.Bool.{Bool, true, false, not, ◌||◌}
use mathlib.Core.Option.{Option, none, some}
use mathlib.Core.List.{List, [], ◌∷◌, ◌++◌, append_assoc, append-nil}
use Prim.Native.Nat.{ℕ, suc, ◌+◌, ◌-◌, ◌≤◌}
use native.Mathlib.Omega.{arith}
use lib.Dec.{leb, eqb}
use lib.ListN.{length, take, length-append}
use lib.Seq.{take_all}
use borrow.Author.Tests.{eqb-true, leb-true}
use Rattle.definitions.specs.Lists.{◌and◌, last}
use Rattle.definitions.specs.Monomial.{Term, Vector, Level}
use Rattle.definitions.specs.Problem.{last_term, extend, with_term}
use Rattle.definitions.specs.State.{terms_of}
use Rattle.definitions.specs.Layout.{row_of, rows_of, ends_from, joined}
use Rattle.laws.proofs.Rows.{rows_of_append}
use Rattle.definitions.specs.Places.{most_elements}
use Rattle.reader.specs.lines.Tests.{begins?, goes_on?, follows?}

-- ## The last one

abbrev or_first : {A : Type 0} → A → Option A → Option A
or_first a none = some a
or_first a (some b) = some b

last_is : {A : Type 0} (a : A) (l : List A) → last (a ∷ l) ≡ or_first a (last l)
last_is {A} a l = go (last l) refl
  where
    go : (o : Option A) → last l ≡ o → last (a ∷ l) ≡ or_first a o
    go none e = rw (e, last)
    go (some b) e = rw (e, last)

pub last_append : {A : Type 0} (l : List A) (a : A) → last (l ++ a ∷ []) ≡ some a
last_append [] a = refl
last_append (b ∷ l) a = last_is b (l ++ a ∷ []) ∙ ap (or_first b) (last_append l a)

last_extend : (f : Level) (t : Term) → (length f ≡ 0 → ⊥) → last_term (last (extend f t)) ≡ some t
last_extend [] t n = absurd (n refl)
last_extend (v ∷ []) t n = last_append v t
last_extend (v ∷ w ∷ f) t n = ap last_term (last_is v (extend (w ∷ f) t)) ∙ go (last (extend (w ∷ f) t)) (last_extend (w ∷ f) t (λ e. omega arith))
  where
    go : (o : Option Vector) → last_term o ≡ some t → last_term (or_first v o) ≡ some t
    go none e = let z : ◌≡◌ {A = ℕ} 0 1 = cc in absurd (omega arith)
    go (some u) e = e

-- ## How many

length_extend : (f : Level) (t : Term) → length (extend f t) ≡ length f
length_extend [] t = refl
length_extend (v ∷ []) t = refl
length_extend (v ∷ w ∷ f) t = ap suc (length_extend (w ∷ f) t)

-- ## Ends

pub length_ends : (a : ℕ) (f : Level) → length (ends_from a f) ≡ length f
length_ends a [] = refl
length_ends a (v ∷ f) = ap suc (length_ends (a + length v) f)

ends_append : (a : ℕ) (f : Level) (t : Term) → ends_from a (f ++ (t ∷ []) ∷ []) ≡ ends_from a f ++ (a + terms_of f + 1) ∷ []
ends_append a [] t = let e : a + 1 ≡ a + 0 + 1 = omega arith in ap (λ n. n ∷ []) e
ends_append a (v ∷ f) t =
    let e : a + length v + terms_of f + 1 ≡ a + (length v + terms_of f) + 1 = omega arith in
    ap (λ l. (a + length v) ∷ l) (ends_append (a + length v) f t ∙ ap (λ n. ends_from (a + length v) f ++ n ∷ []) e)

ends_extend : (a : ℕ) (f : Level) (t : Term) → (length f ≡ 0 → ⊥) → ends_from a (extend f t) ≡ take (length f - 1) (ends_from a f)
    ++ (a + terms_of f + 1) ∷ []
ends_extend a [] t n = absurd (n refl)
ends_extend a (v ∷ []) t n = let e : a + length (v ++ t ∷ []) ≡ a + (length v + 0) + 1 = omega (arith, length-append v (t ∷ [])) in ap (λ k. k ∷ []) e
ends_extend a (v ∷ w ∷ f) t n =
    let e : a + length v + terms_of (w ∷ f) + 1 ≡ a + (length v + terms_of (w ∷ f)) + 1 = omega arith in
    let k : suc (length f) - 1 ≡ length f = omega arith in
    let m : suc (length f) ≡ suc (suc (length f)) - 1 = omega arith in
    ap (λ l. (a + length v) ∷ l) (ends_extend (a + length v) (w ∷ f) t (λ z. omega arith)
    ∙ (λ i. take (k i) (ends_from (a + length v) (w ∷ f)) ++ e i ∷ []))
    ∙ ap (λ j. take j ((a + length v) ∷ ends_from (a + length v) (w ∷ f)) ++ (a + (length v + terms_of (w ∷ f)) + 1) ∷ []) m

-- ## Rows

joined_append : (f : Level) (t : Term) → joined (f ++ (t ∷ []) ∷ []) ≡ joined f ++ t ∷ []
joined_append [] t = refl
joined_append (v ∷ f) t = ap (λ l. v ++ l) (joined_append f t) ∙ sym (append_assoc v (joined f) (t ∷ []))

joined_extend : (f : Level) (t : Term) → (length f ≡ 0 → ⊥) → joined (extend f t) ≡ joined f ++ t ∷ []
joined_extend [] t n = absurd (n refl)
joined_extend (v ∷ []) t n = append-nil (v ++ t ∷ []) ∙ ap (λ l. l ++ t ∷ []) (sym (append-nil v))
joined_extend (v ∷ w ∷ f) t n = ap (λ l. v ++ l) (joined_extend (w ∷ f) t (λ z. omega arith)) ∙ sym (append_assoc v (joined (w ∷ f)) (t ∷ []))

rows_more : (v : Vector) (t : Term) → rows_of (v ++ t ∷ []) ≡ rows_of v ++ row_of t
rows_more v t = rows_of_append v (t ∷ []) ∙ ap (λ l. rows_of v ++ l) (append-nil (row_of t))

-- ## A term after r elements, of an element that follows

-- which element follows
pub follows_says : (r e : ℕ) (b : Bool) → begins? r e ≡ b → follows? r e ≡ true → (b ≡ true → e ≡ suc r) × (b ≡ false → (e ≡ r) × (r ≡ 0 → ⊥))
    × (e ≤ most_elements)
follows_says r e b q s = (λ t. eqb-true e (suc r) (q ∙ t), λ t. goes t, leb-true e most_elements (right (begins? r e || goes_on? r e) s))
  where
    right : (t : Bool) → (t and leb e most_elements) ≡ true → leb e most_elements ≡ true
    right true h = h
    right false h = let z : ◌≡◌ {A = ℕ} 0 1 = cc in absurd (omega arith)

    left : (t : Bool) → (t and leb e most_elements) ≡ true → t ≡ true
    left true h = refl
    left false h = h

    both : (x y : Bool) → (x and y) ≡ true → (x ≡ true) × (y ≡ true)
    both true y h = (refl, h)
    both false y h = let z : ◌≡◌ {A = ℕ} 0 1 = cc in absurd (omega arith)

    goes : b ≡ false → (e ≡ r) × (r ≡ 0 → ⊥)
    goes t =
        let on : goes_on? r e ≡ true = (λ i. sym (q ∙ t) i || goes_on? r e) ∙ left (begins? r e || goes_on? r e) s in
        let p = both (eqb e r) (not (eqb r 0)) on in (
          eqb-true e r p.0,
          λ z. let w : not (eqb 0 0) ≡ true = subst (λ x. not (eqb x 0) ≡ true) z p.1 in let y : ◌≡◌ {A = ℕ} 0 1 = cc in
              omega arith,
        )

-- what the level has after it
pub record Grown (f g : Level) (e : ℕ) (t : Term) : Type 0 where
  pub elements : length g ≡ e
  pub last_one : last_term (last g) ≡ some t
  pub ends : ends_from 0 g ≡ take (e - 1) (ends_from 0 f) ++ (terms_of f + 1) ∷ []
  pub rows : rows_of (joined g) ≡ rows_of (joined f) ++ row_of t
  pub terms : terms_of g ≡ terms_of f + 1
  pub low : e - 1 ≤ length (ends_from 0 f)
  pub high : length (ends_from 0 f) ≤ e
  pub one : 1 ≤ e
  pub few : e ≤ most_elements

terms_append : (f : Level) (t : Term) → terms_of (f ++ (t ∷ []) ∷ []) ≡ terms_of f + 1
terms_append [] t = refl
terms_append (v ∷ f) t = omega (arith, terms_append f t)

terms_extend : (f : Level) (t : Term) → (length f ≡ 0 → ⊥) → terms_of (extend f t) ≡ terms_of f + 1
terms_extend [] t n = absurd (n refl)
terms_extend (v ∷ []) t n = omega (arith, length-append v (t ∷ []))
terms_extend (v ∷ w ∷ f) t n = omega (arith, terms_extend (w ∷ f) t (λ z. omega arith))

pub grows : (f : Level) (r e : ℕ) (t : Term) → length f ≡ r → follows? r e ≡ true → Grown f (with_term (begins? r e) f t) e t
grows f r e t l s = go (begins? r e) (follows_says r e (begins? r e) refl s)
  where
    go : (b : Bool) → (b ≡ true → e ≡ suc r) × (b ≡ false → (e ≡ r) × (r ≡ 0 → ⊥)) × (e ≤ most_elements) → Grown f (with_term b f t) e t
    go true h =
        let q : e ≡ suc r = h.0 refl in
        let z : 0 + terms_of f + 1 ≡ terms_of f + 1 = omega arith in
        record {
          elements = length-append f ((t ∷ []) ∷ []) ∙ omega arith;
          last_one = ap last_term (last_append f (t ∷ []));
          ends = ends_append 0 f t ∙ (λ i. sym (take_all (e - 1) (ends_from 0 f) (omega (arith, length_ends 0 f))) i ++ z i ∷ []);
          rows = ap rows_of (joined_append f t) ∙ rows_more (joined f) t;
          terms = terms_append f t;
          low = omega (arith, length_ends 0 f);
          high = omega (arith, length_ends 0 f);
          one = omega arith;
          few = h.2;
        }
    go false h =
        let q = h.1 refl in
        let d : e ≡ r = q.0 in
        let n : r ≡ 0 → ⊥ = q.1 in
        let m : length f ≡ 0 → ⊥ = λ x. n (sym l ∙ x) in
        let z : 0 + terms_of f + 1 ≡ terms_of f + 1 = omega arith in
        let k : length f - 1 ≡ e - 1 = omega arith in
        record {
          elements = length_extend f t ∙ l ∙ sym d;
          last_one = last_extend f t m;
          ends = ends_extend 0 f t m ∙ (λ i. take (k i) (ends_from 0 f) ++ z i ∷ []);
          rows = ap rows_of (joined_extend f t m) ∙ rows_more (joined f) t;
          terms = terms_extend f t m;
          low = omega (arith, length_ends 0 f);
          high = omega (arith, length_ends 0 f);
          one = omega arith;
          few = h.2;
        }
