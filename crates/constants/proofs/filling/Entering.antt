-- A row of constants entry by entry, and with a term more in front.
use mathlib.Core.Path.{◌≡◌, refl, sym, ap, ◌∙◌, subst}
use mathlib.Core.Bool.{Bool, true, false}
use mathlib.Core.List.{List, [], ◌∷◌, ◌++◌}
use Prim.Native.Nat.{ℕ, zero, suc, ◌+◌, ◌<◌}
use native.Mathlib.Nat.{not-suc-le-zero}
use native.Mathlib.Omega.{arith}
use native.Mathlib.Decide.{ℕ_discrete}
use borrow.Author.Tests.{eq-eqb, ne_eqb}
use lib.Dec.{T, eqb}
use lib.ListN.{length, get_or, take, drop, set, replicate, length-set}
use lib.Seq.{ext_get_or, set_out, get_or-set_same, get_or-set_other, take-set-le, take-set-lt, drop-set-add, drop-set-lt, paste}
use Rattle.definitions.specs.Lists.{◌and◌}
use Rattle.definitions.specs.Monomial.{Monomial, Term, Vector, unit, same_exponents?, same_monomial?}
use Rattle.definitions.specs.Packed.{unpack}
use Rattle.definitions.specs.Layout.{Words}
use Rattle.definitions.specs.Minimal.{constant}
use Rattle.laws.proofs.Products.{same_exponents_says}
use Rattle.monomial.proofs.Bytewise.{unpack_zero}
use Rattle.ranks.specs.Blocks.{kept, row_from}
use Rattle.constants.specs.elimination.Rows.{row_words}
use Rattle.constants.specs.filling.Entries.{Enters, Entered}
use Rattle.constants.proofs.elimination.Words.{paste_own}

-- ## A row

pub length_row_from : (j : ℕ) (es : List ℕ) (d : ℕ) (v : Vector) → length (row_from j es d v) ≡ length es
length_row_from j [] d v = refl
length_row_from j (e ∷ es) d v = ap suc (length_row_from (suc j) es d v)

getD_row_from : (j : ℕ) (es : List ℕ) (d : ℕ) (v : Vector) (i : ℕ) → i < length es →
    get_or (row_from j es d v) i 0 ≡ kept (get_or es i 0) d (constant v (j + i))
getD_row_from j [] d v i h = absurd (not-suc-le-zero h)
getD_row_from j (e ∷ es) d v zero h = let z : j ≡ j + 0 = omega arith in ap (λ k. kept e d (constant v k)) z
getD_row_from j (e ∷ es) d v (suc i) h =
    let z : suc j + i ≡ j + suc i = omega arith in
    getD_row_from (suc j) es d v i (omega (arith, h)) ∙ ap (λ k. kept (get_or es i 0) d (constant v k)) z

-- no terms, no constants
kept_zero : (e d : ℕ) → kept e d 0 ≡ 0
kept_zero e d = go (eqb e d)
  where
    go : (b : Bool) → ◌≡◌ {A = ℕ} (elim b [ true ↦ 0 | false ↦ 0 ]) 0
    go true = refl
    go false = refl

pub row_none : (j : ℕ) (es : List ℕ) (d : ℕ) → row_from j es d [] ≡ replicate (length es) 0
row_none j [] d = refl
row_none j (e ∷ es) d = λ i. kept_zero e d i ∷ row_none (suc j) es d i

-- ## A term more

module _ (es : List ℕ) (d : ℕ) (m : Monomial) where
  abbrev by_test : ℕ → ℕ → Vector → Bool → ℕ
  by_test i x v b = elim b [ true ↦ x | false ↦ constant v (1 + i) ]

  -- entry i stays as it is
  abbrev Stays : ℕ → Type 0
  Stays i = (x : ℕ) (v : Vector) → kept (get_or es i 0) d (constant ((x, m) ∷ v) (1 + i)) ≡ kept (get_or es i 0) d (constant v (1 + i))

  stays_other : (i : ℕ) → same_monomial? m (unit, 1 + i) ≡ false → Stays i
  stays_other i e x v = ap (λ b. kept (get_or es i 0) d (by_test i x v b)) e

  stays_apart : (i : ℕ) → (m.1 ≡ 1 + i → ⊥) → Stays i
  stays_apart i n = stays_other i (ap (λ b. b and same_exponents? m.0 unit) (ne_eqb m.1 (1 + i) n))

  all_stay : ((i : ℕ) → i < length es → Stays i) → Enters es d m (length es)
  all_stay f x v =
      ext_get_or 0 (row_from 1 es d ((x, m) ∷ v)) (row_from 1 es d v) (length_row_from 1 es d ((x, m) ∷ v) ∙ sym (length_row_from 1 es d v))
      (λ i h. let l : i < length es = omega (arith, length_row_from 1 es d ((x, m) ∷ v), h) in
      getD_row_from 1 es d ((x, m) ∷ v) i l ∙ f i l x v ∙ sym (getD_row_from 1 es d v i l))
      ∙ sym (set_out (row_from 1 es d v) (length es) x (omega (arith, length_row_from 1 es d v)))

  -- a monomial with a variable in it
  pub enters_variable : same_exponents? m.0 unit ≡ false → Enters es d m (length es)
  enters_variable e = all_stay (λ i h. stays_other i (ap (λ b. eqb m.1 (1 + i) and b) e ∙ never (eqb m.1 (1 + i))))
    where
      never : (b : Bool) → (b and false) ≡ false
      never true = refl
      never false = refl

  -- .. of a component that is not there
  pub enters_nowhere : ((i : ℕ) → i < length es → m.1 ≡ 1 + i → ⊥) → Enters es d m (length es)
  enters_nowhere f = all_stay (λ i h. stays_apart i (f i h))

  -- .. of another degree
  pub enters_apart : (c : ℕ) → m.1 ≡ 1 + c → (get_or es c 0 ≡ d → ⊥) → Enters es d m (length es)
  enters_apart c e n = all_stay (λ i h. go i (ℕ_discrete i c))
    where
      go : (i : ℕ) → Dec (i ≡ c) → Stays i
      go i (yes q) x v =
          let t = ne_eqb (get_or es i 0) d (λ y. n (ap (λ k. get_or es k 0) (sym q) ∙ y)) in
          ap (λ b. elim b [ true ↦ constant ((x, m) ∷ v) (1 + i) | false ↦ 0 ]) t ∙ sym (ap (λ b. elim b [ true ↦ constant v (1 + i) | false ↦ 0 ]) t)
      go i (no q) x v = stays_apart i (λ y. q (omega (arith, e, y))) x v

  -- 1·e_(c + 1), of the degree
  pub enters_here : (c : ℕ) → c < length es → same_exponents? m.0 unit ≡ true → m.1 ≡ 1 + c → get_or es c 0 ≡ d → Enters es d m c
  enters_here c l u e q x v =
      ext_get_or 0 (row_from 1 es d ((x, m) ∷ v)) (set (row_from 1 es d v) c x)
      (length_row_from 1 es d ((x, m) ∷ v) ∙ sym (length-set (row_from 1 es d v) c x ∙ length_row_from 1 es d v))
      (λ i h. let k : i < length es = omega (arith, length_row_from 1 es d ((x, m) ∷ v), h) in
      getD_row_from 1 es d ((x, m) ∷ v) i k ∙ go i k (ℕ_discrete i c))
    where
      whole_test : same_monomial? m (unit, 1 + c) ≡ true
      whole_test = (λ i. eq-eqb m.1 (1 + c) e i and u i)

      go : (i : ℕ) → i < length es → Dec (i ≡ c) → kept (get_or es i 0) d (constant ((x, m) ∷ v) (1 + i)) ≡ get_or (set (row_from 1 es d v) c x) i 0
      go i k (yes z) =
          ap (λ j. kept (get_or es j 0) d (constant ((x, m) ∷ v) (1 + j))) z
          ∙ ap (λ b. elim b [ true ↦ constant ((x, m) ∷ v) (1 + c) | false ↦ 0 ]) (eq-eqb (get_or es c 0) d q)
          ∙ ap (by_test c x v) whole_test
          ∙ sym (ap (λ j. get_or (set (row_from 1 es d v) c x) j 0) z
          ∙ get_or-set_same (row_from 1 es d v) c x 0 (omega (arith, length_row_from 1 es d v, l)))
      go i k (no z) =
          stays_apart i (λ y. z (omega (arith, e, y))) x v ∙ sym (getD_row_from 1 es d v i k) ∙ sym (get_or-set_other (row_from 1 es d v) c i x 0 z)

-- exponents that are zero are those of 1
pub one_is : (x j k : ℕ) → same_exponents? (unpack x) (unpack 0) ≡ true → j ≡ k → ◌≡◌ {A = Monomial} (unit, j) (unpack x, k)
one_is x j k e q = λ i. (sym (same_exponents_says (unpack x) (unpack 0) (subst T (sym e) tt) ∙ unpack_zero) i, q i)

-- ## In words

set_row : (s : Words) (a n c x : ℕ) → c < n → set s (a + c) x ≡ paste s a (set (row_words s a n) c x) n
set_row s a n c x h =
    paste_own (set s (a + c) x) a n
    ∙ (λ i. (take-set-le a s (a + c) x (omega arith) i ++ take n (row i)) ++ drop-set-lt (a + n) s (a + c) x (omega (arith, h)) i)
  where
    row : row_words (set s (a + c) x) a n ≡ set (row_words s a n) c x
    row = ap (take n) (drop-set-add a s c x) ∙ take-set-lt n (drop a s) c x h

module _ (s : Words) (a : ℕ) (es : List ℕ) (d : ℕ) (t : Term) (c : ℕ) (enters : Enters es d t.1 c) where
  -- no column of its own
  pub entered_none : c ≡ length es → Entered s a es d t s
  entered_none e v r =
      paste_own s a (length es)
      ∙ ap (λ w. paste s a w (length es)) (r
      ∙ sym (enters t.0 v ∙ set_out (row_from 1 es d v) c t.0 (omega (arith, e, length_row_from 1 es d v))))

  pub entered_here : c < length es → Entered s a es d t (set s (a + c) t.0)
  entered_here h v r =
      set_row s a (length es) c t.0 h
      ∙ ap (λ w. paste s a w (length es)) (ap (λ w. set w c t.0) r ∙ sym (enters t.0 v))
