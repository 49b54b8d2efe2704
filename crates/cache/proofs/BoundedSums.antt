-- A term, and a whole result, into a sum that must end at a row.
use mathlib.Core.Path.{◌≡◌, refl, sym, ap, ◌∙◌, subst}
use mathlib.Core.Bool.{Bool, true, false}
use mathlib.Core.List.{[]}
use Prim.Native.Nat.{ℕ, suc, ◌+◌, ◌-◌, ◌<◌, ◌≤◌}
use native.Mathlib.Omega.{arith}
use lib.Dec.{leb}
use lib.ListN.{length}
use borrow.Author.Tests.{le-leb, lt-leb, leb-true, leb-false}
use Rattle.definitions.specs.Lists.{choose}
use Rattle.definitions.specs.Field.{times}
use Rattle.definitions.specs.Monomial.{Monomial, Term, Vector}
use Rattle.definitions.specs.Order.{Comparison}
use Rattle.definitions.specs.Result.{Result, done, refused, unfinished, refusal, ◌>>=◌}
use Rattle.definitions.specs.Vectors.{insert}
use Rattle.definitions.specs.Tree.{held_to, grow, add_result}
use Rattle.definitions.specs.Layout.{Words, row_at, rows}
use Rattle.laws.proofs.Rows.{length_rows, rows_same, rows_first}
use Rattle.vectors.specs.sums.Places.{stored_as, inserted_within}
use Rattle.std.specs.Prelude.{Option, Some, None}
use Rattle.cache.specs.Area.{Leaves, grown_of, Room}

-- ## One term

same_room : (a n top : ℕ) → a ≤ top → leb n (top - a) ≡ leb (a + n) top
same_room a n top h = go (leb n (top - a)) refl
  where
    go : (b : Bool) → leb n (top - a) ≡ b → b ≡ leb (a + n) top
    go true q = let r : n ≤ top - a = leb-true n (top - a) q in sym (le-leb (a + n) top (omega arith))
    go false q = let r : top - a < n = leb-false n (top - a) q in sym (lt-leb (a + n) top (omega arith))

-- a sum that is given has so many terms at the most
abbrev AtMost : ℕ → Result Vector → Type 0
AtMost limit (done v) = length v ≤ limit
AtMost limit (refused number place value) = Unit {0}
AtMost limit unfinished = Unit {0}

held_at_most : (limit : ℕ) (v : Vector) → AtMost limit (held_to (leb (length v) limit) v)
held_at_most limit v = go (leb (length v) limit) refl
  where
    go : (b : Bool) → leb (length v) limit ≡ b → AtMost limit (held_to b v)
    go true q = leb-true (length v) limit q
    go false q = tt

module _ (order : Monomial → Monomial → Comparison) (p a top : ℕ) (t : Term) (v : Vector) (under : a ≤ top) where
  grow_is : inserted_within order p (top - a) t v ≡ grow order p top a t v
  grow_is = ap (λ b. held_to b (insert order p t v)) (same_room a (length (insert order p t v)) top under)

  -- the part's rows stand from row a on
  pub grown_in : (part z : Words) (x : Option ℕ) → ((k : ℕ) → k < top - a → row_at z (a + k) ≡ row_at part k) → stored_as x part
      ≡ inserted_within order p (top - a) t v
      → (grown_of a x z ≡ grow order p top a t v) × Room a top x
  grown_in part z (Some n) same e =
      let h : length (rows part 0 n) ≤ top - a = subst (AtMost (top - a)) (sym e) (held_at_most (top - a) (insert order p t v)) in
      let l : n ≤ top - a = omega (arith, length_rows part 0 n) in
      let g : rows z a n ≡ rows part 0 n = rows_same part z 0 a n (λ k m. let y : k ≡ 0 + k = omega arith in same k (omega arith)
      ∙ ap (row_at part) y) in
      (ap done g ∙ e ∙ grow_is, omega arith)
  grown_in part z None same e = (e ∙ grow_is, tt)

-- ## A result, one term after the other

pub rows_none : (s : Words) (a : ℕ) → rows s a 0 ≡ []
unfolding rows
rows_none s a = refl

pub scaled : (p c b x : ℕ) (m : Monomial) (t : Term) → b ≡ times p c x → ◌≡◌ {A = Term} (x, m) t → ◌≡◌ {A = Term} (b, m) (times p c t.0, t.1)
scaled p c b x m t h e = λ i. ((h ∙ ap (λ (u : Term). times p c u.0) e) i, (e i).1)

module _ (order : Monomial → Monomial → Comparison) (p top a c : ℕ) (s : Words) (from len : ℕ) where
  abbrev pub adding_from : ℕ → Vector → Result Vector
  adding_from i v = add_result order p top a c (rows s (from + i) (len - i)) v

  adding_first : (i : ℕ) (v : Vector) → i < len
      → adding_from i v ≡ (grow order p top a (times p c (row_at s (from + i)).0, (row_at s (from + i)).1) v >>= λ w. adding_from (i + 1) w)
  adding_first i v h =
      let e : len - i ≡ suc (len - (i + 1)) = omega arith in
      let f : suc (from + i) ≡ from + (i + 1) = omega arith in
      ap (λ n. add_result order p top a c (rows s (from + i) n) v) e
      ∙ ap (λ g. add_result order p top a c g v) (rows_first s (from + i) (len - (i + 1)))
      ∙ ap (λ k. grow order p top a (times p c (row_at s (from + i)).0, (row_at s (from + i)).1) v
      >>= λ w. add_result order p top a c (rows s k (len - (i + 1))) w) f

  module _ (i : ℕ) (v : Vector) (inside : i < len) (u : Term) (x : Option ℕ) (z : Words)
      (term : u ≡ (times p c (row_at s (from + i)).0, (row_at s (from + i)).1)) (gives : grown_of a x z ≡ grow order p top a u v) where
    after : adding_from i v ≡ (grown_of a x z >>= λ w. adding_from (i + 1) w)
    after = adding_first i v inside ∙ ap (λ y. y >>= λ w. adding_from (i + 1) w) (ap (λ y. grow order p top a y v) (sym term) ∙ sym gives)

    pub adding_on : (k : ℕ) → x ≡ Some k → adding_from i v ≡ adding_from (i + 1) (rows z a k)
    adding_on k e = after ∙ ap (λ y. grown_of a y z >>= λ w. adding_from (i + 1) w) e

    pub adding_stops : x ≡ None → adding_from i v ≡ refusal 14
    adding_stops e = after ∙ ap (λ y. grown_of a y z >>= λ w. adding_from (i + 1) w) e

  pub adding_ends : (i : ℕ) (v : Vector) → len ≤ i → adding_from i v ≡ done v
  adding_ends i v h = let e : len - i ≡ 0 = omega arith in ap (λ n. add_result order p top a c (rows s (from + i) n) v) e
      ∙ ap (λ g. add_result order p top a c g v) (rows_none s (from + i))

-- ## The slice that holds a result

pub held_row : (b : Bool) (c s z : Words) (top i : ℕ) → Leaves top s z → (b ≡ false → top ≤ i) → row_at (choose b c z) i ≡ row_at (choose b c s) i
held_row true c s z top i l h = refl
held_row false c s z top i l h = l i (h refl)
