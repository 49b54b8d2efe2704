-- Products lifted into the vector, by what the code's calls give.
use mathlib.Core.Path.{◌≡◌, refl, sym, ap, ◌∙◌}
use mathlib.Core.Bool.{true, false}
use Prim.Native.Nat.{ℕ, suc, ◌+◌, ◌-◌, ◌*◌, ◌<◌, ◌≤◌}
use native.Mathlib.Omega.{arith}
use lib.ListN.{get_or, take, drop}
use Rattle.definitions.specs.Monomial.{Exponents, Monomial, Term, Vector, fits?, vector_of}
use Rattle.definitions.specs.Order.{Comparison}
use Rattle.definitions.specs.Result.{Result, done, refusal, ◌>>=◌}
use Rattle.definitions.specs.Run.{multiple}
use Rattle.definitions.specs.Stage.{Stage}
use Rattle.definitions.specs.Tree as definition
use Rattle.definitions.specs.Tree.{Cache, LiftTerm, add_result, if_vector_product_fits, lift_vector_product, lift_vector}
use Rattle.definitions.specs.Layout.{Words, row_at, rows}
use Rattle.laws.proofs.Rows.{rows_first}
use Rattle.definitions.specs.Places.{row_length}
use Rattle.std.specs.Prelude.{Option, Some, None, Result as CodeResult, Ok}
use Rattle.words.specs.declared.refusals.Refusal.{Refusal}
use Rattle.runs.specs.reduction.Grounds.{first_row, Family, family_of}
use Rattle.runs.specs.declared.reduction.Ground.{Ground}
use Rattle.runs.proofs.reduction.Families.{vector_at}
use Rattle.cache.specs.Area.{grown_of}
use Rattle.cache.specs.Entries.{cache_of, subtree_of}
use Rattle.cache.specs.declared.Subtree.{Subtree}
use Rattle.cache.specs.declared.Subtree.TheVariants.{Cached, Waiting}
use Rattle.cache.proofs.BoundedSums.{rows_none}
use Rattle.cache.proofs.Parts.{part_rows}
use Rattle.tree.specs.subtrees.Sums.{sum_of, joined_as}
use Rattle.tree.specs.frame_terms.Frames.{added_vector}

-- ## A subtree into the vector

joined_is : (used : ℕ) (c z : Words) (x : Option ℕ) → sum_of 0 (joined_as x used) c z ≡ (grown_of 0 x z >>= λ y. done (y, cache_of used c))
joined_is used c z (Some n) = refl
joined_is used c z None = refl

module _ (O : Monomial → Monomial → Comparison) (p limit b tree : ℕ) (total : Vector) (c w z : Words) where
  -- the part that was handed on is the rows of the slice that holds it
  pub cached_fills : (from n used : ℕ) (x : Option ℕ) (s : Subtree) (r : CodeResult (ℕ × ℕ) Refusal) (part : Words) → s ≡ Cached from n used → r ≡ joined_as x used → part
      ≡ take (n * row_length) (drop (from * row_length) c)
      → grown_of 0 x z ≡ add_result O p limit 0 b (rows part 0 n) total → sum_of 0 r c z ≡ added_vector O p limit b total (subtree_of tree (Ok s) c w)
  cached_fills from n used x s r part e q h m =
      ap (λ y. sum_of 0 y c z) q ∙ joined_is used c z x
      ∙ ap (λ (y : Result Vector). y >>= λ v. done (v, cache_of used c))
      (m ∙ ap (λ v. add_result O p limit 0 b v total) (ap (λ y. rows y 0 n) h ∙ part_rows c from (n * row_length) n (omega arith)))
      ∙ ap (λ y. added_vector O p limit b total (subtree_of tree (Ok y) c w)) (sym e)

  pub waiting_fills : (n used : ℕ) (x : Option ℕ) (s : Subtree) (r : CodeResult (ℕ × ℕ) Refusal) (part : Words) → s ≡ Waiting n used → r ≡ joined_as x used → part
      ≡ take (n * row_length) (drop ((tree - n) * row_length) w)
      → grown_of 0 x z ≡ add_result O p limit 0 b (rows part 0 n) total → sum_of 0 r c z ≡ added_vector O p limit b total (subtree_of tree (Ok s) c w)
  waiting_fills n used x s r part e q h m =
      ap (λ y. sum_of 0 y c z) q ∙ joined_is used c z x
      ∙ ap (λ (y : Result Vector). y >>= λ v. done (v, cache_of used c))
      (m ∙ ap (λ v. add_result O p limit 0 b v total) (ap (λ y. rows y 0 n) h ∙ part_rows w (tree - n) (n * row_length) n (omega arith)))
      ∙ ap (λ y. added_vector O p limit b total (subtree_of tree (Ok y) c w)) (sym e)

-- ## One product after the other

module _ (S : Stage) (lift : LiftTerm) (q : Exponents) (level : Words) (to : ℕ) where
  abbrev pub filling_from : ℕ → definition.Sum → Result definition.Sum
  filling_from i s = lift_vector S lift 1 q (rows level i (to - i)) s

  abbrev pub product_at : ℕ → Term
  product_at i = multiple S.reduction.p 1 q (row_at level i)

  filling_first : (i : ℕ) (s : definition.Sum) → i < to → filling_from i s
      ≡ (lift_vector_product S lift (product_at i) s >>= λ r. filling_from (i + 1) r)
  filling_first i s h =
      let e : to - i ≡ suc (to - (i + 1)) = omega arith in
      let f : suc i ≡ i + 1 = omega arith in
      ap (λ n. lift_vector S lift 1 q (rows level i n) s) e
      ∙ ap (λ v. lift_vector S lift 1 q v s) (rows_first level i (to - (i + 1)))
      ∙ ap (λ k. lift_vector_product S lift (product_at i) s >>= λ r. lift_vector S lift 1 q (rows level k (to - (i + 1))) r) f

  pub filling_unfit : (i : ℕ) (s : definition.Sum) → i < to → fits? S.reduction.limits.exponent (product_at i).1.0 ≡ false → filling_from i s
      ≡ refusal 13
  filling_unfit i s h e =
      filling_first i s h ∙ ap (λ b. if_vector_product_fits b S lift (product_at i) s >>= λ r. filling_from (i + 1) r) e

  pub filling_ends : (i : ℕ) (s : definition.Sum) → to ≤ i → filling_from i s ≡ done s
  filling_ends i s h =
      let e : to - i ≡ 0 = omega arith in
      ap (λ n. lift_vector S lift 1 q (rows level i n) s) e ∙ ap (λ v. lift_vector S lift 1 q v s) (rows_none level i)

  -- one product lifted and added, as the two calls give it
  module _ (i n : ℕ) (w : Words) (k : Cache) (t : Term) (inside : i < to) (fits : fits? S.reduction.limits.exponent (product_at i).1.0 ≡ true)
      (product : t ≡ product_at i) where
    abbrev added : Result definition.Subtree → Result definition.Sum
    added x = added_vector S.above S.reduction.p S.reduction.limits.vector t.0 (rows w 0 n) x

    abbrev further : Result definition.Sum → Result definition.Sum
    further x = x >>= λ r. filling_from (i + 1) r

    one_product : lift_vector_product S lift (product_at i) (rows w 0 n, k) ≡ added (lift 0 k t.1)
    one_product =
        ap (λ b. if_vector_product_fits b S lift (product_at i) (rows w 0 n, k)) fits
        ∙ (λ x. added_vector S.above S.reduction.p S.reduction.limits.vector (sym product x).0 (rows w 0 n) (lift 0 k (sym product x).1))

    after : (x : Result definition.Subtree) → x ≡ lift 0 k t.1 → filling_from i (rows w 0 n, k) ≡ further (added x)
    after x e = filling_first i (rows w 0 n, k) inside ∙ ap further (one_product ∙ ap added (sym e))

    pub filling_unlifted : (number : ℕ) → refusal number ≡ lift 0 k t.1 → filling_from i (rows w 0 n, k) ≡ refusal number
    filling_unlifted number e = after (refusal number) e

    module _ (x : Result definition.Subtree) (lifts : x ≡ lift 0 k t.1) where
      pub filling_on : (r : definition.Sum) → done r ≡ added x → filling_from i (rows w 0 n, k) ≡ filling_from (i + 1) r
      filling_on r e = after x lifts ∙ ap further (sym e)

      pub filling_stops : (number : ℕ) → refusal number ≡ added x → filling_from i (rows w 0 n, k) ≡ refusal number
      filling_stops number e = after x lifts ∙ ap further (sym e)

-- ## The frame term's element

pub whole_of : (g : Ground) (level ends : Words) (j from to : ℕ) → Family g level ends → 1 ≤ j → j ≤ g.r → from ≡ first_row ends j → to
    ≡ get_or ends (j - 1) 0
    → vector_of (family_of g level ends) j ≡ rows level from (to - from)
whole_of g level ends j from to F h l e f = vector_at level ends g.r j F.ends_fit h l ∙ (λ i. rows level (sym e i) (sym f i - sym e i))
