-- The definition's liftings by what the code's calls give.
use mathlib.Core.Path.{◌≡◌, refl, sym, ap, ◌∙◌}
use mathlib.Core.Bool.{Bool, true, false}
use mathlib.Core.Option.{none, some}
use mathlib.Core.List.{[], ◌∷◌}
use Prim.Native.Nat.{ℕ, zero, suc, ◌+◌, ◌-◌, ◌*◌, ◌<◌, ◌≤◌}
use native.Mathlib.Omega.{arith}
use lib.Dec.{ltb}
use lib.ListN.{length, get_or}
use borrow.Author.Tests.{lt-ltb}
use Rattle.definitions.specs.Lists.{rest}
use Rattle.definitions.specs.Field.{minus}
use Rattle.definitions.specs.Monomial.{Exponents, Monomial, Term, Vector, fits?, vector_of}
use Rattle.definitions.specs.Reducer.{Answer, reducer, lower_order, answer}
use Rattle.definitions.specs.Result.{Result, done, refusal, ◌>>=◌}
use Rattle.definitions.specs.Run.{multiple}
use Rattle.definitions.specs.Stage.{Stage}
use Rattle.definitions.specs.Tree as definition
use Rattle.definitions.specs.Tree.{Cache, LiftTerm, finish, cached, if_product_fits, lift_product, lift_list, lift_term, open_subtree, or_open, lift_by}
use Rattle.definitions.specs.Layout.{Words, row_at, rows}
use Rattle.laws.proofs.Packing.{Eight}
use Rattle.laws.proofs.Rows.{length_rows, rows_first}
use Rattle.definitions.specs.Places.{row_length, most_exponent}
use Rattle.vectors.specs.terms.Rows.{written, term_of}
use Rattle.vectors.specs.declared.terms.Term.{Term as CodeTerm}
use Rattle.std.specs.Prelude.{Option, Some, None}
use Rattle.reducers.specs.search.Search.{formed_term, multiple_of}
use Rattle.runs.proofs.reduction.Adding.{fits_as, formed_as, unformed}
use Rattle.vectors.proofs.terms.Stored.{written_here, written_other}
use Rattle.runs.specs.reduction.Grounds.{first_row, Family, family_of}
use Rattle.runs.specs.declared.reduction.Ground.{Ground}
use Rattle.runs.proofs.reduction.Families.{vector_at}
use Rattle.cache.specs.Area.{Keeps}
use Rattle.cache.proofs.BoundedSums.{rows_none}
use Rattle.cache.proofs.Parts.{rows_kept}
use Rattle.tree.specs.subtrees.Sums.{added_to, list_at}

-- ## A product

pub formed_product : (x : Option CodeTerm) (u : CodeTerm) (t : Term) → x ≡ Some u → multiple_of x ≡ formed_term t
    → (fits? most_exponent t.1.0 ≡ true) × (term_of u ≡ t)
formed_product x u t n e =
    let q = sym (ap multiple_of n) ∙ e in
    (fits_as (fits? most_exponent t.1.0) (term_of u) t q, formed_as (fits? most_exponent t.1.0) (term_of u) t q)

pub unformed_product : (x : Option CodeTerm) (t : Term) → x ≡ None → multiple_of x ≡ formed_term t → fits? most_exponent t.1.0 ≡ false
unformed_product x t n e = unformed (fits? most_exponent t.1.0) t (sym (ap multiple_of n) ∙ e)

-- ## A list, one product after the other

module _ (S : Stage) (lift : LiftTerm) (a c : ℕ) (q : Exponents) (level : Words) (to : ℕ) where
  abbrev pub listing_from : ℕ → definition.Sum → Result definition.Sum
  listing_from i s = lift_list S lift a c q (rows level i (to - i)) s

  abbrev pub product_at : ℕ → Term
  product_at i = multiple S.reduction.p c q (row_at level i)

  listing_first : (i : ℕ) (s : definition.Sum) → i < to → listing_from i s ≡ (lift_product S lift a (product_at i) s >>= λ r. listing_from (i + 1) r)
  listing_first i s h =
      let e : to - i ≡ suc (to - (i + 1)) = omega arith in
      let f : suc i ≡ i + 1 = omega arith in
      ap (λ n. lift_list S lift a c q (rows level i n) s) e
      ∙ ap (λ v. lift_list S lift a c q v s) (rows_first level i (to - (i + 1)))
      ∙ ap (λ k. lift_product S lift a (product_at i) s >>= λ r. lift_list S lift a c q (rows level k (to - (i + 1))) r) f

  pub listing_unfit : (i : ℕ) (s : definition.Sum) → i < to → fits? S.reduction.limits.exponent (product_at i).1.0 ≡ false → listing_from i s
      ≡ refusal 13
  listing_unfit i s h e =
      listing_first i s h ∙ ap (λ b. if_product_fits b S lift a (product_at i) s >>= λ r. listing_from (i + 1) r) e

  pub listing_ends : (i : ℕ) (s : definition.Sum) → to ≤ i → listing_from i s ≡ done s
  listing_ends i s h =
      let e : to - i ≡ 0 = omega arith in
      ap (λ n. lift_list S lift a c q (rows level i n) s) e ∙ ap (λ v. lift_list S lift a c q v s) (rows_none level i)

  -- one product lifted and added, as the two calls give it
  module _ (i n : ℕ) (w : Words) (k : Cache) (t : Term) (inside : i < to) (fits : fits? S.reduction.limits.exponent (product_at i).1.0 ≡ true)
      (product : t ≡ product_at i) where
    abbrev added : Vector → Result definition.Subtree → Result definition.Sum
    added v x = added_to S.above S.reduction.p S.reduction.limits.tree a t.0 v x

    abbrev further : Result definition.Sum → Result definition.Sum
    further x = x >>= λ r. listing_from (i + 1) r

    one_product : lift_product S lift a (product_at i) (rows w a n, k) ≡ added (rows w a n) (lift (a + n) k t.1)
    one_product =
        ap (λ b. if_product_fits b S lift a (product_at i) (rows w a n, k)) fits
        ∙ (λ x. added_to S.above S.reduction.p S.reduction.limits.tree a (sym product x).0 (rows w a n)
        (lift (a + length_rows w a n x) k (sym product x).1))

    lifted : listing_from i (rows w a n, k) ≡ further (added (rows w a n) (lift (a + n) k t.1))
    lifted = listing_first i (rows w a n, k) inside ∙ ap further one_product

    pub listing_unlifted : (number : ℕ) → refusal number ≡ lift (a + n) k t.1 → listing_from i (rows w a n, k) ≡ refusal number
    listing_unlifted number e = lifted ∙ ap (λ x. further (added (rows w a n) x)) (sym e)

    module _ (w₁ : Words) (x : Result definition.Subtree) (keeps : Keeps (a + n) w w₁) (lifts : x ≡ lift (a + n) k t.1) where
      after : listing_from i (rows w a n, k) ≡ further (added (rows w₁ a n) x)
      after = lifted ∙ (λ y. further (added (sym (rows_kept w w₁ a n (a + n) (omega arith) keeps) y) (sym lifts y)))

      pub listing_on : (r : definition.Sum) → done r ≡ added (rows w₁ a n) x → listing_from i (rows w a n, k) ≡ listing_from (i + 1) r
      listing_on r e = after ∙ ap further (sym e)

      pub listing_stops : (number : ℕ) → refusal number ≡ added (rows w₁ a n) x → listing_from i (rows w a n, k) ≡ refusal number
      listing_stops number e = after ∙ ap further (sym e)

-- ## A term

module _ (S : Stage) (room left others : ℕ) (k : Cache) (m : Monomial) where
  abbrev answered : Answer
  answered = answer S.reduction.p S.reduction.heads (1, m)

  term_is : lift_term S room left others k m ≡ lift_by answered S room (list_at S room left) others k m
  term_is = go left
    where
      go : (left : ℕ) → lift_term S room left others k m ≡ lift_by answered S room (list_at S room left) others k m
      go zero = refl
      go (suc left) = refl

  abbrev opened : ℕ → ℕ → Exponents → Bool → Result definition.Subtree
  opened j c q b = open_subtree b S room (list_at S room left) others k m j c q

  pub term_lower : lower_order ≡ answered → lift_term S room left others k m ≡ done ([], 0, k)
  term_lower e = term_is ∙ ap (λ x. lift_by x S room (list_at S room left) others k m) (sym e)

  pub term_found : (j c : ℕ) (q : Exponents) (v : Vector) → reducer j c q ≡ answered → some v ≡ cached m k → lift_term S room left others k m
      ≡ done (v, 0, k)
  term_found j c q v e f =
      term_is ∙ ap (λ x. lift_by x S room (list_at S room left) others k m) (sym e)
      ∙ ap (λ x. or_open x S room (list_at S room left) others k m j (minus S.reduction.p c) q) (sym f)

  pub term_opened : (j c : ℕ) (q : Exponents) → reducer j c q ≡ answered → none ≡ cached m k
      → lift_term S room left others k m ≡ open_subtree (ltb others S.reduction.limits.tree) S room (list_at S room left) others k m j
      (minus S.reduction.p c) q
  term_opened j c q e f =
      term_is ∙ ap (λ x. lift_by x S room (list_at S room left) others k m) (sym e)
      ∙ ap (λ x. or_open x S room (list_at S room left) others k m j (minus S.reduction.p c) q) (sym f)

  -- ## A subtree opened

  pub opened_list : (j c d : ℕ) (q : Exponents) (f v : Vector) → others < S.reduction.limits.tree → 0 < left → d ≡ c → rest (vector_of S.family j)
      ≡ f → v ≡ (d, (q, j)) ∷ []
      → opened j c q (ltb others S.reduction.limits.tree) ≡ (lift_list S (lift_term S room (left - 1)) others d q f (v, k)
      >>= λ s. done (finish room m s))
  opened_list j c d q f v h z hd hf hv =
      let e : left ≡ suc (left - 1) = omega arith in
      ap (λ n. open_subtree (ltb others S.reduction.limits.tree) S room (list_at S room n) others k m j c q) e
      ∙ ap (λ b. open_subtree b S room (list_at S room (suc (left - 1))) others k m j c q) (lt-ltb others S.reduction.limits.tree h)
      ∙ (λ i. lift_list S (lift_term S room (left - 1)) others (sym hd i) q (hf i) ((sym hd i, (q, j)) ∷ [], k) >>= λ s. done (finish room m s))
      ∙ ap (λ x. lift_list S (lift_term S room (left - 1)) others d q f (x, k) >>= λ s. done (finish room m s)) (sym hv)

-- ## The parts of an opened subtree

-- its first term, stored
pub first_stored : (s z : Words) (a : ℕ) (t : Term) → z ≡ written s a t → Eight t.1.0 → a * row_length + row_length ≤ length s → rows z a 1 ≡ t ∷ []
first_stored s z a t e h l =
    let y : suc 0 ≡ 1 = omega arith in
    rows_first z a 0 ∙ (λ i. (ap (λ x. row_at x a) e ∙ written_here s a t l h) i ∷ rows_none z (suc a) i)

pub stored_keeps : (s z : Words) (a : ℕ) (t : Term) → z ≡ written s a t → Eight t.1.0 → a * row_length + row_length ≤ length s → Keeps a s z
stored_keeps s z a t e h l k m = ap (λ x. row_at x k) e ∙ written_other s a t k l h (λ q. omega arith)

rest_rows : (s : Words) (a e : ℕ) → rest (rows s a (e - a)) ≡ rows s (a + 1) (e - (a + 1))
rest_rows s a e = go (e - a) refl
  where
    go : (n : ℕ) → e - a ≡ n → rest (rows s a n) ≡ rows s (a + 1) (e - (a + 1))
    go zero h =
        let z : 0 ≡ e - (a + 1) = omega arith in
        ap rest (rows_none s a) ∙ sym (rows_none s (a + 1)) ∙ ap (rows s (a + 1)) z
    go (suc n) h =
        let y : suc a ≡ a + 1 = omega arith in
        let z : n ≡ e - (a + 1) = omega arith in
        ap rest (rows_first s a n) ∙ (λ i. rows s (y i) (z i))

-- the reducer's other terms
pub rest_of : (g : Ground) (level ends : Words) (j from to : ℕ) → Family g level ends → 1 ≤ j → j ≤ g.r → from ≡ first_row ends j → to
    ≡ get_or ends (j - 1) 0
    → rest (vector_of (family_of g level ends) j) ≡ rows level (from + 1) (to - (from + 1))
rest_of g level ends j from to F h l e f =
    ap rest (vector_at level ends g.r j F.ends_fit h l) ∙ rest_rows level (first_row ends j) (get_or ends (j - 1) 0)
    ∙ (λ i. rows level (sym e i + 1) (sym f i - (sym e i + 1)))
