-- Lifting by the tree as one piece of work after the other, over a stack of sums: what counts for 14, and where 13 and 14 come.
use Rattle.std.specs.Prelude.{◌≡◌, Bool, true, false, List, [], ◌∷◌, ℕ, zero, suc, ◌+◌, ◌≤◌, leb, length}
use Rattle.std.proofs.Math.Option.{Option, none, some}
use Rattle.definitions.specs.Lists.{rest}
use Rattle.definitions.specs.Field.{times, minus}
use Rattle.definitions.specs.Monomial.{Exponents, Monomial, Term, Vector, vector_of}
use Rattle.definitions.specs.Reducer.{Answer, reducer, lower_order, answer}
use Rattle.definitions.specs.Result.{Result, done, refused}
use Rattle.definitions.specs.Vectors.{insert}
use Rattle.definitions.specs.Stage.{Stage}
use Rattle.definitions.specs.Run.{multiple}
use Rattle.definitions.specs.Tree.{Cache, cached, used, Sum, lift_term, lift_vector}
use Rattle.limits_met.specs.Limits.{All, Fits}

-- ## Where the work stands

-- a sum that is not finished: a subtree's, or the frame term's own
pub record Open : Type 0 where
  -- the monomial that it lifts, and the coefficient of the product for which it does
  pub monomial : Monomial
  pub coefficient : ℕ
  -- its terms so far, equal monomials combined
  pub sum : Vector
  -- the products that are still to be taken: c·q times these terms, in their order
  pub c : ℕ
  pub q : Exponents
  pub left : Vector

-- a finished subtree on its way into its parent's sum: the coefficient, its terms that are not yet added, and how many it counts until all are
pub record Handed : Type 0 where
  pub coefficient : ℕ
  pub terms : Vector
  pub counts : ℕ

pub record Work : Type 0 where
  -- the innermost sum, and those in which it stands: the frame term's own is the last
  pub inner : Open
  pub outer : List Open
  pub handed : Option Handed
  pub cache : Cache

-- ## What counts

-- "For 14 an unfinished subtree counts its terms so far, equal monomials combined"; "the frame term's own sum .. counts only there"
abbrev pub unfinished_terms : Vector → List Open → ℕ
unfinished_terms sum [] = 0
unfinished_terms sum (parent ∷ outer) = unfinished_terms parent.sum outer + length sum

-- "a finished one that is not in the cache counts until its parent has added it whole; a part of the cache counts nothing"
abbrev pub waiting : Option Handed → ℕ
waiting none = 0
waiting (some h) = h.counts

-- "the frame term's own sum is the vector"
abbrev pub own : Vector → List Open → Vector
own sum [] = sum
own sum (parent ∷ outer) = own parent.sum outer

-- no 513th term in the vector, no 4,097th in the unfinished subtrees together
abbrev pub Within : Stage → Work → Type 0
Within S W =
    (unfinished_terms W.inner.sum W.outer + waiting W.handed ≤ S.reduction.limits.tree)
    × (length (own W.inner.sum W.outer) ≤ S.reduction.limits.vector)

-- ## What is done next, without regard to any limit

abbrev pub work : Open → List Open → Option Handed → Cache → Work
work o outer h cache = record { inner = o; outer = outer; handed = h; cache = cache }

abbrev pub hand : ℕ → Vector → ℕ → Option Handed
hand c v n = some (record { coefficient = c; terms = v; counts = n })

-- the same sum with other terms; with other products to take
abbrev pub with_sum : Vector → Open → Open
with_sum v o = record { monomial = o.monomial; coefficient = o.coefficient; sum = v; c = o.c; q = o.q; left = o.left }

abbrev pub with_left : Vector → Open → Open
with_left f o = record { monomial = o.monomial; coefficient = o.coefficient; sum = o.sum; c = o.c; q = o.q; left = f }

-- "a result is added to its parent's sum greatest term first", "Each sum is kept descending in the induced order"
abbrev pub add_handed : Stage → Work → Handed → Vector → Work
add_handed S W h [] = work W.inner W.outer none W.cache
add_handed S W h (t ∷ v) =
    work (with_sum (insert S.above S.reduction.p (times S.reduction.p h.coefficient t.0, t.1) W.inner.sum) W.inner) W.outer
    (hand h.coefficient v h.counts) W.cache

-- "A subtree's sum starts with its reducer's multiple, sign turned; the first product cancels the subtree's term, the others are taken .."
abbrev pub subtree : Stage → Term → ℕ → ℕ → Exponents → Open
subtree S u j c q = record {
  monomial = u.1;
  coefficient = u.0;
  sum = (c, (q, j)) ∷ [];
  c = c;
  q = q;
  left = rest (vector_of S.family j);
}

-- a product that the cache has is handed on from there; else its subtree is opened, in the sum that took it
abbrev pub found_or_opened : Stage → Open → List Open → Cache → Term → ℕ → ℕ → Exponents → Option Vector → Work
found_or_opened S o outer cache u j c q (some v) = work o outer (hand u.0 v 0) cache
found_or_opened S o outer cache u j c q none = work (subtree S u j c q) (o ∷ outer) none cache

-- "those of lower order adding nothing"
abbrev pub take_product : Stage → Open → List Open → Cache → Term → Answer → Work
take_product S o outer cache u lower_order = work o outer (hand u.0 [] 0) cache
take_product S o outer cache u (reducer j c q) = found_or_opened S o outer cache u j (minus S.reduction.p c) q (cached u.1 cache)

-- "each subtree that finishes is put into it whole if it still fits, taking one term more than it has"
abbrev pub finish_subtree : Bool → Open → Open → List Open → Cache → Work
finish_subtree true o parent outer cache = work parent outer (hand o.coefficient o.sum 0) ((o.monomial, o.sum) ∷ cache)
finish_subtree false o parent outer cache = work parent outer (hand o.coefficient o.sum (length o.sum)) cache

-- nothing is left where the frame term's own sum is finished
abbrev pub finished : ℕ → Open → List Open → Cache → Option Work
finished room o [] cache = none
finished room o (parent ∷ outer) cache = some (finish_subtree (leb (used cache + suc (length o.sum)) room) o parent outer cache)

-- the innermost sum's next product; "taken and lifted one by one in the reducer's term order"
abbrev pub product_of : Stage → Open → Vector → Option Term
product_of S o [] = none
product_of S o (t ∷ f) = some (multiple S.reduction.p o.c o.q t)

abbrev pub next_product : Stage → ℕ → Work → Vector → Option Work
next_product S room W [] = finished room W.inner W.outer W.cache
next_product S room W (t ∷ f) =
    let u = multiple S.reduction.p W.inner.c W.inner.q t in
    some (take_product S (with_left f W.inner) W.outer W.cache u (answer S.reduction.p S.reduction.heads (1, u.1)))

abbrev pub next_by : Stage → ℕ → Work → Option Handed → Option Work
next_by S room W (some h) = some (add_handed S W h h.terms)
next_by S room W none = next_product S room W W.inner.left

-- what follows; none where the vector is finished
abbrev pub next : Stage → ℕ → Work → Option Work
next S room W = next_by S room W W.handed

abbrev pub taken_by : Stage → Work → Option Handed → Option Term
taken_by S W (some h) = none
taken_by S W none = product_of S W.inner W.inner.left

-- the product that is taken next, if one is
abbrev pub taken : Stage → Work → Option Term
taken S W = taken_by S W W.handed

-- it has no exponent above the limit
abbrev pub Fitting : Stage → Option Term → Type 0
Fitting S none = Unit {0}
Fitting S (some u) = Fits S.reduction.limits.exponent u.1.0

-- ## What it comes to

-- From W on: to the end, within the limits all the way; to a product with an exponent above the limit, "even if it would be dropped"; or to where the
-- next piece of work would be past a limit. "A product is tested for 13 before 14."
pub data ComesTo (S : Stage) (room : ℕ) : Work → Result Sum → Type 0 where
  ends : {W : Work} → next S room W ≡ none → ComesTo S room W (done (W.inner.sum, W.cache))
  thirteen : {W : Work} {u : Term} → taken S W ≡ some u → ¬ (Fits S.reduction.limits.exponent u.1.0) → ComesTo S room W (refused 13 0 [])
  fourteen : {W W' : Work} → Fitting S (taken S W) → next S room W ≡ some W' → ¬ (Within S W') → ComesTo S room W (refused 14 0 [])
  goes_on : {W W' : Work} {r : Result Sum} → Fitting S (taken S W) → next S room W ≡ some W' → Within S W' → ComesTo S room W' r → ComesTo S room W r

-- "the vector starts as the frame term m·e_i and the first products are those of m·f_i"
abbrev pub frame_work : Stage → Cache → Monomial → Work
frame_work S cache m =
    work (record { monomial = m; coefficient = 1; sum = (1, m) ∷ []; c = 1; q = m.0; left = vector_of S.family m.1 }) [] none cache

-- a frame term by the tree
abbrev pub TreeComes : Stage → ℕ → Cache → Monomial → Result Sum → Type 0
TreeComes S room cache m r = ComesTo S room (frame_work S cache m) r

-- ## How deep subtrees stand in each other

abbrev pub ShallowBy : Stage → (Monomial → Type 0) → Answer → Type 0
ShallowBy S P lower_order = Unit {0}
ShallowBy S P (reducer j c q) = All (λ t. P (multiple S.reduction.p 1 q t).1) (rest (vector_of S.family j))

abbrev pub NeverOpened : Answer → Type 0
NeverOpened lower_order = Unit {0}
NeverOpened (reducer j c q) = ⊥

-- lifting the monomial opens no more than so many subtrees in each other
abbrev pub Shallow : Stage → ℕ → Monomial → Type 0
Shallow S zero m = NeverOpened (answer S.reduction.p S.reduction.heads (1, m))
Shallow S (suc n) m = ShallowBy S (Shallow S n) (answer S.reduction.p S.reduction.heads (1, m))

-- .. and so does lifting a frame term
abbrev pub ShallowFrame : Stage → ℕ → Monomial → Type 0
ShallowFrame S n m = All (λ t. Shallow S n (multiple S.reduction.p 1 m.0 t).1) (vector_of S.family m.1)

-- a frame term's vector by the definition, with this bound on how many subtrees stand in each other
abbrev pub tree_by : ℕ → Stage → ℕ → Cache → Monomial → Result Sum
tree_by left S room cache m = lift_vector S (lift_term S room left) 1 m.0 (vector_of S.family m.1) ((1, m) ∷ [], cache)
