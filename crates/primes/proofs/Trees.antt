-- Nor does the tree; so that levels and acceptance are the same.
use mathlib.Core.Path.{◌≡◌, refl, ap}
use mathlib.Core.Bool.{Bool, true, false}
use mathlib.Core.Option.{Option, none, some}
use mathlib.Core.List.{List, [], ◌∷◌}
use Prim.Native.Nat.{ℕ, zero, suc, ◌+◌, ◌-◌}
use lib.Dec.{ltb}
use lib.ListN.{length}
use Rattle.definitions.specs.Limits.{Limits, with_working}
use Rattle.definitions.specs.Lists.{rest}
use Rattle.definitions.specs.Field.{minus}
use Rattle.definitions.specs.Monomial.{Exponents, Monomial, Term, Vector, Level, fits?, vector_of}
use Rattle.definitions.specs.Reducer.{Answer, reducer, lower_order, answer}
use Rattle.definitions.specs.Result.{done, at_level, refusal, ◌>>=◌}
use Rattle.definitions.specs.Stage.{Stage, highest}
use Rattle.definitions.specs.Run.{multiple, hybrid_strategy, division_strategy, accepting_strategy}
use Rattle.definitions.specs.Tree.{Cache, Sum, LiftTerm, LiftList, cached, finish, add_result, add_subtree, if_product_fits, lift_list, open_subtree, or_open}
use Rattle.definitions.specs.Tree.{lift_by, lift_term, if_vector_product_fits, lift_vector, tree}
use Rattle.definitions.specs.Lifting.{Lifting, by_division, by_hybrid, by_tree, lift_one, Lifted, with_vector, lift_all, limited_frame, lift_level}
use Rattle.definitions.specs.Lifting.{at_frame_term}
use Rattle.definitions.specs.Lifting.{accept_from, accept}
use Rattle.definitions.specs.State.{State, up_to}
use Rattle.definitions.specs.Calls.{lift}
use Rattle.primes.specs.Primes.{with_prime_bound}
use Rattle.primes.proofs.Runs.{old, new, run_same}

module _ (lim : Limits) (bound : ℕ) where
  abbrev wide : Limits
  wide = with_prime_bound bound lim

  module _ (p code : ℕ) (below : List Level) where
    abbrev S : Stage
    S = old lim bound p code below

    abbrev S' : Stage
    S' = new lim bound p code below

    abbrev SameTerms : LiftTerm → LiftTerm → Type 0
    SameTerms l l' = (others : ℕ) (cache : Cache) (m : Monomial) → l' others cache m ≡ l others cache m

    abbrev SameLists : LiftList → LiftList → Type 0
    SameLists l l' = (others c : ℕ) (q : Exponents) (f : Vector) (s : Sum) → l' others c q f s ≡ l others c q f s

    -- ## Subtrees

    product_same : (l l' : LiftTerm) → SameTerms l l' → (b : Bool) (others : ℕ) (t : Term) (s : Sum)
        → if_product_fits b S' l' others t s ≡ if_product_fits b S l others t s
    product_same l l' h false others t s = refl
    product_same l l' h true others t s = λ i. h (others + length s.0) s.1 t.1 i >>= λ r. add_subtree S others t.0 s.0 r

    list_same : (l l' : LiftTerm) → SameTerms l l' → SameLists (lift_list S l) (lift_list S' l')
    list_same l l' h others c q [] s = refl
    list_same l l' h others c q (t ∷ f) s = λ i.
        product_same l l' h (fits? lim.exponent (multiple p c q t).1.0) others (multiple p c q t) s i >>= λ r.
        list_same l l' h others c q f r i

    module _ (room : ℕ) (l l' : LiftList) (h : SameLists l l') (others : ℕ) (cache : Cache) (m : Monomial) where
      open_same : (b : Bool) (j c : ℕ) (q : Exponents) → open_subtree b S' room l' others cache m j c q ≡ open_subtree b S room l others cache m j c q
      open_same false j c q = refl
      open_same true j c q =
          λ i. h others c q (rest (vector_of (highest below) j)) ((c, (q, j)) ∷ [], cache) i >>= λ s. done (finish room m s)

      found_same : (o : Option Vector) (j c : ℕ) (q : Exponents) → or_open o S' room l' others cache m j c q ≡ or_open o S room l others cache m j c q
      found_same (some v) j c q = refl
      found_same none j c q = open_same (ltb others lim.tree) j c q

      by_same : (a : Answer) → lift_by a S' room l' others cache m ≡ lift_by a S room l others cache m
      by_same lower_order = refl
      by_same (reducer j c q) = found_same (cached m cache) j (minus p c) q

    term_same : (room left : ℕ) → SameTerms (lift_term S room left) (lift_term S' room left)
    term_same room zero others cache m =
        by_same room (λ o c q f s. refusal 14) (λ o c q f s. refusal 14) (λ o c q f s. refl) others cache m (answer p S.reduction.heads (1, m))
    term_same room (suc left) others cache m =
        by_same room (lift_list S (lift_term S room left)) (lift_list S' (lift_term S' room left))
        (list_same (lift_term S room left) (lift_term S' room left) (term_same room left)) others cache m (answer p S.reduction.heads (1, m))

    -- ## The vector

    own_same : (l l' : LiftTerm) → SameTerms l l' → (b : Bool) (t : Term) (s : Sum) → if_vector_product_fits b S' l' t s
        ≡ if_vector_product_fits b S l t s
    own_same l l' h false t s = refl
    own_same l l' h true t s = λ i.
        h 0 s.1 t.1 i >>= λ r.
        add_result S.above p lim.vector 0 t.0 r.0 s.0 >>= λ grown.
        done (grown, r.2)

    vector_same : (l l' : LiftTerm) → SameTerms l l' → (c : ℕ) (q : Exponents) (f : Vector) (s : Sum) → lift_vector S' l' c q f s
        ≡ lift_vector S l c q f s
    vector_same l l' h c q [] s = refl
    vector_same l l' h c q (t ∷ f) s = λ i.
        own_same l l' h (fits? lim.exponent (multiple p c q t).1.0) (multiple p c q t) s i >>= λ r. vector_same l l' h c q f r i

    tree_same : (room : ℕ) (cache : Cache) (m : Monomial) → tree S' room cache m ≡ tree S room cache m
    tree_same room cache m =
        vector_same (lift_term S room lim.tree) (lift_term S' room lim.tree) (term_same room lim.tree) 1 m.0
        (vector_of (highest below) m.1)
        ((1, m) ∷ [], cache)

    -- ## A level, and acceptance

    one_same : (way : Lifting) (n : ℕ) (cache : Cache) (m : Monomial) → lift_one S' way n cache m ≡ lift_one S way n cache m
    one_same by_division n cache m = ap (λ x. x >>= λ v. done (v, cache)) (run_same lim bound p code below (division_strategy S) n m)
    one_same (by_hybrid pick w) n cache m =
        ap (λ x. x >>= λ v. done (v, cache)) (run_same (with_working w lim) bound p code below (hybrid_strategy S pick) n m)
    one_same (by_tree room) n cache m = tree_same room cache m

    all_same : (way : Lifting) (n : ℕ) (l : Lifted) (cache : Cache) (ms : List Monomial)
        → lift_all S' (lift_one S' way n) l cache ms ≡ lift_all S (lift_one S way n) l cache ms
    all_same way n l cache [] = refl
    all_same way n l cache (m ∷ ms) = λ i. one_same way n cache m i >>= λ s. with_vector S l s >>= λ l'. all_same way n l' s.1 ms i

    from_same : (n i : ℕ) (ms : List Monomial) → accept_from S' n i ms ≡ accept_from S n i ms
    from_same n i [] = refl
    from_same n i (m ∷ ms) = λ j. at_frame_term i (run_same lim bound p code below (accepting_strategy S) n m j) >>= λ v. from_same n (suc i) ms j

    level_same : (way : Lifting) (n : ℕ) → lift_level wide p code below way n ≡ lift_level lim p code below way n
    level_same way n = λ i. limited_frame lim code (highest below) >>= λ ms. all_same way n ([], 0) [] ms i

  pub accept_same : (p code : ℕ) (f : Level) (n : ℕ) → accept wide p code f n ≡ accept lim p code f n
  accept_same p code f n = λ i. limited_frame lim code f >>= λ ms. from_same p code (f ∷ []) n 1 ms i

  pub lift_same : (n : ℕ) (X : State) (k : ℕ) (way : Lifting) → lift wide n X k way ≡ lift lim n X k way
  lift_same n X k way =
      ap (λ x. at_level k x >>= λ f. done (record { parameters = X.parameters; levels = f ∷ up_to X (k - 1) }))
      (level_same X.parameters.p X.parameters.code (up_to X (k - 1)) way n)
