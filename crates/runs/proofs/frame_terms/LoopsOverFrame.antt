-- What the loops over the frame terms have come to. Each run has its own bound on steps; the sum of them suffices for all.
use mathlib.Core.Path.{◌≡◌, refl, sym, ap, ◌∙◌, subst}
use mathlib.Core.List.{List, [], ◌∷◌, map}
use Prim.Native.Nat.{ℕ, zero, suc, ◌+◌, ◌-◌, ◌<◌, ◌≤◌}
use native.Mathlib.Nat.{not-suc-le-zero}
use native.Mathlib.Omega.{arith}
use lib.Dec.{T}
use lib.ListN.{length, get_or, drop}
use Rattle.definitions.specs.Monomial.{Monomial, Vector, Level, no_term}
use Rattle.definitions.specs.Result.{Result, done, refused, unfinished, finished?, ◌>>=◌}
use Rattle.definitions.specs.Stage.{Stage}
use Rattle.definitions.specs.Run.{Strategy, run, accepting_strategy}
use Rattle.definitions.specs.Lifting.{Lifted, with_vector, lift_all, accepting_place, at_frame_term, accept_from}
use Rattle.definitions.specs.Layout.{Words, rows, row_at}
use Rattle.laws.proofs.Rows.{length_rows}
use Rattle.laws.proofs.Steady.{Steady, steady_from, bind_fixed}
use Rattle.laws.proofs.Bound.{run_steady}
use Rattle.vectors.proofs.sums.Rowwise.{at_row}
use Rattle.runs.specs.frame_terms.Vectors.{frame_terms, lifts, lifted_one}

-- ## The frame terms that are left

terms_from : (v : Vector) (i : ℕ) → i < length v → drop i (map (λ t. t.1) v) ≡ (get_or v i no_term).1 ∷ drop (suc i) (map (λ t. t.1) v)
terms_from [] i h = absurd (not-suc-le-zero h)
terms_from (t ∷ v) zero h = refl
terms_from (t ∷ v) (suc i) h = terms_from v i (omega arith)

none_from : (v : Vector) (i : ℕ) → length v ≤ i → ◌≡◌ {A = List Monomial} (drop i (map (λ t. t.1) v)) []
none_from [] zero h = refl
none_from [] (suc i) h = refl
none_from (t ∷ v) zero h = absurd (omega arith)
none_from (t ∷ v) (suc i) h = none_from v i (omega arith)

pub left_at : (frame : Words) (count i : ℕ) → i < count → drop i (frame_terms frame count) ≡ (row_at frame i).1 ∷ drop (i + 1) (frame_terms frame count)
left_at frame count i h =
    let e : suc i ≡ i + 1 = omega arith in
    terms_from (rows frame 0 count) i (omega (arith, length_rows frame 0 count))
    ∙ (λ k. (at_row frame count i h k).1 ∷ drop (e k) (frame_terms frame count))

pub left_none : (frame : Words) (count i : ℕ) → count ≤ i → drop i (frame_terms frame count) ≡ []
left_none frame count i h = none_from (rows frame 0 count) i (omega (arith, length_rows frame 0 count))

-- ## Lifting

module _ (S : Stage) (W : Strategy) (frame : Words) (count : ℕ) where
  abbrev all_from : ℕ → Lifted → List Monomial → Result Level
  all_from n l ms = lift_all S (lifts S W n) l [] ms

  pub record Going (l : Lifted) (i : ℕ) : Type 0 where
    pub bound : ℕ
    pub same : (n : ℕ) → bound ≤ n → all_from n ([], 0) (frame_terms frame count) ≡ all_from n l (drop i (frame_terms frame count))

  pub going_start : Going ([], 0) 0
  going_start = record { bound = 0; same = λ n h. refl }

  -- one frame term, then the others
  one_first : (n : ℕ) (l : Lifted) (m : Monomial) (ms : List Monomial) → all_from n l (m ∷ ms) ≡ (lifted_one S W n l m >>= λ l'. all_from n l' ms)
  one_first n l m ms = go (run S W n m)
    where
      go : (x : Result Vector)
          → ((x >>= λ v. done (v, [])) >>= λ s. with_vector S l s >>= λ l'. lift_all S (lifts S W n) l' s.1 ms)
          ≡ ((x >>= λ v. with_vector S l (v, [])) >>= λ l'. all_from n l' ms)
      go (done v) = refl
      go (refused number place value) = refl
      go unfinished = refl

  steady : (l : Lifted) (m : Monomial) → Steady finished? (λ n. lifted_one S W n l m)
  steady l m = bind_fixed (λ v. with_vector S l (v, [])) (λ n. run S W n m) (run_steady S W m)

  -- a larger bound gives the same
  within : (l : Lifted) (m : Monomial) (x : Result Lifted) (k n : ℕ) → k ≤ n → T (finished? x) → x ≡ lifted_one S W k l m → lifted_one S W n l m ≡ x
  within l m x k n h t e =
      let d : n ≡ k + (n - k) = omega arith in
      ap (λ j. lifted_one S W j l m) d ∙ steady_from finished? (λ n. lifted_one S W n l m) (steady l m) k (n - k) (subst (λ y. T (finished? y)) e t)
      ∙ sym e

  after : (l : Lifted) (i : ℕ) (x : Result Lifted) (k : ℕ) → Going l i → i < count → T (finished? x) → x ≡ lifted_one S W k l (row_at frame i).1
      → (b : ℕ) × ((n : ℕ) → b ≤ n → all_from n ([], 0) (frame_terms frame count)
      ≡ (x >>= λ l'. all_from n l' (drop (i + 1) (frame_terms frame count))))
  after l i x k a h t e = (
    a.bound + k,
    λ n b.
        a.same n (omega arith)
        ∙ ap (all_from n l) (left_at frame count i h)
        ∙ one_first n l (row_at frame i).1 (drop (i + 1) (frame_terms frame count))
        ∙ ap (λ y. y >>= λ l'. all_from n l' (drop (i + 1) (frame_terms frame count))) (within l (row_at frame i).1 x k n (omega arith) t e),
  )

  pub going_on : (l l' : Lifted) (i k : ℕ) → Going l i → i < count → done l' ≡ lifted_one S W k l (row_at frame i).1 → Going l' (i + 1)
  going_on l l' i k a h e = let z = after l i (done l') k a h tt e in record { bound = z.0; same = z.1 }

  pub going_refused : (l : Lifted) (i k number place : ℕ) (value : Vector) → Going l i → i < count → refused number place value
      ≡ lifted_one S W k l (row_at frame i).1
      → (n : ℕ) × (refused number place value ≡ all_from n ([], 0) (frame_terms frame count))
  going_refused l i k number place value a h e = let z = after l i (refused number place value) k a h tt e in (z.0, sym (z.1 z.0 (omega arith)))

  pub going_end : (l : Lifted) (i : ℕ) → Going l i → count ≤ i → (n : ℕ) × (done l.0 ≡ all_from n ([], 0) (frame_terms frame count))
  going_end l i a h = (a.bound, sym (a.same a.bound (omega arith) ∙ ap (all_from a.bound l) (left_none frame count i h)))

-- ## Accepting

module _ (S : Stage) (frame : Words) (count from : ℕ) where
  abbrev W : Strategy
  W = accepting_strategy S

  pub record Accepting (i : ℕ) : Type 0 where
    pub bound : ℕ
    pub same : (n : ℕ) → bound ≤ n → accept_from S n (from + 1) (drop from (frame_terms frame count)) ≡ accept_from S n (i + 1) (drop i (frame_terms frame count))

  pub accepting_start : Accepting from
  accepting_start = record { bound = 0; same = λ n h. refl }

  divided : (m : Monomial) (x : Result Vector) (k n : ℕ) → k ≤ n → T (finished? x) → x ≡ run S W k m → run S W n m ≡ x
  divided m x k n h t e =
      let d : n ≡ k + (n - k) = omega arith in
      ap (λ j. run S W j m) d ∙ steady_from finished? (λ n. run S W n m) (run_steady S W m) k (n - k) (subst (λ y. T (finished? y)) e t) ∙ sym e

  next : (i : ℕ) (x : Result Vector) (k : ℕ) → Accepting i → i < count → T (finished? x) → x ≡ run S W k (row_at frame i).1
      → (b : ℕ) × ((n : ℕ) → b ≤ n → accept_from S n (from + 1) (drop from (frame_terms frame count))
      ≡ (at_frame_term (i + 1) x >>= λ v. accept_from S n (i + 1 + 1) (drop (i + 1) (frame_terms frame count))))
  next i x k a h t e = (
    a.bound + k,
    λ n b.
        let s : suc (i + 1) ≡ i + 1 + 1 = omega arith in
        a.same n (omega arith)
        ∙ ap (accept_from S n (i + 1)) (left_at frame count i h)
        ∙ (λ j. at_frame_term (i + 1) (divided (row_at frame i).1 x k n (omega arith) t e j)
        >>= λ v. accept_from S n (s j) (drop (i + 1) (frame_terms frame count))),
  )

  pub accepting_on : (i k : ℕ) (v : Vector) → Accepting i → i < count → done v ≡ run S W k (row_at frame i).1 → Accepting (i + 1)
  accepting_on i k v a h e = let z = next i (done v) k a h tt e in record { bound = z.0; same = z.1 }

  pub accepting_refused : (i k number place : ℕ) (value : Vector) → Accepting i → i < count → refused number place value ≡ run S W k (row_at frame i).1
      → (n : ℕ) × (refused number (accepting_place (i + 1) number) value ≡ accept_from S n (from + 1) (drop from (frame_terms frame count)))
  accepting_refused i k number place value a h e = let z = next i (refused number place value) k a h tt e in (z.0, sym (z.1 z.0 (omega arith)))

  pub accepting_end : (i : ℕ) → Accepting i → count ≤ i → (n : ℕ) × (done tt ≡ accept_from S n (from + 1) (drop from (frame_terms frame count)))
  accepting_end i a h = (a.bound, sym (a.same a.bound (omega arith) ∙ ap (accept_from S a.bound (i + 1)) (left_none frame count i h)))
