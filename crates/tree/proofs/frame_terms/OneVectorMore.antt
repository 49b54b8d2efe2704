-- A vector made behind those that are kept, and all frame terms one after the other.
use mathlib.Core.Path.{◌≡◌, refl, sym, ap, ◌∙◌, subst}
use mathlib.Core.Bool.{Bool, true, false, not}
use mathlib.Core.List.{[], ◌∷◌, ◌++◌}
use Prim.Native.Nat.{ℕ, zero, suc, ◌+◌, ◌-◌, ◌*◌, ◌<◌, ◌≤◌}
use native.Mathlib.Omega.{arith}
use lib.Dec.{T, ltb, ltb→lt, nltb→le}
use lib.ListN.{length, get_or, set, take, drop, length-append, length-drop, get_or-append}
use lib.Seq.{paste, length-paste, get_or-append-add, get_or-take, get_or-drop, length-take-le, ext_get_or}
use Rattle.definitions.specs.Monomial.{Monomial, Level}
use Rattle.definitions.specs.Result.{Result, done, refused, unfinished, refusal, ◌>>=◌}
use Rattle.definitions.specs.Stage.{Stage}
use Rattle.definitions.specs.Tree.{Cache, Sum, tree}
use Rattle.definitions.specs.Lifting.{Lifted, with_vector, lift_all}
use Rattle.definitions.specs.Layout.{Words, row_at, rows, vectors_at}
use Rattle.laws.proofs.Rows.{length_rows}
use Rattle.definitions.specs.Places.{most_vectors, row_length, ends_length}
use Rattle.vectors.proofs.terms.Stored.{same_row}
use Rattle.vectors.proofs.terms.Moving.{getD_paste_in, getD_paste_below, getD_paste_above}
use Rattle.runs.specs.frame_terms.Vectors.{lifted_vectors, end_of, Kept, frame_terms}
use Rattle.runs.proofs.frame_terms.OneVectorMore.{vectors_same, vectors_grown, kept_grown, with_room, without_room}
use Rattle.runs.proofs.frame_terms.LoopsOverFrame.{left_at, left_none}
use Rattle.cache.specs.Entries.{cache_skip, cache_of}
use Rattle.tree.specs.frame_terms.Frames.{lifted_one}

-- ## The slice after a vector was made in a part of it

module _ (out p : Words) (start end : ℕ) (order : start ≤ end) (room : end ≤ length out) (long : length p ≡ end - start) where
  abbrev pub made : Words
  made = take start out ++ (p ++ drop (end - start) (drop start out))

  before : length (take start out) ≡ start
  before = length-take-le start out (omega arith)

  pub made_below : (x : ℕ) → x < start → get_or made x 0 ≡ get_or out x 0
  made_below x h = get_or-append (take start out) (p ++ drop (end - start) (drop start out)) 0 x (omega (arith, before)) ∙ get_or-take start out x 0 h

  pub made_inside : (x : ℕ) → x < end - start → get_or made (start + x) 0 ≡ get_or p x 0
  made_inside x h =
      let e : start + x ≡ length (take start out) + x = omega (arith, before) in
      ap (λ y. get_or made y 0) e ∙ get_or-append-add (take start out) (p ++ drop (end - start) (drop start out)) x 0
      ∙ get_or-append p (drop (end - start) (drop start out)) 0 x (omega arith)

  pub length_made : length made ≡ length out
  length_made =
      length-append (take start out) (p ++ drop (end - start) (drop start out))
      ∙ omega (arith, before, length-append p (drop (end - start) (drop start out)), length-drop (end - start) (drop start out), length-drop start out)

-- ## One vector more

module _ (out p : Words) (i used v end : ℕ) (order : used * row_length + ends_length ≤ end) (room : end ≤ length out)
    (long : length p ≡ end - (used * row_length + ends_length)) (small : i < most_vectors) (has : v * row_length ≤ length p)
    (kept : Kept i used out) where
  abbrev z : Words
  z = made out p (used * row_length + ends_length) end order room long

  below : (x : ℕ) → x < used * row_length + ends_length → get_or z x 0 ≡ get_or out x 0
  below = made_below out p (used * row_length + ends_length) end order room long

  as_long : length z ≡ length out
  as_long = length_made out p (used * row_length + ends_length) end order room long

  -- what would be copied stands there already
  stands : paste z (used * row_length + ends_length) p (v * row_length) ≡ z
  stands = ext_get_or 0 (paste z (used * row_length + ends_length) p (v * row_length)) z same at
    where
      fits : used * row_length + ends_length + v * row_length ≤ length z
      fits = omega (arith, as_long)

      same : length (paste z (used * row_length + ends_length) p (v * row_length)) ≡ length z
      same = length-paste z (used * row_length + ends_length) p (v * row_length) fits has

      at : (x : ℕ) → x < length (paste z (used * row_length + ends_length) p (v * row_length))
          → get_or (paste z (used * row_length + ends_length) p (v * row_length)) x 0 ≡ get_or z x 0
      at x h = go (ltb x (used * row_length + ends_length)) (ltb→lt x (used * row_length + ends_length)) (nltb→le x (used * row_length + ends_length))
          (ltb x (used * row_length + ends_length + v * row_length)) (ltb→lt x (used * row_length + ends_length + v * row_length))
          (nltb→le x (used * row_length + ends_length + v * row_length))
        where
          go : (b : Bool) → (T b → x < used * row_length + ends_length) → (T (not b) → used * row_length + ends_length ≤ x) → (d : Bool)
              → (T d → x < used * row_length + ends_length + v * row_length) → (T (not d) → used * row_length + ends_length + v * row_length ≤ x)
              → get_or (paste z (used * row_length + ends_length) p (v * row_length)) x 0 ≡ get_or z x 0
          go true f g d f' g' = getD_paste_below z (used * row_length + ends_length) p (v * row_length) x 0 (omega (arith, as_long)) (f tt)
          go false f g true f' g' =
              let l : used * row_length + ends_length ≤ x = g tt in
              let m : x < used * row_length + ends_length + v * row_length = f' tt in
              let e : x ≡ used * row_length + ends_length + (x - (used * row_length + ends_length)) = omega arith in
              ap (λ y. get_or (paste z (used * row_length + ends_length) p (v * row_length)) y 0) e
              ∙ getD_paste_in z (used * row_length + ends_length) p (v * row_length) (x - (used * row_length + ends_length)) 0 fits has
              (omega arith)
              ∙ sym (ap (λ y. get_or z y 0) e ∙ made_inside out p (used * row_length + ends_length) end order room long
              (x - (used * row_length + ends_length)) (omega arith))
          go false f g false f' g' = getD_paste_above z (used * row_length + ends_length) p (v * row_length) x 0 fits has (g' tt)

  ends_same : (n : ℕ) → n ≤ most_vectors → end_of n z ≡ end_of n out
  ends_same zero h = refl
  ends_same (suc n) h = below n (omega arith)

  still_kept : Kept i used z
  still_kept = record {
    few = kept.few;
    last = ends_same i kept.few
        ∙ kept.last;
    inside = λ j h. omega (arith, below j (omega arith), kept.inside j h);
  }

  first_words : take i z ≡ take i out
  first_words =
      ext_get_or 0 (take i z) (take i out) (length-take-le i z (omega (arith, as_long)) ∙ sym (length-take-le i out (omega arith))) λ k h.
      let l : k < i = omega (arith, length-take-le i z (omega (arith, as_long))) in
      get_or-take i z k 0 l ∙ below k (omega arith) ∙ sym (get_or-take i out k 0 l)

  same_vectors : lifted_vectors z i ≡ lifted_vectors out i
  same_vectors =
      ap (vectors_at (drop ends_length z) 0) first_words
      ∙ vectors_same (drop ends_length out) (drop ends_length z) used
      (λ k h. same_row (drop ends_length out) (drop ends_length z) k k
      (λ j l. get_or-drop ends_length z (k * row_length + j) 0 ∙ below (ends_length + (k * row_length + j)) (omega arith)
      ∙ sym (get_or-drop ends_length out (k * row_length + j) 0)))
      0 (take i out)
      (λ j h. omega (
        arith,
        kept.inside j (omega (arith, length-take-le i out (omega arith))),
        get_or-take i out j 0 (omega (arith, length-take-le i out (omega arith))),
      ))

  behind : (used + v) * row_length + ends_length ≤ length z
  behind = omega (arith, as_long)

  pub vectors_made : lifted_vectors (set z i (used + v)) (i + 1) ≡ lifted_vectors out i ++ rows p 0 v ∷ []
  vectors_made =
      ap (λ y. lifted_vectors (set y i (used + v)) (i + 1)) (sym stands) ∙ vectors_grown z p i used v small behind has still_kept
      ∙ ap (λ f. f ++ rows p 0 v ∷ []) same_vectors

  pub kept_made : Kept (i + 1) (used + v) (set z i (used + v))
  kept_made = subst (λ y. Kept (i + 1) (used + v) (set y i (used + v))) stands (kept_grown z p i used v small behind has still_kept)

-- ## One frame term

module _ (S : Stage) (room : ℕ) (l : Lifted) (k : Cache) (m m' : Monomial) (same : m' ≡ m) where
  abbrev beside : Result Sum → Result (Lifted × Cache)
  beside x = x >>= λ s. with_vector S l s >>= λ l'. done (l', s.1)

  one_is : (x : Result Sum) → x ≡ tree S room k m' → beside x ≡ lifted_one S room l k m
  one_is x e = ap beside (e ∙ ap (tree S room k) same)

  pub one_refused : (number : ℕ) → refusal number ≡ tree S room k m' → refusal number ≡ lifted_one S room l k m
  one_refused number e = one_is (refusal number) e

  module _ (p c : Words) (v u : ℕ) (gives : done (rows p 0 v, cache_of u c) ≡ tree S room k m') where
    pub one_full : S.reduction.limits.level_terms < l.1 + v → refusal 15 ≡ lifted_one S room l k m
    one_full h =
        ap (λ (y : Result Lifted). y >>= λ l'. done (l', cache_of u c)) (without_room S l (rows p 0 v) v (length_rows p 0 v) h)
        ∙ one_is (done (rows p 0 v, cache_of u c)) gives

    pub one_kept : l.1 + v ≤ S.reduction.limits.level_terms → done ((l.0 ++ rows p 0 v ∷ [], l.1 + v), cache_of u c) ≡ lifted_one S room l k m
    one_kept h =
        ap (λ (y : Result Lifted). y >>= λ l'. done (l', cache_of u c)) (with_room S l (rows p 0 v) v (length_rows p 0 v) h)
        ∙ one_is (done (rows p 0 v, cache_of u c)) gives

-- ## All frame terms

abbrev with_cache : Cache → Result Lifted → Result (Lifted × Cache)
with_cache k x = x >>= λ l. done (l, k)

module _ (S : Stage) (room : ℕ) (frame : Words) (count : ℕ) where
  abbrev pub all_from : ℕ → Lifted → Cache → Result Level
  all_from i l k = lift_all S (tree S room) l k (drop i (frame_terms frame count))

  one_first : (i : ℕ) (l : Lifted) (k : Cache) → i < count → all_from i l k
      ≡ (lifted_one S room l k (row_at frame i).1 >>= λ x. all_from (i + 1) x.0 x.1)
  one_first i l k h = ap (lift_all S (tree S room) l k) (left_at frame count i h) ∙ go (tree S room k (row_at frame i).1)
    where
      added : (s : Sum) (x : Result Lifted)
          → (x >>= λ l'. lift_all S (tree S room) l' s.1 (drop (i + 1) (frame_terms frame count)))
          ≡ (with_cache s.1 x >>= λ y. all_from (i + 1) y.0 y.1)
      added s (done l') = refl
      added s (refused number place value) = refl
      added s unfinished = refl

      go : (x : Result Sum)
          → (x >>= λ s. with_vector S l s >>= λ l'. lift_all S (tree S room) l' s.1 (drop (i + 1) (frame_terms frame count)))
          ≡ ((x >>= λ s. with_cache s.1 (with_vector S l s)) >>= λ y. all_from (i + 1) y.0 y.1)
      go (done s) = added s (with_vector S l s)
      go (refused number place value) = refl
      go unfinished = refl

  module _ (i : ℕ) (l : Lifted) (k : Cache) (inside : i < count) where
    next : (x : Result (Lifted × Cache)) → x ≡ lifted_one S room l k (row_at frame i).1 → all_from i l k ≡ (x >>= λ y. all_from (i + 1) y.0 y.1)
    next x e = one_first i l k inside ∙ ap (λ y. y >>= λ z. all_from (i + 1) z.0 z.1) (sym e)

    pub all_on : (l' : Lifted) (k' : Cache) → done (l', k') ≡ lifted_one S room l k (row_at frame i).1 → all_from i l k ≡ all_from (i + 1) l' k'
    all_on l' k' e = next (done (l', k')) e

    pub all_refused : (number : ℕ) → refusal number ≡ lifted_one S room l k (row_at frame i).1 → all_from i l k ≡ refusal number
    all_refused number e = next (refusal number) e

  pub all_end : (i : ℕ) (l : Lifted) (k : Cache) → count ≤ i → all_from i l k ≡ done l.0
  all_end i l k h = ap (lift_all S (tree S room) l k) (left_none frame count i h)

-- no entries at first
pub empty_cache : (c : Words) → cache_of 0 c ≡ []
unfolding cache_skip
empty_cache c = refl
