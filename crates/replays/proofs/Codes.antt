-- The log of a run of our own is taken, and gives that run's vector.
use mathlib.Core.Path.{◌≡◌, refl, sym, ap, ◌∙◌, subst}
use mathlib.Core.Bool.{Bool, true, false}
use mathlib.Core.Option.{Option, none, some}
use mathlib.Core.List.{List, [], ◌∷◌}
use Prim.Native.Nat.{ℕ, zero, suc, ◌+◌, ◌<◌, ◌≤◌}
use native.Mathlib.Omega.{arith}
use lib.Dec.{T, ltb, lt→ltb}
use lib.ListN.{length, get_or}
use Rattle.definitions.specs.Lists.{map, empty?}
use Rattle.definitions.specs.Monomial.{Monomial, Vector, no_term, same_monomial?}
use Rattle.definitions.specs.Reducer.{Answer, reducer, lower_order, answer}
use Rattle.definitions.specs.Result.{Result, done, refused, unfinished, at_level, unless_refused, ◌>>=◌}
use Rattle.definitions.specs.Vectors.{descending}
use Rattle.definitions.specs.Stage.{Stage}
use Rattle.definitions.specs.Run.{Run, Step, on, end, Strategy, continued, runs, hybrid_strategy, by_answer, without_reducer, by_pick}
use Rattle.definitions.specs.Problem.{Line}
use Rattle.definitions.specs.Replay.{pick_of, place_from, run_after, replayed, p_line, if_zero, p_lines}
use Rattle.laws.proofs.Results.{IfDone}
use Rattle.laws.proofs.Products.{same_monomial_says, same_monomial_shows}
use Rattle.laws.proofs.Tests.{true_is}
use Rattle.ending.specs.Good.{good?}
use Rattle.ending.specs.Well.{Well}
use Rattle.ending.proofs.Values.{Fresh, Good, good_says}
use Rattle.ending.proofs.Falling.{step_keeps}
use Rattle.demands.specs.Picks.{Picks}
use Rattle.replays.specs.Replays.{Says, picks_after, picks_from, picks_of}
use Rattle.replays.proofs.Logs.{refused_is_not, unfinished_is_not, Goes_on, pick_on, passed, failed}

-- ## The place of a term of a good value is found by its monomial

fresh_at : (m : Monomial) (v : Vector) → Fresh m v → (i : ℕ) → i < length v → m ≡ (get_or v i no_term).1 → ⊥
fresh_at m [] h i l e = absurd (omega arith)
fresh_at m (u ∷ v) h zero l e = h.0 e
fresh_at m (u ∷ v) h (suc i) l e = fresh_at m v h.1 i (omega arith) e

place_found : (v : Vector) → Good v → (j i : ℕ) → i < length v → place_from (get_or v i no_term).1 j v ≡ some (j + i)
place_found [] g j i l = absurd (omega arith)
place_found (t ∷ v) g j zero l =
    let e : j ≡ j + 0 = omega arith in
    ap (λ b. elim b [ true ↦ some j | false ↦ place_from t.1 (suc j) v ]) (true_is (same_monomial? t.1 t.1) (same_monomial_shows t.1 t.1 refl))
    ∙ ap (λ k. some k) e
place_found (t ∷ v) g j (suc i) l =
    let m = (get_or v i no_term).1 in
    let e : suc j + i ≡ j + suc i = omega arith in
    ap (λ b. elim b [ true ↦ some j | false ↦ place_from m (suc j) v ])
    (failed (same_monomial? m t.1) (λ s. fresh_at t.1 v g.1 i (omega arith) (sym (same_monomial_says m t.1 s))))
    ∙ place_found v g.2 (suc j) i (omega arith) ∙ ap (λ k. some k) e

-- ## Lists

more_is_not : {A : Type 0} {a : A} {l : List A} → ◌≡◌ {A = List A} (a ∷ l) [] → ⊥
more_is_not e = let z : ◌≡◌ {A = ℕ} 0 1 = cc in omega arith

abbrev first_of : {A : Type 0} → A → List A → A
first_of b [] = b
first_of b (a ∷ l) = a

abbrev rest_of : {A : Type 0} → List A → List A
rest_of [] = []
rest_of (a ∷ l) = l

head_is : {A : Type 0} {a b : A} {l m : List A} → a ∷ l ≡ b ∷ m → a ≡ b
head_is {A} {a} e = ap (first_of a) e

tail_is : {A : Type 0} {a b : A} {l m : List A} → a ∷ l ≡ b ∷ m → l ≡ m
tail_is e = ap rest_of e

-- ## A step reads of its strategy only whether it drops and whether it stops

module _ (S : Stage) (W : Strategy) (drops : W.drops ≡ true) (stops : W.stops ≡ false) where
  pub step_same : (r : Run) (i : ℕ) → by_pick S W r (some i) ≡ by_pick S (hybrid_strategy S 2) r (some i)
  step_same r i = go (answer S.reduction.p S.reduction.heads (get_or r.value i no_term))
    where
      with_tests : Bool → Bool → Strategy
      with_tests d s = record { drops = d; pick = W.pick; stops = s }

      go : (a : Answer) → by_answer S W r i a ≡ by_answer S (hybrid_strategy S 2) r i a
      go (reducer j c q) = ap (λ d. by_answer S (with_tests d W.stops) r i (reducer j c q)) drops
      go lower_order = ap (λ s. without_reducer s S r i) stops

  abbrev GoodAfter : Result Step → Type 0
  GoodAfter (done (on r)) = T (good? r.value)
  GoodAfter (done (end v)) = ⊥
  GoodAfter (refused number at value) = Unit {0}
  GoodAfter unfinished = Unit {0}

  -- ## The log

  module _ (X : Well S) (picks : Picks W) (field n k most : ℕ) where
    -- the lines behind a step
    abbrev Owned : ℕ → Run → Vector → Type 0
    Owned j r w =
        T (good? r.value) → runs S W j r ≡ done w → (place count : ℕ) (ls : List Line) (vs : List (List ℕ)) → Says field n vs ls
        → count + length ls ≤ most → map (pick_of n) vs ≡ picks_of S W j r → p_lines most S field n k place count r ls ≡ done w

    pub own : (j : ℕ) (r : Run) (w : Vector) → T (good? r.value) → runs S W j r ≡ done w
        → (place count : ℕ) (ls : List Line) (vs : List (List ℕ)) → Says field n vs ls → count + length ls ≤ most
        → map (pick_of n) vs ≡ picks_of S W j r → p_lines most S field n k place count r ls ≡ done w
    own zero r w g e place count ls vs s l h = absurd (unfinished_is_not e)
    own (suc j) r w g e place count ls vs s l h = picked (W.pick r.value) refl e ls vs s l h (λ r'. own j r' w)
      where
        rest : (place count : ℕ) → List Line → Run → Result Vector
        rest place count ls r' = p_lines most S field n k place count r' ls

        at_zero : (v : Vector) → v ≡ [] → if_zero (empty? v) S place r ≡ done (descending S.above S.reduction.p r.vector)
        at_zero v z = ap (λ u. if_zero (empty? u) S place r) z

        stepped : (i : ℕ) → W.pick r.value ≡ some i → (x : Result Step) → by_pick S W r (some i) ≡ x → continued S (runs S W j) x ≡ done w
            → (ls : List Line) (vs : List (List ℕ)) → Says field n vs ls → suc count + length ls ≤ most
            → map (pick_of n) vs ≡ picks_after (λ r'. picks_of S W j r') x → GoodAfter x → ((r' : Run) → Owned j r' w)
            → ((at_level k x >>= λ s. done (run_after s)) >>= rest (suc place) (suc count) ls) ≡ done w
        stepped i p (done (on r')) x e ls vs s l h g' ih = ih r' g' e (suc place) (suc count) ls vs s l h
        stepped i p (done (end v)) x e ls vs s l h g' ih = absurd g'
        stepped i p (refused number at value) x e ls vs s l h g' ih = absurd (refused_is_not e)
        stepped i p unfinished x e ls vs s l h g' ih = absurd (unfinished_is_not e)

        kept : (i : ℕ) → W.pick r.value ≡ some i → (x : Result Step) → by_pick S W r (some i) ≡ x → GoodAfter x
        kept i p (done (on r')) e = step_keeps S X W picks.inside r r' g (ap (by_pick S W r) p ∙ e)
        kept i p (done (end v)) e =
            subst (IfDone Goes_on) (sym (step_same r i) ∙ e) (pick_on S r i)
        kept i p (refused number at value) e = tt
        kept i p unfinished e = tt

        picked : (o : Option ℕ) → W.pick r.value ≡ o → continued S (runs S W j) (by_pick S W r o) ≡ done w
            → (ls : List Line) (vs : List (List ℕ)) → Says field n vs ls → count + length ls ≤ most
            → map (pick_of n) vs ≡ picks_from S W (λ r'. picks_of S W j r') r o → ((r' : Run) → Owned j r' w)
            → p_lines most S field n k place count r ls ≡ done w
        picked none p e [] vs s l h ih = at_zero r.value (picks.to_zero r.value p) ∙ e
        picked none p e (line ∷ ls) [] s l h ih = absurd s
        picked none p e (line ∷ ls) (v ∷ vs) s l h ih = absurd (more_is_not h)
        picked (some i) p e [] [] s l h ih = absurd (more_is_not (sym h))
        picked (some i) p e [] (v ∷ vs) s l h ih = absurd s
        picked (some i) p e (line ∷ ls) [] s l h ih = absurd s
        picked (some i) p e (line ∷ ls) (v ∷ vs) s l h ih =
            let m = (get_or r.value i no_term).1 in
            let x = by_pick S W r (some i) in
            let later : Run → Result Vector = rest (suc place) (suc count) ls in
            let z : 0 + i ≡ i = omega arith in
            ap (λ o. p_line most S n k place count r o >>= later) s.0
            ∙ ap (λ b. (unless_refused b 21 place >>= λ u. replayed S k place r (place_from (pick_of n v) 0 r.value)) >>= later)
            (passed (ltb count most) (lt→ltb count most (omega arith)))
            ∙ ap (λ m. replayed S k place r (place_from m 0 r.value) >>= later) (head_is h)
            ∙ ap (λ o. replayed S k place r o >>= later) (place_found r.value (good_says r.value g) 0 i (picks.inside r.value i p)
            ∙ ap (λ j. some j) z)
            ∙ ap (λ x. (at_level k x >>= λ s. done (run_after s)) >>= later) (sym (step_same r i))
            ∙ stepped i p x refl e ls vs s.1 (omega arith) (tail_is h) (kept i p x refl) ih
