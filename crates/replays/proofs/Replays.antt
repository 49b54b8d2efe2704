-- Request A9, whole.
use mathlib.Core.Path.{◌≡◌, refl, sym, ap, ◌∙◌, subst}
use mathlib.Core.Logic.{inl, inr}
use mathlib.Core.Bool.{Bool, true, false}
use mathlib.Core.Option.{Option, none, some, none-ne-some}
use mathlib.Core.List.{List, [], ◌∷◌}
use Prim.Native.Nat.{ℕ, zero, suc, ◌+◌, ◌-◌, ◌<◌, ◌≤◌}
use native.Mathlib.Omega.{arith}
use lib.Dec.{T, leb, ltb}
use lib.ListN.{length, get_or, drop}
use borrow.Author.Tests.{lt-leb, le-leb}
use Rattle.definitions.specs.Limits.{Limits, document_01}
use Rattle.definitions.specs.Lists.{◌then◌, map, between, empty?}
use Rattle.definitions.specs.Monomial.{Exponents, Monomial, Term, Vector, Level, fits?, no_term, vector_of, leading_monomials}
use Rattle.definitions.specs.Frame.{frame}
use Rattle.definitions.specs.Result.{Result, done, refused, unfinished, finished?, unless_refused, at_level, ◌>>=◌}
use Rattle.definitions.specs.Vectors.{combined, appended, or_last, store}
use Rattle.definitions.specs.Stage.{Reduction, Stage, highest, stage_over}
use Rattle.definitions.specs.Run.{Run, Strategy, start, run, runs, hybrid_strategy, by_pick, dropped?, unless_dropped, if_fits, multiple, add_products}
use Rattle.definitions.specs.Lifting.{Lifting, by_hybrid, if_few}
use Rattle.definitions.specs.Problem.{Bytes, Line, Parameters, shaped, problem}
use Rattle.definitions.specs.State.{State, up_to, sound?}
use Rattle.definitions.specs.Calls.{read, lift}
use Rattle.definitions.specs.Sheet.{s_lines, variables_of}
use Rattle.definitions.specs.Reckoning.{each, reckoned_vector, reckoned_level}
use Rattle.definitions.specs.After.{file_of, lines_after, first_after}
use Rattle.definitions.specs.Program.{printed_or_refused}
use Rattle.definitions.specs.Replay.{letter_P, letter_L, pick_of, p_lines, lifted_below, replayed_vector, replay_over, replay_level, l_line, l_first}
use Rattle.definitions.specs.Replay.{replay_of, replay, place_from, replayed, p_line, if_zero, run_after}
use Rattle.definitions.specs.Places.{most_picks}
use Rattle.laws.proofs.Tests.{between_low, between_high, between_shown}
use Rattle.laws.proofs.Results.{IfDone, if_done_bind, if_done_says}
use Rattle.laws.proofs.Finished.{start_finished, step_finished}
use Rattle.laws.proofs.Members.{All}
use Rattle.laws.proofs.Steady.{Steady, Ends, answered?, steady_fixed, steady_once, bind_steady, bind_fixed, bind_ends, bind_fixed_ends, result_steady}
use Rattle.laws.proofs.Bound.{read_steady, lift_steady}
use Rattle.laws.proofs.Numbers
use Rattle.laws.proofs.Numbers.{Numbered, numbered_then, limit_number?, lift_level_number}
use Rattle.laws.proofs.Numbers.{by_pick_number, start_number}
use Rattle.ending.specs.Well.{Well, Bytewise}
use Rattle.laws.proofs.Induced.{Shaped}
use Rattle.laws.proofs.Frames.{frame_shaped, leading_monomials_eight}
use Rattle.laws.proofs.Sound.{sound_says}
use Rattle.ending.proofs.Soundness.{descending_well, sound_prime, sound_levels, levels_lead}
use Rattle.ending.proofs.Falling.{start_good}
use Rattle.ending.proofs.Calls.{read_ends, sound_lift_ends}
use Rattle.files.specs.Files.{WellFormedFile}
use Rattle.demands.specs.Notions.{Member}
use Rattle.demands.specs.Demands.{sensible?}
use Rattle.demands.specs.Exact.{Reckons}
use Rattle.demands.proofs.Results.{Holds, holds, nothing, holds_at, some_is, upto_one}
use Rattle.demands.specs.Picks.{Picks}
use Rattle.demands.proofs.Picking.{hybrid_picks}
use Rattle.demands.proofs.Reckoned.{vector_more}
use Rattle.demands.proofs.Over.{few_variables, small_exponents, LiftRight}
use Rattle.demands.proofs.Reckonings.{tower_reckons}
use Rattle.demands.proofs.Reader.{files}
use Rattle.demands.proofs.Sheets.{Reading, taken, refused_reading, still_reading, reading}
use Rattle.demands.proofs.Lifts.{LiftedTo, one_more, limit_met, still_lifting, with_level, height_up_to, lifted_to}
use Rattle.demands.proofs.Held.{Standing, level_stands}
use Rattle.demands.proofs.Demand2.{well_formed}
use Rattle.replays.specs.Replays
use Rattle.replays.specs.Replays.{Says, picks_of, LogRight, LLineRight, VectorRight, RefusedAt, Page, A9}
use Rattle.replays.proofs.Logs.{taken_exactly, log_reckoned, taken_otherwise, log_in_turn, log_twenty_one, log_twenty_two, log_ends_early}
use Rattle.replays.proofs.Logs.{passed, failed, Refuses, refuses_then}
use Rattle.replays.proofs.Logs.{refused_is_not, unfinished_is_not}
use Rattle.replays.proofs.Codes.{step_same, own}

done_is : {A : Type 0} {a b : A} → ◌≡◌ {A = Result A} (done a) (done b) → a ≡ b
done_is {A} {a} e = ap (λ x. given_or a x) e
  where
    given_or : A → Result A → A
    given_or a (done b) = b
    given_or a (refused number at value) = a
    given_or a unfinished = a

-- ## Refusals of levels below, and of the frame term's own products

module _ (lim : Limits) (n : ℕ) where
  abbrev lifted_on : ℕ → State → Result State
  lifted_on k X = lift lim n X k (by_hybrid 2 lim.working)

  abbrev LimitAt : ℕ → ℕ → ℕ → Vector → Type 0
  LimitAt k number at value = T (between 13 number 15) × (at ≡ k) × (value ≡ [])

  lift_limit : (k : ℕ) (X : State) → Refuses (LimitAt k) (lifted_on k X)
  lift_limit k X = go (lift_level_number lim X.parameters.p X.parameters.code (up_to X (k - 1)) (by_hybrid 2 lim.working) n)
    where
      go : {x : Result Level} → Numbered limit_number? x
          → Refuses {A = State} (LimitAt k) (at_level k x >>= λ g. done (record { parameters = X.parameters; levels = g ∷ up_to X (k - 1) }))
      go Numbers.gives = tt
      go (Numbers.refuses h) = (h, refl, refl)
      go (Numbers.stops h) = absurd h
      go Numbers.open_yet = tt

  -- refused while the level that is the place was lifted, over those below it
  abbrev Below : ℕ → ℕ → State → ℕ → ℕ → Vector → Type 0
  Below left k X number at value =
      T (between 13 number 15) × (k ≤ at) × (at < left + k) × (value ≡ [])
      × ((Y : State) × (lifted_below lim n (at - k) k X ≡ done Y) × (lifted_on at Y ≡ refused number at []))

  below_limit : (left k : ℕ) (X : State) → Refuses (Below left k X) (lifted_below lim n left k X)
  below_limit zero k X = tt
  below_limit (suc left) k X = first (lifted_on k X) refl (lift_limit k X) (λ Y. below_limit left (suc k) Y)
    where
      later : (Y : State) → lifted_on k X ≡ done Y → (x : Result State) → Refuses (Below left (suc k) Y) x → Refuses (Below (suc left) k X) x
      later Y e (done Z) h = tt
      later Y e unfinished h = tt
      later Y e (refused number at value) (t, l, u, z, (U, d, r)) =
          let i : at - k ≡ suc (at - suc k) = omega (arith, l) in (
            t,
            omega (arith, l),
            omega (arith, u),
            z,
            (U, ap (λ j. lifted_below lim n j k X) i ∙ ap (λ x. x >>= λ Z. lifted_below lim n (at - suc k) (suc k) Z) e ∙ d, r),
          )

      first : (x : Result State) → lifted_on k X ≡ x → Refuses (LimitAt k) x → ((Y : State) → Refuses (Below left (suc k) Y) (lifted_below lim n left
          (suc k) Y))
          → Refuses (Below (suc left) k X) (x >>= λ Y. lifted_below lim n left (suc k) Y)
      first (done Y) e h ih = later Y e (lifted_below lim n left (suc k) Y) (ih Y)
      first unfinished e h ih = tt
      first (refused number at value) e (t, a, z) ih =
          let i : at - k ≡ 0 = omega (arith, a) in (
            t,
            omega (arith, a),
            omega (arith, a),
            z,
            (X, ap (λ j. lifted_below lim n j k X) i, ap (λ j. lifted_on j X) a ∙ e ∙ ap (λ v. refused number at v) z),
          )

-- 13 and 14: "A product is tested for 13 before 14"
abbrev product_number? : ℕ → Bool
product_number? n = between 13 n 14

store_number : (limit p : ℕ) (t : Term) (v : Vector) → Numbered product_number? (store limit p t v)
store_number limit p t v = go (combined p t v)
  where
    room : (b : Bool) → Numbered product_number? (appended b t v)
    room true = Numbers.gives
    room false = Numbers.refuses tt

    go : (o : Option Vector) → Numbered product_number? (or_last limit t v o)
    go none = room (ltb (length v) limit)
    go (some w) = Numbers.gives

add_products_number : (R : Reduction) (drops : Bool) (c : ℕ) (q : Exponents) (f v : Vector) → Numbered product_number? (add_products R drops c q f v)
add_products_number R drops c q [] v = Numbers.gives
add_products_number R drops c q (t ∷ f) v =
    let u = multiple R.p c q t in
    numbered_then (fits (fits? R.limits.exponent u.1.0) u) (λ w. add_products_number R drops c q f w)
  where
    kept : (b : Bool) (t : Term) → Numbered product_number? (unless_dropped b R t v)
    kept true t = Numbers.gives
    kept false t = store_number R.limits.working R.p t v

    fits : (b : Bool) (t : Term) → Numbered product_number? (if_fits b R drops t v)
    fits true t = kept (dropped? R drops t.1) t
    fits false t = Numbers.refuses tt

start_limit : (S : Stage) (W : Strategy) (m : Monomial) → Refuses (λ number at value. T (between 13 number 14) × (value ≡ [])) (start S W m)
start_limit S W m = go (add_products_number S.reduction W.drops 1 m.0 (vector_of S.family m.1) [])
  where
    go : {x : Result Vector} → Numbered product_number? x
        → Refuses {A = Run} (λ number at value. T (between 13 number 14) × (value ≡ [])) (x >>= λ v. done (record { value = v; vector = (1, m) ∷ [] }))
    go Numbers.gives = tt
    go (Numbers.refuses h) = (h, refl)
    go (Numbers.stops h) = absurd h
    go Numbers.open_yet = tt

-- ## The L line

module _ (lim : Limits) (n most place : ℕ) (X : State) (line : Line) (later : List Line) (v : List ℕ) (e : shaped lim.field letter_L 2 line ≡ some v) where
  abbrev k : ℕ
  k = get_or v 0 0

  abbrev over : State → Result Bytes
  over = replay_over lim most place k (get_or v 1 0) later

  at_line : l_first lim n most place (line ∷ later) X ≡ replay_level lim n most place k (get_or v 1 0) later X
  at_line = ap (l_line lim n most place later X) e

  level_out : ¬ (T (between 1 k lim.levels)) → l_first lim n most place (line ∷ later) X ≡ refused 12 place []
  level_out h = at_line ∙ ap (λ b. unless_refused b 12 place >>= λ u. lifted_below lim n (k - 1) 1 X >>= over) (failed (between 1 k lim.levels) h)

  level_in : T (between 1 k lim.levels) → l_first lim n most place (line ∷ later) X ≡ (lifted_below lim n (k - 1) 1 X >>= over)
  level_in t = at_line ∙ ap (λ b. unless_refused b 12 place >>= λ u. lifted_below lim n (k - 1) 1 X >>= over) (passed (between 1 k lim.levels) t)

  module _ (Y : State) where
    abbrev ms : List Monomial
    ms = frame (lim.numbering Y.parameters.code) (leading_monomials (highest Y.levels))

    abbrev S : Stage
    S = stage_over lim Y.parameters.p Y.parameters.code Y.levels

    abbrev from_frame : Result (List Monomial) → Result Bytes
    from_frame x = (at_level k x >>= λ ms. unless_refused (between 1 (get_or v 1 0) (length ms)) 12 place >>= λ u.
        at_level k (start S (hybrid_strategy S 2) (get_or ms (get_or v 1 0 - 1) no_term.1)) >>= λ r.
        p_lines most S lim.field Y.parameters.n k (suc place) 0 r later) >>= λ w. done (s_lines Y.parameters.n k (get_or v 1 0) w)

    many : lim.vectors < length ms → over Y ≡ refused 15 k []
    many l = ap (λ b. from_frame (if_few b ms)) (lt-leb (length ms) lim.vectors l)

    outside : length ms ≤ lim.vectors → ¬ (T (between 1 (get_or v 1 0) (length ms))) → over Y ≡ refused 12 place []
    outside l h =
        ap (λ b. from_frame (if_few b ms)) (le-leb (length ms) lim.vectors l)
        ∙ ap (λ b. (unless_refused b 12 place >>= λ u. at_level k (start S (hybrid_strategy S 2) (get_or ms (get_or v 1 0 - 1) no_term.1)) >>= λ r.
        p_lines most S lim.field Y.parameters.n k (suc place) 0 r later) >>= λ w. done (s_lines Y.parameters.n k (get_or v 1 0) w))
        (failed (between 1 (get_or v 1 0) (length ms)) h)

    -- the products of the frame term's own element, and the lines
    abbrev from_start : Result Run → Result Bytes
    from_start x = (at_level k x >>= λ r. p_lines most S lim.field Y.parameters.n k (suc place) 0 r later)
        >>= λ w. done (s_lines Y.parameters.n k (get_or v 1 0) w)

    inside : length ms ≤ lim.vectors → T (between 1 (get_or v 1 0) (length ms))
        → over Y ≡ from_start (start S (hybrid_strategy S 2) (get_or ms (get_or v 1 0 - 1) no_term.1))
    inside l t =
        ap (λ b. from_frame (if_few b ms)) (le-leb (length ms) lim.vectors l)
        ∙ ap (λ b. (unless_refused b 12 place >>= λ u. at_level k (start S (hybrid_strategy S 2) (get_or ms (get_or v 1 0 - 1) no_term.1)) >>= λ r.
        p_lines most S lim.field Y.parameters.n k (suc place) 0 r later) >>= λ w. done (s_lines Y.parameters.n k (get_or v 1 0) w))
        (passed (between 1 (get_or v 1 0) (length ms)) t)

  given_by : (out : Bytes) → l_first lim n most place (line ∷ later) X ≡ done out
      → T (between 1 k lim.levels) × ((Y : State) × (lifted_below lim n (k - 1) 1 X ≡ done Y)
      × ((w : Vector) × (replayed_vector lim most place k (get_or v 1 0) later Y ≡ done w) × (out ≡ s_lines Y.parameters.n k (get_or v 1 0) w)))
  given_by out h = allowed (between 1 k lim.levels) (sym at_line ∙ h)
    where
      vector_of : (Y : State) (x : Result Vector) → (x >>= λ w. done (s_lines Y.parameters.n k (get_or v 1 0) w)) ≡ done out
          → (w : Vector) × (x ≡ done w) × (out ≡ s_lines Y.parameters.n k (get_or v 1 0) w)
      vector_of Y (done w) h = (w, refl, sym (done_is h))
      vector_of Y (refused number at value) h = absurd (refused_is_not h)
      vector_of Y unfinished h = absurd (unfinished_is_not h)

      lifted : (x : Result State) → (x >>= over) ≡ done out
          → (Y : State) × (x ≡ done Y) × ((w : Vector) × (replayed_vector lim most place k (get_or v 1 0) later Y ≡ done w)
          × (out ≡ s_lines Y.parameters.n k (get_or v 1 0) w))
      lifted (done Y) h = (Y, refl, vector_of Y (replayed_vector lim most place k (get_or v 1 0) later Y) h)
      lifted (refused number at value) h = absurd (refused_is_not h)
      lifted unfinished h = absurd (unfinished_is_not h)

      allowed : (b : Bool) → (unless_refused b 12 place >>= λ u. lifted_below lim n (k - 1) 1 X >>= over) ≡ done out
          → T b × ((Y : State) × (lifted_below lim n (k - 1) 1 X ≡ done Y)
          × ((w : Vector) × (replayed_vector lim most place k (get_or v 1 0) later Y ≡ done w) × (out ≡ s_lines Y.parameters.n k (get_or v 1 0) w)))
      allowed true h = (tt, lifted (lifted_below lim n (k - 1) 1 X) h)
      allowed false h = absurd (refused_is_not h)

pub l_line_right : (lim : Limits) (n most place : ℕ) (X : State) → LLineRight lim n most place X
l_line_right lim n most place X = record {
  absent = refl;
  misshapen = λ line later e. ap (l_line lim n most place later X) e;
  no_level = λ line later v e h. level_out lim n most place X line later v e h;
  below_refused = λ line later v number at value e t b.
      let (u, l, h, z, d) = subst (Refuses (Below lim n (get_or v 0 0 - 1) 1 X)) b (below_limit lim n (get_or v 0 0 - 1) 1 X) in (
        level_in lim n most place X line later v e t ∙ ap (λ x. x >>= over lim n most place X line later v e) b ∙ ap (λ z. refused number at z) z,
        u,
        between_shown 1 at (get_or v 0 0 - 1) l (omega (arith, h)),
        d,
      );
  frame_refused = λ line later v Y e t b l.
      level_in lim n most place X line later v e t ∙ ap (λ x. x >>= over lim n most place X line later v e) b
      ∙ many lim n most place X line later v e Y l;
  no_vector = λ line later v Y e t b l h.
      level_in lim n most place X line later v e t ∙ ap (λ x. x >>= over lim n most place X line later v e) b
      ∙ outside lim n most place X line later v e Y l h;
  start_refused = λ line later v Y number at value e t b l h s.
      let S = stage_over lim Y.parameters.p Y.parameters.code Y.levels in
      let ms = frame (lim.numbering Y.parameters.code) (leading_monomials (highest Y.levels)) in
      let (u, z) = subst (Refuses (λ number at value. T (between 13 number 14) × (value ≡ []))) s
      (start_limit S (hybrid_strategy S 2) (get_or ms (get_or v 1 0 - 1) no_term.1)) in (
        level_in lim n most place X line later v e t ∙ ap (λ x. x >>= over lim n most place X line later v e) b
            ∙ inside lim n most place X line later v e Y l h ∙ ap (from_start lim n most place X line later v e Y) s
            ∙ ap (λ z. refused number (get_or v 0 0) z) z,
        u,
      );
  then_lines = λ line later v Y r e t b l h s.
      level_in lim n most place X line later v e t ∙ ap (λ x. x >>= over lim n most place X line later v e) b
      ∙ inside lim n most place X line later v e Y l h ∙ ap (from_start lim n most place X line later v e Y) s;
  printed = λ line later v out e h. (given_by lim n most place X line later v e out h).1;
}

-- ## By which numbers, and at which places

few_number : (b : Bool) (ms : List Monomial) → Numbered limit_number? (if_few b ms)
few_number true ms = Numbers.gives
few_number false ms = Numbers.refuses tt

module _ (lim : Limits) (first count : ℕ) where
  abbrev Said : ℕ → ℕ → Vector → Type 0
  Said number at value = RefusedAt lim first count number at × (value ≡ [])

  level_said : {A : Type 0} (k : ℕ) → T (between 1 k lim.levels) → {x : Result A} → Numbered limit_number? x → Refuses Said (at_level k x)
  level_said k t Numbers.gives = tt
  level_said k t (Numbers.refuses h) = (Replays.limit_met h t, refl)
  level_said k t (Numbers.stops h) = absurd h
  level_said k t Numbers.open_yet = tt

  module _ (most : ℕ) (S : Stage) (field n k : ℕ) (t : T (between 1 k lim.levels)) where
    replayed_said : (place : ℕ) (r : Run) (o : Option ℕ) → first < place → place ≤ first + count → Refuses Said (replayed S k place r o)
    replayed_said place r none l h = (Replays.no_pick (between_shown (suc first) place (first + count) l h), refl)
    replayed_said place r (some i) l h =
        refuses_then Said (at_level k (by_pick S (hybrid_strategy S 2) r (some i))) (λ s. done (run_after s))
        (level_said k t (by_pick_number S (hybrid_strategy S 2) r (some i))) (λ s. tt)

    p_line_said : (place picks : ℕ) (r : Run) (o : Option (List ℕ)) → first < place → place < first + count → Refuses Said (p_line most S n k place picks r o)
    p_line_said place picks r o l h = shape o
      where
        twenty_one : Said 21 place []
        twenty_one = (Replays.misshapen (between_shown first place (first + (count - 1)) (omega (arith, l)) (omega (arith, l, h))), refl)

        allowed : (b : Bool) (o : Option ℕ) → Refuses Said (unless_refused b 21 place >>= λ u. replayed S k place r o)
        allowed true o = replayed_said place r o l (omega (arith, h))
        allowed false o = twenty_one

        shape : (o : Option (List ℕ)) → Refuses Said (p_line most S n k place picks r o)
        shape none = twenty_one
        shape (some v) = allowed (ltb picks most) (place_from (pick_of n v) 0 r.value)

    p_lines_said : (place picks : ℕ) (r : Run) (ls : List Line) → first < place → place + length ls ≤ first + count
        → Refuses Said (p_lines most S field n k place picks r ls)
    p_lines_said place picks r [] l h = go (empty? r.value)
      where
        go : (b : Bool) → Refuses Said (if_zero b S place r)
        go true = tt
        go false = (Replays.no_pick (between_shown (suc first) place (first + count) l (omega (arith, h))), refl)
    p_lines_said place picks r (line ∷ later) l h =
        refuses_then Said (p_line most S n k place picks r (shaped field letter_P (suc n) line))
        (λ r'. p_lines most S field n k (suc place) (suc picks) r' later)
        (p_line_said place picks r (shaped field letter_P (suc n) line) l (omega (arith, h)))
        (λ r'. p_lines_said (suc place) (suc picks) r' later (omega (arith, l)) (omega (arith, h)))

  module _ (most k v : ℕ) (t : T (between 1 k lim.levels)) (later : List Line) (h : suc (length later) ≤ count) (X : State) where
    abbrev S₃ : Stage
    S₃ = stage_over lim X.parameters.p X.parameters.code X.levels

    abbrev lines : Run → Result Vector
    lines r = p_lines most S₃ lim.field X.parameters.n k (suc first) 0 r later

    abbrev begun : List Monomial → Result Vector
    begun ms = at_level k (start S₃ (hybrid_strategy S₃ 2) (get_or ms (v - 1) no_term.1)) >>= lines

    begun_said : (ms : List Monomial) → Refuses Said (begun ms)
    begun_said ms =
        refuses_then Said (at_level k (start S₃ (hybrid_strategy S₃ 2) (get_or ms (v - 1) no_term.1))) lines
        (level_said k t (start_number S₃ (hybrid_strategy S₃ 2) (get_or ms (v - 1) no_term.1)))
        (λ r. p_lines_said most S₃ lim.field X.parameters.n k t (suc first) 0 r later (omega arith) (omega (arith, h)))

    vector_said : Refuses Said (replayed_vector lim most first k v later X)
    vector_said =
        let all = frame (lim.numbering X.parameters.code) (leading_monomials (highest X.levels)) in
        refuses_then Said (at_level k (if_few (leb (length all) lim.vectors) all))
        (λ ms. unless_refused (between 1 v (length ms)) 12 first >>= λ u. begun ms)
        (level_said k t (few_number (leb (length all) lim.vectors) all)) (λ ms. numbered (between 1 v (length ms)) ms)
      where
        numbered : (b : Bool) (ms : List Monomial) → Refuses Said (unless_refused b 12 first >>= λ u. begun ms)
        numbered true ms = begun_said ms
        numbered false ms = (Replays.no_number, refl)

    over_said : Refuses Said (replay_over lim most first k v later X)
    over_said = refuses_then Said (replayed_vector lim most first k v later X) (λ w. done (s_lines X.parameters.n k v w)) vector_said (λ w. tt)

  module _ (n most k v : ℕ) (later : List Line) (h : suc (length later) ≤ count) (X : State) where
    below_said : T (between 1 k lim.levels) → Refuses Said (lifted_below lim n (k - 1) 1 X)
    below_said t = go (lifted_below lim n (k - 1) 1 X) (below_limit lim n (k - 1) 1 X)
      where
        go : (x : Result State) → Refuses (Below lim n (k - 1) 1 X) x → Refuses Said x
        go (done Y) b = tt
        go unfinished b = tt
        go (refused number at value) (u, l, m, z, d) =
            let hi = between_high 1 k lim.levels t in
            (Replays.limit_met u (between_shown 1 at lim.levels l (omega (arith, l, m, hi))), z)

    level_line_said : Refuses Said (replay_level lim n most first k v later X)
    level_line_said = go (between 1 k lim.levels) refl
      where
        go : (b : Bool) → between 1 k lim.levels ≡ b
            → Refuses Said (unless_refused b 12 first >>= λ u. lifted_below lim n (k - 1) 1 X >>= replay_over lim most first k v later)
        go false e = (Replays.no_number, refl)
        go true e =
            let t : T (between 1 k lim.levels) = subst T (sym e) tt in
            refuses_then Said (lifted_below lim n (k - 1) 1 X) (replay_over lim most first k v later) (below_said t) (λ Y. over_said most k v t later h Y)

l_said : (lim : Limits) (n most place : ℕ) (ls : List Line) (X : State) → Refuses (Said lim place (length ls)) (l_first lim n most place ls X)
l_said lim n most place [] X = (Replays.misshapen (between_shown place place (place + 0) (omega arith) (omega arith)), refl)
l_said lim n most place (line ∷ later) X = go (shaped lim.field letter_L 2 line)
  where
    go : (o : Option (List ℕ)) → Refuses (Said lim place (suc (length later))) (l_line lim n most place later X o)
    go none =
        let count = suc (length later) in
        (Replays.misshapen (between_shown place place (place + (count - 1)) (omega arith) (omega arith)), refl)
    go (some v) = level_line_said lim place (suc (length later)) n most (get_or v 0 0) (get_or v 1 0) later (omega arith) X

-- ## The rest is for sensible limits

-- a sound state has a level
empty_sound : (lim : Limits) (q : Parameters) → T (sound? lim (record { parameters = q; levels = [] })) → ⊥
empty_sound lim q s = (sound_says lim (record { parameters = q; levels = [] }) s).levels

member_at : (ms : List Monomial) (i : ℕ) → i < length ms → Member (get_or ms i no_term.1) ms
member_at [] i l = absurd (omega arith)
member_at (m ∷ ms) zero l = inl refl
member_at (m ∷ ms) (suc i) l = inr (member_at ms i (omega arith))

-- the value of each
each_at : (h : Monomial → Option Vector) (ms : List Monomial) (g : Level) → each h ms ≡ some g → (i : ℕ) → i < length ms
    → h (get_or ms i no_term.1) ≡ some (get_or g i [])
each_at h [] g e i l = absurd (omega arith)
each_at h (m ∷ ms) g e i l = first (h m) refl e (λ vs b i l. each_at h ms vs b i l)
  where
    Later : Type 0
    Later = (vs : List Vector) → each h ms ≡ some vs → (i : ℕ) → i < length ms → h (get_or ms i no_term.1) ≡ some (get_or vs i [])

    found : (v : Vector) → h m ≡ some v → (vs : List Vector) → each h ms ≡ some vs → (i : ℕ) → i < length (m ∷ ms) → Later
        → h (get_or (m ∷ ms) i no_term.1) ≡ some (get_or (v ∷ vs) i [])
    found v a vs b zero l ih = a
    found v a vs b (suc i) l ih = ih vs b i (omega arith)

    others : (v : Vector) → h m ≡ some v → (y : Option (List Vector)) → each h ms ≡ y → (y then λ vs. some (v ∷ vs)) ≡ some g → Later
        → h (get_or (m ∷ ms) i no_term.1) ≡ some (get_or g i [])
    others v a none b d ih = absurd (none-ne-some _ d)
    others v a (some vs) b d ih = subst (λ g. h (get_or (m ∷ ms) i no_term.1) ≡ some (get_or g i [])) (some_is d) (found v a vs b i l ih)

    first : (x : Option Vector) → h m ≡ x → (x then λ v. each h ms then λ vs. some (v ∷ vs)) ≡ some g → Later
        → h (get_or (m ∷ ms) i no_term.1) ≡ some (get_or g i [])
    first none a d ih = absurd (none-ne-some _ d)
    first (some v) a d ih = others v a (each h ms) refl d ih

all_member : {A : Type 0} (P : A → Type 0) (l : List A) → All P l → (a : A) → Member a l → P a
all_member P [] h a m = absurd m
all_member P (b ∷ l) h a (inl e) = subst P (sym e) h.0
all_member P (b ∷ l) h a (inr m) = all_member P l h.1 a m

module _ (lim : Limits) (o : T (sensible? lim)) where
  bytewise : Bytewise lim
  bytewise = record { exponents = small_exponents lim o; variables = few_variables lim o }

  -- ## A log

  module _ (q : Parameters) (f : Level) (below : List Level) where
    abbrev X₀ : State
    X₀ = record { parameters = q; levels = f ∷ below }

    abbrev S₀ : Stage
    S₀ = stage_over lim q.p q.code (f ∷ below)

    well : T (sound? lim X₀) → Well S₀
    well s = descending_well lim q.p q.code (f ∷ below) (sound_prime lim X₀ s) (small_exponents lim o) (sound_levels lim X₀ s)

    eight : T (sound? lim X₀) → (m : Monomial) → Member m (frame (lim.numbering q.code) (leading_monomials f)) → length m.0 ≡ 8
    eight s m t =
        (all_member (Shaped 8) (frame (lim.numbering q.code) (leading_monomials f))
        (frame_shaped 8 (lim.numbering q.code) (leading_monomials f)
        (leading_monomials_eight f (levels_lead q.p q.code (f ∷ below) (sound_levels lim X₀ s)).0)) m t).long

    module _ (k place most : ℕ) where
      -- by any picks
      own_log : (W : Strategy) → Picks W → W.drops ≡ true → W.stops ≡ false
          → (n : ℕ) (m : Monomial) (r : Run) (ls : List Line) (vs : List (List ℕ)) (w : Vector)
          → T (sound? lim (record { parameters = q; levels = f ∷ below })) → Member m (frame (lim.numbering q.code) (leading_monomials f))
          → start S₀ W m ≡ done r → run S₀ W n m ≡ done w → Says lim.field q.n vs ls → length ls ≤ most
          → map (pick_of q.n) vs ≡ picks_of S₀ W n r → p_lines most S₀ lim.field q.n k place 0 r ls ≡ done w
      own_log W P d u n m r ls vs w s t e h a l i =
          own S₀ W d u (well s) P lim.field q.n k most n r w (start_good S₀ (well s) W m (eight s m t) r e)
          (sym (ap (λ x. x >>= λ r. runs S₀ W n r) e) ∙ h) place 0 ls vs a (omega arith) i

    pub log_right : (k place most : ℕ) → LogRight lim q f below k place most
    log_right k place most = record {
      exactly = λ r ls vs t l. taken_exactly S₀ lim.field q.n k most place 0 r ls vs t (omega arith);
      reckoned = λ m r ls w s t e d. log_reckoned lim o q f below m k place most r ls w s t e d;
      agree = λ m r ls ls' w w' s t e d d'.
          let x = log_reckoned lim o q f below m k place most r ls w s t e d in
          let y = log_reckoned lim o q f below m k place most r ls' w' s t e d' in
          upto_one (λ N. reckoned_vector N q.p q.code (f ∷ below) m) (λ N. vector_more N q.p q.code (f ∷ below) m) x.0 y.0 w w' x.1 y.1;
      own_logs = λ W P d u n m r ls vs w s t e h a l i. own_log k place most W P d u n m r ls vs w s t e h a l i;
      codes = λ code n m r ls vs w c s t e h a l i.
          own_log k place most (hybrid_strategy S₀ code) (hybrid_picks S₀ code) refl refl n m r ls vs w s t e h a l i;
      in_turn = λ r r' before later vs t l c. log_in_turn S₀ lim.field q.n k most place r r' before later vs t l c;
      twenty_one = λ picks r line later h. log_twenty_one S₀ lim.field q.n k most place picks r line later h;
      twenty_two = λ picks r line later v e l h. log_twenty_two S₀ lim.field q.n k most place picks r line later v e l h;
      ends_early = λ picks r h. log_ends_early S₀ lim.field q.n k most place picks r h;
      otherwise = λ number at value r ls vs t l e. taken_otherwise S₀ lim.field q.n k most place number at value r ls vs t l e;
    }

  -- ## A vector that a log gave

  module _ (most place k v : ℕ) (later : List Line) (q : Parameters) (f : Level) (below : List Level) (w : Vector)
      (s : T (sound? lim (record { parameters = q; levels = f ∷ below }))) where
    abbrev S₁ : Stage
    S₁ = stage_over lim q.p q.code (f ∷ below)

    abbrev all : List Monomial
    all = frame (lim.numbering q.code) (leading_monomials f)

    abbrev Right : Type 0
    Right = VectorRight lim v (record { parameters = q; levels = f ∷ below }) w

    abbrev m : Monomial
    m = get_or all (v - 1) no_term.1

    in_range : (b : Bool) → between 1 v (length all) ≡ b → T b → v - 1 < length all
    in_range b e t =
        let u : T (between 1 v (length all)) = subst T (sym e) t in
        let l = between_low 1 v (length all) u in
        let h = between_high 1 v (length all) u in
        omega (arith, l, h)

    abbrev replays : Run → Result Vector
    replays r = p_lines most S₁ lim.field q.n k (suc place) 0 r later

    started : T (between 1 v (length all)) → (x : Result Run) → start S₁ (hybrid_strategy S₁ 2) m ≡ x → (at_level k x >>= replays) ≡ done w → Right
    started t (done r) e h = record {
      in_frame = t;
      reckons = log_reckoned lim o q f below m k (suc place) most r later w s (member_at all (v - 1) (in_range (between 1 v (length all)) refl t)) e h;
    }
    started t (refused number at value) e h = absurd (refused_is_not h)
    started t unfinished e h = absurd (unfinished_is_not h)

    numbered : (b : Bool) → between 1 v (length all) ≡ b
        → (unless_refused b 12 place >>= λ u. at_level k (start S₁ (hybrid_strategy S₁ 2) m) >>= replays) ≡ done w → Right
    numbered true e h = started (subst T (sym e) tt) (start S₁ (hybrid_strategy S₁ 2) m) refl h
    numbered false e h = absurd (refused_is_not h)

    framed : (b : Bool) → (at_level k (if_few b all) >>= λ ms. unless_refused (between 1 v (length ms)) 12 place >>= λ u.
        at_level k (start S₁ (hybrid_strategy S₁ 2) (get_or ms (v - 1) no_term.1)) >>= replays) ≡ done w → Right
    framed true h = numbered (between 1 v (length all)) refl h
    framed false h = absurd (refused_is_not h)

  pub vector_right : (most place k v : ℕ) (later : List Line) (X : State) (w : Vector) → T (sound? lim X)
      → replayed_vector lim most place k v later X ≡ done w → VectorRight lim v X w
  vector_right most place k v later X w s h = go X.levels s h
    where
      go : (levels : List Level) → T (sound? lim (record { parameters = X.parameters; levels = levels }))
          → replayed_vector lim most place k v later (record { parameters = X.parameters; levels = levels }) ≡ done w
          → VectorRight lim v (record { parameters = X.parameters; levels = levels }) w
      go [] s h = absurd (empty_sound lim X.parameters s)
      go (f ∷ below) s h = framed most place k v later X.parameters f below w s (leb (length (all most place k v later X.parameters f below w s))
          lim.vectors) h

  -- the vector with that number of the level that any way lifts
  module _ (most place k v : ℕ) (later : List Line) (X : State) (w : Vector) (s : T (sound? lim X)) (height : length X.levels ≡ k)
      (c : replayed_vector lim most place k v later X ≡ done w) where
    abbrev terms : List Monomial
    terms = frame (lim.numbering X.parameters.code) (leading_monomials (highest X.levels))

    right : VectorRight lim v X w
    right = vector_right most place k v later X w s c

    all_below : up_to X (k - 1) ≡ X.levels
    all_below = let z : length X.levels - suc (k - 1) ≡ 0 = omega (arith, height) in ap (λ i. drop i X.levels) z

    vector_at : (g : Level) → LiftRight lim X.parameters (up_to X (k - 1)) g → vector_of g v ≡ w
    vector_at g h =
        let l = between_low 1 v (length terms) right.in_frame in
        let u = between_high 1 v (length terms) right.in_frame in
        let e = subst (λ below. reckoned_level lim h.bound X.parameters.p X.parameters.code below ≡ some g) all_below h.reckons in
        let i : v ≡ suc (v - 1) = omega (arith, l) in
        let (bound, d) = right.reckons in
        ap (vector_of g) i
        ∙ upto_one (λ N. reckoned_vector N X.parameters.p X.parameters.code X.levels (get_or terms (v - 1) no_term.1))
        (λ N. vector_more N X.parameters.p X.parameters.code X.levels (get_or terms (v - 1) no_term.1)) h.bound bound (get_or g (v - 1) []) w
        (each_at (reckoned_vector h.bound X.parameters.p X.parameters.code X.levels) terms g e (v - 1) (omega (arith, l, u))) d

    pub by_any_way : (n : ℕ) (way : Lifting) (Z : State) → lift lim n X k way ≡ done Z → vector_of (highest Z.levels) v ≡ w
    by_any_way n way Z e = if_done_says (λ Z. vector_of (highest Z.levels) v ≡ w) (lift lim n X k way) (go (lifted_to lim o X s k way n)) Z e
      where
        go : {x : Result State} → LiftedTo lim X k x → IfDone (λ Z. vector_of (highest Z.levels) v ≡ w) x
        go (one_more g h) = vector_at g h
        go (limit_met h) = tt
        go still_lifting = tt

  -- ## The levels below

  -- what a level more keeps, the levels below keep
  below_keep : (P : ℕ → State → Type 0) (n : ℕ)
      → ((k : ℕ) (X : State) → P k X → T (between 1 k lim.levels) → IfDone (P (suc k)) (lift lim n X k (by_hybrid 2 lim.working)))
      → (left k : ℕ) (X : State) → P k X → 1 ≤ k → left + k ≤ suc lim.levels → IfDone (P (left + k)) (lifted_below lim n left k X)
  below_keep P n more zero k X s l h = subst (λ j. P j X) (let e : k ≡ 0 + k = omega arith in e) s
  below_keep P n more (suc left) k X s l h =
      if_done_bind (P (suc k)) (P (suc left + k)) (lift lim n X k (by_hybrid 2 lim.working)) (λ Y. lifted_below lim n left (suc k) Y)
      (more k X s (between_shown 1 k lim.levels l (omega (arith, h)))) λ Y t.
      subst (λ j. IfDone (P j) (lifted_below lim n left (suc k) Y)) (let e : left + suc k ≡ suc left + k = omega arith in e)
      (below_keep P n more left (suc k) Y t (omega arith) (omega (arith, h)))

  -- sound, with levels 0 to k − 1
  abbrev pub Stands : ℕ → State → Type 0
  Stands k X = T (sound? lim X) × (length X.levels ≡ k)

  one_more_stands : (n k : ℕ) (X : State) → Stands k X → T (between 1 k lim.levels) → IfDone (Stands (suc k)) (lift lim n X k (by_hybrid 2 lim.working))
  one_more_stands n k X (s, h) t = go (lifted_to lim o X s k (by_hybrid 2 lim.working) n)
    where
      inside : k - 1 < length X.levels
      inside = let l = between_low 1 k lim.levels t in omega (arith, l, h)

      go : {x : Result State} → LiftedTo lim X k x → IfDone (Stands (suc k)) x
      go (one_more g w) = (
        with_level lim X s k t inside g w.sound,
        let e = height_up_to lim X s (k - 1) inside in let l = between_low 1 k lim.levels t in omega
            (arith, e, l),
      )
      go (limit_met h) = tt
      go still_lifting = tt

  pub below_stands : (n left k : ℕ) (X : State) → Stands k X → 1 ≤ k → left + k ≤ suc lim.levels → IfDone (Stands (left + k)) (lifted_below lim n left k X)
  below_stands n = below_keep Stands n (one_more_stands n)

  -- the reckoning's levels 0 to k − 1 of the elements f
  module _ (q : Parameters) (f : Level) where
    abbrev ReckonedBelow : ℕ → State → Type 0
    ReckonedBelow k X = (X.parameters ≡ q) × Standing lim X.parameters f (k - 1) X.levels

    one_more_reckoned : (n k : ℕ) (X : State) → ReckonedBelow k X → T (between 1 k lim.levels)
        → IfDone (ReckonedBelow (suc k)) (lift lim n X k (by_hybrid 2 lim.working))
    one_more_reckoned n k X (e, s) t = go (lifted_to lim o X s.sound k (by_hybrid 2 lim.working) n)
      where
        inside : k - 1 < length X.levels
        inside = let h = s.height in omega (arith, h)

        go : {x : Result State} → LiftedTo lim X k x → IfDone (ReckonedBelow (suc k)) x
        go (one_more g w) =
            let j : k ≡ suc k - 1 = omega arith in (
              e,
              subst (λ h. Standing lim X.parameters f h (g ∷ up_to X (k - 1))) j
                  (level_stands lim o X.parameters f X.levels (k - 1) k s t inside g w),
            )
        go (limit_met h) = tt
        go still_lifting = tt

    below_reckoned : (n left : ℕ) → Standing lim q f 0 (f ∷ []) → left ≤ lim.levels
        → IfDone (ReckonedBelow (left + 1)) (lifted_below lim n left 1 (record { parameters = q; levels = f ∷ [] }))
    below_reckoned n left s l =
        below_keep ReckonedBelow n (one_more_reckoned n) left 1 (record { parameters = q; levels = f ∷ [] }) (refl, s) (omega arith) (omega (arith, l))

  below_steady : (left k : ℕ) (X : State) → Steady finished? (λ n. lifted_below lim n left k X)
  below_steady zero k X = steady_fixed finished? (done X)
  below_steady (suc left) k X =
      bind_steady (λ n. lift lim n X k (by_hybrid 2 lim.working)) (λ n Y. lifted_below lim n left (suc k) Y)
      (lift_steady lim X k (by_hybrid 2 lim.working)) (λ Y. below_steady left (suc k) Y)

  below_ends : (left k : ℕ) (X : State) → Stands k X → 1 ≤ k → left + k ≤ suc lim.levels → Ends finished? (λ n. lifted_below lim n left k X)
  below_ends zero k X s l h = (0, tt)
  below_ends (suc left) k X s l h =
      bind_ends (Stands (suc k)) (λ n. lift lim n X k (by_hybrid 2 lim.working)) (λ n Y. lifted_below lim n left (suc k) Y)
      (lift_steady lim X k (by_hybrid 2 lim.working)) (λ Y. below_steady left (suc k) Y)
      (λ n. one_more_stands n k X s (between_shown 1 k lim.levels l (omega (arith, h))))
      (sound_lift_ends lim bytewise X s.0 k (by_hybrid 2 lim.working))
      λ Y t. below_ends left (suc k) Y t (omega arith) (omega (arith, h))

  -- ## It ends

  -- a step at a place, seen as one of a strategy that picks it
  by_pick_finished : (S : Stage) (r : Run) (i : ℕ) → T (finished? (by_pick S (hybrid_strategy S 2) r (some i)))
  by_pick_finished S r i =
      let W : Strategy = record { drops = true; pick = λ v. some i; stops = false } in
      subst (λ x. T (finished? x)) (step_same S W refl refl r i) (step_finished S W r)

  module _ (most place : ℕ) (later : List Line) where
    over_finished : (k v : ℕ) (Y : State) → T (finished? (replay_over lim most place k v later Y))
    over_finished k v Y =
        then_finished (replayed_vector lim most place k v later Y) (λ w. done (s_lines Y.parameters.n k v w)) (vector_finished k v Y) (λ w. tt)
      where
        then_finished : {A B : Type 0} (x : Result A) (g : A → Result B) → T (finished? x) → ((a : A) → T (finished? (g a))) → T (finished? (x >>= g))
        then_finished (done a) g h j = j a
        then_finished (refused number at value) g h j = tt
        then_finished unfinished g h j = absurd h

        level_finished : {A : Type 0} (k : ℕ) (x : Result A) → T (finished? x) → T (finished? (at_level k x))
        level_finished k (done a) h = tt
        level_finished k (refused number at value) h = tt
        level_finished k unfinished h = h

        few_finished : (b : Bool) (ms : List Monomial) → T (finished? (if_few b ms))
        few_finished true ms = tt
        few_finished false ms = tt

        unless_finished : (b : Bool) (number at : ℕ) → T (finished? (unless_refused b number at))
        unless_finished true number at = tt
        unless_finished false number at = tt

        zero_finished : (b : Bool) (S : Stage) (at : ℕ) (r : Run) → T (finished? (if_zero b S at r))
        zero_finished true S at r = tt
        zero_finished false S at r = tt

        replayed_finished : (S : Stage) (k at : ℕ) (r : Run) (i : Option ℕ) → T (finished? (replayed S k at r i))
        replayed_finished S k at r none = tt
        replayed_finished S k at r (some i) =
            then_finished (at_level k (by_pick S (hybrid_strategy S 2) r (some i))) (λ s. done (run_after s))
            (level_finished k (by_pick S (hybrid_strategy S 2) r (some i)) (by_pick_finished S r i)) (λ s. tt)

        line_finished : (S : Stage) (n k at picks : ℕ) (r : Run) (x : Option (List ℕ)) → T (finished? (p_line most S n k at picks r x))
        line_finished S n k at picks r none = tt
        line_finished S n k at picks r (some v) =
            then_finished (unless_refused (ltb picks most) 21 at) (λ u. replayed S k at r (place_from (pick_of n v) 0 r.value))
            (unless_finished (ltb picks most) 21 at) (λ u. replayed_finished S k at r (place_from (pick_of n v) 0 r.value))

        lines_finished : (S : Stage) (field n k at picks : ℕ) (r : Run) (ls : List Line) → T (finished? (p_lines most S field n k at picks r ls))
        lines_finished S field n k at picks r [] = zero_finished (empty? r.value) S at r
        lines_finished S field n k at picks r (line ∷ ls) =
            then_finished (p_line most S n k at picks r (shaped field letter_P (suc n) line)) (λ r'. p_lines most S field n k (suc at) (suc picks) r' ls)
            (line_finished S n k at picks r (shaped field letter_P (suc n) line)) (λ r'. lines_finished S field n k (suc at) (suc picks) r' ls)

        vector_finished : (k v : ℕ) (Y : State) → T (finished? (replayed_vector lim most place k v later Y))
        vector_finished k v Y =
            let S = stage_over lim Y.parameters.p Y.parameters.code Y.levels in
            let all = frame (lim.numbering Y.parameters.code) (leading_monomials (highest Y.levels)) in
            let lines : Run → Result Vector = λ r. p_lines most S lim.field Y.parameters.n k (suc place) 0 r later in
            let begun : List Monomial → Result Vector = λ ms. at_level k (start S (hybrid_strategy S 2) (get_or ms (v - 1) no_term.1)) >>= lines in
            then_finished (at_level k (if_few (leb (length all) lim.vectors) all)) (λ ms. unless_refused (between 1 v (length ms)) 12 place >>= λ u. begun
            ms)
            (level_finished k (if_few (leb (length all) lim.vectors) all) (few_finished (leb (length all) lim.vectors) all)) λ ms.
            then_finished (unless_refused (between 1 v (length ms)) 12 place) (λ u. begun ms) (unless_finished (between 1 v (length ms)) 12 place) λ u.
            then_finished (at_level k (start S (hybrid_strategy S 2) (get_or ms (v - 1) no_term.1))) lines
            (level_finished k (start S (hybrid_strategy S 2) (get_or ms (v - 1) no_term.1))
            (start_finished S (hybrid_strategy S 2) (get_or ms (v - 1) no_term.1)))
            (λ r. lines_finished S lim.field Y.parameters.n k (suc place) 0 r later)

  module _ (most place : ℕ) where
    pub l_first_steady : (ls : List Line) (X : State) → Steady finished? (λ n. l_first lim n most place ls X)
    l_first_steady [] X = steady_fixed finished? (refused 21 place [])
    l_first_steady (line ∷ later) X = go (shaped lim.field letter_L 2 line)
      where
        go : (o : Option (List ℕ)) → Steady finished? (λ n. l_line lim n most place later X o)
        go none = steady_fixed finished? (refused 21 place [])
        go (some v) =
            bind_steady (λ n. unless_refused (between 1 (get_or v 0 0) lim.levels) 12 place)
            (λ n u. lifted_below lim n (get_or v 0 0 - 1) 1 X >>= replay_over lim most place (get_or v 0 0) (get_or v 1 0) later)
            (steady_fixed finished? (unless_refused (between 1 (get_or v 0 0) lim.levels) 12 place)) λ u.
            bind_fixed (replay_over lim most place (get_or v 0 0) (get_or v 1 0) later) (λ n. lifted_below lim n (get_or v 0 0 - 1) 1 X)
            (below_steady (get_or v 0 0 - 1) 1 X)

    l_first_ends : (ls : List Line) (X : State) → Stands 1 X → Ends finished? (λ n. l_first lim n most place ls X)
    l_first_ends [] X s = (0, tt)
    l_first_ends (line ∷ later) X s = go (shaped lim.field letter_L 2 line)
      where
        lifted : (v : List ℕ) (b : Bool) → between 1 (get_or v 0 0) lim.levels ≡ b
            → Ends finished? (λ n. unless_refused b 12 place >>= λ u.
            lifted_below lim n (get_or v 0 0 - 1) 1 X >>= replay_over lim most place (get_or v 0 0) (get_or v 1 0) later)
        lifted v false e = (0, tt)
        lifted v true e =
            let t : T (between 1 (get_or v 0 0) lim.levels) = subst T (sym e) tt in
            let l = between_low 1 (get_or v 0 0) lim.levels t in
            let h = between_high 1 (get_or v 0 0) lim.levels t in
            bind_fixed_ends (replay_over lim most place (get_or v 0 0) (get_or v 1 0) later) (λ n. lifted_below lim n (get_or v 0 0 - 1) 1 X)
            (below_ends (get_or v 0 0 - 1) 1 X s (omega arith) (omega (arith, l, h))) (over_finished most place later (get_or v 0 0) (get_or v 1 0))

        go : (o : Option (List ℕ)) → Ends finished? (λ n. l_line lim n most place later X o)
        go none = (0, tt)
        go (some v) = lifted v (between 1 (get_or v 0 0) lim.levels) refl

  -- ## The program

  abbrev whole : Bytes → ℕ → Result Bytes
  whole bytes n = read lim n (file_of bytes) >>= replay_of lim n most_picks bytes

  whole_steady : (bytes : Bytes) → Steady finished? (whole bytes)
  whole_steady bytes =
      bind_steady (λ n. read lim n (file_of bytes)) (λ n X. replay_of lim n most_picks bytes X) (read_steady lim (file_of bytes))
      (l_first_steady most_picks (first_after bytes) (lines_after bytes))

  replay_steady : (bytes : Bytes) → Steady answered? (λ n. replay lim n bytes)
  replay_steady bytes = result_steady answered? (printed_or_refused (variables_of (problem lim (file_of bytes)))) (λ t. t) (whole bytes) (whole_steady bytes)

  read_stands : (bytes : Bytes) (n : ℕ) → IfDone (Stands 1) (read lim n bytes)
  read_stands bytes n = go (reading lim o n bytes)
    where
      go : {x : Result State} → Reading lim bytes x → IfDone (Stands 1) x
      go (taken {q} {f} e s) = (well_formed lim o bytes q f e, refl)
      go (refused_reading r) = tt
      go still_reading = tt

  whole_ends : (bytes : Bytes) → Ends finished? (whole bytes)
  whole_ends bytes =
      bind_ends (Stands 1) (λ n. read lim n (file_of bytes)) (λ n X. replay_of lim n most_picks bytes X) (read_steady lim (file_of bytes))
      (l_first_steady most_picks (first_after bytes) (lines_after bytes)) (read_stands (file_of bytes)) (read_ends lim bytewise (file_of bytes))
      (l_first_ends most_picks (first_after bytes) (lines_after bytes))

  printed_answered : (n : ℕ) (x : Result Bytes) → T (finished? x) → T (answered? (printed_or_refused n x))
  printed_answered n (done bytes) t = tt
  printed_answered n (refused number place value) t = tt
  printed_answered n unfinished t = t

  answer_of : (x : Option Bytes) → T (answered? x) → (out : Bytes) × (x ≡ some out)
  answer_of none t = absurd t
  answer_of (some out) t = (out, refl)

  one : (bytes : Bytes) (n m : ℕ) (a b : Bytes) → replay lim n bytes ≡ some a → replay lim m bytes ≡ some b → a ≡ b
  one bytes n m a b h k = some_is (sym h ∙ steady_once answered? (λ i. replay lim i bytes) (replay_steady bytes) n m (shown a h) (shown b k) ∙ k)
    where
      shown : {x : Option Bytes} (a : Bytes) → x ≡ some a → T (answered? x)
      shown a e = subst (λ y. T (answered? y)) (sym e) tt

  module _ (n : ℕ) (bytes : Bytes) (q : Parameters) (f : Level) (e : WellFormedFile lim (file_of bytes) q f) (s₂ : Standing lim q f 0 (f ∷ [])) where
    abbrev X₂ : State
    X₂ = record { parameters = q; levels = f ∷ [] }

    given_page : (out : Bytes) (ls : List Line) → lines_after bytes ≡ ls → l_first lim n most_picks (first_after bytes) ls X₂ ≡ done out → Page lim bytes out
    given_page out [] r h = absurd (refused_is_not h)
    given_page out (line ∷ later) r h = shape (shaped lim.field letter_L 2 line) refl h
      where
        shape : (x : Option (List ℕ)) → shaped lim.field letter_L 2 line ≡ x → l_line lim n most_picks (first_after bytes) later X₂ x ≡ done out → Page lim
            bytes out
        shape none a h = absurd (refused_is_not h)
        shape (some v) a h =
            let (t, (Y, b, (w, c, d))) = given_by lim n most_picks (first_after bytes) X₂ line later v a out
            (ap (l_line lim n most_picks (first_after bytes) later X₂) a ∙ h) in
            let l = between_low 1 (get_or v 0 0) lim.levels t in
            let u = between_high 1 (get_or v 0 0) lim.levels t in
            let (p, z) = if_done_says (ReckonedBelow q f (get_or v 0 0 - 1 + 1)) (lifted_below lim n (get_or v 0 0 - 1) 1 X₂)
            (below_reckoned q f n (get_or v 0 0 - 1) s₂ (omega (arith, u))) Y b in
            let k : length Y.levels ≡ get_or v 0 0 = let i = z.height in omega (arith, l, i) in
            let R : Reckons lim (record { basis = some (q, f); h = get_or v 0 0 - 1 }) Y.levels =
            subst (λ x. Reckons lim (record { basis = some (x, f); h = get_or v 0 0 - 1 }) Y.levels) p
            (tower_reckons lim Y.parameters f Y.levels (get_or v 0 0 - 1) (let i = z.height in omega (arith, i)) z.tower) in
            subst (Page lim bytes) (sym d)
            (Replays.given n line later v e s₂.exact r a t b z.sound k p R c
            (vector_right most_picks (first_after bytes) (get_or v 0 0) (get_or v 1 0) later Y w z.sound c))

    page_of : (x : Result Bytes) → l_first lim n most_picks (first_after bytes) (lines_after bytes) X₂ ≡ x
        → Refuses (Said lim (first_after bytes) (length (lines_after bytes))) x → Holds (Page lim bytes) (printed_or_refused q.n x)
    page_of (done a) r h = holds (given_page a (lines_after bytes) refl r)
    page_of (refused number place value) r (h, z) =
        subst (λ v. Holds (Page lim bytes) (printed_or_refused q.n (refused number place v))) (sym z)
        (holds (Replays.not_taken n number place e s₂.exact (r ∙ ap (λ v. refused number place v) z) h))
    page_of unfinished r h = nothing

  page_at : (n : ℕ) (bytes : Bytes) → Holds (Page lim bytes) (replay lim n bytes)
  page_at n bytes = go (reading lim o n (file_of bytes))
    where
      go : {x : Result State} → Reading lim (file_of bytes) x
          → Holds (Page lim bytes) (printed_or_refused (variables_of (problem lim (file_of bytes))) (x >>= replay_of lim n most_picks bytes))
      go (taken {q} {f} e s) = subst (λ y. Holds (Page lim bytes) (printed_or_refused (variables_of y) (replay_of lim n most_picks bytes
          (record { parameters = q; levels = f ∷ [] })))) (sym ((files lim o).taken (file_of bytes) q f e))
          (page_of n bytes q f e s (replay_of lim n most_picks bytes (record { parameters = q; levels = f ∷ [] })) refl
          (l_said lim n most_picks (first_after bytes) (lines_after bytes) (record { parameters = q; levels = f ∷ [] })))
      go (refused_reading r) = holds (Replays.not_read r)
      go still_reading = nothing

  pub replays_right : A9 lim
  replays_right = record {
    logs = log_right;
    l_lines = l_line_right lim;
    vectors = vector_right;
    ways = λ n most place k v way later X Z w s h e c. by_any_way most place k v later X w s h c n way Z e;
    pages = λ n bytes out e. holds_at e (page_at n bytes);
    ends = λ bytes. let (n, t) = whole_ends bytes in
        (n, answer_of (replay lim n bytes) (printed_answered (variables_of (problem lim (file_of bytes))) (whole bytes n) t));
    one_page = λ n m bytes a b h k. one bytes n m a b h k;
  }

pub replays_of_document_01 : A9 document_01
replays_of_document_01 = replays_right document_01 tt
