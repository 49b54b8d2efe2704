-- What the theorems about lifting say of a level lifted over a state: sound, refused by a limit alone, and so one that can be stored.
use mathlib.Core.Path.{◌≡◌, refl, sym, ap, ◌∙◌, subst}
use mathlib.Core.Bool.{Bool, true, false}
use mathlib.Core.List.{List, [], ◌∷◌}
use Prim.Native.Nat.{ℕ, zero, suc, ◌-◌, ◌<◌, ◌≤◌}
use native.Mathlib.Nat.{not-suc-le-zero}
use native.Mathlib.Omega.{arith}
use native.Mathlib.Decide.{ℕ_discrete}
use lib.Dec.{T, leb, le→leb}
use lib.ListN.{length, get_or, take, drop, replicate}
use lib.Seq.{length-take-le, get_or-take}
use Rattle.definitions.specs.Limits.{document_01}
use Rattle.definitions.specs.Lists.{◌and◌, choose, every, between}
use Rattle.definitions.specs.Monomial.{Monomial, Level}
use Rattle.definitions.specs.Result.{Result, done, refused, unfinished, finished?, at_level, ◌>>=◌}
use Rattle.definitions.specs.Problem.{Parameters}
use Rattle.definitions.specs.State.{State, sound?, vector_sound?, levels_sound?}
use Rattle.definitions.specs.Stage.{Stage, narrowed}
use Rattle.definitions.specs.Run.{by_code, hybrid_strategy}
use Rattle.definitions.specs.Tree.{Cache, Sum}
use Rattle.definitions.specs.Lifting.{Lifting, by_division, by_hybrid, Lifted, with_vector, limited_frame, lift_all, lift_level}
use Rattle.definitions.specs.Calls.{lift}
use Rattle.definitions.specs.Layout.{Words, rows, encode, decode, vectors_at, degrees_at, level_at, levels_at, all_words_sound?, holds_state?}
use Rattle.laws.proofs.Degrees.{carries_below}
use Rattle.laws.proofs.Tests.{and_left, and_right, and_both, between_high, between_shown}
use Rattle.laws.proofs.Sound.{level_says, vector_says}
use Rattle.laws.proofs.Modular.{prime_says}
use Rattle.laws.proofs.Numbers as numbers
use Rattle.laws.proofs.Numbers.{limit_number?, Numbered, lift_level_number}
use Rattle.laws.proofs.Rows.{length_rows}
use Rattle.definitions.specs.Places.{most_rows, most_terms, most_levels, all_levels, state_length, ends_length, lifted_length}
use Rattle.demands.proofs.Results.{Gives, gives, refuses, open_yet}
use Rattle.demands.proofs.Over.{LiftRight, over}
use Rattle.demands.proofs.Lifts.{LiftedTo, one_more, limit_met, still_lifting, lifted_to, with_level as level_above}
use Rattle.vectors.specs.terms.Rows.{cleared}
use Rattle.reducers.specs.tables.Cuts.{start_of}
use Rattle.state.specs.soundness.Places.{parameters_at}
use Rattle.state.specs.degrees.Carrying.{carried_right?}
use Rattle.state.proofs.soundness.StateTests.{holds_said}
use Rattle.runs.specs.declared.run.Strategy.{Strategy}
use Rattle.runs.specs.frame_terms.Vectors.{lifted_vectors, Kept, lifts}
use Rattle.level.specs.by_runs.Stages.{Base, with_working, usual, stage_at, lift_over, leveled_of, StoredAs}
use Rattle.level.specs.declared.by_runs.Leveled.{Leveled}
use Rattle.level.specs.declared.by_runs.Leveled.TheVariants.{Vectors, Stopped}
use Rattle.std.specs.Prelude.{Result as CodeResult, Ok, Err}
use Rattle.words.specs.declared.refusals.Refusal.{Refusal}
use Rattle.words.specs.refusals.Numbers.{number_of}
use Rattle.level.proofs.by_runs.GroundOfLevel.{sound_levels, prime_at}
use Rattle.level.specs.storing.Stored.{KeptApart, with_level, Added}
use Rattle.state.proofs.preparing.Complete.{up_to_is, length_levels, holds_sound}
use Rattle.level.specs.all_levels.Level.{Liftable, Chosen, by_picks, by_leading, way_by, Settles, state_over, stored, told, LiftedBy, kept, KeptAs}
use Rattle.level.specs.all_levels.Level.{usual_way, LiftedNext}

pub few_variables : (s : Words) → state_length ≤ length s → T (holds_state? document_01 s) → get_or s 1 0 ≤ 8
few_variables s long holds = between_high 1 (get_or s 1 0) 8 (and_left (between 1 (get_or s 1 0) 8) (between 1 (get_or s 2 0) 3 and between 1 (get_or s 3 0) 16)
    (holds_said s long holds).3)

pub chosen_few : (w : Strategy) (working : ℕ) → Chosen w working → working ≤ most_terms
chosen_few w working (by_picks d e h) = h
chosen_few w working (by_leading d p e f) = omega (arith, f)

-- no way of lifting stops at a value without a reducer
pub chosen_on : (w : Strategy) (working : ℕ) → Chosen w working → w.stops ≡ false
chosen_on w working (by_picks d e h) = e
chosen_on w working (by_leading d p e f) = e

-- whatever room the working value has, the level has its own
pub all_narrowed : (S : Stage) (working : ℕ) (lift_term : Cache → Monomial → Result Sum) (l : Lifted) (cache : Cache) (ms : List Monomial)
    → lift_all (narrowed working S) lift_term l cache ms ≡ lift_all S lift_term l cache ms
all_narrowed S working lift_term l cache [] = refl
all_narrowed S working lift_term l cache (m ∷ ms) =
    λ i. lift_term cache m >>= λ s. with_vector S l s >>= λ l'. all_narrowed S working lift_term l' s.1 ms i

module _ (s : Words) (j : ℕ) (b : Base s j) where
  abbrev below : List Level
  below = levels_at document_01 s (suc j)

  abbrev q : Parameters
  q = parameters_at s

  abbrev Right : Result Level → Type 0
  Right (done f) = T (levels_sound? document_01 q (f ∷ below))
  Right (refused number place value) = T (limit_number? number) × (value ≡ [])
  Right unfinished = Unit {0}

  right : (way : Lifting) (n : ℕ) → Right (lift_level document_01 q.p q.code below way n)
  right way n =
      go ((over document_01 q (prime_says q.p (prime_at s j b)) (few_variables s b.long b.holds) (omega arith) below
      (sound_levels s j b)).lifts way n)
      (lift_level_number document_01 q.p q.code below way n)
    where
      go : {x : Result Level} → Gives (LiftRight document_01 q below) x → Numbered limit_number? x → Right x
      go (gives {a} r) h = r.sound
      go (refuses u) (numbers.refuses t) = (t, refl)
      go (refuses u) (numbers.stops t) = absurd t
      go open_yet h = tt

  -- a run's strategy is one of the ways
  chosen_is : (w : Strategy) (working : ℕ) → Chosen w working → (n : ℕ) → lift_over (with_working working) s j w n
      ≡ lift_level document_01 q.p q.code below (way_by w working) n
  chosen_is w working (by_picks d e h) n =
      let N : Stage = stage_at (with_working working) s j in
      (λ i.
      limited_frame document_01 q.code (level_at document_01 s j) >>= λ ms.
      lift_all N (lifts N (record { drops = d i; pick = by_code N.below w.pick; stops = e i }) n) ([], 0) [] ms)
      ∙ (λ i.
      limited_frame document_01 q.code (level_at document_01 s j) >>= λ ms.
      all_narrowed (stage_at usual s j) working (lifts N (hybrid_strategy N w.pick) n) ([], 0) [] ms i)
      ∙ ap (λ t. lift_level document_01 q.p q.code below (choose t (by_hybrid w.pick working) by_division) n) (sym d)
  chosen_is w working (by_leading d p e f) n =
      ap (λ x. lift_over (with_working x) s j w n) f
      ∙ (λ i.
      limited_frame document_01 q.code (level_at document_01 s j) >>= λ ms.
      lift_all (stage_at usual s j) (lifts (stage_at usual s j) (record { drops = d i; pick = by_code (stage_at usual s j).below (p i); stops = e i })
      n) ([], 0) [] ms)
      ∙ ap (λ t. lift_level document_01 q.p q.code below (choose t (by_hybrid w.pick working) by_division) n) (sym d)

pub lowest : (s : Words) (j : ℕ) → Base s j → Base s 0
lowest s j b = record { long = b.long; holds = b.holds; has = omega (arith, b.has); low = omega arith }

-- ## None is empty

abbrev before : ℕ → Words → ℕ → ℕ
before a es zero = a
before a es (suc i) = get_or es i 0

module _ (q : Parameters) (components : ℕ) (below : List Level) where
  filled_from : (z : Words) (a : ℕ) (es : Words) → T (every (vector_sound? document_01 q components most_terms below) (vectors_at z a es)) → (j : ℕ)
      → j < length es → before a es j < get_or es j 0
  filled_from z a [] t j h = absurd (not-suc-le-zero h)
  filled_from z a (e ∷ es) t zero h =
      let v = vector_says document_01 q components most_terms below (rows z a (e - a))
      (and_left (vector_sound? document_01 q components most_terms below (rows z a (e - a)))
      (every (vector_sound? document_01 q components most_terms below) (vectors_at z e es)) t) in
      omega (arith, v.filled, length_rows z a (e - a))
  filled_from z a (e ∷ es) t (suc zero) h =
      filled_from z e es (and_right (vector_sound? document_01 q components most_terms below (rows z a (e - a)))
      (every (vector_sound? document_01 q components most_terms below) (vectors_at z e es)) t) zero (omega arith)
  filled_from z a (e ∷ es) t (suc (suc j)) h =
      filled_from z e es (and_right (vector_sound? document_01 q components most_terms below (rows z a (e - a)))
      (every (vector_sound? document_01 q components most_terms below) (vectors_at z e es)) t) (suc j) (omega arith)

start_before : (out : Words) (n j : ℕ) → j < n → before 0 (take n out) j ≡ start_of out j
start_before out n zero h = refl
start_before out n (suc j) h = get_or-take n out j 0 (omega arith)

pub apart : (s : Words) (j : ℕ) (b : Base s j) (n used : ℕ) (out : Words) → lifted_length ≤ length out → used ≤ most_rows → Kept n used out
    → T (levels_sound? document_01 (parameters_at s) (lifted_vectors out n ∷ levels_at document_01 s (suc j))) → KeptApart n out
apart s j b n used out l u k t = record {
  few = k.few;
  long = omega (arith, l);
  filled = λ i h.
      let x = (level_says document_01 (parameters_at s) (lifted_vectors out n) (level_at document_01 s j) (levels_at document_01 s j) t).vectors in
      let y = filled_from (parameters_at s) (length (level_at document_01 s j)) (levels_at document_01 s (suc j)) (drop ends_length out) 0
      (take n out) x i (omega (arith, length-take-le n out (omega (arith, l, k.few)))) in
      omega (arith, y, start_before out n i h, get_or-take n out i 0 h);
  room = λ i h. omega (arith, k.inside i h, u);
}

-- ## What can be stored

-- vectors that stand apart, or a refusal
abbrev Apart : CodeResult Leveled Refusal → Words → Type 0
Apart (Ok (Vectors n used)) out = KeptApart n out
Apart (Ok (Stopped n)) out = ⊥
Apart (Err e) out = Unit {0}

module _ (s : Words) (j : ℕ) (b : Base s j) (out : Words) (long : lifted_length ≤ length out) where
  stands : (x : CodeResult Leveled Refusal) (v : Words) → Right s j b (leveled_of x out v) → StoredAs x out → Apart x out
  stands (Ok (Vectors n used)) v r k = apart s j b n used out long k.0 k.1 r
  stands (Ok (Stopped n)) v r k = absurd r.0
  stands (Err e) v r k = tt

  valueless : (x : CodeResult Leveled Refusal) (v : Words) → Apart x out → leveled_of x out [] ≡ leveled_of x out v
  valueless (Ok (Vectors n used)) v h = refl
  valueless (Ok (Stopped n)) v h = absurd h
  valueless (Err e) v h = refl

  over_finished : (x : CodeResult Leveled Refusal) (v : Words) → T (finished? (leveled_of x out v))
  over_finished (Ok (Vectors n used)) v = tt
  over_finished (Ok (Stopped n)) v = tt
  over_finished (Err e) v = tt

  -- what a lifting left, any way
  way_right : (way : Lifting) (n : ℕ) (x : CodeResult Leveled Refusal) (v : Words) → leveled_of x out v
      ≡ lift_level document_01 (get_or s 0 0) (get_or s 2 0) (levels_at document_01 s (suc j)) way n → Right s j b (leveled_of x out v)
  way_right way n x v e = subst (Right s j b) (sym e) (right s j b way n)

  way_apart : (way : Lifting) (n : ℕ) (x : CodeResult Leveled Refusal) (v : Words) → leveled_of x out v
      ≡ lift_level document_01 (get_or s 0 0) (get_or s 2 0) (levels_at document_01 s (suc j)) way n → StoredAs x out → Apart x out
  way_apart way n x v e k = stands x v (way_right way n x v e) k

  pub run_way : (w : Strategy) (working : ℕ) → Chosen w working → (n : ℕ) (x : CodeResult Leveled Refusal) (v : Words) → leveled_of x out v
      ≡ lift_over (with_working working) s j w n
      → leveled_of x out v ≡ lift_level document_01 (get_or s 0 0) (get_or s 2 0) (levels_at document_01 s (suc j)) (way_by w working) n
  run_way w working c n x v e = e ∙ chosen_is s j b w working c n

-- ## The state with it

module _ (s : Words) (k : ℕ) (h : Liftable s k) where
  -- the levels below, as the state has them
  pub lift_is : (way : Lifting) (n : ℕ)
      → state_over s k (lift_level document_01 (get_or s 0 0) (get_or s 2 0) (levels_at document_01 s (suc (k - 1))) way n)
      ≡ lift document_01 n (decode document_01 s) k way
  lift_is way n =
      let e : k ≡ suc (k - 1) = omega (arith, h.low) in
      ap (λ m. at_level k (lift_level document_01 (get_or s 0 0) (get_or s 2 0) (levels_at document_01 s (suc (k - 1))) way n) >>= λ f.
      done (record { parameters = parameters_at s; levels = f ∷ levels_at document_01 s m })) e
      ∙ ap (λ ls. at_level k (lift_level document_01 (get_or s 0 0) (get_or s 2 0) ls way n)
      >>= λ f. done (record { parameters = parameters_at s; levels = f ∷ ls })) (sym (up_to_is s (k - 1) h.base.has))

  next : suc (k - 1) ≡ k
  next = omega (arith, h.low)

  -- a sound level over them leaves the state sound
  sound_with : (f : Level) → T (levels_sound? document_01 (parameters_at s) (f ∷ levels_at document_01 s (suc (k - 1))))
      → T (sound? document_01 (record { parameters = parameters_at s; levels = f ∷ levels_at document_01 s k }))
  sound_with f t =
      let up = up_to_is s (k - 1) h.base.has in
      subst (λ ls. T (sound? document_01 (record { parameters = parameters_at s; levels = f ∷ ls }))) (up ∙ ap (levels_at document_01 s) next)
      (level_above document_01 (decode document_01 s) (holds_sound s h.base.holds) k (between_shown 1 k most_levels h.low h.high)
      (omega (arith, length_levels s (get_or s 4 0), h.base.has)) f
      (subst (λ ls. T (levels_sound? document_01 (parameters_at s) (f ∷ ls))) (sym up) t))

  settles : (x : CodeResult Leveled Refusal) (out v : Words) → Right s (k - 1) h.base (leveled_of x out v) → Apart x out → Settles s k x out
  settles (Ok (Vectors n used)) out v r a = (a, sound_with (lifted_vectors out n) r)
  settles (Ok (Stopped n)) out v r a = a
  settles (Err e) out v r a = tt

  -- what a lifting left, any way
  pub way_settles : (out : Words) → lifted_length ≤ length out → (way : Lifting) (n : ℕ) (x : CodeResult Leveled Refusal) (v : Words)
      → leveled_of x out v ≡ lift_level document_01 (get_or s 0 0) (get_or s 2 0) (levels_at document_01 s (suc (k - 1))) way n → StoredAs x out
      → Settles s k x out
  way_settles out long way n x v e saved =
      settles x out v (way_right s (k - 1) h.base out long way n x v e) (way_apart s (k - 1) h.base out long way n x v e saved)

  at_finished : (x : Result Level) → T (finished? x) → T (finished? (state_over s k x))
  at_finished (done f) t = tt
  at_finished (refused number place value) t = tt
  at_finished unfinished t = t

  -- stored: the contract of one level
  pub lifted_by : (way : Lifting) (n : ℕ) (out : Words) → lifted_length ≤ length out → (x : CodeResult Leveled Refusal) (v : Words)
      → leveled_of x out v ≡ lift_level document_01 (get_or s 0 0) (get_or s 2 0) (levels_at document_01 s (suc (k - 1))) way n → StoredAs x out
      → (r : CodeResult (Unit {0}) Refusal) (t : Words) → told r t ≡ stored s (state_over s k (leveled_of x out [])) → LiftedBy s k way r t
  lifted_by way n out long x v e kept r t p =
      let settled = way_apart s (k - 1) h.base out long way n x v e kept in
      let f = valueless s (k - 1) h.base out long x v settled ∙ e in (
        n,
        p ∙ ap (λ y. stored s (state_over s k y)) f ∙ ap (stored s) (lift_is way n),
        subst (λ y. T (finished? y)) (lift_is way n) (at_finished (lift_level document_01 (get_or s 0 0) (get_or s 2 0)
            (levels_at document_01 s (suc (k - 1))) way n) (subst (λ y. T (finished? y)) e (over_finished s (k - 1) h.base out long x v))),
      )

  -- ## Kept without zeroing

  abbrev here : State
  here = decode document_01 s

  abbrev or_here : Result State → State
  or_here (done Y) = Y
  or_here (refused number place value) = here
  or_here unfinished = here

  abbrev is_done : Result State → Bool
  is_done (done Y) = true
  is_done (refused number place value) = false
  is_done unfinished = false

  sound_next : (way : Lifting) (n : ℕ) (Y : State) → lift document_01 n here k way ≡ done Y → T (sound? document_01 Y)
  sound_next way n Y e = go (lifted_to document_01 tt here (holds_sound s h.base.holds) k way n) e
    where
      go : {x : Result State} → LiftedTo document_01 here k x → x ≡ done Y → T (sound? document_01 Y)
      go (one_more g r) p =
          subst (λ Z. T (sound? document_01 Z)) (ap or_here p)
          (level_above document_01 here (holds_sound s h.base.holds) k (between_shown 1 k most_levels h.low h.high)
          (omega (arith, length_levels s (get_or s 4 0), h.base.has)) g r.sound)
      go (limit_met u) p = absurd (subst (λ x. T (is_done x)) (sym p) tt)
      go still_lifting p = absurd (subst (λ x. T (is_done x)) (sym p) tt)

  added_base : (t : Words) (count : ℕ) (out : Words) → Added s t k count out → T (sound? document_01 (with_level s k count out)) → Base t 0
  added_base t count out A sound =
      let tall : get_or t 4 0 ≤ all_levels = omega (arith, A.height, h.high) in
      let Rest : Bool = sound? document_01 (decode document_01 t) and carried_right? t (get_or t 4 0) in
      record {
        long = omega (arith, A.long, h.base.long);
        holds =
            and_both (leb (get_or t 4 0) all_levels) (all_words_sound? document_01 t (get_or t 4 0) and Rest) (le→leb (get_or t 4 0) all_levels tall)
            (and_both (all_words_sound? document_01 t (get_or t 4 0)) Rest
            (subst (λ i. T (all_words_sound? document_01 t i)) (sym A.height) A.words)
            (and_both (sound? document_01 (decode document_01 t)) (carried_right? t (get_or t 4 0))
            (subst (λ Z. T (sound? document_01 Z)) (sym A.state) sound) (subst (λ i. T (carried_right? t i)) (sym A.height) A.carries)));
        has = omega (arith, A.height);
        low = omega arith;
      }

  next_of : (n : ℕ) (out : Words) (x : Leveled) (r : CodeResult (Unit {0}) Refusal) (t : Words) → KeptAs s k x out r t
      → leveled_of (Ok x) out [] ≡ lift_level document_01 (get_or s 0 0) (get_or s 2 0) (levels_at document_01 s (suc (k - 1))) usual_way n
      → LiftedNext s k r t
  next_of n out (Vectors count used) (Ok u) t A e =
      let p : lift document_01 n here k usual_way ≡ done (with_level s k count out) = sym (lift_is usual_way n) ∙ ap (state_over s k) (sym e) in
      record {
        bound = n;
        gives = (λ i. (0, A.state i)) ∙ ap (kept here) (sym p);
        finishes = subst (λ y. T (finished? y)) (sym p) tt;
        base = added_base t count out A (sound_next usual_way n (with_level s k count out) p);
      }
  next_of n out (Vectors count used) (Err m) t a e = absurd a
  next_of n out (Stopped m) r t a e = absurd a

  pub lifted_next : (n : ℕ) (out : Words) → lifted_length ≤ length out → (x : Leveled) (v : Words)
      → leveled_of (Ok x) out v ≡ lift_level document_01 (get_or s 0 0) (get_or s 2 0) (levels_at document_01 s (suc (k - 1))) usual_way n
      → StoredAs (Ok x) out → (r : CodeResult (Unit {0}) Refusal) (t : Words) → KeptAs s k x out r t → LiftedNext s k r t
  lifted_next n out long x v e saved r t a =
      let settled = way_apart s (k - 1) h.base out long usual_way n (Ok x) v e saved in
      next_of n out x r t a (valueless s (k - 1) h.base out long (Ok x) v settled ∙ e)

  pub refused_next : (n : ℕ) (out : Words) (m : Refusal) (v : Words)
      → leveled_of (Err m) out v ≡ lift_level document_01 (get_or s 0 0) (get_or s 2 0) (levels_at document_01 s (suc (k - 1))) usual_way n
      → LiftedNext s k (Err m) s
  refused_next n out m v e =
      let p : lift document_01 n here k usual_way ≡ refused (number_of m) k [] = sym (lift_is usual_way n) ∙ ap (state_over s k) (sym e) in
      record {
        bound = n;
        gives = ap (kept here) (sym p);
        finishes = subst (λ y. T (finished? y)) (sym p) tt;
        base = lowest s (k - 1) h.base;
      }

  pub kept_words : (x : Leveled) (count used : ℕ) (out t : Words) → x ≡ Vectors count used → Added s t k count out → KeptAs s k x out (Ok tt) t
  kept_words x count used out t e A = subst (λ y. KeptAs s k y out (Ok tt) t) (sym e) A

  pub stored_words : (x : Leveled) (count used : ℕ) (out t : Words) → x ≡ Vectors count used → t
      ≡ encode document_01 (length s) (with_level s k count out)
      → told (Ok tt) t ≡ stored s (state_over s k (leveled_of (Ok x) out []))
  stored_words x count used out t e p = ap (told (Ok tt)) p ∙ ap (λ y. stored s (state_over s k (leveled_of (Ok y) out []))) (sym e)

  pub refused_words : (x : CodeResult Leveled Refusal) (e : Refusal) (out : Words) → x ≡ Err e
      → told (Err e) s ≡ stored s (state_over s k (leveled_of x out []))
  refused_words x e out p = ap (λ y. stored s (state_over s k (leveled_of y out []))) (sym p)

-- ## Degrees that are carried

pub carried_below : (s : Words) (h k : ℕ) → k ≤ h → T (carried_right? s h) → T (carried_right? s k)
carried_below s zero k l t = let z : 0 ≡ k = omega arith in subst (λ n. T (carried_right? s n)) z t
carried_below s (suc h) k l t = go (ℕ_discrete k (suc h))
    (λ m. carried_below s h k m (carries_below document_01 s (degrees_at document_01 s) (level_at document_01 s h) (levels_at document_01 s h) t))
  where
    go : Dec (k ≡ suc h) → (k ≤ h → T (carried_right? s k)) → T (carried_right? s k)
    go (yes e) r = subst (λ n. T (carried_right? s n)) (sym e) t
    go (no e) r = r (omega arith)

pub liftable_carried : (s : Words) (k : ℕ) → Liftable s k → T (carried_right? s k)
liftable_carried s k h = carried_below s (get_or s 4 0) k (omega (arith, h.low, h.base.has)) (holds_said s h.base.long h.base.holds).6

-- ## What is zeroed

pub emptied : (room : ℕ) (z : Words) → length z ≡ room → cleared z 0 ≡ replicate room 0
emptied room z e = let d : length z - 0 ≡ room = omega (arith, e) in ap (λ a. replicate a 0) d
