-- Request A6, whole.
use mathlib.Core.Path.{◌≡◌, refl, sym, ap, ◌∙◌, subst}
use mathlib.Core.Bool.{Bool, true, false, not}
use mathlib.Core.Option.{Option, some}
use mathlib.Core.List.{[], ◌∷◌, ◌++◌, append_assoc}
use Prim.Native.Nat.{ℕ, zero, suc, ◌+◌, ◌<◌, ◌≤◌}
use native.Mathlib.Omega.{arith}
use lib.Dec.{T, leb, eqb, leb→le, nleb→lt, eqb→eq}
use lib.ListN.{length}
use Rattle.definitions.specs.Limits.{Limits, document_01}
use Rattle.definitions.specs.Field.{inverse}
use Rattle.definitions.specs.Monomial.{Vector, Level, leading_term}
use Rattle.definitions.specs.Order.{compare_over}
use Rattle.definitions.specs.Vectors.{strictly_descending?}
use Rattle.definitions.specs.Result.{Result, done, refused, unfinished, finished?, unless_refused, ◌>>=◌}
use Rattle.definitions.specs.Lifting.{accept}
use Rattle.definitions.specs.Problem.{Bytes, Parameters, problem}
use Rattle.definitions.specs.State.{State, terms_of, levels_sound?, sound?}
use Rattle.definitions.specs.Calls.{accepted, read}
use Rattle.definitions.specs.Sheet.{x_lines, variables_of}
use Rattle.definitions.specs.Program.{printed_or_refused}
use Rattle.definitions.specs.Written.{element_lines, end_line}
use Rattle.definitions.specs.Completing.{monic, before_end, head_lines, with_element, with_value, by_acceptance, completed, completing}
use Rattle.laws.proofs.Modular.{Prime}
use Rattle.laws.proofs.Tests.{false_is, between_low}
use Rattle.laws.proofs.Reading.{basis_state}
use Rattle.laws.proofs.Sound.{sound_says, basis_says}
use Rattle.laws.proofs.Steady.{Steady, Ends, steady_fixed, steady_once, steady_after, ends_after, answered?, bind_steady, bind_fixed_ends, result_steady}
use Rattle.laws.proofs.Bound.{accepted_steady}
use Rattle.ending.proofs.Soundness.{sound_levels}
use Rattle.ending.proofs.Levels.{accept_ends}
use Rattle.files.specs.Files.{Given, first_term_line, WellFormedFile}
use Rattle.files.specs.Answers.{Answered}
use Rattle.demands.specs.Exact.{ShowsWhy}
use Rattle.demands.specs.Demands
use Rattle.demands.specs.Demands.{sensible?, limit?, ReadRight, accepts, stopped, open_yet}
use Rattle.demands.proofs.Results.{some_is, Holds, holds, nothing, holds_at}
use Rattle.demands.proofs.Over.{small_exponents, vector_room, sound_prime, sound_eight, accepted_right}
use Rattle.demands.proofs.Reader.{files}
use Rattle.demands.proofs.Demand2.{well_formed}
use Rattle.completions.specs.Completes.{Shown, stays, grows, Kept, Completes, Stops, limited, too_many, too_long, too_many_lines}
use Rattle.completions.specs.Completes.{Printed, printed_file, printed_refusal, not_read, CompletingRight}
use Rattle.completions.proofs.Growing.{scaled_length, scaled_descends, Monic, monic_is, shown_filled, grown}
use Rattle.completions.proofs.Texts.{terms_more, length_more, front_is, file_is, before_is, heads_are, longer_file, longer_given}

-- what the program's result says of the file given
pub data Ran (lim : Limits) (n : ℕ) (given : Given) (q : Parameters) (f : Level) (bytes : Bytes) : Result Bytes → Type 0 where
  ran : {longer : Bytes} → Completes lim n q f bytes longer → Ran lim n given q f bytes (done longer)
  ran_out : {number place : ℕ} → Stops lim n given q f number place → Ran lim n given q f bytes (refused number place [])
  runs_on : Ran lim n given q f bytes unfinished

pub not_nine : (number : ℕ) → T (limit? number) → eqb number 9 ≡ false
not_nine number t = false_is (eqb number 9) (λ e.
    let l : 13 ≤ number = between_low 13 number 15 t in
    let k = eqb→eq number 9 e in
    omega (arith, l, k))

is_done : {A : Type 0} {number place : ℕ} {value : Vector} (a : A) → ◌≡◌ {A = Result A} (refused number place value) (done a) → ⊥
is_done {A} a e = subst Refused e tt
  where
    Refused : Result A → Type 0
    Refused (done b) = ⊥
    Refused (refused number place value) = Unit {0}
    Refused unfinished = ⊥

not_finished : {A : Type 0} (a : A) → ◌≡◌ {A = Result A} unfinished (done a) → ⊥
not_finished {A} a e = subst Unfinished e tt
  where
    Unfinished : Result A → Type 0
    Unfinished (done b) = ⊥
    Unfinished (refused number place value) = ⊥
    Unfinished unfinished = Unit {0}

module _ (lim : Limits) (o : T (sensible? lim)) where
  -- ## A file that is read

  module _ (bytes : Bytes) (q : Parameters) (f : Level) (w : WellFormedFile lim bytes q f) where
    pub read_as : problem lim bytes ≡ done (q, f)
    read_as = (files lim o).taken bytes q f w

    pub sound : T (sound? lim (basis_state (q, f)))
    sound = well_formed lim o bytes q f w

    pub levels : T (levels_sound? lim q (f ∷ []))
    levels = (sound_says lim (basis_state (q, f)) sound).levels

    prime : Prime q.p
    prime = sound_prime lim o (basis_state (q, f)) sound

    eight : q.n ≤ 8
    eight = sound_eight lim o (basis_state (q, f)) sound

    few : length f ≤ lim.elements
    few = (basis_says lim q f levels).few

    pub right : (n : ℕ) → ReadRight lim q f (accepted lim n (q, f))
    right n = accepted_right lim q prime eight (vector_room lim o) f levels n

    split : bytes ≡ before_end bytes f ++ end_line f
    split = w.text ∙ file_is w.given q f ∙ ap (λ z. z ++ end_line f) (sym (before_is w.given q f bytes w.text))

    pub filled_value : (value : Vector) → ShowsWhy lim q f value → 1 ≤ length value
    filled_value value s = shown_filled lim q prime eight f value s

    -- what 9 shows, added
    module _ (value : Vector) (s : ShowsWhy lim q f value) where
      abbrev new : Vector
      new = monic q.p value

      abbrev g : Level
      g = f ++ new ∷ []

      abbrev longer : Bytes
      longer = with_element q.n bytes f new

      M : Monic lim q prime eight value
      M = monic_is lim q prime eight value s.sound (shown_filled lim q prime eight f value s)

      size : length new ≡ length value
      size = scaled_length q.p (inverse q.p (leading_term value).0) value

      descends : T (strictly_descending? (compare_over q.code []) new)
      descends = scaled_descends (compare_over q.code []) q.p (inverse q.p (leading_term value).0) value s.descends

      pub next_file : length g ≤ lim.elements → length longer ≤ lim.file → terms_of g ≤ lim.t_lines → WellFormedFile lim longer q g
      next_file room l short =
          let a = length_more f new in
          let b = terms_more f new in
          longer_file lim q f levels new M.filled M.sound descends (omega (arith, a, room)) (omega (arith, b, short)) bytes w l

      same_given : (room : length g ≤ lim.elements) (l : length longer ≤ lim.file) (short : terms_of g ≤ lim.t_lines)
          → (next_file room l short).given ≡ w.given
      unfolding next_file
      same_given room l short =
          let a = length_more f new in
          let b = terms_more f new in
          longer_given lim q f levels new M.filled M.sound descends (omega (arith, a, room)) (omega (arith, b, short)) bytes w l

      -- a completed file of the longer one is one of this one
      next_ran : (n : ℕ) → Shown lim n q f value → {x : Result Bytes} → Ran lim n w.given q g longer x → Ran lim n w.given q f bytes x
      next_ran n a (ran {longer = out} c) = ran (record {
        new = c.new;
        well_formed = c.well_formed;
        kept = kept;
        steps = grows levels value a c.steps;
        grown = grown lim q prime eight n f c.new (grows levels value a c.steps);
        accepted = c.accepted;
        basis = c.basis;
      })
        where
          k : Kept g c.new longer out
          k = c.kept

          -- what stood before E in the longer file
          front : k.before ≡ before_end bytes f ++ element_lines q.n (suc (length f)) new
          front = sym (front_is longer k.before g k.given)
              ∙ front_is longer (before_end bytes f ++ element_lines q.n (suc (length f)) new) g
              (sym (append_assoc (before_end bytes f) (element_lines q.n (suc (length f)) new) (end_line g)))

          kept : Kept f c.new bytes out
          kept = record {
            before = before_end bytes f;
            added = element_lines q.n (suc (length f)) new ++ k.added;
            given = split;
            longer_is = k.longer_is ∙ ap (λ z. z ++ (k.added ++ end_line c.new)) front
                ∙ append_assoc (before_end bytes f) (element_lines q.n (suc (length f)) new) (k.added ++ end_line c.new)
                ∙ ap (λ z. before_end bytes f ++ z) (sym (append_assoc (element_lines q.n (suc (length f)) new) k.added (end_line c.new)));
          }
      next_ran n a (ran_out (limited number h e t)) = ran_out (limited number (grows levels value a h) e t)
      next_ran n a (ran_out (too_many v h u e)) = ran_out (too_many v (grows levels value a h) u e)
      next_ran n a (ran_out (too_long v b h u r k l)) = ran_out (too_long v b (grows levels value a h) u r k l)
      next_ran n a (ran_out (too_many_lines v b h u r k m l)) = ran_out (too_many_lines v b (grows levels value a h) u r k m l)
      next_ran n a runs_on = runs_on

      -- the three tests of an addition
      pub tests : {A : Type 0} (X : Result A → Type 0) (k : Bytes → Result A) → (lim.elements < length g → X (refused 19 (length g) []))
          → (length g ≤ lim.elements → lim.file < length longer → X (refused 1 0 []))
          → (length g ≤ lim.elements → length longer ≤ lim.file → lim.t_lines < terms_of g → X (refused 8 (suc (head_lines bytes f + lim.t_lines)) []))
          → (length g ≤ lim.elements → length longer ≤ lim.file → terms_of g ≤ lim.t_lines → X (k longer))
          → X (with_value lim bytes (q, f) value >>= k)
      tests X k a b c d =
          first (leb (length g) lim.elements) (leb→le (length g) lim.elements) (nleb→lt (length g) lim.elements)
        where
          third : length g ≤ lim.elements → length longer ≤ lim.file → (t : Bool) → (T t → terms_of g ≤ lim.t_lines)
              → (T (not t) → lim.t_lines < terms_of g)
              → X ((unless_refused t 8 (suc (head_lines bytes f + lim.t_lines)) >>= λ u₃. done longer) >>= k)
          third l m true h i = d l m (h tt)
          third l m false h i = c l m (i tt)

          second : length g ≤ lim.elements → (t : Bool) → (T t → length longer ≤ lim.file) → (T (not t) → lim.file < length longer)
              → X ((unless_refused t 1 0 >>= λ u₂. unless_refused (leb (terms_of g) lim.t_lines) 8 (suc (head_lines bytes f + lim.t_lines)) >>= λ u₃.
              done longer) >>= k)
          second l true h i = third l (h tt) (leb (terms_of g) lim.t_lines) (leb→le (terms_of g) lim.t_lines) (nleb→lt (terms_of g) lim.t_lines)
          second l false h i = b l (i tt)

          first : (t : Bool) → (T t → length g ≤ lim.elements) → (T (not t) → lim.elements < length g)
              → X ((unless_refused t 19 (length g) >>= λ u₁. unless_refused (leb (length longer) lim.file) 1 0 >>= λ u₂.
              unless_refused (leb (terms_of g) lim.t_lines) 8 (suc (head_lines bytes f + lim.t_lines)) >>= λ u₃. done longer) >>= k)
          first true h i = second (h tt) (leb (length longer) lim.file) (leb→le (length longer) lim.file) (nleb→lt (length longer) lim.file)
          first false h i = a (i tt)

  -- ## The loop

  run : (n left : ℕ) (bytes : Bytes) (q : Parameters) (f : Level) (given : Given) (w : WellFormedFile lim bytes q f) → w.given ≡ given
      → Ran lim n given q f bytes (completed lim n left bytes)
  run n zero bytes q f given w e = runs_on
  run n (suc left) bytes q f given w e =
      subst (λ x. Ran lim n given q f bytes (x >>= λ f. by_acceptance lim bytes f (λ longer. completed lim n left longer) (accepted lim n f)))
      (sym (read_as bytes q f w))
      (subst (λ v. Ran lim n v q f bytes (by_acceptance lim bytes (q, f) (λ longer. completed lim n left longer) (accepted lim n (q, f)))) e
      (go (accepted lim n (q, f)) refl (right bytes q f w n) (run n left)))
    where
      Later : Type 0
      Later = (bytes : Bytes) (q : Parameters) (f : Level) (given : Given) (w : WellFormedFile lim bytes q f) → w.given ≡ given
          → Ran lim n given q f bytes (completed lim n left bytes)

      go : (x : Result State) → accepted lim n (q, f) ≡ x → ReadRight lim q f x → Later
          → Ran lim n w.given q f bytes (by_acceptance lim bytes (q, f) (λ longer. completed lim n left longer) x)
      go (done X) e (accepts gb) ih = ran (record {
        new = f;
        well_formed = w;
        kept = record { before = before_end bytes f; added = []; given = split bytes q f w; longer_is = split bytes q f w };
        steps = stays;
        grown = grown lim q (prime bytes q f w) (eight bytes q f w) n f f stays;
        accepted = ap (λ x. x >>= accepted lim n) (read_as bytes q f w) ∙ e;
        basis = gb;
      })
      go (refused number place value) e (Demands.limited t) ih =
          subst (λ b. Ran lim n w.given q f bytes (elim b [
            | true ↦ with_value lim bytes (q, f) [] >>= (λ longer. completed lim n left longer)
            | false ↦ refused number 0 []
          ])) (sym (not_nine number t)) (ran_out (limited number stays e t))
      go (refused number place value) e (stopped i s) ih =
          tests bytes q f w value s (Ran lim n w.given q f bytes) (λ longer. completed lim n left longer)
          (λ l.
          let k = few bytes q f w in
          let m = length_more f (monic q.p value) in
          let z : length f ≡ lim.elements = omega (arith, k, l, m) in
          let y : suc lim.elements ≡ length (f ++ monic q.p value ∷ []) = omega (arith, z, m) in
          subst (λ k. Ran lim n w.given q f bytes (refused 19 k [])) y (ran_out (too_many value stays nine z)))
          (λ r l. let m = length_more f (monic q.p value) in ran_out (too_long value bytes stays nine (omega (arith, r, m)) w l))
          (λ r m l.
          let a = length_more f (monic q.p value) in
          let b = terms_more f (monic q.p value) in
          let c = size bytes q f w value s in
          let h = heads_are w.given q f bytes w.text in
          let y : first_term_line w.given + lim.t_lines ≡ suc (head_lines bytes f + lim.t_lines) = omega (arith, h) in
          subst (λ k. Ran lim n w.given q f bytes (refused 8 k [])) y
          (ran_out (too_many_lines value bytes stays nine (omega (arith, r, a)) w m (omega (arith, l, b, c)))))
          (λ r m l. next_ran bytes q f w value s n nine (ih (longer bytes q f w value s) q (f ++ monic q.p value ∷ []) w.given
          (next_file bytes q f w value s r m l) (same_given bytes q f w value s r m l)))
        where
          nine : Shown lim n q f value
          nine = record { frame_term = place; by_nine = e; why = s }
      go unfinished e open_yet ih = runs_on

  -- ## The bound does not matter

  tried_steady : (f : Parameters × Level) (bytes : Bytes) (left : ℕ) → ((b : Bytes) → Steady finished? (λ n. completed lim n left b)) → (x : Result State)
      → Steady finished? (λ n. by_acceptance lim bytes f (λ longer. completed lim n left longer) x)
  tried_steady f bytes left ih (done X) = steady_fixed finished? (done bytes)
  tried_steady f bytes left ih unfinished = steady_fixed finished? unfinished
  tried_steady f bytes left ih (refused number place value) = go (eqb number 9)
    where
      go : (b : Bool) → Steady (finished? {A = Bytes}) (λ n. elim b [
        | true ↦ with_value lim bytes f value >>= (λ longer. completed lim n left longer)
        | false ↦ refused number place value
      ])
      go true = bind_steady (λ n. with_value lim bytes f value) (λ n b. completed lim n left b) (steady_fixed finished? (with_value lim bytes f value)) ih
      go false = steady_fixed finished? (refused number place value)

  tried_strict : (f : Parameters × Level) (bytes : Bytes) (again : Bytes → Result Bytes) (x : Result State)
      → T (finished? (by_acceptance lim bytes f again x)) → T (finished? x)
  tried_strict f bytes again (done X) t = tt
  tried_strict f bytes again (refused number place value) t = tt
  tried_strict f bytes again unfinished t = t

  pub completed_steady : (left : ℕ) (bytes : Bytes) → Steady finished? (λ n. completed lim n left bytes)
  completed_steady zero bytes = steady_fixed finished? unfinished
  completed_steady (suc left) bytes =
      bind_steady (λ n. problem lim bytes) (λ n f. by_acceptance lim bytes f (λ longer. completed lim n left longer) (accepted lim n f))
      (steady_fixed finished? (problem lim bytes)) (λ f.
      steady_after finished? finished? (λ n x. by_acceptance lim bytes f (λ longer. completed lim n left longer) x)
      (λ n. tried_strict f bytes (λ longer. completed lim n left longer)) (λ n. accepted lim n f)
      (accepted_steady lim f) (tried_steady f bytes left (completed_steady left)))

  -- ## It ends: each addition but the last leaves fewer to be made

  completed_ends : (left : ℕ) (bytes : Bytes) (q : Parameters) (f : Level) → WellFormedFile lim bytes q f → lim.elements < left + length f
      → Ends finished? (λ n. completed lim n left bytes)
  completed_ends zero bytes q f w l = let k = few bytes q f w in absurd (omega (arith, k, l))
  completed_ends (suc left) bytes q f w l =
      subst (λ x. Ends finished? (λ n. x >>= λ f. by_acceptance lim bytes f (λ longer. completed lim n left longer) (accepted lim n f)))
      (sym (read_as bytes q f w))
      (ends_after finished? finished? (λ n x. by_acceptance lim bytes (q, f) (λ longer. completed lim n left longer) x) (λ n. accepted lim n (q, f))
      (accepted_steady lim (q, f)) (tried_steady (q, f) bytes left (completed_steady left)) ends
      (go (accepted lim ends.0 (q, f)) (right bytes q f w ends.0) ends.1 (completed_ends left)))
    where
      ends : Ends finished? (λ n. accepted lim n (q, f))
      ends = bind_fixed_ends (λ u. done (basis_state (q, f))) (accept lim q.p q.code f)
          (accept_ends lim q.p q.code f (prime bytes q f w) (small_exponents lim o) (sound_levels lim (basis_state (q, f)) (sound bytes q f w)))
          (λ u. tt)

      go : (x : Result State) → ReadRight lim q f x → T (finished? x)
          → ((bytes : Bytes) (q : Parameters) (f : Level) → WellFormedFile lim bytes q f → lim.elements < left + length f
          → Ends finished? (λ n. completed lim n left bytes))
          → Ends finished? (λ n. by_acceptance lim bytes (q, f) (λ longer. completed lim n left longer) x)
      go (done X) (accepts gb) t ih = (0, tt)
      go (refused number place value) (Demands.limited m) t ih =
          subst (λ b. Ends (finished? {A = Bytes}) (λ n. elim b [
            | true ↦ with_value lim bytes (q, f) [] >>= (λ longer. completed lim n left longer)
            | false ↦ refused number 0 []
          ])) (sym (not_nine number m)) (0, tt)
      go (refused number place value) (stopped i s) t ih =
          over (with_value lim bytes (q, f) value)
          (tests bytes q f w value s Good done (λ k. tt) (λ r k. tt) (λ r m k. tt) (λ r m k. (refl, next_file bytes q f w value s r m k)))
        where
          Good : Result Bytes → Type 0
          Good (done b) = (b ≡ longer bytes q f w value s) × WellFormedFile lim (longer bytes q f w value s) q (f ++ monic q.p value ∷ [])
          Good (refused number place value) = Unit {0}
          Good unfinished = ⊥

          more : lim.elements < left + length (f ++ monic q.p value ∷ [])
          more = let e = length_more f (monic q.p value) in omega (arith, e, l)

          over : (y : Result Bytes) → Good (y >>= done) → Ends finished? (λ n. y >>= (λ longer. completed lim n left longer))
          over (done b) x = subst (λ b. Ends finished? (λ n. completed lim n left b)) (sym x.0)
              (ih (longer bytes q f w value s) q (f ++ monic q.p value ∷ []) x.1 more)
          over (refused number place value) x = (0, tt)
          over unfinished x = absurd x
      go unfinished open_yet t ih = absurd t

  -- ## The program

  abbrev tries : ℕ
  tries = suc lim.elements

  pub completing_steady : (bytes : Bytes) → Steady answered? (λ n. completing lim n bytes)
  completing_steady bytes =
      result_steady answered? (printed_or_refused (variables_of (problem lim bytes))) (λ t. t) (λ n. completed lim n tries bytes)
      (completed_steady tries bytes)

  pub all_end : (bytes : Bytes) → Ends finished? (λ n. completed lim n tries bytes)
  all_end bytes = go (problem lim bytes) refl ((files lim o).answered bytes)
    where
      go : (x : Result (Parameters × Level)) → problem lim bytes ≡ x → Answered lim bytes x → Ends finished? (λ n. completed lim n tries bytes)
      go (done (q, f)) e w = completed_ends tries bytes q f w (omega arith)
      go (refused number place value) e a = (
        0,
        subst (λ x. T (finished? (x >>= λ f. by_acceptance lim bytes f (λ longer. completed lim 0 lim.elements longer) (accepted lim 0 f))))
            (sym e) tt,
      )
      go unfinished e a = absurd a

  answer_of : (k : ℕ) (x : Result Bytes) → T (finished? x) → (out : Bytes) × (printed_or_refused k x ≡ some out)
  answer_of k (done b) t = (b, refl)
  answer_of k (refused number place value) t = (_, refl)
  answer_of k unfinished t = absurd t

  unchanged_at : (n : ℕ) (bytes : Bytes) (X : State) → read lim n bytes ≡ done X → completing lim n bytes ≡ some bytes
  unchanged_at n bytes X e = go (problem lim bytes) e
    where
      go : (x : Result (Parameters × Level)) → x >>= accepted lim n ≡ done X
          → printed_or_refused (variables_of x)
          (x >>= λ f. by_acceptance lim bytes f (λ longer. completed lim n lim.elements longer) (accepted lim n f)) ≡ some bytes
      go (done f) h = ap (λ y. printed_or_refused f.0.n (by_acceptance lim bytes f (λ longer. completed lim n lim.elements longer) y)) h
      go (refused number place value) h = absurd (is_done X h)
      go unfinished h = absurd (not_finished X h)

  one : (bytes : Bytes) (n m : ℕ) (a b : Bytes) → completing lim n bytes ≡ some a → completing lim m bytes ≡ some b → a ≡ b
  one bytes n m a b h k =
      some_is (sym h ∙ steady_once answered? (λ i. completing lim i bytes) (completing_steady bytes) n m (shown a h) (shown b k) ∙ k)
    where
      shown : {x : Option Bytes} (a : Bytes) → x ≡ some a → T (answered? x)
      shown a e = subst (λ y. T (answered? y)) (sym e) tt

  printed_at : (n : ℕ) (bytes : Bytes) → Holds (Printed lim n bytes) (completing lim n bytes)
  printed_at n bytes = go (problem lim bytes) refl ((files lim o).answered bytes)
    where
      at : (q : Parameters) (f : Level) (w : WellFormedFile lim bytes q f) {x : Result Bytes} → Ran lim n w.given q f bytes x
          → Holds (Printed lim n bytes) (printed_or_refused q.n x)
      at q f w (ran c) = holds (printed_file w c)
      at q f w (ran_out s) = holds (printed_refusal w s)
      at q f w runs_on = nothing

      go : (x : Result (Parameters × Level)) → problem lim bytes ≡ x → Answered lim bytes x → Holds (Printed lim n bytes) (completing lim n bytes)
      go (done (q, f)) e w =
          subst (λ y. Holds (Printed lim n bytes) (printed_or_refused (variables_of y) (completed lim n tries bytes))) (sym e)
          (at q f w (run n tries bytes q f w.given w refl))
      go (refused number place value) e (b, z) =
          subst (λ y. Holds (Printed lim n bytes) (printed_or_refused (variables_of y)
          (y >>= λ f. by_acceptance lim bytes f (λ longer. completed lim n lim.elements longer) (accepted lim n f)))) (sym e)
          (subst (λ v. Holds (Printed lim n bytes) (some (x_lines 0 number place v))) (sym z) (holds (not_read b)))
      go unfinished e a = absurd a

  pub completing_right : CompletingRight lim
  completing_right = record {
    prints = λ n bytes out e. holds_at e (printed_at n bytes);
    unchanged = unchanged_at;
    ends = λ bytes. let (n, t) = all_end bytes in (n, answer_of (variables_of (problem lim bytes)) (completed lim n tries bytes) t);
    one_answer = λ n m bytes a b h k. one bytes n m a b h k;
  }

pub completing_of_document_01 : CompletingRight document_01
completing_of_document_01 = completing_right document_01 tt
