-- Lifting, test by test.
use mathlib.Core.Path.{◌≡◌, refl, sym, ap, ◌∙◌, subst}
use mathlib.Core.Bool.{Bool, true, false, not, ◌||◌}
use mathlib.Core.Option.{Option, some}
use mathlib.Core.List.{◌∷◌}
use Prim.Native.Nat.{ℕ, ◌-◌, ◌≤◌, ◌<◌}
use native.Mathlib.Omega.{arith}
use native.Mathlib.Nat.{not-suc-le-zero}
use borrow.Author.Tests.{le-leb, lt-leb, lt-ltb, le-ltb, leb-true, leb-false, ne_eqb}
use lib.Dec.{T, leb, leb→le}
use lib.ListN.{length, get_or}
use Rattle.definitions.specs.Limits.{document_01}
use Rattle.definitions.specs.Lists.{◌and◌, ◌then◌, choose, between}
use Rattle.definitions.specs.Result.{Result, finished?}
use Rattle.definitions.specs.State.{State, empty, sound?, has_level?, up_to}
use Rattle.definitions.specs.Calls.{refuse, settled, pick_code?, lift}
use Rattle.definitions.specs.Layout.{Words, Way, division, hybrid, tree, Lift, lifting_by, work_words, levels_at, encode, decode, holds_state?, meant}
use Rattle.definitions.specs.Layout.{lift_left, lift_call}
use Rattle.laws.proofs.Tests.{true_is, is_true, between_low, between_high}
use Rattle.laws.proofs.Numbers.{limit_number?}
use Rattle.definitions.specs.Places.{most_levels, state_length}
use Rattle.demands.proofs.Lifts.{LiftedTo, one_more, limit_met, still_lifting, lifted_to}
use Rattle.vectors.specs.terms.Rows.{cleared}
use Rattle.state.proofs.writing.AppendLoop.{cleared_empties}
use Rattle.state.proofs.preparing.Complete.{meant_is, length_levels, holds_sound}
use Rattle.level.specs.all_levels.Level.{Liftable, stored, told, LiftedBy}
use Rattle.level.proofs.all_levels.Lifting.{emptied}
use Rattle.read_call.proofs.ReadCall.{zeroed}
use Rattle.std.specs.Prelude.{Result as CodeResult, Ok, Err}
use Rattle.words.specs.declared.refusals.Refusal.{Refusal}
use Rattle.lift_call.specs.Lifts.{own_pick?, complete_number, number_in, left_by}

-- ## What is settled

module _ (number k : ℕ) (s w z : Words) where
  pub kept_reply : number ≡ 0 → ◌≡◌ {A = Lift} (0, 0, s, cleared w 0, cleared z 0) (left_by number k s w z)
  kept_reply e = sym (ap (λ m. left_by m k s w z) e)

  abbrev by_test : Bool → Lift
  by_test b = choose b (0, 0, s, cleared w 0, cleared z 0) (number, k, cleared s 0, cleared w 0, cleared z 0)

  pub emptied_reply : (number ≡ 0 → ⊥) → ◌≡◌ {A = Lift} (number, k, cleared s 0, cleared w 0, cleared z 0) (left_by number k s w z)
  emptied_reply m = sym (ap by_test (ne_eqb number 0 m))

told_is : (r : CodeResult (Unit {0}) Refusal) (t : Words) → ◌≡◌ {A = ℕ × Words} (told r t) (number_in r, t)
told_is (Ok u) t = refl
told_is (Err e) t = refl

-- ## The call, test by test

own_pick_is : (way : Way) (work cache : Words) → pick_code? (lifting_by document_01 way work cache) ≡ own_pick? way
own_pick_is division work cache = refl
own_pick_is (hybrid pick) work cache = refl
own_pick_is tree work cache = refl

module _ (s w z : Words) (k : ℕ) (way : Way) where
  -- by the tests' values
  abbrev by_tests : ℕ → Bool → Bool → State → Bool → Bool → Bool → Bool → Option Lift
  by_tests n long long' X sound inside has own =
      choose (not (long and long')) (some (refuse 16 X)) (choose (not sound || (inside and not has)) (some (refuse 11 X))
      (choose (not (inside and own)) (some (refuse 12 X)) (settled (lift document_01 n X k (lifting_by document_01 way w z)))))
      then λ a. some (lift_left document_01 s w z a)

  abbrev at_tests : ℕ → Bool → Bool → State → Option Lift
  at_tests n long long' X = by_tests n long long' X (sound? document_01 X) (between 1 k most_levels) (has_level? X (k - 1))
      (pick_code? (lifting_by document_01 way w z))

  -- the call's contract
  abbrev Called : Lift → Type 0
  Called r = (n : ℕ) × (some r ≡ lift_call document_01 n k way s w z)

  pub short_state : length s < state_length → Called (16, 0, s, w, z)
  short_state h = (
    0,
    sym (ap (λ b. at_tests 0 b (leb (work_words document_01 way) (length w)) (meant document_01 s))
        (lt-leb state_length (length s) h)),
  )

  module _ (long : state_length ≤ length s) where
    pub short_work : length w < work_words document_01 way → Called (16, 0, s, w, z)
    short_work h = (
      0,
      sym (ap (λ b. at_tests 0 true b (meant document_01 s)) (lt-leb (work_words document_01 way) (length w) h))
          ∙ sym (ap (λ b. at_tests 0 b (leb (work_words document_01 way) (length w)) (meant document_01 s)) (le-leb state_length (length s) long)),
    )

    module _ (wide : work_words document_01 way ≤ length w) where
      after_lengths : (n : ℕ) (X : State) → X ≡ meant document_01 s → at_tests n true true X ≡ lift_call document_01 n k way s w z
      after_lengths n X e =
          ap (at_tests n true true) e
          ∙ sym (ap (λ b. at_tests n true b (meant document_01 s)) (le-leb (work_words document_01 way) (length w) wide))
          ∙ sym (ap (λ b. at_tests n b (leb (work_words document_01 way) (length w)) (meant document_01 s)) (le-leb state_length (length s) long))

      nothing_meant : false ≡ holds_state? document_01 s → empty ≡ meant document_01 s
      nothing_meant e = ap (λ b. elim b [ true ↦ decode document_01 s | false ↦ empty ]) e

      pub no_state : false ≡ holds_state? document_01 s → Called (11, 0, s, w, z)
      no_state e = (0, after_lengths 0 empty (nothing_meant e))

      module _ (holds : T (holds_state? document_01 s)) where
        abbrev X : State
        X = decode document_01 s

        sound_is : sound? document_01 X ≡ true
        sound_is = true_is (sound? document_01 X) (holds_sound s holds)

        in_state : (n : ℕ) (inside has own : Bool) → between 1 k most_levels ≡ inside → has_level? X (k - 1) ≡ has
            → pick_code? (lifting_by document_01 way w z) ≡ own → by_tests n true true X true inside has own ≡ lift_call document_01 n k way s w z
        in_state n inside has own a b c =
            sym (λ i. by_tests n true true X (sound_is i) (a i) (b i) (c i)) ∙ after_lengths n X (sym (meant_is s holds))

        pub no_such_level : false ≡ between 1 k most_levels → Called (12, 0, s, w, z)
        no_such_level e = (0, in_state 0 false (has_level? X (k - 1)) (pick_code? (lifting_by document_01 way w z)) (sym e) refl refl)

        pub not_complete : true ≡ between 1 k most_levels → get_or s 4 0 ≤ k - 1 → Called (11, 0, s, w, z)
        not_complete e h = (
          0,
          in_state 0 true false (pick_code? (lifting_by document_01 way w z)) (sym e)
              (le-ltb (k - 1) (length (levels_at document_01 s (get_or s 4 0))) (omega (arith, length_levels s (get_or s 4 0), h))) refl,
        )

        module _ (inside : between 1 k most_levels ≡ true) (has : k - 1 < get_or s 4 0) where
          has_it : has_level? X (k - 1) ≡ true
          has_it = lt-ltb (k - 1) (length (levels_at document_01 s (get_or s 4 0))) (omega (arith, length_levels s (get_or s 4 0), has))

          pub no_such_pick : false ≡ own_pick? way → Called (12, 0, s, w, z)
          no_such_pick e = (0, in_state 0 true true false inside has_it (own_pick_is way w z ∙ sym e))

          -- no test refuses
          pub after_tests : true ≡ own_pick? way → (n : ℕ) → (settled (lift document_01 n X k (lifting_by document_01 way w z))
              then λ a. some (lift_left document_01 s w z a)) ≡ lift_call document_01 n k way s w z
          after_tests e n = in_state n true true true inside has_it (own_pick_is way w z ∙ sym e)

          -- the level lifted, stored and settled
          pub left_is : true ≡ own_pick? way → (r : CodeResult (Unit {0}) Refusal) (t w' z' : Words) → LiftedBy s k (lifting_by document_01 way w z) r t → length w' ≡ length w
              → length z' ≡ length z
              → Called (left_by (number_in r) k t w' z')
          left_is e r t w' z' (n, p, f) lw lz = (
            n,
            go (lifted_to document_01 tt X (holds_sound s holds) k (lifting_by document_01 way w z) n) (sym (told_is r t) ∙ p) f
                ∙ after_tests e n,
          )
            where
              go : {x : Result State} → LiftedTo document_01 X k x → ◌≡◌ {A = ℕ × Words} (number_in r, t) (stored s x) → T (finished? x)
                  → ◌≡◌ {A = Option Lift} (some (left_by (number_in r) k t w' z')) (settled x then λ a. some (lift_left document_01 s w z a))
              go (one_more g r) q f =
                  (λ i. some (left_by (q i).0 k (q i).1 w' z'))
                  ∙ (λ i. some (
                    0,
                    0,
                    encode document_01 (length s) (record { parameters = X.parameters; levels = g ∷ up_to X (k - 1) }),
                    zeroed (length w) w' lw i,
                    emptied (length z) z' lz i,
                  ))
              go (limit_met {number = m} u) q f =
                  (λ i. some (left_by (q i).0 k (q i).1 w' z'))
                  ∙ ap (λ b. some (choose b (0, 0, s, cleared w' 0, cleared z' 0) (m, k, cleared s 0, cleared w' 0, cleared z' 0)))
                  (ne_eqb m 0 (λ v. subst (λ i. T (limit_number? i)) v u))
                  ∙ (λ i. some (m, k, cleared_empties s long i, zeroed (length w) w' lw i, emptied (length z) z' lz i))
              go still_lifting q f = absurd f

-- ## The tests of 11 and 12

module _ (s : Words) (k : ℕ) (way : Way) (long : state_length ≤ length s) where
  pub record Passed : Type 0 where
    pub liftable : Liftable s k
    pub inside : between 1 k most_levels ≡ true
    pub own : true ≡ own_pick? way

  four : (a b c d : Bool) → ◌≡◌ {A = ℕ} (choose a (choose b (choose c (choose d 0 12) 11) 12) 11) 0 → T a × T b × T c × T d
  four true true true true e = (tt, tt, tt, tt)
  four true true true false e = absurd (not-suc-le-zero {n = 0} (omega (arith, e)))
  four true true false d e = absurd (not-suc-le-zero {n = 0} (omega (arith, e)))
  four true false c d e = absurd (not-suc-le-zero {n = 0} (omega (arith, e)))
  four false b c d e = absurd (not-suc-le-zero {n = 0} (omega (arith, e)))

  pub passed : complete_number s k way ≡ 0 → Passed
  passed e =
      let t = four (holds_state? document_01 s) (between 1 k most_levels) (leb k (get_or s 4 0)) (own_pick? way) e in
      let l = between_low 1 k most_levels t.1 in
      let g = between_high 1 k most_levels t.1 in
      let c = leb→le k (get_or s 4 0) t.2 in
      record {
        liftable = record { low = l; high = g; base = record { long = long; holds = t.0; has = omega (arith, c, l); low = omega (arith, g) } };
        inside = true_is (between 1 k most_levels) t.1;
        own = sym (true_is (own_pick? way) t.3);
      }

  module _ (w z : Words) (wide : work_words document_01 way ≤ length w) where
    pub refused_early : (number : ℕ) → number ≡ complete_number s k way → (number ≡ 0 → ⊥) → Called s w z k way (number, 0, s, w, z)
    refused_early number e m = go (holds_state? document_01 s) refl (between 1 k most_levels) refl (leb k (get_or s 4 0)) refl (own_pick? way) refl e
      where
        at : (i : ℕ) → number ≡ i → Called s w z k way (i, 0, s, w, z) → Called s w z k way (number, 0, s, w, z)
        at i q c = subst (λ j. Called s w z k way (j, 0, s, w, z)) (sym q) c

        go : (a : Bool) → holds_state? document_01 s ≡ a → (b : Bool) → between 1 k most_levels ≡ b → (c : Bool) → leb k (get_or s 4 0) ≡ c → (d : Bool)
            → own_pick? way ≡ d
            → number ≡ choose a (choose b (choose c (choose d 0 12) 11) 12) 11 → Called s w z k way (number, 0, s, w, z)
        go false p b q c r d t u = at 11 u (no_state s w z k way long wide (sym p))
        go true p false q c r d t u = at 12 u (no_such_level s w z k way long wide (is_true p) (sym q))
        go true p true q false r d t u = at 11 u (not_complete s w z k way long wide (is_true p) (sym q) (omega (arith, leb-false k (get_or s 4 0) r)))
        go true p true q true r false t u =
            at 12 u (no_such_pick s w z k way long wide (is_true p) q (omega
            (arith, leb-true k (get_or s 4 0) r, between_low 1 k most_levels (is_true q))) (sym t))
        go true p true q true r true t u = absurd (m u)
