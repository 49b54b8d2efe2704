-- The same of lists of calls on buffers: what the state's words mean differs in degrees alone.
use mathlib.Core.Path.{◌≡◌, refl, sym, ap, ◌∙◌, subst}
use mathlib.Core.Logic.{◌⊎◌, inl, inr}
use mathlib.Core.Bool.{Bool, true, false, not}
use mathlib.Core.Option.{Option, none, some}
use mathlib.Core.List.{List, [], ◌∷◌}
use Prim.Native.Nat.{ℕ, ◌-◌, ◌≤◌}
use lib.Dec.{T, leb, leb→le, ltb→lt}
use lib.ListN.{length}
use Rattle.definitions.specs.Limits.{Limits}
use Rattle.definitions.specs.Lists.{◌and◌, ◌then◌, choose, between}
use Rattle.definitions.specs.Monomial.{Vector, Level}
use Rattle.definitions.specs.Result.{Result, done, refused, unfinished, ◌>>=◌}
use Rattle.definitions.specs.Lifting.{Lifting, accept}
use Rattle.definitions.specs.Problem.{Bytes, Parameters, problem}
use Rattle.definitions.specs.State.{State, empty, has_level?, levels_sound?, sound?}
use Rattle.definitions.specs.Calls.{Reply, refuse, settled, accepted, read, lift, eleven?, pick_code?, lifts?, read_reply, lift_reply, fetch_reply}
use Rattle.definitions.specs.Layout.{Words, state_words, encode, meant, Way, division, lifting_by, work_words, out_words, long_enough?, state_after}
use Rattle.definitions.specs.Layout.{rows_after, lift_left, Lent, read_with, lift_with, fetch_with, lent_call, lent_calls}
use Rattle.laws.proofs.Tests.{and_left}
use Rattle.laws.proofs.Results.{IfDone, IfSome}
use Rattle.laws.proofs.RoundTrip.{meant_encode, length_encode}
use Rattle.laws.proofs.Sound.{sound_says}
use Rattle.laws.proofs.Reading.{basis_state, problem_sound}
use Rattle.demands.specs.Demands.{sensible?}
use Rattle.demands.proofs.Over.{few_variables, small_exponents}
use Rattle.demands.proofs.Lifts
use Rattle.demands.proofs.Lifts.{LiftedTo, limit_met, still_lifting, with_level, lifted_to, not_eleven}
use Rattle.degrees.specs.Notions.{AlikeStates, AlikeResults, AlikeReplies, AllAlike, no_more, one_more, Both, both_none, both_some, AlikeLent}
use Rattle.degrees.specs.Notions.{same_lent, read_lent, AlikeLeft}
use Rattle.degrees.proofs.Alike.{alike_self, result_self, sound_alike, read_replies, lift_replies, fetch_replies, both_then, read_alike_files}

-- ## What a reply leaves in the state

-- nothing; or the words of the empty state or of a sound one, where there is room for them
abbrev Spelled : Limits → Words → Reply → Type 0
Spelled lim s a = (a.work ≡ none) ⊎ ((state_words lim ≤ length s) × ((a.state ≡ empty) ⊎ T (sound? lim a.state)))

abbrev Good : Limits → Result State → Type 0
Good lim x = IfDone (λ X. T (sound? lim X)) x

settled_spelled : (lim : Limits) (s : Words) → state_words lim ≤ length s → (x : Result State) → Good lim x → IfSome (Spelled lim s) (settled x)
settled_spelled lim s l (done X) g = inr (l, inr g)
settled_spelled lim s l (refused number place value) g = inr (l, inl refl)
settled_spelled lim s l unfinished g = tt

module _ (lim : Limits) (o : T (sensible? lim)) (n : ℕ) where
  read_good : (bytes : Bytes) → Good lim (read lim n bytes)
  read_good bytes = go (problem lim bytes) (problem_sound lim (few_variables lim o) bytes)
    where
      accepts : (f : Parameters × Level) → T (sound? lim (basis_state f)) → (y : Result (Unit {0}))
          → Good lim (y >>= λ u. done (record { parameters = f.0; levels = f.1 ∷ [] }))
      accepts f t (done u) = t
      accepts f t (refused number place value) = tt
      accepts f t unfinished = tt

      go : (x : Result (Parameters × Level)) → IfDone (λ f. T (sound? lim (basis_state f))) x → Good lim (x >>= accepted lim n)
      go (done f) t = accepts f t (accept lim f.0.p f.0.code f.1 n)
      go (refused number place value) t = tt
      go unfinished t = tt

  lift_good : (X : State) (k : ℕ) (way : Lifting) → T (sound? lim X) → T (between 1 k lim.levels) → T (has_level? X (k - 1)) → Good lim (lift lim n X k way)
  lift_good X k way s r h = go (lifted_to lim o X s k way n)
    where
      go : {x : Result State} → LiftedTo lim X k x → Good lim x
      go (Lifts.one_more g w) = with_level lim X s k r (ltb→lt (k - 1) (length X.levels) h) g w.sound
      go (limit_met t) = tt
      go still_lifting = tt

  module _ (s : Words) (X : State) (long : Bool) (l : T long → state_words lim ≤ length s) where
    read_spelled : (bytes : Bytes) → IfSome (Spelled lim s) (read_reply lim n X long bytes)
    read_spelled bytes = go long l
      where
        go : (long : Bool) → (T long → state_words lim ≤ length s) → IfSome (Spelled lim s) (read_reply lim n X long bytes)
        go false l = inl refl
        go true l = settled_spelled lim s (l tt) (read lim n bytes) (read_good bytes)

    lift_spelled : (k : ℕ) (way : Lifting) → IfSome (Spelled lim s) (lift_reply lim n X long k way)
    lift_spelled k way = go long l
      where
        twelve : state_words lim ≤ length s → T (sound? lim X) × (T (between 1 k lim.levels) → T (has_level? X (k - 1)))
            → (b : Bool) → (T b → T (between 1 k lim.levels))
            → IfSome (Spelled lim s) (choose (not b) (some (refuse 12 X)) (settled (lift lim n X k way)))
        twelve l t false r = inl refl
        twelve l t true r = settled_spelled lim s l (lift lim n X k way) (lift_good X k way t.0 (r tt) (t.1 (r tt)))

        eleven : state_words lim ≤ length s → (b : Bool) → ((T b → ⊥) → T (sound? lim X) × (T (between 1 k lim.levels) → T (has_level? X (k - 1))))
            → IfSome (Spelled lim s) (choose b (some (refuse 11 X)) (choose (not (lifts? lim k way)) (some (refuse 12 X)) (settled (lift lim n X k way))))
        eleven l true f = inl refl
        eleven l false f = twelve l (f (λ x. x)) (lifts? lim k way) (and_left (between 1 k lim.levels) (pick_code? way))

        go : (long : Bool) → (T long → state_words lim ≤ length s) → IfSome (Spelled lim s) (lift_reply lim n X long k way)
        go false l = inl refl
        go true l = eleven (l tt) (eleven? lim X k (k - 1)) (not_eleven lim X k (k - 1))

-- ## The words afterwards

-- the empty state is not sound
never_both : (lim : Limits) (X : State) → [] ≡ X.levels → T (sound? lim X) → ⊥
never_both lim X e t = subst (λ ls. T (levels_sound? lim X.parameters ls)) (sym e) (sound_says lim X t).levels

module _ (lim : Limits) (o : T (sensible? lim)) (s s' : Words) (size : length s ≡ length s') (m : AlikeStates (meant lim s) (meant lim s')) where
  abbrev After : Words → Words → Type 0
  After w w' = (length w ≡ length w') × AlikeStates (meant lim w) (meant lim w')

  encoded : (X Y : State) → AlikeStates X Y → state_words lim ≤ length s → (X ≡ empty) ⊎ T (sound? lim X) → (Y ≡ empty) ⊎ T (sound? lim Y)
      → After (encode lim (length s) X) (encode lim (length s') Y)
  encoded X Y a l (inr t) q =
      let u : T (sound? lim Y) = subst T (sound_alike lim X Y a) t in
      let small = small_exponents lim o in
      let l' : state_words lim ≤ length s' = subst (λ k. state_words lim ≤ k) size l in (
        length_encode lim small (length s) X t l ∙ size ∙ sym (length_encode lim small (length s') Y u l'),
        subst (λ Z. AlikeStates Z (meant lim (encode lim (length s') Y))) (sym (meant_encode lim small (length s) X t))
            (subst (λ Z. AlikeStates X Z) (sym (meant_encode lim small (length s') Y u)) a),
      )
  encoded X Y a l (inl e) (inr u) = absurd (never_both lim Y (ap (λ (Z : State). Z.levels) (sym e) ∙ a.levels) u)
  encoded X Y a l (inl e) (inl f) =
      let w : encode lim (length s) X ≡ encode lim (length s') Y = λ i. encode lim (size i) ((e ∙ sym f) i) in
      (ap length w, subst (λ z. AlikeStates (meant lim (encode lim (length s) X)) (meant lim z)) w (alike_self (meant lim (encode lim (length s) X))))

  after : (a b : Reply) → AlikeReplies a b → Spelled lim s a → Spelled lim s' b
      → After (state_after lim s a.state a.work) (state_after lim s' b.state b.work)
  after a b r p q = go a.work b.work refl refl r.work
    where
      some_work : {v : Vector} → ◌≡◌ {A = Option Vector} (some v) none → ⊥
      some_work e = absurd (subst (λ o. T (elim o [ none ↦ false | some v ↦ true ])) e tt)

      go : (x y : Option Vector) → a.work ≡ x → b.work ≡ y → x ≡ y → After (state_after lim s a.state x) (state_after lim s' b.state y)
      go none none e f h = (size, m)
      go none (some v) e f h = absurd (some_work (sym h))
      go (some v) none e f h = absurd (some_work h)
      go (some v) (some w) e f h = both p q
        where
          both : Spelled lim s a → Spelled lim s' b → After (encode lim (length s) a.state) (encode lim (length s') b.state)
          both (inl z) q = absurd (some_work (sym e ∙ z))
          both (inr z) (inl y) = absurd (some_work (sym f ∙ y))
          both (inr z) (inr y) = encoded a.state b.state r.state z.0 z.1 y.1

-- ## Calls

-- a reply and its like, both spelled
record Two (lim : Limits) (s s' : Words) (a b : Reply) : Type 0 where
  alike : AlikeReplies a b
  here : Spelled lim s a
  there : Spelled lim s' b

two : {lim : Limits} {s s' : Words} {x y : Option Reply} → Both AlikeReplies x y → IfSome (Spelled lim s) x → IfSome (Spelled lim s') y
    → Both (Two lim s s') x y
two both_none p q = both_none
two (both_some r) p q = both_some (record { alike = r; here = p; there = q })

module _ (lim : Limits) (o : T (sensible? lim)) (n : ℕ) where
  module _ (s s' : Words) (size : length s ≡ length s') (m : AlikeStates (meant lim s) (meant lim s')) where
    long_state : (way : Way) (s work : Words) → T (long_enough? lim way s work) → state_words lim ≤ length s
    long_state way s work t =
        leb→le (state_words lim) (length s) (and_left (leb (state_words lim) (length s)) (leb (work_words lim way) (length work)) t)

    long_alike : (way : Way) (work : Words) → long_enough? lim way s work ≡ long_enough? lim way s' work
    long_alike way work = ap (λ k. leb (state_words lim) k and leb (work_words lim way) (length work)) size

    -- what a call that may write the state leaves
    left_alike : (a b : Reply) → Two lim s s' a b
        → AlikeLeft lim (record { number = a.number; place = a.place; state = state_after lim s a.state a.work; out = [] })
        (record { number = b.number; place = b.place; state = state_after lim s' b.state b.work; out = [] })
    left_alike a b t =
        let w = after lim o s s' size m a b t.alike t.here t.there in
        record { number = t.alike.number; place = t.alike.place; out = refl; size = w.0; state = w.1 }

    read_left_alike : (bytes bytes' : Bytes) (work : Words) → AlikeResults (read lim n bytes) (read lim n bytes')
        → Both (AlikeLeft lim) (lent_call lim n s (read_with bytes work)) (lent_call lim n s' (read_with bytes' work))
    read_left_alike bytes bytes' work r =
        both_then (both_then replies
        (λ a. some (a.number, a.place, state_after lim s a.state a.work, rows_after work a.work))
        (λ a. some (a.number, a.place, state_after lim s' a.state a.work, rows_after work a.work))
        (λ a b t. both_some (left_alike a b t)))
        (λ z. some (record { number = z.0; place = z.1; state = z.2; out = [] }))
        (λ z. some (record { number = z.0; place = z.1; state = z.2; out = [] })) (λ z y k. both_some k)
      where
        replies : Both (Two lim s s') (read_reply lim n (meant lim s) (long_enough? lim division s work) bytes)
            (read_reply lim n (meant lim s') (long_enough? lim division s' work) bytes')
        replies =
            two (subst (λ b. Both AlikeReplies (read_reply lim n (meant lim s) (long_enough? lim division s work) bytes)
            (read_reply lim n (meant lim s') b bytes'))
            (long_alike division work) (read_replies lim n (meant lim s) (meant lim s') m (long_enough? lim division s work) bytes bytes' r))
            (read_spelled lim o n s (meant lim s) (long_enough? lim division s work) (long_state division s work) bytes)
            (read_spelled lim o n s' (meant lim s') (long_enough? lim division s' work) (long_state division s' work) bytes')

    lift_left_alike : (k : ℕ) (way : Way) (work cache : Words)
        → Both (AlikeLeft lim) (lent_call lim n s (lift_with k way work cache)) (lent_call lim n s' (lift_with k way work cache))
    lift_left_alike k way work cache =
        both_then (both_then replies (λ a. some (lift_left lim s work cache a)) (λ a. some (lift_left lim s' work cache a))
        (λ a b t. both_some (left_alike a b t)))
        (λ z. some (record { number = z.0; place = z.1; state = z.2; out = [] }))
        (λ z. some (record { number = z.0; place = z.1; state = z.2; out = [] })) (λ z y k. both_some k)
      where
        replies : Both (Two lim s s') (lift_reply lim n (meant lim s) (long_enough? lim way s work) k (lifting_by lim way work cache))
            (lift_reply lim n (meant lim s') (long_enough? lim way s' work) k (lifting_by lim way work cache))
        replies =
            let by = lifting_by lim way work cache in
            two (subst (λ b. Both AlikeReplies (lift_reply lim n (meant lim s) (long_enough? lim way s work) k by) (lift_reply lim n (meant lim s') b k by))
            (long_alike way work) (lift_replies lim n (meant lim s) (meant lim s') m (long_enough? lim way s work) k by))
            (lift_spelled lim o n s (meant lim s) (long_enough? lim way s work) (long_state way s work) k by)
            (lift_spelled lim o n s' (meant lim s') (long_enough? lim way s' work) (long_state way s' work) k by)

    fetch_left_alike : (k v : ℕ) (out : Words) → Both (AlikeLeft lim) (lent_call lim n s (fetch_with k v out)) (lent_call lim n s' (fetch_with k v out))
    fetch_left_alike k v out =
        let long = leb (state_words lim) (length s) and leb (out_words lim) (length out) in
        let r = subst (λ b. AlikeReplies (fetch_reply lim (meant lim s) long k v) (fetch_reply lim (meant lim s') b k v))
        (ap (λ j. leb (state_words lim) j and leb (out_words lim) (length out)) size)
        (fetch_replies lim n (meant lim s) (meant lim s') m long k v) in
        both_some (record { number = r.number; place = r.place; out = ap (rows_after out) r.fetched; size = size; state = m })

    lent_alike : {c c' : Lent} → AlikeLent lim c c' → Both (AlikeLeft lim) (lent_call lim n s c) (lent_call lim n s' c')
    lent_alike (same_lent {c}) = go c
      where
        go : (c : Lent) → Both (AlikeLeft lim) (lent_call lim n s c) (lent_call lim n s' c)
        go (read_with bytes work) = read_left_alike bytes bytes work (result_self (read lim n bytes))
        go (lift_with k way work cache) = lift_left_alike k way work cache
        go (fetch_with k v out) = fetch_left_alike k v out
    lent_alike (read_lent {work} {bytes} {bytes'} {q} {q'} {f} {f'} e w w') =
        read_left_alike bytes bytes' work (read_alike_files lim o n bytes bytes' q q' f f' e w w')

  all_lent : (s s' : Words) → length s ≡ length s' → AlikeStates (meant lim s) (meant lim s') → (cs cs' : List Lent) → AllAlike (AlikeLent lim) cs cs'
      → Both (AllAlike (AlikeLeft lim)) (lent_calls lim n s cs) (lent_calls lim n s' cs')
  all_lent s s' size m cs cs' no_more = both_some no_more
  all_lent s s' size m cs cs' (one_more {a = c} {b = c'} {l} {m = l'} h hs) =
      both_then (lent_alike s s' size m h) (λ r. lent_calls lim n r.state l then λ lefts. some (r ∷ lefts))
      (λ r. lent_calls lim n r.state l' then λ lefts. some (r ∷ lefts))
      (λ r r' k. both_then (all_lent r.state r'.state k.size k.state l l' hs) (λ lefts. some (r ∷ lefts)) (λ lefts. some (r' ∷ lefts))
      (λ t t' j. both_some (one_more k j)))

pub buffers : (lim : Limits) → T (sensible? lim) → (n : ℕ) (state : Words) (cs cs' : List Lent) → AllAlike (AlikeLent lim) cs cs'
    → Both (AllAlike (AlikeLeft lim)) (lent_calls lim n state cs) (lent_calls lim n state cs')
buffers lim o n state cs cs' h = all_lent lim o n state state refl (alike_self (meant lim state)) cs cs' h
