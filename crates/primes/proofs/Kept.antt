-- Request A4: files, sheets and lists of calls are kept.
use mathlib.Core.Path.{◌≡◌, refl, sym, ap, ◌∙◌, subst}
use mathlib.Core.Logic.{inl, inr}
use mathlib.Core.Bool.{Bool, true, false, not, ◌||◌}
use mathlib.Core.Option.{Option, none, some}
use mathlib.Core.List.{List, [], ◌∷◌}
use Prim.Native.Nat.{ℕ, zero, suc, ◌-◌, ◌<◌, ◌≤◌}
use native.Mathlib.Omega.{arith}
use lib.Dec.{T, leb, leb→le}
use lib.ListN.{length, get_or}
use Rattle.definitions.specs.Limits.{Limits, document_01}
use Rattle.definitions.specs.Field.{prime?}
use Rattle.definitions.specs.Lists.{◌and◌, ◌then◌, every, between, choose, empty?}
use Rattle.definitions.specs.Monomial.{Term, Vector, Level}
use Rattle.definitions.specs.Result.{Result, done, refused, unfinished, at_level, ◌>>=◌}
use Rattle.definitions.specs.Stage.{highest}
use Rattle.definitions.specs.Lifting.{Lifting, by_hybrid, lift_level}
use Rattle.definitions.specs.Problem.{Bytes, Parameters, problem}
use Rattle.definitions.specs.State.{State, has_level?, up_to, term_sound?, vector_sound?, levels_sound?, sound?}
use Rattle.definitions.specs.Calls.{Reply, refuse, settled, read, lift, fetch, eleven?, lifts?, fetches?, read_reply, lift_reply, fetch_reply}
use Rattle.definitions.specs.Sheet.{if_more, level_then, levels_from, variables_of, sheet_of, sheet}
use Rattle.definitions.specs.Layout.{Words, meant, Way, division, hybrid, tree, lifting_by, state_words, out_words, long_enough?, state_after}
use Rattle.definitions.specs.Layout.{rows_after, cache_after}
use Rattle.definitions.specs.Layout.{Read, read_left, read_call, Lift, lift_left, lift_call, Fetch, fetch_left, fetch_call, Lent, read_with, lift_with}
use Rattle.definitions.specs.Layout.{fetch_with, Left}
use Rattle.definitions.specs.Layout.{lent_call, lent_calls}
use Rattle.laws.proofs.Tests.{and_left, and_right, between_low, between_high}
use Rattle.laws.proofs.Results.{IfDone}
use Rattle.laws.proofs.Sound.{term_says, vector_says, basis_says, level_says, sound_says}
use Rattle.demands.specs.Notions.{Member}
use Rattle.primes.specs.Primes.{with_prime_bound, prime_of, FilesWithin, Kept}
use Rattle.primes.proofs.Trees.{lift_same}
use Rattle.primes.proofs.Reading.{problem_same, read_same, StateWithin, read_within}
use Rattle.primes.proofs.States.{work_same, encode_same, sound_same, meant_same, meant_within}

module _ (lim : Limits) (bound : ℕ) (l : lim.prime_bound ≤ bound) where
  abbrev wide : Limits
  wide = with_prime_bound bound lim

  -- ## The sheet

  more_same : (b : Bool) (n k : ℕ) (f : Level) (more more' : Unit {0} → Option Bytes) → more' tt ≡ more tt → if_more b n k f more'
      ≡ if_more b n k f more
  more_same true n k f more more' h = refl
  more_same false n k f more more' h = ap (λ (o : Option Bytes). if_more false n k f (λ u. o)) h

  then_same : (n k : ℕ) (more more' : State → Option Bytes) → ((Y : State) → more' Y ≡ more Y) → (x : Result State) → level_then n k more' x
      ≡ level_then n k more x
  then_same n k more more' h (done Y) = more_same (empty? (highest Y.levels)) n k (highest Y.levels) (λ u. more Y) (λ u. more' Y) (h Y)
  then_same n k more more' h (refused number place value) = refl
  then_same n k more more' h unfinished = refl

  levels_same : (n left k : ℕ) (X : State) → levels_from wide n left k X ≡ levels_from lim n left k X
  levels_same n zero k X = refl
  levels_same n (suc left) k X =
      ap (level_then X.parameters.n k (λ Y. levels_from wide n left (suc k) Y)) (lift_same lim bound n X k (by_hybrid 2 lim.working))
      ∙ then_same X.parameters.n k (λ Y. levels_from lim n left (suc k) Y) (λ Y. levels_from wide n left (suc k) Y)
      (λ Y. levels_same n left (suc k) Y) (lift lim n X k (by_hybrid 2 lim.working))

  sheet_of_same : (n v : ℕ) (x : Result State) → sheet_of wide n v x ≡ sheet_of lim n v x
  sheet_of_same n v (done X) = levels_same n lim.levels 1 X
  sheet_of_same n v (refused number place value) = refl
  sheet_of_same n v unfinished = refl

  sheet_same : (n : ℕ) (bytes : Bytes) → prime_of lim bytes ≤ lim.prime_bound → sheet wide n bytes ≡ sheet lim n bytes
  sheet_same n bytes h =
      (λ i. sheet_of wide n (variables_of (problem_same lim bound l bytes h i)) (read_same lim bound l n bytes h i))
      ∙ sheet_of_same n (variables_of (problem lim bytes)) (read lim n bytes)

  -- ## Replies

  long_same : (way : Way) (state work : Words) → long_enough? wide way state work ≡ long_enough? lim way state work
  long_same way state work = ap (λ w. leb (state_words lim) (length state) and leb w (length work)) (work_same lim bound way)

  eleven_same : (X : State) → X.parameters.p ≤ lim.prime_bound → (k needed : ℕ) → eleven? wide X k needed ≡ eleven? lim X k needed
  eleven_same X h k needed = λ i. not (sound_same lim bound l X h i) || (between 1 k lim.levels and not (has_level? X needed))

  lift_reply_same : (n : ℕ) (X : State) → X.parameters.p ≤ lim.prime_bound → (long : Bool) (k : ℕ) (way : Lifting)
      → lift_reply wide n X long k way ≡ lift_reply lim n X long k way
  lift_reply_same n X h long k way = λ i.
      choose (not long) (some (refuse 16 X)) (choose (eleven_same X h k (k - 1) i) (some (refuse 11 X))
      (choose (not (lifts? lim k way)) (some (refuse 12 X)) (settled (lift_same lim bound n X k way i))))

  fetch_reply_same : (X : State) → X.parameters.p ≤ lim.prime_bound → (long : Bool) (k v : ℕ) → fetch_reply wide X long k v
      ≡ fetch_reply lim X long k v
  fetch_reply_same X h long k v = λ i.
      choose (not long) (refuse 16 X) (choose (eleven_same X h k k i) (refuse 11 X) (choose (not (fetches? lim X k v)) (refuse 12 X) (fetch X k v)))

  after_same : (s : Words) (X : State) (o : Option Vector) → state_after wide s X o ≡ state_after lim s X o
  after_same s X none = refl
  after_same s X (some v) = encode_same lim bound (length s) X

  -- ## Calls

  by_same : (way : Way) (work cache : Words) → lifting_by wide way work cache ≡ lifting_by lim way work cache
  by_same division work cache = refl
  by_same (hybrid pick) work cache = refl
  by_same tree work cache = refl

  read_call_same : (n : ℕ) (file : Bytes) (state work : Words) → prime_of lim file ≤ lim.prime_bound
      → read_call wide n file state work ≡ read_call lim n file state work
  read_call_same n file state work h = go (long_enough? lim division state work)
    where
      left_same : (a : Reply) → read_left wide state work a ≡ read_left lim state work a
      left_same a = λ i. (a.number, a.place, after_same state a.state a.work i, rows_after work a.work)

      go : (b : Bool) → (read_reply wide n (meant wide state) b file then λ a. some (read_left wide state work a))
          ≡ (read_reply lim n (meant lim state) b file then λ a. some (read_left lim state work a))
      go false = refl
      go true = λ i. settled (read_same lim bound l n file h i) then λ a. some (left_same a i)

  lift_call_same : (n k : ℕ) (way : Way) (state work cache : Words) → get_or state 0 0 ≤ lim.prime_bound
      → lift_call wide n k way state work cache ≡ lift_call lim n k way state work cache
  lift_call_same n k way state work cache h =
      (λ i. lift_reply wide n (meant_same lim bound l state h i) (long_same way state work i) k (by_same way work cache i) then λ a.
      some (left_same a i))
      ∙ ap (λ (o : Option Reply). o then λ a. some (lift_left lim state work cache a))
      (lift_reply_same n (meant lim state) (meant_within lim bound state h) (long_enough? lim way state work) k (lifting_by lim way work cache))
    where
      left_same : (a : Reply) → lift_left wide state work cache a ≡ lift_left lim state work cache a
      left_same a = λ i. (a.number, a.place, after_same state a.state a.work i, rows_after work a.work, cache_after cache a.work)

  fetch_call_same : (k v : ℕ) (state out : Words) → get_or state 0 0 ≤ lim.prime_bound → fetch_call wide k v state out ≡ fetch_call lim k v state out
  fetch_call_same k v state out h =
      let long = leb (state_words lim) (length state) and leb (out_words lim) (length out) in
      (λ i. fetch_left out (fetch_reply wide (meant_same lim bound l state h i) long k v))
      ∙ ap (fetch_left out) (fetch_reply_same (meant lim state) (meant_within lim bound state h) long k v)

  -- ## Lists of calls: the state keeps such a p

  abbrev KeptP : Option Left → Type 0
  KeptP none = Unit {0}
  KeptP (some a) = get_or a.state 0 0 ≤ lim.prime_bound

  abbrev after_read : Words → Words → Option Reply → Option Left
  after_read state work o =
      (o then λ a. some (read_left lim state work a)) then λ a. some (record { number = a.0; place = a.1; state = a.2; out = [] })

  abbrev after_lift : Words → Words → Words → Option Reply → Option Left
  after_lift state work cache o =
      (o then λ a. some (lift_left lim state work cache a)) then λ a. some (record { number = a.0; place = a.1; state = a.2; out = [] })

  read_keeps : (state work : Words) (x : Result State) → IfDone (StateWithin lim lim.prime_bound) x → KeptP (after_read state work (settled x))
  read_keeps state work (done X) h = h
  read_keeps state work (refused number place value) h = omega arith
  read_keeps state work unfinished h = tt

  lift_keeps : (state work cache : Words) (x : Result State) → IfDone (StateWithin lim lim.prime_bound) x
      → KeptP (after_lift state work cache (settled x))
  lift_keeps state work cache (done X) h = h
  lift_keeps state work cache (refused number place value) h = omega arith
  lift_keeps state work cache unfinished h = tt

  chosen : (P : Option Reply → Type 0) (b : Bool) (x y : Option Reply) → P x → P y → P (choose b x y)
  chosen P true x y h k = h
  chosen P false x y h k = k

  abbrev LiftKeeps : Words → Words → Words → Option Reply → Type 0
  LiftKeeps state work cache o = KeptP (after_lift state work cache o)

  lift_within : (n : ℕ) (X : State) → X.parameters.p ≤ lim.prime_bound → (k : ℕ) (way : Lifting)
      → IfDone (StateWithin lim lim.prime_bound) (lift lim n X k way)
  lift_within n X h k way = go (lift_level lim X.parameters.p X.parameters.code (up_to X (k - 1)) way n)
    where
      go : (x : Result Level)
          → IfDone (StateWithin lim lim.prime_bound) (at_level k x
          >>= λ f. done (record { parameters = X.parameters; levels = f ∷ up_to X (k - 1) }))
      go (done f) = h
      go (refused number place value) = tt
      go unfinished = tt

  module _ (n : ℕ) (state : Words) (h : get_or state 0 0 ≤ lim.prime_bound) where
    reading_keeps : (file : Bytes) (work : Words) → prime_of lim file ≤ lim.prime_bound → KeptP (lent_call lim n state (read_with file work))
    reading_keeps file work k =
        chosen (λ o. KeptP (after_read state work o)) (not (long_enough? lim division state work)) (some (refuse 16 (meant lim state)))
        (settled (read lim n file)) h
        (read_keeps state work (read lim n file) (read_within lim lim.prime_bound n file k))

    lifting_keeps : (k : ℕ) (way : Way) (work cache : Words) → KeptP (lent_call lim n state (lift_with k way work cache))
    lifting_keeps k way work cache =
        let X : State = meant lim state in
        let w : Lifting = lifting_by lim way work cache in
        let runs : Option Reply = settled (lift lim n X k w) in
        let twelve : Option Reply = choose (not (lifts? lim k w)) (some (refuse 12 X)) runs in
        let eleven : Option Reply = choose (eleven? lim X k (k - 1)) (some (refuse 11 X)) twelve in
        chosen (LiftKeeps state work cache) (not (long_enough? lim way state work)) (some (refuse 16 X)) eleven h
        (chosen (LiftKeeps state work cache) (eleven? lim X k (k - 1)) (some (refuse 11 X)) twelve h
        (chosen (LiftKeeps state work cache) (not (lifts? lim k w)) (some (refuse 12 X)) runs h
        (lift_keeps state work cache (lift lim n X k w) (lift_within n X (meant_within lim bound state h) k w))))

  -- the rest of a list, after a call that answers the same
  rest_same : (n : ℕ) (cs : List Lent) → ((state : Words) → get_or state 0 0 ≤ lim.prime_bound → lent_calls wide n state cs ≡ lent_calls lim n state cs)
      → (o : Option Left) → KeptP o
      → (o then λ a. lent_calls wide n a.state cs then λ lefts. some (a ∷ lefts))
      ≡ (o then λ a. lent_calls lim n a.state cs then λ lefts. some (a ∷ lefts))
  rest_same n cs ih none h = refl
  rest_same n cs ih (some a) h = ap (λ (o : Option (List Left)). o then λ lefts. some (a ∷ lefts)) (ih a.state h)

  abbrev with_rest : ℕ → List Lent → Option Left → Option (List Left)
  with_rest n cs o = o then λ a. lent_calls wide n a.state cs then λ lefts. some (a ∷ lefts)

  calls_same : (n : ℕ) (state : Words) (cs : List Lent) → get_or state 0 0 ≤ lim.prime_bound → FilesWithin lim cs
      → lent_calls wide n state cs ≡ lent_calls lim n state cs
  calls_same n state [] h fs = refl
  calls_same n state (read_with file work ∷ cs) h fs =
      ap (λ (o : Option Read). with_rest n cs (o then λ a. some (record { number = a.0; place = a.1; state = a.2; out = [] })))
      (read_call_same n file state work fs.0)
      ∙ rest_same n cs (λ s k. calls_same n s cs k fs.1) (lent_call lim n state (read_with file work)) (reading_keeps n state h file work fs.0)
  calls_same n state (lift_with k way work cache ∷ cs) h fs =
      ap (λ (o : Option Lift). with_rest n cs (o then λ a. some (record { number = a.0; place = a.1; state = a.2; out = [] })))
      (lift_call_same n k way state work cache h)
      ∙ rest_same n cs (λ s k. calls_same n s cs k fs) (lent_call lim n state (lift_with k way work cache)) (lifting_keeps n state h k way work cache)
  calls_same n state (fetch_with k v out ∷ cs) h fs =
      ap (λ (a : Fetch). with_rest n cs (some (record { number = a.0; place = a.1; state = state; out = a.2 }))) (fetch_call_same k v state out h)
      ∙ rest_same n cs (λ s k. calls_same n s cs k fs) (lent_call lim n state (fetch_with k v out)) h

-- ## Widths

every_has : {A : Type 0} (test : A → Bool) (xs : List A) → T (every test xs) → (x : A) → Member x xs → T (test x)
every_has {A = A} test [] t x x4 = elim x4 [ ]
every_has test (y ∷ xs) t x (inl e) = subst (λ z. T (test z)) (sym e) (and_left (test y) (every test xs) t)
every_has test (y ∷ xs) t x (inr i) = every_has test xs (and_right (test y) (every test xs) t) x i

module _ (lim : Limits) (q : Parameters) where
  vector_below : (components most : ℕ) (below : List Level) (v : Vector) → T (vector_sound? lim q components most below v) → (t : Term) → Member t v
      → T (between 1 t.0 (q.p - 1))
  vector_below components most below v s t i =
      (term_says lim q components t (every_has (term_sound? lim q components) v (vector_says lim q components most below v s).terms t i)).coefficient

  levels_below : (ls : List Level) → T (levels_sound? lim q ls) → (f : Level) → Member f ls → (v : Vector) → Member v f → (t : Term) → Member t v
      → T (between 1 t.0 (q.p - 1))
  levels_below [] s f i v j t k = absurd s
  levels_below (g ∷ []) s f (inl e) v j t k =
      vector_below q.s lim.t_lines [] v
      (every_has (vector_sound? lim q q.s lim.t_lines []) g (basis_says lim q g s).vectors v (subst (Member v) e j)) t k
  levels_below (g ∷ []) s f (inr i) v j t k = absurd i
  levels_below (g ∷ b ∷ below) s f (inl e) v j t k =
      vector_below (length b) lim.vector (b ∷ below) v
      (every_has (vector_sound? lim q (length b) lim.vector (b ∷ below)) g (level_says lim q g b below s).vectors v (subst (Member v) e j)) t k
  levels_below (g ∷ b ∷ below) s f (inr i) v j t k = levels_below (b ∷ below) (level_says lim q g b below s).under f i v j t k

widths : (lim : Limits) → lim.prime_bound ≤ 65_535 → (X : State) → T (sound? lim X) → (f : Level) → Member f X.levels → (v : Vector) → Member v f
    → (t : Term) → Member t v → (t.0 < X.parameters.p) × (X.parameters.p < 65_536)
widths lim l X s f i v j t k =
    let p = X.parameters.p in
    let c : T (between 1 t.0 (p - 1)) = levels_below lim X.parameters X.levels (sound_says lim X s).levels f i v j t k in
    let low : 1 ≤ t.0 = between_low 1 t.0 (p - 1) c in
    let high : t.0 ≤ p - 1 = between_high 1 t.0 (p - 1) c in
    let most : p ≤ lim.prime_bound = leb→le p lim.prime_bound (and_left (leb p lim.prime_bound) (prime? p) (sound_says lim X s).prime) in
    (omega (arith, low, high), omega (arith, most, l))

-- ## Request A4

pub kept : (lim : Limits) (bound : ℕ) → lim.prime_bound ≤ bound → Kept lim bound
kept lim bound l = record {
  problems = problem_same lim bound l;
  sheets = sheet_same lim bound l;
  calls = calls_same lim bound l;
  lengths = (refl, work_same lim bound, refl, λ k. refl);
  widths = λ m. widths (with_prime_bound bound lim) m;
}

-- document 01's limits with the bound that they had, 32,767
pub kept_of_document_01 : Kept (with_prime_bound 32_767 document_01) 65_535
kept_of_document_01 = kept (with_prime_bound 32_767 document_01) 65_535 (omega arith)
