-- Degrees decide no answer: files alike but for D, and states alike but for degrees, are answered alike.
use mathlib.Core.Path.{◌≡◌, refl, sym, ap, ◌∙◌, subst}
use mathlib.Core.Bool.{Bool, true, false, not, ◌||◌}
use mathlib.Core.Option.{Option, some}
use mathlib.Core.List.{List, [], ◌∷◌}
use Prim.Native.Nat.{ℕ, zero, suc, ◌-◌}
use lib.Dec.{T, leb}
use lib.ListN.{length}
use Rattle.definitions.specs.Limits.{Limits}
use Rattle.definitions.specs.Lists.{◌and◌, ◌then◌, choose, every, between, empty?}
use Rattle.definitions.specs.Monomial.{Level, vector_of}
use Rattle.definitions.specs.Result.{Result, done, refused, unfinished, at_level, ◌>>=◌}
use Rattle.definitions.specs.Stage.{highest}
use Rattle.definitions.specs.Lifting.{Lifting, by_hybrid, lift_level, accept}
use Rattle.definitions.specs.Problem.{Bytes, Parameters, prime_in_range?, in_ranges?, problem}
use Rattle.definitions.specs.State.{State, empty, has_level?, up_to, terms_of, vector_sound?, levels_sound?, degrees_sound?, sound?}
use Rattle.definitions.specs.Calls.{Call, reading, lifting, fetching, Reply, refuse, settled, accepted, read, lift, fetch, eleven?, lifts?, fetches?}
use Rattle.definitions.specs.Calls.{read_reply, lift_reply, fetch_reply, call, calls}
use Rattle.definitions.specs.Sheet.{if_more, level_then, levels_from, variables_of, sheet_of, sheet}
use Rattle.laws.proofs.Tests.{true_is}
use Rattle.laws.proofs.Results.{if_done_says}
use Rattle.laws.proofs.Sound.{sound_says}
use Rattle.laws.proofs.Reading.{basis_state, problem_sound}
use Rattle.files.specs.Files.{WellFormedFile}
use Rattle.demands.specs.Demands.{sensible?}
use Rattle.demands.proofs.Over.{few_variables}
use Rattle.demands.proofs.Reader.{files}
use Rattle.degrees.specs.Notions.{AlikeFiles, without_degrees, AlikeStates, AlikeResults, both_done, both_refused, both_open, AlikeReplies}
use Rattle.degrees.specs.Notions.{AllAlike, no_more, one_more, Both, both_none, both_some, AlikeCalls, same_call, read_alike}
use Rattle.degrees.proofs.Lines.{basis}

pub alike_self : (X : State) → AlikeStates X X
alike_self X = record { parameters = refl; ranges = refl; levels = refl }

-- the same result, and alike from there on
alike_bind : {A : Type 0} (x y : Result A) → x ≡ y → (g h : A → Result State) → ((a : A) → AlikeResults (g a) (h a)) → AlikeResults (x >>= g) (y >>= h)
alike_bind {A} x y e g h k = subst (λ z. AlikeResults (x >>= g) (z >>= h)) e (go x)
  where
    go : (x : Result A) → AlikeResults (x >>= g) (x >>= h)
    go (done a) = k a
    go (refused number place value) = both_refused
    go unfinished = both_open

-- ## Lifting

module _ (lim : Limits) (n : ℕ) (X Y : State) (a : AlikeStates X Y) where
  up_alike : (k : ℕ) → up_to X k ≡ up_to Y k
  up_alike k = ap (λ ls. up_to (record { parameters = X.parameters; levels = ls }) k) a.levels

  pub lifted : (k : ℕ) (way : Lifting) → AlikeResults (lift lim n X k way) (lift lim n Y k way)
  lifted k way =
      alike_bind (at_level k (lift_level lim X.parameters.p X.parameters.code (up_to X (k - 1)) way n))
      (at_level k (lift_level lim Y.parameters.p Y.parameters.code (up_to Y (k - 1)) way n))
      (λ i. at_level k (lift_level lim (a.parameters i).p (a.parameters i).code (up_alike (k - 1) i) way n))
      (λ f. done (record { parameters = X.parameters; levels = f ∷ up_to X (k - 1) }))
      (λ f. done (record { parameters = Y.parameters; levels = f ∷ up_to Y (k - 1) }))
      (λ f. both_done (record { parameters = a.parameters; ranges = a.ranges; levels = ap (λ ls. f ∷ ls) (up_alike (k - 1)) }))

-- ## Soundness

levels_plain : (lim : Limits) (q : Parameters) (ls : List Level) → levels_sound? lim (without_degrees q) ls ≡ levels_sound? lim q ls
levels_plain lim q [] = refl
levels_plain lim q (f ∷ []) = refl
levels_plain lim q (f ∷ g ∷ below) =
    ap (λ b. b and leb (length f) lim.vectors and leb (terms_of f) lim.level_terms
    and every (vector_sound? lim q (length g) lim.vector (g ∷ below)) f) (levels_plain lim q (g ∷ below))

module _ (lim : Limits) (X Y : State) (a : AlikeStates X Y) where
  levels_alike : levels_sound? lim X.parameters X.levels ≡ levels_sound? lim Y.parameters Y.levels
  levels_alike =
      sym (levels_plain lim X.parameters X.levels) ∙ (λ i. levels_sound? lim (a.parameters i) (a.levels i))
      ∙ levels_plain lim Y.parameters Y.levels

  pub sound_alike : sound? lim X ≡ sound? lim Y
  sound_alike = λ i.
      prime_in_range? lim (a.parameters i).p and in_ranges? lim (a.parameters i) and a.ranges i and
      leb (length (a.levels i)) (suc lim.levels) and levels_alike i

  eleven_alike : (k needed : ℕ) → eleven? lim X k needed ≡ eleven? lim Y k needed
  eleven_alike k needed = λ i.
      not (sound_alike i) || (between 1 k lim.levels and not (has_level? (record { parameters = X.parameters; levels = a.levels i }) needed))

-- ## Replies

refuse_alike : (number : ℕ) (X Y : State) → AlikeStates X Y → AlikeReplies (refuse number X) (refuse number Y)
refuse_alike number X Y a = record { number = refl; place = refl; work = refl; fetched = refl; state = a }

settled_alike : {x y : Result State} → AlikeResults x y → Both AlikeReplies (settled x) (settled y)
settled_alike (both_done a) = both_some (record { number = refl; place = refl; work = refl; fetched = refl; state = a })
settled_alike both_refused = both_some (record { number = refl; place = refl; work = refl; fetched = refl; state = alike_self empty })
settled_alike both_open = both_none

pub result_self : (x : Result State) → AlikeResults x x
result_self (done X) = both_done (alike_self X)
result_self (refused number place value) = both_refused
result_self unfinished = both_open

choose_both : {A : Type 0} {R : A → A → Type 0} (b c : Bool) → b ≡ c → {x y u v : Option A} → Both R x u → Both R y v → Both R (choose b x y) (choose c u v)
choose_both {A} {R} b c e {x} {y} {u} {v} h k = subst (λ z. Both R (choose b x y) (choose z u v)) e (go b)
  where
    go : (b : Bool) → Both R (choose b x y) (choose b u v)
    go true = h
    go false = k

choose_replies : (b c : Bool) → b ≡ c → (x y u v : Reply) → AlikeReplies x u → AlikeReplies y v → AlikeReplies (choose b x y) (choose c u v)
choose_replies b c e x y u v h k = subst (λ z. AlikeReplies (choose b x y) (choose z u v)) e (go b)
  where
    go : (b : Bool) → AlikeReplies (choose b x y) (choose b u v)
    go true = h
    go false = k

module _ (lim : Limits) (n : ℕ) (X Y : State) (a : AlikeStates X Y) where
  pub read_replies : (long : Bool) (bytes bytes' : Bytes) → AlikeResults (read lim n bytes) (read lim n bytes')
      → Both AlikeReplies (read_reply lim n X long bytes) (read_reply lim n Y long bytes')
  read_replies long bytes bytes' r = choose_both (not long) (not long) refl (both_some (refuse_alike 16 X Y a)) (settled_alike r)

  pub lift_replies : (long : Bool) (k : ℕ) (way : Lifting) → Both AlikeReplies (lift_reply lim n X long k way) (lift_reply lim n Y long k way)
  lift_replies long k way =
      choose_both (not long) (not long) refl (both_some (refuse_alike 16 X Y a))
      (choose_both (eleven? lim X k (k - 1)) (eleven? lim Y k (k - 1)) (eleven_alike lim X Y a k (k - 1)) (both_some (refuse_alike 11 X Y a))
      (choose_both (not (lifts? lim k way)) (not (lifts? lim k way)) refl (both_some (refuse_alike 12 X Y a)) (settled_alike (lifted lim n X Y a k way))))

  pub fetch_replies : (long : Bool) (k v : ℕ) → AlikeReplies (fetch_reply lim X long k v) (fetch_reply lim Y long k v)
  fetch_replies long k v =
      let twelve = choose (not (fetches? lim X k v)) (refuse 12 X) (fetch X k v) in
      let twelve' = choose (not (fetches? lim Y k v)) (refuse 12 Y) (fetch Y k v) in
      choose_replies (not long) (not long) refl (refuse 16 X) (choose (eleven? lim X k k) (refuse 11 X) twelve)
      (refuse 16 Y) (choose (eleven? lim Y k k) (refuse 11 Y) twelve') (refuse_alike 16 X Y a)
      (choose_replies (eleven? lim X k k) (eleven? lim Y k k) (eleven_alike lim X Y a k k) (refuse 11 X) twelve (refuse 11 Y) twelve' (refuse_alike 11 X Y a)
      (choose_replies (not (fetches? lim X k v)) (not (fetches? lim Y k v))
      (λ i. not (between 1 k lim.levels and between 1 v (length (highest (up_alike lim n X Y a k i)))))
      (refuse 12 X) (fetch X k v) (refuse 12 Y) (fetch Y k v) (refuse_alike 12 X Y a)
      (record {
        number = refl;
        place = refl;
        work = refl;
        fetched = ap (λ ls. some (vector_of (highest ls) v)) (up_alike lim n X Y a k);
        state = a;
      })))

pub both_then : {A B : Type 0} {R : A → A → Type 0} {S : B → B → Type 0} {x y : Option A} → Both R x y → (f g : A → Option B)
    → ((a b : A) → R a b → Both S (f a) (g b)) → Both S (x then f) (y then g)
both_then both_none f g k = both_none
both_then (both_some {a} {b} r) f g k = k a b r

-- ## Files

module _ (lim : Limits) (o : T (sensible? lim)) where
  pub read_alike_files : (n : ℕ) (bytes bytes' : Bytes) (q q' : Parameters) (f f' : Level) → AlikeFiles bytes bytes'
      → WellFormedFile lim bytes q f → WellFormedFile lim bytes' q' f' → AlikeResults (read lim n bytes) (read lim n bytes')
  read_alike_files n bytes bytes' q q' f f' e w w' =
      let b = basis lim o bytes bytes' q q' f f' e w w' in
      let t = (files lim o).taken bytes q f w in
      let t' = (files lim o).taken bytes' q' f' w' in
      let r = in_range bytes q f w ∙ sym (in_range bytes' q' f' w') in
      subst (λ x. AlikeResults (x >>= accepted lim n) (read lim n bytes')) (sym t)
      (subst (λ x. AlikeResults (accepted lim n (q, f)) (x >>= accepted lim n)) (sym t')
      (alike_bind (accept lim q.p q.code f n) (accept lim q'.p q'.code f' n) (λ i. accept lim (b.0 i).p (b.0 i).code (b.1 i) n)
      (λ u. done (record { parameters = q; levels = f ∷ [] })) (λ u. done (record { parameters = q'; levels = f' ∷ [] }))
      (λ u. both_done (record { parameters = b.0; ranges = r; levels = ap (λ g. g ∷ []) b.1 }))))
    where
      in_range : (bytes : Bytes) (q : Parameters) (f : Level) → WellFormedFile lim bytes q f → degrees_sound? q ≡ true
      in_range bytes q f w =
          true_is (degrees_sound? q) (sound_says lim (basis_state (q, f)) (if_done_says (λ x. T (sound? lim (basis_state x))) (problem lim bytes)
          (problem_sound lim (few_variables lim o) bytes) (q, f) ((files lim o).taken bytes q f w))).degrees

  call_alike : (n : ℕ) (X Y : State) → AlikeStates X Y → {c c' : Call} → AlikeCalls lim c c' → Both AlikeReplies (call lim n X c) (call lim n Y c')
  call_alike n X Y a (same_call {c}) = go c
    where
      go : (c : Call) → Both AlikeReplies (call lim n X c) (call lim n Y c)
      go (reading long bytes) = read_replies lim n X Y a long bytes bytes (result_self (read lim n bytes))
      go (lifting long k way) = lift_replies lim n X Y a long k way
      go (fetching long k v) = both_some (fetch_replies lim n X Y a long k v)
  call_alike n X Y a (read_alike {long} {bytes} {bytes'} {q} {q'} {f} {f'} e w w') =
      read_replies lim n X Y a long bytes bytes' (read_alike_files n bytes bytes' q q' f f' e w w')

  pub calls_alike : (n : ℕ) (X Y : State) → AlikeStates X Y → (cs cs' : List Call) → AllAlike (AlikeCalls lim) cs cs'
      → Both (AllAlike AlikeReplies) (calls lim n X cs) (calls lim n Y cs')
  calls_alike n X Y a cs cs' no_more = both_some no_more
  calls_alike n X Y a cs cs' (one_more {a = c} {b = c'} {l} {m} h hs) =
      both_then (call_alike n X Y a h) (λ r. calls lim n r.state l then λ replies. some (r ∷ replies))
      (λ r. calls lim n r.state m then λ replies. some (r ∷ replies))
      (λ r r' k. both_then (calls_alike n r.state r'.state k.state l m hs) (λ replies. some (r ∷ replies)) (λ replies. some (r' ∷ replies))
      (λ s s' j. both_some (one_more k j)))

  -- ## Sheets

  from_alike : (bound left k : ℕ) (X Y : State) → AlikeStates X Y → levels_from lim bound left k X ≡ levels_from lim bound left k Y
  from_alike bound zero k X Y a = refl
  from_alike bound (suc left) k X Y a =
      ap (λ n. level_then n k (λ Z. levels_from lim bound left (suc k) Z) (lift lim bound X k (by_hybrid 2 lim.working)))
      (ap (λ (q : Parameters). q.n) a.parameters)
      ∙ go (lifted lim bound X Y a k (by_hybrid 2 lim.working)) (λ X Y a. from_alike bound left (suc k) X Y a)
    where
      if_more_alike : (f g : Level) → f ≡ g → (x y : Option Bytes) → x ≡ y
          → if_more (empty? f) Y.parameters.n k f (λ u. x) ≡ if_more (empty? g) Y.parameters.n k g (λ u. y)
      if_more_alike f g e x y h = λ i. if_more (empty? (e i)) Y.parameters.n k (e i) (λ u. h i)

      go : {x y : Result State} → AlikeResults x y → ((X Y : State) → AlikeStates X Y → levels_from lim bound left (suc k) X
          ≡ levels_from lim bound left (suc k) Y)
          → level_then Y.parameters.n k (λ Z. levels_from lim bound left (suc k) Z) x
          ≡ level_then Y.parameters.n k (λ Z. levels_from lim bound left (suc k) Z) y
      go (both_done {X = Z} {Y = Z'} b) ih =
          if_more_alike (highest Z.levels) (highest Z'.levels) (ap highest b.levels) (levels_from lim bound left (suc k) Z)
          (levels_from lim bound left (suc k) Z') (ih Z Z' b)
      go both_refused ih = refl
      go both_open ih = refl

  sheet_alike : (bound n : ℕ) {x y : Result State} → AlikeResults x y → sheet_of lim bound n x ≡ sheet_of lim bound n y
  sheet_alike bound n (both_done {X} {Y} a) = from_alike bound lim.levels 1 X Y a
  sheet_alike bound n both_refused = refl
  sheet_alike bound n both_open = refl

  pub sheets : (n : ℕ) (bytes bytes' : Bytes) (q q' : Parameters) (f f' : Level) → AlikeFiles bytes bytes'
      → WellFormedFile lim bytes q f → WellFormedFile lim bytes' q' f' → sheet lim n bytes ≡ sheet lim n bytes'
  sheets n bytes bytes' q q' f f' e w w' =
      let v : variables_of (problem lim bytes) ≡ variables_of (problem lim bytes') =
      ap variables_of ((files lim o).taken bytes q f w) ∙ ap (λ (x : Parameters). x.n) (basis lim o bytes bytes' q q' f f' e w w').0
      ∙ sym (ap variables_of ((files lim o).taken bytes' q' f' w')) in
      ap (λ m. sheet_of lim n m (read lim n bytes)) v ∙ sheet_alike n (variables_of (problem lim bytes')) (read_alike_files n bytes bytes' q q' f f' e w w')
