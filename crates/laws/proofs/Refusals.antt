-- "11, 12, 16 change no buffer and no state. After 1 to 9 and 13 to 15 the state is empty", and after 18 and 24: of the calls on buffers.
use mathlib.Core.Path.{◌≡◌, refl, sym, ap, ◌∙◌, subst}
use mathlib.Core.Bool.{Bool, true, false, not, ◌||◌}
use mathlib.Core.Option.{Option, none, some, some-injective}
use mathlib.Core.List.{[], ◌++◌, append-nil}
use Prim.Native.Nat.{ℕ, ◌+◌, ◌-◌, ◌≤◌}
use native.Mathlib.Omega.{arith}
use lib.Dec.{T, leb, eqb, leb→le, eqb→eq}
use lib.ListN.{length, replicate, length-replicate, replicate-append-replicate}
use Rattle.definitions.specs.Limits.{Limits}
use Rattle.definitions.specs.Lists.{◌and◌, ◌then◌, choose, between}
use Rattle.definitions.specs.Monomial.{Vector}
use Rattle.definitions.specs.Result.{Result}
use Rattle.definitions.specs.Lifting.{Lifting}
use Rattle.definitions.specs.Problem.{Bytes}
use Rattle.definitions.specs.State.{State, empty}
use Rattle.definitions.specs.Calls.{Reply, refuse, settled, read, lift, fetch, eleven?, lifts?, fetches?, read_reply, lift_reply, fetch_reply}
use Rattle.definitions.specs.Layout.{Words, padded, zeros, rows_place, degrees_place, levels_of, degree_words, state_words, encode, state_after}
use Rattle.definitions.specs.Layout.{rows_after, cache_after, meant, Way, division}
use Rattle.definitions.specs.Layout.{lifting_by, work_words, out_words, long_enough?, Read, read_left, read_call, Lift, lift_left, lift_call, fetch_call}
use Rattle.laws.proofs.Tests.{and_left}
use Rattle.laws.proofs.Numbers.{Numbered, gives, refuses, stops, open_yet, limit_number?, added_number?, read_number?, numbered_more}
use Rattle.laws.proofs.Numbers.{read_number, lift_number}
use Rattle.definitions.specs.Places.{header_length}

-- the numbers after which nothing has changed
abbrev pub keeps? : ℕ → Bool
keeps? n = eqb n 11 || eqb n 12 || eqb n 16

-- ## An empty state is all zeros

padded_zeros : (n k : ℕ) → k ≤ n → padded n (replicate k 0) ≡ replicate n 0
padded_zeros n k h =
    let e : k + (n - k) ≡ n = omega arith in
    ap (λ j. replicate k 0 ++ replicate (n - j) 0) (length-replicate {A = ℕ} k 0) ∙ replicate-append-replicate k (n - k) 0 ∙ ap (λ j. replicate j 0) e

pub encode_empty : (lim : Limits) (size : ℕ) → state_words lim ≤ size → encode lim size empty ≡ replicate size 0
encode_empty lim size h = ap (padded size) ((λ i. terms i ++ degrees i) ∙ replicate-append-replicate c d 0) ∙ padded_zeros size (c + d) (omega arith)
  where
    c : ℕ
    c = degrees_place lim

    d : ℕ
    d = lim.components

    terms : padded (degrees_place lim) (levels_of lim empty) ≡ replicate (degrees_place lim) 0
    terms =
        ap (padded (degrees_place lim)) (append-nil (padded (rows_place lim 0) (replicate header_length 0))
        ∙ padded_zeros (rows_place lim 0) header_length (omega arith)) ∙ padded_zeros (degrees_place lim) (rows_place lim 0) (omega arith)

    degrees : degree_words lim empty ≡ replicate lim.components 0
    degrees = append-nil (padded lim.components []) ∙ padded_zeros lim.components 0 (omega arith)

-- ## What a settled call leaves

-- a test that the number cannot pass
never_both : (n : ℕ) → T (read_number? n) → T (keeps? n) → ⊥
never_both n r k = go (eqb n 11) (eqb n 12) (eqb→eq n 11) (eqb→eq n 12) (eqb→eq n 16) k
  where
    no_read : (m : ℕ) → n ≡ m → (T (read_number? m) → ⊥) → ⊥
    no_read m e f = f (subst (λ j. T (read_number? j)) e r)

    go : (a b : Bool) → (T a → n ≡ 11) → (T b → n ≡ 12) → (T (eqb n 16) → n ≡ 16) → T (a || b || eqb n 16) → ⊥
    go true b f g h k = no_read 11 (f tt) (λ t. t)
    go false true f g h k = no_read 12 (g tt) (λ t. t)
    go false false f g h k = no_read 16 (h k) (λ t. t)

-- a reply whose number says which buffers it left alone
pub record Fair (lim : Limits) (a : Reply) : Type 0 where
  pub kept : T (keeps? a.number) → (a.place ≡ 0) × (a.work ≡ none) × (a.fetched ≡ none)
  pub emptied : T (read_number? a.number) → (a.state ≡ empty) × ((v : Vector) × (a.work ≡ some v))

refuse_fair : (lim : Limits) (n : ℕ) (X : State) → T (keeps? n) → Fair lim (refuse n X)
refuse_fair lim n X k = record { kept = λ h. (refl, refl, refl); emptied = λ h. absurd (never_both n h k) }

abbrev FairOrNone : Limits → Option Reply → Type 0
FairOrNone lim none = Unit {0}
FairOrNone lim (some a) = Fair lim a

settled_fair : (lim : Limits) (r : Result State) → Numbered read_number? r → FairOrNone lim (settled r)
settled_fair lim r gives = record { kept = λ h. absurd h; emptied = λ h. absurd h }
settled_fair lim r (refuses {number} h) = record { kept = λ k. absurd (never_both number h k); emptied = λ k. (refl, ([], refl)) }
settled_fair lim r (stops {value = v} h) = record { kept = λ k. absurd (never_both 9 h k); emptied = λ k. (refl, (v, refl)) }
settled_fair lim r open_yet = tt

limit_read : (n : ℕ) → T (limit_number? n) → T (read_number? n)
limit_read n h = go (between 1 n 9) (between 13 n 15) h
  where
    go : (b c : Bool) → T c → T (b || (c || added_number? n))
    go true c t = tt
    go false true t = tt
    go false false t = absurd t

read_fair : (lim : Limits) (n : ℕ) (X : State) (long : Bool) (file : Bytes) → FairOrNone lim (read_reply lim n X long file)
read_fair lim n X false file = refuse_fair lim 16 X tt
read_fair lim n X true file = settled_fair lim (read lim n file) (read_number lim n file)

lift_fair : (lim : Limits) (n : ℕ) (X : State) (long : Bool) (k : ℕ) (way : Lifting) → FairOrNone lim (lift_reply lim n X long k way)
lift_fair lim n X false k way = refuse_fair lim 16 X tt
lift_fair lim n X true k way = eleven (eleven? lim X k (k - 1))
  where
    twelve : (b : Bool) → FairOrNone lim (choose (not b) (some (refuse 12 X)) (settled (lift lim n X k way)))
    twelve false = refuse_fair lim 12 X tt
    twelve true = settled_fair lim (lift lim n X k way) (numbered_more limit_read (lift_number lim n X k way))

    eleven : (b : Bool) → FairOrNone lim (choose b (some (refuse 11 X))
        (choose (not (lifts? lim k way)) (some (refuse 12 X)) (settled (lift lim n X k way))))
    eleven true = refuse_fair lim 11 X tt
    eleven false = twelve (lifts? lim k way)

fetch_fair : (lim : Limits) (X : State) (long : Bool) (k v : ℕ) → Fair lim (fetch_reply lim X long k v)
fetch_fair lim X false k v = refuse_fair lim 16 X tt
fetch_fair lim X true k v = eleven (eleven? lim X k k)
  where
    twelve : (b : Bool) → Fair lim (choose (not b) (refuse 12 X) (fetch X k v))
    twelve false = refuse_fair lim 12 X tt
    twelve true = record { kept = λ h. absurd h; emptied = λ h. absurd h }

    eleven : (b : Bool) → Fair lim (choose b (refuse 11 X) (choose (not (fetches? lim X k v)) (refuse 12 X) (fetch X k v)))
    eleven true = refuse_fair lim 11 X tt
    eleven false = twelve (fetches? lim X k v)

-- ## The calls on buffers

some_is : {A : Type 0} {a b : A} → some a ≡ some b → a ≡ b
some_is e = some-injective _ _ e

none_is_not : {A : Type 0} {a : A} → ◌≡◌ {A = Option A} none (some a) → ⊥
none_is_not e = let z : ◌≡◌ {A = ℕ} 0 1 = cc in omega arith

-- what a reply tells of the buffers: `left` makes the buffers' contents of it
module _ {B : Type 0} (lim : Limits) (left : Reply → B) (b : B) where
  from_reply : (o : Option Reply) → FairOrNone lim o → (o then λ a. some (left a)) ≡ some b → (a : Reply) × Fair lim a × (o ≡ some a) × (left a ≡ b)
  from_reply none h e = absurd (none_is_not e)
  from_reply (some a) h e = (a, h, refl, some_is e)

-- 11, 12 and 16 change nothing
pub read_keeps : (lim : Limits) (n : ℕ) (file : Bytes) (state work : Words) (r : Read) → read_call lim n file state work ≡ some r → T (keeps? r.0)
    → r ≡ (r.0, 0, state, work)
read_keeps lim n file state work r e k =
    let X = meant lim state in
    let long = long_enough? lim division state work in
    let f = from_reply lim (read_left lim state work) r (read_reply lim n X long file) (read_fair lim n X long file) e in
    go f.0 f.1 f.3
  where
    go : (a : Reply) → Fair lim a → read_left lim state work a ≡ r → r ≡ (r.0, 0, state, work)
    go a h l =
        let t = h.kept (subst (λ (x : Read). T (keeps? x.0)) (sym l) k) in
        sym l ∙ (λ i. ((l i).0, t.0 i, state_after lim state a.state (t.1 i), rows_after work (t.1 i)))

pub lift_keeps : (lim : Limits) (n k : ℕ) (way : Way) (state work cache : Words) (r : Lift) → lift_call lim n k way state work cache ≡ some r
    → T (keeps? r.0) → r ≡ (r.0, 0, state, work, cache)
lift_keeps lim n k way state work cache r e q =
    let X = meant lim state in
    let long = long_enough? lim way state work in
    let f = from_reply lim (lift_left lim state work cache) r (lift_reply lim n X long k (lifting_by lim way work cache))
    (lift_fair lim n X long k (lifting_by lim way work cache)) e in
    go f.0 f.1 f.3
  where
    go : (a : Reply) → Fair lim a → lift_left lim state work cache a ≡ r → r ≡ (r.0, 0, state, work, cache)
    go a h l =
        let t = h.kept (subst (λ (x : Lift). T (keeps? x.0)) (sym l) q) in
        sym l ∙ (λ i. ((l i).0, t.0 i, state_after lim state a.state (t.1 i), rows_after work (t.1 i), cache_after cache (t.1 i)))

pub fetch_keeps : (lim : Limits) (k v : ℕ) (state out : Words) → T (keeps? (fetch_call lim k v state out).0) → fetch_call lim k v state out
    ≡ ((fetch_call lim k v state out).0, 0, out)
fetch_keeps lim k v state out q =
    let a = fetch_reply lim (meant lim state) (leb (state_words lim) (length state) and leb (out_words lim) (length out)) k v in
    let t = (fetch_fair lim (meant lim state) (leb (state_words lim) (length state) and leb (out_words lim) (length out)) k v).kept q in
    λ i. (a.number, t.0 i, rows_after out (t.2 i))

-- every other refusal leaves the state all zero
emptied_words : (lim : Limits) (state : Words) (a : Reply) → Fair lim a → state_words lim ≤ length state → T (read_number? a.number)
    → state_after lim state a.state a.work ≡ zeros state
emptied_words lim state a h l k =
    let t = h.emptied k in
    (λ i. state_after lim state (t.0 i) (t.1.1 i)) ∙ encode_empty lim (length state) l

pub read_empties : (lim : Limits) (n : ℕ) (file : Bytes) (state work : Words) (r : Read) → read_call lim n file state work ≡ some r
    → T (read_number? r.0) → r.2 ≡ zeros state
read_empties lim n file state work r e k = go (long_enough? lim division state work)
    (λ t. leb→le (state_words lim) (length state) (and_left (leb (state_words lim) (length state)) (leb (work_words lim division) (length work)) t)) e
  where
    go : (long : Bool) → (T long → state_words lim ≤ length state) → (read_reply lim n (meant lim state) long file
        then λ a. some (read_left lim state work a)) ≡ some r → r.2 ≡ zeros state
    go false l e = absurd (subst (λ (x : Read). T (read_number? x.0)) (sym (some_is e)) k)
    go true l e =
        let f = from_reply lim (read_left lim state work) r (settled (read lim n file)) (read_fair lim n (meant lim state) true file) e in
        ap (λ (x : Read). x.2) (sym f.3) ∙ emptied_words lim state f.0 f.1 (l tt)
        (subst (λ (x : Read). T (read_number? x.0)) (sym f.3) k)

pub lift_empties : (lim : Limits) (n k : ℕ) (way : Way) (state work cache : Words) (r : Lift) → lift_call lim n k way state work cache ≡ some r
    → T (read_number? r.0) → r.2 ≡ zeros state
lift_empties lim n k way state work cache r e q = go (long_enough? lim way state work)
    (λ t. leb→le (state_words lim) (length state) (and_left (leb (state_words lim) (length state)) (leb (work_words lim way) (length work)) t)) e
  where
    go : (long : Bool) → (T long → state_words lim ≤ length state) → (lift_reply lim n (meant lim state) long k (lifting_by lim way work cache)
        then λ a. some (lift_left lim state work cache a)) ≡ some r → r.2 ≡ zeros state
    go false l e = absurd (subst (λ (x : Lift). T (read_number? x.0)) (sym (some_is e)) q)
    go true l e =
        let f = from_reply lim (lift_left lim state work cache) r (lift_reply lim n (meant lim state) true k (lifting_by lim way work cache))
        (lift_fair lim n (meant lim state) true k (lifting_by lim way work cache)) e in
        ap (λ (x : Lift). x.2) (sym f.3) ∙ emptied_words lim state f.0 f.1 (l tt)
        (subst (λ (x : Lift). T (read_number? x.0)) (sym f.3) q)
