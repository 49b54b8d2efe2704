-- What the contracts of the calls give together: the definitions' list of calls, and with it the demands.
use Rattle.definitions.specs.Lifting.{by_tree}
use mathlib.Core.Path.{◌≡◌, refl, sym, ap, ◌∙◌, subst}
use mathlib.Core.Bool.{Bool, true, false}
use mathlib.Core.Option.{Option, some}
use mathlib.Core.List.{List, [], ◌∷◌}
use Prim.Native.Nat.{ℕ, ◌+◌}
use native.Mathlib.Nat.{add_comm}
use lib.Dec.{T}
use Rattle.definitions.specs.Limits.{document_01}
use Rattle.definitions.specs.Lists.{◌then◌}
use Rattle.definitions.specs.Monomial.{Level}
use Rattle.definitions.specs.Result.{Result, done}
use Rattle.definitions.specs.Problem.{Bytes, Parameters}
use Rattle.definitions.specs.State.{State, sound?}
use Rattle.definitions.specs.Calls.{settled, read_reply, lift}
use Rattle.definitions.specs.Reckoning.{nothing, reckon_all}
use Rattle.definitions.specs.Layout.{Words, meant, division, long_enough?, Read, read_left, Lift, Lent, read_with, lift_with, fetch_with, Left, lent_call}
use Rattle.definitions.specs.Layout.{lent_calls}
use Rattle.laws.proofs.Steady.{answered?, steady_from}
use Rattle.laws.proofs.Bound.{lent_call_steady, lent_calls_steady}
use Rattle.files.specs.Files.{WellFormedFile}
use Rattle.demands.specs.Demands as demands
use Rattle.demands.specs.Demands.{Starts, numbered, left_by, Leaves, FetchesRight, ReadRight}
use Rattle.demands.proofs.Results as results
use Rattle.demands.proofs.Results.{Holds, holds, holds_at}
use Rattle.demands.proofs.Demand1.{demand_1_of_document_01}
use Rattle.demands.proofs.Demand2.{demand_2_of_document_01}
use Rattle.demands.proofs.Demand3.{demand_3_of_document_01}
use Rattle.calls.specs.Made.{Told, Made, Decides, accepted, no_basis, limited, too_short}

answered : {A : Type 0} (x : Option A) (a : A) → x ≡ some a → T (answered? x)
answered x a e = subst (λ z. T (answered? z)) (sym e) tt

one_call : (state : Words) (c : Lent) (a : Left) → Told state c a → (n : ℕ) × (lent_call document_01 n state c ≡ some a)
one_call state (read_with file work) a t = (
  t.1.0,
  ap (λ x. x then λ (r : Read). some (record { number = r.0; place = r.1; state = r.2; out = [] })) (sym t.1.1)
      ∙ ap (λ z. some (record { number = a.number; place = a.place; state = a.state; out = z })) (sym t.2),
)
one_call state (lift_with k way work cache) a t = (
  t.2.0,
  ap (λ x. x then λ (r : Lift). some (record { number = r.0; place = r.1; state = r.2; out = [] })) (sym t.2.1)
      ∙ ap (λ z. some (record { number = a.number; place = a.place; state = a.state; out = z })) (sym t.3),
)
one_call state (fetch_with k v out) a t = (
  0,
  ap (λ r. some (record { number = r.0; place = r.1; state = state; out = r.2 })) (sym t.0)
      ∙ ap (λ z. some (record { number = a.number; place = a.place; state = z; out = a.out })) (sym t.1),
)

-- the bounds of the calls together suffice for all
pub all_calls : (state : Words) (cs : List Lent) (ls : List Left) → Made state cs ls → (n : ℕ) × (lent_calls document_01 n state cs ≡ some ls)
all_calls state [] [] t = (0, refl)
all_calls state [] (a ∷ ls) t = absurd t
all_calls state (c ∷ cs) [] t = absurd t
all_calls state (c ∷ cs) (a ∷ ls) t =
    let x : (n : ℕ) × (lent_call document_01 n state c ≡ some a) = one_call state c a t.0 in
    let y : (n : ℕ) × (lent_calls document_01 n a.state cs ≡ some ls) = all_calls a.state cs ls t.1 in
    let e : lent_call document_01 (x.0 + y.0) state c ≡ some a =
    steady_from answered? (λ n. lent_call document_01 n state c) (lent_call_steady document_01 state c) x.0 y.0
    (answered (lent_call document_01 x.0 state c) a x.1) ∙ x.1 in
    let f : lent_calls document_01 (x.0 + y.0) a.state cs ≡ some ls =
    ap (λ n. lent_calls document_01 n a.state cs) (add_comm x.0 y.0)
    ∙ steady_from answered? (λ n. lent_calls document_01 n a.state cs) (lent_calls_steady document_01 a.state cs) y.0 x.0
    (answered (lent_calls document_01 y.0 a.state cs) ls y.1) ∙ y.1 in (
      x.0 + y.0,
      ap (λ z. z then λ b. lent_calls document_01 (x.0 + y.0) b.state cs then λ lefts. some (b ∷ lefts)) e
          ∙ ap (λ z. z then λ lefts. some (a ∷ lefts)) f,
    )

-- Demand 1: two runs of one program on the same contents have the same answers
pub one_answer : (state : Words) (cs : List Lent) (ls ls' : List Left) → Made state cs ls → Made state cs ls' → ls ≡ ls'
one_answer state cs ls ls' t t' =
    let x : (n : ℕ) × (lent_calls document_01 n state cs ≡ some ls) = all_calls state cs ls t in
    let y : (n : ℕ) × (lent_calls document_01 n state cs ≡ some ls') = all_calls state cs ls' t' in
    demand_1_of_document_01.one_answer x.0 y.0 state cs ls ls' x.1 y.1

-- Demand 2: reading accepts exactly the Gröbner bases, where no limit is met
pub read_decides : (state : Words) (file : Bytes) (work : Words) (a : Left) (q : Parameters) (f : Level) → Told state (read_with file work) a
    → WellFormedFile document_01 file q f → Decides q f a.number
read_decides state file work a q f t e = holds_at (sym t.1.1) (go (long_enough? document_01 division state work))
  where
    settles : {x : Result State} → ReadRight document_01 q f x
        → Holds (λ (r : Read). Decides q f r.0) (settled x then λ y. some (read_left document_01 state work y))
    settles (demands.ReadRight.accepts gb) = holds (accepted gb)
    settles (demands.ReadRight.limited l) = holds (limited l)
    settles (demands.ReadRight.stopped {value = value} i w) = holds (no_basis (demand_2_of_document_01.shows q f value w))
    settles demands.ReadRight.open_yet = results.nothing

    go : (b : Bool)
        → Holds (λ (r : Read). Decides q f r.0)
        (read_reply document_01 t.1.0 (meant document_01 state) b file then λ y. some (read_left document_01 state work y))
    go true = settles (demand_2_of_document_01.reading t.1.0 file q f e)
    go false = holds too_short

-- Demand 3: what the calls left is the reckoning's, and each fetch gave its vector
pub made_right : (state : Words) (cs : List Lent) (ls : List Left) → Made state cs ls → Starts state cs ls
    → Leaves document_01 (reckon_all document_01 nothing (numbered document_01 cs ls)) (left_by state ls) × FetchesRight document_01 nothing cs ls
made_right state cs ls t s =
    let x : (n : ℕ) × (lent_calls document_01 n state cs ≡ some ls) = all_calls state cs ls t in
    demand_3_of_document_01.calls x.0 state cs ls x.1 s

-- ## The tree's cache

-- "the cache's length changes no vector": two liftings of a level by the tree, with any two caches, leave the same state wherever neither is refused
pub any_cache : (n m : ℕ) (X : State) (k room room' : ℕ) (Y Y' : State) → T (sound? document_01 X)
    → lift document_01 n X k (by_tree room) ≡ done Y → lift document_01 m X k (by_tree room') ≡ done Y' → Y ≡ Y'
any_cache n m X k room room' Y Y' = demand_3_of_document_01.ways_agree n m X k (by_tree room) (by_tree room') Y Y'
