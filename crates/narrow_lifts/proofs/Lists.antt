-- Lists of calls: with no less room lent to hybrid in each call the answers are the same.
use mathlib.Core.Path.{◌≡◌, refl, sym, ap, ◌∙◌, subst}
use mathlib.Core.Option.{Option, none, some, some-injective, none-ne-some}
use mathlib.Core.List.{List, [], ◌∷◌}
use Prim.Native.Nat.{ℕ}
use Rattle.definitions.specs.Limits.{Limits}
use Rattle.definitions.specs.Lists.{◌then◌}
use Rattle.definitions.specs.Layout.{Words, hybrid, Lift, lift_call, Lent, Left, lent_call, lent_calls}
use Rattle.narrow_lifts.specs.Rooms.{SameAnswer, Roomier, as_it_was, wider, AllRoomier}
use Rattle.narrow_lifts.proofs.Calls.{called}

module _ (lim : Limits) (n : ℕ) where
  -- ## One call

  -- what a lifting leaves for the next call
  abbrev left : Lift → Left
  left a = record { number = a.0; place = a.1; state = a.2; out = [] }

  lifted : (o : Option Lift) (a : Left) → (o then λ r. some (left r)) ≡ some a → (r : Lift) × (o ≡ some r) × (left r ≡ a)
  lifted none a e = absurd (none-ne-some a e)
  lifted (some r) a e = (r, refl, some-injective _ _ e)

  left_same : (a b : Lift) → SameAnswer a b → left b ≡ left a
  left_same a b s = λ i. record { number = s.number i; place = s.place i; state = s.state i; out = [] }

  call_same : (state : Words) (c c' : Lent) (a : Left) → Roomier lim c c' a → lent_call lim n state c ≡ some a → lent_call lim n state c' ≡ some a
  call_same state c c' a as_it_was e = e
  call_same state c c' a (wider {k} {pick} {work} {work'} {cache} {cache'} h l z) e =
      let r = lifted (lift_call lim n k (hybrid pick) state work cache) a e in
      let b = called lim n k pick state work work' cache cache' r.0 h l r.1 (λ s. z (sym (ap (λ (x : Left). x.number) r.2) ∙ s)) in
      ap (λ (o : Option Lift). o then λ x. some (left x)) b.1 ∙ ap some (left_same r.0 b.0 b.2 ∙ r.2)

  -- ## Lists

  -- the answers of a list that has answers: the first call's, and those of the others
  pub record Answers (o : Option Left) (cs : List Lent) (a : Left) (ls : List Left) : Type 0 where
    pub first : o ≡ some a
    pub others : lent_calls lim n a.state cs ≡ some ls

  abbrev with_others : List Lent → Option Left → Option (List Left)
  with_others cs o = o then λ a. lent_calls lim n a.state cs then λ lefts. some (a ∷ lefts)

  behind : (a : Left) (o : Option (List Left)) (ls : List Left) → (o then λ lefts. some (a ∷ lefts)) ≡ some ls
      → (lefts : List Left) × (o ≡ some lefts) × (a ∷ lefts ≡ ls)
  behind a none ls e = absurd (none-ne-some ls e)
  behind a (some lefts) ls e = (lefts, refl, some-injective _ _ e)

  abbrev head : Left → List Left → Left
  head a [] = a
  head a (b ∷ ls) = b

  abbrev tail : List Left → List Left
  tail [] = []
  tail (b ∷ ls) = ls

  answers : (cs : List Lent) (o : Option Left) (a : Left) (ls : List Left) → with_others cs o ≡ some (a ∷ ls) → Answers o cs a ls
  answers cs none a ls e = absurd (none-ne-some (a ∷ ls) e)
  answers cs (some b) a ls e =
      let r = behind b (lent_calls lim n b.state cs) (a ∷ ls) e in
      let i : b ≡ a = ap (head b) r.2 in
      record { first = ap some i; others = subst (λ (x : Left). lent_calls lim n x.state cs ≡ some ls) i (r.1 ∙ ap some (ap tail r.2)) }

  pub lists : (state : Words) (cs cs' : List Lent) (ls : List Left) → lent_calls lim n state cs ≡ some ls → AllRoomier lim cs cs' ls
      → lent_calls lim n state cs' ≡ some ls
  lists state [] [] [] e r = e
  lists state [] [] (a ∷ ls) e r = absurd r
  lists state [] (c' ∷ cs') ls e r = absurd r
  lists state (c ∷ cs) [] ls e r = absurd r
  lists state (c ∷ cs) (c' ∷ cs') [] e r = absurd r
  lists state (c ∷ cs) (c' ∷ cs') (a ∷ ls) e r =
      let s = answers cs (lent_call lim n state c) a ls e in
      ap (with_others cs') (call_same state c c' a r.0 s.first)
      ∙ ap (λ (o : Option (List Left)). o then λ lefts. some (a ∷ lefts)) (lists a.state cs cs' ls s.others r.1)
