-- The lines of all columns: what they say, in their order, and their sums.
use mathlib.Core.Path.{◌≡◌, refl, sym, ap, ◌∙◌, subst}
use mathlib.Core.Logic.{inl, inr}
use mathlib.Core.Bool.{Bool, true, false}
use mathlib.Core.List.{List, [], ◌∷◌, ◌++◌, append_assoc}
use Prim.Native.Nat.{ℕ, zero, suc, ◌+◌, ◌<◌, ◌≤◌}
use native.Mathlib.Omega.{arith}
use lib.Dec.{T, eqb, eqb→eq, eqb_refl}
use lib.ListN.{length, get_or}
use Rattle.definitions.specs.Lists.{◌and◌, those, count, map, sum}
use Rattle.definitions.specs.Problem.{Bytes}
use Rattle.definitions.specs.Bidegrees.{Bidegree, same_bidegree?, occurring, b_line, b_lines, column_lines}
use Rattle.laws.proofs.Tests.{true_is, false_is}
use Rattle.laws.proofs.Members.{All, all_map, all_append}
use Rattle.demands.specs.Notions.{Member}
use Rattle.bigraded.specs.Notions.{Entry, entry, entry_line, entry_lines, Below, Earlier, Ascending, amount}
use Rattle.bigraded.proofs.Occurring
use Rattle.bigraded.proofs.Occurring.{same_says, occurring_ascends, all_occur, each_listed, listed_sum}

-- ## The lines as bytes

abbrev pub entry_of : ℕ → List Bidegree → Bidegree → Entry
entry_of c all x = entry c x (count (same_bidegree? x) all)

-- of the columns from column c on
abbrev pub all_entries : ℕ → List (List Bidegree) → List Entry
all_entries c [] = []
all_entries c (all ∷ later) = map (entry_of c all) (occurring all) ++ all_entries (suc c) later

lines_append : (l m : List Entry) → entry_lines (l ++ m) ≡ entry_lines l ++ entry_lines m
lines_append [] m = refl
lines_append (e ∷ l) m = ap (λ (b : Bytes). entry_line e ++ b) (lines_append l m) ∙ sym (append_assoc (entry_line e) (entry_lines l) (entry_lines m))

column_text : (c : ℕ) (all l : List Bidegree) → b_lines c all l ≡ entry_lines (map (entry_of c all) l)
column_text c all [] = refl
column_text c all (x ∷ l) = ap (λ (b : Bytes). b_line c all x ++ b) (column_text c all l)

pub text : (c : ℕ) (cs : List (List Bidegree)) → column_lines c cs ≡ entry_lines (all_entries c cs)
text c [] = refl
text c (all ∷ later) =
    (λ i. column_text c all (occurring all) i ++ text (suc c) later i) ∙ sym (lines_append (map (entry_of c all) (occurring all)) (all_entries (suc c) later))

-- ## What each says

pub all_mapped : {A B : Type 0} (P : B → Type 0) (g : A → B) (l : List A) → All (λ a. P (g a)) l → All P (map g l)
all_mapped P g [] h = tt
all_mapped P g (a ∷ l) h = (h.0, all_mapped P g l h.1)

-- an entry of a column, not zero, with its count
pub record Right (c : ℕ) (cs : List (List Bidegree)) (e : Entry) : Type 0 where
  pub past : ℕ
  pub is : e.column ≡ c + past
  pub inside : past < length cs
  pub counts : e.many ≡ count (same_bidegree? (e.first, e.second)) (get_or cs past [])
  pub non_zero : 1 ≤ e.many

pub all_right : (c : ℕ) (cs : List (List Bidegree)) → All (Right c cs) (all_entries c cs)
all_right c [] = tt
all_right c (all ∷ later) =
    all_append (Right c (all ∷ later)) (map (entry_of c all) (occurring all)) (all_entries (suc c) later)
    (all_mapped (Right c (all ∷ later)) (entry_of c all) (occurring all)
    (all_map (λ x. 1 ≤ count (same_bidegree? x) all) (λ x. Right c (all ∷ later) (entry_of c all x))
    (λ x h. record { past = 0; is = omega arith; inside = omega arith; counts = refl; non_zero = h }) (occurring all) (all_occur all)))
    (all_map (Right (suc c) later) (Right c (all ∷ later)) (λ e r. record {
      past = suc r.past;
      is = let i = r.is in omega (arith, i);
      inside = let i = r.inside in omega (arith, i);
      counts = r.counts;
      non_zero = r.non_zero;
    }) (all_entries (suc c) later) (all_right (suc c) later))

-- ## Ascending

ascending_append : (l m : List Entry) → Ascending l → Ascending m → All (λ e. All (Earlier e) m) l → Ascending (l ++ m)
ascending_append [] m h k o = k
ascending_append (e ∷ l) m h k o = (all_append (Earlier e) l m h.0 o.0, ascending_append l m h.1 k o.1)

column_ascending : (c : ℕ) (all l : List Bidegree) → Occurring.Ascending l → Ascending (map (entry_of c all) l)
column_ascending c all [] h = tt
column_ascending c all (x ∷ l) h = (
  all_mapped (Earlier (entry_of c all x)) (entry_of c all) l
      (all_map (Below x) (λ y. Earlier (entry_of c all x) (entry_of c all y)) (λ y b. inr (refl, b)) l h.0),
  column_ascending c all l h.1,
)

all_of : {A : Type 0} (P : A → Type 0) → ((a : A) → P a) → (l : List A) → All P l
all_of P h [] = tt
all_of P h (a ∷ l) = (h a, all_of P h l)

pub ascending : (c : ℕ) (cs : List (List Bidegree)) → Ascending (all_entries c cs)
ascending c [] = tt
ascending c (all ∷ later) =
    ascending_append (map (entry_of c all) (occurring all)) (all_entries (suc c) later) (column_ascending c all (occurring all) (occurring_ascends all))
    (ascending (suc c) later)
    (all_mapped (λ e. All (Earlier e) (all_entries (suc c) later)) (entry_of c all) (occurring all)
    (all_of (λ x. All (Earlier (entry_of c all x)) (all_entries (suc c) later)) (λ x.
    all_map (Right (suc c) later) (Earlier (entry_of c all x)) (λ e r. inl (let i = r.is in omega (arith, i))) (all_entries (suc c) later)
    (all_right (suc c) later)) (occurring all)))

-- ## Complete

member_left : {A : Type 0} (a : A) (l m : List A) → Member a l → Member a (l ++ m)
member_left a [] m h = absurd h
member_left a (b ∷ l) m (inl e) = inl e
member_left a (b ∷ l) m (inr h) = inr (member_left a l m h)

member_right : {A : Type 0} (a : A) (l m : List A) → Member a m → Member a (l ++ m)
member_right a [] m h = h
member_right a (b ∷ l) m h = inr (member_right a l m h)

member_map : {A B : Type 0} (g : A → B) (a : A) (l : List A) → Member a l → Member (g a) (map g l)
member_map g a [] h = absurd h
member_map g a (b ∷ l) (inl e) = inl (ap g e)
member_map g a (b ∷ l) (inr h) = inr (member_map g a l h)

-- a bidegree that is counted occurs
counted_occurs : (x : Bidegree) (all : List Bidegree) → 1 ≤ count (same_bidegree? x) all → Member x (occurring all)
counted_occurs x all h = go all h (each_listed all)
  where
    go : (l : List Bidegree) → 1 ≤ count (same_bidegree? x) l → All (λ y. Member y (occurring all)) l → Member x (occurring all)
    go [] h k = absurd (omega arith)
    go (y ∷ l) h k = at (same_bidegree? x y) (same_says x y) h (λ n. go l n k.1)
      where
        at : (b : Bool) → (T b → x ≡ y) → 1 ≤ elim b [ true ↦ suc (count (same_bidegree? x) l) | false ↦ count (same_bidegree? x) l ]
            → (1 ≤ count (same_bidegree? x) l → Member x (occurring all)) → Member x (occurring all)
        at true s n ih = subst (λ z. Member z (occurring all)) (sym (s tt)) k.0
        at false s n ih = ih n

pub complete : (c : ℕ) (cs : List (List Bidegree)) (k j : ℕ) → k ≡ c + j → (x : Bidegree) → 1 ≤ count (same_bidegree? x) (get_or cs j [])
    → Member (entry k x (count (same_bidegree? x) (get_or cs j []))) (all_entries c cs)
complete c [] k j e x h = absurd (omega arith)
complete c (all ∷ later) k zero e x h =
    member_left (entry k x (count (same_bidegree? x) all)) (map (entry_of c all) (occurring all)) (all_entries (suc c) later)
    (subst (λ i. Member (entry i x (count (same_bidegree? x) all)) (map (entry_of c all) (occurring all))) (let z : c ≡ k = omega (arith, e) in z)
    (member_map (entry_of c all) x (occurring all) (counted_occurs x all h)))
complete c (all ∷ later) k (suc j) e x h =
    member_right (entry k x (count (same_bidegree? x) (get_or later j []))) (map (entry_of c all) (occurring all)) (all_entries (suc c) later)
    (complete (suc c) later k j (omega (arith, e)) x h)

-- ## Sums

pub those_same : {A : Type 0} (P Q : A → Bool) → ((a : A) → P a ≡ Q a) → (l : List A) → those P l ≡ those Q l
those_same P Q h [] = refl
those_same P Q h (a ∷ l) = λ i. elim (h a i) [ true ↦ a ∷ those_same P Q h l i | false ↦ those_same P Q h l i ]

those_none : {A : Type 0} (l : List A) → those (λ a. false) l ≡ []
those_none [] = refl
those_none (a ∷ l) = those_none l

-- the counts of the entries that pass a test
abbrev tally : (Entry → Bool) → List Entry → ℕ
tally P es = amount (those P es)

tally_append : (P : Entry → Bool) (l m : List Entry) → tally P (l ++ m) ≡ tally P l + tally P m
tally_append P [] m = omega arith
tally_append P (e ∷ l) m = go (P e) (tally_append P l m)
  where
    go : (b : Bool) → tally P (l ++ m) ≡ tally P l + tally P m
        → amount (elim b [ true ↦ e ∷ those P (l ++ m) | false ↦ those P (l ++ m) ])
        ≡ amount (elim b [ true ↦ e ∷ those P l | false ↦ those P l ]) + tally P m
    go true i = omega (arith, i)
    go false i = i

module _ (R : Bidegree → Bool) where
  -- the test of an entry: its column, and its bidegree's
  abbrev passes : ℕ → Entry → Bool
  passes k e = eqb e.column k and R (e.first, e.second)

  tally_column : (k c : ℕ) (all l : List Bidegree)
      → tally (passes k) (map (entry_of c all) l) ≡ sum (map (λ x. count (same_bidegree? x) all) (those (λ x. eqb c k and R x) l))
  tally_column k c all [] = refl
  tally_column k c all (x ∷ l) = go (eqb c k and R x) (tally_column k c all l)
    where
      go : (b : Bool) → tally (passes k) (map (entry_of c all) l) ≡ sum (map (λ x. count (same_bidegree? x) all) (those (λ x. eqb c k and R x) l))
          → amount (elim b [ true ↦ entry_of c all x ∷ those (passes k) (map (entry_of c all) l) | false ↦ those (passes k) (map (entry_of c all) l) ])
          ≡ sum (map (λ x. count (same_bidegree? x) all) (elim b [ true ↦ x ∷ those (λ x. eqb c k and R x) l | false ↦ those (λ x. eqb c k and R x) l ]))
      go true i = ap (λ n. count (same_bidegree? x) all + n) i
      go false i = i

  -- of the column itself
  tally_here : (k c : ℕ) → k ≡ c → (all : List Bidegree) → tally (passes k) (map (entry_of c all) (occurring all)) ≡ count R all
  tally_here k c e all =
      tally_column k c all (occurring all)
      ∙ ap (λ b. sum (map (λ x. count (same_bidegree? x) all) (those (λ x. b and R x) (occurring all))))
      (true_is (eqb c k) (subst (λ z. T (eqb z k)) e (eqb_refl k)))
      ∙ listed_sum R all

  -- of another one
  tally_other : (k c : ℕ) → ¬ (c ≡ k) → (all : List Bidegree) → tally (passes k) (map (entry_of c all) (occurring all)) ≡ 0
  tally_other k c n all =
      tally_column k c all (occurring all)
      ∙ ap (λ b. sum (map (λ x. count (same_bidegree? x) all) (those (λ x. b and R x) (occurring all)))) (false_is (eqb c k) (λ t. n (eqb→eq c k t)))
      ∙ ap (λ l. sum (map (λ x. count (same_bidegree? x) all) l)) (those_none (occurring all))

  tally_later : (k c : ℕ) (cs : List (List Bidegree)) → k < c → tally (passes k) (all_entries c cs) ≡ 0
  tally_later k c [] h = refl
  tally_later k c (all ∷ later) h =
      let a = tally_append (passes k) (map (entry_of c all) (occurring all)) (all_entries (suc c) later) in
      let b = tally_other k c (λ e. omega (arith, e, h)) all in
      let r = tally_later k (suc c) later (omega arith) in
      omega (arith, a, b, r)

  pub tally_is : (c : ℕ) (cs : List (List Bidegree)) (k j : ℕ) → k ≡ c + j → tally (passes k) (all_entries c cs) ≡ count R (get_or cs j [])
  tally_is c [] k j e = refl
  tally_is c (all ∷ later) k zero e =
      let i : k ≡ c = omega (arith, e) in
      let a = tally_append (passes k) (map (entry_of c all) (occurring all)) (all_entries (suc c) later) in
      let b = tally_here k c i all in
      let r = tally_later k (suc c) later (omega (arith, i)) in
      omega (arith, a, b, r)
  tally_is c (all ∷ later) k (suc j) e =
      let a = tally_append (passes k) (map (entry_of c all) (occurring all)) (all_entries (suc c) later) in
      let b = tally_other k c (λ i. omega (arith, e, i)) all in
      let r = tally_is (suc c) later k j (omega (arith, e)) in
      omega (arith, a, b, r)
