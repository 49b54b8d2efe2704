-- What a result says of its value, and of its refusal. Steps one after the other pass it on, with no equation carried along.
use mathlib.Core.Path.{◌≡◌, refl, sym, ap, ◌∙◌, subst}
use mathlib.Core.Option.{Option, none, some, some-injective, none-ne-some}
use mathlib.Core.List.{[]}
use Prim.Native.Nat.{ℕ, zero, suc, ◌+◌, ◌≤◌}
use native.Mathlib.Omega.{arith}
use lib.Dec.{T}
use Rattle.definitions.specs.Lists.{◌then◌, between}
use Rattle.definitions.specs.Monomial.{Vector}
use Rattle.definitions.specs.Result.{Result, done, refused, unfinished, ◌>>=◌}

-- ## Results

-- a value has P, a refusal's number and value have R
pub data Ends {A : Type 0} (P : A → Type 0) (R : ℕ → Vector → Type 0) : Result A → Type 0 where
  gives : {a : A} → P a → Ends P R (done a)
  refuses : {number place : ℕ} {value : Vector} → R number value → Ends P R (refused number place value)
  open_yet : Ends P R unfinished

-- how a run is refused: a limit is met, and no value is left; or 9, with a value that has X
pub data Refusal (X : Vector → Type 0) : ℕ → Vector → Type 0 where
  limit : {number : ℕ} → T (between 13 number 15) → Refusal X number []
  nine : {value : Vector} → X value → Refusal X 9 value

pub refusal_map : {X Y : Vector → Type 0} → ((value : Vector) → X value → Y value) → (number : ℕ) (value : Vector) → Refusal X number value
    → Refusal Y number value
refusal_map h number value (limit t) = limit t
refusal_map h number value (nine x) = nine (h value x)

-- nothing is said of a refusal
abbrev pub Any : ℕ → Vector → Type 0
Any number value = Unit {0}

abbrev pub Gives : {A : Type 0} → (A → Type 0) → Result A → Type 0
Gives P r = Ends P Any r

pub ends_then : {A B : Type 0} {P : A → Type 0} {Q : B → Type 0} {R : ℕ → Vector → Type 0} {x : Result A} {f : A → Result B}
    → Ends P R x → ((a : A) → P a → Ends Q R (f a)) → Ends Q R (x >>= f)
ends_then (gives {a} p) k = k a p
ends_then (refuses r) k = refuses r
ends_then open_yet k = open_yet

pub ends_map : {A : Type 0} {P Q : A → Type 0} {R : ℕ → Vector → Type 0} {x : Result A} → ((a : A) → P a → Q a) → Ends P R x → Ends Q R x
ends_map h (gives {a} p) = gives (h a p)
ends_map h (refuses r) = refuses r
ends_map h open_yet = open_yet

pub ends_turn : {A : Type 0} {P Q : A → Type 0} {R U : ℕ → Vector → Type 0} {x : Result A}
    → ((a : A) → P a → Q a) → ((number : ℕ) (value : Vector) → R number value → U number value) → Ends P R x → Ends Q U x
ends_turn h k (gives {a} p) = gives (h a p)
ends_turn h k (refuses {number} {value = value} r) = refuses (k number value r)
ends_turn h k open_yet = open_yet

pub ends_done : {A : Type 0} {P : A → Type 0} {R : ℕ → Vector → Type 0} {a : A} → Ends P R (done a) → P a
ends_done (gives p) = p

pub ends_refused : {A : Type 0} {P : A → Type 0} {R : ℕ → Vector → Type 0} {number place : ℕ} {value : Vector} → Ends P R (refused number place value)
    → R number value
ends_refused (refuses r) = r

-- two claims of one result
pub ends_both : {A : Type 0} {P Q X : A → Type 0} {R U : ℕ → Vector → Type 0} {x : Result A} → ((a : A) → P a → Q a → X a) → Ends P R x → Ends Q U x
    → Ends X R x
ends_both h (gives {a} p) k = gives (h a p (ends_done k))
ends_both h (refuses r) k = refuses r
ends_both h open_yet k = open_yet

-- two claims of one refusal
pub ends_refusals : {A : Type 0} {P Q : A → Type 0} {R U X : ℕ → Vector → Type 0} {x : Result A}
    → ((number : ℕ) (value : Vector) → R number value → U number value → X number value)
    → Ends P R x → Ends Q U x → Ends P X x
ends_refusals h (gives p) k = gives p
ends_refusals h (refuses {number} {value = value} r) k = refuses (h number value r (ends_refused k))
ends_refusals h open_yet k = open_yet

pub ends_at : {A : Type 0} {P : A → Type 0} {R : ℕ → Vector → Type 0} {x : Result A} {a : A} → x ≡ done a → Ends P R x → P a
ends_at {P = P} {R} e h = ends_done (subst (Ends P R) e h)

-- ## Optional values

pub data Holds {A : Type 0} (P : A → Type 0) : Option A → Type 0 where
  holds : {a : A} → P a → Holds P (some a)
  nothing : Holds P none

pub holds_then : {A B : Type 0} {P : A → Type 0} {Q : B → Type 0} {x : Option A} {f : A → Option B}
    → Holds P x → ((a : A) → P a → Holds Q (f a)) → Holds Q (x then f)
holds_then (holds {a} p) k = k a p
holds_then nothing k = nothing

pub holds_some : {A : Type 0} {P : A → Type 0} {a : A} → Holds P (some a) → P a
holds_some (holds p) = p

pub holds_map : {A : Type 0} {P Q : A → Type 0} {x : Option A} → ((a : A) → P a → Q a) → Holds P x → Holds Q x
holds_map h (holds {a} p) = holds (h a p)
holds_map h nothing = nothing

-- what holds under a hypothesis
pub holds_given : {A X : Type 0} {P : A → Type 0} (x : Option A) → (X → Holds P x) → Holds (λ a. X → P a) x
holds_given none h = nothing
holds_given (some a) h = holds (λ y. holds_some (h y))

pub holds_at : {A : Type 0} {P : A → Type 0} {x : Option A} {a : A} → x ≡ some a → Holds P x → P a
holds_at {P = P} e h = holds_some (subst (Holds P) e h)

-- ## Bounded functions: a larger bound changes no value, and some bound is enough

-- y has the value of x, if x has one
pub data Upto {A : Type 0} : Option A → Option A → Type 0 where
  unknown : {y : Option A} → Upto none y
  known : {a : A} → Upto (some a) (some a)

pub upto_refl : {A : Type 0} (x : Option A) → Upto x x
upto_refl none = unknown
upto_refl (some a) = known

pub upto_then : {A B : Type 0} {x y : Option A} {f g : A → Option B} → Upto x y → ((a : A) → Upto (f a) (g a)) → Upto (x then f) (y then g)
upto_then unknown k = unknown
upto_then (known {a}) k = k a

pub upto_trans : {A : Type 0} {x y z : Option A} → Upto x y → Upto y z → Upto x z
upto_trans unknown h = unknown
upto_trans known h = h

upto_some : {A : Type 0} {x y : Option A} → Upto x y → (a : A) → x ≡ some a → y ≡ some a
upto_some unknown a e = absurd (none-ne-some a e)
upto_some known a e = e

pub upto_at : {A : Type 0} {x y : Option A} {a : A} → Upto x y → x ≡ some a → y ≡ some a
upto_at {a = a} h e = upto_some h a e

-- one more step for each bound: any larger bound
pub upto_more : {A : Type 0} (F : ℕ → Option A) → ((n : ℕ) → Upto (F n) (F (suc n))) → (k n : ℕ) → Upto (F n) (F (k + n))
upto_more F h zero n = let e : n ≡ 0 + n = omega arith in subst (λ z. Upto (F n) (F z)) e (upto_refl (F n))
upto_more F h (suc k) n = let e : suc (k + n) ≡ suc k + n = omega arith in subst (λ z. Upto (F n) (F z)) e (upto_trans (upto_more F h k n) (h (k + n)))

pub some_is : {A : Type 0} {a b : A} → some a ≡ some b → a ≡ b
some_is e = some-injective _ _ e

-- two bounds that are enough give one value
pub upto_one : {A : Type 0} (F : ℕ → Option A) → ((n : ℕ) → Upto (F n) (F (suc n))) → (n m : ℕ) (a b : A) → F n ≡ some a → F m ≡ some b → a ≡ b
upto_one F h n m a b x y =
    let c : n + m ≡ m + n = omega arith in
    some_is (sym (upto_at (upto_more F h m n) x) ∙ ap F (sym c) ∙ upto_at (upto_more F h n m) y)

-- from some bound on the value is there
pub record Reached {A : Type 0} (F : ℕ → Option A) : Type 0 where
  pub bound : ℕ
  pub value : A
  pub from : (k : ℕ) → bound ≤ k → F k ≡ some value

pub reached_at : {A : Type 0} (F : ℕ → Option A) → (r : Reached F) → F r.bound ≡ some r.value
reached_at F r = r.from r.bound (omega arith)

pub reached_some : {A : Type 0} (a : A) → Reached (λ k. some a)
reached_some a = record { bound = 0; value = a; from = λ k l. refl }

pub reached_then : {A B : Type 0} (F : ℕ → Option A) (G : ℕ → A → Option B) → Reached F → ((a : A) → Reached (λ k. G k a)) → Reached (λ k. F k then G k)
reached_then F G r h =
    let s = h r.value in
    record {
      bound = r.bound + s.bound;
      value = s.value;
      from = λ k l. ap (λ x. x then G k) (r.from k (omega arith)) ∙ s.from k (omega arith);
    }

-- a function that goes one deeper
pub reached_deeper : {A : Type 0} (F : ℕ → Option A) → Reached (λ k. F (suc k)) → Reached F
reached_deeper F r = record { bound = suc r.bound; value = r.value; from = go }
  where
    go : (k : ℕ) → suc r.bound ≤ k → F k ≡ some r.value
    go zero l = absurd (omega arith)
    go (suc k) l = r.from k (omega arith)
