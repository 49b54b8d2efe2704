-- The frame of a finite family as a list: for each i the minimal generators of (LM f_0 .. LM f_{i-1}) : LM f_i, ascending, numbered by i.
-- And the reducer by search.
use Rattle.std.proofs.Math.Option.{Option, none, some}
use Rattle.std.specs.Prelude.{Bool, true, false, ◌||◌, List, [], ◌∷◌, ◌++◌, ℕ, zero, suc}
use Rattle.theory.specs.Laws.{Monoid, Level}
use Rattle.theory.specs.Division.{Division, Divided}

abbrev pub is_some : {A : Type 0} → Option A → Bool
is_some none = false
is_some (some a) = true

abbrev pub first : {A : Type 0} → Option A → Option A → Option A
first (some x) y = some x
first none y = y

abbrev pub numbered : {A : Type 0} → ℕ → Option A → Option (A × ℕ)
numbered j none = none
numbered j (some m) = some (m, j)

abbrev pub maybe : {A : Type 0} → Option A → List A → List A
maybe none l = l
maybe (some a) l = a ∷ l

module _ {M : Monoid} (L : Level M) (Q : Divided L) (lm : ℕ → L.B) where
  open M use {E}

  -- the lowest j below r whose leading monomial divides b, with the quotient
  abbrev pub find : ℕ → L.B → Option (E × ℕ)
  find zero b = none
  find (suc j) b = first (find j b) (numbered j (Q.quotL (lm j) b))

  -- the generators of (LM f_0 .. LM f_{j-1}) : LM f_i
  abbrev pub gens : ℕ → ℕ → List E
  gens i zero = []
  gens i (suc j) = maybe (Q.colonL (lm j) (lm i)) (gens i j)

module _ {M : Monoid} (D : Division M) (ltb : M.E → M.E → Bool) where
  open M use {E}

  abbrev pub divides? : E → E → Bool
  divides? g c = is_some (D.quot g c)

  abbrev pub any_divides? : List E → E → Bool
  any_divides? [] c = false
  any_divides? (g ∷ l) c = divides? g c || any_divides? l c

  abbrev pub drop_multiples : E → List E → List E
  drop_multiples c [] = []
  drop_multiples c (g ∷ l) = elim (divides? c g) [ true ↦ drop_multiples c l | false ↦ g ∷ drop_multiples c l ]

  abbrev pub add_by : Bool → E → List E → List E
  add_by true c l = l
  add_by false c l = c ∷ drop_multiples c l

  -- one more generator: unless it is a multiple, it stays and its multiples go
  abbrev pub add_minimal : E → List E → List E
  add_minimal c l = add_by (any_divides? l c) c l

  abbrev pub minimal : List E → List E
  minimal [] = []
  minimal (c ∷ l) = add_minimal c (minimal l)

  abbrev pub insert : E → List E → List E
  insert c [] = c ∷ []
  insert c (g ∷ l) = elim (ltb c g) [ true ↦ c ∷ g ∷ l | false ↦ g ∷ insert c l ]

  abbrev pub sort : List E → List E
  sort [] = []
  sort (c ∷ l) = insert c (sort l)

  abbrev pub tagged : ℕ → List E → List (E × ℕ)
  tagged i [] = []
  tagged i (c ∷ l) = (c, i) ∷ tagged i l

  module _ (L : Level M) (Q : Divided L) (lm : ℕ → L.B) where
    abbrev pub frame_at : ℕ → List E
    frame_at i = sort (minimal (gens L Q lm i i))

    abbrev pub frame_list : ℕ → List (E × ℕ)
    frame_list zero = []
    frame_list (suc i) = frame_list i ++ tagged i (frame_at i)
