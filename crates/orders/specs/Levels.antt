-- The table of images of a module over the levels below it.
use Rattle.std.specs.Prelude.{Bool, true, false, List, [], ◌∷◌, ℕ, suc}
use Rattle.definitions.specs.Monomial.{Level, leading}
use Rattle.definitions.specs.Order.{Comparison, greater, equal, smaller, or_at_tie, numbers}
use Rattle.orders.specs.Images.{Key, Table, key}

-- what decides a tie of exponents: rank and component
abbrev pub Tie : Type 0
Tie = ℕ × ℕ

abbrev pub compare_ties : Tie → Tie → Comparison
compare_ties a b = or_at_tie (numbers a.0 b.0) (numbers a.1 b.1)

abbrev pub smaller? : Comparison → Bool
smaller? greater = false
smaller? equal = false
smaller? smaller = true

abbrev pub counted : Bool → ℕ → ℕ
counted true n = suc n
counted false n = n

-- how many of the keys have a smaller tie
abbrev pub lower : List Key → Tie → ℕ
lower [] t = 0
lower (k ∷ ks) t = counted (smaller? (compare_ties k.1 t)) (lower ks t)

-- the rank of a tie among the keys', from 1
abbrev pub rank : List Key → Tie → ℕ
rank ks t = suc (lower ks t)

-- the keys of the leading monomials of a level
abbrev pub leading_keys : Table → Level → List Key
leading_keys T [] = []
leading_keys T (f ∷ fs) = key T (leading f) ∷ leading_keys T fs

-- each key with its tie's rank among all of them
abbrev pub ranked : List Key → List Key → Table
ranked all [] = []
ranked all (k ∷ ks) = (k.0, rank all k.1) ∷ ranked all ks

abbrev pub table_over : Table → Level → Table
table_over T f = ranked (leading_keys T f) (leading_keys T f)

-- over the levels below, the highest first
abbrev pub images : List Level → Table
images [] = []
images (f ∷ below) = table_over (images below) f
