-- Generators and frame terms as rows, and the code's answers as the definitions' ones.
use Rattle.std.specs.Prelude.{Option, Some, None, Bool, not, List, [], ◌∷◌, ◌++◌, map, ℕ, zero, suc, ◌≤◌, leb, eqb, length, get_or}
use Rattle.definitions.specs.Lists.{any, those, choose}
use Rattle.definitions.specs.Monomial.{Exponents, Monomial, Term, Vector, quotient, lcm, no_term}
use Rattle.definitions.specs.Order.{greater, equal, smaller, exponents_by}
use Rattle.definitions.specs.Result.{Result, done, refusal}
use Rattle.definitions.specs.Frame.{into_ascending, properly_divides?}
use Rattle.definitions.specs.Layout.{Words, rows, row_at}
use Rattle.vectors.specs.terms.Rows.{let_in}

abbrev pub exponents_of : Vector → List Exponents
exponents_of v = map (λ t. t.1.0) v

abbrev pub monomials_of : Vector → List Monomial
monomials_of v = map (λ t. t.1) v

-- ## One generator

-- the place before which a generator belongs in an ascending list, counted from i; none where an equal one is there
abbrev pub spot_from : ℕ → Exponents → List Exponents → ℕ → Option ℕ
spot_from code g [] i = Some i
spot_from code g (h ∷ l) i = elim (exponents_by code g h) [ greater ↦ spot_from code g l (suc i) | equal ↦ None | smaller ↦ Some i ]

-- a spot among n rows
abbrev pub Inside : ℕ → Option ℕ → Type 0
Inside n None = Unit {0}
Inside n (Some i) = i ≤ n

abbrev pub put_at : Option ℕ → Term → Vector → Vector
put_at None t v = v
put_at (Some i) t v = let_in i t v

abbrev pub taken_in : ℕ → Term → Vector → Vector
taken_in code t v = put_at (spot_from code t.1.0 (exponents_of v) 0) t v

-- the generators of element i, as rows
abbrev pub with_unit : ℕ → List Exponents → Vector
with_unit i [] = []
with_unit i (g ∷ gs) = (1, (g, i)) ∷ with_unit i gs

-- a generator that one there properly divides is left out
abbrev pub thinned_in : ℕ → Exponents → List Exponents → List Exponents
thinned_in code g gs = choose (any (λ h. properly_divides? h g) gs) gs (into_ascending code g gs)

abbrev pub with_thinned : ℕ → Monomial → Monomial → List Exponents → List Exponents
with_thinned code l m gs = choose (eqb l.1 m.1) (thinned_in code (quotient (lcm l.0 m.0) m.0) gs) gs

-- the definitions' `generators`, so thinned: the minimal ones are the same (proofs/Thinning)
abbrev pub thinned : ℕ → List Monomial → Monomial → List Exponents
thinned code [] m = []
thinned code (l ∷ ls) m = with_thinned code l m (thinned code ls m)

-- the same of one generator, as rows
abbrev pub generated : ℕ → Monomial → Monomial → ℕ → Vector → Vector
generated code l m i v =
    let g = quotient (lcm l.0 m.0) m.0 in
    choose (eqb l.1 m.1) (choose (any (λ h. properly_divides? h g) (exponents_of v)) v (taken_in code (1, (g, i)) v)) v

-- the leading monomials before element j, the nearest first
abbrev pub earlier : ℕ → Words → List Monomial
earlier zero heads = []
earlier (suc j) heads = (row_at heads j).1 ∷ earlier j heads

-- ## The minimal ones

abbrev pub minimal_in : Vector → Term → Bool
minimal_in v t = not (any (λ h. properly_divides? h t.1.0) (exponents_of v))

abbrev pub minimal_rows : Vector → Vector
minimal_rows v = those (minimal_in v) v

-- two lists of rows together, if there are not too many
abbrev pub within : ℕ → Vector → Vector → Result Vector
within limit v w = choose (leb (length (v ++ w)) limit) (done (v ++ w)) (refusal 15)

abbrev pub kept_one : ℕ → Vector → Vector → ℕ → Result Vector
kept_one limit v w i = within limit v (those (minimal_in w) (get_or w i no_term ∷ []))

abbrev pub kept_of : Option ℕ → Words → Result Vector
kept_of (Some n) d = done (rows d 0 n)
kept_of None d = refusal 15

abbrev pub framed_of : Option ℕ → Words → Result (List Monomial)
framed_of (Some n) d = done (monomials_of (rows d 0 n))
framed_of None d = refusal 15

abbrev pub few : ℕ → Option ℕ → Type 0
few limit (Some n) = n ≤ limit
few limit None = Unit {0}
