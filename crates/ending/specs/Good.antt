-- A test of working values that every step of a run keeps.
use Rattle.std.specs.Prelude.{Bool, true, not, [], ◌∷◌, leb, eqb, length}
use Rattle.definitions.specs.Lists.{◌and◌, every}
use Rattle.definitions.specs.Monomial.{Monomial, Vector, fits?, same_monomial?}

-- eight exponents, none above 255; components count from 1
abbrev pub good_monomial? : Monomial → Bool
good_monomial? m = eqb (length m.0) 8 and fits? 255 m.0 and leb 1 m.1

-- no term of v has the monomial
abbrev pub fresh? : Monomial → Vector → Bool
fresh? m v = every (λ u. not (same_monomial? m u.1)) v

-- every monomial is good, and no two terms have the same one
unfoldable pub good? : Vector → Bool
good? [] = true
good? (t ∷ v) = good_monomial? t.1 and fresh? t.1 v and good? v
