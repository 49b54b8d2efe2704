-- The code's values as the definitions' ones.
use Rattle.std.proofs.Math.Option.{Option, none, some}
use Rattle.std.specs.Prelude.{Option as CodeOption, Some, None, ℕ, ◌+◌, ◌/◌, ◌%◌, slice_index}
use Rattle.definitions.specs.Lists.{choose}
use Rattle.definitions.specs.Monomial as definition
use Rattle.definitions.specs.Monomial.{Exponents, product, fits?}
use Rattle.definitions.specs.Packed.{four, unpack}
use Rattle.definitions.specs.Places.{most_exponent}
use Rattle.monomial.specs.declared.Monomial.{Monomial}

abbrev pub monomial_of : Monomial → definition.Monomial
monomial_of m = (unpack m.exponents, m.component)

-- "The unit monomial has all exponents zero"
abbrev pub unit : definition.Monomial
unit = (definition.unit, 0)

-- 13's test: the product of a monomial, or none where an exponent is above 255
abbrev pub formed : Exponents → definition.Monomial → Option definition.Monomial
formed q m = choose (fits? most_exponent (product q m.0)) (some (product q m.0, m.1)) none

abbrev pub product_of : CodeOption Monomial → Option definition.Monomial
product_of (Some m) = some (monomial_of m)
product_of None = none

-- ## Lanes

-- the exponents of x2, x4, x6, x8 in lanes of sixteen bits
abbrev pub even_lanes : Exponents → ℕ
even_lanes e = four (slice_index e 1) (slice_index e 3) (slice_index e 5) (slice_index e 7)

-- the exponents two by two in four lanes
abbrev pub pair_lanes : Exponents → ℕ
pair_lanes e = four (slice_index e 0 + slice_index e 1) (slice_index e 2 + slice_index e 3) (slice_index e 4 + slice_index e 5) (slice_index e 6 + slice_index e 7)

-- four lanes added up
abbrev pub lane_sum : ℕ → ℕ
lane_sum s = s / 281474976710656 + s / 4294967296 % 65536 + s / 65536 % 65536 + s % 65536

-- the most that four lanes of eight bits hold
abbrev pub lane_bytes : ℕ
lane_bytes = 71_777_214_294_589_695

-- the bit above each of them
abbrev pub lane_marks : ℕ
lane_marks = 72_058_693_566_333_184

-- the lowest bit of each byte but the lowest: where a sum of bytes shows what was carried
abbrev pub carry_bits : ℕ
carry_bits = 72_340_172_838_076_672
