-- "The eight exponents of a term are to be held in one unsigned 64-bit number, x1 in the top byte." (document 02, A8)
use Rattle.std.specs.Prelude.{[], ◌∷◌, ℕ, zero, suc, ◌+◌, ◌*◌, ◌/◌, ◌%◌}
use Rattle.definitions.specs.Monomial.{Exponents}

-- the n lowest bytes of x, the top one first, in front of e
unfoldable pub low_bytes : ℕ → ℕ → Exponents → Exponents
low_bytes zero x e = e
low_bytes (suc n) x e = low_bytes n (x / 256) (x % 256 ∷ e)

-- the exponents that a number holds: every number holds some
abbrev pub unpack : ℕ → Exponents
unpack x = low_bytes 8 x []

-- the exponents' bytes behind those of a
abbrev pub pack_from : ℕ → Exponents → ℕ
pack_from a [] = a
pack_from a (x ∷ e) = pack_from (a * 256 + x) e

-- the number that holds eight exponents
abbrev pub pack : Exponents → ℕ
pack e = pack_from 0 e

-- four numbers of 16 bits side by side in one of 64 bits, the top one first
abbrev pub four : ℕ → ℕ → ℕ → ℕ → ℕ
four a b c d = ((a * 65536 + b) * 65536 + c) * 65536 + d

-- what 64 bits can hold is below this
abbrev pub long_bound : ℕ
long_bound = 18_446_744_073_709_551_616
