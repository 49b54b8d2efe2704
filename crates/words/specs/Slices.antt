-- What a slice of 16-bit words holds.
use Rattle.std.specs.Prelude.{ℕ, ◌<◌, get_or}
use Rattle.definitions.specs.Layout.{Words}

abbrev pub SixteenBits : Words → Type 0
SixteenBits s = (i : ℕ) → get_or s i 0 < 65536
