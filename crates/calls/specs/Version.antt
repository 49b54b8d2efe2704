-- The number by which a header and a library that do not belong together are found out; include/tagetessash.h says when it grows.
use Rattle.std.specs.Prelude.{ℕ}

abbrev pub version : ℕ
version = 3

-- How often something was added since that a program of this version need not know of: a function, or an answer where there was a refusal.
abbrev pub minor : ℕ
minor = 9
