-- What is said of a read: how many bytes stand in front of a buffer, and what one call may answer.
use Rattle.std.specs.Prelude.{◌≡◌, ℕ, ◌≤◌, List, length, take, ℤ, pos, negsuc, zero, suc}

-- `&xs[..n]` is in bounds and has n bytes
abbrev pub IsPrefixLen : ℕ → List ℕ → Type 0
IsPrefixLen n xs = (n ≤ length xs) × (n ≡ length (take n xs))

-- what a read into n bytes may answer: -1 where it fails, else how many bytes it put there, at most n
abbrev pub Moved : ℕ → ℤ → Type 0
Moved n (pos k) = k ≤ n
Moved n (negsuc k) = k ≡ 0

-- one of two facts, by what the read behind the input answered: the first where that was its end, else the second
abbrev pub IfRead : ℤ → Type 0 → Type 0 → Type 0
IfRead (pos zero) P Q = P
IfRead (pos (suc k)) P Q = Q
IfRead (negsuc k) P Q = Q
