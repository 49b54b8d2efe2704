-- Request A7.
use mathlib.Core.Path.{◌≡◌, refl}
use Prim.Native.Nat.{ℕ, ◌<◌}
use native.Mathlib.Omega.{arith}
use lib.Dec.{T}
use Rattle.definitions.specs.Limits.{Limits, document_01}
use Rattle.demands.specs.Demands.{sensible?}
use Rattle.ranks.proofs.Ranks.{ranks_right}
use Rattle.betti.specs.Notions.{paged?}
use Rattle.minimal_numbers.specs.Minimal.{MinimalPageRight}
use Rattle.minimal_numbers.proofs.Files.{from_ranks}

-- frame terms are numbered lexicographically, and there are more levels than variables
pub minimal_page_right : (lim : Limits) → T (sensible? lim) → T (paged? lim) → ((code : ℕ) → lim.numbering code ≡ 1) → lim.variables < lim.levels
    → MinimalPageRight lim
minimal_page_right = from_ranks ranks_right

pub document_minimal_page_right : MinimalPageRight document_01
document_minimal_page_right = minimal_page_right document_01 tt tt (λ code. refl) (omega arith)
