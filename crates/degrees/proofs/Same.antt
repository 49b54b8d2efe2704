-- With D as without it: the whole statement.
use lib.Dec.{T}
use Rattle.definitions.specs.Limits.{Limits, document_01}
use Rattle.demands.specs.Demands.{sensible?}
use Rattle.degrees.specs.Degrees.{SameWithD}
use Rattle.degrees.proofs.Lines.{basis, zeros}
use Rattle.degrees.proofs.Alike.{lifted, read_alike_files, calls_alike, sheets}
use Rattle.degrees.proofs.Buffers.{buffers}
use Rattle.degrees.proofs.Eighteen.{eighteen}

pub same_with_D : (lim : Limits) → T (sensible? lim) → SameWithD lim
same_with_D lim o = record {
  basis = basis lim o;
  reading = read_alike_files lim o;
  lifting = λ n X Y a k way. lifted lim n X Y a k way;
  all_calls = calls_alike lim o;
  buffers = buffers lim o;
  sheets = sheets lim o;
  zeros = zeros lim;
  eighteen = eighteen lim o;
}

pub document_same : SameWithD document_01
document_same = same_with_D document_01 tt
