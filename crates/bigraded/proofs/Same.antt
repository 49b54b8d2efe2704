-- Files with and without G.
use lib.Dec.{T}
use Rattle.definitions.specs.Limits.{Limits, document_01}
use Rattle.demands.specs.Demands.{sensible?}
use Rattle.bigraded.specs.Bidegrees.{SameWithG}
use Rattle.bigraded.proofs.Alike.{basis, left_out, reading_same, sheets, pages, all_calls, buffers}
use Rattle.bigraded.proofs.TwentyFour.{twenty_four, d_behind_g}

pub same_with_G : (lim : Limits) → T (sensible? lim) → SameWithG lim
same_with_G lim o = record {
  basis = basis lim o;
  left_out = left_out lim o;
  reading = reading_same lim o;
  sheets = sheets lim o;
  pages = pages lim o;
  all_calls = all_calls lim o;
  buffers = buffers lim o;
  twenty_four = twenty_four lim o;
  d_behind_g = d_behind_g lim o;
}

pub document_same_with_G : SameWithG document_01
document_same_with_G = same_with_G document_01 tt
