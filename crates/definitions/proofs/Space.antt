-- Lifting in less work space (A11) by computation: x + y³³ + y³² + .. + y and y lift to one vector of 35 terms, by a working value of 33.
use mathlib.Core.Path.{◌≡◌, refl}
use mathlib.Core.Option.{some}
use mathlib.Core.List.{[], ◌∷◌}
use Prim.Native.Nat.{ℕ, zero, suc, ◌*◌}
use lib.ListN.{replicate}
use Rattle.definitions.specs.Limits.{Limits, document_01, with_working}
use Rattle.definitions.specs.Monomial.{Vector, Level}
use Rattle.definitions.specs.Packed.{low_bytes}
use Rattle.definitions.specs.Result.{done, refused}
use Rattle.definitions.specs.Lifting.{by_hybrid, lift_level}
use Rattle.definitions.specs.State.{State}
use Rattle.definitions.specs.Places.{row_length, value_length}
use Rattle.definitions.specs.Layout.{Words, row_at, rows, state_words, work_words, encode, division, hybrid, lifting_by, lift_call}
use Rattle.definitions.proofs.Instances.{xy}

-- y^j·e_i + .. + y·e_i
abbrev powers : ℕ → ℕ → Vector
powers i zero = []
powers i (suc j) = (1, xy 0 (suc j) i) ∷ powers i j

abbrev f : Level
f = ((1, xy 1 0 1) ∷ powers 1 33) ∷ ((1, xy 0 1 1) ∷ []) ∷ []

-- x·e_2 gives x·y, its reducer's multiple y·f_1 the 33 terms y³⁴ to y², and each of these y^j·e_2
abbrev g : Level
g = ((1, xy 1 0 2) ∷ (6, xy 0 1 1) ∷ powers 2 33) ∷ []

-- ## "refusal 14 then comes at term w + 1 of the working value, while the vector keeps its 512"

room_for_32 : lift_level document_01 7 1 (f ∷ []) (by_hybrid 2 32) 99 ≡ refused 14 0 []
room_for_32 = refl

room_for_33 : lift_level document_01 7 1 (f ∷ []) (by_hybrid 2 33) 99 ≡ done g
room_for_33 = refl

room_for_512 : lift_level document_01 7 1 (f ∷ []) (by_hybrid 2 512) 99 ≡ done g
room_for_512 = refl

-- ## "A buffer for fewer than 32 is refusal 16, and one for more is used up to 512"

least : work_words document_01 (hybrid 2) ≡ 32 * row_length
least = refl

-- five words more are no row
pub record Used : Type 0 where
  fewest : lifting_by document_01 (hybrid 2) (replicate 197 0) [] ≡ by_hybrid 2 32
  one_more : lifting_by document_01 (hybrid 2) (replicate 198 0) [] ≡ by_hybrid 2 33
  not_all : lifting_by document_01 (hybrid 2) (replicate 3_071 0) [] ≡ by_hybrid 2 511
  all : lifting_by document_01 (hybrid 2) (replicate value_length 0) [] ≡ by_hybrid 2 512
  past_all : lifting_by document_01 (hybrid 2) (replicate 3_078 0) [] ≡ by_hybrid 2 512

used : Used
used = record { fewest = refl; one_more = refl; not_all = refl; all = refl; past_all = refl }

-- ## Whole calls

-- limits for states of few words, with 40 terms in a working value
abbrev small : Limits
small = record {
  prime_bound = 65_535;
  variables = 8;
  components = 1;
  elements = 2;
  exponent = 255;
  t_lines = 40;
  file = 999;
  field = 65_535;
  vectors = 2;
  level_terms = 40;
  levels = 1;
  working = 40;
  vector = 40;
  tree = 6;
  numbering = λ code. 1;
}

abbrev basis : State
basis = record { parameters = record { p = 7; n = 2; code = 1; s = 1; degrees = 0 ∷ [] }; levels = f ∷ [] }

abbrev lifted : State
lifted = record { parameters = basis.parameters; levels = g ∷ f ∷ [] }

abbrev words : Words
words = encode small (state_words small) basis

fewer_than_32 : lift_call small 99 1 (hybrid 2) words (replicate 191 1) [] ≡ some (16, 0, words, replicate 191 1, [])
unfolding low_bytes row_at rows
fewer_than_32 = refl

term_33 : lift_call small 99 1 (hybrid 2) words (replicate 197 1) [] ≡ some (14, 1, replicate (state_words small) 0, replicate 197 0, [])
unfolding low_bytes row_at rows
term_33 = refl

finishes : lift_call small 99 1 (hybrid 2) words (replicate 198 1) [] ≡ some (0, 0, encode small (state_words small) lifted, replicate 198 0, [])
unfolding low_bytes row_at rows
finishes = refl

-- a longer area is used up to the limit: here 32
not_past_the_limit : lift_call (with_working 32 small) 99 1 (hybrid 2) words (replicate 600 1) []
    ≡ some (14, 1, replicate (state_words small) 0, replicate 600 0, [])
unfolding low_bytes row_at rows
not_past_the_limit = refl

-- the other ways keep their lengths
division_keeps_its_length : lift_call small 99 1 division words (replicate 239 1) [] ≡ some (16, 0, words, replicate 239 1, [])
unfolding low_bytes row_at rows
division_keeps_its_length = refl
