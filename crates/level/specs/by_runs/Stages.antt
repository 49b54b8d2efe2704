-- A state's level as the ground of a lifting, and what is said of the level over it.
use Rattle.std.specs.Prelude.{◌≡◌, [], ℕ, suc, ◌+◌, ◌*◌, ◌<◌, ◌≤◌, T, length, get_or, take, drop, Result as CodeResult, Ok, Err}
use Rattle.std.proofs.Math.Seq.{paste}
use Rattle.definitions.specs.Limits.{Limits, document_01}
use Rattle.definitions.specs.Monomial.{Vector, Level, leading_monomials}
use Rattle.definitions.specs.Result.{Result, done, refused, refusal, ◌>>=◌}
use Rattle.definitions.specs.Stage.{Stage, stage_over}
use Rattle.definitions.specs.Run as definition
use Rattle.definitions.specs.Run.{by_code}
use Rattle.definitions.specs.Frame.{frame}
use Rattle.definitions.specs.Lifting.{limited_frame, lift_all, accept_from, accept}
use Rattle.definitions.specs.Layout.{Words, rows, rows_of, padded, level_at, levels_at, holds_state?}
use Rattle.definitions.specs.Places.{most_exponent, most_vectors, most_rows, most_terms, most_tree_terms, all_levels, row_length, state_length}
use Rattle.definitions.specs.Places.{images_length, spans_length, ends_length}
use Rattle.definitions.specs.Places.{tables_above, tables_below, tables_ends, tables_length, tables_spans}
use Rattle.state.specs.soundness.Places.{count_at, count_below, ends_from}
use Rattle.state.specs.soundness.Tabled.{Ready}
use Rattle.state.specs.preparing.Prepared.{components_at, Led}
use Rattle.runs.specs.reduction.Grounds.{spans_in, ends_in, below_in, above_in}
use Rattle.runs.specs.declared.reduction.Ground.{Ground}
use Rattle.runs.specs.declared.run.Strategy.{Strategy}
use Rattle.runs.specs.frame_terms.Vectors.{lifted_vectors, Kept, frame_terms, lifts, lifted_of, Whole}
use Rattle.runs.specs.declared.frame_terms.Lifted.{Lifted}
use Rattle.runs.specs.declared.frame_terms.Accepted.{Accepted}
use Rattle.runs.specs.declared.frame_terms.Accepted.TheVariants.{Yes, Stopped as AcceptedStopped}
use Rattle.words.specs.declared.refusals.Refusal.{Refusal}
use Rattle.words.specs.declared.refusals.Refused.{Refused}
use Rattle.words.specs.refusals.Numbers.{number_of}
use Rattle.level.specs.declared.by_runs.Bounds.{Bounds}
use Rattle.level.specs.declared.by_runs.Leveled.{Leveled}
use Rattle.level.specs.declared.by_runs.Leveled.TheVariants.{Vectors, Stopped}

-- a sound state with level j complete
pub record Base (s : Words) (j : ℕ) : Type 0 where
  pub long : state_length ≤ length s
  pub holds : T (holds_state? document_01 s)
  pub has : j < get_or s 4 0
  pub low : j < all_levels

-- document 01's limits of a lifting, but with room for so many terms in a working value (A11)
abbrev pub with_working : ℕ → Bounds
with_working working = record { working = working; vector = most_terms; tree = most_tree_terms; room = most_rows }

-- document 01's
abbrev pub usual : Bounds
usual = with_working most_terms

-- at most those, so that the tables and the lent slices suffice
pub record Within (b : Bounds) : Type 0 where
  pub working : b.working ≤ most_terms
  pub vector : b.vector ≤ most_terms
  pub filled : 1 ≤ b.vector
  pub tree : b.tree ≤ most_tree_terms
  pub room : b.room ≤ most_rows

-- document 01's limits, but for those of a lifting
abbrev pub limits_with : Bounds → Limits
limits_with b = record {
  prime_bound = document_01.prime_bound;
  variables = document_01.variables;
  components = document_01.components;
  elements = document_01.elements;
  exponent = most_exponent;
  t_lines = document_01.t_lines;
  file = document_01.file;
  field = document_01.field;
  vectors = document_01.vectors;
  level_terms = b.room;
  levels = document_01.levels;
  working = b.working;
  vector = b.vector;
  tree = b.tree;
  numbering = document_01.numbering;
}

abbrev pub ground_at : Bounds → Words → ℕ → Ground
ground_at b s j = record {
  p = get_or s 0 0;
  code = get_or s 2 0;
  r = count_at s j;
  components = components_at s j + 1;
  images = count_below s j;
  working = b.working;
  vector = b.vector;
  tree = b.tree;
  room = b.room;
}

-- the stage over levels 0 to j
abbrev pub stage_at : Bounds → Words → ℕ → Stage
stage_at b s j = stage_over (limits_with b) (get_or s 0 0) (get_or s 2 0) (levels_at document_01 s (suc j))

abbrev pub strategy_at : Bounds → Words → ℕ → Strategy → definition.Strategy
strategy_at b s j w = record { drops = w.drops; pick = by_code (stage_at b s j).below w.pick; stops = w.stops }

-- ## The tables of a lifting, one after the other in one slice

-- behind the heads
abbrev pub joined : Words → Words → Words → Words → Words → Words
joined heads spans ends below above = paste (paste (paste (paste heads tables_spans spans spans_length) tables_ends ends ends_length) tables_below below
    images_length) tables_above above images_length

pub record TablesAt (s : Words) (j : ℕ) (tables : Words) : Type 0 where
  pub long : tables_length ≤ length tables
  pub led : Led s j tables (spans_in tables)
  pub ends : take (count_at s j) (ends_in tables) ≡ take (count_at s j) (ends_from s j)
  pub below : Ready s j (below_in tables)
  pub above : Ready s (suc j) (above_in tables)

-- the frame's rows, all of them
pub record FramedBy (s : Words) (j count : ℕ) (words : Words) : Type 0 where
  pub few : count ≤ most_vectors
  pub fits : count * row_length ≤ length words
  pub terms : frame_terms words count ≡ frame (document_01.numbering (get_or s 2 0)) (leading_monomials (level_at document_01 s j))

-- what lifting these frame terms gives; the value of one without a reducer is not kept
abbrev pub lifted_over : Bounds → Words → ℕ → Strategy → ℕ → Words → CodeResult Lifted Refusal → Words → Type 0
lifted_over b s j w count words x out =
    ((n : ℕ) × (v : Words) × (lifted_of x count out v ≡ lift_all (stage_at b s j) (lifts (stage_at b s j) (strategy_at b s j w) n) ([], 0) []
    (frame_terms words count))) × Whole (ground_at b s j) count x out

-- the frame formed first: 15; then its terms
abbrev pub lift_over : Bounds → Words → ℕ → Strategy → ℕ → Result Level
lift_over b s j w n =
    limited_frame document_01 (get_or s 2 0) (level_at document_01 s j) >>= λ ms.
    lift_all (stage_at b s j) (lifts (stage_at b s j) (strategy_at b s j w) n) ([], 0) [] ms

abbrev pub leveled_of : CodeResult Leveled Refusal → Words → Words → Result Level
leveled_of (Ok (Vectors n used)) out v = done (lifted_vectors out n)
leveled_of (Ok (Stopped n)) out v = refused 9 0 (rows v 0 n)
leveled_of (Err e) out v = refusal (number_of e)

abbrev pub StoredAs : CodeResult Leveled Refusal → Words → Type 0
StoredAs (Ok (Vectors n used)) out = (used ≤ most_rows) × Kept n used out
StoredAs (Ok (Stopped n)) out = Unit {0}
StoredAs (Err e) out = Unit {0}

-- acceptance that passes over so many frame terms; 15 is tested for all of them
abbrev pub accepted_behind : Words → ℕ → ℕ → Result (Unit {0})
accepted_behind s from n =
    limited_frame document_01 (get_or s 2 0) (level_at document_01 s 0) >>= λ ms. accept_from (stage_at usual s 0) n (from + 1) (drop from ms)

abbrev pub accepted_over : Words → ℕ → Result (Unit {0})
accepted_over s n = accept document_01 (get_or s 0 0) (get_or s 2 0) (level_at document_01 s 0) n

abbrev pub accepted_with : CodeResult Accepted Refused → Vector → Result (Unit {0})
accepted_with (Ok Yes) v = done tt
accepted_with (Ok (AcceptedStopped i n)) v = refused 9 i v
accepted_with (Err e) v = refused (number_of e.refusal) e.place []

-- "9 leaves in the work area the value where division stopped": its n rows, and zeros after them
abbrev pub Shown : CodeResult Accepted Refused → Vector → Words → Type 0
Shown (Ok Yes) v work = Unit {0}
Shown (Ok (AcceptedStopped i n)) v work = (work ≡ padded (length work) (rows_of v)) × (v ≡ rows work 0 n) × (n * row_length ≤ length work)
    × (n ≤ most_terms)
Shown (Err e) v work = Unit {0}

-- the value where division stopped
abbrev pub value_in : Accepted → Words → Vector
value_in Yes vector = []
value_in (AcceptedStopped i n) vector = rows vector 0 n

abbrev pub LeftIn : Accepted → Words → Words → Type 0
LeftIn Yes vector work = Unit {0}
LeftIn (AcceptedStopped i n) vector work = (n * row_length ≤ length vector) × (n * row_length ≤ length work) × (n ≤ most_terms)
