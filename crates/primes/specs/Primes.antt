-- Request A4, "Primes up to 65,521": the same limits with a larger bound on p.
use Rattle.std.specs.Prelude.{◌≡◌, ◌↔◌, List, [], ◌∷◌, ℕ, ◌*◌, ◌<◌, ◌≤◌, T, get_or}
use Rattle.std.proofs.Math.Option.{Option, none, some}
use Rattle.definitions.specs.Limits.{Limits}
use Rattle.definitions.specs.Field.{prime?}
use Rattle.definitions.specs.Monomial.{Term, Vector, Level}
use Rattle.definitions.specs.Problem.{Bytes, Line, lines, shaped, letter_R, problem}
use Rattle.definitions.specs.State.{State, sound?}
use Rattle.definitions.specs.Sheet.{sheet}
use Rattle.definitions.specs.Layout.{Words, Way, rows_place, state_words, work_words, out_words, Lent, read_with, lift_with, fetch_with, lent_calls}
use Rattle.demands.specs.Notions.{Member}

abbrev pub with_prime_bound : ℕ → Limits → Limits
with_prime_bound bound lim = record {
  prime_bound = bound;
  variables = lim.variables;
  components = lim.components;
  elements = lim.elements;
  exponent = lim.exponent;
  t_lines = lim.t_lines;
  file = lim.file;
  field = lim.field;
  vectors = lim.vectors;
  level_terms = lim.level_terms;
  levels = lim.levels;
  working = lim.working;
  vector = lim.vector;
  tree = lim.tree;
  numbering = lim.numbering;
}

-- p of a file's R line, 0 where line 1 is none
abbrev pub named : Option (List ℕ) → ℕ
named none = 0
named (some v) = get_or v 0 0

abbrev pub first_named : Limits → List Line → ℕ
first_named lim [] = 0
first_named lim (line ∷ later) = named (shaped lim.field letter_R 4 line)

abbrev pub prime_of : Limits → Bytes → ℕ
prime_of lim bytes = first_named lim (lines bytes)

-- every file that is read has such a p
abbrev pub FilesWithin : Limits → List Lent → Type 0
FilesWithin lim [] = Unit {0}
FilesWithin lim (read_with file work ∷ cs) = (prime_of lim file ≤ lim.prime_bound) × FilesWithin lim cs
FilesWithin lim (lift_with k way work cache ∷ cs) = FilesWithin lim cs
FilesWithin lim (fetch_with k v out ∷ cs) = FilesWithin lim cs

-- limits and a bound that is no smaller than theirs
pub record Kept (lim : Limits) (bound : ℕ) : Type 0 where
  -- "every stored file with p up to 32,767 keeps its meaning ..": what reading says of it, refusals and their places included
  pub problems : (bytes : Bytes) → prime_of lim bytes ≤ lim.prime_bound → problem (with_prime_bound bound lim) bytes ≡ problem lim bytes
  -- ".. and its listing"
  pub sheets : (n : ℕ) (bytes : Bytes) → prime_of lim bytes ≤ lim.prime_bound → sheet (with_prime_bound bound lim) n bytes ≡ sheet lim n bytes
  -- the answers of any list of calls, and every word of every buffer after each; word 0 of the state is its p
  pub calls : (n : ℕ) (state : Words) (cs : List Lent) → get_or state 0 0 ≤ lim.prime_bound → FilesWithin lim cs
      → lent_calls (with_prime_bound bound lim) n state cs ≡ lent_calls lim n state cs
  -- "Term buffers kept by callers hold the same widths": their lengths do not depend on the bound, nor does where a level's rows stand ..
  pub lengths : (state_words (with_prime_bound bound lim) ≡ state_words lim)
      × ((way : Way) → work_words (with_prime_bound bound lim) way ≡ work_words lim way)
      × (out_words (with_prime_bound bound lim) ≡ out_words lim) × ((k : ℕ) → rows_place (with_prime_bound bound lim) k ≡ rows_place lim k)
  -- .. and "wherever these hold 65,520": a coefficient is below p, and so in sixteen bits if the bound is
  pub widths : bound ≤ 65_535 → (X : State) → T (sound? (with_prime_bound bound lim) X) → (f : Level) → Member f X.levels → (v : Vector) → Member v f
      → (t : Term) → Member t v → (t.0 < X.parameters.p) × (X.parameters.p < 65_536)

-- "The prime test is stated over the new range."
pub record PrimeTest : Type 0 where
  -- primality
  pub prime : (p : ℕ) → T (prime? p) ↔ ((2 ≤ p) × ((d : ℕ) → 2 ≤ d → d < p → (k : ℕ) → ¬ (d * k ≡ p)))
  -- up to 65,535 dividing by 2 to 255 decides it
  pub to_255 : (p : ℕ) → p ≤ 65_535 → T (prime? p) ↔ ((2 ≤ p) × ((d : ℕ) → 2 ≤ d → d ≤ 255 → d < p → (k : ℕ) → ¬ (d * k ≡ p)))
