-- How large the sums and the values are, how long a line and all lines.
use mathlib.Core.Path.{◌≡◌}
use mathlib.Core.Bool.{Bool, true, false}
use mathlib.Core.List.{List, [], ◌∷◌}
use Prim.Native.Nat.{ℕ, zero, suc, ◌+◌, ◌-◌, ◌*◌, ◌<◌, ◌≤◌}
use native.Mathlib.Omega.{arith}
use lib.Dec.{T, leb, eqb, eqb→eq}
use lib.ListN.{length, length-append, length-reverse}
use Rattle.definitions.specs.Limits.{Limits}
use Rattle.definitions.specs.Lists.{from}
use Rattle.definitions.specs.Monomial.{fits?}
use Rattle.definitions.specs.Problem.{Parameters}
use Rattle.definitions.specs.State.{State, sound?}
use Rattle.definitions.specs.Sheet.{printed}
use Rattle.definitions.specs.Degrees.{carried}
use Rattle.definitions.specs.Betti.{column_degrees}
use Rattle.definitions.specs.Pascal.{monomials}
use Rattle.definitions.specs.Hilbert.{left_over, column_value, both_sums, hilbert_value, letter_H, h_lines, hilbert_lines}
use Rattle.definitions.specs.Places.{exponents_length, most_degree, most_vectors, page_columns, hilbert_degrees, h_line_length, hilbert_length}
use Rattle.laws.proofs.Tests.{and_left}
use Rattle.laws.proofs.Members.{All}
use Rattle.laws.proofs.Sound.{Sound, sound_says}
use Rattle.laws.proofs.RoundTrip.{length_carried}
use Rattle.demands.specs.Demands.{sensible?}
use Rattle.demands.proofs.Over.{sound_eight}
use Rattle.betti.specs.Notions.{paged?}
use Rattle.betti.proofs.Columns.{paged_says, Column, sound_columns}
use Rattle.lengths.proofs.Rising.{some_variable}
use Rattle.standard_monomials.specs.Table.{most_monomials}
use Rattle.standard_monomials.specs.Hilbert.{sum_bound}
use Rattle.standard_monomials.proofs.Triangle.{table_right}
use Rattle.laws.proofs.Digits.{field_few}

-- ## Sums

module _ (n d : ℕ) (some : 1 ≤ n) (eight : n ≤ exponents_length) (within : d < hilbert_degrees) where
  pub left_few : (g : ℕ) → left_over n d g ≤ most_monomials
  left_few g = go (leb g d)
    where
      go : (b : Bool) → elim b [ true ↦ monomials n (d - g) | false ↦ 0 ] ≤ most_monomials
      go true = table_right.few n (d - g) some eight (omega (arith, within))
      go false = omega arith

  pub column_few : (gs : List ℕ) → column_value n d gs ≤ length gs * most_monomials
  column_few [] = omega arith
  column_few (g ∷ gs) = let a = left_few g in let b = column_few gs in omega (arith, a, b)

  pub sums_few : (cs : List (List ℕ)) → All Column cs
      → ((both_sums n d cs).0 ≤ length cs * (most_vectors * most_monomials)) × ((both_sums n d cs).1 ≤ length cs * (most_vectors * most_monomials))
  sums_few [] h = (omega arith, omega arith)
  sums_few (gs ∷ cs) h =
      let (a, b) = sums_few cs h.1 in
      let c = column_few gs in
      let e = h.0.few in
      (omega (arith, a, b, c, e), omega (arith, a))

-- ## Lines

pub line_narrow : (d v : ℕ) → d < hilbert_degrees → v < sum_bound → length (printed letter_H (d ∷ v ∷ [])) ≤ h_line_length
line_narrow d v h k =
    let a = field_few 1 d (omega (arith, h)) (v ∷ []) in
    let b = field_few 10 v (omega (arith, k)) [] in
    omega (arith, a, b)

lines_short : (value : ℕ → ℕ) (k i : ℕ) → ((d : ℕ) → i ≤ d → d < i + k → length (printed letter_H (d ∷ value d ∷ [])) ≤ h_line_length)
    → length (h_lines value (from i k)) ≤ k * h_line_length
lines_short value zero i h = omega arith
lines_short value (suc k) i h =
    let a = length-append (printed letter_H (i ∷ value i ∷ [])) (h_lines value (from (suc i) k)) in
    let b = h i (omega arith) (omega arith) in
    let c = lines_short value k (suc i) (λ d l m. h d (omega (arith, l)) (omega (arith, m))) in
    omega (arith, a, b, c)

pub all_short : (value : ℕ → ℕ) → ((d : ℕ) → d < hilbert_degrees → length (printed letter_H (d ∷ value d ∷ [])) ≤ h_line_length)
    → length (h_lines value (from 0 hilbert_degrees)) ≤ hilbert_degrees * h_line_length
all_short value h = lines_short value hilbert_degrees 0 (λ d l m. h d (omega (arith, m)))

-- ## Of a sound state

module _ (lim : Limits) (o : T (sensible? lim)) (p : T (paged? lim)) (X : State) (s : T (sound? lim X)) where
  abbrev q : Parameters
  q = X.parameters

  says : Sound lim X
  says = sound_says lim X s

  pub some_there : 1 ≤ q.n
  some_there = some_variable lim q says.ranges

  pub eight_at_most : q.n ≤ exponents_length
  eight_at_most = sound_eight lim o X s

  pub each_component : length q.degrees ≡ q.s
  each_component = eqb→eq (length q.degrees) q.s (and_left (eqb (length q.degrees) q.s) (fits? most_degree q.degrees) says.degrees)

  -- components, and the levels
  pub few_columns : length (column_degrees X) ≤ page_columns
  few_columns =
      let a = length-reverse (carried q.degrees X.levels) in
      let b = length_carried q.degrees X.levels in
      let c = says.height in
      let e = (paged_says lim p).levels in
      omega (arith, a, b, c, e)

  pub sums_fit : (d : ℕ) → d < hilbert_degrees
      → ((both_sums q.n d (column_degrees X)).0 < sum_bound) × ((both_sums q.n d (column_degrees X)).1 < sum_bound)
  sums_fit d h =
      let (a, b) = sums_few q.n d some_there eight_at_most h (column_degrees X) (sound_columns lim (paged_says lim p) X s) in
      (omega (arith, a, few_columns), omega (arith, b, few_columns))

  pub lines_fit : (length (hilbert_lines X) ≤ hilbert_degrees * h_line_length) × (length (hilbert_lines X) ≤ hilbert_length)
  lines_fit =
      let value = hilbert_value q.n (column_degrees X) in
      let a = all_short value (λ d h. line_narrow d (value d) h (let b = (sums_fit d h).0 in omega (arith, b))) in
      (a, omega (arith, a))
