-- The values of a file's levels.
use mathlib.Core.Path.{◌≡◌, refl, sym, ap, ap₂, ◌∙◌}
use mathlib.Core.Logic.{◌⊎◌, inl, inr}
use mathlib.Core.Bool.{not}
use mathlib.Core.List.{List, [], ◌∷◌, ◌++◌}
use Prim.Native.Nat.{ℕ, zero, suc, ◌+◌, ◌-◌, ◌*◌, ◌<◌, ◌≤◌}
use native.Mathlib.Omega.{arith}
use lib.Dec.{T}
use lib.ListN.{length, drop}
use Rattle.definitions.specs.Limits.{Limits}
use Rattle.definitions.specs.Lists.{◌and◌, between, from}
use Rattle.definitions.specs.Monomial.{Level, leading_monomials}
use Rattle.definitions.specs.Stage.{highest}
use Rattle.definitions.specs.Problem.{Bytes, Parameters}
use Rattle.definitions.specs.State.{State, sound?}
use Rattle.definitions.specs.Sheet.{printed}
use Rattle.definitions.specs.Betti.{column_degrees}
use Rattle.definitions.specs.Hilbert.{both_sums, hilbert_value, letter_H, h_lines, hilbert_lines}
use Rattle.definitions.specs.Standard.{in_components, standard}
use Rattle.definitions.specs.Places.{hilbert_degrees, h_line_length}
use Rattle.laws.proofs.Tests.{and_left, between_high}
use Rattle.laws.proofs.Sound.{sound_says}
use Rattle.laws.proofs.Reading.{basis_state}
use Rattle.files.specs.Files.{WellFormedFile}
use Rattle.demands.specs.Notions.{GröbnerBasis}
use Rattle.demands.specs.Demands.{sensible?, Listed}
use Rattle.demands.proofs.Demand2.{demand_2}
use Rattle.lengths.specs.Lengths.{LevelsEnd}
use Rattle.betti.specs.Notions.{paged?}
use Rattle.standard_monomials.specs.Table.{most_monomials}
use Rattle.standard_monomials.specs.Hilbert.{ValuesRight}
use Rattle.standard_monomials.proofs.Counts.{count_bound}
use Rattle.standard_monomials.proofs.Components.{all_number}
use Rattle.standard_monomials.proofs.Partition.{divided_by?, undivided}
use Rattle.standard_monomials.proofs.Alternating.{balanced}
use Rattle.standard_monomials.proofs.Levels.{FileLevels, file_levels}
use Rattle.standard_monomials.proofs.Standard.{standard_number, standard_right}
use Rattle.standard_monomials.proofs.Sums.{added_is, taken_is}
use Rattle.standard_monomials.proofs.Bounds.{column_few, line_narrow, all_short, few_columns, sums_fit}

-- ## The theorem

module _ (lim : Limits) (o : T (sensible? lim)) (bytes : Bytes) (q : Parameters) (below : List Level) (L : Listed lim bytes q [] below) where
  abbrev X : State
  X = record { parameters = q; levels = [] ∷ below }

  F : FileLevels lim q L.basis ([] ∷ below)
  F = file_levels lim o bytes q [] below L

  number : (d : ℕ) → length (standard q L.basis d) ≡ undivided q.n q.degrees (leading_monomials L.basis) d
  number d = standard_number q F.eight L.basis d F.each_component

  -- the undivided monomials and what is taken away are what is added
  parts : (d : ℕ) → d < hilbert_degrees
      → length (standard q L.basis d) + (both_sums q.n d (column_degrees X)).1 ≡ (both_sums q.n d (column_degrees X)).0
  parts d h =
      ap (λ x. x + (both_sums q.n d (column_degrees X)).1)
      (number d ∙ ap (λ f. undivided q.n q.degrees (leading_monomials f) d) (sym F.lowest_is))
      ∙ balanced (lim.numbering q.code) q.n F.some_there F.eight q.degrees d h below F.over F.framed

  pub value_is : (d : ℕ) → d < hilbert_degrees → hilbert_value q.n (column_degrees X) d ≡ length (standard q L.basis d)
  value_is d h = let e = parts d h in omega (arith, e)

  value_few : (d : ℕ) → d < hilbert_degrees → hilbert_value q.n (column_degrees X) d ≤ q.s * most_monomials
  value_few d h =
      let v = value_is d h in
      let e = number d in
      let a = count_bound (λ m. not (divided_by? (leading_monomials L.basis) m)) (in_components q.n q.degrees d (from 1 (length q.degrees))) in
      let b = all_number q.n d F.some_there F.eight h q.degrees in
      let c = column_few q.n d F.some_there F.eight h q.degrees in
      let f = F.each_component in
      omega (arith, v, e, a, b, c, f)

  pub values_right : T (paged? lim) → T (sound? lim X) → ValuesRight q L.basis ([] ∷ below) (hilbert_lines X)
  values_right p s = record {
    value = hilbert_value q.n (column_degrees X);
    text = refl;
    counts = value_is;
    listed = standard_right.listed q F.eight L.basis;
    sums = λ d h.
        let e = parts d h in
        let v = value_is d h in
        let a = added_is X F.some_there F.eight F.each_component d h (few_columns lim o p X s) in
        let b = taken_is X F.some_there F.eight F.each_component d h (few_columns lim o p X s) in
        omega (arith, e, v, a, b);
    few = value_few;
    narrow = narrow;
    short = all_short (hilbert_value q.n (column_degrees X)) narrow;
  }
    where
      narrow : (d : ℕ) → d < hilbert_degrees → length (printed letter_H (d ∷ hilbert_value q.n (column_degrees X) d ∷ [])) ≤ h_line_length
      narrow d h = line_narrow d (hilbert_value q.n (column_degrees X) d) h (let b = (sums_fit lim o p X s d h).0 in omega (arith, b))

-- ## The last level is empty

module _ (lim : Limits) (o : T (sensible? lim)) (ends : LevelsEnd lim) (one : (code : ℕ) → lim.numbering code ≡ 1) (room : lim.variables < lim.levels) where
  few_variables : (bytes : Bytes) (q : Parameters) (f : Level) → WellFormedFile lim bytes q f → q.n ≤ lim.variables
  few_variables bytes q f w =
      between_high 1 q.n lim.variables (and_left (between 1 q.n lim.variables)
      (between 1 q.code 3 and between 1 q.s lim.components)
      (sound_says lim (basis_state (q, f)) ((demand_2 lim o).well_formed bytes q f w)).ranges)

  pub last_empty : (bytes : Bytes) (q : Parameters) (g : Level) (below : List Level) (L : Listed lim bytes q g below) → GröbnerBasis q [] L.basis
      → (g ≡ []) ⊎ (length below ≡ lim.levels) → g ≡ []
  last_empty bytes q g below L b (inl e) = e
  last_empty bytes q g below L b (inr e) =
      let E = (ends.files bytes q L.basis L.well_formed b (length below) (g ∷ below) L.reckoned).1 in
      let n = few_variables bytes q L.basis L.well_formed in
      let z : 0 ≡ suc (length below) - suc (length below) = omega arith in
      ap (λ i. highest (drop i (g ∷ below))) z ∙ E.ends (length below) (omega arith) (omega (arith, e, n, room))

-- ## Lines of the same values

pub lines_same : (value value' : ℕ → ℕ) (k i : ℕ) → ((d : ℕ) → i ≤ d → d < i + k → value d ≡ value' d)
    → h_lines value (from i k) ≡ h_lines value' (from i k)
lines_same value value' zero i h = refl
lines_same value value' (suc k) i h =
    ap₂ (λ v r. printed letter_H (i ∷ v ∷ []) ++ r) (h i (omega arith) (omega arith))
    (lines_same value value' k (suc i) (λ d l m. h d (omega (arith, l)) (omega (arith, m))))
