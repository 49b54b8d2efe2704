-- The reader is right within sensible limits.
use Prim.Native.Nat.{ℕ, suc, ◌≤◌}
use native.Mathlib.Omega.{arith}
use lib.Dec.{T, leb, leb→le}
use lib.ListN.{length, get_or}
use Rattle.definitions.specs.Limits.{Limits}
use Rattle.laws.proofs.Tests.{every_at}
use Rattle.files.specs.Files.{Wide, Roomy}
use Rattle.files.specs.Answers.{ReaderRight}
use Rattle.files.proofs.Reader.{reader_right}
use Rattle.demands.specs.Demands.{readable, sensible?}
use Rattle.demands.proofs.Over.{few_variables, small_exponents, are_readable}

module _ (lim : Limits) (o : T (sensible? lim)) where
  at_most : (i : ℕ) → suc i ≤ length (readable lim) → (get_or (readable lim) i (0, 0)).0 ≤ (get_or (readable lim) i (0, 0)).1
  at_most i l =
      leb→le (get_or (readable lim) i (0, 0)).0 (get_or (readable lim) i (0, 0)).1
      (every_at (λ (x : ℕ × ℕ). leb x.0 x.1) (readable lim) i (0, 0) (are_readable lim o) l)

  pub wide : Wide lim
  wide =
      let f : 255 ≤ lim.field = at_most 0 (omega arith) in
      record {
        variables_in_eight = few_variables lim o;
        code_in_field = omega arith;
        prime_in_field = at_most 1 (omega arith);
        variables_in_field = omega (arith, few_variables lim o);
        components_in_field = at_most 2 (omega arith);
        elements_in_field = at_most 3 (omega arith);
        exponent_in_field = omega (arith, small_exponents lim o);
        t_lines_in_field = at_most 4 (omega arith);
        degree_in_field = f;
        weight_in_field = omega (arith, f);
      }

  roomy : Roomy lim
  roomy = record {
    a_prime = at_most 5 (omega arith);
    a_variable = at_most 6 (omega arith);
    a_component = at_most 7 (omega arith);
    an_element = at_most 8 (omega arith);
    a_term = at_most 9 (omega arith);
  }

  pub files : ReaderRight lim
  files = reader_right lim wide roomy
