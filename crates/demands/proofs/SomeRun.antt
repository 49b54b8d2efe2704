-- A refused reading is some run's: what its form says of a run, whatever the steps.
use mathlib.Core.Path.{◌≡◌}
use Prim.Native.Nat.{ℕ}
use Rattle.definitions.specs.Limits.{document_01}
use Rattle.definitions.specs.Monomial.{Vector}
use Rattle.definitions.specs.Result.{refused}
use Rattle.definitions.specs.Problem.{Bytes}
use Rattle.definitions.specs.Calls.{read}
use Rattle.demands.specs.Demands.{RefusedReading, ill_formed, not_accepted, no_basis, limit_met}
use Rattle.demands.proofs.Demand2.{demand_2_of_document_01}

pub run_of : (file : Bytes) (number place : ℕ) (value : Vector) → RefusedReading document_01 file number place value
    → (bound : ℕ) × (read document_01 bound file ≡ refused number place value)
run_of file number place value (ill_formed r) = (0, demand_2_of_document_01.ill_formed 0 file number place r)
run_of file number place value (not_accepted (no_basis bound w d t s)) = (bound, d)
run_of file number place value (not_accepted (limit_met bound w d l)) = (bound, d)
