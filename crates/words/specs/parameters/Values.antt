-- The parameters' values.
use Rattle.std.specs.Prelude.{replicate}
use Rattle.definitions.specs.Problem as definition
use Rattle.words.specs.declared.parameters.Parameters.{Parameters}

-- the code's parameters as the definitions' ones: the R line's, with degrees 0
abbrev pub parameters_of : Parameters → definition.Parameters
parameters_of q = record { p = q.p; n = q.n; code = q.code; s = q.s; degrees = replicate q.s 0 }
