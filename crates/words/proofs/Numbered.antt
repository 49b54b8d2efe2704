-- Laws of the refusals' numbers.
use native.Mathlib.Omega.{arith}
use Rattle.std.specs.Prelude.{◌≤◌}
use Rattle.words.specs.refusals.Numbers.{number_of}
use Rattle.words.specs.declared.refusals.Refusal.{Refusal}
use Rattle.words.specs.declared.refusals.Refusal.TheVariants.{
  Shape,
  Modulus,
  Parameters,
  Term,
  Element,
  Order,
  Count,
  Lines,
  NoReducer,
  State,
  Index,
  Exponent,
  Terms,
  Level,
  Buffer,
  Degree,
  DegreeRange,
  Elements,
  LevelNine,
  LogLine,
  Pick,
  VectorLine,
  WeightRange,
  Bidegree,
}

-- none is 0
pub number_positive : (e : Refusal) → 1 ≤ number_of e
number_positive Shape = omega arith
number_positive Modulus = omega arith
number_positive Parameters = omega arith
number_positive Term = omega arith
number_positive Element = omega arith
number_positive Order = omega arith
number_positive Count = omega arith
number_positive Lines = omega arith
number_positive NoReducer = omega arith
number_positive State = omega arith
number_positive Index = omega arith
number_positive Exponent = omega arith
number_positive Terms = omega arith
number_positive Level = omega arith
number_positive Buffer = omega arith
number_positive Degree = omega arith
number_positive DegreeRange = omega arith
number_positive Elements = omega arith
number_positive LevelNine = omega arith
number_positive LogLine = omega arith
number_positive Pick = omega arith
number_positive VectorLine = omega arith
number_positive WeightRange = omega arith
number_positive Bidegree = omega arith

pub number_small : (e : Refusal) → number_of e ≤ 25
number_small Shape = omega arith
number_small Modulus = omega arith
number_small Parameters = omega arith
number_small Term = omega arith
number_small Element = omega arith
number_small Order = omega arith
number_small Count = omega arith
number_small Lines = omega arith
number_small NoReducer = omega arith
number_small State = omega arith
number_small Index = omega arith
number_small Exponent = omega arith
number_small Terms = omega arith
number_small Level = omega arith
number_small Buffer = omega arith
number_small Degree = omega arith
number_small DegreeRange = omega arith
number_small Elements = omega arith
number_small LevelNine = omega arith
number_small LogLine = omega arith
number_small Pick = omega arith
number_small VectorLine = omega arith
number_small WeightRange = omega arith
number_small Bidegree = omega arith
