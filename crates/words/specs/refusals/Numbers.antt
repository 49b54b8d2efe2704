-- The refusals' numbers.
use Rattle.std.specs.Prelude.{ℕ}
use Rattle.words.specs.declared.refusals.Refusal.{Refusal}
use Rattle.words.specs.declared.refusals.Refusal.TheVariants.{
  Shape,
  Modulus,
  Parameters,
  Term,
  Element,
  Order,
  Count,
  Lines,
  NoReducer,
  State,
  Index,
  Exponent,
  Terms,
  Level,
  Buffer,
  Degree,
  DegreeRange,
  Elements,
  LevelNine,
  LogLine,
  Pick,
  VectorLine,
  WeightRange,
  Bidegree,
}

-- the number by which docs/SPECIFICATION.md knows a refusal
abbrev pub number_of : Refusal → ℕ
number_of Shape = 1
number_of Modulus = 2
number_of Parameters = 3
number_of Term = 4
number_of Element = 5
number_of Order = 6
number_of Count = 7
number_of Lines = 8
number_of NoReducer = 9
number_of State = 11
number_of Index = 12
number_of Exponent = 13
number_of Terms = 14
number_of Level = 15
number_of Buffer = 16
number_of Degree = 17
number_of DegreeRange = 18
number_of Elements = 19
number_of LevelNine = 20
number_of LogLine = 21
number_of Pick = 22
number_of VectorLine = 23
number_of WeightRange = 24
number_of Bidegree = 25
