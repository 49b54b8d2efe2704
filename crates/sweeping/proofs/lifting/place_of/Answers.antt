use Rattle.std.proofs.Common.{◌≡◌, ℕ, refl, sym, ap}
use Rattle.definitions.specs.Lifting.{accepting_place}
use Rattle.words.specs.refusals.Numbers.{number_of}
use Rattle.words.specs.declared.refusals.Refusal.{Refusal}
use Rattle.words.specs.declared.refusals.Refusal.TheVariants.{Shape, Modulus, Parameters, Term, Element, Order, Count, Lines, NoReducer, State, Index, Exponent, Terms, Level, Buffer, Degree, DegreeRange, Elements, LevelNine, LogLine, Pick, VectorLine, WeightRange, Bidegree}
use Rattle.sweeping.proofs.lifting.place_of.Goals as goal

-- any refusal but that of a term without a reducer
level_zero : (e : Refusal) (i : ℕ) → (e ≡ NoReducer → ⊥) → 0 ≡ accepting_place i (number_of e)
level_zero Shape i h = refl
level_zero Modulus i h = refl
level_zero Parameters i h = refl
level_zero Term i h = refl
level_zero Element i h = refl
level_zero Order i h = refl
level_zero Count i h = refl
level_zero Lines i h = refl
level_zero NoReducer i h = absurd (h refl)
level_zero State i h = refl
level_zero Index i h = refl
level_zero Exponent i h = refl
level_zero Terms i h = refl
level_zero Level i h = refl
level_zero Buffer i h = refl
level_zero Degree i h = refl
level_zero DegreeRange i h = refl
level_zero Elements i h = refl
level_zero LevelNine i h = refl
level_zero LogLine i h = refl
level_zero Pick i h = refl
level_zero VectorLine i h = refl
level_zero WeightRange i h = refl
level_zero Bidegree i h = refl

pub returns-in-NoReducer : goal.returns-in-NoReducer
returns-in-NoReducer c = sym (ap (λ e. accepting_place c.args.i (number_of e)) c.in-NoReducer.is)

pub returns-in_default : goal.returns-in_default
returns-in_default c = level_zero c.args.refusal c.args.i c.in_default.not-NoReducer
