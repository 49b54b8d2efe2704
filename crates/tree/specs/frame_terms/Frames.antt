-- The vectors of frame terms by the tree, and the code's answers as the definitions' ones.
use Rattle.std.specs.Prelude.{ℕ, ◌+◌, ◌≤◌, Result as CodeResult, Ok, Err}
use Rattle.definitions.specs.Monomial.{Monomial, Vector}
use Rattle.definitions.specs.Order.{Comparison}
use Rattle.definitions.specs.Result.{Result, done, refusal, ◌>>=◌}
use Rattle.definitions.specs.Stage.{Stage}
use Rattle.definitions.specs.Tree.{Cache, Subtree, Sum, add_result, tree}
use Rattle.definitions.specs.Lifting as lifting
use Rattle.definitions.specs.Lifting.{with_vector}
use Rattle.definitions.specs.Layout.{Words}
use Rattle.runs.specs.declared.reduction.Ground.{Ground}
use Rattle.cache.specs.Entries.{cache_of}
use Rattle.runs.specs.frame_terms.Vectors.{lifted_vectors, Kept}
use Rattle.runs.specs.declared.frame_terms.Lifted.{Lifted}
use Rattle.runs.specs.declared.frame_terms.Lifted.TheVariants.{Rows, Stopped}
use Rattle.words.specs.declared.refusals.Refusal.{Refusal}
use Rattle.words.specs.refusals.Numbers.{number_of}

-- what a lifting gave, times c, into the vector: nothing is taken off the vector's own limit
abbrev pub added_vector : (Monomial → Monomial → Comparison) → ℕ → ℕ → ℕ → Vector → Result Subtree → Result Sum
added_vector order p limit c total r = r >>= λ s. add_result order p limit 0 c s.0 total >>= λ grown. done (grown, s.2)

-- one frame term's vector beside those before it, and the cache for the next one
abbrev pub lifted_one : Stage → ℕ → lifting.Lifted → Cache → Monomial → Result (lifting.Lifted × Cache)
lifted_one S room l cache m = tree S room cache m >>= λ s. with_vector S l s >>= λ l'. done (l', s.1)

abbrev pub one_of : CodeResult (ℕ × ℕ) Refusal → ℕ → Words → Words → Result (lifting.Lifted × Cache)
one_of (Ok x) i out cache = done ((lifted_vectors out (i + 1), x.0), cache_of x.1 cache)
one_of (Err e) i out cache = refusal (number_of e)

abbrev pub After : Ground → ℕ → ℕ → CodeResult (ℕ × ℕ) Refusal → Words → Type 0
After g i room (Ok x) out = (x.0 ≤ g.room) × (x.1 ≤ room) × Kept (i + 1) x.0 out
After g i room (Err e) out = Unit {0}

-- the tree never stops at a value without a reducer
abbrev pub Unstopped : CodeResult Lifted Refusal → Type 0
Unstopped (Ok (Rows used)) = Unit {0}
Unstopped (Ok (Stopped rows_left)) = ⊥
Unstopped (Err e) = Unit {0}
