-- Sums that subtrees are added to, and what all functions of the recursion are lent.
use Rattle.std.specs.Prelude.{ℕ, zero, suc, ◌+◌, ◌-◌, ◌*◌, ◌<◌, ◌≤◌, length, Option, Some, None, Result as CodeResult, Ok, Err}
use Rattle.definitions.specs.Monomial.{Monomial, Vector}
use Rattle.definitions.specs.Order.{Comparison}
use Rattle.definitions.specs.Result.{Result, done, refusal, ◌>>=◌}
use Rattle.definitions.specs.Stage.{Stage}
use Rattle.definitions.specs.Tree as definition
use Rattle.definitions.specs.Tree.{LiftList, add_result, lift_list, lift_term}
use Rattle.definitions.specs.Layout.{Words, rows}
use Rattle.definitions.specs.Places.{row_length}
use Rattle.words.specs.declared.refusals.Refusal.{Refusal}
use Rattle.words.specs.declared.refusals.Refusal.TheVariants.{Terms}
use Rattle.words.specs.refusals.Numbers.{number_of}
use Rattle.runs.specs.reduction.Grounds.{ends_in, above_in, Tables, Family}
use Rattle.runs.specs.declared.reduction.Ground.{Ground}
use Rattle.runs.specs.run.Stages.{Images}
use Rattle.cache.specs.Entries.{cache_of}

-- the tables, the level below, the work area and the cache, of which so many rows are used
pub record Lent (g : Ground) (used room : ℕ) (cache work level tables_at : Words) : Type 0 where
  pub used_fits : used ≤ room
  pub room_fits : room * row_length ≤ length cache
  pub tree_fits : g.tree * row_length ≤ length work
  pub tree_small : g.tree < 65536
  pub tables : Tables g tables_at
  pub family : Family g level (ends_in tables_at)
  pub images : Images g.r (above_in tables_at)

-- a sum from row a of the work area on, and the cache
abbrev pub sum_of : ℕ → CodeResult (ℕ × ℕ) Refusal → Words → Words → Result definition.Sum
sum_of a (Ok x) cache work = done (rows work a x.0, cache_of x.1 cache)
sum_of a (Err e) cache work = refusal (number_of e)

abbrev pub Fits : ℕ → ℕ → ℕ → CodeResult (ℕ × ℕ) Refusal → Type 0
Fits a limit room (Ok x) = (a + x.0 ≤ limit) × (x.1 ≤ room)
Fits a limit room (Err e) = Unit {0}

abbrev pub joined_as : Option ℕ → ℕ → CodeResult (ℕ × ℕ) Refusal
joined_as (Some n) used = Ok (n, used)
joined_as None used = Err Terms

-- what a lifting gave, times c, into the sum beside which others count: the terms that it counts are taken off the limit
abbrev pub added_to : (Monomial → Monomial → Comparison) → ℕ → ℕ → ℕ → ℕ → Vector → Result definition.Subtree → Result definition.Sum
added_to order p limit others c total r = r >>= λ s. add_result order p (limit - s.1) others c s.0 total >>= λ grown. done (grown, s.2)

-- the lifting of a list where so many subtrees may still be opened, the list's own counted
abbrev pub list_at : Stage → ℕ → ℕ → LiftList
list_at S room zero = λ others c q f s. refusal 14
list_at S room (suc left) = lift_list S (lift_term S room left)
