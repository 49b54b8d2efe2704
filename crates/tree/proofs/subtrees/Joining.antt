-- A subtree added to its parent's sum, and what the functions are lent, again.
use mathlib.Core.Path.{◌≡◌, refl, sym, ap, ◌∙◌, subst}
use Prim.Native.Nat.{ℕ, ◌-◌, ◌≤◌}
use native.Mathlib.Omega.{arith}
use Rattle.definitions.specs.Monomial.{Monomial, Vector}
use Rattle.definitions.specs.Order.{Comparison}
use Rattle.definitions.specs.Result.{Result, done, ◌>>=◌}
use Rattle.definitions.specs.Tree.{add_result}
use Rattle.definitions.specs.Layout.{Words, rows}
use Rattle.std.specs.Prelude.{Option, Some, None, Result as CodeResult, Ok}
use Rattle.words.specs.declared.refusals.Refusal.{Refusal}
use Rattle.cache.specs.Area.{grown_of, Room}
use Rattle.cache.specs.Entries.{cache_of, subtree_of}
use Rattle.cache.specs.declared.Subtree.{Subtree}
use Rattle.cache.specs.declared.Subtree.TheVariants.{Cached, Waiting}
use Rattle.tree.specs.subtrees.Sums.{sum_of, Fits, joined_as, added_to}

joined_is : (a used : ℕ) (c z : Words) (x : Option ℕ) → sum_of a (joined_as x used) c z ≡ (grown_of a x z >>= λ y. done (y, cache_of used c))
joined_is a used c z (Some n) = refl
joined_is a used c z None = refl

pub fits_joined : (a top limit room used : ℕ) (x : Option ℕ) (z : CodeResult (ℕ × ℕ) Refusal) → z ≡ joined_as x used → Room a top x → top ≤ limit → used ≤ room
    → Fits a limit room z
fits_joined a top limit room used x z e h l k = subst (λ y. Fits a limit room y) (sym e) (go x h)
  where
    go : (x : Option ℕ) → Room a top x → Fits a limit room (joined_as x used)
    go (Some n) h = (omega arith, k)
    go None h = tt

module _ (O : Monomial → Monomial → Comparison) (p limit a b : ℕ) (total : Vector) (c w z : Words) where
  pub cached_joins : (from n used : ℕ) (x : Option ℕ) (s : Subtree) (r : CodeResult (ℕ × ℕ) Refusal) → s ≡ Cached from n used → r ≡ joined_as x used → grown_of a x z
      ≡ add_result O p limit a b (rows c from n) total
      → sum_of a r c z ≡ added_to O p limit a b total (subtree_of limit (Ok s) c w)
  cached_joins from n used x s r e q m =
      let l : limit ≡ limit - 0 = omega arith in
      ap (λ y. sum_of a y c z) q ∙ joined_is a used c z x ∙ ap (λ (y : Result Vector). y >>= λ v. done (v, cache_of used c))
      (m ∙ ap (λ j. add_result O p j a b (rows c from n) total) l)
      ∙ ap (λ y. added_to O p limit a b total (subtree_of limit (Ok y) c w)) (sym e)

  pub waiting_joins : (n used : ℕ) (x : Option ℕ) (s : Subtree) (r : CodeResult (ℕ × ℕ) Refusal) → s ≡ Waiting n used → r ≡ joined_as x used → grown_of a x z
      ≡ add_result O p (limit - n) a b (rows w (limit - n) n) total
      → sum_of a r c z ≡ added_to O p limit a b total (subtree_of limit (Ok s) c w)
  waiting_joins n used x s r e q m =
      ap (λ y. sum_of a y c z) q ∙ joined_is a used c z x ∙ ap (λ (y : Result Vector). y >>= λ v. done (v, cache_of used c)) m
      ∙ ap (λ y. added_to O p limit a b total (subtree_of limit (Ok y) c w)) (sym e)
