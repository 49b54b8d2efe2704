-- A frame term replayed, from its first products on.
use mathlib.Core.Path.{◌≡◌, ap, ◌∙◌}
use mathlib.Core.Bool.{true}
use mathlib.Core.List.{List, [], ◌∷◌}
use Prim.Native.Nat.{ℕ}
use Rattle.definitions.specs.Limits.{document_01}
use Rattle.definitions.specs.Monomial.{Monomial, Vector, vector_of}
use Rattle.definitions.specs.Result.{Result, done, refused, refusal, at_level, ◌>>=◌}
use Rattle.definitions.specs.Stage.{Stage}
use Rattle.definitions.specs.Run.{add_products}
use Rattle.definitions.specs.Problem.{Line}
use Rattle.definitions.specs.Replay.{p_lines}
use Rattle.definitions.specs.Places.{most_picks}
use Rattle.replaying.specs.over.Vectors.{replay_term}

module _ (S : Stage) (n k place : ℕ) (m : Monomial) (ls : List Line) where
  abbrev first_products : Result Vector
  first_products = add_products S.reduction true 1 m.0 (vector_of S.family m.1) []

  abbrev goes_on : Result Vector → Result Vector
  goes_on x = at_level k (x >>= λ v. done (record { value = v; vector = (1, m) ∷ [] })) >>= λ r.
      p_lines most_picks S document_01.field n k place 0 r ls

  pub start_refused : (number : ℕ) → refusal number ≡ first_products → refused number k [] ≡ replay_term S n k place m ls
  start_refused number e = ap goes_on e

  pub from_start : (value vector : Vector) (x : Result Vector) → done value ≡ first_products → vector ≡ (1, m) ∷ []
      → x ≡ p_lines most_picks S document_01.field n k place 0 (record { value = value; vector = vector }) ls → x ≡ replay_term S n k place m ls
  from_start value vector x e o h =
      h ∙ ap (λ u. p_lines most_picks S document_01.field n k place 0 (record { value = value; vector = u }) ls) o ∙ ap goes_on e
