-- "Levels are lifted as for the sheet": the levels that a page counts are those that the sheet lists.
use mathlib.Core.Path.{◌≡◌, refl, sym, ap, ◌∙◌, subst}
use mathlib.Core.Logic.{◌⊎◌, inl, inr}
use mathlib.Core.Bool.{Bool, not}
use mathlib.Core.Option.{Option, none, some}
use mathlib.Core.List.{List, [], ◌∷◌, ◌++◌, append-nil, append_assoc}
use Prim.Native.Nat.{ℕ, zero, suc, ◌+◌, ◌-◌, ◌<◌}
use native.Mathlib.Omega.{arith}
use lib.Dec.{T}
use lib.ListN.{length, drop}
use Rattle.definitions.specs.Limits.{Limits}
use Rattle.definitions.specs.Lists.{◌then◌, every, empty?}
use Rattle.definitions.specs.Monomial.{Level}
use Rattle.definitions.specs.Result.{Result, done, refused, unfinished, ◌>>=◌}
use Rattle.definitions.specs.Stage.{highest}
use Rattle.definitions.specs.Lifting.{by_hybrid}
use Rattle.definitions.specs.Problem.{Bytes, Parameters}
use Rattle.definitions.specs.State.{State, up_to}
use Rattle.definitions.specs.Sheet.{x_lines, level_lines, if_more, level_then, levels_from}
use Rattle.definitions.specs.Program.{unless_empty, lifted_from}
use Rattle.laws.proofs.Tests.{and_right, between_shown}
use Rattle.files.specs.Files.{WellFormedFile}
use Rattle.demands.specs.Demands.{sensible?, limit?, printed_levels, Listed}
use Rattle.demands.proofs.Over.{LiftRight}
use Rattle.demands.proofs.Reckonings.{tower_reckons}
use Rattle.demands.proofs.Lifts
use Rattle.demands.proofs.Lifts.{LiftedTo, one_more, still_lifting, lifted_to}
use Rattle.demands.proofs.Held.{Standing, level_stands}

abbrev pub filled? : Level → Bool
filled? f = not (empty? f)

-- standing levels of a file are listed
abbrev pub listed : (lim : Limits) (bytes : Bytes) (q : Parameters) (f : Level) → WellFormedFile lim bytes q f → (g : Level) (below : List Level)
    → Standing lim q f (length below) (g ∷ below) → T (every filled? below) → Listed lim bytes q g below
listed lim bytes q f w g below s t = record {
  basis = f;
  well_formed = w;
  reckoned = tower_reckons lim q f (g ∷ below) (length below) s.height s.tower;
  exact = s.exact;
  filled = t;
}

-- From levels that stand on: what programs go on with, and the bytes that the sheet prints behind those of these levels.
pub data Goes_on (lim : Limits) (q : Parameters) (f g : Level) (below : List Level) : Result State → Option Bytes → Type 0 where
  all_lifted : {h : Level} {under : List Level} {bytes : Bytes} → Standing lim q f (length under) (h ∷ under) → T (every filled? under)
      → (h ≡ []) ⊎ (length under ≡ lim.levels) → printed_levels q.n (h ∷ under) ≡ printed_levels q.n (g ∷ below) ++ bytes
      → Goes_on lim q f g below (done (record { parameters = q; levels = h ∷ under })) (some bytes)
  limit_met : {bytes : Bytes} (h : Level) (under : List Level) (number : ℕ) → Standing lim q f (length under) (h ∷ under) → T (every filled? under)
      → T (limit? number)
      → printed_levels q.n (h ∷ under) ++ x_lines q.n number (suc (length under)) [] ≡ printed_levels q.n (g ∷ below) ++ bytes
      → Goes_on lim q f g below (refused number (suc (length under)) []) (some bytes)
  open_yet : Goes_on lim q f g below unfinished none

module _ (lim : Limits) (o : T (sensible? lim)) (q : Parameters) (f : Level) (bound : ℕ) where
  abbrev so_far : Level → List Level → State
  so_far g below = record { parameters = q; levels = g ∷ below }

  all_stay : (g : Level) (below : List Level) → up_to (so_far g below) (suc (length below) - 1) ≡ g ∷ below
  all_stay g below = let z : suc (length below) - suc (suc (length below) - 1) ≡ 0 = omega arith in ap (λ i. drop i (g ∷ below)) z

  next : (g : Level) (below : List Level) → Standing lim q f (length below) (g ∷ below) → length below < lim.levels → (h : Level)
      → LiftRight lim q (up_to (so_far g below) (suc (length below) - 1)) h → Standing lim q f (suc (length below)) (h ∷ g ∷ below)
  next g below s l h w =
      subst (λ z. Standing lim q f (suc (length below)) (h ∷ z)) (all_stay g below)
      (level_stands lim o q f (g ∷ below) (length below) (suc (length below)) s (between_shown 1 (suc (length below)) lim.levels (omega arith) l)
      (let z : suc (length below) - 1 < suc (length below) = omega arith in z) h w)

  -- a level more
  one_down : (g h : Level) (below : List Level) {x : Result State} {y : Option Bytes} → Goes_on lim q f h (g ∷ below) x y
      → Goes_on lim q f g below x (y then λ bytes. some (level_lines q.n (suc (length below)) h ++ bytes))
  one_down g h below (all_lifted {bytes = bytes} s t e p) =
      all_lifted s t e (p ∙ append_assoc (printed_levels q.n (g ∷ below)) (level_lines q.n (suc (length below)) h) bytes)
  one_down g h below (limit_met {bytes} top under number s t u p) =
      limit_met top under number s t u (p ∙ append_assoc (printed_levels q.n (g ∷ below)) (level_lines q.n (suc (length below)) h) bytes)
  one_down g h below open_yet = open_yet

  pub goes_on : (left : ℕ) (g : Level) (below : List Level) → Standing lim q f (length below) (g ∷ below) → T (every filled? (g ∷ below))
      → left + length below ≡ lim.levels
      → Goes_on lim q f g below (lifted_from lim bound left (suc (length below)) (so_far g below))
      (levels_from lim bound left (suc (length below)) (so_far g below))
  goes_on zero g below s t l =
      all_lifted s (and_right (filled? g) (every filled? below) t) (inr (omega arith)) (sym (append-nil (printed_levels q.n (g ∷ below))))
  goes_on (suc left) g below s t l =
      go (lifted_to lim o (so_far g below) s.sound k (by_hybrid 2 lim.working) bound) (λ h st u. goes_on left h (g ∷ below) st u (omega arith))
    where
      k : ℕ
      k = suc (length below)

      Further : Type 0
      Further = (h : Level) → Standing lim q f k (h ∷ g ∷ below) → T (every filled? (h ∷ g ∷ below))
          → Goes_on lim q f h (g ∷ below) (lifted_from lim bound left (suc k) (so_far h (g ∷ below)))
          (levels_from lim bound left (suc k) (so_far h (g ∷ below)))

      grown : (h : Level) → Standing lim q f k (h ∷ g ∷ below) → Further
          → Goes_on lim q f g below (unless_empty (empty? h) (so_far h (g ∷ below)) (λ Z. lifted_from lim bound left (suc k) Z))
          (if_more (empty? h) q.n k h (λ u. levels_from lim bound left (suc k) (so_far h (g ∷ below))))
      grown [] st more = all_lifted st t (inl refl) refl
      grown (v ∷ h) st more = one_down g (v ∷ h) below (more (v ∷ h) st t)

      go : {x : Result State} → LiftedTo lim (so_far g below) k x → Further
          → Goes_on lim q f g below (x >>= λ Y. unless_empty (empty? (highest Y.levels)) Y (λ Z. lifted_from lim bound left (suc k) Z))
          (level_then q.n k (λ Y. levels_from lim bound left (suc k) Y) x)
      go (one_more h w) more =
          subst (λ z. Goes_on lim q f g below
          (unless_empty (empty? h) (record { parameters = q; levels = h ∷ z }) (λ Z. lifted_from lim bound left (suc k) Z))
          (if_more (empty? h) q.n k h (λ u. levels_from lim bound left (suc k) (record { parameters = q; levels = h ∷ z })))) (sym (all_stay g below))
          (grown h (next g below s (omega (arith, l)) h w) more)
      go (Lifts.limit_met {number} u) more = limit_met g below number s (and_right (filled? g) (every filled? below) t) u refl
      go still_lifting more = open_yet
