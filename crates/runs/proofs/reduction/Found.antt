-- A3 of the code's search: the term that `greatest` finds is the greatest of the working value, in document 01's order over the levels of a sound
-- state.
use mathlib.Core.Path.{◌≡◌, sym, ap, ◌∙◌, subst}
use mathlib.Core.Option.{some}
use mathlib.Core.List.{List}
use Prim.Native.Nat.{ℕ, zero, suc, ◌-◌}
use lib.Dec.{T, eqb}
use lib.ListN.{length, drop, get_or}
use Rattle.definitions.specs.Limits.{Limits}
use Rattle.definitions.specs.Lists.{every}
use Rattle.definitions.specs.Monomial.{Level, no_term}
use Rattle.definitions.specs.Order.{compare_over}
use Rattle.definitions.specs.Run.{greatest}
use Rattle.definitions.specs.State.{State, sound?, up_to}
use Rattle.definitions.specs.Packed.{low_bytes}
use Rattle.definitions.specs.Layout.{Words, row_at, rows}
use Rattle.laws.proofs.Tests.{and_both}
use Rattle.laws.proofs.Rows.{rows_first}
use Rattle.laws.proofs.Sound.{sound_says}
use Rattle.comparing.specs.Above.{GreatestOf}
use Rattle.picking.specs.Running.{monomials}
use Rattle.picking.proofs.Running.{a3}
use Rattle.orders.specs.Images.{table_order}
use Rattle.orders.specs.Levels.{images}
use Rattle.orders.proofs.Induced.{AllLed, no_levels, one_level, table_order_is, sound_led}
use Rattle.runs.proofs.reduction.Adding.{rows_none}

led_dropped : (n : ℕ) (ls : List Level) → AllLed ls → AllLed (drop n ls)
led_dropped zero ls h = h
led_dropped (suc n) ls no_levels = no_levels
led_dropped (suc n) ls (one_level {f} {below} h hs) = led_dropped n below hs

-- a row has eight exponents
row_eight : (s : Words) (i : ℕ) → T (eqb (length (row_at s i).1.0) 8)
unfolding row_at low_bytes
row_eight s i = tt

rows_eight : (s : Words) (i n : ℕ) → T (every (λ t. eqb (length t.1.0) 8) (rows s i n))
rows_eight s i zero = subst (λ v. T (every (λ t. eqb (length t.1.0) 8) v)) (sym (rows_none s i)) tt
rows_eight s i (suc n) =
    subst (λ v. T (every (λ t. eqb (length t.1.0) 8) v)) (sym (rows_first s i n))
    (and_both (eqb (length (row_at s i).1.0) 8) (every (λ t. eqb (length t.1.0) 8) (rows s (suc i) n)) (row_eight s i) (rows_eight s (suc i) n))

pub found_greatest : (lim : Limits) (X : State) → T (sound? lim X) → (k : ℕ) (value : Words) (n r : ℕ)
    → some r ≡ greatest (table_order X.parameters.code (images (up_to X k))) (rows value 0 n)
    → GreatestOf X.parameters.code (up_to X k) (monomials (rows value 0 n)) (get_or (rows value 0 n) r no_term).1
found_greatest lim X s k value n r e =
    let q = X.parameters in
    let led = led_dropped (length X.levels - suc k) X.levels (sound_led lim q X.levels (sound_says lim X s).levels) in
    let same : table_order q.code (images (up_to X k)) ≡ compare_over q.code (up_to X k) =
    λ i m m'. table_order_is q.code (up_to X k) led m m' i in
    (a3 lim).is_greatest X s k (rows value 0 n) (rows_eight value 0 n) r (sym (e ∙ ap (λ o. greatest o (rows value 0 n)) same))
