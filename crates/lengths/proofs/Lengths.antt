-- Request A10: levels, lists of calls and sheets end.
use mathlib.Core.Path.{◌≡◌, refl, sym, ap, ◌∙◌, subst}
use mathlib.Core.Logic.{◌⊎◌, inl, inr}
use mathlib.Core.Bool.{Bool, true, false, not}
use mathlib.Core.Option.{Option, none, some}
use mathlib.Core.List.{List, [], ◌∷◌}
use Prim.Native.Nat.{ℕ, zero, suc, ◌-◌, ◌<◌, ◌≤◌}
use native.Mathlib.Omega.{arith}
use lib.Dec.{T, leb, leb→le, nleb→lt}
use lib.ListN.{length, drop}
use Rattle.definitions.specs.Limits.{Limits, document_01}
use Rattle.definitions.specs.Lists.{◌and◌, every, between, empty?}
use Rattle.definitions.specs.Monomial.{Level, leading_monomials}
use Rattle.definitions.specs.Frame.{frame}
use Rattle.definitions.specs.Stage.{highest}
use Rattle.definitions.specs.Problem.{Bytes, Parameters}
use Rattle.definitions.specs.State.{State, empty, levels_sound?, sound?}
use Rattle.definitions.specs.Layout.{Words, meant, Lent, Left, lent_calls}
use Rattle.definitions.specs.Reckoning.{Reckoning, nothing, reckon_all, reckoned_level, reckoned_levels}
use Rattle.laws.proofs.Tests.{and_left, and_right, between_high}
use Rattle.laws.proofs.Sound.{Sound, sound_says}
use Rattle.laws.proofs.Reading.{basis_state}
use Rattle.files.specs.Files.{WellFormedFile}
use Rattle.demands.specs.Notions.{GröbnerBasis}
use Rattle.demands.specs.Exact.{Exact, Reckons}
use Rattle.demands.specs.Demands
use Rattle.demands.specs.Demands.{sensible?, level_of, numbered, left_by, Starts, Leaves, Listed, printed_levels}
use Rattle.demands.proofs.Results
use Rattle.demands.proofs.Results.{Holds, holds, holds_then, holds_at}
use Rattle.demands.proofs.Over.{sound_prime, sound_eight}
use Rattle.demands.proofs.Lifts.{sound_down}
use Rattle.demands.proofs.Demand1.{demand_1}
use Rattle.demands.proofs.Demand2.{demand_2}
use Rattle.demands.proofs.Demand3.{demand_3}
use Rattle.lengths.specs.Notions.{Prepared}
use Rattle.lengths.specs.Lengths.{EndsIn, EndedSheet, listing, cut_off, not_read, not_taken, LevelsEnd}
use Rattle.lengths.proofs.Rising.{level_leads, Rising, rising_ends, basis_in, some_variable}
use Rattle.lengths.proofs.Built.{reckoned_reached, reckoned_rising}

-- ## Levels that are exact

-- level 0
abbrev bottom : List Level → Level
bottom [] = []
bottom (f ∷ []) = f
bottom (g ∷ f ∷ below) = bottom (f ∷ below)

module _ (lim : Limits) (q : Parameters) where
  exact_rising : lim.numbering q.code ≡ 1 → (g : Level) (below : List Level) → Exact lim q (g ∷ below)
      → Rising (leading_monomials (bottom (g ∷ below))) (g ∷ below)
  exact_rising e g [] x = refl
  exact_rising e g (f ∷ below) x = (
    subst (λ c. leading_monomials g ≡ frame c (leading_monomials f)) e (level_leads q (lim.numbering q.code) (f ∷ below) g x.0),
    exact_rising e f below x.1,
  )

  bottom_sound : (g : Level) (below : List Level) → T (levels_sound? lim q (g ∷ below)) → T (levels_sound? lim q (bottom (g ∷ below) ∷ []))
  bottom_sound g [] s = s
  bottom_sound g (f ∷ below) s = bottom_sound f below (sound_down lim q g f below s)

  -- level 0 is a Gröbner basis
  bottom_basis : (g : Level) (below : List Level) → Exact lim q (g ∷ below) → GröbnerBasis q [] (bottom (g ∷ below))
  bottom_basis g [] x = x
  bottom_basis g (f ∷ below) x = bottom_basis f below x.1

bottom_is : (g : Level) (below : List Level) → bottom (g ∷ below) ≡ level_of (g ∷ below) 0
bottom_is g [] = refl
bottom_is g (f ∷ below) =
    let e : suc (suc (length below)) - 1 ≡ suc (suc (length below) - 1) = omega arith in
    bottom_is f below ∙ ap (λ i. highest (drop i (g ∷ f ∷ below))) (sym e)

-- level 0 of the reckoning is the basis
module _ (lim : Limits) (N p code : ℕ) (f : Level) where
  abbrev Over : List Level → Type 0
  Over levels = T (not (empty? levels)) × (bottom levels ≡ f)

  over_up : (g : Level) (levels : List Level) → Over levels → Over (g ∷ levels)
  over_up g [] o = absurd o.0
  over_up g (b ∷ levels) o = (tt, o.1)

  reckoned_bottom : (h : ℕ) → Holds Over (reckoned_levels lim N p code f h)
  reckoned_bottom zero = holds (tt, refl)
  reckoned_bottom (suc h) = holds_then (reckoned_bottom h) (λ levels o. holds_then (any_value (reckoned_level lim N p code levels))
      (λ g u. holds (over_up g levels o)))
    where
      any_value : (x : Option Level) → Holds (λ g. Unit {0}) x
      any_value none = Results.nothing
      any_value (some g) = holds tt

highest_is : (g : Level) (below : List Level) → level_of (g ∷ below) (length below) ≡ g
highest_is g below = let e : suc (length below) - suc (length below) ≡ 0 = omega arith in ap (λ i. highest (drop i (g ∷ below))) e

-- above level n nothing is left
high_empty : (n : ℕ) (f g : Level) (below : List Level) → EndsIn n f (g ∷ below) → n < length below → g ≡ []
high_empty n f g below x l = sym (highest_is g below) ∙ x.ends (length below) (omega arith) l

-- ## Files, and lists of calls

-- frame terms are numbered lexicographically, and there are more levels than variables
module _ (lim : Limits) (o : T (sensible? lim)) (one : (code : ℕ) → lim.numbering code ≡ 1) (room : lim.variables < lim.levels) where
  module _ (bytes : Bytes) (q : Parameters) (f : Level) (e : WellFormedFile lim bytes q f) where
    file_sound : T (sound? lim (basis_state (q, f)))
    file_sound = (demand_2 lim o).well_formed bytes q f e

    module _ (gb : GröbnerBasis q [] f) where
      abbrev X : State
      X = basis_state (q, f)

      says : Sound lim X
      says = sound_says lim X file_sound

      abbrev At : ℕ → Reckoning
      At h = record { basis = some (q, f); h = h }

      reckoned : (h : ℕ) → (levels : List Level) × (length levels ≡ suc h) × Reckons lim (At h) levels
      reckoned h = reckoned_reached lim q (sound_prime lim o X file_sound) (sound_eight lim o X file_sound) f says.levels gb h

      files : (h : ℕ) (levels : List Level) → Reckons lim (At h) levels → (length levels ≡ suc h) × EndsIn q.n f levels
      files h levels (N, r) =
          let (ls, l, k) = reckoned h in (
            ap length ((demand_3 lim o).one_reckoning (At h) levels ls (N, r) k) ∙ l,
            rising_ends q.n f levels (some_variable lim q says.ranges) (basis_in lim q f says.levels)
                (holds_at r (reckoned_rising lim q (sound_prime lim o X file_sound) (sound_eight lim o X file_sound) f says.levels gb
                (one q.code) N h)),
          )

      empty_at : (levels : List Level) → length levels ≡ suc (suc q.n) → Reckons lim (At (suc q.n)) levels → EndsIn q.n f levels
          → (below : List Level) × Reckons lim (At (suc q.n)) ([] ∷ below)
      empty_at [] l r x = absurd (omega arith)
      empty_at (g ∷ below) l r x = (below, subst (λ z. Reckons lim (At (suc q.n)) (z ∷ below)) (high_empty q.n f g below x (omega arith)) r)

      level_empty : (below : List Level) × Reckons lim (At (suc q.n)) ([] ∷ below)
      level_empty = let (levels, l, r) = reckoned (suc q.n) in empty_at levels l r (files (suc q.n) levels r).1

  none_held : (n : ℕ) (f : Level) → EndsIn n f []
  none_held n f = record {
    framed = λ k l. absurd (omega arith);
    free = λ p k l. absurd (omega arith);
    short = λ p k l. absurd (omega arith);
    ends = λ k l. absurd (omega arith);
  }

  held : (X : State) → Exact lim X.parameters X.levels → (X ≡ empty) ⊎ T (sound? lim X)
      → EndsIn X.parameters.n (level_of X.levels 0) X.levels
  held X x (inl e) = subst (λ (Y : State). EndsIn Y.parameters.n (level_of Y.levels 0) Y.levels) (sym e) (none_held 0 [])
  held X x (inr s) = go X.levels x (sound_says lim X s).levels
    where
      q : Parameters
      q = X.parameters

      go : (levels : List Level) → Exact lim q levels → T (levels_sound? lim q levels) → EndsIn q.n (level_of levels 0) levels
      go [] x t = absurd t
      go (g ∷ below) x t = subst (λ f. EndsIn q.n f (g ∷ below)) (bottom_is g below)
          (rising_ends q.n (bottom (g ∷ below)) (g ∷ below) (some_variable lim q (sound_says lim X s).ranges)
          (basis_in lim q (bottom (g ∷ below)) (bottom_sound lim q g below t)) (exact_rising lim q (one q.code) g below x))

  calls : (n : ℕ) (state : Words) (cs : List Lent) (ls : List Left) → lent_calls lim n state cs ≡ some ls → Starts state cs ls
      → EndsIn (meant lim (left_by state ls)).parameters.n (level_of (meant lim (left_by state ls)).levels 0) (meant lim (left_by state ls)).levels
  calls n state cs ls e s =
      let l : Leaves lim (reckon_all lim nothing (numbered lim cs ls)) (left_by state ls) = ((demand_3 lim o).calls n state cs ls e s).0 in
      held (meant lim (left_by state ls)) l.exact l.sound

  held_variables : (X : State) → (X ≡ empty) ⊎ T (sound? lim X) → X.parameters.n ≤ lim.variables
  held_variables X (inl e) = subst (λ (Y : State). Y.parameters.n ≤ lim.variables) (sym e) (omega arith)
  held_variables X (inr s) =
      let q = X.parameters in
      between_high 1 q.n lim.variables (and_left (between 1 q.n lim.variables)
      (between 1 q.code 3 and between 1 q.s lim.components)
      (sound_says lim X s).ranges)

  no_20 : (n : ℕ) (state : Words) (cs : List Lent) (ls : List Left) → lent_calls lim n state cs ≡ some ls → Starts state cs ls
      → lim.levels < length (meant lim (left_by state ls)).levels → level_of (meant lim (left_by state ls)).levels lim.levels ≡ []
  no_20 n state cs ls e s l =
      let X : State = meant lim (left_by state ls) in
      let v : X.parameters.n ≤ lim.variables = held_variables X ((demand_3 lim o).calls n state cs ls e s).0.sound in
      (calls n state cs ls e s).ends lim.levels l (omega (arith, v, room))

  -- ## Sheets

  abbrev filled? : Level → Bool
  filled? f = not (empty? f)

  filled_at : (i : ℕ) (levels : List Level) → i < length levels → T (every filled? levels) → T (filled? (highest (drop i levels)))
  filled_at i [] l t = absurd (omega arith)
  filled_at zero (f ∷ levels) l t = and_left (filled? f) (every filled? levels) t
  filled_at (suc i) (f ∷ levels) l t = filled_at i levels (omega arith) (and_right (filled? f) (every filled? levels) t)

  is_filled : (g : Level) → T (filled? g) → g ≡ [] → ⊥
  is_filled g t e = subst (λ h. T (filled? h)) e t

  listed : (bytes : Bytes) (q : Parameters) (g : Level) (below : List Level) (l : Listed lim bytes q g below) → EndsIn q.n l.basis (g ∷ below)
  listed bytes q g below l =
      let e : bottom (g ∷ below) ≡ l.basis = (holds_at l.reckoned.1
      (reckoned_bottom lim l.reckoned.0 q.p q.code l.basis (length below))).1 in
      (files bytes q l.basis l.well_formed (subst (GröbnerBasis q []) e (bottom_basis lim q g below l.exact)) (length below) (g ∷ below)
      l.reckoned).1

  -- level m is empty and those below the highest are not, so that the highest is at most level m
  few_levels : (m : ℕ) (g : Level) (below : List Level) → (m < length (g ∷ below) → level_of (g ∷ below) m ≡ []) → T (every filled? below)
      → length below ≤ m
  few_levels m g below x t = go (leb (length below) m) (leb→le (length below) m) (nleb→lt (length below) m)
    where
      many : m < length below → ⊥
      many l = is_filled (level_of (g ∷ below) m) there (x (omega (arith, l)))
        where
          i : suc (length below) - suc m ≡ suc (length below - suc m)
          i = omega (arith, l)

          there : T (filled? (level_of (g ∷ below) m))
          there = subst (λ z. T (filled? (highest (drop z (g ∷ below))))) (sym i) (filled_at (length below - suc m) below (omega (arith, l)) t)

      go : (b : Bool) → (T b → length below ≤ m) → (T (not b) → m < length below) → length below ≤ m
      go true h k = h tt
      go false h k = absurd (many (k tt))

  -- the highest is not empty, so that it is below level m, from which on all are
  fewer_levels : (m : ℕ) (g : Level) (below : List Level) → (m ≤ length below → g ≡ []) → ¬ (g ≡ []) → length below < m
  fewer_levels m g below x n = go (leb m (length below)) (leb→le m (length below)) (nleb→lt m (length below))
    where
      go : (b : Bool) → (T b → m ≤ length below) → (T (not b) → length below < m) → length below < m
      go true h k = absurd (n (x (h tt)))
      go false h k = k tt

  module _ (bytes : Bytes) where
    -- the last level is empty
    all_listed : (q : Parameters) (g : Level) (below : List Level) → Listed lim bytes q g below → g ≡ []
        → EndedSheet lim bytes (printed_levels q.n (g ∷ below))
    all_listed q (v ∷ g) below l e = absurd (is_filled (v ∷ g) tt e)
    all_listed q [] below l e =
        let x : EndsIn q.n l.basis ([] ∷ below) = listed bytes q [] below l in
        listing l (few_levels (suc q.n) [] below (λ m. x.ends (suc q.n) m (omega arith)) l.filled)
        (λ p. few_levels q.n [] below (λ m. x.short p q.n m (omega arith)) l.filled)

    ended : (out : Bytes) → Demands.SheetForm lim bytes out → EndedSheet lim bytes out
    ended out (Demands.listing {q} {g} {below} l (inl e)) = all_listed q g below l e
    ended out (Demands.listing {q} {g} {below} l (inr e)) = all_listed q g below l
        (high_empty q.n l.basis g below (listed bytes q g below l)
        (omega (arith, e, room, held_variables (basis_state (q, l.basis)) (inr (file_sound bytes q l.basis l.well_formed)))))
    ended out (Demands.cut_off {q} {g} {below} number bound l n r e t) = cut_off number l n t few fewer
      where
        x : EndsIn q.n l.basis (g ∷ below)
        x = listed bytes q g below l

        few : length below ≤ q.n
        few = let h : length below < suc q.n = fewer_levels (suc q.n) g below
            (λ m. high_empty q.n l.basis g below x (omega (arith, m))) n in omega (arith, h)

        fewer : Prepared (leading_monomials l.basis) → length below < q.n
        fewer p = fewer_levels q.n g below (λ m. sym (highest_is g below) ∙ x.short p (length below) (omega arith) m) n
    ended out (Demands.not_read r) = not_read r
    ended out (Demands.not_taken r) = not_taken r

  -- ## Request A10

  pub levels_end : LevelsEnd lim
  levels_end = record {
    empty = level_empty;
    reckoned = λ bytes q f e gb h. let (levels, l, r) = reckoned bytes q f e gb h in (levels, r);
    files = files;
    calls = calls;
    no_20 = no_20;
    sheets = λ n bytes out e. ended bytes out ((demand_1 lim o).sheets n bytes out e);
  }

pub levels_end_of_document_01 : LevelsEnd document_01
levels_end_of_document_01 = levels_end document_01 tt (λ code. refl) (omega arith)
