-- The tests of degrees word by word: those of the components, those of a level's vectors.
use mathlib.Core.Path.{◌≡◌, refl, sym, ap, ◌∙◌, subst}
use mathlib.Core.Bool.{true, false}
use mathlib.Core.List.{[], ◌∷◌}
use Prim.Native.Nat.{ℕ, zero, suc, ◌+◌, ◌-◌, ◌*◌, ◌<◌, ◌≤◌}
use native.Mathlib.Omega.{arith}
use native.Mathlib.Decide.{ℕ_discrete}
use lib.Dec.{T, leb, eqb, eqb_refl}
use lib.ListN.{length, get_or, take, drop, drop_of_length-le}
use lib.Seq.{drop-cons, get_or-take, length-take-le}
use Rattle.definitions.specs.Lists.{◌and◌}
use Rattle.definitions.specs.Monomial.{fits?, same_exponents?, leading}
use Rattle.definitions.specs.Degrees.{degree_by, degrees_of}
use Rattle.definitions.specs.Layout.{Words, row_at, rows}
use Rattle.definitions.specs.Places.{most_vectors, degrees_start, carried_start, carried_offset}
use Rattle.laws.proofs.Tests.{and_both, true_is, false_is}
use Rattle.laws.proofs.Products.{same_exponents_says}
use Rattle.laws.proofs.Degrees.{getD_degrees}
use Rattle.reducers.specs.tables.Cuts.{start_of, Cut, cut_level, Weighed}
use Rattle.reducers.proofs.tables.Cutting.{leads_with}
use Rattle.reducers.proofs.tables.Weighing.{weighed_are}
use Rattle.state.specs.degrees.Carrying.{under_place}
use Rattle.state.proofs.soundness.VectorTests.{length_vectors}
use Rattle.state.proofs.writing.Fetching.{vector_from, begin_taken}

-- ## Components

pub fits_on : (m : ℕ) (l : Words) (j : ℕ) → j < length l → leb (get_or l j 0) m ≡ true → fits? m (drop j l) ≡ fits? m (drop (j + 1) l)
fits_on m l j h e =
    let z : suc j ≡ j + 1 = omega arith in
    ap (fits? m) (drop-cons l j 0 h) ∙ (λ i. e i and fits? m (drop (suc j) l)) ∙ ap (λ k. fits? m (drop k l)) z

pub fits_stop : (m : ℕ) (l : Words) (j : ℕ) → j < length l → leb (get_or l j 0) m ≡ false → fits? m (drop j l) ≡ false
fits_stop m l j h e = ap (fits? m) (drop-cons l j 0 h) ∙ (λ i. e i and fits? m (drop (suc j) l))

pub fits_end : (m : ℕ) (l : Words) (j : ℕ) → length l ≤ j → fits? m (drop j l) ≡ true
fits_end m l j h = ap (fits? m) (drop_of_length-le l h)

-- where they stand
pub under_basis : (k : ℕ) → k ≡ 0 → degrees_start ≡ under_place k
under_basis k e = sym (ap under_place e)

pub under_above : (k : ℕ) → (k ≡ 0 → ⊥) → carried_start + (k - 1) * most_vectors ≡ under_place k
under_above zero o = absurd (o refl)
under_above (suc k) o = let z : suc k - 1 ≡ k = omega arith in ap carried_offset z

-- ## Vectors

pub same_self : (e : Words) → T (same_exponents? e e)
same_self [] = tt
same_self (x ∷ e) = and_both (eqb x x) (same_exponents? e e) (eqb_refl x) (same_self e)

pub same_shown : (d e : Words) → d ≡ e → T (same_exponents? d e)
same_shown d e q = subst (λ x. T (same_exponents? d x)) q (same_self d)

degrees_there : (m level ends : Words) (r : ℕ) → Cut r level ends → (j : ℕ) → j < r
    → get_or (degrees_of m [] (cut_level r level ends)) j 0 ≡ degree_by m (row_at level (start_of ends j)).1
degrees_there m level ends r cut j h =
    let n : length (take r ends) ≡ r = length-take-le r ends cut.ends_fit in
    getD_degrees m [] (cut_level r level ends) j (omega (arith, length_vectors level 0 (take r ends)))
    ∙ ap (λ v. degree_by m (leading v)) (vector_from level 0 (take r ends) j (omega arith)
    ∙ (λ i. rows level (begin_taken ends r j h i) (get_or-take r ends j 0 h i - begin_taken ends r j h i)))
    ∙ ap (λ t. degree_by m t.1) (leads_with level (start_of ends j) (get_or ends j 0) (cut.filled j h))

pub weighed_more : (n : ℕ) (below level ends : Words) (j : ℕ) (d : Words) → Weighed n below level ends j d
    → get_or d j 0 ≡ degree_by (take n below) (row_at level (start_of ends j)).1 → Weighed n below level ends (j + 1) d
weighed_more n below level ends j d w e k h = go (ℕ_discrete k j)
  where
    go : Dec (k ≡ j) → get_or d k 0 ≡ degree_by (take n below) (row_at level (start_of ends k)).1
    go (yes q) = subst (λ i. get_or d i 0 ≡ degree_by (take n below) (row_at level (start_of ends i)).1) (sym q) e
    go (no q) = w k (omega arith)

module _ (n : ℕ) (below level ends : Words) (r : ℕ) (d : Words) (cut : Cut r level ends) (room : r ≤ length d) where
  abbrev ds : Words
  ds = degrees_of (take n below) [] (cut_level r level ends)

  -- all of them compared
  pub weights_end : Weighed n below level ends r d → true ≡ same_exponents? (take r d) (degrees_of (take n below) [] (cut_level r level ends))
  weights_end w = sym (true_is (same_exponents? (take r d) ds) (same_shown (take r d) ds (weighed_are n below level ends r d cut room w)))

  -- one of them is another
  pub weights_stop : (j : ℕ) → j < r → (degree_by (take n below) (row_at level (start_of ends j)).1 ≡ get_or d j 0 → ⊥)
      → false ≡ same_exponents? (take r d) (degrees_of (take n below) [] (cut_level r level ends))
  weights_stop j h o = sym (false_is (same_exponents? (take r d) ds) (λ t.
      o (sym (degrees_there (take n below) level ends r cut j h) ∙ sym (ap (λ (l : Words). get_or l j 0) (same_exponents_says (take r d) ds t))
      ∙ get_or-take r d j 0 h)))
