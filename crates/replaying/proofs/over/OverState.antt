-- A vector replayed over a state's words: the ground of a level, and the frame before it.
use mathlib.Core.Path.{◌≡◌, refl, sym, ap, ◌∙◌, subst, subst₂}
use mathlib.Core.Bool.{Bool, true, false}
use mathlib.Core.List.{List, [], ◌∷◌}
use mathlib.Core.Logic.{◌⊎◌, inl, inr}
use Prim.Native.Nat.{ℕ, zero, suc, ◌+◌, ◌-◌, ◌<◌, ◌≤◌}
use native.Mathlib.Omega.{arith}
use lib.Dec.{leb}
use lib.ListN.{length, get_or}
use borrow.Author.Tests.{le-leb, lt-leb}
use Rattle.definitions.specs.Limits.{document_01}
use Rattle.definitions.specs.Lists.{◌and◌, between}
use Rattle.definitions.specs.Monomial.{Monomial, Term, Vector, Level, no_term, leading_monomials}
use Rattle.definitions.specs.Result.{Result, done, refused, refusal, unless_refused, at_level, ◌>>=◌}
use Rattle.definitions.specs.Frame.{frame}
use Rattle.definitions.specs.Lifting.{if_few}
use Rattle.definitions.specs.Problem.{Line}
use Rattle.definitions.specs.Replay.{replayed_vector}
use Rattle.definitions.specs.Places.{most_picks}
use Rattle.definitions.specs.Places.{most_vectors, most_terms, value_length, vector_length}
use Rattle.definitions.specs.Layout.{Words, rows, row_at, level_at, levels_at, decode}
use Rattle.laws.proofs.Rows.{length_rows, get_d_rows}
use Rattle.orders.specs.Images.{table_of, table_order}
use Rattle.state.specs.soundness.Places.{parameters_at, rows_from}
use Rattle.frame.specs.Generators.{monomials_of}
use Rattle.runs.specs.reduction.Grounds.{ends_in, above_in, Tables, Family}
use Rattle.runs.specs.run.Stages.{stage_of, Images, Rooms}
use Rattle.runs.specs.declared.reduction.Ground.{Ground}
use Rattle.level.specs.by_runs.Stages.{Base, usual, ground_at, TablesAt, stage_at}
use Rattle.level.proofs.by_runs.GroundOfLevel.{tables_at, family_in, images_above}
use Rattle.level.proofs.by_runs.OverGround.{stage_same}
use Rattle.std.specs.Prelude.{Result as CodeResult, Ok, Err}
use Rattle.words.specs.declared.refusals.Refused.{Refused}
use Rattle.replaying.specs.log.Lines.{Ended}
use Rattle.replaying.specs.over.Vectors.{replay_term, Few}

-- ## The ground of level j

module _ (s : Words) (j : ℕ) (b : Base s j) (tables : Words) (t : TablesAt s j tables) (g : Ground) (level : Words) (is : g ≡ ground_at usual s j)
    (from : level ≡ rows_from s j) where
  pub over_ground : (value vector : Words) → value_length ≤ length value → vector_length ≤ length vector
      → Tables g tables × Family g level (ends_in tables) × Images g.r (above_in tables) × Rooms g value vector × (1 ≤ g.vector)
  over_ground value vector v w = (
    subst (λ g. Tables g tables) (sym is) (tables_at s j b usual tables t),
    subst₂ (λ g l. Family g l (ends_in tables)) (sym is) (sym from) (family_in s j b usual tables t),
    subst (λ g. Images g.r (above_in tables)) (sym is) (images_above s j b tables t),
    record {
      value_fits = omega (arith, v, ap (λ g. g.working) is);
      vector_fits = omega (arith, w, ap (λ g. g.vector) is);
      left_fits = omega (arith, w, ap (λ g. g.working) is);
    },
    omega (arith, ap (λ g. g.vector) is),
  )

  pub term_same : (n n' k place : ℕ) → n ≡ n' → (m : Monomial) (ls : List Line) (x : Result Vector)
      → x ≡ replay_term (stage_of g level tables (table_order g.code (table_of g.r (above_in tables)))) n k place m ls
      → x ≡ replay_term (stage_at usual s j) n' k place m ls
  term_same n n' k place h m ls x e = e ∙ (λ i. replay_term (stage_same s j b tables t usual g level is from i) (h i) k place m ls)

pub few_ended : (g : Ground) → g.vector ≡ most_terms → (x : CodeResult ℕ Refused) → Ended g x → Few x
few_ended g e (Ok u) h = omega (arith, e, h)
few_ended g e (Err r) h = tt

-- ## The frame first

module _ (s : Words) (j v place : ℕ) (ls : List Line) (tall : get_or s 4 0 ≡ j + 1) where
  abbrev f : Level
  f = level_at document_01 s j

  abbrev framed : List Monomial → Result (List Monomial)
  framed F = if_few (leb (length (frame 1 F)) most_vectors) (frame 1 F)

  abbrev from_frame : Result (List Monomial) → Result Vector
  from_frame x = at_level (j + 1) x >>= λ ms. unless_refused (between 1 v (length ms)) 12 place >>= λ u.
      replay_term (stage_at usual s j) (get_or s 1 0) (j + 1) (suc place) (get_or ms (v - 1) no_term.1) ls

  whole : from_frame (framed (leading_monomials f)) ≡ replayed_vector document_01 most_picks place (j + 1) v ls (decode document_01 s)
  whole =
      let e : suc j ≡ get_or s 4 0 = omega (arith, tall) in
      ap (λ h. replayed_vector document_01 most_picks place (j + 1) v ls (record { parameters = parameters_at s; levels = levels_at document_01 s h })) e

  module _ (F : List Monomial) (lead : F ≡ leading_monomials f) where
    pub frame_full : refusal 15 ≡ framed F → refused 15 (j + 1) [] ≡ replayed_vector document_01 most_picks place (j + 1) v ls (decode document_01 s)
    frame_full e = ap from_frame (e ∙ ap framed lead) ∙ whole

    module _ (words : Words) (count : ℕ) (told : done (monomials_of (rows words 0 count)) ≡ framed F) where
      abbrev ms : List Monomial
      ms = monomials_of (rows words 0 count)

      length_monomials : (u : Vector) → length (monomials_of u) ≡ length u
      length_monomials [] = refl
      length_monomials (t ∷ u) = ap suc (length_monomials u)

      counted : length ms ≡ count
      counted = length_monomials (rows words 0 count) ∙ length_rows words 0 count

      on_frame : from_frame (done ms) ≡ replayed_vector document_01 most_picks place (j + 1) v ls (decode document_01 s)
      on_frame = ap from_frame (told ∙ ap framed lead) ∙ whole

      abbrev tested : Bool → Result Vector
      tested b = unless_refused b 12 place >>= λ u. replay_term (stage_at usual s j) (get_or s 1 0) (j + 1) (suc place) (get_or ms (v - 1) no_term.1) ls

      outside : leb 1 v ≡ false → between 1 v (length ms) ≡ false
      outside e = ap (λ b. b and leb v (length ms)) e

      above : (b : Bool) → leb v (length ms) ≡ false → (b and leb v (length ms)) ≡ false
      above true e = e
      above false e = refl

      pub no_vector : (v ≡ 0) ⊎ ((v ≡ 0 → ⊥) × (count < v))
          → refused 12 place [] ≡ replayed_vector document_01 most_picks place (j + 1) v ls (decode document_01 s)
      no_vector (inl z) = sym (ap tested (outside (lt-leb 1 v (omega (arith, z))))) ∙ on_frame
      no_vector (inr p) = sym (ap tested (above (leb 1 v) (lt-leb v (length ms) (omega (arith, counted, p.1))))) ∙ on_frame

      getD_monomials : (u : Vector) (i : ℕ) → i < length u → get_or (monomials_of u) i no_term.1 ≡ (get_or u i no_term).1
      getD_monomials [] i l = absurd (omega arith)
      getD_monomials (t ∷ u) zero l = refl
      getD_monomials (t ∷ u) (suc i) l = getD_monomials u i (omega arith)

      pub at_vector : 1 ≤ v → v ≤ count → (t : Term) → t ≡ row_at words (v - 1) → (x : Result Vector)
          → x ≡ replay_term (stage_at usual s j) (get_or s 1 0) (j + 1) (place + 1) t.1 ls
          → x ≡ replayed_vector document_01 most_picks place (j + 1) v ls (decode document_01 s)
      at_vector l h t e x g =
          let p : place + 1 ≡ suc place = omega arith in
          let z : 0 + (v - 1) ≡ v - 1 = omega arith in
          let m : t.1 ≡ get_or ms (v - 1) no_term.1 =
          ap (λ t. t.1) (e ∙ sym (get_d_rows words 0 count (v - 1) no_term (omega (arith, l, h)) ∙ ap (row_at words) z))
          ∙ sym (getD_monomials (rows words 0 count) (v - 1) (omega (arith, l, h, length_rows words 0 count))) in
          g ∙ (λ i. replay_term (stage_at usual s j) (get_or s 1 0) (j + 1) (p i) (m i) ls)
          ∙ sym (λ i. tested (le-leb 1 v l i and le-leb v (length ms) (omega (arith, counted, h)) i)) ∙ on_frame
