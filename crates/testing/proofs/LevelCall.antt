-- The tests passed one by one, and what is answered.
use mathlib.Core.Path.{◌≡◌, refl, sym, ap, ◌∙◌}
use mathlib.Core.Bool.{Bool, true, false}
use mathlib.Core.List.{[]}
use Prim.Native.Nat.{ℕ, suc, ◌-◌, ◌≤◌}
use native.Mathlib.Nat.{not-suc-le-zero}
use native.Mathlib.Omega.{arith}
use borrow.Author.Tests.{ne_eqb}
use lib.Dec.{T, leb, eqb, leb→le}
use lib.ListN.{length, get_or}
use Rattle.definitions.specs.Limits.{document_01}
use Rattle.definitions.specs.Lists.{◌and◌, choose}
use Rattle.definitions.specs.Monomial.{Vector, Level}
use Rattle.definitions.specs.Result.{Result, done, refused, refusal, ◌>>=◌}
use Rattle.definitions.specs.Stage.{Stage}
use Rattle.definitions.specs.Run.{hybrid_strategy}
use Rattle.definitions.specs.Lifting.{by_hybrid, limited_frame, lift_level}
use Rattle.definitions.specs.Layout.{Words, Way, work_words, rows, level_at, levels_at}
use Rattle.laws.proofs.Tests.{and_left, and_right}
use Rattle.std.specs.Prelude.{Result as CodeResult, Ok, Err}
use Rattle.words.specs.declared.refusals.Refusal.{Refusal}
use Rattle.words.specs.refusals.Numbers.{number_of as refusal_number}
use Rattle.words.proofs.Numbered.{number_positive}
use Rattle.definitions.specs.Places.{most_rows, most_terms, most_tree_terms, state_length, grown_length}
use Rattle.runs.specs.frame_terms.Vectors.{lifted_vectors, lifts}
use Rattle.level.specs.by_runs.Stages.{Within, limits_with, stage_at, lift_over, leveled_of, StoredAs}
use Rattle.level.specs.declared.by_runs.Bounds.{Bounds}
use Rattle.level.specs.declared.by_runs.Leveled.{Leveled}
use Rattle.level.specs.declared.by_runs.Leveled.TheVariants.{Vectors, Stopped}
use Rattle.level.proofs.all_levels.Lifting.{all_narrowed}
use Rattle.lift_call.specs.Lifts.{complete_number}
use Rattle.testing.specs.Lifts.{within?, fits?, lifted_within, number_of, count_of, used_of, told, Counted, bounds_by, called}

-- ## Not 16

pub record Fits (s w o : Words) (way : Way) (b : Bounds) : Type 0 where
  pub state : state_length ≤ length s
  pub work : work_words document_01 way ≤ length w
  pub out : grown_length ≤ length o
  pub within : Within b

pub fits_says : (s work out : Words) (way : Way) (b : Bounds) → T (fits? s work out way b) → Fits s work out way b
fits_says s work out way b t =
    let t1 = and_right (leb state_length (length s)) (leb (work_words document_01 way) (length work) and leb grown_length (length out) and within? b)
    t in
    let t2 = and_right (leb (work_words document_01 way) (length work)) (leb grown_length (length out) and within? b) t1 in
    let t3 = and_right (leb grown_length (length out)) (within? b) t2 in
    let t4 = and_right (leb b.working most_terms) (leb b.vector most_terms and leb 1 b.vector and leb b.tree most_tree_terms
    and leb b.room most_rows) t3 in
    let t5 = and_right (leb b.vector most_terms) (leb 1 b.vector and leb b.tree most_tree_terms and leb b.room most_rows) t4 in
    let t6 = and_right (leb 1 b.vector) (leb b.tree most_tree_terms and leb b.room most_rows) t5 in
    record {
      state = leb→le state_length (length s) (and_left (leb state_length (length s))
          (leb (work_words document_01 way) (length work) and leb grown_length (length out) and within? b) t);
      work = leb→le (work_words document_01 way) (length work) (and_left (leb (work_words document_01 way) (length work))
          (leb grown_length (length out) and within? b) t1);
      out = leb→le grown_length (length out) (and_left (leb grown_length (length out)) (within? b) t2);
      within = record {
        working = leb→le b.working most_terms (and_left (leb b.working most_terms)
            (leb b.vector most_terms and leb 1 b.vector and leb b.tree most_tree_terms and leb b.room most_rows) t3);
        vector = leb→le b.vector most_terms (and_left (leb b.vector most_terms)
            (leb 1 b.vector and leb b.tree most_tree_terms and leb b.room most_rows) t4);
        filled = leb→le 1 b.vector (and_left (leb 1 b.vector) (leb b.tree most_tree_terms and leb b.room most_rows) t5);
        tree = leb→le b.tree most_tree_terms (and_left (leb b.tree most_tree_terms) (leb b.room most_rows) t6);
        room = leb→le b.room most_rows (and_right (leb b.tree most_tree_terms) (leb b.room most_rows) t6);
      };
    }

-- ## The answer

pub answered : (out : Words) (x : CodeResult Leveled Refusal) (v : Words) → (u : Vector) × (told (number_of x) (count_of x) out u ≡ leveled_of x out v)
answered out (Ok (Vectors count used)) v = ([], refl)
answered out (Ok (Stopped i)) v = (rows v 0 i, refl)
answered out (Err e) v =
    let m : refusal_number e ≡ 0 → ⊥ = λ z. not-suc-le-zero {n = 0} (omega (arith, z, number_positive e)) in
    ([], ap (λ t. choose t (done (lifted_vectors out 0)) (refused (refusal_number e) 0 [])) (ne_eqb (refusal_number e) 0 m))

pub counted : (out : Words) (x : CodeResult Leveled Refusal) → StoredAs x out → Counted (number_of x) (count_of x) (used_of x) out
counted out (Ok (Vectors count used)) h = (λ z. h.1, λ m. absurd (m refl))
counted out (Ok (Stopped i)) h = (λ z. absurd (not-suc-le-zero {n = 0} (omega (arith, z))), λ o. (refl, refl))
counted out (Err e) h = (λ z. absurd (not-suc-le-zero {n = 0} (omega (arith, z, number_positive e))), λ o. (refl, refl))

module _ (b : Bounds) (s work out cache : Words) (k : ℕ) (way : Way) where
  abbrev by_tests : ℕ → Bool → ℕ → Result Level
  by_tests n fit number = choose fit (choose (eqb number 0) (lifted_within b s k way work cache n) (refused number 0 [])) (refused 16 0 [])

  pub short : false ≡ fits? s work out way b → refusal 16 ≡ called b s work out cache k way 0
  short e = ap (λ f. by_tests 0 f (complete_number s k way)) e

  module _ (fit : true ≡ fits? s work out way b) where
    pub refused_early : (e : Refusal) → refusal_number e ≡ complete_number s k way → refusal (refusal_number e) ≡ called b s work out cache k way 0
    refused_early e q =
        let n = refusal_number e in
        sym (ap (λ t. choose t (lifted_within b s k way work cache 0) (refused n 0 []))
        (ne_eqb n 0 (λ z. not-suc-le-zero {n = 0} (omega (arith, z, number_positive e)))))
        ∙ (λ i. by_tests 0 (fit i) (q i))

    pub lifted : 0 ≡ complete_number s k way → (n : ℕ) → lifted_within b s k way work cache n ≡ called b s work out cache k way n
    lifted e n = λ i. by_tests n (fit i) (e i)

-- ## Hybrid in less room

pub hybrid_within : (b : Bounds) (s : Words) (k pick working n : ℕ)
    → lift_over (bounds_by working b.vector b.tree b.room) s (k - 1) (record { drops = true; pick = pick; stops = false }) n
    ≡ lift_level (limits_with b) (get_or s 0 0) (get_or s 2 0) (levels_at document_01 s (suc (k - 1))) (by_hybrid pick working) n
hybrid_within b s k pick working n =
    let N : Stage = stage_at (bounds_by working b.vector b.tree b.room) s (k - 1) in
    λ i. limited_frame document_01 (get_or s 2 0) (level_at document_01 s (k - 1))
    >>= λ ms. all_narrowed (stage_at b s (k - 1)) working (lifts N (hybrid_strategy N pick) n) ([], 0) [] ms i
