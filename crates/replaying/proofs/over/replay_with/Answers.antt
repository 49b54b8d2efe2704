use native.Mathlib.Omega.{arith}
use mathlib.Core.Path.{◌≡◌, sym, ap, ◌∙◌, subst}
use mathlib.Core.List.{[]}
use Prim.Native.Nat.{◌+◌, ◌-◌, ◌<◌, ◌≤◌}
use lib.Dec.{leb}
use lib.ListN.{length, drop}
use Rattle.definitions.specs.Limits.{document_01}
use Rattle.definitions.specs.Monomial.{leading_monomials}
use Rattle.definitions.specs.Result.{done, refusal}
use Rattle.definitions.specs.Frame.{frame}
use Rattle.definitions.specs.Lifting.{if_few}
use Rattle.definitions.specs.Problem.{lines}
use Rattle.definitions.specs.Layout.{rows, level_at}
use Rattle.definitions.specs.Places.{most_vectors}
use Rattle.state.specs.soundness.Places.{count_at}
use Rattle.vectors.specs.terms.Rows.{term_of}
use Rattle.frame.specs.Generators.{monomials_of, framed_of, few}
use Rattle.runs.specs.reduction.Grounds.{spans_in}
use Rattle.runs.proofs.frame_terms.OneVectorMore.{frame_component}
use Rattle.level.specs.by_runs.Stages.{usual, ground_at}
use Rattle.level.proofs.by_runs.GroundOfLevel.{few_vectors}
use Rattle.level.proofs.by_runs.OverGround.{leading_at, framed_at, whole_frame}
use Rattle.replaying.specs.over.Vectors.{vector_as}
use Rattle.replaying.proofs.over.OverState.{frame_full, no_vector, at_vector}
use borrow.Author.Rules.{rules}
use Rattle.replaying.proofs.over.replay_with.Goals as goal

pub form-requires : goal.form-requires
form-requires c =
    let a = c.args in
    let P = c.requires in
    let e = c.count_of-r.ensures in
    let f = few_vectors a.state.now a.j P.0 in
    (omega arith, omega (arith, e, f), omega (arith, e, f, P.1.long), omega (arith, e, f))

pub returns-in_default : goal.returns-in_default
returns-in_default c =
    let a = c.args in
    let P = c.requires in
    let s = a.state.now in
    let F = c.form in
    let r : c.count_of-r.result ≡ count_at s a.j = c.count_of-r.ensures in
    let lead : monomials_of (rows a.tables.now 0 c.count_of-r.result) ≡ leading_monomials
    (level_at document_01 s a.j) =
    ap (λ k. monomials_of (rows a.tables.now 0 k)) r ∙ leading_at s a.j P.0 a.tables.now (spans_in a.tables.now) P.1.led in (
      frame_full s a.j a.v a.place (lines (drop a.from a.input.now)) P.4
          (monomials_of (rows a.tables.now 0 c.count_of-r.result)) lead
          c.in_default.ensures.0,
      tt,
    )

pub returns-then-v-eq0 : goal.returns-then-v-eq0
returns-then-v-eq0 c =
    let a = c.args in
    let P = c.requires in
    let s = a.state.now in
    let F = c.form in
    let r : c.count_of-r.result ≡ count_at s a.j = c.count_of-r.ensures in
    let lead : monomials_of (rows a.tables.now 0 c.count_of-r.result) ≡ leading_monomials (level_at document_01 s a.j) =
    ap (λ k. monomials_of (rows a.tables.now 0 k)) r ∙ leading_at s a.j P.0 a.tables.now (spans_in a.tables.now) P.1.led in (
      no_vector s a.j a.v a.place (lines (drop a.from a.input.now)) P.4
          (monomials_of (rows a.tables.now 0 c.count_of-r.result)) lead F.new.d c.in-Some.count c.in-Some.ensures.0 c.then-v-eq0.either,
      tt,
    )

pub row-t-requires : goal.row-t-requires
row-t-requires c =
    let m : c.in-Some.count ≤ most_vectors = c.in-Some.ensures.1 in
    omega (arith, m)

pub replay_over-requires : goal.replay_over-requires
replay_over-requires c =
    let a = c.args in
    let P = c.requires in
    let s = a.state.now in
    let F = c.form in
    let n = c.in-Some.count in
    let r : c.count_of-r.result ≡
    count_at s a.j = c.count_of-r.ensures in
    let lead : monomials_of (rows a.tables.now 0 c.count_of-r.result) ≡ leading_monomials (level_at document_01 s a.j) =
    ap (λ k. monomials_of (rows a.tables.now 0 k)) r ∙ leading_at s a.j P.0 a.tables.now (spans_in a.tables.now) P.1.led in
    let told : done (monomials_of (rows F.new.d 0 n)) ≡ if_few (leb (length (frame 1
    (monomials_of (rows a.tables.now 0 c.count_of-r.result)))) most_vectors)
    (frame 1 (monomials_of (rows a.tables.now 0 c.count_of-r.result))) = c.in-Some.ensures.0 in
    let m : n ≤ most_vectors = c.in-Some.ensures.1 in
    let framed = framed_at s a.j P.0 usual n F.new.d (record {
      few = m;
      fits = omega (arith, m);
      terms = whole_frame 1 (monomials_of (rows a.tables.now 0 c.count_of-r.result)) (leading_monomials (level_at document_01 s a.j))
          (monomials_of (rows F.new.d 0 n)) lead told;
    }) in
    let k = frame_component (ground_at usual s a.j) n F.new.d (a.v - 1) (term_of c.row-t.result) framed (omega arith)
    c.row-t.ensures in
    (P.0, P.1, P.2, P.3, k.0, k.1, omega (arith, P.5))

pub returns : goal.returns
returns c =
    let a = c.args in
    let P = c.requires in
    let s = a.state.now in
    let F = c.form in
    let x = c.replay_over in
    let r : c.count_of-r.result ≡ count_at s a.j = c.count_of-r.ensures in
    let lead : monomials_of (rows a.tables.now 0 c.count_of-r.result) ≡ leading_monomials (level_at document_01 s a.j) =
    ap (λ k. monomials_of (rows a.tables.now 0 k)) r ∙ leading_at s a.j P.0 a.tables.now (spans_in a.tables.now) P.1.led in (
      at_vector s a.j a.v a.place (lines (drop a.from a.input.now)) P.4
          (monomials_of (rows a.tables.now 0 c.count_of-r.result)) lead
          F.new.d c.in-Some.count
          c.in-Some.ensures.0 (omega arith) (omega arith)
          (term_of c.row-t.result)
          c.row-t.ensures (vector_as x.result x.new.vector) x.ensures.0,
      x.ensures.1,
    )
