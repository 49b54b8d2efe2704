use Rattle.sweeping.proofs.Growth.{same_refl, formed_some, rowed_skip, led_rowed}
use Rattle.sweeping.proofs.Tests.{truth}
use Rattle.sweeping.specs.Nodes.{ground_stage}
use Rattle.runs.specs.reduction.Grounds.{reduction_of}
use Rattle.vectors.specs.terms.Rows.{term_of}
use Rattle.monomial.specs.Values.{monomial_of}
use Rattle.definitions.specs.Places.{most_exponent}
use Rattle.definitions.specs.Layout.{row_at}
use Rattle.definitions.specs.Run.{dropped?}
use Rattle.definitions.specs.Packed.{unpack}
use Rattle.definitions.specs.Monomial.{Term, product, fits?}
use Rattle.definitions.specs.Field.{times}
use lib.Dec.{T}
use native.Mathlib.Omega.{arith}
use mathlib.Core.Path.{◌≡◌, sym, ap, ◌∙◌, subst}
use Prim.Native.Nat.{◌-◌}
use Rattle.sweeping.proofs.growing.expand_row.Goals as goal

pub lead-requires : goal.lead-requires
lead-requires c = (
  c.requires.0,
  c.requires.1,
  sym c.left_out.ensures ∙ c.if-left_out.false,
)

pub returns-then-left_out : goal.returns-then-left_out
returns-then-left_out c =
    let a = c.args in
    let E = c.row-t.ensures in
    let u = (term_of c.row-t.result).1 in
    let F = formed_some (fits? most_exponent (product (unpack a.q) u.0)) (monomial_of c.in_ok-m.m) (product (unpack a.q) u.0, u.1) c.in_ok-m.ensures in
    let fit : T (fits? most_exponent (product (unpack a.q) (row_at a.level.now a.i).1.0)) = subst (λ (t : Term). T (fits? most_exponent (product
    (unpack a.q) t.1.0))) E (truth F.0) in
    let mono : monomial_of c.in_ok-m.m ≡ (product (unpack a.q) (row_at a.level.now a.i).1.0, (row_at a.level.now a.i).1.1) =
    F.1 ∙ ap (λ (t : Term). (product (unpack a.q) t.1.0, t.1.1)) E in
    let r = c.requires.1 in (
      same_refl a.n a.e a.nodes.now a.edges.now,
      λ below told. rowed_skip (ground_stage a.g below a.tables.now) a.drops (a.g.components - 1) a.most a.n a.e a.c (unpack a.q)
          (row_at a.level.now a.i) a.nodes.now a.edges.now r.few_nodes r.few_edges fit
          (subst (λ m. T (dropped? (reduction_of a.g a.tables.now) a.drops m)) mono (truth (sym c.left_out.ensures
          ∙ c.if-left_out.true))) told,
      (omega arith, r.few_nodes, omega arith, r.few_edges),
    )

pub returns : goal.returns
returns c =
    let a = c.args in
    let E = c.row-t.ensures in
    let u = (term_of c.row-t.result).1 in
    let F = formed_some (fits? most_exponent (product (unpack a.q) u.0)) (monomial_of c.in_ok-m.m) (product (unpack a.q) u.0, u.1) c.in_ok-m.ensures in
    let fit : T (fits? most_exponent (product (unpack a.q) (row_at a.level.now a.i).1.0)) = subst (λ (t : Term). T (fits? most_exponent (product
    (unpack a.q) t.1.0))) E (truth F.0) in
    let mono : monomial_of c.in_ok-m.m ≡ (product (unpack a.q) (row_at a.level.now a.i).1.0, (row_at a.level.now a.i).1.1) =
    F.1 ∙ ap (λ (t : Term). (product (unpack a.q) t.1.0, t.1.1)) E in
    let w = c.lead in (
      w.ensures.0,
      λ below told. led_rowed (ground_stage a.g below a.tables.now) a.drops (a.g.components - 1) a.most a.n a.e a.c (unpack a.q)
          (row_at a.level.now a.i) a.nodes.now a.edges.now w.new.nodes w.new.edges (monomial_of c.in_ok-m.m) c.times-x.result w.result
          mono (c.times-x.ensures
          ∙ ap (λ (t : Term). times a.g.p a.c t.0) E) fit w.ensures.0 (w.ensures.1 below told),
      w.ensures.2,
    )

pub returns-in_err-m : goal.returns-in_err-m
returns-in_err-m c = let a = c.args in rw c.from_residual.ensures (same_refl a.n a.e a.nodes.now a.edges.now, λ below told. tt, tt)
