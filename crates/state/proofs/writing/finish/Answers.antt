use native.Mathlib.Omega.{arith}
use mathlib.Core.Path.{◌≡◌, sym, ap, ◌∙◌, subst}
use Prim.Native.Nat.{◌+◌}
use lib.ListN.{length, set, length-set}
use Rattle.definitions.specs.Limits.{document_01}
use Rattle.definitions.specs.Layout.{encode, decode}
use Rattle.definitions.specs.Places.{count_offset}
use Rattle.state.proofs.writing.Local.{so_far_few}
use Rattle.state.proofs.writing.Finished.{Settles, finish_weighable, finish_carried}
use Rattle.state.proofs.writing.finish.Goals as goal

pub overflow_cast-r : goal.overflow_cast-r
overflow_cast-r c = omega (arith, so_far_few c.args.state.now c.args.k c.args.count c.requires.3)

pub bounds-state-4 : goal.bounds-state-4
bounds-state-4 c =
    let a = c.args in
    let s = a.state.now in
    let n : length (set s (count_offset a.k) a.count) ≡ length s = length-set s (count_offset a.k) a.count in
    let m : length (set (set s (count_offset a.k) a.count) 4 (a.k + 1))
    ≡ length s = length-set (set s (count_offset a.k) a.count) 4 (a.k + 1) ∙ n in
    omega (arith, c.requires.0)

pub carry-requires : goal.carry-requires
carry-requires c =
    let a = c.args in
    let p = c.requires in
    finish_weighable a.state.now a.k a.count p.0 p.1 p.2 p.3 p.4 p.5

pub settle-requires : goal.settle-requires
settle-requires c =
    let a = c.args in
    let p = c.requires in
    let f = finish_carried a.state.now a.k a.count p.0 p.1 p.2 p.3 p.4 p.5 in
    subst (Settles a.k) (sym c.carry.ensures) f.settles

pub shape_of-state : goal.shape_of-state
shape_of-state c =
    let a = c.args in
    let s = a.state.now in
    let n : length (set s (count_offset a.k) a.count) ≡ length s = length-set s (count_offset a.k) a.count in
    let m : length (set (set s (count_offset a.k) a.count) 4 (a.k + 1))
    ≡ length s = length-set (set s (count_offset a.k) a.count) 4 (a.k + 1) ∙ n in
    omega (arith, c.settle.auto.state, c.carry.auto.state)

pub returns : goal.returns
returns c =
    let a = c.args in
    let p = c.requires in
    let f = finish_carried a.state.now a.k a.count p.0 p.1 p.2 p.3 p.4 p.5 in
    c.settle.ensures ∙ ap (λ y. encode document_01 (length y) (decode document_01 y))
    c.carry.ensures
    ∙ (λ i. encode document_01 (f.long i) (f.means i))
