use mathlib.Core.Path.{sym}
use mathlib.Core.List.{◌∷◌}
use native.Mathlib.Omega.{arith}
use Rattle.laws.proofs.Packing.{pack_unpack, unpack_eight}
use Rattle.definitions.specs.Layout.{words_of}
use Rattle.vectors.proofs.terms.words.Goals as goal

pub returns : goal.returns
returns c =
    let a = c.args in
    (λ j. a.c ∷ a.m ∷ words_of (sym (pack_unpack a.e (omega arith)) j), unpack_eight a.e)
