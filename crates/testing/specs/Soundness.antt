-- What a state's words alone decide: 16, or 11, or neither.
use Rattle.std.specs.Prelude.{ℕ, leb, length}
use Rattle.definitions.specs.Limits.{document_01}
use Rattle.definitions.specs.Lists.{choose}
use Rattle.definitions.specs.Layout.{Words, state_words, holds_state?}

abbrev pub number_of : Words → ℕ
number_of s = choose (leb (state_words document_01) (length s)) (choose (holds_state? document_01 s) 0 11) 16
