-- The forming of a frame as a call of its own: 16 comes first.
use Rattle.std.specs.Prelude.{List, ℕ, zero, suc, ◌/◌, leb, ltb, length}
use Rattle.definitions.specs.Lists.{choose}
use Rattle.definitions.specs.Monomial.{Monomial}
use Rattle.definitions.specs.Result.{Result, done, refusal}
use Rattle.definitions.specs.Frame.{frame}
use Rattle.definitions.specs.Lifting.{if_few}
use Rattle.definitions.specs.Layout.{Words, rows}
use Rattle.definitions.specs.Places.{row_length}
use Rattle.frame.specs.Generators.{monomials_of}

-- what number, count and rows say
abbrev pub told : ℕ → ℕ → Words → Result (List Monomial)
told zero n d = done (monomials_of (rows d 0 n))
told (suc x) n d = refusal (suc x)

abbrev pub formed : ℕ → ℕ → List Monomial → Result (List Monomial)
formed limit code ms = if_few (leb (length (frame code ms)) limit) (frame code ms)

abbrev pub called : Words → ℕ → Words → Words → ℕ → ℕ → Result (List Monomial)
called d limit c heads r code =
    choose (ltb 65535 r) (refusal 16)
    (choose (ltb (length d / row_length) limit) (refusal 16)
    (choose (ltb (length c / row_length) r) (refusal 16)
    (choose (ltb (length heads / row_length) r) (refusal 16) (formed limit code (monomials_of (rows heads 0 r))))))
