-- The sheet of any file.
use mathlib.Core.Path.{◌≡◌, refl, ap, ◌∙◌}
use mathlib.Core.Option.{Option, some}
use mathlib.Core.List.{[], ◌∷◌, append-nil}
use Prim.Native.Nat.{ℕ}
use Rattle.definitions.specs.Limits.{Limits}
use Rattle.definitions.specs.Monomial.{Level}
use Rattle.definitions.specs.Result.{Result, done, refused, unfinished, ◌>>=◌}
use Rattle.definitions.specs.Problem.{Bytes, Parameters, problem}
use Rattle.definitions.specs.Calls.{accepted}
use Rattle.definitions.specs.Sheet.{printed, letter_X, x_lines, variables_of, sheet_of}
use Rattle.files.specs.Files.{Wide, Roomy}
use Rattle.files.specs.Answers.{Answered, SheetRight, of_elements, of_refusal}
use Rattle.files.proofs.Reader.{reader_right}

abbrev sheet_from : Limits → ℕ → Result (Parameters × Level) → Option Bytes
sheet_from lim bound r = sheet_of lim bound (variables_of r) (r >>= accepted lim bound)

pub sheet_right : (lim : Limits) → Wide lim → Roomy lim → (bytes : Bytes) → SheetRight lim bytes
sheet_right lim wide room bytes = go (problem lim bytes) refl ((reader_right lim wide room).answered bytes)
  where
    go : (r : Result (Parameters × Level)) → problem lim bytes ≡ r → Answered lim bytes r → SheetRight lim bytes
    go (done x) e a = of_elements x.0 x.1 a (λ bound. ap (sheet_from lim bound) e)
    go (refused number place value) e a =
        of_refusal number place a.0
        (λ bound. ap (sheet_from lim bound) e ∙ ap (λ v. some (x_lines 0 number place v)) a.1
        ∙ ap some (append-nil (printed letter_X (number ∷ place ∷ []))))
    go unfinished e a = absurd a
