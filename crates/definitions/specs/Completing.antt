-- "A6. Completing a basis."
use Rattle.std.specs.Prelude.{true, false, [], ◌∷◌, ◌++◌, ℕ, zero, suc, ◌+◌, ◌-◌, leb, eqb, length, take}
use Rattle.std.proofs.Math.Option.{Option}
use Rattle.definitions.specs.Limits.{Limits}
use Rattle.definitions.specs.Lists.{count}
use Rattle.definitions.specs.Field.{inverse}
use Rattle.definitions.specs.Monomial.{Vector, Level, leading_term}
use Rattle.definitions.specs.Result.{Result, done, refused, unfinished, unless_refused, ◌>>=◌}
use Rattle.definitions.specs.Problem.{Bytes, Parameters, newline, problem}
use Rattle.definitions.specs.State.{State, terms_of}
use Rattle.definitions.specs.Calls.{accepted}
use Rattle.definitions.specs.Reckoning.{scaled}
use Rattle.definitions.specs.Sheet.{variables_of}
use Rattle.definitions.specs.Program.{printed_or_refused}
use Rattle.definitions.specs.Written.{element_lines, end_line}

-- ## The file with an element more

-- "made monic"
abbrev pub monic : ℕ → Vector → Vector
monic p v = scaled p (inverse p (leading_term v).0) v

-- the lines given before E, of a file that says f
abbrev pub before_end : Bytes → Level → Bytes
before_end bytes f = take (length bytes - length (end_line f)) bytes

-- how many of them are no T lines: R, and D and G where they are given
abbrev pub head_lines : Bytes → Level → ℕ
head_lines bytes f = count (λ b. eqb b newline) (before_end bytes f) - terms_of f

-- "as the last element": "no line given before E is changed"
abbrev pub with_element : ℕ → Bytes → Level → Vector → Bytes
with_element n bytes f v = before_end bytes f ++ (element_lines n (suc (length f)) v ++ end_line (f ++ v ∷ []))

-- ## An addition

-- "At each addition are tested, in this order: 19 when a 65th element would be added (place 65), 1 at line 0 for a result too long for a problem file, 8 for
-- a 2,049th T line.", which has that number after so many other lines
abbrev pub tested : Limits → ℕ → Level → Bytes → Result Bytes
tested lim heads g longer =
    unless_refused (leb (length g) lim.elements) 19 (length g) >>= λ u₁.
    unless_refused (leb (length longer) lim.file) 1 0 >>= λ u₂.
    unless_refused (leb (terms_of g) lim.t_lines) 8 (suc (heads + lim.t_lines)) >>= λ u₃.
    done longer

-- "adds the value shown, made monic, as the last element"
abbrev pub with_value : Limits → Bytes → Parameters × Level → Vector → Result Bytes
with_value lim bytes f value =
    let v = monic f.0.p value in
    tested lim (head_lines bytes f.1) (f.1 ++ v ∷ []) (with_element f.0.n bytes f.1 v)

-- ## The program

-- accepted: the file as it is; 9: "tries again" with the value added; "Limits 13 to 15 end the work as in acceptance."
abbrev pub by_acceptance : Limits → Bytes → Parameters × Level → (Bytes → Result Bytes) → Result State → Result Bytes
by_acceptance lim bytes f again (done X) = done bytes
by_acceptance lim bytes f again (refused number place value) = elim (eqb number 9) [
  | true ↦ with_value lim bytes f value >>= again
  | false ↦ refused number place value
]
by_acceptance lim bytes f again unfinished = unfinished

-- "and tries again until the file is accepted": so many times at the most; n bounds the steps of each run
abbrev pub completed : Limits → ℕ → ℕ → Bytes → Result Bytes
completed lim n zero bytes = unfinished
completed lim n (suc left) bytes =
    problem lim bytes >>= λ f. by_acceptance lim bytes f (λ longer. completed lim n left longer) (accepted lim n f)

-- "It prints the file so obtained, in the problem format": each try but the last adds an element, so that one more than there may be elements suffices
abbrev pub completing : Limits → ℕ → Bytes → Option Bytes
completing lim n bytes = printed_or_refused (variables_of (problem lim bytes)) (completed lim n (suc lim.elements) bytes)
