-- Of an input, however long, the first bytes say what is printed: a file, as many bytes behind it as can matter, and a byte more. So a program may end there,
-- and its buffer refuses nothing.
use mathlib.Core.Path.{◌≡◌, refl, sym, ap, ◌∙◌}
use mathlib.Core.Bool.{Bool, true, false}
use mathlib.Core.Option.{Option, some}
use mathlib.Core.List.{List, [], ◌∷◌}
use Prim.Native.Nat.{ℕ, suc, ◌+◌, ◌-◌, ◌<◌, ◌≤◌}
use native.Mathlib.Omega.{arith}
use lib.Dec.{T, leb, ltb}
use lib.ListN.{length, take, drop}
use lib.Seq.{length-take-le, take-take}
use borrow.Author.Tests.{leb-true, leb-false, ltb-true, ltb-false}
use Rattle.definitions.specs.Limits.{document_01}
use Rattle.definitions.specs.Monomial.{Level}
use Rattle.definitions.specs.Result.{Result, ◌>>=◌}
use Rattle.definitions.specs.Problem.{Bytes, Line, Parameters, lines, problem}
use Rattle.definitions.specs.State.{State, sound?}
use Rattle.definitions.specs.Calls.{accepted}
use Rattle.definitions.specs.Sheet.{x_lines, variables_of}
use Rattle.definitions.specs.Program.{printed_or_refused, program}
use Rattle.definitions.specs.After.{file_end, file_of, after, lines_after, first_after}
use Rattle.definitions.specs.Places.{file_length}
use Rattle.demands.proofs.Sheets.{Reading, taken, refused_reading, still_reading, reading}
use Rattle.inputs.proofs.Ends.{drop_take, end_cut, end_long, end_inside, problem_long}

-- what an accepted state and the lines after E print; of these lines' bytes so many suffice
module _ (n : ℕ) (page : ℕ → List Line → State → Result Bytes) (most : ℕ)
    (cut : (q : Parameters) (f : Level) → T (sound? document_01 (record { parameters = q; levels = f ∷ [] })) → (place m : ℕ) (rest : Bytes) → most < m
    → page place (lines rest) (record { parameters = q; levels = f ∷ [] }) ≡ page place (lines (take m rest)) (record { parameters = q; levels = f ∷ [] }))
  where
    abbrev pub asked : Bytes → Option Bytes
    asked bytes = program (page (first_after bytes) (lines_after bytes)) document_01 n (file_of bytes)

    -- ## A file that is too long

    too_long : (bytes : Bytes) → file_length < file_end bytes → asked bytes ≡ some (x_lines 0 1 0 [])
    too_long bytes l =
        let long : length (file_of bytes) ≡ file_end bytes = length-take-le (file_end bytes) bytes (end_inside bytes) in
        ap (λ x. printed_or_refused (variables_of x) (x >>= accepted document_01 n >>= page (first_after bytes) (lines_after bytes)))
        (problem_long (file_of bytes) (omega (arith, long, l)))

    -- ## A file, and what stands after it

    abbrev whole : Bytes → Bytes → Option Bytes
    whole file rest = program (page (suc (length (lines file))) (lines rest)) document_01 n file

    rest_cut : (file rest : Bytes) (m : ℕ) → most < m → whole file rest ≡ whole file (take m rest)
    rest_cut file rest m l = ap (printed_or_refused (variables_of (problem document_01 file))) (go (reading document_01 tt n file))
      where
        go : {x : Result State} → Reading document_01 file x
            → (x >>= page (suc (length (lines file))) (lines rest)) ≡ (x >>= page (suc (length (lines file))) (lines (take m rest)))
        go (taken {q} {f} w s) = cut q f s.sound (suc (length (lines file))) m rest l
        go (refused_reading r) = refl
        go still_reading = refl

    -- ## All of it

    module _ (m : ℕ) (room : file_length + most < m) (bytes : Bytes) where
      short_file : file_end bytes ≤ file_length → asked bytes ≡ asked (take m bytes)
      short_file h =
          let e : file_end (take m bytes) ≡ file_end bytes = end_cut m bytes (omega (arith, h, room)) in
          let f : file_of (take m bytes) ≡ file_of bytes = ap (λ k. take k (take m bytes)) e ∙ take-take (file_end bytes) m bytes (omega (arith, h, room)) in
          let a : after (take m bytes) ≡ take (m - file_end bytes) (after bytes) =
          ap (λ k. drop k (take m bytes)) e ∙ drop_take (file_end bytes) m bytes in
          rest_cut (file_of bytes) (after bytes) (m - file_end bytes) (omega (arith, h, room)) ∙ sym (λ i. whole (f i) (a i))

      still_long : file_length < file_end bytes → file_length < file_end (take m bytes)
      still_long h = go (ltb (file_end bytes) m) refl
        where
          go : (b : Bool) → ltb (file_end bytes) m ≡ b → file_length < file_end (take m bytes)
          go true k = omega (arith, h, end_cut m bytes (ltb-true (file_end bytes) m k))
          go false k = omega (arith, room, end_long m bytes (ltb-false (file_end bytes) m k))

      pub enough : asked bytes ≡ asked (take m bytes)
      enough = go (leb (file_end bytes) file_length) refl
        where
          go : (b : Bool) → leb (file_end bytes) file_length ≡ b → asked bytes ≡ asked (take m bytes)
          go true k = short_file (leb-true (file_end bytes) file_length k)
          go false k =
              let l = leb-false (file_end bytes) file_length k in
              too_long bytes l ∙ sym (too_long (take m bytes) (still_long l))
