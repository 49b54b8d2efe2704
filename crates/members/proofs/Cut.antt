-- V lines in turn, as crate inputs takes them: of more bytes than they can have the first ones say all.
use mathlib.Core.Path.{◌≡◌, refl, sym, ap, ◌∙◌}
use mathlib.Core.Logic.{◌⊎◌, inl, inr}
use mathlib.Core.Bool.{Bool, true, false}
use mathlib.Core.Option.{Option, none, some}
use mathlib.Core.List.{List, [], ◌∷◌, ◌++◌}
use Prim.Native.Nat.{ℕ, suc, ◌+◌, ◌*◌, ◌<◌, ◌≤◌}
use native.Mathlib.Omega.{arith}
use lib.ListN.{length, take, length-append}
use borrow.Author.Tests.{le-ltb}
use Rattle.definitions.specs.Limits.{document_01}
use Rattle.definitions.specs.Lists.{◌and◌, last}
use Rattle.definitions.specs.Monomial.{Term, Vector}
use Rattle.definitions.specs.Result.{Result, done, refused, unfinished, unless_refused, ◌>>=◌}
use Rattle.definitions.specs.Problem.{Bytes, Line, Parameters, lines, shaped, term_of, term_in_range?, below?}
use Rattle.definitions.specs.Membership.{letter_V, v_term?, v_line, v_lines}
use Rattle.definitions.specs.Places.{most_terms, v_line_length}
use Rattle.laws.proofs.Results.{IfSome}
use Rattle.inputs.proofs.Lines.{shaped_short}
use Rattle.inputs.proofs.Turns.{InTurn, refused_not_done, turns_cut}

module _ (q : Parameters) (few : q.n ≤ 8) where
  abbrev reads : ℕ → Vector → List Line → Result Vector
  reads place v ls = v_lines document_01 q place v ls

  abbrev one : ℕ → Vector → Line → Result Vector
  one place v line = v_line document_01 q place v (shaped 65535 letter_V (2 + q.n) line)

  -- a line more where there are as many terms as may be, or one that is too long for a V line
  more_refused : (place : ℕ) (v : Vector) (x : Bytes) → (most_terms ≤ length v) ⊎ (v_line_length ≤ length x) → one place v (x, true) ≡ refused 23 place []
  more_refused place v x l = go (shaped 65535 letter_V (2 + q.n) (x, true)) (shaped_short letter_V (2 + q.n) (x, true)) l
    where
      full : (a b : Bool) → (a and b and false) ≡ false
      full true true = refl
      full true false = refl
      full false b = refl

      go : (o : Option (List ℕ)) → IfSome (λ w. length x ≤ 1 + (2 + q.n) * 6) o → (most_terms ≤ length v) ⊎ (v_line_length ≤ length x)
          → v_line document_01 q place v o ≡ refused 23 place []
      go none k l = refl
      go (some w) k (inl e) =
          let t = term_of q.n (0 ∷ w) in
          ap (λ b. unless_refused b 23 place >>= λ u. done (v ++ t ∷ []))
          (ap (λ b. term_in_range? document_01 q t and below? q.code (last v) t and b) (le-ltb (length v) most_terms e)
          ∙ full (term_in_range? document_01 q t) (below? q.code (last v) t))
      go (some w) k (inr l) = absurd (omega arith)

  -- a term more
  one_more : (place : ℕ) (v w : Vector) (line : Line) → one place v line ≡ done w → length w ≡ suc (length v)
  one_more place v w line e = go (shaped 65535 letter_V (2 + q.n) line) e
    where
      grown : (t : Term) (b : Bool) → (unless_refused b 23 place >>= λ u. done (v ++ t ∷ [])) ≡ done w → length w ≡ suc (length v)
      grown t true e = ap length_of (sym e) ∙ length-append v (t ∷ []) ∙ (let z : length v + 1 ≡ suc (length v) = omega arith in z)
        where
          length_of : Result Vector → ℕ
          length_of (done w) = length w
          length_of (refused number place value) = 0
          length_of unfinished = 0
      grown t false e = absurd (refused_not_done e)

      go : (o : Option (List ℕ)) → v_line document_01 q place v o ≡ done w → length w ≡ suc (length v)
      go none e = absurd (refused_not_done e)
      go (some u) e = let t = term_of q.n (0 ∷ u) in grown t (v_term? document_01 q v t) e

  in_turn : InTurn reads one 23 most_terms v_line_length length
  in_turn = record {
    turn = λ place v line later. refl;
    unended = λ place v x. refl;
    refuses = more_refused;
    counts = one_more;
  }

  -- all lines after E
  pub lines_cut : (place m : ℕ) (bytes : Bytes) → most_terms * v_line_length < m
      → v_lines document_01 q place [] (lines bytes) ≡ v_lines document_01 q place [] (lines (take m bytes))
  lines_cut place m bytes l = turns_cut reads one 23 most_terms v_line_length length in_turn place m [] bytes l
