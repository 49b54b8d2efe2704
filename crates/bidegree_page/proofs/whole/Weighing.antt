-- The weights that the code read are the file's, so that what is printed by them is what the file's definition gives.
use mathlib.Core.Path.{◌≡◌, sym, ap, ◌∙◌}
use mathlib.Core.Option.{Option}
use mathlib.Core.List.{List}
use Prim.Native.Nat.{ℕ, ◌*◌}
use lib.ListN.{get_or, take}
use Rattle.definitions.specs.Limits.{document_01}
use Rattle.definitions.specs.Result.{Result, done, ◌>>=◌}
use Rattle.definitions.specs.Problem.{Bytes, Head, pairs, head, problem}
use Rattle.definitions.specs.Calls.{read}
use Rattle.definitions.specs.Layout.{Words, decode}
use Rattle.definitions.specs.Sheet.{variables_of}
use Rattle.definitions.specs.Program.{printed_or_refused, program}
use Rattle.definitions.specs.Bidegrees.{bidegrees_of, bidegrees}
use Rattle.reader.specs.problem.Reading.{head_weights}
use Rattle.reader.proofs.problem.HeadWeights.{pairs_of_head, head_of_read}
use Rattle.columns.specs.weights.Keys.{weights_of}
use Rattle.listing.specs.reading.Beginning.{Basis}
use Rattle.listing.specs.whole.Listed.{Prints}

module _ (file : Bytes) (s : Words) (B : Basis file s) (ws : Words) (e : ws ≡ head_weights (head document_01 file)) where
  abbrev v : ℕ
  v = variables_of (problem document_01 file)

  abbrev found : (h : Head) × (head document_01 file ≡ done h) × (h.parameters ≡ B.said.0)
  found = head_of_read file B.said B.says

  weights_are : weights_of (get_or s 1 0) ws ≡ found.0.weights
  weights_are =
      let n : get_or s 1 0 ≡ found.0.parameters.n = ap (λ q. q.n) (B.parameters ∙ sym found.2) in
      (λ i. pairs (take (2 * n i) (e i))) ∙ pairs_of_head file found.0 found.1

  abbrev by_weights : ℕ → List (ℕ × ℕ) → Option Bytes
  by_weights n w = program (bidegrees_of document_01 n w) document_01 n file

  abbrev by_head : ℕ → Result Head → Option Bytes
  by_head n x = program (λ X. x >>= λ h. bidegrees_of document_01 n h.weights X) document_01 n file

  same_program : (n : ℕ) → program (bidegrees_of document_01 n (weights_of (get_or s 1 0) ws)) document_01 n file ≡ bidegrees document_01 n file
  same_program n = ap (by_weights n) weights_are ∙ sym (ap (by_head n) found.1)

  pub by_own_weights : {out out' : Bytes} {r : ℕ}
      → Prints (λ n. program (bidegrees_of document_01 n (weights_of (get_or s 1 0) ws)) document_01 n file) out out' 0 r
      → Prints (λ n. bidegrees document_01 n file) out out' 0 r
  by_own_weights p =
      record { bound = p.bound; bytes = p.bytes; gives = p.gives ∙ same_program p.bound; printed = p.printed }
