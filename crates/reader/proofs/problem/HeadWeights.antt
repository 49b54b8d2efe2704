-- The weights of a file's head as sixteen words, and back from the words.
use mathlib.Core.Path.{◌≡◌, refl, ap, ◌∙◌}
use mathlib.Core.Bool.{true}
use mathlib.Core.List.{List, [], ◌∷◌}
use Prim.Native.Nat.{ℕ, ◌-◌, ◌*◌}
use native.Mathlib.Omega.{arith}
use lib.ListN.{length, take, replicate}
use lib.Seq.{take_at}
use borrow.Author.Tests.{le-leb}
use Rattle.definitions.specs.Limits.{document_01}
use Rattle.definitions.specs.Lists.{◌and◌}
use Rattle.definitions.specs.Monomial.{Level, fits?}
use Rattle.definitions.specs.Result.{Result, done, refused, unfinished, ◌>>=◌}
use Rattle.definitions.specs.Problem.{Bytes, Parameters, body, Head, head, problem, pairs}
use Rattle.definitions.specs.Layout.{Words}
use Rattle.definitions.specs.Places.{most_weight, weights_length}
use Rattle.laws.proofs.Results.{IfDone, if_done_says}
use Rattle.laws.proofs.Members.{All}
use Rattle.laws.proofs.Reading.{WeightsFit, Ready, head_ready}
use Rattle.reader.specs.lines.Steps.{Opened, HeadSaid, in_a_row, weights_words, head_first}
use Rattle.reader.specs.problem.Reading.{head_weights}
use Rattle.reader.proofs.problem.LineByLine.{fits_padded}
use Rattle.reader.proofs.problem.HeadLines.{head_step}

-- ## What is read

module _ (file : Bytes) where
  abbrev weighed : Result Head → Result Words
  weighed x = x >>= λ h. done (weights_words h.weights)

  same : weighed (head document_01 file) ≡ (head_first file >>= λ a. done a.0.2)
  same = head_step (λ h. done (weights_words h.weights)) (λ a. done a.0.2) (λ q d ws place bytes. refl) file

  pub weights_taken : (a : Opened HeadSaid) → head_first file ≡ done a → a.0.2 ≡ head_weights (head document_01 file)
  weights_taken a e = go (head document_01 file) (same ∙ ap (λ x. x >>= λ a. done a.0.2) e)
    where
      go : (x : Result Head) → weighed x ≡ done a.0.2 → a.0.2 ≡ head_weights x
      go (done h) e = cc
      go (refused number place value) e = let y : ◌≡◌ {A = ℕ} 0 1 = cc in absurd (omega arith)
      go unfinished e = let y : ◌≡◌ {A = ℕ} 0 1 = cc in absurd (omega arith)

  pub weights_barred : (number place : ℕ) → head_first file ≡ refused number place [] → replicate weights_length 0 ≡ head_weights (head document_01 file)
  weights_barred number place e = go (head document_01 file) (same ∙ ap (λ x. x >>= λ a. done a.0.2) e)
    where
      go : (x : Result Head) → weighed x ≡ refused number place [] → replicate weights_length 0 ≡ head_weights x
      go (done h) e = let y : ◌≡◌ {A = ℕ} 0 1 = cc in absurd (omega arith)
      go (refused number place value) e = refl
      go unfinished e = refl

-- ## Each is at most 15

row_fits : (ws : List (ℕ × ℕ)) → All WeightsFit ws → fits? most_weight (in_a_row ws) ≡ true
row_fits [] h = refl
row_fits (w ∷ ws) h = λ i. le-leb w.0 most_weight h.0.0 i and (le-leb w.1 most_weight h.0.1 i and row_fits ws h.1 i)

pub weights_fit : (file : Bytes) → fits? most_weight (head_weights (head document_01 file)) ≡ true
weights_fit file = go (head document_01 file) (head_ready document_01 file)
  where
    go : (x : Result Head) → IfDone (Ready document_01) x → fits? most_weight (head_weights x) ≡ true
    go (done h) r = fits_padded most_weight weights_length (in_a_row h.weights) ∙ row_fits h.weights r.weights
    go (refused number place value) r = refl
    go unfinished r = refl

-- ## Two by two, for callers

pairs_row : (ws : List (ℕ × ℕ)) → pairs (in_a_row ws) ≡ ws
pairs_row [] = refl
pairs_row (w ∷ ws) = ap (λ l. w ∷ l) (pairs_row ws)

length_row : (ws : List (ℕ × ℕ)) → length (in_a_row ws) ≡ 2 * length ws
length_row [] = refl
length_row (w ∷ ws) = omega (arith, length_row ws)

-- the words of so many variables
pub pairs_words : (n : ℕ) (ws : List (ℕ × ℕ)) → length ws ≡ n → pairs (take (2 * n) (weights_words ws)) ≡ ws
pairs_words n ws l =
    ap pairs (take_at (in_a_row ws) (replicate (weights_length - length (in_a_row ws)) 0) (2 * n) (omega (arith, length_row ws))) ∙ pairs_row ws

-- the weights of the variables of a head that is read
pub pairs_of_head : (file : Bytes) (h : Head) → head document_01 file ≡ done h
    → pairs (take (2 * h.parameters.n) (head_weights (head document_01 file))) ≡ h.weights
pairs_of_head file h e =
    ap (λ x. pairs (take (2 * h.parameters.n) (head_weights x))) e
    ∙ pairs_words h.parameters.n h.weights (if_done_says (Ready document_01) (head document_01 file) (head_ready document_01 file) h e).weighed

-- a file that is read has a head, with its parameters
pub head_of_read : (file : Bytes) (f : Parameters × Level) → problem document_01 file ≡ done f
    → (h : Head) × (head document_01 file ≡ done h) × (h.parameters ≡ f.0)
head_of_read file f e = go (head document_01 file) refl e
  where
    elements : (h : Head) (x : Result Level) → ◌≡◌ {A = Result (Parameters × Level)} (x >>= λ g. done (h.parameters, g)) (done f) → h.parameters ≡ f.0
    elements h (done g) e = ap (λ (r : Parameters × Level). r.0) (read_pair e)
      where
        read_pair : ◌≡◌ {A = Result (Parameters × Level)} (done (h.parameters, g)) (done f) → ◌≡◌ {A = Parameters × Level} (h.parameters, g) f
        read_pair e = cc
    elements h (refused number place value) e = let y : ◌≡◌ {A = ℕ} 0 1 = cc in absurd (omega arith)
    elements h unfinished e = let y : ◌≡◌ {A = ℕ} 0 1 = cc in absurd (omega arith)

    go : (x : Result Head) → head document_01 file ≡ x
        → (x >>= λ h. body document_01 h.parameters h.place 0 [] h.later >>= λ g. done (h.parameters, g)) ≡ done f
        → (h : Head) × (head document_01 file ≡ done h) × (h.parameters ≡ f.0)
    go (done h) r e = (h, r, elements h (body document_01 h.parameters h.place 0 [] h.later) e)
    go (refused number place value) r e = let y : ◌≡◌ {A = ℕ} 0 1 = cc in absurd (omega arith)
    go unfinished r e = let y : ◌≡◌ {A = ℕ} 0 1 = cc in absurd (omega arith)
