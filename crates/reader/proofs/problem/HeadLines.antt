-- The head of a file: R, then D and G where they are given, one line at a time. What is read of the lines behind it does not depend on the degrees.
use mathlib.Core.Path.{◌≡◌, refl, sym, ap, ◌∙◌, subst}
use mathlib.Core.Bool.{Bool, true, false}
use mathlib.Core.Option.{Option, none, some}
use mathlib.Core.List.{List, [], ◌∷◌}
use Prim.Native.Nat.{ℕ, zero, suc, ◌+◌, ◌*◌, ◌<◌, ◌≤◌}
use native.Mathlib.Omega.{arith}
use lib.Dec.{leb}
use lib.ListN.{length, replicate}
use Rattle.definitions.specs.Limits.{Limits, document_01}
use Rattle.definitions.specs.Lists.{◌then◌}
use Rattle.definitions.specs.Monomial.{Level, fits?}
use Rattle.definitions.specs.Result.{Result, done, refused, unfinished, unless_refused, ◌>>=◌}
use Rattle.definitions.specs.Problem.{Bytes, Line, Parameters, lines, letter_D, letter_G, letter_T, shaped, t_line, by_shape, body}
use Rattle.definitions.specs.Problem.{prime_in_range?, in_ranges?, parameters_of, r_line, Head, head_of, with_degrees, d_line, pairs, with_weights, g_line}
use Rattle.definitions.specs.Problem.{after_r, first_line, head}
use Rattle.definitions.specs.Problem as definition
use Rattle.definitions.specs.Layout.{Words, padded}
use Rattle.definitions.specs.Places.{most_degree, most_weight, most_components, weights_length, file_length}
use Rattle.laws.proofs.Results.{IfSome}
use Rattle.laws.proofs.Tests.{is_true}
use Rattle.reader.specs.fields.Scanning.{behind, shaped_of, shaped_first, in_sixteen}
use Rattle.reader.specs.lines.Tests.{unless}
use Rattle.reader.specs.lines.Steps.{judged, with_shape, r_judged, r_first, Opened, or_without, optional, d_first, in_a_row, weights_words, g_next}
use Rattle.reader.specs.lines.Steps.{HeadSaid, behind_r, head_first}
use Rattle.reader.specs.problem.Reading.{laid, laid_level, degrees_alone, words_laid, body_words, problem_words}
use Rattle.reader.proofs.fields.Lines.{first_of, shaped_count}
use Rattle.reader.proofs.lines.HeadAnswers.{ranged}
use Rattle.reader.proofs.problem.LineByLine.{parameters_padded, fits_padded, zeros_padded}

in_turn : {A B C : Type 0} (x : Result A) (f : A → Result B) (g : B → Result C) → ((x >>= f) >>= g) ≡ (x >>= λ a. f a >>= g)
in_turn (done a) f g = refl
in_turn (refused number place value) f g = refl
in_turn unfinished f g = refl

-- ## The degrees

-- the parameters with other degrees
abbrev pub regraded : Parameters → List ℕ → Parameters
regraded q d = record { p = q.p; n = q.n; code = q.code; s = q.s; degrees = d }

-- the lines behind the head do not look at the degrees
pub body_regraded : (lim : Limits) (q : Parameters) (d : List ℕ) (place count : ℕ) (f : Level) (ls : List Line)
    → body lim (regraded q d) place count f ls ≡ body lim q place count f ls
body_regraded lim q d place count f [] = refl
body_regraded lim q d place count f (line ∷ later) =
    go (shaped lim.field letter_T (3 + q.n) line) (λ g. body_regraded lim q d (suc place) (suc count) g later)
  where
    more : Parameters → Level → Result Level
    more q g = body lim q (suc place) (suc count) g later

    go : (o : Option (List ℕ)) → ((g : Level) → more (regraded q d) g ≡ more q g)
        → by_shape o lim (regraded q d) place count f line later (more (regraded q d)) ≡ by_shape o lim q place count f line later (more q)
    go none e = refl
    go (some v) e = λ i. t_line lim q place count f v >>= λ g. e g i

-- ## A line that may be left out

-- as the definitions read D and G: the head so far, and the one with the line's numbers
module _ (letter count most number : ℕ) (h : Head) (next : List ℕ → List Line → Head) where
  abbrev by_line : List Line → Option (List ℕ) → Result Head
  by_line later none = done h
  by_line later (some v) = unless_refused (fits? most v) number h.place >>= λ u. done (next v later)

  abbrev by_lines : List Line → Result Head
  by_lines [] = done h
  by_lines (line ∷ later) = by_line later (shaped 65535 letter count line)

  -- whatever follows: if it is the same with the line and without it
  module _ {A : Type 0} (without : Words) (on : Head → Result A) (on' : Opened Words → Result A) (wide : 57 < letter)
      (taken : (v : Words) (rest : Bytes) → length v ≡ count → on (next v (lines rest)) ≡ on' (padded 16 v, h.place + 1, rest)) where
    stands : (v : Words) (bytes rest : Bytes) → length v ≡ count
        → (by_line (lines rest) (some v) >>= on) ≡ (or_without most number without h.place bytes (some (padded 16 v, rest)) >>= on')
    stands v bytes rest l = go (fits? most v) ∙ ap (λ t. tested t >>= on') (sym (fits_padded most 16 v))
      where
        tested : Bool → Result (Opened Words)
        tested t = unless_refused t number h.place >>= λ u. done (padded 16 v, h.place + 1, rest)

        go : (t : Bool) → ((unless_refused t number h.place >>= λ u. done (next v (lines rest))) >>= on) ≡ (tested t >>= on')
        go true = taken v rest l
        go false = refl

    optional_step : (bytes : Bytes) → on h ≡ on' (without, h.place, bytes)
        → (by_lines (lines bytes) >>= on) ≡ (optional letter count most number without h.place bytes >>= on')
    optional_step [] left = left
    optional_step (b ∷ bytes) left = parted (first_of b bytes)
      where
        paired : Option Words → Option (Words × Bytes)
        paired o = o then λ v. some (v, behind (b ∷ bytes))

        go : (o : Option Words) → IfSome (λ (p : Words × Bytes). length p.0 ≡ count) (paired o)
            → (by_line (lines (behind (b ∷ bytes))) o >>= on)
            ≡ (or_without most number without h.place (b ∷ bytes) (in_sixteen (paired o)) >>= on')
        go none l = left
        go (some v) l = stands v (b ∷ bytes) (behind (b ∷ bytes)) l

        parted : (line : Line) × (lines (b ∷ bytes) ≡ line ∷ lines (behind (b ∷ bytes)))
            → (by_lines (lines (b ∷ bytes)) >>= on) ≡ (optional letter count most number without h.place (b ∷ bytes) >>= on')
        parted (line, e) =
            let first : shaped_first 65535 letter count (b ∷ bytes) ≡ paired (shaped 65535 letter count line)
            = ap (λ ls. paired (shaped_of 65535 letter count ls)) e in
            ap (λ ls. by_lines ls >>= on) e
            ∙ go (shaped 65535 letter count line) (subst (IfSome (λ (p : Words × Bytes). length p.0 ≡ count)) first
            (shaped_count 65535 letter count wide (b ∷ bytes)))
            ∙ ap (λ o. or_without most number without h.place (b ∷ bytes) (in_sixteen o) >>= on') (sym first)

degrees_by : (h : Head) (ls : List Line) → definition.d_first document_01 h ls ≡ by_lines letter_D h.parameters.s most_degree 18 h (with_degrees h) ls
degrees_by h [] = refl
degrees_by h (line ∷ later) = go (shaped 65535 letter_D h.parameters.s line)
  where
    go : (o : Option (List ℕ)) → d_line h later o ≡ by_line letter_D h.parameters.s most_degree 18 h (with_degrees h) later o
    go none = refl
    go (some v) = refl

weights_by : (h : Head) (ls : List Line)
    → definition.g_next document_01 h ls ≡ by_lines letter_G (2 * h.parameters.n) most_weight 24 h (with_weights h) ls
weights_by h [] = refl
weights_by h (line ∷ later) = go (shaped 65535 letter_G (2 * h.parameters.n) line)
  where
    go : (o : Option (List ℕ)) → g_line h later o ≡ by_line letter_G (2 * h.parameters.n) most_weight 24 h (with_weights h) later o
    go none = refl
    go (some v) = refl

-- ## D and G

row_pairs : (n : ℕ) (v : Words) → length v ≡ 2 * n → in_a_row (pairs v) ≡ v
row_pairs n [] e = refl
row_pairs zero (a ∷ v) e = absurd (omega arith)
row_pairs (suc n) (a ∷ []) e = absurd (omega arith)
row_pairs (suc n) (a ∷ b ∷ v) e = ap (λ l. a ∷ b ∷ l) (row_pairs n v (omega arith))

-- a head with these degrees and weights
abbrev headed : Parameters → List ℕ → List (ℕ × ℕ) → ℕ → List Line → Head
headed q d ws place later = record { parameters = regraded q d; weights = ws; place = place; later = later }

-- what follows the head, and what follows its words
module _ {A : Type 0} (on : Head → Result A) (on' : Opened HeadSaid → Result A)
    (same : (q : Parameters) (d : Words) (ws : List (ℕ × ℕ)) (place : ℕ) (bytes : Bytes)
    → on (headed q d ws place (lines bytes)) ≡ on' ((q, padded most_components d, weights_words ws), place, bytes)) where
  module _ (q : Parameters) where
    weights_step : (d : Words) (place : ℕ) (bytes : Bytes)
        → (definition.g_next document_01 (headed q d (replicate q.n (1, 0)) place (lines bytes)) (lines bytes) >>= on)
        ≡ (g_next q.n place bytes >>= λ g. on' ((q, padded most_components d, g.0), g.1, g.2))
    weights_step d place bytes =
        ap (λ x. x >>= on) (weights_by h (lines bytes))
        ∙ optional_step letter_G (2 * q.n) most_weight 24 h (with_weights h) (weights_words (replicate q.n (1, 0))) on
        (λ g. on' ((q, padded most_components d, g.0), g.1, g.2)) (omega arith) taken bytes (same q d (replicate q.n (1, 0)) place bytes)
      where
        h : Head
        h = headed q d (replicate q.n (1, 0)) place (lines bytes)

        taken : (v : Words) (rest : Bytes) → length v ≡ 2 * q.n
            → on (with_weights h v (lines rest)) ≡ on' ((q, padded most_components d, padded 16 v), place + 1, rest)
        taken v rest l =
            let e : suc place ≡ place + 1 = omega arith in
            ap (λ k. on (headed q d (pairs v) k (lines rest))) e ∙ same q d (pairs v) (place + 1) rest
            ∙ ap (λ w. on' ((q, padded most_components d, padded weights_length w), place + 1, rest)) (row_pairs q.n v l)

    behind_step : q.s ≤ most_components → regraded q (replicate q.s 0) ≡ q → (bytes : Bytes)
        → ((definition.d_first document_01 (head_of q (lines bytes)) (lines bytes) >>= λ h. definition.g_next document_01 h h.later) >>= on)
        ≡ (behind_r q bytes >>= on')
    behind_step few zeros bytes =
        in_turn (definition.d_first document_01 h (lines bytes)) (λ h. definition.g_next document_01 h h.later) on
        ∙ ap (λ x. x >>= weighed) (degrees_by h (lines bytes))
        ∙ optional_step letter_D q.s most_degree 18 h (with_degrees h) (replicate most_components 0) weighed weighed' (omega arith)
        (λ v rest l. weights_step v 3 rest) bytes left
        ∙ sym (in_turn (d_first q.s bytes) (λ d. g_next q.n d.1 d.2 >>= λ g. done ((q, d.0, g.0), g.1, g.2)) on'
        ∙ (λ i. d_first q.s bytes >>= λ d. in_turn (g_next q.n d.1 d.2) (λ g. done ((q, d.0, g.0), g.1, g.2)) on' i))
      where
        h : Head
        h = head_of q (lines bytes)

        weighed : Head → Result A
        weighed h = definition.g_next document_01 h h.later >>= on

        weighed' : Opened Words → Result A
        weighed' d = g_next q.n d.1 d.2 >>= λ g. on' ((q, d.0, g.0), g.1, g.2)

        left : weighed h ≡ weighed' (replicate most_components 0, 2, bytes)
        left =
            ap (λ r. weighed (head_of r (lines bytes))) (sym zeros) ∙ weights_step (replicate q.s 0) 2 bytes
            ∙ ap (λ d. weighed' (d, 2, bytes)) (zeros_padded most_components q.s few)

  -- ## R

  -- the tests in a row
  r_guarded : Bool → Bool → Parameters → Result Parameters
  r_guarded a b q = unless_refused a 2 1 >>= λ u. unless_refused b 3 1 >>= λ u'. done q

  abbrev numbered : Bool → Bool → Parameters → Bytes → Result (Parameters × Bytes)
  numbered a b q rest = judged (unless a 2 (unless b 3 0)) 1 (q, rest)

  abbrev after : List Line → Parameters → Result Head
  after later q = definition.d_first document_01 (head_of q later) later >>= λ h. definition.g_next document_01 h h.later

  r_step : (v : Words) (rest : Bytes)
      → ((r_line document_01 v >>= after (lines rest)) >>= on) ≡ ((r_judged (padded 16 v, rest) >>= λ a. behind_r a.0 a.1) >>= on')
  unfolding r_guarded
  r_step v rest =
      ap (λ (q : Parameters). (r_guarded (prime_in_range? document_01 q.p) (in_ranges? document_01 q) q >>= after (lines rest)) >>= on)
      (sym (parameters_padded v))
      ∙ go (parameters_of (padded 16 v)) (prime_in_range? document_01 (parameters_of (padded 16 v)).p) (in_ranges? document_01 (parameters_of (padded 16 v)))
      refl refl
    where
      go : (q : Parameters) (a b : Bool) → in_ranges? document_01 q ≡ b → regraded q (replicate q.s 0) ≡ q
          → ((r_guarded a b q >>= after (lines rest)) >>= on)
          ≡ ((numbered a b q rest >>= λ a. behind_r a.0 a.1) >>= on')
      go q false b e z = refl
      go q true false e z = refl
      go q true true e z = behind_step q (ranged q (is_true e)).components z rest

  first_step : (file : Bytes) → (first_line document_01 (lines file) >>= on) ≡ ((r_first file >>= λ a. behind_r a.0 a.1) >>= on')
  first_step [] = refl
  first_step (b ∷ bytes) = parted (first_of b bytes)
    where
      parted : (line : Line) × (lines (b ∷ bytes) ≡ line ∷ lines (behind (b ∷ bytes)))
          → (first_line document_01 (lines (b ∷ bytes)) >>= on) ≡ ((r_first (b ∷ bytes) >>= λ a. behind_r a.0 a.1) >>= on')
      parted (line, e) =
          ap (λ ls. first_line document_01 ls >>= on) e ∙ go (shaped 65535 82 4 line)
          ∙ ap (λ ls. (with_shape (in_sixteen (shaped_of 65535 82 4 ls then λ v. some (v, behind (b ∷ bytes)))) 1 r_judged
          >>= λ a. behind_r a.0 a.1) >>= on') (sym e)
        where
          go : (o : Option Words) → (after_r document_01 (lines (behind (b ∷ bytes))) o >>= on)
              ≡ ((with_shape (in_sixteen (o then λ v. some (v, behind (b ∷ bytes)))) 1 r_judged >>= λ a. behind_r a.0 a.1) >>= on')
          go none = refl
          go (some v) = r_step v (behind (b ∷ bytes))

  -- the whole head
  pub head_step : (file : Bytes) → (head document_01 file >>= on) ≡ (head_first file >>= on')
  head_step file = go (leb (length file) file_length)
    where
      go : (t : Bool) → ((unless_refused t 1 0 >>= λ u. first_line document_01 (lines file)) >>= on)
          ≡ ((unless_refused t 1 0 >>= λ u. r_first file >>= λ a. behind_r a.0 a.1) >>= on')
      go true = first_step file
      go false = refl

-- ## The words of a file

module _ (size : ℕ) where
  abbrev worded : Result (Parameters × Level) → Result Words
  worded x = x >>= λ f. done (words_laid size f)

  abbrev read_from : Head → Result (Parameters × Level)
  read_from h = body document_01 h.parameters h.place 0 [] h.later >>= λ f. done (h.parameters, f)

  worded_regraded : (q : Parameters) (d : Words) (ws : List (ℕ × ℕ)) (place : ℕ) (bytes : Bytes)
      → worded (read_from (headed q d ws place (lines bytes))) ≡ body_words (degrees_alone size (padded most_components d)) q place bytes
  unfolding laid
  worded_regraded q d ws place bytes =
      ap (λ x. worded (x >>= λ f. done (regraded q d, f))) (body_regraded document_01 q d place 0 [] (lines bytes))
      ∙ go (body document_01 q place 0 [] (lines bytes))
    where
      go : (x : Result Level) → worded (x >>= λ f. done (regraded q d, f))
          ≡ (x >>= λ f. done (laid_level q f (degrees_alone size (padded most_components d))))
      go (done f) = refl
      go (refused number place value) = refl
      go unfinished = refl

  pub words_step : (file : Bytes)
      → problem_words size file ≡ (head_first file >>= λ a. body_words (degrees_alone size a.0.1) a.0.0 a.1 a.2)
  words_step file =
      in_turn (head document_01 file) read_from (λ f. done (words_laid size f))
      ∙ head_step (λ h. worded (read_from h)) (λ a. body_words (degrees_alone size a.0.1) a.0.0 a.1 a.2) worded_regraded file
