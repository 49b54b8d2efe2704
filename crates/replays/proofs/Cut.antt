-- The L line and P lines in turn, as crate inputs takes them: of more bytes than they can have the first ones say all.
use mathlib.Core.Path.{◌≡◌, refl, sym, ap, ◌∙◌, subst}
use mathlib.Core.Logic.{◌⊎◌, inl, inr}
use mathlib.Core.Bool.{Bool, true, false, not}
use mathlib.Core.Option.{Option, none, some}
use mathlib.Core.List.{List, [], ◌∷◌, ◌++◌}
use Prim.Native.Nat.{ℕ, zero, suc, ◌+◌, ◌*◌, ◌-◌, ◌<◌, ◌≤◌}
use native.Mathlib.Omega.{arith}
use lib.Dec.{T, leb, leb→le, nleb→lt}
use lib.ListN.{length, get_or, take}
use lib.Seq.{take-append-le, length-take-le}
use borrow.Author.Tests.{le-ltb}
use Rattle.definitions.specs.Limits.{document_01}
use Rattle.definitions.specs.Lists.{between}
use Rattle.definitions.specs.Monomial.{Vector, Level, no_term}
use Rattle.definitions.specs.Result.{Result, done, refused, unfinished, unless_refused, at_level, ◌>>=◌}
use Rattle.definitions.specs.Stage.{Stage, highest, stage_over}
use Rattle.definitions.specs.Run.{Run, start, hybrid_strategy}
use Rattle.definitions.specs.Lifting.{limited_frame}
use Rattle.definitions.specs.Problem.{Bytes, Line, Parameters, newline, ended, lines, shaped}
use Rattle.definitions.specs.State.{State, sound?}
use Rattle.definitions.specs.Sheet.{s_lines}
use Rattle.definitions.specs.Replay.{letter_P, letter_L, pick_of, place_from, replayed, p_line, p_lines, lifted_below, replay_over, replay_level, l_line}
use Rattle.definitions.specs.Replay.{l_first}
use Rattle.definitions.specs.Places.{most_picks, p_line_length, l_line_length}
use Rattle.laws.proofs.Tests.{between_low, between_high}
use Rattle.laws.proofs.Results.{IfSome, if_done_says}
use Rattle.demands.proofs.Over.{sound_eight}
use Rattle.inputs.proofs.Lines.{Without, split_none, line_first, Front, open_end, one_line, front, take_without, taken_line, shaped_short}
use Rattle.inputs.proofs.Turns.{InTurn, turns_cut}
use Rattle.replays.proofs.Replays.{Stands, below_stands}

-- ## P lines

module _ (S : Stage) (n k : ℕ) (few : n ≤ 8) where
  -- so many picks, and where they led
  abbrev reads : ℕ → ℕ × Run → List Line → Result Vector
  reads place a ls = p_lines most_picks S 65535 n k place a.0 a.1 ls

  abbrev counted : ℕ → Result Run → Result (ℕ × Run)
  counted picks x = x >>= λ r. done (suc picks, r)

  abbrev one : ℕ → ℕ × Run → Line → Result (ℕ × Run)
  one place a line = counted a.0 (p_line most_picks S n k place a.0 a.1 (shaped 65535 letter_P (suc n) line))

  turn : (place : ℕ) (a : ℕ × Run) (line : Line) (later : List Line) → reads place a (line ∷ later) ≡ (one place a line >>= λ b. reads (suc place) b later)
  turn place a line later = go (p_line most_picks S n k place a.0 a.1 (shaped 65535 letter_P (suc n) line))
    where
      go : (x : Result Run)
          → (x >>= λ r. p_lines most_picks S 65535 n k (suc place) (suc a.0) r later) ≡ (counted a.0 x >>= λ b. reads (suc place) b later)
      go (done r) = refl
      go (refused number at value) = refl
      go unfinished = refl

  -- a line more where there are as many picks as may be, or one that is too long for a P line
  more_refused : (place : ℕ) (a : ℕ × Run) (x : Bytes) → (most_picks ≤ a.0) ⊎ (p_line_length ≤ length x) → one place a (x, true) ≡ refused 21 place []
  more_refused place a x l = go (shaped 65535 letter_P (suc n) (x, true)) (shaped_short letter_P (suc n) (x, true)) l
    where
      go : (o : Option (List ℕ)) → IfSome (λ w. length x ≤ 1 + suc n * 6) o → (most_picks ≤ a.0) ⊎ (p_line_length ≤ length x)
          → counted a.0 (p_line most_picks S n k place a.0 a.1 o) ≡ refused 21 place []
      go none h l = refl
      go (some v) h (inl e) =
          ap (λ b. counted a.0 (unless_refused b 21 place >>= λ u. replayed S k place a.1 (place_from (pick_of n v) 0 a.1.value)))
          (le-ltb a.0 most_picks e)
      go (some v) h (inr l) = absurd (omega arith)

  one_more : (place : ℕ) (a b : ℕ × Run) (line : Line) → one place a line ≡ done b → b.0 ≡ suc a.0
  one_more place a b line e = go (p_line most_picks S n k place a.0 a.1 (shaped 65535 letter_P (suc n) line)) e
    where
      picks_of : Result (ℕ × Run) → ℕ
      picks_of (done c) = c.0
      picks_of (refused number place value) = 0
      picks_of unfinished = 0

      still : unfinished ≡ done b → ⊥
      still e = let z : ◌≡◌ {A = ℕ} 0 1 = cc in omega arith

      never : {number place : ℕ} {value : Vector} → refused number place value ≡ done b → ⊥
      never e = let z : ◌≡◌ {A = ℕ} 0 1 = cc in omega arith

      go : (x : Result Run) → counted a.0 x ≡ done b → b.0 ≡ suc a.0
      go (done r) e = ap picks_of (sym e)
      go (refused number at value) e = absurd (never e)
      go unfinished e = absurd (still e)

  in_turn : InTurn reads one 21 most_picks p_line_length (λ a. a.0)
  in_turn = record { turn = turn; unended = λ place a x. refl; refuses = more_refused; counts = one_more }

  -- all P lines
  pub picks_cut : (place m : ℕ) (r : Run) (bytes : Bytes) → most_picks * p_line_length < m
      → p_lines most_picks S 65535 n k place 0 r (lines bytes) ≡ p_lines most_picks S 65535 n k place 0 r (lines (take m bytes))
  picks_cut place m r bytes l = turns_cut reads one 21 most_picks p_line_length (λ a. a.0) in_turn place m (0, r) bytes l

-- ## The L line

module _ (n place : ℕ) (q : Parameters) (f : Level) (s : T (sound? document_01 (record { parameters = q; levels = f ∷ [] }))) where
  abbrev X : State
  X = record { parameters = q; levels = f ∷ [] }

  abbrev asked : List Line → Result Bytes
  asked ls = l_first document_01 n most_picks place ls X

  -- over the levels below, which keep the parameters
  over_cut : (k v m : ℕ) (rest : Bytes) → most_picks * p_line_length < m → (Y : State) → T (sound? document_01 Y)
      → replay_over document_01 most_picks place k v (lines rest) Y ≡ replay_over document_01 most_picks place k v (lines (take m rest)) Y
  over_cut k v m rest l Y t =
      let S : Stage = stage_over document_01 Y.parameters.p Y.parameters.code Y.levels in
      λ i. (at_level k (limited_frame document_01 Y.parameters.code (highest Y.levels)) >>= λ ms.
      unless_refused (between 1 v (length ms)) 12 place >>= λ u.
      at_level k (start S (hybrid_strategy S 2) (get_or ms (v - 1) no_term.1)) >>= λ r.
      picks_cut S Y.parameters.n k (sound_eight document_01 tt Y t) (suc place) m r rest l i) >>= λ w. done (s_lines Y.parameters.n k v w)

  level_cut : (k v m : ℕ) (rest : Bytes) → most_picks * p_line_length < m
      → replay_level document_01 n most_picks place k v (lines rest) X ≡ replay_level document_01 n most_picks place k v (lines (take m rest)) X
  level_cut k v m rest l = inside (between 1 k 9) refl
    where
      lifted : between 1 k 9 ≡ true → (x : Result State) → lifted_below document_01 n (k - 1) 1 X ≡ x
          → (x >>= replay_over document_01 most_picks place k v (lines rest)) ≡ (x >>= replay_over document_01 most_picks place k v (lines (take m rest)))
      lifted e (done Y) b =
          let t : T (between 1 k 9) = subst T (sym e) tt in
          let lo = between_low 1 k 9 t in
          let hi = between_high 1 k 9 t in
          let z = if_done_says (Stands document_01 tt (k - 1 + 1)) (lifted_below document_01 n (k - 1) 1 X)
          (below_stands document_01 tt n (k - 1) 1 X (s, refl) (omega arith) (omega (arith, lo, hi))) Y b in
          over_cut k v m rest l Y z.0
      lifted e (refused number at value) b = refl
      lifted e unfinished b = refl

      inside : (b : Bool) → between 1 k 9 ≡ b
          → (unless_refused b 12 place >>= λ u. lifted_below document_01 n (k - 1) 1 X >>= replay_over document_01 most_picks place k v (lines rest))
          ≡ (unless_refused b 12 place >>= λ u. lifted_below document_01 n (k - 1) 1 X >>= replay_over document_01 most_picks place k v (lines (take m rest)))
      inside true e = lifted e (lifted_below document_01 n (k - 1) 1 X) refl
      inside false e = refl

  -- a line that is not ended is no L line
  open_refused : (b : ℕ) (x : Bytes) → Without (b ∷ x) → asked (lines (b ∷ x)) ≡ refused 21 place []
  open_refused b x w = ap (λ z. asked (ended z)) (split_none (b ∷ x) w)

  filled_refused : (x : Bytes) → Without x → 1 ≤ length x → asked (lines x) ≡ refused 21 place []
  filled_refused [] w k = absurd (omega arith)
  filled_refused (b ∷ x) w k = open_refused b x w

  open_cut : (m : ℕ) → 1 ≤ m → (x : Bytes) → Without x → asked (lines x) ≡ asked (lines (take m x))
  open_cut zero k x w = absurd (omega arith)
  open_cut (suc m) k [] w = refl
  open_cut (suc m) k (b ∷ x) w = open_refused b x w ∙ sym (open_refused b (take m x) (take_without (suc m) (b ∷ x) w))

  -- an L line is short
  next : (m : ℕ) (x rest : Bytes) → l_line_length + most_picks * p_line_length < m → suc (length x) ≤ m
      → asked ((x, true) ∷ lines rest) ≡ asked ((x, true) ∷ lines (take (m - suc (length x)) rest))
  next m x rest l k = go (shaped 65535 letter_L 2 (x, true)) (shaped_short letter_L 2 (x, true))
    where
      go : (o : Option (List ℕ)) → IfSome (λ v. length x ≤ 1 + 2 * 6) o
          → l_line document_01 n most_picks place (lines rest) X o ≡ l_line document_01 n most_picks place (lines (take (m - suc (length x)) rest)) X o
      go none h = refl
      go (some v) h = level_cut (get_or v 0 0) (get_or v 1 0) (m - suc (length x)) rest (omega (arith, l, h))

  too_long : (m : ℕ) (x : Bytes) (later : List Line) → l_line_length + most_picks * p_line_length < m → m ≤ length x → asked ((x, true) ∷ later) ≡ refused 21
      place []
  too_long m x later l h = go (shaped 65535 letter_L 2 (x, true)) (shaped_short letter_L 2 (x, true))
    where
      go : (o : Option (List ℕ)) → IfSome (λ v. length x ≤ 1 + 2 * 6) o → l_line document_01 n most_picks place later X o ≡ refused 21 place []
      go none k = refl
      go (some v) k = absurd (omega (arith, l, h, k))

  -- all lines after E
  pub log_cut : (m : ℕ) (bytes : Bytes) → l_line_length + most_picks * p_line_length < m → asked (lines bytes) ≡ asked (lines (take m bytes))
  log_cut m bytes l = go (front bytes)
    where
      go : {bytes : Bytes} → Front bytes → asked (lines bytes) ≡ asked (lines (take m bytes))
      go (open_end {x} w) = open_cut m (omega (arith, l)) x w
      go (one_line x rest w) = sized (leb (suc (length x)) m) (leb→le (suc (length x)) m) (nleb→lt (suc (length x)) m)
        where
          sized : (c : Bool) → (T c → suc (length x) ≤ m) → (T (not c) → m < suc (length x))
              → asked (lines (x ++ newline ∷ rest)) ≡ asked (lines (take m (x ++ newline ∷ rest)))
          sized true h k =
              ap asked (line_first x rest w) ∙ next m x rest l (h tt)
              ∙ sym (ap (λ z. asked (lines z)) (taken_line m x rest (h tt)) ∙ ap asked (line_first x (take (m - suc (length x)) rest) w))
          sized false h k =
              let b : m < suc (length x) = k tt in
              let g : m ≤ length x = omega arith in
              let t : length (take m x) ≡ m = length-take-le m x g in
              ap asked (line_first x rest w) ∙ too_long m x (lines rest) l g
              ∙ sym (ap (λ z. asked (lines z)) (take-append-le m x (newline ∷ rest) g) ∙ filled_refused (take m x) (take_without m x w) (omega (arith, t, l)))
