-- Lines that are tested in turn, each as it comes: of a text that is longer the first bytes say all, as many as the lines that may be have together, and one
-- more.
use mathlib.Core.Path.{◌≡◌, refl, sym, ap, ◌∙◌}
use mathlib.Core.Logic.{◌⊎◌, inl, inr}
use mathlib.Core.Bool.{Bool, true, false, not}
use mathlib.Core.List.{List, [], ◌∷◌, ◌++◌}
use Prim.Native.Nat.{ℕ, zero, suc, ◌+◌, ◌*◌, ◌-◌, ◌<◌, ◌≤◌}
use native.Mathlib.Nat.{suc-mul}
use native.Mathlib.Omega.{arith}
use lib.Dec.{T, leb, leb→le, nleb→lt}
use lib.ListN.{length, take}
use lib.Seq.{take-append-le, length-take-le}
use Rattle.definitions.specs.Result.{Result, done, refused, unfinished, ◌>>=◌}
use Rattle.definitions.specs.Problem.{Bytes, Line, newline, ended, lines}
use Rattle.inputs.proofs.Lines.{Without, split_none, line_first, Front, open_end, one_line, front, take_without, taken_line}

-- `one` tests a line at its place and goes on with what is known then; `reads` does so with all lines, and refuses by one number: a line that is not ended,
-- one that is too long with its end, and one more where there are as many as may be
pub record InTurn {A R : Type 0} (reads : ℕ → A → List Line → Result R) (one : ℕ → A → Line → Result A) (number most width : ℕ) (count : A → ℕ) : Type 0 where
  pub turn : (place : ℕ) (a : A) (line : Line) (later : List Line) → reads place a (line ∷ later) ≡ (one place a line >>= λ b. reads (suc place) b later)
  pub unended : (place : ℕ) (a : A) (x : Bytes) → one place a (x, false) ≡ refused number place []
  pub refuses : (place : ℕ) (a : A) (x : Bytes) → (most ≤ count a) ⊎ (width ≤ length x) → one place a (x, true) ≡ refused number place []
  pub counts : (place : ℕ) (a b : A) (line : Line) → one place a line ≡ done b → count b ≡ suc (count a)

pub refused_not_done : {A : Type 0} {number place : ℕ} {a : A} → ◌≡◌ {A = Result A} (refused number place []) (done a) → ⊥
refused_not_done e = let z : ◌≡◌ {A = ℕ} 0 1 = cc in omega arith

module _ {A R : Type 0} (reads : ℕ → A → List Line → Result R) (one : ℕ → A → Line → Result A) (number most width : ℕ) (count : A → ℕ)
    (I : InTurn reads one number most width count) where
  -- what is not ended is refused
  open_refused : (place : ℕ) (a : A) (b : ℕ) (x : Bytes) → Without (b ∷ x) → reads place a (lines (b ∷ x)) ≡ refused number place []
  open_refused place a b x w =
      ap (λ z. reads place a (ended z)) (split_none (b ∷ x) w) ∙ I.turn place a (b ∷ x, false) []
      ∙ ap (λ y. y >>= λ c. reads (suc place) c []) (I.unended place a (b ∷ x))

  open_cut : (place : ℕ) (a : A) (m : ℕ) → 1 ≤ m → (x : Bytes) → Without x → reads place a (lines x) ≡ reads place a (lines (take m x))
  open_cut place a zero k x w = absurd (omega arith)
  open_cut place a (suc m) k [] w = refl
  open_cut place a (suc m) k (b ∷ x) w = open_refused place a b x w ∙ sym (open_refused place a b (take m x) (take_without (suc m) (b ∷ x) w))

  filled_refused : (place : ℕ) (a : A) (x : Bytes) → Without x → 1 ≤ length x → reads place a (lines x) ≡ refused number place []
  filled_refused place a [] w k = absurd (omega arith)
  filled_refused place a (b ∷ x) w k = open_refused place a b x w

  more_refused : (place : ℕ) (a : A) (x : Bytes) (later : List Line) → (most ≤ count a) ⊎ (width ≤ length x) → reads place a ((x, true) ∷ later) ≡ refused
      number place []
  more_refused place a x later l =
      I.turn place a (x, true) later ∙ ap (λ y. y >>= λ c. reads (suc place) c later) (I.refuses place a x l)

  -- so many lines may still come
  abbrev Cut : ℕ → Type 0
  Cut r = (place m : ℕ) (a : A) (bytes : Bytes) → most ≤ count a + r → r * width < m → reads place a (lines bytes) ≡ reads place a (lines (take m bytes))

  -- .. and behind one of them one less
  abbrev Behind : ℕ → Type 0
  Behind zero = Unit {0}
  Behind (suc k) = Cut k

  step : (r : ℕ) → Behind r → Cut r
  step r ih place m a bytes h l = go (front bytes)
    where
      -- behind a line that is taken
      behind : (x rest : Bytes) (b : A) → one place a (x, true) ≡ done b → suc (length x) ≤ m → (r : ℕ) → Behind r → most ≤ count a + r → r * width < m
          → reads (suc place) b (lines rest) ≡ reads (suc place) b (lines (take (m - suc (length x)) rest))
      behind x rest b e k zero i h l = absurd (refused_not_done (sym (I.refuses place a x (inl (omega (arith, h)))) ∙ e))
      behind x rest b e k (suc r) i h l = short (leb width (length x)) (leb→le width (length x)) (nleb→lt width (length x))
        where
          short : (c : Bool) → (T c → width ≤ length x) → (T (not c) → length x < width)
              → reads (suc place) b (lines rest) ≡ reads (suc place) b (lines (take (m - suc (length x)) rest))
          short true f g = absurd (refused_not_done (sym (I.refuses place a x (inr (f tt))) ∙ e))
          short false f g =
              let s : length x < width = g tt in
              let c = I.counts place a b (x, true) e in
              let z = suc-mul r width in
              i (suc place) (m - suc (length x)) b rest (omega (arith, h, c)) (omega (arith, l, z, s))

      next : (x rest : Bytes) → suc (length x) ≤ m
          → reads place a ((x, true) ∷ lines rest) ≡ reads place a ((x, true) ∷ lines (take (m - suc (length x)) rest))
      next x rest k = I.turn place a (x, true) (lines rest) ∙ by (one place a (x, true)) refl ∙ sym
          (I.turn place a (x, true) (lines (take (m - suc (length x)) rest)))
        where
          by : (y : Result A) → one place a (x, true) ≡ y
              → (y >>= λ b. reads (suc place) b (lines rest)) ≡ (y >>= λ b. reads (suc place) b (lines (take (m - suc (length x)) rest)))
          by (done b) e = behind x rest b e k r ih h l
          by (refused number at value) e = refl
          by unfinished e = refl

      -- a line that goes on behind the first m bytes
      why : (x : Bytes) → m ≤ length x → (most ≤ count a) ⊎ (width ≤ length x)
      why x f = none_left r h l
        where
          none_left : (k : ℕ) → most ≤ count a + k → k * width < m → (most ≤ count a) ⊎ (width ≤ length x)
          none_left zero h l = inl (omega (arith, h))
          none_left (suc k) h l = inr (let z = suc-mul k width in omega (arith, l, f, z))

      go : {bytes : Bytes} → Front bytes → reads place a (lines bytes) ≡ reads place a (lines (take m bytes))
      go (open_end {x} w) = open_cut place a m (omega (arith, l)) x w
      go (one_line x rest w) = sized (leb (suc (length x)) m) (leb→le (suc (length x)) m) (nleb→lt (suc (length x)) m)
        where
          sized : (c : Bool) → (T c → suc (length x) ≤ m) → (T (not c) → m < suc (length x))
              → reads place a (lines (x ++ newline ∷ rest)) ≡ reads place a (lines (take m (x ++ newline ∷ rest)))
          sized true h k =
              ap (reads place a) (line_first x rest w) ∙ next x rest (h tt)
              ∙ sym (ap (λ z. reads place a (lines z)) (taken_line m x rest (h tt)) ∙ ap (reads place a) (line_first x (take (m - suc (length x)) rest) w))
          sized false h k =
              let b : m < suc (length x) = k tt in
              let f : m ≤ length x = omega arith in
              let s : length (take m x) ≡ m = length-take-le m x f in
              ap (reads place a) (line_first x rest w) ∙ more_refused place a x (lines rest) (why x f)
              ∙ sym (ap (λ z. reads place a (lines z)) (take-append-le m x (newline ∷ rest) f)
              ∙ filled_refused place a (take m x) (take_without m x w) (omega (arith, s, l)))

  cut : (r : ℕ) → Cut r
  cut zero = step zero tt
  cut (suc r) = step (suc r) (cut r)

  -- all lines
  pub turns_cut : (place m : ℕ) (a : A) (bytes : Bytes) → most * width < m → reads place a (lines bytes) ≡ reads place a (lines (take m bytes))
  turns_cut place m a bytes l = cut most place m a bytes (omega arith) l
