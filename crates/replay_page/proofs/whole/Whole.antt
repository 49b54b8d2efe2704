-- What is printed of an input, from its parts.
use mathlib.Core.Path.{◌≡◌, refl, sym, ap, ◌∙◌}
use mathlib.Core.Bool.{Bool, true, false}
use mathlib.Core.Logic.{◌⊎◌, inl, inr}
use mathlib.Core.Option.{Option, none, some}
use mathlib.Core.List.{List, [], ◌∷◌}
use Prim.Native.Nat.{ℕ, suc, ◌+◌, ◌-◌, ◌<◌, ◌≤◌}
use native.Mathlib.Omega.{arith}
use lib.Dec.{leb}
use lib.ListN.{length, get_or, take, drop}
use borrow.Author.Tests.{le-leb, lt-leb}
use Rattle.definitions.specs.Limits.{document_01}
use Rattle.definitions.specs.Lists.{◌and◌, ◌then◌, between}
use Rattle.definitions.specs.Monomial.{Vector}
use Rattle.definitions.specs.Result.{Result, done, refused, unless_refused, ◌>>=◌}
use Rattle.definitions.specs.Problem.{Bytes, Line, lines, shaped}
use Rattle.definitions.specs.State.{State}
use Rattle.definitions.specs.Sheet.{printed, letter_X, x_lines, s_lines}
use Rattle.definitions.specs.Program.{printed_or_refused, program}
use Rattle.definitions.specs.After.{file_end}
use Rattle.definitions.specs.Replay.{letter_L, lifted_below, replayed_vector, replay_over, replay_level, l_line, l_first, replay_of, replay}
use Rattle.definitions.specs.Places.{most_levels, most_picks}
use Rattle.definitions.specs.Layout.{Words, decode}
use Rattle.pages.specs.bytes.Printing.{Printed}
use Rattle.pages.proofs.bytes.Spelling.{spelled}
use Rattle.reader.specs.fields.Scanning.{behind, shaped_of, shaped_first, in_sixteen}
use Rattle.reader.proofs.fields.Lines.{first_of}
use Rattle.reader.proofs.problem.LineByLine.{getD_padded}
use Rattle.listing.specs.whole.Listed.{Prints}
use Rattle.listing.specs.whole.Paged.{AcceptedPrints}
use Rattle.listing.proofs.reading.Refusals.{x_alone}

-- ## The vector

module _ (s : Words) (place k v : ℕ) (ls : List Line) where
  abbrev asked : Result Vector
  asked = replayed_vector document_01 most_picks place k v ls (decode document_01 s)

  abbrev shown : ℕ → Result Vector → Option Bytes
  shown w x = printed_or_refused w (x >>= λ u. done (s_lines (get_or s 1 0) k v u))

  pub vector_printed : {out out' : Bytes} {r : ℕ} (u : Vector) → done u ≡ replayed_vector document_01 most_picks place k v ls (decode document_01 s)
      → Printed out out' 0 r (s_lines (get_or s 1 0) k v u) → AcceptedPrints (λ n. replay_over document_01 most_picks place k v ls) s out out' r
  vector_printed u e p w = record { bound = 0; bytes = s_lines (get_or s 1 0) k v u; gives = ap (shown w) e; printed = p }

  pub vector_refused : {out out' : Bytes} {r : ℕ} (number there : ℕ) → refused number there [] ≡ replayed_vector document_01 most_picks place k v ls
      (decode document_01 s)
      → Printed out out' 0 r (printed letter_X (number ∷ there ∷ [])) → AcceptedPrints (λ n. replay_over document_01 most_picks place k v ls) s out out' r
  vector_refused number there e p w = record {
    bound = 0;
    bytes = x_lines w number there [];
    gives = ap (shown w) e;
    printed = spelled (x_alone w number there) p;
  }

  -- ## The level

  abbrev over : State → Result Bytes
  over = replay_over document_01 most_picks place k v ls

  abbrev tested : ℕ → ℕ → Bool → Option Bytes
  tested w n b = printed_or_refused w (unless_refused b 12 place >>= λ u. lifted_below document_01 n (k - 1) 1 (decode document_01 s) >>= over)

  outside : (leb 1 k ≡ false) ⊎ (leb k most_levels ≡ false) → between 1 k most_levels ≡ false
  outside (inl e) = ap (λ b. b and leb k most_levels) e
  outside (inr e) = go (leb 1 k)
    where
      go : (b : Bool) → (b and leb k most_levels) ≡ false
      go true = e
      go false = refl

  no_level : {out out' : Bytes} {r : ℕ} → between 1 k most_levels ≡ false → Printed out out' 0 r (printed letter_X (12 ∷ place ∷ []))
      → AcceptedPrints (λ n. replay_level document_01 n most_picks place k v ls) s out out' r
  no_level e p w = record {
    bound = 0;
    bytes = x_lines w 12 place [];
    gives = sym (ap (tested w 0) e);
    printed = spelled (x_alone w 12 place) p;
  }

  pub level_outside : {out out' : Bytes} {r : ℕ} (l : ℕ) → l ≡ k → (l ≡ 0) ⊎ ((l ≡ 0 → ⊥) × (most_levels < l))
      → Printed out out' 0 r (printed letter_X (12 ∷ place ∷ []))
      → AcceptedPrints (λ n. replay_level document_01 n most_picks place k v ls) s out out' r
  level_outside l e (inl z) p = no_level (outside (inl (lt-leb 1 k (omega (arith, e, z))))) p
  level_outside l e (inr h) p = no_level (outside (inr (lt-leb k most_levels (omega (arith, e, h.1))))) p

  module _ (low : 1 ≤ k) (high : k ≤ most_levels) (n : ℕ) where
    inside : (w : ℕ) → tested w n true ≡ tested w n (between 1 k most_levels)
    inside w = sym (λ i. tested w n (le-leb 1 k low i and le-leb k most_levels high i))

    pub below_stops : {out out' : Bytes} {r : ℕ} (number there : ℕ) → refused number there [] ≡ lifted_below document_01 n (k - 1) 1 (decode document_01 s)
        → Printed out out' 0 r (printed letter_X (number ∷ there ∷ [])) → AcceptedPrints (λ n. replay_level document_01 n most_picks place k v ls) s out out' r
    below_stops number there e p w = record {
      bound = n;
      bytes = x_lines w number there [];
      gives = ap (λ x. printed_or_refused w (x >>= over)) e ∙ inside w;
      printed = spelled (x_alone w number there) p;
    }

    pub level_taken : {out out' : Bytes} {r : ℕ} (t : Words) → done (decode document_01 t) ≡ lifted_below document_01 n (k - 1) 1 (decode document_01 s)
        → AcceptedPrints (λ n. replay_over document_01 most_picks place k v ls) t out out' r
        → AcceptedPrints (λ n. replay_level document_01 n most_picks place k v ls) s out out' r
    level_taken t e P w =
        let p = P w in
        record { bound = n; bytes = p.bytes; gives = p.gives ∙ ap (λ x. printed_or_refused w (x >>= over)) e ∙ inside w; printed = p.printed }

-- ## The L line

module _ (n place : ℕ) (X : State) where
  abbrev by_words : Option (Words × Bytes) → Result Bytes
  by_words none = refused 21 place []
  by_words (some line) = replay_level document_01 n most_picks place (get_or line.0 0 0) (get_or line.0 1 0) (lines line.1) X

  by_line : (rest : Bytes) (o : Option (List ℕ)) → by_words (in_sixteen (o then λ v. some (v, rest))) ≡ l_line document_01 n most_picks place (lines rest) X o
  by_line rest none = refl
  by_line rest (some v) = λ i. replay_level document_01 n most_picks place (getD_padded v 0 i) (getD_padded v 1 i) (lines rest) X

  pub line_is : (bytes : Bytes) → by_words (in_sixteen (shaped_first 65535 letter_L 2 bytes)) ≡ l_first document_01 n most_picks place (lines bytes) X
  line_is [] = refl
  line_is (b ∷ bytes) = parted (first_of b bytes)
    where
      parted : (line : Line) × (lines (b ∷ bytes) ≡ line ∷ lines (behind (b ∷ bytes)))
          → by_words (in_sixteen (shaped_first 65535 letter_L 2 (b ∷ bytes))) ≡ l_first document_01 n most_picks place (lines (b ∷ bytes)) X
      parted (line, e) =
          ap (λ ls. by_words (in_sixteen (shaped_of 65535 letter_L 2 ls then λ v. some (v, behind (b ∷ bytes))))) e
          ∙ by_line (behind (b ∷ bytes)) (shaped 65535 letter_L 2 line)
          ∙ sym (ap (λ ls. l_first document_01 n most_picks place ls X) e)

module _ (s : Words) (input : Bytes) (end first : ℕ) (e : end ≡ file_end input) (h : first ≡ length (lines (take end input)) + 1) where
  abbrev X : State
  X = decode document_01 s

  log_is : (n : ℕ) → by_words n first X (in_sixteen (shaped_first 65535 letter_L 2 (drop end input))) ≡ replay_of document_01 n most_picks input X
  log_is n =
      let g : length (lines (take end input)) + 1 ≡ suc (length (lines (take end input))) = omega arith in
      line_is n first X (drop end input)
      ∙ ap (λ p. l_first document_01 n most_picks p (lines (drop end input)) X) (h ∙ g)
      ∙ ap (λ k. l_first document_01 n most_picks (suc (length (lines (take k input)))) (lines (drop k input)) X) e

  pub no_line : {out out' : Bytes} {r : ℕ} → none ≡ in_sixteen (shaped_first 65535 letter_L 2 (drop end input)) → Printed out out' 0 r
      (printed letter_X (21 ∷ first ∷ []))
      → AcceptedPrints (λ n. replay_of document_01 n most_picks input) s out out' r
  no_line o p w = record {
    bound = 0;
    bytes = x_lines w 21 first [];
    gives = ap (λ x. printed_or_refused w (by_words 0 first X x)) o ∙ ap (printed_or_refused w) (log_is 0);
    printed = spelled (x_alone w 21 first) p;
  }

  pub line_taken : {out out' : Bytes} {r : ℕ} (v : Words) (rest : Bytes) → some (v, rest) ≡ in_sixteen (shaped_first 65535 letter_L 2 (drop end input))
      → AcceptedPrints (λ n. replay_level document_01 n most_picks first (get_or v 0 0) (get_or v 1 0) (lines rest)) s out out' r
      → AcceptedPrints (λ n. replay_of document_01 n most_picks input) s out out' r
  line_taken v rest o P w =
      let p = P w in
      record {
        bound = p.bound;
        bytes = p.bytes;
        gives = p.gives ∙ ap (λ x. printed_or_refused w (by_words p.bound first X x)) o ∙ ap (printed_or_refused w) (log_is p.bound);
        printed = p.printed;
      }

-- ## The file in front of the input

pub file_prints : (input : Bytes) (end : ℕ) → end ≡ file_end input → {out out' : Bytes} {r : ℕ}
    → Prints (λ n. program (replay_of document_01 n most_picks input) document_01 n (take end input)) out out' 0 r
    → Prints (λ n. replay document_01 n input) out out' 0 r
file_prints input end e p = record {
  bound = p.bound;
  bytes = p.bytes;
  gives = p.gives ∙ ap (λ k. program (replay_of document_01 p.bound most_picks input) document_01 p.bound (take k input)) e;
  printed = p.printed;
}
