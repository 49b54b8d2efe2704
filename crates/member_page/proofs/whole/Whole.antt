-- What is printed of an input, from its parts.
use mathlib.Core.Path.{◌≡◌, refl, sym, ap, ◌∙◌, subst}
use mathlib.Core.Option.{Option, none, some}
use mathlib.Core.List.{List, [], ◌∷◌}
use Prim.Native.Nat.{ℕ, suc, ◌+◌, ◌≤◌}
use native.Mathlib.Omega.{arith}
use lib.Dec.{T}
use lib.ListN.{length, get_or, take, drop}
use Rattle.definitions.specs.Limits.{document_01}
use Rattle.definitions.specs.Monomial.{Vector, Level}
use Rattle.definitions.specs.Result.{Result, done, refused, unfinished, refusal, ◌>>=◌}
use Rattle.definitions.specs.Problem.{Bytes, Line, Parameters, lines, shaped}
use Rattle.definitions.specs.State.{State, sound?}
use Rattle.definitions.specs.Stage.{stage_over}
use Rattle.definitions.specs.Sheet.{printed, letter_X, x_lines}
use Rattle.definitions.specs.Program.{printed_or_refused, program}
use Rattle.definitions.specs.After.{file_end, lines_after, first_after}
use Rattle.definitions.specs.Membership.{letter_V, v_line, v_lines, Division, Parts, undivided, divide, division_lines, membership_by}
use Rattle.definitions.specs.Membership.{membership_of, membership}
use Rattle.definitions.specs.Layout.{Words, decode, levels_at, level_at}
use Rattle.laws.proofs.Results.{if_done_says}
use Rattle.ending.specs.Good.{good?}
use Rattle.state.proofs.preparing.Complete.{holds_sound}
use Rattle.level.specs.by_runs.Stages.{Base, usual, stage_at}
use Rattle.pages.specs.bytes.Printing.{Printed}
use Rattle.pages.proofs.bytes.Spelling.{spelled}
use Rattle.listing.specs.whole.Listed.{Prints}
use Rattle.listing.specs.whole.Paged.{AcceptedPrints}
use Rattle.listing.proofs.reading.Refusals.{x_alone}
use Rattle.members.proofs.Brought.{Brought, brought_shown, lines_bring}
use Rattle.members.proofs.Right.{vector_good}
use Rattle.demands.proofs.Over.{sound_eight}
use Rattle.dividing.specs.over.Parts.{sorted_parts, divided_over}
use Rattle.member_page.specs.page.Lines.{lines_of}
use Rattle.member_page.specs.whole.Printing.{VectorPrints}

-- ## The V lines do not look at the degrees

-- p, n, the order code and s alone
abbrev plain : ℕ → ℕ → ℕ → ℕ → Parameters
plain p n code s = record { p = p; n = n; code = code; s = s; degrees = [] }

module _ (q : Parameters) where
  abbrev alone_of : Parameters
  alone_of = plain q.p q.n q.code q.s

  one_same : (place : ℕ) (v : Vector) (o : Option (List ℕ)) → v_line document_01 q place v o ≡ v_line document_01 alone_of place v o
  one_same place v none = refl
  one_same place v (some w) = refl

  lines_same : (place : ℕ) (v : Vector) (ls : List Line) → v_lines document_01 q place v ls ≡ v_lines document_01 alone_of place v ls
  lines_same place v [] = refl
  lines_same place v (line ∷ later) =
      ap (λ x. x >>= λ w. v_lines document_01 q (suc place) w later) (one_same place v (shaped 65535 letter_V (2 + q.n) line))
      ∙ go (v_line document_01 alone_of place v (shaped 65535 letter_V (2 + q.n) line)) (λ w. lines_same (suc place) w later)
    where
      go : (x : Result Vector) → ((w : Vector) → v_lines document_01 q (suc place) w later ≡ v_lines document_01 alone_of (suc place) w later)
          → (x >>= λ w. v_lines document_01 q (suc place) w later) ≡ (x >>= λ w. v_lines document_01 alone_of (suc place) w later)
      go (done w) h = h w
      go (refused number at value) h = refl
      go unfinished h = refl

v_lines_same : (q r : Parameters) → q.p ≡ r.p → q.n ≡ r.n → q.code ≡ r.code → q.s ≡ r.s → (place : ℕ) (v : Vector) (ls : List Line)
    → v_lines document_01 q place v ls ≡ v_lines document_01 r place v ls
v_lines_same q r a b c d place v ls =
    lines_same q place v ls ∙ (λ i. v_lines document_01 (plain (a i) (b i) (c i) (d i)) place v ls) ∙ sym (lines_same r place v ls)

-- ## Over a state with nothing above its basis

module _ (s : Words) (b : Base s 0) (alone : get_or s 4 0 ≡ 1) where
  abbrev X : State
  X = decode document_01 s

  abbrev f : Level
  f = level_at document_01 s 0

  levels_are : levels_at document_01 s (get_or s 4 0) ≡ f ∷ []
  levels_are = ap (levels_at document_01 s) alone

  sound : T (sound? document_01 (record { parameters = X.parameters; levels = f ∷ [] }))
  sound = subst (λ ls. T (sound? document_01 (record { parameters = X.parameters; levels = ls }))) levels_are (holds_sound s b.holds)

  pub few : get_or s 1 0 ≤ 8
  few = sound_eight document_01 tt (record { parameters = X.parameters; levels = f ∷ [] }) sound

  -- ### The division

  module _ (k : ℕ) (v : Vector) where
    abbrev over_levels : List Level → Result Bytes
    over_levels ls =
        let S = stage_over document_01 (get_or s 0 0) (get_or s 2 0) ls in divide S k (undivided v) >>= λ d. done (division_lines (get_or s 1 0) S d)

    abbrev shown : Result Parts → Result Bytes
    shown x = x >>= λ p. done (lines_of (get_or s 1 0) p.0 p.1)

    from_parts : membership_by document_01 k (decode document_01 s) v ≡ (divided_over s k v >>= λ p. done (lines_of (get_or s 1 0) p.0 p.1))
    from_parts = ap over_levels levels_are ∙ go (divide (stage_at usual s 0) k (undivided v))
      where
        go : (x : Result Division) → (x >>= λ d. done (division_lines (get_or s 1 0) (stage_at usual s 0) d))
            ≡ shown (sorted_parts (stage_at usual s 0).above (stage_at usual s 0).reduction.p x)
        go (done d) = refl
        go (refused number at value) = refl
        go unfinished = refl

    pub parts_printed : {out out' : Bytes} {r : ℕ} (quotients remainder : Vector) → done (quotients, remainder) ≡ divided_over s k v
        → Printed out out' 0 r (lines_of (get_or s 1 0) quotients remainder) → VectorPrints s v out out' r
    parts_printed quotients remainder e p w = record {
      bound = k;
      bytes = lines_of (get_or s 1 0) quotients remainder;
      gives = ap (λ x. printed_or_refused w (shown x)) e ∙ sym (ap (printed_or_refused w) from_parts);
      printed = p;
    }

    pub parts_refused : {out out' : Bytes} {r : ℕ} (number : ℕ) → refusal number ≡ divided_over s k v
        → Printed out out' 0 r (printed letter_X (number ∷ 0 ∷ [])) → VectorPrints s v out out' r
    parts_refused number e p w = record {
      bound = k;
      bytes = x_lines w number 0 [];
      gives = ap (λ x. printed_or_refused w (shown x)) e ∙ sym (ap (printed_or_refused w) from_parts);
      printed = spelled (x_alone w number 0) p;
    }

  -- ### The V lines

  module _ (input : Bytes) where
    abbrev brought : Result Vector
    brought = v_lines document_01 (decode document_01 s).parameters (first_after input) [] (lines_after input)

    -- as the code reads them
    pub brought_is : (q : Parameters) → q.p ≡ get_or s 0 0 → q.n ≡ get_or s 1 0 → q.code ≡ get_or s 2 0 → q.s ≡ get_or s 3 0 → (end first : ℕ)
        → end ≡ file_end input → first ≡ length (lines (take end input)) + 1
        → v_lines document_01 q first [] (lines (drop end input))
        ≡ v_lines document_01 (decode document_01 s).parameters (first_after input) [] (lines_after input)
    brought_is q p n code c end first e h =
        let g : length (lines (take end input)) + 1 ≡ suc (length (lines (take end input))) = omega arith in
        v_lines_same q (decode document_01 s).parameters p n code c first [] (lines (drop end input))
        ∙ ap (λ k. v_lines document_01 (decode document_01 s).parameters k [] (lines (drop end input))) (h ∙ g)
        ∙ ap (λ k. v_lines document_01 (decode document_01 s).parameters (suc (length (lines (take k input)))) [] (lines (drop k input))) e

    pub brought_good : (v : Vector)
        → done v ≡ v_lines document_01 (decode document_01 s).parameters (first_after input) [] (lines_after input) → T (good? v)
    brought_good v e =
        let h = if_done_says (Brought document_01 X.parameters few) brought (lines_bring document_01 X.parameters few (first_after input)
        (lines_after input))
        v (sym e) in
        vector_good document_01 tt X.parameters f sound v (brought_shown document_01 X.parameters few v h)

    pub lines_bad : {out out' : Bytes} {r : ℕ} (place : ℕ)
        → refused 23 place [] ≡ v_lines document_01 (decode document_01 s).parameters (first_after input) [] (lines_after input)
        → Printed out out' 0 r (printed letter_X (23 ∷ place ∷ [])) → AcceptedPrints (λ n. membership_of document_01 n input) s out out' r
    lines_bad place e p w = record {
      bound = 0;
      bytes = x_lines w 23 place [];
      gives = ap (λ x. printed_or_refused w (x >>= membership_by document_01 0 X)) e;
      printed = spelled (x_alone w 23 place) p;
    }

    pub lines_taken : {out out' : Bytes} {r : ℕ} (v : Vector)
        → done v ≡ v_lines document_01 (decode document_01 s).parameters (first_after input) [] (lines_after input)
        → VectorPrints s v out out' r → AcceptedPrints (λ n. membership_of document_01 n input) s out out' r
    lines_taken v e P w =
        let p = P w in
        record {
          bound = p.bound;
          bytes = p.bytes;
          gives = p.gives ∙ ap (λ x. printed_or_refused w (x >>= membership_by document_01 p.bound X)) e;
          printed = p.printed;
        }

-- ## The file in front of the input

pub file_prints : (input : Bytes) (end : ℕ) → end ≡ file_end input → {out out' : Bytes} {r : ℕ}
    → Prints (λ n. program (membership_of document_01 n input) document_01 n (take end input)) out out' 0 r
    → Prints (λ n. membership document_01 n input) out out' 0 r
file_prints input end e p = record {
  bound = p.bound;
  bytes = p.bytes;
  gives = p.gives ∙ ap (λ k. program (membership_of document_01 p.bound input) document_01 p.bound (take k input)) e;
  printed = p.printed;
}
