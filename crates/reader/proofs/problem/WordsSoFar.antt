-- What the state's words hold while the lines are read: the level so far, in the definitions' places.
use mathlib.Core.Path.{◌≡◌, refl, sym, ap, ◌∙◌}
use mathlib.Core.Bool.{true}
use mathlib.Core.Option.{none, some}
use mathlib.Core.List.{[], ◌∷◌, ◌++◌}
use Prim.Native.Nat.{ℕ, suc, ◌+◌, ◌-◌, ◌*◌, ◌<◌, ◌≤◌}
use native.Mathlib.Omega.{arith}
use lib.ListN.{length, take, get_or, length-append}
use Rattle.definitions.specs.Limits.{document_01}
use Rattle.definitions.specs.Monomial.{Level}
use Rattle.definitions.specs.Problem.{Bytes, Parameters, lines, with_term, body}
use Rattle.definitions.specs.State.{terms_of}
use Rattle.definitions.specs.Result.{Result, done, refused, ◌>>=◌}
use Rattle.definitions.specs.Layout.{Words, row_of, rows_of, ends_from, joined}
use Rattle.laws.proofs.Rows.{length_row}
use Rattle.definitions.specs.Places.{most_elements, most_rows, row_length, rows_start, degrees_start}
use Rattle.reader.specs.lines.Tests.{term_in, begins?, follows?}
use Rattle.reader.specs.lines.Steps.{Said, line_first}
use Rattle.reader.specs.problem.Reading.{laid, laid_level, body_words, stored}
use Rattle.reader.proofs.problem.LevelWords.{laid_stored}
use Rattle.reader.proofs.problem.OneTermMore.{Grown, grows, length_ends}
use Rattle.reader.proofs.problem.LineByLine.{Held, goes_on, body_step}

pub record SoFar (q : Parameters) (behind : Words) (f : Level) (count r : ℕ) (before state : Words) : Type 0 where
  pub held : Held f r before
  pub few : r ≤ most_elements
  pub terms : terms_of f ≡ count
  pub rows : length (rows_of (joined f)) ≡ count * row_length
  pub words : state ≡ laid_level q f behind

pub none_so_far : (q : Parameters) (behind before state : Words) → state ≡ laid_level q [] behind → SoFar q behind [] 0 0 before state
none_so_far q behind before state e = record {
  held = record { elements = refl; last_one = λ n. absurd (n refl) };
  few = omega arith;
  terms = refl;
  rows = refl;
  words = e;
}

module _ (q : Parameters) (behind : Words) (f : Level) (count r : ℕ) (before state : Words) (k : SoFar q behind f count r before state) where
  -- a term more
  pub one_more : (w : Words) → count < most_rows → follows? r (get_or w 0 0) ≡ true
      → SoFar q behind (with_term (begins? r (get_or w 0 0)) f (term_in w)) (count + 1) (get_or w 0 0) w (stored state count w)
  one_more w c s = record {
    held = record { elements = g.elements; last_one = λ n. g.last_one };
    few = g.few;
    terms = g.terms ∙ ap (λ n. n + 1) k.terms;
    rows = ap length g.rows ∙ length-append (rows_of (joined f)) (row_of (term_in w)) ∙ omega (arith, k.rows, length_row (term_in w));
    words =
        ap (λ z. stored z count w) k.words
        ∙ laid_stored q behind (degrees_start - rows_start) (length f) (ends_from 0 f) (rows_of (joined f)) count w (omega arith)
        (omega (arith, length_ends 0 f, k.held.elements, k.few)) k.rows c g.one g.low g.high (omega (arith, g.few))
        ∙ sym (λ i. laid q (g.elements i) ((g.ends ∙ ap (λ n. take (get_or w 0 0 - 1) (ends_from 0 f) ++ (n + 1) ∷ []) k.terms) i)
        (g.rows i) (degrees_start - rows_start) behind);
  }
    where
      g : Grown f (with_term (begins? r (get_or w 0 0)) f (term_in w)) (get_or w 0 0) (term_in w)
      g = grows f r (get_or w 0 0) (term_in w) k.held.elements s

  -- ## The lines that are left

  module _ (first : ℕ) (few : q.n ≤ 8) (from left : Bytes)
      (e : body document_01 q first 0 [] (lines from) ≡ body document_01 q (count + first) count f (lines left)) where
    stepped : (o : Result Said) → line_first q (count + first) count r before left ≡ o → body document_01 q first 0 [] (lines from)
        ≡ (o >>= goes_on q few count f r before k.held (count + first))
    stepped o s =
        e ∙ body_step q few count f r before k.held (count + first) left
        ∙ ap (λ (x : Result Said). x >>= goes_on q few count f r before k.held (count + first)) s

    -- a term
    pub goes_on_term : (w : Words) (rest : Bytes) → line_first q (count + first) count r before left ≡ done (some (w, rest))
        → body document_01 q first 0 [] (lines from) ≡ body document_01 q (count + 1 + first) (count + 1) (with_term (begins? r (get_or w 0 0)) f (term_in w))
        (lines rest)
    goes_on_term w rest s =
        let a : count + first + 1 ≡ count + 1 + first = omega arith in
        let b : suc count ≡ count + 1 = omega arith in
        stepped (done (some (w, rest))) s ∙ (λ i. body document_01 q (a i) (b i) (with_term (begins? r (get_or w 0 0)) f (term_in w)) (lines rest))

    -- the end
    pub goes_on_end : line_first q (count + first) count r before left ≡ done none → done state ≡ body_words behind q first from
    goes_on_end s = sym (ap (λ x. x >>= λ g. done (laid_level q g behind)) (stepped (done none) s) ∙ ap done (sym k.words))

    -- a refusal
    pub goes_on_refused : (number place : ℕ) → line_first q (count + first) count r before left ≡ refused number place [] → refused number place []
        ≡ body_words behind q first from
    goes_on_refused number place s = sym (ap (λ x. x >>= λ g. done (laid_level q g behind)) (stepped (refused number place []) s))
