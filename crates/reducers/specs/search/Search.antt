-- The search for the lowest reducer in a table's words, and the code's answers as the definitions' ones.
use Rattle.std.specs.Prelude.{
  ◌≡◌,
  Bool,
  true,
  false,
  [],
  ◌∷◌,
  ℕ,
  zero,
  suc,
  ◌+◌,
  ◌*◌,
  ◌<◌,
  ◌≤◌,
  leb,
  ltb,
  length,
  get_or,
  Option as CodeOption,
  Some,
  None,
}
use Rattle.std.proofs.Math.Option.{Option, none, some}
use Rattle.definitions.specs.Lists.{choose}
use Rattle.definitions.specs.Monomial.{Monomial, Term, Vector, divides_monomial?, fits?, no_term}
use Rattle.definitions.specs.Reducer as definition
use Rattle.definitions.specs.Reducer.{reducer, lower_order}
use Rattle.definitions.specs.Layout.{Words}
use Rattle.definitions.specs.Packed.{unpack}
use Rattle.definitions.specs.Places.{most_exponent, row_length, component_offset}
use Rattle.vectors.specs.terms.Rows.{term_of}
use Rattle.vectors.specs.declared.terms.Term.{Term as CodeTerm}
use Rattle.reducers.specs.declared.search.Reducer.{Reducer}
use Rattle.reducers.specs.declared.search.Span.{Span}

-- the first of n numbers from i on that passes the test; the number behind them if none does
abbrev pub first_from : (ℕ → Bool) → ℕ → ℕ → ℕ
first_from f zero i = i
first_from f (suc n) i = elim (f i) [ true ↦ i | false ↦ first_from f n (suc i) ]

-- the first head that divides, counted from i
abbrev pub first_dividing : Monomial → Vector → ℕ → ℕ
first_dividing m [] i = i
first_dividing m (h ∷ hs) i = elim (divides_monomial? h.1 m) [ true ↦ i | false ↦ first_dividing m hs (suc i) ]

-- ## Spans: two words for each component, the first of its rows and the one behind its last

abbrev pub span_at : ℕ → ℕ → Words → ℕ → ℕ × ℕ
span_at k r s i = choose (leb k i) (0, r) (get_or s (i * 2) 0, get_or s (i * 2 + 1) 0)

abbrev pub span_of : Span → ℕ × ℕ
span_of x = (x.from, x.to)

-- a component's rows are nowhere else
abbrev pub Spanned : ℕ → ℕ → Words → Words → Type 0
Spanned k r spans heads = (i : ℕ) → i < k → (get_or spans (i * 2 + 1) 0 ≤ r)
    × ((j : ℕ) → j < r → get_or heads (j * row_length + component_offset) 0 ≡ i → (get_or spans (i * 2) 0 ≤ j) × (j < get_or spans (i * 2 + 1) 0))

-- ## Answers

abbrev pub searched_at : Vector → ℕ → CodeOption (ℕ × ℕ)
searched_at hs j = choose (ltb j (length hs)) (Some (suc j, (get_or hs j no_term).0)) None

-- the lowest number, from 1, of a head that divides, and that head's coefficient
abbrev pub searched : Vector → Monomial → CodeOption (ℕ × ℕ)
searched hs m = searched_at hs (first_dividing m hs 0)

abbrev pub answer_of : CodeOption Reducer → definition.Answer
answer_of (Some x) = reducer x.number x.coefficient (unpack x.quotient)
answer_of None = lower_order

-- 13's test: a product, or none where an exponent is above 255
abbrev pub formed_term : Term → Option Term
formed_term t = choose (fits? most_exponent t.1.0) (some t) none

abbrev pub multiple_of : CodeOption CodeTerm → Option Term
multiple_of (Some t) = some (term_of t)
multiple_of None = none
