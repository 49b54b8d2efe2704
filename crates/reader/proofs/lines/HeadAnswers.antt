-- What the head's lines say is in range.
use mathlib.Core.Path.{◌≡◌, refl}
use mathlib.Core.Bool.{Bool, true, false}
use mathlib.Core.Option.{Option, none, some}
use Prim.Native.Nat.{ℕ, ◌+◌, ◌*◌, ◌≤◌}
use native.Mathlib.Omega.{arith}
use lib.Dec.{T, leb}
use lib.ListN.{length, get_or, replicate}
use Rattle.definitions.specs.Limits.{document_01}
use Rattle.definitions.specs.Lists.{◌and◌, between}
use Rattle.definitions.specs.Monomial.{fits?}
use Rattle.definitions.specs.Result.{done, unless_refused, ◌>>=◌}
use Rattle.definitions.specs.Problem as definition
use Rattle.definitions.specs.Problem.{Bytes, Parameters, letter_D, letter_G, prime_in_range?, in_ranges?}
use Rattle.definitions.specs.Layout.{Words}
use Rattle.definitions.specs.Places.{most_degree, most_weight, most_variables, most_components, file_length}
use Rattle.laws.proofs.Results.{IfDone, if_done_bind, guard_done}
use Rattle.laws.proofs.Tests.{is_true, and_left, and_right, between_high}
use Rattle.reader.specs.fields.Scanning.{shaped_first, in_sixteen}
use Rattle.reader.specs.lines.Tests.{unless}
use Rattle.reader.specs.lines.Steps.{judged, with_shape, r_judged, r_first, Opened, or_without, optional, d_first, weights_words, g_next}
use Rattle.reader.specs.lines.Steps.{HeadSaid, behind_r, head_first}

-- ## What the R line says is in range

pub record Ranged (q : Parameters) : Type 0 where
  pub variables : q.n ≤ most_variables
  pub components : q.s ≤ most_components

pub ranged : (q : Parameters) → T (in_ranges? document_01 q) → Ranged q
ranged q t =
    let u = and_right (between 1 q.n most_variables) (between 1 q.code 3 and between 1 q.s most_components) t in
    record {
      variables = between_high 1 q.n most_variables (and_left (between 1 q.n most_variables)
          (between 1 q.code 3 and between 1 q.s most_components) t);
      components = between_high 1 q.s most_components (and_right (between 1 q.code 3) (between 1 q.s most_components) u);
    }

pub first_ranged : (file : Bytes) → IfDone (λ (a : Parameters × Bytes). Ranged a.0) (r_first file)
first_ranged file = shape (in_sixteen (shaped_first 65535 82 4 file))
  where
    judge : (q : Parameters) (rest : Bytes) (a b : Bool) → in_ranges? document_01 q ≡ b
        → IfDone (λ (a : Parameters × Bytes). Ranged a.0) (judged (unless a 2 (unless b 3 0)) 1 (q, rest))
    judge q rest false b e = tt
    judge q rest true false e = tt
    judge q rest true true e = ranged q (is_true e)

    shape : (o : Option (Words × Bytes)) → IfDone (λ (a : Parameters × Bytes). Ranged a.0) (with_shape o 1 r_judged)
    shape none = tt
    shape (some line) = judge (definition.parameters_of line.0) line.1 (prime_in_range? document_01 (get_or line.0 0 0))
        (in_ranges? document_01 (definition.parameters_of line.0)) refl

-- ## The line behind the head

pub optional_place : (letter count most number : ℕ) (without : Words) (place : ℕ) (bytes : Bytes)
    → IfDone (λ (g : Opened Words). g.1 ≤ place + 1) (optional letter count most number without place bytes)
optional_place letter count most number without place bytes = go (in_sixteen (shaped_first 65535 letter count bytes))
  where
    judge : (w : Words) (rest : Bytes) (t : Bool)
        → IfDone (λ (g : Opened Words). g.1 ≤ place + 1) (unless_refused t number place >>= λ u. done (w, place + 1, rest))
    judge w rest true = omega arith
    judge w rest false = tt

    go : (o : Option (Words × Bytes)) → IfDone (λ (g : Opened Words). g.1 ≤ place + 1) (or_without most number without place bytes o)
    go none = omega arith
    go (some line) = judge line.0 line.1 (fits? most line.0)

-- it is the fourth at the most
pub record Opens (a : Opened HeadSaid) : Type 0 where
  pub said : Ranged a.0.0
  pub place : a.1 ≤ 4

behind_opens : (q : Parameters) → Ranged q → (bytes : Bytes) → IfDone Opens (behind_r q bytes)
behind_opens q r bytes =
    if_done_bind (λ (d : Opened Words). d.1 ≤ 3) Opens (d_first q.s bytes)
    (λ d. g_next q.n d.1 d.2 >>= λ g. done ((q, d.0, g.0), g.1, g.2))
    (optional_place letter_D q.s most_degree 18 (replicate most_components 0) 2 bytes) λ d h.
    if_done_bind (λ (g : Opened Words). g.1 ≤ d.1 + 1) Opens (g_next q.n d.1 d.2) (λ g. done ((q, d.0, g.0), g.1, g.2))
    (optional_place letter_G (2 * q.n) most_weight 24 (weights_words (replicate q.n (1, 0))) d.1 d.2)
    λ g k. record { said = r; place = omega arith }

pub head_opens : (file : Bytes) → IfDone Opens (head_first file)
head_opens file =
    guard_done Opens (leb (length file) file_length) 1 0 (λ u. r_first file >>= λ a. behind_r a.0 a.1) λ t.
    if_done_bind (λ (a : Parameters × Bytes). Ranged a.0) Opens (r_first file) (λ a. behind_r a.0 a.1) (first_ranged file)
    (λ a r. behind_opens a.0 r a.1)
