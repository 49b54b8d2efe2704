-- A file with such a p is read and accepted, or refused, as before.
use mathlib.Core.Path.{◌≡◌, refl, sym, ap, ◌∙◌}
use mathlib.Core.Option.{Option, none, some}
use mathlib.Core.List.{List, [], ◌∷◌}
use Prim.Native.Nat.{ℕ, suc, ◌+◌, ◌*◌, ◌≤◌}
use native.Mathlib.Omega.{arith}
use lib.Dec.{leb, le→leb}
use lib.ListN.{length, get_or}
use Rattle.definitions.specs.Limits.{Limits}
use Rattle.definitions.specs.Lists.{◌and◌}
use Rattle.definitions.specs.Field.{prime?}
use Rattle.definitions.specs.Monomial.{Level, fits?}
use Rattle.definitions.specs.Result.{Result, done, refused, unfinished, unless_refused, ◌>>=◌}
use Rattle.definitions.specs.Problem.{Bytes, Line, Parameters, lines, shaped, letter_R, letter_T, parameters_of, prime_in_range?, in_ranges?, r_line, t_line}
use Rattle.definitions.specs.Problem.{by_shape, body, letter_D, Head, head_of, with_degrees, d_line, d_first, letter_G, with_weights, g_line, g_next}
use Rattle.definitions.specs.Problem.{after_r, first_line, head, problem}
use Rattle.definitions.specs.Places.{most_degree, most_weight}
use Rattle.definitions.specs.Lifting.{accept}
use Rattle.definitions.specs.State.{State}
use Rattle.definitions.specs.Calls.{accepted, read}
use Rattle.laws.proofs.Tests.{true_is}
use Rattle.laws.proofs.Results.{IfDone, if_done_bind, guard_done}
use Rattle.primes.specs.Primes.{with_prime_bound, named, first_named, prime_of}
use Rattle.primes.proofs.Trees.{accept_same}

module _ (lim : Limits) (bound : ℕ) (l : lim.prime_bound ≤ bound) where
  abbrev wide : Limits
  wide = with_prime_bound bound lim

  pub in_range_same : (p : ℕ) → p ≤ lim.prime_bound → prime_in_range? wide p ≡ prime_in_range? lim p
  in_range_same p h = λ i.
      (true_is (leb p bound) (le→leb p bound (omega (arith, h, l))) ∙ sym (true_is (leb p lim.prime_bound) (le→leb p lim.prime_bound h))) i
      and prime? p

  r_same : (v : List ℕ) → get_or v 0 0 ≤ lim.prime_bound → r_line wide v ≡ r_line lim v
  r_same v h =
      ap (λ b. unless_refused b 2 1 >>= λ u. unless_refused (in_ranges? lim (parameters_of v)) 3 1 >>= λ u'. done (parameters_of v))
      (in_range_same (get_or v 0 0) h)

  body_same : (q : Parameters) (place count : ℕ) (f : Level) (ls : List Line) → body wide q place count f ls ≡ body lim q place count f ls
  body_same q place count f [] = refl
  body_same q place count f (line ∷ later) = go (shaped lim.field letter_T (3 + q.n) line) (λ g. body_same q (suc place) (suc count) g later)
    where
      go : (o : Option (List ℕ)) → ((g : Level) → body wide q (suc place) (suc count) g later ≡ body lim q (suc place) (suc count) g later)
          → by_shape o wide q place count f line later (λ g. body wide q (suc place) (suc count) g later)
          ≡ by_shape o lim q place count f line later (λ g. body lim q (suc place) (suc count) g later)
      go (some v) ih = λ i. t_line lim q place count f v >>= λ g. ih g i
      go none ih = refl

  d_same : (h : Head) (ls : List Line) → d_first wide h ls ≡ d_first lim h ls
  d_same h [] = refl
  d_same h (line ∷ later) = refl

  g_same : (h : Head) (ls : List Line) → g_next wide h ls ≡ g_next lim h ls
  g_same h [] = refl
  g_same h (line ∷ later) = refl

  after_same : (later : List Line) (o : Option (List ℕ)) → named o ≤ lim.prime_bound → after_r wide later o ≡ after_r lim later o
  after_same later none h = refl
  after_same later (some v) h = λ i. r_same v h i >>= λ q. d_same (head_of q later) later i >>= λ h. g_same h h.later i

  first_same : (ls : List Line) → first_named lim ls ≤ lim.prime_bound → first_line wide ls ≡ first_line lim ls
  first_same [] h = refl
  first_same (line ∷ later) h = after_same later (shaped lim.field letter_R 4 line) h

  pub problem_same : (bytes : Bytes) → prime_of lim bytes ≤ lim.prime_bound → problem wide bytes ≡ problem lim bytes
  problem_same bytes h = λ i.
      (unless_refused (leb (length bytes) lim.file) 1 0 >>= λ u. first_same (lines bytes) h i)
      >>= λ h. body_same h.parameters h.place 0 [] h.later i >>= λ f. done (h.parameters, f)

  accepted_same : (n : ℕ) (f : Parameters × Level) → accepted wide n f ≡ accepted lim n f
  accepted_same n f = ap (λ x. x >>= λ u. done (record { parameters = f.0; levels = f.1 ∷ [] }))
      (accept_same lim bound f.0.p f.0.code f.1 n)

  pub read_same : (n : ℕ) (bytes : Bytes) → prime_of lim bytes ≤ lim.prime_bound → read wide n bytes ≡ read lim n bytes
  read_same n bytes h = λ i. problem_same bytes h i >>= λ f. accepted_same n f i

-- the p that is read is that of the R line
module _ (lim : Limits) (most : ℕ) where
  abbrev Within : Parameters × Level → Type 0
  Within f = f.0.p ≤ most

  abbrev HeadWithin : Head → Type 0
  HeadWithin h = h.parameters.p ≤ most

  r_within : (v : List ℕ) → get_or v 0 0 ≤ most → IfDone (λ q. q.p ≤ most) (r_line lim v)
  r_within v h =
      let q = parameters_of v in
      guard_done (λ q. q.p ≤ most) (prime_in_range? lim q.p) 2 1 (λ u. unless_refused (in_ranges? lim q) 3 1 >>= λ u'. done q) λ t.
      guard_done (λ q. q.p ≤ most) (in_ranges? lim q) 3 1 (λ u'. done q) (λ t'. h)

  d_within : (h : Head) → HeadWithin h → (ls : List Line) → IfDone HeadWithin (d_first lim h ls)
  d_within h w [] = w
  d_within h w (line ∷ later) = go (shaped lim.field letter_D h.parameters.s line)
    where
      go : (o : Option (List ℕ)) → IfDone HeadWithin (d_line h later o)
      go none = w
      go (some v) = guard_done HeadWithin (fits? most_degree v) 18 h.place (λ u. done (with_degrees h v later)) (λ t. w)

  g_within : (h : Head) → HeadWithin h → (ls : List Line) → IfDone HeadWithin (g_next lim h ls)
  g_within h w [] = w
  g_within h w (line ∷ later) = go (shaped lim.field letter_G (2 * h.parameters.n) line)
    where
      go : (o : Option (List ℕ)) → IfDone HeadWithin (g_line h later o)
      go none = w
      go (some v) = guard_done HeadWithin (fits? most_weight v) 24 h.place (λ u. done (with_weights h v later)) (λ t. w)

  after_within : (later : List Line) (o : Option (List ℕ)) → named o ≤ most → IfDone HeadWithin (after_r lim later o)
  after_within later none h = tt
  after_within later (some v) h =
      if_done_bind (λ q. q.p ≤ most) HeadWithin (r_line lim v) (λ q. d_first lim (head_of q later) later >>= λ h. g_next lim h h.later)
      (r_within v h) λ q w.
      if_done_bind HeadWithin HeadWithin (d_first lim (head_of q later) later) (λ h. g_next lim h h.later) (d_within (head_of q later) w later)
      (λ h k. g_within h k h.later)

  first_within : (ls : List Line) → first_named lim ls ≤ most → IfDone HeadWithin (first_line lim ls)
  first_within [] h = tt
  first_within (line ∷ later) h = after_within later (shaped lim.field letter_R 4 line) h

  body_within : (q : Parameters) → q.p ≤ most → (x : Result Level) → IfDone Within (x >>= λ f. done (q, f))
  body_within q h (done f) = h
  body_within q h (refused number place value) = tt
  body_within q h unfinished = tt

  problem_within : (bytes : Bytes) → prime_of lim bytes ≤ most → IfDone Within (problem lim bytes)
  problem_within bytes h =
      if_done_bind HeadWithin Within (head lim bytes) (λ h. body lim h.parameters h.place 0 [] h.later >>= λ f. done (h.parameters, f))
      (guard_done HeadWithin (leb (length bytes) lim.file) 1 0 (λ u. first_line lim (lines bytes)) (λ t. first_within (lines bytes) h))
      (λ h w. body_within h.parameters w (body lim h.parameters h.place 0 [] h.later))

  abbrev pub StateWithin : State → Type 0
  StateWithin X = X.parameters.p ≤ most

  accepted_within : (f : Parameters × Level) → Within f → (x : Result (Unit {0}))
      → IfDone StateWithin (x >>= λ u. done (record { parameters = f.0; levels = f.1 ∷ [] }))
  accepted_within f h (done u) = h
  accepted_within f h (refused number place value) = tt
  accepted_within f h unfinished = tt

  pub read_within : (n : ℕ) (bytes : Bytes) → prime_of lim bytes ≤ most → IfDone StateWithin (read lim n bytes)
  read_within n bytes h = go (problem lim bytes) (problem_within bytes h)
    where
      go : (x : Result (Parameters × Level)) → IfDone Within x → IfDone StateWithin (x >>= accepted lim n)
      go (done f) w = accepted_within f w (accept lim f.0.p f.0.code f.1 n)
      go (refused number place value) w = tt
      go unfinished w = tt
