-- What the reader accepts is a sound state with level 0 alone.
use mathlib.Core.Logic.{◌≢◌}
use mathlib.Core.Path.{◌≡◌, refl, sym, ap, subst}
use mathlib.Core.Bool.{Bool, true, false, not}
use mathlib.Core.Option.{Option, none, some}
use mathlib.Core.List.{List, [], ◌∷◌}
use Prim.Native.Nat.{ℕ, zero, suc, ◌+◌, ◌*◌, ◌≤◌}
use native.Mathlib.Omega.{arith}
use lib.Dec.{T, leb, ltb, eqb, leb→le, ltb→lt, eqb→eq, eqb_refl, T_not}
use lib.ListN.{length, get_or, replicate, length-replicate}
use Rattle.definitions.specs.Limits.{Limits}
use Rattle.definitions.specs.Lists.{◌and◌, ◌then◌, between, empty?}
use Rattle.definitions.specs.Monomial.{Term, Level, fits?}
use Rattle.definitions.specs.Result.{Result, done, unless_refused, ◌>>=◌}
use Rattle.definitions.specs.Problem.{Bytes, Line, Parameters, number, all_numbers, letter?, shaped_fields, shaped, split, comma, lines}
use Rattle.definitions.specs.Problem.{letter_R, letter_D, letter_G, letter_T, letter_E}
use Rattle.definitions.specs.Problem.{prime_in_range?, in_ranges?, parameters_of, r_line, term_of, next?, in_sequence?, term_in_range?}
use Rattle.definitions.specs.Problem.{descends?, with_term, t_line, e_line, by_shape, body, after_r, first_line}
use Rattle.definitions.specs.Problem.{Head, head_of, with_degrees, d_line, d_first, pairs, with_weights, g_line, g_next, head, problem}
use Rattle.definitions.specs.Places.{most_degree, most_weight}
use Rattle.definitions.specs.State.{State, degrees_sound?, levels_sound?, sound?}
use Rattle.laws.proofs.Tests.{and_left, and_right, and_both, between_high}
use Rattle.laws.proofs.Members.{All}
use Rattle.laws.proofs.Results.{IfDone, if_done_bind, guard_done, IfSome, if_some_then, if_some_always}
use Rattle.laws.proofs.Sound.{sound_shown}
use Rattle.laws.proofs.Elements.{Elements, term_of_sound, with_term_elements, basis_sound}

-- ## Lines

abbrev pub Counts : ℕ → List ℕ → Type 0
Counts n v = length v ≡ n

all_numbers_length : (limit : ℕ) (fields : List Bytes) → IfSome (Counts (length fields)) (all_numbers limit fields)
all_numbers_length limit [] = refl
all_numbers_length limit (field ∷ fields) =
    if_some_then (λ x. Unit {0}) (Counts (suc (length fields))) (number limit field) (λ x. all_numbers limit fields then λ v. some (x ∷ v))
    (if_some_always (λ x. Unit {0}) (λ x. tt) (number limit field)) λ x u.
    if_some_then (Counts (length fields)) (Counts (suc (length fields))) (all_numbers limit fields) (λ v. some (x ∷ v))
    (all_numbers_length limit fields) (λ v e. ap suc e)

-- a line has as many numbers as its shape asks for
pub shaped_length : (limit letter count : ℕ) (line : Line) → IfSome (Counts count) (shaped limit letter count line)
shaped_length limit letter count line = go line.1
  where
    test : (head : Bytes) (fields : List Bytes) (b : Bool) → (T b → length fields ≡ count)
        → IfSome (Counts count) (elim b [ true ↦ all_numbers limit fields | false ↦ none ])
    test head fields false e = tt
    test head fields true e = subst (λ n. IfSome (Counts n) (all_numbers limit fields)) (e tt) (all_numbers_length limit fields)

    fields_length : (fields : List Bytes) → IfSome (Counts count) (shaped_fields limit letter count fields)
    fields_length [] = tt
    fields_length (head ∷ fields) =
        test head fields (letter? letter head and eqb (length fields) count)
        (λ t. eqb→eq (length fields) count (and_right (letter? letter head) (eqb (length fields) count) t))

    go : (b : Bool) → IfSome (Counts count) (elim b [ true ↦ shaped_fields limit letter count (split comma line.0) | false ↦ none ])
    go true = fields_length (split comma line.0)
    go false = tt

-- ## The lines

module _ (lim : Limits) (q : Parameters) where
  abbrev SoundBasis : Level → Type 0
  SoundBasis f = T (levels_sound? lim q (f ∷ []))

  t_line_elements : (few : q.n ≤ 8) (place count : ℕ) (f : Level) → Elements lim q count f → (v : List ℕ) → length v ≡ 3 + q.n
      → IfDone (Elements lim q (suc count)) (t_line lim q place count f v)
  t_line_elements few place count f h v l =
      guard_done (Elements lim q (suc count)) (ltb count lim.t_lines) 8 place (λ u₁. after_8) λ t₁.
      guard_done (Elements lim q (suc count)) (in_sequence? lim f (get_or v 0 0)) 5 place (λ u₂. after_5) λ t₂.
      guard_done (Elements lim q (suc count)) (term_in_range? lim q t) 4 place (λ u₃. after_4) λ t₃.
      guard_done (Elements lim q (suc count)) (descends? q.code f (get_or v 0 0) t) 6 place (λ u₄. done grown) λ t₄.
      with_term_elements lim q count f h (ltb→lt count lim.t_lines t₁) (get_or v 0 0) t₂ t (term_of_sound lim q few v l t₃) t₄
    where
      t : Term
      t = term_of q.n v

      grown : Level
      grown = with_term (next? f (get_or v 0 0)) f t

      after_4 : Result Level
      after_4 = unless_refused (descends? q.code f (get_or v 0 0) t) 6 place >>= λ u₄. done grown

      after_5 : Result Level
      after_5 = unless_refused (term_in_range? lim q t) 4 place >>= λ u₃. after_4

      after_8 : Result Level
      after_8 = unless_refused (in_sequence? lim f (get_or v 0 0)) 5 place >>= λ u₂. after_5

  -- E's count is not 0 and that of the T lines
  e_line_basis : (place count : ℕ) (later : List Line) (f : Level) → Elements lim q count f → (o : Option (List ℕ))
      → IfDone SoundBasis (e_line place count later f o)
  e_line_basis place count later f h none = tt
  e_line_basis place count later f h (some v) =
      guard_done SoundBasis (not (eqb x 0) and eqb x count) 7 place (λ u₁. unless_refused (empty? later) 1 (suc place) >>= λ u₂. done f) λ t₁.
      guard_done SoundBasis (empty? later) 1 (suc place) (λ u₂. done f) λ t₂.
      basis_sound lim q count f h (counted t₁)
    where
      x : ℕ
      x = get_or v 0 0

      counted : T (not (eqb x 0) and eqb x count) → 1 ≤ count
      counted t =
          let e : x ≡ count = eqb→eq x count (and_right (not (eqb x 0)) (eqb x count) t) in
          let n : x ≢ 0 = λ z. T_not (eqb x 0) (and_left (not (eqb x 0)) (eqb x count) t) (subst (λ y. T (eqb y 0)) (sym z) (eqb_refl 0)) in
          omega arith

  body_basis : (few : q.n ≤ 8) (place count : ℕ) (f : Level) → Elements lim q count f → (later : List Line)
      → IfDone SoundBasis (body lim q place count f later)
  body_basis few place count f h [] = tt
  body_basis few place count f h (line ∷ later) =
      go (shaped lim.field letter_T (3 + q.n) line) (shaped_length lim.field letter_T (3 + q.n) line)
      (λ grown k. body_basis few (suc place) (suc count) grown k later)
    where
      more : Level → Result Level
      more grown = body lim q (suc place) (suc count) grown later

      go : (o : Option (List ℕ)) → IfSome (Counts (3 + q.n)) o → ((grown : Level) → Elements lim q (suc count) grown
          → IfDone SoundBasis (more grown))
          → IfDone SoundBasis (by_shape o lim q place count f line later more)
      go (some v) l k = if_done_bind (Elements lim q (suc count)) SoundBasis (t_line lim q place count f v) more
          (t_line_elements few place count f h v l) k
      go none l k = e_line_basis place count later f h (shaped lim.field letter_E 1 line)

-- ## The file

-- the state with the basis alone
abbrev pub basis_state : Parameters × Level → State
basis_state f = record { parameters = f.0; levels = f.1 ∷ [] }

-- a weight a and a weight b: "weights 0 to 15" (A14)
abbrev pub WeightsFit : ℕ × ℕ → Type 0
WeightsFit w = (w.0 ≤ most_weight) × (w.1 ≤ most_weight)

-- two weights for each of n variables
pub pairs_length : (n : ℕ) (v : List ℕ) → length v ≡ 2 * n → length (pairs v) ≡ n
pairs_length zero [] e = refl
pairs_length zero (a ∷ v) e = absurd (omega arith)
pairs_length (suc n) [] e = absurd (omega arith)
pairs_length (suc n) (a ∷ []) e = absurd (omega arith)
pairs_length (suc n) (a ∷ b ∷ v) e = ap suc (pairs_length n v (omega arith))

pub pairs_fit : (v : List ℕ) → T (fits? most_weight v) → All WeightsFit (pairs v)
pairs_fit [] t = tt
pairs_fit (a ∷ []) t = tt
pairs_fit (a ∷ b ∷ v) t =
    let u : T (fits? most_weight (b ∷ v)) = and_right (leb a most_weight) (fits? most_weight (b ∷ v)) t in (
      (
        leb→le a most_weight (and_left (leb a most_weight) (fits? most_weight (b ∷ v)) t),
        leb→le b most_weight (and_left (leb b most_weight) (fits? most_weight v) u),
      ),
      pairs_fit v (and_right (leb b most_weight) (fits? most_weight v) u),
    )

ones_fit : (n : ℕ) → All WeightsFit (replicate n (1, 0))
ones_fit zero = tt
ones_fit (suc n) = ((omega arith, omega arith), ones_fit n)

-- the lines before the first T line passed their tests
pub record Ready (lim : Limits) (h : Head) : Type 0 where
  pub prime : T (prime_in_range? lim h.parameters.p)
  pub ranges : T (in_ranges? lim h.parameters)
  pub degrees : T (degrees_sound? h.parameters)
  pub weighed : length h.weights ≡ h.parameters.n
  pub weights : All WeightsFit h.weights

module _ (lim : Limits) where
  zeros_fit : (n : ℕ) → T (fits? most_degree (replicate n 0))
  zeros_fit zero = tt
  zeros_fit (suc n) = zeros_fit n

  -- "files without D keep zeros" (A5)
  pub r_line_ready : (later : List Line) (v : List ℕ) → IfDone (λ q. Ready lim (head_of q later)) (r_line lim v)
  r_line_ready later v =
      let q = parameters_of v in
      guard_done (λ q. Ready lim (head_of q later)) (prime_in_range? lim q.p) 2 1 (λ u. unless_refused (in_ranges? lim q) 3 1 >>= λ u'. done q) λ t.
      guard_done (λ q. Ready lim (head_of q later)) (in_ranges? lim q) 3 1 (λ u'. done q) λ t'.
      record { prime = t; ranges = t'; degrees = plain; weighed = length-replicate {A = ℕ × ℕ} q.n (1, 0); weights = ones_fit q.n }
    where
      s : ℕ
      s = get_or v 3 0

      plain : T (degrees_sound? (parameters_of v))
      plain =
          let e : length (replicate {A = ℕ} s 0) ≡ s = length-replicate {A = ℕ} s 0 in
          and_both (eqb (length (replicate s 0)) s) (fits? most_degree (replicate s 0)) (subst (λ n. T (eqb n s)) (sym e) (eqb_refl s)) (zeros_fit s)

  d_line_ready : (h : Head) → Ready lim h → (later : List Line) (o : Option (List ℕ)) → IfSome (Counts h.parameters.s) o
      → IfDone (Ready lim) (d_line h later o)
  d_line_ready h r later none l = r
  d_line_ready h r later (some v) l =
      guard_done (Ready lim) (fits? most_degree v) 18 h.place (λ u. done (with_degrees h v later)) λ t.
      record {
        prime = r.prime;
        ranges = r.ranges;
        degrees = and_both (eqb (length v) h.parameters.s) (fits? most_degree v)
            (subst (λ n. T (eqb n h.parameters.s)) (sym l) (eqb_refl h.parameters.s)) t;
        weighed = r.weighed;
        weights = r.weights;
      }

  pub d_first_ready : (h : Head) → Ready lim h → (ls : List Line) → IfDone (Ready lim) (d_first lim h ls)
  d_first_ready h r [] = r
  d_first_ready h r (line ∷ later) =
      d_line_ready h r later (shaped lim.field letter_D h.parameters.s line) (shaped_length lim.field letter_D h.parameters.s line)

  g_line_ready : (h : Head) → Ready lim h → (later : List Line) (o : Option (List ℕ)) → IfSome (Counts (2 * h.parameters.n)) o
      → IfDone (Ready lim) (g_line h later o)
  g_line_ready h r later none l = r
  g_line_ready h r later (some v) l =
      guard_done (Ready lim) (fits? most_weight v) 24 h.place (λ u. done (with_weights h v later)) λ t.
      record { prime = r.prime; ranges = r.ranges; degrees = r.degrees; weighed = pairs_length h.parameters.n v l; weights = pairs_fit v t }

  pub g_next_ready : (h : Head) → Ready lim h → (ls : List Line) → IfDone (Ready lim) (g_next lim h ls)
  g_next_ready h r [] = r
  g_next_ready h r (line ∷ later) =
      g_line_ready h r later (shaped lim.field letter_G (2 * h.parameters.n) line) (shaped_length lim.field letter_G (2 * h.parameters.n) line)

  pub head_ready : (bytes : Bytes) → IfDone (Ready lim) (head lim bytes)
  head_ready bytes = guard_done (Ready lim) (leb (length bytes) lim.file) 1 0 (λ u. first_line lim (lines bytes)) (λ t. first (lines bytes))
    where
      after : (later : List Line) (o : Option (List ℕ)) → IfDone (Ready lim) (after_r lim later o)
      after later none = tt
      after later (some v) =
          if_done_bind (λ q. Ready lim (head_of q later)) (Ready lim) (r_line lim v)
          (λ q. d_first lim (head_of q later) later >>= λ h. g_next lim h h.later) (r_line_ready later v) λ q r.
          if_done_bind (Ready lim) (Ready lim) (d_first lim (head_of q later) later) (λ h. g_next lim h h.later) (d_first_ready (head_of q later) r later)
          (λ h k. g_next_ready h k h.later)

      first : (ls : List Line) → IfDone (Ready lim) (first_line lim ls)
      first [] = tt
      first (line ∷ later) = after later (shaped lim.field letter_R 4 line)

pub problem_sound : (lim : Limits) → lim.variables ≤ 8 → (bytes : Bytes) → IfDone (λ f. T (sound? lim (basis_state f))) (problem lim bytes)
problem_sound lim v bytes =
    if_done_bind (Ready lim) Sound (head lim bytes) (λ h. body lim h.parameters h.place 0 [] h.later >>= λ f. done (h.parameters, f))
    (head_ready lim bytes) read
  where
    Sound : Parameters × Level → Type 0
    Sound f = T (sound? lim (basis_state f))

    few : (q : Parameters) → T (in_ranges? lim q) → q.n ≤ 8
    few q r =
        let n = between 1 q.n lim.variables in
        omega (arith, v, between_high 1 q.n lim.variables (and_left n (between 1 q.code 3 and between 1 q.s lim.components) r))

    read : (h : Head) → Ready lim h → IfDone Sound (body lim h.parameters h.place 0 [] h.later >>= λ f. done (h.parameters, f))
    read h r =
        let q = h.parameters in
        if_done_bind (λ f. T (levels_sound? lim q (f ∷ []))) Sound (body lim q h.place 0 [] h.later) (λ f. done (q, f))
        (body_basis lim q (few q r.ranges) h.place 0 [] none_yet h.later)
        (λ f s. sound_shown lim (basis_state (q, f)) (record { prime = r.prime; ranges = r.ranges; degrees = r.degrees; height = omega arith; levels = s }))
      where
        none_yet : Elements lim h.parameters 0 []
        none_yet = record { few = omega arith; short = omega arith; terms = refl; elements = tt }
