-- V lines bring terms in range, strictly descending, not more than a working value has; 23 comes at a line after E.
use mathlib.Core.Path.{◌≡◌, refl, subst}
use mathlib.Core.Bool.{Bool, true, false}
use mathlib.Core.Option.{Option, none, some}
use mathlib.Core.List.{List, [], ◌∷◌, ◌++◌}
use Prim.Native.Nat.{ℕ, suc, ◌+◌, ◌<◌, ◌≤◌}
use native.Mathlib.Omega.{arith}
use lib.Dec.{T, ltb, ltb→lt}
use lib.ListN.{length, length-append}
use Rattle.definitions.specs.Limits.{Limits}
use Rattle.definitions.specs.Lists.{◌and◌, every, last}
use Rattle.definitions.specs.Monomial.{Term, Vector}
use Rattle.definitions.specs.Order.{compare_over, greater?}
use Rattle.definitions.specs.Result.{Result, done, refused, unfinished, unless_refused, ◌>>=◌}
use Rattle.definitions.specs.Vectors.{strictly_descending?}
use Rattle.definitions.specs.Problem.{Line, Parameters, shaped, term_of, term_in_range?, below?}
use Rattle.definitions.specs.State.{term_sound?}
use Rattle.laws.proofs.Tests.{and_left, and_right, and_both, every_append}
use Rattle.laws.proofs.Results.{IfDone, IfSome}
use Rattle.laws.proofs.Elements.{descends_last, term_of_sound}
use Rattle.laws.proofs.Reading.{Counts, shaped_length}
use Rattle.definitions.specs.Membership.{letter_V, v_term?, v_line, v_lines}
use Rattle.members.specs.Members.{brought?}

module _ (lim : Limits) (q : Parameters) (few : q.n ≤ 8) where
  -- what the lines so far brought
  pub record Brought (v : Vector) : Type 0 where
    pub sound : T (every (term_sound? lim q q.s) v)
    pub descends : T (strictly_descending? (compare_over q.code []) v)
    pub short : length v ≤ lim.working

  pub brought_shown : (v : Vector) → Brought v → T (brought? lim q v)
  brought_shown v h = and_both (every (term_sound? lim q q.s) v) (strictly_descending? (compare_over q.code []) v) h.sound h.descends

  -- lines from the place on, so many of them: their vector, or 23 at one of them
  pub data Lines (place count : ℕ) : Result Vector → Type 0 where
    brings : {v : Vector} → Brought v → Lines place count (done v)
    bad : {at : ℕ} → place ≤ at → at < place + count → Lines place count (refused 23 at [])

  pub one_more : (v : Vector) → Brought v → (w : List ℕ) → length w ≡ 2 + q.n → T (v_term? lim q v (term_of q.n (0 ∷ w)))
      → Brought (v ++ term_of q.n (0 ∷ w) ∷ [])
  one_more v h w l t = record {
    sound = every_append (term_sound? lim q q.s) v (u ∷ []) h.sound
        (and_both (term_sound? lim q q.s u) true (term_of_sound lim q few (0 ∷ w) long ranged) tt);
    descends = descends_last q.code v u h.descends (and_left (below? q.code (last v) u) (ltb (length v) lim.working) later);
    short =
        let k : length v < lim.working = ltb→lt (length v) lim.working (and_right (below? q.code (last v) u) (ltb (length v) lim.working) later) in
        omega (arith, length-append v (u ∷ []));
  }
    where
      u : Term
      u = term_of q.n (0 ∷ w)

      long : length (0 ∷ w) ≡ 3 + q.n
      long = omega (arith, l)

      ranged : T (term_in_range? lim q u)
      ranged = and_left (term_in_range? lim q u) (below? q.code (last v) u and ltb (length v) lim.working) t

      later : T (below? q.code (last v) u and ltb (length v) lim.working)
      later = and_right (term_in_range? lim q u) (below? q.code (last v) u and ltb (length v) lim.working) t

  pub lines_brought : (place : ℕ) (v : Vector) → Brought v → (ls : List Line) → Lines place (length ls) (v_lines lim q place v ls)
  lines_brought place v h [] = brings h
  lines_brought place v h (line ∷ later) =
      go (shaped lim.field letter_V (2 + q.n) line) (shaped_length lim.field letter_V (2 + q.n) line) (λ w k. lines_brought (suc place) w k later)
    where
      on : {x : Result Vector} → Lines (suc place) (length later) x → Lines place (suc (length later)) x
      on (brings k) = brings k
      on (bad {at = i} a b) = bad {at = i} (omega arith) (omega arith)

      tested : (w : List ℕ) → length w ≡ 2 + q.n → (b : Bool) → (T b → T (v_term? lim q v (term_of q.n (0 ∷ w))))
          → ((v : Vector) → Brought v → Lines (suc place) (length later) (v_lines lim q (suc place) v later))
          → Lines place (suc (length later)) ((unless_refused b 23 place >>= λ u. done (v ++ term_of q.n (0 ∷ w) ∷ [])) >>= λ w. v_lines lim q (suc place)
          w later)
      tested w l false t ih = bad {at = place} (omega arith) (omega arith)
      tested w l true t ih = on (ih (v ++ term_of q.n (0 ∷ w) ∷ []) (one_more v h w l (t tt)))

      go : (o : Option (List ℕ)) → IfSome (Counts (2 + q.n)) o
          → ((v : Vector) → Brought v → Lines (suc place) (length later) (v_lines lim q (suc place) v later))
          → Lines place (suc (length later)) (v_line lim q place v o >>= λ w. v_lines lim q (suc place) w later)
      go none l ih = bad {at = place} (omega arith) (omega arith)
      go (some w) l ih = tested w l (v_term? lim q v (term_of q.n (0 ∷ w))) (λ t. t) ih

  pub nothing_brought : Brought []
  nothing_brought = record { sound = tt; descends = tt; short = omega arith }

  -- what lines that are taken bring
  pub lines_bring : (place : ℕ) (ls : List Line) → IfDone Brought (v_lines lim q place [] ls)
  lines_bring place ls = go (v_lines lim q place [] ls) (lines_brought place [] nothing_brought ls)
    where
      go : (x : Result Vector) → Lines place (length ls) x → IfDone Brought x
      go unfinished x'' = elim x'' [ ]
      go (done v) (brings h) = h
      go (refused number at value) (bad l k) = tt
