-- The levels of a file: the leading monomials of each are the frame of the level below, and monomials over its vectors.
use mathlib.Core.Path.{◌≡◌, refl, sym, ap, subst}
use mathlib.Core.Logic.{inl, inr}
use mathlib.Core.Option.{Option, none, some}
use mathlib.Core.List.{List, [], ◌∷◌}
use Prim.Native.Nat.{ℕ, zero, suc, ◌<◌, ◌≤◌}
use native.Mathlib.Omega.{arith}
use lib.Dec.{T, eqb, eqb→eq}
use lib.ListN.{length, get_or, drop}
use Rattle.definitions.specs.Limits.{Limits}
use Rattle.definitions.specs.Lists.{every}
use Rattle.definitions.specs.Monomial.{Exponents, Monomial, Term, Vector, Level, fits?, leading_term, leading, leading_monomials}
use Rattle.definitions.specs.Frame.{frame}
use Rattle.definitions.specs.Problem.{Bytes, Parameters}
use Rattle.definitions.specs.State.{State, sound?, vector_sound?, term_sound?}
use Rattle.definitions.specs.Reckoning.{reckoned_level, reckoned_levels}
use Rattle.definitions.specs.Places.{exponents_length, most_degree}
use Rattle.laws.proofs.Tests.{and_left, and_right, between_low, between_high}
use Rattle.laws.proofs.Members.{All, all_map}
use Rattle.laws.proofs.Sound.{Sound, sound_says, basis_says, vector_says, term_says}
use Rattle.laws.proofs.Reading.{basis_state}
use Rattle.laws.proofs.Degrees.{Headed, vectors_headed}
use Rattle.laws.proofs.RoundTrip.{length_degrees}
use Rattle.demands.specs.Notions.{Member}
use Rattle.demands.specs.Exact.{Exact}
use Rattle.demands.specs.Demands.{sensible?, Listed}
use Rattle.demands.proofs.Results.{Holds, holds, nothing, holds_then, holds_at}
use Rattle.demands.proofs.Over.{sound_eight}
use Rattle.demands.proofs.Frames.{EightEach, is_frame}
use Rattle.demands.proofs.Demand2.{demand_2}
use Rattle.lengths.proofs.Colons.{colon_past}
use Rattle.lengths.proofs.Frames.{Pairs, frame_has}
use Rattle.lengths.proofs.Rising.{level_leads, some_variable}
use Rattle.standard_monomials.proofs.Padding.{Over, padded_eight, padded_of, padded_past}
use Rattle.standard_monomials.proofs.Alternating.{generators_under, LevelsOver, Framed, lowest}

-- ## Frame terms are monomials over the vectors of the level

abbrev Past : ℕ → Exponents → Type 0
Past n e = T (every (λ x. eqb x 0) (drop n e))

all_of_members : (P : Monomial → Type 0) (ms : List Monomial) → ((m : Monomial) → Member m ms → P m) → All P ms
all_of_members P [] h = tt
all_of_members P (m ∷ ms) h = (h m (inl refl), all_of_members P ms (λ x i. h x (inr i)))

pairs_of : (P : Monomial → Type 0) (ms : List Monomial) → All P ms → Pairs (λ l m. P l × P m) ms
pairs_of P [] h = tt
pairs_of P (m ∷ ms) h = (all_map P (λ x. P m × P x) (λ x k. (h.0, k)) ms h.1, pairs_of P ms h.1)

module _ (n : ℕ) (eight : n ≤ exponents_length) (code : ℕ) where
  eight_each : (many : ℕ) (g : Level) → All (Over n many) (leading_monomials g) → EightEach g
  eight_each many [] h j l = absurd (omega (arith, l))
  eight_each many (v ∷ g) h zero l = padded_eight n eight (leading v).0 h.0.exponents
  eight_each many (v ∷ g) h (suc j) l = eight_each many g h.1 j (omega (arith, l))

  frame_over : (many : ℕ) (g : Level) → All (Over n many) (leading_monomials g) → All (Over n (length g)) (frame code (leading_monomials g))
  frame_over many g h = all_of_members (Over n (length g)) (frame code (leading_monomials g)) at
    where
      at : (t : Monomial) → Member t (frame code (leading_monomials g)) → Over n (length g) t
      at t m =
          let (long, s) = (is_frame code g (eight_each many g h)).only t m in
          record {
            exponents = padded_of n eight t.0 long
                (frame_has code (Past n) (λ l k. Past n l.0 × Past n k.0) (λ l k p e. colon_past n l.0 k.0 p.0 p.1) (leading_monomials g)
                (pairs_of (λ l. Past n l.0) (leading_monomials g)
                (all_map (Over n many) (λ l. Past n l.0) (λ l o. padded_past n l.0 o.exponents) (leading_monomials g) h)) t m);
            low = between_low 1 t.1 (length g) s.in_range;
            high = between_high 1 t.1 (length g) s.in_range;
          }

-- each vector has a term: it leads with coefficient 1
one_term : (v : Vector) → (leading_term v).0 ≡ 1 → 1 ≤ length v
one_term [] e = absurd (omega (arith, e))
one_term (t ∷ v) e = omega arith

filled_level : (f : Level) → ((k : ℕ) → k < length f → (leading_term (get_or f k [])).0 ≡ 1) → All (λ v. 1 ≤ length v) f
filled_level [] h = tt
filled_level (v ∷ f) h = (one_term v (h 0 (omega arith)), filled_level f (λ k l. h (suc k) (omega (arith, l))))

headed_level : (n : ℕ) → n ≤ exponents_length → (many : ℕ) (f : Level) → All (λ v. 1 ≤ length v) f → All (Over n many) (leading_monomials f) → All Headed f
headed_level n eight many [] h o = tt
headed_level n eight many (v ∷ f) h o =
    (record { filled = h.0; eight = padded_eight n eight (leading v).0 o.0.exponents }, headed_level n eight many f h.1 o.1)

-- ## From level 0 up

module _ (lim : Limits) (q : Parameters) (eight : q.n ≤ exponents_length) where
  abbrev code : ℕ
  code = lim.numbering q.code

  pub exact_framed : (ls : List Level) → Exact lim q ls → Framed code ls
  exact_framed [] e = tt
  exact_framed (f ∷ []) e = tt
  exact_framed (f ∷ g ∷ below) e = (level_leads q code (g ∷ below) f e.0, exact_framed (g ∷ below) e.1)

  pub exact_over : (g : Level) (below : List Level) → Exact lim q (g ∷ below) → All Headed (lowest (g ∷ below))
      → All (Over q.n (length q.degrees)) (leading_monomials (lowest (g ∷ below))) → LevelsOver q.n q.degrees (g ∷ below)
  exact_over f [] e h o = (h, o, tt)
  exact_over f (g ∷ below) e h o =
      let r = exact_over g below e.1 h o in
      let over : All (Over q.n (length (generators_under q.degrees (g ∷ below)))) (leading_monomials f) =
      subst (λ k. All (Over q.n k) (leading_monomials f)) (sym (length_degrees q.degrees below g))
      (subst (All (Over q.n (length g))) (sym (level_leads q code (g ∷ below) f e.0))
      (frame_over q.n eight code (length (generators_under q.degrees below)) g r.1)) in (
        headed_level q.n eight (length (generators_under q.degrees (g ∷ below))) f
            (filled_level f (λ k l. ap (λ (t : Term). t.0) (e.0.vectors k l).in_front)) over,
        over,
        r,
      )

-- ## Level 0

module _ (lim : Limits) (q : Parameters) (eight : q.n ≤ exponents_length) where
  leading_over : (v : Vector) → T (vector_sound? lim q q.s lim.t_lines [] v) → Over q.n q.s (leading v)
  leading_over v t = go v (vector_says lim q q.s lim.t_lines [] v t).filled (vector_says lim q q.s lim.t_lines [] v t).terms
    where
      go : (v : Vector) → 1 ≤ length v → T (every (term_sound? lim q q.s) v) → Over q.n q.s (leading v)
      go [] l t = absurd (omega (arith, l))
      go (u ∷ v) l t =
          let s = term_says lim q q.s u (and_left (term_sound? lim q q.s u) (every (term_sound? lim q q.s) v) t) in
          record {
            exponents = padded_of q.n eight u.1.0 s.eight s.past;
            low = between_low 1 u.1.1 q.s s.component;
            high = between_high 1 u.1.1 q.s s.component;
          }

  elements_over : (f : Level) → T (every (vector_sound? lim q q.s lim.t_lines []) f) → All (Over q.n q.s) (leading_monomials f)
  elements_over [] t = tt
  elements_over (v ∷ f) t =
      let a = vector_sound? lim q q.s lim.t_lines [] v in
      let b = every (vector_sound? lim q q.s lim.t_lines []) f in
      (leading_over v (and_left a b t), elements_over f (and_right a b t))

-- level 0 of the reckoning is the basis
module _ (lim : Limits) (N p code : ℕ) (f : Level) where
  abbrev OnBasis : List Level → Type 0
  OnBasis [] = ⊥
  OnBasis (g ∷ below) = lowest (g ∷ below) ≡ f

  on_up : (g : Level) (levels : List Level) → OnBasis levels → OnBasis (g ∷ levels)
  on_up g [] o = absurd o
  on_up g (b ∷ levels) o = o

  any_value : (x : Option Level) → Holds (λ g. Unit {0}) x
  any_value none = nothing
  any_value (some g) = holds tt

  reckoned_lowest : (h : ℕ) → Holds OnBasis (reckoned_levels lim N p code f h)
  reckoned_lowest zero = holds refl
  reckoned_lowest (suc h) =
      holds_then (reckoned_lowest h) (λ levels o. holds_then (any_value (reckoned_level lim N p code levels)) (λ g u. holds (on_up g levels o)))

-- ## The levels of a file

pub record FileLevels (lim : Limits) (q : Parameters) (basis : Level) (levels : List Level) : Type 0 where
  pub some_there : 1 ≤ q.n
  pub eight : q.n ≤ exponents_length
  pub each_component : length q.degrees ≡ q.s
  pub lowest_is : lowest levels ≡ basis
  pub framed : Framed (lim.numbering q.code) levels
  pub over : LevelsOver q.n q.degrees levels

module _ (lim : Limits) (o : T (sensible? lim)) (bytes : Bytes) (q : Parameters) (g : Level) (below : List Level) (L : Listed lim bytes q g below) where
  abbrev X : State
  X = basis_state (q, L.basis)

  sound : T (sound? lim X)
  sound = (demand_2 lim o).well_formed bytes q L.basis L.well_formed

  says : Sound lim X
  says = sound_says lim X sound

  components : length q.degrees ≡ q.s
  components = eqb→eq (length q.degrees) q.s (and_left (eqb (length q.degrees) q.s) (fits? most_degree q.degrees) says.degrees)

  variables : q.n ≤ exponents_length
  variables = sound_eight lim o X sound

  on_basis : lowest (g ∷ below) ≡ L.basis
  on_basis = holds_at L.reckoned.1 (reckoned_lowest lim L.reckoned.0 q.p q.code L.basis (length below))

  elements : T (every (vector_sound? lim q q.s lim.t_lines []) L.basis)
  elements = (basis_says lim q L.basis says.levels).vectors

  pub file_levels : FileLevels lim q L.basis (g ∷ below)
  file_levels = record {
    some_there = some_variable lim q says.ranges;
    eight = variables;
    each_component = components;
    lowest_is = on_basis;
    framed = exact_framed lim q variables (g ∷ below) L.exact;
    over = exact_over lim q variables g below L.exact
        (subst (All Headed) (sym on_basis) (vectors_headed lim q q.s lim.t_lines [] L.basis elements))
        (subst (λ f. All (Over q.n (length q.degrees)) (leading_monomials f)) (sym on_basis)
        (subst (λ k. All (Over q.n k) (leading_monomials L.basis)) (sym components) (elements_over lim q variables L.basis elements)));
  }
