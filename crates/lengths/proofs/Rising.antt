-- Levels whose leading monomials are the frame terms over the level below.
use mathlib.Core.Path.{◌≡◌, refl, sym, ap, ap₂, ◌∙◌, subst}
use mathlib.Core.Logic.{inl, inr}
use mathlib.Core.List.{List, [], ◌∷◌}
use Prim.Native.Nat.{ℕ, zero, suc, ◌-◌, ◌<◌, ◌≤◌}
use native.Mathlib.Omega.{arith}
use lib.Dec.{T, eqb}
use lib.ListN.{length, get_or, drop, length-drop}
use Rattle.definitions.specs.Limits.{Limits}
use Rattle.definitions.specs.Lists.{◌and◌, every, between}
use Rattle.definitions.specs.Monomial.{Monomial, Vector, Level, leading, leading_monomials}
use Rattle.definitions.specs.Frame.{frame}
use Rattle.definitions.specs.Stage.{highest}
use Rattle.definitions.specs.Problem.{Parameters, in_ranges?}
use Rattle.definitions.specs.State.{vector_sound?, term_sound?, levels_sound?}
use Rattle.laws.proofs.Tests.{and_left, and_right, and_both, between_low}
use Rattle.laws.proofs.Sound.{SoundTerm, SoundVector, term_says, vector_says, basis_says}
use Rattle.demands.specs.Notions.{Member}
use Rattle.demands.specs.Exact.{LevelRight}
use Rattle.demands.specs.Demands.{level_of}
use Rattle.demands.proofs.Reckonings.{drop_keeps}
use Rattle.lengths.specs.Notions.{zero?, in_variables?, at, frame_terms}
use Rattle.lengths.specs.Lengths.{EndsIn}
use Rattle.lengths.proofs.Frames.{frames_end}

-- ## Leading monomials

leading_count : (f : Level) → length (leading_monomials f) ≡ length f
leading_count [] = refl
leading_count (v ∷ f) = ap suc (leading_count f)

leading_at : (f : Level) (k : ℕ) → k < length f → at (leading_monomials f) k ≡ leading (get_or f k [])
leading_at [] k l = absurd (omega arith)
leading_at (v ∷ f) zero l = refl
leading_at (v ∷ f) (suc k) l = leading_at f k (omega arith)

leading_member : (f : Level) (v : Vector) → Member v f → Member (leading v) (leading_monomials f)
leading_member [] v x' = elim x' [ ]
leading_member (w ∷ f) v (inl e) = inl (ap leading e)
leading_member (w ∷ f) v (inr i) = inr (leading_member f v i)

none_leads : (f : Level) → leading_monomials f ≡ [] → f ≡ []
none_leads [] e = refl
none_leads (v ∷ f) e = let z : suc (length (leading_monomials f)) ≡ 0 = ap length e in absurd (omega arith)

one_list : (a b : List Monomial) → length a ≡ length b → ((k : ℕ) → k < length a → at a k ≡ at b k) → a ≡ b
one_list [] [] l h = refl
one_list [] (y ∷ b) l h = absurd (omega arith)
one_list (x ∷ a) [] l h = absurd (omega arith)
one_list (x ∷ a) (y ∷ b) l h = ap₂ (λ u v. u ∷ v) (h 0 (omega arith)) (one_list a b (omega arith) (λ k i. h (suc k) (omega arith)))

-- "by its frame term in front"
pub level_leads : (q : Parameters) (code : ℕ) (below : List Level) (f : Level) → LevelRight q code below f
    → leading_monomials f ≡ frame code (leading_monomials (highest below))
level_leads q code below f r = one_list (leading_monomials f) (frame code (leading_monomials (highest below))) (leading_count f ∙ r.count) (λ k l.
    let i : k < length f = subst (λ z. k < z) (leading_count f) l in
    leading_at f k i ∙ ap (λ t. t.1) (r.vectors k i).in_front)

-- ## Levels over leading monomials

abbrev pub Rising : List Monomial → List Level → Type 0
Rising ms [] = ⊥
Rising ms (g ∷ []) = leading_monomials g ≡ ms
Rising ms (g ∷ b ∷ below) = (leading_monomials g ≡ frame 1 (leading_monomials b)) × Rising ms (b ∷ below)

pub rising_up : (ms : List Monomial) (g : Level) (below : List Level) → leading_monomials g ≡ frame 1 (leading_monomials (highest below))
    → Rising ms below
    → Rising ms (g ∷ below)
rising_up ms g [] e r = absurd r
rising_up ms g (b ∷ below) e r = (e, r)

rising_down : (ms : List Monomial) (g b : Level) (below : List Level) → Rising ms (g ∷ b ∷ below) → Rising ms (b ∷ below)
rising_down ms g b below r = r.1

rising_highest : (ms : List Monomial) (levels : List Level) (k : ℕ) → length levels ≡ suc k → Rising ms levels
    → leading_monomials (highest levels) ≡ frame_terms k ms
rising_highest ms [] k l r = absurd r
rising_highest ms (g ∷ []) zero l r = r
rising_highest ms (g ∷ []) (suc k) l r = absurd (omega arith)
rising_highest ms (g ∷ b ∷ below) zero l r = absurd (omega arith)
rising_highest ms (g ∷ b ∷ below) (suc k) l r = r.0 ∙ ap (frame 1) (rising_highest ms (b ∷ below) k (omega arith) r.1)

rising_level : (ms : List Monomial) (levels : List Level) → Rising ms levels → (k : ℕ) → k < length levels
    → leading_monomials (level_of levels k) ≡ frame_terms k ms
rising_level ms levels r k l =
    rising_highest ms (drop i levels) k (omega (arith, length-drop i levels, l)) (drop_keeps (Rising ms) (rising_down ms) i levels (omega (arith, l)) r)
  where
    i : ℕ
    i = length levels - suc k

pub rising_ends : (n : ℕ) (f : Level) (levels : List Level) → 1 ≤ n → T (every (in_variables? n) (leading_monomials f))
    → Rising (leading_monomials f) levels
    → EndsIn n f levels
rising_ends n f levels o t r = record {
  framed = framed;
  free = λ p k l m v i. frames_end.free n ms o t p k m (leading v) (subst (Member (leading v)) (framed k l) (leading_member (level_of levels k) v i));
  short = λ p k l m. none_leads (level_of levels k) (framed k l ∙ frames_end.short n ms o t p k m);
  ends = λ k l m. none_leads (level_of levels k) (framed k l ∙ frames_end.ends n ms o t k m);
}
  where
    ms : List Monomial
    ms = leading_monomials f

    framed : (k : ℕ) → k < length levels → leading_monomials (level_of levels k) ≡ frame_terms k ms
    framed k l = rising_level ms levels r k l

-- ## The leading monomials of a sound basis

module _ (lim : Limits) (q : Parameters) where
  leading_in : (v : Vector) → T (vector_sound? lim q q.s lim.t_lines [] v) → T (in_variables? q.n (leading v))
  leading_in v t = go v w.filled w.terms
    where
      w : SoundVector lim q q.s lim.t_lines [] v
      w = vector_says lim q q.s lim.t_lines [] v t

      go : (v : Vector) → 1 ≤ length v → T (every (term_sound? lim q q.s) v) → T (in_variables? q.n (leading v))
      go [] l s = absurd (omega arith)
      go (u ∷ v) l s =
          let h : SoundTerm lim q q.s u = term_says lim q q.s u (and_left (term_sound? lim q q.s u) (every (term_sound? lim q q.s) v) s) in
          and_both (eqb (length u.1.0) 8) (zero? (drop q.n u.1.0)) (subst (λ z. T (eqb z 8)) (sym h.eight) tt) h.past

  all_in : (f : Level) → T (every (vector_sound? lim q q.s lim.t_lines []) f) → T (every (in_variables? q.n) (leading_monomials f))
  all_in [] t = tt
  all_in (v ∷ f) t =
      let s = vector_sound? lim q q.s lim.t_lines [] v in
      let ss = every (vector_sound? lim q q.s lim.t_lines []) f in
      and_both (in_variables? q.n (leading v)) (every (in_variables? q.n) (leading_monomials f)) (leading_in v (and_left s ss t))
      (all_in f (and_right s ss t))

  pub basis_in : (f : Level) → T (levels_sound? lim q (f ∷ [])) → T (every (in_variables? q.n) (leading_monomials f))
  basis_in f t = all_in f (basis_says lim q f t).vectors

  pub some_variable : T (in_ranges? lim q) → 1 ≤ q.n
  some_variable t =
      between_low 1 q.n lim.variables (and_left (between 1 q.n lim.variables)
      (between 1 q.code 3 and between 1 q.s lim.components) t)
