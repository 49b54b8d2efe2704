-- Canonical vectors, written in the definitions: they descend, and their terms are sound.
use mathlib.Core.Path.{◌≡◌, subst}
use mathlib.Core.List.{List, [], ◌∷◌}
use Prim.Native.Nat.{ℕ, suc, ◌-◌, ◌<◌, ◌≤◌}
use native.Mathlib.Omega.{arith}
use lib.Dec.{T}
use Rattle.theory.specs.Vec.{All}
use Rattle.theory.specs.Modular.{ModP}
use Rattle.theory.specs.Canon.{Canonical}
use Rattle.definitions.specs.Limits.{Limits}
use Rattle.definitions.specs.Lists.{every}
use Rattle.definitions.specs.Monomial.{Monomial}
use Rattle.definitions.specs.Order.{Comparison, greater?, compare_over}
use Rattle.definitions.specs.Vectors.{strictly_descending?}
use Rattle.definitions.specs.Problem.{Parameters}
use Rattle.definitions.specs.State.{term_sound?}
use Rattle.laws.proofs.Modular.{Prime}
use Rattle.laws.proofs.Tests.{and_both, between_shown}
use Rattle.laws.proofs.Sound.{term_shown}
use Rattle.demands.proofs.Exponents.{out_length, out_past}
use Rattle.demands.proofs.Comparisons.{Says, less, level, more}
use Rattle.demands.proofs.Levels.{Mono, TVec, TLevel, mono, term, vec, flats, module_over, Has, Grounded, over_says}
use Rattle.demands.proofs.Coefficients.{Good, good_nonzero, good_below}
use Rattle.demands.proofs.Soundness.{SoundMono}
use Rattle.demands.proofs.Sums.{Goods}

module _ (n p : ℕ) (P : Prime p) (code : ℕ) (b : List (TLevel n)) (G : Grounded n b) where
  abbrev order : Monomial → Monomial → Comparison
  order = compare_over code (flats n b)

  greater_shown : (x y : Mono n) → Has n b x → Has n b y → (module_over n code b).Lt y x → T (greater? (order (mono n x) (mono n y)))
  greater_shown x y hx hy l = go (over_says n code b G x y hx hy)
    where
      go : {c : Comparison} → Says ((module_over n code b).Lt x y) (x ≡ y) ((module_over n code b).Lt y x) c → T (greater? c)
      go (more s) = tt
      go (level s) = absurd ((module_over n code b).irrefl y (subst (λ z. (module_over n code b).Lt y z) s l))
      go (less s) = absurd ((module_over n code b).irrefl x ((module_over n code b).trans x y x s l))

  pub canonical_descends : (v : TVec n) → All (ModP p P) (Has n b) v → Canonical (ModP p P) (module_over n code b) v
      → T (strictly_descending? (compare_over code (flats n b)) (vec n v))
  canonical_descends [] h k = tt
  canonical_descends (t ∷ []) h k = tt
  canonical_descends (t ∷ u ∷ v) h k =
      and_both (greater? (order (mono n t.1) (mono n u.1))) (strictly_descending? order (vec n (u ∷ v)))
      (greater_shown t.1 u.1 h.0 h.1.0 k.2.0) (canonical_descends (u ∷ v) h.1 k.3)

module _ (lim : Limits) (q : Parameters) (P : Prime q.p) (eight : q.n ≤ 8) (count : ℕ) where
  term_sound : (t : ℕ × Mono q.n) → Good q.p t.0 → SoundMono lim q.n count t.1 → T (term_sound? lim q count (term q.n t))
  term_sound t g h = term_shown lim q count (term q.n t) (record {
    coefficient = let a = good_nonzero q.p P t.0 g in let c : t.0 < q.p = good_below q.p P t.0 g in
        between_shown 1 t.0 (q.p - 1) (omega arith) (omega arith);
    component = between_shown 1 (suc t.1.1) count (omega arith) h.0;
    eight = out_length q.n eight t.1.0;
    fits = h.1;
    past = out_past q.n t.1.0;
  })

  pub terms_sound : (v : TVec q.n) → Goods q.n q.p P v → All (ModP q.p P) (SoundMono lim q.n count) v
      → T (every (term_sound? lim q count) (vec q.n v))
  terms_sound [] g h = tt
  terms_sound (t ∷ v) g h =
      and_both (term_sound? lim q count (term q.n t)) (every (term_sound? lim q count) (vec q.n v)) (term_sound t g.0 h.0)
      (terms_sound v g.1 h.1)
