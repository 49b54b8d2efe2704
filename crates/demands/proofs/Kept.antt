-- A level lifted over sound levels is the reckoning's level and leaves the levels sound.
use mathlib.Core.Path.{◌≡◌, refl, sym, ap, subst}
use mathlib.Core.Bool.{Bool, true, false}
use mathlib.Core.List.{List, [], ◌∷◌}
use Prim.Native.Nat.{ℕ, suc, ◌<◌, ◌≤◌}
use native.Mathlib.Omega.{arith}
use lib.Dec.{T, leb}
use lib.ListN.{length}
use Rattle.theory.specs.Vec.{All}
use Rattle.theory.proofs.Vec
use Rattle.definitions.specs.Limits.{Limits}
use Rattle.definitions.specs.Lists.{every}
use Rattle.definitions.specs.Monomial
use Rattle.definitions.specs.Monomial.{Monomial, leading_monomials}
use Rattle.definitions.specs.Frame.{frame}
use Rattle.definitions.specs.Result.{◌>>=◌}
use Rattle.definitions.specs.Lifting.{Lifting, lift_one, lift_all, if_few, lift_level}
use Rattle.definitions.specs.Problem.{Parameters}
use Rattle.definitions.specs.State.{vector_sound?, levels_sound?, terms_of}
use Rattle.laws.proofs.Modular.{Prime}
use Rattle.laws.proofs.Tests.{and_both}
use Rattle.laws.proofs.Sound.{vector_shown, level_shown}
use Rattle.demands.proofs.Results.{Gives, refuses, ends_both}
use Rattle.demands.proofs.Levels.{Mono, TVec, TLevel, vec, vec_length, flat, flats, flat_length, cons?, lm}
use Rattle.demands.proofs.Setting.{Setting, S}
use Rattle.demands.proofs.Soundness.{Regular, Regulars, Deep, cons_in, Within, SoundMono}
use Rattle.demands.proofs.Sums.{canonical_good}
use Rattle.demands.proofs.Steps.{stage, InVector}
use Rattle.demands.proofs.Reckoned.{vector}
use Rattle.demands.proofs.Bases.{here}
use Rattle.demands.proofs.Ways.{vectors, AllOk, total}
use Rattle.demands.proofs.Stages.{terms}
use Rattle.demands.proofs.Lifted.{LiftedRight, level_lifted}
use Rattle.demands.proofs.Canonical.{canonical_descends, terms_sound}
use Rattle.demands.proofs.Exact.{regular_above}
use Rattle.demands.proofs.Short.{AllShort, all_short}

module _ (lim : Limits) (q : Parameters) (P : Prime q.p) (eight : q.n ≤ 8) (f : TLevel q.n) (b : List (TLevel q.n))
    (d : Deep q.n q.p P q.code (f ∷ b)) where
  abbrev Z : Setting
  Z = here q P eight f b d

  -- ## Sound vectors

  in_module : (v : TVec q.n) → All (S Z) (InVector Z lim) v → All (S Z) (SoundMono lim q.n (length (flat q.n f))) v
  in_module v h = Vec.all_map (S Z) (InVector Z lim) (SoundMono lim q.n (length (flat q.n f)))
      (λ x i. (subst (λ z. x.1 < z) (sym (flat_length q.n f)) (cons_in q.n q.p P q.code f x.1 i.0), i.1)) v h

  filled : (v : TVec q.n) → T (cons? q.n v) → 1 ≤ length (vec q.n v)
  filled [] t = absurd t
  filled (u ∷ v) t = omega arith

  vector_sound : (v : TVec q.n) → Regular q.n q.p P q.code (f ∷ b) v → All (S Z) (InVector Z lim) v → length (vec q.n v) ≤ lim.vector
      → T (vector_sound? lim q (length (flat q.n f)) lim.vector (flats q.n (f ∷ b)) (vec q.n v))
  vector_sound v r h l = vector_shown lim q (length (flat q.n f)) lim.vector (flats q.n (f ∷ b)) (vec q.n v) (record {
    filled = filled v r.has_one;
    short = l;
    terms = terms_sound lim q P eight (length (flat q.n f)) v (canonical_good q.n q.p P q.code (f ∷ b) v r.canonical) (in_module v h);
    descends = canonical_descends q.n q.p P q.code (f ∷ b) Z.grounded v r.inside r.canonical;
  })

  level_sound : (ys : List (Mono q.n)) → Regulars q.n q.p P q.code (f ∷ b) (vectors Z lim ys) → AllOk Z lim ys
      → AllShort (stage Z lim) lim.vector (flat q.n (vectors Z lim ys))
      → T (every (vector_sound? lim q (length (flat q.n f)) lim.vector (flats q.n (f ∷ b))) (flat q.n (vectors Z lim ys)))
  level_sound [] r h l = tt
  level_sound (y ∷ ys) r h l =
      and_both (vector_sound? lim q (length (flat q.n f)) lim.vector (flats q.n (f ∷ b)) (vec q.n (vector Z y)))
      (every (vector_sound? lim q (length (flat q.n f)) lim.vector (flats q.n (f ∷ b))) (flat q.n (vectors Z lim ys)))
      (vector_sound (vector Z y) (r 0 (omega arith)) h.0 l.0) (level_sound ys (λ j i. r (suc j) (omega arith)) h.1 l.1)

  terms_total : (ys : List (Mono q.n)) → terms_of (flat q.n (vectors Z lim ys)) ≡ total Z lim ys
  terms_total [] = refl
  terms_total (y ∷ ys) = let e : length (vec q.n (vector Z y)) ≡ length (vector Z y) = vec_length q.n (vector Z y) in
      omega (arith, terms_total ys)

  vectors_count : (ys : List (Mono q.n)) → length (flat q.n (vectors Z lim ys)) ≡ length ys
  vectors_count [] = refl
  vectors_count (y ∷ ys) = ap suc (vectors_count ys)

  -- ## What lifting leaves

  module _ (o : 1 ≤ lim.vector) (fits : (j : ℕ) → j < length f → Within lim q.n (lm q.n f j))
      (under : T (levels_sound? lim q (flats q.n (f ∷ b)))) where
    few_short : (b : Bool) (ms : List Monomial) (way : Lifting) (N : ℕ)
        → Gives (AllShort (stage Z lim) lim.vector) (if_few b ms >>= λ ms. lift_all (stage Z lim) (lift_one (stage Z lim) way N) ([], 0) [] ms)
    few_short false ms way N = refuses tt
    few_short true ms way N = all_short (stage Z lim) o way N ([], 0) [] ms tt

    pub lift_kept : (way : Lifting) (N : ℕ)
        → Gives (λ g. (g ≡ flat q.n (vectors Z lim (terms Z eight (lim.numbering q.code)))) × T (levels_sound? lim q (g ∷ flats q.n (f ∷ b))))
        (lift_level lim q.p q.code (flats q.n (f ∷ b)) way N)
    lift_kept way N = ends_both (λ g r s. kept g r s) (level_lifted Z lim eight fits way N)
        (few_short (leb (length (frame code (leading_monomials (flat q.n f)))) lim.vectors)
        (frame code (leading_monomials (flat q.n f))) way N)
      where
        code : ℕ
        code = lim.numbering q.code

        xs : List (Mono q.n)
        xs = terms Z eight code

        sound : AllOk Z lim xs → length xs ≤ lim.vectors → total Z lim xs ≤ lim.level_terms
            → AllShort (stage Z lim) lim.vector (flat q.n (vectors Z lim xs))
            → T (levels_sound? lim q (flat q.n (vectors Z lim xs) ∷ flats q.n (f ∷ b)))
        sound ok few short s = level_shown lim q (flat q.n (vectors Z lim xs)) (flat q.n f) (flats q.n b) (record {
          few = omega (arith, vectors_count xs);
          short = omega (arith, terms_total xs);
          vectors = level_sound xs (regular_above lim q P eight f b d code) ok s;
          under = under;
        })

        kept : (g : Monomial.Level) → LiftedRight Z lim eight fits g → AllShort (stage Z lim) lim.vector g
            → (g ≡ flat q.n (vectors Z lim xs)) × T (levels_sound? lim q (g ∷ flats q.n (f ∷ b)))
        kept g r s = (
          r.is,
          subst (λ z. T (levels_sound? lim q (z ∷ flats q.n (f ∷ b)))) (sym r.is)
              (sound r.ok r.few r.short (subst (AllShort (stage Z lim) lim.vector) r.is s)),
        )
