-- Descending sums: `insert` and `descending` give the theory's canonical form.
use mathlib.Core.Path.{◌≡◌, refl, sym, ap, ◌∙◌}
use mathlib.Core.Logic.{◌≢◌}
use mathlib.Core.Bool.{Bool, true, false, not}
use mathlib.Core.List.{List, [], ◌∷◌, ◌++◌}
use Prim.Native.Nat.{ℕ}
use lib.Dec.{T, eqb, eqb→eq}
use Rattle.theory.specs.Laws.{Scalars, Level}
use Rattle.theory.specs.Vec.{ev, Same, All}
use Rattle.theory.specs.Orders.{ExpM}
use Rattle.theory.specs.Modular.{ModP}
use Rattle.theory.specs.Canon.{Canonical, canon}
use Rattle.theory.proofs.Vec
use Rattle.theory.proofs.Canon.{canonical_is, all_lower}
use Rattle.definitions.specs.Field.{plus, times}
use Rattle.definitions.specs.Monomial.{Monomial, Vector}
use Rattle.definitions.specs.Order.{Comparison, greater, equal, smaller, compare_over}
use Rattle.definitions.specs.Vectors.{unless_zero, insert, inserted, descending}
use Rattle.laws.proofs.Modular.{Prime}
use Rattle.demands.proofs.Comparisons.{Says, less, level, more}
use Rattle.demands.proofs.Levels.{Mono, TVec, TLevel, mono, term, vec, flats, module_over, Has, Grounded, over_says}
use Rattle.demands.proofs.Coefficients.{Good, good_plus}
use Rattle.demands.proofs.Sums.{Goods, nonzero_test}

module _ (n p : ℕ) (P : Prime p) (code : ℕ) (b : List (TLevel n)) (G : Grounded n b) where
  abbrev S : Scalars
  S = ModP p P

  abbrev L : Level (ExpM n)
  L = module_over n code b

  abbrev by_order : Monomial → Monomial → Comparison
  by_order = compare_over code (flats n b)

  -- w is the canonical form of v, written in the definitions
  pub record Form (v : TVec n) (w : Vector) : Type 1 where
    pub form : TVec n
    pub is : w ≡ vec n form
    pub canonical : Canonical S L form
    pub like : Same S form v
    pub ok : (Q : Mono n → Type 0) → All S Q v → All S Q form

  pub form_is : {v : TVec n} {w : Vector} (v' : TVec n) → Same S v v' → Form v w → w ≡ vec n (canon S L v')
  form_is v' e f = f.is ∙ ap (vec n) (canonical_is S L f.form v' f.canonical (Vec.same_trans S f.like e))

  -- ## A term inserted

  inserted_tie : (t u : ℕ × Mono n) (v : TVec n) → t.1 ≡ u.1 → Canonical S L (u ∷ v)
      → Form (t ∷ u ∷ v) (unless_zero (plus p t.0 u.0, mono n u.1) (vec n v))
  inserted_tie t u v e k = go (eqb sum 0) (eqb→eq sum 0) (nonzero_test sum)
    where
      sum : ℕ
      sum = plus p t.0 u.0

      both : Same S ((sum, u.1) ∷ v) (t ∷ u ∷ v)
      both = record {
        at = λ φ. sym (ap (λ z. plus p (times p t.0 (φ z)) (ev S φ (u ∷ v))) e ∙ Vec.merge S t.0 u.0 (φ u.1) (ev S φ v));
      }

      go : (s : Bool) → (T s → sum ≡ 0) → (T (not s) → sum ≢ 0) → Form (t ∷ u ∷ v) (elim s [ true ↦ vec n v | false ↦ (sum, mono n u.1) ∷ vec n v ])
      go true h i = record {
        form = v;
        is = refl;
        canonical = k.3;
        like = Vec.same_sym S (Vec.same_drop S sum u.1 v (ap (times p 1) (h tt) ∙ S.mul_zero 1) (Vec.same_sym S both));
        ok = λ Q q. q.1.1;
      }
      go false h i = record {
        form = (sum, u.1) ∷ v;
        is = refl;
        canonical = ((good_plus p P t.0 u.0 (i tt)).0, (good_plus p P t.0 u.0 (i tt)).1, k.2, k.3);
        like = both;
        ok = λ Q q. q.1;
      }

  pub term_inserted : (t : ℕ × Mono n) (v : TVec n) → Good p t.0 → Has n b t.1 → All S (Has n b) v → Canonical S L v
      → Form (t ∷ v) (insert by_order p (term n t) (vec n v))
  term_inserted t [] g h hs k = record { form = t ∷ []; is = refl; canonical = (g.0, g.1, tt, tt); like = Vec.same_refl S; ok = λ Q q. q }
  term_inserted t (u ∷ v) g h hs k = go (over_says n code b G t.1 u.1 h hs.0) (term_inserted t v g h hs.1 k.3)
    where
      go : {c : Comparison} → Says (L.Lt t.1 u.1) (t.1 ≡ u.1) (L.Lt u.1 t.1) c → Form (t ∷ v) (insert by_order p (term n t) (vec n v))
          → Form (t ∷ u ∷ v) (elim c [
            | greater ↦ term n t ∷ term n u ∷ vec n v
            | equal ↦ unless_zero (plus p t.0 u.0, mono n u.1) (vec n v)
            | smaller ↦ term n u ∷ insert by_order p (term n t) (vec n v)
          ])
      go (more s) f = record {
        form = t ∷ u ∷ v;
        is = refl;
        canonical = (g.0, g.1, (s, all_lower S L u.1 t.1 s v k.2), k);
        like = Vec.same_refl S;
        ok = λ Q q. q;
      }
      go (level s) f = inserted_tie t u v s k
      go (less s) f = record {
        form = u ∷ f.form;
        is = ap (λ z. term n u ∷ z) f.is;
        canonical = (k.0, k.1, f.ok (λ x. L.Lt x u.1) (s, k.2), f.canonical);
        like = Vec.same_trans S (Vec.same_cons S u f.like) (Vec.same_swap S u t v);
        ok = λ Q q. (q.1.0, f.ok Q (q.0, q.1.1));
      }

  -- ## A vector sorted

  pub all_inserted : (u : TVec n) (w : Vector) → Form u w → All S (Has n b) u → (v : TVec n) → Goods n p P v → All S (Has n b) v
      → Form (v ++ u) (inserted by_order p w (vec n v))
  all_inserted u w f hu [] g h = f
  all_inserted u w f hu (t ∷ v) g h = turn (all_inserted (t ∷ u) (insert by_order p (term n t) w) next (h.0, hu) v g.1 h.1)
    where
      next : Form (t ∷ u) (insert by_order p (term n t) w)
      next =
          let i : Form (t ∷ f.form) (insert by_order p (term n t) (vec n f.form)) =
          term_inserted t f.form g.0 h.0 (f.ok (Has n b) hu) f.canonical in
          record {
            form = i.form;
            is = ap (insert by_order p (term n t)) f.is ∙ i.is;
            canonical = i.canonical;
            like = Vec.same_trans S i.like (Vec.same_cons S t f.like);
            ok = λ Q q. i.ok Q (q.0, f.ok Q q.1);
          }

      turn : {x : Vector} → Form (v ++ t ∷ u) x → Form (t ∷ (v ++ u)) x
      turn i = record {
        form = i.form;
        is = i.is;
        canonical = i.canonical;
        like = Vec.same_trans S i.like (Vec.same_sym S (Vec.same_middle S t v u));
        ok = λ Q q. i.ok Q (Vec.all_middle S Q t v u q);
      }

  pub sorted : (v : TVec n) → Goods n p P v → All S (Has n b) v → Form v (descending by_order p (vec n v))
  sorted v g h =
      let i : Form (v ++ []) (descending by_order p (vec n v)) = all_inserted [] [] none tt v g h in
      record {
        form = i.form;
        is = i.is;
        canonical = i.canonical;
        like = Vec.same_trans S i.like (Vec.same_sym S (Vec.same_nil S v));
        ok = λ Q q. i.ok Q (Vec.all_nil S Q v q);
      }
    where
      none : Form [] []
      none = record { form = []; is = refl; canonical = tt; like = Vec.same_refl S; ok = λ Q q. q }

  -- the definitions' descending form is the theory's canonical form of any equal vector
  pub sorted_is : (v w : TVec n) → Goods n p P v → All S (Has n b) v → Same S v w → descending by_order p (vec n v) ≡ vec n (canon S L w)
  sorted_is v w g h e = form_is w e (sorted v g h)
