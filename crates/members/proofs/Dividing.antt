-- What a division of A12 that came to its end has, over the elements of a sound basis.
use mathlib.Core.Path.{◌≡◌, refl, sym, ap, ap₂, ◌∙◌, subst}
use mathlib.Core.Logic.{◌⊎◌, inl, inr, ◌↔◌}
use mathlib.Core.Bool.{true}
use mathlib.Core.List.{[], ◌∷◌, ◌++◌}
use Prim.Native.Nat.{ℕ, zero, ◌<◌, ◌≤◌}
use native.Mathlib.Omega.{arith}
use lib.Dec.{T}
use lib.ListN.{length, get_or}
use Rattle.theory.specs.Vec.{ev, Same, scale, All, times, ψ, Lead}
use Rattle.theory.specs.Induced
use Rattle.theory.specs.Reckon.{Lower}
use Rattle.theory.specs.Syzygy.{In, Gröbner}
use Rattle.theory.specs.Canon.{Canonical}
use Rattle.theory.proofs.Vec
use Rattle.theory.proofs.Top.{lead_nonzero, lead_unique, lead_same}
use Rattle.theory.proofs.Canon.{canonical_lead, canonical_is, canon_all}
use Rattle.definitions.specs.Limits.{Limits}
use Rattle.definitions.specs.Lists.{◌and◌, every, empty?}
use Rattle.definitions.specs.Monomial.{Term, Vector}
use Rattle.definitions.specs.Order.{compare_over}
use Rattle.definitions.specs.Reducer.{Answer, lower_order?, heads, answer}
use Rattle.definitions.specs.Vectors.{strictly_descending?, descending}
use Rattle.definitions.specs.Problem.{Parameters}
use Rattle.definitions.specs.State.{term_sound?, vector_sound?}
use Rattle.laws.proofs.Modular.{Prime}
use Rattle.laws.proofs.Tests.{and_left, and_right, and_both}
use Rattle.laws.proofs.Sound.{vector_shown}
use Rattle.demands.specs.Notions.{proper?, put_for, coefficient, Equal, Combination, Divided, GröbnerBasis, Member}
use Rattle.demands.proofs.Results.{Ends, ends_map}
use Rattle.ending.specs.Good.{good?}
use Rattle.ending.proofs.Values.{Good, Fresh, good_shows}
use Rattle.ending.proofs.Adding.{shaped_good}
use Rattle.demands.proofs.Exponents.{out_length}
use Rattle.demands.proofs.Levels.{Mono, TVec, TLevel, mono, mono_injective, term, vec, vec_append, flat, flat_length, Has}
use Rattle.demands.proofs.Setting.{Setting, S, L, F, hs, Answered, hit, miss, answered, answer_rescaled, rescaled}
use Rattle.demands.proofs.Soundness.{tvec, Deep, cons_in, SoundMono, AllSound, VectorRight, vector_right, level_right}
use Rattle.demands.proofs.Sums.{canonical_good, Distinct}
use Rattle.demands.proofs.Sorting.{Form, sorted}
use Rattle.demands.proofs.Canonical.{canonical_descends, terms_sound}
use Rattle.demands.proofs.Notions.{same_equal, put_for_is, equal_same}
use Rattle.demands.proofs.Bases.{Ranged, proper_shown, Proper, proper_says, here, in_ranged, ranged_in, divided_image, gröbner_in}
use Rattle.demands.proofs.Steps.{InValue, InVector, Sum}
use Rattle.definitions.specs.Membership.{Division}
use Rattle.members.specs.Members.{brought?, division_of, quotients_of, Divides}
use Rattle.members.proofs.Divisions.{Limit, Stands, Ended, divide_stands}

module _ (lim : Limits) (q : Parameters) (P : Prime q.p) (eight : q.n ≤ 8) (f : TLevel q.n) (d : Deep q.n q.p P q.code (f ∷ []))
    (sounds : AllSound lim q.n q.p P q.s f) where
  abbrev Z : Setting
  Z = here q P eight f [] d

  abbrev n : ℕ
  n = q.n

  -- ## The vector that is brought

  brought_canonical : (v : Vector) → T (every (term_sound? lim q q.s) v) → T (strictly_descending? (compare_over q.code []) v)
      → Canonical (S Z) (L Z) (tvec n v)
  brought_canonical [] h k = tt
  brought_canonical (t ∷ v) h k =
      ((level_right lim q P eight [] tt q.s (λ x h. tt) (length (t ∷ v)) ((t ∷ v) ∷ [])
      (and_both (vector_sound? lim q q.s (length (t ∷ v)) [] (t ∷ v)) true (vector_shown lim q q.s (length (t ∷ v)) [] (t ∷ v)
      (record { filled = omega arith; short = omega arith; terms = h; descends = k })) tt)).regular 0 (omega arith)).canonical

  canonical_distinct : (v : TVec n) → Canonical (S Z) (L Z) v → Distinct n q.p P v
  canonical_distinct [] k = tt
  canonical_distinct (t ∷ v) k = (
    Vec.all_map (S Z) (λ x. (L Z).Lt x t.1) (λ x. t.1 ≡ x → ⊥) (λ x l e. (L Z).irrefl x (subst (λ y. (L Z).Lt x y) e l)) v k.2,
    canonical_distinct v
        k.3,
  )

  module _ (w : TVec n) (k : Canonical (S Z) (L Z) w) (ws : All (S Z) (SoundMono lim n q.s) w) where
    start_stands : Stands Z lim w [] w []
    start_stands = record {
      quotients = record { good = tt; ok = tt; apart = tt };
      value = record {
        good = canonical_good n q.p P q.code [] w k;
        ok = Vec.all_map (S Z) (SoundMono lim n q.s) (InValue Z lim) (λ x h. (tt, h.1)) w ws;
        apart = canonical_distinct w k;
      };
      whole = Vec.same_sym (S Z) (Vec.same_nil (S Z) w);
      lowers = tt;
      canonical = tt;
      inside = tt;
      under = Vec.all_all (S Z) (λ x. Unit {0}) (λ x. tt) w;
    }

    -- ## What is left

    module _ (e : Division) (x : Ended Z lim w e) where
      abbrev v : TVec n
      v = x.v

      abbrev r : TVec n
      r = x.r

      sums : Sum Z lim (InVector Z lim) v
      sums = x.stands.quotients

      -- the quotients as they are printed
      form : Form n q.p P q.code (f ∷ []) Z.grounded v (descending (compare_over q.code (flat n f ∷ [])) q.p (vec n v))
      form = sorted n q.p P q.code (f ∷ []) Z.grounded v sums.good (Vec.all_map (S Z) (InVector Z lim) (Has n (f ∷ [])) (λ y h. h.0) v sums.ok)

      abbrev u : TVec n
      u = form.form

      quotients_are : quotients_of q (flat n f) e ≡ vec n u
      quotients_are = ap (λ (z : Division). descending (compare_over q.code (flat n f ∷ [])) q.p z.quotients) x.is ∙ form.is

      remainder_is : e.remainder ≡ vec n r
      remainder_is = ap (λ (z : Division). z.remainder) x.is

      has : All (S Z) (Has n (f ∷ [])) u
      has = form.ok (Has n (f ∷ [])) (Vec.all_map (S Z) (InVector Z lim) (Has n (f ∷ [])) (λ y h. h.0) v sums.ok)

      inside : All (S Z) (In (S Z) (L Z) (F Z)) u
      inside = Vec.all_map (S Z) (Has n (f ∷ [])) (In (S Z) (L Z) (F Z)) (λ y h. cons_in n q.p P q.code f y.1 h) u has

      proper : T (proper? q (length (flat n f)) (vec n u))
      proper = proper_shown q eight (length (flat n f)) u (subst (λ c. Ranged q eight c u) (sym (flat_length n f)) (in_ranged q P eight f [] d u inside))

      quotients_sound : T (every (term_sound? lim q (length (flat n f))) (vec n u))
      quotients_sound =
          terms_sound lim q P eight (length (flat n f)) u (canonical_good n q.p P q.code (f ∷ []) u form.canonical)
          (form.ok (SoundMono lim n (length (flat n f))) (Vec.all_map (S Z) (InVector Z lim) (SoundMono lim n (length (flat n f)))
          (λ y h. (subst (λ c. y.1 < c) (sym (flat_length n f)) (cons_in n q.p P q.code f y.1 h.0), h.1)) v sums.ok))

      -- ψ of the quotients, and the remainder
      whole : Same (S Z) w (ψ (S Z) (L Z) (F Z).f u ++ r)
      whole =
          Vec.same_trans (S Z) (Vec.same_sym (S Z) x.stands.whole)
          (Vec.same_append (S Z) {v = ψ (S Z) (L Z) (F Z).f v ++ []} {v' = ψ (S Z) (L Z) (F Z).f u} {w = r} {w' = r}
          (Vec.same_trans (S Z) (Vec.same_sym (S Z) (Vec.same_nil (S Z) (ψ (S Z) (L Z) (F Z).f v)))
          (Vec.same_lin (S Z) (times (S Z) (L Z) (F Z).f) (Vec.same_sym (S Z) form.like))) (Vec.same_refl (S Z)))

      back : Equal q.p (vec n w) (put_for q.p (flat n f) (vec n u) ++ vec n r)
      back m =
          same_equal n q.p P w (ψ (S Z) (L Z) (F Z).f u ++ r) whole m
          ∙ ap (coefficient q.p m) (vec_append n (ψ (S Z) (L Z) (F Z).f u) r ∙ ap (λ z. z ++ vec n r) (sym (put_for_is n q.p P q.code [] f u)))

      back_unsorted : Equal q.p (vec n w) (put_for q.p (flat n f) (vec n v) ++ vec n r)
      back_unsorted m =
          same_equal n q.p P w (ψ (S Z) (L Z) (F Z).f v ++ r) (Vec.same_trans (S Z) (Vec.same_sym (S Z) x.stands.whole)
          (Vec.same_append (S Z) {v = ψ (S Z) (L Z) (F Z).f v ++ []} {v' = ψ (S Z) (L Z) (F Z).f v} {w = r} {w' = r}
          (Vec.same_sym (S Z) (Vec.same_nil (S Z) (ψ (S Z) (L Z) (F Z).f v))) (Vec.same_refl (S Z)))) m
          ∙ ap (coefficient q.p m) (vec_append n (ψ (S Z) (L Z) (F Z).f v) r ∙ ap (λ z. z ++ vec n r) (sym (put_for_is n q.p P q.code [] f v)))

      -- the remainder is the vector less the combination
      abbrev turned : ℕ
      turned = (S Z).neg 1

      rest_is : Same (S Z) r (scale (S Z) turned (ψ (S Z) (L Z) (F Z).f u) ++ w)
      rest_is = record {
        at = λ φ.
            let a = ev (S Z) φ (ψ (S Z) (L Z) (F Z).f u) in
            let b = ev (S Z) φ r in
            sym (Vec.ev_append (S Z) φ (scale (S Z) turned (ψ (S Z) (L Z) (F Z).f u)) w
            ∙ ap₂ (S Z).add (Vec.ev_scale (S Z) φ turned (ψ (S Z) (L Z) (F Z).f u)) (whole.at φ ∙ Vec.ev_append (S Z) φ (ψ (S Z) (L Z) (F Z).f u) r)
            ∙ sym ((S Z).add_assoc ((S Z).mul turned a) a b)
            ∙ ap (λ z. (S Z).add z b) (ap ((S Z).add ((S Z).mul turned a)) (sym (Vec.one_ev (S Z) φ (ψ (S Z) (L Z) (F Z).f u))) ∙ (S Z).neg_add 1 a)
            ∙ Vec.ev_red (S Z) φ r);
      }

      -- its components are those of the vector and of the elements
      components : All (S Z) (λ (y : Mono n). y.1 < q.s) r
      components =
          subst (All (S Z) X) (sym (canonical_is (S Z) (L Z) r (scale (S Z) turned (ψ (S Z) (L Z) (F Z).f u) ++ w) x.stands.canonical rest_is))
          (canon_all (S Z) (L Z) X (scale (S Z) turned (ψ (S Z) (L Z) (F Z).f u) ++ w)
          (Vec.all_append (S Z) X (scale (S Z) turned (ψ (S Z) (L Z) (F Z).f u)) w
          (Vec.all_scale (S Z) X turned (ψ (S Z) (L Z) (F Z).f u) (Vec.all_lin (S Z) (In (S Z) (L Z) (F Z)) X (times (S Z) (L Z) (F Z).f)
          (λ y i. Vec.all_mapB (S Z) (SoundMono lim n q.s) X ((L Z).act y.0) (λ z k. k.0) (get_or f y.1 []) (sounds y.1 i)) u inside))
          (Vec.all_map (S Z) (SoundMono lim n q.s) X (λ y k. k.0) w ws)))
        where
          X : Mono n → Type 0
          X y = y.1 < q.s

      both : (r : TVec n) → All (S Z) (λ (y : Mono n). y.1 < q.s) r → All (S Z) (InValue Z lim) r → All (S Z) (SoundMono lim n q.s) r
      both [] a b = tt
      both (t ∷ r) a b = ((a.0, b.0.1), both r a.1 b.1)

      rest_sound : T (every (term_sound? lim q q.s) (vec n r))
      rest_sound = terms_sound lim q P eight q.s r (canonical_good n q.p P q.code [] r x.stands.canonical) (both r components x.stands.inside)

      -- ## No remainder term has a reducer

      lower_at : (c : ℕ) (y : Mono n) → Lower (S Z) (L Z) (F Z) y → T (lower_order? (answer q.p (hs Z) (c, mono n y)))
      lower_at c y o = subst (λ a. T (lower_order? a)) (sym (answer_rescaled q.p c 1 (hs Z) (mono n y))) (go (answered Z y))
        where
          go : {a : Answer} → Answered Z y a → T (lower_order? (rescaled q.p c a))
          go (hit a) = absurd (o a.at a.dom a.hits)
          go (miss l) = tt

      all_lower : (r : TVec n) → All (S Z) (Lower (S Z) (L Z) (F Z)) r → T (every (λ t. lower_order? (answer q.p (hs Z) t)) (vec n r))
      all_lower [] h = tt
      all_lower (t ∷ r) h =
          and_both (lower_order? (answer q.p (hs Z) (term n t))) (every (λ t. lower_order? (answer q.p (hs Z) t)) (vec n r))
          (lower_at t.0 t.1 h.0) (all_lower r h.1)

      none_divided : (r : TVec n) → All (S Z) (Lower (S Z) (L Z) (F Z)) r → (t : Term) → Member t (vec n r) → ¬ (Divided (flat n f) t.1)
      none_divided [] h t m = absurd m
      none_divided (y ∷ r) h t (inl e) = λ k. let (z, j, i) = divided_image q P eight f [] d y.1 (subst (λ (t : Term). Divided (flat n f) t.1) e k) in
          h.0 z j i
      none_divided (y ∷ r) h t (inr m) = none_divided r h.1 t m

      -- ## The remainder is zero exactly for a combination

      nothing_left : T (empty? (vec n r)) → r ≡ []
      nothing_left = go r
        where
          go : (r : TVec n) → T (empty? (vec n r)) → r ≡ []
          go [] t = refl
          go (y ∷ r) t = absurd t

      member : T (empty? (vec n r)) → Combination q (flat n f) (vec n w)
      member t = record {
        by = vec n u;
        proper = proper;
        is = λ m. same_equal n q.p P w (ψ (S Z) (L Z) (F Z).f u)
            (Vec.same_trans (S Z) (subst (λ z. Same (S Z) w (ψ (S Z) (L Z) (F Z).f u ++ z)) (nothing_left t) whole)
            (Vec.same_sym (S Z) (Vec.same_nil (S Z) (ψ (S Z) (L Z) (F Z).f u)))) m ∙ ap (coefficient q.p m) (sym (put_for_is n q.p P q.code [] f u));
      }

      -- a remainder that is a combination is zero
      zero_left : Gröbner (S Z) (L Z) (F Z) → (y : TVec n) → All (S Z) (In (S Z) (L Z) (F Z)) y → (r : TVec n) → Canonical (S Z) (L Z) r
          → All (S Z) (Lower (S Z) (L Z) (F Z)) r → Same (S Z) r (ψ (S Z) (L Z) (F Z).f y) → T (empty? (vec n r))
      zero_left gb y i [] c l s = tt
      zero_left gb y i (t ∷ r) c l s = go (gb y i)
        where
          lead : Lead (S Z) (L Z) (t ∷ r) t.1
          lead = canonical_lead (S Z) (L Z) t r c

          go : Same (S Z) (ψ (S Z) (L Z) (F Z).f y) [] ⊎ ((z : Mono n) × In (S Z) (L Z) (F Z) z × Lead (S Z) (L Z) (ψ (S Z) (L Z) (F Z).f y)
              (Induced.image (L Z) (F Z).lm z))
              → T (empty? (vec n (t ∷ r)))
          go (inl z) = absurd (lead_nonzero (S Z) (L Z) lead (Vec.same_trans (S Z) s z))
          go (inr (z, j, k)) = absurd (l.0 z j (lead_unique (S Z) (L Z) (lead_same (S Z) (L Z) s k) lead))

      not_left : GröbnerBasis q [] (flat n f) → Combination q (flat n f) (vec n w) → T (empty? (vec n r))
      not_left gb c = zero_left (gröbner_in q P eight f [] d gb) (scale (S Z) turned u ++ y)
          (Vec.all_append (S Z) (In (S Z) (L Z) (F Z)) (scale (S Z) turned u) y (Vec.all_scale (S Z) (In (S Z) (L Z) (F Z)) turned u inside) i)
          r x.stands.canonical x.stands.lowers
          (Vec.same_trans (S Z) rest_is (Vec.same_trans (S Z)
          (Vec.same_append (S Z) (Vec.same_refl (S Z) {v = scale (S Z) turned (ψ (S Z) (L Z) (F Z).f u)}) s)
          (Vec.same_sym (S Z) (Vec.lin_linear (S Z) (times (S Z) (L Z) (F Z).f) turned u y))))
        where
          pr : Proper q eight (length (flat n f)) c.by
          pr = proper_says q eight (length (flat n f)) c.by c.proper

          y : TVec n
          y = tvec n c.by

          i : All (S Z) (In (S Z) (L Z) (F Z)) y
          i = ranged_in q P eight f [] d y (subst (λ z. Ranged q eight z y) (flat_length n f) pr.ranged)

          s : Same (S Z) w (ψ (S Z) (L Z) (F Z).f y)
          s = equal_same n q.p P q.code [] w (ψ (S Z) (L Z) (F Z).f y) (λ m. c.is m
              ∙ ap (coefficient q.p m) (ap (put_for q.p (flat n f)) (sym pr.back) ∙ put_for_is n q.p P q.code [] f y))

      -- ## All of it

      divides : Divides lim q (flat n f) (vec n w) e
      divides = record {
        over = ap (λ (z : Division). z.value) x.is;
        back = subst₂' (λ a b. Equal q.p (vec n w) (put_for q.p (flat n f) a ++ b)) back;
        back_unsorted = subst (λ (z : Division). Equal q.p (vec n w) (put_for q.p (flat n f) z.quotients ++ z.remainder)) (sym x.is) back_unsorted;
        proper = at_quotients (λ a. T (proper? q (length (flat n f)) a)) proper;
        sound = at_quotients (λ a. T (every (term_sound? lim q (length (flat n f))) a)) quotients_sound;
        descends = at_quotients (λ a. T (strictly_descending? (compare_over q.code (flat n f ∷ [])) a))
            (canonical_descends n q.p P q.code (f ∷ []) Z.grounded u has form.canonical);
        undivided = at_remainder (λ b. (t : Term) → Member t b → ¬ (Divided (flat n f) t.1)) (none_divided r x.stands.lowers);
        lower = at_remainder (λ b. T (every (λ t. lower_order? (answer q.p (heads q.p (flat n f)) t)) b)) (all_lower r x.stands.lowers);
        rest_sound = at_remainder (λ b. T (every (term_sound? lim q q.s) b)) rest_sound;
        rest_descends = at_remainder (λ b. T (strictly_descending? (compare_over q.code []) b))
            (canonical_descends n q.p P q.code [] tt r (Vec.all_all (S Z) (Has n []) (λ y. tt) r) x.stands.canonical);
        exactly = at_remainder (λ b. GröbnerBasis q [] (flat n f) → (T (empty? b) ↔ Combination q (flat n f) (vec n w))) (λ gb. (member, not_left gb));
        member = at_remainder (λ b. T (empty? b) → Combination q (flat n f) (vec n w)) member;
      }
        where
          at_quotients : (X : Vector → Type 0) → X (vec n u) → X (quotients_of q (flat n f) e)
          at_quotients X h = subst X (sym quotients_are) h

          at_remainder : (X : Vector → Type 0) → X (vec n r) → X e.remainder
          at_remainder X h = subst X (sym remainder_is) h

          subst₂' : (X : Vector → Vector → Type 0) → X (vec n u) (vec n r) → X (quotients_of q (flat n f) e) e.remainder
          subst₂' X h = subst (λ a. X a e.remainder) (sym quotients_are) (subst (X (vec n u)) (sym remainder_is) h)

    pub divided_ends : (N : ℕ) → Ends (Divides lim q (flat q.n f) (vec q.n w)) Limit (division_of lim q (flat q.n f) (vec q.n w) N)
    divided_ends N = ends_map divides (divide_stands Z lim N w [] w [] start_stands)

  -- a vector of the definitions
  pub brought_ends : (v : Vector) → T (brought? lim q v) → (N : ℕ) → Ends (Divides lim q (flat q.n f) v) Limit (division_of lim q (flat q.n f) v N)
  brought_ends v h N =
      subst (λ z. Ends (Divides lim q (flat n f) z) Limit (division_of lim q (flat n f) z N)) t.back
      (divided_ends (tvec n v) (brought_canonical v terms
      (and_right (every (term_sound? lim q q.s) v) (strictly_descending? (compare_over q.code []) v) h)) t.fits N)
    where
      terms : T (every (term_sound? lim q q.s) v)
      terms = and_left (every (term_sound? lim q q.s) v) (strictly_descending? (compare_over q.code []) v) h

      t : VectorRight lim q P eight [] tt q.s (λ x h. tt) v
      t = vector_right lim q P eight [] tt q.s (λ x h. tt) v terms

  -- ## A vector that is brought is a good value

  good_vec : lim.exponent ≤ 255 → (w : TVec n) → Distinct n q.p P w → All (S Z) (SoundMono lim n q.s) w → Good (vec n w)
  good_vec small [] a h = tt
  good_vec small (t ∷ w) a h = (
    shaped_good lim.exponent small (mono n t.1) (record { long = out_length n eight t.1.0; component = omega arith }) h.0.1,
    fresh w a.0,
    good_vec small w a.1 h.1,
  )
    where
      fresh : (w : TVec n) → All (S Z) (λ (y : Mono n). t.1 ≡ y → ⊥) w → Fresh (mono n t.1) (vec n w)
      fresh [] k = tt
      fresh (u ∷ w) k = ((λ e. k.0 (mono_injective n t.1 u.1 e)), fresh w k.1)

  pub brought_good : lim.exponent ≤ 255 → (v : Vector) → T (brought? lim q v) → T (good? v)
  brought_good small v h =
      subst (λ z. T (good? z)) t.back (good_shows (vec n (tvec n v)) (good_vec small (tvec n v) (canonical_distinct (tvec n v)
      (brought_canonical v terms (and_right (every (term_sound? lim q q.s) v) (strictly_descending? (compare_over q.code []) v) h))) t.fits))
    where
      terms : T (every (term_sound? lim q q.s) v)
      terms = and_left (every (term_sound? lim q q.s) v) (strictly_descending? (compare_over q.code []) v) h

      t : VectorRight lim q P eight [] tt q.s (λ x h. tt) v
      t = vector_right lim q P eight [] tt q.s (λ x h. tt) v terms
