-- Acceptance decides exactly whether the elements are a Gröbner basis; what 9 leaves shows why not.
use mathlib.Core.Path.{◌≡◌, refl, sym, ap, ◌∙◌, subst}
use mathlib.Core.Bool.{Bool, true, false}
use mathlib.Core.List.{List, [], ◌∷◌}
use Prim.Native.Nat.{ℕ, zero, suc, ◌+◌, ◌<◌, ◌≤◌}
use native.Mathlib.Omega.{arith}
use lib.Dec.{T, leb, eqb, eqb→eq}
use lib.ListN.{length, get_or}
use Rattle.theory.specs.Vec.{Same, All, times, ψ, Lead}
use Rattle.theory.specs.Orders.{ExpM}
use Rattle.theory.specs.Syzygy.{In, Gröbner}
use Rattle.theory.specs.Canon.{Canonical}
use Rattle.theory.specs.Stage.{term_at}
use Rattle.theory.proofs.Vec
use Rattle.theory.proofs.Top.{lead_nonzero, lead_unique, lead_same}
use Rattle.theory.proofs.Canon.{canonical_lead, canonical_is, canon_all}
use Rattle.theory.proofs.Accept
use Rattle.theory.proofs.Accept.{Divides, left_combination}
use Rattle.definitions.specs.Limits.{Limits}
use Rattle.definitions.specs.Lists.{between}
use Rattle.definitions.specs.Monomial.{Vector, leading, leading_monomials}
use Rattle.definitions.specs.Order.{compare_over}
use Rattle.definitions.specs.Vectors.{descending}
use Rattle.definitions.specs.Frame.{frame}
use Rattle.definitions.specs.Result.{Result, done, refused, unfinished, ◌>>=◌}
use Rattle.definitions.specs.Run.{Strategy, run, accepting_strategy}
use Rattle.definitions.specs.Lifting.{if_few, accepting_place, at_frame_term, accept_from, accept}
use Rattle.definitions.specs.Problem.{Parameters}
use Rattle.laws.proofs.Modular.{Prime}
use Rattle.laws.proofs.Tests.{between_low, between_shown}
use Rattle.demands.specs.Notions.{coefficient, Leads, Divided}
use Rattle.demands.specs.Exact.{ShowsWhy}
use Rattle.demands.proofs.Results.{Ends, gives, refuses, open_yet, ends_turn, ends_refusals, Refusal, limit, nine, refusal_map}
use Rattle.demands.proofs.Levels.{Mono, TVec, TLevel, mono, monos, monos_length, vec, flat, flat_length, lm, Has}
use Rattle.demands.proofs.Setting.{Setting, S, L, F, red}
use Rattle.demands.proofs.Soundness.{Deep, Within, SoundMono, AllSound, leading_within}
use Rattle.demands.proofs.Sums.{canonical_good}
use Rattle.demands.proofs.Canonical.{canonical_descends, terms_sound}
use Rattle.demands.proofs.Short.{run_short}
use Rattle.demands.proofs.Sorting.{Form, sorted}
use Rattle.demands.proofs.Steps.{stage, Fits, InValue, Exact}
use Rattle.demands.proofs.Runs.{Halted, run_ends}
use Rattle.demands.proofs.Picking.{accepting_picks, greatest_leads}
use Rattle.demands.proofs.Notions.{same_equal, put_for_is, lead_leads}
use Rattle.demands.proofs.Bases.{Ranged, proper_shown, here, in_ranged, divided_image}
use Rattle.demands.proofs.Ways.{copies, run_as, copies_in, GoodTerms}
use Rattle.demands.proofs.Stages.{frame_terms, terms, terms_back, theory_stage}
use Rattle.demands.proofs.Lifted.{terms_good}

-- ## Acceptance of a basis

module _ (lim : Limits) (q : Parameters) (P : Prime q.p) (eight : q.n ≤ 8) (f : TLevel q.n) (d : Deep q.n q.p P q.code (f ∷ []))
    (o : 1 ≤ lim.vector) (w : AllSound lim q.n q.p P q.s f) where
  abbrev Z : Setting
  Z = here q P eight f [] d

  fits : (j : ℕ) → j < length f → Within lim q.n (lm q.n f j)
  fits = leading_within lim q.n q.p P q.s f Z.somes w

  abbrev W : Strategy
  W = accepting_strategy (stage Z lim)

  abbrev from : Mono q.n → TVec q.n
  from x = (1, x) ∷ []

  abbrev I : Strategy → Type 0
  I U = U ≡ W

  exactly : (U : Strategy) → I U → Unit {0} → Exact Z lim U
  exactly U i u = subst (Exact Z lim) (sym i) (refl, refl)

  -- what is left where division stops shows why f is no Gröbner basis
  module _ (x : Mono q.n) (l : x.1 < length f) (value : Vector) (h : Halted Z lim I (Unit {0}) exactly (from x)
      (times (S Z) (L Z) (F Z).f x) value) where
    has : All (S Z) (Has q.n []) h.left
    has = Vec.all_map (S Z) (InValue Z lim) (Has q.n []) (λ y k. k.0) h.left h.sum.ok

    form : Form q.n q.p P q.code [] tt h.left (descending (stage Z lim).below q.p (vec q.n h.left))
    form = sorted q.n q.p P q.code [] tt h.left h.sum.good has

    lead_left : Lead (S Z) (L Z) h.left h.stuck.x
    lead_left = greatest_leads Z lim h.left h.sum h.stuck.i (ap (λ (U : Strategy). U.pick (vec q.n h.left)) (sym h.known)
        ∙ h.stuck.picks) h.stuck.is.0 h.stuck.x h.stuck.is.1

    combination : (u : TVec q.n) × All (S Z) (In (S Z) (L Z) (F Z)) u × Same (S Z) h.left (ψ (S Z) (L Z) (F Z).f u)
    combination = left_combination (S Z) (L Z) (F Z) (red Z) x l h.end h.left (record { run = h.run; whole = h.whole tt })

    -- the value as it is shown
    value_is : value ≡ vec q.n form.form
    value_is = h.stuck.shown ∙ form.is

    lead_form : Lead (S Z) (L Z) form.form h.stuck.x
    lead_form = lead_same (S Z) (L Z) form.like lead_left

    head_is : (v : TVec q.n) → Canonical (S Z) (L Z) v → Lead (S Z) (L Z) v h.stuck.x → leading (vec q.n v) ≡ mono q.n h.stuck.x
    head_is [] k lv = absurd (lead_nonzero (S Z) (L Z) lv (Vec.same_refl (S Z)))
    head_is (t ∷ v) k lv = ap (mono q.n) (lead_unique (S Z) (L Z) (canonical_lead (S Z) (L Z) t v k) lv)

    -- its components are those of the elements
    components : All (S Z) (λ (y : Mono q.n). y.1 < q.s) form.form
    components =
        subst (All (S Z) X) (sym (canonical_is (S Z) (L Z) form.form (ψ (S Z) (L Z) (F Z).f combination.0) form.canonical
        (Vec.same_trans (S Z) form.like combination.2)))
        (canon_all (S Z) (L Z) X (ψ (S Z) (L Z) (F Z).f combination.0) (Vec.all_lin (S Z) (In (S Z) (L Z) (F Z)) X (times (S Z) (L Z) (F Z).f)
        (λ y i. Vec.all_mapB (S Z) (SoundMono lim q.n q.s) X ((L Z).act y.0) (λ z k. k.0) (get_or f y.1 []) (w y.1 i)) combination.0
        combination.1))
      where
        X : Mono q.n → Type 0
        X y = y.1 < q.s

    shows_form : length (vec q.n form.form) ≤ lim.working → ShowsWhy lim q (flat q.n f) (vec q.n form.form)
    shows_form short = record {
      sound = terms_sound lim q P eight q.s form.form (canonical_good q.n q.p P q.code [] form.form form.canonical)
          (both form.form components (form.ok (Within lim q.n) (Vec.all_map (S Z) (InValue Z lim) (Within lim q.n) (λ y k. k.1) h.left
          h.sum.ok)));
      short = short;
      combination = record {
        by = vec q.n combination.0;
        proper =
            proper_shown q eight (length (flat q.n f)) u (subst (λ r. Ranged q eight r u) (sym (flat_length q.n f))
            (in_ranged q P eight f [] d u combination.1));
        is = λ m. same_equal q.n q.p P form.form (ψ (S Z) (L Z) (F Z).f u) (Vec.same_trans (S Z) form.like combination.2) m
            ∙ ap (coefficient q.p m) (sym (put_for_is q.n q.p P q.code [] f u));
      };
      not_zero = λ z. leads.there (z (leading (vec q.n form.form)));
      descends = canonical_descends q.n q.p P q.code [] tt form.form (form.ok (Has q.n []) has) form.canonical;
      leads = leads;
      undivided = λ k.
          let (y, j, e) = divided_image q P eight f [] d h.stuck.x (subst (Divided (flat q.n f)) head k) in
          h.stuck.lower y j e;
    }
      where
        u : TVec q.n
        u = combination.0

        both : (v : TVec q.n) → All (S Z) (λ (y : Mono q.n). y.1 < q.s) v → All (S Z) (Within lim q.n) v
            → All (S Z) (SoundMono lim q.n q.s) v
        both [] a b = tt
        both (t ∷ v) a b = ((a.0, b.0), both v a.1 b.1)

        head : leading (vec q.n form.form) ≡ mono q.n h.stuck.x
        head = head_is form.form form.canonical lead_form

        leads : Leads (compare_over q.code []) q.p (leading (vec q.n form.form)) (vec q.n form.form)
        leads = subst (λ m. Leads (compare_over q.code []) q.p m (vec q.n form.form)) (sym head)
            (lead_leads q.n q.p P q.code [] tt form.form (form.ok (Has q.n []) has) h.stuck.x tt lead_form)

    shows : length value ≤ lim.working → ShowsWhy lim q (flat q.n f) value
    shows = subst (λ z. length z ≤ lim.working → ShowsWhy lim q (flat q.n f) z) (sym value_is) shows_form

  -- ## One frame term

  abbrev ZeroAt : Mono q.n → Type 0
  ZeroAt x = (w : TVec q.n) × Divides (S Z) (L Z) (F Z) (red Z) x w []

  abbrev Shown : Vector → Type 0
  Shown value = ShowsWhy lim q (flat q.n f) value

  -- what is left is shown, as a working value is short
  shown : (number : ℕ) (value : Vector) → Refusal (λ value. length value ≤ lim.working → Shown value) number value → length value ≤ lim.working
      → Refusal Shown number value
  shown number value (limit t) l = limit t
  shown number value (nine s) l = nine (s l)

  term_accepted : (N : ℕ) (x : Mono q.n) → x.1 < length f → Fits Z lim x
      → Ends (λ v. ZeroAt x) (Refusal Shown) (run (stage Z lim) W N (mono q.n x))
  term_accepted N x l fx = ends_refusals shown
      (subst (Ends (λ v. ZeroAt x) (Refusal (λ value. length value ≤ lim.working → Shown value))) (sym (run_as (stage Z lim) W N (mono q.n x)))
      (ends_turn (λ v h. (h.end, record { run = h.run; whole = h.whole tt })) (refusal_map (shows x l))
      (run_ends Z lim I (Unit {0}) exactly W (λ u. refl) (copies N W) (copies_in Z lim I (Unit {0}) exactly W (accepting_picks (stage Z lim)) refl N) x
      l fx)))
      (run_short (stage Z lim) o W N (mono q.n x))

  -- ## All frame terms

  abbrev AllZero : List (Mono q.n) → Type 0
  AllZero [] = Unit {0}
  AllZero (x ∷ xs) = ZeroAt x × AllZero xs

  -- from number i on
  data Accepts (i : ℕ) (xs : List (Mono q.n)) : Result (Unit {0}) → Type 0 where
    all_zero : AllZero xs → Accepts i xs (done tt)
    met : {number : ℕ} → T (between 13 number 15) → Accepts i xs (refused number 0 [])
    not_zero : (place : ℕ) {value : Vector} → i ≤ place → place < i + length xs → ShowsWhy lim q (flat q.n f) value
        → Accepts i xs (refused 9 place value)
    more_steps : Accepts i xs unfinished

  place_of : (i number : ℕ) → T (between 13 number 15) → accepting_place i number ≡ 0
  place_of i number t = go (eqb number 9) (eqb→eq number 9)
    where
      go : (b : Bool) → (T b → number ≡ 9) → ◌≡◌ {A = ℕ} (elim b [ true ↦ i | false ↦ 0 ]) 0
      go true e = let l : 13 ≤ number = between_low 13 number 15 t in let k : number ≡ 9 = e tt in absurd (omega arith)
      go false e = refl

  terms_accepted : (N i : ℕ) (xs : List (Mono q.n)) → GoodTerms Z lim xs → Accepts i xs (accept_from (stage Z lim) N i (monos q.n xs))
  terms_accepted N i [] g = all_zero tt
  terms_accepted N i (x ∷ xs) g = go (term_accepted N x g.0 g.1) (terms_accepted N (suc i) xs g.2)
    where
      next : ZeroAt x → {r : Result (Unit {0})} → Accepts (suc i) xs r → Accepts i (x ∷ xs) r
      next z (all_zero h) = all_zero (z, h)
      next z (met t) = met t
      next z (not_zero place a b s) = not_zero place (omega arith) (omega arith) s
      next z more_steps = more_steps

      go : {r : Result Vector} → Ends (λ v. ZeroAt x) (Refusal (ShowsWhy lim q (flat q.n f))) r
          → Accepts (suc i) xs (accept_from (stage Z lim) N (suc i) (monos q.n xs))
          → Accepts i (x ∷ xs) (at_frame_term i r >>= λ v. accept_from (stage Z lim) N (suc i) (monos q.n xs))
      go (gives z) h = next z h
      go (refuses (limit {number} t)) h = subst (λ place. Accepts i (x ∷ xs) (refused number place [])) (sym (place_of i number t)) (met t)
      go (refuses (nine s)) h = not_zero i (omega arith) (omega arith) s
      go open_yet h = more_steps

  -- ## The basis

  abbrev code : ℕ
  code = lim.numbering q.code

  abbrev xs : List (Mono q.n)
  xs = terms Z eight code

  zero_at : (ys : List (Mono q.n)) → AllZero ys → (k : ℕ) → k < length ys → ZeroAt (term_at (ExpM q.n) ys k)
  zero_at [] z k l = absurd (omega arith)
  zero_at (y ∷ ys) z zero l = z.0
  zero_at (y ∷ ys) z (suc k) l = zero_at ys z.1 k (omega arith)

  -- what accepting gives: a Gröbner basis, a limit met, or 9 at a frame term's number
  pub data AcceptedRight : Result (Unit {0}) → Type 0 where
    is_basis : Gröbner (S Z) (L Z) (F Z) → AcceptedRight (done tt)
    limit_met : {number : ℕ} → T (between 13 number 15) → AcceptedRight (refused number 0 [])
    shown_why : {place : ℕ} {value : Vector} → T (between 1 place (length (frame (lim.numbering q.code) (leading_monomials (flat q.n f)))))
        → ShowsWhy lim q (flat q.n f) value → AcceptedRight (refused 9 place value)
    steps_left : AcceptedRight unfinished

  accepted_from : (N : ℕ) → AcceptedRight (accept_from (stage Z lim) N 1 (frame_terms Z eight code))
  accepted_from N = subst (λ ms. AcceptedRight (accept_from (stage Z lim) N 1 ms)) (terms_back Z eight code)
      (go (terms_accepted N 1 xs (terms_good Z lim eight fits)))
    where
      size : length xs ≡ length (frame_terms Z eight code)
      size = sym (monos_length q.n xs) ∙ ap length (terms_back Z eight code)

      go : {r : Result (Unit {0})} → Accepts 1 xs r → AcceptedRight r
      go (all_zero z) = is_basis (Accept.accepted (S Z) (theory_stage Z eight code) (λ k l. zero_at xs z k l))
      go (met t) = limit_met t
      go (not_zero place a b s) = shown_why (between_shown 1 place (length (frame_terms Z eight code)) a (omega (arith, size))) s
      go more_steps = steps_left

  pub accept_right : (N : ℕ) → AcceptedRight (accept lim q.p q.code (flat q.n f) N)
  accept_right N = go (leb (length (frame_terms Z eight code)) lim.vectors)
    where
      go : (b : Bool) → AcceptedRight (if_few b (frame_terms Z eight code) >>= λ ms. accept_from (stage Z lim) N 1 ms)
      go true = accepted_from N
      go false = limit_met tt
