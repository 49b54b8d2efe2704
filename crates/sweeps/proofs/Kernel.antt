-- Over the levels of a sound state: the pass over a table's places gives what every run gives.
use mathlib.Core.Path.{◌≡◌, refl, sym, ap, ◌∙◌, subst}
use mathlib.Core.Logic.{◌≢◌, inl, inr}
use mathlib.Core.Bool.{Bool, true, false}
use mathlib.Core.Option.{some}
use mathlib.Core.List.{List, [], ◌∷◌}
use Prim.Native.Nat.{ℕ, ◌≤◌}
use lib.Dec.{T}
use Rattle.definitions.specs.Limits.{Limits}
use Rattle.definitions.specs.Lists.{◌and◌, every, empty?, rest}
use Rattle.definitions.specs.Monomial
use Rattle.definitions.specs.Monomial.{Monomial, Vector, leading_monomials}
use Rattle.definitions.specs.Frame.{frame}
use Rattle.definitions.specs.Result.{Result, done, refused, unfinished}
use Rattle.definitions.specs.Stage.{Stage, stage_over}
use Rattle.definitions.specs.Run.{run, accepting_strategy}
use Rattle.definitions.specs.Problem.{Parameters}
use Rattle.definitions.specs.Order.{compare_over}
use Rattle.laws.proofs.Modular.{Prime}
use Rattle.laws.proofs.Tests.{and_both}
use Rattle.demands.specs.Notions.{Member}
use Rattle.demands.specs.Picks.{run_by}
use Rattle.demands.proofs.Levels.{Mono, TLevel, mono, mono_injective, monos, flats}
use Rattle.demands.proofs.Setting.{Setting, L}
use Rattle.demands.proofs.Soundness.{tlevel, tlevels, LevelsRight}
use Rattle.sweeps.specs.Table.{node?, few?, begun?}
use Rattle.sweeps.specs.Sweep.{swept, remainder, placed?, falling?, forward?, components, nodes?, sweeps?, nodes_fit?, certified?}
use Rattle.sweeps.specs.Places.{Row, RowsRight, RootsRight, RootsIn}
use Rattle.sweeps.specs.Claims.{any_stops?, Decides, Certified, Built, passed_vector, passed_settled?, Flagged, Passed}
use Rattle.sweeps.proofs.Footing.{Footing}
use Rattle.sweeps.proofs.Unrefused.{safe_map, node_says}
use Rattle.sweeps.proofs.Passing.{Below, Falling}
use Rattle.sweeps.proofs.Nodes.{Z, tnodes, nodes_back, nodes_fall}
use Rattle.sweeps.proofs.Places.{Apart, rows_forward, roots_begun, places_swept, places_settled}
use Rattle.sweeps.proofs.Ordered.{ProductsLater, rows_later, roots_from, falling_later}
use Rattle.sweeps.proofs.Certified.{certified}

-- ## Descending nodes are distinct

module _ (Z : Setting) (lim : Limits) (d : Bool) where
  below_not : (xs : List (Mono Z.n)) (x : Mono Z.n) → Below Z lim d xs x → T (node? (mono Z.n x) (monos Z.n xs)) → ⊥
  below_not [] x h t = t
  below_not (y ∷ xs) x h t = go (node_says (mono Z.n x) (monos Z.n (y ∷ xs)) t)
    where
      find : (xs : List (Mono Z.n)) → Below Z lim d xs x → Member (mono Z.n x) (monos Z.n xs) → ⊥
      find [] h i = i
      find (y ∷ xs) h (inl e) = (L Z).irrefl x (subst (λ z. (L Z).Lt z x) (sym (mono_injective Z.n x y e)) h.0)
      find (y ∷ xs) h (inr i) = find xs h.1 i

      go : Member (mono Z.n x) (monos Z.n (y ∷ xs)) → ⊥
      go i = find (y ∷ xs) h i

  falling_apart : (xs : List (Mono Z.n)) → Falling Z lim d xs → Apart (monos Z.n xs)
  falling_apart [] k = tt
  falling_apart (x ∷ xs) k = (below_not xs x k.0, falling_apart xs k.1)

module _ (lim : Limits) (q : Parameters) (f : Monomial.Level) (below : List Monomial.Level)
    (s : Footing lim q (f ∷ below)) where
  abbrev K : Stage
  K = stage_over lim q.p q.code (f ∷ below)

  -- what the descending nodes have, by the theory
  record Descends (S : Stage) (N : List Monomial) : Type 0 where
    apart : Apart N
    later : ProductsLater S N

  descends : (N : List Monomial) → T (every (placed? q (components q below)) N) → T (falling? K.below N) → Descends K N
  descends N =
      subst (λ ls. T (every (placed? q (components q (rest ls))) N) → T (falling? (compare_over q.code (rest ls)) N)
      → Descends (stage_over lim q.p q.code ls) N) r.back
      (λ t k. subst (Descends (stage_over lim q.p q.code (flats q.n (g ∷ b)))) (nodes_back lim q P eight g b r.deep false N t)
      (record {
        apart = falling_apart (Z lim q P eight g b r.deep false) lim false (tnodes lim q P eight g b r.deep false N) (nodes_fall lim q P eight g b r.deep false N t k);
        later = falling_later (Z lim q P eight g b r.deep false) lim false (tnodes lim q P eight g b r.deep false N) (nodes_fall lim q P eight g b
            r.deep false N t k);
      }))
    where
      P : Prime q.p
      P = s.prime

      eight : q.n ≤ 8
      eight = s.eight

      r : LevelsRight lim q P eight (f ∷ below)
      r = s.right

      g : TLevel q.n
      g = tlevel q.n f

      b : List (TLevel q.n)
      b = tlevels q.n below

  nodes_apart : (N : List Monomial) → T (every (placed? q (components q below)) N) → T (falling? K.below N) → Apart N
  nodes_apart N t k = (descends N t k).apart

  pub nodes_later : (N : List Monomial) → T (every (placed? q (components q below)) N) → T (falling? K.below N) → ProductsLater K N
  nodes_later N t k = (descends N t k).later

  -- edges lead to later places
  pub rows_onward : (d : Bool) (N : List Monomial) (rs : List Row) → Built lim q (f ∷ below) d N rs → RowsRight K d 0 N rs
  rows_onward d N rs B = rows_later K d N (nodes_later N B.placed B.falling) 0 N rs refl B.rows

  module _ (d : Bool) (N : List Monomial) (rs : List Row) (B : Built lim q (f ∷ below) d N rs)
      (m : Monomial) (i : Member m (frame (lim.numbering q.code) (leading_monomials f))) (es : List (ℕ × ℕ)) (roots : RootsIn K d N m es) where
    rows : RowsRight K d 0 N rs
    rows = rows_onward d N rs B

    w : RootsRight K d N m es
    w = roots_from K d N m es roots

    certificate : T (certified? q below K d N m)
    certificate =
        and_both (few? K N) (nodes_fit? K N and sweeps? q below K d N m) B.few (and_both (nodes_fit? K N) (sweeps? q below K d N m) B.fit
        (and_both (nodes? q below K d N) (begun? K d N m) (and_both (every (placed? q (components q below)) N) (falling? K.below N and forward? K d N) B.placed
        (and_both (falling? K.below N) (forward? K d N) B.falling (rows_forward K d 0 N rs rows))) (roots_begun K d N m es w)))

    abbrev v : Vector
    v = passed_vector q.p N rs es m

    same : swept K N m ≡ v
    same = sym (places_swept K d N rs rows (nodes_apart N B.placed B.falling) m es w)

    flag : passed_settled? q.p N rs es ≡ empty? (remainder K N m)
    flag = places_settled K d N rs rows (nodes_apart N B.placed B.falling) m es w

    C : Certified lim q (f ∷ below) d N m
    C = certified lim q f below s m i d N certificate

    flagged : (x : Result Vector) → Decides K N m x → Flagged v (passed_settled? q.p N rs es) x
    flagged (done w) h = (h.0 ∙ same, flag ∙ ap empty? h.1)
    flagged (refused number place value) h = (h.0, flag ∙ some_left (remainder K N m) h.1)
      where
        some_left : (u : Vector) → u ≢ [] → empty? u ≡ false
        some_left [] n = absurd (n refl)
        some_left (t ∷ u) n = refl
    flagged unfinished h = tt

    pub passed : Passed lim q (f ∷ below) d N rs es m
    passed = record {
      bound = C.bound;
      reckons = C.reckons ∙ ap some same;
      safe_by = λ W h Ws k.
          safe_map (any_stops? Ws ≡ true) (λ u. u ≡ swept K N m) (λ u. u ≡ v) (λ u e. e ∙ same) (run_by K W Ws m) (C.safe_by W h Ws k);
      ends = λ W k h e. ((C.ends W k h e).0, (C.ends W k h e).1 ∙ ap done same);
      by_hybrid = λ code. ((C.by_hybrid code).0, (C.by_hybrid code).1 ∙ ap done same);
      by_division = λ e. ((C.by_division e).0, (C.by_division e).1 ∙ ap done same);
      accepts = λ e. (C.decided.0, C.decided.1, flagged (run K (accepting_strategy K) C.decided.0 m) (C.decides e C.decided.0));
    }
