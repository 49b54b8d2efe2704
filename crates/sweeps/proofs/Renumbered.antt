-- Nodes in the order of their discovery, put in order by two lists of which one test is made: the rows stay right.
use mathlib.Core.Path.{◌≡◌, refl, sym, ap, ◌∙◌, subst}
use mathlib.Core.Bool.{Bool}
use mathlib.Core.List.{List, [], ◌∷◌}
use Prim.Native.Nat.{ℕ, zero, suc, ◌+◌, ◌<◌}
use native.Mathlib.Omega.{arith}
use lib.Dec.{T, ltb, eqb, leb, ltb→lt, eqb→eq}
use lib.ListN.{length, get_or}
use Rattle.definitions.specs.Limits.{Limits}
use Rattle.definitions.specs.Lists.{◌and◌, every, rest}
use Rattle.definitions.specs.Monomial.{Monomial, Vector, Level, fits?, no_term, leading_monomials}
use Rattle.definitions.specs.Frame.{frame}
use Rattle.definitions.specs.Reducer.{Answer, reducer, lower_order}
use Rattle.definitions.specs.Problem.{Parameters}
use Rattle.definitions.specs.Stage.{Stage, stage_over}
use Rattle.laws.proofs.Tests.{and_left, and_right, and_both, every_at}
use Rattle.demands.specs.Notions.{Member}
use Rattle.sweeps.specs.Sweep.{answer_at, placed?, falling?, components}
use Rattle.sweeps.specs.Places.{Row, LeadsIn, no_more_in, skips_in, leads_in, RowIn, RowsIn, RootsIn, picked, renumbered, renumbered_row}
use Rattle.sweeps.specs.Places.{renumbered_rows, no_row, ordered_nodes, ordered_rows, finds?, inverse?}
use Rattle.sweeps.specs.Claims.{Built, Discovered, Passed}
use Rattle.sweeps.proofs.Footing.{Footing}
use Rattle.sweeps.proofs.Kernel

-- ## Members at places

picked_length : {A : Type 0} (e : A) (ks : List ℕ) (l : List A) → length (picked e ks l) ≡ length ks
picked_length e [] l = refl
picked_length e (k ∷ ks) l = ap suc (picked_length e ks l)

picked_at : {A : Type 0} (e : A) (ks : List ℕ) (l : List A) (i : ℕ) → i < length ks → get_or (picked e ks l) i e ≡ get_or l (get_or ks i 0) e
picked_at e [] l i h = absurd (omega arith)
picked_at e (k ∷ ks) l zero h = refl
picked_at e (k ∷ ks) l (suc i) h = picked_at e ks l i (omega arith)

picked_every : {A : Type 0} (f : A → Bool) (e : A) (l : List A) → T (every f l) → (ks : List ℕ) → T (every (λ k. ltb k (length l)) ks)
    → T (every f (picked e ks l))
picked_every f e l t [] h = tt
picked_every f e l t (k ∷ ks) h =
    let r = every (λ k. ltb k (length l)) ks in
    and_both (f (get_or l k e)) (every f (picked e ks l)) (every_at f l k e t (ltb→lt k (length l) (and_left (ltb k (length l)) r h)))
    (picked_every f e l t ks (and_right (ltb k (length l)) r h))

-- where node k stands
pub record Stands (order place : List ℕ) (k : ℕ) : Type 0 where
  pub inside : get_or place k 0 < length order
  pub is : get_or order (get_or place k 0) 0 ≡ k

finds_says : (order : List ℕ) (i : ℕ) (place : List ℕ) → T (finds? order i place) → (k : ℕ) → k < length place
    → (get_or place k 0 < length order) × (get_or order (get_or place k 0) 0 ≡ i + k)
finds_says order i [] t k l = absurd (omega arith)
finds_says order i (j ∷ place) t zero l =
    let a = and_left (ltb j (length order) and eqb (get_or order j 0) i) (finds? order (suc i) place) t in
    let e : get_or order j 0 ≡ i = eqb→eq (get_or order j 0) i (and_right (ltb j (length order)) (eqb (get_or order j 0) i) a) in
    (ltb→lt j (length order) (and_left (ltb j (length order)) (eqb (get_or order j 0) i) a), omega arith)
finds_says order i (j ∷ place) t (suc k) l =
    let h = finds_says order (suc i) place (and_right (ltb j (length order) and eqb (get_or order j 0) i) (finds? order (suc i) place) t) k (omega arith) in
    (h.0, let e : get_or order (get_or place k 0) 0 ≡ suc i + k = h.1 in omega arith)

pub record Inverse (n : ℕ) (order place : List ℕ) : Type 0 where
  pub whole : length order ≡ n
  pub ranged : T (every (λ k. ltb k n) order)
  pub stands : (k : ℕ) → k < n → Stands order place k

pub inverse_says : (n : ℕ) (order place : List ℕ) → T (inverse? n order place) → Inverse n order place
inverse_says n order place t = record {
  whole = eqb→eq (length order) n (and_left (eqb (length order) n) (eqb (length place) n and every (λ k. ltb k n) order and finds? order 0 place) t);
  ranged = and_left (every (λ k. ltb k n) order) (finds? order 0 place) u;
  stands = λ k l.
      let e : length place ≡ n = long in
      let h = finds_says order 0 place (and_right (every (λ k. ltb k n) order) (finds? order 0 place) u) k (omega arith) in
      record { inside = h.0; is = let z : get_or order (get_or place k 0) 0 ≡ 0 + k = h.1 in omega arith };
}
  where
    v : T (eqb (length place) n and every (λ k. ltb k n) order and finds? order 0 place)
    v = and_right (eqb (length order) n) (eqb (length place) n and every (λ k. ltb k n) order and finds? order 0 place) t

    u : T (every (λ k. ltb k n) order and finds? order 0 place)
    u = and_right (eqb (length place) n) (every (λ k. ltb k n) order and finds? order 0 place) v

    long : length place ≡ n
    long = eqb→eq (length place) n (and_left (eqb (length place) n) (every (λ k. ltb k n) order and finds? order 0 place) v)

-- ## Rows

module _ (S : Stage) (d : Bool) (U : List Monomial) (order place : List ℕ) (I : Inverse (length U) order place) where
  abbrev N : List Monomial
  N = ordered_nodes order U

  leads_on : {es : List (ℕ × ℕ)} {ps : Vector} → LeadsIn S.reduction d U es ps → LeadsIn S.reduction d N (renumbered place es) ps
  leads_on no_more_in = no_more_in
  leads_on (skips_in f k r) = skips_in f k (leads_on r)
  leads_on (leads_in {t} {es} {ps} k l e f r) =
      let s : Stands order place k = I.stands k l in
      let w : length N ≡ length order = picked_length no_term.1 order U in
      leads_in (get_or place k 0) (let h : get_or place k 0 < length order = s.inside in omega arith)
      (picked_at no_term.1 order U (get_or place k 0) s.inside ∙ ap (λ z. get_or U z no_term.1) s.is ∙ e) f (leads_on r)

  row_on : (a : Answer) (r : Row) → RowIn S d U a r → RowIn S d N a (renumbered_row place r)
  row_on lower_order r h = (h.0, ap (renumbered place) h.1, h.2)
  row_on (reducer j i q) r h = (h.0, h.1, h.2, leads_on h.3)

  row_at : (M : List Monomial) (rs : List Row) → RowsIn S d U M rs → (k : ℕ) → k < length M
      → RowIn S d U (answer_at S (get_or M k no_term.1)) (get_or rs k no_row)
  row_at [] rs h k l = absurd (omega arith)
  row_at (x ∷ M) [] h k l = absurd h
  row_at (x ∷ M) (r ∷ rs) h zero l = h.0
  row_at (x ∷ M) (r ∷ rs) h (suc k) l = row_at M rs h.1 k (omega arith)

  rows_on : (rs : List Row) → RowsIn S d U U rs → (ks : List ℕ) → T (every (λ k. ltb k (length U)) ks)
      → RowsIn S d N (picked no_term.1 ks U) (renumbered_rows place (picked no_row ks rs))
  rows_on rs h [] t = tt
  rows_on rs h (k ∷ ks) t =
      let v = every (λ k. ltb k (length U)) ks in (
        row_on (answer_at S (get_or U k no_term.1)) (get_or rs k no_row)
            (row_at U rs h k (ltb→lt k (length U) (and_left (ltb k (length U)) v t))),
        rows_on rs h ks (and_right (ltb k (length U)) v t),
      )

-- ## A table in the order of its discovery

module _ (lim : Limits) (q : Parameters) (below : List Level) (d : Bool) (U : List Monomial) (rs : List Row) (D : Discovered lim q below d U rs)
    (order place : List ℕ) (t : T (inverse? (length U) order place)) (k : T (falling? (stage_over lim q.p q.code below).below (ordered_nodes order U)))
  where
    abbrev K : Stage
    K = stage_over lim q.p q.code below

    I : Inverse (length U) order place
    I = inverse_says (length U) order place t

    size : length (ordered_nodes order U) ≡ length U
    size = picked_length no_term.1 order U ∙ I.whole

    pub built : Built lim q below d (ordered_nodes order U) (ordered_rows order place rs)
    built = record {
      few = subst (λ n. T (leb n lim.working and leb (suc n) lim.vector)) (sym size) D.few;
      fit = picked_every (λ x. fits? lim.exponent x.0) no_term.1 U D.fit order I.ranged;
      placed = picked_every (placed? q (components q (rest below))) no_term.1 U D.placed order I.ranged;
      falling = k;
      rows = rows_on K d U order place I rs D.rows order I.ranged;
    }

    pub rooted : (m : Monomial) (es : List (ℕ × ℕ)) → RootsIn K d U m es → RootsIn K d (ordered_nodes order U) m (renumbered place es)
    rooted m es h = leads_on K d U order place I h

-- the whole: tables discovered, put in order, tested, passed
pub discovered_passed : (lim : Limits) (q : Parameters) (f : Level) (below : List Level) → Footing lim q (f ∷ below)
    → (d : Bool) (U : List Monomial) (rs : List Row) → Discovered lim q (f ∷ below) d U rs
    → (order place : List ℕ) → T (inverse? (length U) order place) → T (falling? (stage_over lim q.p q.code (f ∷ below)).below (ordered_nodes order U))
    → (m : Monomial) → Member m (frame (lim.numbering q.code) (leading_monomials f)) → (es : List (ℕ × ℕ))
    → RootsIn (stage_over lim q.p q.code (f ∷ below)) d U m es
    → Passed lim q (f ∷ below) d (ordered_nodes order U) (ordered_rows order place rs) (renumbered place es) m
discovered_passed lim q f below s d U rs D order place t k m i es w =
    Kernel.passed lim q f below s d (ordered_nodes order U) (ordered_rows order place rs) (built lim q (f ∷ below) d U rs D order place t k) m i
    (renumbered place es) (rooted lim q (f ∷ below) d U rs D order place t k m es w)
