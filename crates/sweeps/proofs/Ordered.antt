-- Products are smaller than their node: where the nodes descend, edges lead to later places.
use mathlib.Core.Path.{◌≡◌, refl, sym, ap, ◌∙◌, subst, subst₂}
use mathlib.Core.Bool.{Bool}
use mathlib.Core.List.{List, [], ◌∷◌}
use Prim.Native.Nat.{ℕ, zero, suc, ◌+◌, ◌-◌, ◌<◌}
use native.Mathlib.Omega.{arith}
use lib.ListN.{length, get_or, drop}
use Rattle.theory.specs.Vec
use Rattle.theory.specs.Reckon.{turned, others, others_small}
use Rattle.definitions.specs.Limits.{Limits}
use Rattle.definitions.specs.Lists.{rest}
use Rattle.definitions.specs.Monomial.{Monomial, Vector, no_term}
use Rattle.definitions.specs.Reducer.{Answer, reducer, lower_order}
use Rattle.definitions.specs.Stage.{Reduction, Stage}
use Rattle.laws.proofs.Members.{All}
use Rattle.demands.proofs.Exponents.{out}
use Rattle.demands.proofs.Levels.{Mono, TVec, mono, mono_injective, vec, monos}
use Rattle.demands.proofs.Setting.{Setting, S, L, F, Answered, hit, miss, answered}
use Rattle.demands.proofs.Steps.{stage}
use Rattle.demands.proofs.Reckoned.{others_is, turned_is}
use Rattle.sweeps.specs.Sweep.{edges, answer_at}
use Rattle.sweeps.specs.Places.{
  Row,
  Leads,
  no_more,
  skips,
  leads,
  RowRight,
  RowsRight,
  LeadsIn,
  no_more_in,
  skips_in,
  leads_in,
  products_of,
  RowIn,
  RowsIn,
}
use Rattle.sweeps.specs.Places.{RootsRight, RootsIn}
use Rattle.sweeps.proofs.Spreading.{edges_out}
use Rattle.sweeps.proofs.Passing.{Below, Falling}

-- ## Places

-- wherever the node m stands, it is after place o
abbrev pub Later : List Monomial → ℕ → Monomial → Type 0
Later N o m = (k : ℕ) → k < length N → get_or N k no_term.1 ≡ m → o < k

pub get_d_drop : (o i k : ℕ) (N : List Monomial) → k ≡ i + o → get_or (drop o N) i no_term.1 ≡ get_or N k no_term.1
get_d_drop zero i k N e = let h : i ≡ k = omega (arith, e) in ap (λ z. get_or N z no_term.1) h
get_d_drop (suc o) i k [] e = refl
get_d_drop (suc o) i zero (x ∷ N) e = absurd (omega (arith, e))
get_d_drop (suc o) i (suc k) (x ∷ N) e = get_d_drop o i k N (omega (arith, e))

pub drop_length : (o k : ℕ) (N : List Monomial) → o + k ≡ length N → length (drop o N) ≡ k
drop_length zero k N e = omega (arith, e)
drop_length (suc o) k [] e = absurd (omega (arith, e))
drop_length (suc o) k (x ∷ N) e = drop_length o k N (omega (arith, e))

leads_later : {R : Reduction} {d : Bool} (N : List Monomial) (o : ℕ) → o < length N → {es : List (ℕ × ℕ)} {ps : Vector} → LeadsIn R d N es ps
    → All (λ t. Later N o t.1) ps → Leads R d (suc o) (drop (suc o) N) es ps
leads_later N o l no_more_in h = no_more
leads_later N o l (skips_in f k r) h = skips f k (leads_later N o l r h.1)
leads_later {R} {d} N o l (leads_in {t} {es} {ps} k j e f r) h =
    let after : o < k = h.0 k j e in
    let i : ℕ = k - suc o in
    let place : k ≡ i + suc o = omega arith in
    let back : i + suc o ≡ k = omega arith in
    let few : length (drop (suc o) N) ≡ length N - suc o = drop_length (suc o) (length N - suc o) N (omega arith) in
    subst (λ z. Leads R d (suc o) (drop (suc o) N) ((z, t.0) ∷ es) (t ∷ ps)) back
    (leads i (omega arith) (get_d_drop (suc o) i k N place ∙ e) f (leads_later N o l r h.1))

leads_from : {R : Reduction} {d : Bool} (N : List Monomial) {es : List (ℕ × ℕ)} {ps : Vector} → LeadsIn R d N es ps → Leads R d 0 N es ps
leads_from N no_more_in = no_more
leads_from N (skips_in f k r) = skips f k (leads_from N r)
leads_from {R} {d} N (leads_in {t} {es} {ps} k j e f r) =
    let back : k + 0 ≡ k = omega arith in
    subst (λ z. Leads R d 0 N ((z, t.0) ∷ es) (t ∷ ps)) back (leads k j e f (leads_from N r))

pub roots_from : (S : Stage) (d : Bool) (N : List Monomial) (m : Monomial) (es : List (ℕ × ℕ)) → RootsIn S d N m es → RootsRight S d N m es
roots_from S d N m es h = leads_from N h

-- each product of a node stands after it
abbrev pub ProductsLater : Stage → List Monomial → Type 0
ProductsLater S N = (o : ℕ) → o < length N → All (λ t. Later N o t.1) (products_of S (answer_at S (get_or N o no_term.1)))

pub drop_split : (o : ℕ) (N : List Monomial) (x : Monomial) (M : List Monomial) → x ∷ M ≡ drop o N → (o < length N) × (get_or N o no_term.1 ≡ x) × (M
    ≡ drop (suc o) N)
drop_split o [] x M e = absurd (empty o e)
  where
    empty : (o : ℕ) → x ∷ M ≡ drop o [] → ⊥
    empty zero e = let z : suc (length M) ≡ 0 = ap length e in omega arith
    empty (suc o) e = let z : suc (length M) ≡ 0 = ap length e in omega arith
drop_split zero (y ∷ N) x M e = (omega arith, ap (λ l. get_or l 0 no_term.1) (sym e), ap rest e)
drop_split (suc o) (y ∷ N) x M e = let h = drop_split o N x M e in (omega (arith, h.0), h.1, h.2)

pub rows_later : (S : Stage) (d : Bool) (N : List Monomial) → ProductsLater S N → (o : ℕ) (M : List Monomial) (rs : List Row) → M ≡ drop o N
    → RowsIn S d N M rs → RowsRight S d o M rs
rows_later S d N w o [] [] e h = tt
rows_later S d N w o [] (r ∷ rs) e h = h
rows_later S d N w o (x ∷ M) [] e h = h
rows_later S d N w o (x ∷ M) (r ∷ rs) e h =
    let s = drop_split o N x M e in (
      subst (λ m. RowRight S d (suc o) m (answer_at S x) r) (sym s.2) (go s.0 (answer_at S x) h.0
          (subst (λ m. All (λ t. Later N o t.1) (products_of S (answer_at S m))) s.1 (w o s.0))),
      rows_later S d N w (suc o) M rs s.2 h.1,
    )
  where
    go : o < length N → (a : Answer) → RowIn S d N a r → All (λ t. Later N o t.1) (products_of S a) → RowRight S d (suc o) (drop (suc o) N) a r
    go l lower_order k z = k
    go l (reducer j i q) k z = (k.0, k.1, k.2, leads_later N o l k.3 z)

-- ## Descending nodes

module _ (Z : Setting) (lim : Limits) (d : Bool) where
  -- the node at place o
  record At (xs : List (Mono Z.n)) (o : ℕ) : Type 0 where
    x : Mono Z.n
    is : get_or (monos Z.n xs) o no_term.1 ≡ mono Z.n x
    under : (B : Mono Z.n) → Below Z lim d xs B → (L Z).Lt x B
    later : (y : Mono Z.n) → (L Z).Lt y x → Later (monos Z.n xs) o (mono Z.n y)

  at : (xs : List (Mono Z.n)) → Falling Z lim d xs → (o : ℕ) → o < length (monos Z.n xs) → At xs o
  at [] k o l = absurd (omega arith)
  at (x ∷ xs) k zero l = record { x = x; is = refl; under = λ B h. h.0; later = after }
    where
      after : (y : Mono Z.n) → (L Z).Lt y x → Later (monos Z.n (x ∷ xs)) zero (mono Z.n y)
      after y s zero j e = absurd ((L Z).irrefl y (subst (λ z. (L Z).Lt y z) (mono_injective Z.n x y e) s))
      after y s (suc i) j e = omega arith
  at (x ∷ xs) k (suc o) l = go (at xs k.1 o (omega arith))
    where
      go : At xs o → At (x ∷ xs) (suc o)
      go a = record { x = a.x; is = a.is; under = λ B h. a.under B h.1; later = after }
        where
          after : (y : Mono Z.n) → (L Z).Lt y a.x → Later (monos Z.n (x ∷ xs)) (suc o) (mono Z.n y)
          after y s zero j e =
              absurd ((L Z).irrefl y ((L Z).trans y a.x y s (subst (λ z. (L Z).Lt a.x z) (mono_injective Z.n x y e) (a.under x k.0))))
          after y s (suc i) j e = let h : o < i = a.later y s i (omega arith) e in omega arith

  all_later : (N : List Monomial) (o : ℕ) (x : Mono Z.n) → ((y : Mono Z.n) → (L Z).Lt y x → Later N o (mono Z.n y)) → (g : TVec Z.n)
      → Vec.All (S Z) (λ (y : Mono Z.n). (L Z).Lt y x) g → All (λ t. Later N o t.1) (vec Z.n g)
  all_later N o x w [] h = tt
  all_later N o x w (t ∷ g) h = (w t.1 h.0, all_later N o x w g h.1)

  pub falling_later : (xs : List (Mono Z.n)) → Falling Z lim d xs → ProductsLater (stage Z lim) (monos Z.n xs)
  falling_later xs k o l =
      let a : At xs o = at xs k o l in
      subst (λ m. All (λ t. Later (monos Z.n xs) o t.1) (products_of (stage Z lim) (answer_at (stage Z lim) m))) (sym a.is) (go a (answered Z a.x))
    where
      go : (a : At xs o) {y : Answer} → Answered Z a.x y → All (λ t. Later (monos Z.n xs) o t.1) (products_of (stage Z lim) y)
      go a (miss n) = tt
      go a (hit r) =
          subst₂ (λ i v. All (λ t. Later (monos Z.n xs) o t.1) (edges Z.p i (out Z.n r.at.0) v)) (sym (turned_is Z r)) (sym (others_is Z r))
          (subst (All (λ t. Later (monos Z.n xs) o t.1)) (sym (edges_out Z lim d (turned (S Z) (L Z) (F Z) r) r.at.0 ((F Z).lead r.at.1 r.dom
          ).rest))
          (all_later (monos Z.n xs) o a.x a.later (others (S Z) (L Z) (F Z) r) (others_small (S Z) (L Z) (F Z) r)))
