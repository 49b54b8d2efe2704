-- A pass place by place.
use mathlib.Core.Path.{◌≡◌, refl, sym, ap, ◌∙◌, subst}
use mathlib.Core.Bool.{Bool, true, false, not, ◌||◌}
use mathlib.Core.List.{[], ◌∷◌, ◌++◌, append_assoc}
use mathlib.Core.Logic.{◌≢◌, ⊎_elim}
use Prim.Native.Nat.{ℕ, zero, suc, ◌+◌, ◌-◌, ◌%◌, ◌<◌, ◌≤◌}
use native.Mathlib.Omega.{arith}
use native.Mathlib.Nat.{zero-mod}
use lib.Dec.{eqb, eqb-suc-zero}
use lib.ListN.{length, get_or}
use Rattle.definitions.specs.Lists.{choose, ◌and◌}
use Rattle.definitions.specs.Field.{times}
use Rattle.definitions.specs.Places.{row_length}
use Rattle.laws.proofs.Packing.{Eight}
use Rattle.vectors.specs.terms.Rows.{written}
use Rattle.vectors.proofs.terms.Stored.{rows_appended}
use Rattle.definitions.specs.Monomial.{Term, Vector}
use Rattle.definitions.specs.Layout.{Words, rows}
use Rattle.sweeps.specs.Places.{Row, spread_at, moved, places, settled?}
use Rattle.sweeping.specs.Nodes.{row_of_node}
use Rattle.sweeping.specs.Orders.{rows_by}
use Rattle.sweeping.proofs.Views.{by_first, by_none}
use Rattle.sweeping.specs.Sums.{Spends}
use Rattle.sweeping.specs.Visits.{most_degree, Noted, Visited, Skips}
use Rattle.sweeping.proofs.Sums.{holds_less}
use Rattle.sweeping.proofs.Tables.{below_or}

pub choose_zero : {A : Type 0} (n : ℕ) (a b : A) → n ≡ 0 → choose (eqb n 0) a b ≡ a
choose_zero zero a b e = refl
choose_zero (suc n) a b e = absurd (omega (arith, e))

pub choose_other : {A : Type 0} (n : ℕ) (a b : A) → n ≢ 0 → choose (eqb n 0) a b ≡ b
choose_other zero a b e = absurd (e refl)
choose_other (suc n) a b e = ap (λ t. choose t a b) (eqb-suc-zero n)

pub not_zero : (n : ℕ) → n ≡ 0 → false ≡ not (eqb n 0)
not_zero zero e = refl
not_zero (suc n) e = absurd (omega (arith, e))

pub not_other : (n : ℕ) → n ≢ 0 → true ≡ not (eqb n 0)
not_other zero e = absurd (e refl)
not_other (suc n) e = sym (ap not (eqb-suc-zero n))

pub zero_eqb : (n : ℕ) → n ≡ 0 → eqb n 0 ≡ true
zero_eqb zero e = refl
zero_eqb (suc n) e = absurd (omega (arith, e))

pub other_eqb : (n : ℕ) → n ≢ 0 → eqb n 0 ≡ false
other_eqb zero e = absurd (e refl)
other_eqb (suc n) e = eqb-suc-zero n

-- ## A place

-- the sum is zero
pub visited_zero : (p : ℕ) (r : Row) (c k : ℕ) (vector sums : Words) → c ≡ 0 → Visited p r c k k true vector vector sums sums
visited_zero p r c k vector sums e = record {
  noted_is = λ v. ap (λ w. rows vector 0 k ++ w) (none r.reduced v);
  moved_is = sym (choose_zero c sums (spread_at c r.edges sums) e);
  settled_is = all r.reduced ∙ ap (λ b. r.reduced || b) (sym (zero_eqb c e));
  few = omega arith;
  spends = λ n h. holds_less n (most_degree + n) sums (omega arith) h;
}
  where
    none : (b : Bool) (v : Vector) → choose b (choose (eqb c 0) v ((times p c r.turned, r.multiple) ∷ v)) v ≡ v
    none true v = choose_zero c v ((times p c r.turned, r.multiple) ∷ v) e
    none false v = refl

    all : (b : Bool) → true ≡ (b || true)
    all true = refl
    all false = refl

-- it is not
pub visited_other : (p : ℕ) (r : Row) (c k k' : ℕ) (settled : Bool) (vector vector' sums sums' : Words) → c ≢ 0
    → r.reduced ≡ not (eqb r.multiple.1 0) → sums' ≡ spread_at c r.edges sums → Spends most_degree sums sums'
    → Noted k (times p c r.turned, r.multiple) k' settled vector vector' → Visited p r c k k' settled vector vector' sums sums'
visited_other p r c k k' settled vector vector' sums sums' e b m s n = record {
  noted_is = λ v.
      ap (λ d. rows vector 0 k ++ choose d (choose (eqb c 0) v (t ∷ v)) v) b
      ∙ ap (λ w. rows vector 0 k ++ choose (not (eqb r.multiple.1 0)) w v) (choose_other c v (t ∷ v) e)
      ∙ one (eqb r.multiple.1 0) v
      ∙ ap (λ w. w ++ v) (sym n.0);
  moved_is = m ∙ sym (choose_other c sums (spread_at c r.edges sums) e);
  settled_is = n.1 ∙ sym b ∙ last r.reduced ∙ ap (λ d. r.reduced || d) (sym (other_eqb c e));
  few = n.2;
  spends = s;
}
  where
    t : Term
    t = (times p c r.turned, r.multiple)

    one : (d : Bool) (v : Vector) → rows vector 0 k ++ choose (not d) (t ∷ v) v ≡ choose d (rows vector 0 k) (rows vector 0 k ++ t ∷ []) ++ v
    one true v = refl
    one false v = sym (append_assoc (rows vector 0 k) (t ∷ []) v)

    last : (d : Bool) → d ≡ (d || false)
    last true = refl
    last false = refl

-- ## From place to place

pub and_shifts : (a b d : Bool) → (a and (b and d)) ≡ ((a and b) and d)
and_shifts true b d = refl
and_shifts false b d = refl

rows_zero : (s : Words) → rows s 0 0 ≡ []
unfolding rows
rows_zero s = refl

skips_less : (x y : ℕ) (sums : Words) → x + 1 ≤ y → Skips x y sums → Skips (x + 1) y sums
skips_less x y sums h s = record { onward = h; zeros = λ i a b. s.zeros i (omega (arith, a)) b }

pub skips_none : (x : ℕ) (sums : Words) → Skips x x sums
skips_none x sums = record { onward = omega arith; zeros = λ i a b. absurd (omega (arith, a, b)) }

pub skips_both : (x y z : ℕ) (sums : Words) → Skips x y sums → Skips y z sums → Skips x z sums
skips_both x y z sums s r = record {
  onward = omega (arith, s.onward, r.onward);
  zeros = λ i a b. ⊎_elim (λ h. s.zeros i a h) (λ h. r.zeros i h b) (below_or i y);
}

-- one place more has the sum zero
pub skips_more : (x y z : ℕ) (sums : Words) → z ≡ y + 1 → get_or sums y 0 ≡ 0 → Skips x y sums → Skips x z sums
skips_more x y z sums k e s = record {
  onward = omega (arith, s.onward, k);
  zeros = λ i a b. ⊎_elim (λ h. s.zeros i a h) (λ h. let j : i ≡ y = omega (arith, b, h, k) in ap (λ j. get_or sums j 0) j ∙ e) (below_or i y);
}

pub skips_four : (x : ℕ) (sums : Words) → get_or sums x 0 ≡ 0 → get_or sums (x + 1) 0 ≡ 0 → get_or sums (x + 2) 0 ≡ 0 → get_or sums (x + 3) 0 ≡ 0
    → Skips x (x + 4) sums
skips_four x sums a b c d =
    skips_more x (x + 3) (x + 4) sums (omega arith) d (skips_more x (x + 2) (x + 3) sums (omega arith) c
    (skips_more x (x + 1) (x + 2) sums (omega arith) b (skips_more x x (x + 1) sums (omega arith) a (skips_none x sums))))

module _ (p n : ℕ) (nodes spans words order : Words) where
  rows_next : (x : ℕ) → x < n → rows_by nodes spans words order x (n - x)
      ≡ row_of_node nodes spans words (get_or order x 0) ∷ rows_by nodes spans words order (suc x) (n - suc x)
  rows_next x h =
      let e : n - x ≡ suc (n - suc x) = omega arith in
      ap (rows_by nodes spans words order x) e ∙ by_first nodes spans words order x (n - suc x)

  pub places_next : (x k k' : ℕ) (settled : Bool) (vector vector' sums sums' : Words) → x < n
      → Visited p (row_of_node nodes spans words (get_or order x 0)) (get_or sums x 0 % p) k k' settled vector vector' sums sums'
      → rows vector 0 k ++ places p x (rows_by nodes spans words order x (n - x)) sums
      ≡ rows vector' 0 k' ++ places p (x + 1) (rows_by nodes spans words order (x + 1) (n - (x + 1))) sums'
  places_next x k k' settled vector vector' sums sums' h v =
      let s : suc x ≡ x + 1 = omega arith in
      ap (λ rs. rows vector 0 k ++ places p x rs sums) (rows_next x h)
      ∙ v.noted_is (places p (suc x) (rows_by nodes spans words order (suc x) (n - suc x)) (moved (row_of_node nodes spans words (get_or order x 0)) (get_or sums
      x 0 % p) sums))
      ∙ ap (λ ss. rows vector' 0 k' ++ places p (suc x) (rows_by nodes spans words order (suc x) (n - suc x)) ss) (sym v.moved_is)
      ∙ ap (λ y. rows vector' 0 k' ++ places p y (rows_by nodes spans words order y (n - y)) sums') s

  pub settled_next : (x k k' : ℕ) (so settled : Bool) (vector vector' sums sums' : Words) → x < n
      → Visited p (row_of_node nodes spans words (get_or order x 0)) (get_or sums x 0 % p) k k' settled vector vector' sums sums'
      → (so and settled? p x (rows_by nodes spans words order x (n - x)) sums)
      ≡ ((so and settled) and settled? p (x + 1) (rows_by nodes spans words order (x + 1) (n - (x + 1))) sums')
  settled_next x k k' so settled vector vector' sums sums' h v =
      let s : suc x ≡ x + 1 = omega arith in
      ap (λ rs. so and settled? p x rs sums) (rows_next x h)
      ∙ ap (λ b. so and (b and settled? p (suc x) (rows_by nodes spans words order (suc x) (n - suc x))
      (moved (row_of_node nodes spans words (get_or order x 0)) (get_or sums x 0 % p) sums))) (sym v.settled_is)
      ∙ ap (λ ss. so and (settled and settled? p (suc x) (rows_by nodes spans words order (suc x) (n - suc x)) ss)) (sym v.moved_is)
      ∙ and_shifts so settled (settled? p (suc x) (rows_by nodes spans words order (suc x) (n - suc x)) sums')
      ∙ ap (λ y. (so and settled) and settled? p y (rows_by nodes spans words order y (n - y)) sums') s

  pub places_end : (x : ℕ) (sums : Words) → n ≤ x → places p x (rows_by nodes spans words order x (n - x)) sums ≡ []
  places_end x sums h =
      let e : n - x ≡ 0 = omega arith in
      ap (λ m. places p x (rows_by nodes spans words order x m) sums) e ∙ ap (λ rs. places p x rs sums) (by_none nodes spans words order x)

  pub settled_end : (x : ℕ) (sums : Words) → n ≤ x → settled? p x (rows_by nodes spans words order x (n - x)) sums ≡ true
  settled_end x sums h =
      let e : n - x ≡ 0 = omega arith in
      ap (λ m. settled? p x (rows_by nodes spans words order x m) sums) e ∙ ap (λ rs. settled? p x rs sums) (by_none nodes spans words order x)

  -- a place with the sum zero is passed over
  zero_at : (x : ℕ) (sums : Words) → get_or sums x 0 ≡ 0
      → Visited p (row_of_node nodes spans words (get_or order x 0)) (get_or sums x 0 % p) 0 0 true [] [] sums sums
  zero_at x sums e =
      visited_zero p (row_of_node nodes spans words (get_or order x 0)) (get_or sums x 0 % p) 0 [] sums (ap (λ s. s % p) e ∙ zero-mod p)

  places_over : (x : ℕ) (sums : Words) → x < n → get_or sums x 0 ≡ 0
      → places p x (rows_by nodes spans words order x (n - x)) sums ≡ places p (x + 1) (rows_by nodes spans words order (x + 1) (n - (x + 1))) sums
  places_over x sums h e =
      subst (λ v. (v ++ places p x (rows_by nodes spans words order x (n - x)) sums)
      ≡ (v ++ places p (x + 1) (rows_by nodes spans words order (x + 1) (n - (x + 1))) sums)) (rows_zero [])
      (places_next x 0 0 true [] [] sums sums h (zero_at x sums e))

  settled_over : (x : ℕ) (sums : Words) → x < n → get_or sums x 0 ≡ 0
      → settled? p x (rows_by nodes spans words order x (n - x)) sums ≡ settled? p (x + 1) (rows_by nodes spans words order (x + 1) (n - (x + 1))) sums
  settled_over x sums h e = settled_next x 0 0 true true [] [] sums sums h (zero_at x sums e)

  -- .. and so are all from x up to y
  places_skip : (d x y : ℕ) (sums : Words) → x + d ≡ y → y ≤ n → Skips x y sums
      → places p x (rows_by nodes spans words order x (n - x)) sums ≡ places p y (rows_by nodes spans words order y (n - y)) sums
  places_skip zero x y sums e l s =
      let k : x ≡ y = omega (arith, e) in ap (λ z. places p z (rows_by nodes spans words order z (n - z)) sums) k
  places_skip (suc d) x y sums e l s =
      places_over x sums (omega (arith, e, l)) (s.zeros x (omega arith) (omega (arith, e)))
      ∙ places_skip d (x + 1) y sums (omega (arith, e)) l (skips_less x y sums (omega (arith, e)) s)

  settled_skip : (d x y : ℕ) (sums : Words) → x + d ≡ y → y ≤ n → Skips x y sums
      → settled? p x (rows_by nodes spans words order x (n - x)) sums ≡ settled? p y (rows_by nodes spans words order y (n - y)) sums
  settled_skip zero x y sums e l s =
      let k : x ≡ y = omega (arith, e) in ap (λ z. settled? p z (rows_by nodes spans words order z (n - z)) sums) k
  settled_skip (suc d) x y sums e l s =
      settled_over x sums (omega (arith, e, l)) (s.zeros x (omega arith) (omega (arith, e)))
      ∙ settled_skip d (x + 1) y sums (omega (arith, e)) l (skips_less x y sums (omega (arith, e)) s)

  pub places_skipped : (x y : ℕ) (sums : Words) → y ≤ n → Skips x y sums
      → places p x (rows_by nodes spans words order x (n - x)) sums ≡ places p y (rows_by nodes spans words order y (n - y)) sums
  places_skipped x y sums l s = let e : x + (y - x) ≡ y = omega (arith, s.onward) in places_skip (y - x) x y sums e l s

  pub settled_skipped : (x y : ℕ) (sums : Words) → y ≤ n → Skips x y sums
      → settled? p x (rows_by nodes spans words order x (n - x)) sums ≡ settled? p y (rows_by nodes spans words order y (n - y)) sums
  settled_skipped x y sums l s = let e : x + (y - x) ≡ y = omega (arith, s.onward) in settled_skip (y - x) x y sums e l s

pub and_true : (a : Bool) → (a and true) ≡ a
and_true true = refl
and_true false = refl

-- ## The frame term in front

pub row_in_front : (s : Words) (t : Term) → row_length ≤ length s → Eight t.1.0 → rows (written s 0 t) 0 1 ≡ t ∷ []
row_in_front s t h e = rows_appended s 0 t (omega (arith, h)) e ∙ ap (λ v. v ++ t ∷ []) (rows_zero s)
