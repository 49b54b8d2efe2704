-- Rows over the scalars of a field: combinations, independence, and a column that is cleared by multiples of one row.
use mathlib.Core.Path.{◌≡◌, refl, sym, ap, ap₂, ◌∙◌}
use mathlib.Core.List.{List, [], ◌∷◌}
use Prim.Native.Nat.{ℕ, zero, suc}
use native.Mathlib.Omega.{arith}
use lib.ListN.{length, get_or}
use Rattle.definitions.specs.Lists.{map}
use Rattle.theory.specs.Laws.{Scalars}
use Rattle.theory.proofs.Vec.{zero_mul, add_mul, add_left_comm, mul_one, zero_term, nonzero_mul}
use Rattle.theory.proofs.Lists.{Every}
use Rattle.ranks.proofs.Choices.{length_map}

module _ (S : Scalars) where
  open S use {K, add, mul, 𝟘, 𝟙, neg, inv, add_comm, add_assoc, mul_comm, mul_assoc, mul_add, mul_zero}
  open S use {zero_add_zero, zero_add_mul, zero_add_add, one_mul_mul, neg_add, inv_mul, zero?}

  -- ## Scalars

  abbrev pub Z : K → Type 0
  Z a = mul 𝟙 a ≡ 𝟘

  pub zero_Z : Z 𝟘
  zero_Z = mul_zero 𝟙

  pub times_Z : (c x : K) → Z x → mul c x ≡ 𝟘
  times_Z c x z = mul_comm c x ∙ zero_term S x c z

  pub mul_plus_zero : (a b : K) → add (mul a b) 𝟘 ≡ mul a b
  mul_plus_zero a b = add_comm _ _ ∙ zero_add_mul a b

  pub interchange : (a b x y : K) → add (add a b) (add x y) ≡ add (add a x) (add b y)
  interchange a b x y = add_assoc a b (add x y) ∙ ap (add a) (add_left_comm S b x y) ∙ sym (add_assoc a x (add b y))

  pub factor_Z : (a b : K) → ¬ (Z b) → mul a b ≡ 𝟘 → Z a
  factor_Z a b h e = go (zero? a)
    where
      go : Dec (mul 𝟙 a ≡ 𝟘) → Z a
      go (yes z) = z
      go (no n) = absurd (nonzero_mul S a b n h (ap (mul 𝟙) e ∙ zero_Z))

  -- ## Combinations

  -- Σ c_k · φ m_k
  abbrev pub comb : {A : Type 0} → (A → K) → List K → List A → K
  comb φ cs [] = 𝟘
  comb φ [] (m ∷ M) = 𝟘
  comb φ (c ∷ cs) (m ∷ M) = add (mul c (φ m)) (comb φ cs M)

  module _ {A : Type 0} (φ : A → K) where
    pub comb_red : (cs : List K) (M : List A) → add 𝟘 (comb φ cs M) ≡ comb φ cs M
    comb_red cs [] = zero_add_zero
    comb_red [] (m ∷ M) = zero_add_zero
    comb_red (c ∷ cs) (m ∷ M) = zero_add_add _ _

    pub one_comb : (cs : List K) (M : List A) → mul 𝟙 (comb φ cs M) ≡ comb φ cs M
    one_comb cs [] = zero_Z
    one_comb [] (m ∷ M) = zero_Z
    one_comb (c ∷ cs) (m ∷ M) = mul_add 𝟙 _ _ ∙ ap₂ add (one_mul_mul c (φ m)) (one_comb cs M)

    pub comb_zeros : (cs : List K) (M : List A) → Every Z cs → comb φ cs M ≡ 𝟘
    comb_zeros cs [] z = refl
    comb_zeros [] (m ∷ M) z = refl
    comb_zeros (c ∷ cs) (m ∷ M) z = ap₂ add (zero_term S c (φ m) z.0) (comb_zeros cs M z.1) ∙ zero_add_zero

    pub comb_vanish : (cs : List K) (M : List A) → Every (λ m. Z (φ m)) M → comb φ cs M ≡ 𝟘
    comb_vanish cs [] z = refl
    comb_vanish [] (m ∷ M) z = refl
    comb_vanish (c ∷ cs) (m ∷ M) z = ap₂ add (times_Z c (φ m) z.0) (comb_vanish cs M z.1) ∙ zero_add_zero

  abbrev pub Row : Type 0
  Row = List K

  abbrev pub col : ℕ → Row → K
  col j r = get_or r j 𝟘

  abbrev pub Indep : List Row → Type 0
  Indep M = (cs : List K) → length cs ≡ length M → ((j : ℕ) → comb (col j) cs M ≡ 𝟘) → Every Z cs

  abbrev pub zeros : ℕ → List K
  zeros zero = []
  zeros (suc n) = 𝟘 ∷ zeros n

  pub length_zeros : (n : ℕ) → length (zeros n) ≡ n
  length_zeros zero = refl
  length_zeros (suc n) = ap suc (length_zeros n)

  pub zeros_Z : (n : ℕ) → Every Z (zeros n)
  zeros_Z zero = tt
  zeros_Z (suc n) = (zero_Z, zeros_Z n)

  -- ## A column cleared

  -- a way to clear column c: each row is what it becomes and a multiple of v
  pub record Clearing (c : ℕ) (v : Row) : Type 0 where
    pub clear : Row → Row
    pub factor : Row → K
    pub parts : (w : Row) (j : ℕ) → mul 𝟙 (col j w) ≡ add (mul 𝟙 (col j (clear w))) (mul (factor w) (col j v))
    pub gone : (w : Row) → Z (col c (clear w))

  -- w + t·v
  abbrev pub plus_times : K → Row → Row → Row
  plus_times t [] w = w
  plus_times t (x ∷ v) [] = mul t x ∷ plus_times t v []
  plus_times t (x ∷ v) (y ∷ w) = add y (mul t x) ∷ plus_times t v w

  pub plus_times_at : (t : K) (v w : Row) (j : ℕ) → mul 𝟙 (col j (plus_times t v w)) ≡ add (mul 𝟙 (col j w)) (mul t (col j v))
  plus_times_at t [] w j = sym (ap (add (mul 𝟙 (col j w))) (mul_zero t) ∙ mul_plus_zero 𝟙 (col j w))
  plus_times_at t (x ∷ v) [] zero = one_mul_mul t x ∙ sym (ap (λ z. add z (mul t x)) zero_Z ∙ zero_add_mul t x)
  plus_times_at t (x ∷ v) [] (suc j) = plus_times_at t v [] j
  plus_times_at t (x ∷ v) (y ∷ w) zero = mul_add 𝟙 y (mul t x) ∙ ap (add (mul 𝟙 y)) (one_mul_mul t x)
  plus_times_at t (x ∷ v) (y ∷ w) (suc j) = plus_times_at t v w j

  module _ (c : ℕ) (v : Row) where
    -- the multiple of v that w is in column c
    abbrev pub share : Row → K
    share w = mul (col c w) (inv (col c v))

    abbrev pub less_share : Row → Row
    less_share w = plus_times (neg (share w)) v w

    pub less_share_parts : (w : Row) (j : ℕ) → mul 𝟙 (col j w) ≡ add (mul 𝟙 (col j (less_share w))) (mul (share w) (col j v))
    less_share_parts w j = sym (
        ap (λ z. add z (mul (share w) (col j v))) (plus_times_at (neg (share w)) v w j)
        ∙ add_assoc _ _ _ ∙ ap (add (mul 𝟙 (col j w))) (neg_add (share w) (col j v)) ∙ mul_plus_zero 𝟙 (col j w))

    pub less_share_gone : ¬ (Z (col c v)) → (w : Row) → Z (col c (less_share w))
    less_share_gone h w =
        plus_times_at (neg (share w)) v w c ∙ ap (λ z. add z (mul (neg (share w)) (col c v))) (sym whole) ∙ add_comm _ _ ∙ neg_add (share w) (col c v)
      where
        whole : mul (share w) (col c v) ≡ mul 𝟙 (col c w)
        whole = mul_assoc _ _ _ ∙ ap (mul (col c w)) (inv_mul (col c v) h) ∙ mul_comm (col c w) 𝟙

    pub clearing : ¬ (Z (col c v)) → Clearing c v
    clearing h = record { clear = less_share; factor = share; parts = less_share_parts; gone = less_share_gone h }

  module _ {c : ℕ} {v : Row} (C : Clearing c v) where
    open C use {clear, factor, parts, gone}

    pub every_gone : (M : List Row) → Every (λ w. Z (col c w)) (map clear M)
    every_gone [] = tt
    every_gone (w ∷ M) = (gone w, every_gone M)

    -- a combination of rows is that of the cleared rows and a multiple of v
    pub comb_clear : (j : ℕ) (cs : List K) (M : List Row) → comb (col j) cs M ≡ add (comb (col j) cs (map clear M)) (mul (comb factor cs M) (col j v))
    comb_clear j cs [] = sym (zero_add_mul 𝟘 (col j v) ∙ zero_mul S (col j v))
    comb_clear j [] (w ∷ M) = sym (zero_add_mul 𝟘 (col j v) ∙ zero_mul S (col j v))
    comb_clear j (a ∷ cs) (w ∷ M) =
        ap₂ add first (comb_clear j cs M)
        ∙ interchange (mul a (col j (clear w))) (mul (mul a (factor w)) (col j v)) (comb (col j) cs (map clear M)) (mul (comb factor cs M) (col j v))
        ∙ ap (add (add (mul a (col j (clear w))) (comb (col j) cs (map clear M)))) (sym (add_mul S (mul a (factor w)) (comb factor cs M) (col j v)))
      where
        first : mul a (col j w) ≡ add (mul a (col j (clear w))) (mul (mul a (factor w)) (col j v))
        first =
            sym (mul_one S a (col j w)) ∙ ap (mul a) (parts w j) ∙ mul_add a _ _
            ∙ ap₂ add (mul_one S a (col j (clear w))) (sym (mul_assoc a (factor w) (col j v)))

    pub indep_clear : ¬ (Z (col c v)) → (M : List Row) → Indep (map clear M) → Indep (v ∷ M)
    indep_clear h M I [] e k = tt
    indep_clear h M I (a ∷ cs) e k = (first, zs)
      where
        t : K
        t = comb factor cs M

        X : ℕ → K
        X j = comb (col j) cs (map clear M)

        all : (j : ℕ) → add (mul (add a t) (col j v)) (X j) ≡ 𝟘
        all j =
            ap (λ z. add z (X j)) (add_mul S a t (col j v)) ∙ add_assoc _ _ _
            ∙ ap (add (mul a (col j v))) (add_comm (mul t (col j v)) (X j) ∙ sym (comb_clear j cs M)) ∙ k j

        at_c : X c ≡ 𝟘
        at_c = comb_vanish (col c) cs (map clear M) (every_gone M)

        sum_Z : Z (add a t)
        sum_Z = factor_Z (add a t) (col c v) h (sym (mul_plus_zero (add a t) (col c v)) ∙ ap (add (mul (add a t) (col c v))) (sym at_c) ∙ all c)

        cleared_zero : (j : ℕ) → X j ≡ 𝟘
        cleared_zero j = sym (comb_red (col j) cs (map clear M)) ∙ ap (λ z. add z (X j)) (sym (zero_term S (add a t) (col j v) sum_Z)) ∙ all j

        zs : Every Z cs
        zs = I cs (let l : length (map clear M) ≡ length M = length_map clear M in omega arith) cleared_zero

        first : Z a
        first =
            sym (mul_plus_zero 𝟙 a) ∙ ap (add (mul 𝟙 a)) (sym zero_Z ∙ ap (mul 𝟙) (sym (comb_zeros factor cs M zs)))
            ∙ sym (mul_add 𝟙 a t) ∙ sum_Z
