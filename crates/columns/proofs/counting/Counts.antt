-- Counts one degree after the other, and the numbers of a line one column after the other.
use mathlib.Core.Path.{◌≡◌, refl, sym, ap, ◌∙◌}
use mathlib.Core.Bool.{Bool, true, false}
use mathlib.Core.List.{List, [], ◌∷◌, ◌++◌}
use Prim.Native.Nat.{ℕ, zero, suc, ◌+◌, ◌<◌}
use native.Mathlib.Nat.{not-suc-le-zero}
use native.Mathlib.Omega.{arith}
use lib.ListN.{length, get_or, take}
use lib.Seq.{take-suc}
use Rattle.definitions.specs.Lists.{count, map, from}
use Rattle.definitions.specs.Pages.{all_columns}
use Rattle.definitions.specs.Places.{page_columns}
use Rattle.columns.specs.counting.Columns.{counted}

counted_suc : (b : Bool) (k : ℕ) → suc (counted b k) ≡ counted b (suc k)
counted_suc true k = refl
counted_suc false k = refl

count_last : (f : ℕ → Bool) (l : List ℕ) (a : ℕ) → count f (l ++ a ∷ []) ≡ counted (f a) (count f l)
count_last f [] a = go (f a)
  where
    go : (b : Bool) → ◌≡◌ {A = ℕ} (elim b [ true ↦ 1 | false ↦ 0 ]) (counted b 0)
    go true = refl
    go false = refl
count_last f (x ∷ l) a = go (f x) (count_last f l a)
  where
    go : (b : Bool) → count f (l ++ a ∷ []) ≡ counted (f a) (count f l)
        → ◌≡◌ {A = ℕ} (elim b [ true ↦ suc (count f (l ++ a ∷ [])) | false ↦ count f (l ++ a ∷ []) ])
        (counted (f a) (elim b [ true ↦ suc (count f l) | false ↦ count f l ]))
    go true e = ap suc e ∙ counted_suc (f a) (count f l)
    go false e = e

pub count_more : (f : ℕ → Bool) (l : List ℕ) (i : ℕ) → i < length l → counted (f (get_or l i 0)) (count f (take i l)) ≡ count f (take (i + 1) l)
count_more f l i h =
    let s : suc i ≡ i + 1 = omega arith in
    sym (count_last f (take i l) (get_or l i 0)) ∙ ap (count f) (sym (take-suc l i 0 h)) ∙ ap (λ j. count f (take j l)) s

pub counted_one : (b : Bool) (k : ℕ) → b ≡ true → k + 1 ≡ counted b k
counted_one b k e = let s : k + 1 ≡ suc k = omega arith in s ∙ sym (ap (λ x. counted x k) e)

pub counted_none : (b : Bool) (k : ℕ) → b ≡ false → k ≡ counted b k
counted_none b k e = sym (ap (λ x. counted x k) e)

-- ## Columns

at_place : (f : ℕ → ℕ) (a n k : ℕ) → k < n → get_or (map f (from a n)) k 0 ≡ f (a + k)
at_place f a zero k h = absurd (not-suc-le-zero h)
at_place f a (suc n) zero h = let e : a ≡ a + 0 = omega arith in ap f e
at_place f a (suc n) (suc k) h = let e : suc a + k ≡ a + suc k = omega arith in at_place f (suc a) n k (omega arith) ∙ ap f e

pub at_column : (f : ℕ → ℕ) (c : ℕ) → c < page_columns → f c ≡ get_or (map f all_columns) c 0
at_column f c h = let e : c ≡ 0 + c = omega arith in ap f e ∙ sym (at_place f 0 page_columns c h)
