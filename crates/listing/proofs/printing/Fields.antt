-- Numbers after commas.
use mathlib.Core.Path.{◌≡◌, refl, sym, ap, ◌∙◌}
use mathlib.Core.List.{List, [], ◌∷◌, ◌++◌, append_assoc, append-nil}
use Prim.Native.Nat.{ℕ, suc, ◌+◌, ◌<◌}
use native.Mathlib.Omega.{arith}
use lib.ListN.{length, get_or, take}
use lib.Seq.{take-suc}
use Rattle.definitions.specs.Problem.{newline}
use Rattle.definitions.specs.Sheet.{decimal, fields}
use Rattle.listing.specs.printing.Lines.{listed}

pub fields_listed : (vs : List ℕ) → fields vs ≡ listed vs ++ newline ∷ []
fields_listed [] = refl
fields_listed (v ∷ vs) = ap (λ z. 44 ∷ decimal v ++ z) (fields_listed vs) ∙ ap (λ z. 44 ∷ z) (sym (append_assoc (decimal v) (listed vs) (newline ∷ [])))

pub listed_append : (xs ys : List ℕ) → listed (xs ++ ys) ≡ listed xs ++ listed ys
listed_append [] ys = refl
listed_append (x ∷ xs) ys = ap (λ z. 44 ∷ decimal x ++ z) (listed_append xs ys)
    ∙ ap (λ z. 44 ∷ z) (sym (append_assoc (decimal x) (listed xs) (listed ys)))

pub listed_more : (e : List ℕ) (j : ℕ) → j < length e → listed (take j e) ++ 44 ∷ decimal (get_or e j 0) ≡ listed (take (j + 1) e)
listed_more e j h =
    let s : suc j ≡ j + 1 = omega arith in
    ap (λ z. listed (take j e) ++ 44 ∷ z) (sym (append-nil (decimal (get_or e j 0))))
    ∙ sym (listed_append (take j e) (get_or e j 0 ∷ []))
    ∙ ap listed (sym (take-suc e j 0 h))
    ∙ ap (λ i. listed (take i e)) s
