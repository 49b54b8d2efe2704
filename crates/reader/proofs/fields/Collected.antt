-- The numbers of a line while they are collected in an array of sixteen.
use mathlib.Core.Path.{◌≡◌, refl, sym, ap, ◌∙◌}
use mathlib.Core.Option.{Option, none, some}
use mathlib.Core.List.{List, [], ◌∷◌, ◌++◌, append_assoc, append-nil}
use Prim.Native.Nat.{ℕ, suc, ◌+◌, ◌-◌, ◌<◌, ◌≤◌}
use native.Mathlib.Omega.{arith}
use native.Mathlib.Numerals.{add-one}
use lib.ListN.{length, take, drop, set, replicate, take-append-drop}
use lib.Seq.{take-suc-set, drop-set-lt, drop-drop, length-take-le}
use Rattle.definitions.specs.Lists.{◌then◌}
use Rattle.definitions.specs.Problem.{Bytes}
use Rattle.definitions.specs.Layout.{Words, padded}
use Rattle.reader.specs.fields.Scanning.{field_first, line_end, numbers_first, in_sixteen}

-- the first i numbers of the array stand before those still to come
abbrev pub so_far : Words → ℕ → Option (List ℕ × Bytes) → Option (List ℕ × Bytes)
so_far numbers i o = o then λ r. some (take i numbers ++ r.0, r.1)

pub none_so_far : (numbers : Words) (count : ℕ) (bytes : Bytes) → numbers_first 65535 count bytes
    ≡ so_far numbers 0 (numbers_first 65535 (count - 0) bytes)
none_so_far numbers count bytes = let k : count ≡ count - 0 = omega arith in ap (λ n. numbers_first 65535 n bytes) k
    ∙ go (numbers_first 65535 (count - 0) bytes)
  where
    go : (o : Option (List ℕ × Bytes)) → o ≡ so_far numbers 0 o
    go none = refl
    go (some r) = refl

-- zeros stand behind the first i
abbrev pub ZerosFrom : ℕ → Words → Type 0
ZerosFrom i numbers = drop i numbers ≡ replicate (16 - i) 0

module _ (numbers : Words) (count i : ℕ) (bytes : Bytes) where
  pub no_field : i < count → field_first 65535 bytes ≡ none → in_sixteen (so_far numbers i (numbers_first 65535 (count - i) bytes)) ≡ none
  no_field h e =
      let k : count - i ≡ suc (count - suc i) = omega arith in
      ap (λ n. in_sixteen (so_far numbers i (numbers_first 65535 n bytes))) k
      ∙ ap (λ o. in_sixteen (so_far numbers i (o then λ f. numbers_first 65535 (count - suc i) f.1 then λ r. some (f.0 ∷ r.0, r.1)))) e

  -- one number more
  pub one_field : (v : ℕ) (rest : Bytes) → i < count → i < length numbers → field_first 65535 bytes ≡ some (v, rest)
      → so_far numbers i (numbers_first 65535 (count - i) bytes) ≡ so_far (set numbers i v) (i + 1) (numbers_first 65535 (count - (i + 1)) rest)
  one_field v rest h l e =
      let k : count - i ≡ suc (count - (i + 1)) = omega arith in
      ap (λ n. so_far numbers i (numbers_first 65535 n bytes)) k
      ∙ ap (λ o. so_far numbers i (o then λ f. numbers_first 65535 (count - (i + 1)) f.1 then λ r. some (f.0 ∷ r.0, r.1))) e
      ∙ go (numbers_first 65535 (count - (i + 1)) rest)
    where
      moved : (vs : List ℕ) → take i numbers ++ v ∷ vs ≡ take (i + 1) (set numbers i v) ++ vs
      moved vs =
          sym (append_assoc (take i numbers) (v ∷ []) vs)
          ∙ ap (λ l. l ++ vs) (sym (take-suc-set numbers i v l) ∙ ap (λ n. take n (set numbers i v)) (sym (add-one i)))

      go : (o : Option (List ℕ × Bytes)) → so_far numbers i (o then λ r. some (v ∷ r.0, r.1)) ≡ so_far (set numbers i v) (i + 1) o
      go none = refl
      go (some r) = ap (λ (l : List ℕ). some (l, r.1)) (moved r.0)

  -- the line's end: the array holds all numbers
  pub all_fields : (rest : Bytes) → i ≤ count → count ≤ i → count ≤ 16 → length numbers ≡ 16 → ZerosFrom i numbers → line_end bytes ≡ some ([], rest)
      → some (numbers, rest) ≡ in_sixteen (so_far numbers i (numbers_first 65535 (count - i) bytes))
  all_fields rest h k few n z e =
      let q : count - i ≡ 0 = omega arith in
      sym (ap (λ m. in_sixteen (so_far numbers i (numbers_first 65535 m bytes))) q ∙ ap (λ o. in_sixteen (so_far numbers i o)) e
      ∙ ap (λ (l : List ℕ). some (l, rest)) whole)
    where
      short : length (take i numbers) ≡ i
      short = length-take-le i numbers (omega arith)

      whole : padded 16 (take i numbers ++ []) ≡ numbers
      whole =
          ap (padded 16) (append-nil (take i numbers)) ∙ ap (λ m. take i numbers ++ replicate (16 - m) 0) short
          ∙ ap (λ l. take i numbers ++ l) (sym z) ∙ take-append-drop i numbers

pub zeros_behind : (numbers : Words) (i v : ℕ) → i < 16 → ZerosFrom i numbers → ZerosFrom (i + 1) (set numbers i v)
zeros_behind numbers i v h z =
    let k : 16 - i ≡ suc (16 - (i + 1)) = omega arith in
    let l : i < i + 1 = omega arith in
    drop-set-lt (i + 1) numbers i v l ∙ sym (drop-drop 1 i numbers) ∙ ap (drop 1) (z ∙ ap (λ n. replicate n 0) k)
