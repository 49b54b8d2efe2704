-- What a state's words mean, and the words of a state: the bound on p decides only whether a p above the old one is sound.
use mathlib.Core.Path.{◌≡◌, refl, ap, ◌∙◌}
use mathlib.Core.Bool.{Bool, true, false}
use mathlib.Core.List.{List, [], ◌∷◌, ◌++◌, reverse}
use Prim.Native.Nat.{ℕ, zero, suc, ◌*◌, ◌≤◌}
use native.Mathlib.Omega.{arith}
use lib.Dec.{leb}
use lib.ListN.{length, get_or, take, drop}
use Rattle.definitions.specs.Limits.{Limits}
use Rattle.definitions.specs.Lists.{◌and◌, every}
use Rattle.definitions.specs.Monomial.{Level, same_exponents?}
use Rattle.definitions.specs.Problem.{Parameters, in_ranges?}
use Rattle.definitions.specs.State.{State, empty, vector_sound?, terms_of, degrees_sound?, levels_sound?, sound?}
use Rattle.definitions.specs.Degrees.{carried}
use Rattle.definitions.specs.Layout.{Words, padded, rows_of, joined, level_vectors, level_rows, rows_place, degrees_place, counts_of, all_counts}
use Rattle.definitions.specs.Layout.{all_rows, all_carried, encode, level_at, levels_at, degrees_at, decode, carried_place, carries?}
use Rattle.definitions.specs.Layout.{words_sound?, all_words_sound?, holds_state?, meant, Way, division, hybrid, tree, work_words}
use Rattle.definitions.specs.Places.{row_length}
use Rattle.primes.specs.Primes.{with_prime_bound}
use Rattle.primes.proofs.Reading.{in_range_same}

module _ (lim : Limits) (bound : ℕ) where
  abbrev wide : Limits
  wide = with_prime_bound bound lim

  -- ## Without the bound

  pub work_same : (way : Way) → work_words wide way ≡ work_words lim way
  work_same division = refl
  work_same (hybrid pick) = refl
  work_same tree = refl

  levels_same : (q : Parameters) (ls : List Level) → levels_sound? wide q ls ≡ levels_sound? lim q ls
  levels_same q [] = refl
  levels_same q (f ∷ []) = refl
  levels_same q (f ∷ g ∷ below) =
      ap (λ b. b and leb (length f) lim.vectors and leb (terms_of f) lim.level_terms
      and every (vector_sound? lim q (length g) lim.vector (g ∷ below)) f)
      (levels_same q (g ∷ below))

  words_same : (s : Words) (k : ℕ) → all_words_sound? wide s k ≡ all_words_sound? lim s k
  words_same s zero = refl
  words_same s (suc k) = ap (λ b. words_sound? lim s k and b) (words_same s k)

  held_same : (s : Words) (k : ℕ) → levels_at wide s k ≡ levels_at lim s k
  held_same s zero = refl
  held_same s (suc k) = ap (λ ls. level_at lim s k ∷ ls) (held_same s k)

  decode_same : (s : Words) → decode wide s ≡ decode lim s
  decode_same s = λ i. record {
    parameters = record { p = get_or s 0 0; n = get_or s 1 0; code = get_or s 2 0; s = get_or s 3 0; degrees = degrees_at lim s };
    levels = held_same s (get_or s 4 0) i;
  }

  counts_same : (fs : List Level) → all_counts wide fs ≡ all_counts lim fs
  counts_same [] = refl
  counts_same (f ∷ fs) = ap (λ ws. counts_of lim f ++ ws) (counts_same fs)

  rows_same : (fs : List Level) → all_rows wide fs ≡ all_rows lim fs
  rows_same [] = refl
  rows_same (f ∷ fs) = ap (λ ws. padded (level_rows lim * row_length) (rows_of (joined f)) ++ ws) (rows_same fs)

  carried_same : (dss : List Words) → all_carried wide dss ≡ all_carried lim dss
  carried_same [] = refl
  carried_same (ds ∷ dss) = ap (λ ws. padded (level_vectors lim) ds ++ ws) (carried_same dss)

  pub encode_same : (size : ℕ) (X : State) → encode wide size X ≡ encode lim size X
  encode_same size X = λ i.
      let q = X.parameters in
      padded size (padded (degrees_place lim) (padded (rows_place lim 0)
      (q.p ∷ q.n ∷ q.code ∷ q.s ∷ length X.levels ∷ counts_same (reverse X.levels) i) ++ rows_same (reverse X.levels) i)
      ++ (padded lim.components q.degrees ++ carried_same (reverse (carried q.degrees X.levels)) i))

  carries_same : (s : Words) (dss : List Words) → carries? wide s dss ≡ carries? lim s dss
  carries_same s [] = refl
  carries_same s (ds ∷ dss) =
      ap (λ b. same_exponents? (take (length ds) (drop (carried_place lim (length dss)) s)) ds and b) (carries_same s dss)

  -- ## Soundness, for a p within the old bound

  module _ (l : lim.prime_bound ≤ bound) where
    pub sound_same : (X : State) → X.parameters.p ≤ lim.prime_bound → sound? wide X ≡ sound? lim X
    sound_same X h = λ i.
        in_range_same lim bound l X.parameters.p h i and in_ranges? lim X.parameters and degrees_sound? X.parameters and
        leb (length X.levels) (suc lim.levels) and levels_same X.parameters X.levels i

    holds_same : (s : Words) → get_or s 0 0 ≤ lim.prime_bound → holds_state? wide s ≡ holds_state? lim s
    holds_same s h =
        (λ i. leb (get_or s 4 0) (suc lim.levels) and words_same s (get_or s 4 0) i and sound? wide (decode_same s i) and
        carries? wide s (carried (degrees_at lim s) (held_same s (get_or s 4 0) i)))
        ∙ (λ i. leb (get_or s 4 0) (suc lim.levels) and all_words_sound? lim s (get_or s 4 0) and sound_same (decode lim s) h i and
        carries_same s (carried (degrees_at lim s) (levels_at lim s (get_or s 4 0))) i)

    pub meant_same : (s : Words) → get_or s 0 0 ≤ lim.prime_bound → meant wide s ≡ meant lim s
    meant_same s h = λ i. elim (holds_same s h i) [ true ↦ decode_same s i | false ↦ empty ]

  abbrev Within : State → Type 0
  Within X = X.parameters.p ≤ lim.prime_bound

  pub meant_within : (s : Words) → get_or s 0 0 ≤ lim.prime_bound → Within (meant lim s)
  meant_within s h = go (holds_state? lim s)
    where
      go : (b : Bool) → Within (elim b [ true ↦ decode lim s | false ↦ empty ])
      go true = h
      go false = omega arith
