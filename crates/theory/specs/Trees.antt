-- The tree of liftings, with any cache.
use Rattle.std.specs.Prelude.{◌≡◌, ◌⊎◌, List, [], ◌∷◌, ◌++◌, ℕ}
use Rattle.std.proofs.Common.{inl}
use Rattle.theory.specs.Laws.{Scalars, Monoid, Level}
use Rattle.theory.specs.Vec.{Vec, Same, scale}
use Rattle.theory.specs.Syzygy.{Family}
use Rattle.theory.specs.Reckon.{Reducer, Lower, Reducers, turned, others}

module _ (S : Scalars) {M : Monoid} (L : Level M) (F : Family S L) (reducer : Reducers S L F) where
  open S use {K}
  open M use {E}
  open L use {B}

  -- monomials with their liftings
  abbrev pub Cache : Type 0
  Cache = List (B × Vec S (E × ℕ))

  -- one of the entries
  abbrev pub Among : B → Vec S (E × ℕ) → Cache → Type 0
  Among b w [] = ⊥
  Among b w (e ∷ C) = ((e.0 ≡ b) × (e.1 ≡ w)) ⊎ Among b w C

  -- whatever C holds, D holds too
  abbrev pub Within : Cache → Cache → Type 0
  Within C D = (b : B) (w : Vec S (E × ℕ)) → Among b w C → Among b w D

  -- The tree lifts the terms of a value one by one: a term of lower order adds nothing; a term whose lifting is in the cache adds that, scaled;
  -- any other adds its subtree, scaled, whose sum w may afterwards stand in the cache, and any entry may leave the cache
  pub data Tree : Cache → Vec S B → Vec S (E × ℕ) → Cache → Type 0 where
    empty : {C : Cache} → Tree C [] [] C
    lower : {C D : Cache} {c : K} {b : B} {g : Vec S B} {u : Vec S (E × ℕ)} → Lower S L F b → Tree C g u D → Tree C ((c, b) ∷ g) u D
    cached : {C D : Cache} {c : K} {b : B} {g : Vec S B} {u : Vec S (E × ℕ)} (w : Vec S (E × ℕ)) → Among b w C → Tree C g u D
        → Tree C ((c, b) ∷ g) (scale S c w ++ u) D
    grown : {C D D' H : Cache} {c : K} {b : B} {g : Vec S B} {u x w : Vec S (E × ℕ)} (r : Reducer S L F b) → reducer b ≡ inl r
        → Tree C (others S L F r) x D → Same S w ((turned S L F r, r.at) ∷ x)
        → Within D' ((b, w) ∷ D) → Tree D' g u H
        → Tree C ((c, b) ∷ g) (scale S c w ++ u) H
