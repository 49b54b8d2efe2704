-- Runs of division and of hybrid lifting, whichever term each step picks and whatever of lower order is dropped.
use Rattle.std.specs.Prelude.{◌≡◌, [], ◌∷◌, ◌++◌, ℕ}
use Rattle.std.proofs.Common.{inl}
use Rattle.theory.specs.Laws.{Scalars, Monoid, Level}
use Rattle.theory.specs.Vec.{Vec, Same, scale, All}
use Rattle.theory.specs.Syzygy.{Family}
use Rattle.theory.specs.Reckon.{Reducer, Lower, Reducers, turned, others}

module _ (S : Scalars) {M : Monoid} (L : Level M) (F : Family S L) (reducer : Reducers S L F) where
  open S use {K, mul}
  open M use {E}
  open L use {B}

  -- a step takes any term c · b of the working value g: its multiple goes into the vector, the other products into g;
  -- those in low, of lower order, are dropped
  pub record Step (v : Vec S (E × ℕ)) (g : Vec S B) (v' : Vec S (E × ℕ)) (g' : Vec S B) : Type 0 where
    pub c : K
    pub b : B
    pub kept : Vec S B
    pub low : Vec S B
    pub r : Reducer S L F b
    pub known : reducer b ≡ inl r
    pub picked : Same S g ((c, b) ∷ kept)
    pub recorded : Same S v' ((mul c (turned S L F r), r.at) ∷ v)
    pub lower : All S (Lower S L F) low
    pub products : Same S (g' ++ low) (kept ++ scale S c (others S L F r))

  -- terms of lower order leave the working value, at the start or at any time
  pub record Drop (g g' : Vec S B) : Type 0 where
    pub low : Vec S B
    pub lower : All S (Lower S L F) low
    pub split : Same S (g' ++ low) g

  -- a run from the vector v and the value g to the vector w and the value h
  pub data Run : Vec S (E × ℕ) → Vec S B → Vec S (E × ℕ) → Vec S B → Type 0 where
    stop : {v : Vec S (E × ℕ)} {g : Vec S B} → Run v g v g
    turn : {v v' w : Vec S (E × ℕ)} {g g' h : Vec S B} → Step v g v' g' → Run v' g' w h → Run v g w h
    drop : {v w : Vec S (E × ℕ)} {g g' h : Vec S B} → Drop g g' → Run v g' w h → Run v g w h

  -- division: nothing is dropped
  abbrev pub Whole : {v w : Vec S (E × ℕ)} {g h : Vec S B} → Run v g w h → Type 0
  Whole stop = Unit {0}
  Whole (turn s r) = (s.low ≡ []) × Whole r
  Whole (drop d r) = (d.low ≡ []) × Whole r
