-- The twisted cubic, p = 7, degree reverse lexicographic: y² − xz, yz − xw, z² − yw; and a family that is no Gröbner basis.
use mathlib.Core.Path.{◌≡◌, refl}
use mathlib.Core.Logic.{◌≢◌, inl}
use mathlib.Core.Bool.{true, false}
use mathlib.Core.List.{List, [], ◌∷◌}
use Prim.Native.Nat.{ℕ}
use lib.Dec.{lit<}
use Rattle.definitions.specs.Limits.{Limits, document_01}
use Rattle.definitions.specs.Monomial.{Exponents, Monomial, Vector, Level}
use Rattle.definitions.specs.Result.{done, refused}
use Rattle.definitions.specs.Stage.{Stage, stage_over}
use Rattle.definitions.specs.Run.{run, hybrid_strategy, division_strategy, accepting_strategy}
use Rattle.definitions.specs.Problem.{Parameters}
use Rattle.definitions.specs.State.{sound?}
use native.Mathlib.Omega.{arith}
use Rattle.sweeps.specs.Sizes.{resized, eight_variables}
use Rattle.sweeps.specs.Table.{few?}
use Rattle.sweeps.specs.Sweep.{swept, remainder, certified?, closed_in_order?}
use Rattle.sweeps.specs.Places.{Row, no_more_in, skips_in, leads_in, RowsIn, RootsIn, renumbered, no_row, ordered_nodes, ordered_rows, inverse?}
use Rattle.sweeps.specs.Claims.{Certified, Discovered, passed_vector, passed_settled?, Passed}
use Rattle.sweeps.proofs.Footing.{Footing, footing_resized, sound_footing}
use Rattle.sweeps.proofs.Certified.{certified}
use Rattle.sweeps.proofs.Closed.{closed_certified}
use Rattle.sweeps.proofs.Renumbered.{discovered_passed}

abbrev at : ℕ → ℕ → ℕ → ℕ → Exponents
at x y z w = x ∷ y ∷ z ∷ w ∷ 0 ∷ 0 ∷ 0 ∷ 0 ∷ []

abbrev q : Parameters
q = record { p = 7; n = 4; code = 3; s = 1; degrees = 0 ∷ [] }

abbrev f : Level
f = ((1, (at 0 2 0 0, 1)) ∷ (6, (at 1 0 1 0, 1)) ∷ []) ∷ ((1, (at 0 1 1 0, 1)) ∷ (6, (at 1 0 0 1, 1)) ∷ []) ∷ ((1, (at 0 0 2 0, 1)) ∷ (6, (at 0 1 0 1, 1)) ∷
    []) ∷ []

abbrev S : Stage
S = stage_over document_01 7 3 (f ∷ [])

-- y·e_2
abbrev m : Monomial
m = (at 0 1 0 0, 2)

-- y²z, xz²; the product xyw is of lower order
abbrev N : List Monomial
N = (at 0 2 1 0, 1) ∷ (at 1 0 2 0, 1) ∷ []

abbrev kept : List Monomial
kept = (at 0 2 1 0, 1) ∷ (at 1 0 2 0, 1) ∷ (at 1 1 0 1, 1) ∷ []

-- y·e_2 − z·e_1 − x·e_3
abbrev v : Vector
v = (1, (at 0 1 0 0, 2)) ∷ (6, (at 0 0 1 0, 1)) ∷ (6, (at 1 0 0 0, 3)) ∷ []

certificate : certified? q [] S true N m ≡ true
certificate = refl

certificate_kept : certified? q [] S false kept m ≡ true
certificate_kept = refl

-- not all that is kept, not descending, one node short
no_certificate : certified? q [] S false N m ≡ false
no_certificate = refl

not_descending : certified? q [] S true ((at 1 0 2 0, 1) ∷ (at 0 2 1 0, 1) ∷ []) m ≡ false
not_descending = refl

one_short : certified? q [] S true ((at 0 2 1 0, 1) ∷ []) m ≡ false
one_short = refl

the_sweep : swept S N m ≡ v
the_sweep = refl

the_sweep_kept : swept S kept m ≡ v
the_sweep_kept = refl

nothing_left : remainder S kept m ≡ []
nothing_left = refl

the_run : run S (hybrid_strategy S 2) 9 m ≡ done v
the_run = refl

the_division : run S (division_strategy S) 9 m ≡ done v
the_division = refl

the_acceptance : run S (accepting_strategy S) 9 m ≡ done v
the_acceptance = refl

closed : closed_in_order? q [] S false kept m ≡ true
closed = refl

not_closed : closed_in_order? q [] S false N m ≡ false
not_closed = refl

closed_not_descending : closed_in_order? q [] S true ((at 1 0 2 0, 1) ∷ (at 0 2 1 0, 1) ∷ []) m ≡ false
closed_not_descending = refl

-- the theorem's hypotheses can be met: where what is of lower order is kept, acceptance is decided
stands : Footing document_01 (eight_variables q) (f ∷ [])
stands = sound_footing document_01 q (omega arith) (f ∷ []) tt

theorem_kept : Certified document_01 (eight_variables q) (f ∷ []) false kept m
theorem_kept = certified document_01 (eight_variables q) f [] stands m (inl refl) false kept tt

decided_kept : (v ≡ swept S kept m) × (remainder S kept m ≡ [])
decided_kept = theorem_kept.decides refl 9

theorem_closed : Certified document_01 (eight_variables q) (f ∷ []) false kept m
theorem_closed = closed_certified document_01 (eight_variables q) f [] stands m (inl refl) false kept tt

-- ## The same by a table, its nodes in the order of their discovery

abbrev found : List Monomial
found = (at 1 0 2 0, 1) ∷ (at 0 2 1 0, 1) ∷ []

-- xz² = x·z², y²z = z·y²
abbrev rows : List Row
rows = record { reduced = true; turned = 6; multiple = (at 1 0 0 0, 3); edges = [] } ∷ record {
  reduced = true;
  turned = 6;
  multiple = (at 0 0 1 0, 1);
  edges
      = (0, 1) ∷ [];
} ∷ []

rows_right : RowsIn S true found found rows
rows_right = ((refl, refl, refl, skips_in tt tt no_more_in), ((refl, refl, refl, leads_in 0 (lit< tt) refl tt no_more_in), tt))

-- y·f_2: y²z, and xyw dropped
roots_right : RootsIn S true found m ((1, 1) ∷ [])
roots_right = leads_in 1 (lit< tt) refl tt (skips_in tt tt no_more_in)

abbrev order : List ℕ
order = 1 ∷ 0 ∷ []

orders : inverse? 2 order order ≡ true
orders = refl

no_order : inverse? 2 (1 ∷ 1 ∷ []) (1 ∷ 0 ∷ []) ≡ false
no_order = refl

ordered : ordered_nodes order found ≡ N
ordered = refl

the_pass : passed_vector 7 N (ordered_rows order order rows) (renumbered order ((1, 1) ∷ [])) m ≡ v
the_pass = refl

discovered : Discovered document_01 (eight_variables q) (f ∷ []) true found rows
discovered = record { few = tt; fit = tt; placed = tt; rows = rows_right }

theorem : Passed document_01 (eight_variables q) (f ∷ []) true (ordered_nodes order found) (ordered_rows order order rows) (renumbered order ((1, 1) ∷ [])) m
theorem = discovered_passed document_01 (eight_variables q) f [] stands true found rows discovered order order tt tt m (inl refl) ((1, 1) ∷ []) roots_right

-- ## Three nodes, of which each changes its place, so that an order is not its own inverse

-- xyw, y²z, xz²
abbrev found₃ : List Monomial
found₃ = (at 1 1 0 1, 1) ∷ (at 0 2 1 0, 1) ∷ (at 1 0 2 0, 1) ∷ []

abbrev rows₃ : List Row
rows₃ = no_row ∷ record { reduced = true; turned = 6; multiple = (at 0 0 1 0, 1); edges = (2, 1) ∷ [] } ∷ record {
  reduced = true;
  turned = 6;
  multiple = (at 1 0 0 0, 3);
  edges
      = (0, 1) ∷ [];
} ∷ []

-- y·f_2: y²z − xyw
abbrev roots₃ : List (ℕ × ℕ)
roots₃ = (1, 1) ∷ (0, 6) ∷ []

abbrev order₃ : List ℕ
order₃ = 1 ∷ 2 ∷ 0 ∷ []

abbrev place₃ : List ℕ
place₃ = 2 ∷ 0 ∷ 1 ∷ []

orders₃ : inverse? 3 order₃ place₃ ≡ true
orders₃ = refl

-- an order is not its own inverse, and where order and place are exchanged, the nodes are in another order
not_inverse : inverse? 3 order₃ order₃ ≡ false
not_inverse = refl

ordered₃ : ordered_nodes order₃ found₃ ≡ kept
ordered₃ = refl

exchanged₃ : ordered_nodes place₃ found₃ ≡ (at 1 0 2 0, 1) ∷ (at 1 1 0 1, 1) ∷ (at 0 2 1 0, 1) ∷ []
exchanged₃ = refl

the_roots₃ : renumbered place₃ roots₃ ≡ (0, 1) ∷ (2, 6) ∷ []
the_roots₃ = refl

the_pass₃ : passed_vector 7 kept (ordered_rows order₃ place₃ rows₃) (renumbered place₃ roots₃) m ≡ v
the_pass₃ = refl

the_flag₃ : passed_settled? 7 kept (ordered_rows order₃ place₃ rows₃) (renumbered place₃ roots₃) ≡ true
the_flag₃ = refl

theorem₃ : Passed document_01 (eight_variables q) (f ∷ []) false (ordered_nodes order₃ found₃) (ordered_rows order₃ place₃ rows₃) (renumbered place₃ roots₃) m
theorem₃ =
    discovered_passed document_01 (eight_variables q) f [] stands false found₃ rows₃
    (record {
      few = tt;
      fit = tt;
      placed = tt;
      rows = (
        (refl, refl, refl),
        ((refl, refl, refl, leads_in 2 (lit< tt) refl tt no_more_in), ((refl, refl, refl, leads_in 0 (lit< tt) refl tt no_more_in), tt)),
      );
    })
    order₃ place₃ tt tt m (inl refl) roots₃ (leads_in 1 (lit< tt) refl tt (leads_in 0 (lit< tt) refl tt no_more_in))

-- ## With less room

-- with room for as many terms as there are nodes, and for one more in a vector; not with room for fewer
abbrev narrow : Limits
narrow = resized 2 3 0 0 document_01

discovered_in_less : Discovered narrow (eight_variables q) (f ∷ []) true found rows
discovered_in_less = record {
  few = tt;
  fit = tt;
  placed = tt;
  rows = ((refl, refl, refl, skips_in tt tt no_more_in), ((refl, refl, refl, leads_in 0 (lit< tt) refl tt no_more_in), tt));
}

theorem_in_less : Passed narrow (eight_variables q) (f ∷ []) true (ordered_nodes order found) (ordered_rows order order rows) (renumbered order ((1, 1) ∷ [])) m
theorem_in_less =
    discovered_passed narrow (eight_variables q) f [] (footing_resized document_01 (eight_variables q) (f ∷ []) stands 2 3 0 0) true found rows
    discovered_in_less
    order order tt tt m (inl refl) ((1, 1) ∷ []) (leads_in 1 (lit< tt) refl tt (skips_in tt tt no_more_in))

too_narrow : few? (stage_over (resized 1 512 0 0 document_01) 7 3 (f ∷ [])) found ≡ false
too_narrow = refl

too_short : few? (stage_over (resized 512 2 0 0 document_01) 7 3 (f ∷ [])) found ≡ false
too_short = refl

-- ## y² − xz and yz − xw alone: xz² − xyw is left

abbrev g : Level
g = ((1, (at 0 2 0 0, 1)) ∷ (6, (at 1 0 1 0, 1)) ∷ []) ∷ ((1, (at 0 1 1 0, 1)) ∷ (6, (at 1 0 0 1, 1)) ∷ []) ∷ []

abbrev S' : Stage
S' = stage_over document_01 7 3 (g ∷ [])

left_certificate : certified? q [] S' false kept m ≡ true
left_certificate = refl

something_left : remainder S' kept m ≡ (1, (at 1 0 2 0, 1)) ∷ (6, (at 1 1 0 1, 1)) ∷ []
something_left = refl

nine : run S' (accepting_strategy S') 9 m ≡ refused 9 0 ((1, (at 1 0 2 0, 1)) ∷ (6, (at 1 1 0 1, 1)) ∷ [])
nine = refl

theorem_left : Certified document_01 (eight_variables q) (g ∷ []) false kept m
theorem_left = certified document_01 (eight_variables q) g [] (sound_footing document_01 q (omega arith) (g ∷ []) tt) m (inl refl) false kept tt

-- 9, and so something is left
decided_left : remainder S' kept m ≢ []
decided_left = (theorem_left.decides refl 9).1

-- ## Level 2 over x, y, z

abbrev xyz : Level
xyz = ((1, (at 1 0 0 0, 1)) ∷ []) ∷ ((1, (at 0 1 0 0, 1)) ∷ []) ∷ ((1, (at 0 0 1 0, 1)) ∷ []) ∷ []

-- x·e_2 − y·e_1, x·e_3 − z·e_1, y·e_3 − z·e_2
abbrev koszul : Level
koszul = ((1, (at 1 0 0 0, 2)) ∷ (6, (at 0 1 0 0, 1)) ∷ []) ∷ ((1, (at 1 0 0 0, 3)) ∷ (6, (at 0 0 1 0, 1)) ∷ []) ∷ ((1, (at 0 1 0 0, 3)) ∷ (
  6,
  (
    at 0 0 1 0,
    2,
  ),
) ∷ []) ∷ []

abbrev S₂ : Stage
S₂ = stage_over document_01 7 3 (koszul ∷ xyz ∷ [])

-- xy·e_3, xz·e_2
abbrev N₂ : List Monomial
N₂ = (at 1 1 0 0, 3) ∷ (at 1 0 1 0, 2) ∷ []

certificate₂ : certified? q (xyz ∷ []) S₂ true N₂ (at 1 0 0 0, 3) ≡ true
certificate₂ = refl

sound₂ : sound? document_01 (record { parameters = q; levels = koszul ∷ xyz ∷ [] }) ≡ true
sound₂ = refl

-- x·e_3 − y·e_2 + z·e_1
the_sweep₂ : swept S₂ N₂ (at 1 0 0 0, 3) ≡ (1, (at 1 0 0 0, 3)) ∷ (6, (at 0 1 0 0, 2)) ∷ (1, (at 0 0 1 0, 1)) ∷ []
the_sweep₂ = refl

the_run₂ : run S₂ (hybrid_strategy S₂ 2) 9 (at 1 0 0 0, 3) ≡ done ((1, (at 1 0 0 0, 3)) ∷ (6, (at 0 1 0 0, 2)) ∷ (1, (at 0 0 1 0, 1)) ∷ [])
the_run₂ = refl

theorem₂ : Certified document_01 (eight_variables q) (koszul ∷ xyz ∷ []) true N₂ (at 1 0 0 0, 3)
theorem₂ = certified document_01 (eight_variables q) koszul (xyz ∷ []) (sound_footing document_01 q (omega arith) (koszul ∷ xyz ∷ []) tt) (at 1 0 0 0, 3) (inl
    refl) true N₂ tt
