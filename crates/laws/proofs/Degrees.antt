-- Degrees that vectors carry (A5): found from those that the level below carries, and what the state's words hold of them.
use mathlib.Core.Path.{◌≡◌, refl, sym, ap, ◌∙◌}
use mathlib.Core.List.{List, [], ◌∷◌}
use Prim.Native.Nat.{ℕ, zero, suc, ◌+◌, ◌-◌, ◌<◌, ◌≤◌}
use native.Mathlib.Omega.{arith}
use lib.Dec.{T, leb}
use lib.ListN.{length, get_or, take, drop}
use lib.Seq.{get_or-drop}
use Rattle.definitions.specs.Limits.{Limits}
use Rattle.definitions.specs.Lists.{◌and◌, every, between}
use Rattle.definitions.specs.Monomial.{Exponents, Monomial, Vector, Level, product, degree, leading, same_exponents?}
use Rattle.definitions.specs.Order.{image, image_by}
use Rattle.definitions.specs.Problem.{Parameters}
use Rattle.definitions.specs.State.{sound?, levels_sound?, vector_sound?, term_sound?}
use Rattle.definitions.specs.Degrees.{component_degree, degree_by, image_over, degree_of, degrees_of, carried}
use Rattle.definitions.specs.Layout.{Words, carried_place, degrees_at, levels_at, decode, all_words_sound?, carries?, holds_state?}
use Rattle.laws.proofs.Tests.{and_left, and_right, between_low, between_high}
use Rattle.laws.proofs.Members.{All, every_all, all_map, all_inside}
use Rattle.laws.proofs.Products.{degree_product, same_exponents_says}
use Rattle.laws.proofs.Induced.{Has, Led, Leads, shifted, image_has, image_shifted}
use Rattle.laws.proofs.Sound.{term_says, vector_says, basis_says, level_says}
use Rattle.laws.proofs.RoundTrip.{length_degrees, length_carried}

-- ## From the level below

-- a vector with a leading term of eight exponents
pub record Headed (v : Vector) : Type 0 where
  pub filled : 1 ≤ length v
  pub eight : Has 8 (leading v)

pub headed_led : (v : Vector) → Headed v → Led 8 v
headed_led [] h = tt
headed_led (t ∷ v) h = h.eight

abbrev pub AllHeaded : List Level → Type 0
AllHeaded [] = Unit {0}
AllHeaded (f ∷ below) = All Headed f × AllHeaded below

pub headed_leads : (below : List Level) → AllHeaded below → Leads 8 below
headed_leads [] h = tt
headed_leads (f ∷ below) h = (all_map Headed (Led 8) headed_led f h.0, headed_leads below h.1)

module _ (lim : Limits) (q : Parameters) where
  headed_by : (c most : ℕ) (below : List Level) (v : Vector) → T (vector_sound? lim q c most below v) → Headed v
  headed_by c most below [] h = absurd (let l = (vector_says lim q c most below [] h).filled in omega arith)
  headed_by c most below (t ∷ v) h =
      let s = vector_says lim q c most below (t ∷ v) h in
      record { filled = s.filled; eight = (term_says lim q c t (and_left (term_sound? lim q c t) (every (term_sound? lim q c) v) s.terms)).eight }

  pub vectors_headed : (c most : ℕ) (below : List Level) (f : Level) → T (every (vector_sound? lim q c most below) f) → All Headed f
  vectors_headed c most below f h =
      all_map (λ v. T (vector_sound? lim q c most below v)) Headed (headed_by c most below) f (every_all (vector_sound? lim q c most below) f h)

  pub sound_headed : (ls : List Level) → T (levels_sound? lim q ls) → AllHeaded ls
  sound_headed [] h = tt
  sound_headed (f ∷ []) h = (vectors_headed q.s lim.t_lines [] f (basis_says lim q f h).vectors, tt)
  sound_headed (f ∷ g ∷ below) h =
      let s = level_says lim q f g below h in
      (vectors_headed (length g) lim.vector (g ∷ below) f s.vectors, sound_headed (g ∷ below) s.under)

over_shifted : (below : List Level) (q : Exponents) (m : Monomial) → image_over below (shifted q m) ≡ shifted q (image_over below m)
over_shifted [] q m = refl
over_shifted (f ∷ below) q m = ap (image_over below) (image_shifted q f m) ∙ over_shifted below q (image f m)

pub over_has : (below : List Level) → Leads 8 below → (m : Monomial) → Has 8 m → Has 8 (image_over below m)
over_has [] l m h = h
over_has (f ∷ below) l m h = over_has below l.1 (image f m) (image_has 8 f l.0 m h)

degree_shifted : (d : List ℕ) (q : Exponents) (m : Monomial) → length q ≡ 8 → Has 8 m → degree_by d (shifted q m) ≡ degree q + degree_by d m
degree_shifted d q m h k =
    let e : degree (product q m.0) ≡ degree q + degree m.0 = degree_product q m.0 (k ∙ sym h) in
    ap (λ n. n + component_degree d m.1) e ∙ omega arith

image_headed : (e : Exponents) (v : Vector) → Headed v → image_by e v ≡ shifted e (leading v)
image_headed e [] h = absurd (let l = h.filled in omega arith)
image_headed e (t ∷ v) h = refl

pub getD_degrees : (d : List ℕ) (below : List Level) (f : Level) (j : ℕ) → j < length f → get_or (degrees_of d below f) j 0 ≡ degree_of d below (get_or f j [])
getD_degrees d below [] j h = absurd (omega arith)
getD_degrees d below (v ∷ f) zero h = refl
getD_degrees d below (v ∷ f) (suc j) h = getD_degrees d below f j (omega arith)

recursion_at : (d : List ℕ) (g : Level) (below : List Level) (e : Exponents) (c : ℕ) → AllHeaded (g ∷ below) → length e ≡ 8 → T (between 1 c (length g))
    → degree_by d (image_over (g ∷ below) (e, c)) ≡ degree e + get_or (degrees_of d below g) (c - 1) 0
recursion_at d g below e zero s h r = absurd (let l : 1 ≤ 0 = between_low 1 0 (length g) r in omega arith)
recursion_at d g below e (suc j) s h r =
    ap (λ x. degree_by d (image_over below x)) (image_headed e v led) ∙ ap (degree_by d) (over_shifted below e (leading v))
    ∙ degree_shifted d e (image_over below (leading v)) h (over_has below (headed_leads below s.1) (leading v) led.eight)
    ∙ ap (λ n. degree e + n) (sym (getD_degrees d below g j inside)) ∙ ap (λ i. degree e + get_or (degrees_of d below g) i 0) index
  where
    inside : j < length g
    inside = let l : suc j ≤ length g = between_high 1 (suc j) (length g) r in omega arith

    index : j ≡ suc j - 1
    index = omega arith

    v : Vector
    v = get_or g j []

    led : Headed (get_or g j [])
    led = all_inside Headed [] g j inside s.0

-- a term's degree is its monomial's and what its component carries in the level below
pub degree_recursion : (d : List ℕ) (g : Level) (below : List Level) (m : Monomial) → AllHeaded (g ∷ below) → length m.0 ≡ 8
    → T (between 1 m.1 (length g))
    → degree_by d (image_over (g ∷ below) m) ≡ degree m.0 + get_or (degrees_of d below g) (m.1 - 1) 0
degree_recursion d g below m = recursion_at d g below m.0 m.1

-- ## In the state's words

get_d_take : (n : ℕ) (l : List ℕ) (v : ℕ) → v < n → get_or (take n l) v 0 ≡ get_or l v 0
get_d_take zero l v h = absurd (omega arith)
get_d_take (suc n) [] v h = refl
get_d_take (suc n) (x ∷ l) zero h = refl
get_d_take (suc n) (x ∷ l) (suc v) h = get_d_take n l v (omega arith)

module _ (lim : Limits) (s : Words) (d : List ℕ) (f : Level) (below : List Level) (t : T (carries? lim s (carried d (f ∷ below)))) where
  abbrev ds : Words
  ds = degrees_of d below f

  -- the words of the highest level
  pub carries_words : take (length f) (drop (carried_place lim (length below)) s) ≡ degrees_of d below f
  carries_words =
      (λ i. take (sym (length_degrees d below f) i) (drop (carried_place lim (sym (length_carried d below) i)) s))
      ∙ same_exponents_says (take (length ds) (drop (carried_place lim (length (carried d below))) s)) ds
      (and_left (same_exponents? (take (length ds) (drop (carried_place lim (length (carried d below))) s)) ds) (carries? lim s (carried d below)) t)

  pub carries_here : (v : ℕ) → v < length f → get_or s (carried_place lim (length below) + v) 0 ≡ degree_of d below (get_or f v [])
  carries_here v h =
      sym (get_or-drop (carried_place lim (length below)) s v 0) ∙ sym (get_d_take (length f) (drop (carried_place lim (length below)) s) v h)
      ∙ ap (λ (l : List ℕ). get_or l v 0) carries_words ∙ getD_degrees d below f v h

  pub carries_below : T (carries? lim s (carried d below))
  carries_below =
      and_right (same_exponents? (take (length ds) (drop (carried_place lim (length (carried d below))) s)) ds) (carries? lim s (carried d below)) t

-- the parts of the test of any contents
pub record Holds (lim : Limits) (s : Words) : Type 0 where
  pub complete : T (leb (get_or s 4 0) (suc lim.levels))
  pub words : T (all_words_sound? lim s (get_or s 4 0))
  pub sound : T (sound? lim (decode lim s))
  pub carries : T (carries? lim s (carried (degrees_at lim s) (levels_at lim s (get_or s 4 0))))

pub holds_says : (lim : Limits) (s : Words) → T (holds_state? lim s) → Holds lim s
holds_says lim s t =
    let a = leb (get_or s 4 0) (suc lim.levels) in
    let b = all_words_sound? lim s (get_or s 4 0) in
    let c = sound? lim (decode lim s) in
    let e = carries? lim s (carried (degrees_at lim s) (levels_at lim s (get_or s 4 0))) in
    let t₁ = and_right a (b and c and e) t in
    let t₂ = and_right b (c and e) t₁ in
    record { complete = and_left a (b and c and e) t; words = and_left b (c and e) t₁; sound = and_left c e t₂; carries = and_right c e t₂ }
