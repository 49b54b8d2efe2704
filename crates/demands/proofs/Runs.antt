-- A run of the definitions, whatever its steps pick and drop, is a run of the theory.
use mathlib.Core.Path.{◌≡◌, sym, subst}
use mathlib.Core.Bool.{false}
use mathlib.Core.List.{List, [], ◌∷◌}
use Prim.Native.Nat.{ℕ, ◌<◌}
use lib.ListN.{length, get_or}
use Rattle.theory.specs.Vec.{Same, All, times}
use Rattle.theory.specs.Reckon.{Lower}
use Rattle.theory.specs.Runs
use Rattle.theory.specs.Runs.{Drop, Whole, stop, drop}
use Rattle.theory.specs.Canon.{Canonical}
use Rattle.theory.proofs.Vec
use Rattle.definitions.specs.Limits.{Limits}
use Rattle.definitions.specs.Monomial.{Vector}
use Rattle.definitions.specs.Result.{Result, done, ◌>>=◌}
use Rattle.definitions.specs.Vectors.{descending}
use Rattle.definitions.specs.Stage.{Stage}
use Rattle.definitions.specs.Run
use Rattle.definitions.specs.Run.{Strategy, end, add_products, continued, start}
use Rattle.demands.specs.Picks.{Picks, runs_by, run_by}
use Rattle.demands.proofs.Results.{Ends, gives, refuses, open_yet, ends_then, ends_turn, Refusal, limit, refusal_map}
use Rattle.demands.proofs.Exponents.{out}
use Rattle.demands.proofs.Levels.{Mono, TVec, mono, vec, flat_at, module_over, Has, has_act}
use Rattle.demands.proofs.Coefficients.{good_one}
use Rattle.demands.proofs.Setting.{Setting, S, L, F, hs, red, is_lower}
use Rattle.demands.proofs.Sums.{canonical_good, products_added}
use Rattle.demands.proofs.Sorting.{Form, sorted}
use Rattle.demands.proofs.Steps.{stage, Fits, InValue, InVector, Sum, Stands, Exact, Move, longer, longer_whole, Stepped, onward, ended, Stuck, stepped}

module _ (Z : Setting) (lim : Limits) where
  abbrev K : Stage
  K = stage Z lim

  -- ## Runs

  -- I is what is known of each step's strategy; where `exact` holds each step drops nothing
  module _ (I : Strategy → Type 0) (exact : Type 0) (exactly : (W : Strategy) → I W → exact → Exact Z lim W) where
    abbrev pub AllIn : List Strategy → Type 0
    AllIn [] = Unit {0}
    AllIn (W ∷ Ws) = Picks W × I W × AllIn Ws

    -- from v and g to zero: the finished vector w
    pub record Finished (v g : TVec Z.n) (w : Vector) : Type 0 where
      pub end : TVec Z.n
      pub run : Runs.Run (S Z) (L Z) (F Z) (red Z) v g end []
      pub whole : exact → Whole (S Z) (L Z) (F Z) (red Z) run
      pub form : TVec Z.n
      pub is : w ≡ vec Z.n form
      pub canonical : Canonical (S Z) (module_over Z.n Z.code (Z.f ∷ Z.b)) form
      pub like : Same (S Z) form end
      pub ok : All (S Z) (InVector Z lim) form

    -- from v and g to a value where a run stops
    pub record Halted (v g : TVec Z.n) (value : Vector) : Type 0 where
      pub end : TVec Z.n
      pub left : TVec Z.n
      pub run : Runs.Run (S Z) (L Z) (F Z) (red Z) v g end left
      pub whole : exact → Whole (S Z) (L Z) (F Z) (red Z) run
      pub sum : Sum Z lim (InValue Z lim) left
      pub by : Strategy
      pub known : I by
      pub stuck : Stuck Z lim by left value

    finished_now : (v g : TVec Z.n) → g ≡ [] → Sum Z lim (InVector Z lim) v → Finished v g (descending K.above Z.p (vec Z.n v))
    finished_now v g e s = subst (λ z. Finished v z (descending K.above Z.p (vec Z.n v))) (sym e) (record {
      end = v;
      run = stop;
      whole = λ x. tt;
      form = f.form;
      is = f.is;
      canonical = f.canonical;
      like = f.like;
      ok = f.ok (InVector Z lim) s.ok;
    })
      where
        f : Form Z.n Z.p Z.P Z.code (Z.f ∷ Z.b) Z.grounded v (descending K.above Z.p (vec Z.n v))
        f = sorted Z.n Z.p Z.P Z.code (Z.f ∷ Z.b) Z.grounded v s.good
            (Vec.all_map (S Z) (InVector Z lim) (Has Z.n (Z.f ∷ Z.b)) (λ x h. h.0) v s.ok)

    finished_then : (W : Strategy) → I W → {v g v' g' : TVec Z.n} → Move Z lim W v g v' g' → (w : Vector) → Finished v' g' w → Finished v g w
    finished_then W i m w h = record {
      end = h.end;
      run = longer Z lim m h.run;
      whole = λ x. longer_whole Z lim m (exactly W i x) h.run (h.whole x);
      form = h.form;
      is = h.is;
      canonical = h.canonical;
      like = h.like;
      ok = h.ok;
    }

    halted_then : (W : Strategy) → I W → {v g v' g' : TVec Z.n} → Move Z lim W v g v' g' → (value : Vector) → Halted v' g' value → Halted v g value
    halted_then W i m value h = record {
      end = h.end;
      left = h.left;
      run = longer Z lim m h.run;
      whole = λ x. longer_whole Z lim m (exactly W i x) h.run (h.whole x);
      sum = h.sum;
      by = h.by;
      known = h.known;
      stuck = h.stuck;
    }

    pub runs_end : (Ws : List Strategy) → AllIn Ws → (v g : TVec Z.n) (r : Run.Run) → Stands Z lim v g r
        → Ends (Finished v g) (Refusal (Halted v g)) (runs_by K Ws r)
    runs_end [] k v g r s = open_yet
    runs_end (W ∷ Ws) k v g r s = go (stepped Z lim W k.0 v g r s) (λ v' g' r' s'. runs_end Ws k.2 v' g' r' s')
      where
        stuck_now : (value : Vector) → Stuck Z lim W g value → Halted v g value
        stuck_now value h = record { end = v; left = g; run = stop; whole = λ x. tt; sum = s.value; by = W; known = k.1; stuck = h }

        go : {x : Result Run.Step} → Ends (Stepped Z lim W v g) (Refusal (Stuck Z lim W g)) x
            → ((v' g' : TVec Z.n) (r' : Run.Run) → Stands Z lim v' g' r' → Ends (Finished v' g') (Refusal (Halted v' g')) (runs_by K Ws r'))
            → Ends (Finished v g) (Refusal (Halted v g)) (continued K (λ r'. runs_by K Ws r') x)
        go (gives (onward {r = r'} v' g' m s')) ih =
            ends_turn (finished_then W k.1 m) (refusal_map (halted_then W k.1 m)) (ih v' g' r' s')
        go (gives (ended {w = w} e z)) ih = gives (subst (λ y. Finished v g (descending K.above Z.p y)) (sym e) (finished_now v g z s.vector))
        go (refuses {number} {value = value} h) ih = refuses (refusal_map stuck_now number value h)
        go open_yet ih = open_yet

    -- ## From a frame term

    -- the working value starts with the products of m · f_i
    pub record Started (W : Strategy) (x : Mono Z.n) (r : Run.Run) : Type 0 where
      pub g : TVec Z.n
      pub stands : Stands Z lim ((1, x) ∷ []) g r
      pub drops : Drop (S Z) (L Z) (F Z) (red Z) (times (S Z) (L Z) (F Z).f x) g
      pub whole : W.drops ≡ false → drops.low ≡ []

    started : (R : ℕ → Vector → Type 0) → R 13 [] → R 14 [] → (W : Strategy) (x : Mono Z.n) → x.1 < length Z.f → Fits Z lim x
        → Ends (Started W x) R (start K W (mono Z.n x))
    started R at-13 at-14 W x l h =
        subst (λ z. Ends (Started W x) R (add_products K.reduction W.drops 1 (out Z.n x.0) z [] >>= λ v.
        done (record { value = v; vector = (1, mono Z.n x) ∷ [] }))) (sym (flat_at Z.n Z.f x.1))
        (ends_then (products_added Z.n Z.p Z.P lim (hs Z) W.drops (Lower (S Z) (L Z) (F Z)) (InValue Z lim) R at-13 at-14 (is_lower Z)
        (Has Z.n Z.b) 1
        (good_one Z.p Z.P) x.0 (λ y h k. (has_act Z.n Z.b x.0 y h, k)) (get_or Z.f x.1 []) []
        (canonical_good Z.n Z.p Z.P Z.code Z.b (get_or Z.f x.1 []) (Z.canons x.1 l)) (Z.inside x.1 l) tt tt tt)
        (λ w k. gives (record {
          g = k.form;
          stands = record {
            is = λ j. record { value = k.is j; vector = (1, mono Z.n x) ∷ [] };
            vector = record { good = (good_one Z.p Z.P, tt); ok = ((Z.somes x.1 l, h), tt); apart = (tt, tt) };
            value = record { good = k.good; ok = k.ok; apart = k.apart };
          };
          drops = record {
            low = k.low;
            lower = k.lows;
            split = Vec.same_trans (S Z) k.split
                (Vec.scale_one (S Z) (times (S Z) (L Z) (F Z).f x));
          };
          whole = k.whole;
        })))

    -- the run of a frame term
    pub run_ends : (W : Strategy) → (exact → W.drops ≡ false) → (Ws : List Strategy) → AllIn Ws → (x : Mono Z.n) → x.1 < length Z.f
        → Fits Z lim x
        → Ends (Finished ((1, x) ∷ []) (times (S Z) (L Z) (F Z).f x)) (Refusal (Halted ((1, x) ∷ []) (times (S Z) (L Z) (F Z).f x)))
        (run_by K W Ws (mono Z.n x))
    run_ends W d Ws k x l h =
        ends_then (started (Refusal (Halted v m)) (limit tt) (limit tt) W x l h)
        (λ r s. ends_turn (λ w f. after s w f) (refusal_map (stopped s)) (runs_end Ws k v s.g r s.stands))
      where
        v : TVec Z.n
        v = (1, x) ∷ []

        m : TVec Z.n
        m = times (S Z) (L Z) (F Z).f x

        after : {r : Run.Run} (s : Started W x r) (w : Vector) → Finished v s.g w → Finished v m w
        after s w f = record {
          end = f.end;
          run = drop s.drops f.run;
          whole = λ e. (s.whole (d e), f.whole e);
          form = f.form;
          is = f.is;
          canonical = f.canonical;
          like = f.like;
          ok = f.ok;
        }

        stopped : {r : Run.Run} (s : Started W x r) (value : Vector) → Halted v s.g value → Halted v m value
        stopped s value f = record {
          end = f.end;
          left = f.left;
          run = drop s.drops f.run;
          whole = λ e. (s.whole (d e), f.whole e);
          sum = f.sum;
          by = f.by;
          known = f.known;
          stuck = f.stuck;
        }
