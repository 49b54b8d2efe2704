-- Request A5, "Degrees of components": of levels, of states' words, of what a list of calls leaves, and of files with and without D.
use Rattle.std.specs.Prelude.{◌≡◌, ◌↔◌, List, [], ℕ, suc, ◌+◌, ◌*◌, ◌≤◌, T, length, replicate}
use Rattle.std.proofs.Math.Option.{some}
use Rattle.definitions.specs.Limits.{Limits}
use Rattle.definitions.specs.Monomial.{Level, degree, leading, vector_of}
use Rattle.definitions.specs.Result.{refused}
use Rattle.definitions.specs.Lifting.{Lifting}
use Rattle.definitions.specs.Problem.{Bytes, Parameters, lines, problem}
use Rattle.definitions.specs.State.{State, sound?}
use Rattle.definitions.specs.Degrees.{component_degree}
use Rattle.definitions.specs.Calls.{Call, read, lift, calls}
use Rattle.definitions.specs.Sheet.{sheet}
use Rattle.definitions.specs.Reckoning.{nothing, reckon_all}
use Rattle.definitions.specs.Layout.{Words, decode, meant, Way, long_enough?, lift_call, fetch_call, Lent, Left, lent_calls}
use Rattle.definitions.specs.Places.{exponents_length, most_exponent, most_degree}
use Rattle.files.specs.Files.{WellFormedFile}
use Rattle.demands.specs.Exact.{Reckons}
use Rattle.demands.specs.Demands.{level_of, out_long_enough?, numbered, left_by, Starts}
use Rattle.degrees.specs.Notions.{degree_at, HasVector, carried_word, without_D, AlikeFiles, without_degrees, AlikeStates, AlikeResults}
use Rattle.degrees.specs.Notions.{AlikeReplies, AllAlike, Both, AlikeCalls, AlikeLent, AlikeLeft, DegreeTooLarge}

-- ## What is carried

pub record Carries (lim : Limits) : Type 0 where
  -- "A term's degree is then its monomial's total degree plus its component's": an element's is that of its leading term
  pub lowest : (X : State) (v : ℕ) → T (sound? lim X) → HasVector X.levels 0 v → degree_at X.parameters.degrees X.levels 0 v
      ≡ degree (leading (vector_of (level_of X.levels 0) v)).0
      + component_degree X.parameters.degrees (leading (vector_of (level_of X.levels 0) v)).1
  -- .. and a vector's is that of its leading monomial and of the vector below that its component names
  pub above : (X : State) (k v : ℕ) → T (sound? lim X) → HasVector X.levels (suc k) v → degree_at X.parameters.degrees X.levels (suc k) v
      ≡ degree (leading (vector_of (level_of X.levels (suc k)) v)).0
      + degree_at X.parameters.degrees X.levels k (leading (vector_of (level_of X.levels (suc k)) v)).1
  -- at most 255 for each of eight exponents on each level, and 255 for the component: 20,655 with document 01's levels, which 16 bits hold
  pub at_most : (X : State) (k v : ℕ) → T (sound? lim X) → HasVector X.levels k v
      → degree_at X.parameters.degrees X.levels k v ≤ suc lim.levels * (exponents_length * most_exponent) + most_degree
  -- "at every level the carried degree is the degree of its leading term's image": in any contents that mean a state with that vector
  pub words : (s : Words) (k v : ℕ) → HasVector (meant lim s).levels k v
      → carried_word lim s k v ≡ degree_at (meant lim s).parameters.degrees (meant lim s).levels k v
  -- "from the reading on": after any list of calls the words hold the degrees of the reckoning's vectors, by the degrees of the file that was read last
  pub left : (n : ℕ) (state : Words) (cs : List Lent) (ls : List Left) → lent_calls lim n state cs ≡ some ls → Starts state cs ls
      → (q : Parameters) (f : Level) (levels : List Level) → (reckon_all lim nothing (numbered lim cs ls)).basis ≡ some (q, f)
      → Reckons lim (reckon_all lim nothing (numbered lim cs ls)) levels
      → (k v : ℕ) → HasVector levels k v → carried_word lim (left_by state ls) k v ≡ degree_at q.degrees levels k v
  -- "a state where it is not counts as no accepted basis (11)": with one wrong degree every lifting and every fetch is 11 and changes no buffer
  pub wrong_lifting : (s : Words) (k v : ℕ) → HasVector (decode lim s).levels k v
      → ¬ (carried_word lim s k v ≡ degree_at (decode lim s).parameters.degrees (decode lim s).levels k v)
      → (n level : ℕ) (way : Way) (work cache : Words) → T (long_enough? lim way s work)
      → lift_call lim n level way s work cache ≡ some (11, 0, s, work, cache)
  pub wrong_fetching : (s : Words) (k v : ℕ) → HasVector (decode lim s).levels k v
      → ¬ (carried_word lim s k v ≡ degree_at (decode lim s).parameters.degrees (decode lim s).levels k v)
      → (level vector : ℕ) (out : Words) → T (out_long_enough? lim s out) → fetch_call lim level vector s out ≡ (11, 0, out)

-- ## With D as without it

pub record SameWithD (lim : Limits) : Type 0 where
  -- "Acceptance and lifting therefore give the same vectors with D as without it, if both files are read": the same elements ..
  pub basis : (bytes bytes' : Bytes) (q q' : Parameters) (f f' : Level) → AlikeFiles bytes bytes'
      → WellFormedFile lim bytes q f → WellFormedFile lim bytes' q' f' → (without_degrees q ≡ without_degrees q') × (f ≡ f')
  -- .. accepted or refused alike, by the same number, place and value ..
  pub reading : (n : ℕ) (bytes bytes' : Bytes) (q q' : Parameters) (f f' : Level) → AlikeFiles bytes bytes'
      → WellFormedFile lim bytes q f → WellFormedFile lim bytes' q' f' → AlikeResults (read lim n bytes) (read lim n bytes')
  -- .. the same levels by every way, or the same refusal ..
  pub lifting : (n : ℕ) (X Y : State) → AlikeStates X Y → (k : ℕ) (way : Lifting) → AlikeResults (lift lim n X k way) (lift lim n Y k way)
  -- .. in every list of calls the same replies, vectors fetched among them ..
  pub all_calls : (n : ℕ) (X Y : State) → AlikeStates X Y → (cs cs' : List Call) → AllAlike (AlikeCalls lim) cs cs'
      → Both (AllAlike AlikeReplies) (calls lim n X cs) (calls lim n Y cs')
  -- .. and so on buffers, from any contents: the same numbers and places, and the same words of each vector fetched ..
  pub buffers : (n : ℕ) (state : Words) (cs cs' : List Lent) → AllAlike (AlikeLent lim) cs cs'
      → Both (AllAlike (AlikeLeft lim)) (lent_calls lim n state cs) (lent_calls lim n state cs')
  -- .. and the same sheet
  pub sheets : (n : ℕ) (bytes bytes' : Bytes) (q q' : Parameters) (f f' : Level) → AlikeFiles bytes bytes'
      → WellFormedFile lim bytes q f → WellFormedFile lim bytes' q' f' → sheet lim n bytes ≡ sheet lim n bytes'
  -- "files without D keep zeros"
  pub zeros : (bytes : Bytes) (q : Parameters) (f : Level) → WellFormedFile lim bytes q f → without_D (lines bytes) ≡ lines bytes
      → q.degrees ≡ replicate q.s 0
  -- "18 when a component's degree is above 255, tested after the line's shape": exactly then, at line 2
  pub eighteen : (bytes : Bytes) → length bytes ≤ lim.file → DegreeTooLarge lim bytes ↔ (problem lim bytes ≡ refused 18 2 [])
