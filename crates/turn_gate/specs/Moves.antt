-- The steps of a pass, and what each tells the pass that makes it. Taking the value out of the
-- slot and putting it back change no view. All of it is this project's own.
use Rattle.std.specs.Prelude.{◌≡◌, ◌≢◌, ℕ, ◌%◌, ◌^◌, List, [], ◌∷◌, ◌++◌, length, drop, Option}
use Rattle.std.specs.Prelude.{Some, None}
use mathlib.Core.Option.{some}
use lib.ListN.{get_elem?}
use Rattle.atomic_table.specs.Table.{Me, Step}
use Rattle.turn_gate.specs.declared.views.Phase.{Phase}
use Rattle.turn_gate.specs.declared.views.Phase.TheVariants.{Idle, Waiting, Inside}
use Rattle.turn_gate.specs.declared.views.View.{View}
use Rattle.turn_gate.specs.Known.{made_by, longer}
use Rattle.turn_gate.specs.Rule.{HasKept}

module _ {E : Type 0} where
  -- the same view in another phase
  abbrev pub in_phase : View E → Phase → View E
  in_phase v p = record v { phase = p }

  -- inside with the ticket t, having seen these entries
  abbrev pub inside : View E → ℕ → List E → View E
  inside v t es = record v { seen = es; phase = Inside t }

  -- the first list with the added entries
  abbrev pub first_grown : List E → List (ℕ × List E) → List (ℕ × List E)
  first_grown added [] = []
  first_grown added (x ∷ xs) = (x.0, x.1 ++ added) ∷ xs

  -- outside again, having left these entries
  abbrev pub left_with : View E → List E → View E
  left_with v es = record v {
    seen = es;
    kept = first_grown (drop (length v.seen) es) v.kept;
    phase = Idle;
  }

  -- pass 0, which gives the number n
  abbrev pub giver : ℕ → View E → View E
  giver n v = record v { given = n ∷ v.given }

  -- a new pass with the number n, which has seen as much
  abbrev pub newcomer : ℕ → View E → View E
  newcomer n v = record v { kept = (n, []) ∷ []; heard = []; given = []; phase = Idle }

  -- the pass v, which has taken in w
  abbrev pub joined : View E → View E → View E
  joined v w = record v {
    seen = longer v.seen w.seen;
    kept = v.kept ++ w.kept;
    heard = v.heard ++ w.seen ∷ w.heard;
  }

  -- the view that the seat of a joined pass leaves behind: it keeps nothing
  abbrev pub spent : View E
  spent = record { opening = []; seen = []; kept = []; heard = []; given = []; phase = Idle }

module _ {V E : Type 0} where
  -- the pass v inside with the ticket t, having seen these entries and taken the value out of the
  -- slot
  abbrev pub emptied_by : View E → ℕ → List E → Me (Option V) (View E)
  emptied_by v t es = (inside v t es, (0, None) ∷ [])

  -- the pass is inside, and has taken the value out of the slot
  abbrev pub HasEmptied : Me (Option V) (View E) → Type 0
  HasEmptied m = ((t : ℕ) × (m.0.phase ≡ Inside t)) × (m.1 ≡ (0, None) ∷ [])

module _ {S E : Type 0} where
  -- draw: the pass waits with the ticket that it found
  abbrev pub Drawn : Step S → Me S (View E) → ℕ → Me S (View E) → Type 0
  Drawn st m r m' = (t : ℕ) × (r ≡ t % 2 ^ 64) × (m' ≡ (in_phase m.0 (Waiting t), m.1))

module _ {E : Type 0} (maker : E → ℕ) where
  -- of these entries, those made after the opening ones that name a number of the view are exactly
  -- the list that it keeps under that number
  pub record Exact (v : View E) (all : List E) : Type 0 where
    pub made : List E
    pub all_is : all ≡ v.opening ++ made
    pub exact : (n : ℕ) (es : List E) → HasKept v n es → es ≡ made_by maker n made

module _ {S E : Type 0} (maker : E → ℕ) where
  -- heed: the pass stays as it is, and of what it has seen its own lists are exact
  abbrev pub Heeded : Step S → Me S (View E) → ℕ → Me S (View E) → Type 0
  Heeded st m r m' = (m' ≡ m) × Exact maker m.0 m.0.seen

module _ {V E F : Type 0} (entries : V → List E) (fixed : V → F) (maker : E → ℕ)
    (about : Option F) where
  -- what a pass with the view v learns of the value x that it is handed: its entries begin with
  -- those seen, what was added since names none of its numbers, the fixed part is the opening one,
  -- and its own lists are exact
  pub record Handed (v : View E) (x : V) : Type 0 where
    pub between : List E
    pub begins : entries x ≡ v.seen ++ between
    pub others : (n : ℕ) (es : List E) → HasKept v n es → made_by maker n between ≡ []
    pub fixed_is : about ≡ Some (fixed x)
    pub lists : Exact maker v (entries x)

  -- the pass takes the value x out of its slot: it is inside with the ticket t
  pub record Takes (m : Me (Option V) (View E)) (t : ℕ) (m' : Me (Option V) (View E)) : Type 0 where
    pub value : V
    pub handed : Handed m.0 value
    pub inside_is : m' ≡ (inside m.0 t (entries value), (0, Some value) ∷ m.1)

  -- look: a pass whose ticket is served takes the value, and any other stays as it is
  abbrev pub Looked : Step (Option V) → Me (Option V) (View E) → ℕ → Me (Option V) (View E)
      → Type 0
  Looked st m r m' = (t : ℕ) → m.0.phase ≡ Waiting t
      → (r ≡ t % 2 ^ 64 → Takes m t m') × (r ≢ t % 2 ^ 64 → m' ≡ m)

module _ {V E : Type 0} (entries : V → List E) (maker : E → ℕ) where
  -- what a pass with the view v may leave: the entries that it has seen, and then some that name
  -- its own number
  pub record MayLeave (v : View E) (x : V) : Type 0 where
    pub by : ℕ
    pub mine : List E
    pub later : List (ℕ × List E)
    pub kept_is : v.kept ≡ (by, mine) ∷ later
    pub added : List E
    pub grown : entries x ≡ v.seen ++ added
    pub all_own : (k : ℕ) (e : E) → get_elem? added k ≡ some e → maker e ≡ by

  -- release: the next ticket is served, and the pass that carries the value x is outside, having
  -- left it
  abbrev pub Released : Step (Option V) → Me (Option V) (View E) → ℕ → Me (Option V) (View E)
      → Type 0
  Released st m r m' = (t : ℕ) (x : V) → m.0.phase ≡ Inside t → m.1 ≡ (0, Some x) ∷ []
      → (m' ≡ (left_with m.0 (entries x), [])) × Exact maker m'.0 (entries x)
