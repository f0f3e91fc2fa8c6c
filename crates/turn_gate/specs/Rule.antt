-- The rule of a gate's table. Word 0 is the next ticket, word 1 the ticket that is served, and the
-- one slot has the value. All of it is this project's own.
use Rattle.std.specs.Prelude.{◌≡◌, ℕ, ◌+◌, ◌%◌, ◌^◌, ◌<◌, ◌≤◌, ◌⊎◌, nat_eq, List, [], ◌∷◌, ◌++◌}
use Rattle.std.specs.Prelude.{length, map, Option, Some, None, true}
use Rattle.std.specs.List.{IsDistinct}
use mathlib.Core.Option.{some, none}
use lib.ListN.{get_elem?}
use Rattle.atomic_table.specs.Table.{State}
use Rattle.turn_gate.specs.declared.views.Phase.{Phase}
use Rattle.turn_gate.specs.declared.views.Phase.TheVariants.{Idle, Waiting, Inside}
use Rattle.turn_gate.specs.declared.views.View.{View}
use Rattle.turn_gate.specs.Known.{made_by, is_among, StartsWith}

-- the numbers of lists that are kept by number
abbrev pub numbers_of : {E : Type 0} → List (ℕ × List E) → List ℕ
numbers_of kept = map (λ q. q.0) kept

-- the view keeps the number n, with these own entries
abbrev pub HasKept : {E : Type 0} → View E → ℕ → List E → Type 0
HasKept v n es = (k : ℕ) × (get_elem? v.kept k ≡ some (n, es))

-- the view keeps the number n
abbrev pub KeepsNumber : {E : Type 0} → View E → ℕ → Type 0
KeepsNumber {E} v n = (es : List E) × HasKept v n es

-- the view of pass 0 of a new gate
abbrev pub first_view : {E : Type 0} → List E → View E
first_view start = record {
  opening = start;
  seen = start;
  kept = (0, []) ∷ [];
  heard = [];
  given = [];
  phase = Idle;
}

-- how many tickets a pass holds in this phase
abbrev pub tickets_of : Phase → ℕ
tickets_of Idle = 0
tickets_of (Waiting t) = 1
tickets_of (Inside t) = 1

-- how many tickets the passes hold together
abbrev pub tickets_held : {E : Type 0} → List (View E) → ℕ
tickets_held [] = 0
tickets_held (v ∷ vs) = tickets_of v.phase + tickets_held vs

-- in this phase a pass holds the ticket t
abbrev pub HasTicket : Phase → ℕ → Type 0
HasTicket Idle t = ⊥
HasTicket (Waiting u) t = u ≡ t
HasTicket (Inside u) t = u ≡ t

-- what there is behind words, slot and views: the entries made after the opening ones, the next
-- ticket and the one that is served as whole numbers, which seat holds a ticket, which keeps a
-- number, the numbers given by the pass that keeps 0, and the value where it is at home
pub record Account (V E : Type 0) : Type 0 where
  pub made : List E
  pub ticket : ℕ
  pub serving : ℕ
  pub holder : ℕ → ℕ
  pub owner : ℕ → ℕ
  pub given : List ℕ
  pub slot : Option V

module _ {V E : Type 0} (a : Account V E) (all : List E) (j : ℕ) (seen : List E) where
  -- the seat j, inside: its ticket is served, it has seen all entries, and the slot is empty
  pub record IsSeatServed (t : ℕ) : Type 0 where
    pub served : t ≡ a.serving
    pub drawn : t < a.ticket
    pub holds : a.holder t ≡ j
    pub seen_all : seen ≡ all
    pub emptied : a.slot ≡ None

  -- a pass that waits holds a ticket that is served now or later; one that is inside is served
  abbrev pub InPhase : Phase → Type 0
  InPhase Idle = Unit {0}
  InPhase (Waiting t) = (a.serving ≤ t) × (t < a.ticket) × (a.holder t ≡ j)
  InPhase (Inside t) = IsSeatServed t

module _ {E : Type 0} (maker : E → ℕ) (start made : List E) (owner : ℕ → ℕ) (given : List ℕ) where
  -- what the rule says of each number n that the view of the seat j keeps: its list is exactly the
  -- entries made that name it, none of those that the pass has not seen names it, no other seat
  -- keeps it, it is 0 or was given by the pass that keeps 0, and the view knows the opening
  -- entries
  pub record OwnsNumber (j : ℕ) (opening rest : List E) (n : ℕ) (es : List E) : Type 0 where
    pub exact : es ≡ made_by maker n made
    pub owner_is : owner n ≡ j
    pub origin : (n ≡ 0) ⊎ (is_among n given ≡ true)
    pub opening_is : opening ≡ start
    pub unseen : made_by maker n rest ≡ []

module _ {V E : Type 0} (maker : E → ℕ) (start : List E) (a : Account V E) (j : ℕ) where
  -- what the rule says of the view v of the seat j: what it has seen begins all entries, and so
  -- does what each pass had seen that was joined into it; of the entries made it has seen the
  -- early ones; its phase fits; the numbers that it keeps differ
  pub record ViewFits (v : View E) : Type 0 where
    pub begins : StartsWith (start ++ a.made) v.seen
    pub heard : (k : ℕ) (s : List E) → get_elem? v.heard k ≡ some s → StartsWith (start ++ a.made) s
    pub early : List E
    pub rest : List E
    pub made_is : a.made ≡ early ++ rest
    pub seen_is : (n : ℕ) (es : List E) → HasKept v n es → v.seen ≡ start ++ early
    pub phase : InPhase a (start ++ a.made) j v.seen v.phase
    pub lives : (t : ℕ) → HasTicket v.phase t → (n : ℕ) × KeepsNumber v n
    pub owns : (n : ℕ) (es : List E) → HasKept v n es
        → OwnsNumber maker start a.made a.owner a.given j v.opening rest n es
    pub differ : IsDistinct nat_eq (numbers_of v.kept)

module _ {V E F : Type 0} (entries : V → List E) (fixed : V → F) (all : List E) (about : F)
    (a : Account V E) (views : List (View E)) where
  -- the value is at home, with all entries and the opening value's fixed part, or the seat that is
  -- served has it
  abbrev pub IsAtHome : Option V → Type 0
  IsAtHome (Some x) = (entries x ≡ all) × (fixed x ≡ about)
  IsAtHome None =
      (v : View E) × (get_elem? views (a.holder a.serving) ≡ some v) × (v.phase ≡ Inside a.serving)

-- the slot as the table knows it
abbrev pub home_of : {V : Type 0} → Option V → mathlib.Core.Option.Option (Option V)
home_of (Some x) = some (Some x)
home_of None = none

module _ {V E F : Type 0} (entries : V → List E) (fixed : V → F) (maker : E → ℕ) (first : V) where
  -- The rule, over the opening value `first`: the words are the two tickets modulo 2 ^ 64; the
  -- tickets from the one that is served up to the next are each held by one pass; the value is at
  -- home where no pass is inside; each view fits, and one of them has seen all entries; each entry
  -- made names a number that a view keeps; one view keeps 0 and has the list of the numbers given,
  -- which differ, are below 2 ^ 32, and are as many as the further seats
  pub record Rule (s : State (Option V) (View E)) : Type 0 where
    pub account : Account V E
    pub words : s.words ≡ account.ticket % 2 ^ 64 ∷ account.serving % 2 ^ 64 ∷ []
    pub homes : s.homes ≡ home_of account.slot ∷ []
    pub ordered : account.serving ≤ account.ticket
    pub counted : tickets_held s.views + account.serving ≡ account.ticket
    pub at_home : IsAtHome entries fixed (entries first ++ account.made)
        (fixed first) account s.views
        account.slot
    pub held : (t : ℕ) → account.serving ≤ t → t < account.ticket
        → (v : View E) × (get_elem? s.views (account.holder t) ≡ some v) × HasTicket v.phase t
    pub each : (j : ℕ) (v : View E) → get_elem? s.views j ≡ some v
        → ViewFits maker (entries first) account j v
    pub longest : (j : ℕ) × (v : View E)
        × (get_elem? s.views j ≡ some v) × (v.seen ≡ entries first ++ account.made)
    pub named : (k : ℕ) (e : E) → get_elem? account.made k ≡ some e
        → (v : View E)
        × (get_elem? s.views (account.owner (maker e)) ≡ some v) × KeepsNumber v (maker e)
    pub root : (v : View E)
        × (get_elem? s.views (account.owner 0) ≡ some v)
        × KeepsNumber v 0 × (v.given ≡ account.given)
    pub few : length s.views ≡ 1 + length account.given
    pub distinct : IsDistinct nat_eq account.given
    pub low : (n : ℕ) → is_among n account.given ≡ true → (0 < n) × (n < 2 ^ 32)
