-- How a pass and a held value stand for what the table knows of a seat. All of it is this
-- project's own.
use Rattle.std.specs.Prelude.{◌≡◌, ℕ, List, [], ◌∷◌, Option, Some, None, false}
use Rattle.atomic_table.specs.Table.{Me}
use Rattle.atomic_table.specs.Seated.{TableId}
use Rattle.turn_gate.specs.declared.views.Phase.{Phase}
use Rattle.turn_gate.specs.declared.views.Phase.TheVariants.{Idle, Waiting, Inside}
use Rattle.turn_gate.specs.declared.views.View.{View}
use Rattle.turn_gate.specs.Known.{GateName, GateFacts, PassFacts, HeldFacts, is_among}
use Rattle.turn_gate.specs.Rule.{numbers_of}

-- the first number with its list
abbrev pub first_kept : {E : Type 0} → List (ℕ × List E) → ℕ × List E
first_kept [] = (0, [])
first_kept (x ∷ xs) = x

-- the numbers behind the first, with their lists
abbrev pub later_kept : {E : Type 0} → List (ℕ × List E) → List (ℕ × List E)
later_kept [] = []
later_kept (x ∷ xs) = xs

-- the ticket of a stay, where the pass is inside
abbrev pub stay_of : Phase → Option ℕ
stay_of Idle = None
stay_of (Waiting t) = None
stay_of (Inside t) = Some t

-- the ticket that a pass holds, 0 where it holds none
abbrev pub ticket_of : Phase → ℕ
ticket_of Idle = 0
ticket_of (Waiting t) = t
ticket_of (Inside t) = t

-- what a contract sees of the value that was handed out to a pass in this phase
abbrev pub held_facts : {V : Type 0} → V → TableId → Phase → HeldFacts V
held_facts value table p = record { value = value; table = table; ticket = ticket_of p }

-- the gate that a view knows
abbrev pub gate_name : {E : Type 0} → TableId → View E → GateName E
gate_name table v = record { table = table; opening = v.opening }

-- what a contract sees of a gate, from its table and its opening value
abbrev pub gate_facts : {V E F : Type 0} → (V → List E) → (V → F) → TableId → V → GateFacts E F
gate_facts entries fixed table first = record {
  name = record { table = table; opening = entries first };
  fixed = fixed first;
}

-- a gate's table has two words and one slot
abbrev pub IsGateTable : TableId → Type 0
IsGateTable table = (table.words ≡ 2) × (table.slots ≡ 1)

-- what a contract sees of the pass whose seat this is
abbrev pub pass_facts : {S E : Type 0} → TableId → Me S (View E) → PassFacts E
pass_facts table m = record {
  gate = gate_name table m.0;
  number = (first_kept m.0.kept).0;
  seen = m.0.seen;
  mine = (first_kept m.0.kept).1;
  joined = later_kept m.0.kept;
  heard = m.0.heard;
  given = m.0.given;
  stay = stay_of m.0.phase;
}

-- between two calls a pass is outside and carries nothing, or inside and carries the emptied slot
abbrev pub CarriesBetween : {V : Type 0} → List (ℕ × Option V) → Phase → Type 0
CarriesBetween slots Idle = slots ≡ []
CarriesBetween slots (Waiting t) = ⊥
CarriesBetween slots (Inside t) = slots ≡ (0, None) ∷ []

-- a pass between two calls: it keeps a number of its own, and 0 is none of those that were joined
-- into it
pub record IsSettled {V E : Type 0} (m : Me (Option V) (View E)) : Type 0 where
  pub carries : CarriesBetween m.1 m.0.phase
  pub keeps_one : m.0.kept ≡ first_kept m.0.kept ∷ later_kept m.0.kept
  pub no_zero : is_among 0 (numbers_of (later_kept m.0.kept)) ≡ false
