-- Two gates while their passes are dealt and gathered, and the tapes at the end. All of it is
-- this project's own.
use Rattle.std.specs.Prelude.{◌≡◌, ◌⊎◌, ℕ, zero, suc, ◌==◌, true, List, [], ◌∷◌, ◌++◌, All, length}
use Rattle.std.specs.Prelude.{Some, Result, Ok, Err, OnOk, map, reverse}
use Rattle.std.specs.List.{list_any}
use Rattle.turn_gate.specs.Known.{GateName, GateFacts, PassFacts, made_by, is_among, IsOutside}
use Rattle.gated_tape.specs.declared.tapes.Mark.{Mark}
use Rattle.gated_tape.specs.declared.runs.Writer.{Writer}
use Rattle.gated_tape.specs.declared.refusals.PutNo.{PutNo}
use Rattle.gated_tape.specs.declared.refusals.PutNo.TheVariants.{Full}
use Rattle.gated_tape.specs.Marks.{node_of, marks_up_to}
use Rattle.gated_tape.specs.Sides.{Frame, SideFacts, gated_frame}
use Rattle.gated_tape.specs.Runs.{Card, card_of, IsFreshWriter}

-- the numbers from n down to 1
unfoldable pub count_down : ℕ → List ℕ
count_down zero = []
count_down (suc n) = suc n ∷ count_down n

-- the marks that a side over a gate knows
abbrev pub seen_of : SideFacts → List Mark
seen_of s = s.seen

-- a writer over two gates
abbrev pub GatedWriter : Type 0
GatedWriter = Writer SideFacts

-- the cards of such writers
abbrev pub cards_of : List GatedWriter → List (Card (GateFacts Mark ℕ))
cards_of writers = map (card_of gated_frame seen_of) writers

-- their nodes
abbrev pub writer_nodes : List GatedWriter → List ℕ
writer_nodes writers = map (λ w. w.node) writers

-- the frame of a side over this gate, in the node's name
abbrev pub frame_at : GateFacts Mark ℕ → ℕ → Frame (GateFacts Mark ℕ)
frame_at gate node = record { limit = gate.fixed; writer = Some node; place = gate }

-- the card of a writer over these two gates
abbrev pub IsCardOver : GateFacts Mark ℕ → GateFacts Mark ℕ → Card (GateFacts Mark ℕ) → Type 0
IsCardOver one two c = (c.one ≡ frame_at one c.node) × (c.two ≡ frame_at two c.node)

-- each writer has sides of these gates in its own name, on which nothing is written yet, and
-- their nodes, the last first, are these numbers
pub record AreDealt (one two : GateFacts Mark ℕ) (numbers : List ℕ)
    (writers : List GatedWriter) : Type 0 where
  pub fresh : All (IsFreshWriter gated_frame seen_of) writers
  pub at : All (IsCardOver one two) (cards_of writers)
  pub nodes : reverse (writer_nodes writers) ≡ numbers

-- the answer of work that was done
abbrev pub no_refusal : Result (Unit {0}) PutNo
no_refusal = Ok tt

-- the first refusal of two
abbrev pub first_refusal : {T X : Type 0} → Result T X → Result T X → Result T X
first_refusal (Ok x) other = other
first_refusal (Err x) other = Err x

-- each number of the list stands in the other
abbrev pub AreAmong : List ℕ → List ℕ → Type 0
AreAmong numbers others = (n : ℕ) → is_among n numbers ≡ true → is_among n others ≡ true

-- pass 0 gave numbers of writers alone, and where the work was done, those of all writers
pub record HasGiven {T X : Type 0} (writers : ℕ) (ended : Result T X)
    (p : PassFacts Mark) : Type 0 where
  pub within : AreAmong p.given (count_down writers)
  pub all : OnOk ended (p.given ≡ count_down writers)

-- pass 0 of a gate, which made no entry and has all passes back that it gave
pub record IsGathered (gate : GateName Mark) (p : PassFacts Mark) : Type 0 where
  pub gate_is : p.gate ≡ gate
  pub outside : IsOutside p
  pub is_zero : p.number ≡ 0
  pub unwritten : p.mine ≡ []
  pub given_is : p.given ≡ map (λ q. q.0) p.joined

-- pass 0 of a gate, on its way to take in the passes that it gave: those of the nodes left are
-- still out, and where the work of all others was done, each of their lists has `count` marks
pub record IsGathering {T X : Type 0} (gate : GateName Mark) (count : ℕ) (ended : Result T X)
    (left : List ℕ) (p : PassFacts Mark) : Type 0 where
  pub gate_is : p.gate ≡ gate
  pub outside : IsOutside p
  pub is_zero : p.number ≡ 0
  pub unwritten : p.mine ≡ []
  pub given_is : p.given ≡ map (λ q. q.0) p.joined ++ reverse left
  pub written : OnOk ended (All (λ q. length q.1 ≡ count) p.joined)

-- a pass that was joined had seen as many marks as the limit
abbrev pub HasHeardFull : ℕ → PassFacts Mark → Type 0
HasHeardFull limit p = list_any (λ s. length s == limit) p.heard ≡ true

-- passes 0 of both gates, on their way to take in those of the writers left
pub record AreGathering {T : Type 0} (one two : GateFacts Mark ℕ) (count : ℕ)
    (ended : Result T PutNo) (left : List GatedWriter) (p q : PassFacts Mark) : Type 0 where
  pub in_one : IsGathering one.name count ended (writer_nodes left) p
  pub in_two : IsGathering two.name count ended (writer_nodes left) q
  pub full : ended ≡ Err Full → HasHeardFull one.fixed p ⊎ HasHeardFull two.fixed q

-- each mark is one of the writers 1 up to `writers`
abbrev pub AreByWriters : ℕ → List Mark → Type 0
AreByWriters writers marks = All (λ m. is_among m.node (count_down writers) ≡ true) marks

-- the marks of each writer are the words from 0 to below the count, in order
abbrev pub AreWritten : ℕ → ℕ → List Mark → Type 0
AreWritten writers count marks = (n : ℕ) → is_among n (count_down writers) ≡ true
    → made_by node_of n marks ≡ marks_up_to n count

-- for each number that was joined into pass 0, the marks are the words that count up from 0, as
-- many as its own list has
abbrev pub HasCountsOf : List Mark → PassFacts Mark → Type 0
HasCountsOf marks p = All (λ q. made_by node_of q.0 marks ≡ marks_up_to q.0 (length q.1)) p.joined

-- one of two tapes has as many marks as the limit
abbrev pub IsOneFull : ℕ → List Mark → List Mark → Type 0
IsOneFull limit first second = (length first ≡ limit) ⊎ (length second ≡ limit)
