-- The control block of an MSTR block, the tests of a start and the call that it asks for. Modicon
-- Ladder Logic Block Library User Guide; the exact limits and the order of the tests are this
-- project's own.
use Rattle.std.specs.Prelude.{◌≡◌, ◌≤◌, ℕ, ◌+◌, ◌-◌, Bool, true, false, nat_lt, nat_le, ◌==◌, not}
use Rattle.std.specs.Prelude.{◌&&◌, ◌||◌, if◌then◌else◌, List, [], ◌∷◌, Option, Some, None, is_some}
use Rattle.std.specs.Prelude.{Result, Ok, Err}
use Rattle.std.specs.List.{All, list_any, list_all, before_first, after_first}
use Rattle.plant_types.specs.declared.reference.Ref.{Ref}
use Rattle.plant_types.specs.Reference.{ref_from, most_references}
use Rattle.plant_types.specs.Limits.{is_up_to, most_address}
use Rattle.plant_types.specs.Store.{Contents, word_at, words_from}
use Rattle.mstr_block.specs.declared.call.MstrAsk.{MstrAsk}
use Rattle.mstr_block.specs.declared.call.MstrAsk.TheVariants.{Write, Read, LocalStats, ClearLocal}
use Rattle.mstr_block.specs.declared.call.MstrAsk.TheVariants.{PutGlobal, GetGlobal, RemoteStats}
use Rattle.mstr_block.specs.declared.call.MstrAsk.TheVariants.{ClearRemote}
use Rattle.mstr_block.specs.declared.control.Control.{Control}
use Rattle.mstr_block.specs.declared.operation.Operation.{Operation}
use Rattle.mstr_block.specs.declared.operation.Operation.TheVariants as op
use Rattle.mstr_block.specs.Operations.{operation_of, uses_network, moves_registers}
use Rattle.plant_types.specs.Words.{statistics_words}
use Rattle.mstr_block.specs.Operations.{reads_statistics, names_node, most_words}

-- The nine registers of a control block: operation, status, length, first register there or first
-- word of the statistics, the node, and the hops of a route behind it.
abbrev pub code_register : Ref → Ref
code_register control = ref_from control 0

abbrev pub status_register : Ref → Ref
status_register control = ref_from control 1

abbrev pub length_register : Ref → Ref
length_register control = ref_from control 2

abbrev pub start_register : Ref → Ref
start_register control = ref_from control 3

abbrev pub node_register : Ref → Ref
node_register control = ref_from control 4

abbrev pub route_behind : Ref → Ref
route_behind control = ref_from control 5

abbrev pub hop_count : ℕ
hop_count = 4

-- What a control block says.
abbrev pub control_block_of : Contents → Ref → Control
control_block_of m control = record {
  code = word_at m (code_register control);
  length = word_at m (length_register control);
  start = word_at m (start_register control);
  node = word_at m (node_register control);
  hops = words_from m (route_behind control) hop_count;
}

-- The error words.
abbrev pub user_abort : ℕ
user_abort = 0x1001

abbrev pub illegal_operation : ℕ
illegal_operation = 0x2001

abbrev pub invalid_length : ℕ
invalid_length = 0x2003

abbrev pub invalid_start : ℕ
invalid_start = 0x2004

abbrev pub invalid_end : ℕ
invalid_end = 0x2005

abbrev pub invalid_area : ℕ
invalid_area = 0x2006

abbrev pub invalid_route : ℕ
invalid_route = 0x2008

abbrev pub own_address : ℕ
own_address = 0x2009

-- The length is not from 1 to the greatest.
abbrev pub is_out_of : Option ℕ → ℕ → Bool
is_out_of None length = false
is_out_of (Some most) length = not (is_up_to most length)

abbrev pub has_bad_length : Operation → Control → Bool
has_bad_length operation control = is_out_of (most_words operation) control.length

-- The first register is 0, or the first word stands behind the statistics.
abbrev pub has_bad_start : Operation → Control → Bool
has_bad_start operation control =
    moves_registers operation && (control.start == 0)
    || reads_statistics operation && nat_le statistics_words control.start

-- The last register stands behind all references, or the last word behind the statistics.
abbrev pub has_bad_end : Operation → Control → Bool
has_bad_end operation control =
    moves_registers operation && nat_lt most_references (control.start + control.length - 1)
    || reads_statistics operation && nat_lt statistics_words (control.start + control.length)

-- The words are more than the data area has registers.
abbrev pub has_small_area : ℕ → Operation → Control → Bool
has_small_area room operation control =
    is_some (most_words operation) && nat_lt room control.length

-- A route ends before the first hop that is 0.
abbrev pub is_no_hop : ℕ → Bool
is_no_hop hop = hop == 0

-- Where routes may lead over bridges: a hop is no address, or one stands behind a hop that is 0.
-- Elsewhere: there is a hop.
abbrev pub has_bad_hops : Bool → List ℕ → Bool
has_bad_hops true hops =
    list_any (nat_lt most_address) hops || not (list_all is_no_hop (after_first is_no_hop hops))
has_bad_hops false hops = not (list_all is_no_hop hops)

-- The node is no address, or the hops behind it make no route.
abbrev pub has_bad_route : Bool → Operation → Control → Bool
has_bad_route routed operation control =
    names_node operation && not (is_up_to most_address control.node)
    || uses_network operation && has_bad_hops routed control.hops

-- The route: the node, and the hops behind it up to the first that is 0.
abbrev pub route_of : Control → List ℕ
route_of control = control.node ∷ before_first is_no_hop control.hops

-- The route begins at the own station.
abbrev pub asks_itself : ℕ → Operation → Control → Bool
asks_itself own operation control = uses_network operation && (control.node == own)

-- The word of the first test that fails.
abbrev pub first_failing : List (Bool × ℕ) → Option ℕ
first_failing [] = None
first_failing (test ∷ tests) = if test.0 then Some test.1 else first_failing tests

-- The tests of a start in their order, each with its error word: whether routes may lead over
-- bridges, the own address, the registers of the data area, the operation, the control block.
abbrev pub tests_of : Bool → ℕ → ℕ → Operation → Control → List (Bool × ℕ)
tests_of routed own room operation control =
    (has_bad_length operation control, invalid_length)
    ∷ (has_bad_start operation control, invalid_start)
    ∷ (has_bad_end operation control, invalid_end)
    ∷ (has_small_area room operation control, invalid_area)
    ∷ (has_bad_route routed operation control, invalid_route)
    ∷ (asks_itself own operation control, own_address)
    ∷ []

-- The operation of a start, or its error word: an unknown operation, or the first test that fails.
abbrev pub tests_passed : Operation → Option ℕ → Result Operation ℕ
tests_passed operation None = Ok operation
tests_passed operation (Some word) = Err word

abbrev pub checked : Bool → ℕ → ℕ → Control → Option Operation → Result Operation ℕ
checked routed own room control None = Err illegal_operation
checked routed own room control (Some operation) =
    tests_passed operation (first_failing (tests_of routed own room operation control))

abbrev pub start_of : Bool → ℕ → ℕ → Control → Result Operation ℕ
start_of routed own room control = checked routed own room control (operation_of control.code)

-- The call of an operation, with the words that it writes.
abbrev pub ask_of : Operation → Control → List ℕ → MstrAsk
ask_of op.WriteData control words = Write (route_of control) control.start words
ask_of op.ReadData control words = Read (route_of control) control.start control.length
ask_of op.LocalStatistics control words = LocalStats
ask_of op.ClearLocal control words = ClearLocal
ask_of op.WriteGlobal control words = PutGlobal words
ask_of op.ReadGlobal control words = GetGlobal control.node control.length
ask_of op.RemoteStatistics control words = RemoteStats (route_of control)
ask_of op.ClearRemote control words = ClearRemote (route_of control)

-- No number is above the highest address.
abbrev pub AreLow : List ℕ → Type 0
AreLow numbers = All (λ number. number ≤ most_address) numbers

-- What a start that passed its tests knows: the length is in its range, and so are a node that it
-- names and the addresses of a route.
pub record FitsStart (room : ℕ) (operation : Operation) (control : Control) : Type 0 where
  pub long : has_bad_length operation control ≡ false
  pub area : has_small_area room operation control ≡ false
  pub node : names_node operation ≡ true → control.node ≤ most_address
  pub route : uses_network operation ≡ true → AreLow (route_of control)
