-- How far a journal is read, and what a line adds. This project's own.
use Rattle.std.specs.Prelude.{ℕ, Bool, true, false, nat_lt, if◌then◌else◌, codes, List, [], ◌∷◌}
use Rattle.std.specs.Prelude.{◌++◌, ◌==◌, ◌≡◌, ◌-◌, ◌^◌, min, Option, Some, None, Result, Ok, Err}
use Rattle.std.specs.Str.{bytes_eq}
use Rattle.joint_history.specs.declared.joint.ControllerLog.{ControllerLog}
use Rattle.joint_history.specs.declared.joint.HostLog.{HostLog}
use Rattle.joint_history.specs.declared.joint.BridgeLog.{BridgeLog}
use Rattle.joint_history.specs.declared.joint.RingLog.{RingLog}
use Rattle.joint_history.specs.declared.joint.Joint.{Joint}
use Rattle.ring_core.specs.declared.entry.RingEntry.{RingEntry}
use Rattle.controller_core.specs.declared.entry.Entry.{Entry}
use Rattle.host_port.specs.declared.entry.HostEntry.{HostEntry}
use Rattle.bridge_relay.specs.declared.entry.BridgeEntry.{BridgeEntry}
use Rattle.journal_text.specs.declared.fault.JournalFault.{JournalFault}
use Rattle.journal_text.specs.declared.fault.JournalFault.TheVariants.{Text, NoMemory}
use Rattle.journal_text.specs.declared.section.Head.{Head}
use Rattle.journal_text.specs.declared.section.Head.TheVariants as heads
use Rattle.journal_text.specs.declared.section.Section.{Section}
use Rattle.journal_text.specs.declared.section.Section.TheVariants as sections
use Rattle.journal_text.specs.declared.draft.Draft.{Draft}
use Rattle.journal_text.specs.declared.draft.Draft.TheVariants as drafts
use Rattle.journal_reading.specs.Reading.{◌>>=◌, Form, read_first, read_as, read_pair, read_small}
use Rattle.journal_reading.specs.ReadLines.{read_entry, read_host_entry, read_bridge_entry}
use Rattle.journal_reading.specs.ReadLines.{read_ring_entry}

-- The line that begins a section: network 0 has no number there.
abbrev pub read_bridge_head : List ℕ → Option Head
read_bridge_head text =
    read_as (λ ends. heads.Bridge ends.0 ends.1) (read_pair read_small read_small 32) text

abbrev pub numbered_ring : ℕ → Option Head
numbered_ring network = if network == 0 then None else Some (heads.Ring network)

abbrev pub read_ring_head : List ℕ → Option Head
read_ring_head text = read_small text >>= numbered_ring

abbrev pub head_forms : List (Form Head)
head_forms =
    (codes "C ", read_as (λ node. heads.Controller node) read_small)
    ∷ (codes "H ", read_as (λ node. heads.Host node) read_small)
    ∷ (codes "W ", read_bridge_head)
    ∷ (codes "R ", read_ring_head)
    ∷ []

unfoldable pub read_head : List ℕ → Option Head
read_head line =
    read_first head_forms (if bytes_eq line (codes "R") then Some (heads.Ring 0) else None) line

-- Logs of nothing, and logs with one entry more.
abbrev pub new_log : ℕ → ControllerLog
new_log node = record { node = node; entries = [] }

abbrev pub new_host_log : ℕ → HostLog
new_host_log node = record { node = node; entries = [] }

abbrev pub new_bridge_log : ℕ → ℕ → BridgeLog
new_bridge_log left right = record { left = left; right = right; entries = [] }

abbrev pub new_ring_log : ℕ → RingLog
new_ring_log network = record { network = network; entries = [] }

abbrev pub log_with_entry : ControllerLog → Entry → ControllerLog
log_with_entry log entry = record { node = log.node; entries = log.entries ++ entry ∷ [] }

abbrev pub host_log_with_entry : HostLog → HostEntry → HostLog
host_log_with_entry log entry = record { node = log.node; entries = log.entries ++ entry ∷ [] }

abbrev pub bridge_log_with_entry : BridgeLog → BridgeEntry → BridgeLog
bridge_log_with_entry log entry =
    record { left = log.left; right = log.right; entries = log.entries ++ entry ∷ [] }

abbrev pub ring_log_with_entry : RingLog → RingEntry → RingLog
ring_log_with_entry log entry =
    record { network = log.network; entries = log.entries ++ entry ∷ [] }

-- The head of a section, and the section that a head begins.
abbrev pub head_of : Section → Head
head_of (sections.Controller log) = heads.Controller log.node
head_of (sections.Host log) = heads.Host log.node
head_of (sections.Bridge log) = heads.Bridge log.left log.right
head_of (sections.Ring log) = heads.Ring log.network

abbrev pub new_section : Head → Section
new_section (heads.Controller node) = sections.Controller (new_log node)
new_section (heads.Host node) = sections.Host (new_host_log node)
new_section (heads.Bridge left right) = sections.Bridge (new_bridge_log left right)
new_section (heads.Ring network) = sections.Ring (new_ring_log network)

-- Controllers stand first, then hosts, then bridges, then rings, and those of a kind rise.
unfoldable pub goes_before : Head → Head → Bool
goes_before (heads.Controller node) (heads.Controller next) = nat_lt node next
goes_before (heads.Controller node) _ = true
goes_before (heads.Host node) (heads.Controller next) = false
goes_before (heads.Host node) (heads.Host next) = nat_lt node next
goes_before (heads.Host node) _ = true
goes_before (heads.Bridge left right) (heads.Bridge next other) = nat_lt left next
goes_before (heads.Bridge left right) (heads.Ring network) = true
goes_before (heads.Bridge left right) _ = false
goes_before (heads.Ring network) (heads.Ring next) = nat_lt network next
goes_before (heads.Ring network) _ = false

-- A joint history of nothing, and one with a section more.
abbrev pub no_sections : Joint
no_sections = record { controllers = []; hosts = []; bridges = []; rings = [] }

abbrev pub with_section : Joint → Section → Joint
with_section joint (sections.Controller log) =
    record joint { controllers = joint.controllers ++ log ∷ [] }
with_section joint (sections.Host log) = record joint { hosts = joint.hosts ++ log ∷ [] }
with_section joint (sections.Bridge log) = record joint { bridges = joint.bridges ++ log ∷ [] }
with_section joint (sections.Ring log) = record joint { rings = joint.rings ++ log ∷ [] }

-- A section with what a line tells.
abbrev pub with_line : Section → List ℕ → Option Section
with_line (sections.Controller log) line =
    read_as (λ entry. sections.Controller (log_with_entry log entry)) read_entry line
with_line (sections.Host log) line =
    read_as (λ entry. sections.Host (host_log_with_entry log entry)) read_host_entry line
with_line (sections.Bridge log) line =
    read_as (λ entry. sections.Bridge (bridge_log_with_entry log entry)) read_bridge_entry line
with_line (sections.Ring log) line =
    read_as (λ entry. sections.Ring (ring_log_with_entry log entry)) read_ring_entry line

-- What a line adds to what is read.
unfoldable pub start_line : List ℕ → Option Draft
start_line line = if bytes_eq line (codes "%JOURNAL") then Some drafts.Open else None

unfoldable pub first_head : List ℕ → Option Draft
first_head line = do
  head ← read_head line
  Some (drafts.Inside no_sections (new_section head))

unfoldable pub open_line : List ℕ → Option Draft
open_line line =
    if bytes_eq line (codes "%END") then Some (drafts.End no_sections) else first_head line

-- A head, or else an entry.
abbrev pub headed : {V : Type 0} → Option Head → (Head → Option V) → Option V → Option V
headed (Some head) turn other = turn head
headed None turn other = other

unfoldable pub next_section : Joint → Section → Head → Option Draft
next_section done section head =
    if goes_before (head_of section) head
    then Some (drafts.Inside (with_section done section) (new_section head))
    else None

unfoldable pub next_entry : Joint → Section → List ℕ → Option Draft
next_entry done section line = do
  more ← with_line section line
  Some (drafts.Inside done more)

unfoldable pub inside_line : Joint → Section → List ℕ → Option Draft
inside_line done section line =
    headed (read_head line) (next_section done section) (next_entry done section line)

unfoldable pub inside_step : Joint → Section → List ℕ → Option Draft
inside_step done section line =
    if bytes_eq line (codes "%END") then Some (drafts.End (with_section done section))
    else inside_line done section line

unfoldable pub step : Draft → List ℕ → Option Draft
step drafts.Start line = start_line line
step drafts.Open line = open_line line
step (drafts.Inside done section) line = inside_step done section line
step (drafts.End joint) line = None

-- What a line, or the end of the bytes, came to: a value, or the number of the line.
abbrev pub StopsAt : {V : Type 0} → ℕ → JournalFault → Option V → Type 0
StopsAt number (Text line) read = (read ≡ None) × (line ≡ min number (2 ^ 32 - 1))
StopsAt number NoMemory read = Unit {0}

abbrev pub ReadsAt : {V : Type 0} → ℕ → Result V JournalFault → Option V → Type 0
ReadsAt number (Ok value) read = read ≡ Some value
ReadsAt number (Err fault) read = StopsAt number fault read

-- A joint history is read where its last line is, and nothing stands after it.
abbrev pub ending : Draft → List ℕ → Option Joint
ending (drafts.End joint) [] = Some joint
ending _ _ = None
