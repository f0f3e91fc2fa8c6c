-- The lines that begin sections are read as they are written, and no other line is read as one.
use Rattle.std.proofs.Common.{◌≡◌, ℕ, zero, suc, true, false, cond, inl, inr, List, ◌∷◌, ◌++◌, Some}
use Rattle.std.proofs.Common.{None, refl, ap, subst, ◌∙◌, arith}
use Rattle.std.specs.Prelude.{codes, ◌==◌}
use Rattle.std.specs.Fmt.{decimal}
use Rattle.std.specs.List.{AllByRecursion}
use Rattle.std.specs.Str.{bytes_eq}
use Rattle.std.proofs.lemmas.Bool.Decides.{nat_tests}
use Rattle.ring_core.specs.declared.entry.RingEntry.{RingEntry}
use Rattle.ring_core.specs.declared.entry.RingEntry.TheVariants as ring
use Rattle.controller_core.specs.declared.entry.Entry.{Entry}
use Rattle.controller_core.specs.declared.entry.Entry.TheVariants as entries
use Rattle.host_port.specs.declared.entry.HostEntry.{HostEntry}
use Rattle.host_port.specs.declared.entry.HostEntry.TheVariants as host_entries
use Rattle.bridge_relay.specs.declared.entry.BridgeEntry.{BridgeEntry}
use Rattle.bridge_relay.specs.declared.entry.BridgeEntry.TheVariants as bridge_entries
use Rattle.journal_text.specs.declared.section.Head.{Head}
use Rattle.journal_text.specs.declared.section.Head.TheVariants as heads
use Rattle.journal_text.specs.Journal.{ring_head}
use Rattle.journal_lines.specs.Sizes.{IsSmall}
use Rattle.journal_reading.specs.Reading.{behind, read_pair, read_small}
use Rattle.journal_text.specs.Drafts.{head_forms, numbered_ring, read_head, read_ring_head}
use Rattle.journal_reading.proofs.Ranges.{chosen, all_lie}
use Rattle.journal_reading.proofs.Cuts.{some_is, bind_some, none_some, text_is}
use Rattle.journal_reading.proofs.ReadLaws.{IsField, IsForm, two_fields, lie_in, form_of_field}
use Rattle.journal_reading.proofs.ReadLaws.{first_takes}
use Rattle.journal_reading.proofs.Numbers.{small_field}
use Rattle.journal_reading.proofs.StationLines.{entry_body, host_body}
use Rattle.journal_reading.proofs.BridgeLines.{bridge_body}
use Rattle.journal_reading.proofs.RingLines.{ring_body}

abbrev pub head_body : Head → List ℕ
head_body (heads.Controller node) = codes "C " ++ decimal node
head_body (heads.Host node) = codes "H " ++ decimal node
head_body (heads.Bridge left right) = codes "W " ++ (decimal left ++ 32 ∷ decimal right)
head_body (heads.Ring network) = ring_head network

abbrev pub FitsHead : Head → Type 0
FitsHead (heads.Controller node) = IsSmall node
FitsHead (heads.Host node) = IsSmall node
FitsHead (heads.Bridge left right) = IsSmall left × IsSmall right
FitsHead (heads.Ring network) = IsSmall network

ends_field : IsField (read_pair read_small read_small 32) (λ p. decimal p.0 ++ 32 ∷ decimal p.1)
    (λ p. IsSmall p.0 × IsSmall p.1) 32 57
ends_field = two_fields 32 32 57 small_field small_field refl refl refl refl

-- a network with a number, which is not 0
other_ring : (network : ℕ) → (network == 0) ≡ false → codes "R " ++ decimal network
    ≡ ring_head network
other_ring network apart = rw apart refl

ring_takes : (bytes : List ℕ) (head : Head) → read_ring_head bytes ≡ Some head
    → (codes "R " ++ bytes ≡ head_body head) × FitsHead head
ring_takes bytes head e =
    let p = bind_some (read_small bytes) numbered_ring head e in
    let t = small_field.takes bytes p.0 p.1 in
    elim (chosen (p.0 == 0) None (Some (heads.Ring p.0)) (Some head) p.2) [
      | inl none ↦ none_some ((codes "R " ++ bytes ≡ head_body head) × FitsHead head) head none.1
      | inr apart ↦
          subst (λ (h : Head). (codes "R " ++ bytes ≡ head_body h) × FitsHead h)
          (some_is (heads.Ring p.0) head apart.1)
          (ap (λ (t : List ℕ). codes "R " ++ t) t.0 ∙ other_ring p.0 apart.0, t.1)
    ]

head_kinds_take : AllByRecursion (IsForm head_body FitsHead) head_forms
head_kinds_take = (
  form_of_field small_field head_body FitsHead (codes "C ") (λ node. heads.Controller node)
      (λ node fits. refl) (λ node fits. fits),
  (
    form_of_field small_field head_body FitsHead (codes "H ") (λ node. heads.Host node)
        (λ node fits. refl) (λ node fits. fits),
    (
      form_of_field ends_field head_body FitsHead (codes "W ") (λ p. heads.Bridge p.0 p.1)
          (λ p fits. refl) (λ p fits. fits),
      (record { takes = ring_takes }, tt),
    ),
  ),
)

bare_head : (line : List ℕ) (head : Head)
    → cond (bytes_eq line (codes "R")) (Some (heads.Ring 0)) None ≡ Some head
    → (line ≡ head_body head) × FitsHead head
bare_head line head e =
    elim (chosen (bytes_eq line (codes "R")) (Some (heads.Ring 0)) None (Some head) e) [
      | inl passed ↦
          subst (λ (h : Head). (line ≡ head_body h) × FitsHead h)
          (some_is (heads.Ring 0) head passed.1)
          (text_is line (codes "R") passed.0, omega arith)
      | inr apart ↦ none_some ((line ≡ head_body head) × FitsHead head) head apart.1
    ]

not_zero : (n : ℕ) → (suc n == 0) ≡ false
not_zero n = grind (arith, nat_tests)

head_again : (head : Head) → FitsHead head → read_head (head_body head) ≡ Some head
unfolding read_head behind
head_again (heads.Controller node) is = rw (small_field.again node is) refl
head_again (heads.Host node) is = rw (small_field.again node is) refl
head_again (heads.Bridge left right) is = rw (ends_field.again (left, right) is) refl
head_again (heads.Ring zero) is = refl
head_again (heads.Ring (suc n)) is = rw (not_zero n, small_field.again (suc n) is, not_zero n) refl

head_lie : (head : Head) → FitsHead head → all_lie 32 102 (head_body head) ≡ true
head_lie (heads.Controller node) is = lie_in small_field 32 102 refl node is
head_lie (heads.Host node) is = lie_in small_field 32 102 refl node is
head_lie (heads.Bridge left right) is = lie_in ends_field 32 102 refl (left, right) is
head_lie (heads.Ring zero) is = refl
head_lie (heads.Ring (suc n)) is = rw (not_zero n) (lie_in small_field 32 102 refl (suc n) is)

pub head_field : IsField read_head head_body FitsHead 32 102
unfolding read_head
head_field = record {
  takes = λ line head e. first_takes head_body FitsHead head_forms
      (cond (bytes_eq line (codes "R")) (Some (heads.Ring 0)) None) line head head_kinds_take
      (bare_head line head) e;
  again = head_again;
  lie = head_lie;
}

-- a head is not the last line
pub head_no_end : (head : Head) → bytes_eq (head_body head) (codes "%END") ≡ false
head_no_end (heads.Controller node) = refl
head_no_end (heads.Host node) = refl
head_no_end (heads.Bridge left right) = refl
head_no_end (heads.Ring zero) = refl
head_no_end (heads.Ring (suc n)) = rw (not_zero n) refl

-- the line of an entry is no head, and not the last line
abbrev pub IsEntryLine : List ℕ → Type 0
IsEntryLine line = (read_head line ≡ None) × (bytes_eq line (codes "%END") ≡ false)

pub entry_line : (entry : Entry) → IsEntryLine (entry_body entry)
unfolding read_head behind
entry_line entries.Begin = (refl, refl)
entry_line (entries.Input row) = (refl, refl)
entry_line (entries.Solve row) = (refl, refl)
entry_line (entries.Output row words) = (refl, refl)
entry_line entries.End = (refl, refl)
entry_line entries.Fail = (refl, refl)
entry_line entries.Dark = (refl, refl)
entry_line (entries.Collect calls) = (refl, refl)
entry_line (entries.Peer id request reply) = (refl, refl)
entry_line (entries.Off id request) = (refl, refl)
entry_line (entries.Finish id result) = (refl, refl)

pub host_entry_line : (entry : HostEntry) → IsEntryLine (host_body entry)
unfolding read_head behind
host_entry_line (host_entries.Ask id route pdu) = (refl, refl)
host_entry_line (host_entries.Answer id result) = (refl, refl)
host_entry_line (host_entries.Served id request reply) = (refl, refl)

pub bridge_entry_line : (entry : BridgeEntry) → IsEntryLine (bridge_body entry)
unfolding read_head behind
bridge_entry_line (bridge_entries.Accept side id route request) = (refl, refl)
bridge_entry_line (bridge_entries.Forward side old id route request) = (refl, refl)
bridge_entry_line (bridge_entries.Finish side id result) = (refl, refl)
bridge_entry_line (bridge_entries.Back side id reply) = (refl, refl)
bridge_entry_line (bridge_entries.Gone side) = (refl, refl)

pub ring_entry_line : (entry : RingEntry) → IsEntryLine (ring_body entry)
unfolding read_head behind
ring_entry_line (ring.Post node frame) = (refl, refl)
ring_entry_line (ring.Send node heard) = (refl, refl)
ring_entry_line (ring.Take node frame) = (refl, refl)
ring_entry_line (ring.Local node id op result) = (refl, refl)
ring_entry_line (ring.GiveUp id word) = (refl, refl)
ring_entry_line (ring.Pass node done words) = (refl, refl)
ring_entry_line (ring.Leave node cause) = (refl, refl)
ring_entry_line (ring.Join node) = (refl, refl)
