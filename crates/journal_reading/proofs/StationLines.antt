-- The lines of controllers and hosts are read as they are written.
use Rattle.std.proofs.Common.{◌≡◌, ℕ, true, inl, inr, List, [], ◌∷◌, ◌++◌, Option, Some, None, All}
use Rattle.std.proofs.Common.{refl, sym, ap, subst, ◌∙◌, append_assoc}
use Rattle.std.specs.Prelude.{codes, if◌then◌else◌}
use Rattle.std.specs.Fmt.{decimal}
use Rattle.std.specs.List.{flat_map, AllByRecursion}
use Rattle.std.specs.Str.{bytes_eq}
use Rattle.std.proofs.lemmas.List.Elements.{All-weaker}
use Rattle.mstr_block.specs.declared.call.CallId.{CallId}
use Rattle.controller_core.specs.declared.call.Call.{Call}
use Rattle.controller_core.specs.declared.entry.Entry.{Entry}
use Rattle.controller_core.specs.declared.entry.Entry.TheVariants as entries
use Rattle.host_port.specs.declared.entry.HostResult.{HostResult}
use Rattle.host_port.specs.declared.entry.HostResult.TheVariants as host_results
use Rattle.host_port.specs.declared.entry.HostEntry.{HostEntry}
use Rattle.host_port.specs.declared.entry.HostEntry.TheVariants as host_entries
use Rattle.journal_lines.specs.Fields.{hex_bytes, hex_words, id_text, call_result_text, route_text}
use Rattle.journal_lines.specs.Lines.{call_text, controller_line, answer_text, host_line, with_feed}
use Rattle.journal_lines.specs.Plain.{IsPlainCall, IsPlainEntry, IsPlainHostEntry}
use Rattle.journal_lines.specs.Sizes.{IsId, IsWord, AreBlockWords, FitsCall, FitsEntry, FitsResult}
use Rattle.journal_lines.specs.Sizes.{FitsAnswer, FitsHostEntry}
use Rattle.journal_reading.specs.Reading.{behind, read_pair, read_word, read_id, read_block}
use Rattle.journal_reading.specs.ReadLines.{entry_forms, read_bare_entry, read_entry, outcome_forms}
use Rattle.journal_reading.specs.ReadLines.{read_outcome, host_forms, read_host_entry, read_result}
use Rattle.journal_reading.proofs.Ranges.{chosen, all_lie}
use Rattle.journal_reading.proofs.Cuts.{some_is, none_some, text_is}
use Rattle.journal_reading.proofs.ReadLaws.{IsField, IsForm, two_fields, lie_in, form_of_field}
use Rattle.journal_reading.proofs.ReadLaws.{first_takes}
use Rattle.journal_reading.proofs.Numbers.{word_number_field, id_field}
use Rattle.journal_reading.proofs.Digits.{pdu_field, word_field, block_field}
use Rattle.journal_reading.proofs.Calls.{IsCall, AreCalls, calls_body, next_is, result_field}
use Rattle.journal_reading.proofs.Calls.{calls_field, served_field, asked_field, named_field}

-- the line of an entry without its line feed
abbrev peer_body : CallId → List ℕ → List ℕ → List ℕ
peer_body id request reply =
    codes "P " ++ (id_text id ++ 32 ∷ (hex_bytes request ++ 32 ∷ hex_bytes reply))

abbrev pub entry_body : Entry → List ℕ
entry_body entries.Begin = codes "B"
entry_body (entries.Input row) = codes "I " ++ decimal row
entry_body (entries.Solve row) = codes "S " ++ decimal row
entry_body (entries.Output row words) = codes "O " ++ (decimal row ++ 32 ∷ hex_words words)
entry_body entries.End = codes "E"
entry_body entries.Fail = codes "X"
entry_body entries.Dark = codes "K"
entry_body (entries.Collect calls) = codes "L" ++ flat_map call_text calls
entry_body (entries.Peer id request reply) = peer_body id request reply
entry_body (entries.Off id request) = codes "N " ++ (id_text id ++ 32 ∷ hex_bytes request)
entry_body (entries.Finish id result) = codes "F " ++ (id_text id ++ 32 ∷ call_result_text result)

abbrev pub IsEntry : Entry → Type 0
IsEntry entry = FitsEntry entry × IsPlainEntry entry

pub entry_ended : (entry : Entry) → controller_line entry ≡ with_feed (entry_body entry)
entry_ended entries.Begin = refl
entry_ended (entries.Input row) = refl
entry_ended (entries.Solve row) = refl
entry_ended (entries.Output row words) = simp append_assoc
entry_ended entries.End = refl
entry_ended entries.Fail = refl
entry_ended entries.Dark = refl
entry_ended (entries.Collect calls) = refl
entry_ended (entries.Peer id request reply) = simp append_assoc
entry_ended (entries.Off id request) = simp append_assoc
entry_ended (entries.Finish id result) = simp append_assoc

-- the kinds of a controller's lines
output_field : IsField (read_pair read_word read_block 32) (λ p. decimal p.0 ++ 32 ∷ hex_words p.1)
    (λ p. IsWord p.0 × AreBlockWords p.1) 32 102
output_field = two_fields 32 32 102 word_number_field block_field refl refl refl refl

finish_field : IsField (read_pair read_id read_result 32)
    (λ p. id_text p.0 ++ 32 ∷ call_result_text p.1) (λ p. IsId p.0 × FitsResult p.1) 32 102
finish_field = two_fields 32 32 102 id_field result_field refl refl refl refl

calls_front : (calls : List Call) → AreCalls calls
    → codes "L " ++ calls_body calls ≡ entry_body (entries.Collect calls)
calls_front [] are = absurd (are.0 refl)
calls_front (call ∷ calls) are = ap (λ (t : List ℕ). 76 ∷ t) (sym (next_is call calls))

calls_fit : (calls : List Call) → AreCalls calls → IsEntry (entries.Collect calls)
calls_fit calls are = (
  All-weaker IsCall FitsCall (λ c is. is.0) calls are.1,
  (are.0, All-weaker IsCall IsPlainCall (λ c is. is.1) calls are.1),
)

both_calls : (calls : List Call) → All FitsCall calls → All IsPlainCall calls → All IsCall calls
both_calls calls fits plain k d within = (fits k d within, plain k d within)

calls_of_entry : (calls : List Call) → IsEntry (entries.Collect calls) → AreCalls calls
calls_of_entry calls is = (is.1.0, both_calls calls is.0 is.1.1)

entry_kinds_take : AllByRecursion (IsForm entry_body IsEntry) entry_forms
entry_kinds_take = (
  form_of_field word_number_field entry_body IsEntry (codes "I ") (λ row. entries.Input row)
      (λ row fits. refl) (λ row fits. (fits, tt)),
  (
    form_of_field word_number_field entry_body IsEntry (codes "S ") (λ row. entries.Solve row)
        (λ row fits. refl) (λ row fits. (fits, tt)),
    (
      form_of_field output_field entry_body IsEntry (codes "O ") (λ p. entries.Output p.0 p.1)
          (λ p fits. refl) (λ p fits. (fits, tt)),
      (
        form_of_field calls_field entry_body IsEntry (codes "L ")
            (λ calls. entries.Collect calls) calls_front calls_fit,
        (
          form_of_field served_field entry_body IsEntry (codes "P ") (λ p. entries.Peer p.0 p.1.0
              p.1.1) (λ p fits. refl) (λ p fits. ((fits.0, fits.1.0, fits.1.1), tt)),
          (
            form_of_field named_field entry_body IsEntry (codes "N ") (λ p. entries.Off p.0 p.1)
                (λ p fits. refl) (λ p fits. (fits, tt)),
            (
              form_of_field finish_field entry_body IsEntry (codes "F ")
                  (λ p. entries.Finish p.0 p.1) (λ p fits. refl) (λ p fits. (fits, tt)),
              tt,
            ),
          ),
        ),
      ),
    ),
  ),
)

-- a line that is one letter, or else another one
letter_takes : (letter line : List ℕ) (of_letter entry : Entry) (other : Option Entry)
    → letter ≡ entry_body of_letter → IsEntry of_letter
    → (other ≡ Some entry → (line ≡ entry_body entry) × IsEntry entry)
    → (if bytes_eq line letter then Some of_letter else other) ≡ Some entry
    → (line ≡ entry_body entry) × IsEntry entry
letter_takes letter line of_letter entry other told is more e =
    elim (chosen (bytes_eq line letter) (Some of_letter) other (Some entry) e) [
      | inl found ↦
          subst (λ (x : Entry). (line ≡ entry_body x) × IsEntry x)
          (some_is of_letter entry found.1) (text_is line letter found.0 ∙ told, is)
      | inr rest ↦ more rest.1
    ]

bare_entry_takes : (line : List ℕ) (entry : Entry) → read_bare_entry line ≡ Some entry
    → (line ≡ entry_body entry) × IsEntry entry
bare_entry_takes line entry =
    letter_takes (codes "B") line entries.Begin entry _ refl (tt, tt)
    (letter_takes (codes "E") line entries.End entry _ refl (tt, tt)
    (letter_takes (codes "X") line entries.Fail entry _ refl (tt, tt)
    (letter_takes (codes "K") line entries.Dark entry None refl (tt, tt)
    (none_some ((line ≡ entry_body entry) × IsEntry entry) entry))))

collect_again : (calls : List Call) → AreCalls calls
    → read_entry (entry_body (entries.Collect calls)) ≡ Some (entries.Collect calls)
unfolding read_entry behind
collect_again calls are = ap read_entry (sym (calls_front calls are))
    ∙ rw (calls_field.again calls are) refl

entry_again : (entry : Entry) → IsEntry entry → read_entry (entry_body entry) ≡ Some entry
unfolding read_entry behind
entry_again entries.Begin is = refl
entry_again (entries.Input row) is = rw (word_number_field.again row is.0) refl
entry_again (entries.Solve row) is = rw (word_number_field.again row is.0) refl
entry_again (entries.Output row words) is = rw (output_field.again (row, words) is.0) refl
entry_again entries.End is = refl
entry_again entries.Fail is = refl
entry_again entries.Dark is = refl
entry_again (entries.Collect calls) is = collect_again calls (calls_of_entry calls is)
entry_again (entries.Peer id request reply) is =
    rw (served_field.again (id, (request, reply)) (is.0.0, (is.0.1, is.0.2))) refl
entry_again (entries.Off id request) is = rw (named_field.again (id, request) is.0) refl
entry_again (entries.Finish id result) is = rw (finish_field.again (id, result) is.0) refl

entry_lie : (entry : Entry) → IsEntry entry → all_lie 32 102 (entry_body entry) ≡ true
entry_lie entries.Begin is = refl
entry_lie (entries.Input row) is = lie_in word_number_field 32 102 refl row is.0
entry_lie (entries.Solve row) is = lie_in word_number_field 32 102 refl row is.0
entry_lie (entries.Output row words) is = output_field.lie (row, words) is.0
entry_lie entries.End is = refl
entry_lie entries.Fail is = refl
entry_lie entries.Dark is = refl
entry_lie (entries.Collect calls) is =
    let are = calls_of_entry calls is in
    subst (λ (t : List ℕ). all_lie 32 102 t ≡ true) (calls_front calls are)
    (calls_field.lie calls are)
entry_lie (entries.Peer id request reply) is =
    served_field.lie (id, (request, reply)) (is.0.0, (is.0.1, is.0.2))
entry_lie (entries.Off id request) is = named_field.lie (id, request) is.0
entry_lie (entries.Finish id result) is = finish_field.lie (id, result) is.0

pub entry_field : IsField read_entry entry_body IsEntry 32 102
unfolding read_entry
entry_field = record {
  takes = λ line entry e. first_takes entry_body IsEntry entry_forms
      (read_bare_entry line) line entry entry_kinds_take (bare_entry_takes line entry) e;
  again = entry_again;
  lie = entry_lie;
}

-- what came of a host's request
outcome_kinds_take : AllByRecursion (IsForm answer_text FitsAnswer) outcome_forms
outcome_kinds_take = (
  form_of_field pdu_field answer_text FitsAnswer (codes "R ") (λ pdu. host_results.Reply pdu)
      (λ pdu fits. refl) (λ pdu fits. fits),
  (
    form_of_field word_field answer_text FitsAnswer (codes "B ") (λ word. host_results.Bad word)
        (λ word fits. refl) (λ word fits. fits),
    tt,
  ),
)

outcome_again : (r : HostResult) → FitsAnswer r → read_outcome (answer_text r) ≡ Some r
unfolding read_outcome behind
outcome_again (host_results.Reply pdu) is = rw (pdu_field.again pdu is) refl
outcome_again (host_results.Bad word) is = rw (word_field.again word is) refl

outcome_lie : (r : HostResult) → FitsAnswer r → all_lie 32 102 (answer_text r) ≡ true
outcome_lie (host_results.Reply pdu) is = lie_in pdu_field 32 102 refl pdu is
outcome_lie (host_results.Bad word) is = lie_in word_field 32 102 refl word is

outcome_field : IsField read_outcome answer_text FitsAnswer 32 102
unfolding read_outcome
outcome_field = record {
  takes = λ text r e. first_takes answer_text FitsAnswer outcome_forms None text r
      outcome_kinds_take (none_some ((text ≡ answer_text r) × FitsAnswer r) r) e;
  again = outcome_again;
  lie = outcome_lie;
}

-- the kinds of a host's lines
abbrev pub host_body : HostEntry → List ℕ
host_body (host_entries.Ask id route pdu) =
    codes "Q " ++ (id_text id ++ 32 ∷ (route_text route ++ 32 ∷ hex_bytes pdu))
host_body (host_entries.Answer id result) = codes "A " ++ (id_text id ++ 32 ∷ answer_text result)
host_body (host_entries.Served id request reply) = peer_body id request reply

abbrev pub IsHostEntry : HostEntry → Type 0
IsHostEntry entry = FitsHostEntry entry × IsPlainHostEntry entry

pub host_ended : (entry : HostEntry) → host_line entry ≡ with_feed (host_body entry)
host_ended (host_entries.Ask id route pdu) = simp append_assoc
host_ended (host_entries.Answer id result) = simp append_assoc
host_ended (host_entries.Served id request reply) = simp append_assoc

answer_field : IsField (read_pair read_id read_outcome 32)
    (λ p. id_text p.0 ++ 32 ∷ answer_text p.1) (λ p. IsId p.0 × FitsAnswer p.1) 32 102
answer_field = two_fields 32 32 102 id_field outcome_field refl refl refl refl

host_kinds_take : AllByRecursion (IsForm host_body IsHostEntry) host_forms
host_kinds_take = (
  form_of_field asked_field host_body IsHostEntry (codes "Q ") (λ p.
      host_entries.Ask p.0 p.1.0 p.1.1) (λ p fits. refl)
      (λ p fits. ((fits.0, fits.1.0.1, fits.1.1), fits.1.0.0)),
  (
    form_of_field answer_field host_body IsHostEntry (codes "A ")
        (λ p. host_entries.Answer p.0 p.1) (λ p fits. refl) (λ p fits. (fits, tt)),
    (
      form_of_field served_field host_body IsHostEntry (codes "P ") (λ p. host_entries.Served p.0
          p.1.0 p.1.1) (λ p fits. refl) (λ p fits. ((fits.0, fits.1.0, fits.1.1), tt)),
      tt,
    ),
  ),
)

host_again : (entry : HostEntry) → IsHostEntry entry
    → read_host_entry (host_body entry) ≡ Some entry
unfolding read_host_entry behind
host_again (host_entries.Ask id route pdu) is =
    rw (asked_field.again (id, (route, pdu)) (is.0.0, ((is.1, is.0.1), is.0.2))) refl
host_again (host_entries.Answer id result) is = rw (answer_field.again (id, result) is.0) refl
host_again (host_entries.Served id request reply) is =
    rw (served_field.again (id, (request, reply)) (is.0.0, (is.0.1, is.0.2))) refl

host_lie : (entry : HostEntry) → IsHostEntry entry → all_lie 32 102 (host_body entry) ≡ true
host_lie (host_entries.Ask id route pdu) is =
    asked_field.lie (id, (route, pdu)) (is.0.0, ((is.1, is.0.1), is.0.2))
host_lie (host_entries.Answer id result) is = answer_field.lie (id, result) is.0
host_lie (host_entries.Served id request reply) is =
    served_field.lie (id, (request, reply)) (is.0.0, (is.0.1, is.0.2))

pub host_field : IsField read_host_entry host_body IsHostEntry 32 102
unfolding read_host_entry
host_field = record {
  takes = λ line entry e. first_takes host_body IsHostEntry host_forms None line entry
      host_kinds_take (none_some ((line ≡ host_body entry) × IsHostEntry entry) entry) e;
  again = host_again;
  lie = host_lie;
}
