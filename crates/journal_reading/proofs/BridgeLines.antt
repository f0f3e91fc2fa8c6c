-- The lines of bridges are read as they are written.
use Rattle.std.proofs.Common.{◌≡◌, ℕ, true, List, [], ◌∷◌, ◌++◌, Some, None, refl, append_assoc}
use Rattle.std.specs.Prelude.{codes}
use Rattle.std.specs.Fmt.{decimal}
use Rattle.std.specs.List.{AllByRecursion}
use Rattle.bridge_relay.specs.declared.entry.RelayResult.{RelayResult}
use Rattle.bridge_relay.specs.declared.entry.RelayResult.TheVariants as relay_results
use Rattle.bridge_relay.specs.declared.entry.BridgeEntry.{BridgeEntry}
use Rattle.bridge_relay.specs.declared.entry.BridgeEntry.TheVariants as bridge_entries
use Rattle.journal_lines.specs.Fields.{hex_bytes, id_text, route_or_dash, route_text}
use Rattle.journal_lines.specs.Lines.{bridge_line, relay_text, with_feed}
use Rattle.journal_lines.specs.Plain.{IsPlainBridgeEntry}
use Rattle.journal_lines.specs.Sizes.{IsId, IsPdu, IsRoute, IsSmall, FitsBridgeEntry, FitsRelay}
use Rattle.journal_reading.specs.Reading.{behind, read_id, read_pair, read_small}
use Rattle.journal_reading.specs.ReadLines.{bridge_forms, read_asked, read_bridge_entry}
use Rattle.journal_reading.specs.ReadLines.{read_coming, read_named, read_relay, relay_forms}
use Rattle.journal_reading.proofs.Ranges.{all_lie}
use Rattle.journal_reading.proofs.Cuts.{none_some}
use Rattle.journal_reading.proofs.ReadLaws.{IsField, IsForm, two_fields, lie_in, form_of_field}
use Rattle.journal_reading.proofs.ReadLaws.{first_takes}
use Rattle.journal_reading.proofs.Numbers.{id_field, small_field}
use Rattle.journal_reading.proofs.Digits.{pdu_field, word_field}
use Rattle.journal_reading.proofs.Calls.{asked_field, coming_field, named_field}
use Rattle.journal_reading.proofs.Parts.{IsSomeRoute}
use Rattle.journal_reading.proofs.RingLines.{parts_four, parts_three}

-- what came of a request that a bridge sent on
relay_kinds_take : AllByRecursion (IsForm relay_text FitsRelay) relay_forms
relay_kinds_take = (
  form_of_field pdu_field relay_text FitsRelay (codes "R ") (λ pdu. relay_results.Reply pdu)
      (λ pdu fits. refl) (λ pdu fits. fits),
  (
    form_of_field word_field relay_text FitsRelay (codes "B ") (λ word. relay_results.Bad word)
        (λ word fits. refl) (λ word fits. fits),
    tt,
  ),
)

relay_again : (r : RelayResult) → FitsRelay r → read_relay (relay_text r) ≡ Some r
unfolding read_relay behind
relay_again (relay_results.Reply pdu) is = rw (pdu_field.again pdu is) refl
relay_again (relay_results.Bad word) is = rw (word_field.again word is) refl

relay_lie : (r : RelayResult) → FitsRelay r → all_lie 32 102 (relay_text r) ≡ true
relay_lie (relay_results.Reply pdu) is = lie_in pdu_field 32 102 refl pdu is
relay_lie (relay_results.Bad word) is = lie_in word_field 32 102 refl word is

relay_field : IsField read_relay relay_text FitsRelay 32 102
unfolding read_relay
relay_field = record {
  takes = λ text r e. first_takes relay_text FitsRelay relay_forms None text r
      relay_kinds_take (none_some ((text ≡ relay_text r) × FitsRelay r) r) e;
  again = relay_again;
  lie = relay_lie;
}

-- the line of an entry without its line feed
abbrev pub bridge_body : BridgeEntry → List ℕ
bridge_body (bridge_entries.Accept side id route request) =
    codes "T " ++ (decimal side
    ++ 32 ∷ (id_text id ++ 32 ∷ (route_or_dash route ++ 32 ∷ hex_bytes request)))
bridge_body (bridge_entries.Forward side old id route request) =
    codes "U " ++ (decimal side ++ 32 ∷ (id_text old
    ++ 32 ∷ (id_text id ++ 32 ∷ (route_text route ++ 32 ∷ hex_bytes request))))
bridge_body (bridge_entries.Finish side id result) =
    codes "A " ++ (decimal side ++ 32 ∷ (id_text id ++ 32 ∷ relay_text result))
bridge_body (bridge_entries.Back side id reply) =
    codes "V " ++ (decimal side ++ 32 ∷ (id_text id ++ 32 ∷ hex_bytes reply))
bridge_body (bridge_entries.Gone side) = codes "G " ++ decimal side

abbrev pub IsBridgeEntry : BridgeEntry → Type 0
IsBridgeEntry entry = FitsBridgeEntry entry × IsPlainBridgeEntry entry

parts_five : (front a b d f g : List ℕ)
    → front ++ a ++ 32 ∷ [] ++ b ++ 32 ∷ [] ++ d ++ 32 ∷ [] ++ f ++ 32 ∷ [] ++ g ++ 10 ∷ []
    ≡ (front ++ (a ++ 32 ∷ (b ++ 32 ∷ (d ++ 32 ∷ (f ++ 32 ∷ g))))) ++ 10 ∷ []
parts_five front a b d f g = simp append_assoc

pub bridge_ended : (entry : BridgeEntry) → bridge_line entry ≡ with_feed (bridge_body entry)
bridge_ended (bridge_entries.Accept side id route request) =
    parts_four (codes "T ") (decimal side) (id_text id) (route_or_dash route) (hex_bytes request)
bridge_ended (bridge_entries.Forward side old id route request) =
    parts_five (codes "U ") (decimal side) (id_text old) (id_text id) (route_text route)
    (hex_bytes request)
bridge_ended (bridge_entries.Finish side id result) =
    parts_three (codes "A ") (decimal side) (id_text id) (relay_text result)
bridge_ended (bridge_entries.Back side id reply) =
    parts_three (codes "V ") (decimal side) (id_text id) (hex_bytes reply)
bridge_ended (bridge_entries.Gone side) = refl

-- what stands behind the letters
accept_field : IsField (read_pair read_small read_coming 32)
    (λ p. decimal p.0
    ++ 32 ∷ (id_text p.1.0 ++ 32 ∷ (route_or_dash p.1.1.0 ++ 32 ∷ hex_bytes p.1.1.1)))
    (λ p. IsSmall p.0 × (IsId p.1.0 × (IsRoute p.1.1.0 × IsPdu p.1.1.1))) 32 102
accept_field = two_fields 32 32 102 small_field coming_field refl refl refl refl

forward_field : IsField (read_pair read_small (read_pair read_id read_asked 32) 32)
    (λ p. decimal p.0 ++ 32 ∷ (id_text p.1.0
    ++ 32 ∷ (id_text p.1.1.0 ++ 32 ∷ (route_text p.1.1.1.0 ++ 32 ∷ hex_bytes p.1.1.1.1))))
    (λ p. IsSmall p.0
    × (IsId p.1.0 × (IsId p.1.1.0 × (IsSomeRoute p.1.1.1.0 × IsPdu p.1.1.1.1)))) 32 102
forward_field =
    let last = two_fields 32 32 102 id_field asked_field refl refl refl refl in
    two_fields 32 32 102 small_field last refl refl refl refl

finish_field : IsField (read_pair read_small (read_pair read_id read_relay 32) 32)
    (λ p. decimal p.0 ++ 32 ∷ (id_text p.1.0 ++ 32 ∷ relay_text p.1.1))
    (λ p. IsSmall p.0 × (IsId p.1.0 × FitsRelay p.1.1)) 32 102
finish_field =
    let last = two_fields 32 32 102 id_field relay_field refl refl refl refl in
    two_fields 32 32 102 small_field last refl refl refl refl

back_field : IsField (read_pair read_small read_named 32)
    (λ p. decimal p.0 ++ 32 ∷ (id_text p.1.0 ++ 32 ∷ hex_bytes p.1.1))
    (λ p. IsSmall p.0 × (IsId p.1.0 × IsPdu p.1.1)) 32 102
back_field = two_fields 32 32 102 small_field named_field refl refl refl refl

bridge_kinds_take : AllByRecursion (IsForm bridge_body IsBridgeEntry) bridge_forms
bridge_kinds_take = (
  form_of_field accept_field bridge_body IsBridgeEntry (codes "T ")
      (λ p. bridge_entries.Accept p.0 p.1.0 p.1.1.0 p.1.1.1) (λ p fits. refl)
      (λ p fits. ((fits.0, fits.1.0, fits.1.1.0, fits.1.1.1), tt)),
  (
    form_of_field forward_field bridge_body IsBridgeEntry (codes "U ")
        (λ p. bridge_entries.Forward p.0 p.1.0 p.1.1.0 p.1.1.1.0 p.1.1.1.1) (λ p fits. refl)
        (λ p fits. (
          (fits.0, fits.1.0, fits.1.1.0, fits.1.1.1.0.1, fits.1.1.1.1),
          fits.1.1.1.0.0,
        )),
    (
      form_of_field finish_field bridge_body IsBridgeEntry (codes "A ")
          (λ p. bridge_entries.Finish p.0 p.1.0 p.1.1) (λ p fits. refl)
          (λ p fits. ((fits.0, fits.1.0, fits.1.1), tt)),
      (
        form_of_field back_field bridge_body IsBridgeEntry (codes "V ")
            (λ p. bridge_entries.Back p.0 p.1.0 p.1.1) (λ p fits. refl)
            (λ p fits. ((fits.0, fits.1.0, fits.1.1), tt)),
        (
          form_of_field small_field bridge_body IsBridgeEntry (codes "G ")
              (λ side. bridge_entries.Gone side) (λ side fits. refl) (λ side fits. (fits, tt)),
          tt,
        ),
      ),
    ),
  ),
)

bridge_again : (entry : BridgeEntry) → IsBridgeEntry entry
    → read_bridge_entry (bridge_body entry) ≡ Some entry
unfolding read_bridge_entry behind
bridge_again (bridge_entries.Accept side id route request) is =
    rw (accept_field.again (side, (id, (route, request)))
    (is.0.0, (is.0.1, (is.0.2, is.0.3)))) refl
bridge_again (bridge_entries.Forward side old id route request) is =
    rw (forward_field.again (side, (old, (id, (route, request))))
    (is.0.0, (is.0.1, (is.0.2, ((is.1, is.0.3), is.0.4))))) refl
bridge_again (bridge_entries.Finish side id result) is =
    rw (finish_field.again (side, (id, result)) (is.0.0, (is.0.1, is.0.2))) refl
bridge_again (bridge_entries.Back side id reply) is =
    rw (back_field.again (side, (id, reply)) (is.0.0, (is.0.1, is.0.2))) refl
bridge_again (bridge_entries.Gone side) is = rw (small_field.again side is.0) refl

bridge_lie : (entry : BridgeEntry) → IsBridgeEntry entry
    → all_lie 32 102 (bridge_body entry) ≡ true
bridge_lie (bridge_entries.Accept side id route request) is =
    accept_field.lie (side, (id, (route, request))) (is.0.0, (is.0.1, (is.0.2, is.0.3)))
bridge_lie (bridge_entries.Forward side old id route request) is =
    forward_field.lie (side, (old, (id, (route, request))))
    (is.0.0, (is.0.1, (is.0.2, ((is.1, is.0.3), is.0.4))))
bridge_lie (bridge_entries.Finish side id result) is =
    finish_field.lie (side, (id, result)) (is.0.0, (is.0.1, is.0.2))
bridge_lie (bridge_entries.Back side id reply) is =
    back_field.lie (side, (id, reply)) (is.0.0, (is.0.1, is.0.2))
bridge_lie (bridge_entries.Gone side) is = lie_in small_field 32 102 refl side is.0

pub bridge_field : IsField read_bridge_entry bridge_body IsBridgeEntry 32 102
unfolding read_bridge_entry
bridge_field = record {
  takes = λ line entry e. first_takes bridge_body IsBridgeEntry bridge_forms None line entry
      bridge_kinds_take (none_some ((line ≡ bridge_body entry) × IsBridgeEntry entry) entry) e;
  again = bridge_again;
  lie = bridge_lie;
}
