-- The lines of the ring are read as they are written.
use Rattle.std.proofs.Common.{◌≡◌, ℕ, Bool, true, false, cond, inl, inr, List, [], ◌∷◌, ◌++◌, Some}
use Rattle.std.proofs.Common.{None, refl, sym, ap, subst, ◌∙◌, append_assoc}
use Rattle.std.specs.Prelude.{codes}
use Rattle.std.specs.Fmt.{decimal}
use Rattle.std.specs.List.{AllByRecursion}
use Rattle.std.specs.Str.{bytes_eq}
use Rattle.mstr_block.specs.declared.call.CallId.{CallId}
use Rattle.ring_core.specs.declared.frame.FrameKind.{FrameKind}
use Rattle.ring_core.specs.declared.frame.FrameKind.TheVariants.{Request, Reply}
use Rattle.ring_core.specs.declared.frame.Frame.{Frame}
use Rattle.ring_core.specs.declared.entry.Heard.{Heard}
use Rattle.ring_core.specs.declared.entry.Heard.TheVariants.{Acked, Silent, Busy}
use Rattle.ring_core.specs.declared.entry.LeaveCause.{LeaveCause}
use Rattle.ring_core.specs.declared.entry.LeaveCause.TheVariants.{Ended, Spent, Down}
use Rattle.ring_core.specs.declared.entry.RingEntry.{RingEntry}
use Rattle.ring_core.specs.declared.entry.RingEntry.TheVariants as ring
use Rattle.ring_core.specs.Words.{frame_route}
use Rattle.journal_lines.specs.Fields.{hex_bytes, hex_words, hex_word, id_text, op_text}
use Rattle.journal_lines.specs.Fields.{call_result_text, route_text}
use Rattle.journal_lines.specs.Lines.{sent_text, got_text, heard_text, cause_text, done_text}
use Rattle.journal_lines.specs.Lines.{ring_line, with_feed}
use Rattle.journal_lines.specs.Plain.{IsPlainFrame, IsPlainGot, IsPlainReply, IsPlainRing}
use Rattle.journal_lines.specs.Sizes.{IsId, IsSmall, IsWord, AreWords, FitsOp, FitsResult}
use Rattle.journal_lines.specs.Sizes.{FitsCause, FitsFrame, FitsRingEntry}
use Rattle.journal_reading.specs.Reading.{behind, read_pair, read_small, read_id, read_hex_word}
use Rattle.journal_reading.specs.Reading.{read_hex_words}
use Rattle.journal_reading.specs.ReadLines.{Got, read_op, read_result, sent_forms, read_sent}
use Rattle.journal_reading.specs.ReadLines.{got_forms, got_reply, got_request, read_got, target_of}
use Rattle.journal_reading.specs.ReadLines.{taken, sent_request, sent_reply, read_heard, read_cause}
use Rattle.journal_reading.specs.ReadLines.{read_done, ring_forms, read_bare_cause, cause_forms}
use Rattle.journal_reading.specs.ReadLines.{read_ring_entry}
use Rattle.journal_reading.proofs.Ranges.{chosen, all_lie}
use Rattle.journal_reading.proofs.Cuts.{some_is, none_some, text_is}
use Rattle.journal_reading.proofs.ReadLaws.{IsField, IsForm, two_fields, form_of_field, first_takes}
use Rattle.journal_reading.proofs.ReadLaws.{lie_in}
use Rattle.journal_reading.proofs.Numbers.{small_field, long_field, id_field}
use Rattle.journal_reading.proofs.Digits.{words_field, word_field}
use Rattle.journal_reading.proofs.Calls.{op_field, result_field, named_field, posted_field}
use Rattle.journal_reading.proofs.Calls.{going_field}
use Rattle.journal_reading.proofs.Parts.{IsOnward, no_route, onward_body}

-- frames that are posted
abbrev named_body : Frame → List ℕ
named_body frame = id_text frame.id ++ 32 ∷ hex_bytes frame.pdu

abbrev sent_parts : FrameKind → Frame → List ℕ
sent_parts Request frame =
    codes "Q "
    ++ (id_text frame.id ++ 32 ∷ (route_text (frame_route frame) ++ 32 ∷ hex_bytes frame.pdu))
sent_parts Reply frame = codes "R " ++ named_body frame

sent_is : (kind : FrameKind) (frame : Frame) → sent_text kind frame ≡ sent_parts kind frame
sent_is Request frame = simp append_assoc
sent_is Reply frame = simp append_assoc

abbrev sent_body : Frame → List ℕ
sent_body frame = sent_parts frame.kind frame

abbrev IsSent : Frame → Type 0
IsSent frame = FitsFrame frame × IsPlainFrame frame.kind frame

sent_kinds_take : AllByRecursion (IsForm sent_body IsSent) sent_forms
sent_kinds_take = (
  form_of_field posted_field sent_body IsSent (codes "Q ") sent_request (λ p fits. refl)
      (λ p fits. ((fits.1.0.0, fits.1.0.1, fits.0, fits.1.1), tt)),
  (
    form_of_field named_field sent_body IsSent (codes "R ") sent_reply (λ p fits. refl)
        (λ p fits. ((fits.0.node, no_route, fits.0, fits.1), (refl, refl))),
    tt,
  ),
)

abbrev framed : FrameKind → Frame → Frame
framed kind frame = record frame { kind = kind }

-- a Reply is what its name and its bytes say
reply_is : (frame : Frame) → IsPlainReply frame
    → sent_reply (frame.id, frame.pdu) ≡ framed Reply frame
reply_is frame plain =
    let target = sym plain.0 in
    let none = sym plain.1 in
    λ i. record {
      kind = Reply;
      to = target i;
      rest = none i;
      id = frame.id;
      pdu = frame.pdu;
    }

sent_again : (kind : FrameKind) (frame : Frame) → IsSent (framed kind frame)
    → read_sent (sent_parts kind frame) ≡ Some (framed kind frame)
unfolding read_sent behind
sent_again Request frame is =
    rw (posted_field.again (frame.id, ((frame.to, frame.rest), frame.pdu))
    (is.0.2, ((is.0.0, is.0.1), is.0.3))) refl
sent_again Reply frame is =
    rw (named_field.again (frame.id, frame.pdu) (is.0.2, is.0.3))
    (ap (λ (f : Frame). Some f) (reply_is frame is.1))

sent_lie : (kind : FrameKind) (frame : Frame) → IsSent (framed kind frame)
    → all_lie 32 102 (sent_parts kind frame) ≡ true
sent_lie Request frame is =
    posted_field.lie (frame.id, ((frame.to, frame.rest), frame.pdu))
    (is.0.2, ((is.0.0, is.0.1), is.0.3))
sent_lie Reply frame is = named_field.lie (frame.id, frame.pdu) (is.0.2, is.0.3)

sent_field : IsField read_sent sent_body IsSent 32 102
unfolding read_sent
sent_field = record {
  takes = λ text f e. first_takes sent_body IsSent sent_forms None text f sent_kinds_take
      (none_some ((text ≡ sent_body f) × IsSent f) f) e;
  again = λ f is. sent_again f.kind f is;
  lie = λ f is. sent_lie f.kind f is;
}

-- frames that are taken, but for their target
abbrev got_parts : FrameKind → CallId × (List ℕ × List ℕ) → List ℕ
got_parts Request parts = codes "Q " ++ (id_text parts.0 ++ 32 ∷ onward_body parts.1)
got_parts Reply parts = codes "R " ++ (id_text parts.0 ++ 32 ∷ hex_bytes parts.1.0)

abbrev parts_of : Frame → CallId × (List ℕ × List ℕ)
parts_of frame = (frame.id, (frame.pdu, frame.rest))

got_is : (kind : FrameKind) (frame : Frame) → got_text kind frame ≡ got_parts kind (parts_of frame)
got_is Request frame = simp append_assoc
got_is Reply frame = simp append_assoc

abbrev got_body : Got → List ℕ
got_body got = got_parts got.0 got.1

-- a Reply goes no further
abbrev IsEnd : FrameKind → List ℕ → Type 0
IsEnd Request rest = Unit {0}
IsEnd Reply rest = rest ≡ []

abbrev IsGot : Got → Type 0
IsGot got = (IsId got.1.0 × IsOnward got.1.1) × IsEnd got.0 got.1.1.1

got_kinds_take : AllByRecursion (IsForm got_body IsGot) got_forms
got_kinds_take = (
  form_of_field going_field got_body IsGot (codes "Q ") got_request (λ p fits. refl)
      (λ p fits. (fits, tt)),
  (
    form_of_field named_field got_body IsGot (codes "R ") got_reply (λ p fits. refl)
        (λ p fits. ((fits.0, (fits.1, no_route)), refl)),
    tt,
  ),
)

got_again : (kind : FrameKind) (parts : CallId × (List ℕ × List ℕ)) → IsGot (kind, parts)
    → read_got (got_parts kind parts) ≡ Some (kind, parts)
unfolding read_got behind
got_again Request parts is = rw (going_field.again parts is.0) refl
got_again Reply parts is =
    rw (named_field.again (parts.0, parts.1.0) (is.0.0, is.0.1.0))
    (ap (λ (rest : List ℕ). Some (Reply, (parts.0, (parts.1.0, rest)))) (sym is.1))

got_lie : (kind : FrameKind) (parts : CallId × (List ℕ × List ℕ)) → IsGot (kind, parts)
    → all_lie 32 102 (got_parts kind parts) ≡ true
got_lie Request parts is = going_field.lie parts is.0
got_lie Reply parts is = named_field.lie (parts.0, parts.1.0) (is.0.0, is.0.1.0)

got_field : IsField read_got got_body IsGot 32 102
unfolding read_got
got_field = record {
  takes = λ text g e. first_takes got_body IsGot got_forms None text g got_kinds_take
      (none_some ((text ≡ got_body g) × IsGot g) g) e;
  again = λ g is. got_again g.0 g.1 is;
  lie = λ g is. got_lie g.0 g.1 is;
}

-- words of one letter
heard_takes : (text : List ℕ) (heard : Heard) → read_heard text ≡ Some heard
    → (text ≡ heard_text heard) × Unit {0}
unfolding read_heard
heard_takes text heard e =
    elim (chosen (bytes_eq text (codes "A")) (Some Acked) (cond (bytes_eq text (codes "S"))
    (Some Silent) (cond (bytes_eq text (codes "B")) (Some Busy) None)) (Some heard) e) [
      | inl a ↦ (text_is text (codes "A") a.0 ∙ ap heard_text (some_is Acked heard a.1), tt)
      | inr rest ↦
          elim (chosen (bytes_eq text (codes "S")) (Some Silent)
          (cond (bytes_eq text (codes "B")) (Some Busy) None) (Some heard) rest.1) [
            | inl s ↦ (text_is text (codes "S") s.0 ∙ ap heard_text (some_is Silent heard s.1), tt)
            | inr more ↦
                elim (chosen (bytes_eq text (codes "B")) (Some Busy) None (Some heard) more.1) [
                  | inl b ↦
                      (text_is text (codes "B") b.0 ∙ ap heard_text (some_is Busy heard b.1), tt)
                  | inr none ↦ none_some ((text ≡ heard_text heard) × Unit {0}) heard none.1
                ]
          ]
    ]

heard_again : (heard : Heard) → Unit {0} → read_heard (heard_text heard) ≡ Some heard
unfolding read_heard
heard_again Acked is = refl
heard_again Silent is = refl
heard_again Busy is = refl

heard_lie : (heard : Heard) → Unit {0} → all_lie 48 102 (heard_text heard) ≡ true
heard_lie Acked is = refl
heard_lie Silent is = refl
heard_lie Busy is = refl

heard_field : IsField read_heard heard_text (λ heard. Unit {0}) 48 102
heard_field = record { takes = heard_takes; again = heard_again; lie = heard_lie }

-- a cause that is a letter alone, and one with a number behind its letter
bare_cause_takes : (text : List ℕ) (cause : LeaveCause) → read_bare_cause text ≡ Some cause
    → (text ≡ cause_text cause) × FitsCause cause
bare_cause_takes text cause e =
    elim (chosen (bytes_eq text (codes "E")) (Some Ended)
    (cond (bytes_eq text (codes "S")) (Some Spent) None) (Some cause) e) [
      | inl a ↦
          subst (λ (c : LeaveCause). (text ≡ cause_text c) × FitsCause c)
          (some_is Ended cause a.1) (text_is text (codes "E") a.0, tt)
      | inr rest ↦
          elim (chosen (bytes_eq text (codes "S")) (Some Spent) None (Some cause) rest.1) [
            | inl s ↦
                subst (λ (c : LeaveCause). (text ≡ cause_text c) × FitsCause c)
                (some_is Spent cause s.1) (text_is text (codes "S") s.0, tt)
            | inr none ↦ none_some ((text ≡ cause_text cause) × FitsCause cause) cause none.1
          ]
    ]

cause_kinds_take : AllByRecursion (IsForm cause_text FitsCause) cause_forms
cause_kinds_take = (
  form_of_field long_field cause_text FitsCause (codes "D") (λ number. Down number)
      (λ number fits. refl) (λ number fits. fits),
  tt,
)

cause_again : (cause : LeaveCause) → FitsCause cause → read_cause (cause_text cause) ≡ Some cause
unfolding read_cause behind
cause_again Ended is = refl
cause_again Spent is = refl
cause_again (Down number) is = rw (long_field.again number is) refl

cause_lie : (cause : LeaveCause) → FitsCause cause → all_lie 48 102 (cause_text cause) ≡ true
cause_lie Ended is = refl
cause_lie Spent is = refl
cause_lie (Down number) is = lie_in long_field 48 102 refl number is

cause_field : IsField read_cause cause_text FitsCause 48 102
unfolding read_cause
cause_field = record {
  takes = λ text cause e. first_takes cause_text FitsCause cause_forms (read_bare_cause text)
      text cause cause_kinds_take (bare_cause_takes text cause) e;
  again = cause_again;
  lie = cause_lie;
}

done_takes : (text : List ℕ) (done : Bool) → read_done text ≡ Some done
    → (text ≡ done_text done) × Unit {0}
unfolding read_done
done_takes text done e =
    elim (chosen (bytes_eq text (codes "1")) (Some true)
    (cond (bytes_eq text (codes "0")) (Some false) None) (Some done) e) [
      | inl a ↦ (text_is text (codes "1") a.0 ∙ ap done_text (some_is true done a.1), tt)
      | inr rest ↦
          elim (chosen (bytes_eq text (codes "0")) (Some false) None (Some done) rest.1) [
            | inl s ↦ (text_is text (codes "0") s.0 ∙ ap done_text (some_is false done s.1), tt)
            | inr none ↦ none_some ((text ≡ done_text done) × Unit {0}) done none.1
          ]
    ]

done_again : (done : Bool) → Unit {0} → read_done (done_text done) ≡ Some done
unfolding read_done
done_again true is = refl
done_again false is = refl

done_lie : (done : Bool) → Unit {0} → all_lie 48 102 (done_text done) ≡ true
done_lie true is = refl
done_lie false is = refl

done_field : IsField read_done done_text (λ done. Unit {0}) 48 102
done_field = record { takes = done_takes; again = done_again; lie = done_lie }

-- the line of an entry without its line feed
abbrev pub ring_body : RingEntry → List ℕ
ring_body (ring.Post node frame) = codes "PO " ++ (decimal node ++ 32 ∷ sent_body frame)
ring_body (ring.Send node heard) = codes "SE " ++ (decimal node ++ 32 ∷ heard_text heard)
ring_body (ring.Take node frame) =
    codes "TA " ++ (decimal node ++ 32 ∷ got_parts frame.kind (parts_of frame))
ring_body (ring.Local node id op result) =
    codes "LO "
    ++ (decimal node ++ 32 ∷ (id_text id ++ 32 ∷ (op_text op ++ 32 ∷ call_result_text result)))
ring_body (ring.GiveUp id word) = codes "GU " ++ (id_text id ++ 32 ∷ hex_word word)
ring_body (ring.Pass node done words) =
    codes "PA " ++ (decimal node ++ 32 ∷ (done_text done ++ 32 ∷ hex_words words))
ring_body (ring.Leave node cause) = codes "LE " ++ (decimal node ++ 32 ∷ cause_text cause)
ring_body (ring.Join node) = codes "JN " ++ decimal node

abbrev pub IsRingEntry : RingEntry → Type 0
IsRingEntry entry = FitsRingEntry entry × IsPlainRing entry

-- a text of three or more parts, with its line feed
pub parts : (front a b : List ℕ)
    → front ++ a ++ 32 ∷ [] ++ b ++ 10 ∷ [] ≡ (front ++ (a ++ 32 ∷ b)) ++ 10 ∷ []
parts front a b = simp append_assoc

pub parts_three : (front a b d : List ℕ) → front ++ a ++ 32 ∷ [] ++ b ++ 32 ∷ [] ++ d ++ 10 ∷ []
    ≡ (front ++ (a ++ 32 ∷ (b ++ 32 ∷ d))) ++ 10 ∷ []
parts_three front a b d = simp append_assoc

pub parts_four : (front a b d f : List ℕ)
    → front ++ a ++ 32 ∷ [] ++ b ++ 32 ∷ [] ++ d ++ 32 ∷ [] ++ f ++ 10 ∷ []
    ≡ (front ++ (a ++ 32 ∷ (b ++ 32 ∷ (d ++ 32 ∷ f)))) ++ 10 ∷ []
parts_four front a b d f = simp append_assoc

pub ring_ended : (entry : RingEntry) → ring_line entry ≡ with_feed (ring_body entry)
ring_ended (ring.Post node frame) =
    parts (codes "PO ") (decimal node) (sent_text frame.kind frame)
    ∙ ap (λ (t : List ℕ). with_feed (codes "PO " ++ (decimal node ++ 32 ∷ t)))
    (sent_is frame.kind frame)
ring_ended (ring.Send node heard) = parts (codes "SE ") (decimal node) (heard_text heard)
ring_ended (ring.Take node frame) =
    parts (codes "TA ") (decimal node) (got_text frame.kind frame)
    ∙ ap (λ (t : List ℕ). with_feed (codes "TA " ++ (decimal node ++ 32 ∷ t)))
    (got_is frame.kind frame)
ring_ended (ring.Local node id op result) =
    parts_four (codes "LO ") (decimal node) (id_text id) (op_text op) (call_result_text result)
ring_ended (ring.GiveUp id word) = parts (codes "GU ") (id_text id) (hex_word word)
ring_ended (ring.Pass node done words) =
    parts_three (codes "PA ") (decimal node) (done_text done) (hex_words words)
ring_ended (ring.Leave node cause) = parts (codes "LE ") (decimal node) (cause_text cause)
ring_ended (ring.Join node) = refl

-- what stands behind the letters
post_field : IsField (read_pair read_small read_sent 32) (λ p. decimal p.0 ++ 32 ∷ sent_body p.1)
    (λ p. IsSmall p.0 × IsSent p.1) 32 102
post_field = two_fields 32 32 102 small_field sent_field refl refl refl refl

send_field : IsField (read_pair read_small read_heard 32) (λ p. decimal p.0 ++ 32 ∷ heard_text p.1)
    (λ p. IsSmall p.0 × Unit {0}) 32 102
send_field = two_fields 32 32 102 small_field heard_field refl refl refl refl

take_field : IsField (read_pair read_small read_got 32) (λ p. decimal p.0 ++ 32 ∷ got_body p.1)
    (λ p. IsSmall p.0 × IsGot p.1) 32 102
take_field = two_fields 32 32 102 small_field got_field refl refl refl refl

local_field : IsField
    (read_pair read_small (read_pair read_id (read_pair read_op read_result 32) 32) 32)
    (λ p. decimal p.0
    ++ 32 ∷ (id_text p.1.0 ++ 32 ∷ (op_text p.1.1.0 ++ 32 ∷ call_result_text p.1.1.1)))
    (λ p. IsSmall p.0 × (IsId p.1.0 × (FitsOp p.1.1.0 × FitsResult p.1.1.1))) 32 102
local_field =
    let last = two_fields 32 32 102 op_field result_field refl refl refl refl in
    let rest = two_fields 32 32 102 id_field last refl refl refl refl in
    two_fields 32 32 102 small_field rest refl refl refl refl

give_up_field : IsField (read_pair read_id read_hex_word 32) (λ p. id_text p.0 ++ 32 ∷ hex_word p.1)
    (λ p. IsId p.0 × IsWord p.1) 32 102
give_up_field = two_fields 32 32 102 id_field word_field refl refl refl refl

pass_field : IsField (read_pair read_small (read_pair read_done read_hex_words 32) 32)
    (λ p. decimal p.0 ++ 32 ∷ (done_text p.1.0 ++ 32 ∷ hex_words p.1.1))
    (λ p. IsSmall p.0 × (Unit {0} × AreWords p.1.1)) 32 102
pass_field =
    let last = two_fields 32 32 102 done_field words_field refl refl refl refl in
    two_fields 32 32 102 small_field last refl refl refl refl

leave_field : IsField (read_pair read_small read_cause 32) (λ p. decimal p.0 ++ 32 ∷ cause_text p.1)
    (λ p. IsSmall p.0 × FitsCause p.1) 32 102
leave_field = two_fields 32 32 102 small_field cause_field refl refl refl refl

-- a frame that was taken is plain, and so are its numbers
target_fits : (kind : FrameKind) (node : ℕ) (id : CallId) → IsSmall node → IsId id
    → IsSmall (target_of kind node id)
target_fits Request node id less is = less
target_fits Reply node id less is = is.node

abbrev taken_as : FrameKind → ℕ → CallId × (List ℕ × List ℕ) → Frame
taken_as kind node parts = record {
  kind = kind;
  to = target_of kind node parts.0;
  rest = parts.1.1;
  id = parts.0;
  pdu = parts.1.0;
}

plain_got : (kind : FrameKind) (node : ℕ) (parts : CallId × (List ℕ × List ℕ))
    → IsEnd kind parts.1.1 → IsPlainGot node kind (taken_as kind node parts)
plain_got Request node parts end' = refl
plain_got Reply node parts end' = (refl, end')

taken_fits : (node : ℕ) (got : Got) → IsSmall node → IsGot got → IsRingEntry (taken node got)
taken_fits node got less is = (
  (less, (target_fits got.0 node got.1.0 less is.0.0, is.0.1.1, is.0.0, is.0.1.0)),
  plain_got got.0 node got.1 is.1,
)

ring_kinds_take : AllByRecursion (IsForm ring_body IsRingEntry) ring_forms
ring_kinds_take = (
  form_of_field post_field ring_body IsRingEntry (codes "PO ") (λ p. ring.Post p.0 p.1)
      (λ p fits. refl) (λ p fits. ((fits.0, fits.1.0), fits.1.1)),
  (
    form_of_field send_field ring_body IsRingEntry (codes "SE ") (λ p. ring.Send p.0 p.1)
        (λ p fits. refl) (λ p fits. (fits.0, tt)),
    (
      form_of_field take_field ring_body IsRingEntry (codes "TA ") (λ p. taken p.0 p.1)
          (λ p fits. refl) (λ p fits. taken_fits p.0 p.1 fits.0 fits.1),
      (
        form_of_field local_field ring_body IsRingEntry (codes "LO ")
            (λ p. ring.Local p.0 p.1.0 p.1.1.0 p.1.1.1) (λ p fits. refl)
            (λ p fits. ((fits.0, fits.1.0, fits.1.1.0, fits.1.1.1), tt)),
        (
          form_of_field give_up_field ring_body IsRingEntry (codes "GU ") (λ p. ring.GiveUp p.0 p.1)
              (λ p fits. refl) (λ p fits. (fits, tt)),
          (
            form_of_field pass_field ring_body IsRingEntry (codes "PA ") (λ p.
                ring.Pass p.0 p.1.0 p.1.1) (λ p fits. refl) (λ p fits. ((fits.0, fits.1.1), tt)),
            (
              form_of_field leave_field ring_body IsRingEntry (codes "LE ")
                  (λ p. ring.Leave p.0 p.1) (λ p fits. refl) (λ p fits. (fits, tt)),
              (
                form_of_field small_field ring_body IsRingEntry (codes "JN ")
                    (λ node. ring.Join node) (λ node fits. refl) (λ node fits. (fits, tt)),
                tt,
              ),
            ),
          ),
        ),
      ),
    ),
  ),
)

-- what was taken has its target
target_is : (kind : FrameKind) (node : ℕ) (frame : Frame) → IsPlainGot node kind frame
    → target_of kind node frame.id ≡ frame.to
target_is Request node frame plain = sym plain
target_is Reply node frame plain = sym plain.0

got_of : (kind : FrameKind) (node : ℕ) (frame : Frame) → FitsFrame frame
    → IsPlainGot node kind frame → IsGot (kind, parts_of frame)
got_of Request node frame fits plain = ((fits.2, (fits.3, fits.1)), tt)
got_of Reply node frame fits plain = ((fits.2, (fits.3, fits.1)), plain.1)

ring_again : (entry : RingEntry) → IsRingEntry entry
    → read_ring_entry (ring_body entry) ≡ Some entry
unfolding read_ring_entry behind
ring_again (ring.Post node frame) is =
    rw (post_field.again (node, frame) (is.0.0, (is.0.1, is.1))) refl
ring_again (ring.Send node heard) is = rw (send_field.again (node, heard) (is.0, tt)) refl
ring_again (ring.Take node frame) is =
    rw (take_field.again (node, (frame.kind, parts_of frame))
    (is.0.0, got_of frame.kind node frame is.0.1 is.1))
    (ap (λ (to : ℕ). Some (ring.Take node (record frame { to = to })))
    (target_is frame.kind node frame is.1))
ring_again (ring.Local node id op result) is =
    rw (local_field.again (node, (id, (op, result))) (is.0.0, (is.0.1, (is.0.2, is.0.3)))) refl
ring_again (ring.GiveUp id word) is = rw (give_up_field.again (id, word) is.0) refl
ring_again (ring.Pass node done words) is =
    rw (pass_field.again (node, (done, words)) (is.0.0, (tt, is.0.1))) refl
ring_again (ring.Leave node cause) is = rw (leave_field.again (node, cause) is.0) refl
ring_again (ring.Join node) is = rw (small_field.again node is.0) refl

ring_lie : (entry : RingEntry) → IsRingEntry entry → all_lie 32 102 (ring_body entry) ≡ true
ring_lie (ring.Post node frame) is = post_field.lie (node, frame) (is.0.0, (is.0.1, is.1))
ring_lie (ring.Send node heard) is = send_field.lie (node, heard) (is.0, tt)
ring_lie (ring.Take node frame) is =
    take_field.lie (node, (frame.kind, parts_of frame))
    (is.0.0, got_of frame.kind node frame is.0.1 is.1)
ring_lie (ring.Local node id op result) is =
    local_field.lie (node, (id, (op, result))) (is.0.0, (is.0.1, (is.0.2, is.0.3)))
ring_lie (ring.GiveUp id word) is = give_up_field.lie (id, word) is.0
ring_lie (ring.Pass node done words) is =
    pass_field.lie (node, (done, words)) (is.0.0, (tt, is.0.1))
ring_lie (ring.Leave node cause) is = leave_field.lie (node, cause) is.0
ring_lie (ring.Join node) is = lie_in small_field 32 102 refl node is.0

pub ring_field : IsField read_ring_entry ring_body IsRingEntry 32 102
unfolding read_ring_entry
ring_field = record {
  takes = λ line entry e. first_takes ring_body IsRingEntry ring_forms None line entry
      ring_kinds_take (none_some ((line ≡ ring_body entry) × IsRingEntry entry) entry) e;
  again = ring_again;
  lie = ring_lie;
}
