-- Operations, results and calls are read as they are written.
use Rattle.std.proofs.Common.{◌≡◌, ◌≢◌, ℕ, true, false, cond, inl, inr, List, [], ◌∷◌, ◌++◌, length}
use Rattle.std.proofs.Common.{Some, None, All, map, refl, sym, ap, subst, ◌∙◌, arith, append_assoc}
use Rattle.std.specs.Prelude.{codes, slice_index}
use Rattle.std.specs.Fmt.{decimal}
use Rattle.std.specs.List.{flat_map, join_with_byte, AllByRecursion}
use Rattle.std.specs.Str.{bytes_eq}
use Rattle.std.proofs.lemmas.Bool.{and_parts}
use Rattle.std.proofs.lemmas.Fmt.{decimal_nonempty}
use Rattle.std.proofs.lemmas.List.{append-nil}
use Rattle.std.proofs.lemmas.List.Concat.{flat_map-cons}
use Rattle.std.proofs.lemmas.List.Elements.{All-head}
use Rattle.plant_types.specs.Numerals.{is_digit}
use Rattle.mstr_block.specs.declared.call.MstrResult.{MstrResult}
use Rattle.mstr_block.specs.declared.call.MstrResult.TheVariants.{Good, Bad}
use Rattle.ring_core.specs.declared.entry.LocalOp.{LocalOp}
use Rattle.ring_core.specs.declared.entry.LocalOp.TheVariants as ops
use Rattle.controller_core.specs.declared.call.Call.{Call}
use Rattle.controller_core.specs.declared.call.CallKind.{CallKind}
use Rattle.controller_core.specs.declared.call.CallKind.TheVariants.{Net, Local}
use Rattle.journal_lines.specs.Fields.{behind_point, hex_bytes, id_text, op_text, call_result_text}
use Rattle.journal_lines.specs.Fields.{route_or_dash, route_text}
use Rattle.journal_lines.specs.Lines.{kind_text, call_text}
use Rattle.journal_lines.specs.Plain.{IsOwnOp, IsPlainKind, IsPlainCall}
use Rattle.journal_lines.specs.Sizes.{IsId, IsPdu, IsRoute, IsSmall, IsWord, FitsOp, FitsResult}
use Rattle.journal_lines.specs.Sizes.{FitsKind, FitsCall}
use Rattle.journal_reading.specs.Reading.{behind, read_pair, read_route, read_small, read_word}
use Rattle.journal_reading.specs.Reading.{read_id, read_pdu}
use Rattle.journal_reading.specs.ReadLines.{own_op_forms, read_bare_op, read_own_op, read_op}
use Rattle.journal_reading.specs.ReadLines.{result_forms, read_result, read_net_kind}
use Rattle.journal_reading.specs.ReadLines.{read_local_kind, read_kind, call_from, read_call}
use Rattle.journal_reading.specs.ReadLines.{read_calls, read_onward, read_served, read_asked}
use Rattle.journal_reading.specs.ReadLines.{read_coming, read_named, read_posted}
use Rattle.journal_reading.proofs.Ranges.{chosen, lies, all_lie}
use Rattle.journal_reading.proofs.Cuts.{some_is, bind_some, none_some, text_is}
use Rattle.journal_reading.proofs.ReadLaws.{IsField, IsForm, two_fields, made_field, lie_in}
use Rattle.journal_reading.proofs.ReadLaws.{form_of_field, first_takes}
use Rattle.journal_reading.proofs.Numbers.{small_field, word_number_field, id_field}
use Rattle.journal_reading.proofs.Digits.{pdu_field, words_field, word_field, block_field}
use Rattle.journal_reading.proofs.Parts.{IsOnward, IsSomeRoute, IsWay, onward_body, onward_field}
use Rattle.journal_reading.proofs.Parts.{parts_field, route_field, way_field, way_text}
use Rattle.journal_reading.proofs.Parts.{route_or_dash_field}
use Rattle.journal_lines.proofs.JoinedParts.{joined_parts}

-- what is asked of the own port for the own station
abbrev IsOwn : LocalOp → Type 0
IsOwn op = FitsOp op × IsOwnOp op

asked_words : IsField (read_pair read_small read_word 58) (λ p. decimal p.0 ++ 58 ∷ decimal p.1)
    (λ p. IsSmall p.0 × IsWord p.1) 48 58
asked_words = two_fields 58 48 58 small_field word_number_field refl refl refl refl

global_text : (node count : ℕ)
    → codes "GG:" ++ (decimal node ++ 58 ∷ decimal count) ≡ op_text (ops.GetGlobal node count)
global_text node count = simp append_assoc

own_kinds_take : AllByRecursion (IsForm op_text IsOwn) own_op_forms
own_kinds_take = (
  form_of_field words_field op_text IsOwn (codes "PG:") (λ words. ops.PutGlobal words)
      (λ words fits. refl) (λ words fits. (fits, tt)),
  (
    form_of_field asked_words op_text IsOwn (codes "GG:") (λ p. ops.GetGlobal p.0 p.1)
        (λ p fits. global_text p.0 p.1) (λ p fits. (fits, tt)),
    tt,
  ),
)

bare_op_takes : (text : List ℕ) (op : LocalOp) → read_bare_op text ≡ Some op
    → (text ≡ op_text op) × IsOwn op
bare_op_takes text op e =
    elim (chosen (bytes_eq text (codes "GS")) (Some ops.GetStats)
    (cond (bytes_eq text (codes "CS")) (Some ops.ClearStats) None) (Some op) e) [
      | inl get ↦
          subst (λ (o : LocalOp). (text ≡ op_text o) × IsOwn o) (some_is ops.GetStats op get.1)
          (text_is text (codes "GS") get.0, (tt, tt))
      | inr more ↦
          elim (chosen (bytes_eq text (codes "CS")) (Some ops.ClearStats) None (Some op) more.1) [
            | inl clear ↦
                subst (λ (o : LocalOp). (text ≡ op_text o) × IsOwn o)
                (some_is ops.ClearStats op clear.1) (text_is text (codes "CS") clear.0, (tt, tt))
            | inr none ↦ none_some ((text ≡ op_text op) × IsOwn op) op none.1
          ]
    ]

own_op_takes : (text : List ℕ) (op : LocalOp) → read_own_op text ≡ Some op
    → (text ≡ op_text op) × IsOwn op
unfolding read_own_op
own_op_takes text op e = first_takes op_text IsOwn own_op_forms
    (read_bare_op text) text op own_kinds_take (bare_op_takes text op) e

own_op_again : (op : LocalOp) → IsOwn op → read_own_op (op_text op) ≡ Some op
unfolding read_own_op behind
own_op_again ops.GetStats is = refl
own_op_again ops.ClearStats is = refl
own_op_again (ops.PutGlobal words) is = rw (words_field.again words is.0) refl
own_op_again (ops.GetGlobal node count) is =
    subst (λ (t : List ℕ). read_own_op t ≡ Some (ops.GetGlobal node count)) (global_text node count)
    (rw (asked_words.again (node, count) is.0) refl)
own_op_again ops.RemoteGet is = absurd is.1
own_op_again ops.RemoteClear is = absurd is.1

op_lie : (op : LocalOp) → FitsOp op → all_lie 45 102 (op_text op) ≡ true
op_lie ops.GetStats is = refl
op_lie ops.ClearStats is = refl
op_lie (ops.PutGlobal words) is = lie_in words_field 45 102 refl words is
op_lie (ops.GetGlobal node count) is =
    subst (λ (t : List ℕ). all_lie 45 102 t ≡ true) (global_text node count)
    (lie_in asked_words 45 102 refl (node, count) is)
op_lie ops.RemoteGet is = refl
op_lie ops.RemoteClear is = refl

-- and for another one too
op_takes : (text : List ℕ) (op : LocalOp) → read_op text ≡ Some op → (text ≡ op_text op) × FitsOp op
unfolding read_op
op_takes text op e =
    elim (chosen (bytes_eq text (codes "RG")) (Some ops.RemoteGet)
    (cond (bytes_eq text (codes "RC")) (Some ops.RemoteClear) (read_own_op text)) (Some op) e) [
      | inl get ↦
          subst (λ (o : LocalOp). (text ≡ op_text o) × FitsOp o) (some_is ops.RemoteGet op get.1)
          (text_is text (codes "RG") get.0, tt)
      | inr more ↦
          elim (chosen (bytes_eq text (codes "RC")) (Some ops.RemoteClear) (read_own_op text)
          (Some op) more.1) [
            | inl clear ↦
                subst (λ (o : LocalOp). (text ≡ op_text o) × FitsOp o)
                (some_is ops.RemoteClear op clear.1) (text_is text (codes "RC") clear.0, tt)
            | inr own ↦ let t = own_op_takes text op own.1 in (t.0, t.1.0)
          ]
    ]

op_again : (op : LocalOp) → FitsOp op → read_op (op_text op) ≡ Some op
unfolding read_op
op_again ops.GetStats is = own_op_again ops.GetStats (is, tt)
op_again ops.ClearStats is = own_op_again ops.ClearStats (is, tt)
op_again (ops.PutGlobal words) is = own_op_again (ops.PutGlobal words) (is, tt)
op_again (ops.GetGlobal node count) is = own_op_again (ops.GetGlobal node count) (is, tt)
op_again ops.RemoteGet is = refl
op_again ops.RemoteClear is = refl

pub op_field : IsField read_op op_text FitsOp 45 102
op_field = record { takes = op_takes; again = op_again; lie = op_lie }

-- what a call came to
result_kinds_take : AllByRecursion (IsForm call_result_text FitsResult) result_forms
result_kinds_take = (
  form_of_field block_field call_result_text FitsResult (codes "G ") (λ words. Good words)
      (λ words fits. refl) (λ words fits. fits),
  (
    form_of_field word_field call_result_text FitsResult (codes "B ") (λ word. Bad word)
        (λ word fits. refl) (λ word fits. fits),
    tt,
  ),
)

result_again : (r : MstrResult) → FitsResult r → read_result (call_result_text r) ≡ Some r
unfolding read_result behind
result_again (Good words) is = rw (block_field.again words is) refl
result_again (Bad word) is = rw (word_field.again word is) refl

result_lie : (r : MstrResult) → FitsResult r → all_lie 32 102 (call_result_text r) ≡ true
result_lie (Good words) is = lie_in block_field 32 102 refl words is
result_lie (Bad word) is = lie_in word_field 32 102 refl word is

pub result_field : IsField read_result call_result_text FitsResult 32 102
unfolding read_result
result_field = record {
  takes = λ text r e. first_takes call_result_text FitsResult result_forms None text r
      result_kinds_take (none_some ((text ≡ call_result_text r) × FitsResult r) r) e;
  again = result_again;
  lie = result_lie;
}

-- what a call is for
abbrev IsKindOf : CallKind → Type 0
IsKindOf kind = FitsKind kind × IsPlainKind kind

net_parts : IsField (read_pair read_route read_pdu 58) (λ p. route_text p.0 ++ 58 ∷ hex_bytes p.1)
    (λ p. IsSomeRoute p.0 × IsPdu p.1) 46 102
net_parts = two_fields 58 46 102 route_field pdu_field refl refl refl refl

net_text : (route pdu : List ℕ)
    → route_text route ++ 58 ∷ hex_bytes pdu ≡ kind_text (Net route pdu)
net_text route pdu = simp append_assoc

kind_takes : (text : List ℕ) (kind : CallKind) → read_kind text ≡ Some kind
    → (text ≡ kind_text kind) × IsKindOf kind
unfolding read_kind
kind_takes text kind e =
    elim (chosen (is_digit (slice_index text 0)) (read_net_kind text) (read_local_kind text)
    (Some kind) e) [
      | inl net ↦
          let p = bind_some (read_pair read_route read_pdu 58 text)
          (λ parts. Some (Net parts.0 parts.1)) kind net.1 in
          let t = net_parts.takes text p.0 p.1 in
          subst (λ (k : CallKind). (text ≡ kind_text k) × IsKindOf k)
          (some_is (Net p.0.0 p.0.1) kind p.2)
          (t.0 ∙ net_text p.0.0 p.0.1, ((t.1.0.1, t.1.1), t.1.0.0))
      | inr own ↦
          let p = bind_some (read_own_op text) (λ op. Some (Local op)) kind own.1 in
          let t = own_op_takes text p.0 p.1 in
          subst (λ (k : CallKind). (text ≡ kind_text k) × IsKindOf k)
          (some_is (Local p.0) kind p.2) (t.0, t.1)
    ]

digit_first : (text rest : List ℕ) → all_lie 48 57 text ≡ true → text ≢ []
    → is_digit (slice_index (text ++ rest) 0) ≡ true
digit_first [] rest lie some = absurd (some refl)
digit_first (b ∷ text) rest lie some = (and_parts (lies 48 57 b) (all_lie 48 57 text) lie).0

some_digits : (n : ℕ) → IsSmall n → decimal n ≢ []
some_digits n less none =
    let some = decimal_nonempty n (omega arith) in let size = ap length none in absurd (omega arith)

route_first : (route rest : List ℕ) → route ≢ [] → All IsSmall route
    → is_digit (slice_index (route_text route ++ rest) 0) ≡ true
route_first [] rest some each = absurd (some refl)
route_first (to ∷ route) rest some each =
    let less = All-head IsSmall to route each in
    let behind = flat_map behind_point route in
    let text : route_text (to ∷ route) ++ rest ≡ decimal to ++ (behind ++ rest) =
    ap (λ (t : List ℕ). t ++ rest) (joined_parts decimal 46 to route)
    ∙ append_assoc (decimal to) behind rest in
    subst (λ (t : List ℕ). is_digit (slice_index t 0) ≡ true) (sym text)
    (digit_first (decimal to) (behind ++ rest) (small_field.lie to less) (some_digits to less))

op_first : (op : LocalOp) → is_digit (slice_index (op_text op) 0) ≡ false
op_first ops.GetStats = refl
op_first ops.ClearStats = refl
op_first (ops.PutGlobal words) = refl
op_first (ops.GetGlobal node count) =
    subst (λ (t : List ℕ). is_digit (slice_index t 0) ≡ false) (global_text node count) refl
op_first ops.RemoteGet = refl
op_first ops.RemoteClear = refl

kind_again : (kind : CallKind) → IsKindOf kind → read_kind (kind_text kind) ≡ Some kind
unfolding read_kind
kind_again (Net route pdu) is =
    let first = route_first route (58 ∷ hex_bytes pdu) is.1 is.0.0.each in
    subst (λ (t : List ℕ). read_kind t ≡ Some (Net route pdu)) (net_text route pdu)
    (rw (first, net_parts.again (route, pdu) ((is.1, is.0.0), is.0.1)) refl)
kind_again (Local op) is = rw (op_first op, own_op_again op is) refl

kind_lie : (kind : CallKind) → IsKindOf kind → all_lie 45 102 (kind_text kind) ≡ true
kind_lie (Net route pdu) is =
    subst (λ (t : List ℕ). all_lie 45 102 t ≡ true) (net_text route pdu)
    (lie_in net_parts 45 102 refl (route, pdu) ((is.1, is.0.0), is.0.1))
kind_lie (Local op) is = op_lie op is.0

kind_field : IsField read_kind kind_text IsKindOf 45 102
kind_field = record { takes = kind_takes; again = kind_again; lie = kind_lie }

-- a call, and calls with a blank between them
abbrev pub IsCall : Call → Type 0
IsCall call = FitsCall call × IsPlainCall call

abbrev pub call_body : Call → List ℕ
call_body call = id_text call.id ++ 61 ∷ kind_text call.kind

call_field : IsField read_call call_body IsCall 45 102
unfolding read_call
call_field =
    let all = two_fields 61 45 102 id_field kind_field refl refl refl refl in
    made_field all call_from (λ call. (call.id, call.kind)) call_body IsCall (λ parts. refl)
    (λ parts fits. ((fits.0, fits.1.0), fits.1.1)) (λ call is. (is.0.0, (is.0.1, is.1)))
    (λ call. refl)

-- calls with a blank between each two
abbrev pub calls_body : List Call → List ℕ
calls_body calls = join_with_byte 32 (map call_body calls)

abbrev pub AreCalls : List Call → Type 0
AreCalls calls = (calls ≢ []) × All IsCall calls

call_is : (call : Call) → call_text call ≡ 32 ∷ call_body call
call_is call = simp append_assoc

pub next_is : (call : Call) (calls : List Call)
    → flat_map call_text (call ∷ calls) ≡ 32 ∷ calls_body (call ∷ calls)
next_is call [] = flat_map-cons call_text call [] ∙ append-nil (call_text call) ∙ call_is call
next_is call (next ∷ calls) = flat_map-cons call_text call (next ∷ calls)
    ∙ ap (λ (t : List ℕ). t ++ flat_map call_text (next ∷ calls)) (call_is call)
    ∙ ap (λ (t : List ℕ). 32 ∷ (call_body call ++ t)) (next_is next calls)

pub calls_field : IsField read_calls calls_body AreCalls 32 102
unfolding read_calls
calls_field = parts_field call_field 32 32 102 refl refl refl

-- what stands behind names
pub named_field : IsField read_named (λ p. id_text p.0 ++ 32 ∷ hex_bytes p.1)
    (λ p. IsId p.0 × IsPdu p.1) 32 102
unfolding read_named
named_field = two_fields 32 32 102 id_field pdu_field refl refl refl refl

pub served_field : IsField read_served
    (λ p. id_text p.0 ++ 32 ∷ (hex_bytes p.1.0 ++ 32 ∷ hex_bytes p.1.1))
    (λ p. IsId p.0 × (IsPdu p.1.0 × IsPdu p.1.1)) 32 102
unfolding read_served
served_field =
    let last = two_fields 32 32 102 pdu_field pdu_field refl refl refl refl in
    two_fields 32 32 102 id_field last refl refl refl refl

pub asked_field : IsField read_asked
    (λ p. id_text p.0 ++ 32 ∷ (route_text p.1.0 ++ 32 ∷ hex_bytes p.1.1))
    (λ p. IsId p.0 × (IsSomeRoute p.1.0 × IsPdu p.1.1)) 32 102
unfolding read_asked
asked_field =
    let last = two_fields 32 32 102 route_field pdu_field refl refl refl refl in
    two_fields 32 32 102 id_field last refl refl refl refl

pub coming_field : IsField read_coming
    (λ p. id_text p.0 ++ 32 ∷ (route_or_dash p.1.0 ++ 32 ∷ hex_bytes p.1.1))
    (λ p. IsId p.0 × (IsRoute p.1.0 × IsPdu p.1.1)) 32 102
unfolding read_coming
coming_field =
    let last = two_fields 32 32 102 route_or_dash_field pdu_field refl refl refl refl in
    two_fields 32 32 102 id_field last refl refl refl refl

pub posted_field : IsField read_posted
    (λ p. id_text p.0 ++ 32 ∷ (way_text p.1.0 ++ 32 ∷ hex_bytes p.1.1))
    (λ p. IsId p.0 × (IsWay p.1.0 × IsPdu p.1.1)) 32 102
unfolding read_posted
posted_field =
    let last = two_fields 32 32 102 way_field pdu_field refl refl refl refl in
    two_fields 32 32 102 id_field last refl refl refl refl

pub going_field : IsField (read_pair read_id read_onward 32)
    (λ p. id_text p.0 ++ 32 ∷ onward_body p.1) (λ p. IsId p.0 × IsOnward p.1) 32 102
going_field = two_fields 32 32 102 id_field onward_field refl refl refl refl
