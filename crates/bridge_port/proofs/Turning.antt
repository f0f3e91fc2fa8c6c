-- What the first two parts of a turn of a bridge's end leave.
use Rattle.std.proofs.Common.{◌≡◌, ℕ, ◌≤◌, Bool, true, false, List, [], ◌∷◌, ◌++◌, Option}
use Rattle.std.proofs.Common.{Some, None, count_by, length, refl, sym, ap, ◌∙◌, subst, append_assoc}
use Rattle.std.proofs.Common.{append-nil}
use Rattle.std.specs.List.{cons_option}
use Rattle.mstr_block.specs.declared.call.CallId.{CallId}
use Rattle.bridge_relay.specs.declared.entry.BridgeEntry.{BridgeEntry}
use Rattle.bridge_relay.specs.declared.entry.BridgeEntry.TheVariants.{Accept, Forward, Finish}
use Rattle.bridge_relay.specs.declared.entry.BridgeEntry.TheVariants.{Back}
use Rattle.bridge_relay.specs.declared.entry.RelayResult.TheVariants as results
use Rattle.bridge_relay.specs.Kept.{code_between, near_accepted, near_after}
use Rattle.bridge_relay.specs.Laws.{end_after, is_by}
use Rattle.bridge_relay.specs.Legal.{IsBridgeHistory, IsEnd, is_call_out}
use Rattle.bridge_relay.specs.Machine.{EndIs, freed, given_back, side_of}
use Rattle.ring_core.specs.Legal.{IsLegalRing, IsPath}
use Rattle.ring_core.specs.Statistics.{is_for_stats}
use Rattle.ring_core.specs.Words.{frame_route}
use Rattle.ring_core.specs.declared.frame.FrameKind.{FrameKind}
use Rattle.ring_core.specs.declared.frame.FrameKind.TheVariants.{Request, Reply}
use Rattle.ring_core.specs.declared.frame.Frame.{Frame}
use Rattle.ring_core.specs.declared.entry.RingEntry.{RingEntry}
use Rattle.ring_core.specs.declared.entry.RingEntry.TheVariants.{Post, Take, Local}
use Rattle.ring_laws.specs.Once.{takes}
use Rattle.tied_lists.specs.Own.{is_of, own, Grew, WentOn}
use Rattle.tied_lists.specs.Items.{Called, Item, Items, NetCall, OverNet, Replied, kind_in}
use Rattle.tied_lists.specs.Items.{reply_of, with_answer, with_calls, with_end}
use Rattle.tied_lists.specs.Tied.{TiedEnd}
use Rattle.tied_lists.specs.Waits.{waits_taken}
use Rattle.tied_lists.proofs.Growth.{grew-one, grew-ours}
use Rattle.tied_lists.proofs.Turns.{after-take, reply-awaited, request-of-other, unmoved}
use Rattle.comm_port.specs.Replies.{reply_frame, TellsStatistics}
use Rattle.comm_port.specs.Sides.{MayWrite, RingSideIs}
use Rattle.comm_port.specs.Turns.{IsOwnTurn, KeepsInbox}
use Rattle.comm_port.proofs.HostTurning.{own-turn}
use Rattle.comm_port.proofs.RingTurns.{on-still, own-moved, own-on}
use Rattle.bridge_port.specs.EndTurns.{EndTaking, EndTurning, EndPathsAgree}
use Rattle.comm_port.specs.JointHistory.{back_of, backs_of, side_item_next, side_items}
use Rattle.bridge_port.specs.Sides.{BridgeSideIs}
use Rattle.bridge_port.proofs.Across.{IsAsWas, as-was, own-step}
use Rattle.bridge_port.proofs.Agree.{agree-called, agree-replied, agree-taken, have-four, went-out}
use Rattle.bridge_port.proofs.EndTurns.{turning-others}
use Rattle.bridge_port.proofs.Ends.{end-accepted, end-backed, end-called, end-got, end-told}
use Rattle.bridge_port.proofs.Lists.{backs-one, items-one}
use Rattle.bridge_port.proofs.Names.{none-replied, not-before, not-by-port, taken-once-own}
use Rattle.bridge_port.proofs.Names.{answers_named}
use Rattle.bridge_port.proofs.Owed.{backs-accepted}
use Rattle.bridge_port.proofs.Waited.{agree-as, agree-ended, agree-still, made-net, waited-out}

-- ---- what is taken

pub taking-now : {P Q : Type 0} (alone : Bool) (n : ℕ) (f : Frame) (bridge : BridgeSideIs P)
    (list : List BridgeEntry) (side side' : RingSideIs Q) (ring ring' : List RingEntry)
    → side' ≡ side → IsLegalRing side.net ring'
    → WentOn alone (is_of n) ring (Take n f ∷ []) ring' → EndTurning n bridge list side ring
    → EndTaking n f bridge list side' ring'
taking-now {P} {Q} alone n f bridge list side side' ring ring' same legal went t =
    let m = own-moved side alone n ring (Take n f) ring' refl t.own_turn legal went in
    subst (λ (s : RingSideIs Q). EndTaking n f bridge list s ring') (sym same) (record {
      before = own n ring;
      own_is = m.own_is;
      serves = t.serves;
      is_open = t.is_open;
      legal = t.legal;
      own_turn = record {
        serves = t.own_turn.serves;
        on = own-on side alone n ring (Take n f) ring' t.own_turn legal went;
        free = (after-take side.net n ring f ring' m).free;
      };
      tied = t.tied;
      paths = t.paths;
      request = λ kind. request-of-other side.net n ring f ring' kind m;
      reply = λ kind.
          let a = reply-awaited side.net n ring f ring' kind m in
          (a.ask, a.waits, a.same, a.is_ask);
    })

-- nothing was taken
pub turning-still : {P Q : Type 0} (alone : Bool) (n : ℕ) (bridge : BridgeSideIs P)
    (list : List BridgeEntry) (side side' : RingSideIs Q) (ring ring' : List RingEntry)
    → side' ≡ side → IsLegalRing side.net ring' → WentOn alone (is_of n) ring [] ring'
    → EndTurning n bridge list side ring → EndTurning n bridge list side' ring'
turning-still {P} {Q} alone n bridge list side side' ring ring' same legal went t =
    let on = on-still side alone ring ring' n t.own_turn legal went in
    let found = unmoved side.net n alone ring ring' on went t.own_turn.free in
    turning-others alone n bridge list side side' ring ring'
    (subst (λ (s : RingSideIs Q). IsOwnTurn s ring' n) (sym same)
    (record { serves = t.own_turn.serves; on = on; free = found.free }))
    (grew-one alone (is_of n) ring [] ring' refl went) t

-- the call of a Reply is out
pub reply-out : {P Q : Type 0} (n : ℕ) (f : Frame) (bridge : BridgeSideIs P)
    (list : List BridgeEntry) (side : RingSideIs Q) (ring : List RingEntry) → f.kind ≡ Reply
    → EndTaking n f bridge list side ring → is_call_out bridge.plan list n f.id ≡ true
reply-out n f bridge list side ring kind t =
    let r = t.reply kind in
    let named : record { node = n; path = f.id.path; seq = f.id.seq } ≡ f.id =
    λ i. record {
      node = (sym r.3.node ∙ ap (λ (x : CallId). x.node) r.2) i;
      path = f.id.path;
      seq = f.id.seq;
    } in
    subst (λ (id : CallId). is_call_out bridge.plan list n id ≡ true) named
    (waited-out bridge.plan list n f.id.path f.id.seq t.before r.0 r.3.is_path t.paths r.1
    (ap (λ (x : CallId). x.seq) r.2))

-- ---- a worker stands after an entry of the end

-- what the list of the end says behind it
record Noted (n : ℕ) (list' : List BridgeEntry) (a : Items) (backs : List Item) : Type 0 where
  pub items : side_items n list' ≡ a
  pub backs_are : backs_of n list' ≡ backs

noted-one : (alone : Bool) (n : ℕ) (list : List BridgeEntry) (e : BridgeEntry)
    (list' : List BridgeEntry) → side_of e ≡ n → WentOn alone (is_by n) list (e ∷ []) list'
    → Noted n list' (side_item_next (side_items n list) e)
    (backs_of n list ++ cons_option (back_of e) [])
noted-one alone n list e list' made went = record {
  items = items-one alone n list e list' made went;
  backs_are = backs-one alone n list e list' made went;
}

turning-from : {P Q : Type 0} (n : ℕ) (bridge bridge' : BridgeSideIs P)
    (list' : List BridgeEntry) (side side' : RingSideIs Q) (ring' : List RingEntry) (a : Items)
    (backs : List Item) (new : EndIs) → bridge' ≡ bridge → side' ≡ side
    → MayWrite bridge.writer n → IsEnd bridge.plan n → new.gone ≡ false
    → IsBridgeHistory bridge.plan list' → Noted n list' a backs
    → end_after bridge.plan list' n ≡ new → IsOwnTurn side ring' n → TiedEnd a backs (own n ring')
    → EndPathsAgree new (own n ring') → EndTurning n bridge' list' side' ring'
turning-from {P} {Q} n bridge bridge' list' side side' ring' a backs new same same' serves end gone
    legal noted end_is turn tied paths =
    subst (λ (s : RingSideIs Q). EndTurning n bridge' list' s ring') (sym same')
    (subst (λ (s : BridgeSideIs P). EndTurning n s list' side ring') (sym same) (record {
      serves = serves;
      is_open = record { end = end; here = ap (λ (x : EndIs). x.gone) end_is ∙ gone };
      legal = legal;
      own_turn = turn;
      tied = subst (λ (x : Items). TiedEnd x (backs_of n list') (own n ring')) (sym noted.items)
          (subst (λ (x : List Item). TiedEnd a x (own n ring')) (sym noted.backs_are) tied);
      paths = subst (λ (x : EndIs). EndPathsAgree x (own n ring')) (sym end_is) paths;
    }))

-- a Reply
pub turning-got : {P Q : Type 0} (alone : Bool) (n : ℕ) (f : Frame)
    (bridge bridge' : BridgeSideIs P) (list list' : List BridgeEntry) (side : RingSideIs Q)
    (ring : List RingEntry) → bridge' ≡ bridge → f.kind ≡ Reply
    → IsBridgeHistory bridge.plan list'
    → WentOn alone (is_by n) list (Finish n f.id (results.Reply f.pdu) ∷ []) list'
    → EndTaking n f bridge list side ring → EndTurning n bridge' list' side ring
turning-got alone n f bridge bridge' list list' side ring same kind legal went t =
    let e : BridgeEntry = Finish n f.id (results.Reply f.pdu) in
    let s = own-step alone bridge.plan n list e list' refl t.is_open.end legal went in
    let r = t.reply kind in
    let a = side_items n list in
    let backs = backs_of n list in
    let made = subst (λ (id : CallId). kind_in a.calls id ≡ Some NetCall) r.2
    (made-net n f.id.path list backs t.before r.0 r.3.path t.tied r.1) in
    let tied = end-got a backs t.before n f kind made t.tied in
    let paths = agree-ended s.past t.before (Take n f) f.id.path r.3.is_path
    (λ p now. ap (λ (k : FrameKind). waits_taken p now k f) kind) (λ p now. refl)
    (agree-as (end_after bridge.plan list n) s.past t.before s.stays.paths t.paths) in
    turning-from n bridge bridge' list' side side ring (with_end a f.id (Replied f.pdu))
    (backs ++ []) (freed s.past f.id.path) same refl t.serves t.is_open.end
    (s.stays.gone ∙ t.is_open.here) legal (noted-one alone n list e list' refl went) s.after_is
    t.own_turn
    (subst (λ (l : List Item). TiedEnd (with_end a f.id (Replied f.pdu)) l (own n ring))
    (sym (append-nil backs))
    (subst (TiedEnd (with_end a f.id (Replied f.pdu)) backs) (sym t.own_is) tied))
    (subst (EndPathsAgree (freed s.past f.id.path)) (sym t.own_is) paths)

-- a Request that the bridge accepted
accepted-is : (near : EndIs) (id : CallId) (route request : List ℕ) (code : Option ℕ)
    → IsAsWas near
    (near_accepted near (record { id = id; route = route; request = request }) code)
accepted-is near id route request None = as-was near
accepted-is near id route request (Some code) = record { paths = refl; gone = refl }

pub turning-accepted : {P Q : Type 0} (alone : Bool) (n : ℕ) (f : Frame)
    (bridge bridge' : BridgeSideIs P) (list list' : List BridgeEntry) (side : RingSideIs Q)
    (ring : List RingEntry) → bridge' ≡ bridge → f.kind ≡ Request → is_for_stats f ≡ false
    → IsBridgeHistory bridge.plan list'
    → WentOn alone (is_by n) list (Accept n f.id f.rest f.pdu ∷ []) list'
    → EndTaking n f bridge list side ring → EndTurning n bridge' list' side ring
turning-accepted alone n f bridge bridge' list list' side ring same kind plain legal went t =
    let e : BridgeEntry = Accept n f.id f.rest f.pdu in
    let s = own-step alone bridge.plan n list e list' refl t.is_open.end legal went in
    let new = near_accepted s.past (record { id = f.id; route = f.rest; request = f.pdu })
    (code_between s.across s.far f.rest) in
    let is = accepted-is s.past f.id f.rest f.pdu (code_between s.across s.far f.rest) in
    let a = side_items n list in
    let backs = backs_of n list in
    let a' = with_answer a
    (record { id = f.id; rest = f.rest; request = Some f.pdu; reply = None }) in
    let tied = end-accepted a backs t.before n f kind plain t.tied in
    let paths = agree-taken new t.before n f kind
    (agree-as s.past new t.before is.paths
    (agree-as (end_after bridge.plan list n) s.past t.before s.stays.paths t.paths)) in
    turning-from n bridge bridge' list' side side ring a' (backs ++ []) new same refl t.serves
    t.is_open.end (is.gone ∙ (s.stays.gone ∙ t.is_open.here)) legal
    (noted-one alone n list e list' refl went) s.after_is t.own_turn
    (subst (λ (l : List Item). TiedEnd a' l (own n ring)) (sym (append-nil backs))
    (subst (TiedEnd a' backs) (sym t.own_is) tied))
    (subst (EndPathsAgree new) (sym t.own_is) paths)

-- a Request for statistics
pub turning-told : {P Q : Type 0} (n : ℕ) (f : Frame) (bridge : BridgeSideIs P)
    (list : List BridgeEntry) (side side' : RingSideIs Q) (alone : Bool)
    (ring ring' : List RingEntry) → side' ≡ side → f.kind ≡ Request → is_for_stats f ≡ true
    → TellsStatistics alone n f.id f.pdu ring ring' → IsLegalRing side.net ring'
    → KeepsInbox side.net n ring ring' → EndTaking n f bridge list side ring
    → EndTurning n bridge list side' ring'
turning-told {P} {Q} n f bridge list side side' alone ring ring' same kind stats tells legal kept
    t =
    let g = reply_frame f.id (reply_of tells.result) in
    let local : RingEntry = Local n f.id tells.op tells.result in
    let told : List RingEntry = Take n f ∷ local ∷ Post n g ∷ [] in
    let own_is : own n ring' ≡ t.before ++ told =
    grew-ours alone (is_of n) ring (local ∷ Post n g ∷ []) ring' tells.grew
    ∙ (ap (λ l. l ++ (local ∷ Post n g ∷ [])) t.own_is
    ∙ append_assoc t.before (Take n f ∷ []) (local ∷ Post n g ∷ [])) in
    let turn = own-turn side ring ring' n t.own_turn legal kept in
    let once = subst (λ (l : List RingEntry). count_by (takes f.id) l ≤ 1) own_is
    (taken-once-own side.net ring' n f.id turn.on) in
    let none = not-before f.id t.before n f (local ∷ Post n g ∷ []) kind refl once in
    let accepted = backs-accepted bridge.plan n list t.is_open.end t.legal in
    let apart = none-replied f.id (side_items n list) (backs_of n list) t.before t.tied accepted
    none in
    let tied = end-told (side_items n list) (backs_of n list) t.before n f g tells.op tells.result
    kind stats (t.request kind) tells.answers refl refl refl apart t.tied in
    let end = end_after bridge.plan list n in
    let one = agree-taken end t.before n f kind t.paths in
    let two = agree-still end (t.before ++ Take n f ∷ []) local (λ p now. refl) (λ p now. refl) one
    in
    let three = agree-replied end ((t.before ++ Take n f ∷ []) ++ local ∷ []) n g refl two in
    let joined : ((t.before ++ Take n f ∷ []) ++ local ∷ []) ++ Post n g ∷ [] ≡ t.before ++ told =
    append_assoc (t.before ++ Take n f ∷ []) (local ∷ []) (Post n g ∷ [])
    ∙ append_assoc t.before (Take n f ∷ []) (local ∷ Post n g ∷ []) in
    subst (λ (s : RingSideIs Q). EndTurning n bridge list s ring') (sym same) (record {
      serves = t.serves;
      is_open = t.is_open;
      legal = t.legal;
      own_turn = turn;
      tied = subst (TiedEnd (side_items n list) (backs_of n list)) (sym own_is) tied;
      paths = subst (EndPathsAgree end) (joined ∙ sym own_is) three;
    })

-- ---- a reply that was given back

pub turning-backed : {P Q : Type 0} (alone alone' : Bool) (n : ℕ) (id : CallId) (pdu : List ℕ)
    (bridge bridge' : BridgeSideIs P) (list list' : List BridgeEntry) (side side' : RingSideIs Q)
    (ring ring' : List RingEntry) → bridge' ≡ bridge → side' ≡ side
    → IsBridgeHistory bridge.plan list'
    → WentOn alone (is_by n) list (Back n id pdu ∷ []) list'
    → 1 ≤ answers_named id (side_items n list).answers → IsLegalRing side.net ring'
    → Grew alone' (is_of n) ring (Post n (reply_frame id pdu) ∷ []) ring'
    → KeepsInbox side.net n ring ring' → EndTurning n bridge list side ring
    → EndTurning n bridge' list' side' ring'
turning-backed alone alone' n id pdu bridge bridge' list list' side side' ring ring' same same'
    legal went accepted legal_ring grew kept t =
    let e : BridgeEntry = Back n id pdu in
    let g = reply_frame id pdu in
    let s = own-step alone bridge.plan n list e list' refl t.is_open.end legal went in
    let own_is : own n ring' ≡ own n ring ++ Post n g ∷ [] =
    grew-ours alone' (is_of n) ring (Post n g ∷ []) ring' grew in
    let a = side_items n list in
    let backs = backs_of n list in
    let backs' = backs ++ (id, Some pdu) ∷ [] in
    let apart = not-by-port id (Some pdu) a backs (own n ring) t.tied
    (taken-once-own side.net ring n id t.own_turn.on) accepted in
    let tied = end-backed a backs (own n ring) n g refl apart t.tied in
    let new = given_back s.past in
    let paths = agree-replied new (own n ring) n g refl
    (agree-as s.past new (own n ring) refl
    (agree-as (end_after bridge.plan list n) s.past (own n ring) s.stays.paths t.paths)) in
    turning-from n bridge bridge' list' side side' ring' a backs' new same same' t.serves
    t.is_open.end (s.stays.gone ∙ t.is_open.here) legal (noted-one alone n list e list' refl went)
    s.after_is (own-turn side ring ring' n t.own_turn legal_ring kept)
    (subst (TiedEnd a backs') (sym own_is) tied) (subst (EndPathsAgree new) (sym own_is) paths)

-- ---- a request that was sent on

pub turning-called : {P Q : Type 0} (alone alone' : Bool) (n : ℕ) (old : CallId) (f : Frame)
    (bridge bridge' : BridgeSideIs P) (list list' : List BridgeEntry) (side side' : RingSideIs Q)
    (ring ring' : List RingEntry) → bridge' ≡ bridge → side' ≡ side → f.kind ≡ Request
    → IsPath f.id.path → IsBridgeHistory bridge.plan list'
    → WentOn alone (is_by n) list (Forward n old f.id (frame_route f) f.pdu ∷ []) list'
    → IsLegalRing side.net ring' → Grew alone' (is_of n) ring (Post n f ∷ []) ring'
    → KeepsInbox side.net n ring ring' → EndTurning n bridge list side ring
    → EndTurning n bridge' list' side' ring'
turning-called alone alone' n old f bridge bridge' list list' side side' ring ring' same same' kind
    path legal went legal_ring grew kept t =
    let e : BridgeEntry = Forward n old f.id (frame_route f) f.pdu in
    let s = own-step alone bridge.plan n list e list' refl t.is_open.end legal went in
    let own_is : own n ring' ≡ own n ring ++ Post n f ∷ [] =
    grew-ours alone' (is_of n) ring (Post n f ∷ []) ring' grew in
    let a = side_items n list in
    let backs = backs_of n list in
    let call : Called = record { id = f.id; sort = OverNet (frame_route f) f.pdu } in
    let a' = with_calls a (call ∷ []) in
    let tied = end-called a backs (own n ring) n call f kind refl t.tied in
    let new = near_after s.across s.past s.far e in
    let out = went-out s.across s.past s.far n old f.id (frame_route f) f.pdu path
    (ap length s.stays.paths ∙ have-four bridge.plan list n) in
    let paths = agree-called s.past new (own n ring) n f kind out
    (agree-as (end_after bridge.plan list n) s.past (own n ring) s.stays.paths t.paths) in
    turning-from n bridge bridge' list' side side' ring' a' (backs ++ []) new same same' t.serves
    t.is_open.end (s.stays.gone ∙ t.is_open.here) legal (noted-one alone n list e list' refl went)
    s.after_is (own-turn side ring ring' n t.own_turn legal_ring kept)
    (subst (λ (l : List Item). TiedEnd a' l (own n ring')) (sym (append-nil backs))
    (subst (TiedEnd a' backs) (sym own_is) tied))
    (subst (EndPathsAgree new) (sym own_is) paths)
