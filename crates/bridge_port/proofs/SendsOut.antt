-- A bridge's end that sends until its node's outbox is empty.
use Rattle.std.proofs.Common.{◌≡◌, ℕ, Bool, List, [], ◌∷◌, ◌++◌, filter_map, refl, sym, ap, ◌∙◌}
use Rattle.std.proofs.Common.{subst}
use Rattle.std.proofs.lemmas.List.Elements.{filter_map-append}
use Rattle.plant_types.specs.declared.net.NetPlan.{NetPlan}
use Rattle.mstr_block.specs.declared.call.CallId.{CallId}
use Rattle.ring_core.specs.declared.entry.Heard.{Heard}
use Rattle.ring_core.specs.declared.entry.RingEntry.{RingEntry}
use Rattle.ring_core.specs.declared.entry.RingEntry.TheVariants.{GiveUp, Send}
use Rattle.ring_core.specs.Legal.{IsLegalRing}
use Rattle.bridge_relay.specs.declared.entry.BridgeEntry.{BridgeEntry}
use Rattle.bridge_relay.specs.declared.entry.BridgeEntry.TheVariants.{Finish}
use Rattle.bridge_relay.specs.declared.entry.RelayResult.TheVariants as results
use Rattle.bridge_relay.specs.Laws.{end_after, is_by}
use Rattle.tied_lists.specs.Own.{is_of, own, Grew}
use Rattle.tied_lists.specs.Tied.{TiedEnd}
use Rattle.tied_lists.proofs.Growth.{grew-ours}
use Rattle.comm_port.specs.Giving.{MaySend, NoneFailed, each_path, part_at}
use Rattle.comm_port.specs.Parts.{EachNext, InOrder, PartOf}
use Rattle.comm_port.specs.Sending.{AllSent, SentNext}
use Rattle.comm_port.specs.SendsAll.{IsNextSending}
use Rattle.comm_port.specs.Sides.{RingSideIs}
use Rattle.comm_port.proofs.HostTurning.{own-turn}
use Rattle.comm_port.proofs.Parts.{each-both, each-grew, grew-none, part-as, part-both}
use Rattle.bridge_port.specs.EndParts.{EndGivesUp, EndSendsAll, finish_at_end}
use Rattle.bridge_port.specs.EndTurns.{EndTurning, EndPathsAgree}
use Rattle.comm_port.specs.JointHistory.{backs_of, side_items}
use Rattle.bridge_port.specs.Sides.{BridgeSideIs}
use Rattle.bridge_port.proofs.EndTurns.{turning-others}
use Rattle.bridge_port.proofs.Ends.{end-quiet}
use Rattle.bridge_port.proofs.Waited.{agree-still}

-- ---- what the worker stands on

-- a frame that was sent
pub turning-sent : {P Q : Type 0} (alone : Bool) (n : ℕ) (heard : Heard) (bridge : BridgeSideIs P)
    (list : List BridgeEntry) (side : RingSideIs Q) (ring ring' : List RingEntry)
    → IsLegalRing side.net ring' → SentNext alone side.net n heard ring ring'
    → EndTurning n bridge list side ring → EndTurning n bridge list side ring'
turning-sent alone n heard bridge list side ring ring' legal sent t =
    let own_is : own n ring' ≡ own n ring ++ Send n heard ∷ [] =
    grew-ours alone (is_of n) ring (Send n heard ∷ []) ring' sent.grew in
    record {
      serves = t.serves;
      is_open = t.is_open;
      legal = t.legal;
      own_turn = own-turn side ring ring' n t.own_turn legal sent.kept;
      tied = subst (TiedEnd (side_items n list) (backs_of n list)) (sym own_is)
          (end-quiet (side_items n list) (backs_of n list) (own n ring) (Send n heard) refl refl
          refl refl refl refl t.tied);
      paths = subst (EndPathsAgree (end_after bridge.plan list n)) (sym own_is)
          (agree-still (end_after bridge.plan list n) (own n ring) (Send n heard) (λ p now. refl)
          (λ p now. refl) t.paths);
    }

-- nothing was left to be sent
pub turning-all : {P Q : Type 0} (alone : Bool) (n : ℕ) (bridge : BridgeSideIs P)
    (list : List BridgeEntry) (side : RingSideIs Q) (ring ring' : List RingEntry)
    → IsLegalRing side.net ring' → AllSent alone side.net n ring ring'
    → EndTurning n bridge list side ring → EndTurning n bridge list side ring'
turning-all alone n bridge list side ring ring' legal all t =
    turning-others alone n bridge list side side ring ring'
    (own-turn side ring ring' n t.own_turn legal all.kept) all.grew t

-- ---- both lists

-- each call that was given up was finished with its word
abbrev pub Finished : ℕ → List BridgeEntry → List RingEntry → Type 0
Finished n noted done = noted ≡ filter_map (finish_at_end n) done

pub finished-both : (n : ℕ) (noted noted' : List BridgeEntry) (done done' : List RingEntry)
    → Finished n noted done → Finished n noted' done' → Finished n (noted ++ noted') (done ++ done')
finished-both n noted noted' done done' a b = (λ i. a i ++ b i) ∙ sym
    (filter_map-append (finish_at_end n) done done')

finished-of : (n : ℕ) (ids : List CallId) (noted : List BridgeEntry) (done : List RingEntry)
    → InOrder (EndGivesUp n) ids noted done → Finished n noted done
finished-of n [] noted done a = a.0 ∙ ap (filter_map (finish_at_end n)) (sym a.1)
finished-of n (id ∷ ids) noted done a =
    let word = a.6.0 in
    let rest = finished-of n ids a.1 a.3 a.7 in
    let done-is : done ≡ GiveUp id word ∷ a.3 = a.5 ∙ ap (λ l. l ++ a.3) a.6.2 in
    a.4 ∙ (ap (λ l. l ++ a.1) a.6.1
    ∙ (ap (λ (l : List BridgeEntry). Finish n id (results.Bad word) ∷ l) rest
    ∙ ap (filter_map (finish_at_end n)) (sym done-is)))

pub send-part : (alone alone' : Bool) (n : ℕ) (heard : Heard) (list : List BridgeEntry)
    (ring ring' : List RingEntry) → Grew alone' (is_of n) ring (Send n heard ∷ []) ring'
    → PartOf alone alone' (is_by n) n (Finished n) list list ring ring'
send-part alone alone' n heard list ring ring' grew = record {
  noted = [];
  done = Send n heard ∷ [];
  due = refl;
  station = grew-none alone (is_by n) list;
  node = grew;
}

pub given-part : (alone alone' : Bool) (n : ℕ) (ids : List CallId) (list list' : List BridgeEntry)
    (ring ring' : List RingEntry)
    → PartOf alone alone' (is_by n) n (InOrder (EndGivesUp n) ids) list list' ring ring'
    → PartOf alone alone' (is_by n) n (Finished n) list list' ring ring'
given-part alone alone' n ids list list' ring ring' p = part-as alone alone' (is_by n) n
    (InOrder (EndGivesUp n) ids) (Finished n) list list' ring ring'
    (λ noted done x. finished-of n ids noted done x) p

pub finished-more : (alone alone' : Bool) (n : ℕ) (one two three : List BridgeEntry)
    (a b c : List RingEntry) → PartOf alone alone' (is_by n) n (Finished n) one two a b
    → PartOf alone alone' (is_by n) n (Finished n) two three b c
    → PartOf alone alone' (is_by n) n (Finished n) one three a c
finished-more alone alone' n one two three a b c x y =
    part-both alone alone' (is_by n) n (Finished n) (Finished n) (Finished n) one two three a b c
    (finished-both n) x y

pub sent-all : (alone alone' : Bool) (net : NetPlan) (n : ℕ) (chosen : List Bool)
    (list list' : List BridgeEntry) (first ring ring' : List RingEntry)
    → AllSent alone' net n ring ring' → MaySend net n chosen (part_at net n ring)
    → PartOf alone alone' (is_by n) n (Finished n) list list' first ring
    → EachNext n (IsNextSending net n each_path) first ring
    → EndSendsAll alone alone' net n list list' first ring'
sent-all alone alone' net n chosen list list' first ring ring' s m p each =
    let q = finished-more alone alone' n list list' list' first ring ring' p (record {
      noted = [];
      done = [];
      due = refl;
      station = grew-none alone (is_by n) list';
      node = s.grew;
    }) in
    record {
      frames = record {
        done = q.done;
        grew = q.node;
        each = each-both n (IsNextSending net n each_path) first ring ring' each
            (each-grew alone' n (IsNextSending net n each_path) ring ring' s.grew);
        all_sent = s.empty;
        none_failed = subst (NoneFailed each_path) (sym s.part_is) m.none_failed;
      };
      finishes = subst (λ (l : List BridgeEntry). Grew alone (is_by n) list l list') q.due
          q.station;
    }
