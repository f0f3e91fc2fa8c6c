-- What a worker of a bridge's end stands on, as one of its lists goes on.
use Rattle.std.proofs.Common.{◌≡◌, ℕ, Bool, List, [], sym, ◌∙◌, subst, append-nil}
use Rattle.ring_core.specs.declared.entry.RingEntry.{RingEntry}
use Rattle.bridge_relay.specs.declared.entry.BridgeEntry.{BridgeEntry}
use Rattle.bridge_relay.specs.Laws.{end_after, is_by}
use Rattle.bridge_relay.specs.Legal.{IsBridgeHistory}
use Rattle.tied_lists.specs.Own.{is_of, own, Grew, WentOn}
use Rattle.tied_lists.specs.Items.{Item, Items}
use Rattle.tied_lists.specs.Tied.{TiedEnd}
use Rattle.tied_lists.proofs.Growth.{grew-ours}
use Rattle.comm_port.specs.Sides.{RingSideIs}
use Rattle.comm_port.specs.Turns.{IsOwnTurn}
use Rattle.bridge_port.specs.EndTurns.{EndTurning, EndPathsAgree}
use Rattle.comm_port.specs.JointHistory.{backs_of, side_items}
use Rattle.bridge_port.specs.Sides.{BridgeSideIs}
use Rattle.bridge_port.proofs.Across.{still-open, still-stays}
use Rattle.bridge_port.proofs.Lists.{backs-still, items-still}
use Rattle.bridge_port.proofs.Waited.{agree-as}

-- sides that are the same
pub turning-sides : {P Q : Type 0} (n : ℕ) (bridge bridge' : BridgeSideIs P)
    (list : List BridgeEntry) (side side' : RingSideIs Q) (ring : List RingEntry)
    → bridge' ≡ bridge → side' ≡ side → EndTurning n bridge list side ring
    → EndTurning n bridge' list side' ring
turning-sides {P} {Q} n bridge bridge' list side side' ring same same' t =
    subst (λ (s : RingSideIs Q). EndTurning n bridge' list s ring) (sym same')
    (subst (λ (s : BridgeSideIs P). EndTurning n s list side ring) (sym same) t)

-- the ring's, by entries of others
pub turning-others : {P Q : Type 0} (alone : Bool) (n : ℕ) (bridge : BridgeSideIs P)
    (list : List BridgeEntry) (side side' : RingSideIs Q) (ring ring' : List RingEntry)
    → IsOwnTurn side' ring' n → Grew alone (is_of n) ring [] ring'
    → EndTurning n bridge list side ring → EndTurning n bridge list side' ring'
turning-others alone n bridge list side side' ring ring' turn grew t =
    let same : own n ring' ≡ own n ring =
    grew-ours alone (is_of n) ring [] ring' grew ∙ append-nil (own n ring) in
    record {
      serves = t.serves;
      is_open = t.is_open;
      legal = t.legal;
      own_turn = turn;
      tied = subst (TiedEnd (side_items n list) (backs_of n list)) (sym same) t.tied;
      paths = subst (EndPathsAgree (end_after bridge.plan list n)) (sym same) t.paths;
    }

-- the bridge's, by entries of the other end
pub turning-across : {P Q : Type 0} (alone : Bool) (n : ℕ) (bridge bridge' : BridgeSideIs P)
    (list list' : List BridgeEntry) (side : RingSideIs Q) (ring : List RingEntry)
    → bridge' ≡ bridge → IsBridgeHistory bridge.plan list'
    → WentOn alone (is_by n) list [] list' → EndTurning n bridge list side ring
    → EndTurning n bridge' list' side ring
turning-across {P} {Q} alone n bridge bridge' list list' side ring same legal went t =
    let stays = still-stays alone bridge.plan n list list' t.is_open.end legal went in
    subst (λ (s : BridgeSideIs P). EndTurning n s list' side ring) (sym same) (record {
      serves = t.serves;
      is_open = still-open alone bridge.plan n list list' legal went t.is_open;
      legal = legal;
      own_turn = t.own_turn;
      tied = subst (λ (l : List Item). TiedEnd (side_items n list') l (own n ring))
          (sym (backs-still alone n list list' went))
          (subst (λ (a : Items). TiedEnd a (backs_of n list) (own n ring))
          (sym (items-still alone n list list' went)) t.tied);
      paths = agree-as (end_after bridge.plan list n) (end_after bridge.plan list' n) (own n ring)
          stays.paths t.paths;
    })
