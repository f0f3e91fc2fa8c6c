-- An end of a bridge that stands between its turns, while others have theirs.
use Rattle.std.proofs.Common.{◌≡◌, ℕ, ◌<◌, ◌==◌, Bool, true, false, cond, List, [], ◌++◌, All, refl}
use Rattle.std.proofs.Common.{filter_map, sym, ap, ◌∙◌, subst, append-nil}
use Rattle.std.proofs.lemmas.List.Elements.{filter-append}
use Rattle.plant_types.specs.declared.net.BridgePlan.{BridgePlan}
use Rattle.plant_types.specs.declared.net.NetPlan.{NetPlan}
use Rattle.bridge_relay.specs.declared.entry.BridgeEntry.{BridgeEntry}
use Rattle.bridge_relay.specs.Bridge.{BridgeIs}
use Rattle.bridge_relay.specs.Laws.{end_after, is_by}
use Rattle.bridge_relay.specs.Legal.{IsBridgeHistory, IsEnd}
use Rattle.bridge_relay.specs.Machine.{EndIs, new_end, new_relay, relay_path}
use Rattle.bridge_relay.proofs.Legal.{legal_new}
use Rattle.bridge_relay.proofs.Paths.{at_path}
use Rattle.ring_core.specs.Legal.{IsLegalRing, IsMember}
use Rattle.ring_core.specs.Machine.{addresses, is_here, is_in, ring_after, ring_node}
use Rattle.ring_core.specs.declared.entry.RingEntry.{RingEntry}
use Rattle.tied_lists.specs.Own.{own}
use Rattle.tied_lists.specs.Items.{no_items}
use Rattle.tied_lists.specs.Tied.{TiedEnd}
use Rattle.tied_lists.specs.Waits.{IsOnRing, last_number, waiting}
use Rattle.tied_lists.proofs.Turns.{membership-kept, on-others, own-found}
use Rattle.comm_port.specs.HostStands.{own_side}
use Rattle.comm_port.specs.Sides.{MayWrite, RingSideIs}
use Rattle.comm_port.proofs.Standings.{start-rests}
use Rattle.comm_port.proofs.Through.{rest-others}
use Rattle.bridge_port.specs.EndTurns.{BridgeWorkerIs, EndTies, EndPathsAgree, number_out}
use Rattle.bridge_port.specs.EndTurns.{number_waited}
use Rattle.comm_port.specs.JointHistory.{back_of, backs_of, made_at_end, side_items}
use Rattle.comm_port.specs.JointHistory.{side_items_after}
use Rattle.bridge_port.specs.Sides.{BridgeSideIs}
use Rattle.bridge_port.specs.Stands.{EndIsReady, own_bridge}
use Rattle.bridge_port.proofs.Across.{across-stays}
use Rattle.bridge_port.proofs.Waited.{agree-as}

-- ---- at the start

agree-new : EndPathsAgree new_end []
agree-new = record {
  waits = λ p is. at_path (λ q. number_waited (waiting q [])
      ≡ number_out (relay_path new_end q)) p is refl refl refl
      refl;
  numbers = λ p is. at_path (λ q. last_number q []
      ≡ (relay_path new_end q).last) p is refl refl refl refl;
}

end-new : (plan : BridgePlan) (n : ℕ) → end_after plan [] n ≡ new_end
end-new plan n = by (n == plan.left)
  where
    by : (b : Bool) → cond b new_relay.left new_relay.right ≡ new_end
    by true = refl
    by false = refl

pub ties-new : {P Q : Type 0} (n : ℕ) (bridge : BridgeSideIs P) (side : RingSideIs Q)
    → MayWrite bridge.writer n → IsEnd bridge.plan n → MayWrite side.writer n
    → IsOnRing side.net [] n → 0 < side.net.answer → EndTies n bridge [] side []
ties-new n bridge side serves end serves_ring on wait = record {
  serves_bridge = serves;
  end = end;
  legal = legal_new bridge.plan;
  serves_ring = serves_ring;
  on = on;
  answer = wait;
  tied = record {
    asks = refl;
    peers = refl;
    port = refl;
    replies = record { given = refl; told = refl };
    ends = refl;
    downs = refl;
  };
  paths = subst (λ (x : EndIs). EndPathsAgree x []) (sym (end-new bridge.plan n)) agree-new;
  rest = start-rests side.net n;
}

-- ---- what others leave

-- entries of other nodes
pub ties-ring : {P Q : Type 0} (n : ℕ) (bridge : BridgeSideIs P) (list : List BridgeEntry)
    (side : RingSideIs Q) (ring more : List RingEntry) → own n more ≡ []
    → IsLegalRing side.net (ring ++ more) → EndTies n bridge list side ring
    → EndTies n bridge list side (ring ++ more)
ties-ring n bridge list side ring more none legal t =
    let same = own-found n ring more none in
    record {
      serves_bridge = t.serves_bridge;
      end = t.end;
      legal = t.legal;
      serves_ring = t.serves_ring;
      on = on-others side.net n ring more t.on legal none;
      answer = t.answer;
      tied = subst (TiedEnd (side_items n list) (backs_of n list)) (sym same) t.tied;
      paths = subst (EndPathsAgree (end_after bridge.plan list n)) (sym same) t.paths;
      rest = rest-others side.net n ring more t.on legal none t.rest;
    }

-- entries of the other end
pub ties-across : {P Q : Type 0} (n : ℕ) (bridge : BridgeSideIs P) (list more : List BridgeEntry)
    (side : RingSideIs Q) (ring : List RingEntry) → made_at_end n more ≡ []
    → IsBridgeHistory bridge.plan (list ++ more) → EndTies n bridge list side ring
    → EndTies n bridge (list ++ more) side ring
ties-across n bridge list more side ring none legal t =
    let same : made_at_end n (list ++ more) ≡ made_at_end n list = filter-append (is_by n) list more
    ∙ (ap (λ l. made_at_end n list ++ l) none ∙ append-nil (made_at_end n list)) in
    let stays = across-stays bridge.plan n list more t.end legal none in
    record {
      serves_bridge = t.serves_bridge;
      end = t.end;
      legal = legal;
      serves_ring = t.serves_ring;
      on = t.on;
      answer = t.answer;
      tied = subst (λ (l : List BridgeEntry). TiedEnd
          (side_items_after no_items l)
          (filter_map back_of l) (own n ring)) (sym same) t.tied;
      paths = agree-as (end_after bridge.plan list n) (end_after bridge.plan (list ++ more) n)
          (own n ring) stays.paths t.paths;
      rest = t.rest;
    }

-- ---- an end between its turns

pub ready-new : (n : ℕ) (worker : BridgeWorkerIs) (left : Bool) (plan : BridgePlan)
    (net : NetPlan) → worker.side ≡ n → IsEnd plan n → All (λ m. m < addresses) net.members
    → IsMember net n → 0 < net.answer → is_here (ring_node (ring_after net []) n) ≡ true
    → EndIsReady n worker left (record { plan = plan; history = [] }) net []
ready-new n worker left plan net is end members member wait here = record {
  worker_side = is;
  ties = ties-new n (own_bridge plan) (own_side net) tt end tt
      (record { members = members; legal = tt; member = member; patient = tt }) wait;
  is_open = λ stays. record { end = end; here = ap (λ (x : EndIs). x.gone) (end-new plan n) };
  here = λ stays. here;
}

pub ready-ring : (n : ℕ) (worker : BridgeWorkerIs) (left : Bool) (bridge : BridgeIs)
    (net : NetPlan) (ring more : List RingEntry) → own n more ≡ []
    → IsLegalRing net (ring ++ more) → EndIsReady n worker left bridge net ring
    → EndIsReady n worker left bridge net (ring ++ more)
ready-ring n worker left bridge net ring more none legal t = record {
  worker_side = t.worker_side;
  ties = ties-ring n (own_bridge bridge.plan) bridge.history (own_side net) ring more none legal
      t.ties;
  is_open = t.is_open;
  here = λ stays. ap is_in (membership-kept net n ring more none
      (λ asks. let no' : false ≡ true = sym (ap is_in asks) ∙ t.here stays in cc))
      ∙ t.here stays;
}

pub ready-across : (n : ℕ) (worker : BridgeWorkerIs) (left : Bool) (plan : BridgePlan)
    (list more : List BridgeEntry) (net : NetPlan) (ring : List RingEntry) → made_at_end n more ≡ []
    → IsBridgeHistory plan (list ++ more)
    → EndIsReady n worker left (record { plan = plan; history = list }) net ring
    → EndIsReady n worker left (record { plan = plan; history = list ++ more }) net ring
ready-across n worker left plan list more net ring none legal t =
    let stays = across-stays plan n list more t.ties.end legal none in
    record {
      worker_side = t.worker_side;
      ties = ties-across n (own_bridge plan) list more (own_side net) ring none legal t.ties;
      is_open = λ still. record {
        end = t.ties.end;
        here = stays.gone ∙ (t.is_open still).here;
      };
      here = t.here;
    }
