-- The parts of a turn of a bridge's end, put together.
use Rattle.std.proofs.Common.{◌≡◌, ℕ, zero, suc, Bool, true, false, List, [], ◌∷◌, filter_map}
use Rattle.std.proofs.Common.{replicate, refl, sym, ◌∙◌, subst, inl}
use Rattle.std.specs.List.{AllByRecursion as Each}
use Rattle.plant_types.specs.declared.net.BridgePlan.{BridgePlan}
use Rattle.plant_types.specs.declared.net.NetPlan.{NetPlan}
use Rattle.mstr_block.specs.Table.{network_paths}
use Rattle.mstr_block.specs.declared.call.CallId.{CallId}
use Rattle.ring_core.specs.declared.frame.FrameKind.TheVariants.{Request, Reply}
use Rattle.ring_core.specs.declared.frame.Frame.{Frame}
use Rattle.ring_core.specs.declared.entry.RingEntry.{RingEntry}
use Rattle.ring_core.specs.Legal.{IsLegalRing}
use Rattle.ring_core.specs.Machine.{NodeIs, path_places}
use Rattle.bridge_relay.specs.declared.entry.BridgeEntry.{BridgeEntry}
use Rattle.bridge_relay.specs.declared.entry.BridgeEntry.TheVariants.{Accept, Forward, Finish}
use Rattle.bridge_relay.specs.declared.entry.BridgeEntry.TheVariants.{Back, Gone}
use Rattle.bridge_relay.specs.Laws.{is_by}
use Rattle.bridge_relay.specs.Legal.{IsOpenEnd}
use Rattle.tied_lists.specs.Own.{Adds, is_of}
use Rattle.tied_lists.specs.Waits.{Holds, IsFree, IsOnRing}
use Rattle.tied_lists.proofs.Boxes.{each-map}
use Rattle.tied_lists.proofs.Growth.{adds-grew}
use Rattle.comm_port.specs.Giving.{IsAtRest, MaySend, due_calls, is_chosen}
use Rattle.comm_port.specs.Giving.{part_at}
use Rattle.comm_port.specs.HoldTurn.{overdue}
use Rattle.comm_port.specs.Order.{IsServing}
use Rattle.comm_port.specs.Parts.{InOrder, PartOf}
use Rattle.comm_port.specs.Sides.{RingSideIs}
use Rattle.comm_port.proofs.Leaves.{overdue-is}
use Rattle.comm_port.proofs.Through.{NoAsks, serving-keeps, through}
use Rattle.bridge_port.specs.EndParts.{ArePosted, BacksAll, EndGivesUp, EndSendsAll, IsBackEntry}
use Rattle.bridge_port.specs.EndParts.{post_of}
use Rattle.bridge_port.specs.EndTurns.{EndTies, EndTurning}
use Rattle.bridge_port.specs.Sides.{BridgeSideIs}

pub plan-as : {P : Type 0} (T : BridgePlan → Type 0) (bridge bridge' : BridgeSideIs P)
    → bridge' ≡ bridge → T bridge'.plan → T bridge.plan
plan-as {P} T bridge bridge' same it = subst (λ (s : BridgeSideIs P). T s.plan) same it

-- an end that has not left, whose node holds the token
pub turning-ties : {P Q : Type 0} (n : ℕ) (bridge : BridgeSideIs P) (list : List BridgeEntry)
    (side : RingSideIs Q) (ring : List RingEntry) → IsOpenEnd bridge.plan list n
    → Holds side.net ring n → EndTies n bridge list side ring → EndTurning n bridge list side ring
turning-ties n bridge list side ring open-end holds t = record {
  serves = t.serves_bridge;
  is_open = open-end;
  legal = t.legal;
  own_turn = record { serves = t.serves_ring; on = t.on; free = inl holds };
  tied = t.tied;
  paths = t.paths;
}

-- ---- before requests are sent on

-- the Replies that were given back
backs-sort : (n : ℕ) (noted : List BridgeEntry) → Each IsBackEntry noted
    → Each (IsServing n) (filter_map (post_of n) noted)
backs-sort n [] all = tt
backs-sort n (Back side id reply ∷ noted) all = (refl, backs-sort n noted all.1)
backs-sort n (Accept side id route request ∷ noted) all = absurd all.0
backs-sort n (Forward side old id route request ∷ noted) all = absurd all.0
backs-sort n (Finish side id result ∷ noted) all = absurd all.0
backs-sort n (Gone side ∷ noted) all = absurd all.0

backs-adds : (alone alone' : Bool) (n : ℕ) (list list' : List BridgeEntry)
    (ring ring' : List RingEntry)
    → PartOf alone alone' (is_by n) n (ArePosted IsBackEntry n) list list' ring ring'
    → Adds alone' (is_of n) (IsServing n) ring ring'
backs-adds alone alone' n list list' ring ring' p =
    adds-grew alone' (is_of n) (IsServing n) ring p.done ring'
    (subst (Each (IsServing n)) (sym p.due.1) (backs-sort n p.noted p.due.0)) p.node

none-chosen : (p : ℕ) → is_chosen (replicate path_places false) p ≡ false
none-chosen zero = refl
none-chosen (suc zero) = refl
none-chosen (suc (suc zero)) = refl
none-chosen (suc (suc (suc zero))) = refl
none-chosen (suc (suc (suc (suc zero)))) = refl
none-chosen (suc (suc (suc (suc (suc p))))) = refl

none-may : (net : NetPlan) (n : ℕ) (c : NodeIs) → NoAsks c
    → MaySend net n (replicate path_places false) c
none-may net n c q = record {
  none_failed = q.0;
  young = λ p on. absurd (let bad : false ≡ true = sym (none-chosen p) ∙ on in cc);
  asks = each-map (λ (f : Frame). f.kind ≡ Reply)
      (λ (f : Frame). f.kind ≡ Request
      → is_chosen (replicate path_places false) f.id.path ≡ true) c.outbox
      (λ f reply ask. let bad : Reply ≡ Request = sym reply ∙ ask in absurd cc) q.1;
}

-- what was served and given back leaves nothing that was posted but Replies
pub may-forward : (alone alone' : Bool) (net : NetPlan) (n : ℕ) (plan : BridgePlan)
    (list list' : List BridgeEntry) (ring served backed : List RingEntry) → IsAtRest net n ring
    → IsOnRing net ring n → IsFree net ring n → Adds alone' (is_of n) (IsServing n) ring served
    → IsOnRing net served n → IsFree net served n
    → BacksAll alone alone' plan n list list' served backed → IsLegalRing net backed
    → MaySend net n (replicate path_places false) (part_at net n backed)
may-forward alone alone' net n plan list list' ring served backed rest on free one on' free' two
    legal =
    let start : NoAsks (part_at net n ring) =
    (rest.none_failed, subst (Each (λ (f : Frame). f.kind ≡ Reply)) (sym rest.all_sent) tt) in
    let q = through alone' net n (IsServing n) NoAsks ring served (serving-keeps net n) on
    on'.legal free one start in
    none-may net n (part_at net n backed)
    (through alone' net n (IsServing n) NoAsks served backed (serving-keeps net n) on' legal free'
    (backs-adds alone alone' n list list' served backed two.part) q)

-- ---- behind the Sends

pub rest-sent : (alone alone' : Bool) (net : NetPlan) (n : ℕ) (list list' : List BridgeEntry)
    (ring ring' : List RingEntry) → EndSendsAll alone alone' net n list list' ring ring'
    → IsAtRest net n ring'
rest-sent alone alone' net n list list' ring ring' s = record {
  all_sent = s.frames.all_sent;
  none_failed = s.frames.none_failed;
}

pub given-over : (alone alone' : Bool) (net : NetPlan) (n : ℕ) (list list' : List BridgeEntry)
    (ring ring' : List RingEntry) → Holds net ring n → IsAtRest net n ring
    → PartOf alone alone' (is_by n) n
    (InOrder (EndGivesUp n) (due_calls net n ring network_paths)) list list' ring ring'
    → PartOf alone alone' (is_by n) n (InOrder (EndGivesUp n) (overdue net n ring)) list list' ring
    ring'
given-over alone alone' net n list list' ring ring' holds rest p =
    subst (λ (l : List CallId).
    PartOf alone alone' (is_by n) n (InOrder (EndGivesUp n) l) list list' ring ring')
    (overdue-is net n ring holds.here rest.none_failed) p
