-- Names in legal lists.
use Rattle.std.proofs.Common.{◌≡◌, ◌≢◌, ℕ, List, [], ◌∷◌, ◌++◌, map, fold, sym, subst}
use Rattle.std.specs.List.{AllByRecursion as Each}
use Rattle.plant_types.specs.declared.net.NetPlan.{NetPlan}
use Rattle.ring_core.specs.declared.frame.Frame.{Frame}
use Rattle.ring_core.specs.declared.frame.FrameKind.{FrameKind}
use Rattle.ring_core.specs.declared.frame.FrameKind.TheVariants.{Request, Reply}
use Rattle.ring_core.specs.declared.entry.RingEntry.{RingEntry}
use Rattle.ring_core.specs.declared.path.Path.{Path}
use Rattle.mstr_block.specs.declared.call.CallId.{CallId}
use Rattle.controller_core.specs.declared.call.Call.{Call}
use Rattle.controller_core.specs.declared.entry.Entry.{Entry}
use Rattle.controller_core.specs.declared.entry.Entry.TheVariants as entries
use Rattle.controller_core.specs.declared.fixed.Fixed.{Fixed}
use Rattle.controller_core.specs.Replay.{ControllerState, apply, start}
use Rattle.controller_core.specs.Controller.{EachFits, Fits, IsLegal}
use Rattle.controller_core.proofs.NextEntry.{front_legal}
use Rattle.tied_lists.specs.Items.{Called, Ended}
use Rattle.tied_lists.specs.Calls.{AreNewCalls}
use Rattle.tied_lists.specs.Waits.{IsOnRing}
use Rattle.tied_lists.proofs.Boxes.{CameOn, HasCome}
use Rattle.tied_lists.proofs.Histories.{legal-follows}
use Rattle.comm_port.specs.JointHistory.{called_of, items_of}
use Rattle.comm_port.specs.HoldTurn.{inbox_of}
use Rattle.comm_port.proofs.JointHistory.{collected-new, CallLaws}
use Rattle.time_laws.specs.Laws.{TurnsStayInTime, VisitsStayInTime, HostTurnsStayInTime}
use Rattle.time_laws.proofs.Turn.{IsForeign, NamesOwn, turn-in-time, visit-in-time}
use Rattle.time_laws.proofs.HostTurn.{each-of, host-in-time}

-- what came is nobody's own Request
came-foreign : (n : ℕ) (ps : List Path) (kind : FrameKind) (id : CallId) → CameOn n ps kind id
    → kind ≡ Request → id.node ≢ n
came-foreign n ps Request id is k = is
came-foreign n ps Reply id is k = absurd (cc)

each-foreign : (n : ℕ) (ps : List Path) (box : List Frame) → Each (HasCome n ps) box
    → Each (IsForeign n) box
each-foreign n ps [] is = tt
each-foreign n ps (f ∷ box) is =
    (λ k. came-foreign n ps f.kind f.id is.0 k, each-foreign n ps box is.1)

inbox-foreign : (net : NetPlan) (n : ℕ) (ring : List RingEntry) → IsOnRing net ring n
    → Each (IsForeign n) (inbox_of net n ring)
inbox-foreign net n ring on =
    each-foreign n _ (inbox_of net n ring) (legal-follows net ring n on).node.part.comes

-- a controller collects its own calls
fits-at : (f : Fixed) (s : ControllerState) (before after : List Entry) (e : Entry)
    → EachFits f s (before ++ e ∷ after)
    → Fits f (fold (apply f) s before) e
unfolding EachFits
fits-at f s [] after e is = is.0
fits-at f s (x ∷ before) after e is = fits-at f (apply f s x) before after e is.1

new-named : (n : ℕ) (earlier : List Called) (ends : List Ended) (cs : List Call)
    → AreNewCalls n earlier ends (map called_of cs)
    → Each (λ (call : Call). call.id.node ≡ n) cs
new-named n earlier ends [] is = tt
new-named n earlier ends (c ∷ cs) is =
    (is.0.own, new-named n (earlier ++ called_of c ∷ []) ends cs is.1)

named-at : CallLaws → (f : Fixed) (before after : List Entry) (e : Entry)
    → IsLegal f (before ++ e ∷ after) → NamesOwn f.plan.node e
named-at laws f before after (entries.Collect calls) legal =
    let fits = fits-at f (start f.plan) before after (entries.Collect calls) legal.each in
    let named = new-named f.plan.node (items_of before).calls (items_of before).ends _
    (collected-new laws f before (front_legal f before (entries.Collect calls ∷ after) legal)) in
    subst (λ (cs : List Call). Each (λ (call : Call). call.id.node ≡ f.plan.node) cs)
    (sym fits.1) named
named-at laws f before after entries.Begin legal = tt
named-at laws f before after (entries.Input row) legal = tt
named-at laws f before after (entries.Solve row) legal = tt
named-at laws f before after (entries.Output row words) legal = tt
named-at laws f before after entries.End legal = tt
named-at laws f before after entries.Fail legal = tt
named-at laws f before after entries.Dark legal = tt
named-at laws f before after (entries.Peer id request reply) legal = tt
named-at laws f before after (entries.Off id request) legal = tt
named-at laws f before after (entries.Finish id result) legal = tt

all-named : CallLaws → (f : Fixed) (h : List Entry) → IsLegal f h → Each (NamesOwn f.plan.node) h
all-named laws f h legal =
    each-of (NamesOwn f.plan.node) [] h
    (λ before after e is. named-at laws f before after e (subst (IsLegal f) is legal))

pub legal-turn : CallLaws → TurnsStayInTime
legal-turn laws alone_ram alone_ring fixed net n budget end known new_known ring new_ring node
    on legal t k =
    turn-in-time alone_ram alone_ring fixed net n budget end known new_known ring new_ring t
    (inbox-foreign net n ring on)
    (subst (λ (m : ℕ). Each (NamesOwn m) new_known) node (all-named laws fixed new_known legal)) k

pub legal-visit : CallLaws → VisitsStayInTime
legal-visit laws alone_ram alone_ring fixed net n known new_known ring new_ring node legal t k =
    visit-in-time alone_ram alone_ring fixed net n known new_known ring new_ring t
    (subst (λ (m : ℕ). Each (NamesOwn m) new_known) node (all-named laws fixed new_known legal)) k

pub legal-host : HostTurnsStayInTime
legal-host alone net n plan budget left list new_list ring new_ring on t k =
    host-in-time alone net n plan budget left list new_list ring new_ring t
    (inbox-foreign net n ring on) k
