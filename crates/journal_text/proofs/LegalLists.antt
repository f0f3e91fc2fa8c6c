-- Each legal joint history is plain.
use Rattle.std.proofs.Common.{◌≡◌, ◌≢◌, ℕ, zero, suc, ◌≤◌, ◌++◌, true, List, [], ◌∷◌, length, map}
use Rattle.std.proofs.Common.{is_some, refl, sym, ◌∙◌, subst, arith, append_assoc, inr}
use Rattle.std.specs.List.{All, AllZip, Contains, slice_get, slice_index_or}
use Rattle.std.specs.List.Sorted.{IsStrictlyIncreasing}
use Rattle.std.proofs.lemmas.Bool.{false≢true}
use Rattle.std.proofs.lemmas.List.Elements.{All-nil, All-cons, All-contains, All-head, All-tail}
use Rattle.std.proofs.lemmas.List.Elements.{Contains-get_or}
use Rattle.plant_types.specs.declared.net.NetPlan.{NetPlan}
use Rattle.plant_types.specs.declared.net.HostPlan.{HostPlan}
use Rattle.plant_types.specs.declared.net.BridgePlan.{BridgePlan}
use Rattle.plant_types.specs.declared.plan.ControllerPlan.{ControllerPlan}
use Rattle.plant_types.specs.declared.plan.Plant.{Plant}
use Rattle.plant_types.specs.Plans.{IsBridgeOf, IsHostPlan, IsNetOf, PassesTests}
use Rattle.mstr_block.specs.declared.call.CallId.{CallId}
use Rattle.mstr_block.specs.declared.call.MstrAsk.{MstrAsk}
use Rattle.mstr_block.specs.declared.call.MstrAsk.TheVariants.{Write, Read, LocalStats, ClearLocal}
use Rattle.mstr_block.specs.declared.call.MstrAsk.TheVariants.{PutGlobal, GetGlobal, RemoteStats}
use Rattle.mstr_block.specs.declared.call.MstrAsk.TheVariants.{ClearRemote}
use Rattle.mstr_block.specs.declared.call.MstrCall.{MstrCall}
use Rattle.mstr_block.specs.Table.{BlockTable, started_calls, has_untaken}
use Rattle.mstr_block.specs.Laws.{CallsAreTakenInOrder}
use Rattle.ring_core.specs.declared.frame.FrameKind.{FrameKind}
use Rattle.ring_core.specs.declared.frame.FrameKind.TheVariants.{Request, Reply}
use Rattle.ring_core.specs.declared.frame.Frame.{Frame}
use Rattle.ring_core.specs.declared.entry.RingEntry.{RingEntry}
use Rattle.ring_core.specs.declared.entry.RingEntry.TheVariants.{Post, Send, Take, Local, GiveUp}
use Rattle.ring_core.specs.declared.entry.RingEntry.TheVariants.{Pass, Leave, Join}
use Rattle.ring_core.specs.Legal.{IsFrom, IsLawful, IsRun}
use Rattle.ring_laws.specs.Once.{IsRingHistory, OnlyItsTarget, ReplyToItsCaller}
use Rattle.controller_core.specs.declared.call.Call.{Call}
use Rattle.controller_core.specs.declared.fixed.Fixed.{Fixed}
use Rattle.controller_core.specs.declared.entry.Entry.{Entry}
use Rattle.controller_core.specs.declared.entry.Entry.TheVariants as entries
use Rattle.controller_core.specs.Calls.{call_of, calls_of, kind_of}
use Rattle.controller_core.specs.Controller.{Fits, IsLegal}
use Rattle.controller_core.specs.Replay.{replay, table_of}
use Rattle.controller_core.proofs.NextEntry.{front_legal, fits_last}
use Rattle.host_port.specs.declared.entry.HostEntry.{HostEntry}
use Rattle.host_port.specs.declared.entry.HostEntry.TheVariants.{Ask, Answer, Served}
use Rattle.host_port.specs.Legal.{IsHostHistory}
use Rattle.host_port.proofs.Planned.{ask-planned}
use Rattle.tied_lists.specs.Calls.{AreNewCalls, FitsSort, LeadsAway}
use Rattle.tied_lists.specs.Items.{Called, Ended}
use Rattle.joint_history.specs.declared.joint.ControllerLog.{ControllerLog}
use Rattle.joint_history.specs.declared.joint.HostLog.{HostLog}
use Rattle.joint_history.specs.declared.joint.BridgeLog.{BridgeLog}
use Rattle.joint_history.specs.declared.joint.RingLog.{RingLog}
use Rattle.joint_history.specs.JointLaws.{IsLegalLog, IsLegalHostLog, IsLegalBridgeLog}
use Rattle.joint_history.specs.JointLaws.{IsLegalRingLog, fixed_of}
use Rattle.joint_history.specs.Reading.{called_of, controller_at, items_of, sort_of}
use Rattle.joint_history.proofs.Collected.{CallLaws, collected-new}
use Rattle.journal_lines.specs.Plain.{IsPlainCall, IsPlainEntry, IsPlainFrame, IsPlainGot}
use Rattle.journal_lines.specs.Plain.{IsPlainBridgeEntry, IsPlainHostEntry, IsPlainKind}
use Rattle.journal_lines.specs.Plain.{IsPlainRing}
use Rattle.journal_text.specs.Laws.{LegalIsPlain}
use Rattle.journal_text.proofs.ForwardRoutes.{plain_bridge}

-- what stations' lists have as nodes
same_nodes : {P L : Type 0} (R : P → L → Type 0) (plan_node : P → ℕ) (log_node : L → ℕ)
    → ((p : P) (l : L) → R p l → log_node l ≡ plan_node p)
    → (ps : List P) (ls : List L) → AllZip R ps ls → map log_node ls ≡ map plan_node ps
same_nodes R plan_node log_node same [] [] all = refl
same_nodes R plan_node log_node same [] (l ∷ ls) all = absurd all
same_nodes R plan_node log_node same (p ∷ ps) [] all = absurd all
same_nodes R plan_node log_node same (p ∷ ps) (l ∷ ls) all =
    λ i. same p l all.0 i ∷ same_nodes R plan_node log_node same ps ls all.1 i

-- what each log has by its plan, where the plans are sound, all logs have
each_log : {P L : Type 0} (I : P → Type 0) (R : P → L → Type 0) (Q : L → Type 0)
    → ((p : P) (l : L) → I p → R p l → Q l)
    → (ps : List P) (ls : List L) → All I ps → AllZip R ps ls → All Q ls
each_log I R Q each [] [] is all = All-nil Q
each_log I R Q each [] (l ∷ ls) is all = absurd all
each_log I R Q each (p ∷ ps) [] is all = absurd all
each_log I R Q each (p ∷ ps) (l ∷ ls) is all =
    All-cons Q l ls (each p l (All-head I p ps is) all.0)
    (each_log I R Q each ps ls (All-tail I p ps is) all.1)

-- a route that leads away has an address
some_route : (n : ℕ) (route : List ℕ) → LeadsAway n route → route ≢ []
some_route n [] away = absurd away
some_route n (to ∷ rest) away = λ none. cc

-- what is asked of the own port is asked for nobody else, and what is asked of others has a route
plain_ask : (n : ℕ) (earlier : List Called) (id : CallId) (ask : MstrAsk)
    → FitsSort n earlier id (sort_of (kind_of ask)) → IsPlainKind (kind_of ask)
plain_ask n earlier id (Write route start words) fits = some_route n route fits.0
plain_ask n earlier id (Read route start count) fits = some_route n route fits.0
plain_ask n earlier id LocalStats fits = tt
plain_ask n earlier id ClearLocal fits = tt
plain_ask n earlier id (PutGlobal words) fits = tt
plain_ask n earlier id (GetGlobal node count) fits = tt
plain_ask n earlier id (RemoteStats route) fits = some_route n route fits.0
plain_ask n earlier id (ClearRemote route) fits = some_route n route fits.0

plain_calls : (n : ℕ) (earlier : List Called) (ends : List Ended) (calls : List MstrCall)
    → AreNewCalls n earlier ends (map called_of (map call_of calls))
    → All IsPlainCall (map call_of calls)
plain_calls n earlier ends [] new k d within = absurd (omega arith)
plain_calls n earlier ends (c ∷ cs) new zero d within =
    plain_ask n earlier c.id c.ask new.0.fits
plain_calls n earlier ends (c ∷ cs) new (suc k) d within =
    plain_calls n (earlier ++ called_of (call_of c) ∷ []) ends cs new.1 k d (omega arith)

-- where a call was started there is one to hand on
nothing_started : (calls : List MstrCall) → map call_of calls ≡ []
    → is_some (slice_get calls 0) ≡ true → ⊥
nothing_started [] none some = false≢true some
nothing_started (c ∷ cs) none some = absurd (cc)

some_calls : CallsAreTakenInOrder → (table : BlockTable) → has_untaken table ≡ true
    → calls_of table ≢ []
some_calls order table started none =
    nothing_started (started_calls table) none (sym (order table).any ∙ started)

-- an entry that fits behind a legal list is plain, and so is each of a legal list
plain_entry : CallLaws → (fixed : Fixed) (past : List Entry) (entry : Entry)
    → IsLegal fixed past → Fits fixed (replay fixed past) entry → IsPlainEntry entry
plain_entry laws fixed past entries.Begin legal fits = tt
plain_entry laws fixed past (entries.Input row) legal fits = tt
plain_entry laws fixed past (entries.Solve row) legal fits = tt
plain_entry laws fixed past (entries.Output row words) legal fits = tt
plain_entry laws fixed past entries.End legal fits = tt
plain_entry laws fixed past entries.Fail legal fits = tt
plain_entry laws fixed past entries.Dark legal fits = tt
plain_entry laws fixed past (entries.Collect calls) legal fits =
    let table = table_of (replay fixed past) in
    subst (λ (cs : List Call). (cs ≢ []) × All IsPlainCall cs) (sym fits.1) (
      some_calls laws.taking table fits.0,
      plain_calls fixed.plan.node (items_of past).calls (items_of past).ends
          (started_calls table) (collected-new laws fixed past legal),
    )
plain_entry laws fixed past (entries.Peer id request reply) legal fits = tt
plain_entry laws fixed past (entries.Off id request) legal fits = tt
plain_entry laws fixed past (entries.Finish id result) legal fits = tt

plain_entries : CallLaws → (fixed : Fixed) (past list : List Entry)
    → IsLegal fixed (past ++ list) → All IsPlainEntry list
plain_entries laws fixed past [] legal k d within = absurd (omega arith)
plain_entries laws fixed past (e ∷ es) legal zero d within =
    let whole = subst (IsLegal fixed) (sym (append_assoc past (e ∷ []) es)) legal in
    plain_entry laws fixed past e (front_legal fixed past (e ∷ es) legal)
    (fits_last (controller_at fixed past) e (front_legal fixed (past ++ e ∷ []) es whole))
plain_entries laws fixed past (e ∷ es) legal (suc k) d within =
    plain_entries laws fixed (past ++ e ∷ []) es
    (subst (IsLegal fixed) (sym (append_assoc past (e ∷ []) es)) legal) k d (omega arith)

-- what a host asks has the route that its plan has
some_addresses : (route : List ℕ) → 1 ≤ length route → route ≢ []
some_addresses [] some = absurd (omega (arith, some))
some_addresses (to ∷ rest) some = λ none. cc

plain_asks : (plan : HostPlan) (list : List HostEntry) → IsHostPlan plan
    → IsHostHistory plan list → All IsPlainHostEntry list
plain_asks plan list is legal k d within =
    of (slice_index_or list k d) (Contains-get_or list k d within)
  where
    of : (entry : HostEntry) → Contains list entry → IsPlainHostEntry entry
    of (Ask id route pdu) there =
        let planned = ask-planned plan list id route pdu is legal there in
        some_addresses route planned.some
    of (Answer id result) there = tt
    of (Served id request reply) there = tt

-- each entry of a legal history of a ring is lawful
lawful : (net : NetPlan) (past list : List RingEntry) → IsRun net past list
    → All (IsLawful net) list
lawful net past [] run k d within = absurd (omega arith)
lawful net past (e ∷ es) run zero d within = run.0.0
lawful net past (e ∷ es) run (suc k) d within =
    lawful net (past ++ e ∷ []) es run.1 k d (omega arith)

plain_frame : (n : ℕ) (kind : FrameKind) (f : Frame) → IsFrom n kind f → IsPlainFrame kind f
plain_frame n Request f from = tt
plain_frame n Reply f from = (from.0, from.2)

-- a Reply that was posted goes no further
posted_end : (net : NetPlan) (history : List RingEntry) (m : ℕ) (f : Frame)
    → IsRingHistory net history → Contains history (Post m f) → f.kind ≡ Reply → f.rest ≡ []
posted_end net history m f is there kind =
    let law =
    All-contains (IsLawful net) history (Post m f) (lawful net [] history is.legal) there in
    (subst (λ (k : FrameKind). IsFrom m k f) kind law.1).2

plain_got : (net : NetPlan) (history : List RingEntry) (n : ℕ) (f : Frame) (kind : FrameKind)
    → OnlyItsTarget → ReplyToItsCaller → IsRingHistory net history
    → Contains history (Take n f) → f.kind ≡ kind → IsPlainGot n kind f
plain_got net history n f Request target caller is there kind =
    (target net history n f is (inr there) kind).0
plain_got net history n f Reply target caller is there kind =
    let facts = caller net history n f is (inr there) kind in
    (facts.0 ∙ sym facts.1, posted_end net history facts.3.0 f is facts.3.2 kind)

plain_ring : (net : NetPlan) (history : List RingEntry) (e : RingEntry) → OnlyItsTarget
    → ReplyToItsCaller → IsRingHistory net history
    → Contains history e → IsLawful net e → IsPlainRing e
plain_ring net history (Post n f) target caller is there law = plain_frame n f.kind f law.1
plain_ring net history (Send n heard) target caller is there law = tt
plain_ring net history (Take n f) target caller is there law =
    plain_got net history n f f.kind target caller is there refl
plain_ring net history (Local n id op result) target caller is there law = tt
plain_ring net history (GiveUp id word) target caller is there law = tt
plain_ring net history (Pass n done words) target caller is there law = tt
plain_ring net history (Leave n cause) target caller is there law = tt
plain_ring net history (Join n) target caller is there law = tt

plain_entries_of_ring : OnlyItsTarget → ReplyToItsCaller → (plant : Plant) (net : NetPlan)
    (log : RingLog) → IsNetOf plant net → IsLegalRingLog net log → All IsPlainRing log.entries
plain_entries_of_ring target caller plant net log of legal =
    let ring = log.entries in
    let history : IsRingHistory net ring = record {
      members = λ k d within.
          (let node = of.plan.members.each k d within in let most = node.to in omega arith);
      legal = legal.1;
    } in
    λ k d within. plain_ring net ring (slice_index_or ring k d) target caller history
    (Contains-get_or ring k d within) (lawful net [] ring legal.1 k d within)

pub legal-is_plain : CallLaws → OnlyItsTarget → ReplyToItsCaller → LegalIsPlain
legal-is_plain laws target caller plant scans joint is legal = record {
  controllers = subst IsStrictlyIncreasing (sym (same_nodes (IsLegalLog plant scans)
      (λ (p : ControllerPlan). p.node) (λ (l : ControllerLog). l.node)
      (λ p l r. r.0) plant.controllers joint.controllers legal.controllers))
      is.controllers_rise;
  hosts = subst IsStrictlyIncreasing
      (sym (same_nodes IsLegalHostLog (λ (p : HostPlan). p.node) (λ (l : HostLog). l.node)
      (λ p l r. r.0) plant.hosts joint.hosts legal.hosts)) is.hosts_rise;
  bridges = subst IsStrictlyIncreasing
      (sym (same_nodes IsLegalBridgeLog (λ (p : BridgePlan). p.left)
      (λ (l : BridgeLog). l.left) (λ p l r. r.0) plant.bridges joint.bridges legal.bridges))
      is.bridges_rise;
  rings = subst IsStrictlyIncreasing
      (sym (same_nodes IsLegalRingLog (λ (p : NetPlan). p.number)
      (λ (l : RingLog). l.network) (λ p l r. r.0) plant.nets joint.rings legal.rings))
      is.nets_rise;
  entries = each_log PassesTests (IsLegalLog plant scans)
      (λ (l : ControllerLog). All IsPlainEntry l.entries)
      (λ p l sound r. plain_entries laws (fixed_of plant scans p) [] l.entries r.1)
      plant.controllers joint.controllers is.controllers legal.controllers;
  asks = each_log IsHostPlan IsLegalHostLog (λ (l : HostLog). All IsPlainHostEntry l.entries)
      (λ p l sound r. plain_asks p l.entries sound r.1)
      plant.hosts joint.hosts is.hosts legal.hosts;
  forwards = each_log (IsBridgeOf plant) IsLegalBridgeLog
      (λ (l : BridgeLog). All IsPlainBridgeEntry l.entries)
      (λ p l sound r. plain_bridge p l.entries r.2)
      plant.bridges joint.bridges is.bridges legal.bridges;
  frames = each_log (IsNetOf plant) IsLegalRingLog
      (λ (l : RingLog). All IsPlainRing l.entries)
      (plain_entries_of_ring target caller plant)
      plant.nets joint.rings is.nets legal.rings;
}
