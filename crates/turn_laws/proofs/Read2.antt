-- A read of two registers, as its journal tells it, is complete: both nodes left, each replied
-- before it passed the token on and went on saying that it was done, and the call ended once.
use Rattle.std.proofs.Common.{◌≡◌, ℕ, zero, suc, true, false, List, [], ◌∷◌, ◌++◌, length, inl}
use Rattle.std.proofs.Common.{inr, refl, arith, sym, ap, ◌∙◌, subst, append_assoc, set, take, drop}
use Rattle.std.proofs.Common.{Option, Some}
use Rattle.mstr_block.specs.declared.call.CallId.{CallId}
use Rattle.mstr_block.specs.declared.call.MstrResult.TheVariants.{Good}
use Rattle.plant_types.specs.declared.net.Fate.TheVariants.{D}
use Rattle.plant_types.specs.declared.net.NetPlan.{NetPlan}
use Rattle.plant_types.specs.declared.plan.ControllerPlan.{ControllerPlan}
use Rattle.plant_types.specs.declared.plan.Plant.{Plant}
use Rattle.ring_core.specs.declared.entry.RingEntry.{RingEntry}
use Rattle.ring_core.specs.declared.entry.RingEntry.TheVariants.{Post, Send, Take, Pass, Leave}
use Rattle.ring_core.specs.declared.entry.Heard.TheVariants.{Acked}
use Rattle.ring_core.specs.declared.entry.LeaveCause.TheVariants.{Ended}
use Rattle.ring_core.specs.declared.frame.FrameKind.{FrameKind}
use Rattle.ring_core.specs.declared.frame.FrameKind.TheVariants.{Request, Reply}
use Rattle.ring_core.specs.declared.frame.Frame.{Frame}
use Rattle.ring_core.specs.declared.status.NodeStatus.TheVariants.{Asking, Gone}
use Rattle.ring_core.specs.Machine.{NodeIs, RingIs, admitted, gone_by, opening, part_of}
use Rattle.ring_core.specs.Machine.{ring_after, ring_node}
use Rattle.ring_core.specs.Stability.{NoLeaveOrJoin}
use Rattle.ring_core.proofs.Runs.{after_all-push}
use Rattle.ring_core.proofs.Stability.{admitted-part, membership-stays}
use Rattle.controller_core.specs.declared.call.CallKind.TheVariants.{Net}
use Rattle.controller_core.specs.declared.entry.Entry.{Entry}
use Rattle.controller_core.specs.declared.entry.Entry.TheVariants.{Begin, Solve, End, Collect, Peer}
use Rattle.controller_core.specs.declared.entry.Entry.TheVariants.{Finish}
use Rattle.tied_lists.specs.Items.{due_replies, replied_by, taken_by}
use Rattle.tied_lists.specs.Own.{own}
use Rattle.tied_lists.specs.Waits.{status_at}
use Rattle.joint_history.specs.declared.joint.ControllerLog.{ControllerLog}
use Rattle.joint_history.specs.declared.joint.Joint.{Joint}
use Rattle.joint_history.specs.Complete.{EndsEachCall, IsComplete, StaysDone}
use Rattle.joint_history.specs.Complete.{NodeIsComplete, StandsIn, is_pass}
use Rattle.joint_history.specs.Reading.{items_of}
use Rattle.joint_history.proofs.OneRing.{ring_log}
use Rattle.turn_laws.specs.KeepsOn.{SaidDone}
use Rattle.turn_laws.proofs.Passes.{RepliesIn, nil-cons, none-said, replies-push, said-push}
use Rattle.turn_laws.proofs.Passes.{stays-push}
use Rattle.turn_laws.proofs.Others.{no-stays}

-- ---- the journal

abbrev id : CallId
id = record { node = 2; path = 1; seq = 1 }

abbrev reads : List ℕ
reads = 3 ∷ 0 ∷ 0 ∷ 0 ∷ 2 ∷ []

abbrev tells : List ℕ
tells = 3 ∷ 4 ∷ 0 ∷ 42 ∷ 0 ∷ 43 ∷ []

abbrev frame : FrameKind → ℕ → List ℕ → Frame
frame kind to pdu = record { kind = kind; to = to; rest = []; id = id; pdu = pdu }

abbrev reader : List Entry
reader =
    Begin ∷ Solve 1 ∷ End ∷ Collect (record { id = id; kind = Net (5 ∷ []) reads } ∷ [])
    ∷ Finish id (Good (42 ∷ 43 ∷ [])) ∷ Begin ∷ Solve 1 ∷ End ∷ []

abbrev target : List Entry
target = Begin ∷ Solve 1 ∷ End ∷ Peer id reads tells ∷ Begin ∷ Solve 1 ∷ End ∷ []

abbrev ring : List RingEntry
ring =
    Post 2 (frame Request 5 reads) ∷ Send 2 Acked ∷ Pass 2 false [] ∷ Take 5 (frame Request 5 reads)
    ∷ Post 5 (frame Reply 2 tells) ∷ Send 5 Acked ∷ Pass 5 false [] ∷ Take 2 (frame Reply 2 tells)
    ∷ Pass 2 false [] ∷ Pass 5 false [] ∷ Pass 2 true [] ∷ Pass 5 true [] ∷ Leave 2 Ended
    ∷ Leave 5 Ended ∷ []

abbrev both : List ControllerLog
both = record { node = 2; entries = reader } ∷ record { node = 5; entries = target } ∷ []

-- ---- own lists

module _ (peers : List (Option (List ℕ))) where
  record Front (b : List RingEntry) : Type 0 where
    replied : RepliesIn peers [] b
    stays : StaysDone b
    none : SaidDone b → ⊥

  none-replied : RepliesIn peers [] []
  none-replied [] after n done words is = nil-cons is
  none-replied (x ∷ before) after n done words is = nil-cons is

  first : Front []
  first = record { replied = none-replied; stays = no-stays; none = none-said }

  next : (b : List RingEntry) (e : RingEntry)
      → (is_pass e ≡ true → length (replied_by b) ≡ length (due_replies (taken_by b) peers []))
      → ((n : ℕ) (words : List ℕ) → e ≡ Pass n true words → ⊥) → Front b → Front (b ++ e ∷ [])
  next b e replies other f = record {
    replied = replies-push peers [] b e f.replied replies;
    stays = stays-push b e f.stays (λ s. absurd (f.none s));
    none = λ s. elim (said-push b e s) [
      | inl before ↦ f.none before
      | inr now ↦ other now.0 now.1 now.2
    ];
  }

  -- a front with a Pass that says done, and a Leave
  record Whole (b : List RingEntry) : Type 0 where
    replied : RepliesIn peers [] b
    stays : StaysDone b

  whole : (n : ℕ) (b : List RingEntry)
      → length (replied_by b) ≡ length (due_replies (taken_by b) peers []) → Front b
      → Whole ((b ++ Pass n true [] ∷ []) ++ Leave n Ended ∷ [])
  whole n b same f = record {
    replied = replies-push peers [] (b ++ Pass n true [] ∷ []) (Leave n Ended)
        (replies-push peers [] b (Pass n true []) f.replied (λ is. same))
        (λ is. absurd (let no' : false ≡ true = is in cc));
    stays = stays-push (b ++ Pass n true [] ∷ []) (Leave n Ended)
        (stays-push b (Pass n true []) f.stays (λ s. refl)) (λ s. tt);
  }

abbrev asks : RingEntry
asks = Post 2 (frame Request 5 reads)

abbrev comes : RingEntry
comes = Take 2 (frame Reply 2 tells)

two : Whole [] (own 2 ring)
two =
    whole [] 2 (asks ∷ Send 2 Acked ∷ Pass 2 false [] ∷ comes ∷ Pass 2 false [] ∷ []) refl
    (next [] (asks ∷ Send 2 Acked ∷ Pass 2 false [] ∷ comes ∷ []) (Pass 2 false []) (λ is. refl)
    (λ n words is. cc)
    (next [] (asks ∷ Send 2 Acked ∷ Pass 2 false [] ∷ []) comes (λ is. refl) (λ n words is. cc)
    (next [] (asks ∷ Send 2 Acked ∷ []) (Pass 2 false []) (λ is. refl) (λ n words is. cc)
    (next [] (asks ∷ []) (Send 2 Acked) (λ is. refl) (λ n words is. cc)
    (next [] [] asks (λ is. refl) (λ n words is. cc) (first []))))))

abbrev told : List (Option (List ℕ))
told = Some tells ∷ []

abbrev taken : RingEntry
taken = Take 5 (frame Request 5 reads)

abbrev answers : RingEntry
answers = Post 5 (frame Reply 2 tells)

five : Whole told (own 5 ring)
five =
    whole told 5 (taken ∷ answers ∷ Send 5 Acked ∷ Pass 5 false [] ∷ Pass 5 false [] ∷ []) refl
    (next told (taken ∷ answers ∷ Send 5 Acked ∷ Pass 5 false [] ∷ []) (Pass 5 false [])
    (λ is. refl)
    (λ n words is. cc)
    (next told (taken ∷ answers ∷ Send 5 Acked ∷ []) (Pass 5 false []) (λ is. refl)
    (λ n words is. cc)
    (next told (taken ∷ answers ∷ []) (Send 5 Acked) (λ is. refl) (λ n words is. cc)
    (next told (taken ∷ []) answers (λ is. absurd (let no' : false ≡ true = is in cc))
    (λ n words is. cc)
    (next told [] taken (λ is. refl) (λ n words is. cc) (first told))))))

-- ---- who has left

-- the part that a Leave writes is that of a node that is gone
gone-part : (nodes : List NodeIs) (n : ℕ)
    → (admitted (part_of (set nodes n (gone_by Ended (part_of nodes n))) n)).status ≡ Gone
gone-part [] n = refl
gone-part (c ∷ cs) zero = refl
gone-part (c ∷ cs) (suc n) = gone-part cs n

-- a node whose last Leave stands in a history is gone
has-gone : (net : NetPlan) (history before more : List RingEntry) (n : ℕ)
    → StandsIn history before (Leave n Ended) more → NoLeaveOrJoin n more
    → status_at net history n ≡ Gone
has-gone net history before more n stands none =
    let r = ring_after net before in
    let left : status_at net (before ++ Leave n Ended ∷ []) n ≡ Gone =
    ap (λ (r : RingIs). (ring_node r n).status)
    (after_all-push net (opening net) before (Leave n Ended))
    ∙ ap (λ (c : NodeIs). c.status)
    (admitted-part (set r.nodes n (gone_by Ended (ring_node r n))) n)
    ∙ gone-part r.nodes n in
    subst (λ (l : List RingEntry). status_at net l n ≡ Gone)
    (append_assoc before (Leave n Ended ∷ []) more ∙ sym stands)
    (membership-stays net (before ++ Leave n Ended ∷ []) more n
    (λ asks. let no' : Gone ≡ Asking = sym left ∙ asks in absurd cc) none ∙ left)

-- ---- the run

-- plans whose blocks start nothing that was not collected
abbrev plan : ℕ → ControllerPlan
plan node = record {
  node = node;
  network = 0;
  coils = 0;
  inputs = 0;
  input_registers = 0;
  registers = 0;
  panel = [];
  orders = [];
  power = [];
  drops = [];
  segments = [];
}

abbrev net : NetPlan
net = record {
  number = 0;
  members = 2 ∷ 5 ∷ [];
  bridges = [];
  fates = D ∷ [];
  answer = 4;
  rotations = 1;
  rounds = 1;
  holds = 100;
}

abbrev plant : Plant
plant = record {
  scan_time = 1;
  watchdog = 100;
  nets = net ∷ [];
  controllers = plan 2 ∷ plan 5 ∷ [];
  hosts = [];
  bridges = [];
}

reader-ended : EndsEachCall (items_of reader)
reader-ended zero d within = refl
reader-ended (suc k) d within = absurd (omega (arith, within))

target-ended : EndsEachCall (items_of target)
target-ended k d within = absurd (omega (arith, within))

two-gone : status_at net ring 2 ≡ Gone
two-gone = has-gone net ring (take 12 ring) (drop 13 ring) 2 refl
    ((λ is. let apart : 5 ≡ 2 = is in omega (arith, apart)), tt)

two-complete : NodeIsComplete (items_of reader) (own 2 ring)
two-complete = record { replied = two.replied; done = two.stays; noticed = λ m c. refl }

five-gone : status_at net ring 5 ≡ Gone
five-gone = has-gone net ring (take 13 ring) (drop 14 ring) 5 refl tt

five-complete : NodeIsComplete (items_of target) (own 5 ring)
five-complete = record { replied = five.replied; done = five.stays; noticed = λ m c. refl }

abbrev joint : Joint
joint = record {
  controllers = both;
  hosts = [];
  bridges = [];
  rings = ring_log net ring ∷ [];
}

run-complete : IsComplete plant 2 joint
run-complete = record {
  controllers = (
    (
      record { scans = inl refl; collected = refl; finished = reader-ended },
      inl two-gone,
      two-complete,
    ),
    (
      (
        record { scans = inl refl; collected = refl; finished = target-ended },
        inl five-gone,
        five-complete,
      ),
      tt,
    ),
  );
  hosts = tt;
  bridges = tt;
}
