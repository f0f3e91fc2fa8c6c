-- On one network a host asks a controller for an echo, and then for what it doesn't serve, as a
-- legal joint history tells it. The first call reports success; each took effect once.
use Rattle.std.proofs.Common.{◌≡◌, ℕ, ◌+◌, true, false, List, [], ◌∷◌, ◌++◌, refl, inl, inr, take}
use Rattle.std.proofs.Common.{drop, set, nat_le, Option, Some, unwrap_or, sym, ap, ◌∙◌, Contains}
use Rattle.std.proofs.Common.{subst, arith}
use Rattle.std.proofs.lemmas.Bool.{cond_both}
use Rattle.std.specs.FinMap.{empty, get-empty, get-insert}
use Rattle.std.specs.Prelude.{nat_eq}
use Rattle.std.specs.List.{IsDistinct}
use Rattle.std.proofs.lemmas.List.Elements.{All-from_recursion}
use Rattle.std.proofs.lemmas.List.Sorted.{IsPermutation-refl}
use Rattle.plant_types.specs.declared.net.Fate.TheVariants.{D}
use Rattle.plant_types.specs.declared.net.NetPlan.{NetPlan}
use Rattle.plant_types.specs.declared.net.HostPlan.{HostPlan}
use Rattle.plant_types.specs.declared.plan.ControllerPlan.{ControllerPlan}
use Rattle.plant_types.specs.declared.plan.Plant.{Plant}
use Rattle.plant_types.specs.FirstFault.{tests_behind}
use Rattle.plant_types.specs.Plans.{IsPlant, IsNetPlan, IsHostPlan, IsAskOf, IsNode, PassesTests}
use Rattle.plant_types.specs.Plans.{IsBridgeOf, IsNetOf, net_numbers}
use Rattle.mstr_block.specs.declared.call.CallId.{CallId}
use Rattle.ring_core.specs.declared.frame.FrameKind.{FrameKind}
use Rattle.ring_core.specs.declared.frame.FrameKind.TheVariants.{Request, Reply}
use Rattle.ring_core.specs.declared.frame.Frame.{Frame}
use Rattle.ring_core.specs.declared.entry.Heard.TheVariants.{Acked}
use Rattle.ring_core.specs.declared.entry.RingEntry.{RingEntry}
use Rattle.ring_core.specs.declared.entry.RingEntry.TheVariants.{Post, Send, Take, Pass}
use Rattle.ring_core.specs.Machine.{RingIs, source_of, source_cmp, accepted_of, accepting}
use Rattle.ring_core.specs.Machine.{ring_node, is_repeat, sent_off, heard_of, arrival, sent_with}
use Rattle.ring_core.specs.Machine.{after, opening, ring_after}
use Rattle.ring_core.specs.Legal.{IsLawful, IsTimelyEntry, IsRun, IsLegalRing}
use Rattle.ring_core.proofs.Runs.{after_all-push}
use Rattle.ring_core.proofs.Numbers.{sources_total}
use Rattle.controller_core.specs.declared.entry.Entry.{Entry}
use Rattle.controller_core.specs.declared.entry.Entry.TheVariants.{Peer}
use Rattle.controller_core.specs.Controller.{IsLegal, EachFits}
use Rattle.controller_core.specs.Scans.{all_due}
use Rattle.host_port.specs.declared.entry.HostEntry.{HostEntry}
use Rattle.host_port.specs.declared.entry.HostEntry.TheVariants.{Ask, Answer}
use Rattle.host_port.specs.declared.entry.HostResult.TheVariants as results
use Rattle.host_port.specs.Legal.{IsHostHistory}
use Rattle.host_port.proofs.Next.{may_of}
use Rattle.host_port.proofs.Keeping.{kept_new}
use Rattle.joint_history.specs.declared.joint.Joint.{Joint}
use Rattle.joint_history.specs.JointLaws.{IsJoint, IsLegalJoint, IsTiedController, IsTiedHost}
use Rattle.joint_history.specs.JointLaws.{IsTiedBridge, fixed_of}
use Rattle.effect_laws.specs.Success.{ReportsSuccess, is_exception_reply}
use Rattle.route_laws.specs.Own.{IsOwnAnswer}
use Rattle.route_laws.specs.Ways.{effects_on_way, names_on_way}
use Rattle.route_laws.proofs.Example.{node-from, none-rise, one-rises, two-rise}

-- ---- the plant

abbrev id : ℕ → CallId
id path = record { node = 5; path = path; seq = 1 }

abbrev echo : List ℕ
echo = 8 ∷ 0 ∷ 0 ∷ 18 ∷ 52 ∷ []

abbrev unknown : List ℕ
unknown = 99 ∷ []

abbrev refused : List ℕ
refused = 227 ∷ 1 ∷ []

abbrev controller : ControllerPlan
controller = record {
  node = 1;
  network = 0;
  coils = 16;
  inputs = 16;
  input_registers = 1;
  registers = 1;
  panel = [];
  orders = [];
  power = [];
  drops = [];
  segments = [];
}

abbrev to_one : List ℕ
to_one = 1 ∷ []

abbrev host : HostPlan
host = record {
  node = 5;
  network = 0;
  requests =
      record { hold = 1; route = to_one; pdu = echo }
      ∷ record { hold = 1; route = to_one; pdu = unknown } ∷ [];
}

abbrev net : NetPlan
net = record {
  number = 0;
  members = 1 ∷ 5 ∷ [];
  bridges = [];
  fates = D ∷ [];
  answer = 2;
  rotations = 1;
  rounds = 1;
  holds = 9;
}

abbrev plant : Plant
plant =
    record {
      scan_time = 10;
      watchdog = 1;
      nets = net ∷ [];
      controllers = controller ∷ [];
      hosts = host ∷ [];
      bridges = [];
    }

one : IsNode 1
one = node-from 1 (omega arith) (omega arith)

five : IsNode 5
five = node-from 5 (omega arith) (omega arith)

is-net : IsNetPlan net
is-net = record {
  members = record {
    some = omega arith;
    each = All-from_recursion IsNode net.members (one, (five, tt));
    rise = two-rise 1 5 (omega arith);
  };
  bridges = record {
    among = All-from_recursion (Contains net.members) [] tt;
    rise = none-rise;
  };
  fates = record { from = omega arith; to = omega arith };
  numbers = record {
    number = omega arith;
    answer = record { from = omega arith; to = omega arith };
    rotations = record { from = omega arith; to = omega arith };
    rounds = record { from = omega arith; to = omega arith };
    holds = record { from = omega arith; to = omega arith };
  };
}

asks-one : (pdu : List ℕ) → IsAskOf host (record { hold = 1; route = to_one; pdu = pdu })
asks-one pdu = record {
  hold = record { from = omega arith; to = omega arith };
  route = record {
    some = omega arith;
    nodes = All-from_recursion IsNode to_one (one, tt);
    other = λ e. (let same : ◌≡◌ {A = ℕ} 1 5 = cc in omega (arith, same));
    alone = λ _. refl;
  };
}

is-host : IsHostPlan host
is-host = record {
  node = five;
  few = omega arith;
  requests = All-from_recursion (IsAskOf host) host.requests
      (asks-one echo, (asks-one unknown, tt));
}

net-of : IsNetOf plant net
net-of = record {
  plan = is-net;
  some = omega arith;
  members = IsPermutation-refl (1 ∷ 5 ∷ []);
  bridges = IsPermutation-refl [];
}

differ : IsDistinct nat_eq (1 ∷ 5 ∷ [])
unfolding IsDistinct
differ = ((refl, tt), (tt, tt))

is-plant : IsPlant plant
unfolding tests_behind
is-plant = record {
  scan_time = record { from = omega arith; to = omega arith };
  watchdog = record { from = omega arith; to = omega arith };
  nets = All-from_recursion (IsNetOf plant) plant.nets (net-of, tt);
  nets_rise = one-rises 0;
  count = record { from = omega arith; to = omega arith };
  controllers = All-from_recursion PassesTests plant.controllers (refl, tt);
  controllers_there = All-from_recursion
      (λ (p : ControllerPlan). Contains (net_numbers plant) p.network) plant.controllers
      ((0, omega arith, refl), tt);
  controllers_rise = one-rises 1;
  few = omega arith;
  hosts = All-from_recursion IsHostPlan plant.hosts (is-host, tt);
  hosts_there = All-from_recursion (λ (h : HostPlan). Contains (net_numbers plant) h.network)
      plant.hosts ((0, omega arith, refl), tt);
  hosts_rise = one-rises 5;
  few_bridges = omega arith;
  bridges = All-from_recursion (IsBridgeOf plant) [] tt;
  bridges_rise = none-rise;
  once = differ;
}

-- ---- its history

abbrev frame : FrameKind → ℕ → ℕ → List ℕ → Frame
frame kind to path pdu = record { kind = kind; to = to; rest = []; id = id path; pdu = pdu }

abbrev asked : List HostEntry
asked = Ask (id 1) to_one echo ∷ Ask (id 2) to_one unknown ∷ []

abbrev answered : List HostEntry
answered = asked ++ Answer (id 1) (results.Reply echo) ∷ []

abbrev asker : List HostEntry
asker = answered ++ Answer (id 2) (results.Reply refused) ∷ []

abbrev target : List Entry
target = Peer (id 1) echo echo ∷ Peer (id 2) unknown refused ∷ []

abbrev ring : List RingEntry
ring =
    Pass 1 false []
    ∷ Post 5 (frame Request 1 1 echo)
    ∷ Post 5 (frame Request 1 2 unknown)
    ∷ Send 5 Acked
    ∷ Send 5 Acked
    ∷ Pass 5 false []
    ∷ Take 1 (frame Request 1 1 echo)
    ∷ Post 1 (frame Reply 5 1 echo)
    ∷ Take 1 (frame Request 1 2 unknown)
    ∷ Post 1 (frame Reply 5 2 refused)
    ∷ Send 1 Acked
    ∷ Send 1 Acked
    ∷ Pass 1 false []
    ∷ Take 5 (frame Reply 5 1 echo)
    ∷ Take 5 (frame Reply 5 2 refused) ∷ []

abbrev joint : Joint
joint = record {
  controllers = record { node = 1; entries = target } ∷ [];
  hosts = record { node = 5; entries = asker } ∷ [];
  bridges = [];
  rings = record { network = 0; entries = ring } ∷ [];
}

target-legal : IsLegal (fixed_of plant 1 controller) target
unfolding EachFits
target-legal =
    record {
      each = ((refl, refl), ((refl, refl), tt));
      due = (all_due (fixed_of plant 1 controller), refl);
    }

asker-legal : IsHostHistory host asker
asker-legal =
    let first = may_of (record { plan = host; history = [] }) (Ask (id 1) to_one echo)
    (kept_new host).legal (refl, refl) in
    let second = may_of (record { plan = host; history = Ask (id 1) to_one echo ∷ [] })
    (Ask (id 2) to_one unknown) first (refl, refl) in
    let third = may_of (record { plan = host; history = asked })
    (Answer (id 1) (results.Reply echo)) second refl in
    may_of (record { plan = host; history = answered }) (Answer (id 2) (results.Reply refused))
    third refl

-- The numbers that a node accepted are a map, which does not compute. So the ring after each Send
-- of a Request is told as one that accepted it, and lemmas show that it did.

-- From a ring on, entries are steps one after another.
abbrev AreSteps : RingIs → List RingEntry → List RingEntry → Type 0
AreSteps r past [] = Unit {0}
AreSteps r past (e ∷ es) =
    (IsLawful net e × IsTimelyEntry net past r e) × AreSteps (after net r e) (past ++ e ∷ []) es

-- from the ring after what was before, they are a run
are-run : (past es : List RingEntry) → AreSteps (ring_after net past) past es → IsRun net past es
are-run past [] steps = tt
are-run past (e ∷ es) steps = (
  steps.0,
  are-run (past ++ e ∷ []) es (subst (λ (r : RingIs). AreSteps r (past ++ e ∷ []) es)
      (sym (after_all-push net (opening net) past e)) steps.1),
)

-- The ring after node 5 sent a Request that node 1 accepts.
abbrev sent_to_one : RingIs → Frame → RingIs
sent_to_one r f =
    let target = ring_node r 1 in
    let accepts = record target {
      inbox = target.inbox ++ f ∷ [];
      accepted = accepting target.accepted f.id;
    } in
    let sender = ring_node r 5 in
    record {
      holder = r.holder;
      sent = r.sent + 1;
      nodes = set (set r.nodes 1 accepts) 5 (sent_off sender sender.paths);
    }

-- The ring after its first three entries, after the next Send, and after the one that follows it.
abbrev both-posted : RingIs
both-posted = ring_after net (take 3 ring)

abbrev one-sent : RingIs
one-sent = sent_to_one both-posted (frame Request 1 1 echo)

abbrev both-sent : RingIs
both-sent = sent_to_one one-sent (frame Request 1 2 unknown)

-- no number was accepted of the first path
none-of-one : accepted_of empty (id 1) ≡ 0
none-of-one = ap (λ (last : Option ℕ). unwrap_or last 0) (get-empty source_cmp (source_of (id 1)))

-- and none of the second once one was of the first
none-of-two : accepted_of (accepting empty (id 1)) (id 2) ≡ 0
none-of-two = ap (λ (last : Option ℕ). unwrap_or last 0)
    (get-insert sources_total empty (source_of (id 1)) 1 (source_of (id 2))
    ∙ get-empty source_cmp (source_of (id 2)))

-- so a Request with the number 1 is no repeat
no-repeat : (last : ℕ) → last ≡ 0 → nat_le 1 last ≡ true → ⊥
no-repeat last none repeat = let no' : false ≡ true = sym (ap (nat_le 1) none) ∙ repeat in cc

-- the first Send leaves the ring that is told
first-sent : after net both-posted (Send 5 Acked) ≡ one-sent
first-sent = cond_both (is_repeat (ring_node both-posted 1) (id 1)) _ _
    (λ x. sent_with net both-posted 5 (frame Request 1 1 echo) D (Some x) ≡ one-sent)
    (λ repeat. absurd (no-repeat _ none-of-one repeat))
    (λ _. refl)

-- so does the second
second-sent : after net one-sent (Send 5 Acked) ≡ both-sent
second-sent = cond_both (is_repeat (ring_node one-sent 1) (id 2)) _ _
    (λ x. sent_with net one-sent 5 (frame Request 1 2 unknown) D (Some x) ≡ both-sent)
    (λ repeat. absurd (no-repeat _ none-of-two repeat))
    (λ _. refl)

-- the first Send hears that it is acked, which a repeat is too
first-acked : Acked ≡ heard_of D (arrival net both-posted.nodes D (frame Request 1 1 echo))
first-acked = cond_both (is_repeat (ring_node both-posted 1) (id 1)) _ _
    (λ x. Acked ≡ heard_of D (Some x)) (λ _. refl) (λ _. refl)

-- so does the second
second-acked : Acked ≡ heard_of D (arrival net one-sent.nodes D (frame Request 1 2 unknown))
second-acked = cond_both (is_repeat (ring_node one-sent 1) (id 2)) _ _
    (λ x. Acked ≡ heard_of D (Some x)) (λ _. refl) (λ _. refl)

-- from there on all computes
after-both : AreSteps both-sent (take 5 ring) (drop 5 ring)
after-both = (
  ((1, omega arith, refl), (refl, refl)),
  (
    ((0, omega arith, refl), (refl, refl)),
    (
      (((0, omega arith, refl), (refl, (λ e. omega (arith, e)), refl)), (tt, refl)),
      (
        ((0, omega arith, refl), (refl, refl)),
        (
          (((0, omega arith, refl), (refl, (λ e. omega (arith, e)), refl)), (tt, refl)),
          (
            ((0, omega arith, refl), (refl, refl)),
            (
              ((0, omega arith, refl), (refl, refl)),
              (
                ((0, omega arith, refl), (refl, refl)),
                (
                  ((1, omega arith, refl), (refl, refl)),
                  (((1, omega arith, refl), (refl, refl)), tt),
                ),
              ),
            ),
          ),
        ),
      ),
    ),
  ),
)

-- the second Send goes before it
after-one : AreSteps one-sent (take 4 ring) (drop 4 ring)
after-one = (
  ((1, omega arith, refl), (refl, second-acked)),
  subst (λ (r : RingIs). AreSteps r (take 5 ring) (drop 5 ring)) (sym second-sent) after-both,
)

-- and before that the first
after-posts : AreSteps both-posted (take 3 ring) (drop 3 ring)
after-posts = (
  ((1, omega arith, refl), (refl, first-acked)),
  subst (λ (r : RingIs). AreSteps r (take 4 ring) (drop 4 ring)) (sym first-sent) after-one,
)

ring-legal : IsLegalRing net ring
ring-legal = are-run [] ring (
  ((0, omega arith, refl), (refl, refl)),
  (
    (
      ((1, omega arith, refl), (refl, (λ e. omega (arith, e)), (omega arith, omega arith))),
      (omega arith, refl),
    ),
    (
      (
        ((1, omega arith, refl), (refl, (λ e. omega (arith, e)), (omega arith, omega arith))),
        (omega arith, refl),
      ),
      after-posts,
    ),
  ),
)

is-legal : IsLegalJoint plant 1 joint
is-legal =
    record {
      controllers = ((refl, target-legal), tt);
      hosts = ((refl, asker-legal), tt);
      bridges = tt;
      rings = ((refl, ring-legal), tt);
    }

is-joint : IsJoint joint
is-joint = record {
  controllers = All-from_recursion (IsTiedController ring) joint.controllers (
    record {
      asks = refl;
      peers = refl;
      port = refl;
      replies = refl;
      ends = refl;
      downs = (tt, tt);
    },
    tt,
  );
  hosts = All-from_recursion (IsTiedHost ring) joint.hosts (
    record {
      asks = refl;
      peers = refl;
      port = refl;
      replies = refl;
      ends = refl;
      downs = (tt, tt);
    },
    tt,
  );
  bridges = All-from_recursion (IsTiedBridge ring) [] tt;
}

-- ---- its calls

succeeds : ReportsSuccess joint (id 1)
succeeds =
    inr (
      record { node = 5; entries = asker },
      (0, omega arith, refl),
      (echo, (2, omega arith, refl), refl),
    )

no-success : is_exception_reply refused ≡ true
no-success = refl

once : effects_on_way joint (id 1) ≡ 1
once = refl

once-too : effects_on_way joint (id 2) ≡ 1
once-too = refl

-- each has its own name alone
names : names_on_way joint (id 1) ≡ id 1 ∷ []
names = refl

-- the exception reply is the answer of the node that was asked, to what it was asked
reply-is : IsOwnAnswer joint (record { node = 5; entries = asker }) (id 2) (results.Reply refused)
reply-is = record {
  route = to_one;
  request = unknown;
  asked = (1, omega arith, refl);
  came = inl (record {
    name = id 2;
    named = (0, omega arith, refl);
    last = refl;
    to = 1;
    end = ([], refl);
    given =
        inl (
          record { node = 1; entries = target },
          (0, omega arith, refl),
          refl,
          (1, omega arith, refl),
        );
  });
}
