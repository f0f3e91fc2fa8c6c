-- A worker that stands between two turns: at the start, and while others go on.
use Rattle.std.proofs.Common.{◌≡◌, ℕ, zero, suc, Bool, true, false, List, [], ◌∷◌}
use Rattle.std.proofs.Common.{◌++◌, filter, get_or, set, replicate, Option, Some, None}
use Rattle.std.proofs.Common.{refl, sym, ◌∙◌, subst, append-nil}
use Rattle.std.proofs.Common.{ap, arith, get_or-set_same, ◌<◌}
use Rattle.std.proofs.lemmas.List.{length-replicate}
use Rattle.plant_types.specs.declared.net.NetPlan.{NetPlan}
use Rattle.controller_core.specs.declared.entry.Entry.{Entry}
use Rattle.ring_core.specs.declared.frame.Frame.{Frame}
use Rattle.ring_core.specs.declared.path.Path.{Path}
use Rattle.ring_core.specs.declared.entry.RingEntry.{RingEntry}
use Rattle.ring_core.specs.Machine.{is_here, NodeIs, addresses}
use Rattle.ring_core.specs.Machine.{path_places, no_path, fresh, part_of}
use Rattle.ring_core.specs.Machine.{with_members}
use Rattle.tied_lists.specs.Own.{own, WentOn}
use Rattle.tied_lists.specs.Items.{AController, Items, latest_down, no_items}
use Rattle.tied_lists.specs.Tied.{Tied}
use Rattle.tied_lists.specs.Waits.{IsOnRing}
use Rattle.tied_lists.proofs.Turns.{own-found}
use Rattle.comm_port.specs.Giving.{IsAtRest}
use Rattle.joint_history.specs.Reading.{is_ours, items_of}
use Rattle.comm_port.specs.Sides.{RingSideIs, RamSideIs, MayWrite}
use Rattle.comm_port.specs.Turns.{AreWaiting}
use Rattle.comm_port.specs.Worker.{IsMemberWorker, Standing, WorkerIs, new_worker}
use Rattle.tied_lists.proofs.Steps.{tied-all, tied-none}
use Rattle.comm_port.proofs.Later.{Later, later-same, tied-later, waits-later}
use Rattle.comm_port.proofs.Through.{NotFailed, RestsIn, nothing-not-failed, rest-others}

-- ---- at the start

each-same : {X : Type 0} (P : X → Type 0) (k p : ℕ) (x : X) → P x → P (get_or (replicate k x) p x)
each-same P zero p x it = it
each-same P (suc k) zero x it = it
each-same P (suc k) (suc p) x it = each-same P k p x it

fresh-path : (p : ℕ) → NotFailed (get_or (replicate path_places no_path) p no_path).awaits
fresh-path p = each-same (λ (x : Path). NotFailed x.awaits) path_places p no_path nothing-not-failed

fresh-rests : (here : Bool) → RestsIn (fresh here)
fresh-rests here = (refl, λ p on. fresh-path p)

pub put-each : (P : NodeIs → Type 0) (nodes : List NodeIs) (m k : ℕ) (c : NodeIs) → P c
    → P (part_of nodes k) → P (part_of (set nodes m c) k)
put-each P [] m k c new old = old
put-each P (x ∷ nodes) zero zero c new old = new
put-each P (x ∷ nodes) zero (suc k) c new old = old
put-each P (x ∷ nodes) (suc m) zero c new old = old
put-each P (x ∷ nodes) (suc m) (suc k) c new old = put-each P nodes m k c new old

opening-rests : (nodes : List NodeIs) (members : List ℕ) (k : ℕ) → RestsIn (part_of nodes k)
    → RestsIn (part_of (with_members nodes members) k)
opening-rests nodes [] k it = it
opening-rests nodes (m ∷ ms) k it = opening-rests (set nodes m (fresh true)) ms k
    (put-each RestsIn nodes m k (fresh true) (fresh-rests true) it)

pub start-rests : (net : NetPlan) (n : ℕ) → IsAtRest net n []
start-rests net n =
    let k = opening-rests (replicate addresses (fresh false)) net.members n
    (each-same RestsIn addresses n (fresh false) (fresh-rests false)) in
    record { all_sent = k.0; none_failed = k.1 }

went-on : (known more : List Entry) → filter is_ours more ≡ []
    → WentOn false is_ours known [] (known ++ more)
went-on known more none = record {
  between = more;
  others = none;
  none_alone = λ e. absurd (let bad : false ≡ true = e in cc);
  after_is = sym (append-nil (known ++ more));
}

scans-later : (known more : List Entry) → filter is_ours more ≡ []
    → Later (items_of known) (items_of (known ++ more))
scans-later known more none = later-same false known (known ++ more) (went-on known more none)

tied-scans : (b : List RingEntry) {a a' : Items} → Later a a' → Tied AController a b
    → Tied AController a' b
tied-scans b {a} {a'} l t =
    tied-all AController a' b (tied-later AController [] b l (tied-none AController a b t))

abbrev no-ask : Option Frame
no-ask = None

no-slot : (p : ℕ) → get_or (replicate path_places no-ask) p no-ask ≡ no-ask
no-slot p = each-same (λ (x : Option Frame). x ≡ no-ask) path_places p no-ask refl

none-waits : (n : ℕ) → AreWaiting n no_items [] (replicate path_places None)
none-waits n = record {
  size = length-replicate path_places no-ask;
  waits = no-slot;
  asks = λ p f is. absurd (let bad : None ≡ Some f = sym (no-slot p) ∙ is in cc);
  outs = λ p f is. absurd (let bad : None ≡ Some f = sym (no-slot p) ∙ is in cc);
}

nothing-tied : Tied AController no_items []
nothing-tied = record {
  asks = refl;
  peers = refl;
  port = refl;
  replies = refl;
  ends = refl;
  downs = (tt, tt);
}

-- a new worker, a controller that has scanned at most, and a ring on which nothing has happened
pub standing-new : {P Q : Type 0} (n : ℕ) (budget : Bool) (ram : RamSideIs P)
    (known : List Entry) (side : RingSideIs Q) → ram.fixed.plan.node ≡ n
    → IsMemberWorker side.net n → MayWrite side.writer n → filter is_ours known ≡ []
    → Standing (new_worker n budget) ram known side []
standing-new n budget ram known side node member serves none =
    let later : Later no_items (items_of known) = scans-later [] known none in
    record {
      node = node;
      member = member;
      serves = serves;
      legal = tt;
      patient = tt;
      tied = tied-scans [] later nothing-tied;
      noticed = refl;
      waits = waits-later n [] (replicate path_places None) later (none-waits n);
      rest = start-rests side.net n;
    }

-- ---- while others go on

-- the controller scanned
pub standing-scans : {P Q : Type 0} (w : WorkerIs) (ram : RamSideIs P) (known more : List Entry)
    (side : RingSideIs Q) (ring : List RingEntry) → filter is_ours more ≡ []
    → Standing w ram known side ring → Standing w ram (known ++ more) side ring
standing-scans w ram known more side ring none s =
    let later = scans-later known more none in
    record {
      node = s.node;
      member = s.member;
      serves = s.serves;
      legal = s.legal;
      patient = s.patient;
      tied = tied-scans (own w.node ring) later s.tied;
      noticed = s.noticed;
      waits = waits-later w.node (own w.node ring) w.waiting later s.waits;
      rest = s.rest;
    }

-- other nodes went on
pub standing-others : {P Q : Type 0} (w : WorkerIs) (ram : RamSideIs P) (known : List Entry)
    (side : RingSideIs Q) (ring more : List RingEntry) → IsOnRing side.net (ring ++ more)
    w.node → own w.node more ≡ [] → Standing w ram known side ring
    → Standing w ram known side (ring ++ more)
standing-others w ram known side ring more on none s =
    let is : own w.node (ring ++ more) ≡ own w.node ring = own-found w.node ring more none in
    record {
      node = s.node;
      member = s.member;
      serves = s.serves;
      legal = on.legal;
      patient = on.patient;
      tied = subst (Tied AController (items_of known)) (sym is) s.tied;
      noticed = s.noticed ∙ ap latest_down (sym is);
      waits = subst (λ (b : List RingEntry). AreWaiting w.node (items_of known) b w.waiting)
          (sym is) s.waits;
      rest = rest-others side.net w.node ring more
          (record {
            members = on.members;
            legal = s.legal;
            member = on.member;
            patient = s.patient;
          })
          on.legal none
          s.rest;
    }

-- a member is there at the start
keep-here : (nodes : List NodeIs) (members : List ℕ) (k : ℕ) → (is_here (part_of nodes k)) ≡ true
    → (is_here (part_of (with_members nodes members) k)) ≡ true
keep-here nodes [] k it = it
keep-here nodes (m ∷ ms) k it = keep-here (set nodes m (fresh true)) ms k
    (put-each (λ c. is_here c ≡ true) nodes m k (fresh true) refl it)

pub first-here : (n : ℕ) (members : List ℕ) → n < addresses
    → (is_here (part_of (with_members (replicate addresses (fresh false)) (n ∷ members)) n)) ≡ true
first-here n members low = keep-here (set (replicate addresses (fresh false)) n (fresh true))
    members n
    (ap (λ (c : NodeIs). is_here c)
    (get_or-set_same (replicate addresses (fresh false)) n (fresh true)
    (fresh false) (let s = length-replicate addresses (fresh false) in omega (arith, s, low))))
