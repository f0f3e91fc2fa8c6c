-- Workers that stand between two turns stand tied.
use Rattle.std.proofs.Common.{◌≡◌, ℕ, List, [], ◌++◌, refl, sym, ap, subst, ◌∙◌}
use Rattle.std.proofs.Common.{Some, None}
use Rattle.plant_types.specs.declared.net.NetPlan.{NetPlan}
use Rattle.ring_core.specs.declared.entry.RingEntry.{RingEntry}
use Rattle.ring_core.specs.Legal.{IsLegalRing}
use Rattle.controller_core.specs.declared.entry.Entry.{Entry}
use Rattle.controller_core.specs.declared.fixed.Fixed.{Fixed}
use Rattle.controller_core.specs.Controller.{EachFits, IsLegal}
use Rattle.controller_core.specs.Replay.{start}
use Rattle.controller_core.specs.Scans.{all_due}
use Rattle.host_port.specs.Host.{HostIs}
use Rattle.tied_lists.specs.Items.{AController, AHost, NetCall, no_items}
use Rattle.tied_lists.specs.Own.{own}
use Rattle.tied_lists.specs.Tied.{Tied}
use Rattle.tied_lists.specs.Waits.{IsOnRing, waiting}
use Rattle.tied_lists.proofs.Turns.{on-others, own-found}
use Rattle.comm_port.specs.Sides.{RamSideIs, RingSideIs}
use Rattle.joint_history.specs.Reading.{host_items_of, items_of}
use Rattle.comm_port.specs.Worker.{IsMemberWorker, Standing, WorkerIs}
use Rattle.comm_port.specs.HostTurns.{HostTies}
use Rattle.turn_laws.specs.KeepsOn.{HostStandsTied, StandsTied}

pub stands-of : {P Q : Type 0} (w : WorkerIs) (ram : RamSideIs P) (known : List Entry)
    (side : RingSideIs Q) (ring : List RingEntry)
    → IsMemberWorker side.net w.node → IsLegal ram.fixed known → Standing w ram known side ring
    → StandsTied ram.fixed side.net w.node known ring
stands-of w ram known side ring member legal s = record {
  node = s.node;
  legal = legal;
  on = record {
    members = member.members;
    legal = s.legal;
    member = member.member;
    patient = s.patient;
  };
  tied = s.tied;
  waits = λ path f is. (NetCall, s.waits.outs path f (s.waits.waits path ∙ is));
}

pub host-stands-of : {Q : Type 0} (n : ℕ) (host : HostIs) (side : RingSideIs Q)
    (ring : List RingEntry) → HostTies n host side ring
    → HostStandsTied host.plan side.net host.history ring
host-stands-of n host side ring t = record {
  legal = t.legal;
  on = subst (IsOnRing side.net ring) (sym t.node) t.on;
  tied = subst (λ k. Tied AHost (host_items_of host.history) (own k ring)) (sym t.node) t.tied;
}

-- a controller and its node at the start
first-fits : (fixed : Fixed) → EachFits fixed (start fixed.plan) []
unfolding EachFits
first-fits fixed = tt

pub stands-start : (fixed : Fixed) (net : NetPlan) (n : ℕ) (ring : List RingEntry)
    → fixed.plan.node ≡ n → IsOnRing net ring n → own n ring ≡ []
    → StandsTied fixed net n [] ring
stands-start fixed net n ring node on none = record {
  node = node;
  legal = record { each = first-fits fixed; due = (all_due fixed, refl) };
  on = on;
  tied = subst (Tied AController no_items) (sym none)
      (record {
        asks = refl;
        peers = refl;
        port = refl;
        replies = refl;
        ends = refl;
        downs = (tt, tt);
      });
  waits = λ path f is. absurd (let no' : None ≡ Some f = sym (ap (waiting path) none) ∙ is in cc);
}

pub stands-others : (fixed : Fixed) (net : NetPlan) (n : ℕ) (entries : List Entry)
    (ring more : List RingEntry) → IsLegalRing net (ring ++ more)
    → own n more ≡ [] → StandsTied fixed net n entries ring
    → StandsTied fixed net n entries (ring ++ more)
stands-others fixed net n entries ring more legal none s =
    let same = own-found n ring more none in
    record {
      node = s.node;
      legal = s.legal;
      on = on-others net n ring more s.on legal none;
      tied = subst (Tied AController (items_of entries)) (sym same) s.tied;
      waits = λ path f is. s.waits path f (sym (ap (waiting path) same) ∙ is);
    }
