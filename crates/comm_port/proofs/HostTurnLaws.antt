-- What a host's turn tells those above: by whose entries the ring went on, and what others leave.
use Rattle.std.proofs.Common.{◌≡◌, ℕ, ◌<◌, Bool, true, false, List, [], ◌++◌, map, refl, sym, ap}
use Rattle.std.proofs.Common.{◌∙◌, subst}
use Rattle.std.specs.Prelude.{flat_map, min, count_by}
use Rattle.plant_types.specs.declared.net.NetPlan.{NetPlan}
use Rattle.plant_types.specs.declared.net.HostPlan.{HostPlan}
use Rattle.ring_core.specs.Legal.{IsLegalRing}
use Rattle.ring_core.specs.declared.entry.RingEntry.{RingEntry}
use Rattle.ring_core.specs.declared.entry.RingEntry.TheVariants.{Post}
use Rattle.host_port.specs.declared.entry.HostEntry.{HostEntry}
use Rattle.host_port.specs.Host.{HostIs}
use Rattle.host_port.specs.Legal.{IsHostHistory}
use Rattle.tied_lists.specs.Own.{Grew, is_of, own}
use Rattle.tied_lists.specs.Items.{AHost}
use Rattle.tied_lists.specs.Tied.{Tied}
use Rattle.tied_lists.specs.Waits.{IsOnRing}
use Rattle.tied_lists.proofs.Growth.{grew-more}
use Rattle.tied_lists.proofs.Turns.{on-others, own-found}
use Rattle.joint_history.specs.Complete.{is_pass}
use Rattle.joint_history.specs.Reading.{host_items_of}
use Rattle.comm_port.specs.Sides.{MayWrite, RingSideIs}
use Rattle.comm_port.specs.HostTurns.{CountsPasses, EndsHostTurn, give_up_of, HoldsHostTurn}
use Rattle.comm_port.specs.HostTurns.{HostTies, HostWorkerIs, PathsAgree, host_at}
use Rattle.comm_port.proofs.Standings.{start-rests}
use Rattle.comm_port.proofs.Through.{rest-others}

-- a list went on by these entries of a node
pub record GrewBy (alone : Bool) (n : ℕ) (ring new_ring : List RingEntry) : Type 0 where
  pub added : List RingEntry
  pub grew : Grew alone (is_of n) ring added new_ring

by-both : (alone : Bool) (n : ℕ) (a b c : List RingEntry) → GrewBy alone n a b → GrewBy alone n b c
    → GrewBy alone n a c
by-both alone n a b c x y = record {
  added = x.added ++ y.added;
  grew = grew-more alone (is_of n) a b c x.added y.added x.grew
      y.grew;
}

end-grew : (alone : Bool) (net : NetPlan) (n : ℕ) (plan : HostPlan) (budget : Bool)
    (l l' : List HostEntry) (a b : List RingEntry) (left : Bool)
    → EndsHostTurn alone net n plan budget l l' a b left → GrewBy alone n a b
end-grew alone net n plan budget l l' a b left e = by left refl
  where
    by : (left' : Bool) → left' ≡ left → GrewBy alone n a b
    by true is =
        let g = e.gives_up (sym is) in
        by-both alone n a e.handed_ring b (record { added = _; grew = e.handed.grew })
        (record { added = map give_up_of g.ends; grew = g.grew })
    by false is = subst (GrewBy alone n a) (sym (e.ends_there (sym is)).0)
        (record { added = _; grew = e.handed.grew })

pub host-turn-grew : (alone : Bool) (net : NetPlan) (n : ℕ) (plan : HostPlan) (budget : Bool)
    (l l' : List HostEntry) (a b : List RingEntry) (left : Bool)
    → HoldsHostTurn alone net n plan budget l l' a b left → GrewBy alone n a b
host-turn-grew alone net n plan budget l l' a b left t =
    by-both alone n a t.given_ring b
    (by-both alone n a t.sent_ring t.given_ring (by-both alone n a t.asked_ring t.sent_ring
    (by-both alone n a t.served_ring t.asked_ring
    (record { added = flat_map (λ p. p) t.serves.all.parts; grew = t.serves.all.grew })
    (record { added = map (Post n) t.asks; grew = t.makes.in_order.grew }))
    (record { added = t.sends.frames.done; grew = t.sends.frames.grew }))
    (record { added = map give_up_of t.gives_up.ends; grew = t.gives_up.grew }))
    (end-grew alone net n plan budget t.given_list l' t.given_ring b left t.ends)

-- ---- at the start

pub host-ties-new : {Q : Type 0} (plan : HostPlan) (side : RingSideIs Q) → IsHostHistory plan []
    → MayWrite side.writer plan.node → IsOnRing side.net [] plan.node → 0 < side.net.answer
    → HostTies plan.node (host_at plan []) side []
host-ties-new plan side legal serves on wait = record {
  node = refl;
  legal = legal;
  serves = serves;
  on = on;
  answer = wait;
  tied = record {
    asks = refl;
    peers = refl;
    port = refl;
    replies = refl;
    ends = refl;
    downs = (tt, tt);
  };
  paths = record { waits = λ p. refl; numbers = λ p. refl };
  rest = start-rests side.net plan.node;
}

-- ---- what others leave

pub host-ties-others : {Q : Type 0} (n : ℕ) (host : HostIs) (side : RingSideIs Q)
    (ring more : List RingEntry) → own n more ≡ []
    → IsLegalRing side.net (ring ++ more) → HostTies n host side ring
    → HostTies n host side (ring ++ more)
host-ties-others n host side ring more none legal t =
    let same = own-found n ring more none in
    record {
      node = t.node;
      legal = t.legal;
      serves = t.serves;
      on = on-others side.net n ring more t.on legal none;
      answer = t.answer;
      tied = subst (Tied AHost (host_items_of host.history)) (sym same) t.tied;
      paths = subst (PathsAgree host.history) (sym same) t.paths;
      rest = rest-others side.net n ring more t.on legal none t.rest;
    }

pub counts-others : (w : HostWorkerIs) (ring more : List RingEntry) → own w.node more ≡ []
    → CountsPasses w ring → CountsPasses w (ring ++ more)
counts-others w ring more none counts =
    counts ∙ ap (λ (l : List RingEntry). min (count_by is_pass l) 4294967295)
    (sym (own-found w.node ring more none))
