-- What comes between turns keeps what a host's lists keep, and what a host comes to.
use Rattle.std.proofs.Common.{◌≡◌, ◌≤◌, ℕ, true, false, List, [], ◌∷◌, refl, sym, ap, subst, ◌∙◌}
use Rattle.std.proofs.Common.{arith}
use Rattle.plant_types.specs.declared.net.HostPlan.{HostPlan}
use Rattle.ring_core.specs.declared.entry.RingEntry.{RingEntry}
use Rattle.ring_core.specs.declared.status.NodeStatus.TheVariants.{Asking, Gone}
use Rattle.host_port.specs.declared.entry.HostEntry.{HostEntry}
use Rattle.host_port.specs.declared.entry.HostEntry.TheVariants.{Ask, Answer, Served}
use Rattle.std.specs.List.{AllByRecursion}
use Rattle.tied_lists.specs.Items.{AHost, Items, downs_by, last_from, no_items}
use Rattle.tied_lists.specs.Tied.{RiseAbove, Tied}
use Rattle.joint_history.specs.Complete.{NoticesFailures}
use Rattle.joint_history.specs.Reading.{host_item_next, host_items_after}
use Rattle.tied_lists.proofs.Turns.{membership-kept, own-found}
use Rattle.joint_history.specs.Complete.{AsksAllBeforeDone, AsksInItsHolds}
use Rattle.joint_history.specs.Complete.{RepliesBeforePasses, StaysDone}
use Rattle.joint_history.specs.Reading.{host_items_of}
use Rattle.time_laws.proofs.HostTurn.{host-others-in-time, host-starts-in-time}
use Rattle.turn_laws.specs.KeepsOn.{SaidDone}
use Rattle.turn_laws.specs.Laws.{HostOthersKeepOn, HostStartsKeep, HostsComplete}
use Rattle.turn_laws.proofs.Passes.{nil-cons, none-said}
use Rattle.turn_laws.proofs.Others.{no-replies, no-stays}
use Rattle.turn_laws.proofs.HostDone.{host-ended}

no-holds : (plan : HostPlan) → AsksInItsHolds plan []
no-holds plan [] after n f ask is kind asks = nil-cons is
no-holds plan (x ∷ before) after n f ask is kind asks = nil-cons is

no-asked : (plan : HostPlan) → AsksAllBeforeDone plan []
no-asked plan [] after n words is = nil-cons is
no-asked plan (x ∷ before) after n words is = nil-cons is

pub host-starts : HostStartsKeep
host-starts plan net ring none = record {
  replied = subst (RepliesBeforePasses no_items) (sym none) (no-replies no_items);
  stays = subst StaysDone (sym none) no-stays;
  said = λ s. absurd (none-said (subst SaidDone none s));
  holds = subst (AsksInItsHolds plan) (sym none) (no-holds plan);
  asked = subst (AsksAllBeforeDone plan) (sym none) (no-asked plan);
  gone = λ is_so. absurd (let no' : false ≡ true = is_so in cc);
  timely = host-starts-in-time plan.node ring none;
}

pub host-others : HostOthersKeepOn
host-others plan net list ring more left none k =
    let n = plan.node in
    let same = own-found n ring more none in
    record {
      replied = subst (RepliesBeforePasses (host_items_of list)) (sym same) k.replied;
      stays = subst StaysDone (sym same) k.stays;
      said = λ s. k.said (subst SaidDone same s);
      holds = subst (AsksInItsHolds plan) (sym same) k.holds;
      asked = subst (AsksAllBeforeDone plan) (sym same) k.asked;
      gone = λ is_so.
          let g = k.gone is_so in
          record {
            gone = membership-kept net n ring more none
                (λ e. let no' : Gone ≡ Asking = sym g.gone ∙ e in absurd (cc)) ∙ g.gone;
            answered = g.answered;
          };
      timely = host-others-in-time n list ring more none k.timely;
    }

-- a host's power never fails
fails-after : (list : List HostEntry) (a : Items) → (host_items_after a list).fails ≡ a.fails
fails-after [] a = refl
fails-after (Ask id route pdu ∷ list) a = fails-after list (host_item_next a (Ask id route pdu))
fails-after (Answer id result ∷ list) a = fails-after list (host_item_next a (Answer id result))
fails-after (Served id request reply ∷ list) a =
    fails-after list (host_item_next a (Served id request reply))

host-fails : (list : List HostEntry) → (host_items_of list).fails ≡ 0
host-fails list = fails-after list no_items

none-below : (number : ℕ) (ks : List ℕ) → RiseAbove number ks → AllByRecursion (λ k. k ≤ 0) ks
    → ks ≡ []
none-below number [] rise low = refl
none-below number (k ∷ ks) rise low = absurd (let a = rise.0 in let b = low.0 in
    omega (arith, a, b))

host-noticed : {items : Items} {ring : List RingEntry} → items.fails ≡ 0 → Tied AHost items ring
    → NoticesFailures items ring
host-noticed {items} {ring} none tied m c =
    none ∙ sym (ap (last_from 0) (none-below 0 (downs_by ring) tied.downs.0
    (subst (λ (most : ℕ). AllByRecursion (λ k. k ≤ most) (downs_by ring)) none tied.downs.1)))

pub host-complete : HostsComplete
host-complete plan net list ring st k =
    let g = k.gone refl in (
      record {
        answered = host-ended plan list st.legal g.answered;
        holds = k.holds;
        asked = k.asked;
      },
      g.gone,
      record {
        replied = k.replied;
        done = k.stays;
        noticed = λ m c. host-noticed (host-fails list) st.tied m c;
      },
    )
