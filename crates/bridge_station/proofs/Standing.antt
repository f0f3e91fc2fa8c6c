-- Ends of a bridge that stand on their rings.
use Rattle.std.proofs.Common.{◌≡◌, ◌≢◌, ℕ, ◌<◌, ◌==◌, Bool, true, false, cond, List, [], ◌∷◌, ◌++◌}
use Rattle.std.proofs.Common.{All, refl, sym, ap, ◌∙◌, subst, inl, inr, ⊎_elim, arith, eq-eqb}
use Rattle.std.proofs.lemmas.Bool.{cases_Bool, cond-true, cond-false, eqb-true, ne_eqb}
use Rattle.plant_types.specs.declared.net.BridgePlan.{BridgePlan}
use Rattle.plant_types.specs.declared.net.NetPlan.{NetPlan}
use Rattle.plant_types.specs.Plans.{IsBridgePlan, IsNetPlan, IsNode}
use Rattle.ring_core.specs.Legal.{IsMember}
use Rattle.ring_core.specs.Machine.{addresses, is_in}
use Rattle.ring_core.specs.declared.entry.RingEntry.{RingEntry}
use Rattle.ring_core.specs.declared.status.NodeStatus.{NodeStatus}
use Rattle.ring_core.specs.declared.status.NodeStatus.TheVariants.{In, Away, Asking, Gone}
use Rattle.ring_core.specs.Kept.{KeptRing}
use Rattle.bridge_relay.specs.declared.entry.BridgeEntry.{BridgeEntry}
use Rattle.bridge_relay.specs.Bridge.{BridgeIs}
use Rattle.bridge_relay.specs.Laws.{is_by}
use Rattle.bridge_relay.specs.Legal.{IsBridgeHistory, IsEnd}
use Rattle.bridge_relay.specs.Machine.{side_of}
use Rattle.tied_lists.specs.Waits.{has_left, status_at}
use Rattle.end_laws.specs.JointHistory.{made_at_end}
use Rattle.end_laws.specs.BridgePort.{HasGrown}
use Rattle.end_laws.proofs.BridgePort.{ready-across, ready-new, ready-ring}
use Rattle.end_laws.proofs.TurnLaws.{member-there}
use Rattle.end_laws.specs.EndKeeps.{EndKeepsOn}
use Rattle.end_laws.proofs.Complete.{end-complete}
use Rattle.end_laws.proofs.Others.{end-across, end-others, end-starts}
use Rattle.bridge_station.specs.Laws.{EndsKnowWhetherTheyLeft, HoldingEndsAreThere}
use Rattle.bridge_station.specs.Laws.{EndsStandBesideOthers, LeftBridgesAreComplete}
use Rattle.bridge_station.specs.Laws.{BridgesStandBehindHolds}
use Rattle.bridge_station.specs.Station.{BridgeStationIs, EndStationIs, end_station}
use Rattle.bridge_station.specs.Stands.{EndMoved, EndStands, MovedByEnd, StandsBridge, StandsEnd}
use Rattle.bridge_station.specs.Stands.{StartsBridge}

-- ---- others

-- entries of one end are none of another
none-across : (n m : ℕ) (es : List BridgeEntry) → m ≢ n → made_at_end m (made_at_end n es) ≡ []
none-across n m [] other = refl
none-across n m (e ∷ es) other = ⊎_elim
    (λ (is : (side_of e == n) ≡ true).
    let not-m : (side_of e == m) ≡ false = ne_eqb (side_of e) m
    (λ h. other (sym h ∙ eqb-true (side_of e) n is)) in
    ap (λ (b : Bool). made_at_end m (cond b (e ∷ made_at_end n es) (made_at_end n es))) is
    ∙ (ap (λ (b : Bool). cond b (e ∷ made_at_end m (made_at_end n es))
    (made_at_end m (made_at_end n es))) not-m ∙ none-across n m es other))
    (λ (no' : (side_of e == n) ≡ false).
    ap (λ (b : Bool). made_at_end m (cond b (e ∷ made_at_end n es) (made_at_end n es))) no'
    ∙ none-across n m es other)
    (cases_Bool (side_of e == n))

grown-none : (n m : ℕ) (old new : List BridgeEntry) → m ≢ n
    → (g : HasGrown true (is_by n) old new) → made_at_end m g.grew.more ≡ []
grown-none n m old new other g =
    let mine : made_at_end n g.grew.more ≡ g.grew.more =
    g.grew.ours_are ∙ sym (g.grew.all_alone refl) in
    ap (made_at_end m) (sym mine) ∙ none-across n m g.grew.more other

pub stands-across : (n m : ℕ) (end : EndStationIs) (old new : BridgeIs) (net : NetPlan)
    (ring : List RingEntry) → IsBridgePlan old.plan → m ≢ n → new.plan ≡ old.plan
    → HasGrown true (is_by n) old.history new.history → IsBridgeHistory old.plan new.history
    → EndStands m end old net ring → EndStands m end new net ring
stands-across n m end old new net ring sound other plan g legal s =
    let none = grown-none n m old.history new.history other g in
    let there = subst (IsBridgeHistory old.plan) g.grew.after_is legal in
    let long : BridgeIs = record { plan = old.plan; history = old.history ++ g.grew.more } in
    let is : long ≡ new =
    (λ i. record { plan = sym plan i; history = sym g.grew.after_is i }) in
    subst (λ (b : BridgeIs). EndStands m end b net ring) is (record {
      ready = ready-across m end.worker end.left old.plan old.history g.grew.more net ring none
          there s.ready;
      keeps = end-across old.plan net m old.history g.grew.more ring end.left sound
          s.ready.ties.end there none s.keeps;
    })

pub stands-beside : EndsStandBesideOthers
stands-beside side station net ring more none legal s = record {
  ready = ready-ring side (end_station side station).worker (end_station side station).left
      station.bridge net ring more none legal s.ready;
  keeps = end-others station.bridge.plan net side station.bridge.history ring more
      (end_station side station).left none s.keeps;
}

-- ---- the end of a run

pub bridge-complete : LeftBridgesAreComplete
bridge-complete station left_net left_ring right_net right_ring sound s left right =
    let plan = station.bridge.plan in
    let list = station.bridge.history in
    record {
      left = end-complete plan left_net plan.left list left_ring sound s.left.ready.ties
          (subst (EndKeepsOn plan left_net plan.left list left_ring) left s.left.keeps);
      right = end-complete plan right_net plan.right list right_ring sound s.right.ready.ties
          (subst (EndKeepsOn plan right_net plan.right list right_ring) right s.right.keeps);
    }

-- ---- the start

pub end-begins : (n : ℕ) (plan : BridgePlan) (net : NetPlan) (budget : Bool) → IsEnd plan n
    → IsNode n → IsNetPlan net → IsMember net n
    → EndStands n (record { worker = record { side = n; budget = budget }; left = false })
    (record { plan = plan; history = [] }) net []
end-begins n plan net budget end node sound member =
    let low : n < addresses = (let to = node.to in omega (arith, to)) in
    let members : All (λ m. m < addresses) net.members =
    (λ k d within. let to = (sound.members.each k d within).to in omega (arith, to)) in
    let from = sound.numbers.answer.from in
    record {
      ready = ready-new n (record { side = n; budget = budget }) false plan net refl end members
          member (omega (arith, from)) (ap is_in (member-there net n low member));
      keeps = end-starts plan net n [] [] refl refl;
    }

at-left : (n : ℕ) (s : BridgeStationIs) → (n == s.bridge.plan.left) ≡ true
    → end_station n s ≡ s.left
at-left n s is = cond-true (n == s.bridge.plan.left) s.left s.right is

at-right : (n : ℕ) (s : BridgeStationIs) → (n == s.bridge.plan.left) ≡ false
    → end_station n s ≡ s.right
at-right n s is = cond-false (n == s.bridge.plan.left) s.left s.right is

-- each end beside a bridge that has done nothing
abbrev pub plain-end : ℕ → Bool → EndStationIs
plain-end n budget = record { worker = record { side = n; budget = budget }; left = false }

abbrev pub plain-bridge : BridgePlan → Bool → BridgeStationIs
plain-bridge plan budget = record {
  bridge = record { plan = plan; history = [] };
  left = plain-end plan.left budget;
  right = plain-end plan.right budget;
}

pub bridge-starts : (plan : BridgePlan) (left_net right_net : NetPlan) (budget : Bool)
    (s : BridgeStationIs) → IsBridgePlan plan → IsNetPlan left_net → IsMember left_net plan.left
    → IsNetPlan right_net → IsMember right_net plan.right
    → s.bridge ≡ record { plan = plan; history = [] } → s.left ≡ plain-end plan.left budget
    → s.right ≡ plain-end plan.right budget → StartsBridge plan left_net right_net budget s
bridge-starts plan left_net right_net budget s sound net member net' member' bridge left right =
    let is : plain-bridge plan budget ≡ s =
    (λ i. record { bridge = sym bridge i; left = sym left i; right = sym right i }) in
    let start = plain-bridge plan budget in
    let history : BridgeIs = record { plan = plan; history = [] } in
    record {
      bridge = bridge;
      left = left;
      right = right;
      stands = subst (λ (x : BridgeStationIs). StandsBridge x left_net [] right_net []) is (record {
        left = subst (λ (e : EndStationIs). EndStands plan.left e history left_net [])
            (sym (at-left plan.left start (eq-eqb plan.left plan.left refl)))
            (end-begins plan.left plan left_net budget (inl refl) sound.left net member);
        right = subst (λ (e : EndStationIs). EndStands plan.right e history right_net [])
            (sym (at-right plan.right start
            (ne_eqb plan.right plan.left (λ h. sound.two_ends (sym h)))))
            (end-begins plan.right plan right_net budget (inr refl) sound.right net' member');
      });
    }

-- ---- a turn

-- an end of the same bridge, behind a turn of the other
still-stands : (n : ℕ) (old new : BridgeStationIs) (ring new_ring : KeptRing) (end : EndStationIs)
    (new_end : EndStationIs) → IsBridgePlan old.bridge.plan
    → EndMoved n end new_end old.bridge new.bridge ring new_ring → (m : ℕ) (net : NetPlan)
    (entries : List RingEntry) → m ≢ n → end_station m old ≡ end_station m new
    → StandsEnd m old net entries → StandsEnd m new net entries
still-stands n old new ring new_ring end new_end sound moved m net entries other same s =
    subst (λ (e : EndStationIs). EndStands m e new.bridge net entries) same
    (stands-across n m (end_station m old) old.bridge new.bridge net entries sound other moved.plan
    moved.grown moved.legal s)

moved-as : (n : ℕ) (old new : BridgeStationIs) (ring new_ring : KeptRing)
    (end new_end : EndStationIs) → end_station n old ≡ end → end_station n new ≡ new_end
    → EndMoved n end new_end old.bridge new.bridge ring new_ring
    → EndMoved n (end_station n old) (end_station n new) old.bridge new.bridge ring new_ring
moved-as n old new ring new_ring end new_end is is' m =
    subst (λ (e : EndStationIs). EndMoved n e (end_station n new) old.bridge new.bridge ring
    new_ring) (sym is)
    (subst (λ (e : EndStationIs). EndMoved n end e old.bridge new.bridge ring new_ring) (sym is') m)

new-left : (n : ℕ) (b : Bool) (old new : BridgeIs) → new.plan ≡ old.plan
    → (n == old.plan.left) ≡ b → (n == new.plan.left) ≡ b
new-left n b old new same is = ap (λ (p : BridgePlan). n == p.left) same ∙ is

worker-of : {x y : EndStationIs} → x ≡ y → x.worker ≡ y.worker
worker-of is = ap (λ (e : EndStationIs). e.worker) is

pub moved-left : (n : ℕ) (old new : BridgeStationIs) (ring new_ring : KeptRing)
    → IsBridgePlan old.bridge.plan → (n == old.bridge.plan.left) ≡ true → new.right ≡ old.right
    → EndMoved n old.left new.left old.bridge new.bridge ring new_ring
    → MovedByEnd n old new ring new_ring
moved-left n old new ring new_ring sound is same m = record {
  moved = moved-as n old new ring new_ring old.left new.left (at-left n old is)
      (at-left n new (new-left n true old.bridge new.bridge m.plan is)) m;
  workers = λ k. ⊎_elim
      (λ (near : (k == old.bridge.plan.left) ≡ true).
      worker-of (at-left k new (new-left k true old.bridge new.bridge m.plan near))
      ∙ (m.worker ∙ sym (worker-of (at-left k old near))))
      (λ (far : (k == old.bridge.plan.left) ≡ false).
      worker-of (at-right k new (new-left k false old.bridge new.bridge m.plan far)
      ∙ (same ∙ sym (at-right k old far))))
      (cases_Bool (k == old.bridge.plan.left));
  others = λ k net entries other s.
      let far : (k == old.bridge.plan.left) ≡ false =
      ne_eqb k old.bridge.plan.left (λ h. other (h ∙ sym (eqb-true n old.bridge.plan.left is))) in
      still-stands n old new ring new_ring old.left new.left sound m k net entries other
      (at-right k old far
      ∙ (sym same ∙ sym (at-right k new (new-left k false old.bridge new.bridge m.plan far)))) s;
}

pub moved-right : (n : ℕ) (old new : BridgeStationIs) (ring new_ring : KeptRing)
    → IsBridgePlan old.bridge.plan → IsEnd old.bridge.plan n
    → (n == old.bridge.plan.left) ≡ false → new.left ≡ old.left
    → EndMoved n old.right new.right old.bridge new.bridge ring new_ring
    → MovedByEnd n old new ring new_ring
moved-right n old new ring new_ring sound end is same m = record {
  moved = moved-as n old new ring new_ring old.right new.right (at-right n old is)
      (at-right n new (new-left n false old.bridge new.bridge m.plan is)) m;
  workers = λ k. ⊎_elim
      (λ (near : (k == old.bridge.plan.left) ≡ true).
      worker-of (at-left k new (new-left k true old.bridge new.bridge m.plan near)
      ∙ (same ∙ sym (at-left k old near))))
      (λ (far : (k == old.bridge.plan.left) ≡ false).
      worker-of (at-right k new (new-left k false old.bridge new.bridge m.plan far))
      ∙ (m.worker ∙ sym (worker-of (at-right k old far))))
      (cases_Bool (k == old.bridge.plan.left));
  others = λ k net entries other s.
      let near = at-the-left k other s.ready.ties.end in
      still-stands n old new ring new_ring old.right new.right sound m k net entries other
      (at-left k old near
      ∙ (sym same ∙ sym (at-left k new (new-left k true old.bridge new.bridge m.plan near)))) s;
} where
  at-the-right : IsEnd old.bridge.plan n → n ≡ old.bridge.plan.right
  at-the-right (inl h) = absurd
      (let bad : true ≡ false = sym (eq-eqb n old.bridge.plan.left h) ∙ is in cc)
  at-the-right (inr h) = h

  at-the-left : (k : ℕ) → k ≢ n → IsEnd old.bridge.plan k → (k == old.bridge.plan.left) ≡ true
  at-the-left k other (inl h) = eq-eqb k old.bridge.plan.left h
  at-the-left k other (inr h) = absurd (other (h ∙ sym (at-the-right end)))

-- both ends behind a turn of one
pub bridge-stands : BridgesStandBehindHolds
bridge-stands old new ring new_ring net entries sound = record {
  left = λ held m far.
      let plan : new.bridge.plan ≡ old.bridge.plan = m.moved.plan in
      record {
        left = subst (λ (p : BridgePlan). StandsEnd p.left new new_ring.net new_ring.history)
            (sym plan) held.stands;
        right = subst (λ (p : BridgePlan). StandsEnd p.right new net entries) (sym plan)
            (m.others old.bridge.plan.right net entries (λ h. sound.two_ends (sym h)) far);
      };
  right = λ held m far.
      let plan : new.bridge.plan ≡ old.bridge.plan = m.moved.plan in
      record {
        left = subst (λ (p : BridgePlan). StandsEnd p.left new net entries) (sym plan)
            (m.others old.bridge.plan.left net entries sound.two_ends far);
        right = subst (λ (p : BridgePlan). StandsEnd p.right new new_ring.net new_ring.history)
            (sym plan) held.stands;
      };
}

-- ---- who has left

knows-left : (status : NodeStatus) (left : Bool) → (left ≡ true → status ≡ Gone)
    → (left ≡ false → is_in status ≡ true) → left ≡ has_left status
knows-left status true gone here = sym (ap has_left (gone refl))
knows-left In false gone here = refl
knows-left Away false gone here = absurd (let no' : false ≡ true = here refl in cc)
knows-left Asking false gone here = refl
knows-left Gone false gone here = absurd (let no' : false ≡ true = here refl in cc)

in-there : (status : NodeStatus) → is_in status ≡ true → has_left status ≡ false
in-there In here = refl
in-there Away here = absurd (let no' : false ≡ true = here in cc)
in-there Asking here = refl
in-there Gone here = absurd (let no' : false ≡ true = here in cc)

pub end-knows : EndsKnowWhetherTheyLeft
end-knows side station net ring s =
    knows-left (status_at net ring side) (end_station side station).left
    (λ left. (s.keeps.gone left).on_ring) s.ready.here

pub holding-there : HoldingEndsAreThere
holding-there side station net ring s holds =
    end-knows side station net ring s ∙ in-there (status_at net ring side) holds.here
