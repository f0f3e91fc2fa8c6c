-- Histories that are closed.
use Rattle.std.proofs.Common.{◌≡◌, ℕ, Bool, true, false, List, [], ◌∷◌, ◌++◌, filter, refl}
use Rattle.std.proofs.Common.{sym, ap, subst, ◌∙◌, arith, append-nil}
use Rattle.std.specs.List.{All}
use Rattle.std.proofs.lemmas.List.Elements.{filter-append}
use Rattle.turn_gate.specs.Known.{GateFacts, Owns, PassFacts, StartsWith, made_by}
use Rattle.plant_types.specs.declared.plan.ControllerPlan.{ControllerPlan}
use Rattle.plant_types.specs.declared.plan.Plant.{Plant}
use Rattle.plant_types.specs.Plans.{net_of}
use Rattle.ring_core.specs.declared.entry.RingEntry.{RingEntry}
use Rattle.controller_core.specs.declared.entry.Entry.{Entry}
use Rattle.controller_core.specs.declared.fixed.Fixed.{Fixed}
use Rattle.controller_core.specs.Controller.{IsLegal}
use Rattle.controller_core.proofs.NextEntry.{front_legal}
use Rattle.joint_history.specs.declared.joint.ControllerLog.{ControllerLog}
use Rattle.joint_history.specs.JointLaws.{fixed_of}
use Rattle.joint_history.specs.Reading.{has_ended_at, has_started_at, is_off_at, is_ours}
use Rattle.comm_port.specs.Sides.{RingSideIs}
use Rattle.comm_port.specs.Worker.{WorkerIs}
use Rattle.turn_laws.specs.KeepsOn.{KeepsOn, NoneSpent, StandsTied, is_out_of_ring}
use Rattle.turn_laws.proofs.Passes.{cancel-none}
use Rattle.turn_laws.proofs.Rests.{ended-alone}
use Rattle.tied_lists.specs.Own.{own}
use Rattle.tied_lists.specs.Waits.{status_at}
use Rattle.gated_sides.specs.Cells.{maker_number}
use Rattle.live_workers.specs.Pairs.{IsBack, ram_side}
use Rattle.live_workers.specs.Stations.{CameToEnd}
use Rattle.live_workers.specs.Talking.{IsOver, SoFar, TalksOn}
use Rattle.live_workers.specs.declared.talking.Stage.TheVariants.{Over}
use Rattle.gated_sides.proofs.Stays.{none-ours, own-made}

-- what a pass brought back is all of its number, so the list went on by others alone
pub rest-others : {E : Type 0} (maker : E → ℕ) (n : ℕ) (all seen rest : List E) → all ≡ seen ++ rest
    → made_by maker n seen ≡ made_by maker n all
    → made_by maker n rest ≡ []
rest-others maker n all seen rest is same =
    cancel-none (made_by maker n seen) (made_by maker n rest)
    (same ∙ ap (made_by maker n) is
    ∙ filter-append (λ e. Rattle.std.specs.Prelude.nat_eq (maker e) n) seen rest)

-- a controller's closed history is what its communication saw last
pub came-to-end : {Q : Type 0} (plant : Plant) (scans : ℕ) (plan : ControllerPlan)
    (gate : GateFacts Entry Fixed) (w : WorkerIs) (side : RingSideIs Q)
    (ring : List RingEntry) (p : PassFacts Entry) (h : List Entry) (log : ControllerLog)
    → gate.name.opening ≡ [] → gate.fixed ≡ fixed_of plant scans plan
    → w.node ≡ plan.node → side.net ≡ net_of plant plan.node → IsBack gate w side ring p true
    → All (StartsWith h) p.heard → Owns maker_number p h
    → IsLegal (fixed_of plant scans plan) h → log ≡ record { node = plan.node; entries = h }
    → CameToEnd plant scans plan log ring
came-to-end {Q} plant scans plan gate w side ring p h log unopened fixed node net b heard owns
    legal log_is =
    subst (λ l. CameToEnd plant scans plan l ring) (sym log_is) (record {
      node = refl;
      finished = record {
        stands = subst (λ x. StandsTied f x plan.node h ring) net
            (subst (λ x. StandsTied f side.net x h ring) node
            (subst (λ x. StandsTied x side.net w.node h ring) fixed
            (subst (λ l. StandsTied gate.fixed side.net w.node l ring) (sym same) s.stands)));
        keeps = subst (λ x. KeepsOn f x plan.node h ring true) net
            (subst (λ x. KeepsOn f side.net x h ring true) node
            (subst (λ x. KeepsOn x side.net w.node h ring true) fixed
            (subst (λ l. KeepsOn gate.fixed side.net w.node l ring true) (sym same) s.keeps)));
        ended = subst (λ x. has_ended_at x h ≡ true) fixed
            (subst (λ l. has_ended_at gate.fixed l ≡ true) (sym same) over.ended);
        collected = subst (λ x. has_started_at x h ≡ false) fixed
            (subst (λ l. has_started_at gate.fixed l ≡ false) (sym same) over.collected);
        out = subst (λ x. is_out_of_ring (is_off_at f h) (status_at x ring plan.node) ≡ true) net
            (subst (λ x. is_out_of_ring (is_off_at f h) (status_at side.net ring x) ≡ true) node
            (subst (λ x. is_out_of_ring (is_off_at x h) (status_at side.net ring w.node) ≡ true)
            fixed (subst (λ l. is_out_of_ring (is_off_at gate.fixed l)
            (status_at side.net ring w.node) ≡ true) (sym same) over.out)));
      };
      unspent = subst (λ n. NoneSpent (own n ring)) node t.unspent;
    })
  where
    f : Fixed
    f = fixed_of plant scans plan

    t : TalksOn w (ram_side gate) b.talked side ring Over
    t = b.talks refl

    begins : StartsWith h b.talked
    begins = subst (All (StartsWith h)) b.heard_is heard 1 [] (omega arith)

    made_is : h ≡ owns.made
    made_is = owns.all_is ∙ ap (λ l. l ++ owns.made) (ap (λ x. x.opening) b.gate_is ∙ unopened)

    mine : made_by maker_number 2 b.talked ≡ made_by maker_number 2 h
    mine =
        sym (b.owns unopened)
        ∙ (subst (All (λ q. q.1 ≡ made_by maker_number q.0 owns.made)) b.joined_is owns.joined_are)
        1 (0, []) (omega arith)
        ∙ ap (made_by maker_number 2) (sym made_is)

    none : filter is_ours begins.0 ≡ []
    none = none-ours begins.0 (rest-others maker_number 2 h b.talked begins.0 begins.1 mine)

    legal_gate : IsLegal gate.fixed h
    legal_gate = subst (λ x. IsLegal x h) (sym fixed) legal

    s : SoFar w (ram_side gate) b.talked side ring Over
    s = t.so_far (front_legal gate.fixed b.talked begins.0
        (subst (IsLegal gate.fixed) begins.1 legal_gate))

    over : IsOver gate.fixed side.net w.node b.talked ring
    over = s.over refl

    same : h ≡ b.talked
    same = begins.1 ∙ ap (λ l. b.talked ++ l) (ended-alone gate.fixed b.talked begins.0
        over.ended (subst (IsLegal gate.fixed) begins.1 legal_gate) none)
        ∙ append-nil b.talked

-- pass 0 of a controller's gate, once both passes are back
pub back : {Q : Type 0} (gate : GateFacts Entry Fixed) (w : WorkerIs) (side : RingSideIs Q)
    (ring : List RingEntry) (zero-p first second one-back two-back : PassFacts Entry)
    (one two : PassFacts Entry) (ram_gate : GateFacts Entry Fixed) (talked : List Entry)
    (scanned' talked' : Bool)
    → zero-p ≡ Rattle.turn_gate.specs.Known.first_pass gate.name → first
    ≡ record zero-p { given = 1 ∷ zero-p.given } → second ≡ record first { given = 2 ∷ first.given }
    → Rattle.turn_gate.specs.Known.IsPassReady maker_number 1 gate.name one → ram_gate ≡ gate
    → Rattle.turn_gate.specs.Known.IsPassReady maker_number 2 ram_gate.name two
    → two.seen ≡ talked → one-back ≡ Rattle.turn_gate.specs.Known.with_pass second one
    → two-back ≡ Rattle.turn_gate.specs.Known.with_pass one-back two
    → (talked' ≡ true → TalksOn w (ram_side ram_gate) talked side ring Over)
    → IsBack gate w side ring two-back (Rattle.std.specs.Prelude.◌&&◌ scanned' talked')
back {Q} gate w side ring zero-p first second one-back two-back one two ram_gate talked scanned'
    talked' z f s one-ready same two-ready seen j k t =
    subst (λ p. IsBack gate w side ring p (Rattle.std.specs.Prelude.◌&&◌ scanned' talked'))
    (sym whole) (record {
      scanned = one;
      talked = talked;
      mine = two.mine;
      gate_is = refl;
      outside = refl;
      is_zero = refl;
      given_is = refl;
      joined_is = λ i. (one-ready.number_is i, one.mine)
          ∷ (joined-one i ++ ((two-ready.number_is i, two.mine) ∷ two-ready.unjoined i));
      heard_is = λ i. one.seen ∷ (one-ready.unheard i ++ (seen i ∷ two-ready.unheard i));
      talks = λ is. subst (λ g. TalksOn w (ram_side g) talked side ring Over) same
          (t (second-true scanned' talked' is));
      owns = λ unopened. mine unopened;
    })
  where
    joined-one : one.joined ≡ []
    joined-one = one-ready.unjoined

    base : PassFacts Entry
    base = Rattle.turn_gate.specs.Known.first_pass gate.name

    whole : two-back ≡ Rattle.turn_gate.specs.Known.with_pass
        (Rattle.turn_gate.specs.Known.with_pass (record base { given = 2 ∷ 1 ∷ [] }) one) two
    whole = k ∙ ap (λ p. Rattle.turn_gate.specs.Known.with_pass p two)
        (j ∙ ap (λ p. Rattle.turn_gate.specs.Known.with_pass p one)
        (s ∙ ap (λ (p : PassFacts Entry). record p { given = 2 ∷ p.given })
        (f ∙ ap (λ (p : PassFacts Entry). record p { given = 1 ∷ p.given }) z)))

    second-true : (x y : Bool) → Rattle.std.specs.Prelude.◌&&◌ x y ≡ true → y ≡ true
    second-true true y is = is
    second-true false y is = absurd (let no' : false ≡ true = is in cc)

    mine : gate.name.opening ≡ [] → two.mine ≡ made_by maker_number 2 talked
    mine unopened = own-made maker_number 2 ram_gate.name two talked
        (ap (λ g. g.name.opening) same ∙ unopened) two-ready seen
