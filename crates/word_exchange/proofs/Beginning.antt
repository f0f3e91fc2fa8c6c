-- A word exchange before its first repetition, and after its last.
use Rattle.std.proofs.Common.{◌≡◌, ◌≤◌, ℕ, zero, suc, ◌==◌, Bool, true, false, cond, List}
use Rattle.std.proofs.Common.{[], ◌∷◌, ◌++◌, get_or, length, map, Ok, Option, Some, None, refl}
use Rattle.std.proofs.Common.{sym, ap, subst, ◌∙◌, arith, eq-eqb}
use Rattle.std.specs.Prelude.{◌&&◌, replicate, slice_get}
use Rattle.std.specs.Option.{unwrap_or}
use Rattle.std.specs.List.{All, Contains, count_by, find, list_all, zip}
use Rattle.std.proofs.lemmas.Bool.{eqb-true, ne_eqb}
use Rattle.std.proofs.lemmas.Option.{slice_get-get_or}
use Rattle.plant_types.specs.declared.drops.IoDrop.{IoDrop}
use Rattle.plant_types.specs.declared.drops.ScriptRow.{ScriptRow}
use Rattle.plant_types.specs.declared.net.NetPlan.{NetPlan}
use Rattle.plant_types.specs.declared.plan.ControllerPlan.{ControllerPlan}
use Rattle.plant_types.specs.declared.plan.Plant.{Plant}
use Rattle.plant_types.specs.FirstFault.{first_failed}
use Rattle.traffic_cop.specs.Drops.{drop_named}
use Rattle.traffic_cop.specs.DropTests.{cop_tests}
use Rattle.traffic_cop.specs.Exchange.{input_total, output_total, IsDrop}
use Rattle.traffic_cop.specs.Rows.{IsRunnablePlan}
use Rattle.scan_order.specs.declared.due.ScanStep.{ScanStep}
use Rattle.scan_order.specs.Due.{due}
use Rattle.controller_core.specs.declared.entry.Entry.{Entry}
use Rattle.controller_core.specs.Controller.{first_step, is_none}
use Rattle.controller_core.specs.Scans.{scans_from}
use Rattle.whole_scan.proofs.ScanEnds.{due-once}
use Rattle.joint_history.specs.declared.joint.ControllerLog.{ControllerLog}
use Rattle.joint_history.specs.declared.joint.Joint.{Joint}
use Rattle.joint_history.specs.declared.noted.Noted.{Noted}
use Rattle.joint_history.specs.JointLaws.{fixed_of}
use Rattle.joint_history.specs.declared.joint.RingLog.{RingLog}
use Rattle.joint_history.specs.Nets.{entries_on, noted_on, entries_if as ring_entries_if}
use Rattle.joint_history.specs.Reading.{has_ended_at}
use Rattle.joint_history.specs.Runnable.{CanRunPlant}
use Rattle.serial_feed.specs.SerialRuns.{all_have_ended, log_has_ended}
use Rattle.serial_feed.specs.SerialRuns.{empty_log, empty_ring_log, nothing_made}
use Rattle.serial_feed.proofs.SerialLemmas.{from-places, zip-at}
use Rattle.serial_feed.proofs.SerialLemmas.{all-at}
use Rattle.serial_feed.proofs.SerialLemmas.{ended-as}
use Rattle.serial_feed.specs.Standing.{are_gone, made_by, Begins, IsNotedOfEach, SerialIs, StandsFor}
use Rattle.peer_cop.specs.declared.wire.Wire.{Wire}
use Rattle.peer_cop.specs.Plants.{drop_of, plan_of}
use Rattle.peer_cop.proofs.PlantLemmas.{named_find}
use Rattle.word_exchange.specs.declared.feeding.WiredDrop.{WiredDrop}
use Rattle.word_exchange.specs.declared.running.WireReader.{WireReader}
use Rattle.word_exchange.specs.declared.sending.Sending.{Sending}
use Rattle.word_exchange.specs.Exchange.{before_each, exchanges_in, plant_exchanged, script_due}
use Rattle.word_exchange.specs.Exchanging.{froms_read, AreWiredDrops, CanExchangeWords, HasExchanged}
use Rattle.word_exchange.specs.Exchanging.{IsExchanging, IsReaderNow, IsWiredDrop, IsWiredNow}
use Rattle.word_exchange.specs.Rows.{ends_at, inputs_a_scan, own_row}
use Rattle.word_exchange.specs.Scripts.{plant_by, HasDropsOnce}
use Rattle.word_exchange.specs.Sendings.{sending_of, words_if}
use Rattle.word_exchange.specs.Sources.{sources_due, AreFroms}
use Rattle.word_exchange.specs.Starting.{is_drop_of, rule_of, script_or, AreReadersAtStart}
use Rattle.word_exchange.specs.Starting.{AreWiredAtStart, IsOfWires, IsReaderAtStart}
use Rattle.word_exchange.specs.Starting.{IsWiredAtStart}
use Rattle.word_exchange.specs.Wired.{IsWiredRun}
use Rattle.word_exchange.specs.Words.{entries_if, entries_of, is_input_of, last_output}
use Rattle.word_exchange.specs.Words.{words_latest}
use Rattle.word_exchange.proofs.Chains.{nothing-same}
use Rattle.word_exchange.proofs.Following.{history-is, ring-is}
use Rattle.word_exchange.proofs.Matching.{at-any, drop-own, plan-own, wired-as, WiredAs}
use Rattle.word_exchange.proofs.NextRows.{is-drop, named-at}
use Rattle.word_exchange.proofs.Onward.{once-all}
use Rattle.word_exchange.proofs.RowLemmas.{find-passes}
use Rattle.word_exchange.proofs.Runnable.{can-by, Fits}
use Rattle.word_exchange.proofs.Scripted.{plant-is}
use Rattle.word_exchange.proofs.Staying.{sent-if}
use Rattle.word_exchange.proofs.TakingRows.{made-fits, own-fits}
use Rattle.word_exchange.proofs.Tested.{drop-tested}
use Rattle.word_exchange.proofs.Tied.{row-tied}

-- ---- nothing was made

log-by : (plan : ControllerPlan) (rest : Option ControllerLog) (b : Bool) → entries_if rest ≡ []
    → entries_if (cond b (Some (empty_log plan)) rest) ≡ []
log-by plan rest true none = refl
log-by plan rest false none = none

no-entries : (node : ℕ) (plans : List ControllerPlan)
    → entries_if (find (λ (log : ControllerLog). log.node == node) (map empty_log plans)) ≡ []
no-entries node [] = refl
no-entries node (plan ∷ plans) =
    log-by plan (find (λ (log : ControllerLog). log.node == node) (map empty_log plans))
    (plan.node == node) (no-entries node plans)

nothing-entries : (plant : Plant) (node : ℕ) → entries_of node (nothing_made plant) ≡ []
nothing-entries plant node = no-entries node plant.controllers

ring-by : (net : NetPlan) (rest : Option RingLog) (b : Bool) → ring_entries_if rest ≡ []
    → ring_entries_if (cond b (Some (empty_ring_log net)) rest) ≡ []
ring-by net rest true none = refl
ring-by net rest false none = none

no-ring : (network : ℕ) (nets : List NetPlan) → entries_on network (map empty_ring_log nets) ≡ []
no-ring network [] = refl
no-ring network (net ∷ nets) =
    ring-by net (find (λ (ring : RingLog). ring.network == network) (map empty_ring_log nets))
    (net.number == network) (no-ring network nets)

-- ---- whether all scans are gone at the start

first-by : (front rest : List ScanStep) (last : ScanStep) (steps : List ScanStep)
    → steps ≡ front ++ last ∷ [] → is_none (first_step (steps ++ rest)) ≡ false
first-by [] rest last steps is = ap (λ (l : List ScanStep). is_none (first_step (l ++ rest))) is
first-by (x ∷ front) rest last steps is =
    ap (λ (l : List ScanStep). is_none (first_step (l ++ rest))) is

no-scans : (n : ℕ) → (suc n == 0) ≡ false
no-scans n = ne_eqb (suc n) 0 (λ is. absurd (omega (arith, is)))

ended-at : (plant : Plant) (scans : ℕ) (plan : ControllerPlan)
    → has_ended_at (fixed_of plant scans plan) [] ≡ (scans == 0)
ended-at plant zero plan = refl
ended-at plant (suc n) plan =
    let once = due-once plan 1 in
    first-by once.front (scans_from (fixed_of plant (suc n) plan) 2 n) once.last (due plan 1) once.is
    ∙ sym (no-scans n)

and-same : (b : Bool) → (b && b) ≡ b
and-same true = refl
and-same false = refl

all-ended : (plant : Plant) (scans : ℕ) (plan : ControllerPlan) (plans : List ControllerPlan)
    → list_all (log_has_ended plant scans) (zip (plan ∷ plans) (map empty_log (plan ∷ plans)))
    ≡ (scans == 0)
all-ended plant scans plan [] =
    ap (λ (b : Bool). b && true) (ended-at plant scans plan) ∙ by (scans == 0) where
      by : (b : Bool) → (b && true) ≡ b
      by true = refl
      by false = refl
all-ended plant scans plan (next ∷ plans) =
    (λ i. ended-at plant scans plan i && all-ended plant scans next plans i)
    ∙ and-same (scans == 0)

some-ended : (plant : Plant) (scans : ℕ) (plans : List ControllerPlan) → 1 ≤ length plans
    → list_all (log_has_ended plant scans) (zip plans (map empty_log plans)) ≡ (scans == 0)
some-ended plant scans [] some = absurd (omega (arith, some))
some-ended plant scans (plan ∷ plans) some = all-ended plant scans plan plans

pub gone-at-start : (plant : Plant) (scans : ℕ) (serial : SerialIs) → Begins plant scans serial
    → are_gone serial ≡ (scans == 0)
gone-at-start plant scans serial b =
    ended-as plant scans serial.run b.stands.stations
    ∙ ap (all_have_ended plant scans) b.nothing
    ∙ some-ended plant scans plant.controllers b.stands.can.sound.count.from

-- ---- readers at the start

module _ (plant : Plant) (wire : Wire) where
  latest-if : (plan : Option ControllerPlan) (d : Option IoDrop)
      → words_if words_latest plan d (nothing_made plant ∷ [])
      ≡ words_if words_latest plan d []
  latest-if None None = refl
  latest-if None (Some d) = refl
  latest-if (Some plan) None = refl
  latest-if (Some plan) (Some d) =
      ap (λ (l : List Entry).
      unwrap_or (last_output plan d.number l) (replicate (output_total d.modules) 0))
      (nothing-entries plant plan.node)

  sending-start : sending_of plant (nothing_made plant ∷ []) wire ≡ sending_of plant [] wire
  sending-start =
      let plan = plan_of plant wire.from in
      let d = drop_of plant wire.from wire.from_drop in
      let latest = latest-if plan d in
      let sent = sent-if plant (nothing_made plant) plan d in
      λ i. record { wire = wire; latest = latest i; sent = sent i }

pub froms-at-start : (plant : Plant) (froms : List Wire) (readers : List WireReader)
    → AreReadersAtStart plant froms readers → froms_read readers ≡ froms
froms-at-start plant [] [] all = refl
froms-at-start plant [] (r ∷ readers) all = absurd all
froms-at-start plant (from ∷ froms) [] all = absurd all
froms-at-start plant (from ∷ froms) (r ∷ readers) all =
    let here = ap (λ (s : Sending). s.wire) all.0.sending in
    let rest = froms-at-start plant froms readers all.1 in
    λ i. here i ∷ rest i

-- ---- an exchange at its start

module _ (plant : Plant) (wires froms : List Wire) (readers : List WireReader)
    (wired : List WiredDrop) (can : CanExchangeWords plant wires) (all : AreFroms wires froms)
    (starts : AreReadersAtStart plant froms readers)
    (begins : AreWiredAtStart plant wires froms readers wired) where
  same-froms : froms_read readers ≡ froms
  same-froms = froms-at-start plant froms readers starts

  froms-are : AreFroms wires (froms_read readers)
  froms-are = subst (AreFroms wires) (sym same-froms) all

  reader-at : (k : ℕ) (r : WireReader) → slice_get readers k ≡ Some r
      → (from : Wire) × IsReaderAtStart plant from r
  reader-at k r there =
      let it = zip-at (IsReaderAtStart plant) froms readers k r starts there in (it.0, it.2)

  sent-start : All (λ (r : WireReader). r.sending ≡ sending_of plant [] r.sending.wire) readers
  sent-start =
      from-places (λ (r : WireReader). r.sending ≡ sending_of plant [] r.sending.wire) readers
      (λ k r there.
      let it = (reader-at k r there).1 in
      let wire = ap (λ (s : Sending). s.wire) it.sending in
      it.sending ∙ (λ i. sending_of plant [] (sym wire i)))

  -- ---- wired drops

  module _ (one : WiredDrop) (wire : Wire) (at : ℕ) (there : slice_get wires at ≡ Some wire)
      (is : IsWiredAtStart plant wires froms readers wire one) where
    abbrev plan : ControllerPlan
    plan = one.plan.now

    abbrev d : IoDrop
    d = one.drop.now

    node-is : plan.node ≡ wire.node
    node-is = eqb-true plan.node wire.node
        (find-passes (λ (p : ControllerPlan). p.node == wire.node) plant.controllers plan
        is.at.plan_is)

    number-is : d.number ≡ wire.drop
    number-is = eqb-true d.number wire.drop
        (find-passes (λ (e : IoDrop). e.number == wire.drop) plan.drops d
        (named_find plan.drops wire.drop ∙ named-at plant wire.node wire.drop plan d is.at))

    own-drop : IsDrop d
    own-drop = is-drop plant wires wire.node wire.drop plan d can is.at

    is-wired-drop : IsWiredDrop plant wires (froms_read readers) one
    is-wired-drop = record {
      at = record {
        plan_is = ap (plan_of plant) node-is ∙ is.at.plan_is;
        drop_is = (λ i. drop_of plant (node-is i) (number-is i)) ∙ is.at.drop_is;
      };
      wired = at-any (ends_at plan.node d.number) wires at wire there
          (λ i. eq-eqb wire.node plan.node (sym node-is) i
          && eq-eqb wire.drop d.number (sym number-is) i);
      sources = is.sources
          ∙ (λ i. sources_due (sym same-froms i) wires (sym node-is i) (sym number-is i)
          (input_total d.modules));
      inputs = is.inputs ∙ ap (inputs_a_scan plan) (sym number-is);
    }

    script-start : one.script ≡ script_due plant wires plan d []
    script-start =
        is.script ∙ ap (λ (r : ScriptRow). r ∷ [])
        (row-tied plant wires [] readers froms-are sent-start plan.node d.number d.modules
        one.sources.items (own_row d 1) is-wired-drop.sources (own-fits d 1 own-drop))

    script-fits : Fits d one.script
    script-fits =
        subst (Fits d) (sym is.script)
        (made-fits d.modules readers one.sources.items (own_row d 1) (own-fits d 1 own-drop), tt)

    wired-start : (joint : Joint) → entries_of plan.node joint ≡ []
        → IsWiredNow plant wires [] joint one
    wired-start joint none =
        let made : exchanges_in plan d.number joint ≡ 0 =
        ap (count_by (is_input_of plan d.number)) none in
        let inputs = is-wired-drop.inputs in
        let needed = is.needed in
        let counted = is.exchanges in
        let read = is.entries in
        record {
          script = script-start;
          entries = read ∙ sym (ap length none);
          exchanges = counted ∙ sym made;
          needed = omega (arith, needed, inputs, made);
          made = record { few = omega (arith, made); unread = λ _. made };
        }

  wired-at : (k : ℕ) (one : WiredDrop) → slice_get wired k ≡ Some one
      → IsOfWires plant wires froms wires readers one
  wired-at k one there =
      all-at (IsOfWires plant wires froms wires readers) wired k one begins.each there

  place-of : (one : WiredDrop) (o : IsOfWires plant wires froms wires readers one)
      → slice_get wires o.1.0 ≡ Some o.0
  place-of one o = slice_get-get_or wires o.1.0 o.0 o.1.1 ∙ ap Some o.1.2

  pub drops-start : AreWiredDrops plant wires (froms_read readers) wired
  drops-start = record {
    each = from-places (IsWiredDrop plant wires (froms_read readers)) wired (λ k one there.
        let o = wired-at k one there in
        is-wired-drop one o.0 o.1.0 (place-of one o) o.2);
    there = begins.there;
    apart = begins.apart;
  }

  -- ---- the plant with the first rows

  abbrev begun : Plant
  begun = plant_by (rule_of wired) plant

  has-due : All (λ (one : WiredDrop).
      one.script ≡ script_due plant wires one.plan.now one.drop.now []) wired
  has-due =
      from-places (λ (one : WiredDrop).
      one.script ≡ script_due plant wires one.plan.now one.drop.now []) wired (λ k one there.
      let o = wired-at k one there in
      script-start one o.0 o.1.0 (place-of one o) o.2)

  pub begun-is : begun ≡ plant_exchanged plant wires []
  begun-is =
      plant-is plant wires (froms_read readers) wired can.runs.sound (once-all plant wires can)
      drops-start [] has-due

  fits-by : (p : ControllerPlan) (e : IoDrop) (plan-is : plan_of plant p.node ≡ Some p)
      (drop-is : drop_named p.drops e.number ≡ Some e) → IsDrop e → (o : Option WiredDrop)
      → WiredAs plant wires (froms_read readers) wired drops-start p e plan-is drop-is o
      → Fits e (script_or e o)
  fits-by p e plan-is drop-is own None it = own.rows
  fits-by p e plan-is drop-is own (Some one) it =
      let o = wired-at it.0 one it.1 in
      subst (λ (x : IoDrop). Fits x one.script) it.3
      (script-fits one o.0 o.1.0 (place-of one o) o.2)

  pub can-begin : CanRunPlant begun
  can-begin =
      can-by (rule_of wired) plant can.runs (λ k p there j e within.
      let once = all-at HasDropsOnce plant.controllers k p (once-all plant wires can) there in
      let plan-is = plan-own plant k p can.runs.sound there in
      let drop-is = drop-own p j e once within in
      fits-by p e plan-is drop-is
      (drop-tested p e.number e
      (all-at IsRunnablePlan plant.controllers k p can.runs.controllers there)
      (all-at (λ (q : ControllerPlan). first_failed (cop_tests q) ≡ Ok tt) plant.controllers k p
      can.tested there) drop-is)
      (find (is_drop_of p.node e.number) wired)
      (wired-as plant wires (froms_read readers) wired drops-start p e plan-is drop-is))

  -- ---- the exchange

  pub exchanging-start : (scans : ℕ) (serial : SerialIs) → Begins begun scans serial
      → IsExchanging plant wires scans readers wired serial
  exchanging-start scans serial b =
      let fed = plant_exchanged plant wires [] in
      let stands = subst (λ (p : Plant). StandsFor p scans serial) begun-is b.stands in
      let nothing : made_by serial ≡ nothing_made plant =
      b.nothing ∙ ap nothing_made begun-is ∙ nothing-same plant wires [] in
      let none : (node : ℕ) → entries_of node (made_by serial) ≡ [] =
      λ node. ap (entries_of node) nothing ∙ nothing-entries plant node in
      let quiet : (network : ℕ) → noted_on network (made_by serial) ≡ [] =
      λ network. ap (noted_on network) nothing ∙ no-ring network plant.nets in
      record {
        can = can;
        after_each = [];
        stands = record {
          stands = stands;
          repetitions = nothing ∙ sym (nothing-same plant wires []);
        };
        froms = froms-are;
        readers_are = from-places (IsReaderNow plant serial (nothing_made plant ∷ [])) readers
            (λ k r there.
            let it = (reader-at k r there).1 in
            let wire = ap (λ (s : Sending). s.wire) it.sending in
            let from = sym wire in
            record {
              drop = it.drop;
              at = record {
                plan_is = (λ i. plan_of plant (wire i).from) ∙ it.at.plan_is;
                drop_is = (λ i. drop_of plant (wire i).from (wire i).from_drop) ∙ it.at.drop_is;
              };
              sending = it.sending ∙ sym (sending-start plant _)
                  ∙ (λ i. sending_of plant (nothing_made plant ∷ []) (from i));
              read = record {
                entries = it.entries ∙ sym (ap length (history-is r.plan.now.node serial
                    ∙ none r.plan.now.node));
                ring = it.ring ∙ sym (ap length (ring-is r.plan.now.network serial
                    ∙ quiet r.plan.now.network));
              };
            });
        drops = drops-start;
        wired_are = from-places (IsWiredNow plant wires [] (made_by serial)) wired
            (λ k one there.
            let o = wired-at k one there in
            wired-start one o.0 o.1.0 (place-of one o) o.2 (made_by serial)
            (none one.plan.now.node));
      }

-- ---- the exchange is over

pub wired-run : (plant : Plant) (wires : List Wire) (scans : ℕ) (readers : List WireReader)
    (wired : List WiredDrop) (serial : SerialIs) (fed : Plant) (noted : Noted)
    → HasExchanged plant wires scans readers wired serial → IsNotedOfEach serial noted
    → fed ≡ plant_by (rule_of wired) plant
    → IsWiredRun plant wires scans (record { plant = fed; noted = noted })
wired-run plant wires scans readers wired serial fed noted over each is =
    let x = over.now in
    let moments = before_each (nothing_made plant) x.after_each in
    let due = plant_exchanged plant wires moments in
    let same : fed ≡ due =
    is ∙ plant-is plant wires (froms_read readers) wired x.can.runs.sound
    (once-all plant wires x.can) x.drops moments (λ k d within. (x.wired_are k d within).script) in
    let ends = each due scans x.stands.stands in
    subst (λ (p : Plant). IsWiredRun plant wires scans (record { plant = p; noted = noted }))
    (sym same)
    (record {
      exchange = record {
        after_each = x.after_each;
        last = made_by serial;
        repetitions = x.stands.repetitions;
        ended = sym (ended-as due scans serial.run x.stands.stands.stations) ∙ over.gone;
        fed_is = ap (λ (j : Joint). plant_exchanged plant wires (before_each j x.after_each))
            (sym (nothing-same plant wires moments));
        finishes = ends.finishes;
      };
      run = ends.run;
      runs = x.stands.stands.can;
    })

-- ---- what a word exchange begins with

-- the from drops, the readers and the wired drops of a plant, and the plant with the first rows
pub record BeginsWith (plant : Plant) (wires froms : List Wire) (readers : List WireReader)
    (wired : List WiredDrop) (begun : Plant) : Type 0 where
  pub can : CanExchangeWords plant wires
  pub all : AreFroms wires froms
  pub starts : AreReadersAtStart plant froms readers
  pub wired_are : AreWiredAtStart plant wires froms readers wired
  pub begun_is : begun ≡ plant_by (rule_of wired) plant

module _ (plant : Plant) (wires froms : List Wire) (readers : List WireReader)
    (wired : List WiredDrop) (begun : Plant)
    (b : BeginsWith plant wires froms readers wired begun) where
  pub begun-runs : CanRunPlant begun
  begun-runs = subst CanRunPlant (sym b.begun_is)
      (can-begin plant wires froms readers wired b.can b.all b.starts b.wired_are)

  pub begun-exchanging : (scans : ℕ) (serial : SerialIs) → Begins begun scans serial
      → IsExchanging plant wires scans readers wired serial
  begun-exchanging scans serial begins =
      exchanging-start plant wires froms readers wired b.can b.all b.starts b.wired_are scans serial
      (subst (λ (p : Plant). Begins p scans serial) b.begun_is begins)

-- what holds of all wires holds of those from which the readers read
pub all-among : (P : Wire → Type 0) (wires froms : List Wire) → All P wires
    → All (Contains wires) froms → All P froms
all-among P wires froms all among k d within =
    let there = among k d within in
    subst P there.2 (all there.0 (get_or froms k d) there.1)
