-- A serial run that was turned, fed or finished.
use Rattle.std.proofs.Common.{◌≡◌, ◌≤◌, ℕ, suc, Bool, true, false, not, List, [], ◌∷◌, length, map}
use Rattle.std.proofs.Common.{refl, sym, ap, subst, ◌∙◌, arith}
use Rattle.std.proofs.Common.{Result, Ok, Err, OnErr, OnOk}
use Rattle.std.specs.List.{All, Contains}
use Rattle.plant_types.specs.declared.drops.ScriptRow.{ScriptRow}
use Rattle.plant_types.specs.declared.net.NetPlan.{NetPlan}
use Rattle.plant_types.specs.declared.plan.ControllerPlan.{ControllerPlan}
use Rattle.plant_types.specs.declared.plan.Plant.{Plant}
use Rattle.plant_types.specs.Plans.{first_net, net_numbers, IsPlant}
use Rattle.serial_run.specs.RouteLaws.{AllEffectsAreRight}
use Rattle.serial_run.specs.EntryCauses.{JointIsInOneOrder}
use Rattle.controller_core.specs.Notes.{NotesAskNoScans}
use Rattle.joint_history.specs.declared.joint.Joint.{Joint}
use Rattle.joint_history.specs.declared.noted.Noted.{Noted}
use Rattle.joint_history.specs.Runnable.{CanRunPlant}
use Rattle.serial_run.specs.TurnLaws.{ControllersComplete, HostsComplete}
use Rattle.serial_run.specs.declared.stations.Stations.{Stations}
use Rattle.serial_run.specs.Feeding.{AreAsBefore, CanFeedNode, FedNode}
use Rattle.serial_run.specs.Held.{AllHave, IsOffAway, IsVisited, stations_here}
use Rattle.serial_run.specs.Over.{AreOver, IsNotedRun}
use Rattle.serial_run.specs.Scans.{have_ended, AreBetweenScans, KeepScans}
use Rattle.serial_run.specs.Serial.{Finishes, IsChain, IsRepetition}
use Rattle.serial_run.specs.Stations.{joint_of, station_notes, Did, DidWith, Starts}
use Rattle.serial_run.specs.Turns.{nothing_made}
use Rattle.serial_run.proofs.Finished.{all-complete, ended-kept}
use Rattle.serial_run.proofs.Handed.{noted-run}
use Rattle.serial_run.proofs.Laws.{stand-in-time, stand-joint, stand-legal}
use Rattle.serial_run.proofs.Off.{nobody-away}
use Rattle.serial_run.proofs.Repeats.{one-more-of}
use Rattle.serial_run.proofs.Rounds.{ended-as}
use Rattle.serial_feed.specs.Feeding.{plant_fed}
use Rattle.serial_feed.specs.Standing.{are_gone, made_by, Begins, FedFor, IsWholeRun, SerialIs}
use Rattle.serial_feed.specs.Standing.{IsNotedOfEach, IsRunOfEach, RepeatedIf, StandsFor}
use Rattle.serial_feed.specs.Standing.{StandsForSome}
use Rattle.serial_feed.specs.Standing.{StaysFor, Turned}
use Rattle.serial_feed.proofs.FedRuns.{runs}
use Rattle.serial_feed.proofs.FedStations.{can-in, same-between, same-joint, same-off, same-stand}
use Rattle.serial_feed.proofs.FedStations.{still-stand}

-- ---- the first network

some-number : (plans : List ControllerPlan) (numbers : List ℕ) → 1 ≤ length plans
    → All (λ (p : ControllerPlan). Contains numbers p.network) plans → 1 ≤ length numbers
some-number [] numbers some all = absurd (omega (arith, some))
some-number (p ∷ plans) numbers some all =
    let there = all 0 p (omega arith) in
    let low = there.1 in
    omega (arith, low)

length-numbers : (nets : List NetPlan) → length (map (λ (net : NetPlan). net.number) nets)
    ≡ length nets
length-numbers [] = refl
length-numbers (net ∷ nets) = ap suc (length-numbers nets)

pub some-net : (plant : Plant) → IsPlant plant → 1 ≤ length plant.nets
some-net plant sound =
    let some = some-number plant.controllers (net_numbers plant) sound.count.from
    sound.controllers_there in
    let same = length-numbers plant.nets in
    omega (arith, some, same)

-- ---- a run that begins

pub begins : (plant : Plant) (scans rotations : ℕ) (run : Stations) → CanRunPlant plant
    → Starts plant scans run
    → (first_net plant).rotations ≡ rotations
    → Begins plant scans (record { run = run; rotations = rotations })
begins plant scans rotations run can s same = record {
  stands = record {
    can = can;
    stations = s.stand;
    between = s.between;
    off = nobody-away plant scans run s.stand s.here;
    rotations = same;
    after_each = [];
    repetitions = s.nothing;
  };
  nothing = s.nothing;
}

-- ---- a repetition

module _ (rotations : ℕ) (old new : Stations) where
  abbrev before : SerialIs
  before = record { run = old; rotations = rotations }

  abbrev after_it : SerialIs
  after_it = record { run = new; rotations = rotations }

  pub repeated-stands : DidWith rotations IsRepetition old new → AreBetweenScans new
      → AllHave IsOffAway new → (plant : Plant) (scans : ℕ) → StandsFor plant scans before
      → StandsFor plant scans after_it
  repeated-stands did between off plant scans s =
      let more = one-more-of (IsRepetition plant scans) (nothing_made plant) (joint_of old)
      (joint_of new) (record { behind_each = s.after_each; chain = s.repetitions })
      (did.made plant scans s.stations s.rotations) in
      record {
        can = s.can;
        stations = did.stand plant scans s.stations;
        between = between;
        off = off;
        rotations = s.rotations;
        after_each = more.behind_each;
        repetitions = more.chain;
      }

  pub repeated : have_ended old ≡ false → DidWith rotations IsRepetition old new
      → AreBetweenScans new → AllHave IsOffAway new
      → Turned before after_it (not (have_ended new))
  repeated open' did between off = record {
    stands = repeated-stands did between off;
    made = λ plant scans s.
        subst (λ (b : Bool). RepeatedIf b plant scans (joint_of old) (joint_of new)) (sym open')
        (did.made plant scans s.stations s.rotations);
    goes_on_is = refl;
  }

pub not-repeated : (serial : SerialIs) → are_gone serial ≡ true
    → Turned serial serial (not (are_gone serial))
not-repeated serial gone = record {
  stands = λ plant scans s. s;
  made = λ plant scans s.
      subst (λ (b : Bool). RepeatedIf b plant scans (made_by serial) (made_by serial)) (sym gone)
      refl;
  goes_on_is = refl;
}

-- ---- a row

module _ (rotations : ℕ) (old new : Stations) where
  pub fed-for : (node drop : ℕ) (row : ScriptRow) → StandsForSome (before rotations old new)
      → CanFeedNode node drop row old → FedNode node drop row old new
      → FedFor node drop row (before rotations old new) (after_it rotations old new)
  fed-for node drop row some can fed =
      let s = some.stands in
      record {
        made = (still-stand some.plant some.scans node drop row old new s.stations can fed).joint;
        stands = λ plant scans t.
            let still = still-stand plant scans node drop row old new t.stations can fed in
            record {
              can = still.can t.can;
              stations = still.stand;
              between = still.between t.between;
              off = still.off t.off;
              rotations = t.rotations;
              after_each = t.after_each;
              repetitions = subst (λ (j : Joint). IsChain
                  (IsRepetition (plant_fed plant node drop row) scans)
                  (nothing_made (plant_fed plant node drop row)) t.after_each j) (sym still.joint)
                  (runs plant scans node drop row t.after_each (joint_of old)
                  (can-in plant scans node drop row old t.stations can) t.repetitions);
            };
      }

  pub stays-for : AreAsBefore old new
      → StaysFor (before rotations old new) (after_it rotations old new)
  stays-for same =
      let joint = same-joint old new same in
      record {
        made = joint;
        stands = λ plant scans t. record {
          can = t.can;
          stations = same-stand old new same plant scans t.stations;
          between = same-between old new same t.between;
          off = same-off old new same t.off;
          rotations = t.rotations;
          after_each = t.after_each;
          repetitions = subst (λ (j : Joint). IsChain (IsRepetition plant scans)
              (nothing_made plant) t.after_each j) (sym joint) t.repetitions;
        };
      }

-- ---- the end

pub over-of : ControllersComplete → HostsComplete → (plant : Plant) (scans rotations : ℕ)
    (old new : Stations) → have_ended old ≡ true
    → StandsFor plant scans (record { run = old; rotations = rotations })
    → Did Finishes old new → KeepScans old new → AllHave IsOffAway new → AllHave IsVisited new
    → stations_here new ≡ 0 → AreOver plant scans new
over-of controllers hosts plant scans rotations old new gone s did keep off visited left =
    let stand = did.stand plant scans s.stations in
    record {
      stand = stand;
      serial = record {
        ended_joint = joint_of old;
        repeats = record {
          behind_each = s.after_each;
          repetitions = s.repetitions;
          ended = sym (ended-as plant scans old s.stations) ∙ gone;
        };
        finishes = did.made plant scans s.stations;
      };
      complete = all-complete controllers hosts plant scans new stand left
          (ended-kept old new keep ∙ gone) off visited;
    }

pub whole-of : (plant : Plant) (scans : ℕ) (noted : Noted) → IsNotedRun plant scans noted
    → IsWholeRun plant scans noted.joint
whole-of plant scans noted n = record {
  serial = n.serial;
  legal = n.legal;
  joint = n.joint;
  effects = n.effects;
  in_time = n.in_time;
  bridges_in_time = n.bridges_in_time;
  complete = n.complete;
}

pub noted-each : ControllersComplete → HostsComplete → NotesAskNoScans
    → AllEffectsAreRight → JointIsInOneOrder
    → (rotations : ℕ) (old new : Stations) → have_ended old ≡ true
    → Did Finishes old new → KeepScans old new → AllHave IsOffAway new → AllHave IsVisited new
    → stations_here new ≡ 0 → (noted : Noted) → noted.joint ≡ joint_of new
    → noted.notes ≡ map station_notes new.controllers.items
    → IsNotedOfEach (record { run = old; rotations = rotations }) noted
noted-each controllers hosts law effects order rotations old new gone did keep off visited left
    noted is notes plant scans s =
    let over = over-of controllers hosts plant scans rotations old new gone s did keep off visited
    left in
    let legal = stand-legal plant scans new over.stand in
    record {
      run = noted-run plant scans new noted over
          (effects plant scans (joint_of new) s.stations.sound legal
          (stand-joint plant scans new over.stand))
          (order plant scans (joint_of new) s.stations.sound legal
          (stand-in-time plant scans new over.stand))
          law is notes;
      finishes = subst (Finishes plant scans (joint_of old)) (sym is)
          (did.made plant scans s.stations);
    }

pub runs-each : (serial : SerialIs) (noted : Noted) → IsNotedOfEach serial noted
    → IsRunOfEach serial noted.joint
runs-each serial noted each plant scans s =
    let over = each plant scans s in
    record { run = whole-of plant scans noted over.run; finishes = over.finishes }

-- ---- what came of a call

pub either : {T E P Q S : Type 0} (r : Result T E) → OnOk r P → OnErr r Q → (P → S) → (Q → S) → S
either (Ok x) p q f g = f p
either (Err e) p q f g = g q

pub on-err : {T E P Q : Type 0} (r : Result T E) → (P → Q) → OnErr r P → OnErr r Q
on-err (Ok x) f p = p
on-err (Err e) f p = f p

pub turned-some : (old new : SerialIs) (goes_on : Bool) → Turned old new goes_on
    → StandsForSome old → StandsForSome new
turned-some old new goes_on t some = record {
  plant = some.plant;
  scans = some.scans;
  stands = t.stands some.plant some.scans some.stands;
}

pub fed-some : (node drop : ℕ) (row : ScriptRow) (old new : SerialIs)
    → FedFor node drop row old new → StandsForSome old → StandsForSome new
fed-some node drop row old new f some = record {
  plant = plant_fed some.plant node drop row;
  scans = some.scans;
  stands = f.stands some.plant some.scans some.stands;
}

pub stays-some : (old new : SerialIs) → StaysFor old new → StandsForSome old → StandsForSome new
stays-some old new s some = record {
  plant = some.plant;
  scans = some.scans;
  stands = s.stands some.plant some.scans some.stands;
}
