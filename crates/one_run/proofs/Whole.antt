-- What the laws of turns and of runs ask.
use Rattle.std.proofs.Common.{ℕ, true, List, refl}
use Rattle.plant_types.specs.declared.net.NetPlan.{NetPlan}
use Rattle.controller_core.specs.declared.entry.Entry.{Entry}
use Rattle.controller_core.specs.declared.fixed.Fixed.{Fixed}
use Rattle.ring_core.specs.declared.entry.RingEntry.{RingEntry}
use Rattle.serial_run.specs.TurnLaws.{StandsTied}
use Rattle.joint_history.proofs.Collected.{CallLaws}
use Rattle.one_run.specs.OneRun.{IsRunOf, OneSerialRun, OneTurnsRun}
use Rattle.one_run.specs.OneTurn.{OneHostTurn, OneTurn, OneVisit}
use Rattle.plant_types.specs.declared.plan.Plant.{Plant}
use Rattle.plant_types.specs.Plans.{IsPlant}
use Rattle.joint_history.specs.declared.joint.Joint.{Joint}
use Rattle.serial_run.specs.Turns.{nothing_made}
use Rattle.one_run.proofs.Meets.{May, behind-tied, meets-tied}
use Rattle.one_run.proofs.HostTurn.{host-same}
use Rattle.one_run.proofs.Between.{Fine}
use Rattle.one_run.proofs.Runs.{fine-at-last, kept-at-first, turns-one}
use Rattle.one_run.proofs.Serial.{serial-one}
use Rattle.one_run.proofs.Turn.{turn-same, visit-same}

may-stands : (fixed : Fixed) (net : NetPlan) (n : ℕ) (known : List Entry) (ring : List RingEntry)
    → StandsTied fixed net n known ring → May fixed net n known ring
may-stands fixed net n known ring s =
    record { legal = s.legal; ring_legal = s.on.legal; meets = meets-tied n known ring s.tied }

pub turns : CallLaws → OneTurn
turns laws fixed net budget left left' a b b' x y y' none old t new t' new' =
    let n = fixed.plan.node in
    let same = turn-same laws fixed net n refl budget left left' a b b' x y y'
    (behind-tied n a x old.tied) (λ p f. none p refl f) t
    (may-stands fixed net n b y new) t' (may-stands fixed net n b' y' new') in
    (same.0.known_is, same.0.ring_is, same.1)

pub visits : CallLaws → OneVisit
visits laws fixed net a b b' x y y' old v new v' new' =
    let n = fixed.plan.node in
    let same = visit-same laws fixed net n refl true a b b' x y y' (behind-tied n a x old.tied) v
    (may-stands fixed net n b y new) v'
    (may-stands fixed net n b' y' new') in
    (same.known_is, same.ring_is)

pub hosts : OneHostTurn
hosts net n plan budget left left' a b b' x y y' t legal t' legal' =
    host-same net n plan budget left left' a b b' x y y' t legal t' legal'

-- ---- whole runs

fine-of : (plant : Plant) (scans : ℕ) (joint : Joint) → IsPlant plant
    → IsRunOf plant scans joint → Fine plant scans joint
fine-of plant scans joint sound run = fine-at-last plant scans joint sound run.legal run.ties

pub turns-run : CallLaws → OneTurnsRun
turns-run laws plant scans order one other sound m run m' run' =
    (turns-one plant scans sound laws order (nothing_made plant) one other
    (kept-at-first plant scans)
    (fine-of plant scans one sound run)
    (fine-of plant scans other sound run') m m').is

pub serials : CallLaws → OneSerialRun
serials laws plant scans one other sound m run m' run' =
    serial-one plant scans sound laws one other (fine-of plant scans one sound run)
    (fine-of plant scans other sound run') m m'
