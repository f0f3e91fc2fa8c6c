-- A repetition as parts, each of them turns in an order that is seen as it begins; parts from one
-- joint history make one thing.
use Rattle.std.proofs.Common.{◌≡◌, ℕ, zero, suc, Bool, true, false, List, [], ◌∷◌, ◌++◌, length}
use Rattle.std.proofs.Common.{map, replicate, refl, sym, ap, subst, ◌∙◌, append-nil, arith}
use Rattle.std.specs.Prelude.{◌+◌, ◌==◌, if◌then◌else◌}
use Rattle.plant_types.specs.declared.net.NetPlan.{NetPlan}
use Rattle.plant_types.specs.declared.plan.ControllerPlan.{ControllerPlan}
use Rattle.plant_types.specs.declared.plan.Plant.{Plant}
use Rattle.plant_types.specs.Plans.{first_net, IsPlant}
use Rattle.scan_order.specs.Due.{due}
use Rattle.scan_order.specs.declared.due.ScanStep.{ScanStep}
use Rattle.scan_order.specs.declared.due.ScanStep.TheVariants as steps
use Rattle.controller_core.specs.declared.entry.Entry.{Entry}
use Rattle.controller_core.specs.declared.fixed.Fixed.{Fixed}
use Rattle.controller_core.specs.Event.{entry_of}
use Rattle.controller_core.specs.Replay.{ControllerState, apply, replay}
use Rattle.controller_core.specs.Run.{entries_from}
use Rattle.whole_scan.specs.Scans.{with_scan}
use Rattle.joint_history.specs.declared.joint.ControllerLog.{ControllerLog}
use Rattle.joint_history.specs.declared.joint.Joint.{Joint}
use Rattle.joint_history.specs.JointLaws.{fixed_of, logged}
use Rattle.joint_history.specs.Nets.{noted_on}
use Rattle.joint_history.specs.Reading.{controller_at, has_ended_at}
use Rattle.joint_history.proofs.Collected.{CallLaws}
use Rattle.word_exchange.specs.SerialRuns.{Turn}
use Rattle.word_exchange.specs.SerialRuns.{Hold}
use Rattle.word_exchange.specs.SerialRuns.{away_turns_of, log_with_scan, members_on, scanned, visits_of}
use Rattle.word_exchange.specs.SerialRuns.{Finishes, IsChain, IsLateRound, IsRepetition, MakesRound}
use Rattle.word_exchange.specs.SerialRuns.{MakesRoundOfEach}
use Rattle.word_exchange.specs.SerialRuns.{IsControllerAt, MakesTurns}
use Rattle.one_run.proofs.Meets.{endings, Behind}
use Rattle.one_run.proofs.Places.{at-map, at-zip, map-at, some-same, zip-at}
use Rattle.one_run.proofs.Between.{events-behind, fine-front, grows-none, grows-then, Fine, Grows}
use Rattle.one_run.proofs.Between.{Kept, OneJoint}
use Rattle.one_run.proofs.Runs.{turns-grow, turns-one}

-- turns in an order that is seen in the joint history before them
abbrev pub Part : Type 0
Part = Joint → List Turn

-- parts one after another
abbrev pub MakesParts : Plant → ℕ → List Part → Joint → Joint → Type 0
MakesParts plant scans [] old new = new ≡ old
MakesParts plant scans (part ∷ parts) old new =
    (next : Joint) × MakesTurns plant scans (part old) old next
    × MakesParts plant scans parts next new

-- a round of each of these networks
abbrev pub round_parts : List NetPlan → List Part
round_parts nets = map (λ (net : NetPlan) (joint : Joint).
    replicate (members_on net (noted_on net.number joint)) (Hold net.number)) nets

-- so many times
abbrev pub many_times : ℕ → List Part → List Part
many_times zero parts = []
many_times (suc n) parts = parts ++ many_times n parts

-- a repetition after its scans
abbrev pub repetition_parts : Plant → List Part
repetition_parts plant =
    (λ (joint : Joint). away_turns_of plant) ∷ (λ (joint : Joint). visits_of plant)
    ∷ many_times (first_net plant).rotations (round_parts plant.nets)

module _ (plant : Plant) (scans : ℕ) where
  -- parts after parts
  parts-join : (front rest : List Part) (old mid new : Joint)
      → MakesParts plant scans front old mid → MakesParts plant scans rest mid new
      → MakesParts plant scans (front ++ rest) old new
  parts-join [] rest old mid new m more =
      subst (λ (j : Joint). MakesParts plant scans rest j new) m more
  parts-join (part ∷ front) rest old mid new m more =
      (m.0, m.1, parts-join front rest m.0 mid new m.2 more)

  -- a round makes its parts
  round-parts : (nets : List NetPlan) (old new : Joint) → MakesRoundOfEach plant scans nets old new
      → MakesParts plant scans (round_parts nets) old new
  round-parts [] old new m = m
  round-parts (net ∷ nets) old new m = (m.0, m.1, round-parts nets m.0 new m.2)

  -- and so do many, one after another
  chain-parts : (Came : Joint → Joint → Type 0) (parts : List Part)
      → ((old new : Joint) → Came old new → MakesParts plant scans parts old new)
      → (after_each : List Joint) (old new : Joint) → IsChain Came old after_each new
      → MakesParts plant scans (many_times (length after_each) parts) old new
  chain-parts Came parts each [] old new c = c
  chain-parts Came parts each (next ∷ after_each) old new c =
      parts-join parts (many_times (length after_each) parts) old next new (each old next c.0)
      (chain-parts Came parts each after_each next new c.1)

  -- a repetition makes them after its scans
  pub repetition-parts : (old new : Joint) → IsRepetition plant scans old new
      → MakesParts plant scans (repetition_parts plant) (scanned plant scans old) new
  repetition-parts old new r = (
    r.came_back,
    r.away_turns,
    (
      r.visited,
      r.visits,
      subst (λ (n : ℕ). MakesParts plant scans (many_times n (round_parts plant.nets)) r.visited
          new) r.rounds.many
          (chain-parts (MakesRound plant scans) (round_parts plant.nets)
          (round-parts plant.nets) r.rounds.behind_each r.visited new r.rounds.rounds),
    ),
  )

  -- and so does the end of a run
  finish-parts : (old new : Joint) → Finishes plant scans old new
      → (parts : List Part) × MakesParts plant scans parts old new
  finish-parts old new f =
      let rounds = many_times (length f.rounds.behind_each) (round_parts plant.nets) in
      let visits : List Part = (λ (joint : Joint). visits_of plant) ∷ [] in (
        rounds ++ visits,
        parts-join rounds visits old f.emptied new
            (chain-parts (IsLateRound plant scans) (round_parts plant.nets)
            (λ before after late. round-parts plant.nets before after late.round)
            f.rounds.behind_each old f.emptied f.rounds.rounds)
            (new, f.visits, refl),
      )

-- ---- whole scans

-- an event of the scan ends no call
silent-entry : (fixed : Fixed) (s : ControllerState) (step : ScanStep) (more : List Entry)
    → endings (entry_of fixed s step ∷ more) ≡ endings more
silent-entry fixed s steps.Begin more = omega arith
silent-entry fixed s (steps.In row) more = omega arith
silent-entry fixed s (steps.Solve row) more = omega arith
silent-entry fixed s (steps.Out row) more = omega arith
silent-entry fixed s steps.End more = omega arith
silent-entry fixed s steps.Fail more = omega arith
silent-entry fixed s steps.Dark more = omega arith

-- nor do an event and others that end none
silent-if : (b : Bool) (fixed : Fixed) (s : ControllerState) (step : ScanStep)
    (more : List Entry) → endings more ≡ 0
    → endings (if b then entry_of fixed s step ∷ more else []) ≡ 0
silent-if true fixed s step more none = silent-entry fixed s step more ∙ none
silent-if false fixed s step more none = refl

-- nor does a scan
silent-scan : (fixed : Fixed) (s : ControllerState) (rest : List ScanStep)
    → endings (entries_from fixed s rest) ≡ 0
unfolding entries_from
silent-scan fixed s [] = refl
silent-scan fixed s (step ∷ rest) =
    silent-if (s.stop == 0) fixed s step
    (entries_from fixed (apply fixed s (entry_of fixed s step)) rest)
    (silent-scan fixed (apply fixed s (entry_of fixed s step)) rest)

-- a scan adds entries that end no call
record ScanAdds (old new : List Entry) : Type 0 where
  noted : List Entry
  is : new ≡ old ++ noted
  silent : endings noted ≡ 0

-- where it has ended it adds nothing
adds-if : (b : Bool) (h events : List Entry) → endings events ≡ 0
    → ScanAdds h (if b then h else h ++ events)
adds-if true h events none = record { noted = []; is = sym (append-nil h); silent = refl }
adds-if false h events none = record { noted = events; is = refl; silent = none }

-- so does the next whole scan
scan-adds : (fixed : Fixed) (h : List Entry) → ScanAdds h (with_scan (controller_at fixed h))
scan-adds fixed h =
    let s = replay fixed h in
    let steps_due = due fixed.plan (s.gone + 1) in
    adds-if (has_ended_at fixed h) h (entries_from fixed s steps_due)
    (silent-scan fixed s steps_due)

module _ (plant : Plant) (scans : ℕ) where
  -- a controller's list after its scan
  abbrev with_its_scan : ControllerPlan → ControllerLog → ControllerLog
  with_its_scan plan log = log_with_scan plant scans (plan, log)

  -- stands at its place
  pub scanned-at : (joint : Joint) (at : ℕ) (plan : ControllerPlan) (log : ControllerLog)
      → IsControllerAt plant joint at plan log
      → IsControllerAt plant (scanned plant scans joint) at plan (with_its_scan plan log)
  scanned-at joint at plan log is = record {
    plan_is = is.plan_is;
    log_is = at-map (log_with_scan plant scans) (logged plant joint) at (plan, log)
        (at-zip plant.controllers joint.controllers at plan log is.plan_is is.log_is);
  }

  -- scans only add
  pub scan-grows : (joint : Joint) → Grows plant scans joint (scanned plant scans joint)
  scan-grows joint = record {
    rings = λ k. ([], sym (append-nil (noted_on k joint)));
    lists = λ at plan log is.
        let s = scan-adds (fixed_of plant scans plan) log.entries in
        record {
          new_log = with_its_scan plan log;
          is = scanned-at joint at plan log is;
          noted = s.noted;
          entries_are = s.is;
        };
    bridges = λ at plan log is. record {
      new_log = log;
      is = record { plan_is = is.plan_is; log_is = is.log_is };
      noted = [];
      entries_are = sym (append-nil log.entries);
    };
  }

  -- and keep what holds between turns
  pub scan-kept : (joint : Joint) → Kept plant scans joint
      → Kept plant scans (scanned plant scans joint)
  scan-kept joint kept = record {
    there = kept.there;
    none = kept.none;
    behind = λ at plan log is.
        let from = map-at (log_with_scan plant scans) (logged plant joint) at log is.log_is in
        let both = zip-at plant.controllers joint.controllers at from.0 from.1 in
        let same : from.0.0 ≡ plan = some-same (sym both.0 ∙ is.plan_is) in
        let old = from.0.1 in
        let before = kept.behind at plan old
        (record { plan_is = is.plan_is; log_is = both.1 }) in
        let s = scan-adds (fixed_of plant scans plan) old.entries in
        subst (λ (l : ControllerLog). Behind plan.node l.entries (noted_on plan.network joint))
        (ap (λ (x : ControllerPlan). with_its_scan x old) (sym same) ∙ sym from.2)
        (events-behind plant scans plan.node old.entries s.noted
        (with_its_scan plan old).entries (noted_on plan.network joint) s.is s.silent before);
  }

  -- ---- parts only add, and make one thing

  module _ (sound : IsPlant plant) (laws : CallLaws) where
    -- parts only add
    pub parts-grow : (parts : List Part) (old new : Joint) → MakesParts plant scans parts old new
        → Grows plant scans old new
    parts-grow [] old new m = subst (Grows plant scans old) (sym m) (grows-none plant scans old)
    parts-grow (part ∷ parts) old new m =
        let first = turns-grow plant scans sound laws (part old) old m.0 m.1 in
        grows-then plant scans old m.0 new first (parts-grow parts m.0 new m.2)

    -- and from one joint history they make one
    pub parts-one : (parts : List Part) (old new other : Joint) → Kept plant scans old
        → Fine plant scans new → Fine plant scans other → MakesParts plant scans parts old new
        → MakesParts plant scans parts old other → OneJoint plant scans new other
    parts-one [] old new other kept fine fine' m m' =
        record { is = m ∙ sym m'; kept = subst (Kept plant scans) (sym m) kept }
    parts-one (part ∷ parts) old new other kept fine fine' m m' =
        let next = turns-one plant scans sound laws (part old) old m.0 m'.0 kept
        (fine-front plant scans m.0 new (parts-grow parts m.0 new m.2) fine)
        (fine-front plant scans m'.0 other (parts-grow parts m'.0 other m'.2) fine') m.1 m'.1 in
        parts-one parts m.0 new other next.kept fine fine' m.2
        (subst (λ (j : Joint). MakesParts plant scans parts j other) (sym next.is) m'.2)

    -- a repetition only adds
    pub repetition-grows : (old new : Joint) → IsRepetition plant scans old new
        → Grows plant scans old new
    repetition-grows old new r =
        grows-then plant scans old (scanned plant scans old) new (scan-grows old)
        (parts-grow (repetition_parts plant) (scanned plant scans old) new
        (repetition-parts plant scans old new r))

    -- so do repetitions
    pub repetitions-grow : (after_each : List Joint) (old new : Joint)
        → IsChain (IsRepetition plant scans) old after_each new → Grows plant scans old new
    repetitions-grow [] old new c =
        subst (Grows plant scans old) (sym c) (grows-none plant scans old)
    repetitions-grow (next ∷ after_each) old new c =
        grows-then plant scans old next new (repetition-grows old next c.0)
        (repetitions-grow after_each next new c.1)

    -- and so does the end of a run
    pub finish-grows : (old new : Joint) → Finishes plant scans old new
        → Grows plant scans old new
    finish-grows old new f =
        let it = finish-parts plant scans old new f in parts-grow it.0 old new it.1
