-- The serial run is one joint history: where each round and each repetition ends is decided.
use Rattle.std.proofs.Common.{◌≡◌, ℕ, ◌+◌, ◌==◌, Bool, true, false, List, []}
use Rattle.std.proofs.Common.{◌∷◌, ◌++◌, length, replicate, refl, sym, ap, subst, ◌∙◌, arith}
use Rattle.std.proofs.Common.{append-nil}
use Rattle.std.specs.Prelude.{if◌then◌else◌}
use Rattle.plant_types.specs.declared.net.NetPlan.{NetPlan}
use Rattle.plant_types.specs.declared.plan.ControllerPlan.{ControllerPlan}
use Rattle.plant_types.specs.declared.plan.Plant.{Plant}
use Rattle.plant_types.specs.Plans.{IsPlant, first_net}
use Rattle.scan_order.specs.Due.{due}
use Rattle.scan_order.specs.declared.due.ScanStep.{ScanStep}
use Rattle.scan_order.specs.declared.due.ScanStep.TheVariants as steps
use Rattle.controller_core.specs.declared.entry.Entry.{Entry}
use Rattle.controller_core.specs.declared.fixed.Fixed.{Fixed}
use Rattle.controller_core.specs.Event.{entry_of}
use Rattle.controller_core.specs.Replay.{ControllerState, apply, replay}
use Rattle.controller_core.specs.Run.{entries_from}
use Rattle.joint_history.specs.declared.joint.ControllerLog.{ControllerLog}
use Rattle.joint_history.specs.declared.joint.Joint.{Joint}
use Rattle.joint_history.specs.JointLaws.{fixed_of, logged}
use Rattle.joint_history.specs.Nets.{noted_on}
use Rattle.joint_history.specs.Reading.{controller_at, has_ended_at}
use Rattle.joint_history.proofs.Collected.{CallLaws}
use Rattle.whole_scan.specs.Scans.{with_scan}
use Rattle.serial_run.specs.declared.order.Turn.{Turn}
use Rattle.serial_run.specs.declared.order.Turn.TheVariants.{Hold}
use Rattle.serial_run.specs.Serial.{Finishes, IsChain, IsLateRound, IsRepetition, IsSerial}
use Rattle.serial_run.specs.Serial.{MakesLateRounds, MakesRound, MakesRoundOfEach, MakesRoundOn}
use Rattle.serial_run.specs.Serial.{MakesRounds, Repeats}
use Rattle.serial_run.specs.Serial.{all_are_out, all_have_ended, away_turns_of, log_with_scan}
use Rattle.serial_run.specs.Serial.{members_on, scanned, visits_of}
use Rattle.serial_run.specs.Turns.{MakesTurns, nothing_made}
use Rattle.one_run.proofs.Meets.{Behind, endings}
use Rattle.one_run.proofs.Places.{at-map, at-zip, map-at, some-same, zip-at}
use Rattle.one_run.proofs.Between.{Fine, Grows, Kept, OneJoint, events-behind, fine-front}
use Rattle.one_run.proofs.Between.{grows-none, grows-then}
use Rattle.one_run.proofs.Runs.{kept-at-first, turns-grow, turns-one}

-- ---- whole scans

-- an event of the scan ends no call
silent-entry : (fixed : Fixed) (s : ControllerState) (step : ScanStep) (more : List Entry)
    → endings (entry_of fixed s step ∷ more) ≡ endings more
silent-entry fixed s steps.Begin more = omega arith
silent-entry fixed s (steps.In row) more = omega arith
silent-entry fixed s (steps.Solve row) more = omega arith
silent-entry fixed s (steps.Out row) more = omega arith
silent-entry fixed s steps.End more = omega arith
silent-entry fixed s steps.Fail more = omega arith
silent-entry fixed s steps.Dark more = omega arith

silent-scan : (fixed : Fixed) (s : ControllerState) (rest : List ScanStep)
    → endings (entries_from fixed s rest) ≡ 0
unfolding entries_from
silent-scan fixed s [] = refl
silent-scan fixed s (step ∷ rest) =
    at (s.stop == 0) (silent-scan fixed (apply fixed s (entry_of fixed s step)) rest)
  where
    at : (b : Bool) → endings (entries_from fixed (apply fixed s (entry_of fixed s step)) rest) ≡ 0
        → endings (if b then entry_of fixed s step ∷ entries_from fixed
        (apply fixed s (entry_of fixed s step)) rest else []) ≡ 0
    at true more = silent-entry fixed s step
        (entries_from fixed (apply fixed s (entry_of fixed s step)) rest) ∙ more
    at false more = refl

record Scanned (entries new : List Entry) : Type 0 where
  noted : List Entry
  is : new ≡ entries ++ noted
  silent : endings noted ≡ 0

-- a scan adds events of the scan
scanned-so : (fixed : Fixed) (entries : List Entry)
    → Scanned entries (with_scan (controller_at fixed entries))
scanned-so fixed entries = at (has_ended_at fixed entries)
  where
    at : (b : Bool)
        → Scanned entries (if b then entries else entries ++ entries_from fixed
        (replay fixed entries) (due fixed.plan ((replay fixed entries).gone + 1)))
    at true = record { noted = []; is = sym (append-nil entries); silent = refl }
    at false = record {
      noted = entries_from fixed (replay fixed entries)
          (due fixed.plan ((replay fixed entries).gone + 1));
      is = refl;
      silent = silent-scan fixed (replay fixed entries)
          (due fixed.plan ((replay fixed entries).gone + 1));
    }

module _ (plant : Plant) (scans : ℕ) (sound : IsPlant plant) (laws : CallLaws) where
  -- whole scans only add
  scan-grows : (joint : Joint) → Grows plant scans joint (scanned plant scans joint)
  scan-grows joint = record {
    rings = λ k. ([], sym (append-nil (noted_on k joint)));
    lists = λ at plan log is.
        let s = scanned-so (fixed_of plant scans plan) log.entries in
        record {
          new_log = log_with_scan plant scans (plan, log);
          is = record {
            plan_is = is.plan_is;
            log_is = at-map (log_with_scan plant scans) (logged plant joint) at (plan, log)
                (at-zip plant.controllers joint.controllers at plan log is.plan_is is.log_is);
          };
          noted = s.noted;
          entries_are = s.is;
        };
    bridges = λ at plan log is. record {
      new_log = log;
      is = record { plan_is = is.plan_is; log_is = is.log_is };
      noted = [];
      entries_are = sym (append-nil log.entries);
    };
  }

  -- and keep what holds between turns
  scan-kept : (joint : Joint) → Kept plant scans joint
      → Kept plant scans (scanned plant scans joint)
  scan-kept joint kept = record {
    there = kept.there;
    none = kept.none;
    behind = λ at plan log is.
        let from = map-at (log_with_scan plant scans) (logged plant joint) at log is.log_is in
        let both = zip-at plant.controllers joint.controllers at from.0 from.1 in
        let same : from.0.0 ≡ plan = some-same (sym both.0 ∙ is.plan_is) in
        let before = kept.behind at plan from.0.1
        (record { plan_is = is.plan_is; log_is = both.1 }) in
        let s = scanned-so (fixed_of plant scans plan) from.0.1.entries in
        subst (λ (l : ControllerLog). Behind plan.node l.entries (noted_on plan.network joint))
        (ap (λ (p : ControllerPlan). log_with_scan plant scans (p, from.0.1)) (sym same)
        ∙ sym from.2)
        (events-behind plant scans plan.node from.0.1.entries s.noted
        (with_scan (controller_at (fixed_of plant scans plan) from.0.1.entries))
        (noted_on plan.network joint) s.is s.silent before);
  }

  -- ---- a relation that makes one thing

  record MakesOne (Came : Joint → Joint → Type 0) : Type 0 where
    grows : (old new : Joint) → Came old new → Grows plant scans old new
    one : (old new new' : Joint) → Kept plant scans old → Fine plant scans new
        → Fine plant scans new' → Came old new → Came old new'
        → OneJoint plant scans new new'

  -- a chain of such only adds
  chain-grows : (Came : Joint → Joint → Type 0) → MakesOne Came
      → (behind : List Joint) (old new : Joint) → IsChain Came old behind new
      → Grows plant scans old new
  chain-grows Came m [] old new c = subst (Grows plant scans old) (sym c)
      (grows-none plant scans old)
  chain-grows Came m (next ∷ behind) old new c =
      grows-then plant scans old next new (m.grows old next c.0)
      (chain-grows Came m behind next new c.1)

  -- of so many
  many-one : (Came : Joint → Joint → Type 0) → MakesOne Came
      → (behind behind' : List Joint) (old new new' : Joint) → length behind ≡ length behind'
      → Kept plant scans old → Fine plant scans new → Fine plant scans new'
      → IsChain Came old behind new → IsChain Came old behind' new'
      → OneJoint plant scans new new'
  many-one Came m [] [] old new new' long kept fine fine' c c' =
      record { is = c ∙ sym c'; kept = subst (Kept plant scans) (sym c) kept }
  many-one Came m [] (next ∷ behind) old new new' long kept fine fine' c c' =
      absurd (omega (arith, long))
  many-one Came m (next ∷ behind) [] old new new' long kept fine fine' c c' =
      absurd (omega (arith, long))
  many-one Came m (next ∷ behind) (next' ∷ behind') old new new' long kept fine fine' c c' =
      let one = m.one old next next' kept
      (fine-front plant scans next new (chain-grows Came m behind next new c.1) fine)
      (fine-front plant scans next' new' (chain-grows Came m behind' next' new' c'.1)
      fine') c.0 c'.0 in
      many-one Came m behind behind' next new new' (omega (arith, long)) one.kept fine fine' c.1
      (subst (λ j. IsChain Came j behind' new') (sym one.is) c'.1)

  -- of as many as it takes
  until-one : (Came : Joint → Joint → Type 0) (Going : Joint → Type 0) → MakesOne Came
      → ((old new : Joint) → Came old new → Going old)
      → (behind behind' : List Joint) (old new new' : Joint) → (Going new → ⊥) → (Going new' → ⊥)
      → Kept plant scans old → Fine plant scans new → Fine plant scans new'
      → IsChain Came old behind new → IsChain Came old behind' new'
      → OneJoint plant scans new new'
  until-one Came Going m goes [] [] old new new' over over' kept fine fine' c c' =
      record { is = c ∙ sym c'; kept = subst (Kept plant scans) (sym c) kept }
  until-one Came Going m goes [] (next ∷ behind) old new new' over over' kept fine fine' c c' =
      absurd (over (subst Going (sym c) (goes old next c'.0)))
  until-one Came Going m goes (next ∷ behind) [] old new new' over over' kept fine fine' c c' =
      absurd (over' (subst Going (sym c') (goes old next c.0)))
  until-one Came Going m goes (next ∷ behind) (next' ∷ behind') old new new' over over' kept
      fine fine' c c' =
      let one = m.one old next next' kept
      (fine-front plant scans next new (chain-grows Came m behind next new c.1) fine)
      (fine-front plant scans next' new' (chain-grows Came m behind' next' new' c'.1)
      fine') c.0 c'.0 in
      until-one Came Going m goes behind behind' next new new' over over' one.kept fine fine' c.1
      (subst (λ j. IsChain Came j behind' new') (sym one.is) c'.1)

  -- ---- rounds and repetitions

  -- a round of one network
  round-on-one : (net : NetPlan) → MakesOne (MakesRoundOn plant scans net)
  round-on-one net = record {
    grows = λ old new m.
        turns-grow plant scans sound laws
        (replicate (members_on net (noted_on net.number old)) (Hold net.number)) old new m;
    one = λ old new new' kept fine fine' m m'.
        turns-one plant scans sound laws
        (replicate (members_on net (noted_on net.number old)) (Hold net.number)) old new new' kept
        fine fine' m m';
  }

  -- rounds of several only add
  each-grows : (nets : List NetPlan) (old new : Joint) → MakesRoundOfEach plant scans nets old new
      → Grows plant scans old new
  each-grows [] old new m = subst (Grows plant scans old) (sym m) (grows-none plant scans old)
  each-grows (net ∷ nets) old new m =
      grows-then plant scans old m.0 new ((round-on-one net).grows old m.0 m.1)
      (each-grows nets m.0 new m.2)

  -- and make one thing
  each-one : (nets : List NetPlan) (old new new' : Joint) → Kept plant scans old
      → Fine plant scans new → Fine plant scans new' → MakesRoundOfEach plant scans nets old new
      → MakesRoundOfEach plant scans nets old new' → OneJoint plant scans new new'
  each-one [] old new new' kept fine fine' m m' =
      record { is = m ∙ sym m'; kept = subst (Kept plant scans) (sym m) kept }
  each-one (net ∷ nets) old new new' kept fine fine' m m' =
      let one = (round-on-one net).one old m.0 m'.0 kept
      (fine-front plant scans m.0 new (each-grows nets m.0 new m.2) fine)
      (fine-front plant scans m'.0 new' (each-grows nets m'.0 new' m'.2) fine') m.1 m'.1 in
      each-one nets m.0 new new' one.kept fine fine' m.2
      (subst (λ j. MakesRoundOfEach plant scans nets j new') (sym one.is) m'.2)

  round-one : MakesOne (MakesRound plant scans)
  round-one = record { grows = each-grows plant.nets; one = each-one plant.nets }

  rounds-one : (count : ℕ) → MakesOne (MakesRounds plant scans count)
  rounds-one count = record {
    grows = λ old new m.
        chain-grows (MakesRound plant scans) round-one m.behind_each old new m.rounds;
    one = λ old new new' kept fine fine' m m'.
        many-one (MakesRound plant scans) round-one m.behind_each m'.behind_each old new new'
        (m.many ∙ sym m'.many) kept fine fine' m.rounds m'.rounds;
  }

  -- turns of one list, one after another
  made-one : (turns : List Turn) → MakesOne (MakesTurns plant scans turns)
  made-one turns = record {
    grows = turns-grow plant scans sound laws turns;
    one = turns-one plant scans sound laws turns;
  }

  -- the visits and rounds of a repetition only add
  back-grows : (old new : Joint) (m : IsRepetition plant scans old new)
      → Grows plant scans m.came_back new
  back-grows old new m =
      grows-then plant scans m.came_back m.visited new
      ((made-one (visits_of plant)).grows m.came_back m.visited m.visits)
      ((rounds-one (first_net plant).rotations).grows m.visited new m.rounds)

  -- so does a repetition
  repetition-grows : (old new : Joint) → IsRepetition plant scans old new
      → Grows plant scans old new
  repetition-grows old new m =
      grows-then plant scans old (scanned plant scans old) new (scan-grows old)
      (grows-then plant scans (scanned plant scans old) m.came_back new
      ((made-one (away_turns_of plant)).grows (scanned plant scans old) m.came_back m.away_turns)
      (back-grows old new m))

  -- and makes one thing
  repetition-same : (old new new' : Joint) → Kept plant scans old → Fine plant scans new
      → Fine plant scans new' → IsRepetition plant scans old new
      → IsRepetition plant scans old new' → OneJoint plant scans new new'
  repetition-same old new new' kept fine fine' m m' =
      let rounds = rounds-one (first_net plant).rotations in
      let back = (made-one (away_turns_of plant)).one (scanned plant scans old) m.came_back
      m'.came_back (scan-kept old kept)
      (fine-front plant scans m.came_back new (back-grows old new m) fine)
      (fine-front plant scans m'.came_back new' (back-grows old new' m') fine')
      m.away_turns m'.away_turns in
      let visited = (made-one (visits_of plant)).one m.came_back m.visited m'.visited back.kept
      (fine-front plant scans m.visited new (rounds.grows m.visited new m.rounds) fine)
      (fine-front plant scans m'.visited new' (rounds.grows m'.visited new' m'.rounds) fine')
      m.visits (subst (λ j. MakesTurns plant scans (visits_of plant) j m'.visited) (sym back.is)
      m'.visits) in
      rounds.one m.visited new new' visited.kept fine fine' m.rounds
      (subst (λ j. MakesRounds plant scans (first_net plant).rotations j new') (sym visited.is)
      m'.rounds)

  repetition-one : MakesOne (IsRepetition plant scans)
  repetition-one = record { grows = repetition-grows; one = repetition-same }

  late-one : MakesOne (IsLateRound plant scans)
  late-one = record {
    grows = λ old new m. round-one.grows old new m.round;
    one = λ old new new' kept fine fine' m m'.
        round-one.one old new new' kept fine fine' m.round m'.round;
  }

  -- ---- the serial run

  clash : {b : Bool} → b ≡ true → b ≡ false → ⊥
  clash yes' no' = let bad : true ≡ false = sym yes' ∙ no' in cc

  -- repetitions until all controllers have ended make one thing
  repeats-one : (old new new' : Joint) → Kept plant scans old → Fine plant scans new
      → Fine plant scans new' → Repeats plant scans old new
      → Repeats plant scans old new' → OneJoint plant scans new new'
  repeats-one old new new' kept fine fine' m m' =
      until-one (IsRepetition plant scans) (λ j. all_have_ended plant scans j ≡ false)
      repetition-one (λ before after c. c.goes_on)
      m.behind_each m'.behind_each old new new' (clash m.ended)
      (clash m'.ended) kept fine fine' m.repetitions m'.repetitions

  -- rounds until every node is out of the ring make one thing
  late-rounds-one : MakesOne (MakesLateRounds plant scans)
  late-rounds-one = record {
    grows = λ old new m. chain-grows (IsLateRound plant scans) late-one m.behind_each
        old new m.rounds;
    one = λ old new new' kept fine fine' m m'.
        until-one (IsLateRound plant scans) (λ j. all_are_out plant scans j ≡ false) late-one
        (λ before after c. c.goes_on) m.behind_each m'.behind_each old new new' (clash m.out)
        (clash m'.out) kept fine fine' m.rounds m'.rounds;
  }

  -- the last visits only add
  last-grows : (old new : Joint) (m : Finishes plant scans old new)
      → Grows plant scans m.emptied new
  last-grows old new m = (made-one (visits_of plant)).grows m.emptied new m.visits

  finishes-grow : (old new : Joint) → Finishes plant scans old new → Grows plant scans old new
  finishes-grow old new m = grows-then plant scans old m.emptied new
      (late-rounds-one.grows old m.emptied m.rounds) (last-grows old new m)

  -- those rounds and the last visits make one thing
  finishes-one : (old new new' : Joint) → Kept plant scans old → Fine plant scans new
      → Fine plant scans new' → Finishes plant scans old new
      → Finishes plant scans old new' → OneJoint plant scans new new'
  finishes-one old new new' kept fine fine' m m' =
      let emptied = late-rounds-one.one old m.emptied m'.emptied kept
      (fine-front plant scans m.emptied new (last-grows old new m) fine)
      (fine-front plant scans m'.emptied new' (last-grows old new' m') fine')
      m.rounds m'.rounds in
      (made-one (visits_of plant)).one m.emptied new new' emptied.kept fine fine' m.visits
      (subst (λ j. MakesTurns plant scans (visits_of plant) j new') (sym emptied.is) m'.visits)

  -- and so does the serial run
  pub serial-one : (joint joint' : Joint) → Fine plant scans joint → Fine plant scans joint'
      → IsSerial plant scans joint → IsSerial plant scans joint'
      → joint ≡ joint'
  serial-one joint joint' fine fine' m m' =
      let ended = repeats-one (nothing_made plant) m.ended_joint m'.ended_joint
      (kept-at-first plant scans)
      (fine-front plant scans m.ended_joint joint
      (finishes-grow m.ended_joint joint m.finishes) fine)
      (fine-front plant scans m'.ended_joint joint'
      (finishes-grow m'.ended_joint joint' m'.finishes) fine') m.repeats m'.repeats in
      (finishes-one m.ended_joint joint joint' ended.kept fine fine' m.finishes
      (subst (λ j. Finishes plant scans j joint') (sym ended.is) m'.finishes)).is
