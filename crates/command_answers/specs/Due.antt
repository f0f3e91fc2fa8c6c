-- What is due for a command and an input: a status, and the text that goes with it. This project's
-- own.
use Rattle.std.specs.Prelude.{◌≡◌, ℕ, codes, Bool, true, false, ◌⊎◌, ◌==◌, List, [], ◌∷◌, ◌++◌}
use Rattle.std.specs.Fmt.{decimal}
use Rattle.std.specs.Prelude.{find, map, Option, Some, None, Result, Ok, Err, string_bytes}
use Rattle.plant_types.specs.declared.fault.PlantFault.{PlantFault}
use Rattle.plant_types.specs.declared.fault.Place.{Place}
use Rattle.plant_types.specs.declared.plan.ControllerPlan.{ControllerPlan}
use Rattle.plant_types.specs.declared.plan.Plant.{Plant}
use Rattle.plant_types.specs.declared.net.Fate.{Fate}
use Rattle.plant_types.specs.Checks.{sizes_of}
use Rattle.plant_types.specs.Plans.{net_of}
use Rattle.plant_types.specs.Fault.{fault_text, place_text}
use Rattle.plant_tables.specs.Refusals.{Refusal}
use Rattle.plant_loader.specs.Plant.{plant_of}
use Rattle.plant_tables.specs.declared.tables.Version.TheVariants.{Two}
use Rattle.plant_gen.specs.Text.{plant_text}
use Rattle.controller_core.specs.declared.fixed.Fixed.{Fixed}
use Rattle.controller_core.specs.Controller.{IsLegal}
use Rattle.joint_history.specs.declared.joint.Joint.{Joint}
use Rattle.joint_history.specs.JointLaws.{fixed_of}
use Rattle.joint_history.specs.Noted.{IsNoted}
use Rattle.joint_history.specs.Runnable.{CanRunPlant}
use Rattle.route_laws.specs.Effects.{EffectsAreRight}
use Rattle.entry_causes.specs.Joint.{IsInOneOrder}
use Rattle.end_times.specs.Joint.{AreBridgesInTime}
use Rattle.one_exchange.specs.TurnLaws.{NoneSpent}
use Rattle.one_exchange.specs.SerialRun.{IsSerial}
use Rattle.peer_cop.specs.declared.wire.Wire.{Wire}
use Rattle.peer_cop.specs.Lines.{lines_of}
use Rattle.peer_cop.specs.Wires.{AreWires, IsFirstBad}
use Rattle.one_exchange.specs.Runs.{IsExchange}
use Rattle.joint_law.specs.Spots.{IsWholeRun}
use Rattle.journal_text.specs.Fronts.{IsJournalOf}
use Rattle.journal_text.specs.Journal.{journal}
use Rattle.panel_text.specs.Panel.{panel}
use Rattle.panel_session.specs.Serving.{frame_request, numbered_frames, requests_taken}
use Rattle.panel_session.specs.Session.{bench_history, bench_text}
use Rattle.standby_pair.specs.Pair.{RepliesComeOnceOrTwice, SwitchesInTime, pair_text}
use Rattle.summary_text.specs.Summary.{summary}
use Rattle.flow_text.specs.Power.{flow}
use Rattle.field_machine.specs.Alone.{is_alone}
use Rattle.field_machine.specs.Asked.{can_ask, is_so}
use Rattle.field_machine.specs.Never.{IsFirstSo, IsNeverSo}
use Rattle.field_machine.specs.declared.asked.Asked.{Asked}
use Rattle.field_machine.specs.declared.asked.Asked.TheVariants as asks
use Rattle.never_text.specs.Texts.{fails_text, holds_text}
use Rattle.field_pair.specs.declared.alike.Difference.{Difference}
use Rattle.field_pair.specs.declared.alike.Difference.TheVariants as differences
use Rattle.field_pair.specs.Alike.{IsFirstDifference}
use Rattle.field_pair.specs.Same.{ApartRuns, IsFirstApart, IsSameFor}
use Rattle.same_text.specs.Texts.{apart_text}
use Rattle.command_answers.specs.declared.answered.Answer.{Answer}
use Rattle.command_answers.specs.declared.judging.Judged.{Judged}
use Rattle.command_answers.specs.declared.judging.Judged.TheVariants.{Whole, Illegal}
use Rattle.command_answers.specs.declared.status.Status.{Status}
use Rattle.command_answers.specs.declared.status.Status.TheVariants as ends
use Rattle.command_words.specs.declared.words.Command.{Command}
use Rattle.command_words.specs.declared.words.Command.TheVariants.{Cop, Do, Flow, Gen}
use Rattle.command_words.specs.declared.words.Command.TheVariants.{Never, Same, Session, Standby}
use Rattle.command_words.specs.declared.words.Question.{Question}
use Rattle.command_words.specs.declared.words.Question.TheVariants.{On, Stop}
use Rattle.command_words.specs.declared.words.Task.{Task}
use Rattle.command_words.specs.declared.words.Task.TheVariants.{Run, Trace, Check, Replay}
use Rattle.command_answers.specs.Cut.{IsCut, IsCutAtNew, IsCutAtPort, IsCutAtWires}
use Rattle.command_answers.specs.Judged.{IsIllegalAt, IsRunRead}
use Rattle.joint_history.specs.Nets.{noted_on_rings}

-- A status and the text that goes with it.
pub record Due : Type 0 where
  pub status : Status
  pub text : List ℕ

-- What an answer tells.
abbrev pub as_due : Answer → Due
as_due answer = record { status = answer.status; text = answer.text.items }

-- The line that says what is wrong, and where.
abbrev pub refusal_line : List ℕ → List ℕ → List ℕ
refusal_line fault place = codes "refused " ++ (fault ++ (codes " " ++ (place ++ codes "\n")))

-- The line that names a fault of a plant file and its place.
abbrev pub refusal_text : PlantFault → Place → List ℕ
refusal_text fault place = refusal_line (fault_text fault) (place_text place)

-- The line that names a spot of a journal.
abbrev pub illegal_text : List ℕ → List ℕ
illegal_text spot = codes "illegal " ++ spot

-- What an answer says of an illegal journal.
abbrev pub illegal_at : List ℕ → Due
illegal_at spot = record { status = ends.Illegal; text = illegal_text spot }

-- Whether a command reads the input.
abbrev pub reads_input : Command → Bool
reads_input (Do task scans) = true
reads_input (Gen number scans) = false
reads_input (Session node scans) = true
reads_input (Flow first last) = true
reads_input (Standby node fail scans) = true
reads_input (Never node asked depth) = true
reads_input (Cop scans) = true
reads_input (Same node depth) = true

-- Whether a task takes the joint history of a journal after the plant file, and not that of a run.
abbrev pub judges : Task → Bool
judges Run = false
judges Trace = false
judges Check = true
judges Replay = true

-- The plant file of a command and the journal: parts of the input where a journal is read, and
-- else the whole input, or the text that a number stands for, and no journal.
abbrev pub IsTaskFile : Bool → List ℕ → List ℕ → List ℕ → Type 0
IsTaskFile true input file journal = IsCut input file journal
IsTaskFile false input file journal = (file ≡ input) × (journal ≡ [])

-- The plant file of a command, and what stands after it: a journal, the bytes of a port, wires, or
-- another plant file; for a number the file that it stands for.
abbrev pub IsFile : Command → List ℕ → List ℕ → List ℕ → Type 0
IsFile (Do task scans) input file behind = IsTaskFile (judges task) input file behind
IsFile (Gen number scans) input file behind = (file ≡ plant_text number) × (behind ≡ [])
IsFile (Session node scans) input file behind = IsCutAtPort input file behind
IsFile (Flow first last) input file behind = IsCut input file behind
IsFile (Standby node fail scans) input file behind = IsCutAtPort input file behind
IsFile (Never node asked depth) input file behind = (file ≡ input) × (behind ≡ [])
IsFile (Cop scans) input file behind = IsCutAtWires input file behind
IsFile (Same node depth) input file behind = IsCutAtNew input file behind

-- The joint history is that of the plant's serial run, and a complete run: legal, with the laws
-- between its lists kept, and complete; the entries of each ring and of the stations on it have one
-- order in time, in which each stands after its cause; and each bridge is in time with the nodes
-- of its ends.
pub record IsWholeSerialRun (plant : Plant) (scans : ℕ) (joint : Joint) : Type 0 where
  pub serial : IsSerial plant scans joint
  pub whole : IsWholeRun plant scans joint
  pub in_time : IsInOneOrder plant joint
  pub bridges_in_time : AreBridgesInTime joint

-- The joint history that a command is about: that of the journal, or of the serial run.
abbrev pub IsHistory : Bool → Plant → ℕ → List ℕ → Joint → Type 0
IsHistory true plant scans journal joint = IsRunRead plant scans journal joint
IsHistory false plant scans journal joint = IsWholeSerialRun plant scans joint

-- What was found of the joint history that a task is about: that of the journal or of the run, with
-- what its controllers noted, or the spot of a journal.
abbrev pub IsFound : Bool → Plant → ℕ → List ℕ → Judged → Type 0
IsFound reads plant scans behind (Whole noted) =
    IsHistory reads plant scans behind noted.joint × IsNoted plant noted
IsFound reads plant scans behind (Illegal spot) =
    (reads ≡ true) × IsIllegalAt plant scans behind (string_bytes spot)

-- What a task writes of a joint history: the panel, before it the journal, or a word alone.
abbrev pub task_text : Task → Plant → Joint → List ℕ
task_text Run plant joint = panel plant joint
task_text Trace plant joint = journal joint ++ panel plant joint
task_text Check plant joint = codes "legal\n"
task_text Replay plant joint = panel plant joint

-- A plant's run is shown: a joint history, that of the journal or of the run, in which each call
-- takes effect at its target at most once, and exactly once if it reports success, whose journal
-- tells all of it, and of which this is the text.
pub record IsShown (reads : Bool) (plant : Plant) (scans : ℕ) (behind : List ℕ)
    (text_of : Joint → List ℕ) (what : Due)
    : Type 0 where
  pub joint : Joint
  pub history : IsHistory reads plant scans behind joint
  pub effects : EffectsAreRight joint
  pub told : IsJournalOf joint (journal joint)
  pub status : what.status ≡ ends.Ok
  pub text : what.text ≡ text_of joint

-- What is due with a plant and a journal that is not that of a complete run: the line of its first
-- spot.
pub record IsIllegal (reads : Bool) (plant : Plant) (scans : ℕ) (behind : List ℕ) (what : Due)
    : Type 0 where
  pub reads_it : reads ≡ true
  pub spot : List ℕ
  pub breaks : IsIllegalAt plant scans behind spot
  pub status : what.status ≡ ends.Illegal
  pub text : what.text ≡ illegal_text spot

-- What is due for a task with a plant: the text of its joint history, or the line of an illegal
-- journal.
abbrev pub IsTaskDue : Task → ℕ → Plant → List ℕ → Due → Type 0
IsTaskDue task scans plant behind what =
    IsShown (judges task) plant scans behind (task_text task plant) what
    ⊎ IsIllegal (judges task) plant scans behind what

-- The plan with this node, if there is one.
abbrev pub plan_at : ℕ → List ControllerPlan → Option ControllerPlan
plan_at node plans = find (λ plan. plan.node == node) plans

-- A refusal of a command with a plant that is accepted.
abbrev pub refused_with : List ℕ → List ℕ → Due
refused_with fault place = record { status = ends.Refused; text = refusal_line fault place }

-- A session or a pair asks for a node without a controller.
abbrev pub no_controller : Due
no_controller = refused_with (codes "17 NoController") (codes "session")

-- What is due for a session of a controller: the text of its bench for the bytes of the port. The
-- history of that bench is legal, and it has taken each frame for the controller once, in order.
pub record IsSessionShown (fixed : Fixed) (port : List ℕ) (what : Due) : Type 0 where
  pub legal : IsLegal fixed (bench_history fixed port)
  pub served : requests_taken (bench_history fixed port)
      ≡ map frame_request (numbered_frames fixed.plan.node port)
  pub status : what.status ≡ ends.Ok
  pub text : what.text ≡ bench_text fixed port

-- What is due for a session by whether there is a controller with the node.
abbrev pub IsSessionDue : Option ControllerPlan → ℕ → Plant → List ℕ → Due → Type 0
IsSessionDue None scans plant port what = what ≡ no_controller
IsSessionDue (Some plan) scans plant port what =
    IsSessionShown (fixed_of plant scans plan) port what

-- What is due for a pair of a controller: what its primary writes on a bench, which fails after a
-- scan, and its standby, for the bytes of the port, where the fates of what is sent are taken in
-- turn. The history of the standby at the end is that of the bench, and legal; it goes on in time,
-- and the replies of each scan are written once or twice.
pub record IsPairShown (fixed : Fixed) (fates : List Fate) (port : List ℕ) (fail : ℕ)
    (what : Due)
    : Type 0 where
  pub legal : IsLegal fixed (bench_history fixed port)
  pub in_time : SwitchesInTime fixed fates port fail
  pub replies : RepliesComeOnceOrTwice fixed fates port fail
  pub status : what.status ≡ ends.Ok
  pub text : what.text ≡ pair_text fixed fates port fail

-- What is due for a pair by whether there is a controller with the node; the fates are those of the
-- controller's network.
abbrev pub IsPairDue : Option ControllerPlan → ℕ → ℕ → Plant → List ℕ → Due → Type 0
IsPairDue None fail scans plant port what = what ≡ no_controller
IsPairDue (Some plan) fail scans plant port what =
    IsPairShown (fixed_of plant scans plan) (net_of plant plan.node).fates port fail what

-- What a word asks, as the search of a field takes it.
abbrev pub asked_of : Question → Asked
asked_of (On at) = asks.On at
asked_of Stop = asks.Stopped

-- It is asked of a node without a controller; of a controller that is not alone, as it has power
-- rows or message blocks; and of a reference that the controller does not have.
abbrev pub never_no_controller : Due
never_no_controller = refused_with (codes "17 NoController") (codes "never")

abbrev pub not_alone : ℕ → Due
not_alone node = refused_with (codes "19 NotAlone") (codes "controller " ++ decimal node)

abbrev pub no_reference : Due
no_reference = refused_with (codes "20 NoReference") (codes "never")

-- What is due where it is never so in the field of a controller: to how many states runs come, no
-- two of them alike on the cone of what is asked.
pub record IsNever (fixed : Fixed) (asked : Asked) (depth : Option ℕ) (what : Due) : Type 0 where
  pub states : ℕ
  pub never : IsNeverSo fixed asked depth states
  pub status : what.status ≡ ends.Ok
  pub text : what.text ≡ holds_text depth states

-- What is due where it is so after some scan of a run of the field: such a run, than which none is
-- shorter, with what the field brought and what the panel showed.
pub record IsSometimes (fixed : Fixed) (asked : Asked) (depth : Option ℕ) (what : Due)
    : Type 0 where
  pub told : List (List ℕ)
  pub first : IsFirstSo fixed (is_so asked) depth told
  pub status : what.status ≡ ends.Found
  pub text : what.text ≡ fails_text fixed told

-- What is due for a question by whether the controller is alone, and whether it can be asked it.
abbrev pub IsSearched : Bool → Bool → Fixed → Asked → Option ℕ → Due → Type 0
IsSearched false can fixed asked depth what = what ≡ not_alone fixed.plan.node
IsSearched true false fixed asked depth what = what ≡ no_reference
IsSearched true true fixed asked depth what =
    IsNever fixed asked depth what ⊎ IsSometimes fixed asked depth what

-- What is due for a question by whether there is a controller with the node.
abbrev pub IsNeverDue : Option ControllerPlan → Asked → Option ℕ → Plant → Due → Type 0
IsNeverDue None asked depth plant what = what ≡ never_no_controller
IsNeverDue (Some plan) asked depth plant what =
    IsSearched (is_alone plan) (can_ask (sizes_of plan) asked) (fixed_of plant 1 plan) asked
    depth what

-- The first line that is no wire of a plant behind the wires before it, counted from 1.
abbrev pub bad_wire : ℕ → Due
bad_wire line = refused_with (codes "18 BadWire") (codes "wire " ++ decimal line)

-- What is due for the word exchange of a plant and its wires: of the plant with the rows that the
-- wires bring about, which can be run, all that is due for `run`.
pub record IsExchangeShown (plant : Plant) (wires : List Wire) (scans : ℕ) (what : Due)
    : Type 0 where
  pub fed : Plant
  pub runs : CanRunPlant fed
  pub shown : IsShown false fed scans [] (task_text Run fed) what
  pub exchange : IsExchange plant wires scans fed shown.joint

-- The lines behind a plant file are wires of the plant, and what is due for its word exchange.
pub record IsWired (plant : Plant) (scans : ℕ) (behind : List ℕ) (what : Due) : Type 0 where
  pub wires : List Wire
  pub are : AreWires plant (lines_of behind) wires
  pub due : IsExchangeShown plant wires scans what

-- A line behind a plant file is no wire, and the first such line is told.
pub record HasBadWire (plant : Plant) (behind : List ℕ) (what : Due) : Type 0 where
  pub line : ℕ
  pub first : IsFirstBad plant (lines_of behind) line
  pub due : what ≡ bad_wire line

-- What is due for a word exchange.
abbrev pub IsCopDue : ℕ → Plant → List ℕ → Due → Type 0
IsCopDue scans plant behind what = IsWired plant scans behind what ⊎ HasBadWire plant behind what

-- What is due with a fault of the new one of two plants: its refusal, where the place is told to be
-- of the new one.
abbrev pub refused_new : Refusal → Due
refused_new fault = refused_with (fault_text fault.0) (codes "new " ++ place_text fault.1)

-- Two plants are asked of a node without a controller in the old one, or in the new one; of a
-- controller of the new one that is not alone; and of controllers that differ.
abbrev pub no_old_controller : Due
no_old_controller = refused_with (codes "17 NoController") (codes "same")

abbrev pub no_new_controller : Due
no_new_controller = refused_with (codes "17 NoController") (codes "new same")

abbrev pub new_not_alone : ℕ → Due
new_not_alone node = refused_with (codes "19 NotAlone") (codes "new controller " ++ decimal node)

abbrev pub difference_text : Difference → List ℕ
difference_text differences.Panel = codes "panel"
difference_text differences.ScanTime = codes "scan_time"
difference_text (differences.Drop number) = codes "drop " ++ decimal number

abbrev pub not_alike : Difference → Due
not_alike difference = refused_with (codes "21 NotAlike") (difference_text difference)

-- What is due where two controllers do the same: to how many pairs of states their runs come, no
-- two of them alike.
pub record IsSame (old new : Fixed) (depth : Option ℕ) (what : Due) : Type 0 where
  pub pairs : ℕ
  pub same : IsSameFor old new depth pairs
  pub status : what.status ≡ ends.Ok
  pub text : what.text ≡ holds_text depth pairs

-- What is due where two controllers are told apart: two runs side by side, than which none that are
-- told apart are shorter, with what the field brought, and what both panels showed at the end.
pub record IsToldApart (old new : Fixed) (depth : Option ℕ) (what : Due) : Type 0 where
  pub runs : ApartRuns
  pub first : IsFirstApart old new depth runs
  pub status : what.status ≡ ends.Found
  pub text : what.text ≡ apart_text old new runs

-- What is due for two controllers by the first thing in which they differ, if there is one.
abbrev pub IsCompared : Option Difference → Fixed → Fixed → Option ℕ → Due → Type 0
IsCompared (Some difference) old new depth what = what ≡ not_alike difference
IsCompared None old new depth what = IsSame old new depth what ⊎ IsToldApart old new depth what

pub record IsBeside (old new : Fixed) (depth : Option ℕ) (what : Due) : Type 0 where
  pub difference : Option Difference
  pub first : IsFirstDifference old.plan new.plan old.scan_time new.scan_time difference
  pub due : IsCompared difference old new depth what

-- What is due for two controllers by whether the old one is alone, and whether the new one is.
abbrev pub IsBesideAlone : Bool → Bool → Fixed → Fixed → Option ℕ → Due → Type 0
IsBesideAlone false alone old new depth what = what ≡ not_alone old.plan.node
IsBesideAlone true false old new depth what = what ≡ new_not_alone new.plan.node
IsBesideAlone true true old new depth what = IsBeside old new depth what

-- What is due for a node of two plants by whether the old one has a controller with it, and whether
-- the new one has.
abbrev pub IsBesideAt : Option ControllerPlan → Option ControllerPlan → Plant → Plant → Option ℕ
    → Due → Type 0
IsBesideAt None found plant new depth what = what ≡ no_old_controller
IsBesideAt (Some one) None plant new depth what = what ≡ no_new_controller
IsBesideAt (Some one) (Some other) plant new depth what =
    IsBesideAlone (is_alone one) (is_alone other) (fixed_of plant 1 one) (fixed_of new 1 other)
    depth what

-- What is due for a node of a plant, and of a new one by what its file reads as: a plant, or a
-- fault.
abbrev pub IsSameDue : ℕ → Option ℕ → Plant → Result Plant Refusal → Due → Type 0
IsSameDue node depth plant (Ok new) what =
    IsBesideAt (plan_at node plant.controllers) (plan_at node new.controllers) plant new depth what
IsSameDue node depth plant (Err fault) what = what ≡ refused_new fault

-- Whether a journal stands behind a plant file.
abbrev pub has_journal : List ℕ → Bool
has_journal [] = false
has_journal (byte ∷ bytes) = true

-- What is due for what conducted from one scan to another, the last of the run: what conducted in
-- the run of the journal, if there is one, or else in the serial run; or the line of an illegal
-- journal.
abbrev pub IsFlowDue : ℕ → ℕ → Plant → List ℕ → Due → Type 0
IsFlowDue first last plant behind what =
    IsShown (has_journal behind) plant last behind (flow plant first last) what
    ⊎ IsIllegal (has_journal behind) plant last behind what

-- What is due with a plant that is accepted: for a task, for the summary of a run, a session, what
-- conducted, a pair, for what a controller never comes to, for a word exchange, or for two
-- controllers that are to do the same.
abbrev pub IsDueWith : Command → Plant → List ℕ → Due → Type 0
IsDueWith (Do task scans) plant behind what = IsTaskDue task scans plant behind what
IsDueWith (Gen number scans) plant behind what =
    IsShown false plant scans [] (summary plant) what
IsDueWith (Session node scans) plant behind what =
    IsSessionDue (plan_at node plant.controllers) scans plant behind what
IsDueWith (Flow first last) plant behind what = IsFlowDue first last plant behind what
IsDueWith (Standby node fail scans) plant behind what =
    IsPairDue (plan_at node plant.controllers) fail scans plant behind what
IsDueWith (Never node asked depth) plant behind what =
    IsNeverDue (plan_at node plant.controllers) (asked_of asked) depth plant what
IsDueWith (Cop scans) plant behind what = IsCopDue scans plant behind what
IsDueWith (Same node depth) plant behind what =
    IsSameDue node depth plant (plant_of Two behind) what

-- What is due with a plant file that has a fault: its refusal.
abbrev pub refused : Refusal → Due
refused fault = record { status = ends.Refused; text = refusal_text fault.0 fault.1 }

-- What is due by what the plant file reads as: a plant, or a fault.
abbrev pub IsDueOf : Command → List ℕ → Result Plant Refusal → Due → Type 0
IsDueOf command behind (Ok plant) what = IsDueWith command plant behind what
IsDueOf command behind (Err fault) what = what ≡ refused fault

-- A status and a text are due for a command and an input: the input is a plant file and what comes
-- after it, and they are due by what that file reads as.
pub record IsDue (command : Command) (input : List ℕ) (what : Due) : Type 0 where
  pub file : List ℕ
  pub behind : List ℕ
  pub parts : IsFile command input file behind
  pub due : IsDueOf command behind (plant_of Two file) what

-- What is due for a live run of a plant: the journal and the panel of a complete run, in which no
-- node left because its Passes were spent, the entries of each ring and of the stations on it have
-- one order in time, each after its cause, and each bridge is in time with the nodes of its ends.
pub record IsLiveShown (scans : ℕ) (plant : Plant) (what : Due) : Type 0 where
  pub joint : Joint
  pub whole : IsWholeRun plant scans joint
  pub unspent : NoneSpent (noted_on_rings joint)
  pub in_time : IsInOneOrder plant joint
  pub bridges_in_time : AreBridgesInTime joint
  pub effects : EffectsAreRight joint
  pub told : IsJournalOf joint (journal joint)
  pub status : what.status ≡ ends.Ok
  pub text : what.text ≡ task_text Trace plant joint

-- What is due for a live run by what the plant file reads as: a plant, or a fault.
abbrev pub IsLiveDueOf : ℕ → Result Plant Refusal → Due → Type 0
IsLiveDueOf scans (Ok plant) what = IsLiveShown scans plant what
IsLiveDueOf scans (Err fault) what = what ≡ refused fault

-- A status and a text are due for a live run of so many scans and an input, by what the plant file
-- reads as.
abbrev pub IsLiveDue : ℕ → List ℕ → Due → Type 0
IsLiveDue scans input what = IsLiveDueOf scans (plant_of Two input) what
