-- No two answers are due for a command and an input.
use Rattle.std.proofs.Common.{◌≡◌, ◌≢◌, ℕ, ◌+◌, ◌-◌, ◌^◌, ◌<◌, ◌≤◌, Bool, true, false, List, []}
use Rattle.std.proofs.Common.{◌∷◌, ◌++◌, length, take, drop, All, ◌⊎◌, inl, inr, ⊎_elim, Option, Some}
use Rattle.std.proofs.Common.{None, refl, sym, ap, ap₂, subst, ◌∙◌, arith, append_assoc}
use Rattle.std.proofs.Common.{length-append, true≢false}
use Rattle.std.specs.Prelude.{min, Result, Ok, Err}
use Rattle.std.specs.List.{flat_map}
use Rattle.std.proofs.Math.Seq.{drop-append_seam, take-append_seam}
use Rattle.std.proofs.lemmas.Bool.{cases_eq, cases_lt}
use Rattle.std.proofs.lemmas.List.Concat.{flat_map-cons}
use Rattle.std.proofs.lemmas.List.Elements.{All-head, All-tail}
use Rattle.plant_types.specs.declared.plan.ControllerPlan.{ControllerPlan}
use Rattle.plant_types.specs.declared.plan.Plant.{Plant}
use Rattle.plant_tables.specs.Refusals.{Refusal}
use Rattle.plant_types.specs.Plans.{IsPlant}
use Rattle.plant_loader.specs.Plant.{plant_of}
use Rattle.plant_tables.specs.declared.tables.Version.TheVariants.{Two}
use Rattle.plant_loader.proofs.LoadedLemmas.{IsLoaded, gives-loaded}
use Rattle.joint_history.specs.declared.joint.Joint.{Joint}
use Rattle.journal_text.specs.Fronts.{IsFront, IsJournal, IsText, IsWrongLine}
use Rattle.journal_lines.specs.Lines.{IsLine, with_feed}
use Rattle.journal_text.specs.Laws.{OneHistoryOfAText}
use Rattle.journal_text.proofs.StepGoes.{line_is}
use Rattle.joint_law.specs.Agreement.{VerdictsAgree}
use Rattle.joint_law.specs.Spots.{IsSpot}
use Rattle.joint_law.specs.declared.verdict.Spot.{Spot}
use Rattle.joint_law.specs.declared.verdict.Verdict.TheVariants.{Legal, Illegal}
use Rattle.one_exchange.specs.Runs.{IsRunOf, OneSerialRun}
use Rattle.panel_text.specs.Panel.{panel}
use Rattle.peer_cop.specs.declared.wire.Wire.{Wire}
use Rattle.peer_cop.specs.Lines.{lines_of}
use Rattle.peer_cop.specs.Tested.{TestedPlantsCanBeWired}
use Rattle.one_exchange.specs.OneExchange.{IsExchangeRun, OneExchange}
use Rattle.summary_text.specs.Summary.{summary}
use Rattle.flow_text.specs.Power.{flow}
use Rattle.controller_core.specs.declared.fixed.Fixed.{Fixed}
use Rattle.plant_types.specs.Checks.{sizes_of}
use Rattle.joint_history.specs.JointLaws.{fixed_of}
use Rattle.joint_history.specs.Runnable.{CanRunPlant}
use Rattle.field_runs.specs.Played.{with_scripts}
use Rattle.field_machine.specs.Alone.{is_alone}
use Rattle.field_machine.specs.Asked.{can_ask, is_so}
use Rattle.never_text.specs.Texts.{holds_text}
use Rattle.field_machine.specs.declared.asked.Asked.{Asked}
use Rattle.field_pair.specs.declared.alike.Difference.{Difference}
use Rattle.same_text.specs.OneAnswer.{OneAnswerSame}
use Rattle.command_answers.specs.declared.status.Status.{Status}
use Rattle.command_answers.specs.declared.status.Status.TheVariants as ends
use Rattle.command_words.specs.declared.words.Command.{Command}
use Rattle.command_words.specs.declared.words.Command.TheVariants.{Cop, Do, Flow, Gen}
use Rattle.command_words.specs.declared.words.Command.TheVariants.{Never, Same, Session, Standby}
use Rattle.input_cuts.specs.Cut.{CanCut, IsCutAfter, IsCutBefore}
use Rattle.command_answers.specs.Cut.{journal_mark, new_mark, port_mark, wires_mark}
use Rattle.command_answers.specs.Judged.{IsIllegalAt, IsNoRun, IsRunRead, wrong_line_text}
use Rattle.command_answers.specs.Judged.{spot_text}
use Rattle.command_answers.specs.Due.{Due, IsCopDue, IsDueOf, IsDueWith, IsExchangeShown, IsFile}
use Rattle.command_answers.specs.Due.{IsBeside, IsBesideAlone, IsBesideAt, IsCompared, IsHistory}
use Rattle.command_answers.specs.Due.{IsIllegal, IsSameDue, bad_wire}
use Rattle.command_answers.specs.Due.{IsNever, IsNeverDue, IsPairDue, IsSearched, IsSessionDue}
use Rattle.command_answers.specs.Due.{IsShown, IsSometimes, IsTaskFile, asked_of, has_journal}
use Rattle.command_answers.specs.Due.{IsWholeSerialRun, illegal_text, judges, plan_at, task_text}
use Rattle.command_answers.specs.OneDue.{Agree, OneDue}
use Rattle.command_answers.proofs.CountOne.{count-one}
use Rattle.command_answers.proofs.OneWired.{bad-one, wires-one, wires-or_bad}

-- ---- where an input is cut

-- of two cuts of an input neither is before the other
cut-not_before : (mark input file back file' back' : List ℕ) → IsCutBefore mark input file back
    → IsCutBefore mark input file' back'
    → length file < length file' → ⊥
cut-not_before mark input file back file' back' cut cut' less =
    ⊎_elim (λ (none : back ≡ []).
    let size = ap length (cut.whole ∙ sym cut'.whole) in
    let one = length-append file back in
    let other = length-append file' back' in
    let empty : length back ≡ 0 = ap length none in
    absurd (omega (arith, less, size, one, other, empty)))
    (λ (can : CanCut mark file back). cut'.first file back cut.whole less can) cut.begins

cut-size : (mark input file back file' back' : List ℕ) → IsCutBefore mark input file back
    → IsCutBefore mark input file' back'
    → length file ≡ length file'
cut-size mark input file back file' back' cut cut' =
    ⊎_elim (λ (same : length file ≡ length file'). same)
    (λ (apart : length file ≢ length file'). absurd (⊎_elim
    (λ (less : length file < length file').
    cut-not_before mark input file back file' back' cut cut' less)
    (λ (more : length file' ≤ length file).
    cut-not_before mark input file' back' file back cut' cut (omega (arith, apart, more)))
    (cases_lt (length file) (length file'))))
    (cases_eq (length file) (length file'))

-- so an input is cut in one place
cut-one : (mark input file back file' back' : List ℕ) → IsCutBefore mark input file back
    → IsCutBefore mark input file' back'
    → (file ≡ file') × (back ≡ back')
cut-one mark input file back file' back' cut cut' =
    let size = cut-size mark input file back file' back' cut cut' in
    let whole = cut.whole ∙ sym cut'.whole in (
      sym (take-append_seam file back) ∙ ap (λ n. take n (file ++ back)) size
          ∙ ap (take (length file')) whole
          ∙ take-append_seam file' back',
      sym (drop-append_seam file back) ∙ ap (λ n. drop n (file ++ back)) size
          ∙ ap (drop (length file')) whole
          ∙ drop-append_seam file' back',
    )

task_file-one : (cuts : Bool) (input file behind file' behind' : List ℕ)
    → IsTaskFile cuts input file behind → IsTaskFile cuts input file' behind'
    → (file ≡ file') × (behind ≡ behind')
task_file-one true input file behind file' behind' is is' =
    cut-one journal_mark input file behind file' behind' is is'
task_file-one false input file behind file' behind' is is' = (is.0 ∙ sym is'.0, is.1 ∙ sym is'.1)

after-one : (mark input file behind file' behind' : List ℕ)
    → IsCutAfter mark input file behind → IsCutAfter mark input file' behind'
    → (file ≡ file') × (behind ≡ behind')
after-one mark input file behind file' behind' is is' =
    let same = cut-one mark input file is.back file' is'.back is.cut is'.cut in (
      same.0,
      is.bytes ∙ ap (drop (length mark + 1)) same.1 ∙ sym is'.bytes,
    )

-- and a command has one plant file, and one part of the input behind it
file-one : (command : Command) (input file behind file' behind' : List ℕ)
    → IsFile command input file behind → IsFile command input file' behind'
    → (file ≡ file') × (behind ≡ behind')
file-one (Do task scans) input file behind file' behind' is is' =
    task_file-one (judges task) input file behind file' behind' is is'
file-one (Gen number scans) input file behind file' behind' is is' =
    (is.0 ∙ sym is'.0, is.1 ∙ sym is'.1)
file-one (Session node scans) input file behind file' behind' is is' =
    after-one port_mark input file behind file' behind' is is'
file-one (Flow first last) input file behind file' behind' is is' =
    cut-one journal_mark input file behind file' behind' is is'
file-one (Standby node fail scans) input file behind file' behind' is is' =
    after-one port_mark input file behind file' behind' is is'
file-one (Never node asked depth) input file behind file' behind' is is' =
    (is.0 ∙ sym is'.0, is.1 ∙ sym is'.1)
file-one (Cop scans) input file behind file' behind' is is' =
    after-one wires_mark input file behind file' behind' is is'
file-one (Same node depth) input file behind file' behind' is is' =
    after-one new_mark input file behind file' behind' is is'

-- ---- the first wrong line

-- lines and what stands behind them, from the end of the first one on
lines-first : (line : List ℕ) (lines : List (List ℕ)) (rest : List ℕ)
    → flat_map with_feed (line ∷ lines) ++ rest ≡ line ++ 10 ∷ (flat_map with_feed lines ++ rest)
lines-first line lines rest =
    ap (λ bytes. bytes ++ rest) (flat_map-cons with_feed line lines)
    ∙ append_assoc (with_feed line) (flat_map with_feed lines) rest
    ∙ append_assoc line (10 ∷ []) (flat_map with_feed lines ++ rest)

-- one line before both, what more lines begin with stays so
lines-next : (line line' : List ℕ) (lines lines' : List (List ℕ)) (next more : List ℕ)
    → line ≡ line'
    → flat_map with_feed lines' ≡ (flat_map with_feed lines ++ with_feed next) ++ more
    → flat_map with_feed (line' ∷ lines')
    ≡ (flat_map with_feed (line ∷ lines) ++ with_feed next) ++ more
lines-next line line' lines lines' next more same first =
    flat_map-cons with_feed line' lines'
    ∙ ap (λ l. with_feed l ++ flat_map with_feed lines') (sym same)
    ∙ ap (λ bytes. with_feed line ++ bytes) first
    ∙ sym (append_assoc (with_feed line) (flat_map with_feed lines ++ with_feed next) more)
    ∙ ap (λ bytes. bytes ++ more)
    (sym (append_assoc (with_feed line) (flat_map with_feed lines) (with_feed next)))
    ∙ ap (λ bytes. (bytes ++ with_feed next) ++ more) (sym (flat_map-cons with_feed line lines))

-- behind some lines stands the next of more lines
record NextLine (lines lines' : List (List ℕ)) (rest : List ℕ) : Type 0 where
  line : List ℕ
  behind : List ℕ
  more : List ℕ
  is : IsLine line
  there : rest ≡ with_feed line ++ behind
  first : flat_map with_feed lines' ≡ (flat_map with_feed lines ++ with_feed line) ++ more

next-line : (lines lines' : List (List ℕ)) (rest rest' : List ℕ) → All IsLine lines
    → All IsLine lines'
    → flat_map with_feed lines ++ rest ≡ flat_map with_feed lines' ++ rest'
    → length lines < length lines' → NextLine lines lines' rest
next-line [] [] rest rest' each each' same less = absurd (omega (arith, less))
next-line (line ∷ lines) [] rest rest' each each' same less = absurd (omega (arith, less))
next-line [] (line ∷ lines') rest rest' each each' same less = record {
  line = line;
  behind = flat_map with_feed lines' ++ rest';
  more = flat_map with_feed lines';
  is = All-head IsLine line lines' each';
  there = same ∙ ap (λ bytes. bytes ++ rest') (flat_map-cons with_feed line lines')
      ∙ append_assoc (with_feed line) (flat_map with_feed lines') rest';
  first = flat_map-cons with_feed line lines';
}
next-line (line ∷ lines) (line' ∷ lines') rest rest' each each' same less =
    let here = line_is line line' (flat_map with_feed lines ++ rest)
    (flat_map with_feed lines' ++ rest') (All-head IsLine line lines each)
    (All-head IsLine line' lines' each')
    (sym (lines-first line lines rest) ∙ same ∙ lines-first line' lines' rest') in
    let next = next-line lines lines' rest rest' (All-tail IsLine line lines each)
    (All-tail IsLine line' lines' each') here.1 (omega (arith, less)) in
    record {
      line = next.line;
      behind = next.behind;
      more = next.more;
      is = next.is;
      there = next.there;
      first = lines-next line line' lines lines' next.line next.more here.0 next.first;
    }

-- a front of what a journal begins with is one too
front-front : (bytes more : List ℕ) → IsFront (bytes ++ more) → IsFront bytes
front-front bytes more front =
    (more ++ front.0, subst IsJournal (append_assoc bytes more front.0) front.1)

-- no line before the first wrong one is wrong
wrong-not_before : (bytes : List ℕ) (number number' : ℕ) (one : IsWrongLine bytes number)
    (other : IsWrongLine bytes number')
    → length one.lines < length other.lines → ⊥
wrong-not_before bytes number number' one other less =
    let next = next-line one.lines other.lines one.rest other.rest one.each other.each
    (sym one.parts ∙ other.parts) less in
    one.wrong next.line next.behind next.is next.there
    (front-front (flat_map with_feed one.lines ++ with_feed next.line) next.more
    (subst IsFront next.first other.begins))

-- so there is one
wrong-one : (bytes : List ℕ) (number number' : ℕ) → IsWrongLine bytes number
    → IsWrongLine bytes number' → number ≡ number'
wrong-one bytes number number' one other =
    let count = one.count in
    let count' = other.count in
    ⊎_elim (λ (same : length one.lines ≡ length other.lines). omega (arith, same, count, count'))
    (λ (apart : length one.lines ≢ length other.lines). absurd (⊎_elim
    (λ (less : length one.lines < length other.lines).
    wrong-not_before bytes number number' one other less)
    (λ (more : length other.lines ≤ length one.lines).
    wrong-not_before bytes number' number other one (omega (arith, apart, more)))
    (cases_lt (length one.lines) (length other.lines))))
    (cases_eq (length one.lines) (length other.lines))

-- and one number is told of it
text-one : (bytes : List ℕ) (number number' : ℕ) → IsText bytes number → IsText bytes number'
    → number ≡ number'
text-one bytes number number' one other =
    one.told ∙ ap (λ line. min line (2 ^ 32 - 1))
    (wrong-one bytes one.line other.line one.first other.first) ∙ sym other.told

-- ---- what a journal comes to

-- what is known of runs, of word exchanges, of journals and of verdicts
pub record DueLaws : Type 0 where
  pub runs : OneSerialRun
  pub wired : TestedPlantsCanBeWired
  pub exchanges : OneExchange
  pub same : OneAnswerSame
  pub texts : OneHistoryOfAText
  pub verdicts : VerdictsAgree

spot-is : (one other : Spot) → Illegal one ≡ Illegal other → one ≡ other
spot-is one other same = cc

module _ (laws : DueLaws) (plant : Plant) (sound : IsPlant plant) (scans : ℕ) (bytes : List ℕ) where
  -- the spots of two readings of one text are one
  run-spots : (spot spot' : List ℕ) → IsNoRun plant scans bytes spot
      → IsNoRun plant scans bytes spot' → spot ≡ spot'
  run-spots spot spot' one other =
      let same = laws.texts one.joint other.joint bytes one.read other.read in
      let breaks = subst (λ (joint : Joint). IsSpot plant scans joint other.there)
      (sym same) other.breaks in
      let there = laws.verdicts plant scans one.joint (Illegal one.there)
      (Illegal other.there) sound one.breaks breaks in
      one.text ∙ ap spot_text (spot-is one.there other.there there) ∙ sym other.text

  -- one spot shows that bytes are no journal of a whole run
  illegal-one : (spot spot' : List ℕ) → IsIllegalAt plant scans bytes spot
      → IsIllegalAt plant scans bytes spot' → spot ≡ spot'
  illegal-one spot spot' (inl one) (inl other) =
      one.text ∙ ap wrong_line_text (text-one bytes one.line other.line one.wrong other.wrong)
      ∙ sym other.text
  illegal-one spot spot' (inl one) (inr other) = absurd (one.wrong.none (other.joint, other.read))
  illegal-one spot spot' (inr one) (inl other) = absurd (other.wrong.none (one.joint, one.read))
  illegal-one spot spot' (inr one) (inr other) = run-spots spot spot' one other

  -- and none shows it where they are one
  whole-or_illegal : (joint : Joint) (spot : List ℕ) → IsRunRead plant scans bytes joint
      → IsIllegalAt plant scans bytes spot → ⊥
  whole-or_illegal joint spot read (inl none) = none.wrong.none (joint, read.read)
  whole-or_illegal joint spot read (inr none) =
      let same = laws.texts joint none.joint bytes read.read none.read in
      let breaks = subst (λ (other : Joint). IsSpot plant scans other none.there)
      (sym same) none.breaks in
      let both = laws.verdicts plant scans joint Legal
      (Illegal none.there) sound read.whole breaks in
      absurd (cc)

  -- a command is about one joint history
  history-one : (reads : Bool) (joint joint' : Joint) → IsHistory reads plant scans bytes joint
      → IsHistory reads plant scans bytes joint'
      → joint ≡ joint'
  history-one true joint joint' one other = laws.texts joint joint' bytes one.read other.read
  history-one false joint joint' one other =
      laws.runs plant scans joint joint' sound one.serial (run-of joint one) other.serial
      (run-of joint' other)
    where
      run-of : (some : Joint) → IsWholeSerialRun plant scans some → IsRunOf plant scans some
      run-of some run = record { legal = run.whole.legal; ties = run.whole.tied }

-- ---- what is due

abbrev due-of : Status → List ℕ → Due
due-of status text = record { status = status; text = text }

pub due-is : (one other : Due) → one.status ≡ other.status → one.text ≡ other.text → one ≡ other
due-is one other status text = ap₂ due-of status text

-- one text of a joint history is due
shown-one : DueLaws → (reads : Bool) (plant : Plant) (scans : ℕ) (behind : List ℕ)
    (text_of : Joint → List ℕ) (one other : Due) → IsPlant plant
    → IsShown reads plant scans behind text_of one
    → IsShown reads plant scans behind text_of other → one ≡ other
shown-one laws reads plant scans behind text_of one other sound shown also =
    let same = history-one laws plant sound scans behind reads shown.joint also.joint
    shown.history also.history in
    due-is one other (shown.status ∙ sym also.status)
    (shown.text ∙ ap text_of same ∙ sym also.text)

-- and none with it that is illegal
shown-or_illegal : DueLaws → (reads : Bool) (plant : Plant) (scans : ℕ) (behind : List ℕ)
    (text_of : Joint → List ℕ) (one other : Due) → IsPlant plant
    → IsShown reads plant scans behind text_of one → IsIllegal reads plant scans behind other → ⊥
shown-or_illegal laws reads plant scans behind text_of one other sound shown illegal =
    whole-or_illegal laws plant sound scans behind shown.joint illegal.spot
    (subst (λ reads. IsHistory reads plant scans behind shown.joint) illegal.reads_it
    shown.history) illegal.breaks

-- so for the text of one joint history, or of a journal that is illegal, one thing is due
either-one : DueLaws → (reads : Bool) (plant : Plant) (scans : ℕ) (behind : List ℕ)
    (text_of : Joint → List ℕ) (one other : Due) → IsPlant plant
    → IsShown reads plant scans behind text_of one ⊎ IsIllegal reads plant scans behind one
    → IsShown reads plant scans behind text_of other ⊎ IsIllegal reads plant scans behind other
    → one ≡ other
either-one laws reads plant scans behind text_of one other sound (inl shown) (inl also) =
    shown-one laws reads plant scans behind text_of one other sound shown also
either-one laws reads plant scans behind text_of one other sound (inl shown) (inr illegal) =
    absurd (shown-or_illegal laws reads plant scans behind text_of one other sound shown illegal)
either-one laws reads plant scans behind text_of one other sound (inr illegal) (inl shown) =
    absurd (shown-or_illegal laws reads plant scans behind text_of other one sound shown illegal)
either-one laws reads plant scans behind text_of one other sound (inr illegal) (inr also) =
    let same = illegal-one laws plant sound scans behind illegal.spot also.spot
    illegal.breaks also.breaks in
    due-is one other (illegal.status ∙ sym also.status)
    (illegal.text ∙ ap illegal_text same ∙ sym also.text)

-- and for a session
session-one : (asked : Option ControllerPlan) (scans : ℕ) (plant : Plant) (port : List ℕ)
    (one other : Due)
    → IsSessionDue asked scans plant port one → IsSessionDue asked scans plant port other
    → one ≡ other
session-one None scans plant port one other is is' = is ∙ sym is'
session-one (Some plan) scans plant port one other shown also =
    due-is one other (shown.status ∙ sym also.status) (shown.text ∙ sym also.text)

-- and for a pair
pair-one : (asked : Option ControllerPlan) (fail scans : ℕ) (plant : Plant) (port : List ℕ)
    (one other : Due)
    → IsPairDue asked fail scans plant port one → IsPairDue asked fail scans plant port other
    → one ≡ other
pair-one None fail scans plant port one other is is' = is ∙ sym is'
pair-one (Some plan) fail scans plant port one other shown also =
    due-is one other (shown.status ∙ sym also.status) (shown.text ∙ sym also.text)

-- what is never so is not so after some scan
never-sometimes : {one other : Due} (fixed : Fixed) (asked : Asked) (depth : Option ℕ)
    → IsNever fixed asked depth one → IsSometimes fixed asked depth other → ⊥
never-sometimes fixed asked depth never some =
    let first = some.first in
    let never_so = never.never.never (with_scripts fixed.plan some.told) (length some.told)
    first.plays first.within in
    true≢false (sym first.so ∙ never_so)

-- answers that are the same agree
same-agree : (one other : Due) → one ≡ other → Agree one other
same-agree one other is =
    record { status = ap (λ due. due.status) is; text = λ kept. ap (λ due. due.text) is }

-- and answers that agree are the same where no run was found
pub agree-same : (one other : Due) → one.status ≢ ends.Found → Agree one other → one ≡ other
agree-same one other kept agree = due-is one other agree.status (agree.text kept)

-- what is due of a search agrees
searched-one : (alone can : Bool) (fixed : Fixed) (asked : Asked) (depth : Option ℕ)
    (one other : Due)
    → IsSearched alone can fixed asked depth one → IsSearched alone can fixed asked depth other
    → Agree one other
searched-one false can fixed asked depth one other is is' = same-agree one other (is ∙ sym is')
searched-one true false fixed asked depth one other is is' =
    same-agree one other (is ∙ sym is')
searched-one true true fixed asked depth one other (inl never) (inl also) =
    let same = count-one fixed asked depth never.states also.states never.never also.never in
    same-agree one other (due-is one other (never.status ∙ sym also.status)
    (never.text ∙ ap (holds_text depth) same ∙ sym also.text))
searched-one true true fixed asked depth one other (inl never) (inr some) =
    absurd (never-sometimes fixed asked depth never some)
searched-one true true fixed asked depth one other (inr some) (inl never) =
    absurd (never-sometimes fixed asked depth never some)
searched-one true true fixed asked depth one other (inr some) (inr also) = record {
  status = some.status ∙ sym also.status;
  text = λ kept. absurd (kept some.status);
}

-- and so does what is due of what a controller never comes to
never-one : (found : Option ControllerPlan) (asked : Asked) (depth : Option ℕ) (plant : Plant)
    (one other : Due)
    → IsNeverDue found asked depth plant one → IsNeverDue found asked depth plant other
    → Agree one other
never-one None asked depth plant one other is is' = same-agree one other (is ∙ sym is')
never-one (Some plan) asked depth plant one other is is' =
    searched-one (is_alone plan) (can_ask (sizes_of plan) asked) (fixed_of plant 1 plan) asked depth
    one other is is'

-- and so does what is due of a word exchange
exchange-one : DueLaws → (plant : Plant) (wires : List Wire) (scans : ℕ) (one other : Due)
    → CanRunPlant plant → IsExchangeShown plant wires scans one → IsExchangeShown plant wires scans other
    → one ≡ other
exchange-one laws plant wires scans one other can due due' =
    let shown = due.shown in
    let also = due'.shown in
    let same = laws.exchanges plant wires scans due.fed due'.fed shown.joint also.joint can
    (run-of one due) (run-of other due') in
    due-is one other (shown.status ∙ sym also.status)
    (shown.text ∙ ap₂ panel same.0 same.1 ∙ sym also.text)
  where
    run-of : (what : Due) (some : IsExchangeShown plant wires scans what)
        → IsExchangeRun plant wires scans some.fed some.shown.joint
    run-of what some = record {
      exchange = some.exchange;
      run = record { legal = some.shown.history.whole.legal; ties = some.shown.history.whole.tied };
    }

cop-one : DueLaws → (scans : ℕ) (plant : Plant) (behind : List ℕ) (one other : Due)
    → IsLoaded plant → IsCopDue scans plant behind one → IsCopDue scans plant behind other
    → one ≡ other
cop-one laws scans plant behind one other loaded (inl due) (inl due') =
    let wired = laws.wired plant loaded.checked loaded.drops in
    let same = wires-one plant (lines_of behind) due'.wires due.wires wired due'.are due.are in
    let can : CanRunPlant plant =
    record { sound = loaded.checked; controllers = loaded.runnable } in
    exchange-one laws plant due.wires scans one other can due.due
    (subst (λ (wires : List Wire). IsExchangeShown plant wires scans other) same due'.due)
cop-one laws scans plant behind one other loaded (inl due) (inr bad) =
    absurd (wires-or_bad plant (lines_of behind) due.wires bad.line due.are bad.first)
cop-one laws scans plant behind one other loaded (inr bad) (inl due) =
    absurd (wires-or_bad plant (lines_of behind) due.wires bad.line due.are bad.first)
cop-one laws scans plant behind one other loaded (inr bad) (inr bad') =
    bad.due
    ∙ ap bad_wire (bad-one plant (lines_of behind) bad.line bad'.line bad.first bad'.first)
    ∙ sym bad'.due

-- and so does what is due of two controllers that are to do the same
compared-one : DueLaws → (difference : Option Difference) (old new : Fixed) (depth : Option ℕ)
    (one other : Due) → IsCompared difference old new depth one
    → IsCompared difference old new depth other → Agree one other
compared-one laws (Some difference) old new depth one other is is' =
    same-agree one other (is ∙ sym is')
compared-one laws None old new depth one other (inl same) (inl also) =
    let count = laws.same.count old new depth same.pairs also.pairs same.same also.same in
    same-agree one other (due-is one other (same.status ∙ sym also.status)
    (same.text ∙ ap (holds_text depth) count ∙ sym also.text))
compared-one laws None old new depth one other (inl same) (inr apart) =
    absurd (laws.same.apart old new depth same.pairs apart.runs same.same apart.first)
compared-one laws None old new depth one other (inr apart) (inl same) =
    absurd (laws.same.apart old new depth same.pairs apart.runs same.same apart.first)
compared-one laws None old new depth one other (inr apart) (inr also) = record {
  status = apart.status ∙ sym also.status;
  text = λ kept. absurd (kept apart.status);
}

beside-one : DueLaws → (old new : Fixed) (depth : Option ℕ) (one other : Due)
    → IsBeside old new depth one → IsBeside old new depth other → Agree one other
beside-one laws old new depth one other due due' =
    let same = laws.same.difference old.plan new.plan old.scan_time new.scan_time due'.difference
    due.difference due'.first due.first in
    compared-one laws due.difference old new depth one other due.due
    (subst (λ (difference : Option Difference). IsCompared difference old new depth other) same
    due'.due)

alone-one : DueLaws → (alone new_alone : Bool) (old new : Fixed) (depth : Option ℕ)
    (one other : Due) → IsBesideAlone alone new_alone old new depth one
    → IsBesideAlone alone new_alone old new depth other → Agree one other
alone-one laws false new_alone old new depth one other is is' =
    same-agree one other (is ∙ sym is')
alone-one laws true false old new depth one other is is' = same-agree one other (is ∙ sym is')
alone-one laws true true old new depth one other due due' =
    beside-one laws old new depth one other due due'

at-one : DueLaws → (found new_found : Option ControllerPlan) (plant new : Plant)
    (depth : Option ℕ) (one other : Due) → IsBesideAt found new_found plant new depth one
    → IsBesideAt found new_found plant new depth other → Agree one other
at-one laws None new_found plant new depth one other is is' = same-agree one other (is ∙ sym is')
at-one laws (Some plan) None plant new depth one other is is' =
    same-agree one other (is ∙ sym is')
at-one laws (Some plan) (Some new_plan) plant new depth one other due due' =
    alone-one laws (is_alone plan) (is_alone new_plan) (fixed_of plant 1 plan)
    (fixed_of new 1 new_plan) depth one other due due'

same-one : DueLaws → (node : ℕ) (depth : Option ℕ) (plant : Plant) (read : Result Plant Refusal)
    (one other : Due) → IsSameDue node depth plant read one → IsSameDue node depth plant read other
    → Agree one other
same-one laws node depth plant (Ok new) one other due due' =
    at-one laws (plan_at node plant.controllers) (plan_at node new.controllers) plant new depth
    one other due due'
same-one laws node depth plant (Err fault) one other is is' =
    same-agree one other (is ∙ sym is')

-- with a plant one thing is due
with-one : DueLaws → (command : Command) (plant : Plant) (behind : List ℕ) (one other : Due)
    → IsLoaded plant
    → IsDueWith command plant behind one → IsDueWith command plant behind other
    → Agree one other
with-one laws (Do task scans) plant behind one other loaded due due' =
    same-agree one other
    (either-one laws (judges task) plant scans behind (task_text task plant) one other loaded.checked
    due due')
with-one laws (Gen number scans) plant behind one other loaded due due' =
    same-agree one other
    (shown-one laws false plant scans [] (summary plant) one other loaded.checked due due')
with-one laws (Session node scans) plant behind one other loaded due due' =
    same-agree one other
    (session-one (plan_at node plant.controllers) scans plant behind one other due due')
with-one laws (Flow first last) plant behind one other loaded due due' =
    same-agree one other
    (either-one laws (has_journal behind) plant last behind (flow plant first last) one other
    loaded.checked due due')
with-one laws (Standby node fail scans) plant behind one other loaded due due' =
    same-agree one other
    (pair-one (plan_at node plant.controllers) fail scans plant behind one other due due')
with-one laws (Never node asked depth) plant behind one other loaded due due' =
    never-one (plan_at node plant.controllers) (asked_of asked) depth plant one other due due'
with-one laws (Cop scans) plant behind one other loaded due due' =
    same-agree one other (cop-one laws scans plant behind one other loaded due due')
with-one laws (Same node depth) plant behind one other loaded due due' =
    same-one laws node depth plant (plant_of Two behind) one other due due'

-- and so it is with a plant file
of-one : DueLaws → (command : Command) (file behind : List ℕ) (read : Result Plant Refusal)
    (one other : Due) → plant_of Two file ≡ read
    → IsDueOf command behind read one → IsDueOf command behind read other
    → Agree one other
of-one laws command file behind (Ok plant) one other is due due' =
    let loaded : IsLoaded plant = gives-loaded Two file (Ok plant) is in
    with-one laws command plant behind one other loaded due due'
of-one laws command file behind (Err fault) one other is due due' =
    same-agree one other (due ∙ sym due')

-- so there is one answer
pub due-one : DueLaws → OneDue
due-one laws command input one other due due' =
    let same = file-one command input due.file due.behind due'.file due'.behind
    due.parts due'.parts in
    of-one laws command due.file due.behind (plant_of Two due.file) one other refl due.due
    (subst (λ behind. IsDueOf command behind (plant_of Two due.file) other) (sym same.1)
    (subst (λ file. IsDueOf command due'.behind (plant_of Two file) other) (sym same.0) due'.due))
