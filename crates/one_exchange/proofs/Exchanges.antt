-- Two word exchanges of a plant have the same moments, and so one plant and one joint history.
use Rattle.std.proofs.Common.{◌≡◌, ℕ, true, false, List, [], ◌∷◌, ◌++◌, refl, sym, ap, subst, ◌∙◌}
use Rattle.std.proofs.Common.{append_assoc}
use Rattle.plant_types.specs.declared.plan.ControllerPlan.{ControllerPlan}
use Rattle.plant_types.specs.declared.plan.Plant.{Plant}
use Rattle.plant_types.specs.Plans.{IsPlant}
use Rattle.joint_history.specs.declared.joint.Joint.{Joint}
use Rattle.joint_history.specs.Runnable.{CanRunPlant}
use Rattle.joint_history.proofs.Collected.{CallLaws}
use Rattle.peer_cop.specs.declared.wire.Wire.{Wire}
use Rattle.word_exchange.specs.SerialRuns.{all_have_ended, Finishes, IsChain, IsRepetition, IsSerial}
use Rattle.word_exchange.specs.SerialRuns.{nothing_made}
use Rattle.one_run.specs.OneRun.{IsRunOf, OneSerialRun}
use Rattle.one_run.proofs.Between.{fine-front, grows-then, Fine, Kept}
use Rattle.one_run.proofs.Runs.{fine-at-last, kept-at-first}
use Rattle.word_exchange.specs.Exchange.{before_each}
use Rattle.word_exchange.specs.Scripts.{plant_by, script_exchanged}
use Rattle.one_exchange.specs.OneExchange.{IsExchangeRun, OneExchange}
use Rattle.one_exchange.proofs.Alike.{Agrees}
use Rattle.one_exchange.proofs.AlikeRuns.{ended-alike, repetition-one}
use Rattle.one_exchange.proofs.Parts.{finish-grows, repetitions-grow}
use Rattle.one_exchange.proofs.Moments.{agrees-first, agrees-next, has-lists-first, like}
use Rattle.one_exchange.proofs.Moments.{lists-next, nothing-by, plans as plans_by}
use Rattle.one_exchange.proofs.Moments.{ExchangeLaws, HasLists}
use Rattle.one_exchange.proofs.Ruled.{Rule}
use Rattle.one_exchange.proofs.Runnable.{can-by, exchanged-fits}

-- no flag is both
clash : true ≡ false → ⊥
clash same = cc

module _ (plant : Plant) (wires : List Wire) (scans : ℕ) where
  -- the scripts of an exchange with these moments
  abbrev rule_of : List Joint → Rule
  rule_of moments = script_exchanged plant wires moments

  -- and the plant with them
  abbrev fed_by : List Joint → Plant
  fed_by moments = plant_by (rule_of moments) plant

  -- an exchange by its moments
  record Makes (moments : List Joint) (joint : Joint) : Type 0 where
    can : CanRunPlant (fed_by moments)
    after_each : List Joint
    last : Joint
    moments_are : moments ≡ before_each (nothing_made plant) after_each
    repetitions : IsChain (IsRepetition (fed_by moments) scans) (nothing_made plant) after_each last
    ended : all_have_ended (fed_by moments) scans last ≡ true
    finishes : Finishes (fed_by moments) scans last joint
    run : IsRunOf (fed_by moments) scans joint

  module _ (laws : ExchangeLaws) (calls : CallLaws) where
    -- what came of a repetition holds what the run ends with
    fine-rest : (moments : List Joint) (joint : Joint) (made : Makes moments joint)
        (rest : List Joint) (next : Joint)
        → IsChain (IsRepetition (fed_by moments) scans) next rest made.last
        → Fine (fed_by moments) scans next
    fine-rest moments joint made rest next chain =
        let fed = fed_by moments in
        let sound = made.can.sound in
        fine-front fed scans next joint
        (grows-then fed scans next made.last joint
        (repetitions-grow fed scans sound calls rest next made.last chain)
        (finish-grows fed scans sound calls made.last joint made.finishes))
        (fine-at-last fed scans joint sound made.run.legal made.run.ties)

    -- ---- two exchanges

    module _ (moments others : List Joint) (joint another : Joint) (mine : Makes moments joint)
        (theirs : Makes others another) where
      -- the plants of both
      abbrev fed : Plant
      fed = fed_by moments

      abbrev other : Plant
      other = fed_by others

      -- the controllers of the other one, which are alike
      abbrev plans : List ControllerPlan
      plans = plans_by plant scans (rule_of moments) (rule_of others)

      -- both fixed parts of each controller agree on its list
      abbrev Agree : Joint → Type 0
      Agree made = Agrees fed plans scans (like plant scans (rule_of moments) (rule_of others)) made

      -- all have ended in both plants, or in neither
      ended-both : (made : Joint) → Agree made
          → all_have_ended other scans made ≡ all_have_ended fed scans made
      ended-both made agrees =
          ended-alike fed plans scans (like plant scans (rule_of moments) (rule_of others)) made
          agrees

      -- after the same repetitions so far come the same ones
      same-rest : (before : List Joint) (old : Joint) (rest later : List Joint)
          → moments ≡ before ++ before_each old rest → others ≡ before ++ before_each old later
          → HasLists fed old → Agree old → Kept other scans old
          → IsChain (IsRepetition fed scans) old rest mine.last
          → IsChain (IsRepetition other scans) old later theirs.last → rest ≡ later
      same-rest before old [] [] one two lists agrees kept c d = refl
      same-rest before old [] (new ∷ later) one two lists agrees kept c d =
          absurd (clash (sym mine.ended ∙ ap (all_have_ended fed scans) c
          ∙ sym (ended-both old agrees) ∙ d.0.goes_on))
      same-rest before old (next ∷ rest) [] one two lists agrees kept c d =
          absurd (clash (sym theirs.ended ∙ ap (all_have_ended other scans) d
          ∙ ended-both old agrees ∙ c.0.goes_on))
      same-rest before old (next ∷ rest) (new ∷ later) one two lists agrees kept c d =
          let now = before ++ old ∷ [] in
          let cut : moments ≡ now ++ before_each next rest =
          one ∙ sym (append_assoc before (old ∷ []) (before_each next rest)) in
          let other_cut : others ≡ now ++ before_each new later =
          two ∙ sym (append_assoc before (old ∷ []) (before_each new later)) in
          let agrees_next = agrees-next laws plant wires scans moments others mine.can before old
          next (before_each next rest) (before_each new later) cut other_cut lists c.0 in
          let made = repetition-one fed plans scans
          (like plant scans (rule_of moments) (rule_of others)) mine.can.sound theirs.can.sound
          calls old next new agrees_next kept (fine-rest moments joint mine rest next c.1)
          (fine-rest others another theirs later new d.1) c.0 d.0 in
          let more = same-rest now next rest later cut
          (other_cut ∙ ap (λ (j : Joint). now ++ before_each j later) (sym made.is))
          (lists-next laws plant wires scans moments others mine.can old next lists c.0)
          agrees_next made.kept c.1
          (subst (λ (j : Joint). IsChain (IsRepetition other scans) j later theirs.last)
          (sym made.is) d.1) in
          λ i. made.is i ∷ more i

      -- both begin with a joint history where nothing was made
      start-same : nothing_made fed ≡ nothing_made plant
      start-same = nothing-by plant scans (rule_of moments) (rule_of others)

      -- so they have the same repetitions
      same-after : mine.after_each ≡ theirs.after_each
      same-after = same-rest [] (nothing_made plant) mine.after_each theirs.after_each
          mine.moments_are theirs.moments_are
          (subst (HasLists fed) start-same (has-lists-first fed))
          (agrees-first plant scans (rule_of moments) (rule_of others) laws.counts mine.can)
          (subst (Kept other scans) (nothing-by plant scans (rule_of others) (rule_of moments))
          (kept-at-first other scans))
          mine.repetitions theirs.repetitions

      -- and the same moments
      same-moments : moments ≡ others
      same-moments = mine.moments_are ∙ ap (before_each (nothing_made plant)) same-after
          ∙ sym theirs.moments_are

    -- ---- an exchange is that of its moments

    record IsBy (fed : Plant) (joint : Joint) : Type 0 where
      moments : List Joint
      same : fed ≡ fed_by moments
      makes : Makes moments joint

    is-by : CanRunPlant plant → (fed : Plant) (joint : Joint)
        → IsExchangeRun plant wires scans fed joint → IsBy fed joint
    is-by can fed joint is =
        let e = is.exchange in
        let moments = before_each (nothing_made fed) e.after_each in
        let rule = rule_of moments in
        let same : fed ≡ fed_by moments = e.fed_is ∙ laws.rules.exchanged plant wires moments in
        let start = ap nothing_made same ∙ nothing-by plant scans rule rule in
        record {
          moments = moments;
          same = same;
          makes = record {
            can = can-by rule (exchanged-fits plant wires moments) plant can;
            after_each = e.after_each;
            last = e.last;
            moments_are = ap (λ (j : Joint). before_each j e.after_each) start;
            repetitions = subst (λ (j : Joint). IsChain (IsRepetition (fed_by moments) scans) j
                e.after_each e.last) start
                (subst (λ (p : Plant). IsChain (IsRepetition p scans) (nothing_made fed)
                e.after_each e.last) same e.repetitions);
            ended = subst (λ (p : Plant). all_have_ended p scans e.last ≡ true) same e.ended;
            finishes = subst (λ (p : Plant). Finishes p scans e.last joint) same e.finishes;
            run = subst (λ (p : Plant). IsRunOf p scans joint) same is.run;
          };
        }

  -- its joint history is that of the serial run of its plant
  serial-of : (fed : Plant) (joint : Joint) → IsExchangeRun plant wires scans fed joint
      → IsSerial fed scans joint
  serial-of fed joint is =
      let e = is.exchange in
      record {
        ended_joint = e.last;
        repeats = record {
          behind_each = e.after_each;
          repetitions = e.repetitions;
          ended = e.ended;
        };
        finishes = e.finishes;
      }

-- what is known of exchanges, of calls and of runs
pub record Known : Type 0 where
  pub exchanges : ExchangeLaws
  pub calls : CallLaws
  pub runs : OneSerialRun

pub one : Known → OneExchange
one known plant wires scans fed other joint another can is too =
    let mine = is-by plant wires scans known.exchanges known.calls can fed joint is in
    let theirs = is-by plant wires scans known.exchanges known.calls can other another too in
    let moments = same-moments plant wires scans known.exchanges known.calls mine.moments
    theirs.moments joint another mine.makes theirs.makes in
    let plants : fed ≡ other =
    mine.same ∙ ap (fed_by plant wires scans) moments ∙ sym theirs.same in
    let sound = subst IsPlant (sym mine.same) mine.makes.can.sound in
    let serial = subst (λ (p : Plant). IsSerial p scans another) (sym plants)
    (serial-of plant wires scans other another too) in
    let run = subst (λ (p : Plant). IsRunOf p scans another) (sym plants) too.run in (
      plants,
      known.runs fed scans joint another sound
          (serial-of plant wires scans fed joint is) is.run serial run,
    )
