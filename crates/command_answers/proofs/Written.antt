-- What was written is accepted.
use Rattle.std.proofs.Common.{◌≡◌, ◌++◌, ℕ, List, Result, Ok, Err, inl, inr, refl, sym, ◌∙◌, subst}
use Rattle.std.specs.Prelude.{codes}
use Rattle.plant_types.specs.declared.plan.Plant.{Plant}
use Rattle.plant_tables.specs.Refusals.{Refusal}
use Rattle.plant_loader.specs.Plant.{plant_of}
use Rattle.plant_tables.specs.declared.tables.Version.TheVariants.{Two}
use Rattle.joint_history.specs.declared.joint.Joint.{Joint}
use Rattle.route_laws.specs.Effects.{EffectsAreRight}
use Rattle.joint_law.specs.Spots.{IsWholeRun}
use Rattle.journal_text.specs.Fronts.{IsJournalOf}
use Rattle.journal_text.specs.Journal.{journal}
use Rattle.journal_text.specs.Laws.{OneJournalInFront}
use Rattle.panel_text.specs.Panel.{panel}
use Rattle.command_answers.specs.declared.status.Status.{Status}
use Rattle.command_answers.specs.declared.status.Status.TheVariants as ends
use Rattle.command_words.specs.declared.words.Command.TheVariants.{Do}
use Rattle.command_words.specs.declared.words.Task.TheVariants.{Trace, Check, Replay}
use Rattle.command_answers.specs.Cut.{IsCut}
use Rattle.command_answers.specs.Due.{Due, IsDue, IsDueOf, IsLiveDueOf, refused}
use Rattle.command_answers.specs.OneDue.{Agree, OneDue}
use Rattle.command_answers.proofs.OneDue.{agree-same}
use Rattle.command_answers.specs.Written.{IsAccepted, TellsOneRun, WrittenIsLegal, with_ok}

-- a joint history of a whole run, and what is known of it
record Told (plant : Plant) (scans : ℕ) (joint : Joint) : Type 0 where
  whole : IsWholeRun plant scans joint
  effects : EffectsAreRight joint
  told : IsJournalOf joint (journal joint)

check-due : (scans : ℕ) (file : List ℕ) (plant : Plant) (joint : Joint)
    → plant_of Two file ≡ Ok plant → Told plant scans joint
    → (input : List ℕ) → IsCut input file (journal joint)
    → IsDue (Do Check scans) input (with_ok (codes "legal\n"))
check-due scans file plant joint loaded known input cut = record {
  file = file;
  behind = journal joint;
  parts = cut;
  due = subst (λ (read : Result Plant Refusal). IsDueOf (Do Check scans) (journal joint) read
      (with_ok (codes "legal\n"))) (sym loaded)
      (inl (record {
        joint = joint;
        history = record { read = known.told; whole = known.whole };
        effects = known.effects;
        told = known.told;
        status = refl;
        text = refl;
      }));
}

replay-due : (scans : ℕ) (file : List ℕ) (plant : Plant) (joint : Joint)
    → plant_of Two file ≡ Ok plant → Told plant scans joint
    → (input : List ℕ) → IsCut input file (journal joint)
    → IsDue (Do Replay scans) input (with_ok (panel plant joint))
replay-due scans file plant joint loaded known input cut = record {
  file = file;
  behind = journal joint;
  parts = cut;
  due = subst (λ (read : Result Plant Refusal). IsDueOf (Do Replay scans) (journal joint) read
      (with_ok (panel plant joint))) (sym loaded)
      (inl (record {
        joint = joint;
        history = record { read = known.told; whole = known.whole };
        effects = known.effects;
        told = known.told;
        status = refl;
        text = refl;
      }));
}

-- what agrees with an answer of status Ok is that answer
ok-same : (other : Due) (text : List ℕ) → Agree other (with_ok text) → other ≡ with_ok text
ok-same other text agree =
    agree-same other (with_ok text)
    (λ found. let same : ends.Ok ≡ ends.Found = sym agree.status ∙ found in absurd (cc)) agree

accepted-by : OneDue → (scans : ℕ) (file : List ℕ) (plant : Plant) (joint : Joint)
    → plant_of Two file ≡ Ok plant → Told plant scans joint
    → (input : List ℕ) → IsCut input file (journal joint)
    → IsAccepted scans (panel plant joint) input
accepted-by one scans file plant joint loaded known input cut =
    let legal = check-due scans file plant joint loaded known input cut in
    let shown = replay-due scans file plant joint loaded known input cut in
    record {
      check = record {
        due = legal;
        only = λ other due. ok-same other (codes "legal\n")
            (one (Do Check scans) input other (with_ok (codes "legal\n")) due legal);
      };
      replay = record {
        due = shown;
        only = λ other due. ok-same other (panel plant joint)
            (one (Do Replay scans) input other (with_ok (panel plant joint)) due shown);
      };
    }

tells-one : OneDue → OneJournalInFront → (scans : ℕ) (file : List ℕ) (what : Due) (plant : Plant)
    (joint : Joint) → plant_of Two file ≡ Ok plant
    → Told plant scans joint → what.text ≡ journal joint ++ panel plant joint
    → TellsOneRun scans file what
tells-one one front scans file what plant joint loaded known text = record {
  plant = plant;
  loaded = loaded;
  joint = joint;
  whole = known.whole;
  told = known.told;
  text = text;
  alone = λ other behind is same.
      (front other joint (journal other) (journal joint) behind (panel plant joint) is known.told
      (sym same ∙ text)).0;
  accepted = accepted-by one scans file plant joint loaded known;
}

not_ok : (status : Status) → status ≡ ends.Ok → status ≡ ends.Refused → ⊥
not_ok status is other = absurd cc

module _ (one : OneDue) (front : OneJournalInFront) (scans : ℕ) (file : List ℕ) (what : Due)
    (is : what.status ≡ ends.Ok) where
  refused-not : (fault : Refusal) → what ≡ refused fault → TellsOneRun scans file what
  refused-not fault other = absurd (not_ok what.status is
      (subst (λ (due : Due). due.status ≡ ends.Refused) (sym other) refl))

  of-trace : (behind : List ℕ) (read : Result Plant Refusal) → plant_of Two file ≡ read
      → IsDueOf (Do Trace scans) behind read what
      → TellsOneRun scans file what
  of-trace behind (Ok plant) loaded (inl shown) =
      tells-one one front scans file what plant shown.joint loaded
      (record { whole = shown.history.whole; effects = shown.effects; told = shown.told })
      shown.text
  of-trace behind (Ok plant) loaded (inr illegal) = let reads = illegal.reads_it in absurd cc
  of-trace behind (Err fault) loaded other = refused-not fault other

  of-live : (read : Result Plant Refusal) → plant_of Two file ≡ read → IsLiveDueOf scans read what
      → TellsOneRun scans file what
  of-live (Ok plant) loaded shown =
      tells-one one front scans file what plant shown.joint loaded
      (record { whole = shown.whole; effects = shown.effects; told = shown.told }) shown.text
  of-live (Err fault) loaded other = refused-not fault other

pub written-legal : OneDue → OneJournalInFront → WrittenIsLegal
written-legal one front scans file what (inl traced) is =
    of-trace one front scans file what is traced.behind (plant_of Two file) refl
    (subst (λ (input : List ℕ). IsDueOf (Do Trace scans) traced.behind (plant_of Two input) what)
    traced.parts.0 traced.due)
written-legal one front scans file what (inr live) is =
    of-live one front scans file what is (plant_of Two file) refl live
