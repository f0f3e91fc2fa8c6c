-- What is read of a journal, its text, and how a journal can go on from there.
use Rattle.std.proofs.Common.{◌≡◌, ℕ, true, List, [], ◌∷◌, ◌++◌, map, All, Some, refl, sym, ap, ◌∙◌}
use Rattle.std.specs.Prelude.{codes}
use Rattle.std.specs.List.{flat_map}
use Rattle.std.proofs.lemmas.List.{append-nil}
use Rattle.joint_history.specs.declared.joint.ControllerLog.{ControllerLog}
use Rattle.joint_history.specs.declared.joint.HostLog.{HostLog}
use Rattle.joint_history.specs.declared.joint.BridgeLog.{BridgeLog}
use Rattle.joint_history.specs.declared.joint.RingLog.{RingLog}
use Rattle.joint_history.specs.declared.joint.Joint.{Joint}
use Rattle.journal_text.specs.declared.section.Section.{Section}
use Rattle.journal_text.specs.declared.section.Section.TheVariants as sections
use Rattle.journal_text.specs.declared.draft.Draft.{Draft}
use Rattle.journal_text.specs.declared.draft.Draft.TheVariants as drafts
use Rattle.journal_lines.specs.Plain.{IsPlainEntry, IsPlainHostEntry, IsPlainBridgeEntry}
use Rattle.journal_lines.specs.Plain.{IsPlainRing}
use Rattle.journal_text.specs.Journal.{IsPlain, journal}
use Rattle.journal_lines.specs.Sizes.{FitsEntry, FitsHostEntry, FitsBridgeEntry, FitsRingEntry}
use Rattle.journal_text.specs.Sizes.{FitsLog, FitsHostLog, FitsBridgeLog, FitsRingLog, FitsJoint}
use Rattle.journal_text.specs.Fronts.{IsFront, IsJournalOf}
use Rattle.journal_lines.specs.Lines.{with_feed}
use Rattle.journal_text.specs.Drafts.{no_sections, with_line, with_section}
use Rattle.journal_text.proofs.Rising.{rises_at, rises_by}
use Rattle.journal_text.proofs.Heads.{IsEntryLine}
use Rattle.journal_reading.proofs.Ranges.{all_lie}
use Rattle.journal_text.proofs.Sections.{IsSection, section_text, AreSections, sections_of}
use Rattle.journal_text.proofs.Sections.{with_sections, controller_node, host_node, left_end}
use Rattle.journal_text.proofs.Sections.{ring_number, IsHistory, no_history, told_of, journal_is}

-- parts of a list with a fact on each
module _ {X : Type 0} (P Q : X → Type 0) where
  both : (xs : List X) → All P xs → All Q xs → All (λ x. P x × Q x) xs
  both xs one other k d within = (one k d within, other k d within)

  pub the_one : (xs : List X) → All (λ x. P x × Q x) xs → All P xs
  the_one xs all k d within = (all k d within).0

  pub the_other : (xs : List X) → All (λ x. P x × Q x) xs → All Q xs
  the_other xs all k d within = (all k d within).1

-- logs of which a journal can tell all
controllers_of : (logs : List ControllerLog) → All FitsLog logs
    → All (λ log. All IsPlainEntry log.entries) logs
    → All (λ log. IsSection (sections.Controller log)) logs
controllers_of logs fit plain k d within =
    let log = fit k d within in
    (log.0, both FitsEntry IsPlainEntry _ log.1 (plain k d within))

hosts_of : (logs : List HostLog) → All FitsHostLog logs
    → All (λ log. All IsPlainHostEntry log.entries) logs
    → All (λ log. IsSection (sections.Host log)) logs
hosts_of logs fit plain k d within =
    let log = fit k d within in
    (log.0, both FitsHostEntry IsPlainHostEntry _ log.1 (plain k d within))

bridges_of : (logs : List BridgeLog) → All FitsBridgeLog logs
    → All (λ log. All IsPlainBridgeEntry log.entries) logs
    → All (λ log. IsSection (sections.Bridge log)) logs
bridges_of logs fit plain k d within =
    let log = fit k d within in
    ((log.0, log.1), both FitsBridgeEntry IsPlainBridgeEntry _ log.2 (plain k d within))

rings_of : (logs : List RingLog) → All FitsRingLog logs
    → All (λ log. All IsPlainRing log.entries) logs
    → All (λ log. IsSection (sections.Ring log)) logs
rings_of logs fit plain k d within =
    let log = fit k d within in
    (log.0, both FitsRingEntry IsPlainRing _ log.1 (plain k d within))

pub history_of : (joint : Joint) (bytes : List ℕ) → IsJournalOf joint bytes → IsHistory joint
history_of joint bytes is = record {
  controllers = (
    rises_by (map controller_node joint.controllers) is.plain.controllers,
    controllers_of joint.controllers is.fits.controllers is.plain.entries,
  );
  hosts = (
    rises_by (map host_node joint.hosts) is.plain.hosts,
    hosts_of joint.hosts is.fits.hosts is.plain.asks,
  );
  bridges = (
    rises_by (map left_end joint.bridges) is.plain.bridges,
    bridges_of joint.bridges is.fits.bridges is.plain.forwards,
  );
  rings = (
    rises_by (map ring_number joint.rings) is.plain.rings,
    rings_of joint.rings is.fits.rings is.plain.frames,
  );
}

plain_of : (joint : Joint) → IsHistory joint → IsPlain joint
plain_of joint is = record {
  controllers = rises_at (map controller_node joint.controllers) is.controllers.0;
  hosts = rises_at (map host_node joint.hosts) is.hosts.0;
  bridges = rises_at (map left_end joint.bridges) is.bridges.0;
  rings = rises_at (map ring_number joint.rings) is.rings.0;
  entries = λ k d within.
      the_other FitsEntry IsPlainEntry _ (is.controllers.1 k d within).1;
  asks = λ k d within.
      the_other FitsHostEntry IsPlainHostEntry _ (is.hosts.1 k d within).1;
  forwards = λ k d within.
      the_other FitsBridgeEntry IsPlainBridgeEntry _ (is.bridges.1 k d within).1;
  frames = λ k d within.
      the_other FitsRingEntry IsPlainRing _ (is.rings.1 k d within).1;
}

fits_of : (joint : Joint) → IsHistory joint → FitsJoint joint
fits_of joint is = record {
  controllers = λ k d within.
      let log = is.controllers.1 k d within in
      (log.0, the_one FitsEntry IsPlainEntry _ log.1);
  hosts = λ k d within.
      let log = is.hosts.1 k d within in
      (log.0, the_one FitsHostEntry IsPlainHostEntry _ log.1);
  bridges = λ k d within.
      let log = is.bridges.1 k d within in
      (log.0.0, log.0.1, the_one FitsBridgeEntry IsPlainBridgeEntry _ log.1);
  rings = λ k d within.
      let log = is.rings.1 k d within in
      (log.0, the_one FitsRingEntry IsPlainRing _ log.1);
}

pub journal_of : (joint : Joint) (bytes : List ℕ) → IsHistory joint → bytes ≡ journal joint
    → IsJournalOf joint bytes
journal_of joint bytes is text =
    record { plain = plain_of joint is; fits = fits_of joint is; text = text }

-- the text of what is read, and that it can be told
abbrev pub text_of : Draft → List ℕ
text_of drafts.Start = []
text_of drafts.Open = codes "%JOURNAL\n"
text_of (drafts.Inside done section) =
    codes "%JOURNAL\n" ++ flat_map section_text (sections_of done ++ section ∷ [])
text_of (drafts.End joint) = journal joint

abbrev pub IsGood : Draft → Type 0
IsGood drafts.Start = Unit {0}
IsGood drafts.Open = Unit {0}
IsGood (drafts.Inside done section) = AreSections (sections_of done ++ section ∷ [])
IsGood (drafts.End joint) = IsHistory joint

begun : (bytes rest : List ℕ) (joint : Joint) → IsHistory joint → bytes ++ rest ≡ journal joint
    → IsFront bytes
begun bytes rest joint is text = (rest, (joint, journal_of joint (bytes ++ rest) is text))

-- what is read begins a journal
pub good_front : (draft : Draft) → IsGood draft → IsFront (text_of draft)
good_front drafts.Start good = begun [] (journal no_sections) no_sections no_history refl
good_front drafts.Open good =
    begun (codes "%JOURNAL\n") (codes "%END\n") no_sections no_history refl
good_front (drafts.Inside done section) good =
    let list = sections_of done ++ section ∷ [] in
    let t = told_of list good in
    begun (text_of (drafts.Inside done section)) (codes "%END\n") t.joint t.is
    (ap (λ (l : List Section).
    codes "%JOURNAL\n" ++ (flat_map section_text l ++ codes "%END\n")) t.same
    ∙ sym (journal_is t.joint))
good_front (drafts.End joint) good =
    begun (journal joint) [] joint good (append-nil (journal joint))

-- a section that grows by these lines to a whole one
abbrev pub Grows : List (List ℕ) → Section → Section → Type 0
Grows [] section whole = section ≡ whole
Grows (line ∷ lines) section whole =
    (next : Section) × ((with_line section line ≡ Some next) × Grows lines next whole)
    × (IsEntryLine line × (all_lie 32 102 line ≡ true))

-- how a joint history goes on from what is read, and its text from there
pub record OpenGoes (joint : Joint) (rest : List ℕ) : Type 0 where
  pub later : List Section
  pub are : AreSections later
  pub joint_is : joint ≡ with_sections no_sections later
  pub text : rest ≡ flat_map section_text later ++ codes "%END\n"

pub record InsideGoes (done : Joint) (section : Section) (joint : Joint) (rest : List ℕ)
    : Type 0 where
  pub lines : List (List ℕ)
  pub whole : Section
  pub later : List Section
  pub grows : Grows lines section whole
  pub are : AreSections (whole ∷ later)
  pub joint_is : joint ≡ with_sections (with_section done whole) later
  pub text : rest
      ≡ flat_map with_feed lines ++ (flat_map section_text later ++ codes "%END\n")

abbrev pub Goes : Draft → Joint → List ℕ → Type 0
Goes drafts.Start joint rest = rest ≡ journal joint
Goes drafts.Open joint rest = OpenGoes joint rest
Goes (drafts.Inside done section) joint rest = InsideGoes done section joint rest
Goes (drafts.End read) joint rest = (joint ≡ read) × (rest ≡ [])
