-- Lines that are read one after the other, as a loop does, and how it ends.
use Rattle.std.proofs.Common.{◌≡◌, ◌≢◌, ℕ, ◌+◌, List, [], ◌∷◌, ◌++◌, length, All, Some, None}
use Rattle.std.proofs.Common.{Result, Ok, Err, refl, sym, ap, subst, ◌∙◌, arith, append_assoc}
use Rattle.std.proofs.Common.{length-append}
use Rattle.std.specs.Prelude.{codes, IfErr, IfOk}
use Rattle.std.specs.List.{flat_map}
use Rattle.std.proofs.lemmas.List.{append-nil, flat_map_more}
use Rattle.std.proofs.lemmas.List.Elements.{All-push, All-tail}
use Rattle.joint_history.specs.declared.joint.Joint.{Joint}
use Rattle.journal_text.specs.declared.fault.JournalFault.{JournalFault}
use Rattle.journal_text.specs.declared.fault.JournalFault.TheVariants.{Text, NoMemory}
use Rattle.journal_text.specs.declared.draft.Draft.{Draft}
use Rattle.journal_text.specs.declared.draft.Draft.TheVariants as drafts
use Rattle.journal_text.specs.Journal.{journal}
use Rattle.journal_text.specs.Fronts.{IsJournalOf, IsFront, IsWrongLine, IsFault, GivesJoint}
use Rattle.journal_lines.specs.Lines.{IsLine, with_feed}
use Rattle.journal_reading.specs.Reading.{cut}
use Rattle.journal_text.specs.Drafts.{StopsAt, ReadsAt, ending, step}
use Rattle.journal_reading.proofs.Cuts.{some_is, none_some, cut_parts, cut_lacks}
use Rattle.journal_text.proofs.Sections.{IsHistory, section_text, sections_of, journal_is}
use Rattle.journal_text.proofs.Steps.{history_of, journal_of, text_of, IsGood, good_front, Goes}
use Rattle.journal_text.proofs.StepTakes.{step_adds}
use Rattle.journal_text.proofs.StepGoes.{line_is, step_goes}

-- the lines so far are what is read, and a journal that begins with them goes on from there
pub record SoFar (bytes : List ℕ) (draft : Draft) (rest : List ℕ) (number : ℕ) : Type 0 where
  pub lines : List (List ℕ)
  pub each : All IsLine lines
  pub parts : bytes ≡ flat_map with_feed lines ++ rest
  pub count : number ≡ length lines + 1
  pub text : flat_map with_feed lines ≡ text_of draft
  pub good : IsGood draft
  pub goes : (joint : Joint) → IsHistory joint → (tail : List ℕ)
      → flat_map with_feed lines ++ tail ≡ journal joint → Goes draft joint tail

-- one line more
push : (lines : List (List ℕ)) (line : List ℕ)
    → flat_map with_feed (lines ++ line ∷ []) ≡ flat_map with_feed lines ++ with_feed line
push lines line = sym (flat_map_more with_feed [] lines line)

behind_line : (before line behind : List ℕ)
    → before ++ (line ++ 10 ∷ behind) ≡ (before ++ (line ++ 10 ∷ [])) ++ behind
behind_line before line behind = simp append_assoc

pub goes_on : (bytes : List ℕ) (draft : Draft) (rest : List ℕ) (number : ℕ)
    (parts : List ℕ × List ℕ) (new : Draft) → SoFar bytes draft rest number
    → cut 10 rest ≡ Some parts → step draft parts.0 ≡ Some new
    → SoFar bytes new parts.1 (number + 1)
goes_on bytes draft rest number parts new so is read =
    let c = cut_parts 10 rest parts is in
    let adds = step_adds draft new parts.0 so.good read in
    let size = length-append so.lines (parts.0 ∷ []) in
    let count = so.count in
    record {
      lines = so.lines ++ parts.0 ∷ [];
      each = All-push IsLine so.lines parts.0 so.each c.none;
      parts = so.parts ∙ ap (λ (t : List ℕ). flat_map with_feed so.lines ++ t) c.whole
          ∙ behind_line (flat_map with_feed so.lines) parts.0 parts.1
          ∙ ap (λ (t : List ℕ). t ++ parts.1) (sym (push so.lines parts.0));
      count = omega arith;
      text = push so.lines parts.0 ∙ ap (λ (t : List ℕ). t ++ with_feed parts.0) so.text
          ∙ sym adds.text;
      good = adds.good;
      goes = λ joint history tail e.
          let whole : flat_map with_feed so.lines ++ (parts.0 ++ 10 ∷ tail) ≡ journal joint =
          behind_line (flat_map with_feed so.lines) parts.0 tail
          ∙ ap (λ (t : List ℕ). t ++ tail) (sym (push so.lines parts.0)) ∙ e in
          let next = step_goes draft joint parts.0 tail history c.none
          (so.goes joint history (parts.0 ++ 10 ∷ tail) whole) in
          subst (λ (d : Draft). Goes d joint tail)
          (some_is next.new new (sym next.is ∙ read)) next.goes;
    }

-- what reading answered
pub record Answers (bytes : List ℕ) (result : Result Joint JournalFault) : Type 0 where
  pub told : IfOk result (λ joint. IsJournalOf joint bytes)
  pub all : (joint : Joint) → IsJournalOf joint bytes → GivesJoint joint result
  pub fault : IfErr result (λ fault. IsFault bytes fault)

-- no journal goes on where a line is wrong
refused : (bytes : List ℕ) (draft : Draft) (rest : List ℕ) (number : ℕ) (parts : List ℕ × List ℕ)
    (so : SoFar bytes draft rest number)
    → cut 10 rest ≡ Some parts → step draft parts.0 ≡ None → (joint : Joint) → IsHistory joint
    → (tail : List ℕ)
    → flat_map with_feed so.lines ++ (parts.0 ++ 10 ∷ tail) ≡ journal joint → ⊥
refused bytes draft rest number parts so is wrong joint history tail e =
    let c = cut_parts 10 rest parts is in
    let next = step_goes draft joint parts.0 tail history c.none
    (so.goes joint history (parts.0 ++ 10 ∷ tail) e) in
    none_some ⊥ next.new (sym wrong ∙ next.is)

front_refused : (bytes : List ℕ) (draft : Draft) (rest : List ℕ) (number : ℕ)
    (parts : List ℕ × List ℕ) (so : SoFar bytes draft rest number)
    → cut 10 rest ≡ Some parts → step draft parts.0 ≡ None → (line : List ℕ) → line ≡ parts.0
    → IsFront (flat_map with_feed so.lines ++ with_feed line) → ⊥
front_refused bytes draft rest number parts so is wrong line same front =
    let joint = front.1.0 in
    let found = front.1.1 in
    refused bytes draft rest number parts so is wrong joint
    (history_of joint ((flat_map with_feed so.lines ++ with_feed line) ++ front.0) found) front.0
    (behind_line (flat_map with_feed so.lines) parts.0 front.0
    ∙ ap (λ (l : List ℕ). (flat_map with_feed so.lines ++ with_feed l) ++ front.0) (sym same)
    ∙ found.text)

wrong_line : (bytes : List ℕ) (draft : Draft) (rest : List ℕ) (number : ℕ) (parts : List ℕ × List ℕ)
    → SoFar bytes draft rest number
    → cut 10 rest ≡ Some parts → step draft parts.0 ≡ None → IsWrongLine bytes number
wrong_line bytes draft rest number parts so is wrong =
    let c = cut_parts 10 rest parts is in
    record {
      lines = so.lines;
      rest = rest;
      each = so.each;
      parts = so.parts;
      count = so.count;
      begins = subst IsFront (sym so.text) (good_front draft so.good);
      wrong = λ line behind one e front.
          let same = line_is line parts.0 behind parts.1 one c.none
          (sym (append_assoc line (10 ∷ []) behind) ∙ sym e ∙ c.whole) in
          front_refused bytes draft rest number parts so is wrong line same.0 front;
    }

no_journal : (bytes : List ℕ) (draft : Draft) (rest : List ℕ) (number : ℕ) (parts : List ℕ × List ℕ)
    → SoFar bytes draft rest number
    → cut 10 rest ≡ Some parts → step draft parts.0 ≡ None → (joint : Joint)
    → IsJournalOf joint bytes → ⊥
no_journal bytes draft rest number parts so is wrong joint found =
    let c = cut_parts 10 rest parts is in
    refused bytes draft rest number parts so is wrong joint (history_of joint bytes found) parts.1
    (ap (λ (t : List ℕ). flat_map with_feed so.lines ++ t) (sym c.whole)
    ∙ sym so.parts ∙ found.text)

pub stopped : (bytes : List ℕ) (draft : Draft) (rest : List ℕ) (number : ℕ)
    (parts : List ℕ × List ℕ) (fault : JournalFault) → SoFar bytes draft rest number
    → cut 10 rest ≡ Some parts → StopsAt number fault (step draft parts.0)
    → Answers bytes (Err fault)
stopped bytes draft rest number parts NoMemory so is stops =
    record { told = tt; all = λ joint found. tt; fault = tt }
stopped bytes draft rest number parts (Text line) so is stops =
    record {
      told = tt;
      all = λ joint found. no_journal bytes draft rest number parts so is stops.0 joint found;
      fault = record {
        line = number;
        first = wrong_line bytes draft rest number parts so is stops.0;
        told = stops.1;
        none = λ some. no_journal bytes draft rest number parts so is stops.0 some.0 some.1;
      };
    }

-- what is read is whole where its last line is read and nothing stands behind it
pub record IsEnd (draft : Draft) (rest : List ℕ) (joint : Joint) : Type 0 where
  pub draft_is : draft ≡ drafts.End joint
  pub rest_is : rest ≡ []

pub ending_is : (draft : Draft) (rest : List ℕ) (joint : Joint) → ending draft rest ≡ Some joint
    → IsEnd draft rest joint
ending_is drafts.Start rest joint e = none_some (IsEnd drafts.Start rest joint) joint e
ending_is drafts.Open rest joint e = none_some (IsEnd drafts.Open rest joint) joint e
ending_is (drafts.Inside done section) rest joint e =
    none_some (IsEnd (drafts.Inside done section) rest joint) joint e
ending_is (drafts.End read) [] joint e =
    record { draft_is = ap drafts.End (some_is read joint e); rest_is = refl }
ending_is (drafts.End read) (b ∷ rest) joint e =
    none_some (IsEnd (drafts.End read) (b ∷ rest) joint) joint e

pub whole_is : (other joint : Joint) (draft : Draft) (rest : List ℕ) → IsEnd draft rest joint
    → Goes draft other rest → other ≡ joint
whole_is other joint draft rest is goes =
    let there = subst (λ (d : Draft). Goes d other rest) is.draft_is goes in there.0

-- each text that goes on has a line feed
abbrev HasFeed : List ℕ → Type 0
HasFeed text = IsLine text → ⊥

all_back : {X : Type 0} (P : X → Type 0) (xs ys : List X) → All P (xs ++ ys) → All P ys
all_back P [] ys all = all
all_back P (x ∷ xs) ys all = all_back P xs ys (All-tail P x (xs ++ ys) all)

fed : (xs ys : List ℕ) → HasFeed ys → HasFeed (xs ++ ys)
fed xs ys has line = has (all_back (λ (b : ℕ). b ≢ 10) xs ys line)

end_fed : HasFeed (codes "%END\n")
end_fed line = line 4 0 (omega arith) refl

fed_end : (text : List ℕ) → HasFeed (text ++ codes "%END\n")
fed_end text = fed text (codes "%END\n") end_fed

text_fed : (text other : List ℕ) → text ≡ other → HasFeed other → HasFeed text
text_fed text other same has line = has (subst IsLine same line)

pub not_ended : (draft : Draft) (rest : List ℕ) → IsLine rest → ending draft rest ≡ None
    → (joint : Joint) → Goes draft joint rest → ⊥
not_ended drafts.Start rest line none joint goes =
    text_fed rest (codes "%JOURNAL\n"
    ++ (flat_map section_text (sections_of joint) ++ codes "%END\n")) (goes ∙ journal_is joint)
    (fed (codes "%JOURNAL\n") (flat_map section_text (sections_of joint) ++ codes "%END\n")
    (fed_end (flat_map section_text (sections_of joint)))) line
not_ended drafts.Open rest line none joint goes =
    text_fed rest (flat_map section_text goes.later ++ codes "%END\n") goes.text
    (fed_end (flat_map section_text goes.later)) line
not_ended (drafts.Inside done section) rest line none joint goes =
    text_fed rest (flat_map with_feed goes.lines
    ++ (flat_map section_text goes.later ++ codes "%END\n")) goes.text
    (fed (flat_map with_feed goes.lines) (flat_map section_text goes.later ++ codes "%END\n")
    (fed_end (flat_map section_text goes.later))) line
not_ended (drafts.End read) [] line none joint goes = none_some ⊥ read (sym none)
not_ended (drafts.End read) (b ∷ rest) line none joint goes = cc goes.1

-- at the end of the bytes
module _ (bytes : List ℕ) (draft : Draft) (rest : List ℕ) (number : ℕ)
    (so : SoFar bytes draft rest number) (uncut : cut 10 rest ≡ None) where
  line : IsLine rest
  line = cut_lacks 10 rest uncut

  goes_there : (joint : Joint) → IsJournalOf joint bytes → Goes draft joint rest
  goes_there joint found = so.goes joint (history_of joint bytes found) rest
      (sym so.parts ∙ found.text)

  none_there : ending draft rest ≡ None → (joint : Joint) → IsJournalOf joint bytes → ⊥
  none_there none joint found = not_ended draft rest line none joint (goes_there joint found)

  read_whole : (joint : Joint) → IsEnd draft rest joint → IsJournalOf joint bytes
  read_whole joint is =
      journal_of joint bytes (subst IsGood is.draft_is so.good)
      (so.parts ∙ ap (λ (t : List ℕ). flat_map with_feed so.lines ++ t) is.rest_is
      ∙ append-nil (flat_map with_feed so.lines) ∙ so.text ∙ ap text_of is.draft_is)

  no_line : (text behind : List ℕ) → rest ≡ with_feed text ++ behind → ⊥
  no_line text behind e = fed text (10 ∷ behind) (λ l. l 0 0 (omega arith) refl)
      (subst IsLine (e ∙ append_assoc text (10 ∷ []) behind) line)

  last_line : IsWrongLine bytes number
  last_line = record {
    lines = so.lines;
    rest = rest;
    each = so.each;
    parts = so.parts;
    count = so.count;
    begins = subst IsFront (sym so.text) (good_front draft so.good);
    wrong = λ text behind one e front. no_line text behind e;
  }

  pub at_end : (result : Result Joint JournalFault) → ReadsAt number result (ending draft rest)
      → Answers bytes result
  at_end (Ok joint) takes =
      let is = ending_is draft rest joint takes in
      record {
        told = read_whole joint is;
        all = λ other found. sym (whole_is other joint draft rest is (goes_there other found));
        fault = tt;
      }
  at_end (Err NoMemory) takes = record { told = tt; all = λ joint found. tt; fault = tt }
  at_end (Err (Text told)) takes = record {
    told = tt;
    all = λ joint found. none_there takes.0 joint found;
    fault = record {
      line = number;
      first = last_line;
      told = takes.1;
      none = λ some. none_there takes.0 some.0 some.1;
    };
  }
