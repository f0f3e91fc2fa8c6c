-- As a journal goes on from what is read, so its next line is read.
use Rattle.std.proofs.Common.{◌≡◌, ℕ, true, false, inl, List, [], ◌∷◌, ◌++◌, map, All, Option, Some}
use Rattle.std.proofs.Common.{None, refl, sym, ap, subst, ◌∙◌, arith, append_assoc}
use Rattle.std.specs.Prelude.{codes}
use Rattle.std.specs.Fmt.{decimal}
use Rattle.std.specs.List.{flat_map}
use Rattle.std.specs.Str.{bytes_eq}
use Rattle.std.proofs.lemmas.List.{append-nil}
use Rattle.std.proofs.lemmas.List.Concat.{flat_map-cons}
use Rattle.std.proofs.lemmas.List.Elements.{All-head, All-tail}
use Rattle.joint_history.specs.declared.joint.Joint.{Joint}
use Rattle.journal_text.specs.declared.section.Section.{Section}
use Rattle.journal_text.specs.declared.section.Section.TheVariants as sections
use Rattle.journal_text.specs.declared.draft.Draft.{Draft}
use Rattle.journal_text.specs.declared.draft.Draft.TheVariants as drafts
use Rattle.journal_lines.specs.Lines.{controller_line, host_line, bridge_line, ring_line, IsLine}
use Rattle.journal_lines.specs.Lines.{with_feed}
use Rattle.journal_text.specs.Journal.{ring_head, journal}
use Rattle.journal_reading.specs.Reading.{cut, read_as}
use Rattle.journal_text.specs.Drafts.{read_head, head_of, new_section, no_sections, with_section}
use Rattle.journal_text.specs.Drafts.{with_line, start_line, first_head, open_line, next_section}
use Rattle.journal_text.specs.Drafts.{next_entry, inside_line, inside_step, step}
use Rattle.journal_reading.proofs.Ranges.{all_lie, lacks}
use Rattle.journal_reading.proofs.Cuts.{some_is, cut_line}
use Rattle.journal_reading.proofs.ReadLaws.{IsField}
use Rattle.journal_reading.proofs.StationLines.{entry_body, entry_ended, entry_field, host_body}
use Rattle.journal_reading.proofs.StationLines.{host_ended, host_field}
use Rattle.journal_reading.proofs.BridgeLines.{bridge_body, bridge_ended, bridge_field}
use Rattle.journal_reading.proofs.RingLines.{parts, ring_body, ring_ended, ring_field}
use Rattle.journal_text.proofs.Heads.{head_body, head_field, head_no_end, IsEntryLine, entry_line}
use Rattle.journal_text.proofs.Heads.{host_entry_line, bridge_entry_line, ring_entry_line}
use Rattle.journal_text.proofs.Sections.{IsSection, section_text, head_fits, AreSections}
use Rattle.journal_text.proofs.Sections.{sections_of, with_sections, sections_whole, sections_are}
use Rattle.journal_text.proofs.Sections.{IsHistory, journal_is}
use Rattle.journal_text.proofs.Steps.{Grows, Goes}

-- two texts whose first lines end are the same line by line
pub line_is : (a b x y : List ℕ) → IsLine a → IsLine b → a ++ 10 ∷ x ≡ b ++ 10 ∷ y
    → (a ≡ b) × (x ≡ y)
line_is a b x y one other e =
    let parts = some_is (a, x) (b, y)
    (sym (cut_line 10 a x one) ∙ ap (cut 10) e ∙ cut_line 10 b y other) in
    (ap (λ (p : List ℕ × List ℕ). p.0) parts, ap (λ (p : List ℕ × List ℕ). p.1) parts)

first_line : (line tail body more : List ℕ) → IsLine line → all_lie 32 102 body ≡ true
    → line ++ 10 ∷ tail ≡ with_feed body ++ more → (line ≡ body) × (tail ≡ more)
first_line line tail body more is lie e =
    line_is line body tail more is (lacks 32 102 10 (inl (omega arith)) body lie)
    (e ∙ append_assoc body (10 ∷ []) more)

-- what a line comes to
pub record Next (old : Draft) (joint : Joint) (line tail : List ℕ) : Type 0 where
  pub new : Draft
  pub is : step old line ≡ Some new
  pub goes : Goes new joint tail

-- a section grows from its head by the lines of its entries
abbrev lines_of : Section → List (List ℕ)
lines_of (sections.Controller log) = map entry_body log.entries
lines_of (sections.Host log) = map host_body log.entries
lines_of (sections.Bridge log) = map bridge_body log.entries
lines_of (sections.Ring log) = map ring_body log.entries

module _ {X : Type 0} {read : List ℕ → Option X} {body : X → List ℕ} {Is : X → Type 0}
    (field : IsField read body Is 32 102) (entry : (x : X) → IsEntryLine (body x))
    (make : List X → Section)
    (with : (xs : List X) (line : List ℕ) → with_line (make xs) line
    ≡ read_as (λ x. make (xs ++ x ∷ [])) read line) where
  grow : (before xs : List X) → All Is xs → Grows (map body xs) (make before) (make (before ++ xs))
  grow before [] all = ap make (sym (append-nil before))
  grow before (x ∷ xs) all =
      let fits = All-head Is x xs all in
      let later = grow (before ++ x ∷ []) xs (All-tail Is x xs all) in (
        make (before ++ x ∷ []),
        (
          with before (body x) ∙ rw (field.again x fits) refl,
          subst (λ (ys : List X). Grows (map body xs) (make (before ++ x ∷ [])) (make ys))
              (append_assoc before (x ∷ []) xs) later,
        ),
        (entry x, field.lie x fits),
      )

grows : (section : Section) → IsSection section
    → Grows (lines_of section) (new_section (head_of section)) section
grows (sections.Controller log) is =
    grow entry_field entry_line
    (λ xs. sections.Controller (record { node = log.node; entries = xs }))
    (λ xs line. refl) [] log.entries is.1
grows (sections.Host log) is =
    grow host_field host_entry_line
    (λ xs. sections.Host (record { node = log.node; entries = xs }))
    (λ xs line. refl) [] log.entries is.1
grows (sections.Bridge log) is =
    grow bridge_field bridge_entry_line
    (λ xs. sections.Bridge (record { left = log.left; right = log.right; entries = xs }))
    (λ xs line. refl) [] log.entries is.1
grows (sections.Ring log) is =
    grow ring_field ring_entry_line
    (λ xs. sections.Ring (record { network = log.network; entries = xs }))
    (λ xs line. refl) [] log.entries is.1

-- its text is its head and these lines
lines_are : {X : Type 0} (told body : X → List ℕ) → ((x : X) → told x ≡ with_feed (body x))
    → (xs : List X) → flat_map told xs ≡ flat_map with_feed (map body xs)
lines_are told body ended [] = refl
lines_are told body ended (x ∷ xs) =
    flat_map-cons told x xs ∙ (λ i. ended x i ++ lines_are told body ended xs i)
    ∙ sym (flat_map-cons with_feed (body x) (map body xs))

section_is : (section : Section) → section_text section
    ≡ with_feed (head_body (head_of section)) ++ flat_map with_feed (lines_of section)
section_is (sections.Controller log) =
    ap (λ (t : List ℕ). with_feed (codes "C " ++ decimal log.node) ++ t)
    (lines_are controller_line entry_body entry_ended log.entries)
section_is (sections.Host log) =
    ap (λ (t : List ℕ). with_feed (codes "H " ++ decimal log.node) ++ t)
    (lines_are host_line host_body host_ended log.entries)
section_is (sections.Bridge log) =
    λ i. parts (codes "W ") (decimal log.left) (decimal log.right) i
    ++ lines_are bridge_line bridge_body bridge_ended log.entries i
section_is (sections.Ring log) =
    ap (λ (t : List ℕ). with_feed (ring_head log.network) ++ t)
    (lines_are ring_line ring_body ring_ended log.entries)

-- the text of sections, from the first head on
four_parts : (a b c d : List ℕ) → ((a ++ b) ++ c) ++ d ≡ a ++ (b ++ (c ++ d))
four_parts a b c d = simp append_assoc

sections_are_text : (section : Section) (list : List Section) (more : List ℕ)
    → flat_map section_text (section ∷ list) ++ more
    ≡ with_feed (head_body (head_of section))
    ++ (flat_map with_feed (lines_of section) ++ (flat_map section_text list ++ more))
sections_are_text section list more =
    ap (λ (t : List ℕ). t ++ more) (flat_map-cons section_text section list)
    ∙ ap (λ (t : List ℕ). (t ++ flat_map section_text list) ++ more) (section_is section)
    ∙ four_parts (with_feed (head_body (head_of section))) (flat_map with_feed (lines_of section))
    (flat_map section_text list) more

-- where sections follow, the line is the head of the first of them
record IsHeadOf (section : Section) (list : List Section) (line tail : List ℕ) : Type 0 where
  head : read_head line ≡ Some (head_of section)
  no_end : bytes_eq line (codes "%END") ≡ false
  text : tail ≡ flat_map with_feed (lines_of section)
      ++ (flat_map section_text list ++ codes "%END\n")

head_is : (section : Section) (list : List Section) (line tail : List ℕ) → IsLine line
    → IsSection section
    → line ++ 10 ∷ tail ≡ flat_map section_text (section ∷ list) ++ codes "%END\n"
    → IsHeadOf section list line tail
head_is section list line tail is fits e =
    let head = head_of section in
    let head_fit = head_fits section fits in
    let first = first_line line tail (head_body head)
    (flat_map with_feed (lines_of section) ++ (flat_map section_text list ++ codes "%END\n")) is
    (head_field.lie head head_fit) (e ∙ sections_are_text section list (codes "%END\n")) in
    record {
      head = ap read_head first.0 ∙ head_field.again head head_fit;
      no_end = ap (λ (t : List ℕ). bytes_eq t (codes "%END")) first.0 ∙ head_no_end head;
      text = first.1;
    }

-- where none follow, it is the last line
end_is : (line tail : List ℕ) → IsLine line → line ++ 10 ∷ tail ≡ codes "%END\n"
    → (bytes_eq line (codes "%END") ≡ true) × (tail ≡ [])
end_is line tail is e =
    let first = first_line line tail (codes "%END") [] is refl e in
    (ap (λ (t : List ℕ). bytes_eq t (codes "%END")) first.0, first.1)

-- behind the first line
open_next : (joint : Joint) (list : List Section) (line tail : List ℕ) → AreSections list
    → joint ≡ with_sections no_sections list → IsLine line
    → line ++ 10 ∷ tail ≡ flat_map section_text list ++ codes "%END\n"
    → Next drafts.Open joint line tail
unfolding step open_line first_head
open_next joint [] line tail are same is e =
    let last = end_is line tail is e in
    record {
      new = drafts.End no_sections;
      is = rw last.0 refl;
      goes = (same, last.1);
    }
open_next joint (section ∷ list) line tail are same is e =
    let first = head_is section list line tail is are.0 e in
    record {
      new = drafts.Inside no_sections (new_section (head_of section));
      is = rw (first.no_end, first.head) refl;
      goes = record {
        lines = lines_of section;
        whole = section;
        later = list;
        grows = grows section are.0;
        are = are;
        joint_is = same;
        text = first.text;
      };
    }

-- behind the last entry of a section
turn_next : (done : Joint) (section : Section) (joint : Joint) (list : List Section)
    (line tail : List ℕ) → AreSections (section ∷ list)
    → joint ≡ with_sections (with_section done section) list → IsLine line
    → line ++ 10 ∷ tail ≡ flat_map section_text list ++ codes "%END\n"
    → Next (drafts.Inside done section) joint line tail
unfolding step inside_step inside_line next_section
turn_next done section joint [] line tail are same is e =
    let last = end_is line tail is e in
    record {
      new = drafts.End (with_section done section);
      is = rw last.0 refl;
      goes = (same, last.1);
    }
turn_next done section joint (next ∷ list) line tail are same is e =
    let first = head_is next list line tail is are.2.0 e in
    record {
      new = drafts.Inside (with_section done section) (new_section (head_of next));
      is = rw (first.no_end, first.head, are.1) refl;
      goes = record {
        lines = lines_of next;
        whole = next;
        later = list;
        grows = grows next are.2.0;
        are = are.2;
        joint_is = same;
        text = first.text;
      };
    }

-- in a section
line_text : (line : List ℕ) (lines : List (List ℕ)) (more : List ℕ)
    → flat_map with_feed (line ∷ lines) ++ more
    ≡ with_feed line ++ (flat_map with_feed lines ++ more)
line_text line lines more =
    ap (λ (t : List ℕ). t ++ more) (flat_map-cons with_feed line lines)
    ∙ append_assoc (with_feed line) (flat_map with_feed lines) more

inside_next : (done : Joint) (section whole : Section) (joint : Joint) (lines : List (List ℕ))
    (later : List Section) (line tail : List ℕ) → Grows lines section whole
    → AreSections (whole ∷ later) → joint ≡ with_sections (with_section done whole) later
    → IsLine line → line ++ 10 ∷ tail
    ≡ flat_map with_feed lines ++ (flat_map section_text later ++ codes "%END\n")
    → Next (drafts.Inside done section) joint line tail
unfolding step inside_step inside_line next_entry
inside_next done section whole joint [] later line tail grown are same is e =
    turn_next done section joint later line tail
    (subst (λ (s : Section). AreSections (s ∷ later)) (sym grown) are)
    (same ∙ ap (λ (s : Section). with_sections (with_section done s) later) (sym grown)) is e
inside_next done section whole joint (told ∷ lines) later line tail grown are same is e =
    let rest = flat_map section_text later ++ codes "%END\n" in
    let first = first_line line tail told (flat_map with_feed lines ++ rest) is grown.2.1
    (e ∙ line_text told lines rest) in
    let next = grown.0 in
    let no_head : read_head line ≡ None = ap read_head first.0 ∙ grown.2.0.0 in
    let no_end : bytes_eq line (codes "%END") ≡ false =
    ap (λ (t : List ℕ). bytes_eq t (codes "%END")) first.0 ∙ grown.2.0.1 in
    let read : with_line section line ≡ Some next =
    ap (with_line section) first.0 ∙ grown.1.0 in
    record {
      new = drafts.Inside done next;
      is = rw (no_end, no_head, read) refl;
      goes = record {
        lines = lines;
        whole = whole;
        later = later;
        grows = grown.1.1;
        are = are;
        joint_is = same;
        text = first.1;
      };
    }

-- the first line
start_next : (joint : Joint) (line tail : List ℕ) → IsHistory joint → IsLine line
    → line ++ 10 ∷ tail ≡ journal joint → Next drafts.Start joint line tail
unfolding step start_line
start_next joint line tail history is e =
    let first = first_line line tail (codes "%JOURNAL")
    (flat_map section_text (sections_of joint) ++ codes "%END\n") is refl
    (e ∙ journal_is joint) in
    let same : bytes_eq line (codes "%JOURNAL") ≡ true =
    ap (λ (t : List ℕ). bytes_eq t (codes "%JOURNAL")) first.0 in
    record {
      new = drafts.Open;
      is = rw same refl;
      goes = record {
        later = sections_of joint;
        are = sections_are joint history;
        joint_is = sym (sections_whole joint);
        text = first.1;
      };
    }

nothing_more : (P : Type 0) (line tail : List ℕ) → line ++ 10 ∷ tail ≡ [] → P
nothing_more P [] tail e = absurd cc
nothing_more P (b ∷ line) tail e = absurd cc

pub step_goes : (old : Draft) (joint : Joint) (line tail : List ℕ) → IsHistory joint → IsLine line
    → Goes old joint (line ++ 10 ∷ tail) → Next old joint line tail
step_goes drafts.Start joint line tail history is goes =
    start_next joint line tail history is goes
step_goes drafts.Open joint line tail history is goes =
    open_next joint goes.later line tail goes.are goes.joint_is is goes.text
step_goes (drafts.Inside done section) joint line tail history is goes =
    inside_next done section goes.whole joint goes.lines goes.later line tail goes.grows goes.are
    goes.joint_is is goes.text
step_goes (drafts.End read) joint line tail history is goes =
    nothing_more (Next (drafts.End read) joint line tail) line tail goes.1
