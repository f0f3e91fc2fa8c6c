-- What a line adds to what is read is the line, and it can be told.
use Rattle.std.proofs.Common.{◌≡◌, ℕ, true, ◌⊎◌, inl, inr, List, [], ◌∷◌, ◌++◌, All, Option, Some}
use Rattle.std.proofs.Common.{None, refl, sym, ap, subst, ◌∙◌, append_assoc}
use Rattle.std.specs.Prelude.{codes}
use Rattle.std.specs.Fmt.{decimal}
use Rattle.std.specs.List.{flat_map}
use Rattle.std.specs.Str.{bytes_eq}
use Rattle.std.proofs.lemmas.List.{append-nil, flat_map_more}
use Rattle.std.proofs.lemmas.List.Concat.{flat_map-cons}
use Rattle.std.proofs.lemmas.List.Elements.{All-nil, All-push}
use Rattle.joint_history.specs.declared.joint.Joint.{Joint}
use Rattle.journal_text.specs.declared.section.Head.{Head}
use Rattle.journal_text.specs.declared.section.Head.TheVariants as heads
use Rattle.journal_text.specs.declared.section.Section.{Section}
use Rattle.journal_text.specs.declared.section.Section.TheVariants as sections
use Rattle.journal_text.specs.declared.draft.Draft.{Draft}
use Rattle.journal_text.specs.declared.draft.Draft.TheVariants as drafts
use Rattle.journal_lines.specs.Lines.{controller_line, host_line, bridge_line, ring_line, with_feed}
use Rattle.journal_text.specs.Journal.{ring_head, journal}
use Rattle.journal_reading.specs.Reading.{read_as}
use Rattle.journal_text.specs.Drafts.{read_head, head_of, new_section, goes_before, no_sections}
use Rattle.journal_text.specs.Drafts.{with_section, with_line, start_line, first_head, open_line}
use Rattle.journal_text.specs.Drafts.{headed, next_section, next_entry, inside_line, inside_step}
use Rattle.journal_text.specs.Drafts.{step}
use Rattle.journal_reading.proofs.Ranges.{chosen}
use Rattle.journal_reading.proofs.Cuts.{some_is, bind_some, none_some, text_is}
use Rattle.journal_reading.proofs.ReadLaws.{IsField}
use Rattle.journal_reading.proofs.StationLines.{IsEntry, IsHostEntry, entry_ended, entry_field}
use Rattle.journal_reading.proofs.StationLines.{host_ended, host_field}
use Rattle.journal_reading.proofs.BridgeLines.{IsBridgeEntry, bridge_ended, bridge_field}
use Rattle.journal_reading.proofs.RingLines.{IsRingEntry, parts, ring_ended, ring_field}
use Rattle.journal_text.proofs.Heads.{FitsHead, head_body, head_field}
use Rattle.journal_text.proofs.Sections.{IsSection, section_text, AreSections, are_more, same_last}
use Rattle.journal_text.proofs.Sections.{last_is, sections_of, pushed, history_of_sections}
use Rattle.journal_text.proofs.Sections.{no_history, journal_is}
use Rattle.journal_text.proofs.Steps.{text_of, IsGood}

-- a list of texts with one more
push : {X : Type 0} (f : X → List ℕ) (xs : List X) (x : X)
    → flat_map f (xs ++ x ∷ []) ≡ flat_map f xs ++ f x
push f xs x = sym (flat_map_more f [] xs x)

-- a section of nothing is its head
new_text : (head : Head) → section_text (new_section head) ≡ with_feed (head_body head)
new_text (heads.Controller node) = append-nil (with_feed (codes "C " ++ decimal node))
new_text (heads.Host node) = append-nil (with_feed (codes "H " ++ decimal node))
new_text (heads.Bridge left right) =
    append-nil (codes "W " ++ decimal left ++ codes " " ++ decimal right ++ codes "\n")
    ∙ parts (codes "W ") (decimal left) (decimal right)
new_text (heads.Ring network) = append-nil (with_feed (ring_head network))

new_is : (head : Head) → FitsHead head → IsSection (new_section head)
new_is (heads.Controller node) fits = (fits, All-nil IsEntry)
new_is (heads.Host node) fits = (fits, All-nil IsHostEntry)
new_is (heads.Bridge left right) fits = (fits, All-nil IsBridgeEntry)
new_is (heads.Ring network) fits = (fits, All-nil IsRingEntry)

new_head : (head : Head) → head_of (new_section head) ≡ head
new_head (heads.Controller node) = refl
new_head (heads.Host node) = refl
new_head (heads.Bridge left right) = refl
new_head (heads.Ring network) = refl

-- what a line adds to a section
pub record Enters (section : Section) (line : List ℕ) (next : Section) : Type 0 where
  pub text : section_text next ≡ section_text section ++ with_feed line
  pub head : head_of section ≡ head_of next
  pub is : IsSection next

module _ {X : Type 0} {read : List ℕ → Option X} {body : X → List ℕ} {Is : X → Type 0}
    {low high : ℕ} (field : IsField read body Is low high) (told : X → List ℕ)
    (ended : (x : X) → told x ≡ with_feed (body x)) (make : List X → Section) where
  entered : (front : List ℕ) (F : Type 0)
      → ((xs : List X) → section_text (make xs) ≡ front ++ flat_map told xs)
      → ((xs ys : List X) → head_of (make xs) ≡ head_of (make ys))
      → ((xs : List X) → F × All Is xs → IsSection (make xs))
      → (xs : List X) (line : List ℕ) (next : Section) → F × All Is xs
      → read_as (λ x. make (xs ++ x ∷ [])) read line ≡ Some next → Enters (make xs) line next
  entered front F text head into xs line next is e =
      let p = bind_some (read line) (λ x. Some (make (xs ++ x ∷ []))) next e in
      let t = field.takes line p.0 p.1 in
      subst (λ (s : Section). Enters (make xs) line s) (some_is (make (xs ++ p.0 ∷ [])) next p.2)
      (record {
        text = text (xs ++ p.0 ∷ []) ∙ ap (λ (t : List ℕ). front ++ t) (push told xs p.0)
            ∙ sym (append_assoc front (flat_map told xs) (told p.0))
            ∙ (λ i. sym (text xs) i ++ (ended p.0 ∙ ap with_feed (sym t.0)) i);
        head = head xs (xs ++ p.0 ∷ []);
        is = into (xs ++ p.0 ∷ []) (is.0, All-push Is xs p.0 is.1 t.1);
      })

enters : (section : Section) (line : List ℕ) (next : Section) → IsSection section
    → with_line section line ≡ Some next → Enters section line next
enters (sections.Controller log) line next is e =
    entered entry_field controller_line entry_ended
    (λ xs. sections.Controller (record { node = log.node; entries = xs }))
    (with_feed (codes "C " ++ decimal log.node)) (FitsHead (heads.Controller log.node))
    (λ xs. refl) (λ xs ys. refl) (λ xs of. of) log.entries line next is e
enters (sections.Host log) line next is e =
    entered host_field host_line host_ended
    (λ xs. sections.Host (record { node = log.node; entries = xs }))
    (with_feed (codes "H " ++ decimal log.node)) (FitsHead (heads.Host log.node))
    (λ xs. refl) (λ xs ys. refl) (λ xs of. of) log.entries line next is e
enters (sections.Bridge log) line next is e =
    entered bridge_field bridge_line bridge_ended
    (λ xs. sections.Bridge (record { left = log.left; right = log.right; entries = xs }))
    (codes "W " ++ decimal log.left ++ codes " " ++ decimal log.right ++ codes "\n")
    (FitsHead (heads.Bridge log.left log.right))
    (λ xs. refl) (λ xs ys. refl) (λ xs of. of) log.entries line next is e
enters (sections.Ring log) line next is e =
    entered ring_field ring_line ring_ended
    (λ xs. sections.Ring (record { network = log.network; entries = xs }))
    (with_feed (ring_head log.network)) (FitsHead (heads.Ring log.network))
    (λ xs. refl) (λ xs ys. refl) (λ xs of. of) log.entries line next is e

-- what a line adds to what is read
pub record Adds (old new : Draft) (line : List ℕ) : Type 0 where
  pub text : text_of new ≡ text_of old ++ with_feed line
  pub good : IsGood new

-- the first line
start_adds : (line : List ℕ) (new : Draft) → start_line line ≡ Some new → Adds drafts.Start new line
unfolding start_line
start_adds line new e =
    elim (chosen (bytes_eq line (codes "%JOURNAL")) (Some drafts.Open) None (Some new) e) [
      | inl passed ↦
          subst (λ (d : Draft). Adds drafts.Start d line) (some_is drafts.Open new passed.1)
          (record {
            text = ap with_feed (sym (text_is line (codes "%JOURNAL") passed.0));
            good = tt;
          })
      | inr apart ↦ none_some (Adds drafts.Start new line) new apart.1
    ]

-- the first section, or the last line
one_text : (head : Head) (line : List ℕ) → line ≡ head_body head
    → flat_map section_text (new_section head ∷ []) ≡ with_feed line
one_text head line is =
    flat_map-cons section_text (new_section head) [] ∙ append-nil (section_text (new_section head))
    ∙ new_text head ∙ ap with_feed (sym is)

first_adds : (line : List ℕ) (new : Draft) → first_head line ≡ Some new → Adds drafts.Open new line
unfolding first_head
first_adds line new e =
    let p = bind_some (read_head line)
    (λ head. Some (drafts.Inside no_sections (new_section head))) new e in
    let h = head_field.takes line p.0 p.1 in
    subst (λ (d : Draft). Adds drafts.Open d line)
    (some_is (drafts.Inside no_sections (new_section p.0)) new p.2) (record {
      text = ap (λ (t : List ℕ). codes "%JOURNAL\n" ++ t) (one_text p.0 line h.0);
      good = (new_is p.0 h.1, tt, tt);
    })

open_adds : (line : List ℕ) (new : Draft) → open_line line ≡ Some new → Adds drafts.Open new line
unfolding open_line
open_adds line new e =
    elim (chosen (bytes_eq line (codes "%END")) (Some (drafts.End no_sections)) (first_head line)
    (Some new) e) [
      | inl last ↦
          subst (λ (d : Draft). Adds drafts.Open d line)
          (some_is (drafts.End no_sections) new last.1) (record {
            text = ap (λ (t : List ℕ). codes "%JOURNAL\n" ++ with_feed t)
                (sym (text_is line (codes "%END") last.0));
            good = no_history;
          })
      | inr more ↦ first_adds line new more.1
    ]

-- in a section: the last line, a head, or an entry
ended_text : (done : Joint) (section : Section) → AreSections (sections_of done ++ section ∷ [])
    → journal (with_section done section)
    ≡ text_of (drafts.Inside done section) ++ with_feed (codes "%END")
ended_text done section are =
    let list = sections_of done ++ section ∷ [] in
    journal_is (with_section done section)
    ∙ ap (λ (l : List Section). codes "%JOURNAL\n" ++ (flat_map section_text l ++ codes "%END\n"))
    (pushed done section are)
    ∙ sym (append_assoc (codes "%JOURNAL\n") (flat_map section_text list) (codes "%END\n"))

end_adds : (done : Joint) (section : Section) (line : List ℕ)
    → AreSections (sections_of done ++ section ∷ []) → line ≡ codes "%END"
    → Adds (drafts.Inside done section) (drafts.End (with_section done section)) line
end_adds done section line are is = record {
  text = ended_text done section are
      ∙ ap (λ (t : List ℕ). text_of (drafts.Inside done section) ++ with_feed t) (sym is);
  good = history_of_sections (with_section done section)
      (subst AreSections (sym (pushed done section are)) are);
}

-- more text behind what is read
behind_text : (list : List Section) (section : Section) (line before : List ℕ)
    → flat_map section_text (list ++ section ∷ [])
    ≡ before ++ with_feed line
    → codes "%JOURNAL\n" ++ flat_map section_text (list ++ section ∷ [])
    ≡ (codes "%JOURNAL\n" ++ before) ++ with_feed line
behind_text list section line before is =
    ap (λ (t : List ℕ). codes "%JOURNAL\n" ++ t) is
    ∙ sym (append_assoc (codes "%JOURNAL\n") before (with_feed line))

turn_adds : (done : Joint) (section : Section) (head : Head) (line : List ℕ) (new : Draft)
    → AreSections (sections_of done ++ section ∷ []) → line ≡ head_body head → FitsHead head
    → next_section done section head ≡ Some new → Adds (drafts.Inside done section) new line
unfolding next_section
turn_adds done section head line new are is fits e =
    let next = new_section head in
    let list = sections_of done ++ section ∷ [] in
    let now = with_section done section in
    elim (chosen (goes_before (head_of section) head) (Some (drafts.Inside now next)) None
    (Some new) e) [
      | inl passed ↦
          let before : goes_before (head_of section) (head_of next) ≡ true =
          ap (goes_before (head_of section)) (new_head head) ∙ passed.0 in
          let same = sym (pushed done section are) in
          subst (λ (d : Draft). Adds (drafts.Inside done section) d line)
          (some_is (drafts.Inside now next) new passed.1) (record {
            text = behind_text (sections_of now) next line (flat_map section_text list)
                (push section_text (sections_of now) next
                ∙ (λ i. flat_map section_text (sym same i)
                ++ (new_text head ∙ ap with_feed (sym is)) i));
            good = subst (λ (l : List Section). AreSections (l ++ next ∷ [])) same
                (are_more (sections_of done) section next are before (new_is head fits));
          })
      | inr apart ↦ none_some (Adds (drafts.Inside done section) new line) new apart.1
    ]

entry_adds : (done : Joint) (section : Section) (line : List ℕ) (new : Draft)
    → AreSections (sections_of done ++ section ∷ []) → next_entry done section line ≡ Some new
    → Adds (drafts.Inside done section) new line
unfolding next_entry
entry_adds done section line new are e =
    let p = bind_some (with_line section line) (λ more. Some (drafts.Inside done more)) new e in
    let list = sections_of done in
    let is = enters section line p.0 (last_is list section are) p.1 in
    subst (λ (d : Draft). Adds (drafts.Inside done section) d line)
    (some_is (drafts.Inside done p.0) new p.2) (record {
      text = behind_text list p.0 line (flat_map section_text (list ++ section ∷ []))
          (push section_text list p.0
          ∙ ap (λ (t : List ℕ). flat_map section_text list ++ t) is.text
          ∙ sym (append_assoc (flat_map section_text list) (section_text section) (with_feed line))
          ∙ ap (λ (t : List ℕ). t ++ with_feed line) (sym (push section_text list section)));
      good = same_last list section p.0 are is.head is.is;
    })

headed_some : {V : Type 0} (o : Option Head) (turn : Head → Option V) (other : Option V) (v : V)
    → headed o turn other ≡ Some v
    → ((head : Head) × (o ≡ Some head) × (turn head ≡ Some v)) ⊎ (other ≡ Some v)
headed_some (Some head) turn other v e = inl (head, refl, e)
headed_some None turn other v e = inr e

inside_adds : (done : Joint) (section : Section) (line : List ℕ) (new : Draft)
    → AreSections (sections_of done ++ section ∷ []) → inside_step done section line ≡ Some new
    → Adds (drafts.Inside done section) new line
unfolding inside_step inside_line
inside_adds done section line new are e =
    elim (chosen (bytes_eq line (codes "%END")) (Some (drafts.End (with_section done section)))
    (headed (read_head line) (next_section done section) (next_entry done section line))
    (Some new) e) [
      | inl last ↦
          subst (λ (d : Draft). Adds (drafts.Inside done section) d line)
          (some_is (drafts.End (with_section done section)) new last.1)
          (end_adds done section line are (text_is line (codes "%END") last.0))
      | inr more ↦
          elim (headed_some (read_head line) (next_section done section)
          (next_entry done section line) new more.1) [
            | inl found ↦
                let h = head_field.takes line found.0 found.1 in
                turn_adds done section found.0 line new are h.0 h.1 found.2
            | inr other ↦ entry_adds done section line new are other
          ]
    ]

pub step_adds : (old new : Draft) (line : List ℕ) → IsGood old → step old line ≡ Some new
    → Adds old new line
unfolding step
step_adds drafts.Start new line good e = start_adds line new e
step_adds drafts.Open new line good e = open_adds line new e
step_adds (drafts.Inside done section) new line good e =
    inside_adds done section line new good e
step_adds (drafts.End joint) new line good e = none_some (Adds (drafts.End joint) new line) new e
