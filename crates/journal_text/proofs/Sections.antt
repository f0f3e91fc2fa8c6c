-- The sections of a journal: how they follow each other, and the joint history that they tell.
use Rattle.std.proofs.Common.{◌≡◌, ℕ, ◌<◌, true, false, List, [], ◌∷◌, ◌++◌, map, All, refl, sym}
use Rattle.std.proofs.Common.{ap, subst, ◌∙◌, arith, append_assoc}
use Rattle.std.specs.Prelude.{codes, nat_lt}
use Rattle.std.specs.List.{flat_map}
use Rattle.std.proofs.lemmas.Bool.{false≢true}
use Rattle.std.proofs.lemmas.Bool.Decides.{nat_tests}
use Rattle.std.proofs.lemmas.List.{append-nil}
use Rattle.std.proofs.lemmas.List.Concat.{flat_map-cons}
use Rattle.std.proofs.lemmas.List.Elements.{All-nil, All-cons, All-head, All-tail}
use Rattle.joint_history.specs.declared.joint.ControllerLog.{ControllerLog}
use Rattle.joint_history.specs.declared.joint.HostLog.{HostLog}
use Rattle.joint_history.specs.declared.joint.BridgeLog.{BridgeLog}
use Rattle.joint_history.specs.declared.joint.RingLog.{RingLog}
use Rattle.joint_history.specs.declared.joint.Joint.{Joint}
use Rattle.journal_text.specs.declared.section.Head.{Head}
use Rattle.journal_text.specs.declared.section.Head.TheVariants as heads
use Rattle.journal_text.specs.declared.section.Section.{Section}
use Rattle.journal_text.specs.declared.section.Section.TheVariants as sections
use Rattle.journal_text.specs.Journal.{controller_section, host_section, bridge_section}
use Rattle.journal_text.specs.Journal.{ring_section, journal}
use Rattle.journal_text.specs.Drafts.{goes_before, head_of, no_sections, with_section}
use Rattle.journal_text.proofs.Rising.{Rises}
use Rattle.journal_text.proofs.Heads.{FitsHead}
use Rattle.journal_reading.proofs.StationLines.{IsEntry, IsHostEntry}
use Rattle.journal_reading.proofs.BridgeLines.{IsBridgeEntry}
use Rattle.journal_reading.proofs.RingLines.{IsRingEntry}

-- a section that a journal can tell, and its text
abbrev pub IsSection : Section → Type 0
IsSection (sections.Controller log) =
    FitsHead (heads.Controller log.node) × All IsEntry log.entries
IsSection (sections.Host log) = FitsHead (heads.Host log.node) × All IsHostEntry log.entries
IsSection (sections.Bridge log) =
    FitsHead (heads.Bridge log.left log.right) × All IsBridgeEntry log.entries
IsSection (sections.Ring log) = FitsHead (heads.Ring log.network) × All IsRingEntry log.entries

abbrev pub section_text : Section → List ℕ
section_text (sections.Controller log) = controller_section log
section_text (sections.Host log) = host_section log
section_text (sections.Bridge log) = bridge_section log
section_text (sections.Ring log) = ring_section log

pub head_fits : (section : Section) → IsSection section → FitsHead (head_of section)
head_fits (sections.Controller log) is = is.0
head_fits (sections.Host log) is = is.0
head_fits (sections.Bridge log) is = is.0
head_fits (sections.Ring log) is = is.0

-- sections of which each may follow the one before it
abbrev pub Leads : Section → List Section → Type 0
Leads section [] = Unit {0}
Leads section (next ∷ rest) = goes_before (head_of section) (head_of next) ≡ true

abbrev pub AreSections : List Section → Type 0
AreSections [] = Unit {0}
AreSections (section ∷ rest) = IsSection section × Leads section rest × AreSections rest

-- one more, and the last again with more in it
pub are_more : (xs : List Section) (x y : Section) → AreSections (xs ++ x ∷ [])
    → goes_before (head_of x) (head_of y) ≡ true → IsSection y
    → AreSections ((xs ++ x ∷ []) ++ y ∷ [])
are_more [] x y are before is = (are.0, before, (is, tt, tt))
are_more (a ∷ []) x y are before is = (are.0, are.1, are_more [] x y are.2 before is)
are_more (a ∷ b ∷ xs) x y are before is = (are.0, are.1, are_more (b ∷ xs) x y are.2 before is)

pub same_last : (xs : List Section) (x y : Section) → AreSections (xs ++ x ∷ [])
    → head_of x ≡ head_of y → IsSection y → AreSections (xs ++ y ∷ [])
same_last [] x y are same is = (is, tt, tt)
same_last (a ∷ []) x y are same is = (
  are.0,
  subst (λ (h : Head). goes_before (head_of a) h ≡ true) same are.1,
  same_last [] x y are.2 same is,
)
same_last (a ∷ b ∷ xs) x y are same is = (are.0, are.1, same_last (b ∷ xs) x y are.2 same is)

pub last_is : (xs : List Section) (x : Section) → AreSections (xs ++ x ∷ []) → IsSection x
last_is [] x are = are.0
last_is (a ∷ xs) x are = last_is xs x are.2

-- the sections of a joint history, and the joint history that sections make
abbrev pub sections_of : Joint → List Section
sections_of joint =
    map sections.Controller joint.controllers ++ (map sections.Host joint.hosts
    ++ (map sections.Bridge joint.bridges ++ (map sections.Ring joint.rings ++ [])))

abbrev pub with_sections : Joint → List Section → Joint
with_sections joint [] = joint
with_sections joint (section ∷ rest) = with_sections (with_section joint section) rest

with_both : (joint : Joint) (xs ys : List Section)
    → with_sections joint (xs ++ ys) ≡ with_sections (with_sections joint xs) ys
with_both joint [] ys = refl
with_both joint (x ∷ xs) ys = with_both (with_section joint x) xs ys

with_controllers : (joint : Joint) (logs : List ControllerLog) (rest : List Section)
    → with_sections joint (map sections.Controller logs ++ rest)
    ≡ with_sections (record joint { controllers = joint.controllers ++ logs }) rest
with_controllers joint [] rest =
    ap (λ (ls : List ControllerLog). with_sections (record joint { controllers = ls }) rest)
    (sym (append-nil joint.controllers))
with_controllers joint (log ∷ logs) rest =
    with_controllers (with_section joint (sections.Controller log)) logs rest
    ∙ ap (λ (ls : List ControllerLog). with_sections (record joint { controllers = ls }) rest)
    (append_assoc joint.controllers (log ∷ []) logs)

with_hosts : (joint : Joint) (logs : List HostLog) (rest : List Section)
    → with_sections joint (map sections.Host logs ++ rest)
    ≡ with_sections (record joint { hosts = joint.hosts ++ logs }) rest
with_hosts joint [] rest =
    ap (λ (ls : List HostLog). with_sections (record joint { hosts = ls }) rest)
    (sym (append-nil joint.hosts))
with_hosts joint (log ∷ logs) rest =
    with_hosts (with_section joint (sections.Host log)) logs rest
    ∙ ap (λ (ls : List HostLog). with_sections (record joint { hosts = ls }) rest)
    (append_assoc joint.hosts (log ∷ []) logs)

with_bridges : (joint : Joint) (logs : List BridgeLog) (rest : List Section)
    → with_sections joint (map sections.Bridge logs ++ rest)
    ≡ with_sections (record joint { bridges = joint.bridges ++ logs }) rest
with_bridges joint [] rest =
    ap (λ (ls : List BridgeLog). with_sections (record joint { bridges = ls }) rest)
    (sym (append-nil joint.bridges))
with_bridges joint (log ∷ logs) rest =
    with_bridges (with_section joint (sections.Bridge log)) logs rest
    ∙ ap (λ (ls : List BridgeLog). with_sections (record joint { bridges = ls }) rest)
    (append_assoc joint.bridges (log ∷ []) logs)

with_rings : (joint : Joint) (logs : List RingLog) (rest : List Section)
    → with_sections joint (map sections.Ring logs ++ rest)
    ≡ with_sections (record joint { rings = joint.rings ++ logs }) rest
with_rings joint [] rest =
    ap (λ (ls : List RingLog). with_sections (record joint { rings = ls }) rest)
    (sym (append-nil joint.rings))
with_rings joint (log ∷ logs) rest =
    with_rings (with_section joint (sections.Ring log)) logs rest
    ∙ ap (λ (ls : List RingLog). with_sections (record joint { rings = ls }) rest)
    (append_assoc joint.rings (log ∷ []) logs)

pub sections_whole : (joint : Joint) → with_sections no_sections (sections_of joint) ≡ joint
sections_whole joint =
    let rings = map sections.Ring joint.rings ++ [] in
    let bridges = map sections.Bridge joint.bridges ++ rings in
    let hosts = map sections.Host joint.hosts ++ bridges in
    let first = record no_sections { controllers = joint.controllers } in
    let second = record first { hosts = joint.hosts } in
    let third = record second { bridges = joint.bridges } in
    with_controllers no_sections joint.controllers hosts ∙ with_hosts first joint.hosts bridges
    ∙ with_bridges second joint.bridges rings ∙ with_rings third joint.rings []

-- a joint history that a journal can tell, kind by kind
abbrev pub controller_node : ControllerLog → ℕ
controller_node log = log.node

abbrev pub host_node : HostLog → ℕ
host_node log = log.node

abbrev pub left_end : BridgeLog → ℕ
left_end log = log.left

abbrev pub ring_number : RingLog → ℕ
ring_number log = log.network

abbrev pub AreOf : {X : Type 0} → (X → Section) → (X → ℕ) → List X → Type 0
AreOf make key logs = Rises (map key logs) × All (λ log. IsSection (make log)) logs

pub record IsHistory (joint : Joint) : Type 0 where
  pub controllers : AreOf sections.Controller controller_node joint.controllers
  pub hosts : AreOf sections.Host host_node joint.hosts
  pub bridges : AreOf sections.Bridge left_end joint.bridges
  pub rings : AreOf sections.Ring ring_number joint.rings

pub no_history : IsHistory no_sections
no_history = record {
  controllers = (tt, All-nil (λ log. IsSection (sections.Controller log)));
  hosts = (tt, All-nil (λ log. IsSection (sections.Host log)));
  bridges = (tt, All-nil (λ log. IsSection (sections.Bridge log)));
  rings = (tt, All-nil (λ log. IsSection (sections.Ring log)));
}

-- the sections of such a joint history follow each other
above : (a b : ℕ) → a < b → nat_lt a b ≡ true
above a b less = grind (arith, nat_tests)

above_of : (a b : ℕ) → nat_lt a b ≡ true → a < b
above_of a b e = grind (arith, nat_tests)

module _ {X : Type 0} (make : X → Section) where
  leads_past : (section : Section)
      → ((x : X) → goes_before (head_of section) (head_of (make x)) ≡ true)
      → (xs : List X) (rest : List Section) → Leads section rest
      → Leads section (map make xs ++ rest)
  leads_past section before [] rest leads = leads
  leads_past section before (x ∷ xs) rest leads = before x

  made_are : (key : X → ℕ) → ((x y : X) → key x < key y
      → goes_before (head_of (make x)) (head_of (make y)) ≡ true)
      → (xs : List X) (rest : List Section) → AreOf make key xs
      → ((x : X) → Leads (make x) rest) → AreSections rest → AreSections (map make xs ++ rest)
  made_are key before [] rest of leads are = are
  made_are key before (x ∷ []) rest of leads are =
      (All-head (λ y. IsSection (make y)) x [] of.1, leads x, are)
  made_are key before (x ∷ y ∷ xs) rest of leads are = (
    All-head (λ z. IsSection (make z)) x (y ∷ xs) of.1,
    before x y of.0.0,
    made_are key before (y ∷ xs) rest
        (of.0.1, All-tail (λ z. IsSection (make z)) x (y ∷ xs) of.1) leads are,
  )

  -- where a section leads to these it stands below them, or there are none
  made_rise : (key : X → ℕ) (section : Section) (number : ℕ)
      → ((x : X) → goes_before (head_of section) (head_of (make x)) ≡ true → number < key x)
      → (xs : List X) (rest : List Section) → Leads section (map make xs ++ rest)
      → Rises (map key xs) → Rises (number ∷ map key xs)
  made_rise key section number below [] rest leads rise = tt
  made_rise key section number below (x ∷ xs) rest leads rise = (below x leads, rise)

  none_made : (section : Section)
      → ((x : X) → goes_before (head_of section) (head_of (make x)) ≡ false)
      → (xs : List X) (rest : List Section) → Leads section (map make xs ++ rest)
      → (xs ≡ []) × Leads section rest
  none_made section apart [] rest leads = (refl, leads)
  none_made section apart (x ∷ xs) rest leads = absurd (false≢true (sym (apart x) ∙ leads))

  past_none : (section : Section) (xs : List X) (rest : List Section) → xs ≡ []
      → section ∷ (map make xs ++ rest) ≡ map make xs ++ section ∷ rest
  past_none section [] rest none = refl
  past_none section (x ∷ xs) rest none = absurd cc

  made_text : (f : X → List ℕ) → ((x : X) → section_text (make x) ≡ f x) → (xs : List X)
      (rest : List Section)
      → flat_map section_text (map make xs ++ rest) ≡ flat_map f xs ++ flat_map section_text rest
  made_text f is [] rest = refl
  made_text f is (x ∷ xs) rest =
      flat_map-cons section_text (make x) (map make xs ++ rest)
      ∙ (λ i. is x i ++ made_text f is xs rest i)
      ∙ sym (append_assoc (f x) (flat_map f xs) (flat_map section_text rest))
      ∙ ap (λ (t : List ℕ). t ++ flat_map section_text rest) (sym (flat_map-cons f x xs))

pub sections_are : (joint : Joint) → IsHistory joint → AreSections (sections_of joint)
unfolding goes_before
sections_are joint is =
    let rings = map sections.Ring joint.rings ++ [] in
    let bridges = map sections.Bridge joint.bridges ++ rings in
    let hosts = map sections.Host joint.hosts ++ bridges in
    made_are sections.Controller controller_node (λ x y less. above x.node y.node less)
    joint.controllers hosts is.controllers
    (λ x. leads_past sections.Host (sections.Controller x) (λ y. refl) joint.hosts bridges
    (leads_past sections.Bridge (sections.Controller x) (λ y. refl) joint.bridges rings
    (leads_past sections.Ring (sections.Controller x) (λ y. refl) joint.rings [] tt)))
    (made_are sections.Host host_node (λ x y less. above x.node y.node less) joint.hosts bridges
    is.hosts
    (λ x. leads_past sections.Bridge (sections.Host x) (λ y. refl) joint.bridges rings
    (leads_past sections.Ring (sections.Host x) (λ y. refl) joint.rings [] tt))
    (made_are sections.Bridge left_end (λ x y less. above x.left y.left less) joint.bridges rings
    is.bridges (λ x. leads_past sections.Ring (sections.Bridge x) (λ y. refl) joint.rings [] tt)
    (made_are sections.Ring ring_number (λ x y less. above x.network y.network less) joint.rings []
    is.rings (λ x. tt) tt)))

-- sections that follow each other are those of a joint history
pub record Told (list : List Section) : Type 0 where
  pub joint : Joint
  pub is : IsHistory joint
  pub same : list ≡ sections_of joint

told_controller : (log : ControllerLog) (list : List Section) → IsSection (sections.Controller log)
    → Leads (sections.Controller log) list → Told list → Told (sections.Controller log ∷ list)
unfolding goes_before
told_controller log list is leads t =
    let hosts = map sections.Host t.joint.hosts ++ (map sections.Bridge t.joint.bridges
    ++ (map sections.Ring t.joint.rings ++ [])) in
    record {
      joint = record t.joint { controllers = log ∷ t.joint.controllers };
      is = record {
        controllers = (
          made_rise sections.Controller controller_node (sections.Controller log) log.node
              (λ x before. above_of log.node x.node before) t.joint.controllers hosts
              (subst (Leads (sections.Controller log)) t.same leads) t.is.controllers.0,
          All-cons (λ l. IsSection (sections.Controller l)) log t.joint.controllers is
              t.is.controllers.1,
        );
        hosts = t.is.hosts;
        bridges = t.is.bridges;
        rings = t.is.rings;
      };
      same = ap (λ (l : List Section). sections.Controller log ∷ l) t.same;
    }

told_host : (log : HostLog) (list : List Section) → IsSection (sections.Host log)
    → Leads (sections.Host log) list → Told list → Told (sections.Host log ∷ list)
unfolding goes_before
told_host log list is leads t =
    let bridges = map sections.Bridge t.joint.bridges ++ (map sections.Ring t.joint.rings ++ []) in
    let hosts = map sections.Host t.joint.hosts ++ bridges in
    let first = none_made sections.Controller (sections.Host log) (λ x. refl) t.joint.controllers
    hosts (subst (Leads (sections.Host log)) t.same leads) in
    record {
      joint = record t.joint { hosts = log ∷ t.joint.hosts };
      is = record {
        controllers = t.is.controllers;
        hosts = (
          made_rise sections.Host host_node (sections.Host log) log.node
              (λ x before. above_of log.node x.node before) t.joint.hosts bridges first.1
              t.is.hosts.0,
          All-cons (λ l. IsSection (sections.Host l)) log t.joint.hosts is t.is.hosts.1,
        );
        bridges = t.is.bridges;
        rings = t.is.rings;
      };
      same = ap (λ (l : List Section). sections.Host log ∷ l) t.same
          ∙ past_none sections.Controller (sections.Host log) t.joint.controllers hosts first.0;
    }

told_bridge : (log : BridgeLog) (list : List Section) → IsSection (sections.Bridge log)
    → Leads (sections.Bridge log) list → Told list → Told (sections.Bridge log ∷ list)
unfolding goes_before
told_bridge log list is leads t =
    let rings = map sections.Ring t.joint.rings ++ [] in
    let bridges = map sections.Bridge t.joint.bridges ++ rings in
    let hosts = map sections.Host t.joint.hosts ++ bridges in
    let first = none_made sections.Controller (sections.Bridge log) (λ x. refl)
    t.joint.controllers hosts (subst (Leads (sections.Bridge log)) t.same leads) in
    let second = none_made sections.Host (sections.Bridge log) (λ x. refl) t.joint.hosts bridges
    first.1 in
    record {
      joint = record t.joint { bridges = log ∷ t.joint.bridges };
      is = record {
        controllers = t.is.controllers;
        hosts = t.is.hosts;
        bridges = (
          made_rise sections.Bridge left_end (sections.Bridge log) log.left
              (λ x before. above_of log.left x.left before) t.joint.bridges rings second.1
              t.is.bridges.0,
          All-cons (λ l. IsSection (sections.Bridge l)) log t.joint.bridges is t.is.bridges.1,
        );
        rings = t.is.rings;
      };
      same = ap (λ (l : List Section). sections.Bridge log ∷ l) t.same
          ∙ past_none sections.Controller (sections.Bridge log) t.joint.controllers hosts first.0
          ∙ ap (λ (l : List Section). map sections.Controller t.joint.controllers ++ l)
          (past_none sections.Host (sections.Bridge log) t.joint.hosts bridges second.0);
    }

told_ring : (log : RingLog) (list : List Section) → IsSection (sections.Ring log)
    → Leads (sections.Ring log) list → Told list → Told (sections.Ring log ∷ list)
unfolding goes_before
told_ring log list is leads t =
    let rings = map sections.Ring t.joint.rings ++ [] in
    let bridges = map sections.Bridge t.joint.bridges ++ rings in
    let hosts = map sections.Host t.joint.hosts ++ bridges in
    let section = sections.Ring log in
    let first = none_made sections.Controller section (λ x. refl) t.joint.controllers hosts
    (subst (Leads section) t.same leads) in
    let second = none_made sections.Host section (λ x. refl) t.joint.hosts bridges first.1 in
    let third = none_made sections.Bridge section (λ x. refl) t.joint.bridges rings second.1 in
    record {
      joint = record t.joint { rings = log ∷ t.joint.rings };
      is = record {
        controllers = t.is.controllers;
        hosts = t.is.hosts;
        bridges = t.is.bridges;
        rings = (
          made_rise sections.Ring ring_number section log.network
              (λ x before. above_of log.network x.network before) t.joint.rings [] third.1
              t.is.rings.0,
          All-cons (λ l. IsSection (sections.Ring l)) log t.joint.rings is t.is.rings.1,
        );
      };
      same = ap (λ (l : List Section). section ∷ l) t.same
          ∙ past_none sections.Controller section t.joint.controllers hosts first.0
          ∙ ap (λ (l : List Section). map sections.Controller t.joint.controllers ++ l)
          (past_none sections.Host section t.joint.hosts bridges second.0
          ∙ ap (λ (l : List Section). map sections.Host t.joint.hosts ++ l)
          (past_none sections.Bridge section t.joint.bridges rings third.0));
    }

pub told_of : (list : List Section) → AreSections list → Told list
told_of [] are = record { joint = no_sections; is = no_history; same = refl }
told_of (sections.Controller log ∷ list) are =
    told_controller log list are.0 are.1 (told_of list are.2)
told_of (sections.Host log ∷ list) are = told_host log list are.0 are.1 (told_of list are.2)
told_of (sections.Bridge log ∷ list) are = told_bridge log list are.0 are.1 (told_of list are.2)
told_of (sections.Ring log ∷ list) are = told_ring log list are.0 are.1 (told_of list are.2)

-- a joint history with a section more, behind its sections
pub pushed : (done : Joint) (section : Section) → AreSections (sections_of done ++ section ∷ [])
    → sections_of (with_section done section) ≡ sections_of done ++ section ∷ []
pushed done section are =
    let t = told_of (sections_of done ++ section ∷ []) are in
    let same : with_section done section ≡ t.joint =
    ap (λ (joint : Joint). with_section joint section) (sym (sections_whole done))
    ∙ sym (with_both no_sections (sections_of done) (section ∷ []))
    ∙ ap (with_sections no_sections) t.same ∙ sections_whole t.joint in
    ap sections_of same ∙ sym t.same

pub history_of_sections : (joint : Joint) → AreSections (sections_of joint) → IsHistory joint
history_of_sections joint are =
    let t = told_of (sections_of joint) are in
    let same : t.joint ≡ joint = sym (sections_whole t.joint)
    ∙ ap (with_sections no_sections) (sym t.same) ∙ sections_whole joint in
    subst IsHistory same t.is

-- the journal is the text of the sections, between its first line and its last
sections_text : (joint : Joint) → flat_map section_text (sections_of joint)
    ≡ flat_map controller_section joint.controllers ++ (flat_map host_section joint.hosts
    ++ (flat_map bridge_section joint.bridges ++ (flat_map ring_section joint.rings ++ [])))
sections_text joint =
    let rings = map sections.Ring joint.rings ++ [] in
    let bridges = map sections.Bridge joint.bridges ++ rings in
    made_text sections.Controller controller_section (λ x. refl) joint.controllers
    (map sections.Host joint.hosts ++ bridges)
    ∙ ap (λ (t : List ℕ). flat_map controller_section joint.controllers ++ t)
    (made_text sections.Host host_section (λ x. refl) joint.hosts bridges
    ∙ ap (λ (t : List ℕ). flat_map host_section joint.hosts ++ t)
    (made_text sections.Bridge bridge_section (λ x. refl) joint.bridges rings
    ∙ ap (λ (t : List ℕ). flat_map bridge_section joint.bridges ++ t)
    (made_text sections.Ring ring_section (λ x. refl) joint.rings [])))

grouped : (front a b c d last : List ℕ) → front ++ a ++ b ++ c ++ d ++ last
    ≡ front ++ ((a ++ (b ++ (c ++ (d ++ [])))) ++ last)
grouped front a b c d last = simp (append_assoc, append-nil)

pub journal_is : (joint : Joint) → journal joint
    ≡ codes "%JOURNAL\n" ++ (flat_map section_text (sections_of joint) ++ codes "%END\n")
journal_is joint =
    grouped (codes "%JOURNAL\n") (flat_map controller_section joint.controllers)
    (flat_map host_section joint.hosts) (flat_map bridge_section joint.bridges)
    (flat_map ring_section joint.rings) (codes "%END\n")
    ∙ ap (λ (t : List ℕ). codes "%JOURNAL\n" ++ (t ++ codes "%END\n")) (sym (sections_text joint))
