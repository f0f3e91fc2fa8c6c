-- What a turn asks to know whether it is done, and what was answered.
use Rattle.std.proofs.Common.{◌≡◌, ℕ, nat_le, Bool, true, false, not, List, [], ◌++◌, refl, sym, ap}
use Rattle.std.proofs.Common.{◌∙◌, append_assoc}
use Rattle.std.proofs.lemmas.List.Elements.{filter-append}
use Rattle.std.proofs.Common.{subst}
use Rattle.std.proofs.Common.{append-nil}
use Rattle.controller_core.specs.declared.fixed.Fixed.{Fixed}
use Rattle.controller_core.specs.declared.entry.Entry.{Entry}
use Rattle.tied_lists.specs.Own.{WentOn}
use Rattle.joint_history.specs.Reading.{is_ours, failures_at, has_ended_at, has_started_at}
use Rattle.joint_history.proofs.CallBlocks.{clash}
use Rattle.comm_port.specs.Ending.{AskedFirst, AsksIfDone}
use Rattle.comm_port.specs.Sides.{RamSideIs}

-- ---- how it is asked

-- a call is uncollected
pub one-uncollected : (alone : Bool) (fixed : Fixed) (noticed : ℕ) (Idle : Type 0)
    (old at next last : List Entry)
    → WentOn alone is_ours old [] at → has_ended_at fixed at ≡ true
    → WentOn alone is_ours at [] next → nat_le (failures_at fixed next) noticed ≡ true
    → WentOn alone is_ours next [] last → has_started_at fixed last ≡ true
    → AsksIfDone alone fixed noticed Idle old last false
one-uncollected alone fixed noticed Idle old at next last first ended second few third started =
    record {
      all_yes = false;
      asked = record {
        at = at;
        went = first;
        yes = λ is. record {
          at = next;
          went = second;
          yes = λ is'. record {
            at = last;
            went = third;
            yes = λ none. absurd (clash none (ap not started));
            no = λ some. (refl, refl);
          };
          no = λ more. absurd (clash few more);
        };
        no = λ off. absurd (clash ended off);
      };
      done_is = (λ is. absurd (let wrong : false ≡ true = is in cc), λ both. both.0);
    }

-- each question was answered by yes, and the paths decide
pub all-answered : (alone : Bool) (fixed : Fixed) (noticed : ℕ) (Idle : Type 0)
    (old at next last : List Entry) (done : Bool)
    → WentOn alone is_ours old [] at → has_ended_at fixed at ≡ true
    → WentOn alone is_ours at [] next → nat_le (failures_at fixed next) noticed ≡ true
    → WentOn alone is_ours next [] last → has_started_at fixed last ≡ false
    → (done ≡ true → Idle) → (Idle → done ≡ true)
    → AsksIfDone alone fixed noticed Idle old last done
all-answered alone fixed noticed Idle old at next last done first ended second few third none only
    all = record {
      all_yes = true;
      asked = record {
        at = at;
        went = first;
        yes = λ is. record {
          at = next;
          went = second;
          yes = λ is'. record {
            at = last;
            went = third;
            yes = λ collected. (refl, refl);
            no = λ some. absurd (clash (ap not none) some);
          };
          no = λ more. absurd (clash few more);
        };
        no = λ off. absurd (clash ended off);
      };
      done_is = (λ is. (refl, only is), λ both. all both.1);
    }

-- the side is the same at a later question
pub side-started : {P : Type 0} (side side' : RamSideIs P) (list : List Entry) → side' ≡ side
    → has_started_at side.fixed list ≡ has_started_at side'.fixed list
side-started {P} side side' list same =
    ap (λ (s : RamSideIs P). has_started_at s.fixed list) (sym same)

pub side-failures : {P : Type 0} (side side' : RamSideIs P) (list : List Entry) → side' ≡ side
    → failures_at side.fixed list ≡ failures_at side'.fixed list
side-failures {P} side side' list same =
    ap (λ (s : RamSideIs P). failures_at s.fixed list) (sym same)

-- ---- what the answers say

-- the three questions, each at its moment
pub record BothAsked (alone : Bool) (fixed : Fixed) (noticed : ℕ) (Idle : Type 0)
    (old new : List Entry) (done : Bool) : Type 0 where
  pub at_end : List Entry
  pub at_fails : List Entry
  pub first : WentOn alone is_ours old [] at_end
  pub second : WentOn alone is_ours at_end [] at_fails
  pub third : WentOn alone is_ours at_fails [] new
  pub then_on : WentOn alone is_ours at_end [] new
  pub ended : done ≡ true → has_ended_at fixed at_end ≡ true
  pub few : done ≡ true → nat_le (failures_at fixed at_fails) noticed ≡ true
  pub collected : done ≡ true → has_started_at fixed new ≡ false
  pub idle : done ≡ true → Idle
  pub all : has_ended_at fixed at_end ≡ true → nat_le (failures_at fixed at_fails) noticed ≡ true
      → has_started_at fixed new ≡ false → Idle → done ≡ true

no-change : (alone : Bool) (list : List Entry) → WentOn alone is_ours list [] list
no-change alone list = record {
  between = [];
  others = refl;
  none_alone = λ is. refl;
  after_is = sym (append-nil (list ++ []) ∙ append-nil list);
}

yes-there : (b : Bool) → (b ≡ false → ⊥) → b ≡ true
yes-there true never = refl
yes-there false never = absurd (never refl)

not-so : (b : Bool) → not b ≡ true → b ≡ false
not-so true is = absurd (let wrong : false ≡ true = is in cc)
not-so false is = refl

-- two steps of others
went-both : (alone : Bool) (a b c : List Entry) → WentOn alone is_ours a [] b
    → WentOn alone is_ours b [] c → WentOn alone is_ours a [] c
went-both alone a b c one two = record {
  between = one.between ++ two.between;
  others = filter-append is_ours one.between two.between ∙ (λ i. one.others i ++ two.others i);
  none_alone = λ is. (λ i. one.none_alone is i ++ two.none_alone is i);
  after_is = two.after_is ∙ ap (λ (l : List Entry). (l ++ two.between) ++ [])
      (one.after_is ∙ append-nil (a ++ one.between))
      ∙ ap (λ (l : List Entry). l ++ []) (append_assoc a one.between two.between);
}

module _ (alone : Bool) (fixed : Fixed) (noticed : ℕ) (old new : List Entry) (all_yes : Bool) where
  abbrev Third : List Entry → Type 0
  Third at = AskedFirst alone (λ (list : List Entry). not (has_started_at fixed list))
      (λ (last : List Entry). (new ≡ last) × (all_yes ≡ true)) at new all_yes

  abbrev Second : List Entry → Type 0
  Second at = AskedFirst alone (λ (list : List Entry). nat_le (failures_at fixed list) noticed)
      Third at new all_yes

  abbrev First : Type 0
  First = AskedFirst alone (has_ended_at fixed) Second old new all_yes

  -- the later questions, behind the first
  record Rest (at_end : List Entry) : Type 0 where
    at_fails : List Entry
    second : WentOn alone is_ours at_end [] at_fails
    third : WentOn alone is_ours at_fails [] new
    few : all_yes ≡ true → nat_le (failures_at fixed at_fails) noticed ≡ true
    collected : all_yes ≡ true → has_started_at fixed new ≡ false
    all : has_ended_at fixed at_end ≡ true → nat_le (failures_at fixed at_fails) noticed ≡ true
        → has_started_at fixed new ≡ false → all_yes ≡ true

  -- nothing comes behind the last question
  came : (at : List Entry) (three : Third at) (b : Bool) → not (has_started_at fixed three.at) ≡ b
      → new ≡ three.at
  came at three true is = (three.yes is).0
  came at three false is = (three.no is).0

  came-so : (at : List Entry) (three : Third at) → new ≡ three.at
  came-so at three = came at three (not (has_started_at fixed three.at)) refl

  collected-so : (at : List Entry) (three : Third at) → all_yes ≡ true
      → has_started_at fixed new ≡ false
  collected-so at three is =
      let yes : not (has_started_at fixed three.at) ≡ true = yes-there
      (not (has_started_at fixed three.at)) (λ off. clash is (three.no off).1) in
      ap (has_started_at fixed) (three.yes yes).0 ∙ not-so (has_started_at fixed three.at) yes

  all-so : (at : List Entry) (three : Third at) → has_started_at fixed new ≡ false
      → all_yes ≡ true
  all-so at three none =
      let here : has_started_at fixed three.at ≡ false = ap (has_started_at fixed)
      (sym (came-so at three)) ∙ none in
      (three.yes (ap not here)).1

  from-second : (at : List Entry) (two : Second at) (b : Bool)
      → nat_le (failures_at fixed two.at) noticed ≡ b → Rest at
  from-second at two true is =
      let three : Third two.at = two.yes is in
      record {
        at_fails = two.at;
        second = two.went;
        third = subst (λ (l : List Entry). WentOn alone is_ours two.at [] l)
            (sym (came-so two.at three)) three.went;
        few = λ yes. is;
        collected = collected-so two.at three;
        all = λ ended few none. all-so two.at three none;
      }
  from-second at two false is = record {
    at_fails = two.at;
    second = two.went;
    third = subst (λ (l : List Entry). WentOn alone is_ours two.at [] l) (sym (two.no is).0)
        (no-change alone two.at);
    few = λ yes. absurd (clash yes (two.no is).1);
    collected = λ yes. absurd (clash yes (two.no is).1);
    all = λ ended few none. absurd (clash few is);
  }

  from-first : (one : First) (b : Bool) → has_ended_at fixed one.at ≡ b → Rest one.at
  from-first one true is =
      let two : Second one.at = one.yes is in
      from-second one.at two (nat_le (failures_at fixed two.at) noticed) refl
  from-first one false is = record {
    at_fails = one.at;
    second = no-change alone one.at;
    third = subst (λ (l : List Entry). WentOn alone is_ours one.at [] l) (sym (one.no is).0)
        (no-change alone one.at);
    few = λ yes. absurd (clash yes (one.no is).1);
    collected = λ yes. absurd (clash yes (one.no is).1);
    all = λ ended few none. absurd (clash ended is);
  }

  ended-so : (one : First) → all_yes ≡ true → has_ended_at fixed one.at ≡ true
  ended-so one is = yes-there (has_ended_at fixed one.at) (λ off. clash is (one.no off).1)

pub both-asked : {alone : Bool} {fixed : Fixed} {noticed : ℕ} {Idle : Type 0}
    {old new : List Entry} {done : Bool} → AsksIfDone alone fixed noticed Idle old new done
    → BothAsked alone fixed noticed Idle old new done
both-asked {alone} {fixed} {noticed} {Idle} {old} {new} {done} q =
    let rest = from-first alone fixed noticed old new q.all_yes q.asked
    (has_ended_at fixed q.asked.at) refl in
    record {
      at_end = q.asked.at;
      at_fails = rest.at_fails;
      first = q.asked.went;
      second = rest.second;
      third = rest.third;
      then_on = went-both alone q.asked.at rest.at_fails new rest.second rest.third;
      ended = λ is. ended-so alone fixed noticed old new q.all_yes q.asked (q.done_is.0 is).0;
      few = λ is. rest.few (q.done_is.0 is).0;
      collected = λ is. rest.collected (q.done_is.0 is).0;
      idle = λ is. (q.done_is.0 is).1;
      all = λ ended few none idle. q.done_is.1 (rest.all ended few none, idle);
    }
