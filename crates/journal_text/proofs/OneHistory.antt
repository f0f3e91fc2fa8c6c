-- One text is the journal of one joint history, and begins with one journal alone.
use Rattle.std.proofs.Common.{◌≡◌, ℕ, zero, suc, ◌<◌, List, [], ◌∷◌, ◌++◌, length, All, Option}
use Rattle.std.proofs.Common.{Some, None, ◌⊎◌, inl, inr, refl, sym, ap, subst, ◌∙◌, arith}
use Rattle.std.proofs.Common.{append_assoc}
use Rattle.std.specs.Prelude.{◌≢◌}
use Rattle.joint_history.specs.declared.joint.Joint.{Joint}
use Rattle.journal_text.specs.declared.draft.Draft.{Draft}
use Rattle.journal_text.specs.declared.draft.Draft.TheVariants as drafts
use Rattle.journal_text.specs.Laws.{OneHistoryOfAText, OneJournalInFront}
use Rattle.journal_reading.specs.Reading.{cut}
use Rattle.journal_text.specs.Drafts.{ending, step}
use Rattle.journal_reading.proofs.Cuts.{some_is, cut_parts, cut_lacks, cut_line, shorter}
use Rattle.journal_text.proofs.Sections.{IsHistory}
use Rattle.journal_text.proofs.Steps.{history_of, Goes}
use Rattle.journal_text.proofs.StepGoes.{step_goes}
use Rattle.journal_text.proofs.ReadLoop.{ending_is, not_ended}

-- what may become of the rest
cases_of : {A : Type 0} (o : Option A) → ((x : A) × (o ≡ Some x)) ⊎ (o ≡ None)
cases_of (Some x) = inl (x, refl)
cases_of None = inr refl

-- where the one has ended, so has the other
both_end : (draft : Draft) (rest other_rest : List ℕ) (one other : Joint) → cut 10 other_rest ≡ None
    → Goes draft one rest → Goes draft other other_rest
    → (one ≡ other) × (rest ≡ []) × (other_rest ≡ [])
both_end draft rest other_rest one other uncut goes also =
    elim (cases_of (ending draft other_rest)) [
      | inl found ↦
          let is = ending_is draft other_rest found.0 found.1 in
          let here : (one ≡ found.0) × (rest ≡ []) =
          subst (λ (d : Draft). Goes d one rest) is.draft_is goes in
          let there : (other ≡ found.0) × (other_rest ≡ []) =
          subst (λ (d : Draft). Goes d other other_rest) is.draft_is also in
          (here.0 ∙ sym there.0, here.1, there.1)
      | inr none ↦
          absurd (not_ended draft other_rest (cut_lacks 10 other_rest uncut) none other also)
    ]

no_front : (rest behind : List ℕ) → rest ≡ [] → rest ++ behind ≡ behind
no_front rest behind none = ap (λ (front : List ℕ). front ++ behind) none

-- the same line stands first in both
first_line : (line rest other_line other_rest : List ℕ) → All (λ b. b ≢ 10) line
    → All (λ b. b ≢ 10) other_line
    → line ++ 10 ∷ rest ≡ other_line ++ 10 ∷ other_rest → (line ≡ other_line) × (rest ≡ other_rest)
first_line line rest other_line other_rest none also same =
    let both : (line, rest) ≡ (other_line, other_rest) =
    some_is (line, rest) (other_line, other_rest) (sym (cut_line 10 line rest none)
    ∙ ap (cut 10) same ∙ cut_line 10 other_line other_rest also) in
    (ap (λ (parts : List ℕ × List ℕ). parts.0) both, ap (λ (parts : List ℕ × List ℕ). parts.1) both)

same_front : (most : ℕ) (draft : Draft) (rest other_rest behind other_behind : List ℕ)
    (one other : Joint) → length rest < most
    → IsHistory one → IsHistory other → Goes draft one rest → Goes draft other other_rest
    → rest ++ behind ≡ other_rest ++ other_behind
    → (one ≡ other) × (behind ≡ other_behind)
same_front zero draft rest other_rest behind other_behind one other less history others goes also
    same = absurd (omega arith)
same_front (suc most) draft rest other_rest behind other_behind one other less history others
    goes also same =
    elim (cases_of (cut 10 other_rest)) [
      | inl there ↦ elim (cases_of (cut 10 rest)) [
        | inl found ↦
            let parts = found.0 in
            let c = cut_parts 10 rest parts found.1 in
            let d = cut_parts 10 other_rest there.0 there.1 in
            let fewer = shorter 10 rest parts found.1 in
            let lines : parts.0 ++ 10 ∷ (parts.1 ++ behind)
            ≡ there.0.0 ++ 10 ∷ (there.0.1 ++ other_behind) =
            sym (append_assoc parts.0 (10 ∷ parts.1) behind)
            ∙ ap (λ (t : List ℕ). t ++ behind) (sym c.whole) ∙ same
            ∙ ap (λ (t : List ℕ). t ++ other_behind) d.whole
            ∙ append_assoc there.0.0 (10 ∷ there.0.1) other_behind in
            let first = first_line parts.0 (parts.1 ++ behind) there.0.0
            (there.0.1 ++ other_behind) c.none d.none lines in
            let next = step_goes draft one parts.0 parts.1 history c.none
            (subst (λ (t : List ℕ). Goes draft one t) c.whole goes) in
            let after = step_goes draft other there.0.0 there.0.1 others d.none
            (subst (λ (t : List ℕ). Goes draft other t) d.whole also) in
            let one_step : after.new ≡ next.new =
            some_is after.new next.new (sym after.is ∙ ap (step draft) (sym first.0) ∙ next.is) in
            same_front most next.new parts.1 there.0.1 behind other_behind one other
            (omega arith) history others next.goes
            (subst (λ (d' : Draft). Goes d' other there.0.1) one_step after.goes) first.1
        | inr none ↦
            let ends = both_end draft other_rest rest other one none also goes in (
              sym ends.0,
              sym (no_front rest behind ends.2) ∙ same ∙ no_front other_rest other_behind ends.1,
            )
      ]
      | inr none ↦
          let ends = both_end draft rest other_rest one other none goes also in (
            ends.0,
            sym (no_front rest behind ends.1) ∙ same ∙ no_front other_rest other_behind ends.2,
          )
    ]

pub one-front : OneJournalInFront
one-front one other front other_front behind other_behind is also same =
    same_front (suc (length front)) drafts.Start front other_front behind other_behind one
    other (omega arith)
    (history_of one front is) (history_of other other_front also) is.text also.text same

pub one-history : OneHistoryOfAText
one-history one other bytes is also = (one-front one other bytes bytes [] [] is also refl).0
