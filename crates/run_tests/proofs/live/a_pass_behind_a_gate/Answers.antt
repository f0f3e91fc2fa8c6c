use Rattle.std.proofs.Common.{◌≡◌, ℕ, zero, suc, All, [], ◌∷◌, Result, Ok, Err, OnOk, OnErr}
use Rattle.std.proofs.Common.{append-nil, ap, arith, refl, subst, sym, ◌∙◌}
use Rattle.std.specs.List.{Contains}
use Rattle.turn_gate.specs.Known.{PassAdds, PassFacts}
use Rattle.plant_types.specs.declared.net.NetPlan.{NetPlan}
use Rattle.ring_core.specs.Kept.{KeptRing, with_entry}
use Rattle.ring_core.specs.Words.{maker}
use Rattle.ring_core.specs.declared.entry.RingEntry.{RingEntry}
use Rattle.gated_sides.specs.Cells.{ring_in}
use Rattle.gated_sides.proofs.Stays.{adds, all_none}
use Rattle.run_tests.proofs.live.a_pass_behind_a_gate.Goals as goal

-- one entry by its maker
single : (e : RingEntry) (n : ℕ) → maker e ≡ n → All (λ (d : RingEntry). maker d ≡ n) (e ∷ [])
single e n is zero d low = is
single e n is (suc k) d low = absurd (omega arith)

-- a call that adds its entry or nothing may leave
added : {T X : Type 0} (r : Result T X) (old new : KeptRing) (e : RingEntry)
    (q : PassFacts RingEntry) (n : ℕ) → q.number ≡ n → q.seen ≡ old.history
    → maker e ≡ n → OnOk r (new ≡ with_entry old e) → OnErr r (new ≡ old)
    → PassAdds maker q new.history
added (Ok x) old new e q n number seen is ok err =
    adds maker q n old.history (e ∷ []) new.history number seen
    (ap (λ (v : KeptRing). v.history) ok) (single e n is)
added (Err why) old new e q n number seen is ok err =
    adds maker q n old.history [] new.history number seen
    (ap (λ (v : KeptRing). v.history) err ∙ sym (append-nil old.history)) (all_none maker n)

pub pass-passed-requires : goal.pass-passed-requires
pass-passed-requires g c =
    let found : c.get_mut.result.now ≡ ring_in c.enter-held.result.value = c.get_mut.ensures.value
    ∙ ap ring_in c.value.ensures.value in
    let net : c.get_mut.result.now.net ≡ c.in_ok-lonely_ring.field-0.net =
    ap (λ (v : KeptRing). v.net) found ∙ (c.enter-held.ensures.fixed
    ∙ (c.in_ok-gate.ensures.fixed ∙ ap (λ (v : KeptRing). v.net) c.new-cell.ensures)) in
    subst (λ ms. Contains ms 7)
    (sym (ap (λ (n : NetPlan). n.members) net ∙ c.in_ok-lonely_ring.ensures)) (0, omega arith, refl)

pub leave-requires-clause-added : goal.leave-requires-clause-added
leave-requires-clause-added g c =
    let found : c.get_mut.result.now ≡ ring_in c.enter-held.result.value = c.get_mut.ensures.value
    ∙ ap ring_in c.value.ensures.value in
    added c.pass-passed.result c.get_mut.result.now c.pass-passed.new.self _ c.enter-held.new.pass 7
    (ap (λ (p : PassFacts RingEntry). p.number) c.enter-held.ensures.pass
    ∙ ap (λ (p : PassFacts RingEntry). p.number) c.split-zero.ensures.other)
    (ap (λ (p : PassFacts RingEntry). p.seen) c.enter-held.ensures.pass
    ∙ sym (ap (λ (v : KeptRing). v.history) found))
    refl c.pass-passed.ensures.ok c.pass-passed.ensures.err
