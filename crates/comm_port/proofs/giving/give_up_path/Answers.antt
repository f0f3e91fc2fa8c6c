use Rattle.comm_port.proofs.Parts.{grew-none}
use Rattle.comm_port.proofs.GivesUp.{nothing-on, judged-on, no-no, may-yes, path-none, path-given}
use Rattle.comm_port.proofs.GivesUp.{on-none, on-not, on-given}
use Rattle.std.proofs.Common.{refl, ◌∷◌}
use Rattle.ring_core.specs.declared.entry.RingEntry.TheVariants.{GiveUp}
use Rattle.tied_lists.specs.Own.{is_of, Grew, Adds}
use Rattle.tied_lists.proofs.Growth.{adds_none, adds-grew}
use Rattle.comm_port.specs.Order.{IsGivingUp}
use Rattle.std.proofs.Common.{ℕ, sym, ◌∙◌, subst, List, [], Option}
use Rattle.ring_core.specs.declared.frame.Frame.{Frame}
use Rattle.tied_lists.specs.Items.{NetCall}
use Rattle.comm_port.specs.Sending.{GaveUp}
use Rattle.comm_port.specs.Turns.{KeepsInbox, Turning}
use Rattle.comm_port.proofs.Given.{waits-at, given-lead, not-given}
use Rattle.comm_port.proofs.Steps.{both-rest, both-ring, ram-called, ring-of}
use Rattle.comm_port.proofs.giving.give_up_path.Goals as goal

pub returns-in_default-2-clause-turning : goal.returns-in_default-2-clause-turning
returns-in_default-2-clause-turning g c =
    let o = c.in_ok-word.ensures in
    let n = c.args.node in
    let id = c.in-Some.id in
    let k = waits-at n c.args.path id _ _ _ _ c.args.waiting.now
    (sym c.id_on.ensures ∙ c.in-Some.is) c.requires.turning in
    let gave = subst (λ (w : Option ℕ). GaveUp g.R.RingSide.alone
    (g.R.RingSide.side c.args.ring.now).net id (g.R.RingSide.known
    c.args.ring.now) (g.R.RingSide.known c.give_up_on.new.ring) w) c.in_default-2.is o.given in
    not-given g.R.RingSide.alone n c.args.path id _ _ _ _ _ _ c.args.waiting.now o.step.same
    o.step.stands.legal k gave c.requires.turning

pub finish-requires : goal.finish-requires
finish-requires g c =
    let k = waits-at c.args.node c.args.path c.in-Some.id _ _ _ _ c.args.waiting.now
    (sym c.id_on.ensures ∙ c.in-Some.is) c.requires.turning in
    (NetCall, k.out)

pub returns-clause-turning : goal.returns-clause-turning
returns-clause-turning g c =
    let o = c.in_ok-word.ensures in
    let f = c.in_ok-finish.ensures in
    let n = c.args.node in
    let id = c.in-Some.id in
    let word = c.in-Some-2.word in
    let k = waits-at n c.args.path id _ _ _ _ c.args.waiting.now
    (sym c.id_on.ensures ∙ c.in-Some.is) c.requires.turning in
    let gave = subst (λ (w : Option ℕ). GaveUp g.R.RingSide.alone
    (g.R.RingSide.side c.args.ring.now).net id (g.R.RingSide.known
    c.args.ring.now) (g.R.RingSide.known c.give_up_on.new.ring) w) c.in-Some-2.is o.given in
    subst (λ (w : List (Option Frame)). Turning n [] (g.M.RamSide.side c.finish.new.self)
    (g.M.RamSide.known c.finish.new.self)
    (g.R.RingSide.side c.give_up_on.new.ring) (g.R.RingSide.known c.give_up_on.new.ring) w)
    (sym c.end.ensures.new)
    (given-lead g.M.RamSide.alone g.R.RingSide.alone n c.args.path id word _ _ _ _ _ _ _ _
    c.args.waiting.now f.same o.step.same
    o.step.stands.legal k gave f.went.list c.requires.turning)

pub returns-in_default-2-clause-kept : goal.returns-in_default-2-clause-kept
returns-in_default-2-clause-kept g c =
    let o = c.in_ok-word.ensures in
    let k = waits-at c.args.node c.args.path c.in-Some.id _ _ _ _ c.args.waiting.now
    (sym c.id_on.ensures ∙ c.in-Some.is) c.requires.turning in
    subst (λ (m : ℕ). KeepsInbox (g.R.RingSide.side c.args.ring.now).net m
    (g.R.RingSide.known c.args.ring.now)
    (g.R.RingSide.known c.give_up_on.new.ring)) k.own_is o.given.kept

pub returns-clause-kept : goal.returns-clause-kept
returns-clause-kept g c =
    let o = c.in_ok-word.ensures in
    let k = waits-at c.args.node c.args.path c.in-Some.id _ _ _ _ c.args.waiting.now
    (sym c.id_on.ensures ∙ c.in-Some.is) c.requires.turning in
    subst (λ (m : ℕ). KeepsInbox (g.R.RingSide.side c.args.ring.now).net m
    (g.R.RingSide.known c.args.ring.now)
    (g.R.RingSide.known c.give_up_on.new.ring)) k.own_is o.given.kept

pub returns-in_default-clause-ring_adds : goal.returns-in_default-clause-ring_adds
returns-in_default-clause-ring_adds g c = adds_none g.R.RingSide.alone (is_of c.args.node)
    IsGivingUp _

pub returns-in_default-2-clause-ring_adds : goal.returns-in_default-2-clause-ring_adds
returns-in_default-2-clause-ring_adds g c =
    let o = c.in_ok-word.ensures in
    let id = c.in-Some.id in
    let k = waits-at c.args.node c.args.path id _ _ _ _ c.args.waiting.now
    (sym c.id_on.ensures ∙ c.in-Some.is) c.requires.turning in
    let gave = subst (λ (w : Option ℕ). GaveUp g.R.RingSide.alone
    (g.R.RingSide.side c.args.ring.now).net id (g.R.RingSide.known
    c.args.ring.now) (g.R.RingSide.known c.give_up_on.new.ring) w) c.in_default-2.is o.given in
    subst (λ (m : ℕ). Adds g.R.RingSide.alone (is_of m) IsGivingUp
    (g.R.RingSide.known c.args.ring.now) (g.R.RingSide.known
    c.give_up_on.new.ring)) k.own_is
    (adds-grew g.R.RingSide.alone (is_of id.node) IsGivingUp _ [] _ tt gave.grew)

pub returns-clause-ring_adds : goal.returns-clause-ring_adds
returns-clause-ring_adds g c =
    let o = c.in_ok-word.ensures in
    let id = c.in-Some.id in
    let k = waits-at c.args.node c.args.path id _ _ _ _ c.args.waiting.now
    (sym c.id_on.ensures ∙ c.in-Some.is) c.requires.turning in
    let gave = subst (λ (w : Option ℕ). GaveUp g.R.RingSide.alone
    (g.R.RingSide.side c.args.ring.now).net id (g.R.RingSide.known
    c.args.ring.now) (g.R.RingSide.known c.give_up_on.new.ring) w) c.in-Some-2.is o.given in
    subst (λ (m : ℕ). Adds g.R.RingSide.alone (is_of m) IsGivingUp
    (g.R.RingSide.known c.args.ring.now) (g.R.RingSide.known
    c.give_up_on.new.ring)) k.own_is
    (adds-grew g.R.RingSide.alone (is_of id.node) IsGivingUp _ (GiveUp id c.in-Some-2.word ∷
    []) _ (tt, tt) gave.grew)

pub returns-in_default-clause-given : goal.returns-in_default-clause-given
returns-in_default-clause-given g c =
    let none = nothing-on c.args.node c.args.path [] _ _ _ _ c.args.waiting.now
    (sym c.id_on.ensures ∙ c.in_default.is) c.requires.turning in
    path-none g.M.RamSide.alone g.R.RingSide.alone (g.R.RingSide.side c.args.ring.now).net
    c.args.node c.args.path _ (g.R.RingSide.known c.args.ring.now) _ _ none
    (grew-none g.R.RingSide.alone (is_of c.args.node) _)

pub returns-in_default-clause-part : goal.returns-in_default-clause-part
returns-in_default-clause-part g c =
    let none = nothing-on c.args.node c.args.path [] _ _ _ _ c.args.waiting.now
    (sym c.id_on.ensures ∙ c.in_default.is) c.requires.turning in
    on-none _ c.args.node c.args.path _ none

pub returns-in_default-2-clause-given : goal.returns-in_default-2-clause-given
returns-in_default-2-clause-given g c =
    let o = c.in_ok-word.ensures in
    let n = c.args.node in
    let p = c.args.path in
    let id = c.in-Some.id in
    let k = waits-at n p id _ _ _ _ c.args.waiting.now (sym c.id_on.ensures ∙ c.in-Some.is)
    c.requires.turning in
    let j = judged-on n p id [] _ _ _ _ c.args.waiting.now k c.requires.turning in
    let gave = subst (λ (w : Option ℕ). GaveUp g.R.RingSide.alone
    (g.R.RingSide.side c.args.ring.now).net id (g.R.RingSide.known
    c.args.ring.now) (g.R.RingSide.known c.give_up_on.new.ring) w) c.in_default-2.is o.given in
    path-none g.M.RamSide.alone g.R.RingSide.alone (g.R.RingSide.side c.args.ring.now).net n p _
    (g.R.RingSide.known c.args.ring.now) _ _
    (no-no g.R.RingSide.alone _ n p id _ _ k.own_is j gave)
    (subst (λ (m : ℕ). Grew g.R.RingSide.alone (is_of m) (g.R.RingSide.known c.args.ring.now) []
    (g.R.RingSide.known
    c.give_up_on.new.ring)) k.own_is gave.grew)

pub returns-in_default-2-clause-part : goal.returns-in_default-2-clause-part
returns-in_default-2-clause-part g c =
    let o = c.in_ok-word.ensures in
    let n = c.args.node in
    let p = c.args.path in
    let id = c.in-Some.id in
    let k = waits-at n p id _ _ _ _ c.args.waiting.now (sym c.id_on.ensures ∙ c.in-Some.is)
    c.requires.turning in
    let j = judged-on n p id [] _ _ _ _ c.args.waiting.now k c.requires.turning in
    on-not g.R.RingSide.alone _ n p id _ _ k.own_is j _ c.in_default-2.is o.given

pub returns-clause-given : goal.returns-clause-given
returns-clause-given g c =
    let o = c.in_ok-word.ensures in
    let n = c.args.node in
    let p = c.args.path in
    let id = c.in-Some.id in
    let word = c.in-Some-2.word in
    let k = waits-at n p id _ _ _ _ c.args.waiting.now (sym c.id_on.ensures ∙ c.in-Some.is)
    c.requires.turning in
    let j = judged-on n p id [] _ _ _ _ c.args.waiting.now k c.requires.turning in
    let gave = subst (λ (w : Option ℕ). GaveUp g.R.RingSide.alone
    (g.R.RingSide.side c.args.ring.now).net id (g.R.RingSide.known
    c.args.ring.now) (g.R.RingSide.known c.give_up_on.new.ring) w) c.in-Some-2.is o.given in
    path-given g.M.RamSide.alone g.R.RingSide.alone (g.R.RingSide.side c.args.ring.now).net n p id
    word _ _ (g.R.RingSide.known c.args.ring.now) _ _
    (may-yes g.R.RingSide.alone _ n p id word _ _ k.own_is j gave)
    c.in_ok-finish.ensures.went.list
    (subst (λ (m : ℕ). Grew g.R.RingSide.alone (is_of m) (g.R.RingSide.known c.args.ring.now)
    (GiveUp id word ∷ [])
    (g.R.RingSide.known c.give_up_on.new.ring)) k.own_is gave.grew)

pub returns-clause-part : goal.returns-clause-part
returns-clause-part g c =
    let o = c.in_ok-word.ensures in
    let n = c.args.node in
    let p = c.args.path in
    let id = c.in-Some.id in
    let k = waits-at n p id _ _ _ _ c.args.waiting.now (sym c.id_on.ensures ∙ c.in-Some.is)
    c.requires.turning in
    let j = judged-on n p id [] _ _ _ _ c.args.waiting.now k c.requires.turning in
    on-given g.R.RingSide.alone _ n p id c.in-Some-2.word _ _ k.own_is k.path_is j _ c.in-Some-2.is
    o.given

pub returns-in_default-clause-step : goal.returns-in_default-clause-step
returns-in_default-clause-step g c =
    both-rest g.M.RamSide g.R.RingSide c.args.node c.args.ram.now c.args.ring.now
    c.requires.turning.own_turn.on.legal

pub returns-in_err-word-clause-step : goal.returns-in_err-word-clause-step
returns-in_err-word-clause-step g c =
    let id = c.in-Some.id in
    let k = waits-at c.args.node c.args.path id _ _ _ _ c.args.waiting.now
    (sym c.id_on.ensures ∙ c.in-Some.is) c.requires.turning in
    both-ring g.M.RamSide g.R.RingSide c.args.node c.args.ram.now
    (ring-of g.R.RingSide id.node c.args.node k.own_is c.in_err-word.ensures.step)

pub returns-in_default-2-clause-step : goal.returns-in_default-2-clause-step
returns-in_default-2-clause-step g c =
    let id = c.in-Some.id in
    let k = waits-at c.args.node c.args.path id _ _ _ _ c.args.waiting.now
    (sym c.id_on.ensures ∙ c.in-Some.is) c.requires.turning in
    both-ring g.M.RamSide g.R.RingSide c.args.node c.args.ram.now
    (ring-of g.R.RingSide id.node c.args.node k.own_is c.in_ok-word.ensures.step)

pub returns-in_err-finish-clause-step : goal.returns-in_err-finish-clause-step
returns-in_err-finish-clause-step g c =
    let id = c.in-Some.id in
    let k = waits-at c.args.node c.args.path id _ _ _ _ c.args.waiting.now
    (sym c.id_on.ensures ∙ c.in-Some.is) c.requires.turning in
    let f = c.in_err-finish.ensures in
    record {
      station = ram-called g.M.RamSide f.same f.legal f.went refl;
      node = ring-of
          g.R.RingSide id.node c.args.node k.own_is c.in_ok-word.ensures.step;
    }

pub returns-clause-step : goal.returns-clause-step
returns-clause-step g c =
    let id = c.in-Some.id in
    let k = waits-at c.args.node c.args.path id _ _ _ _ c.args.waiting.now
    (sym c.id_on.ensures ∙ c.in-Some.is) c.requires.turning in
    let f = c.in_ok-finish.ensures in
    record {
      station = ram-called g.M.RamSide f.same f.legal f.went refl;
      node = ring-of
          g.R.RingSide id.node c.args.node k.own_is c.in_ok-word.ensures.step;
    }
