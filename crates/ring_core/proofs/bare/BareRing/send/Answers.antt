use Rattle.std.proofs.Common.{ap, sym, subst, refl, ℕ, ◌<◌, length, IfSome, ◌∙◌}
use Rattle.ring_core.specs.Machine.{fate_at, hears, arrival}
use Rattle.ring_core.specs.Scratch.{counts, arrival_notes}
use Rattle.ring_core.specs.Kept.{noted_at}
use Rattle.ring_core.specs.Bare.{bare_net, bare_ring}
use Rattle.station_stats.specs.declared.event.StatEvent.{StatEvent}
use Rattle.ring_core.proofs.Keeping.{counted, stations}
use Rattle.ring_core.proofs.Noting.{length-noted}
use Rattle.ring_core.proofs.Sending.{kept-send, told-send}
use Rattle.ring_core.proofs.bare.BareRing.send.Goals as goal

pub count_arrival-requires : goal.count_arrival-requires
count_arrival-requires c =
    subst (λ (size : ℕ). IfSome c.arrival-fell.result (λ _. c.args.frame.to < size))
    (ap length c.deref-2.ensures.value ∙ stations _ _ _ _ _ c.requires.kept)
    c.arrival-fell.ensures.there

pub count-requires : goal.count-requires
count-requires c =
    subst (λ (size : ℕ). c.args.node < size) (sym (ap length c.count_arrival.ensures
    ∙ length-noted c.args.self.now.stats.items
    (arrival_notes c.args.frame.to c.arrival-fell.result)))
    (counted _ _ _ _ _ c.args.node c.requires.kept c.requires.member)

pub returns-clause-ok : goal.returns-clause-ok
returns-clause-ok c =
    let n = c.args.node in
    let f = c.args.frame in
    let h = c.heard_of-heard.result in
    let r = bare_ring c.args.self.now in
    let net = bare_net c.args.self.now in
    record {
      net = refl;
      behind = kept-send _ _ r _ _ _ _ n f h c.hears-there.result c.fate_at-fate.result
          c.arrival-fell.result c.settle.new.nodes.items c.index_mut-part.result.now c.hear.new.self
          c.requires.kept c.requires.member c.requires.turn c.requires.head
          (c.fate_at-fate.ensures ∙ ap (λ l. fate_at l r.sent) c.as_slice.ensures)
          (c.hears-there.ensures.target
          ∙ (λ i. hears net (c.deref.ensures.value i) f.to (c.is_onward.ensures i)))
          (c.arrival-fell.ensures.fell
          ∙ ap (λ l. arrival net l c.fate_at-fate.result f) c.deref-2.ensures.value)
          c.heard_of-heard.ensures c.in_ok-settle.ensures.ok c.index_mut-part.ensures.value
          c.hear.ensures
          c.count_arrival.ensures
          (c.count.ensures ∙ ap (λ (event : StatEvent). noted_at c.count_arrival.new.stats.items
          (counts n event)) c.heard_event.ensures);
    }

pub returns-clause-heard : goal.returns-clause-heard
returns-clause-heard c =
    let r = bare_ring c.args.self.now in
    let net = bare_net c.args.self.now in
    told-send net _ r _ _ c.args.node c.args.frame c.heard_of-heard.result c.fate_at-fate.result
    c.arrival-fell.result c.requires.kept c.requires.head
    (c.fate_at-fate.ensures ∙ ap (λ l. fate_at l r.sent) c.as_slice.ensures)
    (c.arrival-fell.ensures.fell
    ∙ ap (λ l. arrival net l c.fate_at-fate.result c.args.frame) c.deref-2.ensures.value)
    c.heard_of-heard.ensures
