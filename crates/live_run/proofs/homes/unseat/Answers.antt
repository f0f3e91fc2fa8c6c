use Rattle.std.proofs.Common.{◌≡◌, Some, length-set, sym, ap, ◌∙◌}
use Rattle.turn_gate.specs.Known.{PassFacts, with_pass}
use Rattle.ring_core.specs.declared.entry.RingEntry.{RingEntry}
use Rattle.live_run.specs.Homes.{IsZero, KeepsZero, Purse, RingGate, place_of_ring}
use Rattle.live_run.proofs.Places.{emptied-at, home-at, keeps-some, pass-is, pass-there}
use Rattle.live_run.proofs.Places.{place-within, put-at, some-there, zero-kept}
use Rattle.live_run.proofs.homes.unseat.Given.{Over}
use Rattle.live_run.proofs.homes.unseat.Goals.{After-home}
use Rattle.live_run.proofs.homes.unseat.Goals as goal

-- pass 0 that took in another
joined-is : (pass joins zero : PassFacts RingEntry) (new : Purse) → new ≡ Some zero
    → zero ≡ with_pass pass joins → new ≡ Some (with_pass pass joins)
joined-is pass joins zero new is took = is ∙ ap Some took

-- the home that is read is the gate of the side
home-is : (g : Over) (c : After-home g) → c.home.inside.gate ≡ c.args.side.gate
home-is g c =
    c.home.view_is ∙ home-at c.args.homes.now c.args.network c.place_of-place.result
    c.args.side.gate c.index-homes-place.result c.requires.at.home
    c.place_of-place.ensures.place c.index-homes-place.is

zero : (g : Over) (c : After-home g) → IsZero c.args.side.gate c.take_out-zero.result
zero g c =
    zero-kept c.args.side.gate c.take_out-zero.result
    (pass-is KeepsZero c.args.homes.now c.args.purses.now c.args.network
    c.place_of-place.result c.args.side.gate c.requires.keeps c.requires.at.home
    c.place_of-place.ensures.place c.take_out-zero.result c.index-purses-place.result
    c.take_out-zero.ensures.is)

pub bounds-purses-place : goal.bounds-purses-place
bounds-purses-place g c =
    place-within KeepsZero c.args.homes.now c.args.purses.now c.args.network
    c.place_of-place.result c.args.side.gate c.requires.keeps c.requires.at.home
    c.place_of-place.ensures.place c.place_of-place.ensures.within

pub take_out-zero-requires : goal.take_out-zero-requires
take_out-zero-requires g c =
    some-there KeepsZero c.args.homes.now c.args.purses.now c.args.network
    c.place_of-place.result c.args.side.gate c.requires.keeps c.requires.at.home
    c.place_of-place.ensures.place (keeps-some c.args.side.gate) c.index-purses-place.result

pub join-zero-requires-clause-gate : goal.join-zero-requires-clause-gate
join-zero-requires-clause-gate g c =
    let a = (goal.at.join-zero-requires-clause-gate g c).After-home in
    let named = ap (λ (gate : RingGate). gate.name) (sym (home-is g a)) in
    ((zero g a).gate_is ∙ named, c.into_pass.ensures.ready.gate_is ∙ named)

pub join-zero-requires-clause-outside : goal.join-zero-requires-clause-outside
join-zero-requires-clause-outside g c = (
  (zero g (goal.at.join-zero-requires-clause-outside g c).After-home).outside,
  c.into_pass.ensures.ready.outside,
)

pub bounds-purses-place-2 : goal.bounds-purses-place-2
bounds-purses-place-2 g c =
    let low = place-within KeepsZero c.args.homes.now c.args.purses.now c.args.network
    c.place_of-place.result c.args.side.gate c.requires.keeps c.requires.at.home
    c.place_of-place.ensures.place c.place_of-place.ensures.within in
    simp length-set low

pub put_back-requires : goal.put_back-requires
put_back-requires g c =
    emptied-at c.args.purses.now c.place_of-place.result c.take_out-zero.new.purse
    c.index-purses-place-2.result (place-within KeepsZero c.args.homes.now
    c.args.purses.now c.args.network c.place_of-place.result c.args.side.gate c.requires.keeps
    c.requires.at.home c.place_of-place.ensures.place c.place_of-place.ensures.within)
    c.take_out-zero.ensures.none

pub returns : goal.returns
returns g c =
    let pass = c.take_out-zero.result in
    record {
      pass = pass;
      was = pass-there KeepsZero c.args.homes.now c.args.purses.now c.args.network
          c.place_of-place.result c.args.side.gate c.requires.keeps c.requires.at.home
          c.place_of-place.ensures.place pass c.index-purses-place.result
          c.take_out-zero.ensures.is;
      joins = c.into_pass.result;
      ready = c.into_pass.ensures.ready;
      seen = c.into_pass.ensures.seen;
      now = put-at c.args.purses.now c.place_of-place.result
          (place_of_ring c.args.homes.now c.args.network) c.take_out-zero.new.purse
          c.put_back.new.purse (Some (with_pass pass c.into_pass.result))
          c.place_of-place.ensures.place (joined-is pass c.into_pass.result
          c.join-zero.result c.put_back.new.purse c.put_back.ensures c.join-zero.ensures);
    }
