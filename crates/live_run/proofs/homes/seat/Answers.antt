use Rattle.std.proofs.Common.{◌≡◌, ◌≢◌, ℕ, ◌∷◌, false, Some, length-set, sym, ap, ◌∙◌, subst}
use Rattle.turn_gate.specs.Known.{PassFacts, is_among, split_off}
use Rattle.ring_core.specs.declared.entry.RingEntry.{RingEntry}
use Rattle.gated_sides.specs.Sides.{GatedRingIs}
use Rattle.live_run.specs.Homes.{IsZero, KeepsFor, Purse, RingGate, place_of_ring}
use Rattle.live_run.proofs.Places.{emptied-at, fresh-kept, home-at, keeps-some, pass-is, pass-there}
use Rattle.live_run.proofs.Places.{place-within, put-at, some-there, zero-kept}
use Rattle.live_run.proofs.homes.seat.Given.{Over}
use Rattle.live_run.proofs.homes.seat.Goals.{After-home}
use Rattle.live_run.proofs.homes.seat.Goals as goal

-- the side over a pass that was split off
seated-side : (home gate : RingGate) (pass other : PassFacts RingEntry) (number node : ℕ)
    (side : GatedRingIs)
    → side ≡ record { gate = home; number = other.number; seen = other.seen }
    → home ≡ gate → other ≡ split_off number pass → number ≡ node
    → side ≡ record { gate = gate; number = node; seen = pass.seen }
seated-side home gate pass other number node side is same split named =
    is ∙ (λ i. record {
      gate = same i;
      number = ((ap (λ (p : PassFacts RingEntry). p.number) split) ∙ named) i;
      seen = (ap (λ (p : PassFacts RingEntry). p.seen) split) i;
    })

-- pass 0 that gave a number more
given-is : (pass zero : PassFacts RingEntry) (number node : ℕ) (new : Purse) → new ≡ Some zero
    → zero ≡ record pass { given = number ∷ pass.given } → number ≡ node
    → new ≡ Some (record pass { given = node ∷ pass.given })
given-is pass zero number node new is gave named =
    is ∙ ap Some (gave ∙ ap (λ (n : ℕ). record pass { given = n ∷ pass.given }) named)

-- the home that is read is the gate of the network's ring
home-is : (g : Over) (c : After-home g) → c.home.inside.gate ≡ c.requires.there.0
home-is g c =
    c.home.view_is ∙ home-at c.args.homes.now c.args.network c.place_of-place.result
    c.requires.there.0 c.index-homes-place.result c.requires.there.1
    c.place_of-place.ensures.place c.index-homes-place.is

kept : (g : Over) (c : After-home g)
    → KeepsFor c.args.node c.requires.there.0 (Some c.take_out-zero.result)
kept g c =
    pass-is (KeepsFor c.args.node) c.args.homes.now c.args.purses.now c.args.network
    c.place_of-place.result c.requires.there.0 c.requires.keeps c.requires.there.1
    c.place_of-place.ensures.place c.take_out-zero.result c.index-purses-place.result
    c.take_out-zero.ensures.is

zero : (g : Over) (c : After-home g) → IsZero c.requires.there.0 c.take_out-zero.result
zero g c = zero-kept c.requires.there.0 c.take_out-zero.result (kept g c).keeps

pub bounds-purses-place : goal.bounds-purses-place
bounds-purses-place g c =
    place-within (KeepsFor c.args.node) c.args.homes.now c.args.purses.now c.args.network
    c.place_of-place.result c.requires.there.0 c.requires.keeps c.requires.there.1
    c.place_of-place.ensures.place c.place_of-place.ensures.within

pub take_out-zero-requires : goal.take_out-zero-requires
take_out-zero-requires g c =
    some-there (KeepsFor c.args.node) c.args.homes.now c.args.purses.now c.args.network
    c.place_of-place.result c.requires.there.0 c.requires.keeps c.requires.there.1
    c.place_of-place.ensures.place (λ purse k. keeps-some c.requires.there.0 purse k.keeps)
    c.index-purses-place.result

pub split-zero-requires-clause-gate : goal.split-zero-requires-clause-gate
split-zero-requires-clause-gate g c =
    let a = (goal.at.split-zero-requires-clause-gate g c).After-home in
    (zero g a).gate_is ∙ ap (λ (gate : RingGate). gate.name) (sym (home-is g a))

pub split-zero-requires-clause-outside : goal.split-zero-requires-clause-outside
split-zero-requires-clause-outside g c =
    (zero g (goal.at.split-zero-requires-clause-outside g c).After-home).outside

pub split-zero-requires-clause-zero : goal.split-zero-requires-clause-zero
split-zero-requires-clause-zero g c =
    (zero g (goal.at.split-zero-requires-clause-zero g c).After-home).number

pub split-zero-requires-clause-fresh : goal.split-zero-requires-clause-fresh
split-zero-requires-clause-fresh g c =
    let a = (goal.at.split-zero-requires-clause-fresh g c).After-home in
    let pass = c.take_out-zero.result in
    subst (λ n. (n ≢ 0) × (is_among n pass.given ≡ false)) (sym c.from.ensures)
    (fresh-kept c.args.node c.requires.there.0 pass (kept g a))

pub bounds-purses-place-2 : goal.bounds-purses-place-2
bounds-purses-place-2 g c =
    let low = place-within (KeepsFor c.args.node) c.args.homes.now c.args.purses.now c.args.network
    c.place_of-place.result c.requires.there.0 c.requires.keeps c.requires.there.1
    c.place_of-place.ensures.place c.place_of-place.ensures.within in
    simp length-set low

pub put_back-requires : goal.put_back-requires
put_back-requires g c =
    emptied-at c.args.purses.now c.place_of-place.result c.take_out-zero.new.purse
    c.index-purses-place-2.result (place-within (KeepsFor c.args.node) c.args.homes.now
    c.args.purses.now c.args.network c.place_of-place.result c.requires.there.0 c.requires.keeps
    c.requires.there.1 c.place_of-place.ensures.place c.place_of-place.ensures.within)
    c.take_out-zero.ensures.none

pub returns : goal.returns
returns g c =
    let a = (goal.at.returns g c).After-home in
    let pass = c.take_out-zero.result in
    record {
      gate = c.requires.there.0;
      home = c.requires.there.1;
      pass = pass;
      was = pass-there (KeepsFor c.args.node) c.args.homes.now c.args.purses.now c.args.network
          c.place_of-place.result c.requires.there.0 c.requires.keeps c.requires.there.1
          c.place_of-place.ensures.place pass c.index-purses-place.result
          c.take_out-zero.ensures.is;
      now = put-at c.args.purses.now c.place_of-place.result
          (place_of_ring c.args.homes.now c.args.network) c.take_out-zero.new.purse
          c.put_back.new.purse (Some (record pass { given = c.args.node ∷ pass.given }))
          c.place_of-place.ensures.place (given-is pass c.split-zero.result.0 c.from.result
          c.args.node c.put_back.new.purse c.put_back.ensures c.split-zero.ensures.zero
          c.from.ensures);
      side_is = seated-side c.home.inside.gate c.requires.there.0 pass c.split-zero.result.1
          c.from.result c.args.node c.new.result c.new.ensures (home-is g a)
          c.split-zero.ensures.other c.from.ensures;
    }
