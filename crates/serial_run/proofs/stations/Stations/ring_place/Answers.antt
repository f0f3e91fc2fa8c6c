use Rattle.std.proofs.Common.{◌≡◌, ◌<◌, ◌==◌, ◌∙◌, ℕ, Bool, List, [], ◌∷◌, Some, length, refl}
use Rattle.std.proofs.Common.{sym, ap}
use Rattle.std.specs.List.{position}
use Rattle.std.proofs.lemmas.List.Quantifiers.{position-Some}
use Rattle.std.proofs.lemmas.Option.{get_or_from_slice_get, slice_get_read}
use Rattle.serial_run.specs.declared.stations.ControllerStation.{ControllerStation}
use Rattle.serial_run.specs.declared.stations.RingStation.{RingStation}
use Rattle.serial_run.proofs.TurnCases.{ring-missing}
use Rattle.serial_run.proofs.stations.Stations.ring_place.Goals as goal

-- a place that was found is within the list
position-low : {X : Type 0} (p : X → Bool) (xs : List X) (at : ℕ) → position p xs ≡ Some at
    → at < length xs
position-low p [] at found = absurd (cc)
position-low p (x ∷ xs) at found = (position-Some p (x ∷ xs) at x found).0

pub returns-in-Some-clause-is : goal.returns-in-Some-clause-is
returns-in-Some-clause-is c = λ station is.
    let s = c.index.result.now in
    let items = c.args.self.now.controllers.items in
    let same = c.index.ensures ∙ get_or_from_slice_get items c.args.at station s is in
    ap (λ (x : ControllerStation). position (λ (r : RingStation). r.network == x.network)
    c.args.self.now.rings.items) (sym same)
    ∙ (sym c.ring_at.ensures ∙ c.in-Some.is)

pub returns-in-Some-clause-place : goal.returns-in-Some-clause-place
returns-in-Some-clause-place c =
    let s = c.index.result.now in
    let found = sym c.ring_at.ensures ∙ c.in-Some.is in
    position-low (λ (r : RingStation). r.network == s.network) c.args.self.now.rings.items
    c.in-Some.place found

pub returns-in-None-clause-is : goal.returns-in-None-clause-is
returns-in-None-clause-is c =
    let r = c.requires.stand in
    let items = c.args.self.now.controllers.items in
    let s = c.index.result.now in
    absurd (ring-missing r.plant r.scans c.args.self.now r.all c.args.at s
    (slice_get_read items (length items) c.args.at s refl c.requires.at c.index.ensures)
    (sym c.ring_at.ensures ∙ c.in-None.is))

pub returns-in-None-clause-place : goal.returns-in-None-clause-place
returns-in-None-clause-place c =
    let r = c.requires.stand in
    let items = c.args.self.now.controllers.items in
    let s = c.index.result.now in
    absurd (ring-missing r.plant r.scans c.args.self.now r.all c.args.at s
    (slice_get_read items (length items) c.args.at s refl c.requires.at c.index.ensures)
    (sym c.ring_at.ensures ∙ c.in-None.is))
