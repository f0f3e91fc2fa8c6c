-- The ring of each network, as stations stand on it.
use Rattle.std.proofs.Common.{◌≡◌, ◌≢◌, ◌⊎◌, ℕ, zero, suc, ◌<◌, ◌≤◌, ◌==◌, true, false}
use Rattle.std.proofs.Common.{cond, List, [], ◌∷◌, map, set, Option, Some, refl, sym}
use Rattle.std.proofs.Common.{ap}
use Rattle.std.proofs.Common.{subst, ◌∙◌, arith, ⊎_elim, inl, inr, get_or}
use Rattle.std.specs.Prelude.{if◌then◌else◌}
use Rattle.std.specs.List.{All, AllPairs, AllZip, Contains, find, slice_get}
use Rattle.std.proofs.lemmas.Bool.{cases_Bool, cases_lt, eq-eqb, ne_eqb}
use Rattle.std.proofs.lemmas.List.Kept.{AllPairs-from_increasing}
use Rattle.std.proofs.lemmas.Option.{get_or_from_slice_get, slice_get-get_or, slice_get-map}
use Rattle.std.proofs.lemmas.Option.{slice_get_within}
use Rattle.plant_types.specs.declared.net.NetPlan.{NetPlan}
use Rattle.plant_types.specs.declared.plan.Plant.{Plant}
use Rattle.plant_types.specs.Plans.{IsNetPlan, IsPlant, net_numbers, net_of}
use Rattle.ring_core.specs.declared.entry.RingEntry.{RingEntry}
use Rattle.ring_core.specs.Kept.{KeptRing}
use Rattle.ring_core.specs.Legal.{IsLegalRing, IsMember}
use Rattle.ring_core.specs.Machine.{addresses}
use Rattle.tied_lists.specs.Own.{is_of}
use Rattle.joint_history.specs.declared.joint.RingLog.{RingLog}
use Rattle.joint_history.specs.JointLaws.{IsLegalRingLog}
use Rattle.joint_history.specs.Nets.{entries_if, entries_on}
use Rattle.net_laws.proofs.On.{IsOn, net-of-is}
use Rattle.serial_run.specs.declared.stations.RingStation.{RingStation}
use Rattle.serial_run.specs.Turns.{with_entries}
use Rattle.serial_run.specs.Stations.{StandsRing, log_of_ring, ring_if, ring_on, station_on}
use Rattle.serial_run.proofs.Grown.{Further, further-none}
use Rattle.serial_run.proofs.Lists.{found-at, set-found, zip-at, zip-at-first, zip-map, zip-set}

-- ---- places of networks

-- places in a list that rises
same-place : (xs : List ℕ) → AllPairs (λ x y. x < y) xs → (i j m : ℕ) → slice_get xs i ≡ Some m
    → slice_get xs j ≡ Some m → i ≡ j
same-place xs pairs i j m at-i at-j =
    let gi : get_or xs i m ≡ m = get_or_from_slice_get xs i m m at-i in
    let gj : get_or xs j m ≡ m = get_or_from_slice_get xs j m m at-j in
    let wi = slice_get_within xs i m at-i in
    let wj = slice_get_within xs j m at-j in
    ⊎_elim
    (λ (less : i < j). absurd (let p = pairs i j m less wj in omega arith))
    (λ (more : j ≤ i). ⊎_elim
    (λ (less : j < i). absurd (let p = pairs j i m less wi in omega arith))
    (λ (le : i ≤ j). omega arith)
    (cases_lt j i))
    (cases_lt i j)

number-at : (xs : List NetPlan) (k : ℕ) (x : NetPlan) → slice_get xs k ≡ Some x
    → slice_get (map (λ (net : NetPlan). net.number) xs) k ≡ Some x.number
number-at xs k x is = slice_get-map (λ (net : NetPlan). net.number) xs k ∙ ap
    (λ (o : Option NetPlan). Rattle.std.specs.Prelude.option_map (λ (net : NetPlan). net.number) o)
    is

-- networks of a plant with one number stand at one place
pub same-net : (plant : Plant) → IsPlant plant → (i j : ℕ) (m n : NetPlan)
    → slice_get plant.nets i ≡ Some m → slice_get plant.nets j ≡ Some n → m.number ≡ n.number
    → i ≡ j
same-net plant sound i j m n at-i at-j same =
    same-place (net_numbers plant) (AllPairs-from_increasing (net_numbers plant) sound.nets_rise)
    i j n.number (number-at plant.nets i m at-i ∙ ap Some same) (number-at plant.nets j n at-j)

pub place-of : {X : Type 0} (xs : List X) (x : X) → Contains xs x
    → (k : ℕ) × (slice_get xs k ≡ Some x)
place-of xs x there = (there.0, slice_get-get_or xs there.0 x there.1 ∙ ap Some there.2)

pub contains-at : {X : Type 0} (xs : List X) (k : ℕ) (x : X) → slice_get xs k ≡ Some x
    → Contains xs x
contains-at xs k x is = (k, slice_get_within xs k x is, get_or_from_slice_get xs k x x is)

-- ---- the ring of a network

-- the ring at a place is that of a network, and no other is of that network
pub record RingPlace (plant : Plant) (rings : List RingStation) (place : ℕ)
    (station : RingStation) : Type 0 where
  pub is : slice_get rings place ≡ Some station
  pub net : NetPlan
  pub net_is : slice_get plant.nets place ≡ Some net
  pub stands : StandsRing net station
  pub others : (k : ℕ) (y : RingStation) → k ≢ place → slice_get rings k ≡ Some y
      → (y.network == station.network) ≡ false
  pub found : station_on rings station.network ≡ Some station

module _ (plant : Plant) (rings : List RingStation) (sound : IsPlant plant)
    (all : AllZip StandsRing plant.nets rings) where
  pub ring-place : (place : ℕ) (station : RingStation) → slice_get rings place ≡ Some station
      → RingPlace plant rings place station
  ring-place place station is = record {
    is = is;
    net = mine.0;
    net_is = mine.1;
    stands = mine.2;
    others = others;
    found = found-at (λ (r : RingStation). r.network == station.network) rings place station is
        (eq-eqb station.network station.network refl) others;
  } where
    mine : (net : NetPlan) × (slice_get plant.nets place ≡ Some net) × StandsRing net station
    mine = zip-at StandsRing plant.nets rings place station all is

    others : (k : ℕ) (y : RingStation) → k ≢ place → slice_get rings k ≡ Some y
        → (y.network == station.network) ≡ false
    others k y apart at-y =
        let other = zip-at StandsRing plant.nets rings k y all at-y in
        ne_eqb y.network station.network (λ same. apart (same-net plant sound k place other.0 mine.0
        other.1 mine.1 (sym other.2.network ∙ (same ∙ mine.2.network))))

  -- each network has its ring
  pub record RingOf (net : NetPlan) : Type 0 where
    pub place : ℕ
    pub station : RingStation
    pub at : RingPlace plant rings place station
    pub stands : StandsRing net station
    pub found : station_on rings net.number ≡ Some station
    pub ring_is : ring_on rings net.number ≡ station.ring

  pub ring-of : (net : NetPlan) → Contains plant.nets net → RingOf net
  ring-of net there =
      let spot = place-of plant.nets net there in
      let its = zip-at-first StandsRing plant.nets rings spot.0 net all spot.1 in
      let at = ring-place spot.0 its.0 its.1 in
      let found' : station_on rings net.number ≡ Some its.0 =
      ap (λ (k : ℕ). station_on rings k) (sym its.2.network) ∙ at.found in
      record {
        place = spot.0;
        station = its.0;
        at = at;
        stands = its.2;
        found = found';
        ring_is = ap ring_if found';
      }

-- ---- the ring of a node's network

pub record NodeOn (plant : Plant) (rings : List RingStation) (network node : ℕ) : Type 0 where
  pub on : IsOn plant network node
  pub net_is : (ring_on rings network).net ≡ net_of plant node
  pub legal : IsLegalRing (net_of plant node) (ring_on rings network).history
  pub member : IsMember (net_of plant node) node
  pub sound : IsNetPlan (net_of plant node)

pub node-on : (plant : Plant) (rings : List RingStation) → IsPlant plant
    → AllZip StandsRing plant.nets rings → (network node : ℕ) → IsOn plant network node
    → NodeOn plant rings network node
node-on plant rings sound all network node on =
    let ring = ring-of plant rings sound all on.net on.there in
    let is : ring_on rings network ≡ ring.station.ring =
    ap (λ (k : ℕ). ring_on rings k) (sym on.number) ∙ ring.ring_is in
    record {
      on = on;
      net_is = ap (λ (r : KeptRing). r.net) is ∙ (ring.stands.net_is ∙ sym on.is);
      legal = subst (λ (net : NetPlan). IsLegalRing net (ring_on rings network).history)
          (sym on.is) (subst (λ (r : KeptRing). IsLegalRing on.net r.history) (sym is)
          ring.stands.legal);
      member = subst (λ (net : NetPlan). IsMember net node) (sym on.is) on.member;
      sound = subst IsNetPlan (sym on.is) on.sound;
    }

pub low-members : (net : NetPlan) → IsNetPlan net → All (λ m. m < addresses) net.members
low-members net sound k d within =
    let to = (sound.members.each k d within).to in omega (arith, to)

-- a member of a network is on that one
pub same-network : (plant : Plant) (network node : ℕ) (net : NetPlan) → IsPlant plant
    → IsOn plant network node → Contains plant.nets net → IsMember net node → network ≡ net.number
same-network plant network node net sound on there member =
    sym on.number ∙ ap (λ (n : NetPlan). n.number)
    (sym on.is ∙ net-of-is plant net node sound there member)

-- ---- a ring goes on

-- the rings went on by entries of one node
pub record GrewBy (n : ℕ) (old new : List RingStation) : Type 0 where
  pub further : (k : ℕ) → Further (is_of n) (ring_on old k).history (ring_on new k).history
  pub net : (k : ℕ) → (ring_on new k).net ≡ (ring_on old k).net

pub grew-none : (n : ℕ) (rings : List RingStation) → GrewBy n rings rings
grew-none n rings = record {
  further = λ k. further-none (is_of n) (ring_on rings k).history;
  net = λ k. refl;
}

-- a ring station with another ring
abbrev pub behind : RingStation → KeptRing → RingStation
behind station ring = record {
  network = station.network;
  members = station.members;
  ring = ring;
}

-- the ring of the network of a number is that of the place now, or what it was
set-cases : (rings : List RingStation) (place : ℕ) (r : RingStation) (ring : KeptRing)
    → slice_get rings place ≡ Some r → (k : ℕ)
    → ((ring_on (set rings place (behind r ring)) k ≡ ring) × (ring_on rings k ≡ r.ring))
    ⊎ (ring_on (set rings place (behind r ring)) k ≡ ring_on rings k)
set-cases [] place r ring is k = absurd (cc)
set-cases (x ∷ rings) zero r ring is k =
    let there : x ≡ r = cc in
    let first : ring_on (x ∷ rings) k
    ≡ ring_if (cond (r.network == k) (Some r) (station_on rings k)) =
    ap (λ (y : RingStation). ring_if (cond (y.network == k) (Some y) (station_on rings k))) there in
    ⊎_elim
    (λ (yes : (r.network == k) ≡ true). inl (
      ap (λ b. ring_if (cond b (Some (behind r ring)) (station_on rings k))) yes,
      first ∙ ap (λ b. ring_if (cond b (Some r) (station_on rings k))) yes,
    ))
    (λ (no' : (r.network == k) ≡ false). inr (
    ap (λ b. ring_if (cond b (Some (behind r ring)) (station_on rings k))) no'
    ∙ sym (first ∙ ap (λ b. ring_if (cond b (Some r) (station_on rings k))) no')
    ))
    (cases_Bool (r.network == k))
set-cases (x ∷ rings) (suc place) r ring is k =
    let more = station_on (set rings place (behind r ring)) k in
    ⊎_elim
    (λ (yes : (x.network == k) ≡ true). inr (
    ap (λ b. ring_if (cond b (Some x) more)) yes
    ∙ sym (ap (λ b. ring_if (cond b (Some x) (station_on rings k))) yes)
    ))
    (λ (no' : (x.network == k) ≡ false).
    let new_is : ring_on (x ∷ set rings place (behind r ring)) k
    ≡ ring_on (set rings place (behind r ring)) k =
    ap (λ b. ring_if (cond b (Some x) more)) no' in
    let old_is : ring_on (x ∷ rings) k ≡ ring_on rings k =
    ap (λ b. ring_if (cond b (Some x) (station_on rings k))) no' in
    ⊎_elim
    (λ (both : (ring_on (set rings place (behind r ring)) k ≡ ring) × (ring_on rings k ≡ r.ring)).
    inl (new_is ∙ both.0, old_is ∙ both.1))
    (λ (same : ring_on (set rings place (behind r ring)) k ≡ ring_on rings k).
    inr (new_is ∙ (same ∙ sym old_is)))
    (set-cases rings place r ring is k))
    (cases_Bool (x.network == k))

-- the ring stations of other networks stay
pub station-other : (rings : List RingStation) (place : ℕ) (r : RingStation) (ring : KeptRing)
    → slice_get rings place ≡ Some r → (k : ℕ) → k ≢ r.network
    → station_on (set rings place (behind r ring)) k ≡ station_on rings k
station-other [] place r ring is k other = absurd (cc)
station-other (x ∷ rings) zero r ring is k other =
    let there : x ≡ r = cc in
    let off : (r.network == k) ≡ false = ne_eqb r.network k (λ same. other (sym same)) in
    ap (λ b. cond b (Some (behind r ring)) (station_on rings k)) off
    ∙ sym (ap (λ (y : RingStation). cond (y.network == k) (Some y) (station_on rings k)) there
    ∙ ap (λ b. cond b (Some r) (station_on rings k)) off)
station-other (x ∷ rings) (suc place) r ring is k other =
    ap (λ (o : Option RingStation). cond (x.network == k) (Some x) o)
    (station-other rings place r ring is k other)

grew-set : (n : ℕ) (rings : List RingStation) (place : ℕ) (r : RingStation) (ring : KeptRing)
    → slice_get rings place ≡ Some r → Further (is_of n) r.ring.history ring.history
    → ring.net ≡ r.ring.net → GrewBy n rings (set rings place (behind r ring))
grew-set n rings place r ring is f net = record {
  further = λ k. ⊎_elim
      (λ (both : (ring_on (set rings place (behind r ring)) k ≡ ring) × (ring_on rings k ≡ r.ring)).
      subst (λ (x : KeptRing). Further (is_of n) (ring_on rings k).history x.history) (sym both.0)
      (subst (λ (x : KeptRing). Further (is_of n) x.history ring.history) (sym both.1) f))
      (λ (same : ring_on (set rings place (behind r ring)) k ≡ ring_on rings k).
      subst (λ (x : KeptRing). Further (is_of n) (ring_on rings k).history x.history) (sym same)
      (further-none (is_of n) (ring_on rings k).history))
      (set-cases rings place r ring is k);
  net = λ k. ⊎_elim
      (λ (both : (ring_on (set rings place (behind r ring)) k ≡ ring) × (ring_on rings k ≡ r.ring)).
      ap (λ (x : KeptRing). x.net) both.0 ∙ (net ∙ sym (ap (λ (x : KeptRing). x.net) both.1)))
      (λ (same : ring_on (set rings place (behind r ring)) k ≡ ring_on rings k).
      ap (λ (x : KeptRing). x.net) same)
      (set-cases rings place r ring is k);
}

-- the ring of a network had a turn, and no other ring
pub record Turned (network : ℕ) (old new : List RingStation) : Type 0 where
  pub place : ℕ
  pub station : RingStation
  pub is : slice_get old place ≡ Some station
  pub on : station.network ≡ network
  pub others : (k : ℕ) (y : RingStation) → k ≢ place → slice_get old k ≡ Some y
      → (y.network == network) ≡ false
  pub was : ring_on old network ≡ station.ring
  pub new_is : new ≡ set old place (behind station (ring_on new network))

pub now-is : (plant : Plant) (rings : List RingStation) (place : ℕ) (station : RingStation)
    (ring : KeptRing) → RingPlace plant rings place station
    → ring_on (set rings place (behind station ring)) station.network ≡ ring
now-is plant rings place station ring at =
    ap ring_if (set-found (λ (r : RingStation). r.network == station.network) rings place station
    (behind station ring) at.is (eq-eqb station.network station.network refl) at.others)

pub turned-by : (plant : Plant) (rings : List RingStation) (place : ℕ) (station : RingStation)
    (ring : KeptRing) (network : ℕ) → RingPlace plant rings place station
    → station.network ≡ network → Turned network rings (set rings place (behind station ring))
turned-by plant rings place station ring network at on =
    subst (λ (k : ℕ). Turned k rings (set rings place (behind station ring))) on (record {
      place = place;
      station = station;
      is = at.is;
      on = refl;
      others = at.others;
      was = ap ring_if at.found;
      new_is = ap (λ (r : KeptRing). set rings place (behind station r))
          (sym (now-is plant rings place station ring at));
    })

-- what a turn did to the ring at a place it did to the ring of the network
pub as-turned : (R : KeptRing → KeptRing → Type 0) (plant : Plant) (rings : List RingStation)
    (place : ℕ) (station : RingStation) (ring : KeptRing) (network : ℕ)
    → RingPlace plant rings place station → station.network ≡ network → R station.ring ring
    → R (ring_on rings network) (ring_on (set rings place (behind station ring)) network)
as-turned R plant rings place station ring network at on made =
    subst (λ (k : ℕ). R (ring_on rings k) (ring_on (set rings place (behind station ring)) k)) on
    (subst (λ (r : KeptRing). R r (ring_on (set rings place (behind station ring)) station.network))
    (sym (ap ring_if at.found))
    (subst (R station.ring) (sym (now-is plant rings place station ring at)) made))

module _ (network : ℕ) (old new : List RingStation) (t : Turned network old new) where
  pub turned-grew : (n : ℕ)
      → Further (is_of n) (ring_on old network).history (ring_on new network).history
      → (ring_on new network).net ≡ (ring_on old network).net → GrewBy n old new
  turned-grew n f net = subst (GrewBy n old) (sym t.new_is)
      (grew-set n old t.place t.station (ring_on new network) t.is
      (subst (λ (x : KeptRing). Further (is_of n) x.history (ring_on new network).history) t.was f)
      (net ∙ ap (λ (x : KeptRing). x.net) t.was))

  pub turned-stands : (nets : List NetPlan) → AllZip StandsRing nets old
      → (ring_on new network).net ≡ (ring_on old network).net
      → IsLegalRing (ring_on new network).net (ring_on new network).history
      → AllZip StandsRing nets new
  turned-stands nets all net legal =
      subst (AllZip StandsRing nets) (sym t.new_is)
      (zip-set StandsRing StandsRing nets old t.place (behind t.station (ring_on new network)) all
      (λ x at-x.
      let mine = zip-at StandsRing nets old t.place t.station all t.is in
      let same : mine.0 ≡ x = (let both : Some mine.0 ≡ Some x = sym mine.1 ∙ at-x in cc) in
      let net_is : (ring_on new network).net ≡ x =
      net ∙ (ap (λ (r : KeptRing). r.net) t.was ∙ (mine.2.net_is ∙ same)) in
      record {
        network = mine.2.network ∙ ap (λ (n : NetPlan). n.number) same;
        members = mine.2.members ∙ ap (λ (n : NetPlan). n.members) same;
        net_is = net_is;
        legal = subst (λ (n : NetPlan). IsLegalRing n (ring_on new network).history) net_is legal;
      })
      (λ k x y other at-x at-y st. st))

-- ---- the rings of the joint history

-- the entries of a ring are those of its network in the joint history
pub noted-is : (rings : List RingStation) (k : ℕ)
    → entries_on k (map log_of_ring rings) ≡ (ring_on rings k).history
noted-is [] k = refl
noted-is (r ∷ rings) k =
    let logs = find (λ (log : RingLog). log.network == k) (map log_of_ring rings) in
    ⊎_elim
    (λ (yes : (r.network == k) ≡ true).
    ap (λ b. entries_if (cond b (Some (log_of_ring r)) logs)) yes
    ∙ sym (ap (λ b. (ring_if (cond b (Some r) (station_on rings k))).history) yes))
    (λ (no' : (r.network == k) ≡ false).
    ap (λ b. entries_if (cond b (Some (log_of_ring r)) logs)) no'
    ∙ (noted-is rings k
    ∙ sym (ap (λ b. (ring_if (cond b (Some r) (station_on rings k))).history) no')))
    (cases_Bool (r.network == k))

other-log : (y : RingStation) (network : ℕ) (entries : List RingEntry)
    → (y.network == network) ≡ false → log_of_ring y ≡ with_entries network entries (log_of_ring y)
other-log y network entries other = λ i. record {
  network = y.network;
  entries = sym (ap (λ b. if b then entries else y.ring.history) other) i;
}

other-logs : (rings : List RingStation) (network : ℕ) (entries : List RingEntry)
    → ((k : ℕ) (y : RingStation) → slice_get rings k ≡ Some y → (y.network == network) ≡ false)
    → map log_of_ring rings ≡ map (with_entries network entries) (map log_of_ring rings)
other-logs [] network entries other = refl
other-logs (y ∷ rings) network entries other =
    λ i. other-log y network entries (other 0 y refl) i
    ∷ other-logs rings network entries (λ k. other (suc k)) i

logs-with : (rings : List RingStation) (place : ℕ) (r : RingStation) (network : ℕ)
    (ring : KeptRing) → slice_get rings place ≡ Some r → r.network ≡ network
    → ((k : ℕ) (y : RingStation) → k ≢ place → slice_get rings k ≡ Some y
    → (y.network == network) ≡ false)
    → map log_of_ring (set rings place (behind r ring))
    ≡ map (with_entries network ring.history) (map log_of_ring rings)
logs-with [] place r network ring is on others = absurd (cc)
logs-with (x ∷ rings) zero r network ring is on others =
    let there : x ≡ r = cc in
    let named : (x.network == network) ≡ true =
    eq-eqb x.network network (ap (λ (y : RingStation). y.network) there ∙ on) in
    λ i. record {
      network = sym (ap (λ (y : RingStation). y.network) there) i;
      entries = sym (ap (λ b. if b then ring.history else x.ring.history) named) i;
    } ∷ other-logs rings network ring.history
    (λ k y at-y. others (suc k) y (λ e. absurd (cc)) at-y) i
logs-with (x ∷ rings) (suc place) r network ring is on others =
    λ i. other-log x network ring.history (others 0 x (λ e. absurd (cc)) refl) i
    ∷ logs-with rings place r network ring is on
    (λ k y apart. others (suc k) y (λ e. apart (omega (arith, e)))) i

pub turned-logs : (network : ℕ) (old new : List RingStation) → (t : Turned network old new)
    → map log_of_ring new
    ≡ map (with_entries network (ring_on new network).history) (map log_of_ring old)
turned-logs network old new t =
    ap (map log_of_ring) t.new_is
    ∙ logs-with old t.place t.station network (ring_on new network) t.is t.on t.others

-- the rings are legal ones of the joint history
pub rings-legal : (nets : List NetPlan) (rings : List RingStation) → AllZip StandsRing nets rings
    → AllZip IsLegalRingLog nets (map log_of_ring rings)
rings-legal nets rings all =
    zip-map StandsRing IsLegalRingLog log_of_ring nets rings all
    (λ net station st. (st.network, st.legal))
