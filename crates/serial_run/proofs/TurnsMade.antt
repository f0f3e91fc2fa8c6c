-- A turn of one station, as a turn of all of them.
use Rattle.std.proofs.Common.{◌≡◌, ◌≢◌, ℕ, ◌==◌, true}
use Rattle.std.proofs.Common.{map, set, length, Some, refl, sym, ap, subst, ◌∙◌}
use Rattle.std.specs.Prelude.{option_map}
use Rattle.std.specs.List.{AllZip, position, slice_get}
use Rattle.std.proofs.lemmas.List.{map-set}
use Rattle.std.proofs.Common.{get_or, Result, Ok, Err, OnOk}
use Rattle.std.proofs.lemmas.List.Quantifiers.{position-Some}
use Rattle.std.proofs.lemmas.Option.{slice_get-map, slice_get_read}
use Rattle.plant_types.specs.declared.net.BridgePlan.{BridgePlan}
use Rattle.plant_types.specs.declared.net.HostPlan.{HostPlan}
use Rattle.plant_types.specs.declared.plan.ControllerPlan.{ControllerPlan}
use Rattle.plant_types.specs.declared.plan.Plant.{Plant}
use Rattle.net_laws.proofs.Apart.{controller-no-end, controller-no-host, host-no-end, left-no-right}
use Rattle.net_laws.proofs.Apart.{same-controller, same-host, same-left, same-right}
use Rattle.net_laws.proofs.On.{controller-at-on, host-at-on, left-on, right-on}
use Rattle.serial_run.specs.declared.stations.BridgeSite.{BridgeSite}
use Rattle.serial_run.specs.declared.stations.ControllerStation.{ControllerStation}
use Rattle.serial_run.specs.declared.stations.HostStation.{HostStation}
use Rattle.serial_run.specs.declared.stations.RingStation.{RingStation}
use Rattle.serial_run.specs.declared.stations.Stations.{Stations}
use Rattle.serial_run.specs.Turns.{is_end_of, place_of_bridge, place_of_controller, place_of_host}
use Rattle.serial_run.specs.Turns.{with_bridge_list, with_entries, with_host_list, with_list}
use Rattle.serial_run.specs.Turns.{IsBridgeAt, IsControllerAt, IsHostAt, with_noted_on}
use Rattle.serial_run.specs.Stations.{HostStandsOn, StandAll, StandsController, StandsHost}
use Rattle.serial_run.specs.Stations.{StandsOn, StandsRing, StandsSite, host_log_of, joint_of}
use Rattle.serial_run.specs.Stations.{log_of, log_of_ring, log_of_site, station_ring}
use Rattle.serial_run.proofs.Lists.{zip-at, zip-set, zip-position}
use Rattle.serial_run.proofs.Networks.{GrewBy, NodeOn, Turned, contains-at, node-on, turned-logs}
use Rattle.serial_run.proofs.Standings.{other-controller, other-controllers, other-host}
use Rattle.serial_run.proofs.Standings.{other-hosts, other-site, other-sites}

-- ---- a station at a place

pub record AtPlace (plant : Plant) (scans : ℕ) (run : Stations) (at : ℕ)
    (s : ControllerStation) : Type 0 where
  pub plan : ControllerPlan
  pub plan_is : slice_get plant.controllers at ≡ Some plan
  pub station_is : slice_get run.controllers.items at ≡ Some s
  pub stands : StandsController plant scans (station_ring run s.network).history plan s
  pub ring : NodeOn plant run.rings.items s.network plan.node

pub at-place : (plant : Plant) (scans : ℕ) (run : Stations) (at : ℕ) (s : ControllerStation)
    → StandAll plant scans run
    → slice_get run.controllers.items at ≡ Some s → AtPlace plant scans run at s
at-place plant scans run at s all is =
    let z = zip-at (StandsOn plant scans run.rings.items) plant.controllers
    run.controllers.items at s all.controllers is in
    let network = sym z.2.network in
    record {
      plan = z.0;
      plan_is = z.1;
      station_is = is;
      stands = subst (λ (k : ℕ). StandsController plant scans (station_ring run k).history z.0 s)
          network z.2;
      ring = subst (λ (k : ℕ). NodeOn plant run.rings.items k z.0.node) network
          (node-on plant run.rings.items all.sound all.rings z.0.network z.0.node
          (controller-at-on plant at z.0 all.sound z.1));
    }

pub record HostAtPlace (plant : Plant) (run : Stations) (at : ℕ) (s : HostStation) : Type 0 where
  pub plan : HostPlan
  pub plan_is : slice_get plant.hosts at ≡ Some plan
  pub station_is : slice_get run.hosts.items at ≡ Some s
  pub stands : StandsHost plant (station_ring run s.network).history plan s
  pub ring : NodeOn plant run.rings.items s.network plan.node

pub host-at-place : (plant : Plant) (scans : ℕ) (run : Stations) (at : ℕ) (s : HostStation)
    → StandAll plant scans run
    → slice_get run.hosts.items at ≡ Some s → HostAtPlace plant run at s
host-at-place plant scans run at s all is =
    let z = zip-at (HostStandsOn plant run.rings.items) plant.hosts run.hosts.items at s all.hosts
    is in
    let network = sym z.2.network in
    record {
      plan = z.0;
      plan_is = z.1;
      station_is = is;
      stands = subst (λ (k : ℕ). StandsHost plant (station_ring run k).history z.0 s) network z.2;
      ring = subst (λ (k : ℕ). NodeOn plant run.rings.items k z.0.node) network
          (node-on plant run.rings.items all.sound all.rings z.0.network z.0.node
          (host-at-on plant at z.0 all.sound z.1));
    }

pub record SiteAtPlace (plant : Plant) (run : Stations) (at : ℕ) (site : BridgeSite) : Type 0
  where
    pub plan : BridgePlan
    pub plan_is : slice_get plant.bridges at ≡ Some plan
    pub site_is : slice_get run.bridges.items at ≡ Some site
    pub stands : StandsSite plant run.rings.items plan site
    pub left : NodeOn plant run.rings.items plan.left_net plan.left
    pub right : NodeOn plant run.rings.items plan.right_net plan.right

pub site-at-place : (plant : Plant) (scans : ℕ) (run : Stations) (at : ℕ) (site : BridgeSite)
    → StandAll plant scans run
    → slice_get run.bridges.items at ≡ Some site → SiteAtPlace plant run at site
site-at-place plant scans run at site all is =
    let z = zip-at (StandsSite plant run.rings.items) plant.bridges run.bridges.items at site
    all.bridges is in
    let there = contains-at plant.bridges at z.0 z.1 in
    record {
      plan = z.0;
      plan_is = z.1;
      site_is = is;
      stands = z.2;
      left = node-on plant run.rings.items all.sound all.rings z.0.left_net z.0.left
          (left-on plant z.0 all.sound there);
      right = node-on plant run.rings.items all.sound all.rings z.0.right_net z.0.right
          (right-on plant z.0 all.sound there);
    }

-- the places are those of the plant
pub place-is : (plant : Plant) (scans : ℕ) (run : Stations) (node : ℕ) → StandAll plant scans run
    → position (λ (s : ControllerStation). s.node == node) run.controllers.items ≡
    place_of_controller plant node
place-is plant scans run node all =
    zip-position (StandsOn plant scans run.rings.items) (λ plan. plan.node == node)
    (λ s. s.node == node) plant.controllers
    run.controllers.items all.controllers (λ plan s st. ap (λ n. n == node) (sym st.node))

pub host-place-is : (plant : Plant) (scans : ℕ) (run : Stations) (node : ℕ)
    → StandAll plant scans run
    → position (λ (s : HostStation). s.node == node) run.hosts.items ≡ place_of_host plant node
host-place-is plant scans run node all =
    zip-position (HostStandsOn plant run.rings.items) (λ plan. plan.node == node)
    (λ s. s.node == node) plant.hosts
    run.hosts.items all.hosts (λ plan s st. ap (λ n. n == node) (sym st.node))

pub bridge-place-is : (plant : Plant) (scans : ℕ) (run : Stations) (node : ℕ)
    → StandAll plant scans run
    → position (λ (s : BridgeSite). is_end_of node s.plan) run.bridges.items
    ≡ place_of_bridge plant node
bridge-place-is plant scans run node all =
    zip-position (StandsSite plant run.rings.items) (is_end_of node)
    (λ (s : BridgeSite). is_end_of node s.plan) plant.bridges
    run.bridges.items all.bridges (λ plan s st. ap (is_end_of node) (sym st.plan_is))

-- ---- a controller's station is another

module _ (plant : Plant) (scans : ℕ) (old new : Stations) (at : ℕ) (s t : ControllerStation)
    (all : StandAll plant scans old) (is : slice_get old.controllers.items at ≡ Some s)
    (items : new.controllers.items ≡ set old.controllers.items at t)
    (hosts : new.hosts.items ≡ old.hosts.items)
    (bridges : new.bridges.items ≡ old.bridges.items) where
  abbrev pub place : AtPlace plant scans old at s
  place = at-place plant scans old at s all is

  mine-is : (x : ControllerPlan) → slice_get plant.controllers at ≡ Some x → place.plan ≡ x
  mine-is x at-x = let both : Some place.plan ≡ Some x = sym place.plan_is ∙ at-x in cc

  -- while the rings go on by its node
  pub stand-with : GrewBy place.plan.node old.rings.items new.rings.items
      → AllZip StandsRing plant.nets new.rings.items
      → StandsController plant scans (station_ring new t.network).history place.plan t
      → StandAll plant scans new
  stand-with grew rings it =
      let n = place.plan.node in
      let mine : StandsOn plant scans new.rings.items place.plan t =
      subst (λ (k : ℕ). StandsController plant scans (station_ring new k).history place.plan t)
      it.network it in
      record {
        sound = all.sound;
        rings = rings;
        controllers = subst (AllZip (StandsOn plant scans new.rings.items) plant.controllers)
            (sym items)
            (zip-set (StandsOn plant scans old.rings.items) (StandsOn plant scans new.rings.items)
            plant.controllers old.controllers.items at t all.controllers
            (λ x at-x. subst (λ (p : ControllerPlan). StandsOn plant scans new.rings.items p t)
            (mine-is x at-x) mine)
            (λ k x y other at-x at-y st. other-controller plant n old.rings.items new.rings.items
            all.sound grew rings scans k x y at-x
            (λ same. other (same-controller plant all.sound k at x place.plan at-x place.plan_is
            same)) st));
        hosts = subst (AllZip (HostStandsOn plant new.rings.items) plant.hosts) (sym hosts)
            (other-hosts plant n old.rings.items new.rings.items all.sound grew rings
            old.hosts.items
            (λ k x at-x same. controller-no-host plant all.sound at k place.plan x place.plan_is
            at-x (sym same)) all.hosts);
        bridges = subst (AllZip (StandsSite plant new.rings.items) plant.bridges) (sym bridges)
            (other-sites plant n old.rings.items new.rings.items all.sound grew rings
            old.bridges.items
            (λ k x at-x.
            let apart = controller-no-end plant all.sound at k place.plan x place.plan_is at-x in
            ((λ same. apart.0 (sym same)), (λ same. apart.1 (sym same)))) all.bridges);
      }

  -- the joint history has its list
  pub is-at : IsControllerAt plant (joint_of old) at place.plan (log_of s)
  is-at = record {
    plan_is = place.plan_is;
    log_is = slice_get-map log_of old.controllers.items at ∙ ap (option_map log_of) is;
  }

  logs-are : t.node ≡ s.node → map log_of new.controllers.items
      ≡ set (map log_of old.controllers.items) at
      (record { node = s.node; entries = t.controller.history })
  logs-are node = ap (map log_of) items ∙ (map-set log_of old.controllers.items at t
      ∙ ap (λ n. set (map log_of old.controllers.items) at
      (record { node = n; entries = t.controller.history })) node)

  pub joint-is : Turned s.network old.rings.items new.rings.items → t.node ≡ s.node
      → joint_of new ≡ with_noted_on place.plan.network (station_ring new s.network).history
      (with_list at (log_of s) t.controller.history (joint_of old))
  joint-is turned node =
      let rings : map log_of_ring new.rings.items
      ≡ map (with_entries place.plan.network (station_ring new s.network).history)
      (map log_of_ring old.rings.items) =
      turned-logs s.network old.rings.items new.rings.items turned
      ∙ ap (λ (k : ℕ). map (with_entries k (station_ring new s.network).history)
      (map log_of_ring old.rings.items)) place.stands.network in
      λ i. record {
        controllers = logs-are node i;
        hosts = map host_log_of (hosts i);
        bridges = map log_of_site (bridges i);
        rings = rings i;
      }

  -- or the rings stay
  pub joint-stays : new.rings.items ≡ old.rings.items → t.node ≡ s.node
      → joint_of new ≡ with_list at (log_of s) t.controller.history (joint_of old)
  joint-stays rings node = λ i. record {
    controllers = logs-are node i;
    hosts = map host_log_of (hosts i);
    bridges = map log_of_site (bridges i);
    rings = map log_of_ring (rings i);
  }

-- ---- a host's station is another

module _ (plant : Plant) (scans : ℕ) (old new : Stations) (at : ℕ) (s t : HostStation)
    (all : StandAll plant scans old) (is : slice_get old.hosts.items at ≡ Some s)
    (items : new.hosts.items ≡ set old.hosts.items at t)
    (controllers : new.controllers.items ≡ old.controllers.items)
    (bridges : new.bridges.items ≡ old.bridges.items) where
  abbrev pub host-place : HostAtPlace plant old at s
  host-place = host-at-place plant scans old at s all is

  host-mine-is : (x : HostPlan) → slice_get plant.hosts at ≡ Some x → host-place.plan ≡ x
  host-mine-is x at-x = let both : Some host-place.plan ≡ Some x = sym host-place.plan_is ∙ at-x in
      cc

  pub host-stand-with : GrewBy host-place.plan.node old.rings.items new.rings.items
      → AllZip StandsRing plant.nets new.rings.items
      → StandsHost plant (station_ring new t.network).history host-place.plan t
      → StandAll plant scans new
  host-stand-with grew rings it =
      let n = host-place.plan.node in
      let mine : HostStandsOn plant new.rings.items host-place.plan t =
      subst (λ (k : ℕ). StandsHost plant (station_ring new k).history host-place.plan t)
      it.network it in
      record {
        sound = all.sound;
        rings = rings;
        controllers = subst (AllZip (StandsOn plant scans new.rings.items) plant.controllers)
            (sym controllers)
            (other-controllers plant n old.rings.items new.rings.items all.sound grew rings scans
            old.controllers.items
            (λ k x at-x same. controller-no-host plant all.sound k at x host-place.plan at-x
            host-place.plan_is same) all.controllers);
        hosts = subst (AllZip (HostStandsOn plant new.rings.items) plant.hosts) (sym items)
            (zip-set (HostStandsOn plant old.rings.items) (HostStandsOn plant new.rings.items)
            plant.hosts old.hosts.items at t all.hosts
            (λ x at-x. subst (λ (p : HostPlan). HostStandsOn plant new.rings.items p t)
            (host-mine-is x at-x) mine)
            (λ k x y other at-x at-y st. other-host plant n old.rings.items new.rings.items
            all.sound grew rings k x y at-x
            (λ same. other (same-host plant all.sound k at x host-place.plan at-x
            host-place.plan_is same)) st));
        bridges = subst (AllZip (StandsSite plant new.rings.items) plant.bridges) (sym bridges)
            (other-sites plant n old.rings.items new.rings.items all.sound grew rings
            old.bridges.items
            (λ k x at-x.
            let apart = host-no-end plant all.sound at k host-place.plan x host-place.plan_is at-x
            in
            ((λ same. apart.0 (sym same)), (λ same. apart.1 (sym same)))) all.bridges);
      }

  pub host-is-at : IsHostAt plant (joint_of old) at host-place.plan (host_log_of s)
  host-is-at = record {
    plan_is = host-place.plan_is;
    log_is = slice_get-map host_log_of old.hosts.items at ∙ ap (option_map host_log_of) is;
  }

  pub host-joint-is : Turned s.network old.rings.items new.rings.items → t.node ≡ s.node
      → joint_of new ≡ with_noted_on host-place.plan.network (station_ring new s.network).history
      (with_host_list at (host_log_of s) t.host.history (joint_of old))
  host-joint-is turned node =
      let logs : map host_log_of new.hosts.items
      ≡ set (map host_log_of old.hosts.items) at
      (record { node = s.node; entries = t.host.history }) =
      ap (map host_log_of) items ∙ (map-set host_log_of old.hosts.items at t
      ∙ ap (λ n. set (map host_log_of old.hosts.items) at
      (record { node = n; entries = t.host.history })) node) in
      let rings : map log_of_ring new.rings.items
      ≡ map (with_entries host-place.plan.network (station_ring new s.network).history)
      (map log_of_ring old.rings.items) =
      turned-logs s.network old.rings.items new.rings.items turned
      ∙ ap (λ (k : ℕ). map (with_entries k (station_ring new s.network).history)
      (map log_of_ring old.rings.items)) host-place.stands.network in
      λ i. record {
        controllers = map log_of (controllers i);
        hosts = logs i;
        bridges = map log_of_site (bridges i);
        rings = rings i;
      }

-- ---- a bridge is another

module _ (plant : Plant) (scans : ℕ) (old new : Stations) (at : ℕ) (s t : BridgeSite)
    (all : StandAll plant scans old) (is : slice_get old.bridges.items at ≡ Some s)
    (items : new.bridges.items ≡ set old.bridges.items at t)
    (controllers : new.controllers.items ≡ old.controllers.items)
    (hosts : new.hosts.items ≡ old.hosts.items) where
  abbrev pub site-place : SiteAtPlace plant old at s
  site-place = site-at-place plant scans old at s all is

  site-mine-is : (x : BridgePlan) → slice_get plant.bridges at ≡ Some x → site-place.plan ≡ x
  site-mine-is x at-x = let both : Some site-place.plan ≡ Some x = sym site-place.plan_is ∙ at-x in
      cc

  -- the end of a bridge is none of another's, nor any other node
  pub record IsEndAt (n : ℕ) : Type 0 where
    pub no_controller : (k : ℕ) (x : ControllerPlan) → slice_get plant.controllers k ≡ Some x
        → x.node ≢ n
    pub no_host : (k : ℕ) (x : HostPlan) → slice_get plant.hosts k ≡ Some x → x.node ≢ n
    pub no_bridge : (k : ℕ) (x : BridgePlan) → k ≢ at → slice_get plant.bridges k ≡ Some x
        → (x.left ≢ n) × (x.right ≢ n)

  pub left-apart : IsEndAt site-place.plan.left
  left-apart = record {
    no_controller = λ k x at-x same. (controller-no-end plant all.sound k at x site-place.plan at-x
        site-place.plan_is).0 same;
    no_host = λ k x at-x same. (host-no-end plant all.sound k at x site-place.plan at-x
        site-place.plan_is).0 same;
    no_bridge = λ k x other at-x. (
      (λ same. other (same-left plant all.sound k at x site-place.plan at-x site-place.plan_is
          same)),
      (λ same. left-no-right plant all.sound at k site-place.plan x site-place.plan_is at-x
          (sym same)),
    );
  }

  pub right-apart : IsEndAt site-place.plan.right
  right-apart = record {
    no_controller = λ k x at-x same. (controller-no-end plant all.sound k at x site-place.plan at-x
        site-place.plan_is).1 same;
    no_host = λ k x at-x same. (host-no-end plant all.sound k at x site-place.plan at-x
        site-place.plan_is).1 same;
    no_bridge = λ k x other at-x. (
      (λ same. left-no-right plant all.sound k at x site-place.plan at-x site-place.plan_is same),
      (λ same. other (same-right plant all.sound k at x site-place.plan at-x site-place.plan_is
          same)),
    );
  }

  pub site-stand-with : (n : ℕ) → IsEndAt n → GrewBy n old.rings.items new.rings.items
      → AllZip StandsRing plant.nets new.rings.items
      → StandsSite plant new.rings.items site-place.plan t → StandAll plant scans new
  site-stand-with n apart grew rings it = record {
    sound = all.sound;
    rings = rings;
    controllers = subst (AllZip (StandsOn plant scans new.rings.items) plant.controllers)
        (sym controllers)
        (other-controllers plant n old.rings.items new.rings.items all.sound grew rings scans
        old.controllers.items apart.no_controller all.controllers);
    hosts = subst (AllZip (HostStandsOn plant new.rings.items) plant.hosts) (sym hosts)
        (other-hosts plant n old.rings.items new.rings.items all.sound grew rings
        old.hosts.items apart.no_host all.hosts);
    bridges = subst (AllZip (StandsSite plant new.rings.items) plant.bridges) (sym items)
        (zip-set (StandsSite plant old.rings.items) (StandsSite plant new.rings.items)
        plant.bridges old.bridges.items at t all.bridges
        (λ x at-x. subst (λ (p : BridgePlan). StandsSite plant new.rings.items p t)
        (site-mine-is x at-x) it)
        (λ k x y other at-x at-y st.
        let far = apart.no_bridge k x other at-x in
        other-site plant n old.rings.items new.rings.items all.sound grew rings k x y at-x far.0
        far.1 st));
  }

  pub site-is-at : IsBridgeAt plant (joint_of old) at site-place.plan (log_of_site s)
  site-is-at = record {
    plan_is = site-place.plan_is;
    log_is = slice_get-map log_of_site old.bridges.items at ∙ ap (option_map log_of_site) is;
  }

  pub site-joint-is : (network : ℕ) → Turned network old.rings.items new.rings.items
      → t.station.bridge.plan ≡ s.station.bridge.plan
      → joint_of new ≡ with_noted_on network (station_ring new network).history
      (with_bridge_list at (log_of_site s) t.station.bridge.history (joint_of old))
  site-joint-is network turned plan =
      let logs : map log_of_site new.bridges.items
      ≡ set (map log_of_site old.bridges.items) at (record {
        left = s.station.bridge.plan.left;
        right = s.station.bridge.plan.right;
        entries = t.station.bridge.history;
      }) =
      ap (map log_of_site) items ∙ (map-set log_of_site old.bridges.items at t
      ∙ ap (λ (p : BridgePlan). set (map log_of_site old.bridges.items) at (record {
        left = p.left;
        right = p.right;
        entries = t.station.bridge.history;
      })) plan) in
      let rings = turned-logs network old.rings.items new.rings.items turned in
      λ i. record {
        controllers = map log_of (controllers i);
        hosts = map host_log_of (hosts i);
        bridges = logs i;
        rings = rings i;
      }

-- ---- a station that was looked for

pub found-station : (run : Stations) (node at : ℕ) (s : ControllerStation)
    → position (λ (x : ControllerStation). x.node == node) run.controllers.items ≡ Some at
    → s ≡ get_or run.controllers.items at s
    → (slice_get run.controllers.items at ≡ Some s) × ((s.node == node) ≡ true)
found-station run node at s found value =
    let it = position-Some (λ (x : ControllerStation). x.node == node) run.controllers.items at s
    found in (
      slice_get_read run.controllers.items (length run.controllers.items) at s refl it.0 value,
      ap (λ (x : ControllerStation). x.node == node) value ∙ it.1,
    )

pub found-host : (run : Stations) (node at : ℕ) (s : HostStation)
    → position (λ (x : HostStation). x.node == node) run.hosts.items ≡ Some at
    → s ≡ get_or run.hosts.items at s
    → (slice_get run.hosts.items at ≡ Some s) × ((s.node == node) ≡ true)
found-host run node at s found value =
    let it = position-Some (λ (x : HostStation). x.node == node) run.hosts.items at s found in (
      slice_get_read run.hosts.items (length run.hosts.items) at s refl it.0 value,
      ap (λ (x : HostStation). x.node == node) value ∙ it.1,
    )

pub found-site : (run : Stations) (node at : ℕ) (s : BridgeSite)
    → position (λ (x : BridgeSite). is_end_of node x.plan) run.bridges.items ≡ Some at
    → s ≡ get_or run.bridges.items at s
    → (slice_get run.bridges.items at ≡ Some s) × (is_end_of node s.plan ≡ true)
found-site run node at s found value =
    let it = position-Some (λ (x : BridgeSite). is_end_of node x.plan) run.bridges.items at s
    found in (
      slice_get_read run.bridges.items (length run.bridges.items) at s refl it.0 value,
      ap (λ (x : BridgeSite). is_end_of node x.plan) value ∙ it.1,
    )

pub found-ring : (run : Stations) (network place : ℕ) (r : RingStation)
    → position (λ (x : RingStation). x.network == network) run.rings.items ≡ Some place
    → r ≡ get_or run.rings.items place r
    → (slice_get run.rings.items place ≡ Some r) × ((r.network == network) ≡ true)
found-ring run network place r found value =
    let it = position-Some (λ (x : RingStation). x.network == network) run.rings.items place r
    found in (
      slice_get_read run.rings.items (length run.rings.items) place r refl it.0 value,
      ap (λ (x : RingStation). x.network == network) value ∙ it.1,
    )

pub on-ok : {T E P Q : Type 0} (r : Result T E) → (P → Q) → OnOk r P → OnOk r Q
on-ok (Ok x) f p = f p
on-ok (Err e) f p = p
