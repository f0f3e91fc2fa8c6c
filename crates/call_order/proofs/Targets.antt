-- A Reply is posted by the node that took its Request from the caller, or by an end of a bridge.
use Rattle.std.proofs.Common.{◌≡◌, ◌≢◌, ◌⊎◌, ℕ, List, [], ◌∷◌, ◌++◌, map, sym, refl, ap, subst, ◌∙◌}
use Rattle.std.proofs.Common.{⊎_elim, inl, inr, append_assoc}
use Rattle.std.specs.List.{Contains, AllByRecursion as Each}
use Rattle.std.proofs.lemmas.List.Elements.{filter_map-append, Contains-push}
use Rattle.std.proofs.lemmas.List.Elements.{Contains-append_left, Contains-append_cases}
use Rattle.std.proofs.lemmas.List.Sorted.{Contains-permutation, IsPermutation-sym}
use Rattle.plant_types.specs.declared.plan.Plant.{Plant}
use Rattle.plant_types.specs.Plans.{controllers_on, hosts_on, ends_on}
use Rattle.mstr_block.specs.declared.call.CallId.{CallId}
use Rattle.ring_core.specs.Words.{maker}
use Rattle.ring_core.specs.Legal.{IsMember}
use Rattle.ring_core.specs.declared.frame.Frame.{Frame}
use Rattle.ring_core.specs.declared.frame.FrameKind.TheVariants.{Reply}
use Rattle.ring_core.specs.declared.entry.RingEntry.{RingEntry}
use Rattle.ring_core.specs.declared.entry.RingEntry.TheVariants.{Post, Take}
use Rattle.ring_laws.specs.Once.{OnlyItsTarget, ReplyToItsCaller, TookCall}
use Rattle.ring_laws.specs.Once.{AnsweredBy as Replied}
use Rattle.ring_laws.proofs.Lists.{each-contains}
use Rattle.joint_history.specs.declared.joint.RingLog.{RingLog}
use Rattle.joint_history.specs.declared.joint.Joint.{Joint}
use Rattle.one_order.specs.Orders.{AtStation, AtRing, Log, on_ring, if_on_ring}
use Rattle.entry_causes.specs.Causes.{StationEntry}
use Rattle.entry_causes.specs.Joint.{stations_on, RingIsInOneOrder}
use Rattle.entry_causes.proofs.On.{station-nodes}
use Rattle.net_laws.proofs.On.{net-sound}
use Rattle.net_laws.proofs.Rings.{makers, of-ring}
use Rattle.effect_laws.proofs.Sources.{in-none, first-or-behind}
use Rattle.call_order.specs.Named.{Order, IsRingOf, ReplyTakesFollowTargets}
use Rattle.call_order.specs.Named.{ReplyPostsFollowTakes, RepliesComeFromTargets}
use Rattle.call_order.proofs.Names.{replies-behind, ring-history-of, front-history, not-itself}

-- what is so of the node of each station is so of each of these nodes
each-node : (P : ℕ → Type 0) (logs : List (Log StationEntry)) (k : ℕ)
    → Each (λ (log : Log StationEntry). P log.node) logs
    → Contains (map (λ (log : Log StationEntry). log.node) logs) k → P k
each-node P [] k all there = absurd (in-none k there)
each-node P (log ∷ logs) k all there =
    ⊎_elim (λ (same : log.node ≡ k). subst P same all.0)
    (λ (more : Contains (map (λ (l : Log StationEntry). l.node) logs) k).
    each-node P logs k all.1 more)
    (first-or-behind log.node (map (λ (l : Log StationEntry). l.node) logs) k there)

-- where an entry of the ring stands in an order
record Stands (order : Order) (r : RingEntry) : Type 0 where
  before : Order
  after : Order
  is : order ≡ before ++ AtRing r ∷ after

behind-it : (x : _) (order : Order) (r : RingEntry) → Stands order r → Stands (x ∷ order) r
behind-it x order r s =
    record { before = x ∷ s.before; after = s.after; is = ap (λ (l : Order). x ∷ l) s.is }

stands : (order : Order) (r : RingEntry) → Contains (on_ring order) r → Stands order r
stands [] r there = absurd (in-none r there)
stands (AtStation n e ∷ order) r there = behind-it (AtStation n e) order r (stands order r there)
stands (AtRing s ∷ order) r there = ⊎_elim
    (λ (same : s ≡ r). record {
      before = [];
      after = order;
      is = ap (λ (t : RingEntry). AtRing t ∷ order) same;
    })
    (λ (more : Contains (on_ring order) r). behind-it (AtRing s) order r (stands order r more))
    (first-or-behind s (on_ring order) r there)

module _ (plant : Plant) (scans : ℕ) (joint : Joint) (ring : RingLog)
    (is : IsRingOf plant scans joint ring) (one : RingIsInOneOrder plant joint ring) where
  -- a node that made an entry of the ring is a station's, or an end of a bridge
  of-either : (k : ℕ) (e : RingEntry) → Contains ring.entries e → maker e ≡ k
      → Contains (map (λ (log : Log StationEntry). log.node)
      (stations_on plant ring.network joint)) k
      ⊎ Contains (ends_on plant ring.network) k
  of-either k e there made =
      let of = of-ring plant joint.rings is.sound is.legal.rings ring is.there in
      let net = of.net in
      let number = net.number in
      let stations = controllers_on plant number ++ hosts_on plant number in
      let member : IsMember net k = subst (IsMember net) made
      (each-contains (λ x. IsMember net (maker x)) ring.entries e
      (makers net ring.entries of.legal.1) there) in
      let sound = net-sound plant net is.sound of.there in
      let among : Contains (stations ++ ends_on plant number) k =
      Contains-permutation net.members (stations ++ ends_on plant number) k
      (IsPermutation-sym (stations ++ ends_on plant number) net.members sound.members) member in
      subst (λ (n : ℕ). Contains (map (λ (log : Log StationEntry). log.node)
      (stations_on plant n joint)) k ⊎ Contains (ends_on plant n) k) (sym of.legal.0)
      (⊎_elim
      (λ (station : Contains stations k). inl (subst (λ (ns : List ℕ). Contains ns k)
      (sym (station-nodes plant scans joint number is.legal)) station))
      (λ (end : Contains (ends_on plant number) k). inr end)
      (Contains-append_cases stations (ends_on plant number) k among))

  -- in a front of the order a Reply of a station is to what it took
  took-before : (before after : Order) (k : ℕ) (g : Frame) → one.order ≡ before ++ after
      → ReplyPostsFollowTakes k one.order → Contains (on_ring before) (Post k g) → g.kind ≡ Reply
      → TookCall (on_ring before) k g.id
  took-before before after k g whole follows there kind =
      let s = stands before (Post k g) there in
      let t = follows s.before (s.after ++ after) g
      (whole ∙ (ap (λ (l : Order). l ++ after) s.is
      ∙ append_assoc s.before (AtRing (Post k g) ∷ s.after) after)) kind in
      record {
        request = t.request;
        taken =
            subst (λ (l : List RingEntry). Contains l (Take k t.request))
            (sym (ap on_ring s.is ∙ filter_map-append if_on_ring s.before
            (AtRing (Post k g) ∷ s.after)))
            (Contains-append_left (on_ring s.before) (on_ring (AtRing (Post k g) ∷ s.after))
            (Take k t.request) t.taken);
        kind = t.kind;
        same = t.same;
      }

  -- an entry of a front stands on the ring
  front-there : (before after : Order) (e : RingEntry) → one.order ≡ before ++ after
      → Contains (on_ring before) e → Contains ring.entries e
  front-there before after e whole there =
      subst (λ (l : List RingEntry). Contains l e)
      (sym (ap on_ring whole ∙ filter_map-append if_on_ring before after) ∙ one.ring_is)
      (Contains-append_left (on_ring before) (on_ring after) e there)

  -- who took the Request had it from the caller
  answered : OnlyItsTarget → (before after : Order) (n by : ℕ) (f : Frame)
      → one.order ≡ before ++ AtRing (Take n f) ∷ after → f.kind ≡ Reply → f.id.node ≡ n
      → by ≢ n → Contains (on_ring before) (Post by f) → TookCall (on_ring before) by f.id
      → Replied (on_ring before) n f
  answered target before after n by f whole kind own other posted t =
      let h = ring-history-of plant scans joint ring is in
      let all = on_ring before ++ Take n f ∷ [] in
      let from = target h.0 all by t.request
      (front-history h.0 ring.entries one.order before after (Take n f) h.1 one.ring_is whole)
      (inr (Contains-append_left (on_ring before) (Take n f ∷ []) (Take by t.request) t.taken))
      t.kind in
      let mine : t.request.id.node ≡ n = ap (λ (x : CallId). x.node) t.same ∙ own in
      record {
        by = by;
        other = other;
        posted = posted;
        request = t.request;
        kind = t.kind;
        same = t.same;
        asked = not-itself (on_ring before) n n f t.request
            (subst (λ (k : ℕ). Contains all (Post k t.request)) mine from.2);
        to = from.0;
        taken = t.taken;
      }

  reply-takes-from : OnlyItsTarget → ReplyToItsCaller
      → ReplyTakesFollowTargets (ends_on plant ring.network) one.order
  reply-takes-from target caller before after n f whole kind =
      let h = ring-history-of plant scans joint ring is in
      let came = caller h.0 (on_ring before ++ Take n f ∷ []) n f
      (front-history h.0 ring.entries one.order before after (Take n f) h.1 one.ring_is whole)
      (inr (Contains-push (on_ring before) (Take n f))) kind in
      let by = came.3.0 in
      let posted = not-itself (on_ring before) n by f f came.3.2 in
      ⊎_elim
      (λ (station : Contains (map (λ (log : Log StationEntry). log.node)
      (stations_on plant ring.network joint)) by).
      inl (answered target before after n by f whole kind came.1 came.3.1 posted
      (took-before before (AtRing (Take n f) ∷ after) by f whole
      (each-node (λ k. ReplyPostsFollowTakes k one.order) (stations_on plant ring.network joint) by
      (replies-behind plant scans joint ring is one) station) posted kind)))
      (λ (end : Contains (ends_on plant ring.network) by). inr (by, end, posted))
      (of-either by (Post by f)
      (front-there before (AtRing (Take n f) ∷ after) (Post by f) whole posted) refl)

pub from-targets : OnlyItsTarget → ReplyToItsCaller → RepliesComeFromTargets
from-targets target caller plant scans joint ring is one =
    reply-takes-from plant scans joint ring is one target caller
