-- Hosts and ends that stand on their rings, while another node or the other end has its turn.
use Rattle.std.proofs.Common.{◌≡◌, ℕ, ◌==◌, Bool, true, false, cond, List, [], ◌∷◌, filter, refl}
use Rattle.std.proofs.Common.{sym, ap, ◌∙◌, subst, ⊎_elim}
use Rattle.std.proofs.lemmas.Bool.{cases_Bool, eqb-true, ne_eqb}
use Rattle.plant_types.specs.declared.net.NetPlan.{NetPlan}
use Rattle.plant_types.specs.declared.net.BridgePlan.{BridgePlan}
use Rattle.ring_core.specs.Words.{maker}
use Rattle.ring_core.specs.Machine.{is_in}
use Rattle.ring_core.specs.Legal.{IsLegalRing}
use Rattle.ring_core.specs.declared.entry.RingEntry.{RingEntry}
use Rattle.host_port.specs.Host.{HostIs}
use Rattle.bridge_relay.specs.Bridge.{BridgeIs}
use Rattle.bridge_relay.specs.Laws.{is_by}
use Rattle.bridge_relay.specs.Legal.{IsBridgeHistory}
use Rattle.bridge_relay.specs.Machine.{side_of}
use Rattle.bridge_relay.specs.declared.entry.BridgeEntry.{BridgeEntry}
use Rattle.tied_lists.specs.Own.{Grew, is_of, own}
use Rattle.tied_lists.proofs.Turns.{membership-kept}
use Rattle.joint_history.specs.Bridges.{made_at_end}
use Rattle.comm_port.specs.HostStands.{HostIsReady, own_side}
use Rattle.comm_port.specs.HostTurns.{HostWorkerIs}
use Rattle.comm_port.proofs.HostTurnLaws.{counts-others, host-ties-others}
use Rattle.bridge_port.specs.EndTurns.{BridgeWorkerIs}
use Rattle.bridge_port.specs.Stands.{EndIsReady}
use Rattle.bridge_port.proofs.Standings.{ready-across, ready-ring}

-- none of the entries of one is another's
filters-apart : {E : Type 0} (name : E → ℕ) (n m : ℕ) (es : List E) → (m ≡ n → ⊥)
    → filter (λ e. name e == m) (filter (λ e. name e == n) es) ≡ []
filters-apart name n m [] apart = refl
filters-apart {E} name n m (e ∷ es) apart = ⊎_elim
    (λ (is : (name e == n) ≡ true).
    ap (λ (b : Bool). filter (λ e. name e == m)
    (cond b (e ∷ filter (λ e. name e == n) es) (filter (λ e. name e == n) es))) is
    ∙ (ap (λ (b : Bool). cond b (e ∷ filter (λ e. name e == m) (filter (λ e. name e == n) es))
    (filter (λ e. name e == m) (filter (λ e. name e == n) es)))
    (ne_eqb (name e) m (λ h. apart (sym h ∙ eqb-true (name e) n is)))
    ∙ filters-apart name n m es apart))
    (λ (is : (name e == n) ≡ false).
    ap (λ (b : Bool). filter (λ e. name e == m)
    (cond b (e ∷ filter (λ e. name e == n) es) (filter (λ e. name e == n) es))) is
    ∙ filters-apart name n m es apart)
    (cases_Bool (name e == n))

-- nothing of another is among what a list grew by
pub grew-apart : {E : Type 0} (name : E → ℕ) (n m : ℕ) (a added b : List E) → (m ≡ n → ⊥)
    → (g : Grew true (λ e. name e == n) a added b) → filter (λ e. name e == m) g.more ≡ []
grew-apart name n m a added b apart g =
    ap (filter (λ e. name e == m)) (g.all_alone refl ∙ sym g.ours_are)
    ∙ filters-apart name n m g.more apart

-- a host, while another node has its turn
pub host-stays : (m n : ℕ) (host : HostIs) (w : HostWorkerIs) (left : Bool) (net : NetPlan)
    (a added b : List RingEntry) → (m ≡ n → ⊥) → IsLegalRing net b → Grew true (is_of n) a added b
    → HostIsReady m host w left net a → HostIsReady m host w left net b
host-stays m n host w left net a added b apart legal g t =
    let none : own m g.more ≡ [] = grew-apart maker n m a added b apart g in
    let legal' = subst (IsLegalRing net) g.after_is legal in
    subst (λ (r : List RingEntry). HostIsReady m host w left net r) (sym g.after_is) (record {
      worker_node = t.worker_node;
      ties = host-ties-others m host (own_side net) a g.more none legal' t.ties;
      counts = counts-others w a g.more (ap (λ (k : ℕ). own k g.more) t.worker_node ∙ none)
          t.counts;
      here = λ stays. ap is_in (membership-kept net m a g.more none
          (λ asks. let no' : false ≡ true = sym (ap is_in asks) ∙ t.here stays in cc))
          ∙ t.here stays;
      no_bridge = t.no_bridge;
    })

-- an end, while another node has its turn
pub end-stays : (m n : ℕ) (w : BridgeWorkerIs) (left : Bool) (bridge : BridgeIs) (net : NetPlan)
    (a added b : List RingEntry) → (m ≡ n → ⊥) → IsLegalRing net b → Grew true (is_of n) a added b
    → EndIsReady m w left bridge net a → EndIsReady m w left bridge net b
end-stays m n w left bridge net a added b apart legal g t =
    let none : own m g.more ≡ [] = grew-apart maker n m a added b apart g in
    subst (λ (r : List RingEntry). EndIsReady m w left bridge net r) (sym g.after_is)
    (ready-ring m w left bridge net a g.more none (subst (IsLegalRing net) g.after_is legal) t)

-- an end, while the other one has its turn
pub end-across : (m n : ℕ) (w : BridgeWorkerIs) (left : Bool) (plan : BridgePlan)
    (a added b : List BridgeEntry) (net : NetPlan) (ring : List RingEntry) → (m ≡ n → ⊥)
    → IsBridgeHistory plan b → Grew true (is_by n) a added b
    → EndIsReady m w left (record { plan = plan; history = a }) net ring
    → EndIsReady m w left (record { plan = plan; history = b }) net ring
end-across m n w left plan a added b net ring apart legal g t =
    let none : made_at_end m g.more ≡ [] =
    grew-apart side_of n m a added b apart g in
    subst (λ (l : List BridgeEntry). EndIsReady m w left (record { plan = plan; history = l }) net
    ring) (sym g.after_is)
    (ready-across m w left plan a g.more net ring none
    (subst (IsBridgeHistory plan) g.after_is legal) t)
