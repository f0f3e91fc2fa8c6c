-- Hosts that stand on one ring, while each has its turns.
use Rattle.std.proofs.Common.{◌≡◌, ◌≢◌, ℕ, ◌<◌, ◌≤◌, Bool, true, false, cond, List, [], ◌∷◌, ◌++◌}
use Rattle.std.proofs.Common.{zero, suc, inl, inr, length, get_or, All, Contains, refl, sym, ap}
use Rattle.std.proofs.Common.{◌∙◌, subst, arith, ne_eqb}
use Rattle.std.specs.List.{AllByRecursion as Each}
use Rattle.std.proofs.lemmas.Bool.{cases_Bool, eqb-true}
use Rattle.plant_types.specs.declared.net.NetPlan.{NetPlan}
use Rattle.plant_types.specs.declared.net.HostPlan.{HostPlan}
use Rattle.ring_core.specs.Words.{maker}
use Rattle.ring_core.specs.Legal.{IsLegalRing, IsMember}
use Rattle.ring_core.specs.Machine.{is_here, is_in, addresses, fresh}
use Rattle.ring_core.specs.Machine.{opening_nodes, ring_after, ring_node}
use Rattle.ring_core.specs.declared.entry.RingEntry.{RingEntry}
use Rattle.host_port.specs.declared.entry.HostEntry.{HostEntry}
use Rattle.host_port.specs.Host.{HostIs}
use Rattle.tied_lists.specs.Own.{own, is_of}
use Rattle.tied_lists.proofs.Turns.{membership-kept}
use Rattle.comm_port.specs.HostStands.{own_side, HostIsReady}
use Rattle.comm_port.specs.HostTurns.{HoldsHostTurn, HostTies, HostWorkerIs, host_at}
use Rattle.comm_port.proofs.HostTurnLaws.{counts-others, host-ties-new, host-ties-others}
use Rattle.comm_port.proofs.HostTurnLaws.{host-turn-grew}
use Rattle.comm_port.proofs.Onward.{none-bridges}

-- ---- entries of one node alone

fewer : (n : ℕ) (xs : List RingEntry) → length (own n xs) ≤ length xs
fewer n [] = omega arith
fewer n (e ∷ xs) = elim (is_of n e) as
    (λ (b : Bool). length (cond b (e ∷ own n xs) (own n xs)) ≤ length (e ∷ xs)) [
      | true ↦ let less = fewer n xs in omega arith
      | false ↦ let less = fewer n xs in omega arith
    ]

tail-of : (x y : RingEntry) (xs ys : List RingEntry) → x ∷ xs ≡ y ∷ ys → xs ≡ ys
tail-of x y xs ys is = cc

all-made : (n : ℕ) (xs : List RingEntry) → own n xs ≡ xs → Each (λ (e : RingEntry). maker e ≡ n) xs
all-made n [] is = tt
all-made n (e ∷ xs) is = elim (cases_Bool (is_of n e)) [
  | inl mine ↦
      let rest : e ∷ own n xs ≡ e ∷ xs = sym
      (ap (λ (b : Bool). cond b (e ∷ own n xs) (own n xs)) mine) ∙ is in
      (eqb-true (maker e) n mine, all-made n xs (tail-of e e (own n xs) xs rest))
  | inr other ↦
      let rest : own n xs ≡ e ∷ xs = sym (ap (λ (b : Bool). cond b (e ∷ own n xs) (own n xs)) other)
      ∙ is in
      let less = fewer n xs in
      let size : length (own n xs) ≡ length (e ∷ xs) = ap length rest in
      absurd (omega arith)
]

none-made : (m n : ℕ) (xs : List RingEntry) → m ≢ n → Each (λ (e : RingEntry). maker e ≡ n) xs
    → own m xs ≡ []
none-made m n [] apart each = refl
none-made m n (e ∷ xs) apart each =
    ap (λ (b : Bool). cond b (e ∷ own m xs) (own m xs))
    (ne_eqb (maker e) m (λ is. apart (sym is ∙ each.0))) ∙ none-made m n xs apart each.1

-- ---- the other host, while one has its turn

pub stands-on : (m n : ℕ) (host : HostIs) (w : HostWorkerIs) (left : Bool) (net : NetPlan)
    (plan : HostPlan) (budget : Bool) (l l' : List HostEntry)
    (a b : List RingEntry) (gone' : Bool) → m ≢ n → IsLegalRing net b
    → HoldsHostTurn true net n plan budget l l' a b gone' → HostIsReady m host w left net a
    → HostIsReady m host w left net b
stands-on m n host w left net plan budget l l' a b gone' apart legal turn t =
    let by = host-turn-grew true net n plan budget l l' a b gone' turn in
    let g = by.grew in
    let made = all-made n g.more (g.ours_are ∙ sym (g.all_alone refl)) in
    let none = none-made m n g.more apart made in
    let legal' = subst (IsLegalRing net) g.after_is legal in
    subst (λ (r : List RingEntry). HostIsReady m host w left net r) (sym g.after_is) (record {
      worker_node = t.worker_node;
      ties = host-ties-others m host (own_side net) a g.more none legal' t.ties;
      counts = counts-others w a g.more (ap (λ (k : ℕ). own k g.more) t.worker_node ∙ none)
          t.counts;
      here = λ stays. ap is_in (membership-kept net m a g.more none
          (λ asks. let no' : false ≡ true = sym (ap is_in asks) ∙ t.here stays in cc))
          ∙ t.here stays;
      no_bridge = t.no_bridge;
    })

-- ---- at the start, on a ring of nodes 1 and 2

low-two : All (λ m. m < addresses) (1 ∷ 2 ∷ [])
low-two zero d range = omega arith
low-two (suc zero) d range = omega arith
low-two (suc (suc k)) d range = absurd (omega (arith, range))

pub stands-first : (n : ℕ) (host : HostIs) (w : HostWorkerIs) (left : Bool) (net : NetPlan)
    → net.members ≡ 1 ∷ 2 ∷ [] → net.bridges ≡ [] → 0 < net.answer → IsMember net n
    → (is_here (ring_node (ring_after net []) n)) ≡ true → host.plan.node ≡ n → host.history ≡ []
    → w ≡ record { node = n; budget = true; passes = 0 }
    → HostIsReady n host w left net []
stands-first n host w left net members none wait member here node empty is = record {
  worker_node = ap (λ (x : HostWorkerIs). x.node) is;
  ties = subst (λ (h : List HostEntry). HostTies n (host_at host.plan h) (own_side net) [])
      (sym empty)
      (subst (λ (m : ℕ). HostTies m (host_at host.plan []) (own_side net) []) node
      (host-ties-new host.plan (own_side net)
      (record {
        order = (_, refl);
        each = λ before after' entry k. absurd (not-there before after' entry k);
      })
      tt
      (record {
        members = subst (All (λ m. m < addresses)) (sym members) low-two;
        legal = tt;
        member = subst (IsMember net) (sym node) member;
        patient = tt;
      })
      wait));
  counts = ap (λ (x : HostWorkerIs). x.passes) is;
  here = λ stays. here;
  no_bridge = none-bridges net n none;
}
  where
    not-there : (before after' : List HostEntry) (entry : HostEntry) → [] ≡ before ++ entry ∷ after'
        → ⊥
    not-there [] after' entry k = cc
    not-there (x ∷ before) after' entry k = cc

pub stands-one : (host : HostIs) (w : HostWorkerIs) (left : Bool) (net : NetPlan)
    → net.members ≡ 1 ∷ 2 ∷ [] → net.bridges ≡ [] → 0 < net.answer → host.plan.node ≡ 1
    → host.history ≡ [] → w ≡ record { node = 1; budget = true; passes = 0 }
    → HostIsReady 1 host w left net []
stands-one host w left net members none wait node empty is =
    stands-first 1 host w left net members none wait
    (subst (λ (l : List ℕ). Contains l 1) (sym members) (0, omega arith, refl))
    (ap (λ (l : List ℕ). (is_here (get_or (opening_nodes l) 1 (fresh false)))) members)
    node empty is

pub stands-two : (host : HostIs) (w : HostWorkerIs) (left : Bool) (net : NetPlan)
    → net.members ≡ 1 ∷ 2 ∷ [] → net.bridges ≡ [] → 0 < net.answer → host.plan.node ≡ 2
    → host.history ≡ [] → w ≡ record { node = 2; budget = true; passes = 0 }
    → HostIsReady 2 host w left net []
stands-two host w left net members none wait node empty is =
    stands-first 2 host w left net members none wait
    (subst (λ (l : List ℕ). Contains l 2) (sym members) (1, omega arith, refl))
    (ap (λ (l : List ℕ). (is_here (get_or (opening_nodes l) 2 (fresh false)))) members)
    node empty is
