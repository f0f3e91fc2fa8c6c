-- The ring of a network, and what its members noted there.
use Rattle.std.proofs.Common.{◌≡◌, ◌≢◌, ℕ, zero, suc, ◌<◌, ◌≤◌, ◌++◌, Bool, true, false, cond}
use Rattle.std.proofs.Common.{List, [], ◌∷◌, map, refl, sym, ap, ◌∙◌, subst, ⊎_elim, arith}
use Rattle.std.proofs.Common.{◌⊎◌, append-nil, inl, inr}
use Rattle.std.specs.Prelude.{Contains, Some, ◌==◌}
use Rattle.std.specs.List.{All, AllByRecursion as Each, AllZip, count_by, find, sum_by}
use Rattle.std.proofs.lemmas.Bool.{cases_Bool, cases_lt, eq-eqb, eqb-true, ne_eqb}
use Rattle.std.proofs.lemmas.List.Elements.{Contains-append_cases}
use Rattle.std.proofs.lemmas.List.Elements.{Contains-append_left, Contains-append_right}
use Rattle.std.proofs.lemmas.List.Elements.{filter-append}
use Rattle.std.proofs.lemmas.List.Sums.{sum_by-append, sum_by-cons}
use Rattle.plant_types.specs.declared.net.NetPlan.{NetPlan}
use Rattle.plant_types.specs.declared.plan.Plant.{Plant}
use Rattle.plant_types.specs.Plans.{IsPlant, IsNetOf, net_numbers, net_of}
use Rattle.ring_core.specs.declared.entry.RingEntry.{RingEntry}
use Rattle.ring_core.specs.declared.entry.RingEntry.TheVariants.{Post, Send, Take, Local, GiveUp}
use Rattle.ring_core.specs.declared.entry.RingEntry.TheVariants.{Pass, Leave, Join}
use Rattle.ring_core.specs.Words.{maker}
use Rattle.ring_core.specs.Machine.{addresses}
use Rattle.ring_core.specs.Legal.{IsLawful, IsLegalRing, IsMember, IsRun}
use Rattle.ring_laws.specs.Once.{IsRingHistory}
use Rattle.ring_laws.proofs.Lists.{count-cons, count-contains}
use Rattle.joint_history.specs.TiedLists.{is_of, own}
use Rattle.joint_history.specs.declared.joint.RingLog.{RingLog}
use Rattle.joint_history.specs.JointLaws.{IsLegalRingLog}
use Rattle.joint_history.specs.Nets.{entries_of_rings, entries_on, entries_if}
use Rattle.net_laws.specs.Rings.{OwnEntriesAreOnOwnRing}
use Rattle.net_laws.proofs.Sums.{once-distinct, sum-mapped, sum-there}
use Rattle.net_laws.proofs.Members.{nets-differ, times}
use Rattle.net_laws.proofs.On.{member_times, members-once, net-of-is, net-sound}
use Rattle.net_laws.proofs.On.{there-times}

-- ---- one ring

member-of : (net : NetPlan) (e : RingEntry) → IsLawful net e → IsMember net (maker e)
member-of net (Post n f) law = law.0
member-of net (Send n heard) law = law
member-of net (Take n f) law = law
member-of net (Local n id op result) law = law.0
member-of net (GiveUp id word) law = law.0
member-of net (Pass n done words) law = law
member-of net (Leave n cause) law = law
member-of net (Join n) law = law

run-makers : (net : NetPlan) (past es : List RingEntry) → IsRun net past es
    → Each (λ e. IsMember net (maker e)) es
run-makers net past [] run = tt
run-makers net past (e ∷ es) run =
    (member-of net e run.0.0, run-makers net (past ++ e ∷ []) es run.1)

-- each entry of a legal ring names a member of its network
pub makers : (net : NetPlan) (ring : List RingEntry) → IsLegalRing net ring
    → Each (λ e. IsMember net (maker e)) ring
makers net ring legal = run-makers net [] ring legal

-- the addresses of members are low
pub low-members : (plant : Plant) (net : NetPlan) → IsNetOf plant net
    → All (λ m. m < addresses) net.members
low-members plant net of k d within =
    let node = of.plan.members.each k d within in
    let most = node.to in
    omega (arith, most)

-- the list of a ring of a plant's network is a history of it
pub ring-of : (plant : Plant) (net : NetPlan) (ring : RingLog) → IsNetOf plant net
    → IsLegalRingLog net ring → IsRingHistory net ring.entries
ring-of plant net ring of legal =
    record { members = low-members plant net of; legal = legal.1 }

none-own : (net : NetPlan) (n : ℕ) (es : List RingEntry) → Each (λ e. IsMember net (maker e)) es
    → times n net.members ≡ 0 → own n es ≡ []
none-own net n [] all none = refl
none-own net n (e ∷ es) all none =
    ⊎_elim
    (λ (is : (maker e == n) ≡ true).
    let some = there-times n net.members
    (subst (λ (k : ℕ). IsMember net k) (eqb-true (maker e) n is) all.0) in
    absurd (omega (arith, some, none)))
    (λ (no' : (maker e == n) ≡ false).
    ap (λ b. cond b (e ∷ own n es) (own n es)) no' ∙ none-own net n es all.1 none)
    (cases_Bool (maker e == n))

-- ---- all rings

-- the entries of rings are those of the first, and then those of the others
pub entries-cons : (ring : RingLog) (rings : List RingLog)
    → entries_of_rings (ring ∷ rings) ≡ ring.entries ++ entries_of_rings rings
entries-cons ring [] = sym (append-nil ring.entries)
entries-cons ring (next ∷ rings) = refl

-- what is counted among all is counted on each
pub counted-rings : (p : RingEntry → Bool) (rings : List RingLog)
    → count_by p (entries_of_rings rings)
    ≡ sum_by (λ (ring : RingLog). count_by p ring.entries) rings
counted-rings p [] = refl
counted-rings p (ring ∷ rings) =
    let is = ap (count_by p) (entries-cons ring rings) in
    let here = sum_by-append (λ e. cond {A = ℕ} (p e) 1 0) ring.entries (entries_of_rings rings) in
    let rest = counted-rings p rings in
    let step = sum_by-cons (λ (r : RingLog). count_by p r.entries) ring rings in
    omega (arith, is, here, rest, step)

each-both : {X : Type 0} (P : X → Type 0) (xs ys : List X) → Each P xs → Each P ys
    → Each P (xs ++ ys)
each-both P [] ys one two = two
each-both P (x ∷ xs) ys one two = (one.0, each-both P xs ys one.1 two)

-- what all entries of the ring of each network are, all entries of rings are
pub each-ring : (P : RingEntry → Type 0) (nets : List NetPlan) (rings : List RingLog)
    → ((net : NetPlan) (ring : RingLog) → Contains nets net → IsLegalRingLog net ring
    → Each P ring.entries)
    → AllZip IsLegalRingLog nets rings → Each P (entries_of_rings rings)
each-ring P [] [] each zip = tt
each-ring P [] (ring ∷ rings) each zip = absurd zip
each-ring P (net ∷ nets) [] each zip = absurd zip
each-ring P (net ∷ nets) (ring ∷ rings) each zip =
    subst (λ (l : List RingEntry). Each P l) (sym (entries-cons ring rings))
    (each-both P ring.entries (entries_of_rings rings)
    (each net ring (0, omega arith, refl) zip.0)
    (each-ring P nets rings
    (λ m r there. each m r (suc there.0, let low = there.1 in omega (arith, low), there.2)) zip.1))

-- the ring of a network is the first that has its number
on-first : (number : ℕ) (ring : RingLog) (rings : List RingLog) → ring.network ≡ number
    → entries_on number (ring ∷ rings) ≡ ring.entries
on-first number ring rings same =
    ap (λ b. entries_if (cond b (Some ring) (find (λ (r : RingLog). r.network == number) rings)))
    (eq-eqb ring.network number same)

on-later : (number : ℕ) (ring : RingLog) (rings : List RingLog) → ring.network ≢ number
    → entries_on number (ring ∷ rings) ≡ entries_on number rings
on-later number ring rings other =
    ap (λ b. entries_if (cond b (Some ring) (find (λ (r : RingLog). r.network == number) rings)))
    (ne_eqb ring.network number other)

-- what stands on the ring of a network stands among the entries of all
pub on-among : (number : ℕ) (rings : List RingLog) (e : RingEntry)
    → Contains (entries_on number rings) e → Contains (entries_of_rings rings) e
on-among number [] e there = there
on-among number (ring ∷ rings) e there =
    subst (λ (l : List RingEntry). Contains l e) (sym (entries-cons ring rings))
    (⊎_elim
    (λ (here : (ring.network == number) ≡ true).
    Contains-append_left ring.entries (entries_of_rings rings) e
    (subst (λ (l : List RingEntry). Contains l e)
    (on-first number ring rings (eqb-true ring.network number here)) there))
    (λ (no' : (ring.network == number) ≡ false).
    Contains-append_right ring.entries (entries_of_rings rings) e
    (on-among number rings e (subst (λ (l : List RingEntry). Contains l e)
    (on-later number ring rings (λ same.
    let is : false ≡ true = sym no' ∙ eq-eqb ring.network number same in absurd cc)) there)))
    (cases_Bool (ring.network == number)))

-- ---- the ring of a network

-- a legal list of it stands among the rings
pub record RingThere (net : NetPlan) (rings : List RingLog) : Type 0 where
  pub ring : RingLog
  pub there : Contains rings ring
  pub network : ring.network ≡ net.number
  pub entries : entries_on net.number rings ≡ ring.entries
  pub legal : IsLegalRing net (entries_on net.number rings)

abbrev numbers : List NetPlan → List ℕ
numbers nets = map (λ (net : NetPlan). net.number) nets

-- a network is not the first, if it stands behind and each has another number
other-number : (net x : NetPlan) (nets : List NetPlan) → times net.number (numbers (x ∷ nets)) ≤ 1
    → Contains nets net → x.number ≢ net.number
other-number net x nets few there same =
    let all = sum-mapped (λ n. cond {A = ℕ} (net.number == n) 1 0) (λ (m : NetPlan). m.number)
    nets in
    let share = sum-there (λ (m : NetPlan). cond {A = ℕ} (net.number == m.number) 1 0) nets net
    there in
    let one : cond {A = ℕ} (net.number == net.number) 1 0 ≡ 1 =
    ap (λ b. cond b 1 0) (eq-eqb net.number net.number refl) in
    let first : cond {A = ℕ} (net.number == x.number) 1 0 ≡ 1 =
    ap (λ b. cond b 1 0) (eq-eqb net.number x.number (sym same)) in
    let step = count-cons (λ n. net.number == n) x.number (numbers nets) in
    omega (arith, few, all, share, one, first, step)

fewer-numbers : (n x : ℕ) (ns : List ℕ) → times n (x ∷ ns) ≤ 1 → times n ns ≤ 1
fewer-numbers n x ns few =
    let step = count-cons (λ m. n == m) x ns in omega (arith, few, step)

found-ring : (net : NetPlan) (nets : List NetPlan) (rings : List RingLog)
    → times net.number (numbers nets) ≤ 1 → Contains nets net → AllZip IsLegalRingLog nets rings
    → RingThere net rings
found-ring net [] rings few there zip = absurd (let low = there.1 in omega (arith, low))
found-ring net (x ∷ nets) [] few there zip = absurd zip
found-ring net (x ∷ nets) (ring ∷ rings) few (zero, low, is) zip =
    let number : ring.network ≡ net.number = zip.0.0 ∙ ap (λ (m : NetPlan). m.number) is in
    let entries = on-first net.number ring rings number in
    record {
      ring = ring;
      there = (0, omega arith, refl);
      network = number;
      entries = entries;
      legal = subst (λ (l : List RingEntry). IsLegalRing net l) (sym entries)
          (subst (λ (m : NetPlan). IsLegalRing m ring.entries) is zip.0.1);
    }
found-ring net (x ∷ nets) (ring ∷ rings) few (suc k, low, is) zip =
    let behind : Contains nets net = (k, omega (arith, low), is) in
    let other = other-number net x nets few behind in
    let rest = found-ring net nets rings (fewer-numbers net.number x.number (numbers nets) few)
    behind zip.1 in
    let later = on-later net.number ring rings (λ same. other (sym zip.0.0 ∙ same)) in
    record {
      ring = rest.ring;
      there = (
        suc rest.there.0,
        let low' = rest.there.1 in omega (arith, low'),
        rest.there.2,
      );
      network = rest.network;
      entries = later ∙ rest.entries;
      legal = subst (λ (l : List RingEntry). IsLegalRing net l) (sym later) rest.legal;
    }

-- each ring is that of a network
pub record RingOf (nets : List NetPlan) (rings : List RingLog) (ring : RingLog) : Type 0 where
  pub net : NetPlan
  pub there : Contains nets net
  pub legal : IsLegalRingLog net ring
  pub entries : entries_on net.number rings ≡ ring.entries

ring-net : (nets : List NetPlan) (rings : List RingLog) (ring : RingLog)
    → ((n : ℕ) → times n (numbers nets) ≤ 1) → AllZip IsLegalRingLog nets rings
    → Contains rings ring → RingOf nets rings ring
ring-net [] [] ring few zip there = absurd (let low = there.1 in omega (arith, low))
ring-net [] (first ∷ rings) ring few zip there = absurd zip
ring-net (net ∷ nets) [] ring few zip there = absurd zip
ring-net (net ∷ nets) (first ∷ rings) ring few zip (zero, low, is) =
    let legal : IsLegalRingLog net ring = subst (λ (r : RingLog). IsLegalRingLog net r) is zip.0 in
    record {
      net = net;
      there = (0, omega arith, refl);
      legal = legal;
      entries = on-first net.number first rings zip.0.0 ∙ ap (λ (r : RingLog). r.entries) is;
    }
ring-net (net ∷ nets) (first ∷ rings) ring few zip (suc k, low, is) =
    let rest = ring-net nets rings ring
    (λ n. fewer-numbers n net.number (numbers nets) (few n)) zip.1 (k, omega (arith, low), is) in
    let other = other-number rest.net net nets (few rest.net.number) rest.there in
    record {
      net = rest.net;
      there = (suc rest.there.0, let more = rest.there.1 in omega (arith, more), rest.there.2);
      legal = rest.legal;
      entries =
          on-later rest.net.number first rings (λ same. other (sym zip.0.0 ∙ same)) ∙ rest.entries;
    }

number-once : (plant : Plant) (n : ℕ) → IsPlant plant → times n (numbers plant.nets) ≤ 1
number-once plant n is = once-distinct n (net_numbers plant) (nets-differ plant is)

-- ---- what a node noted

pub own-cons : (n : ℕ) (ring : RingLog) (rings : List RingLog)
    → own n (entries_of_rings (ring ∷ rings))
    ≡ own n ring.entries ++ own n (entries_of_rings rings)
own-cons n ring rings =
    ap (own n) (entries-cons ring rings)
    ∙ filter-append (is_of n) ring.entries (entries_of_rings rings)

-- who is a member of no network noted nothing
none-owns : (n : ℕ) (nets : List NetPlan) (rings : List RingLog)
    → AllZip IsLegalRingLog nets rings → member_times n nets ≡ 0
    → own n (entries_of_rings rings) ≡ []
none-owns n [] [] zip none = refl
none-owns n [] (ring ∷ rings) zip none = absurd zip
none-owns n (net ∷ nets) [] zip none = absurd zip
none-owns n (net ∷ nets) (ring ∷ rings) zip none =
    let step = sum_by-cons (λ (m : NetPlan). times n m.members) net nets in
    let first = none-own net n ring.entries (makers net ring.entries zip.0.1)
    (omega (arith, step, none)) in
    let rest = none-owns n nets rings zip.1 (omega (arith, step, none)) in
    own-cons n ring rings ∙ ap (λ l. l ++ own n (entries_of_rings rings)) first ∙ rest

none-on : (n number : ℕ) (nets : List NetPlan) (rings : List RingLog)
    → AllZip IsLegalRingLog nets rings → member_times n nets ≡ 0
    → own n (entries_on number rings) ≡ []
none-on n number [] [] zip none = refl
none-on n number [] (ring ∷ rings) zip none = absurd zip
none-on n number (net ∷ nets) [] zip none = absurd zip
none-on n number (net ∷ nets) (ring ∷ rings) zip none =
    let step = sum_by-cons (λ (m : NetPlan). times n m.members) net nets in
    ⊎_elim
    (λ (here : (ring.network == number) ≡ true).
    ap (own n) (on-first number ring rings (eqb-true ring.network number here))
    ∙ none-own net n ring.entries (makers net ring.entries zip.0.1) (omega (arith, step, none)))
    (λ (no' : (ring.network == number) ≡ false).
    ap (own n) (on-later number ring rings (λ same.
    let is : false ≡ true = sym no' ∙ eq-eqb ring.network number same in absurd cc))
    ∙ none-on n number nets rings zip.1 (omega (arith, step, none)))
    (cases_Bool (ring.network == number))

-- a node that is counted once at most noted something on one ring at most
pub once-noted : (n : ℕ) (nets : List NetPlan) (before after : List RingLog) (ring : RingLog)
    → member_times n nets ≤ 1 → AllZip IsLegalRingLog nets (before ++ ring ∷ after)
    → (own n ring.entries ≡ []) ⊎ (own n (entries_of_rings after) ≡ [])
once-noted n [] [] after ring few zip = absurd zip
once-noted n [] (x ∷ before) after ring few zip = absurd zip
once-noted n (net ∷ nets) [] after ring few zip =
    let step = sum_by-cons (λ (m : NetPlan). times n m.members) net nets in
    ⊎_elim
    (λ (none : times n net.members < 1).
    inl (none-own net n ring.entries (makers net ring.entries zip.0.1) (omega (arith, none))))
    (λ (some : 1 ≤ times n net.members).
    inr (none-owns n nets after zip.1 (omega (arith, some, step, few))))
    (cases_lt (times n net.members) 1)
once-noted n (net ∷ nets) (x ∷ before) after ring few zip =
    let step = sum_by-cons (λ (m : NetPlan). times n m.members) net nets in
    once-noted n nets before after ring (omega (arith, step, few)) zip.1

own-found : (n : ℕ) (net : NetPlan) (nets : List NetPlan) (rings : List RingLog)
    → times net.number (numbers nets) ≤ 1 → member_times n nets ≤ 1 → Contains nets net
    → IsMember net n → AllZip IsLegalRingLog nets rings
    → own n (entries_of_rings rings) ≡ own n (entries_on net.number rings)
own-found n net [] rings few once there member zip =
    absurd (let low = there.1 in omega (arith, low))
own-found n net (x ∷ nets) [] few once there member zip = absurd zip
own-found n net (x ∷ nets) (ring ∷ rings) few once (zero, low, is) member zip =
    let step = sum_by-cons (λ (m : NetPlan). times n m.members) x nets in
    let some = there-times n net.members member in
    let here = ap (λ (m : NetPlan). times n m.members) is in
    let rest = none-owns n nets rings zip.1 (omega (arith, step, some, here, once)) in
    own-cons n ring rings ∙ ap (λ l. own n ring.entries ++ l) rest
    ∙ append-nil (own n ring.entries)
    ∙ ap (own n) (sym (on-first net.number ring rings
    (zip.0.0 ∙ ap (λ (m : NetPlan). m.number) is)))
own-found n net (x ∷ nets) (ring ∷ rings) few once (suc k, low, is) member zip =
    let behind : Contains nets net = (k, omega (arith, low), is) in
    let other = other-number net x nets few behind in
    let step = sum_by-cons (λ (m : NetPlan). times n m.members) x nets in
    let some = there-times n net.members member in
    let share = sum-there (λ (m : NetPlan). times n m.members) nets net behind in
    let first = none-own x n ring.entries (makers x ring.entries zip.0.1)
    (omega (arith, step, some, share, once)) in
    own-cons n ring rings ∙ ap (λ l. l ++ own n (entries_of_rings rings)) first
    ∙ own-found n net nets rings (fewer-numbers net.number x.number (numbers nets) few)
    (omega (arith, step, once)) behind member zip.1
    ∙ ap (own n) (sym (on-later net.number ring rings (λ same. other (sym zip.0.0 ∙ same))))

-- ---- of a plant

module _ (plant : Plant) (rings : List RingLog) (sound : IsPlant plant)
    (legal : AllZip IsLegalRingLog plant.nets rings) where
  -- each network of a plant has its ring
  pub ring-there : (net : NetPlan) → Contains plant.nets net → RingThere net rings
  ring-there net there =
      found-ring net plant.nets rings (number-once plant net.number sound) there legal

  -- each ring is that of a network of it
  pub of-ring : (ring : RingLog) → Contains rings ring → RingOf plant.nets rings ring
  of-ring ring there =
      ring-net plant.nets rings ring (λ n. number-once plant n sound) legal there

  -- the list of a network's ring is a history of it
  pub ring-history : (net : NetPlan) → Contains plant.nets net
      → IsRingHistory net (entries_on net.number rings)
  ring-history net there = record {
    members = low-members plant net (net-sound plant net sound there);
    legal = (ring-there net there).legal;
  }

  -- each node noted something on one ring at most
  pub on-one : (n : ℕ) (before after : List RingLog) (ring : RingLog)
      → rings ≡ before ++ ring ∷ after
      → (own n ring.entries ≡ []) ⊎ (own n (entries_of_rings after) ≡ [])
  on-one n before after ring is =
      once-noted n plant.nets before after ring (members-once plant n sound)
      (subst (AllZip IsLegalRingLog plant.nets) is legal)

  -- what a member of a network noted is what it noted on its ring
  pub own-on : (net : NetPlan) (n : ℕ) → Contains plant.nets net → IsMember net n
      → own n (entries_of_rings rings) ≡ own n (entries_on net.number rings)
  own-on net n there member =
      own-found n net plant.nets rings (number-once plant net.number sound)
      (members-once plant n sound) there member legal

-- an entry of rings stands on the ring of a network of which its maker is a member
pub record EntryOn (nets : List NetPlan) (rings : List RingLog) (e : RingEntry) : Type 0 where
  pub net : NetPlan
  pub ring : RingLog
  pub there : Contains nets net
  pub stands : Contains rings ring
  pub legal : IsLegalRingLog net ring
  pub member : IsMember net (maker e)
  pub on : Contains ring.entries e

each-there : (P : RingEntry → Type 0) (es : List RingEntry) (e : RingEntry) → Each P es
    → Contains es e → P e
each-there P [] e all there = absurd (let low = there.1 in omega (arith, low))
each-there P (x ∷ es) e all (zero, low, is) = subst P is all.0
each-there P (x ∷ es) e all (suc k, low, is) = each-there P es e all.1 (k, omega (arith, low), is)

pub entry-on : (nets : List NetPlan) (rings : List RingLog) (e : RingEntry)
    → AllZip IsLegalRingLog nets rings → Contains (entries_of_rings rings) e
    → EntryOn nets rings e
entry-on [] [] e zip there = absurd (let low = there.1 in omega (arith, low))
entry-on [] (ring ∷ rings) e zip there = absurd zip
entry-on (net ∷ nets) [] e zip there = absurd zip
entry-on (net ∷ nets) (ring ∷ rings) e zip there =
    ⊎_elim
    (λ (here : Contains ring.entries e). record {
      net = net;
      ring = ring;
      there = (0, omega arith, refl);
      stands = (0, omega arith, refl);
      legal = zip.0;
      member = each-there (λ x. IsMember net (maker x)) ring.entries e
          (makers net ring.entries zip.0.1) here;
      on = here;
    })
    (λ (more : Contains (entries_of_rings rings) e).
    let rest = entry-on nets rings e zip.1 more in
    record {
      net = rest.net;
      ring = rest.ring;
      there = (suc rest.there.0, let low = rest.there.1 in omega (arith, low), rest.there.2);
      stands = (suc rest.stands.0, let low = rest.stands.1 in omega (arith, low), rest.stands.2);
      legal = rest.legal;
      member = rest.member;
      on = rest.on;
    })
    (Contains-append_cases ring.entries (entries_of_rings rings) e
    (subst (λ (l : List RingEntry). Contains l e) (entries-cons ring rings) there))

-- ---- any node

-- a node that is counted among the members of networks is a member of one
some-net : (n : ℕ) (nets : List NetPlan) → 1 ≤ member_times n nets
    → (net : NetPlan) × Contains nets net × IsMember net n
some-net n [] some = absurd (omega (arith, some))
some-net n (net ∷ nets) some =
    let step = sum_by-cons (λ (m : NetPlan). times n m.members) net nets in
    ⊎_elim
    (λ (none : times n net.members < 1).
    let rest = some-net n nets (omega (arith, some, step, none)) in (
      rest.0,
      (suc rest.1.0, let low = rest.1.1 in omega (arith, low), rest.1.2),
      rest.2,
    ))
    (λ (here : 1 ≤ times n net.members).
    let there = count-contains (λ m. n == m) net.members here in (
      net,
      (0, omega arith, refl),
      subst (λ (m : ℕ). IsMember net m) (sym (eqb-true n there.0 there.2)) there.1,
    ))
    (cases_lt (times n net.members) 1)

-- all that a node noted it noted on the ring of its network; without one it noted nothing
pub own-ring : OwnEntriesAreOnOwnRing
own-ring plant scans joint n sound legal =
    ⊎_elim
    (λ (none : member_times n plant.nets < 1).
    none-owns n plant.nets joint.rings legal.rings (omega (arith, none))
    ∙ sym (none-on n (net_of plant n).number plant.nets joint.rings legal.rings
    (omega (arith, none))))
    (λ (some : 1 ≤ member_times n plant.nets).
    let of = some-net n plant.nets some in
    own-on plant joint.rings sound legal.rings of.0 n of.1 of.2
    ∙ ap (λ (net : NetPlan). own n (entries_on net.number joint.rings))
    (sym (net-of-is plant of.0 n sound of.1 of.2)))
    (cases_lt (member_times n plant.nets) 1)
