-- Nothing is left in a host's boxes where its turn ends, and none of its calls has failed.
use Rattle.std.proofs.Common.{◌≡◌, ℕ, Bool, true, false, cond, not, List, [], ◌∷◌, ◌++◌, map}
use Rattle.std.proofs.Common.{filter, sym, ap, ◌∙◌, subst, inl, ⊎_elim}
use Rattle.std.proofs.Common.{append-nil, append_assoc}
use Rattle.std.specs.List.{AllByRecursion as Each}
use Rattle.std.proofs.lemmas.Bool.{cases_Bool, eqb-true}
use Rattle.plant_types.specs.declared.net.NetPlan.{NetPlan}
use Rattle.plant_types.specs.declared.net.HostPlan.{HostPlan}
use Rattle.mstr_block.specs.Table.{network_paths}
use Rattle.host_port.specs.declared.entry.HostEntry.{HostEntry}
use Rattle.ring_core.specs.declared.frame.Frame.{Frame}
use Rattle.ring_core.specs.declared.entry.RingEntry.{RingEntry}
use Rattle.ring_core.specs.declared.entry.RingEntry.TheVariants.{Post, Send, Take, Local, GiveUp}
use Rattle.ring_core.specs.declared.entry.RingEntry.TheVariants.{Pass, Leave, Join}
use Rattle.ring_core.specs.Words.{maker, asks_for}
use Rattle.ring_core.specs.Machine.{NodeIs}
use Rattle.ring_core.specs.Legal.{IsLegalRing}
use Rattle.tied_lists.specs.Own.{is_of, own, Adds}
use Rattle.tied_lists.specs.Waits.{Holds, IsOnRing}
use Rattle.tied_lists.proofs.Histories.{heard-inbox}
use Rattle.tied_lists.proofs.Turns.{Moved, after-post, after-give_up, found-at, legal-parts}
use Rattle.comm_port.specs.Giving.{part_at, IsAtRest}
use Rattle.comm_port.specs.HostTurns.{AsksAllDue, GivesUpDue, GivenUp}
use Rattle.comm_port.specs.HostTurns.{SendsOut, give_up_of}
use Rattle.comm_port.specs.SendsAll.{IsNextSending}
use Rattle.comm_port.specs.Order.{IsGivingUp}
use Rattle.comm_port.proofs.RingTurns.{on-push}
use Rattle.comm_port.proofs.HostSends.{none-failed-due}
use Rattle.comm_port.proofs.Parts.{each-added}
use Rattle.comm_port.proofs.Sends.{sent-one}
use Rattle.comm_port.proofs.Through.{own-moves}

-- entries that leave the inbox as it is
abbrev KeepsBox : RingEntry → Type 0
KeepsBox (Post n f) = Unit {0}
KeepsBox (Send n heard) = Unit {0}
KeepsBox (GiveUp id word) = Unit {0}
KeepsBox _ = ⊥

-- what a node that holds the token keeps through its own entries
abbrev HolderKeeps : NetPlan → ℕ → (RingEntry → Type 0) → (NodeIs → Type 0) → Type 0
HolderKeeps net n Sort Q = (past after' : List RingEntry) (e : RingEntry) → maker e ≡ n
    → Moved net n past e after' → Sort e → Holds net past n → Q (part_at net n past)
    → Holds net after' n × Q (part_at net n after')

holder-run : (net : NetPlan) (n : ℕ) (Sort : RingEntry → Type 0) (Q : NodeIs → Type 0)
    → HolderKeeps net n Sort Q → (past more : List RingEntry) → IsOnRing net past n
    → IsLegalRing net (past ++ more) → Each Sort (own n more) → Holds net past n
    → Q (part_at net n past) → Q (part_at net n (past ++ more))
holder-run net n Sort Q keeps past [] on legal sorts h it = subst
    (λ (l : List RingEntry). Q (part_at net n l)) (sym (append-nil past)) it
holder-run net n Sort Q keeps past (e ∷ es) on legal sorts h it =
    let join = append_assoc past (e ∷ []) es in
    let run = (legal-parts net past (e ∷ es) legal).1 in
    let legal' : IsLegalRing net ((past ++ e ∷ []) ++ es) = subst (IsLegalRing net)
    (sym join) legal in
    let near = (legal-parts net (past ++ e ∷ []) es legal').0 in
    let on' : IsOnRing net (past ++ e ∷ []) n = on-push net n past e on near (inl h) in
    subst (λ (l : List RingEntry). Q (part_at net n l)) join
    (⊎_elim
    (λ (mine : is_of n e ≡ true).
    let sorts' : Each Sort (e ∷ own n es) = subst
    (λ (b : Bool). Each Sort (cond b (e ∷ own n es) (own n es))) mine sorts in
    let k = keeps past (past ++ e ∷ []) e (eqb-true (maker e) n mine)
    (own-moves net n past e (eqb-true (maker e) n mine) on (inl h) run.0) sorts'.0 h it in
    holder-run net n Sort Q keeps (past ++ e ∷ []) es on' legal' sorts'.1 k.0 k.1)
    (λ (other : is_of n e ≡ false).
    let sorts' : Each Sort (own n es) = subst
    (λ (b : Bool). Each Sort (cond b (e ∷ own n es) (own n es))) other sorts in
    let none : own n (e ∷ []) ≡ [] = ap (λ (b : Bool). cond b (e ∷ []) []) other in
    let f = found-at net n past (e ∷ []) near none (inl h) in
    holder-run net n Sort Q keeps (past ++ e ∷ []) es on' legal' sorts' (f.holds h)
    (subst Q (sym f.part_is) it))
    (cases_Bool (is_of n e)))

holder-through : (alone : Bool) (net : NetPlan) (n : ℕ) (Sort : RingEntry → Type 0)
    (Q : NodeIs → Type 0) (ring ring' : List RingEntry) → HolderKeeps net n Sort Q → IsOnRing
    net ring n → IsLegalRing net ring' → Holds net ring n → Adds alone (is_of n) Sort ring ring'
    → Q (part_at net n ring) → Q (part_at net n ring')
holder-through alone net n Sort Q ring ring' keeps on legal h adds it =
    let g = adds.grew in
    subst (λ (l : List RingEntry). Q (part_at net n l)) (sym g.after_is)
    (holder-run net n Sort Q keeps ring g.more on (subst (IsLegalRing net) g.after_is legal)
    (subst (Each Sort) (sym g.ours_are) adds.sort) h it)

inbox-keeps : (net : NetPlan) (n : ℕ) → HolderKeeps net n KeepsBox (λ c. c.inbox ≡ [])
inbox-keeps net n past after' (Post m f) mine move sort h q =
    let w = after-post net n past f after'
    (subst (λ (k : ℕ). Moved net n past (Post k f) after') mine move) in
    (w.holds h, ap (λ (c : NodeIs). c.inbox) w.part_is ∙ q)
inbox-keeps net n past after' (Send m heard) mine move sort h q =
    let s = sent-one net n past heard after' h
    (subst (λ (k : ℕ). Moved net n past (Send k heard) after') mine move) in (
      s.holds h,
      ap (λ (c : NodeIs). c.inbox) s.part_is
          ∙ (heard-inbox (part_at net n past) s.f.kind s.f.id s.there heard ∙ q),
    )
inbox-keeps net n past after' (GiveUp id word) mine move sort h q =
    let w = after-give_up net n past id word after' mine move in
    (w.holds h, ap (λ (c : NodeIs). c.inbox) w.part_is ∙ q)
inbox-keeps net n past after' (Take m f) mine move sort h q = absurd sort
inbox-keeps net n past after' (Local m id op result) mine move sort h q = absurd sort
inbox-keeps net n past after' (Pass m done words) mine move sort h q = absurd sort
inbox-keeps net n past after' (Leave m cause) mine move sort h q = absurd sort
inbox-keeps net n past after' (Join m) mine move sort h q = absurd sort

outbox-keeps : (net : NetPlan) (n : ℕ) → HolderKeeps net n IsGivingUp (λ c. c.outbox ≡ [])
outbox-keeps net n past after' (GiveUp id word) mine move sort h q =
    let w = after-give_up net n past id word after' mine move in
    (w.holds h, ap (λ (c : NodeIs). c.outbox) w.part_is ∙ ap (filter (λ f. not (asks_for id f))) q)
outbox-keeps net n past after' (Post m f) mine move sort h q = absurd sort
outbox-keeps net n past after' (Send m heard) mine move sort h q = absurd sort
outbox-keeps net n past after' (Take m f) mine move sort h q = absurd sort
outbox-keeps net n past after' (Local m id op result) mine move sort h q = absurd sort
outbox-keeps net n past after' (Pass m done words) mine move sort h q = absurd sort
outbox-keeps net n past after' (Leave m cause) mine move sort h q = absurd sort
outbox-keeps net n past after' (Join m) mine move sort h q = absurd sort

-- ---- what a host's parts add

posts-sort : (n : ℕ) (asks : List Frame) → Each KeepsBox (map (Post n) asks)
posts-sort n [] = tt
posts-sort n (f ∷ asks) = (tt, posts-sort n asks)

pub gives-sort : (ends : List GivenUp) → Each IsGivingUp (map give_up_of ends)
gives-sort [] = tt
gives-sort (e ∷ ends) = (tt, gives-sort ends)

gives-keep : (ends : List GivenUp) → Each KeepsBox (map give_up_of ends)
gives-keep [] = tt
gives-keep (e ∷ ends) = (tt, gives-keep ends)

step-sort : (net : NetPlan) (n : ℕ) (on : ℕ → Bool) (past : List RingEntry) (e : RingEntry)
    → IsNextSending net n on past e → KeepsBox e
step-sort net n on past (Send m heard) it = tt
step-sort net n on past (GiveUp id word) it = tt
step-sort net n on past (Post m f) it = absurd it
step-sort net n on past (Take m f) it = absurd it
step-sort net n on past (Local m id op result) it = absurd it
step-sort net n on past (Pass m done words) it = absurd it
step-sort net n on past (Leave m cause) it = absurd it
step-sort net n on past (Join m) it = absurd it

-- the inbox of a host that served, asked, sent and gave up is empty
pub inbox-empty : (alone : Bool) (net : NetPlan) (n : ℕ) (plan : HostPlan) (hold : ℕ)
    (asks : List Frame) (on : ℕ → Bool) (paths : List ℕ) (k1 k2 k3 k4 : List HostEntry)
    (served asked sent
    given : List RingEntry) → IsOnRing net served n → Holds net served n → IsOnRing net asked n
    → Holds net asked n → IsOnRing net sent n → Holds net sent n → IsLegalRing net given
    → (part_at net n served).inbox ≡ [] → AsksAllDue alone n plan hold asks k1 k2 served asked
    → SendsOut alone net n on k2 k3 asked sent → GivesUpDue alone net n paths k3 k4 sent given
    → (part_at net n given).inbox ≡ []
inbox-empty alone net n plan hold asks on paths k1 k2 k3 k4 served asked sent given ring h1 on2
    h2 on3 h3 legal4 empty a s u =
    let one = holder-through alone net n KeepsBox (λ c. c.inbox ≡ []) served asked
    (inbox-keeps net n) ring on2.legal h1
    (record { added = map (Post n) asks; sort = posts-sort n asks; grew = a.in_order.grew }) empty
    in
    let two = holder-through alone net n KeepsBox (λ c. c.inbox ≡ []) asked sent (inbox-keeps net n)
    on2 on3.legal h2
    (record {
      added = s.frames.done;
      sort = each-added alone n (IsNextSending net n on) KeepsBox (step-sort net n on) asked
          s.frames.done sent s.frames.grew s.frames.each;
      grew = s.frames.grew;
    }) one in
    holder-through alone net n KeepsBox (λ c. c.inbox ≡ []) sent given (inbox-keeps net n) on3
    legal4 h3
    (record { added = map give_up_of u.ends; sort = gives-keep u.ends; grew = u.grew }) two

-- a host that sent all and gave up what was due is at rest
pub rest-due : (alone : Bool) (net : NetPlan) (n : ℕ) (on : ℕ → Bool) (k2 k3 k4 : List HostEntry)
    (asked sent given : List RingEntry) → IsOnRing net sent n → Holds net sent n
    → IsOnRing net given n → SendsOut alone net n on k2 k3 asked sent
    → GivesUpDue alone net n network_paths k3 k4 sent given → IsAtRest net n given
rest-due alone net n on k2 k3 k4 asked sent given ring h on4 s u = record {
  all_sent = holder-through alone net n IsGivingUp (λ c. c.outbox ≡ []) sent given
      (outbox-keeps net n) ring on4.legal h
      (record { added = map give_up_of u.ends; sort = gives-sort u.ends; grew = u.grew })
      s.frames.all_sent;
  none_failed = λ path chosen. none-failed-due net n given
      on4 u.none_left path;
}
