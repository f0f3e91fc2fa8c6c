-- A call of a node fails by a Send of the node alone, and only the call whose Request is sent.
use Rattle.std.proofs.Common.{◌≡◌, ◌≢◌, ◌⊎◌, ℕ, zero, suc, ◌+◌, nat_le, Bool, true, false}
use Rattle.std.proofs.Common.{cond, List, [], ◌∷◌, ◌++◌, get_or, set, map, replicate}
use Rattle.std.proofs.Common.{inl, inr, refl, sym, subst, append_assoc}
use Rattle.std.proofs.Common.{append-nil}
use Rattle.std.specs.List.{AllByRecursion as Each}
use Rattle.std.proofs.lemmas.Bool.{cond_both}
use Rattle.plant_types.specs.declared.net.Fate.{Fate}
use Rattle.plant_types.specs.declared.net.NetPlan.{NetPlan}
use Rattle.mstr_block.specs.declared.call.CallId.{CallId}
use Rattle.ring_core.specs.declared.frame.FrameKind.{FrameKind}
use Rattle.ring_core.specs.declared.frame.FrameKind.TheVariants.{Request, Reply}
use Rattle.ring_core.specs.declared.frame.Frame.{Frame}
use Rattle.ring_core.specs.declared.path.Await.{Await}
use Rattle.ring_core.specs.declared.path.Await.TheVariants.{Nothing, Out, Arrived, Failed}
use Rattle.ring_core.specs.declared.path.Path.{Path}
use Rattle.ring_core.specs.declared.entry.Heard.{Heard}
use Rattle.ring_core.specs.declared.entry.Heard.TheVariants.{Acked, Silent, Busy}
use Rattle.ring_core.specs.declared.entry.RingEntry.{RingEntry}
use Rattle.ring_core.specs.declared.entry.RingEntry.TheVariants.{Post, Send, Take, Local, GiveUp}
use Rattle.ring_core.specs.declared.entry.RingEntry.TheVariants.{Pass, Leave, Join}
use Rattle.ring_core.specs.declared.entry.LeaveCause.{LeaveCause}
use Rattle.ring_core.specs.declared.entry.LeaveCause.TheVariants.{Ended, Spent, Down}
use Rattle.ring_core.specs.declared.status.NodeStatus.{NodeStatus}
use Rattle.ring_core.specs.declared.status.NodeStatus.TheVariants.{Asking, In}
use Rattle.ring_core.specs.Machine.{NodeIs, RingIs, no_path, path_of, fresh, part_of, ring_node}
use Rattle.ring_core.specs.Machine.{asked, paths_after_take, gave_up, aged}
use Rattle.ring_core.specs.Machine.{aged_await, with_frame, arrived, arrival, fell, is_full}
use Rattle.ring_core.specs.Machine.{is_repeat, waits_for}
use Rattle.ring_core.specs.Machine.{fate_at, heard_of, failed, sent_off, heard_by, silence_word}
use Rattle.ring_core.specs.Machine.{busy_word, sent_head, after}
use Rattle.ring_core.specs.Words.{is_onward}
use Rattle.ring_core.specs.Machine.{with_members, ring_after, addresses, hears, gone_by}
use Rattle.ring_core.specs.Machine.{after_pass, handed_on, is_held, with_node, with_status}
use Rattle.ring_core.proofs.Stability.{admitted-part}
use Rattle.tied_lists.proofs.Histories.{arrived-part}
use Rattle.tied_lists.proofs.Turns.{next-ring}
use Rattle.comm_port.specs.Giving.{part_at, HasFailed}

-- an item of a list in which one place was written
pub at-set : {X : Type 0} (P : ℕ → X → Type 0) (xs : List X) (d : X) (m : ℕ) (x : X)
    → ((k : ℕ) → P k (get_or xs k d)) → P m x
    → (k : ℕ) → P k (get_or (set xs m x) k d)
at-set P [] d m x all it k = all k
at-set P (y ∷ ys) d zero x all it zero = it
at-set P (y ∷ ys) d zero x all it (suc k) = all (suc k)
at-set P (y ∷ ys) d (suc m) x all it zero = all zero
at-set P (y ∷ ys) d (suc m) x all it (suc k) =
    at-set (λ j. P (suc j)) ys d m x (λ j. all (suc j)) it k

-- a path's call has failed
abbrev pub HasFailedOn : NodeIs → ℕ → Type 0
HasFailedOn c p = HasFailed (path_of c p).awaits

abbrev Fails : List Path → ℕ → Type 0
Fails paths p = HasFailed (get_or paths p no_path).awaits

-- one path that has not failed is written
no-fail : (paths : List Path) (q : ℕ) (v : Path) → (HasFailed v.awaits → ⊥) → (p : ℕ)
    → Fails (set paths q v) p → Fails paths p
no-fail paths q v none p =
    at-set (λ k x. HasFailed x.awaits → Fails paths k) paths no_path q v (λ k f. f)
    (λ f. absurd (none f)) p

-- any path is written
some-fail : (paths : List Path) (q : ℕ) (v : Path) (p : ℕ) → Fails (set paths q v) p
    → Fails paths p ⊎ (p ≡ q)
some-fail paths q v p =
    at-set (λ k x. HasFailed x.awaits → Fails paths k ⊎ (k ≡ q)) paths no_path q v (λ k f. inl f)
    (λ f. inr refl) p

-- a call that waited for a Pass more has not failed by it
aged-fail : (a : Await) → HasFailed (aged_await a) → HasFailed a
aged-fail Nothing f = absurd f
aged-fail (Out seq to onward passes) f = absurd f
aged-fail (Arrived seq) f = absurd f
aged-fail (Failed seq word) f = f

aged-fails : (paths : List Path) (p : ℕ) → Fails (map aged paths) p → Fails paths p
aged-fails [] p f = f
aged-fails (x ∷ paths) zero f = aged-fail x.awaits f
aged-fails (x ∷ paths) (suc p) f = aged-fails paths p f

-- ---- a node's part

-- nor has a call that is posted
asked-fails : (c : NodeIs) (kind : FrameKind) (f : Frame) (p : ℕ) → Fails (asked c kind f) p
    → HasFailedOn c p
asked-fails c Request f p x = no-fail c.paths f.id.path
    (record { awaits = Out f.id.seq f.to (is_onward f) 0; posted = f.id.seq }) (λ y. y) p x
asked-fails c Reply f p x = x

-- nor one whose Reply is taken
taken-fails : (c : NodeIs) (kind : FrameKind) (path p : ℕ) → Fails (paths_after_take c kind path) p
    → HasFailedOn c p
taken-fails c Request path p f = f
taken-fails c Reply path p f = no-fail c.paths path
    (record { awaits = Nothing; posted = (path_of c path).posted }) (λ x. x) p f

-- nor one that is given up
given-fails : (c : NodeIs) (id : CallId) (p : ℕ) → HasFailedOn (gave_up c id) p → HasFailedOn c p
given-fails c id p f = no-fail c.paths id.path
    (record { awaits = Nothing; posted = (path_of c id.path).posted }) (λ x. x) p f

-- nor one of whoever a frame comes to
come-fails : (c : NodeIs) (f : Frame) (kind : FrameKind) (p : ℕ)
    → HasFailedOn (with_frame c (fell c kind f.id) f) p → HasFailedOn c p
come-fails c f Request p = cond_both (is_repeat c f.id) _ _
    (λ x. HasFailedOn (with_frame c x f) p → HasFailedOn c p) (λ _ x. x)
    (λ _. cond_both (is_full c) _ _ (λ x. HasFailedOn (with_frame c x f) p → HasFailedOn c p)
    (λ _ x. x) (λ _ x. x))
come-fails c f Reply p =
    cond_both (waits_for (path_of c f.id.path).awaits f.id.seq) _ _
    (λ x. HasFailedOn (with_frame c x f) p → HasFailedOn c p)
    (λ _ x. no-fail c.paths f.id.path
    (record { awaits = Arrived f.id.seq; posted = (path_of c f.id.path).posted })
    (λ y. y) p x) (λ _ x. x)

arrived-fails : (net : NetPlan) (nodes : List NodeIs) (f : Frame) (fate : Fate) (n p : ℕ)
    → HasFailedOn (part_of (arrived nodes f (arrival net nodes fate f)) n) p
    → HasFailedOn (part_of nodes n) p
arrived-fails net nodes f fate n p =
    arrived-part net nodes f fate (λ k c. HasFailedOn c p → HasFailedOn (part_of nodes k) p)
    (λ k x. x) (λ here x. come-fails (part_of nodes f.to) f f.kind p x) n

-- a Request that failed is that of its path
failed-fails : (c : NodeIs) (kind : FrameKind) (id : CallId) (word p : ℕ)
    → Fails (failed c kind id word) p → HasFailedOn c p ⊎ (p ≡ id.path)
failed-fails c Request id word p f = some-fail c.paths id.path
    (record { awaits = Failed id.seq word; posted = (path_of c id.path).posted }) p f
failed-fails c Reply id word p f = inl f

-- whatever a sender is told, only the call that is sent fails
heard-fails : (c : NodeIs) (kind : FrameKind) (id : CallId) (there : Bool) (heard : Heard) (p : ℕ)
    → HasFailedOn (heard_by c kind id there heard) p
    → HasFailedOn c p ⊎ (p ≡ id.path)
heard-fails c kind id there Acked p f = inl f
heard-fails c kind id there Busy p f = failed-fails c kind id busy_word p f
heard-fails c kind id there Silent p f = at (nat_le 2 c.tries) f
  where
    at : (b : Bool) → HasFailedOn (cond b (sent_off c (failed c kind id (silence_word there)))
        (record c { tries = c.tries + 1 })) p
        → HasFailedOn c p ⊎ (p ≡ id.path)
    at true f' = failed-fails c kind id (silence_word there) p f'
    at false f' = inl f'

-- ---- one entry

-- a node sends the Request of this path
abbrev pub SendsOn : List Frame → ℕ → Type 0
SendsOn [] p = ⊥
SendsOn (f ∷ fs) p = p ≡ f.id.path

abbrev pub SendsPath : RingIs → RingEntry → ℕ → ℕ → Type 0
SendsPath r (Send m heard) n p = (m ≡ n) × SendsOn (ring_node r m).outbox p
SendsPath r _ n p = ⊥

-- and so behind a Send
sent-fails : (net : NetPlan) (r : RingIs) (m : ℕ) (box : List Frame) (n p : ℕ)
    → HasFailedOn (ring_node (sent_head net r m box) n) p
    → HasFailedOn (ring_node r n) p ⊎ ((m ≡ n) × SendsOn box p)
sent-fails net r m [] n p x = inl x
sent-fails net r m (f ∷ fs) n p x =
    at-set P nodes (fresh false) m _ (λ k y. inl (came k y)) own' n x
  where
    fate : Fate
    fate = fate_at net.fates r.sent

    nodes : List NodeIs
    nodes = arrived r.nodes f (arrival net r.nodes fate f)

    P : ℕ → NodeIs → Type 0
    P k c = HasFailedOn c p → HasFailedOn (ring_node r k) p ⊎ ((m ≡ k) × (p ≡ f.id.path))

    came : (k : ℕ) → HasFailedOn (part_of nodes k) p → HasFailedOn (ring_node r k) p
    came k y = arrived-fails net r.nodes f fate k p y

    there : Bool
    there = hears net r.nodes f.to (is_onward f)

    own' : P m (heard_by (part_of nodes m) f.kind f.id there
        (heard_of fate (arrival net r.nodes fate f)))
    own' y = elim (heard-fails (part_of nodes m) f.kind f.id there
        (heard_of fate (arrival net r.nodes fate f)) p y) [
          | inl before ↦ inl (came m before)
          | inr path ↦ inr (refl, path)
        ]

-- all who ask come in
handed-fails : (r : RingIs) (nodes : List NodeIs) (m n p : ℕ)
    → HasFailedOn (ring_node (handed_on r nodes m) n) p → HasFailedOn (part_of nodes n) p
handed-fails r nodes m n p x =
    subst (λ (c : NodeIs). HasFailedOn c p) (admitted-part nodes n) x

-- a node leaves
left-fails : (c : NodeIs) (cause : LeaveCause) (p : ℕ) → HasFailedOn (gone_by cause c) p
    → HasFailedOn c p
left-fails c Ended p f = f
left-fails c Spent p f = f
left-fails c (Down number) p f = f

-- a node has another status
status-fails : (r : RingIs) (m : ℕ) (status : NodeStatus) (n p : ℕ)
    → HasFailedOn (part_of (set r.nodes m (with_status (ring_node r m) status)) n) p
    → HasFailedOn (ring_node r n) p
status-fails r m status n p =
    at-set (λ k c. HasFailedOn c p → HasFailedOn (ring_node r k) p) r.nodes (fresh false) m
    (with_status (ring_node r m) status) (λ k x. x) (λ x. x) n

-- a call that has failed behind an entry had before, or is sent by it
pub after-fails : (net : NetPlan) (r : RingIs) (e : RingEntry) (n p : ℕ)
    → HasFailedOn (ring_node (after net r e) n) p
    → HasFailedOn (ring_node r n) p ⊎ SendsPath r e n p
after-fails net r (Post m f) n p =
    at-set (λ k c. HasFailedOn c p → HasFailedOn (ring_node r k) p ⊎ ⊥) r.nodes (fresh false) m _
    (λ k x. inl x)
    (λ x. inl (asked-fails (ring_node r m) f.kind f p x)) n
after-fails net r (Send m heard) n p = sent-fails net r m (ring_node r m).outbox n p
after-fails net r (Take m f) n p =
    at-set (λ k c. HasFailedOn c p → HasFailedOn (ring_node r k) p ⊎ ⊥) r.nodes (fresh false) m _
    (λ k x. inl x)
    (λ x. inl (taken-fails (ring_node r m) f.kind f.id.path p x)) n
after-fails net r (Local m id op result) n p = λ x. inl x
after-fails net r (GiveUp id word) n p =
    at-set (λ k c. HasFailedOn c p → HasFailedOn (ring_node r k) p ⊎ ⊥) r.nodes
    (fresh false) id.node _ (λ k x. inl x)
    (λ x. inl (given-fails (ring_node r id.node) id p x)) n
after-fails net r (Pass m done words) n p = λ x.
    at-set (λ k c. HasFailedOn c p → HasFailedOn (ring_node r k) p ⊎ ⊥) r.nodes (fresh false) m
    (after_pass (ring_node r m) done) (λ k y. inl y)
    (λ y. inl (aged-fails (ring_node r m).paths p y)) n
    (handed-fails r (set r.nodes m (after_pass (ring_node r m) done)) m n p x)
after-fails net r (Leave m cause) n p = λ x.
    at-set (λ k c. HasFailedOn c p → HasFailedOn (ring_node r k) p ⊎ ⊥) r.nodes (fresh false) m
    (gone_by cause (ring_node r m)) (λ k y. inl y)
    (λ y. inl (left-fails (ring_node r m) cause p y)) n
    (handed-fails r (set r.nodes m (gone_by cause (ring_node r m))) m n p x)
after-fails net r (Join m) n p =
    cond_both (is_held r) (with_node r m (with_status (ring_node r m) Asking))
    (record {
      holder = m;
      sent = r.sent;
      nodes = set r.nodes m (with_status (ring_node r m) In);
    })
    (λ (s : RingIs). HasFailedOn (ring_node s n) p → HasFailedOn (ring_node r n) p ⊎ ⊥)
    (λ held x. inl (status-fails r m Asking n p x)) (λ none x. inl (status-fails r m In n p x))

-- ---- many entries

-- an entry is no Send of a node
abbrev pub IsNoSend : ℕ → RingEntry → Type 0
IsNoSend n (Send m heard) = m ≢ n
IsNoSend n _ = Unit {0}

-- what is no Send sends nothing
no-send : (r : RingIs) (e : RingEntry) (n p : ℕ) → IsNoSend n e → SendsPath r e n p → ⊥
no-send r (Send m heard) n p none is = none is.0
no-send r (Post m f) n p none is = is
no-send r (Take m f) n p none is = is
no-send r (Local m id op result) n p none is = is
no-send r (GiveUp id word) n p none is = is
no-send r (Pass m done words) n p none is = is
no-send r (Leave m cause) n p none is = is
no-send r (Join m) n p none is = is

-- the same of a list that goes on by an entry
pub next-fails : (net : NetPlan) (past : List RingEntry) (e : RingEntry) (n p : ℕ)
    → HasFailedOn (part_at net n (past ++ e ∷ [])) p
    → HasFailedOn (part_at net n past) p ⊎ SendsPath (ring_after net past) e n p
next-fails net past e n p x =
    after-fails net (ring_after net past) e n p
    (subst (λ (r : RingIs). HasFailedOn (ring_node r n) p) (next-ring net past e) x)

-- behind entries that are no Sends of a node no more of its calls have failed
pub no-more-fail : (net : NetPlan) (past more : List RingEntry) (n p : ℕ) → Each (IsNoSend n) more
    → HasFailedOn (part_at net n (past ++ more)) p
    → HasFailedOn (part_at net n past) p
no-more-fail net past [] n p none x =
    subst (λ l. HasFailedOn (part_at net n l) p) (append-nil past) x
no-more-fail net past (e ∷ more) n p none x =
    elim (next-fails net past e n p (no-more-fail net (past ++ e ∷ []) more n p none.1
    (subst (λ l. HasFailedOn (part_at net n l) p) (sym (append_assoc past (e ∷ []) more)) x))) [
      | inl before ↦ before
      | inr sends ↦ absurd (no-send (ring_after net past) e n p none.0 sends)
    ]

-- none has failed at first
-- a node that did nothing has no failed call
fresh-fails : (b : Bool) (p : ℕ) → HasFailedOn (fresh b) p → ⊥
fresh-fails b zero x = x
fresh-fails b (suc zero) x = x
fresh-fails b (suc (suc zero)) x = x
fresh-fails b (suc (suc (suc zero))) x = x
fresh-fails b (suc (suc (suc (suc zero)))) x = x
fresh-fails b (suc (suc (suc (suc (suc p))))) x = x

members-fail : (nodes : List NodeIs) (members : List ℕ) (p : ℕ)
    → ((k : ℕ) → HasFailedOn (part_of nodes k) p → ⊥) → (n : ℕ)
    → HasFailedOn (part_of (with_members nodes members) n) p → ⊥
members-fail nodes [] p none n x = none n x
members-fail nodes (m ∷ ms) p none n x =
    members-fail (set nodes m (fresh true)) ms p
    (at-set (λ k c. HasFailedOn c p → ⊥) nodes (fresh false) m (fresh true) none
    (λ y. fresh-fails true p y)) n x

some-fresh : (many n : ℕ) → get_or (replicate many (fresh false)) n (fresh false) ≡ fresh false
some-fresh zero n = refl
some-fresh (suc many) zero = refl
some-fresh (suc many) (suc n) = some-fresh many n

pub none-at-first : (net : NetPlan) (n p : ℕ) → HasFailedOn (part_at net n []) p → ⊥
none-at-first net n p x =
    members-fail (replicate addresses (fresh false)) net.members p
    (λ k y. fresh-fails false p
    (subst (λ (c : NodeIs). HasFailedOn c p) (some-fresh addresses k) y)) n x
