-- What a host's worker sends.
use Rattle.std.proofs.Common.{◌≡◌, ◌≢◌, ◌⊎◌, ℕ, ◌+◌, ◌<◌, nat_le, Bool, true, false, cond, List, []}
use Rattle.std.proofs.Common.{length, ◌∷◌, ◌++◌, map, get_or, set, replicate, Option, Some, None}
use Rattle.std.proofs.Common.{refl, sym, ap, ◌∙◌, subst, inl, inr, ⊎_elim, arith, append_assoc}
use Rattle.std.proofs.Common.{append-nil, get_or-set_same, get_or-set_other, eq-eqb}
use Rattle.std.specs.Prelude.{filter_map, if◌then◌else◌, is_none}
use Rattle.std.specs.List.{cons_option, filter, AllByRecursion as Each}
use Rattle.std.proofs.lemmas.Bool.{cases_Bool, cases_eq}
use Rattle.std.proofs.lemmas.List.Elements.{filter_map-append}
use Rattle.plant_types.specs.declared.net.NetPlan.{NetPlan}
use Rattle.mstr_block.specs.Table.{network_paths}
use Rattle.mstr_block.specs.declared.call.CallId.{CallId}
use Rattle.ring_core.specs.Legal.{IsFrom, IsPath}
use Rattle.ring_core.specs.Machine.{is_here, awaiting, busy_word, failed, heard_by, no_path, NodeIs}
use Rattle.ring_core.specs.Machine.{passes_of, path_of, path_places, sent_off, silence_word}
use Rattle.ring_core.specs.Refusals.{or_no, other_no}
use Rattle.ring_core.specs.declared.refusal.RingNo.{RingNo}
use Rattle.ring_core.specs.declared.refusal.RingNo.TheVariants.{NotAwaited}
use Rattle.ring_core.specs.declared.frame.FrameKind.{FrameKind}
use Rattle.ring_core.specs.declared.frame.FrameKind.TheVariants.{Request, Reply}
use Rattle.ring_core.specs.declared.frame.Frame.{Frame}
use Rattle.ring_core.specs.declared.path.Path.{Path}
use Rattle.ring_core.specs.declared.path.Await.{Await}
use Rattle.ring_core.specs.declared.path.Await.TheVariants.{Nothing, Out, Arrived, Failed}
use Rattle.ring_core.specs.declared.entry.Heard.{Heard}
use Rattle.ring_core.specs.declared.entry.Heard.TheVariants.{Acked, Silent, Busy}
use Rattle.ring_core.specs.declared.entry.RingEntry.{RingEntry}
use Rattle.ring_core.specs.declared.entry.RingEntry.TheVariants.{Send}
use Rattle.host_port.specs.declared.entry.HostEntry.{HostEntry}
use Rattle.host_port.proofs.Paths.{at_path}
use Rattle.tied_lists.specs.Own.{is_of, own, Grew}
use Rattle.tied_lists.specs.Waits.{AwaitsThis, Holds, IsFree, IsOnRing, waiting}
use Rattle.tied_lists.proofs.Growth.{grew-more}
use Rattle.tied_lists.proofs.Histories.{legal-follows}
use Rattle.tied_lists.proofs.Turns.{Found, found-at, part}
use Rattle.comm_port.specs.Sides.{RingSideIs}
use Rattle.comm_port.specs.Giving.{due_calls, due_on, part_at, chosen_paths, is_chosen, outbox_of}
use Rattle.comm_port.specs.Giving.{HasFailed, NoneFailed}
use Rattle.comm_port.specs.HostTurns.{AreRecent, bad_answer_of, bad_answer_to}
use Rattle.comm_port.specs.HostTurns.{GivenUp, GivesUpDue, give_up_of, IsRecent}
use Rattle.comm_port.specs.HostTurns.{looked_at, Sends, SendsOut}
use Rattle.comm_port.specs.Parts.{EachNext}
use Rattle.comm_port.specs.SendsAll.{IsNextSending}
use Rattle.comm_port.proofs.Parts.{each-both, each-grew, each-others, one-each}
use Rattle.comm_port.proofs.Dues.{named-by}
use Rattle.comm_port.proofs.HostGives.{none-ids}
use Rattle.comm_port.proofs.HostRuns.{AreYoung, due-one, each-gone, goes_by, kept_for, left-grew}
use Rattle.comm_port.proofs.HostRuns.{LeftBy}
use Rattle.comm_port.proofs.HostRuns.{none-due, not-own, on-front, on-step, other-step, own-step}
use Rattle.comm_port.proofs.HostRuns.{still-young}
use Rattle.comm_port.proofs.Sends.{sent-one}

-- ---- entries behind one another

pub sends-both : (alone : Bool) (net : NetPlan) (n : ℕ) (on : ℕ → Bool) (l l' l'' : List HostEntry)
    (a b c : List RingEntry)
    → Sends alone net n on l l' a b → Sends alone net n on l' l'' b c
    → Sends alone net n on l l'' a c
sends-both alone net n on l l' l'' a b c x y = record {
  entries = x.entries ++ y.entries;
  grew = grew-more alone (is_of n) a b c x.entries y.entries x.grew y.grew;
  each = each-both n (IsNextSending net n on) a b c x.each y.each;
  answers = y.answers ∙ ap (λ h. h ++ filter_map bad_answer_to y.entries) x.answers
      ∙ append_assoc l (filter_map bad_answer_to x.entries) (filter_map bad_answer_to y.entries)
      ∙ ap (λ h. l ++ h) (sym (filter_map-append bad_answer_to x.entries y.entries));
}

pub sends-none : (alone : Bool) (net : NetPlan) (n : ℕ) (on : ℕ → Bool) (l : List HostEntry)
    (a b : List RingEntry)
    → Grew alone (is_of n) a [] b → Sends alone net n on l l a b
sends-none alone net n on l a b grew = record {
  entries = [];
  grew = grew;
  each = each-grew alone n (IsNextSending net n on) a b grew;
  answers = sym (append-nil l);
}

-- ---- a Send

-- what it leaves of the node's paths
pub record SentBy (net : NetPlan) (n : ℕ) (heard : Heard) (a b : List RingEntry) : Type 0 where
  pub holds : Holds net b n
  pub paths : (p : ℕ) → (path_of (part net b n) p ≡ path_of (part net a n) p)
      ⊎ ((heard ≢ Acked) × HasFailed (path_of (part net b n) p).awaits)

abbrev FailedOr : Heard → NodeIs → NodeIs → ℕ → Type 0
FailedOr heard c d p = (path_of d p ≡ path_of c p) ⊎
    ((heard ≢ Acked) × HasFailed (path_of d p).awaits)

failed-path : (c : NodeIs) (id : CallId) (word p : ℕ) → id.path < length c.paths
    → (get_or (awaiting c id.path (Failed id.seq word)) p no_path ≡ path_of c p) ⊎ HasFailed
    (get_or (awaiting c id.path (Failed id.seq word)) p no_path).awaits
failed-path c id word p range =
    let q = id.path in
    let v : Path = record { awaits = Failed id.seq word; posted = (path_of c q).posted } in
    ⊎_elim
    (λ (e : p ≡ q). inr (subst (λ (k : ℕ). HasFailed (get_or (set c.paths q v) k no_path).awaits)
    (sym e)
    (subst (λ (x : Path). HasFailed x.awaits)
    (sym (get_or-set_same c.paths q v no_path range)) tt)))
    (λ (o : p ≡ q → ⊥). inl (get_or-set_other c.paths q p v no_path o))
    (cases_eq p q)

heard-path : (c : NodeIs) (kind : FrameKind) (id : CallId) (there : Bool) (heard : Heard) (p : ℕ)
    → (kind ≡ Request → id.path < length c.paths)
    → FailedOr heard c (heard_by c kind id there heard) p
heard-path c kind id there Acked p range = inl refl
heard-path c Reply id there Busy p range = inl refl
heard-path c Request id there Busy p range = ⊎_elim (λ e. inl e) (λ k. inr ((λ e. cc), k))
    (failed-path c id busy_word p (range refl))
heard-path c Reply id there Silent p range = elim (nat_le 2 c.tries) as
    (λ (b : Bool). FailedOr Silent c (if b then sent_off c (failed c Reply id (silence_word there))
    else record c { tries = c.tries + 1 }) p) [
      | true ↦ inl refl
      | false ↦ inl refl
    ]
heard-path c Request id there Silent p range = elim (nat_le 2 c.tries) as
    (λ (b : Bool). FailedOr Silent c
    (if b then sent_off c (failed c Request id (silence_word there))
    else record c { tries = c.tries + 1 }) p) [
      | true ↦ ⊎_elim (λ e. inl e) (λ k. inr ((λ e. cc), k))
          (failed-path c id (silence_word there) p (range refl))
      | false ↦ inl refl
    ]

from-path : (n : ℕ) (f : Frame) (k : FrameKind) → IsFrom n k f → k ≡ Request → f.id.path < 5
from-path n f Request from is = let high = from.2.1 in omega (arith, high)
from-path n f Reply from is = absurd (cc)

-- one Send, among the entries of others
pub record SendStands (net : NetPlan) (n : ℕ) (on : ℕ → Bool) (heard : Heard)
    (past xs : List RingEntry) : Type 0 where
  pub each : EachNext n (IsNextSending net n on) past (past ++ xs)
  pub by : SentBy net n heard past (past ++ xs)

one-send : (net : NetPlan) (n : ℕ) (heard : Heard) (past : List RingEntry)
    → IsOnRing net (past ++ Send n heard ∷ []) n → Holds net past n
    → SentBy net n heard past (past ++ Send n heard ∷ [])
one-send net n heard past ring holds =
    let b = past ++ Send n heard ∷ [] in
    let m = own-step net n past (Send n heard) ring (inl holds) refl in
    let s = sent-one net n past heard b holds m in
    let c = part net past n in
    let follows = legal-follows net past n (on-front net n past (Send n heard ∷ []) ring) in
    let size = follows.node.part.size in
    let from : IsFrom n s.f.kind s.f = (subst
    (λ (l : List Frame). Each (λ (f : Frame). IsFrom n f.kind f) l) s.box (follows.frames n)).0
    in
    let range : s.f.kind ≡ Request → s.f.id.path < length c.paths =
    λ k. (let low = from-path n s.f s.f.kind from k in omega (arith, size, low)) in
    record {
      holds = s.holds holds;
      paths = λ p. subst (λ (d : NodeIs). FailedOr heard c d p) (sym s.part_is)
          (heard-path c s.f.kind s.f.id s.there heard p range);
    }

by-found : (net : NetPlan) (n : ℕ) (heard : Heard) (a b c : List RingEntry) → Found net n a b
    → Holds net a n → SentBy net n heard b c → SentBy net n heard a c
by-found net n heard a b c f h s = record {
  holds = s.holds;
  paths = λ p. subst (λ (x : NodeIs). FailedOr heard x (part net c n) p) f.part_is (s.paths p);
}

found-by : (net : NetPlan) (n : ℕ) (heard : Heard) (a b c : List RingEntry) → SentBy net n heard a b
    → Found net n b c → SentBy net n heard a c
found-by net n heard a b c s f = record {
  holds = f.holds s.holds;
  paths = λ p. subst (λ (x : NodeIs). FailedOr heard (part net a n) x p) (sym f.part_is)
      (s.paths p);
}

none-failed-at : (net : NetPlan) (n : ℕ) (on : ℕ → Bool) (a b : List RingEntry) → Found net n a b
    → NoneFailed on (part net a n) → NoneFailed on (part net b n)
none-failed-at net n on a b f none = subst (NoneFailed on) (sym f.part_is) none

one-own : (n : ℕ) (e x : RingEntry) (xs : List RingEntry) → own n (e ∷ xs) ≡ x ∷ []
    → is_of n e ≡ true → (e ≡ x) × (own n xs ≡ [])
one-own n e x xs is mine = both
    (sym (ap (λ (b : Bool). cond b (e ∷ own n xs) (own n xs)) mine) ∙ is)
  where
    both : e ∷ own n xs ≡ x ∷ [] → (e ≡ x) × (own n xs ≡ [])
    both k = (cc, cc)

send-stands : (net : NetPlan) (n : ℕ) (on : ℕ → Bool) (heard : Heard) (past xs : List RingEntry)
    → IsOnRing net (past ++ xs) n → Holds net past n
    → NoneFailed on (part net past n) → own n xs ≡ Send n heard ∷ []
    → SendStands net n on heard past xs
send-stands net n on heard past [] ring holds none is = absurd (cc)
send-stands net n on heard past (e ∷ xs) ring holds none is =
    let ring' = on-step net n past e xs ring in
    let next = on-front net n (past ++ e ∷ []) xs ring' in
    let joined = append_assoc past (e ∷ []) xs in
    let both = each-both n (IsNextSending net n on) past (past ++ e ∷ []) ((past ++ e ∷ []) ++ xs)
    in
    elim (cases_Bool (is_of n e)) [
      | inl mine ↦
          let k = one-own n e (Send n heard) xs is mine in
          let next' : IsOnRing net (past ++ Send n heard ∷ []) n = subst
          (λ (x : RingEntry). IsOnRing net (past ++ x ∷ []) n) k.0 next in
          let sent = subst (λ (x : RingEntry). SentBy net n heard past (past ++ x ∷ [])) (sym k.0)
          (one-send net n heard past next' holds) in
          let rest = found-at net n (past ++ e ∷ []) xs ring'.legal k.1 (inl sent.holds) in
          record {
            each = subst (EachNext n (IsNextSending net n on) past) joined
                (both (one-each n (IsNextSending net n on) past e
                (subst (IsNextSending net n on past) (sym k.0) none))
                (each-others n (IsNextSending net n on) (past ++ e ∷ []) xs k.1));
            by = subst (SentBy net n heard past) joined
                (found-by net n heard past (past ++ e ∷ []) ((past ++ e ∷ []) ++ xs) sent rest);
          }
      | inr other ↦
          let f = other-step net n past e next (inl holds) other in
          let rest = send-stands net n on heard (past ++ e ∷ []) xs ring' (f.holds holds)
          (none-failed-at net n on past (past ++ e ∷ []) f none)
          (not-own n e xs (Send n heard ∷ []) is other) in
          record {
            each = subst (EachNext n (IsNextSending net n on) past) joined
                (both (each-others n (IsNextSending net n on) past (e ∷ [])
                (ap (λ (b : Bool). cond b (e ∷ []) []) other)) rest.each);
            by = subst (SentBy net n heard past) joined
                (by-found net n heard past (past ++ e ∷ []) ((past ++ e ∷ []) ++ xs) f holds
                rest.by);
          }
    ]

send-grew : (alone : Bool) (net : NetPlan) (n : ℕ) (on : ℕ → Bool) (heard : Heard)
    (a b : List RingEntry) → IsOnRing net b n → Holds net a n
    → NoneFailed on (part net a n) → Grew alone (is_of n) a (Send n heard ∷ []) b
    → EachNext n (IsNextSending net n on) a b × SentBy net n heard a b
send-grew alone net n on heard a b ring holds none g =
    let s = send-stands net n on heard a g.more
    (subst (λ (l : List RingEntry). IsOnRing net l n) g.after_is ring) holds none g.ours_are in (
      subst (EachNext n (IsNextSending net n on) a) (sym g.after_is) s.each,
      subst (SentBy net n heard a) (sym g.after_is) s.by,
    )

-- ---- a Send, and the calls that failed by it

new-none : (a : Await) → IsRecent a → HasFailed a → ⊥
new-none Nothing new is = is
new-none (Out s to onward passes) new is = is
new-none (Arrived s) new is = is
new-none (Failed s word) new is = new

waits-failed : (a : Await) (w : Option Frame) → HasFailed a → AwaitsThis a w
    → (f : Frame) × (w ≡ Some f)
waits-failed Nothing w failed this = absurd failed
waits-failed (Out s to onward passes) w failed this = absurd failed
waits-failed (Arrived s) w failed this = absurd failed
waits-failed (Failed s word) None failed this = absurd this
waits-failed (Failed s word) (Some f) failed this = (f, refl)

-- what failed is a path
failed-path-is : (net : NetPlan) (ring : List RingEntry) (n p : ℕ) → IsOnRing net ring n
    → HasFailed (path_of (part net ring n) p).awaits → IsPath p
failed-path-is net ring n p on failed =
    let follows = (legal-follows net ring n on).node.part in
    let w = waits-failed (path_of (part net ring n) p).awaits (waiting p (own n ring)) failed
    (follows.paths p) in
    (follows.asks p w.0 w.1).is_path

none-of-new : (net : NetPlan) (ring : List RingEntry) (n : ℕ) (on : ℕ → Bool)
    → IsOnRing net ring n → AreRecent on (part net ring n) → NoneFailed on (part net ring n)
none-of-new net ring n on here new p chosen' is = new-none (path_of (part net ring n) p).awaits
    (new p (failed-path-is net ring n p here is) chosen') is

new-passes : (a : Await) → IsRecent a → passes_of a ≡ 0
new-passes Nothing new = refl
new-passes (Out s to onward passes) new = new
new-passes (Arrived s) new = refl
new-passes (Failed s word) new = absurd new

failed-passes : (a : Await) → HasFailed a → passes_of a ≡ 0
failed-passes Nothing is = refl
failed-passes (Out s to onward passes) is = absurd is
failed-passes (Arrived s) is = refl
failed-passes (Failed s word) is = refl

is-new : (a : Await) → passes_of a ≡ 0 → (HasFailed a → ⊥) → IsRecent a
is-new Nothing passes not = tt
is-new (Out s to onward p) passes not = passes
is-new (Arrived s) passes not = tt
is-new (Failed s word) passes not = absurd (not tt)

young-sent : (net : NetPlan) (n : ℕ) (on : ℕ → Bool) (heard : Heard) (a b : List RingEntry)
    → AreRecent on (part net a n) → SentBy net n heard a b
    → AreYoung on (part net b n)
young-sent net n on heard a b new s p is_path chosen' = ⊎_elim
    (λ (e : path_of (part net b n) p ≡ path_of (part net a n) p). ap
    (λ (x : Path). passes_of x.awaits) e ∙ new-passes (path_of (part net a n) p).awaits
    (new p is_path chosen'))
    (λ (k : (heard ≢ Acked) × HasFailed (path_of (part net b n) p).awaits). failed-passes
    (path_of (part net b n) p).awaits k.1)
    (s.paths p)

-- a failed call goes, so none is left where none goes
other-same : (seq : ℕ) → other_no seq seq ≡ None
other-same seq = ap (λ (b : Bool). if b then None else Some (NotAwaited seq)) (eq-eqb seq seq refl)

failed-kept : (answer : ℕ) (here : Bool) (seq word : ℕ)
    → kept_for answer here (Failed seq word) seq ≡ None
failed-kept answer true seq word = ap (λ (o : Option RingNo). or_no o None) (other-same seq)
failed-kept answer false seq word = ap (λ (o : Option RingNo). or_no o None) (other-same seq)

failed-goes : (answer : ℕ) (here : Bool) (n p : ℕ) (a : Await) → HasFailed a
    → goes_by answer here n p a ≡ [] → ⊥
failed-goes answer here n p Nothing is none = is
failed-goes answer here n p (Out s to onward passes) is none = is
failed-goes answer here n p (Arrived s) is none = is
failed-goes answer here n p (Failed s word) is none =
    let id : CallId = record { node = n; path = p; seq = s } in
    let wrong : id ∷ [] ≡ [] = sym (ap (λ (o : Option RingNo). cond (is_none o) (id ∷ []) [])
    (failed-kept answer here s word)) ∙ none in
    cc

-- where no call may be given up, none has failed
pub none-failed-due : (net : NetPlan) (n : ℕ) (ring : List RingEntry) → IsOnRing net ring n
    → due_calls net n ring network_paths ≡ [] → (p : ℕ)
    → HasFailed (path_of (part net ring n) p).awaits → ⊥
none-failed-due net n ring on none p failed =
    let each = none-due net ring n network_paths none in
    failed-goes net.answer (is_here (part net ring n)) n p (path_of (part net ring n) p).awaits
    failed
    (sym (due-one net ring n p)
    ∙ at_path (λ (q : ℕ). due_calls net n ring (q ∷ []) ≡ []) p
    (failed-path-is net ring n p on failed) each.0 each.1.0 each.1.1.0 each.1.1.1.0)

filter-each : {A : Type 0} (P : A → Type 0) (test : A → Bool) (xs : List A)
    → Each P (filter test xs) → Each (λ x. test x ≡ true → P x) xs
filter-each P test [] each = tt
filter-each P test (x ∷ xs) each = elim (cases_Bool (test x)) [
  | inl hit ↦
      let e : Each P (x ∷ filter test xs) = subst (λ (l : List _). Each P l)
      (ap (λ (b : Bool). cond b (x ∷ filter test xs) (filter test xs)) hit) each in
      (λ k. e.0, filter-each P test xs e.1)
  | inr miss ↦
      let e : Each P (filter test xs) = subst (λ (l : List _). Each P l)
      (ap (λ (b : Bool). cond b (x ∷ filter test xs) (filter test xs)) miss) each in
      (λ k. absurd (let wrong : true ≡ false = sym k ∙ miss in cc), filter-each P test xs e)
]

pub none-at : (net : NetPlan) (ring : List RingEntry) (n : ℕ) (which : List Bool)
    → due_calls net n ring (chosen_paths which) ≡ [] → (p : ℕ) → IsPath p
    → is_chosen which p ≡ true → due_calls net n ring (p ∷ []) ≡ []
none-at net ring n which none p is_path =
    let each = filter-each (λ (q : ℕ). due_calls net n ring (q ∷ []) ≡ []) (is_chosen which)
    network_paths (none-due net ring n (chosen_paths which) none) in
    at_path (λ (q : ℕ). is_chosen which q ≡ true → due_calls net n ring (q ∷ []) ≡ []) p is_path
    each.0 each.1.0 each.1.1.0 each.1.1.1.0

-- the calls that went are on the paths chosen
on-chosen : (net : NetPlan) (ring : List RingEntry) (n : ℕ) (test : ℕ → Bool) (ps : List ℕ)
    → Each (λ p. test p ≡ true) ps
    → Each (λ (id : CallId). test id.path ≡ true) (due_calls net n ring ps)
on-chosen net ring n test [] each = tt
on-chosen net ring n test (p ∷ ps) each = by (due_on net n (part_at net n ring) p) refl
    (on-chosen net ring n test ps each.1)
  where
    rest : List CallId
    rest = due_calls net n ring ps

    by : (o : Option CallId) → due_on net n (part_at net n ring) p ≡ o
        → Each (λ (id : CallId). test id.path ≡ true) rest
        → Each (λ (id : CallId). test id.path ≡ true) (cons_option o rest)
    by None is all = all
    by (Some id) is all = (ap test (named-by net n p (part_at net n ring) id is).path ∙ each.0, all)

chosen-pass : (test : ℕ → Bool) (ps : List ℕ) → Each (λ p. test p ≡ true) (filter test ps)
chosen-pass test [] = tt
chosen-pass test (p ∷ ps) = elim (cases_Bool (test p)) [
  | inl hit ↦ subst (λ (l : List ℕ). Each (λ q. test q ≡ true) l)
      (sym (ap (λ (b : Bool). cond b (p ∷ filter test ps) (filter test ps)) hit))
      (hit, chosen-pass test ps)
  | inr miss ↦ subst (λ (l : List ℕ). Each (λ q. test q ≡ true) l)
      (sym (ap (λ (b : Bool). cond b (p ∷ filter test ps) (filter test ps)) miss))
      (chosen-pass test ps)
]

each-ids : (P : CallId → Type 0) (ends : List GivenUp) → Each P (map (λ (g : GivenUp). g.id) ends)
    → Each (λ (g : GivenUp). P g.id) ends
each-ids P [] each = tt
each-ids P (g ∷ ends) each = (each.0, each-ids P ends each.1)

answers-given : (ends : List GivenUp)
    → filter_map bad_answer_to (map give_up_of ends) ≡ map bad_answer_of ends
answers-given [] = refl
answers-given (g ∷ ends) = ap (λ l. bad_answer_of g ∷ l) (answers-given ends)

-- what one step of sending comes to
pub record SentStep (alone : Bool) (net : NetPlan) (n : ℕ) (on : ℕ → Bool) (l l' : List HostEntry)
    (a c : List RingEntry) : Type 0 where
  pub sends : Sends alone net n on l l' a c
  pub new_calls : AreRecent on (part net c n)

sent-all-acked : (net : NetPlan) (n : ℕ) (on : ℕ → Bool) (a b : List RingEntry)
    → AreRecent on (part net a n) → SentBy net n Acked a b → AreRecent on (part net b n)
sent-all-acked net n on a b new s p is_path chosen' = ⊎_elim
    (λ (e : path_of (part net b n) p ≡ path_of (part net a n) p). subst
    (λ (x : Path). IsRecent x.awaits) (sym e) (new p is_path chosen'))
    (λ (k : (Acked ≢ Acked) × HasFailed (path_of (part net b n) p).awaits). absurd (k.0 refl))
    (s.paths p)

new-left : (net : NetPlan) (n : ℕ) (ends : List GivenUp) (on : ℕ → Bool) (b c : List RingEntry)
    → AreRecent on (part net b n) → LeftBy net n ends b c
    → AreRecent on (part net c n)
new-left net n ends on b c new l p is_path chosen' = ⊎_elim
    (λ (e : path_of (part net c n) p ≡ path_of (part net b n) p). subst
    (λ (x : Path). IsRecent x.awaits) (sym e) (new p is_path chosen'))
    (λ (e : (path_of (part net c n) p).awaits ≡ Nothing). subst IsRecent (sym e) tt) (l.paths p)

step-sends : (alone : Bool) (net : NetPlan) (n : ℕ) (on : ℕ → Bool) (heard : Heard)
    (which : List Bool) (l l' : List HostEntry) (a b c : List RingEntry)
    → Grew alone (is_of n) a (Send n heard ∷ []) b → EachNext n (IsNextSending net n on) a b
    → SentBy net n heard a b → AreYoung on (part net b n)
    → IsOnRing net c n → (x : GivesUpDue alone net n (chosen_paths which) l l' b c)
    → Each (λ (e : GivenUp). on e.id.path ≡ true) x.ends → 0 < net.answer
    → Sends alone net n on l l' a c
step-sends alone net n on heard which l l' a b c g each s young ring x all wait =
    let ring' = subst (λ (k : List RingEntry). IsOnRing net k n) x.grew.after_is ring in
    let gone' = each-gone net n on b x.grew.more x.ends ring' s.holds x.grew.ours_are young all wait
    in
    record {
      entries = Send n heard ∷ map give_up_of x.ends;
      grew = grew-more alone (is_of n) a b c (Send n heard ∷ []) (map give_up_of x.ends) g x.grew;
      each = each-both n (IsNextSending net n on) a b c each
          (subst (EachNext n (IsNextSending net n on) b) (sym x.grew.after_is) gone');
      answers = x.answers ∙ ap (λ h. l ++ h) (sym (answers-given x.ends));
    }

step-acked : (alone : Bool) (net : NetPlan) (n : ℕ) (fresh : List Bool) (l l' : List HostEntry)
    (a b c : List RingEntry)
    → 0 < net.answer → IsOnRing net c n → Grew alone (is_of n) a (Send n Acked ∷ []) b
    → EachNext n (IsNextSending net n (is_chosen fresh)) a b → SentBy net n Acked a b
    → AreRecent (is_chosen fresh) (part net a n)
    → GivesUpDue alone net n (chosen_paths (replicate path_places false)) l l' b c
    → SentStep alone net n (is_chosen fresh) l l' a c
step-acked alone net n fresh l l' a b c wait ring g each s new x =
    let none : x.ends ≡ [] = none-ids x.ends x.calls in
    let young = young-sent net n (is_chosen fresh) Acked a b new s in
    let left = left-grew alone net n x.ends b c ring (inl s.holds) x.grew in
    record {
      sends = step-sends alone net n (is_chosen fresh) Acked (replicate path_places false) l l' a b
          c g each s young ring x
          (subst (λ (k : List GivenUp). Each (λ (e : GivenUp). is_chosen fresh e.id.path ≡ true) k)
          (sym none) tt) wait;
      new_calls = new-left net n x.ends (is_chosen fresh) b c
          (sent-all-acked net n (is_chosen fresh) a b new s) left;
    }

step-failed : (alone : Bool) (net : NetPlan) (n : ℕ) (heard : Heard) (fresh : List Bool)
    (l l' : List HostEntry) (a b c : List RingEntry)
    → 0 < net.answer → IsOnRing net c n → Grew alone (is_of n) a (Send n heard ∷ []) b
    → EachNext n (IsNextSending net n (is_chosen fresh)) a b → SentBy net n heard a b
    → AreRecent (is_chosen fresh) (part net a n)
    → GivesUpDue alone net n (chosen_paths fresh) l l' b c
    → SentStep alone net n (is_chosen fresh) l l' a c
step-failed alone net n heard fresh l l' a b c wait ring g each s new x =
    let on = is_chosen fresh in
    let young = young-sent net n on heard a b new s in
    let left = left-grew alone net n x.ends b c ring (inl s.holds) x.grew in
    let young' = still-young net n x.ends on b c left young in
    let all = each-ids (λ (id : CallId). on id.path ≡ true) x.ends
    (subst (λ (k : List CallId). Each (λ (id : CallId). on id.path ≡ true) k) (sym x.calls)
    (on-chosen net b n on (filter on network_paths) (chosen-pass on network_paths))) in
    record {
      sends = step-sends alone net n on heard fresh l l' a b c g each s young ring x all wait;
      new_calls = λ p is_path chosen'. is-new (path_of (part net c n) p).awaits
          (young' p is_path chosen')
          (λ is. failed-goes net.answer (is_here (part net c n)) n p
          (path_of (part net c n) p).awaits is
          (sym (due-one net c n p) ∙ none-at net c n fresh x.none_left p is_path chosen'));
    }

pub sent-step : (alone : Bool) (net : NetPlan) (n : ℕ) (heard : Heard) (fresh which : List Bool)
    (l l' : List HostEntry) (a b c : List RingEntry)
    → 0 < net.answer → IsOnRing net b n → IsOnRing net c n → Holds net a n
    → AreRecent (is_chosen fresh) (part net a n) → Grew alone (is_of n) a (Send n heard ∷ []) b
    → which ≡ looked_at heard fresh → GivesUpDue alone net n (chosen_paths which) l l' b c
    → SentStep alone net n (is_chosen fresh) l l' a c
sent-step alone net n heard fresh which l l' a b c wait ring ring' holds new g look x =
    let first = on-front net n a g.more
    (subst (λ (l : List RingEntry). IsOnRing net l n) g.after_is ring) in
    let s = send-grew alone net n (is_chosen fresh) heard a b ring holds
    (none-of-new net a n (is_chosen fresh) first new) g in
    by-heard heard g s (subst (λ (w : List Bool). GivesUpDue alone net n (chosen_paths w) l l' b c)
    look x)
  where
    by-heard : (heard : Heard) → Grew alone (is_of n) a (Send n heard ∷ []) b
        → EachNext n (IsNextSending net n (is_chosen fresh)) a b × SentBy net n heard a b
        → GivesUpDue alone net n (chosen_paths (looked_at heard fresh)) l l' b c
        → SentStep alone net n (is_chosen fresh) l l' a c
    by-heard Acked g s x = step-acked alone net n fresh l l' a b c wait ring' g s.0 s.1 new x
    by-heard Silent g s x =
        step-failed alone net n Silent fresh l l' a b c wait ring' g s.0 s.1 new x
    by-heard Busy g s x = step-failed alone net n Busy fresh l l' a b c wait ring' g s.0 s.1 new x

-- nothing was added
pub new-still : (alone : Bool) (net : NetPlan) (n : ℕ) (on : ℕ → Bool) (a b : List RingEntry)
    → IsOnRing net b n → IsFree net a n
    → Grew alone (is_of n) a [] b → AreRecent on (part net a n) → AreRecent on (part net b n)
new-still alone net n on a b ring free grew new = new-left net n [] on a b new
    (left-grew alone net n [] a b ring free grew)

pub new-at : {Q : Type 0} (n : ℕ) (on : ℕ → Bool) (ring : List RingEntry)
    (side side' : RingSideIs Q) → side' ≡ side → AreRecent on (part side.net ring n)
    → AreRecent on (part side'.net ring n)
new-at {Q} n on ring side side' same new = subst
    (λ (s : RingSideIs Q). AreRecent on (part s.net ring n)) (sym same) new

pub sends-at : {Q : Type 0} (alone : Bool) (n : ℕ) (on : ℕ → Bool) (l l' : List HostEntry)
    (a b : List RingEntry) (side side' : RingSideIs Q)
    → side' ≡ side → Sends alone side.net n on l l' a b → Sends alone side'.net n on l l' a b
sends-at {Q} alone n on l l' a b side side' same x = subst
    (λ (s : RingSideIs Q). Sends alone s.net n on l l' a b) (sym same) x

pub sends-out-at : {Q : Type 0} (alone : Bool) (n : ℕ) (on : ℕ → Bool) (l l' : List HostEntry)
    (a b : List RingEntry) (side side' : RingSideIs Q)
    → side' ≡ side → SendsOut alone side.net n on l l' a b → SendsOut alone side'.net n on l l' a b
sends-out-at {Q} alone n on l l' a b side side' same x = subst
    (λ (s : RingSideIs Q). SendsOut alone s.net n on l l' a b) (sym same) x

pub sent-out : (alone : Bool) (net : NetPlan) (n : ℕ) (on : ℕ → Bool) (l l' : List HostEntry)
    (a b : List RingEntry) → IsOnRing net b n → Sends alone net n on l l' a b
    → outbox_of net n b ≡ [] → AreRecent on (part net b n) → SendsOut alone net n on l l' a b
sent-out alone net n on l l' a b ring sends empty new = record {
  frames = record {
    done = sends.entries;
    grew = sends.grew;
    each = sends.each;
    all_sent = empty;
    none_failed = none-of-new net b n on ring new;
  };
  answers = sends.answers;
}
