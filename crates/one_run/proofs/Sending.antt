-- A node sends in one way: at most one of its calls has failed, and is given up at once.
use Rattle.std.proofs.Common.{◌≡◌, ℕ, ◌==◌, Option, Bool, true, List, [], ◌∷◌, ◌++◌, Some}
use Rattle.std.proofs.Common.{None, inl, inr, refl, sym, ap, subst, ◌∙◌, append_assoc, append-nil}
use Rattle.std.specs.List.{AllByRecursion as Each}
use Rattle.std.proofs.lemmas.Bool.{cond_both, eqb-true}
use Rattle.plant_types.specs.declared.net.NetPlan.{NetPlan}
use Rattle.mstr_block.specs.declared.call.CallId.{CallId}
use Rattle.ring_core.specs.declared.frame.Frame.{Frame}
use Rattle.ring_core.specs.declared.path.Await.{Await}
use Rattle.ring_core.specs.declared.path.Await.TheVariants.{Nothing, Out, Arrived, Failed}
use Rattle.ring_core.specs.declared.entry.Heard.{Heard}
use Rattle.ring_core.specs.declared.entry.RingEntry.{RingEntry}
use Rattle.ring_core.specs.declared.entry.RingEntry.TheVariants.{Post, Send, Take, Local, GiveUp}
use Rattle.ring_core.specs.declared.entry.RingEntry.TheVariants.{Pass, Leave, Join}
use Rattle.ring_core.specs.declared.refusal.RingNo.{RingNo}
use Rattle.ring_core.specs.declared.refusal.RingNo.TheVariants.{NotAwaited}
use Rattle.ring_core.specs.Legal.{IsHeard, IsLegalRing, IsPath, IsRingStep}
use Rattle.ring_core.specs.Machine.{NodeIs, RingIs, awaited_number, path_of, ring_node, ring_after}
use Rattle.ring_core.specs.Refusals.{or_no, other_no, awaited_no, word_of}
use Rattle.comm_port.specs.Giving.{part_at, NoneFailed}
use Rattle.comm_port.specs.SendsAll.{IsNextSending, SendsFrames}
use Rattle.tied_lists.specs.Own.{is_of}
use Rattle.one_run.proofs.Dues.{ring-step}
use Rattle.one_run.proofs.Fails.{HasFailedOn, SendsOn, SendsPath, next-fails}
use Rattle.one_run.proofs.Meets.{IsMine, grew-is, grew-ours}
use Rattle.serial_run.proofs.TurnLaws.{cancel}

-- why a call is not refused
first-none : (a b : Option RingNo) → or_no a b ≡ None → a ≡ None
first-none None b e = refl
first-none (Some x) b e = absurd (let no' : Some x ≡ None = e in cc)

second-none : (a b : Option RingNo) → or_no a b ≡ None → b ≡ None
second-none None b e = e
second-none (Some x) b e = absurd (let no' : Some x ≡ None = e in cc)

other-none : (out seq : ℕ) → other_no out seq ≡ None → out ≡ seq
other-none out seq e =
    cond_both (out == seq) None (Some (NotAwaited out)) (λ x. x ≡ None → out ≡ seq)
    (λ y _. eqb-true out seq y)
    (λ _ x. absurd (let no' : Some (NotAwaited out) ≡ None = x in cc)) e

-- what is told of a frame is one thing
heard-same : (net : NetPlan) (r : RingIs) (box : List Frame) (one two : Heard)
    → IsHeard net r box one → IsHeard net r box two → one ≡ two
heard-same net r [] one two a b = absurd a
heard-same net r (f ∷ fs) one two a b = a ∙ sym b

-- a call that may be given up is the one that its path awaits
awaited-none : (a : Await) (seq : ℕ) → awaited_no a seq ≡ None → awaited_number a ≡ seq
awaited-none Nothing seq e = absurd (let no' : Some (NotAwaited 0) ≡ None = e in cc)
awaited-none (Out out to onward passes) seq e = other-none out seq e
awaited-none (Arrived out) seq e = other-none out seq e
awaited-none (Failed out word) seq e = other-none out seq e

-- ---- what a node does while it sends, on these paths

-- at most one call of these paths has failed
abbrev pub OneFailed : (ℕ → Bool) → NodeIs → Type 0
OneFailed on c = (p q : ℕ) → IsPath p → IsPath q → on p ≡ true → on q ≡ true → HasFailedOn c p
    → HasFailedOn c q → p ≡ q

-- each of these is what comes next behind those before it
abbrev SendsSo : NetPlan → ℕ → (ℕ → Bool) → List RingEntry → List RingEntry → Type 0
SendsSo net n on past [] = Unit {0}
SendsSo net n on past (e ∷ more) =
    IsNextSending net n on past e × SendsSo net n on (past ++ e ∷ []) more

-- nothing is left to be sent or given up
record HasSent (net : NetPlan) (n : ℕ) (on : ℕ → Bool) (ring : List RingEntry) : Type 0 where
  empty : (part_at net n ring).outbox ≡ []
  none : NoneFailed on (part_at net n ring)

module _ (net : NetPlan) (n : ℕ) (on : ℕ → Bool) where
  abbrev r : List RingEntry → RingIs
  r past = ring_after net past

  abbrev c : List RingEntry → NodeIs
  c past = part_at net n past

  -- ---- one entry

  -- a Send after a list is one thing
  sent-same : (past : List RingEntry) (m m' : ℕ) (h h' : Heard) → m ≡ n → m' ≡ n
      → IsRingStep net past (Send m h) → IsRingStep net past (Send m' h')
      → Send m h ≡ Send m' h'
  sent-same past m m' h h' is is' s s' =
      let told = subst (λ k. IsHeard net (r past) (ring_node (r past) k).outbox h) is s.1.1 in
      let told' = subst (λ k. IsHeard net (r past) (ring_node (r past) k).outbox h') is' s'.1.1 in
      let same = heard-same net (r past) (c past).outbox h h' told told' in
      let node = is ∙ sym is' in
      λ i. Send (node i) (same i)

  -- the number of a call that is given up
  number-of : (past : List RingEntry) (id : CallId) (word : ℕ)
      → IsRingStep net past (GiveUp id word)
      → awaited_number (path_of (ring_node (r past) id.node) id.path).awaits ≡ id.seq
  number-of past id word s = awaited-none (path_of (ring_node (r past) id.node) id.path).awaits
      id.seq (first-none _ _ (second-none _ _ s.1.0))

  -- a call of a path that is given up is one thing
  given-same : (past : List RingEntry) (id id' : CallId) (word word' : ℕ) → id.node ≡ id'.node
      → id.path ≡ id'.path
      → IsRingStep net past (GiveUp id word) → IsRingStep net past (GiveUp id' word')
      → GiveUp id word ≡ GiveUp id' word'
  given-same past id id' word word' node path s s' =
      let seq : id.seq ≡ id'.seq = sym (number-of past id word s)
      ∙ (λ i. awaited_number (path_of (ring_node (r past) (node i)) (path i)).awaits)
      ∙ number-of past id' word' s' in
      let same : id ≡ id' = λ i. record { node = node i; path = path i; seq = seq i } in
      let told : word ≡ word' = s.1.1 ∙ ap (word_of net (r past)) same ∙ sym s'.1.1 in
      λ i. GiveUp (same i) (told i)

  -- the next entry is one thing
  next-same : (past : List RingEntry) (e e' : RingEntry) → IsMine n e → IsMine n e'
      → IsRingStep net past e → IsRingStep net past e'
      → OneFailed on (c past) → IsNextSending net n on past e
      → IsNextSending net n on past e' → e ≡ e'
  next-same past (Send m h) (Send m' h') mine mine' s s' one a b = sent-same past m m' h h'
      (eqb-true m n mine) (eqb-true m' n mine') s s'
  next-same past (GiveUp id word) (GiveUp id' word') mine mine' s s' one a b =
      given-same past id id' word word' (eqb-true id.node n mine ∙ sym (eqb-true id'.node n mine'))
      (one id.path id'.path s.0.1 s'.0.1 a.0 b.0 a.1 b.1) s s'
  next-same past (Send m h) (GiveUp id' word') mine mine' s s' one a b = absurd (a id'.path b.0 b.1)
  next-same past (GiveUp id word) (Send m' h') mine mine' s s' one a b = absurd (b id.path a.0 a.1)
  next-same past (Post m f) e' mine mine' s s' one a b = absurd a
  next-same past (Take m f) e' mine mine' s s' one a b = absurd a
  next-same past (Local m id op result) e' mine mine' s s' one a b = absurd a
  next-same past (Pass m done words) e' mine mine' s s' one a b = absurd a
  next-same past (Leave m cause) e' mine mine' s s' one a b = absurd a
  next-same past (Join m) e' mine mine' s s' one a b = absurd a
  next-same past (Send m h) (Post m' f) mine mine' s s' one a b = absurd b
  next-same past (Send m h) (Take m' f) mine mine' s s' one a b = absurd b
  next-same past (Send m h) (Local m' id op result) mine mine' s s' one a b = absurd b
  next-same past (Send m h) (Pass m' done words) mine mine' s s' one a b = absurd b
  next-same past (Send m h) (Leave m' cause) mine mine' s s' one a b = absurd b
  next-same past (Send m h) (Join m') mine mine' s s' one a b = absurd b
  next-same past (GiveUp id word) (Post m' f) mine mine' s s' one a b = absurd b
  next-same past (GiveUp id word) (Take m' f) mine mine' s s' one a b = absurd b
  next-same past (GiveUp id word) (Local m' id' op result) mine mine' s s' one a b = absurd b
  next-same past (GiveUp id word) (Pass m' done words) mine mine' s s' one a b = absurd b
  next-same past (GiveUp id word) (Leave m' cause) mine mine' s s' one a b = absurd b
  next-same past (GiveUp id word) (Join m') mine mine' s s' one a b = absurd b

  -- ---- at most one call has failed behind it

  -- a node sends only where no call has failed
  sent-none : (past : List RingEntry) (e : RingEntry) (p : ℕ) → IsNextSending net n on past e
      → SendsPath (r past) e n p → NoneFailed on (c past)
  sent-none past (Send m h) p a s = a
  sent-none past (Post m f) p a s = absurd s
  sent-none past (Take m f) p a s = absurd s
  sent-none past (Local m id op result) p a s = absurd s
  sent-none past (GiveUp id word) p a s = absurd s
  sent-none past (Pass m done words) p a s = absurd s
  sent-none past (Leave m cause) p a s = absurd s
  sent-none past (Join m) p a s = absurd s

  -- it sends one frame
  box-one : (box : List Frame) (p q : ℕ) → SendsOn box p → SendsOn box q → p ≡ q
  box-one [] p q a b = absurd a
  box-one (f ∷ fs) p q a b = a ∙ sym b

  sends-one : (past : List RingEntry) (e : RingEntry) (p q : ℕ) → SendsPath (r past) e n p
      → SendsPath (r past) e n q → p ≡ q
  sends-one past (Send m h) p q a b = box-one (ring_node (r past) m).outbox p q a.1 b.1
  sends-one past (Post m f) p q a b = absurd a
  sends-one past (Take m f) p q a b = absurd a
  sends-one past (Local m id op result) p q a b = absurd a
  sends-one past (GiveUp id word) p q a b = absurd a
  sends-one past (Pass m done words) p q a b = absurd a
  sends-one past (Leave m cause) p q a b = absurd a
  sends-one past (Join m) p q a b = absurd a

  -- so that at most one has failed behind each entry
  one-behind : (past : List RingEntry) (e : RingEntry) → OneFailed on (c past)
      → IsNextSending net n on past e → OneFailed on (c (past ++ e ∷ []))
  one-behind past e one a p q path path' here here' f f' =
      elim (next-fails net past e n p f) [
        | inl old ↦ elim (next-fails net past e n q f') [
          | inl old' ↦ one p q path path' here here' old old'
          | inr sends ↦ absurd (sent-none past e q a sends p here old)
        ]
        | inr sends ↦ elim (next-fails net past e n q f') [
          | inl old' ↦ absurd (sent-none past e p a sends q here' old')
          | inr sends' ↦ sends-one past e p q sends sends'
        ]
      ]

  -- ---- where it stops

  -- nothing comes where all was sent and no call has failed
  no-more : (past : List RingEntry) (e : RingEntry) → HasSent net n on past → IsMine n e
      → IsRingStep net past e → IsNextSending net n on past e → ⊥
  no-more past (Send m h) at-end mine s a =
      subst (λ box. IsHeard net (r past) box h) at-end.empty
      (subst (λ k. IsHeard net (r past) (ring_node (r past) k).outbox h) (eqb-true m n mine) s.1.1)
  no-more past (GiveUp id word) at-end mine s a = at-end.none id.path a.0 a.1
  no-more past (Post m f) at-end mine s a = a
  no-more past (Take m f) at-end mine s a = a
  no-more past (Local m id op result) at-end mine s a = a
  no-more past (Pass m done words) at-end mine s a = a
  no-more past (Leave m cause) at-end mine s a = a
  no-more past (Join m) at-end mine s a = a

  -- so what a node sends and gives up is one list
  sends-same : (past es es' : List RingEntry) → Each (IsMine n) es → Each (IsMine n) es'
      → IsLegalRing net (past ++ es) → IsLegalRing net (past ++ es')
      → OneFailed on (c past) → SendsSo net n on past es → SendsSo net n on past es'
      → HasSent net n on (past ++ es) → HasSent net n on (past ++ es') → es ≡ es'
  sends-same past [] [] mine mine' legal legal' one a b at-end at-end' = refl
  sends-same past [] (e ∷ es) mine mine' legal legal' one a b at-end at-end' =
      absurd (no-more past e (subst (HasSent net n on) (append-nil past) at-end) mine'.0
      (ring-step net past e es legal') b.0)
  sends-same past (e ∷ es) [] mine mine' legal legal' one a b at-end at-end' =
      absurd (no-more past e (subst (HasSent net n on) (append-nil past) at-end') mine.0
      (ring-step net past e es legal) a.0)
  sends-same past (e ∷ es) (e' ∷ es') mine mine' legal legal' one a b at-end at-end' =
      let head = next-same past e e' mine.0 mine'.0 (ring-step net past e es legal)
      (ring-step net past e' es' legal') one a.0 b.0 in
      let join : past ++ (e ∷ es) ≡ (past ++ e ∷ []) ++ es = sym (append_assoc past (e ∷ []) es) in
      let join' : past ++ (e' ∷ es') ≡ (past ++ e ∷ []) ++ es' = (λ i. past ++ (sym head i ∷ es'))
      ∙ sym (append_assoc past (e ∷ []) es') in
      let tail = sends-same (past ++ e ∷ []) es es' mine.1 mine'.1
      (subst (IsLegalRing net) join legal) (subst (IsLegalRing net) join' legal')
      (one-behind past e one a.0) a.1
      (subst (λ x. SendsSo net n on (past ++ x ∷ []) es') (sym head) b.1)
      (subst (HasSent net n on) join at-end) (subst (HasSent net n on) join' at-end') in
      λ i. head i ∷ tail i

  as-sends : (ring front rest : List RingEntry)
      → ((before after : List RingEntry) (e : RingEntry) → front ++ rest ≡ before ++ e ∷ after
      → is_of n e ≡ true → IsNextSending net n on (ring ++ before) e)
      → Each (IsMine n) rest → SendsSo net n on (ring ++ front) rest
  as-sends ring front [] each mine = tt
  as-sends ring front (e ∷ rest) each mine = (
    each front rest e refl mine.0,
    subst (λ l. SendsSo net n on l rest) (sym (append_assoc ring front (e ∷ [])))
        (as-sends ring (front ++ e ∷ []) rest
        (λ before after x is. each before after x (sym (append_assoc front (e ∷ []) rest) ∙ is))
        mine.1),
  )

  so : (x y : List RingEntry) (s : SendsFrames true net n on x y) → SendsSo net n on x s.done
  so x y s =
      let more : s.each.more ≡ s.done =
      cancel x s.each.more s.done (sym s.each.after_is ∙ grew-is (is_of n) x s.done y s.grew) in
      subst (SendsSo net n on x) more
      (subst (λ l. SendsSo net n on l s.each.more) (append-nil x)
      (as-sends x [] s.each.more s.each.each
      (subst (Each (IsMine n)) (sym more) (grew-ours (is_of n) x s.done y s.grew))))

  ended : (x y : List RingEntry) (s : SendsFrames true net n on x y)
      → HasSent net n on (x ++ s.done)
  ended x y s = subst (HasSent net n on) (grew-is (is_of n) x s.done y s.grew)
      (record { empty = s.all_sent; none = s.none_failed })

  -- what a node sends where none of these calls has failed before is one list
  pub frames-same : (x y y' : List RingEntry) → NoneFailed on (c x)
      → (s : SendsFrames true net n on x y) → IsLegalRing net y
      → (s' : SendsFrames true net n on x y') → IsLegalRing net y' → s.done ≡ s'.done
  frames-same x y y' none s legal s' legal' =
      sends-same x s.done s'.done (grew-ours (is_of n) x s.done y s.grew)
      (grew-ours (is_of n) x s'.done y' s'.grew)
      (subst (IsLegalRing net) (grew-is (is_of n) x s.done y s.grew) legal)
      (subst (IsLegalRing net) (grew-is (is_of n) x s'.done y' s'.grew) legal')
      (λ p q path path' here here' f f'. absurd (none p here f)) (so x y s) (so x y' s')
      (ended x y s) (ended x y' s')
