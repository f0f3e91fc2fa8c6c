-- A Request that a node posted waits on its path, or its call has ended.
use Rattle.std.proofs.Common.{◌≡◌, ◌≢◌, ◌⊎◌, ℕ, ◌==◌, Bool, true, false, cond, List, [], ◌∷◌, ◌++◌}
use Rattle.std.proofs.Common.{Option, Some, None, inl, inr, refl, sym, ap, subst, ◌∙◌}
use Rattle.std.proofs.Common.{append_assoc, append-nil}
use Rattle.std.specs.Prelude.{◌||◌}
use Rattle.std.specs.List.{cons_option, list_any, AllByRecursion as Each}
use Rattle.std.proofs.lemmas.Bool.{eq-eqb, ne_eqb, eqb-true, cases_eq, cond_both}
use Rattle.std.proofs.lemmas.Bool.{cond-true, cond-false}
use Rattle.std.proofs.lemmas.List.Folds.{list_any-append}
use Rattle.mstr_block.specs.declared.call.CallId.{CallId}
use Rattle.mstr_block.specs.Call.{is_same_call}
use Rattle.plant_types.specs.declared.net.NetPlan.{NetPlan}
use Rattle.ring_core.specs.declared.path.Await.{Await}
use Rattle.ring_core.specs.declared.path.Await.TheVariants.{Nothing, Out, Arrived, Failed}
use Rattle.ring_core.specs.declared.refusal.RingNo.{RingNo}
use Rattle.ring_core.specs.declared.refusal.RingNo.TheVariants.{NotAwaited}
use Rattle.ring_core.specs.declared.frame.FrameKind.{FrameKind}
use Rattle.ring_core.specs.declared.frame.FrameKind.TheVariants.{Request, Reply}
use Rattle.ring_core.specs.declared.frame.Frame.{Frame}
use Rattle.ring_core.specs.declared.entry.RingEntry.{RingEntry}
use Rattle.ring_core.specs.declared.entry.RingEntry.TheVariants.{Post, Send, Take, Local, GiveUp}
use Rattle.ring_core.specs.declared.entry.RingEntry.TheVariants.{Pass, Leave, Join}
use Rattle.ring_core.specs.Words.{maker, frame_route}
use Rattle.ring_core.specs.Machine.{path_of, ring_after, ring_node}
use Rattle.ring_core.specs.Legal.{IsFirst, IsRingStep}
use Rattle.ring_core.specs.Refusals.{awaited_no, free_no, or_no, other_no, path_no, taken_no}
use Rattle.tied_lists.specs.Items.{Asked, Ended, Station, asked_by, asked_in, asked_of, ended_by}
use Rattle.tied_lists.specs.Items.{ended_in, ended_of}
use Rattle.tied_lists.specs.Own.{own}
use Rattle.tied_lists.specs.Waits.{AwaitsThis, IsAsk, IsOnRing, waiting, waits_next, waits_posted}
use Rattle.tied_lists.specs.Waits.{waits_taken}
use Rattle.tied_lists.proofs.Boxes.{CameOn, HasCome}
use Rattle.tied_lists.proofs.Paths.{waiting-push}
use Rattle.tied_lists.proofs.Histories.{legal-follows, own-mine, own-other}
use Rattle.tied_lists.proofs.Turns.{legal-parts}
use Rattle.comm_port.proofs.HostRuns.{on-front}
use Rattle.turn_laws.proofs.Passes.{asked-join, ended-join}
use Rattle.turn_laws.proofs.Rests.{over, same-equal, same-refl}

-- a Request of this name was posted
abbrev pub asked_named : CallId → List Asked → Bool
asked_named id asked = list_any (λ (a : Asked). is_same_call a.id id) asked

-- a Request of this name waits
pub record Waits (b : List RingEntry) (id : CallId) : Type 0 where
  pub path : ℕ
  pub frame : Frame
  pub waits : waiting path b ≡ Some frame
  pub name : frame.id ≡ id

abbrev pub WaitsOrOver : Station → List RingEntry → CallId → Type 0
WaitsOrOver station b id = Waits b id ⊎ (over id (ended_by station [] b) ≡ true)

abbrev pub AllWaitOrOver : Station → List RingEntry → Type 0
AllWaitOrOver station b = (id : CallId) → asked_named id (asked_by b) ≡ true
    → WaitsOrOver station b id

or-left : (x y : Bool) → x ≡ true → (x || y) ≡ true
or-left x y is = ap (λ b. b || y) is

or-right : (x y : Bool) → y ≡ true → (x || y) ≡ true
or-right true y is = refl
or-right false y is = is

-- what ended has ended
over-push : (station : Station) (b : List RingEntry) (e : RingEntry) (id : CallId)
    → over id (ended_by station [] b) ≡ true
    → over id (ended_by station [] (b ++ e ∷ [])) ≡ true
over-push station b e id is =
    ap (over id) (ended-join station [] b (e ∷ []))
    ∙ list_any-append (λ (x : Ended). is_same_call x.id id) (ended_by station [] b)
    (ended_by station ([] ++ asked_by b) (e ∷ []))
    ∙ or-left (over id (ended_by station [] b)) _ is

-- and what this entry ends
over-now : (station : Station) (b : List RingEntry) (e : RingEntry) (id : CallId) (end : Ended)
    → ended_of station ([] ++ asked_by b) e ≡ Some end
    → end.id ≡ id → over id (ended_by station [] (b ++ e ∷ [])) ≡ true
over-now station b e id end is name =
    ap (over id) (ended-join station [] b (e ∷ []))
    ∙ list_any-append (λ (x : Ended). is_same_call x.id id) (ended_by station [] b)
    (ended_by station ([] ++ asked_by b) (e ∷ []))
    ∙ or-right (over id (ended_by station [] b)) _
    (ap (λ o. over id (cons_option o [])) is
    ∙ ap (λ x. x || false) (ap (λ (x : CallId). is_same_call x id) name ∙ same-refl id))

-- an entry that asks nothing, after which all wait that did
still : (station : Station) (b : List RingEntry) (e : RingEntry) → asked_of e ≡ None
    → ((p : ℕ) → waiting p (b ++ e ∷ []) ≡ waiting p b)
    → AllWaitOrOver station b → AllWaitOrOver station (b ++ e ∷ [])
still station b e none same old id named =
    elim (old id (sym (ap (asked_named id) (asked-join b (e ∷ [])
    ∙ ap (λ o. asked_by b ++ cons_option o []) none ∙ append-nil (asked_by b))) ∙ named)) [
      | inl w ↦ inl
          (record { path = w.path; frame = w.frame; waits = same w.path ∙ w.waits; name = w.name })
      | inr is ↦ inr (over-push station b e id is)
    ]

-- an entry that ends the call that one path waits for
ends-path : (station : Station) (b : List RingEntry) (e : RingEntry) (q : ℕ) (end : Ended)
    → asked_of e ≡ None
    → ended_of station ([] ++ asked_by b) e ≡ Some end
    → ((g : Frame) → waiting q b ≡ Some g → g.id ≡ end.id)
    → ((p : ℕ) → p ≢ q → waiting p (b ++ e ∷ []) ≡ waiting p b) → AllWaitOrOver station b
    → AllWaitOrOver station (b ++ e ∷ [])
ends-path station b e q end none is that others old id named =
    elim (old id (sym (ap (asked_named id) (asked-join b (e ∷ [])
    ∙ ap (λ o. asked_by b ++ cons_option o []) none ∙ append-nil (asked_by b))) ∙ named)) [
      | inl w ↦ elim (cases_eq w.path q) [
        | inl here ↦ inr (over-now station b e id end is
            (sym (that w.frame (ap (λ p. waiting p b) (sym here) ∙ w.waits)) ∙ w.name))
        | inr apart ↦ inl (record {
          path = w.path;
          frame = w.frame;
          waits = others w.path apart ∙ w.waits;
          name = w.name;
        })
      ]
      | inr over' ↦ inr (over-push station b e id over')
    ]

-- ---- what a path waits for after an entry

posted-here : (p : ℕ) (now : Option Frame) (f : Frame) → f.id.path ≡ p
    → waits_posted p now Request f ≡ Some f
posted-here p now f is = cond-true (f.id.path == p) (Some f) now (eq-eqb f.id.path p is)

posted-apart : (p : ℕ) (now : Option Frame) (f : Frame) → p ≢ f.id.path
    → waits_posted p now Request f ≡ now
posted-apart p now f other =
    cond-false (f.id.path == p) (Some f) now (ne_eqb f.id.path p (λ is. other (sym is)))

taken-apart : (p : ℕ) (now : Option Frame) (f : Frame) → p ≢ f.id.path
    → waits_taken p now Reply f ≡ now
taken-apart p now f other =
    cond-false (f.id.path == p) None now (ne_eqb f.id.path p (λ is. other (sym is)))

given-apart : (p : ℕ) (now : Option Frame) (id : CallId) → p ≢ id.path
    → cond (id.path == p) None now ≡ now
given-apart p now id other =
    cond-false (id.path == p) None now (ne_eqb id.path p (λ is. other (sym is)))

-- ---- what the ring says of a path

second-none : (a b : Option RingNo) → or_no a b ≡ None → b ≡ None
second-none None b e = e
second-none (Some x) b e = absurd (let no' : Some x ≡ None = e in cc)

first-none : (a b : Option RingNo) → or_no a b ≡ None → a ≡ None
first-none None b e = refl
first-none (Some x) b e = absurd (let no' : Some x ≡ None = e in cc)

free-waits : (a : Await) (w : Option Frame) → taken_no a ≡ None → AwaitsThis a w → w ≡ None
free-waits Nothing None e k = refl
free-waits Nothing (Some g) e k = absurd k
free-waits (Out seq to onward passes) w e k = absurd (let no' : Some _ ≡ None = e in cc)
free-waits (Arrived seq) w e k = absurd (let no' : Some _ ≡ None = e in cc)
free-waits (Failed seq word) w e k = absurd (let no' : Some _ ≡ None = e in cc)

other-none : (out seq : ℕ) → other_no out seq ≡ None → out ≡ seq
other-none out seq e =
    cond_both (out == seq) None (Some (NotAwaited out)) (λ x. x ≡ None → out ≡ seq)
    (λ y _. eqb-true out seq y)
    (λ _ x. absurd (let no' : Some (NotAwaited out) ≡ None = x in cc)) e

-- the number that is awaited is that of the Request that waits
number-waits : (a : Await) (seq : ℕ) (g : Frame) → awaited_no a seq ≡ None → AwaitsThis a (Some g)
    → g.id.seq ≡ seq
number-waits Nothing seq g e k = absurd k
number-waits (Out out to onward passes) seq g e k = sym k ∙ other-none out seq e
number-waits (Arrived out) seq g e k = sym k ∙ other-none out seq e
number-waits (Failed out word) seq g e k = sym k ∙ other-none out seq e

arrived-waits : (a : Await) (seq : ℕ) (g : Frame) → a ≡ Arrived seq → AwaitsThis a (Some g)
    → g.id.seq ≡ seq
arrived-waits Nothing seq g e k = absurd k
arrived-waits (Out out to onward passes) seq g e k =
    absurd (let no' : Out out to onward passes ≡ Arrived seq = e in cc)
arrived-waits (Failed out word) seq g e k =
    absurd (let no' : Failed out word ≡ Arrived seq = e in cc)
arrived-waits (Arrived out) seq g e k = let same : out ≡ seq = cc in sym k ∙ same

name-of : (n p : ℕ) (id : CallId) (g : Frame) → IsAsk n p g → id.node ≡ n → id.path ≡ p
    → g.id.seq ≡ id.seq → g.id ≡ id
name-of n p id g ask node path seq =
    λ i. record { node = (ask.node ∙ sym node) i; path = (ask.path ∙ sym path) i; seq = seq i }

first-come : (P : Frame → Type 0) (box : List Frame) (f : Frame) → IsFirst box f → Each P box → P f
first-come P [] f first all = absurd first
first-come P (g ∷ gs) f first all = subst P first all.0

-- ---- one more own entry

module _ (station : Station) (net : NetPlan) (n : ℕ) where
  waits-as : (p : ℕ) (b : List RingEntry) (e : RingEntry) (now : Option Frame)
      → waits_next p (waiting p b) e ≡ now → waiting p (b ++ e ∷ []) ≡ now
  waits-as p b e now is = waiting-push p b e ∙ is

  post-step : (h : List RingEntry) (f : Frame) → IsOnRing net h n → IsRingStep net h (Post n f)
      → AllWaitOrOver station (own n h)
      → AllWaitOrOver station (own n h ++ Post n f ∷ [])
  post-step h f on step old = by-kind f.kind refl
    where
      b : List RingEntry
      b = own n h

      e : RingEntry
      e = Post n f

      here : f.kind ≡ Request → waiting f.id.path (b ++ e ∷ []) ≡ Some f
      here is = waits-as f.id.path b e (Some f)
          (ap (λ k. waits_posted f.id.path (waiting f.id.path b) k f) is
          ∙ posted-here f.id.path (waiting f.id.path b) f refl)

      free : f.kind ≡ Request → waiting f.id.path b ≡ None
      free is =
          let awaits = (path_of (ring_node (ring_after net h) n) f.id.path).awaits in
          let none = second-none (free_no (ring_after net h) n)
          (path_no (ring_node (ring_after net h) n) f.kind f.id.path) step.1.1 in
          free-waits awaits (waiting f.id.path b)
          (ap (λ k. path_no (ring_node (ring_after net h) n) k f.id.path) (sym is) ∙ none)
          ((legal-follows net h n on).node.part.paths f.id.path)

      kept : (id : CallId) → f.kind ≡ Request → WaitsOrOver station b id
          → WaitsOrOver station (b ++ e ∷ []) id
      kept id is (inr over') = inr (over-push station b e id over')
      kept id is (inl w) = elim (cases_eq w.path f.id.path) [
        | inl same ↦ absurd (let no' : None ≡ Some w.frame = sym (free is)
            ∙ ap (λ p. waiting p b) (sym same) ∙ w.waits in cc)
        | inr apart ↦ inl (record {
          path = w.path;
          frame = w.frame;
          waits = waits-as w.path b e (waiting w.path b)
              (ap (λ k. waits_posted w.path (waiting w.path b) k f) is
              ∙ posted-apart w.path (waiting w.path b) f apart) ∙ w.waits;
          name = w.name;
        })
      ]

      one : (x : Bool) → (false || (x || false)) ≡ true → x ≡ true
      one true is' = refl
      one false is' = absurd (let no' : false ≡ true = is' in cc)

      split : (id : CallId) → f.kind ≡ Request → (x : Bool) → asked_named id (asked_by b) ≡ x
          → asked_named id (asked_by (b ++ e ∷ [])) ≡ true
          → (asked_named id (asked_by b) ≡ true) ⊎ (is_same_call f.id id ≡ true)
      split id is true before all = inl before
      split id is false before all =
          inr (one (is_same_call f.id id) (sym (
          ap (asked_named id)
          (asked-join b (e ∷ []) ∙ ap (λ k. asked_by b ++ cons_option (asked_in k f) []) is)
          ∙ list_any-append (λ (a : Asked). is_same_call a.id id) (asked_by b)
          (record { id = f.id; route = frame_route f; pdu = f.pdu } ∷ [])
          ∙ ap (λ x. x || (is_same_call f.id id || false)) before) ∙ all))

      request : f.kind ≡ Request → AllWaitOrOver station (b ++ e ∷ [])
      request is id named =
          elim (split id is (asked_named id (asked_by b)) refl named) [
            | inl before ↦ kept id is (old id before)
            | inr now ↦ inl (record {
              path = f.id.path;
              frame = f;
              waits = here is;
              name = same-equal f.id id now;
            })
          ]

      by-kind : (kind : FrameKind) → f.kind ≡ kind
          → AllWaitOrOver station (own n h ++ Post n f ∷ [])
      by-kind Reply is =
          still station b e (ap (λ k. asked_in k f) is)
          (λ p. waits-as p b e (waiting p b) (ap (λ k. waits_posted p (waiting p b) k f) is)) old
      by-kind Request is = request is

  take-step : (h : List RingEntry) (f : Frame) → IsOnRing net h n → IsRingStep net h (Take n f)
      → AllWaitOrOver station (own n h)
      → AllWaitOrOver station (own n h ++ Take n f ∷ [])
  take-step h f on step old = by-kind f.kind refl
    where
      b : List RingEntry
      b = own n h

      e : RingEntry
      e = Take n f

      by-kind : (kind : FrameKind) → f.kind ≡ kind
          → AllWaitOrOver station (own n h ++ Take n f ∷ [])
      by-kind Request is =
          still station b e refl
          (λ p. waits-as p b e (waiting p b) (ap (λ k. waits_taken p (waiting p b) k f) is)) old
      by-kind Reply is =
          ends-path station b e f.id.path _ refl
          (ap (λ k. ended_in station ([] ++ asked_by b) k f) is)
          (λ g waits.
          let follows = (legal-follows net h n on).node.part in
          let came : HasCome n (ring_node (ring_after net h) n).paths f =
          first-come (HasCome n (ring_node (ring_after net h) n).paths)
          (ring_node (ring_after net h) n).inbox f step.1.1 follows.comes in
          let reply : CameOn n (ring_node (ring_after net h) n).paths Reply f.id =
          subst (λ (k : FrameKind). CameOn n (ring_node (ring_after net h) n).paths k f.id) is came
          in
          let seq = arrived-waits _ f.id.seq g reply.0
          (subst (AwaitsThis _) waits (follows.paths f.id.path)) in
          name-of n f.id.path f.id g (follows.asks f.id.path g waits) reply.1 refl seq)
          (λ p apart. waits-as p b e (waiting p b)
          (ap (λ k. waits_taken p (waiting p b) k f) is ∙ taken-apart p (waiting p b) f apart)) old

  give-step : (h : List RingEntry) (id : CallId) (word : ℕ) → IsOnRing net h n → id.node ≡ n
      → IsRingStep net h (GiveUp id word)
      → AllWaitOrOver station (own n h) → AllWaitOrOver station (own n h ++ GiveUp id word ∷ [])
  give-step h id word on mine step old =
      ends-path station b e id.path _ refl refl
      (λ g waits.
      let follows = (legal-follows net h n on).node.part in
      let awaits = (path_of (ring_node (ring_after net h) n) id.path).awaits in
      let number : awaited_no awaits id.seq ≡ None =
      ap (λ k. awaited_no (path_of (ring_node (ring_after net h) k) id.path).awaits id.seq)
      (sym mine)
      ∙ first-none _ _ (second-none _ _ step.1.0) in
      let seq = number-waits awaits id.seq g number
      (subst (AwaitsThis awaits) waits (follows.paths id.path)) in
      name-of n id.path id g (follows.asks id.path g waits) mine refl seq)
      (λ p apart. waits-as p b e (waiting p b) (given-apart p (waiting p b) id apart)) old
    where
      b : List RingEntry
      b = own n h

      e : RingEntry
      e = GiveUp id word

  quiet-step : (h : List RingEntry) (e : RingEntry) → asked_of e ≡ None
      → ((p : ℕ) (now : Option Frame) → waits_next p now e ≡ now)
      → AllWaitOrOver station (own n h) → AllWaitOrOver station (own n h ++ e ∷ [])
  quiet-step h e none same old =
      still station (own n h) e none
      (λ p. waits-as p (own n h) e (waiting p (own n h)) (same p (waiting p (own n h)))) old

  own-step : (h : List RingEntry) (e : RingEntry) → IsOnRing net h n → maker e ≡ n
      → IsRingStep net h e → AllWaitOrOver station (own n h)
      → AllWaitOrOver station (own n h ++ e ∷ [])
  own-step h (Post m f) on is step old =
      subst (λ k. AllWaitOrOver station (own n h ++ Post k f ∷ [])) (sym is)
      (post-step h f on (subst (λ k. IsRingStep net h (Post k f)) is step) old)
  own-step h (Send m heard) on is step old = quiet-step h (Send m heard) refl (λ p now. refl) old
  own-step h (Take m f) on is step old =
      subst (λ k. AllWaitOrOver station (own n h ++ Take k f ∷ [])) (sym is)
      (take-step h f on (subst (λ k. IsRingStep net h (Take k f)) is step) old)
  own-step h (Local m id op result) on is step old = quiet-step h (Local m id op result) refl
      (λ p now. refl) old
  own-step h (GiveUp id word) on is step old = give-step h id word on is step old
  own-step h (Pass m done words) on is step old = quiet-step h (Pass m done words) refl
      (λ p now. refl) old
  own-step h (Leave m cause) on is step old = quiet-step h (Leave m cause) refl (λ p now. refl) old
  own-step h (Join m) on is step old = quiet-step h (Join m) refl (λ p now. refl) old

  wait-more : (h more : List RingEntry) → IsOnRing net (h ++ more) n
      → AllWaitOrOver station (own n h) → AllWaitOrOver station (own n (h ++ more))
  wait-more h [] on old = subst (λ l. AllWaitOrOver station (own n l)) (sym (append-nil h)) old
  wait-more h (e ∷ more) on old =
      let parts = legal-parts net h (e ∷ more) on.legal in
      subst (λ l. AllWaitOrOver station (own n l)) (append_assoc h (e ∷ []) more)
      (wait-more (h ++ e ∷ []) more
      (subst (λ l. IsOnRing net l n) (sym (append_assoc h (e ∷ []) more)) on)
      (elim (cases_eq (maker e) n) [
        | inl is ↦ subst (AllWaitOrOver station) (sym (own-mine n h e is))
            (own-step h e (on-front net n h (e ∷ more) on) is parts.1.0 old)
        | inr other ↦ subst (AllWaitOrOver station) (sym (own-other n h e other)) old
      ]))

  pub all-wait : (h : List RingEntry) → IsOnRing net h n → AllWaitOrOver station (own n h)
  all-wait h on = wait-more [] h on (λ id named. absurd (let no' : false ≡ true = named in cc))
