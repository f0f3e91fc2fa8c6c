-- A controller that has nothing left to do goes on by answers alone.
use Rattle.std.proofs.Common.{◌≡◌, ℕ, zero, suc, ◌+◌, ◌<◌, ◌≤◌, ◌==◌, Bool, true, false, cond}
use Rattle.std.proofs.Common.{List, [], ◌∷◌, ◌++◌, length, filter, Option, Some, None, refl}
use Rattle.std.proofs.Common.{sym, ap, subst, ◌∙◌, arith, append_assoc, append-nil}
use Rattle.std.specs.Prelude.{not, ◌&&◌, ◌||◌, if◌then◌else◌}
use Rattle.std.specs.List.{All, count_by, list_any, slice_index_or}
use Rattle.std.proofs.lemmas.Bool.{and_parts, eq-eqb, eqb-true}
use Rattle.mstr_block.specs.Call.{is_same_call}
use Rattle.mstr_block.specs.Table.{has_untaken, is_taken_out}
use Rattle.mstr_block.specs.declared.call.CallId.{CallId}
use Rattle.scan_order.specs.declared.due.ScanStep.{ScanStep}
use Rattle.controller_core.specs.declared.entry.Entry.{Entry}
use Rattle.controller_core.specs.declared.entry.Entry.TheVariants as entries
use Rattle.controller_core.specs.declared.entry.Maker.TheVariants as makers
use Rattle.controller_core.specs.declared.fixed.Fixed.{Fixed}
use Rattle.controller_core.specs.Controller.{IsLegal, due_step, entry_for}
use Rattle.controller_core.specs.Controller.{is_none}
use Rattle.controller_core.specs.Event.{maker_of}
use Rattle.controller_core.specs.Replay.{ControllerState, apply, replay, start, table_of}
use Rattle.controller_core.proofs.Keeping.{replay_more}
use Rattle.controller_core.proofs.NextEntry.{due_of, ended_stays, fits_last, front_legal, scan_step}
use Rattle.tied_lists.specs.Calls.{IsOut, NoEnd}
use Rattle.tied_lists.specs.Items.{Called, Came, Ended, Items, Kind, kind_in, kind_of_sort}
use Rattle.tied_lists.specs.Items.{no_items}
use Rattle.tied_lists.proofs.Boxes.{count-cons, count-push}
use Rattle.joint_history.specs.Complete.{EndsEachCall}
use Rattle.joint_history.specs.Reading.{controller_at, has_ended_at, is_off_at, is_ours, item_next}
use Rattle.joint_history.specs.Reading.{items_after, items_of}
use Rattle.joint_history.proofs.Collected.{CallLaws, history-follows}
use Rattle.turn_laws.specs.KeepsOn.{IsDone}

clash : {C : Type 0} {b : Bool} → b ≡ true → b ≡ false → C
clash is no' = let e : true ≡ false = sym is ∙ no' in absurd cc

-- ---- names, calls and ends

pub same-equal : (a b : CallId) → is_same_call a b ≡ true → a ≡ b
same-equal a b h =
    let outer = and_parts (a.node == b.node) ((a.path == b.path) && (a.seq == b.seq)) h in
    let inner = and_parts (a.path == b.path) (a.seq == b.seq) outer.1 in
    let node = eqb-true a.node b.node outer.0 in
    let path = eqb-true a.path b.path inner.0 in
    let seq = eqb-true a.seq b.seq inner.1 in
    λ i. record { node = node i; path = path i; seq = seq i }

pub same-refl : (a : CallId) → is_same_call a a ≡ true
same-refl a =
    λ i. eq-eqb a.node a.node refl i && (eq-eqb a.path a.path refl i && eq-eqb a.seq a.seq refl i)

abbrev pub named : CallId → List Called → Bool
named id calls = list_any (λ (c : Called). is_same_call c.id id) calls

abbrev pub over : CallId → List Ended → Bool
over id ends = list_any (λ (e : Ended). is_same_call e.id id) ends

abbrev pub ends_of : CallId → List Ended → ℕ
ends_of id ends = count_by (λ (e : Ended). is_same_call e.id id) ends

or-right : (x y : Bool) → y ≡ true → (x || y) ≡ true
or-right true y is = refl
or-right false y is = is

named-at : (calls : List Called) (k : ℕ) (d : Called) → k < length calls
    → named (slice_index_or calls k d).id calls ≡ true
named-at [] k d within = absurd (omega (arith, within))
named-at (c ∷ cs) zero d within = ap (λ b. b || named c.id cs) (same-refl c.id)
named-at (c ∷ cs) (suc k) d within =
    or-right (is_same_call c.id (slice_index_or cs k d).id) (named (slice_index_or cs k d).id cs)
    (named-at cs k d (omega (arith, within)))

pub named-kind : (id : CallId) (calls : List Called) → named id calls ≡ true
    → (kind : Kind) × (kind_in calls id ≡ Some kind)
named-kind id [] is = absurd (let no' : false ≡ true = is in cc)
named-kind id (c ∷ cs) is = at (is_same_call c.id id) is (named-kind id cs)
  where
    at : (b : Bool) → (b || named id cs) ≡ true
        → (named id cs ≡ true → (kind : Kind) × (kind_in cs id ≡ Some kind))
        → (kind : Kind) × ((if b then Some (kind_of_sort c.sort) else kind_in cs id) ≡ Some kind)
    at true some rest = (kind_of_sort c.sort, refl)
    at false some rest = rest some

pub kind-named : (id : CallId) (calls : List Called) (kind : Kind) → kind_in calls id ≡ Some kind
    → named id calls ≡ true
kind-named id [] kind is = absurd (let no' : None ≡ Some kind = is in cc)
kind-named id (c ∷ cs) kind is = at (is_same_call c.id id) is (kind-named id cs kind)
  where
    at : (b : Bool) → (if b then Some (kind_of_sort c.sort) else kind_in cs id) ≡ Some kind
        → (kind_in cs id ≡ Some kind → named id cs ≡ true) → (b || named id cs) ≡ true
    at true found rest = refl
    at false found rest = rest found

pub no-end : (id : CallId) (ends : List Ended) → over id ends ≡ false → NoEnd id ends
no-end id [] is = tt
no-end id (e ∷ es) is = at (is_same_call e.id id) refl is (no-end id es)
  where
    at : (b : Bool) → is_same_call e.id id ≡ b → (b || over id es) ≡ false
        → (over id es ≡ false → NoEnd id es) → NoEnd id (e ∷ es)
    at true same none rest = absurd (let no' : true ≡ false = none in cc)
    at false same none rest = (same, rest none)

pub end-none : (id : CallId) (ends : List Ended) → NoEnd id ends → over id ends ≡ false
end-none id [] none = refl
end-none id (e ∷ es) none = λ i. none.0 i || end-none id es none.1 i

-- a call ended where its ends are counted
pub none-counted : (id : CallId) (ends : List Ended) → over id ends ≡ false → ends_of id ends ≡ 0
none-counted id [] none = refl
none-counted id (e ∷ es) none = at (is_same_call e.id id) refl none (none-counted id es)
  where
    at : (b : Bool) → is_same_call e.id id ≡ b → (b || over id es) ≡ false
        → (over id es ≡ false → ends_of id es ≡ 0) → ends_of id (e ∷ es) ≡ 0
    at true same none' rest = absurd (let no' : true ≡ false = none' in cc)
    at false same none' rest =
        let c = count-cons (λ (x : Ended). is_same_call x.id id) e es in
        let o : cond {A = ℕ} (is_same_call e.id id) 1 0 ≡ 0 = ap (λ b. cond {A = ℕ} b 1 0) same in
        let r = rest none' in omega (arith, c, o, r)

pub some-counted : (id : CallId) (ends : List Ended) → over id ends ≡ true → 1 ≤ ends_of id ends
some-counted id [] some = absurd (let no' : false ≡ true = some in cc)
some-counted id (e ∷ es) some = at (is_same_call e.id id) refl some (some-counted id es)
  where
    at : (b : Bool) → is_same_call e.id id ≡ b → (b || over id es) ≡ true
        → (over id es ≡ true → 1 ≤ ends_of id es) → 1 ≤ ends_of id (e ∷ es)
    at true same some' rest =
        let c = count-cons (λ (x : Ended). is_same_call x.id id) e es in
        let o : cond {A = ℕ} (is_same_call e.id id) 1 0 ≡ 1 = ap (λ b. cond {A = ℕ} b 1 0) same in
        omega (arith, c, o)
    at false same some' rest =
        let c = count-cons (λ (x : Ended). is_same_call x.id id) e es in
        let r = rest some' in omega (arith, c, r)

counted-over : (id : CallId) (ends : List Ended) → ends_of id ends ≡ 1 → over id ends ≡ true
counted-over id ends one = at (over id ends) refl
  where
    at : (b : Bool) → over id ends ≡ b → over id ends ≡ true
    at true is = is
    at false is = absurd (let none = none-counted id ends is in omega (arith, none, one))

-- ---- calls that have ended

-- each call that was made has ended
abbrev pub NoneOut : Items → Type 0
NoneOut a = (id : CallId) → IsOut a id → ⊥

abbrev EndsEach : List Called → List Ended → Type 0
EndsEach calls ends = All (λ (call : Called). ends_of call.id ends ≡ 1) calls

named-over : (id : CallId) (calls : List Called) (ends : List Ended) → EndsEach calls ends
    → named id calls ≡ true → over id ends ≡ true
named-over id [] ends all some = absurd (let no' : false ≡ true = some in cc)
named-over id (c ∷ cs) ends all some =
    at (is_same_call c.id id) refl some
    (named-over id cs ends (λ k d within. all (suc k) d (omega (arith, within))))
  where
    at : (b : Bool) → is_same_call c.id id ≡ b → (b || named id cs) ≡ true
        → (named id cs ≡ true → over id ends ≡ true) → over id ends ≡ true
    at true same some' rest = subst (λ (x : CallId). over x ends ≡ true) (same-equal c.id id same)
        (counted-over c.id ends (all 0 c (omega arith)))
    at false same some' rest = rest some'

pub ended-none : (a : Items) → EndsEachCall a → NoneOut a
ended-none a all id out =
    clash (named-over id a.calls a.ends all (kind-named id a.calls out.0 out.1.made))
    (end-none id a.ends out.1.unended)

open-not : (named' over' : Bool) → (named' ≡ true → over' ≡ true) → (named' && not over') ≡ false
open-not true true f = refl
open-not true false f = absurd (let no' : false ≡ true = f refl in cc)
open-not false over' f = refl

-- ---- one more entry

pub items-join : (a : Items) (xs ys : List Entry)
    → items_after a (xs ++ ys) ≡ items_after (items_after a xs) ys
items-join a [] ys = refl
items-join a (x ∷ xs) ys = items-join (item_next a x) xs ys

pub items-push : (h : List Entry) (e : Entry) → items_of (h ++ e ∷ []) ≡ item_next (items_of h) e
items-push h e = items-join no_items h (e ∷ [])

module _ (f : Fixed) where
  no-step : (h : List Entry) (e : Entry) → has_ended_at f h ≡ true → maker_of e ≡ makers.Scan
      → IsLegal f (h ++ e ∷ []) → ⊥
  no-step h e ended of legal =
      let step = scan_step e of in
      none (due_step (controller_at f h)) ended (due_of (controller_at f h) e step.0 step.1 legal)
    where
      none : (due : Option ScanStep) → is_none due ≡ true
          → entry_for (controller_at f h) due ≡ Some e → ⊥
      none None is due = let no' : None ≡ Some e = due in cc
      none (Some step) is due = let no' : false ≡ true = is in cc

  -- nobody else goes on where the scans have ended
  kept-out : (b : Bool) (e : Entry) (rest : List Entry) → cond b (e ∷ rest) rest ≡ []
      → (b ≡ false) × (rest ≡ [])
  kept-out true e rest h = absurd (cc)
  kept-out false e rest h = (refl, h)

  not-ours : (e : Entry) → is_ours e ≡ false → maker_of e ≡ makers.Scan
  not-ours entries.Begin is = refl
  not-ours (entries.Input row) is = refl
  not-ours (entries.Solve row) is = refl
  not-ours (entries.Output row words) is = refl
  not-ours entries.End is = refl
  not-ours entries.Fail is = refl
  not-ours entries.Dark is = refl
  not-ours (entries.Collect calls) is = absurd (let no' : true ≡ false = is in cc)
  not-ours (entries.Peer id request reply) is = absurd (let no' : true ≡ false = is in cc)
  not-ours (entries.Off id request) is = absurd (let no' : true ≡ false = is in cc)
  not-ours (entries.Finish id result) is = absurd (let no' : true ≡ false = is in cc)

  pub ended-alone : (h more : List Entry) → has_ended_at f h ≡ true → IsLegal f (h ++ more)
      → filter is_ours more ≡ [] → more ≡ []
  ended-alone h [] ended legal none = refl
  ended-alone h (e ∷ more) ended legal none =
      let k = kept-out (is_ours e) e (filter is_ours more) none in
      let joined = subst (IsLegal f) (sym (append_assoc h (e ∷ []) more)) legal in
      absurd (no-step h e ended (not-ours e k.0) (front_legal f (h ++ e ∷ []) more joined))

  -- what is said then of scans, power and failures stays
  pub record EndedGoes (h new : List Entry) : Type 0 where
    pub ended : has_ended_at f new ≡ true
    pub off : is_off_at f new ≡ is_off_at f h
    pub fails : (items_of new).fails ≡ (items_of h).fails

  goes-by : (h : List Entry) (e : Entry) → maker_of e ≡ makers.Communication
      → (apply f (replay f h) e).powered ≡ (replay f h).powered
      → (item_next (items_of h) e).fails ≡ (items_of h).fails
      → has_ended_at f h ≡ true → EndedGoes h (h ++ e ∷ [])
  goes-by h e of powered fails ended = record {
    ended = ended_stays (controller_at f h) (e ∷ []) (of, tt) ∙ ended;
    off = ap (λ (s : ControllerState). not s.powered) (replay_more f (start f.plan) h e)
        ∙ ap not powered;
    fails = ap (λ (a : Items). a.fails) (items-push h e) ∙ fails;
  }

  goes-push : (h : List Entry) (e : Entry) → IsLegal f (h ++ e ∷ []) → has_ended_at f h ≡ true
      → EndedGoes h (h ++ e ∷ [])
  goes-push h entries.Begin legal ended = absurd (no-step h entries.Begin ended refl legal)
  goes-push h (entries.Input row) legal ended =
      absurd (no-step h (entries.Input row) ended refl legal)
  goes-push h (entries.Solve row) legal ended =
      absurd (no-step h (entries.Solve row) ended refl legal)
  goes-push h (entries.Output row words) legal ended =
      absurd (no-step h (entries.Output row words) ended refl legal)
  goes-push h entries.End legal ended = absurd (no-step h entries.End ended refl legal)
  goes-push h entries.Fail legal ended = absurd (no-step h entries.Fail ended refl legal)
  goes-push h entries.Dark legal ended = absurd (no-step h entries.Dark ended refl legal)
  goes-push h (entries.Collect calls) legal ended =
      goes-by h (entries.Collect calls) refl refl refl ended
  goes-push h (entries.Peer id request reply) legal ended =
      goes-by h (entries.Peer id request reply) refl refl refl ended
  goes-push h (entries.Off id request) legal ended =
      goes-by h (entries.Off id request) refl refl refl ended
  goes-push h (entries.Finish id result) legal ended =
      goes-by h (entries.Finish id result) refl refl refl ended

  pub ended-goes : (h more : List Entry) → IsLegal f (h ++ more) → has_ended_at f h ≡ true
      → EndedGoes h (h ++ more)
  ended-goes h [] legal ended = subst (EndedGoes h) (sym (append-nil h))
      (record { ended = ended; off = refl; fails = refl })
  ended-goes h (e ∷ more) legal ended =
      let joined = subst (IsLegal f) (sym (append_assoc h (e ∷ []) more)) legal in
      let one = goes-push h e (front_legal f (h ++ e ∷ []) more joined) ended in
      let all = ended-goes (h ++ e ∷ []) more joined one.ended in
      subst (EndedGoes h) (append_assoc h (e ∷ []) more) (record {
        ended = all.ended;
        off = all.off ∙ one.off;
        fails = all.fails ∙ one.fails;
      })

  -- and only events of the communication come
  pub ended-ours : (h more : List Entry) → IsLegal f (h ++ more) → has_ended_at f h ≡ true
      → filter is_ours more ≡ more
  ended-ours h [] legal ended = refl
  ended-ours h (e ∷ more) legal ended =
      let joined = subst (IsLegal f) (sym (append_assoc h (e ∷ []) more)) legal in
      let front = front_legal f (h ++ e ∷ []) more joined in
      at (is_ours e) refl front
      (ended-ours (h ++ e ∷ []) more joined (ended-goes h (e ∷ []) front ended).ended)
    where
      at : (b : Bool) → is_ours e ≡ b → IsLegal f (h ++ e ∷ []) → filter is_ours more ≡ more
          → cond b (e ∷ filter is_ours more) (filter is_ours more) ≡ e ∷ more
      at true mine front rest = ap (λ l. e ∷ l) rest
      at false other front rest = absurd (no-step h e ended (not-ours e other) front)

module _ (laws : CallLaws) (f : Fixed) where
  out-is : (h : List Entry) → IsLegal f h → (id : CallId)
      → is_taken_out (table_of (replay f h)) id ≡ true → over id (items_of h).ends ≡ false
  out-is h legal id is = not-true (over id (items_of h).ends)
      (and_parts (named id (items_of h).calls) (not (over id (items_of h).ends))
      (sym ((history-follows laws f h legal).out id) ∙ is)).1
    where
      not-true : (b : Bool) → not b ≡ true → b ≡ false
      not-true true is' = absurd (let no' : false ≡ true = is' in cc)
      not-true false is' = refl

  -- a call ends once at most
  few-push : (h : List Entry) (e : Entry) (id : CallId) → IsLegal f (h ++ e ∷ [])
      → ends_of id (items_of h).ends ≤ 1
      → ends_of id (item_next (items_of h) e).ends ≤ 1
  few-push h entries.Begin id legal few = few
  few-push h (entries.Input row) id legal few = few
  few-push h (entries.Solve row) id legal few = few
  few-push h (entries.Output row words) id legal few = few
  few-push h entries.End id legal few = few
  few-push h entries.Fail id legal few = few
  few-push h entries.Dark id legal few = few
  few-push h (entries.Collect calls) id legal few = few
  few-push h (entries.Peer name request reply) id legal few = few
  few-push h (entries.Off name request) id legal few = few
  few-push h (entries.Finish name result) id legal few = at (is_same_call name id) refl
    where
      e : Ended
      e = record { id = name; kind = kind_in (items_of h).calls name; outcome = Came result }

      c : ends_of id ((items_of h).ends ++ e ∷ [])
          ≡ ends_of id (items_of h).ends + cond {A = ℕ} (is_same_call name id) 1 0
      c = count-push (λ (x : Ended). is_same_call x.id id) (items_of h).ends e

      at : (b : Bool) → is_same_call name id ≡ b → ends_of id ((items_of h).ends ++ e ∷ []) ≤ 1
      at true same =
          let fits = fits_last (controller_at f h) (entries.Finish name result) legal in
          let none = none-counted name (items_of h).ends
          (out-is h (front_legal f h (entries.Finish name result ∷ []) legal) name fits) in
          let here : ends_of id (items_of h).ends ≡ 0 =
          ap (λ (x : CallId). ends_of x (items_of h).ends) (sym (same-equal name id same)) ∙ none in
          let o : cond {A = ℕ} (is_same_call name id) 1 0 ≡ 1 = ap (λ b. cond {A = ℕ} b 1 0) same in
          omega (arith, c, here, o)
      at false same =
          let o : cond {A = ℕ} (is_same_call name id) 1 0 ≡ 0 = ap (λ b. cond {A = ℕ} b 1 0) same in
          omega (arith, c, few, o)

  few-more : (h more : List Entry) (id : CallId) → IsLegal f (h ++ more)
      → ends_of id (items_of h).ends ≤ 1 → ends_of id (items_of (h ++ more)).ends ≤ 1
  few-more h [] id legal few = subst (λ l. ends_of id (items_of l).ends ≤ 1)
      (sym (append-nil h)) few
  few-more h (e ∷ more) id legal few =
      let joined = subst (IsLegal f) (sym (append_assoc h (e ∷ []) more)) legal in
      let one = few-push h e id (front_legal f (h ++ e ∷ []) more joined) few in
      subst (λ l. ends_of id (items_of l).ends ≤ 1) (append_assoc h (e ∷ []) more)
      (few-more (h ++ e ∷ []) more id joined
      (subst (λ (a : Items). ends_of id a.ends ≤ 1) (sym (items-push h e)) one))

  -- and where none is out, once
  pub each-ended : (h : List Entry) → IsLegal f h → NoneOut (items_of h) → EndsEachCall (items_of h)
  each-ended h legal none k d within = at (over c.id a.ends) refl
    where
      a : Items
      a = items_of h

      c : Called
      c = slice_index_or a.calls k d

      at : (b : Bool) → over c.id a.ends ≡ b → ends_of c.id a.ends ≡ 1
      at true is =
          let least = some-counted c.id a.ends is in
          let most = few-more [] h c.id legal (omega arith) in
          omega (arith, least, most)
      at false is =
          let kind = named-kind c.id a.calls (named-at a.calls k d within) in
          absurd (none c.id (kind.0, record { made = kind.1; unended = no-end c.id a.ends is }))

  -- ---- at rest

  rests-out : (h : List Entry) → IsLegal f h → EndsEachCall (items_of h) → (id : CallId)
      → is_taken_out (table_of (replay f h)) id ≡ false
  rests-out h legal all id =
      (history-follows laws f h legal).out id
      ∙ open-not (named id (items_of h).calls) (over id (items_of h).ends)
      (named-over id (items_of h).calls (items_of h).ends all)

  -- what a list keeps that goes on so
  pub record RestsOn (h new : List Entry) : Type 0 where
    pub rest : IsDone f new
    pub calls : (items_of new).calls ≡ (items_of h).calls
    pub ends : (items_of new).ends ≡ (items_of h).ends

  -- a request of another that is taken changes none of it
  rests-taken : (h : List Entry) (e : Entry) → maker_of e ≡ makers.Communication
      → table_of (apply f (replay f h) e) ≡ table_of (replay f h)
      → (item_next (items_of h) e).calls ≡ (items_of h).calls
      → (item_next (items_of h) e).ends ≡ (items_of h).ends
      → IsDone f h → RestsOn h (h ++ e ∷ [])
  rests-taken h e of table same-calls same-ends r =
      let is = items-push h e in
      let calls : (items_of (h ++ e ∷ [])).calls ≡ (items_of h).calls =
      ap (λ (a : Items). a.calls) is ∙ same-calls in
      let ends : (items_of (h ++ e ∷ [])).ends ≡ (items_of h).ends =
      ap (λ (a : Items). a.ends) is ∙ same-ends in
      record {
        rest = record {
          ended = ended_stays (controller_at f h) (e ∷ []) (of, tt) ∙ r.ended;
          collected = ap (λ s. has_untaken (table_of s)) (replay_more f (start f.plan) h e)
              ∙ ap has_untaken table ∙ r.collected;
          finished =
              subst (λ (l : List Called). EndsEach l (items_of (h ++ e ∷ [])).ends) (sym calls)
              (subst (λ (l : List Ended). EndsEach (items_of h).calls l) (sym ends) r.finished);
        };
        calls = calls;
        ends = ends;
      }

  rests-push : (h : List Entry) (e : Entry) → IsLegal f (h ++ e ∷ []) → IsDone f h
      → RestsOn h (h ++ e ∷ [])
  rests-push h entries.Begin legal r = absurd (no-step f h entries.Begin r.ended refl legal)
  rests-push h (entries.Input row) legal r =
      absurd (no-step f h (entries.Input row) r.ended refl legal)
  rests-push h (entries.Solve row) legal r =
      absurd (no-step f h (entries.Solve row) r.ended refl legal)
  rests-push h (entries.Output row words) legal r =
      absurd (no-step f h (entries.Output row words) r.ended refl legal)
  rests-push h entries.End legal r = absurd (no-step f h entries.End r.ended refl legal)
  rests-push h entries.Fail legal r = absurd (no-step f h entries.Fail r.ended refl legal)
  rests-push h entries.Dark legal r = absurd (no-step f h entries.Dark r.ended refl legal)
  rests-push h (entries.Collect calls) legal r =
      let fits = fits_last (controller_at f h) (entries.Collect calls) legal in
      clash fits.0 r.collected
  rests-push h (entries.Peer id request reply) legal r =
      rests-taken h (entries.Peer id request reply) refl refl refl refl r
  rests-push h (entries.Off id request) legal r =
      rests-taken h (entries.Off id request) refl refl refl refl r
  rests-push h (entries.Finish id result) legal r =
      let e = entries.Finish id result in
      clash (fits_last (controller_at f h) e legal)
      (rests-out h (front_legal f h (e ∷ []) legal) r.finished id)

  pub rests-more : (h more : List Entry) → IsLegal f (h ++ more) → IsDone f h
      → RestsOn h (h ++ more)
  rests-more h [] legal r = subst (RestsOn h) (sym (append-nil h))
      (record { rest = r; calls = refl; ends = refl })
  rests-more h (e ∷ more) legal r =
      let joined = subst (IsLegal f) (sym (append_assoc h (e ∷ []) more)) legal in
      let one = rests-push h e (front_legal f (h ++ e ∷ []) more joined) r in
      let all = rests-more (h ++ e ∷ []) more joined one.rest in
      subst (RestsOn h) (append_assoc h (e ∷ []) more) (record {
        rest = all.rest;
        calls = all.calls ∙ one.calls;
        ends = all.ends ∙ one.ends;
      })
