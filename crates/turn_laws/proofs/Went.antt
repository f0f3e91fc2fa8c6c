-- What the parts of a controller's turn add to its lists.
use Rattle.std.proofs.Common.{◌≡◌, ℕ, ◌+◌, Bool, true, false, List, [], ◌∷◌, ◌++◌, map}
use Rattle.std.proofs.Common.{filter, filter_map, Option, Some, None, refl, sym, ap, subst, ◌∙◌}
use Rattle.std.proofs.Common.{append_assoc, append-nil}
use Rattle.std.specs.Prelude.{◌||◌, if◌then◌else◌}
use Rattle.std.specs.List.{cons_option, list_any, AllByRecursion as Each}
use Rattle.std.proofs.lemmas.List.Folds.{list_any-append}
use Rattle.mstr_block.specs.Call.{is_same_call}
use Rattle.mstr_block.specs.declared.call.CallId.{CallId}
use Rattle.mstr_block.specs.declared.call.MstrResult.{MstrResult}
use Rattle.mstr_block.specs.declared.call.MstrResult.TheVariants.{Bad}
use Rattle.plant_types.specs.declared.net.NetPlan.{NetPlan}
use Rattle.ring_core.specs.declared.entry.LocalOp.{LocalOp}
use Rattle.ring_core.specs.declared.entry.RingEntry.{RingEntry}
use Rattle.ring_core.specs.declared.entry.RingEntry.TheVariants.{Post, Send, Take, Local, GiveUp}
use Rattle.ring_core.specs.declared.entry.RingEntry.TheVariants.{Pass, Leave, Join}
use Rattle.ring_core.specs.declared.frame.FrameKind.{FrameKind}
use Rattle.ring_core.specs.declared.frame.FrameKind.TheVariants.{Request, Reply}
use Rattle.ring_core.specs.declared.frame.Frame.{Frame}
use Rattle.ring_core.specs.Statistics.{is_for_stats}
use Rattle.controller_core.specs.declared.call.Call.{Call}
use Rattle.controller_core.specs.declared.call.CallKind.{CallKind}
use Rattle.controller_core.specs.declared.call.CallKind.TheVariants as kinds
use Rattle.controller_core.specs.declared.entry.Entry.{Entry}
use Rattle.controller_core.specs.declared.entry.Entry.TheVariants as entries
use Rattle.controller_core.specs.declared.fixed.Fixed.{Fixed}
use Rattle.controller_core.specs.Event.{peer_entry}
use Rattle.tied_lists.specs.Calls.{NoEnd}
use Rattle.tied_lists.specs.Items.{Called, Ended, Items, Kind, LocalCall, NetCall, kind_in}
use Rattle.tied_lists.specs.Items.{kind_of_sort, no_items, with_calls, with_fails}
use Rattle.tied_lists.specs.Own.{is_of, own, Grew, WentOn}
use Rattle.tied_lists.proofs.Asked.{kind-more}
use Rattle.tied_lists.proofs.Growth.{grew-ours}
use Rattle.joint_history.specs.Reading.{called_of, has_started_at, is_ours, item_next, items_after}
use Rattle.joint_history.specs.Reading.{items_of, sort_of}
use Rattle.comm_port.specs.Parts.{InOrder, PartOf}
use Rattle.comm_port.specs.HoldTurn.{Collects, CollectsIf, IsEnded, IsGivenUp, IsMade}
use Rattle.comm_port.specs.Giving.{each_path}
use Rattle.comm_port.specs.SendsAll.{IsNextSending}
use Rattle.comm_port.proofs.Parts.{each-added}
use Rattle.comm_port.specs.HoldTurn.{IsServed, MadeAs, EndedAs, SendsAll, ServedAs, finish_of}
use Rattle.comm_port.specs.HoldTurn.{reply_entries}
use Rattle.turn_laws.specs.KeepsOn.{DidAtHome}
use Rattle.turn_laws.proofs.Passes.{IsInner, each-join}
use Rattle.turn_laws.proofs.Rests.{end-none, items-join, over}

-- ---- items of what a controller notes

abbrev pub is_collect : Entry → Bool
is_collect (entries.Collect calls) = true
is_collect _ = false

abbrev pub IsNoCollect : Entry → Type 0
IsNoCollect e = is_collect e ≡ false

-- what comes behind them leaves how often power failed
fails-apart : (a : Items) (k fails : ℕ) (xs : List Entry)
    → with_fails (items_after (with_fails a k) xs) fails ≡ with_fails (items_after a xs) fails
fails-apart a k fails [] = refl
fails-apart a k fails (entries.Begin ∷ xs) = fails-apart a k fails xs
fails-apart a k fails (entries.Input row ∷ xs) = fails-apart a k fails xs
fails-apart a k fails (entries.Solve row ∷ xs) = fails-apart a k fails xs
fails-apart a k fails (entries.Output row words ∷ xs) = fails-apart a k fails xs
fails-apart a k fails (entries.End ∷ xs) = fails-apart a k fails xs
fails-apart a k fails (entries.Fail ∷ xs) =
    fails-apart a (k + 1) fails xs ∙ sym (fails-apart a (a.fails + 1) fails xs)
fails-apart a k fails (entries.Dark ∷ xs) = fails-apart a k fails xs
fails-apart a k fails (entries.Collect calls ∷ xs) =
    fails-apart (item_next a (entries.Collect calls)) k fails xs
fails-apart a k fails (entries.Peer id request reply ∷ xs) =
    fails-apart (item_next a (entries.Peer id request reply)) k fails xs
fails-apart a k fails (entries.Off id request ∷ xs) =
    fails-apart (item_next a (entries.Off id request)) k fails xs
fails-apart a k fails (entries.Finish id result ∷ xs) =
    fails-apart (item_next a (entries.Finish id result)) k fails xs

-- events of the scan are none but power failures
items-ours : (a : Items) (xs : List Entry) → (fails : ℕ)
    × (items_after a xs ≡ with_fails (items_after a (filter is_ours xs)) fails)
items-ours a [] = (a.fails, refl)
items-ours a (entries.Begin ∷ xs) = items-ours a xs
items-ours a (entries.Input row ∷ xs) = items-ours a xs
items-ours a (entries.Solve row ∷ xs) = items-ours a xs
items-ours a (entries.Output row words ∷ xs) = items-ours a xs
items-ours a (entries.End ∷ xs) = items-ours a xs
items-ours a (entries.Fail ∷ xs) =
    let more = items-ours (with_fails a (a.fails + 1)) xs in
    (more.0, more.1 ∙ fails-apart a (a.fails + 1) more.0 (filter is_ours xs))
items-ours a (entries.Dark ∷ xs) = items-ours a xs
items-ours a (entries.Collect calls ∷ xs) = items-ours (item_next a (entries.Collect calls)) xs
items-ours a (entries.Peer id request reply ∷ xs) =
    items-ours (item_next a (entries.Peer id request reply)) xs
items-ours a (entries.Off id request ∷ xs) =
    items-ours (item_next a (entries.Off id request)) xs
items-ours a (entries.Finish id result ∷ xs) =
    items-ours (item_next a (entries.Finish id result)) xs

pub items-grew : (h more noted : List Entry) → filter is_ours more ≡ noted → (fails : ℕ)
    × (items_of (h ++ more) ≡ with_fails (items_after (items_of h) noted) fails)
items-grew h more noted are =
    let own = items-ours (items_of h) more in (
      own.0,
      items-join no_items h more ∙ own.1
          ∙ ap (λ (l : List Entry). with_fails (items_after (items_of h) l) own.0) are,
    )

-- how often power failed has no part in it
home-fails : (a : Items) (fails : ℕ) → DidAtHome a → DidAtHome (with_fails a fails)
home-fails a fails did id op out =
    did id op (record { made = out.made; unended = out.unended })

home-grew : (h more noted : List Entry) → filter is_ours more ≡ noted
    → DidAtHome (items_after (items_of h) noted) → DidAtHome (items_of (h ++ more))
home-grew h more noted are did =
    let grew = items-grew h more noted are in
    subst DidAtHome (sym grew.1) (home-fails (items_after (items_of h) noted) grew.0 did)

-- ---- operations at home that are done

front-none : (id : CallId) (ends more : List Ended) → NoEnd id (ends ++ more) → NoEnd id ends
front-none id [] more none = tt
front-none id (e ∷ ends) more none = (none.0, front-none id ends more none.1)

-- what is noted without a Collect
record Notes (a b : Items) : Type 0 where
  calls : b.calls ≡ a.calls
  ends : (id : CallId) → NoEnd id b.ends → NoEnd id a.ends

notes-one : (a : Items) (e : Entry) → IsNoCollect e → Notes a (item_next a e)
notes-one a entries.Begin quiet_e = record { calls = refl; ends = λ id none. none }
notes-one a (entries.Input row) quiet_e = record { calls = refl; ends = λ id none. none }
notes-one a (entries.Solve row) quiet_e = record { calls = refl; ends = λ id none. none }
notes-one a (entries.Output row words) quiet_e = record { calls = refl; ends = λ id none. none }
notes-one a entries.End quiet_e = record { calls = refl; ends = λ id none. none }
notes-one a entries.Fail quiet_e = record { calls = refl; ends = λ id none. none }
notes-one a entries.Dark quiet_e = record { calls = refl; ends = λ id none. none }
notes-one a (entries.Collect calls) quiet_e = absurd (let no' : true ≡ false = quiet_e in cc)
notes-one a (entries.Peer id request reply) quiet_e =
    record { calls = refl; ends = λ id none. none }
notes-one a (entries.Off id request) quiet_e =
    record { calls = refl; ends = λ id none. none }
notes-one a (entries.Finish id result) quiet_e =
    record { calls = refl; ends = λ name none. front-none name a.ends _ none }

notes-all : (a : Items) (xs : List Entry) → Each IsNoCollect xs → Notes a (items_after a xs)
notes-all a [] quiet_e = record { calls = refl; ends = λ id none. none }
notes-all a (e ∷ xs) quiet_e =
    let one = notes-one a e quiet_e.0 in
    let all = notes-all (item_next a e) xs quiet_e.1 in
    record { calls = all.calls ∙ one.calls; ends = λ id none. one.ends id (all.ends id none) }

home-notes : (a : Items) (xs : List Entry) → Each IsNoCollect xs → DidAtHome a
    → DidAtHome (items_after a xs)
home-notes a xs quiet_e did id op out =
    let n = notes-all a xs quiet_e in
    did id op (record {
      made = ap (λ (cs : List Called). kind_in cs id) (sym n.calls) ∙ out.made;
      unended = n.ends id out.unended;
    })

-- a call finishes among these
abbrev finishes : CallId → Entry → Bool
finishes id (entries.Finish name result) = is_same_call name id
finishes id _ = false

finish-ends : (id : CallId) (a : Items) (xs : List Entry) → Each IsNoCollect xs
    → list_any (finishes id) xs ≡ true → NoEnd id (items_after a xs).ends → ⊥
finish-ends id a [] quiet_e some none = let no' : false ≡ true = some in cc
finish-ends id a (e ∷ xs) quiet_e some none =
    at (finishes id e) refl some (λ some'. finish-ends id (item_next a e) xs quiet_e.1 some' none)
  where
    at : (b : Bool) → finishes id e ≡ b → (b || list_any (finishes id) xs) ≡ true
        → (list_any (finishes id) xs ≡ true → ⊥) → ⊥
    at false is some' rest = rest some'
    at true is some' rest = ended e is
        (end-none id (item_next a e).ends ((notes-all (item_next a e) xs quiet_e.1).ends id none))
      where
        last : (ends : List Ended) (x : Ended) → is_same_call x.id id ≡ true
            → over id (ends ++ x ∷ []) ≡ false → ⊥
        last ends x same none' =
            let all = sym (list_any-append (λ (y : Ended). is_same_call y.id id) ends (x ∷ []))
            ∙ none' in
            let here : (over id ends || (true || false)) ≡ false =
            ap (λ y. over id ends || (y || false)) (sym same) ∙ all in
            no-or (over id ends) here
          where
            no-or : (x' : Bool) → (x' || (true || false)) ≡ false → ⊥
            no-or true is' = let no' : true ≡ false = is' in cc
            no-or false is' = let no' : true ≡ false = is' in cc

        ended : (x : Entry) → finishes id x ≡ true → over id (item_next a x).ends ≡ false → ⊥
        ended entries.Begin is' none' = let no' : false ≡ true = is' in cc
        ended (entries.Input row) is' none' = let no' : false ≡ true = is' in cc
        ended (entries.Solve row) is' none' = let no' : false ≡ true = is' in cc
        ended (entries.Output row words) is' none' = let no' : false ≡ true = is' in cc
        ended entries.End is' none' = let no' : false ≡ true = is' in cc
        ended entries.Fail is' none' = let no' : false ≡ true = is' in cc
        ended entries.Dark is' none' = let no' : false ≡ true = is' in cc
        ended (entries.Collect calls) is' none' = let no' : false ≡ true = is' in cc
        ended (entries.Peer name request reply) is' none' = let no' : false ≡ true = is' in cc
        ended (entries.Off name request) is' none' = let no' : false ≡ true = is' in cc
        ended (entries.Finish name result) is' none' = last a.ends _ is' none'

-- ---- what is due, in order

-- what is noted and done to each
pub record IsQuiet (noted : List Entry) (done : List RingEntry) : Type 0 where
  pub notes : Each IsNoCollect noted
  pub does : Each IsInner done

quiet-as : (noted noted' : List Entry) (done done' : List RingEntry) → noted ≡ noted' → done ≡ done'
    → IsQuiet noted' done' → IsQuiet noted done
quiet-as noted noted' done done' p q is =
    subst (λ l. IsQuiet l done) (sym p) (subst (IsQuiet noted') (sym q) is)

quiet-none : IsQuiet [] []
quiet-none = record { notes = tt; does = tt }

quiet-join : (noted noted' : List Entry) (done done' : List RingEntry) → IsQuiet noted done
    → IsQuiet noted' done' → IsQuiet (noted ++ noted') (done ++ done')
quiet-join noted noted' done done' p q = record {
  notes = each-join IsNoCollect noted noted' p.notes q.notes;
  does = each-join IsInner done done' p.does q.does;
}

in-order : {X : Type 0} (Due : X → List Entry → List RingEntry → Type 0)
    → ((x : X) (noted : List Entry) (done : List RingEntry) → Due x noted done → IsQuiet noted done)
    → (xs : List X) (noted : List Entry) (done : List RingEntry) → InOrder Due xs noted done
    → IsQuiet noted done
in-order Due quiet [] noted done is = quiet-as noted [] done [] is.0 is.1 quiet-none
in-order Due quiet (x ∷ xs) noted done is =
    quiet-as noted (is.0 ++ is.1) done (is.2 ++ is.3) is.4 is.5
    (quiet-join is.0 is.1 is.2 is.3 (quiet x is.0 is.2 is.6) (in-order Due quiet xs is.1 is.3 is.7))

served-quiet : (n : ℕ) (f : Frame) (kind : FrameKind) (stats : Bool) (noted : List Entry)
    (done : List RingEntry)
    → ServedAs kind stats n f noted done → IsQuiet noted done
served-quiet n f Reply stats noted done is =
    quiet-as noted _ done _ is.1 is.2 (record { notes = (refl, tt); does = (refl, tt) })
served-quiet n f Request true noted done is =
    quiet-as noted _ done _ is.3 is.4 (record { notes = tt; does = (refl, (refl, (refl, tt))) })
served-quiet n f Request false noted done is = quiet-as noted _ done _ is.1 is.2 (by-reply is.0)
  where
    by-reply : (reply : Option (List ℕ))
        → IsQuiet (peer_entry f.id f.pdu reply ∷ []) (Take n f ∷ reply_entries n f.id reply)
    by-reply None = record { notes = (refl, tt); does = (refl, tt) }
    by-reply (Some reply) = record { notes = (refl, tt); does = (refl, (refl, tt)) }

is_served-quiet : (n : ℕ) (f : Frame) (noted : List Entry) (done : List RingEntry)
    → IsServed n f noted done → IsQuiet noted done
is_served-quiet n f noted done is = served-quiet n f f.kind (is_for_stats f) noted done is

given-quiet : (id : CallId) (noted : List Entry) (done : List RingEntry) → IsGivenUp id noted done
    → IsQuiet noted done
given-quiet id noted done is =
    quiet-as noted _ done _ is.1 is.2 (record { notes = (refl, tt); does = (refl, tt) })

-- a call at home finishes at once
record MakesCall (call : Call) (noted : List Entry) (done : List RingEntry) : Type 0 where
  quiet : IsQuiet noted done
  home : (op : LocalOp) → kind_of_sort (sort_of call.kind) ≡ LocalCall op
      → list_any (finishes call.id) noted ≡ true

finish-here : (id : CallId) (noted : List Entry) (result : MstrResult)
    → noted ≡ entries.Finish id result ∷ [] → list_any (finishes id) noted ≡ true
finish-here id noted result is = ap (list_any (finishes id)) is
    ∙ ap (λ b. b || false) (Rattle.turn_laws.proofs.Rests.same-refl id)

made-call : (n : ℕ) (call : Call) (kind : CallKind) → call.kind ≡ kind
    → (noted : List Entry) (done : List RingEntry)
    → MadeAs kind n call.id noted done → MakesCall call noted done
made-call n call (kinds.Net route pdu) kind noted done is = record {
  quiet = quiet-as noted _ done _ is.0 is.1 (record { notes = tt; does = (refl, tt) });
  home = λ op local. absurd (let no' : NetCall ≡ LocalCall op =
      ap (λ k. kind_of_sort (sort_of k)) (sym kind) ∙ local in cc);
}
made-call n call (kinds.Local op) kind noted done is = record {
  quiet = quiet-as noted _ done _ is.1 is.2 (record { notes = (refl, tt); does = (refl, tt) });
  home = λ other local. finish-here call.id noted is.0 is.1;
}

is_made-call : (n : ℕ) (call : Call) (noted : List Entry) (done : List RingEntry)
    → IsMade n call noted done → MakesCall call noted done
is_made-call n call noted done is = made-call n call call.kind refl noted done is

ended-call : (n : ℕ) (call : Call) (kind : CallKind) → call.kind ≡ kind
    → (noted : List Entry) (done : List RingEntry)
    → EndedAs kind n call.id noted done → MakesCall call noted done
ended-call n call (kinds.Net route pdu) kind noted done is = record {
  quiet = quiet-as noted _ done _ is.1 is.2
      (record { notes = (refl, tt); does = (refl, (refl, tt)) });
  home = λ op local. finish-here call.id noted _ is.1;
}
ended-call n call (kinds.Local op) kind noted done is =
    made-call n call (kinds.Local op) kind noted done is

is_ended-call : (n : ℕ) (call : Call) (noted : List Entry) (done : List RingEntry)
    → IsEnded n call noted done → MakesCall call noted done
is_ended-call n call noted done is = ended-call n call call.kind refl noted done is

-- ---- calls that are collected and made

or-left : (x y : Bool) → x ≡ true → (x || y) ≡ true
or-left x y is = ap (λ b. b || y) is

or-right : (x y : Bool) → y ≡ true → (x || y) ≡ true
or-right true y is = refl
or-right false y is = is

module _ (Due : Call → List Entry → List RingEntry → Type 0)
    (makes : (call : Call) (noted : List Entry) (done : List RingEntry) → Due call noted done
    → MakesCall call noted done) where
  -- a call at home among those collected finishes
  homes : (id : CallId) (op : LocalOp) (calls : List Call) (noted : List Entry)
      (done : List RingEntry) → InOrder Due calls noted done
      → kind_in (map called_of calls) id ≡ Some (LocalCall op) → list_any (finishes id) noted ≡ true
  homes id op [] noted done is kind = absurd (let no' : None ≡ Some (LocalCall op) = kind in cc)
  homes id op (call ∷ calls) noted done is kind =
      ap (list_any (finishes id)) is.4 ∙ list_any-append (finishes id) is.0 is.1
      ∙ at (is_same_call call.id id) refl kind (homes id op calls is.1 is.3 is.7)
    where
      some : {X : Type 0} {x y : X} → Some x ≡ Some y → x ≡ y
      some same = cc

      at : (b : Bool) → is_same_call call.id id ≡ b
          → (if b then Some (kind_of_sort (sort_of call.kind))
          else kind_in (map called_of calls) id) ≡ Some (LocalCall op)
          → (kind_in (map called_of calls) id ≡ Some (LocalCall op)
          → list_any (finishes id) is.1 ≡ true)
          → (list_any (finishes id) is.0 || list_any (finishes id) is.1) ≡ true
      at true same found rest =
          or-left (list_any (finishes id) is.0) (list_any (finishes id) is.1)
          (ap (λ name. list_any (finishes name) is.0)
          (sym (Rattle.turn_laws.proofs.Rests.same-equal call.id id same))
          ∙ (makes call is.0 is.2 is.6).home op (some found))
      at false same found rest =
          or-right (list_any (finishes id) is.0) (list_any (finishes id) is.1) (rest found)

  -- what is due to a Collect, as far as its node's entries
  collects-done : (b : Bool) (noted : List Entry) (done : List RingEntry)
      → CollectsIf b Due noted done → Each IsInner done
  collects-done true noted done is =
      (in-order Due (λ x l m d. (makes x l m d).quiet) is.0 is.1 done is.3).does
  collects-done false noted done is = subst (Each IsInner) (sym is.1) tt

  other-kind : (calls more : List Called) (id : CallId) (kind : Kind)
      → kind_in (calls ++ more) id ≡ Some kind → kind_in calls id ≡ None
      → kind_in more id ≡ Some kind
  other-kind [] more id kind is none = is
  other-kind (c ∷ calls) more id kind is none = at (is_same_call c.id id) is none
      (other-kind calls more id kind)
    where
      at : (b : Bool)
          → (if b then Some (kind_of_sort c.sort) else kind_in (calls ++ more) id) ≡ Some kind
          → (if b then Some (kind_of_sort c.sort) else kind_in calls id) ≡ None
          → (kind_in (calls ++ more) id ≡ Some kind → kind_in calls id ≡ None
          → kind_in more id ≡ Some kind) → kind_in more id ≡ Some kind
      at true is' none' rest = absurd (let no' : Some (kind_of_sort c.sort) ≡ None = none' in cc)
      at false is' none' rest = rest is' none'

  collects-home : (b : Bool) (a : Items) (noted : List Entry) (done : List RingEntry)
      → CollectsIf b Due noted done → DidAtHome a
      → DidAtHome (items_after a noted)
  collects-home false a noted done is did = subst (λ l. DidAtHome (items_after a l)) (sym is.0) did
  collects-home true a noted done is did = subst (λ l. DidAtHome (items_after a l)) (sym is.2) after
    where
      calls : List Call
      calls = is.0

      rest : List Entry
      rest = is.1

      middle : Items
      middle = with_calls a (map called_of calls)

      quiet_e : Each IsNoCollect rest
      quiet_e = (in-order Due (λ x l m d. (makes x l m d).quiet) calls rest done is.3).notes

      after : DidAtHome (items_after middle rest)
      after id op out = at (kind_in a.calls id) refl
        where
          n : Notes middle (items_after middle rest)
          n = notes-all middle rest quiet_e

          kind : kind_in (a.calls ++ map called_of calls) id ≡ Some (LocalCall op)
          kind = ap (λ (cs : List Called). kind_in cs id) (sym n.calls) ∙ out.made

          some : {X : Type 0} {x y : X} → Some x ≡ Some y → x ≡ y
          some same = cc

          at : (o : Option Kind) → kind_in a.calls id ≡ o → ⊥
          at (Some k) was =
              did id op (record {
                made = was ∙ sym (kind-more a.calls (map called_of calls) id k was) ∙ kind;
                unended = n.ends id out.unended;
              })
          at None was =
              finish-ends id middle rest quiet_e
              (homes id op calls rest done is.3
              (other-kind a.calls (map called_of calls) id (LocalCall op) kind was)) out.unended

-- ---- lists that went on

-- a controller's list and its node's own list went on without a Pass
pub record Went (n : ℕ) (known new_known : List Entry)
    (ring new_ring : List RingEntry) : Type 0 where
  pub more : List Entry
  pub known_is : new_known ≡ known ++ more
  pub done : List RingEntry
  pub own_is : own n new_ring ≡ own n ring ++ done
  pub quiet : Each IsInner done
  pub home : DidAtHome (items_of known) → DidAtHome (items_of new_known)

pub went-then : (n : ℕ) (a b c : List Entry) (x y z : List RingEntry) → Went n a b x y
    → Went n b c y z → Went n a c x z
went-then n a b c x y z one two = record {
  more = one.more ++ two.more;
  known_is = two.known_is ∙ ap (λ l. l ++ two.more) one.known_is ∙ append_assoc a one.more two.more;
  done = one.done ++ two.done;
  own_is = two.own_is ∙ ap (λ l. l ++ two.done) one.own_is
      ∙ append_assoc (own n x) one.done two.done;
  quiet = each-join IsInner one.done two.done one.quiet two.quiet;
  home = λ did. two.home (one.home did);
}

pub went-ask : (n : ℕ) (alone : Bool) (a b : List Entry) (x : List RingEntry)
    → WentOn alone is_ours a [] b → Went n a b x x
went-ask n alone a b x w = record {
  more = w.between;
  known_is = w.after_is ∙ append-nil (a ++ w.between);
  done = [];
  own_is = sym (append-nil (own n x));
  quiet = tt;
  home = λ did. subst (λ (l : List Entry). DidAtHome (items_of l))
      (sym (w.after_is ∙ append-nil (a ++ w.between))) (home-grew a w.between [] w.others did);
}

-- by what is due
went-due : (n : ℕ) (alone alone' : Bool) (noted : List Entry) (done : List RingEntry)
    (a b : List Entry) (x y : List RingEntry)
    → Grew alone is_ours a noted b → Grew alone' (is_of n) x done y → Each IsInner done
    → (DidAtHome (items_of a) → DidAtHome (items_after (items_of a) noted)) → Went n a b x y
went-due n alone alone' noted done a b x y g h quiet home = record {
  more = g.more;
  known_is = g.after_is;
  done = done;
  own_is = grew-ours alone' (is_of n) x done y h;
  quiet = quiet;
  home = λ did. subst (λ (l : List Entry). DidAtHome (items_of l)) (sym g.after_is)
      (home-grew a g.more noted g.ours_are (home did));
}

pub went-part : {X : Type 0} (n : ℕ) (alone alone' : Bool)
    (Due : X → List Entry → List RingEntry → Type 0)
    → ((x : X) (noted : List Entry) (done : List RingEntry) → Due x noted done → IsQuiet noted done)
    → (xs : List X)
    (a b : List Entry) (x y : List RingEntry)
    → PartOf alone alone' is_ours n (InOrder Due xs) a b x y → Went n a b x y
went-part n alone alone' Due quiet xs a b x y p =
    let is = in-order Due quiet xs p.noted p.done p.due in
    went-due n alone alone' p.noted p.done a b x y p.station p.node is.does
    (home-notes (items_of a) p.noted is.notes)

went-collects : (n : ℕ) (alone alone' : Bool) (fixed : Fixed)
    (Due : Call → List Entry → List RingEntry → Type 0)
    → ((call : Call) (noted : List Entry) (done : List RingEntry) → Due call noted done
    → MakesCall call noted done)
    → (a b : List Entry) (x y : List RingEntry) → Collects alone alone' fixed n Due a b x y
    → Went n a b x y
went-collects n alone alone' fixed Due makes a b x y c =
    let p = c.goes in
    let started = has_started_at fixed c.asked in
    went-then n a c.asked b x x y (went-ask n alone a c.asked x c.asks)
    (went-due n alone alone' p.noted p.done c.asked b x y p.station p.node
    (collects-done Due makes started p.noted p.done p.due)
    (collects-home Due makes started (items_of c.asked) p.noted p.done p.due))

-- ---- the parts

pub went-serves : (n : ℕ) (alone alone' : Bool) (fs : List Frame) (a b : List Entry)
    (x y : List RingEntry)
    → PartOf alone alone' is_ours n (InOrder (IsServed n) fs) a b x y → Went n a b x y
went-serves n alone alone' fs a b x y p =
    went-part n alone alone' (IsServed n) (is_served-quiet n) fs a b x y p

pub went-calls : (n : ℕ) (alone alone' : Bool) (fixed : Fixed) (a b : List Entry)
    (x y : List RingEntry)
    → Collects alone alone' fixed n (IsMade n) a b x y → Went n a b x y
went-calls n alone alone' fixed a b x y c =
    went-collects n alone alone' fixed (IsMade n) (is_made-call n) a b x y c

pub went-visit : (n : ℕ) (alone alone' : Bool) (fixed : Fixed) (a b : List Entry)
    (x y : List RingEntry)
    → Collects alone alone' fixed n (IsEnded n) a b x y → Went n a b x y
went-visit n alone alone' fixed a b x y c =
    went-collects n alone alone' fixed (IsEnded n) (is_ended-call n) a b x y c

pub went-gives : (n : ℕ) (alone alone' : Bool) (ids : List CallId) (a b : List Entry)
    (x y : List RingEntry)
    → PartOf alone alone' is_ours n (InOrder IsGivenUp ids) a b x y → Went n a b x y
went-gives n alone alone' ids a b x y p =
    went-part n alone alone' IsGivenUp given-quiet ids a b x y p

-- what is sent
sending-quiet : (net : NetPlan) (n : ℕ) (past : List RingEntry) (e : RingEntry)
    → IsNextSending net n each_path past e → IsInner e
sending-quiet net n past (Post m f) is = refl
sending-quiet net n past (Send m heard) is = refl
sending-quiet net n past (Take m f) is = refl
sending-quiet net n past (Local m id op result) is = refl
sending-quiet net n past (GiveUp id word) is = refl
sending-quiet net n past (Pass m done words) is = absurd is
sending-quiet net n past (Leave m cause) is = absurd is
sending-quiet net n past (Join m) is = absurd is

finish-notes : (o : Option Entry) (e : RingEntry) → finish_of e ≡ o → (rest : List Entry)
    → Each IsNoCollect rest → Each IsNoCollect (cons_option o rest)
finish-notes None e is rest all = all
finish-notes (Some x) e is rest all = (at e is, all)
  where
    at : (e' : RingEntry) → finish_of e' ≡ Some x → IsNoCollect x
    at (Post m f) is' = absurd (let no' : None ≡ Some x = is' in cc)
    at (Send m heard) is' = absurd (let no' : None ≡ Some x = is' in cc)
    at (Take m f) is' = absurd (let no' : None ≡ Some x = is' in cc)
    at (Local m id op result) is' = absurd (let no' : None ≡ Some x = is' in cc)
    at (GiveUp id word) is' =
        let same : entries.Finish id (Bad word) ≡ x = cc in ap is_collect (sym same)
    at (Pass m done words) is' = absurd (let no' : None ≡ Some x = is' in cc)
    at (Leave m cause) is' = absurd (let no' : None ≡ Some x = is' in cc)
    at (Join m) is' = absurd (let no' : None ≡ Some x = is' in cc)

all-notes : (done : List RingEntry) → Each IsNoCollect (filter_map finish_of done)
all-notes [] = tt
all-notes (e ∷ done) =
    finish-notes (finish_of e) e refl (filter_map finish_of done) (all-notes done)

pub went-sends : (n : ℕ) (alone alone' : Bool) (net : NetPlan) (a b : List Entry)
    (x y : List RingEntry) → SendsAll alone alone' net n a b x y → Went n a b x y
went-sends n alone alone' net a b x y s =
    let frames = s.frames in
    went-due n alone alone' (filter_map finish_of frames.done) frames.done a b x y s.finishes
    frames.grew
    (each-added alone' n (IsNextSending net n each_path) IsInner (sending-quiet net n) x frames.done
    y frames.grew frames.each)
    (home-notes (items_of a) (filter_map finish_of frames.done) (all-notes frames.done))
