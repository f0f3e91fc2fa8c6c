-- What the parts of a turn of a bridge's end add to its lists.
use Rattle.std.proofs.Common.{◌≡◌, ℕ, Bool, true, false, List, [], ◌∷◌, ◌++◌, filter_map, refl}
use Rattle.std.proofs.Common.{sym, subst}
use Rattle.std.specs.List.{AllByRecursion as Each}
use Rattle.plant_types.specs.declared.net.NetPlan.{NetPlan}
use Rattle.mstr_block.specs.declared.call.CallId.{CallId}
use Rattle.bridge_relay.specs.declared.entry.BridgeEntry.{BridgeEntry}
use Rattle.bridge_relay.specs.declared.entry.BridgeEntry.TheVariants.{Accept, Forward, Finish}
use Rattle.bridge_relay.specs.declared.entry.BridgeEntry.TheVariants.{Back, Gone}
use Rattle.bridge_relay.specs.declared.entry.RelayResult.TheVariants as results
use Rattle.bridge_relay.specs.Laws.{is_by}
use Rattle.ring_core.specs.Statistics.{is_for_stats}
use Rattle.ring_core.specs.declared.frame.FrameKind.{FrameKind}
use Rattle.ring_core.specs.declared.frame.FrameKind.TheVariants.{Request, Reply}
use Rattle.ring_core.specs.declared.frame.Frame.{Frame}
use Rattle.ring_core.specs.declared.path.Path.{Path}
use Rattle.ring_core.specs.declared.entry.RingEntry.{RingEntry}
use Rattle.ring_core.specs.declared.entry.RingEntry.TheVariants.{Post, Send, Take, Local, GiveUp}
use Rattle.ring_core.specs.declared.entry.RingEntry.TheVariants.{Pass, Leave, Join}
use Rattle.tied_lists.specs.Own.{Grew, WentOn, is_of}
use Rattle.tied_lists.proofs.Boxes.{CameOn, HasCome}
use Rattle.tied_lists.proofs.Growth.{grew-more, grew-one}
use Rattle.turn_laws.specs.CommPort.{each_path, InOrder, IsNextSending, IsSending, PartOf}
use Rattle.turn_laws.proofs.CommPort.{each-added, grew-none}
use Rattle.joint_history.specs.Complete.{IsQuiet}
use Rattle.end_times.specs.BridgePort.{are_some, finish_at_end, post_of, ArePosted, EndGivesUp}
use Rattle.end_times.specs.BridgePort.{EndSendsAll, EndServes, EndServesAs, IsBackEntry}
use Rattle.end_times.specs.BridgePort.{IsForwardEntry}
use Rattle.end_laws.proofs.Silent.{IsNoForward, IsOfNoCall}
use Rattle.turn_laws.proofs.Passes.{IsInner, each-join}

-- what is added to both lists: no Pass and no Leave; where this says that nothing was sent on, no
-- Forward; and where no call goes out or ends, nothing that is asked or given up
pub record AddsInTurn (posted : Bool) (noted : List BridgeEntry) (done : List RingEntry)
    : Type 0 where
  pub inner : Each IsInner done
  pub calm : posted ≡ false → Each IsNoForward noted
  pub quiet : Each IsOfNoCall noted → Each IsQuiet done

adds-none : (posted : Bool) → AddsInTurn posted [] []
adds-none posted = record { inner = tt; calm = λ is. tt; quiet = λ none. tt }

front-each : {X : Type 0} (P : X → Type 0) (xs ys : List X) → Each P (xs ++ ys)
    → Each P xs × Each P ys
front-each P [] ys all = (tt, all)
front-each P (x ∷ xs) ys all =
    let rest = front-each P xs ys all.1 in ((all.0, rest.0), rest.1)

adds-both : (posted : Bool) (xs ys : List BridgeEntry) (one two : List RingEntry)
    → AddsInTurn posted xs one → AddsInTurn posted ys two
    → AddsInTurn posted (xs ++ ys) (one ++ two)
adds-both posted xs ys one two a b = record {
  inner = each-join IsInner one two a.inner b.inner;
  calm = λ is. each-join IsNoForward xs ys (a.calm is) (b.calm is);
  quiet = λ none.
      let parts = front-each IsOfNoCall xs ys none in
      each-join IsQuiet one two (a.quiet parts.0) (b.quiet parts.1);
}

-- both lists went on
pub record EndWent (alone alone' posted : Bool) (n : ℕ) (a b : List BridgeEntry)
    (x y : List RingEntry) : Type 0 where
  pub noted : List BridgeEntry
  pub done : List RingEntry
  pub station : Grew alone (is_by n) a noted b
  pub node : Grew alone' (is_of n) x done y
  pub adds : AddsInTurn posted noted done

pub went-then : (alone alone' posted : Bool) (n : ℕ) (a b d : List BridgeEntry)
    (x y z : List RingEntry) → EndWent alone alone' posted n a b x y
    → EndWent alone alone' posted n b d y z → EndWent alone alone' posted n a d x z
went-then alone alone' posted n a b d x y z one two = record {
  noted = one.noted ++ two.noted;
  done = one.done ++ two.done;
  station = grew-more alone (is_by n) a b d one.noted two.noted one.station two.station;
  node = grew-more alone' (is_of n) x y z one.done two.done one.node two.node;
  adds = adds-both posted one.noted two.noted one.done two.done one.adds two.adds;
}

went-part : (alone alone' posted : Bool) (n : ℕ)
    (Due : List BridgeEntry → List RingEntry → Type 0)
    (a b : List BridgeEntry) (x y : List RingEntry)
    (p : PartOf alone alone' (is_by n) n Due a b x y) → AddsInTurn posted p.noted p.done
    → EndWent alone alone' posted n a b x y
went-part alone alone' posted n Due a b x y p adds = record {
  noted = p.noted;
  done = p.done;
  station = p.station;
  node = p.node;
  adds = adds;
}

-- ---- what came is served

serves-one : (posted : Bool) (n : ℕ) (ps : List Path) (f : Frame) (kind : FrameKind) (stats : Bool)
    (noted : List BridgeEntry) (done : List RingEntry) → CameOn n ps kind f.id
    → EndServesAs kind stats n f noted done → AddsInTurn posted noted done
serves-one posted n ps f Reply stats noted done came s =
    subst (λ l. AddsInTurn posted l done) (sym s.0)
    (subst (AddsInTurn posted (Finish n f.id (results.Reply f.pdu) ∷ [])) (sym s.1)
    (record { inner = (refl, tt); calm = λ is. (tt, tt); quiet = λ none. (tt, tt) }))
serves-one posted n ps f Request true noted done came s =
    subst (λ l. AddsInTurn posted l done) (sym s.3)
    (subst (AddsInTurn posted []) (sym s.4)
    (record {
      inner = (refl, (refl, (refl, tt)));
      calm = λ is. tt;
      quiet = λ none. (tt, (came, (refl, tt)));
    }))
serves-one posted n ps f Request false noted done came s =
    subst (λ l. AddsInTurn posted l done) (sym s.0)
    (subst (AddsInTurn posted (Accept n f.id f.rest f.pdu ∷ [])) (sym s.1)
    (record { inner = (refl, tt); calm = λ is. (tt, tt); quiet = λ none. (tt, tt) }))

serves-all : (posted : Bool) (n : ℕ) (ps : List Path) (fs : List Frame) (noted : List BridgeEntry)
    (done : List RingEntry) → Each (HasCome n ps) fs → InOrder (EndServes n) fs noted done
    → AddsInTurn posted noted done
serves-all posted n ps [] noted done came a =
    subst (λ l. AddsInTurn posted l done) (sym a.0)
    (subst (AddsInTurn posted []) (sym a.1) (adds-none posted))
serves-all posted n ps (f ∷ fs) noted done came a =
    subst (λ l. AddsInTurn posted l done) (sym a.4)
    (subst (AddsInTurn posted (a.0 ++ a.1)) (sym a.5)
    (adds-both posted a.0 a.1 a.2 a.3
    (serves-one posted n ps f f.kind (is_for_stats f) a.0 a.2 came.0 a.6)
    (serves-all posted n ps fs a.1 a.3 came.1 a.7)))

pub went-serves : (alone alone' posted : Bool) (n : ℕ) (ps : List Path) (fs : List Frame)
    (a b : List BridgeEntry) (x y : List RingEntry) → Each (HasCome n ps) fs
    → PartOf alone alone' (is_by n) n (InOrder (EndServes n) fs) a b x y
    → EndWent alone alone' posted n a b x y
went-serves alone alone' posted n ps fs a b x y came p =
    went-part alone alone' posted n (InOrder (EndServes n) fs) a b x y p
    (serves-all posted n ps fs p.noted p.done came p.due)

-- ---- what is posted

adds-backs : (posted : Bool) (n : ℕ) (noted : List BridgeEntry) → Each IsBackEntry noted
    → AddsInTurn posted noted (filter_map (post_of n) noted)
adds-backs posted n [] all = adds-none posted
adds-backs posted n (Back side id reply ∷ noted) all =
    let rest = adds-backs posted n noted all.1 in
    record {
      inner = (refl, rest.inner);
      calm = λ is. (tt, rest.calm is);
      quiet = λ none. (refl, rest.quiet none.1);
    }
adds-backs posted n (Accept side id route request ∷ noted) all = absurd all.0
adds-backs posted n (Forward side old id route request ∷ noted) all = absurd all.0
adds-backs posted n (Finish side id outcome ∷ noted) all = absurd all.0
adds-backs posted n (Gone side ∷ noted) all = absurd all.0

pub went-backs : (alone alone' posted : Bool) (n : ℕ) (a b : List BridgeEntry)
    (x y : List RingEntry) → PartOf alone alone' (is_by n) n (ArePosted IsBackEntry n) a b x y
    → EndWent alone alone' posted n a b x y
went-backs alone alone' posted n a b x y p =
    went-part alone alone' posted n (ArePosted IsBackEntry n) a b x y p
    (subst (AddsInTurn posted p.noted) (sym p.due.1) (adds-backs posted n p.noted p.due.0))

posts-inner : (n : ℕ) (noted : List BridgeEntry) → Each IsForwardEntry noted
    → Each IsInner (filter_map (post_of n) noted)
posts-inner n [] all = tt
posts-inner n (Forward side old id route request ∷ noted) all = (refl, posts-inner n noted all.1)
posts-inner n (Accept side id route request ∷ noted) all = absurd all.0
posts-inner n (Finish side id outcome ∷ noted) all = absurd all.0
posts-inner n (Back side id reply ∷ noted) all = absurd all.0
posts-inner n (Gone side ∷ noted) all = absurd all.0

adds-forwards : (n : ℕ) (noted : List BridgeEntry) → Each IsForwardEntry noted
    → AddsInTurn (are_some noted) noted (filter_map (post_of n) noted)
adds-forwards n [] all = adds-none false
adds-forwards n (Forward side old id route request ∷ noted) all = record {
  inner = posts-inner n (Forward side old id route request ∷ noted) all;
  calm = λ is. absurd (let bad : true ≡ false = is in cc);
  quiet = λ none. absurd none.0;
}
adds-forwards n (Accept side id route request ∷ noted) all = absurd all.0
adds-forwards n (Finish side id outcome ∷ noted) all = absurd all.0
adds-forwards n (Back side id reply ∷ noted) all = absurd all.0
adds-forwards n (Gone side ∷ noted) all = absurd all.0

pub went-forwards : (alone alone' : Bool) (n : ℕ) (a b : List BridgeEntry)
    (x y : List RingEntry)
    (p : PartOf alone alone' (is_by n) n (ArePosted IsForwardEntry n) a b x y)
    → EndWent alone alone' (are_some p.noted) n a b x y
went-forwards alone alone' n a b x y p =
    went-part alone alone' (are_some p.noted) n (ArePosted IsForwardEntry n) a b x y p
    (subst (AddsInTurn (are_some p.noted) p.noted) (sym p.due.1) (adds-forwards n p.noted p.due.0))

-- ---- what is sent

is-sending : (net : NetPlan) (n : ℕ) (past : List RingEntry) (e : RingEntry)
    → IsNextSending net n each_path past e → IsSending e
is-sending net n past (Post m f) is = is
is-sending net n past (Send m heard) is = tt
is-sending net n past (Take m f) is = is
is-sending net n past (Local m id op result) is = is
is-sending net n past (GiveUp id word) is = tt
is-sending net n past (Pass m done words) is = is
is-sending net n past (Leave m cause) is = is
is-sending net n past (Join m) is = is

adds-sends : (posted : Bool) (n : ℕ) (done : List RingEntry) → Each IsSending done
    → AddsInTurn posted (filter_map (finish_at_end n) done) done
adds-sends posted n [] all = adds-none posted
adds-sends posted n (Send m heard ∷ done) all =
    let rest = adds-sends posted n done all.1 in
    record {
      inner = (refl, rest.inner);
      calm = rest.calm;
      quiet = λ none. (tt, rest.quiet none);
    }
adds-sends posted n (GiveUp id word ∷ done) all =
    let rest = adds-sends posted n done all.1 in
    record {
      inner = (refl, rest.inner);
      calm = λ is. (tt, rest.calm is);
      quiet = λ none. absurd none.0;
    }
adds-sends posted n (Post m f ∷ done) all = absurd all.0
adds-sends posted n (Take m f ∷ done) all = absurd all.0
adds-sends posted n (Local m id op result ∷ done) all = absurd all.0
adds-sends posted n (Pass m says words ∷ done) all = absurd all.0
adds-sends posted n (Leave m cause ∷ done) all = absurd all.0
adds-sends posted n (Join m ∷ done) all = absurd all.0

pub went-sends : (alone alone' posted : Bool) (net : NetPlan) (n : ℕ) (a b : List BridgeEntry)
    (x y : List RingEntry) → EndSendsAll alone alone' net n a b x y
    → EndWent alone alone' posted n a b x y
went-sends alone alone' posted net n a b x y s = record {
  noted = filter_map (finish_at_end n) s.frames.done;
  done = s.frames.done;
  station = s.finishes;
  node = s.frames.grew;
  adds = adds-sends posted n s.frames.done
      (each-added alone' n (IsNextSending net n each_path) IsSending (is-sending net n) x
      s.frames.done y s.frames.grew s.frames.each);
}

-- ---- what is given up

adds-gives : (posted : Bool) (n : ℕ) (ids : List CallId) (noted : List BridgeEntry)
    (done : List RingEntry) → InOrder (EndGivesUp n) ids noted done → AddsInTurn posted noted done
adds-gives posted n [] noted done a =
    subst (λ l. AddsInTurn posted l done) (sym a.0)
    (subst (AddsInTurn posted []) (sym a.1) (adds-none posted))
adds-gives posted n (id ∷ ids) noted done a =
    let rest = adds-gives posted n ids a.1 a.3 a.7 in
    let one : AddsInTurn posted (Finish n id (results.Bad a.6.0) ∷ []) (GiveUp id a.6.0 ∷ []) =
    record { inner = (refl, tt); calm = λ is. (tt, tt); quiet = λ none. absurd none.0 } in
    subst (λ l. AddsInTurn posted l done) (sym a.4)
    (subst (AddsInTurn posted (a.0 ++ a.1)) (sym a.5)
    (adds-both posted a.0 a.1 a.2 a.3
    (subst (λ l. AddsInTurn posted l a.2) (sym a.6.1)
    (subst (AddsInTurn posted (Finish n id (results.Bad a.6.0) ∷ [])) (sym a.6.2) one)) rest))

pub went-gives : (alone alone' posted : Bool) (n : ℕ) (ids : List CallId) (a b : List BridgeEntry)
    (x y : List RingEntry) → PartOf alone alone' (is_by n) n (InOrder (EndGivesUp n) ids) a b x y
    → EndWent alone alone' posted n a b x y
went-gives alone alone' posted n ids a b x y p =
    went-part alone alone' posted n (InOrder (EndGivesUp n) ids) a b x y p
    (adds-gives posted n ids p.noted p.done p.due)

-- ---- what is asked

pub went-none : (alone alone' posted : Bool) (n : ℕ) (a b : List BridgeEntry)
    (x y : List RingEntry) → Grew alone (is_by n) a [] b → Grew alone' (is_of n) x [] y
    → EndWent alone alone' posted n a b x y
went-none alone alone' posted n a b x y station node = record {
  noted = [];
  done = [];
  station = station;
  node = node;
  adds = adds-none posted;
}

pub grew-same : {E : Type 0} (alone : Bool) (ours : E → Bool) (xs ys : List E) → ys ≡ xs
    → Grew alone ours xs [] ys
grew-same alone ours xs ys is = subst (Grew alone ours xs []) (sym is) (grew-none alone ours xs)

pub grew-still : {E : Type 0} (alone : Bool) (ours : E → Bool) (xs ys : List E)
    → WentOn alone ours xs [] ys → Grew alone ours xs [] ys
grew-still alone ours xs ys w = grew-one alone ours xs [] ys refl w
