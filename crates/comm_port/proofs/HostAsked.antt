-- What a host's asks add, one after another.
use Rattle.std.proofs.Common.{◌≡◌, ◌≢◌, ◌<◌, ◌||◌, ℕ, zero, suc, Bool, true, false, List, [], ◌∷◌}
use Rattle.std.proofs.Common.{◌++◌}
use Rattle.std.proofs.Common.{length, map, get_or, set, replicate, Option, Some, None, refl, sym}
use Rattle.std.proofs.Common.{ap}
use Rattle.std.proofs.Common.{subst, ◌∙◌, ⊎_elim, arith, append_assoc, append-nil}
use Rattle.std.proofs.Common.{get_or-set_same, get_or-set_other, eq-eqb, ne_eqb}
use Rattle.std.specs.List.{list_any}
use Rattle.std.proofs.lemmas.Bool.{cases_eq}
use Rattle.std.proofs.lemmas.List.{length-set, map-append}
use Rattle.std.proofs.lemmas.List.Folds.{list_any-append}
use Rattle.plant_types.specs.declared.net.NetPlan.{NetPlan}
use Rattle.plant_types.specs.declared.net.HostPlan.{HostPlan}
use Rattle.ring_core.specs.Legal.{IsLegalRing, IsPath}
use Rattle.ring_core.specs.Machine.{asked, NodeIs, no_path, path_of, path_places, ring_after}
use Rattle.ring_core.specs.Machine.{ring_node}
use Rattle.ring_core.specs.Words.{is_onward}
use Rattle.ring_core.specs.declared.frame.FrameKind.{FrameKind}
use Rattle.ring_core.specs.declared.frame.FrameKind.TheVariants.{Request}
use Rattle.ring_core.specs.declared.frame.Frame.{Frame}
use Rattle.ring_core.specs.declared.path.Path.{Path}
use Rattle.ring_core.specs.declared.path.Await.TheVariants.{Out}
use Rattle.ring_core.specs.declared.entry.RingEntry.{RingEntry}
use Rattle.ring_core.specs.declared.entry.RingEntry.TheVariants.{Post}
use Rattle.host_port.specs.declared.entry.HostEntry.{HostEntry}
use Rattle.host_port.specs.Calls.{goes_on_path}
use Rattle.host_port.specs.Host.{HostIs, due_request}
use Rattle.host_port.proofs.Lists.{split_last}
use Rattle.tied_lists.specs.Own.{is_of, Grew, WentOn}
use Rattle.tied_lists.proofs.Growth.{grew-more}
use Rattle.tied_lists.proofs.Histories.{legal-follows}
use Rattle.tied_lists.proofs.Turns.{after-post, part}
use Rattle.comm_port.specs.Sides.{RingSideIs}
use Rattle.comm_port.specs.Turns.{IsOwnTurn}
use Rattle.comm_port.specs.Giving.{is_chosen}
use Rattle.comm_port.specs.HostTurns.{AreRecent, ask_entry_of, AskedAll, AskedNext, AskedNone}
use Rattle.comm_port.specs.HostTurns.{AskedOnce, AsksInOrder, host_at, IsRecent, went_on}
use Rattle.comm_port.proofs.HostServes.{grew_not}
use Rattle.comm_port.proofs.RingTurns.{own-moved}

-- ---- the path of a Request that is posted

pub record PathIsOut (net : NetPlan) (n : ℕ) (f : Frame) (ring ring' : List RingEntry) : Type 0
  where
    pub out : path_of (ring_node (ring_after net ring') n) f.id.path
        ≡ record { awaits = Out f.id.seq f.to (is_onward f) 0; posted = f.id.seq }
    pub others : (p : ℕ) → p ≢ f.id.path
        → path_of (ring_node (ring_after net ring') n) p
        ≡ path_of (ring_node (ring_after net ring) n)
        p

pub path-out : {Q : Type 0} (alone : Bool) (n : ℕ) (f : Frame) (side : RingSideIs Q)
    (ring ring' : List RingEntry) → IsOwnTurn side
    ring n → f.kind ≡ Request → IsPath f.id.path → WentOn alone (is_of n) ring (Post n f ∷ []) ring'
    → IsLegalRing side.net ring'
    → PathIsOut side.net n f ring ring'
path-out alone n f side ring ring' turn kind is_path went legal =
    let m = own-moved side alone n ring (Post n f) ring' refl turn legal went in
    let w = after-post side.net n ring f ring' m in
    let c = part side.net ring n in
    let size = (legal-follows side.net ring n turn.on).node.part.size in
    let v : Path = record { awaits = Out f.id.seq f.to (is_onward f) 0; posted = f.id.seq } in
    let paths : (part side.net ring' n).paths ≡ set c.paths f.id.path v =
    ap (λ (x : NodeIs). x.paths) w.part_is ∙ ap (λ (k : FrameKind). asked c k f) kind in
    let high = is_path.1 in
    let range : f.id.path < length c.paths = omega (arith, size, high) in
    record {
      out = ap (λ (ps : List Path). get_or ps f.id.path no_path) paths ∙ get_or-set_same c.paths
          f.id.path v no_path range;
      others = λ p other. ap (λ (ps : List Path). get_or ps p no_path) paths ∙ get_or-set_other
          c.paths f.id.path p v no_path other;
    }

-- ---- the asks so far

pub record AskedSoFar (alone : Bool) (net : NetPlan) (n : ℕ) (plan : HostPlan) (hold : ℕ)
    (list new_list : List HostEntry)
    (ring new_ring : List RingEntry) (fresh : List Bool) : Type 0 where
  pub asks : List Frame
  pub in_order : AsksInOrder alone n plan hold asks list new_list ring new_ring
  pub size : length fresh ≡ path_places
  pub paths : (path : ℕ) → is_chosen fresh path ≡ went_on asks path
  pub new_calls : AreRecent (is_chosen fresh) (ring_node (ring_after net new_ring) n)

none-chosen : (k p : ℕ) → get_or (replicate k false) p false ≡ false
none-chosen zero p = refl
none-chosen (suc k) zero = refl
none-chosen (suc k) (suc p) = none-chosen k p

no-ask : (before after' : List Frame) (f : Frame) → [] ≡ before ++ f ∷ after' → ⊥
no-ask [] after' f is = cc
no-ask (x ∷ before) after' f is = cc

pub asked-start : (alone : Bool) (net : NetPlan) (n : ℕ) (plan : HostPlan) (hold : ℕ)
    (list : List HostEntry) (ring : List RingEntry)
    → AskedSoFar alone net n plan hold list list ring ring (replicate path_places false)
asked-start alone net n plan hold list ring = record {
  asks = [];
  in_order = record {
    each = λ before after' f is. absurd (no-ask before after' f is);
    asked = sym (append-nil list);
    grew = grew_not alone n ring;
  };
  size = refl;
  paths = λ p. none-chosen path_places p;
  new_calls = λ p is on. absurd (let off = none-chosen path_places p in let wrong : true ≡
      false = sym on ∙ off in cc);
}

-- a host by its plan and list
host-is : (v : HostIs) (plan : HostPlan) (list : List HostEntry) → v.plan ≡ plan → v.history ≡ list
    → v ≡ host_at plan list
host-is v plan list p h = λ i. record { plan = p i; history = h i }

each-next : (plan : HostPlan) (hold : ℕ) (asks : List Frame) (list : List HostEntry) (ask : Frame)
    → ((before after' : List Frame) (f : Frame) → asks ≡ before ++ f ∷ after'
    → due_request (host_at plan (list ++ map ask_entry_of before)) hold ≡ Some f)
    → due_request (host_at plan (list ++ map ask_entry_of asks)) hold ≡ Some ask
    → (before after' : List Frame) (f : Frame)
    → asks ++ ask ∷ [] ≡ before ++ f ∷ after'
    → due_request (host_at plan (list ++ map ask_entry_of before)) hold ≡ Some f
each-next plan hold asks list ask each due before after' f is = ⊎_elim
    (λ (l : (before ≡ asks) × (f ≡ ask)). ap
    (λ (b : List Frame). due_request (host_at plan (list ++ map ask_entry_of b)) hold) l.0 ∙ due
    ∙ ap
    Some (sym l.1))
    (λ (q : (rest : List Frame) × (asks ≡ before ++ f ∷ rest)). each before q.0 f q.1)
    (split_last asks ask before after' f is)

chosen-next : (fresh : List Bool) (asks : List Frame) (ask : Frame) (path : ℕ) → ask.id.path ≡ path
    → path < length fresh
    → ((p : ℕ) → is_chosen fresh p ≡ went_on asks p) → (p : ℕ)
    → is_chosen (set fresh path true) p ≡ went_on (asks ++ ask ∷ []) p
chosen-next fresh asks ask path is range paths p = ⊎_elim
    (λ (e : p ≡ path).
    let on : goes_on_path p ask ≡ true = eq-eqb ask.id.path p (is ∙ sym e) in
    let now : is_chosen (set fresh path true) p ≡ true = ap
    (λ (q : ℕ). get_or (set fresh path true) q false) e ∙ get_or-set_same fresh path true false
    range in
    now ∙ sym (list_any-append (goes_on_path p) asks (ask ∷ []) ∙ ap
    (λ (b : Bool). list_any (goes_on_path p) asks || (b || false)) on ∙ or-true
    (list_any (goes_on_path p) asks)))
    (λ (o : p ≡ path → ⊥).
    let off : goes_on_path p ask ≡ false = ne_eqb ask.id.path p (λ e. o (sym e ∙ is)) in
    get_or-set_other fresh path p true false o ∙ paths p
    ∙ sym (list_any-append (goes_on_path p) asks (ask ∷ []) ∙ ap
    (λ (b : Bool). list_any (goes_on_path p) asks || (b || false)) off ∙ or-false
    (list_any (goes_on_path p) asks)))
    (cases_eq p path)
  where
    or-true : (b : Bool) → (b || (true || false)) ≡ true
    or-true true = refl
    or-true false = refl

    or-false : (b : Bool) → (b || (false || false)) ≡ b
    or-false true = refl
    or-false false = refl

new-next : (net : NetPlan) (n : ℕ) (fresh : List Bool) (path : ℕ) (old new : NodeIs) (seq to : ℕ)
    (onward : Bool) → path_of new path ≡ record { awaits = Out seq to onward 0; posted = seq }
    → ((p : ℕ) → p ≢ path → path_of new p ≡ path_of old p)
    → AreRecent (is_chosen fresh) old → AreRecent (is_chosen (set fresh path true)) new
new-next net n fresh path old new seq to onward out others are p is on = ⊎_elim
    (λ (e : p ≡ path). subst (λ (q : ℕ). IsRecent (path_of new q).awaits) (sym e)
    (subst (λ (x : Path). IsRecent x.awaits) (sym out) refl))
    (λ (o : p ≡ path → ⊥). subst (λ (x : Path). IsRecent x.awaits) (sym (others p o))
    (are p is (sym (get_or-set_other fresh path p true false o) ∙ on)))
    (cases_eq p path)

pub asked-next : (alone : Bool) (net : NetPlan) (n : ℕ) (plan : HostPlan) (hold path : ℕ)
    (list : List HostEntry) (old new : HostIs)
    (r0 r r' : List RingEntry) (fresh : List Bool) (at : ℕ) → at ≡ path → old.plan ≡ plan
    → AskedSoFar alone net n plan hold list old.history r0 r fresh
    → AskedOnce alone net n hold path old new r r'
    → AskedSoFar alone net n plan hold list new.history r0 r' (set fresh at true)
asked-next alone net n plan hold path list old new r0 r r' fresh at at_is plan_is a o =
    let due : due_request (host_at plan (list ++ map ask_entry_of a.asks)) hold ≡ Some o.ask =
    ap (λ (v : HostIs). due_request v hold)
    (sym (host-is old plan (list ++ map ask_entry_of a.asks) plan_is a.in_order.asked)) ∙ o.due in
    let size = a.size in
    let high = o.is_path.1 in
    let range : path < length fresh = omega (arith, size, high) in
    subst (λ (p : ℕ). AskedSoFar alone net n plan hold list new.history r0 r' (set fresh p true))
    (sym at_is) (record {
      asks = a.asks ++ o.ask ∷ [];
      in_order = record {
        each = each-next plan hold a.asks list o.ask a.in_order.each due;
        asked = o.asked ∙ ap (λ (l : List HostEntry). l ++ ask_entry_of o.ask ∷ []) a.in_order.asked
            ∙ append_assoc list (map ask_entry_of a.asks) (ask_entry_of o.ask ∷ []) ∙ ap
            (λ (l : List HostEntry). list ++ l) (sym (map-append ask_entry_of a.asks (o.ask ∷ [])));
        grew = subst (λ (added : List RingEntry). Grew alone (is_of n) r0 added r')
            (sym (map-append (Post n) a.asks (o.ask ∷ [])))
            (grew-more alone (is_of n) r0 r r' (map (Post n) a.asks) (Post n o.ask ∷ [])
            a.in_order.grew o.grew);
      };
      size = length-set fresh path true ∙ a.size;
      paths = chosen-next fresh a.asks o.ask path o.path_is range a.paths;
      new_calls = new-next net n fresh path (ring_node (ring_after net r) n)
          (ring_node (ring_after net r') n) o.ask.id.seq o.ask.to (is_onward o.ask)
          o.out o.others a.new_calls;
    })

pub asked-end : (alone : Bool) (net : NetPlan) (n : ℕ) (plan : HostPlan) (hold : ℕ)
    (list : List HostEntry) (old new : HostIs)
    (r0 r r' : List RingEntry) (fresh : List Bool) → new.plan ≡ plan
    → AskedSoFar alone net n plan hold list old.history r0 r fresh
    → AskedNone hold old new r r' → AskedAll alone net n plan hold list new.history r0 r' fresh
asked-end alone net n plan hold list old new r0 r r' fresh plan_is a o =
    let in_list : AsksInOrder alone n plan hold a.asks list new.history r0 r =
    subst (λ (h : List HostEntry). AsksInOrder alone n plan hold a.asks list h r0 r) (sym o.same)
    a.in_order in
    record {
      asks = a.asks;
      all = record {
        in_order = subst (λ (x : List RingEntry). AsksInOrder alone n plan hold a.asks list
            new.history r0 x) (sym o.ring_same) in_list;
        no_more = ap (λ (v : HostIs). due_request v hold)
            (sym (host-is new plan new.history plan_is refl)) ∙ o.none;
      };
      paths = a.paths;
      new_calls = subst (λ (x : List RingEntry). AreRecent (is_chosen fresh)
          (ring_node (ring_after net x) n)) (sym o.ring_same) a.new_calls;
    }

pub asked-some : (alone : Bool) (net : NetPlan) (n hold : ℕ) (old new : HostIs)
    (r r' : List RingEntry) (o : Option ℕ) (p : ℕ)
    → o ≡ Some p → AskedNext alone net n hold old new r r' o
    → AskedOnce alone net n hold p old new r r'
asked-some alone net n hold old new r r' o p is a = subst (AskedNext alone net n hold old new r r')
    is a

pub asked-none : (alone : Bool) (net : NetPlan) (n hold : ℕ) (old new : HostIs)
    (r r' : List RingEntry) (o : Option ℕ)
    → o ≡ None → AskedNext alone net n hold old new r r' o → AskedNone hold old new r r'
asked-none alone net n hold old new r r' o is a = subst (AskedNext alone net n hold old new r r') is
    a

pub asked-at : {Q : Type 0} (alone : Bool) (n : ℕ) (plan : HostPlan) (hold : ℕ)
    (list new : List HostEntry) (r0 r : List RingEntry)
    (fresh : List Bool) (side side' : RingSideIs Q) → side' ≡ side
    → AskedSoFar alone side.net n plan hold list new r0 r fresh
    → AskedSoFar alone side'.net n plan hold list new r0 r fresh
asked-at {Q} alone n plan hold list new r0 r fresh side side' same a =
    subst (λ (s : RingSideIs Q). AskedSoFar alone s.net n plan hold list new r0 r fresh) (sym same)
    a

pub asked-all-at : {Q : Type 0} (alone : Bool) (n : ℕ) (plan : HostPlan) (hold : ℕ)
    (list new : List HostEntry) (r0 r : List RingEntry)
    (fresh : List Bool) (side side' : RingSideIs Q) → side' ≡ side
    → AskedAll alone side.net n plan hold list new r0 r fresh
    → AskedAll alone side'.net n plan hold list new r0 r fresh
asked-all-at {Q} alone n plan hold list new r0 r fresh side side' same a =
    subst (λ (s : RingSideIs Q). AskedAll alone s.net n plan hold list new r0 r fresh) (sym same) a
