-- The Request that a Reply came to, the words with which calls end, and what ports tell.
use Rattle.std.proofs.Common.{◌≡◌, ℕ, ◌++◌, Bool, true, false, Option, Some, None, List, [], ◌∷◌}
use Rattle.std.proofs.Common.{refl, sym, ap, ◌∙◌, subst, inl, inr, ⊎_elim, arith, append_assoc}
use Rattle.std.specs.Prelude.{Contains, if◌then◌else◌}
use Rattle.std.specs.List.{AllByRecursion as Each}
use Rattle.std.proofs.lemmas.List.Elements.{Contains-push, Contains-push_cases}
use Rattle.plant_types.specs.declared.net.NetPlan.{NetPlan}
use Rattle.mstr_block.specs.Call.{is_same_call}
use Rattle.mstr_block.specs.declared.call.CallId.{CallId}
use Rattle.mstr_block.specs.declared.call.MstrResult.{MstrResult}
use Rattle.mstr_block.specs.declared.call.MstrResult.TheVariants.{Bad}
use Rattle.ring_core.specs.declared.entry.RingEntry.{RingEntry}
use Rattle.ring_core.specs.declared.entry.RingEntry.TheVariants.{Post, Send, Take, Local, GiveUp}
use Rattle.ring_core.specs.declared.entry.RingEntry.TheVariants.{Pass, Leave, Join}
use Rattle.ring_core.specs.declared.frame.FrameKind.{FrameKind}
use Rattle.ring_core.specs.declared.frame.FrameKind.TheVariants.{Request, Reply}
use Rattle.ring_core.specs.declared.frame.Frame.{Frame}
use Rattle.ring_core.specs.Legal.{IsLegalRing, IsRun}
use Rattle.ring_core.specs.Words.{frame_route}
use Rattle.ring_core.specs.Scratch.{local_result}
use Rattle.ring_laws.specs.Once.{HasAsked, IsFailWord, IsRingHistory}
use Rattle.ring_laws.proofs.Law.{reply-to-its-caller}
use Rattle.ring_laws.proofs.Lists.{same-eq, same-refl}
use Rattle.tied_lists.specs.Items.{Asked, Called, CallSort, OverNet, AtHome, Came, asked_by}
use Rattle.tied_lists.specs.Items.{asked_in, asked_of, last_asked, net_ask, or_some}
use Rattle.tied_lists.proofs.Turns.{legal-parts}
use Rattle.effect_laws.proofs.Asks.{IsAskOf}
use Rattle.effect_laws.proofs.Fits.{Fitting, NetAsk}
use Rattle.effect_laws.proofs.Sources.{behind, first-or-behind, in-none}

-- ---- ports tell what the ring's history says

-- what a port tells is its result after what the ring noted before
abbrev pub TellsTruly : NetPlan → RingEntry → Type 0
TellsTruly net (Local n id op result) =
    (past : List RingEntry) × (result ≡ local_result net past n op)
TellsTruly net _ = Unit {0}

-- so does each entry of a legal history
pub truly : (net : NetPlan) (past es : List RingEntry) → IsRun net past es
    → Each (TellsTruly net) es
truly net past [] run = tt
truly net past (Post n f ∷ es) run = (tt, truly net (past ++ Post n f ∷ []) es run.1)
truly net past (Send n heard ∷ es) run = (tt, truly net (past ++ Send n heard ∷ []) es run.1)
truly net past (Take n f ∷ es) run = (tt, truly net (past ++ Take n f ∷ []) es run.1)
truly net past (Local n id op result ∷ es) run =
    ((past, run.0.1.1), truly net (past ++ Local n id op result ∷ []) es run.1)
truly net past (GiveUp id word ∷ es) run = (tt, truly net (past ++ GiveUp id word ∷ []) es run.1)
truly net past (Pass n done words ∷ es) run =
    (tt, truly net (past ++ Pass n done words ∷ []) es run.1)
truly net past (Leave n cause ∷ es) run = (tt, truly net (past ++ Leave n cause ∷ []) es run.1)
truly net past (Join n ∷ es) run = (tt, truly net (past ++ Join n ∷ []) es run.1)

-- ---- the Request that a Reply came to

-- the last Request of a name is one of them
pub record LastOf (id : CallId) (asked : List Asked) (pdu : List ℕ) : Type 0 where
  pub last : Asked
  pub there : Contains asked last
  pub name : last.id ≡ id
  pub pdu_is : last.pdu ≡ pdu

-- and stays one of them where there is an earlier one
later : (id : CallId) (x : Asked) (asked : List Asked) (pdu : List ℕ) → LastOf id asked pdu
    → LastOf id (x ∷ asked) pdu
later id x asked pdu w =
    record {
      last = w.last;
      there = behind x asked w.last w.there;
      name = w.name;
      pdu_is = w.pdu_is;
    }

pub last-of : (id : CallId) (asked : List Asked) (pdu : List ℕ) → last_asked id asked ≡ Some pdu
    → LastOf id asked pdu
last-of id [] pdu is = absurd cc
last-of id (x ∷ asked) pdu is = at (last_asked id asked) is (last-of id asked pdu)
  where
    one : (b : Bool) → is_same_call x.id id ≡ b → (if b then Some x.pdu else None) ≡ Some pdu
        → LastOf id (x ∷ asked) pdu
    one true same is' =
        let bytes : x.pdu ≡ pdu = cc in
        record {
          last = x;
          there = (0, omega arith, refl);
          name = same-eq x.id id same;
          pdu_is = bytes;
        }
    one false same is' = absurd cc

    at : (o : Option (List ℕ)) → or_some o (if is_same_call x.id id then Some x.pdu else None)
        ≡ Some pdu
        → (o ≡ Some pdu → LastOf id asked pdu) → LastOf id (x ∷ asked) pdu
    at (Some other) is' rest = later id x asked pdu (rest is')
    at None is' rest = one (is_same_call x.id id) refl is'

-- where there is a Request of a name, there is a last one
pub last-some : (id : CallId) (asked : List Asked) (a : Asked) → Contains asked a → a.id ≡ id
    → (pdu : List ℕ) × (last_asked id asked ≡ Some pdu)
last-some id [] a there name = absurd (in-none a there)
last-some id (x ∷ asked) a there name =
    ⊎_elim
    (λ (same : x ≡ a). at (last_asked id asked)
    (ap (λ (y : Asked). is_same_call y.id id) same
    ∙ (ap (λ (i : CallId). is_same_call i id) name ∙ same-refl id)))
    (λ (more : Contains asked a).
    let rest = last-some id asked a more name in
    (rest.0, ap (λ o. or_some o (if is_same_call x.id id then Some x.pdu else None)) rest.1))
    (first-or-behind x asked a there)
  where
    at : (o : Option (List ℕ)) → is_same_call x.id id ≡ true
        → (pdu : List ℕ) × (or_some o (if is_same_call x.id id then Some x.pdu else None)
        ≡ Some pdu)
    at (Some pdu) same = (pdu, refl)
    at None same = (x.pdu, ap (λ b. if b then Some x.pdu else None) same)

-- what a Request asks
abbrev pub asked_as : Frame → Asked
asked_as f = record { id = f.id; route = frame_route f; pdu = f.pdu }

-- a Request that was posted
pub record PostOf (x : RingEntry) (asked : Asked) : Type 0 where
  pub node : ℕ
  pub frame : Frame
  pub is : x ≡ Post node frame
  pub kind : frame.kind ≡ Request
  pub id : frame.id ≡ asked.id
  pub route : frame_route frame ≡ asked.route
  pub pdu : frame.pdu ≡ asked.pdu

post-kind : (n : ℕ) (f : Frame) (kind : FrameKind) → f.kind ≡ kind → (asked : Asked)
    → asked_in kind f ≡ Some asked → PostOf (Post n f) asked
post-kind n f Reply k asked is = absurd cc
post-kind n f Request k asked is =
    let this : Asked = record { id = f.id; route = frame_route f; pdu = f.pdu } in
    let same : this ≡ asked = cc in
    record {
      node = n;
      frame = f;
      is = refl;
      kind = k;
      id = ap (λ (a : Asked). a.id) same;
      route = ap (λ (a : Asked). a.route) same;
      pdu = ap (λ (a : Asked). a.pdu) same;
    }

-- an entry that asks posted a Request
pub post-of : (x : RingEntry) (asked : Asked) → asked_of x ≡ Some asked → PostOf x asked
post-of (Post n f) asked is = post-kind n f f.kind refl asked is
post-of (Send n heard) asked is = absurd cc
post-of (Take n f) asked is = absurd cc
post-of (Local n id op result) asked is = absurd cc
post-of (GiveUp id word) asked is = absurd cc
post-of (Pass n done words) asked is = absurd cc
post-of (Leave n cause) asked is = absurd cc
post-of (Join n) asked is = absurd cc

-- a Reply is taken after its Request was posted
pub asked-before : (net : NetPlan) (ring front rest : List RingEntry) (n : ℕ) (f : Frame)
    → IsRingHistory net ring → ring ≡ front ++ Take n f ∷ rest
    → f.kind ≡ Reply → HasAsked front n f.id
asked-before net ring front rest n f is ring_is kind =
    let whole : IsLegalRing net ((front ++ Take n f ∷ []) ++ rest) =
    subst (IsLegalRing net) (ring_is ∙ sym (append_assoc front (Take n f ∷ []) rest)) is.legal in
    let history : IsRingHistory net (front ++ Take n f ∷ []) = record {
      members = is.members;
      legal = (legal-parts net (front ++ Take n f ∷ []) rest whole).0;
    } in
    let asked = (reply-to-its-caller net (front ++ Take n f ∷ []) n f history
    (inr (Contains-push front (Take n f))) kind).2 in
    record {
      request = asked.request;
      posted = ⊎_elim
          (λ (there : Contains front (Post n asked.request)). there)
          (λ (same : Take n f ≡ Post n asked.request). absurd cc)
          (Contains-push_cases front (Take n f) (Post n asked.request) asked.posted);
      kind = asked.kind;
      same = asked.same;
    }

-- ---- a Reply fits

-- what a controller asks another node for is one of the three requests
pub ask-of : (c : Called) (a : Asked) → IsAskOf c → net_ask c ≡ Some a → NetAsk a.pdu
ask-of c a is of = at c.sort refl of
  where
    at : (sort : CallSort) → c.sort ≡ sort → net_ask (record { id = c.id; sort = sort }) ≡ Some a
        → NetAsk a.pdu
    at (OverNet route pdu) same of' =
        let this : Asked = record { id = c.id; route = route; pdu = pdu } in
        let one : this ≡ a = cc in
        subst NetAsk (ap (λ (x : Asked). x.pdu) one) (is route pdu same)
    at (AtHome op) same of' = absurd cc

-- the Request that was posted last with the Reply's name, and the Reply fits it
pub record FitsLast (id : CallId) (before : List RingEntry) (reply : List ℕ) : Type 0 where
  pub ask : List ℕ
  pub last : last_asked id (asked_by before) ≡ Some ask
  pub fits : Fitting ask reply

-- ---- words

-- no call is given up with the word for a reply that does not fit
pub fail-word : IsFailWord 0x3000 → ⊥
fail-word (inl is) = omega (arith, is)
fail-word (inr (inl is)) = omega (arith, is)
fail-word (inr (inr is)) = omega (arith, is)

-- calls that came to the same came to the same result
pub came-same : (one two : MstrResult) → Came one ≡ Came two → one ≡ two
came-same one two is = cc

-- a bad result has one word
pub bad-same : (word : ℕ) → Bad word ≡ Bad 0x3000 → word ≡ 0x3000
bad-same word is = cc
