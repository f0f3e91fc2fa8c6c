-- The Requests that were posted and taken.
use Rattle.std.proofs.Common.{◌≡◌, ℕ, ◌++◌, true, List, [], ◌∷◌, refl, sym, ap, ◌∙◌, subst}
use Rattle.std.specs.Prelude.{◌==◌}
use Rattle.std.specs.List.{AllByRecursion as Each}
use Rattle.std.proofs.lemmas.Bool.{and_from, and_parts, eq-eqb, true≢false}
use Rattle.plant_types.specs.declared.net.NetPlan.{NetPlan}
use Rattle.mstr_block.specs.Call.{is_same_call}
use Rattle.mstr_block.specs.declared.call.CallId.{CallId}
use Rattle.ring_core.specs.declared.entry.RingEntry.{RingEntry}
use Rattle.ring_core.specs.declared.entry.RingEntry.TheVariants.{Post, Send, Take, Local, GiveUp}
use Rattle.ring_core.specs.declared.entry.RingEntry.TheVariants.{Pass, Leave, Join}
use Rattle.ring_core.specs.declared.frame.FrameKind.{FrameKind}
use Rattle.ring_core.specs.declared.frame.FrameKind.TheVariants.{Request, Reply}
use Rattle.ring_core.specs.declared.frame.Frame.{Frame}
use Rattle.ring_core.specs.Words.{asks, asks_for, maker}
use Rattle.ring_core.specs.Legal.{IsFrom, IsLawful, IsRun}
use Rattle.ring_laws.specs.Once.{posts, takes}
use Rattle.ring_laws.proofs.Lists.{same-eq, same-refl}

-- a kind of frame that asks is that of a Request
kind-request : (kind : FrameKind) → asks kind ≡ true → kind ≡ Request
kind-request Request is = refl
kind-request Reply is = absurd (true≢false (sym is))

-- the node that posted a Request is the one that its name says
posted-own : (net : NetPlan) (id : CallId) (e : RingEntry) → IsLawful net e → posts id e ≡ true
    → (maker e == id.node) ≡ true
posted-own net id (Post n f) law is =
    let two = and_parts (asks f.kind) (is_same_call f.id id) is in
    let by : IsFrom n Request f = subst (λ (k : FrameKind). IsFrom n k f)
    (kind-request f.kind two.0) law.1 in
    eq-eqb n id.node (sym by.0 ∙ ap (λ (x : CallId). x.node) (same-eq f.id id two.1))
posted-own net id (Send n heard) law is = absurd cc
posted-own net id (Take n f) law is = absurd cc
posted-own net id (Local n name op result) law is = absurd cc
posted-own net id (GiveUp name word) law is = absurd cc
posted-own net id (Pass n done words) law is = absurd cc
posted-own net id (Leave n cause) law is = absurd cc
posted-own net id (Join n) law is = absurd cc

-- so it is of each entry of a history
pub posted-owns : (net : NetPlan) (past es : List RingEntry) (id : CallId) → IsRun net past es
    → Each (λ e. posts id e ≡ true → (maker e == id.node) ≡ true) es
posted-owns net past [] id run = tt
posted-owns net past (e ∷ es) id run =
    (posted-own net id e run.0.0, posted-owns net (past ++ e ∷ []) es id run.1)

-- a Request that is taken
pub record TakenAs (id : CallId) (e : RingEntry) : Type 0 where
  pub node : ℕ
  pub frame : Frame
  pub is : e ≡ Take node frame
  pub kind : frame.kind ≡ Request
  pub same : frame.id ≡ id

-- an entry that takes the Request of a call is one
pub taken-as : (id : CallId) (e : RingEntry) → takes id e ≡ true → TakenAs id e
taken-as id (Post n f) is = absurd (true≢false (sym is))
taken-as id (Send n heard) is = absurd (true≢false (sym is))
taken-as id (Take n f) is =
    let two = and_parts (asks f.kind) (is_same_call f.id id) is in
    record {
      node = n;
      frame = f;
      is = refl;
      kind = kind-request f.kind two.0;
      same = same-eq f.id id two.1;
    }
taken-as id (Local n name op result) is = absurd (true≢false (sym is))
taken-as id (GiveUp name word) is = absurd (true≢false (sym is))
taken-as id (Pass n done words) is = absurd (true≢false (sym is))
taken-as id (Leave n cause) is = absurd (true≢false (sym is))
taken-as id (Join n) is = absurd (true≢false (sym is))

-- a Request with the name of a call asks for it
pub asks-this : (id : CallId) (f : Frame) → f.kind ≡ Request → f.id ≡ id → asks_for id f ≡ true
asks-this id f kind same =
    and_from _ _ (ap asks kind) (ap (λ (x : CallId). is_same_call x id) same ∙ same-refl id)
