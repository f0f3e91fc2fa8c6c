-- The numbers that a node's paths gave last stay while others write.
use Rattle.std.proofs.Common.{◌≡◌, ◌≢◌, ℕ, zero, suc, List, [], ◌∷◌, ◌++◌, refl}
use Rattle.std.proofs.Common.{sym, ap, ◌∙◌, append-nil, append_assoc, get_or, map, set}
use Rattle.std.proofs.lemmas.Bool.{cond_both}
use Rattle.plant_types.specs.declared.net.NetPlan.{NetPlan}
use Rattle.ring_core.specs.declared.entry.RingEntry.{RingEntry}
use Rattle.ring_core.specs.declared.entry.RingEntry.TheVariants.{Post, Send, Take, Local, GiveUp}
use Rattle.ring_core.specs.declared.entry.RingEntry.TheVariants.{Pass, Leave, Join}
use Rattle.ring_core.specs.declared.frame.Frame.{Frame}
use Rattle.ring_core.specs.declared.frame.FrameKind.{FrameKind}
use Rattle.ring_core.specs.declared.frame.FrameKind.TheVariants.{Request, Reply}
use Rattle.ring_core.specs.declared.path.Path.{Path as RingPath}
use Rattle.ring_core.specs.Words.{maker}
use Rattle.ring_core.specs.Machine.{NodeIs, RingIs, admitted, after, arrival, arrived, fate_at}
use Rattle.ring_core.specs.Machine.{fell, is_full, is_held, is_repeat, no_path, part_of, path_of}
use Rattle.ring_core.specs.Machine.{ring_after, ring_node, sent_head, waits_for, with_frame}
use Rattle.ring_core.specs.Stability.{NoneBy}
use Rattle.ring_core.proofs.Stability.{admitted-part, out}
use Rattle.tied_lists.specs.Own.{own}
use Rattle.tied_lists.proofs.Histories.{arrived-part}
use Rattle.tied_lists.proofs.Turns.{next-ring, none-by}

abbrev number_of : ℕ → NodeIs → ℕ
number_of p c = (path_of c p).posted

-- a path that keeps its number
number-set : (ps : List RingPath) (q p : ℕ) (v : RingPath) → v.posted ≡ (get_or ps q no_path).posted
    → (get_or (set ps q v) p no_path).posted ≡ (get_or ps p no_path).posted
number-set [] q p v e = refl
number-set (x ∷ ps) zero zero v e = e
number-set (x ∷ ps) zero (suc p) v e = refl
number-set (x ∷ ps) (suc q) zero v e = refl
number-set (x ∷ ps) (suc q) (suc p) v e = number-set ps q p v e

-- a frame that fell into a node's inbox, or on its path
number-fell : (c : NodeIs) (f : Frame) (kind : FrameKind) (p : ℕ)
    → number_of p (with_frame c (fell c kind f.id) f) ≡ number_of p c
number-fell c f Request p = cond_both (is_repeat c f.id) _ _
    (λ x. number_of p (with_frame c x f) ≡ number_of p c) (λ _. refl)
    (λ _. cond_both (is_full c) _ _ (λ x. number_of p (with_frame c x f) ≡ number_of p c)
    (λ _. refl) (λ _. refl))
number-fell c f Reply p = cond_both (waits_for (path_of c f.id.path).awaits f.id.seq) _ _
    (λ x. number_of p (with_frame c x f) ≡ number_of p c)
    (λ _. number-set c.paths f.id.path p _ refl) (λ _. refl)

number-sent : (net : NetPlan) (r : RingIs) (m : ℕ) (box : List Frame) (n p : ℕ) → m ≢ n
    → number_of p (ring_node (sent_head net r m box) n) ≡ number_of p (ring_node r n)
number-sent net r m [] n p other = refl
number-sent net r m (f ∷ fs) n p other =
    let fate = fate_at net.fates r.sent in
    ap (number_of p) (out (arrived r.nodes f (arrival net r.nodes fate f)) n m _ other)
    ∙ arrived-part net r.nodes f fate
    (λ (k : ℕ) (c : NodeIs). number_of p c ≡ number_of p (part_of r.nodes k)) (λ k. refl)
    (λ here. number-fell (part_of r.nodes f.to) f f.kind p) n

-- the token that goes on leaves them
number-handed : (nodes : List NodeIs) (n m p : ℕ) (c : NodeIs) → m ≢ n
    → number_of p (part_of (map admitted (set nodes m c)) n)
    ≡ number_of p (part_of nodes n)
number-handed nodes n m p c other =
    ap (number_of p) (admitted-part (set nodes m c) n) ∙ ap (number_of p) (out nodes n m c other)

number-step : (net : NetPlan) (r : RingIs) (n p : ℕ) (e : RingEntry) → maker e ≢ n
    → number_of p (ring_node (after net r e) n) ≡ number_of p (ring_node r n)
number-step net r n p (Post m f) other = ap (number_of p) (out r.nodes n m _ other)
number-step net r n p (Send m heard) other = number-sent net r m (ring_node r m).outbox n p other
number-step net r n p (Take m f) other = ap (number_of p) (out r.nodes n m _ other)
number-step net r n p (Local m id op result) other = refl
number-step net r n p (GiveUp id word) other = ap (number_of p) (out r.nodes n id.node _ other)
number-step net r n p (Pass m done words) other = number-handed r.nodes n m p _ other
number-step net r n p (Leave m cause) other = number-handed r.nodes n m p _ other
number-step net r n p (Join m) other = cond_both (is_held r) _ _
    (λ (x : RingIs). number_of p (ring_node x n) ≡ number_of p (ring_node r n))
    (λ _. ap (number_of p) (out r.nodes n m _ other))
    (λ _. ap (number_of p) (out r.nodes n m _ other))

number-none : (net : NetPlan) (n p : ℕ) (past more : List RingEntry) → NoneBy n more
    → number_of p (ring_node (ring_after net (past ++ more)) n)
    ≡ number_of p (ring_node (ring_after net past) n)
number-none net n p past [] none =
    ap (λ (l : List RingEntry). number_of p (ring_node (ring_after net l) n)) (append-nil past)
number-none net n p past (e ∷ es) none =
    ap (λ (l : List RingEntry). number_of p (ring_node (ring_after net l) n))
    (sym (append_assoc past (e ∷ []) es))
    ∙ (number-none net n p (past ++ e ∷ []) es none.1
    ∙ (ap (λ (x : RingIs). number_of p (ring_node x n)) (next-ring net past e)
    ∙ number-step net (ring_after net past) n p e none.0))

pub number-others : (net : NetPlan) (n p : ℕ) (past more : List RingEntry) → own n more ≡ []
    → (path_of (ring_node (ring_after net (past ++ more)) n) p).posted
    ≡ (path_of (ring_node (ring_after net past) n) p).posted
number-others net n p past more none = number-none net n p past more (none-by n more none)
