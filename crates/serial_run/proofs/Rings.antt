-- Members of the ring and their Passes, as the ring goes on.
use Rattle.std.proofs.Common.{◌≡◌, ◌≢◌, ℕ, zero, suc, ◌+◌, ◌<◌, ◌==◌, Bool, true}
use Rattle.std.proofs.Common.{false, cond, List, [], ◌∷◌, ◌++◌, length, set, map, nat_le}
use Rattle.std.proofs.Common.{replicate, count_by, refl, sym, ap, subst, ◌∙◌, arith}
use Rattle.std.proofs.Common.{⊎_elim, All, append-nil, append_assoc}
use Rattle.std.proofs.lemmas.Bool.{cases_eq, cond_both, eq-eqb, ne_eqb}
use Rattle.std.proofs.lemmas.List.Elements.{All-contains}
use Rattle.std.proofs.lemmas.List.Sums.{sum_by-append}
use Rattle.plant_types.specs.declared.net.NetPlan.{NetPlan}
use Rattle.ring_core.specs.declared.entry.RingEntry.{RingEntry}
use Rattle.ring_core.specs.declared.entry.RingEntry.TheVariants.{Post, Send, Take, Local, GiveUp}
use Rattle.ring_core.specs.declared.entry.RingEntry.TheVariants.{Pass, Leave, Join}
use Rattle.ring_core.specs.Words.{maker, is_onward}
use Rattle.ring_core.specs.Machine.{NodeIs, RingIs, addresses, fresh, part_of, ring_node}
use Rattle.ring_core.specs.Machine.{after_pass, admitted, gone_by}
use Rattle.ring_core.specs.Machine.{after, ring_after, is_held, hears, sent_head}
use Rattle.ring_core.specs.Machine.{arrival, arrived, fate_at, heard_by, heard_of, sent_off, failed}
use Rattle.ring_core.specs.Machine.{fell, is_full, is_repeat, path_of, silence_word, waits_for}
use Rattle.ring_core.specs.Machine.{with_frame, with_members}
use Rattle.ring_core.specs.declared.entry.LeaveCause.{LeaveCause}
use Rattle.ring_core.specs.declared.entry.LeaveCause.TheVariants.{Ended, Spent, Down}
use Rattle.plant_types.specs.declared.net.Fate.{Fate}
use Rattle.tied_lists.proofs.Histories.{arrived-part}
use Rattle.ring_core.specs.declared.entry.Heard.{Heard}
use Rattle.ring_core.specs.declared.entry.Heard.TheVariants.{Acked, Silent, Busy}
use Rattle.ring_core.specs.declared.frame.Frame.{Frame}
use Rattle.ring_core.specs.declared.frame.FrameKind.{FrameKind}
use Rattle.ring_core.specs.declared.frame.FrameKind.TheVariants.{Request, Reply}
use Rattle.ring_core.proofs.Stability.{admitted-part}
use Rattle.mstr_block.specs.declared.call.CallId.{CallId}
use Rattle.ring_core.specs.Legal.{IsLegalRing, IsRun, IsRingStep}
use Rattle.ring_core.specs.Kept.{IsSoundRing}
use Rattle.ring_core.proofs.Sound.{after-sound, opening-sound}
use Rattle.tied_lists.specs.Own.{own}
use Rattle.tied_lists.proofs.Turns.{next-ring}
use Rattle.joint_history.specs.Complete.{is_pass}

-- a write of another node
pub other-set : (nodes : List NodeIs) (m k : ℕ) (c : NodeIs) → m ≢ k
    → part_of (set nodes m c) k ≡ part_of nodes k
other-set [] m k c e = refl
other-set (d ∷ ds) zero zero c e = absurd (e refl)
other-set (d ∷ ds) zero (suc k) c e = refl
other-set (d ∷ ds) (suc m) zero c e = refl
other-set (d ∷ ds) (suc m) (suc k) c e = other-set ds m k c (λ is. e (omega (arith, is)))

-- a write of the node
pub same-set : (nodes : List NodeIs) (m : ℕ) (c : NodeIs) → m < length nodes
    → part_of (set nodes m c) m ≡ c
same-set [] m c low = absurd (omega arith)
same-set (d ∷ ds) zero c low = refl
same-set (d ∷ ds) (suc m) c low = same-set ds m c (omega arith)

-- ---- how many Passes a node has made

pub count-more : {X : Type 0} (p : X → Bool) (xs ys : List X)
    → count_by p (xs ++ ys) ≡ count_by p xs + count_by p ys
count-more p xs ys = sum_by-append (λ x. cond (p x) 1 0) xs ys

abbrev passes : RingIs → ℕ → ℕ
passes r n = (ring_node r n).passes

-- writes that keep it
passes-set : (nodes : List NodeIs) (m k : ℕ) (c : NodeIs) → c.passes ≡ (part_of nodes m).passes
    → (part_of (set nodes m c) k).passes ≡ (part_of nodes k).passes
passes-set [] m k c e = refl
passes-set (d ∷ ds) zero zero c e = e
passes-set (d ∷ ds) zero (suc k) c e = refl
passes-set (d ∷ ds) (suc m) zero c e = refl
passes-set (d ∷ ds) (suc m) (suc k) c e = passes-set ds m k c e

passes-admitted : (nodes : List NodeIs) (k : ℕ)
    → (part_of (map admitted nodes) k).passes ≡ (part_of nodes k).passes
passes-admitted nodes k = ap (λ (c : NodeIs). c.passes) (admitted-part nodes k)

passes-fell : (c : NodeIs) (f : Frame) (kind : FrameKind)
    → (with_frame c (fell c kind f.id) f).passes ≡ c.passes
passes-fell c f Request =
    cond_both (is_repeat c f.id) _ _ (λ x. (with_frame c x f).passes ≡ c.passes) (λ _. refl)
    (λ _. cond_both (is_full c) _ _ (λ x. (with_frame c x f).passes ≡ c.passes) (λ _. refl)
    (λ _. refl))
passes-fell c f Reply = cond_both (waits_for (path_of c f.id.path).awaits f.id.seq) _ _
    (λ x. (with_frame c x f).passes ≡ c.passes) (λ _. refl) (λ _. refl)

passes-arrived : (net : NetPlan) (nodes : List NodeIs) (f : Frame) (fate : Fate) (k : ℕ)
    → (part_of (arrived nodes f (arrival net nodes fate f)) k).passes ≡ (part_of nodes k).passes
passes-arrived net nodes f fate k =
    arrived-part net nodes f fate (λ (k : ℕ) (c : NodeIs). c.passes ≡ (part_of nodes k).passes)
    (λ k. refl) (λ here. passes-fell (part_of nodes f.to) f f.kind) k

passes-heard : (c : NodeIs) (kind : FrameKind) (id : CallId) (there : Bool) (h : Heard)
    → (heard_by c kind id there h).passes ≡ c.passes
passes-heard c kind id there Acked = refl
passes-heard c kind id there Busy = refl
passes-heard c kind id there Silent =
    cond_both (nat_le 2 c.tries) (sent_off c (failed c kind id (silence_word there))) _
    (λ (x : NodeIs). x.passes ≡ c.passes) (λ _. refl) (λ _. refl)

passes-sent : (net : NetPlan) (r : RingIs) (m : ℕ) (box : List Frame) (k : ℕ)
    → passes (sent_head net r m box) k ≡ passes r k
passes-sent net r m [] k = refl
passes-sent net r m (f ∷ fs) k =
    let fate = fate_at net.fates r.sent in
    let fall = arrival net r.nodes fate f in
    let nodes = arrived r.nodes f fall in
    let there = hears net r.nodes f.to (is_onward f) in
    passes-set nodes m k _
    (passes-heard (part_of nodes m) f.kind f.id there (heard_of fate fall))
    ∙ passes-arrived net r.nodes f fate k

passes-left : (cause : LeaveCause) (c : NodeIs) → (gone_by cause c).passes ≡ c.passes
passes-left Ended c = refl
passes-left Spent c = refl
passes-left (Down number) c = refl

abbrev passed : ℕ → List RingEntry → ℕ
passed n es = count_by is_pass (own n es)

quiet-entry : (n m : ℕ) (e : RingEntry) → is_pass e ≡ false → passed n (e ∷ []) ≡ 0
quiet-entry n m e no' = cond_both (maker e == n) (e ∷ []) []
    (λ (es : List RingEntry). count_by is_pass es ≡ 0)
    (λ _. let z : cond {A = ℕ} (is_pass e) 1 0 ≡ 0 = ap (λ (b : Bool). cond {A = ℕ} b 1 0) no' in
    omega arith) (λ _. refl)

passes-with : (nodes : List NodeIs) (holder sent m n : ℕ) (done : Bool) (words : List ℕ)
    → (m ≡ n → m < length nodes)
    → (part_of (set nodes m (after_pass (part_of nodes m) done)) n).passes ≡
    (part_of nodes n).passes + passed n (Pass m done words ∷ [])
passes-with nodes holder sent m n done words low = ⊎_elim
    (λ (e : m ≡ n).
    let counts : passed n (Pass m done words ∷ []) ≡ 1 = ap
    (λ (b : Bool). count_by is_pass (cond b (Pass m done words ∷ []) [])) (eq-eqb m n e) in
    let it = same-set nodes m (after_pass (part_of nodes m) done) (low e) in
    let there : (part_of (set nodes m (after_pass (part_of nodes m) done)) n).passes ≡
    (part_of nodes n).passes + 1 =
    ap (λ (k : ℕ). (part_of (set nodes m (after_pass (part_of nodes m) done)) k).passes) (sym e)
    ∙ (ap (λ (c : NodeIs). c.passes) it ∙ ap (λ (k : ℕ). (part_of nodes k).passes + 1) e) in
    there ∙ ap (λ (k : ℕ). (part_of nodes n).passes + k) (sym counts))
    (λ (other : m ≡ n → ⊥).
    let counts : passed n (Pass m done words ∷ []) ≡ 0 = ap
    (λ (b : Bool). count_by is_pass (cond b (Pass m done words ∷ []) [])) (ne_eqb m n other) in
    let it : (part_of (set nodes m (after_pass (part_of nodes m) done)) n).passes ≡
    (part_of nodes n).passes =
    ap (λ (c : NodeIs). c.passes) (other-set nodes m n _ other) in
    omega (arith, counts, it))
    (cases_eq m n)

none-more : (a b k : ℕ) → a ≡ b → k ≡ 0 → a ≡ b + k
none-more a b k is none = omega (arith, is, none)

passes-after : (net : NetPlan) (past : List RingEntry) (r : RingIs) (n : ℕ) (e : RingEntry)
    → length r.nodes ≡ addresses
    → All (λ m. m < addresses) net.members → IsRingStep net past e
    → passes (after net r e) n ≡ passes r n + passed n (e ∷ [])
passes-after net past r n (Post m f) size low step =
    none-more _ _ _ (passes-set r.nodes m n _ refl) (quiet-entry n m (Post m f) refl)
passes-after net past r n (Send m heard) size low step =
    none-more _ _ _ (passes-sent net r m (ring_node r m).outbox n)
    (quiet-entry n m (Send m heard) refl)
passes-after net past r n (Take m f) size low step =
    none-more _ _ _ (passes-set r.nodes m n _ refl) (quiet-entry n m (Take m f) refl)
passes-after net past r n (Local m id op result) size low step = none-more _ _ _ refl
    (quiet-entry n m (Local m id op result) refl)
passes-after net past r n (GiveUp id word) size low step =
    none-more _ _ _ (passes-set r.nodes id.node n _ refl)
    (quiet-entry n id.node (GiveUp id word) refl)
passes-after net past r n (Pass m done words) size low step =
    let small : m < addresses = All-contains (λ k. k < addresses) net.members m low step.0 in
    passes-admitted (set r.nodes m (after_pass (ring_node r m) done)) n
    ∙ passes-with r.nodes r.holder r.sent m n done words (λ _. omega (arith, size, small))
passes-after net past r n (Leave m cause) size low step =
    none-more _ _ _ (passes-admitted (set r.nodes m (gone_by cause (ring_node r m))) n
    ∙ passes-set r.nodes m n _ (passes-left cause (ring_node r m)))
    (quiet-entry n m (Leave m cause) refl)
passes-after net past r n (Join m) size low step =
    none-more _ _ _ (cond_both (is_held r) _ _ (λ (x : RingIs). passes x n ≡ passes r n)
    (λ _. passes-set r.nodes m n _ refl) (λ _. passes-set r.nodes m n _ refl))
    (quiet-entry n m (Join m) refl)

counted-from : (net : NetPlan) (n : ℕ) (past es : List RingEntry) → (k : ℕ)
    → IsSoundRing k (ring_after net past)
    → All (λ m. m < addresses) net.members → IsRun net past es
    → passes (ring_after net (past ++ es)) n ≡ passes (ring_after net past) n + passed n es
counted-from net n past [] k sound low run =
    none-more _ _ _ (ap (λ (l : List RingEntry). passes (ring_after net l) n) (append-nil past))
    refl
counted-from net n past (e ∷ es) k sound low run =
    let r = ring_after net past in
    let one : passes (ring_after net (past ++ e ∷ [])) n ≡ passes r n + passed n (e ∷ []) =
    ap (λ (x : RingIs). passes x n) (next-ring net past e) ∙ passes-after net past r n e sound.size
    low run.0 in
    let now : IsSoundRing (k + 1) (ring_after net (past ++ e ∷ [])) =
    subst (IsSoundRing (k + 1)) (sym (next-ring net past e)) (after-sound net k r e sound) in
    let more = counted-from net n (past ++ e ∷ []) es (k + 1) now low run.1 in
    let whole : passes (ring_after net (past ++ e ∷ es)) n ≡ passes
    (ring_after net ((past ++ e ∷ []) ++ es)) n =
    ap (λ (l : List RingEntry). passes (ring_after net l) n) (sym (append_assoc past (e ∷ []) es))
    in
    let split : passed n (e ∷ es) ≡ passed n (e ∷ []) + passed n es = own-split (maker e == n) in
    omega (arith, one, more, whole, split) where
      own-split : (b : Bool) → count_by is_pass (cond b (e ∷ own n es) (own n es))
          ≡ count_by is_pass (cond b (e ∷ []) []) + count_by is_pass (own n es)
      own-split true = count-more is_pass (e ∷ []) (own n es)
      own-split false = omega arith

opening-passes : (nodes : List NodeIs) (ms : List ℕ) (n : ℕ)
    → ((k : ℕ) → (part_of nodes k).passes ≡ 0) → (part_of (with_members nodes ms) n).passes ≡ 0
opening-passes nodes [] n none = none n
opening-passes nodes (m ∷ ms) n none = opening-passes (set nodes m (fresh true)) ms n
    (zero-set nodes m none) where
      zero-set : (ns : List NodeIs) (m : ℕ) → ((k : ℕ) → (part_of ns k).passes ≡ 0) → (k : ℕ)
          → (part_of (set ns m (fresh true)) k).passes ≡ 0
      zero-set [] m z k = refl
      zero-set (d ∷ ds) zero z zero = refl
      zero-set (d ∷ ds) zero z (suc k) = z (suc k)
      zero-set (d ∷ ds) (suc m) z zero = z 0
      zero-set (d ∷ ds) (suc m) z (suc k) = zero-set ds m (λ j. z (suc j)) k

fresh-passes : (size n : ℕ) → (part_of (replicate size (fresh false)) n).passes ≡ 0
fresh-passes zero n = refl
fresh-passes (suc size) zero = refl
fresh-passes (suc size) (suc n) = fresh-passes size n

-- the Passes of a node are those of its list
pub passes-counted : (net : NetPlan) (history : List RingEntry) (n : ℕ)
    → All (λ m. m < addresses) net.members → IsLegalRing net history
    → (ring_node (ring_after net history) n).passes ≡ count_by is_pass (own n history)
passes-counted net history n low legal =
    let start : passes (ring_after net []) n ≡ 0 = opening-passes
    (replicate addresses (fresh false)) net.members n (fresh-passes addresses) in
    let all = counted-from net n [] history 0 (opening-sound net) low legal in
    omega (arith, start, all)
