-- Passes gathered again.
use Rattle.std.proofs.Common.{◌≡◌, ◌≢◌, ◌⊎◌, ℕ, zero, suc, ◌||◌, ◌==◌, Bool, true, false, List, []}
use Rattle.std.proofs.Common.{◌∷◌, ◌++◌, All, Result, Ok, Err, Some, OnOk, length, map}
use Rattle.std.proofs.Common.{reverse, take, nat_eq, refl, sym, ap, ◌∙◌, subst, inl, inr, ⊎_elim}
use Rattle.std.proofs.Common.{eq-eqb, lit<, arith}
use Rattle.std.specs.List.{list_any}
use Rattle.std.proofs.Math.Seq.{take-append_seam}
use Rattle.std.proofs.lemmas.List.{map-append, reverse-append, append_assoc, length-map}
use Rattle.std.proofs.lemmas.List.Elements.{All-append}
use Rattle.std.proofs.lemmas.List.Folds.{list_any-append}
use Rattle.turn_gate.specs.Known.{GateName, GateFacts, PassFacts, first_pass, made_by, own_lists}
use Rattle.turn_gate.specs.Known.{with_pass, is_among, IsPassReady}
use Rattle.gated_tape.specs.declared.tapes.Mark.{Mark}
use Rattle.gated_tape.specs.declared.refusals.PutNo.{PutNo}
use Rattle.gated_tape.specs.declared.refusals.PutNo.TheVariants.{Full}
use Rattle.gated_tape.specs.Marks.{node_of, mark_count}
use Rattle.gated_tape.specs.Sides.{Frame, SideFacts, gated_frame}
use Rattle.gated_tape.specs.Workers.{WriterEnded}
use Rattle.gated_tape.specs.Runs.{Card, card_of, HasEnded}
use Rattle.gated_tape.specs.Crews.{GatedWriter, count_down, seen_of, cards_of, writer_nodes}
use Rattle.gated_tape.specs.Crews.{frame_at}
use Rattle.gated_tape.specs.Crews.{no_refusal, first_refusal, IsCardOver, AreDealt, HasHeardFull}
use Rattle.gated_tape.specs.Crews.{IsGathering, AreGathering}
use Rattle.gated_tape.proofs.Dealing.{all_one}

-- what holds of all elements and one in front
pub all_cons : {A : Type 0} (P : A → Type 0) (y : A) (ys : List A) → P y → All P ys → All P (y ∷ ys)
all_cons P y ys p q zero d low = p
all_cons P y ys p q (suc k) d low = q k d (omega arith)

-- what holds of all elements holds of those before the last, and of the last
pub all_parts : {A : Type 0} (P : A → Type 0) (xs : List A) (x : A) → All P (xs ++ x ∷ [])
    → All P xs × P x
all_parts P [] x all = ((λ k d low. absurd (omega arith)), all 0 x (lit< tt))
all_parts P (y ∷ ys) x all =
    let r = all_parts P ys x (λ k d low. all (suc k) d (omega arith)) in
    (all_cons P y ys (all 0 y (omega arith)) r.0, r.1)

-- a number stands in a list behind which it stands
among_here : (n : ℕ) (xs ys : List ℕ) → is_among n (xs ++ n ∷ ys) ≡ true
among_here n [] ys = ap (λ b. b || is_among n ys) (eq-eqb n n refl)
among_here n (x ∷ xs) ys = or_true (nat_eq n x) (is_among n (xs ++ n ∷ ys)) (among_here n xs ys)
  where
    or_true : (a b : Bool) → b ≡ true → (a || b) ≡ true
    or_true true b e = refl
    or_true false b e = e

-- the numbers of lists by number
abbrev pub firsts : List (ℕ × List Mark) → List ℕ
firsts lists = map (λ (q : ℕ × List Mark). q.0) lists

-- where 0 was not given, the pass that comes back next is not pass 0
pub not_zero : {T X : Type 0} (gate : GateName Mark) (count : ℕ) (ended : Result T X)
    (left : List GatedWriter) (w : GatedWriter) (p : PassFacts Mark)
    → IsGathering gate count ended (writer_nodes (left ++ w ∷ [])) p
    → is_among 0 p.given ≡ false → w.node ≢ 0
not_zero gate count ended left w p so_far positive is =
    let nodes = map-append (λ (v : GatedWriter). v.node) left (w ∷ []) in
    let turned : reverse (writer_nodes (left ++ w ∷ [])) ≡ 0 ∷ reverse (writer_nodes left) =
    ap reverse nodes ∙ (reverse-append (writer_nodes left) (w.node ∷ [])
    ∙ ap (λ m. m ∷ reverse (writer_nodes left)) is) in
    let whole : p.given ≡ firsts p.joined ++ 0 ∷ reverse (writer_nodes left) = so_far.given_is
    ∙ ap (λ l. firsts p.joined ++ l) turned in
    let no : true ≡ false = sym (among_here 0 (firsts p.joined) (reverse (writer_nodes left)))
    ∙ (sym (ap (is_among 0) whole) ∙ positive) in cc

module _ {T X : Type 0} where
  -- what holds where both were done
  on_both : {A B C : Type 0} (one two : Result T X) → OnOk one A → OnOk two B → (A → B → C)
      → OnOk (first_refusal one two) C
  on_both (Ok x) (Ok y) a b make = make a b
  on_both (Ok x) (Err y) a b make = tt
  on_both (Err x) two a b make = tt

  -- one pass more is back
  pub gather-in : (gate : GateName Mark) (count : ℕ) (ended e : Result T X) (left : List ℕ) (n : ℕ)
      (p a : PassFacts Mark) → gate.opening ≡ []
      → IsGathering gate count ended (left ++ n ∷ []) p → IsPassReady node_of n gate a
      → OnOk e (mark_count n a.seen ≡ count) → IsGathering gate count
      (first_refusal ended e) left (with_pass p a)
  gather-in gate count ended e left n p a opening so_far ready done =
      let lists : own_lists a ≡ (n, a.mine) ∷ [] =
      (λ i. (ready.number_is i, a.mine) ∷ ready.unjoined i) in
      let numbers : firsts (p.joined ++ own_lists a) ≡ firsts p.joined ++ n ∷ [] =
      map-append (λ (r : ℕ × List Mark). r.0) p.joined (own_lists a)
      ∙ ap (λ l. firsts p.joined ++ firsts l) lists in
      let made : a.seen ≡ ready.own_is.made =
      ready.own_is.all_is ∙ (ap (λ g. g.opening ++ ready.own_is.made) ready.gate_is
      ∙ ap (λ l. l ++ ready.own_is.made) opening) in
      let mine : a.mine ≡ made_by node_of n a.seen =
      ready.own_is.mine_is ∙ (λ i. made_by node_of (ready.number_is i) (sym made i)) in
      record {
        gate_is = so_far.gate_is;
        outside = so_far.outside;
        is_zero = so_far.is_zero;
        unwritten = so_far.unwritten;
        given_is = so_far.given_is
            ∙ (ap (λ l. firsts p.joined ++ l) (reverse-append left (n ∷ []))
            ∙ (sym (append_assoc (firsts p.joined) (n ∷ []) (reverse left))
            ∙ ap (λ l. l ++ reverse left) (sym numbers)));
        written = on_both ended e so_far.written done (λ all counted.
            subst (λ l. All (λ r. length r.1 ≡ count) (p.joined ++ l)) (sym lists)
            (All-append (λ r. length r.1 ≡ count) p.joined ((n, a.mine) ∷ []) all
            (all_one (λ r. length r.1 ≡ count) (n, a.mine) (ap length mine ∙ counted))));
      }

-- a pass that had heard of a full tape still has
heard_before : (limit : ℕ) (p a : PassFacts Mark) → HasHeardFull limit p
    → HasHeardFull limit (with_pass p a)
heard_before limit p a heard =
    list_any-append (λ s. length s == limit) p.heard (a.seen ∷ a.heard)
    ∙ ap (λ b. b || list_any (λ s. length s == limit) (a.seen ∷ a.heard)) heard

-- and so has one that takes in a pass that has seen one
heard_now : (limit : ℕ) (p a : PassFacts Mark) → length a.seen ≡ limit
    → HasHeardFull limit (with_pass p a)
heard_now limit p a long =
    list_any-append (λ s. length s == limit) p.heard (a.seen ∷ a.heard)
    ∙ (ap (λ b. list_any (λ s. length s == limit) p.heard
    || (b || list_any (λ s. length s == limit) a.heard)) (eq-eqb (length a.seen) limit long)
    ∙ or_yes (list_any (λ s. length s == limit) p.heard))
  where
    or_yes : (b : Bool) → (b || true) ≡ true
    or_yes true = refl
    or_yes false = refl

module _ {T : Type 0} (one two : GateFacts Mark ℕ) (p q a b : PassFacts Mark) where
  -- a refusal that says Full was heard of
  full-next : (ended e : Result T PutNo)
      → (ended ≡ Err Full → HasHeardFull one.fixed p ⊎ HasHeardFull two.fixed q)
      → (e ≡ Err Full → (length a.seen ≡ one.fixed) ⊎ (length b.seen ≡ two.fixed))
      → first_refusal ended e ≡ Err Full
      → HasHeardFull one.fixed (with_pass p a) ⊎ HasHeardFull two.fixed (with_pass q b)
  full-next (Ok x) e before now full =
      ⊎_elim (λ h. inl (heard_now one.fixed p a h))
      (λ h. inr (heard_now two.fixed q b h)) (now full)
  full-next (Err x) e before now full =
      ⊎_elim (λ h. inl (heard_before one.fixed p a h))
      (λ h. inr (heard_before two.fixed q b h)) (before full)

  -- a writer's two passes are back
  pub gather_next : (count : ℕ) (ended : Result T PutNo) (left : List GatedWriter) (w : GatedWriter)
      (e : Result T PutNo)
      → one.name.opening ≡ [] → two.name.opening ≡ []
      → AreGathering one two count ended (left ++ w ∷ []) p q
      → IsPassReady node_of w.node one.name a → IsPassReady node_of w.node two.name b
      → OnOk e (mark_count w.node a.seen ≡ count) → OnOk e (mark_count w.node b.seen ≡ count) →
      (e ≡ Err Full → (length a.seen ≡ one.fixed) ⊎ (length b.seen ≡ two.fixed))
      → AreGathering one two count (first_refusal ended e) left (with_pass p a) (with_pass q b)
  gather_next count ended left w e open_one open_two so_far ready_one ready_two done_one
      done_two full =
      let nodes = map-append (λ (v : GatedWriter). v.node) left (w ∷ []) in
      record {
        in_one = gather-in one.name count ended e (writer_nodes left) w.node p a open_one
            (subst (λ l. IsGathering one.name count ended l p) nodes so_far.in_one)
            ready_one done_one;
        in_two = gather-in two.name count ended e (writer_nodes left) w.node q b open_two
            (subst (λ l. IsGathering two.name count ended l q) nodes so_far.in_two)
            ready_two done_two;
        full = full-next ended e so_far.full full;
      }

-- the side of a writer that is at a gate goes through that gate, in the node's name
pub side_at : (gate : GateFacts Mark ℕ) (side : SideFacts) (node : ℕ)
    → gated_frame side ≡ frame_at gate node → (side.gate ≡ gate) × (side.number ≡ node)
side_at gate side node is =
    let named : Some side.number ≡ Some node = ap (λ (f : Frame (GateFacts Mark ℕ)). f.writer) is in
    let same : side.number ≡ node = cc in
    (ap (λ (f : Frame (GateFacts Mark ℕ)). f.place) is, same)

-- and its pass comes back ready
pub ready_at : (gate : GateFacts Mark ℕ) (side : SideFacts) (node : ℕ) (a : PassFacts Mark)
    → gated_frame side ≡ frame_at gate node → IsPassReady node_of side.number side.gate.name a
    → IsPassReady node_of node gate.name a
ready_at gate side node a is ready =
    let at = side_at gate side node is in
    subst (λ (s : ℕ × GateFacts Mark ℕ). IsPassReady node_of s.0 s.1.name a)
    (λ i. (at.1 i, at.0 i)) ready

-- before any pass is back
pub gather_none : {T X : Type 0} (gate : GateName Mark) (count : ℕ) (ended : Result T X)
    (nodes : List ℕ) (p : PassFacts Mark)
    → p ≡ record (first_pass gate) { given = reverse nodes }
    → IsGathering gate count ended nodes p
gather_none gate count ended nodes p is =
    subst (IsGathering gate count ended nodes) (sym is) (record {
      gate_is = refl;
      outside = refl;
      is_zero = refl;
      unwritten = refl;
      given_is = refl;
      written = on_ok ended (λ k d low. absurd (omega arith));
    })
  where
    on_ok : {T X A : Type 0} (r : Result T X) → A → OnOk r A
    on_ok (Ok x) a = a
    on_ok (Err x) a = tt

-- a writer taken from the end of those that are left
pub record Popped {T : Type 0} (one two : GateFacts Mark ℕ) (count : ℕ) (ended : Result T PutNo)
    (rest : List GatedWriter) (w : GatedWriter)
    (p q : PassFacts Mark) : Type 0 where
  pub rest_ended : All (HasEnded gated_frame seen_of count) rest
  pub ended_is : HasEnded gated_frame seen_of count w
  pub rest_at : All (IsCardOver one two) (cards_of rest)
  pub at_is : IsCardOver one two (card_of gated_frame seen_of w)
  pub so_far : AreGathering one two count ended (rest ++ w ∷ []) p q

pub popped : {T : Type 0} (one two : GateFacts Mark ℕ) (count : ℕ) (ended : Result T PutNo)
    (writers rest : List GatedWriter) (w : GatedWriter)
    (p q : PassFacts Mark)
    → writers ≡ rest ++ w ∷ [] → All (HasEnded gated_frame seen_of count) writers
    → All (IsCardOver one two)
    (cards_of writers) → AreGathering one two count ended writers p q
    → Popped one two count ended rest w p q
popped one two count ended writers rest w p q is all_ended all_at gathering =
    let cards = ap cards_of is ∙ map-append (card_of gated_frame seen_of) rest (w ∷ []) in
    let parts = all_parts (HasEnded gated_frame seen_of count) rest w
    (subst (All (HasEnded gated_frame seen_of count)) is all_ended) in
    let at = all_parts (IsCardOver one two) (cards_of rest) (card_of gated_frame seen_of w)
    (subst (All (IsCardOver one two)) cards all_at) in
    record {
      rest_ended = parts.0;
      ended_is = parts.1;
      rest_at = at.0;
      at_is = at.1;
      so_far = subst (λ ws. AreGathering one two count ended ws p q) is gathering;
    }

-- where the writer's work ended with Full, one of its passes has seen a full tape
pub full_at : {T : Type 0} (one two : GateFacts Mark ℕ) (count : ℕ) (e : Result T PutNo) (node : ℕ)
    (first second : SideFacts) (a b : PassFacts Mark)
    → gated_frame first ≡ frame_at one node → gated_frame second ≡ frame_at two node
    → a.seen ≡ first.seen → b.seen ≡ second.seen
    → WriterEnded node count e (gated_frame first) first.seen (gated_frame second) second.seen
    → e ≡ Err Full → (length a.seen ≡ one.fixed) ⊎
    (length b.seen ≡ two.fixed)
full_at one two count e node first second a b at_one at_two seen_one seen_two ended is =
    ⊎_elim
    (λ h. inl (ap length seen_one
    ∙ (h ∙ ap (λ (g : GateFacts Mark ℕ). g.fixed) (side_at one first node at_one).0)))
    (λ h. inr (ap length seen_two
    ∙ (h ∙ ap (λ (g : GateFacts Mark ℕ). g.fixed) (side_at two second node at_two).0)))
    (ended.full is)

-- the nodes stand on the cards
nodes-cards : (writers : List GatedWriter) → writer_nodes writers
    ≡ map (λ c. c.node) (cards_of writers)
nodes-cards [] = refl
nodes-cards (w ∷ ws) = ap (λ l. w.node ∷ l) (nodes-cards ws)

-- writers with the same cards have the same nodes
same_nodes : (old new : List GatedWriter) → cards_of new ≡ cards_of old
    → writer_nodes new ≡ writer_nodes old
same_nodes old new cards =
    nodes-cards new ∙ (ap (λ l. map (λ (c : Card _). c.node) l) cards ∙ sym (nodes-cards old))

-- the writers ran on a part of the room that is all of it
ran_all : (len : ℕ) (slice new rest : List GatedWriter) → cards_of new ≡ cards_of slice
    → length slice ≡ len → take len (new ++ rest) ≡ new
ran_all len slice new rest cards long =
    let card = card_of gated_frame seen_of in
    let same : len ≡ length new = sym long
    ∙ (sym (length-map slice card) ∙ (ap length (sym cards) ∙ length-map new card)) in
    ap (λ n. take n (new ++ rest)) same ∙ take-append_seam new rest

-- once all ran, no pass is back
pub gather_start : (one two : GateFacts Mark ℕ) (count writers len : ℕ)
    (items slice new rest : List GatedWriter) (p q : PassFacts Mark)
    → p ≡ record (first_pass one.name) { given = count_down writers }
    → q ≡ record (first_pass two.name) { given = count_down writers }
    → AreDealt one two (count_down writers) items → slice ≡ items → length slice ≡ len
    → cards_of new ≡ cards_of slice
    → AreGathering one two count no_refusal (take len (new ++ rest)) p q
gather_start one two count writers len items slice new rest p q p_is q_is dealt is long cards =
    let nodes : count_down writers ≡ reverse (writer_nodes new) =
    sym (ap reverse (same_nodes slice new cards ∙ ap writer_nodes is) ∙ dealt.nodes) in
    subst (λ ws. AreGathering one two count no_refusal ws p q)
    (sym (ran_all len slice new rest cards long)) (record {
      in_one = gather_none one.name count no_refusal (writer_nodes new) p
          (p_is ∙ ap (λ l. record (first_pass one.name) { given = l }) nodes);
      in_two = gather_none two.name count no_refusal (writer_nodes new) q
          (q_is ∙ ap (λ l. record (first_pass two.name) { given = l }) nodes);
      full = λ never. absurd (let no : no_refusal ≡ Err Full = never in cc);
    })
