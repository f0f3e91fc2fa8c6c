-- Where a Reply may be posted its Request was taken, and it carries the answer to that.
use Rattle.std.proofs.Common.{◌≡◌, ℕ, ◌+◌, ◌≤◌, ◌⊎◌, true, false, List, [], ◌∷◌, ◌++◌, length}
use Rattle.std.proofs.Common.{map, Option, Some, None, sym, ap, inl, inr, ⊎_elim, ◌∙◌, arith}
use Rattle.std.specs.List.{Contains, cons_option, AllByRecursion as Each}
use Rattle.mstr_block.specs.declared.call.CallId.{CallId}
use Rattle.tied_lists.specs.Items.{Answered, Item, RequestItem, Taken, Plain, ForStats, item_of}
use Rattle.tied_lists.specs.Items.{plain_items, stats_items, due_reply, due_replies, replies_in}
use Rattle.joint_history.specs.Effects.{has_reply}
use Rattle.entry_causes.specs.Causes.{ready}
use Rattle.effect_laws.proofs.Sources.{name_of, behind, here}
use Rattle.call_order.proofs.Counts.{for-station, with-reply}

-- a Request of this call was taken, and was answered with these bytes
pub record Told (taken : List Taken) (peers locals : List Answered) (id : CallId) (pdu : List ℕ)
    : Type 0 where
  pub request : Taken
  pub among : Contains taken request
  pub name : name_of request ≡ id
  pub answer : Answered
  pub given : Contains peers answer ⊎ Contains locals answer
  pub call : answer.id ≡ id
  pub reply : answer.reply ≡ Some pdu

abbrev pub HasReply : Answered → Type 0
HasReply answer = with-reply answer ≡ true

head-of : {X : Type 0} (x y : X) (xs ys : List X) → x ∷ xs ≡ y ∷ ys → (x ≡ y) × (xs ≡ ys)
head-of x y xs ys q = (cc, cc)

-- the first Request and its answer
module _ (id : CallId) (pdu : List ℕ) (after : List Item) where
  -- the Reply in question is to it, or to a later one
  this-or-later : (i : CallId) (reply : List ℕ) (before rest : List Item) (more : ℕ)
      → before ++ (id, Some pdu) ∷ after ≡ (i, Some reply) ∷ rest → length before + 1 ≤ 1 + more
      → ((i ≡ id) × (Some reply ≡ Some pdu))
      ⊎ ((later : List Item) × (later ++ (id, Some pdu) ∷ after ≡ rest)
      × (length later + 1 ≤ more))
  this-or-later i reply [] rest more q h =
      let two = head-of {X = Item} (id, Some pdu) (i, Some reply) after rest q in
      inl (ap (λ (x : Item). x.0) (sym two.0), ap (λ (x : Item). x.1) (sym two.0))
  this-or-later i reply (x ∷ before) rest more q h =
      let two = head-of {X = Item} x (i, Some reply) (before ++ (id, Some pdu) ∷ after) rest q in
      inr (before, two.1, omega (arith, h))

later-plain : (u : Taken) (a : Answered) (ts : List Taken) (ps ls : List Answered) (id : CallId)
    (pdu : List ℕ) → Told ts ps ls id pdu → Told (u ∷ ts) (a ∷ ps) ls id pdu
later-plain u a ts ps ls id pdu t = record {
  request = t.request;
  among = behind u ts t.request t.among;
  name = t.name;
  answer = t.answer;
  given = ⊎_elim (λ (p : Contains ps t.answer). inl (behind a ps t.answer p))
      (λ (l : Contains ls t.answer). inr l) t.given;
  call = t.call;
  reply = t.reply;
}

later-stats : (u : Taken) (a : Answered) (ts : List Taken) (ps ls : List Answered) (id : CallId)
    (pdu : List ℕ) → Told ts ps ls id pdu → Told (u ∷ ts) ps (a ∷ ls) id pdu
later-stats u a ts ps ls id pdu t = record {
  request = t.request;
  among = behind u ts t.request t.among;
  name = t.name;
  answer = t.answer;
  given = ⊎_elim (λ (p : Contains ps t.answer). inl p)
      (λ (l : Contains ls t.answer). inr (behind a ls t.answer l)) t.given;
  call = t.call;
  reply = t.reply;
}

-- the first Replies that are due are ready as the answers have come
abbrev pub AreTold : List Taken → List Answered → List Answered → Type 0
AreTold ts ps ls =
    (later : List Taken) (peers locals : List Answered) (before after : List Item) (id : CallId)
    (pdu : List ℕ) → map item_of (ps ++ peers) ≡ plain_items (ts ++ later)
    → map item_of (ls ++ locals) ≡ stats_items (ts ++ later)
    → before ++ (id, Some pdu) ∷ after
    ≡ due_replies (ts ++ later) (replies_in (ps ++ peers)) (replies_in (ls ++ locals))
    → length before + 1 ≤ ready (map for-station ts) (map with-reply ps) (length ls)
    → Told ts ps ls id pdu

plain-told : (j : CallId) (way q : List ℕ) (ts : List Taken) (a : Answered)
    (ps ls : List Answered) → AreTold ts ps ls → AreTold (Plain j way q ∷ ts) (a ∷ ps) ls
plain-told j way q ts a ps ls rest later peers locals before after id pdu p l due h =
    at a.reply (λ x. x) due h
  where
    this : RequestItem
    this = record { id = j; rest = way; request = Some q }

    item : (item_of a ≡ this) × (map item_of (ps ++ peers) ≡ plain_items (ts ++ later))
    item = head-of {X = RequestItem} (item_of a) this (map item_of (ps ++ peers))
        (plain_items (ts ++ later)) p

    others : List Item
    others = due_replies (ts ++ later) (replies_in (ps ++ peers)) (replies_in (ls ++ locals))

    more : ℕ
    more = ready (map for-station ts) (map with-reply ps) (length ls)

    at : (o : Option (List ℕ)) → (o ≡ Some pdu → a.reply ≡ Some pdu)
        → before ++ (id, Some pdu) ∷ after ≡ cons_option (due_reply j (Some o)) others
        → length before + 1 ≤ ready (true ∷ map for-station ts)
        (has_reply o ∷ map with-reply ps) (length ls)
        → Told (Plain j way q ∷ ts) (a ∷ ps) ls id pdu
    at None is due' h' = later-plain (Plain j way q) a ts ps ls id pdu
        (rest later peers locals before after id pdu item.1 l due' h')
    at (Some reply) is due' h' = ⊎_elim
        (λ (first : (j ≡ id) × (Some reply ≡ Some pdu)). record {
          request = Plain j way q;
          among = here (Plain j way q) ts;
          name = first.0;
          answer = a;
          given = inl (here a ps);
          call = ap (λ (x : RequestItem). x.id) item.0 ∙ first.0;
          reply = is first.1;
        })
        (λ (t : (b : List Item) × (b ++ (id, Some pdu) ∷ after ≡ others)
        × (length b + 1 ≤ more)).
        later-plain (Plain j way q) a ts ps ls id pdu
        (rest later peers locals t.0 after id pdu item.1 l t.1 t.2))
        (this-or-later id pdu after j reply before others more due' h')

stats-told : (j : CallId) (q : List ℕ) (ts : List Taken) (a : Answered) (ps ls : List Answered)
    → HasReply a → AreTold ts ps ls → AreTold (ForStats j q ∷ ts) ps (a ∷ ls)
stats-told j q ts a ps ls has rest later peers locals before after id pdu p l due h =
    at a.reply (λ x. x) has due
  where
    this : RequestItem
    this = record { id = j; rest = []; request = Some q }

    item : (item_of a ≡ this) × (map item_of (ls ++ locals) ≡ stats_items (ts ++ later))
    item = head-of {X = RequestItem} (item_of a) this (map item_of (ls ++ locals))
        (stats_items (ts ++ later)) l

    others : List Item
    others = due_replies (ts ++ later) (replies_in (ps ++ peers)) (replies_in (ls ++ locals))

    more : ℕ
    more = ready (map for-station ts) (map with-reply ps) (length ls)

    at : (o : Option (List ℕ)) → (o ≡ Some pdu → a.reply ≡ Some pdu) → has_reply o ≡ true
        → before ++ (id, Some pdu) ∷ after ≡ cons_option (due_reply j (Some o)) others
        → Told (ForStats j q ∷ ts) ps (a ∷ ls) id pdu
    at None is has' due' = absurd (let no' : false ≡ true = has' in cc)
    at (Some reply) is has' due' = ⊎_elim
        (λ (first : (j ≡ id) × (Some reply ≡ Some pdu)). record {
          request = ForStats j q;
          among = here (ForStats j q) ts;
          name = first.0;
          answer = a;
          given = inr (here a ls);
          call = ap (λ (x : RequestItem). x.id) item.0 ∙ first.0;
          reply = is first.1;
        })
        (λ (t : (b : List Item) × (b ++ (id, Some pdu) ∷ after ≡ others)
        × (length b + 1 ≤ more)).
        later-stats (ForStats j q) a ts ps ls id pdu
        (rest later peers locals t.0 after id pdu p item.1 t.1 t.2))
        (this-or-later id pdu after j reply before others more due' h)

pub due-told : (ts : List Taken) (ps ls : List Answered) → Each HasReply ls → AreTold ts ps ls
due-told [] ps ls has = λ later peers locals before after id pdu p l due h.
    absurd (omega (arith, h))
due-told (Plain j way q ∷ ts) [] ls has = λ later peers locals before after id pdu p l due h.
    absurd (omega (arith, h))
due-told (Plain j way q ∷ ts) (a ∷ ps) ls has =
    plain-told j way q ts a ps ls (due-told ts ps ls has)
due-told (ForStats j q ∷ ts) ps [] has = λ later peers locals before after id pdu p l due h.
    absurd (omega (arith, h))
due-told (ForStats j q ∷ ts) ps (a ∷ ls) has =
    stats-told j q ts a ps ls has.0 (due-told ts ps ls has.1)
