-- What the answers rest on.
use Rattle.std.proofs.Common.{◌≡◌, ℕ, zero, suc, ◌+◌, ◌≤◌, ◌<◌, List, [], ◌∷◌, length}
use Rattle.std.proofs.Common.{Bool, true, Some, None, Option, refl, sym, ap, subst}
use Rattle.std.proofs.Common.{◌∙◌, arith, inl, inr}
use Rattle.std.specs.Prelude.{slice_get}
use Rattle.state_space.specs.Reaching.{IsBelow, up_to, Reaches}
use Rattle.state_space.specs.Answers.{IsAmong, Covers, HoldsWith, FailsBy}
use Rattle.state_space.specs.Found.{Entry, key_in, depth_in, IsPathTo}
use Rattle.state_space.specs.Search.{IsExplored}
use Rattle.state_space.proofs.Places.{at-within, at-some, at-same, below-or}

-- the keys of the list, and how far each is
abbrev pub keys_of : List Entry → List (List ℕ)
keys_of [] = []
keys_of (e ∷ es) = key_in e ∷ keys_of es

abbrev pub depth_at : List Entry → ℕ → ℕ
depth_at [] i = 0
depth_at (e ∷ es) zero = depth_in e
depth_at (e ∷ es) (suc i) = depth_at es i

pub keys-length : (es : List Entry) → length (keys_of es) ≡ length es
keys-length [] = refl
keys-length (e ∷ es) = let h = keys-length es in omega (arith, h)

key-at : (es : List Entry) (i : ℕ) (e : Entry) → slice_get es i ≡ Some e
    → (slice_get (keys_of es) i ≡ Some (key_in e)) × (depth_at es i ≡ depth_in e)
key-at [] i e is = absurd (let h : None ≡ Some e = is in cc)
key-at (x ∷ es) zero e is =
    let h : Some x ≡ Some e = is in
    let same : x ≡ e = cc in
    (ap (λ (y : Entry). Some (key_in y)) same, ap (λ (y : Entry). depth_in y) same)
key-at (x ∷ es) (suc i) e is = key-at es i e is

entry-at : (es : List Entry) (i : ℕ) (k : List ℕ) → slice_get (keys_of es) i ≡ Some k
    → (e : Entry) × ((slice_get es i ≡ Some e) × (key_in e ≡ k) × (depth_at es i ≡ depth_in e))
entry-at [] i k is = absurd (let h : None ≡ Some k = is in cc)
entry-at (x ∷ es) zero k is = (x, (refl, (let h : Some (key_in x) ≡ Some k = is in cc), refl))
entry-at (x ∷ es) (suc i) k is = entry-at es i k is

-- what is as far as something within the limit is within it
below-same : (bound : Option ℕ) (n m : ℕ) → n ≤ m → IsBelow bound m → IsBelow bound n
below-same None n m le h = tt
below-same (Some bound) n m le h = omega (arith, le, h)

-- one move less than within the limit
below-less : (limit : Option ℕ) (d n : ℕ) → d ≤ n → IsBelow (up_to limit) (n + 1)
    → IsBelow limit d
below-less None d n le h = tt
below-less (Some limit) d n le h = omega (arith, le, h)

module _ (starts : List ℕ → Type 0) (count : ℕ) (leads : List ℕ → ℕ → List ℕ → Type 0)
    (bad : List ℕ → Bool) (limit : Option ℕ) (es : List Entry) (head : ℕ)
    (k : IsExplored starts count leads bad limit es head 0 head) where
  among : (n : ℕ) (i : ℕ) (e : Entry) → slice_get es i ≡ Some e → depth_in e ≤ n
      → IsAmong (keys_of es) (depth_at es) n (key_in e)
  among n i e is low =
      let at = key-at es i e is in
      let d = at.1 in
      record { place = i; is_there = at.0; suffices = omega (arith, d, low) }

  first-among : (key : List ℕ) × (starts key × IsAmong (keys_of es) (depth_at es) 0 key)
  first-among =
      let there = at-some es 0 k.some in
      let start = k.links.first there.0 there.1 in
      let z = start.1 in
      (key_in there.0, (start.0, among 0 0 there.0 there.1 (omega (arith, z))))

  -- where the entries for which fewer moves suffice stand before the head, they cover what fewer
  -- moves lead to
  covers : (bound : Option ℕ)
      → ((i n : ℕ) (e : Entry) → slice_get es i ≡ Some e → depth_in e ≤ n → IsBelow bound n
      → i < head)
      → ((n d : ℕ) → d ≤ n → IsBelow bound (n + 1) → IsBelow limit d)
      → Covers starts count leads bad bound (keys_of es) (depth_at es)
  covers bound before limits =
      let start = first-among in
      record {
        first = start.0;
        is_first = start.1.0;
        first_among = start.1.1;
        closed = λ n by key is below within.
            let e = entry-at es is.place key is.is_there in
            let low = is.suffices in
            let same = e.1.2 in
            let near : depth_in e.0 ≤ n = omega (arith, low, same) in
            let next = k.done is.place by e.0 e.1.0 below
            (inl (before is.place n e.0 e.1.0 near (below-same bound n (n + 1) (omega arith) within)))
            (limits n (depth_in e.0) near within) in
            let far = next.depth in (
              key_in next.entry,
              (
                subst (λ q. leads q by (key_in next.entry)) e.1.1 next.leads_there,
                among (n + 1) next.index next.entry next.is_there (omega (arith, near, far)),
              ),
            );
        good = λ n key is within.
            let e = entry-at es is.place key is.is_there in
            let low = is.suffices in
            let same = e.1.2 in
            let near : depth_in e.0 ≤ n = omega (arith, low, same) in
            ap bad (sym e.1.1)
            ∙ k.good is.place e.0 e.1.0 (before is.place n e.0 e.1.0 near within);
      }

  pub holds : length es ≤ head → HoldsWith starts count leads bad limit (length es)
  holds all =
      record {
        keys = keys_of es;
        depth = depth_at es;
        as_many = keys-length es;
        apart = λ i j q at-i at-j.
            let e = entry-at es i q at-i in
            let f = entry-at es j q at-j in
            k.apart i j e.0 f.0 e.1.0 f.1.0 (e.1.1 ∙ sym f.1.1);
        reached = λ i q is.
            let e = entry-at es i q is in
            let r = k.reached i e.0 e.1.0 in (
              r.0,
              (
                subst (Reaches starts count leads r.0) e.1.1 r.1.0,
                subst (IsBelow (up_to limit)) (sym r.1.1) (k.limited i e.0 e.1.0),
              ),
            );
        covers = covers (up_to limit)
            (λ i n e is low within. let h = at-within es i e is in omega (arith, h, all))
            (λ n d low within. below-less limit d n low within);
      }

  pub fails : (e : Entry) → slice_get es head ≡ Some e → bad (key_in e) ≡ true → (path : List ℕ)
      → IsPathTo starts count leads es head path → FailsBy starts count leads bad limit path
  fails e at-head is-bad path t =
      let same : t.entry ≡ e = at-same es head t.entry e t.is_there at-head in
      let as-deep : length path ≡ depth_in e = t.as_deep ∙ ap (λ (x : Entry). depth_in x) same in
      record {
        key = key_in t.entry;
        reaches = t.reaches;
        is_bad = ap (λ (x : Entry). bad (key_in x)) same ∙ is-bad;
        within = subst (IsBelow (up_to limit)) (sym as-deep) (k.limited head e at-head);
        keys = keys_of es;
        depth = depth_at es;
        covers = covers (Some (length path))
            (λ i n f is low within. elim (below-or i head) [
              | inl h ↦ h
              | inr h ↦ absurd (let up = k.rising head i e f at-head is h in
                  omega (arith, up, low, within, as-deep))
            ])
            (λ n d low within. below-less limit d n low
            (below-same (up_to limit) (n + 1) (depth_in e) (omega (arith, within, as-deep))
            (k.limited head e at-head)));
      }
