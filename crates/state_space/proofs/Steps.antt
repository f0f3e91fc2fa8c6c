-- What the steps of the search keep.
use Rattle.std.proofs.Common.{◌≡◌, ℕ, zero, suc, ◌+◌, ◌≤◌, ◌<◌, List, [], ◌∷◌, ◌++◌, length}
use Rattle.std.proofs.Common.{Bool, true, false, Some, None, Option, refl, sym, ap, subst}
use Rattle.std.proofs.Common.{◌∙◌, arith, inl, inr, ◌⊎◌}
use Rattle.std.proofs.Common.{is_some, Vec, Global}
use Rattle.std.specs.Map.{lookup}
use Rattle.std.specs.Prelude.{slice_get}
use Rattle.indexmap.specs.IndexMap.{insert_entry}
use Rattle.state_space.specs.Reaching.{IsBelow, up_to, Reaches}
use Rattle.state_space.specs.Found.{Entry, key_in, depth_in, IsLinked}
use Rattle.state_space.specs.Search.{HasNext, IsDone, IsExplored}
use Rattle.state_space.specs.declared.exploring.Link.{Link}
use Rattle.state_space.proofs.Keys.{IsFound, found, not-found, added, is_key, same_key}
use Rattle.state_space.proofs.Paths.{reaches-more, length-snoc}
use Rattle.state_space.proofs.Places.{at-front, at-end, at-snoc, at-within, at-same}
use Rattle.state_space.proofs.Places.{below-or}

-- one look further within a state's moves
done-more : (i m head by : ℕ) → IsDone i m head (by + 1)
    → IsDone i m head by ⊎ ((i ≡ head) × (m ≡ by))
done-more i m head by d =
    elim d [
      | inl h ↦ inl (inl h)
      | inr h ↦ elim (below-or m by) [
        | inl b ↦ inl (inr (h.0, b))
        | inr b ↦ inr (h.0, let x = h.1 in omega (arith, x, b))
      ]
    ]

-- within the limit, one move more is
below-next : (limit : Option ℕ) (n m : ℕ) → IsBelow limit n → m ≡ n + 1 → IsBelow (up_to limit) m
below-next None n m h is = tt
below-next (Some limit) n m h is = omega (arith, h, is)

below-start : (limit : Option ℕ) (n : ℕ) → n ≡ 0 → IsBelow (up_to limit) n
below-start None n is = tt
below-start (Some limit) n is = omega (arith, is)

-- what the link of a new entry is
pub record IsLinkOf (link : Link) (head by depth : ℕ) : Type 0 where
  pub from_is : link.from ≡ head
  pub by_is : link.by ≡ by
  pub depth_is : link.depth ≡ depth + 1

module _ (starts : List ℕ → Type 0) (count : ℕ) (leads : List ℕ → ℕ → List ℕ → Type 0)
    (bad : List ℕ → Bool) (limit : Option ℕ) where
  abbrev Kept : List Entry → ℕ → ℕ → ℕ → Type 0
  Kept es head did looked = IsExplored starts count leads bad limit es head did looked

  -- a move to a key that was found
  pub stay : (es : List Entry) (head by looked : ℕ) (e : Entry) → Kept es head by looked
      → slice_get es head ≡ Some e → (key : List ℕ) → leads (key_in e) by key → IsFound es key
      → Kept es head (by + 1) looked
  stay es head by looked e k at-head key l there =
      record {
        links = k.links;
        within = k.within;
        looked_within = k.looked_within;
        some = k.some;
        shallow = k.shallow;
        limited = k.limited;
        reached = k.reached;
        apart = k.apart;
        rising = k.rising;
        near = k.near;
        good = k.good;
        done = λ i m f at-i below d goes. elim (done-more i m head by d) [
          | inl old ↦ k.done i m f at-i below old goes
          | inr new ↦
              let f-is : f ≡ e = at-same es head f e
              (subst (λ n. slice_get es n ≡ Some f) new.0 at-i) at-head in
              let near = k.near there.index e there.entry at-head there.is_there in
              record {
                index = there.index;
                entry = there.entry;
                is_there = there.is_there;
                leads_there = subst (λ (x : Entry). leads (key_in x) m (key_in there.entry))
                    (sym f-is) (subst (λ n. leads (key_in e) n (key_in there.entry)) (sym new.1)
                    (subst (λ q. leads (key_in e) by q) (sym there.key) l));
                depth = subst (λ (x : Entry). depth_in there.entry ≤ depth_in x + 1) (sym f-is)
                    near;
              }
        ];
      }

  next-front : (es ys : List Entry) (e : Entry) (m : ℕ) → HasNext leads es e m
      → HasNext leads (es ++ ys) e m
  next-front es ys e m h =
      record {
        index = h.index;
        entry = h.entry;
        is_there = at-front es ys h.index h.entry h.is_there;
        leads_there = h.leads_there;
        depth = h.depth;
      }

  link-front : (es ys : List Entry) (i : ℕ) (e : Entry) → IsLinked count leads es i e
      → IsLinked count leads (es ++ ys) i e
  link-front es ys i e h =
      record {
        parent = h.parent;
        is_there = at-front es ys e.1.from h.parent h.is_there;
        before = h.before;
        move = h.move;
        leads_here = h.leads_here;
        depth = h.depth;
      }

  -- what a new entry is
  pub record IsNew (e new : Entry) (head by : ℕ) : Type 0 where
    pub leads_new : leads (key_in e) by (key_in new)
    pub from : new.1.from ≡ head
    pub move : new.1.by ≡ by
    pub depth : depth_in new ≡ depth_in e + 1

  -- a key that was not in the list
  module _ (es : List Entry) (head by looked : ℕ) (e new : Entry) (k : Kept es head by looked)
      (at-head : slice_get es head ≡ Some e) (a-move : by < count)
      (goes : IsBelow limit (depth_in e)) (n : IsNew e new head by)
      (unseen : (i : ℕ) (f : Entry) → slice_get es i ≡ Some f → key_in f ≡ key_in new → ⊥) where
    head-within : head < length es
    head-within = at-within es head e at-head

    first-new : (f : Entry) → slice_get (es ++ new ∷ []) 0 ≡ Some f
        → starts (key_in f) × (depth_in f ≡ 0)
    first-new f is =
        elim (at-snoc es new f 0 is) [
          | inl h ↦ k.links.first f h
          | inr h ↦ absurd (let some = k.some in let x = h.0 in omega (arith, some, x))
        ]

    link-of : (i : ℕ) (f : Entry) → slice_get (es ++ new ∷ []) i ≡ Some f → 0 < i
        → IsLinked count leads (es ++ new ∷ []) i f
    link-of i f is more =
        elim (at-snoc es new f i is) [
          | inl h ↦ link-front es (new ∷ []) i f (k.links.linked i f h more)
          | inr h ↦ subst (λ (x : Entry). IsLinked count leads (es ++ new ∷ []) i x) (sym h.1)
              (record {
                parent = e;
                is_there = subst (λ j. slice_get (es ++ new ∷ []) j ≡ Some e) (sym n.from)
                    (at-front es (new ∷ []) head e at-head);
                before = let a = n.from in let b = h.0 in let c = head-within in
                    omega (arith, a, b, c);
                move = let a = n.move in omega (arith, a, a-move);
                leads_here = subst (λ m. leads (key_in e) m (key_in new)) (sym n.move) n.leads_new;
                depth = n.depth;
              })
        ]

    shallow-new : (i : ℕ) (f : Entry) → slice_get (es ++ new ∷ []) i ≡ Some f → depth_in f ≤ i
    shallow-new i f is =
        elim (at-snoc es new f i is) [
          | inl h ↦ k.shallow i f h
          | inr h ↦
              let d : depth_in f ≡ depth_in e + 1 = ap (λ (x : Entry). depth_in x) h.1 ∙ n.depth in
              let low = k.shallow head e at-head in
              let c = head-within in
              let x = h.0 in
              omega (arith, d, low, c, x)
        ]

    limited-new : (i : ℕ) (f : Entry) → slice_get (es ++ new ∷ []) i ≡ Some f
        → IsBelow (up_to limit) (depth_in f)
    limited-new i f is =
        elim (at-snoc es new f i is) [
          | inl h ↦ k.limited i f h
          | inr h ↦ below-next limit (depth_in e) (depth_in f) goes
              (ap (λ (x : Entry). depth_in x) h.1 ∙ n.depth)
        ]

    reached-new : (i : ℕ) (f : Entry) → slice_get (es ++ new ∷ []) i ≡ Some f → (path : List ℕ)
        × (Reaches starts count leads path (key_in f) × (length path ≡ depth_in f))
    reached-new i f is =
        elim (at-snoc es new f i is) [
          | inl h ↦ k.reached i f h
          | inr h ↦
              let r = k.reached head e at-head in
              let longer = length-snoc r.0 by in
              let as-deep = r.1.1 in
              let d = n.depth in
              subst (λ (x : Entry). (path : List ℕ)
              × (Reaches starts count leads path (key_in x) × (length path ≡ depth_in x)))
              (sym h.1) (
                r.0 ++ by ∷ [],
                (
                  reaches-more starts count leads r.0 (key_in e) (key_in new) by r.1.0 a-move
                      n.leads_new,
                  omega (arith, longer, as-deep, d),
                ),
              )
        ]

    not-new : (i : ℕ) (f g : Entry) → slice_get es i ≡ Some f → g ≡ new → key_in f ≡ key_in g → ⊥
    not-new i f g at-f is same =
        unseen i f at-f (same ∙ ap (λ (x : Entry). key_in x) is)

    apart-new : (i j : ℕ) (f g : Entry) → slice_get (es ++ new ∷ []) i ≡ Some f
        → slice_get (es ++ new ∷ []) j ≡ Some g → key_in f ≡ key_in g → i ≡ j
    apart-new i j f g at-f at-g same =
        elim (at-snoc es new f i at-f) [
          | inl a ↦ elim (at-snoc es new g j at-g) [
            | inl b ↦ k.apart i j f g a b same
            | inr b ↦ absurd (not-new i f g a b.1 same)
          ]
          | inr a ↦ elim (at-snoc es new g j at-g) [
            | inl b ↦ absurd (not-new j g f b a.1 (sym same))
            | inr b ↦ a.0 ∙ sym b.0
          ]
        ]

    deep : (f : Entry) → f ≡ new → depth_in f ≡ depth_in e + 1
    deep f is = ap (λ (x : Entry). depth_in x) is ∙ n.depth

    rising-new : (i j : ℕ) (f g : Entry) → slice_get (es ++ new ∷ []) i ≡ Some f
        → slice_get (es ++ new ∷ []) j ≡ Some g → i ≤ j → depth_in f ≤ depth_in g
    rising-new i j f g at-f at-g up =
        elim (at-snoc es new f i at-f) [
          | inl a ↦ elim (at-snoc es new g j at-g) [
            | inl b ↦ k.rising i j f g a b up
            | inr b ↦
                let x = k.near i e f at-head a in
                let y = deep g b.1 in
                omega (arith, x, y)
          ]
          | inr a ↦ elim (at-snoc es new g j at-g) [
            | inl b ↦ absurd (let w = at-within es j g b in let z = a.0 in omega (arith, w, z, up))
            | inr b ↦ let x = deep f a.1 in let y = deep g b.1 in omega (arith, x, y)
          ]
        ]

    near-new : (i : ℕ) (f g : Entry) → slice_get (es ++ new ∷ []) head ≡ Some f
        → slice_get (es ++ new ∷ []) i ≡ Some g → depth_in g ≤ depth_in f + 1
    near-new i f g at-f at-g =
        let same : f ≡ e = at-same (es ++ new ∷ []) head f e at-f
        (at-front es (new ∷ []) head e at-head) in
        let d : depth_in f ≡ depth_in e = ap (λ (x : Entry). depth_in x) same in
        elim (at-snoc es new g i at-g) [
          | inl b ↦ let x = k.near i e g at-head b in omega (arith, x, d)
          | inr b ↦ let y = deep g b.1 in omega (arith, y, d)
        ]

    good-new : (i : ℕ) (f : Entry) → slice_get (es ++ new ∷ []) i ≡ Some f → i < looked
        → bad (key_in f) ≡ false
    good-new i f is below =
        elim (at-snoc es new f i is) [
          | inl h ↦ k.good i f h below
          | inr h ↦ absurd (let w = k.looked_within in let x = h.0 in omega (arith, w, x, below))
        ]

    done-new : (i m : ℕ) (f : Entry) → slice_get (es ++ new ∷ []) i ≡ Some f → m < count
        → IsDone i m head (by + 1) → IsBelow limit (depth_in f)
        → HasNext leads (es ++ new ∷ []) f m
    done-new i m f is below d within =
        elim (at-snoc es new f i is) [
          | inl h ↦ elim (done-more i m head by d) [
            | inl old ↦ next-front es (new ∷ []) f m (k.done i m f h below old within)
            | inr now ↦
                let same : f ≡ e =
                at-same es head f e (subst (λ j. slice_get es j ≡ Some f) now.0 h) at-head in
                record {
                  index = length es;
                  entry = new;
                  is_there = at-end es new;
                  leads_there = subst (λ (x : Entry). leads (key_in x) m (key_in new)) (sym same)
                      (subst (λ j. leads (key_in e) j (key_in new)) (sym now.1) n.leads_new);
                  depth = let x = n.depth in
                      let y : depth_in f ≡ depth_in e = ap (λ (x : Entry). depth_in x) same in
                      omega (arith, x, y);
                }
          ]
          | inr h ↦ absurd (elim d [
            | inl x ↦ let c = head-within in let y = h.0 in omega (arith, x, y, c)
            | inr x ↦ let c = head-within in let y = h.0 in let z = x.0 in omega (arith, z, y, c)
          ])
        ]

    pub grow : Kept (es ++ new ∷ []) head (by + 1) looked
    grow =
        let l = length-snoc es new in
        record {
          links = record { first = first-new; linked = link-of };
          within = let h = k.within in omega (arith, h, l);
          looked_within = let h = k.looked_within in omega (arith, h, l);
          some = omega (arith, l);
          shallow = shallow-new;
          limited = limited-new;
          reached = reached-new;
          apart = apart-new;
          rising = rising-new;
          near = near-new;
          good = good-new;
          done = done-new;
        }

  -- a state is not bad, and its moves are about to be looked at
  pub begun : (es : List Entry) (head : ℕ) (e : Entry) → Kept es head 0 head
      → slice_get es head ≡ Some e → bad (key_in e) ≡ false → Kept es head 0 (head + 1)
  begun es head e k at-head fine =
      let inside = at-within es head e at-head in
      record {
        links = k.links;
        within = k.within;
        looked_within = omega (arith, inside);
        some = k.some;
        shallow = k.shallow;
        limited = k.limited;
        reached = k.reached;
        apart = k.apart;
        rising = k.rising;
        near = k.near;
        good = λ i f is below. elim (below-or i head) [
          | inl h ↦ k.good i f is h
          | inr h ↦
              let at : i ≡ head = omega (arith, h, below) in
              let same : f ≡ e = at-same es head f e (subst (λ j. slice_get es j ≡ Some f) at is)
              at-head in
              ap (λ (x : Entry). bad (key_in x)) same ∙ fine
        ];
        done = k.done;
      }

  -- all moves of a state were looked at that are to be
  pub ended : (es : List Entry) (head by : ℕ) (e : Entry) → slice_get es head ≡ Some e
      → Kept es head by (head + 1) → (count ≤ by) ⊎ (IsBelow limit (depth_in e) → ⊥)
      → Kept es (head + 1) 0 (head + 1)
  ended es head by e at-head k all =
      record {
        links = k.links;
        within = k.looked_within;
        looked_within = k.looked_within;
        some = k.some;
        shallow = k.shallow;
        limited = k.limited;
        reached = k.reached;
        apart = k.apart;
        rising = k.rising;
        near = λ i g f at-g at-f.
            let x = k.near i e f at-head at-f in
            let y = k.rising head (head + 1) e g at-head at-g (omega arith) in
            omega (arith, x, y);
        good = k.good;
        done = λ i m f is below d goes. elim d [
          | inl h ↦ elim (below-or i head) [
            | inl b ↦ k.done i m f is below (inl b) goes
            | inr b ↦
                let at : i ≡ head = omega (arith, b, h) in
                let same : f ≡ e = at-same es head f e (subst (λ j. slice_get es j ≡ Some f) at is)
                at-head in
                elim all [
                  | inl looked ↦ k.done i m f is below (inr (at, omega (arith, looked, below))) goes
                  | inr far ↦ absurd (far (subst (λ (x : Entry). IsBelow limit (depth_in x)) same
                      goes))
                ]
          ]
          | inr h ↦ absurd (let x = h.1 in omega (arith, x))
        ];
      }

  -- the first state alone
  pub first : (x : Entry) → starts (key_in x) → depth_in x ≡ 0 → Kept (x ∷ []) 0 0 0
  first x key depth =
      record {
        links = record {
          first = λ e is. let h = only-one 0 e is in (
            subst (λ (y : Entry). starts (key_in y)) (sym h.1) key,
            ap (λ (y : Entry). depth_in y) h.1 ∙ depth,
          );
          linked = λ i e is more. absurd (let h = (only-one i e is).0 in omega (arith, h, more));
        };
        within = omega arith;
        looked_within = omega arith;
        some = omega arith;
        shallow = λ i e is. let d = deep-one i e is in omega (arith, d);
        limited = λ i e is. below-start limit (depth_in e) (deep-one i e is);
        reached = λ i e is. (
          [],
          (
            record {
              first = key_in x;
              is_first = key;
              leads_on = ap (λ (y : Entry). key_in y) (sym (only-one i e is).1);
            },
            sym (deep-one i e is),
          ),
        );
        apart = λ i j e f at-e at-f same. (only-one i e at-e).0 ∙ sym (only-one j f at-f).0;
        rising = λ i j e f at-e at-f up. let d = deep-one i e at-e in omega (arith, d);
        near = λ i e f at-e at-f. let d = deep-one i f at-f in omega (arith, d);
        good = λ i e is below. absurd (omega (arith, below));
        done = λ i m e is below d goes. absurd (elim d [
          | inl h ↦ omega (arith, h)
          | inr h ↦ let y = h.1 in omega (arith, y)
        ]);
      }
    where
      only-one : (i : ℕ) (e : Entry) → slice_get (x ∷ []) i ≡ Some e → (i ≡ 0) × (e ≡ x)
      only-one zero e is = (refl, let h : Some x ≡ Some e = is in cc)
      only-one (suc i) e is = absurd (let h : None ≡ Some e = is in cc)

      deep-one : (i : ℕ) (e : Entry) → slice_get (x ∷ []) i ≡ Some e → depth_in e ≡ 0
      deep-one i e is = ap (λ (y : Entry). depth_in y) (only-one i e is).1 ∙ depth

  -- a new key, as the code comes to it
  pub grow-as : (es next : List Entry) (head by looked : ℕ) (e : Entry) (key : Vec ℕ Global)
      (link : Link) (words : List ℕ) → Kept es head by looked → slice_get es head ≡ Some e
      → by < count → IsBelow limit (depth_in e) → leads (key_in e) by words → key.items ≡ words
      → is_some (lookup (is_key words) es) ≡ false → IsLinkOf link head by (depth_in e)
      → next ≡ insert_entry same_key es key link
      → Kept next head (by + 1) looked × (slice_get next head ≡ Some e)
  grow-as es next head by looked e key link words k at-head move goes l copied unseen from is =
      let none : is_some (lookup (is_key key.items) es) ≡ false =
      subst (λ w. is_some (lookup (is_key w) es) ≡ false) (sym copied) unseen in
      let long : next ≡ es ++ (key, link) ∷ [] = is ∙ added es key link none in (
        subst (λ (x : List Entry). Kept x head (by + 1) looked) (sym long)
            (grow es head by looked e (key, link) k at-head move goes (record {
              leads_new = subst (λ w. leads (key_in e) by w) (sym copied) l;
              from = from.from_is;
              move = from.by_is;
              depth = from.depth_is;
            }) (not-found es key.items none)),
        subst (λ (x : List Entry). slice_get x head ≡ Some e) (sym long)
            (at-front es ((key, link) ∷ []) head e at-head),
      )

  -- a key that was found, as the code comes to it
  pub stay-as : (es : List Entry) (head by looked : ℕ) (e : Entry) (words : List ℕ)
      → Kept es head by looked → slice_get es head ≡ Some e → leads (key_in e) by words
      → is_some (lookup (is_key words) es) ≡ true → Kept es head (by + 1) looked
  stay-as es head by looked e words k at-head l there =
      stay es head by looked e k at-head words l (found es words there)
