-- A join keeps the rule: one seat keeps the numbers of both, and the other keeps nothing.
use Rattle.std.proofs.Common.{◌≡◌, ◌≢◌, ℕ, zero, suc, ◌∷◌, ◌+◌, ◌<◌, ◌≤◌, eqb, cond, List, [], ◌++◌}
use Rattle.std.proofs.Common.{length, set, Bool, true, false, Some, None, Option, refl, sym, ap}
use Rattle.std.proofs.Common.{◌∙◌, subst, ⊎_elim, arith, length-set, length-append, eq-eqb, ne_eqb}
use Rattle.std.proofs.Common.{nat_eq, ltb, ltb-true, ltb-false}
use Rattle.std.proofs.lemmas.List.{append-nil}
use Rattle.std.specs.List.{IsDistinct}
use mathlib.Core.Logic.{dite}
use mathlib.Core.Option.{some, some-injective, some-ne-none}
use native.Mathlib.Decide.{ℕ_discrete}
use lib.ListN.{get_elem?}
use Rattle.atomic_table.specs.Table.{State, Joins}
use Rattle.atomic_table.proofs.Lists.{set_here, set_else, at_longer}
use Rattle.turn_gate.specs.declared.views.Phase.{Phase}
use Rattle.turn_gate.specs.declared.views.Phase.TheVariants.{Idle, Waiting, Inside}
use Rattle.turn_gate.specs.declared.views.View.{View}
use Rattle.turn_gate.specs.Known.{made_by, longer, is_among, StartsWith}
use Rattle.turn_gate.specs.Rule.{numbers_of, KeepsNumber, tickets_of, Account, InPhase, HasTicket}
use Rattle.turn_gate.specs.Rule.{ViewFits, IsAtHome, Rule}
use Rattle.turn_gate.specs.Moves.{joined, spent}
use Rattle.turn_gate.proofs.Lists.{inside_of, each_set, witness, at_append, at_right, longer-right}
use Rattle.turn_gate.proofs.Lists.{longer-left, longer-starts, rest_within}
use Rattle.turn_gate.proofs.Owning.{none_within, kept_among, numbers_of-append, distinct-append}
use Rattle.turn_gate.proofs.Owning.{distinct-nil, apart_from_absurd}
use Rattle.turn_gate.proofs.Tickets.{tickets_held-set}

-- what two passes have seen, put together: it ends where the one that has seen more does
record Together {E : Type 0} (maker : E → ℕ)
    (start made seen seen' rest_v rest_w : List E) : Type 0 where
  early : List E
  rest : List E
  made_is : made ≡ early ++ rest
  seen_is : longer seen seen' ≡ start ++ early
  left_none : (n : ℕ) → made_by maker n rest_v ≡ [] → made_by maker n rest ≡ []
  right_none : (n : ℕ) → made_by maker n rest_w ≡ [] → made_by maker n rest ≡ []

put_together : {E : Type 0} (maker : E → ℕ)
    (start made seen seen' early_v rest_v early_w rest_w : List E) → made ≡ early_v ++ rest_v
    → made ≡ early_w ++ rest_w → seen ≡ start ++ early_v → seen' ≡ start ++ early_w
    → Together maker start made seen seen' rest_v rest_w
put_together {E = E} maker start made seen seen' early_v rest_v early_w rest_w is_v is_w s_v s_w =
    go (ltb (length seen) (length seen')) refl
  where
    go : (t : Bool) → ltb (length seen) (length seen') ≡ t
        → Together maker start made seen seen' rest_v rest_w
    go true e =
        let high : length seen < length seen' = ltb-true (length seen) (length seen') e in
        let a : length seen ≡ length start + length early_v = ap length s_v
        ∙ length-append start early_v in
        let b : length seen' ≡ length start + length early_w = ap length s_w
        ∙ length-append start early_w in
        let m = rest_within early_v rest_v early_w rest_w (sym is_v ∙ is_w) (omega arith) in
        record {
          early = early_w;
          rest = rest_w;
          made_is = is_w;
          seen_is = ap (λ t. cond t seen' seen) e
              ∙ s_w;
          left_none =
              λ n none_v. none_within maker n m.0 rest_w (sym (ap (made_by maker n) m.1) ∙ none_v);
          right_none = λ n h. h;
        }
    go false e =
        let low : length seen' ≤ length seen = ltb-false (length seen) (length seen') e in
        let a : length seen ≡ length start + length early_v = ap length s_v
        ∙ length-append start early_v in
        let b : length seen' ≡ length start + length early_w = ap length s_w
        ∙ length-append start early_w in
        let m = rest_within early_w rest_w early_v rest_v (sym is_w ∙ is_v) (omega arith) in
        record {
          early = early_v;
          rest = rest_v;
          made_is = is_v;
          seen_is = ap (λ t. cond t seen' seen) e
              ∙ s_v;
          left_none = λ n h. h;
          right_none =
              λ n none_w. none_within maker n m.0 rest_v (sym (ap (made_by maker n) m.1) ∙ none_w);
        }

no_ticket : (p : Phase) (t : ℕ) → p ≡ Idle → HasTicket p t → ⊥
no_ticket p t idle has = subst (λ (q : Phase). HasTicket q t) idle has

not_inside : (p : Phase) (t : ℕ) → p ≡ Idle → p ≡ Inside t → ⊥
not_inside p t idle is = let no : Idle ≡ Inside t = sym idle ∙ is in cc

heard_next : {E : Type 0} (all seen : List E) (heard : List (List E)) → StartsWith all seen
    → ((k : ℕ) (s : List E) → get_elem? heard k ≡ some s → StartsWith all s) → (i : ℕ) (s : List E)
    → get_elem? (seen ∷ heard) i ≡ some s → StartsWith all s
heard_next all seen heard begins later zero s e =
    subst (StartsWith all) (some-injective seen s e) begins
heard_next all seen heard begins later (suc i) s e = later i s e

module _ {V E F : Type 0} (entries : V → List E) (fixed : V → F) (maker : E → ℕ) (first : V) where
  -- the seat `id` keeps what `other` kept
  abbrev after_join : Account V E → ℕ → ℕ → Account V E
  after_join account id other =
      record account { owner = λ m. cond (eqb (account.owner m) other) id (account.owner m) }

  stays_with : (account : Account V E) (id other m j : ℕ) → account.owner m ≡ j → j ≢ other
      → (after_join account id other).owner m ≡ j
  stays_with account id other m j is ne = let no : eqb (account.owner m) other ≡ false =
      ne_eqb (account.owner m) other (λ e. ne (sym is ∙ e)) in
      ap (λ b. cond b id (account.owner m)) no ∙ is

  goes_over : (account : Account V E) (id other m : ℕ) → account.owner m ≡ other
      → (after_join account id other).owner m ≡ id
  goes_over account id other m is = ap (λ b. cond b id (account.owner m))
      (eq-eqb (account.owner m) other is)

  phase_after : (account : Account V E) (id other : ℕ) (all : List E) (j : ℕ) (seen : List E)
      (p : Phase) → InPhase account all j seen p
      → InPhase (after_join account id other) all j seen p
  phase_after account id other all j seen Idle k = k
  phase_after account id other all j seen (Waiting t) k = k
  phase_after account id other all j seen (Inside t) k =
      record {
        served = k.served;
        drawn = k.drawn;
        holds = k.holds;
        seen_all = k.seen_all;
        emptied = k.emptied;
      }

  -- a view that keeps nothing and is outside fits anywhere
  fits_spent : (account : Account V E) (j : ℕ) → ViewFits maker (entries first) account j spent
  fits_spent account j = record {
    begins = (entries first ++ account.made, refl);
    heard = λ k s e. absurd (some-ne-none s (sym e));
    early = account.made;
    rest = [];
    made_is = sym (append-nil _);
    seen_is = λ m es k. absurd (some-ne-none _ (sym k.1));
    phase = tt;
    lives = λ t has. absurd has;
    owns = λ m es k. absurd (some-ne-none _ (sym k.1));
    differ = distinct-nil;
  }

  -- the other seats fit still
  fits_still : (account : Account V E) (id other i : ℕ) (x : View E) → i ≢ other
      → ViewFits maker (entries first) account i x
      → ViewFits maker (entries first) (after_join account id other) i x
  fits_still account id other i x ne f = record {
    begins = f.begins;
    heard = f.heard;
    early = f.early;
    rest = f.rest;
    made_is = f.made_is;
    seen_is = f.seen_is;
    phase = phase_after account id other (entries first ++ account.made) i x.seen x.phase f.phase;
    lives = f.lives;
    owns = λ m es k. let o = f.owns m es k in record {
      exact = o.exact;
      owner_is = stays_with account id other m i o.owner_is ne;
      origin = o.origin;
      opening_is = o.opening_is;
      unseen = o.unseen;
    };
    differ = f.differ;
  }

  -- two seats keep no number in common
  none_common : (account : Account V E) (id other : ℕ) (v w : View E) → other ≢ id
      → ViewFits maker (entries first) account id v
      → ViewFits maker (entries first) account other w → (n : ℕ)
      → is_among n (numbers_of v.kept) ≡ true → is_among n (numbers_of w.kept) ≡ false
  none_common account id other v w apart f h n is = apart_from_absurd n (numbers_of w.kept) (λ also.
      let p = kept_among n v.kept is in
      let q = kept_among n w.kept also in
      apart (sym (h.owns n q.0 q.1).owner_is ∙ (f.owns n p.0 p.1).owner_is))

  -- the seat that has taken in the other
  fits_joined : (account : Account V E) (id other : ℕ) (v w : View E) → other ≢ id
      → ViewFits maker (entries first) account id v
      → ViewFits maker (entries first) account other w → v.phase ≡ Idle → (n : ℕ) → KeepsNumber v n
      → (m : ℕ) → KeepsNumber w m
      → ViewFits maker (entries first) (after_join account id other) id (joined v w)
  fits_joined account id other v w apart f h idle n v_kept m w_kept =
      let put = put_together maker (entries first) account.made v.seen w.seen f.early f.rest h.early
      h.rest f.made_is h.made_is
      (f.seen_is n v_kept.0 v_kept.1) (h.seen_is m w_kept.0 w_kept.1) in
      let one = f.owns n v_kept.0 v_kept.1 in
      record {
        begins = longer-starts (entries first ++ account.made) v.seen w.seen f.begins h.begins;
        heard = λ k s e. ⊎_elim (λ (q : get_elem? v.heard k ≡ some s). f.heard k s q)
            (λ (q : (i : ℕ) × (get_elem? (w.seen ∷ w.heard) i ≡ some s)). heard_next
            (entries first ++ account.made) w.seen w.heard h.begins h.heard q.0 s q.1)
            (at_append v.heard (w.seen ∷ w.heard) k s e);
        early = put.early;
        rest = put.rest;
        made_is = put.made_is;
        seen_is = λ _ _ _. put.seen_is;
        phase = subst (λ (p : Phase). InPhase (after_join account id other)
            (entries first ++ account.made) id (longer v.seen w.seen) p) (sym idle) tt;
        lives = λ t has. absurd (no_ticket v.phase t idle has);
        owns = λ l es k. ⊎_elim
            (λ (q : get_elem? v.kept k.0 ≡ some (l, es)). let o = f.owns l es (k.0, q) in
            record {
              exact = o.exact;
              owner_is = stays_with account id other l id o.owner_is (λ e. apart (sym e));
              origin = o.origin;
              opening_is = o.opening_is;
              unseen = put.left_none l o.unseen;
            })
            (λ (q : (i : ℕ) × (get_elem? w.kept i ≡ some (l, es))). let o = h.owns l es q in
            record {
              exact = o.exact;
              owner_is = goes_over account id other l o.owner_is;
              origin = o.origin;
              opening_is = one.opening_is;
              unseen = put.right_none l o.unseen;
            })
            (at_append v.kept w.kept k.0 (l, es) k.1);
        differ = subst (IsDistinct nat_eq) (sym (numbers_of-append v.kept w.kept))
            (distinct-append (numbers_of v.kept) (numbers_of w.kept) f.differ h.differ
            (none_common account id other v w apart f h));
      }

  home : (s : State (Option V) (View E)) (r : Rule entries fixed maker first s) (id : ℕ)
      (v : View E) (other : ℕ) (w : View E) → w.phase ≡ Idle
      → get_elem? s.views id ≡ some v → get_elem? (set s.views id (joined v w)) other ≡ some w
      → (slot : Option V) → IsAtHome entries fixed (entries first ++ r.account.made)
      (fixed first) r.account s.views slot
      → IsAtHome entries fixed (entries first ++ r.account.made) (fixed first)
      (after_join r.account id other)
      (set (set s.views id (joined v w)) other spent) slot
  home s r id v other w idle at there (Some x) h = h
  home s r id v other w idle at there None h =
      let p = witness (λ (x : View E). x.phase ≡ Inside r.account.serving) s.views id v
      (joined v w) at (λ e. e)
      (r.account.holder r.account.serving) h.0 h.1 h.2 in
      witness (λ (x : View E). x.phase ≡ Inside r.account.serving)
      (set s.views id (joined v w)) other w spent there
      (λ e. absurd (not_inside w.phase r.account.serving idle e))
      (r.account.holder r.account.serving) p.0 p.1 p.2

  -- the longest that any pass has seen is seen still
  longest_after : (s : State (Option V) (View E)) (r : Rule entries fixed maker first s) (id : ℕ)
      (v : View E) (other : ℕ) (w : View E)
      → get_elem? s.views id ≡ some v → other ≢ id → get_elem? s.views other ≡ some w
      → get_elem? (set (set s.views id (joined v w)) other spent) id ≡ some (joined v w)
      → (j : ℕ) × (x : View E) × (get_elem? (set (set s.views id (joined v w)) other spent) j
      ≡ some x) × (x.seen ≡ entries first ++ r.account.made)
  longest_after s r id v other w at apart there u_there =
      let all : List E = entries first ++ r.account.made in
      let u : View E = joined v w in
      let l = r.longest in dite (ℕ_discrete l.0 other)
      (λ e. let same : l.1 ≡ w =
      some-injective l.1 w (sym l.2 ∙ (ap (get_elem? s.views) e ∙ there)) in (
        id,
        u,
        u_there,
        longer-right all v.seen w.seen (r.each id v at).begins
            (sym (ap (λ (x : View E). x.seen) same) ∙ l.3),
      ))
      (λ ne. dite (ℕ_discrete l.0 id)
      (λ e. let same : l.1 ≡ v =
      some-injective l.1 v (sym l.2 ∙ (ap (get_elem? s.views) e ∙ at)) in (
        id,
        u,
        u_there,
        longer-left all v.seen w.seen (sym (ap (λ (x : View E). x.seen) same) ∙ l.3)
            (r.each other w there).begins,
      ))
      (λ ne'. (
        l.0,
        l.1,
        set_else (set s.views id u) other l.0 spent ne ∙ (set_else s.views id l.0 u ne' ∙ l.2),
        l.3,
      )))

  pub joins : (id : ℕ) (v : View E) (other : ℕ) (w : View E) → v.phase ≡ Idle → (n : ℕ)
      → KeepsNumber v n → w.phase ≡ Idle → (m : ℕ)
      → KeepsNumber w m → (KeepsNumber w 0 → ⊥)
      → Joins (Rule entries fixed maker first) id v other w (joined v w) spent
  joins id v other w idle_v n v_kept idle_w m w_kept not_zero s r at apart there0 =
      let account : Account V E = r.account in
      let u : View E = joined v w in
      let vs : List (View E) = set s.views id u in
      let after : Account V E = after_join account id other in
      let there : get_elem? s.views other ≡ some w =
      sym (set_else s.views id other u apart) ∙ there0 in
      let mine : ViewFits maker (entries first) account id v = r.each id v at in
      let theirs : ViewFits maker (entries first) account other w = r.each other w there in
      let size : id < length s.views = inside_of s.views id v at in
      let u_there : get_elem? (set vs other spent) id ≡ some u =
      set_else vs other id spent (λ e. apart (sym e)) ∙ set_here s.views id u size in
      let both : (P : View E → Type 0) → (P v → P u) → (P w → P spent) → (i : ℕ) (x : View E)
      → get_elem? s.views i ≡ some x → P x
      → (y : View E) × (get_elem? (set vs other spent) i ≡ some y) × P y =
      λ P a b i x e p. let q = witness P s.views id v u at a i x e p in witness P vs other w spent
      there0 b i q.0 q.1 q.2 in
      let kept_still : (l : ℕ) → KeepsNumber v l → KeepsNumber u l =
      λ l q. (q.0, (q.1.0, at_longer v.kept w.kept q.1.0 (l, q.0) q.1.1)) in
      let not_other : (P : View E → Type 0) → (P v → P u) → (i : ℕ) (x : View E) → i ≢ other
      → get_elem? s.views i ≡ some x → P x
      → (y : View E) × (get_elem? (set vs other spent) i ≡ some y) × P y =
      λ P a i x ne e p. let q = witness P s.views id v u at a i x e p in
      (q.0, set_else vs other i spent ne ∙ q.1, q.2) in
      record {
        account = after;
        words = r.words;
        homes = r.homes;
        ordered = r.ordered;
        counted = let a = tickets_held-set s.views id v u at in let b = tickets_held-set vs other w
            spent there0 in let k = r.counted in
            let z : tickets_of w.phase ≡ 0 = ap tickets_of idle_w in omega arith;
        at_home = home s r id v other w idle_w at there0 account.slot r.at_home;
        held = λ t low high. let h = r.held t low high in
            both (λ (x : View E). HasTicket x.phase t) (λ e. e)
            (λ has. absurd (no_ticket w.phase t idle_w has)) (account.holder t) h.0 h.1 h.2;
        each = each_set (ViewFits maker (entries first) after) vs other spent
            (fits_spent after other)
            (λ j d ne e.
            each_set (λ i x. i ≢ other → ViewFits maker (entries first) after i x) s.views id u
            (λ _. fits_joined account id other v w apart mine theirs idle_v n v_kept m w_kept)
            (λ i x _ was ne'. fits_still account id other i x ne' (r.each i x was))
            j d e ne);
        longest = longest_after s r id v other w at apart there u_there;
        named = λ k e is.
            let l = r.named k e is in dite (ℕ_discrete (account.owner (maker e)) other)
            (λ same. let x_is : l.0 ≡ w =
            some-injective l.0 w (sym l.1 ∙ (ap (get_elem? s.views) same ∙ there)) in
            let k' : KeepsNumber w (maker e) =
            subst (λ (x : View E). KeepsNumber x (maker e)) x_is l.2 in (
              u,
              ap (get_elem? (set vs other spent)) (goes_over account id other (maker e) same)
                  ∙ u_there,
              (k'.0, at_right v.kept w.kept k'.1.0 (maker e, k'.0) k'.1.1),
            ))
            (λ ne. let p = not_other (λ (x : View E). KeepsNumber x (maker e))
            (kept_still (maker e)) (account.owner (maker e)) l.0 ne l.1 l.2 in (
              p.0,
              ap (get_elem? (set vs other spent))
                  (stays_with account id other (maker e) (account.owner (maker e)) refl ne) ∙ p.1,
              p.2,
            ));
        root = let l = r.root in
            let ne : account.owner 0 ≢ other = λ e. let x_is : l.0 ≡ w =
            some-injective l.0 w (sym l.1 ∙ (ap (get_elem? s.views) e ∙ there)) in
            not_zero (subst (λ (x : View E). KeepsNumber x 0) x_is l.2) in
            let p = not_other (λ (x : View E). KeepsNumber x 0 × (x.given ≡ account.given))
            (λ q. (kept_still 0 q.0, q.1))
            (account.owner 0) l.0 ne l.1 (l.2, l.3) in (
              p.0,
              ap (get_elem? (set vs other spent))
                  (stays_with account id other 0 (account.owner 0) refl ne) ∙ p.1,
              p.2.0,
              p.2.1,
            );
        few = length-set vs other spent ∙ (length-set s.views id u ∙ r.few);
        distinct = r.distinct;
        low = r.low;
      }
