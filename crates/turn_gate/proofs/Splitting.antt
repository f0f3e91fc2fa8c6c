-- A split keeps the rule: pass 0 has given a new number, and a new seat keeps it.
use Rattle.std.proofs.Common.{◌≡◌, ◌≢◌, ◌⊎◌, ℕ, ◌+◌, ◌^◌, ◌<◌, ◌||◌, eqb, cond, List, [], ◌∷◌, ◌++◌}
use Rattle.std.proofs.Common.{length, set, true, false, Some, None, Option, refl, sym, ap, ◌∙◌}
use Rattle.std.proofs.Common.{subst, inl, inr, ⊎_elim, arith, length-set, length-append, eq-eqb}
use Rattle.std.proofs.Common.{ne_eqb}
use mathlib.Core.Logic.{dite}
use mathlib.Core.Option.{some, some-injective, some-ne-none}
use native.Mathlib.Decide.{ℕ_discrete}
use lib.ListN.{get_elem?}
use Rattle.atomic_table.specs.Table.{State, Splits}
use Rattle.atomic_table.proofs.Lists.{set_here, at_longer}
use Rattle.turn_gate.specs.declared.views.Phase.{Phase}
use Rattle.turn_gate.specs.declared.views.Phase.TheVariants.{Idle, Waiting, Inside}
use Rattle.turn_gate.specs.declared.views.View.{View}
use Rattle.turn_gate.specs.Known.{made_by, is_among}
use Rattle.turn_gate.specs.Rule.{KeepsNumber, tickets_of, Account, InPhase, HasTicket, ViewFits}
use Rattle.turn_gate.specs.Rule.{IsAtHome}
use Rattle.turn_gate.specs.Rule.{Rule}
use Rattle.turn_gate.specs.Moves.{giver, newcomer}
use Rattle.turn_gate.proofs.Lists.{inside_of, each_set, witness, at_last_or, at_only, at_right}
use Rattle.turn_gate.proofs.Owning.{own-none, distinct-nil, distinct-cons}
use Rattle.turn_gate.proofs.Tickets.{tickets_held-set, tickets_held-append}

module _ {V E F : Type 0} (entries : V → List E) (fixed : V → F) (maker : E → ℕ) (first : V) where
  -- the number n was given, and the seat at this place keeps it
  abbrev after_split : Account V E → ℕ → ℕ → Account V E
  after_split account n place = record account {
    owner = λ m. cond (eqb m n) place (account.owner m);
    given = n ∷ account.given;
  }

  -- 0 and the numbers given before
  abbrev IsOlder : Account V E → ℕ → Type 0
  IsOlder account m = (m ≡ 0) ⊎ (is_among m account.given ≡ true)

  older_differs : (account : Account V E) (n m : ℕ) → 0 < n → is_among n account.given ≡ false
      → IsOlder account m → m ≢ n
  older_differs account n m above fresh old is =
      ⊎_elim (λ (e : m ≡ 0). absurd (omega arith))
      (λ (h : is_among m account.given ≡ true).
      let no : true ≡ false = sym h ∙ (ap (λ k. is_among k account.given) is ∙ fresh) in cc)
      old

  still_older : (account : Account V E) (n m place : ℕ) → m ≢ n → IsOlder account m
      → IsOlder (after_split account n place) m
  still_older account n m place ne old = ⊎_elim inl
      (λ (h : is_among m account.given ≡ true).
      inr (ap (λ b. b || is_among m account.given) (ne_eqb m n ne) ∙ h)) old

  same_owner : (account : Account V E) (n m place : ℕ) → m ≢ n
      → (after_split account n place).owner m ≡ account.owner m
  same_owner account n m place ne = ap (λ b. cond b place (account.owner m)) (ne_eqb m n ne)

  phase_after : (account : Account V E) (n place : ℕ) (all : List E) (j : ℕ) (seen : List E)
      (p : Phase) → InPhase account all j seen p
      → InPhase (after_split account n place) all j seen p
  phase_after account n place all j seen Idle k = k
  phase_after account n place all j seen (Waiting t) k = k
  phase_after account n place all j seen (Inside t) k =
      record {
        served = k.served;
        drawn = k.drawn;
        holds = k.holds;
        seen_all = k.seen_all;
        emptied = k.emptied;
      }

  -- a view that fitted fits still
  fits_still : (account : Account V E) (n place : ℕ) → 0 < n → is_among n account.given ≡ false
      → (j : ℕ) (d : View E)
      → ViewFits maker (entries first) account j d
      → ViewFits maker (entries first) (after_split account n place) j d
  fits_still account n place above fresh j d f = record {
    begins = f.begins;
    heard = f.heard;
    early = f.early;
    rest = f.rest;
    made_is = f.made_is;
    seen_is = f.seen_is;
    phase = phase_after account n place (entries first ++ account.made) j d.seen d.phase f.phase;
    lives = f.lives;
    owns = λ m es k. let o = f.owns m es k in
        let ne = older_differs account n m above fresh o.origin in
        record {
          exact = o.exact;
          owner_is = same_owner account n m place ne
              ∙ o.owner_is;
          origin = still_older account n m place ne o.origin;
          opening_is = o.opening_is;
          unseen = o.unseen;
        };
    differ = f.differ;
  }

  home : (s : State (Option V) (View E)) (r : Rule entries fixed maker first s) (id : ℕ)
      (v : View E) → get_elem? s.views id ≡ some v
      → (n : ℕ) (slot : Option V) → IsAtHome entries fixed (entries first ++ r.account.made)
      (fixed first) r.account s.views slot
      → IsAtHome entries fixed (entries first ++ r.account.made) (fixed first)
      (after_split r.account n (length s.views))
      (set s.views id (giver n v) ++ newcomer n v ∷ []) slot
  home s r id v at n (Some x) h = h
  home s r id v at n None h =
      let p = witness (λ (x : View E). x.phase ≡ Inside r.account.serving) s.views id v
      (giver n v) at (λ e. e)
      (r.account.holder r.account.serving) h.0 h.1 h.2 in (
        p.0,
        at_longer (set s.views id (giver n v)) (newcomer n v ∷ [])
            (r.account.holder r.account.serving) p.0 p.1,
        p.2,
      )

  -- the new view: no entry names its number yet
  fits_new : (s : State (Option V) (View E)) (r : Rule entries fixed maker first s) (id : ℕ)
      (v : View E) → get_elem? s.views id ≡ some v → (n : ℕ)
      → KeepsNumber v 0 → 0 < n → is_among n r.account.given ≡ false
      → ViewFits maker (entries first) (after_split r.account n (length s.views)) (length s.views)
      (newcomer n v)
  fits_new s r id v at n zero_kept above fresh =
      let account : Account V E = r.account in
      let place : ℕ = length s.views in
      let mine : ViewFits maker (entries first) account id v = r.each id v at in
      let zero_is = mine.owns 0 zero_kept.0 zero_kept.1 in
      let unnamed : (i : ℕ) (e : E) → get_elem? account.made i ≡ some e → maker e ≢ n =
      λ i e there. let q = r.named i e there in
      older_differs account n (maker e) above fresh
      ((r.each (account.owner (maker e)) q.0 q.1).owns (maker e) q.2.0 q.2.1).origin in
      record {
        begins = mine.begins;
        heard = λ k s e. absurd (some-ne-none s (sym e));
        early = mine.early;
        rest = mine.rest;
        made_is = mine.made_is;
        seen_is = λ _ _ _. mine.seen_is 0 zero_kept.0 zero_kept.1;
        phase = tt;
        lives = λ u has. absurd has;
        owns = λ m es k.
            let p = at_only (n, []) (m, es) k.0 k.1 in
            let is : n ≡ m = ap (λ (q : ℕ × List E). q.0) p in
            let yes : eqb m n ≡ true = eq-eqb m n (sym is) in
            let none_left = own-none maker n mine.rest
            (λ i e there. let q = at_right mine.early mine.rest i e there in
            unnamed q.0 e (ap (λ l. get_elem? l q.0) mine.made_is ∙ q.1)) in
            record {
              exact = sym (ap (λ (q : ℕ × List E). q.1) p) ∙ (sym (own-none maker n account.made
                  unnamed) ∙ ap (λ q. made_by maker q account.made) is);
              owner_is = ap (λ b. cond b place (account.owner m)) yes;
              origin = inr (ap (λ b. b || is_among m account.given) yes);
              opening_is = zero_is.opening_is;
              unseen = sym (ap (λ q. made_by maker q mine.rest) is) ∙ none_left;
            };
        differ = distinct-cons n [] refl distinct-nil;
      }

  pub splits : (id : ℕ) (v : View E) (n : ℕ) → KeepsNumber v 0 → 0 < n → n < 2 ^ 32
      → is_among n v.given ≡ false
      → Splits (Rule entries fixed maker first) id v (giver n v) (newcomer n v)
  splits id v n zero_kept above below fresh s r at =
      let account : Account V E = r.account in
      let w : View E = giver n v in
      let c : View E = newcomer n v in
      let vs : List (View E) = set s.views id w in
      let place : ℕ = length s.views in
      let long : length vs ≡ place = length-set s.views id w in
      let after : Account V E = after_split account n place in
      let zero_is = (r.each id v at).owns 0 zero_kept.0 zero_kept.1 in
      let size : id < length s.views = inside_of s.views id v at in
      let l = r.root in
      let root_is : l.0 ≡ v =
      some-injective l.0 v (sym l.1 ∙ (ap (get_elem? s.views) zero_is.owner_is ∙ at)) in
      let given_is : account.given ≡ v.given = sym l.3 ∙ ap (λ (x : View E). x.given) root_is in
      let not_given : is_among n account.given ≡ false = ap (is_among n) given_is ∙ fresh in
      let moved = fits_still account n place above not_given in
      let gave = moved id v (r.each id v at) in
      let old_owner : (m : ℕ) → IsOlder account m → after.owner m ≡ account.owner m =
      λ m old. same_owner account n m place
      (older_differs account n m above not_given old) in
      let stays : (P : View E → Type 0) → (P v → P w) → (i : ℕ) (x : View E)
      → get_elem? s.views i ≡ some x → P x
      → (y : View E) × (get_elem? (vs ++ c ∷ []) i ≡ some y) × P y =
      λ P over i x there p. let q = witness P s.views id v w at over i x there p in
      (q.0, at_longer vs (c ∷ []) i q.0 q.1, q.2) in
      record {
        account = after;
        words = r.words;
        homes = r.homes;
        ordered = r.ordered;
        counted = let a = tickets_held-append vs (c ∷ []) in let b = tickets_held-set s.views id v w
            at in let t : ℕ = tickets_of v.phase in
            let k = r.counted in omega arith;
        at_home = home s r id v at n account.slot r.at_home;
        held = λ t low high. let h = r.held t low high in stays
            (λ (x : View E). HasTicket x.phase t) (λ e. e) (account.holder t) h.0 h.1 h.2;
        each = λ j d e. ⊎_elim
            (each_set (ViewFits maker (entries first) after) s.views id w
            (record {
              begins = gave.begins;
              heard = gave.heard;
              early = gave.early;
              rest = gave.rest;
              made_is = gave.made_is;
              seen_is = gave.seen_is;
              phase = gave.phase;
              lives = gave.lives;
              owns = gave.owns;
              differ = gave.differ;
            })
            (λ i x _ there. moved i x (r.each i x there)) j d)
            (λ (t : (j ≡ length vs) × (c ≡ d)).
            subst (λ (z : ℕ × View E). ViewFits maker (entries first) after z.0 z.1)
            (λ i. (sym (t.0 ∙ long) i, t.1 i)) (fits_new s r id v at n zero_kept above not_given))
            (at_last_or vs c d j e);
        longest = let k = r.longest in let p = stays
            (λ (x : View E). x.seen ≡ entries first ++ account.made) (λ e. e) k.0 k.1 k.2 k.3 in
            (k.0, p.0, p.1, p.2);
        named = λ k e there. let q = r.named k e there in
            let o = (r.each (account.owner (maker e)) q.0 q.1).owns (maker e) q.2.0 q.2.1 in
            let p = stays (λ (x : View E). KeepsNumber x (maker e)) (λ e. e)
            (account.owner (maker e)) q.0 q.1 q.2 in
            (p.0, ap (get_elem? (vs ++ c ∷ [])) (old_owner (maker e) o.origin) ∙ p.1, p.2);
        root = (
          w,
          ap (get_elem? (vs ++ c ∷ [])) (old_owner 0 (inl refl) ∙ zero_is.owner_is)
              ∙ at_longer vs (c ∷ []) id w (set_here s.views id w size),
          zero_kept,
          ap (λ l. n ∷ l) (sym given_is),
        );
        few = let a : length (vs ++ c ∷ []) ≡ length vs + 1 =
            length-append vs (c ∷ []) in let b = r.few in
            let d : length (n ∷ account.given) ≡ length account.given + 1 =
            omega arith in omega arith;
        distinct = distinct-cons n account.given not_given r.distinct;
        low = λ m is. dite (ℕ_discrete m n)
            (λ e. (omega arith, omega arith))
            (λ ne. r.low m (sym (ap (λ b. b || is_among m account.given) (ne_eqb m n ne)) ∙ is));
      }
