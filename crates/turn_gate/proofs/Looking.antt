-- A look keeps the rule: the pass whose ticket is served takes the value, and any other stays as it
-- is.
use Rattle.std.proofs.Common.{◌≡◌, ℕ, ◌+◌, ◌%◌, ◌^◌, ◌<◌, ◌≤◌, List, [], ◌∷◌, ◌++◌, length, set}
use Rattle.std.proofs.Common.{Some, None, Option, refl, sym, ap, ◌∙◌, subst, arith, length-set}
use Rattle.std.proofs.Common.{slice_index}
use Rattle.std.proofs.lemmas.List.{append_assoc, append-nil}
use mathlib.Core.Logic.{dite}
use mathlib.Core.Option.{some, none, some-injective}
use native.Mathlib.Decide.{ℕ_discrete}
use lib.ListN.{get_elem?}
use Rattle.atomic_table.specs.Table.{State, Me, keeps, takes, step, stepped, Allows}
use Rattle.atomic_table.proofs.Lists.{set_here, one_turn}
use Rattle.turn_gate.specs.declared.views.Phase.{Phase}
use Rattle.turn_gate.specs.declared.views.Phase.TheVariants.{Idle, Waiting, Inside}
use Rattle.turn_gate.specs.declared.views.View.{View}
use Rattle.turn_gate.specs.Rule.{KeepsNumber, tickets_of, tickets_held, Account, InPhase, HasTicket}
use Rattle.turn_gate.specs.Rule.{ViewFits, IsAtHome, home_of, Rule}
use Rattle.turn_gate.specs.Moves.{in_phase, inside, Looked, Handed}
use Rattle.turn_gate.proofs.Heeding.{reads_only, exact_in_all}
use Rattle.turn_gate.proofs.Lists.{inside_of, each_set, witness}
use Rattle.turn_gate.proofs.Tickets.{tickets_held-set, tickets_held-le, few_numbers}

module _ {V E F : Type 0} (entries : V → List E) (fixed : V → F) (maker : E → ℕ) (first : V) where
  -- the words tell the tickets apart: fewer than 2 ^ 64 are out
  tickets_out : (s : State (Option V) (View E)) (r : Rule entries fixed maker first s)
      → r.account.ticket ≤ r.account.serving + (1 + 2 ^ 32)
  tickets_out s r =
      let few = r.few in
      let counted = r.counted in
      let b : tickets_held s.views ≤ length s.views = tickets_held-le s.views in
      let c : length r.account.given ≤ 2 ^ 32 = few_numbers r.account.given r.distinct r.low in
      omega arith

  -- the slot is empty
  abbrev emptied : Account V E → Account V E
  emptied account = record account { slot = None }

  -- what a pass learns of the value x that is at home
  hands : (s : State (Option V) (View E)) (r : Rule entries fixed maker first s) (id : ℕ)
      (v : View E) → get_elem? s.views id ≡ some v
      → (n : ℕ) → KeepsNumber v n → (x : V) → entries x ≡ entries first ++ r.account.made
      → fixed x ≡ fixed first
      → Handed entries fixed maker (Some (fixed first)) v x
  hands s r id v at n keeps_one x whole about =
      let mine : ViewFits maker (entries first) r.account id v = r.each id v at in
      record {
        between = mine.rest;
        begins = whole
            ∙ (ap (λ l. entries first ++ l) mine.made_is
            ∙ (sym (append_assoc (entries first) mine.early mine.rest)
            ∙ ap (λ l. l ++ mine.rest) (sym (mine.seen_is n keeps_one.0 keeps_one.1))));
        others = λ m es k. (mine.owns m es k).unseen;
        fixed_is = ap Some (sym about);
        lists = exact_in_all entries fixed maker first s r id v at n keeps_one (entries x) whole;
      }

  others : (account : Account V E) (x : V) → account.slot ≡ Some x
      → (all : List E) (j : ℕ) (seen : List E) (p : Phase)
      → InPhase account all j seen p → InPhase (emptied account) all j seen p
  others account x full all j seen Idle k = tt
  others account x full all j seen (Waiting t) k = k
  others account x full all j seen (Inside t) k =
      absurd (let no : None ≡ Some x = sym k.emptied ∙ full in cc)

  -- a pass that is served finds the value at home
  look_here : (id : ℕ) (me : Me (Option V) (View E)) (s : State (Option V) (View E))
      (r : Rule entries fixed maker first s)
      → get_elem? s.views id ≡ some me.0 → (n : ℕ) → KeepsNumber me.0 n
      → me.0.phase ≡ Waiting r.account.serving
      → r.account.serving < r.account.ticket → r.account.holder r.account.serving ≡ id
      → (slot : Option V) → r.account.slot ≡ slot → IsAtHome entries fixed
      (entries first ++ r.account.made) (fixed first) r.account s.views slot
      → (x : V) × (get_elem? s.homes 0 ≡ some (some (Some x))) × Handed entries fixed maker
      (Some (fixed first)) me.0 x × Rule entries fixed maker first
      (stepped s 1 (slice_index s.words 1) id me.1 (inside me.0 r.account.serving (entries x))
      (takes 0 (Some x)))
  look_here id me s r at n keeps_one waits below holds None is h =
      absurd (let same : h.0 ≡ me.0 =
      some-injective h.0 me.0 (sym h.1 ∙ (ap (get_elem? s.views) holds ∙ at)) in
      let no : Inside r.account.serving ≡ Waiting r.account.serving = sym h.2
      ∙ (ap (λ (v : View E). v.phase) same ∙ waits) in cc)
  look_here id me s r at n keeps_one waits below holds (Some x) is h =
      let v : View E = me.0 in
      let account : Account V E = r.account in
      let after : Account V E = emptied account in
      let w : View E = inside v account.serving (entries x) in
      let size : id < length s.views = inside_of s.views id v at in
      let mine : ViewFits maker (entries first) account id v = r.each id v at in
      let here = r.homes ∙ ap (λ (o : Option V). home_of o ∷ []) is in (
        x,
        ap (λ hs. get_elem? hs 0) here,
        hands s r id v at n keeps_one x h.0 h.1,
        record {
          account = after;
          words = ap (λ ws. set ws 1 (slice_index ws 1)) r.words;
          homes = ap (λ hs. set hs 0 none) here;
          ordered = r.ordered;
          counted = let b = tickets_held-set s.views id v w at in let c = r.counted in
              let z : tickets_of v.phase ≡ 1 = ap tickets_of waits in omega arith;
          at_home = (w, ap (get_elem? (set s.views id w)) holds ∙ set_here s.views id w size, refl);
          held = λ u low high. let k = r.held u low high in
              witness (λ (y : View E). HasTicket y.phase u) s.views id v w at
              (subst (λ (q : Phase). HasTicket q u) waits) (account.holder u) k.0 k.1 k.2;
          each = each_set (ViewFits maker (entries first) after) s.views id w
              (record {
                begins = ([], sym h.0 ∙ sym (append-nil _));
                heard = mine.heard;
                early = account.made;
                rest = [];
                made_is = sym (append-nil _);
                seen_is = λ _ _ _. h.0;
                phase = record {
                  served = refl;
                  drawn = below;
                  holds = holds;
                  seen_all = h.0;
                  emptied = refl;
                };
                lives = λ _ _. (n, keeps_one);
                owns = λ m es k. let o = mine.owns m es k in record {
                  exact = o.exact;
                  owner_is = o.owner_is;
                  origin = o.origin;
                  opening_is = o.opening_is;
                  unseen = refl;
                };
                differ = mine.differ;
              })
              (λ j d other e. let f = r.each j d e in record {
                begins = f.begins;
                heard = f.heard;
                early = f.early;
                rest = f.rest;
                made_is = f.made_is;
                seen_is = f.seen_is;
                phase = others account x is (entries first ++ account.made) j d.seen
                    d.phase f.phase;
                lives = f.lives;
                owns = f.owns;
                differ = f.differ;
              });
          longest = (id, w, set_here s.views id w size, h.0);
          named = λ k e at_k. let l = r.named k e at_k in
              witness (λ (y : View E). KeepsNumber y (maker e)) s.views id v w at (λ e. e)
              (account.owner (maker e)) l.0 l.1 l.2;
          root = let l = r.root in
              let p = witness (λ (y : View E). KeepsNumber y 0 × (y.given ≡ account.given)) s.views
              id v w at (λ e. e) (account.owner 0) l.0 l.1
              (l.2, l.3) in (p.0, p.1, p.2.0, p.2.1);
          few = length-set s.views id w ∙ r.few;
          distinct = r.distinct;
          low = r.low;
        },
      )

  -- the ticket of a pass that waits is its own
  same_ticket : (v : View E) (t u : ℕ) → v.phase ≡ Waiting t → v.phase ≡ Waiting u → t ≡ u
  same_ticket v t u one other = let k : Waiting t ≡ Waiting u = sym one ∙ other in cc

  pub looks : (about : Option F) → about ≡ Some (fixed first)
      → (slots id : ℕ) (me : Me (Option V) (View E)) (t : ℕ) → me.0.phase ≡ Waiting t
      → (n : ℕ) → KeepsNumber me.0 n
      → Allows (Rule entries fixed maker first) slots id me 1 (λ n. n)
      (Looked entries fixed maker about (step slots 1 0 0 none) me)
  looks about known slots id me t waits n keeps_one s r _ at _ =
      let v : View E = me.0 in
      let account : Account V E = r.account in
      let mine : ViewFits maker (entries first) account id v = r.each id v at in
      let phase = subst (InPhase account (entries first ++ account.made) id v.seen)
      waits mine.phase in
      let low = phase.0 in
      let high = phase.1 in
      let found = ap (λ ws. slice_index ws 1) r.words in
      dite (ℕ_discrete (slice_index s.words 1) (t % 2 ^ 64))
      (λ yes.
      let out = tickets_out s r in
      let same : account.serving ≡ t = one_turn account.serving t (2 ^ 64) low (omega arith)
      (sym found ∙ yes) in
      let h = look_here id me s r at n keeps_one (waits ∙ ap Waiting (sym same)) (omega arith)
      (ap account.holder same ∙ phase.2) account.slot refl r.at_home in
      let told = subst (λ o. Handed entries fixed maker o v h.0) (sym known) h.2 in (
        inside v account.serving (entries h.0),
        takes 0 (Some h.0),
        h.1,
        h.3,
        λ u is. let e : t ≡ u = same_ticket v t u waits is in (
          (λ _. record {
            value = h.0;
            handed = told;
            inside_is = ap (λ q. (inside v q (entries h.0), (0, Some h.0) ∷ me.1)) (same ∙ e);
          }),
          λ no. absurd (no (yes ∙ ap (λ q. q % 2 ^ 64) e)),
        ),
      ))
      (λ no. (
        v,
        keeps,
        tt,
        reads_only entries fixed maker first s r id v at,
        λ u is. let e : t ≡ u = same_ticket v t u waits is in
            ((λ yes. absurd (no (yes ∙ ap (λ q. q % 2 ^ 64) (sym e)))), λ _. refl),
      ))

  abbrev first_carried : List (ℕ × Option V) → Option V
  first_carried [] = None
  first_carried (y ∷ ys) = y.1

  -- what the look that finds its turn tells: y, which was then taken out of the slot, is what was
  -- handed out
  pub is_handed : (about : Option F) (v : View E) (t r : ℕ) (m m' : Me (Option V) (View E)) (y : V)
      → m ≡ (in_phase v (Waiting t), []) → r ≡ t % 2 ^ 64
      → Looked entries fixed maker about (step 0 0 0 0 none) m r m' → m'.1 ≡ (0, Some y) ∷ []
      → Handed entries fixed maker about v y × (m' ≡ (inside v t (entries y), (0, Some y) ∷ []))
  is_handed about v t r m m' y is found told carries =
      let phase : m.0.phase ≡ Waiting t = ap (λ (k : Me (Option V) (View E)). k.0.phase) is in
      let h = (told t phase).0 found in
      let e : Some h.value ≡ Some y = sym (ap (λ (k : Me (Option V) (View E)). first_carried k.1)
      h.inside_is) ∙ ap first_carried carries in
      let same : h.value ≡ y = cc in
      let out : Handed entries fixed maker about (in_phase v (Waiting t)) y =
      subst (λ (z : View E × V). Handed entries fixed maker about z.0 z.1)
      (λ i. ((is i).0, same i)) h.handed in (
        record {
          between = out.between;
          begins = out.begins;
          others = out.others;
          fixed_is = out.fixed_is;
          lists =
              record { made = out.lists.made; all_is = out.lists.all_is; exact = out.lists.exact };
        },
        h.inside_is ∙ (λ i. (inside (is i).0 t (entries (same i)), (0, Some (same i)) ∷ (is i).1)),
      )
