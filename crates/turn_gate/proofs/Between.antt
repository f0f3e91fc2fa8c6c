-- A pass between two calls: what contracts say of it, and what the table knows of its seat.
use Rattle.std.proofs.Common.{◌≡◌, ◌≢◌, ℕ, suc, List, [], ◌∷◌, ◌++◌, ◌||◌, All, Some, None, Option}
use Rattle.std.proofs.Common.{true, false, refl, sym, ap, ◌∙◌, subst, ne_eqb}
use mathlib.Core.Option.{some, some-injective}
use lib.ListN.{get_elem?}
use Rattle.atomic_table.specs.Table.{Me, Final, Seen}
use Rattle.atomic_table.specs.Seated.{TableId}
use Rattle.turn_gate.specs.declared.views.Phase.{Phase}
use Rattle.turn_gate.specs.declared.views.Phase.TheVariants.{Idle, Waiting, Inside}
use Rattle.turn_gate.specs.declared.views.View.{View}
use Rattle.turn_gate.specs.Known.{GateName, PassFacts, made_by, is_among, numbers, StartsWith}
use Rattle.turn_gate.specs.Known.{IsPassReady}
use Rattle.turn_gate.specs.Known.{HasAllBack, PassFinds, Owns, NamesKept, PassAdds}
use Rattle.turn_gate.specs.Rule.{HasKept, KeepsNumber, numbers_of, Rule}
use Rattle.turn_gate.specs.Moves.{Handed, Exact, MayLeave, first_grown}
use Rattle.turn_gate.specs.Seats.{first_kept, later_kept, stay_of, pass_facts, CarriesBetween}
use Rattle.turn_gate.specs.Seats.{IsSettled}
use Rattle.turn_gate.proofs.Lists.{all_at, all_from_places}
use Rattle.turn_gate.proofs.Owning.{among_kept, kept_among}
use Rattle.turn_gate.proofs.Closing.{Closes, closes}

-- a pass that is outside is idle and carries nothing
pub idle_of : {V : Type 0} (slots : List (ℕ × Option V)) (p : Phase) → stay_of p ≡ None
    → CarriesBetween slots p → (p ≡ Idle) × (slots ≡ [])
idle_of slots Idle out carries = (refl, carries)
idle_of slots (Waiting t) out carries = absurd carries
idle_of slots (Inside t) out carries = let no : Some t ≡ None = out in cc

module _ {V E : Type 0} (m : Me (Option V) (View E))
    (keeps_one : m.0.kept ≡ first_kept m.0.kept ∷ later_kept m.0.kept) where
  -- a pass keeps its own number
  abbrev pub keeps_own : KeepsNumber m.0 (first_kept m.0.kept).0
  keeps_own = ((first_kept m.0.kept).1, (0, ap (λ l. get_elem? l 0) keeps_one))

  -- a list that was joined into a pass is kept
  pub keeps_joined : (k : ℕ) (q : ℕ × List E) → get_elem? (later_kept m.0.kept) k ≡ some q
      → HasKept m.0 q.0 q.1
  keeps_joined k q there = (suc k, ap (λ l. get_elem? l (suc k)) keeps_one ∙ there)

  -- the numbers that a contract sees are those that the view keeps
  pub keeps_number : (n : ℕ) → is_among n (numbers_of (first_kept m.0.kept ∷ later_kept m.0.kept))
      ≡ true → KeepsNumber m.0 n
  keeps_number n is = kept_among n m.0.kept (ap (λ l. is_among n (numbers_of l)) keeps_one ∙ is)

  -- the numbers that the view keeps are those that a contract sees
  pub number_kept : (id : TableId) (n : ℕ) → KeepsNumber m.0 n
      → is_among n (numbers (pass_facts id m)) ≡ true
  number_kept id n k = sym (ap (λ l. is_among n (numbers_of l)) keeps_one)
      ∙ among_kept n m.0.kept k.1.0 k.0 k.1.1

  -- what was handed out, in the words of a contract
  pub finds : {F : Type 0} (entries : V → List E) (fixed : V → F) (maker : E → ℕ) (about : Option F)
      (id : TableId) (x : V)
      → Handed entries fixed maker about m.0 x → PassFinds maker (pass_facts id m) (entries x)
  finds entries fixed maker about id x h = record {
    between = h.between;
    begins = h.begins;
    not_mine = h.others (first_kept m.0.kept).0 keeps_own.0 keeps_own.1;
    not_joined = all_from_places (λ q. made_by maker q.0 h.between ≡ []) (later_kept m.0.kept)
        (λ k q there. h.others q.0 q.1 (keeps_joined k q there));
  }

  -- exact lists, in the words of a contract
  pub owns : (maker : E → ℕ) (id : TableId) (all : List E) → Exact maker m.0 all
      → Owns maker (pass_facts id m) all
  owns maker id all h = record {
    made = h.made;
    all_is = h.all_is;
    mine_is = h.exact (first_kept m.0.kept).0 keeps_own.0 keeps_own.1;
    joined_are = all_from_places (λ q. q.1 ≡ made_by maker q.0 h.made) (later_kept m.0.kept)
        (λ k q there. h.exact q.0 q.1 (keeps_joined k q there));
  }

  -- a pass that is not pass 0 does not keep 0
  pub never_zero : is_among 0 (numbers_of (later_kept m.0.kept)) ≡ false
      → (first_kept m.0.kept).0 ≢ 0 → KeepsNumber m.0 0 → ⊥
  never_zero no_zero other k =
      let yes = among_kept 0 m.0.kept k.1.0 k.0 k.1.1 in
      let never = ap (λ l. is_among 0 (numbers_of l)) keeps_one
      ∙ (ap (λ b. b || is_among 0 (numbers_of (later_kept m.0.kept)))
      (ne_eqb 0 (first_kept m.0.kept).0 (λ e. other (sym e))) ∙ no_zero) in
      let no : true ≡ false = sym yes ∙ never in cc

  -- a pass of one number that no other was joined into, whose own lists are exact, is ready
  pub ready : (maker : E → ℕ) (id : TableId) (n : ℕ) (gate : GateName E) → id ≡ gate.table
      → m.0.opening ≡ gate.opening
      → m.0.kept ≡ (n, []) ∷ [] → m.0.heard ≡ [] → m.0.phase ≡ Idle → Exact maker m.0 m.0.seen
      → IsPassReady maker n gate (pass_facts id m)
  ready maker id n gate at opening alone unheard idle exact = record {
    gate_is = λ i. record { table = at i; opening = opening i };
    outside = ap stay_of idle;
    number_is = ap (λ l. (first_kept l).0) alone;
    unjoined = ap later_kept alone;
    unheard = unheard;
    own_is = owns maker id m.0.seen exact;
  }

  -- what a contract asks of a value that is left is what the rule asks
  pub may_leave : (entries : V → List E) (maker : E → ℕ) (id : TableId) (p : PassFacts E) (x y : V)
      → pass_facts id m ≡ p → y ≡ x → PassAdds maker p (entries x) → MayLeave entries maker m.0 y
  may_leave entries maker id p x y is same adds = record {
    by = (first_kept m.0.kept).0;
    mine = (first_kept m.0.kept).1;
    later = later_kept m.0.kept;
    kept_is = keeps_one;
    added = adds.added;
    grown = ap entries same
        ∙ (adds.grown ∙ ap (λ (q : PassFacts E). q.seen ++ adds.added) (sym is));
    all_own = λ k e there.
        all_at (λ e. maker e ≡ p.number) adds.added adds.own_all k e there
        ∙ ap (λ (q : PassFacts E). q.number) (sym is);
  }

  -- a pass that has left keeps its own number first
  pub keeps_one_after : (added : List E) → first_grown added m.0.kept
      ≡ first_kept (first_grown added m.0.kept) ∷ later_kept (first_grown added m.0.kept)
  keeps_one_after added = subst (λ (l : List (ℕ × List E)).
      first_grown added l ≡ first_kept (first_grown added l) ∷ later_kept
      (first_grown added l)) (sym keeps_one) refl

-- what contracts say of the value y with which pass 0 closes the gate
pub record IsWhole {V E F : Type 0} (entries : V → List E) (fixed : V → F) (maker : E → ℕ)
    (first : V) (p : PassFacts E) (y : V) : Type 0 where
  pub whole : entries y ≡ p.seen
  pub own_is : Owns maker p (entries y)
  pub named : NamesKept maker p (entries y)
  pub heard : All (StartsWith (entries y)) p.heard
  pub fixed_is : fixed y ≡ fixed first

module _ {V E F : Type 0} (entries : V → List E) (fixed : V → F) (maker : E → ℕ) (first : V)
    (id : TableId) (seat : ℕ) (m : Me (Option V) (View E))
    (p : PassFacts E) (ws : List ℕ) (xs : List (Option V)) (o : Option V)
    (is : pass_facts id m ≡ p) (sound : IsSettled m) (out : p.stay ≡ None) (number : p.number ≡ 0)
    (all_back : HasAllBack p)
    (final : Final (Seen (Rule entries fixed maker first) seat m.0) ws xs)
    (there : get_elem? xs 0 ≡ some o) where
  closed : Closes entries fixed maker first m.0 xs
  closed =
      let idle = idle_of m.1 m.0.phase (ap (λ (q : PassFacts E). q.stay) is ∙ out) sound.carries in
      let zero_kept : KeepsNumber m.0 0 =
      subst (λ n. KeepsNumber m.0 n) (ap (λ (q : PassFacts E). q.number) is ∙ number)
      (keeps_own m sound.keeps_one) in
      let back = subst HasAllBack (sym is) all_back in
      closes entries fixed maker first seat m.0 ws xs idle.0 zero_kept
      (λ n given. keeps_number m sound.keeps_one n (back n given)) final

  -- there is a value
  pub never_none : o ≡ None → ⊥
  never_none none =
      let no : Some closed.x ≡ None = some-injective _ _ (sym closed.is_there ∙ there) ∙ none in cc

  whole_here : IsWhole entries fixed maker first (pass_facts id m) closed.x
  whole_here = record {
    whole = closed.whole;
    own_is = owns m sound.keeps_one maker id (entries closed.x) closed.lists;
    named = record {
      made = closed.made;
      all_is = closed.made_is;
      named = all_from_places
          (λ e. is_among (maker e) (numbers (pass_facts id m)) ≡ true) closed.made
          (λ k e at. number_kept m sound.keeps_one id (maker e) (closed.named k e at));
    };
    heard = all_from_places (StartsWith (entries closed.x)) m.0.heard closed.heard;
    fixed_is = closed.fixed_is;
  }

  -- what pass 0 learns of the value as it closes the gate
  pub closes_with : (y : V) → o ≡ Some y → IsWhole entries fixed maker first p y
  closes_with y found =
      let e : Some closed.x ≡ Some y = some-injective _ _ (sym closed.is_there ∙ there) ∙ found in
      let same : closed.x ≡ y = cc in
      subst (λ (q : PassFacts E × V). IsWhole entries fixed maker first q.0 q.1)
      (λ i. (is i, same i)) whole_here
