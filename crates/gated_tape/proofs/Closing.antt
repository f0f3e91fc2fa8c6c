-- The tapes at the end, as the closed gates give them.
use Rattle.std.proofs.Common.{◌≡◌, ℕ, suc, ◌+◌, ◌||◌, ◌==◌, eqb, cond, Bool, true, false, List, []}
use Rattle.std.proofs.Common.{◌∷◌, ◌++◌, All, Result, Ok, Err, OnOk, length, nat_eq, slice_index_or}
use Rattle.std.proofs.Common.{refl, sym, ap, ◌∙◌, subst, eqb-true, length-append, arith}
use Rattle.std.proofs.lemmas.List.{append-nil}
use Rattle.std.proofs.lemmas.List.Folds.{Any-from_list_any}
use Rattle.turn_gate.specs.Known.{GateName, PassFacts, made_by, numbers, is_among, StartsWith, Owns}
use Rattle.turn_gate.specs.Known.{NamesKept}
use Rattle.gated_tape.specs.declared.tapes.Mark.{Mark}
use Rattle.gated_tape.specs.Marks.{node_of, marks_up_to, IsLegalTape}
use Rattle.gated_tape.specs.Crews.{count_down, AreAmong, HasGiven, IsGathered, IsGathering}
use Rattle.gated_tape.specs.Crews.{HasHeardFull, HasCountsOf, AreByWriters, AreWritten}
use Rattle.gated_tape.proofs.Gathering.{all_cons, firsts}

-- where a node has no mark, no mark names it
none_names : (n : ℕ) (xs : List Mark) → made_by node_of n xs ≡ [] → All (λ m. eqb m.node n
    ≡ false) xs
none_names n [] none = λ k d low. absurd (omega arith)
none_names n (x ∷ xs) none = at (eqb x.node n) refl none (none_names n xs)
  where
    at : (b : Bool) → eqb x.node n ≡ b → cond b (x ∷ made_by node_of n xs) (made_by node_of n xs)
        ≡ [] → (made_by node_of n xs ≡ [] → All (λ m. eqb m.node n ≡ false) xs)
        → All (λ m. eqb m.node n ≡ false) (x ∷ xs)
    at true is never more = absurd (let no : x ∷ made_by node_of n xs ≡ [] = never in cc)
    at false is later more = all_cons (λ m. eqb m.node n ≡ false) x xs is (more later)

module _ (gate : GateName Mark) (p : PassFacts Mark) (opening : gate.opening ≡ [])
    (gathered : IsGathered gate p) where
  -- a gate that opened empty has no entries but those made
  all_made : (marks made : List Mark) → marks ≡ p.gate.opening ++ made → marks ≡ made
  all_made marks made is = is
      ∙ (ap (λ g. g.opening ++ made) gathered.gate_is ∙ ap (λ l. l ++ made) opening)

  -- a mark that names a number of pass 0, and not 0, names a writer
  names_writer : (writers : ℕ) → AreAmong p.given (count_down writers) → (m : Mark)
      → is_among m.node (numbers p) ≡ true → eqb m.node 0 ≡ false
      → is_among m.node (count_down writers) ≡ true
  names_writer writers within m named other =
      let rest : Bool = is_among m.node (firsts p.joined) in
      let later : rest ≡ true =
      sym (ap (λ b. b || rest) other)
      ∙ (sym (ap (λ n. nat_eq m.node n || rest) gathered.is_zero) ∙ named) in
      within m.node (ap (is_among m.node) gathered.given_is ∙ later)

  -- each mark names a writer, since pass 0 made none
  pub by_writers : (writers : ℕ) (marks : List Mark) → AreAmong p.given (count_down writers)
      → NamesKept node_of p marks → Owns node_of p marks
      → AreByWriters writers marks
  by_writers writers marks within named owns k d low =
      let unwritten : made_by node_of 0 marks ≡ [] =
      ap (made_by node_of 0) (all_made marks owns.made owns.all_is)
      ∙ (ap (λ n. made_by node_of n owns.made) (sym gathered.is_zero)
      ∙ (sym owns.mine_is ∙ gathered.unwritten)) in
      let kept = subst (All (λ m. is_among m.node (numbers p) ≡ true))
      (sym (all_made marks named.made named.all_is)) named.named in
      names_writer writers within (slice_index_or marks k d) (kept k d low)
      (none_names 0 marks unwritten k d low)

-- where a pass that came back had seen a full tape, the closed tape is full
pub heard_full : (limit : ℕ) (p : PassFacts Mark) (marks : List Mark)
    → All (StartsWith marks) p.heard → IsLegalTape limit marks → HasHeardFull limit p
    → length marks ≡ limit
heard_full limit p marks starts legal heard =
    let any = Any-from_list_any (λ s. length s == limit) p.heard heard in
    let begins : StartsWith marks any.1 =
    subst (StartsWith marks) any.3 (starts any.0 any.1 any.2) in
    let long : length any.1 ≡ limit = eqb-true (length any.1) limit any.4 in
    let whole : length marks ≡ length any.1 + length begins.0 = ap length begins.1
    ∙ length-append any.1 begins.0 in
    let fits = legal.fits in
    omega arith

-- where each list that was joined has `count` marks, the own marks of each number that was joined
-- are those that count up to it
own_joined : (joined : List (ℕ × List Mark)) (marks : List Mark) (count : ℕ)
    → All (λ q. made_by node_of q.0 marks ≡ marks_up_to q.0 (length q.1)) joined
    → All (λ q. length q.1 ≡ count) joined
    → (n : ℕ) → is_among n (firsts joined) ≡ true → made_by node_of n marks ≡ marks_up_to n count
own_joined [] marks count exact counted n among = absurd (let no : false ≡ true = among in cc)
own_joined (q ∷ qs) marks count exact counted n among = here (nat_eq n q.0) refl among
    (own_joined qs marks count (λ k d low. exact (suc k) d (omega arith))
    (λ k d low. counted (suc k) d (omega arith)) n)
  where
    here : (b : Bool) → nat_eq n q.0 ≡ b → (nat_eq n q.0 || is_among n (firsts qs)) ≡ true
        → (is_among n (firsts qs) ≡ true → made_by node_of n marks ≡ marks_up_to n count)
        → made_by node_of n marks ≡ marks_up_to n count
    here true is among later =
        let same : n ≡ q.0 = eqb-true n q.0 is in
        ap (λ m. made_by node_of m marks) same
        ∙ (exact 0 q (omega arith) ∙ (λ i. marks_up_to (sym same i) (counted 0 q (omega arith) i)))
    here false is among later = later (sym (ap (λ b. b || is_among n (firsts qs)) is) ∙ among)

module _ {T X : Type 0} (gate : GateName Mark) (count writers : ℕ) (p : PassFacts Mark) where
  -- pass 0 with all passes back
  pub gathered_all : (ended : Result T X) → IsGathering gate count ended [] p → IsGathered gate p
  gathered_all ended g = record {
    gate_is = g.gate_is;
    outside = g.outside;
    is_zero = g.is_zero;
    unwritten = g.unwritten;
    given_is = g.given_is ∙ append-nil (firsts p.joined);
  }

  -- where the work was done, each writer's marks are written
  pub are_written : (marks : List Mark) (ended : Result T X) → IsGathering gate count ended [] p
      → HasGiven writers ended p → HasCountsOf marks p
      → OnOk ended (AreWritten writers count marks)
  are_written marks (Ok x) g given counts = λ n among.
      let back : firsts p.joined ≡ count_down writers = sym (append-nil (firsts p.joined))
      ∙ (sym g.given_is ∙ given.all) in
      own_joined p.joined marks count counts g.written n (ap (is_among n) back ∙ among)
  are_written marks (Err x) g given counts = tt

  -- pass 0 gave the numbers of all writers
  pub has_given : (ended : Result T X) → p.given ≡ count_down writers → HasGiven writers ended p
  has_given ended is =
      record { within = λ n among. sym (ap (is_among n) is) ∙ among; all = on_ok ended is }
    where
      on_ok : {A : Type 0} (r : Result T X) → A → OnOk r A
      on_ok (Ok x) a = a
      on_ok (Err x) a = tt
