-- Stations that are each in time have one order with the ring.
use Rattle.std.proofs.Common.{◌≡◌, ◌≢◌, ℕ, ◌==◌, Bool, true, false, cond, List, [], ◌∷◌, ◌++◌, map}
use Rattle.std.proofs.Common.{Option, Some, None, refl, sym, ap, ◌∙◌, subst}
use Rattle.std.proofs.Common.{inl, inr, ◌⊎◌, ⊎_elim}
use Rattle.std.specs.Prelude.{filter_map}
use Rattle.std.specs.List.{cons_option, AllByRecursion as Each}
use Rattle.std.proofs.lemmas.Bool.{eq-eqb, ne_eqb}
use Rattle.std.proofs.lemmas.List.Elements.{filter_map-append}
use Rattle.one_order.specs.Orders as orders
use Rattle.one_order.specs.Merges.{Merged, AsNoted, AsDone, noted_of, deeds_of, tally, Runs}
use Rattle.one_order.specs.Merges.{InTimeFrom}
use Rattle.one_order.specs.Orders.{Event, AtStation, AtRing, if_on_ring, on_ring}
use Rattle.one_order.specs.Orders.{at_station, Log, NotAmong, HaveNodesApart, own_of}
use Rattle.one_order.proofs.Merges.{runs-front}

own-head : {R : Type 0} (b : Bool) (e d : R) (t rest : List R) → cond b (e ∷ t) t ≡ d ∷ rest
    → ((b ≡ true) × (e ≡ d) × (t ≡ rest)) ⊎ ((b ≡ false) × (t ≡ d ∷ rest))
own-head true e d t rest q = inl (refl, cc, cc)
own-head false e d t rest q = inr (refl, q)

module _ {E R : Type 0} (maker : R → ℕ) where
  -- what a station sees of an order
  abbrev part : ℕ → Event E R → Option (Merged E R)
  part n (AtStation m e) = cond (m == n) (Some (AsNoted e)) None
  part n (AtRing e) = cond ((maker e == n)) (Some (AsDone e)) None

  abbrev view : ℕ → List (Event E R) → List (Merged E R)
  view n w = filter_map (part n) w

  -- its lists are those of the order
  noted-noted : (b : Bool) (e : E) (v : List (Merged E R)) (t : List E) → noted_of v ≡ t
      → noted_of (cons_option (cond b (Some (AsNoted e)) None) v)
      ≡ cons_option (cond b (Some e) None) t
  noted-noted true e v t q = ap (λ (x : List E). e ∷ x) q
  noted-noted false e v t q = q

  noted-done : (b : Bool) (e : R) (v : List (Merged E R))
      → noted_of (cons_option (cond b (Some (AsDone e)) None) v) ≡ noted_of v
  noted-done true e v = refl
  noted-done false e v = refl

  done-noted : (b : Bool) (e : E) (v : List (Merged E R))
      → deeds_of (cons_option (cond b (Some (AsNoted e)) None) v) ≡ deeds_of v
  done-noted true e v = refl
  done-noted false e v = refl

  done-done : (b : Bool) (e : R) (v : List (Merged E R)) (t : List R) → deeds_of v ≡ t
      → deeds_of (cons_option (cond b (Some (AsDone e)) None) v) ≡ cond b (e ∷ t) t
  done-done true e v t q = ap (λ (x : List R). e ∷ x) q
  done-done false e v t q = q

  view-noted : (n : ℕ) (w : List (Event E R)) → noted_of (view n w) ≡ at_station n w
  view-noted n [] = refl
  view-noted n (AtStation m e ∷ w) =
      noted-noted (m == n) e (view n w) (at_station n w) (view-noted n w)
  view-noted n (AtRing e ∷ w) = noted-done ((maker e == n)) e (view n w) ∙ view-noted n w

  view-done : (n : ℕ) (w : List (Event E R)) → deeds_of (view n w) ≡ own_of maker n (on_ring w)
  view-done n [] = refl
  view-done n (AtStation m e ∷ w) = done-noted (m == n) e (view n w) ∙ view-done n w
  view-done n (AtRing e ∷ w) =
      done-done ((maker e == n)) e (view n w) (own_of maker n (on_ring w)) (view-done n w)

  none-left : (v : List (Merged E R)) → noted_of v ≡ [] → deeds_of v ≡ [] → v ≡ []
  none-left [] p q = refl
  none-left (AsNoted e ∷ v) p q = absurd (cc)
  none-left (AsDone e ∷ v) p q = absurd (cc)

  view-none : (n : ℕ) (w : List (Event E R)) → at_station n w ≡ []
      → own_of maker n (on_ring w) ≡ [] → view n w ≡ []
  view-none n w p q = none-left (view n w) (view-noted n w ∙ p) (view-done n w ∙ q)

  -- an order up to a node's next entry on the ring
  record Split (n : ℕ) (d : R) (rest : List R) (w : List (Event E R)) : Type 0 where
    before : List (Event E R)
    after : List (Event E R)
    is : w ≡ before ++ AtRing d ∷ after
    none : view n before ≡ []
    here : (maker d == n) ≡ true
    later : own_of maker n (on_ring after) ≡ rest
    quiet : at_station n after ≡ []

  quiet-head : (b : Bool) (e : E) (t : List E) → cons_option (cond b (Some e) None) t ≡ []
      → (b ≡ false) × (t ≡ [])
  quiet-head true e t q = absurd (cc)
  quiet-head false e t q = (refl, q)

  none-head : (b : Bool) (x : Merged E R) (t : List (Merged E R)) → b ≡ false → t ≡ []
      → cons_option (cond b (Some x) None) t ≡ []
  none-head true x t p q = absurd (cc)
  none-head false x t p q = q

  split-here : (n : ℕ) (e d : R) (rest : List R) (w : List (Event E R)) → (maker e == n) ≡ true
      → e ≡ d → own_of maker n (on_ring w) ≡ rest
      → at_station n w ≡ [] → Split n d rest (AtRing e ∷ w)
  split-here n e d rest w b is q s = record {
    before = [];
    after = w;
    is = ap (λ (x : R). AtRing x ∷ w) is;
    none = refl;
    here = subst (λ (x : R). (maker x == n) ≡ true) is b;
    later = q;
    quiet = s;
  }

  split-on : (n : ℕ) (x : Event E R) (d : R) (rest : List R) (w : List (Event E R))
      → ((t : List (Merged E R)) → t ≡ [] → cons_option (part n x) t ≡ []) → Split n d rest w
      → Split n d rest (x ∷ w)
  split-on n x d rest w pass p = record {
    before = x ∷ p.before;
    after = p.after;
    is = ap (λ (t : List (Event E R)). x ∷ t) p.is;
    none = pass (view n p.before) p.none;
    here = p.here;
    later = p.later;
    quiet = p.quiet;
  }

  split : (n : ℕ) (d : R) (rest : List R) (w : List (Event E R))
      → own_of maker n (on_ring w) ≡ d ∷ rest → at_station n w ≡ []
      → Split n d rest w
  split n d rest [] q s = absurd (cc)
  split n d rest (AtStation m e ∷ w) q s =
      let h = quiet-head (m == n) e (at_station n w) s in
      split-on n (AtStation m e) d rest w (λ t p. none-head (m == n) (AsNoted e) t h.0 p)
      (split n d rest w q h.1)
  split n d rest (AtRing e ∷ w) q s =
      ⊎_elim (λ (h : ((maker e == n) ≡ true) × (e ≡ d) × (own_of maker n (on_ring w) ≡ rest)).
      split-here n e d rest w h.0 h.1 h.2 s)
      (λ (h : ((maker e == n) ≡ false) × (own_of maker n (on_ring w) ≡ d ∷ rest)). split-on n
      (AtRing e) d rest w (λ t p. none-head ((maker e == n)) (AsDone e) t h.0 p)
      (split n d rest w h.1 s))
      (own-head ((maker e == n)) e d (own_of maker n (on_ring w)) rest q)

  -- a station's merge is woven into an order
  record Woven (n : ℕ) (x : List (Merged E R)) (w : List (Event E R)) : Type 0 where
    order : List (Event E R)
    view_is : view n order ≡ x
    ring_is : on_ring order ≡ on_ring w
    others : (m : ℕ) → m ≢ n → view m order ≡ view m w

  here-noted : (b : Bool) (x : Merged E R) (t u : List (Merged E R)) → b ≡ true → t ≡ u
      → cons_option (cond b (Some x) None) t ≡ x ∷ u
  here-noted true x t u p q = ap (λ (y : List (Merged E R)). x ∷ y) q
  here-noted false x t u p q = absurd (cc)

  not-noted : (b : Bool) (x : Merged E R) (t u : List (Merged E R)) → b ≡ false → t ≡ u
      → cons_option (cond b (Some x) None) t ≡ u
  not-noted true x t u p q = absurd (cc)
  not-noted false x t u p q = q

  weave-noted : (n : ℕ) (e : E) (x : List (Merged E R)) (w : List (Event E R)) → Woven n x w
      → Woven n (AsNoted e ∷ x) w
  weave-noted n e x w p = record {
    order = AtStation n e ∷ p.order;
    view_is = here-noted (n == n) (AsNoted e) (view n p.order) x (eq-eqb n n refl) p.view_is;
    ring_is = p.ring_is;
    others =
        λ m ne. not-noted (n == m) (AsNoted e) (view m p.order) (view m w)
        (ne_eqb n m (λ q. ne (sym q))) (p.others m ne);
  }

  weave-done : (n : ℕ) (d : R) (x : List (Merged E R)) (w : List (Event E R))
      → (p : Split n d (deeds_of x) w) → Woven n x p.after
      → Woven n (AsDone d ∷ x) w
  weave-done n d x w p q = record {
    order = p.before ++ AtRing d ∷ q.order;
    view_is = filter_map-append (part n) p.before (AtRing d ∷ q.order)
        ∙ (ap (λ (t : List (Merged E R)). t ++ view n (AtRing d ∷ q.order)) p.none
        ∙ here-noted ((maker d == n)) (AsDone d) (view n q.order) x p.here q.view_is);
    ring_is = filter_map-append if_on_ring p.before (AtRing d ∷ q.order)
        ∙ (ap (λ (t : List R). on_ring p.before ++ d ∷ t) q.ring_is
        ∙ (sym (filter_map-append if_on_ring p.before (AtRing d ∷ p.after))
        ∙ ap on_ring (sym p.is)));
    others = λ m ne. filter_map-append (part m) p.before (AtRing d ∷ q.order)
        ∙ (ap (λ (t : List (Merged E R)). view m p.before ++ cons_option (part m (AtRing d)) t)
        (q.others m ne)
        ∙ (sym (filter_map-append (part m) p.before (AtRing d ∷ p.after))
        ∙ ap (λ (t : List (Event E R)). view m t) (sym p.is)));
  }

  weave : (n : ℕ) (x : List (Merged E R)) (w : List (Event E R))
      → deeds_of x ≡ own_of maker n (on_ring w) → at_station n w ≡ []
      → Woven n x w
  weave n [] w q s =
      record {
        order = w;
        view_is = view-none n w s (sym q);
        ring_is = refl;
        others = λ m ne. refl;
      }
  weave n (AsNoted e ∷ x) w q s = weave-noted n e x w (weave n x w q s)
  weave n (AsDone d ∷ x) w q s =
      let p = split n d (deeds_of x) w (sym q) s in
      weave-done n d x w p (weave n x p.after (sym p.later) p.quiet)

  module _ {S D : Type 0} (note : S → E → S) (deed : D → R → D) (Caused : S → D → Type 0) (s0 : S)
      (d0 : D) where
    abbrev Run : List (Merged E R) → Type 0
    Run w = Runs note deed Caused s0 d0 w

    abbrev Timely : List E → List R → Type 0
    Timely known first = InTimeFrom note deed Caused s0 d0 known first

    abbrev Behind : ℕ → List (Event E R) → Type 0
    Behind n w = orders.IsCausedThroughout maker note deed Caused s0 d0 n w

    abbrev OneOrder : List R → List (Log E) → Type 0
    OneOrder ring logs = orders.HasOneOrder maker note deed Caused s0 d0 ring logs

    -- what an order keeps of a station
    record Keeps (order : List (Event E R)) (log : Log E) : Type 0 where
      noted : noted_of (view log.node order) ≡ log.entries
      runs : Run (view log.node order)

    record Laid (ring : List R) (logs : List (Log E)) : Type 0 where
      order : List (Event E R)
      ring_is : on_ring order ≡ ring
      each : Each (Keeps order) logs
      nobody : (n : ℕ) → NotAmong n logs → at_station n order ≡ []

    ring-alone : (ring : List R) → on_ring {E = E} (map AtRing ring) ≡ ring
    ring-alone [] = refl
    ring-alone (e ∷ ring) = ap (λ (t : List R). e ∷ t) (ring-alone ring)

    nobody-alone : (n : ℕ) (ring : List R) → at_station {E = E} n (map AtRing ring) ≡ []
    nobody-alone n [] = refl
    nobody-alone n (e ∷ ring) = nobody-alone n ring

    keeps-by : (w u : List (Event E R)) (log : Log E) → view log.node u ≡ view log.node w
        → Keeps w log → Keeps u log
    keeps-by w u log q k = record {
      noted = ap noted_of q ∙ k.noted;
      runs = subst (λ (t : List (Merged E R)). Run t) (sym q) k.runs;
    }

    each-keeps : (n : ℕ) (w u : List (Event E R)) (logs : List (Log E))
        → ((m : ℕ) → m ≢ n → view m u ≡ view m w) → NotAmong n logs
        → Each (Keeps w) logs → Each (Keeps u) logs
    each-keeps n w u [] same ne k = tt
    each-keeps n w u (log ∷ logs) same ne k =
        (keeps-by w u log (same log.node ne.0) k.0, each-keeps n w u logs same ne.1 k.1)

    lay-one : (ring : List R) (log : Log E) (logs : List (Log E)) → NotAmong log.node logs
        → (p : Laid ring logs)
        → (x : Timely log.entries (own_of maker log.node ring)) → Woven log.node x.merge p.order
        → Laid ring (log ∷ logs)
    lay-one ring log logs apart p x q = record {
      order = q.order;
      ring_is = q.ring_is ∙ p.ring_is;
      each = (
        record {
          noted = ap noted_of q.view_is ∙ x.noted;
          runs = subst (λ (t : List (Merged E R)). Run t) (sym q.view_is) x.runs;
        },
        each-keeps log.node p.order q.order logs q.others apart p.each,
      );
      nobody = λ m ne. sym (view-noted m q.order)
          ∙ (ap noted_of (q.others m (λ e. ne.0 (sym e)))
          ∙ (view-noted m p.order ∙ p.nobody m ne.1));
    }

    lay : (ring : List R) (logs : List (Log E)) → HaveNodesApart logs
        → orders.EachInTime maker note deed Caused s0 d0 ring logs
        → Laid ring logs
    lay ring [] a x =
        record {
          order = map AtRing ring;
          ring_is = ring-alone ring;
          each = tt;
          nobody = λ n ne. nobody-alone n ring;
        }
    lay ring (log ∷ logs) a x =
        let p = lay ring logs a.1 x.1 in
        lay-one ring log logs a.0 p x.0
        (weave log.node x.0.merge p.order
        (x.0.done ∙ ap (λ (t : List R). own_of maker log.node t) (sym p.ring_is))
        (p.nobody log.node a.0))

    caused-throughout : (n : ℕ) (w : List (Event E R)) → Caused s0 d0 → Run (view n w) → Behind n w
    caused-throughout n w f0 x v rest is =
        let q : view n w ≡ view n v ++ view n rest = ap (λ (t : List (Event E R)). view n t) is
        ∙ filter_map-append (part n) v rest in
        subst (λ (k : List E). Caused (tally note s0 k)
        (tally deed d0 (own_of maker n (on_ring v)))) (view-noted n v)
        (subst (λ (o : List R). Caused (tally note s0 (noted_of (view n v))) (tally deed d0 o))
        (view-done n v)
        (runs-front note deed Caused s0 d0 (view n v) (view n rest) f0
        (subst (λ (t : List (Merged E R)). Run t) q x)))

    stations-are : (w : List (Event E R)) (logs : List (Log E)) → Each (Keeps w) logs
        → Each (λ (log : Log E). at_station log.node w ≡ log.entries) logs
    stations-are w [] k = tt
    stations-are w (log ∷ logs) k =
        (sym (view-noted log.node w) ∙ k.0.noted, stations-are w logs k.1)

    all-caused : Caused s0 d0 → (w : List (Event E R)) (logs : List (Log E)) → Each (Keeps w) logs
        → Each (λ (log : Log E). Behind log.node w) logs
    all-caused f0 w [] k = tt
    all-caused f0 w (log ∷ logs) k =
        (caused-throughout log.node w f0 k.0.runs, all-caused f0 w logs k.1)

    pub has-order : Caused s0 d0 → (ring : List R) (logs : List (Log E)) → HaveNodesApart logs
        → orders.EachInTime maker note deed Caused s0 d0 ring logs → OneOrder ring logs
    has-order f0 ring logs a x =
        let p = lay ring logs a x in
        record {
          order = p.order;
          ring_is = p.ring_is;
          stations = stations-are p.order logs p.each;
          nobody_else = p.nobody;
          caused = all-caused f0 p.order logs p.each;
        }
