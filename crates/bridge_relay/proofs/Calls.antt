-- How often each call of a bridge went out and ended.
use Rattle.std.proofs.Common.{◌≡◌, ◌≢◌, ◌⊎◌, ◌<◌, ◌+◌, ◌-◌, ℕ, ◌==◌, ◌&&◌, Bool, true, false}
use Rattle.std.proofs.Common.{List, [], ◌∷◌, ◌++◌, cond, refl, sym, ap, ◌∙◌, subst, inl, inr}
use Rattle.std.proofs.Common.{Some, None, arith, is_some, length, get_or, set, append_assoc}
use Rattle.std.proofs.Common.{append-nil}
use Rattle.std.proofs.lemmas.Bool.{cases_Bool, cases_eq, eq-eqb, eqb-true, ne_eqb, and_parts}
use Rattle.std.proofs.lemmas.Bool.{not-true, true≢false}
use Rattle.std.proofs.lemmas.List.{get_or-set_same, get_or-set_other, length-set}
use Rattle.std.proofs.lemmas.List.Sums.{sum_by_push, sum_by-cons}
use Rattle.std.specs.List.{count_by, AllByRecursion}
use Rattle.plant_types.specs.declared.net.BridgePlan.{BridgePlan}
use Rattle.plant_types.specs.Plans.{IsBridgePlan}
use Rattle.ring_core.specs.MstrBlock.{is_same_call, CallId}
use Rattle.ring_core.specs.Legal.{IsPath}
use Rattle.bridge_relay.specs.declared.entry.BridgeEntry.{BridgeEntry}
use Rattle.bridge_relay.specs.declared.entry.BridgeEntry.TheVariants.{Accept, Forward, Finish}
use Rattle.bridge_relay.specs.declared.entry.BridgeEntry.TheVariants.{Back, Gone}
use Rattle.bridge_relay.specs.declared.entry.RelayResult.{RelayResult}
use Rattle.bridge_relay.specs.Machine.{RelayPath, out_call, relay_path, unused_path, side_of}
use Rattle.bridge_relay.specs.Machine.{relay_after, near_end, new_end}
use Rattle.bridge_relay.specs.Legal.{IsEnd, IsBridgeHistory, IsBridgeStep, is_network_path}
use Rattle.bridge_relay.specs.Laws.{end_after, sends_on_path, sends_call, ends_call}
use Rattle.bridge_relay.specs.Laws.{NumbersCount, ForwardsMakeNewCalls, CallsAreMadeOnce}
use Rattle.bridge_relay.specs.Laws.{CallsOutAreUnderWay, FinishesEndCalls}
use Rattle.bridge_relay.proofs.Legal.{forward_made}
use Rattle.bridge_relay.proofs.Parts.{Part, part_of, own_step, part_step, side_step, first_part}
use Rattle.bridge_relay.proofs.Parts.{all_steps}
use Rattle.bridge_relay.proofs.Paths.{known_path, path_known, at_path}
use Rattle.bridge_relay.proofs.Steps.{after_more}
use Rattle.bridge_relay.proofs.Tally.{Tally, tally_sent, tally_ended, tally_first, sent_once, share}

-- a path of an end after entries
abbrev pub path_in : BridgePlan → List BridgeEntry → ℕ → ℕ → RelayPath
path_in plan history side path = relay_path (end_after plan history side) path

-- what the entries so far tell of a call of an end
pub record Told (plan : BridgePlan) (history : List BridgeEntry) (side : ℕ) (id : CallId)
    : Type 0 where
  pub four : length (end_after plan history side).paths ≡ 4
  pub last : (path_in plan history side id.path).last
      ≡ count_by (sends_on_path side id.path) history
  pub tally : Tally (path_in plan history side id.path) id.seq
      (count_by (sends_call id) history) (count_by (ends_call id) history)

-- a call that an end could make
pub record IsOwnCall (plan : BridgePlan) (side : ℕ) (id : CallId) : Type 0 where
  pub end : IsEnd plan side
  pub node : id.node ≡ side
  pub is_path : IsPath id.path

tally_as : (path other : RelayPath) (seq sent sent' ended ended' : ℕ) → other ≡ path
    → sent' ≡ sent → ended' ≡ ended → Tally path seq sent ended → Tally other seq sent' ended'
tally_as path other seq sent sent' ended ended' same one two tally =
    subst (λ p. Tally p seq sent' ended') (sym same)
    (subst (λ n. Tally path seq n ended') (sym one)
    (subst (λ n. Tally path seq sent n) (sym two) tally))

-- counts with one entry more
count_more : (test : BridgeEntry → Bool) (history : List BridgeEntry) (entry : BridgeEntry)
    (b : Bool)
    → test entry ≡ b → count_by test (history ++ entry ∷ []) ≡ count_by test history + cond b 1 0
count_more test history entry b is =
    sum_by_push (λ e. cond (test e) 1 0) history entry
    ∙ ap (λ b. count_by test history + cond b 1 0) is

count_same : (test : BridgeEntry → Bool) (history : List BridgeEntry) (entry : BridgeEntry)
    → test entry ≡ false → count_by test (history ++ entry ∷ []) ≡ count_by test history
count_same test history entry is =
    let more : count_by test (history ++ entry ∷ []) ≡ count_by test history + 0 =
    count_more test history entry false is in
    omega arith

-- the part of an end with one entry more
part_more : (plan : BridgePlan) (history : List BridgeEntry) (side : ℕ) (entry : BridgeEntry)
    → IsBridgePlan plan → IsEnd plan side → IsEnd plan (side_of entry)
    → part_of (end_after plan (history ++ entry ∷ []) side)
    ≡ own_step side (part_of (end_after plan history side)) entry
part_more plan history side entry sound is made =
    ap (λ r. part_of (near_end plan r side)) (after_more plan history entry)
    ∙ side_step plan (relay_after plan history) side entry sound is made

-- an entry that says nothing of a call or its path
record IsQuiet (side : ℕ) (id : CallId) (entry : BridgeEntry) : Type 0 where
  on_path : sends_on_path side id.path entry ≡ false
  sends : sends_call id entry ≡ false
  ends : ends_call id entry ≡ false

told_quiet : (plan : BridgePlan) (history : List BridgeEntry) (side : ℕ) (id : CallId)
    (entry : BridgeEntry)
    → Told plan history side id → IsQuiet side id entry
    → length (end_after plan (history ++ entry ∷ []) side).paths
    ≡ length (end_after plan history side).paths
    → path_in plan (history ++ entry ∷ []) side id.path ≡ path_in plan history side id.path
    → Told plan (history ++ entry ∷ []) side id
told_quiet plan history side id entry told quiet same here = record {
  four = same ∙ told.four;
  last = ap (λ (p : RelayPath). p.last) here ∙ told.last
      ∙ sym (count_same (sends_on_path side id.path) history entry quiet.on_path);
  tally = tally_as _ _ id.seq _ _ _ _ here
      (count_same (sends_call id) history entry quiet.sends)
      (count_same (ends_call id) history entry quiet.ends) told.tally;
}

-- where an entry changes no path
told_still : (plan : BridgePlan) (history : List BridgeEntry) (side : ℕ) (id : CallId)
    (entry : BridgeEntry)
    → Told plan history side id → IsQuiet side id entry
    → (end_after plan (history ++ entry ∷ []) side).paths ≡ (end_after plan history side).paths
    → Told plan (history ++ entry ∷ []) side id
told_still plan history side id entry told quiet same =
    told_quiet plan history side id entry told quiet (ap length same)
    (ap (λ l. get_or l (id.path - 1) unused_path) same)

-- where it sets another path
told_beside : (plan : BridgePlan) (history : List BridgeEntry) (side : ℕ) (id : CallId)
    (entry : BridgeEntry) (path : ℕ) (now : RelayPath)
    → Told plan history side id → IsQuiet side id entry
    → IsPath path → IsPath id.path → path ≢ id.path
    → (end_after plan (history ++ entry ∷ []) side).paths
    ≡ set (end_after plan history side).paths (path - 1) now
    → Told plan (history ++ entry ∷ []) side id
told_beside plan history side id entry path now told quiet one other apart set_is =
    let paths = (end_after plan history side).paths in
    told_quiet plan history side id entry told quiet
    (ap length set_is ∙ length-set paths (path - 1) now)
    (ap (λ l. get_or l (id.path - 1) unused_path) set_is
    ∙ get_or-set_other paths (path - 1) (id.path - 1) now unused_path
    (λ e. apart (omega (arith, e))))

-- what is set on the path of a call
set_here : (plan : BridgePlan) (history more : List BridgeEntry) (side path at : ℕ)
    (now : RelayPath)
    → length (end_after plan history side).paths ≡ 4 → IsPath at → at ≡ path
    → (end_after plan more side).paths ≡ set (end_after plan history side).paths (at - 1) now
    → path_in plan more side path ≡ now
set_here plan history more side path at now four is same set_is =
    let paths = (end_after plan history side).paths in
    let within : at - 1 < length paths = omega arith in
    ap (λ l. get_or l (path - 1) unused_path) set_is
    ∙ ap (λ n. get_or (set paths (at - 1) now) (n - 1) unused_path) (sym same)
    ∙ get_or-set_same paths (at - 1) now unused_path within

-- names by their parts
same_call : (one other : CallId) → one.node ≡ other.node → one.path ≡ other.path
    → is_same_call one other ≡ (one.seq == other.seq)
same_call one other node path =
    ap (λ b. b && ((one.path == other.path) && (one.seq == other.seq)))
    (eq-eqb one.node other.node node)
    ∙ ap (λ b. b && (one.seq == other.seq)) (eq-eqb one.path other.path path)

other_node : (one other : CallId) → one.node ≢ other.node → is_same_call one other ≡ false
other_node one other apart =
    ap (λ b. b && ((one.path == other.path) && (one.seq == other.seq)))
    (ne_eqb one.node other.node apart)

other_path : (one other : CallId) → one.path ≢ other.path → is_same_call one other ≡ false
other_path one other apart = elim (cases_Bool (is_same_call one other)) [
  | inl is ↦ absurd (apart (eqb-true one.path other.path
      (and_parts _ _ (and_parts (one.node == other.node) _ is).1).0))
  | inr is ↦ is
]

-- an entry of the other end
by_other : (side : ℕ) (id : CallId) (plan : BridgePlan) (past : List BridgeEntry)
    (entry : BridgeEntry)
    → id.node ≡ side → side_of entry ≢ side → IsBridgeStep plan past entry → IsQuiet side id entry
by_other side id plan past (Accept by i route request) node apart step =
    record { on_path = refl; sends = refl; ends = refl }
by_other side id plan past (Forward by old i route request) node apart step =
    let made = forward_made plan past by old i route request step.fits in
    let named : i.node ≡ by = ap (λ (c : CallId). c.node) made.id_is in
    record {
      on_path = ap (λ b. b && (i.path == id.path)) (ne_eqb by side apart);
      sends = other_node i id (λ e. apart (sym named ∙ e ∙ node));
      ends = refl;
    }
by_other side id plan past (Finish by i outcome) node apart step =
    let named : i.node ≡ by =
    eqb-true i.node by (and_parts _ _ (and_parts _ _ step.fits).0).0 in
    record {
      on_path = refl;
      sends = refl;
      ends = other_node i id (λ e. apart (sym named ∙ e ∙ node));
    }
by_other side id plan past (Back by i reply) node apart step =
    record { on_path = refl; sends = refl; ends = refl }
by_other side id plan past (Gone by) node apart step =
    record { on_path = refl; sends = refl; ends = refl }

-- the part behind an entry of its own end
own_part : (plan : BridgePlan) (history : List BridgeEntry) (entry : BridgeEntry)
    → IsBridgePlan plan → IsEnd plan (side_of entry)
    → part_of (end_after plan (history ++ entry ∷ []) (side_of entry))
    ≡ part_step (part_of (end_after plan history (side_of entry))) entry
own_part plan history entry sound made =
    let part = part_of (end_after plan history (side_of entry)) in
    part_more plan history (side_of entry) entry sound made made
    ∙ ap (λ b. cond b (part_step part entry) part) (eq-eqb (side_of entry) (side_of entry) refl)

-- behind a Forward of its own end
told_forward : (plan : BridgePlan) (history : List BridgeEntry) (side : ℕ) (id old i : CallId)
    (route request : List ℕ)
    → IsBridgePlan plan → IsOwnCall plan side id → Told plan history side id
    → IsBridgeStep plan history (Forward side old i route request)
    → Told plan (history ++ Forward side old i route request ∷ []) side id
told_forward plan history side id old i route request sound own told step =
    let entry : BridgeEntry = Forward side old i route request in
    let more = history ++ entry ∷ [] in
    let made = forward_made plan history side old i route request step.fits in
    let call = out_call old request in
    let now : RelayPath = record { last = i.seq; out = Some call } in
    let set_is : (end_after plan more side).paths
    ≡ set (end_after plan history side).paths (i.path - 1) now =
    ap (λ (p : Part). p.paths) (own_part plan history entry sound own.end) in
    elim (cases_eq i.path id.path) [
      | inl here ↦
          let path = path_in plan history side id.path in
          let at : path_in plan history side i.path ≡ path =
          ap (path_in plan history side) here in
          let free : is_some path.out ≡ false =
          ap (λ (p : RelayPath). is_some p.out) (sym at)
          ∙ not-true _ (and_parts _ _ made.path.free).0 in
          let next : i.seq ≡ path.last + 1 =
          ap (λ (c : CallId). c.seq) made.id_is ∙ ap (λ (p : RelayPath). p.last + 1) at in
          let node : i.node ≡ id.node = ap (λ (c : CallId). c.node) made.id_is ∙ sym own.node in
          let now_is = set_here plan history more side id.path i.path now told.four
          made.path.is_path here set_is in
          let on : sends_on_path side id.path entry ≡ true =
          ap (λ b. b && (i.path == id.path)) (eq-eqb side side refl)
          ∙ eq-eqb i.path id.path here in
          let counted : count_by (sends_on_path side id.path) more
          ≡ count_by (sends_on_path side id.path) history + 1 =
          count_more (sends_on_path side id.path) history entry true on in
          let last = told.last in
          record {
            four = ap length set_is
                ∙ length-set (end_after plan history side).paths (i.path - 1) now ∙ told.four;
            last = ap (λ (p : RelayPath). p.last) now_is ∙ next ∙ ap (λ n. n + 1) last
                ∙ sym counted;
            tally = tally_as now _ id.seq _ _ _ _ now_is
                (count_more (sends_call id) history entry (i.seq == id.seq)
                (same_call i id node here))
                (count_same (ends_call id) history entry refl)
                (tally_sent path id.seq _ _ i.seq call told.tally free next);
          }
      | inr apart ↦
          let quiet : IsQuiet side id entry = record {
            on_path = ap (λ b. b && (i.path == id.path)) (eq-eqb side side refl)
                ∙ ne_eqb i.path id.path apart;
            sends = other_path i id apart;
            ends = refl;
          } in
          told_beside plan history side id entry i.path now told quiet made.path.is_path own.is_path
          apart set_is
    ]

-- behind a Finish of its own end
told_finish : (plan : BridgePlan) (history : List BridgeEntry) (side : ℕ) (id i : CallId)
    (outcome : RelayResult)
    → IsBridgePlan plan → IsOwnCall plan side id → Told plan history side id
    → IsBridgeStep plan history (Finish side i outcome)
    → Told plan (history ++ Finish side i outcome ∷ []) side id
told_finish plan history side id i outcome sound own told step =
    let entry : BridgeEntry = Finish side i outcome in
    let more = history ++ entry ∷ [] in
    let named = and_parts _ _ (and_parts _ _ step.fits).0 in
    let out = and_parts _ _ (and_parts _ _ step.fits).1 in
    let is_path = known_path i.path named.1 in
    let now : RelayPath = record (path_in plan history side i.path) { out = None } in
    let set_is : (end_after plan more side).paths
    ≡ set (end_after plan history side).paths (i.path - 1) now =
    ap (λ (p : Part). p.paths) (own_part plan history entry sound own.end) in
    elim (cases_eq i.path id.path) [
      | inl here ↦
          let path = path_in plan history side id.path in
          let at : path_in plan history side i.path ≡ path =
          ap (path_in plan history side) here in
          let taken : is_some path.out ≡ true =
          ap (λ (p : RelayPath). is_some p.out) (sym at) ∙ out.0 in
          let last : path.last ≡ i.seq =
          ap (λ (p : RelayPath). p.last) (sym at) ∙ eqb-true _ _ out.1 in
          let node : i.node ≡ id.node = eqb-true i.node side named.0 ∙ sym own.node in
          let now_is = set_here plan history more side id.path i.path now told.four is_path here
          set_is
          ∙ ap (λ (p : RelayPath). record p { out = None }) at in
          record {
            four = ap length set_is
                ∙ length-set (end_after plan history side).paths (i.path - 1) now ∙ told.four;
            last = ap (λ (p : RelayPath). p.last) now_is ∙ told.last
                ∙ sym (count_same (sends_on_path side id.path) history entry refl);
            tally = tally_as (record path { out = None }) _ id.seq _ _ _ _ now_is
                (count_same (sends_call id) history entry refl)
                (count_more (ends_call id) history entry (i.seq == id.seq)
                (same_call i id node here))
                (tally_ended path id.seq _ _ i.seq told.tally taken last);
          }
      | inr apart ↦
          let quiet : IsQuiet side id entry = record {
            on_path = refl;
            sends = refl;
            ends = other_path i id apart;
          } in
          told_beside plan history side id entry i.path now told quiet is_path own.is_path apart
          set_is
    ]

-- behind any entry
told_own : (plan : BridgePlan) (history : List BridgeEntry) (side : ℕ) (id : CallId)
    (entry : BridgeEntry)
    → IsBridgePlan plan → IsOwnCall plan side id → Told plan history side id
    → IsBridgeStep plan history entry → side_of entry ≡ side
    → Told plan (history ++ entry ∷ []) side id
told_own plan history side id (Accept by i route request) sound own told step here =
    told_still plan history side id (Accept by i route request) told
    (record { on_path = refl; sends = refl; ends = refl })
    (subst (λ n. (end_after plan (history ++ Accept by i route request ∷ []) n).paths
    ≡ (end_after plan history n).paths) here
    (ap (λ (p : Part). p.paths)
    (own_part plan history (Accept by i route request) sound step.side.end)))
told_own plan history side id (Forward by old i route request) sound own told step here =
    subst (λ n. IsBridgeStep plan history (Forward n old i route request)
    → Told plan (history ++ Forward n old i route request ∷ []) side id) (sym here)
    (told_forward plan history side id old i route request sound own told) step
told_own plan history side id (Finish by i outcome) sound own told step here =
    subst (λ n. IsBridgeStep plan history (Finish n i outcome)
    → Told plan (history ++ Finish n i outcome ∷ []) side id) (sym here)
    (told_finish plan history side id i outcome sound own told) step
told_own plan history side id (Back by i reply) sound own told step here =
    told_still plan history side id (Back by i reply) told
    (record { on_path = refl; sends = refl; ends = refl })
    (subst (λ n. (end_after plan (history ++ Back by i reply ∷ []) n).paths
    ≡ (end_after plan history n).paths) here
    (ap (λ (p : Part). p.paths) (own_part plan history (Back by i reply) sound step.side.end)))
told_own plan history side id (Gone by) sound own told step here =
    told_still plan history side id (Gone by) told
    (record { on_path = refl; sends = refl; ends = refl })
    (subst (λ n. (end_after plan (history ++ Gone by ∷ []) n).paths
    ≡ (end_after plan history n).paths) here
    (ap (λ (p : Part). p.paths) (own_part plan history (Gone by) sound step.side.end)))

told_more : (plan : BridgePlan) (history : List BridgeEntry) (side : ℕ) (id : CallId)
    (entry : BridgeEntry)
    → IsBridgePlan plan → IsOwnCall plan side id → Told plan history side id
    → IsBridgeStep plan history entry
    → Told plan (history ++ entry ∷ []) side id
told_more plan history side id entry sound own told step =
    let part = part_of (end_after plan history side) in
    elim (cases_eq (side_of entry) side) [
      | inl here ↦ told_own plan history side id entry sound own told step here
      | inr apart ↦
          told_still plan history side id entry told
          (by_other side id plan history entry own.node apart step)
          (ap (λ (p : Part). p.paths)
          (part_more plan history side entry sound own.end step.side.end
          ∙ ap (λ b. cond b (part_step part entry) part) (ne_eqb (side_of entry) side apart)))
    ]

told_from : (plan : BridgePlan) (side : ℕ) (id : CallId) (before history : List BridgeEntry)
    → IsBridgePlan plan → IsOwnCall plan side id → IsBridgeHistory plan (before ++ history)
    → Told plan before side id → Told plan (before ++ history) side id
told_from plan side id before [] sound own legal told =
    subst (λ l. Told plan l side id) (sym (append-nil before)) told
told_from plan side id before (entry ∷ history) sound own legal told =
    let joined = append_assoc before (entry ∷ []) history in
    subst (λ l. Told plan l side id) joined
    (told_from plan side id (before ++ entry ∷ []) history sound own
    (subst (IsBridgeHistory plan) (sym joined) legal)
    (told_more plan before side id entry sound own told (legal before history entry refl)))

-- at first no call went out
told_first : (plan : BridgePlan) (side : ℕ) (id : CallId) → IsPath id.path → Told plan [] side id
told_first plan side id path =
    let same : (end_after plan [] side).paths ≡ new_end.paths =
    ap (λ (p : Part). p.paths) (first_part plan side) in
    let here : path_in plan [] side id.path ≡ unused_path =
    ap (λ l. get_or l (id.path - 1) unused_path) same
    ∙ at_path (λ n. get_or new_end.paths (n - 1) unused_path ≡ unused_path) id.path path refl refl
    refl refl in
    record {
      four = ap length same;
      last = ap (λ (p : RelayPath). p.last) here;
      tally = tally_as unused_path _ id.seq _ _ _ _ here refl refl (tally_first id.seq);
    }

pub told : (plan : BridgePlan) (history : List BridgeEntry) (side : ℕ) (id : CallId)
    → IsBridgePlan plan → IsOwnCall plan side id → IsBridgeHistory plan history
    → Told plan history side id
told plan history side id sound own legal =
    told_from plan side id [] history sound own legal (told_first plan side id own.is_path)

pub numbers_count : NumbersCount
numbers_count plan history side path sound legal is is_path =
    let id : CallId = record { node = side; path = path; seq = 0 } in
    (told plan history side id sound
    (record { end = is; node = refl; is_path = is_path }) legal).last

-- what stands before an entry of a legal history is legal
legal_before : (plan : BridgePlan) (history before rest : List BridgeEntry)
    → IsBridgeHistory plan history → history ≡ before ++ rest → IsBridgeHistory plan before
legal_before plan history before rest legal is first after entry there =
    legal first (after ++ rest) entry
    (is ∙ ap (λ l. l ++ rest) there ∙ append_assoc first (entry ∷ after) rest)

pub new_calls : ForwardsMakeNewCalls
new_calls plan history before after side old id route request sound legal is =
    let entry : BridgeEntry = Forward side old id route request in
    let step = legal before after entry is in
    let made = forward_made plan before side old id route request step.fits in
    let node : id.node ≡ side = ap (λ (c : CallId). c.node) made.id_is in
    let past = legal_before plan history before (entry ∷ after) legal is in
    let own : IsOwnCall plan side id =
    record { end = step.side.end; node = node; is_path = made.path.is_path } in
    record {
      node = node;
      path = made.path.is_path;
      number = ap (λ (c : CallId). c.seq) made.id_is
          ∙ ap (λ n. n + 1) (told plan before side id sound own past).last;
    }

-- a call of no end, or on no path, does not go out
none_counts : (test : BridgeEntry → Bool) (history : List BridgeEntry)
    → AllByRecursion (λ e. test e ≡ false) history → count_by test history ≡ 0
none_counts test [] none = refl
none_counts test (entry ∷ history) none =
    let first : cond {A = ℕ} (test entry) 1 0 ≡ 0 = ap (λ b. cond b 1 0) none.0 in
    let rest = none_counts test history none.1 in
    sum_by-cons (λ e. cond (test e) 1 0) entry history ∙ omega arith

-- a call that goes out or ends is one that an end could make
record IsNamed (plan : BridgePlan) (id : CallId) : Type 0 where
  end : IsEnd plan id.node
  is_path : IsPath id.path

same_parts : (one other : CallId) → is_same_call one other ≡ true
    → (one.node ≡ other.node) × (one.path ≡ other.path)
same_parts one other is =
    let both = and_parts (one.node == other.node) _ is in
    (eqb-true _ _ both.0, eqb-true _ _ (and_parts (one.path == other.path) _ both.1).0)

named_as : (plan : BridgePlan) (one other : CallId) → IsNamed plan one
    → is_same_call one other ≡ true → IsNamed plan other
named_as plan one other named is =
    let same = same_parts one other is in
    record {
      end = subst (IsEnd plan) same.0 named.end;
      is_path = subst IsPath same.1 named.is_path;
    }

no_call : (plan : BridgePlan) (one other : CallId) → IsNamed plan one
    → (IsNamed plan other → ⊥) → is_same_call one other ≡ false
no_call plan one other named none = elim (cases_Bool (is_same_call one other)) [
  | inl is ↦ absurd (none (named_as plan one other named is))
  | inr is ↦ is
]

forward_named : (plan : BridgePlan) (past : List BridgeEntry) (by : ℕ) (old i : CallId)
    (route request : List ℕ)
    → IsBridgeStep plan past (Forward by old i route request) → IsNamed plan i
forward_named plan past by old i route request step =
    let made = forward_made plan past by old i route request step.fits in
    record {
      end = subst (IsEnd plan) (sym (ap (λ (c : CallId). c.node) made.id_is)) step.side.end;
      is_path = made.path.is_path;
    }

finish_named : (plan : BridgePlan) (past : List BridgeEntry) (by : ℕ) (i : CallId)
    (outcome : RelayResult)
    → IsBridgeStep plan past (Finish by i outcome) → IsNamed plan i
finish_named plan past by i outcome step =
    let named = and_parts _ _ (and_parts _ _ step.fits).0 in
    record {
      end = subst (IsEnd plan) (sym (eqb-true i.node by named.0)) step.side.end;
      is_path = known_path i.path named.1;
    }

not_sent : (plan : BridgePlan) (id : CallId) → (IsNamed plan id → ⊥) → (past : List BridgeEntry)
    (entry : BridgeEntry)
    → IsBridgeStep plan past entry → sends_call id entry ≡ false
not_sent plan id none past (Accept by i route request) step = refl
not_sent plan id none past (Forward by old i route request) step =
    no_call plan i id (forward_named plan past by old i route request step) none
not_sent plan id none past (Finish by i outcome) step = refl
not_sent plan id none past (Back by i reply) step = refl
not_sent plan id none past (Gone by) step = refl

not_ended : (plan : BridgePlan) (id : CallId) → (IsNamed plan id → ⊥) → (past : List BridgeEntry)
    (entry : BridgeEntry)
    → IsBridgeStep plan past entry → ends_call id entry ≡ false
not_ended plan id none past (Accept by i route request) step = refl
not_ended plan id none past (Forward by old i route request) step = refl
not_ended plan id none past (Finish by i outcome) step =
    no_call plan i id (finish_named plan past by i outcome step) none
not_ended plan id none past (Back by i reply) step = refl
not_ended plan id none past (Gone by) step = refl

named_or_not : (plan : BridgePlan) (id : CallId) → IsNamed plan id ⊎ (IsNamed plan id → ⊥)
named_or_not plan id = elim (cases_Bool (is_network_path id.path)) [
  | inl path ↦ elim (cases_eq id.node plan.left) [
    | inl left ↦ inl (record { end = inl left; is_path = known_path id.path path })
    | inr a ↦ elim (cases_eq id.node plan.right) [
      | inl right ↦ inl (record { end = inr right; is_path = known_path id.path path })
      | inr b ↦ inr (λ named. elim named.end [ inl e ↦ a e | inr e ↦ b e ])
    ]
  ]
  | inr none ↦ inr (λ named. true≢false (sym (path_known id.path named.is_path) ∙ none))
]

pub calls_once : CallsAreMadeOnce
calls_once plan history id sound legal = elim (named_or_not plan id) [
  | inl named ↦
      let own : IsOwnCall plan id.node id =
      record { end = named.end; node = refl; is_path = named.is_path } in
      let tally = (told plan history id.node id sound own legal).tally in
      let few = sent_once _ _ _ _ tally in
      let under = tally.under in
      record { sent = few; ended = omega arith }
  | inr none ↦
      let sent = none_counts (sends_call id) history
      (all_steps plan (λ e. sends_call id e ≡ false) (not_sent plan id none) [] history legal) in
      let ended = none_counts (ends_call id) history
      (all_steps plan (λ e. ends_call id e ≡ false) (not_ended plan id none) [] history legal) in
      record { sent = omega arith; ended = omega arith }
]

pub calls_under_way : CallsOutAreUnderWay
calls_under_way plan history side id sound legal is out =
    let parts = and_parts ((id.node == side) && is_network_path id.path) _ out in
    let named = and_parts (id.node == side) _ parts.0 in
    let node = eqb-true id.node side named.0 in
    let is_path = known_path id.path named.1 in
    let tally = (told plan history side id sound
    (record { end = is; node = node; is_path = is_path }) legal).tally in
    let here : share (path_in plan history side id.path) id.seq ≡ 1 =
    ap (λ b. cond b 1 0) parts.1 in
    let few = sent_once _ _ _ _ tally in
    let under = tally.under in
    record { node = node; path = is_path; sent = omega arith; ended = omega arith }

pub finishes_end : FinishesEndCalls
finishes_end plan history before after side id outcome sound legal is =
    let entry : BridgeEntry = Finish side id outcome in
    let step = legal before after entry is in
    calls_under_way plan before side id sound
    (legal_before plan history before (entry ∷ after) legal is) step.side.end step.fits
