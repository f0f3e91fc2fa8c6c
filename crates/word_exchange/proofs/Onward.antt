-- A word exchange goes on by a repetition.
use Rattle.std.proofs.Common.{◌≡◌, ℕ, Bool, true, false, List, [], ◌∷◌, ◌++◌, get_or}
use Rattle.std.proofs.Common.{map, not, Some, refl, sym, ap, subst, ◌∙◌, append_assoc}
use Rattle.std.specs.Prelude.{slice_get}
use Rattle.std.specs.List.{All, AllZip}
use Rattle.plant_types.specs.declared.plan.Plant.{Plant}
use Rattle.plant_types.specs.Plans.{controller_nodes}
use Rattle.joint_history.specs.declared.joint.Joint.{Joint}
use Rattle.serial_feed.specs.SerialRuns.{IsChain, IsRepetition}
use Rattle.serial_feed.specs.SerialRuns.{nothing_made}
use Rattle.serial_feed.proofs.SerialLemmas.{from-places, map-there, zip-at}
use Rattle.serial_feed.proofs.SerialLemmas.{all-at}
use Rattle.serial_feed.proofs.SerialLemmas.{chain-more}
use Rattle.serial_feed.specs.Standing.{are_gone, made_by, RepeatedIf, SerialIs, StandsForSome}
use Rattle.peer_cop.specs.declared.wire.Wire.{Wire}
use Rattle.word_exchange.specs.declared.feeding.WiredDrop.{WiredDrop}
use Rattle.word_exchange.specs.declared.running.WireReader.{WireReader}
use Rattle.word_exchange.specs.Counting.{counted_on, CanCount, Counts}
use Rattle.word_exchange.specs.Exchange.{before_each, plant_exchanged, script_due}
use Rattle.word_exchange.specs.Exchanging.{froms_read, AreWiredDrops, ExchangesOnce, IsExchanging}
use Rattle.word_exchange.specs.Exchanging.{CanExchangeWords, IsReaderNow, IsWiredDrop, IsWiredNow}
use Rattle.word_exchange.specs.Feeding.{rows_wanted, with_rows, AreGivenRows, CanTakeAll, StandsBy}
use Rattle.word_exchange.specs.Moments.{node_of_log, JointGoesOn}
use Rattle.word_exchange.specs.Running.{HasReadAll, ReadsOn, ReadsWhatCame, RepeatedAndRead}
use Rattle.word_exchange.specs.Scripts.{HasDropsOnce}
use Rattle.word_exchange.specs.Sendings.{sending_of}
use Rattle.word_exchange.specs.Sources.{AreFroms}
use Rattle.word_exchange.proofs.Chains.{before-last, before-next, nothing-same}
use Rattle.word_exchange.proofs.Growing.{go-on}
use Rattle.word_exchange.proofs.NextMoment.{can-count, drops-next, few-more, froms-stay, map-both}
use Rattle.word_exchange.proofs.NextMoment.{next_one, read-still, reader-next, wired-next, zip-map}
use Rattle.word_exchange.proofs.NextRows.{can-given, rows-next}
use Rattle.word_exchange.proofs.Repeating.{same-nodes}
use Rattle.word_exchange.proofs.Scripted.{plant-given}
use Rattle.word_exchange.proofs.StepsLeft.{nodes-fed, repetition-less}
use Rattle.word_exchange.proofs.Tested.{drops-once}

pub once-all : (plant : Plant) (wires : List Wire) → CanExchangeWords plant wires
    → All HasDropsOnce plant.controllers
once-all plant wires can k d within =
    drops-once (get_or plant.controllers k d) (can.tested k d within)

module _ (plant : Plant) (wires : List Wire) (scans : ℕ) (readers : List WireReader)
    (wired : List WiredDrop) (serial : SerialIs)
    (x : IsExchanging plant wires scans readers wired serial) where
  abbrev start : Joint
  start = nothing_made plant

  abbrev moments : List Joint
  moments = before_each start x.after_each

  abbrev joint : Joint
  joint = made_by serial

  abbrev later : List Joint
  later = moments ++ joint ∷ []

  abbrev fed : Plant
  fed = plant_exchanged plant wires moments

  abbrev more : Plant
  more = plant_exchanged plant wires later

  later-is : later ≡ start ∷ x.after_each
  later-is =
      before-last (IsRepetition fed scans) start x.after_each joint
      (subst (λ (first : Joint). IsChain (IsRepetition fed scans) first x.after_each joint)
      (nothing-same plant wires moments) x.stands.repetitions)

  nodes : map node_of_log joint.controllers ≡ controller_nodes plant
  nodes =
      same-nodes fed scans serial.run.rings.items fed.controllers serial.run.controllers.items
      x.stands.stands.stations.controllers
      ∙ nodes-fed plant wires moments scans

  reader-at : (k : ℕ) (r : WireReader) → slice_get readers k ≡ Some r
      → IsReaderNow plant serial later r
  reader-at k r there =
      subst (λ (l : List Joint). IsReaderNow plant serial l r) (sym later-is)
      (all-at (IsReaderNow plant serial (start ∷ x.after_each)) readers k r x.readers_are there)

  sent : All (λ (r : WireReader). r.sending ≡ sending_of plant later r.sending.wire) readers
  sent =
      from-places (λ (r : WireReader). r.sending ≡ sending_of plant later r.sending.wire) readers
      (λ k r there. (reader-at k r there).sending)

  -- ---- rows are given

  pub can-take : CanTakeAll wired serial
  can-take = record {
    plant = fed;
    scans = scans;
    stands = x.stands.stands;
    each = λ k d within few.
        can-given plant wires (froms_read readers) moments joint x.can nodes (get_or wired k d)
        (x.drops.each k d within) (x.wired_are k d within) few;
    apart = x.drops.apart;
  }

  rows : All (λ (one : WiredDrop).
      script_due plant wires one.plan.now one.drop.now moments ++ rows_wanted readers one
      ≡ script_due plant wires one.plan.now one.drop.now later) wired
  rows k d within =
      rows-next plant wires readers moments joint (get_or wired k d) x.can x.froms sent
      (x.drops.each k d within) (x.wired_are k d within)

  module _ (given_wired : List WiredDrop) (mid : SerialIs)
      (given : AreGivenRows readers wired given_wired serial mid) where
    mid-stands : StandsBy more scans x.after_each mid
    mid-stands =
        subst (λ (p : Plant). StandsBy p scans x.after_each mid)
        (plant-given plant wires (froms_read readers) wired x.can.runs.sound
        (once-all plant wires x.can) x.drops readers moments later rows)
        (given.stands fed scans x.after_each x.stands)

    pub mid-some : StandsForSome mid
    mid-some = record { plant = more; scans = scans; stands = mid-stands.stands }

    pub mid-read : All (HasReadAll mid) readers
    mid-read k d within =
        read-still serial mid (get_or readers k d) given.made (x.readers_are k d within).read

    -- ---- a repetition is made, and read

    module _ (new : SerialIs) (goes_on : Bool) (new_readers : List WireReader)
        (left : are_gone serial ≡ false)
        (repeated : RepeatedAndRead mid new goes_on readers new_readers) where
      abbrev after : List Joint
      after = x.after_each ++ made_by new ∷ []

      made-mid : IsRepetition more scans (made_by mid) (made_by new)
      made-mid =
          subst (λ (b : Bool). RepeatedIf b more scans (made_by mid) (made_by new))
          (given.gone ∙ left) (repeated.turned.made more scans mid-stands.stands)

      made-now : IsRepetition more scans joint (made_by new)
      made-now = subst (λ (j : Joint). IsRepetition more scans j (made_by new)) given.made made-mid

      grown : JointGoesOn joint (made_by new)
      grown = go-on more scans joint (made_by new)
          (nodes ∙ sym (nodes-fed plant wires later scans)) made-now

      pub all-can-count : All (CanCount new) given_wired
      all-can-count =
          subst (λ (l : List WiredDrop). All (CanCount new) l) (sym given.wired_are)
          (from-places (CanCount new) (map (with_rows readers) wired) (λ k y there.
          let from = map-there (with_rows readers) wired k y there in
          subst (CanCount new) from.2
          (can-count plant wires readers moments new joint from.0
          (all-at (IsWiredNow plant wires moments joint) wired k from.0 x.wired_are from.1)
          (grown.entries from.0.plan.now.node))))

      -- ---- the next moment

      before-is : before_each start after ≡ later
      before-is = before-next start x.after_each (made_by new) ∙ sym later-is

      stands-now : StandsBy (plant_exchanged plant wires (before_each start after)) scans after new
      stands-now =
          subst (λ (l : List Joint). StandsBy (plant_exchanged plant wires l) scans after new)
          (sym before-is)
          (record {
            stands = repeated.turned.stands more scans mid-stands.stands;
            repetitions = chain-more (IsRepetition more scans) (nothing_made more) (made_by mid)
                (made_by new) x.after_each mid-stands.repetitions made-mid;
          })

      all-moments : moments ++ made_by mid ∷ made_by new ∷ [] ≡ start ∷ after
      all-moments =
          (λ i. moments ++ given.made i ∷ made_by new ∷ [])
          ∙ sym (append_assoc moments (joint ∷ []) (made_by new ∷ []))
          ∙ ap (λ (l : List Joint). l ++ made_by new ∷ []) later-is

      readers-now : All (IsReaderNow plant new (start ∷ after)) new_readers
      readers-now =
          from-places (IsReaderNow plant new (start ∷ after)) new_readers (λ k y there.
          let from = zip-at (ReadsOn new) readers new_readers k y repeated.read there in
          let reader = from.0 in
          subst (λ (l : List Joint). IsReaderNow plant new l y) all-moments
          (reader-next plant moments serial mid new reader y
          (subst (λ (j : Joint). IsReaderNow plant serial (moments ++ j ∷ []) reader)
          (sym given.made) (reader-at k reader from.1))
          (all-at (ReadsWhatCame mid new) readers k reader repeated.came from.1) from.2))

      module _ (new_wired : List WiredDrop)
          (counted : AllZip (Counts new) given_wired new_wired) where
        wired-is : new_wired ≡ map (next_one readers new) wired
        wired-is =
            zip-map (counted_on new) given_wired new_wired counted
            ∙ ap (map (counted_on new)) given.wired_are
            ∙ map-both (with_rows readers) (counted_on new) wired

        same-froms : froms_read new_readers ≡ froms_read readers
        same-froms = froms-stay new readers new_readers repeated.read

        drops-now : AreWiredDrops plant wires (froms_read new_readers) new_wired
        drops-now =
            subst (λ (l : List WiredDrop). AreWiredDrops plant wires (froms_read new_readers) l)
            (sym wired-is)
            (subst (λ (l : List Wire).
            AreWiredDrops plant wires l (map (next_one readers new) wired)) (sym same-froms)
            (drops-next readers new plant wires (froms_read readers) wired x.drops))

        one-now : (k : ℕ) (one : WiredDrop) → slice_get wired k ≡ Some one
            → IsWiredNow plant wires later (made_by new) (next_one readers new one)
        one-now k one there =
            let is = all-at (IsWiredDrop plant wires (froms_read readers)) wired k one x.drops.each
            there in
            wired-next plant wires readers moments new joint one is.inputs
            (all-at (IsWiredNow plant wires moments joint) wired k one x.wired_are there)
            (grown.entries one.plan.now.node)
            (few-more plant wires later scans joint (made_by new) nodes made-now one.plan.now
            one.drop.now.number is.at.plan_is)
            (all-at (λ (w : WiredDrop).
            script_due plant wires w.plan.now w.drop.now moments ++ rows_wanted readers w
            ≡ script_due plant wires w.plan.now w.drop.now later) wired k one rows there)

        wired-now : All (IsWiredNow plant wires (before_each start after) (made_by new)) new_wired
        wired-now =
            subst (λ (l : List WiredDrop).
            All (IsWiredNow plant wires (before_each start after) (made_by new)) l) (sym wired-is)
            (subst (λ (l : List Joint).
            All (IsWiredNow plant wires l (made_by new)) (map (next_one readers new) wired))
            (sym before-is)
            (from-places (IsWiredNow plant wires later (made_by new))
            (map (next_one readers new) wired) (λ k y there.
            let from = map-there (next_one readers new) wired k y there in
            subst (IsWiredNow plant wires later (made_by new)) from.2 (one-now k from.0 from.1))))

        pub exchanged-once : ExchangesOnce plant wires scans new_readers new_wired serial new goes_on
        exchanged-once = record {
          now = record {
            can = x.can;
            after_each = after;
            stands = stands-now;
            froms = subst (AreFroms wires) (sym same-froms) x.froms;
            readers_are = readers-now;
            drops = drops-now;
            wired_are = wired-now;
          };
          goes_on_is = repeated.turned.goes_on_is;
          less = repetition-less plant wires later scans joint (made_by new) x.can.runs.sound nodes
              made-now;
        }

-- ---- whether scans are left

pub not-gone : (gone goes_on : Bool) → goes_on ≡ true → goes_on ≡ not gone → gone ≡ false
not-gone true goes_on on is = absurd cc
not-gone false goes_on on is = refl

pub all-gone : (gone goes_on : Bool) → goes_on ≡ false → goes_on ≡ not gone → gone ≡ true
all-gone true goes_on over is = refl
all-gone false goes_on over is = absurd cc
