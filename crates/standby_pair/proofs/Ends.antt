-- The whole text of a primary and its standby, and the history at its end.
use Rattle.std.proofs.Common.{◌≡◌, ℕ, ◌+◌, ◌-◌, ◌<◌, ◌≤◌, false, List}
use Rattle.std.proofs.Common.{◌++◌, length, drop, take, get_or, map, sym, ap, subst, ◌∙◌}
use Rattle.std.proofs.Common.{append_assoc, arith, ⊎_elim}
use Rattle.std.specs.Prelude.{filter_map}
use Rattle.std.specs.List.{AllByRecursion, flat_map, range_with_len, slice_split}
use Rattle.std.proofs.lemmas.Bool.{cases_lt}
use Rattle.std.proofs.lemmas.Grind.{flat_map-append}
use Rattle.std.proofs.lemmas.List.{drop-map, get_or-take, length-drop, length-map, length-take}
use Rattle.std.proofs.lemmas.List.{take-append-drop, take-take, take_all, take_min}
use Rattle.std.proofs.lemmas.List.Folds.{flat_map-map}
use Rattle.std.proofs.lemmas.List.Splits.{length-slice_split}
use Rattle.std.proofs.lemmas.List.Sums.{count_by-le-length, length-filter}
use Rattle.plant_types.specs.Plans.{IsFromTo}
use Rattle.plant_types.specs.declared.net.Fate.{Fate}
use Rattle.ascii_port.specs.Frames.{AsciiFrame, frame_in, frames, is_colon}
use Rattle.controller_core.specs.declared.entry.Entry.{Entry}
use Rattle.controller_core.specs.declared.fixed.Fixed.{Fixed}
use Rattle.controller_core.specs.Controller.{ControllerIs, IsLegal, at_start, has_ended}
use Rattle.controller_core.proofs.Counting.{length-filter_map}
use Rattle.panel_session.specs.Serving.{frames_for, is_for, request_count}
use Rattle.panel_session.specs.Session.{BenchScan, bench, bench_history}
use Rattle.hot_standby.specs.Part.{IsOnePart}
use Rattle.hot_standby.specs.Standby.{bench_of, scans_held}
use Rattle.standby_pair.specs.declared.sending.Link.{Link}
use Rattle.standby_pair.specs.Course.{LeavesScans, ScanPart, part_of, parts_of, scans_to_come}
use Rattle.standby_pair.specs.Kept.{FollowEachOther, HasSent, IsWithin, WritesTold, held_of}
use Rattle.standby_pair.specs.Kept.{parts_history, standby_with}
use Rattle.standby_pair.specs.Pair.{Piece, RepliesComeOnceOrTwice, SwitchesInTime}
use Rattle.standby_pair.specs.Pair.{bench_parts, due_pieces, later_pieces, pair_text, piece_text}
use Rattle.standby_pair.specs.Pair.{pieces_text, primary_pieces, replies_of, scans_before, switch_line}
use Rattle.standby_pair.specs.Pair.{switch_pieces, times_written}
use Rattle.standby_pair.specs.Sending.{Sending, acknowledged, known_acked, last_number, scans_there}
use Rattle.standby_pair.proofs.Courses.{GoesOn, all-to-come, each-part, few-to-come, follow-each-other}
use Rattle.standby_pair.proofs.Courses.{goes-on, start-leaves}
use Rattle.standby_pair.proofs.Links.{held-scans, holds, over-of}
use Rattle.standby_pair.proofs.Pieces.{TimesInRow, both, both-within, front-text, later-text, replies}
use Rattle.standby_pair.proofs.Pieces.{replies-text, row-within, times-both, times-row, times-switch}
use Rattle.standby_pair.proofs.Pieces.{times-whole}
use Rattle.standby_pair.proofs.Rows.{RowOver, acknowledged-is, arrived-is, held-made}

-- A stream has no more frames than bytes.
pub frames-few : (node : ℕ) (stream : List ℕ) → length (frames_for node stream) ≤ length stream
unfolding frames
frames-few node stream =
    let pieces = slice_split is_colon stream in
    let found = filter_map frame_in (drop 1 pieces) in
    let own = length-filter (is_for node) found in
    let fewer = count_by-le-length (is_for node) found in
    let picked = length-filter_map frame_in (drop 1 pieces) in
    let behind = length-drop 1 pieces in
    let cut = length-slice_split is_colon stream in
    let colons = count_by-le-length is_colon stream in
    omega (arith, own, fewer, picked, behind, cut, colons)

-- ---- the scans of the primary

pub parts-are : (fixed : Fixed) (stream : List ℕ) (fail : ℕ) (parts : List ScanPart)
    (frames' : List AsciiFrame) → 1 ≤ fixed.scans → frames' ≡ frames_for fixed.plan.node stream
    → parts ≡ take fail (parts_of (scans_to_come (at_start fixed) fixed.scans frames'))
    → parts ≡ take fail (bench_parts fixed stream)
parts-are fixed stream fail parts frames' some heard is =
    is
    ∙ ap (λ (frames : List AsciiFrame). take fail (parts_of
    (scans_to_come (at_start fixed) fixed.scans frames))) heard
    ∙ ap (λ (scans : List BenchScan). take fail (parts_of scans)) (all-to-come fixed stream some)

module _ (fixed : Fixed) (stream : List ℕ) (some : 1 ≤ fixed.scans) where
  abbrev all : List ScanPart
  all = bench_parts fixed stream

  abbrev heard : List AsciiFrame
  heard = frames_for fixed.plan.node stream

  abbrev first : ControllerIs
  first = at_start fixed

  abbrev scans : List BenchScan
  scans = scans_to_come first fixed.scans heard

  same-all : parts_of scans ≡ all
  same-all = ap parts_of (all-to-come fixed stream some)

  pub few-parts : length all ≤ fixed.scans
  few-parts =
      let few = few-to-come first fixed.scans heard (start-leaves fixed) in
      let same = ap length same-all in
      let count = length-map scans part_of in
      omega (arith, few, same, count)

  pub follow : (fail : ℕ) (parts : List ScanPart) → parts ≡ take fail all
      → IsLegal fixed (parts_history parts) → FollowEachOther fixed parts
  follow fail parts is legal =
      subst (FollowEachOther fixed) (sym is) (follow-each-other fixed (take fail all)
      (subst (λ (parts : List ScanPart). IsLegal fixed (parts_history parts)) is legal)
      (λ place none within.
      let count = length-take fail all in
      let below : place < fail = omega (arith, within, count) in
      let inside : place < length (parts_of scans) =
      omega (arith, within, count, ap length same-all) in
      let one = each-part first fixed.scans heard (start-leaves fixed) place none inside in
      subst (λ (parts : List ScanPart). IsOnePart fixed (parts_history parts)
      (get_or (take fail all) place none).entries)
      (sym (take-take place fail all (omega (arith, below))))
      (subst (λ (part : ScanPart). IsOnePart fixed (parts_history (take place all)) part.entries)
      (sym (get_or-take fail all place none below))
      (subst (λ (parts : List ScanPart). IsOnePart fixed (parts_history (take place parts))
      (get_or parts place none).entries) same-all one))))

  -- ---- how the standby goes on

  module _ (fail held : ℕ) (within : held ≤ length (take fail all)) where
    held-all : held ≤ length all
    held-all = omega (arith, length-take fail all, within)

    pub held-left : held ≤ fixed.scans
    held-left = omega (arith, held-all, few-parts)

    abbrev bench-there : ControllerIs
    bench-there = bench_of (standby_with fixed (take fail all) held)

    goes : GoesOn first fixed.scans heard held
    goes =
        goes-on held first fixed.scans heard (start-leaves fixed)
        (omega (arith, held-all, ap length same-all, length-map scans part_of))

    history-there : parts_history (take held (parts_of scans))
        ≡ parts_history (take held (take fail all))
    history-there =
        ap (λ (parts : List ScanPart). parts_history (take held parts)) same-all
        ∙ ap parts_history (sym (take-take held fail all
        (omega (arith, within, length-take fail all))))

    abbrev at : List Entry → ControllerIs
    at history = record { fixed = fixed; history = history; reserved = false }

    pub leaves-there : LeavesScans bench-there (fixed.scans - held)
    leaves-there =
        subst (λ (history : List Entry). LeavesScans (at history) (fixed.scans - held))
        history-there goes.leaves

    pub few-there : has_ended bench-there ≡ false
        → request_count bench-there.history + length (drop held heard) ≤ length heard
    few-there on =
        let goes' = subst (λ (history : List Entry). has_ended (at history) ≡ false)
        (sym history-there) on in
        let few = goes.few goes' in
        omega (arith, few, ap request_count history-there)

    -- The scans that it makes are the others.
    pub later-are : (rest : List AsciiFrame) → rest ≡ drop held heard
        → take (fixed.scans - held) (parts_of (scans_to_come bench-there (fixed.scans - held) rest))
        ≡ drop held all
    later-are rest is =
        ap (λ (rest : List AsciiFrame). take (fixed.scans - held) (parts_of
        (scans_to_come bench-there (fixed.scans - held) rest))) is
        ∙ ap (λ (history : List Entry). take (fixed.scans - held) (parts_of
        (scans_to_come (at history) (fixed.scans - held) (drop held heard)))) (sym history-there)
        ∙ ap (λ (scans : List BenchScan). take (fixed.scans - held) (parts_of scans))
        (sym goes.rest)
        ∙ ap (take (fixed.scans - held)) (sym (drop-map part_of held scans)
        ∙ ap (drop held) same-all)
        ∙ take_all (fixed.scans - held) (drop held all)
        (let count = length-drop held all in omega (arith, count, few-parts))

    -- The history at the end is that of the bench.
    pub history-whole : (later : List ScanPart) (history : List Entry) → later ≡ drop held all
        → history ≡ bench-there.history ++ parts_history later
        → history ≡ bench_history fixed stream
    history-whole later history later_is is =
        is
        ∙ ap (λ (later : List ScanPart). bench-there.history ++ parts_history later) later_is
        ∙ ap (λ (front : List ScanPart). parts_history front ++ parts_history (drop held all))
        (take-take held fail all (omega (arith, within, length-take fail all)))
        ∙ sym (flat_map-append (λ (part : ScanPart). part.entries) (take held all) (drop held all))
        ∙ ap parts_history (take-append-drop held all)
        ∙ flat_map-map (λ (part : ScanPart). part.entries) part_of (bench fixed stream)

  -- ---- the text

  module _ (letters : List Fate) (fail : ℕ) (parts : List ScanPart) (link : Link)
      (is : parts ≡ take fail all) (legal : IsLegal fixed (parts_history parts))
      (sent : HasSent fixed letters parts (length parts) link)
      (writes : WritesTold (length parts) (primary_pieces letters (length parts)) link.told)
    where
      abbrev made : ℕ
      made = length parts

      abbrev held : ℕ
      held = held_of letters link.sent

      made-is : made ≡ scans_before fixed stream fail
      made-is = ap length is

      over : RowOver letters made link.sent
      over = over-of fixed letters parts (follow fail parts is legal) made link sent

      pub held-most : held ≤ made
      held-most = held-made letters link.sent made sent.before

      pub held-is : scans_held link.standby ≡ held
      held-is =
          ap scans_held sent.is.standby
          ∙ held-scans fixed letters parts (follow fail parts is legal) held held-most

      pub there-is : held ≡ scans_there letters made
      there-is =
          ap (λ (l : List Sending). last_number (map (λ (one : Sending). one.scan) l))
          (sym (arrived-is letters made link.sent over))

      pub known-is : link.known ≡ known_acked letters made
      known-is =
          sent.is.known
          ∙ ap (λ (l : List Sending). last_number (map (λ (one : Sending). one.acked) l))
          (sym (arrived-is letters made link.sent over))

      known-most : link.known ≤ held
      known-most =
          let here = holds letters link.sent in
          omega (arith, sent.is.known, here.knows, here.least)

      -- the slice of the scans whose replies the standby writes
      pub known-within : link.known ≤ held
      known-within = known-most

      pub in-time : SwitchesInTime fixed letters stream fail
      in-time =
          let here = holds letters link.sent in
          let count = length-take fail all in
          subst (λ (made : ℕ). (acknowledged letters made ≤ scans_there letters made)
          → (scans_there letters made ≤ fail) → SwitchesInTime fixed letters stream fail) (sym made-is)
          (λ least most. record { least = least; most = most })
          (omega (arith, acknowledged-is letters made link.sent over, here.least, sym there-is))
          (omega (arith, there-is, held-most, made-is, count))

      abbrev pieces-sent : List Piece
      pieces-sent = primary_pieces letters made

      abbrev pieces-switch : List Piece
      pieces-switch = switch_pieces held link.known

      abbrev pieces-later : List Piece
      pieces-later = later_pieces held (length all)

      due-are : due_pieces fixed letters stream fail
          ≡ pieces-sent ++ (pieces-switch ++ pieces-later)
      due-are =
          ap (λ (made : ℕ). primary_pieces letters made
          ++ (switch_pieces (scans_there letters made) (known_acked letters made)
          ++ later_pieces (scans_there letters made) (length all))) (sym made-is)
          ∙ ap (λ (n : ℕ). pieces-sent ++ (switch_pieces n (known_acked letters made)
          ++ later_pieces n (length all))) (sym there-is)
          ∙ ap (λ (n : ℕ). pieces-sent ++ (switch_pieces held n ++ pieces-later)) (sym known-is)

      pub once-or-twice : RepliesComeOnceOrTwice fixed letters stream fail
      once-or-twice scan from to =
          subst (λ (pieces : List Piece). IsFromTo 1 2 (times_written scan pieces)) (sym due-are)
          (subst (IsFromTo 1 2) (sym cut) (⊎_elim
          (λ (behind : held < scan).
          let third = later.within (omega (arith, behind)) (omega (arith, to, below)) in
          let second = row.above (omega (arith, behind, known-most)) in
          let one = writes.none scan (omega (arith, behind, told-least)) in
          record { from = omega (arith, third, second, one); to = omega (arith, third, second, one) })
          (λ (there : scan ≤ held).
          let third = later.below (omega (arith, there)) in
          ⊎_elim
          (λ (untold : link.told < scan).
          let one = writes.none scan untold in
          let second = row.within (omega (arith, untold, knows)) (omega (arith, there)) in
          record { from = omega (arith, third, second, one); to = omega (arith, third, second, one) })
          (λ (told : scan ≤ link.told).
          let one = writes.once scan from told in
          ⊎_elim
          (λ (unknown : link.known < scan).
          let second = row.within (omega (arith, unknown)) (omega (arith, there)) in
          record { from = omega (arith, third, second, one); to = omega (arith, third, second, one) })
          (λ (known : scan ≤ link.known).
          let second = row.below (omega (arith, known)) in
          record { from = omega (arith, third, second, one); to = omega (arith, third, second, one) })
          (cases_lt link.known scan))
          (cases_lt link.told scan))
          (cases_lt held scan)))
        where
          row : TimesInRow scan (link.known + 1) (held - link.known)
              (replies_of (range_with_len (link.known + 1) (held - link.known)))
          row = times-row scan (link.known + 1) (held - link.known)

          later : TimesInRow scan (held + 1) (length all - held) pieces-later
          later = times-whole scan (held + 1) (length all - held)

          told-least : link.told ≤ held
          told-least = let here = holds letters link.sent in omega (arith, sent.is.told, here.least)

          knows : link.known ≤ link.told
          knows =
              let here = holds letters link.sent in
              omega (arith, sent.is.told, sent.is.known, here.knows)

          below : held ≤ length all
          below = omega (arith, held-most, made-is, length-take fail all)

          cut : times_written scan (pieces-sent ++ (pieces-switch ++ pieces-later))
              ≡ times_written scan pieces-sent
              + (times_written scan (replies_of (range_with_len (link.known + 1) (held - link.known)))
              + times_written scan pieces-later)
          cut =
              times-both scan pieces-sent (pieces-switch ++ pieces-later)
              ∙ ap (λ (n : ℕ). times_written scan pieces-sent + n)
              (times-both scan pieces-switch pieces-later
              ∙ ap (λ (n : ℕ). n + times_written scan pieces-later)
              (times-switch scan held (replies_of (range_with_len (link.known + 1)
              (held - link.known)))))

      front-is : take made all ≡ parts
      front-is =
          let count = length-take fail all in
          ap (λ (n : ℕ). take n all) (made-is ∙ count) ∙ take_min fail all ∙ sym is

      -- The text that was written is the text that is due.
      pub text-whole : (text : List ℕ)
          → text ≡ ((pieces_text parts pieces-sent ++ switch_line held)
          ++ flat_map replies (take (held - link.known) (drop link.known parts)))
          ++ flat_map both (drop held all)
          → text ≡ pair_text fixed letters stream fail
      text-whole text written =
          let say : List Piece → List ℕ = λ (pieces : List Piece). pieces_text parts pieces in
          let switch : say pieces-switch
          ≡ switch_line held ++ flat_map replies (take (held - link.known) (drop link.known parts)) =
          ap (λ (l : List ℕ). switch_line held ++ l)
          (replies-text parts link.known (held - link.known) (omega (arith, known-most, held-most))) in
          let inside : AllByRecursion (IsWithin made) (pieces-sent ++ pieces-switch) =
          both-within made pieces-sent pieces-switch writes.within (
            tt,
            row-within made (link.known + 1) (held - link.known) (omega arith)
                (omega (arith, known-most, held-most)),
          ) in
          let front : say (pieces-sent ++ pieces-switch)
          ≡ pieces_text all (pieces-sent ++ pieces-switch) =
          ap (λ (parts : List ScanPart). pieces_text parts (pieces-sent ++ pieces-switch))
          (sym front-is)
          ∙ front-text all made (pieces-sent ++ pieces-switch) inside in
          let later : pieces_text all pieces-later ≡ flat_map both (drop held all) =
          later-text all held (omega (arith, held-most, made-is, length-take fail all)) in
          written
          ∙ ap (λ (l : List ℕ). l ++ flat_map both (drop held all))
          (append_assoc (say pieces-sent) (switch_line held) _
          ∙ ap (λ (l : List ℕ). say pieces-sent ++ l) (sym switch)
          ∙ sym (flat_map-append (piece_text parts) pieces-sent pieces-switch)
          ∙ front)
          ∙ ap (λ (l : List ℕ). pieces_text all (pieces-sent ++ pieces-switch) ++ l) (sym later)
          ∙ sym (flat_map-append (piece_text all) (pieces-sent ++ pieces-switch) pieces-later)
          ∙ ap (λ (pieces : List Piece). pieces_text all pieces)
          (append_assoc pieces-sent pieces-switch pieces-later)
          ∙ ap (λ (pieces : List Piece). pieces_text all pieces) (sym due-are)
