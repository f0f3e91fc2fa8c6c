-- What the primary and the standby know behind each transmission, and what was written by then.
use Rattle.std.proofs.Common.{◌≡◌, ◌≢◌, ℕ, zero, suc, ◌+◌, ◌-◌, ◌<◌, ◌≤◌, ◌==◌, Bool, true, false}
use Rattle.std.proofs.Common.{List, [], ◌∷◌, ◌++◌, length, drop, take, get_or, refl, sym, ap}
use Rattle.std.proofs.Common.{subst, ◌∙◌, append_assoc, append-nil, arith, ⊎_elim}
use Rattle.std.specs.Prelude.{if◌then◌else◌}
use Rattle.std.specs.List.{flat_map, range_with_len}
use Rattle.std.proofs.Math.Seq.{take-suc}
use Rattle.std.proofs.lemmas.Bool.{cases_eq, eq-eqb, ne_eqb}
use Rattle.std.proofs.lemmas.Grind.{flat_map-append}
use Rattle.std.proofs.lemmas.List.{flat_map_more, get_or-drop, get_or-map, get_or-take}
use Rattle.std.proofs.lemmas.List.{drop-map, length-drop, length-map, map_more, take-map}
use Rattle.plant_types.specs.declared.net.Fate.{Fate}
use Rattle.plant_types.specs.declared.net.Fate.TheVariants as fates
use Rattle.ring_core.specs.Machine.{fate_at, fate_reaches}
use Rattle.controller_core.specs.declared.entry.Entry.{Entry}
use Rattle.controller_core.specs.declared.fixed.Fixed.{Fixed}
use Rattle.hot_standby.specs.Part.{MayComeNext, scans_of}
use Rattle.hot_standby.specs.Standby.{StandbyIs, new_standby, scans_held, with_packet}
use Rattle.standby_pair.specs.declared.scanning.ScanMade.{ScanMade}
use Rattle.standby_pair.specs.declared.sending.Link.{Link}
use Rattle.standby_pair.specs.Course.{ScanPart}
use Rattle.standby_pair.specs.Kept.{CanTake, FollowEachOther, HasSent, IsLinkOf, IsRowOf}
use Rattle.standby_pair.specs.Kept.{WritesTold, after_sending, held_of, known_of, link_to, packet_of}
use Rattle.standby_pair.specs.Kept.{parts_history, replies_between, scan_part, scan_parts}
use Rattle.standby_pair.specs.Kept.{standby_with, taken_by}
use Rattle.standby_pair.specs.Pair.{Piece, no_scan, piece_text, pieces_text, primary_pieces}
use Rattle.standby_pair.specs.Pair.{written_behind}
use Rattle.standby_pair.specs.Sending.{is_told, told_of}
use Rattle.standby_pair.proofs.Firsts.{range-more}
use Rattle.standby_pair.proofs.Pieces.{numbered-at, row-text, row_pieces, writes-more, writes-none}
use Rattle.standby_pair.proofs.Pieces.{written-is}
use Rattle.standby_pair.proofs.Rows.{AtRow, HoldsTold, RowOver, ToldInRow, holds-more, holds-none}
use Rattle.standby_pair.proofs.Rows.{held-no, held-yes, known-no, known-yes, row-begins, row-full}
use Rattle.standby_pair.proofs.Rows.{in-row, row-lost, row-none, row-told, told-no, told-none}
use Rattle.standby_pair.proofs.Rows.{told-one, told-same, told-yes}

pub holds : (letters : List Fate) (many : ℕ) → HoldsTold letters many
holds letters zero = holds-none letters
holds letters (suc many) = holds-more letters many (holds letters many)

-- The entries of so many scans, and of one more.
pub parts-more : (parts : List ScanPart) (many : ℕ) → many < length parts
    → parts_history (take (suc many) parts)
    ≡ parts_history (take many parts) ++ (get_or parts many no_scan).entries
parts-more parts many within =
    let one = get_or parts many no_scan in
    ap parts_history (take-suc parts many no_scan within)
    ∙ flat_map-append (λ (part : ScanPart). part.entries) (take many parts) (one ∷ [])
    ∙ ap (λ (h : List Entry). parts_history (take many parts) ++ h) (append-nil one.entries)

-- The replies from one scan to another, and those of one more.
pub replies-more : (parts : List ScanPart) (from to : ℕ) → from ≤ to → to < length parts
    → replies_between parts from (suc to)
    ≡ replies_between parts from to ++ (get_or parts to no_scan).replies
replies-more parts from to rises within =
    let rest = drop from parts in
    let many : suc to - from ≡ suc (to - from) = omega (arith, rises) in
    let there : from + (to - from) ≡ to = omega (arith, rises) in
    let one = get_or rest (to - from) no_scan in
    let is : one ≡ get_or parts to no_scan =
    get_or-drop from parts (to - from) no_scan
    ∙ ap (λ (n : ℕ). get_or parts n no_scan) there in
    let replies : List ScanPart → List ℕ =
    λ (parts : List ScanPart). flat_map (λ (part : ScanPart). part.replies) parts in
    ap (λ (n : ℕ). replies (take n rest)) many
    ∙ ap replies (take-suc rest (to - from) no_scan
    (let n = length-drop from parts in omega (arith, n, rises, within)))
    ∙ flat_map-append (λ (part : ScanPart). part.replies) (take (to - from) rest) (one ∷ [])
    ∙ ap (λ (l : List ℕ). replies (take (to - from) rest) ++ l) (append-nil one.replies)
    ∙ ap (λ (part : ScanPart). replies (take (to - from) rest) ++ part.replies) is

pub no-replies : (parts : List ScanPart) (from : ℕ) → replies_between parts from from ≡ []
no-replies parts from =
    let none : from - from ≡ 0 = omega arith in
    ap (λ (n : ℕ). flat_map (λ (part : ScanPart). part.replies) (take n (drop from parts))) none

-- Within a row that began at one link, so many scans were acknowledged.
pub record InRow (fixed : Fixed) (letters : List Fate) (parts : List ScanPart) (before : ℕ)
    (old link : Link) (count : ℕ) : Type 0 where
  pub is : IsLinkOf fixed letters parts link
  pub first : IsLinkOf fixed letters parts old
  pub row : AtRow letters (suc before) link.sent
  pub told : ToldInRow letters (suc before) old.sent link.sent
  pub count_is : link.told ≡ old.told + count

-- The same, and the replies of these scans were added to a text.
pub record HasRow (fixed : Fixed) (letters : List Fate) (parts : List ScanPart) (before : ℕ)
    (old link : Link) (text all : List ℕ) (count : ℕ) : Type 0 where
  pub row : InRow fixed letters parts before old link count
  pub text_is : all ≡ text ++ replies_between parts old.told link.told

-- So many scans were written and sent.
pub record HasWritten (fixed : Fixed) (letters : List Fate) (parts : List ScanPart) (scans : ℕ)
    (text all : List ℕ) (link : Link) : Type 0 where
  pub within : scans ≤ length parts
  pub sent : HasSent fixed letters parts scans link
  pub text_is : all ≡ text ++ pieces_text parts (flat_map (written_behind letters (length parts))
      (range_with_len 1 scans))
  pub writes : WritesTold (length parts) (flat_map (written_behind letters (length parts))
      (range_with_len 1 scans)) link.told

module _ (fixed : Fixed) (letters : List Fate) (parts : List ScanPart)
    (follow : FollowEachOther fixed parts) where
  -- A standby that holds the first of them holds so many.
  pub held-scans : (many : ℕ) → many ≤ length parts
      → scans_held (standby_with fixed parts many) ≡ many
  held-scans zero within = refl
  held-scans (suc many) within =
      let next = follow many no_scan (omega (arith, within)) in
      let before = held-scans many (omega (arith, within)) in
      let more : scans_of fixed (parts_history (take (suc many) parts))
      ≡ scans_of fixed (parts_history (take many parts)) + 1 =
      ap (scans_of fixed) (parts-more parts many (omega (arith, within))) ∙ next.part.over in
      omega (arith, more, before)

  module _ (link : Link) (scan : ScanMade) (is : IsLinkOf fixed letters parts link)
      (within : link.told < length parts)
      (entries : scan.entries ≡ (get_or parts link.told no_scan).entries) where
    abbrev held : ℕ
    held = held_of letters link.sent

    here : HoldsTold letters link.sent
    here = holds letters link.sent

    count : scans_held link.standby ≡ held
    count =
        ap scans_held is.standby
        ∙ held-scans held (omega (arith, here.most, is.told, within))

    -- The standby may take the packet that is sent.
    pub can-take : CanTake link.standby (packet_of link scan)
    can-take = record {
      soon = omega (arith, count, is.told, here.least);
      may = λ next.
          let same : link.told ≡ held = omega (arith, next, count) in
          subst (λ (v : StandbyIs). MayComeNext v.fixed v.history scan.entries)
          (sym is.standby)
          (subst (λ (n : ℕ). MayComeNext fixed (parts_history (take n parts)) scan.entries) same
          (subst (λ (e : List Entry). MayComeNext fixed (parts_history (take link.told parts)) e)
          (sym entries) (follow link.told no_scan within)));
      works = ap (λ (v : StandbyIs). v.failed) is.standby;
    }

    -- Behind the packet it holds the scan of the packet, and no other more.
    taken-is : taken_by link.standby (packet_of link scan)
        ≡ standby_with fixed parts (link.told + 1)
    taken-is = ⊎_elim
        (λ (same : link.told ≡ held).
        let test : ((link.told + 1) == (scans_held link.standby + 1)) ≡ true =
        eq-eqb (link.told + 1) (scans_held link.standby + 1) (omega (arith, same, count)) in
        let suc-is : suc link.told ≡ link.told + 1 = omega arith in
        ap (λ (b : Bool). if b then with_packet link.standby (packet_of link scan)
        else link.standby) test
        ∙ ap (λ (v : StandbyIs). with_packet v (packet_of link scan)) is.standby
        ∙ ap (λ (h : List Entry). with-history h)
        (ap (λ (n : ℕ). parts_history (take n parts) ++ scan.entries) (sym same)
        ∙ ap (λ (e : List Entry). parts_history (take link.told parts) ++ e) entries
        ∙ sym (parts-more parts link.told within)
        ∙ ap (λ (n : ℕ). parts_history (take n parts)) suc-is))
        (λ (other : link.told ≢ held).
        let test : ((link.told + 1) == (scans_held link.standby + 1)) ≡ false =
        ne_eqb (link.told + 1) (scans_held link.standby + 1)
        (λ same. other (omega (arith, same, count))) in
        let more : held ≡ link.told + 1 = next-of other in
        ap (λ (b : Bool). if b then with_packet link.standby (packet_of link scan)
        else link.standby) test
        ∙ is.standby
        ∙ ap (standby_with fixed parts) more)
        (cases_eq link.told held)
      where
        with-history : List Entry → StandbyIs
        with-history h = record { fixed = fixed; history = h; failed = false }

        next-of : link.told ≢ held → held ≡ link.told + 1
        next-of other = ⊎_elim
            (λ (same : held ≡ link.told + 1). same)
            (λ (no' : held ≢ link.told + 1). absurd (other
            (between link.told held (omega (arith, is.told, here.least))
            (omega (arith, is.told, here.most)) no')))
            (cases_eq held (link.told + 1))
          where
            between : (a b : ℕ) → a ≤ b → b ≤ a + 1 → b ≢ a + 1 → a ≡ b
            between a b least most no' = omega (arith, least, most, no')

    -- What both know behind the transmission.
    pub link-more : IsLinkOf fixed letters parts
        (after_sending link (fate_at letters link.sent) scan)
    link-more = by (fate_at letters link.sent) refl
      where
        e : suc link.sent ≡ link.sent + 1
        e = omega arith

        told-same' : told_of letters (suc link.sent) ≡ told_of letters (link.sent + 1)
        told-same' = ap (told_of letters) e

        standby-to : (held' : ℕ) → held_of letters (suc link.sent) ≡ held'
            → standby_with fixed parts held' ≡ standby_with fixed parts (held_of letters (link.sent + 1))
        standby-to held' is' =
            ap (standby_with fixed parts) (sym is' ∙ ap (held_of letters) e)

        by : (fate : Fate) → fate_at letters link.sent ≡ fate
            → IsLinkOf fixed letters parts (after_sending link fate scan)
        by fates.D fate = record {
          told = omega (
            arith,
            is.told,
            told-same',
            told-yes letters link.sent (ap is_told fate),
          );
          known = is.told ∙ sym (known-yes letters link.sent (ap fate_reaches fate))
              ∙ ap (known_of letters) e;
          standby = taken-is
              ∙ ap (λ (n : ℕ). standby_with fixed parts (n + 1)) is.told
              ∙ standby-to (told_of letters link.sent + 1)
              (held-yes letters link.sent (ap fate_reaches fate));
        }
        by fates.L fate = record {
          told = is.told ∙ sym (told-no letters link.sent (ap is_told fate)) ∙ told-same';
          known = is.known ∙ sym (known-no letters link.sent (ap fate_reaches fate))
              ∙ ap (known_of letters) e;
          standby = is.standby
              ∙ standby-to (held_of letters link.sent)
              (held-no letters link.sent (ap fate_reaches fate));
        }
        by fates.A fate = record {
          told = is.told ∙ sym (told-no letters link.sent (ap is_told fate)) ∙ told-same';
          known = is.told ∙ sym (known-yes letters link.sent (ap fate_reaches fate))
              ∙ ap (known_of letters) e;
          standby = taken-is
              ∙ ap (λ (n : ℕ). standby_with fixed parts (n + 1)) is.told
              ∙ standby-to (told_of letters link.sent + 1)
              (held-yes letters link.sent (ap fate_reaches fate));
        }

  -- ---- a row

  pub over-of : (before : ℕ) (link : Link) → HasSent fixed letters parts before link
      → RowOver letters before link.sent
  over-of before link sent = record {
    behind_is = sent.behind;
    before = sent.before;
    most = omega (arith, sent.is.told, sent.most);
    few = omega (arith, sent.is.told, sent.few);
  }

  sent-of : (before : ℕ) (link : Link) → IsLinkOf fixed letters parts link
      → RowOver letters (suc before) link.sent → HasSent fixed letters parts (before + 1) link
  sent-of before link is over = record {
    is = is;
    behind = omega (arith, over.behind_is);
    before = λ place below. omega (arith, over.before place below);
    most = omega (arith, is.told, over.most);
    few = omega (arith, is.told, over.few);
  }

  pub begins : HasSent fixed letters parts 0 (link_to (new_standby fixed))
  begins = record {
    is = record { told = refl; known = refl; standby = refl };
    behind = (row-none letters).behind_is;
    before = (row-none letters).before;
    most = omega arith;
    few = omega arith;
  }

  pub in-row-begins : (before : ℕ) (old : Link) → HasSent fixed letters parts before old
      → InRow fixed letters parts before old old 0
  in-row-begins before old sent =
      let over = over-of before old sent in
      record {
        is = sent.is;
        first = sent.is;
        row = row-begins letters before old.sent over;
        told = told-none letters before old.sent over;
        count_is = omega arith;
      }

  row-is : (before : ℕ) (old link : Link) → IsLinkOf fixed letters parts old
      → IsLinkOf fixed letters parts link → ToldInRow letters (suc before) old.sent link.sent
      → IsRowOf letters (before + 1) old link
  row-is before old link first is told =
      let scan : suc before ≡ before + 1 = omega arith in
      subst (λ (scan : ℕ). IsRowOf letters scan old link) scan (record {
        more = omega (arith, first.told, is.told, told.more);
        scans = told.scans
            ∙ ap (λ (n : ℕ). range_with_len (n + 1)
            (told_of letters link.sent - n)) (sym first.told)
            ∙ ap (λ (n : ℕ). range_with_len (old.told + 1) (n - old.told)) (sym is.told);
      })

  -- all scans are acknowledged
  pub in-row-full : (before : ℕ) (old link : Link) (count : ℕ) → InRow fixed letters parts before old link count
      → before + 1 ≤ old.told + count
      → HasSent fixed letters parts (before + 1) link × IsRowOf letters (before + 1) old link
  in-row-full before old link count row full = (
    sent-of before link row.is (row-full letters (suc before) link.sent row.row
        (omega (arith, row.is.told, row.count_is, full))),
    row-is before old link row.first row.is row.told,
  )

  module _ (before : ℕ) (old link : Link) (count : ℕ) (row : InRow fixed letters parts before old link count)
      (scan : ScanMade) (within : link.told < length parts)
      (entries : scan.entries ≡ (get_or parts link.told no_scan).entries)
      (less : link.told < before + 1) where
    abbrev next : Link
    next = after_sending link (fate_at letters link.sent) scan

    less-told : told_of letters link.sent < suc before
    less-told = omega (arith, row.is.told, less)

    next-sent : suc link.sent ≡ link.sent + 1
    next-sent = omega arith

    pub in-row-told : is_told (fate_at letters link.sent) ≡ true
        → InRow fixed letters parts before old next (count + 1)
    in-row-told told = record {
      is = link-more link scan row.is within entries;
      first = row.first;
      row = subst (AtRow letters (suc before)) next-sent
          (row-told letters (suc before) link.sent row.row less-told told);
      told = subst (ToldInRow letters (suc before) old.sent) next-sent
          (told-one letters (suc before) old.sent link.sent row.told
          (in-row letters (suc before) link.sent row.row less-told) told);
      count_is = ap (λ (b : Bool). if b then link.told + 1 else link.told) told
          ∙ omega (arith, row.count_is);
    }

    pub in-row-lost : is_told (fate_at letters link.sent) ≡ false
        → HasSent fixed letters parts (before + 1) next × IsRowOf letters (before + 1) old next
    in-row-lost no' =
        let is = link-more link scan row.is within entries in (
          sent-of before next is (subst (RowOver letters (suc before)) next-sent
              (row-lost letters (suc before) link.sent row.row less-told no')),
          row-is before old next row.first is (subst (ToldInRow letters (suc before) old.sent)
              next-sent (told-same letters (suc before) old.sent link.sent row.told no')),
        )

  -- ---- all rows

  pub written-more : (scans : ℕ) (text all line more : List ℕ) (old new : Link)
      → HasWritten fixed letters parts scans text all old → scans < length parts
      → HasSent fixed letters parts (scans + 1) new → IsRowOf letters (scans + 1) old new
      → line ≡ (get_or parts scans no_scan).line
      → more ≡ (all ++ line) ++ replies_between parts old.told new.told
      → HasWritten fixed letters parts (scans + 1) text more new
  written-more scans text all line more old new has within sent row line_is more_is =
      let many = new.told - old.told in
      let before = flat_map (written_behind letters (length parts)) (range_with_len 1 scans) in
      let pieces = row_pieces (scans + 1) (old.told + 1) many in
      let here : written_behind letters (length parts) (scans + 1) ≡ pieces =
      written-is letters (length parts) (scans + 1) (old.told + 1) many new.sent
      (over-of (scans + 1) new sent) (omega (arith, within)) row.scans in
      let next : range_with_len 1 (scans + 1) ≡ range_with_len 1 scans ++ (scans + 1) ∷ [] =
      ap (range_with_len 1) (let e : scans + 1 ≡ suc scans = omega arith in e)
      ∙ range-more 1 scans
      ∙ ap (λ (n : ℕ). range_with_len 1 scans ++ n ∷ [])
      (let e : 1 + scans ≡ scans + 1 = omega arith in e) in
      let all_is : flat_map (written_behind letters (length parts)) (range_with_len 1 (scans + 1))
      ≡ before ++ pieces =
      ap (flat_map (written_behind letters (length parts))) next
      ∙ flat_map-append (written_behind letters (length parts)) (range_with_len 1 scans)
      ((scans + 1) ∷ [])
      ∙ ap (λ (l : List Piece). before ++ l)
      (append-nil (written_behind letters (length parts) (scans + 1)) ∙ here) in
      let told_is : old.told + many ≡ new.told = omega (arith, row.more) in
      let says : pieces_text parts pieces ≡ line ++ replies_between parts old.told new.told =
      row-text parts (scans + 1) old.told many (omega (arith, told_is, sent.most, within))
      ∙ ap (λ (part : ScanPart). part.line ++ replies_between parts old.told new.told)
      (numbered-at parts scans)
      ∙ ap (λ (l : List ℕ). l ++ replies_between parts old.told new.told) (sym line_is) in
      record {
        within = omega (arith, within);
        sent = sent;
        text_is = more_is
            ∙ append_assoc all line _
            ∙ ap (λ (l : List ℕ). l ++ (line ++ replies_between parts old.told new.told))
            has.text_is
            ∙ append_assoc text (pieces_text parts before) _
            ∙ ap (λ (l : List ℕ). text ++ (pieces_text parts before ++ l)) (sym says)
            ∙ ap (λ (l : List ℕ). text ++ l)
            (sym (flat_map-append (piece_text parts) before pieces))
            ∙ ap (λ (pieces : List Piece). text ++ pieces_text parts pieces) (sym all_is);
        writes = subst (λ (n : ℕ). WritesTold (length parts) (flat_map
            (written_behind letters (length parts)) (range_with_len 1 (scans + 1))) n) told_is
            (subst (λ (pieces : List Piece). WritesTold (length parts) pieces (old.told + many))
            (sym all_is)
            (writes-more (length parts) (scans + 1) old.told many before has.writes
            (omega arith) (omega (arith, within)) (omega (arith, told_is, sent.most))));
      }

-- Nothing was written where nothing was sent.
pub written-none : (fixed : Fixed) (letters : List Fate) (parts : List ScanPart) (link : Link)
    (text : List ℕ) → HasSent fixed letters parts 0 link
    → HasWritten fixed letters parts 0 text text link
written-none fixed letters parts link text sent =
    let none : 0 ≡ link.told = omega (arith, sent.most) in
    record {
      within = omega arith;
      sent = sent;
      text_is = sym (append-nil text);
      writes = subst (WritesTold (length parts) []) none (writes-none (length parts));
    }

-- All is written and sent where it is so behind each scan.
pub record IsAllWritten (fixed : Fixed) (letters : List Fate) (parts : List ScanPart)
    (text all : List ℕ) (link : Link) (scans : ℕ) : Type 0 where
  pub sent : HasSent fixed letters parts scans link
  pub text_is : all ≡ text ++ pieces_text parts (primary_pieces letters scans)
  pub writes : WritesTold scans (primary_pieces letters scans) link.told

pub all-written : (fixed : Fixed) (letters : List Fate) (parts : List ScanPart)
    (text all : List ℕ) (link : Link) (place scans : ℕ)
    → HasWritten fixed letters parts place text all link → scans ≡ length parts → scans ≤ place
    → IsAllWritten fixed letters parts text all link scans
all-written fixed letters parts text all link place scans has count full =
    let at : place ≡ length parts = omega (arith, has.within, count, full) in
    subst (IsAllWritten fixed letters parts text all link) (sym count) (record {
      sent = subst (λ (n : ℕ). HasSent fixed letters parts n link) at has.sent;
      text_is = has.text_is
          ∙ ap (λ (n : ℕ). text ++ pieces_text parts
          (flat_map (written_behind letters (length parts)) (range_with_len 1 n))) at;
      writes = subst (λ (n : ℕ). WritesTold (length parts)
          (flat_map (written_behind letters (length parts)) (range_with_len 1 n)) link.told) at
          has.writes;
    })

-- ---- scans of the code

pub place-part : (scans : List ScanMade) (place : ℕ) (scan : ScanMade) → place < length scans
    → scan ≡ get_or scans place scan
    → scan_part scan ≡ get_or (scan_parts scans) place no_scan
place-part scans place scan within is =
    ap scan_part is ∙ sym (get_or-map scan_part scans place scan no_scan within)

-- A scan of a slice is the one with its place in the whole.
pub item-part : (scans : List ScanMade) (from many place : ℕ) (scan : ScanMade) → place < many
    → from + place < length scans → scan ≡ get_or (take many (drop from scans)) place scan
    → scan_part scan ≡ get_or (scan_parts scans) (from + place) no_scan
item-part scans from many place scan inside within is =
    ap scan_part (is ∙ get_or-take many (drop from scans) place scan inside
    ∙ get_or-drop from scans place scan)
    ∙ sym (get_or-map scan_part scans (from + place) scan no_scan within)

-- The text of some scans, and of one more.
pub pushed-more : (f : ScanPart → List ℕ) (before text more : List ℕ) (scans : List ScanMade)
    (place : ℕ) (scan : ScanMade) → place < length scans → scan ≡ get_or scans place scan
    → text ≡ before ++ flat_map f (scan_parts (take place scans))
    → more ≡ text ++ f (scan_part scan)
    → more ≡ before ++ flat_map f (scan_parts (take (place + 1) scans))
pushed-more f before text more scans place scan within is so added =
    added
    ∙ ap (λ (l : List ℕ). l ++ f (scan_part scan)) so
    ∙ flat_map_more f before (scan_parts (take place scans)) (scan_part scan)
    ∙ ap (λ (one : ScanMade). before ++ flat_map f (scan_parts (take place scans)
    ++ scan_part one ∷ [])) is
    ∙ ap (λ (parts : List ScanPart). before ++ flat_map f parts)
    (sym (map_more scan_part scans place scan within))

-- The parts of a slice.
pub slice-parts : (scans : List ScanMade) (from many : ℕ)
    → scan_parts (take many (drop from scans)) ≡ take many (drop from (scan_parts scans))
slice-parts scans from many =
    sym (take-map scan_part many (drop from scans))
    ∙ ap (take many) (sym (drop-map scan_part from scans))

-- All is written, of the same scans.
pub all-as : (f fixed : Fixed) (letters : List Fate) (scans made : List ScanMade)
    (text all : List ℕ) (link : Link) → f ≡ fixed → scans ≡ made
    → IsAllWritten f letters (scan_parts scans) text all link (length scans)
    → IsAllWritten fixed letters (scan_parts made) text all link (length (scan_parts made))
all-as f fixed letters scans made text all link same is has =
    subst (IsAllWritten fixed letters (scan_parts made) text all link)
    (sym (length-map made scan_part))
    (subst (λ (scans : List ScanMade). IsAllWritten fixed letters (scan_parts scans) text all link
    (length scans)) is
    (subst (λ (f : Fixed). IsAllWritten f letters (scan_parts scans) text all link (length scans))
    same has))
