-- The pieces of a text: what they say, and how often each stands there.
use Rattle.std.proofs.Common.{◌≡◌, ◌≢◌, ℕ, zero, suc, ◌+◌, ◌-◌, ◌<◌, ◌≤◌, Bool}
use Rattle.std.proofs.Common.{cond, List, [], ◌∷◌, ◌++◌, length, drop, take, get_or, map, refl}
use Rattle.std.proofs.Common.{sym, ap, ◌∙◌, append_assoc, arith, ⊎_elim}
use Rattle.std.specs.List.{AllByRecursion, flat_map, range_with_len}
use Rattle.std.proofs.lemmas.Bool.{cases_eq, cases_lt, eq-eqb, ne_eqb}
use Rattle.std.proofs.lemmas.List.{drop_more, take_rest, get_or-take}
use Rattle.plant_types.specs.declared.net.Fate.{Fate}
use Rattle.standby_pair.specs.Course.{ScanPart}
use Rattle.standby_pair.specs.Kept.{IsWithin, WritesTold, scans_told}
use Rattle.standby_pair.specs.Pair.{Line, Piece, Replies, Switch, has_replies, no_scan, piece_text}
use Rattle.standby_pair.specs.Pair.{pieces_text, replies_of, scan_numbered, times_written, whole_scan}
use Rattle.standby_pair.specs.Pair.{written_behind}
use Rattle.standby_pair.specs.Sending.{Sending}
use Rattle.standby_pair.proofs.Firsts.{count-both, count-first}
use Rattle.standby_pair.proofs.Rows.{RowOver, told-behind}

-- ---- their text

pub numbered-at : (parts : List ScanPart) (place : ℕ)
    → scan_numbered parts (place + 1) ≡ get_or parts place no_scan
numbered-at parts place =
    let e : place + 1 - 1 ≡ place = omega arith in ap (λ (n : ℕ). get_or parts n no_scan) e

abbrev pub replies : ScanPart → List ℕ
replies part = part.replies

abbrev pub both : ScanPart → List ℕ
both part = part.line ++ part.replies

pub replies-text : (parts : List ScanPart) (from many : ℕ) → from + many ≤ length parts
    → pieces_text parts (replies_of (range_with_len (from + 1) many))
    ≡ flat_map replies (take many (drop from parts))
replies-text parts from zero within = refl
replies-text parts from (suc many) within =
    let next : drop from parts ≡ get_or parts from no_scan ∷ drop (from + 1) parts =
    drop_more parts from no_scan (omega (arith, within)) in
    ap (λ (part : ScanPart). part.replies
    ++ pieces_text parts (replies_of (range_with_len (from + 1 + 1) many)))
    (numbered-at parts from)
    ∙ ap (λ (l : List ℕ). (get_or parts from no_scan).replies ++ l)
    (replies-text parts (from + 1) many (omega (arith, within)))
    ∙ ap (λ (l : List ScanPart). flat_map replies (take (suc many) l)) (sym next)

whole-text : (parts : List ScanPart) (from many : ℕ) → from + many ≤ length parts
    → pieces_text parts (flat_map whole_scan (range_with_len (from + 1) many))
    ≡ flat_map both (take many (drop from parts))
whole-text parts from zero within = refl
whole-text parts from (suc many) within =
    let one = get_or parts from no_scan in
    let rest = pieces_text parts (flat_map whole_scan (range_with_len (from + 1 + 1) many)) in
    let next : drop from parts ≡ one ∷ drop (from + 1) parts =
    drop_more parts from no_scan (omega (arith, within)) in
    ap (λ (part : ScanPart). part.line ++ (part.replies ++ rest)) (numbered-at parts from)
    ∙ sym (append_assoc one.line one.replies rest)
    ∙ ap (λ (l : List ℕ). (one.line ++ one.replies) ++ l)
    (whole-text parts (from + 1) many (omega (arith, within)))
    ∙ ap (λ (l : List ScanPart). flat_map both (take (suc many) l)) (sym next)

pub later-text : (parts : List ScanPart) (held : ℕ) → held ≤ length parts
    → pieces_text parts (flat_map whole_scan (range_with_len (held + 1) (length parts - held)))
    ≡ flat_map both (drop held parts)
later-text parts held within =
    whole-text parts held (length parts - held) (omega (arith, within))
    ∙ ap (flat_map both) (take_rest parts held)

-- Pieces of the first scans say the same of these alone.
front-piece : (parts : List ScanPart) (many : ℕ) (piece : Piece) → IsWithin many piece
    → piece_text (take many parts) piece ≡ piece_text parts piece
front-piece parts many (Line scan) within =
    ap (λ (part : ScanPart). part.line)
    (get_or-take many parts (scan - 1) no_scan (omega (arith, within.from, within.to)))
front-piece parts many (Replies scan) within =
    ap (λ (part : ScanPart). part.replies)
    (get_or-take many parts (scan - 1) no_scan (omega (arith, within.from, within.to)))
front-piece parts many (Switch held) within = refl

pub front-text : (parts : List ScanPart) (many : ℕ) (pieces : List Piece)
    → AllByRecursion (IsWithin many) pieces
    → pieces_text (take many parts) pieces ≡ pieces_text parts pieces
front-text parts many [] within = refl
front-text parts many (piece ∷ pieces) within =
    ap (λ (l : List ℕ). l ++ pieces_text (take many parts) pieces)
    (front-piece parts many piece within.0)
    ∙ ap (λ (l : List ℕ). piece_text parts piece ++ l)
    (front-text parts many pieces within.1)

-- ---- how often replies stand there

pub times-both : (scan : ℕ) (front rest : List Piece)
    → times_written scan (front ++ rest) ≡ times_written scan front + times_written scan rest
times-both scan front rest = count-both (has_replies scan) front rest

times-first : (scan : ℕ) (piece : Piece) (pieces : List Piece)
    → times_written scan (piece ∷ pieces)
    ≡ cond (has_replies scan piece) 1 0 + times_written scan pieces
times-first scan piece pieces = count-first (has_replies scan) piece pieces

-- Those of other scans, and of the scan itself.
times-other : (scan other : ℕ) (pieces : List Piece) → other ≢ scan
    → times_written scan (Replies other ∷ pieces) ≡ times_written scan pieces
times-other scan other pieces not-same =
    times-first scan (Replies other) pieces
    ∙ ap (λ (b : Bool). cond b 1 0 + times_written scan pieces) (ne_eqb other scan not-same)
    ∙ omega arith

times-same : (scan other : ℕ) (pieces : List Piece) → other ≡ scan
    → times_written scan (Replies other ∷ pieces) ≡ 1 + times_written scan pieces
times-same scan other pieces same =
    times-first scan (Replies other) pieces
    ∙ ap (λ (b : Bool). cond b 1 0 + times_written scan pieces) (eq-eqb other scan same)

-- Of scans in a row those within stand once, and no others.
pub record TimesInRow (scan from many : ℕ) (pieces : List Piece) : Type 0 where
  pub below : scan < from → times_written scan pieces ≡ 0
  pub within : from ≤ scan → scan < from + many → times_written scan pieces ≡ 1
  pub above : from + many ≤ scan → times_written scan pieces ≡ 0

pub times-row : (scan from many : ℕ)
    → TimesInRow scan from many (replies_of (range_with_len from many))
times-row scan from zero = record {
  below = λ less. refl;
  within = λ less more. absurd (omega (arith, less, more));
  above = λ more. refl;
}
times-row scan from (suc many) =
    let rest = replies_of (range_with_len (from + 1) many) in
    let behind = times-row scan (from + 1) many in
    record {
      below = λ less. times-other scan from rest (λ same. absurd (omega (arith, same, less)))
          ∙ behind.below (omega (arith, less));
      within = λ less more. ⊎_elim
          (λ (same : from ≡ scan). times-same scan from rest same
          ∙ ap (λ (n : ℕ). 1 + n) (behind.below (omega (arith, same))))
          (λ (other : from ≢ scan). times-other scan from rest other
          ∙ behind.within (lt-of from scan less other) (omega (arith, more)))
          (cases_eq from scan);
      above = λ more. times-other scan from rest (λ same. absurd (omega (arith, same, more)))
          ∙ behind.above (omega (arith, more));
    }
  where
    lt-of : (a b : ℕ) → a ≤ b → a ≢ b → a + 1 ≤ b
    lt-of a b less other = ⊎_elim
        (λ (below : a < b). omega (arith, below))
        (λ (above : b ≤ a). absurd (other (omega (arith, less, above))))
        (cases_lt a b)

pub times-whole : (scan from many : ℕ)
    → TimesInRow scan from many (flat_map whole_scan (range_with_len from many))
times-whole scan from zero = record {
  below = λ less. refl;
  within = λ less more. absurd (omega (arith, less, more));
  above = λ more. refl;
}
times-whole scan from (suc many) =
    let rest = flat_map whole_scan (range_with_len (from + 1) many) in
    let behind = times-whole scan (from + 1) many in
    let line : times_written scan (Line from ∷ Replies from ∷ rest)
    ≡ times_written scan (Replies from ∷ rest) =
    times-first scan (Line from) (Replies from ∷ rest) ∙ omega arith in
    record {
      below = λ less. line
          ∙ times-other scan from rest (λ same. absurd (omega (arith, same, less)))
          ∙ behind.below (omega (arith, less));
      within = λ less more. ⊎_elim
          (λ (same : from ≡ scan). line ∙ times-same scan from rest same
          ∙ ap (λ (n : ℕ). 1 + n) (behind.below (omega (arith, same))))
          (λ (other : from ≢ scan). line ∙ times-other scan from rest other
          ∙ behind.within (lt-of from scan less other) (omega (arith, more)))
          (cases_eq from scan);
      above = λ more. line
          ∙ times-other scan from rest (λ same. absurd (omega (arith, same, more)))
          ∙ behind.above (omega (arith, more));
    }
  where
    lt-of : (a b : ℕ) → a ≤ b → a ≢ b → a + 1 ≤ b
    lt-of a b less other = ⊎_elim
        (λ (below : a < b). omega (arith, below))
        (λ (above : b ≤ a). absurd (other (omega (arith, less, above))))
        (cases_lt a b)

-- The line of the switch has no replies.
pub times-switch : (scan held : ℕ) (pieces : List Piece)
    → times_written scan (Switch held ∷ pieces) ≡ times_written scan pieces
times-switch scan held pieces = times-first scan (Switch held) pieces ∙ omega arith

-- ---- what a primary writes

pub both-within : (scans : ℕ) (front rest : List Piece) → AllByRecursion (IsWithin scans) front
    → AllByRecursion (IsWithin scans) rest → AllByRecursion (IsWithin scans) (front ++ rest)
both-within scans [] rest a b = b
both-within scans (piece ∷ front) rest a b = (a.0, both-within scans front rest a.1 b)

pub row-within : (scans from many : ℕ) → 1 ≤ from → from + many ≤ scans + 1
    → AllByRecursion (IsWithin scans) (replies_of (range_with_len from many))
row-within scans from zero some most = tt
row-within scans from (suc many) some most = (
  record { from = some; to = omega (arith, most) },
  row-within scans (from + 1) many (omega (arith, some)) (omega (arith, most)),
)

-- What is written behind a scan: its line, and the replies of the scans that are acknowledged.
abbrev pub row_pieces : ℕ → ℕ → ℕ → List Piece
row_pieces scan from many = Line scan ∷ replies_of (range_with_len from many)

pub written-is : (letters : List Fate) (scans scan from many sent : ℕ)
    → RowOver letters scan sent → scan ≤ scans
    → scans_told letters scan sent ≡ range_with_len from many
    → written_behind letters scans scan ≡ row_pieces scan from many
written-is letters scans scan from many sent over within told =
    ap (λ (acknowledged : List Sending). Line scan
    ∷ replies_of (map (λ (one : Sending). one.scan) acknowledged))
    (told-behind letters scans scan sent over within)
    ∙ ap (λ (l : List ℕ). Line scan ∷ replies_of l) told

pub writes-none : (scans : ℕ) → WritesTold scans [] 0
writes-none scans = record {
  within = tt;
  once = λ scan some less. absurd (omega (arith, some, less));
  none = λ scan more. refl;
}

-- One row more.
pub writes-more : (scans scan told many : ℕ) (pieces : List Piece) → WritesTold scans pieces told
    → 1 ≤ scan → scan ≤ scans → told + many ≤ scan
    → WritesTold scans (pieces ++ row_pieces scan (told + 1) many) (told + many)
writes-more scans scan told many pieces writes some within most =
    let row = row_pieces scan (told + 1) many in
    let plain = replies_of (range_with_len (told + 1) many) in
    record {
      within = both-within scans pieces row writes.within (
        record { from = some; to = within },
        row-within scans (told + 1) many (omega arith) (omega (arith, within, most)),
      );
      once = λ place from to.
          let times = times-row place (told + 1) many in
          let row_is : times_written place row ≡ times_written place plain =
          times-first place (Line scan) plain ∙ omega arith in
          times-both place pieces row
          ∙ ⊎_elim
          (λ (new : told < place).
          let before = writes.none place new in
          let here = times.within (omega (arith, new)) (omega (arith, to)) in
          omega (arith, before, here, row_is))
          (λ (old : place ≤ told).
          let before = writes.once place from old in
          let here = times.below (omega (arith, old)) in
          omega (arith, before, here, row_is))
          (cases_lt told place);
      none = λ place more.
          let times = times-row place (told + 1) many in
          let row_is : times_written place row ≡ times_written place plain =
          times-first place (Line scan) plain ∙ omega arith in
          let before = writes.none place (omega (arith, more)) in
          let here = times.above (omega (arith, more)) in
          times-both place pieces row ∙ omega (arith, before, here, row_is);
    }

-- The text of a row.
pub row-text : (parts : List ScanPart) (scan told many : ℕ) → told + many ≤ length parts
    → pieces_text parts (row_pieces scan (told + 1) many)
    ≡ (scan_numbered parts scan).line ++ flat_map replies (take many (drop told parts))
row-text parts scan told many within =
    ap (λ (l : List ℕ). (scan_numbered parts scan).line ++ l) (replies-text parts told many within)
