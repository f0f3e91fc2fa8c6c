-- Where subroutines stand: the spans under the numbers of LABs, one network more, and what they are
-- in a plan.
use Rattle.std.proofs.Common.{◌≡◌, ℕ, ◌+◌, ◌-◌, ◌≤◌, ◌<◌, zero, suc, Bool, true, false, cond, not}
use Rattle.std.proofs.Common.{◌==◌, List, [], ◌∷◌, ◌++◌, Option, Some, None, inl, inr, refl, sym}
use Rattle.std.proofs.Common.{ap, ◌∙◌, subst, length, take, drop, get_or, add-zero}
use Rattle.std.proofs.Common.{append_assoc, arith}
use Rattle.std.specs.Prelude.{map, is_none, IfSome, slice_get, replicate}
use Rattle.std.specs.Option.{option_map}
use Rattle.std.specs.List.{prefix_len, position_or_len, before_first}
use Rattle.std.proofs.lemmas.List.{drop_more, drop-map, get_or_past, get_or-set_same}
use Rattle.std.proofs.lemmas.List.{get_or-set_other, length-replicate, length-append, length-map}
use Rattle.std.proofs.lemmas.Bool.Decides.{eqb_tells}
use Rattle.std.proofs.Math.Seq.{drop-append_seam, drop-length}
use Rattle.std.proofs.lemmas.List.Sums.{prefix_len-le-length}
use Rattle.plant_types.specs.declared.network.Network.{Network}
use Rattle.plant_types.specs.declared.network.Segment.{Segment}
use Rattle.plant_types.specs.declared.network.Cell.{Cell}
use Rattle.grid_compile.specs.declared.grid.Grid.{Grid}
use Rattle.grid_compile.specs.Cells.{cell_at}
use Rattle.grid_compile.specs.Lists.{op_found}
use Rattle.grid_compile.specs.Layout.{columns_from, grid_of, grids_of}
use Rattle.grid_compile.proofs.Listing.{lists_column}
use Rattle.ladder_solver.specs.declared.program.Span.{Span}
use Rattle.ladder_solver.specs.Numbers.{networks_if, networks_of}
use Rattle.ladder_solver.specs.Subroutine.{Subroutine, label_of_cell, network_label, is_labelled}
use Rattle.ladder_solver.specs.Subroutine.{is_label_number, has_label_number, subroutine_from}
use Rattle.ladder_solver.specs.Program.{label_of_op, label_in, grids_at, last_grids, with_room}
use Rattle.ladder_solver.specs.Program.{put_span, spans_from, spans_of, subroutine_in}
use Rattle.ladder_solver.specs.Program.{IsSpanOf, IsWithinNetworks}

-- the LABs from a network on
drop_labels : (grids : List Grid) (i : ℕ) (grid : Grid) → i < length grids
    → grid ≡ get_or grids i grid
    → drop i (map label_in grids) ≡ label_in grid ∷ drop (suc i) (map label_in grids)
drop_labels grids i grid within is =
    let e : i + 1 ≡ suc i = omega arith in
    drop-map label_in i grids ∙ ap (map label_in) (rw e at (drop_more grids i grid within))
    ∙ (λ j. label_in (sym is j) ∷ sym (drop-map label_in (suc i) grids) j)

-- no network is left
pub spans_none : (grids : List Grid)
    → [] ≡ spans_from (length grids) (drop (length grids) (map label_in grids))
unfolding spans_from
spans_none grids =
    let none : drop (length grids) (map label_in grids) ≡ [] =
    drop-map label_in (length grids) grids ∙ ap (map label_in) (drop-length grids) in
    rw none refl

pub end_none : (grids : List Grid)
    → length grids ≡ length grids + prefix_len is_none (drop (length grids) (map label_in grids))
end_none grids =
    let none : drop (length grids) (map label_in grids) ≡ [] =
    drop-map label_in (length grids) grids ∙ ap (map label_in) (drop-length grids) in
    rw none (sym (add-zero (length grids)))

-- what is known behind a network
pub record Behind (grids : List Grid) (k : ℕ) (spans : List (Option Span)) (end : ℕ) : Type 0 where
  pub laid : spans ≡ spans_from k (drop k (map label_in grids))
  pub next : end ≡ k + prefix_len is_none (drop k (map label_in grids))

-- a network with a LAB
pub behind_label : (grids : List Grid) (i k number end : ℕ) (grid : Grid)
    (spans : List (Option Span)) → k ≡ suc i → i < length grids
    → grid ≡ get_or grids i grid → label_in grid ≡ Some number → Behind grids k spans end
    → Behind grids i (put_span number (record { first = i; end = end }) spans) i
unfolding spans_from
behind_label grids i k number end grid spans next within is label h =
    let here : drop i (map label_in grids) ≡ Some number ∷ drop (suc i) (map label_in grids) =
    drop_labels grids i grid within is ∙ (λ j. label j ∷ drop (suc i) (map label_in grids)) in
    record {
      laid =
          (λ j. put_span number (record { first = i; end = h.next j }) (h.laid j))
          ∙ (λ j. put_span number (record {
            first = i;
            end = next j + prefix_len is_none (drop (next j) (map label_in grids));
          })
          (spans_from (next j) (drop (next j) (map label_in grids))))
          ∙ ap (spans_from i) (sym here);
      next = rw here (sym (add-zero i));
    }

-- a network with none
pub behind_none : (grids : List Grid) (i k end : ℕ) (grid : Grid) (spans : List (Option Span))
    → k ≡ suc i → i < length grids
    → grid ≡ get_or grids i grid → label_in grid ≡ None → Behind grids k spans end
    → Behind grids i spans end
unfolding spans_from
behind_none grids i k end grid spans next within is label h =
    let here : drop i (map label_in grids) ≡ None ∷ drop (suc i) (map label_in grids) =
    drop_labels grids i grid within is ∙ (λ j. label j ∷ drop (suc i) (map label_in grids)) in
    let m = prefix_len is_none (drop (suc i) (map label_in grids)) in
    let e : suc i + m ≡ i + (1 + m) = omega arith in
    record {
      laid = h.laid ∙ (λ j. spans_from (next j) (drop (next j) (map label_in grids)))
          ∙ ap (spans_from i) (sym here);
      next = h.next ∙ (λ j. next j + prefix_len is_none (drop (next j) (map label_in grids))) ∙ e
          ∙ ap (λ l. i + prefix_len is_none l) (sym here);
    }

-- the span of a number, looked for from the first LAB on
unfoldable pub span_from : ℕ → ℕ → List (Option ℕ) → Option Span
span_from label first [] = None
span_from label first (here ∷ labels) =
    cond (is_label_number label here)
    (Some (record { first = first; end = suc first + prefix_len is_none labels }))
    (span_from label (suc first) labels)

none_read : (count label : ℕ) → get_or {A = Option Span} (replicate count None) label None ≡ None
none_read zero label = refl
none_read (suc count) zero = refl
none_read (suc count) (suc label) = none_read count label

-- room changes nothing that is read
room_read : (spans : List (Option Span)) (count label : ℕ)
    → get_or (spans ++ replicate count None) label None ≡ get_or spans label None
room_read [] count label = none_read count label
room_read (span ∷ spans) count zero = refl
room_read (span ∷ spans) count (suc label) = room_read spans count label

has_room : (spans : List (Option Span)) (number : ℕ)
    → number < length (with_room (number + 1) spans)
has_room spans number =
    let more : ℕ = number + 1 - length spans in
    omega
    (arith, length-append spans (replicate more None), length-replicate {A = Option Span} more None)

-- a span that is put under a number, read
put_read : (spans : List (Option Span)) (number label : ℕ) (span : Span) (other : Option Span)
    → get_or spans label None ≡ other
    → get_or (put_span number span spans) label None ≡ cond (number == label) (Some span) other
put_read spans number label span other rest =
    elim (eqb_tells number label) [
      | inl same ↦ rw same.0
          (subst (λ (n : ℕ). get_or (put_span n span spans) label None ≡ Some span) (sym same.1)
          (get_or-set_same (with_room (label + 1) spans) label (Some span) None
          (has_room spans label)))
      | inr apart ↦ rw apart.0 (get_or-set_other (with_room (number + 1) spans) number label
          (Some span) None (λ e. apart.1 (sym e))
          ∙ room_read spans (number + 1 - length spans) label ∙ rest)
    ]

-- a number's span is the one of the first network with its LAB
pub span_under : (first : ℕ) (labels : List (Option ℕ)) (label : ℕ)
    → get_or (spans_from first labels) label None ≡ span_from label first labels
unfolding spans_from span_from
span_under first [] label = refl
span_under first (None ∷ labels) label = span_under (suc first) labels label
span_under first (Some number ∷ labels) label =
    put_read (spans_from (suc first) labels) number label _ _ (span_under (suc first) labels label)

later_within : (first count : ℕ) (o : Option Span)
    → IfSome o (λ span. (span.first < span.end) × (span.end ≤ suc first + count))
    → IfSome o (λ span. (span.first < span.end) × (span.end ≤ first + suc count))
later_within first count None h = tt
later_within first count (Some span) h = (h.0, omega (arith, h.1))

choice_within : (b : Bool) (first : ℕ) (labels : List (Option ℕ)) (o : Option Span)
    → IfSome o (λ span. (span.first < span.end) × (span.end ≤ suc first + length labels))
    → IfSome (cond b
    (Some (record { first = first; end = suc first + prefix_len is_none labels })) o)
    (λ span. (span.first < span.end) × (span.end ≤ first + suc (length labels)))
choice_within true first labels o h =
    (omega arith, omega (arith, prefix_len-le-length is_none labels))
choice_within false first labels o h = later_within first (length labels) o h

-- it lies within the networks
pub span_within : (label first : ℕ) (labels : List (Option ℕ))
    → IfSome (span_from label first labels)
    (λ span. (span.first < span.end) × (span.end ≤ first + length labels))
unfolding span_from
span_within label first [] = tt
span_within label first (here ∷ labels) =
    choice_within (is_label_number label here) first labels (span_from label (suc first) labels)
    (span_within label (suc first) labels)

-- the networks before the next LAB, counted over the LABs
pub before_label : (networks : List Network) → before_first is_labelled networks
    ≡ take (prefix_len is_none (map network_label networks)) networks
before_label networks = ap (λ n. take n networks) (same networks)
  where
    same : (networks : List Network)
        → position_or_len is_labelled networks ≡ prefix_len is_none (map network_label networks)
    same [] = refl
    same (network ∷ networks) = ap (λ n. cond (not (is_labelled network)) (1 + n) 0) (same networks)

-- the subroutine at a network, read off the whole list
subroutine_here : (earlier : List Network) (network : Network) (networks : List Network)
    → subroutine_in (earlier ++ network ∷ networks)
    (record {
      first = length earlier;
      end = suc (length earlier) + prefix_len is_none (map network_label networks);
    })
    ≡ record { first = length earlier + 1; networks = network ∷ before_first is_labelled networks }
subroutine_here earlier network networks =
    let count = prefix_len is_none (map network_label networks) in
    let many : suc (length earlier) + count - length earlier ≡ suc count = omega arith in
    λ j. record {
      first = length earlier + 1;
      networks = (ap (λ n. take n (drop (length earlier) (earlier ++ network ∷ networks))) many
          ∙ ap (take (suc count)) (drop-append_seam earlier (network ∷ networks))
          ∙ ap (λ xs. network ∷ xs) (sym (before_label networks))) j;
    }

choice_is : (b : Bool) (f : Span → Subroutine) (span : Span) (here : Subroutine)
    (later : Option Span) (rest : Option Subroutine)
    → f span ≡ here → option_map f later ≡ rest
    → option_map f (cond b (Some span) later) ≡ cond b (Some here) rest
choice_is true f span here later rest h k = ap (λ s. Some s) h
choice_is false f span here later rest h k = k

-- the span from a network on is the subroutine from it on
pub span_is : (earlier networks : List Network) (label : ℕ)
    → option_map (subroutine_in (earlier ++ networks))
    (span_from label (length earlier) (map network_label networks))
    ≡ subroutine_from label (length earlier + 1) networks
unfolding span_from subroutine_from
span_is earlier [] label = refl
span_is earlier (network ∷ networks) label =
    let one_more : (earlier ++ network ∷ []) ++ networks ≡ earlier ++ network ∷ networks =
    rw append_assoc refl in
    let longer : length (earlier ++ network ∷ []) ≡ suc (length earlier) =
    length-append earlier (network ∷ []) ∙ omega arith in
    let number : length (earlier ++ network ∷ []) + 1 ≡ length earlier + 1 + 1 =
    omega (arith, longer) in
    choice_is (has_label_number label network) (subroutine_in (earlier ++ network ∷ networks)) _ _ _
    _ (subroutine_here earlier network networks)
    ((λ j. option_map (subroutine_in (sym one_more j))
    (span_from label (sym longer j) (map network_label networks)))
    ∙ span_is (earlier ++ network ∷ []) networks label
    ∙ ap (λ n. subroutine_from label n networks) number)

-- the LAB of a network, in its grid
label_found : (found : Option Cell) → label_of_op (op_found found) ≡ label_of_cell found
label_found None = refl
label_found (Some cell) = refl

label_in-grid : (network : Network) → label_in (grid_of network) ≡ network_label network
unfolding columns_from
label_in-grid network = ap label_of_op ((lists_column network 1).cells 1 (omega arith)
    (omega arith)) ∙ label_found (cell_at network.cells 1 1)

labels_in : (networks : List Network)
    → map label_in (map grid_of networks) ≡ map network_label networks
labels_in [] = refl
labels_in (network ∷ networks) = λ j. label_in-grid network j ∷ labels_in networks j

-- the grids of a segment
grids_by : (segments : List Segment) (i : ℕ)
    → get_or (grids_of segments) i [] ≡ map grid_of (networks_if (slice_get segments i))
grids_by [] i = refl
grids_by (segment ∷ segments) zero = refl
grids_by (segment ∷ segments) (suc i) = grids_by segments i

-- the grids of a segment are those of its networks
pub grids_at-of : (segments : List Segment) (number : ℕ)
    → grids_at (grids_of segments) number ≡ map grid_of (networks_of segments number)
grids_at-of segments number = grids_by segments (number - 1)

pub last_grids-of : (segments : List Segment)
    → last_grids (grids_of segments) ≡ map grid_of (networks_of segments (length segments))
last_grids-of segments =
    ap (grids_at (grids_of segments)) (length-map segments
    (λ (segment : Segment). map grid_of segment.networks)) ∙ grids_at-of segments (length segments)

-- what is looked up is where the subroutine stands
pub is_span_of : (grids : List (List Grid)) (label : ℕ) (span : Option Span)
    → span ≡ span_from label 0 (map label_in (last_grids grids))
    → IsSpanOf grids label span
is_span_of grids label span found segments same =
    let networks = networks_of segments (length segments) in
    let labels : map label_in (last_grids grids) ≡ map network_label networks =
    ap (λ gs. map label_in (last_grids gs)) (sym same) ∙ ap (map label_in) (last_grids-of segments)
    ∙ labels_in networks in
    ap (option_map (subroutine_in networks)) (found ∙ ap (span_from label 0) labels)
    ∙ span_is [] networks label

from_zero : (o : Option Span) (count : ℕ) → IfSome o
    (λ span. (span.first < span.end) × (span.end ≤ 0 + count)) → IfSome o (IsWithinNetworks count)
from_zero None count h = tt
from_zero (Some span) count h = (h.0, omega (arith, h.1))

-- and it lies within the last segment
pub is_within : (grids : List Grid) (label : ℕ) (span : Option Span)
    → span ≡ span_from label 0 (map label_in grids)
    → IfSome span (IsWithinNetworks (length grids))
is_within grids label span found =
    subst (λ (o : Option Span). IfSome o (IsWithinNetworks (length grids))) (sym found)
    (subst (λ (n : ℕ). IfSome (span_from label 0 (map label_in grids)) (IsWithinNetworks n))
    (length-map grids label_in)
    (from_zero (span_from label 0 (map label_in grids)) (length (map label_in grids))
    (span_within label 0 (map label_in grids))))

-- an item that is read, beside another default
pub item_at : {X : Type 0} (xs : List X) (i : ℕ) (x d : X) → i < length xs → x ≡ get_or xs i x
    → x ≡ get_or xs i d
item_at [] i x d within is = absurd (omega arith)
item_at (y ∷ ys) zero x d within is = is
item_at (y ∷ ys) (suc i) x d within is = item_at ys i x d (omega arith) is

-- a span that is read
pub span_found : (grids : List Grid) (spans : List (Option Span)) (number label : ℕ)
    → spans ≡ spans_of grids → number ≡ label
    → get_or spans number None ≡ span_from label 0 (map label_in grids)
span_found grids spans number label laid same = (λ j. get_or (laid j) (same j) None)
    ∙ span_under 0 (map label_in grids) label

-- no span under a number behind the last
pub none_found : (grids : List Grid) (spans : List (Option Span)) (number label : ℕ)
    → spans ≡ spans_of grids → number ≡ label
    → length spans ≤ number → None ≡ span_from label 0 (map label_in grids)
none_found grids spans number label laid same behind = sym (get_or_past spans number None behind)
    ∙ span_found grids spans number label laid same

-- no segment, no span
pub no_segments : (segments : List (List Grid)) → length segments ≡ 0
    → [] ≡ spans_of (last_grids segments)
unfolding spans_from
no_segments [] none = refl
no_segments (grids ∷ segments) none = absurd (omega (arith, none))
