-- The notes of calls, and of the networks of a run, one after another.
use Rattle.std.proofs.Common.{◌≡◌, ℕ, ◌+◌, ◌-◌, ◌<◌, ◌≤◌, zero, suc, get_or, List, [], ◌∷◌, ◌++◌}
use Rattle.std.proofs.Common.{Option, Some, None, false, cond, ◌==◌, refl, ◌∙◌, sym, ap, length}
use Rattle.std.proofs.Common.{drop, add-zero, arith}
use Rattle.std.specs.Prelude.{map, SomeIff}
use Rattle.std.specs.List.{slice_range}
use Rattle.std.specs.Option.{option_map}
use Rattle.std.proofs.lemmas.Bool.Decides.{nat_tests}
use Rattle.std.proofs.lemmas.List.{append-nil, append_assoc}
use Rattle.plant_types.specs.declared.element.Element.{Element}
use Rattle.plant_types.specs.declared.element.Element.TheVariants.{Open, Closed, Rise, Fall, Coil}
use Rattle.plant_types.specs.declared.element.Element.TheVariants.{Latch, Wire, Timer, Counter}
use Rattle.plant_types.specs.declared.element.Element.TheVariants.{Math, Move, Matrix, Skip, Label}
use Rattle.plant_types.specs.declared.element.Element.TheVariants.{Call, Return, Mstr}
use Rattle.plant_types.specs.declared.element.Operand.{Operand}
use Rattle.plant_types.specs.declared.network.Network.{Network}
use Rattle.plant_types.specs.declared.network.Segment.{Segment}
use Rattle.plant_types.specs.declared.power.NodePower.{NodePower}
use Rattle.ladder_solver.specs.declared.layout.Spot.{Spot}
use Rattle.ladder_solver.specs.declared.program.Span.{Span}
use Rattle.ladder_solver.specs.State.{SolveState}
use Rattle.ladder_solver.specs.Flow.{Flow, Skips, Setting}
use Rattle.ladder_solver.specs.Network.{Site, network_after}
use Rattle.ladder_solver.specs.Numbers.{networks_of}
use Rattle.ladder_solver.specs.Segment.{setting_within}
use Rattle.ladder_solver.specs.Subroutine.{subroutine_of}
use Rattle.ladder_solver.specs.Program.{subroutine_in}
use Rattle.ladder_solver.specs.Layout.{network_spots}
use Rattle.ladder_solver.specs.Noted.{NetworkFlow, CallNotes, columns, columns_notes, element_notes}
use Rattle.ladder_solver.specs.Noted.{border_of, network_notes, network_start, networks_notes}
use Rattle.ladder_solver.specs.Noted.{notes_behind, notes_within, turn_notes}
use Rattle.ladder_solver.specs.Noting.{notes_turned}
use Rattle.ladder_solver.proofs.NumberLemmas.{laid_networks, length-laid}
use Rattle.ladder_solver.proofs.Runs.{drop_range, network_at}

-- no element but JSR notes anything
pub not_called : (noting : CallNotes) (element : Element) (inputs : NodePower) (s : SolveState)
    → ((number : Operand) → element ≡ Call number → ⊥) → element_notes noting element inputs s ≡ []
not_called noting (Open at) inputs s apart = refl
not_called noting (Closed at) inputs s apart = refl
not_called noting (Rise at) inputs s apart = refl
not_called noting (Fall at) inputs s apart = refl
not_called noting (Coil at) inputs s apart = refl
not_called noting (Latch at) inputs s apart = refl
not_called noting Wire inputs s apart = refl
not_called noting (Timer unit preset acc) inputs s apart = refl
not_called noting (Counter up preset acc) inputs s apart = refl
not_called noting (Math op top mid low) inputs s apart = refl
not_called noting (Move op top mid count) inputs s apart = refl
not_called noting (Matrix op top mid count) inputs s apart = refl
not_called noting (Skip count) inputs s apart = refl
not_called noting (Label number) inputs s apart = refl
not_called noting (Call number) inputs s apart = absurd (apart number refl)
not_called noting Return inputs s apart = refl
not_called noting (Mstr control area count) inputs s apart = refl

-- nothing is added
pub adds_none : (old added : List NetworkFlow) → added ≡ [] → old ≡ old ++ added
adds_none old added none = sym (ap (λ xs. old ++ xs) none ∙ append-nil old)

-- calls are as deep as they can be
pub notes-deep : (segments : List Segment) (depth number : ℕ) (s : SolveState) → depth ≡ 0
    → notes_within depth segments number s ≡ []
unfolding notes_within
notes-deep segments depth number s deep = rw deep refl

-- there is no subroutine
pub notes-missing : (segments : List Segment) (depth number : ℕ) (s : SolveState)
    (span : Option Span)
    → option_map (subroutine_in (networks_of segments (length segments))) span
    ≡ subroutine_of (networks_of segments (length segments)) number
    → span ≡ None → notes_within depth segments number s ≡ []
unfolding notes_within
notes-missing segments zero number s span found none = refl
notes-missing segments (suc depth) number s span found none = rw (sym found, none) refl

-- the subroutine is run
pub notes-found : (segments : List Segment) (depth number last : ℕ) (s : SolveState)
    (span : Option Span) (some : Span) (old new : List NetworkFlow) → (depth ≡ 0 → ⊥)
    → option_map (subroutine_in (networks_of segments (length segments))) span
    ≡ subroutine_of (networks_of segments (length segments)) number
    → span ≡ Some some → last ≡ length segments
    → new ≡ old ++ networks_notes (notes_within (depth - 1) segments)
    (setting_within (depth - 1) segments) last (some.first + 1)
    (slice_range (networks_of segments last) some.first some.end) 0 s
    → new ≡ old ++ notes_within depth segments number s
unfolding notes_within
notes-found segments zero number last s span some old new deep found is there ran =
    absurd (deep refl)
notes-found segments (suc depth) number last s span some old new deep found is there ran =
    let back : suc depth - 1 ≡ depth = omega arith in
    rw (sym found, is) (rw (back, there) at ran)

-- the notes of a network are those of its calls, and its own
pub network-noted : (noting : CallNotes) (setting : Setting) (network : Network) (site : Site)
    (s : SolveState) (borders : ℕ → Option ℕ) (note : NetworkFlow)
    (old so_far new : List NetworkFlow)
    → so_far ≡ old ++ columns_notes noting setting network site 1 11 (network_start s)
    → ((column : ℕ) → 1 ≤ column → column ≤ 11
    → borders column ≡ border_of setting network site s column)
    → note ≡ record {
      segment = site.segment;
      network = site.network;
      borders = map borders columns;
    }
    → new ≡ so_far ++ note ∷ []
    → new ≡ old ++ network_notes noting setting network site s
network-noted noting setting network site s borders note old so_far new calls told is pushed =
    let b : (column : ℕ) → 1 ≤ column → column ≤ 11
    → borders column ≡ border_of setting network site s column = told in
    let same : map borders columns ≡ map (border_of setting network site s) columns =
    λ i. b 1 (omega arith) (omega arith) i ∷ b 2 (omega arith) (omega arith) i ∷
    b 3 (omega arith) (omega arith) i ∷ b 4 (omega arith) (omega arith) i ∷
    b 5 (omega arith) (omega arith) i ∷ b 6 (omega arith) (omega arith) i ∷
    b 7 (omega arith) (omega arith) i ∷ b 8 (omega arith) (omega arith) i ∷
    b 9 (omega arith) (omega arith) i ∷ b 10 (omega arith) (omega arith) i ∷
    b 11 (omega arith) (omega arith) i ∷ [] in
    let made : List NetworkFlow = columns_notes noting setting network site 1 11
    (network_start s) in
    pushed
    ∙ (λ i. calls i ++ (is ∙ (λ j. record {
      segment = site.segment;
      network = site.network;
      borders = same j;
    })) i ∷ [])
    ∙ append_assoc old made _

-- behind a SKP
pub skips_turned : (count : ℕ) (skipped : Option ℕ) (rest : ℕ → SolveState → List NetworkFlow)
    (s : SolveState) → SomeIff skipped (1 ≤ count) (count - 1)
    → notes_behind (Skips count) rest s ≡ notes_turned skipped rest s
skips_turned zero None rest s is = refl
skips_turned zero (Some x) rest s is = absurd (omega (arith, is.0))
skips_turned (suc count) None rest s is = absurd (is (omega arith))
skips_turned (suc count) (Some x) rest s is =
    let e : count ≡ x = omega (arith, is.1) in
    ap (λ n. rest n s) e

-- a network that begins, and what comes behind it
pub turn_told : (noting : CallNotes) (setting : Setting) (network : Network) (site : Site)
    (s after : SolveState) (left : ℕ) (flow : Flow) (old new : List NetworkFlow)
    (skipped : Option ℕ) (rest : ℕ → SolveState → List NetworkFlow)
    → left ≡ s.left - 1 → (left ≡ 0 → ⊥)
    → network_after setting network site (record s { left = left }) ≡ (after, flow)
    → new ≡ old ++ network_notes noting setting network site (record s { left = left })
    → notes_behind flow rest after ≡ notes_turned skipped rest after
    → old ++ turn_notes noting setting network site rest s
    ≡ new ++ notes_turned skipped rest after
turn_told noting setting network site s after left flow old new skipped rest is some done noted
    behind =
    let no : (left == 0) ≡ false = grind (arith, nat_tests, some) in
    let begun : SolveState = record s { left = left } in
    let notes = network_notes noting setting network site begun in
    let turn : turn_notes noting setting network site rest s
    ≡ notes ++ notes_turned skipped rest after =
    (λ i. cond (sym is i == 0) []
    (network_notes noting setting network site (record s { left = sym is i })
    ++ notes_behind (network_after setting network site (record s { left = sym is i })).1 rest
    (network_after setting network site (record s { left = sym is i })).0))
    ∙ (λ i. cond (no i) [] (notes ++ notes_behind (done i).1 rest (done i).0))
    ∙ ap (λ xs. notes ++ xs) behind in
    ap (λ xs. old ++ xs) turn
    ∙ sym (append_assoc old notes (notes_turned skipped rest after))
    ∙ ap (λ xs. xs ++ notes_turned skipped rest after) (sym noted)

-- skipped networks are left out
notes_over : (noting : CallNotes) (setting : Setting) (segment number : ℕ) (networks : List Network)
    (skipped : ℕ) (s : SolveState)
    → networks_notes noting setting segment number networks skipped s
    ≡ networks_notes noting setting segment (number + skipped) (drop skipped networks) 0 s
unfolding networks_notes
notes_over noting setting segment number networks zero s = rw add-zero refl
notes_over noting setting segment number [] (suc skipped) s = refl
notes_over noting setting segment number (network ∷ networks) (suc skipped) s =
    let e : number + suc skipped ≡ number + 1 + skipped = omega arith in
    rw e (notes_over noting setting segment (number + 1) networks skipped s)

-- the notes of a run behind a network that is begun
abbrev rest_notes : CallNotes → Setting → ℕ → ℕ → ℕ → List Network → ℕ → SolveState
    → List NetworkFlow
rest_notes noting setting segment i end networks =
    networks_notes noting setting segment (i + 1 + 1) (slice_range networks (i + 1) end)

-- behind those that are skipped
notes-skip : (noting : CallNotes) (setting : Setting) (segment i skipped end : ℕ)
    (networks : List Network) (s : SolveState)
    → rest_notes noting setting segment i end networks skipped s
    ≡ networks_notes noting setting segment (i + (1 + skipped) + 1)
    (slice_range networks (i + (1 + skipped)) end) 0 s
notes-skip noting setting segment i skipped end networks s =
    let number : i + 1 + 1 + skipped ≡ i + (1 + skipped) + 1 = omega arith in
    let index : i + 1 + skipped ≡ i + (1 + skipped) = omega arith in
    notes_over noting setting segment (i + 1 + 1) (slice_range networks (i + 1) end) skipped s
    ∙ (λ j. networks_notes noting setting segment (number j)
    (drop_range networks (i + 1) skipped end j) 0 s)
    ∙ ap (λ n. networks_notes noting setting segment (i + (1 + skipped) + 1)
    (slice_range networks n end) 0 s) index

module _ (noting : CallNotes) (setting : Setting) (segment i end : ℕ) (networks : List Network)
    (items : List (List Spot)) (spots : List Spot) (now after : SolveState)
    (old new : List NetworkFlow) (skipped : Option ℕ) (more : i < end) (within : end ≤ length items)
    (laid : items ≡ laid_networks setting.numbers segment 1 networks)
    (is : spots ≡ get_or items i spots)
    (noted : (network : Network) → spots ≡ network_spots setting.numbers
    (record { segment = segment; network = i + 1 }) network
    → (rest : ℕ → SolveState → List NetworkFlow)
    → old ++ turn_notes noting setting network (record { segment = segment; network = i + 1 })
    rest now ≡ new ++ notes_turned skipped rest after) where
  -- a run goes on with the network at an index
  turn_noted : old ++ networks_notes noting setting segment (i + 1) (slice_range networks i end) 0
      now ≡ new ++ notes_turned skipped (rest_notes noting setting segment i end networks) after
  unfolding networks_notes
  turn_noted =
      let many = ap length laid ∙ length-laid setting.numbers segment 1 networks in
      let found = network_at setting.numbers segment 1 networks i spots
      (omega (arith, many, more, within)) (is ∙ ap (λ xs. get_or xs i spots) laid) in
      let number : 1 + i ≡ i + 1 = omega arith in
      let one : end - i ≡ suc (end - (i + 1)) = omega arith in
      let turn : networks_notes noting setting segment (i + 1) (slice_range networks i end) 0 now
      ≡ turn_notes noting setting found.0 (record { segment = segment; network = i + 1 })
      (rest_notes noting setting segment i end networks) now = rw (one, found.1) refl in
      ap (λ xs. old ++ xs) turn
      ∙ noted found.0 (rw number at found.2) (rest_notes noting setting segment i end networks)

  -- and ends with it
  pub notes-end : skipped ≡ None
      → old ++ networks_notes noting setting segment (i + 1) (slice_range networks i end) 0 now
      ≡ new
  notes-end none = turn_noted
      ∙ ap (λ o. new ++ notes_turned o (rest_notes noting setting segment i end networks) after)
      none
      ∙ append-nil new

  -- or goes on behind those that are skipped
  pub notes-go : (many count : ℕ) → skipped ≡ Some many → count ≡ many
      → old ++ networks_notes noting setting segment (i + 1) (slice_range networks i end) 0 now
      ≡ new ++ networks_notes noting setting segment (i + (1 + count) + 1)
      (slice_range networks (i + (1 + count)) end) 0 after
  notes-go many count some same =
      turn_noted
      ∙ ap (λ o. new ++ notes_turned o (rest_notes noting setting segment i end networks) after)
      (some ∙ ap Some (sym same))
      ∙ ap (λ xs. new ++ xs) (notes-skip noting setting segment i count end networks after)

-- a run that is over notes nothing more
pub notes-over : (noting : CallNotes) (setting : Setting) (segment i end : ℕ)
    (networks : List Network) (s : SolveState) → end ≤ i
    → networks_notes noting setting segment (i + 1) (slice_range networks i end) 0 s ≡ []
unfolding networks_notes
notes-over noting setting segment i end networks s over =
    let none : end - i ≡ 0 = omega arith in
    rw none refl
