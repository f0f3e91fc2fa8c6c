-- What an element does in two states that agree on a set: alike where it matters, and nothing to
-- the agreement where it doesn't.
use Rattle.std.proofs.Common.{◌≡◌, ℕ, Bool, true, false, cond, List, [], Option, Some}
use Rattle.std.proofs.Common.{None, refl, sym, ap, subst, ◌∙◌, arith}
use Rattle.std.specs.Prelude.{if◌then◌else◌, ◌&&◌, ◌||◌, not, nat_lt}
use Rattle.std.proofs.lemmas.List.Folds.{list_any-append}
use Rattle.std.specs.Cmp.{Equal-is}
use Rattle.std.specs.List.{list_any, flat_map}
use Rattle.std.specs.FinSet.{contains}
use Rattle.plant_types.specs.declared.reference.Ref.{Ref}
use Rattle.plant_types.specs.declared.element.Element.{Element}
use Rattle.plant_types.specs.declared.element.Element.TheVariants.{Open, Closed, Rise, Fall, Coil}
use Rattle.plant_types.specs.declared.element.Element.TheVariants.{Latch, Wire, Timer, Counter}
use Rattle.plant_types.specs.declared.element.Element.TheVariants.{Math, Move, Matrix, Skip, Label}
use Rattle.plant_types.specs.declared.element.Element.TheVariants.{Call, Return, Mstr}
use Rattle.plant_types.specs.declared.element.Operand.{Operand}
use Rattle.plant_types.specs.declared.element.Operand.TheVariants.{Const}
use Rattle.plant_types.specs.declared.element.MatrixOp.{MatrixOp}
use Rattle.plant_types.specs.declared.element.MatrixOp.TheVariants as matrices
use Rattle.plant_types.specs.declared.network.Segment.{Segment}
use Rattle.plant_types.specs.declared.power.NodePower.{NodePower}
use Rattle.plant_types.specs.Discretes.{Refs}
use Rattle.plant_types.specs.Effect.{Effect}
use Rattle.plant_types.specs.Operands.{names_of, named_in, operand_number}
use Rattle.plant_types.specs.Standing.{is_message}
use Rattle.plant_types.specs.Store.{Contents}
use Rattle.relay_ops.specs.declared.ContactKind.{ContactKind}
use Rattle.relay_ops.specs.declared.ContactKind.TheVariants as contacts
use Rattle.relay_ops.specs.Relay.{passes_power}
use Rattle.ladder_solver.specs.declared.places.BlockPlace.{BlockPlace}
use Rattle.ladder_solver.specs.State.{SolveState, Places, place_cmp, with_place}
use Rattle.ladder_solver.specs.Element.{one_node, contact_after, coil_after, block_after}
use Rattle.ladder_solver.specs.Element.{counter_after, timing_effect, counting_effect}
use Rattle.ladder_solver.specs.Flow.{Setting, Left, called, call_left}
use Rattle.ladder_solver.specs.Flow.{flow_behind, goes_on, solved_element}
use Rattle.ladder_solver.proofs.PlaceSets.{contains-with_place, is_place, eq_by_cmp-place, exact_places}
use Rattle.cone_of.specs.Uses.{is_read, is_stored, run_where, moves_number, holding_in, moved_by}
use Rattle.cone_of.specs.Uses.{directs, has_read, stores_in}
use Rattle.cone_laws.specs.Agree.{SameIn, place_matters, Agree}
use Rattle.cone_laws.proofs.Stores.{Has, Lacks, has-first, lacks-first, insert-both, insert-elsewhere}
use Rattle.cone_laws.proofs.Stores.{number-read}
use Rattle.cone_laws.proofs.Both.{SameEffect, timer-same, up-same, down-same}
use Rattle.cone_laws.proofs.Elsewhere.{timer-leaves, up-leaves, down-leaves}
use Rattle.cone_laws.proofs.Named.{LacksNamed, or_parts, names-had, names-lacked, operand-had}
use Rattle.cone_laws.proofs.Named.{all_second, pointer-lacked}
use Rattle.cone_laws.proofs.Blocks.{ReadsOf, StoresOf, LacksMoved, math-same, move-same}
use Rattle.cone_laws.proofs.Blocks.{matrix-same, math-leaves, move-leaves, matrix-leaves}

-- an element does alike in two states: the same power and flow, and states that agree
pub record Both (segments : List Segment) (set : Refs) (one other : Left) : Type 0 where
  pub outputs : one.0.0 ≡ other.0.0
  pub states : Agree segments set one.0.1 other.0.1
  pub flow : one.1 ≡ other.1

-- an element leaves the agreement as it is, and the solve goes on
pub record Passes (segments : List Segment) (set : Refs) (s : SolveState) (left : Left) : Type 0 where
  pub states : Agree segments set s left.0.1
  pub flow : left.1 ≡ (goes_on left.0).1

-- a subroutine is found in both states, or in neither
abbrev pub BothFound : List Segment → Refs → Option SolveState → Option SolveState → Type 0
BothFound segments set None None = Unit {0}
BothFound segments set (Some s) (Some t) = Agree segments set s t
BothFound segments set _ _ = ⊥

-- a place that passes the test of another is that
same-place : (q place : BlockPlace) → is_place place q ≡ true → q ≡ place
same-place q place t =
    exact_places q place ((Equal-is (place_cmp q place)).0 (eq_by_cmp-place q place ∙ t))

module _ (segments : List Segment) (set : Refs) where
  pub agrees-itself : (s : SolveState) → Agree segments set s s
  agrees-itself s = record {
    references = λ at has. refl;
    past = λ at has. refl;
    edges = λ place matters. refl;
    clock = refl;
    left = refl;
  }

  pub agrees-back : (s t : SolveState) → Agree segments set s t → Agree segments set t s
  agrees-back s t a = record {
    references = λ at has. sym (a.references at has);
    past = λ at has. sym (a.past at has);
    edges = λ place matters. sym (a.edges place matters);
    clock = sym a.clock;
    left = sym a.left;
  }

  pub agrees-on : (s t u : SolveState) → Agree segments set s t → Agree segments set t u
      → Agree segments set s u
  agrees-on s t u a b = record {
    references = λ at has. a.references at has ∙ b.references at has;
    past = λ at has. a.past at has ∙ b.past at has;
    edges = λ place matters. a.edges place matters ∙ b.edges place matters;
    clock = a.clock ∙ b.clock;
    left = a.left ∙ b.left;
  }

  with-maps : (s t : SolveState) (m n : Contents) → Agree segments set s t → SameIn set m n
      → Agree segments set (record s { map = m }) (record t { map = n })
  with-maps s t m n a same = record {
    references = same;
    past = a.past;
    edges = a.edges;
    clock = a.clock;
    left = a.left;
  }

  block-both : (s t : SolveState) (one other : Effect) → Agree segments set s t
      → SameEffect set one other
      → Both segments set (goes_on (block_after one s)) (goes_on (block_after other t))
  block-both s t one other a e =
      record { outputs = e.outputs; states = with-maps s t _ _ a e.stored; flow = refl }

  block-passes : (s : SolveState) (done : Effect) → SameIn set s.map done.stored
      → Passes segments set s (goes_on (block_after done s))
  block-passes s done same =
      record { states = with-maps s s _ _ (agrees-itself s) same; flow = refl }

  -- ---- relays

  passes-both : (kind : ContactKind) (at : Ref) (s t : SolveState) → Agree segments set s t
      → contains set at ≡ true
      → passes_power kind at s.map s.past ≡ passes_power kind at t.map t.past
  passes-both contacts.Open at s t a has = ap (nat_lt 0) (a.references at has)
  passes-both contacts.Closed at s t a has = ap (λ n. not (nat_lt 0 n)) (a.references at has)
  passes-both contacts.Rise at s t a has =
      let word = a.references at has in
      let past = a.past at has in
      λ i. nat_lt 0 (word i) && not (past i)
  passes-both contacts.Fall at s t a has =
      let word = a.references at has in
      let past = a.past at has in
      λ i. not (nat_lt 0 (word i)) && past i

  contact-both : (kind : ContactKind) (at : Ref) (inputs : NodePower) (s t : SolveState)
      → Agree segments set s t → Has set at 1
      → Both segments set (goes_on (contact_after kind at inputs s))
      (goes_on (contact_after kind at inputs t))
  contact-both kind at inputs s t a has = record {
    outputs = ap (λ on. one_node (inputs.top && on))
        (passes-both kind at s t a (has-first set at 1 (omega arith) has));
    states = a;
    flow = refl;
  }

  coil-both : (at : Ref) (inputs : NodePower) (s t : SolveState) → Agree segments set s t
      → Both segments set (goes_on (coil_after at inputs s)) (goes_on (coil_after at inputs t))
  coil-both at inputs s t a = record {
    outputs = refl;
    states = with-maps s t _ _ a (insert-both set s.map t.map at _ a.references);
    flow = refl;
  }

  coil-passes : (at : Ref) (inputs : NodePower) (s : SolveState) → contains set at ≡ false
      → Passes segments set s (goes_on (coil_after at inputs s))
  coil-passes at inputs s lacks = record {
    states = with-maps s s _ _ (agrees-itself s) (insert-elsewhere set s.map at _ lacks);
    flow = refl;
  }

  -- ---- counters

  counting-same : (up : Bool) (preset : Operand) (acc : Ref) (one other : Bool)
      (inputs : NodePower) (m n : Contents) → one ≡ other → SameIn set m n
      → ReadsOf set (Counter up preset acc)
      → SameEffect set (counting_effect up preset acc one inputs m)
      (counting_effect up preset acc other inputs n)
  counting-same true preset acc one other inputs m n edge same reads =
      let operands = operand-had set preset 1 _ reads in
      up-same set _ _ acc one other inputs m n
      (number-read set m n preset 1 (omega arith) same operands.0) edge same (operands.1.0 refl)
  counting-same false preset acc one other inputs m n edge same reads =
      let operands = operand-had set preset 1 _ reads in
      down-same set _ _ acc one other inputs m n
      (number-read set m n preset 1 (omega arith) same operands.0) edge same (operands.1.0 refl)

  counting-leaves : (up : Bool) (preset : Operand) (acc : Ref) (edge : Bool) (inputs : NodePower)
      (m : Contents) → Lacks set acc 1
      → SameIn set m (counting_effect up preset acc edge inputs m).stored
  counting-leaves true preset acc edge inputs m lacks = up-leaves set _ acc edge inputs m lacks
  counting-leaves false preset acc edge inputs m lacks = down-leaves set _ acc edge inputs m lacks

  edges-both : (one other : Places) (place : BlockPlace) (on : Bool)
      → ((q : BlockPlace) → place_matters set segments q ≡ true → contains one q ≡ contains other q)
      → (q : BlockPlace) → place_matters set segments q ≡ true
      → contains (with_place one place on) q ≡ contains (with_place other place on) q
  edges-both one other place on same q matters =
      contains-with_place one place on q
      ∙ ap (cond (is_place place q) on) (same q matters)
      ∙ sym (contains-with_place other place on q)

  by-place : (places : Places) (place q : BlockPlace) (on b : Bool) → is_place place q ≡ b
      → place_matters set segments place ≡ false → place_matters set segments q ≡ true
      → contains places q ≡ contains (with_place places place on) q
  by-place places place q on true is apart matters =
      let no' : true ≡ false = sym matters
      ∙ (ap (place_matters set segments) (same-place q place is) ∙ apart) in
      absurd (cc)
  by-place places place q on false is apart matters =
      sym (contains-with_place places place on q
      ∙ ap (λ b. cond b on (contains places q)) is)

  counter-both : (place : BlockPlace) (input : Bool) (s t : SolveState) (one other : Effect)
      → Agree segments set s t → SameEffect set one other
      → Both segments set (goes_on (counter_after one place input s))
      (goes_on (counter_after other place input t))
  counter-both place input s t one other a e = record {
    outputs = e.outputs;
    states = record {
      references = e.stored;
      past = a.past;
      edges = edges-both s.edges t.edges place input a.edges;
      clock = a.clock;
      left = a.left;
    };
    flow = refl;
  }

  counter-passes : (place : BlockPlace) (input : Bool) (s : SolveState) (done : Effect)
      → place_matters set segments place ≡ false → SameIn set s.map done.stored
      → Passes segments set s (goes_on (counter_after done place input s))
  counter-passes place input s done apart same = record {
    states = record {
      references = same;
      past = λ at has. refl;
      edges = λ q matters. by-place s.edges place q input (is_place place q) refl apart matters;
      clock = refl;
      left = refl;
    };
    flow = refl;
  }

  -- ---- calls

  called-both : (found other : Option SolveState) (s t : SolveState)
      → BothFound segments set found other → Agree segments set s t
      → Both segments set (called found s) (called other t)
  called-both None None s t both a = record { outputs = refl; states = a; flow = refl }
  called-both (Some s') (Some t') s t both a = record {
    outputs = refl;
    states = both;
    flow = λ i. flow_behind (record s' { left = both.left i });
  }
  called-both None (Some t') s t both a = absurd both
  called-both (Some s') None s t both a = absurd both

  call-both : (power : Bool) (found other : Option SolveState) (s t : SolveState)
      → BothFound segments set found other → Agree segments set s t
      → Both segments set (call_left power found s) (call_left power other t)
  call-both true found other s t both a = called-both found other s t both a
  call-both false found other s t both a = record { outputs = refl; states = a; flow = refl }

  module _ (setting : Setting) where
    -- what calls make of states that agree
    abbrev pub CallsAgree : Type 0
    CallsAgree = (number : ℕ) (s t : SolveState) → Agree segments set s t
        → BothFound segments set (setting.calls number s) (setting.calls number t)

    reads-both : (element : Element) (place : BlockPlace) (inputs : NodePower) (s t : SolveState)
        → CallsAgree → Agree segments set s t → is_message element ≡ false
        → place_matters set segments place ≡ true → ReadsOf set element
        → Both segments set (solved_element setting element place inputs s)
        (solved_element setting element place inputs t)
    reads-both (Open at) place inputs s t calls a plain matters reads =
        contact-both contacts.Open at inputs s t a (reads.0 refl)
    reads-both (Closed at) place inputs s t calls a plain matters reads =
        contact-both contacts.Closed at inputs s t a (reads.0 refl)
    reads-both (Rise at) place inputs s t calls a plain matters reads =
        contact-both contacts.Rise at inputs s t a (reads.0 refl)
    reads-both (Fall at) place inputs s t calls a plain matters reads =
        contact-both contacts.Fall at inputs s t a (reads.0 refl)
    reads-both (Coil at) place inputs s t calls a plain matters reads = coil-both at inputs s t a
    reads-both (Latch at) place inputs s t calls a plain matters reads = coil-both at inputs s t a
    reads-both Wire place inputs s t calls a plain matters reads =
        record { outputs = refl; states = a; flow = refl }
    reads-both (Timer unit preset acc) place inputs s t calls a plain matters reads =
        let operands = operand-had set preset 1 _ reads in
        let e : SameEffect set (timing_effect unit preset acc s.clock inputs s.map)
        (timing_effect unit preset acc t.clock inputs t.map) =
        subst (λ clock. SameEffect set (timing_effect unit preset acc s.clock inputs s.map)
        (timing_effect unit preset acc clock inputs t.map)) a.clock
        (timer-same set unit (operand_number s.map preset) (operand_number t.map preset) acc
        s.clock inputs s.map t.map
        (number-read set s.map t.map preset 1 (omega arith) a.references operands.0) a.references
        (operands.1.0 refl)) in
        block-both s t _ _ a e
    reads-both (Counter up preset acc) place inputs s t calls a plain matters reads =
        counter-both place inputs.top s t _ _ a
        (counting-same up preset acc (contains s.edges place) (contains t.edges place) inputs
        s.map t.map (a.edges place matters) a.references reads)
    reads-both (Math op top mid low) place inputs s t calls a plain matters reads =
        block-both s t _ _ a (math-same set op top mid low inputs s.map t.map a.references reads)
    reads-both (Move op top mid length) place inputs s t calls a plain matters reads =
        block-both s t _ _ a (move-same set op top mid length inputs s.map t.map a.references reads)
    reads-both (Matrix op top mid length) place inputs s t calls a plain matters reads =
        block-both s t _ _ a (matrix-same set op top mid length inputs s.map t.map a.references reads)
    reads-both (Skip count) place inputs s t calls a plain matters reads =
        let operands = operand-had set count 1 [] reads in
        let same = number-read set s.map t.map count 1 (omega arith) a.references operands.0 in
        record {
          outputs = refl;
          states = a;
          flow = λ i. (solved_element setting (Skip (Const (same i))) place inputs s).1;
        }
    reads-both (Label number) place inputs s t calls a plain matters reads =
        record { outputs = refl; states = a; flow = refl }
    reads-both (Call number) place inputs s t calls a plain matters reads =
        let operands = operand-had set number 1 [] reads in
        let same = number-read set s.map t.map number 1 (omega arith) a.references operands.0 in
        call-both inputs.top (setting.calls (operand_number s.map number) s)
        (setting.calls (operand_number t.map number) t) s t
        (subst (λ n. BothFound segments set (setting.calls (operand_number s.map number) s)
        (setting.calls n t)) same (calls (operand_number s.map number) s t a)) a
    reads-both Return place inputs s t calls a plain matters reads =
        record { outputs = refl; states = a; flow = refl }
    reads-both (Mstr control area length) place inputs s t calls a plain matters reads =
        absurd (let no' : true ≡ false = plain in cc)

    pub element-both : (element : Element) (place : BlockPlace) (inputs : NodePower)
        (s t : SolveState) → CallsAgree → Agree segments set s t → is_message element ≡ false
        → place_matters set segments place ≡ true → has_read set element ≡ true
        → Both segments set (solved_element setting element place inputs s)
        (solved_element setting element place inputs t)
    element-both element place inputs s t calls a plain matters has =
        reads-both element place inputs s t calls a plain matters
        (names-had set is_read (names_of element) has)

    -- ---- where it doesn't matter

    moved-lacked : (op : MatrixOp) (top : Operand)
        → list_any (contains set) (if moves_number op then holding_in top else []) ≡ false
        → LacksMoved set op top
    moved-lacked matrices.And top is = tt
    moved-lacked matrices.Or top is = tt
    moved-lacked matrices.Xor top is = tt
    moved-lacked matrices.Comp top is = tt
    moved-lacked matrices.Cmpr top is = tt
    moved-lacked matrices.Brot top is = tt
    moved-lacked matrices.Mbit top is = pointer-lacked set top is
    moved-lacked matrices.Sens top is = pointer-lacked set top is

    stores-pass : (element : Element) (place : BlockPlace) (inputs : NodePower) (s : SolveState)
        → is_message element ≡ false → directs element ≡ false
        → place_matters set segments place ≡ false → StoresOf set element
        → list_any (contains set) (moved_by element) ≡ false
        → Passes segments set s (solved_element setting element place inputs s)
    stores-pass (Open at) place inputs s plain on apart stores moved =
        record { states = agrees-itself s; flow = refl }
    stores-pass (Closed at) place inputs s plain on apart stores moved =
        record { states = agrees-itself s; flow = refl }
    stores-pass (Rise at) place inputs s plain on apart stores moved =
        record { states = agrees-itself s; flow = refl }
    stores-pass (Fall at) place inputs s plain on apart stores moved =
        record { states = agrees-itself s; flow = refl }
    stores-pass (Coil at) place inputs s plain on apart stores moved =
        coil-passes at inputs s (lacks-first set at 1 (omega arith) (stores.0 refl))
    stores-pass (Latch at) place inputs s plain on apart stores moved =
        coil-passes at inputs s (lacks-first set at 1 (omega arith) (stores.0 refl))
    stores-pass Wire place inputs s plain on apart stores moved =
        record { states = agrees-itself s; flow = refl }
    stores-pass (Timer unit preset acc) place inputs s plain on apart stores moved =
        block-passes s _ (timer-leaves set unit (operand_number s.map preset) acc s.clock inputs
        s.map ((all_second (LacksNamed set is_stored) (named_in preset 1) _ stores).0 refl))
    stores-pass (Counter up preset acc) place inputs s plain on apart stores moved =
        counter-passes place inputs.top s _ apart
        (counting-leaves up preset acc (contains s.edges place) inputs s.map
        ((all_second (LacksNamed set is_stored) (named_in preset 1) _ stores).0 refl))
    stores-pass (Math op top mid low) place inputs s plain on apart stores moved =
        block-passes s _ (math-leaves set op top mid low inputs s.map stores)
    stores-pass (Move op top mid length) place inputs s plain on apart stores moved =
        block-passes s _ (move-leaves set op top mid length inputs s.map stores)
    stores-pass (Matrix op top mid length) place inputs s plain on apart stores moved =
        block-passes s _ (matrix-leaves set op top mid length inputs s.map stores
        (moved-lacked op top moved))
    stores-pass (Skip count) place inputs s plain on apart stores moved =
        absurd (let no' : true ≡ false = on in cc)
    stores-pass (Label number) place inputs s plain on apart stores moved =
        absurd (let no' : true ≡ false = on in cc)
    stores-pass (Call number) place inputs s plain on apart stores moved =
        absurd (let no' : true ≡ false = on in cc)
    stores-pass Return place inputs s plain on apart stores moved =
        absurd (let no' : true ≡ false = on in cc)
    stores-pass (Mstr control area length) place inputs s plain on apart stores moved =
        absurd (let no' : true ≡ false = plain in cc)

    pub element-passes : (element : Element) (place : BlockPlace) (inputs : NodePower)
        (s : SolveState) → is_message element ≡ false → place_matters set segments place ≡ false
        → stores_in set element || directs element ≡ false
        → Passes segments set s (solved_element setting element place inputs s)
    element-passes element place inputs s plain apart none =
        let parts = or_parts (stores_in set element) (directs element) none in
        let lists = or_parts _ _ (sym (list_any-append (contains set)
        (flat_map (run_where is_stored) (names_of element)) (moved_by element)) ∙ parts.0) in
        stores-pass element place inputs s plain parts.1 apart
        (names-lacked set is_stored (names_of element) lists.0) lists.1
