-- What rows send to the fixed tables stands there, and they receive nothing from them.
use Rattle.std.proofs.Common.{◌≡◌, ℕ, ◌+◌, ◌-◌, ◌*◌, ◌^◌, ◌<◌, ◌≤◌, Bool, true, false, List, [], ◌∷◌, length, Some, refl, sym, ap, ◌∙◌, subst, arith, Contains}
use Rattle.std.specs.Prelude.{flat_map}
use Rattle.std.specs.List.{AllByRecursion}
use Rattle.std.proofs.lemmas.Option.{slice_get_read}
use Rattle.std.specs.Cmp.Lexicographic.{same_text}
use Rattle.vm_isa.specs.declared.instr.VmInstr.{VmInstr}
use Rattle.vm_isa.specs.declared.record.StepRecord.{StepRecord}
use Rattle.vm_isa.specs.Instr.{numbers_of}
use Rattle.air_core.specs.declared.event.Event.{Event}
use Rattle.air_core.specs.declared.event.Side.TheVariants.{Send, Receive}
use Rattle.air_core.specs.Balance.{is_at, amount_at, total}
use Rattle.air_core.specs.Counts.{weight, once}
use Rattle.air_core.specs.Laws.{is_lookup}
use Rattle.air_core.specs.ListLemmas.{all_append, all_weaker}
use Rattle.air_core.specs.Lookups.{Good, GoodEvent, IsXorRow, IsRangeRow, IsConstantRow}
use Rattle.air_core.specs.Sheet.{row_events}
use Rattle.air_core.specs.System.{Part, all_events, EachRow, GoodRow}
use Rattle.air_core.specs.ExtensionLaws.{PartBuses, OnOwnBus}
use Rattle.air_core.proofs.BalanceLemmas.{total-cons, there_of_test}
use Rattle.air_core.proofs.ElementLemmas.{all_flat_map}
use Rattle.air_core.proofs.Totals.{same_tuple}
use Rattle.lookup_tables.specs.Places.{IsRowAt}
use Rattle.lookup_tables.proofs.PlaceLemmas.{at_xor, at_range, at_constant}
use Rattle.acceptance.specs.Events.{fixed_row}
use Rattle.acceptance.proofs.EachRow.{events_any}
use Rattle.vm_filler.proofs.FixedRows.{lookup_at, program_at}

-- ---- single events

-- events that are only sent on a bus receive nothing there
receives_none : (bus : ℕ) (tuple : List ℕ) (events : List Event) → AllByRecursion (λ e. e.bus ≡ bus → e.side ≡ Send) events → total Receive bus tuple events ≡ 0
receives_none bus tuple [] h = refl
receives_none bus tuple (e ∷ events) h = by_test (is_at Receive bus tuple e) refl (receives_none bus tuple events h.1)
  where
    by_test : (b : Bool) → is_at Receive bus tuple e ≡ b → total Receive bus tuple events ≡ 0 → total Receive bus tuple (e ∷ events) ≡ 0
    by_test true at rest =
        let there = there_of_test Receive bus tuple e at in
        let z : Send ≡ Receive = sym (h.0 there.bus_is) ∙ there.side_is in absurd (cc)
    by_test false at rest =
        let nothing : amount_at Receive bus tuple e ≡ 0 = rw at refl in
        omega (arith, total-cons Receive bus tuple e events, nothing, rest)

-- what is sent stands where the tuples of these events do
sent_stands : (At : ℕ → List ℕ → Type 0) (bus : ℕ) (tuple : List ℕ) (events : List Event) → AllByRecursion (λ e. e.bus ≡ bus → (k : ℕ) × At k e.tuple) events
    → 0 < total Send bus tuple events → (k : ℕ) × At k tuple
sent_stands At bus tuple [] h some = absurd (omega (arith, some))
sent_stands At bus tuple (e ∷ events) h some = by_test (is_at Send bus tuple e) refl (sent_stands At bus tuple events h.1)
  where
    by_test : (b : Bool) → is_at Send bus tuple e ≡ b → (0 < total Send bus tuple events → (k : ℕ) × At k tuple) → (k : ℕ) × At k tuple
    by_test true at later =
        let there = there_of_test Send bus tuple e at in
        let row = h.0 there.bus_is in
        (row.0, subst (At row.0) there.tuple_is row.1)
    by_test false at later =
        let nothing : amount_at Send bus tuple e ≡ 0 = rw at refl in
        later (omega (arith, some, total-cons Send bus tuple e events, nothing))

-- ---- the events of all rows

-- on a lookup bus rows receive nothing
pub rows_receive_none : (private : ℕ → Bool) (parts : List Part) → AllByRecursion (PartBuses private) parts → (tables : List (List (List ℕ))) (bus : ℕ) (tuple : List ℕ) → is_lookup bus ≡ true
    → total Receive bus tuple (all_events parts tables) ≡ 0
rows_receive_none private parts buses tables bus tuple lookup =
    receives_none bus tuple (all_events parts tables)
    (events_any (λ e. e.bus ≡ bus → e.side ≡ Send) parts tables
    (all_weaker (PartBuses private) (λ p. (row : List ℕ) → AllByRecursion (λ e. e.bus ≡ bus → e.side ≡ Send) (row_events p.sheet row))
    (λ p h row. all_weaker (OnOwnBus private p.sheet) (λ e. e.bus ≡ bus → e.side ≡ Send) (λ e own same. own.lookup (ap is_lookup same ∙ lookup)) (row_events p.sheet row) (h.uses row)) parts buses))

-- all events of good rows are good
pub good_events : (parts : List Part) (tables : List (List (List ℕ))) → EachRow GoodRow parts tables → Good (all_events parts tables)
good_events [] tables good = tt
good_events (p ∷ parts) [] good = tt
good_events (p ∷ parts) (rows ∷ tables) good =
    all_append GoodEvent (flat_map (row_events p.sheet) rows) (all_events parts tables)
    (all_flat_map GoodEvent (row_events p.sheet) rows (all_weaker (GoodRow p.sheet) (λ row. AllByRecursion GoodEvent (row_events p.sheet row)) (λ row h. h.good) rows good.0))
    (good_events parts tables good.1)

-- ---- places

xor_place : (tuple : List ℕ) → IsXorRow tuple → (k : ℕ) × IsRowAt 3 k tuple
xor_place tuple row = (256 * row.x + row.y, at_xor (256 * row.x + row.y) tuple (record { row = row; at = refl }))

range_place : (tuple : List ℕ) → IsRangeRow tuple → (k : ℕ) × IsRowAt 4 k tuple
range_place tuple row = (2 ^ row.n - 1 + row.v, at_range (2 ^ row.n - 1 + row.v) tuple (record { row = row; at = refl }))

constant_place : (tuple : List ℕ) → IsConstantRow tuple → (k : ℕ) × IsRowAt 5 k tuple
constant_place tuple row = (row.round, at_constant row.round tuple (record { row = row; at = refl }))

-- what good events send on a bus has its row, where the tuples there have a place
module _ (program : List VmInstr) (bus : ℕ) (high : 3 ≤ bus) (place : (e : Event) → GoodEvent e → e.bus ≡ bus → (k : ℕ) × IsRowAt bus k e.tuple) where
  lookup_stands : (events : List Event) → Good events → (tuple : List ℕ) → 0 < total Send bus tuple events → (k : ℕ) × (fixed_row program bus k ≡ Some tuple)
  lookup_stands events good tuple some =
      let found = sent_stands (IsRowAt bus) bus tuple events (all_weaker GoodEvent (λ e. e.bus ≡ bus → (k : ℕ) × IsRowAt bus k e.tuple) place events good) some in
      (found.0, lookup_at program bus found.0 tuple high found.1)

pub xor_stands : (program : List VmInstr) (events : List Event) → Good events → (tuple : List ℕ) → 0 < total Send 3 tuple events → (k : ℕ) × (fixed_row program 3 k ≡ Some tuple)
xor_stands program = lookup_stands program 3 (omega arith) (λ e h on. xor_place e.tuple (h.xor on))

pub range_stands : (program : List VmInstr) (events : List Event) → Good events → (tuple : List ℕ) → 0 < total Send 4 tuple events → (k : ℕ) × (fixed_row program 4 k ≡ Some tuple)
range_stands program = lookup_stands program 4 (omega arith) (λ e h on. range_place e.tuple (h.range on))

pub constant_stands : (program : List VmInstr) (events : List Event) → Good events → (tuple : List ℕ) → 0 < total Send 5 tuple events → (k : ℕ) × (fixed_row program 5 k ≡ Some tuple)
constant_stands program = lookup_stands program 5 (omega arith) (λ e h on. constant_place e.tuple (h.constant on))

-- what records of rows of the program send is there
pub program_stands : (program : List VmInstr) (tuple : List ℕ) (done : List StepRecord) → AllByRecursion (λ d. Contains program d.instr) done
    → 0 < weight (λ d. once (same_tuple (numbers_of d.instr) tuple)) done → (k : ℕ) × (fixed_row program 1 k ≡ Some tuple)
program_stands program tuple [] stand some = absurd (omega (arith, some))
program_stands program tuple (d ∷ done) stand some = by_test (same_tuple (numbers_of d.instr) tuple) refl (program_stands program tuple done stand.1)
  where
    by_test : (b : Bool) → same_tuple (numbers_of d.instr) tuple ≡ b → (0 < weight (λ d. once (same_tuple (numbers_of d.instr) tuple)) done → (k : ℕ) × (fixed_row program 1 k ≡ Some tuple)) → (k : ℕ) × (fixed_row program 1 k ≡ Some tuple)
    by_test true e later =
        let place = stand.0 in
        let at = program_at program place.0 d.instr (slice_get_read program (length program) place.0 d.instr refl place.1 (sym place.2)) in
        (place.0, at ∙ ap (λ (t : List ℕ). Some t) (same_text (numbers_of d.instr) tuple (sym e)))
    by_test false e later =
        let nothing : once (same_tuple (numbers_of d.instr) tuple) ≡ 0 = ap once e in
        later (omega (arith, some, nothing))
