-- What rows send to the fixed tables stands there, where the buses balance.
use Rattle.std.proofs.Common.{◌≡◌, ◌≢◌, ℕ, ◌<◌, ◌≤◌, Bool, true, false, nat_eq, List, [], ◌∷◌, ◌++◌, refl, sym, ap, ◌∙◌, subst, arith, inl, inr, Contains, slice_get}
use Rattle.std.specs.Prelude.{flat_map, All, Option, Some, None}
use Rattle.std.specs.List.{AllByRecursion}
use Rattle.std.specs.Option.{option_map}
use Rattle.std.proofs.lemmas.Bool.{ne_eqb}
use Rattle.std.proofs.lemmas.List.Elements.{All-contains, All-from_recursion, Contains-get_or}
use Rattle.std.proofs.lemmas.Option.{slice_get_within, get_or_from_slice_get}
use Rattle.vm_isa.specs.declared.instr.VmInstr.{VmInstr}
use Rattle.vm_isa.specs.Instr.{InRange, numbers_of}
use Rattle.vm_trace.specs.declared.count.CountEntry.{CountEntry}
use Rattle.air_core.specs.declared.event.Event.{Event}
use Rattle.air_core.specs.declared.event.Side.{Side}
use Rattle.air_core.specs.declared.event.Side.TheVariants.{Send, Receive}
use Rattle.air_core.specs.Balance.{Balanced, BalancedOn, total, amount_at}
use Rattle.air_core.specs.ExtensionLaws.{ExtensionBuses, PartBuses, OnOwnBus}
use Rattle.air_core.specs.Laws.{is_lookup}
use Rattle.air_core.specs.ListLemmas.{all_append, all_weaker, all_counted_some}
use Rattle.air_core.specs.Lookups.{IsXorRow, IsRangeRow, IsConstantRow, GoodEvent, Good}
use Rattle.air_core.specs.Orders.{Member}
use Rattle.air_core.specs.Sheet.{Sheet, row_events}
use Rattle.air_core.specs.System.{System, Part, EachRow, all_events}
use Rattle.air_core.proofs.BalanceLemmas.{test_of_there, member_of_total, total-cons, total-append}
use Rattle.air_core.proofs.ElementLemmas.{all_flat_map, all_from_members, all_at, member_left, member_right}
use Rattle.exec_path.specs.PathEvents.{connector_events}
use Rattle.lookup_tables.specs.Places.{IsRowAt}
use Rattle.lookup_tables.proofs.RowsAt.{row_at-is}
use Rattle.vm_trace.specs.declared.page.Touched.{Touched}
use Rattle.offline_memory.specs.Memory.{Block}
use Rattle.offline_memory.specs.MemoryEvents.{block_events, boundary_events}
use Rattle.offline_memory.specs.Pages.{page_blocks}
use Rattle.acceptance.specs.OneRun.{NotOn}
use Rattle.vm_trace.specs.File.{Segment}
use Rattle.acceptance.specs.Events.{fixed_row, received_row, entry_events, received_on, counted_events, segment_events, start_of, end_of}
use Rattle.acceptance.proofs.EachRow.{events_any, events_each}
use Rattle.acceptance.proofs.WholeSegment.{total_elsewhere}

-- the numbers of a row of the program
pub record ProgramTuple (program : List VmInstr) (tuple : List ℕ) : Type 0 where
  pub row : VmInstr
  pub stands : Contains program row
  pub is : tuple ≡ numbers_of row

-- a tuple on the bus of a fixed table stands in it
pub record Stands (program : List VmInstr) (e : Event) : Type 0 where
  pub program_row : e.bus ≡ 1 → ProgramTuple program e.tuple
  pub xor : e.bus ≡ 3 → IsXorRow e.tuple
  pub range : e.bus ≡ 4 → IsRangeRow e.tuple
  pub constant : e.bus ≡ 5 → IsConstantRow e.tuple

abbrev Received : List VmInstr → Event → Type 0
Received program e = e.side ≡ Receive → Stands program e

-- ---- what is received stands in its table

pub contains_at : (program : List VmInstr) (place : ℕ) (row : VmInstr) → slice_get program place ≡ Some row → Contains program row
contains_at program place row h =
    subst (Contains program) (get_or_from_slice_get program place row row h) (Contains-get_or program place row (slice_get_within program place row h))

program_stands : (program : List VmInstr) (place count : ℕ) (row : VmInstr) → slice_get program place ≡ Some row → Stands program (record { bus = 1; side = Receive; tuple = numbers_of row; count = count })
program_stands program place count row h = record {
  program_row = λ bus. record { row = row; stands = contains_at program place row h; is = refl };
  xor = λ bus. absurd (omega (arith, bus));
  range = λ bus. absurd (omega (arith, bus));
  constant = λ bus. absurd (omega (arith, bus));
}

row_stands : (program : List VmInstr) (bus place count : ℕ) (tuple : List ℕ) → IsRowAt bus place tuple → Stands program (record { bus = bus; side = Receive; tuple = tuple; count = count })
row_stands program bus place count tuple at = record {
  program_row = λ b. absurd (omega (arith, b, at.low));
  xor = λ b. (at.xor b).row;
  range = λ b. (at.range b).row;
  constant = λ b. (at.constant b).row;
}

-- on which buses something is received, and what stands there
abbrev Fixed : List VmInstr → ℕ → Type 0
Fixed program bus = (place count : ℕ) (tuple : List ℕ) → fixed_row program bus place ≡ Some tuple → Stands program (record { bus = bus; side = Receive; tuple = tuple; count = count })

program_fixed_by : (program : List VmInstr) (place count : ℕ) (found : Option VmInstr) (tuple : List ℕ) → slice_get program place ≡ found → option_map numbers_of found ≡ Some tuple
    → Stands program (record { bus = 1; side = Receive; tuple = tuple; count = count })
program_fixed_by program place count None tuple h e = absurd (cc)
program_fixed_by program place count (Some row) tuple h e =
    let same : numbers_of row ≡ tuple = cc in
    subst (λ (t : List ℕ). Stands program (record { bus = 1; side = Receive; tuple = t; count = count })) same (program_stands program place count row h)

program_fixed : (program : List VmInstr) → Fixed program 1
program_fixed program = λ place count tuple e. program_fixed_by program place count (slice_get program place) tuple refl e

lookup_fixed : (program : List VmInstr) (bus : ℕ) → 3 ≤ bus → Fixed program bus
lookup_fixed program bus high = λ place count tuple e.
    let off : nat_eq bus 1 ≡ false = ne_eqb bus 1 (λ is. omega (arith, is, high)) in
    row_stands program bus place count tuple ((row_at-is bus place tuple).0 (rw off at e))

received_by : (program : List VmInstr) (bus count : ℕ) (found : Option (List ℕ)) → ((tuple : List ℕ) → found ≡ Some tuple → Stands program (record { bus = bus; side = Receive; tuple = tuple; count = count }))
    → AllByRecursion (Received program) (received_row bus count found)
received_by program bus count None stands = tt
received_by program bus count (Some row) stands = (λ side. stands row refl, tt)

entries_received : (program : List VmInstr) (bus : ℕ) (entries : List CountEntry) → Fixed program bus → AllByRecursion (Received program) (received_on program bus entries)
entries_received program bus entries fixed =
    all_flat_map (Received program) (entry_events program bus) entries
    (all_from_members (λ (e : CountEntry). AllByRecursion (Received program) (entry_events program bus e)) entries
    (λ e h. received_by program bus e.count (fixed_row program bus e.place) (λ tuple is. fixed e.place e.count tuple is)))

counted_received : (program : List VmInstr) (s : Segment) → AllByRecursion (Received program) (counted_events program s)
counted_received program s =
    all_append (Received program) (received_on program 1 s.program) (received_on program 3 s.xor ++ (received_on program 4 s.range ++ received_on program 5 s.constants))
    (entries_received program 1 s.program (program_fixed program))
    (all_append (Received program) (received_on program 3 s.xor) (received_on program 4 s.range ++ received_on program 5 s.constants)
    (entries_received program 3 s.xor (lookup_fixed program 3 (omega arith)))
    (all_append (Received program) (received_on program 4 s.range) (received_on program 5 s.constants)
    (entries_received program 4 s.range (lookup_fixed program 4 (omega arith)))
    (entries_received program 5 s.constants (lookup_fixed program 5 (omega arith)))))

-- a bus of no fixed table
free_bus : (program : List VmInstr) (e : Event) → e.bus ≢ 1 → e.bus ≢ 3 → e.bus ≢ 4 → e.bus ≢ 5 → Received program e
free_bus program e p x r k = λ side. record { program_row = λ h. absurd (p h); xor = λ h. absurd (x h); range = λ h. absurd (r h); constant = λ h. absurd (k h) }

on_0 : (program : List VmInstr) (e : Event) → e.bus ≡ 0 → Received program e
on_0 program e h = free_bus program e (λ b. omega (arith, h, b)) (λ b. omega (arith, h, b)) (λ b. omega (arith, h, b)) (λ b. omega (arith, h, b))

on_2 : (program : List VmInstr) (e : Event) → e.bus ≡ 2 → Received program e
on_2 program e h = free_bus program e (λ b. omega (arith, h, b)) (λ b. omega (arith, h, b)) (λ b. omega (arith, h, b)) (λ b. omega (arith, h, b))

-- what pages say is on the memory bus
pub pages_on : (P : Event → Type 0) → ((e : Event) → e.bus ≡ 2 → P e) → (pages : List Touched) → AllByRecursion P (flat_map boundary_events pages)
pages_on P f pages =
    all_flat_map P boundary_events pages
    (all_from_members (λ (page : Touched). AllByRecursion P (boundary_events page)) pages
    (λ page h.
    all_flat_map P block_events (page_blocks page)
    (all_from_members (λ (b : Block). AllByRecursion P (block_events b)) (page_blocks page)
    (λ b k. (f _ refl, (f _ refl, tt))))))

-- a table only sends there
abbrev Sends : Event → Type 0
Sends e = is_lookup e.bus ≡ true → e.side ≡ Send

part_sends : (private : ℕ → Bool) (p : Part) → PartBuses private p → (row : List ℕ) → AllByRecursion Sends (row_events p.sheet row)
part_sends private p buses row = all_weaker (OnOwnBus private p.sheet) Sends (λ e own. own.lookup) (row_events p.sheet row) (buses.uses row)

rows_send : (x : System) (tables : List (List (List ℕ))) → ExtensionBuses x → AllByRecursion Sends (all_events x.parts tables)
rows_send x tables buses =
    events_any Sends x.parts tables
    (all_weaker (PartBuses x.private) (λ p. (row : List ℕ) → AllByRecursion Sends (row_events p.sheet row)) (λ p b. part_sends x.private p b) x.parts buses)

sends_received : (program : List VmInstr) (e : Event) → Sends e → Received program e
sends_received program e sends side = record {
  program_row = λ bus. absurd (never (sends (rw bus refl)));
  xor = λ bus. absurd (never (sends (rw bus refl)));
  range = λ bus. absurd (never (sends (rw bus refl)));
  constant = λ bus. absurd (never (sends (rw bus refl)));
}
  where
    never : e.side ≡ Send → ⊥
    never s = let both : Send ≡ Receive = sym s ∙ side in absurd (cc)

module _ (x : System) (program : List VmInstr) (s : Segment) (buses : ExtensionBuses x) where
  all_received : AllByRecursion (Received program) (segment_events x program s)
  all_received =
      all_append (Received program) (connector_events (start_of s) (end_of s)) (all_events x.parts s.tables ++ (counted_events program s ++ flat_map boundary_events s.pages))
      (on_0 program _ refl, (on_0 program _ refl, tt))
      (all_append (Received program) (all_events x.parts s.tables) (counted_events program s ++ flat_map boundary_events s.pages)
      (all_weaker Sends (Received program) (λ e h. sends_received program e h) (all_events x.parts s.tables) (rows_send x s.tables buses))
      (all_append (Received program) (counted_events program s) (flat_map boundary_events s.pages)
      (counted_received program s)
      (pages_on (Received program) (on_2 program) s.pages)))

-- ---- what is sent is received

-- an event with a count adds to the sum of its place
pub member_counts : (e : Event) (events : List Event) → Member e events → 0 < e.count → 0 < total e.side e.bus e.tuple events
member_counts e [] h some = elim h [ ]
member_counts e (x ∷ xs) (inl same) some =
    let here : amount_at e.side e.bus e.tuple e ≡ e.count = rw (test_of_there e.side e.bus e.tuple e (record { bus_is = refl; side_is = refl; tuple_is = refl })) refl in
    let there : amount_at e.side e.bus e.tuple x ≡ e.count = ap (amount_at e.side e.bus e.tuple) same ∙ here in
    omega (arith, total-cons e.side e.bus e.tuple x xs, there, some)
member_counts e (x ∷ xs) (inr later) some = omega (arith, total-cons e.side e.bus e.tuple x xs, member_counts e xs later some)

sent_stands : (program : List VmInstr) (events : List Event) → AllByRecursion (Received program) events → Balanced events → (e : Event) → Member e events → 0 < e.count → e.side ≡ Send → Stands program e
sent_stands program events received balanced e h some side =
    let sends : 0 < total Send e.bus e.tuple events = subst (λ s. 0 < total s e.bus e.tuple events) side (member_counts e events h some) in
    let takes : 0 < total Receive e.bus e.tuple events = omega (arith, sends, balanced.even e.bus e.tuple) in
    let found = member_of_total Receive e.bus e.tuple events takes in
    let stands : Stands program found.event = All-contains (Received program) events found.event (All-from_recursion (Received program) events received) found.member found.there.side_is in
    let same = found.there in
    record {
      program_row = λ bus. subst (ProgramTuple program) same.tuple_is (stands.program_row (same.bus_is ∙ bus));
      xor = λ bus. subst IsXorRow same.tuple_is (stands.xor (same.bus_is ∙ bus));
      range = λ bus. subst IsRangeRow same.tuple_is (stands.range (same.bus_is ∙ bus));
      constant = λ bus. subst IsConstantRow same.tuple_is (stands.constant (same.bus_is ∙ bus));
    }

-- an event that was said has a count
said_counts : (sheet : Sheet) (row : List ℕ) → AllByRecursion (λ e. 0 < e.count) (row_events sheet row)
said_counts sheet row =
    all_counted_some (λ (e : Event). 0 < e.count) (sheet.lines row)
    (all_from_members (λ (e : Event). e.count ≢ 0 → 0 < e.count) (sheet.lines row) (λ e h some. omega (arith, some)))

abbrev pub Looked : List VmInstr → Event → Type 0
Looked program e = is_lookup e.bus ≡ true → Stands program e

module _ (x : System) (program : List VmInstr) (s : Segment) (buses : ExtensionBuses x) (balanced : Balanced (segment_events x program s)) where
  all_count : AllByRecursion (λ (e : Event). 0 < e.count) (all_events x.parts s.tables)
  all_count =
      events_any (λ (e : Event). 0 < e.count) x.parts s.tables
      (all_from_members (λ (p : Part). (row : List ℕ) → AllByRecursion (λ (e : Event). 0 < e.count) (row_events p.sheet row)) x.parts (λ p h row. said_counts p.sheet row))

  looked_up : (e : Event) → Member e (all_events x.parts s.tables) → Looked program e
  looked_up e h is =
      let stands_in : Member e (segment_events x program s) =
      member_right e (connector_events (start_of s) (end_of s)) (all_events x.parts s.tables ++ (counted_events program s ++ flat_map boundary_events s.pages))
      (member_left e (all_events x.parts s.tables) (counted_events program s ++ flat_map boundary_events s.pages) h) in
      sent_stands program (segment_events x program s) (all_received x program s buses) balanced e stands_in
      (all_at (λ (y : Event). 0 < y.count) (all_events x.parts s.tables) e h all_count)
      (all_at Sends (all_events x.parts s.tables) e h (rows_send x s.tables buses) is)

  -- what the rows of all tables look up stands in its table
  pub rows_look_up : EachRow (λ sheet row. AllByRecursion (Looked program) (row_events sheet row)) x.parts s.tables
  rows_look_up = events_each (Looked program) x.parts s.tables (all_from_members (Looked program) (all_events x.parts s.tables) looked_up)

good_event : (program : List VmInstr) → All InRange program → (e : Event) → Looked program e → GoodEvent e
good_event program ranges e looked = record {
  program = λ bus.
      let t = (looked (rw bus refl)).program_row bus in
      record { instr = t.row; in_range = All-contains InRange program t.row ranges t.stands; are = t.is };
  xor = λ bus. (looked (rw bus refl)).xor bus;
  range = λ bus. (looked (rw bus refl)).range bus;
  constant = λ bus. (looked (rw bus refl)).constant bus;
}

pub good_row : (program : List VmInstr) → All InRange program → (events : List Event) → AllByRecursion (Looked program) events → Good events
good_row program ranges events looked = all_weaker (Looked program) GoodEvent (good_event program ranges) events looked

-- ---- the other buses

-- what the fixed tables receive is on their buses
abbrev pub FixedBus : Event → Type 0
FixedBus e = (1 ≤ e.bus) × (e.bus ≤ 5) × (e.bus ≢ 2)

row_fixed : (bus count : ℕ) (found : Option (List ℕ)) → (1 ≤ bus) × (bus ≤ 5) × (bus ≢ 2) → AllByRecursion FixedBus (received_row bus count found)
row_fixed bus count None is = tt
row_fixed bus count (Some row) is = (is, tt)

entries_fixed : (program : List VmInstr) (bus : ℕ) (entries : List CountEntry) → (1 ≤ bus) × (bus ≤ 5) × (bus ≢ 2) → AllByRecursion FixedBus (received_on program bus entries)
entries_fixed program bus entries is =
    all_flat_map FixedBus (entry_events program bus) entries
    (all_from_members (λ (e : CountEntry). AllByRecursion FixedBus (entry_events program bus e)) entries (λ e h. row_fixed bus e.count (fixed_row program bus e.place) is))

pub counted_fixed : (program : List VmInstr) (s : Segment) → AllByRecursion FixedBus (counted_events program s)
counted_fixed program s =
    all_append FixedBus (received_on program 1 s.program) (received_on program 3 s.xor ++ (received_on program 4 s.range ++ received_on program 5 s.constants))
    (entries_fixed program 1 s.program (omega arith, omega arith, λ h. omega (arith, h)))
    (all_append FixedBus (received_on program 3 s.xor) (received_on program 4 s.range ++ received_on program 5 s.constants)
    (entries_fixed program 3 s.xor (omega arith, omega arith, λ h. omega (arith, h)))
    (all_append FixedBus (received_on program 4 s.range) (received_on program 5 s.constants)
    (entries_fixed program 4 s.range (omega arith, omega arith, λ h. omega (arith, h)))
    (entries_fixed program 5 s.constants (omega arith, omega arith, λ h. omega (arith, h)))))

pub counted_not_on : (bus : ℕ) (program : List VmInstr) (s : Segment) → ((e : Event) → FixedBus e → e.bus ≡ bus → ⊥) → NotOn bus (counted_events program s)
counted_not_on bus program s away = all_weaker FixedBus (λ e. e.bus ≡ bus → ⊥) away (counted_events program s) (counted_fixed program s)

-- on a bus of its own an extension's rows balance by themselves
pub private_balanced : (x : System) (program : List VmInstr) (s : Segment) → ((bus : ℕ) → x.private bus ≡ true → 6 ≤ bus) → Balanced (segment_events x program s) → BalancedOn x.private (all_events x.parts s.tables)
private_balanced x program s high balanced = record {
  even = λ bus tuple own. omega (arith, on_own Send bus tuple (high bus own), on_own Receive bus tuple (high bus own), balanced.even bus tuple);
}
  where
    on_own : (side : Side) (bus : ℕ) (tuple : List ℕ) → 6 ≤ bus → total side bus tuple (segment_events x program s) ≡ total side bus tuple (all_events x.parts s.tables)
    on_own side bus tuple high =
        omega (
          arith,
          total-append side bus tuple (connector_events (start_of s) (end_of s)) (all_events x.parts s.tables ++ (counted_events program s ++ flat_map boundary_events s.pages)),
          total-append side bus tuple (all_events x.parts s.tables) (counted_events program s ++ flat_map boundary_events s.pages),
          total-append side bus tuple (counted_events program s) (flat_map boundary_events s.pages),
          total_elsewhere side bus tuple (connector_events (start_of s) (end_of s)) (λ h. omega (arith, h, high), (λ h. omega (arith, h, high), tt)),
          total_elsewhere side bus tuple (flat_map boundary_events s.pages) (pages_on (λ e. e.bus ≡ bus → ⊥) (λ e h k. omega (arith, h, k, high)) s.pages),
          total_elsewhere side bus tuple (counted_events program s) (counted_not_on bus program s (λ e fixed h. omega (arith, fixed.1, h, high))),
        )
