-- Rows of the fixed tables and their places, and how often they are sent.
use Rattle.std.proofs.Common.{◌≡◌, ℕ, zero, suc, ◌+◌, ◌<◌, ◌≤◌, false, nat_eq, List, [], ◌∷◌, length, slice_index, slice_get, Option, Some, None, refl, sym, ap, ◌∙◌, arith}
use Rattle.std.specs.Option.{option_map}
use Rattle.std.proofs.lemmas.Bool.{ne_eqb}
use Rattle.std.proofs.lemmas.List.FromFn.{get_or-map-range_with_len, length-map-range_with_len}
use Rattle.std.proofs.lemmas.Option.{slice_get_within, get_or_from_slice_get}
use Rattle.vm_isa.specs.declared.instr.VmInstr.{VmInstr}
use Rattle.vm_isa.specs.Instr.{numbers_of}
use Rattle.air_core.specs.declared.event.Event.{Event}
use Rattle.air_core.specs.declared.event.Side.TheVariants.{Send}
use Rattle.air_core.specs.Balance.{total}
use Rattle.lookup_tables.specs.Places.{IsRowAt}
use Rattle.lookup_tables.proofs.PlaceLemmas.{one_place, rows_below}
use Rattle.lookup_tables.proofs.RowsAt.{row_at-is}
use Rattle.vm_transpile.specs.Order.{RisesFrom}
use Rattle.vm_transpile.proofs.RowOrder.{rises_above}
use Rattle.acceptance.specs.Events.{fixed_row}
use Rattle.vm_filler.specs.Uses.{fixed_rows, times_sent, uses_of}

-- A row stands at one place.
pub record OnePlace (row : ℕ → Option (List ℕ)) : Type 0 where
  pub same : (p q : ℕ) (tuple : List ℕ) → row p ≡ Some tuple → row q ≡ Some tuple → p ≡ q

-- ---- of the program

numbers_pc : (i j : VmInstr) → numbers_of i ≡ numbers_of j → i.pc ≡ j.pc
unfolding numbers_of
numbers_pc i j h = cc

-- a row at a place, and where the rows begin
pc_above : (least : ℕ) (rows : List VmInstr) (p : ℕ) (row : VmInstr) → RisesFrom least rows → slice_get rows p ≡ Some row → least ≤ row.pc
pc_above least rows p row rises at =
    let above = rises_above least rows p row rises (slice_get_within rows p row at) in
    omega (arith, above, ap (λ (r : VmInstr). r.pc) (get_or_from_slice_get rows p row row at))

some_row : (r s : VmInstr) → ◌≡◌ {A = Option VmInstr} (Some r) (Some s) → r ≡ s
some_row r s h = cc

same_pc : (least : ℕ) (rows : List VmInstr) (p q : ℕ) (r s : VmInstr) → RisesFrom least rows → slice_get rows p ≡ Some r → slice_get rows q ≡ Some s → r.pc ≡ s.pc → p ≡ q
same_pc least [] p q r s rises a b same = absurd (cc)
same_pc least (row ∷ rows) zero zero r s rises a b same = refl
same_pc least (row ∷ rows) zero (suc q) r s rises a b same =
    let first : row ≡ r = some_row row r a in
    absurd (omega (arith, same, ap (λ (x : VmInstr). x.pc) first, pc_above (row.pc + 4) rows q s rises.2 b))
same_pc least (row ∷ rows) (suc p) zero r s rises a b same =
    let first : row ≡ s = some_row row s b in
    absurd (omega (arith, same, ap (λ (x : VmInstr). x.pc) first, pc_above (row.pc + 4) rows p r rises.2 a))
same_pc least (row ∷ rows) (suc p) (suc q) r s rises a b same = ap suc (same_pc (row.pc + 4) rows p q r s rises.2 a b same)

-- what stands at a place of the program
pub record ProgramRow (program : List VmInstr) (place : ℕ) (tuple : List ℕ) : Type 0 where
  pub row : VmInstr
  pub stands : slice_get program place ≡ Some row
  pub is : tuple ≡ numbers_of row

program_row_by : (program : List VmInstr) (place : ℕ) (tuple : List ℕ) (found : Option VmInstr) → slice_get program place ≡ found → option_map numbers_of found ≡ Some tuple → ProgramRow program place tuple
program_row_by program place tuple None h e = absurd (cc)
program_row_by program place tuple (Some row) h e = record { row = row; stands = h; is = (let same : tuple ≡ numbers_of row = cc in same) }

program_row : (program : List VmInstr) (place : ℕ) (tuple : List ℕ) → fixed_row program 1 place ≡ Some tuple → ProgramRow program place tuple
program_row program place tuple e = program_row_by program place tuple (slice_get program place) refl e

pub program_places : (program : List VmInstr) → RisesFrom 0 program → OnePlace (fixed_row program 1)
program_places program rises = record {
  same = λ p q tuple a b.
      let r = program_row program p tuple a in
      let s = program_row program q tuple b in
      same_pc 0 program p q r.row s.row rises r.stands s.stands (numbers_pc r.row s.row (sym r.is ∙ s.is));
}

-- where a row stands, its numbers are found
pub program_at : (program : List VmInstr) (place : ℕ) (row : VmInstr) → slice_get program place ≡ Some row → fixed_row program 1 place ≡ Some (numbers_of row)
program_at program place row stands = ap (option_map numbers_of) stands

-- ---- of the lookup tables

lookup_row : (program : List VmInstr) (bus : ℕ) → 3 ≤ bus → (place : ℕ) (tuple : List ℕ) → fixed_row program bus place ≡ Some tuple → IsRowAt bus place tuple
lookup_row program bus high place tuple e =
    let off : nat_eq bus 1 ≡ false = ne_eqb bus 1 (λ is. omega (arith, is, high)) in
    (row_at-is bus place tuple).0 (rw off at e)

pub lookup_places : (program : List VmInstr) (bus : ℕ) → 3 ≤ bus → OnePlace (fixed_row program bus)
lookup_places program bus high = record {
  same = λ p q tuple a b. one_place bus p q tuple (lookup_row program bus high p tuple a) (lookup_row program bus high q tuple b);
}

pub lookup_at : (program : List VmInstr) (bus place : ℕ) (tuple : List ℕ) → 3 ≤ bus → IsRowAt bus place tuple → fixed_row program bus place ≡ Some tuple
lookup_at program bus place tuple high at =
    let off : nat_eq bus 1 ≡ false = ne_eqb bus 1 (λ is. omega (arith, is, high)) in
    rw off ((row_at-is bus place tuple).1 at)

-- ---- how often rows are sent

pub program_below : (program : List VmInstr) (place : ℕ) (tuple : List ℕ) → fixed_row program 1 place ≡ Some tuple → place < fixed_rows program 1
program_below program place tuple e = let r = program_row program place tuple e in slice_get_within program place r.row r.stands

pub lookup_below : (program : List VmInstr) (bus place : ℕ) (tuple : List ℕ) → 3 ≤ bus → fixed_row program bus place ≡ Some tuple → place < fixed_rows program bus
lookup_below program bus place tuple high e =
    let off : nat_eq bus 1 ≡ false = ne_eqb bus 1 (λ is. omega (arith, is, high)) in
    rw off (rows_below bus place tuple (lookup_row program bus high place tuple e))

-- at the place of a row stands how often it is sent
pub uses_at : (program : List VmInstr) (bus : ℕ) (events : List Event) (place : ℕ) (tuple : List ℕ) → place < fixed_rows program bus → fixed_row program bus place ≡ Some tuple
    → slice_index (uses_of program bus events) place ≡ total Send bus tuple events
unfolding uses_of
uses_at program bus events place tuple low is =
    get_or-map-range_with_len (λ k. times_sent events bus (fixed_row program bus k)) 0 (fixed_rows program bus) place place 0 low (omega arith) ∙ ap (times_sent events bus) is

pub uses_length : (program : List VmInstr) (bus : ℕ) (events : List Event) → length (uses_of program bus events) ≡ fixed_rows program bus
unfolding uses_of
uses_length program bus events = length-map-range_with_len (λ place. times_sent events bus (fixed_row program bus place)) 0 (fixed_rows program bus)
