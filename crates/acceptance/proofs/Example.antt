-- Files that are accepted: of no steps, and of one no-operation.
use Rattle.std.proofs.Common.{◌≡◌, ℕ, zero, suc, ◌+◌, ◌/◌, ◌^◌, ◌<◌, Bool, true, false, ◌&&◌, nat_eq, List, [], ◌∷◌, ◌++◌, length, map, replicate, slice_get, refl, sym, ap, ◌∙◌, subst, arith, Contains, lit<, lit≤, pow_mono, ◌≤◌, ◌*◌}
use Rattle.std.specs.Prelude.{slice_index, Option}
use Rattle.std.specs.Option.{option_map}
use Rattle.std.proofs.lemmas.Option.{slice_get_within}
use Rattle.std.specs.List.{AllByRecursion}
use Rattle.std.specs.List.Sorted.{IsStrictlyIncreasing}
use Rattle.std.proofs.lemmas.List.{length-map}
use Rattle.std.proofs.lemmas.List.Elements.{All-contains, All-from_recursion}
use Rattle.sha2.proofs.Facts256.{length-sha256}
use Rattle.elf_image.specs.Image.{HasImage}
use Rattle.elf_image.specs.Loaded.{Loaded}
use Rattle.vm_isa.specs.declared.instr.VmInstr.{VmInstr}
use Rattle.vm_isa.specs.Blocks.{Terminates}
use Rattle.vm_isa.specs.Instr.{InRange, numbers_of}
use Rattle.vm_isa.specs.Words.{IsBytes}
use Rattle.vm_isa.proofs.InstrLaws.{numbers_of-nop}
use Rattle.vm_transpile.specs.Program.{program_of}
use Rattle.vm_transpile.proofs.Ranges.{rows_in_range}
use Rattle.vm_transpile.proofs.RowOrder.{rises_few}
use Rattle.vm_transpile.proofs.Starts.{zero_bytes}
use Rattle.vm_transpile.proofs.Texts.{program_rises}
use Rattle.vm_field.specs.Field.{field_add, modulus}
use Rattle.vm_trace.specs.declared.page.TheConstants.{PUBLIC_LABEL}
use Rattle.vm_trace.specs.Canonical.{IsNumber, AreTables, IsCountList, IsDigest, IsCanonical}
use Rattle.vm_trace.specs.Limits.{limits_of}
use Rattle.vm_trace.specs.declared.count.CountEntry.{CountEntry}
use Rattle.air_core.specs.declared.bus.TheConstants.{EXECUTION, PROGRAM}
use Rattle.air_core.specs.declared.event.Event.{Event}
use Rattle.air_core.specs.declared.event.Side.{Side}
use Rattle.air_core.specs.declared.event.Side.TheVariants.{Send, Receive}
use Rattle.air_core.specs.Balance.{Balanced, IsEven, amount_at, total}
use Rattle.air_core.specs.First.{bit}
use Rattle.air_core.specs.Flags.{flag_constraints}
use Rattle.air_core.specs.Join.{single}
use Rattle.gadget_time.specs.Form.{columns_by, form_constraints}
use Rattle.gadget_time.specs.Nop.{nop_sheet}
use Rattle.air_core.specs.Path.{path_lines}
use Rattle.air_core.specs.Sheet.{Sheet, IsRow, RowHolds, counted, row_events, sent, received}
use Rattle.air_core.specs.System.{System, Part, EachRow, all_events}
use Rattle.air_core.proofs.BalanceLemmas.{total-cons}
use Rattle.exec_path.specs.PathEvents.{connector_events}
use Rattle.page_tree.specs.Tree.{Leaves, root, node, replaced}
use Rattle.page_tree.specs.Opening.{AreDigests, siblings_of, siblings_needed}
use Rattle.page_tree.specs.Parts.{labels_of, old_bytes_at, new_bytes_at, AreRoots}
use Rattle.page_tree.specs.Path.{path_of, path_from, beside, climb}
use Rattle.page_tree.specs.Start.{start_map}
use Rattle.page_tree.proofs.CompleteLemmas.{is_complete, replaced-same, root-same, siblings_of-digests, length-siblings_of}
use Rattle.page_tree.proofs.PartLemmas.{needed-le}
use Rattle.page_tree.proofs.PathLemmas.{length-path_from, climb-path_of}
use Rattle.page_tree.proofs.StartLemmas.{start_map-out}
use Rattle.acceptance.specs.Accepts.{ClaimHolds, IsPublic, shape_of}
use Rattle.acceptance.specs.Events.{received_row, received_on}
use Rattle.acceptance.specs.Example.{BeginsStill, still_file, still_segment}
use Rattle.acceptance.specs.Holds.{SegmentHolds, most_slots}
use Rattle.acceptance.specs.Laws.{RestingFilesAreAccepted, RestingClaimsHold, SteppingFilesAreAccepted}
use Rattle.acceptance.proofs.CanonicalTrees.{hash_canonical, siblings_canonical, path_canonical}
use Rattle.acceptance.proofs.Lookups.{contains_at}

-- ---- tables without rows

abbrev none : List Part → List (List (List ℕ))
none ps = map (λ p. []) ps

each_none : (P : Sheet → List ℕ → Type 0) (ps : List Part) → EachRow P ps (none ps)
each_none P [] = tt
each_none P (p ∷ ps) = (tt, each_none P ps)

no_slots : (ps : List Part) → most_slots ps (none ps) ≡ 0
no_slots [] = refl
no_slots (p ∷ ps) = omega (arith, no_slots ps)

no_events : (ps : List Part) → all_events ps (none ps) ≡ []
no_events [] = refl
no_events (p ∷ ps) = no_events ps

-- ---- what is sent once and received once

and_none : (b : Bool) → (b && false) ≡ false
and_none true = refl
and_none false = refl

-- what an event adds where the two sides of a tuple are compared
other_sent : (b c bus : ℕ) (point tuple : List ℕ) → amount_at Send bus tuple (received b c point) ≡ 0
other_sent b c bus point tuple = rw (and_none (nat_eq b bus)) refl

other_received : (b c bus : ℕ) (point tuple : List ℕ) → amount_at Receive bus tuple (sent b c point) ≡ 0
other_received b c bus point tuple = rw (and_none (nat_eq b bus)) refl

same_amount : (b c bus : ℕ) (point tuple : List ℕ) → amount_at Send bus tuple (sent b c point) ≡ amount_at Receive bus tuple (received b c point)
same_amount b c bus point tuple = refl

rests : (point : List ℕ) → Balanced (sent EXECUTION 1 point ∷ received EXECUTION 1 point ∷ [])
rests point = record {
  even = λ bus tuple.
      omega (
        arith,
        total-cons Send bus tuple (sent EXECUTION 1 point) (received EXECUTION 1 point ∷ []),
        total-cons Send bus tuple (received EXECUTION 1 point) [],
        total-cons Receive bus tuple (sent EXECUTION 1 point) (received EXECUTION 1 point ∷ []),
        total-cons Receive bus tuple (received EXECUTION 1 point) [],
        other_sent EXECUTION 1 bus point tuple,
        other_received EXECUTION 1 bus point tuple,
        same_amount EXECUTION 1 bus point tuple,
      );
}

-- ---- no pages, and the public bytes at the start

nothing_in : (j : ℕ) → Contains [] j → ⊥
nothing_in j h = absurd (omega (arith, h.1))

no_pages : (m : Leaves) → AreRoots [] (siblings_of m []) (root m) (root m)
unfolding labels_of
no_pages m =
    let whole = is_complete m (old_bytes_at []) (new_bytes_at []) [] (λ j h. absurd (nothing_in j h)) in
    let still : root (replaced m [] (new_bytes_at [])) ≡ root m = root-same (replaced m [] (new_bytes_at [])) m (replaced-same m (new_bytes_at []) [] (λ j h. absurd (nothing_in j h))) in
    record { number = whole.number; old_root = sym whole.old_root; new_root = sym (whole.new_root ∙ still) }

path_digests : (m : Leaves) (l i n : ℕ) → AllByRecursion (λ d. length d ≡ 32) (path_from m l i n)
unfolding path_from
path_digests m l i zero = tt
path_digests m l i (suc n) = (length-sha256 (node m l (beside i)), path_digests m (suc l) (i / 2) n)

pub path_digests_of : (m : Leaves) (label : ℕ) → AreDigests (path_of m label)
unfolding path_of
path_digests_of m label = All-from_recursion (λ d. length d ≡ 32) (path_from m 0 label 25) (path_digests m 0 label 25)

no_public : (image : Loaded) → IsPublic (replicate 64 0) (path_of (start_map image) PUBLIC_LABEL) (root (start_map image))
unfolding path_of
no_public image = record {
  whole = record { size = refl; bytes = zero_bytes 64 };
  levels = length-path_from (start_map image) 0 PUBLIC_LABEL 25;
  digests = path_digests_of (start_map image) PUBLIC_LABEL;
  leads = subst (λ (leaf : List ℕ). climb PUBLIC_LABEL leaf (path_of (start_map image) PUBLIC_LABEL) ≡ root (start_map image))
      (start_map-out image PUBLIC_LABEL (λ e. omega (arith, e))) (climb-path_of (start_map image) PUBLIC_LABEL (omega arith));
}

-- ---- the whole

rising_none : IsStrictlyIncreasing (labels_of [])
unfolding labels_of
rising_none = λ k h. absurd (omega (arith, h))

-- a segment that touches no page holds where its rows hold and its events balance
still_holds : (x : System) (image : Loaded) (end time : ℕ) (codes : List ℕ) (tables : List (List (List ℕ))) (program : List CountEntry) → length tables ≡ length x.parts → EachRow IsRow x.parts tables → EachRow RowHolds x.parts tables → most_slots x.parts tables < 2 ^ x.time_bits
    → Balanced (connector_events (record { pc = image.entry; time = 1 }) (record { pc = end; time = time }) ++ (all_events x.parts tables ++ ((received_on (program_of image) PROGRAM program ++ []) ++ [])))
    → SegmentHolds x (program_of image) (still_segment image end time codes tables program)
still_holds x image end time codes tables program count rows hold slots balanced = record {
  count = count;
  are_rows = rows;
  hold = hold;
  slots = slots;
  balanced = balanced;
  rising = rising_none;
  pages = tt;
  digests = siblings_of-digests (start_map image) [];
  roots = no_pages (start_map image);
}

-- and the claim of a file of it holds, where the program ends at its pc
still_claim : (x : System) (version : ℕ) (image : Loaded) (end time : ℕ) (codes : List ℕ) (tables : List (List (List ℕ))) (program : List CountEntry) (code : ℕ) → SegmentHolds x (program_of image) (still_segment image end time codes tables program) → Terminates (program_of image) end code
    → ClaimHolds x image (still_file version image (still_segment image end time codes tables program) code)
still_claim x version image end time codes tables program code holds ends = record {
  some = omega arith;
  few = omega arith;
  hold = (holds, tt);
  linked = (refl, refl, tt);
  ends = refl;
  terminates = ends;
  public = no_public image;
}

-- its values are canonical, where those of its tables and entries are
pub few_siblings : (m : Leaves) (labels : List ℕ) → IsNumber (length (siblings_of m labels))
unfolding siblings_needed
few_siblings m labels = omega (arith, length-siblings_of m labels, needed-le labels 25 0)

pub root_canonical : (m : Leaves) → IsDigest (root m)
unfolding root
root_canonical m = hash_canonical (node m 25 0)

no_entries : (end : ℕ) → IsCountList end []
no_entries end = record { number = lit< tt; each = tt }

pub path_levels : (m : Leaves) → length (path_of m PUBLIC_LABEL) ≡ 25
unfolding path_of
path_levels m = length-path_from m 0 PUBLIC_LABEL 25

still_canonical : (x : System) (version : ℕ) (image : Loaded) (end time : ℕ) (codes : List ℕ) (tables : List (List (List ℕ))) (program : List CountEntry) (code : ℕ) → 1 ≤ version → IsNumber version
    → image.entry < modulus → end < modulus → time < modulus → AreTables (limits_of version).greatest_code (shape_of x image).widths codes tables → IsCountList (length (program_of image)) program → code < 256
    → IsCanonical (shape_of x image) (still_file version image (still_segment image end time codes tables program) code)
still_canonical x version image end time codes tables program code first spelled entry_low end_low time_low are_tables entries byte = record {
  first = first;
  version = spelled;
  segments = (
    record {
      pc_start = entry_low;
      pc_end = end_low;
      end_time = time_low;
      start_root = root_canonical (start_map image);
      end_root = root_canonical (start_map image);
      tables = are_tables;
      program = entries;
      xor = no_entries _;
      range = no_entries _;
      constants = no_entries _;
      page_number = lit< tt;
      pages = tt;
      sibling_number = few_siblings (start_map image) [];
      siblings = siblings_canonical (start_map image) [];
    },
    tt,
  );
  claim = record {
    code = byte;
    public_bytes = record { size = refl; bytes = zero_bytes 64 };
    levels = path_levels (start_map image);
    path = path_canonical (start_map image) PUBLIC_LABEL;
  };
}

-- the row at which a program ends is in range
pub record EndInRange (pc code : ℕ) : Type 0 where
  pub low : pc < 2 ^ 29
  pub byte : code < 256

pub end_in_range : (elf : List ℕ) (image : Loaded) (pc code : ℕ) → HasImage elf image → Terminates (program_of image) pc code → EndInRange pc code
end_in_range elf image pc code has ends =
    let range : InRange ends.row = All-contains InRange (program_of image) ends.row (rows_in_range elf image has) ends.stands in
    record {
      low = subst (λ (n : ℕ). n < 2 ^ 29) ends.here range.low;
      byte = subst (λ (n : ℕ). n < 256) ends.states (first_byte ends.row.imm range.imm.four range.imm.bytes);
    }
  where
    first_byte : (imm : List ℕ) → length imm ≡ 4 → IsBytes imm → slice_index imm 0 < 256
    first_byte [] four bytes = absurd (omega (arith, four))
    first_byte (b ∷ bs) four bytes = bytes.0

-- ---- no steps

resting_holds : (x : System) (image : Loaded) → SegmentHolds x (program_of image) (still_segment image image.entry 1 (map (λ (p : Part). 0) x.parts) (none x.parts) [])
resting_holds x image =
    let balanced = subst (λ (events : List Event). Balanced (sent EXECUTION 1 (image.entry ∷ 1 ∷ []) ∷ received EXECUTION 1 (image.entry ∷ 1 ∷ []) ∷ (events ++ []))) (sym (no_events x.parts)) (rests (image.entry ∷ 1 ∷ [])) in
    still_holds x image image.entry 1 (map (λ (p : Part). 0) x.parts) (none x.parts) [] (length-map x.parts (λ p. [])) (each_none _ x.parts) (each_none _ x.parts) (some_slots x) balanced
  where
    some_slots : (x : System) → most_slots x.parts (none x.parts) < 2 ^ x.time_bits
    some_slots x = let least : 0 ≤ x.time_bits = omega arith in let some : 2 ^ 0 ≤ 2 ^ x.time_bits = pow_mono least in omega (arith, no_slots x.parts, some)

pub resting_claim : (x : System) → RestingClaimsHold x
resting_claim x image version code ends = still_claim x version image image.entry 1 (map (λ (p : Part). 0) x.parts) (none x.parts) [] code (resting_holds x image) ends

empty_tables : (greatest : ℕ) (ps : List Part) → AreTables greatest (map (λ (p : Part). p.sheet.width) ps) (map (λ (p : Part). 0) ps) (none ps)
empty_tables greatest [] = tt
empty_tables greatest (p ∷ ps) = (record { low = omega arith; height = refl; each = tt }, empty_tables greatest ps)

pub resting_accepted : (x : System) → RestingFilesAreAccepted x
resting_accepted x elf image version code has is ends =
    let end = end_in_range elf image image.entry code has ends in
    record {
      bits = is.bits;
      canonical = still_canonical x version image image.entry 1 (map (λ (p : Part). 0) x.parts) (none x.parts) [] code is.first is.spelled (omega (arith, end.low)) (omega (arith, end.low)) (lit< tt)
          (empty_tables (limits_of version).greatest_code x.parts) (no_entries _) end.byte;
      claim = resting_claim x image version code ends;
    }

-- ---- one no-operation

abbrev step_row : ℕ → List ℕ
step_row pc = pc ∷ 1 ∷ 1 ∷ []

abbrev nop_tuple : ℕ → List ℕ
nop_tuple pc = pc ∷ 39 ∷ 0 ∷ 0 ∷ 0 ∷ 0 ∷ 0 ∷ 0 ∷ 0 ∷ 0 ∷ 0 ∷ 0 ∷ []

step_lines : (hi pc : ℕ) → pc < 2 ^ 29 → (nop_sheet hi).lines (step_row pc) ≡ received EXECUTION 1 (pc ∷ 1 ∷ []) ∷ sent EXECUTION 1 ((pc + 4) ∷ 2 ∷ []) ∷ sent PROGRAM 1 (nop_tuple pc) ∷ []
unfolding columns_by path_lines
step_lines hi pc low =
    let next : field_add pc 4 ≡ pc + 4 = omega (arith, low) in
    rw next refl

step_holds : (hi pc : ℕ) → RowHolds (nop_sheet hi) (step_row pc)
unfolding columns_by form_constraints flag_constraints bit
step_holds hi pc = (refl, (refl, tt))

-- the connector, the row, and its program row
six_balance : (a b c : List ℕ) → Balanced (sent EXECUTION 1 a ∷ received EXECUTION 1 b ∷ received EXECUTION 1 a ∷ sent EXECUTION 1 b ∷ sent PROGRAM 1 c ∷ received PROGRAM 1 c ∷ [])
six_balance a b c = record { even = even }
  where
    even : (bus : ℕ) (tuple : List ℕ) → IsEven bus tuple (sent EXECUTION 1 a ∷ received EXECUTION 1 b ∷ received EXECUTION 1 a ∷ sent EXECUTION 1 b ∷ sent PROGRAM 1 c ∷ received PROGRAM 1 c ∷ [])
    even bus tuple =
        let sum : (side : Side) → total side bus tuple (sent EXECUTION 1 a ∷ received EXECUTION 1 b ∷ received EXECUTION 1 a ∷ sent EXECUTION 1 b ∷ sent PROGRAM 1 c ∷ received PROGRAM 1 c ∷ [])
        ≡ amount_at side bus tuple (sent EXECUTION 1 a) + (amount_at side bus tuple (received EXECUTION 1 b) + (amount_at side bus tuple (received EXECUTION 1 a) + (amount_at side bus tuple (sent EXECUTION 1 b) + (amount_at side bus tuple (sent PROGRAM 1 c) + amount_at side bus tuple (received PROGRAM 1 c)))))
        = λ side.
        omega (
          arith,
          total-cons side bus tuple (sent EXECUTION 1 a) (received EXECUTION 1 b ∷ received EXECUTION 1 a ∷ sent EXECUTION 1 b ∷ sent PROGRAM 1 c ∷ received PROGRAM 1 c ∷ []),
          total-cons side bus tuple (received EXECUTION 1 b) (received EXECUTION 1 a ∷ sent EXECUTION 1 b ∷ sent PROGRAM 1 c ∷ received PROGRAM 1 c ∷ []),
          total-cons side bus tuple (received EXECUTION 1 a) (sent EXECUTION 1 b ∷ sent PROGRAM 1 c ∷ received PROGRAM 1 c ∷ []),
          total-cons side bus tuple (sent EXECUTION 1 b) (sent PROGRAM 1 c ∷ received PROGRAM 1 c ∷ []),
          total-cons side bus tuple (sent PROGRAM 1 c) (received PROGRAM 1 c ∷ []),
          total-cons side bus tuple (received PROGRAM 1 c) [],
        ) in
        omega (
          arith,
          sum Send,
          sum Receive,
          other_sent EXECUTION 1 bus b tuple,
          other_sent EXECUTION 1 bus a tuple,
          other_sent PROGRAM 1 bus c tuple,
          other_received EXECUTION 1 bus a tuple,
          other_received EXECUTION 1 bus b tuple,
          other_received PROGRAM 1 bus c tuple,
          same_amount EXECUTION 1 bus a tuple,
          same_amount EXECUTION 1 bus b tuple,
          same_amount PROGRAM 1 bus c tuple,
        )

step_balances : (hi : ℕ) (image : Loaded) (place : ℕ) (begins : BeginsStill image place) → InRange begins.row
    → Balanced (connector_events (record { pc = image.entry; time = 1 }) (record { pc = image.entry + 4; time = 2 }) ++ (all_events (single (nop_sheet hi)).parts ((step_row image.entry ∷ []) ∷ []) ++ ((received_on (program_of image) PROGRAM (record { place = place; count = 1 } ∷ []) ++ []) ++ [])))
step_balances hi image place begins range =
    let low : image.entry < 2 ^ 29 = omega (arith, range.low, begins.here) in
    let numbers : numbers_of begins.row ≡ nop_tuple image.entry = numbers_of-nop begins.row range begins.is_nop ∙ ap nop_tuple begins.here in
    let said : row_events (nop_sheet hi) (step_row image.entry) ≡ received EXECUTION 1 (image.entry ∷ 1 ∷ []) ∷ sent EXECUTION 1 ((image.entry + 4) ∷ 2 ∷ []) ∷ sent PROGRAM 1 (nop_tuple image.entry) ∷ [] = ap counted (step_lines hi image.entry low) in
    let got : received_row PROGRAM 1 (option_map numbers_of (slice_get (program_of image) place)) ≡ received PROGRAM 1 (nop_tuple image.entry) ∷ [] =
    ap (λ (row : Option VmInstr). received_row PROGRAM 1 (option_map numbers_of row)) begins.stands ∙ ap (λ (tuple : List ℕ). received PROGRAM 1 tuple ∷ []) numbers in
    rw (said, got) (six_balance (image.entry ∷ 1 ∷ []) ((image.entry + 4) ∷ 2 ∷ []) (nop_tuple image.entry))

-- one row is a table of each version
codes_by : (version : ℕ) (b : Bool) → nat_eq version 1 ≡ b → 1 ≤ (limits_of version).greatest_code
codes_by version true is = rw is (lit≤ tt)
codes_by version false is = rw is (lit≤ tt)

pub few_rows : (image : Loaded) → 4 * length (program_of image) ≤ 2 ^ 32 + 3
few_rows image = omega (arith, rises_few 0 (program_of image) (omega arith) (program_rises image))

pub stepping_accepted : SteppingFilesAreAccepted
stepping_accepted elf image hi version place code has is begins ends =
    let program = program_of image in
    let range : InRange begins.row = All-contains InRange program begins.row (rows_in_range elf image has) (contains_at program place begins.row begins.stands) in
    let low : image.entry < 2 ^ 29 = omega (arith, range.low, begins.here) in
    let end = end_in_range elf image (image.entry + 4) code has ends in
    let row : IsRow (nop_sheet hi) (step_row image.entry) = record { wide = refl; below = (omega (arith, low), (lit< tt, (lit< tt, tt))) } in
    let within : place < length program = slice_get_within program place begins.row begins.stands in
    let entries : IsCountList (length program) (record { place = place; count = 1 } ∷ []) =
    record { number = lit< tt; each = (record { low = omega arith; high = within; used = lit< tt; place = omega (arith, within, few_rows image); count = lit< tt }, tt) } in
    let above : 1 ≤ 16 + hi = omega arith in
    let some : 2 ^ 1 ≤ 2 ^ (16 + hi) = pow_mono above in
    let holds = still_holds (single (nop_sheet hi)) image (image.entry + 4) 2 (1 ∷ []) ((step_row image.entry ∷ []) ∷ []) (record { place = place; count = 1 } ∷ []) refl ((row, tt), tt) ((step_holds hi image.entry, tt), tt) (omega (arith, some)) (step_balances hi image place begins range) in
    record {
      bits = is.bits;
      canonical = still_canonical (single (nop_sheet hi)) version image (image.entry + 4) 2 (1 ∷ []) ((step_row image.entry ∷ []) ∷ []) (record { place = place; count = 1 } ∷ []) code is.first is.spelled
          (omega (arith, low)) (omega (arith, end.low)) (lit< tt) (record { low = codes_by version (nat_eq version 1) refl; height = refl; each = (record { wide = refl; elements = row.below }, tt) }, tt) entries end.byte;
      claim = still_claim (single (nop_sheet hi)) version image (image.entry + 4) 2 (1 ∷ []) ((step_row image.entry ∷ []) ∷ []) (record { place = place; count = 1 } ∷ []) code holds ends;
    }
