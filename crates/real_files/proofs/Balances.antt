-- Both segments balance.
use Rattle.std.proofs.Common.{◌≡◌, ℕ, List, [], ◌∷◌, ◌++◌, refl, sym, ap, ◌∙◌, subst}
use Rattle.std.specs.Prelude.{flat_map, slice_get, bit_xor, Option, Some}
use Rattle.std.specs.Option.{option_map}
use Rattle.vm_isa.specs.declared.instr.VmInstr.{VmInstr}
use Rattle.vm_isa.specs.Instr.{numbers_of}
use Rattle.vm_trace.specs.declared.page.Touched.{Touched}
use Rattle.air_core.specs.declared.event.Event.{Event}
use Rattle.air_core.specs.Balance.{Balanced}
use Rattle.air_core.specs.Sheet.{row_events}
use Rattle.chip_alu.specs.Alu.{alu_sheet}
use Rattle.exec_path.specs.PathEvents.{connector_events}
use Rattle.lookup_tables.specs.Rows.{row_at}
use Rattle.offline_memory.specs.MemoryEvents.{boundary_events}
use Rattle.elf_image.specs.Loaded.{Loaded}
use Rattle.acceptance.specs.Events.{received_row, received_on, segment_events}
use Rattle.real_files.specs.TwoSums.{two_tables, first_sum, second_sum, first_segment, second_segment, first_touched, second_touched, first_row, second_row, entry}
use Rattle.real_files.proofs.Rows.{first_lines, second_lines, first_says, second_says}
use Rattle.real_files.proofs.Tested.{each_even, balanced_by_test}

-- what the first segment says, with the row's events and the program row
abbrev pub first_said : List Event → Option VmInstr → List Event
first_said said row =
    connector_events (record { pc = 4096; time = 1 }) (record { pc = 4100; time = 4 })
    ++ (((said ++ []) ++ [])
    ++ (((received_row 1 1 (option_map numbers_of row) ++ []) ++ (received_on [] 3 (entry 0 3 ∷ entry 1799 1 ∷ []) ++ (received_on [] 4 (entry 255 2 ∷ entry 65535 1 ∷ entry 65537 1 ∷ []) ++ [])))
    ++ flat_map boundary_events (first_touched ∷ [])))

first_even : Balanced (first_said first_lines (Some first_sum))
unfolding each_even numbers_of row_at
first_even = balanced_by_test (first_said first_lines (Some first_sum)) refl

pub first_balanced : (program : List VmInstr) (image : Loaded) (place : ℕ) → slice_get program place ≡ Some first_sum → Balanced (segment_events two_tables program (first_segment image place))
first_balanced program image place stands =
    subst (λ (row : Option VmInstr). Balanced (first_said (row_events (alu_sheet 8) first_row) row)) (sym stands)
    (subst (λ (said : List Event). Balanced (first_said said (Some first_sum))) (sym first_says) first_even)

abbrev pub second_said : List Event → Option VmInstr → List Event
second_said said row =
    connector_events (record { pc = 4100; time = 1 }) (record { pc = 4104; time = 4 })
    ++ (((said ++ []) ++ [])
    ++ (((received_row 1 1 (option_map numbers_of row) ++ []) ++ (received_on [] 3 (entry 0 3 ∷ entry 3598 1 ∷ []) ++ (received_on [] 4 (entry 255 3 ∷ entry 65535 2 ∷ entry 65537 1 ∷ []) ++ [])))
    ++ flat_map boundary_events (second_touched ∷ [])))

second_even : Balanced (second_said second_lines (Some second_sum))
unfolding each_even numbers_of row_at
second_even = balanced_by_test (second_said second_lines (Some second_sum)) refl

pub second_balanced : (program : List VmInstr) (image : Loaded) (place : ℕ) → slice_get program place ≡ Some second_sum → Balanced (segment_events two_tables program (second_segment image place))
second_balanced program image place stands =
    subst (λ (row : Option VmInstr). Balanced (second_said (row_events (alu_sheet 8) second_row) row)) (sym stands)
    (subst (λ (said : List Event). Balanced (second_said said (Some second_sum))) (sym second_says) second_even)
