-- The row of a SHA block, and the table.
use Rattle.std.specs.Prelude.{ℕ, ◌+◌, false, nat_eq, if◌then◌else◌, List, [], ◌∷◌, ◌++◌, flat_map, length, map, replicate, take, drop, slice_index}
use Rattle.std.specs.List.{range_with_len, slice_index_or}
use Rattle.vm_field.specs.Limbs.{limbs_from, list_of}
use Rattle.vm_word.specs.Word.{limbs_of}
use Rattle.sha_words.specs.Sha256.{rounds, schedule, sums_of}
use Rattle.vm_isa.specs.declared.record.StepRecord.{StepRecord}
use Rattle.vm_isa.specs.Opcodes.{SHA}
use Rattle.air_core.specs.Formal.{formal}
use Rattle.air_core.specs.Ring.{field}
use Rattle.air_core.specs.Sheet.{Sheet}
use Rattle.gadget_time.specs.Form.{Form, form_sheet, IsFormal}
use Rattle.gadget_bits.specs.Bits.{halves_filled}
use Rattle.gadget_bits.specs.Record.{olds_of, state_of, block_of}
use Rattle.gadget_bits.specs.Stage.{halves_cells}
use Rattle.gadget_time.specs.Access.{access_at, gap_of, gap_cells}
use Rattle.chip_sha_main.specs.Main.{MainRow, main_parts}

-- the columns behind the flag
unfoldable pub cells_of_main : MainRow ℕ → List ℕ
cells_of_main r =
    r.rd ∷ r.rs1
    ∷ (list_of r.base ++ (list_of r.block ++ (flat_map list_of r.message ++ (flat_map list_of r.old ++ (flat_map list_of r.new ++ (halves_cells r.working ++ (halves_cells r.rest
    ++ (gap_cells r.first ++ (gap_cells r.second ++ (flat_map gap_cells r.reads ++ flat_map gap_cells r.writes))))))))))

-- the words of the schedule of a record, and the working variables behind the last round
abbrev pub schedule_of : StepRecord → List ℕ
schedule_of done = schedule (block_of done) 80

unfoldable pub last_of : StepRecord → List ℕ
last_of done = rounds (state_of done) (schedule_of done) 64

-- the columns of a record
unfoldable pub main_columns : StepRecord → MainRow ℕ
main_columns done = record {
  pc = done.instr.pc;
  time = done.time;
  flag = 1;
  rd = done.instr.rd;
  rs1 = done.instr.rs1;
  base = limbs_from (slice_index_or (olds_of done) 0 []);
  block = limbs_from (slice_index_or (olds_of done) 1 []);
  message = map limbs_from (take 16 (drop 2 (olds_of done)));
  old = map limbs_from (take 8 (drop 18 (olds_of done)));
  new = map (λ n. limbs_from (limbs_of n)) (sums_of (state_of done) (last_of done));
  working = map halves_filled (last_of done);
  rest = map (λ i. halves_filled (slice_index (schedule_of done) (64 + i))) (range_with_len 0 16);
  first = gap_of (access_at done.accesses 0);
  second = gap_of (access_at done.accesses 1);
  reads = map gap_of (take 16 (drop 2 done.accesses));
  writes = map gap_of (take 8 (drop 18 done.accesses));
}

-- the columns that a record fills; one that isn't of a SHA block, which has 26 accesses, fills zeros
abbrev pub main_filled : StepRecord → List ℕ
main_filled done = if nat_eq (length done.accesses) 26 then cells_of_main (main_columns done) else replicate 264 0

abbrev pub main_form : Form
main_form = record {
  slots = 26;
  opcodes = SHA ∷ [];
  width = 264;
  alone = false;
  parts = main_parts field;
  place = λ done. 0;
  filled = main_filled;
}

abbrev pub main_sheet : ℕ → Sheet
main_sheet hi = form_sheet main_form hi

abbrev pub MainIsFormal : Type 0
MainIsFormal = IsFormal main_form (main_parts formal)
