-- The row of a round, and the table.
use Rattle.std.specs.Prelude.{◌≡◌, ℕ, ◌+◌, false, nat_eq, List, [], ◌∷◌, ◌++◌, map, slice_index}
use Rattle.sha_words.specs.Sha256.{round, round_constant, rounds, schedule}
use Rattle.vm_isa.specs.declared.record.StepRecord.{StepRecord}
use Rattle.vm_isa.specs.Opcodes.{SHA}
use Rattle.air_core.specs.Formal.{formal, value, event_at}
use Rattle.air_core.specs.Formal.Expression.{column}
use Rattle.air_core.specs.Ring.{field}
use Rattle.air_core.specs.Sheet.{Sheet}
use Rattle.gadget_bits.specs.Bits.{bits_filled, halves_filled}
use Rattle.gadget_bits.specs.Record.{state_of, block_of}
use Rattle.gadget_bits.specs.Stage.{halves_cells}
use Rattle.chip_sha_round.specs.Round.{RoundRow, round_row, round_constraints, round_lines}

-- the columns of round t of a state and the words of a schedule
unfoldable pub round_filled : (time t : ℕ) (state words : List ℕ) → RoundRow ℕ
round_filled time t state words = record {
  flag = 1;
  time = time;
  round = t;
  constant = halves_filled (round_constant t);
  a = bits_filled (slice_index state 0);
  b = bits_filled (slice_index state 1);
  c = bits_filled (slice_index state 2);
  e = bits_filled (slice_index state 4);
  f = bits_filled (slice_index state 5);
  g = bits_filled (slice_index state 6);
  w1 = bits_filled (slice_index words (t + 1));
  w14 = bits_filled (slice_index words (t + 14));
  d = halves_filled (slice_index state 3);
  h = halves_filled (slice_index state 7);
  w0 = halves_filled (slice_index words (t + 0));
  w2 = halves_filled (slice_index words (t + 2));
  w3 = halves_filled (slice_index words (t + 3));
  w4 = halves_filled (slice_index words (t + 4));
  w5 = halves_filled (slice_index words (t + 5));
  w6 = halves_filled (slice_index words (t + 6));
  w7 = halves_filled (slice_index words (t + 7));
  w8 = halves_filled (slice_index words (t + 8));
  w9 = halves_filled (slice_index words (t + 9));
  w10 = halves_filled (slice_index words (t + 10));
  w11 = halves_filled (slice_index words (t + 11));
  w12 = halves_filled (slice_index words (t + 12));
  w13 = halves_filled (slice_index words (t + 13));
  w15 = halves_filled (slice_index words (t + 15));
  new_a = halves_filled (slice_index (round state (round_constant t) (slice_index words (t + 0))) 0);
  new_e = halves_filled (slice_index (round state (round_constant t) (slice_index words (t + 0))) 4);
  new_w = halves_filled (slice_index words (t + 16));
}

-- the row of columns
unfoldable pub row_of_round : RoundRow ℕ → List ℕ
row_of_round r =
    r.flag ∷ r.time ∷ r.round ∷ r.constant.lo ∷ r.constant.hi
    ∷ (r.a ++ (r.b ++ (r.c ++ (r.e ++ (r.f ++ (r.g ++ (r.w1 ++ (r.w14
    ++ halves_cells (r.d ∷ r.h ∷ r.w0 ∷ r.w2 ∷ r.w3 ∷ r.w4 ∷ r.w5 ∷ r.w6 ∷ r.w7 ∷ r.w8 ∷ r.w9 ∷ r.w10 ∷ r.w11 ∷ r.w12 ∷ r.w13 ∷ r.w15 ∷ r.new_a ∷ r.new_e ∷ r.new_w ∷ [])))))))))

-- the row of round t of a state and the words of a schedule
abbrev pub row_at : (time : ℕ) (state words : List ℕ) → ℕ → List ℕ
row_at time state words t = row_of_round (round_filled time t (rounds state words t) words)

-- and of a record of a SHA block
abbrev pub round_at : StepRecord → ℕ → List ℕ
round_at done place = row_at done.time (state_of done) (schedule (block_of done) 80) place

abbrev pub round_sheet : ℕ → Sheet
round_sheet hi = record {
  width = 299;
  slots = 0;
  rows = 64;
  time_bits = 16 + hi;
  first_flag = 0;
  flags = 1;
  owns = λ _. false;
  takes = λ op. nat_eq op SHA;
  alone = false;
  constraints = λ row. round_constraints field (slice_index row);
  lines = λ row. round_lines field (round_row (slice_index row));
  filled = round_at;
}

-- Its expressions over the columns have the values of the sheet.
pub record RoundIsFormal : Type 0 where
  pub constraints : (row : List ℕ) → map (value row) (round_constraints formal column) ≡ round_constraints field (slice_index row)
  pub lines : (row : List ℕ) → map (event_at row) (round_lines formal (round_row column)) ≡ round_lines field (round_row (slice_index row))
