-- The stages of a record's row: it sends the one before the first round, and receives the one behind the last.
use Rattle.std.proofs.Common.{◌≡◌, ℕ, ◌+◌, ◌≤◌, List, [], ◌∷◌, ◌++◌, map, refl, sym, ap, ◌∙◌}
use Rattle.std.specs.List.{concat}
use Rattle.vm_word.specs.Word.{word_of_limbs}
use Rattle.sha_words.specs.Sha256.{rounds, schedule}
use Rattle.vm_isa.specs.declared.record.StepRecord.{StepRecord}
use Rattle.vm_isa.specs.Means.{Fillable}
use Rattle.air_core.specs.declared.bus.TheConstants.{FIRST_PRIVATE}
use Rattle.air_core.specs.declared.event.Side.TheVariants.{Send, Receive}
use Rattle.air_core.specs.Balance.{total}
use Rattle.air_core.specs.Ring.{field}
use Rattle.air_core.specs.Sheet.{row_events, sent, received}
use Rattle.air_core.specs.lemmas.Cells.{cells_back_last}
use Rattle.air_core.proofs.Totals.{total_send-given_first, total_receive-given_first}
use Rattle.gadget_bits.specs.Bits.{halves_filled}
use Rattle.gadget_bits.specs.Record.{state_of, block_of}
use Rattle.gadget_bits.specs.Stage.{halves_cells}
use Rattle.gadget_bits.proofs.StageLaws.{cells_are, halves_append, number_cells, stage_numbers}
use Rattle.gadget_time.specs.Form.{Columns, columns, columns_by, filled_columns, row_of_columns}
use Rattle.chip_sha_main.specs.Main.{MainRow, main_of, chain_lines, start_words, end_words}
use Rattle.chip_sha_main.specs.Sheet.{main_form, main_sheet, last_of}
use Rattle.chip_sha_main.specs.lemmas.Bus.{chain_only}
use Rattle.chip_sha_main.specs.lemmas.Filled.{bytes_from, words_from, lists_from, halves_all, words_of_times}
use Rattle.chip_sha_main.specs.lemmas.MainLaws.{row_is, tells_done}
use Rattle.chip_sha_main.specs.lemmas.Numbers.{word, eight, start_is, schedule_of}
use Rattle.chip_sha_main.specs.lemmas.Record.{reads, writes_list, rest, R, row_long, filling, message_is, state_is, last_all, rest_all, long_last}
use Rattle.chip_sha_main.specs.lemmas.RoundTotals.{stage_at, here_at}

module _ (hi : ℕ) (top : hi ≤ 13) (done : StepRecord) (f : Fillable (16 + hi) done) (op : done.instr.op ≡ 40) where
  abbrev Q : MainRow ℕ
  Q = R hi top done f op

  start : halves_cells (start_words field Q) ≡ number_cells (stage_numbers (state_of done) (schedule (block_of done) 80) 0)
  unfolding start_words
  start =
      let g = filling hi top done f op in
      let reads_words = words_of_times hi (reads hi top done f op) g.reads_in in
      let writes_words = words_of_times hi (writes_list hi top done f op) g.writes_in in
      let l = row_long hi top done f op in
      let state : map word Q.old ≡ state_of done = words_from _ writes_words ∙ ap (map word_of_limbs) (sym (state_is hi top done f op)) in
      let block : schedule_of Q.message ≡ schedule (block_of done) 80 = ap (λ (xs : List (List ℕ)). schedule (concat xs) 80) (lists_from _ reads_words ∙ sym (message_is hi top done f op)) in
      cells_are _ _ (start_is Q.old Q.message l.old l.message (bytes_from _ writes_words) (bytes_from _ reads_words))
      ∙ (λ i. number_cells (stage_numbers (state i) (block i) 0))

  end : halves_cells (end_words Q) ≡ number_cells (stage_numbers (last_of done) (schedule (block_of done) 80) 64)
  unfolding end_words
  end =
      let last = last_of done in
      cells_are (map halves_filled last ++ map halves_filled (rest hi top done f op)) (last ++ rest hi top done f op)
      (halves_append (map halves_filled last) (map halves_filled (rest hi top done f op)) last (rest hi top done f op) (halves_all last (last_all hi top done f op)) (halves_all (rest hi top done f op) (rest_all hi top done f op)))
      ∙ ap (λ (ns : List ℕ). number_cells (ns ++ rest hi top done f op)) (eight last (long_last hi top done f op))

  stages : chain_lines field Q ≡ sent FIRST_PRIVATE 1 (stage_at done.time (state_of done) (schedule (block_of done) 80) 0) ∷ received FIRST_PRIVATE 1 (stage_at done.time (state_of done) (schedule (block_of done) 80) 64) ∷ []
  unfolding chain_lines rounds last_of
  stages =
      let s = start in
      let e = end in
      λ i. sent FIRST_PRIVATE 1 (done.time ∷ 0 ∷ s i) ∷ received FIRST_PRIVATE 1 (done.time ∷ 64 ∷ e i) ∷ []

  abbrev row : List ℕ
  row = row_of_columns (filled_columns main_form done)

  -- the columns of the row, read back
  columns_back : columns main_form row ≡ filled_columns main_form done
  unfolding columns_by
  columns_back =
      let c = filled_columns main_form done in
      let last = cells_back_last (done.instr.pc ∷ done.time ∷ 1 ∷ []) c.rest 3 264 refl (tells_done hi top done f op).rest_long in
      λ i. record { pc = done.instr.pc; time = done.time; flags = 1 ∷ []; rest = last i }

  pub main_is : main_of field (columns main_form row) ≡ Q
  main_is = ap (λ (c : Columns ℕ). main_of field c) columns_back ∙ row_is hi top done f op

  pub main_sends : (tuple : List ℕ) → total Send FIRST_PRIVATE tuple (row_events (main_sheet hi) row) ≡ here_at tuple done.time (state_of done) (schedule (block_of done) 80) 0
  main_sends tuple =
      chain_only Send tuple hi (columns main_form row) ∙ ap (λ (m : MainRow ℕ). total Send FIRST_PRIVATE tuple (chain_lines field m)) main_is ∙ ap (total Send FIRST_PRIVATE tuple) stages
      ∙ total_send-given_first FIRST_PRIVATE tuple (stage_at done.time (state_of done) (schedule (block_of done) 80) 64) (stage_at done.time (state_of done) (schedule (block_of done) 80) 0)

  pub main_takes : (tuple : List ℕ) → total Receive FIRST_PRIVATE tuple (row_events (main_sheet hi) row) ≡ here_at tuple done.time (state_of done) (schedule (block_of done) 80) 64
  main_takes tuple =
      chain_only Receive tuple hi (columns main_form row) ∙ ap (λ (m : MainRow ℕ). total Receive FIRST_PRIVATE tuple (chain_lines field m)) main_is ∙ ap (total Receive FIRST_PRIVATE tuple) stages
      ∙ total_receive-given_first FIRST_PRIVATE tuple (stage_at done.time (state_of done) (schedule (block_of done) 80) 64) (stage_at done.time (state_of done) (schedule (block_of done) 80) 0)
