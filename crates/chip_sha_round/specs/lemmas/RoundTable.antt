-- The laws of the table.
use Rattle.std.proofs.Common.{◌≡◌, ℕ, ◌+◌, ◌^◌, ◌<◌, ◌≤◌, false, true, List, [], ◌∷◌, length, replicate, take, drop, slice_index, refl, sym, subst, arith, lit≤}
use Rattle.std.specs.List.{AllByRecursion}
use Rattle.std.proofs.lemmas.Bool.{eqb-true}
use Rattle.sha_words.specs.Sha256.{rounds, schedule, next_word}
use Rattle.sha_words.proofs.RoundLemmas.{rounds-lt}
use Rattle.sha_words.proofs.ScheduleLemmas.{schedule-lt, slice_index-schedule_next}
use Rattle.vm_isa.specs.declared.record.StepRecord.{StepRecord}
use Rattle.vm_isa.specs.Means.{Fillable}
use Rattle.air_core.specs.declared.event.Event.{Event}
use Rattle.air_core.specs.First.{bit}
use Rattle.air_core.specs.Flags.{flag_constraints}
use Rattle.air_core.specs.Hint.{NoHint, is_program}
use Rattle.air_core.specs.Laws.{Fits, Buses, MayBus, Timed, Sound, Complete, Filled, Quiet}
use Rattle.air_core.specs.ListLemmas.{all_append, all_counted, counted_length, counted_none, by_zero_test, zero_test}
use Rattle.air_core.specs.Lookups.{Good, GoodEvent}
use Rattle.air_core.specs.Ring.{field}
use Rattle.air_core.specs.Sheet.{AllZero, counted}
use Rattle.air_core.proofs.HintLemmas.{NoProgram, no_hint}
use Rattle.gadget_bits.specs.declared.halves.Halves.{Halves}
use Rattle.gadget_bits.specs.Record.{state_of, block_of}
use Rattle.gadget_bits.specs.Sum.{sum_lines}
use Rattle.gadget_bits.proofs.RecordWords.{state_low, block_bytes, time_low}
use Rattle.chip_sha_round.specs.Round.{RoundRow, round_row, round_constraints, round_lines, stage_lines, sums_lines, a_words, e_words, w_words}
use Rattle.chip_sha_round.specs.Sheet.{round_sheet, round_filled, round_at}
use Rattle.chip_sha_round.specs.lemmas.RoundFilled.{AreWords, filled_good, round_back, round_wide, round_holds, round_below}

-- what holds of every event of a row
pub round_all : (P : Event → Type 0) (r : RoundRow ℕ) → ((ws : List (Halves ℕ)) (out : Halves ℕ) → AllByRecursion P (sum_lines field r.flag ws out)) → AllByRecursion P (stage_lines field r) → AllByRecursion P (round_lines field r)
unfolding round_lines
round_all P r sums stages =
    all_append P (sums_lines field r) (stage_lines field r)
    (all_append P (sum_lines field r.flag (a_words field r) r.new_a) _ (sums (a_words field r) r.new_a)
    (all_append P (sum_lines field r.flag (e_words field r) r.new_e) (sum_lines field r.flag (w_words field r) r.new_w) (sums (e_words field r) r.new_e) (sums (w_words field r) r.new_w)))
    stages

pub length-sums : (r : RoundRow ℕ) → length (sums_lines field r) ≡ 12
unfolding sum_lines
length-sums r = refl

-- Law Fits

pub round_fits : (hi : ℕ) → 8 ≤ hi → hi ≤ 13 → Fits (round_sheet hi)
round_fits hi low high = record { bits_low = omega arith; bits_high = omega arith; width = lit≤ tt; rows = lit≤ tt; owned = λ op h. absurd (cc) }

-- Law Buses

module _ (hi : ℕ) where
  sum_may : (count : ℕ) (ws : List (Halves ℕ)) (out : Halves ℕ) → AllByRecursion (MayBus (round_sheet hi)) (sum_lines field count ws out)
  unfolding sum_lines
  sum_may count ws out = (
    record { lookup = λ h. refl; machine = λ h. absurd (omega arith); private = λ h. refl },
    (
      record { lookup = λ h. refl; machine = λ h. absurd (omega arith); private = λ h. refl },
      (record { lookup = λ h. refl; machine = λ h. absurd (omega arith); private = λ h. refl }, (record { lookup = λ h. refl; machine = λ h. absurd (omega arith); private = λ h. refl }, tt)),
    ),
  )

  stage_may : (r : RoundRow ℕ) → AllByRecursion (MayBus (round_sheet hi)) (stage_lines field r)
  unfolding stage_lines
  stage_may r = (
    record { lookup = λ h. refl; machine = λ h. absurd (omega arith); private = λ h. refl },
    (
      record { lookup = λ h. absurd (cc); machine = λ h. absurd (omega arith); private = λ h. refl },
      (record { lookup = λ h. absurd (cc); machine = λ h. absurd (omega arith); private = λ h. refl }, tt),
    ),
  )

  fifteen : (r : RoundRow ℕ) → length (round_lines field r) ≡ 15
  unfolding round_lines sum_lines stage_lines
  fifteen r = refl

  pub round_few : (r : RoundRow ℕ) → length (counted (round_lines field r)) ≤ 15
  round_few r = omega (arith, counted_length (round_lines field r), fifteen r)

  pub round_buses : Buses (round_sheet hi)
  round_buses = record {
    uses = λ row. all_counted (MayBus (round_sheet hi)) (round_lines field (round_row (slice_index row)))
        (round_all (MayBus (round_sheet hi)) (round_row (slice_index row)) (λ ws out. sum_may (round_row (slice_index row)).flag ws out) (stage_may (round_row (slice_index row))));
    few = λ row. omega (arith, round_few (round_row (slice_index row)));
  }

-- Laws Timed and Sound: it owns no opcode.

pub round_timed : (hi : ℕ) → Timed (round_sheet hi)
round_timed hi owns = absurd (let h : false ≡ true = owns.1 in cc)

pub round_sound : (hi : ℕ) → Sound (round_sheet hi)
round_sound hi alone = absurd (cc)

-- Law Complete

sum_ones : (count : ℕ) (ws : List (Halves ℕ)) (out : Halves ℕ) → count ≡ 1 → AllByRecursion (λ e. e.count ≡ 1) (sum_lines field count ws out)
unfolding sum_lines
sum_ones count ws out one = (one, (one, (one, (one, tt))))

stage_ones : (r : RoundRow ℕ) → r.flag ≡ 1 → AllByRecursion (λ e. e.count ≡ 1) (stage_lines field r)
unfolding stage_lines
stage_ones r one = (one, (one, (one, tt)))

pub round_ones : (r : RoundRow ℕ) → r.flag ≡ 1 → AllByRecursion (λ e. e.count ≡ 1) (round_lines field r)
round_ones r one = round_all (λ e. e.count ≡ 1) r (λ ws out. sum_ones r.flag ws out one) (stage_ones r one)

-- the words of a record
pub are_words : (state block : List ℕ) (t : ℕ) → ((j : ℕ) → slice_index state j < 2 ^ 32) → ((i : ℕ) → slice_index block i < 256) → AreWords (rounds state (schedule block 80) t) (schedule block 80)
are_words state block t s b = record { state_fits = λ j. rounds-lt state (schedule block 80) t j s; words_fit = λ j. schedule-lt block 80 j b }

flag_is : (time t : ℕ) (state words : List ℕ) → (round_filled time t state words).flag ≡ 1
unfolding round_filled
flag_is time t state words = refl

module _ (hi : ℕ) (top : hi ≤ 13) (done : StepRecord) (f : Fillable (16 + hi) done) (op : done.instr.op ≡ 40) where
  abbrev words : List ℕ
  words = schedule (block_of done) 80

  abbrev state : ℕ → List ℕ
  state t = rounds (state_of done) words t

  columns : (t : ℕ) → round_row (slice_index (round_at done t)) ≡ round_filled done.time t (state t) words
  columns t = round_back done.time t (state t) words

  good : (t : ℕ) → t < 64 → AllByRecursion GoodEvent (round_lines field (round_filled done.time t (state t) words))
  good t low =
      let next : slice_index words (t + 16) ≡ next_word words (t + 16) = slice_index-schedule_next (block_of done) 80 (t + 16) (omega arith) (omega arith) in
      filled_good done.time t (state t) words (are_words (state_of done) (block_of done) t (state_low hi done f) (block_bytes hi done f)) low next

  pub round_filled_row : (t : ℕ) → t < 64 → Filled (round_sheet hi) done (round_at done t)
  round_filled_row t low = record {
    is_row = record {
      wide = round_wide done.time t (state t) words;
      below = round_below done.time t (state t) words (are_words (state_of done) (block_of done) t (state_low hi done f) (block_bytes hi done f)) (time_low hi done f top op) low;
    };
    holds = round_holds done.time t (state t) words;
    good = subst (λ (r : RoundRow ℕ). Good (counted (round_lines field r))) (sym (columns t)) (all_counted GoodEvent (round_lines field (round_filled done.time t (state t) words)) (good t low));
    counts = subst (λ (r : RoundRow ℕ). AllByRecursion (λ (e : Event). e.count ≡ 1) (counted (round_lines field r))) (sym (columns t))
        (all_counted (λ (e : Event). e.count ≡ 1) (round_lines field (round_filled done.time t (state t) words)) (round_ones (round_filled done.time t (state t) words) (flag_is done.time t (state t) words)));
    recorded = λ owns. absurd (cc);
  }

pub round_complete : (hi : ℕ) → hi ≤ 13 → Complete (round_sheet hi)
round_complete hi top done place f takes low = round_filled_row hi top done f (eqb-true done.instr.op 40 takes) place low

-- Law Quiet

zeros : zero_test (round_constraints field (slice_index (replicate 299 0))) ≡ true
unfolding round_constraints flag_constraints bit zero_test
zeros = refl

sum_none : (count : ℕ) (ws : List (Halves ℕ)) (out : Halves ℕ) → count ≡ 0 → AllByRecursion (λ e. e.count ≡ 0) (sum_lines field count ws out)
unfolding sum_lines
sum_none count ws out none = (none, (none, (none, (none, tt))))

stage_none : (r : RoundRow ℕ) → r.flag ≡ 0 → AllByRecursion (λ e. e.count ≡ 0) (stage_lines field r)
unfolding stage_lines
stage_none r none = (none, (none, (none, tt)))

pub round_none : (r : RoundRow ℕ) → r.flag ≡ 0 → counted (round_lines field r) ≡ []
round_none r none = counted_none (round_lines field r) (round_all (λ e. e.count ≡ 0) r (λ ws out. sum_none r.flag ws out none) (stage_none r none))

flag_at : (row : List ℕ) → AllZero (take 1 (drop 0 row)) → (round_row (slice_index row)).flag ≡ 0
unfolding round_row
flag_at [] h = refl
flag_at (x ∷ row) h = h.0

pub round_quiet : (hi : ℕ) → Quiet (round_sheet hi)
round_quiet hi = record {
  holds = by_zero_test (round_constraints field (slice_index (replicate 299 0))) zeros;
  silent = λ row h. round_none (round_row (slice_index row)) (flag_at row h);
}

-- No row is a hint.

sum_off : (op count : ℕ) (ws : List (Halves ℕ)) (out : Halves ℕ) → NoProgram op (sum_lines field count ws out)
unfolding sum_lines
sum_off op count ws out = (refl, (refl, (refl, (refl, tt))))

stage_off : (op : ℕ) (r : RoundRow ℕ) → NoProgram op (stage_lines field r)
unfolding stage_lines
stage_off op r = (refl, (refl, (refl, tt)))

round_off : (op : ℕ) (r : RoundRow ℕ) → NoProgram op (round_lines field r)
round_off op r = round_all (λ e. is_program op e ≡ false) r (λ ws out. sum_off op r.flag ws out) (stage_off op r)

pub round_no_hint : (r : RoundRow ℕ) → NoHint (counted (round_lines field r))
round_no_hint r = no_hint (round_lines field r) (round_off 37 r) (round_off 42 r)
