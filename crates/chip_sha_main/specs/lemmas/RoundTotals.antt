-- What filled rows send and receive on the bus: row t takes stage t and gives stage t + 1.
use Rattle.std.proofs.Common.{◌≡◌, ◌≢◌, ℕ, zero, suc, ◌+◌, ◌^◌, ◌<◌, ◌≤◌, List, [], ◌∷◌, ◌++◌, flat_map, map, slice_index, refl, sym, ap, ◌∙◌, arith, add-zero}
use Rattle.std.specs.List.{AllByRecursion, range_with_len}
use Rattle.vm_field.specs.Field.{field_add}
use Rattle.sha_words.specs.Sha256.{round, round_constant, rounds, schedule}
use Rattle.air_core.specs.declared.bus.TheConstants.{SHA_CONSTANTS, FIRST_PRIVATE}
use Rattle.air_core.specs.declared.event.Event.{Event}
use Rattle.air_core.specs.declared.event.Side.{Side}
use Rattle.air_core.specs.declared.event.Side.TheVariants.{Send, Receive}
use Rattle.air_core.specs.Balance.{total}
use Rattle.air_core.specs.Counts.{once}
use Rattle.air_core.specs.Sheet.{counted, sent, received}
use Rattle.air_core.specs.ListLemmas.{all_append}
use Rattle.air_core.specs.PartLemmas.{total_elsewhere}
use Rattle.air_core.proofs.BalanceLemmas.{total-append, total-counted}
use Rattle.air_core.proofs.Totals.{same_tuple, total_send-exchange, total_receive-exchange}
use Rattle.gadget_bits.specs.declared.halves.Halves.{Halves}
use Rattle.gadget_bits.specs.Sum.{sum_lines}
use Rattle.air_core.specs.Ring.{field}
use Rattle.gadget_bits.specs.Stage.{stage_tuple}
use Rattle.chip_sha_round.specs.Round.{RoundRow, round_row, before_of, after_of, sums_lines, stage_lines, round_lines, a_words, e_words, w_words}
use Rattle.chip_sha_round.specs.Sheet.{round_filled, row_at}
use Rattle.gadget_bits.proofs.StageLaws.{cells_are, number_cells, stage_numbers}
use Rattle.chip_sha_round.specs.lemmas.RoundTable.{are_words}
use Rattle.chip_sha_main.specs.lemmas.RoundLinks.{round_events}
use Rattle.chip_sha_round.specs.lemmas.RoundFilled.{AreWords, filled_before, filled_after, round_back}

-- the tuple of stage t of a state and a block
abbrev pub stage_at : (time : ℕ) (state words : List ℕ) → ℕ → List ℕ
stage_at time state words t = time ∷ t ∷ number_cells (stage_numbers (rounds state words t) words t)

-- a tuple counted where it is this one
abbrev pub here_at : List ℕ → (time : ℕ) (state words : List ℕ) → ℕ → ℕ
here_at tuple time state words t = once (same_tuple (stage_at time state words t) tuple)

sum_off : (count : ℕ) (ws : List (Halves ℕ)) (out : Halves ℕ) → AllByRecursion (λ e. e.bus ≢ FIRST_PRIVATE) (sum_lines field count ws out)
unfolding sum_lines
sum_off count ws out = (omega arith, (omega arith, (omega arith, (omega arith, tt))))

sums_off : (r : RoundRow ℕ) → AllByRecursion (λ e. e.bus ≢ FIRST_PRIVATE) (sums_lines field r)
sums_off r =
    all_append (λ (e : Event). e.bus ≢ FIRST_PRIVATE) (sum_lines field r.flag (a_words field r) r.new_a) _ (sum_off r.flag (a_words field r) r.new_a)
    (all_append (λ (e : Event). e.bus ≢ FIRST_PRIVATE) (sum_lines field r.flag (e_words field r) r.new_e) (sum_lines field r.flag (w_words field r) r.new_w) (sum_off r.flag (e_words field r) r.new_e) (sum_off r.flag (w_words field r) r.new_w))

-- the sums of a row are those of its two stages
stages_only : (side : Side) (tuple : List ℕ) (r : RoundRow ℕ) → total side FIRST_PRIVATE tuple (counted (round_lines field r))
    ≡ total side FIRST_PRIVATE tuple (received FIRST_PRIVATE r.flag (stage_tuple r.time r.round (before_of field r)) ∷ sent FIRST_PRIVATE r.flag (stage_tuple r.time (field_add r.round 1) (after_of field r)) ∷ [])
unfolding round_lines stage_lines
stages_only side tuple r =
    let constant : Event = sent SHA_CONSTANTS r.flag (r.round ∷ r.constant.lo ∷ r.constant.hi ∷ []) in
    let two : List Event = received FIRST_PRIVATE r.flag (stage_tuple r.time r.round (before_of field r)) ∷ sent FIRST_PRIVATE r.flag (stage_tuple r.time (field_add r.round 1) (after_of field r)) ∷ [] in
    omega (
      arith,
      total-counted side FIRST_PRIVATE tuple (sums_lines field r ++ (constant ∷ two)),
      total-append side FIRST_PRIVATE tuple (sums_lines field r) (constant ∷ two),
      total_elsewhere side FIRST_PRIVATE tuple (sums_lines field r) (sums_off r),
      total-append side FIRST_PRIVATE tuple (constant ∷ []) two,
      total_elsewhere side FIRST_PRIVATE tuple (constant ∷ []) (omega arith, tt),
    )

module _ (time : ℕ) (state block : List ℕ) (s : (j : ℕ) → slice_index state j < 2 ^ 32) (b : (i : ℕ) → slice_index block i < 256) where
  abbrev words : List ℕ
  words = schedule block 80

  the_words : (t : ℕ) → AreWords (rounds state words t) words
  the_words t = are_words state block t s b

  taken_is : (t : ℕ) → stage_tuple time t (before_of field (round_filled time t (rounds state words t) words)) ≡ stage_at time state words t
  taken_is t = ap (λ (body : List ℕ). time ∷ t ∷ body) (cells_are _ _ (filled_before time t (rounds state words t) words (the_words t)))

  given_is : (t : ℕ) → t < 64 → stage_tuple time (field_add t 1) (after_of field (round_filled time t (rounds state words t) words)) ≡ stage_at time state words (t + 1)
  unfolding rounds
  given_is t low =
      let at : field_add t 1 ≡ t + 1 = omega arith in
      let cells_is = cells_are _ _ (filled_after time t (rounds state words t) words (the_words t)) in
      let next : suc t ≡ t + 1 = omega arith in
      let same : round (rounds state words t) (round_constant t) (slice_index words (t + 0)) ≡ rounds state words (t + 1)
      = ap (λ (k : ℕ). round (rounds state words t) (round_constant t) (slice_index words k)) (add-zero t) ∙ ap (rounds state words) next in
      let body = cells_is ∙ ap (λ (x : List ℕ). number_cells (stage_numbers x words (t + 1))) same in
      λ i. time ∷ at i ∷ body i

  filled_flag : (t : ℕ) → (round_row (slice_index (row_at time state words t))) ≡ round_filled time t (rounds state words t) words
  filled_flag t = round_back time t (rounds state words t) words

  two_events : (side : Side) (tuple : List ℕ) (t : ℕ) → t < 64 → total side FIRST_PRIVATE tuple (round_events (row_at time state words t))
      ≡ total side FIRST_PRIVATE tuple (received FIRST_PRIVATE 1 (stage_at time state words t) ∷ sent FIRST_PRIVATE 1 (stage_at time state words (t + 1)) ∷ [])
  unfolding round_filled
  two_events side tuple t low =
      let r = round_filled time t (rounds state words t) words in
      let taken = taken_is t in
      let given = given_is t low in
      ap (λ (x : RoundRow ℕ). total side FIRST_PRIVATE tuple (counted (round_lines field x))) (filled_flag t) ∙ stages_only side tuple r
      ∙ (λ i. total side FIRST_PRIVATE tuple (received FIRST_PRIVATE 1 (taken i) ∷ sent FIRST_PRIVATE 1 (given i) ∷ []))

  -- sums over rows a, .., a + n - 1
  sum_over : (ℕ → ℕ) → ℕ → ℕ → ℕ
  sum_over f a zero = 0
  sum_over f a (suc n) = f a + sum_over f (a + 1) n

  rows_sum : (side : Side) (tuple : List ℕ) (f : ℕ → ℕ) (a n : ℕ) → ((t : ℕ) → t < 64 → total side FIRST_PRIVATE tuple (round_events (row_at time state words t)) ≡ f t) → a + n ≤ 64
      → total side FIRST_PRIVATE tuple (flat_map round_events (map (row_at time state words) (range_with_len a n))) ≡ sum_over f a n
  unfolding sum_over
  rows_sum side tuple f a zero each few = refl
  rows_sum side tuple f a (suc n) each few =
      omega (arith, total-append side FIRST_PRIVATE tuple (round_events (row_at time state words a)) (flat_map round_events (map (row_at time state words) (range_with_len (a + 1) n))), each a (omega arith), rows_sum side tuple f (a + 1) n each (omega arith))

  moved_on : (f : ℕ → ℕ) (a n : ℕ) → f a + sum_over (λ t. f (t + 1)) a n ≡ sum_over f a n + f (a + n)
  unfolding sum_over
  moved_on f a zero = let e : a ≡ a + 0 = omega arith in omega (arith, ap f e)
  moved_on f a (suc n) =
      let e : a + 1 + n ≡ a + suc n = omega arith in
      omega (arith, moved_on f (a + 1) n, ap f e)

  -- All rows: what they send and stage 0 are what they receive and stage 64.
  pub rows_even : (tuple : List ℕ) → here_at tuple time state words 0 + total Send FIRST_PRIVATE tuple (flat_map round_events (map (row_at time state words) (range_with_len 0 64)))
      ≡ total Receive FIRST_PRIVATE tuple (flat_map round_events (map (row_at time state words) (range_with_len 0 64))) + here_at tuple time state words 64
  rows_even tuple =
      let f : ℕ → ℕ = here_at tuple time state words in
      let sends = rows_sum Send tuple (λ t. f (t + 1)) 0 64 (λ t low. two_events Send tuple t low ∙ total_send-exchange FIRST_PRIVATE tuple (stage_at time state words t) (stage_at time state words (t + 1))) (omega arith) in
      let takes = rows_sum Receive tuple f 0 64 (λ t low. two_events Receive tuple t low ∙ total_receive-exchange FIRST_PRIVATE tuple (stage_at time state words t) (stage_at time state words (t + 1))) (omega arith) in
      ap (λ (n : ℕ). f 0 + n) sends ∙ moved_on f 0 64 ∙ ap (λ (n : ℕ). n + f 64) (sym takes)
