-- A row of the table passes a stage on: of what it sends it has received the stage before.
use Rattle.std.proofs.Common.{◌≡◌, ◌≢◌, ℕ, suc, ◌+◌, ◌<◌, ◌≤◌, true, List, [], ◌∷◌, ◌++◌, flat_map, slice_index, refl, sym, ap, subst, ◌∙◌, arith, inr, add-zero}
use Rattle.std.specs.List.{AllByRecursion}
use Rattle.vm_field.specs.Field.{field_add}
use Rattle.sha_words.specs.Sha256.{round, round_constant, rounds, schedule, next_word}
use Rattle.sha_words.proofs.ScheduleLemmas.{slice_index-schedule_next}
use Rattle.air_core.specs.declared.bus.TheConstants.{SHA_CONSTANTS, FIRST_PRIVATE}
use Rattle.air_core.specs.declared.event.Event.{Event}
use Rattle.air_core.specs.declared.event.Side.TheVariants.{Send, Receive}
use Rattle.air_core.specs.Balance.{total, amount_at, is_at}
use Rattle.air_core.specs.Sheet.{counted, sent, received, AllZero, AllBelow}
use Rattle.air_core.specs.Lookups.{Good}
use Rattle.air_core.specs.ListLemmas.{all_append, all_counted_some}
use Rattle.air_core.proofs.BalanceLemmas.{total-cons, total-append, total-counted, test_of_there}
use Rattle.gadget_bits.specs.declared.halves.Halves.{Halves}
use Rattle.gadget_bits.specs.Sum.{AllHalves, sum_lines}
use Rattle.air_core.specs.Ring.{field}
use Rattle.gadget_bits.specs.Stage.{halves_cells, stage_tuple}
use Rattle.chip_sha_round.specs.Round.{RoundRow, round_row, before_of, after_of, sums_lines, stage_lines, round_lines, round_constraints, a_words, e_words, w_words}
use Rattle.gadget_bits.proofs.StageLaws.{halves_moved, stage_numbers}
use Rattle.air_core.proofs.Chain.{Linked, Passed}
use Rattle.chip_sha_round.specs.lemmas.RoundLaw.{round_law}
use Rattle.chip_sha_round.specs.lemmas.RoundReads.{RoundReads, round_reads}

-- a body is the stage behind `level` rounds on a state and the words of a schedule
pub record IsStage (state words : List ℕ) (level : ℕ) (body : List ℕ) : Type 0 where
  pub halves : List (Halves ℕ)
  pub are : body ≡ halves_cells halves
  pub numbers : AllHalves halves (stage_numbers (rounds state words level) words level)

-- one round more

module _ (state block : List ℕ) where
  abbrev words : List ℕ
  words = schedule block 80

  -- a row keeps what a stage is
  keeps : (r : RoundRow ℕ) (level : ℕ) → RoundReads r → level ≡ r.round + 1 → IsStage state words r.round (halves_cells ((before_of field r))) → IsStage state words level (halves_cells ((after_of field r)))
  unfolding rounds
  keeps r level reads e before =
      let t = r.round in
      let here = halves_moved before.halves ((before_of field r)) _ (sym before.are) before.numbers in
      let next : slice_index words (t + 16) ≡ next_word words (t + 16) = slice_index-schedule_next block 80 (t + 16) (omega arith) (omega (arith, reads.low)) in
      let after = round_law r (rounds state words t) words t reads.bits reads.sums reads.constant next here in
      let same : round (rounds state words t) (round_constant t) (slice_index words (t + 0)) ≡ rounds state words (suc t) = ap (λ (k : ℕ). round (rounds state words t) (round_constant t) (slice_index words k)) (add-zero t) in
      let level_is : suc t ≡ level = omega arith in
      let place : t + 1 ≡ level = omega arith in
      let there : stage_numbers (round (rounds state words t) (round_constant t) (slice_index words (t + 0))) words (t + 1) ≡ stage_numbers (rounds state words level) words level
      = λ i. stage_numbers ((same ∙ ap (rounds state words) level_is) i) words (place i) in
      record { halves = (after_of field r); are = refl; numbers = subst (AllHalves ((after_of field r))) there after }

  -- the events of a row

  module _ (time : ℕ) (all : List Event) where
    abbrev Link : Event → Type 0
    Link = Linked (IsStage state words) FIRST_PRIVATE time all

    pub off_link : (e : Event) → e.bus ≢ FIRST_PRIVATE → Link e
    off_link e off = record { comes = λ level body bus side some tuple. absurd (off bus) }

    pub received_link : (e : Event) → e.side ≡ Receive → Link e
    received_link e s = record { comes = λ level body bus side some tuple. absurd (let no : Receive ≡ Send = sym s ∙ side in cc) }

    sum_links : (count : ℕ) (ws : List (Halves ℕ)) (out : Halves ℕ) → AllByRecursion (λ e. e.count ≢ 0 → Link e) (sum_lines field count ws out)
    unfolding sum_lines
    sum_links count ws out = (λ n. off_link _ (omega arith), (λ n. off_link _ (omega arith), (λ n. off_link _ (omega arith), (λ n. off_link _ (omega arith), tt))))

    sums_links : (r : RoundRow ℕ) → AllByRecursion (λ e. e.count ≢ 0 → Link e) (sums_lines field r)
    sums_links r =
        let P : Event → Type 0 = λ e. e.count ≢ 0 → Link e in
        all_append P (sum_lines field r.flag (a_words field r) r.new_a) _ (sum_links r.flag (a_words field r) r.new_a)
        (all_append P (sum_lines field r.flag (e_words field r) r.new_e) _ (sum_links r.flag (e_words field r) r.new_e) (sum_links r.flag (w_words field r) r.new_w))

    passed : (r : RoundRow ℕ) (level : ℕ) (body : List ℕ) → RoundReads r → 0 < total Receive FIRST_PRIVATE (stage_tuple r.time r.round (before_of field r)) all
        → stage_tuple r.time (field_add r.round 1) (after_of field r) ≡ time ∷ level ∷ body → Passed (IsStage state words) FIRST_PRIVATE time all level body
    passed r level body reads some e =
        let at : r.time ≡ time = cc in
        let up : field_add r.round 1 ≡ level = cc in
        let level_is : level ≡ r.round + 1 = omega (arith, reads.low) in
        let are : halves_cells ((after_of field r)) ≡ body = cc in
        record {
          before = r.round;
          from = halves_cells ((before_of field r));
          is = level_is;
          received = subst (λ (t : ℕ). 0 < total Receive FIRST_PRIVATE (t ∷ r.round ∷ halves_cells ((before_of field r))) all) at some;
          keeps = λ before. subst (IsStage state words level) are (keeps r level reads level_is before);
        }

    stage_links : (r : RoundRow ℕ) → (r.flag ≢ 0 → RoundReads r) → (r.flag ≢ 0 → 0 < total Receive FIRST_PRIVATE (stage_tuple r.time r.round (before_of field r)) all)
        → AllByRecursion (λ e. e.count ≢ 0 → Link e) (stage_lines field r)
    unfolding stage_lines
    stage_links r reads some = (
      λ n. off_link _ (omega arith),
      (
        λ n. received_link _ refl,
        (λ n. record { comes = λ level body bus side counts tuple. inr (passed r level body (reads n) (some n) tuple) }, tt),
      ),
    )

    -- the links of a row
    row_links : (r : RoundRow ℕ) → (r.flag ≢ 0 → RoundReads r) → (r.flag ≢ 0 → 0 < total Receive FIRST_PRIVATE (stage_tuple r.time r.round (before_of field r)) all) → AllByRecursion Link (counted (round_lines field r))
    unfolding round_lines
    row_links r reads some =
        all_counted_some Link (sums_lines field r ++ stage_lines field r)
        (all_append (λ e. e.count ≢ 0 → Link e) (sums_lines field r) (stage_lines field r) (sums_links r) (stage_links r reads some))

-- what a row that counts receives
receives : (r : RoundRow ℕ) → r.flag ≢ 0 → 0 < total Receive FIRST_PRIVATE (stage_tuple r.time r.round (before_of field r)) (counted (round_lines field r))
unfolding round_lines stage_lines
receives r some =
    let tuple : List ℕ = stage_tuple r.time r.round (before_of field r) in
    let constant : Event = sent SHA_CONSTANTS r.flag (r.round ∷ r.constant.lo ∷ r.constant.hi ∷ []) in
    let taken : Event = received FIRST_PRIVATE r.flag tuple in
    let given : Event = sent FIRST_PRIVATE r.flag (stage_tuple r.time (field_add r.round 1) (after_of field r)) in
    let here : is_at Receive FIRST_PRIVATE tuple taken ≡ true = test_of_there Receive FIRST_PRIVATE tuple taken (record { bus_is = refl; side_is = refl; tuple_is = refl }) in
    let counts : amount_at Receive FIRST_PRIVATE tuple taken ≡ r.flag = rw here refl in
    omega (
      arith,
      total-counted Receive FIRST_PRIVATE tuple (sums_lines field r ++ (constant ∷ taken ∷ given ∷ [])),
      total-append Receive FIRST_PRIVATE tuple (sums_lines field r) (constant ∷ taken ∷ given ∷ []),
      total-cons Receive FIRST_PRIVATE tuple constant (taken ∷ given ∷ []),
      total-cons Receive FIRST_PRIVATE tuple taken (given ∷ []),
      counts,
    )

-- all rows of the table

pub record RoundGood (row : List ℕ) : Type 0 where
  pub below : AllBelow row
  pub zeros : AllZero (round_constraints field (slice_index row))
  pub good : Good (counted (round_lines field (round_row (slice_index row))))

abbrev pub round_events : List ℕ → List Event
round_events row = counted (round_lines field (round_row (slice_index row)))

pub round_links : (state block : List ℕ) (time : ℕ) (all : List Event) (rows : List (List ℕ)) → AllByRecursion RoundGood rows
    → ((tuple : List ℕ) → total Receive FIRST_PRIVATE tuple (flat_map round_events rows) ≤ total Receive FIRST_PRIVATE tuple all)
    → AllByRecursion (Linked (IsStage state (schedule block 80)) FIRST_PRIVATE time all) (flat_map round_events rows)
round_links state block time all [] good part = tt
round_links state block time all (row ∷ rows) good part =
    let r = round_row (slice_index row) in
    let g : RoundGood row = good.0 in
    let more = λ (tuple : List ℕ). total-append Receive FIRST_PRIVATE tuple (round_events row) (flat_map round_events rows) in
    all_append (Linked (IsStage state (schedule block 80)) FIRST_PRIVATE time all) (round_events row) (flat_map round_events rows)
    (row_links state block time all r (λ some. round_reads row g.below g.zeros g.good some)
    (λ some. omega (arith, receives r some, more (stage_tuple r.time r.round (before_of field r)), part (stage_tuple r.time r.round (before_of field r)))))
    (round_links state block time all rows good.1 (λ tuple. omega (arith, more tuple, part tuple)))
