-- Law Sound: what a step writes is the compressed state, by the balance of bus 6.
use Rattle.std.proofs.Common.{◌≡◌, ◌≢◌, ℕ, zero, suc, ◌<◌, ◌≤◌, ◌⊎◌, false, true, List, [], ◌∷◌, ◌++◌, flat_map, map, slice_index, refl, sym, ap, ◌∙◌, subst, inl, inr, arith, lit≤}
use Rattle.std.specs.List.{AllByRecursion}
use Rattle.sha_words.specs.Sha256.{rounds, schedule, sums_of}
use Rattle.sha_words.proofs.RoundLemmas.{compress-rounds}
use Rattle.air_core.specs.declared.event.Event.{Event}
use Rattle.air_core.specs.declared.event.Side.TheVariants.{Send, Receive}
use Rattle.air_core.specs.Balance.{total}
use Rattle.air_core.specs.ExtensionLaws.{ExtensionSound, SoundRow}
use Rattle.air_core.specs.ListLemmas.{all_append, all_weaker}
use Rattle.air_core.specs.Orders.{Distinct}
use Rattle.air_core.specs.PartLemmas.{times_of-append, distinct_left}
use Rattle.air_core.specs.Ring.{field}
use Rattle.air_core.specs.Sheet.{row_events}
use Rattle.air_core.specs.System.{GoodRow, times_of}
use Rattle.air_core.proofs.BalanceLemmas.{total-append}
use Rattle.air_core.proofs.Chain.{Linked, received_has}
use Rattle.air_core.proofs.Only.{OnlyAt, only, times_on_bus}
use Rattle.gadget_bits.proofs.StageLaws.{halves_moved}
use Rattle.gadget_bits.specs.Stage.{halves_cells}
use Rattle.gadget_time.specs.Form.{columns}
use Rattle.gadget_time.specs.lemmas.FormSound.{IsValid, RowMeans, form_row, sound_step}
use Rattle.chip_sha_round.specs.Sheet.{round_sheet}
use Rattle.chip_sha_main.specs.Main.{MainRow, main_of, main_row, start_words, end_words}
use Rattle.chip_sha_main.specs.Laws.{BlocksAreCompressed, IsCompressed}
use Rattle.chip_sha_main.specs.Sha.{sha}
use Rattle.chip_sha_main.specs.Sheet.{main_form, main_sheet}
use Rattle.chip_sha_main.specs.lemmas.Bus.{row_links, receives}
use Rattle.chip_sha_main.specs.lemmas.MainLaws.{long, main_laws}
use Rattle.chip_sha_main.specs.lemmas.Numbers.{word, AllBytes, schedule_of, block_of, start_is, end_gives}
use Rattle.chip_sha_main.specs.lemmas.RoundLinks.{IsStage, RoundGood, round_events, round_links}
use Rattle.chip_sha_main.specs.lemmas.Steps.{main_ranges_good, is_main, old_bytes, OldBytes, compressed_new, row_means}

-- the old state and the block are bytes
record BlockBytes (r : MainRow ℕ) : Type 0 where
  old : AllBytes r.old
  message : AllBytes r.message

-- the opcode of the flag
opcode_at : (k : ℕ) → k < 1 → slice_index (40 ∷ []) k ≡ 40
opcode_at zero low = refl
opcode_at (suc k) low = absurd (omega arith)

module _ (hi : ℕ) (top : hi ≤ 13) where
  abbrev row_at : List ℕ → MainRow ℕ
  row_at row = main_of field (columns main_form row)

  abbrev said : List ℕ → List Event
  said row = row_events (main_sheet hi) row

  -- a valid row
  abbrev Counts : List ℕ → Type 0
  Counts row = IsValid main_form hi main_laws (columns main_form row)

  abbrev time_at : List ℕ → ℕ
  time_at row = (row_at row).time

  split : (row : List ℕ) → GoodRow (main_sheet hi) row → (said row ≡ []) ⊎ Counts row
  split row g = form_row main_form hi main_laws top row g.is_row g.holds g.good

  flag_of : (row : List ℕ) → Counts row → (row_at row).flag ≡ 1
  unfolding main_row
  flag_of row v = v.valid

  step_time : (row : List ℕ) → Counts row → times_of (said row) ≡ time_at row ∷ []
  unfolding main_row
  step_time row v = times_on_bus (said row) ∙ ap times_of v.step.spoken.path

  all_timed : (rows : List (List ℕ)) → AllByRecursion (λ row. Counts row → times_of (said row) ≡ time_at row ∷ []) rows
  all_timed [] = tt
  all_timed (row ∷ rows) = (λ v. step_time row v, all_timed rows)

  -- the stage that a row begins with
  start_stage : (m : List ℕ) → BlockBytes (row_at m) → IsStage (map word (row_at m).old) (schedule_of (row_at m).message) 0 (halves_cells (start_words field (row_at m)))
  unfolding start_words rounds
  start_stage m bytes =
      let r = row_at m in
      let l = long (columns main_form m) in
      record { halves = start_words field r; are = refl; numbers = start_is r.old r.message l.old l.message bytes.old bytes.message }

  -- the links of all rows of steps, seen from one of them
  main_links : (m : List ℕ) (all : List Event) (rows : List (List ℕ)) → BlockBytes (row_at m) → AllByRecursion (GoodRow (main_sheet hi)) rows → OnlyAt said Counts time_at rows m
      → AllByRecursion (Linked (IsStage (map word (row_at m).old) (schedule_of (row_at m).message)) 6 (time_at m) all) (flat_map said rows)
  main_links m all [] bytes goods only_m = tt
  main_links m all (row ∷ rows) bytes goods only_m =
      let r = row_at m in
      let state = map word r.old in
      let block = block_of r.message in
      let Link : Event → Type 0 = Linked (IsStage state (schedule block 80)) 6 r.time all in
      let here : AllByRecursion Link (said row) = elim (split row goods.0) [
        | inl none ↦ subst (AllByRecursion Link) (sym none) tt
        | inr v ↦ row_links hi state block r.time all (columns main_form row) (λ at.
            let same : row ≡ m = only_m.0 v at in
            subst (λ (x : List ℕ). IsStage state (schedule block 80) 0 (halves_cells (start_words field (row_at x)))) (sym same) (start_stage m bytes))
      ] in
      all_append Link (said row) (flat_map said rows) here (main_links m all rows bytes goods.1 only_m.1)

  -- a row's new state is the sums behind 64 rounds
  summed : (m : List ℕ) (mains rows : List (List ℕ)) → Counts m → AllByRecursion (GoodRow (main_sheet hi)) mains → AllByRecursion RoundGood rows → OnlyAt said Counts time_at mains m
      → ((tuple : List ℕ) → total Send 6 tuple (flat_map said mains ++ (flat_map round_events rows ++ [])) ≡ total Receive 6 tuple (flat_map said mains ++ (flat_map round_events rows ++ [])))
      → ((tuple : List ℕ) → total Receive 6 tuple (said m) ≤ total Receive 6 tuple (flat_map said mains))
      → BlockBytes (row_at m) → map word (row_at m).new ≡ sums_of (map word (row_at m).old) (rounds (map word (row_at m).old) (schedule_of (row_at m).message) 64)
  unfolding end_words
  summed m mains rows v goods good only_m even part bytes =
      let r = row_at m in
      let l = long (columns main_form m) in
      let one = flag_of m v in
      let state = map word r.old in
      let words = schedule_of r.message in
      let given = flat_map round_events rows in
      let all = flat_map said mains ++ (given ++ []) in
      let P : ℕ → List ℕ → Type 0 = IsStage state words in
      let whole = λ (tuple : List ℕ). total-append Receive 6 tuple (flat_map said mains) (given ++ []) in
      let inner = λ (tuple : List ℕ). total-append Receive 6 tuple given [] in
      let links : AllByRecursion (Linked P 6 r.time all) all =
      all_append (Linked P 6 r.time all) (flat_map said mains) (given ++ []) (main_links m all mains bytes goods only_m)
      (all_append (Linked P 6 r.time all) given [] (round_links state (block_of r.message) r.time all rows good (λ tuple. omega (arith, whole tuple, inner tuple))) tt) in
      let tuple : List ℕ = r.time ∷ 64 ∷ halves_cells (end_words r) in
      let last : P 64 (halves_cells (end_words r)) = received_has P 6 r.time all even links 64 (halves_cells (end_words r)) (omega (arith, receives hi (columns main_form m) one, part tuple, whole tuple)) in
      let halves = halves_moved last.halves (r.working ++ r.rest) _ (sym last.are) last.numbers in
      let ranges = main_ranges_good r (omega (arith, one)) v.own.good in
      end_gives r.old r.working r.rest r.new (rounds state words 64) words 64 l.old l.working l.new bytes.old ranges.new v.own.zero halves

  -- the meaning of a row whose new state is those sums
  means : (m : List ℕ) (v : Counts m) → (OldBytes (row_at m) → map word (row_at m).new ≡ sums_of (map word (row_at m).old) (rounds (map word (row_at m).old) (schedule_of (row_at m).message) 64))
      → RowMeans main_form hi main_laws (columns main_form m) v
  unfolding main_row
  means m v sums bytes =
      let c = columns main_form m in
      let r = row_at m in
      let i = v.instruction.instr in
      let op = opcode_at v.place v.at.below in
      let is = is_main r i (sym (ap (λ (k : ℕ). c.pc ∷ k ∷ main_form.parts.numbers c) op) ∙ v.instruction.are) in
      let old = old_bytes r (long c) bytes in
      let ranges = main_ranges_good r (omega (arith, flag_of m v)) v.own.good in
      row_means r i [] (long c) is v.instruction.in_range old ranges (compressed_new r (long c) (sums old))

  sound_row : (m : List ℕ) → GoodRow (main_sheet hi) m
      → (Counts m → OldBytes (row_at m) → map word (row_at m).new ≡ sums_of (map word (row_at m).old) (rounds (map word (row_at m).old) (schedule_of (row_at m).message) 64)) → SoundRow (main_sheet hi) m
  sound_row m g sums owns = elim (split m g) [
    | inl none ↦ inl none
    | inr v ↦ inr (sound_step main_form hi main_laws (columns main_form m) v (means m v (sums v)))
  ]

  sound_rows : (mains rows : List (List ℕ)) → AllByRecursion (GoodRow (main_sheet hi)) mains → AllByRecursion RoundGood rows
      → ((tuple : List ℕ) → total Send 6 tuple (flat_map said mains ++ (flat_map round_events rows ++ [])) ≡ total Receive 6 tuple (flat_map said mains ++ (flat_map round_events rows ++ [])))
      → (ms : List (List ℕ)) → AllByRecursion (GoodRow (main_sheet hi)) ms → AllByRecursion (λ m. Counts m → OnlyAt said Counts time_at mains m) ms
      → ((tuple : List ℕ) → total Receive 6 tuple (flat_map said ms) ≤ total Receive 6 tuple (flat_map said mains)) → AllByRecursion (SoundRow (main_sheet hi)) ms
  sound_rows mains rows all good even [] goods onlys part = tt
  sound_rows mains rows all good even (m ∷ ms) goods onlys part =
      let more = λ (tuple : List ℕ). total-append Receive 6 tuple (said m) (flat_map said ms) in (
        sound_row m goods.0 (λ v bytes. summed m mains rows v all good (onlys.0 v) even (λ tuple. omega (arith, more tuple, part tuple)) (record { old = bytes.old; message = bytes.message })),
        sound_rows mains rows all good even ms goods.1 onlys.1 (λ tuple. omega (arith, more tuple, part tuple)),
      )

  -- each row that says something has compressed its state
  compressed_rows : (mains rows : List (List ℕ)) → AllByRecursion (GoodRow (main_sheet hi)) mains → AllByRecursion RoundGood rows
      → ((tuple : List ℕ) → total Send 6 tuple (flat_map said mains ++ (flat_map round_events rows ++ [])) ≡ total Receive 6 tuple (flat_map said mains ++ (flat_map round_events rows ++ [])))
      → (ms : List (List ℕ)) → AllByRecursion (GoodRow (main_sheet hi)) ms → AllByRecursion (λ m. Counts m → OnlyAt said Counts time_at mains m) ms
      → ((tuple : List ℕ) → total Receive 6 tuple (flat_map said ms) ≤ total Receive 6 tuple (flat_map said mains)) → AllByRecursion (λ m. said m ≢ [] → IsCompressed (row_at m)) ms
  compressed_rows mains rows all good even [] goods onlys part = tt
  compressed_rows mains rows all good even (m ∷ ms) goods onlys part =
      let r = row_at m in
      let more = λ (tuple : List ℕ). total-append Receive 6 tuple (said m) (flat_map said ms) in
      let here : said m ≢ [] → IsCompressed r = λ some old message. elim (split m goods.0) [
        | inl none ↦ absurd (some none)
        | inr v ↦ summed m mains rows v all good (onlys.0 v) even (λ tuple. omega (arith, more tuple, part tuple)) (record { old = old; message = message }) ∙ sym (compress-rounds (map word r.old) (block_of r.message) 80 (lit≤ tt))
      ] in
      (here, compressed_rows mains rows all good even ms goods.1 onlys.1 (λ tuple. omega (arith, more tuple, part tuple)))

quiet_rows : (hi : ℕ) (rows : List (List ℕ)) → AllByRecursion (SoundRow (round_sheet hi)) rows
quiet_rows hi [] = tt
quiet_rows hi (row ∷ rows) = (λ owns. absurd (let h : false ≡ true = owns.1 in cc), quiet_rows hi rows)

round_good : (hi : ℕ) (rows : List (List ℕ)) → AllByRecursion (GoodRow (round_sheet hi)) rows → AllByRecursion RoundGood rows
round_good hi rows good = all_weaker (GoodRow (round_sheet hi)) RoundGood (λ row g. record { below = g.is_row.below; zeros = g.holds; good = g.good }) rows good

pub sha_sound : (hi : ℕ) → hi ≤ 13 → ExtensionSound (sha hi)
sha_sound hi top [] w = absurd (omega (arith, w.count))
sha_sound hi top (mains ∷ []) w = absurd (omega (arith, w.count))
sha_sound hi top (mains ∷ rows ∷ other ∷ more) w = absurd (omega (arith, w.count))
sha_sound hi top (mains ∷ rows ∷ []) w =
    let said_all = flat_map (row_events (main_sheet hi)) mains in
    let given = flat_map (row_events (round_sheet hi)) rows in
    let distinct = distinct_left (times_of said_all) (times_of (given ++ [])) (subst Distinct (times_of-append said_all (given ++ [])) w.times) in (
      sound_rows hi top mains rows w.rows.0 (round_good hi rows w.rows.1.0) (λ tuple. w.balanced.even 6 tuple refl) mains w.rows.0
          (only (said hi top) (Counts hi top) (time_at hi top) mains (all_timed hi top mains) distinct) (λ tuple. omega arith),
      (quiet_rows hi rows, tt),
    )

pub blocks_compressed : BlocksAreCompressed
blocks_compressed hi top mains rows w =
    let said_all = flat_map (row_events (main_sheet hi)) mains in
    let given = flat_map (row_events (round_sheet hi)) rows in
    let distinct = distinct_left (times_of said_all) (times_of (given ++ [])) (subst Distinct (times_of-append said_all (given ++ [])) w.times) in
    compressed_rows hi top mains rows w.rows.0 (round_good hi rows w.rows.1.0) (λ tuple. w.balanced.even 6 tuple refl) mains w.rows.0
    (only (said hi top) (Counts hi top) (time_at hi top) mains (all_timed hi top mains) distinct) (λ tuple. omega arith)
