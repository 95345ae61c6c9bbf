-- What a row says on the bus of rounds.
use Rattle.std.proofs.Common.{◌≡◌, ◌≢◌, ℕ, ◌<◌, true, List, [], ◌∷◌, ◌++◌, flat_map, refl, sym, subst, arith, lit<, inl}
use Rattle.std.specs.List.{AllByRecursion}
use Rattle.vm_field.specs.Limbs.{list_of}
use Rattle.sha_words.specs.Sha256.{schedule}
use Rattle.air_core.specs.declared.bus.TheConstants.{FIRST_PRIVATE}
use Rattle.air_core.specs.declared.event.Event.{Event}
use Rattle.air_core.specs.declared.event.Side.{Side}
use Rattle.air_core.specs.declared.event.Side.TheVariants.{Receive}
use Rattle.air_core.specs.Balance.{total, amount_at, is_at}
use Rattle.air_core.specs.ListLemmas.{all_append, all_counted_some, all_weaker}
use Rattle.air_core.specs.PartLemmas.{total_elsewhere}
use Rattle.air_core.specs.Path.{path_lines}
use Rattle.air_core.specs.Ring.{field}
use Rattle.air_core.specs.Sheet.{counted, sent, received}
use Rattle.air_core.proofs.BalanceLemmas.{total-cons, total-append, total-counted, test_of_there}
use Rattle.air_core.proofs.Chain.{Linked}
use Rattle.gadget_limbs.specs.Ranges.{range_lines}
use Rattle.gadget_bits.specs.Stage.{halves_cells}
use Rattle.gadget_time.specs.declared.touch.Touch.{Touch}
use Rattle.gadget_time.specs.Form.{Columns, told_by}
use Rattle.gadget_time.specs.Told.{Told, told_front, told_lines, touch_lines, touches_lines}
use Rattle.chip_sha_main.specs.Main.{MainRow, main_of, main_ranges, chain_lines, start_words, end_words}
use Rattle.chip_sha_main.specs.Sheet.{main_form}
use Rattle.chip_sha_main.specs.lemmas.RoundLinks.{IsStage, off_link, received_link}

-- The path, the accesses and the lookups are on buses below it.

touch_low : (hi t : ℕ) (a : Touch ℕ) → AllByRecursion (λ e. e.bus < FIRST_PRIVATE) (touch_lines field hi t a)
unfolding touch_lines
touch_low hi t a = (lit< tt, (lit< tt, (lit< tt, (lit< tt, tt))))

touches_low : (hi t : ℕ) (ts : List (Touch ℕ)) → AllByRecursion (λ e. e.bus < FIRST_PRIVATE) (touches_lines field hi t ts)
touches_low hi t [] = tt
touches_low hi t (a ∷ ts) = all_append (λ (e : Event). e.bus < FIRST_PRIVATE) (touch_lines field hi t a) (touches_lines field hi t ts) (touch_low hi t a) (touches_low hi t ts)

path_low : (valid pc t next slots : ℕ) (numbers : List ℕ) → AllByRecursion (λ e. e.bus < FIRST_PRIVATE) (path_lines field valid pc t next slots numbers)
unfolding path_lines
path_low valid pc t next slots numbers = (lit< tt, (lit< tt, (lit< tt, tt)))

pub front_low : (hi : ℕ) (d : Told ℕ Event) → AllByRecursion (λ e. e.bus < FIRST_PRIVATE) (told_front field hi d)
front_low hi d = all_append (λ (e : Event). e.bus < FIRST_PRIVATE) (path_lines field d.valid d.pc d.time d.next d.slots d.numbers) (touches_lines field hi d.time d.touches) (path_low d.valid d.pc d.time d.next d.slots d.numbers) (touches_low hi d.time d.touches)

lookups_low : (count bits : ℕ) (xs : List ℕ) → AllByRecursion (λ e. e.bus < FIRST_PRIVATE) (range_lines field count bits xs)
lookups_low count bits [] = tt
lookups_low count bits (x ∷ xs) = (lit< tt, lookups_low count bits xs)

pub ranges_low : (r : MainRow ℕ) → AllByRecursion (λ e. e.bus < FIRST_PRIVATE) (main_ranges field r)
unfolding main_ranges
ranges_low r = all_append (λ (e : Event). e.bus < FIRST_PRIVATE) (range_lines field r.flag 5 (r.base.x3 ∷ r.block.x3 ∷ [])) (range_lines field r.flag 8 (flat_map list_of r.new)) (lookups_low r.flag 5 (r.base.x3 ∷ r.block.x3 ∷ [])) (lookups_low r.flag 8 (flat_map list_of r.new))

off_bus : (events : List Event) → AllByRecursion (λ e. e.bus < FIRST_PRIVATE) events → AllByRecursion (λ e. e.bus ≢ FIRST_PRIVATE) events
off_bus events low = all_weaker (λ (e : Event). e.bus < FIRST_PRIVATE) (λ (e : Event). e.bus ≢ FIRST_PRIVATE) (λ e h same. absurd (omega (arith, h, same))) events low

-- what a row says on it is its two stages
pub chain_only : (side : Side) (tuple : List ℕ) (hi : ℕ) (c : Columns ℕ) → total side FIRST_PRIVATE tuple (counted (told_lines field hi (told_by main_form c))) ≡ total side FIRST_PRIVATE tuple (chain_lines field (main_of field c))
chain_only side tuple hi c =
    let r = main_of field c in
    let front = told_front field hi (told_by main_form c) in
    omega (
      arith,
      total-counted side FIRST_PRIVATE tuple (front ++ (main_ranges field r ++ chain_lines field r)),
      total-append side FIRST_PRIVATE tuple front (main_ranges field r ++ chain_lines field r),
      total-append side FIRST_PRIVATE tuple (main_ranges field r) (chain_lines field r),
      total_elsewhere side FIRST_PRIVATE tuple front (off_bus front (front_low hi (told_by main_form c))),
      total_elsewhere side FIRST_PRIVATE tuple (main_ranges field r) (off_bus (main_ranges field r) (ranges_low r)),
    )

module _ (hi : ℕ) (state block : List ℕ) (time : ℕ) (all : List Event) where
  abbrev Link : Event → Type 0
  Link = Linked (IsStage state (schedule block 80)) FIRST_PRIVATE time all

  low_links : (events : List Event) → AllByRecursion (λ e. e.bus < FIRST_PRIVATE) events → AllByRecursion (λ e. e.count ≢ 0 → Link e) events
  low_links events low = all_weaker (λ (e : Event). e.bus < FIRST_PRIVATE) (λ (e : Event). e.count ≢ 0 → Link e) (λ e h n. off_link state block time all e (λ same. absurd (omega (arith, h, same)))) events low

  chain_links : (r : MainRow ℕ) → (r.time ≡ time → IsStage state (schedule block 80) 0 (halves_cells (start_words field r))) → AllByRecursion (λ e. e.count ≢ 0 → Link e) (chain_lines field r)
  unfolding chain_lines
  chain_links r start = (
    λ n. record {
      comes = λ level body bus side counts tuple.
          let at : r.time ≡ time = cc in
          let first : 0 ≡ level = cc in
          let are : halves_cells (start_words field r) ≡ body = cc in
          inl (sym first, subst (IsStage state (schedule block 80) 0) are (start at));
    },
    (λ n. received_link state block time all _ refl, tt),
  )

  -- its events are links where its first stage is one
  pub row_links : (c : Columns ℕ) → ((main_of field c).time ≡ time → IsStage state (schedule block 80) 0 (halves_cells (start_words field (main_of field c)))) → AllByRecursion Link (counted (told_lines field hi (told_by main_form c)))
  row_links c start =
      let r = main_of field c in
      let front = told_front field hi (told_by main_form c) in
      let P : Event → Type 0 = λ e. e.count ≢ 0 → Link e in
      all_counted_some Link (front ++ (main_ranges field r ++ chain_lines field r))
      (all_append P front (main_ranges field r ++ chain_lines field r) (low_links front (front_low hi (told_by main_form c)))
      (all_append P (main_ranges field r) (chain_lines field r) (low_links (main_ranges field r) (ranges_low r)) (chain_links r start)))

one_of_two : (r : MainRow ℕ) → r.flag ≡ 1 → 0 < total Receive FIRST_PRIVATE (r.time ∷ 64 ∷ halves_cells (end_words r)) (chain_lines field r)
unfolding chain_lines
one_of_two r v =
    let tuple : List ℕ = r.time ∷ 64 ∷ halves_cells (end_words r) in
    let given : Event = sent FIRST_PRIVATE r.flag (r.time ∷ 0 ∷ halves_cells (start_words field r)) in
    let taken : Event = received FIRST_PRIVATE r.flag tuple in
    let here : is_at Receive FIRST_PRIVATE tuple taken ≡ true = test_of_there Receive FIRST_PRIVATE tuple taken (record { bus_is = refl; side_is = refl; tuple_is = refl }) in
    let counts : amount_at Receive FIRST_PRIVATE tuple taken ≡ r.flag = rw here refl in
    omega (arith, v, total-cons Receive FIRST_PRIVATE tuple given (taken ∷ []), total-cons Receive FIRST_PRIVATE tuple taken [], counts)

-- what a valid row receives behind the last round
pub receives : (hi : ℕ) (c : Columns ℕ) → (main_of field c).flag ≡ 1 → 0 < total Receive FIRST_PRIVATE ((main_of field c).time ∷ 64 ∷ halves_cells (end_words (main_of field c))) (counted (told_lines field hi (told_by main_form c)))
receives hi c v = omega (arith, chain_only Receive ((main_of field c).time ∷ 64 ∷ halves_cells (end_words (main_of field c))) hi c, one_of_two (main_of field c) v)
