-- Law Sound of the pair: that a step is 4 long is known by the balance of bus 6 alone.
use Rattle.std.specs.Prelude.{◌≡◌, ◌≢◌, ℕ, zero, suc, ◌+◌, ◌^◌, ◌<◌, ◌≤◌, ◌⊎◌, true, false, nat_eq, List, [], ◌∷◌, ◌++◌, flat_map, length, refl, slice_index, slice_index_or}
use Rattle.std.proofs.Common.{sym, ap, ◌∙◌, subst, inl, inr, ⊎_elim, arith, lit<}
use Rattle.std.specs.List.{AllByRecursion}
use Rattle.std.proofs.lemmas.List.Sums.{sum_by-append, sum_by-cons}
use Rattle.vm_field.specs.Field.{modulus, field_add, field_sub}
use Rattle.vm_field.proofs.Constraints.{zero_product, equal_of_sub}
use Rattle.vm_field.proofs.Ring.{field_sub_below}
use Rattle.vm_isa.specs.declared.instr.VmInstr.{VmInstr}
use Rattle.vm_isa.proofs.MeansLaws.{means_of-nop}
use Rattle.air_core.specs.declared.event.Event.{Event}
use Rattle.air_core.specs.declared.event.Side.TheVariants.{Send, Receive}
use Rattle.air_core.specs.Balance.{total, amount_at, is_at}
use Rattle.air_core.specs.First.{bit}
use Rattle.air_core.specs.ListLemmas.{all_append, all_counted, all_counted_some, below_at}
use Rattle.air_core.specs.Lookups.{Good}
use Rattle.air_core.specs.Path.{path_lines}
use Rattle.air_core.specs.Sheet.{counted, row_events, sent}
use Rattle.air_core.specs.Step.{SoundStep, IsMeaning}
use Rattle.air_core.specs.System.{GoodRow}
use Rattle.air_core.specs.ExtensionLaws.{ExtensionSound, SoundRow}
use Rattle.air_core.proofs.BalanceLemmas.{member_of_total, test_of_there}
use Rattle.extension_tests.specs.Pair.{pair, step_sheet, answer_sheet, step_lines, step_numbers, answer_constraint}
use Rattle.extension_tests.specs.PairLaws.{stepped, flag_of, silent, says, IsNop}
use Rattle.air_core.specs.Ring.{field}
use Rattle.air_core.specs.declared.bus.TheConstants.{FIRST_PRIVATE}

-- what is received on bus 6 is 4
record GivesFour (e : Event) : Type 0 where
  four : e.bus ≡ 6 → e.side ≡ Receive → e.tuple ≡ 4 ∷ []

all_contains : {X : Type 0} (P : X → Type 0) (xs : List X) (k : ℕ) (x : X) → AllByRecursion P xs → k < length xs → slice_index_or xs k x ≡ x → P x
all_contains P [] k x a low is = absurd (omega (arith, low))
all_contains P (y ∷ xs) zero x a low is = subst P is a.0
all_contains P (y ∷ xs) (suc k) x a low is = all_contains P xs k x a.1 (omega (arith, low)) is

step_gives : (pc time flag x : ℕ) → AllByRecursion GivesFour (step_lines pc time flag x)
unfolding step_lines path_lines
step_gives pc time flag x = (
  record { four = λ b s. absurd (omega (arith, b)) },
  (
    record { four = λ b s. absurd (omega (arith, b)) },
    (record { four = λ b s. absurd (omega (arith, b)) }, (record { four = λ b s. absurd (cc) }, tt)),
  ),
)

answered : (y count : ℕ) → y < modulus → count < modulus → answer_constraint y count ≡ 0 → count ≢ 0 → y ≡ 4
unfolding answer_constraint
answered y count low small holds some =
    ⊎_elim
    (λ (none : count ≡ 0). absurd (some none))
    (λ (same : field_sub y 4 ≡ 0). equal_of_sub y 4 low (lit< tt) same)
    (zero_product count (field_sub y 4) small (field_sub_below y 4) holds)

answer_gives : (row : List ℕ) → GoodRow answer_sheet row → AllByRecursion GivesFour (row_events answer_sheet row)
answer_gives row g =
    let y = slice_index row 0 in
    let count = slice_index row 1 in
    all_counted_some GivesFour (answer_sheet.lines row) (
      λ some.
          let is : y ≡ 4 = answered y count (below_at row 0 g.is_row.below) (below_at row 1 g.is_row.below) g.holds.0 some in
          record { four = λ b s. ap (λ (n : ℕ). n ∷ []) is },
      tt,
    )

step_rows_give : (rows : List (List ℕ)) → AllByRecursion GivesFour (flat_map (row_events step_sheet) rows)
step_rows_give [] = tt
step_rows_give (row ∷ rows) =
    all_append GivesFour (row_events step_sheet row) (flat_map (row_events step_sheet) rows)
    (all_counted GivesFour (step_sheet.lines row) (step_gives (slice_index row 0) (slice_index row 1) (slice_index row 2) (slice_index row 3)))
    (step_rows_give rows)

answer_rows_give : (rows : List (List ℕ)) → AllByRecursion (GoodRow answer_sheet) rows → AllByRecursion GivesFour (flat_map (row_events answer_sheet) rows)
answer_rows_give [] good = tt
answer_rows_give (row ∷ rows) good =
    all_append GivesFour (row_events answer_sheet row) (flat_map (row_events answer_sheet) rows) (answer_gives row good.0) (answer_rows_give rows good.1)

-- what somebody asks for is 4, where all that is received on bus 6 is and the bus balances
asked_is_four : (events : List Event) → AllByRecursion GivesFour events → (x : ℕ) → total Send 6 (x ∷ []) events ≡ total Receive 6 (x ∷ []) events → 0 < total Send 6 (x ∷ []) events → x ≡ 4
asked_is_four events gives x even some =
    let m = member_of_total Receive 6 (x ∷ []) events (omega (arith, even, some)) in
    let g : GivesFour m.event = all_contains GivesFour events m.member.0 m.event gives m.member.1 m.member.2 in
    let same : x ∷ [] ≡ 4 ∷ [] = sym m.there.tuple_is ∙ g.four m.there.bus_is m.there.side_is in
    cc

-- the question of a valid row counts
asks : (pc time flag x : ℕ) → flag ≡ 1 → 0 < total Send 6 (x ∷ []) (counted (step_lines pc time flag x))
asks pc time flag x one =
    let path = counted (path_lines field flag pc time (field_add pc x) 1 (step_numbers pc flag)) in
    let question = sent FIRST_PRIVATE 1 (x ∷ []) in
    let here : is_at Send 6 (x ∷ []) question ≡ true = test_of_there Send 6 (x ∷ []) question (record { bus_is = refl; side_is = refl; tuple_is = refl }) in
    let counts : amount_at Send 6 (x ∷ []) question ≡ 1 = rw here refl in
    let parts : total Send 6 (x ∷ []) (counted (step_lines pc time flag x)) ≡ total Send 6 (x ∷ []) path + total Send 6 (x ∷ []) (question ∷ [])
    = ap (total Send 6 (x ∷ [])) (says pc time flag x one) ∙ sum_by-append (amount_at Send 6 (x ∷ [])) path (question ∷ []) in
    omega (arith, parts, sum_by-cons (amount_at Send 6 (x ∷ [])) question [], counts)

meaning : (pc : ℕ) (x : ℕ) (instr : VmInstr) → IsNop pc instr → instr.pc < 2 ^ 29 → x ≡ 4 → IsMeaning instr [] (field_add pc x)
meaning pc x instr is low four =
    let next : instr.pc + 4 ≡ field_add pc x = rw (is.at, four) (omega (arith, low)) in
    ([], means_of-nop instr [] [] is.op low ∙ rw next refl)

sound_row : (pc time flag x : ℕ) → time < modulus → flag < modulus → bit field flag ≡ 0 → Good (counted (step_lines pc time flag x)) → (flag ≡ 1 → x ≡ 4)
    → (counted (step_lines pc time flag x) ≡ []) ⊎ SoundStep (λ op. nat_eq op 39) 1 24 (counted (step_lines pc time flag x))
sound_row pc time flag x low small holds good four =
    ⊎_elim
    (λ (none : flag ≡ 0). inl (silent pc time flag x none))
    (λ (one : flag ≡ 1).
    let s = stepped pc time flag x low one good in
    inr (record {
      instr = s.instr;
      time = time;
      next = field_add pc x;
      accesses = [];
      owned = rw s.nop.op refl;
      step = s.step;
      means = λ bytes. meaning pc x s.instr s.nop s.in_range.low (four one);
    }))
    (flag_of flag small holds)

-- where every number that somebody asks for is 4, each row is sound
sound_rows : (all : List Event) → ((x : ℕ) → 0 < total Send 6 (x ∷ []) all → x ≡ 4) → (rows : List (List ℕ)) → AllByRecursion (GoodRow step_sheet) rows
    → ((x : ℕ) → total Send 6 (x ∷ []) (flat_map (row_events step_sheet) rows) ≤ total Send 6 (x ∷ []) all) → AllByRecursion (SoundRow step_sheet) rows
sound_rows all four [] good part = tt
sound_rows all four (row ∷ rows) good part =
    let g = good.0 in
    let pc = slice_index row 0 in
    let time = slice_index row 1 in
    let flag = slice_index row 2 in
    let x = slice_index row 3 in
    let here = λ (z : ℕ). sum_by-append (amount_at Send 6 (z ∷ [])) (row_events step_sheet row) (flat_map (row_events step_sheet) rows) in (
      λ owns. sound_row pc time flag x (below_at row 1 g.is_row.below) (below_at row 2 g.is_row.below) g.holds.0 g.good
          (λ one. four x (omega (arith, asks pc time flag x one, here x, part x))),
      sound_rows all four rows good.1 (λ z. omega (arith, here z, part z)),
    )

quiet_rows : (rows : List (List ℕ)) → AllByRecursion (SoundRow answer_sheet) rows
quiet_rows [] = tt
quiet_rows (row ∷ rows) = (λ owns. absurd (let h : false ≡ true = owns.1 in cc), quiet_rows rows)

pub pair_sound : ExtensionSound pair
pair_sound [] w = absurd (omega (arith, w.count))
pair_sound (steps ∷ []) w = absurd (omega (arith, w.count))
pair_sound (steps ∷ answers ∷ other ∷ more) w = absurd (omega (arith, w.count))
pair_sound (steps ∷ answers ∷ []) w =
    let said = flat_map (row_events step_sheet) steps in
    let given = flat_map (row_events answer_sheet) answers in
    let all = said ++ (given ++ []) in
    let gives : AllByRecursion GivesFour all =
    all_append GivesFour said (given ++ []) (step_rows_give steps) (all_append GivesFour given [] (answer_rows_give answers w.rows.1.0) tt) in
    let four : (x : ℕ) → 0 < total Send 6 (x ∷ []) all → x ≡ 4 = λ x some. asked_is_four all gives x (w.balanced.even 6 (x ∷ []) refl) some in (
      sound_rows all four steps w.rows.0 (λ x. omega (arith, sum_by-append (amount_at Send 6 (x ∷ [])) said (given ++ []))),
      (quiet_rows answers, tt),
    )
