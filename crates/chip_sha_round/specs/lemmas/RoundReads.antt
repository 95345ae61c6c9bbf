-- What a row of the table says where it counts: bits, sums and the round's constant are read off it.
use Rattle.std.proofs.Common.{◌≡◌, ◌≢◌, ℕ, zero, suc, ◌+◌, ◌/◌, ◌%◌, ◌^◌, ◌<◌, ◌≤◌, Bool, true, ◌&&◌, nat_lt, List, [], ◌∷◌, ◌++◌, map, slice_index, refl, sym, ap, subst, ◌∙◌, arith, lit<, lit≤, ltb-true}
use Rattle.std.specs.List.{AllByRecursion}
use Rattle.std.proofs.lemmas.Bool.{and_parts}
use Rattle.sha_words.specs.declared.constants.TheConstants.{ROUND_CONSTANTS}
use Rattle.sha_words.specs.Sha256.{round_constant}
use Rattle.air_core.specs.declared.event.Event.{Event}
use Rattle.air_core.specs.First.{bit}
use Rattle.air_core.specs.Flags.{flag_constraints}
use Rattle.air_core.specs.Sheet.{AllZero, AllBelow, counted}
use Rattle.air_core.specs.Lookups.{Good, GoodEvent, IsConstantRow}
use Rattle.air_core.specs.ListLemmas.{all_left, all_right, all_counted_back}
use Rattle.gadget_bits.specs.Bits.{HalvesOf}
use Rattle.gadget_bits.specs.Sum.{sum_lines}
use Rattle.gadget_bits.proofs.BitLaws.{bits_at_small, columns_small}
use Rattle.gadget_bits.proofs.SumLaws.{sum_good}
use Rattle.air_core.specs.Ring.{field, cells}
use Rattle.chip_sha_round.specs.Round.{RoundRow, round_row, a_words, e_words, w_words, sums_lines, round_lines, stage_lines, round_constraints}
use Rattle.chip_sha_round.specs.lemmas.RoundLaw.{BitColumns, SumsGood}

-- the constants are words

unfoldable fit : List ℕ → Bool
fit [] = true
fit (x ∷ xs) = nat_lt x 4294967296 && fit xs

fit_at : (xs : List ℕ) (i : ℕ) → fit xs ≡ true → slice_index xs i < 2 ^ 32
unfolding fit
fit_at [] i h = lit< tt
fit_at (x ∷ xs) zero h = let parts = and_parts (nat_lt x 4294967296) (fit xs) h in ltb-true x 4294967296 parts.0
fit_at (x ∷ xs) (suc i) h = let parts = and_parts (nat_lt x 4294967296) (fit xs) h in fit_at xs i parts.1

all_fit : fit ROUND_CONSTANTS ≡ true
unfolding fit
all_fit = refl

pub constant_fits : (t : ℕ) → round_constant t < 2 ^ 32
unfolding round_constant
constant_fits t = fit_at ROUND_CONSTANTS t all_fit

-- a row that counts

pub record RoundReads (r : RoundRow ℕ) : Type 0 where
  pub bits : BitColumns r
  pub sums : SumsGood r
  pub low : r.round < 64
  pub constant : HalvesOf r.constant (round_constant r.round)

column : (row : List ℕ) (at from : ℕ) → AllBelow row → AllZero (round_constraints field (slice_index row)) → at ≡ 5 + from → from + 32 ≤ 256 → (i : ℕ) → slice_index (cells (slice_index row) at 32) i < 2
unfolding round_constraints
column row at from below zeros e few =
    let bits = all_right (λ x. x ≡ 0) (flag_constraints field (slice_index row 0 ∷ [])) (map (bit field) (cells (slice_index row) 5 256)) zeros in
    bits_at_small row at (λ j low.
    let place : 5 + (from + j) ≡ at + j = omega arith in
    subst (λ (k : ℕ). slice_index row k < 2) place (columns_small row 5 256 (from + j) below bits (omega arith)))

bit_columns : (row : List ℕ) → AllBelow row → AllZero (round_constraints field (slice_index row)) → BitColumns (round_row (slice_index row))
unfolding round_row
bit_columns row below zeros = record {
  a = column row 5 0 below zeros refl (lit≤ tt);
  b = column row 37 32 below zeros refl (lit≤ tt);
  c = column row 69 64 below zeros refl (lit≤ tt);
  e = column row 101 96 below zeros refl (lit≤ tt);
  f = column row 133 128 below zeros refl (lit≤ tt);
  g = column row 165 160 below zeros refl (lit≤ tt);
  w1 = column row 197 192 below zeros refl (lit≤ tt);
  w14 = column row 229 224 below zeros refl (lit≤ tt);
}

sums_good : (r : RoundRow ℕ) → r.flag ≢ 0 → AllByRecursion (λ e. e.count ≢ 0 → GoodEvent e) (sums_lines field r) → SumsGood r
sums_good r some all =
    let P : Event → Type 0 = λ e. e.count ≢ 0 → GoodEvent e in
    let a : List Event = sum_lines field r.flag (a_words field r) r.new_a in
    let e : List Event = sum_lines field r.flag (e_words field r) r.new_e in
    let w : List Event = sum_lines field r.flag (w_words field r) r.new_w in
    let more = all_right P a (e ++ w) all in
    record {
      a = sum_good r.flag (a_words field r) r.new_a some (all_left P a (e ++ w) all);
      e = sum_good r.flag (e_words field r) r.new_e some (all_left P e w more);
      w = sum_good r.flag (w_words field r) r.new_w some (all_right P e w more);
    }

record ConstantReads (r : RoundRow ℕ) : Type 0 where
  low : r.round < 64
  lo : r.constant.lo ≡ round_constant r.round % 65536
  hi : r.constant.hi ≡ round_constant r.round / 65536

constant_read : (r : RoundRow ℕ) → IsConstantRow (r.round ∷ r.constant.lo ∷ r.constant.hi ∷ []) → ConstantReads r
constant_read r c =
    let e = c.is in
    let same : r.round ≡ c.round = cc in
    let lo : r.constant.lo ≡ round_constant c.round % 65536 = cc in
    let hi : r.constant.hi ≡ round_constant c.round / 65536 = cc in
    record { low = omega (arith, same, c.below); lo = lo ∙ ap (λ (t : ℕ). round_constant t % 65536) (sym same); hi = hi ∙ ap (λ (t : ℕ). round_constant t / 65536) (sym same) }

constant_good : (r : RoundRow ℕ) → r.flag ≢ 0 → AllByRecursion (λ e. e.count ≢ 0 → GoodEvent e) (stage_lines field r) → ConstantReads r
unfolding stage_lines
constant_good r some all = constant_read r ((all.0 some).constant refl)

pub round_reads : (row : List ℕ) → AllBelow row → AllZero (round_constraints field (slice_index row)) → Good (counted (round_lines field (round_row (slice_index row)))) → (round_row (slice_index row)).flag ≢ 0 → RoundReads (round_row (slice_index row))
unfolding round_lines
round_reads row below zeros good some =
    let r = round_row (slice_index row) in
    let P : Event → Type 0 = λ e. e.count ≢ 0 → GoodEvent e in
    let all = all_counted_back GoodEvent (sums_lines field r ++ stage_lines field r) good in
    let c = constant_good r some (all_right P (sums_lines field r) (stage_lines field r) all) in
    record {
      bits = bit_columns row below zeros;
      sums = sums_good r some (all_left P (sums_lines field r) (stage_lines field r) all);
      low = c.low;
      constant = record { below = constant_fits r.round; lo = c.lo; hi = c.hi };
    }
