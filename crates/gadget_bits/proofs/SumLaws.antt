-- The sum of words by their halves.
use Rattle.std.proofs.Common.{◌≡◌, ◌≢◌, ℕ, ◌+◌, ◌*◌, ◌/◌, ◌%◌, ◌^◌, ◌<◌, ◌≤◌, List, [], ◌∷◌, length, refl, ap, ◌∙◌, arith, lit≤}
use Rattle.std.specs.List.{AllByRecursion}
use Rattle.vm_field.specs.Field.{modulus, field_add, field_sub}
use Rattle.vm_field.proofs.Lift.{lift_65536}
use Rattle.air_core.specs.Flags.{sum_from}
use Rattle.air_core.specs.Ring.{field}
use Rattle.air_core.specs.Lookups.{GoodEvent}
use Rattle.air_core.proofs.LookupLemmas.{range_good, good_range}
use Rattle.gadget_bits.specs.declared.halves.Halves.{Halves}
use Rattle.gadget_bits.specs.Bits.{HalvesOf}
use Rattle.gadget_bits.specs.Sum.{lows, highs, half_carry, low_carry, high_carry, plain_sum, AllHalves, SumGood, sum_lines}

-- sums of the field are sums of whole numbers, modulo p
sum_is : (xs : List ℕ) (acc : ℕ) → acc < modulus → sum_from field acc xs ≡ (acc + plain_sum xs) % modulus
sum_is [] acc low = omega arith
sum_is (x ∷ xs) acc low = sum_is xs (field_add acc x) (omega arith) ∙ omega arith

-- each half is below 2 ^ 16, and the words are their halves
pub record Sums (words : List (Halves ℕ)) (numbers : List ℕ) : Type 0 where
  pub low : plain_sum (lows words) ≤ 65535 * length words
  pub high : plain_sum (highs words) ≤ 65535 * length words
  pub whole : plain_sum numbers ≡ plain_sum (lows words) + 65536 * plain_sum (highs words)

sums : (words : List (Halves ℕ)) (numbers : List ℕ) → AllHalves words numbers → Sums words numbers
sums [] [] h = record { low = omega arith; high = omega arith; whole = refl }
sums [] (n ∷ numbers) h = absurd h
sums (w ∷ words) [] h = absurd h
sums (w ∷ words) (n ∷ numbers) h =
    let s = sums words numbers h.1 in
    let here : HalvesOf w n = h.0 in
    record { low = omega arith; high = omega arith; whole = omega arith }

-- Where the lookups are good, these are the halves of the sum.
pub sum_law : (words : List (Halves ℕ)) (numbers : List ℕ) (out : Halves ℕ) → AllHalves words numbers → length words ≤ 7 → SumGood words out → HalvesOf out (plain_sum numbers % 2 ^ 32)
unfolding low_carry high_carry half_carry
sum_law words numbers out h few good =
    let s = sums words numbers h in
    let k = low_carry field words out in
    let j = high_carry field words out in
    let k_low : k < 8 = good.low in
    let j_low : j < 8 = good.high in
    let low_is : sum_from field 0 (lows words) ≡ plain_sum (lows words) = sum_is (lows words) 0 (omega arith) ∙ omega (arith, s.low) in
    let high_is : sum_from field 0 (highs words) ≡ plain_sum (highs words) = sum_is (highs words) 0 (omega arith) ∙ omega (arith, s.high) in
    let low : sum_from field 0 (lows words) ≡ out.lo + 65536 * k = lift_65536 k (sum_from field 0 (lows words)) out.lo refl (omega (arith, good.lo)) (omega (arith, low_is, s.low)) in
    let joined : field_add (sum_from field 0 (highs words)) k ≡ plain_sum (highs words) + k = omega (arith, high_is, s.high) in
    let high : field_add (sum_from field 0 (highs words)) k ≡ out.hi + 65536 * j = lift_65536 j (field_add (sum_from field 0 (highs words)) k) out.hi refl (omega (arith, good.hi)) (omega (arith, joined, s.high)) in
    let whole : plain_sum numbers ≡ out.lo + 65536 * out.hi + 4294967296 * j = omega (arith, s.whole, low, low_is, high, joined) in
    let is : plain_sum numbers % 4294967296 ≡ out.lo + 65536 * out.hi = omega (arith, whole, good.lo, good.hi) in
    record { below = omega arith; lo = omega (arith, is, good.lo); hi = omega (arith, is, good.lo, good.hi) }

-- the lookups say it
pub sum_good : (count : ℕ) (words : List (Halves ℕ)) (out : Halves ℕ) → count ≢ 0 → AllByRecursion (λ e. e.count ≢ 0 → GoodEvent e) (sum_lines field count words out) → SumGood words out
unfolding sum_lines
sum_good count words out some all = record {
  low = range_good (low_carry field words out) 3 ((all.0 some).range refl);
  high = range_good (high_carry field words out) 3 ((all.1.0 some).range refl);
  lo = range_good out.lo 16 ((all.1.1.0 some).range refl);
  hi = range_good out.hi 16 ((all.1.1.1.0 some).range refl);
}

-- Back: the carries of a true sum are below 8.

carry_of : (half k : ℕ) → half < 65536 → k < 8 → half_carry field (half + 65536 * k) half ≡ k
unfolding half_carry
carry_of half k low small =
    let d : field_sub (half + 65536 * k) half ≡ 65536 * k = omega arith in
    rw d (omega arith)

pub carry_is : (sum half k : ℕ) → half < 65536 → k < 8 → sum ≡ half + 65536 * k → half_carry field sum half ≡ k
carry_is sum half k low small e = ap (λ (s : ℕ). half_carry field s half) e ∙ carry_of half k low small

pub sum_fits : (words : List (Halves ℕ)) (numbers : List ℕ) (out : Halves ℕ) → AllHalves words numbers → length words ≤ 7 → HalvesOf out (plain_sum numbers % 2 ^ 32)
    → SumGood words out
unfolding low_carry high_carry
sum_fits words numbers out h few o =
    let s = sums words numbers h in
    let low_is : sum_from field 0 (lows words) ≡ plain_sum (lows words) = sum_is (lows words) 0 (omega arith) ∙ omega (arith, s.low) in
    let high_is : sum_from field 0 (highs words) ≡ plain_sum (highs words) = sum_is (highs words) 0 (omega arith) ∙ omega (arith, s.high) in
    let k : ℕ = plain_sum (lows words) / 65536 in
    let k_small : k < 8 = omega (arith, s.low) in
    let low : sum_from field 0 (lows words) ≡ out.lo + 65536 * k = omega (arith, low_is, s.whole, o.lo) in
    let k_is : half_carry field (sum_from field 0 (lows words)) out.lo ≡ k = carry_is (sum_from field 0 (lows words)) out.lo k (omega (arith, o.lo)) k_small low in
    let j : ℕ = (plain_sum (highs words) + k) / 65536 in
    let j_small : j < 8 = omega (arith, s.high) in
    let joined : field_add (sum_from field 0 (highs words)) (half_carry field (sum_from field 0 (lows words)) out.lo) ≡ plain_sum (highs words) + k = omega (arith, high_is, s.high, k_is, k_small) in
    let high : field_add (sum_from field 0 (highs words)) (half_carry field (sum_from field 0 (lows words)) out.lo) ≡ out.hi + 65536 * j = omega (arith, joined, s.whole, o.hi) in
    let j_is = carry_is (field_add (sum_from field 0 (highs words)) (half_carry field (sum_from field 0 (lows words)) out.lo)) out.hi j (omega (arith, o.hi, o.below)) j_small high in
    record { low = omega (arith, k_is, k_small); high = omega (arith, j_is, j_small); lo = omega (arith, o.lo); hi = omega (arith, o.hi, o.below) }

-- and they are good
pub good_sum : (count : ℕ) (words : List (Halves ℕ)) (out : Halves ℕ) → SumGood words out → AllByRecursion GoodEvent (sum_lines field count words out)
unfolding sum_lines
good_sum count words out g = (
  good_range _ refl (record { v = low_carry field words out; n = 3; width = lit≤ tt; below = g.low; is = refl }),
  (
    good_range _ refl (record { v = high_carry field words out; n = 3; width = lit≤ tt; below = g.high; is = refl }),
    (
      good_range _ refl (record { v = out.lo; n = 16; width = lit≤ tt; below = g.lo; is = refl }),
      (good_range _ refl (record { v = out.hi; n = 16; width = lit≤ tt; below = g.hi; is = refl }), tt),
    ),
  ),
)

pub length-sum : (count : ℕ) (words : List (Halves ℕ)) (out : Halves ℕ) → length (sum_lines field count words out) ≡ 4
unfolding sum_lines
length-sum count words out = refl
