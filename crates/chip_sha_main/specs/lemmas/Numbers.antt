-- The words of a row as numbers: the state and the block before the first round, and the sums behind the last.
use Rattle.std.proofs.Common.{◌≡◌, ℕ, suc, ◌+◌, ◌*◌, ◌%◌, ◌^◌, ◌<◌, ◌≤◌, List, [], ◌∷◌, ◌++◌, length, map, slice_index, refl, sym, ap, subst, ◌∙◌, arith, w32}
use Rattle.std.specs.List.{AllByRecursion, concat, range_with_len}
use Rattle.std.specs.Int.{from_be_bytes}
use Rattle.std.proofs.lemmas.List.FromFn.{fill_by_all}
use Rattle.vm_field.specs.Field.{modulus, field_add}
use Rattle.vm_field.specs.declared.limbs.Limbs.{Limbs}
use Rattle.vm_field.specs.Limbs.{list_of}
use Rattle.vm_field.proofs.Constraints.{boolean_at_most}
use Rattle.vm_field.proofs.Lift.{lift_65536}
use Rattle.vm_word.specs.Word.{word_of_limbs}
use Rattle.vm_isa.specs.Words.{IsBytes}
use Rattle.sha_words.specs.Sha256.{block_word, schedule, sums_of}
use Rattle.sha_words.proofs.ScheduleLemmas.{slice_index-schedule_first}
use Rattle.air_core.specs.First.{bit}
use Rattle.air_core.specs.Sheet.{AllZero}
use Rattle.gadget_bits.specs.declared.halves.Halves.{Halves}
use Rattle.gadget_bits.specs.Bits.{HalvesOf}
use Rattle.gadget_bits.specs.Sum.{AllHalves, half_carry}
use Rattle.air_core.specs.Ring.{field}
use Rattle.gadget_bits.proofs.StageLaws.{halves_append, halves_left, stage_numbers}
use Rattle.chip_sha_main.specs.Main.{word_halves, block_halves, carry_bits, sum_bits}

-- the number of a word, and of a word of the block
abbrev pub word : Limbs ℕ → ℕ
word w = word_of_limbs (list_of w)

abbrev pub big_word : Limbs ℕ → ℕ
big_word w = from_be_bytes w32 (list_of w)

abbrev pub AllBytes : List (Limbs ℕ) → Type 0
AllBytes ws = AllByRecursion (λ w. IsBytes (list_of w)) ws

pub word_halves_of : (w : Limbs ℕ) → IsBytes (list_of w) → HalvesOf (word_halves field w) (word w)
unfolding word_halves list_of
word_halves_of w b = record { below = omega (arith, b.0, b.1.0, b.1.1.0, b.1.1.1.0); lo = omega (arith, b.0, b.1.0, b.1.1.0, b.1.1.1.0); hi = omega (arith, b.0, b.1.0, b.1.1.0, b.1.1.1.0) }

pub block_halves_of : (w : Limbs ℕ) → IsBytes (list_of w) → HalvesOf (block_halves field w) (big_word w)
unfolding block_halves list_of
block_halves_of w b = record { below = omega (arith, b.0, b.1.0, b.1.1.0, b.1.1.1.0); lo = omega (arith, b.0, b.1.0, b.1.1.0, b.1.1.1.0); hi = omega (arith, b.0, b.1.0, b.1.1.0, b.1.1.1.0) }

-- lists of words

state_halves : (xs : List (Limbs ℕ)) → AllBytes xs → AllHalves (map (word_halves field) xs) (map word xs)
state_halves [] b = tt
state_halves (x ∷ xs) b = (word_halves_of x b.0, state_halves xs b.1)

-- a list of eight numbers
pub eight : (xs : List ℕ) → length xs ≡ 8
    → xs ≡ slice_index xs 0 ∷ slice_index xs 1 ∷ slice_index xs 2 ∷ slice_index xs 3 ∷ slice_index xs 4 ∷ slice_index xs 5 ∷ slice_index xs 6 ∷ slice_index xs 7 ∷ []
eight xs long = fill_by_all (λ i. slice_index xs i) xs 8 0 long (λ k lt. refl)

-- words of a block

behind_four : (a b c d : ℕ) (xs : List ℕ) (k n : ℕ) → n ≡ 4 + k → slice_index (a ∷ b ∷ c ∷ d ∷ xs) n ≡ slice_index xs k
behind_four a b c d xs k n e =
    let at : n ≡ suc (suc (suc (suc k))) = omega arith in
    ap (slice_index (a ∷ b ∷ c ∷ d ∷ xs)) at

next_word_of : (w : Limbs ℕ) (xs : List ℕ) (t : ℕ) → block_word (list_of w ++ xs) (suc t) ≡ block_word xs t
unfolding list_of
next_word_of w xs t =
    let p0 = behind_four w.x0 w.x1 w.x2 w.x3 xs (4 * t) (4 * suc t) (omega arith) in
    let p1 = behind_four w.x0 w.x1 w.x2 w.x3 xs (4 * t + 1) (4 * suc t + 1) (omega arith) in
    let p2 = behind_four w.x0 w.x1 w.x2 w.x3 xs (4 * t + 2) (4 * suc t + 2) (omega arith) in
    let p3 = behind_four w.x0 w.x1 w.x2 w.x3 xs (4 * t + 3) (4 * suc t + 3) (omega arith) in
    λ i. from_be_bytes w32 (p0 i ∷ p1 i ∷ p2 i ∷ p3 i ∷ [])

first_word_of : (w : Limbs ℕ) (xs : List ℕ) → block_word (list_of w ++ xs) 0 ≡ big_word w
unfolding list_of
first_word_of w xs = refl

-- words that are the block's, one after another
message_halves : (ms : List (Limbs ℕ)) (f : ℕ → ℕ) (a : ℕ) → AllBytes ms → ((t : ℕ) → t < length ms → f (a + t) ≡ block_word (concat (map list_of ms)) t)
    → AllHalves (map (block_halves field) ms) (map f (range_with_len a (length ms)))
message_halves [] f a b h = tt
message_halves (m ∷ ms) f a b h =
    let here : f a ≡ big_word m = ap f (omega arith) ∙ h 0 (omega arith) ∙ first_word_of m (concat (map list_of ms)) in (
      subst (HalvesOf (block_halves field m)) (sym here) (block_halves_of m b.0),
      message_halves ms f (a + 1) b.1 (λ t low. ap f (omega arith) ∙ h (suc t) (omega arith) ∙ next_word_of m (concat (map list_of ms)) t),
    )

-- the schedule of a block, and a state
abbrev pub block_of : List (Limbs ℕ) → List ℕ
block_of ms = concat (map list_of ms)

abbrev pub schedule_of : List (Limbs ℕ) → List ℕ
schedule_of ms = schedule (block_of ms) 80

block_part : (ms : List (Limbs ℕ)) → length ms ≡ 16 → AllBytes ms → AllHalves (map (block_halves field) ms) (map (slice_index (schedule_of ms)) (range_with_len 0 16))
block_part ms long b =
    subst (λ (n : ℕ). AllHalves (map (block_halves field) ms) (map (slice_index (schedule_of ms)) (range_with_len 0 n))) long
    (message_halves ms (slice_index (schedule_of ms)) 0 b
    (λ t low. ap (slice_index (schedule_of ms)) (omega arith) ∙ slice_index-schedule_first (block_of ms) 80 t (omega (arith, long)) (omega (arith, long))))

pub length_words : (xs : List (Limbs ℕ)) → length (map word xs) ≡ length xs
length_words [] = refl
length_words (x ∷ xs) = ap (λ (n : ℕ). suc n) (length_words xs) ∙ omega arith

-- the stage before the first round
pub start_is : (xs ms : List (Limbs ℕ)) → length xs ≡ 8 → length ms ≡ 16 → AllBytes xs → AllBytes ms
    → AllHalves (map (word_halves field) xs ++ map (block_halves field) ms) (stage_numbers (map word xs) (schedule_of ms) 0)
start_is xs ms eight_long long bx bm =
    let state = subst (AllHalves (map (word_halves field) xs)) (eight (map word xs) (length_words xs ∙ eight_long)) (state_halves xs bx) in
    halves_append (map (word_halves field) xs) (map (block_halves field) ms) _ _ state (block_part ms long bm)

-- sums

pub carry_small : (k : ℕ) → k < modulus → bit field k ≡ 0 → k ≤ 1
unfolding bit
carry_small k low h = boolean_at_most k low h

half_carry_below : (s a : ℕ) → half_carry field s a < modulus
unfolding half_carry
half_carry_below s a = omega arith

lifted : (s a : ℕ) → half_carry field s a ≤ 1 → a < 65536 → s < modulus → s ≡ a + 65536 * half_carry field s a
unfolding half_carry
lifted s a small low sum = lift_65536 (half_carry field s a) s a refl (omega arith) sum

-- over plain numbers
one_sum_by : (xl xh fl fh yl yh k j : ℕ) → xl < 65536 → xh < 65536 → fl < 65536 → fh < 65536 → yl < 65536 → yh < 65536 → k ≤ 1 → j ≤ 1
    → field_add xl fl ≡ yl + 65536 * k → field_add (field_add xh fh) k ≡ yh + 65536 * j → yl + 65536 * yh ≡ (xl + 65536 * xh + (fl + 65536 * fh)) % 2 ^ 32
one_sum_by xl xh fl fh yl yh k j a b c d e f g h p q = omega arith

pub split_halves : (x : Halves ℕ) (n : ℕ) → HalvesOf x n → (n ≡ x.lo + 65536 * x.hi) × (x.lo < 65536) × (x.hi < 65536)
split_halves x n h = (omega (arith, h.lo, h.hi), omega (arith, h.lo), omega (arith, h.hi, h.below))

-- one word of the new state
one_sum : (x : Limbs ℕ) (f : Halves ℕ) (y : Limbs ℕ) (n : ℕ) → IsBytes (list_of x) → HalvesOf f n → IsBytes (list_of y) → AllZero (carry_bits field x f y) → word y ≡ (word x + n) % 2 ^ 32
unfolding carry_bits
one_sum x f y n bx hf by zeros =
    let sx = split_halves (word_halves field x) (word x) (word_halves_of x bx) in
    let sf = split_halves f n hf in
    let sy = split_halves (word_halves field y) (word y) (word_halves_of y by) in
    let low_sum : ℕ = field_add (word_halves field x).lo f.lo in
    let k : ℕ = half_carry field low_sum (word_halves field y).lo in
    let k_small : k ≤ 1 = carry_small k (half_carry_below low_sum (word_halves field y).lo) zeros.0 in
    let high_sum : ℕ = field_add (field_add (word_halves field x).hi f.hi) k in
    let j : ℕ = half_carry field high_sum (word_halves field y).hi in
    let j_small : j ≤ 1 = carry_small j (half_carry_below high_sum (word_halves field y).hi) zeros.1.0 in
    let low = lifted low_sum (word_halves field y).lo k_small sy.1 (omega arith) in
    let high = lifted high_sum (word_halves field y).hi j_small sy.2 (omega arith) in
    sy.0 ∙ one_sum_by (word_halves field x).lo (word_halves field x).hi f.lo f.hi (word_halves field y).lo (word_halves field y).hi k j sx.1 sx.2 sf.1 sf.2 sy.1 sy.2 k_small j_small low high
    ∙ sym (λ i. (sx.0 i + sf.0 i) % 2 ^ 32)

-- number by number
abbrev pub added : List ℕ → List ℕ → List ℕ
added (x ∷ xs) (n ∷ ns) = (x + n) % 2 ^ 32 ∷ added xs ns
added _ _ = []

pub sums_are : (xs : List (Limbs ℕ)) (fs : List (Halves ℕ)) (ys : List (Limbs ℕ)) (ns : List ℕ) → length fs ≡ length xs → length ys ≡ length xs → AllBytes xs → AllHalves fs ns → AllBytes ys
    → AllZero (sum_bits field xs fs ys) → map word ys ≡ added (map word xs) ns
unfolding sum_bits carry_bits
sums_are [] fs [] ns e d bx hf by z = refl
sums_are [] fs (y ∷ ys) ns e d bx hf by z = absurd (omega (arith, d))
sums_are (x ∷ xs) [] ys ns e d bx hf by z = absurd (omega (arith, e))
sums_are (x ∷ xs) (f ∷ fs) [] ns e d bx hf by z = absurd (omega (arith, d))
sums_are (x ∷ xs) (f ∷ fs) (y ∷ ys) [] e d bx hf by z = absurd hf
sums_are (x ∷ xs) (f ∷ fs) (y ∷ ys) (n ∷ ns) e d bx hf by z =
    let here = one_sum x f y n bx.0 hf.0 by.0 (z.0, (z.1.0, tt)) in
    let rest = sums_are xs fs ys ns (omega (arith, e)) (omega (arith, d)) bx.1 hf.1 by.1 z.1.1 in
    λ i. here i ∷ rest i

pub sums_eight : (X R : List ℕ) → length X ≡ 8
    → added X (slice_index R 0 ∷ slice_index R 1 ∷ slice_index R 2 ∷ slice_index R 3 ∷ slice_index R 4 ∷ slice_index R 5 ∷ slice_index R 6 ∷ slice_index R 7 ∷ []) ≡ sums_of X R
unfolding sums_of
sums_eight X R long = ap (λ (Y : List ℕ). added Y (slice_index R 0 ∷ slice_index R 1 ∷ slice_index R 2 ∷ slice_index R 3 ∷ slice_index R 4 ∷ slice_index R 5 ∷ slice_index R 6 ∷ slice_index R 7 ∷ [])) (eight X long)

-- the stage behind the last round gives the new state
pub end_gives : (xs : List (Limbs ℕ)) (fs rest : List (Halves ℕ)) (ys : List (Limbs ℕ)) (R W : List ℕ) (t : ℕ) → length xs ≡ 8 → length fs ≡ 8 → length ys ≡ 8 → AllBytes xs → AllBytes ys
    → AllZero (sum_bits field xs fs ys) → AllHalves (fs ++ rest) (stage_numbers R W t) → map word ys ≡ sums_of (map word xs) R
end_gives xs fs rest ys R W t lx lf ly bx by z h =
    let eight_r = slice_index R 0 ∷ slice_index R 1 ∷ slice_index R 2 ∷ slice_index R 3 ∷ slice_index R 4 ∷ slice_index R 5 ∷ slice_index R 6 ∷ slice_index R 7 ∷ [] in
    let left = halves_left fs rest eight_r _ lf h in
    sums_are xs fs ys eight_r (lf ∙ sym lx) (ly ∙ sym lx) bx left by z ∙ sums_eight (map word xs) R (length_words xs ∙ lx)
