-- The row of a round that is filled: it holds, its lookups are good, and it passes the stage on.
use Rattle.std.proofs.Common.{◌≡◌, ℕ, zero, suc, ◌+◌, ◌%◌, ◌^◌, ◌<◌, List, [], ◌∷◌, ◌++◌, length, map, take, drop, slice_index, refl, sym, ap, subst, ◌∙◌, arith, lit<, lit≤}
use Rattle.std.specs.List.{AllByRecursion}
use Rattle.std.specs.Int.{bit_at}
use Rattle.std.proofs.lemmas.Nat.Bits.{bit_at-lt}
use Rattle.vm_field.specs.Field.{modulus}
use Rattle.vm_isa.proofs.ShaShape.{all_range}
use Rattle.sha_words.specs.Sha256.{round, round_constant, next_word, ch, maj, big_sigma0, big_sigma1, small_sigma0, small_sigma1}
use Rattle.sha_words.proofs.RoundLemmas.{round-lt}
use Rattle.air_core.specs.First.{bit}
use Rattle.air_core.specs.Flags.{flag_constraints}
use Rattle.air_core.specs.Sheet.{AllZero, AllBelow}
use Rattle.air_core.specs.Lookups.{GoodEvent}
use Rattle.air_core.specs.ListLemmas.{all_append}
use Rattle.air_core.specs.PathLaws.{good_free}
use Rattle.gadget_bits.specs.Bits.{HalvesOf, halves_by, bits_filled, halves_filled, halves_at, big_sigma_bits, small_sigma_bits, choice_bits, majority_bits}
use Rattle.gadget_bits.specs.Sum.{AllHalves, SumGood, sum_lines}
use Rattle.gadget_bits.proofs.BitLaws.{halves_of_bits, bits_filled_are, halves_filled_are, big_sigma0_halves, big_sigma1_halves, small_sigma0_halves, small_sigma1_halves, choice_halves, majority_halves}
use Rattle.gadget_bits.proofs.StageLaws.{cells_below, moved, stage_numbers}
use Rattle.gadget_bits.proofs.SumLaws.{sum_fits, good_sum}
use Rattle.air_core.specs.Ring.{field, cells}
use Rattle.air_core.specs.lemmas.Cells.{cells_take}
use Rattle.chip_sha_round.specs.Round.{round_row, before_of, after_of, a_words, e_words, w_words, sums_lines, stage_lines, round_lines, round_constraints}
use Rattle.chip_sha_round.specs.Sheet.{round_filled, row_of_round}
use Rattle.chip_sha_round.specs.lemmas.RoundLaw.{next_is, seven, six, four}
use Rattle.chip_sha_round.specs.lemmas.RoundReads.{constant_fits}

-- a state and the words of a schedule are words of 32 bits
pub record AreWords (state words : List ℕ) : Type 0 where
  pub state_fits : (j : ℕ) → slice_index state j < 2 ^ 32
  pub words_fit : (j : ℕ) → slice_index words j < 2 ^ 32

filled_bits : (w : ℕ) → w < 2 ^ 32 → HalvesOf (halves_by field (bits_filled w)) w
filled_bits w fits = halves_of_bits (bits_filled w) w fits (bits_filled_are w)

module _ (time t : ℕ) (state words : List ℕ) (s : AreWords state words) where
  pub filled_before : AllHalves ((before_of field (round_filled time t state words))) (stage_numbers state words t)
  unfolding before_of round_filled
  filled_before = (filled_bits (slice_index state 0) (s.state_fits 0), (filled_bits (slice_index state 1) (s.state_fits 1), (filled_bits (slice_index state 2) (s.state_fits 2), (halves_filled_are (slice_index state 3) (s.state_fits 3), (filled_bits (slice_index state 4) (s.state_fits 4), (filled_bits (slice_index state 5) (s.state_fits 5), (filled_bits (slice_index state 6) (s.state_fits 6), (halves_filled_are (slice_index state 7) (s.state_fits 7), (halves_filled_are (slice_index words (t + 0)) (s.words_fit (t + 0)), (filled_bits (slice_index words (t + 1)) (s.words_fit (t + 1)), (halves_filled_are (slice_index words (t + 2)) (s.words_fit (t + 2)), (halves_filled_are (slice_index words (t + 3)) (s.words_fit (t + 3)), (halves_filled_are (slice_index words (t + 4)) (s.words_fit (t + 4)), (halves_filled_are (slice_index words (t + 5)) (s.words_fit (t + 5)), (halves_filled_are (slice_index words (t + 6)) (s.words_fit (t + 6)), (halves_filled_are (slice_index words (t + 7)) (s.words_fit (t + 7)), (halves_filled_are (slice_index words (t + 8)) (s.words_fit (t + 8)), (halves_filled_are (slice_index words (t + 9)) (s.words_fit (t + 9)), (halves_filled_are (slice_index words (t + 10)) (s.words_fit (t + 10)), (halves_filled_are (slice_index words (t + 11)) (s.words_fit (t + 11)), (halves_filled_are (slice_index words (t + 12)) (s.words_fit (t + 12)), (halves_filled_are (slice_index words (t + 13)) (s.words_fit (t + 13)), (filled_bits (slice_index words (t + 14)) (s.words_fit (t + 14)), (halves_filled_are (slice_index words (t + 15)) (s.words_fit (t + 15)), tt))))))))))))))))))))))))

  pub filled_after : AllHalves ((after_of field (round_filled time t state words))) (stage_numbers (round state (round_constant t) (slice_index words (t + 0))) words (t + 1))
  unfolding after_of round_filled round
  filled_after = (halves_filled_are (slice_index (round state (round_constant t) (slice_index words (t + 0))) 0) (round-lt state (round_constant t) (slice_index words (t + 0)) 0 s.state_fits), (filled_bits (slice_index state 0) (s.state_fits 0), (filled_bits (slice_index state 1) (s.state_fits 1), (filled_bits (slice_index state 2) (s.state_fits 2), (halves_filled_are (slice_index (round state (round_constant t) (slice_index words (t + 0))) 4) (round-lt state (round_constant t) (slice_index words (t + 0)) 4 s.state_fits), (filled_bits (slice_index state 4) (s.state_fits 4), (filled_bits (slice_index state 5) (s.state_fits 5), (filled_bits (slice_index state 6) (s.state_fits 6), (moved (halves_by field (bits_filled (slice_index words (t + 1)))) words (t + 1) (t + 1 + 0) (omega arith) (filled_bits (slice_index words (t + 1)) (s.words_fit (t + 1))), (moved (halves_filled (slice_index words (t + 2))) words (t + 2) (t + 1 + 1) (omega arith) (halves_filled_are (slice_index words (t + 2)) (s.words_fit (t + 2))), (moved (halves_filled (slice_index words (t + 3))) words (t + 3) (t + 1 + 2) (omega arith) (halves_filled_are (slice_index words (t + 3)) (s.words_fit (t + 3))), (moved (halves_filled (slice_index words (t + 4))) words (t + 4) (t + 1 + 3) (omega arith) (halves_filled_are (slice_index words (t + 4)) (s.words_fit (t + 4))), (moved (halves_filled (slice_index words (t + 5))) words (t + 5) (t + 1 + 4) (omega arith) (halves_filled_are (slice_index words (t + 5)) (s.words_fit (t + 5))), (moved (halves_filled (slice_index words (t + 6))) words (t + 6) (t + 1 + 5) (omega arith) (halves_filled_are (slice_index words (t + 6)) (s.words_fit (t + 6))), (moved (halves_filled (slice_index words (t + 7))) words (t + 7) (t + 1 + 6) (omega arith) (halves_filled_are (slice_index words (t + 7)) (s.words_fit (t + 7))), (moved (halves_filled (slice_index words (t + 8))) words (t + 8) (t + 1 + 7) (omega arith) (halves_filled_are (slice_index words (t + 8)) (s.words_fit (t + 8))), (moved (halves_filled (slice_index words (t + 9))) words (t + 9) (t + 1 + 8) (omega arith) (halves_filled_are (slice_index words (t + 9)) (s.words_fit (t + 9))), (moved (halves_filled (slice_index words (t + 10))) words (t + 10) (t + 1 + 9) (omega arith) (halves_filled_are (slice_index words (t + 10)) (s.words_fit (t + 10))), (moved (halves_filled (slice_index words (t + 11))) words (t + 11) (t + 1 + 10) (omega arith) (halves_filled_are (slice_index words (t + 11)) (s.words_fit (t + 11))), (moved (halves_filled (slice_index words (t + 12))) words (t + 12) (t + 1 + 11) (omega arith) (halves_filled_are (slice_index words (t + 12)) (s.words_fit (t + 12))), (moved (halves_filled (slice_index words (t + 13))) words (t + 13) (t + 1 + 12) (omega arith) (halves_filled_are (slice_index words (t + 13)) (s.words_fit (t + 13))), (moved (halves_by field (bits_filled (slice_index words (t + 14)))) words (t + 14) (t + 1 + 13) (omega arith) (filled_bits (slice_index words (t + 14)) (s.words_fit (t + 14))), (moved (halves_filled (slice_index words (t + 15))) words (t + 15) (t + 1 + 14) (omega arith) (halves_filled_are (slice_index words (t + 15)) (s.words_fit (t + 15))), (moved (halves_filled (slice_index words (t + 16))) words (t + 16) (t + 1 + 15) (omega arith) (halves_filled_are (slice_index words (t + 16)) (s.words_fit (t + 16))), tt))))))))))))))))))))))))

  K : HalvesOf (halves_filled (round_constant t)) (round_constant t)
  K = halves_filled_are (round_constant t) (constant_fits t)

  big1 : HalvesOf (halves_by field (big_sigma_bits field 6 11 25 (bits_filled (slice_index state 4)))) (big_sigma1 (slice_index state 4))
  big1 = big_sigma1_halves (bits_filled (slice_index state 4)) (slice_index state 4) (s.state_fits 4) (bits_filled_are _)

  chosen : HalvesOf (halves_by field (choice_bits field (bits_filled (slice_index state 4)) (bits_filled (slice_index state 5)) (bits_filled (slice_index state 6)))) (ch (slice_index state 4) (slice_index state 5) (slice_index state 6))
  chosen = choice_halves (bits_filled (slice_index state 4)) (bits_filled (slice_index state 5)) (bits_filled (slice_index state 6)) (slice_index state 4) (slice_index state 5) (slice_index state 6)
      (s.state_fits 4) (s.state_fits 5) (s.state_fits 6) (bits_filled_are _) (bits_filled_are _) (bits_filled_are _)

  big0 : HalvesOf (halves_by field (big_sigma_bits field 2 13 22 (bits_filled (slice_index state 0)))) (big_sigma0 (slice_index state 0))
  big0 = big_sigma0_halves (bits_filled (slice_index state 0)) (slice_index state 0) (s.state_fits 0) (bits_filled_are _)

  most : HalvesOf (halves_by field (majority_bits field (bits_filled (slice_index state 0)) (bits_filled (slice_index state 1)) (bits_filled (slice_index state 2)))) (maj (slice_index state 0) (slice_index state 1) (slice_index state 2))
  most = majority_halves (bits_filled (slice_index state 0)) (bits_filled (slice_index state 1)) (bits_filled (slice_index state 2)) (slice_index state 0) (slice_index state 1) (slice_index state 2)
      (s.state_fits 0) (s.state_fits 1) (s.state_fits 2) (bits_filled_are _) (bits_filled_are _) (bits_filled_are _)

  small1 : HalvesOf (halves_by field (small_sigma_bits field 17 19 10 (bits_filled (slice_index words (t + 14))))) (small_sigma1 (slice_index words (t + 14)))
  small1 = small_sigma1_halves (bits_filled (slice_index words (t + 14))) (slice_index words (t + 14)) (s.words_fit (t + 14)) (bits_filled_are _)

  small0 : HalvesOf (halves_by field (small_sigma_bits field 7 18 3 (bits_filled (slice_index words (t + 1))))) (small_sigma0 (slice_index words (t + 1)))
  small0 = small_sigma0_halves (bits_filled (slice_index words (t + 1))) (slice_index words (t + 1)) (s.words_fit (t + 1)) (bits_filled_are _)

  filled_a : SumGood (a_words field (round_filled time t state words)) (round_filled time t state words).new_a
  unfolding a_words round_filled round
  filled_a = sum_fits (a_words field (round_filled time t state words))
      ((slice_index state 7) ∷ big_sigma1 (slice_index state 4) ∷ ch (slice_index state 4) (slice_index state 5) (slice_index state 6) ∷ round_constant t ∷ (slice_index words (t + 0)) ∷ big_sigma0 (slice_index state 0) ∷ maj (slice_index state 0) (slice_index state 1) (slice_index state 2) ∷ []) (halves_filled (slice_index (round state (round_constant t) (slice_index words (t + 0))) 0))
      (halves_filled_are (slice_index state 7) (s.state_fits 7), (big1, (chosen, (K, (halves_filled_are (slice_index words (t + 0)) (s.words_fit (t + 0)), (big0, (most, tt))))))) (lit≤ tt)
      (subst (HalvesOf (halves_filled (slice_index (round state (round_constant t) (slice_index words (t + 0))) 0))) (sym (seven (slice_index state 7) (big_sigma1 (slice_index state 4)) (ch (slice_index state 4) (slice_index state 5) (slice_index state 6)) (round_constant t) (slice_index words (t + 0)) (big_sigma0 (slice_index state 0)) (maj (slice_index state 0) (slice_index state 1) (slice_index state 2))))
      (halves_filled_are (slice_index (round state (round_constant t) (slice_index words (t + 0))) 0) (round-lt state (round_constant t) (slice_index words (t + 0)) 0 s.state_fits)))

  filled_e : SumGood (e_words field (round_filled time t state words)) (round_filled time t state words).new_e
  unfolding e_words round_filled round
  filled_e = sum_fits (e_words field (round_filled time t state words))
      ((slice_index state 3) ∷ (slice_index state 7) ∷ big_sigma1 (slice_index state 4) ∷ ch (slice_index state 4) (slice_index state 5) (slice_index state 6) ∷ round_constant t ∷ (slice_index words (t + 0)) ∷ []) (halves_filled (slice_index (round state (round_constant t) (slice_index words (t + 0))) 4))
      (halves_filled_are (slice_index state 3) (s.state_fits 3), (halves_filled_are (slice_index state 7) (s.state_fits 7), (big1, (chosen, (K, (halves_filled_are (slice_index words (t + 0)) (s.words_fit (t + 0)), tt)))))) (lit≤ tt)
      (subst (HalvesOf (halves_filled (slice_index (round state (round_constant t) (slice_index words (t + 0))) 4))) (sym (six (slice_index state 3) (slice_index state 7) (big_sigma1 (slice_index state 4)) (ch (slice_index state 4) (slice_index state 5) (slice_index state 6)) (round_constant t) (slice_index words (t + 0))))
      (halves_filled_are (slice_index (round state (round_constant t) (slice_index words (t + 0))) 4) (round-lt state (round_constant t) (slice_index words (t + 0)) 4 s.state_fits)))

  filled_w : slice_index words (t + 16) ≡ next_word words (t + 16) → SumGood (w_words field (round_filled time t state words)) (round_filled time t state words).new_w
  unfolding w_words round_filled
  filled_w next =
      let last : t + 1 + 15 ≡ t + 16 = omega arith in
      let is : (small_sigma1 (slice_index words (t + 14)) + (slice_index words (t + 9)) + small_sigma0 (slice_index words (t + 1)) + (slice_index words (t + 0))) % 2 ^ 32 ≡ slice_index words (t + 16) = next_is words t next ∙ ap (slice_index words) last in
      sum_fits (w_words field (round_filled time t state words)) (small_sigma1 (slice_index words (t + 14)) ∷ (slice_index words (t + 9)) ∷ small_sigma0 (slice_index words (t + 1)) ∷ (slice_index words (t + 0)) ∷ []) (halves_filled (slice_index words (t + 16)))
      (small1, (halves_filled_are (slice_index words (t + 9)) (s.words_fit (t + 9)), (small0, (halves_filled_are (slice_index words (t + 0)) (s.words_fit (t + 0)), tt)))) (lit≤ tt)
      (subst (HalvesOf (halves_filled (slice_index words (t + 16)))) (sym (four (small_sigma1 (slice_index words (t + 14))) (slice_index words (t + 9)) (small_sigma0 (slice_index words (t + 1))) (slice_index words (t + 0)) ∙ is)) (halves_filled_are (slice_index words (t + 16)) (s.words_fit (t + 16))))

  filled_stages : t < 64 → AllByRecursion GoodEvent (stage_lines field (round_filled time t state words))
  unfolding stage_lines round_filled halves_filled
  filled_stages low = (
    record { program = λ h. absurd (omega arith); xor = λ h. absurd (omega arith); range = λ h. absurd (omega arith); constant = λ h. record { round = t; below = low; is = refl } },
    (good_free _ (omega arith) (omega arith) (omega arith) (omega arith), (good_free _ (omega arith) (omega arith) (omega arith) (omega arith), tt)),
  )

  pub filled_good : t < 64 → slice_index words (t + 16) ≡ next_word words (t + 16) → AllByRecursion GoodEvent (round_lines field (round_filled time t state words))
  unfolding round_lines
  filled_good low next =
      let r = round_filled time t state words in
      all_append GoodEvent (sums_lines field r) (stage_lines field r)
      (all_append GoodEvent (sum_lines field r.flag (a_words field r) r.new_a) _ (good_sum r.flag (a_words field r) r.new_a filled_a)
      (all_append GoodEvent (sum_lines field r.flag (e_words field r) r.new_e) (sum_lines field r.flag (w_words field r) r.new_w) (good_sum r.flag (e_words field r) r.new_e filled_e) (good_sum r.flag (w_words field r) r.new_w (filled_w next))))
      (filled_stages low)

-- the row of columns

pub round_back : (time t : ℕ) (state words : List ℕ) → round_row (slice_index (row_of_round (round_filled time t state words))) ≡ round_filled time t state words
unfolding round_row row_of_round round_filled bits_filled halves_filled halves_at
round_back time t state words = refl

pub round_wide : (time t : ℕ) (state words : List ℕ) → length (row_of_round (round_filled time t state words)) ≡ 299
unfolding row_of_round round_filled bits_filled
round_wide time t state words = refl

-- bits are elements, and meet their constraint
bits_below : (w : ℕ) → AllBelow (bits_filled w)
unfolding bits_filled
bits_below w = all_range (λ x. x < modulus) (λ i. bit_at w i) 0 32 (λ i low high. omega (arith, bit_at-lt w i))

bit_zero : (x : ℕ) → x < 2 → bit field x ≡ 0
unfolding bit
bit_zero zero low = refl
bit_zero (suc zero) low = refl
bit_zero (suc (suc x)) low = absurd (omega arith)

bits_zero : (xs : List ℕ) → AllByRecursion (λ x. x < 2) xs → AllZero (map (bit field) xs)
bits_zero [] h = tt
bits_zero (x ∷ xs) h = (bit_zero x h.0, bits_zero xs h.1)

zeros_by : (n m : ℕ) (xs rest : List ℕ) → length xs ≡ n → AllZero (map (bit field) xs) → AllZero (map (bit field) (take m rest)) → AllZero (map (bit field) (take (n + m) (xs ++ rest)))
zeros_by n m [] rest long zeros more = let e : n + m ≡ m = omega (arith, long) in subst (λ (k : ℕ). AllZero (map (bit field) (take k rest))) (sym e) more
zeros_by zero m (x ∷ xs) rest long zeros more = absurd (omega (arith, long))
zeros_by (suc n) m (x ∷ xs) rest long zeros more =
    let e : suc n + m ≡ suc (n + m) = omega arith in
    subst (λ (k : ℕ). AllZero (map (bit field) (take k (x ∷ (xs ++ rest))))) (sym e) (zeros.0, zeros_by n m xs rest (omega (arith, long)) zeros.1 more)

one_word : (w m : ℕ) (rest : List ℕ) → AllZero (map (bit field) (take m rest)) → AllZero (map (bit field) (take (32 + m) (bits_filled w ++ rest)))
unfolding bits_filled
one_word w m rest more =
    zeros_by 32 m (bits_filled w) rest refl (bits_zero (bits_filled w) (all_range (λ x. x < 2) (λ i. bit_at w i) 0 32 (λ i low high. bit_at-lt w i))) more

flag_holds : (time t : ℕ) (state words : List ℕ) → AllZero (flag_constraints field (slice_index (row_of_round (round_filled time t state words)) 0 ∷ []))
unfolding flag_constraints bit row_of_round round_filled
flag_holds time t state words = (refl, (refl, tt))

-- the 256 bit columns
bits_hold : (time t : ℕ) (state words : List ℕ) → AllZero (map (bit field) (take 256 (drop 5 (row_of_round (round_filled time t state words)))))
unfolding row_of_round round_filled
bits_hold time t state words =
    one_word (slice_index state 0) 224 _ (one_word (slice_index state 1) 192 _ (one_word (slice_index state 2) 160 _ (one_word (slice_index state 4) 128 _ (one_word (slice_index state 5) 96 _ (one_word (slice_index state 6) 64 _ (one_word (slice_index words (t + 1)) 32 _ (one_word (slice_index words (t + 14)) 0 _ tt)))))))

pub round_holds : (time t : ℕ) (state words : List ℕ) → AllZero (round_constraints field (slice_index (row_of_round (round_filled time t state words))))
unfolding round_constraints
round_holds time t state words =
    let row = row_of_round (round_filled time t state words) in
    let columns : cells (slice_index row) 5 256 ≡ take 256 (drop 5 row) = cells_take row 5 256 (omega (arith, round_wide time t state words)) in
    let bits = subst (λ (xs : List ℕ). AllZero (map (bit field) xs)) (sym columns) (bits_hold time t state words) in
    all_append (λ (x : ℕ). x ≡ 0) (flag_constraints field (slice_index row 0 ∷ [])) (map (bit field) (cells (slice_index row) 5 256)) (flag_holds time t state words) bits

pub round_below : (time t : ℕ) (state words : List ℕ) → AreWords state words → time < modulus → t < 64 → AllBelow (row_of_round (round_filled time t state words))
unfolding row_of_round round_filled
round_below time t state words s low few =
    let K = halves_filled_are (round_constant t) (constant_fits t) in
    (lit< tt, (low, (omega arith, (omega (arith, K.lo), (omega (arith, K.hi, K.below), all_append (λ (x : ℕ). x < modulus) (bits_filled (slice_index state 0)) _ (bits_below (slice_index state 0)) (all_append (λ (x : ℕ). x < modulus) (bits_filled (slice_index state 1)) _ (bits_below (slice_index state 1)) (all_append (λ (x : ℕ). x < modulus) (bits_filled (slice_index state 2)) _ (bits_below (slice_index state 2)) (all_append (λ (x : ℕ). x < modulus) (bits_filled (slice_index state 4)) _ (bits_below (slice_index state 4)) (all_append (λ (x : ℕ). x < modulus) (bits_filled (slice_index state 5)) _ (bits_below (slice_index state 5)) (all_append (λ (x : ℕ). x < modulus) (bits_filled (slice_index state 6)) _ (bits_below (slice_index state 6)) (all_append (λ (x : ℕ). x < modulus) (bits_filled (slice_index words (t + 1))) _ (bits_below (slice_index words (t + 1))) (all_append (λ (x : ℕ). x < modulus) (bits_filled (slice_index words (t + 14))) _ (bits_below (slice_index words (t + 14))) (cells_below (halves_filled (slice_index state 3) ∷ halves_filled (slice_index state 7) ∷ halves_filled (slice_index words (t + 0)) ∷ halves_filled (slice_index words (t + 2)) ∷ halves_filled (slice_index words (t + 3)) ∷ halves_filled (slice_index words (t + 4)) ∷ halves_filled (slice_index words (t + 5)) ∷ halves_filled (slice_index words (t + 6)) ∷ halves_filled (slice_index words (t + 7)) ∷ halves_filled (slice_index words (t + 8)) ∷ halves_filled (slice_index words (t + 9)) ∷ halves_filled (slice_index words (t + 10)) ∷ halves_filled (slice_index words (t + 11)) ∷ halves_filled (slice_index words (t + 12)) ∷ halves_filled (slice_index words (t + 13)) ∷ halves_filled (slice_index words (t + 15)) ∷ halves_filled (slice_index (round state (round_constant t) (slice_index words (t + 0))) 0) ∷ halves_filled (slice_index (round state (round_constant t) (slice_index words (t + 0))) 4) ∷ halves_filled (slice_index words (t + 16)) ∷ []) (slice_index state 3 ∷ slice_index state 7 ∷ slice_index words (t + 0) ∷ slice_index words (t + 2) ∷ slice_index words (t + 3) ∷ slice_index words (t + 4) ∷ slice_index words (t + 5) ∷ slice_index words (t + 6) ∷ slice_index words (t + 7) ∷ slice_index words (t + 8) ∷ slice_index words (t + 9) ∷ slice_index words (t + 10) ∷ slice_index words (t + 11) ∷ slice_index words (t + 12) ∷ slice_index words (t + 13) ∷ slice_index words (t + 15) ∷ slice_index (round state (round_constant t) (slice_index words (t + 0))) 0 ∷ slice_index (round state (round_constant t) (slice_index words (t + 0))) 4 ∷ slice_index words (t + 16) ∷ []) (halves_filled_are (slice_index state 3) (s.state_fits 3), (halves_filled_are (slice_index state 7) (s.state_fits 7), (halves_filled_are (slice_index words (t + 0)) (s.words_fit (t + 0)), (halves_filled_are (slice_index words (t + 2)) (s.words_fit (t + 2)), (halves_filled_are (slice_index words (t + 3)) (s.words_fit (t + 3)), (halves_filled_are (slice_index words (t + 4)) (s.words_fit (t + 4)), (halves_filled_are (slice_index words (t + 5)) (s.words_fit (t + 5)), (halves_filled_are (slice_index words (t + 6)) (s.words_fit (t + 6)), (halves_filled_are (slice_index words (t + 7)) (s.words_fit (t + 7)), (halves_filled_are (slice_index words (t + 8)) (s.words_fit (t + 8)), (halves_filled_are (slice_index words (t + 9)) (s.words_fit (t + 9)), (halves_filled_are (slice_index words (t + 10)) (s.words_fit (t + 10)), (halves_filled_are (slice_index words (t + 11)) (s.words_fit (t + 11)), (halves_filled_are (slice_index words (t + 12)) (s.words_fit (t + 12)), (halves_filled_are (slice_index words (t + 13)) (s.words_fit (t + 13)), (halves_filled_are (slice_index words (t + 15)) (s.words_fit (t + 15)), (halves_filled_are (slice_index (round state (round_constant t) (slice_index words (t + 0))) 0) (round-lt state (round_constant t) (slice_index words (t + 0)) 0 s.state_fits), (halves_filled_are (slice_index (round state (round_constant t) (slice_index words (t + 0))) 4) (round-lt state (round_constant t) (slice_index words (t + 0)) 4 s.state_fits), (halves_filled_are (slice_index words (t + 16)) (s.words_fit (t + 16)), tt))))))))))))))))))))))))))))))))
