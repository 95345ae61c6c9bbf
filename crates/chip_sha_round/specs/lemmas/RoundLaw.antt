-- A row that holds, whose lookups are good and that receives words, is a round on them.
use Rattle.std.proofs.Common.{◌≡◌, ℕ, ◌+◌, ◌-◌, ◌%◌, ◌^◌, ◌<◌, List, [], ◌∷◌, slice_index, sym, ap, subst, ◌∙◌, arith, lit≤}
use Rattle.sha_words.specs.Sha256.{big_sigma0, big_sigma1, ch, maj, next_word, round, round_constant, small_sigma0, small_sigma1, temp1, temp2}
use Rattle.gadget_bits.specs.Bits.{HalvesOf, BitsOf, halves_by}
use Rattle.gadget_bits.specs.Sum.{AllHalves, SumGood}
use Rattle.gadget_bits.proofs.BitLaws.{bits_of_halves, big_sigma0_halves, big_sigma1_halves, small_sigma0_halves, small_sigma1_halves, choice_halves, majority_halves}
use Rattle.gadget_bits.proofs.StageLaws.{moved, stage_numbers}
use Rattle.gadget_bits.proofs.SumLaws.{sum_law}
use Rattle.air_core.specs.Ring.{field}
use Rattle.chip_sha_round.specs.Round.{RoundRow, before_of, after_of, a_words, e_words, w_words}

-- the bit columns are 0 or 1
pub record BitColumns (r : RoundRow ℕ) : Type 0 where
  pub a : (i : ℕ) → slice_index r.a i < 2
  pub b : (i : ℕ) → slice_index r.b i < 2
  pub c : (i : ℕ) → slice_index r.c i < 2
  pub e : (i : ℕ) → slice_index r.e i < 2
  pub f : (i : ℕ) → slice_index r.f i < 2
  pub g : (i : ℕ) → slice_index r.g i < 2
  pub w1 : (i : ℕ) → slice_index r.w1 i < 2
  pub w14 : (i : ℕ) → slice_index r.w14 i < 2

-- the lookups of the three sums are good
pub record SumsGood (r : RoundRow ℕ) : Type 0 where
  pub a : SumGood (a_words field r) r.new_a
  pub e : SumGood (e_words field r) r.new_e
  pub w : SumGood (w_words field r) r.new_w

-- sums of words, over variables
pub seven : (h s c k w t m : ℕ) → (h + (s + (c + (k + (w + (t + (m + 0))))))) % 2 ^ 32 ≡ ((h + s + c + k + w) % 2 ^ 32 + (t + m) % 2 ^ 32) % 2 ^ 32
seven h s c k w t m = omega arith

pub six : (d h s c k w : ℕ) → (d + (h + (s + (c + (k + (w + 0)))))) % 2 ^ 32 ≡ (d + (h + s + c + k + w) % 2 ^ 32) % 2 ^ 32
six d h s c k w = omega arith

pub four : (t w s v : ℕ) → (t + (w + (s + (v + 0)))) % 2 ^ 32 ≡ (t + w + s + v) % 2 ^ 32
four t w s v = omega arith

module _ (r : RoundRow ℕ) (a b c d e f g h w0 w1 w2 w3 w4 w5 w6 w7 w8 w9 w10 w11 w12 w13 w14 w15 k : ℕ) (bits : BitColumns r) (sums : SumsGood r) (constant : HalvesOf r.constant k)
    (stage : AllHalves ((before_of field r)) (a ∷ b ∷ c ∷ d ∷ e ∷ f ∷ g ∷ h ∷ w0 ∷ w1 ∷ w2 ∷ w3 ∷ w4 ∷ w5 ∷ w6 ∷ w7 ∷ w8 ∷ w9 ∷ w10 ∷ w11 ∷ w12 ∷ w13 ∷ w14 ∷ w15 ∷ [])) where
  at_a : HalvesOf (halves_by field r.a) a
  unfolding before_of
  at_a = stage.0

  at_b : HalvesOf (halves_by field r.b) b
  unfolding before_of
  at_b = stage.1.0

  at_c : HalvesOf (halves_by field r.c) c
  unfolding before_of
  at_c = stage.1.1.0

  at_d : HalvesOf (r.d) d
  unfolding before_of
  at_d = stage.1.1.1.0

  at_e : HalvesOf (halves_by field r.e) e
  unfolding before_of
  at_e = stage.1.1.1.1.0

  at_f : HalvesOf (halves_by field r.f) f
  unfolding before_of
  at_f = stage.1.1.1.1.1.0

  at_g : HalvesOf (halves_by field r.g) g
  unfolding before_of
  at_g = stage.1.1.1.1.1.1.0

  at_h : HalvesOf (r.h) h
  unfolding before_of
  at_h = stage.1.1.1.1.1.1.1.0

  at_w0 : HalvesOf (r.w0) w0
  unfolding before_of
  at_w0 = stage.1.1.1.1.1.1.1.1.0

  at_w1 : HalvesOf (halves_by field r.w1) w1
  unfolding before_of
  at_w1 = stage.1.1.1.1.1.1.1.1.1.0

  at_w2 : HalvesOf (r.w2) w2
  unfolding before_of
  at_w2 = stage.1.1.1.1.1.1.1.1.1.1.0

  at_w3 : HalvesOf (r.w3) w3
  unfolding before_of
  at_w3 = stage.1.1.1.1.1.1.1.1.1.1.1.0

  at_w4 : HalvesOf (r.w4) w4
  unfolding before_of
  at_w4 = stage.1.1.1.1.1.1.1.1.1.1.1.1.0

  at_w5 : HalvesOf (r.w5) w5
  unfolding before_of
  at_w5 = stage.1.1.1.1.1.1.1.1.1.1.1.1.1.0

  at_w6 : HalvesOf (r.w6) w6
  unfolding before_of
  at_w6 = stage.1.1.1.1.1.1.1.1.1.1.1.1.1.1.0

  at_w7 : HalvesOf (r.w7) w7
  unfolding before_of
  at_w7 = stage.1.1.1.1.1.1.1.1.1.1.1.1.1.1.1.0

  at_w8 : HalvesOf (r.w8) w8
  unfolding before_of
  at_w8 = stage.1.1.1.1.1.1.1.1.1.1.1.1.1.1.1.1.0

  at_w9 : HalvesOf (r.w9) w9
  unfolding before_of
  at_w9 = stage.1.1.1.1.1.1.1.1.1.1.1.1.1.1.1.1.1.0

  at_w10 : HalvesOf (r.w10) w10
  unfolding before_of
  at_w10 = stage.1.1.1.1.1.1.1.1.1.1.1.1.1.1.1.1.1.1.0

  at_w11 : HalvesOf (r.w11) w11
  unfolding before_of
  at_w11 = stage.1.1.1.1.1.1.1.1.1.1.1.1.1.1.1.1.1.1.1.0

  at_w12 : HalvesOf (r.w12) w12
  unfolding before_of
  at_w12 = stage.1.1.1.1.1.1.1.1.1.1.1.1.1.1.1.1.1.1.1.1.0

  at_w13 : HalvesOf (r.w13) w13
  unfolding before_of
  at_w13 = stage.1.1.1.1.1.1.1.1.1.1.1.1.1.1.1.1.1.1.1.1.1.0

  at_w14 : HalvesOf (halves_by field r.w14) w14
  unfolding before_of
  at_w14 = stage.1.1.1.1.1.1.1.1.1.1.1.1.1.1.1.1.1.1.1.1.1.1.0

  at_w15 : HalvesOf (r.w15) w15
  unfolding before_of
  at_w15 = stage.1.1.1.1.1.1.1.1.1.1.1.1.1.1.1.1.1.1.1.1.1.1.1.0

  bits_a : BitsOf r.a a
  bits_a = bits_of_halves r.a a bits.a at_a

  bits_b : BitsOf r.b b
  bits_b = bits_of_halves r.b b bits.b at_b

  bits_c : BitsOf r.c c
  bits_c = bits_of_halves r.c c bits.c at_c

  bits_e : BitsOf r.e e
  bits_e = bits_of_halves r.e e bits.e at_e

  bits_f : BitsOf r.f f
  bits_f = bits_of_halves r.f f bits.f at_f

  bits_g : BitsOf r.g g
  bits_g = bits_of_halves r.g g bits.g at_g

  bits_w1 : BitsOf r.w1 w1
  bits_w1 = bits_of_halves r.w1 w1 bits.w1 at_w1

  bits_w14 : BitsOf r.w14 w14
  bits_w14 = bits_of_halves r.w14 w14 bits.w14 at_w14

  new_a_is : HalvesOf r.new_a ((temp1 e f g h k w0 + temp2 a b c) % 2 ^ 32)
  unfolding a_words
  new_a_is = subst (HalvesOf r.new_a) (seven h (big_sigma1 e) (ch e f g) k w0 (big_sigma0 a) (maj a b c))
      (sum_law (a_words field r) (h ∷ big_sigma1 e ∷ ch e f g ∷ k ∷ w0 ∷ big_sigma0 a ∷ maj a b c ∷ []) r.new_a (
        at_h,
        (
          big_sigma1_halves r.e e at_e.below bits_e,
          (
            choice_halves r.e r.f r.g e f g at_e.below at_f.below at_g.below bits_e bits_f bits_g,
            (
              constant,
              (
                at_w0,
                (big_sigma0_halves r.a a at_a.below bits_a, (majority_halves r.a r.b r.c a b c at_a.below at_b.below at_c.below bits_a bits_b bits_c, tt)),
              ),
            ),
          ),
        ),
      )
      (lit≤ tt) sums.a)

  new_e_is : HalvesOf r.new_e ((d + temp1 e f g h k w0) % 2 ^ 32)
  unfolding e_words
  new_e_is = subst (HalvesOf r.new_e) (six d h (big_sigma1 e) (ch e f g) k w0)
      (sum_law (e_words field r) (d ∷ h ∷ big_sigma1 e ∷ ch e f g ∷ k ∷ w0 ∷ []) r.new_e
      (at_d, (at_h, (big_sigma1_halves r.e e at_e.below bits_e, (choice_halves r.e r.f r.g e f g at_e.below at_f.below at_g.below bits_e bits_f bits_g, (constant, (at_w0, tt))))))
      (lit≤ tt) sums.e)

  new_w_is : HalvesOf r.new_w ((small_sigma1 w14 + w9 + small_sigma0 w1 + w0) % 2 ^ 32)
  unfolding w_words
  new_w_is = subst (HalvesOf r.new_w) (four (small_sigma1 w14) w9 (small_sigma0 w1) w0)
      (sum_law (w_words field r) (small_sigma1 w14 ∷ w9 ∷ small_sigma0 w1 ∷ w0 ∷ []) r.new_w
      (small_sigma1_halves r.w14 w14 at_w14.below bits_w14, (at_w9, (small_sigma0_halves r.w1 w1 at_w1.below bits_w1, (at_w0, tt))))
      (lit≤ tt) sums.w)

  pub after_is : AllHalves ((after_of field r)) ((temp1 e f g h k w0 + temp2 a b c) % 2 ^ 32 ∷ a ∷ b ∷ c ∷ (d + temp1 e f g h k w0) % 2 ^ 32 ∷ e ∷ f ∷ g ∷ w1 ∷ w2 ∷ w3 ∷ w4 ∷ w5 ∷ w6 ∷ w7 ∷ w8 ∷ w9 ∷ w10 ∷ w11 ∷ w12 ∷ w13 ∷ w14 ∷ w15 ∷ (small_sigma1 w14 + w9 + small_sigma0 w1 + w0) % 2 ^ 32 ∷ [])
  unfolding after_of
  after_is = (new_a_is, (at_a, (at_b, (at_c, (new_e_is, (at_e, (at_f, (at_g, (at_w1, (at_w2, (at_w3, (at_w4, (at_w5, (at_w6, (at_w7, (at_w8, (at_w9, (at_w10, (at_w11, (at_w12, (at_w13, (at_w14, (at_w15, (new_w_is, tt))))))))))))))))))))))))

pub next_is : (words : List ℕ) (t : ℕ) → slice_index words (t + 16) ≡ next_word words (t + 16)
    → (small_sigma1 (slice_index words (t + 14)) + slice_index words (t + 9) + small_sigma0 (slice_index words (t + 1)) + slice_index words (t + 0)) % 2 ^ 32 ≡ slice_index words (t + 1 + 15)
unfolding next_word
next_is words t e =
    let p14 : t + 16 - 2 ≡ t + 14 = omega arith in
    let p9 : t + 16 - 7 ≡ t + 9 = omega arith in
    let p1 : t + 16 - 15 ≡ t + 1 = omega arith in
    let p0 : t + 16 - 16 ≡ t + 0 = omega arith in
    let last : t + 16 ≡ t + 1 + 15 = omega arith in
    sym (λ i. (small_sigma1 (slice_index words (p14 i)) + slice_index words (p9 i) + small_sigma0 (slice_index words (p1 i)) + slice_index words (p0 i)) % 2 ^ 32)
    ∙ sym e ∙ ap (slice_index words) last

-- a row is one round
pub round_law : (r : RoundRow ℕ) (state words : List ℕ) (t : ℕ) → BitColumns r → SumsGood r → HalvesOf r.constant (round_constant t) → slice_index words (t + 16) ≡ next_word words (t + 16)
    → AllHalves ((before_of field r)) (stage_numbers state words t)
    → AllHalves ((after_of field r)) (stage_numbers (round state (round_constant t) (slice_index words (t + 0))) words (t + 1))
unfolding after_of round
round_law r state words t bits sums constant next stage =
    let all = after_is r (slice_index state 0) (slice_index state 1) (slice_index state 2) (slice_index state 3) (slice_index state 4) (slice_index state 5) (slice_index state 6) (slice_index state 7) (slice_index words (t + 0)) (slice_index words (t + 1)) (slice_index words (t + 2)) (slice_index words (t + 3)) (slice_index words (t + 4)) (slice_index words (t + 5)) (slice_index words (t + 6)) (slice_index words (t + 7)) (slice_index words (t + 8)) (slice_index words (t + 9)) (slice_index words (t + 10)) (slice_index words (t + 11)) (slice_index words (t + 12)) (slice_index words (t + 13)) (slice_index words (t + 14)) (slice_index words (t + 15)) (round_constant t) bits sums constant stage in
    (all.0, (all.1.0, (all.1.1.0, (all.1.1.1.0, (all.1.1.1.1.0, (all.1.1.1.1.1.0, (all.1.1.1.1.1.1.0, (all.1.1.1.1.1.1.1.0, (moved (halves_by field r.w1) words (t + 1) (t + 1 + 0) (omega arith) all.1.1.1.1.1.1.1.1.0, (moved (r.w2) words (t + 2) (t + 1 + 1) (omega arith) all.1.1.1.1.1.1.1.1.1.0, (moved (r.w3) words (t + 3) (t + 1 + 2) (omega arith) all.1.1.1.1.1.1.1.1.1.1.0, (moved (r.w4) words (t + 4) (t + 1 + 3) (omega arith) all.1.1.1.1.1.1.1.1.1.1.1.0, (moved (r.w5) words (t + 5) (t + 1 + 4) (omega arith) all.1.1.1.1.1.1.1.1.1.1.1.1.0, (moved (r.w6) words (t + 6) (t + 1 + 5) (omega arith) all.1.1.1.1.1.1.1.1.1.1.1.1.1.0, (moved (r.w7) words (t + 7) (t + 1 + 6) (omega arith) all.1.1.1.1.1.1.1.1.1.1.1.1.1.1.0, (moved (r.w8) words (t + 8) (t + 1 + 7) (omega arith) all.1.1.1.1.1.1.1.1.1.1.1.1.1.1.1.0, (moved (r.w9) words (t + 9) (t + 1 + 8) (omega arith) all.1.1.1.1.1.1.1.1.1.1.1.1.1.1.1.1.0, (moved (r.w10) words (t + 10) (t + 1 + 9) (omega arith) all.1.1.1.1.1.1.1.1.1.1.1.1.1.1.1.1.1.0, (moved (r.w11) words (t + 11) (t + 1 + 10) (omega arith) all.1.1.1.1.1.1.1.1.1.1.1.1.1.1.1.1.1.1.0, (moved (r.w12) words (t + 12) (t + 1 + 11) (omega arith) all.1.1.1.1.1.1.1.1.1.1.1.1.1.1.1.1.1.1.1.0, (moved (r.w13) words (t + 13) (t + 1 + 12) (omega arith) all.1.1.1.1.1.1.1.1.1.1.1.1.1.1.1.1.1.1.1.1.0, (moved (halves_by field r.w14) words (t + 14) (t + 1 + 13) (omega arith) all.1.1.1.1.1.1.1.1.1.1.1.1.1.1.1.1.1.1.1.1.1.0, (moved (r.w15) words (t + 15) (t + 1 + 14) (omega arith) all.1.1.1.1.1.1.1.1.1.1.1.1.1.1.1.1.1.1.1.1.1.1.0, (subst (HalvesOf r.new_w) (next_is words t next) all.1.1.1.1.1.1.1.1.1.1.1.1.1.1.1.1.1.1.1.1.1.1.1.0, tt))))))))))))))))))))))))
