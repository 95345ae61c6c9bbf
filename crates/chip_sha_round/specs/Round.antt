-- The sheet of one round of SHA-256: 299 columns, 258 constraints, 15 events. A row receives a stage, the eight
-- working variables and the sixteen words of the schedule that come next, and sends the next stage.
use Rattle.std.specs.Prelude.{ℕ, List, [], ◌∷◌, ◌++◌, map}
use Rattle.air_core.specs.declared.bus.TheConstants.{SHA_CONSTANTS, FIRST_PRIVATE}
use Rattle.air_core.specs.declared.event.Side.TheVariants.{Send, Receive}
use Rattle.air_core.specs.First.{bit}
use Rattle.air_core.specs.Flags.{flag_constraints}
use Rattle.air_core.specs.Ring.{Ring, cells}
use Rattle.gadget_bits.specs.declared.halves.Halves.{Halves}
use Rattle.gadget_bits.specs.Bits.{halves_by, halves_at, big_sigma_bits, small_sigma_bits, choice_bits, majority_bits}
use Rattle.gadget_bits.specs.Stage.{stage_tuple}
use Rattle.gadget_bits.specs.Sum.{sum_lines}

-- the columns of a row: the flag, the time, the round and its constant; words by their 32 bits and by their halves;
-- the three words that the round makes
pub record RoundRow (A : Type 0) : Type 0 where
  pub flag : A
  pub time : A
  pub round : A
  pub constant : Halves A
  pub a : List A
  pub b : List A
  pub c : List A
  pub e : List A
  pub f : List A
  pub g : List A
  pub w1 : List A
  pub w14 : List A
  pub d : Halves A
  pub h : Halves A
  pub w0 : Halves A
  pub w2 : Halves A
  pub w3 : Halves A
  pub w4 : Halves A
  pub w5 : Halves A
  pub w6 : Halves A
  pub w7 : Halves A
  pub w8 : Halves A
  pub w9 : Halves A
  pub w10 : Halves A
  pub w11 : Halves A
  pub w12 : Halves A
  pub w13 : Halves A
  pub w15 : Halves A
  pub new_a : Halves A
  pub new_e : Halves A
  pub new_w : Halves A

-- a row by what stands at a place
unfoldable pub round_row : {A : Type 0} → (ℕ → A) → RoundRow A
round_row at = record {
  flag = at 0;
  time = at 1;
  round = at 2;
  constant = halves_at at 3;
  a = cells at 5 32;
  b = cells at 37 32;
  c = cells at 69 32;
  e = cells at 101 32;
  f = cells at 133 32;
  g = cells at 165 32;
  w1 = cells at 197 32;
  w14 = cells at 229 32;
  d = halves_at at 261;
  h = halves_at at 263;
  w0 = halves_at at 265;
  w2 = halves_at at 267;
  w3 = halves_at at 269;
  w4 = halves_at at 271;
  w5 = halves_at at 273;
  w6 = halves_at at 275;
  w7 = halves_at at 277;
  w8 = halves_at at 279;
  w9 = halves_at at 281;
  w10 = halves_at at 283;
  w11 = halves_at at 285;
  w12 = halves_at at 287;
  w13 = halves_at at 289;
  w15 = halves_at at 291;
  new_a = halves_at at 293;
  new_e = halves_at at 295;
  new_w = halves_at at 297;
}

-- What passes from row to row.

-- the stage before the round: a to h, and the next sixteen words
unfoldable pub before_of : {A E : Type 0} → Ring A E → RoundRow A → List (Halves A)
before_of o r =
    halves_by o r.a ∷ halves_by o r.b ∷ halves_by o r.c ∷ r.d ∷ halves_by o r.e ∷ halves_by o r.f ∷ halves_by o r.g ∷ r.h
    ∷ r.w0 ∷ halves_by o r.w1 ∷ r.w2 ∷ r.w3 ∷ r.w4 ∷ r.w5 ∷ r.w6 ∷ r.w7 ∷ r.w8 ∷ r.w9 ∷ r.w10 ∷ r.w11 ∷ r.w12 ∷ r.w13 ∷ halves_by o r.w14 ∷ r.w15 ∷ []

-- the stage after it
unfoldable pub after_of : {A E : Type 0} → Ring A E → RoundRow A → List (Halves A)
after_of o r =
    r.new_a ∷ halves_by o r.a ∷ halves_by o r.b ∷ halves_by o r.c ∷ r.new_e ∷ halves_by o r.e ∷ halves_by o r.f ∷ halves_by o r.g
    ∷ halves_by o r.w1 ∷ r.w2 ∷ r.w3 ∷ r.w4 ∷ r.w5 ∷ r.w6 ∷ r.w7 ∷ r.w8 ∷ r.w9 ∷ r.w10 ∷ r.w11 ∷ r.w12 ∷ r.w13 ∷ halves_by o r.w14 ∷ r.w15 ∷ r.new_w ∷ []

-- The three sums.

-- h + Sigma1(e) + Ch(e, f, g) + K + w0 + Sigma0(a) + Maj(a, b, c)
unfoldable pub a_words : {A E : Type 0} → Ring A E → RoundRow A → List (Halves A)
a_words o r =
    r.h ∷ halves_by o (big_sigma_bits o 6 11 25 r.e) ∷ halves_by o (choice_bits o r.e r.f r.g) ∷ r.constant ∷ r.w0
    ∷ halves_by o (big_sigma_bits o 2 13 22 r.a) ∷ halves_by o (majority_bits o r.a r.b r.c) ∷ []

-- d + h + Sigma1(e) + Ch(e, f, g) + K + w0
unfoldable pub e_words : {A E : Type 0} → Ring A E → RoundRow A → List (Halves A)
e_words o r = r.d ∷ r.h ∷ halves_by o (big_sigma_bits o 6 11 25 r.e) ∷ halves_by o (choice_bits o r.e r.f r.g) ∷ r.constant ∷ r.w0 ∷ []

-- sigma1(w14) + w9 + sigma0(w1) + w0
unfoldable pub w_words : {A E : Type 0} → Ring A E → RoundRow A → List (Halves A)
w_words o r = halves_by o (small_sigma_bits o 17 19 10 r.w14) ∷ r.w9 ∷ halves_by o (small_sigma_bits o 7 18 3 r.w1) ∷ r.w0 ∷ []

abbrev pub sums_lines : {A E : Type 0} → Ring A E → RoundRow A → List E
sums_lines o r = sum_lines o r.flag (a_words o r) r.new_a ++ (sum_lines o r.flag (e_words o r) r.new_e ++ sum_lines o r.flag (w_words o r) r.new_w)

-- The table.

-- the constant of the round, the stage before it, and the stage after it
unfoldable pub stage_lines : {A E : Type 0} → Ring A E → RoundRow A → List E
stage_lines o r =
    o.event SHA_CONSTANTS Send r.flag (r.round ∷ r.constant.lo ∷ r.constant.hi ∷ [])
    ∷ o.event FIRST_PRIVATE Receive r.flag (stage_tuple r.time r.round (before_of o r))
    ∷ o.event FIRST_PRIVATE Send r.flag (stage_tuple r.time (o.plus r.round (o.number 1)) (after_of o r))
    ∷ []

unfoldable pub round_lines : {A E : Type 0} → Ring A E → RoundRow A → List E
round_lines o r = sums_lines o r ++ stage_lines o r

-- 0 the flag, 1 their sum, 2 to 257 the bit columns
unfoldable pub round_constraints : {A E : Type 0} → Ring A E → (ℕ → A) → List A
round_constraints o at = flag_constraints o (at 0 ∷ []) ++ map (bit o) (cells at 5 256)
