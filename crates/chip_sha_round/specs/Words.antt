-- The words of a row that its bits make, and their functions.
use Rattle.air_core.specs.Ring.{field}
use Rattle.std.specs.Prelude.{ℕ}
use Rattle.gadget_bits.specs.Bits.{halves_by, big_sigma_bits, small_sigma_bits, choice_bits, majority_bits}
use Rattle.chip_sha_round.specs.declared.words.Words.{Words}
use Rattle.chip_sha_round.specs.Round.{RoundRow}

unfoldable pub words_of : RoundRow ℕ → Words
words_of r = record {
  a = halves_by field r.a;
  b = halves_by field r.b;
  c = halves_by field r.c;
  e = halves_by field r.e;
  f = halves_by field r.f;
  g = halves_by field r.g;
  w1 = halves_by field r.w1;
  w14 = halves_by field r.w14;
  big_sigma0 = halves_by field (big_sigma_bits field 2 13 22 r.a);
  big_sigma1 = halves_by field (big_sigma_bits field 6 11 25 r.e);
  choice = halves_by field (choice_bits field r.e r.f r.g);
  majority = halves_by field (majority_bits field r.a r.b r.c);
  small_sigma0 = halves_by field (small_sigma_bits field 7 18 3 r.w1);
  small_sigma1 = halves_by field (small_sigma_bits field 17 19 10 r.w14);
}
