-- What good lookups say, and that they are good.
use Rattle.std.proofs.Common.{◌≡◌, ℕ, ◌<◌, ◌^◌, [], ◌∷◌, bit_xor, arith}
use Rattle.air_core.specs.declared.event.Event.{Event}
use Rattle.air_core.specs.Lookups.{IsXorRow, IsRangeRow, GoodEvent}

-- the value of a range lookup is below its power of two
pub range_good : (v n : ℕ) → IsRangeRow (v ∷ n ∷ []) → v < 2 ^ n
range_good v n r =
    let same_v : v ≡ r.v = let e = r.is in cc in
    let same_n : n ≡ r.n = let e = r.is in cc in
    rw (same_v, same_n) r.below

-- what a xor lookup says
pub record XorGood (e f g : ℕ) : Type 0 where
  pub left : e < 256
  pub right : f < 256
  pub xor : g ≡ bit_xor e f

pub xor_good : (e f g : ℕ) → IsXorRow (e ∷ f ∷ g ∷ []) → XorGood e f g
xor_good e f g r =
    let same_e : e ≡ r.x = let h = r.is in cc in
    let same_f : f ≡ r.y = let h = r.is in cc in
    let same_g : g ≡ bit_xor r.x r.y = let h = r.is in cc in
    record {
      left = rw same_e r.x_byte;
      right = rw same_f r.y_byte;
      xor = rw (same_e, same_f) same_g;
    }

-- an event on the bus of one table is good if its tuple is a row there
pub good_xor : (e : Event) → e.bus ≡ 3 → IsXorRow e.tuple → GoodEvent e
good_xor e b row =
    record { program = λ h. absurd (omega arith); xor = λ h. row; range = λ h. absurd (omega arith); constant = λ h. absurd (omega arith) }

pub good_range : (e : Event) → e.bus ≡ 4 → IsRangeRow e.tuple → GoodEvent e
good_range e b row =
    record { program = λ h. absurd (omega arith); xor = λ h. absurd (omega arith); range = λ h. row; constant = λ h. absurd (omega arith) }
