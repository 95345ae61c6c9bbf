-- Carries over any number of limbs, from the field to whole numbers and back.
use Rattle.std.proofs.Common.{◌≡◌, ℕ, ◌+◌, ◌*◌, ◌/◌, ◌%◌, ◌^◌, ◌<◌, ◌≤◌, List, [], ◌∷◌, length, refl, arith}
use Rattle.std.proofs.Math.Nat.{pow-suc}
use Rattle.vm_field.specs.Field.{field_add, field_sub, field_mul}
use Rattle.vm_field.proofs.Lift.{lift_256}
use Rattle.vm_isa.specs.Words.{IsBytes}
use Rattle.gadget_limbs.specs.Number.{number_of}
use Rattle.gadget_products.specs.Carry.{carry_out, carries, last_carry}
use Rattle.gadget_products.specs.Laws.{AreSums, Below11, CarriesAre}
use Rattle.air_core.specs.Ring.{field}

-- one limb
limb : (s k q : ℕ) → s ≤ 520200 → k < 2048 → q < 256 → (carry_out field) s k q < 2048 → s + k ≡ q + 256 * (carry_out field) s k q
unfolding carry_out
limb s k q p r b small =
    let out = field_mul (field_sub (field_add s k) q) 2005401601 in
    let whole : field_add s k ≡ q + 256 * out = lift_256 out (field_add s k) q refl (omega arith) (omega arith) in
    omega arith

-- all limbs
pub chain_law : (k : ℕ) (ss qs : List ℕ) → length ss ≡ length qs → AreSums ss → IsBytes qs → k < 2048 → Below11 ((carries field) k ss qs)
    → number_of ss + k ≡ number_of qs + 256 ^ length qs * (last_carry field) k ss qs
unfolding carries last_carry
chain_law k [] [] e bs bq low h = omega arith
chain_law k (s ∷ ss) (q ∷ qs) e bs bq low h =
    let here = limb s k q bs.0 low bq.0 h.0 in
    let rest = chain_law ((carry_out field) s k q) ss qs (omega arith) bs.1 bq.1 h.0 h.1 in
    rw pow-suc (omega (arith, here, rest))
chain_law k [] (q ∷ qs) e bs bq low h = absurd (omega arith)
chain_law k (s ∷ ss) [] e bs bq low h = absurd (omega arith)

-- the carry of the right limb is the carry of whole numbers
carry_is : (s k q : ℕ) → s ≤ 520200 → k < 2048 → q ≡ (s + k) % 256 → (carry_out field) s k q ≡ (s + k) / 256
unfolding carry_out
carry_is s k q p r e = omega arith

limb_parts : (s q k S Q P out : ℕ) → q < 256 → s + 256 * S + k ≡ q + 256 * Q + P * 256 * out → (q ≡ (s + k) % 256) × (S + (s + k) / 256 ≡ Q + P * out)
limb_parts s q k S Q P out b e =
    let regroup : P * 256 * out ≡ 256 * (P * out) = omega arith in
    (omega arith, omega arith)

pub chain_back : (k out : ℕ) (ss qs : List ℕ) → length ss ≡ length qs → AreSums ss → IsBytes qs → k < 2048
    → number_of ss + k ≡ number_of qs + 256 ^ length qs * out → CarriesAre k ss qs out
unfolding carries last_carry
chain_back k out [] [] e bs bq low h = record { small = tt; last = omega arith }
chain_back k out (s ∷ ss) (q ∷ qs) e bs bq low h =
    let at : s + 256 * number_of ss + k ≡ q + 256 * number_of qs + 256 ^ length qs * 256 * out = rw pow-suc at h in
    let parts = limb_parts s q k (number_of ss) (number_of qs) (256 ^ length qs) out bq.0 at in
    let is = carry_is s k q bs.0 low parts.0 in
    let small : (carry_out field) s k q < 2048 = omega (arith, bs.0, is) in
    let rest = chain_back ((carry_out field) s k q) out ss qs (omega arith) bs.1 bq.1 small (omega (arith, is, parts.1)) in
    record { small = (small, rest.small); last = rest.last }
chain_back k out [] (q ∷ qs) e bs bq low h = absurd (omega arith)
chain_back k out (s ∷ ss) [] e bs bq low h = absurd (omega arith)

pub last_small : (k : ℕ) (ss qs : List ℕ) → k < 2048 → Below11 ((carries field) k ss qs) → (last_carry field) k ss qs < 2048
unfolding carries last_carry
last_small k (s ∷ ss) (q ∷ qs) low h = last_small ((carry_out field) s k q) ss qs h.0 h.1
last_small k [] [] low h = low
last_small k [] (q ∷ qs) low h = low
last_small k (s ∷ ss) [] low h = low
