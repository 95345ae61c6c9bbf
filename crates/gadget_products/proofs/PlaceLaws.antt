-- The places of a product, in the field and as whole numbers.
use Rattle.std.proofs.Common.{◌≡◌, ℕ, zero, suc, ◌+◌, ◌*◌, ◌%◌, ◌^◌, ◌<◌, ◌≤◌, List, [], ◌∷◌, length, drop, slice_index, refl, ap, arith}
use Rattle.std.proofs.Math.Nat.{pow-suc}
use Rattle.std.proofs.lemmas.Nat.{mul-le}
use Rattle.std.specs.List.{AllByRecursion}
use Rattle.vm_field.specs.Field.{field_add}
use Rattle.vm_isa.specs.Words.{IsBytes}
use Rattle.gadget_limbs.specs.Number.{number_of}
use Rattle.gadget_limbs.proofs.LimbsLaws.{byte_at}
use Rattle.gadget_products.specs.Product.{place, places}
use Rattle.air_core.specs.Ring.{field}

-- ---- whole numbers

pub whole_place : List ℕ → List ℕ → ℕ → ℕ
whole_place [] cs i = 0
whole_place (b ∷ bs) cs zero = b * slice_index cs 0
whole_place (b ∷ bs) cs (suc i) = b * slice_index cs (suc i) + whole_place bs cs i

pub whole_places : List ℕ → List ℕ → ℕ → ℕ → List ℕ
whole_places bs cs i zero = []
whole_places bs cs i (suc n) = whole_place bs cs i ∷ whole_places bs cs (suc i) n

product_small : (b c : ℕ) → b < 256 → c < 256 → b * c ≤ 65025
product_small b c p q = mul-le b c 255 255 (omega arith) (omega arith)

-- of bytes, each place is at most the sum of as many products as there are limbs
place_small : (bs cs : List ℕ) (i : ℕ) → IsBytes bs → IsBytes cs → whole_place bs cs i ≤ 65025 * length bs
unfolding whole_place
place_small [] cs i p q = omega arith
place_small (b ∷ bs) cs zero p q = omega (arith, product_small b (slice_index cs 0) p.0 (byte_at cs 0 q))
place_small (b ∷ bs) cs (suc i) p q =
    omega (arith, product_small b (slice_index cs (suc i)) p.0 (byte_at cs (suc i) q), place_small bs cs i p.1 q)

field_sum : (x y s f : ℕ) → x ≤ 65025 → s ≤ 520200 → f ≡ s → field_add (x % 2013265921) f ≡ x + s
field_sum x y s f p q e = omega arith

-- and is that of the field
place_is : (bs cs : List ℕ) (i : ℕ) → IsBytes bs → IsBytes cs → length bs ≤ 8 → (place field) bs cs i ≡ whole_place bs cs i
unfolding place whole_place
place_is [] cs i p q few = refl
place_is (b ∷ bs) cs zero p q few = omega (arith, product_small b (slice_index cs 0) p.0 (byte_at cs 0 q))
place_is (b ∷ bs) cs (suc i) p q few =
    field_sum (b * slice_index cs (suc i)) 0 (whole_place bs cs i) ((place field) bs cs i) (product_small b (slice_index cs (suc i)) p.0 (byte_at cs (suc i) q))
    (omega (arith, place_small bs cs i p.1 q)) (place_is bs cs i p.1 q (omega arith))

pub places_are : (bs cs : List ℕ) (i n : ℕ) → IsBytes bs → IsBytes cs → length bs ≤ 8 → (places field) bs cs i n ≡ whole_places bs cs i n
unfolding places whole_places
places_are bs cs i zero p q few = refl
places_are bs cs i (suc n) p q few = rw (place_is bs cs i p q few, places_are bs cs (suc i) n p q few) refl

-- m products of bytes are at most 65025 * m
pub places_small : (m : ℕ) (bs cs : List ℕ) (i n : ℕ) → IsBytes bs → IsBytes cs → length bs ≤ m → AllByRecursion (λ s. s ≤ 65025 * m) (whole_places bs cs i n)
unfolding whole_places
places_small m bs cs i zero p q few = tt
places_small m bs cs i (suc n) p q few = (omega (arith, place_small bs cs i p q), places_small m bs cs (suc i) n p q few)

pub places_long : (bs cs : List ℕ) (i n : ℕ) → length (whole_places bs cs i n) ≡ n
unfolding whole_places
places_long bs cs i zero = refl
places_long bs cs i (suc n) = omega (arith, places_long bs cs (suc i) n)

-- ---- the product

-- the number of n limbs from limb i on
part : List ℕ → ℕ → ℕ → ℕ
part cs i zero = 0
part cs i (suc n) = slice_index cs i + 256 * part cs (suc i) n

-- a limb below all the others adds its product with each limb
shifted : (b : ℕ) (bs cs : List ℕ) (i n : ℕ) → number_of (whole_places (b ∷ bs) cs (suc i) n) ≡ b * part cs (suc i) n + number_of (whole_places bs cs i n)
unfolding whole_places whole_place part
shifted b bs cs i zero = omega arith
shifted b bs cs i (suc n) = omega (arith, shifted b bs cs (suc i) n)

-- the limbs from limb n on
pub limbs_from : List ℕ → ℕ → ℕ
limbs_from cs n = number_of (drop n cs)

part_suc : (c : ℕ) (cs : List ℕ) (i n : ℕ) → part (c ∷ cs) (suc i) n ≡ part cs i n
unfolding part
part_suc c cs i zero = refl
part_suc c cs i (suc n) = omega (arith, part_suc c cs (suc i) n)

part_none : (i n : ℕ) → part [] i n ≡ 0
unfolding part
part_none i zero = refl
part_none i (suc n) = omega (arith, part_none (suc i) n)

part_is : (cs : List ℕ) (n : ℕ) → number_of cs ≡ part cs 0 n + 256 ^ n * limbs_from cs n
unfolding part limbs_from
part_is cs zero = omega arith
part_is [] (suc n) = omega (arith, part_none 0 (suc n))
part_is (c ∷ cs) (suc n) = rw (pow-suc, part_suc c cs 0 n) (omega (arith, part_is cs n))

-- what the places from n on add, in units of 256^n
pub above : List ℕ → List ℕ → ℕ → ℕ
above [] cs n = 0
above (b ∷ bs) cs zero = number_of (b ∷ bs) * number_of cs
above (b ∷ bs) cs (suc n) = b * limbs_from cs (suc n) + above bs cs n

-- the product of two numbers by the n lowest places
no_places : (cs : List ℕ) (i n : ℕ) → number_of (whole_places [] cs i n) ≡ 0
unfolding whole_places whole_place
no_places cs i zero = refl
no_places cs i (suc n) = omega (arith, no_places cs (suc i) n)

-- over numbers: N is cut behind n limbs, and X is a limb shorter
product_step : (b X N c0 P L Pn A E : ℕ) → N ≡ c0 + 256 * P + E * 256 * L → X * N ≡ Pn + E * A
    → (b + 256 * X) * N ≡ b * c0 + 256 * (b * P + Pn) + E * 256 * (b * L + A)
product_step b X N c0 P L Pn A E cut known = omega (arith, ap (λ (x : ℕ). b * x) cut, known)

pub product_law : (bs cs : List ℕ) (n : ℕ) → number_of bs * number_of cs ≡ number_of (whole_places bs cs 0 n) + 256 ^ n * above bs cs n
unfolding whole_places whole_place above part
product_law [] cs n = omega (arith, no_places cs 0 n)
product_law (b ∷ bs) cs zero = omega arith
product_law (b ∷ bs) cs (suc n) =
    rw (pow-suc, shifted b bs cs 0 n)
    (product_step b (number_of bs) (number_of cs) (slice_index cs 0) (part cs 1 n) (limbs_from cs (suc n)) (number_of (whole_places bs cs 0 n)) (above bs cs n) (256 ^ n)
    (rw pow-suc at (part_is cs (suc n))) (product_law bs cs n))

-- of four limbs and four, one product stands at place 6
pub above_six : (b0 b1 b2 b3 c0 c1 c2 c3 : ℕ) → above (b0 ∷ b1 ∷ b2 ∷ b3 ∷ []) (c0 ∷ c1 ∷ c2 ∷ c3 ∷ []) 6 ≡ b3 * c3
unfolding above limbs_from
above_six b0 b1 b2 b3 c0 c1 c2 c3 = omega arith
