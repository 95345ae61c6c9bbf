-- How the place of a product is summed from the lowest limb on.
use Rattle.std.proofs.Common.{◌≡◌, ℕ, zero, suc, ◌+◌, ◌<◌, ◌≤◌, List, [], ◌∷◌, length, get_or, drop, slice_index, refl, sym, ap, ◌∙◌, arith, add-one, drop-cons}
use Rattle.std.proofs.Math.ListN.{drop_of_length-le}
use Rattle.vm_field.specs.Field.{modulus, field_add, field_mul}
use Rattle.vm_field.proofs.Ring.{field_add_assoc}
use Rattle.gadget_products.specs.Product.{place}
use Rattle.air_core.specs.Ring.{field}

-- what is left of a place, in which `more` places and one are left
unfoldable pub left_by : List ℕ → List ℕ → ℕ → ℕ
left_by bs cs zero = 0
left_by bs cs (suc more) = (place field) bs cs more

place_cons : (b : ℕ) (bs cs : List ℕ) (n : ℕ) → (place field) (b ∷ bs) cs n ≡ field_add (field_mul b (slice_index cs n)) (left_by bs cs n)
unfolding place left_by
place_cons b bs cs zero = omega arith
place_cons b bs cs (suc n) = refl

place_low : (bs cs : List ℕ) (i : ℕ) → (place field) bs cs i < modulus
unfolding place
place_low [] cs i = omega arith
place_low (b ∷ bs) cs zero = omega arith
place_low (b ∷ bs) cs (suc i) = omega arith

left_at : (bs cs : List ℕ) (k n : ℕ) → k ≡ suc n → left_by bs cs k ≡ (place field) bs cs n
unfolding left_by
left_at bs cs k n e = rw e refl

left_empty : (cs : List ℕ) (k : ℕ) → left_by [] cs k ≡ 0
unfolding left_by place
left_empty cs zero = refl
left_empty cs (suc k) = refl

left_end : (bs cs : List ℕ) (k : ℕ) → k ≡ 0 → left_by bs cs k ≡ 0
unfolding left_by
left_end bs cs k e = rw e refl

pub left_begins : (bs cs : List ℕ) (i k : ℕ) → k ≡ suc i → (place field) bs cs i ≡ field_add 0 (left_by bs cs k)
left_begins bs cs i k e = omega (arith, left_at bs cs k i e, place_low bs cs i)

pub left_over : (sum : ℕ) (bs cs : List ℕ) (j k : ℕ) → sum < modulus → length bs ≤ j → field_add sum (left_by (drop j bs) cs k) ≡ sum
left_over sum bs cs j k low h = rw (drop_of_length-le bs h, left_empty cs k) (omega arith)

pub left_past : (sum : ℕ) (bs cs : List ℕ) (k : ℕ) → sum < modulus → k ≡ 0 → field_add sum (left_by bs cs k) ≡ sum
left_past sum bs cs k low e = omega (arith, left_end bs cs k e)

drop_read : (xs : List ℕ) (i x : ℕ) → i < length xs → x ≡ get_or xs i x → drop i xs ≡ x ∷ drop (i + 1) xs
drop_read xs i x h e = drop-cons xs i x h ∙ (ap (λ y. y ∷ drop (suc i) xs) (sym e) ∙ ap (λ n. x ∷ drop n xs) (sym (add-one i)))

index_read : (xs : List ℕ) (i x : ℕ) → i < length xs → x ≡ get_or xs i x → slice_index xs i ≡ x
index_read [] i x h e = absurd (omega arith)
index_read (y ∷ xs) zero x h e = sym e
index_read (y ∷ xs) (suc i) x h e = index_read xs i x (omega arith) e

index_past : (xs : List ℕ) (i : ℕ) → length xs ≤ i → slice_index xs i ≡ 0
index_past [] i h = refl
index_past (x ∷ xs) zero h = absurd (omega arith)
index_past (x ∷ xs) (suc i) h = index_past xs i (omega arith)

read_index : (xs : List ℕ) (i d : ℕ) → i < length xs → slice_index xs i ≡ get_or xs i d
read_index [] i d h = absurd (omega arith)
read_index (y ∷ xs) zero d h = refl
read_index (y ∷ xs) (suc i) d h = read_index xs i d (omega arith)

pub place_step : (sum x : ℕ) (bs cs : List ℕ) (j k n : ℕ) → j < length bs → k ≡ suc n → x ≡ get_or bs j x
    → field_add sum (left_by (drop j bs) cs k) ≡ field_add (field_add sum (field_mul x (slice_index cs n))) (left_by (drop (j + 1) bs) cs n)
place_step sum x bs cs j k n h e r =
    ap (λ (y : ℕ). field_add sum y) (left_at (drop j bs) cs k n e ∙ ap (λ (xs : List ℕ). (place field) xs cs n) (drop_read bs j x h r) ∙ place_cons x (drop (j + 1) bs) cs n)
    ∙ sym (field_add_assoc sum (field_mul x (slice_index cs n)) (left_by (drop (j + 1) bs) cs n))

-- with the limb of the other number that was read, or none
pub read_step : (sum x y : ℕ) (bs cs : List ℕ) (j k n m : ℕ) → j < length bs → k ≡ suc n → m ≡ n → x ≡ get_or bs j x → n < length cs → y ≡ get_or cs n y
    → field_add sum (left_by (drop j bs) cs k) ≡ field_add (field_add sum (field_mul x y)) (left_by (drop (j + 1) bs) cs m)
read_step sum x y bs cs j k n m h e f r low s = rw f (place_step sum x bs cs j k n h e r ∙ ap (λ (z : ℕ). field_add (field_add sum (field_mul x z)) (left_by (drop (j + 1) bs) cs n)) (index_read cs n y low s))

pub past_step : (sum : ℕ) (bs cs : List ℕ) (j k n m : ℕ) → sum < modulus → j < length bs → k ≡ suc n → m ≡ n → length cs ≤ n
    → field_add sum (left_by (drop j bs) cs k) ≡ field_add sum (left_by (drop (j + 1) bs) cs m)
past_step sum bs cs j k n m small h e f past =
    let x : ℕ = slice_index bs j in
    let none : field_add sum (field_mul x (slice_index cs n)) ≡ sum = rw (index_past cs n past) (omega arith) in
    rw f (place_step sum x bs cs j k n h e (read_index bs j x h) ∙ ap (λ (z : ℕ). field_add z (left_by (drop (j + 1) bs) cs n)) none)
