-- Constraints under one of some flags: only those of the flag that is set say something.
use Rattle.std.proofs.Common.{◌≡◌, ℕ, zero, suc, ◌+◌, ◌%◌, ◌<◌, ◌≤◌, List, [], ◌∷◌, length, map, flat_map, slice_index, refl, sym, ap, ◌∙◌, subst, inl, inr, arith, add-zero, zero-add, replicate}
use Rattle.std.specs.List.{AllByRecursion, range_with_len}
use Rattle.std.proofs.lemmas.Bool.{cases_eq}
use Rattle.vm_field.specs.Field.{modulus, field_sub, field_mul}
use Rattle.vm_field.proofs.Constraints.{gate_off, equal_of_sub}
use Rattle.air_core.specs.First.{bit}
use Rattle.air_core.specs.Sheet.{AllZero, AllBelow}
use Rattle.air_core.specs.Flags.{sum_from, flag_constraints}
use Rattle.air_core.specs.FlagLaws.{flag_cases, sum_from_below}
use Rattle.air_core.specs.ListLemmas.{all_left, all_right, all_append}
use Rattle.air_core.specs.Flags.{one_hot}
use Rattle.air_core.specs.lemmas.OneHot.{set_at}
use Rattle.gadget_shift.specs.Shift.{selected}
use Rattle.air_core.specs.Ring.{field}

-- ---- lists by a function of the index

pub each_at : (P : ℕ → Type 0) (f : ℕ → ℕ) (s n i : ℕ) → AllByRecursion P (map f (range_with_len s n)) → i < n → P (f (s + i))
each_at P f s zero i h low = absurd (omega arith)
each_at P f s (suc n) zero h low = subst (λ v. P (f v)) (sym (add-zero s)) h.0
each_at P f s (suc n) (suc i) h low = let e : s + 1 + i ≡ s + suc i = omega arith in subst (λ v. P (f v)) e (each_at P f (s + 1) n i h.1 (omega arith))

pub each_all : (P : ℕ → Type 0) (f : ℕ → ℕ) (s n : ℕ) → ((i : ℕ) → i < n → P (f (s + i))) → AllByRecursion P (map f (range_with_len s n))
each_all P f s zero h = tt
each_all P f s (suc n) h = (
  subst (λ v. P (f v)) (add-zero s) (h 0 (omega arith)),
  each_all P f (s + 1) n (λ i low. let e : s + suc i ≡ s + 1 + i = omega arith in subst (λ v. P (f v)) e (h (suc i) (omega arith))),
)

flat_at : (f : ℕ → List ℕ) (s n i : ℕ) → AllZero (flat_map f (range_with_len s n)) → i < n → AllZero (f (s + i))
flat_at f s zero i h low = absurd (omega arith)
flat_at f s (suc n) zero h low = subst (λ v. AllZero (f v)) (sym (add-zero s)) (all_left (λ x. x ≡ 0) (f s) _ h)
flat_at f s (suc n) (suc i) h low = let e : s + 1 + i ≡ s + suc i = omega arith in subst (λ v. AllZero (f v)) e (flat_at f (s + 1) n i (all_right (λ x. x ≡ 0) (f s) _ h) (omega arith))

flat_all : (f : ℕ → List ℕ) (s n : ℕ) → ((i : ℕ) → i < n → AllZero (f (s + i))) → AllZero (flat_map f (range_with_len s n))
flat_all f s zero h = tt
flat_all f s (suc n) h = all_append (λ x. x ≡ 0) (f s) _
    (subst (λ v. AllZero (f v)) (add-zero s) (h 0 (omega arith)))
    (flat_all f (s + 1) n (λ i low. let e : s + suc i ≡ s + 1 + i = omega arith in subst (λ v. AllZero (f v)) e (h (suc i) (omega arith))))

-- ---- gates

gate_on : (g : ℕ) (xs : List ℕ) → g ≡ 1 → AllZero (map (field_mul g) xs) → AllByRecursion (λ x. x % modulus ≡ 0) xs
gate_on g [] one h = tt
gate_on g (x ∷ xs) one h = (let at : field_mul 1 x ≡ 0 = rw one at h.0 in omega arith, gate_on g xs one h.1)

gate_none : (g : ℕ) (xs : List ℕ) → g ≡ 0 → AllZero (map (field_mul g) xs)
gate_none g [] e = tt
gate_none g (x ∷ xs) e = (gate_off g x e, gate_none g xs e)

gate_holds : (g : ℕ) (xs : List ℕ) → AllZero xs → AllZero (map (field_mul g) xs)
gate_holds g [] h = tt
gate_holds g (x ∷ xs) h = (rw h.0 (omega arith), gate_holds g xs h.1)

-- ---- one flag of n

zero_at : (n i : ℕ) → slice_index (replicate n 0) i ≡ 0
zero_at zero i = refl
zero_at (suc n) zero = refl
zero_at (suc n) (suc i) = zero_at n i

pub one_at : (n k : ℕ) → k < n → slice_index (one_hot n k) k ≡ 1
one_at zero k low = absurd (omega arith)
one_at (suc n) zero low = refl
one_at (suc n) (suc k) low = one_at n k (omega arith)

pub other_at : (n k i : ℕ) → (i ≡ k → ⊥) → slice_index (one_hot n k) i ≡ 0
other_at zero k i ne = refl
other_at (suc n) zero zero ne = absurd (ne refl)
other_at (suc n) zero (suc i) ne = zero_at n i
other_at (suc n) (suc k) zero ne = refl
other_at (suc n) (suc k) (suc i) ne = other_at n k i (λ e. ne (omega arith))

pub selected_law : (gate : ℕ) (limbs : List ℕ) (block : ℕ → List ℕ) (l : ℕ) → gate ≡ 1 → limbs ≡ one_hot 4 l → l < 4 → AllZero ((selected field) gate limbs block) → AllByRecursion (λ x. x % modulus ≡ 0) (block l)
unfolding selected
selected_law gate limbs block l on hot low h =
    let at = flat_at (λ m. map (field_mul (field_mul gate (slice_index limbs m))) (block m)) 0 4 l h low in
    let here : AllZero (map (field_mul (field_mul gate (slice_index limbs l))) (block l)) = subst (λ m. AllZero (map (field_mul (field_mul gate (slice_index limbs m))) (block m))) (zero-add l) at in
    let one : slice_index limbs l ≡ 1 = ap (λ (xs : List ℕ). slice_index xs l) hot ∙ one_at 4 l low in
    gate_on (field_mul gate (slice_index limbs l)) (block l) (rw (on, one) refl) here

pub selected_holds : (gate : ℕ) (block : ℕ → List ℕ) (l : ℕ) → AllZero (block l) → AllZero ((selected field) gate (one_hot 4 l) block)
unfolding selected
selected_holds gate block l h = flat_all (λ m. map (field_mul (field_mul gate (slice_index (one_hot 4 l) m))) (block m)) 0 4 (λ i low.
    elim (cases_eq (0 + i) l) [
      | inl same ↦ gate_holds _ (block (0 + i)) (subst (λ m. AllZero (block m)) (sym same) h)
      | inr other ↦ gate_none _ (block (0 + i)) (rw (other_at 4 l (0 + i) other) (omega arith))
    ])

pub selected_none : (gate : ℕ) (limbs : List ℕ) (block : ℕ → List ℕ) → gate ≡ 0 → AllZero ((selected field) gate limbs block)
unfolding selected
selected_none gate limbs block none = flat_all (λ m. map (field_mul (field_mul gate (slice_index limbs m))) (block m)) 0 4
    (λ i low. gate_none _ (block (0 + i)) (rw none (omega arith)))

-- ---- flags whose sum is 1

bit_one : bit field 1 ≡ 0
unfolding bit
bit_one = refl

pub record HotAt (n : ℕ) (xs : List ℕ) : Type 0 where
  pub place : ℕ
  pub below : place < n
  pub are : xs ≡ one_hot n place

pub hot_at : (n : ℕ) (xs : List ℕ) → length xs ≡ n → n ≤ 64 → AllBelow xs → AllZero (map (bit field) xs) → field_sub (sum_from field 0 xs) 1 ≡ 0 → HotAt n xs
unfolding flag_constraints
hot_at n xs long few below bits sum =
    let one : sum_from field 0 xs ≡ 1 = equal_of_sub (sum_from field 0 xs) 1 (sum_from_below 0 xs (omega arith)) (omega arith) sum in
    let all : AllZero ((flag_constraints field) xs) = all_append (λ x. x ≡ 0) (map (bit field) xs) _ bits (rw one bit_one, tt) in
    elim (flag_cases xs below (omega (arith, long)) all) [
      | inl none ↦ absurd (omega (arith, one, none.0))
      | inr hot ↦ let s = set_at xs hot.1 in record { place = s.place; below = omega (arith, s.below, long); are = s.are ∙ ap (λ m. one_hot m s.place) long }
    ]
