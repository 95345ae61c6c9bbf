-- Flags of which one is set, by its place: what the constraints of flags come to, for any number of them.
use Rattle.std.proofs.Common.{◌≡◌, ℕ, zero, suc, Bool, true, false, ◌||◌, nat_eq, ◌<◌, List, [], ◌∷◌, length, map, slice_index, replicate, refl, ap, inl, inr, ◌∙◌, sym, arith}
use Rattle.std.specs.List.{AllByRecursion}
use Rattle.vm_field.specs.Field.{field_add, field_mul}
use Rattle.air_core.specs.First.{bit}
use Rattle.air_core.specs.Sheet.{AllZero, AllBelow}
use Rattle.air_core.specs.Flags.{OneHot, one_hot, opcode_place, sum_from, weighted_from, flag_constraints}
use Rattle.air_core.specs.FlagLaws.{sum_none}
use Rattle.std.specs.List.{list_any}
use Rattle.std.proofs.lemmas.Bool.{eq-eqb, eqb-true}
use Rattle.air_core.specs.ListLemmas.{all_append}
use Rattle.air_core.specs.Ring.{field}

all_zero_is : (xs : List ℕ) → AllZero xs → xs ≡ replicate (length xs) 0
all_zero_is [] h = refl
all_zero_is (x ∷ xs) h = rw (h.0, ← all_zero_is xs h.1) refl

-- the place of the flag that is set
pub record SetAt (flags : List ℕ) : Type 0 where
  pub place : ℕ
  pub below : place < length flags
  pub are : flags ≡ one_hot (length flags) place

pub set_at : (flags : List ℕ) → OneHot flags → SetAt flags
set_at [] h = absurd h
set_at (f ∷ fs) (inl (one, none)) = record { place = 0; below = omega arith; are = rw (one, ← all_zero_is fs none) refl }
set_at (f ∷ fs) (inr (zero_f, more)) =
    let s = set_at fs more in
    record { place = suc s.place; below = omega (arith, s.below); are = rw zero_f (ap (λ (xs : List ℕ). 0 ∷ xs) s.are) }

pub zeros_hold : (n : ℕ) → AllZero (replicate n 0)
zeros_hold zero = tt
zeros_hold (suc n) = (refl, zeros_hold n)

-- the weights of flags that are not set add nothing
weighted_zeros : (acc n : ℕ) (ks : List ℕ) → acc < 2013265921 → weighted_from field acc (replicate n 0) ks ≡ acc
weighted_zeros acc zero ks h = refl
weighted_zeros acc (suc n) [] h = refl
weighted_zeros acc (suc n) (k ∷ ks) h =
    let same : field_add acc (field_mul 0 k) ≡ acc = omega arith in
    ap (λ (a : ℕ). weighted_from field a (replicate n 0) ks) same ∙ weighted_zeros acc n ks h

-- the sum of each flag times its weight is the weight of the one that is set
pub weighted_one : (n k : ℕ) (ks : List ℕ) → k < n → length ks ≡ n → AllBelow ks → weighted_from field 0 (one_hot n k) ks ≡ slice_index ks k
weighted_one zero k ks low long below = absurd (omega arith)
weighted_one (suc n) k [] low long below = absurd (omega arith)
weighted_one (suc n) zero (x ∷ ks) low long below =
    let same : field_add 0 (field_mul 1 x) ≡ x = omega (arith, below.0) in
    ap (λ (a : ℕ). weighted_from field a (replicate n 0) ks) same ∙ weighted_zeros x n ks below.0
weighted_one (suc n) (suc k) (x ∷ ks) low long below =
    let same : field_add 0 (field_mul 0 x) ≡ 0 = omega arith in
    ap (λ (a : ℕ). weighted_from field a (one_hot n k) ks) same ∙ weighted_one n k ks (omega arith) (omega arith) below.1

length-zeros : (n : ℕ) → length (replicate {A = ℕ} n 0) ≡ n
length-zeros zero = refl
length-zeros (suc n) = omega (arith, length-zeros n)

sum_zeros : (acc n : ℕ) → acc < 2013265921 → sum_from field acc (replicate n 0) ≡ acc
sum_zeros acc zero h = refl
sum_zeros acc (suc n) h =
    let same : field_add acc 0 ≡ acc = omega arith in
    ap (λ (a : ℕ). sum_from field a (replicate n 0)) same ∙ sum_zeros acc n h

pub sum_one : (n k : ℕ) → k < n → sum_from field 0 (one_hot n k) ≡ 1
sum_one zero k low = absurd (omega arith)
sum_one (suc n) zero low = sum_zeros 1 n (omega arith)
sum_one (suc n) (suc k) low = sum_one n k (omega arith)

pub length-one_hot : (n k : ℕ) → length (one_hot n k) ≡ n
length-one_hot zero k = refl
length-one_hot (suc n) zero = omega (arith, length-zeros n)
length-one_hot (suc n) (suc k) = omega (arith, length-one_hot n k)

bits_zeros : (n : ℕ) → AllZero (map (bit field) (replicate n 0))
unfolding bit
bits_zeros zero = tt
bits_zeros (suc n) = (refl, bits_zeros n)

bits_one : (n k : ℕ) → AllZero (map (bit field) (one_hot n k))
unfolding bit
bits_one zero k = tt
bits_one (suc n) zero = (refl, bits_zeros n)
bits_one (suc n) (suc k) = (refl, bits_one n k)

pub bit_one : bit field 1 ≡ 0
unfolding bit
bit_one = refl

pub one_hot_holds : (n k : ℕ) → k < n → AllZero (flag_constraints field (one_hot n k))
unfolding flag_constraints
one_hot_holds n k low = all_append (λ x. x ≡ 0) _ _ (bits_one n k) (rw (sum_one n k low) bit_one, tt)

zeros_below : (n : ℕ) → AllBelow (replicate n 0)
zeros_below zero = tt
zeros_below (suc n) = (omega arith, zeros_below n)

pub one_hot_below : (n k : ℕ) → AllBelow (one_hot n k)
one_hot_below zero k = tt
one_hot_below (suc n) zero = (omega arith, zeros_below n)
one_hot_below (suc n) (suc k) = (omega arith, one_hot_below n k)

pub bit_none : bit field 0 ≡ 0
unfolding bit
bit_none = refl

-- flags of which none is set
pub flags_zero : (n : ℕ) → AllZero (flag_constraints field (replicate n 0))
unfolding flag_constraints
flags_zero n = all_append (λ x. x ≡ 0) _ _ (bits_zeros n) (rw (sum_none (replicate n 0) (zeros_hold n)) bit_none, tt)

-- The opcodes of a table, by their places.

pub or_true : (a b : Bool) → b ≡ true → (a || b) ≡ true
or_true true b h = refl
or_true false b h = h

pub is_owned : (ks : List ℕ) (k : ℕ) → k < length ks → list_any (nat_eq (slice_index ks k)) ks ≡ true
is_owned [] k h = absurd (omega arith)
is_owned (x ∷ ks) zero h = rw (eq-eqb x x refl) refl
is_owned (x ∷ ks) (suc k) h = or_true (nat_eq (slice_index ks k) x) _ (is_owned ks k (omega arith))

pub at_place : (P : ℕ → Type 0) (ks : List ℕ) (k : ℕ) → k < length ks → AllByRecursion P ks → P (slice_index ks k)
at_place P [] k h all = absurd (omega arith)
at_place P (x ∷ ks) zero h all = all.0
at_place P (x ∷ ks) (suc k) h all = at_place P ks k (omega arith) all.1

owned_by : (b c : Bool) (P : Type 0) → (b ≡ true → P) → (c ≡ true → P) → (b || c) ≡ true → P
owned_by true c P f g h = f refl
owned_by false c P f g h = g h

-- what holds of each opcode holds of one that is owned
pub of_owned : (P : ℕ → Type 0) (ks : List ℕ) (op : ℕ) → AllByRecursion P ks → list_any (nat_eq op) ks ≡ true → P op
of_owned P [] op all h = absurd (cc)
of_owned P (k ∷ ks) op all h = owned_by (nat_eq op k) (list_any (nat_eq op) ks) (P op) (λ e. rw (eqb-true op k e) all.0) (λ more. of_owned P ks op all.1 more) h

-- the first place of an opcode
pub record IsPlace (ks : List ℕ) (op : ℕ) : Type 0 where
  pub below : opcode_place ks op < length ks
  pub is : slice_index ks (opcode_place ks op) ≡ op

place_by : (k : ℕ) (ks : List ℕ) (op : ℕ) → (b : Bool) → nat_eq op k ≡ b → (list_any (nat_eq op) ks ≡ true → IsPlace ks op) → (b || list_any (nat_eq op) ks) ≡ true → IsPlace (k ∷ ks) op
place_by k ks op true e rest h = record { below = rw e (omega arith); is = rw e (sym (eqb-true op k e)) }
place_by k ks op false e rest h = let p = rest h in record { below = rw e (omega (arith, p.below)); is = rw e p.is }

pub is_place : (ks : List ℕ) (op : ℕ) → list_any (nat_eq op) ks ≡ true → IsPlace ks op
is_place [] op h = absurd (cc)
is_place (k ∷ ks) op h = place_by k ks op (nat_eq op k) refl (is_place ks op) h
