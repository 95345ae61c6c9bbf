-- What flags select, for any forms, and the place of a form.
use Rattle.std.proofs.Common.{◌≡◌, ℕ, zero, suc, ◌%◌, ◌<◌, Bool, true, false, ◌&&◌, ◌||◌, not, nat_eq, nat_lt, List, [], ◌∷◌, length, map, replicate, slice_index, refl, sym, ap, ◌∙◌, inl, inr, arith}
use Rattle.std.specs.List.{AllByRecursion, list_any}
use Rattle.std.proofs.lemmas.Bool.{and_parts, eqb-true, ltb-true, cases_eq, or_cases, not-true, eqb-false}
use Rattle.vm_field.specs.Field.{modulus, field_add, field_mul}
use Rattle.vm_isa.specs.Instr.{bit_of}
use Rattle.vm_isa.specs.Results.{width_of}
use Rattle.air_core.specs.Flags.{one_hot, weighted_from}
use Rattle.air_core.specs.Ring.{field}
use Rattle.air_core.specs.Sheet.{AllZero, AllBelow}
use Rattle.air_core.specs.lemmas.OneHot.{weighted_one}
use Rattle.adapter_mem.specs.Laws.{IsDivisor}
use Rattle.adapter_mem.specs.declared.forms.AccessForm.{AccessForm}
use Rattle.adapter_mem.specs.Forms.{form_at, is_form, shift_by, signed_by, selected_from, by_form}
use Rattle.adapter_mem.specs.MemoryLaws.{IsForm, IsPlace}

-- ---- selection

map_below : (value : AccessForm → ℕ) → ((f : AccessForm) → value f < modulus) → (fs : List AccessForm) → AllBelow (map value fs)
map_below value h [] = tt
map_below value h (f ∷ fs) = (h f, map_below value h fs)

pub map_at : (value : AccessForm → ℕ) (fs : List AccessForm) (k : ℕ) → k < length fs → slice_index (map value fs) k ≡ value (form_at fs k)
map_at value [] k low = absurd (omega arith)
map_at value (f ∷ fs) zero low = refl
map_at value (f ∷ fs) (suc k) low = map_at value fs k (omega arith)

pub length_map : (value : AccessForm → ℕ) (fs : List AccessForm) → length (map value fs) ≡ length fs
length_map value [] = refl
length_map value (f ∷ fs) = omega (arith, length_map value fs)

-- values of flags that are not set add nothing
selected_zeros : (acc n : ℕ) (vs : List ℕ) → acc < modulus → selected_from field acc (replicate n 0) vs ≡ acc
selected_zeros acc zero vs h = refl
selected_zeros acc (suc n) [] h = refl
selected_zeros acc (suc n) (v ∷ vs) h =
    let same : field_add acc (field_mul 0 v) ≡ acc = omega arith in
    ap (λ (a : ℕ). selected_from field a (replicate n 0) vs) same ∙ selected_zeros acc n vs h

selected_one : (n k : ℕ) (vs : List ℕ) → k < n → length vs ≡ n → AllBelow vs → selected_from field 0 (one_hot n k) vs ≡ slice_index vs k
selected_one zero k vs low long below = absurd (omega arith)
selected_one (suc n) k [] low long below = absurd (omega arith)
selected_one (suc n) zero (v ∷ vs) low long below =
    let same : field_add 0 (field_mul 1 v) ≡ v = omega (arith, below.0) in
    ap (λ (a : ℕ). selected_from field a (replicate n 0) vs) same ∙ selected_zeros v n vs below.0
selected_one (suc n) (suc k) (v ∷ vs) low long below =
    let same : field_add 0 (field_mul 0 v) ≡ 0 = omega arith in
    ap (λ (a : ℕ). selected_from field a (one_hot n k) vs) same ∙ selected_one n k vs (omega arith) (omega arith) below.1

-- the flag that is set selects its form's value
pub selects : (forms : List AccessForm) (flags : List ℕ) (k : ℕ) (value : AccessForm → ℕ) → ((f : AccessForm) → value f < modulus) → k < length forms → flags ≡ one_hot (length forms) k
    → by_form field forms flags value ≡ value (form_at forms k)
selects forms flags k value below low hot =
    ap (λ (fs : List ℕ). by_form field forms fs value) hot ∙ selected_one (length forms) k (map value forms) low (length_map value forms) (map_below value below forms) ∙ map_at value forms k low

bit_below : (b : Bool) → bit_of b < modulus
bit_below true = omega arith
bit_below false = omega arith

pub signed_is : (forms : List AccessForm) (flags : List ℕ) (k : ℕ) → k < length forms → flags ≡ one_hot (length forms) k → signed_by field forms flags ≡ bit_of (form_at forms k).signed
signed_is forms flags k low hot =
    ap (signed_by field forms) hot ∙ weighted_one (length forms) k (map (λ f. bit_of f.signed) forms) low (length_map (λ f. bit_of f.signed) forms) (map_below (λ f. bit_of f.signed) (λ f. bit_below f.signed) forms)
    ∙ map_at (λ f. bit_of f.signed) forms k low

weighted_none : (xs ks : List ℕ) → AllZero xs → weighted_from field 0 xs ks ≡ 0
weighted_none [] ks h = refl
weighted_none (x ∷ xs) [] h = refl
weighted_none (x ∷ xs) (k ∷ ks) h =
    let same : field_add 0 (field_mul x k) ≡ 0 = rw h.0 (omega arith) in
    ap (λ (a : ℕ). weighted_from field a xs ks) same ∙ weighted_none xs ks h.1

-- where no flag is set, none is of a signed form
pub signed_none : (forms : List AccessForm) (flags : List ℕ) → AllZero flags → signed_by field forms flags ≡ 0
signed_none forms flags none = weighted_none flags (map (λ f. bit_of f.signed) forms) none

-- and nothing is selected where every value is 0
pub selected_none : (xs : List ℕ) (n : ℕ) → selected_from field 0 xs (replicate n 0) ≡ 0
selected_none [] n = refl
selected_none (x ∷ xs) zero = refl
selected_none (x ∷ xs) (suc n) =
    let same : field_add 0 (field_mul x 0) ≡ 0 = omega arith in
    ap (λ (a : ℕ). selected_from field a xs (replicate n 0)) same ∙ selected_none xs n

pub shift_4 : (f : AccessForm) → IsForm f → f.shift < 4
shift_4 f h =
    elim h.widths [
      | inl one ↦ one.1
      | inr (inl (two, inl none)) ↦ omega arith
      | inr (inl (two, inr half)) ↦ omega arith
      | inr (inr four) ↦ omega (arith, four.1)
    ]

shifts_below : (fs : List AccessForm) → AllByRecursion IsForm fs → AllBelow (map (λ f. f.shift) fs)
shifts_below [] h = tt
shifts_below (f ∷ fs) h = (omega (arith, shift_4 f h.0), shifts_below fs h.1)

pub shift_is : (forms : List AccessForm) (flags : List ℕ) (k : ℕ) → AllByRecursion IsForm forms → k < length forms → flags ≡ one_hot (length forms) k → shift_by field forms flags ≡ (form_at forms k).shift
shift_is forms flags k are low hot =
    ap (shift_by field forms) hot ∙ weighted_one (length forms) k (map (λ f. f.shift) forms) low (length_map (λ f. f.shift) forms) (shifts_below forms are) ∙ map_at (λ f. f.shift) forms k low

-- ---- forms

pub at_form : (P : AccessForm → Type 0) (fs : List AccessForm) (k : ℕ) → k < length fs → AllByRecursion P fs → P (form_at fs k)
at_form P [] k low h = absurd (omega arith)
at_form P (f ∷ fs) zero low h = h.0
at_form P (f ∷ fs) (suc k) low h = at_form P fs k (omega arith) h.1

-- whether a form's bytes stand in one block, as many as its opcode has: by a table
unfoldable pub is_good_form : AccessForm → Bool
is_good_form f =
    nat_eq (width_of f.op) f.width
    && ((nat_eq f.width 1 && nat_lt f.shift 4) || ((nat_eq f.width 2 && (nat_eq f.shift 0 || nat_eq f.shift 2)) || (nat_eq f.width 4 && nat_eq f.shift 0)))

unfoldable pub are_good_forms : List AccessForm → Bool
are_good_forms [] = true
are_good_forms (f ∷ fs) = is_good_form f && are_good_forms fs

good_form : (f : AccessForm) → is_good_form f ≡ true → IsForm f
unfolding is_good_form
good_form f h =
    let parts = and_parts (nat_eq (width_of f.op) f.width) _ h in
    record {
      width_is = eqb-true (width_of f.op) f.width parts.0;
      widths = elim (or_cases (nat_eq f.width 1 && nat_lt f.shift 4) _ parts.1) [
        | inl one ↦ let p = and_parts (nat_eq f.width 1) (nat_lt f.shift 4) one in inl (eqb-true f.width 1 p.0, ltb-true f.shift 4 p.1)
        | inr more ↦ elim (or_cases (nat_eq f.width 2 && (nat_eq f.shift 0 || nat_eq f.shift 2)) _ more) [
          | inl two ↦
              let p = and_parts (nat_eq f.width 2) (nat_eq f.shift 0 || nat_eq f.shift 2) two in
              inr (inl (eqb-true f.width 2 p.0, elim (or_cases (nat_eq f.shift 0) (nat_eq f.shift 2) p.1) [ inl none ↦ inl (eqb-true f.shift 0 none) | inr half ↦ inr (eqb-true f.shift 2 half) ]))
          | inr four ↦ let p = and_parts (nat_eq f.width 4) (nat_eq f.shift 0) four in inr (inr (eqb-true f.width 4 p.0, eqb-true f.shift 0 p.1))
        ]
      ];
    }

pub good_forms : (fs : List AccessForm) → are_good_forms fs ≡ true → AllByRecursion IsForm fs
unfolding are_good_forms
good_forms [] h = tt
good_forms (f ∷ fs) h = let parts = and_parts (is_good_form f) (are_good_forms fs) h in (good_form f parts.0, good_forms fs parts.1)

-- an address whose remainder by 4 is a form's shift is a multiple of its width
pub form_aligned : (f : AccessForm) (sum : ℕ) → IsForm f → sum % 4 ≡ f.shift → sum % width_of f.op ≡ 0
form_aligned f sum h e =
    elim h.widths [
      | inl one ↦ rw (h.width_is, one.0) (omega arith)
      | inr (inl (two, inl none)) ↦ rw (h.width_is, two) (omega arith)
      | inr (inl (two, inr half)) ↦ rw (h.width_is, two) (omega arith)
      | inr (inr four) ↦ rw (h.width_is, four.0) (omega (arith, four.1))
    ]

-- ---- the place of a form

place_by : (f : AccessForm) (fs : List AccessForm) (op shift : ℕ) (b : Bool) → is_form op shift f ≡ b → (list_any (is_form op shift) fs ≡ true → IsPlace fs op shift) → (b || list_any (is_form op shift) fs) ≡ true → IsPlace (f ∷ fs) op shift
place_by f fs op shift true e rest h =
    let parts = and_parts (nat_eq op f.op) (nat_eq shift f.shift) e in
    record { below = rw e (omega arith); op_is = rw e (sym (eqb-true op f.op parts.0)); shift_is = rw e (sym (eqb-true shift f.shift parts.1)) }
place_by f fs op shift false e rest h = let p = rest h in record { below = rw e (omega (arith, p.below)); op_is = rw e p.op_is; shift_is = rw e p.shift_is }

is_place : (fs : List AccessForm) (op shift : ℕ) → list_any (is_form op shift) fs ≡ true → IsPlace fs op shift
is_place [] op shift h = absurd (cc)
is_place (f ∷ fs) op shift h = place_by f fs op shift (is_form op shift f) refl (is_place fs op shift) h

-- each opcode has a form at each multiple of its width, by a table
unfoldable pub has : List AccessForm → ℕ → ℕ → Bool
has fs op shift = not (nat_eq (shift % width_of op) 0) || list_any (is_form op shift) fs

unfoldable pub each_shift : List AccessForm → ℕ → ℕ → Bool
each_shift fs op zero = true
each_shift fs op (suc n) = has fs op n && each_shift fs op n

shift_has : (fs : List AccessForm) (op n shift : ℕ) → each_shift fs op n ≡ true → shift < n → has fs op shift ≡ true
unfolding each_shift
shift_has fs op zero shift h low = absurd (omega arith)
shift_has fs op (suc n) shift h low =
    let parts = and_parts (has fs op n) (each_shift fs op n) h in
    elim (cases_eq shift n) [ inl here ↦ rw here parts.0 | inr other ↦ shift_has fs op n shift parts.1 (omega arith) ]

pub placed_by : (fs : List AccessForm) (op shift : ℕ) → each_shift fs op 4 ≡ true → shift < 4 → shift % width_of op ≡ 0 → IsPlace fs op shift
unfolding has
placed_by fs op shift all four aligned =
    let here = shift_has fs op 4 shift all four in
    elim (or_cases (not (nat_eq (shift % width_of op) 0)) (list_any (is_form op shift) fs) here) [
      | inl never ↦ absurd (eqb-false _ _ (not-true _ never) aligned)
      | inr some ↦ is_place fs op shift some
    ]

-- the remainder by 4 of an address
pub by_4 : IsDivisor 4 1509949441 14
by_4 = record { inverse_is = refl; inverse_low = omega arith; some = omega arith; small = omega arith; whole = refl }
