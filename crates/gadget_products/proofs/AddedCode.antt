-- Sums written place by place, and the carry out of the last limb.
use Rattle.std.proofs.Common.{◌≡◌, ℕ, zero, suc, ◌+◌, ◌-◌, ◌<◌, List, [], ◌∷◌, length, get_or, set, refl, ap, ◌∙◌, arith, sym, ⊎_elim}
use Rattle.std.proofs.lemmas.Bool.{cases_eq}
use Rattle.std.proofs.lemmas.List.{get_or-set_same, get_or-set_other, ext_get_or}
use Rattle.vm_field.specs.Field.{field_add}
use Rattle.vm_field.specs.declared.limbs.Limbs.{Limbs}
use Rattle.vm_field.specs.Limbs.{list_of}
use Rattle.air_core.specs.Ring.{field}
use Rattle.gadget_products.specs.Carry.{carry_out, carries, last_carry}
use Rattle.gadget_products.specs.Product.{places}
use Rattle.gadget_products.specs.Divide.{added, division_sums, six}

pub sum_written : (f : ℕ → ℕ) (sums : List ℕ) (i x : ℕ) → i < length sums → x ≡ f i → ((k : ℕ) → k < i → get_or sums k 0 ≡ f k) → (k : ℕ) → k < i + 1 → get_or (set sums i x) k 0 ≡ f k
sum_written f sums i x low is before k less =
    ⊎_elim
    (λ (same : k ≡ i). ap (λ (j : ℕ). get_or (set sums i x) j 0) same ∙ get_or-set_same sums i x 0 low ∙ is ∙ ap f (sym same))
    (λ (other : k ≡ i → ⊥). get_or-set_other sums i k x 0 other ∙ before k (omega (arith, less, other)))
    (cases_eq k i)

length-added : (xs ys : List ℕ) → length xs ≡ length ys → length (added field xs ys) ≡ length xs
unfolding added
length-added [] ys h = refl
length-added (x ∷ xs) [] h = absurd (omega (arith, h))
length-added (x ∷ xs) (y ∷ ys) h = omega (arith, length-added xs ys (omega (arith, h)))

added_at : (xs ys : List ℕ) (k : ℕ) → length xs ≡ length ys → k < length xs → get_or (added field xs ys) k 0 ≡ field_add (get_or xs k 0) (get_or ys k 0)
unfolding added
added_at [] ys k h low = absurd (omega (arith, low))
added_at (x ∷ xs) [] k h low = absurd (omega (arith, h))
added_at (x ∷ xs) (y ∷ ys) zero h low = refl
added_at (x ∷ xs) (y ∷ ys) (suc k) h low = added_at xs ys k (omega (arith, h)) (omega (arith, low))

pub added_all : (sums xs ys : List ℕ) → length sums ≡ length xs → length xs ≡ length ys → ((k : ℕ) → k < length xs → get_or sums k 0 ≡ field_add (get_or xs k 0) (get_or ys k 0)) → sums ≡ added field xs ys
added_all sums xs ys long same all =
    ext_get_or 0 sums (added field xs ys) (long ∙ sym (length-added xs ys same)) (λ k low. all k (omega (arith, low, long)) ∙ sym (added_at xs ys k same (omega (arith, low, long))))

pub last_is : (k : ℕ) (sums limbs : List ℕ) (n d : ℕ) → length sums ≡ n + 1 → length limbs ≡ n + 1 → last_carry field k sums limbs ≡ get_or (carries field k sums limbs) n d
unfolding carries last_carry
last_is k [] limbs n d h p = absurd (omega (arith, h))
last_is k (s ∷ sums) [] n d h p = absurd (omega (arith, p))
last_is k (s ∷ []) (q ∷ []) zero d h p = refl
last_is k (s ∷ []) (q ∷ r ∷ limbs) zero d h p = absurd (omega (arith, p))
last_is k (s ∷ t ∷ sums) (q ∷ limbs) zero d h p = absurd (omega (arith, h))
last_is k (s ∷ sums) (q ∷ limbs) (suc n) d h p = last_is (carry_out field s k q) sums limbs n d (omega (arith, h)) (omega (arith, p))

pub length-six : (w : Limbs ℕ) → length (six field w) ≡ 6
unfolding list_of
length-six w = refl

pub length-sums : (c q r : Limbs ℕ) → length (division_sums field c q r) ≡ 6
unfolding division_sums added places list_of
length-sums c q r = refl
