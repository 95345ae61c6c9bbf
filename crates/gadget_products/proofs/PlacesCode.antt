-- The places of a product, written one behind the other.
use Rattle.std.proofs.Common.{◌≡◌, ℕ, zero, suc, ◌+◌, ◌<◌, List, [], ◌∷◌, map, length, get_or, set, refl, ap, ◌∙◌, arith, sym, ⊎_elim}
use Rattle.std.specs.List.{range_with_len}
use Rattle.std.proofs.lemmas.Bool.{cases_eq}
use Rattle.std.proofs.lemmas.List.{get_or-set_same, get_or-set_other}
use Rattle.std.proofs.lemmas.List.FromFn.{fill_by_all}
use Rattle.air_core.specs.Ring.{field}
use Rattle.gadget_products.specs.Product.{place, places}

pub places_written : (bs cs sums : List ℕ) (i x : ℕ) → i < length sums → x ≡ place field bs cs i → ((k : ℕ) → k < i → get_or sums k 0 ≡ place field bs cs k)
    → (k : ℕ) → k < i + 1 → get_or (set sums i x) k 0 ≡ place field bs cs k
places_written bs cs sums i x low is before k less =
    ⊎_elim
    (λ (same : k ≡ i). ap (λ (j : ℕ). get_or (set sums i x) j 0) same ∙ get_or-set_same sums i x 0 low ∙ is ∙ ap (place field bs cs) (sym same))
    (λ (other : k ≡ i → ⊥). get_or-set_other sums i k x 0 other ∙ before k (omega (arith, less, other)))
    (cases_eq k i)

places_by : (bs cs : List ℕ) (i n : ℕ) → map (place field bs cs) (range_with_len i n) ≡ places field bs cs i n
unfolding places
places_by bs cs i zero = refl
places_by bs cs i (suc n) = ap (λ (t : List ℕ). place field bs cs i ∷ t) (ap (λ (j : ℕ). map (place field bs cs) (range_with_len j n)) (omega arith) ∙ places_by bs cs (suc i) n)

pub places_all : (bs cs sums : List ℕ) (n : ℕ) → length sums ≡ n → ((k : ℕ) → k < n → get_or sums k 0 ≡ place field bs cs k) → sums ≡ places field bs cs 0 n
places_all bs cs sums n long all = fill_by_all (place field bs cs) sums n 0 long all ∙ places_by bs cs 0 n
