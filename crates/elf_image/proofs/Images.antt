-- A file has one image or one refusal, not both.
use Rattle.std.proofs.Common.{◌≡◌, ℕ, suc, ◌<◌, List, [], ◌∷◌, length, get_or, AllPairs, refl, sym, ap, ◌∙◌, arith, inl, inr}
use Rattle.std.proofs.lemmas.Bool.{cases_order}
use Rattle.std.proofs.lemmas.List.Sorted.{Contains-permutation, IsPermutation-trans, IsPermutation-sym}
use Rattle.elf_image.specs.Loaded.{Load, Loaded}
use Rattle.elf_image.specs.Image.{place}
use Rattle.elf_image.specs.Laws.{ImageIsOne, RefusedHasNoImage, RefusalIsOne}
use Rattle.elf_image.proofs.Members.{In, place_in, in_from_Contains, Contains_from_in}
use Rattle.elf_image.proofs.Accepted.{place_is_one}

abbrev Rises : List Load → Type 0
Rises loads = AllPairs (λ (a : Load) (b : Load). a.address < b.address) loads

-- the loads after the first are at higher addresses, and rise too
first_lowest : (x : Load) (xs : List Load) → Rises (x ∷ xs) → (y : Load) → In y xs → x.address < y.address
first_lowest x xs rise y h =
    let at = place_in y xs h in
    let higher : x.address < (get_or xs at.0 y).address = rise 0 (suc at.0) y (omega arith) (let below : at.0 < length xs = at.1 in omega arith) in
    let here = at.2 y in
    rw here at higher

rest_rises : (x : Load) (xs : List Load) → Rises (x ∷ xs) → Rises xs
rest_rises x xs rise i j d before within = rise (suc i) (suc j) d (omega arith) (omega arith)

first_same : (x y : Load) (xs ys : List Load) → Rises (x ∷ xs) → Rises (y ∷ ys) → In x (y ∷ ys) → In y (x ∷ xs) → x ≡ y
first_same x y xs ys rise up (inl same) back = same
first_same x y xs ys rise up (inr h) (inl same) = sym same
first_same x y xs ys rise up (inr h) (inr k) = absurd (omega (arith, first_lowest x xs rise y k, first_lowest y ys up x h))

later : (x y : Load) (xs ys : List Load) → x ≡ y → Rises (x ∷ xs) → (l : Load) → In l xs → In l (y ∷ ys) → In l ys
later x y xs ys same rise l h (inr k) = k
later x y xs ys same rise l h (inl e) =
    let lower = first_lowest x xs rise l h in
    let equal : l.address ≡ x.address = ap (λ (m : Load). m.address) (e ∙ sym same) in
    absurd (omega arith)

-- two rising lists with the same loads are one
same_rising : (xs ys : List Load) → Rises xs → Rises ys → ((l : Load) → In l xs → In l ys) → ((l : Load) → In l ys → In l xs) → xs ≡ ys
same_rising [] [] rise up forth back = refl
same_rising [] (y ∷ ys) rise up forth back = absurd (back y (inl refl))
same_rising (x ∷ xs) [] rise up forth back = absurd (forth x (inl refl))
same_rising (x ∷ xs) (y ∷ ys) rise up forth back =
    let same = first_same x y xs ys rise up (forth x (inl refl)) (back y (inl refl)) in
    let rest = same_rising xs ys (rest_rises x xs rise) (rest_rises y ys up)
    (λ l h. later x y xs ys same rise l h (forth l (inr h)))
    (λ l h. later y x ys xs (sym same) up l h (back l (inr h))) in
    cc (same, rest)

abbrev made : ℕ → List Load → Loaded
made entry loads = record { entry = entry; loads = loads }

pub image_is_one : ImageIsOne
image_is_one bytes a b x y =
    let between = IsPermutation-trans a.loads _ b.loads (IsPermutation-sym _ a.loads x.loads) y.loads in
    let loads = same_rising a.loads b.loads x.rising y.rising
    (λ l h. in_from_Contains l b.loads (Contains-permutation a.loads b.loads l between (Contains_from_in l a.loads h)))
    (λ l h. in_from_Contains l a.loads (Contains-permutation b.loads a.loads l (IsPermutation-sym a.loads b.loads between) (Contains_from_in l b.loads h))) in
    ap (λ entry. made entry a.loads) (x.entry ∙ sym y.entry) ∙ ap (made b.entry) loads

pub refused_has_no_image : RefusedHasNoImage
refused_has_no_image bytes loaded refusal refused x = x.accepted refusal refused.cause

pub refusal_is_one : RefusalIsOne
refusal_is_one bytes a b x y =
    elim (cases_order (place a) (place b)) [
      | inl same ↦ place_is_one a b same
      | inr apart ↦ elim apart [ inl below ↦ absurd (y.first a below x.cause) | inr above ↦ absurd (x.first b above y.cause) ]
    ]
