-- Two loads share an address exactly where, in order of address, one begins before the one before it ends.
use Rattle.std.proofs.Common.{drop, add-one, drop-cons, ◌≡◌, ℕ, suc, ◌+◌, ◌<◌, ◌≤◌, ◌↔◌, Bool, true, false, cond, ◌&&◌, List, [], ◌∷◌, length, get_or, filter, nat_le, nat_lt, count_by, IsPermutation, All, refl, ◌∙◌, arith}
use Rattle.std.proofs.lemmas.Bool.Decides.{nat_tests}
use Rattle.std.proofs.lemmas.List.Sums.{sum_by-cons}
use Rattle.std.proofs.lemmas.List.Sorted.{sum_by-IsPermutation}
use Rattle.std.specs.List.Sorted.{IsNonDecreasingBy}
use Rattle.elf_image.specs.declared.headers.ProgramHeader.{ProgramHeader}
use Rattle.elf_image.specs.Image.{covers}
use Rattle.elf_image.specs.Layout.{follow}

abbrev pub Headers : Type 0
Headers = List ProgramHeader

count-cons : (p : ProgramHeader → Bool) (x : ProgramHeader) (xs : Headers) → count_by p (x ∷ xs) ≡ cond (p x) 1 0 + count_by p xs
count-cons p x xs = sum_by-cons (λ y. cond (p y) 1 0) x xs

-- an address before all of them lies in none
count_before : (from : ℕ) (loads : Headers) (a : ℕ) → follow from loads ≡ true → a < from → count_by (covers a) loads ≡ 0
count_before from [] a f h = refl
count_before from (x ∷ xs) a f h =
    let rest : follow (x.p_vaddr + x.p_memsz) xs ≡ true = grind (arith, nat_tests) in
    let begins : from ≤ x.p_vaddr = grind (arith, nat_tests) in
    let none = count_before (x.p_vaddr + x.p_memsz) xs a rest (omega arith) in
    let first : covers a x ≡ false = grind (arith, nat_tests) in
    rw (count-cons, first, none) refl

-- and each address lies in one at most
pub count_once : (from : ℕ) (loads : Headers) (a : ℕ) → follow from loads ≡ true → count_by (covers a) loads ≤ 1
count_once from [] a f = omega arith
count_once from (x ∷ xs) a f = by_test (covers a x) refl (count_once (x.p_vaddr + x.p_memsz) xs a rest) where
  rest : follow (x.p_vaddr + x.p_memsz) xs ≡ true
  rest = grind (arith, nat_tests)

  by_test : (b : Bool) → covers a x ≡ b → count_by (covers a) xs ≤ 1 → count_by (covers a) (x ∷ xs) ≤ 1
  by_test true e k =
      let none = count_before (x.p_vaddr + x.p_memsz) xs a rest (grind (arith, nat_tests)) in
      rw (count-cons, e, none) (omega arith)
  by_test false e k = rw (count-cons, e) (omega arith)

abbrev pub Shares : Headers → Type 0
Shares loads = (address : ℕ) × (1 < count_by (covers address) loads)

-- where one begins too early, some address lies in two
pub shared : (x : ProgramHeader) (xs : Headers) → IsNonDecreasingBy (λ (load : ProgramHeader). load.p_vaddr) (x ∷ xs) → All (λ (load : ProgramHeader). 0 < load.p_memsz) (x ∷ xs) → follow (x.p_vaddr + x.p_memsz) xs ≡ false → Shares (x ∷ xs)
shared x [] rise some f = cc
shared x (y ∷ ys) rise some f = by_test (nat_le (x.p_vaddr + x.p_memsz) y.p_vaddr) refl f (shared y ys) where
  order : x.p_vaddr ≤ y.p_vaddr
  order = rise 0 1 x (omega arith) (omega arith)

  by_test : (b : Bool) → nat_le (x.p_vaddr + x.p_memsz) y.p_vaddr ≡ b → (b && follow (y.p_vaddr + y.p_memsz) ys) ≡ false
      → (IsNonDecreasingBy (λ (load : ProgramHeader). load.p_vaddr) (y ∷ ys) → All (λ (load : ProgramHeader). 0 < load.p_memsz) (y ∷ ys) → follow (y.p_vaddr + y.p_memsz) ys ≡ false → Shares (y ∷ ys))
      → Shares (x ∷ y ∷ ys)
  by_test true e k rest =
      let found = rest (λ i j d low high. rise (suc i) (suc j) d (omega arith) (omega arith)) (λ i d h. some (suc i) d (omega arith)) k in
      (found.0, rw count-cons (omega (arith, found.1)))
  by_test false e k rest =
      let positive : 0 < y.p_memsz = some 1 y (omega arith) in
      let first : covers y.p_vaddr x ≡ true = grind (arith, nat_tests, order) in
      let second : covers y.p_vaddr y ≡ true = grind (arith, nat_tests, positive) in
      (y.p_vaddr, rw (count-cons, count-cons, first, second) (omega arith))

-- loads of size 0 cover nothing
pub count-filter : (a : ℕ) (loads : Headers) → count_by (covers a) (filter (λ load. nat_lt 0 load.p_memsz) loads) ≡ count_by (covers a) loads
count-filter a [] = refl
count-filter a (x ∷ xs) = by_test (nat_lt 0 x.p_memsz) refl (count-filter a xs) where
  by_test : (b : Bool) → nat_lt 0 x.p_memsz ≡ b → count_by (covers a) (filter (λ load. nat_lt 0 load.p_memsz) xs) ≡ count_by (covers a) xs
      → count_by (covers a) (cond b (x ∷ filter (λ load. nat_lt 0 load.p_memsz) xs) (filter (λ load. nat_lt 0 load.p_memsz) xs)) ≡ count_by (covers a) (x ∷ xs)
  by_test true e k = simp (count-cons, k)
  by_test false e k = let none : covers a x ≡ false = grind (arith, nat_tests) in rw (count-cons, none) (omega (arith, k))

-- the order does not matter either
pub count_sorted : (a : ℕ) (loads sorted : Headers) → IsPermutation (filter (λ load. nat_lt 0 load.p_memsz) loads) sorted → count_by (covers a) sorted ≡ count_by (covers a) loads
count_sorted a loads sorted h = sum_by-IsPermutation (λ y. cond (covers a y) 1 0) _ _ h ∙ count-filter a loads

shares : (loads : Headers) → IsNonDecreasingBy (λ (load : ProgramHeader). load.p_vaddr) loads → All (λ (load : ProgramHeader). 0 < load.p_memsz) loads → follow 0 loads ≡ false → Shares loads
shares [] rise some f = cc
shares (x ∷ xs) rise some f =
    let first : nat_le 0 x.p_vaddr ≡ true = grind (arith, nat_tests) in
    let rest : follow (x.p_vaddr + x.p_memsz) xs ≡ false = rw first at f in
    shared x xs rise some rest

-- the test of neighbours decides whether two loads share an address
pub not_follow_shares : (loads : Headers) → IsNonDecreasingBy (λ (load : ProgramHeader). load.p_vaddr) loads → All (λ (load : ProgramHeader). 0 < load.p_memsz) loads → (follow 0 loads ≡ false) ↔ Shares loads
not_follow_shares loads rise some = (shares loads rise some, λ h. by_test (follow 0 loads) refl h) where
  by_test : (b : Bool) → follow 0 loads ≡ b → Shares loads → b ≡ false
  by_test true e h = absurd (omega (arith, count_once 0 loads h.0 e, h.1))
  by_test false e h = refl

-- a step of the test
pub follow-drop : (loads : Headers) (from i : ℕ) (x d : ProgramHeader) → i < length loads → x ≡ get_or loads i d → follow from (drop i loads) ≡ (nat_le from x.p_vaddr && follow (x.p_vaddr + x.p_memsz) (drop (i + 1) loads))
follow-drop loads from i x d h e = let here = drop-cons loads i d h in rw (here, add-one, e) refl
