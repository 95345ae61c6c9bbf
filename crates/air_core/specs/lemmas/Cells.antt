-- Columns of a row by their places.
use Rattle.std.proofs.Common.{◌≡◌, ℕ, zero, suc, ◌+◌, ◌<◌, ◌≤◌, List, [], ◌∷◌, ◌++◌, length, take, drop, replicate, slice_index, refl, sym, ap, ◌∙◌, arith, append_assoc, append-nil}
use Rattle.air_core.specs.Ring.{cells}
use Rattle.air_core.specs.Sheet.{AllZero, AllBelow}
use Rattle.air_core.specs.ListLemmas.{below_at, zero_behind}

pub length-cells : (at : ℕ → ℕ) (i n : ℕ) → length (cells at i n) ≡ n
length-cells at i zero = refl
length-cells at i (suc n) = omega (arith, length-cells at (suc i) n)

pub cells_below : (row : List ℕ) → AllBelow row → (i n : ℕ) → AllBelow (cells (slice_index row) i n)
cells_below row h i zero = tt
cells_below row h i (suc n) = (below_at row i h, cells_below row h (suc i) n)

-- columns that are 0 one by one
zero_each : (row : List ℕ) (d i n : ℕ) → ((k : ℕ) → k < i + n → slice_index row (d + k) ≡ 0) → AllZero (cells (slice_index row) (d + i) n)
zero_each row d i zero h = tt
zero_each row d i (suc n) h =
    let next : suc (d + i) ≡ d + suc i = omega arith in
    (h i (omega arith), rw next (zero_each row d (suc i) n (λ k low. h k (omega (arith, low)))))

pub cells_zero : (row : List ℕ) (d n : ℕ) → AllZero (take n (drop d row)) → AllZero (cells (slice_index row) d n)
cells_zero row d n h =
    let at : d + 0 ≡ d = omega arith in
    rw at at (zero_each row d 0 n (λ k low. zero_behind d n row k h (omega (arith, low))))

pub index_zeros : (m i : ℕ) → slice_index (replicate m 0) i ≡ 0
index_zeros zero i = refl
index_zeros (suc m) zero = refl
index_zeros (suc m) (suc i) = index_zeros m i

pub cells_of_zeros : (m i n : ℕ) → cells (slice_index (replicate m 0)) i n ≡ replicate n 0
cells_of_zeros m i zero = refl
cells_of_zeros m i (suc n) = rw (index_zeros m i, cells_of_zeros m (suc i) n) refl

pub behind : (xs ys : List ℕ) (n i : ℕ) → length xs ≡ n → slice_index (xs ++ ys) (n + i) ≡ slice_index ys i
behind [] ys n i h = ap (slice_index ys) (omega arith)
behind (x ∷ xs) ys zero i h = absurd (omega arith)
behind (x ∷ xs) ys (suc n) i h = let e : suc n + i ≡ suc (n + i) = omega arith in ap (slice_index (x ∷ xs ++ ys)) e ∙ behind xs ys n i (omega arith)

index_here : (y : ℕ) (ys zs : List ℕ) → slice_index ((y ∷ ys) ++ zs) 0 ≡ y
index_here y ys zs = refl

length-more : (xs : List ℕ) (y : ℕ) → length (xs ++ (y ∷ [])) ≡ length xs + 1
length-more [] y = refl
length-more (x ∷ xs) y = omega (arith, length-more xs y)

-- a part of a row, read back
pub cells_back : (xs ys zs : List ℕ) (i n : ℕ) → length xs ≡ i → length ys ≡ n → cells (slice_index (xs ++ (ys ++ zs))) i n ≡ ys
cells_back xs [] zs i n p q = let none : n ≡ 0 = omega (arith, q) in rw none refl
cells_back xs (y ∷ ys) zs i zero p q = absurd (omega (arith, q))
cells_back xs (y ∷ ys) zs i (suc n) p q =
    let here : slice_index (xs ++ ((y ∷ ys) ++ zs)) i ≡ y = ap (slice_index (xs ++ ((y ∷ ys) ++ zs))) (omega arith) ∙ behind xs ((y ∷ ys) ++ zs) i 0 p in
    let moved : xs ++ ((y ∷ ys) ++ zs) ≡ (xs ++ (y ∷ [])) ++ (ys ++ zs) = sym (append_assoc xs (y ∷ []) (ys ++ zs)) in
    let rest : cells (slice_index (xs ++ ((y ∷ ys) ++ zs))) (suc i) n ≡ ys =
    ap (λ (r : List ℕ). cells (slice_index r) (suc i) n) moved ∙ cells_back (xs ++ (y ∷ [])) ys zs (suc i) n (omega (arith, p, length-more xs y)) (omega (arith, q)) in
    rw (here, rest) refl

pub cells_back_last : (xs ys : List ℕ) (i n : ℕ) → length xs ≡ i → length ys ≡ n → cells (slice_index (xs ++ ys)) i n ≡ ys
cells_back_last xs ys i n p q = ap (λ (r : List ℕ). cells (slice_index (xs ++ r)) i n) (sym (append-nil ys)) ∙ cells_back xs ys [] i n p q

shifted : (x : ℕ) (row : List ℕ) (i n : ℕ) → cells (slice_index (x ∷ row)) (suc i) n ≡ cells (slice_index row) i n
shifted x row i zero = refl
shifted x row i (suc n) = ap (λ (xs : List ℕ). slice_index row i ∷ xs) (shifted x row (suc i) n)

-- they are a part of the row
pub cells_take : (row : List ℕ) (i n : ℕ) → i + n ≤ length row → cells (slice_index row) i n ≡ take n (drop i row)
cells_take row i zero h = refl
cells_take [] i (suc n) h = absurd (omega (arith, h))
cells_take (x ∷ row) zero (suc n) h = ap (λ (xs : List ℕ). x ∷ xs) (shifted x row 0 n ∙ cells_take row 0 n (omega (arith, h)))
cells_take (x ∷ row) (suc i) (suc n) h = shifted x row i (suc n) ∙ cells_take row i (suc n) (omega (arith, h))
