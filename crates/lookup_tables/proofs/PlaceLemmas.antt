-- One place of each row, and one row of each place.
use Rattle.std.proofs.Common.{◌≡◌, ℕ, zero, suc, ◌+◌, ◌*◌, ◌-◌, ◌/◌, ◌%◌, ◌^◌, ◌<◌, ◌≤◌, length, slice_index, ◌⊎◌, inl, inr, ⊎_elim, lit<, List, [], ◌∷◌, bit_xor, refl, sym, ap, ◌∙◌, subst, arith, lit≤}
use Rattle.std.specs.Prelude.{◌↔◌, Option, Some, None, nat_eq, slice_get, true, false}
use Rattle.std.specs.Cmp.Lexicographic.{pointwise}
use Rattle.std.proofs.Math.Nat.{pow-le-pow_right, pow-succ'}
use Rattle.std.proofs.lemmas.Bool.{cases_lt, cases_eq, ne_eqb, eq-eqb}
use Rattle.std.proofs.lemmas.Nat.{pow_pos}
use Rattle.sha_words.specs.Sha256.{round_constant}
use Rattle.lookup_tables.specs.Places.{XorAt, RangeAt, ConstantAt, IsRowAt, IsRowOf, rows_of}

-- ---- answers that are exact

module _ {X : Type 0} where
  -- the one value with P
  pub some_is : (P : X → Type 0) (x : X) → P x → ((a b : X) → P a → P b → a ≡ b) → (o : Option X) → o ≡ Some x → (y : X) → (o ≡ Some y) ↔ P y
  some_is P x has one o is y =
      (λ (e : o ≡ Some y). subst P (let s : Some x ≡ Some y = sym is ∙ e in cc) has, λ (h : P y). is ∙ ap (λ (z : X). Some z) (one x y has h))

  -- no value has P
  pub none_is : (P : X → Type 0) → ((x : X) → P x → ⊥) → (o : Option X) → o ≡ None → (y : X) → (o ≡ Some y) ↔ P y
  none_is P never o is y = (λ (e : o ≡ Some y). absurd (let s : None ≡ Some y = sym is ∙ e in cc), λ (h : P y). absurd (never y h))

-- ---- the xor table

pub xor_row : (place x y : ℕ) → x < 256 → y < 256 → place ≡ 256 * x + y → XorAt place (x ∷ y ∷ bit_xor x y ∷ [])
xor_row place x y a b at = record { row = record { x = x; y = y; x_byte = a; y_byte = b; is = refl }; at = at }

pub xor_at_below : (place : ℕ) → place < 65536 → XorAt place (place / 256 ∷ place % 256 ∷ bit_xor (place / 256) (place % 256) ∷ [])
xor_at_below place low = xor_row place (place / 256) (place % 256) (omega arith) (omega arith) (omega arith)

pub xor_below : (place : ℕ) (tuple : List ℕ) → XorAt place tuple → place < 65536
xor_below place tuple h = omega (arith, h.at, h.row.x_byte, h.row.y_byte)

same_pair : (x y a b : ℕ) → y < 256 → b < 256 → 256 * x + y ≡ 256 * a + b → (x ≡ a) × (y ≡ b)
same_pair x y a b low small e = (omega arith, omega arith)

pub xor_one_row : (place : ℕ) (s t : List ℕ) → XorAt place s → XorAt place t → s ≡ t
xor_one_row place s t h k =
    let same = same_pair h.row.x h.row.y k.row.x k.row.y h.row.y_byte k.row.y_byte (sym h.at ∙ k.at) in
    h.row.is ∙ rw (same.0, same.1) (sym k.row.is)

pub xor_one_place : (tuple : List ℕ) (p q : ℕ) → XorAt p tuple → XorAt q tuple → p ≡ q
xor_one_place tuple p q h k =
    let lists : h.row.x ∷ h.row.y ∷ bit_xor h.row.x h.row.y ∷ [] ≡ k.row.x ∷ k.row.y ∷ bit_xor k.row.x k.row.y ∷ [] = sym h.row.is ∙ k.row.is in
    let x : h.row.x ≡ k.row.x = cc in
    let y : h.row.y ≡ k.row.y = cc in
    omega (arith, h.at, k.at, x, y)

-- three numbers that are a row
pub xor_listed : (xs : List ℕ) → length xs ≡ 3 → slice_index xs 0 < 256 → slice_index xs 1 < 256 → slice_index xs 2 ≡ bit_xor (slice_index xs 0) (slice_index xs 1) → XorAt (256 * slice_index xs 0 + slice_index xs 1) xs
xor_listed [] n a b c = absurd (omega (arith, n))
xor_listed (x ∷ []) n a b c = absurd (omega (arith, n))
xor_listed (x ∷ y ∷ []) n a b c = absurd (omega (arith, n))
xor_listed (x ∷ y ∷ z ∷ []) n a b c = subst (λ (t : ℕ). XorAt (256 * x + y) (x ∷ y ∷ t ∷ [])) (sym c) (xor_row (256 * x + y) x y a b refl)
xor_listed (x ∷ y ∷ z ∷ w ∷ more) n a b c = absurd (omega (arith, n))

-- ---- the range table

exponents_by : (a n m : ℕ) → a < 2 * 2 ^ n → 2 ^ m ≤ a → n < m → ⊥
exponents_by a n m high low less =
    let step : 2 ^ suc n ≤ 2 ^ m = pow-le-pow_right {n = 2} (lit< tt) {i = suc n} {j = m} (omega (arith, less)) in
    absurd (omega (arith, step, pow-succ' 2 n, high, low))

-- a number above 0 stands between two powers of two that follow one another, and these alone
pub exponent_same : (a n m : ℕ) → 2 ^ n ≤ a → a < 2 * 2 ^ n → 2 ^ m ≤ a → a < 2 * 2 ^ m → n ≡ m
exponent_same a n m low high low' high' =
    ⊎_elim
    (λ (less : n < m). absurd (exponents_by a n m high low' less))
    (λ (more : m ≤ n).
    ⊎_elim (λ (less : m < n). absurd (exponents_by a m n high' low less)) (λ (same : n ≤ m). omega (arith, more, same)) (cases_lt m n))
    (cases_lt n m)

pub range_row : (place v n : ℕ) → n ≤ 16 → v < 2 ^ n → place ≡ 2 ^ n - 1 + v → RangeAt place (v ∷ n ∷ [])
range_row place v n few low at = record { row = record { v = v; n = n; width = few; below = low; is = refl }; at = at }

-- two numbers that are a row
pub range_listed : (xs : List ℕ) → length xs ≡ 2 → slice_index xs 1 ≤ 16 → slice_index xs 0 < 2 ^ slice_index xs 1 → RangeAt (2 ^ slice_index xs 1 - 1 + slice_index xs 0) xs
range_listed [] n a b = absurd (omega (arith, n))
range_listed (v ∷ []) n a b = absurd (omega (arith, n))
range_listed (v ∷ e ∷ []) n a b = range_row (2 ^ e - 1 + v) v e a b refl
range_listed (v ∷ e ∷ w ∷ more) n a b = absurd (omega (arith, n))

small_exponent : (place n : ℕ) → place < 131071 → 2 ^ n ≤ place + 1 → n ≤ 16
small_exponent place n low h =
    ⊎_elim
    (λ (more : 16 < n).
    let much : 2 ^ 17 ≤ 2 ^ n = pow-le-pow_right {n = 2} (lit< tt) {i = 17} {j = n} (omega (arith, more)) in
    absurd (omega (arith, much, h, low)))
    (λ (few : n ≤ 16). few)
    (cases_lt 16 n)

-- the row at a place, by the exponent that its place tells
pub range_at_below : (place n : ℕ) → place < 131071 → 2 ^ n ≤ place + 1 → place + 1 < 2 * 2 ^ n → RangeAt place ((place + 1 - 2 ^ n) ∷ n ∷ [])
range_at_below place n low least most =
    range_row place (place + 1 - 2 ^ n) n (small_exponent place n low least) (omega (arith, least, most)) (omega (arith, least, pow_pos n))

pub range_below : (place : ℕ) (tuple : List ℕ) → RangeAt place tuple → place < 131071
range_below place tuple h =
    let most : 2 ^ h.row.n ≤ 2 ^ 16 = pow-le-pow_right {n = 2} (lit< tt) {i = h.row.n} {j = 16} h.row.width in
    omega (arith, h.at, h.row.below, most, pow_pos h.row.n)

pub range_one_row : (place : ℕ) (s t : List ℕ) → RangeAt place s → RangeAt place t → s ≡ t
range_one_row place s t h k =
    let n = h.row.n in
    let m = k.row.n in
    let same : n ≡ m = exponent_same (place + 1) n m
    (omega (arith, h.at, pow_pos n)) (omega (arith, h.at, h.row.below, pow_pos n))
    (omega (arith, k.at, pow_pos m)) (omega (arith, k.at, k.row.below, pow_pos m)) in
    let power : 2 ^ n ≡ 2 ^ m = ap (λ (i : ℕ). 2 ^ i) same in
    let value : h.row.v ≡ k.row.v = omega (arith, h.at, k.at, power) in
    h.row.is ∙ rw (value, same) (sym k.row.is)

pub range_one_place : (tuple : List ℕ) (p q : ℕ) → RangeAt p tuple → RangeAt q tuple → p ≡ q
range_one_place tuple p q h k =
    let lists : h.row.v ∷ h.row.n ∷ [] ≡ k.row.v ∷ k.row.n ∷ [] = sym h.row.is ∙ k.row.is in
    let value : h.row.v ≡ k.row.v = cc in
    let same : h.row.n ≡ k.row.n = cc in
    let power : 2 ^ h.row.n ≡ 2 ^ k.row.n = ap (λ (i : ℕ). 2 ^ i) same in
    omega (arith, h.at, k.at, value, power)

-- ---- the constants

pub constant_row : (round : ℕ) → round < 64 → ConstantAt round (round ∷ round_constant round % 65536 ∷ round_constant round / 65536 ∷ [])
constant_row round low = record { row = record { round = round; below = low; is = refl }; at = refl }

pub constant_below : (place : ℕ) (tuple : List ℕ) → ConstantAt place tuple → place < 64
constant_below place tuple h = omega (arith, h.at, h.row.below)

pub constant_one_row : (place : ℕ) (s t : List ℕ) → ConstantAt place s → ConstantAt place t → s ≡ t
constant_one_row place s t h k =
    let same : h.row.round ≡ k.row.round = sym h.at ∙ k.at in
    h.row.is ∙ rw same (sym k.row.is)

-- a row's place is its first number
constant_first : (place : ℕ) (xs : List ℕ) → ConstantAt place xs → slice_get xs 0 ≡ Some place
constant_first place xs h = rw (h.row.is, h.at) refl

pointwise_itself : (xs : List ℕ) → pointwise nat_eq xs xs ≡ true
pointwise_itself [] = refl
pointwise_itself (x ∷ xs) = rw (eq-eqb x x refl, pointwise_itself xs) refl

pub lists_differ : (xs ys : List ℕ) → pointwise nat_eq xs ys ≡ false → xs ≡ ys → ⊥
lists_differ xs ys h same =
    let itself : pointwise nat_eq xs ys ≡ true = subst (λ (t : List ℕ). pointwise nat_eq xs t ≡ true) same (pointwise_itself xs) in
    absurd (let e : true ≡ false = sym itself ∙ h in cc)

-- so what is not the row at its first number is no row
pub no_constant : (xs : List ℕ) (round : ℕ) (row : Option (List ℕ)) → slice_get xs 0 ≡ Some round → ((t : List ℕ) → (row ≡ Some t) ↔ ConstantAt round t) → (row ≡ Some xs → ⊥) → (place : ℕ) → ConstantAt place xs → ⊥
no_constant xs round row first exact other place h =
    let same : place ≡ round = let e : Some place ≡ Some round = sym (constant_first place xs h) ∙ first in cc in
    other ((exact xs).1 (subst (λ (p : ℕ). ConstantAt p xs) same h))

pub constant_one_place : (tuple : List ℕ) (p q : ℕ) → ConstantAt p tuple → ConstantAt q tuple → p ≡ q
constant_one_place tuple p q h k =
    let lists : h.row.round ∷ round_constant h.row.round % 65536 ∷ round_constant h.row.round / 65536 ∷ [] ≡ k.row.round ∷ round_constant k.row.round % 65536 ∷ round_constant k.row.round / 65536 ∷ [] = sym h.row.is ∙ k.row.is in
    let round : h.row.round ≡ k.row.round = cc in
    h.at ∙ round ∙ sym k.at

-- ---- the tables of all buses

-- what is asked of a row of a bus is asked of its table
pub at_xor : (place : ℕ) (tuple : List ℕ) → XorAt place tuple → IsRowAt 3 place tuple
at_xor place tuple h = record { low = lit≤ tt; high = lit≤ tt; xor = λ e. h; range = λ e. absurd (omega (arith, e)); constant = λ e. absurd (omega (arith, e)) }

pub at_range : (place : ℕ) (tuple : List ℕ) → RangeAt place tuple → IsRowAt 4 place tuple
at_range place tuple h = record { low = lit≤ tt; high = lit≤ tt; xor = λ e. absurd (omega (arith, e)); range = λ e. h; constant = λ e. absurd (omega (arith, e)) }

pub at_constant : (place : ℕ) (tuple : List ℕ) → ConstantAt place tuple → IsRowAt 5 place tuple
at_constant place tuple h = record { low = lit≤ tt; high = lit≤ tt; xor = λ e. absurd (omega (arith, e)); range = λ e. absurd (omega (arith, e)); constant = λ e. h }

module _ {X : Type 0} (o : Option X) (x : X) (place : ℕ) (tuple : List ℕ) where
  pub exact_xor : (bus : ℕ) → bus ≡ 3 → ((o ≡ Some x) ↔ XorAt place tuple) → (o ≡ Some x) ↔ IsRowAt bus place tuple
  exact_xor bus is h = subst (λ (b : ℕ). (o ≡ Some x) ↔ IsRowAt b place tuple) (sym is) (λ (e : o ≡ Some x). at_xor place tuple (h.0 e), λ (k : IsRowAt 3 place tuple). h.1 (k.xor refl))

  pub exact_range : (bus : ℕ) → bus ≡ 4 → ((o ≡ Some x) ↔ RangeAt place tuple) → (o ≡ Some x) ↔ IsRowAt bus place tuple
  exact_range bus is h = subst (λ (b : ℕ). (o ≡ Some x) ↔ IsRowAt b place tuple) (sym is) (λ (e : o ≡ Some x). at_range place tuple (h.0 e), λ (k : IsRowAt 4 place tuple). h.1 (k.range refl))

  pub exact_constant : (bus : ℕ) → bus ≡ 5 → ((o ≡ Some x) ↔ ConstantAt place tuple) → (o ≡ Some x) ↔ IsRowAt bus place tuple
  exact_constant bus is h = subst (λ (b : ℕ). (o ≡ Some x) ↔ IsRowAt b place tuple) (sym is) (λ (e : o ≡ Some x). at_constant place tuple (h.0 e), λ (k : IsRowAt 5 place tuple). h.1 (k.constant refl))

-- a bus is one of the three
pub bus_cases : (bus : ℕ) → 3 ≤ bus → bus ≤ 5 → (bus ≡ 3) ⊎ ((bus ≡ 4) ⊎ (bus ≡ 5))
bus_cases bus low high =
    ⊎_elim
    (λ (a : bus ≡ 3). inl a)
    (λ (x : bus ≡ 3 → ⊥).
    ⊎_elim (λ (b : bus ≡ 4). inr (inl b)) (λ (y : bus ≡ 4 → ⊥). inr (inr (omega (arith, low, high, x, y)))) (cases_eq bus 4))
    (cases_eq bus 3)

-- ---- laws

pub row_of_place : (bus place : ℕ) (tuple : List ℕ) → IsRowAt bus place tuple → IsRowOf bus tuple
row_of_place bus place tuple h =
    record { low = h.low; high = h.high; xor = λ e. (h.xor e).row; range = λ e. (h.range e).row; constant = λ e. (h.constant e).row }

module _ {P : Type 0} (bus : ℕ) (low : 3 ≤ bus) (high : bus ≤ 5) (xor : bus ≡ 3 → P) (range : bus ≡ 4 → P) (constant : bus ≡ 5 → P) where
  by_bus : P
  by_bus =
      ⊎_elim (λ (a : bus ≡ 3). xor a) (λ (x : (bus ≡ 4) ⊎ (bus ≡ 5)). ⊎_elim (λ (b : bus ≡ 4). range b) (λ (c : bus ≡ 5). constant c) x) (bus_cases bus low high)

pub one_place : (bus place other : ℕ) (tuple : List ℕ) → IsRowAt bus place tuple → IsRowAt bus other tuple → place ≡ other
one_place bus place other tuple h k =
    by_bus {P = place ≡ other} bus h.low h.high
    (λ e. xor_one_place tuple place other (h.xor e) (k.xor e))
    (λ e. range_one_place tuple place other (h.range e) (k.range e))
    (λ e. constant_one_place tuple place other (h.constant e) (k.constant e))

pub one_row : (bus place : ℕ) (tuple other : List ℕ) → IsRowAt bus place tuple → IsRowAt bus place other → tuple ≡ other
one_row bus place tuple other h k =
    by_bus {P = tuple ≡ other} bus h.low h.high
    (λ e. xor_one_row place tuple other (h.xor e) (k.xor e))
    (λ e. range_one_row place tuple other (h.range e) (k.range e))
    (λ e. constant_one_row place tuple other (h.constant e) (k.constant e))

pub rows_below : (bus place : ℕ) (tuple : List ℕ) → IsRowAt bus place tuple → place < rows_of bus
rows_below bus place tuple h =
    by_bus {P = place < rows_of bus} bus h.low h.high
    (λ e. rw e (xor_below place tuple (h.xor e)))
    (λ e. rw e (range_below place tuple (h.range e)))
    (λ e. rw e (constant_below place tuple (h.constant e)))

pub some_place : (bus : ℕ) (tuple : List ℕ) → IsRowOf bus tuple → (place : ℕ) × IsRowAt bus place tuple
some_place bus tuple h =
    by_bus {P = (place : ℕ) × IsRowAt bus place tuple} bus h.low h.high
    (λ e. let r = h.xor e in rw e (256 * r.x + r.y, at_xor (256 * r.x + r.y) tuple (record { row = r; at = refl })))
    (λ e. let r = h.range e in rw e (2 ^ r.n - 1 + r.v, at_range (2 ^ r.n - 1 + r.v) tuple (record { row = r; at = refl })))
    (λ e. let r = h.constant e in rw e (r.round, at_constant r.round tuple (record { row = r; at = refl })))

-- the exponent of a number above 0
pub record Exponent (a : ℕ) : Type 0 where
  pub n : ℕ
  pub least : 2 ^ n ≤ a
  pub most : a < 2 * 2 ^ n

next_exponent : (a : ℕ) → Exponent a → Exponent (suc a)
next_exponent a e =
    ⊎_elim
    (λ (same : suc a < 2 * 2 ^ e.n). record { n = e.n; least = omega (arith, e.least); most = same })
    (λ (more : 2 * 2 ^ e.n ≤ suc a). record { n = suc e.n; least = omega (arith, more, pow-succ' 2 e.n); most = omega (arith, e.most, pow-succ' 2 e.n, pow_pos e.n) })
    (cases_lt (suc a) (2 * 2 ^ e.n))

exponent_of : (a : ℕ) → Exponent (suc a)
exponent_of zero = record { n = 0; least = lit≤ tt; most = lit< tt }
exponent_of (suc a) = next_exponent (suc a) (exponent_of a)

pub no_rows : (bus place : ℕ) → place < rows_of bus → (bus ≡ 3) ⊎ ((bus ≡ 4) ⊎ (bus ≡ 5))
no_rows bus place low =
    ⊎_elim
    (λ (a : bus ≡ 3). inl a)
    (λ (x : bus ≡ 3 → ⊥).
    ⊎_elim
    (λ (b : bus ≡ 4). inr (inl b))
    (λ (y : bus ≡ 4 → ⊥).
    ⊎_elim
    (λ (c : bus ≡ 5). inr (inr c))
    (λ (z : bus ≡ 5 → ⊥).
    let none : rows_of bus ≡ 0 = rw (ne_eqb bus 3 x, ne_eqb bus 4 y, ne_eqb bus 5 z) refl in
    absurd (omega (arith, low, none)))
    (cases_eq bus 5))
    (cases_eq bus 4))
    (cases_eq bus 3)

pub some_row : (bus place : ℕ) → place < rows_of bus → (tuple : List ℕ) × IsRowAt bus place tuple
some_row bus place low =
    ⊎_elim
    (λ (a : bus ≡ 3).
    let few : place < 65536 = rw a at low in
    rw a ((place / 256) ∷ (place % 256) ∷ bit_xor (place / 256) (place % 256) ∷ [], at_xor place _ (xor_at_below place few)))
    (λ (x : (bus ≡ 4) ⊎ (bus ≡ 5)).
    ⊎_elim
    (λ (b : bus ≡ 4).
    let few : place < 131071 = rw b at low in
    let e = exponent_of place in
    rw b ((place + 1 - 2 ^ e.n) ∷ e.n ∷ [], at_range place _ (range_at_below place e.n few (omega (arith, e.least)) (omega (arith, e.most)))))
    (λ (c : bus ≡ 5).
    let few : place < 64 = rw c at low in
    rw c (place ∷ round_constant place % 65536 ∷ round_constant place / 65536 ∷ [], at_constant place _ (constant_row place few)))
    x)
    (no_rows bus place low)
