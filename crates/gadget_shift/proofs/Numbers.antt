-- Shifts of whole numbers by their limbs, over functions of the index.
use Rattle.std.proofs.Common.{◌≡◌, ℕ, zero, suc, ◌+◌, ◌-◌, ◌*◌, ◌/◌, ◌%◌, ◌^◌, ◌<◌, ◌≤◌, refl, sym, ap, ◌∙◌, arith, add-one, add-zero}
use Rattle.std.proofs.Math.Nat.{pow-suc, pow-zero, add-mul-mod_self_right, mod-eq_of_lt, mod-lt}
use Rattle.std.proofs.lemmas.Nat.{div-mul-add, same_from_place, pow-add, mul-le, div-add-mod'}
use Rattle.vm_word.specs.Digits.{number_of_digits}
use Rattle.vm_word.specs.Arithmetic.{shifted_left}
use Rattle.gadget_shift.specs.Laws.{shifted_in}
use Rattle.vm_word.proofs.DigitLemmas.{number_of_digits-lt}

-- the number that limbs below place n make
abbrev pub N : (ℕ → ℕ) → ℕ → ℕ
N d n = number_of_digits 256 d n

-- one limb: x_i + 256 * c_(i + 1) = t * y_i + c_i
abbrev pub Steps : ℕ → (ℕ → ℕ) → (ℕ → ℕ) → (ℕ → ℕ) → ℕ → Type 0
Steps t x y c n = (i : ℕ) → i < n → x i + 256 * c (i + 1) ≡ t * y i + c i

pub chain : (t : ℕ) (x y c : ℕ → ℕ) (n : ℕ) → Steps t x y c n → N x n + 256 ^ n * c n ≡ t * N y n + c 0
unfolding number_of_digits
chain t x y c zero e = rw pow-zero (omega arith)
chain t x y c (suc n) e =
    let rest = chain t x y c n (λ i lt. e i (omega arith)) in
    let here : x n + 256 * c (n + 1) ≡ t * y n + c n = e n (omega arith) in
    let next : c (n + 1) ≡ c (suc n) = ap c (add-one n) in
    let scaled = ap (λ (v : ℕ). v * 256 ^ n) (rw next at here) in
    rw pow-suc (omega (arith, rest, scaled))

-- the limbs from place l on
pub split : (d : ℕ → ℕ) (l n m : ℕ) → m ≡ l + n → N d m ≡ N d l + 256 ^ l * N (λ i. d (l + i)) n
unfolding number_of_digits
split d l zero m e = let same : m ≡ l = omega arith in rw same (omega arith)
split d l (suc n) zero e = absurd (omega arith)
split d l (suc n) (suc m) e =
    let rest = split d l n m (omega arith) in
    let same : m ≡ l + n = omega arith in
    let power : 256 ^ m ≡ 256 ^ l * 256 ^ n = rw same (pow-add 256 l n) in
    let top : d m ≡ d (l + n) = ap d same in
    let scaled : d m * 256 ^ m ≡ d (l + n) * (256 ^ l * 256 ^ n) = rw (top, power) refl in
    omega (arith, rest, scaled)

-- limbs that are all 0, or all 255 times a number
pub same_limbs : (d : ℕ → ℕ) (g n : ℕ) → ((i : ℕ) → i < n → d i ≡ 255 * g) → N d n + g ≡ g * 256 ^ n
unfolding number_of_digits
same_limbs d g zero h = rw pow-zero (omega arith)
same_limbs d g (suc n) h =
    let rest = same_limbs d g n (λ i lt. h i (omega arith)) in
    let here = ap (λ (v : ℕ). v * 256 ^ n) (h n (omega arith)) in
    rw pow-suc (omega (arith, rest, here))

pub whole_power : (l n : ℕ) → 4 ≡ l + n → 256 ^ l * 256 ^ n ≡ 4294967296
whole_power l n e = sym (pow-add 256 l n) ∙ ap (λ (k : ℕ). 256 ^ k) (sym e)

-- ---- to the left

pub record IsLeft (t l n : ℕ) (a b c : ℕ → ℕ) : Type 0 where
  pub four : 4 ≡ l + n
  pub below : (j : ℕ) → j < l → a j ≡ 0
  pub none : c 0 ≡ 0
  pub steps : Steps t (λ i. a (l + i)) b c n

left_join : (t A B na nb low x y rest k : ℕ) → A * B ≡ 4294967296 → na ≡ low + A * x → low ≡ 0 → nb ≡ y + B * rest → x + B * k ≡ t * y + 0 → nb * (t * A) ≡ na + (k + t * rest) * 4294967296
left_join t A B na nb low x y rest k whole e z f h =
    let one = ap (λ (v : ℕ). A * v) h in
    let two = ap (λ (v : ℕ). v * k) whole in
    let three = ap (λ (v : ℕ). v * (t * rest)) whole in
    let four = ap (λ (v : ℕ). v * (t * A)) f in
    omega (arith, one, two, three, four)

pub left_word : (t l n : ℕ) (a b c : ℕ → ℕ) (by : ℕ) → IsLeft t l n a b c → ((i : ℕ) → i < 4 → a i < 256) → 2 ^ by ≡ t * 256 ^ l → N a 4 ≡ shifted_left (N b 4) by
left_word t l n a b c by h bytes power =
    let steps = chain t (λ i. a (l + i)) b c n h.steps in
    let steps0 : N (λ i. a (l + i)) n + 256 ^ n * c n ≡ t * N b n + 0 = steps ∙ ap (λ (v : ℕ). t * N b n + v) h.none in
    let low : N a l ≡ 0 = omega (arith, same_limbs a 0 l (λ j lt. h.below j lt)) in
    let turned : 4 ≡ n + l = omega (arith, h.four) in
    let whole = left_join t (256 ^ l) (256 ^ n) (N a 4) (N b 4) (N a l) (N (λ i. a (l + i)) n) (N b n) (N (λ i. b (n + i)) l) (c n) (whole_power l n h.four) (split a l n 4 h.four) low (split b n l 4 turned) steps0 in
    let small : N a 4 < 4294967296 = number_of_digits-lt 256 a 4 bytes in
    sym (ap (λ (v : ℕ). N b 4 * v % 4294967296) power ∙ ap (λ (v : ℕ). v % 4294967296) whole ∙ add-mul-mod_self_right (N a 4) (c n + t * N (λ i. b (n + i)) l) 4294967296 ∙ mod-eq_of_lt small)

-- ---- to the right

pub record IsRight (t g l n : ℕ) (a b c : ℕ → ℕ) : Type 0 where
  pub four : 4 ≡ l + n
  pub above : (j : ℕ) → j < l → a (n + j) ≡ 255 * g
  pub top : c (l + n) + g ≡ g * t
  pub small : c l < t
  pub steps : Steps t (λ i. b (l + i)) a (λ i. c (l + i)) n

right_join : (g t A B na nb low x y cl top G : ℕ) → g ≤ 1 → A * B ≡ 4294967296 → na ≡ y + B * G → G + g ≡ g * A → top + g ≡ g * t → nb ≡ low + A * x → x + B * top ≡ t * y + cl
    → nb + g * (4294967296 * (t * A)) ≡ na * (t * A) + (low + A * cl) + g * 4294967296
right_join zero t A B na nb low x y cl top G bit whole e ones above f h =
    let none = ap (λ (v : ℕ). B * v) (let i : G ≡ 0 = omega (arith, ones) in i) in
    let no_top = ap (λ (v : ℕ). B * v) (let i : top ≡ 0 = omega (arith, above) in i) in
    let one = ap (λ (v : ℕ). A * v) (let i : x ≡ t * y + cl = omega (arith, h, no_top) in i) in
    let two = ap (λ (v : ℕ). v * (t * A)) (let i : na ≡ y = omega (arith, e, none) in i) in
    omega (arith, f, one, two)
right_join (suc zero) t A B na nb low x y cl top G bit whole e ones above f h =
    let one = ap (λ (v : ℕ). A * v) h in
    let two = ap (λ (v : ℕ). v * (t * A)) e in
    let three = ap (λ (v : ℕ). v * top) whole in
    let four = ap (λ (v : ℕ). v * (G * t)) whole in
    let five = ap (λ (v : ℕ). v * t) (let i : G + 1 ≡ A = omega (arith, ones) in i) in
    omega (arith, f, above, one, two, three, four, five)
right_join (suc (suc g)) t A B na nb low x y cl top G bit whole e ones above f h = absurd (omega (arith, bit))

rest_small : (t A low cl : ℕ) → low < A → cl < t → low + A * cl < t * A
rest_small t A low cl p q =
    let most = mul-le A (cl + 1) A t (omega arith) (omega arith) in
    omega (arith, most)

-- the quotient, and g in the places above it
shifted_quotient : (g na nb P rem by : ℕ) → g ≤ 1 → 2 ^ by ≡ P → by < 32 → rem < P → nb + g * (4294967296 * P) ≡ na * P + rem + g * 4294967296 → na ≡ shifted_in g nb by
shifted_quotient zero na nb P rem by bit power by_low small whole =
    let is : nb ≡ na * P + rem = omega (arith, whole) in
    let same : nb / 2 ^ by ≡ na = ap (λ (v : ℕ). v / 2 ^ by) is ∙ ap (λ (v : ℕ). (na * P + rem) / v) power ∙ div-mul-add na P rem small in
    omega (arith, same)
shifted_quotient (suc zero) na nb P rem by bit power by_low small whole =
    let M : ℕ = 2 ^ (32 - by) in
    let Q : ℕ = nb / P in
    let R : ℕ = nb % P in
    let D : ℕ = 4294967296 - M in
    let all : 32 - by + by ≡ 32 = omega arith in
    let product : M * P ≡ 4294967296 = ap (λ (v : ℕ). M * v) (sym power) ∙ sym (pow-add 2 (32 - by) by) ∙ ap (λ (k : ℕ). 2 ^ k) all in
    let few : M * 1 ≤ M * P = mul-le M 1 M P (omega arith) (omega arith) in
    let apart : D + M ≡ 4294967296 = omega (arith, few, product) in
    let scaled : D * P + M * P ≡ 4294967296 * P = sym (ap (λ (v : ℕ). v * P) (sym apart) ∙ omega arith) in
    let parts : Q * P + R ≡ nb = div-add-mod' nb P in
    let left : R < P = mod-lt nb (omega arith) in
    let same : na * P + rem ≡ (Q + D) * P + R = omega (arith, whole, scaled, product, parts) in
    let quotient : na ≡ Q + D = (same_from_place na rem (Q + D) R P small left same).0 in
    let is : Q ≡ nb / 2 ^ by = ap (λ (v : ℕ). nb / v) (sym power) in
    omega (arith, quotient, is)
shifted_quotient (suc (suc g)) na nb P rem by bit power by_low small whole = absurd (omega (arith, bit))

pub right_word : (g t l n : ℕ) (a b c : ℕ → ℕ) (by : ℕ) → g ≤ 1 → ((i : ℕ) → i < 4 → b i < 256) → IsRight t g l n a b c → 2 ^ by ≡ t * 256 ^ l → by < 32 → N a 4 ≡ shifted_in g (N b 4) by
right_word g t l n a b c by bit bytes h power by_low =
    let turned : 4 ≡ n + l = omega (arith, h.four) in
    let steps = chain t (λ i. b (l + i)) a (λ i. c (l + i)) n h.steps in
    let first : c (l + 0) ≡ c l = ap c (add-zero l) in
    let steps1 : N (λ i. b (l + i)) n + 256 ^ n * c (l + n) ≡ t * N a n + c l = omega (arith, steps, first) in
    let whole = right_join g t (256 ^ l) (256 ^ n) (N a 4) (N b 4) (N b l) (N (λ i. b (l + i)) n) (N a n) (c l) (c (l + n)) (N (λ j. a (n + j)) l) bit (whole_power l n h.four) (split a n l 4 turned)
    (same_limbs (λ j. a (n + j)) g l h.above) h.top (split b l n 4 h.four) steps1 in
    let low : N b l < 256 ^ l = number_of_digits-lt 256 b l (λ i lt. bytes i (omega (arith, h.four))) in
    shifted_quotient g (N a 4) (N b 4) (t * 256 ^ l) (N b l + 256 ^ l * c l) by bit power by_low (rest_small t (256 ^ l) (N b l) (c l) low h.small) whole
