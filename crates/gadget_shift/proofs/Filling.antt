-- The limbs of a shifted word, from their carries.
use Rattle.std.proofs.Common.{◌≡◌, ℕ, zero, suc, ◌+◌, ◌-◌, ◌*◌, ◌/◌, ◌%◌, ◌^◌, ◌<◌, ◌≤◌, nat_lt, if◌then◌else◌, refl, sym, ap, ◌∙◌, subst, inl, inr, arith, add-one}
use Rattle.std.proofs.Math.Nat.{mod-lt}
use Rattle.std.proofs.lemmas.Nat.{mod-mul-add, div-mul-add, mul-add-lt, div-add-mod', div_below}
use Rattle.std.proofs.lemmas.Bool.{lt-ltb, le-ltb, cases_lt}
use Rattle.vm_word.specs.Digits.{digit}
use Rattle.vm_word.specs.Arithmetic.{shifted_left}
use Rattle.gadget_shift.specs.Laws.{shifted_in}
use Rattle.vm_word.proofs.DigitLemmas.{digit-number_of_digits}
use Rattle.gadget_shift.proofs.Numbers.{N, IsLeft, IsRight, left_word, right_word}

-- T and what is left of a limb
pub record IsPower (t u : ℕ) : Type 0 where
  pub some : 0 < t
  pub more : 0 < u
  pub whole : t * u ≡ 256

-- what goes out of a limb to the left, and what stays
out_left : (t u b : ℕ) → IsPower t u → (b * t / 256 ≡ b / u) × (b * t % 256 ≡ b % u * t)
out_left t u b p =
    let q : ℕ = b / u in
    let r : ℕ = b % u in
    let parts : q * u + r ≡ b = div-add-mod' b u in
    let small : r < u = mod-lt b p.more in
    let scaled : (q * u + r) * t ≡ b * t = ap (λ (v : ℕ). v * t) parts in
    let regroup : q * u * t ≡ q * 256 = let e : q * u * t ≡ q * (t * u) = omega arith in e ∙ ap (λ (v : ℕ). q * v) p.whole in
    let low : r * t + 0 < 256 = subst (λ (v : ℕ). r * t + 0 < v) p.whole (mul-add-lt r t 0 u small p.some) in
    let is : b * t ≡ q * 256 + r * t = omega (arith, scaled, regroup) in
    (ap (λ (v : ℕ). v / 256) is ∙ div-mul-add q 256 (r * t) (omega arith), ap (λ (v : ℕ). v % 256) is ∙ mod-mul-add q 256 (r * t) (omega arith))

-- digits that make a number
digits : (d e : ℕ → ℕ) (w : ℕ) → ((i : ℕ) → i < 4 → d i < 256) → N d 4 ≡ w → ((i : ℕ) → i < 4 → e i ≡ digit 256 w i) → (i : ℕ) → i < 4 → e i ≡ d i
digits d e w bytes is h i low = h i low ∙ ap (λ (v : ℕ). digit 256 v i) (sym is) ∙ digit-number_of_digits 256 d 4 i bytes low

top_small : (g t c : ℕ) → 0 < t → g ≤ 1 → c + g ≡ g * t → c < t
top_small zero t c some low e = omega arith
top_small (suc zero) t c some low e = omega arith
top_small (suc (suc g)) t c some low e = absurd (omega arith)

module _ (t u l n : ℕ) (p : IsPower t u) (four : 4 ≡ l + n) (b c : ℕ → ℕ) (bytes : (i : ℕ) → i < 4 → b i < 256) where
  -- ---- to the left
  left_limbs : ℕ → ℕ
  left_limbs j = if nat_lt j l then 0 else b (j - l) % u * t + c (j - l)

  module _ (none : c 0 ≡ 0) (out : (i : ℕ) → i < 4 → c (i + 1) ≡ b i * t / 256) where
    pub carry_small : (i : ℕ) → i < 5 → c i < t
    carry_small zero low = omega (arith, none, p.some)
    carry_small (suc i) low =
        let at : c (i + 1) ≡ c (suc i) = ap c (add-one i) in
        let is : c (i + 1) ≡ b i / u = out i (omega arith) ∙ (out_left t u (b i) p).0 in
        let small : b i / u < t = div_below (b i) u t p.more (omega (arith, bytes i (omega arith), p.whole)) in
        omega (arith, at, is, small)

    left_shape : IsLeft t l n left_limbs b c
    unfolding left_limbs
    left_shape = record {
      four = four;
      below = λ j low. rw (lt-ltb j l low) refl;
      none = none;
      steps = λ i low.
          let at : l + i - l ≡ i = omega arith in
          let is : c (i + 1) ≡ b i / u = out i (omega (arith, four)) ∙ (out_left t u (b i) p).0 in
          let parts : b i / u * u + b i % u ≡ b i = div-add-mod' (b i) u in
          let scaled : (b i / u * u + b i % u) * t ≡ b i * t = ap (λ (v : ℕ). v * t) parts in
          let regroup : b i / u * u * t ≡ b i / u * 256 = let e : b i / u * u * t ≡ b i / u * (t * u) = omega arith in e ∙ ap (λ (v : ℕ). b i / u * v) p.whole in
          rw (le-ltb (l + i) l (omega arith), at, is) (omega (arith, scaled, regroup));
    }

    left_bytes : (j : ℕ) → j < 4 → left_limbs j < 256
    unfolding left_limbs
    left_bytes j low = elim (cases_lt j l) [
      | inl under ↦ rw (lt-ltb j l under) (omega arith)
      | inr over ↦ rw (le-ltb j l over) (subst (λ (v : ℕ). b (j - l) % u * t + c (j - l) < v) p.whole (mul-add-lt (b (j - l) % u) t (c (j - l)) u (mod-lt (b (j - l)) p.more) (carry_small (j - l) (omega arith))))
    ]

    -- the limbs of the shifted word are these
    pub left_fill : (a : ℕ → ℕ) (by : ℕ) → 2 ^ by ≡ t * 256 ^ l → ((i : ℕ) → i < 4 → a i ≡ digit 256 (shifted_left (N b 4) by) i) → IsLeft t l n a b c
    left_fill a by power is =
        let same = digits left_limbs a (shifted_left (N b 4) by) left_bytes (left_word t l n left_limbs b c by left_shape left_bytes power) is in
        let s = left_shape in
        record {
          four = four;
          below = λ j low. same j (omega (arith, four)) ∙ s.below j low;
          none = none;
          steps = λ i low. rw (same (l + i) (omega (arith, four))) (s.steps i low);
        }

  -- ---- to the right
  right_limbs : ℕ → ℕ → ℕ
  right_limbs g j = if nat_lt j n then b (l + j) / t + u * c (l + j + 1) else 255 * g

  module _ (g : ℕ) (bit : g ≤ 1) (out : (i : ℕ) → i < 4 → c i ≡ b i % t) (top : c 4 + g ≡ g * t) where
    right_small : (i : ℕ) → i < 5 → c i < t
    right_small i low = elim (cases_lt i 4) [
      | inl under ↦ rw (out i under) (mod-lt (b i) p.some)
      | inr over ↦ let at : i ≡ 4 = omega arith in rw at (top_small g t (c 4) p.some bit top)
    ]

    right_shape : l < 4 → IsRight t g l n (right_limbs g) b c
    unfolding right_limbs
    right_shape l_low = record {
      four = four;
      above = λ j low. rw (le-ltb (n + j) n (omega arith)) refl;
      top = rw (← four) top;
      small = right_small l (omega arith);
      steps = λ i low.
          let is : c (l + i) ≡ b (l + i) % t = out (l + i) (omega (arith, four)) in
          let next : c (l + (i + 1)) ≡ c (l + i + 1) = ap c (let e : l + (i + 1) ≡ l + i + 1 = omega arith in e) in
          let parts : b (l + i) / t * t + b (l + i) % t ≡ b (l + i) = div-add-mod' (b (l + i)) t in
          let regroup : t * (u * c (l + i + 1)) ≡ 256 * c (l + i + 1) = let e : t * (u * c (l + i + 1)) ≡ t * u * c (l + i + 1) = omega arith in e ∙ ap (λ (v : ℕ). v * c (l + i + 1)) p.whole in
          rw (lt-ltb i n low, next, is) (omega (arith, parts, regroup));
    }

    right_bytes : (j : ℕ) → j < 4 → right_limbs g j < 256
    unfolding right_limbs
    right_bytes j low = elim (cases_lt j n) [
      | inl under ↦ rw (lt-ltb j n under) (
          let small : b (l + j) / t < u = div_below (b (l + j)) t u p.some (omega (arith, bytes (l + j) (omega (arith, four)), p.whole)) in
          let sum = mul-add-lt (c (l + j + 1)) u (b (l + j) / t) t (right_small (l + j + 1) (omega (arith, four))) small in
          omega (arith, sum, p.whole))
      | inr over ↦ rw (le-ltb j n over) (omega arith)
    ]

    right_same : (a : ℕ → ℕ) → l < 4 → ((i : ℕ) → i < 4 → a i ≡ right_limbs g i) → IsRight t g l n a b c
    right_same a l_low same =
        let s = right_shape l_low in
        record {
          four = four;
          above = λ j low. same (n + j) (omega (arith, four)) ∙ s.above j low;
          top = s.top;
          small = s.small;
          steps = λ i low. rw (same i (omega (arith, four))) (s.steps i low);
        }

-- the limbs of the shifted word, to the right
pub right_fill : (t u l n : ℕ) → IsPower t u → 4 ≡ l + n → l < 4 → (g : ℕ) → g ≤ 1 → (b c : ℕ → ℕ) → ((i : ℕ) → i < 4 → b i < 256) → ((i : ℕ) → i < 4 → c i ≡ b i % t) → c 4 + g ≡ g * t
    → (a : ℕ → ℕ) (by : ℕ) → 2 ^ by ≡ t * 256 ^ l → by < 32 → ((i : ℕ) → i < 4 → a i ≡ digit 256 (shifted_in g (N b 4) by) i) → IsRight t g l n a b c
right_fill t u l n p four l_low g bit b c bytes out top a by power by_low is =
    let limbs = right_limbs t u l n p four b c bytes g in
    let shape = right_shape t u l n p four b c bytes g bit out top l_low in
    let limbs_small = right_bytes t u l n p four b c bytes g bit out top in
    let word = right_word g t l n limbs b c by bit bytes shape power by_low in
    right_same t u l n p four b c bytes g bit out top a l_low (digits limbs a (shifted_in g (N b 4) by) limbs_small word is)
