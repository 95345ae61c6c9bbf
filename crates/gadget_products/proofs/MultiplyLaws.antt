-- The product of two words of four limbs, each extended to eight.
use Rattle.std.proofs.Common.{◌≡◌, ℕ, ◌+◌, ◌-◌, ◌*◌, ◌/◌, ◌%◌, ◌^◌, ◌<◌, ◌≤◌, List, [], ◌∷◌, ◌++◌, length, refl, sym, ap, subst, ◌∙◌, arith}
use Rattle.vm_field.specs.Field.{field_mul}
use Rattle.vm_field.specs.declared.limbs.Limbs.{Limbs}
use Rattle.vm_field.specs.Limbs.{list_of}
use Rattle.vm_word.specs.Word.{word_of_limbs}
use Rattle.vm_isa.specs.Words.{IsBytes}
use Rattle.gadget_limbs.specs.Number.{number_of}
use Rattle.gadget_limbs.proofs.LimbsLaws.{word_below}
use Rattle.gadget_products.specs.Product.{places}
use Rattle.gadget_products.specs.Carry.{carries, last_carry}
use Rattle.gadget_products.specs.Multiply.{extended, product_carries}
use Rattle.gadget_products.specs.Laws.{Below11, CarriesAre, extended_word}
use Rattle.gadget_products.proofs.CarryLaws.{chain_law, chain_back}
use Rattle.gadget_products.proofs.PlaceLaws.{places_are, places_small, places_long, product_law, above, whole_places}
use Rattle.air_core.specs.Ring.{field}

-- ---- numbers of limbs, of any length

-- carries below 2^11 say that the limbs are the product's, but for what is left above them
pub limbs_of_product : (n : ℕ) (bs cs qs : List ℕ) → length qs ≡ n → IsBytes bs → IsBytes cs → IsBytes qs → length bs ≤ 8 → Below11 ((carries field) 0 ((places field) bs cs 0 n) qs)
    → number_of bs * number_of cs ≡ number_of qs + 256 ^ n * ((last_carry field) 0 ((places field) bs cs 0 n) qs + above bs cs n)
limbs_of_product n bs cs qs long p q r few h =
    let ss = whole_places bs cs 0 n in
    let same : (places field) bs cs 0 n ≡ ss = places_are bs cs 0 n p q few in
    let small : Below11 ((carries field) 0 ss qs) = subst (λ (xs : List ℕ). Below11 ((carries field) 0 xs qs)) same h in
    let chain = chain_law 0 ss qs (places_long bs cs 0 n ∙ sym long) (places_small 8 bs cs 0 n p q few) r (omega arith) small in
    let at : number_of ss + 0 ≡ number_of qs + 256 ^ n * (last_carry field) 0 ss qs = rw long at chain in
    rw same (omega (arith, product_law bs cs n, at))

-- and the limbs of the product have such carries
pub product_of_limbs : (n out : ℕ) (bs cs qs : List ℕ) → length qs ≡ n → IsBytes bs → IsBytes cs → IsBytes qs → length bs ≤ 8
    → number_of (whole_places bs cs 0 n) + 0 ≡ number_of qs + 256 ^ n * out → CarriesAre 0 ((places field) bs cs 0 n) qs out
product_of_limbs n out bs cs qs long p q r few e =
    let ss = whole_places bs cs 0 n in
    rw (places_are bs cs 0 n p q few) (chain_back 0 out ss qs (places_long bs cs 0 n ∙ sym long) (places_small 8 bs cs 0 n p q few) r (omega arith) (rw long e))

-- ---- words

bytes_append : (xs ys : List ℕ) → IsBytes xs → IsBytes ys → IsBytes (xs ++ ys)
bytes_append [] ys p q = q
bytes_append (x ∷ xs) ys p q = (p.0, bytes_append xs ys p.1 q)

pub extended_bytes : (g : ℕ) (w : Limbs ℕ) → g ≤ 1 → IsBytes (list_of w) → IsBytes ((extended field) g w)
unfolding extended
extended_bytes g w small p = let e : field_mul 255 g < 256 = omega arith in bytes_append (list_of w) _ p (e, (e, (e, (e, tt))))

pub extended_number : (g : ℕ) (w : Limbs ℕ) → g ≤ 1 → number_of ((extended field) g w) ≡ word_of_limbs (list_of w) + (2 ^ 64 - 2 ^ 32) * g
unfolding extended list_of
extended_number g w small = omega arith

-- eight limbs
two_words : (v w : Limbs ℕ) → number_of (list_of v ++ list_of w) ≡ word_of_limbs (list_of v) + 2 ^ 32 * word_of_limbs (list_of w)
unfolding list_of
two_words v w = omega arith

remainder_is : (x q o : ℕ) → x ≡ q + 2 ^ 64 * o → q < 2 ^ 64 → q ≡ x % 2 ^ 64
remainder_is x q o e low = omega arith

left_over : (x s a q : ℕ) → x ≡ s + 2 ^ 64 * a → q ≡ x % 2 ^ 64 → s + 0 ≡ q + 2 ^ 64 * (x / 2 ^ 64 - a)
left_over x s a q e h = omega arith

extended_long : (g : ℕ) (w : Limbs ℕ) → length ((extended field) g w) ≡ 8
unfolding extended list_of
extended_long g w = refl

eight_long : (v w : Limbs ℕ) → length (list_of v ++ list_of w) ≡ 8
unfolding list_of
eight_long v w = refl

eight_below : (low high : Limbs ℕ) → IsBytes (list_of low) → IsBytes (list_of high) → number_of (list_of low ++ list_of high) < 2 ^ 64
eight_below low high r s = omega (arith, two_words low high, word_below low r, word_below high s)

-- the limbs are the product modulo 2^64
pub multiply_law : (gb gc : ℕ) (b c low high : Limbs ℕ) → gb ≤ 1 → gc ≤ 1 → IsBytes (list_of b) → IsBytes (list_of c) → IsBytes (list_of low) → IsBytes (list_of high)
    → Below11 ((product_carries field) gb gc b c low high)
    → word_of_limbs (list_of low) + 2 ^ 32 * word_of_limbs (list_of high) ≡ extended_word gb (word_of_limbs (list_of b)) * extended_word gc (word_of_limbs (list_of c)) % 2 ^ 64
unfolding product_carries
multiply_law gb gc b c low high bit_b bit_c p q r s h =
    let law = limbs_of_product 8 ((extended field) gb b) ((extended field) gc c) (list_of low ++ list_of high) (eight_long low high) (extended_bytes gb b bit_b p) (extended_bytes gc c bit_c q)
    (bytes_append (list_of low) (list_of high) r s) (omega (arith, extended_long gb b)) h in
    sym (two_words low high) ∙ remainder_is (number_of ((extended field) gb b) * number_of ((extended field) gc c)) _ _ law (eight_below low high r s)
    ∙ ap (λ (x : ℕ). x * number_of ((extended field) gc c) % 2 ^ 64) (extended_number gb b bit_b)
    ∙ ap (λ (y : ℕ). extended_word gb (word_of_limbs (list_of b)) * y % 2 ^ 64) (extended_number gc c bit_c)

-- and back
pub multiply_holds : (gb gc : ℕ) (b c low high : Limbs ℕ) → gb ≤ 1 → gc ≤ 1 → IsBytes (list_of b) → IsBytes (list_of c) → IsBytes (list_of low) → IsBytes (list_of high)
    → word_of_limbs (list_of low) + 2 ^ 32 * word_of_limbs (list_of high) ≡ extended_word gb (word_of_limbs (list_of b)) * extended_word gc (word_of_limbs (list_of c)) % 2 ^ 64
    → Below11 ((product_carries field) gb gc b c low high)
unfolding product_carries
multiply_holds gb gc b c low high bit_b bit_c p q r s e =
    let bs = (extended field) gb b in
    let cs = (extended field) gc c in
    let is : number_of (list_of low ++ list_of high) ≡ number_of bs * number_of cs % 2 ^ 64 =
    two_words low high ∙ e ∙ sym (ap (λ (x : ℕ). x * number_of cs % 2 ^ 64) (extended_number gb b bit_b)
    ∙ ap (λ (y : ℕ). extended_word gb (word_of_limbs (list_of b)) * y % 2 ^ 64) (extended_number gc c bit_c)) in
    let left = left_over (number_of bs * number_of cs) (number_of (whole_places bs cs 0 8)) (above bs cs 8) _ (product_law bs cs 8) is in
    (product_of_limbs 8 _ bs cs (list_of low ++ list_of high) (eight_long low high) (extended_bytes gb b bit_b p) (extended_bytes gc c bit_c q)
    (bytes_append (list_of low) (list_of high) r s) (omega (arith, extended_long gb b)) left).small
