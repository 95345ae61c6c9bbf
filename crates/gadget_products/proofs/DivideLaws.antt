-- The division of a word by a word, from the field to whole numbers and back.
use Rattle.std.proofs.Common.{◌≡◌, ℕ, ◌+◌, ◌*◌, ◌^◌, ◌<◌, ◌≤◌, List, [], ◌∷◌, length, refl, sym, ap, ◌∙◌, arith}
use Rattle.std.specs.List.{AllByRecursion}
use Rattle.std.proofs.lemmas.Nat.{mul-le}
use Rattle.vm_field.specs.Field.{field_add}
use Rattle.vm_field.specs.declared.limbs.Limbs.{Limbs}
use Rattle.vm_field.specs.Limbs.{list_of}
use Rattle.vm_word.specs.Word.{word_of_limbs}
use Rattle.vm_isa.specs.Words.{IsBytes}
use Rattle.gadget_limbs.specs.Number.{number_of}
use Rattle.gadget_limbs.proofs.LimbsLaws.{list_is_word, word_below}
use Rattle.gadget_products.specs.Product.{places}
use Rattle.gadget_products.specs.Carry.{last_carry}
use Rattle.gadget_products.specs.Divide.{added, six, division_sums, division_carries, division_top}
use Rattle.gadget_products.specs.Laws.{AreSums, Below11}
use Rattle.gadget_products.proofs.CarryLaws.{chain_law, chain_back, last_small}
use Rattle.gadget_products.proofs.PlaceLaws.{places_are, places_small, places_long, product_law, above, above_six, whole_places}
use Rattle.air_core.specs.Ring.{field}

-- the sums of two lists, place by place
record Added (xs ys : List ℕ) : Type 0 where
  number : number_of ((added field) xs ys) ≡ number_of xs + number_of ys
  small : AreSums ((added field) xs ys)
  long : length ((added field) xs ys) ≡ length ys

added_law : (xs ys : List ℕ) → length xs ≡ length ys → AllByRecursion (λ s. s ≤ 260100) xs → IsBytes ys → Added xs ys
unfolding added
added_law [] [] e p q = record { number = omega arith; small = tt; long = refl }
added_law (x ∷ xs) (y ∷ ys) e p q =
    let rest = added_law xs ys (omega arith) p.1 q.1 in
    let here : field_add x y ≡ x + y = omega (arith, p.0, q.0) in
    record { number = omega (arith, here, rest.number); small = (omega (arith, here, p.0, q.0), rest.small); long = omega (arith, rest.long) }
added_law [] (y ∷ ys) e p q = absurd (omega arith)
added_law (x ∷ xs) [] e p q = absurd (omega arith)

six_number : (w : Limbs ℕ) → number_of ((six field) w) ≡ word_of_limbs (list_of w)
unfolding list_of
six_number w = omega arith

six_long : (w : Limbs ℕ) → length ((six field) w) ≡ 6
unfolding list_of
six_long w = refl

six_bytes : (w : Limbs ℕ) → IsBytes (list_of w) → IsBytes ((six field) w)
unfolding list_of
six_bytes w h = (h.0, (h.1.0, (h.1.1.0, (h.1.1.1.0, (omega arith, (omega arith, tt))))))

four_long : (w : Limbs ℕ) → length (list_of w) ≡ 4
unfolding list_of
four_long w = refl

top_byte : (w : Limbs ℕ) → IsBytes (list_of w) → w.x3 < 256
unfolding list_of
top_byte w h = h.1.1.1.0

above_words : (c q : Limbs ℕ) → above (list_of c) (list_of q) 6 ≡ c.x3 * q.x3
unfolding list_of
above_words c q = above_six c.x0 c.x1 c.x2 c.x3 q.x0 q.x1 q.x2 q.x3

-- what the sums of a division are
record Sums (c q r : Limbs ℕ) : Type 0 where
  number : word_of_limbs (list_of c) * word_of_limbs (list_of q) + word_of_limbs (list_of r) ≡ number_of ((division_sums field) c q r) + 2 ^ 48 * (c.x3 * q.x3)
  small : AreSums ((division_sums field) c q r)
  long : length ((division_sums field) c q r) ≡ 6

sums : (c q r : Limbs ℕ) → IsBytes (list_of c) → IsBytes (list_of q) → IsBytes (list_of r) → Sums c q r
unfolding division_sums
sums c q r p s t =
    let ss = whole_places (list_of c) (list_of q) 0 6 in
    let same : (places field) (list_of c) (list_of q) 0 6 ≡ ss = places_are (list_of c) (list_of q) 0 6 p s (omega (arith, four_long c)) in
    let a : Added ((places field) (list_of c) (list_of q) 0 6) ((six field) r) = rw same (added_law ss ((six field) r) (places_long (list_of c) (list_of q) 0 6 ∙ sym (six_long r)) (places_small 4 (list_of c) (list_of q) 0 6 p s (omega (arith, four_long c))) (six_bytes r t)) in
    let law = product_law (list_of c) (list_of q) 6 in
    let product : word_of_limbs (list_of c) * word_of_limbs (list_of q) ≡ number_of (list_of c) * number_of (list_of q) = rw (list_is_word c, list_is_word q) refl in
    record {
      number = omega (arith, a.number, six_number r, product, law, above_words c q, ap number_of same);
      small = a.small;
      long = a.long ∙ six_long r;
    }

-- carries below 2^11 and a top of 0 say that b is c * q + r
pub division_law : (b c q r : Limbs ℕ) → IsBytes (list_of b) → IsBytes (list_of c) → IsBytes (list_of q) → IsBytes (list_of r) → Below11 ((division_carries field) b c q r) → (division_top field) b c q r ≡ 0
    → word_of_limbs (list_of c) * word_of_limbs (list_of q) + word_of_limbs (list_of r) ≡ word_of_limbs (list_of b)
unfolding division_carries division_top
division_law b c q r o p s t h top =
    let all = sums c q r p s t in
    let k = (last_carry field) 0 ((division_sums field) c q r) ((six field) b) in
    let k_small : k < 2048 = last_small 0 ((division_sums field) c q r) ((six field) b) (omega arith) h in
    let x_small : c.x3 * q.x3 ≤ 65025 = mul-le c.x3 q.x3 255 255 (omega (arith, top_byte c p)) (omega (arith, top_byte q s)) in
    let chain = chain_law 0 ((division_sums field) c q r) ((six field) b) (all.long ∙ sym (six_long b)) all.small (six_bytes b o) (omega arith) h in
    let at : number_of ((division_sums field) c q r) + 0 ≡ number_of ((six field) b) + 256 ^ 6 * k = rw (six_long b) at chain in
    omega (arith, at, all.number, six_number b, k_small, x_small, top)

-- and back
pub division_holds : (b c q r : Limbs ℕ) → IsBytes (list_of b) → IsBytes (list_of c) → IsBytes (list_of q) → IsBytes (list_of r)
    → word_of_limbs (list_of c) * word_of_limbs (list_of q) + word_of_limbs (list_of r) ≡ word_of_limbs (list_of b)
    → Below11 ((division_carries field) b c q r) × ((division_top field) b c q r ≡ 0)
unfolding division_carries division_top
division_holds b c q r o p s t e =
    let all = sums c q r p s t in
    let x : c.x3 * q.x3 ≡ 0 = omega (arith, all.number, e, word_below b o) in
    let at : number_of ((division_sums field) c q r) + 0 ≡ number_of ((six field) b) + 256 ^ length ((six field) b) * 0 = omega (arith, all.number, e, x, six_number b) in
    let is = chain_back 0 0 ((division_sums field) c q r) ((six field) b) (all.long ∙ sym (six_long b)) all.small (six_bytes b o) (omega arith) at in
    (is.small, omega (arith, x, is.last))
