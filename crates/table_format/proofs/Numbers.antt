-- Numbers that are read one after another.
use Rattle.std.proofs.Common.{◌≡◌, ℕ, zero, suc, ◌+◌, ◌*◌, ◌<◌, true, false, Option, Some, None, unwrap_or, List, [], ◌∷◌, ◌++◌, length, take, drop, set, refl, sym, subst, ap, ◌∙◌, append_assoc, arith, length-take, length-drop}
use Rattle.std.specs.Prelude.{SomeIff, IsTrue, is_some}
use Rattle.std.specs.List.{AllByRecursion}
use Rattle.std.specs.Int.{w32, from_le_bytes}
use Rattle.vm_field.specs.Field.{modulus}
use Rattle.vm_host.specs.declared.Slot.TheVariants.{Second}
use Rattle.vm_host.specs.State.{HostState}
use Rattle.std.proofs.lemmas.List.{append-nil, drop-drop, nil_from_length, take-append-drop, take_more_set}
use Rattle.table_format.specs.Order.{element, elements, next_place}
use Rattle.table_format.specs.Stream.{Held, Gives, numbers_of, AreElements}
use Rattle.table_format.proofs.Drawn.{Drew, drew_held, drew_more}

-- one more number
numbers_more : (i : ℕ) (text : List ℕ) → numbers_of (suc i) text ≡ numbers_of i text ++ from_le_bytes w32 (take 4 (drop (4 * i) text)) ∷ []
numbers_more zero text = refl
numbers_more (suc i) text =
    let next : 4 + 4 * i ≡ 4 * suc i = omega arith in
    ap (λ xs. from_le_bytes w32 (take 4 text) ∷ xs) (numbers_more i (drop 4 text))
    ∙ ap (λ xs. from_le_bytes w32 (take 4 text) ∷ (numbers_of i (drop 4 text) ++ from_le_bytes w32 (take 4 xs) ∷ [])) (drop-drop (4 * i) 4 text ∙ ap (λ n. drop n text) next)

-- which is that of an element as the others
elements_more : (i : ℕ) (text : List ℕ) → AllByRecursion (λ n. n < modulus) (numbers_of i text) → from_le_bytes w32 (take 4 (drop (4 * i) text)) < modulus → AllByRecursion (λ n. n < modulus) (numbers_of (suc i) text)
elements_more zero text all low = (low, tt)
elements_more (suc i) text all low =
    let next : 4 * suc i ≡ 4 + 4 * i = omega arith in
    let there : drop (4 * suc i) text ≡ drop (4 * i) (drop 4 text) = ap (λ n. drop n text) next ∙ sym (drop-drop (4 * i) 4 text) in
    (all.0, elements_more i (drop 4 text) all.1 (subst (λ (xs : List ℕ). from_le_bytes w32 (take 4 xs) < modulus) there low))

-- and takes its place among the values
pub read_more : (i : ℕ) (text values : List ℕ) (n : ℕ) → i < length values → n ≡ from_le_bytes w32 (take 4 (drop (4 * i) text)) → n < modulus → AreElements i text (take i values)
    → AreElements (i + 1) text (take (i + 1) (set values i n))
read_more i text values n lt is low before =
    let next : suc i ≡ i + 1 = omega arith in (
      take_more_set values i n lt ∙ ap (λ xs. xs ++ n ∷ []) before.0 ∙ ap (λ m. numbers_of i text ++ m ∷ []) is ∙ sym (numbers_more i text) ∙ ap (λ k. numbers_of k text) next,
      subst (λ (k : ℕ). AllByRecursion (λ n. n < modulus) (numbers_of k text)) next (elements_more i text before.1 (subst (λ (m : ℕ). m < modulus) is low)),
    )

-- the value that stands where one was found
pub value_found : (found : Option ℕ) (Fits : Type 0) (n value : ℕ) → SomeIff found Fits n → value ≡ unwrap_or found 0 → IsTrue (is_some found) → Fits × (value ≡ n)
value_found None Fits n value h is some = let none : false ≡ true = some in absurd (cc)
value_found (Some x) Fits n value h is some = (h.0, is ∙ h.1)

abbrev held_at : ℕ → List ℕ → Held
held_at at ahead = record { at = at; ahead = ahead }

-- so many numbers are read, where the bytes of all of them are held
pub drew_numbers : (s : HostState) (count : ℕ) (first a b : Held) (done : ℕ) (before bytes : List ℕ) → (s.input Second).is_open ≡ true → AllByRecursion (λ n. n < modulus) (numbers_of count bytes)
    → Drew (elements done) first a s s before → Gives a b (4 * count) bytes → Drew (elements (done + count)) first b s s (before ++ numbers_of count bytes)
drew_numbers s zero first a b done before bytes is_open low drew gives =
    let none : bytes ≡ [] = nil_from_length bytes gives.number in
    let aheads : a.ahead ≡ b.ahead = gives.parts ∙ ap (λ xs. xs ++ b.ahead) none in
    let place : a.at ≡ b.at = omega (arith, gives.place) in
    let same : a ≡ b = ap (λ n. held_at n a.ahead) place ∙ ap (λ xs. held_at b.at xs) aheads in
    let more : done ≡ done + 0 = omega arith in
    subst (λ (vs : List ℕ). Drew (elements (done + 0)) first b s s vs) (sym (append-nil before)) (subst (λ (n : ℕ). Drew (elements n) first b s s before) more (subst (λ (k : Held). Drew (elements done) first k s s before) same drew))
drew_numbers s (suc count) first a b done before bytes is_open low drew gives =
    let n : ℕ = from_le_bytes w32 (take 4 bytes) in
    let mid : Held = held_at (a.at + 4) (drop 4 bytes ++ b.ahead) in
    let now : Gives a mid 4 (take 4 bytes) = record {
      parts = gives.parts ∙ ap (λ xs. xs ++ b.ahead) (sym (take-append-drop 4 bytes)) ∙ append_assoc (take 4 bytes) (drop 4 bytes) b.ahead;
      number = omega (arith, length-take 4 bytes, gives.number);
      place = refl;
    } in
    let rest : Gives mid b (4 * count) (drop 4 bytes) = record {
      parts = refl;
      number = omega (arith, length-drop 4 bytes, gives.number);
      place = omega (arith, gives.place);
    } in
    let more : Drew (elements (done + 1)) first mid s s (before ++ n ∷ []) = drew_more (λ i. element) next_place 0 done drew (drew_held s n (take 4 bytes) is_open low.0 refl now) in
    let all = drew_numbers s count first mid b (done + 1) (before ++ n ∷ []) (drop 4 bytes) is_open low.1 more rest in
    let number : (done + 1) + count ≡ done + suc count = omega arith in
    subst (λ (vs : List ℕ). Drew (elements (done + suc count)) first b s s vs) (append_assoc before (n ∷ []) (numbers_of count (drop 4 bytes))) (subst (λ (k : ℕ). Drew (elements k) first b s s ((before ++ n ∷ []) ++ numbers_of count (drop 4 bytes))) number all)
