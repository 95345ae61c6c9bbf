-- What the set flag selects is what its form reads or leaves.
use Rattle.std.proofs.Common.{◌≡◌, ℕ, zero, suc, ◌+◌, ◌-◌, ◌*◌, ◌/◌, ◌^◌, ◌<◌, ◌≤◌, Bool, true, false, ◌&&◌, nat_lt, nat_le, List, [], ◌∷◌, slice_index, take, drop, refl, sym, ap, ◌∙◌, inl, inr, arith, lit≤}
use Rattle.std.specs.Prelude.{if◌then◌else◌}
use Rattle.std.specs.List.{AllByRecursion}
use Rattle.std.proofs.lemmas.Bool.{cases_lt, lt-ltb, le-ltb, lt-leb, le-leb, ltb-true, ltb-false, cond_both, cases_Bool}
use Rattle.std.proofs.lemmas.List.{get_or-take, get_or-drop, get_or_past, length-take}
use Rattle.vm_field.specs.Field.{field_add, field_mul}
use Rattle.vm_field.specs.declared.limbs.Limbs.{Limbs}
use Rattle.vm_field.specs.Limbs.{list_of}
use Rattle.vm_field.proofs.LimbLemmas.{length-list_of}
use Rattle.vm_word.specs.Word.{word_of_limbs, limbs_of}
use Rattle.vm_word.specs.Arithmetic.{sign_extended}
use Rattle.vm_isa.specs.Words.{IsBytes}
use Rattle.vm_isa.specs.Instr.{bit_of}
use Rattle.vm_isa.specs.Results.{extended, number_in, with_low}
use Rattle.air_core.specs.Ring.{field, cell}
use Rattle.gadget_limbs.proofs.LimbsLaws.{byte_at, limbs_of-word}
use Rattle.gadget_limbs.specs.SignLaws.{IsSign}
use Rattle.adapter_mem.specs.declared.forms.AccessForm.{AccessForm}
use Rattle.adapter_mem.specs.Forms.{access_form, form_at, by_form, signed_by}
use Rattle.adapter_mem.specs.MemoryLaws.{IsForm}
use Rattle.adapter_mem.specs.Select.{read_of, top_of, top_by, fill_of, fills_by, loaded_limb, loaded_word, sign_of, stored_of, stored_limb, stored_word}
use Rattle.adapter_mem.specs.SelectLaws.{Extends, IsSelected, AreBytes, SignFilled}
use Rattle.adapter_mem.proofs.FormLemmas.{selects, signed_is, at_form}

-- ---- one limb of a loaded word

abbrev tail : Bool → ℕ → ℕ → ℕ
tail s w j = if nat_lt j 2 then bit_of (s && nat_le w j) else 1

abbrev limb_of : ℕ → (ℕ → ℕ) → ℕ → ℕ → ℕ
limb_of w x g j = if nat_lt j w then x j else 255 * g

tail_none : (w j : ℕ) → w ≤ 2 → j < w → tail true w j ≡ 0
tail_none w j few low = rw (lt-ltb j 2 (omega arith), lt-leb w j low) refl

tail_one : (w j : ℕ) → w ≤ j → tail true w j ≡ 1
tail_one w j high = elim (cases_lt j 2) [ inl under ↦ rw (lt-ltb j 2 under, le-leb w j high) refl | inr over ↦ rw (le-ltb j 2 over) refl ]

limb_is : (s : Bool) (w j g : ℕ) (x : ℕ → ℕ) → x j < 256 → g ≤ 1 → (s ≡ false → g ≡ 0) → (s ≡ true → w ≤ 2) → field_add (if nat_lt j w then x j else 0) (field_mul (tail s w j) (field_mul 255 g)) ≡ limb_of w x g j
limb_is true w j g x low bit none few = elim (cases_lt j w) [
  | inl under ↦ rw (tail_none w j (few refl) under, lt-ltb j w under) (omega arith)
  | inr over ↦ rw (tail_one w j over, le-ltb j w over) (omega arith)
]
limb_is false w j g x low bit none few =
    let zero_g : g ≡ 0 = none refl in
    elim (cases_lt j w) [
      | inl under ↦ rw (zero_g, lt-ltb j w under) (omega arith)
      | inr over ↦ rw (zero_g, le-ltb j w over) (omega arith)
    ]

limb_low : (w j g : ℕ) (x : ℕ → ℕ) → x j < 256 → g ≤ 1 → limb_of w x g j < 256
limb_low w j g x low bit = cond_both (nat_lt j w) (x j) (255 * g) (λ v. v < 256) (λ e. low) (λ e. omega arith)

-- ---- the number that is read

abbrev word_4 : (ℕ → ℕ) → ℕ
word_4 d = d 0 + d 1 * 256 + d 2 * 256 ^ 2 + d 3 * 256 ^ 3

taken : (xs : List ℕ) (h w j : ℕ) → slice_index (take w (drop h xs)) j ≡ limb_of w (λ i. slice_index xs (h + i)) 0 j
taken xs h w j = elim (cases_lt j w) [
  | inl under ↦ rw (lt-ltb j w under) (get_or-take w (drop h xs) j 0 under ∙ get_or-drop h xs j 0)
  | inr over ↦ rw (le-ltb j w over) (get_or_past (take w (drop h xs)) j 0 (omega (arith, length-take w (drop h xs))))
]

number_is : (x : Limbs ℕ) (h w : ℕ) → number_in (list_of x) h w ≡ word_4 (limb_of w (λ i. cell field (list_of x) (h + i)) 0)
unfolding number_in
number_is x h w = rw (taken (list_of x) h w 0, taken (list_of x) h w 1, taken (list_of x) h w 2, taken (list_of x) h w 3) refl

value_1 : (x : ℕ → ℕ) (g : ℕ) → x 0 < 256 → g ≡ x 0 / 128 → word_4 (limb_of 1 x g) ≡ sign_extended 8 (word_4 (limb_of 1 x 0))
value_1 x g low e =
    let n : ℕ = word_4 (limb_of 1 x 0) in
    cond_both (nat_lt n 128) n (n + 4294967040) (λ v. word_4 (limb_of 1 x g) ≡ v) (λ t. omega (arith, ltb-true n 128 t)) (λ t. omega (arith, ltb-false n 128 t))

value_2 : (x : ℕ → ℕ) (g : ℕ) → x 0 < 256 → x 1 < 256 → g ≡ x 1 / 128 → word_4 (limb_of 2 x g) ≡ sign_extended 16 (word_4 (limb_of 2 x 0))
value_2 x g low next e =
    let n : ℕ = word_4 (limb_of 2 x 0) in
    cond_both (nat_lt n 32768) n (n + 4294901760) (λ v. word_4 (limb_of 2 x g) ≡ v) (λ t. omega (arith, ltb-true n 32768 t)) (λ t. omega (arith, ltb-false n 32768 t))

-- the sign of the bytes that a form reads, or 0 where it has none
record Signed (f : AccessForm) (x : Limbs ℕ) (g : ℕ) : Type 0 where
  none : f.signed ≡ false → g ≡ 0
  some : f.signed ≡ true → g ≡ cell field (list_of x) (f.shift + f.width - 1) / 128
  bit : g ≤ 1

narrow : (f : AccessForm) → Extends f → f.signed ≡ true → f.width ≤ 2
narrow f extends on =
    let wide : nat_lt 2 f.width ≡ false = sym (ap (λ (b : Bool). b && nat_lt 2 f.width) on) ∙ extends.0 in
    omega (arith, ltb-false 2 f.width wide)

value_is : (f : AccessForm) (x : Limbs ℕ) (g : ℕ) → IsForm f → Extends f → IsBytes (list_of x) → Signed f x g
    → word_4 (limb_of f.width (λ i. cell field (list_of x) (f.shift + i)) g) ≡ extended f.op (number_in (list_of x) f.shift f.width)
value_is f x g h extends bytes sign =
    let at = cell field (list_of x) in
    let low = λ (i : ℕ). byte_at (list_of x) (f.shift + i) bytes in
    rw (extends.1, number_is x f.shift f.width) (elim (cases_Bool f.signed) [
      | inr off ↦ rw (off, sign.none off) refl
      | inl on ↦ rw on (elim h.widths [
        | inl one ↦
            let last : at (f.shift + f.width - 1) ≡ at (f.shift + 0) = ap at (let e : f.shift + f.width - 1 ≡ f.shift + 0 = omega (arith, one.0) in e) in
            rw one.0 (value_1 (λ i. at (f.shift + i)) g (low 0) (sign.some on ∙ ap (λ (v : ℕ). v / 128) last))
        | inr (inl two) ↦
            let last : at (f.shift + f.width - 1) ≡ at (f.shift + 1) = ap at (let e : f.shift + f.width - 1 ≡ f.shift + 1 = omega (arith, two.0) in e) in
            rw two.0 (value_2 (λ i. at (f.shift + i)) g (low 0) (low 1) (sign.some on ∙ ap (λ (v : ℕ). v / 128) last))
        | inr (inr four) ↦ absurd (omega (arith, narrow f extends on, four.0))
      ])
    ])

-- ---- the bytes that a store leaves

laid_1 : (w x : Limbs ℕ) (h : ℕ) → h < 4 → (let f = access_form 0 h 1 false in with_low (list_of x) h 1 (list_of w) ≡ stored_of field w x 0 f ∷ stored_of field w x 1 f ∷ stored_of field w x 2 f ∷ stored_of field w x 3 f ∷ [])
unfolding with_low list_of
laid_1 w x zero low = refl
laid_1 w x (suc zero) low = refl
laid_1 w x (suc (suc zero)) low = refl
laid_1 w x (suc (suc (suc zero))) low = refl
laid_1 w x (suc (suc (suc (suc h)))) low = absurd (omega arith)

laid : (f : AccessForm) (w x : Limbs ℕ) → IsForm f → with_low (list_of x) f.shift f.width (list_of w) ≡ stored_of field w x 0 f ∷ stored_of field w x 1 f ∷ stored_of field w x 2 f ∷ stored_of field w x 3 f ∷ []
unfolding with_low list_of
laid f w x h =
    elim h.widths [
      | inl one ↦ rw one.0 (laid_1 w x f.shift one.1)
      | inr (inl (two, inl none)) ↦ rw (two, none) refl
      | inr (inl (two, inr half)) ↦ rw (two, half) refl
      | inr (inr four) ↦ rw (four.0, four.1) refl
    ]

-- ---- what the flags select

choice : (b : Bool) (v w : ℕ) → v < 256 → w < 256 → (if b then v else w) < 256
choice true v w p q = p
choice false v w p q = q

bit_small : (b : Bool) → bit_of b ≤ 1
bit_small true = lit≤ tt
bit_small false = lit≤ tt

module _ (forms : List AccessForm) (k : ℕ) (flags : List ℕ) (s : IsSelected forms k flags) where
  abbrev f : AccessForm
  f = form_at forms k

  gate_is : signed_by field forms flags ≡ bit_of f.signed
  gate_is = signed_is forms flags k s.below s.hot

  -- the flag that is set selects its form's value, which is a byte
  of_form : (value : AccessForm → ℕ) → ((f : AccessForm) → value f < 256) → by_form field forms flags value ≡ value f
  of_form value low = selects forms flags k value (λ f. omega (arith, low f)) s.below s.hot

  is_form : IsForm f
  is_form = at_form IsForm forms k s.below s.are

  module _ (block : Limbs ℕ) (bytes : IsBytes (list_of block)) where
    at_byte : (i : ℕ) → cell field (list_of block) i < 256
    at_byte i = byte_at (list_of block) i bytes

    top_is : top_by field forms flags block ≡ top_of field block f
    top_is = of_form (top_of field block) (λ f. choice f.signed (cell field (list_of block) (f.shift + f.width - 1)) 0 (at_byte (f.shift + f.width - 1)) (omega arith))

    module _ (extends : AllByRecursion Extends forms) (g : ℕ) (sign : IsSign (signed_by field forms flags) (top_by field forms flags block) g) where
      signed : Signed f block g
      signed = elim (cases_Bool f.signed) [
        | inr off ↦
            let none : g ≡ 0 = sign.off (gate_is ∙ ap bit_of off) in
            record { none = λ e. none; some = λ e. absurd (cc); bit = omega arith }
        | inl on ↦
            let is = sign.on (gate_is ∙ ap bit_of on) in
            let top : top_by field forms flags block ≡ cell field (list_of block) (f.shift + f.width - 1) = top_is ∙ ap (λ (b : Bool). if b then cell field (list_of block) (f.shift + f.width - 1) else 0) on in
            record { none = λ e. absurd (cc); some = λ e. is.1 ∙ ap (λ (v : ℕ). v / 128) top; bit = omega (arith, is.0, is.1) }
      ]

      extends_f : Extends f
      extends_f = at_form Extends forms k s.below extends

      fills_are : (j : ℕ) → fills_by field forms flags j ≡ tail f.signed f.width j
      fills_are j = ap (λ (v : ℕ). if nat_lt j 2 then v else 1) (of_form (fill_of field j) (λ f. omega (arith, bit_small (f.signed && nat_le f.width j))))

      limb : (j : ℕ) → loaded_limb field forms flags block g j ≡ limb_of f.width (λ i. cell field (list_of block) (f.shift + i)) g j
      unfolding loaded_limb
      limb j =
          let read : by_form field forms flags (read_of field block j) ≡ read_of field block j f
          = of_form (read_of field block j) (λ f. choice (nat_lt j f.width) (cell field (list_of block) (f.shift + j)) 0 (at_byte (f.shift + j)) (omega arith)) in
          rw (read, fills_are j) (limb_is f.signed f.width j g (λ i. cell field (list_of block) (f.shift + i)) (at_byte (f.shift + j)) signed.bit signed.none (narrow f extends_f))

      limb_byte : (j : ℕ) → loaded_limb field forms flags block g j < 256
      limb_byte j = rw (limb j) (limb_low f.width j g (λ i. cell field (list_of block) (f.shift + i)) (at_byte (f.shift + j)) signed.bit)

      loaded_bytes : IsBytes (list_of (loaded_word field forms flags block g))
      unfolding list_of
      loaded_bytes = (limb_byte 0, (limb_byte 1, (limb_byte 2, (limb_byte 3, tt))))

      loaded_number : word_of_limbs (list_of (loaded_word field forms flags block g)) ≡ extended f.op (number_in (list_of block) f.shift f.width)
      unfolding list_of
      loaded_number = rw (limb 0, limb 1, limb 2, limb 3) (value_is f block g is_form extends_f bytes signed)

      pub loads_are_read : AreBytes (loaded_word field forms flags block g) (limbs_of (extended f.op (number_in (list_of block) f.shift f.width)))
      loads_are_read =
          let new = loaded_word field forms flags block g in
          record { bytes = loaded_bytes; are = sym (limbs_of-word (list_of new) (record { four = length-list_of new; bytes = loaded_bytes })) ∙ ap limbs_of loaded_number }

    -- ---- the sign of a record

    sign_by : (b : Bool) (gate top g byte : ℕ) → gate ≡ bit_of b → top ≡ (if b then byte else 0) → g ≡ (if b then byte / 128 else 0) → byte < 256 → SignFilled gate top g
    sign_by true gate top g byte p q r low = record { small = omega arith; is = record { off = λ z. absurd (omega arith); on = λ o. (omega arith, omega arith) }; low = omega arith }
    sign_by false gate top g byte p q r low = record { small = omega arith; is = record { off = λ z. r; on = λ o. absurd (omega arith) }; low = omega arith }

    pub signs_are_filled : SignFilled (signed_by field forms flags) (top_by field forms flags block) (sign_of f (list_of block))
    signs_are_filled = sign_by f.signed _ _ (sign_of f (list_of block)) (cell field (list_of block) (f.shift + f.width - 1)) gate_is top_is refl (at_byte (f.shift + f.width - 1))

    -- ---- the block that a store leaves

    module _ (word : Limbs ℕ) (word_bytes : IsBytes (list_of word)) where
      stored_byte : (j : ℕ) (f : AccessForm) → stored_of field word block j f < 256
      stored_byte j f = choice (nat_le f.shift j && nat_lt j (f.shift + f.width)) (cell field (list_of word) (j - f.shift)) (cell field (list_of block) j) (byte_at (list_of word) (j - f.shift) word_bytes) (at_byte j)

      stored : (j : ℕ) → stored_limb field forms flags word block j ≡ stored_of field word block j f
      unfolding stored_limb
      stored j = of_form (stored_of field word block j) (stored_byte j)

      stored_low : (j : ℕ) → stored_limb field forms flags word block j < 256
      stored_low j = rw (stored j) (stored_byte j f)

      pub stores_are_laid : AreBytes (stored_word field forms flags word block) (with_low (list_of block) f.shift f.width (list_of word))
      unfolding list_of
      stores_are_laid = record {
        bytes = (stored_low 0, (stored_low 1, (stored_low 2, (stored_low 3, tt))));
        are = rw (stored 0, stored 1, stored 2, stored 3) (sym (laid f word block is_form));
      }
