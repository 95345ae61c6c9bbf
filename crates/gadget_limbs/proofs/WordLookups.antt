-- The lookups of a word's limbs say that each limb is right, and bytes by a bitwise function make that function of the words.
use Rattle.std.proofs.Common.{◌≡◌, ◌≢◌, ℕ, ◌<◌, ◌↔◌, [], ◌∷◌, bit_xor, bit_or, bit_and, refl, sym, ap, ◌∙◌, arith}
use Rattle.std.specs.List.{AllByRecursion}
use Rattle.std.proofs.lemmas.Nat.{xor_of_8, or_of_8}
use Rattle.vm_field.specs.Field.{modulus}
use Rattle.vm_field.specs.declared.limbs.Limbs.{Limbs}
use Rattle.vm_field.specs.Limbs.{list_of, LimbsBelow}
use Rattle.vm_word.specs.Word.{word_of_limbs, limbs_of}
use Rattle.vm_isa.specs.Words.{IsBytes}
use Rattle.air_core.specs.Ring.{field}
use Rattle.air_core.specs.Lookups.{GoodEvent, IsXorRow}
use Rattle.air_core.proofs.LookupLemmas.{good_xor}
use Rattle.gadget_limbs.specs.declared.lookup.OperationFlags.{OperationFlags}
use Rattle.gadget_limbs.specs.Lookup.{looked_up, lookup_lines}
use Rattle.gadget_limbs.specs.Laws.{flags_of}
use Rattle.gadget_limbs.proofs.LimbsLaws.{limbs_of-word}
use Rattle.gadget_limbs.proofs.BitLaws.{WordByBytes, xor_word, or_word, and_word}
use Rattle.gadget_limbs.proofs.LookupLaws.{right_limb, and_of_8}

-- of three words, limb by limb
abbrev pub EachLimb : (ℕ → ℕ → ℕ → Type 0) → Limbs ℕ → Limbs ℕ → Limbs ℕ → Type 0
EachLimb R a b c = R a.x0 b.x0 c.x0 × R a.x1 b.x1 c.x1 × R a.x2 b.x2 c.x2 × R a.x3 b.x3 c.x3

-- what is looked up stands in the table exactly where this is true of the limbs
abbrev pub Says : OperationFlags ℕ → (ℕ → ℕ → ℕ → Type 0) → Type 0
Says f R = (a b c : ℕ) → a < modulus → b < 256 → c < 256 → IsXorRow (looked_up field f a b c) ↔ R a b c

pub looked_right : (f : OperationFlags ℕ) (R : ℕ → ℕ → ℕ → Type 0) → Says f R → f.valid ≡ 1 → (a b c : Limbs ℕ) → LimbsBelow a → IsBytes (list_of b) → IsBytes (list_of c)
    → AllByRecursion (λ e. e.count ≢ 0 → GoodEvent e) (lookup_lines field f a b c) → EachLimb R a b c
unfolding list_of
looked_right f R says v a b c low p q good =
    let some : f.valid ≢ 0 = omega arith in (
      (says _ _ _ low.x0 p.0 q.0).0 ((good.0 some).xor refl),
      (says _ _ _ low.x1 p.1.0 q.1.0).0 ((good.1.0 some).xor refl),
      (says _ _ _ low.x2 p.1.1.0 q.1.1.0).0 ((good.1.1.0 some).xor refl),
      (says _ _ _ low.x3 p.1.1.1.0 q.1.1.1.0).0 ((good.1.1.1.0 some).xor refl),
    )

pub right_looked : (f : OperationFlags ℕ) (R : ℕ → ℕ → ℕ → Type 0) → Says f R → (a b c : Limbs ℕ) → LimbsBelow a → IsBytes (list_of b) → IsBytes (list_of c)
    → EachLimb R a b c → AllByRecursion (λ e. e.count ≢ 0 → GoodEvent e) (lookup_lines field f a b c)
unfolding list_of
right_looked f R says a b c low p q each = (
  λ n. good_xor _ refl ((says _ _ _ low.x0 p.0 q.0).1 each.0),
  (
    λ n. good_xor _ refl ((says _ _ _ low.x1 p.1.0 q.1.0).1 each.1),
    (λ n. good_xor _ refl ((says _ _ _ low.x2 p.1.1.0 q.1.1.0).1 each.2), (λ n. good_xor _ refl ((says _ _ _ low.x3 p.1.1.1.0 q.1.1.1.0).1 each.3), tt)),
  ),
)

-- a word whose limbs are bytes by a function of bytes is that function of the words
pub record IsBitwise (f : ℕ → ℕ → ℕ) : Type 0 where
  pub byte : (b c : ℕ) → b < 256 → c < 256 → f b c < 256
  pub word : WordByBytes f

pub record IsNumber (a : Limbs ℕ) (n : ℕ) : Type 0 where
  pub bytes : IsBytes (list_of a)
  pub is : word_of_limbs (list_of a) ≡ n

byte_is : (a x : ℕ) → a ≡ x → x < 256 → a < 256
byte_is a x e h = omega arith

pub bits_word : (f : ℕ → ℕ → ℕ) → IsBitwise f → (a b c : Limbs ℕ) → IsBytes (list_of b) → IsBytes (list_of c) → EachLimb (λ x y z. x ≡ f y z) a b c
    → IsNumber a (f (word_of_limbs (list_of b)) (word_of_limbs (list_of c)))
unfolding list_of
bits_word f h a b c p q e = record {
  bytes = (byte_is _ _ e.0 (h.byte _ _ p.0 q.0), (byte_is _ _ e.1 (h.byte _ _ p.1.0 q.1.0), (byte_is _ _ e.2 (h.byte _ _ p.1.1.0 q.1.1.0), (byte_is _ _ e.3 (h.byte _ _ p.1.1.1.0 q.1.1.1.0), tt))));
  is = rw (e.0, e.1, e.2, e.3) (sym (h.word b.x0 b.x1 b.x2 b.x3 c.x0 c.x1 c.x2 c.x3 p.0 p.1.0 p.1.1.0 p.1.1.1.0 q.0 q.1.0 q.1.1.0 q.1.1.1.0));
}

pub word_bits : (f : ℕ → ℕ → ℕ) → IsBitwise f → (a b c : Limbs ℕ) → IsBytes (list_of b) → IsBytes (list_of c)
    → list_of a ≡ limbs_of (f (word_of_limbs (list_of b)) (word_of_limbs (list_of c))) → EachLimb (λ x y z. x ≡ f y z) a b c
unfolding list_of
word_bits f h a b c p q e =
    let limbs = limbs_of-word (f b.x0 c.x0 ∷ f b.x1 c.x1 ∷ f b.x2 c.x2 ∷ f b.x3 c.x3 ∷ []) (record { four = refl; bytes = (h.byte _ _ p.0 q.0, (h.byte _ _ p.1.0 q.1.0, (h.byte _ _ p.1.1.0 q.1.1.0, (h.byte _ _ p.1.1.1.0 q.1.1.1.0, tt)))) }) in
    let word = h.word b.x0 b.x1 b.x2 b.x3 c.x0 c.x1 c.x2 c.x3 p.0 p.1.0 p.1.1.0 p.1.1.1.0 q.0 q.1.0 q.1.1.0 q.1.1.1.0 in
    let all = e ∙ ap limbs_of word ∙ limbs in
    (cc, cc, cc, cc)

pub is_xor : IsBitwise bit_xor
is_xor = record { byte = xor_of_8; word = xor_word }

pub is_or : IsBitwise bit_or
is_or = record { byte = or_of_8; word = or_word }

pub is_and : IsBitwise bit_and
is_and = record { byte = and_of_8; word = and_word }

pub sums : Says (flags_of 1 0 0 0) (λ a b c. a < 256)
sums a b c p q r = (right_limb a b c p q r).sum

pub xors : Says (flags_of 0 1 0 0) (λ a b c. a ≡ bit_xor b c)
xors a b c p q r = (right_limb a b c p q r).xor

pub ors : Says (flags_of 0 0 1 0) (λ a b c. a ≡ bit_or b c)
ors a b c p q r = (right_limb a b c p q r).or

pub ands : Says (flags_of 0 0 0 1) (λ a b c. a ≡ bit_and b c)
ands a b c p q r = (right_limb a b c p q r).and

-- bytes, one by one
pub four_bytes : (a b c : Limbs ℕ) → EachLimb (λ x y z. x < 256) a b c → IsBytes (list_of a)
unfolding list_of
four_bytes a b c h = (h.0, (h.1, (h.2, (h.3, tt))))

pub each_byte : (a b c : Limbs ℕ) → IsBytes (list_of a) → EachLimb (λ x y z. x < 256) a b c
unfolding list_of
each_byte a b c h = (h.0, h.1.0, h.1.1.0, h.1.1.1.0)
