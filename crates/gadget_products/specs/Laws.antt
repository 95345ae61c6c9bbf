-- What carries that are looked up say, and which carries are.
use Rattle.std.specs.Prelude.{◌≡◌, ◌≢◌, ℕ, ◌+◌, ◌-◌, ◌*◌, ◌%◌, ◌^◌, ◌<◌, ◌≤◌, ◌↔◌, Bool, List, length}
use Rattle.std.specs.Int.{from_bool}
use Rattle.vm_field.specs.declared.limbs.Limbs.{Limbs}
use Rattle.vm_field.specs.Limbs.{list_of}
use Rattle.vm_word.specs.Word.{word_of_limbs}
use Rattle.vm_word.specs.Arithmetic.{negated_if, is_negative}
use Rattle.air_core.specs.Sheet.{AllZero}
use Rattle.air_core.specs.Lookups.{GoodEvent}
use Rattle.gadget_limbs.specs.Sign.{sign_looked_up, negative_constraints}
use Rattle.gadget_products.specs.Multiply.{product_carries}
use Rattle.gadget_products.specs.Divide.{division_carries, division_top}
use Rattle.std.specs.List.{AllByRecursion}
use Rattle.vm_isa.specs.Words.{IsBytes}
use Rattle.gadget_limbs.specs.Number.{number_of}
use Rattle.gadget_products.specs.Carry.{carries, last_carry, carry_lines}
use Rattle.air_core.specs.Ring.{field}

-- sums of at most eight products of bytes, or less
abbrev pub AreSums : List ℕ → Type 0
AreSums sums = AllByRecursion (λ s. s ≤ 520200) sums

abbrev pub Below11 : List ℕ → Type 0
Below11 ks = AllByRecursion (λ k. k < 2048) ks

-- what is looked up of carries stands in the range table exactly where they are below 2^11
abbrev pub CarriesAreLookedUp : Type 0
CarriesAreLookedUp = (count : ℕ) (ks : List ℕ) → count ≢ 0 → AllByRecursion (λ e. e.count ≢ 0 → GoodEvent e) (carry_lines field count ks) ↔ Below11 ks

pub record SumsAndLimbs (k : ℕ) (sums limbs : List ℕ) : Type 0 where
  pub long : length sums ≡ length limbs
  pub are_sums : AreSums sums
  pub bytes : IsBytes limbs
  pub carry : k < 2048

-- carries below 2^11 make the sums and the limbs one number
abbrev pub CarriesMakeOneNumber : Type 0
CarriesMakeOneNumber = (k : ℕ) (sums limbs : List ℕ) → SumsAndLimbs k sums limbs → Below11 ((carries field) k sums limbs)
    → number_of sums + k ≡ number_of limbs + 256 ^ length limbs * (last_carry field) k sums limbs

-- where they are one number, the carries are below 2^11 and the last is what is left
pub record CarriesAre (k : ℕ) (sums limbs : List ℕ) (out : ℕ) : Type 0 where
  pub small : Below11 ((carries field) k sums limbs)
  pub last : (last_carry field) k sums limbs ≡ out

abbrev pub OneNumberHasCarries : Type 0
OneNumberHasCarries = (k out : ℕ) (sums limbs : List ℕ) → SumsAndLimbs k sums limbs
    → number_of sums + k ≡ number_of limbs + 256 ^ length limbs * out → CarriesAre k sums limbs out

abbrev pub word : Limbs ℕ → ℕ
word w = word_of_limbs (list_of w)

-- modulo 2 ^ 32: limbs of a row may be any elements
abbrev pub word_in : Limbs ℕ → ℕ
word_in w = word w % 2 ^ 32

abbrev pub AreBytes : Limbs ℕ → Type 0
AreBytes w = IsBytes (list_of w)

-- a word with the 32 bits of g above it
abbrev pub extended_word : ℕ → ℕ → ℕ
extended_word g w = w + (2 ^ 64 - 2 ^ 32) * g

-- the carries of a product are below 2^11 exactly where low and high are the words of the product modulo 2^64
abbrev pub ProductsHaveCarries : Type 0
ProductsHaveCarries = (gb gc : ℕ) (b c low high : Limbs ℕ) → gb ≤ 1 → gc ≤ 1 → AreBytes b → AreBytes c → AreBytes low → AreBytes high
    → Below11 ((product_carries field) gb gc b c low high) ↔ (word low + 2 ^ 32 * word high ≡ extended_word gb (word b) * extended_word gc (word c) % 2 ^ 64)

-- those of a division, and its top 0, exactly where b is c * q + r
abbrev pub DivisionsHaveCarries : Type 0
DivisionsHaveCarries = (b c q r : Limbs ℕ) → AreBytes b → AreBytes c → AreBytes q → AreBytes r
    → (Below11 ((division_carries field) b c q r) × ((division_top field) b c q r ≡ 0)) ↔ (word c * word q + word r ≡ word b)
