-- What PTR says.
use Rattle.std.specs.Prelude.{◌≡◌, ℕ, ◌+◌, ◌-◌, ◌*◌, ◌%◌, ◌^◌, ◌<◌, ◌≤◌, ◌↔◌}
use Rattle.vm_field.specs.Field.{modulus, field_mul}
use Rattle.vm_field.specs.declared.limbs.Limbs.{Limbs}
use Rattle.vm_field.specs.Limbs.{list_of}
use Rattle.vm_word.specs.Word.{word_of_limbs}
use Rattle.vm_word.specs.Arithmetic.{word_sum}
use Rattle.vm_isa.specs.Words.{IsBytes}
use Rattle.air_core.specs.Sheet.{AllZero}
use Rattle.air_core.specs.Ring.{field}
use Rattle.adapter_mem.specs.Pointer.{pointer_constraints, part, pointer}

-- d divides 65536 by a power of two
pub record IsDivisor (d inverse width : ℕ) : Type 0 where
  pub inverse_is : field_mul d inverse ≡ 1
  pub inverse_low : inverse < modulus
  pub some : 0 < d
  pub small : width ≤ 16
  pub whole : d * 2 ^ width ≡ 65536

-- m0 and m1 are the halves of the sum, which is below 2 ^ 29, and h is its remainder by d
pub record IsPointer (d sum m0 m1 h : ℕ) : Type 0 where
  pub halves : sum ≡ m0 + 65536 * m1
  pub low : m0 < 65536
  pub below : sum < 2 ^ 29
  pub remainder : sum % d ≡ h
  pub is : pointer field m0 m1 h ≡ sum - h

pub record PointerHolds (b i : Limbs ℕ) (inverse width m0 m1 h : ℕ) : Type 0 where
  pub zero : AllZero (pointer_constraints field b i m0 m1)
  pub low : part field inverse m0 h < 2 ^ width
  pub high : m1 < 2 ^ 13

abbrev pub PointerLaw : Type 0
PointerLaw = (d inverse width : ℕ) (b i : Limbs ℕ) (m0 m1 h : ℕ) → IsDivisor d inverse width → IsBytes (list_of b) → IsBytes (list_of i) → m0 < modulus → m1 < modulus → h < d
    → PointerHolds b i inverse width m0 m1 h ↔ IsPointer d (word_sum (word_of_limbs (list_of b)) (word_of_limbs (list_of i))) m0 m1 h
