-- What is selected, in the terms of what instructions mean.
use Rattle.std.specs.Prelude.{◌≡◌, ℕ, ◌*◌, ◌<◌, ◌≤◌, false, ◌&&◌, nat_lt, if◌then◌else◌, List, length}
use Rattle.std.specs.List.{AllByRecursion}
use Rattle.vm_field.specs.Field.{modulus}
use Rattle.vm_field.specs.declared.limbs.Limbs.{Limbs}
use Rattle.vm_field.specs.Limbs.{list_of}
use Rattle.vm_word.specs.Word.{limbs_of}
use Rattle.vm_word.specs.Arithmetic.{sign_extended}
use Rattle.vm_isa.specs.Results.{extended, number_in, with_low}
use Rattle.vm_isa.specs.Words.{IsBytes}
use Rattle.air_core.specs.Flags.{one_hot}
use Rattle.air_core.specs.Ring.{field}
use Rattle.gadget_limbs.specs.SignLaws.{IsSign}
use Rattle.adapter_mem.specs.declared.forms.AccessForm.{AccessForm}
use Rattle.adapter_mem.specs.Forms.{form_at, signed_by}
use Rattle.adapter_mem.specs.MemoryLaws.{IsForm}
use Rattle.adapter_mem.specs.Select.{top_by, loaded_word, sign_of, stored_word}

-- what a form's opcode makes of the number that is read: a sign is that of fewer bytes than a word has
abbrev pub Extends : AccessForm → Type 0
Extends f = ((f.signed && nat_lt 2 f.width) ≡ false) × ((n : ℕ) → extended f.op n ≡ (if f.signed then sign_extended (8 * f.width) n else n))

-- the flag of the form at a place is set
pub record IsSelected (forms : List AccessForm) (k : ℕ) (flags : List ℕ) : Type 0 where
  pub are : AllByRecursion IsForm forms
  pub below : k < length forms
  pub hot : flags ≡ one_hot (length forms) k

-- these bytes
pub record AreBytes (w : Limbs ℕ) (xs : List ℕ) : Type 0 where
  pub bytes : IsBytes (list_of w)
  pub are : list_of w ≡ xs

-- with the sign of the bytes that are read, the word is what the opcode makes of them
abbrev pub LoadsAreRead : Type 0
LoadsAreRead = (forms : List AccessForm) (k : ℕ) (flags : List ℕ) (block : Limbs ℕ) (g : ℕ) → IsSelected forms k flags → AllByRecursion Extends forms → IsBytes (list_of block)
    → IsSign (signed_by field forms flags) (top_by field forms flags block) g
    → (let f = form_at forms k in AreBytes (loaded_word field forms flags block g) (limbs_of (extended f.op (number_in (list_of block) f.shift f.width))))

pub record SignFilled (gate top g : ℕ) : Type 0 where
  pub small : gate ≤ 1
  pub is : IsSign gate top g
  pub low : g < modulus

-- and the sign that is filled is theirs
abbrev pub SignsAreFilled : Type 0
SignsAreFilled = (forms : List AccessForm) (k : ℕ) (flags : List ℕ) (block : Limbs ℕ) → IsSelected forms k flags → IsBytes (list_of block)
    → SignFilled (signed_by field forms flags) (top_by field forms flags block) (sign_of (form_at forms k) (list_of block))

-- the block that is left is the old one with the low bytes of the word
abbrev pub StoresAreLaid : Type 0
StoresAreLaid = (forms : List AccessForm) (k : ℕ) (flags : List ℕ) (word block : Limbs ℕ) → IsSelected forms k flags → IsBytes (list_of word) → IsBytes (list_of block)
    → (let f = form_at forms k in AreBytes (stored_word field forms flags word block) (with_low (list_of block) f.shift f.width (list_of word)))
