-- What the set flag selects by its form: the word that a load makes of the bytes of a block, and the block that a
-- store leaves.
use Rattle.std.specs.Prelude.{ℕ, ◌+◌, ◌-◌, ◌/◌, ◌&&◌, nat_lt, nat_le, if◌then◌else◌, List}
use Rattle.vm_field.specs.declared.limbs.Limbs.{Limbs}
use Rattle.vm_field.specs.Limbs.{list_of}
use Rattle.vm_isa.specs.Instr.{bit_of}
use Rattle.air_core.specs.Ring.{Ring, field, cell}
use Rattle.adapter_mem.specs.declared.forms.AccessForm.{AccessForm}
use Rattle.adapter_mem.specs.Forms.{by_form}

-- ---- loads

-- limb j of what a form reads of a block
abbrev pub read_of : {A E : Type 0} → Ring A E → Limbs A → ℕ → AccessForm → A
read_of o block j f = if nat_lt j f.width then cell o (list_of block) (f.shift + j) else o.number 0

-- the byte that has the sign, where a form has one
abbrev pub top_of : {A E : Type 0} → Ring A E → Limbs A → AccessForm → A
top_of o block f = if f.signed then cell o (list_of block) (f.shift + f.width - 1) else o.number 0

abbrev pub top_by : {A E : Type 0} → Ring A E → List AccessForm → List A → Limbs A → A
top_by o forms flags block = by_form o forms flags (top_of o block)

-- whether 255 times the sign stands in limb j: above the bytes that signed forms read
abbrev pub fill_of : {A E : Type 0} → Ring A E → ℕ → AccessForm → A
fill_of o j f = o.number (bit_of (f.signed && nat_le f.width j))

-- where nothing has a sign the sign is 0, so limbs 2 and 3 have it always
abbrev pub fills_by : {A E : Type 0} → Ring A E → List AccessForm → List A → ℕ → A
fills_by o forms flags j = if nat_lt j 2 then by_form o forms flags (fill_of o j) else o.number 1

unfoldable pub loaded_limb : {A E : Type 0} → Ring A E → List AccessForm → List A → Limbs A → A → ℕ → A
loaded_limb o forms flags block sign j = o.plus (by_form o forms flags (read_of o block j)) (o.times (fills_by o forms flags j) (o.times (o.number 255) sign))

abbrev pub loaded_word : {A E : Type 0} → Ring A E → List AccessForm → List A → Limbs A → A → Limbs A
loaded_word o forms flags block sign = record {
  x0 = loaded_limb o forms flags block sign 0;
  x1 = loaded_limb o forms flags block sign 1;
  x2 = loaded_limb o forms flags block sign 2;
  x3 = loaded_limb o forms flags block sign 3;
}

-- the top bit of the byte that has the sign
abbrev pub sign_of : AccessForm → List ℕ → ℕ
sign_of f block = if f.signed then cell field block (f.shift + f.width - 1) / 128 else 0

-- ---- stores

-- limb j of what a form leaves: the word's from the shift on, as many as the width, and the old block's
abbrev pub stored_of : {A E : Type 0} → Ring A E → Limbs A → Limbs A → ℕ → AccessForm → A
stored_of o word block j f = if nat_le f.shift j && nat_lt j (f.shift + f.width) then cell o (list_of word) (j - f.shift) else cell o (list_of block) j

unfoldable pub stored_limb : {A E : Type 0} → Ring A E → List AccessForm → List A → Limbs A → Limbs A → ℕ → A
stored_limb o forms flags word block j = by_form o forms flags (stored_of o word block j)

abbrev pub stored_word : {A E : Type 0} → Ring A E → List AccessForm → List A → Limbs A → Limbs A → Limbs A
stored_word o forms flags word block = record {
  x0 = stored_limb o forms flags word block 0;
  x1 = stored_limb o forms flags word block 1;
  x2 = stored_limb o forms flags word block 2;
  x3 = stored_limb o forms flags word block 3;
}
