-- Forms of accesses of memory: an opcode at one place of its block. Each flag of a table has one.
use Rattle.std.specs.Prelude.{ℕ, suc, Bool, false, ◌&&◌, nat_eq, if◌then◌else◌, List, [], ◌∷◌, map, slice_get, unwrap_or}
use Rattle.vm_isa.specs.Instr.{bit_of}
use Rattle.air_core.specs.Ring.{Ring}
use Rattle.adapter_mem.specs.declared.forms.AccessForm.{AccessForm}
use Rattle.air_core.specs.Flags.{weighted_from}

abbrev pub access_form : ℕ → ℕ → ℕ → Bool → AccessForm
access_form op shift width signed = record { op = op; shift = shift; width = width; signed = signed }

-- the form at a place; behind them all it is one of no bytes
abbrev pub form_at : List AccessForm → ℕ → AccessForm
form_at forms k = unwrap_or (slice_get forms k) (access_form 0 0 0 false)

abbrev pub is_form : ℕ → ℕ → AccessForm → Bool
is_form op shift f = nat_eq op f.op && nat_eq shift f.shift

-- the place of an opcode's form at a shift
abbrev pub place_in : List AccessForm → ℕ → ℕ → ℕ
place_in [] op shift = 0
place_in (f ∷ fs) op shift = if is_form op shift f then 0 else suc (place_in fs op shift)

abbrev pub opcodes_of : List AccessForm → List ℕ
opcodes_of forms = map (λ f. f.op) forms

-- the sum of each flag times its form's opcode
abbrev pub opcode_by : {A E : Type 0} → Ring A E → List AccessForm → List A → A
opcode_by o forms flags = weighted_from o (o.number 0) flags (opcodes_of forms)

-- the sum of each flag times its form's shift, and the sum of the flags of signed forms
abbrev pub shift_by : {A E : Type 0} → Ring A E → List AccessForm → List A → A
shift_by o forms flags = weighted_from o (o.number 0) flags (map (λ f. f.shift) forms)

abbrev pub signed_by : {A E : Type 0} → Ring A E → List AccessForm → List A → A
signed_by o forms flags = weighted_from o (o.number 0) flags (map (λ f. bit_of f.signed) forms)

-- the sum of each flag times a value, on top of one
abbrev pub selected_from : {A E : Type 0} → Ring A E → A → List A → List A → A
selected_from o acc (x ∷ xs) (v ∷ vs) = selected_from o (o.plus acc (o.times x v)) xs vs
selected_from o acc _ _ = acc

-- the sum of each flag times what its form gives
abbrev pub by_form : {A E : Type 0} → Ring A E → List AccessForm → List A → (AccessForm → A) → A
by_form o forms flags value = selected_from o (o.number 0) flags (map value forms)
