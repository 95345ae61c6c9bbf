-- The seventeen tables.
use Rattle.std.proofs.Common.{◌≡◌, ℕ, ◌+◌, ◌-◌, true, nat_eq, List, [], ◌∷◌, ◌++◌, length, refl, sym, subst, ◌∙◌, arith}
use Rattle.std.specs.Prelude.{if◌then◌else◌}
use Rattle.std.specs.List.{list_any}
use Rattle.vm_isa.specs.Opcodes.{SHA}
use Rattle.air_core.specs.System.{Part}
use Rattle.gadget_time.specs.Form.{Form}
use Rattle.gadget_time.specs.Nop.{nop_form}
use Rattle.chip_sha_main.specs.Sheet.{main_form, main_sheet}
use Rattle.chip_sha_round.specs.Sheet.{round_sheet}
use Rattle.vm_config.specs.Config.{standing, arithmetic_forms, access_forms, branch_forms, jump_forms, product_forms, io_forms, full}
use Rattle.vm_config.specs.Laws.{Outline, outline, full_outlines, HasOutline, HaveOutlines, FullIsTheTables}
use Rattle.vm_config.proofs.Sizes.{Size, size, Sized, alu_sized, less_sized, shift_sized, load_sized, store_sized, branch_eq_sized, branch_lt_sized, jal_lui_sized, auipc_sized, jalr_sized, nop_sized, mul_sized, divrem_sized, hint_sized, reveal_sized, sha_main_sized, sha_round_constraints, sha_round_events}
use Rattle.vm_config.proofs.Opcodes.{Owns, opcodes_of, standing_owns, below_passes, within}

abbrev pub rv32i_forms : List Form
rv32i_forms = arithmetic_forms ++ (access_forms ++ (branch_forms ++ (jump_forms ++ nop_form ∷ [])))

abbrev pub all_forms : List Form
all_forms = rv32i_forms ++ (product_forms ++ (io_forms ++ main_form ∷ []))

full_owns : (hi : ℕ) → Owns (full hi) (opcodes_of all_forms)
full_owns hi = standing_owns hi all_forms

-- ---- their outlines

abbrev outline_of : Form → Size → Outline
outline_of f s = outline f.slots (2 + length f.opcodes + f.width) s.constraints s.events f.opcodes

abbrev outlines_of : List Form → List Size → List Outline
outlines_of (f ∷ fs) (s ∷ ss) = outline_of f s ∷ outlines_of fs ss
outlines_of _ _ = []

-- form by form
abbrev AllSized : List Form → List Size → Type 0
AllSized [] [] = Unit {0}
AllSized (f ∷ fs) (s ∷ ss) = Sized f s × AllSized fs ss
AllSized _ _ = ⊥

standing_outlines : (hi : ℕ) (forms : List Form) (sizes : List Size) → AllSized forms sizes → HaveOutlines (standing forms hi).parts (outlines_of forms sizes)
standing_outlines hi [] [] sized = tt
standing_outlines hi [] (s ∷ ss) sized = elim sized [ ]
standing_outlines hi (f ∷ fs) [] sized = elim sized [ ]
standing_outlines hi (f ∷ fs) (s ∷ ss) sized =
    (record { slots = refl; width = refl; constraints = sized.0.constraints; events = sized.0.events hi; owns = λ op. refl }, standing_outlines hi fs ss sized.1)

one_more : (ps : List Part) (ls : List Outline) (p : Part) (l : Outline) → HaveOutlines ps ls → HasOutline p l → HaveOutlines (ps ++ p ∷ []) (ls ++ l ∷ [])
one_more [] [] p l h k = (k, tt)
one_more [] (m ∷ ls) p l h k = elim h [ ]
one_more (q ∷ ps) [] p l h k = elim h [ ]
one_more (q ∷ ps) (m ∷ ls) p l h k = (h.0, one_more ps ls p l h.1 k)

abbrev blocks_part : ℕ → Part
blocks_part hi = record { sheet = main_sheet hi; rows_for = λ done. if nat_eq done.instr.op SHA then 1 else 0 }

abbrev rounds_part : ℕ → Part
rounds_part hi = record { sheet = round_sheet hi; rows_for = λ done. if nat_eq done.instr.op SHA then 64 else 0 }

abbrev standing_forms : List Form
standing_forms = rv32i_forms ++ (product_forms ++ io_forms)

parts_are : (hi : ℕ) → (full hi).parts ≡ ((standing standing_forms hi).parts ++ blocks_part hi ∷ []) ++ rounds_part hi ∷ []
parts_are hi = refl

abbrev standing_sizes : List Size
standing_sizes =
    size 21 19 ∷ size 27 18 ∷ size 59 25 ∷ size 21 18 ∷ size 13 17 ∷ size 11 11 ∷ size 24 14 ∷ size 9 11 ∷ size 8 15 ∷ size 8 17 ∷ size 2 3 ∷ size 12 33 ∷ size 68 50
    ∷ size 6 17 ∷ size 7 17 ∷ []

standing_sized : AllSized standing_forms standing_sizes
standing_sized = (alu_sized, (less_sized, (shift_sized, (load_sized, (store_sized, (branch_eq_sized, (branch_lt_sized, (jal_lui_sized, (auipc_sized, (jalr_sized, (nop_sized, (mul_sized, (divrem_sized, (hint_sized, (reveal_sized, tt)))))))))))))))

abbrev blocks_outline : Outline
blocks_outline = outline 26 267 44 143 (SHA ∷ [])

abbrev rounds_outline : Outline
rounds_outline = outline 0 299 258 15 []

abbrev all_outlines : List Outline
all_outlines = (outlines_of standing_forms standing_sizes ++ blocks_outline ∷ []) ++ rounds_outline ∷ []

outlines_are : all_outlines ≡ full_outlines
outlines_are = refl

blocks_have : (hi : ℕ) → HasOutline (blocks_part hi) blocks_outline
blocks_have hi = record { slots = refl; width = refl; constraints = sha_main_sized.constraints; events = sha_main_sized.events hi; owns = λ op. refl }

rounds_have : (hi : ℕ) → HasOutline (rounds_part hi) rounds_outline
rounds_have hi = record { slots = refl; width = refl; constraints = sha_round_constraints; events = sha_round_events; owns = λ op. refl }

all_have : (hi : ℕ) → HaveOutlines (((standing standing_forms hi).parts ++ blocks_part hi ∷ []) ++ rounds_part hi ∷ []) all_outlines
all_have hi =
    one_more ((standing standing_forms hi).parts ++ blocks_part hi ∷ []) (outlines_of standing_forms standing_sizes ++ blocks_outline ∷ []) (rounds_part hi) rounds_outline
    (one_more (standing standing_forms hi).parts (outlines_of standing_forms standing_sizes) (blocks_part hi) blocks_outline (standing_outlines hi standing_forms standing_sizes standing_sized) (blocks_have hi))
    (rounds_have hi)

full_has : (hi : ℕ) → HaveOutlines (full hi).parts full_outlines
full_has hi =
    subst (λ (ps : List Part). HaveOutlines ps full_outlines) (sym (parts_are hi))
    (subst (λ (ls : List Outline). HaveOutlines (((standing standing_forms hi).parts ++ blocks_part hi ∷ []) ++ rounds_part hi ∷ []) ls) outlines_are (all_have hi))

pub full_is : FullIsTheTables
full_is hi = record {
  outlines = full_has hi;
  owns = λ op. (
    λ owned. within (opcodes_of all_forms) refl op (sym (full_owns hi op) ∙ owned),
    λ low.
        let place : (op - 1) + 1 ≡ op = omega (arith, low.0) in
        full_owns hi op ∙ subst (λ (k : ℕ). list_any (nat_eq k) (opcodes_of all_forms) ≡ true) place (below_passes (λ k. list_any (nat_eq (k + 1)) (opcodes_of all_forms)) 40 (op - 1) refl (omega (arith, low.0, low.1))),
  );
}
