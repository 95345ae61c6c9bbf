-- What a row of the table of blocks says of SHA-256, beside the rows of rounds.
use Rattle.std.specs.Prelude.{◌≡◌, ◌≢◌, ℕ, ◌≤◌, List, [], ◌∷◌, map}
use Rattle.std.specs.List.{AllByRecursion, concat}
use Rattle.vm_field.specs.declared.limbs.Limbs.{Limbs}
use Rattle.vm_field.specs.Limbs.{list_of}
use Rattle.vm_word.specs.Word.{word_of_limbs}
use Rattle.sha_words.specs.Sha256.{compress}
use Rattle.vm_isa.specs.Words.{IsBytes}
use Rattle.air_core.specs.Ring.{field}
use Rattle.air_core.specs.Sheet.{row_events}
use Rattle.air_core.specs.System.{Whole}
use Rattle.gadget_time.specs.Form.{columns}
use Rattle.chip_sha_main.specs.Main.{MainRow, main_of}
use Rattle.chip_sha_main.specs.Sha.{sha}
use Rattle.chip_sha_main.specs.Sheet.{main_form, main_sheet}

-- words of a row as numbers, and as the bytes of a block
abbrev pub word_numbers : List (Limbs ℕ) → List ℕ
word_numbers ws = map (λ w. word_of_limbs (list_of w)) ws

abbrev pub block_bytes : List (Limbs ℕ) → List ℕ
block_bytes ws = concat (map list_of ws)

abbrev pub HaveBytes : List (Limbs ℕ) → Type 0
HaveBytes ws = AllByRecursion (λ w. IsBytes (list_of w)) ws

-- the new state is the compression of the old one and the block
abbrev pub IsCompressed : MainRow ℕ → Type 0
IsCompressed r = HaveBytes r.old → HaveBytes r.message → word_numbers r.new ≡ compress (word_numbers r.old) (block_bytes r.message)

-- Where every row of both tables holds with good lookups, the private bus balances, and valid rows have different
-- times, each row that says something has compressed its state.
abbrev pub BlocksAreCompressed : Type 0
BlocksAreCompressed = (hi : ℕ) → hi ≤ 13 → (blocks rounds : List (List ℕ)) → Whole (sha hi) (blocks ∷ rounds ∷ [])
    → AllByRecursion (λ row. row_events (main_sheet hi) row ≢ [] → IsCompressed (main_of field (columns main_form row))) blocks
