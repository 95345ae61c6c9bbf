-- The listing as a whole: its lines by their opcode, that no two fit one word, and its fields' ranges.
use Rattle.std.proofs.Common.{◌≡◌, ◌≢◌, ℕ, true, List, ◌++◌, None, IfSome, filter, rules, refl, arith}
use Rattle.std.proofs.lemmas.Bool.Decides.{nat_tests}
use Rattle.rv_decode.specs.Bits.{opcode_of}
use Rattle.rv_decode.specs.Formats.{Line}
use Rattle.rv_decode.specs.Listing.{listing, listed_in, decode_of, lui_lines, auipc_lines, jal_lines, jalr_lines, branch_lines, load_lines, store_lines, op_imm_lines, op_lines, fence_lines, custom_lines}
use Rattle.rv_decode.specs.Laws.{NoWordIsListedTwice, ListedLineDecodes, DecodedFieldsAreInRange}
use Rattle.rv_decode.specs.Ranges.{HasFieldsInRange}
use Rattle.rv_decode.proofs.LineLemmas.{allows, all_clash, listed_in-filter, one_place, listed_in-slice_get, IfSome-listed_in_append}

-- the lines that can fit a word with this opcode
abbrev pub lines_of : ℕ → List Line
lines_of opcode = filter (λ line. allows 6 0 opcode line.fixed) listing

pub decode_of-opcode : (opcode word : ℕ) → opcode_of word ≡ opcode → decode_of word ≡ listed_in (lines_of opcode) word
decode_of-opcode opcode word here = listed_in-filter listing word 6 0 opcode here

pub decode_of-lui : (word : ℕ) → opcode_of word ≡ 0x37 → decode_of word ≡ listed_in lui_lines word
unfolding listing
decode_of-lui word here = decode_of-opcode 0x37 word here

pub decode_of-auipc : (word : ℕ) → opcode_of word ≡ 0x17 → decode_of word ≡ listed_in auipc_lines word
unfolding listing
decode_of-auipc word here = decode_of-opcode 0x17 word here

pub decode_of-jal : (word : ℕ) → opcode_of word ≡ 0x6f → decode_of word ≡ listed_in jal_lines word
unfolding listing
decode_of-jal word here = decode_of-opcode 0x6f word here

pub decode_of-jalr : (word : ℕ) → opcode_of word ≡ 0x67 → decode_of word ≡ listed_in jalr_lines word
unfolding listing
decode_of-jalr word here = decode_of-opcode 0x67 word here

pub decode_of-branch : (word : ℕ) → opcode_of word ≡ 0x63 → decode_of word ≡ listed_in branch_lines word
unfolding listing
decode_of-branch word here = decode_of-opcode 0x63 word here

pub decode_of-load : (word : ℕ) → opcode_of word ≡ 0x03 → decode_of word ≡ listed_in load_lines word
unfolding listing
decode_of-load word here = decode_of-opcode 0x03 word here

pub decode_of-store : (word : ℕ) → opcode_of word ≡ 0x23 → decode_of word ≡ listed_in store_lines word
unfolding listing
decode_of-store word here = decode_of-opcode 0x23 word here

pub decode_of-op_imm : (word : ℕ) → opcode_of word ≡ 0x13 → decode_of word ≡ listed_in op_imm_lines word
unfolding listing
decode_of-op_imm word here = decode_of-opcode 0x13 word here

pub decode_of-op : (word : ℕ) → opcode_of word ≡ 0x33 → decode_of word ≡ listed_in op_lines word
unfolding listing
decode_of-op word here = decode_of-opcode 0x33 word here

pub decode_of-fence : (word : ℕ) → opcode_of word ≡ 0x0f → decode_of word ≡ listed_in fence_lines word
unfolding listing
decode_of-fence word here = decode_of-opcode 0x0f word here

pub decode_of-custom : (word : ℕ) → opcode_of word ≡ 0x0b → decode_of word ≡ listed_in custom_lines word
unfolding listing
decode_of-custom word here = decode_of-opcode 0x0b word here

pub decode_of-other : (word : ℕ)
    → opcode_of word ≢ 0x37
    → opcode_of word ≢ 0x17
    → opcode_of word ≢ 0x6f
    → opcode_of word ≢ 0x67
    → opcode_of word ≢ 0x63
    → opcode_of word ≢ 0x03
    → opcode_of word ≢ 0x23
    → opcode_of word ≢ 0x13
    → opcode_of word ≢ 0x33
    → opcode_of word ≢ 0x0f
    → opcode_of word ≢ 0x0b
    → decode_of word ≡ None
unfolding listing
decode_of-other word not_lui not_auipc not_jal not_jalr not_branch not_load not_store not_op_imm not_op not_fence not_custom = grind (arith, nat_tests)

pub ruleset by_opcode = (decode_of-lui, decode_of-auipc, decode_of-jal, decode_of-jalr, decode_of-branch, decode_of-load, decode_of-store, decode_of-op_imm, decode_of-op, decode_of-fence, decode_of-custom, decode_of-other)

all_clash-listing : all_clash listing ≡ true
unfolding listing
all_clash-listing = refl

pub one_listed : NoWordIsListedTwice
one_listed word first second line other here there =
    one_place listing word first second line other all_clash-listing here.listed there.listed here.fitting there.fitting

pub decode_of-listed : ListedLineDecodes
decode_of-listed word place line here =
    listed_in-slice_get listing word place line all_clash-listing here.listed here.fitting

-- what these lines make has its fields in their ranges
record AreInRange (lines : List Line) : Type 0 where
  pub each : (word : ℕ) → IfSome (listed_in lines word) HasFieldsInRange

AreInRange-append : (xs ys : List Line) → AreInRange xs → AreInRange ys → AreInRange (xs ++ ys)
AreInRange-append xs ys of_xs of_ys = record {
  each = λ word. IfSome-listed_in_append HasFieldsInRange xs ys word (of_xs.each word) (of_ys.each word);
}

AreInRange-lui : AreInRange lui_lines
AreInRange-lui = record { each = λ word. search rules }

AreInRange-auipc : AreInRange auipc_lines
AreInRange-auipc = record { each = λ word. search rules }

AreInRange-jal : AreInRange jal_lines
AreInRange-jal = record { each = λ word. search rules }

AreInRange-jalr : AreInRange jalr_lines
AreInRange-jalr = record { each = λ word. search rules }

AreInRange-branch : AreInRange branch_lines
AreInRange-branch = record { each = λ word. search rules }

AreInRange-load : AreInRange load_lines
AreInRange-load = record { each = λ word. search rules }

AreInRange-store : AreInRange store_lines
AreInRange-store = record { each = λ word. search rules }

AreInRange-op_imm : AreInRange op_imm_lines
AreInRange-op_imm = record { each = λ word. search rules }

AreInRange-op : AreInRange op_lines
AreInRange-op = record { each = λ word. search rules }

AreInRange-fence : AreInRange fence_lines
AreInRange-fence = record { each = λ word. search rules }

AreInRange-custom : AreInRange custom_lines
AreInRange-custom = record { each = λ word. search rules }

AreInRange-listing : AreInRange listing
unfolding listing
AreInRange-listing =
    AreInRange-append lui_lines _ AreInRange-lui (
    AreInRange-append auipc_lines _ AreInRange-auipc (
    AreInRange-append jal_lines _ AreInRange-jal (
    AreInRange-append jalr_lines _ AreInRange-jalr (
    AreInRange-append branch_lines _ AreInRange-branch (
    AreInRange-append load_lines _ AreInRange-load (
    AreInRange-append store_lines _ AreInRange-store (
    AreInRange-append op_imm_lines _ AreInRange-op_imm (
    AreInRange-append op_lines _ AreInRange-op (
    AreInRange-append fence_lines _ AreInRange-fence (
    AreInRange-custom))))))))))

pub IfSome-decode_of : DecodedFieldsAreInRange
IfSome-decode_of word = AreInRange-listing.each word
