-- Two listed lines, at which the premises of a made word's `decoded` are met; that an instruction has one word; and the run
-- of the sample program. Each law is the contract of a function in src/laws.rt.
use Rattle.std.specs.Prelude.{ℕ, ◌≡◌, ◌≢◌, ◌<◌, ◌^◌, List, Some}
use Rattle.vm_word.specs.declared.operation.AluOp.TheVariants.{Add}
use Rattle.rv_decode.specs.declared.instr.Instr.{Instr}
use Rattle.rv_decode.specs.declared.instr.Instr.TheVariants.{AluImm, Fence, Terminate, ShaBlock}
use Rattle.rv_decode.specs.Bits.{rd_of, rs1_of, i_immediate}
use Rattle.rv_decode.specs.Listing.{decode_of}
use Rattle.elf_image.specs.Loaded.{word_of}
use Rattle.rv_run.specs.Run.{Ends}
use Rattle.vm_vectors.specs.ElfFile.{text_image}
use Rattle.vm_vectors.specs.Makers.{DecodesByI}
use Rattle.vm_vectors.specs.Sample.{AreWordsOf, sample_of, sample_text, sample_base}

-- ADDI, whose line fixes nothing but opcode and funct3
abbrev pub AddiWordDecodes : Type 0
AddiWordDecodes = (word rd rs1 imm : ℕ) → DecodesByI word 0x13 0 rd rs1 imm
    → decode_of word ≡ Some (AluImm Add rd rs1 imm)

-- terminate, whose line fixes more: both registers are 0, and the immediate is a byte
abbrev pub TerminateWordDecodes : Type 0
TerminateWordDecodes = (word code : ℕ) → code < 256 → rd_of word ≡ 0 → rs1_of word ≡ 0 → i_immediate word ≡ code
    → DecodesByI word 0x0b 0 0 0 code → decode_of word ≡ Some (Terminate code)

-- an instruction is listed for one word, but for a fence, whose fields are free
abbrev pub InstrHasOneWord : Type 0
InstrHasOneWord = (word other : ℕ) (instr : Instr) → word < 2 ^ 32 → other < 2 ^ 32 → decode_of word ≡ Some instr → decode_of other ≡ Some instr
    → instr ≢ Fence → word ≡ other

-- the words of the sample program decode to its instructions
abbrev pub SampleTextIsTheSample : Type 0
SampleTextIsTheSample = (number : ℕ) → AreWordsOf (sample_of number) (sample_text number)

-- and no others do
abbrev pub SampleIsOne : Type 0
SampleIsOne = (number : ℕ) (words : List ℕ) → AreWordsOf (sample_of number) words → words ≡ sample_text number

-- whatever the number and the hints, the program ends with code 0 after 26,011 steps: 8, 13 in each of 2,000 rounds, and 3
abbrev pub SampleEnds : Type 0
SampleEnds = (number : ℕ) (words hints : List ℕ) → AreWordsOf (sample_of number) words
    → (public_bytes : List ℕ) × Ends (text_image sample_base words) hints 26011 0 public_bytes

-- none of its instructions is a SHA block
abbrev pub SampleHasNoShaBlock : Type 0
SampleHasNoShaBlock = (number : ℕ) (words : List ℕ) (pc word state block : ℕ) → AreWordsOf (sample_of number) words
    → word_of (text_image sample_base words) pc ≡ Some word → decode_of word ≢ Some (ShaBlock state block)
