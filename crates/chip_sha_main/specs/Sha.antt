-- The two tables of SHA blocks and their private bus.
use Rattle.std.specs.Prelude.{ℕ, ◌+◌, nat_eq, if◌then◌else◌, [], ◌∷◌}
use Rattle.vm_isa.specs.Opcodes.{SHA}
use Rattle.air_core.specs.declared.bus.TheConstants.{FIRST_PRIVATE}
use Rattle.air_core.specs.System.{System}
use Rattle.chip_sha_round.specs.Sheet.{round_sheet}
use Rattle.chip_sha_main.specs.Sheet.{main_sheet}

-- a record of a SHA block fills one row of steps and 64 rows of rounds
abbrev pub sha : ℕ → System
sha hi = record {
  parts =
      record { sheet = main_sheet hi; rows_for = λ done. if nat_eq done.instr.op SHA then 1 else 0 }
      ∷ record { sheet = round_sheet hi; rows_for = λ done. if nat_eq done.instr.op SHA then 64 else 0 }
      ∷ [];
  private = λ bus. nat_eq bus FIRST_PRIVATE;
  time_bits = 16 + hi;
}
