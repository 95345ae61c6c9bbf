-- The tables that the program checks with: those of all instructions, with times of 24 bits.
use Rattle.air_core.specs.System.{System}
use Rattle.vm_config.specs.Config.{full}

abbrev pub program_tables : System
program_tables = full 8
