-- The next pc of a row that may jump, and what gadget_time says of accesses.
use Rattle.std.proofs.Common.{◌≡◌, ℕ, ◌^◌, ◌<◌, Bool, true, false, arith}
use Rattle.std.specs.Prelude.{if◌then◌else◌}
use Rattle.std.specs.Int.{from_bool}
use Rattle.vm_word.specs.Arithmetic.{word_sum}
use Rattle.air_core.specs.Ring.{field}
use Rattle.adapter_regs.specs.Next.{next_by}
pub use Rattle.gadget_time.specs.lemmas.Access.{Found, found, made_by, bytes_of, FilledAccess, filled_access, pointer}

-- the next pc, by what is taken
pub leads_to : (b : Bool) (pc target taken : ℕ) → taken ≡ from_bool b → pc < 2 ^ 29 → target < 2 ^ 29 → next_by field pc target taken ≡ (if b then target else word_sum pc 4)
unfolding next_by
leads_to true pc target taken e p q = rw e (omega arith)
leads_to false pc target taken e p q = rw e (omega arith)
