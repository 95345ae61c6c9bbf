-- Which pointers are blocks of a space.
use Rattle.std.proofs.Common.{◌≡◌, ℕ, ◌%◌, ◌<◌, ◌≤◌, ⊎_elim, true, nat_eq, nat_lt, arith}
use Rattle.std.proofs.lemmas.Bool.{cases_eq, eq-eqb, ne_eqb, eqb-true, and_parts}
use Rattle.std.proofs.lemmas.Bool.Decides.{nat_tests}
use Rattle.vm_isa.specs.Spaces.{REGISTERS, MEMORY, PUBLIC}
use Rattle.vm_isa.specs.Blocks.{is_block, space_size}

size_small : (space : ℕ) → space_size space ≤ 536870912
size_small space =
    ⊎_elim
    (λ (registers : space ≡ REGISTERS). rw (eq-eqb space REGISTERS registers) (omega arith))
    (λ (not_registers : space ≡ REGISTERS → ⊥).
    ⊎_elim
    (λ (memory : space ≡ MEMORY). rw (ne_eqb space REGISTERS not_registers, eq-eqb space MEMORY memory) (omega arith))
    (λ (not_memory : space ≡ MEMORY → ⊥).
    ⊎_elim
    (λ (public : space ≡ PUBLIC). rw (ne_eqb space REGISTERS not_registers, ne_eqb space MEMORY not_memory, eq-eqb space PUBLIC public) (omega arith))
    (λ (not_public : space ≡ PUBLIC → ⊥). rw (ne_eqb space REGISTERS not_registers, ne_eqb space MEMORY not_memory, ne_eqb space PUBLIC not_public) (omega arith))
    (cases_eq space PUBLIC))
    (cases_eq space MEMORY))
    (cases_eq space REGISTERS)

below_from_test : (a b : ℕ) → nat_lt a b ≡ true → a < b
below_from_test a b h = grind (arith, nat_tests)

pub block_low : (space pointer : ℕ) → is_block space pointer ≡ true → (pointer % 4 ≡ 0) × (pointer < 536870912)
block_low space pointer h =
    let parts = and_parts (nat_eq (pointer % 4) 0) (nat_lt pointer (space_size space)) h in
    (eqb-true (pointer % 4) 0 parts.0, omega (arith, below_from_test pointer (space_size space) parts.1, size_small space))
