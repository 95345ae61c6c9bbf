-- The hints that are left, and what a row takes of them.
use Rattle.std.specs.Prelude.{ℕ, ◌≤◌, nat_eq, if◌then◌else◌, List, length, take, drop}
use Rattle.vm_isa.specs.Opcodes.{HINT}

-- the hint bytes that are left
abbrev pub Hints : Type 0
Hints = List ℕ

-- the word that the host gives next
abbrev pub next_hint : Hints → List ℕ
next_hint hints = take 4 hints

-- HINT uses up four hint bytes
abbrev pub hints_used : ℕ → ℕ
hints_used op = if nat_eq op HINT then 4 else 0

-- there are as many as a row of this opcode uses up
abbrev pub AreEnough : ℕ → Hints → Type 0
AreEnough op hints = hints_used op ≤ length hints

-- what such a row leaves of them
abbrev pub hints_after : ℕ → Hints → Hints
hints_after op hints = drop (hints_used op) hints
