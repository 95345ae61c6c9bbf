-- The numbers of a version of the form.
use Rattle.std.specs.Prelude.{ℕ, nat_eq, if◌then◌else◌}

pub record Limits : Type 0 where
  -- times, and the slots of a segment, are below 2 to this
  pub time_bits : ℕ
  -- the greatest code of a height
  pub greatest_code : ℕ

-- version 1 has short segments; every later version has those of version 2
abbrev pub limits_of : ℕ → Limits
limits_of version = if nat_eq version 1 then record { time_bits = 24; greatest_code = 21 } else record { time_bits = 29; greatest_code = 25 }
