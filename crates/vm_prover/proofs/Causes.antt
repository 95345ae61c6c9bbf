-- Causes of failures, call after call.
use Rattle.std.proofs.Common.{ℕ, ◌+◌, ◌-◌, ◌^◌, ◌≤◌, arith}
use Rattle.std.specs.Prelude.{Result, min}
use Rattle.vm_host.specs.declared.HostError.{HostError}
use Rattle.vm_host.specs.Calls.{HasCause}

-- a failure behind calls that went well has its cause in all of them
pub cause_more : {T : Type 0} (a b c : ℕ) (result : Result T HostError) → a ≤ b → HasCause b c result → HasCause a c result
cause_more a b c result low cause = record {
  later = omega (arith, low, cause.later);
  failed = λ is. let rose : min (b + 1) (2 ^ 64 - 1) ≤ c = cause.failed is in omega (arith, rose, low);
}
