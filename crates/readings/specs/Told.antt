-- What a call did to a source of bytes, told by a reading of the bytes that follow there.
use Rattle.std.specs.Prelude.{◌≡◌, ℕ, List, Option, Some, None, Result, Ok, Err, IfOk, IfErr, IfSome}
use Rattle.readings.specs.Readings.{rest_at, Reading}
use Rattle.readings.specs.declared.Stop.{Stop}
use Rattle.readings.specs.declared.Stop.TheVariants.{Refused, Fault, OutOfMemory}

-- where a source stands, and what follows there, where that is told
pub record Told : Type 0 where
  pub at : ℕ
  pub rest : Option (List ℕ)

abbrev pub GaveBy : {R V : Type 0} → Reading R V → V → ℕ → ℕ → Option (List ℕ) → Option (List ℕ) → Type 0
GaveBy r v i j None None = Unit {0}
GaveBy r v i j None (Some more) = ⊥
GaveBy r v i j (Some bytes) None = ⊥
GaveBy r v i j (Some bytes) (Some more) = r (rest_at i bytes) ≡ Ok (v, rest_at j more)

-- the reading gives this value, and leaves what follows at the second place; what is told stays told
abbrev pub Gave : {R V : Type 0} → Reading R V → Told → Told → V → Type 0
Gave r a b v = GaveBy r v a.at b.at a.rest b.rest

-- the reading stops for this reason
abbrev pub Stops : {R V : Type 0} → Reading R V → Told → R → Type 0
Stops r a reason = IfSome a.rest (λ bytes. r (rest_at a.at bytes) ≡ Err reason)

abbrev pub IfRefused : {R : Type 0} → Stop R → (R → Type 0) → Type 0
IfRefused (Refused reason) P = P reason
IfRefused Fault P = Unit {0}
IfRefused OutOfMemory P = Unit {0}

abbrev pub IfFault : {R : Type 0} → Stop R → Type 0 → Type 0
IfFault (Refused reason) P = Unit {0}
IfFault Fault P = P
IfFault OutOfMemory P = Unit {0}

-- What is answered stands for the value that the reading gives, and a refusal is the reading's. Whatever the answer,
-- the rest is kept; and a fault has its cause.
pub record Reads {R V K : Type 0} (Keeps HasCause : Type 0) (r : Reading R V) (Stands : V → K → Type 0) (a b : Told) (result : Result K (Stop R)) : Type 0 where
  pub kept : Keeps
  pub fault : IfErr result (λ e. IfFault e HasCause)
  pub ok : IfOk result (λ k. (v : V) × Stands v k × Gave r a b v)
  pub refused : IfErr result (λ e. IfRefused e (Stops r a))

-- the answer is the value
abbrev pub Is : {V : Type 0} → V → V → Type 0
Is v k = k ≡ v
