-- Bytes that were taken from the host and are not yet given, and what giving some of them does.
use Rattle.std.specs.Prelude.{◌≡◌, ◌≢◌, ℕ, zero, suc, ◌+◌, ◌↔◌, List, [], ◌∷◌, ◌++◌, length, take, drop, Bool, true, false, IsTrue, Result, Ok, IfOk, IfErr, OnOk, IfSome, ◌≤◌, ◌<◌}
use Rattle.std.specs.Int.{w32, from_le_bytes}
use Rattle.std.specs.List.{AllByRecursion}
use Rattle.vm_field.specs.Field.{modulus}
use Rattle.vm_host.specs.declared.Slot.TheVariants.{Second}
use Rattle.vm_host.specs.State.{HostState, after_these}
use Rattle.vm_host.specs.Calls.{AtEnd, Rose, Reads as HostReads}
use Rattle.vm_host.specs.ReadUpTo.{Took}
use Rattle.readings.specs.declared.Stop.{Stop}
use Rattle.readings.specs.Readings.{Reading, raw}
use Rattle.readings.specs.Told.{Told, IfRefused, IfFault, Is, Reads}
use Rattle.table_format.specs.declared.reason.Reason.{Reason}
use Rattle.table_format.specs.declared.reason.Reason.TheVariants.{Cut}
use Rattle.table_format.specs.Order.{head}

-- how many bytes were given, and those that are held
pub record Held : Type 0 where
  pub at : ℕ
  pub ahead : List ℕ

-- what follows: these, and then what the host's second input still has
abbrev pub told_by : Held → HostState → Told
told_by held s = record { at = held.at; rest = after_these held.ahead (s.input Second).rest }

-- Some bytes were taken from the host's second input, and some given, in their order; nothing else happened.
pub record Draws (old new : Held) (s t : HostState) : Type 0 where
  pub taken : List ℕ
  pub given : List ℕ
  pub took : Took Second s t taken
  pub parts : old.ahead ++ taken ≡ given ++ new.ahead
  pub place : new.at ≡ old.at + length given

-- a value was read from the stream, or the reading's reason found
abbrev pub ReadsBy : {V K : Type 0} → Reading Reason V → (V → K → Type 0) → Held → Held → HostState → HostState → Result K (Stop Reason) → Type 0
ReadsBy r Stands old new s t result = Reads (Draws old new s t) (Rose s.faults t.faults) r Stands (told_by old s) (told_by new t) result

abbrev pub IsReady : Bool → Held → HostState → Type 0
IsReady true new t = new.ahead ≢ []
IsReady false new t = (new.ahead ≡ []) × AtEnd (t.input Second).rest

-- a byte is held, or none follows; none was given
pub record Readies (old new : Held) (s t : HostState) (result : Result Bool (Stop Reason)) : Type 0 where
  pub draws : Draws old new s t
  pub none : new.at ≡ old.at
  pub ready : IfOk result (λ more. IsReady more new t)
  pub fault : IfErr result (λ e. IfFault e (Rose s.faults t.faults))
  pub refused : IfErr result (λ e. IfRefused e (λ reason. ⊥))

-- the first bytes that are held were given
pub record Gives (old new : Held) (count : ℕ) (bytes : List ℕ) : Type 0 where
  pub parts : old.ahead ≡ bytes ++ new.ahead
  pub number : length bytes ≡ count
  pub place : new.at ≡ old.at + count

-- the numbers that bytes spell, four bytes each with the lowest first
abbrev pub numbers_of : ℕ → List ℕ → List ℕ
numbers_of zero bytes = []
numbers_of (suc count) bytes = from_le_bytes w32 (take 4 bytes) ∷ numbers_of count (drop 4 bytes)

-- these are the numbers, and each is that of an element
abbrev pub AreElements : ℕ → List ℕ → List ℕ → Type 0
AreElements count bytes values = (values ≡ numbers_of count bytes) × AllByRecursion (λ n. n < modulus) (numbers_of count bytes)

-- whether a byte follows; none was given
pub record TellsEnd (old new : Held) (s t : HostState) (result : Result Bool (Stop Reason)) : Type 0 where
  pub draws : Draws old new s t
  pub none : new.at ≡ old.at
  pub exact : IfOk result (λ ended. IfSome (told_by old s).rest (λ rest. IsTrue ended ↔ (rest ≡ [])))
  -- where none does, none is held, and the input is at its end
  pub ended : IfOk result (λ ended. IsTrue ended → (new.ahead ≡ []) × AtEnd (t.input Second).rest)
  pub fault : IfErr result (λ e. IfFault e (Rose s.faults t.faults))
  pub refused : IfErr result (λ e. IfRefused e (λ reason. ⊥))

-- ---- the head alone

-- nothing is held behind so many bytes
abbrev pub bare : ℕ → Held
bare at = record { at = at; ahead = [] }

-- a piece was taken, or none
pub record TakesPiece (into : List ℕ) (s t : HostState) (result : Result ℕ (Stop Reason)) : Type 0 where
  pub ok : IfOk result (λ count. HostReads Second s t (Ok count) into)
  pub took : IfErr result (λ e. Took Second s t [])
  pub fault : IfErr result (λ e. IfFault e (Rose s.faults t.faults))
  pub refused : IfErr result (λ e. IfRefused e (λ reason. ⊥))

-- so many bytes were read, and no more were taken
pub record Takes (at count : ℕ) (into : List ℕ) (s t : HostState) (result : Result (Unit {0}) (Stop Reason)) : Type 0 where
  pub end : ℕ
  pub reads : ReadsBy (raw Cut count) (λ bytes unit. into ≡ bytes) (bare at) (bare end) s t result
  pub whole : OnOk result (end ≡ at + count)

-- the head was read, and just its bytes were taken
pub record ReadsHead (greatest : ℕ) (s t : HostState) (result : Result ℕ (Stop Reason)) : Type 0 where
  pub end : ℕ
  pub reads : ReadsBy (head greatest) Is (bare 0) (bare end) s t result
  pub whole : OnOk result (end ≡ 12)
  pub known : IfOk result (λ version. (1 ≤ version) × (version ≤ greatest))
