-- What a host is, as far as contracts see it. What a host need not tell is an `Option`, and `None` where
-- it doesn't.
use Rattle.std.specs.Prelude.{ℕ, ◌<◌, List, ◌++◌, Bool, IfSome}
use Rattle.std.specs.List.{AllByRecursion}
use Rattle.std.specs.Option.{option_map}
use Rattle.std.specs.declared.option.Option.{Option}
use Rattle.vm_host.specs.declared.Slot.{Slot}
use Rattle.vm_host.specs.declared.Place.{Place}

-- an input
pub record Input : Type 0 where
  pub is_open : Bool
  -- the bytes that are not yet read
  pub rest : Option (List ℕ)

-- the output
pub record Output : Type 0 where
  -- whether it stands open
  pub creating : Bool
  -- the bytes since the last create
  pub written : Option (List ℕ)

pub record HostState : Type 0 where
  -- how many faults there were, a count that never falls
  pub faults : ℕ
  -- the bytes of the file that an input opens by a name
  pub content : Slot → List ℕ → Option (List ℕ)
  pub input : Slot → Input
  pub output : Output
  -- the bytes said so far
  pub said : Option (List ℕ)
  -- the places and names that were handed over, in order
  pub named : Option (List (Place × List ℕ))

-- each element of what is told is a byte
abbrev pub AreBytes : Option (List ℕ) → Type 0
AreBytes told = IfSome told (λ all. AllByRecursion (λ byte. byte < 256) all)

-- what a host tells of files, whole or not yet read, is made of bytes
pub record TellsBytes (s : HostState) : Type 0 where
  pub content : (slot : Slot) (name : List ℕ) → AreBytes (s.content slot name)
  pub rest : (slot : Slot) → AreBytes (s.input slot).rest

-- what is told, and then xs
abbrev pub then_more : {A : Type 0} → Option (List A) → List A → Option (List A)
then_more told xs = option_map (λ ys. ys ++ xs) told

-- bs, and then what is told
abbrev pub after_these : List ℕ → Option (List ℕ) → Option (List ℕ)
after_these bs told = option_map (λ ys. bs ++ ys) told
