-- Accesses whose words stay bytes.
use Rattle.std.specs.Prelude.{List, [], ◌∷◌}
use Rattle.vm_isa.specs.Words.{IsBytes}
use Rattle.offline_memory.specs.Memory.{Access}

-- a new word is bytes, where the old words of its access and of those before it are. (`NewBytes` of
-- air_core says the same of one row's accesses, without their times.)
abbrev pub KeepBytes : List Access → Type 0
KeepBytes [] = Unit {0}
KeepBytes (a ∷ more) = IsBytes a.old → (IsBytes a.new × KeepBytes more)

-- both words of an access are bytes
abbrev pub HasBytes : Access → Type 0
HasBytes a = IsBytes a.old × IsBytes a.new
