-- The hint bytes that are left.
use Rattle.std.specs.Prelude.{ℕ, List, drop}
use Rattle.rv_run.specs.declared.hints.Hints.TheInside.{Inside}

abbrev pub bytes_left : Inside → List ℕ
bytes_left hints = drop hints.taken hints.bytes.items
