use Rattle.std.proofs.Common.{◌≡◌, length, take}
use Rattle.sha_words.specs.Sha256.{schedule}
use Rattle.sha_words.proofs.schedule.Given as goal

abbrev pub invariant-loop-t : goal.invariant-loop-t
invariant-loop-t l = record { long : length l.words ≡ 80; filled : take l.t l.words ≡ schedule l.block l.t }
