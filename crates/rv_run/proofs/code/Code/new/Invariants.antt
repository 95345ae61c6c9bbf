use Rattle.std.proofs.Common.{◌≡◌, take, map}
use Rattle.elf_image.specs.Loaded.{text_of}
use Rattle.rv_run.specs.Code.{decoded}
use Rattle.rv_run.proofs.code.Code.new.Given as goal

-- the words so far are decoded
abbrev pub invariant-loop-place : goal.invariant-loop-place
invariant-loop-place l = l.lines.items ≡ map decoded (take l.place (text_of l.image))
