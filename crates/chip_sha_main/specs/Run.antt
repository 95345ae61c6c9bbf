-- The runs of a row's accesses, by where their columns stand.
use Rattle.std.specs.Prelude.{ℕ, List}
use Rattle.air_core.specs.Ring.{field}
use Rattle.gadget_time.specs.declared.touch.Touch.{Touch}
use Rattle.chip_sha_main.specs.declared.accesses.Run.{Run}
use Rattle.chip_sha_main.specs.Main.{run_touches, words_by, gaps_by}

-- words one after another, by the columns of old words, new words and times
abbrev pub run_in : (ℕ → ℕ) → Run → ℕ → ℕ → List (Touch ℕ)
run_in column run count base = run_touches field count run.slot base 0 (words_by column run.old run.words) (words_by column run.new run.words) (gaps_by column run.gaps run.words)
