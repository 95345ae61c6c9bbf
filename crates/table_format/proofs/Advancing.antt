-- What a reader's calls do, from what its stream gave.
use Rattle.std.proofs.Common.{◌≡◌, ℕ, ◌≤◌, nat_lt, Result, Ok, Err, sym, subst}
use Rattle.std.specs.Prelude.{if◌then◌else◌}
use Rattle.std.proofs.lemmas.Bool.{le-ltb}
use Rattle.vm_host.specs.State.{HostState}
use Rattle.readings.specs.Readings.{Reading, seen, both}
use Rattle.readings.specs.declared.Stop.{Stop}
use Rattle.table_format.specs.declared.item.Item.{Item}
use Rattle.table_format.specs.declared.stage.Stage.{Stage}
use Rattle.table_format.specs.declared.reason.Reason.{Reason}
use Rattle.table_format.specs.declared.table_reader.TableReader.{TableReader}
use Rattle.table_format.specs.Reader.{Step, item_by, item_at}
use Rattle.table_format.specs.ReadsItems.{form_of, spot_of, StepsBy}
use Rattle.table_format.specs.Stream.{Held, ReadsBy}
use Rattle.table_format.proofs.Drawn.{Drew, drew_of, drew_seen, drew_both, drew_answers, halts_of, halts_then, halts_answer, seen_halts}

-- a part that is not told, and then what follows it
pub then_reads : {V W K : Type 0} {r : Reading Reason V} {Stands : W → K → Type 0} {a b c : Held} {s t u : HostState} {v : V} (f : V → Reading Reason W) (result : Result K (Stop Reason))
    → Drew r a b s t v → ReadsBy (f v) Stands b c t u result → ReadsBy (seen (λ p. p.1) (both r f)) Stands a c s u result
then_reads f (Ok k) d h = let x = drew_of h in drew_answers k (drew_seen (λ p. p.1) (drew_both f d x.2)) x.1
then_reads f (Err e) d h = halts_answer (seen_halts (λ p. p.1) (halts_then f d (halts_of h)))

-- nothing of a list is left
pub none_left : {a b : TableReader} {s t : HostState} {result : Result Item (Stop Reason)} {B : Reading Reason Step} (A : Reading Reason Step) (left : ℕ) → left ≤ 0 → StepsBy B a b s t result
    → StepsBy (if nat_lt 0 left then A else B) a b s t result
none_left A left le h = rw (le-ltb 0 left le) h

pub by_stage : {a b : TableReader} {s t : HostState} {result : Result Item (Stop Reason)} (k : Stage) → a.stage ≡ k → StepsBy (item_by (form_of a) (spot_of a) k) a b s t result
    → StepsBy (item_at (form_of a) (spot_of a)) a b s t result
by_stage {a} {b} {s} {t} {result} k e h = subst (λ (l : Stage). StepsBy (item_by (form_of a) (spot_of a) l) a b s t result) (sym e) h
