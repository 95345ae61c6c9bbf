-- What each record says on the buses, summed over the records.
use Rattle.std.proofs.Common.{◌≡◌, ℕ, ◌+◌, List, [], ◌∷◌, ◌++◌, map, refl, sym, ap, ◌∙◌, arith}
use Rattle.std.specs.Prelude.{flat_map}
use Rattle.std.specs.List.{AllByRecursion}
use Rattle.std.proofs.lemmas.Grind.{flat_map-append}
use Rattle.vm_isa.specs.declared.access.TimedAccess.{TimedAccess}
use Rattle.vm_isa.specs.declared.record.StepRecord.{StepRecord}
use Rattle.vm_isa.specs.Instr.{numbers_of}
use Rattle.vm_isa.specs.Slots.{slots_of}
use Rattle.air_core.specs.declared.bus.TheConstants.{PROGRAM}
use Rattle.air_core.specs.declared.event.Event.{Event}
use Rattle.air_core.specs.declared.event.Side.{Side}
use Rattle.air_core.specs.declared.event.Side.TheVariants.{Send, Receive}
use Rattle.air_core.specs.Balance.{total}
use Rattle.air_core.specs.Counts.{weight, once}
use Rattle.air_core.specs.Laws.{Recorded, record_events}
use Rattle.air_core.specs.Sheet.{sent}
use Rattle.air_core.proofs.BalanceLemmas.{total-cons, total-append}
use Rattle.air_core.proofs.Totals.{same_tuple, total-on_bus, total_send-exchange, total_receive-exchange}
use Rattle.exec_path.specs.Path.{Point}
use Rattle.exec_path.specs.PathEvents.{point_tuple}
use Rattle.offline_memory.specs.MemoryEvents.{access_events}
use Rattle.vm_executor.specs.Records.{Chained, point_after, access_of, accesses_of}

abbrev pub point_is : List ℕ → Point → ℕ
point_is tuple x = once (same_tuple (point_tuple x) tuple)

abbrev begins : StepRecord → Point
begins d = record { pc = d.instr.pc; time = d.time }

abbrev goes : StepRecord → Point
goes d = record { pc = d.next; time = d.time + slots_of d.instr.op }

-- ---- one record

module _ (d : StepRecord) (events : List Event) (said : Recorded d events) (tuple : List ℕ) where
  path_sent : total Send 0 tuple events ≡ point_is tuple (goes d)
  path_sent =
      sym (total-on_bus Send 0 tuple events) ∙ ap (total Send 0 tuple) said.path
      ∙ total_send-exchange 0 tuple (point_tuple (begins d)) (point_tuple (goes d))

  path_received : total Receive 0 tuple events ≡ point_is tuple (begins d)
  path_received =
      sym (total-on_bus Receive 0 tuple events) ∙ ap (total Receive 0 tuple) said.path
      ∙ total_receive-exchange 0 tuple (point_tuple (begins d)) (point_tuple (goes d))

  accessed : (side : Side) → total side 2 tuple events ≡ total side 2 tuple (flat_map access_events (map access_of d.accesses))
  accessed side = sym (total-on_bus side 2 tuple events) ∙ ap (total side 2 tuple) (said.memory ∙ listed d.accesses)
    where
      listed : (accesses : List TimedAccess) → flat_map record_events accesses ≡ flat_map access_events (map access_of accesses)
      listed [] = refl
      listed (a ∷ more) = ap (λ (t : List Event). record_events a ++ t) (listed more)

  program_sent : total Send 1 tuple events ≡ once (same_tuple (numbers_of d.instr) tuple)
  program_sent =
      sym (total-on_bus Send 1 tuple events) ∙ ap (total Send 1 tuple) said.program
      ∙ total-cons Send 1 tuple (sent PROGRAM 1 (numbers_of d.instr)) [] ∙ omega arith

-- ---- all records: `of` are the events of each

module _ (of : StepRecord → List Event) (done : List StepRecord) (said : AllByRecursion (λ d. Recorded d (of d)) done) (tuple : List ℕ) where
  each : (v w : StepRecord → ℕ) → ((d : StepRecord) → Recorded d (of d) → v d ≡ w d) → (ds : List StepRecord) → AllByRecursion (λ d. Recorded d (of d)) ds → weight v ds ≡ weight w ds
  each v w f [] h = refl
  each v w f (d ∷ ds) h = omega (arith, f d h.0, each v w f ds h.1)

  pub paths_sent : weight (λ d. total Send 0 tuple (of d)) done ≡ weight (λ d. point_is tuple (goes d)) done
  paths_sent = each (λ d. total Send 0 tuple (of d)) (λ d. point_is tuple (goes d)) (λ d h. path_sent d (of d) h tuple) done said

  pub paths_received : weight (λ d. total Receive 0 tuple (of d)) done ≡ weight (λ d. point_is tuple (begins d)) done
  paths_received = each (λ d. total Receive 0 tuple (of d)) (λ d. point_is tuple (begins d)) (λ d h. path_received d (of d) h tuple) done said

  pub programs_sent : weight (λ d. total Send 1 tuple (of d)) done ≡ weight (λ d. once (same_tuple (numbers_of d.instr) tuple)) done
  programs_sent = each (λ d. total Send 1 tuple (of d)) (λ d. once (same_tuple (numbers_of d.instr) tuple)) (λ d h. program_sent d (of d) h tuple) done said

  listed : (side : Side) → (ds : List StepRecord)
      → weight (λ d. total side 2 tuple (flat_map access_events (map access_of d.accesses))) ds ≡ total side 2 tuple (flat_map access_events (accesses_of ds))
  listed side [] = refl
  listed side (d ∷ ds) =
      omega (
        arith,
        ap (total side 2 tuple) (flat_map-append access_events (map access_of d.accesses) (accesses_of ds)),
        total-append side 2 tuple (flat_map access_events (map access_of d.accesses)) (flat_map access_events (accesses_of ds)),
        listed side ds,
      )

  -- on the memory bus they say what their accesses do
  pub memories_said : (side : Side) → weight (λ d. total side 2 tuple (of d)) done ≡ total side 2 tuple (flat_map access_events (accesses_of done))
  memories_said side =
      each (λ d. total side 2 tuple (of d)) (λ d. total side 2 tuple (flat_map access_events (map access_of d.accesses))) (λ d h. accessed d (of d) h tuple side) done said ∙ listed side done

-- ---- the path

-- Records that follow one another: what is sent at the start and by them is received by them and at the end.
pub chain_sums : (tuple : List ℕ) (from : Point) (done : List StepRecord) → Chained from done
    → point_is tuple from + weight (λ d. point_is tuple (goes d)) done ≡ weight (λ d. point_is tuple (begins d)) done + point_is tuple (point_after from done)
unfolding Chained
chain_sums tuple from [] chained = omega arith
chain_sums tuple from (d ∷ more) chained =
    let make : ℕ → ℕ → ℕ = λ pc time. point_is tuple (record { pc = pc; time = time }) in
    let here : point_is tuple (begins d) ≡ point_is tuple from = ap (λ x. make x d.time) chained.0 ∙ ap (λ y. make from.pc y) chained.1 in
    omega (arith, here, chain_sums tuple (goes d) more chained.2)
