-- All words are bytes, along the order of time.
use Rattle.std.proofs.Common.{List, [], ◌∷◌, ◌++◌, subst}
use Rattle.std.specs.Prelude.{flat_map}
use Rattle.std.specs.List.{AllByRecursion}
use Rattle.vm_isa.specs.Words.{IsBytes}
use Rattle.air_core.specs.ListLemmas.{all_left, all_right, all_append}
use Rattle.offline_memory.specs.Memory.{Cell, Access, InTime, met_cell, left_cell}
use Rattle.offline_memory.specs.Bytes.{KeepBytes, HasBytes}
use Rattle.offline_memory.proofs.MemoryLemmas.{Outstanding, Met, meet, later_in_time}

pub KeepBytes-append : (xs ys : List Access) → KeepBytes xs → KeepBytes ys → KeepBytes (xs ++ ys)
KeepBytes-append [] ys k l = l
KeepBytes-append (a ∷ xs) ys k l = λ old. ((k old).0, KeepBytes-append xs ys (k old).1 l)

-- rows that keep bytes, one after the other
pub KeepBytes-rows : (rows : List (List Access)) → AllByRecursion KeepBytes rows → KeepBytes (flat_map (λ row. row) rows)
KeepBytes-rows [] k = tt
KeepBytes-rows (row ∷ rows) k = KeepBytes-append row (flat_map (λ row. row) rows) k.0 (KeepBytes-rows rows k.1)

pub bytes : (cells finals : List Cell) (accesses : List Access) → InTime accesses → Outstanding cells finals accesses → AllByRecursion (λ c. IsBytes c.word) cells → KeepBytes accesses → AllByRecursion HasBytes accesses
bytes cells finals [] time due words keeps = tt
bytes cells finals (a ∷ more) time due words keeps =
    let met : Met cells finals a more = meet cells finals a more time due in
    let P : Cell → Type 0 = λ c. IsBytes c.word in
    let all : AllByRecursion (λ c. IsBytes c.word) (met.front ++ met_cell a ∷ met.back) = subst (λ (cs : List Cell). AllByRecursion (λ c. IsBytes c.word) cs) met.is words in
    let right : AllByRecursion (λ c. IsBytes c.word) (met_cell a ∷ met.back) = all_right P met.front (met_cell a ∷ met.back) all in
    let old : IsBytes a.old = right.0 in
    let new : IsBytes a.new = (keeps old).0 in
    let next : AllByRecursion (λ c. IsBytes c.word) (met.front ++ left_cell a ∷ met.back) = all_append P met.front (left_cell a ∷ met.back) (all_left P met.front (met_cell a ∷ met.back) all) (new, right.1) in
    ((old, new), bytes (met.front ++ left_cell a ∷ met.back) finals more (later_in_time a more time) met.next next (keeps old).1)
