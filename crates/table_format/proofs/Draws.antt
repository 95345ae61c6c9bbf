-- What follows from bytes that were taken and given.
use Rattle.std.proofs.Common.{◌≡◌, ℕ, zero, suc, ◌+◌, ◌<◌, ◌≤◌, List, [], ◌∷◌, ◌++◌, length, take, Option, Some, None, Ok, Err, refl, sym, ap, ◌∙◌, append_assoc, arith}
use Rattle.std.specs.Prelude.{IfSome, Bool, true, false, nat_lt}
use Rattle.std.proofs.lemmas.Bool.{lt-ltb}
use Rattle.std.proofs.lemmas.List.{append-nil, length-append, nil_from_length}
use Rattle.vm_host.specs.declared.Slot.TheVariants.{Second}
use Rattle.vm_host.specs.State.{HostState, after_these}
use Rattle.vm_host.specs.Calls.{AtEnd, Rose, Reads as HostReads}
use Rattle.vm_host.specs.declared.HostError.{HostError}
use Rattle.vm_host.proofs.Reading.{after_both, took_none, took_both, took_piece, took_refused}
use Rattle.readings.specs.Readings.{Reading, rest_at, raw}
use Rattle.readings.specs.declared.Stop.{Stop}
use Rattle.readings.specs.declared.Stop.TheVariants.{Refused, Fault, OutOfMemory}
use Rattle.readings.specs.Told.{GaveBy, Gave, Stops, IfFault, IfRefused}
use Rattle.readings.proofs.Exacts.{exact_raw}
use Rattle.table_format.specs.declared.reason.Reason.{Reason}
use Rattle.table_format.specs.declared.reason.Reason.TheVariants.{Cut}
use Rattle.table_format.specs.Stream.{Held, told_by, Draws, Gives, ReadsBy, IsReady}

pub rose_later : (a b c : ℕ) → a ≤ b → Rose b c → Rose a c
rose_later a b c le rose = omega arith

abbrev pub draws_none : (h : Held) (s : HostState) → (s.input Second).is_open ≡ true → Draws h h s s
draws_none h s is_open = record { taken = []; given = []; took = took_none Second s is_open; parts = append-nil h.ahead; place = omega arith }

abbrev pub draws_both : {a b c : Held} {s t u : HostState} → Draws a b s t → Draws b c t u → Draws a c s u
draws_both {a = a} {b} {c} {s} {t} {u} x y = record {
  taken = x.taken ++ y.taken;
  given = x.given ++ y.given;
  took = took_both Second s t u x.taken y.taken x.took y.took;
  parts =
      sym (append_assoc a.ahead x.taken y.taken)
      ∙ ap (λ (k : List ℕ). k ++ y.taken) x.parts
      ∙ append_assoc x.given b.ahead y.taken
      ∙ ap (λ (k : List ℕ). x.given ++ k) y.parts
      ∙ sym (append_assoc x.given y.given c.ahead);
  place = omega (arith, x.place, y.place, length-append x.given y.given);
}

abbrev pub draws_given : {a b : Held} (s : HostState) (count : ℕ) (bytes : List ℕ) → (s.input Second).is_open ≡ true → Gives a b count bytes → Draws a b s s
draws_given {a = a} s count bytes is_open g = record {
  taken = [];
  given = bytes;
  took = took_none Second s is_open;
  parts = append-nil a.ahead ∙ g.parts;
  place = omega (arith, g.place, g.number);
}

-- nothing was taken or given
pub draws_same : {a b : Held} (s : HostState) → (s.input Second).is_open ≡ true → a.ahead ≡ b.ahead → b.at ≡ a.at → Draws a b s s
draws_same {a = a} s is_open ahead at = record { taken = []; given = []; took = took_none Second s is_open; parts = append-nil a.ahead ∙ ahead; place = omega (arith, at) }

-- the host refused to read
pub draws_refused : {a b : Held} {s t : HostState} (into : List ℕ) (e : HostError) → (s.input Second).is_open ≡ true → a.ahead ≡ b.ahead → b.at ≡ a.at → HostReads Second s t (Err e) into → Draws a b s t
draws_refused {a = a} {s = s} {t} into e is_open ahead at reads = record {
  taken = [];
  given = [];
  took = took_refused Second s s t [] into e (took_none Second s is_open) reads;
  parts = append-nil a.ahead ∙ ahead;
  place = omega (arith, at);
}

-- a piece was taken, where none was held
pub draws_piece : {a b : Held} {s t : HostState} (count : ℕ) (into : List ℕ) → (s.input Second).is_open ≡ true → a.ahead ≡ [] → HostReads Second s t (Ok count) into → b.ahead ≡ take count into → b.at ≡ a.at → Draws a b s t
draws_piece {a = a} {b} {s} {t} count into is_open empty reads ahead at = record {
  taken = take count into;
  given = [];
  took = took_piece Second s s t [] into count (took_none Second s is_open) reads;
  parts = ap (λ (k : List ℕ). k ++ take count into) empty ∙ sym ahead;
  place = omega (arith, at);
}

-- ---- what is told

pub told_draws : {a b : Held} {s t : HostState} (d : Draws a b s t) → (told_by a s).rest ≡ after_these d.given (told_by b t).rest
told_draws {a = a} {b} {s} {t} d =
    ap (after_these a.ahead) d.took.taken
    ∙ after_both a.ahead d.taken (t.input Second).rest
    ∙ ap (λ (k : List ℕ). after_these k (t.input Second).rest) d.parts
    ∙ sym (after_both d.given b.ahead (t.input Second).rest)

gave_by_given : (n i j : ℕ) (given : List ℕ) (a b : Option (List ℕ)) → a ≡ after_these given b → length given ≡ n → j ≡ i + length given → GaveBy (raw Cut n) given i j a b
gave_by_given n i j given None None e size at = tt
gave_by_given n i j given None (Some more) e size at = absurd cc
gave_by_given n i j given (Some bytes) None e size at = absurd cc
gave_by_given n i j given (Some bytes) (Some more) e size at =
    let same : bytes ≡ given ++ more = cc in
    rw (same, at) ((exact_raw Cut n).again i given more size)

-- so many bytes were given
pub gave_raw : {a b : Held} {s t : HostState} (n : ℕ) (d : Draws a b s t) → length d.given ≡ n → Gave (raw Cut n) (told_by a s) (told_by b t) d.given
gave_raw {a = a} {b} {s} {t} n d size = gave_by_given n a.at b.at d.given (told_by a s).rest (told_by b t).rest (told_draws d) size d.place

stops_by_end : (n i j : ℕ) (given : List ℕ) (a b : Option (List ℕ)) → a ≡ after_these given (after_these [] b) → AtEnd b → length given < n → j ≡ i + length given → IfSome a (λ bytes. raw Cut n (rest_at i bytes) ≡ Err (Cut j))
stops_by_end n i j given None b e end few at = tt
stops_by_end n i j given (Some bytes) None e end few at = absurd cc
stops_by_end n i j given (Some bytes) (Some more) e end few at =
    let same : bytes ≡ given ++ ([] ++ more) = cc in
    let all : bytes ≡ given = same ∙ ap (λ (k : List ℕ). given ++ k) end ∙ append-nil given in
    rw (all, lt-ltb (length given) n few, at) refl

-- no byte follows, and fewer were given
pub stops_raw : {a b : Held} {s t : HostState} (n : ℕ) (d : Draws a b s t) → b.ahead ≡ [] → AtEnd (t.input Second).rest → length d.given < n → Stops (raw Cut n) (told_by a s) (Cut b.at)
stops_raw {a = a} {b} {s} {t} n d none end few =
    stops_by_end n a.at b.at d.given (told_by a s).rest (t.input Second).rest (told_draws d ∙ ap (λ (k : List ℕ). after_these d.given (after_these k (t.input Second).rest)) none) end few d.place

-- ---- answers

pub fault_later : (a b c : ℕ) (e : Stop Reason) → a ≤ b → IfFault e (Rose b c) → IfFault e (Rose a c)
fault_later a b c (Refused reason) le rose = tt
fault_later a b c Fault le rose = rose_later a b c le rose
fault_later a b c OutOfMemory le rose = tt

pub never_refused : (e : Stop Reason) (P : Reason → Type 0) → IfRefused e (λ reason. ⊥) → IfRefused e P
never_refused (Refused reason) P never = absurd never
never_refused Fault P never = tt
never_refused OutOfMemory P never = tt

-- a call stopped, and not for a reason
pub stopped : {V K : Type 0} (r : Reading Reason V) (Stands : V → K → Type 0) (a b c : Held) (s t u : HostState) (e : Stop Reason)
    → Draws a b s t → Draws b c t u → IfFault e (Rose t.faults u.faults) → IfRefused e (λ reason. ⊥) → ReadsBy r Stands a c s u (Err e)
stopped r Stands a b c s t u e x y fault refused = record {
  kept = draws_both x y;
  fault = fault_later s.faults t.faults u.faults e x.took.later fault;
  ok = tt;
  refused = never_refused e (Stops r (told_by a s)) refused;
}

-- whether a byte is held, by the count of those that were taken
pub is_ready : (h : Held) (t : HostState) (count : ℕ) (into : List ℕ) → h.ahead ≡ take count into → count ≤ length into → (count ≡ 0 → AtEnd (t.input Second).rest) → IsReady (nat_lt 0 count) h t
is_ready h t zero into e le end = (e, end refl)
is_ready h t (suc n) [] e le end = absurd (omega arith)
is_ready h t (suc n) (x ∷ xs) e le end = rw (lt-ltb 0 (suc n) (omega arith)) (λ none. let nil : x ∷ take n xs ≡ [] = sym e ∙ none in absurd cc)

pub none_given : {a b : Held} {s t : HostState} (d : Draws a b s t) → b.at ≡ a.at → d.given ≡ []
none_given d at = nil_from_length d.given (omega (arith, d.place, at))

pub not_ready : (more : Bool) (h : Held) (t : HostState) → more ≡ false → IsReady more h t → IsReady false h t
not_ready true h t e ready = absurd cc
not_ready false h t e ready = ready
