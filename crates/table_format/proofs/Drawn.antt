-- What calls that read one item each do one after another: what was read, and where and why reading stopped.
use Rattle.std.proofs.Common.{◌≡◌, ℕ, ◌+◌, ◌<◌, nat_lt, length, Bool, true, false, List, [], ◌∷◌, ◌++◌, Option, Some, None, Result, Ok, Err, sym, subst, refl, ap}
use Rattle.std.specs.Prelude.{IsErrAnd}
use Rattle.std.proofs.lemmas.Result.{err_from_is_err_and}
use Rattle.vm_host.specs.declared.Slot.TheVariants.{Second}
use Rattle.vm_host.specs.State.{HostState}
use Rattle.vm_host.specs.Calls.{Rose}
use Rattle.vm_host.specs.ReadUpTo.{Took}
use Rattle.vm_host.proofs.Reading.{took_both, took_no_more}
use Rattle.std.specs.Int.{w32, from_le_bytes}
use Rattle.std.proofs.lemmas.Bool.{lt-ltb}
use Rattle.std.proofs.lemmas.List.{append-nil}
use Rattle.vm_field.specs.Field.{modulus}
use Rattle.readings.specs.Readings.{Reading, raw, seen, both, unless, only, chain}
use Rattle.readings.specs.declared.Stop.{Stop}
use Rattle.readings.specs.declared.Stop.TheVariants.{Refused, Fault, OutOfMemory}
use Rattle.readings.specs.Told.{Gave, Stops, IfRefused, IfFault, Is}
use Rattle.readings.proofs.Gives.{state_after, gave_seen, stops_seen, gave_unless, stops_unless, refused, gave_only, stops_only, not_only, stops_first, gave_both, stops_then, none_chained, more_chained, stops_chained}
use Rattle.table_format.specs.declared.reason.Reason.{Reason}
use Rattle.table_format.specs.declared.reason.Reason.TheVariants.{Cut, NotCanonical}
use Rattle.table_format.specs.Order.{element}
use Rattle.table_format.specs.Stream.{Held, told_by, Draws, Gives, ReadsBy, bare, TakesPiece, Takes}
use Rattle.table_format.proofs.Draws.{draws_none, draws_both, draws_given, gave_raw, stops_raw, fault_later, never_refused}

-- a value was read
pub record Drew {V : Type 0} (r : Reading Reason V) (a b : Held) (s t : HostState) (v : V) : Type 0 where
  pub draws : Draws a b s t
  pub gave : Gave r (told_by a s) (told_by b t) v

-- reading stopped
pub record Halts {V : Type 0} (r : Reading Reason V) (a b : Held) (s t : HostState) (e : Stop Reason) : Type 0 where
  pub draws : Draws a b s t
  pub fault : IfFault e (Rose s.faults t.faults)
  pub refused : IfRefused e (Stops r (told_by a s))

-- ---- of an answer, and back

pub drew_of : {V K : Type 0} {r : Reading Reason V} {Stands : V → K → Type 0} {a b : Held} {s t : HostState} {k : K} → ReadsBy r Stands a b s t (Ok k) → (v : V) × Stands v k × Drew r a b s t v
drew_of h = (h.ok.0, h.ok.1, record { draws = h.kept; gave = h.ok.2 })

-- the answer is the value
pub drew_is : {V : Type 0} {r : Reading Reason V} {a b : Held} {s t : HostState} {k : V} → ReadsBy r Is a b s t (Ok k) → Drew r a b s t k
drew_is {r = r} {a} {b} {s} {t} h = record { draws = h.kept; gave = subst (Gave r (told_by a s) (told_by b t)) (sym h.ok.1) h.ok.2 }

pub halts_of : {V K : Type 0} {r : Reading Reason V} {Stands : V → K → Type 0} {a b : Held} {s t : HostState} {e : Stop Reason} → ReadsBy r Stands a b s t (Err e) → Halts r a b s t e
halts_of h = record { draws = h.kept; fault = h.fault; refused = h.refused }

pub drew_answers : {V K : Type 0} {r : Reading Reason V} {Stands : V → K → Type 0} {a b : Held} {s t : HostState} {v : V} (k : K) → Drew r a b s t v → Stands v k → ReadsBy r Stands a b s t (Ok k)
drew_answers {v = v} k h stands = record { kept = h.draws; fault = tt; ok = (v, stands, h.gave); refused = tt }

pub halts_answer : {V K : Type 0} {r : Reading Reason V} {Stands : V → K → Type 0} {a b : Held} {s t : HostState} {e : Stop Reason} → Halts r a b s t e → ReadsBy r Stands a b s t (Err e)
halts_answer h = record { kept = h.draws; fault = h.fault; ok = tt; refused = h.refused }

-- the error of a part, handed on by `?`
pub halts_answers : {V K : Type 0} {r : Reading Reason V} {Stands : V → K → Type 0} {a b : Held} {s t : HostState} {e : Stop Reason} (result : Result K (Stop Reason)) → IsErrAnd result (λ y. y ≡ e) → Halts r a b s t e → ReadsBy r Stands a b s t result
halts_answers result is h = let p = err_from_is_err_and result is in rw (p.1, p.2) (halts_answer h)

-- these bytes were given
pub drew_given : {a b : Held} (s : HostState) (count : ℕ) (bytes : List ℕ) → (s.input Second).is_open ≡ true → Gives a b count bytes → Drew (raw Cut count) a b s s bytes
drew_given s count bytes is_open g = let d = draws_given s count bytes is_open g in record { draws = d; gave = gave_raw count d g.number }

-- ---- readings made of others

pub so_refused : (e : Stop Reason) (P Q : Reason → Type 0) → ((reason : Reason) → P reason → Q reason) → IfRefused e P → IfRefused e Q
so_refused (Refused reason) P Q f h = f reason h
so_refused Fault P Q f h = tt
so_refused OutOfMemory P Q f h = tt

module _ {V : Type 0} {r : Reading Reason V} {a b : Held} {s t : HostState} where
  pub drew_seen : {W : Type 0} {v : V} (f : V → W) → Drew r a b s t v → Drew (seen f r) a b s t (f v)
  drew_seen {v = v} f h = record { draws = h.draws; gave = gave_seen r (told_by a s) (told_by b t) f v h.gave }

  pub drew_unless : {v : V} (refuse : V → Option Reason) → refuse v ≡ None → Drew r a b s t v → Drew (unless refuse r) a b s t v
  drew_unless {v = v} refuse n h = record { draws = h.draws; gave = gave_unless r (told_by a s) (told_by b t) refuse v n h.gave }

  pub drew_only : {v : V} (ok : V → Bool) (why : ℕ → Reason) → ok v ≡ true → Drew r a b s t v → Drew (only ok why r) a b s t v
  drew_only {v = v} ok why n h = record { draws = h.draws; gave = gave_only r (told_by a s) (told_by b t) ok why v n h.gave }

  pub drew_both : {W : Type 0} {c : Held} {u : HostState} {v : V} {w : W} (f : V → Reading Reason W) → Drew r a b s t v → Drew (f v) b c t u w → Drew (both r f) a c s u (v, w)
  drew_both {c = c} {u} {v} {w} f h k = record { draws = draws_both h.draws k.draws; gave = gave_both r (told_by a s) (told_by b t) f (told_by c u) v w h.gave k.gave }

  -- a test of what was read fails
  pub halts_unless : {v : V} (refuse : V → Option Reason) (reason : Reason) → refuse v ≡ Some reason → Drew r a b s t v → Halts (unless refuse r) a b s t (Refused reason)
  halts_unless {v = v} refuse reason n h = record { draws = h.draws; fault = tt; refused = refused r (told_by a s) (told_by b t) refuse v reason n h.gave }

  pub halts_only : {v : V} (ok : V → Bool) (why : ℕ → Reason) → ok v ≡ false → Drew r a b s t v → Halts (only ok why r) a b s t (Refused (why a.at))
  halts_only {v = v} ok why n h = record { draws = h.draws; fault = tt; refused = not_only r (told_by a s) (told_by b t) ok why v n h.gave }

  module _ {e : Stop Reason} where
    pub seen_halts : {W : Type 0} (f : V → W) → Halts r a b s t e → Halts (seen f r) a b s t e
    seen_halts f h = record { draws = h.draws; fault = h.fault; refused = so_refused e (Stops r (told_by a s)) (Stops (seen f r) (told_by a s)) (stops_seen r (told_by a s) (told_by b t) f) h.refused }

    pub unless_halts : (refuse : V → Option Reason) → Halts r a b s t e → Halts (unless refuse r) a b s t e
    unless_halts refuse h = record { draws = h.draws; fault = h.fault; refused = so_refused e (Stops r (told_by a s)) (Stops (unless refuse r) (told_by a s)) (stops_unless r (told_by a s) (told_by b t) refuse) h.refused }

    pub only_halts : (ok : V → Bool) (why : ℕ → Reason) → Halts r a b s t e → Halts (only ok why r) a b s t e
    only_halts ok why h = record { draws = h.draws; fault = h.fault; refused = so_refused e (Stops r (told_by a s)) (Stops (only ok why r) (told_by a s)) (stops_only r (told_by a s) (told_by b t) ok why) h.refused }

    -- the first part stopped
    pub halts_first : {W : Type 0} (f : V → Reading Reason W) → Halts r a b s t e → Halts (both r f) a b s t e
    halts_first f h = record { draws = h.draws; fault = h.fault; refused = so_refused e (Stops r (told_by a s)) (Stops (both r f) (told_by a s)) (stops_first r (told_by a s) (told_by b t) f) h.refused }

    -- the first part was read, and the rest stopped
    pub halts_then : {W : Type 0} {c : Held} {u : HostState} {v : V} (f : V → Reading Reason W) → Drew r a b s t v → Halts (f v) b c t u e → Halts (both r f) a c s u e
    halts_then {c = c} {u} {v} f h k = record {
      draws = draws_both h.draws k.draws;
      fault = fault_later s.faults t.faults u.faults e h.draws.took.later k.fault;
      refused = so_refused e (Stops (f v) (told_by b t)) (Stops (both r f) (told_by a s)) (λ reason. stops_then r (told_by a s) (told_by b t) f v reason h.gave) k.refused;
    }

-- an element whose bytes were held
pub drew_held : {a b : Held} (s : HostState) (n : ℕ) (bytes : List ℕ) → (s.input Second).is_open ≡ true → n < modulus → n ≡ from_le_bytes w32 bytes → Gives a b 4 bytes → Drew element a b s s n
drew_held {a} {b} s n bytes is_open low is g =
    let told : nat_lt (from_le_bytes w32 bytes) modulus ≡ true = lt-ltb _ _ (subst (λ (k : ℕ). k < modulus) is low) in
    subst (λ (k : ℕ). Drew element a b s s k) (sym is) (drew_only (λ k. nat_lt k modulus) NotCanonical told (drew_seen (from_le_bytes w32) (drew_given s 4 bytes is_open g)))

-- memory is out, wherever
pub memory_halts : {V : Type 0} {r : Reading Reason V} {a b : Held} {s t : HostState} → Draws a b s t → Halts r a b s t OutOfMemory
memory_halts d = record { draws = d; fault = tt; refused = tt }

-- ---- one after another

module _ {S V : Type 0} (r : S → Reading Reason V) (next : S → V → S) (x : S) where
  pub drew_none : (a : Held) (s : HostState) → (s.input Second).is_open ≡ true → Drew (chain r next 0 x) a a s s []
  drew_none a s is_open = record { draws = draws_none a s is_open; gave = none_chained r next x (told_by a s) }

  pub drew_more : (i : ℕ) {a b c : Held} {s t u : HostState} {vs : List V} {v : V} → Drew (chain r next i x) a b s t vs → Drew (r (state_after next x vs)) b c t u v → Drew (chain r next (i + 1) x) a c s u (vs ++ v ∷ [])
  drew_more i {a} {b} {c} {s} {t} {u} {vs} {v} h k = record { draws = draws_both h.draws k.draws; gave = more_chained r next x i (told_by a s) (told_by b t) (told_by c u) vs v h.gave k.gave }

  pub halts_chained : (i n : ℕ) {a b c : Held} {s t u : HostState} {vs : List V} {e : Stop Reason} → i < n → Drew (chain r next i x) a b s t vs → Halts (r (state_after next x vs)) b c t u e → Halts (chain r next n x) a c s u e
  halts_chained i n {a} {b} {c} {s} {t} {u} {vs} {e} lt h k = record {
    draws = draws_both h.draws k.draws;
    fault = fault_later s.faults t.faults u.faults e h.draws.took.later k.fault;
    refused = so_refused e (Stops (r (state_after next x vs)) (told_by b t)) (Stops (chain r next n x) (told_by a s)) (λ reason. stops_chained r next x i n lt (told_by a s) (told_by b t) vs reason h.gave) k.refused;
  }

-- ---- bytes that are taken and not held

abbrev pub took_draws : {s t : HostState} {bytes : List ℕ} (at : ℕ) → Took Second s t bytes → Draws (bare at) (bare (at + length bytes)) s t
took_draws {bytes = bytes} at h = record { taken = bytes; given = bytes; took = h; parts = sym (append-nil bytes); place = refl }

pub takes_stops : {s t u : HostState} {bytes into piece : List ℕ} (at count : ℕ) (e : Stop Reason) (result : Result (Unit {0}) (Stop Reason)) → IsErrAnd result (λ y. y ≡ e) → Took Second s t bytes → TakesPiece piece t u (Err e) → Takes at count into s u result
takes_stops {s} {t} {u} {bytes} at count e result is h p =
    let k = err_from_is_err_and result is in
    let took = took_both Second s t u bytes [] h p.took in
    rw (k.1, k.2) (record {
      end = at + length (bytes ++ []);
      reads = halts_answer (record { draws = took_draws at took; fault = fault_later s.faults t.faults u.faults e h.later p.fault; refused = never_refused e (Stops (raw Cut count) (told_by (bare at) s)) p.refused });
      whole = tt;
    })

-- no byte follows
pub takes_cut : {s t u : HostState} {bytes into piece : List ℕ} {n : ℕ} (at count place : ℕ) → Took Second s t bytes → TakesPiece piece t u (Ok n) → n ≡ 0 → 0 < length piece → length bytes < count → place ≡ at + length bytes
    → Takes at count into s u (Err (Refused (Cut place)))
takes_cut {s} {t} {u} {bytes} {into} {piece} {n} at count place h p none room few e =
    let took = took_no_more Second s t u bytes piece n h p.ok none in
    let d = took_draws at took in
    rw e (record {
      end = at + length bytes;
      reads = halts_answer (record { draws = d; fault = tt; refused = stops_raw count d refl (p.ok.end none room) few });
      whole = tt;
    })

-- all of them were read
pub takes_all : {s t : HostState} {bytes into : List ℕ} (at count : ℕ) → Took Second s t bytes → bytes ≡ into → length bytes ≡ count → Takes at count into s t (Ok tt)
takes_all {s} {t} {bytes} {into} at count h same size =
    let d = took_draws at h in
    record {
      end = at + length bytes;
      reads = drew_answers {v = bytes} tt (record { draws = d; gave = gave_raw count d size }) (sym same);
      whole = ap (λ (n : ℕ). at + n) size;
    }
