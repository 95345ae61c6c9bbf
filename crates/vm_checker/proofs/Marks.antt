-- What calls do that read values behind marks, one turn after another.
use Rattle.std.proofs.Common.{◌≡◌, ℕ, zero, suc, ◌+◌, Bool, true, false, List, [], Option, Some, None, Result, Ok, Err, refl, ap, ◌∙◌}
use Rattle.readings.specs.Readings.{Rest, rest_at, Reading, after, refusing, unless, by_mark, chain, listed}
use Rattle.readings.specs.Told.{Stops}
use Rattle.readings.specs.declared.Stop.{Stop}
use Rattle.readings.specs.declared.Stop.TheVariants.{Refused}
use Rattle.readings.proofs.Exacts.{done}
use Rattle.readings.proofs.Gives.{state_after, gave_by, stops_by, then_by, then_stops_by}
use Rattle.readings.proofs.Same.{unless_ok}
use Rattle.readings.proofs.Listed.{marked, mark_stops, full_stops, may_stops, value_stops, closed_stops, none_follows, listed_ends, listed_stops}
use Rattle.vm_host.specs.State.{HostState}
use Rattle.table_format.specs.declared.reason.Reason.{Reason}
use Rattle.table_format.specs.Stream.{Held, told_by}
use Rattle.table_format.proofs.Draws.{draws_both, fault_later}
use Rattle.table_format.proofs.Drawn.{Drew, Halts, drew_seen, drew_both, drew_unless, so_refused}

-- what passed a test was read
pub drew_passed : {V : Type 0} {r : Reading Reason V} {a b : Held} {s t : HostState} {v : V} (refuse : V → Option Reason) → Drew (unless refuse r) a b s t v → Drew r a b s t v
drew_passed {r = r} {a} {b} {s} {t} {v} refuse d = record {
  draws = d.draws;
  gave = gave_by (unless refuse r) r v v (λ i j bytes more e. (unless_ok refuse r (rest_at i bytes) (rest_at j more) v e).0) a.at b.at (told_by a s).rest (told_by b t).rest d.gave;
}

refuses_none : {A : Type 0} (o : Option Reason) (x : A) (e : Reason) → refusing o x ≡ Err e → o ≡ Some e
refuses_none None x e h = absurd cc
refuses_none (Some d) x e h = cc

module _ {S V : Type 0} (full : Reason) (may closed : S → Option Reason) (mark : Reading Reason Bool) (r : S → Reading Reason V) (next : S → V → S) where
  abbrev many : ℕ → S → Reading Reason (List V)
  many n x = listed full may closed mark r next n x

  abbrev one : S → Reading Reason V
  one = marked full may closed mark r next

  -- why one more may not follow, where so many still may
  abbrev pub may_at : ℕ → S → Option Reason
  may_at zero x = Some full
  may_at (suc m) x = may x

  refused_at : (m : ℕ) (x : S) (t u : Rest) (e : Reason) → mark t ≡ Ok (true, u) → may_at m x ≡ Some e → many m x t ≡ Err e
  refused_at zero x t u e h k = let same : full ≡ e = cc in full_stops full may closed mark r next x t u h ∙ ap (λ (d : Reason). Err d) same
  refused_at (suc m) x t u e h k = may_stops full may closed mark r next m x t u e h k

  tested : (m : ℕ) (x : S) (t : Rest) (e : Reason) (y : Result (Bool × Rest) Reason) → mark t ≡ y → after y (λ more u. refusing (by_mark (may_at m x) (closed x) more) (more, u)) ≡ Err e → many m x t ≡ Err e
  tested m x t e (Err d) is h = let same : d ≡ e = cc in mark_stops full may closed mark r next m x t d is ∙ ap (λ (k : Reason). Err k) same
  tested m x t e (Ok (true, u)) is h = refused_at m x t u e is (refuses_none (may_at m x) (true, u) e h)
  tested m x t e (Ok (false, u)) is h = closed_stops full may closed mark r next m x t u e is (refuses_none (closed x) (false, u) e h)

  -- a mark is refused
  pub mark_halts : (m : ℕ) (x : S) {a b : Held} {s t : HostState} {e : Stop Reason} → Halts (unless (by_mark (may_at m x) (closed x)) mark) a b s t e → Halts (many m x) a b s t e
  mark_halts m x {a} {b} {s} {t} {e} h =
      let test = unless (by_mark (may_at m x) (closed x)) mark in
      record {
        draws = h.draws;
        fault = h.fault;
        refused = so_refused e (Stops test (told_by a s)) (Stops (many m x) (told_by a s))
            (λ reason k. stops_by test (many m x) reason (λ i bytes f. tested m x (rest_at i bytes) reason (mark (rest_at i bytes)) refl f) a.at (told_by a s).rest k) h.refused;
      }

  -- the value behind a mark is refused
  pub value_halts : (m : ℕ) {x : S} {a b c : Held} {s t u : HostState} {e : Stop Reason} → may x ≡ None → Drew mark a b s t true → Halts (r x) b c t u e → Halts (many (suc m) x) a c s u e
  value_halts m {x} {a} {b} {c} {s} {t} {u} {e} passes d h = record {
    draws = draws_both d.draws h.draws;
    fault = fault_later s.faults t.faults u.faults e d.draws.took.later h.fault;
    refused = so_refused e (Stops (r x) (told_by b t)) (Stops (many (suc m) x) (told_by a s))
        (λ reason k. then_stops_by mark (r x) (many (suc m) x) true reason a.at b.at (λ bytes mid f g. value_stops full may closed mark r next m x (rest_at a.at bytes) (rest_at b.at mid) reason f passes g) (told_by a s).rest (told_by b t).rest d.gave k) h.refused;
  }

  -- a mark, and the value behind it
  pub drew_marked : {x : S} {a b c : Held} {s t u : HostState} {v : V} → may x ≡ None → Drew mark a b s t true → Drew (r x) b c t u v → Drew (one x) a c s u v
  drew_marked {x} passes d h = drew_seen (λ p. p.1) (drew_both (λ more. r x) (drew_unless (by_mark (may x) (Some full)) passes d) h)

  -- ---- behind so many values

  pub halts_behind : (i m : ℕ) (x : S) {vs : List V} {a b c : Held} {s t u : HostState} {e : Stop Reason} → Drew (chain one next i x) a b s t vs → Halts (many m (state_after next x vs)) b c t u e → Halts (many (i + m) x) a c s u e
  halts_behind i m x {vs} {a} {b} {c} {s} {t} {u} {e} d h = record {
    draws = draws_both d.draws h.draws;
    fault = fault_later s.faults t.faults u.faults e d.draws.took.later h.fault;
    refused = so_refused e (Stops (many m (state_after next x vs)) (told_by b t)) (Stops (many (i + m) x) (told_by a s))
        (λ reason k. then_stops_by (chain one next i x) (many m (state_after next x vs)) (many (i + m) x) vs reason a.at b.at
        (λ bytes mid f g. listed_stops full may closed mark r next i m x (rest_at a.at bytes) (rest_at b.at mid) vs reason f g) (told_by a s).rest (told_by b t).rest d.gave k) h.refused;
  }

  pub drew_end : (i m : ℕ) (x : S) {vs : List V} {a b c : Held} {s t u : HostState} → Drew (chain one next i x) a b s t vs → Drew mark b c t u false → closed (state_after next x vs) ≡ None → Drew (many (i + m) x) a c s u vs
  drew_end i m x {vs} {a} {b} {c} {s} {t} {u} d h passes = record {
    draws = draws_both d.draws h.draws;
    gave = then_by (chain one next i x) mark (many (i + m) x) vs false vs a.at b.at c.at
        (λ bytes mid more f g. listed_ends full may closed mark r next i m x (rest_at a.at bytes) (rest_at b.at mid) (rest_at c.at more) vs f
        (none_follows full may closed mark r next m (state_after next x vs) (rest_at b.at mid) (rest_at c.at more) g passes)) (told_by a s).rest (told_by b t).rest (told_by c u).rest d.gave h.gave;
  }
