-- A file that was read whole, and what is told of it.
use Rattle.std.proofs.Common.{◌≡◌, ℕ, Bool, true, false, List, [], ◌∷◌, Option, Some, None, Result, Ok, Err, refl, sym, ap, subst, ◌∙◌}
use Rattle.std.specs.Prelude.{IfSome, IfOk, IsTrue, IsErrAnd, ◌↔◌}
use Rattle.std.specs.Option.{option_or}
use Rattle.std.proofs.lemmas.Result.{err_from_is_err_and}
use Rattle.elf_image.specs.Loaded.{Loaded}
use Rattle.readings.specs.Readings.{Rest, rest_at, Reading, leftover, reason_in}
use Rattle.readings.specs.Told.{GaveBy, IfFault, IfRefused, Stops}
use Rattle.readings.specs.declared.Stop.{Stop}
use Rattle.readings.specs.declared.Stop.TheVariants.{Refused, Fault, OutOfMemory}
use Rattle.vm_host.specs.declared.Slot.TheVariants.{Second}
use Rattle.vm_host.specs.State.{HostState}
use Rattle.vm_isa.specs.declared.instr.VmInstr.{VmInstr}
use Rattle.vm_trace.specs.File.{Segment, File}
use Rattle.vm_transpile.specs.Program.{program_of}
use Rattle.air_core.specs.System.{System}
use Rattle.table_format.specs.declared.item.Claim.{Claim}
use Rattle.table_format.specs.declared.reason.Reason.{Reason}
use Rattle.table_format.specs.declared.reason.Reason.TheVariants.{Trailing}
use Rattle.table_format.specs.Items.{claim_in}
use Rattle.table_format.specs.Order.{Claimed, file_of, first_stand, stand_after}
use Rattle.table_format.specs.Stream.{Held, told_by, ReadsBy, TellsEnd}
use Rattle.table_format.proofs.Draws.{draws_both, fault_later}
use Rattle.vm_checker.specs.declared.Accepted.{Accepted as Acceptance}
use Rattle.vm_checker.specs.declared.Before.{Before}
use Rattle.vm_checker.specs.declared.chain.Chain.{Chain}
use Rattle.vm_checker.specs.Body.{ReadsAll, TellsFile}
use Rattle.vm_checker.specs.Chain.{KeepsSegments}
use Rattle.vm_checker.specs.FirstReason.{claim_test, code_test, exit_code, path_test}

-- ---- the claim

module _ (x : System) (image : Loaded) (version : ℕ) (ss : List Segment) (k : Chain) (is : KeepsSegments x image ss k) (c : Claim) (v : Claimed) (same : v ≡ claim_in c) where
  -- its test, by what was kept
  pub claim_is : (p : List VmInstr) → p ≡ program_of image
      → option_or (code_test (exit_code p k.next.pc) c.code) (path_test k.next.root c.public c.path) ≡ claim_test image (stand_after first_stand ss) (file_of version (ss, v))
  claim_is p e =
      ap (λ (q : List VmInstr). option_or (code_test (exit_code q k.next.pc) c.code) (path_test k.next.root c.public c.path)) e
      ∙ ap (λ (b : Before). option_or (code_test (exit_code (program_of image) b.pc) c.code) (path_test b.root c.public c.path)) is.next
      ∙ ap (λ (w : Claimed). claim_test image (stand_after first_stand ss) (file_of version (ss, w))) (sym same)

  -- what is told
  pub tells : (a : Acceptance) → a.code ≡ c.code → a.public ≡ c.public → a.root ≡ k.next.root → a.segments ≡ k.segments → a.hints ≡ k.hints.items → TellsFile x image (file_of version (ss, v)) a
  tells a code public root segments hints = record {
    code = code ∙ sym (ap (λ (w : Claimed). w.0) same);
    public = public ∙ sym (ap (λ (w : Claimed). w.1.0) same);
    root = root ∙ ap (λ (b : Before). b.root) is.next;
    segments = segments ∙ is.number;
    hints = λ rows. let h = is.hints rows in (h.0, h.1, hints ∙ h.2);
  }

-- ---- and no byte behind it

never : (e : Stop Reason) (P : Reason → Type 0) → IfRefused e (λ reason. ⊥) → IfRefused e P
never (Refused why) P h = absurd h
never Fault P h = tt
never OutOfMemory P h = tt

some_left : (j : ℕ) (more : List ℕ) → (IsTrue false ↔ (more ≡ [])) → leftover (Trailing j) more ≡ Some (Trailing j)
some_left j [] exact = let no = exact.1 refl in absurd cc
some_left j (b ∷ more) exact = refl

module _ {V K : Type 0} (r : Reading Reason V) (Stands : V → K → Type 0) where
  stopped : (i : ℕ) (rest : Option (List ℕ)) (why : Reason) → IfSome rest (λ bytes. r (rest_at i bytes) ≡ Err why) → IfSome rest (λ bytes. reason_in Trailing (r (rest_at i bytes)) ≡ Some why)
  stopped i None why h = tt
  stopped i (Some bytes) why h = ap (reason_in Trailing) h

  refused_so : (a : Held) (s : HostState) (e : Stop Reason) → IfRefused e (Stops r (told_by a s)) → IfRefused e (λ why. IfSome (told_by a s).rest (λ bytes. reason_in Trailing (r (rest_at a.at bytes)) ≡ Some why))
  refused_so a s (Refused why) h = stopped a.at (told_by a s).rest why h
  refused_so a s Fault h = tt
  refused_so a s OutOfMemory h = tt

  pub reads_stopped : {a b : Held} {s t : HostState} {e : Stop Reason} (result : Result K (Stop Reason)) → IsErrAnd result (λ y. y ≡ e) → ReadsBy r Stands a b s t (Err e) → ReadsAll r Stands a b s t result
  reads_stopped {a} {b} {s} {t} {e} result is h =
      let p = err_from_is_err_and result is in
      rw (p.1, p.2) (record { draws = h.kept; fault = h.fault; ok = tt; end = tt; refused = refused_so a s e h.refused })

  pub end_stopped : {a b c : Held} {s t u : HostState} {k : K} {e : Stop Reason} (result : Result K (Stop Reason)) → IsErrAnd result (λ y. y ≡ e) → ReadsBy r Stands a b s t (Ok k) → TellsEnd b c t u (Err e) → ReadsAll r Stands a c s u result
  end_stopped {a} {b} {c} {s} {t} {u} {k} {e} result is h q =
      let p = err_from_is_err_and result is in
      rw (p.1, p.2) (record {
        draws = draws_both h.kept q.draws;
        fault = fault_later s.faults t.faults u.faults e h.kept.took.later q.fault;
        ok = tt;
        end = tt;
        refused = never e (λ why. IfSome (told_by a s).rest (λ bytes. reason_in Trailing (r (rest_at a.at bytes)) ≡ Some why)) q.refused;
      })

  whole_by : (v : V) (k : K) (i j : ℕ) (x y : Option (List ℕ)) → Stands v k → GaveBy r v i j x y → IfSome y (λ rest. IsTrue true ↔ (rest ≡ [])) → IfSome x (λ bytes. (w : V) × Stands w k × ((at : ℕ) × (r (rest_at i bytes) ≡ Ok (w, rest_at at []))))
  whole_by v k i j None y stands gave exact = tt
  whole_by v k i j (Some bytes) None stands gave exact = absurd gave
  whole_by v k i j (Some bytes) (Some more) stands gave exact =
      (v, stands, (j, subst (λ (rest : List ℕ). r (rest_at i bytes) ≡ Ok (v, rest_at j rest)) (exact.0 refl) gave))

  pub reads_all : {a b c : Held} {s t u : HostState} {k : K} → ReadsBy r Stands a b s t (Ok k) → TellsEnd b c t u (Ok true) → ReadsAll r Stands a c s u (Ok k)
  reads_all {a} {b} {c} {s} {t} {u} {k} h q = record {
    draws = draws_both h.kept q.draws;
    fault = tt;
    ok = whole_by h.ok.0 k a.at b.at (told_by a s).rest (told_by b t).rest h.ok.1 h.ok.2 q.exact;
    end = (q.ended refl).1;
    refused = tt;
  }

  trailing_by : (v : V) (i j : ℕ) (x y : Option (List ℕ)) → GaveBy r v i j x y → IfSome y (λ rest. IsTrue false ↔ (rest ≡ [])) → IfSome x (λ bytes. reason_in Trailing (r (rest_at i bytes)) ≡ Some (Trailing j))
  trailing_by v i j None y gave exact = tt
  trailing_by v i j (Some bytes) None gave exact = absurd gave
  trailing_by v i j (Some bytes) (Some more) gave exact = ap (reason_in Trailing) gave ∙ some_left j more exact

  pub reads_trailing : {a b c : Held} {s t u : HostState} {k : K} (offset : ℕ) → offset ≡ c.at → ReadsBy r Stands a b s t (Ok k) → TellsEnd b c t u (Ok false) → ReadsAll r Stands a c s u (Err (Refused (Trailing offset)))
  reads_trailing {a} {b} {c} {s} {t} {u} {k} offset is h q = record {
    draws = draws_both h.kept q.draws;
    fault = tt;
    ok = tt;
    end = tt;
    refused = subst (λ (n : ℕ). IfSome (told_by a s).rest (λ bytes. reason_in Trailing (r (rest_at a.at bytes)) ≡ Some (Trailing n))) (sym (is ∙ q.none))
        (trailing_by h.ok.0 a.at b.at (told_by a s).rest (told_by b t).rest h.ok.2 q.exact);
  }
