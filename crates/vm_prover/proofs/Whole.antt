-- The whole file of a run.
use Rattle.std.proofs.Common.{◌≡◌, ℕ, ◌≤◌, ◌<◌, true, false, List, [], ◌∷◌, ◌++◌, length, take, get_or, append_assoc, append-nil, Option, Some, None, Result, Ok, Err, inl, inr, refl, sym, ap, ◌∙◌, subst, arith}
use Rattle.std.specs.Prelude.{IfSome, OnOk, flat_map, sum}
use Rattle.std.proofs.Math.Path.{fun_ext}
use Rattle.elf_image.specs.Loaded.{Loaded}
use Rattle.rv_run.specs.Run.{Ends}
use Rattle.vm_host.specs.declared.HostError.{HostError}
use Rattle.vm_host.specs.declared.HostError.TheVariants.{Failed, OutOfMemory}
use Rattle.vm_host.specs.declared.Place.{Place}
use Rattle.vm_host.specs.declared.Place.TheVariants.{Out}
use Rattle.vm_host.specs.Calls.{GrowsByPart, HasCause, Notes}
use Rattle.vm_host.specs.State.{HostState, then_more}
use Rattle.vm_isa.specs.declared.instr.VmInstr.{VmInstr}
use Rattle.vm_isa.specs.Hints.{Hints}
use Rattle.vm_trace.specs.declared.page.TheConstants.{PUBLIC_LABEL}
use Rattle.vm_trace.specs.File.{Segment}
use Rattle.air_core.specs.ExtensionLaws.{ExtensionFits}
use Rattle.air_core.specs.System.{System}
use Rattle.page_tree.specs.Path.{path_of}
use Rattle.page_tree.specs.Start.{start_map}
use Rattle.page_tree.specs.Tree.{Leaves}
use Rattle.vm_transpile.specs.Program.{program_of}
use Rattle.vm_executor.specs.Machine.{Machine}
use Rattle.vm_executor.specs.Runs.{starting}
use Rattle.table_format.specs.declared.item.Claim.{Claim}
use Rattle.table_format.specs.declared.table_writer.TableWriter.{TableWriter}
use Rattle.table_format.specs.Given.{claim_of}
use Rattle.table_format.specs.Texts.{file_text, head_text, piece_text}
use Rattle.table_format.specs.Writing.{Appends, Begins, end_text}
use Rattle.table_format.proofs.Parts.{parts_given}
use Rattle.vm_prover.specs.declared.plan.Ending.{Ending}
use Rattle.vm_prover.specs.Progress.{CanProve, StatesRun, file_of}
use Rattle.vm_prover.specs.declared.proving.Proved.{Proved}
use Rattle.vm_prover.specs.declared.proving.Proving.{Proving}
use Rattle.vm_prover.specs.declared.proving.Proving.TheVariants as proving
use Rattle.vm_prover.specs.Proving.{ComesTo, EndsSo, LeavesBehind, Proves, SpellsRun}
use Rattle.vm_prover.specs.Segments.{GoesOnWriting, IsBegun, IsEnding, IsLater, IsPlan, IsToWrite, IsWholeFile, IsWritten, Run, SegmentsStand, WritesFile}
use Rattle.vm_prover.specs.declared.plain_run.Surveyed.{Surveyed}
use Rattle.vm_prover.specs.Survey.{EndsCut, IsSurvey}
use Rattle.vm_prover.proofs.EndLemmas.{ended_segments_prove}
use Rattle.vm_prover.proofs.Lengths.{cuts_are_within, lengths_are_the_steps, one_at_least, within_each}
use Rattle.vm_prover.proofs.SegmentLemmas.{no_segments}
use Rattle.vm_prover.proofs.Writes.{sound_call, wholly}
use Rattle.vm_prover.proofs.Causes.{cause_more}

-- ---- the plan

pub planned : (loaded : Loaded) (hints : List ℕ) (per steps : ℕ) (lengths : List ℕ) (code : ℕ) (shown : List ℕ) → 1 ≤ per → per ≤ 16384 → EndsCut loaded hints per steps lengths code shown → IsPlan steps lengths
planned loaded hints per steps lengths code shown least most e =
    let are = e.cuts.are in
    record {
      all = ap sum are ∙ lengths_are_the_steps per e.cuts.kinds ∙ e.cuts.count;
      some = subst (λ ls. 1 ≤ length ls) (sym are) (one_at_least per 0 0 e.cuts.kinds);
      few = e.few;
      short = λ k d less.
          let each = within_each per _ e.cuts.kinds (cuts_are_within per e.cuts.kinds least) k d (subst (λ ls. k < length ls) are less) in
          let same = ap (λ ls. get_or ls k d) are in
          omega (arith, each, same, most);
    }

-- ---- before the first segment

module _ (x : System) (fits : ExtensionFits x) (image : Loaded) (hints : Hints) (ending : Ending) (w : TableWriter) (can : CanProve x w.version image hints) (ends : IsEnding image hints ending) where
  pub run_of : Run x
  run_of = record {
    fits = fits;
    version = w.version;
    image = image;
    hints = hints;
    can = can;
    steps = ending.steps;
    code = ending.code;
    public_bytes = ending.public;
    ends = ends.ends;
  }

  pub to_write : (program : List VmInstr) (lengths : List ℕ) (m : Machine) (leaves : Leaves) (s : HostState) → program ≡ program_of image → lengths ≡ ending.lengths.items → m ≡ starting image hints
      → ((label : ℕ) → leaves label ≡ start_map image label) → IsBegun w s → IsToWrite run_of program lengths m leaves w s
  unfolding run_of
  to_write program lengths m leaves s over are begins lays begun = record {
    over = over;
    plan = subst (IsPlan ending.steps) (sym are) ends.plan;
    written = record {
      segments = [];
      stand = subst (λ t. SegmentsStand run_of false [] [] t leaves) (sym begins) (subst (SegmentsStand run_of false [] [] (starting image hints)) (sym (fun_ext lays)) (no_segments x w.version image hints can));
      told = told_head s.output.written begun.told;
      creating = begun.creating;
      writing = begun.writing;
    };
  }
    where
      told_head : (told : Option (List ℕ)) → IfSome told (λ bytes. bytes ≡ head_text w.version) → IfSome told (λ bytes. bytes ≡ head_text w.version ++ flat_map piece_text [])
      told_head None h = tt
      told_head (Some bytes) h = h ∙ sym (append-nil (head_text w.version))

  -- ---- behind the last one

  spells : (told new : Option (List ℕ)) (lengths : List ℕ) (m : Machine) (leaves : Leaves) (segments : List Segment) (claim : Claim) → lengths ≡ ending.lengths.items → SegmentsStand run_of true segments lengths m leaves → IsPlan ending.steps lengths
      → claim ≡ record { code = ending.code; public = ending.public; path = path_of leaves PUBLIC_LABEL }
      → IfSome told (λ bytes. bytes ≡ head_text w.version ++ flat_map piece_text segments) → new ≡ then_more told (end_text claim) → IfSome new (SpellsRun x w.version image hints ending.lengths.items ending.code ending.public)
  unfolding run_of
  spells None new lengths m leaves segments claim are stand plan claims told is = subst (λ o. IfSome o (SpellsRun x w.version image hints ending.lengths.items ending.code ending.public)) (sym is) tt
  spells (Some bytes) new lengths m leaves segments claim are stand plan claims told is =
      let file = file_of w.version segments ending.code leaves in
      let states : StatesRun x image hints lengths ending.code ending.public file =
      ended_segments_prove x w.version image hints segments lengths m leaves ending.code ending.public can stand plan.some plan.few (subst (λ n. Ends image hints n ending.code ending.public) (sym plan.all) ends.ends) in
      let same : claim ≡ claim_of file = claims ∙ ap (λ shown. record { code = ending.code; public = shown; path = path_of leaves PUBLIC_LABEL }) (sym states.public_are) in
      let text : bytes ++ end_text claim ≡ file_text file =
      ap (λ b. b ++ end_text claim) told ∙ append_assoc (head_text w.version) (flat_map piece_text segments) (end_text claim)
      ∙ ap (λ (k : Claim). head_text w.version ++ (flat_map piece_text segments ++ end_text k)) same ∙ parts_given file in
      subst (λ o. IfSome o (SpellsRun x w.version image hints ending.lengths.items ending.code ending.public)) (sym is)
      (record { file = file; text = text; version_is = refl; states = subst (λ ls. StatesRun x image hints ls ending.code ending.public file) are states })

  pub whole : (program : List VmInstr) (lengths : List ℕ) (start m : Machine) (before leaves : Leaves) (v v' : TableWriter) (s t u : HostState) (claim : Claim) (result : Result (Unit {0}) HostError) → lengths ≡ ending.lengths.items
      → IsToWrite run_of program lengths start before w s → IsWritten run_of true lengths m leaves v t → claim ≡ record { code = ending.code; public = ending.public; path = path_of leaves PUBLIC_LABEL }
      → Appends (end_text claim) false true v v' t u result → OnOk result (IsWholeFile x w.version image hints ending u)
  unfolding run_of
  whole program lengths start m before leaves v v' s t u claim (Err e) are to so claims h = tt
  whole program lengths start m before leaves v v' s t u claim (Ok r) are to so claims h =
      let all = wholly (end_text claim) false true v v' t u r so.writing.sound h in
      record { closed = all.open_is; written = spells t.output.written u.output.written lengths m leaves so.segments claim are so.stand to.plan claims so.told all.written }

-- ---- calls one after the other

pub later_of : {T : Type 0} → (s t : HostState) (result : Result T HostError) → GoesOnWriting s t result → IsLater s t
later_of {T} s t result g = record { later = g.cause.later; frame = g.frame }

pub goes_on_then : {T : Type 0} → (s t u : HostState) (result : Result T HostError) → IsLater s t → GoesOnWriting t u result → GoesOnWriting s u result
goes_on_then {T} s t u result a b = record {
  cause = cause_more s.faults t.faults u.faults result a.later b.cause;
  frame = b.frame ∙ ap (λ (x : HostState). record x { faults = u.faults; output = u.output }) a.frame;
}

pub finish_goes_on : (claim : Claim) (v v' : TableWriter) (s t u : HostState) (result : Result (Unit {0}) HostError) → IsLater s t → v.error ≡ None → Appends (end_text claim) false true v v' t u result → GoesOnWriting s u result
finish_goes_on claim v v' s t u result a sound h = goes_on_then s t u result a (sound_call (end_text claim) false true v v' t u result sound h)

-- ---- a file from its begin on

err_cause : {T U : Type 0} → (before now : ℕ) (e : HostError) → HasCause {T = T} before now (Err e) → HasCause {T = U} before now (Err e)
err_cause {T} {U} before now e h = record { later = h.later; failed = λ is. h.failed (let same : e ≡ Failed = cc in ap Err same) }

none_more : (told : Option (List (Place × List ℕ))) (names : List (Place × List ℕ)) → told ≡ then_more told (take 0 names)
none_more None names = refl
none_more (Some xs) names = ap Some (sym (append-nil xs))

-- the name was handed over, or memory was refused
grows : {T : Type 0} → (old new : Option (List (Place × List ℕ))) (pair : Place × List ℕ) (result : Result T HostError) → Notes old new pair result → GrowsByPart old new (pair ∷ [])
grows {T} old new pair result (inl noted) = record { count = 1; grown = noted }
grows {T} old new pair result (inr refused) = record { count = 0; grown = refused.1 ∙ none_more old (pair ∷ []) }

pub not_begun : (x : System) (version : ℕ) (image : Loaded) (hints : Hints) (ending : Ending) (name : List ℕ) (s t : HostState) (e : HostError) → Begins version name s t (Err e) → WritesFile x version image hints ending name s t (Err e)
not_begun x version image hints ending name s t e b = record {
  cause = err_cause s.faults t.faults e b.cause;
  named = grows s.named t.named (Out, name) _ b.named;
  frame = b.frame;
  whole = tt;
}

noted : (old new : Option (List (Place × List ℕ))) (pair : Place × List ℕ) (w : TableWriter) → Notes old new pair (Ok w) → new ≡ then_more old (pair ∷ [])
noted old new pair w (inl is) = is
noted old new pair w (inr refused) = let no : Ok w ≡ Err OutOfMemory = refused.0 in absurd (cc)

and_noted : (P : Type 0) (names : Type 0) (result : Result (Unit {0}) HostError) → OnOk result P → names → OnOk result (P × names)
and_noted P names (Ok v) p n = (p, n)
and_noted P names (Err e) p n = tt

pub file_written : (x : System) (version : ℕ) (image : Loaded) (hints : Hints) (ending : Ending) (name : List ℕ) (s t u : HostState) (w : TableWriter) (result : Result (Unit {0}) HostError) → Begins version name s t (Ok w) → GoesOnWriting t u result
    → OnOk result (IsWholeFile x w.version image hints ending u) → WritesFile x version image hints ending name s u result
file_written x version image hints ending name s t u w result b g done =
    let same : u.named ≡ t.named = ap (λ (y : HostState). y.named) g.frame in
    let named : u.named ≡ then_more s.named ((Out, name) ∷ []) = same ∙ noted s.named t.named (Out, name) w b.named in
    record {
      cause = cause_more s.faults t.faults u.faults result b.cause.later g.cause;
      named = record { count = 1; grown = named };
      frame =
          g.frame ∙ ap (λ (y : HostState). record y { faults = u.faults; output = u.output }) b.frame
          ∙ ap (λ (names : Option (List (Place × List ℕ))). record s { faults = u.faults; output = u.output; named = names; content = t.content }) (sym same)
          ∙ ap (λ c. record s { faults = u.faults; output = u.output; named = u.named; content = c }) (sym (ap (λ (y : HostState). y.content) g.frame));
      whole = and_noted (IsWholeFile x version image hints ending u) (u.named ≡ then_more s.named ((Out, name) ∷ [])) result (subst (λ v. OnOk result (IsWholeFile x v image hints ending u)) b.writer.0 done) named;
    }

-- ---- what a prover does

pub wrote : (x : System) (version : ℕ) (loaded : Loaded) (hints : List ℕ) (per : ℕ) (ending : Ending) (claim : Proved) (name : List ℕ) (s t : HostState) → EndsCut loaded hints per ending.steps ending.lengths.items ending.code ending.public
    → claim.code ≡ ending.code → claim.public ≡ ending.public → claim.segments ≡ length ending.lengths.items → claim.steps ≡ ending.steps → WritesFile x version loaded hints ending name s t (Ok tt)
    → Proves x version loaded hints per name s t (Ok (proving.Proved claim))
wrote x version loaded hints per ending claim name s t ends code public segments steps w =
    let is : claim ≡ record { code = ending.code; public = ending.public; segments = length ending.lengths.items; steps = ending.steps } = (λ i. record { code = code i; public = public i; segments = segments i; steps = steps i }) in
    let so : EndsSo loaded hints per (record { code = ending.code; public = ending.public; segments = length ending.lengths.items; steps = ending.steps }) = record { lengths = ending.lengths.items; ends = ends; count = refl } in
    subst (λ c. Proves x version loaded hints per name s t (Ok (proving.Proved c))) (sym is) (record {
      cause = record { later = w.cause.later; failed = λ no. absurd (cc) };
      comes = so;
      leaves = (record { so = so; closed = w.whole.0.closed; written = w.whole.0.written }, w.whole.1);
      named = w.named;
      frame = w.frame;
      kept = tt;
    })

pub not_wrote : (x : System) (version : ℕ) (loaded : Loaded) (hints : List ℕ) (per : ℕ) (ending : Ending) (name : List ℕ) (s t : HostState) (e : HostError) → EndsCut loaded hints per ending.steps ending.lengths.items ending.code ending.public
    → WritesFile x version loaded hints ending name s t (Err e) → Proves x version loaded hints per name s t (Err e)
not_wrote x version loaded hints per ending name s t e ends w = record {
  cause = err_cause s.faults t.faults e w.cause;
  comes = tt;
  leaves = tt;
  named = w.named;
  frame = w.frame;
  kept = inr (record { code = ending.code; public = ending.public; segments = length ending.lengths.items; steps = ending.steps }, record { lengths = ending.lengths.items; ends = ends; count = refl });
}

pub nothing_written : (x : System) (version : ℕ) (loaded : Loaded) (hints : List ℕ) (per : ℕ) (name : List ℕ) (s : HostState) (answer : Proving) → ComesTo loaded hints per answer → LeavesBehind x version loaded hints per name s s answer
    → Proves x version loaded hints per name s s (Ok answer)
nothing_written x version loaded hints per name s answer comes leaves = record {
  cause = record { later = omega arith; failed = λ no. absurd (cc) };
  comes = comes;
  leaves = leaves;
  named = record { count = 0; grown = none_more s.named ((Out, name) ∷ []) };
  frame = refl;
  kept = tt;
}

-- what a survey on the same hints said
pub surveyed : (loaded : Loaded) (copy hints : List ℕ) (per : ℕ) (said answer : Surveyed) → IsSurvey loaded copy per said → copy ≡ hints → said ≡ answer → IsSurvey loaded hints per answer
surveyed loaded copy hints per said answer is same answers = subst (λ hs. IsSurvey loaded hs per answer) same (subst (IsSurvey loaded copy per) answers is)
