-- Reading in pieces.
use Rattle.std.proofs.Common.{◌≡◌, ℕ, ◌+◌, ◌≤◌, ◌<◌, List, [], ◌++◌, length, take, true, refl, sym, ap, ◌∙◌, subst, append_assoc, IfSome, arith, length-append}
use Rattle.std.proofs.lemmas.List.{append-nil}
use Rattle.std.specs.Prelude.{None, Some, Ok, Err, Result, IsErrAnd}
use Rattle.std.specs.declared.option.Option.{Option}
use Rattle.vm_host.specs.declared.Slot.{Slot}
use Rattle.vm_host.specs.State.{HostState, after_these}
use Rattle.vm_host.specs.Calls.{AtEnd, Reads, Rose}
use Rattle.vm_host.specs.declared.HostError.{HostError}
use Rattle.vm_host.specs.declared.HostError.TheVariants.{Failed, OutOfMemory as NoMemory}
use Rattle.vm_host.specs.ReadUpTo.{Took, ReadsUpTo}
use Rattle.vm_host.specs.declared.ReadError.{ReadError}
use Rattle.vm_host.specs.declared.ReadError.TheVariants.{TooLong, Host}

pub after_none : (told : Option (List ℕ)) → told ≡ after_these [] told
after_none None = refl
after_none (Some xs) = refl

pub after_both : (xs ys : List ℕ) (told : Option (List ℕ)) → after_these xs (after_these ys told) ≡ after_these (xs ++ ys) told
after_both xs ys None = refl
after_both xs ys (Some zs) = ap Some (sym (append_assoc xs ys zs))

-- nothing is read at first
pub took_none : (slot : Slot) (s : HostState) → (s.input slot).is_open ≡ true → Took slot s s []
took_none slot s is_open = record {
  later = omega arith;
  is_open = is_open;
  taken = after_none (s.input slot).rest;
  other = refl;
  frame = refl;
}

-- one reading after another
pub took_both : (slot : Slot) (s t u : HostState) (xs ys : List ℕ) → Took slot s t xs → Took slot t u ys → Took slot s u (xs ++ ys)
took_both slot s t u xs ys a b = record {
  later = omega arith;
  is_open = b.is_open;
  taken = a.taken ∙ ap (after_these xs) b.taken ∙ after_both xs ys (u.input slot).rest;
  other = b.other ∙ a.other;
  frame = b.frame ∙ ap (λ (x : HostState). record x { faults = u.faults; input = u.input }) a.frame;
}

-- a piece was read
pub took_piece : (slot : Slot) (s t u : HostState) (xs into : List ℕ) (count : ℕ) → Took slot s t xs → Reads slot t u (Ok count) into → Took slot s u (xs ++ take count into)
took_piece slot s t u xs into count a r = took_both slot s t u xs (take count into) a (record {
  later = r.cause.later;
  is_open = r.is_open;
  taken = r.taken;
  other = r.other;
  frame = r.frame;
})

-- a piece was refused
pub took_refused : (slot : Slot) (s t u : HostState) (xs into : List ℕ) (e : HostError) → Took slot s t xs → Reads slot t u (Err e) into → Took slot s u xs
took_refused slot s t u xs into e a r = record {
  later = omega (arith, r.cause.later);
  is_open = r.is_open;
  taken = a.taken ∙ ap (after_these xs) (sym r.refused);
  other = r.other ∙ a.other;
  frame = r.frame ∙ ap (λ (x : HostState). record x { faults = u.faults; input = u.input }) a.frame;
}

whole_rest : (rest left : Option (List ℕ)) (xs : List ℕ) → rest ≡ after_these xs left → AtEnd left → IfSome rest (λ r. xs ≡ r)
whole_rest None left xs e end = tt
whole_rest (Some r) None xs e end = absurd cc
whole_rest (Some r) (Some ys) xs e end =
    let same : r ≡ xs ++ ys = cc in
    sym (same ∙ ap (λ zs. xs ++ zs) end ∙ append-nil xs)

-- at the end of the input all of it was read
pub whole_at_end : (slot : Slot) (s u : HostState) (xs : List ℕ) → Took slot s u xs → AtEnd (u.input slot).rest → IfSome (s.input slot).rest (λ r. xs ≡ r)
whole_at_end slot s u xs a end = whole_rest (s.input slot).rest (u.input slot).rest xs a.taken end

long_rest : (rest left : Option (List ℕ)) (xs : List ℕ) (limit : ℕ) → rest ≡ after_these xs left → limit < length xs → IfSome rest (λ r. limit < length r)
long_rest None left xs limit e long = tt
long_rest (Some r) None xs limit e long = absurd cc
long_rest (Some r) (Some ys) xs limit e long =
    let same : r ≡ xs ++ ys = cc in
    rw same (omega (arith, length-append xs ys))

-- more was read than the limit
pub too_long : (slot : Slot) (s u : HostState) (xs : List ℕ) (limit : ℕ) → Took slot s u xs → limit < length xs → IfSome (s.input slot).rest (λ r. limit < length r)
too_long slot s u xs limit a long = long_rest (s.input slot).rest (u.input slot).rest xs limit a.taken long

-- nothing more was read
pub took_no_more : (slot : Slot) (s t u : HostState) (xs into : List ℕ) (count : ℕ) → Took slot s t xs → Reads slot t u (Ok count) into → count ≡ 0 → Took slot s u xs
took_no_more slot s t u xs into count a r none =
    let no_bytes : xs ++ take count into ≡ xs = ap (λ n. xs ++ take n into) none ∙ append-nil xs in
    subst (Took slot s u) no_bytes (took_piece slot s t u xs into count a r)

short_rest : (told : Option (List ℕ)) (xs : List ℕ) (limit : ℕ) → IfSome told (λ r. xs ≡ r) → length xs ≤ limit → IfSome told (λ r. length r ≤ limit)
short_rest None xs limit whole bound = tt
short_rest (Some r) xs limit whole bound = subst (λ zs. length zs ≤ limit) whole bound

-- the whole rest was read
pub answers_whole : {V : Type 0} (items : V → List ℕ) (slot : Slot) (limit : ℕ) (s u : HostState) (v : V) → Took slot s u (items v) → length (items v) ≤ limit → AtEnd (u.input slot).rest → ReadsUpTo items slot limit s u (Ok v)
answers_whole items slot limit s u v a bound end =
    let whole : IfSome (s.input slot).rest (λ r. items v ≡ r) = whole_at_end slot s u (items v) a end in
    record {
      took = (items v, a);
      within = omega arith;
      bound = bound;
      exact = refl;
      end = end;
      whole = whole;
      too_long = λ e. absurd cc;
      fits = short_rest (s.input slot).rest (items v) limit whole bound;
      read_past = λ e. absurd cc;
      fault = λ e. absurd cc;
    }

-- an error that is known
answers_error : {V : Type 0} (items : V → List ℕ) (slot : Slot) (limit : ℕ) (s u : HostState) (xs : List ℕ) (e : ReadError) → Took slot s u xs → length xs ≤ limit + 1 → (e ≡ Host Failed → Rose s.faults u.faults) → (e ≡ TooLong → length xs ≡ limit + 1) → ReadsUpTo items slot limit s u (Err e)
answers_error items slot limit s u xs e a short fault long = record {
  took = (xs, a);
  within = short;
  bound = tt;
  exact = tt;
  end = tt;
  whole = tt;
  too_long = λ is. let past : length xs ≡ limit + 1 = long cc in too_long slot s u xs limit a (omega arith);
  fits = tt;
  read_past = λ is. long cc;
  fault = λ is. fault cc;
}

-- one byte was read past the limit
pub answers_too_long : {V : Type 0} (items : V → List ℕ) (slot : Slot) (limit : ℕ) (s u : HostState) (xs : List ℕ) → Took slot s u xs → length xs ≡ limit + 1 → ReadsUpTo items slot limit s u (Err TooLong)
answers_too_long items slot limit s u xs a past = answers_error items slot limit s u xs TooLong a (omega arith) (λ e. absurd cc) (λ e. past)

-- memory was refused
pub answers_memory : {V : Type 0} (items : V → List ℕ) (slot : Slot) (limit : ℕ) (s u : HostState) (xs : List ℕ) (result : Result V ReadError) → Took slot s u xs → length xs ≤ limit + 1 → IsErrAnd result (λ e. e ≡ Host NoMemory) → ReadsUpTo items slot limit s u result
answers_memory items slot limit s u xs (Ok v) a short is = absurd is
answers_memory items slot limit s u xs (Err e) a short is = answers_error items slot limit s u xs e a short (λ fault. absurd cc) (λ long. absurd cc)

-- a piece was refused
pub answers_refused : {V : Type 0} (items : V → List ℕ) (slot : Slot) (limit : ℕ) (s t u : HostState) (xs into : List ℕ) (cause : HostError) (result : Result V ReadError) → Took slot s t xs → length xs ≤ limit + 1 → Reads slot t u (Err cause) into → IsErrAnd result (λ e. e ≡ Host cause) → ReadsUpTo items slot limit s u result
answers_refused items slot limit s t u xs into cause (Ok v) a short r is = absurd is
answers_refused items slot limit s t u xs into cause (Err e) a short r is =
    let rose : e ≡ Host Failed → Rose s.faults u.faults = λ failed.
    let same : cause ≡ Failed = cc (is, failed) in
    let now : Rose t.faults u.faults = r.cause.failed (ap Err same) in omega (arith, now, a.later) in
    answers_error items slot limit s u xs e (took_refused slot s t u xs into cause a r) short rose (λ long. absurd (cc (is, long)))
