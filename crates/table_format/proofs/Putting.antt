-- Texts that are written one behind another.
use Rattle.std.proofs.Common.{◌≡◌, ℕ, suc, ◌+◌, ◌≤◌, ◌<◌, List, [], ◌∷◌, ◌++◌, length, take, drop, get_or, Result, Ok, Err, refl, sym, ap, subst, ◌∙◌, append_assoc, arith}
use Rattle.std.specs.Prelude.{Some, None, IsErrAnd}
use Rattle.std.specs.declared.option.Option.{Option}
use Rattle.std.specs.List.{flat_map}
use Rattle.std.proofs.lemmas.Grind.{flat_map-append}
use Rattle.std.proofs.lemmas.List.{append-nil, take_more, take-append-drop}
use Rattle.std.proofs.lemmas.Result.{err_from_is_err_and}
use Rattle.std.proofs.Math.Seq.{drop-cons}
use Rattle.vm_host.specs.declared.HostError.{HostError}
use Rattle.vm_host.specs.declared.HostError.TheVariants.{Failed, OutOfMemory}
use Rattle.vm_host.specs.State.{HostState, then_more}
use Rattle.vm_host.specs.Calls.{HasCause, Writes, Rose}
use Rattle.vm_trace.specs.Contents.{TableRows}
use Rattle.table_format.specs.Writing.{Puts}

abbrev pub no_error : Result (Unit {0}) HostError
no_error = Ok tt

then_none : {A : Type 0} (told : Option (List A)) → told ≡ then_more told []
then_none None = refl
then_none (Some xs) = ap Some (sym (append-nil xs))

then_both : {A : Type 0} (told : Option (List A)) (xs ys : List A) → then_more (then_more told xs) ys ≡ then_more told (xs ++ ys)
then_both None xs ys = refl
then_both (Some zs) xs ys = ap Some (append_assoc zs xs ys)

pub cause_both : {T : Type 0} (a b c : ℕ) (result : Result T HostError) → a ≤ b → HasCause b c result → HasCause a c result
cause_both a b c result le h = record { later = omega (arith, h.later); failed = λ f. let rose : Rose b c = h.failed f in omega (arith, rose) }

-- nothing was written
pub puts_none : (old : List ℕ) (s : HostState) → Puts [] old old s s no_error
puts_none old s = record {
  cause = record { later = omega arith; failed = λ f. absurd cc };
  done = [];
  rest = old;
  written = then_none s.output.written;
  parts = sym (append-nil old);
  waits = refl;
  creating = refl;
  frame = refl;
}

-- one text behind another
pub puts_both : {T : Type 0} {x y a b c : List ℕ} {s t u : HostState} {result : Result T HostError} → Puts x a b s t no_error → Puts y b c t u result → Puts (x ++ y) a c s u result
puts_both {x = x} {y} {a} {b} {c} {s} {t} {u} {result} p q = record {
  cause = cause_both s.faults t.faults u.faults result p.cause.later q.cause;
  done = p.done ++ q.done;
  rest = q.rest;
  written = q.written ∙ ap (λ (k : Option (List ℕ)). then_more k q.done) p.written ∙ then_both s.output.written p.done q.done;
  parts =
      append_assoc p.done q.done q.rest
      ∙ ap (λ (k : List ℕ). p.done ++ k) q.parts
      ∙ ap (λ (k : List ℕ). p.done ++ (k ++ y)) p.waits
      ∙ sym (append_assoc p.done p.rest y)
      ∙ ap (λ (k : List ℕ). k ++ y) p.parts
      ∙ append_assoc a x y;
  waits = q.waits;
  creating = q.creating ∙ p.creating;
  frame = q.frame ∙ ap (λ (k : HostState). record k { faults = u.faults; output = u.output }) p.frame;
}

-- an error: of what follows nothing was written
pub puts_error : {T U : Type 0} {x a b c : List ℕ} {s t : HostState} (y : List ℕ) (e : HostError) (result : Result U HostError) → IsErrAnd result (λ d. d ≡ e) → Puts {T = T} x a b s t (Err e) → Puts (x ++ y) a c s t result
puts_error {x = x} {a} {b} {c} {s} {t} y e result is p =
    let k = err_from_is_err_and result is in
    rw (k.1, k.2) (record {
      cause = record { later = p.cause.later; failed = λ f. let same : e ≡ Failed = cc in p.cause.failed (ap Err same) };
      done = p.done;
      rest = p.rest ++ y;
      written = p.written;
      parts = sym (append_assoc p.done p.rest y) ∙ ap (λ (k : List ℕ). k ++ y) p.parts ∙ append_assoc a x y;
      waits = tt;
      creating = p.creating;
      frame = p.frame;
    })

pub puts_as : {T : Type 0} {x y a b : List ℕ} {s t : HostState} {result : Result T HostError} → x ≡ y → Puts x a b s t result → Puts y a b s t result
puts_as {a = a} {b} {s} {t} {result} e p = subst (λ (k : List ℕ). Puts k a b s t result) e p

-- ---- what waits

-- the bytes wait
pub puts_waiting : {a b : List ℕ} (x : List ℕ) (s : HostState) → b ≡ a ++ x → Puts x a b s s no_error
puts_waiting {a} {b} x s e = record {
  cause = record { later = omega arith; failed = λ f. absurd cc };
  done = [];
  rest = a ++ x;
  written = then_none s.output.written;
  parts = refl;
  waits = e;
  creating = refl;
  frame = refl;
}

-- all of it was written
pub puts_piece : {a b d : List ℕ} {s t : HostState} → d ≡ a → Writes {T = Unit {0}} d s t no_error → b ≡ [] → Puts [] a b s t no_error
puts_piece {a} {b} {d} {s} {t} is w e = record {
  cause = w.cause;
  done = d;
  rest = [];
  written = w.whole;
  parts = ap (λ (k : List ℕ). k ++ []) is;
  waits = e;
  creating = w.creating;
  frame = w.frame;
}

pub puts_refused : {T U : Type 0} {a c d : List ℕ} {s t : HostState} (e : HostError) (result : Result U HostError) → IsErrAnd result (λ y. y ≡ e) → d ≡ a → Writes {T = T} d s t (Err e) → Puts [] a c s t result
puts_refused {a = a} {d = d} {s = s} {t} e result is same_bytes w =
    let k = err_from_is_err_and result is in
    rw (k.1, k.2) (record {
      cause = record { later = w.cause.later; failed = λ f. let same : e ≡ Failed = cc in w.cause.failed (ap Err same) };
      done = take w.part.count d;
      rest = drop w.part.count d;
      written = w.part.grown;
      parts = take-append-drop w.part.count d ∙ same_bytes ∙ sym (append-nil a);
      waits = tt;
      creating = w.creating;
      frame = w.frame;
    })

-- ---- lists

module _ {X : Type 0} (text : X → List ℕ) where
  pub one_text : (xs : List X) (i : ℕ) (d : X) → i < length xs → flat_map text (take (i + 1) xs) ≡ flat_map text (take i xs) ++ text (get_or xs i d)
  one_text xs i d lt =
      ap (flat_map text) (take_more xs i d lt) ∙ flat_map-append text (take i xs) (get_or xs i d ∷ []) ∙ ap (λ (k : List ℕ). flat_map text (take i xs) ++ k) (append-nil (text (get_or xs i d)))

  pub all_texts : (xs : List X) (i : ℕ) (d : X) → i < length xs → flat_map text (take i xs) ++ (text (get_or xs i d) ++ flat_map text (drop (i + 1) xs)) ≡ flat_map text xs
  all_texts xs i d lt =
      let next : drop i xs ≡ get_or xs i d ∷ drop (i + 1) xs = let k : suc i ≡ i + 1 = omega arith in drop-cons xs i d lt ∙ ap (λ (n : ℕ). get_or xs i d ∷ drop n xs) k in
      ap (λ (ys : List X). flat_map text (take i xs) ++ flat_map text ys) (sym next) ∙ sym (flat_map-append text (take i xs) (drop i xs)) ∙ ap (flat_map text) (take-append-drop i xs)

  -- one more
  pub puts_more : {a b c : List ℕ} {s t u : HostState} (xs : List X) (i : ℕ) (d : X) → i < length xs → Puts (flat_map text (take i xs)) a b s t no_error → Puts (text (get_or xs i d)) b c t u no_error → Puts (flat_map text (take (i + 1) xs)) a c s u no_error
  puts_more xs i d lt p q = puts_as (sym (one_text xs i d lt)) (puts_both p q)

  -- one stopped
  pub puts_stops : {T U : Type 0} {a b c : List ℕ} {z : List ℕ} {s t u : HostState} (xs : List X) (i : ℕ) (d : X) (e : HostError) (result : Result U HostError) → IsErrAnd result (λ y. y ≡ e) → i < length xs → Puts (flat_map text (take i xs)) a b s t no_error
      → Puts {T = T} (text (get_or xs i d)) b c t u (Err e) → Puts (flat_map text xs) a z s u result
  puts_stops {b = b} {z = z} {t = t} {u = u} xs i d e result is lt p q = puts_as (all_texts xs i d lt) (puts_both p (puts_error {c = z} (flat_map text (drop (i + 1) xs)) e result is q))

abbrev pub no_table : TableRows
no_table = record { width = 0; rows = [] }
