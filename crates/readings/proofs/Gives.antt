-- What calls one after the other read.
use Rattle.std.proofs.Common.{◌≡◌, ℕ, zero, suc, ◌+◌, ◌-◌, ◌<◌, Bool, true, false, List, [], ◌∷◌, ◌++◌, Option, Some, None, Result, Ok, Err, refl, sym, ap, subst, arith}
use Rattle.std.specs.Prelude.{IfSome, IsErrAnd}
use Rattle.std.proofs.lemmas.Result.{err_from_is_err_and}
use Rattle.readings.specs.Readings.{Rest, rest_at, Reading, after, seen, both, unless, only, chain}
use Rattle.readings.proofs.Exacts.{after_ok, ok_is, done}
use Rattle.readings.specs.declared.Stop.{Stop}
use Rattle.readings.specs.declared.Stop.TheVariants.{Refused, Fault, OutOfMemory}
use Rattle.readings.specs.Told.{Told, GaveBy, Gave, Stops, IfRefused, IfFault, Reads}

-- ---- over the bytes themselves

-- where a chain goes on
abbrev pub state_after : {S V : Type 0} → (S → V → S) → S → List V → S
state_after next x [] = x
state_after next x (v ∷ vs) = state_after next (next x v) vs

one_more : {R S V : Type 0} (r : S → Reading R V) (next : S → V → S) (i : ℕ) (x : S) (s t u : Rest) (vs : List V) (v : V) → chain r next i x s ≡ Ok (vs, t)
    → r (state_after next x vs) t ≡ Ok (v, u) → chain r next (suc i) x s ≡ Ok (vs ++ v ∷ [], u)
unfolding chain
one_more r next zero x s t u vs v e f =
    let same = ok_is ([], s) (vs, t) e in
    let first : r x s ≡ done (v, u) = subst (λ (p : List _ × Rest). r (state_after next x p.0) p.1 ≡ done (v, u)) (sym same) f in
    rw first (ap (λ (ws : List _). done (ws ++ v ∷ [], u)) (ap (λ (p : List _ × Rest). p.0) same))
one_more r next (suc i) x s t u vs v e f =
    let a = after_ok (r x s) (λ w k. after (chain r next i (next x w) k) (λ ws l. Ok (w ∷ ws, l))) (vs, t) e in
    let b = after_ok (chain r next i (next x a.0.0) a.0.1) (λ ws l. Ok (a.0.0 ∷ ws, l)) (vs, t) a.2 in
    let same = ok_is (a.0.0 ∷ b.0.0, b.0.1) (vs, t) b.2 in
    let rest = one_more r next i (next x a.0.0) a.0.1 b.0.1 u b.0.0 v b.1 (subst (λ (p : List _ × Rest). r (state_after next x p.0) p.1 ≡ done (v, u)) (sym same) f) in
    rw (a.1, rest) (ap (λ (ws : List _). done (ws ++ v ∷ [], u)) (ap (λ (p : List _ × Rest). p.0) same))

one_stops : {R S V : Type 0} (r : S → Reading R V) (next : S → V → S) (i more : ℕ) (x : S) (s t : Rest) (vs : List V) (e : R) → chain r next i x s ≡ Ok (vs, t)
    → r (state_after next x vs) t ≡ Err e → chain r next (i + suc more) x s ≡ Err e
unfolding chain
one_stops r next zero more x s t vs e h f =
    let same = ok_is ([], s) (vs, t) h in
    let first : r x s ≡ Err e = subst (λ (p : List _ × Rest). r (state_after next x p.0) p.1 ≡ Err e) (sym same) f in
    let count : zero + suc more ≡ suc more = omega arith in
    rw count (rw first refl)
one_stops r next (suc i) more x s t vs e h f =
    let a = after_ok (r x s) (λ w k. after (chain r next i (next x w) k) (λ ws l. Ok (w ∷ ws, l))) (vs, t) h in
    let b = after_ok (chain r next i (next x a.0.0) a.0.1) (λ ws l. Ok (a.0.0 ∷ ws, l)) (vs, t) a.2 in
    let same = ok_is (a.0.0 ∷ b.0.0, b.0.1) (vs, t) b.2 in
    let rest = one_stops r next i more (next x a.0.0) a.0.1 b.0.1 b.0.0 e b.1 (subst (λ (p : List _ × Rest). r (state_after next x p.0) p.1 ≡ Err e) (sym same) f) in
    let count : suc i + suc more ≡ suc (i + suc more) = omega arith in
    rw count (rw (a.1, rest) refl)

-- ---- told or not

pub gave_by : {R V W : Type 0} (r : Reading R V) (q : Reading R W) (v : V) (w : W)
    → ((i j : ℕ) (bytes more : List ℕ) → r (rest_at i bytes) ≡ Ok (v, rest_at j more) → q (rest_at i bytes) ≡ Ok (w, rest_at j more)) → (i j : ℕ) (a b : Option (List ℕ))
    → GaveBy r v i j a b → GaveBy q w i j a b
gave_by r q v w f i j None None g = tt
gave_by r q v w f i j None (Some more) g = absurd g
gave_by r q v w f i j (Some bytes) None g = absurd g
gave_by r q v w f i j (Some bytes) (Some more) g = f i j bytes more g

pub stops_by : {R V W : Type 0} (r : Reading R V) (q : Reading R W) (e : R) → ((i : ℕ) (bytes : List ℕ) → r (rest_at i bytes) ≡ Err e → q (rest_at i bytes) ≡ Err e)
    → (i : ℕ) (a : Option (List ℕ)) → IfSome a (λ bytes. r (rest_at i bytes) ≡ Err e) → IfSome a (λ bytes. q (rest_at i bytes) ≡ Err e)
stops_by r q e f i None h = tt
stops_by r q e f i (Some bytes) h = f i bytes h

pub refuses_by : {R V W : Type 0} (r : Reading R V) (q : Reading R W) (v : V) (e : R) (i j : ℕ)
    → ((bytes more : List ℕ) → r (rest_at i bytes) ≡ Ok (v, rest_at j more) → q (rest_at i bytes) ≡ Err e) → (a b : Option (List ℕ)) → GaveBy r v i j a b
    → IfSome a (λ bytes. q (rest_at i bytes) ≡ Err e)
refuses_by r q v e i j f None b g = tt
refuses_by r q v e i j f (Some bytes) None g = absurd g
refuses_by r q v e i j f (Some bytes) (Some more) g = f bytes more g

pub then_by : {R V W X : Type 0} (r : Reading R V) (q : Reading R W) (z : Reading R X) (v : V) (w : W) (x : X) (i j k : ℕ)
    → ((bytes mid more : List ℕ) → r (rest_at i bytes) ≡ Ok (v, rest_at j mid) → q (rest_at j mid) ≡ Ok (w, rest_at k more) → z (rest_at i bytes) ≡ Ok (x, rest_at k more))
    → (a b c : Option (List ℕ)) → GaveBy r v i j a b → GaveBy q w j k b c → GaveBy z x i k a c
then_by r q z v w x i j k f None None None g h = tt
then_by r q z v w x i j k f None None (Some more) g h = absurd h
then_by r q z v w x i j k f None (Some mid) c g h = absurd g
then_by r q z v w x i j k f (Some bytes) None c g h = absurd g
then_by r q z v w x i j k f (Some bytes) (Some mid) None g h = absurd h
then_by r q z v w x i j k f (Some bytes) (Some mid) (Some more) g h = f bytes mid more g h

pub then_stops_by : {R V W X : Type 0} (r : Reading R V) (q : Reading R W) (z : Reading R X) (v : V) (e : R) (i j : ℕ)
    → ((bytes mid : List ℕ) → r (rest_at i bytes) ≡ Ok (v, rest_at j mid) → q (rest_at j mid) ≡ Err e → z (rest_at i bytes) ≡ Err e)
    → (a b : Option (List ℕ)) → GaveBy r v i j a b → IfSome b (λ bytes. q (rest_at j bytes) ≡ Err e) → IfSome a (λ bytes. z (rest_at i bytes) ≡ Err e)
then_stops_by r q z v e i j f None b g h = tt
then_stops_by r q z v e i j f (Some bytes) None g h = absurd g
then_stops_by r q z v e i j f (Some bytes) (Some mid) g h = f bytes mid g h

-- ---- readings that are made of others

module _ {R V : Type 0} (r : Reading R V) (a b : Told) where
  pub gave_seen : {W : Type 0} (f : V → W) (v : V) → Gave r a b v → Gave (seen f r) a b (f v)
  gave_seen f v g = gave_by r (seen f r) v (f v) (λ i j bytes more e. rw e refl) a.at b.at a.rest b.rest g

  pub stops_seen : {W : Type 0} (f : V → W) (e : R) → Stops r a e → Stops (seen f r) a e
  stops_seen f e h = stops_by r (seen f r) e (λ i bytes k. rw k refl) a.at a.rest h

  pub gave_unless : (refuse : V → Option R) (v : V) → refuse v ≡ None → Gave r a b v → Gave (unless refuse r) a b v
  gave_unless refuse v n g = gave_by r (unless refuse r) v v (λ i j bytes more e. rw (e, n) refl) a.at b.at a.rest b.rest g

  pub stops_unless : (refuse : V → Option R) (e : R) → Stops r a e → Stops (unless refuse r) a e
  stops_unless refuse e h = stops_by r (unless refuse r) e (λ i bytes k. rw k refl) a.at a.rest h

  pub refused : (refuse : V → Option R) (v : V) (e : R) → refuse v ≡ Some e → Gave r a b v → Stops (unless refuse r) a e
  refused refuse v e n g = refuses_by r (unless refuse r) v e a.at b.at (λ bytes more k. rw (k, n) refl) a.rest b.rest g

  pub gave_only : (ok : V → Bool) (why : ℕ → R) (v : V) → ok v ≡ true → Gave r a b v → Gave (only ok why r) a b v
  gave_only ok why v n g = gave_by r (only ok why r) v v (λ i j bytes more e. rw (e, n) refl) a.at b.at a.rest b.rest g

  pub stops_only : (ok : V → Bool) (why : ℕ → R) (e : R) → Stops r a e → Stops (only ok why r) a e
  stops_only ok why e h = stops_by r (only ok why r) e (λ i bytes k. rw k refl) a.at a.rest h

  pub not_only : (ok : V → Bool) (why : ℕ → R) (v : V) → ok v ≡ false → Gave r a b v → Stops (only ok why r) a (why a.at)
  not_only ok why v n g = refuses_by r (only ok why r) v (why a.at) a.at b.at (λ bytes more k. rw (k, n) refl) a.rest b.rest g

  pub stops_first : {W : Type 0} (f : V → Reading R W) (e : R) → Stops r a e → Stops (both r f) a e
  stops_first f e h = stops_by r (both r f) e (λ i bytes k. rw k refl) a.at a.rest h

  pub gave_both : {W : Type 0} (f : V → Reading R W) (c : Told) (v : V) (w : W) → Gave r a b v → Gave (f v) b c w → Gave (both r f) a c (v, w)
  gave_both f c v w g h = then_by r (f v) (both r f) v w (v, w) a.at b.at c.at (λ bytes mid more k l. rw (k, l) refl) a.rest b.rest c.rest g h

  pub stops_then : {W : Type 0} (f : V → Reading R W) (v : V) (e : R) → Gave r a b v → Stops (f v) b e → Stops (both r f) a e
  stops_then f v e g h = then_stops_by r (f v) (both r f) v e a.at b.at (λ bytes mid k l. rw (k, l) refl) a.rest b.rest g h

module _ {R S V : Type 0} (r : S → Reading R V) (next : S → V → S) (x : S) where
  none_by : (at : ℕ) (rest : Option (List ℕ)) → GaveBy (chain r next 0 x) [] at at rest rest
  unfolding chain
  none_by at None = tt
  none_by at (Some bytes) = refl

  pub none_chained : (a : Told) → Gave (chain r next 0 x) a a []
  none_chained a = none_by a.at a.rest

  pub more_chained : (i : ℕ) (a b c : Told) (vs : List V) (v : V) → Gave (chain r next i x) a b vs → Gave (r (state_after next x vs)) b c v → Gave (chain r next (i + 1) x) a c (vs ++ v ∷ [])
  more_chained i a b c vs v g h = subst (λ (n : ℕ). Gave (chain r next n x) a c (vs ++ v ∷ [])) (omega arith) (then_by (chain r next i x) (r (state_after next x vs)) (chain r next (suc i) x) vs v (vs ++ v ∷ []) a.at b.at c.at
      (λ bytes mid more k l. one_more r next i x (rest_at a.at bytes) (rest_at b.at mid) (rest_at c.at more) vs v k l) a.rest b.rest c.rest g h)

  pub stops_chained : (i n : ℕ) → i < n → (a b : Told) (vs : List V) (e : R) → Gave (chain r next i x) a b vs → Stops (r (state_after next x vs)) b e → Stops (chain r next n x) a e
  stops_chained i n lt a b vs e g h =
      let count : i + suc (n - i - 1) ≡ n = omega (arith, lt) in
      then_stops_by (chain r next i x) (r (state_after next x vs)) (chain r next n x) vs e a.at b.at
      (λ bytes mid k l. subst (λ (m : ℕ). chain r next m x (rest_at a.at bytes) ≡ Err e) count (one_stops r next i (n - i - 1) x (rest_at a.at bytes) (rest_at b.at mid) vs e k l)) a.rest b.rest g h

-- ---- answers

refuses_so : {R : Type 0} (P Q : R → Type 0) → ((reason : R) → P reason → Q reason) → (e : Stop R) → IfRefused e P → IfRefused e Q
refuses_so P Q f (Refused reason) h = f reason h
refuses_so P Q f Fault h = tt
refuses_so P Q f OutOfMemory h = tt

faults_so : {R : Type 0} {P Q : Type 0} (e : Stop R) → (P → Q) → IfFault e P → IfFault e Q
faults_so (Refused reason) f h = tt
faults_so Fault f h = f h
faults_so OutOfMemory f h = tt

module _ {R V K : Type 0} {Keeps HasCause : Type 0} {q : Reading R V} {Stands : V → K → Type 0} {a b : Told} where
  -- a value that is given
  pub answers : Keeps → (k : K) (v : V) → Stands v k → Gave q a b v → Reads Keeps HasCause q Stands a b (Ok k)
  answers kept k v stands gave = record { kept = kept; fault = tt; ok = (v, stands, gave); refused = tt }

  -- a test that fails
  pub fails : Keeps → (reason : R) → Stops q a reason → Reads Keeps HasCause q Stands a b (Err (Refused reason))
  fails kept reason h = record { kept = kept; fault = tt; ok = tt; refused = h }

  -- an error of a part is one of the whole
  pub exits : {W L : Type 0} {Kept Caused : Type 0} {r : Reading R W} {Also : W → L → Type 0} {c d : Told} {e : Stop R} (result : Result K (Stop R)) → IsErrAnd result (λ y. y ≡ e)
      → (Kept → Keeps) → (Caused → HasCause) → ((reason : R) → Stops r c reason → Stops q a reason) → Reads Kept Caused r Also c d (Err e) → Reads Keeps HasCause q Stands a b result
  exits {r = r} {c = c} {e = e} result is keeps causes f h =
      let p = err_from_is_err_and result is in
      rw (p.1, p.2) (record { kept = keeps h.kept; fault = faults_so e causes h.fault; ok = tt; refused = refuses_so (Stops r c) (Stops q a) f e h.refused })
