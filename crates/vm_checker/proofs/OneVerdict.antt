-- Bytes have one verdict.
use Rattle.std.proofs.Common.{◌≡◌, ℕ, ◌≤◌, List, [], length, Option, Some, None, Ok, refl, sym, ap, subst, ◌∙◌, append-nil}
use Rattle.elf_image.specs.Loaded.{Loaded}
use Rattle.readings.specs.Readings.{rest_at, reason_in, first_reason}
use Rattle.vm_trace.specs.File.{File}
use Rattle.vm_trace.specs.Limits.{limits_of}
use Rattle.air_core.specs.System.{System}
use Rattle.acceptance.specs.Accepts.{shape_of, last_root}
use Rattle.acceptance.specs.Spelled.{HintEvent, Spell, hints_before}
use Rattle.table_format.specs.declared.reason.Reason.{Reason}
use Rattle.table_format.specs.declared.reason.Reason.TheVariants as reason
use Rattle.table_format.specs.Order.{file}
use Rattle.table_format.specs.Texts.{file_text}
use Rattle.table_format.proofs.ExactFile.{exact_file}
use Rattle.vm_checker.specs.declared.Accepted.{Accepted as Acceptance}
use Rattle.vm_checker.specs.declared.Verdict.{Verdict}
use Rattle.vm_checker.specs.declared.Verdict.TheVariants.{Accepted, Rejected}
use Rattle.vm_checker.specs.Exactly.{IsAcceptedFile}
use Rattle.vm_checker.specs.FirstReason.{file_tests, rejection}
use Rattle.vm_checker.specs.Verdicts.{States, Judges, accepted, rejected, JudgesFile, VerdictIsOne}
use Rattle.vm_checker.proofs.FileTests.{accepted_file_is_one, claim_passes}

same_acceptance : (a b : Acceptance) → a.code ≡ b.code → a.public ≡ b.public → a.root ≡ b.root → a.segments ≡ b.segments → a.hints ≡ b.hints → a ≡ b
same_acceptance a b code public root segments hints =
    ap (λ (v : ℕ). record a { code = v }) code
    ∙ ap (λ (v : List ℕ). record a { code = b.code; public = v }) public
    ∙ ap (λ (v : List ℕ). record a { code = b.code; public = b.public; root = v }) root
    ∙ ap (λ (v : ℕ). record a { code = b.code; public = b.public; root = b.root; segments = v }) segments
    ∙ ap (λ (v : List ℕ). record b { hints = v }) hints

-- a file states one thing
states_one : (x : System) (image : Loaded) (f : File) (a b : Acceptance) → States x image f a → States x image f b → a ≡ b
states_one x image f a b s t =
    same_acceptance a b (s.code ∙ sym t.code) (s.public ∙ sym t.public) (s.root ∙ sym t.root) (s.segments ∙ sym t.segments)
    (s.hints ∙ ap (λ (events : List HintEvent). hints_before events []) (t.only s.events s.spell) ∙ sym t.hints)

no_other : {A : Type 0} {why : Option A} {e : A} → why ≡ None → why ≡ Some e → ⊥
no_other {why = why} none some = let both = sym none ∙ some in cc

pub verdict_is_one : VerdictIsOne
verdict_is_one x image bytes a b (accepted f is m s runs none same) (accepted g is' n t runs' none' same') =
    let one : f ≡ g = accepted_file_is_one (λ version. x) image 1 bytes f g is is' in
    same ∙ ap Accepted (states_one x image g m n (subst (λ (h : File). States x image h m) one s) t) ∙ sym same'
verdict_is_one x image bytes a b (accepted f is m s runs none same) (rejected why some same') = absurd (no_other none some)
verdict_is_one x image bytes a b (rejected why some same) (accepted f is m s runs none same') = absurd (no_other none some)
verdict_is_one x image bytes a b (rejected why some same) (rejected why' some' same') =
    let both : Some why ≡ Some why' = sym some ∙ some' in
    let one : why ≡ why' = cc in
    same ∙ ap Rejected one ∙ sym same'

-- no test fails of an accepted file
pub passes_all : (x : System) (image : Loaded) (bytes : List ℕ) (f : File) → IsAcceptedFile (λ version. x) image 1 bytes f → rejection (λ version. x) image 1 bytes ≡ None
passes_all x image bytes f is =
    let whole = (exact_file (λ version. shape_of x image) (λ version. file_tests x image) 1).again 0 f [] (record {
      canonical = is.accepts.canonical;
      version = is.version;
      passes = claim_passes x image (limits_of f.version) f is.accepts.canonical.segments is.accepts.claim;
    }) in
    ap (λ (b : List ℕ). rejection (λ version. x) image 1 b) (is.text ∙ sym (append-nil (file_text f))) ∙ ap (reason_in reason.Trailing) whole

-- of an accepted file the verdict says what it states
pub accepted_alone : (x : System) (image : Loaded) (bytes : List ℕ) (verdict : Verdict) (f : File) (a : Acceptance) → JudgesFile x image bytes verdict → IsAcceptedFile (λ version. x) image 1 bytes f → States x image f a → verdict ≡ Accepted a
accepted_alone x image bytes verdict f a (accepted g is' n t runs none same) is s =
    let one : f ≡ g = accepted_file_is_one (λ version. x) image 1 bytes f g is is' in
    same ∙ ap Accepted (states_one x image g n a t (subst (λ (h : File). States x image h a) one s))
accepted_alone x image bytes verdict f a (rejected why some same) is s = absurd (no_other (passes_all x image bytes f is) some)
