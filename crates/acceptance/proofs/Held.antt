-- Each held node of an accepted file has 64 bytes.
use Rattle.std.proofs.Common.{◌≡◌, ℕ, zero, suc, ◌%◌, ◌/◌, Bool, true, false, nat_eq, List, [], ◌∷◌, ◌++◌, length, length-append, map, refl, arith, inl, inr, Contains}
use Rattle.std.specs.Prelude.{if◌then◌else◌}
use Rattle.std.specs.List.{AllByRecursion}
use Rattle.std.proofs.lemmas.Bool.{eq-eqb}
use Rattle.std.proofs.lemmas.List.Elements.{All-contains, All-from_recursion, recursion_from_All}
use Rattle.sha2.specs.Sha256.{sha256}
use Rattle.sha2.proofs.Facts256.{length-sha256}
use Rattle.elf_image.specs.Loaded.{Loaded}
use Rattle.vm_isa.specs.declared.instr.VmInstr.{VmInstr}
use Rattle.vm_transpile.specs.Program.{program_of}
use Rattle.air_core.specs.ListLemmas.{all_weaker}
use Rattle.air_core.specs.System.{System}
use Rattle.vm_trace.specs.declared.page.Touched.{Touched}
use Rattle.page_tree.specs.Tree.{Leaves, IsNode}
use Rattle.page_tree.specs.Chain.{IsHashed}
use Rattle.page_tree.specs.Opening.{AreDigests, opening_nodes}
use Rattle.page_tree.specs.Parts.{label_of, labels_of, labelled_bytes, old_bytes_at, new_bytes_at}
use Rattle.page_tree.specs.Path.{climbed, pair_with}
use Rattle.page_tree.specs.Start.{start_map}
use Rattle.page_tree.proofs.SizeLemmas.{length-IsNodeBelow, hashed-lengths}
use Rattle.page_tree.proofs.StartLemmas.{length-start_map}
use Rattle.vm_trace.specs.File.{Segment}
use Rattle.vm_trace.specs.declared.page.TheConstants.{PUBLIC_LABEL}
use Rattle.acceptance.specs.Accepts.{opening_of}
use Rattle.acceptance.specs.Holds.{IsMachinePage, SegmentHolds}
use Rattle.acceptance.specs.Laws.{HeldNodesHave64Bytes}

abbrev Has64 : List ℕ → Type 0
Has64 x = length x ≡ 64

-- ---- the tree at the start

in_tree : (image : Loaded) (x : List ℕ) → IsNode (start_map image) x → Has64 x
unfolding IsNode
in_tree image x is = length-IsNodeBelow (start_map image) 25 0 x (λ j h. length-start_map image j) is

-- ---- openings

by_label : (side : Touched → List ℕ) (page : Touched) (pages : List Touched) (j : ℕ) (b : Bool) → nat_eq page.label j ≡ b → Has64 (side page) → (Contains (map label_of pages) j → Has64 (labelled_bytes label_of side [] pages j))
    → Contains (map label_of (page ∷ pages)) j → Has64 (if b then side page else labelled_bytes label_of side [] pages j)
by_label side page pages j true is here rest h = here
by_label side page pages j false is here rest (zero, low, at) = let same : nat_eq page.label j ≡ true = eq-eqb page.label j at in absurd (cc)
by_label side page pages j false is here rest (suc k, low, at) = rest (k, omega (arith, low), at)

page_sizes : (side : Touched → List ℕ) (pages : List Touched) → AllByRecursion (λ page. Has64 (side page)) pages → (j : ℕ) → Contains (map label_of pages) j → Has64 (labelled_bytes label_of side [] pages j)
unfolding labelled_bytes
page_sizes side [] sizes j h = absurd (omega (arith, h.1))
page_sizes side (page ∷ pages) sizes j h = by_label side page pages j (nat_eq page.label j) refl sizes.0 (page_sizes side pages sizes.1 j) h

old_sizes : (pages : List Touched) → AllByRecursion IsMachinePage pages → (j : ℕ) → Contains (labels_of pages) j → Has64 (old_bytes_at pages j)
unfolding labels_of old_bytes_at
old_sizes pages h = page_sizes (λ p. p.old) pages (all_weaker IsMachinePage (λ (page : Touched). Has64 page.old) (λ page p. p.whole.old.size) pages h)

new_sizes : (pages : List Touched) → AllByRecursion IsMachinePage pages → (j : ℕ) → Contains (labels_of pages) j → Has64 (new_bytes_at pages j)
unfolding labels_of new_bytes_at
new_sizes pages h = page_sizes (λ p. p.new) pages (all_weaker IsMachinePage (λ (page : Touched). Has64 page.new) (λ page p. p.whole.new.size) pages h)

in_opening : (labels : List ℕ) (bytes : Leaves) (siblings : List (List ℕ)) (x : List ℕ) → AreDigests siblings → ((j : ℕ) → Contains labels j → Has64 (bytes j)) → Contains (opening_nodes labels bytes siblings) x → Has64 x
unfolding opening_nodes
in_opening labels bytes siblings x digests sizes h = All-contains Has64 _ x (hashed-lengths labels bytes 25 0 siblings digests sizes) h

in_openings : (x : System) (program : List VmInstr) (ss : List Segment) (node : List ℕ) → AllByRecursion (SegmentHolds x program) ss → IsHashed (map opening_of ss) node → Has64 node
unfolding IsHashed
in_openings x program [] node holds h = elim h [ ]
in_openings x program (s ∷ ss) node holds (inl h) = in_opening (labels_of s.pages) (old_bytes_at s.pages) s.siblings node holds.0.digests (old_sizes s.pages holds.0.pages) h
in_openings x program (s ∷ ss) node holds (inr (inl h)) = in_opening (labels_of s.pages) (new_bytes_at s.pages) s.siblings node holds.0.digests (new_sizes s.pages holds.0.pages) h
in_openings x program (s ∷ ss) node holds (inr (inr h)) = in_openings x program ss node holds.1 h

-- ---- the public path

pair_by : (digest beside : List ℕ) (b : Bool) → length digest ≡ 32 → length beside ≡ 32 → Has64 (if b then digest ++ beside else beside ++ digest)
pair_by digest beside true p q = omega (arith, length-append digest beside, p, q)
pair_by digest beside false p q = omega (arith, length-append beside digest, p, q)

pair_size : (i : ℕ) (digest beside : List ℕ) → length digest ≡ 32 → length beside ≡ 32 → Has64 (pair_with i digest beside)
unfolding pair_with
pair_size i digest beside p q = pair_by digest beside (nat_eq (i % 2) 0) p q

path_sizes : (i : ℕ) (x : List ℕ) (path : List (List ℕ)) → Has64 x → AllByRecursion (λ d. length d ≡ 32) path → AllByRecursion Has64 (climbed i x path)
unfolding climbed
path_sizes i x [] size digests = (size, tt)
path_sizes i x (d ∷ ds) size digests = (size, path_sizes (i / 2) (pair_with i (sha256 x) d) ds (pair_size i (sha256 x) d (length-sha256 x) digests.0) digests.1)

-- ---- the whole

pub held_64 : (x : System) → HeldNodesHave64Bytes x
held_64 x image file node accepts (inl (inl h)) = in_tree image node h
held_64 x image file node accepts (inl (inr h)) = in_openings x (program_of image) file.segments node accepts.hold h
held_64 x image file node accepts (inr h) =
    All-contains Has64 (climbed PUBLIC_LABEL file.public_bytes file.path) node
    (All-from_recursion Has64 (climbed PUBLIC_LABEL file.public_bytes file.path)
    (path_sizes PUBLIC_LABEL file.public_bytes file.path accepts.public.whole.size (recursion_from_All (λ d. length d ≡ 32) file.path accepts.public.digests)))
    h
