-- The parts that a writer writes are the file.
use Rattle.std.proofs.Common.{◌≡◌, ℕ, false, true, List, [], ◌∷◌, ◌++◌, refl, sym, ap, ◌∙◌, append_assoc}
use Rattle.std.specs.List.{flat_map}
use Rattle.readings.specs.Exact.{listed_text}
use Rattle.vm_trace.specs.File.{Segment}
use Rattle.table_format.specs.Texts.{flag_text, segment_text, piece_text, head_text, claim_text}
use Rattle.table_format.specs.Given.{PartsAreTheFile}

pieces : (ss : List Segment) (rest : List ℕ) → flat_map piece_text ss ++ (flag_text false ++ rest) ≡ listed_text flag_text segment_text ss ++ rest
pieces [] rest = refl
pieces (s ∷ ss) rest =
    append_assoc (piece_text s) (flat_map piece_text ss) (flag_text false ++ rest)
    ∙ append_assoc (flag_text true) (segment_text s) (flat_map piece_text ss ++ (flag_text false ++ rest))
    ∙ ap (λ (k : List ℕ). flag_text true ++ (segment_text s ++ k)) (pieces ss rest)
    ∙ sym (append_assoc (flag_text true) (segment_text s ++ listed_text flag_text segment_text ss) rest ∙ ap (λ (k : List ℕ). flag_text true ++ k) (append_assoc (segment_text s) (listed_text flag_text segment_text ss) rest))

pub parts_given : PartsAreTheFile
parts_given f = ap (λ (k : List ℕ). head_text f.version ++ k) (pieces f.segments (claim_text f))
