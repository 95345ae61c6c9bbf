-- What follows from the definitions.
use Rattle.std.specs.Prelude.{◌≡◌, ℕ, List}
use Rattle.elf_image.specs.declared.ImageError.{ImageError}
use Rattle.elf_image.specs.Loaded.{Loaded}
use Rattle.elf_image.specs.Image.{HasImage, IsRefused}

-- a file has one image
abbrev pub ImageIsOne : Type 0
ImageIsOne = (bytes : List ℕ) (a b : Loaded) → HasImage bytes a → HasImage bytes b → a ≡ b

-- a file that is refused has no image
abbrev pub RefusedHasNoImage : Type 0
RefusedHasNoImage = (bytes : List ℕ) (loaded : Loaded) (error : ImageError) → IsRefused bytes error → HasImage bytes loaded → ⊥

-- a file is refused for one cause
abbrev pub RefusalIsOne : Type 0
RefusalIsOne = (bytes : List ℕ) (a b : ImageError) → IsRefused bytes a → IsRefused bytes b → a ≡ b
