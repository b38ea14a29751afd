-- Files in memory, each with its name.
use Rattle.std.specs.Prelude.{ℕ, Bool, List, [], ◌∷◌, Option, Some, None, String, Vec, string_bytes, if◌then◌else◌}
use Rattle.std.specs.Str.{bytes_eq}
use Rattle.std.specs.declared.alloc.Global.{Global}

-- a name, and what stands in the file
abbrev pub File : Type 0
File = String Global × Vec ℕ Global

abbrev pub is_file_of : List ℕ → File → Bool
is_file_of name file = bytes_eq (string_bytes file.0) name

-- of files with one name the first counts
abbrev pub content_in : List File → List ℕ → Option (List ℕ)
content_in [] name = None
content_in (file ∷ files) name = if is_file_of name file then Some file.1.items else content_in files name
