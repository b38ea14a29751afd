-- The lines behind `open`.
use Rattle.std.specs.Prelude.{ℕ, ◌==◌, Bool, ◌&&◌, bytes_eq, codes, List, [], ◌∷◌, ◌++◌, length, Option, Some, None, option_map, if◌then◌else◌}
use Rattle.std.specs.List.{flat_map, list_any}
use Rattle.std.specs.Fmt.{decimal}
use Rattle.cs_base.specs.Codes.{bytes_text}
use Rattle.cs_base.specs.Options.{or_else}
use Rattle.cs_base.specs.declared.node_id.NodeId.{NodeId}
use Rattle.cs_base.specs.NodeId.{node_text}
use Rattle.cs_client.specs.declared.errand.Errand.{Errand}
use Rattle.cs_client.specs.declared.known.Known.TheVariants as known
use Rattle.cs_client.specs.declared.waiting.Waiting.{Waiting}
use Rattle.cs_client.specs.declared.waiting.Waiting.TheVariants.{Objects, Dummies, Answers, Nothing}
use Rattle.cs_client.specs.Inputs.{ClientInput}
use Rattle.cs_client.specs.Lines.{known_line}
use Rattle.cs_client.specs.Waits.{waiting}
use Rattle.cs_waits.specs.declared.notes.Watched.{Watched}
use Rattle.cs_waits.specs.Words.{user_in, is_told}
use Rattle.cs_waits.specs.Notes.{Noted, is_listed, notes_of}

-- a head, and words that each follow on a space; where there is none there is no line
abbrev pub line_of : List ℕ → List ℕ → List ℕ
line_of head words = if length words == 0 then [] else head ++ (words ++ codes "\n")

-- ---- in the first phase

abbrev pub used_line : List ℕ → List ℕ → List ℕ
used_line name session = codes "used " ++ (bytes_text name ++ (codes " " ++ (bytes_text session ++ codes "\n")))

-- an object, and the session that used it up
abbrev pub Use : Type 0
Use = List ℕ × List ℕ

abbrev pub used_of : ℕ → Watched → Option Use
used_of f w = option_map (λ session. (w.name, session)) (user_in f w.words)

-- the first object of these that is used up
abbrev pub first_used : ℕ → List Watched → Option Use
first_used f [] = None
first_used f (w ∷ watched) = or_else (used_of f w) (first_used f watched)

-- f+1 nodes said something of the object of this name
abbrev pub is_told_of : ℕ → List Watched → List ℕ → Bool
is_told_of f watched name = list_any (λ w. bytes_eq w.name name && is_told f w.words) watched

abbrev pub told_word : ℕ → List Watched → List ℕ → List ℕ
told_word f watched name = if is_told_of f watched name then codes " " ++ bytes_text name else []

-- the first object that is used up; else those of which nodes said something, and for which the client waits
abbrev pub objects_text : ℕ → List Watched → Option Use → List (List ℕ) → List ℕ
objects_text f watched (Some used) names = used_line used.0 used.1
objects_text f watched None names = line_of (codes "waits objects") (flat_map (told_word f watched) names)

-- ---- in each phase

abbrev pub shard_word : ℕ → List ℕ
shard_word shard = codes " " ++ decimal shard

abbrev pub wait_text : ℕ → List Watched → Waiting → List ℕ
wait_text f watched (Objects names) = objects_text f watched (first_used f watched) names
wait_text f watched (Dummies shards) = line_of (codes "waits dummies") (flat_map shard_word shards)
wait_text f watched Answers = codes "waits answers\n"
wait_text f watched Nothing = []

-- ---- who was asked and not heard

abbrev pub silent_word : List NodeId → NodeId → List ℕ
silent_word heard node = if is_listed node heard then [] else codes " " ++ node_text node

abbrev pub silent_text : List NodeId → List NodeId → List ℕ
silent_text heard asked = line_of (codes "silent") (flat_map (silent_word heard) asked)

-- ---- all

abbrev pub open_text : ℕ → Noted → Waiting → List ℕ
open_text f noted waits = known_line known.Open ++ (wait_text f noted.watched waits ++ silent_text noted.heard noted.asked)

-- what is printed of a client that knows nothing after these inputs
abbrev pub open_lines : Errand → List ClientInput → List ℕ
open_lines e inputs = open_text e.config.f (notes_of e inputs) (waiting e inputs)
