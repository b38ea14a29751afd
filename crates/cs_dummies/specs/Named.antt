-- Which dummies of its shard a node names by its words, and which of them is taken.
use Rattle.std.specs.Prelude.{ℕ, ◌+◌, ◌==◌, nat_lt, nat_le, min, Bool, not, ◌&&◌, List, [], ◌∷◌, ◌++◌, filter, count_by, fold, Option, Some, None, if◌then◌else◌}
use Rattle.std.specs.List.{list_any}
use Rattle.cs_dummies.specs.declared.limits.TheConstants.{MOST_ASKED}

-- ---- what a node names

-- what it says of a dummy: its serial, and whether it is active
abbrev pub DummyWord : Type 0
DummyWord = ℕ × Bool

-- those from the first one on that are asked for
abbrev pub is_asked : ℕ → ℕ → Bool
is_asked first serial = nat_le first serial && nat_lt serial (first + MOST_ASKED)

abbrev pub without : ℕ → List ℕ → List ℕ
without serial named = filter (λ other. not (other == serial)) named

-- what it names after one word more, where its last word on each dummy counts
abbrev pub named_so : DummyWord → List ℕ → List ℕ
named_so word named = if word.1 then without word.0 named ++ word.0 ∷ [] else without word.0 named

-- and where its last word alone counts
abbrev pub named_alone : DummyWord → List ℕ
named_alone word = if word.1 then word.0 ∷ [] else []

-- where those from the first one on are asked for, or any
abbrev pub named_with : Option ℕ → DummyWord → List ℕ → List ℕ
named_with (Some first) word named = if is_asked first word.0 then named_so word named else named
named_with None word named = named_alone word

-- ---- what is taken

abbrev pub names : ℕ → List ℕ → Bool
names serial named = list_any (λ other. other == serial) named

abbrev pub namers : ℕ → List (List ℕ) → ℕ
namers serial words = count_by (names serial) words

abbrev pub lesser : Option ℕ → ℕ → Option ℕ
lesser (Some other) serial = Some (min other serial)
lesser None serial = Some serial

-- the lesser of what was found so far and of this serial, where more than f of all name it
abbrev pub least_serial : ℕ → List (List ℕ) → Option ℕ → ℕ → Option ℕ
least_serial f all least serial = if nat_lt f (namers serial all) then lesser least serial else least

abbrev pub least_of : ℕ → List (List ℕ) → Option ℕ → List ℕ → Option ℕ
least_of f all least named = fold (least_serial f all) least named

-- the least of the serials that f+1 of the nodes name
abbrev pub least_named : ℕ → List (List ℕ) → Option ℕ
least_named f words = fold (least_of f words) None words
