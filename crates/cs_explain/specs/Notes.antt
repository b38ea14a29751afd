-- What the writer of an accepted contract may not mean.
use Rattle.std.specs.Prelude.{ℕ, ◌-◌, nat_lt, Bool, false, ◌&&◌, ◌||◌, List, [], ◌∷◌, ◌++◌, codes, if◌then◌else◌}
use Rattle.std.specs.Str.{bytes_eq}
use Rattle.cs_base.specs.Lists.{is_empty}
use Rattle.cs_lang_token.specs.declared.token.Token.{Token}
use Rattle.cs_lang_token.specs.declared.kind.Kind.TheVariants as kind
use Rattle.cs_lang_token.specs.Kinds.{is}
use Rattle.cs_lang_token.specs.Tokens.{tokens_of}
use Rattle.cs_lang.specs.declared.tree.Block.{Block, out-Block}
use Rattle.cs_lang.specs.declared.tree.Field.{Field}
use Rattle.cs_lang.specs.declared.tree.Slot.{Slot}
use Rattle.cs_lang.specs.declared.tree.Method.{Method}
use Rattle.cs_lang.specs.declared.tree.ContractTree.{ContractTree}
use Rattle.cs_explain.specs.declared.mentions.Looking.{Looking}
use Rattle.cs_explain.specs.declared.mentions.Making.{Making}
use Rattle.cs_explain.specs.Found.{tokens_in}

abbrev pub is_name : List ℕ → Token → Bool
is_name name token = is (kind.Name ∷ []) token && bytes_eq token.bytes name

-- it stands behind one place and before the other
abbrev pub is_between : ℕ → ℕ → Token → Bool
is_between low high token = nat_lt low token.place && nat_lt token.place high

-- ---- names that are made

-- a `make` stood right before, or the slot was made already
abbrev pub make_step : List ℕ → Making → Token → Making
make_step name making token = record {
  behind = is (kind.Make ∷ []) token;
  made = making.made || making.behind && is_name name token;
}

abbrev pub make_between : ℕ → ℕ → List ℕ → Making → Token → Making
make_between low high name making token =
    if is_between low high token then make_step name making token else making

abbrev pub made_through : ℕ → ℕ → List ℕ → Making → List Token → Making
made_through low high name making [] = making
made_through low high name making (token ∷ tokens) =
    made_through low high name (make_between low high name making token) tokens

-- a `make` of the name stands between the places
abbrev pub is_made : ℕ → ℕ → List ℕ → List Token → Bool
is_made low high name tokens = (made_through low high name (record { behind = false; made = false }) tokens).made

-- ---- names that are looked at

-- behind `.` stands the name of a field, and in `called(0, m)` that of a method
abbrev pub passed_over : Token → ℕ
passed_over token =
    if is (kind.Dot ∷ []) token then 1
    else if is (kind.Called ∷ []) token then 4
    else 0

abbrev pub look_step : List ℕ → Looking → Token → Looking
look_step name looking token =
    if nat_lt 0 looking.skip then record { skip = looking.skip - 1; looked = looking.looked }
    else record { skip = passed_over token; looked = looking.looked || is_name name token }

abbrev pub look_between : ℕ → ℕ → List ℕ → Looking → Token → Looking
look_between low high name looking token =
    if is_between low high token then look_step name looking token else looking

abbrev pub looked_through : ℕ → ℕ → List ℕ → Looking → List Token → Looking
looked_through low high name looking [] = looking
looked_through low high name looking (token ∷ tokens) =
    looked_through low high name (look_between low high name looking token) tokens

-- the name is that of an expression between the places
abbrev pub is_looked_at : ℕ → ℕ → List ℕ → List Token → Bool
is_looked_at low high name tokens = (looked_through low high name (record { skip = 0; looked = false }) tokens).looked

-- ---- notes

abbrev pub end_of : Block → ℕ
end_of block = (out-Block block).end

abbrev pub note_text : List ℕ → List ℕ → List ℕ → List ℕ → List ℕ
note_text method front name back =
    codes "note " ++ (method ++ (codes ": " ++ (front ++ (name ++ (back ++ codes "\n")))))

-- a slot that no statement of the procedure makes
unfoldable pub unmade_note : List Token → Method → Slot → List ℕ
unmade_note tokens method slot =
    if is_made method.name.place (end_of method.procedure) slot.name.bytes tokens then []
    else note_text method.name.bytes [] slot.name.bytes (codes " is never made")

abbrev pub unmade_notes : List Token → Method → List Slot → List ℕ
unmade_notes tokens method [] = []
unmade_notes tokens method (slot ∷ slots) = unmade_note tokens method slot ++ unmade_notes tokens method slots

-- a transaction consumes an object at least
abbrev pub idle_note : Method → List ℕ
idle_note method =
    if is_empty method.consumes
    then note_text method.name.bytes (codes "consumes nothing, so no transaction is of it alone") [] []
    else []

-- a parameter that no expression of the check names
unfoldable pub unlooked_note : List Token → Method → Field → List ℕ
unlooked_note tokens method field =
    if is_looked_at (end_of method.procedure) (end_of method.check) field.name.bytes tokens then []
    else note_text method.name.bytes (codes "parameter ") field.name.bytes (codes " is never looked at by the check")

abbrev pub unlooked_notes : List Token → Method → List Field → List ℕ
unlooked_notes tokens method [] = []
unlooked_notes tokens method (field ∷ fields) = unlooked_note tokens method field ++ unlooked_notes tokens method fields

unfoldable pub method_notes : List Token → Method → List ℕ
method_notes tokens method =
    unmade_notes tokens method method.creates ++ (idle_note method ++ unlooked_notes tokens method method.takes)

abbrev pub notes_in : List Token → List Method → List ℕ
notes_in tokens [] = []
notes_in tokens (method ∷ methods) = method_notes tokens method ++ notes_in tokens methods

-- the notes on the contract that a text is
unfoldable pub notes_of : List ℕ → ContractTree → List ℕ
notes_of text contract = notes_in (tokens_in (tokens_of text)) contract.methods
