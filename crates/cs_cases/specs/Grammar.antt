-- How the line of a case is read from the left.
use Rattle.std.specs.Prelude.{ℕ, zero, suc, pos, neg_ℤ, nat_lt, Bool, true, false, List, [], ◌∷◌, ◌++◌, map, replicate, codes, bytes_eq, Result, Ok, Err, if◌then◌else◌}
use Rattle.cs_lang_token.specs.declared.limits.TheConstants.{MOST_ITEMS, MOST_LISTS}
use Rattle.cs_lang_token.specs.declared.token.Token.{Token}
use Rattle.cs_lang_token.specs.declared.token.Text.{Text}
use Rattle.cs_lang_token.specs.declared.token.Number.{Number}
use Rattle.cs_lang_token.specs.declared.kind.Kind.{Kind}
use Rattle.cs_lang_token.specs.declared.kind.Kind.TheVariants as kind
use Rattle.cs_lang_token.specs.Kinds.{is}
use Rattle.cs_lang_token.specs.Grammar.{Reader, begins, pair_read, mapped_at, either_at, refused_at, nothing_at, ◌>>=◌}
use Rattle.cs_lang_token.specs.Rules.{sign_at, name_token_at, bytes_token_at, number_token_at}
use Rattle.cs_tx_value.specs.declared.value.Value.{Value}
use Rattle.cs_tx_value.specs.declared.value.Value.TheVariants as value
use Rattle.cs_tx_value.specs.declared.object.Object.{Object}
use Rattle.cs_tx_types.specs.Transaction.{Keyed}
use Rattle.cs_cases.specs.declared.case.Wanted.{Wanted}
use Rattle.cs_cases.specs.declared.case.Wanted.TheVariants as wanted
use Rattle.cs_cases.specs.declared.case.Asked.{Asked}
use Rattle.cs_cases.specs.declared.case.Asked.TheVariants.{Shown, Made, Given}
use Rattle.cs_cases.specs.declared.case.Case.{Case}

-- ---- things in brackets, with commas between them: 64 at most

abbrev pub closed_at : {X : Type 0} → Kind → List X → Reader (List X)
closed_at closing xs = mapped_at (λ place. xs) (sign_at closing true)

-- a comma and one more
abbrev pub one_more_at : {X : Type 0} → Reader X → List X → Reader (List X)
one_more_at r xs = mapped_at (λ p. xs ++ p.1 ∷ []) (pair_read (sign_at kind.Comma true) r)

-- those behind the first, up to the closing bracket
abbrev pub row_onward : {X : Type 0} → Kind → Reader X → ℕ → List X → Reader (List X)
row_onward closing r zero xs ts = Err ts
row_onward closing r (suc left) xs ts =
    if begins (is (closing ∷ [])) ts then closed_at closing xs ts
    else one_more_at r xs ts >>= λ ys. row_onward closing r left ys.0 ys.1

-- behind the opening bracket
abbrev pub row_at : {X : Type 0} → Kind → Reader X → Reader (List X)
row_at closing r ts =
    if begins (is (closing ∷ [])) ts then closed_at closing [] ts
    else r ts >>= λ x. row_onward closing r MOST_ITEMS (x.0 ∷ []) x.1

abbrev pub second : {A B : Type 0} → A × B → B
second p = p.1

abbrev pub bracketed_at : {X : Type 0} → Kind → Kind → Reader X → Reader (List X)
bracketed_at opening closing r = mapped_at second (pair_read (sign_at opening true) (row_at closing r))

-- ---- values, as the language writes them

-- a number below 2^63
abbrev pub small_number : Number × List Token → Result (ℕ × List Token) (List Token)
small_number x = if nat_lt x.0.value 9223372036854775808 then Ok (x.0.value, x.1) else Err x.1

abbrev pub number_level : Reader ℕ
number_level ts = number_token_at ts >>= small_number

abbrev pub int_value : ℕ → Value
int_value n = value.Int (pos n)

abbrev pub negative_value : ℕ × ℕ → Value
negative_value p = value.Int (neg_ℤ (pos p.1))

abbrev pub bytes_value : Text → Value
bytes_value t = value.Bytes t.bytes

abbrev pub truth_value : Bool → ℕ → Value
truth_value b place = value.Bool b

abbrev pub list_value : List Value → Value
list_value vs = value.List vs

-- a value that is no list
abbrev pub plain_level : Reader Value
plain_level =
    either_at (is (kind.Number ∷ [])) (mapped_at int_value number_level)
    (either_at (is (kind.Minus ∷ [])) (mapped_at negative_value (pair_read (sign_at kind.Minus true) number_level))
    (either_at (is (kind.Bytes ∷ [])) (mapped_at bytes_value bytes_token_at)
    (either_at (is (kind.True ∷ [])) (mapped_at (truth_value true) (sign_at kind.True true))
    (mapped_at (truth_value false) (sign_at kind.False true)))))

abbrev pub listed : Reader Value → Reader Value
listed r = mapped_at list_value (bracketed_at kind.OpenList kind.CloseList r)

-- a value of lists so deep at most
unfoldable pub value_level : ℕ → Reader Value
value_level zero = either_at (is (kind.OpenList ∷ [])) refused_at plain_level
value_level (suc left) = either_at (is (kind.OpenList ∷ [])) (listed (value_level left)) plain_level

-- values in parentheses
abbrev pub values_level : Reader (List Value)
values_level = bracketed_at kind.Open kind.Close (value_level MOST_LISTS)

-- ---- objects of the contract with this id

abbrev pub object_of : List ℕ → Text × List Value → Object
object_of id p = record { contract = id; type_name = p.0.bytes; values = p.1 }

unfoldable pub object_level : List ℕ → Reader Object
object_level id = mapped_at (object_of id) (pair_read name_token_at values_level)

-- objects in parentheses
abbrev pub objects_level : List ℕ → Reader (List Object)
objects_level id = bracketed_at kind.Open kind.Close (object_level id)

-- No check sees the key of an object, so all have this one.
abbrev pub no_key : List ℕ
no_key = replicate 32 0

abbrev pub keyed : Object → Keyed
keyed o = (no_key, o)

abbrev pub keyed_level : List ℕ → Reader (List Keyed)
keyed_level id = mapped_at (map keyed) (objects_level id)

-- references stand behind a plus, or there are none
abbrev pub references_level : List ℕ → Reader (List Keyed)
references_level id =
    either_at (is (kind.Plus ∷ [])) (mapped_at second (pair_read (sign_at kind.Plus true) (keyed_level id)))
    (nothing_at [])

-- ---- what is wanted

abbrev pub wanted_by : List ℕ → List Token → Result (Wanted × List Token) (List Token)
wanted_by word ts =
    if bytes_eq word (codes "no") then Ok (wanted.No, ts)
    else if bytes_eq word (codes "trap") then Ok (wanted.Trap, ts)
    else Err ts

abbrev pub wanted_word : Reader Wanted
wanted_word ts = name_token_at ts >>= λ x. wanted_by x.0.bytes x.1

-- no word says yes
abbrev pub wanted_level : Reader Wanted
wanted_level = either_at (λ t. true) wanted_word (nothing_at wanted.Yes)

abbrev pub returns_level : Reader (List Value)
returns_level =
    either_at (is (kind.Returns ∷ [])) (mapped_at second (pair_read (sign_at kind.Returns true) values_level)) (nothing_at [])

abbrev pub given : List Object × (List Value × Wanted) → Asked
given p = Given p.0 p.1.0 p.1.1

-- outputs and returned values, or none
abbrev pub outcome_level : List ℕ → Reader Asked
outcome_level id =
    either_at (is (kind.Open ∷ []))
    (mapped_at given (pair_read (objects_level id) (pair_read returns_level wanted_level))) (mapped_at Made wanted_level)

abbrev pub arrow_at : Reader ℕ
arrow_at = mapped_at second (pair_read (sign_at kind.Minus true) (sign_at kind.Greater true))

-- behind an arrow; without one the case is shown
abbrev pub asked_level : List ℕ → Reader Asked
asked_level id =
    either_at (λ t. true) (mapped_at second (pair_read arrow_at (outcome_level id))) (nothing_at Shown)

-- ---- cases

abbrev pub case_of : Text × (List Keyed × (List Keyed × (List Value × Asked))) → Case
case_of p = record {
  method = p.0.bytes;
  inputs = p.1.0;
  references = p.1.1.0;
  arguments = p.1.1.1.0;
  asked = p.1.1.1.1;
}

unfoldable pub case_level : List ℕ → Reader Case
case_level id =
    mapped_at case_of
    (pair_read name_token_at
    (pair_read (keyed_level id) (pair_read (references_level id) (pair_read values_level (asked_level id)))))
