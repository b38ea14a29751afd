-- What a client may be asked for behind all its other words, each once and in any order: details, how often its call is
-- tried, and which dummies it asks for; or details, and which session of it is submitted.
use Rattle.std.specs.Prelude.{ℕ, ◌+◌, nat_lt, nat_le, Bool, true, false, not, ◌&&◌, ◌||◌, List, [], ◌∷◌, take, drop, codes, is_none, unwrap_or, Option, Some, None, option_map, option_and_then, String, string_bytes, if◌then◌else◌}
use Rattle.std.specs.declared.alloc.Global.{Global}
use Rattle.std.specs.List.{position}
use Rattle.std.specs.Str.{bytes_eq}
use Rattle.cs_base.specs.Codes.{number_of}
use Rattle.cs_io.specs.Numbers.{short_number}
use Rattle.cs_deploy.specs.declared.limits.TheConstants.{MOST_TRIES}
use Rattle.cs_deploy.specs.declared.wishes.Wishes.{Wishes}
use Rattle.cs_cli.specs.declared.wishes.Waiting.{Waiting}
use Rattle.cs_cli.specs.declared.wishes.Waiting.TheVariants.{Nothing, Tries, Dummy, Session}
use Rattle.cs_cli.specs.declared.wishes.Asked.{Asked}
use Rattle.cs_cli.specs.declared.deployments.Deployment.{Deployment}
use Rattle.cs_cli.specs.declared.deployments.Deployment.TheVariants.{Client, ClientTries, ClientSession}

abbrev pub is_wish : List ℕ → Bool
is_wish word =
    ((bytes_eq word (codes "--tries") || bytes_eq word (codes "--session")) || bytes_eq word (codes "--details"))
    || bytes_eq word (codes "--dummy")

abbrev pub is_wish_word : String Global → Bool
is_wish_word word =
    ((bytes_eq (string_bytes word) (codes "--tries") || bytes_eq (string_bytes word) (codes "--session"))
    || bytes_eq (string_bytes word) (codes "--details"))
    || bytes_eq (string_bytes word) (codes "--dummy")

-- ---- word by word

-- nothing is asked for yet
abbrev pub unasked : Asked
unasked = record { details = false; tries = None; dummy = None; session = None; waiting = Nothing }

-- a word that asks for something, where it wasn't asked for yet; all but details wait for their value
abbrev pub word_read : List ℕ → Asked → Option Asked
word_read word a =
    if bytes_eq word (codes "--details") && not a.details then Some (record a { details = true })
    else if bytes_eq word (codes "--tries") && is_none a.tries then Some (record a { waiting = Tries })
    else if bytes_eq word (codes "--dummy") && is_none a.dummy then Some (record a { waiting = Dummy })
    else if bytes_eq word (codes "--session") && is_none a.session then Some (record a { waiting = Session })
    else None

-- a number of tries
abbrev pub tries_within : ℕ → Option ℕ
tries_within tries = if nat_lt 0 tries && nat_le tries MOST_TRIES then Some tries else None

abbrev pub tries_in : List ℕ → Option ℕ
tries_in number = option_and_then tries_within (short_number number)

abbrev pub with_tries : Asked → ℕ → Asked
with_tries a tries = record a { tries = Some tries; waiting = Nothing }

abbrev pub with_dummy : Asked → ℕ → Asked
with_dummy a dummy = record a { dummy = Some dummy; waiting = Nothing }

-- the word at this place: a value that is waited for, or one that asks
abbrev pub read_as : Waiting → ℕ → List ℕ → Asked → Option Asked
read_as Nothing place word a = word_read word a
read_as Tries place word a = option_map (with_tries a) (tries_in word)
read_as Dummy place word a = option_map (with_dummy a) (number_of word)
read_as Session place word a = Some (record a { session = Some place; waiting = Nothing })

abbrev pub one_read : ℕ → List ℕ → Asked → Option Asked
one_read place word a = read_as a.waiting place word a

-- the words, of which the first stands at this place
abbrev pub all_read : ℕ → List (List ℕ) → Asked → Option Asked
all_read place [] a = Some a
all_read place (word ∷ words) a = option_and_then (all_read (place + 1) words) (one_read place word a)

-- ---- behind all other words

abbrev pub wishes_of : Asked → Wishes
wishes_of a = record { details = a.details; tries = unwrap_or a.tries 1; dummy = a.dummy }

-- a client's call that is made with these wishes
abbrev pub with_asked : Asked → Deployment → Option Deployment
with_asked a (Client site keys call hosts until) = Some (ClientTries site keys call hosts (wishes_of a) until)
with_asked a other = None

-- a client's call whose session stands at this place among the words
abbrev pub with_session : Bool → ℕ → Deployment → Option Deployment
with_session details session (Client site keys call hosts until) =
    Some (ClientSession site keys call hosts details session until)
with_session details session other = None

-- who submits a session makes no call again, and needs no dummy
abbrev pub by_session : Asked → Option ℕ → Deployment → Option Deployment
by_session a None deployment = with_asked a deployment
by_session a (Some session) deployment =
    if is_none a.tries && is_none a.dummy then with_session a.details session deployment else None

-- no value is waited for any more
abbrev pub waits_for_none : Waiting → Bool
waits_for_none Nothing = true
waits_for_none Tries = false
waits_for_none Dummy = false
waits_for_none Session = false

abbrev pub asked_of : Deployment → Asked → Option Deployment
asked_of deployment a = if waits_for_none a.waiting then by_session a a.session deployment else None

-- the deployment with what these words ask for, of which the first stands behind so many
abbrev pub with_wishes : ℕ → List (List ℕ) → Deployment → Option Deployment
with_wishes before words deployment = option_and_then (asked_of deployment) (all_read (before + 1) words unasked)

-- the words of a command, of which so many stand before the first wish, if there is one
abbrev pub wished_at : (List (List ℕ) → Option Deployment) → List (List ℕ) → Option ℕ → Option Deployment
wished_at called words None = called words
wished_at called words (Some before) =
    option_and_then (with_wishes before (drop before words)) (called (take before words))

abbrev pub wished : (List (List ℕ) → Option Deployment) → List (List ℕ) → Option Deployment
wished called words = wished_at called words (position is_wish words)
