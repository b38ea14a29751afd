-- A call that is made again after it was aborted, by the inputs of all its tries. Of lists of inputs the newest stands
-- first.
use Rattle.std.specs.Prelude.{ℕ, ◌-◌, ◌^◌, nat_lt, Bool, ◌&&◌, List, [], ◌∷◌, ◌++◌, Option, None, if◌then◌else◌}
use Rattle.std.specs.Option.{option_map_or}
use Rattle.cs_tx_types.specs.declared.session.Session.{Session}
use Rattle.cs_client.specs.declared.errand.Errand.{Errand}
use Rattle.cs_client.specs.declared.known.Known.{Known}
use Rattle.cs_client.specs.declared.known.Known.TheVariants as known
use Rattle.cs_client.specs.Inputs.{ClientInput}
use Rattle.cs_client.specs.Phases.{Phase, Asking, Wanting, Submitting, Idle, phase, submitted}
use Rattle.cs_client.specs.Knowing.{knows}
use Rattle.cs_client.specs.Lines.{known_line}
use Rattle.cs_client.specs.Standing.{errand_again}
use Rattle.cs_details.specs.Lines.{session_line, tx_lines}
use Rattle.cs_waits.specs.Standing.{lines_if}

-- a try: whether details are told, what it is to do, how many may be made with it, and the inputs since it began
pub record Try : Type 0 where
  pub details : Bool
  pub errand : Errand
  pub tries : ℕ
  pub inputs : List ClientInput

abbrev pub try_begun : Bool → Errand → ℕ → Try
try_begun details e tries = record { details = details; errand = e; tries = tries; inputs = [] }

-- another one may follow: there are tries left, and a number
abbrev pub may_follow : ℕ → ℕ → Bool
may_follow tries number = nat_lt 1 tries && nat_lt number (2 ^ 64 - 1)

abbrev pub has_next : Try → Bool
has_next t = may_follow t.tries t.errand.call.number

-- once it was aborted the next one begins, if there is one
abbrev pub then_next : Known → Try → Try
then_next known.Open t = t
then_next (known.Accepted digest) t = t
then_next (known.Aborted digest) t =
    if has_next t then try_begun t.details (errand_again t.errand) (t.tries - 1) else t

-- with one input more
abbrev pub with_input : ClientInput → Try → Try
with_input input t = record t { inputs = input ∷ t.inputs }

abbrev pub phase_in_try : Try → Phase
phase_in_try t = phase t.errand t.inputs

abbrev pub known_in_try : Try → Known
known_in_try t = knows t.errand t.inputs

abbrev pub moved_on : Try → Try
moved_on t = then_next (known_in_try t) t

-- the try that is made after these inputs
abbrev pub try_after : Try → List ClientInput → Try
try_after first [] = first
try_after first (input ∷ past) = moved_on (with_input input (try_after first past))

-- ---- what is printed

-- the session that is submitted in the second of these phases, but not in the first
abbrev pub newly : Phase → Phase → Option Session
newly Asking new = submitted new
newly (Wanting x) new = submitted new
newly (Submitting x) new = None
newly Idle new = submitted new

-- the line of the session that is submitted, where it is to be announced
abbrev pub announcement : Bool → Phase → List ℕ
announcement announcing p = if announcing then option_map_or session_line (submitted p) [] else []

-- with details, the line of a session that is submitted from this input on
abbrev pub line_before : ClientInput → Try → List ℕ
line_before input t =
    if t.details then option_map_or session_line (newly (phase_in_try t) (phase_in_try (with_input input t))) [] else []

-- with details, that it is accepted, and the lines of its transaction
abbrev pub lines_accepted : List ℕ → Try → List ℕ
lines_accepted digest t =
    if t.details
    then known_line (known.Accepted digest)
    ++ option_map_or (λ x. tx_lines t.errand.config x.tx) (submitted (phase_in_try t)) []
    else []

-- behind what is said at an input: the line of one that was aborted, where another one follows
abbrev pub line_between : Known → Try → List ℕ
line_between known.Open t = []
line_between (known.Accepted digest) t = lines_accepted digest t
line_between (known.Aborted digest) t = if has_next t then known_line (known.Aborted digest) else []

abbrev pub line_behind : ClientInput → Try → List ℕ
line_behind input t = line_between (known_in_try (with_input input t)) (with_input input t)

-- all that is printed before the last line
abbrev pub lines_in : Try → List ClientInput → List ℕ
lines_in first [] = []
lines_in first (input ∷ past) =
    let t = try_after first past in lines_in first past ++ (line_before input t ++ line_behind input t)

-- the last lines of a try of which nothing is known, where they tell more than that
abbrev pub lines_open : Try → Option (List ℕ)
lines_open t = lines_if t.details t.errand t.inputs
