-- Files that are taken one after the other.
use Rattle.std.proofs.Common.{◌≡◌, ◌⊎◌, inl, inr, ℕ, ◌≤◌, Bool, true, false, List, Option, Some, None, Result, Ok, Err, refl, sym, ap, subst, ◌∙◌, arith}
use Rattle.std.specs.Prelude.{IsErrAnd, if◌then◌else◌}
use Rattle.std.specs.Str.{bytes_eq}
use Rattle.std.proofs.lemmas.Slice.Eq.{bytes_eq-Decides}
use Rattle.cs_io.specs.Told.{Stays}
use Rattle.cs_io.specs.Store.{Files}
use Rattle.cs_config.specs.declared.error.ConfigError.{ConfigError}
use Rattle.cs_config.specs.declared.error.ConfigError.TheVariants as config
use Rattle.cs_config.specs.Reading.{FileGives}
use Rattle.cs_config.specs.Call.{GivesCall}
use Rattle.cs_deploy.specs.declared.cause.Cause.{Cause}
use Rattle.cs_deploy.specs.declared.cause.Cause.TheVariants as cause
use Rattle.cs_deploy.specs.declared.cause.Untaken.{Untaken}
use Rattle.cs_deploy.specs.declared.cause.Untaken.TheVariants as untaken
use Rattle.cs_deploy.specs.Taking.{Taken, ◌>>=◌, content_taken, without_file, MayFailAt, IsFileRefusal, IsStoreFault, AnswersTaken, TakesFiles, FilesCome, bytes_taken, cause_of_config, read_as}
use Rattle.cs_deploy.specs.Refusing.{Refuses}
use Rattle.cs_deploy.specs.Calls.{CallOf, CallComes}

-- ---- one refusal

-- who refuses for another cause doesn't tell that the store failed
pub never-fault : (c : Cause) (why : Untaken) → (c ≡ cause.Fault → ⊥) → (IsStoreFault why → c ≡ cause.Fault) → IsStoreFault why → ⊥
never-fault c why other is fault = other (is fault)

-- a file is refused for what it is
pub refusal : {A : Type 0} (Come : Files → Taken A → Type 0) (files : Files) (name : List ℕ) (c : Cause) (why : Untaken) → (IsStoreFault why → ⊥) → Come files (Err (name, c)) → Refuses name c why → IsFileRefusal Come files why
refusal Come files name c untaken.Memory sound is told = tt
refusal {A} Come files name c (untaken.Refused text why) sound is told =
    by why (subst (λ (r : List ℕ × Cause). Come files (Err r)) (ap (λ (t : List ℕ). (t, c)) (sym told.0) ∙ ap (λ (w : Cause). (text, w)) (sym told.1)) is) sound
  where
    by : (why : Cause) → Come files (Err (text, why)) → (IsStoreFault (untaken.Refused text why) → ⊥) → IsFileRefusal Come files (untaken.Refused text why)
    by cause.Fault is sound = absurd (sound tt)
    by cause.Absent is sound = is
    by cause.TooLong is sound = is
    by cause.Toml is sound = is
    by (cause.Field f) is sound = is
    by (cause.Limit f) is sound = is
    by cause.Contract is sound = is
    by cause.Key is sound = is
    by cause.Journal is sound = is

-- the store failed at a file
pub refusal-fault : {A : Type 0} (Come : Files → Taken A → Type 0) (files : Files) (name : List ℕ) (why : Untaken) → MayFailAt Come files name → Refuses name cause.Fault why → IsFileRefusal Come files why
refusal-fault Come files name untaken.Memory may told = tt
refusal-fault {A} Come files name (untaken.Refused text why) may told =
    subst (λ (t : List ℕ). IsFileRefusal Come files (untaken.Refused t why)) (sym told.0)
    (subst (λ (w : Cause). IsFileRefusal Come files (untaken.Refused name w)) (sym told.1) may)

-- a refusal of other things is one of these too
pub refusal-so : {A B : Type 0} (Come : Files → Taken A → Type 0) (So : Files → Taken B → Type 0) (files : Files) → ((refusal : List ℕ × Cause) → Come files (Err refusal) → So files (Err refusal))
    → ((name : List ℕ) → MayFailAt Come files name → MayFailAt So files name) → (why : Untaken) → IsFileRefusal Come files why → IsFileRefusal So files why
refusal-so Come So files each fails untaken.Memory is = tt
refusal-so Come So files each fails (untaken.Refused name cause.Fault) is = fails name is
refusal-so Come So files each fails (untaken.Refused name cause.Absent) is = each (name, cause.Absent) is
refusal-so Come So files each fails (untaken.Refused name cause.TooLong) is = each (name, cause.TooLong) is
refusal-so Come So files each fails (untaken.Refused name cause.Toml) is = each (name, cause.Toml) is
refusal-so Come So files each fails (untaken.Refused name (cause.Field f)) is = each (name, cause.Field f) is
refusal-so Come So files each fails (untaken.Refused name (cause.Limit f)) is = each (name, cause.Limit f) is
refusal-so Come So files each fails (untaken.Refused name cause.Contract) is = each (name, cause.Contract) is
refusal-so Come So files each fails (untaken.Refused name cause.Key) is = each (name, cause.Key) is
refusal-so Come So files each fails (untaken.Refused name cause.Journal) is = each (name, cause.Journal) is

-- ---- files of which one isn't there

-- that is told, or nothing changes
abbrev pub Stable : {A : Type 0} → (Files → Taken A) → Type 0
Stable {A} from = (gone : List ℕ) (files : Files) → (from (without_file gone files) ≡ from files) ⊎ (from (without_file gone files) ≡ Err (gone, cause.Absent))

pub stable-same : {A : Type 0} (t : Taken A) → Stable (λ files. t)
stable-same t gone files = inl refl

pub stable-then : {A B : Type 0} (from : Files → Taken A) (next : Files → A → Taken B) → Stable from → ((x : A) → Stable (λ files. next files x)) → Stable (λ files. from files >>= next files)
stable-then {A} {B} from next first later gone files = elim (first gone files) [
  | inl same ↦ subst (λ (t : Taken A). ((t >>= next (without_file gone files)) ≡ (from files >>= next files)) ⊎ ((t >>= next (without_file gone files)) ≡ Err (gone, cause.Absent))) (sym same) (by (from files))
  | inr absent ↦ inr (ap (λ (t : Taken A). t >>= next (without_file gone files)) absent)
]
  where
    by : (t : Taken A) → ((t >>= next (without_file gone files)) ≡ (t >>= next files)) ⊎ ((t >>= next (without_file gone files)) ≡ Err (gone, cause.Absent))
    by (Ok x) = later x gone files
    by (Err told) = inl refl

pub stable-bytes : (name : List ℕ) → Stable (bytes_taken name)
stable-bytes name gone files = by (bytes_eq name gone) refl
  where
    by : (b : Bool) → bytes_eq name gone ≡ b → (content_taken name (if b then None else files name) ≡ content_taken name (files name)) ⊎ (content_taken name (if b then None else files name) ≡ Err (gone, cause.Absent))
    by true is = inr (ap (λ (n : List ℕ). Err (n, cause.Absent)) ((bytes_eq-Decides name gone).0 is))
    by false is = inl refl

-- a load may fail at its file
pub load-may-fail : (name : List ℕ) (files : Files) → MayFailAt (FilesCome (bytes_taken name)) files name
load-may-fail name files = ap (λ (b : Bool). content_taken name (if b then None else files name)) ((bytes_eq-Decides name name).1 refl)

-- ---- one step after the other

-- what is taken later is taken of the same files
pub back : {A : Type 0} (Come : Files → Taken A → Type 0) (a b : Option Files) (result : Result A Untaken) → Stays a b → TakesFiles Come b result → TakesFiles Come a result
back Come None b result stays takes = tt
back Come (Some files) None result stays takes = absurd stays
back {A} Come (Some files) (Some now) result stays takes = subst (λ (told : Files). AnswersTaken Come told result) stays takes

-- the first step is refused
pub first-not : {A B : Type 0} (from : Files → Taken A) (next : Files → A → Taken B) (a : Option Files) (why : Untaken) → TakesFiles (FilesCome from) a (Err why) → TakesFiles (FilesCome (λ files. from files >>= next files)) a (Err why)
first-not from next None why takes = tt
first-not {A} {B} from next (Some files) why takes =
    refusal-so (FilesCome from) (FilesCome (λ files. from files >>= next files)) files (λ told so. ap (λ (t : Taken A). t >>= next files) so)
    (λ name so. ap (λ (t : Taken A). t >>= next (without_file name files)) so) why takes

-- it is done, and then the next one
pub then-next : {A B : Type 0} (from : Files → Taken A) (next : Files → A → Taken B) (a : Option Files) (x : A) (result : Result B Untaken)
    → Stable from → TakesFiles (FilesCome from) a (Ok x) → TakesFiles (FilesCome (λ files. next files x)) a result → TakesFiles (FilesCome (λ files. from files >>= next files)) a result
then-next from next None x result stable first later = tt
then-next {A} {B} from next (Some files) x (Ok y) stable first later = ap (λ (t : Taken A). t >>= next files) first ∙ later
then-next {A} {B} from next (Some files) x (Err why) stable first later =
    refusal-so (FilesCome (λ now. next now x)) (FilesCome (λ now. from now >>= next now)) files (λ told so. ap (λ (t : Taken A). t >>= next files) first ∙ so)
    (λ name so. elim (stable name files) [
      | inl same ↦ ap (λ (t : Taken A). t >>= next (without_file name files)) (same ∙ first) ∙ so
      | inr absent ↦ ap (λ (t : Taken A). t >>= next (without_file name files)) absent
    ]) why later

-- what no file decides is done
pub takes-ok : {A : Type 0} (Is : Taken A → Type 0) (a : Option Files) (x : A) → Is (Ok x) → TakesFiles (λ files. Is) a (Ok x)
takes-ok Is None x is = tt
takes-ok Is (Some files) x is = is

-- or refused
pub takes-not : {A : Type 0} (Is : Taken A → Type 0) (a : Option Files) (name : List ℕ) (c : Cause) (why : Untaken) → (IsStoreFault why → ⊥) → Is (Err (name, c)) → Refuses name c why → TakesFiles (λ files. Is) a (Err why)
takes-not Is None name c why sound is told = tt
takes-not {A} Is (Some files) name c why sound is told = refusal (λ (now : Files). Is) files name c why sound is told

-- ---- reading

-- an error that is handed on
pub gave : {B : Type 0} (Come : Files → Taken B → Type 0) (a : Option Files) (e : Untaken) (result : Result B Untaken) → IsErrAnd result (λ x. x ≡ e) → TakesFiles Come a (Err e) → TakesFiles Come a result
gave Come a e (Ok x) is takes = absurd is
gave Come a e (Err x) is takes = subst (λ (y : Untaken). TakesFiles Come a (Err y)) (sym is) takes

-- what can't be read is refused
pub unread-not : {A : Type 0} (name : List ℕ) (read : Result A ConfigError) (a : Option Files) (error : ConfigError) (why : Untaken) → FileGives (Err error) read → Refuses name (cause_of_config error) why → (IsStoreFault why → ⊥)
    → TakesFiles (FilesCome (λ files. read_as name read)) a (Err why)
unread-not {A} name read a config.Memory why is told sound = never a why told sound
  where
    never : (a : Option Files) (why : Untaken) → Refuses name cause.Fault why → (IsStoreFault why → ⊥) → TakesFiles (FilesCome (λ files. read_as name read)) a (Err why)
    never None why told sound = tt
    never (Some files) untaken.Memory told sound = tt
    never (Some files) (untaken.Refused text w) told sound = absurd (sound (subst (λ (c : Cause). IsStoreFault (untaken.Refused text c)) (sym told.1) tt))
unread-not {A} name read a config.Toml why is told sound = takes-not (λ outcome. read_as name read ≡ outcome) a name cause.Toml why sound (ap (λ (r : Result A ConfigError). read_as name r) is) told
unread-not {A} name read a (config.Field f) why is told sound = takes-not (λ outcome. read_as name read ≡ outcome) a name (cause.Field f) why sound (ap (λ (r : Result A ConfigError). read_as name r) is) told
unread-not {A} name read a (config.Limit f) why is told sound = takes-not (λ outcome. read_as name read ≡ outcome) a name (cause.Limit f) why sound (ap (λ (r : Result A ConfigError). read_as name r) is) told

pub read-ok : {A : Type 0} (name : List ℕ) (read : Result A ConfigError) (a : Option Files) (x : A) → read ≡ Ok x → TakesFiles (FilesCome (λ files. read_as name read)) a (Ok x)
read-ok {A} name read a x is = takes-ok (λ outcome. read_as name read ≡ outcome) a x (ap (λ (r : Result A ConfigError). read_as name r) is)

-- want of memory may be told of any files
pub memory-told : {B : Type 0} (Come : Files → Taken B → Type 0) (a : Option Files) (result : Result B Untaken) → IsErrAnd result (λ x. x ≡ untaken.Memory) → TakesFiles Come a result
memory-told Come a result is = gave Come a untaken.Memory result is (by a)
  where
    by : (a : Option Files) → TakesFiles Come a (Err untaken.Memory)
    by None = tt
    by (Some files) = tt

-- ---- a call

-- a call file isn't taken
pub call-absent : (name : List ℕ) (a : Option Files) (why : Untaken) → TakesFiles (FilesCome (bytes_taken name)) a (Err why) → TakesFiles (CallComes name) a (Err why)
call-absent name None why takes = tt
call-absent name (Some files) why takes = refusal-so (FilesCome (bytes_taken name)) (CallComes name) files (λ told so. by (bytes_taken name files) told so) (λ gone so. by (bytes_taken name (without_file gone files)) (gone, cause.Absent) so) why takes
  where
    by : (t : Taken (List ℕ)) (told : List ℕ × Cause) → t ≡ Err told → CallOf name t (Err told)
    by t told is = subst (λ (u : Taken (List ℕ)). CallOf name u (Err told)) (sym is) refl

call-of-not : (name bytes : List ℕ) (files : Files) (error : ConfigError) (why : Untaken) → bytes_taken name files ≡ Ok bytes → GivesCall (Err error) bytes → Refuses name (cause_of_config error) why → (IsStoreFault why → ⊥) → IsFileRefusal (CallComes name) files why
call-of-not name bytes files error why first is told sound = by error why is told sound
  where
    other : (error : ConfigError) (why : Untaken) → (error ≡ config.Memory → ⊥) → GivesCall (Err error) bytes → Refuses name (cause_of_config error) why → (IsStoreFault why → ⊥) → IsFileRefusal (CallComes name) files why
    other error why known is told sound =
        refusal (CallComes name) files name (cause_of_config error) why sound
        (subst (λ (t : Taken (List ℕ)). CallOf name t (Err (name, cause_of_config error))) (sym first) (error, known, refl, is)) told

    never : (why : Untaken) → Refuses name cause.Fault why → (IsStoreFault why → ⊥) → IsFileRefusal (CallComes name) files why
    never untaken.Memory told sound = tt
    never (untaken.Refused text w) told sound = absurd (sound (subst (λ (c : Cause). IsStoreFault (untaken.Refused text c)) (sym told.1) tt))

    by : (error : ConfigError) (why : Untaken) → GivesCall (Err error) bytes → Refuses name (cause_of_config error) why → (IsStoreFault why → ⊥) → IsFileRefusal (CallComes name) files why
    by config.Memory why is told sound = never why told sound
    by config.Toml why is told sound = other config.Toml why (λ e. absurd cc) is told sound
    by (config.Field f) why is told sound = other (config.Field f) why (λ e. absurd cc) is told sound
    by (config.Limit f) why is told sound = other (config.Limit f) why (λ e. absurd cc) is told sound

pub call-not : (name : List ℕ) (a : Option Files) (bytes : List ℕ) (error : ConfigError) (why : Untaken)
    → TakesFiles (FilesCome (bytes_taken name)) a (Ok bytes) → GivesCall (Err error) bytes → Refuses name (cause_of_config error) why → (IsStoreFault why → ⊥) → TakesFiles (CallComes name) a (Err why)
call-not name None bytes error why first is told sound = tt
call-not name (Some files) bytes error why first is told sound = call-of-not name bytes files error why first is told sound

-- ---- what doesn't fall

pub le_both : (a b c : ℕ) → a ≤ b → b ≤ c → a ≤ c
le_both a b c p q = omega arith
