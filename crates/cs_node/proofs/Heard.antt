-- What a core did as others spoke to it, at the view for which it stood.
use Rattle.std.proofs.lemmas.Bool.Decides.{nat_tests}
use Rattle.std.proofs.lemmas.Result.{on_ok_weaker}
use Rattle.cs_base.specs.declared.config.Config.{Config}
use Rattle.std.proofs.Common.{◌≡◌, ◌≢◌, arith, ℕ, ◌*◌, ◌≤◌, Bool, true, false, List, [], ◌∷◌, ◌++◌, Option, Some, None, Result, OnOk, refl, ap, sym, subst, ◌∙◌}
use Rattle.cs_base.specs.declared.node_id.NodeId.{NodeId}
use Rattle.cs_tx_value.specs.declared.object.Object.{Object}
use Rattle.cs_tx_types.specs.declared.transaction.Tx.{Tx}
use Rattle.cs_base.specs.declared.key.Key.{Key}
use Rattle.cs_tx_types.specs.declared.session.Session.{Session}
use Rattle.cs_tx_types.specs.declared.vote.Vote.{Vote}
use Rattle.cs_tx_types.specs.declared.checkpoint.Checkpoint.{Checkpoint}
use Rattle.cs_wire_message.specs.declared.message.Message.{Message}
use Rattle.cs_wire_message.specs.declared.message.Message.TheVariants as message
use Rattle.cs_wire_message.specs.Classes.{Class, OfOrder, class_of}
use Rattle.cs_check_rules.specs.Chain.{Log}
use Rattle.cs_order.specs.declared.answers.Outgoing.{Outgoing}
use Rattle.cs_order.specs.declared.answers.Took.{Took}
use Rattle.cs_order.specs.declared.answers.Took.TheVariants.{Taken}
use Rattle.cs_order.specs.Deeds.{Took_in, Replied, Member, Machine, did}
use Rattle.cs_order.specs.Calls.{taken_in, TakesIn, RepliesWith}
use Rattle.cs_node_rules.specs.declared.cause.Cause.{Cause}
use Rattle.cs_node_rules.specs.declared.cause.Cause.TheVariants.{Role, Far}
use Rattle.cs_node_state.specs.Setup.{Setup}
use Rattle.cs_node_rules.specs.Members.{is_other_member}
use Rattle.cs_node_rules.specs.Net.{Net}
use Rattle.cs_node_rules.specs.Signs.{Sign, Dropped, said_signs}
use Rattle.cs_node_rules.specs.Site.{Carriers, Mark, Site, View, plain}
use Rattle.cs_node_rules.specs.Trail.{handed, drops, taking_marks, member_marks, reply_marks, want_marks, class_marks, message_marks}
use Rattle.cs_node_rules.specs.Deployment.{site_of}
use Rattle.cs_node_rules.specs.Carrying.{is_of_order, is_ordering, Carries, AllCarry}
use Rattle.cs_node_pool.specs.Deployed.{deployed_setup}
use Rattle.cs_sbac.specs.Held.{Held, bench_of}
use Rattle.cs_node.specs.declared.engine.Engine.{Engine}
use Rattle.cs_node.specs.Drafts.{Draft}
use Rattle.cs_node.specs.Notes.{TellsSigns}
use Rattle.cs_node.specs.Signing.{Leaves, Does}
use Rattle.cs_node.specs.Steps.{MakesMarks}
use Rattle.cs_node.specs.Cores.{IsSeated, KeepsView, site_at, core_view, LeadsBy}
use Rattle.cs_node.proofs.Sums.{tells-nothing, plain-marks}
use Rattle.cs_node.proofs.Turns.{deed-done}
use Rattle.cs_node.proofs.Doing.{from-nothing}
use Rattle.cs_node.proofs.Standing.{keeps-on}

-- another member has another index below 3f + 1
pub other-low : (f : ℕ) (me name : NodeId) → is_other_member f me name ≡ true → name.index ≤ 3 * f
other-low f me name other = grind (arith, nat_tests)

pub other-apart : (f : ℕ) (me name : NodeId) → is_other_member f me name ≡ true → name.index ≢ me.index
other-apart f me name other = λ same. grind (arith, nat_tests)

-- so it may ask the order
pub may-ask : (config : Config) (me name : NodeId) (hf hi of oi : ℕ) → is_other_member config.f me name ≡ true → hf ≡ config.f → hi ≡ me.index → (hf ≡ of) × (hi ≡ oi) → (name.index ≤ 3 * of) × (name.index ≢ oi)
may-ask config me name hf hi of oi other same-f same-index belongs = (
  subst (λ n. name.index ≤ 3 * n) (sym same-f ∙ belongs.0) (other-low config.f me name other),
  subst (λ n. name.index ≢ n) (sym same-index ∙ belongs.1) (other-apart config.f me name other),
)

-- an answer that a member gives, or not
pub replied-none : {M : Type 0} (found : Option (Outgoing M)) (h : Member M) (slot to : ℕ) (old new : List (Outgoing M)) (Stands : Member M → Type 0) → RepliesWith found h slot to false old new Stands → found ≡ None
replied-none {M} None h slot to old new Stands called = refl
replied-none {M} (Some out) h slot to old new Stands called = let q : false ≡ true = called.0 in cc

pub record HasReplied {M : Type 0} (found : Option (Outgoing M)) (h : Member M) (slot to : ℕ) (old new : List (Outgoing M)) (Stands : Member M → Type 0) : Type 0 where
  pub out : Outgoing M
  pub is : found ≡ Some out
  pub grown : new ≡ old ++ out ∷ []
  pub stood : Stands (did (Replied slot to (out ∷ [])) h)

pub replied-some : {M : Type 0} (found : Option (Outgoing M)) (h : Member M) (slot to : ℕ) (old new : List (Outgoing M)) (Stands : Member M → Type 0) → RepliesWith found h slot to true old new Stands → HasReplied found h slot to old new Stands
replied-some {M} None h slot to old new Stands called = let q : true ≡ false = called.0 in cc
replied-some {M} (Some out) h slot to old new Stands called = record { out = out; is = refl; grown = called.1; stood = called.2 }

module _ {O J M : Type 0} (stands : O → Member M → Type 0) (approves : J → Tx → Bool) (rules : Machine M) (carried : Carriers M) (net : Net) (core : Engine O J M) (genesis : List Object) (log : Log) (h : Member M) (made made' : Draft) (seated : IsSeated stands core log h) where
  abbrev setup : Setup
  setup = deployed_setup core.sbac.config genesis (approves core.judge)

  abbrev site : Site M
  site = site_of setup net rules carried

  abbrev v : View M
  v = core_view log core.sbac h

  abbrev After : Engine O J M → View M → Type 0
  After next = KeepsView stands approves setup next

  -- table and pool did what these signs say
  pub said-here : (signs : List Sign) (marks : List (Mark M)) (held : Held) → marks ≡ plain signs → Leaves setup core.sbac signs (bench_of log core.sbac) held made made'
      → MakesMarks site marks v made made' (After (record { order = core.order; judge = core.judge; sbac = held }))
  said-here signs marks held are leaves =
      let next : Engine O J M = record { order = core.order; judge = core.judge; sbac = held } in
      subst (λ (ms : List (Mark M)). MakesMarks site ms v made made' (After next)) (sym are)
      (plain-marks site signs v (bench_of leaves.log held) made made' (After next) leaves.makes (keeps-on stands approves genesis core log h core.order held leaves.log h seated seated.stood refl refl leaves.config_is leaves.me_is leaves.kept_is))

  -- it was dropped
  pub dropped-here : (cause : Cause) (marks : List (Mark M)) → marks ≡ drops cause → TellsSigns (Dropped cause ∷ []) made made' → MakesMarks site marks v made made' (After core)
  dropped-here cause marks are tells = said-here (Dropped cause ∷ []) marks core.sbac are (record { log = log; kept_is = seated.kept_is; config_is = refl; me_is = refl; makes = record { tells = tells; bench_is = refl } })

  -- ---- the order's messages

  pub refused-here : (from : ℕ) (m : M) (order : O) (answer : Took) (cause : Cause) → TakesIn rules h from m answer (stands order) → taking_marks from m answer ≡ drops cause → taken_in answer from m h ≡ h → TellsSigns (Dropped cause ∷ []) made made'
      → MakesMarks site (taking_marks from m (rules.taking h from m)) v made made' (After (record { order = order; judge = core.judge; sbac = core.sbac }))
  refused-here from m order answer cause called are same tells =
      let next : Engine O J M = record { order = order; judge = core.judge; sbac = core.sbac } in
      let T : Took → Type 0 = λ t. stands order (taken_in t from m h) in
      let stood : stands order h = subst (stands order) same (subst T (sym called.0) called.1) in
      let which : taking_marks from m (rules.taking h from m) ≡ plain (Dropped cause ∷ []) = ap (taking_marks from m) (sym called.0) ∙ are in
      subst (λ (ms : List (Mark M)). MakesMarks site ms v made made' (After next)) (sym which)
      (plain-marks site (Dropped cause ∷ []) v (bench_of log core.sbac) made made' (After next) (record { tells = tells; bench_is = refl }) (keeps-on stands approves genesis core log h order core.sbac log h seated stood refl refl refl refl seated.kept_is))

  pub taken-here : (from : ℕ) (m : M) (order : O) → TakesIn rules h from m Taken (stands order) → made' ≡ made
      → MakesMarks site (taking_marks from m (rules.taking h from m)) v made made' (After (record { order = order; judge = core.judge; sbac = core.sbac }))
  taken-here from m order called same =
      let next : Engine O J M = record { order = order; judge = core.judge; sbac = core.sbac } in
      let T : Took → Type 0 = λ t. stands order (taken_in t from m h) in
      let stood : stands order (did (Took_in from m) h) = subst T (sym called.0) called.1 in
      let R : Took → Type 0 = λ t. MakesMarks site (taking_marks from m t) v made made' (After next) in
      let D : Draft → Type 0 = λ d. TellsSigns [] made d in
      subst R called.0 (record {
        tells = subst D (sym same) (tells-nothing made);
        after = keeps-on stands approves genesis core log h order core.sbac log (did (Took_in from m) h) seated stood refl refl refl refl seated.kept_is;
      })

  module _ (sender : NodeId) where
    pub none-here : (read : Option M) → read ≡ None → TellsSigns (Dropped Role ∷ []) made made' → MakesMarks site (member_marks site v sender read) v made made' (After core)
    none-here read none tells = dropped-here Role (member_marks site v sender read) (ap (member_marks site v sender) none) tells

    pub stranger-here : (read : Option M) (m : M) → read ≡ Some m → is_other_member core.sbac.config.f core.sbac.me sender ≡ false → TellsSigns (Dropped Role ∷ []) made made' → MakesMarks site (member_marks site v sender read) v made made' (After core)
    stranger-here read m is other tells =
        dropped-here Role (member_marks site v sender read) (ap (member_marks site v sender) is ∙ (rw other refl)) tells

    pub member-here : (read : Option M) (m : M) → read ≡ Some m → is_other_member core.sbac.config.f core.sbac.me sender ≡ true → member_marks site v sender read ≡ taking_marks sender.index m (rules.taking h sender.index m)
    member-here read m is other = ap (member_marks site v sender) is ∙ (rw other refl)

    -- ---- an answer

    pub wanted-by-none : (slot : ℕ) → is_other_member core.sbac.config.f core.sbac.me sender ≡ false → TellsSigns (Dropped Role ∷ []) made made' → MakesMarks site (want_marks site v sender slot) v made made' (After core)
    wanted-by-none slot other tells = dropped-here Role (want_marks site v sender slot) (rw other refl) tells

    pub unanswered-here : (slot : ℕ) (old new : List (Outgoing M)) → is_other_member core.sbac.config.f core.sbac.me sender ≡ true → RepliesWith (rules.replying h slot sender.index) h slot sender.index false old new (stands core.order)
        → TellsSigns (Dropped Far ∷ []) made made' → MakesMarks site (want_marks site v sender slot) v made made' (After core)
    unanswered-here slot old new other called tells =
        let none : rules.replying h slot sender.index ≡ None = replied-none (rules.replying h slot sender.index) h slot sender.index old new (stands core.order) called in
        dropped-here Far (want_marks site v sender slot) ((rw other refl) ∙ ap (reply_marks site v slot sender.index) none) tells

    pub answered-here : (slot : ℕ) (old new : List (Outgoing M)) → old ≡ [] → is_other_member core.sbac.config.f core.sbac.me sender ≡ true → RepliesWith (rules.replying h slot sender.index) h slot sender.index true old new (stands core.order)
        → TellsSigns (handed site core.sbac.me new) made made' → MakesMarks site (want_marks site v sender slot) v made made' (After core)
    answered-here slot old new empty other called says =
        let r : HasReplied (rules.replying h slot sender.index) h slot sender.index old new (stands core.order) = replied-some (rules.replying h slot sender.index) h slot sender.index old new (stands core.order) called in
        let which : want_marks site v sender slot ≡ reply_marks site v slot sender.index (Some r.out) = (rw other refl) ∙ ap (reply_marks site v slot sender.index) r.is in
        let S : List (Outgoing M) → Type 0 = λ outs. TellsSigns (handed site core.sbac.me outs) made made' in
        subst (λ (ms : List (Mark M)). MakesMarks site ms v made made' (After core)) (sym which)
        (deed-done site v made made' (After core) (Replied slot sender.index (r.out ∷ [])) (subst S (from-nothing old new (r.out ∷ []) empty r.grown) says)
        (keeps-on stands approves genesis core log h core.order core.sbac log (did (Replied slot sender.index (r.out ∷ [])) h) seated r.stood refl refl refl refl seated.kept_is))

-- ---- what a message led to

-- it is what its variant led to
pub as-said : {O J M A E : Type 0} (stands : O → Member M → Type 0) (approves : J → Tx → Bool) (rules : Machine M) (carrier : Carriers M) (engine engine' : Engine O J M) (draft draft' : Draft) (result : Result A E)
    (sender : NodeId) (m said : Message) → m ≡ said
    → LeadsBy stands approves rules carrier engine engine' draft draft' result (λ site v. message_marks site v sender said)
    → LeadsBy stands approves rules carrier engine engine' draft draft' result (λ site v. message_marks site v sender m)
as-said {O} {J} {M} stands approves rules carrier engine engine' draft draft' result sender m said is led =
    let Leads : Message → Type 0 = λ given. LeadsBy stands approves rules carrier engine engine' draft draft' result (λ site v. message_marks site v sender given) in
    subst Leads (sym is) led

-- where table and pool did what it says
pub signs-said : {O J M A E : Type 0} (stands : O → Member M → Type 0) (approves : J → Tx → Bool) (rules : Machine M) (carrier : Carriers M) (engine : Engine O J M) (held : Held) (draft draft' : Draft) (result : Result A E)
    (sender : NodeId) (m said : Message) → m ≡ said
    → ((site : Site M) (v : View M) → message_marks site v sender said ≡ plain (said_signs site.setup v.me v.bench sender said))
    → Does (approves engine.judge) engine.sbac held draft draft' result (λ setup b. said_signs setup engine.sbac.me b sender said)
    → LeadsBy stands approves rules carrier engine (record { order = engine.order; judge = engine.judge; sbac = held }) draft draft' result (λ site v. message_marks site v sender m)
signs-said {O} {J} {M} {A} {E} stands approves rules carrier engine held draft draft' result sender m said is signs made = λ net genesis log h seated.
    let site = site_at rules carrier net engine.sbac genesis (approves engine.judge) in
    let v = core_view log engine.sbac h in
    let marks = message_marks site v sender m in
    let are : marks ≡ plain (said_signs site.setup v.me v.bench sender said) = ap (message_marks site v sender) is ∙ signs site v in
    on_ok_weaker result
    (said-here stands approves rules carrier net engine genesis log h draft draft' seated (said_signs site.setup v.me v.bench sender said) marks held are)
    (made genesis log seated.kept_is)

-- the node answers none of its kind
pub record IsUnanswered (m : Message) : Type 0 where
  pub submit : (x : Session) → m ≡ message.Submit x → ⊥
  pub ask : (asked : Option Key) → m ≡ message.Ask asked → ⊥
  pub ask_proof : (slot place : ℕ) → m ≡ message.AskProof slot place → ⊥
  pub voted : (vote : Vote) (asks : Bool) (x : Session) → m ≡ message.Voted vote asks x → ⊥
  pub want : (slot : ℕ) → m ≡ message.Want slot → ⊥
  pub head : (checkpoint : Checkpoint) → m ≡ message.Head checkpoint → ⊥

module _ {M : Type 0} (machine : Machine M) (site : Site M) (carries : Carries site.setup.version machine site.carrier) (v : View M) (sender : NodeId) where
  -- what is none of the order's is dropped
  unread : (m : Message) (read : Option M) → site.carrier.read m ≡ read → is_ordering m ≡ false → member_marks site v sender read ≡ drops Role
  unread m None is other = refl
  unread m (Some k) is other = absurd (let q : true ≡ false = sym (carries.theirs m k is) ∙ other in cc)

  heard-class : (m : Message) (class : Class) → class_of m ≡ class → said_signs site.setup v.me v.bench sender m ≡ Dropped Role ∷ []
      → member_marks site v sender (site.carrier.read m) ≡ class_marks site v sender m class
  heard-class m OfOrder is signs = refl
  heard-class m class is signs =
      let S : List Sign → Type 0 = λ made. member_marks site v sender (site.carrier.read m) ≡ plain made in
      subst S (sym signs) (unread m (site.carrier.read m) refl (ap is_of_order is))

  other-marks : (m : Message) → IsUnanswered m → member_marks site v sender (site.carrier.read m) ≡ message_marks site v sender m
  other-marks (message.Submit x) other = absurd (other.submit x refl)
  other-marks (message.Ask asked) other = absurd (other.ask asked refl)
  other-marks (message.AskProof slot place) other = absurd (other.ask_proof slot place refl)
  other-marks (message.Voted vote asks x) other = absurd (other.voted vote asks x refl)
  other-marks (message.Want slot) other = absurd (other.want slot refl)
  other-marks (message.Head checkpoint) other = absurd (other.head checkpoint refl)
  other-marks m other = heard-class m (class_of m) refl refl

-- so the order hears it
pub other-said : {O J M A E : Type 0} (stands : O → Member M → Type 0) (approves : J → Tx → Bool) (rules : Machine M) (carrier : Carriers M) (engine engine' : Engine O J M) (draft draft' : Draft) (result : Result A E)
    (sender : NodeId) (m : Message) → AllCarry rules carrier → IsUnanswered m
    → LeadsBy stands approves rules carrier engine engine' draft draft' result (λ site v. member_marks site v sender (site.carrier.read m))
    → LeadsBy stands approves rules carrier engine engine' draft draft' result (λ site v. message_marks site v sender m)
other-said {O} {J} {M} stands approves rules carrier engine engine' draft draft' result sender m carries other led = λ net genesis log h seated.
    let site = site_at rules carrier net engine.sbac genesis (approves engine.judge) in
    let v = core_view log engine.sbac h in
    let setup = deployed_setup engine.sbac.config genesis (approves engine.judge) in
    let After : View M → Type 0 = KeepsView stands approves setup engine' in
    let P : List (Mark M) → Type 0 = λ marks. OnOk result (MakesMarks site marks v draft draft' After) in
    subst P (other-marks rules site (carries setup.version) v sender m other) (led net genesis log h seated)
