-- The rules that apply: what the code did is what the marks of the rule say.
use Rattle.std.proofs.Common.{◌≡◌, ℕ, ◌+◌, ◌-◌, ◌%◌, ◌==◌, nat_lt, Bool, true, false, cond, List, [], ◌∷◌, ◌++◌, length, Option, Some, None, refl, ap, sym, subst, ◌∙◌, append_assoc, append-nil}
use Rattle.cs_base.specs.declared.node_id.NodeId.{NodeId}
use Rattle.cs_order.specs.declared.proposed.Proposed.{Proposed}
use Rattle.cs_order.specs.declared.answers.Outgoing.{Outgoing}
use Rattle.cs_order.specs.declared.answers.Step.TheVariants.{Chosen, Moved}
use Rattle.cs_order.specs.Deeds.{Deed, Advanced, Proposing, Cut, Member, did, sent_by, chosen_in}
use Rattle.cs_check_rules.specs.Chain.{kept_slots}
use Rattle.cs_node_state.specs.Bench.{Bench}
use Rattle.cs_node_rules.specs.Members.{is_other_member, others}
use Rattle.cs_node_rules.specs.Signs.{Sign, Viewed, Sent, bench_after, execution_signs}
use Rattle.cs_node_rules.specs.Site.{Mark, Ordered, Site, View, view_after, plain}
use Rattle.cs_node_rules.specs.Trail.{out_signs, handed, with_deed, entered_view, moving, proposing, cut_marks, step_marks, turn_marks}
use Rattle.cs_node.specs.Drafts.{Draft}
use Rattle.cs_node.specs.Notes.{TellsSigns}
use Rattle.cs_node.specs.Steps.{Makes, MakesMarks, TurnDone, log_cut_at}
use Rattle.cs_node.proofs.Sums.{with_bench, tells-nothing, bench-append, bench-sends, turn-some, marks-plain}

abbrev pub with_member : {M : Type 0} → Member M → View M → View M
with_member {M} h v = record { me = v.me; bench = v.bench; member = h }

-- ---- what is said changes neither table nor pool

pub bench-handed : {M : Type 0} (site : Site M) (me : NodeId) (outs : List (Outgoing M)) (b : Bench) → bench_after site.setup me.shard (handed site me outs) b ≡ b
bench-handed {M} site me [] b = refl
bench-handed {M} site me (out ∷ outs) b =
    bench-append site.setup me.shard (handed site me outs) (out_signs site me out.to out.message) b
    ∙ ap (bench_after site.setup me.shard (handed site me outs)) (by_to out.to)
    ∙ bench-handed site me outs b
  where
    by_test : (name : NodeId) (other : Bool) → bench_after site.setup me.shard (cond other (Sent name (site.carrier.written out.message) ∷ []) []) b ≡ b
    by_test name true = refl
    by_test name false = refl

    by_to : (to : Option ℕ) → bench_after site.setup me.shard (out_signs site me to out.message) b ≡ b
    by_to None = bench-sends site.setup me.shard (others site.setup.f me (me.shard ∷ [])) (site.carrier.written out.message) b
    by_to (Some to) = by_test (record { shard = me.shard; index = to }) (is_other_member site.setup.f me (record { shard = me.shard; index = to }))

pub handed-push : {M : Type 0} (site : Site M) (me : NodeId) (outs : List (Outgoing M)) (out : Outgoing M) → handed site me (outs ++ out ∷ []) ≡ out_signs site me out.to out.message ++ handed site me outs
handed-push {M} site me [] out = sym (append-nil (out_signs site me out.to out.message))
handed-push {M} site me (o ∷ outs) out =
    ap (λ xs. xs ++ out_signs site me o.to o.message) (handed-push site me outs out)
    ∙ append_assoc (out_signs site me out.to out.message) (handed site me outs) (out_signs site me o.to o.message)

bench-entered : {M : Type 0} (site : Site M) (shard slot before after : ℕ) (b : Bench) → bench_after site.setup shard (entered_view slot before after) b ≡ b
bench-entered {M} site shard slot before after b = by_test (nat_lt before after)
  where
    by_test : (moved : Bool) → bench_after site.setup shard (cond moved (Viewed slot after ∷ []) []) b ≡ b
    by_test true = refl
    by_test false = refl

pub bench-moved : {M : Type 0} (site : Site M) (me : NodeId) (outs : List (Outgoing M)) (slot before after : ℕ) (b : Bench) → bench_after site.setup me.shard (handed site me outs ++ entered_view slot before after) b ≡ b
bench-moved {M} site me outs slot before after b =
    bench-append site.setup me.shard (handed site me outs) (entered_view slot before after) b
    ∙ ap (bench_after site.setup me.shard (handed site me outs)) (bench-entered site me.shard slot before after b)
    ∙ bench-handed site me outs b

module _ {M : Type 0} (site : Site M) (v : View M) (old new : Draft) (After : View M → Type 0) where
  -- a deed, and signs that change neither table nor pool
  pub deed-told : (signs : List Sign) (deed : Deed M) → ((b : Bench) → bench_after site.setup v.me.shard signs b ≡ b) → TellsSigns signs old new → After (with_member (did deed v.member) v) → MakesMarks site (plain signs ++ Ordered deed ∷ []) v old new After
  deed-told signs deed still tells after =
      let w : View M = with_member (did deed v.member) v in
      let Q : View M → Type 0 = λ u. u ≡ w in
      let P : Bench → Type 0 = λ b. After (with_bench b w) in
      marks-plain site signs (Ordered deed ∷ []) v old old new Q After (record { tells = tells-nothing old; after = refl }) tells (subst P (sym (still v.bench)) after)

  pub deed-done : (deed : Deed M) → TellsSigns (handed site v.me (sent_by deed)) old new → After (with_member (did deed v.member) v) → MakesMarks site (with_deed site v deed) v old new After
  deed-done deed tells after = deed-told (handed site v.me (sent_by deed)) deed (bench-handed site v.me (sent_by deed)) tells after

  pub moving-done : (deed : Deed M) → TellsSigns (handed site v.me (sent_by deed) ++ entered_view (length (chosen_in v.member.deeds)) (site.machine.view v.member) (site.machine.view (did deed v.member))) old new
      → After (with_member (did deed v.member) v) → MakesMarks site (moving site v deed) v old new After
  moving-done deed tells after =
      deed-told (handed site v.me (sent_by deed) ++ entered_view (length (chosen_in v.member.deeds)) (site.machine.view v.member) (site.machine.view (did deed v.member))) deed
      (bench-moved site v.me (sent_by deed) (length (chosen_in v.member.deeds)) (site.machine.view v.member) (site.machine.view (did deed v.member))) tells after

  pub proposed-done : (found : Option (List (Mark M))) (proposed : Proposed) → found ≡ Some (proposing site v proposed) → TellsSigns (handed site v.me (site.machine.proposing v.member proposed)) old new
      → After (with_member (did (Proposing proposed (site.machine.proposing v.member proposed)) v.member) v) → TurnDone site found v true old new After
  proposed-done found proposed e tells after = turn-some site found (proposing site v proposed) v true old new After e refl (deed-done (Proposing proposed (site.machine.proposing v.member proposed)) tells after)

  pub moved-done : site.machine.step v.member ≡ Moved
      → TellsSigns (handed site v.me (site.machine.advancing v.member) ++ entered_view (length (chosen_in v.member.deeds)) (site.machine.view v.member) (site.machine.view (did (Advanced Moved (site.machine.advancing v.member)) v.member))) old new
      → After (with_member (did (Advanced Moved (site.machine.advancing v.member)) v.member) v) → TurnDone site (turn_marks site v) v true old new After
  moved-done is tells after =
      let deed : Deed M = Advanced Moved (site.machine.advancing v.member) in
      turn-some site (turn_marks site v) (moving site v deed) v true old new After (ap (step_marks site v) is) refl (moving-done deed tells after)

-- no rule applies
pub turn-none : {M : Type 0} (site : Site M) (v : View M) (old : Draft) (After : View M → Type 0) (found : Option (List (Mark M))) → found ≡ None → After v → TurnDone site found v false old old After
turn-none {M} site v old After found e after = let P : Option (List (Mark M)) → Type 0 = λ o. TurnDone site o v false old old After in subst P (sym e) (refl, refl, after)

-- what the order gives up is told to nobody
cut-done : {M : Type 0} (site : Site M) (slot : ℕ) (marks : List (Mark M)) (v : View M) (old new : Draft) (After : View M → Type 0)
    → MakesMarks site marks v old new (λ w. After (with_member (log_cut_at (slot + 1) w.member) w)) → MakesMarks site (cut_marks slot ++ marks) v old new After
cut-done {M} site slot marks v old new After done = by_test ((slot + 1) % 16 == 0) done.after
  where
    by_test : (due : Bool) → After (with_member (cond due (did (Cut (slot + 1 - kept_slots)) (view_after site marks v).member) (view_after site marks v).member) (view_after site marks v))
        → MakesMarks site (cond due (Ordered (Cut (slot + 1 - kept_slots)) ∷ []) [] ++ marks) v old new After
    by_test true after = record { tells = done.tells; after = after }
    by_test false after = record { tells = done.tells; after = after }

-- what was chosen is executed, and the log is cut
pub chosen-done : {M : Type 0} (site : Site M) (v : View M) (old mid new : Draft) (After : View M → Type 0) (proposed : Proposed) (slot : ℕ) (b' : Bench) → site.machine.step v.member ≡ Chosen proposed → slot ≡ length (chosen_in v.member.deeds)
    → TellsSigns (handed site v.me (site.machine.advancing v.member)) old mid
    → Makes site.setup v.me (execution_signs site.setup v.me v.bench slot (site.entry_in proposed)) v.bench b' mid new
    → After (record { me = v.me; bench = b'; member = log_cut_at (slot + 1) (did (Advanced (Chosen proposed) (site.machine.advancing v.member)) v.member) }) → TurnDone site (turn_marks site v) v true old new After
chosen-done {M} site v old mid new After proposed slot b' is at tells made after =
    let deed : Deed M = Advanced (Chosen proposed) (site.machine.advancing v.member) in
    let here : ℕ = length (chosen_in v.member.deeds) in
    let signs : List Sign = execution_signs site.setup v.me v.bench here (site.entry_in proposed) in
    let N : ℕ → Type 0 = λ n. Makes site.setup v.me (execution_signs site.setup v.me v.bench n (site.entry_in proposed)) v.bench b' mid new in
    let now : Makes site.setup v.me signs v.bench b' mid new = subst N at made in
    let w : View M = with_member (did deed v.member) v in
    let Q : View M → Type 0 = λ u. u ≡ w in
    let Cutting : View M → Type 0 = λ u. After (with_member (log_cut_at (here + 1) u.member) u) in
    let C : ℕ → Type 0 = λ n. After (record { me = v.me; bench = b'; member = log_cut_at (n + 1) (did deed v.member) }) in
    let said : List Sign = handed site v.me (site.machine.advancing v.member) in
    let at_w : View M → Type 0 = λ u. Cutting (with_bench (bench_after site.setup u.me.shard signs u.bench) u) in
    let first : MakesMarks site (with_deed site v deed) v old mid Q = deed-done site v old mid Q deed tells refl in
    let P : Bench → Type 0 = λ b. Cutting (with_bench b w) in
    let all : List (Mark M) = plain signs ++ with_deed site v deed in
    turn-some site (turn_marks site v) (cut_marks here ++ all) v true old new After (ap (step_marks site v) is) refl
    (cut-done site here all v old new After
    (marks-plain site signs (with_deed site v deed) v old mid new Q Cutting first now.tells (subst at_w (sym first.after) (subst P now.bench_is (subst C at after)))))
