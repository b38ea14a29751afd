-- How signs and marks add up.
use Rattle.std.proofs.Common.{◌≡◌, ℕ, List, [], ◌∷◌, ◌++◌, Option, Some, Bool, true, refl, ap, sym, subst, ◌∙◌, append_assoc, append-nil}
use Rattle.cs_base.specs.declared.node_id.NodeId.{NodeId}
use Rattle.cs_wire_message.specs.declared.message.Message.{Message}
use Rattle.cs_node_state.specs.Setup.{Setup}
use Rattle.cs_node_state.specs.Bench.{Bench}
use Rattle.cs_node_rules.specs.Signs.{Sign, Dropped, Took, Entered, Viewed, Did, Headed, Kept, Sent, bench_step, bench_after, sends}
use Rattle.cs_node_rules.specs.Site.{Mark, In, Ordered, Plain, Site, View, mark_step, view_after, plain, signs_of}
use Rattle.cs_node.specs.declared.draft.Note.TheVariants as note
use Rattle.cs_node.specs.declared.draft.Said.{Said}
use Rattle.cs_node.specs.Drafts.{Draft}
use Rattle.cs_node_state.specs.Bench.{effect_from}
use Rattle.cs_node.specs.Notes.{notes_of, said_of, to_each, spoken, TellsSigns}
use Rattle.cs_node.specs.Steps.{Makes, MakesMarks, TurnDone}

pub notes-append : (new old : List Sign) → notes_of (new ++ old) ≡ notes_of old ++ notes_of new
notes-append [] old = sym (append-nil (notes_of old))
notes-append (Dropped cause ∷ new) old = ap (λ xs. xs ++ note.Dropped cause ∷ []) (notes-append new old) ∙ append_assoc (notes_of old) (notes_of new) (note.Dropped cause ∷ [])
notes-append (Took sender vote x ∷ new) old = notes-append new old
notes-append (Entered x ∷ new) old = notes-append new old
notes-append (Viewed slot view ∷ new) old = ap (λ xs. xs ++ note.Viewed slot view ∷ []) (notes-append new old) ∙ append_assoc (notes_of old) (notes_of new) (note.Viewed slot view ∷ [])
notes-append (Headed number head ∷ new) old = ap (λ xs. xs ++ note.Headed number head ∷ []) (notes-append new old) ∙ append_assoc (notes_of old) (notes_of new) (note.Headed number head ∷ [])
notes-append (Kept index checkpoint ∷ new) old = notes-append new old
notes-append (Did slot place entry effect ∷ new) old = ap (λ xs. xs ++ note.Executed slot place entry (effect_from effect) ∷ []) (notes-append new old) ∙ append_assoc (notes_of old) (notes_of new) (note.Executed slot place entry (effect_from effect) ∷ [])
notes-append (Sent to message ∷ new) old = notes-append new old

pub said-append : (new old : List Sign) → said_of (new ++ old) ≡ said_of old ++ said_of new
said-append [] old = sym (append-nil (said_of old))
said-append (Dropped cause ∷ new) old = said-append new old
said-append (Took sender vote x ∷ new) old = said-append new old
said-append (Entered x ∷ new) old = said-append new old
said-append (Viewed slot view ∷ new) old = said-append new old
said-append (Headed number head ∷ new) old = said-append new old
said-append (Kept index checkpoint ∷ new) old = said-append new old
said-append (Did slot place entry effect ∷ new) old = said-append new old
said-append (Sent to message ∷ new) old = ap (λ xs. xs ++ (to, message) ∷ []) (said-append new old) ∙ append_assoc (said_of old) (said_of new) ((to, message) ∷ [])

-- one more is said to some
pub spoken-push : (all : List Said) (said : Said) → spoken (all ++ said ∷ []) ≡ spoken all ++ to_each said.to said.message
spoken-push [] said = append-nil (to_each said.to said.message)
spoken-push (x ∷ all) said =
    ap (λ xs. to_each x.to x.message ++ xs) (spoken-push all said)
    ∙ sym (append_assoc (to_each x.to x.message) (spoken all) (to_each said.to said.message))

pub tells-nothing : (draft : Draft) → TellsSigns [] draft draft
tells-nothing draft = record { notes = sym (append-nil draft.notes); said = sym (append-nil (spoken draft.said)) }

-- first these signs, then those
pub tells-more : (first later : List Sign) (old mid new : Draft) → TellsSigns first old mid → TellsSigns later mid new → TellsSigns (later ++ first) old new
tells-more first later old mid new a b = record {
  notes = b.notes ∙ ap (λ xs. xs ++ notes_of later) a.notes ∙ append_assoc old.notes (notes_of first) (notes_of later) ∙ ap (λ xs. old.notes ++ xs) (sym (notes-append later first));
  said = b.said ∙ ap (λ xs. xs ++ said_of later) a.said ∙ append_assoc (spoken old.said) (said_of first) (said_of later) ∙ ap (λ xs. spoken old.said ++ xs) (sym (said-append later first));
}

pub bench-append : (setup : Setup) (shard : ℕ) (new old : List Sign) (b : Bench) → bench_after setup shard (new ++ old) b ≡ bench_after setup shard new (bench_after setup shard old b)
bench-append setup shard [] old b = refl
bench-append setup shard (sign ∷ new) old b = ap (bench_step setup shard sign) (bench-append setup shard new old b)

-- ---- one message to several

pub said-sends : (names : List NodeId) (m : Message) → said_of (sends names m) ≡ to_each names m
said-sends [] m = refl
said-sends (to ∷ more) m = said-append (sends more m) (Sent to m ∷ []) ∙ ap (λ xs. (to, m) ∷ xs) (said-sends more m)

pub notes-sends : (names : List NodeId) (m : Message) → notes_of (sends names m) ≡ []
notes-sends [] m = refl
notes-sends (to ∷ more) m = notes-append (sends more m) (Sent to m ∷ []) ∙ notes-sends more m

pub bench-sends : (setup : Setup) (shard : ℕ) (names : List NodeId) (m : Message) (b : Bench) → bench_after setup shard (sends names m) b ≡ b
bench-sends setup shard [] m b = refl
bench-sends setup shard (to ∷ more) m b = bench-append setup shard (sends more m) (Sent to m ∷ []) b ∙ bench-sends setup shard more m b

-- what is pushed is said
pub tells-sends : (names : List NodeId) (m : Message) (old new : Draft) → new.notes ≡ old.notes → new.said ≡ old.said ++ record { to = names; message = m } ∷ [] → TellsSigns (sends names m) old new
tells-sends names m old new same is = record {
  notes = same ∙ sym (append-nil old.notes) ∙ ap (λ xs. old.notes ++ xs) (sym (notes-sends names m));
  said = ap spoken is ∙ spoken-push old.said (record { to = names; message = m }) ∙ ap (λ xs. spoken old.said ++ xs) (sym (said-sends names m));
}

-- ---- marks

pub signs-plain : {M : Type 0} (signs : List Sign) (past : List (Mark M)) → signs_of (plain signs ++ past) ≡ signs ++ signs_of past
signs-plain {M} [] past = refl
signs-plain {M} (sign ∷ signs) past = ap (λ xs. sign ∷ xs) (signs-plain signs past)

abbrev pub with_bench : {M : Type 0} → Bench → View M → View M
with_bench {M} b v = record { me = v.me; bench = b; member = v.member }

pub view-plain : {M : Type 0} (site : Site M) (signs : List Sign) (past : List (Mark M)) (v : View M) → view_after site (plain signs ++ past) v ≡ with_bench (bench_after site.setup (view_after site past v).me.shard signs (view_after site past v).bench) (view_after site past v)
view-plain {M} site [] past v = refl
view-plain {M} site (sign ∷ signs) past v = ap (mark_step site (Plain sign)) (view-plain site signs past v)

pub signs-append : {M : Type 0} (new old : List (Mark M)) → signs_of (new ++ old) ≡ signs_of new ++ signs_of old
signs-append {M} [] old = refl
signs-append {M} (In input ∷ new) old = signs-append new old
signs-append {M} (Ordered deed ∷ new) old = signs-append new old
signs-append {M} (Plain sign ∷ new) old = ap (λ xs. sign ∷ xs) (signs-append new old)

pub view-append : {M : Type 0} (site : Site M) (new old : List (Mark M)) (v : View M) → view_after site (new ++ old) v ≡ view_after site new (view_after site old v)
view-append {M} site [] old v = refl
view-append {M} site (mark ∷ new) old v = ap (mark_step site mark) (view-append site new old v)

pub turn-some : {M : Type 0} (site : Site M) (found : Option (List (Mark M))) (fresh : List (Mark M)) (v : View M) (went : Bool) (old new : Draft) (After : View M → Type 0) → found ≡ Some fresh → went ≡ true → MakesMarks site fresh v old new After → TurnDone site found v went old new After
turn-some {M} site found fresh v went old new After e w m = let P : Option (List (Mark M)) → Type 0 = λ o. TurnDone site o v went old new After in subst P (sym e) (w, m)

-- no marks
pub marks-none : {M : Type 0} (site : Site M) (v : View M) (old : Draft) (After : View M → Type 0) → After v → MakesMarks site [] v old old After
marks-none {M} site v old After after = record { tells = tells-nothing old; after = after }

-- first these marks, then those
pub marks-more : {M : Type 0} (site : Site M) (first later : List (Mark M)) (v : View M) (old mid new : Draft) (After Later : View M → Type 0) → MakesMarks site first v old mid After → MakesMarks site later (view_after site first v) mid new Later → MakesMarks site (later ++ first) v old new Later
marks-more {M} site first later v old mid new After Later a b =
    let Q : List Sign → Type 0 = λ signs. TellsSigns signs old new in
    record {
      tells = subst Q (sym (signs-append later first)) (tells-more (signs_of first) (signs_of later) old mid new a.tells b.tells);
      after = subst Later (sym (view-append site later first v)) b.after;
    }

-- first these marks, then what signs say of table and pool
pub marks-plain : {M : Type 0} (site : Site M) (signs : List Sign) (first : List (Mark M)) (v : View M) (old mid new : Draft) (After Later : View M → Type 0) → MakesMarks site first v old mid After → TellsSigns signs mid new
    → Later (with_bench (bench_after site.setup (view_after site first v).me.shard signs (view_after site first v).bench) (view_after site first v)) → MakesMarks site (plain signs ++ first) v old new Later
marks-plain {M} site signs first v old mid new After Later a tells after =
    let Q : List Sign → Type 0 = λ all. TellsSigns all old new in
    record {
      tells = subst Q (sym (signs-plain signs first)) (tells-more (signs_of first) signs old mid new a.tells tells);
      after = subst Later (sym (view-plain site signs first v)) after;
    }

-- signs alone
pub plain-marks : {M : Type 0} (site : Site M) (signs : List Sign) (v : View M) (b' : Bench) (old new : Draft) (After : View M → Type 0) → Makes site.setup v.me signs v.bench b' old new → After (with_bench b' v) → MakesMarks site (plain signs) v old new After
plain-marks {M} site signs v b' old new After made after =
    let Q : View M → Type 0 = λ u. u ≡ v in
    let P : Bench → Type 0 = λ b. After (with_bench b v) in
    let R : List (Mark M) → Type 0 = λ marks. MakesMarks site marks v old new After in
    subst R (append-nil (plain signs)) (marks-plain site signs [] v old old new Q After (marks-none site v old Q refl) made.tells (subst P made.bench_is after))
