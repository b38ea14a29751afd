-- What a replay prints before its dump begins none, whatever world it is of.
use Rattle.std.specs.Prelude.{◌≡◌, ◌≢◌, ℕ, zero, suc, ◌+◌, ◌≤◌, ◌/◌, ◌%◌, ◌==◌, nat_lt, nat_le, Bool, true, false, not, ◌&&◌, List, [], ◌∷◌, ◌++◌, length, filter, Option, Some, None, slice_get, slice_index, codes, if◌then◌else◌}
use Rattle.std.specs.List.{All, AllByRecursion, slice_split}
use Rattle.std.specs.Str.{bytes_eq}
use Rattle.std.specs.Fmt.{digit_glyph, digits_onto, digits, decimal}
use Rattle.std.proofs.Common.{inl, inr, refl, sym, ap, subst, ◌∙◌, append_assoc, append-nil, arith, get_or}
use Rattle.std.proofs.lemmas.Bool.{and_parts, cases_Bool}
use Rattle.std.proofs.lemmas.Bool.Decides.{nat_tests}
use Rattle.std.proofs.lemmas.List.Elements.{All-nil, All-cons, All-head, All-tail, All-append}
use Rattle.std.proofs.lemmas.List.Splits.{slice_split_at}
use Rattle.std.proofs.lemmas.Slice.Eq.{bytes_eq-Decides}
use Rattle.hex.specs.Hex.{encode_with, lower_digits}
use Rattle.cs_base.specs.Codes.{bytes_text}
use Rattle.cs_base.specs.Lines.{fields_of}
use Rattle.cs_base.specs.NodeId.{node_text}
use Rattle.cs_base.specs.declared.node_id.NodeId.{NodeId}
use Rattle.cs_base.specs.declared.node_id.TheConstants.{CLIENT_SHARD}
use Rattle.cs_base.proofs.Written.{each-append}
use Rattle.cs_ledger.specs.Ledger.{Bytes, Transaction}
use Rattle.cs_ledger.specs.Table.{Effect, Commit, Abort, Voted, Accepted, Aborted, Skipped, Void}
use Rattle.cs_tx_types.specs.Session.{session_in}
use Rattle.cs_wire.specs.declared.opening.OpenError.{OpenError}
use Rattle.cs_wire.specs.declared.opening.OpenError.TheVariants as error
use Rattle.cs_node_state.specs.Setup.{Setup, digest_of}
use Rattle.cs_node_rules.specs.declared.cause.Cause.{Cause}
use Rattle.cs_node_rules.specs.declared.cause.Cause.TheVariants as cause
use Rattle.cs_node_rules.specs.Signs.{Sign, Dropped, Took, Entered, Viewed, Did, Headed, Kept, Sent}
use Rattle.cs_node_rules.specs.Lines.{effect_text, slot_line, error_text, drop_cause_text, drop_line, view_line, head_line, if_traced, sign_line, sign_lines, Parcel, parcels_of}
use Rattle.cs_node_rules.specs.Site as Given
use Rattle.cs_node_rules.specs.Site.{Input, Datagram, Site}
use Rattle.cs_node_rules.specs.World.{happens, is_genuine, recorded_history}
use Rattle.cs_sched.specs.declared.schedule.Event.{Event}
use Rattle.cs_sched.specs.declared.schedule.Event.TheVariants.{Say, Inject, Deliver, Tick, Drain}
use Rattle.cs_replay_rules.specs.Lines.{datagram_kind, sent_line, sent_lines, at_line, event_lines, forged_line, limit_line, transaction_lines, history_text}
use Rattle.cs_replay_rules.specs.Play.{Played, unplayed, Course, Goes, Stops, Forges, played_by, then_plays, size_of, most_events, most_sent, signs_of_last, plays, occurs, injects, with_arrived, comes, delivers, first_left, drains, drained, play, play_all, closing_text, lines}
use Rattle.cs_tx_types.specs.declared.transaction.Tx.{Tx}
use Rattle.cs_audit_dump.specs.Before.{is_within_line, BeginsNoDump, text_of_lines, DumpIsReadBehind}
use Rattle.cs_audit_dump.specs.Text.{dump_of}
use Rattle.cs_audit_law.specs.Answered.{IsYes}

-- ---- bytes within a line

abbrev Within : ℕ → Type 0
Within byte = is_within_line byte ≡ true

abbrev all_within : List ℕ → Bool
all_within [] = true
all_within (byte ∷ bytes) = is_within_line byte && all_within bytes

-- a literal text
within : (text : List ℕ) → all_within text ≡ true → All Within text
within [] is = All-nil Within
within (byte ∷ bytes) is =
    let (first, others) = and_parts (is_within_line byte) (all_within bytes) is in
    All-cons Within byte bytes first (within bytes others)

high : (byte : ℕ) → 14 ≤ byte → Within byte
high byte above =
    let other : (byte == 10) ≡ false = grind (arith, nat_tests) in
    let another : (byte == 13) ≡ false = grind (arith, nat_tests) in
    ap (λ (b : Bool). not b && not (byte == 13)) other ∙ ap (λ (b : Bool). not b) another

-- numbers

glyph-within : (digit : ℕ) → Within (digit_glyph false digit)
glyph-within digit = by (nat_lt digit 10)
  where
    by : (b : Bool) → Within (if b then 48 + digit else 87 + digit)
    by true = high (48 + digit) (omega arith)
    by false = high (87 + digit) (omega arith)

onto-within : (k n : ℕ) (after : List ℕ) → All Within after → All Within (digits_onto k 10 false n after)
onto-within zero n after all = all
onto-within (suc k) n after all =
    let more = All-cons Within (digit_glyph false (n % 10)) after (glyph-within (n % 10)) all in
    by (n / 10 == 0) more (onto-within k (n / 10) (digit_glyph false (n % 10) ∷ after) more)
  where
    by : (b : Bool) → All Within (digit_glyph false (n % 10) ∷ after) → All Within (digits_onto k 10 false (n / 10) (digit_glyph false (n % 10) ∷ after))
        → All Within (if b then digit_glyph false (n % 10) ∷ after else digits_onto k 10 false (n / 10) (digit_glyph false (n % 10) ∷ after))
    by true last later = last
    by false last later = later

decimal-within : (n : ℕ) → All Within (decimal n)
unfolding digits
decimal-within n = onto-within 64 n [] (All-nil Within)

-- bytes

found-within : (xs : List ℕ) (k : ℕ) → All Within xs → Within (get_or xs k 0)
found-within [] k all = refl
found-within (x ∷ xs) zero all = All-head Within x xs all
found-within (x ∷ xs) (suc k) all = found-within xs k (All-tail Within x xs all)

pairs-within : (bytes : List ℕ) → All Within (encode_with lower_digits bytes)
unfolding encode_with
pairs-within [] = All-nil Within
pairs-within (byte ∷ bytes) =
    let literal : All Within lower_digits = within lower_digits refl in
    All-cons Within (slice_index lower_digits (byte / 16)) (slice_index lower_digits (byte % 16) ∷ encode_with lower_digits bytes) (found-within lower_digits (byte / 16) literal)
    (All-cons Within (slice_index lower_digits (byte % 16)) (encode_with lower_digits bytes) (found-within lower_digits (byte % 16) literal) (pairs-within bytes))

bytes-within : (bytes : List ℕ) → All Within (bytes_text bytes)
bytes-within [] = within (codes "-") refl
bytes-within (byte ∷ bytes) = pairs-within (byte ∷ bytes)

-- names

name-within : (name : NodeId) → All Within (node_text name)
name-within name =
    elim (cases_Bool (name.shard == CLIENT_SHARD)) [
      | inl client ↦ rw client (All-append Within (codes "c.") (decimal name.index) (within (codes "c.") refl) (decimal-within name.index))
      | inr member ↦ rw member (All-append Within (decimal name.shard ++ codes ".") (decimal name.index)
          (All-append Within (decimal name.shard) (codes ".") (decimal-within name.shard) (within (codes ".") refl)) (decimal-within name.index))
    ]

-- ---- the end of a line

pub record IsEnd (text : List ℕ) : Type 0 where
  pub body : List ℕ
  pub is : text ≡ body ++ 10 ∷ []
  pub inside : All Within body

feed : IsEnd (codes "\n")
feed = record { body = []; is = refl; inside = All-nil Within }

-- one more part in front
part : (front text : List ℕ) → All Within front → IsEnd text → IsEnd (front ++ text)
part front text free end = record {
  body = front ++ end.body;
  is = ap (λ (t : List ℕ). front ++ t) end.is ∙ sym (append_assoc front end.body (10 ∷ []));
  inside = All-append Within front end.body free end.inside;
}

space : (text : List ℕ) → IsEnd text → IsEnd (codes " " ++ text)
space text = part (codes " ") text (within (codes " ") refl)

-- ---- whole lines that begin no dump

pub record AreLines (text : List ℕ) : Type 0 where
  pub each_one : List (List ℕ)
  pub is : text ≡ text_of_lines each_one
  pub none : AllByRecursion BeginsNoDump each_one

no-lines : AreLines []
no-lines = record { each_one = []; is = refl; none = tt }

both-none : (some more : List (List ℕ)) → AllByRecursion BeginsNoDump some → AllByRecursion BeginsNoDump more → AllByRecursion BeginsNoDump (some ++ more)
both-none [] more first later = later
both-none (line ∷ some) more first later = (first.0, both-none some more first.1 later)

more-lines : (a b : List ℕ) → AreLines a → AreLines b → AreLines (a ++ b)
more-lines a b first later = record {
  each_one = first.each_one ++ later.each_one;
  is = ap (λ (t : List ℕ). t ++ b) first.is ∙ ap (λ (t : List ℕ). text_of_lines first.each_one ++ t) later.is
      ∙ sym (each-append (λ (line : List ℕ). line ++ 10 ∷ []) first.each_one later.each_one);
  none = both-none first.each_one later.each_one first.none later.none;
}

-- a word other than `dump`, without spaces
abbrev is_word : List ℕ → Bool
is_word [] = true
is_word (byte ∷ bytes) = (not (byte == 32) && is_within_line byte) && is_word bytes

pub record IsWord (word : List ℕ) : Type 0 where
  pub some : not (length word == 0) ≡ true
  pub plain : is_word word ≡ true
  pub other : bytes_eq word (codes "dump") ≡ false

not-so : (b : Bool) → not b ≡ true → b ≡ false
not-so true is = absurd cc
not-so false is = refl

no-space : (word : List ℕ) → is_word word ≡ true → All (λ byte. (byte == 32) ≡ false) word
no-space [] is = All-nil (λ (byte : ℕ). (byte == 32) ≡ false)
no-space (byte ∷ bytes) is =
    let (first, others) = and_parts (not (byte == 32) && is_within_line byte) (is_word bytes) is in
    All-cons (λ (byte : ℕ). (byte == 32) ≡ false) byte bytes (not-so (byte == 32) (and_parts (not (byte == 32)) (is_within_line byte) first).0) (no-space bytes others)

word-within : (word : List ℕ) → is_word word ≡ true → All Within word
word-within [] is = All-nil Within
word-within (byte ∷ bytes) is =
    let (first, others) = and_parts (not (byte == 32) && is_within_line byte) (is_word bytes) is in
    All-cons Within byte bytes (and_parts (not (byte == 32)) (is_within_line byte) first).1 (word-within bytes others)

abbrev parts_of : List ℕ → List (List ℕ)
parts_of text = slice_split (λ byte. byte == 32) text

abbrev non_empty : List (List ℕ) → List (List ℕ)
non_empty parts = filter (λ field. not (length field == 0)) parts

first-kept : (word : List ℕ) (parts : List (List ℕ)) → not (length word == 0) ≡ true → non_empty (word ∷ parts) ≡ word ∷ non_empty parts
first-kept word parts some = rw some refl

-- the first field of a line is its word
fields-begin : (word body : List ℕ) → IsWord word → fields_of (word ++ 32 ∷ body) ≡ word ∷ non_empty (parts_of body)
fields-begin word body is =
    ap non_empty (slice_split_at (λ byte. byte == 32) word 32 body (no-space word is.plain) refl) ∙ first-kept word (parts_of body) is.some

no-dump : (word body : List ℕ) → IsWord word → fields_of (word ++ 32 ∷ body) ≢ codes "dump" ∷ []
no-dump word body is = λ same.
    let first : word ∷ non_empty (parts_of body) ≡ codes "dump" ∷ [] = sym (fields-begin word body is) ∙ same in
    let named : word ≡ codes "dump" = cc in
    let apart : false ≡ true = sym is.other ∙ (bytes_eq-Decides word (codes "dump")).1 named in
    absurd cc

-- one line, of a word and more
one-line : (word text : List ℕ) → IsWord word → IsEnd text → AreLines (word ++ 32 ∷ text)
one-line word text is end = record {
  each_one = (word ++ 32 ∷ end.body) ∷ [];
  is = ap (λ (t : List ℕ). word ++ 32 ∷ t) end.is ∙ sym (append_assoc word (32 ∷ end.body) (10 ∷ [])) ∙ sym (append-nil ((word ++ 32 ∷ end.body) ++ 10 ∷ []));
  none = (
    record {
      within = All-append Within word (32 ∷ end.body) (word-within word is.plain) (All-cons Within 32 end.body refl end.inside);
      other = no-dump word end.body is;
    },
    tt,
  );
}

-- and lines behind it
line-then : (word front rest : List ℕ) → IsWord word → All Within front → AreLines rest → AreLines (word ++ 32 ∷ (front ++ (codes "\n" ++ rest)))
line-then word front rest is free later =
    subst AreLines (append_assoc word (32 ∷ (front ++ codes "\n")) rest ∙ ap (λ (t : List ℕ). word ++ 32 ∷ t) (append_assoc front (codes "\n") rest))
    (more-lines (word ++ 32 ∷ (front ++ codes "\n")) rest (one-line word (front ++ codes "\n") is (part front (codes "\n") free feed)) later)

-- a literal word
word : (text : List ℕ) → not (length text == 0) ≡ true → is_word text ≡ true → bytes_eq text (codes "dump") ≡ false → IsWord text
word text some plain other = record { some = some; plain = plain; other = other }

-- ---- the lines of what nodes do

effect-within : (digest : Bytes) (effect : Effect) → All Within (effect_text digest effect)
effect-within digest (Voted Commit) = All-append Within (codes "prepare ") _ (within (codes "prepare ") refl) (All-append Within (bytes_text digest) (codes " commit") (bytes-within digest) (within (codes " commit") refl))
effect-within digest (Voted Abort) = All-append Within (codes "prepare ") _ (within (codes "prepare ") refl) (All-append Within (bytes_text digest) (codes " abort") (bytes-within digest) (within (codes " abort") refl))
effect-within digest Accepted = All-append Within (codes "decide ") _ (within (codes "decide ") refl) (All-append Within (bytes_text digest) (codes " accepted") (bytes-within digest) (within (codes " accepted") refl))
effect-within digest Aborted = All-append Within (codes "decide ") _ (within (codes "decide ") refl) (All-append Within (bytes_text digest) (codes " aborted") (bytes-within digest) (within (codes " aborted") refl))
effect-within digest Skipped = All-append Within (codes "decide ") _ (within (codes "decide ") refl) (All-append Within (bytes_text digest) (codes " skipped") (bytes-within digest) (within (codes " skipped") refl))
effect-within digest Void = within (codes "void") refl

slot-lines : (me : NodeId) (slot : ℕ) (digest : Bytes) (effect : Effect) → AreLines (slot_line me slot digest effect)
slot-lines me slot digest effect =
    one-line (codes "node") _ (word (codes "node") refl refl refl)
    (part (node_text me) _ (name-within me) (part (codes " slot ") _ (within (codes " slot ") refl) (part (decimal slot) _ (decimal-within slot)
    (space _ (part (effect_text digest effect) (codes "\n") (effect-within digest effect) feed)))))

error-within : (e : OpenError) → All Within (error_text e)
error-within error.Short = within (codes "short") refl
error-within error.Magic = within (codes "magic") refl
error-within error.Kind = within (codes "kind") refl
error-within error.NotMine = within (codes "mine") refl
error-within error.Stranger = within (codes "stranger") refl
error-within error.Length = within (codes "length") refl
error-within error.Tag = within (codes "tag") refl
error-within error.Body = within (codes "body") refl

cause-within : (c : Cause) → All Within (drop_cause_text c)
cause-within (cause.Unopened e) = error-within e
cause-within cause.Mine = within (codes "mine") refl
cause-within cause.Role = within (codes "role") refl
cause-within cause.Malformed = within (codes "malformed") refl
cause-within cause.Old = within (codes "old") refl
cause-within cause.Far = within (codes "far") refl
cause-within cause.Leader = within (codes "leader") refl
cause-within cause.Repeat = within (codes "repeat") refl
cause-within cause.Unasked = within (codes "unasked") refl
cause-within cause.Denied = within (codes "denied") refl
cause-within cause.Full = within (codes "full") refl
cause-within cause.NoProof = within (codes "noproof") refl

drop-lines : (me : NodeId) (c : Cause) → AreLines (drop_line me c)
drop-lines me c =
    one-line (codes "drop") _ (word (codes "drop") refl refl refl)
    (part (node_text me) _ (name-within me) (space _ (part (drop_cause_text c) (codes "\n") (cause-within c) feed)))

view-lines : (me : NodeId) (slot view : ℕ) → AreLines (view_line me slot view)
view-lines me slot view =
    one-line (codes "view") _ (word (codes "view") refl refl refl)
    (part (node_text me) _ (name-within me) (part (codes " slot ") _ (within (codes " slot ") refl) (part (decimal slot) _ (decimal-within slot)
    (space _ (part (decimal view) (codes "\n") (decimal-within view) feed)))))

head-lines : (me : NodeId) (number : ℕ) (head : Bytes) → AreLines (head_line me number head)
head-lines me number head =
    one-line (codes "node") _ (word (codes "node") refl refl refl)
    (part (node_text me) _ (name-within me) (part (codes " head ") _ (within (codes " head ") refl) (part (decimal number) _ (decimal-within number)
    (space _ (part (bytes_text head) (codes "\n") (bytes-within head) feed)))))

lines-if : (traced : Bool) (text : List ℕ) → AreLines text → AreLines (if_traced traced text)
lines-if true text are = are
lines-if false text are = no-lines

sign-are : (setup : Setup) (traced : Bool) (me : NodeId) (sign : Sign) → AreLines (sign_line setup traced me sign)
sign-are setup traced me (Did slot place entry effect) = slot-lines me slot (digest_of setup (session_in entry)) effect
sign-are setup traced me (Dropped c) = lines-if traced (drop_line me c) (drop-lines me c)
sign-are setup traced me (Viewed slot view) = lines-if traced (view_line me slot view) (view-lines me slot view)
sign-are setup traced me (Headed number head) = head-lines me number head
sign-are setup traced me (Took sender vote x) = no-lines
sign-are setup traced me (Entered x) = no-lines
sign-are setup traced me (Kept index checkpoint) = no-lines
sign-are setup traced me (Sent to message) = no-lines

signs-are : (setup : Setup) (traced : Bool) (me : NodeId) (signs : List Sign) → AreLines (sign_lines setup traced me signs)
signs-are setup traced me [] = no-lines
signs-are setup traced me (sign ∷ past) =
    more-lines (sign_lines setup traced me past) (sign_line setup traced me sign) (signs-are setup traced me past) (sign-are setup traced me sign)

-- ---- the lines of events, and the last ones

sent-line : (number : ℕ) (parcel : Parcel) → AreLines (sent_line number parcel)
sent-line number parcel =
    one-line (codes "sent") _ (word (codes "sent") refl refl refl)
    (part (decimal number) _ (decimal-within number) (space _ (part (node_text parcel.from) _ (name-within parcel.from) (space _ (part (node_text parcel.to) _ (name-within parcel.to)
    (space _ (part (decimal (datagram_kind parcel.bytes)) _ (decimal-within (datagram_kind parcel.bytes)) (space _ (part (bytes_text parcel.bytes) (codes "\n") (bytes-within parcel.bytes) feed)))))))))

sent-are : (number : ℕ) (parcels : List Parcel) → AreLines (sent_lines number parcels)
sent-are number [] = no-lines
sent-are number (parcel ∷ parcels) = more-lines (sent_line number parcel) (sent_lines (suc number) parcels) (sent-line number parcel) (sent-are (suc number) parcels)

at-lines : (event line : ℕ) → AreLines (at_line event line)
at-lines event line =
    one-line (codes "at") _ (word (codes "at") refl refl refl)
    (part (decimal event) _ (decimal-within event) (space _ (part (decimal line) (codes "\n") (decimal-within line) feed)))

event-are : (setup : Setup) (traced : Bool) (event line : ℕ) (me : NodeId) (signs : List Sign) (number : ℕ) (parcels : List Parcel) → AreLines (event_lines setup traced event line me signs number parcels)
event-are setup traced event line me signs number parcels =
    more-lines (if_traced traced (at_line event line)) _ (lines-if traced (at_line event line) (at-lines event line))
    (more-lines (sign_lines setup traced me signs) (if_traced traced (sent_lines number parcels)) (signs-are setup traced me signs) (lines-if traced (sent_lines number parcels) (sent-are number parcels)))

forged-are : (line : ℕ) → AreLines (forged_line line)
forged-are line = one-line (codes "forged") _ (word (codes "forged") refl refl refl) (part (decimal line) (codes "\n") (decimal-within line) feed)

limit-are : (line : ℕ) → AreLines (limit_line line)
limit-are line = one-line (codes "limit") _ (word (codes "limit") refl refl refl) (part (decimal line) (codes "\n") (decimal-within line) feed)

transactions-are : (txs : List Transaction) → AreLines (transaction_lines txs)
transactions-are [] = no-lines
transactions-are (tx ∷ more) = line-then (codes "tx") (bytes_text tx.digest) (transaction_lines more) (word (codes "tx") refl refl refl) (bytes-within tx.digest) (transactions-are more)

history-are : (txs : List Transaction) → AreLines (history_text txs)
history-are txs = line-then (codes "history") (decimal (length txs)) (transaction_lines txs) (word (codes "history") refl refl refl) (decimal-within (length txs)) (transactions-are txs)

-- ---- what is played

abbrev Prints : {M : Type 0} → Course M → Type 0
Prints {M} course = AreLines (played_by course).text

then-prints : {M : Type 0} (course : Course M) (next : Played M → Course M) → Prints course → ((p : Played M) → AreLines p.text → Prints (next p)) → Prints (then_plays course next)
then-prints {M} (Goes p) next first later = later p first
then-prints {M} (Stops p line) next first later = first
then-prints {M} (Forges p line) next first later = first

drained-none : {M : Type 0} (site : Site M) (traced : Bool) (line : ℕ) (p : Played M) → drained site traced line zero p ≡ Goes p
unfolding drained
drained-none site traced line p = refl

drained-more : {M : Type 0} (site : Site M) (traced : Bool) (line times : ℕ) (p : Played M) → drained site traced line (suc times) p ≡ drains site traced line (drained site traced line times) (first_left 0 p.parcels) p
unfolding drained
drained-more site traced line times p = refl

module _ {M : Type 0} (site : Site M) (traced : Bool) where
  plays-prints : (line : ℕ) (i : NodeId) (input : Input) (p : Played M) → AreLines p.text → AreLines (plays site traced line i input p).text
  plays-prints line i input p are =
      let world = happens site i input p.world in
      let signs = signs_of_last world in
      let sent = parcels_of site.net i signs in
      more-lines p.text (event_lines site.setup traced (length p.world) line i signs (length p.parcels) sent) are
      (event-are site.setup traced (length p.world) line i signs (length p.parcels) sent)

  occurs-prints : (line : ℕ) (i : NodeId) (input : Input) (p : Played M) → AreLines p.text → Prints (occurs site traced line i input p)
  occurs-prints line i input p are = by (nat_lt (length p.world) most_events) (nat_le (size_of (plays site traced line i input p).parcels) most_sent)
    where
      by : (b c : Bool) → Prints (if b then (if c then Goes (plays site traced line i input p) else Stops p line) else Stops p line)
      by true true = plays-prints line i input p are
      by true false = are
      by false c = are

  injects-prints : (line : ℕ) (to : NodeId) (bytes : Bytes) (p : Played M) → AreLines p.text → Prints (injects site traced line to bytes p)
  injects-prints line to bytes p are =
      by (nat_lt (length p.world) most_events) (is_genuine site.net to bytes p.parcels) (nat_le (size_of (plays site traced line to (Datagram bytes) p).parcels) most_sent)
    where
      by : (b c d : Bool) → Prints (if b then (if c then (if d then Goes (plays site traced line to (Datagram bytes) p) else Stops p line) else Forges p line) else Stops p line)
      by true true true = plays-prints line to (Datagram bytes) p are
      by true true false = are
      by true false d = are
      by false c d = are

  comes-prints : (line : ℕ) (parcel : Parcel) (p : Played M) → AreLines p.text → Prints (comes site traced line parcel p)
  comes-prints line parcel p are = by (site.net.is_honest parcel.to)
    where
      by : (b : Bool) → Prints (if b then occurs site traced line parcel.to (Datagram parcel.bytes) p else Goes p)
      by true = occurs-prints line parcel.to (Datagram parcel.bytes) p are
      by false = are

  delivers-prints : (line number : ℕ) (found : Option Parcel) (p : Played M) → AreLines p.text → Prints (delivers site traced line number found p)
  delivers-prints line number None p are = are
  delivers-prints line number (Some parcel) p are = comes-prints line parcel (with_arrived number parcel p) are

  drains-prints : (line : ℕ) (later : Played M → Course M) → ((p : Played M) → AreLines p.text → Prints (later p)) → (found : Option ℕ) (p : Played M) → AreLines p.text → Prints (drains site traced line later found p)
  drains-prints line later prints None p are = are
  drains-prints line later prints (Some number) p are =
      then-prints (delivers site traced line number (slice_get p.parcels number) p) later (delivers-prints line number (slice_get p.parcels number) p are) prints

  drained-prints : (line times : ℕ) (p : Played M) → AreLines p.text → Prints (drained site traced line times p)
  drained-prints line zero p are = subst (λ (course : Course M). Prints course) (sym (drained-none site traced line p)) are
  drained-prints line (suc times) p are =
      subst (λ (course : Course M). Prints course) (sym (drained-more site traced line times p))
      (drains-prints line (drained site traced line times) (drained-prints line times) (first_left 0 p.parcels) p are)

  play-prints : (line : ℕ) (event : Event) (p : Played M) → AreLines p.text → Prints (play site traced line event p)
  play-prints line (Say from to kind body) p = occurs-prints line to (Datagram (site.net.datagram from to kind body)) p
  play-prints line (Inject to bytes) p = injects-prints line to bytes p
  play-prints line (Deliver number) p = delivers-prints line number (slice_get p.parcels number) p
  play-prints line (Tick node) p = occurs-prints line node Given.Tick p
  play-prints line (Drain times) p = drained-prints line times p

  all-prints : (events : List (ℕ × Event)) (p : Played M) → AreLines p.text → Prints (play_all site traced events p)
  all-prints [] p are = are
  all-prints (e ∷ events) p are = then-prints (play site traced e.0 e.1 p) (play_all site traced events) (play-prints e.0 e.1 p are) (all-prints events)

  closing-prints : (course : Course M) → Prints course → AreLines (closing_text site course)
  closing-prints (Goes p) are = more-lines p.text (history_text (recorded_history site p.world)) are (history-are (recorded_history site p.world))
  closing-prints (Stops p line) are = more-lines p.text (limit_line line) are (limit-are line)
  closing-prints (Forges p line) are = more-lines p.text (forged_line line) are (forged-are line)

  -- all that is printed of a schedule's events
  pub lines-print : (events : List (ℕ × Event)) → AreLines (lines site traced events)
  unfolding lines
  lines-print events = closing-prints (play_all site traced events unplayed) (all-prints events unplayed no-lines)

  -- so what is read of a dump alone is read of all that is printed
  pub yes-behind : (events : List (ℕ × Event)) (limit : ℕ) (approves : Tx → Bool) (contracts digests : List Bytes) (text : Bytes) → DumpIsReadBehind limit → IsYes limit approves contracts digests text
      → length (lines site traced events ++ text) ≤ limit → IsYes limit approves contracts digests (lines site traced events ++ text)
  yes-behind events limit approves contracts digests text behind alone short =
      let printed = lines-print events in
      let short' : length (text_of_lines printed.each_one ++ text) ≤ limit = subst (λ (t : List ℕ). length (t ++ text) ≤ limit) printed.is short in
      record {
        dump = alone.dump;
        read = ap (λ (t : List ℕ). dump_of limit (t ++ text)) printed.is ∙ behind printed.each_one text alone.dump printed.none short' alone.read;
        contracts_are = alone.contracts_are;
        verdict = alone.verdict;
      }
