use Rattle.std.proofs.Common.{◌≡◌, ◌∙◌, ◌<◌, ◌≤◌, Bool, List, [], Some, true, false, map, length, get_or, take, ap, sym, subst, rules}
use Rattle.std.proofs.lemmas.Bool.{true≢false}
use Rattle.cs_tx_types.specs.declared.session.Session.{Session}
use Rattle.cs_tx.specs.Sessions.{item_of}
use Rattle.cs_table.specs.Genesis.{keyed_of}
use Rattle.cs_ledger.specs.Ledger.{Bytes, genesis_ledger}
use Rattle.cs_node_pool.specs.Deployed.{deployed_setup}
use Rattle.cs_audit_dump.specs.declared.dump.Log.{Log}
use Rattle.cs_audit_rules.specs.History.{history_fault_at, committed}
use Rattle.cs_audit.specs.Ledgers.{ShowsLedger}
use Rattle.cs_audit.specs.Committed.{FindsTransactions, LedgerGoesOn}
use Rattle.cs_sbac.proofs.Fit.{keyed-fit, all-fit}
use Rattle.cs_sbac.proofs.Begun.{items-same}
use Rattle.cs_audit.proofs.Untold.{begins, told_on, told_off, ends_whole-so, ends_short, nothing-in}
use Rattle.cs_audit.proofs.history.first_untold.Goals as goal

pub genesis-requires : goal.genesis-requires
genesis-requires c = all-fit c.args.genesis.now (keyed-fit c.args.dump.now.genesis c.args.genesis.now c.requires.genesis c.requires.formed.objects)

pub loop-place-init : goal.loop-place-init
loop-place-init c approves none keeps =
    begins approves c.args.dump.now c.in_ok-found.found.entries c.in_ok-ledger.ledger (c.in_ok-found.ensures approves keeps)
    (subst (λ xs. ShowsLedger c.in_ok-ledger.ledger (genesis_ledger xs)) (ap (λ xs. map item_of (keyed_of xs)) c.requires.genesis ∙ items-same 0 c.args.dump.now.genesis) c.in_ok-ledger.ensures)

pub loop-place-preserved : goal.loop-place-preserved
loop-place-preserved c approves none keeps =
    let dump = c.args.dump.now in
    let place = c.loop-place.place in
    let items : List Bytes = c.as_slice-digest-items.result.now in
    let d : Bytes = get_or items place [] in
    let so_far = c.loop-place.invariant approves none keeps in
    let sessions : List Session = committed (deployed_setup dump.config dump.genesis approves) dump.logs in
    let less : place < length dump.history = subst (λ (xs : List Bytes). place < length xs) c.as_slice-digest-items.ensures c.loop-place-test.true in
    let is : d ≡ get_or dump.history place [] = ap (λ (xs : List Bytes). get_or xs place []) c.as_slice-digest-items.ensures in
    let T : List Log × Bool → Type 0 = λ x. LedgerGoesOn x.0 approves sessions so_far.plain (take place dump.history) d c.tell.new.found.entries c.tell.new.ledger x.1 in
    let on = subst T (λ i. (c.as_slice.ensures i, c.if-not-branch.false i))
    (c.in_ok-tell.ensures approves sessions so_far.plain (take place dump.history)
    (subst (λ (logs : List Log). FindsTransactions logs c.loop-place.found.entries sessions (take place dump.history)) (sym c.as_slice.ensures) so_far.finds) so_far.shows) in
    told_on approves dump none place d c.loop-place.found.entries c.tell.new.found.entries c.loop-place.ledger c.tell.new.ledger so_far less is on

pub returns-then-not-branch : goal.returns-then-not-branch
returns-then-not-branch c approves none keeps =
    let dump = c.args.dump.now in
    let place = c.loop-place.place in
    let items : List Bytes = c.as_slice-digest-items.result.now in
    let d : Bytes = get_or items place [] in
    let so_far = c.loop-place.invariant approves none keeps in
    let sessions : List Session = committed (deployed_setup dump.config dump.genesis approves) dump.logs in
    let less : place < length dump.history = subst (λ (xs : List Bytes). place < length xs) c.as_slice-digest-items.ensures c.loop-place-test.true in
    let is : d ≡ get_or dump.history place [] = ap (λ (xs : List Bytes). get_or xs place []) c.as_slice-digest-items.ensures in
    let T : List Log × Bool → Type 0 = λ x. LedgerGoesOn x.0 approves sessions so_far.plain (take place dump.history) d c.tell.new.found.entries c.tell.new.ledger x.1 in
    let off = subst T (λ i. (c.as_slice.ensures i, c.if-not-branch.true i))
    (c.in_ok-tell.ensures approves sessions so_far.plain (take place dump.history)
    (subst (λ (logs : List Log). FindsTransactions logs c.loop-place.found.entries sessions (take place dump.history)) (sym c.as_slice.ensures) so_far.finds) so_far.shows) in
    ap (λ fault. Some fault) c.fault.ensures ∙ told_off approves dump none place d c.loop-place.found.entries c.loop-place.ledger so_far less is off

pub returns-then-not-is_empty : goal.returns-then-not-is_empty
returns-then-not-is_empty c approves none keeps =
    let dump = c.args.dump.now in
    let over : length dump.history ≤ c.loop-place.place = subst (λ (xs : List Bytes). length xs ≤ c.loop-place.place) c.as_slice-digest-items.ensures c.loop-place-test.false in
    let full : c.is_empty.result ≡ false = search rules in
    ap (λ fault. Some fault) c.fault-then-not-is_empty.ensures ∙ ap (λ n. Some (history_fault_at n)) c.len.ensures
    ∙ ends_short approves dump c.loop-place.place c.loop-place.found.entries c.loop-place.ledger (c.loop-place.invariant approves none keeps) over (λ empty. true≢false (sym (c.is_empty.ensures.1 (ap length empty)) ∙ full))

pub returns : goal.returns
returns c approves none keeps =
    let dump = c.args.dump.now in
    let over : length dump.history ≤ c.loop-place.place = subst (λ (xs : List Bytes). length xs ≤ c.loop-place.place) c.as_slice-digest-items.ensures c.loop-place-test.false in
    let bare : c.is_empty.result ≡ true = search rules in
    ends_whole-so approves dump c.loop-place.place c.loop-place.found.entries c.loop-place.ledger (c.loop-place.invariant approves none keeps) over (nothing-in c.loop-place.found.entries (c.is_empty.ensures.0 bare))
