use Rattle.std.proofs.Common.{◌≡◌, ◌++◌, [], ◌∷◌, rules}
use Rattle.cs_journal.specs.Records.{record_bytes, input_in}
use Rattle.cs_journal.proofs.Calls.{holds_same}
use Rattle.cs_journal.proofs.Crashes.{before_first, after_first, after_second, kept_more}
use Rattle.cs_journal.proofs.journal.Journal.commit.Goals as goal

pub returns-in_err-record-clause-crash : goal.returns-in_err-record-clause-crash
returns-in_err-record-clause-crash g c = λ id inputs kept.
    let input = input_in c.args.given in
    before_first g.D.Disk.content g.D.Disk.may_leave g.D.Disk.moment g.D.Disk.left_since id inputs input c.requires.fits c.args.self (record_bytes input ++ 0 ∷ []) (λ i. record_bytes input ++ 0 ∷ []) c.args.disk.now kept
    (g.met.D.Disk.only_now c.args.disk.now)

pub returns-in_err-write_through-clause-crash : goal.returns-in_err-write_through-clause-crash
returns-in_err-write_through-clause-crash g c = λ id inputs kept.
    let input = input_in c.args.given in
    let bytes = c.deref.result.now in
    let is : bytes ≡ record_bytes input ++ 0 ∷ [] = search rules in
    after_first g.D.Disk.content g.D.Disk.may_leave g.D.Disk.moment g.D.Disk.left_since id inputs input c.requires.fits c.args.self bytes is c.args.disk.now kept c.write_through.new.disk c.write_through.ensures.crash

pub returns-in_err-write_through-2-clause-crash : goal.returns-in_err-write_through-2-clause-crash
returns-in_err-write_through-2-clause-crash g c = λ id inputs kept.
    let input = input_in c.args.given in
    let bytes = c.deref.result.now in
    let is : bytes ≡ record_bytes input ++ 0 ∷ [] = search rules in
    after_second g.D.Disk.content g.D.Disk.may_leave g.D.Disk.moment g.D.Disk.left_since id inputs input c.requires.fits c.args.self bytes is c.args.disk.now kept c.write_through.new.disk c.write_through-2.new.disk c.write_through.ensures.crash
    c.in_ok-write_through.ensures.written c.in_ok-write_through.ensures.durable c.write_through-2.ensures.crash

pub returns-clause-crash : goal.returns-clause-crash
returns-clause-crash g c = λ id inputs kept.
    let input = input_in c.args.given in
    let bytes = c.deref.result.now in
    let is : bytes ≡ record_bytes input ++ 0 ∷ [] = search rules in
    after_second g.D.Disk.content g.D.Disk.may_leave g.D.Disk.moment g.D.Disk.left_since id inputs input c.requires.fits c.args.self bytes is c.args.disk.now kept c.write_through.new.disk c.write_through-2.new.disk c.write_through.ensures.crash
    c.in_ok-write_through.ensures.written c.in_ok-write_through.ensures.durable c.write_through-2.ensures.crash

pub returns-clause-kept : goal.returns-clause-kept
returns-clause-kept g c = λ id inputs kept.
    let input = input_in c.args.given in
    let bytes = c.deref.result.now in
    let is : bytes ≡ record_bytes input ++ 0 ∷ [] = search rules in
    kept_more g.D.Disk.content g.D.Disk.may_leave g.D.Disk.moment g.D.Disk.left_since id inputs input c.requires.fits c.args.self bytes is c.args.disk.now kept c.write_through.new.disk c.write_through-2.new.disk _
    c.in_ok-write_through.ensures.written c.in_ok-write_through-2.ensures.written c.in_ok-write_through-2.ensures.durable (search rules)

pub returns-clause-place : goal.returns-clause-place
returns-clause-place g c =
    let longer = c.in_ok-write_through-2.ensures.no_shorter _ c.in_ok-write_through.ensures.holds in
    holds_same (g.D.Disk.content c.write_through-2.new.disk) _ _ (search rules) longer
