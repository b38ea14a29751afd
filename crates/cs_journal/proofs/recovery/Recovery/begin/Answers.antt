use Rattle.std.proofs.Common.{◌≡◌, length, take, drop, Some, refl, sym, subst, ◌∙◌, arith}
use Rattle.cs_journal.specs.Journal.{head}
use Rattle.cs_journal.proofs.Calls.{untouched_both}
use Rattle.cs_journal.proofs.Parts.{texts_differ, texts_same}
use Rattle.cs_journal.proofs.Gates.{too_short, other_head, head_read}
use Rattle.cs_journal.proofs.recovery.Recovery.begin.Goals as goal

pub returns-then-length-lt37-clause-begins : goal.returns-then-length-lt37-clause-begins
returns-then-length-lt37-clause-begins g c = λ file told.
    let size : length c.args.id.now ≡ 32 = omega arith in
    let whole : c.in_ok-length.length ≡ length file = c.in_ok-length.ensures.length file (c.keep.ensures.untouched.same ∙ told) in
    too_short c.args.id.now file size (omega arith)

pub returns-then-length-lt37-clause-untouched : goal.returns-then-length-lt37-clause-untouched
returns-then-length-lt37-clause-untouched g c =
    untouched_both g.D.Disk.content g.D.Disk.may_leave g.D.Disk.moment g.D.Disk.left_since g.met.D.Disk.only_now c.args.disk.now c.keep.new.disk c.measure.new.disk c.keep.ensures.untouched c.measure.ensures.untouched

pub returns-in_err-length-clause-untouched : goal.returns-in_err-length-clause-untouched
returns-in_err-length-clause-untouched g c =
    untouched_both g.D.Disk.content g.D.Disk.may_leave g.D.Disk.moment g.D.Disk.left_since g.met.D.Disk.only_now c.args.disk.now c.keep.new.disk c.measure.new.disk c.keep.ensures.untouched c.measure.ensures.untouched

pub returns-clause-untouched : goal.returns-clause-untouched
returns-clause-untouched g c =
    let two = untouched_both g.D.Disk.content g.D.Disk.may_leave g.D.Disk.moment g.D.Disk.left_since g.met.D.Disk.only_now c.args.disk.now c.keep.new.disk c.measure.new.disk c.keep.ensures.untouched c.measure.ensures.untouched in
    untouched_both g.D.Disk.content g.D.Disk.may_leave g.D.Disk.moment g.D.Disk.left_since g.met.D.Disk.only_now c.args.disk.now c.measure.new.disk c.read.new.disk two c.read.ensures.untouched

pub returns-then-ne-clause-begins : goal.returns-then-ne-clause-begins
returns-then-ne-clause-begins g c = λ file told.
    let size : length c.args.id.now ≡ 32 = omega arith in
    let long : length c.read.new.buf ≡ 36 = omega arith in
    let told_then : g.D.Disk.content c.measure.new.disk ≡ Some file = c.measure.ensures.untouched.same ∙ c.keep.ensures.untouched.same ∙ told in
    let read : c.read.new.buf ≡ take 36 (drop 0 file) = subst (λ n. c.read.new.buf ≡ take n (drop 0 file)) long (c.in_ok-read.ensures.bytes file told_then) in
    let is_head : c.as_slice-2.result.now ≡ head c.args.id.now = c.as_slice-2.ensures.value ∙ c.into_bytes-head.ensures ∙ c.in_ok-head_of.ensures in
    other_head c.args.id.now file c.read.new.buf size read (λ same. texts_differ c.as_slice.result.now c.as_slice-2.result.now c.ne.result c.ne.ensures c.if-ne.true (c.as_slice.ensures ∙ same ∙ sym is_head))

pub returns-clause-begins : goal.returns-clause-begins
returns-clause-begins g c = λ file told.
    let size : length c.args.id.now ≡ 32 = omega arith in
    let long : length c.read.new.buf ≡ 36 = omega arith in
    let told_now : g.D.Disk.content c.keep.new.disk ≡ Some file = c.keep.ensures.untouched.same ∙ told in
    let told_then : g.D.Disk.content c.measure.new.disk ≡ Some file = c.measure.ensures.untouched.same ∙ told_now in
    let read : c.read.new.buf ≡ take 36 (drop 0 file) = subst (λ n. c.read.new.buf ≡ take n (drop 0 file)) long (c.in_ok-read.ensures.bytes file told_then) in
    let is_head : c.as_slice-2.result.now ≡ head c.args.id.now = c.as_slice-2.ensures.value ∙ c.into_bytes-head.ensures ∙ c.in_ok-head_of.ensures in
    let same = texts_same c.as_slice.result.now c.as_slice-2.result.now c.ne.result c.ne.ensures c.if-ne.false in
    head_read c.args.id.now file c.read.new.buf _ size read (sym c.as_slice.ensures ∙ same ∙ is_head) refl (c.in_ok-length.ensures.length file told_now)
